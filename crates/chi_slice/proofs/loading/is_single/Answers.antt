-- One line after the other is tested.
use Rattle.std.proofs.Common.{ℕ, refl, arith}
use Rattle.chi_slice.specs.Loading.{IsShownAt, lines_alone}
use Rattle.chi_line.specs.Places.{position_at}
use Rattle.chi_slice.specs.Index.{at_line}
use Rattle.chi_slice.specs.Slice.{line}
use Rattle.std.proofs.Common.{◌≡◌}
use Rattle.chi_slice.proofs.Below.{next_below, none_below}
use Rattle.chi_slice.proofs.Loadings.{lines_below}
use Rattle.chi_slice.proofs.loading.is_single.Goals as goal

pub loop-line-init : goal.loop-line-init
loop-line-init c = none_below (IsShownAt (lines_alone c.args.config.now c.args.index c.args.lines.now) c.args.agent.0 c.args.slot c.args.place)

pub loop-line-preserved : goal.loop-line-preserved
loop-line-preserved c = next_below (IsShownAt (lines_alone c.args.config.now c.args.index c.args.lines.now) c.args.agent.0 c.args.slot c.args.place) c.loop-line.line c.loop-line.shown c.is_shown_at-shown.result _ c.loop-line.invariant c.is_shown_at-shown.ensures refl

pub returns : goal.returns
returns c =
    let s = lines_alone c.args.config.now c.args.index c.args.lines.now in
    lines_below s (λ (l : ℕ). position_at (line s l) c.args.agent.0 c.args.slot ≡ at_line c.args.place l) c.loop-line.line c.loop-line.shown (omega (arith, c.loop-line-test.false, c.loop-line.auto.line-end, c.lines-count.ensures.value)) c.loop-line.invariant
