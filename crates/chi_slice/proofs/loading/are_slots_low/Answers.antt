-- One line after the other is tested.
use Rattle.std.proofs.Common.{ℕ, refl, arith}
use Rattle.chi_slice.specs.Loading.{IsLowAt, lines_alone}
use Rattle.chi_line.specs.Keeping.{HasLowSlots}
use Rattle.chi_slice.specs.Slice.{line}
use Rattle.chi_slice.proofs.Below.{next_below, none_below}
use Rattle.chi_slice.proofs.Loadings.{lines_below}
use Rattle.chi_slice.proofs.loading.are_slots_low.Goals as goal

pub loop-line-init : goal.loop-line-init
loop-line-init c = none_below (IsLowAt (lines_alone c.args.config.now c.args.index c.args.lines.now))

pub loop-line-preserved : goal.loop-line-preserved
loop-line-preserved c = next_below (IsLowAt (lines_alone c.args.config.now c.args.index c.args.lines.now)) c.loop-line.line c.loop-line.low c.is_line_low-low.result _ c.loop-line.invariant c.is_line_low-low.ensures refl

pub returns : goal.returns
returns c =
    let s = lines_alone c.args.config.now c.args.index c.args.lines.now in
    lines_below s (λ (l : ℕ). HasLowSlots (line s l)) c.loop-line.line c.loop-line.low (omega (arith, c.loop-line-test.false, c.loop-line.auto.line-end, c.lines-count.ensures.value)) c.loop-line.invariant
