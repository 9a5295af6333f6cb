-- One line after the other is tested.
use Rattle.std.proofs.Common.{ℕ, refl, arith}
use Rattle.chi_slice.specs.Loading.{IsKeptAt}
use Rattle.chi_slice.specs.Slice.{last_of, line, slice_with}
use Rattle.chi_line.specs.Kept.{Kept}
use Rattle.chi_slice.proofs.Below.{next_below, none_below}
use Rattle.chi_slice.proofs.Loadings.{lines_below}
use Rattle.chi_slice.proofs.loading.are_lines_kept.Goals as goal

pub loop-line-init : goal.loop-line-init
loop-line-init g c = none_below (IsKeptAt (slice_with c.args.config.now c.args.index c.args.lines.now c.args.journal.now))

pub loop-line-preserved : goal.loop-line-preserved
loop-line-preserved g c = next_below (IsKeptAt (slice_with c.args.config.now c.args.index c.args.lines.now c.args.journal.now)) c.loop-line.line c.loop-line.kept c.is_line_kept-kept.result _ c.loop-line.invariant c.is_line_kept-kept.ensures refl

pub returns : goal.returns
returns g c =
    let s = slice_with c.args.config.now c.args.index c.args.lines.now c.args.journal.now in
    lines_below s (λ (l : ℕ). Kept (last_of s l) (line s l)) c.loop-line.line c.loop-line.kept (omega (arith, c.loop-line-test.false, c.loop-line.auto.line-end, c.lines-count.ensures.value)) c.loop-line.invariant
