-- The line is read out of its row.
use Rattle.std.proofs.Common.{ℕ, ◌∙◌, ap, get_or}
use Rattle.chi_slice.specs.Slice.{SliceState, line, slice_with}
use Rattle.chi_slice.proofs.LineReads.{is_row, line_read}
use Rattle.chi_slice.proofs.slice.Slice.line.Goals as goal

pub returns-clause-line : goal.returns-clause-line
returns-clause-line g c =
    let s : SliceState = slice_with c.self.inside.config c.self.inside.index c.self.inside.lines.items c.self.inside.journal in
    line_read s c.args.line.0 c.in_ok-row.row c.self.invariant.0 (is_row s c.args.line.0 c.in_ok-row.row c.in_ok-row.ensures) (c.index.ensures ∙ ap (λ (n : ℕ). get_or s.lines n c.index.result.now) c.from.ensures)
    ∙ ap (λ (v : SliceState). line v c.args.line.0) c.self.view_is
