-- The line is read out of its row.
use Rattle.std.proofs.Common.{ℕ, ◌<◌, ◌∙◌, ap, get_or, length, subst, sym}
use Rattle.chi_slice.specs.Loading.{lines_alone}
use Rattle.chi_slice.specs.Slice.{SliceState}
use Rattle.chi_slice.proofs.LineReads.{IsRow, is_row}
use Rattle.chi_slice.proofs.Loadings.{line_in, row_below}
use Rattle.chi_slice.proofs.loading.line_at.Goals as goal

pub bounds-lines-from : goal.bounds-lines-from
bounds-lines-from c =
    let s : SliceState = lines_alone c.args.config.now c.args.index c.args.lines.now in
    let row : IsRow s c.args.line.0 c.in-Some.row = is_row s c.args.line.0 c.in-Some.row c.in-Some.ensures in
    subst (λ (n : ℕ). n < length s.lines) (sym c.from.ensures) (row_below s c.args.line.0 c.in-Some.row c.requires row)

pub returns-in-Some-clause-line : goal.returns-in-Some-clause-line
returns-in-Some-clause-line c =
    let s : SliceState = lines_alone c.args.config.now c.args.index c.args.lines.now in
    let row : IsRow s c.args.line.0 c.in-Some.row = is_row s c.args.line.0 c.in-Some.row c.in-Some.ensures in
    line_in s c.args.line.0 c.in-Some.row c.requires row (c.index-lines-from.is ∙ ap (λ (n : ℕ). get_or s.lines n c.index-lines-from.result) c.from.ensures)
