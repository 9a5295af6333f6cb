use Rattle.std.proofs.Common.{◌<◌, ◌∙◌, Some, sym, ap, arith}
use Rattle.std.specs.List.{slice_get}
use Rattle.chi_lanes.proofs.LineLemmas.{text_of}
use Rattle.chi_lanes.proofs.columns.Columns.next_column.Goals as goal

pub returns-in-Some-clause-first : goal.returns-in-Some-clause-first
returns-in-Some-clause-first c =
    let next = c.in-Some.next in
    let is = c.in-Some.ensures in
    let ordered : next.start < next.end = is.some in
    ap Some (text_of c.self.inside.bytes.now c.self.inside.size next.start next.end (omega arith) is.within c.self.invariant.within)
    ∙ sym (ap (λ columns. slice_get columns 0) (sym c.self.view_is ∙ is.parted))
