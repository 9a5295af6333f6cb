use Rattle.std.proofs.Common.{◌<◌, ◌∙◌, sym, ap, arith}
use Rattle.chi_lanes.proofs.LineLemmas.{text_of}
use Rattle.chi_lanes.specs.Numbers.{first_number, short_number}
use Rattle.chi_lanes.proofs.columns.Columns.next_number.Goals as goal

pub returns-in-Some-clause-first : goal.returns-in-Some-clause-first
returns-in-Some-clause-first c =
    let next = c.in-Some.next in
    let is = c.in-Some.ensures in
    let ordered : next.start < next.end = is.some in
    c.number_by.ensures
    ∙ (ap short_number (text_of c.self.inside.bytes.now c.self.inside.size next.start next.end (omega arith) is.within c.self.invariant.within)
    ∙ sym (ap first_number (sym c.self.view_is ∙ is.parted)))
