-- The index has at each line what the line shows, and that is the row that holds.
use Rattle.std.proofs.Common.{◌≡◌, rules, subst, sym}
use Rattle.chi_slice.specs.Index.{place_of}
use Rattle.chi_slice.specs.Slice.{SliceState, slice_with}
use Rattle.chi_slice.specs.Table.{IsByTable}
use Rattle.chi_slice.proofs.TableRows.{by_table}
use Rattle.chi_slice.proofs.slice.Slice.place.Goals as goal

pub returns-clause-table : goal.returns-clause-table
returns-clause-table g c = λ low at.
    let s : SliceState = slice_with c.self.inside.config c.self.inside.index c.self.inside.lines.items c.self.inside.journal in
    let found : c.get.result ≡ place_of c.self.inside.places c.args.agent.0 c.args.slot = search (rules, c.get.ensures) in
    subst (λ (v : SliceState). IsByTable v c.args.agent.0 c.args.slot c.get.result) c.self.view_is
    (subst (IsByTable s c.args.agent.0 c.args.slot) (sym found) (by_table s c.args.agent.0 c.args.slot (place_of c.self.inside.places c.args.agent.0 c.args.slot) c.self.invariant.0 low (c.self.invariant.1.shows c.args.agent.0 c.args.slot low at)))
