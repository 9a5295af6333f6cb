-- The first flit that awaits the id is the one at its place.
use Rattle.std.proofs.Common.{sym, ◌∙◌}
use Rattle.chi_watch.specs.Held.{held_in}
use Rattle.chi_watch.proofs.HeldLemmas.{joined_found, joined_none}
use Rattle.chi_watch.proofs.held.Held.join.Goals as goal

pub returns-in-Some : goal.returns-in-Some
returns-in-Some g c = c.join_at.ensures ∙ joined_found c.args.id c.args.beat.now c.args.number c.args.is_last (held_in c.args.self.now) c.in-Some.place (sym c.place_of.ensures ∙ c.in-Some.is)

pub returns-in_default : goal.returns-in_default
returns-in_default g c = joined_none c.args.id c.args.beat.now c.args.number c.args.is_last (held_in c.args.self.now) (sym c.place_of.ensures ∙ c.in_default.is)
