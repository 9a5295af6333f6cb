use Rattle.std.proofs.Common.{◌≡◌, true, false}
use Rattle.std.proofs.Math.Path.{fun_ext}
use Rattle.std.specs.Cmp.{nat_eq_equiv}
use Rattle.indexmap.proofs.CallerLemmas.{updates-with_value_at}
use Rattle.chi_transactions.specs.Maps.{entry_in, put}
use Rattle.std.proofs.lemmas.Option.{slice_get_within}
use Rattle.chi_transactions.proofs.maps.put_slot.Goals as goal

pub returns-in-Some : goal.returns-in-Some
unfolding entry_in put
returns-in-Some g c = fun_ext (updates-with_value_at c.args.table.now c.args.slot.place c.args.value nat_eq_equiv c.in-Some.ensures.unique c.args.number c.args.slot.value c.requires).0

pub returns-in_default : goal.returns-in_default
returns-in_default g c = let none : false ≡ true = c.in_default.ensures.found.1 (slice_get_within c.args.table.now.entries c.args.slot.place (c.args.number, c.args.slot.value) c.requires) in cc
