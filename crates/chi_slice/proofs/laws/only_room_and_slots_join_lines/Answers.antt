-- The law holds of the definitions.
use Rattle.chi_slice.proofs.Alike.{alike_refused, run_refused}
use Rattle.chi_slice.proofs.laws.only_room_and_slots_join_lines.Goals as goal

pub returns-clause-alike : goal.returns-clause-alike
returns-clause-alike c = alike_refused

pub returns-clause-run : goal.returns-clause-run
returns-clause-run c = run_refused
