-- What was read is enough of the input's file.
use Rattle.std.proofs.Common.{◌≡◌}
use Rattle.chi_script.specs.Storms.{storm_of}
use Rattle.chi_script.proofs.StormLemmas.{front_enough}
use Rattle.chi_replay.proofs.Enough.{fault_of_known}
use Rattle.chi_storm.proofs.Known.{outcome_of_known}
use Rattle.chi_storm.proofs.storms.outcome_of_input.Goals as goal

pub returns-clause-ok : goal.returns-clause-ok
returns-clause-ok g c = outcome_of_known (g.I.Input.left c.args.input.now) c.in_ok-bytes.bytes.items c.args.seed c.args.turns c.outcome_in.result c.in_ok-bytes.ensures.front (rw (← c.deref.ensures.value) c.outcome_in.ensures.ok)

pub returns-clause-err : goal.returns-clause-err
returns-clause-err g c = fault_of_known storm_of front_enough (g.I.Input.left c.args.input.now) _ _ c.in_ok-bytes.bytes.items c.outcome_in.result c.in_ok-bytes.ensures.front (rw (← c.deref.ensures.value) c.outcome_in.ensures.err)
