use Rattle.chi_script.proofs.StormLemmas.{front_enough}
use Rattle.chi_script.proofs.laws.storm_front_is_enough.Goals as goal

pub returns : goal.returns
returns c = front_enough
