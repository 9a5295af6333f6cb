use Rattle.chi_script.proofs.FileLemmas.{front_enough}
use Rattle.chi_script.proofs.laws.replay_front_is_enough.Goals as goal

pub returns : goal.returns
returns c = front_enough
