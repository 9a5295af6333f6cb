use Rattle.chi_script.proofs.CheckFileLemmas.{front_enough}
use Rattle.chi_script.proofs.laws.check_front_is_enough.Goals as goal

pub returns : goal.returns
returns c = front_enough
