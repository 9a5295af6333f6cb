use Rattle.chi_script.proofs.ReplayLemmas.{file_replayed}
use Rattle.chi_script.proofs.laws.replays_are_check_files.Goals as goal

pub returns : goal.returns
returns c = λ file script e. file_replayed script.0 script.1 file e
