use Rattle.chi_observer.proofs.Alike.{alike}
use Rattle.chi_observer.proofs.prompt.prompt_flits.Goals as goal

pub returns : goal.returns
returns c = alike
