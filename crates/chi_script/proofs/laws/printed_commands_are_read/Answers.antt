use Rattle.chi_script.proofs.CommandLemmas.{printed_again}
use Rattle.chi_script.proofs.laws.printed_commands_are_read.Goals as goal

pub returns : goal.returns
returns c = λ command is. printed_again command is.verb is.named is.fit
