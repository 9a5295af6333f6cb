use Rattle.chi_copies.proofs.Prompt.{begins, taken, stays}
use Rattle.chi_copies.proofs.PromptGiven.{given_stays}
use Rattle.chi_copies.proofs.PromptSafe.{given_safe}
use Rattle.chi_copies.proofs.PromptLogs.{logs_taken}
use Rattle.chi_copies.proofs.laws.prompt.Goals as goal

pub returns-clause-begins : goal.returns-clause-begins
returns-clause-begins c = begins

pub returns-clause-taken : goal.returns-clause-taken
returns-clause-taken c = taken

pub returns-clause-stays : goal.returns-clause-stays
returns-clause-stays c = stays

pub returns-clause-given : goal.returns-clause-given
returns-clause-given c = given_stays

pub returns-clause-safe : goal.returns-clause-safe
returns-clause-safe c = given_safe

pub returns-clause-logs : goal.returns-clause-logs
returns-clause-logs c = logs_taken
