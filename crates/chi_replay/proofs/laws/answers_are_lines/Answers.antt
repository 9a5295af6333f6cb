use Rattle.chi_replay.proofs.AnswerLines.{are_lines, one_each}
use Rattle.chi_replay.proofs.laws.answers_are_lines.Goals as goal

pub returns-clause-lines : goal.returns-clause-lines
returns-clause-lines c = are_lines

pub returns-clause-one_each : goal.returns-clause-one_each
returns-clause-one_each c = one_each
