use Rattle.chi_trace.proofs.WordLemmas.{from_first}
use Rattle.chi_trace.proofs.words.from_word.Goals as goal

pub returns-clause-same : goal.returns-clause-same
returns-clause-same c = rw c.unwrap_or-start.ensures (from_first c.args.line.now c.word_start.result c.word_start.ensures).0

pub returns-clause-first : goal.returns-clause-first
returns-clause-first c = rw c.unwrap_or-start.ensures (from_first c.args.line.now c.word_start.result c.word_start.ensures).1
