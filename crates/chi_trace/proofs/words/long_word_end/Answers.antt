use Rattle.chi_trace.proofs.WordLemmas.{found_blank}
use Rattle.chi_trace.proofs.words.long_word_end.Goals as goal

pub returns : goal.returns
returns c = found_blank c.args.text.now c.memchr3.result c.memchr3.ensures
