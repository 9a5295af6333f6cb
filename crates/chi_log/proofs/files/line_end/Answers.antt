use Rattle.chi_log.proofs.LineEndLemmas.{found_first}
use Rattle.chi_log.proofs.files.line_end.Goals as goal

pub returns : goal.returns
returns c = found_first 10 c.args.bytes.now c.memchr.result c.memchr.ensures
