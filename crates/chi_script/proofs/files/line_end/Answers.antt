use Rattle.chi_script.proofs.LineLemmas.{found_first}
use Rattle.chi_script.proofs.files.line_end.Goals as goal

pub returns : goal.returns
returns c = found_first 10 c.args.bytes.now c.memchr.result c.memchr.ensures
