use Rattle.chi_script.proofs.LineLemmas.{found_first}
use Rattle.chi_trace.proofs.fields.comma.Goals as goal

pub returns : goal.returns
returns c = found_first 44 c.args.list.now c.memchr.result c.memchr.ensures
