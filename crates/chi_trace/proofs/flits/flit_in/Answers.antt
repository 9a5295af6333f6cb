use Rattle.std.proofs.Common.{ap, sym}
use Rattle.chi_trace.specs.Flits.{flit_from}
use Rattle.chi_trace.proofs.ColumnLemmas.{none_first}
use Rattle.chi_trace.proofs.flits.flit_in.Goals as goal

pub returns-then-is_empty : goal.returns-then-is_empty
returns-then-is_empty c = ap (flit_from c.args.number) (none_first c.args.line.now c.next_word-first.result.text.now c.next_word-first.ensures.text (sym c.if-is_empty.ensures))
