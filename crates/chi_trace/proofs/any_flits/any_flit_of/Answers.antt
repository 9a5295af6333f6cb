use Rattle.std.proofs.Common.{ap, sym}
use Rattle.chi_trace.specs.AnyFlits.{any_flit_from}
use Rattle.chi_trace.proofs.ColumnLemmas.{none_first}
use Rattle.chi_trace.proofs.any_flits.any_flit_of.Goals as goal

pub returns-then-is_empty : goal.returns-then-is_empty
returns-then-is_empty c = ap (any_flit_from c.args.form c.args.number) (none_first c.args.line.now c.next_word-first.result.text.now c.next_word-first.ensures.text (sym c.if-is_empty.ensures))
