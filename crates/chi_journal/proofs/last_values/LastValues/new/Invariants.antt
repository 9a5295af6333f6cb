use Rattle.std.proofs.Common.{◌≡◌, replicate}
use Rattle.chi_flit.specs.Message.{no_words}
use Rattle.chi_journal.proofs.last_values.LastValues.new.Given as goal

abbrev pub invariant-loop : goal.invariant-loop
invariant-loop g l = l.rows.items ≡ replicate l.counter no_words
