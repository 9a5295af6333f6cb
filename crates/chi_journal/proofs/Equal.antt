-- Two lists of records are equal, as `==` finds it, exactly where they are the same.
use Rattle.std.proofs.Common.{rules, arith, ◌≡◌, ℕ, List, nat_eq}
use Rattle.std.specs.Bool.{Decides}
use Rattle.std.specs.Cmp.Lexicographic.{pointwise, pointwise_decides, bytes_decides}
use Rattle.chi_flit.specs.declared.numbers.Agent.{Agent}
use Rattle.chi_flit.specs.declared.numbers.Line.{Line}
use Rattle.chi_flit.specs.declared.numbers.WordNo.{WordNo}
use Rattle.chi_flit.specs.contracts.numbers.AgentPartialEq.TheImpl as agents
use Rattle.chi_flit.specs.contracts.numbers.LinePartialEq.TheImpl as lines
use Rattle.chi_flit.specs.contracts.numbers.WordNoPartialEq.TheImpl as word_numbers
use Rattle.chi_journal.specs.declared.record.Record.{Record}
use Rattle.chi_journal.specs.contracts.record.RecordPartialEq.TheImpl as entries
use Rattle.chi_journal.specs.declared.totals.JournalTotals.{JournalTotals}
use Rattle.chi_journal.specs.contracts.totals.JournalTotalsPartialEq.TheImpl as counts

agent : (a b : Agent) → Decides (agents.eq-value.it a b) (a ≡ b)
agent a b = search (rules, arith)

line : (a b : Line) → Decides (lines.eq-value.it a b) (a ≡ b)
line a b = search (rules, arith)

word : (a b : WordNo) → Decides (word_numbers.eq-value.it a b) (a ≡ b)
word a b = search (rules, arith)

entry : (a b : Record) → Decides (entries.eq-value.it a b) (a ≡ b)
entry a b = search (rules, arith, agent, line, word)

pub all_entries : (a b : List Record) → Decides (pointwise entries.eq-value.it a b) (a ≡ b)
all_entries = pointwise_decides entry

pub totals : (a b : JournalTotals) → Decides (counts.eq-value.it a b) (a ≡ b)
totals a b = search (rules, arith)

words : (a b : List ℕ) → Decides (pointwise nat_eq a b) (a ≡ b)
words = bytes_decides

pub all_rows : (a b : List (List ℕ)) → Decides (pointwise (pointwise nat_eq) a b) (a ≡ b)
all_rows = pointwise_decides words
