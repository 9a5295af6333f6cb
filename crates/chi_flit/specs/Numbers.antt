-- The agent, the line, the slot, the word and the credit type of a number (docs/PROTOCOL.md, "Limits").
use Rattle.std.specs.Prelude.{ℕ, ◌==◌, Option, Some, None, if◌then◌else◌}
use Rattle.chi_flit.specs.declared.credit.CreditType.{CreditType}
use Rattle.chi_flit.specs.declared.credit.CreditType.TheVariants.{T0, T1, T2, T3}
use Rattle.chi_flit.specs.declared.numbers.Agent.{Agent}
use Rattle.chi_flit.specs.declared.numbers.Line.{Line}
use Rattle.chi_flit.specs.declared.numbers.Slot.{Slot}
use Rattle.chi_flit.specs.declared.numbers.WordNo.{WordNo}

abbrev pub agent_at : ℕ → Agent
agent_at n = record { 0 = n }

abbrev pub line_at : ℕ → Line
line_at n = record { 0 = n }

abbrev pub slot_at : ℕ → Slot
slot_at n = record { 0 = n }

abbrev pub word_at : ℕ → WordNo
word_at n = record { 0 = n }

-- above 3 there is none
abbrev pub credit_of : ℕ → Option CreditType
credit_of n =
    if n == 0 then Some T0 else (
    if n == 1 then Some T1 else (
    if n == 2 then Some T2 else (
    if n == 3 then Some T3 else None)))
