-- What is kept of a trace (docs/TRANSACTIONS.md, "Ids").
use Rattle.std.specs.Prelude.{ℕ, Option}
use Rattle.chi_transactions.specs.declared.entries.Begun.{Begun}
use Rattle.chi_transactions.specs.declared.entries.Credits.{Credits}
use Rattle.chi_transactions.specs.declared.entries.OpenId.{OpenId}
use Rattle.chi_transactions.specs.declared.entries.Options.{Options}
use Rattle.chi_transactions.specs.declared.entries.Place.{Place}
use Rattle.chi_transactions.specs.declared.entries.Waiting.{Waiting}
use Rattle.chi_transactions.specs.declared.transactions.Transactions.{Transactions}
use Rattle.chi_transactions.specs.Maps.{entry_in, waiting_in}

-- of each id, by its number, what is kept, if a flit has named it; what waits at each place; each account's credits; the data of
-- each id that lack words; and how many first attempts of each pair of nodes may be retried
pub record State : Type 0 where
  pub options : Options
  pub ids : ℕ → Option OpenId
  pub waiting : Place → Option Waiting
  pub credits : ℕ → Option Credits
  pub begun : ℕ → Option Begun
  pub attempts : ℕ → Option ℕ

abbrev pub state_of : {A : Type 0} → Transactions A → State
state_of t = record {
  options = t.options;
  ids = entry_in t.ids;
  waiting = waiting_in t.waiting;
  credits = entry_in t.credits;
  begun = entry_in t.begun;
  attempts = entry_in t.attempts;
}
