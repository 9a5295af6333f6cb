-- What is outstanding, as it is told of (docs/OBSERVER.md, "What is told to be open").
use Rattle.std.specs.Prelude.{ℕ, ◌%◌}
use Rattle.chi_issue_b.specs.Ids.{line_at}
use Rattle.chi_issue_b.specs.declared.ids.CacheLine.{CacheLine}
use Rattle.chi_issue_b.specs.declared.ids.NodeId.{NodeId}
use Rattle.chi_transactions.specs.declared.entries.Credits.{Credits}
use Rattle.chi_transactions.specs.declared.entries.OpenId.{OpenId}
use Rattle.chi_transactions.specs.declared.entries.Place.{Place}
use Rattle.chi_transactions.specs.declared.entries.Waiting.{Waiting}
use Rattle.chi_transactions.specs.declared.ids.Id.{Id}
use Rattle.chi_transactions.specs.declared.outstanding.Account.{Account}
use Rattle.chi_transactions.specs.Ids.{home_in, id_numbered, node_in}

abbrev pub account_numbered : ℕ → Account
account_numbered number = record { requester = node_in number; home = home_in number; credit = record { 0 = number % 256 } }

-- rows of the tables
abbrev pub id_row : ℕ × OpenId → Id × OpenId
id_row row = (id_numbered row.0, row.1)

abbrev pub account_row : ℕ × Credits → Account × Credits
account_row row = (account_numbered row.0, row.1)

abbrev pub waiting_row : Place × Waiting → NodeId × CacheLine × Waiting
waiting_row row = (record { 0 = row.0.requester }, line_at row.0.line, row.1)
