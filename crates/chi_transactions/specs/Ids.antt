-- Ids, and the number of each (docs/TRANSACTIONS.md, "Ids").
use Rattle.std.specs.Prelude.{ℕ, ◌+◌, ◌*◌, ◌/◌, ◌%◌, ◌==◌, if◌then◌else◌}
use Rattle.chi_issue_b.specs.declared.ids.DbId.{DbId}
use Rattle.chi_issue_b.specs.declared.ids.NodeId.{NodeId}
use Rattle.chi_issue_b.specs.declared.ids.TxnId.{TxnId}
use Rattle.chi_transactions.specs.declared.ids.Id.{Id}
use Rattle.chi_transactions.specs.declared.ids.Id.TheVariants.{Request, Snoop, Buffer}

unfoldable pub packed : ℕ → ℕ → ℕ → ℕ → ℕ
packed sort node home id = ((sort * 65536 + node) * 65536 + home) * 65536 + id

unfoldable pub number_of : Id → ℕ
number_of (Request requester txn) = packed 0 requester.0 0 txn.0
number_of (Snoop node home txn) = packed 1 node.0 home.0 txn.0
number_of (Buffer requester home dbid) = packed 2 requester.0 home.0 dbid.0

-- the id of a number, by its fields of sixteen bits from the lowest
abbrev pub last_field : ℕ → ℕ
last_field number = number % 65536

abbrev pub before_last : ℕ → ℕ
before_last number = number / 65536

abbrev pub node_in : ℕ → NodeId
node_in number = record { 0 = last_field (before_last (before_last number)) }

abbrev pub home_in : ℕ → NodeId
home_in number = record { 0 = last_field (before_last number) }

abbrev pub txn_in : ℕ → TxnId
txn_in number = record { 0 = last_field number }

abbrev pub dbid_in : ℕ → DbId
dbid_in number = record { 0 = last_field number }

abbrev pub sort_in : ℕ → ℕ
sort_in number = before_last (before_last (before_last number))

unfoldable pub id_numbered : ℕ → Id
id_numbered number =
    if sort_in number == 0 then Request (node_in number) (txn_in number) else
    (if sort_in number == 1 then Snoop (node_in number) (home_in number) (txn_in number) else
    Buffer (node_in number) (home_in number) (dbid_in number))
