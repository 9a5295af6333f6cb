-- Whose a flit is, and the id that it opens or names (docs/TRANSACTIONS.md, "Ids").
use Rattle.std.specs.Prelude.{ℕ, unwrap_or}
use Rattle.chi_issue_b.specs.Opcodes.{role_of}
use Rattle.chi_issue_b.specs.declared.flit.Flit.{Flit}
use Rattle.chi_issue_b.specs.declared.ids.DbId.{DbId}
use Rattle.chi_issue_b.specs.declared.ids.NodeId.{NodeId}
use Rattle.chi_issue_b.specs.declared.ids.PcrdType.{PcrdType}
use Rattle.chi_issue_b.specs.declared.roles.Role.{Role}
use Rattle.chi_issue_b.specs.declared.roles.Role.TheVariants as roles
use Rattle.chi_issue_b.specs.declared.ids.CacheLine.{CacheLine}
use Rattle.chi_transactions.specs.declared.entries.Place.{Place}
use Rattle.chi_transactions.specs.declared.ids.Id.{Id}
use Rattle.chi_transactions.specs.declared.ids.Id.TheVariants as ids
use Rattle.chi_transactions.specs.Ids.{number_of, packed}

-- what it does to ids
unfoldable pub role : Flit → Role
role f = role_of f.opcode

-- the node that sends requests, answers, CompAcks and write data, and that all others go to; and the other node
abbrev pub requester_by : Role → Flit → NodeId
requester_by roles.Request f = f.source
requester_by roles.CreditReturn f = f.source
requester_by roles.Answer f = f.source
requester_by roles.Acknowledgement f = f.source
requester_by roles.WriteData f = f.source
requester_by roles.WriteCancel f = f.source
requester_by other f = f.target

abbrev pub home_by : Role → Flit → NodeId
home_by roles.Request f = f.target
home_by roles.CreditReturn f = f.target
home_by roles.Answer f = f.target
home_by roles.Acknowledgement f = f.target
home_by roles.WriteData f = f.target
home_by roles.WriteCancel f = f.target
home_by other f = f.source

unfoldable pub requester_of : Flit → NodeId
requester_of f = requester_by (role f) f

unfoldable pub home_of : Flit → NodeId
home_of f = home_by (role f) f

-- the DBID of a number between its nodes
abbrev pub buffer_of : Flit → DbId → Id
buffer_of f dbid = ids.Buffer (requester_of f) (home_of f) dbid

-- the id that it opens or names: a snoop's TXN, a DBID, or a request's TXN
abbrev pub id_by : Role → Flit → Id
id_by roles.Snoop f = ids.Snoop (requester_of f) (home_of f) f.txn
id_by roles.Answer f = ids.Snoop (requester_of f) (home_of f) f.txn
id_by roles.Acknowledgement f = buffer_of f (record { 0 = f.txn.0 })
id_by roles.WriteData f = buffer_of f (record { 0 = f.txn.0 })
id_by roles.WriteCancel f = buffer_of f (record { 0 = f.txn.0 })
id_by other f = ids.Request (requester_of f) f.txn

unfoldable pub id_of : Flit → Id
id_of f = id_by (role f) f

-- its credit type; 0 where it names none
abbrev pub credit_of : Flit → PcrdType
credit_of f = unwrap_or f.credit (record { 0 = 0 })

-- the number of a flit's account, and that of its two nodes
unfoldable pub account_of : Flit → ℕ
account_of f = packed 0 (requester_of f).0 (home_of f).0 (credit_of f).0

unfoldable pub pair_of : Flit → ℕ
pair_of f = packed 0 (requester_of f).0 (home_of f).0 0

-- where its request waits
unfoldable pub place_of : Flit → CacheLine → Place
place_of f line = record { requester = (requester_of f).0; line = line.address }

unfoldable pub number_at : Flit → ℕ
number_at f = number_of (id_of f)
