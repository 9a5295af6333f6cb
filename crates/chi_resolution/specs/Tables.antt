-- What is open where a flit is taken, and how it is found (docs/TRACES.md, "Nodes, ids and credits").
use Rattle.std.specs.Prelude.{◌==◌, false, List, Option, Some, None, Result, Ok, Err, if◌then◌else◌, ok_or}
use Rattle.chi_flit.specs.declared.message.Msg.{Msg}
use Rattle.chi_trace.specs.declared.fields.Address.{Address}
use Rattle.chi_trace.specs.declared.fields.NodeId.{NodeId}
use Rattle.chi_trace.specs.declared.fields.PcrdType.{PcrdType}
use Rattle.chi_resolution.specs.declared.beats.OpenData.{OpenData}
use Rattle.chi_resolution.specs.declared.tables.LineFlit.{LineFlit}
use Rattle.chi_resolution.specs.declared.tables.Tables.{Tables}
use Rattle.chi_resolution.specs.declared.ids.KeyNumbers.{KeyNumbers}
use Rattle.chi_resolution.specs.declared.ids.OpenId.{OpenId}
use Rattle.chi_resolution.specs.declared.ids.OpenKey.{OpenKey}
use Rattle.chi_resolution.specs.declared.ledger.CreditLedger.{CreditLedger}
use Rattle.chi_resolution.specs.declared.ledger.Booking.{Booking}
use Rattle.chi_resolution.specs.declared.ledger.CreditEvent.{CreditEvent}
use Rattle.chi_resolution.specs.declared.lines.CacheLine.{CacheLine}
use Rattle.chi_explain.specs.declared.observed.Observed.{Observed}
use Rattle.chi_explain.specs.declared.observed.Observed.TheVariants as observed
use Rattle.chi_resolution.specs.declared.lines.Resolved.{Resolved}
use Rattle.chi_resolution.specs.declared.nodes.Ends.{Ends}
use Rattle.chi_resolution.specs.declared.reasons.IdReason.{IdReason}
use Rattle.chi_resolution.specs.declared.reasons.IdReason.TheVariants as reasons
use Rattle.chi_resolution.specs.Beats.{data_of}
use Rattle.chi_resolution.specs.Ids.{id_of}
use Rattle.chi_resolution.specs.Ledger.{held_of}
use Rattle.chi_resolution.specs.Lines.{line_of}
use Rattle.chi_resolution.specs.Reasons.{◌>>=◌}

-- what is open, the flits that are resolved, and the loads and stores that wait for a CompAck
pub record Open : Type 0 where
  pub ids : List (KeyNumbers × OpenId)
  pub unfinished : List (KeyNumbers × OpenData)
  pub accounts : List CreditLedger
  pub flits : List Resolved
  pub waiting : List Resolved

-- what references to the tables point to
abbrev pub table_of : {Y : Type 0} → Tables Y → Open
table_of tables = record { ids = tables.ids.now.entries; unfinished = tables.unfinished.now.entries; accounts = tables.accounts.now; flits = tables.flits.now; waiting = tables.waiting.now }

-- a flit that neither frees, opens nor books
abbrev pub plain_flit : CacheLine → Observed → LineFlit
plain_flit line flit = record { line = line; flit = flit; frees = None; cancels = None; opens = None; books = None; begins = None; waits = false }

abbrev pub sent : Ends → Msg → Observed
sent ends message = observed.Flit (record { agent = ends.agent; message = message })

-- an id is opened that isn't in use
abbrev pub unless_used : OpenKey → Option OpenId → Result OpenKey IdReason
unless_used key None = Ok key
unless_used key (Some found) = Err (reasons.InUse key)

abbrev pub new_id : Open → OpenKey → Result OpenKey IdReason
new_id table key = unless_used key (id_of key table.ids)

-- an address, where a flit has one, is in the line of its id
abbrev pub in_line : Option Address → OpenId → Result OpenId IdReason
in_line None found = Ok found
in_line (Some address) found = if (line_of address).0 == found.line.0 then Ok found else Err (reasons.WrongAddress address found.line)

-- the open id that a flit names
abbrev pub named : Open → OpenKey → Option Address → Result OpenId IdReason
named table key address = ok_or (id_of key table.ids) (reasons.NotOpen key) >>= in_line address

-- the id that a flit without data frees: no data that frees it lacks words
abbrev pub unless_begun : OpenKey → OpenId → Option OpenData → Result OpenId IdReason
unless_begun key found None = Ok found
unless_begun key found (Some begun) = Err (reasons.Unfinished key)

abbrev pub freed : Open → OpenKey → Option Address → Result OpenId IdReason
freed table key address = named table key address >>= λ found. unless_begun key found (data_of key table.unfinished)

-- one more in the account of a node and a type
abbrev pub booking_of : Open → NodeId → PcrdType → CreditEvent → Booking
booking_of table node pcrd event = record { held = held_of node pcrd table.accounts; event = event }
