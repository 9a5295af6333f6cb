-- What a trace resolves to: each flit is taken with what those before it have left open, up to the first that isn't
-- allowed (docs/TRACES.md, "Nodes, ids and credits").
use Rattle.std.specs.Prelude.{◌≡◌, length, ℕ, ◌+◌, ◌==◌, ◌&&◌, not, Bool, true, false, List, [], ◌∷◌, ◌++◌, Option, Some, None, Result, Ok, Err, if◌then◌else◌, is_some, slice_set}
use Rattle.std.specs.List.{filter, slice_get}
use Rattle.indexmap.specs.IndexMap.{insert_entry, swap_remove_entry}
use Rattle.chi_trace.specs.declared.fields.NodeId.{NodeId}
use Rattle.chi_trace.specs.declared.flits.Seen.{Seen}
use Rattle.chi_resolution.specs.declared.beats.OpenData.{OpenData}
use Rattle.chi_resolution.specs.declared.tables.Change.{Change}
use Rattle.chi_resolution.specs.declared.tables.Change.TheVariants.{Flit, Credit, Beat}
use Rattle.chi_resolution.specs.declared.tables.Further.{Further}
use Rattle.chi_resolution.specs.declared.tables.LineFlit.{LineFlit}
use Rattle.chi_resolution.specs.declared.ids.KeyNumbers.{KeyNumbers}
use Rattle.chi_resolution.specs.declared.ids.OpenId.{OpenId}
use Rattle.chi_resolution.specs.declared.ids.OpenKey.{OpenKey}
use Rattle.chi_resolution.specs.declared.ledger.CreditLedger.{CreditLedger}
use Rattle.chi_explain.specs.declared.observed.Observed.{Observed}
use Rattle.chi_explain.specs.declared.observed.Observed.TheVariants as observed
use Rattle.chi_flit.specs.declared.message.Msg.{Msg}
use Rattle.chi_flit.specs.declared.message.Msg.TheVariants as messages
use Rattle.chi_flit.specs.declared.message.RspUp.TheVariants as ups
use Rattle.chi_flit.specs.declared.numbers.Agent.{Agent}
use Rattle.chi_resolution.specs.declared.lines.Resolved.{Resolved}
use Rattle.chi_resolution.specs.declared.reasons.IdFault.{IdFault}
use Rattle.chi_resolution.specs.declared.reasons.IdReason.{IdReason}
use Rattle.chi_resolution.specs.declared.resolution.Options.{Options}
use Rattle.chi_resolution.specs.declared.resolution.Allowed.{Allowed}
use Rattle.chi_resolution.specs.Changes.{change_of}
use Rattle.chi_resolution.specs.Ids.{has_numbers_of, is_same_numbers, numbers_of, with_id, without}
use Rattle.chi_resolution.specs.Ledger.{booked, booked_all}
use Rattle.chi_resolution.specs.Nodes.{ends_of, sides_of, with_home, with_requester}
use Rattle.chi_resolution.specs.Reasons.{◌>>=◌}
use Rattle.chi_resolution.specs.Tables.{Open}

-- the nodes so far, and what is open
pub record IdProgress : Type 0 where
  pub home : Option NodeId
  pub requesters : List NodeId
  pub table : Open

abbrev pub progress_of : Option NodeId → List NodeId → List (KeyNumbers × OpenId) → List (KeyNumbers × OpenData) → List CreditLedger → List Resolved → List Resolved → IdProgress
progress_of home requesters ids unfinished accounts flits waiting = record {
  home = home;
  requesters = requesters;
  table = record { ids = ids; unfinished = unfinished; accounts = accounts; flits = flits; waiting = waiting };
}

abbrev pub nothing : IdProgress
nothing = progress_of None [] [] [] [] [] []

-- the id of a key is free, if one is, and another one open
abbrev pub ids_after : Option OpenKey → Option OpenId → List (KeyNumbers × OpenId) → List (KeyNumbers × OpenId)
ids_after frees opens ids = with_id opens (without frees ids)

-- data that lacks words is kept under its key
abbrev pub with_data : Option OpenData → List (KeyNumbers × OpenData) → List (KeyNumbers × OpenData)
with_data None unfinished = unfinished
with_data (Some begun) unfinished = insert_entry is_same_numbers unfinished (numbers_of begun.key) begun

-- a load or a store waits for the CompAck of its requester, behind which it then stands
abbrev pub is_acknowledged_by : Msg → Bool
is_acknowledged_by (messages.RspUp ups.CompAck) = true
is_acknowledged_by other = false

abbrev pub is_ack_of : Agent → Observed → Bool
is_ack_of agent (observed.Flit sent) = sent.agent.0 == agent.0 && is_acknowledged_by sent.message
is_ack_of agent other = false

abbrev pub acting_agent : Observed → Agent
acting_agent (observed.Flit sent) = sent.agent
acting_agent (observed.Load agent word value) = agent
acting_agent (observed.Store agent word value) = agent

abbrev pub is_released : LineFlit → Resolved → Bool
is_released flit item = item.line.0 == flit.line.0 && is_ack_of (acting_agent item.flit) flit.flit

abbrev pub item_of : ℕ → LineFlit → Resolved
item_of at flit = record { at = at; line = flit.line; flit = flit.flit }

abbrev pub placed : ℕ → LineFlit → List Resolved → List Resolved
placed at flit waiting = if flit.waits then [] else item_of at flit ∷ filter (is_released flit) waiting

abbrev pub waiting_after : ℕ → LineFlit → List Resolved → List Resolved
waiting_after at flit waiting = if flit.waits then waiting ++ item_of at flit ∷ [] else filter (λ item. not (is_released flit item)) waiting

abbrev pub after_flit : ℕ → LineFlit → Open → Open
after_flit at flit table = record {
  ids = ids_after flit.frees flit.opens (without flit.cancels table.ids);
  unfinished = with_data flit.begins table.unfinished;
  accounts = booked_all flit.books table.accounts;
  flits = table.flits ++ placed at flit table.waiting;
  waiting = waiting_after at flit table.waiting;
}

-- data with the words of a further beat; it is finished where it frees its id
abbrev pub data_after : Further → List (KeyNumbers × OpenData) → List (KeyNumbers × OpenData)
data_after further unfinished = if is_some further.frees then swap_remove_entry (has_numbers_of further.joined.key) unfinished else with_data (Some further.joined) unfinished

-- a flit of data stands at the place of its first beat
abbrev pub refilled_by : ℕ → Observed → List Resolved → Option Resolved → List Resolved
refilled_by place flit flits None = flits
refilled_by place flit flits (Some resolved) = slice_set flits place (record resolved { flit = flit })

abbrev pub refilled : ℕ → Observed → List Resolved → List Resolved
refilled place flit flits = refilled_by place flit flits (slice_get flits place)

abbrev pub after_beat : Further → Open → Open
after_beat further table = record {
  ids = ids_after further.frees None table.ids;
  unfinished = data_after further table.unfinished;
  accounts = table.accounts;
  flits = refilled further.joined.place further.flit table.flits;
  waiting = table.waiting;
}

abbrev pub open_after : ℕ → Change → Open → Open
open_after at (Flit flit) table = after_flit at flit table
open_after at (Credit booking) table = record table { accounts = booked booking table.accounts }
open_after at (Beat further) table = after_beat further table

-- the nodes of the next flit, and what it does
unfoldable pub allowed_of : Options → IdProgress → Seen → Result Allowed IdReason
allowed_of options progress seen = do
  ends ← ends_of progress.home progress.requesters (sides_of seen.source seen.flit)
  change ← change_of options progress.table ends seen.flit
  Ok (record { ends = ends; change = change })

-- the flit of number at is taken
abbrev pub taken : ℕ → Allowed → IdProgress → IdProgress
taken at allowed progress = record {
  home = with_home allowed.ends progress.home;
  requesters = with_requester allowed.ends progress.requesters;
  table = open_after at allowed.change progress.table;
}

-- a flit that is allowed is taken; of another one the reason is told, and all stays as it is
abbrev pub stepped_by : ℕ → IdProgress → Result Allowed IdReason → IdProgress × Option IdReason
stepped_by at progress (Ok allowed) = (taken at allowed progress, None)
stepped_by at progress (Err reason) = (progress, Some reason)

abbrev pub stepped : Options → ℕ → IdProgress → Seen → IdProgress × Option IdReason
stepped options at progress seen = stepped_by at progress (allowed_of options progress seen)

-- all flits that are allowed, and the first that isn't
pub record IdOutcome : Type 0 where
  pub progress : IdProgress
  pub fault : Option IdFault

abbrev pub ended : ℕ → IdProgress → Result Allowed IdReason → (Allowed → IdOutcome) → IdOutcome
ended at progress (Ok allowed) rest = rest allowed
ended at progress (Err reason) rest = record { progress = progress; fault = Some (record { at = at; reason = reason }) }

unfoldable pub resolved_from : Options → ℕ → IdProgress → List Seen → IdOutcome
resolved_from options at progress [] = record { progress = progress; fault = None }
resolved_from options at progress (seen ∷ rest) = ended at progress (allowed_of options progress seen) (λ allowed. resolved_from options (at + 1) (taken at allowed progress) rest)

abbrev pub resolution_of : Options → List Seen → IdOutcome
resolution_of options seen = resolved_from options 0 nothing seen

-- one flit more: it is taken, or is the first that isn't allowed; behind that nothing is taken
abbrev pub told_of : ℕ → IdProgress → Option IdReason → IdOutcome
told_of at progress None = record { progress = progress; fault = None }
told_of at progress (Some reason) = record { progress = progress; fault = Some (record { at = at; reason = reason }) }

abbrev pub more_by : Options → ℕ → IdProgress → Seen → Option IdFault → IdOutcome
more_by options at progress seen None = told_of at (stepped options at progress seen).0 (stepped options at progress seen).1
more_by options at progress seen (Some fault) = record { progress = progress; fault = Some fault }

abbrev pub resolved_more : Options → ℕ → IdOutcome → Seen → IdOutcome
resolved_more options at outcome seen = more_by options at outcome.progress seen outcome.fault

-- a trace's first flit that isn't allowed: so many stand before it, and the trace has this fault whatever follows it
pub record IsFirstRefused (options : Options) (seen : List Seen) (fault : IdFault) : Type 0 where
  pub before : List Seen
  pub one : Seen
  pub after : List Seen
  pub is : seen ≡ before ++ one ∷ after
  pub place : fault.at ≡ length before
  pub ever : (more : List Seen) → (resolution_of options (before ++ one ∷ more)).fault ≡ Some fault
