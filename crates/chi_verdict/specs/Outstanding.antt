-- What is outstanding where a trace ends, a line for each thing (docs/TRACES.md, "What is printed").
use Rattle.std.specs.Prelude.{◌≡◌, ℕ, ◌*◌, min, not, false, List, [], ◌∷◌, ◌++◌, Option, Some, None, codes, if◌then◌else◌}
use Rattle.std.specs.Fmt.{decimal, digits}
use Rattle.std.specs.List.{count_by, flat_map, slice_get}
use Rattle.std.specs.List.Sorted.{IsNonDecreasingBy, IsPermutation}
use Rattle.std.specs.Map.{values_of}
use Rattle.chi_trace.specs.declared.fields.Beat.{Beat}
use Rattle.chi_trace.specs.declared.fields.NodeId.{NodeId}
use Rattle.chi_trace.specs.declared.fields.PcrdType.{PcrdType}
use Rattle.chi_explain.specs.declared.observed.Observed.{Observed}
use Rattle.chi_explain.specs.declared.observed.Observed.TheVariants.{Flit, Load, Store}
use Rattle.chi_resolution.specs.Ledger.{owed_of, unused_of}
use Rattle.chi_resolution.specs.Resolution.{IdProgress}
use Rattle.chi_resolution.specs.declared.beats.OpenData.{OpenData}
use Rattle.chi_resolution.specs.declared.ids.OpenId.{OpenId}
use Rattle.chi_resolution.specs.declared.ids.OpenKey.{OpenKey}
use Rattle.chi_resolution.specs.declared.ids.OpenKey.TheVariants.{Request, Buffer, Snoop, Retried}
use Rattle.chi_resolution.specs.declared.ledger.CreditLedger.{CreditLedger}
use Rattle.chi_resolution.specs.declared.lines.CacheLine.{CacheLine}
use Rattle.chi_resolution.specs.declared.lines.Resolved.{Resolved}
use Rattle.chi_resolution.specs.declared.resolution.Resolution.{Resolution}
use Rattle.chi_verdict.specs.Closing.{waiting_agent}
use Rattle.chi_verdict.specs.Ending.{is_account_open}

-- the ids that are open, the data that lacks words, the loads and stores that wait for a CompAck with the nodes that they are
-- of, and the credits
pub record Outstanding : Type 0 where
  pub ids : List OpenId
  pub unfinished : List OpenData
  pub requesters : List NodeId
  pub waiting : List Resolved
  pub accounts : List CreditLedger

-- so behind the flits of a trace
abbrev pub outstanding_behind : IdProgress → Outstanding
outstanding_behind p = record { ids = values_of p.table.ids; unfinished = values_of p.table.unfinished; requesters = p.requesters; waiting = p.table.waiting; accounts = p.table.accounts }

abbrev pub outstanding_in : {Y : Type 0} → Resolution Y → Outstanding
outstanding_in r = record { ids = r.ids.items; unfinished = r.unfinished.items; requesters = r.nodes.requesters.items; waiting = r.waiting.items; accounts = r.accounts.items }

-- the same in the order in which it was opened
abbrev pub id_place : OpenId → ℕ
id_place id = id.place

abbrev pub data_place : OpenData → ℕ
data_place begun = begun.place

pub record IsInOrder {X : Type 0} (place : X → ℕ) (items sorted : List X) : Type 0 where
  pub same : IsPermutation items sorted
  pub rising : IsNonDecreasingBy place sorted

pub record AreInOrder (these sorted : Outstanding) : Type 0 where
  pub ids : IsInOrder id_place these.ids sorted.ids
  pub unfinished : IsInOrder data_place these.unfinished sorted.unfinished
  pub requesters : sorted.requesters ≡ these.requesters
  pub waiting : sorted.waiting ≡ these.waiting
  pub accounts : sorted.accounts ≡ these.accounts

-- numbers are written as in a trace, and a cache line by its address, which has 64 bits
abbrev pub hexadecimal : ℕ → List ℕ
hexadecimal n = digits 16 false n

abbrev pub address_of : CacheLine → ℕ
address_of line = min (line.0 * 64) 18446744073709551615

abbrev pub line_name : CacheLine → List ℕ
line_name line = hexadecimal (address_of line)

-- an id
abbrev pub request_line : NodeId → ℕ → CacheLine → List ℕ
request_line node txn line = codes "open: a request with TXN " ++ (hexadecimal txn ++ (codes " of node " ++ (hexadecimal node.0 ++ (codes " at " ++ (line_name line ++ (codes ", without its completion" ++ (10 ∷ [])))))))

abbrev pub buffer_line : NodeId → ℕ → CacheLine → List ℕ
buffer_line node dbid line = codes "open: a completion with DBID " ++ (hexadecimal dbid ++ (codes " to node " ++ (hexadecimal node.0 ++ (codes " at " ++ (line_name line ++ (codes ", without CompAck or write data" ++ (10 ∷ [])))))))

abbrev pub snoop_line : NodeId → ℕ → CacheLine → List ℕ
snoop_line node txn line = codes "open: a snoop with TXN " ++ (hexadecimal txn ++ (codes " to node " ++ (hexadecimal node.0 ++ (codes " at " ++ (line_name line ++ (codes ", without its answer" ++ (10 ∷ [])))))))

abbrev pub retried_line : NodeId → CacheLine → List ℕ
retried_line node line = codes "open: a retried request of node " ++ (hexadecimal node.0 ++ (codes " at " ++ (line_name line ++ (codes ", not sent again or cancelled" ++ (10 ∷ [])))))

abbrev pub key_line : CacheLine → OpenKey → List ℕ
key_line line (Request node txn) = request_line node txn.0 line
key_line line (Buffer node dbid) = buffer_line node dbid.0 line
key_line line (Snoop node txn) = snoop_line node txn.0 line
key_line line (Retried node of) = retried_line node line

abbrev pub id_line : OpenId → List ℕ
id_line id = key_line id.line id.key

-- data
abbrev pub lacking_words : Beat → ℕ
lacking_words beat = count_by not beat.there

unfoldable pub data_line : OpenData → List ℕ
data_line begun = codes "open: data at " ++ (line_name begun.line ++ (codes ", without " ++ (decimal (lacking_words begun.beat) ++ (codes " of its words" ++ (10 ∷ [])))))

-- a load or a store
abbrev pub load_line : NodeId → CacheLine → List ℕ
load_line node line = codes "open: a load of node " ++ (hexadecimal node.0 ++ (codes " at " ++ (line_name line ++ (codes ", without the CompAck that it waits for" ++ (10 ∷ [])))))

abbrev pub store_line : NodeId → CacheLine → List ℕ
store_line node line = codes "open: a store of node " ++ (hexadecimal node.0 ++ (codes " at " ++ (line_name line ++ (codes ", without the CompAck that it waits for" ++ (10 ∷ [])))))

abbrev pub access_line : NodeId → CacheLine → Observed → List ℕ
access_line node line (Flit sent) = []
access_line node line (Load agent word value) = load_line node line
access_line node line (Store agent word value) = store_line node line

abbrev pub access_line_of : Option NodeId → Resolved → List ℕ
access_line_of None item = []
access_line_of (Some node) item = access_line node item.line item.flit

abbrev pub waiting_line : List NodeId → Resolved → List ℕ
waiting_line requesters item = access_line_of (slice_get requesters (waiting_agent item.flit).0) item

-- credits
unfoldable pub credits_line : PcrdType → NodeId → (owed unused : ℕ) → List ℕ
credits_line pcrd node owed unused = codes "open: credits of type " ++ (hexadecimal pcrd.0 ++ (codes " of node " ++ (hexadecimal node.0 ++ (codes ": " ++ (decimal owed ++ (codes " owed, " ++ (decimal unused ++ (codes " unused" ++ (10 ∷ [])))))))))

abbrev pub account_line : CreditLedger → List ℕ
account_line account = if is_account_open account then credits_line account.pcrd account.node (owed_of account) (unused_of account) else []

-- all of it
abbrev pub open_text : Outstanding → List ℕ
open_text o = flat_map id_line o.ids ++ (flat_map data_line o.unfinished ++ (flat_map (waiting_line o.requesters) o.waiting ++ flat_map account_line o.accounts))
