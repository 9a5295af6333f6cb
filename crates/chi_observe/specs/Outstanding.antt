-- What is told to be open behind the flits of a trace, a line each (docs/OBSERVER.md, "What is printed").
use Rattle.std.specs.Prelude.{ℕ, ◌∷◌, ◌++◌, Bool, List, [], Option, Some, None, codes, if◌then◌else◌}
use Rattle.std.specs.Fmt.{decimal}
use Rattle.std.specs.List.{flat_map}
use Rattle.std.specs.Map.{values_of}
use Rattle.chi_ids.specs.declared.keys.IdKey.{IdKey}
use Rattle.chi_ids.specs.declared.keys.IdKey.TheVariants as keys
use Rattle.chi_ids.specs.declared.keys.Sides.{Sides}
use Rattle.chi_trace.specs.declared.fields.NodeId.{NodeId}
use Rattle.chi_observe.specs.declared.credits.Account.{Account}
use Rattle.chi_observe.specs.declared.ids.OpenId.{OpenId}
use Rattle.chi_observe.specs.declared.ids.Purpose.{Purpose}
use Rattle.chi_observe.specs.declared.ids.Purpose.TheVariants as purposes
use Rattle.chi_observe.specs.Credits.{owed_of, unused_of}
use Rattle.chi_observe.specs.Judges.{is_cut}
use Rattle.chi_observe.specs.Names.{hexadecimal, kind_text, line_text, node_text, snoop_text}
use Rattle.chi_observe.specs.Pending.{is_account_open, is_id_open}
use Rattle.chi_observe.specs.Watched.{Watched}

-- what an id is open for, and of or to which requester
abbrev pub purpose_text : Purpose → List ℕ
purpose_text (purposes.Request kind first) = kind_text kind ++ codes " of"
purpose_text (purposes.Snoop snoop) = snoop_text snoop ++ codes " to"
purpose_text (purposes.Unknown first) = codes "another flit of"

abbrev pub sides_of : IdKey → Sides
sides_of (keys.Request sides txn) = sides
sides_of (keys.Buffer sides dbid) = sides
sides_of (keys.Snoop sides txn) = sides
sides_of (keys.Retried sides line) = sides

abbrev pub requester_in : IdKey → NodeId
requester_in key = (sides_of key).requester

-- what it waits for: of data that come in beats the other beats, and else what ends an id of its sort
abbrev pub end_text : IdKey → List ℕ
end_text (keys.Request sides txn) = codes "without its completion"
end_text (keys.Buffer sides dbid) = codes "without CompAck or write data"
end_text (keys.Snoop sides txn) = codes "without its answer"
end_text (keys.Retried sides line) = codes "not sent again or cancelled"

abbrev pub lack_by : Option (List Bool) → IdKey → List ℕ
lack_by None key = end_text key
lack_by (Some lacks) key = codes "without all words of its data"

abbrev pub lack_text : OpenId → List ℕ
lack_text id = lack_by id.lacks id.key

-- the line of an id
abbrev pub id_front : OpenId → List ℕ
id_front id = codes "open: " ++ (purpose_text id.purpose ++ (codes " node " ++ (node_text (requester_in id.key) ++ (codes " at " ++ line_text id.line))))

abbrev pub id_end : OpenId → List ℕ
id_end id = codes ", since line " ++ (decimal id.since ++ (codes " " ++ (lack_text id ++ (10 ∷ []))))

abbrev pub id_line : OpenId → List ℕ
id_line id = id_front id ++ id_end id

-- that of credits
abbrev pub account_front : Account → List ℕ
account_front account = codes "open: credits of type " ++ (hexadecimal account.pcrd.0 ++ (codes " of node " ++ node_text account.sides.requester))

abbrev pub account_end : Account → List ℕ
account_end account = codes ": " ++ (decimal (owed_of account) ++ (codes " owed, " ++ (decimal (unused_of account) ++ (codes " unused" ++ (10 ∷ [])))))

abbrev pub account_line : Account → List ℕ
account_line account = account_front account ++ account_end account

-- of each that is open, in the order of the tables; credits aren't told of a trace that is cut out of a longer one
abbrev pub open_id_line : Watched → OpenId → List ℕ
open_id_line w id = if is_id_open w id then id_line id else []

abbrev pub open_account_line : Account → List ℕ
open_account_line account = if is_account_open account then account_line account else []

abbrev pub open_ids_text : Watched → List ℕ
open_ids_text w = flat_map (open_id_line w) (values_of w.ids)

abbrev pub open_accounts_text : Watched → List ℕ
open_accounts_text w = if is_cut w.options then [] else flat_map open_account_line (values_of w.accounts)

abbrev pub open_text : Watched → List ℕ
open_text w = open_ids_text w ++ open_accounts_text w
