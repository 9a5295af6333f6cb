-- Flits that name an id from before a trace that is cut out of a longer one (docs/OBSERVER.md, "A trace that begins in the
-- middle").
use Rattle.std.specs.Prelude.{ℕ, ◌==◌, ◌&&◌, ◌||◌, Bool, true, false, not, nat_le, nat_lt, List, [], ◌∷◌, Option, Some, None, if◌then◌else◌, length}
use Rattle.std.specs.Option.{unwrap_or}
use Rattle.std.specs.List.{position}
use Rattle.chi_trace.specs.declared.fields.DbId.{DbId}
use Rattle.chi_trace.specs.declared.fields.NodeId.{NodeId}
use Rattle.chi_observe.specs.declared.events.LineEvent.{LineEvent}
use Rattle.chi_ids.specs.declared.keys.IdKey.{IdKey}
use Rattle.chi_ids.specs.declared.keys.IdKey.TheVariants as keys
use Rattle.chi_ids.specs.declared.keys.KeyNumbers.{KeyNumbers}
use Rattle.chi_observe.specs.declared.ids.OpenId.{OpenId}
use Rattle.chi_observe.specs.declared.ids.Purpose.TheVariants as purposes
use Rattle.chi_ids.specs.declared.keys.Sides.{Sides}
use Rattle.chi_observe.specs.declared.steps.IdStep.{IdStep}
use Rattle.chi_observe.specs.declared.steps.IdStep.TheVariants.{CompleteWith, ReadData, AnswerData, WriteData, UnknownAnswer, UnknownReply}
use Rattle.chi_observe.specs.declared.steps.WatchOptions.{WatchOptions}
use Rattle.chi_observe.specs.Beats.{is_again}
use Rattle.chi_observe.specs.Ids.{id_of, opened_id, with_id, without}
use Rattle.chi_observe.specs.Judges.{is_cut}
use Rattle.chi_observe.specs.Nodes.{is_node}
use Rattle.chi_observe.specs.Words.{left_of}

-- the words that a beat has
abbrev pub words_there : IdStep → Option (List Bool)
words_there (ReadData txn dbid there) = Some there
words_there (AnswerData txn there) = Some there
words_there (WriteData dbid there) = Some there
words_there other = None

-- an opcode that isn't known frees no id
abbrev pub is_unknown_reply : IdStep → Bool
is_unknown_reply (UnknownAnswer txn) = true
is_unknown_reply (UnknownReply txn dbid) = true
is_unknown_reply other = false

abbrev pub is_of_line : IdKey → Bool
is_of_line (keys.Retried sides line) = true
is_of_line other = false

-- an id that the trace has named is one from before no more, but for beats of its data with words that lack
abbrev pub has_more : Option (List Bool) → Option (List Bool) → Bool
has_more (Some lacks) (Some there) = not (is_again lacks there)
has_more lacks there = false

abbrev pub may_come : IdStep → Option OpenId → Bool
may_come step None = true
may_come step (Some id) = is_unknown_reply step || has_more id.lacks (words_there step)

abbrev pub is_left_over : WatchOptions → List (KeyNumbers × OpenId) → IdStep → IdKey → Bool
is_left_over options named step key = is_cut options && (not (is_of_line key) && may_come step (id_of key named))

-- it is named then: where its data come in beats, with the words that lack
abbrev pub all_words : List Bool
all_words = true ∷ true ∷ true ∷ true ∷ true ∷ true ∷ true ∷ true ∷ []

abbrev pub lacked_of : Option OpenId → List Bool
lacked_of None = all_words
lacked_of (Some id) = unwrap_or id.lacks all_words

abbrev pub lacks_behind : Option (List Bool) → List Bool → Option (List Bool)
lacks_behind None lacks = None
lacks_behind (Some there) lacks = Some (left_of lacks there)

abbrev pub named_id : IdKey → Option (List Bool) → OpenId
named_id key lacks = record (opened_id key (record { 0 = 0 }) (purposes.Unknown false)) { lacks = lacks }

-- a DBID that a completion names may be named again
abbrev pub dbid_key : Sides → Option DbId → Option IdKey
dbid_key sides None = None
dbid_key sides (Some dbid) = Some (keys.Buffer sides dbid)

abbrev pub opened_in : Sides → IdStep → Option IdKey
opened_in sides (CompleteWith txn dbid) = dbid_key sides dbid
opened_in sides (ReadData txn dbid there) = dbid_key sides dbid
opened_in sides (UnknownReply txn dbid) = dbid_key sides dbid
opened_in sides other = None

abbrev pub named_behind : LineEvent → IdKey → List (KeyNumbers × OpenId) → List (KeyNumbers × OpenId)
named_behind e key named = with_id (Some (named_id key (lacks_behind (words_there e.step) (lacked_of (id_of key named))))) (without (opened_in e.sides e.step) named)

-- an id that a flit frees is named
abbrev pub closed_id : Option IdKey → Option OpenId
closed_id None = None
closed_id (Some key) = if is_of_line key then None else Some (named_id key None)

abbrev pub named_after : WatchOptions → Option IdKey → List (KeyNumbers × OpenId) → List (KeyNumbers × OpenId)
named_after options frees named = if is_cut options then with_id (closed_id frees) named else named

-- the agents that its requester may be: where it is new, each that no requester is
abbrev pub is_agent : Option ℕ → ℕ → ℕ → Bool
is_agent None count n = nat_le count n
is_agent (Some place) count n = n == place

abbrev pub last_at : Option ℕ → ℕ → ℕ → (ℕ → ℕ) → ℕ → ℕ
last_at place count number last n = if nat_lt n 32 && is_agent place count n then number else last n

abbrev pub last_behind : List NodeId → NodeId → ℕ → (ℕ → ℕ) → ℕ → ℕ
last_behind requesters node number last = last_at (position (is_node node) requesters) (length requesters) number last
