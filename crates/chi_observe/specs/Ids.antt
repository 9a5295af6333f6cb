-- The ids that are open, each under its key (docs/OBSERVER.md, "Ids and credits").
use Rattle.std.specs.Prelude.{ℕ, Bool, true, false, List, Option, Some, None}
use Rattle.std.specs.Map.{lookup}
use Rattle.indexmap.specs.IndexMap.{insert_entry, swap_remove_entry}
use Rattle.chi_ids.specs.declared.keys.CacheLine.{CacheLine}
use Rattle.chi_ids.specs.declared.keys.IdKey.{IdKey}
use Rattle.chi_ids.specs.declared.keys.KeyNumbers.{KeyNumbers}
use Rattle.chi_observe.specs.declared.ids.Later.TheVariants.{Told}
use Rattle.chi_observe.specs.declared.ids.OpenId.{OpenId}
use Rattle.chi_ids.specs.Keys.{is_same_numbers, numbers_of}
use Rattle.chi_observe.specs.declared.ids.Purpose.{Purpose}
use Rattle.chi_observe.specs.declared.ids.Purpose.TheVariants as purposes
use Rattle.chi_observer.specs.declared.kinds.Kind.{Kind}
use Rattle.chi_observer.specs.declared.kinds.Kind.TheVariants as kinds

abbrev pub has_numbers_of : IdKey → KeyNumbers → Bool
has_numbers_of key numbers = is_same_numbers (numbers_of key) numbers

-- the open id of a key
abbrev pub id_of : IdKey → List (KeyNumbers × OpenId) → Option OpenId
id_of key ids = lookup (has_numbers_of key) ids

-- the requests whose completion is followed by CompAck or write data, which name the DBID that the home keeps for them
abbrev pub is_followed : Kind → Bool
is_followed kinds.ReadOnce = false
is_followed kinds.CleanShared = false
is_followed kinds.CleanInvalid = false
is_followed kinds.MakeInvalid = false
is_followed kinds.Evict = false
is_followed other = true

abbrev pub is_kept_for : Purpose → Bool
is_kept_for (purposes.Request kind first) = is_followed kind
is_kept_for (purposes.Snoop snoop) = false
is_kept_for (purposes.Unknown first) = false

abbrev pub is_unknown : Purpose → Bool
is_unknown (purposes.Request kind first) = false
is_unknown (purposes.Snoop snoop) = false
is_unknown (purposes.Unknown first) = true

-- an id that is opened
abbrev pub opened_id : IdKey → CacheLine → Purpose → OpenId
opened_id key line purpose = record { key = key; line = line; purpose = purpose; waits_for = None; lacks = None; begun = None; later = Told; dbid = None; since = 0 }

-- the ids without that of a key, if one is free; the last takes its place
abbrev pub without : Option IdKey → List (KeyNumbers × OpenId) → List (KeyNumbers × OpenId)
without None ids = ids
without (Some key) ids = swap_remove_entry (has_numbers_of key) ids

-- the same of a flit with this number
abbrev pub opened_at : ℕ → OpenId → OpenId
opened_at number id = record id { since = number }

-- the ids with another one under its key, if there is one
abbrev pub with_id : Option OpenId → List (KeyNumbers × OpenId) → List (KeyNumbers × OpenId)
with_id None ids = ids
with_id (Some id) ids = insert_entry is_same_numbers ids (numbers_of id.key) id
