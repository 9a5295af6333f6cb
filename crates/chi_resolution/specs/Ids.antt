-- The ids that are open, each under its key (docs/TRACES.md, "Nodes, ids and credits").
use Rattle.std.specs.Prelude.{ℕ, ◌==◌, ◌&&◌, Bool, false, List, Option, Some, None}
use Rattle.std.specs.List.{list_any}
use Rattle.std.specs.Map.{lookup, values_of}
use Rattle.indexmap.specs.IndexMap.{insert_entry, swap_remove_entry}
use Rattle.chi_trace.specs.declared.fields.NodeId.{NodeId}
use Rattle.chi_resolution.specs.declared.ids.KeyNumbers.{KeyNumbers}
use Rattle.chi_resolution.specs.declared.ids.OpenId.{OpenId}
use Rattle.chi_resolution.specs.declared.ids.OpenKey.{OpenKey}
use Rattle.chi_resolution.specs.declared.ids.OpenKey.TheVariants.{Request, Buffer, Snoop, Retried}
use Rattle.chi_resolution.specs.declared.lines.CacheLine.{CacheLine}

-- a key as numbers, by which a table finds what it names
abbrev pub numbers_of : OpenKey → KeyNumbers
numbers_of (Request node txn) = record { sort = 0; node = node.0; number = txn.0 }
numbers_of (Buffer node dbid) = record { sort = 1; node = node.0; number = dbid.0 }
numbers_of (Snoop node txn) = record { sort = 2; node = node.0; number = txn.0 }
numbers_of (Retried node line) = record { sort = 3; node = node.0; number = line.0 }

abbrev pub is_same_numbers : KeyNumbers → KeyNumbers → Bool
is_same_numbers one other = one.sort == other.sort && (one.node == other.node && one.number == other.number)

abbrev pub has_numbers_of : OpenKey → KeyNumbers → Bool
has_numbers_of key numbers = is_same_numbers (numbers_of key) numbers

-- the open id of a key
abbrev pub id_of : OpenKey → List (KeyNumbers × OpenId) → Option OpenId
id_of key ids = lookup (has_numbers_of key) ids

-- an id that no more is known of than its line, and how many flits were resolved before it was opened
abbrev pub plain_id : OpenKey → CacheLine → ℕ → OpenId
plain_id key line place = record { key = key; line = line; place = place; may_retry = None; waits_for = None; awaits_ack = false }

-- a CompAck of the node at the line is to free it
abbrev pub is_key_of : NodeId → OpenKey → Bool
is_key_of node (Buffer n d) = n.0 == node.0
is_key_of node other = false

abbrev pub is_ack_due : NodeId → CacheLine → OpenId → Bool
is_ack_due node line id = is_key_of node id.key && (id.awaits_ack && id.line.0 == line.0)

abbrev pub is_completed : NodeId → CacheLine → List (KeyNumbers × OpenId) → Bool
is_completed node line ids = list_any (is_ack_due node line) (values_of ids)

-- the ids without that of a key, if one is free; the last takes its place
abbrev pub without : Option OpenKey → List (KeyNumbers × OpenId) → List (KeyNumbers × OpenId)
without None ids = ids
without (Some key) ids = swap_remove_entry (has_numbers_of key) ids

-- the ids and another one, if one is opened
abbrev pub with_id : Option OpenId → List (KeyNumbers × OpenId) → List (KeyNumbers × OpenId)
with_id None ids = ids
with_id (Some id) ids = insert_entry is_same_numbers ids (numbers_of id.key) id
