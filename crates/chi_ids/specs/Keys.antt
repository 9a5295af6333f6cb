-- What an open id is named by: its sort, its home, its requester and its number (docs/OBSERVER.md, "Ids and credits").
use Rattle.std.specs.Prelude.{◌==◌, ◌&&◌, Bool}
use Rattle.chi_ids.specs.declared.keys.IdKey.{IdKey}
use Rattle.chi_ids.specs.declared.keys.IdKey.TheVariants.{Request, Buffer, Snoop, Retried}
use Rattle.chi_ids.specs.declared.keys.KeyNumbers.{KeyNumbers}
use Rattle.chi_ids.specs.declared.keys.Sides.{Sides}

-- a key as numbers, by which a table finds what it names
abbrev pub numbers_of : IdKey → KeyNumbers
numbers_of (Request sides txn) = record { sort = 0; home = sides.home.0; requester = sides.requester.0; number = txn.0 }
numbers_of (Buffer sides dbid) = record { sort = 1; home = sides.home.0; requester = sides.requester.0; number = dbid.0 }
numbers_of (Snoop sides txn) = record { sort = 2; home = sides.home.0; requester = sides.requester.0; number = txn.0 }
numbers_of (Retried sides line) = record { sort = 3; home = sides.home.0; requester = sides.requester.0; number = line.0 }

abbrev pub is_same_numbers : KeyNumbers → KeyNumbers → Bool
is_same_numbers one other = one.sort == other.sort && (one.home == other.home && (one.requester == other.requester && one.number == other.number))

-- its nodes
abbrev pub sides_of : IdKey → Sides
sides_of (Request sides txn) = sides
sides_of (Buffer sides dbid) = sides
sides_of (Snoop sides txn) = sides
sides_of (Retried sides line) = sides

-- the same key, but for its home
abbrev pub alike_numbers : KeyNumbers → KeyNumbers → Bool
alike_numbers one other = one.sort == other.sort && (one.requester == other.requester && one.number == other.number)

abbrev pub is_alike : IdKey → IdKey → Bool
is_alike key other = alike_numbers (numbers_of key) (numbers_of other)
