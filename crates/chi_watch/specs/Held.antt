-- The flits of a cache line that wait for words of data (docs/WATCH.md, "Data in beats").
use Rattle.std.specs.Prelude.{◌≡◌, ℕ, ◌==◌, zero, suc, Bool, true, false, List, [], ◌∷◌, ◌++◌, Option, Some, None, Result, Ok, Err, if◌then◌else◌, length, nat_lt}
use Rattle.chi_issue_b.specs.declared.beat.Beat.{Beat}
use Rattle.chi_watch.specs.declared.held.Held.{Held}
use Rattle.chi_watch.specs.declared.held.HeldFlit.{HeldFlit}
use Rattle.chi_watch.specs.declared.held.HeldStop.{HeldStop}
use Rattle.chi_watch.specs.declared.held.HeldStop.TheVariants.{Full, NoMemory}
use Rattle.chi_watch.specs.declared.held.TheConstants.{ROOM}
use Rattle.chi_watch.specs.Beats.{told_with}

abbrev pub held_in : {A : Type 0} → Held A → List HeldFlit
held_in held = held.waiting.items

-- no word of it lacks
abbrev pub is_whole_by : Option ℕ → Bool
is_whole_by None = true
is_whole_by (Some id) = false

abbrev pub is_whole : HeldFlit → Bool
is_whole held = is_whole_by held.awaits

-- beats of this id have words that lack
abbrev pub awaits_by : ℕ → Option ℕ → Bool
awaits_by id None = false
awaits_by id (Some awaited) = awaited == id

abbrev pub awaits : ℕ → HeldFlit → Bool
awaits id held = awaits_by id held.awaits

-- a flit behind a later beat of its data, with the number of that
abbrev pub joined : Beat → ℕ → Bool → HeldFlit → HeldFlit
joined beat number is_last held =
    record held { told = told_with held.told beat; awaits = if is_last then None else held.awaits; last = number }

-- THE QUEUE
abbrev pub is_none_held : List HeldFlit → Bool
is_none_held [] = true
is_none_held (held ∷ rest) = false

abbrev pub has_room : List HeldFlit → Bool
has_room waiting = nat_lt (length waiting) ROOM

-- a flit comes to wait behind the others, if there is room for one more
abbrev pub IsPushed : {A : Type 0} → (old new : List HeldFlit) → HeldFlit → Result A HeldStop → Type 0
IsPushed old new flit (Ok done) = (has_room old ≡ true) × (new ≡ old ++ flit ∷ [])
IsPushed old new flit (Err Full) = (has_room old ≡ false) × (new ≡ old)
IsPushed old new flit (Err NoMemory) = (has_room old ≡ true) × (new ≡ old)

-- a beat joins the first flit that awaits its id
abbrev pub joined_in : ℕ → Beat → ℕ → Bool → List HeldFlit → List HeldFlit
joined_in id beat number is_last [] = []
joined_in id beat number is_last (held ∷ rest) =
    if awaits id held then joined beat number is_last held ∷ rest else held ∷ joined_in id beat number is_last rest

-- or the one at a place
abbrev pub joined_at : ℕ → Beat → ℕ → Bool → List HeldFlit → List HeldFlit
joined_at place beat number is_last [] = []
joined_at zero beat number is_last (held ∷ rest) = joined beat number is_last held ∷ rest
joined_at (suc place) beat number is_last (held ∷ rest) = held ∷ joined_at place beat number is_last rest

-- the front, once it is whole, and what waits behind it
abbrev pub next_in : List HeldFlit → Option HeldFlit
next_in [] = None
next_in (held ∷ rest) = if is_whole held then Some held else None

abbrev pub rest_of : List HeldFlit → List HeldFlit
rest_of [] = []
rest_of (held ∷ rest) = if is_whole held then rest else held ∷ rest
