-- The code's copies, and sets of them as bits (docs/COPIES.md, "What a copy is").
use Rattle.std.specs.Prelude.{ℕ, zero, suc, ◌+◌, ◌/◌, ◌%◌, ◌==◌, Bool, false, ◌||◌, Option, Some, None, if◌then◌else◌}
use Rattle.std.specs.Int.{bit_at}
use Rattle.chi_copies.specs.declared.held.CacheCopy.{CacheCopy}
use Rattle.chi_copies.specs.declared.held.CacheCopy.TheVariants as codes
use Rattle.chi_copies.specs.declared.held.Held.{Held as HeldCode}
use Rattle.chi_copies.specs.declared.copies.Copies.{Copies as CopiesCode}
use Rattle.chi_observer.specs.Copies.{Copy}
use Rattle.chi_observer.specs.Copies.Copy.{Invalid, SharedClean, UniqueClean, UniqueEmpty, UniqueDirty, SharedDirty, Writing}
use Rattle.chi_copies.specs.Copies.{Held, Copies}

abbrev pub copy_is : CacheCopy → Copy
copy_is codes.Invalid = Invalid
copy_is codes.SharedClean = SharedClean
copy_is codes.UniqueClean = UniqueClean
copy_is codes.UniqueEmpty = UniqueEmpty
copy_is codes.UniqueDirty = UniqueDirty
copy_is codes.SharedDirty = SharedDirty
copy_is codes.Writing = Writing

abbrev pub held_is : HeldCode → Held
held_is h = record { copy = copy_is h.copy; cancelled = h.cancelled; stored = h.stored }

abbrev pub some_held : Option HeldCode → Option Held
some_held None = None
some_held (Some h) = Some (held_is h)

-- A SET: the bit of each copy
abbrev pub place_of_copy : Copy → ℕ
place_of_copy Invalid = 0
place_of_copy SharedClean = 1
place_of_copy UniqueClean = 2
place_of_copy UniqueEmpty = 3
place_of_copy UniqueDirty = 4
place_of_copy SharedDirty = 5
place_of_copy Writing = 6

abbrev pub place_of : Held → ℕ
place_of h = place_of_copy h.copy + ((if h.cancelled then 7 else 0) + (if h.stored then 14 else 0))

-- and the copy of each bit
abbrev pub copy_at : ℕ → Copy
copy_at p = if p == 0 then Invalid else (if p == 1 then SharedClean else (if p == 2 then UniqueClean else (if p == 3 then UniqueEmpty else (if p == 4 then UniqueDirty else (if p == 5 then SharedDirty else Writing)))))

abbrev pub held_at : ℕ → Held
held_at p = record { copy = copy_at (p % 7); cancelled = p / 7 % 2 == 1; stored = p / 14 == 1 }

abbrev pub members : CopiesCode → Copies
members s h = bit_at s.bits (place_of h) == 1

-- of each number below one
abbrev pub any_below : ℕ → (ℕ → Bool) → Bool
any_below zero f = false
any_below (suc k) f = f k || any_below k f
