-- What an agent's copy may be: a set of copies, each with what only its agent knows (docs/COPIES.md, "What a copy is").
use Rattle.std.specs.Prelude.{Bool, true, false, ◌&&◌, ◌||◌, not, Option, Some, None}
use Rattle.chi_observer.specs.Copies.{Copy, holds_data, same, compatible}
use Rattle.chi_observer.specs.Copies.Copy.{Invalid, SharedClean, UniqueClean, UniqueEmpty, UniqueDirty, SharedDirty, Writing}

-- a copy; whether its agent has cancelled its request that was retried; and whether it was stored to since the home has had its
-- words: the home hasn't the value then. A copy without data is so where one that was stored to was thrown away
pub record Held : Type 0 where
  pub copy : Copy
  pub cancelled : Bool
  pub stored : Bool

abbrev pub plain : Copy → Held
plain s = record { copy = s; cancelled = false; stored = false }

-- the home has its words
abbrev pub shown_of : Held → Held
shown_of h = record { copy = h.copy; cancelled = h.cancelled; stored = false }

-- the value is lost with it
abbrev pub is_lost : Held → Bool
is_lost h = h.stored && not (holds_data h.copy)

-- it has the value, and so has the home
abbrev pub is_fresh : Held → Bool
is_fresh h = holds_data h.copy && not h.stored

-- it has the value, and the home hasn't
abbrev pub is_newer : Held → Bool
is_newer h = h.stored && holds_data h.copy

-- two agents may have such copies together: by the standard, and nobody has the home's words where the value is lost
abbrev pub beside : Held → Held → Bool
beside h k = compatible h.copy k.copy && (not (is_lost h && is_fresh k) && not (is_fresh h && is_lost k))

abbrev pub alike : Bool → Bool → Bool
alike true b = b
alike false b = not b

abbrev pub same_held : Held → Held → Bool
same_held h k = same h.copy k.copy && (alike h.cancelled k.cancelled && alike h.stored k.stored)

abbrev pub leaves : Option Held → Held → Bool
leaves None k = false
leaves (Some h) k = same_held h k

-- SETS
abbrev pub Copies : Type 0
Copies = Held → Bool

abbrev pub any_bool : (Bool → Bool) → Bool
any_bool f = f true || f false

abbrev pub any_copy : (Copy → Bool) → Bool
any_copy f = f Invalid || (f SharedClean || (f UniqueClean || (f UniqueEmpty || (f UniqueDirty || (f SharedDirty || f Writing)))))

abbrev pub any_held : (Held → Bool) → Bool
any_held f = any_copy (λ s. any_bool (λ c. any_bool (λ b. f (record { copy = s; cancelled = c; stored = b }))))

-- the copies that those of a set lead to
abbrev pub image : (Held → Copies) → Copies → Copies
image R S k = any_held (λ h. S h && R h k)

-- each copy of one goes with each of the other
abbrev pub all_beside : Copies → Copies → Bool
all_beside S T = not (any_held (λ h. S h && any_held (λ k. T k && not (beside h k))))
