-- The truth of one line: worlds, hidden steps, what a cache may send in a world, and when a flit of the home is safe there
-- (docs/COPIES.md, "Worlds").
use Rattle.std.specs.Prelude.{◌≡◌, ◌≢◌, ◌⊎◌, ℕ, ◌<◌, Bool, true, false, ◌&&◌, ◌||◌, ◌==◌, not, Option, Some, suc, zero, nat_lt, ⊤, if◌then◌else◌}
use Rattle.chi_observer.specs.declared.kinds.Snoop.{Snoop}
use Rattle.chi_observer.specs.declared.flits.Due.{Due}
use Rattle.chi_observer.specs.declared.flits.Stores.{Stores}
use Rattle.chi_observer.specs.declared.flits.Act.{Act}
use Rattle.chi_observer.specs.declared.flits.Act.TheVariants.{Load, Store}
use Rattle.chi_observer.specs.declared.flits.CacheFlit.{CacheFlit}
use Rattle.chi_observer.specs.declared.flits.HomeFlit.{HomeFlit}
use Rattle.chi_observer.specs.Copies.{holds_data, is_unique, is_clean, same, compatible}
use Rattle.chi_observer.specs.Copies.Copy.{Invalid}
use Rattle.chi_observer.specs.Rules.{is_resending, are_hidden, word_at, lets_go, allows, has_data, writes, tells_words, stores, needs_alone, makes, settles, overwrites, needs_overwriter, due_after, snooped_after, passes_duty, is_due, needs_duty, needs_quiet, is_busy, due_granted, snooped_granted}
use Rattle.chi_copies.specs.Copies.{Held, shown_of}
use Rattle.chi_copies.specs.Rules.{is_free, acts, loses, freed, stored_to, dropped, granted, fills, shows, renews}

-- whether stores may be hidden, and what flits say by themselves: requests, snoops without an answer, and whether the home has dirty
-- data that it must write or pass on
pub record Public : Type 0 where
  pub stores : Stores
  pub due : ℕ → Due
  pub snooped : ℕ → Option Snoop
  pub duty : Bool

-- the eight words of a line
abbrev pub Words : Type 0
Words = ℕ → ℕ

abbrev pub Same : Words → Words → Type 0
Same u v = (p : ℕ) → p < 8 → u p ≡ v p

-- each copy, its words, the value last stored, and the home's own copy
pub record World : Type 0 where
  pub state : ℕ → Held
  pub words : ℕ → Words
  pub last : Words
  pub home : Words

-- nobody has stored since the home had the value
abbrev pub Shown : World → Type 0
Shown w = (n : ℕ) → n < 32 → (w.state n).stored ≡ false

-- no other copy beside a unique one, and one dirty owner; each copy with data has the value last stored, and the home has it
-- unless a copy was stored to since
pub record Coherent (w : World) : Type 0 where
  pub pairs : (n m : ℕ) → n < 32 → m < 32 → n ≢ m → compatible (w.state n).copy (w.state m).copy ≡ true
  pub words : (n : ℕ) → n < 32 → holds_data (w.state n).copy ≡ true → Same (w.words n) w.last
  pub memory : Shown w → Same w.home w.last

-- all but the copy of n is as f says
pub record Elsewhere (n : ℕ) (f : Held → Held) (w w' : World) : Type 0 where
  pub state : (m : ℕ) → m < 32 → m ≢ n → w'.state m ≡ f (w.state m)
  pub words : (m : ℕ) → m < 32 → m ≢ n → w'.words m ≡ w.words m

abbrev pub unchanged : Held → Held
unchanged h = h

-- HIDDEN STEPS
-- a store that isn't listed, to a unique copy, of a whole line where it has no data
pub record StoresUnseen (p : Public) (n : ℕ) (w w' : World) : Type 0 where
  pub hidden : are_hidden p.stores ≡ true
  pub free : is_free (p.due n) (w.state n) ≡ true
  pub unique : is_unique (w.state n).copy ≡ true
  pub dirty : w'.state n ≡ stored_to (w.state n)
  pub words : Same (w'.words n) w'.last

-- a drop of a clean copy
pub record Drops (p : Public) (n : ℕ) (w w' : World) : Type 0 where
  pub free : is_free (p.due n) (w.state n) ≡ true
  pub clean : is_clean (w.state n).copy ≡ true
  pub gone : w'.state n ≡ dropped (w.state n)
  pub last : w'.last ≡ w.last

-- a request that was retried is cancelled
pub record Cancels (p : Public) (n : ℕ) (w w' : World) : Type 0 where
  pub retried : is_resending (p.due n) ≡ true
  pub gone : w'.state n ≡ freed (p.due n) (w.state n)
  pub words : w'.words n ≡ w.words n
  pub last : w'.last ≡ w.last

pub record Hidden (p : Public) (w w' : World) : Type 0 where
  pub agent : ℕ
  pub low : agent < 32
  pub others : Elsewhere agent unchanged w w'
  pub home : w'.home ≡ w.home
  pub how : StoresUnseen p agent w w' ⊎ (Drops p agent w w' ⊎ Cancels p agent w w')

pub data Drift (p : Public) : World → World → Type 0 where
  Stay : {w : World} → Drift p w w
  Step : {u v w : World} → Hidden p u v → Drift p v w → Drift p u w

-- A FLIT OF A CACHE
-- the words have that of a load
abbrev pub has_word : Act → Words → Bool
has_word (Load word) words = words word.place.0 == word.value
has_word other words = true

-- others behind a flit: the home has the value where it tells words
abbrev pub others_then : Act → Held → Held
others_then a h = if tells_words a then shown_of h else h

-- the value behind a store: its word, and, where no other store may be hidden, the others that were
pub record Stored (word : ℕ) (value : ℕ) (had : Bool) (old new : Words) : Type 0 where
  pub here : new word ≡ value
  pub there : had ≡ true → (p : ℕ) → p < 8 → p ≢ word → new p ≡ old p

abbrev pub StoresWord : Act → Stores → Bool → Words → Words → Type 0
StoresWord (Store word) z had old new = are_hidden z ≡ false → Stored word.place.0 word.value had old new
StoresWord other z had old new = ⊤

-- a load or a store is of one of the eight words
abbrev pub is_placed : Act → Bool
is_placed (Load word) = nat_lt word.place.0 8
is_placed (Store word) = nat_lt word.place.0 8
is_placed other = true

-- it stores, or is a load that tells of a store
abbrev pub makes_value : Act → Bool → Bool
makes_value a own = not own || stores a

-- the value is as it was
abbrev pub keeps_value : Act → Bool → Bool → Held → Bool
keeps_value a own x h = not (makes_value a own) && not (loses a x h)

-- sent by the copy alone; data are the copy's words, and the home has them then; what is written without a copy is the value last
-- stored; where that is lost it is any
pub record Sends (p : Public) (f : CacheFlit) (w w' : World) : Type 0 where
  pub allowed : allows f.act (p.snooped f.agent.0) ≡ true
  pub placed : is_placed f.act ≡ true
  pub act : acts p.stores f.act (has_word f.act (w.words f.agent.0)) (lets_go (p.snooped f.agent.0)) (p.due f.agent.0) (w.state f.agent.0) ≡ Some (w'.state f.agent.0)
  pub shown : has_data f.act ≡ true → Same (word_at f.shown) (w.words f.agent.0)
  pub last : keeps_value f.act (has_word f.act (w.words f.agent.0)) (lets_go (p.snooped f.agent.0)) (w.state f.agent.0) ≡ true → Same w'.last (if writes f.act then word_at f.shown else w.last)
  pub stored : StoresWord f.act p.stores (holds_data (w.state f.agent.0).copy) w.last w'.last
  pub home : Same w'.home (if tells_words f.act then word_at f.shown else w.home)
  pub words : holds_data (w'.state f.agent.0).copy ≡ true → makes_value f.act (has_word f.act (w.words f.agent.0)) ≡ false → Same (w'.words f.agent.0) (w.words f.agent.0)
  pub made : makes_value f.act (has_word f.act (w.words f.agent.0)) ≡ true → Same (w'.words f.agent.0) w'.last
  pub others : Elsewhere f.agent.0 (others_then f.act) w w'

-- f with x at n
abbrev pub put : {A : Type 0} → ℕ → A → (ℕ → A) → ℕ → A
put n x f m = if m == n then x else f m

abbrev pub public_after : CacheFlit → Public → Public
public_after f p = record {
  stores = p.stores;
  due = put f.agent.0 (due_after f.act (p.due f.agent.0)) p.due;
  snooped = put f.agent.0 (snooped_after f.act (p.snooped f.agent.0)) p.snooped;
  duty = p.duty || passes_duty f.act;
}

-- A FLIT OF THE HOME
-- of each number below one
abbrev pub all_below : ℕ → (ℕ → Bool) → Bool
all_below zero f = true
all_below (suc k) f = f k && all_below k f

-- a request of another agent is open for which copies may be thrown away
abbrev pub is_overwritten : Public → ℕ → Bool
is_overwritten p n = not (all_below 32 (λ m. m == n || not (overwrites (p.due m))))

-- by what flits say the home may send it
abbrev pub home_may : Public → HomeFlit → Bool
home_may p g = is_due g.grant (p.due g.agent.0) (p.snooped g.agent.0)
    && ((not (needs_duty g.grant) || p.duty) && ((not (needs_quiet g.grant) || all_below 32 (λ m. not (is_busy (p.due m))))
    && (not (needs_overwriter g.grant) || is_overwritten p g.agent.0)))

abbrev pub others_given : HomeFlit → Public → Held → Held
others_given g p h = if renews g.grant (p.due g.agent.0) then shown_of h else h

-- what it does; at the completion of a MakeUnique its agent writes any words, and behind that of a MakeInvalid the home's own are the
-- value
pub record Gives (p : Public) (g : HomeFlit) (w w' : World) : Type 0 where
  pub state : w'.state g.agent.0 ≡ granted g.grant (p.due g.agent.0) (w.state g.agent.0)
  pub home : w'.home ≡ w.home
  pub words : holds_data (w'.state g.agent.0).copy ≡ true → makes g.grant (p.due g.agent.0) ≡ false → Same (w'.words g.agent.0) (if fills g.grant (w.state g.agent.0) then word_at g.shown else w.words g.agent.0)
  pub last : makes g.grant (p.due g.agent.0) ≡ false → Same w'.last (if settles g.grant (p.due g.agent.0) then w.home else w.last)
  pub made : makes g.grant (p.due g.agent.0) ≡ true → Same (w'.words g.agent.0) w'.last
  pub others : Elsewhere g.agent.0 (others_given g p) w w'

abbrev pub public_granted : HomeFlit → Public → Public
public_granted g p = record {
  stores = p.stores;
  due = put g.agent.0 (due_granted g.grant (p.due g.agent.0)) p.due;
  snooped = put g.agent.0 (snooped_granted g.grant (p.snooped g.agent.0)) p.snooped;
  duty = p.duty && not (needs_duty g.grant);
}

-- no other copy is left
abbrev pub IsAlone : ℕ → World → Type 0
IsAlone n w = (m : ℕ) → m < 32 → m ≢ n → same (w.state m).copy Invalid ≡ true

-- it may be sent and leaves all in order; and no other copy is left where it says so
abbrev pub IsSafe : Public → HomeFlit → World → Type 0
IsSafe p g w = (home_may p g ≡ true) × ((w' : World) → Gives p g w w' → Coherent w') × (needs_alone g.grant (p.due g.agent.0) ≡ true → IsAlone g.agent.0 w)

-- the home sends its own copy
abbrev pub Informed : HomeFlit → World → Type 0
Informed g w = shows g.grant (w.state g.agent.0) ≡ true → Same w.home (word_at g.shown)
