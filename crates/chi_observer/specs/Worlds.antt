-- The truth of one line: worlds, hidden steps, what a cache may send in a world, and when a flit of the home is safe
-- there (docs/OBSERVER.md, "Worlds").
use Rattle.std.specs.Prelude.{◌≡◌, ◌≢◌, ◌⊎◌, ℕ, ◌<◌, List, Bool, true, false, ◌&&◌, ◌||◌, ◌==◌, not, Option, Some, suc, zero, if◌then◌else◌}
use Rattle.chi_observer.specs.declared.kinds.Snoop.{Snoop}
use Rattle.chi_observer.specs.declared.flits.Due.{Due}
use Rattle.chi_observer.specs.declared.flits.Stores.{Stores}
use Rattle.chi_observer.specs.declared.flits.CacheFlit.{CacheFlit}
use Rattle.chi_observer.specs.declared.flits.HomeFlit.{HomeFlit}
use Rattle.chi_observer.specs.Copies.{Held, holds_data, is_unique, is_clean, is_dirty, same, compatible}
use Rattle.chi_observer.specs.Copies.Copy.{Invalid, UniqueDirty}
use Rattle.chi_observer.specs.Rules.{is_free, is_resending, are_hidden, has_word, reads_later, allows, acts, has_data, writes, tells_words, lets_go, throws, stores, leaves_any, needs_alone, makes, settles, overwrites, needs_overwriter, due_after, snooped_after, passes_duty, is_due, needs_duty, needs_quiet, is_busy, granted, fills, shows, due_granted, snooped_granted}

-- whether stores may be hidden, and what flits say by themselves: requests, snoops without an answer, whether the home has
-- dirty data that it must write or pass on, and whether a SnpMakeInvalid was answered and no flit has shown or made the
-- line's value since
pub record Public : Type 0 where
  pub stores : Stores
  pub due : ℕ → Due
  pub snooped : ℕ → Option Snoop
  pub duty : Bool
  pub thrown : Bool

-- each copy (and whether a retried request was cancelled), its words, the value last stored, and the home's own copy
pub record World : Type 0 where
  pub state : ℕ → Held
  pub words : ℕ → List ℕ
  pub last : List ℕ
  pub home : List ℕ

abbrev pub Clean : World → Type 0
Clean w = (n : ℕ) → n < 32 → is_dirty (w.state n).copy ≡ false

-- no other copy beside a unique one, and one dirty owner; each copy with data has the value last stored, and the home
-- has it where nobody is dirty and no SnpMakeInvalid was answered since
pub record Coherent (p : Public) (w : World) : Type 0 where
  pub pairs : (n m : ℕ) → n < 32 → m < 32 → n ≢ m → compatible (w.state n).copy (w.state m).copy ≡ true
  pub words : (n : ℕ) → n < 32 → holds_data (w.state n).copy ≡ true → w.words n ≡ w.last
  pub memory : p.thrown ≡ false → Clean w → w.home ≡ w.last

-- only the copy of n differs
pub record Elsewhere (n : ℕ) (w w' : World) : Type 0 where
  pub state : (m : ℕ) → m < 32 → m ≢ n → w'.state m ≡ w.state m
  pub words : (m : ℕ) → m < 32 → m ≢ n → w'.words m ≡ w.words m

-- HIDDEN STEPS
-- a store that isn't listed, to a unique copy, of a whole line where it has no data
pub record StoresUnseen (p : Public) (n : ℕ) (w w' : World) : Type 0 where
  pub hidden : are_hidden p.stores ≡ true
  pub free : is_free (p.due n) (w.state n) ≡ true
  pub unique : is_unique (w.state n).copy ≡ true
  pub dirty : w'.state n ≡ record { copy = UniqueDirty; cancelled = (w.state n).cancelled }
  pub words : w'.words n ≡ w'.last

-- a drop of a clean copy
pub record Drops (p : Public) (n : ℕ) (w w' : World) : Type 0 where
  pub free : is_free (p.due n) (w.state n) ≡ true
  pub clean : is_clean (w.state n).copy ≡ true
  pub gone : w'.state n ≡ record { copy = Invalid; cancelled = (w.state n).cancelled }
  pub last : w'.last ≡ w.last

-- a request that was retried is cancelled
pub record Cancels (p : Public) (n : ℕ) (w w' : World) : Type 0 where
  pub retried : is_resending (p.due n) ≡ true
  pub waits : (w.state n).cancelled ≡ false
  pub gone : w'.state n ≡ record { copy = (w.state n).copy; cancelled = true }
  pub words : w'.words n ≡ w.words n
  pub last : w'.last ≡ w.last

pub record Hidden (p : Public) (w w' : World) : Type 0 where
  pub agent : ℕ
  pub low : agent < 32
  pub others : Elsewhere agent w w'
  pub home : w'.home ≡ w.home
  pub how : StoresUnseen p agent w w' ⊎ (Drops p agent w w' ⊎ Cancels p agent w w')

pub data Drift (p : Public) : World → World → Type 0 where
  Stay : {w : World} → Drift p w w
  Step : {u v w : World} → Hidden p u v → Drift p v w → Drift p u w

-- A FLIT OF A CACHE
-- sent by the copy alone; data are the copy's words, and the home has them then; what is written without a copy is the
-- value last stored; where that is lost it is any, and so is what is stored
pub record Sends (p : Public) (f : CacheFlit) (w w' : World) : Type 0 where
  pub allowed : allows f.act (p.snooped f.agent.0) ≡ true
  pub act : acts f.act (lets_go (p.snooped f.agent.0)) (p.due f.agent.0) (w.state f.agent.0) ≡ Some (w'.state f.agent.0)
  pub shown : has_data f.act ≡ true → f.shown ≡ w.words f.agent.0
  pub last : leaves_any p.stores f.act (lets_go (p.snooped f.agent.0)) (p.due f.agent.0) (w.state f.agent.0).copy ≡ false → w'.last ≡ (if writes f.act then f.shown else w.last)
  pub home : w'.home ≡ (if tells_words f.act then f.shown else w.home)
  pub words : holds_data (w'.state f.agent.0).copy ≡ true → stores f.act ≡ false → w'.words f.agent.0 ≡ w.words f.agent.0
  pub stored : stores f.act ≡ true → w'.words f.agent.0 ≡ w'.last
  pub others : Elsewhere f.agent.0 w w'

-- its copy has the word of a load, or that counts behind the CompAck, and a store before it
abbrev pub reads : Public → CacheFlit → World → Bool
reads p f w = reads_later p.stores (p.due f.agent.0) (w.state f.agent.0).copy || has_word f.act (w.words f.agent.0)

-- f with x at n
abbrev pub put : {A : Type 0} → ℕ → A → (ℕ → A) → ℕ → A
put n x f m = if m == n then x else f m

abbrev pub public_after : CacheFlit → Public → Public
public_after f p = record {
  stores = p.stores;
  due = put f.agent.0 (due_after f.act (p.due f.agent.0)) p.due;
  snooped = put f.agent.0 (snooped_after f.act (p.snooped f.agent.0)) p.snooped;
  duty = p.duty || passes_duty f.act;
  thrown = if tells_words f.act then false else p.thrown || throws f.act (lets_go (p.snooped f.agent.0));
}

-- A FLIT OF THE HOME
-- of each number below one
abbrev pub all_below : ℕ → (ℕ → Bool) → Bool
all_below zero f = true
all_below (suc k) f = f k && all_below k f

-- a request of another agent is open for which copies may be thrown away
abbrev pub is_overwritten : Public → ℕ → Bool
is_overwritten p n = not (all_below 32 (λ m. m == n || not (overwrites (p.due m))))

-- by what flits say the home may send it
abbrev pub home_may : Public → HomeFlit → Bool
home_may p g = is_due g.grant (p.due g.agent.0) (p.snooped g.agent.0)
    && ((not (needs_duty g.grant) || p.duty) && ((not (needs_quiet g.grant) || all_below 32 (λ m. not (is_busy (p.due m))))
    && (not (needs_overwriter g.grant) || is_overwritten p g.agent.0)))

-- what it does; at the completion of a MakeUnique its agent writes any words, and behind that of a MakeInvalid the home's
-- own are the value
pub record Gives (p : Public) (g : HomeFlit) (w w' : World) : Type 0 where
  pub state : w'.state g.agent.0 ≡ granted g.grant (p.due g.agent.0) (w.state g.agent.0)
  pub home : w'.home ≡ w.home
  pub words : holds_data (w'.state g.agent.0).copy ≡ true → makes g.grant (p.due g.agent.0) ≡ false → w'.words g.agent.0 ≡ (if fills g.grant (w.state g.agent.0) then g.shown else w.words g.agent.0)
  pub last : makes g.grant (p.due g.agent.0) ≡ false → w'.last ≡ (if settles g.grant (p.due g.agent.0) then w.home else w.last)
  pub made : makes g.grant (p.due g.agent.0) ≡ true → w'.words g.agent.0 ≡ w'.last
  pub others : Elsewhere g.agent.0 w w'

abbrev pub public_granted : HomeFlit → Public → Public
public_granted g p = record {
  stores = p.stores;
  due = put g.agent.0 (due_granted g.grant (p.due g.agent.0)) p.due;
  snooped = put g.agent.0 (snooped_granted g.grant (p.snooped g.agent.0)) p.snooped;
  duty = p.duty && not (needs_duty g.grant);
  thrown = p.thrown && not (makes g.grant (p.due g.agent.0) || settles g.grant (p.due g.agent.0));
}

-- no other copy is left
abbrev pub IsAlone : ℕ → World → Type 0
IsAlone n w = (m : ℕ) → m < 32 → m ≢ n → same (w.state m).copy Invalid ≡ true

-- it may be sent and leaves all in order; and no other copy is left where it says so
abbrev pub IsSafe : Public → HomeFlit → World → Type 0
IsSafe p g w = (home_may p g ≡ true) × ((w' : World) → Gives p g w w' → Coherent (public_granted g p) w') × (needs_alone g.grant (p.due g.agent.0) ≡ true → IsAlone g.agent.0 w)

-- the home sends its own copy
abbrev pub Informed : HomeFlit → World → Type 0
Informed g w = shows g.grant (w.state g.agent.0) ≡ true → w.home ≡ g.shown
