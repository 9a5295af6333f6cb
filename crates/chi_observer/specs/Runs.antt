-- Whole traces, the newest flit first; z: whether stores may be hidden (docs/OBSERVER.md, "Worlds", "What is proved").
use Rattle.std.specs.Prelude.{◌≡◌, ◌≢◌, ◌⊎◌, ℕ, ◌<◌, Bool, true, false, ◌&&◌, None, List, [], ◌∷◌, ⊤}
use Rattle.chi_observer.specs.declared.told.Told.TheVariants.{I}
use Rattle.chi_observer.specs.declared.flits.Due.TheVariants.{Nothing}
use Rattle.chi_observer.specs.declared.flits.Stores.{Stores}
use Rattle.chi_observer.specs.declared.flits.Flit.{Flit}
use Rattle.chi_observer.specs.declared.flits.Flit.TheVariants.{Up, Down}
use Rattle.chi_observer.specs.declared.flits.CacheFlit.{CacheFlit}
use Rattle.chi_observer.specs.declared.flits.HomeFlit.{HomeFlit}
use Rattle.chi_observer.specs.Copies.{is_dirty}
use Rattle.chi_observer.specs.Copies.Copy.{Invalid}
use Rattle.chi_observer.specs.Judged.{is_judged}
use Rattle.chi_observer.specs.Rules.{plain, awaits_moment, reads_once, gives_data, needs_moment}
use Rattle.chi_observer.specs.Worlds.{Public, World, Coherent, Sends, reads, Drift, Gives, Informed, IsSafe, public_after, public_granted}
use Rattle.chi_observer.specs.Moments.{is_issue, shown_after, waits_after, has_moment}
use Rattle.chi_observer.specs.Observed.{Observed, Sound, Meaning, takes, next, takes_home, next_home}

-- THE TRUTH
abbrev pub quiet_public : Stores → Public
quiet_public z = record { stores = z; due = λ _. Nothing; snooped = λ _. None; duty = false; thrown = false }

abbrev pub public_of : Stores → List Flit → Public
public_of z [] = quiet_public z
public_of z (Up f ∷ es) = public_after f (public_of z es)
public_of z (Down g ∷ es) = public_granted g (public_of z es)

-- the worlds that hidden steps and the flits leave
abbrev pub After : Stores → List Flit → World → Type 0
After z [] w = ((n : ℕ) → n < 32 → w.state n ≡ plain Invalid) × (w.home ≡ w.last)
After z (Up f ∷ es) w = (before : World) × (sent : World) × After z es before × Sends (public_of z es) f before sent × Drift (public_of z (Up f ∷ es)) sent w
After z (Down g ∷ es) w = (before : World) × (given : World) × After z es before × Informed g before × Gives (public_of z es) g before given × Drift (public_of z (Down g ∷ es)) given w

-- those that the newest flit leaves, before hidden steps
abbrev pub Behind : Stores → List Flit → World → Type 0
Behind z [] w = After z [] w
Behind z (Up f ∷ es) w = (before : World) × After z es before × Sends (public_of z es) f before w
Behind z (Down g ∷ es) w = (before : World) × After z es before × Informed g before × Gives (public_of z es) g before w

-- no other copy is dirty, and unless n's own is the home has the value last stored
abbrev pub IsCleaned : ℕ → World → Type 0
IsCleaned n w = ((m : ℕ) → m < 32 → m ≢ n → is_dirty (w.state m).copy ≡ false) × (is_dirty (w.state n).copy ≡ false → w.home ≡ w.last)

abbrev pub NoneDirty : Stores → List Flit → ℕ → Type 0
NoneDirty z es n = (w : World) → Behind z es w → IsCleaned n w

abbrev pub HomeIsLast : Stores → List Flit → Type 0
HomeIsLast z es = (w : World) → Behind z es w → w.home ≡ w.last

-- the moment of n's ReadOnce, or of its CleanShared
abbrev pub IsMoment : Stores → Bool → List Flit → ℕ → Type 0
IsMoment z true es n = HomeIsLast z es
IsMoment z false es n = NoneDirty z es n

-- since the issue of n's CleanShared or ReadOnce, which is open, there was a flit behind which surely no other copy was
-- dirty, or the home had the value last stored
abbrev pub HasMoment : Stores → List Flit → ℕ → Type 0
HasMoment z [] n = ⊥
HasMoment z (e ∷ es) n = (awaits_moment ((public_of z (e ∷ es)).due n) ≡ true)
    × (((is_issue e n ≡ false) × HasMoment z es n) ⊎ IsMoment z (reads_once ((public_of z (e ∷ es)).due n)) (e ∷ es) n)

abbrev pub HasNeeded : Stores → List Flit → HomeFlit → Type 0
HasNeeded z es g = needs_moment g.grant ((public_of z es).due g.agent.0) ≡ true → HasMoment z es g.agent.0

-- a cache sends the flit in some world, whose copy has the word of a load, unless that may be any
abbrev pub IsSent : Stores → List Flit → CacheFlit → Type 0
IsSent z es f = (before : World) × (sent : World) × After z es before × Sends (public_of z es) f before sent × (reads (public_of z es) f before ≡ true)

-- each flit is one that is judged; each of a cache may be sent, and each of the home is safe and
-- has the moment that it needs
abbrev pub Legal : Stores → List Flit → Type 0
Legal z [] = ⊤
Legal z (Up f ∷ es) = Legal z es × (f.agent.0 < 32) × IsSent z es f × (is_judged (Up f) ≡ true)
Legal z (Down g ∷ es) = Legal z es × (g.agent.0 < 32) × ((w : World) × After z es w × Informed g w) × ((w : World) → After z es w → Informed g w → IsSafe (public_of z es) g w) × (is_judged (Down g) ≡ true) × HasNeeded z es g

-- THE OBSERVER
abbrev pub nothing_told : Stores → Observed
nothing_told z = record { public = quiet_public z; told = λ _. record { told = I; cancelled = false }; home = None; current = true }

abbrev pub seen : Stores → List Flit → Observed
seen z [] = nothing_told z
seen z (Up f ∷ es) = next (seen z es) f
seen z (Down g ∷ es) = next_home (seen z es) g

abbrev pub waits_by : Stores → List Flit → Bool
waits_by z [] = false
waits_by z (e ∷ es) = waits_after (seen z (e ∷ es)) e (waits_by z es)

abbrev pub shown_by : Stores → List Flit → ℕ → Bool
shown_by z [] n = false
shown_by z (e ∷ es) n = waits_by z (e ∷ es) && shown_after (seen z (e ∷ es)) e (shown_by z es) n

abbrev pub Accepted : Stores → List Flit → Type 0
Accepted z [] = ⊤
Accepted z (Up f ∷ es) = Accepted z es × (f.agent.0 < 32) × (takes (seen z es) f ≡ true) × (is_judged (Up f) ≡ true)
Accepted z (Down g ∷ es) = Accepted z es × (g.agent.0 < 32) × (takes_home (seen z es) g ≡ true) × (is_judged (Down g) ≡ true) × (has_moment (seen z es) (shown_by z es) g ≡ true)

-- v was the value last stored right behind a flit since the issue of n's request, on the way to w
abbrev pub WasValue : (z : Stores) (es : List Flit) (n : ℕ) (v : List ℕ) (w : World) → After z es w → Type 0
WasValue z [] n v w h = ⊥
WasValue z (Up f ∷ es) n v w h = (h.1.last ≡ v) ⊎ ((is_issue (Up f) n ≡ false) × WasValue z es n v h.0 h.2)
WasValue z (Down g ∷ es) n v w h = (h.1.last ≡ v) ⊎ WasValue z es n v h.0 h.2

-- the words that complete a ReadOnce
abbrev pub ReadOnceShowsValue : Type 0
ReadOnceShowsValue = (z : Stores) (es : List Flit) (g : HomeFlit) → Accepted z (Down g ∷ es) → gives_data g.grant ≡ true → reads_once ((public_of z es).due g.agent.0) ≡ true
    → (w : World) (h : After z es w) → Informed g w → WasValue z es g.agent.0 g.shown w h

-- what holds behind an accepted trace
pub record IsExact (z : Stores) (es : List Flit) : Type 0 where
  pub sound : Sound (seen z es)
  pub public : (seen z es).public ≡ public_of z es
  pub meant : (w : World) → After z es w → Meaning (seen z es) w
  pub after : (w : World) → Meaning (seen z es) w → After z es w

abbrev pub LegalIsAccepted : Type 0
LegalIsAccepted = (z : Stores) (es : List Flit) → Legal z es → Accepted z es

abbrev pub AcceptedIsLegal : Type 0
AcceptedIsLegal = (z : Stores) (es : List Flit) → Accepted z es → Legal z es

abbrev pub AcceptedIsExact : Type 0
AcceptedIsExact = (z : Stores) (es : List Flit) → Accepted z es → IsExact z es

abbrev pub AcceptedIsCoherent : Type 0
AcceptedIsCoherent = (z : Stores) (es : List Flit) → Accepted z es → (w : World) → After z es w → Coherent (public_of z es) w
