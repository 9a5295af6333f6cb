-- Whole traces, the newest flit first; z: whether stores may be hidden (docs/COPIES.md, "Worlds", "What is proved").
use Rattle.std.specs.Prelude.{◌≡◌, ◌≢◌, ◌⊎◌, ℕ, ◌<◌, Bool, true, false, None, List, [], ◌∷◌, ⊤}
use Rattle.chi_observer.specs.declared.flits.Due.TheVariants.{Nothing}
use Rattle.chi_observer.specs.declared.flits.Stores.{Stores}
use Rattle.chi_observer.specs.declared.flits.Flit.{Flit}
use Rattle.chi_observer.specs.declared.flits.Flit.TheVariants.{Up, Down}
use Rattle.chi_observer.specs.declared.flits.HomeFlit.{HomeFlit}
use Rattle.chi_observer.specs.Copies.{is_dirty}
use Rattle.chi_observer.specs.Copies.Copy.{Invalid}
use Rattle.chi_observer.specs.Rules.{awaits_moment, reads_once, needs_moment}
use Rattle.chi_copies.specs.Copies.{plain, same_held}
use Rattle.chi_copies.specs.Worlds.{Public, World, Same, Shown, Coherent, Sends, Drift, Gives, Informed, IsSafe, public_after, public_granted}
use Rattle.chi_copies.specs.Observed.{Observed, Sound, Closed, Meaning, takes, next, takes_home, next_home, no_words}
use Rattle.chi_copies.specs.Moments.{is_issue, shown_after, has_moment}

-- THE TRUTH
abbrev pub quiet_public : Stores → Public
quiet_public z = record { stores = z; due = λ _. Nothing; snooped = λ _. None; duty = false }

abbrev pub public_of : Stores → List Flit → Public
public_of z [] = quiet_public z
public_of z (Up f ∷ es) = public_after f (public_of z es)
public_of z (Down g ∷ es) = public_granted g (public_of z es)

-- the worlds that hidden steps and the flits leave
abbrev pub After : Stores → List Flit → World → Type 0
After z [] w = ((n : ℕ) → n < 32 → w.state n ≡ plain Invalid) × (Same w.home w.last)
After z (Up f ∷ es) w = (before : World) × (sent : World) × After z es before × Sends (public_of z es) f before sent × Drift (public_of z (Up f ∷ es)) sent w
After z (Down g ∷ es) w = (before : World) × (given : World) × After z es before × Informed g before × Gives (public_of z es) g before given × Drift (public_of z (Down g ∷ es)) given w

-- those that the newest flit leaves, before hidden steps
abbrev pub Behind : Stores → List Flit → World → Type 0
Behind z [] w = After z [] w
Behind z (Up f ∷ es) w = (before : World) × After z es before × Sends (public_of z es) f before w
Behind z (Down g ∷ es) w = (before : World) × After z es before × Informed g before × Gives (public_of z es) g before w

-- no other copy is dirty, and the home has the value unless n's own copy does
pub record IsCleaned (n : ℕ) (w : World) : Type 0 where
  pub others : (m : ℕ) → m < 32 → m ≢ n → is_dirty (w.state m).copy ≡ false
  pub value : (m : ℕ) → m < 32 → (w.state m).stored ≡ true → is_dirty (w.state m).copy ≡ true

-- the moment of n's ReadOnce (the home has the value), or of its CleanShared
abbrev pub IsMoment : Stores → Bool → List Flit → ℕ → Type 0
IsMoment z true es n = (w : World) → Behind z es w → Shown w
IsMoment z false es n = (w : World) → Behind z es w → IsCleaned n w

-- since the issue of n's CleanShared or ReadOnce, which is open, there was a flit behind which surely no other copy was dirty, or the
-- home had the value last stored
abbrev pub HasMoment : Stores → List Flit → ℕ → Type 0
HasMoment z [] n = ⊥
HasMoment z (e ∷ es) n = (awaits_moment ((public_of z (e ∷ es)).due n) ≡ true)
    × (((is_issue e n ≡ false) × HasMoment z es n) ⊎ IsMoment z (reads_once ((public_of z (e ∷ es)).due n)) (e ∷ es) n)

abbrev pub HasNeeded : Stores → List Flit → HomeFlit → Type 0
HasNeeded z es g = needs_moment g.grant ((public_of z es).due g.agent.0) ≡ true → HasMoment z es g.agent.0

-- each flit of a cache may be sent, and each of the home is safe and has the moment that it needs
abbrev pub Legal : Stores → List Flit → Type 0
Legal z [] = ⊤
Legal z (Up f ∷ es) = Legal z es × (f.agent.0 < 32) × ((before : World) × (sent : World) × After z es before × Sends (public_of z es) f before sent)
Legal z (Down g ∷ es) = Legal z es × (g.agent.0 < 32) × ((w : World) × After z es w × Informed g w) × ((w : World) → After z es w → Informed g w → IsSafe (public_of z es) g w) × HasNeeded z es g

-- THE OBSERVER
abbrev pub nothing_told : Stores → Observed
nothing_told z = record { public = quiet_public z; may = λ _ h. same_held (plain Invalid) h; home = None; news = no_words }

abbrev pub seen : Stores → List Flit → Observed
seen z [] = nothing_told z
seen z (Up f ∷ es) = next (seen z es) f
seen z (Down g ∷ es) = next_home (seen z es) g

abbrev pub shown_by : Stores → List Flit → ℕ → Bool
shown_by z [] n = false
shown_by z (e ∷ es) n = shown_after (seen z es) e (shown_by z es) n

abbrev pub Accepted : Stores → List Flit → Type 0
Accepted z [] = ⊤
Accepted z (Up f ∷ es) = Accepted z es × (f.agent.0 < 32) × (takes (seen z es) f ≡ true)
Accepted z (Down g ∷ es) = Accepted z es × (g.agent.0 < 32) × (takes_home (seen z es) g ≡ true) × (has_moment (seen z es) (shown_by z es) g ≡ true)

-- what holds behind an accepted trace
pub record IsExact (z : Stores) (es : List Flit) : Type 0 where
  pub sound : Sound (seen z es)
  pub closed : Closed (seen z es)
  pub public : (seen z es).public ≡ public_of z es
  pub meant : (w : World) → After z es w → Meaning (seen z es) w
  pub after : (w : World) → Meaning (seen z es) w → After z es w

abbrev pub LegalIsAccepted : Type 0
LegalIsAccepted = (z : Stores) (es : List Flit) → Legal z es → Accepted z es

abbrev pub AcceptedIsLegal : Type 0
AcceptedIsLegal = (z : Stores) (es : List Flit) → Accepted z es → Legal z es

abbrev pub AcceptedIsExact : Type 0
AcceptedIsExact = (z : Stores) (es : List Flit) → Accepted z es → IsExact z es

abbrev pub AcceptedIsCoherent : Type 0
AcceptedIsCoherent = (z : Stores) (es : List Flit) → Accepted z es → (w : World) → After z es w → Coherent w
