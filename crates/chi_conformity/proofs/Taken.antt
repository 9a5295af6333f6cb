-- Flits that are taken, one after the other.
use Rattle.std.proofs.Common.{arith, ◌≡◌, ℕ, ◌<◌, List, [], ◌∷◌, ◌++◌, refl, ap}
use Rattle.std.specs.Prelude.{⊤, Bool, true, false, ◌||◌, not, nat_lt}
use Rattle.chi_flit.specs.declared.numbers.Agent.{Agent}
use Rattle.chi_line.specs.LineState.{LineState}
use Rattle.chi_observer.specs.declared.flits.Act.{Act}
use Rattle.chi_observer.specs.declared.flits.Act.TheVariants.{Request, Resend}
use Rattle.chi_observer.specs.declared.flits.Grant.{Grant}
use Rattle.chi_observer.specs.declared.flits.Grant.TheVariants.{Snp}
use Rattle.chi_observer.specs.declared.flits.Flit.{Flit}
use Rattle.chi_observer.specs.Judged.{judges_act, judges_grant}
use Rattle.chi_observer.specs.Lines.{Watched, is_taken, watch}
use Rattle.chi_conformity.specs.Seen.{down, up}
use Rattle.chi_conformity.proofs.Held.{Stands}
use Rattle.chi_conformity.proofs.Acted.{Sent}
use Rattle.chi_conformity.proofs.Grants.{Given}
use Rattle.chi_conformity.proofs.Told.{both}

-- each is taken, and all stands behind the last
abbrev pub FollowsBy : {W : Type 0} → (W → Flit → Type 0) → (W → Flit → W) → (W → Type 0) → W → List Flit → Type 0
FollowsBy Takes behind Stand w [] = Stand w
FollowsBy Takes behind Stand w (flit ∷ flits) = Takes w flit × FollowsBy Takes behind Stand (behind w flit) flits

-- each is taken, whatever stands behind the last
abbrev pub AllTaken : {W : Type 0} → (W → Flit → Type 0) → (W → Flit → W) → W → List Flit → Type 0
AllTaken Takes behind w flits = FollowsBy Takes behind (λ v. ⊤) w flits

abbrev pub IsTaken : Watched → Flit → Type 0
IsTaken w flit = is_taken w flit ≡ true

abbrev pub Follows : List ℕ → LineState → Watched → List Flit → Type 0
Follows last s w flits = FollowsBy IsTaken watch (λ (v : Watched). Stands last s v.seen) w flits

judged_act : (act : Act) → judges_act act ≡ true
judged_act (Request kind) = refl
judged_act (Resend kind) = refl
judged_act other = refl

judged_grant : (grant : Grant) → judges_grant grant ≡ true
judged_grant (Snp snoop) = refl
judged_grant other = refl

is_low : (n : ℕ) → n < 8 → nat_lt n 32 ≡ true
is_low n low = grind (arith, low)

pub or_left : (a b : Bool) → a ≡ true → (a || b) ≡ true
or_left true b h = refl
or_left false b h = absurd (cc (h))

pub up_taken : (w : Watched) (s : LineState) (last : List ℕ) (agent : Agent) (act : Act) (shown : List ℕ) → agent.0 < 8 → Sent w.seen s last agent act shown
    → (is_taken w (up agent act shown) ≡ true) × Stands last s (watch w (up agent act shown)).seen
up_taken w s last agent act shown low sent = (both _ _ (judged_act act) (both _ _ (is_low agent.0 low) sent.0), sent.1)

pub down_taken : (w : Watched) (s : LineState) (last : List ℕ) (agent : Agent) (grant : Grant) (shown : List ℕ) → agent.0 < 8 → Given w.seen s last agent grant shown
    → (is_taken w (down agent grant shown) ≡ true) × Stands last s (watch w (down agent grant shown)).seen
down_taken w s last agent grant shown low given =
    (both _ _ (judged_grant grant) (both _ _ (is_low agent.0 low) (both _ _ (or_left _ _ (ap not given.1)) given.0)), given.2)

-- a run goes on behind what it took
pub taken_more : {W : Type 0} (Takes : W → Flit → Type 0) (behind : W → Flit → W) (Stand : W → Type 0) (w : W) (flits more : List Flit) → FollowsBy Takes behind Stand w flits
    → ((w' : W) → Stand w' → AllTaken Takes behind w' more) → AllTaken Takes behind w (flits ++ more)
taken_more Takes behind Stand w [] more follows goes = goes w follows
taken_more Takes behind Stand w (flit ∷ flits) more follows goes = (follows.0, taken_more Takes behind Stand (behind w flit) flits more follows.1 goes)
