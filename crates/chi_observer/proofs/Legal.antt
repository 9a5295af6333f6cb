-- Whole traces: what is legal is accepted, and what is accepted is legal.
use Rattle.std.proofs.Common.{◌≡◌, ◌<◌, List, [], ◌∷◌, refl, sym, ap, subst, ◌∙◌}
use Rattle.std.specs.Prelude.{Bool, true, false, ◌||◌, not}
use Rattle.chi_observer.specs.declared.flits.Stores.{Stores}
use Rattle.chi_observer.specs.declared.flits.HomeFlit.{HomeFlit}
use Rattle.chi_observer.specs.declared.flits.Flit.{Flit}
use Rattle.chi_observer.specs.declared.flits.Flit.TheVariants.{Up, Down}
use Rattle.chi_observer.specs.Rules.{needs_moment}
use Rattle.chi_observer.specs.Worlds.{Public, Sends, reads, IsSafe}
use Rattle.chi_observer.specs.Moments.{has_moment}
use Rattle.chi_observer.specs.Runs.{seen, shown_by, HasNeeded, Accepted, IsExact, LegalIsAccepted, AcceptedIsLegal}
use Rattle.chi_observer.proofs.Finite.{no}
use Rattle.chi_observer.proofs.Cache.{taken}
use Rattle.chi_observer.proofs.Home.{home_safe}
use Rattle.chi_observer.proofs.Top.{home_possible, safe_taken}
use Rattle.chi_observer.proofs.Runs.{exact}
use Rattle.chi_observer.proofs.Sent.{flits_possible}
use Rattle.chi_observer.proofs.Since.{moment_shown, shown_moment}

needed_by : (a b : Bool) → (not a || b) ≡ true → a ≡ true → b ≡ true
needed_by true b h e = h
needed_by false b h e = no e

if_needed : (a b : Bool) → (a ≡ true → b ≡ true) → (not a || b) ≡ true
if_needed true b h = h refl
if_needed false b h = refl

-- the moment that a flit of the home needs
pub has_needed : (mode : Stores) (es : List Flit) (g : HomeFlit) → Accepted mode es → g.agent.0 < 32 → IsExact mode es → has_moment (seen mode es) (shown_by mode es) g ≡ true → HasNeeded mode es g
has_needed mode es g a low e h c = moment_shown mode es a g.agent.0 low
    (needed_by (needs_moment g.grant ((seen mode es).public.due g.agent.0)) (shown_by mode es g.agent.0) h (ap (λ (p : Public). needs_moment g.grant (p.due g.agent.0)) e.public ∙ c))

pub has_shown : (mode : Stores) (es : List Flit) (g : HomeFlit) → Accepted mode es → g.agent.0 < 32 → IsExact mode es → HasNeeded mode es g → has_moment (seen mode es) (shown_by mode es) g ≡ true
has_shown mode es g a low e h = if_needed (needs_moment g.grant ((seen mode es).public.due g.agent.0)) (shown_by mode es g.agent.0)
    (λ c. shown_moment mode es a g.agent.0 low (h (sym (ap (λ (p : Public). needs_moment g.grant (p.due g.agent.0)) e.public) ∙ c)))

pub accepted : LegalIsAccepted
accepted mode [] l = l
accepted mode (Up f ∷ es) l =
    let a = accepted mode es l.0 in let e = exact mode es a in let h = l.2 in
    (a, l.1, taken (seen mode es) f h.0 h.1 e.sound l.1 (e.meant h.0 h.2) (subst (λ p. Sends p f h.0 h.1) (sym e.public) h.3) (subst (λ p. reads p f h.0 ≡ true) (sym e.public) h.4), l.3)
accepted mode (Down g ∷ es) l =
    let a = accepted mode es l.0 in let e = exact mode es a in (
      a,
      l.1,
      safe_taken (seen mode es) g e.sound l.1 (record { world = l.2.0; meant = e.meant l.2.0 l.2.1; informed = l.2.2 })
          (λ w m i. subst (λ p. IsSafe p g w) (sym e.public) (l.3 w (e.after w m) i)),
      l.4,
      has_shown mode es g a l.1 e l.5,
    )

pub legal : AcceptedIsLegal
legal mode [] a = a
legal mode (Up f ∷ es) a =
    let e = exact mode es a.0 in let i = flits_possible (seen mode es) f e.sound a.1 a.2 in
    (legal mode es a.0, a.1, (i.before, i.sent, e.after i.before i.meant, subst (λ p. Sends p f i.before i.sent) e.public i.sends, subst (λ p. reads p f i.before ≡ true) e.public i.word), a.3)
legal mode (Down g ∷ es) a =
    let e = exact mode es a.0 in let i = home_possible (seen mode es) g e.sound a.1 a.2 in (
      legal mode es a.0,
      a.1,
      (i.world, e.after i.world i.meant, i.informed),
      λ w h i. subst (λ p. IsSafe p g w) e.public (home_safe (seen mode es) g w e.sound a.1 a.2 (e.meant w h) i),
      a.3,
      has_needed mode es g a.0 a.1 e a.4,
    )
