-- The calls of a line over a trace take it exactly where it is accepted.
use Rattle.std.proofs.Common.{rules, arith, ◌≡◌, ℕ, ◌<◌, List, ◌∷◌, sym, ap, subst, ◌∙◌}
use Rattle.std.proofs.Math.Path.{fun_ext}
use Rattle.std.specs.Prelude.{Bool, true, nat_lt, ◌&&◌}
use Rattle.chi_observer.specs.declared.flits.Stores.{Stores}
use Rattle.chi_observer.specs.declared.flits.Flit.{Flit}
use Rattle.chi_observer.specs.declared.flits.HomeFlit.{HomeFlit}
use Rattle.chi_observer.specs.declared.flits.Flit.TheVariants.{Up, Down}
use Rattle.chi_copies.specs.declared.line.Line.{Line}
use Rattle.chi_copies.specs.Observed.{next, next_home, takes, takes_home}
use Rattle.chi_copies.specs.Moments.{has_moment, shown_after}
use Rattle.chi_copies.specs.Runs.{seen, shown_by}
use Rattle.chi_copies.specs.Lines.{observed, shown_at}
use Rattle.chi_copies.specs.Told.{Told, next_by, NewIsTold, TakenIsTold, TakenIsAccepted, AcceptedIsTaken}
use Rattle.chi_copies.proofs.Finite.{left, right, both}

lower : (n : ℕ) → nat_lt n 32 ≡ true → n < 32
lower n h = search (rules, arith)

low : (n : ℕ) → n < 32 → nat_lt n 32 ≡ true
low n h = search (rules, arith)

pub new_is_told : NewIsTold
new_is_told z s h g = record { kept = h; moments = g }

next_same : (z : Stores) (es : List Flit) (e : Flit) → next_by (seen z es) e ≡ seen z (e ∷ es)
next_same z es (Up f) = λ i. next (seen z es) f
next_same z es (Down g) = λ i. next_home (seen z es) g

pub taken_is_told : TakenIsTold
taken_is_told z es e s s' h led = record {
  kept = led.after ∙ ap (λ o. next_by o e) h.kept ∙ next_same z es e;
  moments = λ n. led.moments n ∙ ap (λ o. shown_after o e (shown_at s.shown) n) h.kept
      ∙ ap (λ (w : ℕ → Bool). shown_after (seen z es) e w n) (fun_ext h.moments);
}

has_same : (z : Stores) (es : List Flit) (g : HomeFlit) (s : Line) → Told z es s → has_moment (observed s) (shown_at s.shown) g ≡ has_moment (seen z es) (shown_by z es) g
has_same z es g s h = ap (λ o. has_moment o (shown_at s.shown) g) h.kept ∙ ap (λ (w : ℕ → Bool). has_moment (seen z es) w g) (fun_ext h.moments)

pub taken_is_accepted : TakenIsAccepted
taken_is_accepted z es (Up f) s h acc t = (acc, lower f.agent.0 (left (nat_lt f.agent.0 32) _ t), subst (λ o. takes o f ≡ true) h.kept (right (nat_lt f.agent.0 32) _ t))
taken_is_accepted z es (Down g) s h acc t =
    let rest = right (nat_lt g.agent.0 32) (has_moment (observed s) (shown_at s.shown) g && takes_home (observed s) g) t in
    (acc, lower g.agent.0 (left (nat_lt g.agent.0 32) _ t), subst (λ o. takes_home o g ≡ true) h.kept (right (has_moment (observed s) (shown_at s.shown) g) _ rest), sym (has_same z es g s h) ∙ left (has_moment (observed s) (shown_at s.shown) g) _ rest)

pub accepted_is_taken : AcceptedIsTaken
accepted_is_taken z es (Up f) s h acc = both (nat_lt f.agent.0 32) (takes (observed s) f) (low f.agent.0 acc.1) (subst (λ o. takes o f ≡ true) (sym h.kept) acc.2)
accepted_is_taken z es (Down g) s h acc = both (nat_lt g.agent.0 32) (has_moment (observed s) (shown_at s.shown) g && takes_home (observed s) g) (low g.agent.0 acc.1)
    (both (has_moment (observed s) (shown_at s.shown) g) (takes_home (observed s) g) (has_same z es g s h ∙ acc.3) (subst (λ o. takes_home o g ≡ true) (sym h.kept) acc.2))
