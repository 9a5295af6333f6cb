-- The rule goes on when one port's view and the words change: what has to be shown of the change.
use Rattle.std.proofs.Common.{◌≡◌, ◌≢◌, ℕ, zero, suc, ◌+◌, ◌<◌, ◌≤◌, cond, eqb, List, [], ◌∷◌, set, slice_index, refl, sym, ap, ◌∙◌, subst, arith, eq-eqb, ne_eqb}
use mathlib.Core.Option.{some, some-injective, some-ne-none}
use mathlib.Core.Logic.{dite}
use native.Mathlib.Decide.{ℕ_discrete}
use lib.ListN.{get_elem?}
use Rattle.std.specs.Int.{bit_at}
use Rattle.chi_tracker.specs.declared.shape.Shape.{Shape}
use Rattle.chi_tracker.specs.declared.view.SeatView.{SeatView}
use Rattle.chi_tracker.specs.Sums.{below, total, set_at}
use Rattle.chi_tracker.specs.Shape.{low, count_of, owed_in}
use Rattle.chi_tracker.specs.Views.{PortView, has}
use Rattle.chi_tracker.specs.Rule.{weigh, of_port, duty_is, note_is, IsSound, AllSound, AllSeatsSound, Fits}
use Rattle.chi_tracker.specs.Steps.{one}
use Rattle.chi_tracker.proofs.Addition.{weigh-set, weigh-term, below_same}
use Rattle.chi_tracker.proofs.Entries.{count_same}

pub of_mine : (n : ℕ) (f : PortView → ℕ) (p : PortView) → p.who ≡ n → of_port n f p ≡ f p
of_mine n f p e = ap (λ b. cond b (f p) 0) (eq-eqb p.who n e)

pub of_other : (n : ℕ) (f : PortView → ℕ) (p : PortView) → p.who ≢ n → of_port n f p ≡ 0
of_other n f p d = ap (λ b. cond b (f p) 0) (ne_eqb p.who n d)

-- two functions that agree on the port
pub of_same : (n : ℕ) (f g : PortView → ℕ) (p q : PortView) → p.who ≡ q.who → f p ≡ g q → of_port n f p ≡ of_port n g q
of_same n f g p q w e = ap (λ x. cond (eqb x n) (f p) 0) w ∙ ap (λ x. cond (eqb q.who n) x 0) e

sound-at : (s : Shape) (vs : List SeatView) (id : ℕ) (p : PortView) → AllSeatsSound s vs → get_elem? vs id ≡ some (one p) → IsSound s p
sound-at s [] id p all at = absurd (some-ne-none (one p) (sym at))
sound-at s (v ∷ vs) zero p all at = (subst (λ (w : SeatView). AllSound s w.ports) (some-injective v (one p) at) all.0).0
sound-at s (v ∷ vs) (suc id) p all at = sound-at s vs id p all.1 at

pub sound_of : (s : Shape) (c : ℕ → ℕ) (p : ℕ → ℕ → ℕ) (o : ℕ → ℕ) (vs : List SeatView) (id : ℕ) (x : PortView) → Fits s c p o vs → get_elem? vs id ≡ some (one x) → IsSound s x
sound_of s c p o vs id x fits at = sound-at s vs id x fits.sound at

sound-set : (s : Shape) (vs : List SeatView) (id : ℕ) (q : PortView) → AllSeatsSound s vs → IsSound s q → AllSeatsSound s (set vs id (one q))
sound-set s [] id q all here = all
sound-set s (v ∷ vs) zero q all here = ((here, tt), all.1)
sound-set s (v ∷ vs) (suc id) q all here = (all.0, sound-set s vs id q all.1 here)

-- requester n has no other port than x
only-ports : (n : ℕ) (f : PortView → ℕ) (ps : List PortView) → total (of_port n (λ _. 1)) ps ≡ 0 → total (of_port n f) ps ≡ 0
only-ports n f [] e = refl
only-ports n f (p ∷ ps) e = dite (ℕ_discrete p.who n)
    (λ is. absurd (omega (arith, of_mine n (λ _. 1) p is)))
    (λ d. omega (arith, of_other n f p d, of_other n (λ _. 1) p d, only-ports n f ps (omega (arith, of_other n (λ _. 1) p d))))

only-none : (n : ℕ) (f : PortView → ℕ) (vs : List SeatView) → weigh (of_port n (λ _. 1)) vs ≡ 0 → weigh (of_port n f) vs ≡ 0
only-none n f [] e = refl
only-none n f (v ∷ vs) e = omega (arith, only-ports n f v.ports (omega arith), only-none n f vs (omega arith))

pub only_mine : (n : ℕ) (f : PortView → ℕ) (vs : List SeatView) (id : ℕ) (x : PortView) → get_elem? vs id ≡ some (one x) → x.who ≡ n → weigh (of_port n (λ _. 1)) vs ≡ 1
    → weigh (of_port n f) vs ≡ f x
only_mine n f [] id x at w e = absurd (some-ne-none (one x) (sym at))
only_mine n f (v ∷ vs) zero x at w e =
    let h : total (of_port n (λ _. 1)) v.ports ≡ total (of_port n (λ _. 1)) (x ∷ []) = ap (λ (u : SeatView). total (of_port n (λ _. 1)) u.ports) (some-injective v (one x) at) in
    let g : total (of_port n f) v.ports ≡ total (of_port n f) (x ∷ []) = ap (λ (u : SeatView). total (of_port n f) u.ports) (some-injective v (one x) at) in
    let a = of_mine n (λ _. 1) x w in let b = of_mine n f x w in
    let z = only-none n f vs (omega arith) in omega arith
only_mine n f (v ∷ vs) (suc id) x at w e =
    let t : of_port n (λ _. 1) x ≤ weigh (of_port n (λ _. 1)) vs = weigh-term (of_port n (λ _. 1)) vs id x at in
    let a = of_mine n (λ _. 1) x w in
    let g = only-ports n f v.ports (omega arith) in
    let r = only_mine n f vs id x at w (omega arith) in omega arith

module _ (s : Shape) (c c' : ℕ → ℕ) (p p' : ℕ → ℕ → ℕ) (o o' : ℕ → ℕ) (x y : PortView) where
  -- what the change of one port from x to y has to meet, whatever the sum over all ports was and becomes
  pub record Goes : Type 0 where
    pub who : y.who ≡ x.who
    pub place : (e w w' : ℕ) → e < 256 → w' + has e x ≡ w + has e y → c e ≤ 1 → c e ≡ w + below (λ n. p n e) s.agents → (c' e ≤ 1) × (c' e ≡ w' + below (λ n. p' n e) s.agents)
    pub seen : (n e w w' : ℕ) → n < s.agents → e < 256 → w' + of_port n (λ z. set_at z.seen e) x ≡ w + of_port n (λ z. set_at z.seen e) y → (x.who ≡ n → w ≡ set_at x.seen e) → w ≤ p n e → w' ≤ p' n e
    pub noted : (n k w w' : ℕ) → n < s.agents → w' + of_port n (λ z. note_is k z.noted) x ≡ w + of_port n (λ z. note_is k z.noted) y → (x.who ≡ n → w ≡ note_is k x.noted) → w + bit_at (o n) k ≤ 1 → w' + bit_at (o' n) k ≤ 1
    pub ledger : (n t : ℕ) → n < s.agents → t < 4
        → of_port n (λ z. slice_index z.retries t) y + (owed_in t (o n) + duty_is n t x.duty + count_of s t (p n) + of_port n (λ z. slice_index z.spent t) x + of_port n (λ z. slice_index z.returned t) x)
        ≡ of_port n (λ z. slice_index z.retries t) x + (owed_in t (o' n) + duty_is n t y.duty + count_of s t (p' n) + of_port n (λ z. slice_index z.spent t) y + of_port n (λ z. slice_index z.returned t) y)
    pub sound : IsSound s x → IsSound s y

  pub goes : (vs : List SeatView) (id : ℕ) → Goes → Fits s c p o vs → get_elem? vs id ≡ some (one x) → Fits s c' p' o' (set vs id (one y))
  goes vs id g fits at = record {
    bits = λ e l. (g.place e (weigh (has e) vs) (weigh (has e) (set vs id (one y))) l (weigh-set (has e) vs id x y at) (fits.bits e l) (fits.place e l)).0;
    place = λ e l. (g.place e (weigh (has e) vs) (weigh (has e) (set vs id (one y))) l (weigh-set (has e) vs id x y at) (fits.bits e l) (fits.place e l)).1;
    seen = λ n e ln le. let f : PortView → ℕ = of_port n (λ z. set_at z.seen e) in
        g.seen n e (weigh f vs) (weigh f (set vs id (one y))) ln le (weigh-set f vs id x y at) (λ w. only_mine n (λ z. set_at z.seen e) vs id x at w (fits.one_port n ln)) (fits.seen n e ln le);
    noted = λ n k ln. let f : PortView → ℕ = of_port n (λ z. note_is k z.noted) in g.noted n k (weigh f vs) (weigh f (set vs id (one y))) ln (weigh-set f vs id x y at) (λ w. only_mine n (λ z. note_is k z.noted) vs id x at w (fits.one_port n ln)) (fits.noted n k ln);
    ledger = λ n t ln lt.
        let a = weigh-set (of_port n (λ z. slice_index z.retries t)) vs id x y at in
        let b = weigh-set (λ z. duty_is n t z.duty) vs id x y at in
        let d = weigh-set (of_port n (λ z. slice_index z.spent t)) vs id x y at in
        let e = weigh-set (of_port n (λ z. slice_index z.returned t)) vs id x y at in
        let h = fits.ledger n t ln lt in let k = g.ledger n t ln lt in omega arith;
    one_port = λ n ln. let a = weigh-set (of_port n (λ _. 1)) vs id x y at in let h = fits.one_port n ln in let k = of_same n (λ _. 1) (λ _. 1) y x g.who refl in omega arith;
    ports = let a = weigh-set (λ _. 1) vs id x y at in let h = fits.ports in omega arith;
    sound = sound-set s vs id y fits.sound (g.sound (sound_of s c p o vs id x fits at));
  }

-- functions that agree on the entries and the requesters fit alike
pub carry : (s : Shape) (c c' : ℕ → ℕ) (p p' : ℕ → ℕ → ℕ) (o o' : ℕ → ℕ) (vs : List SeatView) → low s 4 ≤ 256 → ((e : ℕ) → e < 256 → c' e ≡ c e) → ((n e : ℕ) → n < s.agents → e < 256 → p' n e ≡ p n e)
    → ((n : ℕ) → n < s.agents → o' n ≡ o n) → Fits s c p o vs → Fits s c' p' o' vs
carry s c c' p p' o o' vs le cs ps os fits = record {
  bits = λ e l. let a = cs e l in let h = fits.bits e l in omega arith;
  place = λ e l. let a = cs e l in let h = fits.place e l in let b = below_same (λ n. p n e) (λ n. p' n e) s.agents (λ n ln. ps n e ln l) in omega arith;
  seen = λ n e ln l. let a = ps n e ln l in let h = fits.seen n e ln l in omega arith;
  noted = λ n k ln. let a = ap (λ w. bit_at w k) (os n ln) in let h = fits.noted n k ln in omega arith;
  ledger = λ n t ln lt. let a = ap (owed_in t) (os n ln) in let b = count_same s t (p n) (p' n) lt le (λ i l. ps n i ln l) in let h = fits.ledger n t ln lt in omega arith;
  one_port = fits.one_port;
  ports = fits.ports;
  sound = fits.sound;
}
