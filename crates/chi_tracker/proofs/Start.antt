-- The rule at the start, and where the ports of seats are dealt out and joined.
use Rattle.std.proofs.Common.{◌≡◌, ℕ, zero, suc, ◌+◌, ◌*◌, ◌/◌, ◌%◌, ◌<◌, ◌≤◌, List, [], ◌∷◌, ◌++◌, replicate, set, slice_index, refl, sym, ap, ◌∙◌, subst, arith}
use mathlib.Core.Option.{some, some-injective, some-ne-none}
use mathlib.Core.Logic.{dite}
use native.Mathlib.Decide.{ℕ_discrete}
use lib.ListN.{get_elem?}
use Rattle.std.specs.Int.{bit_at}
use Rattle.std.proofs.lemmas.Nat.Bits.{bit_at-zero}
use Rattle.atomic_table.specs.Table.{opening}
use Rattle.chi_tracker.specs.declared.shape.Shape.{Shape}
use Rattle.chi_tracker.specs.declared.view.SeatView.{SeatView}
use Rattle.chi_tracker.specs.Sums.{total, set_at}
use Rattle.chi_tracker.specs.Shape.{low, IsShape, count_of, owed_in, size}
use Rattle.chi_tracker.specs.Words.{word_count, promise_word, owed_word, c_of, p_of, o_of}
use Rattle.chi_tracker.specs.Views.{PortView, has, new_port, new_ports}
use Rattle.chi_tracker.specs.Rule.{weigh, of_port, duty_is, note_is, AllSound, AllSeatsSound, Fits, TrackerRule, all_new}
use Rattle.chi_tracker.specs.Calls.{set_count}
use Rattle.chi_tracker.proofs.Addition.{below_same, below_zero}
use Rattle.chi_tracker.proofs.Moves.{of_mine, of_other}

pub zeros : (n i : ℕ) → slice_index (replicate n 0) i ≡ 0
zeros zero i = refl
zeros (suc n) zero = refl
zeros (suc n) (suc i) = zeros n i

no_bits : (n i k : ℕ) → bit_at (slice_index (replicate n 0) i) k ≡ 0
no_bits n i k = ap (λ w. bit_at w k) (zeros n i) ∙ bit_at-zero k

-- a weight that no new port has
none-new : (f : PortView → ℕ) (s : Shape) (k m : ℕ) → ((n : ℕ) → f (new_port s n) ≡ 0) → total f (new_ports s k m) ≡ 0
none-new f s k zero h = refl
none-new f s k (suc m) h = omega (arith, h k, none-new f s (k + 1) m h)

of_none : (n : ℕ) (f : PortView → ℕ) (p : PortView) → f p ≡ 0 → of_port n f p ≡ 0
of_none n f p z = dite (ℕ_discrete p.who n) (λ q. of_mine n f p q ∙ z) (λ d. of_other n f p d)

none-after : (s : Shape) (n k m : ℕ) → n < k → total (of_port n (λ _. 1)) (new_ports s k m) ≡ 0
none-after s n k zero l = refl
none-after s n k (suc m) l = omega (arith, of_other n (λ _. 1) (new_port s k) (λ q. omega arith), none-after s n (k + 1) m (omega arith))

one-new : (s : Shape) (n k m : ℕ) → k ≤ n → n < k + m → total (of_port n (λ _. 1)) (new_ports s k m) ≡ 1
one-new s n k zero le l = absurd (omega arith)
one-new s n k (suc m) le l = dite (ℕ_discrete k n)
    (λ q. omega (arith, of_mine n (λ _. 1) (new_port s k) q, none-after s n (k + 1) m (omega arith)))
    (λ d. omega (arith, of_other n (λ _. 1) (new_port s k) d, one-new s n (k + 1) m (omega arith) (omega arith)))

all-new : (s : Shape) (k m : ℕ) → total (λ _. 1) (new_ports s k m) ≡ m
all-new s k zero = refl
all-new s k (suc m) = omega (arith, all-new s (k + 1) m)

sound-new : (s : Shape) (k m : ℕ) → k + m ≤ s.agents → AllSound s (new_ports s k m)
sound-new s k zero l = tt
sound-new s k (suc m) l = (record { shape_is = refl; who_in = omega arith; duty_in = tt }, sound-new s (k + 1) m (omega arith))

abbrev pub zero_words : List ℕ
zero_words = replicate word_count 0

module _ (s : Shape) where
  abbrev pub opened : List SeatView
  opened = all_new s ∷ []

  none_of : (f : PortView → ℕ) → ((n : ℕ) → f (new_port s n) ≡ 0) → weigh f opened ≡ 0
  none_of f h = omega (arith, none-new f s 0 s.agents h)

  mine_none : (n : ℕ) (f : PortView → ℕ) → ((k : ℕ) → f (new_port s k) ≡ 0) → weigh (of_port n f) opened ≡ 0
  mine_none n f h = none_of (of_port n f) (λ k. of_none n f (new_port s k) (h k))

  first_fits : Fits s (c_of zero_words) (p_of zero_words) (o_of zero_words) opened
  first_fits = record {
    bits = λ e l. omega (arith, no_bits word_count (e / 64) (e % 64));
    place = λ e l. omega (arith, no_bits word_count (e / 64) (e % 64), none_of (has e) (λ n. bit_at-zero e), below_same (λ _. 0) (λ n. p_of zero_words n e) s.agents (λ n ln. no_bits word_count (promise_word n (e / 64)) (e % 64)), below_zero s.agents);
    seen = λ n e ln l. omega (arith, mine_none n (λ z. set_at z.seen e) (λ k. no_bits 4 (e / 64) (e % 64)));
    noted = λ n k ln. omega (arith, mine_none n (λ z. note_is k z.noted) (λ _. refl), no_bits word_count (owed_word n) k);
    ledger = λ n t ln lt.
        let o : owed_in t (o_of zero_words n) ≡ 0 = below_same (λ _. 0) (λ i. bit_at (o_of zero_words n) (8 * t + i)) 8 (λ i l. no_bits word_count (owed_word n) (8 * t + i)) ∙ below_zero 8 in
        let d = none_of (λ z. duty_is n t z.duty) (λ _. refl) in
        let c : count_of s t (p_of zero_words n) ≡ 0 = below_same (λ _. 0) (λ i. p_of zero_words n (low s t + i)) (size s t) (λ i l. no_bits word_count (promise_word n ((low s t + i) / 64)) ((low s t + i) % 64)) ∙ below_zero (size s t) in
        omega (arith, mine_none n (λ z. slice_index z.retries t) (λ _. refl), o, d, c, mine_none n (λ z. slice_index z.spent t) (λ _. refl), mine_none n (λ z. slice_index z.returned t) (λ _. refl));
    one_port = λ n ln. omega (arith, one-new s n 0 s.agents (omega arith) (omega arith));
    ports = omega (arith, all-new s 0 s.agents);
    sound = (sound-new s 0 s.agents (omega arith), tt);
  }

  pub opens : IsShape s → TrackerRule s (opening zero_words [] (all_new s))
  opens shaped = record { words = refl; agents = shaped.3; entries = shaped.1; fits = first_fits }

-- seats whose ports weigh alike fit alike
pub regroup : (s : Shape) (c : ℕ → ℕ) (p : ℕ → ℕ → ℕ) (o : ℕ → ℕ) (vs vs' : List SeatView) → ((f : PortView → ℕ) → weigh f vs' ≡ weigh f vs) → AllSeatsSound s vs' → Fits s c p o vs → Fits s c p o vs'
regroup s c p o vs vs' same sound fits = record {
  bits = fits.bits;
  place = λ e l. omega (arith, fits.place e l, same (has e));
  seen = λ n e ln l. omega (arith, fits.seen n e ln l, same (of_port n (λ z. set_at z.seen e)));
  noted = λ n k ln. omega (arith, fits.noted n k ln, same (of_port n (λ z. note_is k z.noted)));
  ledger = λ n t ln lt. omega (arith, fits.ledger n t ln lt, same (of_port n (λ z. slice_index z.retries t)), same (λ z. duty_is n t z.duty), same (of_port n (λ z. slice_index z.spent t)), same (of_port n (λ z. slice_index z.returned t)));
  one_port = λ n ln. omega (arith, fits.one_port n ln, same (of_port n (λ _. 1)));
  ports = omega (arith, fits.ports, same (λ _. 1));
  sound = sound;
}

pub seats-at : (s : Shape) (vs : List SeatView) (id : ℕ) (v : SeatView) → AllSeatsSound s vs → get_elem? vs id ≡ some v → AllSound s v.ports
seats-at s [] id v all at = absurd (some-ne-none v (sym at))
seats-at s (w ∷ vs) zero v all at = subst (λ (u : SeatView). AllSound s u.ports) (some-injective w v at) all.0
seats-at s (w ∷ vs) (suc id) v all at = seats-at s vs id v all.1 at

seats-set : (s : Shape) (vs : List SeatView) (id : ℕ) (v : SeatView) → AllSeatsSound s vs → AllSound s v.ports → AllSeatsSound s (set vs id v)
seats-set s [] id v all here = all
seats-set s (w ∷ vs) zero v all here = (here, all.1)
seats-set s (w ∷ vs) (suc id) v all here = (all.0, seats-set s vs id v all.1 here)

seats-push : (s : Shape) (vs : List SeatView) (v : SeatView) → AllSeatsSound s vs → AllSound s v.ports → AllSeatsSound s (vs ++ v ∷ [])
seats-push s [] v all here = (here, tt)
seats-push s (w ∷ vs) v all here = (all.0, seats-push s vs v all.1 here)

pub sound-join : (s : Shape) (ps qs : List PortView) → AllSound s ps → AllSound s qs → AllSound s (ps ++ qs)
sound-join s [] qs a b = b
sound-join s (p ∷ ps) qs a b = (a.0, sound-join s ps qs a.1 b)

-- an empty set has no entry
pub none_set : (words : List ℕ) (start n : ℕ) → words ≡ 0 ∷ 0 ∷ 0 ∷ 0 ∷ [] → set_count words start n ≡ 0
none_set words start n is = ap (λ ws. set_count ws start n) is ∙ below_same (λ _. 0) (λ i. set_at (0 ∷ 0 ∷ 0 ∷ 0 ∷ []) (start + i)) n (λ i l. no_bits 4 ((start + i) / 64) ((start + i) % 64)) ∙ below_zero n
