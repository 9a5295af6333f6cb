-- Each step's change of the words and of one port's view keeps the rule.
use Rattle.std.proofs.Common.{◌≡◌, ◌≢◌, ℕ, zero, suc, ◌+◌, ◌-◌, ◌*◌, ◌/◌, ◌%◌, ◌<◌, ◌≤◌, Bool, true, false, cond, eqb, List, set, slice_index, slice_set, Option, Some, None, IfSome, refl, sym, ap, ◌∙◌, subst, arith, eq-eqb, ne_eqb, get_or-set_other}
use mathlib.Core.Option.{some}
use mathlib.Core.Logic.{dite}
use native.Mathlib.Decide.{ℕ_discrete}
use lib.ListN.{get_elem?}
use Rattle.std.specs.Int.{bit_at}
use Rattle.std.proofs.lemmas.Nat.Bits.{bit_at-lt}
use Rattle.chi_tracker.specs.declared.shape.Shape.{Shape}
use Rattle.chi_tracker.specs.declared.view.SeatView.{SeatView}
use Rattle.chi_tracker.specs.Sums.{below, one_more, with_bit, without_bit, set_at, take_out}
use Rattle.chi_tracker.specs.Shape.{low, IsOf, count_of, owed_in}
use Rattle.chi_tracker.specs.Views.{PortView, Duty, has}
use Rattle.chi_tracker.specs.Rule.{of_port, duty_is, note_is, IsSound, Fits}
use Rattle.chi_tracker.specs.Steps.{one, claims, frees, notes, first_clear, owes, kind_noted, sweeps, settles, promises, hand_without, views_word}
use Rattle.chi_tracker.proofs.Addition.{weigh-term, below_same, below_term, below_moved, raised_here, raised_else}
use Rattle.chi_tracker.proofs.Entries.{count_moved, count_kept, count_same, count_term, owed_moved, owed_kept, in_range}
use Rattle.chi_tracker.proofs.BitLaws.{with_here, with_else, dropped_here, dropped_else, taken_here, taken_le, put_there}
use Rattle.chi_tracker.proofs.Moves.{of_mine, of_other, sound_of, only_mine, goes}

pick_same : (i e a b : ℕ) → i ≡ e → cond (eqb i e) a b ≡ a
pick_same i e a b q = ap (λ (t : Bool). cond t a b) (eq-eqb i e q)

pick_other : (i e a b : ℕ) → i ≢ e → cond (eqb i e) a b ≡ b
pick_other i e a b d = ap (λ (t : Bool). cond t a b) (ne_eqb i e d)

nothing_picked : (a b : Bool) (n : ℕ) → n ≡ 0 → cond a (cond b n 0) 0 ≡ n
nothing_picked false b n z = sym z
nothing_picked true false n z = sym z
nothing_picked true true n z = refl

no_duty : (s : Shape) (x y : PortView) → x.duty ≡ None → y.duty ≡ x.duty → y.who ≡ x.who → y.shape ≡ x.shape → IsSound s x → IsSound s y
no_duty s x y none same who shape sound = record {
  shape_is = shape ∙ sound.shape_is;
  who_in = let a = sound.who_in in omega arith;
  duty_in = subst (λ (d : Option Duty). IfSome d (λ d. (d.to < s.agents) × (d.kind < 4) × IsOf s d.kind d.entry × (has d.entry y ≡ 1))) (sym (same ∙ none)) tt;
}

module _ (s : Shape) (c c' : ℕ → ℕ) (p : ℕ → ℕ → ℕ) (o : ℕ → ℕ) (vs : List SeatView) (id : ℕ) (x : PortView) (fits : Fits s c p o vs) (at : get_elem? vs id ≡ some (one x)) (none : x.duty ≡ None) where
  -- what a hand has of an entry after a claim that found the bit `old`
  claimed_has : (t e old i : ℕ) → old ≤ 1 → (i ≡ e → has i x + 1 ≤ 1 + old) → (has i (claims t e old x) ≡ has i x + cond (eqb i e) (1 - old) 0)
  claimed_has t e zero i l h =
      let is : has i (claims t e 0 x) ≡ bit_at (with_bit x.hand e) i = refl in dite (ℕ_discrete i e)
      (λ q. let a = with_here x.hand e in let b : bit_at (with_bit x.hand e) i ≡ bit_at (with_bit x.hand e) e = ap (bit_at (with_bit x.hand e)) q in
      let d = h q in let f = pick_same i e 1 0 q in omega arith)
      (λ d. let a = with_else x.hand e i d in let f = pick_other i e 1 0 d in omega arith)
  claimed_has t e (suc zero) i l h =
      let is : has i (claims t e 1 x) ≡ has i x = refl in
      dite (ℕ_discrete i e) (λ q. let f = pick_same i e 0 0 q in omega arith) (λ d. let f = pick_other i e 0 0 d in omega arith)
  claimed_has t e (suc (suc n)) i l h = absurd (omega arith)

  pub claims_fit : (t e : ℕ) → e < 256 → c' e ≡ 1 → ((i : ℕ) → i < 256 → i ≢ e → c' i ≡ c i) → Fits s c' p o (set vs id (one (claims t e (c e) x)))
  claims_fit t e le here apart = goes s c c' p p o o x (claims t e (c e) x) vs id (record {
    who = refl;
    place = λ i w w' li moved bit was. dite (ℕ_discrete i e)
        (λ q. let a = claimed_has t e (c e) i (fits.bits e le) (λ _. let k : c i ≡ c e = ap c q in let z = weigh-term (has i) vs id x at in let pl = fits.place i li in omega arith) in
        let f = pick_same i e (1 - c e) 0 q in let k : c i ≡ c e = ap c q in let k' : c' i ≡ c' e = ap c' q in (omega arith, omega arith))
        (λ d. let a = claimed_has t e (c e) i (fits.bits e le) (λ q. absurd (d q)) in let f = pick_other i e (1 - c e) 0 d in let k = apart i li d in (omega arith, omega arith));
    seen = λ n i w w' ln li moved mine was. omega arith;
    noted = λ n k w w' ln moved mine was. omega arith;
    ledger = λ n u ln lu. omega arith;
    sound = no_duty s x (claims t e (c e) x) none refl refl refl;
  }) fits at

  pub frees_fit : (e : ℕ) → e < 256 → has e x ≡ 1 → c' e ≡ 0 → ((i : ℕ) → i < 256 → i ≢ e → c' i ≡ c i) → Fits s c' p o (set vs id (one (frees e x)))
  frees_fit e le held here apart = goes s c c' p p o o x (frees e x) vs id (record {
    who = refl;
    place = λ i w w' li moved bit was. dite (ℕ_discrete i e)
        (λ q. let a = dropped_here x.hand e in let b : bit_at (without_bit x.hand e) i ≡ bit_at (without_bit x.hand e) e = ap (bit_at (without_bit x.hand e)) q in
        let h : has i x ≡ has e x = ap (λ k. has k x) q in let k' : c' i ≡ c' e = ap c' q in (omega arith, omega arith))
        (λ d. let a = dropped_else x.hand e i d in let k = apart i li d in (omega arith, omega arith));
    seen = λ n i w w' ln li moved mine was. omega arith;
    noted = λ n k w w' ln moved mine was. omega arith;
    ledger = λ n u ln lu. omega arith;
    sound = no_duty s x (frees e x) none refl refl refl;
  }) fits at

  -- settle of place k at m, which had the bit `old`, for the entry e
  module _ (o' : ℕ → ℕ) (m k e : ℕ) (le : low s 4 ≤ 256) (lm : m < s.agents) (lk : k < 32) (held : has e x ≡ 1) (is : IsOf s (k / 8) e)
      (here : bit_at (o' m) k ≡ 0) (apart : (i : ℕ) → i < 64 → i ≢ k → bit_at (o' m) i ≡ bit_at (o m) i) (less : (i : ℕ) → bit_at (o' m) i ≤ bit_at (o m) i) (other : (n : ℕ) → n < s.agents → n ≢ m → o' n ≡ o n) where
    noted_less : (n i : ℕ) → n < s.agents → bit_at (o' n) i ≤ bit_at (o n) i
    noted_less n i ln = dite (ℕ_discrete n m) (λ q. subst (λ (j : ℕ). bit_at (o' j) i ≤ bit_at (o j) i) (sym q) (less i)) (λ d. let a = ap (λ (w : ℕ). bit_at w i) (other n ln d) in omega arith)

    -- what is owed by type after it
    owed_less : (n t : ℕ) → n < s.agents → t < 4 → owed_in t (o n) ≡ owed_in t (o' n) + cond (eqb m n) (cond (eqb (k / 8) t) (bit_at (o m) k) 0) 0
    owed_less n t ln lt = dite (ℕ_discrete m n)
        (λ q. let a = pick_same m n (cond (eqb (k / 8) t) (bit_at (o m) k) 0) 0 q in let b : owed_in t (o n) ≡ owed_in t (o m) = ap (λ j. owed_in t (o j)) (sym q) in let b' : owed_in t (o' n) ≡ owed_in t (o' m) = ap (λ j. owed_in t (o' j)) (sym q) in
        dite (ℕ_discrete (k / 8) t)
        (λ r. let f = pick_same (k / 8) t (bit_at (o m) k) 0 r in let g = owed_moved k (o m) (o' m) lk apart in
        let h : owed_in (k / 8) (o m) ≡ owed_in t (o m) = ap (λ j. owed_in j (o m)) r in let h' : owed_in (k / 8) (o' m) ≡ owed_in t (o' m) = ap (λ j. owed_in j (o' m)) r in omega arith)
        (λ d. let f = pick_other (k / 8) t (bit_at (o m) k) 0 d in let g = owed_kept t k (o m) (o' m) lt lk (λ r. d (sym r)) apart in omega arith))
        (λ d. let a = pick_other m n (cond (eqb (k / 8) t) (bit_at (o m) k) 0) 0 d in let b : owed_in t (o' n) ≡ owed_in t (o n) = ap (owed_in t) (other n ln (λ r. d (sym r))) in omega arith)

    pub settles_fit : (old : ℕ) → bit_at (o m) k ≡ old → Fits s c p o' (set vs id (one (settles e m k old x)))
    settles_fit zero was_bit = goes s c c p p o o' x (settles e m k 0 x) vs id (record {
      who = refl;
      place = λ i w w' li moved bit was. (omega arith, omega arith);
      seen = λ n i w w' ln li moved mine was. omega arith;
      noted = λ n i w w' ln moved mine was. let a = noted_less n i ln in omega arith;
      ledger = λ n u ln lu. let a = owed_less n u ln lu in
          let d = nothing_picked (eqb m n) (eqb (k / 8) u) (bit_at (o m) k) was_bit in omega arith;
      sound = no_duty s x (settles e m k 0 x) none refl refl refl;
    }) fits at
    settles_fit (suc zero) was_bit = goes s c c p p o o' x (settles e m k 1 x) vs id (record {
      who = refl;
      place = λ i w w' li moved bit was. (omega arith, omega arith);
      seen = λ n i w w' ln li moved mine was. omega arith;
      noted = λ n i w w' ln moved mine was. let a = noted_less n i ln in omega arith;
      ledger = λ n u ln lu. let a = owed_less n u ln lu in
          let b : cond (eqb m n) (cond (eqb (k / 8) u) (bit_at (o m) k) 0) 0 ≡ cond (eqb m n) (cond (eqb (k / 8) u) 1 0) 0 = ap (λ z. cond (eqb m n) (cond (eqb (k / 8) u) z 0) 0) was_bit in
          let d : duty_is n u x.duty ≡ 0 = ap (duty_is n u) none in
          let f : duty_is n u (settles e m k 1 x).duty ≡ cond (eqb m n) (cond (eqb (k / 8) u) 1 0) 0 = refl in omega arith;
      sound = λ sound. record { shape_is = sound.shape_is; who_in = sound.who_in; duty_in = (lm, omega arith, is, held) };
    }) fits at
    settles_fit (suc (suc n)) was_bit = absurd (omega (arith, bit_at-lt (o m) k))

  -- spend or return of the seen entry e of type t
  module _ (p' : ℕ → ℕ → ℕ) (t e : ℕ) (sp rt : List ℕ) (le : low s 4 ≤ 256) (lt : t < 4) (l : e < 256) (is : IsOf s t e) (seen : set_at x.seen e ≡ 1)
      (here : p' x.who e ≡ 0) (apart : (i : ℕ) → i < 256 → i ≢ e → p' x.who i ≡ p x.who i) (other : (n i : ℕ) → n < s.agents → n ≢ x.who → i < 256 → p' n i ≡ p n i)
      (one_more : slice_index sp t + slice_index rt t ≡ slice_index x.spent t + slice_index x.returned t + 1)
      (same : (u : ℕ) → u ≢ t → slice_index sp u + slice_index rt u ≡ slice_index x.spent u + slice_index x.returned u) where
    abbrev pub paid : PortView
    paid = record x { hand = with_bit x.hand e; seen = take_out x.seen e; spent = sp; returned = rt }

    who_in : x.who < s.agents
    who_in = (sound_of s c p o vs id x fits at).who_in

    was_promised : p x.who e ≡ 1
    was_promised =
        let a = weigh-term (of_port x.who (λ z. set_at z.seen e)) vs id x at in let b = of_mine x.who (λ z. set_at z.seen e) x refl in
        let f = fits.seen x.who e who_in l in let g = fits.place e l in let h = fits.bits e l in let t = below_term (λ n. p n e) s.agents x.who who_in in omega arith

    pub not_held : has e x ≡ 0
    not_held =
        let a = weigh-term (has e) vs id x at in let g = fits.place e l in let h = fits.bits e l in let t = below_term (λ n. p n e) s.agents x.who who_in in let w = was_promised in omega arith

    -- so a credit of the type was due
    pub spend_due : slice_index x.spent t + slice_index x.returned t < slice_index x.retries t
    spend_due =
        let h = fits.ledger x.who t who_in lt in let e1 = fits.one_port x.who who_in in let w = was_promised in
        let a = only_mine x.who (λ z. slice_index z.retries t) vs id x at refl e1 in let b = only_mine x.who (λ z. slice_index z.spent t) vs id x at refl e1 in let d = only_mine x.who (λ z. slice_index z.returned t) vs id x at refl e1 in
        let g = count_term s t e (p x.who) is in omega arith

    sum_less : below (λ n. p' n e) s.agents + 1 ≡ below (λ n. p n e) s.agents
    sum_less = let a = below_moved (λ n. p n e) (λ n. p' n e) s.agents x.who who_in (λ n ln d. other n e ln d l) in let w = was_promised in omega arith

    sum_same : (i : ℕ) → i < 256 → i ≢ e → below (λ n. p' n i) s.agents ≡ below (λ n. p n i) s.agents
    sum_same i li d = below_same (λ n. p n i) (λ n. p' n i) s.agents
        (λ n ln. dite (ℕ_discrete n x.who) (λ q. ap (λ j. p' j i) q ∙ apart i li d ∙ ap (λ j. p j i) (sym q)) (λ o. other n i ln o li))

    pub spends_fit : Fits s c p' o (set vs id (one paid))
    spends_fit = goes s c c p p' o o x paid vs id (record {
      who = refl;
      place = λ i w w' li moved bit was. dite (ℕ_discrete i e)
          (λ q. let a = with_here x.hand e in let b : has i paid ≡ bit_at (with_bit x.hand e) e = ap (bit_at (with_bit x.hand e)) q in let h : has i x ≡ has e x = ap (λ j. has j x) q in
          let z = sum_less in let n = not_held in let r : below (λ n. p' n i) s.agents ≡ below (λ n. p' n e) s.agents = ap (λ j. below (λ n. p' n j) s.agents) q in let r' : below (λ n. p n i) s.agents ≡ below (λ n. p n e) s.agents = ap (λ j. below (λ n. p n j) s.agents) q in (omega arith, omega arith))
          (λ d. let a : has i paid ≡ has i x = with_else x.hand e i d in let z = sum_same i li d in (omega arith, omega arith));
      seen = λ n i w w' ln li moved mine was. dite (ℕ_discrete x.who n)
          (λ q. let a : of_port n (λ z. set_at z.seen i) x ≡ set_at x.seen i = of_mine n (λ z. set_at z.seen i) x q in let b : of_port n (λ z. set_at z.seen i) paid ≡ set_at (take_out x.seen e) i = of_mine n (λ z. set_at z.seen i) paid q in let m = mine q in
          dite (ℕ_discrete i e)
          (λ r. let z : set_at (take_out x.seen e) i ≡ set_at (take_out x.seen e) e = ap (set_at (take_out x.seen e)) r in let y = taken_here x.seen e in omega arith)
          (λ d. let z = taken_le x.seen e i in let y : p' n i ≡ p n i = ap (λ j. p' j i) (sym q) ∙ apart i li d ∙ ap (λ j. p j i) q in omega arith))
          (λ d. let a = of_other n (λ z. set_at z.seen i) x d in let b = of_other n (λ z. set_at z.seen i) paid d in let y = other n i ln (λ q. d (sym q)) li in omega arith);
      noted = λ n k w w' ln moved mine was. omega arith;
      ledger = λ n u ln lu. dite (ℕ_discrete x.who n)
          (λ q. let a = of_mine n (λ z. slice_index z.spent u) x q in let b : of_port n (λ z. slice_index z.spent u) paid ≡ slice_index sp u = of_mine n (λ z. slice_index z.spent u) paid q in
          let a' = of_mine n (λ z. slice_index z.returned u) x q in let b' : of_port n (λ z. slice_index z.returned u) paid ≡ slice_index rt u = of_mine n (λ z. slice_index z.returned u) paid q in
          let r : count_of s u (p' n) ≡ count_of s u (p' x.who) = ap (λ j. count_of s u (p' j)) (sym q) in let r' : count_of s u (p n) ≡ count_of s u (p x.who) = ap (λ j. count_of s u (p j)) (sym q) in
          dite (ℕ_discrete u t)
          (λ v. let z : count_of s u (p' x.who) ≡ count_of s t (p' x.who) = ap (λ j. count_of s j (p' x.who)) v in let z' : count_of s u (p x.who) ≡ count_of s t (p x.who) = ap (λ j. count_of s j (p x.who)) v in
          let y = count_moved s t e (p x.who) (p' x.who) lt le is apart in let w = was_promised in
          let g : slice_index sp u + slice_index rt u ≡ slice_index x.spent u + slice_index x.returned u + 1 = subst (λ (j : ℕ). slice_index sp j + slice_index rt j ≡ slice_index x.spent j + slice_index x.returned j + 1) (sym v) one_more in omega arith)
          (λ d. let y = count_kept s u t e (p x.who) (p' x.who) lu le is d apart in let g = same u d in omega arith))
          (λ d. let a = of_other n (λ z. slice_index z.spent u) x d in let b = of_other n (λ z. slice_index z.spent u) paid d in
          let a' = of_other n (λ z. slice_index z.returned u) x d in let b' = of_other n (λ z. slice_index z.returned u) paid d in
          let y = count_same s u (p n) (p' n) lu le (λ i li. other n i ln (λ q. d (sym q)) li) in omega arith);
      sound = no_duty s x paid none refl refl refl;
    }) fits at

module _ (s : Shape) (c : ℕ → ℕ) (p : ℕ → ℕ → ℕ) (o : ℕ → ℕ) (vs : List SeatView) (id : ℕ) (x : PortView) (fits : Fits s c p o vs) (at : get_elem? vs id ≡ some (one x)) where
  who_is : x.who < s.agents
  who_is = (sound_of s c p o vs id x fits at).who_in

  -- a duty with an entry that is promised
  module _ (p' : ℕ → ℕ → ℕ) (d : Duty) (duty : x.duty ≡ Some d) (le : low s 4 ≤ 256)
      (here : p' d.to d.entry ≡ 1) (apart : (i : ℕ) → i < 256 → i ≢ d.entry → p' d.to i ≡ p d.to i) (other : (n i : ℕ) → n < s.agents → n ≢ d.to → i < 256 → p' n i ≡ p n i) where
    duty_in : (d.to < s.agents) × (d.kind < 4) × IsOf s d.kind d.entry × (has d.entry x ≡ 1)
    duty_in = subst (λ (z : Option Duty). IfSome z (λ d. (d.to < s.agents) × (d.kind < 4) × IsOf s d.kind d.entry × (has d.entry x ≡ 1))) duty (sound_of s c p o vs id x fits at).duty_in

    entry_in : d.entry < 256
    entry_in = omega (arith, duty_in.2.1, in_range s d.kind duty_in.1 le)

    was_clear : p d.to d.entry ≡ 0
    was_clear = let a = weigh-term (has d.entry) vs id x at in let g = fits.place d.entry entry_in in let h = fits.bits d.entry entry_in in let t = below_term (λ n. p n d.entry) s.agents d.to duty_in.0 in let z = duty_in.3 in omega arith

    hand_is : (i : ℕ) → has i (promises x) ≡ bit_at (without_bit x.hand d.entry) i
    hand_is i = ap (λ z. bit_at (hand_without z x.hand) i) duty

    pub promises_fit : Fits s c p' o (set vs id (one (promises x)))
    promises_fit = goes s c c p p' o o x (promises x) vs id (record {
      who = refl;
      place = λ i w w' li moved bit was. let v = hand_is i in dite (ℕ_discrete i d.entry)
          (λ q. let a = dropped_here x.hand d.entry in let b : bit_at (without_bit x.hand d.entry) i ≡ bit_at (without_bit x.hand d.entry) d.entry = ap (bit_at (without_bit x.hand d.entry)) q in let h : has i x ≡ has d.entry x = ap (λ j. has j x) q in let g = duty_in.3 in
          let z = below_moved (λ n. p n d.entry) (λ n. p' n d.entry) s.agents d.to duty_in.0 (λ n ln o. other n d.entry ln o entry_in) in let y = was_clear in
          let r : below (λ n. p' n i) s.agents ≡ below (λ n. p' n d.entry) s.agents = ap (λ j. below (λ n. p' n j) s.agents) q in let r' : below (λ n. p n i) s.agents ≡ below (λ n. p n d.entry) s.agents = ap (λ j. below (λ n. p n j) s.agents) q in (omega arith, omega arith))
          (λ f. let a = dropped_else x.hand d.entry i f in
          let z = below_same (λ n. p n i) (λ n. p' n i) s.agents (λ n ln. dite (ℕ_discrete n d.to) (λ q. ap (λ j. p' j i) q ∙ apart i li f ∙ ap (λ j. p j i) (sym q)) (λ o. other n i ln o li)) in (omega arith, omega arith));
      seen = λ n i w w' ln li moved mine was. dite (ℕ_discrete n d.to)
          (λ q. dite (ℕ_discrete i d.entry)
          (λ r. let y = was_clear in let z : p n i ≡ p d.to d.entry = ap (λ j. p j i) q ∙ ap (p d.to) r in omega arith)
          (λ f. let z : p' n i ≡ p n i = ap (λ j. p' j i) q ∙ apart i li f ∙ ap (λ j. p j i) (sym q) in omega arith))
          (λ f. let z = other n i ln f li in omega arith);
      noted = λ n k w w' ln moved mine was. omega arith;
      ledger = λ n u ln lu. let v : duty_is n u x.duty ≡ cond (eqb d.to n) (cond (eqb d.kind u) 1 0) 0 = ap (duty_is n u) duty in dite (ℕ_discrete d.to n)
          (λ q. let a = pick_same d.to n (cond (eqb d.kind u) 1 0) 0 q in
          let r : count_of s u (p' n) ≡ count_of s u (p' d.to) = ap (λ j. count_of s u (p' j)) (sym q) in let r' : count_of s u (p n) ≡ count_of s u (p d.to) = ap (λ j. count_of s u (p j)) (sym q) in
          dite (ℕ_discrete d.kind u)
          (λ k. let f = pick_same d.kind u 1 0 k in let y = count_moved s d.kind d.entry (p d.to) (p' d.to) duty_in.1 le duty_in.2 apart in let w = was_clear in
          let z : count_of s d.kind (p' d.to) ≡ count_of s u (p' d.to) = ap (λ j. count_of s j (p' d.to)) k in let z' : count_of s d.kind (p d.to) ≡ count_of s u (p d.to) = ap (λ j. count_of s j (p d.to)) k in omega arith)
          (λ k. let f = pick_other d.kind u 1 0 k in let y = count_kept s u d.kind d.entry (p d.to) (p' d.to) lu le duty_in.2 (λ j. k (sym j)) apart in omega arith))
          (λ f. let a = pick_other d.to n (cond (eqb d.kind u) 1 0) 0 f in let y = count_same s u (p n) (p' n) lu le (λ i li. other n i ln (λ q. f (sym q)) li) in omega arith);
      sound = λ sound. record { shape_is = sound.shape_is; who_in = sound.who_in; duty_in = tt };
    }) fits at

  -- a look for a place that finds the clear one k
  pub notes_fit : (t : ℕ) → bit_at (o x.who) (first_clear (8 * t) (o x.who)) ≡ 0 → Fits s c p o (set vs id (one (notes t (o x.who) x)))
  notes_fit t clear = let k : ℕ = first_clear (8 * t) (o x.who) in goes s c c p p o o x (notes t (o x.who) x) vs id (record {
    who = refl;
    place = λ i w w' li moved bit was. (omega arith, omega arith);
    seen = λ n i w w' ln li moved mine was. omega arith;
    noted = λ n i w w' ln moved mine was. dite (ℕ_discrete x.who n)
        (λ q. let m = mine q in let a = of_mine n (λ z. note_is i z.noted) x q in let b : of_port n (λ z. note_is i z.noted) (notes t (o x.who) x) ≡ cond (eqb k i) 1 0 = of_mine n (λ z. note_is i z.noted) (notes t (o x.who) x) q in
        dite (ℕ_discrete k i)
        (λ r. let f = pick_same k i 1 0 r in let g : bit_at (o n) i ≡ 0 = ap (λ j. bit_at (o j) i) (sym q) ∙ ap (bit_at (o x.who)) (sym r) ∙ clear in omega arith)
        (λ d. let f = pick_other k i 1 0 d in omega arith))
        (λ d. let a = of_other n (λ z. note_is i z.noted) x d in let b = of_other n (λ z. note_is i z.noted) (notes t (o x.who) x) d in omega arith);
    ledger = λ n u ln lu. omega arith;
    sound = λ sound. record { shape_is = sound.shape_is; who_in = sound.who_in; duty_in = sound.duty_in };
  }) fits at

  -- owed, beside spent and returned credits, are no more than the retries
  pub owed_fit : (t : ℕ) → t < 4 → owed_in t (o x.who) + slice_index x.spent t + slice_index x.returned t ≤ slice_index x.retries t
  owed_fit t lt =
      let h = fits.ledger x.who t who_is lt in let e = fits.one_port x.who who_is in
      let a = only_mine x.who (λ z. slice_index z.retries t) vs id x at refl e in let b = only_mine x.who (λ z. slice_index z.spent t) vs id x at refl e in let d = only_mine x.who (λ z. slice_index z.returned t) vs id x at refl e in omega arith

  -- owe at the noted place k
  module _ (o' : ℕ → ℕ) (k : ℕ) (noted : x.noted ≡ Some k) (lk : k < 32) (here : bit_at (o' x.who) k ≡ 1) (apart : (i : ℕ) → i ≢ k → bit_at (o' x.who) i ≡ bit_at (o x.who) i) (other : (n : ℕ) → n < s.agents → n ≢ x.who → o' n ≡ o n) where
    note_here : (i : ℕ) → note_is i x.noted ≡ cond (eqb k i) 1 0
    note_here i = ap (note_is i) noted

    place_clear : bit_at (o x.who) k ≡ 0
    place_clear = let f : PortView → ℕ = λ z. note_is k z.noted in let a = weigh-term (of_port x.who f) vs id x at in let b = of_mine x.who f x refl in let n = fits.noted x.who k who_is in let h = note_here k in let g = pick_same k k 1 0 refl in omega arith

    retries_is : (u : ℕ) → slice_index (owes x).retries u ≡ slice_index (one_more x.retries (k / 8)) u
    retries_is u = ap (λ z. slice_index (one_more x.retries (kind_noted z)) u) noted

    pub owes_fit : Fits s c p o' (set vs id (one (owes x)))
    owes_fit = goes s c c p p o o' x (owes x) vs id (record {
      who = refl;
      place = λ i w w' li moved bit was. (omega arith, omega arith);
      seen = λ n i w w' ln li moved mine was. omega arith;
      noted = λ n i w w' ln moved mine was. dite (ℕ_discrete x.who n)
          (λ q. let m = mine q in let a = of_mine n (λ z. note_is i z.noted) x q in let b : of_port n (λ z. note_is i z.noted) (owes x) ≡ 0 = of_mine n (λ z. note_is i z.noted) (owes x) q in let h = note_here i in
          dite (ℕ_discrete k i)
          (λ r. let f = pick_same k i 1 0 r in let y = bit_at-lt (o' n) i in omega arith)
          (λ d. let f = pick_other k i 1 0 d in let g : bit_at (o' n) i ≡ bit_at (o n) i = ap (λ j. bit_at (o' j) i) (sym q) ∙ apart i (λ r. d (sym r)) ∙ ap (λ j. bit_at (o j) i) q in omega arith))
          (λ d. let a = of_other n (λ z. note_is i z.noted) x d in let b = of_other n (λ z. note_is i z.noted) (owes x) d in let g : bit_at (o' n) i ≡ bit_at (o n) i = ap (λ z. bit_at z i) (other n ln (λ q. d (sym q))) in omega arith);
      ledger = λ n u ln lu. dite (ℕ_discrete x.who n)
          (λ q. let a = of_mine n (λ z. slice_index z.retries u) x q in let b : of_port n (λ z. slice_index z.retries u) (owes x) ≡ slice_index (owes x).retries u = of_mine n (λ z. slice_index z.retries u) (owes x) q in let h = retries_is u in
          let r : owed_in u (o' n) ≡ owed_in u (o' x.who) = ap (λ j. owed_in u (o' j)) (sym q) in let r' : owed_in u (o n) ≡ owed_in u (o x.who) = ap (λ j. owed_in u (o j)) (sym q) in
          dite (ℕ_discrete u (k / 8))
          (λ v. let g = raised_here x.retries (k / 8) in let g' : slice_index (one_more x.retries (k / 8)) u ≡ slice_index (one_more x.retries (k / 8)) (k / 8) = ap (slice_index (one_more x.retries (k / 8))) v in let g'' : slice_index x.retries u ≡ slice_index x.retries (k / 8) = ap (slice_index x.retries) v in
          let y = owed_moved k (o x.who) (o' x.who) lk (λ i li d. apart i d) in let z : owed_in u (o' x.who) ≡ owed_in (k / 8) (o' x.who) = ap (λ j. owed_in j (o' x.who)) v in let z' : owed_in u (o x.who) ≡ owed_in (k / 8) (o x.who) = ap (λ j. owed_in j (o x.who)) v in let w = place_clear in omega arith)
          (λ d. let g = raised_else x.retries (k / 8) u d in let y = owed_kept u k (o x.who) (o' x.who) lu lk d (λ i li e. apart i e) in omega arith))
          (λ d. let a = of_other n (λ z. slice_index z.retries u) x d in let b = of_other n (λ z. slice_index z.retries u) (owes x) d in let y : owed_in u (o' n) ≡ owed_in u (o n) = ap (owed_in u) (other n ln (λ q. d (sym q))) in omega arith);
      sound = λ sound. record { shape_is = sound.shape_is; who_in = sound.who_in; duty_in = sound.duty_in };
    }) fits at

  -- a look, sweeping
  pub sweeps_fit : (t m r : ℕ) → Fits s c p o (set vs id (one (sweeps t m r x)))
  sweeps_fit t m r = goes s c c p p o o x (sweeps t m r x) vs id (record {
    who = refl;
    place = λ i w w' li moved bit was. (omega arith, omega arith);
    seen = λ n i w w' ln li moved mine was. omega arith;
    noted = λ n i w w' ln moved mine was. omega arith;
    ledger = λ n u ln lu. omega arith;
    sound = λ sound. record { shape_is = sound.shape_is; who_in = sound.who_in; duty_in = sound.duty_in };
  }) fits at

  -- a see step that finds word k of P of its own
  pub sees_fit : (k r : ℕ) → ((e : ℕ) → e < 256 → e / 64 ≡ k → bit_at r (e % 64) ≡ p x.who e) → Fits s c p o (set vs id (one (views_word k r x)))
  sees_fit k r found = goes s c c p p o o x (views_word k r x) vs id (record {
    who = refl;
    place = λ i w w' li moved bit was. (omega arith, omega arith);
    seen = λ n i w w' ln li moved mine was. dite (ℕ_discrete x.who n)
        (λ q. let m = mine q in let a = of_mine n (λ z. set_at z.seen i) x q in let b : of_port n (λ z. set_at z.seen i) (views_word k r x) ≡ set_at (slice_set x.seen k r) i = of_mine n (λ z. set_at z.seen i) (views_word k r x) q in
        dite (ℕ_discrete (i / 64) k)
        (λ v. let g = put_there x.seen k r (i % 64) in let g' : set_at (slice_set x.seen k r) i ≡ bit_at (slice_index (slice_set x.seen k r) k) (i % 64) = ap (λ j. bit_at (slice_index (slice_set x.seen k r) j) (i % 64)) v in
        let h = found i li v in let z : p x.who i ≡ p n i = ap (λ j. p j i) q in omega arith)
        (λ d. let g : set_at (slice_set x.seen k r) i ≡ set_at x.seen i = ap (λ w. bit_at w (i % 64)) (get_or-set_other x.seen k (i / 64) r 0 d) in omega arith))
        (λ d. let a = of_other n (λ z. set_at z.seen i) x d in let b = of_other n (λ z. set_at z.seen i) (views_word k r x) d in omega arith);
    noted = λ n i w w' ln moved mine was. omega arith;
    ledger = λ n u ln lu. omega arith;
    sound = λ sound. record { shape_is = sound.shape_is; who_in = sound.who_in; duty_in = sound.duty_in };
  }) fits at
