-- A witness is told of ports, or of what has a port, one after the other.
use Rattle.std.proofs.Common.{◌≡◌, ◌⊎◌, inl, inr, ℕ, zero, suc, ◌<◌, ◌≤◌, List, [], ◌∷◌, ◌++◌, All, length, slice_index_or, refl, sym, ap, ◌∙◌, subst, arith, length-append}
use mathlib.Core.Logic.{dite}
use native.Mathlib.Decide.{ℕ_discrete}
use Rattle.chi_tracker.specs.Acts.{Act}
use Rattle.chi_tracker.specs.Calls.{Owner}
use Rattle.chi_tracker.specs.History.{IsAfter}
use Rattle.chi_tracker.specs.Witness.{Told}

-- the witness goes on to what it knew or to what it was told
told_longer : (n : ℕ) (own old new : List Act) → Told n own old new → (length own ≤ length new) × (length old ≤ length new)
told_longer n own old new t = (
  (let e = ap (λ xs. length xs) t.port.1 in let f = length-append t.port.0 own in omega arith),
  (let e = ap (λ xs. length xs) t.on.1 in let f = length-append t.on.0 old in omega arith),
)

no-more : (later xs ys : List Act) → xs ≡ later ++ ys → length xs ≤ length ys → xs ≡ ys
no-more [] xs ys e l = e
no-more (a ∷ later) xs ys e l = absurd (let q = ap (λ zs. length zs) e in let r = length-append later ys in omega arith)

told_same : (n : ℕ) (own old new : List Act) → Told n own old new → length own ≤ length old → new ≡ old
told_same n own old new t l = same t.one
  where
    same : (new ≡ old) ⊎ (new ≡ own) → new ≡ old
    same (inl e) = e
    same (inr e) = no-more t.on.0 new old t.on.1 (let q = ap (λ zs. length zs) e in omega arith)

pub at_same : {X : Type 0} (xs : List X) (n : ℕ) (d e : X) → n < length xs → slice_index_or xs n d ≡ slice_index_or xs n e
at_same [] n d e l = absurd (omega (arith, l))
at_same (x ∷ xs) zero d e l = refl
at_same (x ∷ xs) (suc n) d e l = at_same xs n d e (omega (arith, l))

-- so far `done` of them were told of; Q is what each telling says of its own besides
pub record IsTelling {X : Type 0} (own : X → Owner) (Q : X → Type 0) (xs : List X) (old now : List Act) (done : ℕ) : Type 0 where
  pub grows : length old ≤ length now
  pub longest : (n : ℕ) (d : X) → n < done → n < length xs → length (own (slice_index_or xs n d)).history ≤ length now
  pub stays : All (λ x. length (own x).history ≤ length old) xs → now ≡ old
  pub after : All (λ x. length (own x).history ≤ length old) xs → (n : ℕ) (d : X) → n < done → n < length xs → IsAfter old (own (slice_index_or xs n d)).port
  pub facts : (n : ℕ) (d : X) → n < done → n < length xs → Q (slice_index_or xs n d)

module _ {X : Type 0} (own : X → Owner) (Q : X → Type 0) (xs : List X) where
  pub telling_first : (old : List Act) → IsTelling own Q xs old old 0
  telling_first old = record {
    grows = omega arith;
    longest = λ n d l in_list. absurd (omega (arith, l));
    stays = λ all. refl;
    after = λ all n d l in_list. absurd (omega (arith, l));
    facts = λ n d l in_list. absurd (omega (arith, l));
  }

  pub telling_more : (old now next : List Act) (done done' : ℕ) (x e : X) → IsTelling own Q xs old now done → done < length xs → done' ≡ suc done → x ≡ slice_index_or xs done e → Told (own x).port.who (own x).history now next → IsAfter next (own x).port → Q x
      → IsTelling own Q xs old next done'
  telling_more old now next done done' x e h low one_more is told after fact =
      let longer = told_longer (own x).port.who (own x).history now next told in
      let there : (d : X) → x ≡ slice_index_or xs done d = λ d. is ∙ at_same xs done e d low in
      let stays : All (λ y. length (own y).history ≤ length old) xs → next ≡ old = λ all.
      let same_now = h.stays all in let mine : length (own x).history ≤ length old = subst (λ (y : X). length (own y).history ≤ length old) (sym (there e)) (all done e low) in
      told_same (own x).port.who (own x).history now next told (let q = ap (λ zs. length zs) same_now in omega arith) ∙ same_now in
      record {
        grows = omega (arith, h.grows, longer.1);
        longest = λ n d l in_list. dite (ℕ_discrete n done)
            (λ q. subst (λ (i : ℕ). length (own (slice_index_or xs i d)).history ≤ length next) (sym q) (subst (λ (y : X). length (own y).history ≤ length next) (there d) longer.0))
            (λ q. omega (arith, h.longest n d (omega (arith, l, one_more, q)) in_list, longer.1));
        stays = stays;
        after = λ all n d l in_list. dite (ℕ_discrete n done)
            (λ q. subst (λ (i : ℕ). IsAfter old (own (slice_index_or xs i d)).port) (sym q) (subst (λ (y : X). IsAfter old (own y).port) (there d) (subst (λ (hs : List Act). IsAfter hs (own x).port) (stays all) after)))
            (λ q. h.after all n d (omega (arith, l, one_more, q)) in_list);
        facts = λ n d l in_list. dite (ℕ_discrete n done)
            (λ q. subst (λ (i : ℕ). Q (slice_index_or xs i d)) (sym q) (subst Q (there d) fact))
            (λ q. h.facts n d (omega (arith, l, one_more, q)) in_list);
      }
