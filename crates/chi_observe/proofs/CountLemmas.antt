-- On how many cache lines a copy isn't known: as many as there are entries of such.
--     next_below    one agent more of which it is known
--     counted       the keys of such entries, each once
use Rattle.std.proofs.Common.{◌≡◌, ◌&&◌, ◌||◌, ℕ, ◌+◌, suc, Bool, true, false, cond, List, [], ◌∷◌, length, refl, sym, ap, subst, ◌∙◌, arith, Option, None, Some, eqb-true}
use Rattle.std.specs.Prelude.{nat_eq, option_map}
use Rattle.std.specs.List.{AllByRecursion, IsDistinct, count_by, filter, list_any}
use Rattle.std.specs.Map.{keys_of, lookup, values_of}
use Rattle.std.proofs.lemmas.List.Sums.{sum_by-cons}
use Rattle.std.proofs.lemmas.Map.Keys.{IsDistinct-head, IsDistinct-tail}
use Rattle.std.proofs.lemmas.Map.Made.{IsDistinct-keys_filter}
use Rattle.chi_observer.specs.Worlds.{all_below}
use Rattle.chi_observe.specs.declared.lines.LineSeen.{LineSeen}
use Rattle.chi_observe.specs.Beginnings.{IsCountOf, is_unknown_by, is_unknown_in}
use Rattle.chi_observe.specs.Lines.{line_state, lines_in}

swap : (a b : Bool) → (a && b) ≡ (b && a)
swap true true = refl
swap true false = refl
swap false true = refl
swap false false = refl

suc_is : (k : ℕ) → suc k ≡ k + 1
suc_is k = omega arith

pub next_below : (k : ℕ) (f : ℕ → Bool) (a b : Bool) → a ≡ all_below k f → b ≡ f k → (a && b) ≡ all_below (k + 1) f
next_below k f a b h e = (λ i. h i && e i) ∙ swap (all_below k f) (f k) ∙ ap (λ (n : ℕ). all_below n f) (suc_is k)

module _ {V : Type 0} (test : V → Bool) where
  abbrev passes : ℕ × V → Bool
  passes e = test e.1

  abbrev found_by : Option V → Bool
  found_by None = false
  found_by (Some v) = test v

  -- a key is none of those that differ from it
  none_left : (n : ℕ) (es : List (ℕ × V)) → AllByRecursion (λ y. nat_eq n y ≡ false) (keys_of es) → list_any (nat_eq n) (keys_of (filter passes es)) ≡ false
  none_left n [] h = refl
  none_left n (e ∷ es) h = by (test e.1) (none_left n es h.1)
    where
      by : (b : Bool) → list_any (nat_eq n) (keys_of (filter passes es)) ≡ false → list_any (nat_eq n) (keys_of (cond b (e ∷ filter passes es) (filter passes es))) ≡ false
      by true rest = ap (λ (c : Bool). c || list_any (nat_eq n) (keys_of (filter passes es))) h.0 ∙ rest
      by false rest = rest

  -- the keys of those that pass are those whose value is found, and passes
  all : (es : List (ℕ × V)) → IsDistinct nat_eq (keys_of es) → (n : ℕ) → list_any (nat_eq n) (keys_of (filter passes es)) ≡ found_by (lookup (nat_eq n) es)
  all [] once n = refl
  all (e ∷ es) once n = by (nat_eq n e.0) refl (test e.1) refl (all es (IsDistinct-tail nat_eq e.0 (keys_of es) once) n)
    where
      by : (at : Bool) → nat_eq n e.0 ≡ at → (b : Bool) → test e.1 ≡ b → list_any (nat_eq n) (keys_of (filter passes es)) ≡ found_by (lookup (nat_eq n) es)
          → list_any (nat_eq n) (keys_of (cond b (e ∷ filter passes es) (filter passes es))) ≡ found_by (cond at (Some e.1) (lookup (nat_eq n) es))
      by true here true q rest = ap (λ (c : Bool). c || list_any (nat_eq n) (keys_of (filter passes es))) here ∙ sym q
      by true here false q rest = none_left n es (subst (λ (m : ℕ). AllByRecursion (λ y. nat_eq m y ≡ false) (keys_of es)) (sym (eqb-true n e.0 here)) (IsDistinct-head nat_eq e.0 (keys_of es) once)) ∙ sym q
      by false here true q rest = ap (λ (c : Bool). c || list_any (nat_eq n) (keys_of (filter passes es))) here ∙ rest
      by false here false q rest = rest

  count : (es : List (ℕ × V)) → length (keys_of (filter passes es)) ≡ count_by test (values_of es)
  count [] = refl
  count (e ∷ es) = by (test e.1) (sum_by-cons (λ v. cond (test v) 1 0) e.1 (values_of es)) (count es)
    where
      by : (b : Bool) → count_by test (values_of (e ∷ es)) ≡ cond b 1 0 + count_by test (values_of es) → length (keys_of (filter passes es)) ≡ count_by test (values_of es)
          → length (keys_of (cond b (e ∷ filter passes es) (filter passes es))) ≡ count_by test (values_of (e ∷ es))
      by true is rest = omega (arith, is, rest)
      by false is rest = omega (arith, is, rest)

module _ {A : Type 0} (agents : ℕ) where
  abbrev is_one : LineSeen A → Bool
  is_one seen = is_unknown_in agents (line_state seen)

  shown : (o : Option (LineSeen A)) → found_by is_one o ≡ is_unknown_by agents (option_map line_state o)
  shown None = refl
  shown (Some seen) = refl

  pub counted : (es : List (ℕ × LineSeen A)) (number : ℕ) → IsDistinct nat_eq (keys_of es) → number ≡ count_by (λ (seen : LineSeen A). is_unknown_in agents (line_state seen)) (values_of es)
      → IsCountOf (λ l. is_unknown_by agents (lines_in es l)) number
  counted es number once is = record {
    found = keys_of (filter (λ e. is_one e.1) es);
    once = IsDistinct-keys_filter nat_eq (λ e. is_one e.1) es once;
    all = λ n. all is_one es once n ∙ shown (lookup (nat_eq n) es);
    counted = count is_one es ∙ sym is;
  }
