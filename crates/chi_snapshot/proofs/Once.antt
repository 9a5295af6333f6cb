-- Bytes that can be read in one way only, whatever follows them.
use Rattle.std.proofs.Common.{◌≡◌, ℕ, ◌+◌, ◌*◌, ◌/◌, ◌%◌, List, [], ◌∷◌, ◌++◌, length, Bool, true, false, Option, Some, None, refl, sym, ◌∙◌, ap, append_assoc, arith}
use Rattle.std.specs.List.{flat_map}
use Rattle.chi_snapshot.specs.Bytes.{one_byte, two_bytes, four_bytes, eight_bytes, mark_bytes, option_bytes, list_bytes, long_list_bytes}

-- the bytes of two values, with what follows, are the same only where the values are, and what follows
pub record IsOnce {A : Type 0} (bytes : A → List ℕ) : Type 0 where
  pub once : (x y : A) (r s : List ℕ) → bytes x ++ r ≡ bytes y ++ s → (x ≡ y) × (r ≡ s)

same_pair : {A B : Type 0} (p q : A × B) → p.0 ≡ q.0 → p.1 ≡ q.1 → p ≡ q
same_pair {A = A} {B = B} p q first second = let halfway : p ≡ (q.0, p.1) = ap (λ (x : A). (x, p.1)) first in halfway ∙ ap (λ (y : B). (q.0, y)) second

-- one part after the other
pub both : {A B : Type 0} {e : A → List ℕ} {f : B → List ℕ} → IsOnce e → IsOnce f → IsOnce (λ (p : A × B). e p.0 ++ f p.1)
both {e = e} {f = f} one other = record {
  once = λ p q r s same.
      let moved : e p.0 ++ (f p.1 ++ r) ≡ e q.0 ++ (f q.1 ++ s) = sym (append_assoc (e p.0) (f p.1) r) ∙ (same ∙ append_assoc (e q.0) (f q.1) s) in
      let first = one.once p.0 q.0 _ _ moved in
      let second = other.once p.1 q.1 _ _ first.1 in
      (same_pair p q first.0 second.0, second.1);
}

-- what is written as its parts are, and is found again in them
pub through : {A B : Type 0} {e : A → List ℕ} {f : B → List ℕ} (parts : B → A) (whole : A → B) → IsOnce e → ((b : B) → f b ≡ e (parts b)) → ((b : B) → whole (parts b) ≡ b) → IsOnce f
through {e = e} {f = f} parts whole one is inverse = record {
  once = λ a b r s same.
      let moved : e (parts a) ++ r ≡ e (parts b) ++ s = ap (λ (x : List ℕ). x ++ r) (sym (is a)) ∙ (same ∙ ap (λ (x : List ℕ). x ++ s) (is b)) in
      let found = one.once (parts a) (parts b) r s moved in
      (sym (inverse a) ∙ (ap whole found.0 ∙ inverse b), found.1);
}

-- numbers
pub one : IsOnce one_byte
one = record { once = λ x y r s same. (cc, cc) }

pub two : IsOnce two_bytes
two = through (λ n. (n % 256, n / 256)) (λ p. p.1 * 256 + p.0) (both one one) (λ n. refl) (λ n. omega arith)

pub four : IsOnce four_bytes
unfolding four_bytes
four = through (λ n. (n % 65536, n / 65536)) (λ p. p.1 * 65536 + p.0) (both two two) (λ n. refl) (λ n. omega arith)

pub eight : IsOnce eight_bytes
unfolding eight_bytes
eight = through (λ n. (n % 4294967296, n / 4294967296)) (λ p. p.1 * 4294967296 + p.0) (both four four) (λ n. refl) (λ n. omega arith)

-- what may be missing
option_once : {A : Type 0} (e : A → List ℕ) → IsOnce e → (a b : Option A) (r s : List ℕ) → option_bytes e a ++ r ≡ option_bytes e b ++ s → (a ≡ b) × (r ≡ s)
option_once e each None None r s same = (refl, cc)
option_once e each None (Some y) r s same = let apart : ◌≡◌ {A = ℕ} 0 1 = cc in absurd (omega (arith, apart))
option_once e each (Some x) None r s same = let apart : ◌≡◌ {A = ℕ} 0 1 = cc in absurd (omega (arith, apart))
option_once e each (Some x) (Some y) r s same =
    let moved : e x ++ r ≡ e y ++ s = cc in
    let found = each.once x y r s moved in
    (ap Some found.0, found.1)

pub option : {A : Type 0} {e : A → List ℕ} → IsOnce e → IsOnce (option_bytes e)
option {e = e} one = record { once = option_once e one }

-- a mark
mark_once : (a b : Bool) (r s : List ℕ) → mark_bytes a ++ r ≡ mark_bytes b ++ s → (a ≡ b) × (r ≡ s)
mark_once true true r s same = (refl, cc)
mark_once false false r s same = (refl, cc)
mark_once true false r s same = let apart : ◌≡◌ {A = ℕ} 0 1 = cc in absurd (omega (arith, apart))
mark_once false true r s same = let apart : ◌≡◌ {A = ℕ} 0 1 = cc in absurd (omega (arith, apart))

pub mark : IsOnce mark_bytes
mark = record { once = mark_once }

-- lists
pieces : {A : Type 0} (e : A → List ℕ) → IsOnce e → (xs ys : List A) (r s : List ℕ) → length xs ≡ length ys → flat_map e xs ++ r ≡ flat_map e ys ++ s → (xs ≡ ys) × (r ≡ s)
pieces e one [] [] r s long same = (refl, same)
pieces e one [] (y ∷ ys) r s long same = absurd (omega (arith, long))
pieces e one (x ∷ xs) [] r s long same = absurd (omega (arith, long))
pieces {A = A} e one (x ∷ xs) (y ∷ ys) r s long same =
    let moved : e x ++ (flat_map e xs ++ r) ≡ e y ++ (flat_map e ys ++ s) = sym (append_assoc (e x) (flat_map e xs) r) ∙ (same ∙ append_assoc (e y) (flat_map e ys) s) in
    let first = one.once x y _ _ moved in
    let short : length xs ≡ length ys = omega (arith, long) in
    let rest = pieces e one xs ys r s short first.1 in
    (ap (λ (a : A). a ∷ xs) first.0 ∙ ap (λ (zs : List A). y ∷ zs) rest.0, rest.1)

counted : {A : Type 0} (count : ℕ → List ℕ) (e : A → List ℕ) → IsOnce count → IsOnce e → IsOnce (λ (xs : List A). count (length xs) ++ flat_map e xs)
counted count e number one = record {
  once = λ xs ys r s same.
      let moved : count (length xs) ++ (flat_map e xs ++ r) ≡ count (length ys) ++ (flat_map e ys ++ s) = sym (append_assoc (count (length xs)) (flat_map e xs) r) ∙ (same ∙ append_assoc (count (length ys)) (flat_map e ys) s) in
      let long = number.once (length xs) (length ys) _ _ moved in
      pieces e one xs ys r s long.0 long.1;
}

pub list : {A : Type 0} {e : A → List ℕ} → IsOnce e → IsOnce (list_bytes e)
list {e = e} one_each = counted one_byte e one one_each

pub long_list : {A : Type 0} {e : A → List ℕ} → IsOnce e → IsOnce (long_list_bytes e)
long_list {e = e} one_each = counted eight_bytes e eight one_each

-- a number names one of what it numbers
pub named : {A : Type 0} (number : A → ℕ) (back : ℕ → A) → ((a : A) → back (number a) ≡ a) → IsOnce (λ (a : A). one_byte (number a))
named number back inverse = through number back one (λ a. refl) inverse
