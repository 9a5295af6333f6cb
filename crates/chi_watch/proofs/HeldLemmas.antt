-- A beat that joins a flit of the queue, at its place.
use Rattle.std.proofs.Common.{◌≡◌, ℕ, ◌+◌, ◌≤◌, zero, suc, Bool, true, false, List, [], ◌∷◌, length, refl, sym, ap, ◌∙◌, arith}
use Rattle.std.specs.Prelude.{Some, None, cond, not, nat_lt, if◌then◌else◌, slice_index_or, slice_set}
use Rattle.std.specs.List.{position, position_or_len}
use Rattle.chi_issue_b.specs.declared.beat.Beat.{Beat}
use Rattle.chi_watch.specs.declared.held.HeldFlit.{HeldFlit}
use Rattle.chi_watch.specs.Held.{awaits, joined, joined_at, joined_in}

-- what is written there
written_at : (beat : Beat) (number : ℕ) (is_last : Bool) (held : HeldFlit) (waiting : List HeldFlit) (place : ℕ) → held ≡ slice_index_or waiting place held
    → slice_set waiting place (joined beat number is_last held) ≡ joined_at place beat number is_last waiting
written_at beat number is_last held [] place is = refl
written_at beat number is_last held (front ∷ rest) zero is = ap (λ h. joined beat number is_last h ∷ rest) is
written_at beat number is_last held (front ∷ rest) (suc place) is = ap (λ hs. front ∷ hs) (written_at beat number is_last held rest place is)

pub written_by : (beat : Beat) (number : ℕ) (is_last : Bool) (held new : HeldFlit) (waiting : List HeldFlit) (place : ℕ)
    → new ≡ joined beat number is_last held → held ≡ slice_index_or waiting place held → slice_set waiting place new ≡ joined_at place beat number is_last waiting
written_by beat number is_last held new waiting place made was = ap (slice_set waiting place) made ∙ written_at beat number is_last held waiting place was

none : (n : ℕ) → suc n ≤ 0 → ⊥
none n h = omega (arith, h)

-- behind the last one nothing changes
pub past_at : (beat : Beat) (number : ℕ) (is_last : Bool) (waiting : List HeldFlit) (place : ℕ) → length waiting ≤ place → joined_at place beat number is_last waiting ≡ waiting
past_at beat number is_last [] place past = refl
past_at beat number is_last (front ∷ rest) zero past = absurd (none (length rest) past)
past_at beat number is_last (front ∷ rest) (suc place) past = ap (λ hs. front ∷ hs) (past_at beat number is_last rest place (omega arith))

-- the first place that awaits the id, or behind the last one
joined_first : (id : ℕ) (beat : Beat) (number : ℕ) (is_last : Bool) (waiting : List HeldFlit) → joined_at (position_or_len (awaits id) waiting) beat number is_last waiting ≡ joined_in id beat number is_last waiting
joined_first id beat number is_last [] = refl
joined_first id beat number is_last (front ∷ rest) = by (awaits id front) (joined_first id beat number is_last rest)
  where
    next : (n : ℕ) → 1 + n ≡ suc n
    next n = omega arith

    by : (b : Bool) → joined_at (position_or_len (awaits id) rest) beat number is_last rest ≡ joined_in id beat number is_last rest
        → joined_at (cond (not b) (1 + position_or_len (awaits id) rest) 0) beat number is_last (front ∷ rest) ≡ (if b then joined beat number is_last front ∷ rest else front ∷ joined_in id beat number is_last rest)
    by true behind = refl
    by false behind = ap (λ n. joined_at n beat number is_last (front ∷ rest)) (next (position_or_len (awaits id) rest)) ∙ ap (λ hs. front ∷ hs) behind

found_is : (b : Bool) (n place : ℕ) → cond b (Some n) None ≡ Some place → n ≡ place
found_is true n place h = cc h
found_is false n place h = absurd (cc h)

none_is : (b : Bool) (n : ℕ) → cond b (Some n) None ≡ None → b ≡ false
none_is true n h = absurd (cc h)
none_is false n h = refl

pub joined_found : (id : ℕ) (beat : Beat) (number : ℕ) (is_last : Bool) (waiting : List HeldFlit) (place : ℕ) → position (awaits id) waiting ≡ Some place → joined_at place beat number is_last waiting ≡ joined_in id beat number is_last waiting
joined_found id beat number is_last waiting place h = ap (λ n. joined_at n beat number is_last waiting) (sym (found_is (nat_lt (position_or_len (awaits id) waiting) (length waiting)) (position_or_len (awaits id) waiting) place h)) ∙ joined_first id beat number is_last waiting

pub joined_none : (id : ℕ) (beat : Beat) (number : ℕ) (is_last : Bool) (waiting : List HeldFlit) → position (awaits id) waiting ≡ None → waiting ≡ joined_in id beat number is_last waiting
joined_none id beat number is_last waiting h =
    let past : length waiting ≤ position_or_len (awaits id) waiting = grind (arith, none_is (nat_lt (position_or_len (awaits id) waiting) (length waiting)) (position_or_len (awaits id) waiting) h) in
    sym (past_at beat number is_last waiting (position_or_len (awaits id) waiting) past) ∙ joined_first id beat number is_last waiting
