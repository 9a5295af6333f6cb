-- A set without an agent, mark by mark.
use Rattle.std.specs.Prelude.{◌≡◌, ◌≢◌, ℕ, ◌<◌, ◌≤◌, List, Bool, length, true, false, ◌&&◌, not}
use Rattle.std.proofs.Common.{◌∙◌, sym, subst, arith, ⊎_elim}
use Rattle.std.proofs.lemmas.Bool.{cases_eq}
use Rattle.std.proofs.lemmas.List.{ext_get_or, get_or-set_same, get_or-set_other, length-set, get_or-replicate}
use Rattle.chi_filter.specs.Filter.{is_in, nobody, only_set, others_than}

-- the marks below k are those of the set but for the one that is alone
pub record LeftBelow (set alone others : List Bool) (k : ℕ) : Type 0 where
  pub size : length others ≡ 8
  pub each : (m : ℕ) → m < k → is_in others m ≡ (is_in set m && not (is_in alone m))

left_one : (b c : Bool) → c ≡ true → b && not c ≡ false
left_one b c h = grind (arith, h)

left_other : (b c : Bool) → c ≡ false → b && not c ≡ b
left_other b c h = grind (arith, h)

mark : (set : List Bool) (n m : ℕ) → n < 8 → m < 8 → length set ≡ 8 → is_in set m && not (is_in (only_set n) m) ≡ is_in (others_than n set) m
mark set n m low_n low eight = ⊎_elim
    (λ (e : m ≡ n).
    let alone : is_in (only_set n) n ≡ true = get_or-set_same nobody n true false low_n in
    let gone : is_in (others_than n set) n ≡ false = get_or-set_same set n false false (subst (λ (k : ℕ). n < k) (sym eight) low_n) in
    subst (λ (k : ℕ). is_in set k && not (is_in (only_set n) k) ≡ is_in (others_than n set) k) (sym e) (left_one (is_in set n) (is_in (only_set n) n) alone ∙ sym gone))
    (λ (apart : m ≢ n).
    let alone : is_in (only_set n) m ≡ false = get_or-set_other nobody n m true false apart ∙ get_or-replicate 8 m false false low in
    left_other (is_in set m) (is_in (only_set n) m) alone ∙ sym (get_or-set_other set n m false false apart))
    (cases_eq m n)

pub all_left : (set others : List Bool) (n k : ℕ) → n < 8 → length set ≡ 8 → 8 ≤ k → LeftBelow set (only_set n) others k → others ≡ others_than n set
all_left set others n k low_n eight all left =
    ext_get_or false others (others_than n set) (left.size ∙ (sym eight ∙ sym (length-set set n false)))
    (λ m low. let low' : m < 8 = subst (λ (j : ℕ). m < j) left.size low in left.each m (omega (arith, low', all)) ∙ mark set n m low_n low' eight)
