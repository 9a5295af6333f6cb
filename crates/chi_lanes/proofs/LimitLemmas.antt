-- Numbers with a limit.
use Rattle.std.proofs.Common.{◌≡◌, ℕ, suc, ◌+◌, ◌-◌, ◌*◌, ◌^◌, ◌<◌, ◌≤◌, Bool, true, false, cond, nat_le, List, [], ◌∷◌, length, Option, Some, None, refl, sym, ap, ◌∙◌, arith, pow_mono}
use Rattle.std.proofs.lemmas.Bool.Decides.{nat_tests}
use Rattle.std.proofs.lemmas.Nat.{mul-le, pow-add}
use Rattle.chi_lanes.specs.Limits.{SixteenAreWithin, WithinIsUpTo, digits_within, up_to}
use Rattle.chi_lanes.proofs.Binds.{and_then}
use Rattle.chi_lanes.specs.Numbers.{digit_of, digits_after}

within : (most n : ℕ) → n ≤ most → Some n ≡ up_to most n
within most n low = grind (arith, nat_tests)

above : (most n : ℕ) → most < n → None ≡ up_to most n
above most n high = grind (arith, nat_tests)

high_of : (n most : ℕ) → nat_le n most ≡ false → most < n
high_of n most e = grind (arith, nat_tests)

low_of : (n most : ℕ) → nat_le n most ≡ true → n ≤ most
low_of n most e = grind (arith, nat_tests)

-- a number that is above the most stays so
stays_above : (most n : ℕ) (ds : List ℕ) → most < n → None ≡ and_then (digits_after n ds) (up_to most)
unfolding digits_after
stays_above most n [] high = above most n high
stays_above most n (d ∷ ds) high = by_digit (digit_of d) (λ v. digits_after (n * 16 + v) ds) (λ v. stays_above most (n * 16 + v) ds (omega (arith, high)))
  where
    by_digit : (o : Option ℕ) (next : ℕ → Option ℕ) → ((v : ℕ) → None ≡ and_then (next v) (up_to most)) → None ≡ and_then (and_then o next) (up_to most)
    by_digit None next none = refl
    by_digit (Some v) next none = none v

pub whole : WithinIsUpTo
unfolding digits_within digits_after
whole most n [] low = within most n low
whole most n (d ∷ ds) low = by_digit (digit_of d) (λ m. digits_within most m ds) (λ v. digits_after (n * 16 + v) ds) (λ v. by_test (nat_le (n * 16 + v) most) (n * 16 + v) refl (λ le. whole most (n * 16 + v) ds le))
  where
    by_digit : (o : Option ℕ) (first next : ℕ → Option ℕ) → ((v : ℕ) → and_then (up_to most (n * 16 + v)) first ≡ and_then (next v) (up_to most))
        → and_then (and_then o (λ v. up_to most (n * 16 + v))) first ≡ and_then (and_then o next) (up_to most)
    by_digit None first next step = refl
    by_digit (Some v) first next step = step v

    by_test : (b : Bool) (m : ℕ) → nat_le m most ≡ b → (m ≤ most → digits_within most m ds ≡ and_then (digits_after m ds) (up_to most))
        → and_then (cond b (Some m) None) (λ k. digits_within most k ds) ≡ and_then (digits_after m ds) (up_to most)
    by_test true m e rest = rest (low_of m most e)
    by_test false m e rest = stays_above most m ds (high_of m most e)

-- so many digits
digit_small : (d v : ℕ) → digit_of d ≡ Some v → v < 16
digit_small d v e = grind (arith, nat_tests)

abbrev scale : List ℕ → ℕ
scale ds = 2 ^ (4 * length ds)

scale_more : (d : ℕ) (ds : List ℕ) → scale (d ∷ ds) ≡ 16 * scale ds
scale_more d ds = ap (λ e. 2 ^ e) (let e : 4 * suc (length ds) ≡ 4 + 4 * length ds = omega arith in e) ∙ pow-add 2 4 (4 * length ds)

fits : (n : ℕ) (ds : List ℕ) → (n + 1) * scale ds ≤ 2 ^ 64 → and_then (digits_after n ds) (up_to (2 ^ 64 - 1)) ≡ digits_after n ds
unfolding digits_after
fits n [] room = sym (within (2 ^ 64 - 1) n (omega (arith, room)))
fits n (d ∷ ds) room = by_digit (digit_of d) refl (λ v small. fits (n * 16 + v) ds (step v small))
  where
    by_digit : (o : Option ℕ) → digit_of d ≡ o → ((v : ℕ) → v < 16 → and_then (digits_after (n * 16 + v) ds) (up_to (2 ^ 64 - 1)) ≡ digits_after (n * 16 + v) ds)
        → and_then (and_then o (λ v. digits_after (n * 16 + v) ds)) (up_to (2 ^ 64 - 1)) ≡ and_then o (λ v. digits_after (n * 16 + v) ds)
    by_digit None e rest = refl
    by_digit (Some v) e rest = rest v (digit_small d v e)

    step : (v : ℕ) → v < 16 → (n * 16 + v + 1) * scale ds ≤ 2 ^ 64
    step v small =
        let most = mul-le (n * 16 + v + 1) (scale ds) ((n + 1) * 16) (scale ds) (omega (arith, small)) (omega arith) in
        let more : (n + 1) * scale (d ∷ ds) ≡ (n + 1) * (16 * scale ds) = ap (λ s. (n + 1) * s) (scale_more d ds) in
        omega (arith, most, more, room)

pub sixteen : SixteenAreWithin
sixteen ds few =
    let most : 2 ^ (4 * length ds) ≤ 2 ^ 64 = pow_mono {i = 4 * length ds} {j = 64} (omega (arith, few)) in
    whole (2 ^ 64 - 1) 0 ds (omega arith) ∙ fits 0 ds (omega (arith, most))
