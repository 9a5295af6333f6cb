-- Sixteen digits as one number.
use Rattle.std.proofs.Common.{◌≡◌, ℕ, ◌+◌, ◌*◌, ◌%◌, ◌^◌, ◌<◌, List, [], ◌∷◌, ◌++◌, length, get_or, map, replicate, refl, sym, subst, ◌∙◌, arith, bit_and, bit_or}
use Rattle.std.specs.Int.{from_be_bytes, w64}
use Rattle.std.specs.List.{range_with_len}
use Rattle.std.specs.Simd.Lanes.{zip2, pick_l}
use Rattle.std.proofs.lemmas.List.FromFn.{fill_by_all}
use Rattle.std.proofs.lemmas.Nat.{and_mask, or_shifted, mod_below}
use Rattle.chi_lanes.specs.Numbers.{packed_after, packed_of}

abbrev shifted : ℕ → ℕ → ℕ
shifted a b = a * 2 ^ b % 256

-- the low halves of neighbours, side by side
abbrev pairs : ℕ → List ℕ → List ℕ
pairs n ws =
    let halves = zip2 bit_and ws (replicate n 15) in
    let evens = pick_l 0 (halves ++ halves) (0 ∷ 2 ∷ 4 ∷ 6 ∷ 8 ∷ 10 ∷ 12 ∷ 14 ∷ 16 ∷ 18 ∷ 20 ∷ 22 ∷ 24 ∷ 26 ∷ 28 ∷ 30 ∷ []) in
    let odds = pick_l 0 (halves ++ halves) (1 ∷ 3 ∷ 5 ∷ 7 ∷ 9 ∷ 11 ∷ 13 ∷ 15 ∷ 17 ∷ 19 ∷ 21 ∷ 23 ∷ 25 ∷ 27 ∷ 29 ∷ 31 ∷ []) in
    zip2 bit_or (zip2 shifted evens (replicate n 4)) odds

abbrev pub front : List ℕ → List ℕ
front ws = get_or ws 0 0 ∷ get_or ws 1 0 ∷ get_or ws 2 0 ∷ get_or ws 3 0 ∷ get_or ws 4 0 ∷ get_or ws 5 0 ∷ get_or ws 6 0 ∷ get_or ws 7 0 ∷ []

abbrev pair : ℕ → ℕ → ℕ
pair h l = bit_or (shifted (bit_and h 15) 4) (bit_and l 15)

pair_is : (h l : ℕ) → pair h l ≡ h % 16 * 16 + l % 16
pair_is h l =
    let high : bit_and h 15 ≡ h % 16 = and_mask h 4 in
    let low : bit_and l 15 ≡ l % 16 = and_mask l 4 in
    let small : h % 16 < 16 = mod_below h 16 (omega arith) in
    let whole : shifted (bit_and h 15) 4 ≡ h % 16 * 2 ^ 4 = omega arith in
    (λ i. bit_or (whole i) (low i)) ∙ or_shifted (h % 16) 4 (l % 16) (mod_below l 16 (omega arith))

abbrev worth8 : (a b c d e f g h : ℕ) → ℕ
worth8 a b c d e f g h = a * 256 ^ 7 + b * 256 ^ 6 + c * 256 ^ 5 + d * 256 ^ 4 + e * 256 ^ 3 + f * 256 ^ 2 + g * 256 + h

horner : (a b c d e f g h i j k l m n o p : ℕ)
    → worth8 (a * 16 + b) (c * 16 + d) (e * 16 + f) (g * 16 + h) (i * 16 + j) (k * 16 + l) (m * 16 + n) (o * 16 + p)
    ≡ ((((((((((((((((0 * 16 + a) * 16 + b) * 16 + c) * 16 + d) * 16 + e) * 16 + f) * 16 + g) * 16 + h) * 16 + i) * 16 + j) * 16 + k) * 16 + l) * 16 + m) * 16 + n) * 16 + o) * 16 + p)
horner a b c d e f g h i j k l m n o p = omega arith

joined : (a b c d e f g h i j k l m n o p : ℕ) → from_be_bytes w64 (pair a b ∷ pair c d ∷ pair e f ∷ pair g h ∷ pair i j ∷ pair k l ∷ pair m n ∷ pair o p ∷ [])
    ≡ packed_of (a ∷ b ∷ c ∷ d ∷ e ∷ f ∷ g ∷ h ∷ i ∷ j ∷ k ∷ l ∷ m ∷ n ∷ o ∷ p ∷ [])
unfolding packed_after
joined a b c d e f g h i j k l m n o p =
    (λ x. worth8 (pair_is a b x) (pair_is c d x) (pair_is e f x) (pair_is g h x) (pair_is i j x) (pair_is k l x) (pair_is m n x) (pair_is o p x))
    ∙ horner (a % 16) (b % 16) (c % 16) (d % 16) (e % 16) (f % 16) (g % 16) (h % 16) (i % 16) (j % 16) (k % 16) (l % 16) (m % 16) (n % 16) (o % 16) (p % 16)

pub packed_is : (ws : List ℕ) → length ws ≡ 16 → from_be_bytes w64 (front (pairs 16 ws)) ≡ packed_of ws
packed_is ws long =
    let at = λ (k : ℕ). get_or ws k 0 in
    let e : ws ≡ map at (range_with_len 0 16) = fill_by_all at ws 16 0 long (λ k l. refl) in
    subst (λ xs. from_be_bytes w64 (front (pairs 16 xs)) ≡ packed_of xs) (sym e)
    (joined (at 0) (at 1) (at 2) (at 3) (at 4) (at 5) (at 6) (at 7) (at 8) (at 9) (at 10) (at 11) (at 12) (at 13) (at 14) (at 15))
