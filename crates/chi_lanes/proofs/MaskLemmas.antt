-- Masks of 64 bits, a bit for each byte.
use Rattle.std.proofs.Common.{◌≡◌, ℕ, ◌%◌, ◌^◌, ◌≤◌, ◌==◌, ◌||◌, List, [], ◌∷◌, Bool, true, false, cond, length, map, replicate, refl, ap, subst, ◌∙◌, arith, w8, bit_or}
use Rattle.std.specs.Int.{bit_at}
use Rattle.std.specs.Simd.Lanes.{zip2, mask_l, top}
use Rattle.std.proofs.lemmas.Simd.{bit_mask_l, bitmask_splat, mask_l-mod}
use Rattle.std.proofs.lemmas.List.{length-map}
use Rattle.chi_lanes.specs.Masks.{Marks, is_blank}

-- the mask of a comparison with one byte
pub marked : (test : ℕ → ℕ → Bool) (byte n : ℕ) (lanes : List ℕ) → length lanes ≡ n → n ≤ 64
    → Marks (mask_l (map (top 7) (zip2 (λ a b. cond (test a b) 255 0) lanes (replicate n byte))) % 2 ^ 64) (λ other. test other byte) lanes
marked test byte n lanes long few k =
    ap (λ m. bit_at m k) (bitmask_splat w8 test lanes n byte long few)
    ∙ bit_mask_l (map (λ x. test x byte) lanes) k

-- the mask of comparisons with the three blanks
abbrev equal : ℕ → ℕ → ℕ
equal a b = cond (a == b) 255 0

one_lane : (p q r : Bool) → top 7 (bit_or (bit_or (cond p 255 0) (cond q 255 0)) (cond r 255 0)) ≡ ((p || q) || r)
one_lane true true true = refl
one_lane true true false = refl
one_lane true false true = refl
one_lane true false false = refl
one_lane false true true = refl
one_lane false true false = refl
one_lane false false true = refl
one_lane false false false = refl

abbrev blank_lanes : ℕ → List ℕ → List Bool
blank_lanes n xs = map (top 7) (zip2 bit_or (zip2 bit_or (zip2 equal xs (replicate n 32)) (zip2 equal xs (replicate n 9))) (zip2 equal xs (replicate n 13)))

blank_lanes_are : (xs : List ℕ) → blank_lanes (length xs) xs ≡ map is_blank xs
blank_lanes_are [] = refl
blank_lanes_are (x ∷ xs) = λ i. one_lane (x == 32) (x == 9) (x == 13) i ∷ blank_lanes_are xs i

pub blanks_marked : (lanes : List ℕ) → length lanes ≡ 64 → Marks (mask_l (blank_lanes 64 lanes) % 2 ^ 64) is_blank lanes
blanks_marked lanes long k =
    let tests : blank_lanes 64 lanes ≡ map is_blank lanes = subst (λ n. blank_lanes n lanes ≡ map is_blank lanes) long (blank_lanes_are lanes) in
    let few : length (map is_blank lanes) ≤ 64 = omega (arith, length-map lanes is_blank, long) in
    ap (λ ms. bit_at (mask_l ms % 2 ^ 64) k) tests
    ∙ (ap (λ m. bit_at m k) (mask_l-mod (map is_blank lanes) 64 few) ∙ bit_mask_l (map is_blank lanes) k)
