-- What a byte is worth as a digit, as 16 lanes compute it.
use Rattle.std.proofs.Common.{◌≡◌, ℕ, ◌+◌, ◌-◌, ◌%◌, ◌<◌, List, [], ◌∷◌, cond, length, get_or, map, replicate, refl, sym, ap, subst, ◌∙◌, arith, w8, bit_or, Fits, nat_lt}
use Rattle.std.specs.List.{range_with_len}
use Rattle.std.specs.Simd.Lanes.{zip2, sel_l, top, Each1}
use Rattle.std.proofs.lemmas.List.FromFn.{get_or-map-range_with_len}
use Rattle.chi_lanes.specs.Numbers.{worth_of}

abbrev below : ℕ → ℕ → ℕ
below a b = cond (nat_lt a b) 255 0

abbrev minus : ℕ → ℕ → ℕ
minus a b = (a + (256 - b)) % 256

-- one lane
abbrev lane : ℕ → ℕ
lane x =
    let numeral = minus x 48 in
    let letter = minus (bit_or x 32) 97 in
    cond (top 7 (below letter 6)) ((letter + 10) % 256) (cond (top 7 (below numeral 10)) numeral 255)

-- all lanes, of so many
abbrev pub lanes : ℕ → List ℕ → List ℕ
lanes n xs =
    let numerals = zip2 minus xs (replicate n 48) in
    let letters = zip2 minus (zip2 bit_or xs (replicate n 32)) (replicate n 97) in
    sel_l (map (top 7) (zip2 below letters (replicate n 6))) (zip2 (λ a b. (a + b) % 256) letters (replicate n 10))
    (sel_l (map (top 7) (zip2 below numerals (replicate n 10))) numerals (replicate n 255))

each_lane : (xs : List ℕ) → lanes (length xs) xs ≡ map lane xs
each_lane [] = refl
each_lane (x ∷ xs) = ap (λ rest. lane x ∷ rest) (each_lane xs)

table : map lane (range_with_len 0 256) ≡ map worth_of (range_with_len 0 256)
table = refl

read : (f : ℕ → ℕ) (x : ℕ) → x < 256 → get_or (map f (range_with_len 0 256)) x 0 ≡ f x
read f x low = get_or-map-range_with_len f 0 256 x x 0 low (omega arith)

lane_is : (x : ℕ) → x < 256 → lane x ≡ worth_of x
lane_is x low = sym (read lane x low) ∙ (ap (λ t. get_or t x 0) table ∙ read worth_of x low)

all_are : (xs : List ℕ) → Each1 (Fits w8) xs → map lane xs ≡ map worth_of xs
all_are [] fit = refl
all_are (x ∷ xs) fit = (λ i. lane_is x fit.0.fits i ∷ all_are xs fit.1 i)

pub lanes_are : (n : ℕ) (xs : List ℕ) → length xs ≡ n → Each1 (Fits w8) xs → lanes n xs ≡ map worth_of xs
lanes_are n xs long fit = subst (λ m. lanes m xs ≡ map worth_of xs) long (each_lane xs ∙ all_are xs fit)
