-- A run of digits among sixteen bytes, and the number that it writes.
use Rattle.std.proofs.Common.{◌≡◌, ℕ, zero, suc, ◌+◌, ◌-◌, ◌*◌, ◌/◌, ◌%◌, ◌^◌, ◌<◌, ◌≤◌, nat_lt, List, [], ◌∷◌, ◌++◌, true, false, cond, length, get_or, take, drop, map, Option, Some, None, is_some, refl, sym, ap, subst, ◌∙◌, arith, shr-shr, w64, length-append, pow_mono}
use Rattle.std.specs.Int.{trailing_ones}
use Rattle.std.specs.Option.{unwrap_or}
use Rattle.std.specs.Simd.Lanes.{mask_l}
use Rattle.std.proofs.lemmas.Simd.{bit_mask_l, get_or-chunk, length-chunk, mask_l-lt}
use Rattle.std.proofs.lemmas.Bool.Decides.{nat_tests}
use Rattle.std.proofs.lemmas.List.{drop-map, drop_all, length-drop, length-map, length-take-le, take-append-drop, take-append-le, take-map}
use Rattle.std.proofs.lemmas.Nat.{mod_below, mod_low, mul-add-lt, mul-le, pow-add, shl_below, shr_high, shr_le}
use Rattle.std.proofs.Math.Seq.{drop-cons}
use Rattle.std.proofs.lemmas.Nat.Bits.{bit_at-trailing_ones, same_from_bits}
use Rattle.chi_lanes.specs.declared.digits.Digits.{Digits}
use Rattle.chi_lanes.specs.Masks.{Marks, bytes_at}
use Rattle.chi_lanes.proofs.Binds.{and_then}
use Rattle.chi_lanes.proofs.BitLemmas.{clear_is, set_is}
use Rattle.chi_lanes.specs.Numbers.{IsOf, digit_of, digits_after, is_digit, is_small, number_of, packed_after, packed_of, worth_of}

-- a digit is worth less than 16, and any other byte is not
pub small_is : (b : ℕ) → is_small (worth_of b) ≡ is_digit b
small_is b = grind (arith, nat_tests)

-- digits alone write the number that is packed of them
abbrev AllDigits : List ℕ → Type 0
AllDigits ds = (k : ℕ) → k < length ds → get_or (map is_digit ds) k false ≡ true

digit_step : (b : ℕ) (o : Option ℕ) (n : ℕ) (next : ℕ → Option ℕ) → digit_of b ≡ o → is_some o ≡ true → and_then o (λ v. next (n * 16 + v)) ≡ next (n * 16 + unwrap_or o 255)
digit_step b None n next is some = absurd (cc some)
digit_step b (Some v) n next is some = refl

digits_packed : (n : ℕ) (ds : List ℕ) → AllDigits ds → digits_after n ds ≡ Some (packed_after n (map worth_of ds))
unfolding digits_after packed_after
digits_packed n [] all = refl
digits_packed n (d ∷ ds) all =
    let first : is_digit d ≡ true = all 0 (omega arith) in
    let small : nat_lt (worth_of d) 16 ≡ true = small_is d ∙ first in
    let whole : worth_of d ≡ worth_of d % 16 = grind (arith, nat_tests) in
    digit_step d (digit_of d) n (λ m. digits_after m ds) refl first
    ∙ (ap (λ v. digits_after (n * 16 + v) ds) whole
    ∙ digits_packed (n * 16 + worth_of d % 16) ds (λ k low. all (suc k) (omega arith)))

-- a byte that is no digit leaves no number
later : (o : Option ℕ) (next : ℕ → Option ℕ) → ((v : ℕ) → None ≡ next v) → None ≡ and_then o next
later None next none = refl
later (Some v) next none = none v

digits_none : (n : ℕ) (ds : List ℕ) (k : ℕ) → k < length ds → get_or (map is_digit ds) k false ≡ false → None ≡ digits_after n ds
unfolding digits_after
digits_none n [] k low none = absurd (omega (arith, low))
digits_none n (d ∷ ds) zero low none = no_first (digit_of d) none
  where
    no_first : (o : Option ℕ) → is_some o ≡ false → None ≡ and_then o (λ v. digits_after (n * 16 + v) ds)
    no_first None e = refl
    no_first (Some v) e = absurd (cc e)
digits_none n (d ∷ ds) (suc k) low none = later (digit_of d) (λ v. digits_after (n * 16 + v) ds) (λ v. digits_none (n * 16 + v) ds k (omega arith) none)

-- numbers of more bytes
packed_append : (n : ℕ) (xs ys : List ℕ) → packed_after n (xs ++ ys) ≡ packed_after (packed_after n xs) ys
unfolding packed_after
packed_append n [] ys = refl
packed_append n (x ∷ xs) ys = packed_append (n * 16 + x % 16) xs ys

abbrev scale : List ℕ → ℕ
scale xs = 2 ^ (4 * length xs)

scale_more : (x : ℕ) (xs : List ℕ) → scale (x ∷ xs) ≡ 16 * scale xs
scale_more x xs = ap (λ e. 2 ^ e) (let e : 4 * suc (length xs) ≡ 4 + 4 * length xs = omega arith in e) ∙ pow-add 2 4 (4 * length xs)

packed_from : (n : ℕ) (xs : List ℕ) → packed_after n xs ≡ n * scale xs + packed_of xs
unfolding packed_after
packed_from n [] = omega arith
packed_from n (x ∷ xs) =
    let more : n * scale (x ∷ xs) ≡ n * (16 * scale xs) = ap (λ s. n * s) (scale_more x xs) in
    let left = packed_from (n * 16 + x % 16) xs in
    let right = packed_from (0 * 16 + x % 16) xs in
    let e : (n * 16 + x % 16) * scale xs ≡ n * (16 * scale xs) + (0 * 16 + x % 16) * scale xs = omega arith in
    left ∙ (omega (arith, more, right, e))

packed_small : (xs : List ℕ) → packed_of xs < scale xs
unfolding packed_after
packed_small [] = omega arith
packed_small (x ∷ xs) =
    let more = scale_more x xs in
    let e = packed_from (0 * 16 + x % 16) xs in
    let rest = packed_small xs in
    let low = mod_below x 16 (omega arith) in
    let most = mul-le (0 * 16 + x % 16) (scale xs) 15 (scale xs) (omega arith) (omega arith) in
    omega (arith, more, e, rest, most)

packed_both : (xs ys : List ℕ) → packed_of (xs ++ ys) ≡ packed_of xs * scale ys + packed_of ys
packed_both xs ys = packed_append 0 xs ys ∙ packed_from (packed_of xs) ys

-- the bits of the middle of three parts
middle : (a b c i j k : ℕ) → i + (j + k) ≡ 16 → b < 2 ^ (4 * j) → c < 2 ^ (4 * k)
    → (a * 2 ^ (4 * (j + k)) + (b * 2 ^ (4 * k) + c)) * 2 ^ (4 * i) % 2 ^ 64 / 2 ^ (64 - 4 * j) ≡ b
middle a b c i j k all small_b small_c =
    let r = b * 2 ^ (4 * k) + c in
    let q = 2 ^ (4 * i) in
    let whole : 2 ^ (4 * (j + k)) * q ≡ 2 ^ 64 = sym (pow-add 2 (4 * (j + k)) (4 * i)) ∙ ap (λ e. 2 ^ e) (let e : 4 * (j + k) + 4 * i ≡ 64 = omega arith in e) in
    let both : 2 ^ (4 * k) * 2 ^ (4 * j) ≡ 2 ^ (4 * (j + k)) = sym (pow-add 2 (4 * k) (4 * j)) ∙ ap (λ e. 2 ^ e) (let e : 4 * k + 4 * j ≡ 4 * (j + k) = omega arith in e) in
    let small_r : r < 2 ^ (4 * (j + k)) = subst (λ m. r < m) both (mul-add-lt b (2 ^ (4 * k)) c (2 ^ (4 * j)) small_b small_c) in
    let within : r * q < 2 ^ 64 = subst (λ e. r * q < 2 ^ e) (let e : 4 * (j + k) + 4 * i ≡ 64 = omega arith in e) (shl_below r (4 * (j + k)) (4 * i) small_r) in
    let spread : (a * 2 ^ (4 * (j + k)) + r) * q ≡ a * 2 ^ 64 + r * q = (let e : (a * 2 ^ (4 * (j + k)) + r) * q ≡ a * (2 ^ (4 * (j + k)) * q) + r * q = omega arith in e) ∙ ap (λ m. a * m + r * q) whole in
    let below : c * q < 2 ^ (4 * k + 4 * i) = shl_below c (4 * k) (4 * i) small_c in
    let parted : r * q ≡ b * 2 ^ (4 * k + 4 * i) + c * q = (let e : r * q ≡ b * (2 ^ (4 * k) * q) + c * q = omega arith in e) ∙ ap (λ m. b * m + c * q) (sym (pow-add 2 (4 * k) (4 * i))) in
    let width : 64 - 4 * j ≡ 4 * k + 4 * i = omega arith in
    ap (λ x. x % 2 ^ 64 / 2 ^ (64 - 4 * j)) spread
    ∙ (ap (λ x. x / 2 ^ (64 - 4 * j)) (mod_low a 64 (r * q) within)
    ∙ ((λ x. parted x / 2 ^ (width x)) ∙ shr_high b (4 * k + 4 * i) (c * q) below))

-- three parts of a list
parts : (xs : List ℕ) (i j : ℕ) → xs ≡ take i xs ++ (bytes_at xs i j ++ drop j (drop i xs))
parts xs i j = sym (take-append-drop i xs) ∙ ap (λ rest. take i xs ++ rest) (sym (take-append-drop j (drop i xs)))

packed_middle : (ws : List ℕ) (i j : ℕ) → length ws ≡ 16 → i + j ≤ 16
    → packed_of ws * 2 ^ (4 * i) % 2 ^ 64 / 2 ^ (64 - 4 * j) ≡ packed_of (bytes_at ws i j)
packed_middle ws i j long fits =
    let a = take i ws in
    let b = bytes_at ws i j in
    let c = drop j (drop i ws) in
    let k = 16 - (i + j) in
    let long_b : length b ≡ j = length-chunk i j ws (omega arith) in
    let long_c : length c ≡ k = length-drop j (drop i ws) ∙ (let e = length-drop i ws in omega (arith, e)) in
    let long_rest : length (b ++ c) ≡ j + k = length-append b c ∙ (λ x. long_b x + long_c x) in
    let value : packed_of ws ≡ packed_of a * 2 ^ (4 * (j + k)) + (packed_of b * 2 ^ (4 * k) + packed_of c) =
    ap packed_of (parts ws i j)
    ∙ (packed_both a (b ++ c)
    ∙ ((λ x. packed_of a * 2 ^ (4 * long_rest x) + packed_both b c x)
    ∙ ap (λ m. packed_of a * 2 ^ (4 * (j + k)) + (packed_of b * 2 ^ (4 * m) + packed_of c)) long_c)) in
    let small_b : packed_of b < 2 ^ (4 * j) = subst (λ m. packed_of b < 2 ^ (4 * m)) long_b (packed_small b) in
    let small_c : packed_of c < 2 ^ (4 * k) = subst (λ m. packed_of c < 2 ^ (4 * m)) long_c (packed_small c) in
    ap (λ v. v * 2 ^ (4 * i) % 2 ^ 64 / 2 ^ (64 - 4 * j)) value
    ∙ middle (packed_of a) (packed_of b) (packed_of c) i j k (omega arith) small_b small_c

-- a text of one byte or more
pub some_number : (ds : List ℕ) → 0 < length ds → number_of ds ≡ digits_after 0 ds
some_number [] some = absurd (omega (arith, some))
some_number (d ∷ ds) some = refl

-- the tests of some of the bytes
test_at : (bytes : List ℕ) (i j k : ℕ) → k < j → get_or (map is_digit (bytes_at bytes i j)) k false ≡ get_or (map is_digit bytes) (i + k) false
test_at bytes i j k low =
    ap (λ ts. get_or ts k false) (sym (ap (take j) (drop-map is_digit i bytes) ∙ take-map is_digit j (drop i bytes)))
    ∙ get_or-chunk i j (map is_digit bytes) k false low

worth_at : (bytes : List ℕ) (i j : ℕ) → bytes_at (map worth_of bytes) i j ≡ map worth_of (bytes_at bytes i j)
worth_at bytes i j = ap (take j) (drop-map worth_of i bytes) ∙ take-map worth_of j (drop i bytes)

-- where the run of digits ends that begins at a place
record IsRun (bytes : List ℕ) (from run : ℕ) : Type 0 where
  within : (k : ℕ) → k < run → get_or (map is_digit bytes) (from + k) false ≡ true
  ends : get_or (map is_digit bytes) (from + run) false ≡ false

run_of : (marks from : ℕ) (bytes : List ℕ) → length bytes ≡ 16 → Marks marks is_digit bytes → IsRun bytes from (trailing_ones w64 (marks / 2 ^ from))
run_of marks from bytes long is =
    let tests = map is_digit bytes in
    let e : marks ≡ mask_l tests = same_from_bits marks (mask_l tests) (λ k. is k ∙ sym (bit_mask_l tests k)) in
    let small : marks < 2 ^ 16 = subst (λ m. m < 2 ^ 16) (sym e) (subst (λ n. mask_l tests < 2 ^ n) (length-map bytes is_digit ∙ long) (mask_l-lt tests)) in
    let low = shr_le marks from in
    let ones = bit_at-trailing_ones w64 (marks / 2 ^ from) (omega (arith, small, low)) in
    let bit = λ (k : ℕ). sym (is (from + k)) ∙ ap (λ x. x % 2) (sym (shr-shr marks from k)) in
    record {
      within = λ k l. set_is (get_or tests (from + k) false) (bit k ∙ ones.2 k l);
      ends = clear_is (get_or tests (from + trailing_ones w64 (marks / 2 ^ from)) false) (bit (trailing_ones w64 (marks / 2 ^ from)) ∙ ones.1);
    }

pub run_number : (digits : Digits) (from to run : ℕ) (bytes : List ℕ) → run ≡ trailing_ones w64 (digits.marks / 2 ^ from) → from < to → to ≤ 16 → to - from ≤ run → IsOf digits bytes
    → Some (digits.packed * 2 ^ (4 * from) % 2 ^ 64 / 2 ^ (64 - 4 * (to - from))) ≡ number_of (bytes_at bytes from (to - from))
run_number digits from to run bytes e some within full is =
    let size = to - from in
    let ds = bytes_at bytes from size in
    let long : length ds ≡ size = length-chunk from size bytes (let l = is.long in omega arith) in
    let here = run_of digits.marks from bytes is.long is.marks in
    let all : AllDigits ds = λ k low. test_at bytes from size k (omega arith) ∙ here.within k (omega (arith, e)) in
    let value : digits.packed * 2 ^ (4 * from) % 2 ^ 64 / 2 ^ (64 - 4 * size) ≡ packed_of (map worth_of ds) =
    ap (λ v. v * 2 ^ (4 * from) % 2 ^ 64 / 2 ^ (64 - 4 * size)) is.packed
    ∙ (packed_middle (map worth_of bytes) from size (length-map bytes worth_of ∙ is.long) (omega arith) ∙ ap packed_of (worth_at bytes from size)) in
    ap Some value ∙ (sym (digits_packed 0 ds all) ∙ sym (some_number ds (omega arith)))

pub no_run : (digits : Digits) (from to run : ℕ) (bytes : List ℕ) → run ≡ trailing_ones w64 (digits.marks / 2 ^ from) → from < to → to ≤ 16 → run < to - from → IsOf digits bytes
    → None ≡ number_of (bytes_at bytes from (to - from))
no_run digits from to run bytes e some within few is =
    let size = to - from in
    let ds = bytes_at bytes from size in
    let long : length ds ≡ size = length-chunk from size bytes (let l = is.long in omega arith) in
    let here = run_of digits.marks from bytes is.long is.marks in
    let off : get_or (map is_digit bytes) (from + run) false ≡ false = ap (λ r. get_or (map is_digit bytes) (from + r) false) e ∙ here.ends in
    digits_none 0 ds run (omega arith) (test_at bytes from size run few ∙ off) ∙ sym (some_number ds (omega arith))

-- which bytes are digits, by what they are worth
small_all : (bytes : List ℕ) → map is_small (map worth_of bytes) ≡ map is_digit bytes
small_all [] = refl
small_all (b ∷ bytes) = λ i. small_is b i ∷ small_all bytes i

pub digit_marks : (mask : ℕ) (worths bytes : List ℕ) → worths ≡ map worth_of bytes → Marks mask is_small worths → Marks mask is_digit bytes
digit_marks mask worths bytes e is k = is k ∙ ap (λ ts. cond (get_or ts k false) 1 0) (ap (map is_small) e ∙ small_all bytes)

-- a text of which some bytes are taken, and then fewer
pub fewer : (xs : List ℕ) (j n : ℕ) → j ≤ n → n ≤ length xs → take j (take n xs) ≡ take j xs
fewer xs j n le long =
    let room : j ≤ length (take n xs) = omega (arith, length-take-le n xs long) in
    sym (take-append-le j (take n xs) (drop n xs) room) ∙ ap (take j) (take-append-drop n xs)

-- one byte more of a text
pub one_more : (n : ℕ) (text : List ℕ) (i : ℕ) → i < length text
    → digits_after n (drop i text) ≡ and_then (digit_of (get_or text i 0)) (λ v. digits_after (n * 16 + v) (drop (i + 1) text))
unfolding digits_after
one_more n text i low =
    let next : suc i ≡ i + 1 = omega arith in
    ap (digits_after n) (drop-cons text i 0 low ∙ ap (λ j. get_or text i 0 ∷ drop j text) next)

pub end_of : (n : ℕ) (text : List ℕ) (i : ℕ) → length text ≤ i → digits_after n (drop i text) ≡ Some n
unfolding digits_after
end_of n text i high = ap (digits_after n) (drop_all i text high)

pub wider : (i : ℕ) → 2 ^ (4 * (i + 1)) ≡ 2 ^ (4 * i) * 16
wider i = ap (λ e. 2 ^ e) (let e : 4 * (i + 1) ≡ 4 * i + 4 = omega arith in e) ∙ pow-add 2 (4 * i) 4

pub room : (i : ℕ) → i < 16 → 2 ^ (4 * i) ≤ 2 ^ 60
room i low = pow_mono {i = 4 * i} {j = 60} (omega arith)
