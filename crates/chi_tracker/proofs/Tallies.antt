-- Sets of entries in words of 64 bits, counted a word at a time.
use Rattle.std.proofs.Common.{◌≡◌, ◌≢◌, ℕ, zero, suc, ◌+◌, ◌-◌, ◌*◌, ◌/◌, ◌%◌, ◌^◌, ◌<◌, ◌≤◌, min, max, cond, ◌==◌, List, [], ◌∷◌, slice_index, bit_and, bit_or, Bool, eq-eqb, ne_eqb, refl, sym, ap, ◌∙◌, arith}
use mathlib.Core.Logic.{dite}
use native.Mathlib.Decide.{ℕ_discrete}
use lib.Count.{ones, ones-ones}
use Rattle.std.specs.Int.{bit_at}
use Rattle.std.proofs.lemmas.Nat.{shr-shr, mod-pow-add, ones_cat, and_mask, mod_below, pow_pos}
use Rattle.std.proofs.lemmas.Nat.Bits.{ones_shr, bit_at-lt, bit_at_and, bit_at_or, bit_at-zero}
use Rattle.chi_tracker.specs.Sums.{below, set_at}
use Rattle.chi_tracker.specs.Shape.{owed_in}
use Rattle.chi_tracker.specs.Words.{promise_word, c_of, p_of, o_of}
use Rattle.chi_tracker.specs.Calls.{set_count}
use Rattle.chi_tracker.specs.Totals.{promises_of, is_free, is_promised, is_in_hand, owed_all}
use Rattle.chi_tracker.proofs.Addition.{below_same, below_zero, four_are}

-- a sum in two parts
pub below_split : (f : ℕ → ℕ) (a n : ℕ) → below f (a + n) ≡ below f a + below (λ i. f (a + i)) n
below_split f a zero = let h : a + 0 ≡ a = omega arith in omega (arith, ap (below f) h)
below_split f a (suc n) = let up : a + suc n ≡ suc (a + n) = omega arith in omega (arith, ap (below f) up, below_split f a n)

-- a sum of bits is at most their number
pub below_few : (f : ℕ → ℕ) (n : ℕ) → ((i : ℕ) → f i < 2) → below f n ≤ n
below_few f zero h = omega arith
below_few f (suc n) h = omega (arith, below_few f n h, h n)

-- the ones of a word, by its low places
ones_bit : (b : ℕ) → b < 2 → ones b ≡ b
ones_bit zero l = ones-ones 0
ones_bit (suc zero) l = ones-ones 1
ones_bit (suc (suc n)) l = absurd (omega arith)

ones_low : (w n : ℕ) → ones (w % 2 ^ n) ≡ below (λ i. bit_at w i) n
ones_low w zero = let none : w % 2 ^ 0 ≡ 0 = omega arith in ap ones none ∙ ones-ones 0
ones_low w (suc n) =
    let b : ℕ = bit_at w n in let r : ℕ = w % 2 ^ n in
    let up : suc n ≡ 1 + n = omega arith in
    let cut : w % 2 ^ suc n ≡ b * 2 ^ n + r = ap (λ (k : ℕ). w % 2 ^ k) up ∙ mod-pow-add w 1 n in
    let two : ones (b * 2 ^ n + r) ≡ ones b + ones r = ones_cat n b r (mod_below w (2 ^ n) (pow_pos n)) in
    omega (arith, ap ones cut, two, ones_bit b (bit_at-lt w n), ones_low w n)

-- the ones of a run of places
pub ones_run : (w first count : ℕ) → count ≤ 64 → ones (bit_and (w / 2 ^ first) ((2 ^ 64 - 1) / 2 ^ (64 - count))) ≡ below (λ i. bit_at w (first + i)) count
ones_run w first count l =
    let back : 64 - (64 - count) ≡ count = omega arith in
    ap (λ m. ones (bit_and (w / 2 ^ first) m)) (ones_shr 64 (64 - count) (omega arith) ∙ ap (λ (k : ℕ). 2 ^ k - 1) back) ∙ ap ones (and_mask (w / 2 ^ first) count) ∙ ones_low (w / 2 ^ first) count
    ∙ below_same (λ i. bit_at w (first + i)) (λ i. bit_at (w / 2 ^ first) i) count (λ i _. ap (λ (z : ℕ). z % 2) (shr-shr w first i))

pub run_few : (w first count : ℕ) → count ≤ 64 → ones (bit_and (w / 2 ^ first) ((2 ^ 64 - 1) / 2 ^ (64 - count))) ≤ count
run_few w first count l = omega (arith, ones_run w first count l, below_few (λ i. bit_at w (first + i)) count (λ i. bit_at-lt w (first + i)))

-- the entries of a set that lie in word k, after those of the words before it
pub rank_more : (words : List ℕ) (k part : ℕ) → part ≤ 64 → below (set_at words) (64 * k + part) ≡ below (set_at words) (64 * k) + below (λ i. bit_at (slice_index words k) (0 + i)) part
rank_more words k part fits =
    let same = below_same (λ i. bit_at (slice_index words k) (0 + i)) (λ i. set_at words (64 * k + i)) part (λ i l.
    let q : (64 * k + i) / 64 ≡ k = omega arith in let r : (64 * k + i) % 64 ≡ 0 + i = omega arith in
    ap (λ (j : ℕ). bit_at (slice_index words j) ((64 * k + i) % 64)) q ∙ ap (bit_at (slice_index words k)) r) in
    omega (arith, below_split (set_at words) (64 * k) part, same)

-- all entries of a set below an end, from those of its whole words
pub rank_rest : (words : List ℕ) (end k : ℕ) → k ≡ end / 64 → below (set_at words) (64 * k) + below (λ i. bit_at (slice_index words (end / 64)) (0 + i)) (end % 64) ≡ below (set_at words) end
rank_rest words end k is =
    let h : 64 * (end / 64) + end % 64 ≡ end = omega arith in let same = ap (λ (z : ℕ). below (set_at words) (64 * z)) is in
    omega (arith, rank_more words (end / 64) (end % 64) (omega arith), ap (below (set_at words)) h, same)

-- the entries of a set in a range, by those below its two ends
pub rank_between : (words : List ℕ) (start n a b : ℕ) → a ≡ below (set_at words) start → b ≡ below (set_at words) (start + n) → b - a ≡ set_count words start n
rank_between words start n a b ha hb = omega (arith, below_split (set_at words) start n, ha, hb)

pub rank_up : (words : List ℕ) (start n a b : ℕ) → a ≡ below (set_at words) start → b ≡ below (set_at words) (start + n) → a ≤ b
rank_up words start n a b ha hb = omega (arith, below_split (set_at words) start n, ha, hb)

pub rank_first : (words : List ℕ) (n a : ℕ) → a ≡ below (set_at words) n → a ≡ set_count words 0 n
rank_first words n a ha = ha ∙ below_same (λ i. set_at words (0 + i)) (set_at words) n (λ i l. let h : i ≡ 0 + i = omega arith in ap (set_at words) h)

-- a set of four words, by what each of their bits is
pub four_bits : (f : ℕ → ℕ → ℕ) (a b c d : ℕ) → ((i : ℕ) → i < 64 → bit_at a i ≡ f 0 i) → ((i : ℕ) → i < 64 → bit_at b i ≡ f 1 i) → ((i : ℕ) → i < 64 → bit_at c i ≡ f 2 i) → ((i : ℕ) → i < 64 → bit_at d i ≡ f 3 i)
    → (e : ℕ) → e < 256 → set_at (a ∷ b ∷ c ∷ d ∷ []) e ≡ f (e / 64) (e % 64)
four_bits f a b c d ha hb hc hd e l = word (e / 64) (e % 64) (omega arith) (omega arith)
  where
    word : (k i : ℕ) → k < 4 → i < 64 → bit_at (slice_index (a ∷ b ∷ c ∷ d ∷ []) k) i ≡ f k i
    word zero i lk li = ha i li
    word (suc zero) i lk li = hb i li
    word (suc (suc zero)) i lk li = hc i li
    word (suc (suc (suc zero))) i lk li = hd i li
    word (suc (suc (suc (suc k)))) i lk li = absurd (omega arith)

-- a test against 0, and bits by such tests
if_zero : (n a b : ℕ) → n ≡ 0 → cond (n == 0) a b ≡ a
if_zero n a b q = ap (λ (t : Bool). cond t a b) (eq-eqb n 0 q)

if_not : (n a b : ℕ) → n ≢ 0 → cond (n == 0) a b ≡ b
if_not n a b d = ap (λ (t : Bool). cond t a b) (ne_eqb n 0 d)

left_bit : (c : ℕ) → c < 2 → 1 - c ≡ cond (c == 0) 1 0
left_bit c l = dite (ℕ_discrete c 0) (λ q. omega (arith, if_zero c 1 0 q)) (λ d. omega (arith, if_not c 1 0 d))

either_bit : (a p : ℕ) → p < 2 → max (cond (a == 0) 0 1) p ≡ cond (a + p == 0) 0 1
either_bit a p l = dite (ℕ_discrete a 0)
    (λ q. dite (ℕ_discrete p 0) (λ r. omega (arith, if_zero a 0 1 q, if_zero (a + p) 0 1 (omega arith))) (λ d. omega (arith, if_zero a 0 1 q, if_not (a + p) 0 1 (λ z. d (omega arith)))))
    (λ d. omega (arith, if_not a 0 1 d, if_not (a + p) 0 1 (λ z. d (omega arith))))

hand_bit : (c a : ℕ) → c < 2 → min c (1 - cond (a == 0) 0 1) ≡ cond (c == 0) 0 (cond (a == 0) 1 0)
hand_bit c a l = dite (ℕ_discrete c 0)
    (λ q. omega (arith, if_zero c 0 (cond (a == 0) 1 0) q))
    (λ d. dite (ℕ_discrete a 0)
    (λ q. omega (arith, if_not c 0 (cond (a == 0) 1 0) d, if_zero a 0 1 q, if_zero a 1 0 q))
    (λ f. omega (arith, if_not c 0 (cond (a == 0) 1 0) d, if_not a 0 1 f, if_not a 1 0 f)))

-- the free entries are those whose bit in C is clear
pub free_set : (ws : List ℕ) (a b c d : ℕ) → ((i : ℕ) → i < 64 → bit_at a i ≡ 1 - bit_at (slice_index ws 0) i) → ((i : ℕ) → i < 64 → bit_at b i ≡ 1 - bit_at (slice_index ws 1) i)
    → ((i : ℕ) → i < 64 → bit_at c i ≡ 1 - bit_at (slice_index ws 2) i) → ((i : ℕ) → i < 64 → bit_at d i ≡ 1 - bit_at (slice_index ws 3) i)
    → (e : ℕ) → e < 256 → set_at (a ∷ b ∷ c ∷ d ∷ []) e ≡ is_free ws e
free_set ws a b c d ha hb hc hd e l =
    four_bits (λ k i. 1 - bit_at (slice_index ws k) i) a b c d ha hb hc hd e l ∙ left_bit (c_of ws e) (bit_at-lt (slice_index ws (e / 64)) (e % 64))

-- the entries in hand are those in C that are promised to nobody
pub hand_set : (ws promised : List ℕ) (agents a b c d : ℕ) → ((e : ℕ) → e < 256 → set_at promised e ≡ is_promised ws agents e)
    → ((i : ℕ) → i < 64 → bit_at a i ≡ 1 - bit_at (slice_index promised 0) i) → ((i : ℕ) → i < 64 → bit_at b i ≡ 1 - bit_at (slice_index promised 1) i)
    → ((i : ℕ) → i < 64 → bit_at c i ≡ 1 - bit_at (slice_index promised 2) i) → ((i : ℕ) → i < 64 → bit_at d i ≡ 1 - bit_at (slice_index promised 3) i)
    → (e : ℕ) → e < 256 → set_at (bit_and (slice_index ws 0) a ∷ bit_and (slice_index ws 1) b ∷ bit_and (slice_index ws 2) c ∷ bit_and (slice_index ws 3) d ∷ []) e ≡ is_in_hand ws agents e
hand_set ws promised agents a b c d is ha hb hc hd e l =
    let f : ℕ → ℕ → ℕ = λ k i. min (bit_at (slice_index ws k) i) (1 - bit_at (slice_index promised k) i) in
    let each : (k x i : ℕ) → bit_at x i ≡ 1 - bit_at (slice_index promised k) i → bit_at (bit_and (slice_index ws k) x) i ≡ f k i = λ k x i h. bit_at_and (slice_index ws k) x i ∙ ap (min (bit_at (slice_index ws k) i)) h in
    four_bits f _ _ _ _ (λ i li. each 0 a i (ha i li)) (λ i li. each 1 b i (hb i li)) (λ i li. each 2 c i (hc i li)) (λ i li. each 3 d i (hd i li)) e l
    ∙ ap (λ (z : ℕ). min (c_of ws e) (1 - z)) (is e l) ∙ hand_bit (c_of ws e) (promises_of ws agents e) (bit_at-lt (slice_index ws (e / 64)) (e % 64))

-- the entries promised to one requester more
pub promised_more : (ws set : List ℕ) (n at : ℕ) → at ≡ 4 + 5 * n → ((e : ℕ) → e < 256 → set_at set e ≡ is_promised ws n e)
    → (e : ℕ) → e < 256 → set_at (bit_or (slice_index set 0) (slice_index ws at) ∷ bit_or (slice_index set 1) (slice_index ws (at + 1)) ∷ bit_or (slice_index set 2) (slice_index ws (at + 2)) ∷ bit_or (slice_index set 3) (slice_index ws (at + 3)) ∷ []) e ≡ is_promised ws (n + 1) e
promised_more ws set n at place is e l =
    let f : ℕ → ℕ → ℕ = λ k i. max (bit_at (slice_index set k) i) (bit_at (slice_index ws (at + k)) i) in
    let first : at ≡ at + 0 = omega arith in
    let up : suc n ≡ n + 1 = omega arith in
    four_bits f _ _ _ _ (λ i li. bit_at_or (slice_index set 0) (slice_index ws at) i ∙ ap (λ (z : ℕ). max (bit_at (slice_index set 0) i) (bit_at (slice_index ws z) i)) first)
    (λ i li. bit_at_or (slice_index set 1) (slice_index ws (at + 1)) i) (λ i li. bit_at_or (slice_index set 2) (slice_index ws (at + 2)) i) (λ i li. bit_at_or (slice_index set 3) (slice_index ws (at + 3)) i) e l
    ∙ ap (λ (z : ℕ). max z (bit_at (slice_index ws (at + e / 64)) (e % 64))) (is e l) ∙ ap (λ (z : ℕ). max (is_promised ws n e) (bit_at (slice_index ws (z + e / 64)) (e % 64))) place
    ∙ either_bit (promises_of ws n e) (p_of ws n e) (bit_at-lt (slice_index ws (promise_word n (e / 64))) (e % 64)) ∙ ap (λ (z : ℕ). is_promised ws z e) up

-- the entries promised to one requester
pub promised_own : (ws : List ℕ) (n at : ℕ) → at ≡ 4 + 5 * n → (e : ℕ) → e < 256 → set_at (slice_index ws at ∷ slice_index ws (at + 1) ∷ slice_index ws (at + 2) ∷ slice_index ws (at + 3) ∷ []) e ≡ p_of ws n e
promised_own ws n at place e l =
    let first : at ≡ at + 0 = omega arith in
    four_bits (λ k i. bit_at (slice_index ws (at + k)) i) _ _ _ _ (λ i li. ap (λ (z : ℕ). bit_at (slice_index ws z) i) first) (λ i li. refl) (λ i li. refl) (λ i li. refl) e l ∙ ap (λ (z : ℕ). bit_at (slice_index ws (z + e / 64)) (e % 64)) place

-- a word with no place set owes nothing
pub owed_none : (t word : ℕ) → word ≡ 0 → owed_in t word ≡ 0
owed_none t word is = ap (owed_in t) is ∙ below_same (λ _. 0) (λ i. bit_at 0 (8 * t + i)) 8 (λ i l. bit_at-zero (8 * t + i)) ∙ below_zero 8

-- the credits owed to all, with one requester more
next : (ws : List ℕ) (t n : ℕ) → owed_all ws t n + owed_in t (o_of ws n) ≡ owed_all ws t (n + 1)
next ws t n = let up : suc n ≡ n + 1 = omega arith in ap (owed_all ws t) up

abbrev pub IsOwed : List ℕ → ℕ → List ℕ → Type 0
IsOwed ws n owed = ((t : ℕ) → t < 4 → slice_index owed t ≡ owed_all ws t n) × ((t : ℕ) → t < 4 → slice_index owed t ≤ 8 * n)

pub owed_more : (ws owed owed' own : List ℕ) (n : ℕ) → IsOwed ws n owed
    → owed' ≡ (slice_index owed 0 + slice_index own 0) ∷ (slice_index owed 1 + slice_index own 1) ∷ (slice_index owed 2 + slice_index own 2) ∷ (slice_index owed 3 + slice_index own 3) ∷ []
    → ((t : ℕ) → t < 4 → slice_index own t ≡ owed_in t (o_of ws n)) → ((t : ℕ) → t < 4 → slice_index own t ≤ 8) → IsOwed ws (n + 1) owed'
owed_more ws owed owed' own n before is own_is few =
    let sum : (t : ℕ) → t < 4 → slice_index owed' t ≡ slice_index owed t + slice_index own t = λ t l. ap (λ (xs : List ℕ). slice_index xs t) is ∙ four_are (λ t. slice_index owed t + slice_index own t) _ _ _ _ refl refl refl refl t l in (
      λ t l. sum t l ∙ ap (λ (z : ℕ). z + slice_index own t) (before.0 t l) ∙ ap (λ (z : ℕ). owed_all ws t n + z) (own_is t l) ∙ next ws t n,
      λ t l. omega (arith, sum t l, before.1 t l, few t l),
    )

pub owed_same : (ws owed owed' : List ℕ) (n : ℕ) → IsOwed ws n owed → owed' ≡ owed → o_of ws n ≡ 0 → IsOwed ws (n + 1) owed'
owed_same ws owed owed' n before is none = (
  λ t l. ap (λ (xs : List ℕ). slice_index xs t) is ∙ before.0 t l ∙ (let h : owed_all ws t n ≡ owed_all ws t n + 0 = omega arith in h) ∙ ap (λ (z : ℕ). owed_all ws t n + z) (sym (owed_none t (o_of ws n) none)) ∙ next ws t n,
  λ t l. let h = ap (λ (xs : List ℕ). slice_index xs t) is in omega (arith, h, before.1 t l),
)
