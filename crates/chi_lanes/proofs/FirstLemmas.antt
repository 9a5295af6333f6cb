-- The first blank of a text, by masks of 64 bytes.
use Rattle.std.proofs.Common.{◌≡◌, ℕ, ◌+◌, ◌-◌, ◌<◌, ◌≤◌, List, true, false, cond, length, nat_lt, Some, None, sym, ap, subst, ◌∙◌, arith, ⊎_elim}
use Rattle.std.specs.Int.{bit_at}
use Rattle.std.specs.List.{position, position_or_len}
use Rattle.std.proofs.lemmas.Bool.{cases_lt}
use Rattle.std.proofs.lemmas.Bool.Decides.{nat_tests}
use Rattle.std.proofs.lemmas.List.Sums.{position_or_len_is}
use Rattle.std.proofs.lemmas.Nat.Bits.{bit_at-zero}
use Rattle.chi_lanes.proofs.BitLemmas.{clear_is, set_is}
use Rattle.chi_lanes.proofs.PadLemmas.{bit_of}
use Rattle.chi_lanes.specs.Columns.{blank_at}
use Rattle.chi_lanes.specs.Masks.{Marks, bytes_at, is_blank}

-- no blank among the first bytes
abbrev pub NoneBelow : List ℕ → ℕ → Type 0
NoneBelow text i = (k : ℕ) → k < i → blank_at text k ≡ false

place : (n i : ℕ) → i < n → Some i ≡ cond (nat_lt i n) (Some i) None
place n i h = grind (arith, nat_tests)

no_place : (n : ℕ) → None ≡ cond (nat_lt n n) (Some n) None
no_place n = grind (arith, nat_tests)

first_at : (text : List ℕ) (i : ℕ) → i < length text → NoneBelow text i → blank_at text i ≡ true → Some i ≡ position is_blank text
first_at text i within none here =
    let e : position_or_len is_blank text ≡ i = position_or_len_is is_blank text i 32 (omega arith) none (λ inside. here) in
    rw e (place (length text) i within)

first_none : (text : List ℕ) → NoneBelow text (length text) → None ≡ position is_blank text
first_none text none =
    let e : position_or_len is_blank text ≡ length text = position_or_len_is is_blank text (length text) 32 (omega arith) none (λ inside. absurd (omega (arith, inside))) in
    rw e (no_place (length text))

-- the mask of 64 bytes
record IsMask (mask from : ℕ) (text : List ℕ) : Type 0 where
  room : from + 64 ≤ length text
  marks : Marks mask is_blank (bytes_at text from 64)

clear_at : (mask from : ℕ) (text : List ℕ) → IsMask mask from text → (k : ℕ) → k < 64 → bit_at mask k ≡ 0 → blank_at text (from + k) ≡ false
clear_at mask from text is k low e = clear_is (blank_at text (from + k)) (sym (bit_of mask from text is.room is.marks k low) ∙ e)

-- more bytes of which none is a blank
more : (text : List ℕ) (at from j : ℕ) → from ≤ at → NoneBelow text at → ((k : ℕ) → k < j → blank_at text (from + k) ≡ false) → NoneBelow text (from + j)
more text at from j below none next k low =
    ⊎_elim (λ before. none k before) (λ past.
    let there : from + (k - from) ≡ k = omega arith in
    subst (λ m. blank_at text m ≡ false) there (next (k - from) (omega arith))) (cases_lt k at)

pub none_more : (mask from at : ℕ) (text : List ℕ) → from + 64 ≤ length text → Marks mask is_blank (bytes_at text from 64) → from ≤ at → NoneBelow text at → mask ≡ 0 → NoneBelow text (from + 64)
none_more mask from at text room marks below none e =
    more text at from 64 below none (λ k low. clear_at mask from text (record { room = room; marks = marks }) k low (ap (λ m. bit_at m k) e ∙ bit_at-zero k))

pub found_first : (mask from at i : ℕ) (text : List ℕ) → from + 64 ≤ length text → Marks mask is_blank (bytes_at text from 64) → from ≤ at → NoneBelow text at
    → i < 64 → bit_at mask i ≡ 1 → ((k : ℕ) → k < i → bit_at mask k ≡ 0) → Some (from + i) ≡ position is_blank text
found_first mask from at i text room marks below none low set clear =
    first_at text (from + i) (omega arith)
    (more text at from i below none (λ k under. clear_at mask from text (record { room = room; marks = marks }) k (omega arith) (clear k under)))
    (set_is (blank_at text (from + i)) (sym (bit_of mask from text room marks i low) ∙ set))

pub found_none : (mask from at : ℕ) (text : List ℕ) → from + 64 ≡ length text → Marks mask is_blank (bytes_at text from 64) → from ≤ at → NoneBelow text at → mask ≡ 0 → None ≡ position is_blank text
found_none mask from at text e marks below none zero =
    first_none text (subst (λ n. NoneBelow text n) e (none_more mask from at text (omega arith) marks below none zero))
