-- What putting a word leaves of all words of a beat.
use Rattle.std.proofs.Common.{◌≡◌, ◌≢◌, ℕ, ◌*◌, ◌^◌, ◌%◌, ◌<◌, Bool, true, false, Option, Some, None, length, slice_index_or, slice_set, bit_or, w8, ap, sym, ◌∙◌, refl}
use Rattle.std.specs.Prelude.{◌==◌, if◌then◌else◌}
use Rattle.std.specs.Int.{bit_at}
use Rattle.std.proofs.lemmas.Bool.{eqb-true, eq-eqb}
use Rattle.std.proofs.lemmas.List.{get_or-set_other}
use Rattle.std.proofs.lemmas.Grind.{get_or-set_at}
use Rattle.std.proofs.lemmas.Nat.Bits.{bit_at_set_same, bit_at_set_other}
use Rattle.chi_issue_b.specs.declared.beat.Beat.{Beat}
use Rattle.chi_issue_b.specs.Beat.{word_in}

abbrev with_word : Beat → ℕ → ℕ → Beat
with_word beat number word =
    record { words = slice_set beat.words number word; given = bit_or beat.given (1 * 2 ^ number % 256) }

abbrev shown : ℕ → ℕ → Option ℕ
shown bit word = if bit == 1 then Some word else None

put_same : (beat : Beat) (number word : ℕ) → number < length beat.words → number < 8 → word_in (with_word beat number word) number ≡ Some word
put_same beat number word inside low =
    ap (λ bit. shown bit (slice_index_or (slice_set beat.words number word) number 0)) (bit_at_set_same w8 beat.given number low)
    ∙ ap Some (get_or-set_at beat.words number number word 0 refl inside)

put_other : (beat : Beat) (number word n : ℕ) → n ≢ number → number < 8 → word_in (with_word beat number word) n ≡ word_in beat n
put_other beat number word n other low =
    ap (λ bit. shown bit (slice_index_or (slice_set beat.words number word) n 0)) (bit_at_set_other w8 beat.given number low n other)
    ∙ ap (λ x. shown (bit_at beat.given n) x) (get_or-set_other beat.words number n word 0 other)

differ : (n m : ℕ) → (n == m) ≡ false → n ≡ m → ⊥
differ n m e same = cc (sym e ∙ eq-eqb n m same)

by_number : (beat : Beat) (number word n : ℕ) (b : Bool) → (n == number) ≡ b → number < length beat.words → number < 8 → word_in (with_word beat number word) n ≡ (if b then Some word else word_in beat n)
by_number beat number word n true e inside low =
    ap (λ k. word_in (with_word beat number word) k) (eqb-true n number e) ∙ put_same beat number word inside low
by_number beat number word n false e inside low = put_other beat number word n (λ same. differ n number e same) low

pub put_is : (beat : Beat) (number word n : ℕ) → number < length beat.words → number < 8 → word_in (with_word beat number word) n ≡ (if n == number then Some word else word_in beat n)
put_is beat number word n inside low = by_number beat number word n (n == number) refl inside low
