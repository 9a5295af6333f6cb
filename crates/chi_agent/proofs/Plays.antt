-- Turns one after the other.
use Rattle.std.proofs.Common.{◌≡◌, ℕ, suc, ◌+◌, ◌<◌, ◌%◌, ◌^◌, Bool, sym, ◌∙◌, ap, subst, arith}
use Rattle.rand_chacha.specs.ChaCha.{ChaCha}
use Rattle.chi_agent.specs.Draws.{word_after}
use Rattle.chi_agent.specs.Turns.{count_after}
use Rattle.chi_slice.specs.Words.{Sizes}
use Rattle.chi_agent.specs.declared.player.Player.{Player}
use Rattle.chi_agent.specs.Lives.{Played, Turned, random_word}

-- one turn more
pub plays_on : {A : Type 0} (config : Sizes) (seed agent : ℕ) (first : Player A) (k n x : ℕ) (p q : Player A) (done : Bool) → Played config seed agent first k p → x ≡ random_word seed agent k → n ≡ k + 1 → Turned config x n p q done → Played config seed agent first (k + 1) q
plays_on config seed agent first k n x p q done so_far word number turned =
    let next : k + 1 ≡ suc k = omega arith in
    let turn : Turned config (random_word seed agent k) (suc k) p q done = subst (λ (m : ℕ). Turned config (random_word seed agent k) m p q done) (number ∙ next) (subst (λ (w : ℕ). Turned config w n p q done) word turned) in
    subst (λ (m : ℕ). Played config seed agent first m q) (sym next) (p, done, so_far, turn)

-- the stream goes on by one word
pub goes_on : (s d d' : ChaCha) (k n : ℕ) → d ≡ record s { word_pos = k } → d' ≡ record d { word_pos = (d.word_pos + 1) % 2 ^ 68 } → k < n → n < 2 ^ 64 → d' ≡ record s { word_pos = k + 1 }
goes_on s d d' k n at next below fits =
    let small : (k + 1) % 2 ^ 68 ≡ k + 1 = omega arith in
    subst (λ (z : ChaCha). d' ≡ record z { word_pos = (z.word_pos + 1) % 2 ^ 68 }) at next ∙ ap (λ (w : ℕ). record s { word_pos = w }) small

-- a count below a word's end goes on by one
pub counts_on : (k n : ℕ) → k < n → n < 2 ^ 64 → count_after k ≡ k + 1
counts_on k n below fits = omega arith

-- the next word of a stream that stands at k
pub word_at : (s d : ChaCha) (k : ℕ) → d ≡ record s { word_pos = k } → word_after d ≡ word_after (record s { word_pos = k })
word_at s d k at = ap word_after at
