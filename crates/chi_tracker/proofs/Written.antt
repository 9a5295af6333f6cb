-- What a write of one word leaves of C, P and O, by entry and requester.
use Rattle.std.proofs.Common.{◌≡◌, ◌≢◌, ℕ, ◌/◌, ◌%◌, ◌<◌, ◌≤◌, List, length, slice_index, slice_set, refl, sym, ap, ◌∙◌, arith, get_or-set_other, get_or-set_same, length-set}
use mathlib.Core.Logic.{dite}
use native.Mathlib.Decide.{ℕ_discrete}
use Rattle.std.specs.Int.{bit_at}
use Rattle.chi_tracker.specs.declared.shape.Shape.{Shape}
use Rattle.chi_tracker.specs.declared.view.SeatView.{SeatView}
use mathlib.Core.Option.{Option}
use Rattle.chi_tracker.specs.Shape.{low}
use Rattle.chi_tracker.specs.Words.{word_count, promise_word, owed_word, c_of, p_of, o_of}
use Rattle.chi_tracker.specs.Rule.{Fits, TrackerRule}
use Rattle.chi_tracker.proofs.BitLaws.{same_place}
use Rattle.chi_tracker.proofs.Moves.{carry}

-- the bits of another word stay
bit_else : (ws : List ℕ) (i j x b : ℕ) → j ≢ i → bit_at (slice_index (slice_set ws i x) j) b ≡ bit_at (slice_index ws j) b
bit_else ws i j x b d = ap (λ w. bit_at w b) (get_or-set_other ws i j x 0 d)

-- the bits of the written word
bit_same : (ws : List ℕ) (i x b : ℕ) → i < length ws → bit_at (slice_index (slice_set ws i x) i) b ≡ bit_at x b
bit_same ws i x b l = ap (λ w. bit_at w b) (get_or-set_same ws i x 0 l)

-- the word of e in C becomes x
module _ (ws : List ℕ) (e x : ℕ) (len : length ws ≡ word_count) (le : e < 256) where
  pub c_here : c_of (slice_set ws (e / 64) x) e ≡ bit_at x (e % 64)
  c_here = bit_same ws (e / 64) x (e % 64) (omega arith)

  pub c_apart : ((b : ℕ) → b < 64 → b ≢ e % 64 → bit_at x b ≡ bit_at (slice_index ws (e / 64)) b) → (i : ℕ) → i < 256 → i ≢ e → c_of (slice_set ws (e / 64) x) i ≡ c_of ws i
  c_apart keeps i li d = dite (ℕ_discrete (i / 64) (e / 64))
      (λ q. let a : c_of (slice_set ws (e / 64) x) i ≡ bit_at x (i % 64) = ap (λ k. bit_at (slice_index (slice_set ws (e / 64) x) k) (i % 64)) q ∙ bit_same ws (e / 64) x (i % 64) (omega arith) in
      a ∙ keeps (i % 64) (omega arith) (λ r. d (same_place i e q r)) ∙ ap (λ k. bit_at (slice_index ws k) (i % 64)) (sym q))
      (λ q. bit_else ws (e / 64) (i / 64) x (i % 64) q)

  pub p_kept : (n i : ℕ) → i < 256 → p_of (slice_set ws (e / 64) x) n i ≡ p_of ws n i
  p_kept n i li = bit_else ws (e / 64) (promise_word n (i / 64)) x (i % 64) (λ q. omega arith)

  pub o_kept : (n : ℕ) → o_of (slice_set ws (e / 64) x) n ≡ o_of ws n
  o_kept n = get_or-set_other ws (e / 64) (owed_word n) x 0 (λ q. omega arith)

-- the word of e in P[m] becomes x
module _ (ws : List ℕ) (m e x : ℕ) (len : length ws ≡ word_count) (lm : m < 8) (le : e < 256) where
  pub p_here : p_of (slice_set ws (promise_word m (e / 64)) x) m e ≡ bit_at x (e % 64)
  p_here = bit_same ws (promise_word m (e / 64)) x (e % 64) (omega arith)

  pub p_apart : ((b : ℕ) → b < 64 → b ≢ e % 64 → bit_at x b ≡ bit_at (slice_index ws (promise_word m (e / 64))) b) → (i : ℕ) → i < 256 → i ≢ e → p_of (slice_set ws (promise_word m (e / 64)) x) m i ≡ p_of ws m i
  p_apart keeps i li d = dite (ℕ_discrete (i / 64) (e / 64))
      (λ q. let a : p_of (slice_set ws (promise_word m (e / 64)) x) m i ≡ bit_at x (i % 64) = ap (λ k. bit_at (slice_index (slice_set ws (promise_word m (e / 64)) x) (promise_word m k)) (i % 64)) q ∙ bit_same ws (promise_word m (e / 64)) x (i % 64) (omega arith) in
      a ∙ keeps (i % 64) (omega arith) (λ r. d (same_place i e q r)) ∙ ap (λ k. bit_at (slice_index ws (promise_word m k)) (i % 64)) (sym q))
      (λ q. bit_else ws (promise_word m (e / 64)) (promise_word m (i / 64)) x (i % 64) (λ r. q (omega arith)))

  pub p_other : (n i : ℕ) → n ≢ m → i < 256 → p_of (slice_set ws (promise_word m (e / 64)) x) n i ≡ p_of ws n i
  p_other n i d li = bit_else ws (promise_word m (e / 64)) (promise_word n (i / 64)) x (i % 64) (λ q. d (omega arith))

  pub cp_kept : (i : ℕ) → i < 256 → c_of (slice_set ws (promise_word m (e / 64)) x) i ≡ c_of ws i
  cp_kept i li = bit_else ws (promise_word m (e / 64)) (i / 64) x (i % 64) (λ q. omega arith)

  pub op_kept : (n : ℕ) → o_of (slice_set ws (promise_word m (e / 64)) x) n ≡ o_of ws n
  op_kept n = get_or-set_other ws (promise_word m (e / 64)) (owed_word n) x 0 (λ q. omega arith)

-- the word O[m] becomes x
module _ (ws : List ℕ) (m x : ℕ) (len : length ws ≡ word_count) (lm : m < 8) where
  pub o_here : o_of (slice_set ws (owed_word m) x) m ≡ x
  o_here = get_or-set_same ws (owed_word m) x 0 (omega arith)

  pub o_other : (n : ℕ) → n ≢ m → o_of (slice_set ws (owed_word m) x) n ≡ o_of ws n
  o_other n d = get_or-set_other ws (owed_word m) (owed_word n) x 0 (λ q. d (omega arith))

  pub co_kept : (i : ℕ) → i < 256 → c_of (slice_set ws (owed_word m) x) i ≡ c_of ws i
  co_kept i li = bit_else ws (owed_word m) (i / 64) x (i % 64) (λ q. omega arith)

  pub po_kept : (n i : ℕ) → i < 256 → p_of (slice_set ws (owed_word m) x) n i ≡ p_of ws n i
  po_kept n i li = bit_else ws (owed_word m) (promise_word n (i / 64)) x (i % 64) (λ q. omega arith)

-- the rule after a write, from the fit where the one changed group is read from the new words
module _ (key : Shape) (ws : List ℕ) (homes : List (Option ℕ)) (vs : List SeatView) (len : length ws ≡ word_count) (la : key.agents ≤ 8) (le : low key 4 ≤ 256) where
  abbrev pub After : List ℕ → Type 0
  After ws' = TrackerRule key (record { words = ws'; homes = homes; views = vs })

  pub rule_c : (e x : ℕ) → e < 256 → Fits key (c_of (slice_set ws (e / 64) x)) (p_of ws) (o_of ws) vs → After (slice_set ws (e / 64) x)
  rule_c e x l fits = record {
    words = length-set ws (e / 64) x ∙ len;
    agents = la;
    entries = le;
    fits = carry key _ _ (p_of ws) (p_of (slice_set ws (e / 64) x)) (o_of ws) (o_of (slice_set ws (e / 64) x)) vs le (λ _ _. refl) (λ n i ln li. p_kept ws e x len l n i li) (λ n ln. o_kept ws e x len l n) fits;
  }

  pub rule_p : (m e x : ℕ) → m < 8 → e < 256 → Fits key (c_of ws) (p_of (slice_set ws (promise_word m (e / 64)) x)) (o_of ws) vs → After (slice_set ws (promise_word m (e / 64)) x)
  rule_p m e x lm l fits = record {
    words = length-set ws (promise_word m (e / 64)) x ∙ len;
    agents = la;
    entries = le;
    fits = carry key (c_of ws) (c_of (slice_set ws (promise_word m (e / 64)) x)) _ _ (o_of ws) (o_of (slice_set ws (promise_word m (e / 64)) x)) vs le (λ i li. cp_kept ws m e x len lm l i li) (λ n i ln li. refl) (λ n ln. op_kept ws m e x len lm l n) fits;
  }

  pub rule_o : (m x : ℕ) → m < 8 → Fits key (c_of ws) (p_of ws) (o_of (slice_set ws (owed_word m) x)) vs → After (slice_set ws (owed_word m) x)
  rule_o m x lm fits = record {
    words = length-set ws (owed_word m) x ∙ len;
    agents = la;
    entries = le;
    fits = carry key (c_of ws) (c_of (slice_set ws (owed_word m) x)) (p_of ws) (p_of (slice_set ws (owed_word m) x)) _ _ vs le (λ i li. co_kept ws m x len lm i li) (λ n i ln li. po_kept ws m x len lm n i li) (λ n ln. refl) fits;
  }
