-- What is outstanding at a line, counted.
use Rattle.std.proofs.Common.{rules, arith, ◌≡◌, ℕ, zero, suc, ◌+◌, ◌<◌, List, refl, sym, ap, ◌∙◌, length, add_comm, add-one}
use Rattle.std.specs.Prelude.{true, false, ◌||◌, Option, replicate}
use Rattle.chi_observer.specs.declared.kinds.Snoop.{Snoop}
use Rattle.chi_observer.specs.Rules.{is_resending}
use Rattle.chi_copies.specs.declared.dues.DueCode.{DueCode}
use Rattle.chi_copies.specs.Lines.{due_at, snooped_at}
use Rattle.chi_copies.specs.BegunLines.{dues_of, flags_of}
use Rattle.chi_copies.specs.Unjudged.{outstanding_of, sum_below}
use Rattle.chi_copies.proofs.Lines.{all_same, same_or}
use Rattle.chi_copies.proofs.BegunLines.{due_low}

pub sum_same : (k : ℕ) (f g : ℕ → ℕ) → ((m : ℕ) → m < k → f m ≡ g m) → sum_below k f ≡ sum_below k g
sum_same zero f g h = refl
sum_same (suc k) f g h =
    let last : k < suc k = search (rules, arith) in
    λ i. h k last i + sum_same k f g (λ m l. h m (below m l)) i
  where
    below : (m : ℕ) → m < k → m < suc k
    below m l = search (rules, arith)

-- THE LOOP
pub one_further : (n x count : ℕ) (f : ℕ → ℕ) → count ≡ sum_below n f → x ≡ f n → count + x ≡ sum_below (n + 1) f
one_further n x count f e h = (λ i. e i + h i) ∙ add_comm (sum_below n f) (f n) ∙ sym (ap (λ (k : ℕ). sum_below k f) (add-one n))

pub sum_whole : (n count : ℕ) (f : ℕ → ℕ) → n ≡ 32 → count ≡ sum_below n f → count ≡ sum_below 32 f
sum_whole n count f e h = h ∙ ap (λ (k : ℕ). sum_below k f) e

-- A LINE that is judged from its trace's beginning has none from before
pub none_at : (n : ℕ) → n < 32 → flags_of (replicate 32 false) n ≡ false
none_at n low = same_or (replicate 32 false) n true false low ∙ all_same 32 n false

module _ (due : List DueCode) (l : length due ≡ 32) where
  pub none_before : (snooped : List (Option Snoop)) (count : ℕ) → count ≡ sum_below 32 (λ n. outstanding_of (flags_of (replicate 32 false) n) (dues_of due n) (snooped_at snooped n)) → count ≡ sum_below 32 (λ n. outstanding_of false (due_at due n) (snooped_at snooped n))
  none_before snooped count e = e ∙ sum_same 32 (λ n. outstanding_of (flags_of (replicate 32 false) n) (dues_of due n) (snooped_at snooped n)) (λ n. outstanding_of false (due_at due n) (snooped_at snooped n))
      (λ m low. λ i. outstanding_of (none_at m low i) (sym (due_low due m l low) i) (snooped_at snooped m))

  pub asked_before : (n : ℕ) → n < 32 → (flags_of (replicate 32 false) n || is_resending (dues_of due n)) ≡ is_resending (due_at due n)
  asked_before n low = λ i. none_at n low i || is_resending (sym (due_low due n l low) i)
