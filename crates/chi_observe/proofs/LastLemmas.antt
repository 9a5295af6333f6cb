-- Of each agent the last flit that names an id from before, where one more is set.
use Rattle.std.proofs.Common.{rules, arith, ◌≡◌, ◌≢◌, ◌⊎◌, inl, inr, ◌<◌, ◌≤◌, ◌==◌, ◌+◌, ℕ, Bool, true, false, ◌&&◌, List, Option, length, refl, sym, subst, ap, ◌∙◌, slice_set, nat_lt, lt-ltb, true≢false}
use Rattle.std.proofs.Math.Path.{fun_ext}
use Rattle.std.proofs.lemmas.Bool.{eqb-true}
use Rattle.std.proofs.lemmas.Grind.{get_or-set_at}
use Rattle.std.proofs.lemmas.List.{get_or-set_other, get_or_past}
use Rattle.std.specs.Prelude.{if◌then◌else◌}
use Rattle.chi_observe.specs.Judges.{last_of}
use Rattle.chi_observe.specs.LeftOver.{is_agent, last_at}

differ : (m n : ℕ) → (m == n) ≡ false → m ≢ n
differ m n h e = search (rules, arith)

split_at : (P : ℕ → Type 0) (n m : ℕ) (b : Bool) → (m == n) ≡ b → P n → (m ≢ n → P m) → P m
split_at P n m true e at rest = subst P (sym (eqb-true m n e)) at
split_at P n m false e at rest = rest (differ m n e)

lower : (m n : ℕ) → m < n + 1 → m ≢ n → m < n
lower m n h e = search (rules, arith)

-- an agent is one of those that there are
pub in_range : (place : Option ℕ) (count number n : ℕ) (last : ℕ → ℕ) → n < 32 → (if is_agent place count n then number else last n) ≡ last_at place count number last n
in_range place count number n last low = sym (ap (λ (b : Bool). if b && is_agent place count n then number else last n) (lt-ltb n 32 low))

pub one_more : (place : Option ℕ) (count number n x : ℕ) (behind last : List ℕ) → n < length behind → x ≡ last_at place count number (last_of last) n
    → ((m : ℕ) → m < n → last_of behind m ≡ last_at place count number (last_of last) m) → (m : ℕ) → m < n + 1 → last_of (slice_set behind n x) m ≡ last_at place count number (last_of last) m
one_more place count number n x behind last low is each m = split_at (λ (k : ℕ). k < n + 1 → last_of (slice_set behind n x) k ≡ last_at place count number (last_of last) k) n m (m == n) refl
    (λ below. get_or-set_at behind n n x 0 refl low ∙ is)
    (λ apart below. get_or-set_other behind n m x 0 apart ∙ each m (lower m n below apart))

-- past the last agent there is none
low_by : (n : ℕ) (b : Bool) → nat_lt n 32 ≡ b → (n < 32) ⊎ (32 ≤ n)
low_by n true h = inl (search (rules, arith))
low_by n false h = inr (search (rules, arith))

past_is : (place : Option ℕ) (count number n : ℕ) (last : ℕ → ℕ) (b : Bool) → b ≡ false → last n ≡ (if b && is_agent place count n then number else last n)
past_is place count number n last false h = refl
past_is place count number n last true h = absurd (true≢false h)

past : (n : ℕ) → 32 ≤ n → nat_lt n 32 ≡ false
past n h = search (rules, arith)

at_each : (place : Option ℕ) (count number : ℕ) (behind last : List ℕ) → length behind ≡ 32 → length last ≡ 32 → ((m : ℕ) → m < 32 → last_of behind m ≡ last_at place count number (last_of last) m) → (m : ℕ) → (m < 32) ⊎ (32 ≤ m) → last_of behind m ≡ last_at place count number (last_of last) m
at_each place count number behind last lb ll each m (inl h) = each m h
at_each place count number behind last lb ll each m (inr h) = get_or_past behind m 0 (subst (λ (k : ℕ). k ≤ m) (sym lb) h) ∙ sym (get_or_past last m 0 (subst (λ (k : ℕ). k ≤ m) (sym ll) h)) ∙ past_is place count number m (last_of last) (nat_lt m 32) (past m h)

pub all_set : (place : Option ℕ) (count number : ℕ) (behind last : List ℕ) → length behind ≡ 32 → length last ≡ 32 → ((m : ℕ) → m < 32 → last_of behind m ≡ last_at place count number (last_of last) m) → last_of behind ≡ last_at place count number (last_of last)
all_set place count number behind last lb ll each = fun_ext (λ (m : ℕ). at_each place count number behind last lb ll each m (low_by m (nat_lt m 32) refl))
