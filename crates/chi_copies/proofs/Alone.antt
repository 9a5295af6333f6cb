-- Of whom alone something is so: nobody, one, or several.
use Rattle.std.proofs.Common.{rules, arith, ◌≡◌, ◌≢◌, ◌⊎◌, inl, inr, ℕ, zero, suc, ◌+◌, List, length, ◌<◌, ◌≤◌, refl, sym, ap, subst, ◌∙◌}
use Rattle.std.specs.Prelude.{Bool, true, false, ◌&&◌, ◌||◌, ◌==◌, nat_lt, not, Option, if◌then◌else◌}
use Rattle.std.proofs.lemmas.Bool.{eqb-true}
use Rattle.std.proofs.lemmas.List.{get_or_past}
use Rattle.chi_observer.specs.declared.flits.Due.{Due}
use Rattle.chi_observer.specs.Rules.{awaits_moment}
use Rattle.chi_copies.specs.declared.copies.Copies.{Copies as CopiesCode}
use Rattle.chi_copies.specs.declared.dues.DueCode.{DueCode}
use Rattle.chi_copies.specs.declared.tests.Test.TheVariants.{Dirty, Lost}
use Rattle.chi_copies.specs.declared.timed.Moments.{Moments}
use Rattle.chi_copies.specs.Images.{dirty_then, is_clean_but, moment_by}
use Rattle.chi_copies.specs.Observed.{any_of}
use Rattle.chi_copies.specs.Sets.{members}
use Rattle.chi_copies.specs.Lines.{due_at, issues, may_at, moment_here, none_dirty_of, none_stored_of, nothing_due, passes, shown_at, shown_here}
use Rattle.chi_copies.specs.Worlds.{all_below}
use Rattle.chi_copies.proofs.Finite.{no}
use Rattle.chi_copies.proofs.Put.{differ, unlike}
use Rattle.chi_copies.specs.Dues.{due_is}
use Rattle.chi_copies.proofs.Lines.{past_by, timed_each}
use Rattle.chi_copies.proofs.Sets.{each_below, suc_is}

-- f isn't so of any but n
abbrev pub none_but : (ℕ → Bool) → ℕ → ℕ → Bool
none_but f k n = all_below k (λ m. m == n || not (f m))

pub record OneOf (f : ℕ → Bool) (k who : ℕ) : Type 0 where
  pub within : (who < k) ⊎ (32 ≤ who)
  pub each : (n : ℕ) → n < 32 → is_clean_but who n ≡ none_but f k n

pub first : (f : ℕ → Bool) → OneOf f 0 32
first f = record { within = inr (search (rules, arith)); each = λ n l. refl }

module _ (f : ℕ → Bool) (k who : ℕ) (small : k < 32) (o : OneOf f k who) where
  -- it isn't so of k
  stays : f k ≡ false → OneOf f (suc k) who
  stays e = record {
    within = longer o.within;
    each = λ n l. o.each n l ∙ ap (λ (b : Bool). b && none_but f k n) (sym (ap (λ (b : Bool). (k == n) || not b) e ∙ or_true (k == n)));
  }
    where
      or_true : (b : Bool) → (b || true) ≡ true
      or_true true = refl
      or_true false = refl

      longer : (who < k) ⊎ (32 ≤ who) → (who < suc k) ⊎ (32 ≤ who)
      longer (inl l) = inl (search (rules, arith))
      longer (inr l) = inr l

  or_false : (b : Bool) → (b || false) ≡ b
  or_false true = refl
  or_false false = refl

  -- it is
  here : f k ≡ true → (n : ℕ) → n < 32 → ((k == n) && is_clean_but who n) ≡ none_but f (suc k) n
  here e n l = ap (λ (b : Bool). (k == n) && b) (o.each n l) ∙ ap (λ (b : Bool). b && none_but f k n) (sym (ap (λ (b : Bool). (k == n) || not b) e ∙ or_false (k == n)))

  begun : who ≡ 32 → (n : ℕ) → n < 32 → is_clean_but k n ≡ ((k == n) && is_clean_but who n)
  begun w n l = let apart : (k == 32) ≡ false = unlike k 32 (search (rules, arith)) in
      ap (λ (b : Bool). b || (k == n)) apart ∙ sym (ap (λ (x : ℕ). (k == n) && ((x == 32) || (x == n))) w ∙ and_true (k == n))
    where
      and_true : (b : Bool) → (b && true) ≡ b
      and_true true = refl
      and_true false = refl

  never : (n : ℕ) → n < 32 → is_clean_but 33 n ≡ false
  never n l = unlike 33 n (search (rules, arith))

  both_by : (n : ℕ) (b : Bool) → (k == n) ≡ b → who ≢ 32 → n < 32 → (b && ((who == 32) || (who == n))) ≡ false
  both_by n false e w l = refl
  both_by n true e w l = ap (λ (b : Bool). b || (who == n)) (unlike who 32 w) ∙ unlike who n (apart o.within)
    where
      apart : (who < k) ⊎ (32 ≤ who) → who ≡ n → ⊥
      apart (inl s) h = let t : k ≡ n = eqb-true k n e in search (rules, arith)
      apart (inr s) h = search (rules, arith)

  several : who ≢ 32 → (n : ℕ) → n < 32 → is_clean_but 33 n ≡ ((k == n) && is_clean_but who n)
  several w n l = never n l ∙ sym (both_by n (k == n) refl w l)

  by_who : (b : Bool) → (who == 32) ≡ b → f k ≡ true → OneOf f (suc k) (if b then k else 33)
  by_who true w e = record { within = inl (search (rules, arith)); each = λ n l. begun (eqb-true who 32 w) n l ∙ here e n l }
  by_who false w e = record { within = inr (search (rules, arith)); each = λ n l. several (differ who 32 w) n l ∙ here e n l }

  by_dirty : (b : Bool) → f k ≡ b → OneOf f (suc k) (if not b then who else (if who == 32 then k else 33))
  by_dirty true e = by_who (who == 32) refl e
  by_dirty false e = stays e

  pub one_more : (dirty : Bool) (next : ℕ) → dirty ≡ f k → next ≡ dirty_then who dirty k → OneOf f (k + 1) next
  one_more dirty next e h = subst (λ (x : ℕ). OneOf f x next) (suc_is k) (subst (λ (x : ℕ). OneOf f (suc k) x) (sym h) (by_dirty dirty (sym e)))

-- MOMENTS
all_both : (k : ℕ) (f g : ℕ → Bool) → (all_below k f && all_below k g) ≡ all_below k (λ m. f m && g m)
all_both zero f g = refl
all_both (suc k) f g = apart (f k) (g k) (all_below k f) (all_below k g) ∙ ap (λ (b : Bool). (f k && g k) && b) (all_both k f g)
  where
    apart : (a b x y : Bool) → ((a && x) && (b && y)) ≡ ((a && b) && (x && y))
    apart true true x y = refl
    apart true false true y = refl
    apart true false false y = refl
    apart false b x y = refl

swap : (a b : Bool) → (a && b) ≡ (b && a)
swap true true = refl
swap true false = refl
swap false true = refl
swap false false = refl

pub moment_is : (may : List CopiesCode) (reads : Bool) (n : ℕ) (none_stored none_lost : Bool) (who : ℕ) → none_stored ≡ none_stored_of may → none_lost ≡ all_below 32 (λ m. not (any_of (members (may_at may m)) (passes Lost)))
    → is_clean_but who n ≡ all_below 32 (λ m. m == n || not (any_of (members (may_at may m)) (passes Dirty))) → (if reads then none_stored else (none_lost && is_clean_but who n)) ≡ (if reads then none_stored_of may else none_dirty_of may n)
moment_is may true n s l who hs hl hd = hs
moment_is may false n s l who hs hl hd = (λ i. hl i && hd i) ∙ swap (all_below 32 (λ m. not (any_of (members (may_at may m)) (passes Lost)))) (all_below 32 (λ m. m == n || not (any_of (members (may_at may m)) (passes Dirty))))
    ∙ all_both 32 (λ m. m == n || not (any_of (members (may_at may m)) (passes Dirty))) (λ m. not (any_of (members (may_at may m)) (passes Lost)))

pub shown_one : (due : List DueCode) (may : List CopiesCode) (issuer : Option ℕ) (was : Bool) (n : ℕ) (m : Moments) (d : Due) (i w x : Bool) → d ≡ due_at due n → i ≡ issues issuer n → w ≡ was → moment_by m (due_at due n) n ≡ moment_here due may n
    → x ≡ (awaits_moment d && ((not i && w) || moment_by m d n)) → x ≡ shown_here due may issuer was n
shown_one due may issuer was n m d i w x hd hi hw hm e = e
    ∙ (λ j. awaits_moment (hd j) && ((not (hi j) && hw j) || moment_by m (hd j) n))
    ∙ ap (λ (b : Bool). awaits_moment (due_at due n) && ((not (issues issuer n) && was) || b)) hm

-- REQUESTS whose moment there was
awaits_by : (due : List DueCode) (now : List Bool) → length due ≡ 32 → length now ≡ 32 → ((n : ℕ) → n < 32 → shown_at now n ≡ awaits_moment (due_at due n)) → (n : ℕ) → (n < 32) ⊎ (32 ≤ n) → shown_at now n ≡ awaits_moment (due_at due n)
awaits_by due now ld ln each n (inl l) = each n l
awaits_by due now ld ln each n (inr l) = get_or_past now n false (subst (λ (k : ℕ). k ≤ n) (sym ln) l)
    ∙ sym (ap (λ d. awaits_moment (due_is d)) (get_or_past due n nothing_due (subst (λ (k : ℕ). k ≤ n) (sym ld) l)))

pub awaits_each : (due : List DueCode) (now : List Bool) → length due ≡ 32 → length now ≡ 32 → ((n : ℕ) → n < 32 → shown_at now n ≡ awaits_moment (due_at due n)) → (n : ℕ) → shown_at now n ≡ awaits_moment (due_at due n)
awaits_each due now ld ln each n = awaits_by due now ld ln each n (past_by n (nat_lt n 32) refl)

settled : (a i w m : Bool) → not (a && (i || not w)) ≡ true → a ≡ (a && ((not i && w) || m))
settled true true w m e = no e
settled true false true m e = refl
settled true false false m e = no e
settled false i w m e = refl

pub all_there : (due : List DueCode) (may : List CopiesCode) (shown now : List Bool) (issuer : Option ℕ) → length due ≡ 32 → length now ≡ 32 → ((n : ℕ) → shown_at now n ≡ awaits_moment (due_at due n))
    → all_below 32 (λ m. not (awaits_moment (due_at due m) && (issues issuer m || not (shown_at shown m)))) ≡ true → (n : ℕ) → shown_at now n ≡ shown_here due may issuer (shown_at shown n) n
all_there due may shown now issuer ld ln each none n = timed_each due may shown now issuer ld ln
    (λ n low. each n ∙ settled (awaits_moment (due_at due n)) (issues issuer n) (shown_at shown n) (moment_here due may n) (each_below 32 (λ m. not (awaits_moment (due_at due m) && (issues issuer m || not (shown_at shown m)))) none n low)) n

pub pending_one : (d e : Due) (i j w v x : Bool) → d ≡ e → i ≡ j → w ≡ v → x ≡ (awaits_moment d && (i || not w)) → not x ≡ not (awaits_moment e && (j || not v))
pending_one d e i j w v x hd hi hw h = ap not (h ∙ (λ k. awaits_moment (hd k) && (hi k || not (hw k))))
