-- The first report of each agent, when one more is received.
use Rattle.std.proofs.Common.{◌≡◌, ◌≢◌, ℕ, ◌+◌, ◌<◌, ◌≤◌, Bool, true, false, ◌==◌, List, [], ◌∷◌, ◌++◌, length, slice_set, sym, refl, ap, ◌∙◌, subst, eq-eqb, ne_eqb, true≢false, get_or-set_same, get_or-set_other, arith}
use Rattle.std.specs.Prelude.{Option, Some, None, is_some, is_none, IsSome, if◌then◌else◌}
use mathlib.Core.Logic.{dite}
use native.Mathlib.Decide.{ℕ_discrete}
use Rattle.chi_audit.specs.declared.reports.Report.{Report}
use Rattle.chi_audit.specs.Boxes.{first_report, IsAsTold, AreReceived}
use Rattle.chi_audit.specs.Gathered.{report_at, AreKept, AreAllThere, AreAsTold, AreToldKept, IsOneMissing, IsGathered}

is_full : (o : Option Report) → is_none o ≡ false → IsSome o
is_full None test = absurd (true≢false test)
is_full (Some x) test = refl

is_empty : (o : Option Report) → is_none o ≡ true → is_some o ≡ false
is_empty None test = refl
is_empty (Some x) test = absurd (true≢false (sym test))

first_same : (a : ℕ) (got : List Report) (r : Report) → r.agent.0 ≢ a → first_report a (got ++ r ∷ []) ≡ first_report a got
first_same a [] r other = ap (λ (b : Bool). if b then Some r else None) (ne_eqb r.agent.0 a other)
first_same a (x ∷ xs) r other = ap (λ (rest : Option Report). if x.agent.0 == a then Some x else rest) (first_same a xs r other)

first_kept : (a : ℕ) (got : List Report) (r : Report) → IsSome (first_report a got) → first_report a (got ++ r ∷ []) ≡ first_report a got
first_kept a [] r there = absurd (true≢false (sym there))
first_kept a (x ∷ xs) r there = either_first (x.agent.0 == a) (first_kept a xs r) there
  where
    either_first : (b : Bool) → (IsSome (first_report a xs) → first_report a (xs ++ r ∷ []) ≡ first_report a xs) → IsSome (if b then Some x else first_report a xs)
        → (if b then Some x else first_report a (xs ++ r ∷ [])) ≡ (if b then Some x else first_report a xs)
    either_first true rest is = refl
    either_first false rest is = rest is

first_new : (a : ℕ) (got : List Report) (r : Report) → r.agent.0 ≡ a → is_some (first_report a got) ≡ false → first_report a (got ++ r ∷ []) ≡ Some r
first_new a [] r is missing = ap (λ (b : Bool). if b then Some r else None) (eq-eqb r.agent.0 a is)
first_new a (x ∷ xs) r is missing = later_first (x.agent.0 == a) (first_new a xs r is) missing
  where
    later_first : (b : Bool) → (is_some (first_report a xs) ≡ false → first_report a (xs ++ r ∷ []) ≡ Some r) → is_some (if b then Some x else first_report a xs) ≡ false
        → (if b then Some x else first_report a (xs ++ r ∷ [])) ≡ Some r
    later_first true rest none = absurd (true≢false none)
    later_first false rest none = rest none

-- a report of an agent at or above n
pub stranger : (n : ℕ) (got : List Report) (places : List (Option Report)) (r : Report) → n ≤ r.agent.0 → AreKept n got places → AreKept n (got ++ r ∷ []) places
stranger n got places r far kept = record {
  own = λ a l. kept.own a l ∙ sym (first_same a got r (λ e. omega arith));
  others = kept.others;
}

-- a second report
pub second : (n : ℕ) (got : List Report) (places : List (Option Report)) (r : Report) (at : ℕ) → at ≡ r.agent.0 → r.agent.0 < n → is_none (report_at places at) ≡ false
    → AreKept n got places → AreKept n (got ++ r ∷ []) places
second n got places r at is near full kept = record {
  own = λ a l. dite (ℕ_discrete r.agent.0 a)
      (λ e. kept.own a l ∙ sym (first_kept a got r (subst IsSome (kept.own a l) (is_full (report_at places a) (subst (λ (k : ℕ). is_none (report_at places k) ≡ false) (is ∙ e) full)))))
      (λ other. kept.own a l ∙ sym (first_same a got r other));
  others = kept.others;
}

-- a first report
pub first : (n : ℕ) (got : List Report) (places : List (Option Report)) (r : Report) (at : ℕ) → at ≡ r.agent.0 → r.agent.0 < n → n ≤ 8 → length places ≡ 8
    → is_none (report_at places at) ≡ true → AreKept n got places → AreKept n (got ++ r ∷ []) (slice_set places at (Some r))
first n got places r at is near few long empty kept = record {
  own = λ a l. dite (ℕ_discrete r.agent.0 a)
      (λ e. subst (λ (k : ℕ). report_at (slice_set places at (Some r)) k ≡ Some r) (is ∙ e) (get_or-set_same places at (Some r) None (omega arith))
      ∙ sym (first_new a got r e (ap is_some (sym (kept.own a l)) ∙ is_empty (report_at places a) (subst (λ (k : ℕ). is_none (report_at places k) ≡ true) (is ∙ e) empty))))
      (λ other. get_or-set_other places at a (Some r) None (λ e. other (sym is ∙ sym e)) ∙ (kept.own a l ∙ sym (first_same a got r other)));
  others = λ a l. get_or-set_other places at a (Some r) None (λ e. omega arith) ∙ kept.others a l;
}

pub more_there : (n : ℕ) (places : List (Option Report)) → is_none (report_at places n) ≡ false → AreAllThere n places → AreAllThere (n + 1) places
more_there n places full there a l = dite (ℕ_discrete n a) (λ e. subst (λ (k : ℕ). IsSome (report_at places k)) e (is_full (report_at places n) full)) (λ other. there a (omega arith))

pub complete : (n : ℕ) (got : List Report) (places : List (Option Report)) → AreKept n got places → AreAllThere n places → IsGathered n got (record { reports = places; complete = true })
complete n got places kept there = record { kept = kept; complete = ((λ _ a l. subst IsSome (kept.own a l) (there a l)), λ _. refl) }

pub incomplete : (n : ℕ) (got : List Report) (places : List (Option Report)) → AreKept n got places → IsOneMissing n places → IsGathered n got (record { reports = places; complete = false })
incomplete n got places kept missing = record {
  kept = kept;
  complete = ((λ e. absurd (true≢false (sym e))), λ all. absurd (true≢false (sym (all missing.0 missing.1) ∙ ap is_some (sym (kept.own missing.0 missing.1) ∙ missing.2))));
}

-- nothing was received
pub none_as_told : (told : List Report) → AreAsTold told []
none_as_told told a t r is first = absurd (true≢false (sym (ap is_some first)))

-- one more is received, as it is told
pub more_as_told : (told got got' : List Report) (r : Report) → got' ≡ got ++ r ∷ [] → AreAsTold told got → IsAsTold told r → AreAsTold told got'
more_as_told told got got' r grown before is a t x there found = dite (ℕ_discrete r.agent.0 a)
    (λ same. by_first (first_report a got) refl same)
    (λ other. before a t x there (sym (first_same a got r other) ∙ (ap (first_report a) (sym grown) ∙ found)))
  where
    some_same : (y z : Report) → Some y ≡ Some z → y ≡ z
    some_same y z e = ap (λ (o : Option Report). get_some y o) e
      where
        get_some : Report → Option Report → Report
        get_some d None = d
        get_some d (Some k) = k

    by_first : (o : Option Report) → first_report a got ≡ o → r.agent.0 ≡ a → x ≡ t
    by_first None none same = some_same x r (sym found ∙ (ap (first_report a) grown ∙ first_new a got r same (ap is_some none))) ∙ is t (ap (λ (k : ℕ). first_report k told) same ∙ there)
    by_first (Some y) some same = before a t x there
        (sym (first_kept a got r (ap is_some some)) ∙ (ap (first_report a) (sym grown) ∙ found))

-- all places are full
pub told_there : (n : ℕ) (told got : List Report) (places : List (Option Report)) → AreKept n got places → AreAsTold told got → AreAllThere n places → AreToldKept n told places
told_there n told got places kept as_told all a r low there = by_first (first_report a got) refl
  where
    by_first : (o : Option Report) → first_report a got ≡ o → report_at places a ≡ Some r
    by_first None none = absurd (true≢false (sym (all a low) ∙ (ap is_some (kept.own a low) ∙ ap is_some none)))
    by_first (Some y) some = kept.own a low ∙ (some ∙ ap Some (as_told a r y there some))

-- all that is told was received
pub told_over : (n : ℕ) (told got : List Report) (places : List (Option Report)) → AreKept n got places → AreReceived told got → AreToldKept n told places
told_over n told got places kept all a r low there = kept.own a low ∙ all a r there
