-- A line behind a flit that its observer takes, and behind one that leaves open what it tells.
use Rattle.std.proofs.Common.{◌≡◌, ◌==◌, ◌&&◌, ◌||◌, ℕ, Bool, true, false, Option, Some, refl, sym, ap, subst, ◌∙◌}
use Rattle.std.specs.Prelude.{if◌then◌else◌}
use Rattle.chi_trace.specs.declared.fields.NodeId.{NodeId}
use Rattle.chi_observer.specs.declared.flits.Flit.{Flit}
use Rattle.chi_observe.specs.Judges.{Before, Judged, Verdict, verdict}
use Rattle.chi_observe.specs.Judges.Verdict.{Known, LeftOpen}
use Rattle.chi_observe.specs.LateReasons.{LateReason}
use Rattle.chi_observe.specs.Lines.{IsNext, LineState, flit_next, is_passed, marked_next, left_open, next_by, takes_flit}

taken_by : (aside same passed : Bool) → aside ≡ false → same ≡ true → passed ≡ true → (aside || (same && passed)) ≡ true
taken_by aside same passed a s p = rw (a, s, p) refl

-- where it is no fault, the line is the one that its verdict gives
next_is : (before : Before) (old : LineState) (number : ℕ) (home : NodeId) (option : Option Flit) (flit : Flit) (v : Verdict) (new : LineState)
    → option ≡ Some flit → old.aside ≡ false → (old.home.0 == home.0) ≡ true → v ≡ verdict before number old.told flit → is_passed v ≡ true → new ≡ next_by v old number flit
    → IsNext (takes_flit before old home number option) (flit_next before old number option) new
next_is before old number home option flit v new is aside same judged passed after =
    let so : is_passed (verdict before number old.told flit) ≡ true = subst (λ (w : Verdict). is_passed w ≡ true) judged passed in
    record {
      taken = subst (λ (o : Option Flit). takes_flit before old home number o ≡ true) (sym is) (taken_by old.aside (old.home.0 == home.0) (is_passed (verdict before number old.told flit)) aside same so);
      after = after ∙ (ap (λ (w : Verdict). next_by w old number flit) judged
          ∙ (sym (ap (λ (b : Bool). if b then old else next_by (verdict before number old.told flit) old number flit) aside) ∙ ap (flit_next before old number) (sym is)));
    }

pub told_is : (before : Before) (old : LineState) (number : ℕ) (home : NodeId) (option : Option Flit) (flit : Flit) (told : Judged) (new : LineState)
    → option ≡ Some flit → old.aside ≡ false → (old.home.0 == home.0) ≡ true → Known told ≡ verdict before number old.told flit → new ≡ marked_next (record old { told = told }) number flit
    → IsNext (takes_flit before old home number option) (flit_next before old number option) new
told_is before old number home option flit told new is aside same judged after = next_is before old number home option flit (Known told) new is aside same judged refl after

pub left_is : (before : Before) (old : LineState) (number : ℕ) (home : NodeId) (option : Option Flit) (flit : Flit) (why : LateReason) (new : LineState)
    → option ≡ Some flit → old.aside ≡ false → (old.home.0 == home.0) ≡ true → LeftOpen why ≡ verdict before number old.told flit → new ≡ left_open why old
    → IsNext (takes_flit before old home number option) (flit_next before old number option) new
left_is before old number home option flit why new is aside same judged after = next_is before old number home option flit (LeftOpen why) new is aside same judged refl after
