-- What a line of the code answers, and what it keeps then, as the judge of a line has it.
use Rattle.std.proofs.Common.{◌≡◌, ℕ, Bool, true, sym, ap, ◌∙◌}
use Rattle.std.proofs.Math.Path.{fun_ext}
use Rattle.std.specs.Prelude.{Option, Some, None, Result, Ok, Err, IfErr, OnOk, is_ok}
use Rattle.chi_observer.specs.declared.flits.Flit.{Flit}
use Rattle.chi_copies.specs.declared.line.Reason.{Reason}
use Rattle.chi_copies.specs.Observed.{Observed}
use Rattle.chi_copies.specs.Moments.{shown_after}
use Rattle.chi_copies.specs.Told.{next_by}
use Rattle.chi_watch.specs.Judges.{line_after, reason_of}
use Rattle.chi_watch.specs.Judges.Judged.{FromStart}

-- where no reason holds of what is taken, the answer has the one that holds, if any does
pub reason_is : (result : Result (Unit {0}) Reason) (taken : Bool) (wanted : Option Reason)
    → is_ok result ≡ taken → (taken ≡ true → wanted ≡ None) → IfErr result (λ reason. wanted ≡ Some reason) → reason_of result ≡ wanted
reason_is (Ok done) taken wanted is none why = sym (none (sym is))
reason_is (Err reason) taken wanted is none why = sym why

pub led_is : (result : Result (Unit {0}) Reason) (o o' : Observed) (m m' : ℕ → Bool) (flit : Flit)
    → OnOk result (o' ≡ next_by o flit) → OnOk result ((n : ℕ) → m' n ≡ shown_after o flit m n) → OnOk result (FromStart o' m' ≡ line_after o m flit)
led_is (Ok done) o o' m m' flit next moments = ap (λ s. FromStart s m') next ∙ ap (λ s. FromStart (next_by o flit) s) (fun_ext moments)
led_is (Err reason) o o' m m' flit next moments = moments
