-- What judges the flits of a cache line: from the trace's beginning or from its middle, or nothing does (docs/WATCH.md, "What isn't
-- judged").
use Rattle.std.specs.Prelude.{ℕ, zero, suc, Bool, true, false, List, Option, Some, None, Result, Ok, Err, nat_lt, if◌then◌else◌}
use Rattle.std.specs.List.{slice_index_or}
use Rattle.chi_observer.specs.declared.flits.Flit.{Flit}
use Rattle.chi_observer.specs.declared.flits.Flit.TheVariants.{Up, Down}
use Rattle.chi_observer.specs.declared.flits.Stores.{Stores}
use Rattle.chi_copies.specs.declared.line.Line.{Line}
use Rattle.chi_copies.specs.declared.line.Reason.{Reason}
use Rattle.chi_copies.specs.Observed.{Observed}
use Rattle.chi_copies.specs.Runs.{nothing_told}
use Rattle.chi_copies.specs.Lines.{observed, shown_at}
use Rattle.chi_copies.specs.Moments.{shown_after}
use Rattle.chi_copies.specs.Told.{next_by}
use Rattle.chi_copies.specs.Refusals.{home_refusal, refusal}
use Rattle.chi_copies.specs.Begun.{Begun, begun_after, forgetting, nothing_begun}
use Rattle.chi_copies.specs.BegunLines.{begun}
use Rattle.chi_copies.specs.BegunRefusals.{begun_refusal}
use Rattle.chi_watch.specs.declared.judge.BegunLine.{BegunLine}
use Rattle.chi_watch.specs.declared.judge.Judge.{Judge}
use Rattle.chi_watch.specs.declared.judge.Judge.TheVariants as judges
use Rattle.chi_watch.specs.declared.judge.LineReason.TheVariants.{Rule, OtherHome}
use Rattle.chi_watch.specs.declared.judge.Start.{Start}
use Rattle.chi_watch.specs.declared.judge.Start.TheVariants.{Empty, Unknown}
use Rattle.chi_watch.specs.declared.judge.Unjudged.{Unjudged}
use Rattle.chi_watch.specs.declared.judge.Verdict.{Verdict}
use Rattle.chi_watch.specs.declared.judge.Verdict.TheVariants as verdicts
use Rattle.chi_watch.specs.declared.told.Cause.{Cause}
use Rattle.chi_watch.specs.declared.told.Cause.TheVariants.{Crowded, Fault}
use Rattle.chi_watch.specs.declared.told.Told.{Told}
use Rattle.chi_watch.specs.declared.told.Told.TheVariants as told

-- what flits have told: with the moments that there were, with the number of the flit that was told last, or none any more
pub data Judged : Type 0 where
  FromStart : Observed → (ℕ → Bool) → Judged
  FromMiddle : Begun → ℕ → Judged
  NotJudged : Unjudged → Judged

abbrev pub whole_judged : Line → Judged
whole_judged line = FromStart (observed line) (shown_at line.shown)

abbrev pub begun_judged : BegunLine → Judged
begun_judged line = FromMiddle (begun line.begun) line.told

abbrev pub judged : {A : Type 0} → Judge A → Judged
judged (judges.Whole line) = whole_judged line
judged (judges.Begun line) = begun_judged line.value
judged (judges.Unjudged since) = NotJudged since

-- a line that no flit has touched before the one with this number
abbrev pub opened : Start → Stores → ℕ → Judged
opened Empty stores number = FromStart (nothing_told stores) (λ n. false)
opened Unknown stores number = FromMiddle (nothing_begun stores) number

-- A FLIT FROM BEFORE THE TRACE, of which the line isn't known, may have been of a line that was told nothing since
abbrev pub wake : List ℕ → ℕ → ℕ → Begun → Begun
wake strays last n b = if nat_lt last (slice_index_or strays n 0) then forgetting n b else b

abbrev pub woken_below : ℕ → List ℕ → ℕ → Begun → Begun
woken_below zero strays last b = b
woken_below (suc n) strays last b = wake strays last n (woken_below n strays last b)

unfoldable pub woken : List ℕ → ℕ → Begun → Begun
woken strays last b = woken_below 32 strays last b

-- A FLIT: the first reason for which it isn't taken, and what is told behind one that is
abbrev pub line_refusal : Observed → (ℕ → Bool) → Flit → Option Reason
line_refusal o shown (Up f) = refusal o f
line_refusal o shown (Down g) = home_refusal o shown g

abbrev pub refusal_of : List ℕ → Judged → Flit → Option Reason
refusal_of strays (FromStart o shown) flit = line_refusal o shown flit
refusal_of strays (FromMiddle b last) flit = begun_refusal (woken strays last b) flit
refusal_of strays (NotJudged since) flit = None

abbrev pub line_after : Observed → (ℕ → Bool) → Flit → Judged
line_after o shown flit = FromStart (next_by o flit) (shown_after o flit shown)

abbrev pub after_flit : List ℕ → ℕ → Judged → Flit → Judged
after_flit strays number (FromStart o shown) flit = line_after o shown flit
after_flit strays number (FromMiddle b last) flit = FromMiddle (begun_after (woken strays last b) flit) number
after_flit strays number (NotJudged since) flit = NotJudged since

abbrev pub reason_of : Result (Unit {0}) Reason → Option Reason
reason_of (Ok done) = None
reason_of (Err reason) = Some reason

-- WHAT COMES OF WHAT A LINE IS TOLD: a line that isn't judged stays so; one is set aside by what isn't judged, and by a fault
abbrev pub is_judging : Judged → Bool
is_judging (NotJudged since) = false
is_judging other = true

abbrev pub since_of : Judged → Option Unjudged
since_of (NotJudged since) = Some since
since_of other = None

abbrev pub set_aside : Cause → ℕ → Judged
set_aside cause number = NotJudged (record { cause = cause; number = number })

abbrev pub verdict_by : Option Reason → Verdict
verdict_by None = verdicts.Judged
verdict_by (Some reason) = verdicts.Fault (Rule reason)

abbrev pub verdict_of : List ℕ → Judged → Told → Verdict
verdict_of strays judge (told.Flit flit) = verdict_by (refusal_of strays judge flit)
verdict_of strays judge told.Nothing = verdicts.Judged
verdict_of strays judge (told.Unjudged cause) = verdicts.Unjudged
verdict_of strays judge told.OtherHome = verdicts.Fault OtherHome

abbrev pub verdict : List ℕ → Judged → Told → Verdict
verdict strays judge news = if is_judging judge then verdict_of strays judge news else verdicts.Unjudged

abbrev pub flit_by : Option Reason → ℕ → Judged → Judged
flit_by None number next = next
flit_by (Some reason) number next = set_aside Fault number

abbrev pub next_of : List ℕ → ℕ → Judged → Told → Judged
next_of strays number judge (told.Flit flit) = flit_by (refusal_of strays judge flit) number (after_flit strays number judge flit)
next_of strays number judge told.Nothing = judge
next_of strays number judge (told.Unjudged cause) = set_aside cause number
next_of strays number judge told.OtherHome = set_aside Fault number

abbrev pub judged_after : List ℕ → ℕ → Judged → Told → Judged
judged_after strays number judge news = if is_judging judge then next_of strays number judge news else judge

-- nor is one of which too many flits wait
abbrev pub crowded_by : ℕ → Judged → Judged
crowded_by number judge = if is_judging judge then set_aside Crowded number else judge
