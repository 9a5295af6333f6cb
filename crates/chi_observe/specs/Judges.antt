-- What judges the flits of a line: from the trace's beginning, by its words too (docs/OBSERVER.md, "Words that are known"),
-- from the middle of a longer one (docs/OBSERVER.md, "A trace that begins in the middle"), or where the home receives them
-- (docs/OBSERVER.md, "Seen at the home").
use Rattle.std.specs.Prelude.{ℕ, zero, suc, Bool, true, false, not, List, Result, Ok, Err, nat_lt, if◌then◌else◌}
use Rattle.std.specs.List.{slice_index_or}
use Rattle.chi_observer.specs.declared.flits.Flit.{Flit}
use Rattle.chi_observer.specs.declared.flits.Stores.{Stores}
use Rattle.chi_observer.specs.declared.observer.Reason.{Reason}
use Rattle.chi_observer.specs.declared.arrivals.Untaken.{Untaken}
use Rattle.chi_observer.specs.declared.arrivals.Untaken.TheVariants.{Fault, SetAside}
use Rattle.chi_observer.specs.Lines.{Watched}
use Rattle.chi_observer.specs.WordedLines.{WatchedWords, counted_by_word, is_worded_reason, nothing_worded, takes_by_word, watch_by_word, words_watched}
use Rattle.chi_observer.specs.Begun.{Beginning, begun, begun_after, forgetting, is_begun_reason, nothing_begun, takes_begun}
use Rattle.chi_observer.specs.Arrivals.{Arrived, Outcome, arrived, is_untaken, nothing_arrived, outcome}
use Rattle.chi_observer.specs.Arrivals.Outcome.{Taken, NotTaken, LeftOpen as LeftAtHome}
use Rattle.chi_observer.specs.Arriving.{holds_none}
use Rattle.chi_observer.specs.Worded.{Words, no_words}
use Rattle.chi_observer.specs.Wanted.{homed, is_listed_store, wanted, wanted_words}
use Rattle.chi_observer.specs.declared.wanted.Wanted.{Wanted}
use Rattle.chi_observer.specs.declared.wanted.Wanted.TheVariants.{Nothing}
use Rattle.chi_observe.specs.declared.judges.Before.{Before as CodeBefore}
use Rattle.chi_observe.specs.declared.judges.BegunLine.{BegunLine}
use Rattle.chi_observe.specs.declared.judges.Judge.{Judge}
use Rattle.chi_observe.specs.declared.judges.Judge.TheVariants as judges
use Rattle.chi_observe.specs.declared.judges.Log.{Log}
use Rattle.chi_observe.specs.declared.judges.Log.TheVariants.{Whole, Tail, Home}
use Rattle.chi_observe.specs.declared.steps.WatchOptions.{WatchOptions}
use Rattle.chi_observe.specs.LateReasons.{LateReason, late_reason, reason_in}

-- the trace is cut out of a longer one, or taken at the home
abbrev pub is_tail : Log → Bool
is_tail Tail = true
is_tail other = false

abbrev pub is_cut : WatchOptions → Bool
is_cut options = is_tail options.log

abbrev pub is_of_home : Log → Bool
is_of_home Home = true
is_of_home other = false

abbrev pub is_at_home : WatchOptions → Bool
is_at_home options = is_of_home options.log

-- with the number of the trace's line that a line from the middle was told last, or that came before its first
pub data Judged : Type 0 where
  FromStart : WatchedWords → Judged
  FromMiddle : Beginning → ℕ → Judged
  AtHome : Arrived → Judged

abbrev pub line_judged : BegunLine → Judged
line_judged line = FromMiddle (begun line.begun) line.synced

abbrev pub judged : {A : Type 0} → Judge A → Judged
judged (judges.Whole observer) = FromStart (words_watched observer)
judged (judges.Begun line) = line_judged line.value
judged (judges.Home line) = AtHome (arrived line.value)

-- what the trace begins with, and of each agent the number of its last flit that names an id from before
pub record Before : Type 0 where
  pub log : Log
  pub stores : Stores
  pub last : ℕ → ℕ

abbrev pub last_of : List ℕ → ℕ → ℕ
last_of last n = slice_index_or last n 0

abbrev pub before_of : CodeBefore → Before
before_of before = record { log = before.log; stores = before.stores; last = last_of before.last.now }

abbrev pub opened_from : Log → Stores → ℕ → Judged
opened_from Whole z number = FromStart (nothing_worded z)
opened_from Tail z number = FromMiddle (nothing_begun z) number
opened_from Home z number = AtHome nothing_arrived

-- such a flit that came since may have been of the line
abbrev pub wake : Before → ℕ → ℕ → Beginning → Beginning
wake before synced n b = if nat_lt synced (before.last n) then forgetting n b else b

abbrev pub woken_below : ℕ → Before → ℕ → Beginning → Beginning
woken_below zero before synced b = b
woken_below (suc n) before synced b = wake before synced n (woken_below n before synced b)

unfoldable pub woken : Before → ℕ → Beginning → Beginning
woken before synced b = woken_below 32 before synced b

-- what comes of a flit: it is taken, and this is known then; it isn't; or the line can't be judged any more, for this reason
pub data Verdict : Type 0 where
  Known : Judged → Verdict
  Faulty : Verdict
  LeftOpen : LateReason → Verdict

abbrev pub known_if : Bool → Judged → Verdict
known_if taken told = if taken then Known told else Faulty

abbrev pub home_verdict : LateReason → Outcome → Verdict
home_verdict why (Taken a) = Known (AtHome a)
home_verdict why NotTaken = Faulty
home_verdict why LeftAtHome = LeftOpen why

abbrev pub verdict : Before → ℕ → Judged → Flit → Verdict
verdict before number (FromStart l) flit = known_if (takes_by_word l flit) (FromStart (watch_by_word l flit))
verdict before number (FromMiddle b synced) flit = known_if (takes_begun (woken before synced b) flit) (FromMiddle (begun_after (woken before synced b) flit) number)
verdict before number (AtHome a) flit = home_verdict (late_reason a flit) (outcome a flit)

abbrev pub verdict_of : Result (Unit {0}) Untaken → Judged → Verdict
verdict_of (Ok done) told = Known told
verdict_of (Err (Fault reason)) told = Faulty
verdict_of (Err (SetAside aside)) told = LeftOpen (reason_in aside)

abbrev pub fault_of : Result (Unit {0}) Reason → Result (Unit {0}) Untaken
fault_of (Ok done) = Ok done
fault_of (Err reason) = Err (Fault reason)

abbrev pub is_judge_reason : Before → Judged → Flit → Reason → Bool
is_judge_reason before (FromStart l) flit reason = is_worded_reason l (counted_by_word l flit) reason
is_judge_reason before (FromMiddle b synced) flit reason = is_begun_reason (woken before synced b) flit reason
is_judge_reason before (AtHome a) flit reason = is_untaken a flit (Fault reason)

abbrev pub is_judge_fault : Before → Judged → Flit → Untaken → Bool
is_judge_fault before told flit (Fault reason) = is_judge_reason before told flit reason
is_judge_fault before told flit (SetAside aside) = true

-- what is told
abbrev pub told_in : Judged → Watched
told_in (FromStart l) = l.line
told_in (FromMiddle b synced) = b.seen
told_in (AtHome a) = a.line

-- what the words of data have to be that come in beats, where the line is told of them at their first one
abbrev pub wanted_in : Judged → Flit → Wanted
wanted_in (FromStart l) flit = wanted l flit
wanted_in told flit = Nothing

-- the home has these words
abbrev pub worded : List ℕ → Judged → Judged
worded words (FromStart l) = FromStart (homed words l)
worded words told = told

-- and those of data of a copy besides, which loads and stores told; and a store, where all are listed
abbrev pub told_words : Judged → Flit → Words
told_words (FromStart l) flit = wanted_words l flit
told_words told flit = no_words

abbrev pub keeps_store : Judged → Flit → Bool
keeps_store (FromStart l) flit = is_listed_store l flit
keeps_store told flit = false

-- a request of the agent came that isn't told yet
abbrev pub holds : Judged → ℕ → Bool
holds (AtHome a) n = not (holds_none (a.own n).held)
holds told n = false
