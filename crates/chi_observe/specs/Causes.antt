-- Why cache lines aren't judged (docs/OBSERVER.md, "What isn't judged").
use Rattle.std.specs.Prelude.{ℕ, ◌+◌, ◌==◌, ◌&&◌, Bool, true, false, not, List, [], ◌∷◌, ◌++◌, Option, Some, None, codes, if◌then◌else◌, position, slice_get, slice_set}
use Rattle.chi_flit.specs.declared.numbers.Agent.{Agent}
use Rattle.chi_trace.specs.OtherOpcodes.{other_opcode_text}
use Rattle.chi_observe.specs.declared.causes.Cause.{Cause}
use Rattle.chi_observe.specs.declared.causes.Cause.TheVariants.{Opcode, Nodes, LateFlit, MissingWords}
use Rattle.chi_observe.specs.declared.causes.CauseRow.{CauseRow}
use Rattle.chi_observe.specs.declared.events.Tells.{Tells}
use Rattle.chi_observe.specs.declared.events.Tells.TheVariants.{Unjudged}
use Rattle.chi_observe.specs.declared.lines.LineTold.{LineTold}
use Rattle.chi_observe.specs.declared.steps.WatchOptions.{WatchOptions}
use Rattle.chi_observe.specs.declared.watch.Aside.{Aside}
use Rattle.chi_observe.specs.Judges.{is_at_home}
use Rattle.chi_observe.specs.Lines.{had_lacking}

abbrev pub cause_text : Cause → List ℕ
cause_text (Opcode opcode) = other_opcode_text opcode
cause_text Nodes = codes "a node that is requester and home, or the 33rd requester"
cause_text LateFlit = codes "a late flit"
cause_text MissingWords = codes "words that are missing"

-- Why a flit that tells this, of this agent, sets its line aside: it isn't judged, or its requester is none; in a log at the
-- home it came late; and between the beats of data it would need words of them.
abbrev pub cause_of : WatchOptions → Tells → Option Agent → LineTold → Cause
cause_of options (Unjudged opcode) agent told = Opcode opcode
cause_of options tells None told = Nodes
cause_of options tells (Some agent) told = if is_at_home options && not (had_lacking told) then LateFlit else MissingWords

abbrev pub is_same_cause : Cause → Cause → Bool
is_same_cause (Opcode one) (Opcode other) = one.0 == other.0
is_same_cause Nodes Nodes = true
is_same_cause LateFlit LateFlit = true
is_same_cause MissingWords MissingWords = true
is_same_cause one other = false

-- a line more: in the row of its cause, or in a new one behind the others
abbrev pub is_row_of : Cause → CauseRow → Bool
is_row_of cause row = is_same_cause cause row.first.cause

abbrev pub new_row : Aside → CauseRow
new_row mark = record { lines = 1; first = mark }

abbrev pub one_more : CauseRow → CauseRow
one_more row = record row { lines = row.lines + 1 }

abbrev pub raised_by : List CauseRow → ℕ → Option CauseRow → List CauseRow
raised_by rows place None = rows
raised_by rows place (Some row) = slice_set rows place (one_more row)

abbrev pub raised : List CauseRow → ℕ → List CauseRow
raised rows place = raised_by rows place (slice_get rows place)

abbrev pub caused_at : Aside → List CauseRow → Option ℕ → List CauseRow
caused_at mark rows None = rows ++ (new_row mark ∷ [])
caused_at mark rows (Some place) = raised rows place

abbrev pub caused_by : Aside → List CauseRow → List CauseRow
caused_by mark rows = caused_at mark rows (position (is_row_of mark.cause) rows)

abbrev pub caused : Option Aside → List CauseRow → List CauseRow
caused None rows = rows
caused (Some mark) rows = caused_by mark rows
