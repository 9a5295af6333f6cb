-- The cache lines of a trace: what comes of a flit, and of the beats of its data (docs/WATCH.md, "What a line is told").
use Rattle.std.specs.Prelude.{◌≡◌, ℕ, ◌+◌, ◌==◌, Bool, List, [], ◌∷◌, ◌++◌, Option, Some, None, Result, Ok, Err, if◌then◌else◌, length, nat_eq, option_and_then, option_map, replicate, slice_set, unwrap_or}
use Rattle.std.specs.Option.{option_map_or}
use Rattle.std.specs.Map.{lookup}
use denote.Ref.{Bor}
use Rattle.std.specs.declared.alloc.AllocError.{AllocError}
use Rattle.chi_flit.specs.declared.numbers.Agent.{Agent}
use Rattle.chi_observer.specs.declared.flits.Stores.{Stores}
use Rattle.chi_issue_b.specs.declared.beat.Beat.{Beat}
use Rattle.chi_issue_b.specs.declared.ids.CacheLine.{CacheLine}
use Rattle.chi_issue_b.specs.declared.ids.NodeId.{NodeId}
use Rattle.chi_watch.specs.declared.held.HeldFlit.{HeldFlit}
use Rattle.chi_copies.specs.declared.line.Reason.TheVariants.{NotSent}
use Rattle.chi_watch.specs.declared.judge.LineReason.TheVariants.{Rule}
use Rattle.chi_watch.specs.declared.judge.Start.TheVariants.{Empty, Unknown}
use Rattle.chi_watch.specs.declared.judge.Start.{Start}
use Rattle.chi_watch.specs.declared.judge.Verdict.{Verdict}
use Rattle.chi_watch.specs.declared.judge.Verdict.TheVariants as verdicts
use Rattle.chi_watch.specs.declared.lines.Drained.{Drained}
use Rattle.chi_watch.specs.declared.lines.LineFault.{LineFault}
use Rattle.chi_watch.specs.declared.lines.LineSeen.{LineSeen}
use Rattle.chi_watch.specs.declared.lines.Tally.{Tally}
use Rattle.chi_watch.specs.declared.lines.Before.{Before}
use Rattle.chi_watch.specs.declared.lines.Lines.{Lines}
use Rattle.chi_watch.specs.declared.judge.Unjudged.{Unjudged}
use Rattle.chi_watch.specs.declared.told.Told.TheVariants as told
use Rattle.chi_watch.specs.Held.{has_room, held_in, is_whole, joined_in}
use Rattle.chi_watch.specs.declared.held.Held.{Held}
use Rattle.chi_watch.specs.declared.judge.Judge.{Judge}
use Rattle.chi_watch.specs.Judges.{Judged, crowded_by, judged, judged_after, opened, since_of, verdict}

-- A LINE: the home of its first flit, what has been told, and the flits that wait, in the order of their first beats
pub record LineState : Type 0 where
  pub home : NodeId
  pub told : Judged
  pub held : List HeldFlit

abbrev pub line_state : {A : Type 0} → LineSeen A → LineState
line_state seen = record { home = seen.home; told = judged seen.judge; held = held_in seen.held }

-- one that no flit has touched before this one
abbrev pub opened_line : Start → Stores → NodeId → ℕ → LineState
opened_line start stores home number = record { home = home; told = opened start stores number; held = [] }

-- WHAT CAME OF FLITS, and of loads and stores: how many were judged, how many weren't, and the first fault
abbrev pub nothing_done : Drained
nothing_done = record { flits = record { judged = 0; unjudged = 0 }; accesses = record { judged = 0; unjudged = 0 }; fault = None }

abbrev pub tallied : Verdict → Tally → Tally
tallied verdicts.Judged tally = record tally { judged = tally.judged + 1 }
tallied verdicts.Unjudged tally = record tally { unjudged = tally.unjudged + 1 }
tallied (verdicts.Fault reason) tally = tally

abbrev pub first_fault : Option LineFault → LineFault → Option LineFault
first_fault None fault = Some fault
first_fault (Some first) fault = Some first

abbrev pub fault_by : Verdict → ℕ → Option LineFault → Option LineFault
fault_by (verdicts.Fault reason) number first = first_fault first (record { number = number; reason = reason })
fault_by other number first = first

abbrev pub counted : Verdict → HeldFlit → Drained → Drained
counted verdict flit done =
    if flit.is_access then record done { accesses = tallied verdict done.accesses; fault = fault_by verdict flit.last done.fault }
    else record done { flits = tallied verdict done.flits; fault = fault_by verdict flit.last done.fault }

-- all that are counted
abbrev pub total : Drained → ℕ
total done = done.flits.judged + (done.flits.unjudged + (done.accesses.judged + done.accesses.unjudged))

-- what is told, and what waits, behind them
pub record Outcome : Type 0 where
  pub told : Judged
  pub held : List HeldFlit
  pub done : Drained

abbrev pub outcome_of : {A : Type 0} → Judge A → Held A → Drained → Outcome
outcome_of judge held done = record { told = judged judge; held = held_in held; done = done }

-- while the front of the queue is whole it is judged
abbrev pub drained : List ℕ → Judged → List HeldFlit → Drained → Outcome
drained strays judge [] done = record { told = judge; held = []; done = done }
drained strays judge (flit ∷ rest) done =
    if is_whole flit
    then drained strays (judged_after strays flit.number judge flit.told) rest (counted (verdict strays judge flit.told) flit done)
    else record { told = judge; held = flit ∷ rest; done = done }

-- A FLIT that is whole, or is the first beat of its data: it waits behind the others, and what can be is judged. Where as many wait as
-- may, none of them is judged, nor any behind them
abbrev pub passed : List HeldFlit → Drained → Drained
passed [] done = done
passed (flit ∷ rest) done = passed rest (counted verdicts.Unjudged flit done)

abbrev pub crowded : LineState → HeldFlit → Outcome
crowded s flit =
    record { told = crowded_by flit.number s.told; held = []; done = passed s.held (counted verdicts.Unjudged flit nothing_done) }

abbrev pub arrived : List ℕ → LineState → HeldFlit → Outcome
arrived strays s flit = if has_room s.held then drained strays s.told (s.held ++ flit ∷ []) nothing_done else crowded s flit

-- where none waits for it, nor it for words, it is judged at once
abbrev pub at_once : List ℕ → LineState → HeldFlit → Outcome
at_once strays s flit = record {
  told = judged_after strays flit.number s.told flit.told;
  held = s.held;
  done = counted (verdict strays s.told flit.told) flit nothing_done;
}

-- one of another home than the line's stands there as a fault
abbrev pub heard : NodeId → NodeId → HeldFlit → HeldFlit
heard own home flit = if own.0 == home.0 then flit else record flit { told = told.OtherHome }

abbrev pub heard_line : List ℕ → LineState → NodeId → HeldFlit → Outcome
heard_line strays s home flit = arrived strays s (heard s.home home flit)

-- A LATER BEAT: its words join the flit that awaits them, and what can be is judged
abbrev pub joined_line : List ℕ → LineState → ℕ → Beat → ℕ → Bool → Outcome
joined_line strays s id beat number is_last = drained strays s.told (joined_in id beat number is_last s.held) nothing_done

-- a line behind that
abbrev pub behind : LineState → Outcome → LineState
behind s outcome = record { home = s.home; told = outcome.told; held = outcome.held }

pub record IsDone (old new : LineState) (outcome : Outcome) (done : Drained) : Type 0 where
  pub is : done ≡ outcome.done
  pub after : new ≡ behind old outcome

-- ALL LINES, by the addresses of their first bytes, with what was before the trace
pub record LinesState : Type 0 where
  pub start : Start
  pub stores : Stores
  pub strays : List ℕ
  pub at : ℕ → Option LineState

abbrev pub lines_in : {A : Type 0} → List (ℕ × LineSeen A) → ℕ → Option LineState
lines_in entries l = option_map line_state (lookup (nat_eq l) entries)

abbrev pub lines_by : {A : Type 0} → Before → List (ℕ × LineSeen A) → LinesState
lines_by before entries = record { start = before.start; stores = before.stores; strays = before.strays; at = lines_in entries }

abbrev pub lines : {A : Type 0} → Lines A → LinesState
lines all = lines_by all.before all.table.entries

abbrev pub no_lines : Start → Stores → LinesState
no_lines start stores = record { start = start; stores = stores; strays = replicate 32 0; at = λ l. None }

abbrev pub put_line : CacheLine → LineState → LinesState → LinesState
put_line line s all = record all { at = λ l. if line.address == l then Some s else all.at l }

-- the line of a flit of this home with this number
abbrev pub state_at : LinesState → CacheLine → NodeId → ℕ → LineState
state_at all line home number = unwrap_or (all.at line.address) (opened_line all.start all.stores home number)

-- what came of it, and all lines then
pub record IsHeard (old new : LinesState) (line : CacheLine) (s : LineState) (outcome : Outcome) (done : Drained) : Type 0 where
  pub is : done ≡ outcome.done
  pub after : new ≡ put_line line (behind s outcome) old

abbrev pub IsArrived : (old new : LinesState) → CacheLine → NodeId → HeldFlit → Result Drained AllocError → Type 0
IsArrived old new line home flit (Ok done) =
    IsHeard old new line (state_at old line home flit.number) (heard_line old.strays (state_at old line home flit.number) home flit) done
IsArrived old new line home flit (Err lack) = new ≡ old

-- a beat of a line that no flit has touched joins nothing
abbrev pub IsJoinedBy : Option LineState → (old new : LinesState) → CacheLine → ℕ → Beat → ℕ → Bool → Drained → Type 0
IsJoinedBy None old new line id beat number is_last done = (done ≡ nothing_done) × (new ≡ old)
IsJoinedBy (Some s) old new line id beat number is_last done = IsHeard old new line s (joined_line old.strays s id beat number is_last) done

abbrev pub IsJoined : (old new : LinesState) → CacheLine → ℕ → Beat → ℕ → Bool → Drained → Type 0
IsJoined old new line id beat number is_last done = IsJoinedBy (old.at line.address) old new line id beat number is_last done

-- a flit of an agent that names an id from before
abbrev pub strayed : Agent → ℕ → LinesState → LinesState
strayed agent number all = record all { strays = slice_set all.strays agent.0 number }

abbrev pub strayed_by : Option Agent → ℕ → LinesState → LinesState
strayed_by None number all = all
strayed_by (Some agent) number all = strayed agent number all

-- a load or a store of a line that no flit has touched: no cache can have a copy, where the trace begins with none
abbrev pub untouched : Start → ℕ → Drained
untouched Empty number = record nothing_done { fault = Some (record { number = number; reason = Rule NotSent }) }
untouched Unknown number = record nothing_done { accesses = record { judged = 0; unjudged = 1 } }

-- what is known of a line
abbrev pub home_of : LinesState → CacheLine → Option NodeId
home_of all line = option_map (λ s. s.home) (all.at line.address)

abbrev pub unjudged_of : LinesState → CacheLine → Option Unjudged
unjudged_of all line = option_and_then (λ s. since_of s.told) (all.at line.address)

abbrev pub waiting_of : LinesState → CacheLine → ℕ
waiting_of all line = option_map_or (λ s. length s.held) (all.at line.address) 0

-- and of one by its place among all, with its address
abbrev pub entry_state : {A : Type 0} → ℕ × LineSeen A → ℕ × LineState
entry_state (address, seen) = (address, line_state seen)

abbrev pub row_state : {A : Type 0} → ℕ × Bor (LineSeen A) → ℕ × LineState
row_state (address, seen) = (address, line_state seen.now)
