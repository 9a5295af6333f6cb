-- What a monitor of a node keeps while it sees one flit after the other (docs/TRACES.md, "A monitor").
use Rattle.std.specs.Prelude.{◌≡◌, ◌&&◌, ◌+◌, ℕ, Bool, true, false, not, List, [], ◌∷◌, ◌++◌, Option, Some, None, Result, Ok, Err, length, nat_lt, replicate, slice_get, slice_set, if◌then◌else◌}
use Rattle.std.specs.List.{slice_index_or}
use Rattle.chi_flit.specs.declared.message.DatUp.TheVariants.{CopyBackWrData}
use Rattle.chi_flit.specs.declared.message.Msg.{Msg}
use Rattle.chi_flit.specs.declared.message.Msg.TheVariants as messages
use Rattle.chi_flit.specs.declared.message.RspDown.TheVariants.{RetryAck, CompUC, CompI, CompDBIDResp}
use Rattle.chi_flit.specs.declared.message.RspUp.TheVariants.{CompAck}
use Rattle.chi_slice.specs.Words.{Sizes}
use Rattle.chi_explain.specs.declared.explanations.WitnessItem.{WitnessItem}
use Rattle.chi_explain.specs.declared.observed.Observed.{Observed}
use Rattle.chi_explain.specs.declared.observed.Observed.TheVariants.{Flit}
use Rattle.chi_explain.specs.declared.observed.StoreListing.TheVariants.{Partial}
use Rattle.chi_explain.specs.declared.sent.SentFlit.{SentFlit}
use Rattle.chi_explain.specs.Explained.{IsExplained}
use Rattle.chi_monitor.specs.declared.monitor.FirstFault.{FirstFault}
use Rattle.chi_monitor.specs.declared.monitor.NotExplained.{NotExplained}
use Rattle.chi_monitor.specs.declared.monitor.NotExplained.TheVariants.{NotKept, Not}
use Rattle.chi_monitor.specs.declared.monitor.NotExplained.TheVariants as unexplained
use Rattle.chi_monitor.specs.declared.monitor.NotTaken.{NotTaken}
use Rattle.chi_monitor.specs.declared.monitor.NotTaken.TheVariants.{OutOfRange, Faulty, Full}
use Rattle.chi_monitor.specs.declared.open_flits.OpenFlits.{OpenFlits}

-- nothing of an agent is open at a line
abbrev pub nothing_open : OpenFlits
nothing_open = record { request = false; retried = false; snoop = false; completion = false; write_data = false }

-- which flit opens what, and which closes it
abbrev pub open_behind : OpenFlits → Msg → OpenFlits
open_behind was (messages.Req request) = record was { request = true; retried = false }
open_behind was (messages.Snp snoop) = record was { snoop = true }
open_behind was (messages.RspDown (RetryAck ty)) = record was { request = false; retried = true }
open_behind was (messages.RspDown CompUC) = record was { request = false; completion = true }
open_behind was (messages.RspDown CompI) = record was { request = false }
open_behind was (messages.RspDown CompDBIDResp) = record was { request = false; write_data = true }
open_behind was (messages.DatDown read) = record was { request = false; completion = true }
open_behind was (messages.RspUp CompAck) = record was { completion = false }
open_behind was (messages.RspUp answer) = record was { snoop = false }
open_behind was (messages.DatUp (CopyBackWrData state words)) = record was { write_data = false }
open_behind was (messages.DatUp answer) = record was { snoop = false }

-- a line: how many flits are kept of it, those that are, and what is open of each agent
pub record WatchedLine : Type 0 where
  pub room : ℕ
  pub flits : List Observed
  pub open_flits : List OpenFlits

abbrev pub unwatched_line : ℕ → WatchedLine
unwatched_line room = record { room = room; flits = []; open_flits = replicate 8 nothing_open }

-- the flits are kept, and there is no room for one more
abbrev pub has_no_room : WatchedLine → Bool
has_no_room w = nat_lt 0 w.room && not (nat_lt (length w.flits) w.room)

-- of a line with no room no flit is kept
abbrev pub kept_after : WatchedLine → SentFlit → List Observed
kept_after w flit = if nat_lt 0 w.room then w.flits ++ (Flit flit ∷ []) else w.flits

abbrev pub watched_after : WatchedLine → SentFlit → WatchedLine
watched_after w flit = record {
  room = w.room;
  flits = kept_after w flit;
  open_flits = slice_set w.open_flits flit.agent.0 (open_behind (slice_index_or w.open_flits flit.agent.0 nothing_open) flit.message);
}

-- A monitor: the node by whose runs flits are explained, its lines, how many flits were taken, and the first that wasn't
pub record MonitorState : Type 0 where
  pub config : Sizes
  pub lines : List WatchedLine
  pub taken : ℕ
  pub fault : Option FirstFault

abbrev pub opening_monitor : Sizes → ℕ → ℕ → MonitorState
opening_monitor config lines room = record { config = config; lines = replicate lines (unwatched_line room); taken = 0; fault = None }

abbrev pub watched_line : MonitorState → ℕ → WatchedLine
watched_line m l = slice_index_or m.lines l (unwatched_line 0)

-- why a flit isn't looked at: of a line, and of an agent that is in the node or isn't, behind a fault or none
abbrev pub judging_refusal : WatchedLine → Bool → Option FirstFault → Option NotTaken
judging_refusal w false fault = Some OutOfRange
judging_refusal w true (Some first) = Some (Faulty first.reason)
judging_refusal w true None = if has_no_room w then Some Full else None

abbrev pub refusal_at : Option WatchedLine → Bool → Option FirstFault → Option NotTaken
refusal_at None inside fault = Some OutOfRange
refusal_at (Some w) inside fault = judging_refusal w inside fault

abbrev pub flit_refusal : MonitorState → ℕ → ℕ → Option NotTaken
flit_refusal m n l = refusal_at (slice_get m.lines l) (nat_lt n m.config.agents) m.fault

-- the count stays where it is the greatest number
abbrev pub next_number : ℕ → ℕ
next_number n = if nat_lt n 0xffff_ffff_ffff_ffff then n + 1 else n

abbrev pub monitor_after : MonitorState → ℕ → SentFlit → MonitorState
monitor_after m l flit = record m { lines = slice_set m.lines l (watched_after (watched_line m l) flit); taken = next_number m.taken }

-- a flit that isn't refused is taken, or is the first fault, which is kept
abbrev pub IsJudged : MonitorState → ℕ → SentFlit → Result (Unit {0}) NotTaken → MonitorState → Type 0
IsJudged m l flit (Ok done) m' = m' ≡ monitor_after m l flit
IsJudged m l flit (Err (Faulty reason)) m' =
    m' ≡ record m { fault = Some (record { line = record { 0 = l }; flit = flit; number = m.taken; reason = reason }) }
IsJudged m l flit (Err other) m' = ⊥

abbrev pub IsObserved : Option NotTaken → MonitorState → ℕ → SentFlit → Result (Unit {0}) NotTaken → MonitorState → Type 0
IsObserved None m l flit answer m' = IsJudged m l flit answer m'
IsObserved (Some refusal) m l flit answer m' = (answer ≡ Err refusal) × (m' ≡ m)

-- actions that were done explain all flits that were kept of a line
abbrev pub IsLineExplained : Sizes → WatchedLine → Type 0
IsLineExplained config w = (memory : List ℕ) × (items : List WitnessItem) × IsExplained config Partial memory items w.flits

-- where flits are kept they may be explained
abbrev pub IsToldOf : Bool → Sizes → WatchedLine → Result (Unit {0}) NotExplained → Type 0
IsToldOf false config w answer = answer ≡ Err NotKept
IsToldOf true config w (Ok done) = IsLineExplained config w
IsToldOf true config w (Err (Not cause)) = Unit {0}
IsToldOf true config w (Err other) = ⊥

abbrev pub IsToldAt : Option WatchedLine → Sizes → Result (Unit {0}) NotExplained → Type 0
IsToldAt None config answer = answer ≡ Err unexplained.OutOfRange
IsToldAt (Some w) config answer = IsToldOf (nat_lt 0 w.room) config w answer

-- what is open of each agent at a line
abbrev pub open_in : Option WatchedLine → Option (List OpenFlits)
open_in None = None
open_in (Some w) = Some w.open_flits

abbrev pub open_flits_at : MonitorState → ℕ → Option (List OpenFlits)
open_flits_at m l = open_in (slice_get m.lines l)
