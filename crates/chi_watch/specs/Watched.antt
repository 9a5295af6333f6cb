-- A trace of flits, judged: its ids and credits, and each flit at its place in its cache line (docs/WATCH.md, "What a line is
-- told").
use Rattle.std.specs.Prelude.{◌≡◌, ℕ, Bool, true, false, Option, Some, None, Result, Ok, Err, replicate}
use Rattle.chi_flit.specs.declared.numbers.Agent.{Agent}
use Rattle.chi_issue_b.specs.declared.beat.Beat.{Beat}
use Rattle.chi_issue_b.specs.declared.flit.Flit.{Flit}
use Rattle.chi_issue_b.specs.declared.ids.CacheLine.{CacheLine}
use Rattle.chi_issue_b.specs.declared.ids.NodeId.{NodeId}
use Rattle.chi_issue_b.specs.declared.opcodes.Opcode.{Opcode}
use Rattle.chi_observer.specs.declared.flits.Act.{Act}
use Rattle.chi_observer.specs.declared.flits.Flit.TheVariants.{Up}
use Rattle.chi_transactions.specs.declared.entries.Named.{Named}
use Rattle.chi_transactions.specs.declared.entries.Options.{Options}
use Rattle.chi_transactions.specs.declared.entries.Portion.{Portion}
use Rattle.chi_transactions.specs.declared.entries.Portion.TheVariants.{Whole, First, Further, Last}
use Rattle.chi_transactions.specs.declared.entries.Stop.TheVariants.{Refused}
use Rattle.chi_transactions.specs.declared.entries.Taken.{Taken}
use Rattle.chi_transactions.specs.declared.entries.Taken.TheVariants.{Of, Before, Credit, Nothing}
use Rattle.chi_transactions.specs.Flits.{home_of, requester_of}
use Rattle.chi_transactions.specs.State.{state_of}
use Rattle.chi_transactions.specs.Steps.{IsTaken, nothing_kept}
use Rattle.chi_watch.specs.declared.held.HeldFlit.{HeldFlit}
use Rattle.chi_watch.specs.declared.judge.Start.{Start}
use Rattle.chi_watch.specs.declared.judge.Start.TheVariants.{Empty, Unknown}
use Rattle.chi_watch.specs.declared.lines.Drained.{Drained}
use Rattle.chi_watch.specs.declared.told.Cause.TheVariants as causes
use Rattle.chi_watch.specs.declared.told.Told.{Told}
use Rattle.chi_watch.specs.declared.told.Told.TheVariants as told
use Rattle.chi_watch.specs.declared.watch.Settings.{Settings}
use Rattle.chi_watch.specs.declared.watch.Watch.{Watch}
use Rattle.chi_watch.specs.declared.watch.Watched.{Watched}
use Rattle.chi_watch.specs.declared.watch.WatchStop.{WatchStop}
use Rattle.chi_watch.specs.declared.watch.WatchStop.TheVariants.{Ids, NoMemory}
use Rattle.chi_watch.specs.Flits.{told_of}
use Rattle.chi_watch.specs.Lines.{IsArrived, IsJoined, LineState, LinesState, lines, no_lines, nothing_done, strayed_by, untouched}
use Rattle.chi_watch.specs.Nodes.{Nodes, agent_of, known, no_nodes, nodes}

-- WHAT IS KEPT beside ids and credits: the nodes, and the lines
pub record Parts : Type 0 where
  pub nodes : Nodes
  pub lines : LinesState

abbrev pub parts : {A : Type 0} → Watch A → Parts
parts w = record { nodes = nodes w.nodes; lines = lines w.lines }

-- a trace that is judged for this, before its first flit
abbrev pub is_unknown : Start → Bool
is_unknown Empty = false
is_unknown Unknown = true

abbrev pub options_of : Settings → Options
options_of settings = record { types = settings.types; early_grants = settings.early_grants; begins_in_middle = is_unknown settings.start }

pub record IsNew {A : Type 0} (settings : Settings) (w : Watch A) : Type 0 where
  pub ids : state_of w.transactions ≡ nothing_kept (options_of settings)
  pub parts : parts w ≡ record { nodes = no_nodes; lines = no_lines settings.start settings.stores }

-- A FLIT of a line, with these words, and the id by which others are to come, if any
abbrev pub agent_in : Nodes → Flit → Option Agent
agent_in s flit = agent_of s (requester_of flit) (home_of flit)

abbrev pub known_by_flit : Flit → Nodes → Nodes
known_by_flit flit s = known (requester_of flit) (home_of flit) s

abbrev pub held_of : Nodes → Opcode → Flit → Beat → Option ℕ → ℕ → HeldFlit
held_of s of flit beat awaited number =
    record { told = told_of flit of (agent_in s flit) beat.words; is_access = false; awaits = awaited; number = number; last = number }

pub record IsComing (old new : Parts) (named : Named) (flit : Flit) (beat : Beat) (awaited : Option ℕ) (number : ℕ) (done : Drained) : Type 0 where
  pub nodes : new.nodes ≡ known_by_flit flit old.nodes
  pub lines : IsArrived old.lines new.lines named.line (home_of flit) (held_of old.nodes named.of flit beat awaited number) (Ok done)

-- a later beat
pub record IsGoingOn (old new : Parts) (named : Named) (beat : Beat) (number : ℕ) (is_last : Bool) (done : Drained) : Type 0 where
  pub nodes : new.nodes ≡ old.nodes
  pub lines : IsJoined old.lines new.lines named.line named.since beat number is_last done

-- one that names an id from before the trace, and may be of any line
pub record IsStray (old new : Parts) (flit : Flit) (number : ℕ) (done : Drained) : Type 0 where
  pub nodes : new.nodes ≡ known_by_flit flit old.nodes
  pub lines : new.lines ≡ strayed_by (agent_in old.nodes flit) number old.lines
  pub nothing : done ≡ nothing_done

-- one that is of no line
pub record IsOfNone (old new : Parts) (done : Drained) : Type 0 where
  pub kept : new ≡ old
  pub nothing : done ≡ nothing_done

-- so by what it is of
abbrev pub IsToldOf : Portion → (old new : Parts) → Named → Flit → Beat → ℕ → Drained → Type 0
IsToldOf Whole old new named flit beat number done = IsComing old new named flit beat None number done
IsToldOf First old new named flit beat number done = IsComing old new named flit beat (Some named.since) number done
IsToldOf Further old new named flit beat number done = IsGoingOn old new named beat number false done
IsToldOf Last old new named flit beat number done = IsGoingOn old new named beat number true done

abbrev pub IsTold : Taken → (old new : Parts) → Flit → Beat → ℕ → Drained → Type 0
IsTold (Of named) old new flit beat number done = IsToldOf named.beat old new named flit beat number done
IsTold (Before portion) old new flit beat number done = IsStray old new flit number done
IsTold Credit old new flit beat number done = IsOfNone old new done
IsTold Nothing old new flit beat number done = IsOfNone old new done

-- WHAT COMES OF A FLIT: ids and credits allow it, and then its line is told; or they don't, and nothing changes
pub record IsSeen {A : Type 0} (old new : Watch A) (flit : Flit) (beat : Beat) (number : ℕ) (watched : Watched) : Type 0 where
  pub ids : IsTaken (state_of old.transactions) (state_of new.transactions) flit beat.given number (Ok watched.taken)
  pub told : IsTold watched.taken (parts old) (parts new) flit beat number watched.done

abbrev pub IsWatched : {A : Type 0} → (old new : Watch A) → Flit → Beat → ℕ → Result Watched WatchStop → Type 0
IsWatched old new flit beat number (Ok watched) = IsSeen old new flit beat number watched
IsWatched old new flit beat number (Err (Ids reason)) =
    IsTaken (state_of old.transactions) (state_of new.transactions) flit beat.given number (Err (Refused reason)) × (parts new ≡ parts old)
IsWatched old new flit beat number (Err NoMemory) = Unit {0}

-- A LOAD OR A STORE of a requester's processor: it is of its line's home, and a fault at a line that no flit has touched, where no cache
-- can have a copy
abbrev pub access_by : Option Agent → Act → Told
access_by None act = told.Unjudged causes.Node
access_by (Some agent) act = told.Flit (Up (record { agent = agent; act = act; shown = replicate 8 0 }))

abbrev pub access_of : Nodes → NodeId → NodeId → Act → ℕ → HeldFlit
access_of s requester home act number = record { told = access_by (agent_of s requester home) act; is_access = true; awaits = None; number = number; last = number }

pub record IsAccess (old new : Parts) (requester home : NodeId) (line : CacheLine) (act : Act) (number : ℕ) (done : Drained) : Type 0 where
  pub nodes : new.nodes ≡ known requester home old.nodes
  pub lines : IsArrived old.lines new.lines line home (access_of old.nodes requester home act number) (Ok done)

pub record IsUntouched (old new : Parts) (number : ℕ) (done : Drained) : Type 0 where
  pub kept : new ≡ old
  pub is : done ≡ untouched old.lines.start number

abbrev pub IsAccessAt : Option LineState → (old new : Parts) → NodeId → CacheLine → Act → ℕ → Drained → Type 0
IsAccessAt None old new requester line act number done = IsUntouched old new number done
IsAccessAt (Some s) old new requester line act number done = IsAccess old new requester s.home line act number done

abbrev pub IsAccessTold : (old new : Parts) → NodeId → CacheLine → Act → ℕ → Drained → Type 0
IsAccessTold old new requester line act number done = IsAccessAt (old.lines.at line.address) old new requester line act number done
