-- Of the representation alone: the clauses of `LaneKept` and of `Kept`, gathered by what a test of a line looks at
-- (docs/PROTOCOL.md, "What a line keeps").
use Rattle.std.specs.Prelude.{◌≡◌, ◌≢◌, ℕ, ◌+◌, ◌<◌, ◌≤◌, List, length, Bool, ◌||◌, true, false, Option, Some, is_some}
use Rattle.chi_flit.specs.declared.numbers.Agent.{Agent}
use Rattle.chi_flit.specs.declared.numbers.Slot.{Slot}
use Rattle.chi_flit.specs.declared.state.State.{State}
use Rattle.chi_flit.specs.declared.state.State.TheVariants.{I, SD}
use Rattle.chi_flit.specs.declared.kind.Kind.{Kind}
use Rattle.chi_flit.specs.declared.kind.Kind.TheVariants.{CleanUnique, Evict}
use Rattle.chi_flit.specs.declared.snoop.Snoop.{Snoop}
use Rattle.chi_flit.specs.declared.snoop.Snoop.TheVariants.{SnpShared}
use Rattle.chi_flit.specs.declared.message.Request.{Request}
use Rattle.chi_flit.specs.declared.message.RspDown.{RspDown}
use Rattle.chi_flit.specs.declared.message.RspDown.TheVariants.{CompI}
use Rattle.chi_flit.specs.declared.message.CompData.{CompData}
use Rattle.chi_flit.specs.declared.message.RspUp.{RspUp}
use Rattle.chi_flit.specs.declared.message.RspUp.TheVariants.{SnpRespI, SnpRespSC}
use Rattle.chi_flit.specs.declared.message.DatUp.{DatUp}
use Rattle.chi_flit.specs.declared.message.DatUp.TheVariants.{SnpRespDataIPD, SnpRespDataSCPD, SnpRespDataSD, CopyBackWrData}
use Rattle.chi_flit.specs.State.{is_valid, is_unique, is_dirty}
use Rattle.chi_flit.specs.Kind.{gives_up}
use Rattle.chi_filter.specs.Filter.{IsFilter, owned_by}
use Rattle.chi_rnline.specs.declared.pending.Pending.{Pending}
use Rattle.chi_homeline.specs.declared.serving.Waiting.{Waiting}
use Rattle.chi_homeline.specs.declared.serving.Serving.{Serving}
use Rattle.chi_homeline.specs.Home.{acks_for, served_slot}
use Rattle.chi_line.specs.declared.kept.lane.AgentLane.{AgentLane}
use Rattle.chi_line.specs.LineState.{LineState, cells_of, rn_of}
use Rattle.chi_line.specs.Clean.{IsClean, IsCleanAgent, passes_dirty}
use Rattle.chi_line.specs.Step.{is_ack, is_dbid, is_slot, is_write_data, line_uses, pending_slot}
use Rattle.chi_line.specs.RefusalRows.{is_retried}
use Rattle.chi_line.specs.Kept.{IsOwnerInRange, IsServedRight, Lane, LaneKept, lane, allows, bit, invalidates, is_answer, is_comp_unique, is_read, is_shared_dirty, is_shared_dirty_data, is_shared_dirty_write}
use Rattle.chi_line.specs.Kept.{is_snoop_data, is_unique_dirty, kind_if, served_kind, shares, snoop_out, snoops_for, writes_for}

-- an agent's part of a line, as plain data
abbrev pub lane_in : AgentLane → Lane
lane_in at = record {
  rn = record { state = at.state; words = at.words; pending = at.pending };
  flits = at.flits;
  named = at.named;
  awaited = at.awaited;
  waiting = at.waiting;
}

-- a copy: its holder is named, has the last value, and is flagged where it is the only one
pub record CopyKept (unique named : Bool) (last words : List ℕ) (state : State) : Type 0 where
  pub holder_named : is_valid state ≡ true → named ≡ true
  pub holder_last : is_valid state ≡ true → words ≡ last
  pub unique_flagged : is_unique state ≡ true → unique ≡ true

-- the copy is in a state that the pending request allows
abbrev pub KindFits : Option Pending → State → Type 0
KindFits pending state = (k : Kind) → kind_if pending ≡ Some k → allows k state ≡ true

-- a pending request is in one place, or retried
abbrev pub IsInOnePlace : Bool → Lane → Type 0
IsInOnePlace snooped x =
    bit (is_some x.flits.req) + bit (is_some x.waiting) + bit snooped
    + bit (is_some x.flits.dat_down) + bit (is_some x.flits.rsp_down) + bit (is_retried x.rn.pending)
    ≡ bit (is_some x.rn.pending)

-- a pending request is of the kind, if any, and has the slot, if any
pub record IsPendingAs (pending : Option Pending) (kind : Option Kind) (slot : Option Slot) : Type 0 where
  pub kind_is : kind_if pending ≡ kind
  pub slot_is : pending_slot pending ≡ slot

-- a request that was sent, one that waits, and one that is snooped for are what is pending
abbrev pub SentKept : Option Request → Option Pending → Type 0
SentKept sent pending = (q : Request) → sent ≡ Some q → IsPendingAs pending (Some q.kind) (Some q.slot)

abbrev pub WaitingKept : Option Waiting → Option Pending → Type 0
WaitingKept waiting pending = (q : Waiting) → waiting ≡ Some q → IsPendingAs pending (Some q.kind) (Some q.slot)

pub record SnoopedKept (snooped awaited : Bool) (pending : Option Pending) (serving : Serving) : Type 0 where
  pub served : snooped ≡ true → IsPendingAs pending (served_kind serving) (served_slot serving)
  pub alone : snooped ≡ true → awaited ≡ false

-- the requests of an agent
pub record RequestsKept (serving : Serving) (n : ℕ) (x : Lane) : Type 0 where
  pub one_place : IsInOnePlace (snoops_for serving n) x
  pub sent : SentKept x.flits.req x.rn.pending
  pub waits : WaitingKept x.waiting x.rn.pending
  pub snooped : SnoopedKept (snoops_for serving n) x.awaited x.rn.pending serving

-- a response on its way to the agent belongs to what is pending
pub record ResponseKept (unique named : Bool) (serving : Serving) (response : Option RspDown) (pending : Option Pending) : Type 0 where
  pub dbid : is_dbid response ≡ true → IsPendingAs pending (served_kind serving) (served_slot serving)
  pub comp : is_comp_unique response ≡ true → IsPendingAs pending (Some CleanUnique) (served_slot serving)
  pub evict : response ≡ Some CompI → kind_if pending ≡ Some Evict
  pub flagged : is_comp_unique response ≡ true → unique ≡ true
  pub holder_named : is_comp_unique response ≡ true → named ≡ true

-- data on its way to the agent belongs to a read that is pending, and is what was last stored
abbrev pub Reads : Option Pending → Type 0
Reads pending = (k : Kind) → kind_if pending ≡ Some k → is_read k ≡ true

pub record ReadDataKept (unique : Bool) (last : List ℕ) (sent : CompData) : Type 0 where
  pub data_last : sent.words ≡ last
  pub flagged : sent.unique ≡ true → unique ≡ true

pub record ReadFits (unique : Bool) (slot : Option Slot) (last : List ℕ) (x : Lane) (sent : CompData) : Type 0 where
  pub kind : Reads x.rn.pending
  pub slot_is : pending_slot x.rn.pending ≡ slot
  pub finds_none : x.rn.state ≡ I
  pub holder_named : x.named ≡ true
  pub read_data : ReadDataKept unique last sent

abbrev pub ReadKept : Bool → Option Slot → List ℕ → Lane → Type 0
ReadKept unique slot last x = (d : CompData) → x.flits.dat_down ≡ Some d → ReadFits unique slot last x d

-- one of three is there where it is wanted, and of two
abbrev pub IsOneOfThree : Bool → Bool → Bool → Bool → Type 0
IsOneOfThree a b c wanted = bit a + bit b + bit c ≡ bit wanted

abbrev pub IsOneOfTwo : Bool → Bool → Bool → Type 0
IsOneOfTwo a b wanted = bit a + bit b ≡ bit wanted

-- a slot isn't that of what is pending, where something is there
abbrev pub IsApart : Bool → Option Pending → Option Slot → Type 0
IsApart there pending slot = there ≡ true → pending_slot pending ≢ slot

-- while a CompAck or write data is awaited, one of what asks for it and itself is on its way
pub record AwaitedKept (serving : Serving) (n : ℕ) (x : Lane) : Type 0 where
  pub one_ack : IsOneOfThree (is_some x.flits.dat_down) (is_comp_unique x.flits.rsp_down) (is_ack x.flits.rsp_up) (acks_for serving n)
  pub one_write : IsOneOfTwo (is_dbid x.flits.rsp_down) (is_write_data x.flits.dat_up) (writes_for serving n)
  pub ack_apart : IsApart (is_ack x.flits.rsp_up) x.rn.pending (served_slot serving)
  pub write_apart : IsApart (is_write_data x.flits.dat_up) x.rn.pending (served_slot serving)

-- the completions of an agent's requests
pub record CompletionsKept (serving : Serving) (unique : Bool) (last : List ℕ) (n : ℕ) (x : Lane) : Type 0 where
  pub response : ResponseKept unique x.named serving x.flits.rsp_down x.rn.pending
  pub read : ReadKept unique (served_slot serving) last x
  pub wanted : AwaitedKept serving n x

-- who is asked, while a snoop is out
pub record AskedKept (out : Option Snoop) (snooped named awaited owned unique : Bool) : Type 0 where
  pub awaited_snooped : awaited ≡ true → is_some out ≡ true
  pub awaited_named : awaited ≡ true → named ≡ true
  pub others_awaited : invalidates out ≡ true → named ≡ true → snooped ≡ false → awaited ≡ true
  pub shared_asks_one : shares out ≡ true → awaited ≡ true → owned ≡ false → unique ≡ true

-- a snoop on its way is the one that is out
abbrev pub SnoopFits : Option Snoop → Option Snoop → Type 0
SnoopFits snoop out = (k : Snoop) → snoop ≡ Some k → out ≡ Some k

-- an answer without data fits the copy that is left
pub record AnswerKept (out : Option Snoop) (answer : Option RspUp) (state : State) : Type 0 where
  pub none : answer ≡ Some SnpRespI → state ≡ I
  pub not_unique : answer ≡ Some SnpRespSC → is_unique state ≡ false
  pub not_dirty : answer ≡ Some SnpRespSC → is_dirty state ≡ false
  pub shared : answer ≡ Some SnpRespSC → shares out ≡ true

-- an answer with data fits the copy that is left, and is what was last stored
pub record InvalidKept (last words : List ℕ) (state : State) : Type 0 where
  pub none : state ≡ I
  pub data_last : words ≡ last

pub record CleanKept (out : Option Snoop) (last words : List ℕ) (state : State) : Type 0 where
  pub not_unique : is_unique state ≡ false
  pub not_dirty : is_dirty state ≡ false
  pub shared : shares out ≡ true
  pub data_last : words ≡ last

pub record DirtyKept (out : Option Snoop) (last words : List ℕ) (state : State) : Type 0 where
  pub shared_dirty : state ≡ SD
  pub snoop : out ≡ Some SnpShared
  pub data_last : words ≡ last

pub record DataKept (out : Option Snoop) (last : List ℕ) (sent : Option DatUp) (state : State) : Type 0 where
  pub invalid : (words : List ℕ) → sent ≡ Some (SnpRespDataIPD words) → InvalidKept last words state
  pub clean : (words : List ℕ) → sent ≡ Some (SnpRespDataSCPD words) → CleanKept out last words state
  pub dirty : (words : List ℕ) → sent ≡ Some (SnpRespDataSD words) → DirtyKept out last words state

-- the snoop of an agent, and its answer
pub record AnswersKept (serving : Serving) (unique : Bool) (owner : Option Agent) (last : List ℕ) (n : ℕ) (x : Lane) : Type 0 where
  pub one_answer : IsOneOfThree (is_some x.flits.snp) (is_answer x.flits.rsp_up) (is_snoop_data x.flits.dat_up) x.awaited
  pub asked : AskedKept (snoop_out serving) (snoops_for serving n) x.named x.awaited (owned_by owner n) unique
  pub snoop : SnoopFits x.flits.snp (snoop_out serving)
  pub answer : AnswerKept (snoop_out serving) x.flits.rsp_up x.rn.state
  pub answer_data : DataKept (snoop_out serving) last x.flits.dat_up x.rn.state

-- write data fits the copy that its sender keeps
abbrev pub IsGone : Option Kind → State → Type 0
IsGone kind state = (k : Kind) → kind ≡ Some k → gives_up k ≡ true → state ≡ I

pub record WriteKept (last words : List ℕ) (kind : Option Kind) (form state : State) : Type 0 where
  pub data_last : is_dirty form ≡ true → is_unique_dirty state ≡ false → words ≡ last
  pub not_shared_dirty : is_shared_dirty state ≡ false
  pub gone : IsGone kind state
  pub none : form ≡ I → state ≡ I

-- dirty data and write data
pub record WritesKept (kind : Option Kind) (last : List ℕ) (named : Bool) (sent : Option DatUp) (state : State) : Type 0 where
  pub dirty_named : passes_dirty sent ≡ true → named ≡ true
  pub write : (form : State) (words : List ℕ) → sent ≡ Some (CopyBackWrData form words) → WriteKept last words kind form state

-- the owner
pub record OwnerKept (owned unique : Bool) (x : Lane) : Type 0 where
  pub flag_no_owner : unique ≡ true → owned ≡ false
  pub owner_holds : owned ≡ true → is_shared_dirty x.rn.state ≡ false
      → IsOneOfThree (is_answer x.flits.rsp_up) (is_snoop_data x.flits.dat_up) (is_shared_dirty_write x.flits.dat_up) true
  pub shared_dirty_owned : x.rn.state ≡ SD → owned ≡ false → is_comp_unique x.flits.rsp_down ≡ false
      → is_shared_dirty_data x.flits.dat_up ≡ true

-- all of these
pub record LaneChecked (serving : Serving) (unique : Bool) (owner : Option Agent) (last : List ℕ) (n : ℕ) (x : Lane) : Type 0 where
  pub copy : CopyKept unique x.named last x.rn.words x.rn.state
  pub kind : KindFits x.rn.pending x.rn.state
  pub requests : RequestsKept serving n x
  pub completions : CompletionsKept serving unique last n x
  pub answers : AnswersKept serving unique owner last n x
  pub writes : WritesKept (served_kind serving) last x.named x.flits.dat_up x.rn.state
  pub owned : OwnerKept (owned_by owner n) unique x

-- the lane of an agent of a line is kept, and those of all agents are
abbrev pub IsLaneKept : List ℕ → LineState → ℕ → Type 0
IsLaneKept last s n = LaneKept s.home.serving s.home.filter.unique s.home.filter.owner last n (lane s n)

abbrev pub AreLanesKept : List ℕ → LineState → Type 0
AreLanesKept last s = (n : ℕ) → n < 8 → IsLaneKept last s n

-- an agent's copy is clean, and it passes no dirty data on
abbrev pub IsCleanAt : LineState → ℕ → Type 0
IsCleanAt s n = IsCleanAgent (rn_of s n).state (cells_of s n).dat_up

-- what is tested of a line, and what each value of its type keeps: both are `Kept`
pub record PartsKept (last : List ℕ) (s : LineState) : Type 0 where
  pub in_range : IsServedRight s.home.serving
  pub owner : IsOwnerInRange s.home.filter.owner
  pub lanes : AreLanesKept last s
  pub memory_last : IsClean s → s.home.memory ≡ last

pub record IsShaped (s : LineState) : Type 0 where
  pub requesters : length s.requesters ≡ 8
  pub flits : length s.flits ≡ 8
  pub marks : length s.home.filter.named ≡ 8
  pub awaited : length s.home.awaited ≡ 8
  pub waiting : length s.home.waiting ≡ 8
  pub filter : IsFilter s.home.filter

-- a slot, if there is one, is none of a number above 7; so is each that an agent has in use at a line
abbrev pub IsNoHighSlot : Option Slot → Type 0
IsNoHighSlot found = (slot : Slot) → 8 ≤ slot.0 → is_slot found slot ≡ false

abbrev pub AreNoHighSlots : Option Slot → Option Slot → Option Slot → Type 0
AreNoHighSlots pending waiting served = (slot : Slot) → 8 ≤ slot.0 → is_slot pending slot || (is_slot waiting slot || is_slot served slot) ≡ false

abbrev pub HasLowSlotsOf : LineState → ℕ → Type 0
HasLowSlotsOf s n = (slot : Slot) → 8 ≤ slot.0 → line_uses s n slot ≡ false

abbrev pub HasLowSlots : LineState → Type 0
HasLowSlots s = (n : ℕ) → n < 8 → HasLowSlotsOf s n
