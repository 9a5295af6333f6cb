-- Of the representation alone: what every line keeps through every action. Most of it speaks of one agent's
-- lane: what belongs to that agent at the line, beside what the home serves, the filter's flag and owner, and
-- the last values
-- (docs/PROTOCOL.md, "What a line keeps").
use Rattle.std.specs.Prelude.{◌≡◌, ◌≢◌, ℕ, ◌+◌, ◌<◌, List, length, Bool, true, false, ◌==◌, Option, Some, None, is_some}
use Rattle.chi_flit.specs.declared.numbers.Agent.{Agent}
use Rattle.chi_flit.specs.declared.state.State.{State}
use Rattle.chi_flit.specs.declared.state.State.TheVariants.{I, SC, UC, UD, SD}
use Rattle.chi_flit.specs.declared.kind.Kind.{Kind}
use Rattle.chi_flit.specs.declared.kind.Kind.TheVariants.{ReadNotSharedDirty, ReadShared, ReadUnique, CleanUnique, Evict, WriteBackFull}
use Rattle.chi_flit.specs.declared.kind.Kind.TheVariants.{WriteCleanFull, WriteEvictFull}
use Rattle.chi_flit.specs.declared.snoop.Snoop.{Snoop}
use Rattle.chi_flit.specs.declared.snoop.Snoop.TheVariants.{SnpShared, SnpNotSharedDirty, SnpUnique, SnpCleanInvalid}
use Rattle.chi_flit.specs.declared.message.Request.{Request}
use Rattle.chi_flit.specs.declared.message.RspDown.{RspDown}
use Rattle.chi_flit.specs.declared.message.RspDown.TheVariants.{CompUC, CompI}
use Rattle.chi_flit.specs.declared.message.CompData.{CompData}
use Rattle.chi_flit.specs.declared.message.RspUp.{RspUp}
use Rattle.chi_flit.specs.declared.message.RspUp.TheVariants.{SnpRespI, SnpRespSC, CompAck}
use Rattle.chi_flit.specs.declared.message.DatUp.{DatUp}
use Rattle.chi_flit.specs.declared.message.DatUp.TheVariants.{SnpRespDataIPD, SnpRespDataSCPD, SnpRespDataSD, CopyBackWrData}
use Rattle.chi_flit.specs.State.{is_valid, is_unique, is_dirty}
use Rattle.chi_flit.specs.Kind.{gives_up, is_copy_back, snoop_of}
use Rattle.chi_filter.specs.Filter.{is_in, is_named, owned_by}
use Rattle.chi_wires.specs.declared.cells.Cells.{Cells}
use Rattle.chi_rnline.specs.declared.pending.Pending.{Pending}
use Rattle.chi_rnline.specs.Rn.{Rn}
use Rattle.chi_homeline.specs.declared.serving.Waiting.{Waiting}
use Rattle.chi_homeline.specs.declared.serving.Serving.{Serving}
use Rattle.chi_homeline.specs.declared.serving.Serving.TheVariants.{Idle, Snooping, AwaitingCompAck, AwaitingWriteData}
use Rattle.chi_homeline.specs.Home.{acks_for, served_slot, waiting_of}
pub use Rattle.chi_homeline.specs.Home.{served_kind, writes_for}
use Rattle.chi_line.specs.LineState.{LineState, rn_of, cells_of}
use Rattle.chi_line.specs.Clean.{IsClean, passes_dirty}
use Rattle.chi_line.specs.Step.{is_ack, pending_slot}
pub use Rattle.chi_line.specs.Step.{is_dbid, is_write_data}
pub use Rattle.chi_line.specs.RefusalRows.{is_retried, is_retried_phase}

-- 1 for true: clauses count how many of several things there are
abbrev pub bit : Bool → ℕ
bit false = 0
bit true = 1

-- of a pending request
abbrev pub kind_if : Option Pending → Option Kind
kind_if None = None
kind_if (Some request) = Some request.kind

-- of kinds
abbrev pub is_read : Kind → Bool
is_read ReadNotSharedDirty = true
is_read ReadShared = true
is_read ReadUnique = true
is_read other = false

-- the states that a copy may be in while a request of the kind is pending
abbrev pub allows : Kind → State → Bool
allows kind I = true
allows CleanUnique SC = true
allows WriteBackFull SC = true
allows WriteCleanFull SC = true
allows WriteEvictFull SC = true
allows WriteEvictFull UC = true
allows WriteBackFull UD = true
allows WriteCleanFull UD = true
allows CleanUnique SD = true
allows WriteBackFull SD = true
allows WriteCleanFull SD = true
allows kind state = false

-- of what is served
abbrev pub snoops_for : Serving → ℕ → Bool
snoops_for Idle n = false
snoops_for (Snooping agent kind slot) n = agent.0 == n
snoops_for (AwaitingCompAck agent slot) n = false
snoops_for (AwaitingWriteData agent kind slot) n = false

-- the snoop whose answers are awaited
abbrev pub snoop_out : Serving → Option Snoop
snoop_out Idle = None
snoop_out (Snooping agent kind slot) = snoop_of kind
snoop_out (AwaitingCompAck agent slot) = None
snoop_out (AwaitingWriteData agent kind slot) = None

abbrev pub shares : Option Snoop → Bool
shares None = false
shares (Some SnpShared) = true
shares (Some SnpNotSharedDirty) = true
shares (Some SnpUnique) = false
shares (Some SnpCleanInvalid) = false

abbrev pub invalidates : Option Snoop → Bool
invalidates None = false
invalidates (Some SnpShared) = false
invalidates (Some SnpNotSharedDirty) = false
invalidates (Some SnpUnique) = true
invalidates (Some SnpCleanInvalid) = true

-- of cells
abbrev pub is_comp_unique : Option RspDown → Bool
is_comp_unique (Some CompUC) = true
is_comp_unique other = false

abbrev pub is_answer : Option RspUp → Bool
is_answer None = false
is_answer (Some SnpRespI) = true
is_answer (Some SnpRespSC) = true
is_answer (Some CompAck) = false

abbrev pub is_snoop_data : Option DatUp → Bool
is_snoop_data None = false
is_snoop_data (Some (CopyBackWrData form words)) = false
is_snoop_data other = true

abbrev pub is_shared_dirty_data : Option DatUp → Bool
is_shared_dirty_data (Some (SnpRespDataSD words)) = true
is_shared_dirty_data other = false

abbrev pub is_shared_dirty : State → Bool
is_shared_dirty SD = true
is_shared_dirty other = false

abbrev pub is_unique_dirty : State → Bool
is_unique_dirty UD = true
is_unique_dirty other = false

abbrev pub is_shared_dirty_write : Option DatUp → Bool
is_shared_dirty_write (Some (CopyBackWrData form words)) = is_shared_dirty form
is_shared_dirty_write other = false

-- all that belongs to one agent at a line
pub record Lane : Type 0 where
  pub rn : Rn
  pub flits : Cells
  pub named : Bool
  pub awaited : Bool
  pub waiting : Option Waiting

abbrev pub lane : LineState → ℕ → Lane
lane s n = record {
  rn = rn_of s n;
  flits = cells_of s n;
  named = is_named s.home.filter n;
  awaited = is_in s.home.awaited n;
  waiting = waiting_of s.home n;
}

-- what the lane of agent n keeps
pub record LaneKept (serving : Serving) (unique : Bool) (owner : Option Agent) (last : List ℕ) (n : ℕ) (x : Lane) : Type 0 where
  -- copies: a holder is named, has the last value, and is flagged where it is the only one
  pub holder_named : is_valid x.rn.state ≡ true → x.named ≡ true
  pub holder_last : is_valid x.rn.state ≡ true → x.rn.words ≡ last
  pub unique_flagged : is_unique x.rn.state ≡ true → unique ≡ true
  pub kind_fits : (k : Kind) → kind_if x.rn.pending ≡ Some k → allows k x.rn.state ≡ true
  -- a pending request is in one place, or retried, and what is there is that request
  pub one_place : bit (is_some x.flits.req) + bit (is_some x.waiting) + bit (snoops_for serving n)
      + bit (is_some x.flits.dat_down) + bit (is_some x.flits.rsp_down) + bit (is_retried x.rn.pending)
      ≡ bit (is_some x.rn.pending)
  pub request_kind : (q : Request) → x.flits.req ≡ Some q → kind_if x.rn.pending ≡ Some q.kind
  pub request_slot : (q : Request) → x.flits.req ≡ Some q → pending_slot x.rn.pending ≡ Some q.slot
  pub waiting_kind : (q : Waiting) → x.waiting ≡ Some q → kind_if x.rn.pending ≡ Some q.kind
  pub waiting_slot : (q : Waiting) → x.waiting ≡ Some q → pending_slot x.rn.pending ≡ Some q.slot
  pub snooped_kind : snoops_for serving n ≡ true → kind_if x.rn.pending ≡ served_kind serving
  pub snooped_slot : snoops_for serving n ≡ true → pending_slot x.rn.pending ≡ served_slot serving
  pub snooped_alone : snoops_for serving n ≡ true → x.awaited ≡ false
  pub dbid_kind : is_dbid x.flits.rsp_down ≡ true → kind_if x.rn.pending ≡ served_kind serving
  pub dbid_slot : is_dbid x.flits.rsp_down ≡ true → pending_slot x.rn.pending ≡ served_slot serving
  pub comp_kind : is_comp_unique x.flits.rsp_down ≡ true → kind_if x.rn.pending ≡ Some CleanUnique
  pub comp_slot : is_comp_unique x.flits.rsp_down ≡ true → pending_slot x.rn.pending ≡ served_slot serving
  pub evict_kind : x.flits.rsp_down ≡ Some CompI → kind_if x.rn.pending ≡ Some Evict
  pub read_kind : (k : Kind) → is_some x.flits.dat_down ≡ true → kind_if x.rn.pending ≡ Some k → is_read k ≡ true
  pub read_slot : is_some x.flits.dat_down ≡ true → pending_slot x.rn.pending ≡ served_slot serving
  pub read_finds_none : is_some x.flits.dat_down ≡ true → x.rn.state ≡ I
  -- while a CompAck or write data is awaited, one of what asks for it and itself is on its way
  pub one_ack : bit (is_some x.flits.dat_down) + bit (is_comp_unique x.flits.rsp_down) + bit (is_ack x.flits.rsp_up) ≡ bit (acks_for serving n)
  pub one_write : bit (is_dbid x.flits.rsp_down) + bit (is_write_data x.flits.dat_up) ≡ bit (writes_for serving n)
  pub ack_apart : is_ack x.flits.rsp_up ≡ true → pending_slot x.rn.pending ≢ served_slot serving
  pub write_apart : is_write_data x.flits.dat_up ≡ true → pending_slot x.rn.pending ≢ served_slot serving
  -- completions
  pub read_last : (d : CompData) → x.flits.dat_down ≡ Some d → d.words ≡ last
  pub read_flagged : (d : CompData) → x.flits.dat_down ≡ Some d → d.unique ≡ true → unique ≡ true
  pub read_named : is_some x.flits.dat_down ≡ true → x.named ≡ true
  pub comp_flagged : is_comp_unique x.flits.rsp_down ≡ true → unique ≡ true
  pub comp_named : is_comp_unique x.flits.rsp_down ≡ true → x.named ≡ true
  -- while an answer is awaited, one of snoop and answer is on its way, and fits
  pub one_answer : bit (is_some x.flits.snp) + bit (is_answer x.flits.rsp_up) + bit (is_snoop_data x.flits.dat_up) ≡ bit x.awaited
  pub snoop_fits : (k : Snoop) → x.flits.snp ≡ Some k → snoop_out serving ≡ Some k
  pub awaited_snooped : x.awaited ≡ true → is_some (snoop_out serving) ≡ true
  pub awaited_named : x.awaited ≡ true → x.named ≡ true
  pub others_awaited : invalidates (snoop_out serving) ≡ true → x.named ≡ true → snoops_for serving n ≡ false → x.awaited ≡ true
  pub shared_asks_one : shares (snoop_out serving) ≡ true → x.awaited ≡ true → owned_by owner n ≡ false → unique ≡ true
  pub answer_none : x.flits.rsp_up ≡ Some SnpRespI → x.rn.state ≡ I
  pub answer_not_unique : x.flits.rsp_up ≡ Some SnpRespSC → is_unique x.rn.state ≡ false
  pub answer_not_dirty : x.flits.rsp_up ≡ Some SnpRespSC → is_dirty x.rn.state ≡ false
  pub answer_shared : x.flits.rsp_up ≡ Some SnpRespSC → shares (snoop_out serving) ≡ true
  pub invalid_data : (words : List ℕ) → x.flits.dat_up ≡ Some (SnpRespDataIPD words) → (x.rn.state ≡ I) × (words ≡ last)
  pub clean_data : (words : List ℕ) → x.flits.dat_up ≡ Some (SnpRespDataSCPD words)
      → (is_unique x.rn.state ≡ false) × (is_dirty x.rn.state ≡ false) × (shares (snoop_out serving) ≡ true) × (words ≡ last)
  pub dirty_data : (words : List ℕ) → x.flits.dat_up ≡ Some (SnpRespDataSD words)
      → (x.rn.state ≡ SD) × (snoop_out serving ≡ Some SnpShared) × (words ≡ last)
  -- dirty data and write data
  pub dirty_named : passes_dirty x.flits.dat_up ≡ true → x.named ≡ true
  pub write_last : (form : State) (words : List ℕ) → x.flits.dat_up ≡ Some (CopyBackWrData form words)
      → is_dirty form ≡ true → is_unique_dirty x.rn.state ≡ false → words ≡ last
  pub write_not_shared_dirty : is_write_data x.flits.dat_up ≡ true → is_shared_dirty x.rn.state ≡ false
  pub write_gone : (k : Kind) → is_write_data x.flits.dat_up ≡ true → served_kind serving ≡ Some k → gives_up k ≡ true → x.rn.state ≡ I
  pub write_none : (words : List ℕ) → x.flits.dat_up ≡ Some (CopyBackWrData I words) → x.rn.state ≡ I
  -- the owner
  pub flag_no_owner : unique ≡ true → owned_by owner n ≡ false
  pub owner_holds : owned_by owner n ≡ true → is_shared_dirty x.rn.state ≡ false
      → bit (is_answer x.flits.rsp_up) + bit (is_snoop_data x.flits.dat_up) + bit (is_shared_dirty_write x.flits.dat_up) ≡ 1
  pub shared_dirty_owned : x.rn.state ≡ SD → owned_by owner n ≡ false → is_comp_unique x.flits.rsp_down ≡ false
      → is_shared_dirty_data x.flits.dat_up ≡ true

-- the agent that is served is one of the eight, and write data is awaited of a copy-back
abbrev pub IsServedRight : Serving → Type 0
IsServedRight Idle = Unit {0}
IsServedRight (Snooping agent kind slot) = agent.0 < 8
IsServedRight (AwaitingCompAck agent slot) = agent.0 < 8
IsServedRight (AwaitingWriteData agent kind slot) = (agent.0 < 8) × (is_copy_back kind ≡ true)

-- the owner is one of the eight
abbrev pub IsOwnerInRange : Option Agent → Type 0
IsOwnerInRange None = Unit {0}
IsOwnerInRange (Some agent) = agent.0 < 8

-- what a line keeps; last are the values last stored to its words
pub record Kept (last : List ℕ) (s : LineState) : Type 0 where
  pub requesters : length s.requesters ≡ 8
  pub flits : length s.flits ≡ 8
  pub named : length s.home.filter.named ≡ 8
  pub awaited : length s.home.awaited ≡ 8
  pub waiting : length s.home.waiting ≡ 8
  pub in_range : IsServedRight s.home.serving
  pub owner : IsOwnerInRange s.home.filter.owner
  pub lanes : (n : ℕ) → n < 8 → LaneKept s.home.serving s.home.filter.unique s.home.filter.owner last n (lane s n)
  pub flag_means_one : s.home.filter.unique ≡ true → (n m : ℕ) → n < 8 → m < 8
      → is_named s.home.filter n ≡ true → is_named s.home.filter m ≡ true → n ≡ m
  pub memory_last : IsClean s → s.home.memory ≡ last
