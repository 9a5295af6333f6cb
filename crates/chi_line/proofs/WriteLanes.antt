-- What RecvWrData and the answers to snoops leave of lanes.
use Rattle.std.proofs.Common.{◌≡◌, ℕ, List, Bool, true, false, Option, Some, None, eqb, arith, ap}
use Rattle.chi_flit.specs.declared.numbers.Agent.{Agent}
use Rattle.chi_flit.specs.declared.numbers.Slot.{Slot}
use Rattle.chi_flit.specs.declared.state.State.{State}
use Rattle.chi_flit.specs.declared.state.State.TheVariants.{I}
use Rattle.chi_flit.specs.declared.kind.Kind.{Kind}
use Rattle.chi_flit.specs.declared.message.RspUp.{RspUp}
use Rattle.chi_flit.specs.declared.message.RspUp.TheVariants.{SnpRespI, SnpRespSC}
use Rattle.chi_flit.specs.declared.message.DatUp.{DatUp}
use Rattle.chi_flit.specs.declared.message.DatUp.TheVariants.{SnpRespDataIPD, SnpRespDataSCPD, SnpRespDataSD, CopyBackWrData}
use Rattle.chi_flit.specs.State.{is_valid, is_dirty}
use Rattle.chi_flit.specs.Kind.{snoop_of}
use Rattle.chi_filter.specs.Filter.{owned_by}
use Rattle.chi_wires.specs.Cell.{without_message}
use Rattle.chi_homeline.specs.declared.serving.SnoopAnswer.{SnoopAnswer}
use Rattle.chi_homeline.specs.declared.serving.SnoopAnswer.TheVariants as answers
use Rattle.chi_homeline.specs.declared.serving.Serving.{Serving}
use Rattle.chi_homeline.specs.declared.serving.Serving.TheVariants.{Idle, Snooping, AwaitingWriteData}
use Rattle.chi_line.specs.Clean.{IsCleanAgent, passes_dirty}
use Rattle.chi_line.specs.Kept.{Lane, LaneKept, invalidates, shares}
use Rattle.chi_line.specs.Snooped.{answer_channel}

-- RecvWrData: named and flag may end where no copy is left
pub write_lane : (agent : Agent) (kind : Kind) (slot : Slot) (unique unique' : Bool) (owner owner' : Option Agent) (last : List ℕ) (n : ℕ) (x : Lane) (form : State) (words : List ℕ) (named : Bool)
    → x.flits.dat_up ≡ Some (CopyBackWrData form words)
    → (is_valid x.rn.state ≡ true → named ≡ x.named) → (is_valid x.rn.state ≡ true → unique' ≡ unique) → owned_by owner' n ≡ false
    → LaneKept (AwaitingWriteData agent kind slot) unique owner last n x
    → LaneKept Idle unique' owner' last n (record x { named = named; flits = record x.flits { dat_up = None } })
write_lane agent kind slot unique unique' owner owner' last n x form words named here stays flag unowned k = search (arith, k)

-- RecvWrData, for the lanes of other agents
pub write_other : (agent : Agent) (kind : Kind) (slot : Slot) (unique unique' : Bool) (owner owner' : Option Agent) (last : List ℕ) (m : ℕ) (x : Lane)
    → eqb agent.0 m ≡ false → (unique ≡ true → x.named ≡ true → unique' ≡ true) → (unique' ≡ true → unique ≡ true)
    → owned_by owner' m ≡ owned_by owner m
    → LaneKept (AwaitingWriteData agent kind slot) unique owner last m x
    → LaneKept Idle unique' owner' last m x
write_other agent kind slot unique unique' owner owner' last m x apart flag back same k = search (arith, k)

-- RecvSnpResp: the flit that brings an answer to a snoop
abbrev pub Brings : Option RspUp → Option DatUp → SnoopAnswer → Type 0
Brings response sent answers.I = response ≡ Some SnpRespI
Brings response sent answers.SC = response ≡ Some SnpRespSC
Brings response sent (answers.IPD words) = sent ≡ Some (SnpRespDataIPD words)
Brings response sent (answers.SCPD words) = sent ≡ Some (SnpRespDataSCPD words)
Brings response sent (answers.SD words) = sent ≡ Some (SnpRespDataSD words)

-- whether an answer leaves its sender named, and makes it the owner
abbrev pub named_after : SnoopAnswer → Bool → Bool
named_after answers.I named = false
named_after (answers.IPD words) named = false
named_after other named = named

abbrev pub owns_after : SnoopAnswer → Bool
owns_after (answers.SD words) = true
owns_after other = false

-- whose answer is in flight is awaited, by a line that snoops
pub answer_awaited : (answer : SnoopAnswer) (serving : Serving) (unique : Bool) (owner : Option Agent) (last : List ℕ) (n : ℕ) (x : Lane)
    → Brings x.flits.rsp_up x.flits.dat_up answer → LaneKept serving unique owner last n x → x.awaited ≡ true
answer_awaited answers.I serving unique owner last n x here k = search (arith, here, k.one_answer)
answer_awaited other serving unique owner last n x here k = search (arith, here, k.one_answer)

-- after an answer the flag is clear, and its sender isn't awaited
pub answered_lane : (answer : SnoopAnswer) (agent : Agent) (kind : Kind) (slot : Slot) (unique : Bool) (owner owner' : Option Agent) (last : List ℕ) (n : ℕ) (x : Lane)
    → Brings x.flits.rsp_up x.flits.dat_up answer → owned_by owner' n ≡ owns_after answer
    → (shares (snoop_of kind) ≡ true → invalidates (snoop_of kind) ≡ false)
    → LaneKept (Snooping agent kind slot) unique owner last n x
    → LaneKept (Snooping agent kind slot) false owner' last n (record x { named = named_after answer x.named; awaited = false; flits = without_message x.flits (answer_channel answer) })
answered_lane answers.I agent kind slot unique owner owner' last n x here owns either k = search (arith, k)
answered_lane other agent kind slot unique owner owner' last n x here owns either k = search (arith, k)

-- the lanes of other agents: one that was flagged has left
pub answer_other : (agent : Agent) (kind : Kind) (slot : Slot) (unique : Bool) (owner owner' : Option Agent) (last : List ℕ) (m : ℕ) (x : Lane)
    → (unique ≡ true → x.named ≡ false) → owned_by owner' m ≡ owned_by owner m
    → LaneKept (Snooping agent kind slot) unique owner last m x
    → LaneKept (Snooping agent kind slot) false owner' last m x
answer_other agent kind slot unique owner owner' last m x flagged same k = search (arith, k)

-- beside an awaited agent of a shared read nobody else is the owner
pub flagged_unowned : (agent : Agent) (kind : Kind) (slot : Slot) (unique : Bool) (owner : Option Agent) (last : List ℕ) (n : ℕ) (x : Lane)
    → shares (snoop_of kind) ≡ true → x.awaited ≡ true → owned_by owner n ≡ false
    → LaneKept (Snooping agent kind slot) unique owner last n x → unique ≡ true
flagged_unowned agent kind slot unique owner last n x shared awaited unowned k = k.shared_asks_one shared awaited unowned

-- a lane of a read that awaits nobody, where nobody is flagged, is clean
unnamed_clean : (serving : Serving) (unique : Bool) (owner : Option Agent) (last : List ℕ) (n : ℕ) (x : Lane)
    → x.named ≡ false → LaneKept serving unique owner last n x → is_dirty x.rn.state ≡ false
unnamed_clean serving unique owner last n x unnamed k = search (arith, k.holder_named)

all_asked : (agent : Agent) (kind : Kind) (slot : Slot) (unique : Bool) (owner : Option Agent) (last : List ℕ) (n : ℕ) (x : Lane)
    → x.awaited ≡ false → eqb agent.0 n ≡ false → invalidates (snoop_of kind) ≡ true
    → LaneKept (Snooping agent kind slot) unique owner last n x → x.named ≡ false
all_asked agent kind slot unique owner last n x done apart all k = grind (arith, k.others_awaited)

unowned_clean : (agent : Agent) (kind : Kind) (slot : Slot) (owner : Option Agent) (last : List ℕ) (n : ℕ) (x : Lane)
    → x.awaited ≡ false → owned_by owner n ≡ false
    → LaneKept (Snooping agent kind slot) false owner last n x → is_dirty x.rn.state ≡ false
unowned_clean agent kind slot owner last n x done unowned k = search (arith, k.unique_flagged, k.shared_dirty_owned, k.one_ack, k.one_answer)

nothing_on_its_way : (agent : Agent) (kind : Kind) (slot : Slot) (unique : Bool) (owner : Option Agent) (last : List ℕ) (n : ℕ) (x : Lane)
    → x.awaited ≡ false → LaneKept (Snooping agent kind slot) unique owner last n x → passes_dirty x.flits.dat_up ≡ false
nothing_on_its_way agent kind slot unique owner last n x done k = search (arith, k.one_answer, k.one_write)

pub quiet_own : (agent : Agent) (kind : Kind) (slot : Slot) (unique : Bool) (owner : Option Agent) (last : List ℕ) (n : ℕ) (x : Lane)
    → x.awaited ≡ false → x.rn.state ≡ I
    → LaneKept (Snooping agent kind slot) unique owner last n x → IsCleanAgent x.rn.state x.flits.dat_up
quiet_own agent kind slot unique owner last n x done none k = record {
  copy = ap is_dirty none;
  on_its_way = nothing_on_its_way agent kind slot unique owner last n x done k;
}

pub quiet_asked : (agent : Agent) (kind : Kind) (slot : Slot) (unique : Bool) (owner : Option Agent) (last : List ℕ) (n : ℕ) (x : Lane)
    → x.awaited ≡ false → eqb agent.0 n ≡ false → invalidates (snoop_of kind) ≡ true
    → LaneKept (Snooping agent kind slot) unique owner last n x → IsCleanAgent x.rn.state x.flits.dat_up
quiet_asked agent kind slot unique owner last n x done apart all k = record {
  copy = unnamed_clean (Snooping agent kind slot) unique owner last n x (all_asked agent kind slot unique owner last n x done apart all k) k;
  on_its_way = nothing_on_its_way agent kind slot unique owner last n x done k;
}

pub quiet_shared : (agent : Agent) (kind : Kind) (slot : Slot) (owner : Option Agent) (last : List ℕ) (n : ℕ) (x : Lane)
    → x.awaited ≡ false → owned_by owner n ≡ false
    → LaneKept (Snooping agent kind slot) false owner last n x → IsCleanAgent x.rn.state x.flits.dat_up
quiet_shared agent kind slot owner last n x done unowned k = record {
  copy = unowned_clean agent kind slot owner last n x done unowned k;
  on_its_way = nothing_on_its_way agent kind slot false owner last n x done k;
}
