-- What RecvSnp, RecvComp, RecvDbid and RecvWrData leave of the lanes that they touch.
use Rattle.std.proofs.Common.{◌≡◌, ℕ, ◌+◌, List, Bool, true, false, Option, Some, None, arith}
use Rattle.chi_flit.specs.declared.numbers.Agent.{Agent}
use Rattle.chi_flit.specs.declared.numbers.Slot.{Slot}
use Rattle.chi_flit.specs.declared.state.State.{State}
use Rattle.chi_flit.specs.declared.state.State.TheVariants.{I, SD}
use Rattle.chi_flit.specs.declared.kind.Kind.{Kind}
use Rattle.chi_flit.specs.declared.snoop.Snoop.{Snoop}
use Rattle.chi_flit.specs.declared.snoop.Snoop.TheVariants.{SnpShared}
use Rattle.chi_flit.specs.declared.message.RspDown.TheVariants.{CompUC, CompDBIDResp}
use Rattle.chi_flit.specs.declared.message.RspUp.{RspUp}
use Rattle.chi_flit.specs.declared.message.RspUp.TheVariants.{SnpRespI, SnpRespSC, CompAck}
use Rattle.chi_flit.specs.declared.message.DatUp.{DatUp}
use Rattle.chi_flit.specs.declared.message.DatUp.TheVariants.{SnpRespDataIPD, SnpRespDataSCPD, SnpRespDataSD, CopyBackWrData}
use Rattle.chi_flit.specs.Kind.{gives_up}
use Rattle.chi_flit.specs.State.{is_unique, is_valid, is_dirty}
use Rattle.chi_homeline.specs.declared.serving.Serving.TheVariants.{Snooping, AwaitingCompAck, AwaitingWriteData}
use Rattle.chi_line.specs.Clean.{passes_dirty}
use Rattle.chi_line.specs.Kept.{Lane, LaneKept, allows, bit, is_answer, is_snoop_data, is_write_data, shares, is_shared_dirty_data, is_shared_dirty}
use Rattle.chi_line.specs.Step.{is_ack}

-- what an answer to a snoop tells: the copy's state after it, and the cells of the two channels up
pub record AnswerIs (state : State) (snoop : Snoop) (words : List ℕ) (after : State) (rsp : Option RspUp) (up : Option DatUp) : Type 0 where
  pub valid : is_valid after ≡ true → is_valid state ≡ true
  pub not_unique : is_unique after ≡ false
  pub allowed : (kind : Kind) → allows kind state ≡ true → allows kind after ≡ true
  pub stays_none : state ≡ I → after ≡ I
  pub one : bit (is_answer rsp) + bit (is_snoop_data up) ≡ 1
  pub no_ack : is_ack rsp ≡ false
  pub no_write : is_write_data up ≡ false
  pub none : rsp ≡ Some SnpRespI → after ≡ I
  pub not_dirty : rsp ≡ Some SnpRespSC → is_dirty after ≡ false
  pub shared : rsp ≡ Some SnpRespSC → shares (Some snoop) ≡ true
  pub invalid_data : (sent : List ℕ) → up ≡ Some (SnpRespDataIPD sent) → (after ≡ I) × (is_valid state ≡ true) × (sent ≡ words)
  pub clean_data : (sent : List ℕ) → up ≡ Some (SnpRespDataSCPD sent) → (is_dirty after ≡ false) × (shares (Some snoop) ≡ true) × (is_valid state ≡ true) × (sent ≡ words)
  pub dirty_data : (sent : List ℕ) → up ≡ Some (SnpRespDataSD sent) → (after ≡ SD) × (snoop ≡ SnpShared) × (is_valid state ≡ true) × (sent ≡ words)
  pub shared_dirty : after ≡ SD → is_shared_dirty_data up ≡ true
  pub stays_dirty : is_dirty after ≡ false → passes_dirty up ≡ false → is_dirty state ≡ false

-- RecvSnp
pub snoop_lane : (agent : Agent) (kind : Kind) (slot : Slot) (unique : Bool) (owner : Option Agent) (last : List ℕ) (n : ℕ) (x : Lane)
    (snoop : Snoop) (after : State) (rsp : Option RspUp) (up : Option DatUp)
    → x.flits.snp ≡ Some snoop → AnswerIs x.rn.state snoop x.rn.words after rsp up
    → LaneKept (Snooping agent kind slot) unique owner last n x
    → LaneKept (Snooping agent kind slot) unique owner last n (record x { rn = record x.rn { state = after }; flits = record x.flits { snp = None; rsp_up = rsp; dat_up = up } })
snoop_lane agent kind slot unique owner last n x snoop after rsp up here answer k = search (arith, k, answer)

-- what Comp_UC leaves of a copy
pub record CompIs (state after : State) : Type 0 where
  pub valid : is_valid after ≡ true → is_valid state ≡ true
  pub not_shared : is_shared_dirty after ≡ false
  pub stays_none : state ≡ I → after ≡ I

-- RecvComp of Comp_UC
pub comp_received_lane : (agent : Agent) (slot : Slot) (unique : Bool) (owner : Option Agent) (last : List ℕ) (n : ℕ) (x : Lane) (after : State)
    → x.flits.rsp_down ≡ Some CompUC → CompIs x.rn.state after
    → LaneKept (AwaitingCompAck agent slot) unique owner last n x
    → LaneKept (AwaitingCompAck agent slot) unique owner last n (record x { rn = record x.rn { state = after; pending = None }; flits = record x.flits { rsp_down = None; rsp_up = Some CompAck } })
comp_received_lane agent slot unique owner last n x after here comp k = search (arith, k, comp)

-- what write data of a form leaves of its sender's copy, and how it fits
pub record WriteIs (kind : Kind) (state : State) (words : List ℕ) (after form : State) (sent : List ℕ) : Type 0 where
  pub valid : is_valid after ≡ true → is_valid state ≡ true
  pub clean : is_dirty after ≡ false
  pub unique : is_unique after ≡ true → is_unique state ≡ true
  pub stays_none : state ≡ I → after ≡ I
  pub dirty : is_dirty form ≡ true → is_valid state ≡ true
  pub gone : gives_up kind ≡ true → after ≡ I
  pub none : form ≡ I → after ≡ I
  pub sent_is : is_dirty form ≡ true → sent ≡ words
  pub shared_dirty : state ≡ SD → is_shared_dirty form ≡ true

-- RecvDbid
pub dbid_received_lane : (agent : Agent) (kind : Kind) (slot : Slot) (unique : Bool) (owner : Option Agent) (last : List ℕ) (n : ℕ) (x : Lane) (after form : State) (sent : List ℕ)
    → x.flits.rsp_down ≡ Some CompDBIDResp → WriteIs kind x.rn.state x.rn.words after form sent
    → LaneKept (AwaitingWriteData agent kind slot) unique owner last n x
    → LaneKept (AwaitingWriteData agent kind slot) unique owner last n (record x { rn = record x.rn { state = after; pending = None }; flits = record x.flits { rsp_down = None; dat_up = Some (CopyBackWrData form sent) } })
dbid_received_lane agent kind slot unique owner last n x after form sent here write k = search (arith, k, write)
