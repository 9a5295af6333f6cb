-- What an action leaves of the lanes that it touches.
use Rattle.std.proofs.Common.{◌≡◌, ◌≢◌, ℕ, List, Bool, true, false, Option, Some, None, eqb, arith}
use Rattle.chi_flit.specs.declared.numbers.Agent.{Agent}
use Rattle.chi_flit.specs.declared.numbers.Slot.{Slot}
use Rattle.chi_flit.specs.declared.kind.Kind.{Kind}
use Rattle.chi_flit.specs.declared.kind.Kind.TheVariants.{Evict}
use Rattle.chi_flit.specs.declared.message.Request.{Request}
use Rattle.chi_flit.specs.declared.message.CompData.{CompData}
use Rattle.chi_flit.specs.declared.message.RspUp.TheVariants.{CompAck}
use Rattle.chi_flit.specs.Kind.{is_needed}
use Rattle.chi_wires.specs.Cell.{with_message}
use Rattle.chi_rnline.specs.declared.pending.Phase.TheVariants.{Sent}
use Rattle.chi_rnline.specs.Rn.{rn_after_issue, rn_after_data, request_message}
use Rattle.chi_homeline.specs.declared.serving.Serving.{Serving}
use Rattle.chi_homeline.specs.declared.serving.Serving.TheVariants.{Idle, AwaitingCompAck}
use Rattle.chi_homeline.specs.Home.{acks_for, served_slot}
use Rattle.chi_line.specs.Kept.{Lane, LaneKept, allows, writes_for}
use Rattle.chi_line.specs.Step.{is_ack}

-- Issue of a kind that leaves the copy as it is
pub issue_lane : (serving : Serving) (unique : Bool) (owner : Option Agent) (last : List ℕ) (n : ℕ) (x : Lane) (kind : Kind) (slot : Slot)
    → x.rn.pending ≡ None → allows kind x.rn.state ≡ true
    → (acks_for serving n ≡ true → Some slot ≢ served_slot serving)
    → (writes_for serving n ≡ true → Some slot ≢ served_slot serving)
    → LaneKept serving unique owner last n x
    → LaneKept serving unique owner last n (record x { rn = record x.rn { pending = Some (record { kind = kind; slot = slot; phase = Sent }) }; flits = with_message x.flits (request_message kind slot true) })
issue_lane serving unique owner last n x kind slot free allowed acks writes k = search (arith, k)

-- Issue of an Evict
pub evict_lane : (serving : Serving) (unique : Bool) (owner : Option Agent) (last : List ℕ) (n : ℕ) (x : Lane) (slot : Slot)
    → x.rn.pending ≡ None → is_needed Evict x.rn.state ≡ true
    → (acks_for serving n ≡ true → Some slot ≢ served_slot serving)
    → (writes_for serving n ≡ true → Some slot ≢ served_slot serving)
    → LaneKept serving unique owner last n x
    → LaneKept serving unique owner last n (record x { rn = rn_after_issue x.rn Evict slot; flits = with_message x.flits (request_message Evict slot true) })
evict_lane serving unique owner last n x slot free needed acks writes k = search (arith, k)

-- Admit
pub admit_lane : (serving : Serving) (unique : Bool) (owner : Option Agent) (last : List ℕ) (n : ℕ) (x : Lane) (request : Request)
    → x.flits.req ≡ Some request
    → LaneKept serving unique owner last n x
    → LaneKept serving unique owner last n (record x { waiting = Some (record { kind = request.kind; slot = request.slot }); flits = record x.flits { req = None } })
admit_lane serving unique owner last n x request here k = search (arith, k)

-- RecvData, while the line awaits CompAck
pub receive_lane : (agent : Agent) (slot : Slot) (unique : Bool) (owner : Option Agent) (last : List ℕ) (n : ℕ) (x : Lane) (message : CompData)
    → x.flits.dat_down ≡ Some message
    → LaneKept (AwaitingCompAck agent slot) unique owner last n x
    → LaneKept (AwaitingCompAck agent slot) unique owner last n (record x { rn = rn_after_data x.rn message; flits = record x.flits { dat_down = None; rsp_up = Some CompAck } })
receive_lane agent slot unique owner last n x message here k = search (arith, k)

-- RecvAck
pub acknowledge_lane : (agent : Agent) (slot : Slot) (unique : Bool) (owner : Option Agent) (last : List ℕ) (n : ℕ) (x : Lane)
    → is_ack x.flits.rsp_up ≡ true
    → LaneKept (AwaitingCompAck agent slot) unique owner last n x
    → LaneKept Idle unique owner last n (record x { flits = record x.flits { rsp_up = None } })
acknowledge_lane agent slot unique owner last n x here k = search (arith, k)

-- RecvAck, for the lanes of other agents
pub acknowledge_other : (agent : Agent) (slot : Slot) (unique : Bool) (owner : Option Agent) (last : List ℕ) (n : ℕ) (x : Lane)
    → eqb agent.0 n ≡ false
    → LaneKept (AwaitingCompAck agent slot) unique owner last n x
    → LaneKept Idle unique owner last n x
acknowledge_other agent slot unique owner last n x apart k = search (arith, k)
