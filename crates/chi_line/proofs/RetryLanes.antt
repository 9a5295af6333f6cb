-- What Store, Drop, and the actions of the retry flow leave of the lanes that they touch.
use Rattle.std.proofs.Common.{◌≡◌, ℕ, List, Bool, true, false, Option, Some, None, set, arith}
use Rattle.chi_flit.specs.declared.numbers.Agent.{Agent}
use Rattle.chi_flit.specs.declared.credit.CreditType.{CreditType}
use Rattle.chi_flit.specs.declared.message.Request.{Request}
use Rattle.chi_flit.specs.declared.message.RspDown.TheVariants.{RetryAck, CompI}
use Rattle.chi_flit.specs.State.{is_unique}
use Rattle.chi_wires.specs.Cell.{with_message}
use Rattle.chi_rnline.specs.declared.pending.Pending.{Pending}
use Rattle.chi_rnline.specs.declared.pending.Phase.TheVariants.{Retried}
use Rattle.chi_rnline.specs.Rn.{rn_after_cancel, rn_after_drop, rn_after_evict, is_clean_copy, request_message, rn_after_resend, rn_after_retry, rn_after_store}
use Rattle.chi_homeline.specs.declared.serving.Serving.{Serving}
use Rattle.chi_line.specs.Kept.{Lane, LaneKept}

-- Store
pub store_lane : (serving : Serving) (unique : Bool) (owner : Option Agent) (last : List ℕ) (n : ℕ) (x : Lane) (word value : ℕ)
    → x.rn.pending ≡ None → is_unique x.rn.state ≡ true
    → LaneKept serving unique owner last n x
    → LaneKept serving unique owner (set last word value) n (record x { rn = rn_after_store x.rn word value })
store_lane serving unique owner last n x word value free alone k = search (arith, k)

-- Store, for the lanes of other agents: none of them is named
pub store_other : (serving : Serving) (unique : Bool) (owner : Option Agent) (last last' : List ℕ) (n : ℕ) (x : Lane)
    → x.named ≡ false
    → LaneKept serving unique owner last n x → LaneKept serving unique owner last' n x
store_other serving unique owner last last' n x apart k = search (arith, k)

-- Drop
pub drop_lane : (serving : Serving) (unique : Bool) (owner : Option Agent) (last : List ℕ) (n : ℕ) (x : Lane)
    → x.rn.pending ≡ None → is_clean_copy x.rn.state ≡ true
    → LaneKept serving unique owner last n x → LaneKept serving unique owner last n (record x { rn = rn_after_drop x.rn })
drop_lane serving unique owner last n x free clean k = search (arith, k)

-- Retry
pub retry_lane : (serving : Serving) (unique : Bool) (owner : Option Agent) (last : List ℕ) (n : ℕ) (x : Lane) (request : Request) (ty : CreditType)
    → x.flits.req ≡ Some request
    → LaneKept serving unique owner last n x
    → LaneKept serving unique owner last n (record x { flits = record x.flits { req = None; rsp_down = Some (RetryAck ty) } })
retry_lane serving unique owner last n x request ty here k = search (arith, k)

-- RecvRetry
pub retry_received_lane : (serving : Serving) (unique : Bool) (owner : Option Agent) (last : List ℕ) (n : ℕ) (x : Lane) (ty : CreditType)
    → x.flits.rsp_down ≡ Some (RetryAck ty)
    → LaneKept serving unique owner last n x
    → LaneKept serving unique owner last n (record x { rn = rn_after_retry x.rn; flits = record x.flits { rsp_down = None } })
retry_received_lane serving unique owner last n x ty here k = search (arith, k)

-- Resend
pub resend_lane : (serving : Serving) (unique : Bool) (owner : Option Agent) (last : List ℕ) (n : ℕ) (x : Lane) (request : Pending)
    → x.rn.pending ≡ Some request → request.phase ≡ Retried
    → LaneKept serving unique owner last n x
    → LaneKept serving unique owner last n (record x { rn = rn_after_resend x.rn; flits = with_message x.flits (request_message request.kind request.slot false) })
resend_lane serving unique owner last n x request here retried k = search (arith, k)

-- Cancel
pub cancel_lane : (serving : Serving) (unique : Bool) (owner : Option Agent) (last : List ℕ) (n : ℕ) (x : Lane) (request : Pending)
    → x.rn.pending ≡ Some request → request.phase ≡ Retried
    → LaneKept serving unique owner last n x
    → LaneKept serving unique owner last n (record x { rn = rn_after_cancel x.rn })
cancel_lane serving unique owner last n x request here retried k = search (arith, k)

-- RecvComp of Comp_I
pub evict_received_lane : (serving : Serving) (unique : Bool) (owner : Option Agent) (last : List ℕ) (n : ℕ) (x : Lane)
    → x.flits.rsp_down ≡ Some CompI
    → LaneKept serving unique owner last n x
    → LaneKept serving unique owner last n (record x { rn = rn_after_evict x.rn; flits = record x.flits { rsp_down = None } })
evict_received_lane serving unique owner last n x here k = search (arith, k)
