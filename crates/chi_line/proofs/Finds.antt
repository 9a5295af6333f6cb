-- Who is served, awaited or pending where something is in flight, and nobody on an idle line.
use Rattle.std.proofs.Common.{◌≡◌, ℕ, ◌<◌, List, Bool, true, false, Option, Some, is_some, arith}
use Rattle.chi_flit.specs.declared.numbers.Agent.{Agent}
use Rattle.chi_flit.specs.declared.message.RspDown.{RspDown}
use Rattle.chi_homeline.specs.declared.serving.Serving.{Serving}
use Rattle.chi_homeline.specs.declared.serving.Serving.TheVariants.{Idle}
use Rattle.chi_homeline.specs.Home.{acks_for, is_idle}
use Rattle.chi_line.specs.LineState.{LineState, rn_of, cells_of}
use Rattle.chi_line.specs.Kept.{Kept, Lane, LaneKept, is_write_data, lane, writes_for}
use Rattle.chi_line.specs.Step.{is_ack}
use Rattle.chi_line.proofs.Facts.{acked_for_ack}

-- Start: an idle line awaits nobody
pub idle_awaits_nobody : (unique : Bool) (owner : Option Agent) (last : List ℕ) (n : ℕ) (x : Lane)
    → LaneKept Idle unique owner last n x → x.awaited ≡ false
idle_awaits_nobody unique owner last n x k = search (arith, k)

-- an idle line, out of the test for it
pub idle_is : (serving : Serving) → is_idle serving ≡ true → serving ≡ Idle
idle_is serving idle = search arith

-- RecvAck: the line awaits this CompAck
pub acknowledge_is_awaited : (last : List ℕ) (s : LineState) (n : ℕ) → n < 8 → Kept last s
    → is_ack (cells_of s n).rsp_up ≡ true → acks_for s.home.serving n ≡ true
acknowledge_is_awaited last s n low k here = acked_for_ack s.home.serving s.home.filter.unique s.home.filter.owner last n (lane s n) here (k.lanes n low)

-- RecvRetry, RecvComp and RecvDbid: a request is pending
response_pending : (serving : Serving) (unique : Bool) (owner : Option Agent) (last : List ℕ) (n : ℕ) (x : Lane) (response : RspDown)
    → x.flits.rsp_down ≡ Some response → LaneKept serving unique owner last n x → is_some x.rn.pending ≡ true
response_pending serving unique owner last n x response here k = search (arith, k.one_place)

pub response_finds_pending : (last : List ℕ) (s : LineState) (n : ℕ) (response : RspDown) → n < 8 → Kept last s
    → (cells_of s n).rsp_down ≡ Some response → is_some (rn_of s n).pending ≡ true
response_finds_pending last s n response low k here =
    response_pending s.home.serving s.home.filter.unique s.home.filter.owner last n (lane s n) response here (k.lanes n low)

-- RecvWrData: the line awaits this write data
pub write_is_awaited : (last : List ℕ) (s : LineState) (n : ℕ) → n < 8 → Kept last s
    → is_write_data (cells_of s n).dat_up ≡ true → writes_for s.home.serving n ≡ true
write_is_awaited last s n low k here = by_write s.home.serving s.home.filter.unique s.home.filter.owner last n (lane s n) here (k.lanes n low)
  where
    by_write : (serving : Serving) (unique : Bool) (owner : Option Agent) (last : List ℕ) (n : ℕ) (x : Lane)
        → is_write_data x.flits.dat_up ≡ true → LaneKept serving unique owner last n x → writes_for serving n ≡ true
    by_write serving unique owner last n x here k = search (arith, k.one_write)
