-- Each action keeps what a line keeps.
use Rattle.std.proofs.Common.{refl, ◌≡◌, ◌≢◌, ℕ, ◌<◌, List, true, false, Some, None, is_some, eqb, set, arith, sym, subst, ap}
use Rattle.chi_flit.specs.declared.numbers.Slot.{Slot}
use Rattle.chi_flit.specs.declared.state.State.{State}
use Rattle.chi_flit.specs.declared.state.State.TheVariants.{I}
use Rattle.chi_flit.specs.declared.kind.Kind.{Kind}
use Rattle.chi_flit.specs.declared.kind.Kind.TheVariants.{Evict}
use Rattle.chi_flit.specs.declared.message.Request.{Request}
use Rattle.chi_flit.specs.declared.message.CompData.{CompData}
use Rattle.chi_flit.specs.declared.message.RspUp.TheVariants.{CompAck}
use Rattle.chi_flit.specs.Kind.{is_needed}
use Rattle.chi_flit.specs.State.{is_dirty}
use Rattle.chi_wires.specs.Cell.{with_message}
use Rattle.chi_rnline.specs.declared.pending.Phase.TheVariants.{Sent}
use Rattle.chi_rnline.specs.Rn.{rn_after_data, request_message}
use Rattle.chi_homeline.specs.declared.serving.Serving.TheVariants.{AwaitingCompAck}
use Rattle.chi_homeline.specs.Home.{home_after_ack, home_after_admit, waiting_of}
use Rattle.chi_line.specs.LineState.{LineState, rn_of, cells_of}
use Rattle.chi_line.specs.Kept.{LaneKept, Kept, lane}
use Rattle.chi_line.specs.Step.{is_ack, is_slot, line_uses, slot_served_for, pending_slot, waiting_slot, issued_line, admitted_line, received_line, acknowledged_line}
use Rattle.chi_line.proofs.Frame.{kept_by, kept_moved, memory_by, moves_home, puts_set, puts_nothing, within}
use Rattle.chi_line.proofs.Lanes.{issue_lane, evict_lane, admit_lane, receive_lane, acknowledge_lane, acknowledge_other}
use Rattle.chi_line.proofs.Facts.{AwaitsAck, awaits_ack, acked_for_data, acked_for_ack, ack_slot_apart, write_slot_apart, uses_served, needed_allowed, evict_not_dirty}

-- Issue of a kind that leaves the copy as it is
issued_as_it_is : (last : List ℕ) (s : LineState) (n : ℕ) (kind : Kind) (slot : Slot) → n < 8
    → (rn_of s n).pending ≡ None → kind ≢ Evict → is_needed kind (rn_of s n).state ≡ true
    → is_slot (slot_served_for s.home.serving n) slot ≡ false → Kept last s
    → Kept last (record s {
      requesters = set s.requesters n (record (rn_of s n) { pending = Some (record { kind = kind; slot = slot; phase = Sent }) });
      flits = set s.flits n (with_message (cells_of s n) (request_message kind slot true));
    })
issued_as_it_is last s n kind slot low none other needed free k =
    kept_by last s n _ _ low k
    (issue_lane s.home.serving s.home.filter.unique s.home.filter.owner last n (lane s n) kind slot none
    (needed_allowed kind (rn_of s n).state other needed)
    (ack_slot_apart s.home.serving n slot free) (write_slot_apart s.home.serving n slot free) (k.lanes n low))
    (λ clean. record { copy = clean.copy; on_its_way = clean.on_its_way })

issued_evict : (last : List ℕ) (s : LineState) (n : ℕ) (slot : Slot) → n < 8
    → (rn_of s n).pending ≡ None → is_needed Evict (rn_of s n).state ≡ true
    → is_slot (slot_served_for s.home.serving n) slot ≡ false → Kept last s
    → Kept last (issued_line s n Evict slot)
issued_evict last s n slot low none needed free k =
    kept_by last s n _ _ low k
    (evict_lane s.home.serving s.home.filter.unique s.home.filter.owner last n (lane s n) slot none needed
    (ack_slot_apart s.home.serving n slot free) (write_slot_apart s.home.serving n slot free) (k.lanes n low))
    (λ clean. record { copy = evict_not_dirty (rn_of s n).state needed; on_its_way = clean.on_its_way })

issued_kind : (last : List ℕ) (s : LineState) (n : ℕ) (kind : Kind) (slot : Slot) → n < 8
    → (rn_of s n).pending ≡ None → is_needed kind (rn_of s n).state ≡ true
    → is_slot (slot_served_for s.home.serving n) slot ≡ false → Kept last s
    → Kept last (issued_line s n kind slot)
issued_kind last s n Evict slot low none needed free k = issued_evict last s n slot low none needed free k
issued_kind last s n other slot low none needed free k = issued_as_it_is last s n other slot low none (λ (e : other ≡ Evict). cc) needed free k

-- Issue, of a slot that isn't in use at the line
pub kept_issued : (last : List ℕ) (s : LineState) (n : ℕ) (kind : Kind) (slot : Slot) → n < 8
    → (rn_of s n).pending ≡ None → is_needed kind (rn_of s n).state ≡ true → line_uses s n slot ≡ false
    → Kept last s → Kept last (issued_line s n kind slot)
kept_issued last s n kind slot low none needed free k =
    issued_kind last s n kind slot low none needed
    (uses_served (is_slot (pending_slot (rn_of s n).pending) slot) (is_slot (waiting_slot (waiting_of s.home n)) slot) _ free) k

-- Admit
pub kept_admitted : (last : List ℕ) (s : LineState) (n : ℕ) (request : Request) → n < 8
    → (cells_of s n).req ≡ Some request → Kept last s → Kept last (admitted_line s n request)
kept_admitted last s n request low here k =
    let moves = moves_home s n (home_after_admit s.home n (record { kind = request.kind; slot = request.slot })) _
    (record (lane s n) { waiting = Some (record { kind = request.kind; slot = request.slot }); flits = record (cells_of s n) { req = None } }) refl
    (puts_set _ s.flits n _ (within n _ low k.flits)) (puts_nothing _ s.home.filter.named n) (puts_nothing _ s.home.awaited n) (puts_set _ s.home.waiting n _ (within n _ low k.waiting)) in
    kept_moved last last s _ n _ moves k k.in_range k.owner
    (admit_lane s.home.serving s.home.filter.unique s.home.filter.owner last n (lane s n) request here (k.lanes n low))
    (λ m at apart. k.lanes m at) k.flag_means_one (memory_by last s _ n _ low moves k (λ c. c))

-- a copy that the data of a read finds is clean
not_dirty_none : (state : State) → state ≡ I → is_dirty state ≡ false
not_dirty_none state is = ap is_dirty is

-- RecvData
pub kept_received : (last : List ℕ) (s : LineState) (n : ℕ) (message : CompData) → n < 8
    → (cells_of s n).dat_down ≡ Some message → Kept last s → Kept last (received_line s n message)
kept_received last s n message low here k =
    let own : LaneKept s.home.serving s.home.filter.unique s.home.filter.owner last n (lane s n) = k.lanes n low in
    let awaits : AwaitsAck s.home.serving n = awaits_ack s.home.serving n (acked_for_data s.home.serving s.home.filter.unique s.home.filter.owner last n (lane s n) message here own) in
    kept_by last s n _ _ low k
    (subst (λ v. LaneKept v s.home.filter.unique s.home.filter.owner last n (record (lane s n) { rn = rn_after_data (rn_of s n) message; flits = record (cells_of s n) { dat_down = None; rsp_up = Some CompAck } })) (sym awaits.serving_is)
    (receive_lane awaits.agent awaits.slot s.home.filter.unique s.home.filter.owner last n (lane s n) message here
    (subst (λ v. LaneKept v s.home.filter.unique s.home.filter.owner last n (lane s n)) awaits.serving_is own)))
    (λ clean. record { copy = not_dirty_none (rn_of s n).state (own.read_finds_none (ap is_some here)); on_its_way = clean.on_its_way })

-- RecvAck
pub not_served : (agent n m : ℕ) → agent ≡ n → m ≢ n → eqb agent m ≡ false
not_served agent n m is apart = grind arith

pub kept_acknowledged : (last : List ℕ) (s : LineState) (n : ℕ) → n < 8
    → is_ack (cells_of s n).rsp_up ≡ true → Kept last s → Kept last (acknowledged_line s n)
kept_acknowledged last s n low here k =
    let unique = s.home.filter.unique in
    let owner = s.home.filter.owner in
    let awaits : AwaitsAck s.home.serving n = awaits_ack s.home.serving n (acked_for_ack s.home.serving unique owner last n (lane s n) here (k.lanes n low)) in
    let before : (m : ℕ) → m < 8 → LaneKept (AwaitingCompAck awaits.agent awaits.slot) unique owner last m (lane s m) =
    λ m at. subst (λ v. LaneKept v unique owner last m (lane s m)) awaits.serving_is (k.lanes m at) in
    let moves = moves_home s n (home_after_ack s.home) _ (record (lane s n) { flits = record (cells_of s n) { rsp_up = None } }) refl
    (puts_set _ s.flits n _ (within n _ low k.flits)) (puts_nothing _ s.home.filter.named n) (puts_nothing _ s.home.awaited n) (puts_nothing _ s.home.waiting n) in
    kept_moved last last s _ n _ moves k tt k.owner
    (acknowledge_lane awaits.agent awaits.slot unique owner last n (lane s n) here (before n low))
    (λ m at apart. acknowledge_other awaits.agent awaits.slot unique owner last m (lane s m) (not_served awaits.agent.0 n m awaits.agent_is apart) (before m at))
    k.flag_means_one (memory_by last s _ n _ low moves k (λ c. c))
