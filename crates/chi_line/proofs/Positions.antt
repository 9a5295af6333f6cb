-- What a line shows of an agent's requests: which slots it shows, and what an action leaves of that.
use Rattle.std.proofs.Common.{◌≡◌, ℕ, ◌<◌, List, Bool, true, false, ◌||◌, ◌==◌, Option, Some, None, is_some, refl, sym, ◌∙◌, ap, if◌then◌else◌, arith}
use Rattle.std.proofs.lemmas.Bool.{or_parts}
use Rattle.chi_flit.specs.declared.numbers.Agent.{Agent}
use Rattle.chi_flit.specs.declared.numbers.Slot.{Slot}
use Rattle.chi_flit.specs.declared.message.Request.{Request}
use Rattle.chi_rnline.specs.declared.pending.Pending.{Pending}
use Rattle.chi_rnline.specs.declared.pending.Phase.{Phase}
use Rattle.chi_rnline.specs.declared.pending.Phase.TheVariants.{Sent, Retried}
use Rattle.chi_homeline.specs.declared.serving.Waiting.{Waiting}
use Rattle.chi_homeline.specs.declared.serving.Serving.{Serving}
use Rattle.chi_homeline.specs.declared.serving.Serving.TheVariants.{Snooping, AwaitingCompAck, AwaitingWriteData}
use Rattle.chi_homeline.specs.Home.{acks_for, served_slot, waiting_of}
use Rattle.chi_line.specs.declared.position.Position.{Position}
use Rattle.chi_line.specs.declared.position.Position.TheVariants.{Answered}
use Rattle.chi_line.specs.declared.position.Position.TheVariants as places
use Rattle.chi_line.specs.LineState.{LineState, rn_of, cells_of}
use Rattle.chi_line.specs.Kept.{Kept, Lane, LaneKept, is_comp_unique, lane, snoops_for, writes_for}
use Rattle.chi_line.specs.Step.{is_dbid, is_slot, line_uses, pending_slot, slot_served_for, waiting_slot}
use Rattle.chi_line.specs.Places.{is_at_home, phase_at, response_at, RequestsShown, agent_seen, sent_at, unasked_at, position_at, position_by}

-- none of the agent's requests at the line has the slot
pub record Free (s : LineState) (n : ℕ) (slot : Slot) : Type 0 where
  pub pending : is_slot (pending_slot (rn_of s n).pending) slot ≡ false
  pub waiting : is_slot (waiting_slot (waiting_of s.home n)) slot ≡ false
  pub served : is_slot (slot_served_for s.home.serving n) slot ≡ false

pub is_free : (s : LineState) (n : ℕ) (slot : Slot) → line_uses s n slot ≡ false → Free s n slot
is_free s n slot unused =
    let parts = or_parts (is_slot (pending_slot (rn_of s n).pending) slot) _ unused in
    let rest = or_parts (is_slot (waiting_slot (waiting_of s.home n)) slot) _ parts.1 in
    record { pending = parts.0; waiting = rest.0; served = rest.1 }

-- the slot of the request that is served is its agent's
pub snooped_for : (serving : Serving) (n : ℕ) → snoops_for serving n ≡ true → slot_served_for serving n ≡ served_slot serving
snooped_for (Snooping agent kind slot) n here = rw here refl
snooped_for serving n here = absurd (cc (here))

pub acked_for : (serving : Serving) (n : ℕ) → acks_for serving n ≡ true → slot_served_for serving n ≡ served_slot serving
acked_for (AwaitingCompAck agent slot) n here = rw here refl
acked_for serving n here = absurd (cc (here))

pub written_for : (serving : Serving) (n : ℕ) → writes_for serving n ≡ true → slot_served_for serving n ≡ served_slot serving
written_for (AwaitingWriteData agent kind slot) n here = rw here refl
written_for serving n here = absurd (cc (here))

-- A request that is sent is somewhere: where it isn't in flight, and no response refuses or ends it, it waits or is
-- served.
lane_sent : (serving : Serving) (unique : Bool) (owner : Option Agent) (last : List ℕ) (n : ℕ) (x : Lane) (request : Pending)
    → x.rn.pending ≡ Some request → request.phase ≡ Sent → x.flits.req ≡ None → is_some x.waiting ≡ false → response_at x.flits.rsp_down ≡ None
    → LaneKept serving unique owner last n x → slot_served_for serving n ≡ Some request.slot
lane_sent serving unique owner last n x request pending sent none unwaiting unanswered k =
    let slot : pending_slot x.rn.pending ≡ Some request.slot = ap pending_slot pending in
    go (snoops_for serving n) (is_some x.flits.dat_down) (is_comp_unique x.flits.rsp_down) (is_dbid x.flits.rsp_down) refl refl refl refl slot
  where
    go : (a b c d : Bool) → snoops_for serving n ≡ a → is_some x.flits.dat_down ≡ b → is_comp_unique x.flits.rsp_down ≡ c → is_dbid x.flits.rsp_down ≡ d
        → pending_slot x.rn.pending ≡ Some request.slot → slot_served_for serving n ≡ Some request.slot
    go true b c d ha hb hc hd slot = snooped_for serving n ha ∙ (sym (k.snooped_slot ha) ∙ slot)
    go false true c d ha hb hc hd slot = acked_for serving n (search (arith, hb, k.one_ack)) ∙ (sym (k.read_slot hb) ∙ slot)
    go false false true d ha hb hc hd slot = acked_for serving n (search (arith, hc, k.one_ack)) ∙ (sym (k.comp_slot hc) ∙ slot)
    go false false false true ha hb hc hd slot = written_for serving n (search (arith, hd, k.one_write)) ∙ (sym (k.dbid_slot hd) ∙ slot)
    go false false false false ha hb hc hd slot = absurd (search (arith, k.one_place, pending, sent, none, unwaiting, unanswered, ha, hb, hc, hd))

waits_at_home : (waiting : Option Waiting) (served : Option Slot) (request : Pending) (slot : Slot) → (request.slot.0 == slot.0) ≡ true
    → ((q : Waiting) → waiting ≡ Some q → Some request.slot ≡ Some q.slot) → is_slot (waiting_slot waiting) slot || is_slot served slot ≡ false → is_some waiting ≡ false
waits_at_home None served request slot same fits away = refl
waits_at_home (Some q) served request slot same fits away =
    let here : Some request.slot ≡ Some q.slot = fits q refl in
    absurd (search (arith, here, same, away))

in_flight : (allow_retry : Bool) → (if allow_retry then Some places.Sent else Some places.Resent) ≡ None → ⊥
in_flight true none = cc (none)
in_flight false none = cc (none)

-- so it shows somewhere
sent_shows : (s : LineState) (last : List ℕ) (n : ℕ) (request : Pending) (slot : Slot) → n < 8 → Kept last s
    → (rn_of s n).pending ≡ Some request → request.phase ≡ Sent → (request.slot.0 == slot.0) ≡ true
    → sent_at (cells_of s n).req (is_at_home (agent_seen s n) slot) (cells_of s n).rsp_down ≡ None → ⊥
sent_shows s last n request slot low k pending sent same nowhere =
    go (cells_of s n).req (is_at_home (agent_seen s n) slot) refl refl nowhere
  where
    lanes : LaneKept s.home.serving s.home.filter.unique s.home.filter.owner last n (lane s n)
    lanes = k.lanes n low

    go : (q : Option Request) (b : Bool) → (cells_of s n).req ≡ q → is_at_home (agent_seen s n) slot ≡ b → sent_at q b (cells_of s n).rsp_down ≡ None → ⊥
    go (Some q) b hq hb none = in_flight q.allow_retry none
    go None true hq hb none = cc (none)
    go None false hq hb none =
        let waits : is_some (waiting_of s.home n) ≡ false = waits_at_home (waiting_of s.home n) (slot_served_for s.home.serving n) request slot same (λ q here. sym (ap pending_slot pending) ∙ lanes.waiting_slot q here) hb in
        let served : slot_served_for s.home.serving n ≡ Some request.slot = lane_sent s.home.serving s.home.filter.unique s.home.filter.owner last n (lane s n) request pending sent hq waits none lanes in
        cc ((or_parts (is_slot (waiting_slot (waiting_of s.home n)) slot) (is_slot (slot_served_for s.home.serving n) slot) hb).1, ap (λ (o : Option Slot). is_slot o slot) served, same)

unasked_none : (x : RequestsShown) (slot : Slot) → unasked_at x slot ≡ None → is_at_home x slot ≡ false
unasked_none x slot none = go (is_at_home x slot) none
  where
    go : (b : Bool) → (if b then Some Answered else None) ≡ None → b ≡ false
    go true none = absurd (cc (none))
    go false none = refl

-- a slot of which the line shows nothing isn't in use at it
pub shows_unused : (s : LineState) (last : List ℕ) (n : ℕ) (slot : Slot) → n < 8 → Kept last s → position_at s n slot ≡ None → line_uses s n slot ≡ false
shows_unused s last n slot low k none = go (rn_of s n).pending refl none
  where
    home : Bool
    home = is_at_home (agent_seen s n) slot

    at : (request : Pending) (phase : Phase) (b : Bool) → (rn_of s n).pending ≡ Some request → request.phase ≡ phase → (request.slot.0 == slot.0) ≡ b
        → (if b then phase_at phase (agent_seen s n) slot else unasked_at (agent_seen s n) slot) ≡ None → b || home ≡ false
    at request Retried true pending phase same none = absurd (cc (none))
    at request Sent true pending phase same none = absurd (sent_shows s last n request slot low k pending phase same none)
    at request phase false pending is same none = unasked_none (agent_seen s n) slot none

    go : (p : Option Pending) → (rn_of s n).pending ≡ p → position_by p (agent_seen s n) slot ≡ None → is_slot (pending_slot p) slot || home ≡ false
    go None pending none = unasked_none (agent_seen s n) slot none
    go (Some request) pending none = at request request.phase (request.slot.0 == slot.0) pending refl refl none

-- a slot that isn't in use at the line doesn't show
pub unused_shows : (s : LineState) (n : ℕ) (slot : Slot) → line_uses s n slot ≡ false → position_at s n slot ≡ None
unused_shows s n slot free = go (rn_of s n).pending free
  where
    at : (b : Bool) (phase : Phase) → b || is_at_home (agent_seen s n) slot ≡ false → (if b then phase_at phase (agent_seen s n) slot else unasked_at (agent_seen s n) slot) ≡ None
    at true phase free = absurd (cc (free))
    at false phase free = ap (λ (b : Bool). if b then Some Answered else None) free

    go : (p : Option Pending) → is_slot (pending_slot p) slot || is_at_home (agent_seen s n) slot ≡ false → position_by p (agent_seen s n) slot ≡ None
    go None free = ap (λ (b : Bool). if b then Some Answered else None) free
    go (Some request) free = at (request.slot.0 == slot.0) request.phase free

-- a line shows something of a slot exactly where the slot is in use at it
pub shows_used : (s : LineState) (n : ℕ) (slot : Slot) (at : Position) → position_at s n slot ≡ Some at → line_uses s n slot ≡ true
shows_used s n slot at shows = go (line_uses s n slot) refl
  where
    go : (b : Bool) → line_uses s n slot ≡ b → b ≡ true
    go true is = refl
    go false is = absurd (cc (shows, unused_shows s n slot is))

-- what waits is pending
pub waits_not : (waiting : Option Waiting) (pending : Option Slot) (slot : Slot) → ((q : Waiting) → waiting ≡ Some q → pending ≡ Some q.slot) → is_slot pending slot ≡ false → is_slot (waiting_slot waiting) slot ≡ false
waits_not None pending slot fits other = refl
waits_not (Some q) pending slot fits other = sym (ap (λ (o : Option Slot). is_slot o slot) (fits q refl)) ∙ other
