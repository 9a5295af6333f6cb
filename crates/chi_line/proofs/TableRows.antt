-- What a line shows of a slot is the row of the table that holds of it: each row says where the slot shows, and
-- where it shows its row holds.
use Rattle.std.proofs.Common.{◌≡◌, ◌≢◌, ℕ, ◌<◌, List, Bool, true, false, ◌||◌, ◌==◌, ◌↔◌, Option, Some, None, is_some, refl, sym, ◌∙◌, ap, subst, if◌then◌else◌, arith, ◌⊎◌, inl, inr, ⊎_elim}
use Rattle.std.proofs.lemmas.Bool.{or_from, or_left, or_right}
use Rattle.chi_flit.specs.declared.numbers.Agent.{Agent}
use Rattle.chi_flit.specs.declared.numbers.Slot.{Slot}
use Rattle.chi_flit.specs.declared.message.Request.{Request}
use Rattle.chi_flit.specs.declared.message.RspDown.{RspDown}
use Rattle.chi_flit.specs.declared.message.RspDown.TheVariants.{RetryAck, CompUC, CompI, CompDBIDResp}
use Rattle.chi_rnline.specs.declared.pending.Pending.{Pending}
use Rattle.chi_rnline.specs.declared.pending.Phase.{Phase}
use Rattle.chi_rnline.specs.declared.pending.Phase.TheVariants.{Sent, Retried}
use Rattle.chi_homeline.specs.declared.serving.Waiting.{Waiting}
use Rattle.chi_homeline.specs.declared.serving.Serving.{Serving}
use Rattle.chi_homeline.specs.Home.{waiting_of}
use Rattle.chi_line.specs.declared.position.Position.{Position}
use Rattle.chi_line.specs.declared.position.Position.TheVariants as places
use Rattle.chi_line.specs.LineState.{LineState, rn_of, cells_of}
use Rattle.chi_line.specs.Kept.{Kept, Lane, LaneKept, is_comp_unique, is_retried, is_retried_phase, lane, snoops_for}
use Rattle.chi_line.specs.Step.{is_dbid, is_slot, pending_slot, slot_served_for, waiting_slot}
use Rattle.chi_line.specs.Places.{is_at_home, phase_at, response_at, RequestsShown, agent_seen, sent_at, unasked_at, position_at, position_by}
use Rattle.chi_line.specs.Table.{HasNothing, IsAt, IsAtHome, IsFound, IsInFlight, IsPending}
use Rattle.chi_line.proofs.EqualSlots.{same_slot}
use Rattle.chi_line.proofs.Positions.{Free, is_free, shows_unused}
use Rattle.chi_line.proofs.Trails.{Trail, completed_trail, not_served, requested_trail, responded_trail, waiting_trail}

-- slots by their numbers
itself : (slot : Slot) → (slot.0 == slot.0) ≡ true
itself slot = grind arith

pub is_its : (o : Option Slot) (slot : Slot) → o ≡ Some slot → is_slot o slot ≡ true
is_its o slot is = ap (λ (x : Option Slot). is_slot x slot) is ∙ itself slot

has_slot : (o : Option Slot) (slot : Slot) → is_slot o slot ≡ true → o ≡ Some slot
has_slot None slot is = absurd (cc (is))
has_slot (Some own) slot is = ap (λ (x : Slot). Some x) (same_slot own slot is)

other_slot : (own slot : Slot) → Some own ≢ Some slot → (own.0 == slot.0) ≡ false
other_slot own slot other = go (own.0 == slot.0) refl
  where
    go : (b : Bool) → (own.0 == slot.0) ≡ b → b ≡ false
    go false away = refl
    go true same = absurd (other (ap (λ (x : Slot). Some x) (same_slot own slot same)))

equal_slots : (o : Option Slot) (own slot : Slot) → o ≡ Some own → o ≡ Some slot → own ≡ slot
equal_slots o own slot one two = let same : Some own ≡ Some slot = sym one ∙ two in cc (same)

-- cells and queues
no_request : (o : Option Request) → is_some o ≡ false → o ≡ None
no_request o none = search arith

none_waits : (waiting : Option Waiting) (slot : Slot) → is_some waiting ≡ false → is_slot (waiting_slot waiting) slot ≡ false
none_waits waiting slot none = search arith

one_waits : (waiting : Option Waiting) (slot : Slot) → waiting_slot waiting ≡ Some slot → is_some waiting ≡ true
one_waits waiting slot is = search arith

unique_there : (response : Option RspDown) → is_comp_unique response ≡ true → is_some response ≡ true
unique_there response is = search arith

dbid_there : (response : Option RspDown) → is_dbid response ≡ true → is_some response ≡ true
dbid_there response is = search arith

at_home : (a b : Option Slot) (slot : Slot) → (a ≡ Some slot) ⊎ (b ≡ Some slot) → is_slot a slot || is_slot b slot ≡ true
at_home a b slot here = ⊎_elim (λ x. or_left (is_slot a slot) (is_slot b slot) (is_its a slot x)) (λ x. or_right (is_slot a slot) (is_slot b slot) (is_its b slot x)) here

home_of : (a b : Option Slot) (slot : Slot) → is_slot a slot || is_slot b slot ≡ true → (a ≡ Some slot) ⊎ (b ≡ Some slot)
home_of a b slot here = go (is_slot a slot) refl here
  where
    go : (c : Bool) → is_slot a slot ≡ c → c || is_slot b slot ≡ true → (a ≡ Some slot) ⊎ (b ≡ Some slot)
    go true is here = inl (has_slot a slot is)
    go false away here = inr (has_slot b slot here)

-- where a slot shows that is pending, by the phase, and where one shows that isn't
own_phase : (request : Pending) (x : RequestsShown) (slot : Slot) → Some request.slot ≡ Some slot → position_by (Some request) x slot ≡ phase_at request.phase x slot
own_phase request x slot is = ap (λ (b : Bool). if b then phase_at request.phase x slot else unasked_at x slot) (is_its (Some request.slot) slot is)

sent_phase : (phase : Phase) (x : RequestsShown) (slot : Slot) → is_retried_phase phase ≡ false → phase_at phase x slot ≡ sent_at x.request (is_at_home x slot) x.response
sent_phase phase x slot is = search arith

retried_phase : (phase : Phase) (x : RequestsShown) (slot : Slot) → is_retried_phase phase ≡ true → phase_at phase x slot ≡ Some places.Retried
retried_phase phase x slot is = search arith

shows_sent : (pending : Option Pending) (x : RequestsShown) (slot : Slot) → pending_slot pending ≡ Some slot → is_retried pending ≡ false → position_by pending x slot ≡ sent_at x.request (is_at_home x slot) x.response
shows_sent None x slot is sent = absurd (cc (is))
shows_sent (Some request) x slot is sent = own_phase request x slot is ∙ sent_phase request.phase x slot sent

shows_retried : (pending : Option Pending) (x : RequestsShown) (slot : Slot) → pending_slot pending ≡ Some slot → is_retried pending ≡ true → position_by pending x slot ≡ Some places.Retried
shows_retried None x slot is retried = absurd (cc (is))
shows_retried (Some request) x slot is retried = own_phase request x slot is ∙ retried_phase request.phase x slot retried

shows_unasked : (pending : Option Pending) (x : RequestsShown) (slot : Slot) → pending_slot pending ≢ Some slot → position_by pending x slot ≡ unasked_at x slot
shows_unasked None x slot other = refl
shows_unasked (Some request) x slot other = ap (λ (b : Bool). if b then phase_at request.phase x slot else unasked_at x slot) (other_slot request.slot slot other)

-- the lane of an agent of a line that keeps its clauses
abbrev LaneOf : List ℕ → LineState → ℕ → Type 0
LaneOf last s n = LaneKept s.home.serving s.home.filter.unique s.home.filter.owner last n (lane s n)

-- a pending request that a response answers isn't in flight, nor at the home
record Responded (s : LineState) (n : ℕ) (slot : Slot) : Type 0 where
  sent : is_retried (rn_of s n).pending ≡ false
  request : (cells_of s n).req ≡ None
  away : is_at_home (agent_seen s n) slot ≡ false

responded : (last : List ℕ) (s : LineState) (n : ℕ) (slot : Slot) → IsPending s n slot → is_some (cells_of s n).rsp_down ≡ true → is_comp_unique (cells_of s n).rsp_down ≡ false → is_dbid (cells_of s n).rsp_down ≡ false → LaneOf last s n → Responded s n slot
responded last s n slot own there no_unique no_dbid k =
    let trail : Trail s.home.serving n (lane s n) false false false true false = responded_trail s.home.serving s.home.filter.unique s.home.filter.owner last n (lane s n) there k in
    record {
      sent = trail.phase;
      request = no_request (cells_of s n).req trail.request;
      away = or_from (is_slot (waiting_slot (waiting_of s.home n)) slot) (is_slot (slot_served_for s.home.serving n) slot)
          (none_waits (waiting_of s.home n) slot trail.waiting)
          (not_served s.home.serving s.home.filter.unique s.home.filter.owner last n (lane s n) slot (is_its (pending_slot (rn_of s n).pending) slot own) trail.unsnooped trail.completion no_unique no_dbid k);
    }

shows_responded : (last : List ℕ) (s : LineState) (n : ℕ) (slot : Slot) (response : RspDown) → (cells_of s n).rsp_down ≡ Some response → is_comp_unique (Some response) ≡ false → is_dbid (Some response) ≡ false → IsPending s n slot → LaneOf last s n
    → position_at s n slot ≡ response_at (Some response)
shows_responded last s n slot response there no_unique no_dbid own k =
    let r : Responded s n slot = responded last s n slot own (ap (λ (o : Option RspDown). is_some o) there) (ap (λ (o : Option RspDown). is_comp_unique o) there ∙ no_unique) (ap (λ (o : Option RspDown). is_dbid o) there ∙ no_dbid) k in
    shows_sent (rn_of s n).pending (agent_seen s n) slot own r.sent
    ∙ (ap (λ (q : Option Request). sent_at q (is_at_home (agent_seen s n) slot) (cells_of s n).rsp_down) r.request
    ∙ (ap (λ (b : Bool). sent_at None b (cells_of s n).rsp_down) r.away
    ∙ ap (λ (o : Option RspDown). response_at o) there))

-- a request that is in flight is the pending one
shows_in_flight : (last : List ℕ) (s : LineState) (n : ℕ) (slot : Slot) (allow_retry : Bool) → IsInFlight allow_retry s n slot → LaneOf last s n → position_at s n slot ≡ (if allow_retry then Some places.Sent else Some places.Resent)
shows_in_flight last s n slot allow_retry there k =
    let own : IsPending s n slot = k.request_slot there.0 there.1 ∙ ap (λ (x : Slot). Some x) there.2 in
    let trail : Trail s.home.serving n (lane s n) true false false false false = requested_trail s.home.serving s.home.filter.unique s.home.filter.owner last n (lane s n) (ap (λ (o : Option Request). is_some o) there.1) k in
    shows_sent (rn_of s n).pending (agent_seen s n) slot own trail.phase
    ∙ (ap (λ (q : Option Request). sent_at q (is_at_home (agent_seen s n) slot) (cells_of s n).rsp_down) there.1
    ∙ ap (λ (b : Bool). if b then Some places.Sent else Some places.Resent) there.3)

-- a pending request that is at the home isn't in flight, nor retried
record Housed (n : ℕ) (x : Lane) : Type 0 where
  sent : is_retried x.rn.pending ≡ false
  request : is_some x.flits.req ≡ false

waits_housed : (serving : Serving) (unique : Bool) (owner : Option Agent) (last : List ℕ) (n : ℕ) (x : Lane) → is_some x.waiting ≡ true → LaneKept serving unique owner last n x → Housed n x
waits_housed serving unique owner last n x there k =
    let trail : Trail serving n x false true false false false = waiting_trail serving unique owner last n x there k in record { sent = trail.phase; request = trail.request }

snooped_housed : (serving : Serving) (unique : Bool) (owner : Option Agent) (last : List ℕ) (n : ℕ) (x : Lane) → snoops_for serving n ≡ true → LaneKept serving unique owner last n x → Housed n x
snooped_housed serving unique owner last n x here k = record { sent = search (arith, here, k.one_place); request = search (arith, here, k.one_place) }

completed_housed : (serving : Serving) (unique : Bool) (owner : Option Agent) (last : List ℕ) (n : ℕ) (x : Lane) → is_some x.flits.dat_down ≡ true → LaneKept serving unique owner last n x → Housed n x
completed_housed serving unique owner last n x there k =
    let trail : Trail serving n x false false true false false = completed_trail serving unique owner last n x there k in record { sent = trail.phase; request = trail.request }

responded_housed : (serving : Serving) (unique : Bool) (owner : Option Agent) (last : List ℕ) (n : ℕ) (x : Lane) → is_some x.flits.rsp_down ≡ true → LaneKept serving unique owner last n x → Housed n x
responded_housed serving unique owner last n x there k =
    let trail : Trail serving n x false false false true false = responded_trail serving unique owner last n x there k in record { sent = trail.phase; request = trail.request }

served_housed : (serving : Serving) (unique : Bool) (owner : Option Agent) (last : List ℕ) (n : ℕ) (x : Lane) (slot : Slot) → pending_slot x.rn.pending ≡ Some slot → slot_served_for serving n ≡ Some slot → LaneKept serving unique owner last n x → Housed n x
served_housed serving unique owner last n x slot own served k =
    go (snoops_for serving n) (is_some x.flits.dat_down) (is_comp_unique x.flits.rsp_down) (is_dbid x.flits.rsp_down) refl refl refl refl
  where
    go : (a b c d : Bool) → snoops_for serving n ≡ a → is_some x.flits.dat_down ≡ b → is_comp_unique x.flits.rsp_down ≡ c → is_dbid x.flits.rsp_down ≡ d → Housed n x
    go true b c d ha hb hc hd = snooped_housed serving unique owner last n x ha k
    go false true c d ha hb hc hd = completed_housed serving unique owner last n x hb k
    go false false true d ha hb hc hd = responded_housed serving unique owner last n x (unique_there x.flits.rsp_down hc) k
    go false false false true ha hb hc hd = responded_housed serving unique owner last n x (dbid_there x.flits.rsp_down hd) k
    go false false false false ha hb hc hd =
        let away : is_slot (slot_served_for serving n) slot ≡ false = not_served serving unique owner last n x slot (is_its (pending_slot x.rn.pending) slot own) ha hb hc hd k in
        let here : is_slot (slot_served_for serving n) slot ≡ true = is_its (slot_served_for serving n) slot served in
        absurd (cc (away, here))

housed : (last : List ℕ) (s : LineState) (n : ℕ) (slot : Slot) → IsAtHome s n slot → IsPending s n slot → LaneOf last s n → Housed n (lane s n)
housed last s n slot here own k = ⊎_elim
    (λ waits. waits_housed s.home.serving s.home.filter.unique s.home.filter.owner last n (lane s n) (one_waits (waiting_of s.home n) slot waits) k)
    (λ served. served_housed s.home.serving s.home.filter.unique s.home.filter.owner last n (lane s n) slot own served k)
    here

is_home : (s : LineState) (n : ℕ) (slot : Slot) → IsAtHome s n slot → is_at_home (agent_seen s n) slot ≡ true
is_home s n slot here = at_home (waiting_slot (waiting_of s.home n)) (slot_served_for s.home.serving n) slot here

shows_admitted : (last : List ℕ) (s : LineState) (n : ℕ) (slot : Slot) → IsAtHome s n slot → IsPending s n slot → LaneOf last s n → position_at s n slot ≡ Some places.Admitted
shows_admitted last s n slot here own k =
    let h : Housed n (lane s n) = housed last s n slot here own k in
    shows_sent (rn_of s n).pending (agent_seen s n) slot own h.sent
    ∙ (ap (λ (q : Option Request). sent_at q (is_at_home (agent_seen s n) slot) (cells_of s n).rsp_down) (no_request (cells_of s n).req h.request)
    ∙ ap (λ (b : Bool). sent_at None b (cells_of s n).rsp_down) (is_home s n slot here))

shows_answered : (s : LineState) (n : ℕ) (slot : Slot) → IsAtHome s n slot → pending_slot (rn_of s n).pending ≢ Some slot → position_at s n slot ≡ Some places.Answered
shows_answered s n slot here other =
    shows_unasked (rn_of s n).pending (agent_seen s n) slot other
    ∙ ap (λ (b : Bool). if b then Some places.Answered else None) (is_home s n slot here)

-- each row says where the slot shows
row_shows : (last : List ℕ) (s : LineState) (n : ℕ) (slot : Slot) (at : Position) → LaneOf last s n → IsAt s n slot at → position_at s n slot ≡ Some at
row_shows last s n slot places.Sent k row = shows_in_flight last s n slot true row k
row_shows last s n slot places.Refused k row = shows_responded last s n slot (RetryAck row.1.0) row.1.1 refl refl row.0 k
row_shows last s n slot places.Retried k row = shows_retried (rn_of s n).pending (agent_seen s n) slot row.0 row.1
row_shows last s n slot places.Resent k row = shows_in_flight last s n slot false row k
row_shows last s n slot places.Admitted k row = shows_admitted last s n slot row.0 row.1 k
row_shows last s n slot places.Answered k row = shows_answered s n slot row.0 row.1
row_shows last s n slot places.Closing k row = shows_responded last s n slot CompI row.2 refl refl row.0 k

-- where the slot shows its row holds
abbrev Holds : LineState → ℕ → Slot → Option Position → Type 0
Holds s n slot None = Unit {0}
Holds s n slot (Some at) = IsAt s n slot at

holds_unasked : (s : LineState) (n : ℕ) (slot : Slot) → pending_slot (rn_of s n).pending ≢ Some slot → Holds s n slot (unasked_at (agent_seen s n) slot)
holds_unasked s n slot other = go (is_at_home (agent_seen s n) slot) refl
  where
    go : (b : Bool) → is_at_home (agent_seen s n) slot ≡ b → Holds s n slot (if b then Some places.Answered else None)
    go true here = (home_of (waiting_slot (waiting_of s.home n)) (slot_served_for s.home.serving n) slot here, other)
    go false away = tt

holds_response : (last : List ℕ) (s : LineState) (n : ℕ) (slot : Slot) (response : Option RspDown) → (cells_of s n).rsp_down ≡ response → IsPending s n slot → LaneOf last s n → Holds s n slot (response_at response)
holds_response last s n slot None there own k = tt
holds_response last s n slot (Some (RetryAck ty)) there own k = (own, (ty, there))
holds_response last s n slot (Some CompUC) there own k = tt
holds_response last s n slot (Some CompI) there own k = (own, k.evict_kind there, there)
holds_response last s n slot (Some CompDBIDResp) there own k = tt

holds_sent : (last : List ℕ) (s : LineState) (n : ℕ) (slot : Slot) (request : Option Request) → (cells_of s n).req ≡ request → IsPending s n slot → LaneOf last s n
    → Holds s n slot (sent_at request (is_at_home (agent_seen s n) slot) (cells_of s n).rsp_down)
holds_sent last s n slot (Some request) there own k = go request.allow_retry refl
  where
    same : request.slot ≡ slot
    same = equal_slots (pending_slot (rn_of s n).pending) request.slot slot (k.request_slot request there) own

    go : (b : Bool) → request.allow_retry ≡ b → Holds s n slot (if b then Some places.Sent else Some places.Resent)
    go true is = (request, there, same, is)
    go false is = (request, there, same, is)
holds_sent last s n slot None there own k = go (is_at_home (agent_seen s n) slot) refl
  where
    go : (b : Bool) → is_at_home (agent_seen s n) slot ≡ b → Holds s n slot (sent_at None b (cells_of s n).rsp_down)
    go true here = (home_of (waiting_slot (waiting_of s.home n)) (slot_served_for s.home.serving n) slot here, own)
    go false away = holds_response last s n slot (cells_of s n).rsp_down refl own k

holds_phase : (last : List ℕ) (s : LineState) (n : ℕ) (slot : Slot) (phase : Phase) → is_retried (rn_of s n).pending ≡ is_retried_phase phase → IsPending s n slot → LaneOf last s n → Holds s n slot (phase_at phase (agent_seen s n) slot)
holds_phase last s n slot Sent is own k = holds_sent last s n slot (cells_of s n).req refl own k
holds_phase last s n slot Retried is own k = (own, is)

holds : (last : List ℕ) (s : LineState) (n : ℕ) (slot : Slot) → LaneOf last s n → Holds s n slot (position_at s n slot)
holds last s n slot k = go (rn_of s n).pending refl
  where
    none_own : (rn_of s n).pending ≡ None → pending_slot (rn_of s n).pending ≢ Some slot
    none_own none own = let nothing : pending_slot (rn_of s n).pending ≡ None = ap pending_slot none in cc (nothing, own)

    other_own : (request : Pending) → (rn_of s n).pending ≡ Some request → (request.slot.0 == slot.0) ≡ false → pending_slot (rn_of s n).pending ≢ Some slot
    other_own request pending away own =
        let same : (request.slot.0 == slot.0) ≡ true = is_its (Some request.slot) slot (sym (ap pending_slot pending) ∙ own) in
        cc (same, away)

    by_slot : (request : Pending) → (rn_of s n).pending ≡ Some request → (b : Bool) → (request.slot.0 == slot.0) ≡ b → Holds s n slot (if b then phase_at request.phase (agent_seen s n) slot else unasked_at (agent_seen s n) slot)
    by_slot request pending true same = holds_phase last s n slot request.phase (ap is_retried pending) (ap pending_slot pending ∙ has_slot (Some request.slot) slot same) k
    by_slot request pending false away = holds_unasked s n slot (other_own request pending away)

    go : (pending : Option Pending) → (rn_of s n).pending ≡ pending → Holds s n slot (position_by pending (agent_seen s n) slot)
    go None none = holds_unasked s n slot (none_own none)
    go (Some request) pending = by_slot request pending (request.slot.0 == slot.0) refl

-- where nothing shows there is nothing, and the other way round
shows_nothing : (s : LineState) (n : ℕ) (slot : Slot) → HasNothing s n slot → position_at s n slot ≡ None
shows_nothing s n slot nothing =
    shows_unasked (rn_of s n).pending (agent_seen s n) slot nothing.0
    ∙ ap (λ (b : Bool). if b then Some places.Answered else None) (away (is_at_home (agent_seen s n) slot) refl)
  where
    away : (b : Bool) → is_at_home (agent_seen s n) slot ≡ b → b ≡ false
    away true here = absurd (nothing.1 (home_of (waiting_slot (waiting_of s.home n)) (slot_served_for s.home.serving n) slot here))
    away false gone = refl

has_nothing : (last : List ℕ) (s : LineState) (n : ℕ) (slot : Slot) → n < 8 → Kept last s → position_at s n slot ≡ None → HasNothing s n slot
has_nothing last s n slot low k none = (unpending, unhoused, unsent)
  where
    free : Free s n slot
    free = is_free s n slot (shows_unused s last n slot low k none)

    not_both : (o : Option Slot) → is_slot o slot ≡ false → o ≡ Some slot → ⊥
    not_both o away own = let here : is_slot o slot ≡ true = is_its o slot own in cc (here, away)

    unpending : pending_slot (rn_of s n).pending ≢ Some slot
    unpending own = not_both (pending_slot (rn_of s n).pending) free.pending own

    unhoused : IsAtHome s n slot → ⊥
    unhoused here = ⊎_elim (not_both (waiting_slot (waiting_of s.home n)) free.waiting) (not_both (slot_served_for s.home.serving n) free.served) here

    unsent : (request : Request) → (cells_of s n).req ≡ Some request → request.slot ≢ slot
    unsent request there same = unpending ((k.lanes n low).request_slot request there ∙ ap (λ (x : Slot). Some x) same)

-- a line shows a slot somewhere, or nothing of it, exactly where the table says so
pub rows_are : (last : List ℕ) (s : LineState) (n : ℕ) (slot : Slot) (found : Option Position) → n < 8 → Kept last s → (position_at s n slot ≡ found) ↔ IsFound s n slot found
rows_are last s n slot None low k = (λ none. has_nothing last s n slot low k none, λ nothing. shows_nothing s n slot nothing)
rows_are last s n slot (Some at) low k = (
  λ shows. subst (Holds s n slot) shows (holds last s n slot (k.lanes n low)),
  λ row. row_shows last s n slot at (k.lanes n low) row,
)
