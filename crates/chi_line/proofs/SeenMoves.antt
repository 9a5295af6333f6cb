-- How each step changes where a request is, by what a line shows of an agent before it and after it.
use Rattle.std.proofs.Common.{◌≡◌, Bool, true, false, ◌||◌, ◌==◌, Option, Some, None, refl, sym, ◌∙◌, ap, if◌then◌else◌, arith}
use Rattle.std.proofs.lemmas.Bool.{false_from_ne_true, or_right}
use mathlib.Core.Bool.{or-false}
use Rattle.chi_flit.specs.declared.numbers.Slot.{Slot}
use Rattle.chi_flit.specs.declared.kind.Kind.{Kind}
use Rattle.chi_flit.specs.declared.message.Request.{Request}
use Rattle.chi_flit.specs.declared.message.RspDown.{RspDown}
use Rattle.chi_flit.specs.declared.message.RspDown.TheVariants.{RetryAck, CompI}
use Rattle.chi_flit.specs.declared.credit.CreditType.{CreditType}
use Rattle.chi_flit.specs.declared.credit.Profile.{Profile}
use Rattle.chi_rnline.specs.declared.pending.Pending.{Pending}
use Rattle.chi_rnline.specs.declared.pending.Phase.{Phase}
use Rattle.chi_rnline.specs.declared.pending.Phase.TheVariants as phases
use Rattle.chi_rnline.specs.Rn.{in_phase}
use Rattle.chi_homeline.specs.declared.serving.Waiting.{Waiting}
use Rattle.chi_line.specs.declared.position.Position.{Position}
use Rattle.chi_line.specs.declared.position.Position.TheVariants.{Sent, Refused, Retried, Resent, Admitted, Answered, Closing}
use Rattle.chi_line.specs.Kept.{is_retried, is_retried_phase}
use Rattle.chi_line.proofs.MoveLaw.{flit_at}
use Rattle.chi_line.specs.Places.{is_at_home, phase_at, RequestsShown, sent_at, unasked_at, position_by, position_in}
use Rattle.chi_line.specs.Types.{has_type, pending_kind_of, requested_kind_of, waiting_kind_of}
use Rattle.chi_line.specs.Step.{is_slot, pending_slot, waiting_slot}

-- where a request is, by whether its slot is pending, and in which phase
pub sent_in : (x : RequestsShown) (slot : Slot) → is_slot (pending_slot x.pending) slot ≡ true → is_retried x.pending ≡ false → position_in x slot ≡ sent_at x.request (is_at_home x slot) x.response
sent_in x slot own sent = go x.pending own sent
  where
    at : (phase : Phase) (b : Bool) → b ≡ true → is_retried_phase phase ≡ false
        → (if b then phase_at phase x slot else unasked_at x slot) ≡ sent_at x.request (is_at_home x slot) x.response
    at phases.Sent true own sent = refl
    at phases.Retried true own sent = absurd (cc (sent))
    at phase false own sent = absurd (cc (own))

    go : (p : Option Pending) → is_slot (pending_slot p) slot ≡ true → is_retried p ≡ false → position_by p x slot ≡ sent_at x.request (is_at_home x slot) x.response
    go None own sent = absurd (cc (own))
    go (Some request) own sent = at request.phase (request.slot.0 == slot.0) own sent

pub retried_in : (x : RequestsShown) (slot : Slot) → is_slot (pending_slot x.pending) slot ≡ true → is_retried x.pending ≡ true → position_in x slot ≡ Some Retried
retried_in x slot own retried = go x.pending own retried
  where
    at : (phase : Phase) (b : Bool) → b ≡ true → is_retried_phase phase ≡ true → (if b then phase_at phase x slot else unasked_at x slot) ≡ Some Retried
    at phases.Sent true own retried = absurd (cc (retried))
    at phases.Retried true own retried = refl
    at phase false own retried = absurd (cc (own))

    go : (p : Option Pending) → is_slot (pending_slot p) slot ≡ true → is_retried p ≡ true → position_by p x slot ≡ Some Retried
    go None own retried = absurd (cc (own))
    go (Some request) own retried = at request.phase (request.slot.0 == slot.0) own retried

pub unasked_in : (x : RequestsShown) (slot : Slot) → is_slot (pending_slot x.pending) slot ≡ false → position_in x slot ≡ unasked_at x slot
unasked_in x slot other = go x.pending other
  where
    go : (p : Option Pending) → is_slot (pending_slot p) slot ≡ false → position_by p x slot ≡ unasked_at x slot
    go None other = refl
    go (Some request) other = ap (λ (b : Bool). if b then phase_at request.phase x slot else unasked_at x slot) other

-- a slot that is pending neither before nor after is where it was, if it is at the home as it was
pub unasked_stays : (x x' : RequestsShown) (slot : Slot) → is_slot (pending_slot x.pending) slot ≡ false → is_slot (pending_slot x'.pending) slot ≡ false → is_at_home x' slot ≡ is_at_home x slot → position_in x' slot ≡ position_in x slot
unasked_stays x x' slot other other' home =
    unasked_in x' slot other' ∙ (ap (λ (b : Bool). if b then Some Answered else None) home ∙ sym (unasked_in x slot other))

-- a request is where it was if whether it is at the home is all that was written of it, and that stays
pub home_stays : (x : RequestsShown) (waiting : Option Waiting) (served : Option Slot) (slot : Slot) → is_slot (waiting_slot waiting) slot || is_slot served slot ≡ is_at_home x slot
    → position_in (record x { waiting = waiting; served = served }) slot ≡ position_in x slot
home_stays x waiting served slot home = go x.pending
  where
    at : (b : Bool) (phase : Phase) → (if b then phase_at phase (record x { waiting = waiting; served = served }) slot else unasked_at (record x { waiting = waiting; served = served }) slot)
        ≡ (if b then phase_at phase x slot else unasked_at x slot)
    at true phases.Sent = ap (λ (b : Bool). sent_at x.request b x.response) home
    at true phases.Retried = refl
    at false phase = ap (λ (b : Bool). if b then Some Answered else None) home

    go : (p : Option Pending) → position_by p (record x { waiting = waiting; served = served }) slot ≡ position_by p x slot
    go None = ap (λ (b : Bool). if b then Some Answered else None) home
    go (Some request) = at (request.slot.0 == slot.0) request.phase

-- the kinds that are kept of a slot's request, beside that which is served, have the credit type
pub record Asked (profile : Profile) (ty : CreditType) (x : RequestsShown) (slot : Slot) : Type 0 where
  pub pending : has_type profile ty (pending_kind_of x.pending slot) ≡ true
  pub request : has_type profile ty (requested_kind_of x.request slot) ≡ true
  pub waiting : has_type profile ty (waiting_kind_of x.waiting slot) ≡ true

-- a step that moves the request of one slot from here to there, and leaves the others; only a request that
-- begins gets a kind
pub record SeenMoved (x x' : RequestsShown) (moved : Option Slot) (from to : Option Position) : Type 0 where
  pub found : (slot : Slot) → is_slot moved slot ≡ true → position_in x slot ≡ from
  pub left : (slot : Slot) → is_slot moved slot ≡ true → position_in x' slot ≡ to
  pub stay : (slot : Slot) → is_slot moved slot ≡ false → position_in x' slot ≡ position_in x slot
  pub kinds : (profile : Profile) (ty : CreditType) (slot : Slot) → (is_slot moved slot ≡ true → from ≡ None → ⊥) → Asked profile ty x slot → Asked profile ty x' slot

-- a step that moves no request
pub none_moved : (x x' : RequestsShown) → ((slot : Slot) → position_in x' slot ≡ position_in x slot) → ((profile : Profile) (ty : CreditType) (slot : Slot) → Asked profile ty x slot → Asked profile ty x' slot)
    → SeenMoved x x' None None None
none_moved x x' stay kinds = record { found = λ slot is. absurd (cc (is)); left = λ slot is. absurd (cc (is)); stay = λ slot other. stay slot; kinds = λ profile ty slot began t. kinds profile ty slot t }

-- a kind of another slot's request
pub other_kind : (profile : Profile) (ty : CreditType) (kind : Kind) (b : Bool) → b ≡ false → has_type profile ty (if b then Some kind else None) ≡ true
other_kind profile ty kind b other = ap (λ (x : Bool). has_type profile ty (if x then Some kind else None)) other

-- Issue
pub issue_seen : (x : RequestsShown) (kind : Kind) (own : Slot) → x.pending ≡ None → ((slot : Slot) → is_slot (Some own) slot ≡ true → is_at_home x slot ≡ false)
    → SeenMoved x (record x { pending = Some (record { kind = kind; slot = own; phase = phases.Sent }); request = Some (record { kind = kind; slot = own; allow_retry = true }) }) (Some own) None (Some Sent)
issue_seen x kind own none away = record {
  found = λ slot is. unasked_in x slot (not_pending slot) ∙ ap (λ (b : Bool). if b then Some Answered else None) (away slot is);
  left = λ slot is. sent_in (record x { pending = Some (record { kind = kind; slot = own; phase = phases.Sent }); request = Some (record { kind = kind; slot = own; allow_retry = true }) }) slot is refl;
  stay = λ slot other. unasked_stays x (record x { pending = Some (record { kind = kind; slot = own; phase = phases.Sent }); request = Some (record { kind = kind; slot = own; allow_retry = true }) }) slot (not_pending slot) other refl;
  kinds = λ profile ty slot began t.
      let other : (own.0 == slot.0) ≡ false = false_from_ne_true (own.0 == slot.0) (λ is. began is refl) in
      record { pending = other_kind profile ty kind (own.0 == slot.0) other; request = other_kind profile ty kind (own.0 == slot.0) other; waiting = t.waiting };
}
  where
    not_pending : (slot : Slot) → is_slot (pending_slot x.pending) slot ≡ false
    not_pending slot = ap (λ (p : Option Pending). is_slot (pending_slot p) slot) none

-- a slot that is the pending one, or isn't, by that of the request in flight or waiting
pending_by : (p moved : Option Slot) (slot : Slot) (b : Bool) → p ≡ moved → is_slot moved slot ≡ b → is_slot p slot ≡ b
pending_by p moved slot b same is = ap (λ (o : Option Slot). is_slot o slot) same ∙ is

-- Admit
pub admit_seen : (x : RequestsShown) (request : Request) → x.request ≡ Some request → pending_slot x.pending ≡ Some request.slot → is_retried x.pending ≡ false → x.waiting ≡ None
    → SeenMoved x (record x { request = None; waiting = Some (record { kind = request.kind; slot = request.slot }) }) (Some request.slot) (flit_at (Some request)) (Some Admitted)
admit_seen x request here pending sent unwaiting = record {
  found = λ slot is. sent_in x slot (pending_by (pending_slot x.pending) (Some request.slot) slot true pending is) sent ∙ ap (λ (q : Option Request). sent_at q (is_at_home x slot) x.response) here;
  left = λ slot is. sent_in (after) slot (pending_by (pending_slot x.pending) (Some request.slot) slot true pending is) sent ∙ ap (λ (b : Bool). sent_at None (b || is_slot x.served slot) x.response) is;
  stay = λ slot other. let gone : is_slot (pending_slot x.pending) slot ≡ false = pending_by (pending_slot x.pending) (Some request.slot) slot false pending other in
      unasked_stays x (after) slot gone gone
      (ap (λ (b : Bool). b || is_slot x.served slot) other ∙ sym (ap (λ (w : Option Waiting). is_slot (waiting_slot w) slot || is_slot x.served slot) unwaiting));
  kinds = λ profile ty slot began t. record { pending = t.pending; request = refl; waiting = sym (ap (λ (q : Option Request). has_type profile ty (requested_kind_of q slot)) here) ∙ t.request };
}
  where
    after : RequestsShown
    after = record x { request = None; waiting = Some (record { kind = request.kind; slot = request.slot }) }

-- Retry
pub retry_seen : (x : RequestsShown) (request : Request) (ty : CreditType) → x.request ≡ Some request → request.allow_retry ≡ true → pending_slot x.pending ≡ Some request.slot → is_retried x.pending ≡ false
    → ((slot : Slot) → is_slot (pending_slot x.pending) slot ≡ true → is_at_home x slot ≡ false)
    → SeenMoved x (record x { request = None; response = Some (RetryAck ty) }) (Some request.slot) (Some Sent) (Some Refused)
retry_seen x request ty here may pending sent away = record {
  found = λ slot is. sent_in x slot (own slot is) sent ∙ (ap (λ (q : Option Request). sent_at q (is_at_home x slot) x.response) here ∙ ap (λ (b : Bool). if b then Some Sent else Some Resent) may);
  left = λ slot is. sent_in (record x { request = None; response = Some (RetryAck ty) }) slot (own slot is) sent ∙ ap (λ (b : Bool). sent_at None b (Some (RetryAck ty))) (away slot (own slot is));
  stay = λ slot other. let gone : is_slot (pending_slot x.pending) slot ≡ false = pending_by (pending_slot x.pending) (Some request.slot) slot false pending other in
      unasked_stays x (record x { request = None; response = Some (RetryAck ty) }) slot gone gone refl;
  kinds = λ profile ty slot began t. record { pending = t.pending; request = refl; waiting = t.waiting };
}
  where
    own : (slot : Slot) → is_slot (Some request.slot) slot ≡ true → is_slot (pending_slot x.pending) slot ≡ true
    own slot is = pending_by (pending_slot x.pending) (Some request.slot) slot true pending is

-- a change of the phase leaves the slot and the kind
pub phase_slot : (phase : Phase) (p : Option Pending) → pending_slot (in_phase phase p) ≡ pending_slot p
phase_slot phase p = search arith

pub phase_kind : (phase : Phase) (p : Option Pending) (slot : Slot) → pending_kind_of (in_phase phase p) slot ≡ pending_kind_of p slot
phase_kind phase p slot = search arith

-- and a pending request has that phase
phase_is : (phase : Phase) (p : Option Pending) (slot : Slot) → is_slot (pending_slot p) slot ≡ true → is_retried (in_phase phase p) ≡ is_retried_phase phase
phase_is phase p slot own = search arith

-- RecvRetry
pub retried_seen : (x : RequestsShown) (ty : CreditType) → x.request ≡ None → x.response ≡ Some (RetryAck ty) → is_retried x.pending ≡ false
    → ((slot : Slot) → is_slot (pending_slot x.pending) slot ≡ true → is_at_home x slot ≡ false)
    → SeenMoved x (record x { pending = in_phase phases.Retried x.pending; response = None }) (pending_slot x.pending) (Some Refused) (Some Retried)
retried_seen x ty none here sent away = record {
  found = λ slot is. sent_in x slot is sent
      ∙ (ap (λ (q : Option Request). sent_at q (is_at_home x slot) x.response) none ∙ (ap (λ (b : Bool). sent_at None b x.response) (away slot is) ∙ ap (λ (r : Option RspDown). sent_at None false r) here));
  left = λ slot is. retried_in (record x { pending = in_phase phases.Retried x.pending; response = None }) slot
      (pending_by (pending_slot (in_phase phases.Retried x.pending)) (pending_slot x.pending) slot true (phase_slot phases.Retried x.pending) is)
      (phase_is phases.Retried x.pending slot is);
  stay = λ slot other. unasked_stays x (record x { pending = in_phase phases.Retried x.pending; response = None }) slot other
      (pending_by (pending_slot (in_phase phases.Retried x.pending)) (pending_slot x.pending) slot false (phase_slot phases.Retried x.pending) other) refl;
  kinds = λ profile ty slot began t. record { pending = ap (has_type profile ty) (phase_kind phases.Retried x.pending slot) ∙ t.pending; request = t.request; waiting = t.waiting };
}

-- Resend
pub resent_seen : (x : RequestsShown) (request : Pending) → x.pending ≡ Some request → is_retried x.pending ≡ true
    → SeenMoved x (record x { pending = in_phase phases.Sent x.pending; request = Some (record { kind = request.kind; slot = request.slot; allow_retry = false }) }) (pending_slot x.pending) (Some Retried) (Some Resent)
resent_seen x request here retried = record {
  found = λ slot is. retried_in x slot is retried;
  left = λ slot is. sent_in (after) slot
      (pending_by (pending_slot (in_phase phases.Sent x.pending)) (pending_slot x.pending) slot true (phase_slot phases.Sent x.pending) is)
      (phase_is phases.Sent x.pending slot is);
  stay = λ slot other. unasked_stays x (after) slot other
      (pending_by (pending_slot (in_phase phases.Sent x.pending)) (pending_slot x.pending) slot false (phase_slot phases.Sent x.pending) other) refl;
  kinds = λ profile ty slot began t. record {
    pending = ap (has_type profile ty) (phase_kind phases.Sent x.pending slot) ∙ t.pending;
    request = sym (ap (λ (p : Option Pending). has_type profile ty (pending_kind_of p slot)) here) ∙ t.pending;
    waiting = t.waiting;
  };
}
  where
    after : RequestsShown
    after = record x { pending = in_phase phases.Sent x.pending; request = Some (record { kind = request.kind; slot = request.slot; allow_retry = false }) }

-- Cancel
pub cancelled_seen : (x : RequestsShown) → is_retried x.pending ≡ true → ((slot : Slot) → is_slot (pending_slot x.pending) slot ≡ true → is_at_home x slot ≡ false)
    → SeenMoved x (record x { pending = None }) (pending_slot x.pending) (Some Retried) None
cancelled_seen x retried away = record {
  found = λ slot is. retried_in x slot is retried;
  left = λ slot is. ap (λ (b : Bool). if b then Some Answered else None) (away slot is);
  stay = λ slot other. unasked_stays x (record x { pending = None }) slot other refl refl;
  kinds = λ profile ty slot began t. record { pending = refl; request = t.request; waiting = t.waiting };
}

-- RecvData, RecvDbid, RecvComp of Comp_UC
pub answered_seen : (x : RequestsShown) (response : Option RspDown) → x.request ≡ None → is_retried x.pending ≡ false → ((slot : Slot) → is_slot (pending_slot x.pending) slot ≡ true → is_at_home x slot ≡ true)
    → SeenMoved x (record x { pending = None; response = response }) (pending_slot x.pending) (Some Admitted) (Some Answered)
answered_seen x response none sent here = record {
  found = λ slot is. sent_in x slot is sent ∙ (ap (λ (q : Option Request). sent_at q (is_at_home x slot) x.response) none ∙ ap (λ (b : Bool). sent_at None b x.response) (here slot is));
  left = λ slot is. ap (λ (b : Bool). if b then Some Answered else None) (here slot is);
  stay = λ slot other. unasked_stays x (record x { pending = None; response = response }) slot other refl refl;
  kinds = λ profile ty slot began t. record { pending = refl; request = t.request; waiting = t.waiting };
}

-- RecvComp of Comp_I
pub closed_seen : (x : RequestsShown) → x.request ≡ None → x.response ≡ Some CompI → is_retried x.pending ≡ false → ((slot : Slot) → is_slot (pending_slot x.pending) slot ≡ true → is_at_home x slot ≡ false)
    → SeenMoved x (record x { pending = None; response = None }) (pending_slot x.pending) (Some Closing) None
closed_seen x none here sent away = record {
  found = λ slot is. sent_in x slot is sent
      ∙ (ap (λ (q : Option Request). sent_at q (is_at_home x slot) x.response) none ∙ (ap (λ (b : Bool). sent_at None b x.response) (away slot is) ∙ ap (λ (r : Option RspDown). sent_at None false r) here));
  left = λ slot is. ap (λ (b : Bool). if b then Some Answered else None) (away slot is);
  stay = λ slot other. unasked_stays x (record x { pending = None; response = None }) slot other refl refl;
  kinds = λ profile ty slot began t. record { pending = refl; request = t.request; waiting = t.waiting };
}

-- RecvAck, RecvWrData
pub ended_seen : (x : RequestsShown) → ((slot : Slot) → is_slot x.served slot ≡ true → is_slot (pending_slot x.pending) slot ≡ false) → ((slot : Slot) → is_slot x.served slot ≡ true → is_slot (waiting_slot x.waiting) slot ≡ false)
    → SeenMoved x (record x { served = None }) x.served (Some Answered) None
ended_seen x apart unwaiting = record {
  found = λ slot is. unasked_in x slot (apart slot is) ∙ ap (λ (b : Bool). if b then Some Answered else None) (or_right (is_slot (waiting_slot x.waiting) slot) (is_slot x.served slot) is);
  left = λ slot is. unasked_in (record x { served = None }) slot (apart slot is) ∙ ap (λ (b : Bool). if b || false then Some Answered else None) (unwaiting slot is);
  stay = λ slot other. home_stays x x.waiting None slot (sym (ap (λ (b : Bool). is_slot (waiting_slot x.waiting) slot || b) other));
  kinds = λ profile ty slot began t. record { pending = t.pending; request = t.request; waiting = t.waiting };
}

-- Start of an Evict
pub evicted_seen : (x : RequestsShown) (request : Waiting) → x.waiting ≡ Some request → x.request ≡ None → x.served ≡ None → pending_slot x.pending ≡ Some request.slot → is_retried x.pending ≡ false
    → SeenMoved x (record x { waiting = None; response = Some CompI }) (Some request.slot) (Some Admitted) (Some Closing)
evicted_seen x request here none unserved pending sent = record {
  found = λ slot is. sent_in x slot (own slot is) sent
      ∙ (ap (λ (q : Option Request). sent_at q (is_at_home x slot) x.response) none ∙ ap (λ (b : Bool). sent_at None b x.response) (waits slot ∙ is));
  left = λ slot is. sent_in after slot (own slot is) sent
      ∙ (ap (λ (q : Option Request). sent_at q (is_slot x.served slot) (Some CompI)) none ∙ ap (λ (v : Option Slot). sent_at None (is_slot v slot) (Some CompI)) unserved);
  stay = λ slot other. let gone : is_slot (pending_slot x.pending) slot ≡ false = pending_by (pending_slot x.pending) (Some request.slot) slot false pending other in
      unasked_stays x after slot gone gone (ap (λ (v : Option Slot). is_slot v slot) unserved ∙ sym (waits slot ∙ other));
  kinds = λ profile ty slot began t. record { pending = t.pending; request = t.request; waiting = refl };
}
  where
    after : RequestsShown
    after = record x { waiting = None; response = Some CompI }

    own : (slot : Slot) → is_slot (Some request.slot) slot ≡ true → is_slot (pending_slot x.pending) slot ≡ true
    own slot is = pending_by (pending_slot x.pending) (Some request.slot) slot true pending is

    waits : (slot : Slot) → is_at_home x slot ≡ is_slot (Some request.slot) slot
    waits slot =
        ap (λ (w : Option Waiting). is_slot (waiting_slot w) slot || is_slot x.served slot) here
        ∙ (ap (λ (v : Option Slot). is_slot (Some request.slot) slot || is_slot v slot) unserved ∙ or-false (is_slot (Some request.slot) slot))

-- every other Start
pub started_seen : (x : RequestsShown) (request : Waiting) (response : Option RspDown) → x.waiting ≡ Some request → x.request ≡ None → x.served ≡ None → pending_slot x.pending ≡ Some request.slot → is_retried x.pending ≡ false
    → SeenMoved x (record x { waiting = None; response = response; served = Some request.slot }) None None None
started_seen x request response here none unserved pending sent = none_moved x after (λ slot. go slot (is_slot (Some request.slot) slot) refl) (λ profile ty slot t. record { pending = t.pending; request = t.request; waiting = refl })
  where
    after : RequestsShown
    after = record x { waiting = None; response = response; served = Some request.slot }

    waits : (slot : Slot) → is_at_home x slot ≡ is_slot (Some request.slot) slot
    waits slot =
        ap (λ (w : Option Waiting). is_slot (waiting_slot w) slot || is_slot x.served slot) here
        ∙ (ap (λ (v : Option Slot). is_slot (Some request.slot) slot || is_slot v slot) unserved ∙ or-false (is_slot (Some request.slot) slot))

    go : (slot : Slot) (b : Bool) → is_slot (Some request.slot) slot ≡ b → position_in after slot ≡ position_in x slot
    go slot true is =
        let own : is_slot (pending_slot x.pending) slot ≡ true = pending_by (pending_slot x.pending) (Some request.slot) slot true pending is in
        (sent_in after slot own sent ∙ (ap (λ (q : Option Request). sent_at q (is_slot (Some request.slot) slot) response) none ∙ ap (λ (b : Bool). sent_at None b response) is))
        ∙ sym (sent_in x slot own sent ∙ (ap (λ (q : Option Request). sent_at q (is_at_home x slot) x.response) none ∙ ap (λ (b : Bool). sent_at None b x.response) (waits slot ∙ is)))
    go slot false other =
        let gone : is_slot (pending_slot x.pending) slot ≡ false = pending_by (pending_slot x.pending) (Some request.slot) slot false pending other in
        unasked_stays x after slot gone gone (sym (waits slot))
