-- The kinds that a line keeps of a slot's request have the credit types that they had: only an Issue gives a
-- slot a kind.
use Rattle.std.proofs.Common.{◌≡◌, ℕ, ◌<◌, Bool, true, false, ◌&&◌, ◌==◌, Option, Some, None, length, refl, sym, ◌∙◌, ap, subst, if◌then◌else◌, arith, get_or-set_same}
use Rattle.std.proofs.lemmas.Bool.{and_parts, eq-eqb}
use Rattle.chi_flit.specs.declared.numbers.Agent.{Agent}
use Rattle.chi_flit.specs.declared.numbers.Slot.{Slot}
use Rattle.chi_flit.specs.declared.kind.Kind.{Kind}
use Rattle.chi_flit.specs.declared.kind.Kind.TheVariants.{Evict, WriteBackFull, WriteCleanFull, WriteEvictFull}
use Rattle.chi_flit.specs.declared.action.Step.{Step}
use Rattle.chi_flit.specs.declared.action.Step.TheVariants as steps
use Rattle.chi_flit.specs.declared.credit.CreditType.{CreditType}
use Rattle.chi_flit.specs.declared.credit.Profile.{Profile}
use Rattle.chi_flit.specs.declared.message.Request.{Request}
use Rattle.chi_flit.specs.declared.message.RspDown.{RspDown}
use Rattle.chi_flit.specs.declared.message.RspDown.TheVariants.{CompUC}
use Rattle.chi_flit.specs.declared.message.DatUp.{DatUp}
use Rattle.chi_flit.specs.declared.message.DatUp.TheVariants.{CopyBackWrData}
use Rattle.chi_flit.specs.Credit.{credit_number, credit_type_of}
use Rattle.chi_filter.specs.Filter.{has_any}
use Rattle.chi_wires.specs.declared.cells.Cells.{Cells}
use Rattle.chi_wires.specs.Cell.{no_flits}
use Rattle.chi_rnline.specs.Rn.{Rn, no_line}
use Rattle.chi_rnline.specs.declared.pending.Pending.{Pending}
use Rattle.chi_homeline.specs.declared.serving.Waiting.{Waiting}
use Rattle.chi_homeline.specs.declared.serving.Serving.{Serving}
use Rattle.chi_homeline.specs.declared.serving.Serving.TheVariants.{Idle, Snooping, AwaitingCompAck, AwaitingWriteData}
use Rattle.chi_homeline.specs.declared.serving.SnoopAnswer.{SnoopAnswer}
use Rattle.chi_homeline.specs.Home.{Home, answer_taken, asks, finished_as, home_after_completion, home_after_service, served_kind, started_as, taken_up, waiting_of}
use Rattle.chi_line.specs.LineState.{LineState, rn_of, cells_of}
use Rattle.chi_line.specs.Step.{admitted_line, after_step, answer_in, answered_by, completion_received, data_written, dbid_received_line, is_slot, issued_line, received_line, resent_line, retried_line, slot_served_for, snooped_line, started_line, waiting_slot, where_some}
use Rattle.chi_line.specs.Types.{has_type, is_of_type, pending_kind_of, requested_kind_of, served_kind_of, waiting_kind_of}
use Rattle.chi_line.specs.Places.{agent_seen}
use Rattle.chi_line.proofs.Elsewhere.{Stays}
use Rattle.chi_line.proofs.SeenMoves.{Asked, other_kind}
use Rattle.chi_line.proofs.Positions.{Free}

-- a type that a kind has, or no kind
abbrev Has : Profile → CreditType → Option Kind → Type 0
Has profile ty kind = has_type profile ty kind ≡ true

-- the kinds that a line keeps of an agent's slot, and that which is served
pub typed : (profile : Profile) (ty : CreditType) (s : LineState) (n : ℕ) (slot : Slot) → is_of_type profile ty s n slot ≡ true → Asked profile ty (agent_seen s n) slot × Has profile ty (served_kind_of s.home.serving n slot)
typed profile ty s n slot h =
    let first = and_parts (has_type profile ty (pending_kind_of (rn_of s n).pending slot)) _ h in
    let second = and_parts (has_type profile ty (requested_kind_of (cells_of s n).req slot)) _ first.1 in
    let rest = and_parts (has_type profile ty (waiting_kind_of (waiting_of s.home n) slot)) _ second.1 in
    (record { pending = first.0; request = second.0; waiting = rest.0 }, rest.1)

all_of : (a b c d : Bool) → a ≡ true → b ≡ true → c ≡ true → d ≡ true → (a && (b && (c && d))) ≡ true
all_of a b c d w x y z = rw (w, x, y, z) refl

pub of_type : (profile : Profile) (ty : CreditType) (s : LineState) (n : ℕ) (slot : Slot) → Asked profile ty (agent_seen s n) slot → Has profile ty (served_kind_of s.home.serving n slot) → is_of_type profile ty s n slot ≡ true
of_type profile ty s n slot t served = all_of _ _ _ _ t.pending t.request t.waiting served

-- parts that stay
pub stays_asked : (profile : Profile) (ty : CreditType) (s s' : LineState) (n : ℕ) (slot : Slot) → Stays s s' n → Asked profile ty (agent_seen s n) slot → Asked profile ty (agent_seen s' n) slot
stays_asked profile ty s s' n slot stays t = record {
  pending = ap (λ (p : Option Pending). has_type profile ty (pending_kind_of p slot)) stays.pending ∙ t.pending;
  request = ap (λ (q : Option Request). has_type profile ty (requested_kind_of q slot)) stays.request ∙ t.request;
  waiting = ap (λ (w : Option Waiting). has_type profile ty (waiting_kind_of w slot)) stays.waiting ∙ t.waiting;
}

-- What a step leaves of the request that is served: the same, or none whose kind is kept, or one that waited.
-- a completion forgets the kind
finished_kind : (profile : Profile) (ty : CreditType) (serving : Serving) (home : Home) (n : ℕ) (slot : Slot) → home.serving ≡ serving → Has profile ty (served_kind_of serving n slot)
    → Has profile ty (served_kind_of (finished_as serving home).serving n slot)
finished_kind profile ty (Snooping agent kind own) home n slot is t = go (has_any home.awaited)
  where
    go : (b : Bool) → Has profile ty (served_kind_of (if b then home else home_after_completion home kind agent own).serving n slot)
    go true = ap (λ (v : Serving). has_type profile ty (served_kind_of v n slot)) is ∙ t
    go false = refl
finished_kind profile ty serving home n slot is t = ap (λ (v : Serving). has_type profile ty (served_kind_of v n slot)) is ∙ t

answered_kind : (profile : Profile) (ty : CreditType) (s : LineState) (agent : Agent) (answer : SnoopAnswer) (n : ℕ) (slot : Slot) → Has profile ty (served_kind_of s.home.serving n slot)
    → Has profile ty (served_kind_of (answered_by s agent answer).home.serving n slot)
answered_kind profile ty s agent answer n slot t = finished_kind profile ty s.home.serving (answer_taken s.home agent answer) n slot refl t

written_kind : (profile : Profile) (ty : CreditType) (s : LineState) (m : ℕ) (kind : Kind) (there : Option DatUp) (n : ℕ) (slot : Slot) → Has profile ty (served_kind_of s.home.serving n slot)
    → Has profile ty (served_kind_of (data_written s m kind there).home.serving n slot)
written_kind profile ty s m kind (Some (CopyBackWrData form words)) n slot t = refl
written_kind profile ty s m kind there n slot t = t

completion_kind : (profile : Profile) (ty : CreditType) (s : LineState) (m : ℕ) (there : Option RspDown) (n : ℕ) (slot : Slot) → Has profile ty (served_kind_of s.home.serving n slot)
    → Has profile ty (served_kind_of (completion_received s m there).home.serving n slot)
completion_kind profile ty s m (Some CompUC) n slot t = t
completion_kind profile ty s m there n slot t = t

-- the kind of a request is served for its agent's slot
serves_kind : (profile : Profile) (ty : CreditType) (kind : Kind) (agent : Agent) (own : Slot) (n : ℕ) (slot : Slot)
    → (agent.0 ≡ n → Has profile ty (waiting_kind_of (Some (record { kind = kind; slot = own })) slot))
    → Has profile ty (if (agent.0 == n) && (own.0 == slot.0) then Some kind else None)
serves_kind profile ty kind agent own n slot waits = at (agent.0 == n) refl
  where
    at : (b : Bool) → (agent.0 == n) ≡ b → Has profile ty (if b && (own.0 == slot.0) then Some kind else None)
    at true is = waits (grind (arith, is))
    at false is = refl

serviced_kind : (profile : Profile) (ty : CreditType) (kind : Kind) (home : Home) (agent : Agent) (own : Slot) (n : ℕ) (slot : Slot)
    → (agent.0 ≡ n → Has profile ty (waiting_kind_of (Some (record { kind = kind; slot = own })) slot))
    → Has profile ty (served_kind_of (home_after_service home kind agent own).serving n slot)
serviced_kind profile ty kind home agent own n slot waits = go (has_any (asks kind home.filter agent.0))
  where
    go : (b : Bool) → Has profile ty (served_kind_of (if b then record home { serving = Snooping agent kind own; awaited = asks kind home.filter agent.0 } else home_after_completion home kind agent own).serving n slot)
    go true = serves_kind profile ty kind agent own n slot waits
    go false = refl

started_kind : (profile : Profile) (ty : CreditType) (kind : Kind) (home : Home) (agent : Agent) (own : Slot) (n : ℕ) (slot : Slot)
    → (agent.0 ≡ n → Has profile ty (waiting_kind_of (Some (record { kind = kind; slot = own })) slot)) → Has profile ty (served_kind_of home.serving n slot)
    → Has profile ty (served_kind_of (started_as kind home agent own).serving n slot)
started_kind profile ty Evict home agent own n slot waits t = t
started_kind profile ty WriteBackFull home agent own n slot waits t = serves_kind profile ty WriteBackFull agent own n slot waits
started_kind profile ty WriteCleanFull home agent own n slot waits t = serves_kind profile ty WriteCleanFull agent own n slot waits
started_kind profile ty WriteEvictFull home agent own n slot waits t = serves_kind profile ty WriteEvictFull agent own n slot waits
started_kind profile ty served home agent own n slot waits t = serviced_kind profile ty served home agent own n slot waits

-- what is served after a step that takes something away
served_where_some : {A : Type 0} (profile : Profile) (ty : CreditType) (s : LineState) (n : ℕ) (slot : Slot) (there : Option A) (step : A → LineState) → Has profile ty (served_kind_of s.home.serving n slot)
    → ((a : A) → there ≡ Some a → Has profile ty (served_kind_of (step a).home.serving n slot)) → Has profile ty (served_kind_of (where_some s there step).home.serving n slot)
served_where_some profile ty s n slot None step t next = t
served_where_some profile ty s n slot (Some a) step t next = next a refl

-- what is served after a step
served_step : (profile : Profile) (ty : CreditType) (s : LineState) (agent : Agent) (step : Step) (n : ℕ) (slot : Slot)
    → (agent.0 ≡ n → Has profile ty (waiting_kind_of (waiting_of s.home agent.0) slot)) → Has profile ty (served_kind_of s.home.serving n slot) → Has profile ty (served_kind_of (after_step profile s agent step).home.serving n slot)
served_step profile ty s agent steps.Admit n slot waits t = served_where_some profile ty s n slot (cells_of s agent.0).req (admitted_line s agent.0) t (λ request here. t)
served_step profile ty s agent steps.Retry n slot waits t = served_where_some profile ty s n slot (cells_of s agent.0).req (retried_line profile s agent.0) t (λ request here. t)
served_step profile ty s agent steps.Resend n slot waits t = served_where_some profile ty s n slot (rn_of s agent.0).pending (resent_line s agent.0) t (λ request here. t)
served_step profile ty s agent steps.Start n slot waits t = served_where_some profile ty s n slot (waiting_of s.home agent.0) (started_line s agent) t
    (λ request here. started_kind profile ty request.kind (taken_up s.home agent.0) agent request.slot n slot
    (λ own. sym (ap (λ (w : Option Waiting). has_type profile ty (waiting_kind_of w slot)) here) ∙ waits own) t)
served_step profile ty s agent steps.RecvSnp n slot waits t = served_where_some profile ty s n slot (cells_of s agent.0).snp (snooped_line s agent.0) t (λ snoop here. t)
served_step profile ty s agent steps.RecvSnpResp n slot waits t = served_where_some profile ty s n slot (answer_in (cells_of s agent.0)) (answered_by s agent) t (λ answer here. answered_kind profile ty s agent answer n slot t)
served_step profile ty s agent steps.RecvData n slot waits t = served_where_some profile ty s n slot (cells_of s agent.0).dat_down (received_line s agent.0) t (λ message here. t)
served_step profile ty s agent steps.RecvComp n slot waits t = completion_kind profile ty s agent.0 (cells_of s agent.0).rsp_down n slot t
served_step profile ty s agent steps.RecvAck n slot waits t = refl
served_step profile ty s agent steps.RecvDbid n slot waits t = served_where_some profile ty s n slot (rn_of s agent.0).pending (λ (request : Pending). dbid_received_line s agent.0 request.kind) t (λ request here. t)
served_step profile ty s agent steps.RecvWrData n slot waits t = served_where_some profile ty s n slot (served_kind s.home.serving) (λ (kind : Kind). data_written s agent.0 kind (cells_of s agent.0).dat_up) t
    (λ kind here. written_kind profile ty s agent.0 kind (cells_of s agent.0).dat_up n slot t)
served_step profile ty s agent other n slot waits t = t

-- a slot whose requests have the type after a step has it wherever a kind is kept
pub step_types : (profile : Profile) (s : LineState) (agent : Agent) (step : Step) (n : ℕ) (slot : Slot) (ty : CreditType)
    → (Asked profile ty (agent_seen s n) slot → Asked profile ty (agent_seen (after_step profile s agent step) n) slot)
    → is_of_type profile ty s n slot ≡ true → is_of_type profile ty (after_step profile s agent step) n slot ≡ true
step_types profile s agent step n slot ty asked is =
    let t = typed profile ty s n slot is in
    of_type profile ty (after_step profile s agent step) n slot (asked t.0)
    (served_step profile ty s agent step n slot (λ own. subst (λ (m : ℕ). Has profile ty (waiting_kind_of (waiting_of s.home m) slot)) (sym own) t.0.waiting) t.1)

-- the slot that an Issue names: nothing else of it is at the line
pub unused_waits : (profile : Profile) (ty : CreditType) (w : Option Waiting) (slot : Slot) → is_slot (waiting_slot w) slot ≡ false → Has profile ty (waiting_kind_of w slot)
unused_waits profile ty None slot free = refl
unused_waits profile ty (Some request) slot free = other_kind profile ty request.kind (request.slot.0 == slot.0) free

pub unused_serves : (profile : Profile) (ty : CreditType) (serving : Serving) (n : ℕ) (slot : Slot) → is_slot (slot_served_for serving n) slot ≡ false → Has profile ty (served_kind_of serving n slot)
unused_serves profile ty Idle n slot free = refl
unused_serves profile ty (Snooping agent kind own) n slot free = go (agent.0 == n) free
  where
    go : (b : Bool) → is_slot (if b then Some own else None) slot ≡ false → Has profile ty (if b && (own.0 == slot.0) then Some kind else None)
    go true free = other_kind profile ty kind (own.0 == slot.0) free
    go false free = refl
unused_serves profile ty (AwaitingCompAck agent own) n slot free = refl
unused_serves profile ty (AwaitingWriteData agent kind own) n slot free = go (agent.0 == n) free
  where
    go : (b : Bool) → is_slot (if b then Some own else None) slot ≡ false → Has profile ty (if b && (own.0 == slot.0) then Some kind else None)
    go true free = other_kind profile ty kind (own.0 == slot.0) free
    go false free = refl

own_kind_has : (profile : Profile) (kind : Kind) (b : Bool) → Has profile (credit_type_of profile kind) (if b then Some kind else None)
own_kind_has profile kind true = eq-eqb (credit_number (credit_type_of profile kind)) (credit_number (credit_type_of profile kind)) refl
own_kind_has profile kind false = refl

pub issued_types : (profile : Profile) (s : LineState) (n : ℕ) (kind : Kind) (slot : Slot) → n < length s.requesters → n < length s.flits → Free s n slot
    → is_of_type profile (credit_type_of profile kind) (issued_line s n kind slot) n slot ≡ true
issued_types profile s n kind slot low flits free =
    of_type profile (credit_type_of profile kind) (issued_line s n kind slot) n slot
    (record {
      pending = ap (λ (x : Rn). has_type profile (credit_type_of profile kind) (pending_kind_of x.pending slot)) (get_or-set_same s.requesters n _ no_line low) ∙ own_kind_has profile kind (slot.0 == slot.0);
      request = ap (λ (x : Cells). has_type profile (credit_type_of profile kind) (requested_kind_of x.req slot)) (get_or-set_same s.flits n _ no_flits flits) ∙ own_kind_has profile kind (slot.0 == slot.0);
      waiting = unused_waits profile (credit_type_of profile kind) (waiting_of s.home n) slot free.waiting;
    })
    (unused_serves profile (credit_type_of profile kind) s.home.serving n slot free.served)
