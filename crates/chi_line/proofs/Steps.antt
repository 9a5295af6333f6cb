-- An action that isn't refused is a step of its line.
use Rattle.std.proofs.Common.{arith, ◌≡◌, ℕ, ◌<◌, List, true, Option, Some, None, is_some, refl, ◌∙◌, ap, ◌⊎◌, inl, inr, ⊎_elim}
use Rattle.std.proofs.lemmas.Bool.{eqb-true}
use Rattle.chi_flit.specs.declared.numbers.Agent.{Agent}
use Rattle.chi_flit.specs.declared.numbers.Line.{Line}
use Rattle.chi_flit.specs.declared.numbers.Slot.{Slot}
use Rattle.chi_flit.specs.declared.kind.Kind.{Kind}
use Rattle.chi_flit.specs.declared.state.State.{State}
use Rattle.chi_flit.specs.declared.action.Step.{Step}
use Rattle.chi_flit.specs.declared.action.Step.TheVariants as steps
use Rattle.chi_flit.specs.declared.message.Request.{Request}
use Rattle.chi_flit.specs.declared.message.RspUp.{RspUp}
use Rattle.chi_flit.specs.declared.message.RspUp.TheVariants.{CompAck}
use Rattle.chi_flit.specs.declared.message.RspDown.{RspDown}
use Rattle.chi_flit.specs.declared.message.RspDown.TheVariants.{CompUC, CompI, CompDBIDResp}
use Rattle.chi_flit.specs.declared.message.DatUp.{DatUp}
use Rattle.chi_flit.specs.declared.message.DatUp.TheVariants.{CopyBackWrData}
use Rattle.chi_rnline.specs.declared.pending.Pending.{Pending}
use Rattle.chi_homeline.specs.declared.serving.Serving.{Serving}
use Rattle.chi_homeline.specs.declared.serving.Serving.TheVariants.{AwaitingCompAck, AwaitingWriteData}
use Rattle.chi_homeline.specs.declared.serving.Waiting.{Waiting}
use Rattle.chi_homeline.specs.Home.{acks_for, served_kind, served_slot, writes_for}
use Rattle.chi_line.specs.declared.act.Conditions.{Conditions}
use Rattle.chi_line.specs.LineState.{LineState, rn_of, cells_of}
use Rattle.chi_line.specs.Step.{admitted_line, after_step, answer_in, answered_by, completed_effect, completion_received, data_written, dbid_received_line, is_ack, is_comp, is_dbid, is_retry, is_write_data, received_line, resent_line, retried_line, snooped_line, started_line, step_effect, step_record, waiting_effect, where_some}
use Rattle.chi_line.specs.Refused.{retry_refusal, step_refusal}
use Rattle.chi_line.specs.Kept.{Kept}
use Rattle.chi_line.proofs.StepOf.{StepOf}
use Rattle.chi_line.proofs.After.{IsRetried, dbid_there, flit_there, may_resend, retry_there}
use Rattle.chi_line.proofs.Finds.{acknowledge_is_awaited, response_finds_pending, write_is_awaited}
use Rattle.chi_line.proofs.Sends.{CanStart, can_start}

-- where there is something, a step that takes it is the step of what is there
taken : {A : Type 0} (s : LineState) (there : Option A) (step : A → LineState) → is_some there ≡ true → (a : A) × (there ≡ Some a) × (where_some s there step ≡ step a)
taken s there step h = search arith

-- a request that may be retried is there
pub request_there : (there : Option Request) → retry_refusal there ≡ None → is_some there ≡ true
request_there there h = search arith

-- the request whose CompAck, or write data, is awaited
awaited_ack : (serving : Serving) (agent : Agent) → acks_for serving agent.0 ≡ true → (slot : Slot) × (serving ≡ AwaitingCompAck agent slot)
awaited_ack (AwaitingCompAck served slot) agent h = (slot, ap (λ (n : ℕ). AwaitingCompAck (record { 0 = n }) slot) (eqb-true served.0 agent.0 h))
awaited_ack serving agent h = absurd (cc (h))

awaited_write : (serving : Serving) (agent : Agent) → writes_for serving agent.0 ≡ true → (slot : Slot) × (kind : Kind) × (serving ≡ AwaitingWriteData agent kind slot)
awaited_write (AwaitingWriteData served kind slot) agent h = (slot, kind, ap (λ (n : ℕ). AwaitingWriteData (record { 0 = n }) kind slot) (eqb-true served.0 agent.0 h))
awaited_write serving agent h = absurd (cc (h))

ack_there : (there : Option RspUp) → is_ack there ≡ true → there ≡ Some CompAck
ack_there there h = search arith

write_there : (there : Option DatUp) → is_write_data there ≡ true → (form : State) × (words : List ℕ) × (there ≡ Some (CopyBackWrData form words))
write_there there h = search arith

comp_there : (there : Option RspDown) → is_comp there ≡ true → (there ≡ Some CompUC) ⊎ (there ≡ Some CompI)
comp_there there h = search arith

pub step_after : (c : Conditions) (last : List ℕ) (s : LineState) (agent : Agent) (line : Line) (step : Step) → agent.0 < 8 → step_refusal c s agent step ≡ None → Kept last s
    → StepOf c.profile s agent line step (step_effect s agent step) (step_record s agent line step) (after_step c.profile s agent step)
step_after c last s agent line (steps.Load word) low allowed k = (refl, refl, refl)
step_after c last s agent line (steps.Store word value) low allowed k = (refl, refl, refl)
step_after c last s agent line steps.Drop low allowed k = (refl, refl, refl)
step_after c last s agent line (steps.Issue kind slot) low allowed k = (refl, refl, refl)
step_after c last s agent line steps.Admit low allowed k =
    let t = taken s (cells_of s agent.0).req (admitted_line s agent.0) (flit_there (is_some (cells_of s agent.0).req) allowed) in
    (t.0, t.1, (refl, refl, t.2))
step_after c last s agent line steps.Retry low allowed k =
    let t = taken s (cells_of s agent.0).req (retried_line c.profile s agent.0) (request_there (cells_of s agent.0).req allowed) in
    (t.0, t.1, (refl, refl, t.2))
step_after c last s agent line steps.RecvRetry low allowed k =
    let there = retry_there (cells_of s agent.0).rsp_down (flit_there (is_retry (cells_of s agent.0).rsp_down) allowed) in
    (there.0, there.1, (refl, refl, refl))
step_after c last s agent line steps.Resend low allowed k =
    let may : IsRetried (rn_of s agent.0).pending = may_resend c s agent allowed in
    (may.request, may.is, (refl, refl, ap (λ (p : Option Pending). where_some s p (resent_line s agent.0)) may.is))
step_after c last s agent line steps.Cancel low allowed k = (refl, refl, refl)
step_after c last s agent line steps.Start low allowed k =
    let found : CanStart s.home agent.0 = can_start s.home agent.0 allowed in
    (found.request, found.waits, ap (waiting_effect s.home agent) found.waits, refl, ap (λ (w : Option Waiting). where_some s w (started_line s agent)) found.waits)
step_after c last s agent line steps.RecvSnp low allowed k =
    let t = taken s (cells_of s agent.0).snp (snooped_line s agent.0) (flit_there (is_some (cells_of s agent.0).snp) allowed) in
    (t.0, t.1, (refl, refl, t.2))
step_after c last s agent line steps.RecvSnpResp low allowed k =
    let t = taken s (answer_in (cells_of s agent.0)) (answered_by s agent) (flit_there (is_some (answer_in (cells_of s agent.0))) allowed) in
    (t.0, t.1, (refl, refl, t.2))
step_after c last s agent line steps.RecvData low allowed k =
    let t = taken s (cells_of s agent.0).dat_down (received_line s agent.0) (flit_there (is_some (cells_of s agent.0).dat_down) allowed) in
    (t.0, t.1, (refl, refl, t.2))
step_after c last s agent line steps.RecvComp low allowed k = ⊎_elim
    (λ (e : (cells_of s agent.0).rsp_down ≡ Some CompUC). inl (e, (refl, refl, ap (completion_received s agent.0) e)))
    (λ (e : (cells_of s agent.0).rsp_down ≡ Some CompI). inr (e, (refl, refl, ap (completion_received s agent.0) e)))
    (comp_there (cells_of s agent.0).rsp_down (flit_there (is_comp (cells_of s agent.0).rsp_down) allowed))
step_after c last s agent line steps.RecvAck low allowed k =
    let here = flit_there (is_ack (cells_of s agent.0).rsp_up) allowed in
    let t = awaited_ack s.home.serving agent (acknowledge_is_awaited last s agent.0 low k here) in
    (t.0, t.1, ack_there (cells_of s agent.0).rsp_up here, (ap (λ (v : Serving). completed_effect (served_slot v)) t.1, refl, refl))
step_after c last s agent line steps.RecvDbid low allowed k =
    let here = dbid_there (cells_of s agent.0).rsp_down (flit_there (is_dbid (cells_of s agent.0).rsp_down) allowed) in
    let t = taken s (rn_of s agent.0).pending (λ (request : Pending). dbid_received_line s agent.0 request.kind) (response_finds_pending last s agent.0 CompDBIDResp low k here) in
    (t.0, t.1, here, (refl, refl, t.2))
step_after c last s agent line steps.RecvWrData low allowed k =
    let here = flit_there (is_write_data (cells_of s agent.0).dat_up) allowed in
    let t = awaited_write s.home.serving agent (write_is_awaited last s agent.0 low k here) in
    let sent = write_there (cells_of s agent.0).dat_up here in (
      t.0,
      t.1,
      sent.0,
      sent.1,
      t.2,
      sent.2,
      (
        ap (λ (v : Serving). completed_effect (served_slot v)) t.2,
        refl,
        ap (λ (v : Serving). where_some s (served_kind v) (λ (kind : Kind). data_written s agent.0 kind (cells_of s agent.0).dat_up)) t.2
            ∙ ap (data_written s agent.0 t.1) sent.2,
      ),
    )
