-- Every action that isn't refused keeps what a line keeps.
use Rattle.std.proofs.Common.{◌≡◌, ℕ, ◌<◌, List, Bool, true, false, Option, Some, None, is_some, arith, refl, sym, ap, subst, if◌then◌else◌}
use Rattle.std.specs.Option.{option_or}
use Rattle.chi_flit.specs.declared.numbers.Agent.{Agent}
use Rattle.chi_flit.specs.declared.numbers.Line.{Line}
use Rattle.chi_flit.specs.declared.kind.Kind.{Kind}
use Rattle.chi_flit.specs.declared.state.State.{State}
use Rattle.chi_flit.specs.declared.action.Action.{Action}
use Rattle.chi_flit.specs.declared.action.Step.{Step}
use Rattle.chi_flit.specs.declared.action.Step.TheVariants as steps
use Rattle.chi_flit.specs.declared.credit.CreditType.{CreditType}
use Rattle.chi_flit.specs.declared.message.DatUp.{DatUp}
use Rattle.chi_flit.specs.declared.message.DatUp.TheVariants.{SnpRespDataIPD, SnpRespDataSCPD, SnpRespDataSD, CopyBackWrData}
use Rattle.chi_flit.specs.declared.message.RspUp.{RspUp}
use Rattle.chi_flit.specs.declared.message.RspUp.TheVariants.{SnpRespI, SnpRespSC, CompAck}
use Rattle.chi_flit.specs.declared.message.RspDown.{RspDown}
use Rattle.chi_flit.specs.declared.message.RspDown.TheVariants.{CompUC, CompI, CompDBIDResp, RetryAck}
use Rattle.chi_flit.specs.declared.refusal.Refusal.{Refusal}
use Rattle.chi_flit.specs.declared.refusal.Refusal.TheVariants as refusals
use Rattle.chi_flit.specs.Kind.{is_needed}
use Rattle.chi_flit.specs.State.{is_unique}
use Rattle.chi_journal.specs.declared.record.Record.{Record}
use Rattle.chi_journal.specs.Journal.{words_after}
use Rattle.chi_rnline.specs.declared.pending.Pending.{Pending}
use Rattle.chi_rnline.specs.declared.pending.Phase.TheVariants.{Retried}
use Rattle.chi_rnline.specs.Rn.{Rn, cancel_refusal_in, drop_refusal, is_clean_copy, issue_refusal, resend_refusal, resend_refusal_in, store_refusal}
use Rattle.chi_homeline.specs.declared.serving.SnoopAnswer.{SnoopAnswer}
use Rattle.chi_homeline.specs.declared.serving.SnoopAnswer.TheVariants as answers
use Rattle.chi_homeline.specs.Home.{Home, is_idle, served_kind, start_refusal, waiting_of}
use Rattle.chi_line.specs.declared.act.Conditions.{Conditions}
use Rattle.chi_line.specs.LineState.{LineState, rn_of, cells_of}
use Rattle.chi_line.specs.Kept.{Kept, kind_if}
use Rattle.chi_line.specs.Step.{after, after_step, admitted_line, answer_in, answered_by, completion_received, data_answer, data_written, dbid_received_line, is_ack, is_dbid, is_retry, line_uses, received_line, record_of, resent_line, response_answer, retried_line, snooped_line, started_line, step_record, where_some}
use Rattle.chi_line.specs.Types.{pending_credit}
use Rattle.chi_line.specs.Refused.{marked_credit_refusal, full_if, line_refusal, no_flit_unless, step_refusal}
use Rattle.chi_line.proofs.Asks.{same}
use Rattle.chi_line.proofs.Keeps.{kept_issued, kept_admitted, kept_received, kept_acknowledged}
use Rattle.chi_line.proofs.Starts.{kept_started}
use Rattle.chi_line.proofs.RetryKeeps.{kept_cancelled, kept_dropped, kept_evict_received, kept_resent, kept_retried, kept_retry_received, kept_stored}
use Rattle.chi_line.proofs.CopyKeeps.{kept_comp_received, kept_dbid_received, kept_snooped}
use Rattle.chi_line.proofs.WriteKeeps.{kept_written}
use Rattle.chi_line.proofs.AnswerKeeps.{kept_answered_by}
use Rattle.chi_line.proofs.WriteLanes.{Brings}

-- an Issue that isn't refused: its slot is idle, nothing is pending, the copy is in the needed state
pub record IssueAllowed (used : Bool) (rn : Rn) (kind : Kind) : Type 0 where
  pub idle_slot : used ≡ false
  pub none : rn.pending ≡ None
  pub needed : is_needed kind rn.state ≡ true

pub issue_allowed : (used : Bool) (rn : Rn) (kind : Kind)
    → (if used then Some refusals.Pending else issue_refusal rn kind) ≡ None → IssueAllowed used rn kind
issue_allowed used rn kind allowed = record { idle_slot = grind arith; none = grind arith; needed = grind arith }

pub flit_there : (there : Bool) → no_flit_unless there ≡ None → there ≡ true
flit_there there allowed = grind arith

-- a Start that isn't refused: the agent waits, and the line is idle
pub record StartAllowed (home : Home) (n : ℕ) : Type 0 where
  pub waits : is_some (waiting_of home n) ≡ true
  pub idle : is_idle home.serving ≡ true

pub start_allowed : (home : Home) (n : ℕ) → start_refusal home n ≡ None → StartAllowed home n
start_allowed home n allowed = record { waits = grind arith; idle = grind arith }

-- neither of two refusals
pub neither : (first second : Option Refusal) → option_or first second ≡ None → (first ≡ None) × (second ≡ None)
neither None second h = (refl, h)
neither (Some refusal) second h = absurd (cc (h))

-- a Store that isn't refused: nothing is pending, and the copy is unique
pub record StoreAllowed (rn : Rn) : Type 0 where
  pub none : rn.pending ≡ None
  pub unique : is_unique rn.state ≡ true

pub store_allowed : (rn : Rn) → store_refusal rn ≡ None → StoreAllowed rn
store_allowed rn allowed = record { none = grind arith; unique = grind arith }

-- a Drop that isn't refused: nothing is pending, and the copy is clean
pub record DropAllowed (rn : Rn) : Type 0 where
  pub none : rn.pending ≡ None
  pub clean : is_clean_copy rn.state ≡ true

pub drop_allowed : (rn : Rn) → drop_refusal rn ≡ None → DropAllowed rn
drop_allowed rn allowed = record { none = grind arith; clean = grind arith }

-- a Resend or Cancel that isn't refused: a request is in phase Retried
pub record IsRetried (pending : Option Pending) : Type 0 where
  pub request : Pending
  pub is : pending ≡ Some request
  pub phase : request.phase ≡ Retried

pub resend_allowed : (state : State) (pending : Option Pending) → resend_refusal_in state pending ≡ None → IsRetried pending
resend_allowed state None allowed = absurd (cc (allowed))
resend_allowed state (Some request) allowed = record { request = request; is = refl; phase = grind arith }

pub may_resend : (c : Conditions) (s : LineState) (agent : Agent) → step_refusal c s agent steps.Resend ≡ None → IsRetried (rn_of s agent.0).pending
may_resend c s agent allowed =
    let rn = rn_of s agent.0 in
    resend_allowed rn.state rn.pending (neither (resend_refusal rn) (marked_credit_refusal c.credits (pending_credit c.profile rn.pending)) allowed).0

pub cancel_allowed : (state : State) (pending : Option Pending) → cancel_refusal_in state pending ≡ None → IsRetried pending
cancel_allowed state None allowed = absurd (cc (allowed))
cancel_allowed state (Some request) allowed = record { request = request; is = refl; phase = grind arith }

pub retry_there : (there : Option RspDown) → is_retry there ≡ true → (ty : CreditType) × (there ≡ Some (RetryAck ty))
retry_there there h = search arith

pub dbid_there : (there : Option RspDown) → is_dbid there ≡ true → there ≡ Some CompDBIDResp
dbid_there there h = search arith

-- the flit that brings an answer to a snoop
brought_data : (response : Option RspUp) (sent : Option DatUp) (answer : SnoopAnswer) → data_answer sent ≡ Some answer → Brings response sent answer
brought_data response None answer h = absurd (cc (h))
brought_data response (Some (SnpRespDataIPD words)) answer h = let e : answers.IPD words ≡ answer = cc (h) in subst (Brings response (Some (SnpRespDataIPD words))) e refl
brought_data response (Some (SnpRespDataSCPD words)) answer h = let e : answers.SCPD words ≡ answer = cc (h) in subst (Brings response (Some (SnpRespDataSCPD words))) e refl
brought_data response (Some (SnpRespDataSD words)) answer h = let e : answers.SD words ≡ answer = cc (h) in subst (Brings response (Some (SnpRespDataSD words))) e refl
brought_data response (Some (CopyBackWrData form words)) answer h = absurd (cc (h))

pub brought : (response : Option RspUp) (sent : Option DatUp) (answer : SnoopAnswer) → response_answer response (data_answer sent) ≡ Some answer → Brings response sent answer
brought None sent answer h = brought_data None sent answer h
brought (Some SnpRespI) sent answer h = let e : answers.I ≡ answer = cc (h) in subst (Brings (Some SnpRespI) sent) e refl
brought (Some SnpRespSC) sent answer h = let e : answers.SC ≡ answer = cc (h) in subst (Brings (Some SnpRespSC) sent) e refl
brought (Some CompAck) sent answer h = brought_data (Some CompAck) sent answer h

kept_completion : (last : List ℕ) (s : LineState) (n : ℕ) (there : Option RspDown) → n < 8
    → (cells_of s n).rsp_down ≡ there → Kept last s → Kept last (completion_received s n there)
kept_completion last s n (Some CompUC) low here k = kept_comp_received last s n low here k
kept_completion last s n (Some CompI) low here k = kept_evict_received last s n low here k
kept_completion last s n there low here k = k

kept_data_written : (last : List ℕ) (s : LineState) (n : ℕ) (kind : Kind) (there : Option DatUp) → n < 8
    → (cells_of s n).dat_up ≡ there → served_kind s.home.serving ≡ Some kind → Kept last s → Kept last (data_written s n kind there)
kept_data_written last s n kind (Some (CopyBackWrData form words)) low here served k = kept_written last s n kind form words low here served k
kept_data_written last s n kind there low here served k = k

-- whether the slot that an Issue names is in use at the line
abbrev pub names_used_slot : LineState → ℕ → Step → Bool
names_used_slot s n (steps.Issue kind slot) = line_uses s n slot
names_used_slot s n other = false

-- a step that takes something away, kept where there is something
kept_where_some : {A : Type 0} (last : List ℕ) (s : LineState) (there : Option A) (step : A → LineState)
    → Kept last s → ((a : A) → there ≡ Some a → Kept last (step a)) → Kept last (where_some s there step)
kept_where_some last s None step k keeps = k
kept_where_some last s (Some a) step k keeps = keeps a refl

-- the values last stored to a line, with one more record or none
abbrev pub last_with : ℕ → List ℕ → Option Record → List ℕ
last_with line last None = last
last_with line last (Some entry) = words_after line last entry

pub kept_step : (c : Conditions) (last : List ℕ) (s : LineState) (agent : Agent) (line : Line) (step : Step) → agent.0 < 8
    → step_refusal c s agent step ≡ None → (c.slot_used ≡ false → names_used_slot s agent.0 step ≡ false) → Kept last s
    → Kept (last_with line.0 last (step_record s agent line step)) (after_step c.profile s agent step)
kept_step c last s agent line (steps.Load word) low allowed free k = k
kept_step c last s agent line (steps.Store word value) low allowed free k =
    let may : StoreAllowed (rn_of s agent.0) = store_allowed (rn_of s agent.0) (neither (store_refusal (rn_of s agent.0)) (full_if c.journal_full) allowed).0 in
    rw (same line.0) (kept_stored last s agent.0 word.0 value low may.none may.unique k)
kept_step c last s agent line steps.Drop low allowed free k =
    let may : DropAllowed (rn_of s agent.0) = drop_allowed (rn_of s agent.0) allowed in
    kept_dropped last s agent.0 low may.none may.clean k
kept_step c last s agent line (steps.Issue kind slot) low allowed free k =
    let may : IssueAllowed c.slot_used (rn_of s agent.0) kind = issue_allowed c.slot_used (rn_of s agent.0) kind allowed in
    kept_issued last s agent.0 kind slot low may.none may.needed (free may.idle_slot) k
kept_step c last s agent line steps.Admit low allowed free k =
    kept_where_some last s (cells_of s agent.0).req (admitted_line s agent.0) k (λ request here. kept_admitted last s agent.0 request low here k)
kept_step c last s agent line steps.Retry low allowed free k =
    kept_where_some last s (cells_of s agent.0).req (retried_line c.profile s agent.0) k (λ request here. kept_retried c.profile last s agent.0 request low here k)
kept_step c last s agent line steps.RecvRetry low allowed free k =
    let there = retry_there (cells_of s agent.0).rsp_down (flit_there (is_retry (cells_of s agent.0).rsp_down) allowed) in
    kept_retry_received last s agent.0 there.0 low there.1 k
kept_step c last s agent line steps.Resend low allowed free k =
    let may : IsRetried (rn_of s agent.0).pending = may_resend c s agent allowed in
    subst (λ (p : Option Pending). Kept last (where_some s p (resent_line s agent.0))) (sym may.is)
    (kept_resent last s agent.0 may.request low may.is may.phase k)
kept_step c last s agent line steps.Cancel low allowed free k =
    let may : IsRetried (rn_of s agent.0).pending = cancel_allowed (rn_of s agent.0).state (rn_of s agent.0).pending allowed in
    kept_cancelled last s agent.0 may.request low may.is may.phase k
kept_step c last s agent line steps.Start low allowed free k =
    kept_where_some last s (waiting_of s.home agent.0) (started_line s agent) k
    (λ request here. kept_started s last agent request low here (start_allowed s.home agent.0 allowed).idle k)
kept_step c last s agent line steps.RecvSnp low allowed free k =
    kept_where_some last s (cells_of s agent.0).snp (snooped_line s agent.0) k (λ snoop here. kept_snooped last s agent.0 snoop low here k)
kept_step c last s agent line steps.RecvSnpResp low allowed free k =
    kept_where_some last s (answer_in (cells_of s agent.0)) (answered_by s agent) k
    (λ answer here. kept_answered_by last s agent answer low (brought (cells_of s agent.0).rsp_up (cells_of s agent.0).dat_up answer here) k)
kept_step c last s agent line steps.RecvData low allowed free k =
    kept_where_some last s (cells_of s agent.0).dat_down (received_line s agent.0) k (λ message here. kept_received last s agent.0 message low here k)
kept_step c last s agent line steps.RecvComp low allowed free k =
    kept_completion last s agent.0 (cells_of s agent.0).rsp_down low refl k
kept_step c last s agent line steps.RecvAck low allowed free k =
    kept_acknowledged last s agent.0 low (flit_there (is_ack (cells_of s agent.0).rsp_up) allowed) k
kept_step c last s agent line steps.RecvDbid low allowed free k =
    let there = dbid_there (cells_of s agent.0).rsp_down (flit_there (is_dbid (cells_of s agent.0).rsp_down) allowed) in
    kept_where_some last s (rn_of s agent.0).pending (λ (request : Pending). dbid_received_line s agent.0 request.kind) k
    (λ request here. kept_dbid_received last s agent.0 request.kind low there (ap kind_if here) k)
kept_step c last s agent line steps.RecvWrData low allowed free k =
    kept_where_some last s (served_kind s.home.serving) (λ (kind : Kind). data_written s agent.0 kind (cells_of s agent.0).dat_up) k
    (λ kind here. kept_data_written last s agent.0 kind (cells_of s agent.0).dat_up low refl here k)

pub kept_after : (c : Conditions) (last : List ℕ) (s : LineState) (a : Action) → a.agent.0 < 8
    → line_refusal c s a ≡ None → (c.slot_used ≡ false → names_used_slot s a.agent.0 a.step ≡ false) → Kept last s
    → Kept (last_with a.line.0 last (record_of s a)) (after c.profile s a)
kept_after c last s a low allowed free k = kept_step c last s a.agent a.line a.step low allowed free k
