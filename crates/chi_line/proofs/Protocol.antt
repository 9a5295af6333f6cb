-- Every action that isn't refused is its row of the protocol.
use Rattle.std.proofs.Common.{◌≡◌, ℕ, ◌<◌, List, [], Bool, true, Option, Some, None, is_some, sym, subst, refl, ap, ◌∙◌, ⊎_elim, arith}
use Rattle.chi_flit.specs.declared.numbers.Agent.{Agent}
use Rattle.chi_flit.specs.declared.numbers.Line.{Line}
use Rattle.chi_flit.specs.declared.kind.Kind.{Kind}
use Rattle.chi_flit.specs.declared.kind.Kind.TheVariants.{CleanUnique}
use Rattle.chi_flit.specs.declared.action.Effect.{Effect}
use Rattle.chi_flit.specs.declared.action.Effect.TheVariants.{Nothing, Completed}
use Rattle.chi_flit.specs.declared.action.Step.{Step}
use Rattle.chi_flit.specs.declared.action.Step.TheVariants as steps
use Rattle.chi_flit.specs.declared.message.Request.{Request}
use Rattle.chi_flit.specs.declared.message.RspDown.TheVariants.{CompUC, CompI, CompDBIDResp, RetryAck}
use Rattle.chi_flit.specs.Kind.{is_copy_back}
use Rattle.chi_flit.specs.State.{is_valid}
use Rattle.chi_rnline.specs.declared.pending.Pending.{Pending}
use Rattle.chi_rnline.specs.Rn.{cancel_refusal_in, load_refusal, resend_refusal, resend_refusal_in, store_refusal}
use Rattle.chi_homeline.specs.declared.serving.Serving.{Serving}
use Rattle.chi_homeline.specs.declared.serving.Serving.TheVariants.{AwaitingWriteData}
use Rattle.chi_homeline.specs.declared.serving.SnoopAnswer.{SnoopAnswer}
use Rattle.chi_homeline.specs.declared.serving.Waiting.{Waiting}
use Rattle.chi_homeline.specs.Home.{served_kind, started_sends, waiting_of}
use Rattle.chi_line.specs.declared.act.Conditions.{Conditions}
use Rattle.chi_line.specs.LineState.{LineState, rn_of, cells_of}
use Rattle.chi_line.specs.Kept.{IsServedRight, Kept, Lane, LaneKept, is_comp_unique, is_dbid, kind_if, lane, writes_for}
use Rattle.chi_line.specs.Refused.{marked_credit_refusal, full_if, retry_refusal, step_refusal}
use Rattle.chi_line.specs.Step.{acknowledged_line, after_step, answer_in, answered_by, comp_received_line, evict_received_line, resent_line, started_effect, started_line, step_effect, step_record, where_some}
use Rattle.chi_line.proofs.StepOf.{Changes}
use Rattle.chi_line.specs.Traffic.{Balances, answer_flit, answered_flits, flit_taken, flits_sent, started_flits}
use Rattle.chi_line.specs.Types.{pending_credit}
use Rattle.chi_line.specs.Protocol.{LineStep}
use Rattle.chi_line.specs.Meaning.{standing_of}
use Rattle.chi_line.proofs.After.{DropAllowed, IsRetried, IssueAllowed, StoreAllowed, brought, cancel_allowed, drop_allowed, issue_allowed, may_resend, neither, start_allowed, store_allowed}
use Rattle.chi_line.proofs.Finds.{response_finds_pending}
use Rattle.chi_line.proofs.Steps.{step_after}
use Rattle.chi_line.proofs.StepRows.{row_ack, row_admit, row_cancel, row_comp, row_comp_i, row_data, row_dbid, row_drop, row_issue, row_load, row_recv_retry, row_resend, row_retry, row_snoop, row_store, row_written}
use Rattle.chi_line.proofs.AnswerRows.{row_answer}
use Rattle.chi_line.proofs.StartRows.{row_start}

is_there : (o : Option Pending) → is_some o ≡ true → (p : Pending) × (o ≡ Some p)
is_there None some = absurd (cc (some))
is_there (Some p) some = (p, refl)

-- write data is asked for a copy-back
back_served : (serving : Serving) (n : ℕ) (kind : Kind) → writes_for serving n ≡ true → IsServedRight serving → Some kind ≡ served_kind serving → is_copy_back kind ≡ true
back_served (AwaitingWriteData agent own slot) n kind writes right is = let e : kind ≡ own = cc in ap is_copy_back e ∙ right.1
back_served serving n kind writes right is = absurd cc

dbid_writes : (serving : Serving) (unique : Bool) (owner : Option Agent) (last : List ℕ) (n : ℕ) (x : Lane) → is_dbid x.flits.rsp_down ≡ true → LaneKept serving unique owner last n x → writes_for serving n ≡ true
dbid_writes serving unique owner last n x here k = search (arith, here, k.one_write)

dbid_back : (last : List ℕ) (s : LineState) (n : Agent) (p : Pending) → n.0 < 8 → Kept last s → (rn_of s n.0).pending ≡ Some p → (cells_of s n.0).rsp_down ≡ Some CompDBIDResp → is_copy_back p.kind ≡ true
dbid_back last s n p low k is here =
    let lane_kept = k.lanes n.0 low in
    let there : is_dbid (cells_of s n.0).rsp_down ≡ true = ap is_dbid here in
    back_served s.home.serving n.0 p.kind (dbid_writes s.home.serving s.home.filter.unique s.home.filter.owner last n.0 (lane s n.0) there lane_kept) k.in_range (sym (ap kind_if is) ∙ lane_kept.dbid_kind there)

-- what is shown of a line, shown of an equal one
carry : (before after : LineState → Type 0) (v w : LineState) → v ≡ w → (before w → after w) → before v → after v
carry before after v w is step b = subst after (sym is) (step (subst before is b))

allowed_retry : (q : Request) → retry_refusal (Some q) ≡ None → q.allow_retry ≡ true
allowed_retry q may = grind arith

valid_copy : (c : Conditions) (s : LineState) (n : Agent) → load_refusal (rn_of s n.0) ≡ None → is_valid (rn_of s n.0).state ≡ true
valid_copy c s n may = grind (arith, may)

pub line_step : (c : Conditions) (last : List ℕ) (s : LineState) (n : Agent) (line : Line) (step : Step) → n.0 < 8 → step_refusal c s n step ≡ None → Kept last s
    → Balances (flit_taken s n step) (flits_sent c.profile s n step) s (after_step c.profile s n step)
    → LineStep c.profile line n step (standing_of s) (step_effect s n step) (step_record s n line step) (standing_of (after_step c.profile s n step))
line_step c last s n line (steps.Load word) low may k moves =
    row_load c.profile line s n word (valid_copy c s n (neither (load_refusal (rn_of s n.0)) (full_if c.journal_full) may).0) moves
line_step c last s n line (steps.Store word value) low may k moves =
    let a : StoreAllowed (rn_of s n.0) = store_allowed (rn_of s n.0) (neither (store_refusal (rn_of s n.0)) (full_if c.journal_full) may).0 in
    row_store c.profile line s n word value low k.requesters a.none a.unique moves
line_step c last s n line steps.Drop low may k moves =
    let a : DropAllowed (rn_of s n.0) = drop_allowed (rn_of s n.0) may in
    row_drop c.profile line s n low k.requesters a.none a.clean moves
line_step c last s n line (steps.Issue kind slot) low may k moves =
    let a : IssueAllowed c.slot_used (rn_of s n.0) kind = issue_allowed c.slot_used (rn_of s n.0) kind may in
    row_issue c.profile line s n kind slot low k.requesters a.none a.needed moves
line_step c last s n line steps.Admit low may k moves =
    let t = step_after c last s n line steps.Admit low may k in
    carry (λ v. Balances (flit_taken s n steps.Admit) [] s v) (λ v. LineStep c.profile line n steps.Admit (standing_of s) Nothing None (standing_of v)) _ _ t.2.2
    (λ m. row_admit c.profile line s n t.0 low k.waiting t.1 m) moves
line_step c last s n line steps.Retry low may k moves =
    let t = step_after c last s n line steps.Retry low may k in
    carry (λ v. Balances (flit_taken s n steps.Retry) (flits_sent c.profile s n steps.Retry) s v) (λ v. LineStep c.profile line n steps.Retry (standing_of s) Nothing None (standing_of v)) _ _ t.2.2
    (λ m. row_retry c.profile line s n t.0 t.1 (allowed_retry t.0 (subst (λ (o : Option Request). retry_refusal o ≡ None) t.1 may)) m) moves
line_step c last s n line steps.RecvRetry low may k moves =
    let t = step_after c last s n line steps.RecvRetry low may k in
    let p = is_there (rn_of s n.0).pending (response_finds_pending last s n.0 (RetryAck t.0) low k t.1) in
    row_recv_retry c.profile line s n t.0 p.0 low k.requesters t.1 p.1 moves
line_step c last s n line steps.Resend low may k moves =
    let t = step_after c last s n line steps.Resend low may k in
    let r : IsRetried (rn_of s n.0).pending = may_resend c s n may in
    let free = (neither (resend_refusal (rn_of s n.0)) (marked_credit_refusal c.credits (pending_credit c.profile (rn_of s n.0).pending)) may).0 in
    carry (λ v. Balances [] (flits_sent c.profile s n steps.Resend) s v) (λ v. LineStep c.profile line n steps.Resend (standing_of s) Nothing None (standing_of v)) _ _
    (ap (λ (o : Option Pending). where_some s o (resent_line s n.0)) r.is)
    (λ m. row_resend c.profile line s n r.request low k.requesters r.is r.phase (subst (λ (o : Option Pending). resend_refusal_in (rn_of s n.0).state o ≡ None) r.is free) m) moves
line_step c last s n line steps.Cancel low may k moves =
    let r : IsRetried (rn_of s n.0).pending = cancel_allowed (rn_of s n.0).state (rn_of s n.0).pending may in
    row_cancel c.profile line s n r.request low k.requesters r.is r.phase (subst (λ (o : Option Pending). cancel_refusal_in (rn_of s n.0).state o ≡ None) r.is may) moves
line_step c last s n line steps.Start low may k moves =
    let t = step_after c last s n line steps.Start low may k in
    let by_effect : LineStep c.profile line n steps.Start (standing_of s) (started_effect (started_sends s.home n t.0)) None (standing_of (after_step c.profile s n steps.Start)) =
    carry (λ v. Balances [] (started_flits s.home n (waiting_of s.home n.0)) s v) (λ v. LineStep c.profile line n steps.Start (standing_of s) (started_effect (started_sends s.home n t.0)) None (standing_of v)) _ _ t.4
    (λ m. row_start c.profile line last s n t.0 low t.1 (start_allowed s.home n.0 may).idle k (subst (λ (o : Option Waiting). Balances [] (started_flits s.home n o) s (started_line s n t.0)) t.1 m)) moves in
    subst (λ (e : Effect). LineStep c.profile line n steps.Start (standing_of s) e None (standing_of (after_step c.profile s n steps.Start))) (sym t.2) by_effect
line_step c last s n line steps.RecvSnp low may k moves =
    let t = step_after c last s n line steps.RecvSnp low may k in
    carry (λ v. Balances (flit_taken s n steps.RecvSnp) (flits_sent c.profile s n steps.RecvSnp) s v) (λ v. LineStep c.profile line n steps.RecvSnp (standing_of s) Nothing None (standing_of v)) _ _ t.2.2
    (λ m. row_snoop c.profile line s n t.0 low k.requesters t.1 m) moves
line_step c last s n line steps.RecvSnpResp low may k moves =
    let t = step_after c last s n line steps.RecvSnpResp low may k in
    carry (λ v. Balances (answer_flit s n (answer_in (cells_of s n.0))) (answered_flits s.home n (answer_in (cells_of s n.0))) s v) (λ v. LineStep c.profile line n steps.RecvSnpResp (standing_of s) Nothing None (standing_of v)) _ _ t.2.2
    (λ m. row_answer c.profile line last s n t.0 low (brought (cells_of s n.0).rsp_up (cells_of s n.0).dat_up t.0 t.1) k
    (subst (λ (o : Option SnoopAnswer). Balances (answer_flit s n o) (answered_flits s.home n o) s (answered_by s n t.0)) t.1 m)) moves
line_step c last s n line steps.RecvData low may k moves =
    let t = step_after c last s n line steps.RecvData low may k in
    carry (λ v. Balances (flit_taken s n steps.RecvData) (flits_sent c.profile s n steps.RecvData) s v) (λ v. LineStep c.profile line n steps.RecvData (standing_of s) Nothing None (standing_of v)) _ _ t.2.2
    (λ m. row_data c.profile line s n t.0 low k.requesters t.1 m) moves
line_step c last s n line steps.RecvComp low may k moves = ⊎_elim
    (λ (t : ((cells_of s n.0).rsp_down ≡ Some CompUC) × Changes Nothing None (after_step c.profile s n steps.RecvComp) (comp_received_line s n.0)).
    carry (λ v. Balances (flit_taken s n steps.RecvComp) (flits_sent c.profile s n steps.RecvComp) s v) (λ v. LineStep c.profile line n steps.RecvComp (standing_of s) Nothing None (standing_of v)) _ _ t.1.2
    (λ m. row_comp c.profile line s n low k.requesters t.0 ((k.lanes n.0 low).kind_fits CleanUnique ((k.lanes n.0 low).comp_kind (ap is_comp_unique t.0))) m) moves)
    (λ (t : ((cells_of s n.0).rsp_down ≡ Some CompI) × Changes Nothing None (after_step c.profile s n steps.RecvComp) (evict_received_line s n.0)).
    carry (λ v. Balances (flit_taken s n steps.RecvComp) (flits_sent c.profile s n steps.RecvComp) s v) (λ v. LineStep c.profile line n steps.RecvComp (standing_of s) Nothing None (standing_of v)) _ _ t.1.2
    (λ m. row_comp_i c.profile line s n low k.requesters t.0 m) moves)
    (step_after c last s n line steps.RecvComp low may k)
line_step c last s n line steps.RecvAck low may k moves =
    let t = step_after c last s n line steps.RecvAck low may k in
    subst (λ (e : Effect). LineStep c.profile line n steps.RecvAck (standing_of s) e None (standing_of (acknowledged_line s n.0))) (sym t.3.0)
    (row_ack c.profile line s n t.0 t.1 t.2 moves)
line_step c last s n line steps.RecvDbid low may k moves =
    let t = step_after c last s n line steps.RecvDbid low may k in
    carry (λ v. Balances (flit_taken s n steps.RecvDbid) (flits_sent c.profile s n steps.RecvDbid) s v) (λ v. LineStep c.profile line n steps.RecvDbid (standing_of s) Nothing None (standing_of v)) _ _ t.3.2
    (λ m. row_dbid c.profile line s n t.0 low k.requesters t.2 t.1 ((k.lanes n.0 low).kind_fits t.0.kind (ap kind_if t.1)) (dbid_back last s n t.0 low k t.1 t.2) m) moves
line_step c last s n line steps.RecvWrData low may k moves =
    let t = step_after c last s n line steps.RecvWrData low may k in
    let by_effect : LineStep c.profile line n steps.RecvWrData (standing_of s) (Completed t.0) None (standing_of (after_step c.profile s n steps.RecvWrData)) =
    carry (λ v. Balances (flit_taken s n steps.RecvWrData) [] s v) (λ v. LineStep c.profile line n steps.RecvWrData (standing_of s) (Completed t.0) None (standing_of v)) _ _ t.6.2
    (λ m. row_written c.profile line s n t.1 t.0 t.2 t.3 low k.named t.4 t.5 (subst IsServedRight t.4 k.in_range).1 m) moves in
    subst (λ (e : Effect). LineStep c.profile line n steps.RecvWrData (standing_of s) e None (standing_of (after_step c.profile s n steps.RecvWrData))) (sym t.6.0) by_effect
