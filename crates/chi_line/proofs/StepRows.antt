-- Each action but Start and RecvSnpResp is its row of the protocol.
use Rattle.std.proofs.Common.{◌≡◌, ℕ, ◌<◌, List, [], ◌∷◌, length, set, true, false, Option, Some, None, option_map, if◌then◌else◌, refl, ap, ◌∙◌, ◌⊎◌, inl, inr, arith}
use Rattle.chi_flit.specs.declared.numbers.Agent.{Agent}
use Rattle.chi_flit.specs.declared.numbers.Line.{Line}
use Rattle.chi_flit.specs.declared.numbers.Slot.{Slot}
use Rattle.chi_flit.specs.declared.numbers.WordNo.{WordNo}
use Rattle.chi_flit.specs.declared.kind.Kind.{Kind}
use Rattle.chi_flit.specs.declared.kind.Kind.TheVariants.{CleanUnique, Evict, WriteBackFull, WriteCleanFull, WriteEvictFull}
use Rattle.chi_flit.specs.declared.state.State.{State}
use Rattle.chi_flit.specs.declared.state.State.TheVariants.{I, SC, UC, UD, SD}
use Rattle.chi_flit.specs.declared.snoop.Snoop.{Snoop}
use Rattle.chi_flit.specs.declared.credit.CreditType.{CreditType}
use Rattle.chi_flit.specs.declared.credit.Profile.{Profile}
use Rattle.chi_flit.specs.declared.action.Step.TheVariants as steps
use Rattle.chi_flit.specs.declared.action.Effect.TheVariants.{Nothing, Value, Completed}
use Rattle.chi_flit.specs.declared.message.Channel.TheVariants as channels
use Rattle.chi_flit.specs.declared.message.Msg.{Msg}
use Rattle.chi_flit.specs.declared.message.Msg.TheVariants as messages
use Rattle.chi_flit.specs.declared.message.Request.{Request}
use Rattle.chi_flit.specs.declared.message.CompData.{CompData}
use Rattle.chi_flit.specs.declared.message.RspUp.{RspUp}
use Rattle.chi_flit.specs.declared.message.RspUp.TheVariants.{CompAck}
use Rattle.chi_flit.specs.declared.message.RspDown.{RspDown}
use Rattle.chi_flit.specs.declared.message.RspDown.TheVariants.{CompUC, CompI, CompDBIDResp, RetryAck}
use Rattle.chi_flit.specs.declared.message.DatUp.{DatUp}
use Rattle.chi_flit.specs.declared.message.DatUp.TheVariants.{CopyBackWrData}
use Rattle.chi_flit.specs.Kind.{is_copy_back, is_needed}
use Rattle.chi_flit.specs.Message.{write_data_of}
use Rattle.chi_flit.specs.Snoop.{answer_of}
use Rattle.chi_flit.specs.State.{is_dirty, is_unique, is_valid}
use Rattle.chi_filter.specs.Filter.{FilterState}
use Rattle.chi_journal.specs.declared.record.Record.TheVariants as records
use Rattle.chi_wires.specs.declared.cells.Cells.{Cells}
use Rattle.chi_wires.specs.Flight.{flit, flit_of, in_flight}
use Rattle.chi_rnline.specs.declared.pending.Pending.{Pending}
use Rattle.chi_rnline.specs.declared.pending.Phase.{Phase}
use Rattle.chi_rnline.specs.declared.pending.Phase.TheVariants.{Sent, Retried}
use Rattle.chi_rnline.specs.Rn.{Rn, cancel_refusal_of, in_phase, is_clean_copy, no_line, resend_refusal_of, rn_after_cancel, rn_after_comp, rn_after_data, rn_after_dbid, rn_after_drop, rn_after_evict, rn_after_issue, rn_after_resend, rn_after_retry, rn_after_snoop, rn_after_store, state_after_comp, state_after_write, word_of}
use Rattle.chi_homeline.specs.declared.serving.Serving.{Serving}
use Rattle.chi_homeline.specs.declared.serving.Serving.TheVariants.{AwaitingCompAck, AwaitingWriteData}
use Rattle.chi_homeline.specs.declared.serving.Waiting.{Waiting}
use Rattle.chi_homeline.specs.Home.{leaves, written_filter}
use Rattle.chi_line.specs.LineState.{LineState, cells_of, rn_of}
use Rattle.chi_line.specs.Kept.{allows}
use Rattle.chi_line.specs.Step.{acknowledged_line, admitted_line, cancelled_line, comp_received_line, dbid_received_line, dropped_line, evict_received_line, issued_line, received_line, resent_line, retried_line, retry_received_line, snooped_line, stored_line, written_line}
use Rattle.chi_line.specs.Traffic.{Balances, completion_ack, flit_on, request_again, retry_ack, snoop_answer}
use Rattle.chi_line.specs.Protocol.{LineStep, Copy, IsLeftBy, IsMadeUnique, Standing, WriteRow, issued, memory_with, request, with_for, with_pending, with_state, write_data}
use Rattle.chi_line.specs.Protocol.Serving.{Idle}
use Rattle.chi_line.specs.Meaning.{serving_of, standing_of}
use Rattle.chi_line.proofs.StandingParts.{becomes, keeps, leaves_filter, owner_is, puts, with_filter}

within : (n k : ℕ) → n < 8 → k ≡ 8 → n < k
within n k low is = omega arith

-- what the requester's side becomes
abbrev copy_of : Rn → Copy
copy_of rn = record { state = rn.state; words = rn.words }

abbrev pending_of : Rn → Option Pending
pending_of rn = rn.pending

abbrev with_rn : LineState → Agent → Rn → List Cells → LineState
with_rn s n rn flits = record s { requesters = set s.requesters n.0 rn; flits = flits }

copy_changed : (s : LineState) (n : Agent) (rn : Rn) (flits : List Cells) → n.0 < 8 → length s.requesters ≡ 8 → rn.pending ≡ (rn_of s n.0).pending
    → standing_of (with_rn s n rn flits) ≡ record (standing_of s) { copies = with_for (standing_of s).copies n (copy_of rn); flits = in_flight flits }
copy_changed s n rn flits low eight same = λ i. record (standing_of s) {
  copies = puts copy_of no_line s.requesters n rn (within n.0 _ low eight) i;
  pending = keeps pending_of no_line s.requesters n rn same i;
  flits = in_flight flits;
}

pending_changed : (s : LineState) (n : Agent) (rn : Rn) (flits : List Cells) → n.0 < 8 → length s.requesters ≡ 8 → copy_of rn ≡ copy_of (rn_of s n.0)
    → standing_of (with_rn s n rn flits) ≡ record (standing_of s) { pending = with_for (standing_of s).pending n rn.pending; flits = in_flight flits }
pending_changed s n rn flits low eight same = λ i. record (standing_of s) {
  copies = keeps copy_of no_line s.requesters n rn same i;
  pending = puts pending_of no_line s.requesters n rn (within n.0 _ low eight) i;
  flits = in_flight flits;
}

both_changed : (s : LineState) (n : Agent) (rn : Rn) (flits : List Cells) → n.0 < 8 → length s.requesters ≡ 8
    → standing_of (with_rn s n rn flits)
    ≡ record (standing_of s) { copies = with_for (standing_of s).copies n (copy_of rn); pending = with_for (standing_of s).pending n rn.pending; flits = in_flight flits }
both_changed s n rn flits low eight = λ i. record (standing_of s) {
  copies = puts copy_of no_line s.requesters n rn (within n.0 _ low eight) i;
  pending = puts pending_of no_line s.requesters n rn (within n.0 _ low eight) i;
  flits = in_flight flits;
}

-- the flit that is taken, out of its cell
req_there : (s : LineState) (n : Agent) (q : Request) → (cells_of s n.0).req ≡ Some q → flit_on s n channels.Req ≡ flit n (messages.Req q) ∷ []
req_there s n q here = ap (λ (o : Option Request). flit_of n (option_map messages.Req o)) here

snp_there : (s : LineState) (n : Agent) (q : Snoop) → (cells_of s n.0).snp ≡ Some q → flit_on s n channels.Snp ≡ flit n (messages.Snp q) ∷ []
snp_there s n q here = ap (λ (o : Option Snoop). flit_of n (option_map messages.Snp o)) here

rsp_there : (s : LineState) (n : Agent) (q : RspDown) → (cells_of s n.0).rsp_down ≡ Some q → flit_on s n channels.RspDown ≡ flit n (messages.RspDown q) ∷ []
rsp_there s n q here = ap (λ (o : Option RspDown). flit_of n (option_map messages.RspDown o)) here

data_there : (s : LineState) (n : Agent) (q : CompData) → (cells_of s n.0).dat_down ≡ Some q → flit_on s n channels.DatDown ≡ flit n (messages.DatDown q) ∷ []
data_there s n q here = ap (λ (o : Option CompData). flit_of n (option_map messages.DatDown o)) here

ack_there : (s : LineState) (n : Agent) (q : RspUp) → (cells_of s n.0).rsp_up ≡ Some q → flit_on s n channels.RspUp ≡ flit n (messages.RspUp q) ∷ []
ack_there s n q here = ap (λ (o : Option RspUp). flit_of n (option_map messages.RspUp o)) here

up_there : (s : LineState) (n : Agent) (q : DatUp) → (cells_of s n.0).dat_up ≡ Some q → flit_on s n channels.DatUp ≡ flit n (messages.DatUp q) ∷ []
up_there s n q here = ap (λ (o : Option DatUp). flit_of n (option_map messages.DatUp o)) here

-- the requester's actions
pub row_load : (profile : Profile) (line : Line) (s : LineState) (n : Agent) (word : WordNo) → is_valid (rn_of s n.0).state ≡ true → Balances [] [] s s
    → LineStep profile line n (steps.Load word) (standing_of s) (Value (word_of (rn_of s n.0) word.0)) (Some (records.Load n line word (word_of (rn_of s n.0) word.0))) (standing_of s)
row_load profile line s n word valid moves = (word_of (rn_of s n.0) word.0, refl, valid, refl, refl, (refl, moves))

pub row_store : (profile : Profile) (line : Line) (s : LineState) (n : Agent) (word : WordNo) (value : ℕ) → n.0 < 8 → length s.requesters ≡ 8 → (rn_of s n.0).pending ≡ None → is_unique (rn_of s n.0).state ≡ true
    → Balances [] [] s (stored_line s n.0 word.0 value)
    → LineStep profile line n (steps.Store word value) (standing_of s) Nothing (Some (records.Store n line word value)) (standing_of (stored_line s n.0 word.0 value))
row_store profile line s n word value low eight none unique moves = (none, unique, refl, refl, (copy_changed s n (rn_after_store (rn_of s n.0) word.0 value) s.flits low eight refl, moves))

clean_copy : (state : State) → is_clean_copy state ≡ true → (state ≡ SC) ⊎ (state ≡ UC)
clean_copy SC clean = inl refl
clean_copy UC clean = inr refl
clean_copy other clean = absurd cc

pub row_drop : (profile : Profile) (line : Line) (s : LineState) (n : Agent) → n.0 < 8 → length s.requesters ≡ 8 → (rn_of s n.0).pending ≡ None → is_clean_copy (rn_of s n.0).state ≡ true
    → Balances [] [] s (dropped_line s n.0) → LineStep profile line n steps.Drop (standing_of s) Nothing None (standing_of (dropped_line s n.0))
row_drop profile line s n low eight none clean moves = ((refl, refl), none, clean_copy (rn_of s n.0).state clean, (copy_changed s n (rn_after_drop (rn_of s n.0)) s.flits low eight refl, moves))

issue_is : (kind : Kind) (slot : Slot) (s : LineState) (n : Agent) (flits : List Cells) → n.0 < 8 → length s.requesters ≡ 8
    → standing_of (with_rn s n (rn_after_issue (rn_of s n.0) kind slot) flits)
    ≡ record (with_pending n (Some (record { kind = kind; slot = slot; phase = Sent })) (issued kind n (standing_of s))) { flits = in_flight flits }
issue_is Evict slot s n flits low eight = both_changed s n (rn_after_issue (rn_of s n.0) Evict slot) flits low eight
issue_is kind slot s n flits low eight = pending_changed s n (rn_after_issue (rn_of s n.0) kind slot) flits low eight refl

pub row_issue : (profile : Profile) (line : Line) (s : LineState) (n : Agent) (kind : Kind) (slot : Slot) → n.0 < 8 → length s.requesters ≡ 8 → (rn_of s n.0).pending ≡ None → is_needed kind (rn_of s n.0).state ≡ true
    → Balances [] (flit n (request kind slot true) ∷ []) s (issued_line s n.0 kind slot)
    → LineStep profile line n (steps.Issue kind slot) (standing_of s) Nothing None (standing_of (issued_line s n.0 kind slot))
row_issue profile line s n kind slot low eight none needed moves = ((refl, refl), none, needed, (issue_is kind slot s n (issued_line s n.0 kind slot).flits low eight, moves))

-- requests on their way
pub row_admit : (profile : Profile) (line : Line) (s : LineState) (n : Agent) (q : Request) → n.0 < 8 → length s.home.waiting ≡ 8 → (cells_of s n.0).req ≡ Some q
    → Balances (flit_on s n channels.Req) [] s (admitted_line s n.0 q) → LineStep profile line n steps.Admit (standing_of s) Nothing None (standing_of (admitted_line s n.0 q))
row_admit profile line s n q low eight here moves =
    let new : LineState = admitted_line s n.0 q in
    let w : Waiting = record { kind = q.kind; slot = q.slot } in (
      (refl, refl),
      q.kind,
      q.slot,
      q.allow_retry,
      becomes s new (record (standing_of s) { waiting = with_for (standing_of s).waiting n (Some w) }) _ _ [] [] (req_there s n q here) refl
          (λ i. record (standing_of s) { waiting = puts (λ (w : Option Waiting). w) None s.home.waiting n (Some w) (within n.0 _ low eight) i; flits = in_flight new.flits }) moves,
    )

pub row_retry : (profile : Profile) (line : Line) (s : LineState) (n : Agent) (q : Request) → (cells_of s n.0).req ≡ Some q → q.allow_retry ≡ true
    → Balances (flit_on s n channels.Req) (flit_of n (retry_ack profile (cells_of s n.0).req)) s (retried_line profile s n.0 q)
    → LineStep profile line n steps.Retry (standing_of s) Nothing None (standing_of (retried_line profile s n.0 q))
row_retry profile line s n q here allow moves = (
  (refl, refl),
  q.kind,
  q.slot,
  becomes s (retried_line profile s n.0 q) (standing_of s) _ _ _ _ (req_there s n q here ∙ (λ i. flit n (messages.Req (record q { allow_retry = allow i })) ∷ []))
      (ap (λ (o : Option Request). flit_of n (retry_ack profile o)) here) refl moves,
)

pub row_recv_retry : (profile : Profile) (line : Line) (s : LineState) (n : Agent) (ty : CreditType) (p : Pending) → n.0 < 8 → length s.requesters ≡ 8 → (cells_of s n.0).rsp_down ≡ Some (RetryAck ty) → (rn_of s n.0).pending ≡ Some p
    → Balances (flit_on s n channels.RspDown) [] s (retry_received_line s n.0) → LineStep profile line n steps.RecvRetry (standing_of s) Nothing None (standing_of (retry_received_line s n.0))
row_recv_retry profile line s n ty p low eight here is moves =
    let new : LineState = retry_received_line s n.0 in (
      (refl, refl),
      ty,
      p,
      is,
      becomes s new (with_pending n (Some (record p { phase = Retried })) (standing_of s)) _ _ [] [] (rsp_there s n (RetryAck ty) here) refl
          (pending_changed s n (rn_after_retry (rn_of s n.0)) new.flits low eight refl ∙ (λ i. record (standing_of s) { pending = with_for (standing_of s).pending n (in_phase Retried (is i)); flits = in_flight new.flits })) moves,
    )

needed_again : (state : State) (kind : Kind) (phase : Phase) → resend_refusal_of state kind phase ≡ None → is_copy_back kind ≡ true → is_needed kind state ≡ true
needed_again state kind Sent may back = absurd (cc (may))
needed_again state kind Retried may back = grind (arith, may, back)

pub row_resend : (profile : Profile) (line : Line) (s : LineState) (n : Agent) (p : Pending) → n.0 < 8 → length s.requesters ≡ 8 → (rn_of s n.0).pending ≡ Some p → p.phase ≡ Retried → resend_refusal_of (rn_of s n.0).state p.kind p.phase ≡ None
    → Balances [] (flit_of n (request_again (rn_of s n.0).pending)) s (resent_line s n.0 p) → LineStep profile line n steps.Resend (standing_of s) Nothing None (standing_of (resent_line s n.0 p))
row_resend profile line s n p low eight is phase may moves =
    let new : LineState = resent_line s n.0 p in (
      (refl, refl),
      p,
      is,
      phase,
      needed_again (rn_of s n.0).state p.kind p.phase may,
      becomes s new (with_pending n (Some (record p { phase = Sent })) (standing_of s)) [] [] _ _ refl (ap (λ (o : Option Pending). flit_of n (request_again o)) is)
          (pending_changed s n (rn_after_resend (rn_of s n.0)) new.flits low eight refl ∙ (λ i. record (standing_of s) { pending = with_for (standing_of s).pending n (in_phase Sent (is i)); flits = in_flight new.flits })) moves,
    )

gone_back : (state : State) (kind : Kind) (phase : Phase) → cancel_refusal_of state kind phase ≡ None → (is_copy_back kind ≡ true) × (is_needed kind state ≡ false)
gone_back state kind Sent may = absurd (cc (may))
gone_back state kind Retried may = (grind (arith, may), grind (arith, may))

pub row_cancel : (profile : Profile) (line : Line) (s : LineState) (n : Agent) (p : Pending) → n.0 < 8 → length s.requesters ≡ 8 → (rn_of s n.0).pending ≡ Some p → p.phase ≡ Retried → cancel_refusal_of (rn_of s n.0).state p.kind p.phase ≡ None
    → Balances [] [] s (cancelled_line s n.0) → LineStep profile line n steps.Cancel (standing_of s) Nothing None (standing_of (cancelled_line s n.0))
row_cancel profile line s n p low eight is phase may moves =
    let gone = gone_back (rn_of s n.0).state p.kind p.phase may in
    ((refl, refl), p, is, phase, gone.0, gone.1, (pending_changed s n (rn_after_cancel (rn_of s n.0)) s.flits low eight refl, moves))

-- messages to the requester
pub row_snoop : (profile : Profile) (line : Line) (s : LineState) (n : Agent) (q : Snoop) → n.0 < 8 → length s.requesters ≡ 8 → (cells_of s n.0).snp ≡ Some q
    → Balances (flit_on s n channels.Snp) (flit_of n (snoop_answer (rn_of s n.0) (cells_of s n.0).snp)) s (snooped_line s n.0 q) → LineStep profile line n steps.RecvSnp (standing_of s) Nothing None (standing_of (snooped_line s n.0 q))
row_snoop profile line s n q low eight here moves =
    let rn : Rn = rn_of s n.0 in
    let new : LineState = snooped_line s n.0 q in
    let answer : State × Msg = answer_of rn.state q rn.words in (
      (refl, refl),
      q,
      answer.0,
      answer.1,
      refl,
      becomes s new (with_state n answer.0 (standing_of s)) _ _ _ _ (snp_there s n q here) (ap (λ (o : Option Snoop). flit_of n (snoop_answer rn o)) here)
          (copy_changed s n (rn_after_snoop rn q) new.flits low eight refl) moves,
    )

pub row_data : (profile : Profile) (line : Line) (s : LineState) (n : Agent) (q : CompData) → n.0 < 8 → length s.requesters ≡ 8 → (cells_of s n.0).dat_down ≡ Some q
    → Balances (flit_on s n channels.DatDown) (flit n (messages.RspUp CompAck) ∷ []) s (received_line s n.0 q) → LineStep profile line n steps.RecvData (standing_of s) Nothing None (standing_of (received_line s n.0 q))
row_data profile line s n q low eight here moves =
    let new : LineState = received_line s n.0 q in (
      (refl, refl),
      q.unique,
      q.words,
      becomes s new (with_pending n None (record (standing_of s) { copies = with_for (standing_of s).copies n (record { state = if q.unique then UC else SC; words = q.words }) })) _ _ (flit n (messages.RspUp CompAck) ∷ []) (flit n (messages.RspUp CompAck) ∷ []) (data_there s n q here) refl
          (both_changed s n (rn_after_data (rn_of s n.0) q) new.flits low eight) moves,
    )

made_unique : (state : State) → allows CleanUnique state ≡ true → IsMadeUnique state (state_after_comp state)
made_unique I fits = refl
made_unique SC fits = refl
made_unique SD fits = refl
made_unique other fits = absurd cc

pub row_comp : (profile : Profile) (line : Line) (s : LineState) (n : Agent) → n.0 < 8 → length s.requesters ≡ 8 → (cells_of s n.0).rsp_down ≡ Some CompUC → allows CleanUnique (rn_of s n.0).state ≡ true
    → Balances (flit_on s n channels.RspDown) (flit_of n (completion_ack (cells_of s n.0).rsp_down)) s (comp_received_line s n.0) → LineStep profile line n steps.RecvComp (standing_of s) Nothing None (standing_of (comp_received_line s n.0))
row_comp profile line s n low eight here fits moves =
    let new : LineState = comp_received_line s n.0 in
    let left : State = state_after_comp (rn_of s n.0).state in (
      (refl, refl),
      inl (
        left,
        made_unique (rn_of s n.0).state fits,
        becomes s new (with_pending n None (with_state n left (standing_of s))) _ _ _ _ (rsp_there s n CompUC here) (ap (λ (o : Option RspDown). flit_of n (completion_ack o)) here)
            (both_changed s n (rn_after_comp (rn_of s n.0)) new.flits low eight) moves,
      ),
    )

pub row_comp_i : (profile : Profile) (line : Line) (s : LineState) (n : Agent) → n.0 < 8 → length s.requesters ≡ 8 → (cells_of s n.0).rsp_down ≡ Some CompI
    → Balances (flit_on s n channels.RspDown) (flit_of n (completion_ack (cells_of s n.0).rsp_down)) s (evict_received_line s n.0) → LineStep profile line n steps.RecvComp (standing_of s) Nothing None (standing_of (evict_received_line s n.0))
row_comp_i profile line s n low eight here moves =
    let new : LineState = evict_received_line s n.0 in (
      (refl, refl),
      inr (becomes s new (with_pending n None (standing_of s)) _ _ _ _ (rsp_there s n CompI here) (ap (λ (o : Option RspDown). flit_of n (completion_ack o)) here)
          (pending_changed s n (rn_after_evict (rn_of s n.0)) new.flits low eight refl) moves),
    )

left_by : (kind : Kind) (state : State) → allows kind state ≡ true → is_copy_back kind ≡ true → IsLeftBy kind state (state_after_write kind state)
left_by WriteBackFull state fits back = refl
left_by WriteEvictFull state fits back = refl
left_by WriteCleanFull UD fits back = refl
left_by WriteCleanFull SD fits back = refl
left_by WriteCleanFull SC fits back = refl
left_by WriteCleanFull I fits back = refl
left_by kind state fits back = absurd cc

write_is : (state : State) (words : List ℕ) → messages.DatUp (write_data_of state words) ≡ write_data state words
write_is I words = refl
write_is SC words = refl
write_is UC words = refl
write_is UD words = refl
write_is SD words = refl

pub row_dbid : (profile : Profile) (line : Line) (s : LineState) (n : Agent) (p : Pending) → n.0 < 8 → length s.requesters ≡ 8 → (cells_of s n.0).rsp_down ≡ Some CompDBIDResp → (rn_of s n.0).pending ≡ Some p → allows p.kind (rn_of s n.0).state ≡ true → is_copy_back p.kind ≡ true
    → Balances (flit_on s n channels.RspDown) (flit n (messages.DatUp (write_data_of (rn_of s n.0).state (rn_of s n.0).words)) ∷ []) s (dbid_received_line s n.0 p.kind) → LineStep profile line n steps.RecvDbid (standing_of s) Nothing None (standing_of (dbid_received_line s n.0 p.kind))
row_dbid profile line s n p low eight here is fits back moves =
    let rn : Rn = rn_of s n.0 in
    let new : LineState = dbid_received_line s n.0 p.kind in
    let left : State = state_after_write p.kind rn.state in (
      (refl, refl),
      p,
      left,
      is,
      left_by p.kind rn.state fits back,
      becomes s new (with_pending n None (with_state n left (standing_of s))) _ _ _ _ (rsp_there s n CompDBIDResp here) (ap (λ (m : Msg). flit n m ∷ []) (write_is rn.state rn.words))
          (both_changed s n (rn_after_dbid rn p.kind) new.flits low eight) moves,
    )

-- messages to the home
pub row_ack : (profile : Profile) (line : Line) (s : LineState) (n : Agent) (slot : Slot) → s.home.serving ≡ AwaitingCompAck n slot → (cells_of s n.0).rsp_up ≡ Some CompAck
    → Balances (flit_on s n channels.RspUp) [] s (acknowledged_line s n.0) → LineStep profile line n steps.RecvAck (standing_of s) (Completed slot) None (standing_of (acknowledged_line s n.0))
row_ack profile line s n slot serving here moves = (
  slot,
  refl,
  refl,
  ap (λ (v : Serving). serving_of v s.home.awaited) serving,
  becomes s (acknowledged_line s n.0) (record (standing_of s) { serving = Idle }) _ _ [] [] (ack_there s n CompAck here) refl refl moves,
)

writes_is : (kind : Kind) (form : State) (s : Standing) (f : FilterState) (n : Agent) → n.0 < length f.named → is_copy_back kind ≡ true → WriteRow kind form n (with_filter s f) (with_filter s (written_filter (leaves kind form) f n.0))
writes_is WriteBackFull form s f n low back = leaves_filter s f n low
writes_is WriteEvictFull form s f n low back = leaves_filter s f n low
writes_is WriteCleanFull I s f n low back = leaves_filter s f n low
writes_is WriteCleanFull form s f n low back = λ i. record (with_filter s f) { owner = owner_is f.owner n i }
writes_is kind form s f n low back = absurd cc

memory_is : (form : State) (words memory : List ℕ) → (if is_dirty form then words else memory) ≡ memory_with form words memory
memory_is I words memory = refl
memory_is SC words memory = refl
memory_is UC words memory = refl
memory_is UD words memory = refl
memory_is SD words memory = refl

pub row_written : (profile : Profile) (line : Line) (s : LineState) (n : Agent) (kind : Kind) (slot : Slot) (form : State) (words : List ℕ) → n.0 < 8 → length s.home.filter.named ≡ 8 → s.home.serving ≡ AwaitingWriteData n kind slot → (cells_of s n.0).dat_up ≡ Some (CopyBackWrData form words) → is_copy_back kind ≡ true
    → Balances (flit_on s n channels.DatUp) [] s (written_line s n.0 kind form words) → LineStep profile line n steps.RecvWrData (standing_of s) (Completed slot) None (standing_of (written_line s n.0 kind form words))
row_written profile line s n kind slot form words low eight serving here back moves =
    let f : FilterState = s.home.filter in
    let after : FilterState = written_filter (leaves kind form) f n.0 in
    let before : Standing = record (standing_of s) { memory = memory_with form words s.home.memory } in
    let new : LineState = written_line s n.0 kind form words in (
      slot,
      refl,
      refl,
      kind,
      form,
      words,
      with_filter before after,
      ap (λ (v : Serving). serving_of v s.home.awaited) serving,
      writes_is kind form before f n (within n.0 _ low eight) back,
      becomes s new (record (with_filter before after) { serving = Idle }) _ _ [] [] (up_there s n (CopyBackWrData form words) here) refl
          (λ i. record (with_filter before after) { memory = memory_is form words s.home.memory i; serving = Idle; flits = in_flight new.flits }) moves,
    )
