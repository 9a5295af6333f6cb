-- An action that has a row of the protocol isn't refused by its line.
use Rattle.std.proofs.Common.{◌≡◌, ℕ, List, Bool, true, false, Option, Some, None, is_some, option_map, if◌then◌else◌, Contains, sym, subst, refl, ap, ◌∙◌, ◌⊎◌, inl, inr, ⊎_elim, arith}
use Rattle.std.proofs.lemmas.Bool.{true≢false}
use Rattle.std.specs.List.{slice_index_or}
use Rattle.std.specs.Option.{option_or}
use Rattle.chi_flit.specs.declared.action.Step.TheVariants as steps
use Rattle.chi_flit.specs.declared.message.Request.{Request}
use Rattle.chi_flit.specs.declared.message.RspDown.{RspDown as RspDownOf}
use Rattle.chi_flit.specs.declared.message.RspUp.{RspUp as RspUpOf}
use Rattle.chi_flit.specs.declared.message.DatUp.{DatUp as DatUpOf}
use Rattle.chi_flit.specs.declared.message.Channel.TheVariants as channels
use Rattle.chi_flit.specs.declared.refusal.Refusal.{Refusal}
use Rattle.chi_flit.specs.declared.refusal.Refusal.TheVariants.{LineBusy, NoCredit, NotWaiting, Pending as Busy}
use Rattle.chi_flit.specs.Credit.{credit_number, credit_type_of}
use Rattle.chi_flit.specs.Kind.{is_copy_back, is_needed}
use Rattle.chi_flit.specs.Message.{channel_of}
use Rattle.chi_flit.specs.State.{is_unique, is_valid}
use Rattle.chi_wires.specs.Cell.{cell_of}
use Rattle.chi_wires.specs.Flight.{in_flight}
use Rattle.chi_line.specs.Types.{pending_credit}
use Rattle.chi_rnline.specs.declared.pending.Phase.{Phase}
use Rattle.chi_rnline.specs.Rn.{Rn, cancel_refusal_in, cancel_refusal_of, drop_refusal, issue_refusal, load_refusal, resend_refusal_in, resend_refusal_of, store_refusal}
use Rattle.chi_homeline.specs.declared.serving.Serving.{Serving as CodeServing}
use Rattle.chi_homeline.specs.Home.{is_idle, waiting_of}
use Rattle.chi_line.specs.declared.act.Conditions.{Conditions}
use Rattle.chi_line.specs.LineState.{LineState, rn_of, cells_of}
use Rattle.chi_line.specs.Refused.{full_if, no_flit_unless, retry_refusal, step_refusal, marked_credit_refusal}
use Rattle.chi_line.specs.Step.{answer_in, data_answer, is_ack, is_comp, is_dbid, is_retry, is_write_data, response_answer}
use Rattle.chi_line.specs.Kept.{is_answer as answers_rsp, is_snoop_data}
use Rattle.chi_line.specs.Words.{Agent, Line, Slot, State, I, SC, UC, UD, SD, Kind, CreditType, Step, Effect, Record, flit, Pending, Retried, Waiting}
use Rattle.chi_line.specs.Words.{Msg, Req, Snp, RspDown, DatDown, RspUp, DatUp, RetryAck, CompUC, CompI, CompDBIDResp, CompAck, CopyBackWrData}
use Rattle.chi_line.specs.Protocol.{LineStep, Standing, comp_data, request, with_for, write_data}
use Rattle.chi_line.specs.Protocol.Serving.{Idle}
use Rattle.chi_line.specs.RefusalRows.{HasRoom, Room, is_snoop_answer}
use Rattle.chi_line.specs.Meaning.{serving_of, standing_of}
use Rattle.chi_line.proofs.Law.{Comp, acked, answers_up, is_answered, then_took, took, took_for}
use Rattle.chi_line.proofs.OneFlit.{answer_up, data_answers, in_cell, rsp_answers}

-- beside the line: room for the action, and a credit of each type
abbrev pub room_in : Conditions → Room
room_in c = record { journal_full = c.journal_full; slot_used = c.slot_used }

pub record IsFree (c : Conditions) (step : Step) : Type 0 where
  pub room : HasRoom (room_in c) step
  pub credit : (ty : CreditType) → slice_index_or c.credits (credit_number ty) false ≡ true

there : (b : Bool) → b ≡ true → no_flit_unless b ≡ None
there b is = grind arith

load_free : (rn : Rn) (full : Bool) → is_valid rn.state ≡ true → full ≡ false → option_or (load_refusal rn) (full_if full) ≡ None
load_free rn full valid room = search (arith, valid, room)

store_free : (rn : Rn) (full : Bool) → rn.pending ≡ None → is_unique rn.state ≡ true → full ≡ false → option_or (store_refusal rn) (full_if full) ≡ None
store_free rn full none unique room = search (arith, none, unique, room)

drop_free : (rn : Rn) → rn.pending ≡ None → (rn.state ≡ SC) ⊎ (rn.state ≡ UC) → drop_refusal rn ≡ None
drop_free rn none (inl state) = search (arith, none, state)
drop_free rn none (inr state) = search (arith, none, state)

issue_free : (rn : Rn) (kind : Kind) → rn.pending ≡ None → is_needed kind rn.state ≡ true → issue_refusal rn kind ≡ None
issue_free rn kind none needed = search (arith, none, needed)

resend_free : (state : State) (kind : Kind) (phase : Phase) → phase ≡ Retried → (is_copy_back kind ≡ true → is_needed kind state ≡ true) → resend_refusal_of state kind phase ≡ None
resend_free state kind phase is may = go (is_copy_back kind) refl
  where
    go : (b : Bool) → is_copy_back kind ≡ b → resend_refusal_of state kind phase ≡ None
    go true back = let needed : is_needed kind state ≡ true = may back in search (arith, is, back, needed)
    go false back = search (arith, is, back)

cancel_free : (state : State) (kind : Kind) (phase : Phase) → phase ≡ Retried → is_copy_back kind ≡ true → is_needed kind state ≡ false → cancel_refusal_of state kind phase ≡ None
cancel_free state kind phase is back gone = search (arith, is, back, gone)

some_there : {A : Type 0} (f : A → Msg) (o : Option A) (m : Msg) → option_map f o ≡ Some m → is_some o ≡ true
some_there f None m is = absurd (cc (is))
some_there f (Some a) m is = refl

retry_cell : (o : Option Request) (kind : Kind) (slot : Slot) → option_map Req o ≡ Some (request kind slot true) → retry_refusal o ≡ None
retry_cell o kind slot is = search (arith, is)

rsp_retry : (o : Option RspDownOf) (ty : CreditType) → option_map RspDown o ≡ Some (RspDown (RetryAck ty)) → is_retry o ≡ true
rsp_retry o ty is = search (arith, is)

rsp_uc : (o : Option RspDownOf) → option_map RspDown o ≡ Some (RspDown CompUC) → is_comp o ≡ true
rsp_uc o is = search (arith, is)

rsp_i : (o : Option RspDownOf) → option_map RspDown o ≡ Some (RspDown CompI) → is_comp o ≡ true
rsp_i o is = search (arith, is)

rsp_dbid : (o : Option RspDownOf) → option_map RspDown o ≡ Some (RspDown CompDBIDResp) → is_dbid o ≡ true
rsp_dbid o is = search (arith, is)

up_ack : (o : Option RspUpOf) → option_map RspUp o ≡ Some (RspUp CompAck) → is_ack o ≡ true
up_ack o is = search (arith, is)

up_write : (o : Option DatUpOf) (form : State) (words : List ℕ) → option_map DatUp o ≡ Some (DatUp (CopyBackWrData form words)) → is_write_data o ≡ true
up_write o form words is = search (arith, is)

by_rsp : (o : Option RspUpOf) (d : Option DatUpOf) → answers_rsp o ≡ true → is_some (response_answer o (data_answer d)) ≡ true
by_rsp o d is = search (arith, is)

by_data : (o : Option RspUpOf) (d : Option DatUpOf) → is_snoop_data d ≡ true → is_some (response_answer o (data_answer d)) ≡ true
by_data o d is = search (arith, is)

idle_code : (v : CodeServing) (awaited : List Bool) → serving_of v awaited ≡ Idle → is_idle v ≡ true
idle_code v awaited is = search (arith, is)

neither_of : (first second : Option Refusal) → first ≡ None → second ≡ None → option_or first second ≡ None
neither_of first second a b = search (arith, a, b)

credit_free : (credits : List Bool) (o : Option CreditType) → ((ty : CreditType) → slice_index_or credits (credit_number ty) false ≡ true) → marked_credit_refusal credits o ≡ None
credit_free credits None all = refl
credit_free credits (Some ty) all = ap (λ (b : Bool). if b then None else Some NoCredit) (all ty)

start_free : (o : Option Waiting) (r : Waiting) (b : Bool) → o ≡ Some r → b ≡ true → (if is_some o then (if b then None else Some LineBusy) else Some NotWaiting) ≡ None
start_free o r b waits idle = search (arith, waits, idle)

write_apart : (state : State) (words : List ℕ) → write_data state words ≡ RspDown CompDBIDResp → ⊥
write_apart I words e = cc
write_apart SC words e = cc
write_apart UC words e = cc
write_apart UD words e = cc
write_apart SD words e = cc

abbrev Cell : LineState → Agent → Msg → Type 0
Cell s n m = cell_of (cells_of s n.0) (channel_of m) ≡ Some m

in_place : (s : LineState) (n : Agent) (m : Msg) → Contains (in_flight s.flits) (flit n m) → Cell s n m
in_place s n m c = in_cell s.flits n m c

comp_there : (s : LineState) (n : Agent) (new : Standing) → Comp n (standing_of s) new → is_comp (cells_of s n.0).rsp_down ≡ true
comp_there s n new (inl x) = rsp_uc (cells_of s n.0).rsp_down (in_place s n (RspDown CompUC) (acked n (in_flight s.flits) new.flits x.2.1))
comp_there s n new (inr x) = rsp_i (cells_of s n.0).rsp_down (in_place s n (RspDown CompI) (took n (RspDown CompI) (in_flight s.flits) new.flits x.1))

answer_there : (s : LineState) (n : Agent) (a : Msg) → is_snoop_answer a ≡ true → Contains (in_flight s.flits) (flit n a) → is_some (answer_in (cells_of s n.0)) ≡ true
answer_there s n a is c = ⊎_elim
    (λ (u : channel_of a ≡ channels.RspUp). by_rsp (cells_of s n.0).rsp_up (cells_of s n.0).dat_up (rsp_answers (cells_of s n.0).rsp_up a is (sym (ap (cell_of (cells_of s n.0)) u) ∙ in_place s n a c)))
    (λ (u : channel_of a ≡ channels.DatUp). by_data (cells_of s n.0).rsp_up (cells_of s n.0).dat_up (data_answers (cells_of s n.0).dat_up a is (sym (ap (cell_of (cells_of s n.0)) u) ∙ in_place s n a c)))
    (answer_up a is)

pub enabled : (c : Conditions) (s : LineState) (n : Agent) (line : Line) (step : Step) (e : Effect) (r : Option Record) (new : Standing) → IsFree c step
    → LineStep c.profile line n step (standing_of s) e r new → step_refusal c s n step ≡ None
enabled c s n line (steps.Load word) e r new free x = load_free (rn_of s n.0) c.journal_full x.2 free.room
enabled c s n line (steps.Store word value) e r new free x = store_free (rn_of s n.0) c.journal_full x.0 x.1 free.room
enabled c s n line steps.Drop e r new free x = drop_free (rn_of s n.0) x.1 x.2
enabled c s n line (steps.Issue kind slot) e r new free x = ap (λ (b : Bool). if b then Some Busy else issue_refusal (rn_of s n.0) kind) free.room ∙ issue_free (rn_of s n.0) kind x.1 x.2
enabled c s n line steps.Admit e r new free x =
    there (is_some (cells_of s n.0).req) (some_there Req (cells_of s n.0).req _ (in_place s n (request x.1 x.2 x.3) (took n (request x.1 x.2 x.3) (in_flight s.flits) new.flits x.4.1)))
enabled c s n line steps.Retry e r new free x =
    retry_cell (cells_of s n.0).req x.1 x.2 (in_place s n (request x.1 x.2 true) (took_for n n (request x.1 x.2 true) (RspDown (RetryAck (credit_type_of c.profile x.1))) (in_flight s.flits) new.flits
    (λ (q : RspDown (RetryAck (credit_type_of c.profile x.1)) ≡ request x.1 x.2 true). cc) x.3.1))
enabled c s n line steps.RecvRetry e r new free x =
    there (is_retry (cells_of s n.0).rsp_down) (rsp_retry (cells_of s n.0).rsp_down x.1 (in_place s n (RspDown (RetryAck x.1)) (took n (RspDown (RetryAck x.1)) (in_flight s.flits) new.flits x.4.1)))
enabled c s n line steps.Resend e r new free x =
    neither_of _ _ (subst (λ (o : Option Pending). resend_refusal_in (rn_of s n.0).state o ≡ None) (sym x.2) (resend_free (rn_of s n.0).state x.1.kind x.1.phase x.3 x.4))
    (credit_free c.credits (pending_credit c.profile (rn_of s n.0).pending) free.credit)
enabled c s n line steps.Cancel e r new free x =
    subst (λ (o : Option Pending). cancel_refusal_in (rn_of s n.0).state o ≡ None) (sym x.2) (cancel_free (rn_of s n.0).state x.1.kind x.1.phase x.3 x.4 x.5)
enabled c s n line steps.Start e r new free x = start_free (waiting_of s.home n.0) x.1 (is_idle s.home.serving) x.2 (idle_code s.home.serving s.home.awaited x.3)
enabled c s n line steps.RecvSnp e r new free x =
    let rn : Rn = rn_of s n.0 in
    let apart : x.3 ≡ Snp x.1 → ⊥ = λ (q : x.3 ≡ Snp x.1). true≢false (sym (answers_up rn.state x.1 rn.words) ∙ (ap (λ (p : State × Msg). is_snoop_answer p.1) x.4 ∙ ap is_snoop_answer q)) in
    there (is_some (cells_of s n.0).snp) (some_there Snp (cells_of s n.0).snp _ (in_place s n (Snp x.1) (took_for n n (Snp x.1) x.3 (in_flight s.flits) new.flits apart x.5.1)))
enabled c s n line steps.RecvSnpResp e r new free x =
    let is = is_answered n x.7 (standing_of s) x.8 x.9 in
    there (is_some (answer_in (cells_of s n.0))) (answer_there s n x.7 is (then_took n x.1 x.2 x.3 (with_for x.4 n false) (standing_of s) x.7 x.8 new is x.10))
enabled c s n line steps.RecvData e r new free x =
    there (is_some (cells_of s n.0).dat_down) (some_there DatDown (cells_of s n.0).dat_down _ (in_place s n (comp_data x.1 x.2) (took_for n n (comp_data x.1 x.2) (RspUp CompAck) (in_flight s.flits) new.flits (λ (q : RspUp CompAck ≡ comp_data x.1 x.2). cc) x.3.1)))
enabled c s n line steps.RecvComp e r new free x = there (is_comp (cells_of s n.0).rsp_down) (comp_there s n new x.1)
enabled c s n line steps.RecvAck e r new free x =
    there (is_ack (cells_of s n.0).rsp_up) (up_ack (cells_of s n.0).rsp_up (in_place s n (RspUp CompAck) (took n (RspUp CompAck) (in_flight s.flits) new.flits x.4.1)))
enabled c s n line steps.RecvDbid e r new free x =
    there (is_dbid (cells_of s n.0).rsp_down) (rsp_dbid (cells_of s n.0).rsp_down (in_place s n (RspDown CompDBIDResp)
    (took_for n n (RspDown CompDBIDResp) (write_data (rn_of s n.0).state (rn_of s n.0).words) (in_flight s.flits) new.flits (write_apart (rn_of s n.0).state (rn_of s n.0).words) x.5.1)))
enabled c s n line steps.RecvWrData e r new free x =
    there (is_write_data (cells_of s n.0).dat_up) (up_write (cells_of s n.0).dat_up x.4 x.5 (in_place s n (DatUp (CopyBackWrData x.4 x.5)) (took n (DatUp (CopyBackWrData x.4 x.5)) (in_flight s.flits) new.flits x.9.1)))
