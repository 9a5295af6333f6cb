-- An action is refused by its line as the refusals of its row say.
use Rattle.std.proofs.Common.{◌≡◌, List, [], ◌∷◌, Bool, true, false, not, ◌&&◌, ◌||◌, ◌==◌, cond, Option, Some, None, is_some, option_map, if◌then◌else◌, filter, refl, ap, ap₂, ◌∙◌, arith}
use Rattle.std.specs.List.{list_any, slice_index_or}
use Rattle.std.specs.Option.{option_or}
use Rattle.std.proofs.lemmas.Bool.{and_parts, eq-eqb}
use Rattle.chi_flit.specs.declared.action.Step.TheVariants as steps
use Rattle.chi_flit.specs.declared.message.Channel.{Channel}
use Rattle.chi_flit.specs.declared.message.Channel.TheVariants as channels
use Rattle.chi_flit.specs.declared.message.CompData.{CompData}
use Rattle.chi_flit.specs.declared.message.Request.{Request}
use Rattle.chi_flit.specs.declared.message.RspDown.{RspDown as RspDownOf}
use Rattle.chi_flit.specs.declared.message.RspUp.{RspUp as RspUpOf}
use Rattle.chi_flit.specs.declared.message.DatUp.{DatUp as DatUpOf}
use Rattle.chi_flit.specs.declared.refusal.Refusal.{Refusal}
use Rattle.chi_flit.specs.declared.refusal.Refusal.TheVariants as refusals
use Rattle.chi_flit.specs.Credit.{credit_number}
use Rattle.chi_flit.specs.Kind.{is_needed}
use Rattle.chi_flit.specs.Message.{channel_of}
use Rattle.chi_flit.specs.State.{is_unique, is_valid}
use Rattle.chi_wires.specs.declared.cells.Cells.{Cells}
use Rattle.chi_wires.specs.Cell.{cell_of}
use Rattle.chi_wires.specs.Flight.{channel_number, flit_of, in_flight, is_at}
use Rattle.chi_wires.specs.Flits.{cells_at}
use Rattle.chi_wires.proofs.Once.{once}
use Rattle.chi_rnline.specs.Rn.{cancel_refusal_in, is_clean_copy, resend_refusal_in}
use Rattle.chi_homeline.specs.declared.serving.Serving.{Serving}
use Rattle.chi_homeline.specs.declared.serving.Serving.TheVariants as code
use Rattle.chi_homeline.specs.Home.{is_idle as is_idle_home, waiting_of}
use Rattle.chi_line.specs.declared.act.Conditions.{Conditions}
use Rattle.chi_line.specs.LineState.{LineState, cells_of, rn_of}
use Rattle.chi_line.specs.Refused.{marked_credit_refusal, full_if, no_flit_unless, retry_refusal, step_refusal}
use Rattle.chi_line.specs.Step.{answer_in, data_answer, is_ack, is_comp, is_dbid, is_retry, is_slot, is_write_data, line_uses, pending_slot, response_answer, slot_served_for, waiting_slot}
use Rattle.chi_line.specs.Types.{pending_credit}
use Rattle.chi_line.specs.Words.{Agent, Slot, State, Step, Snoop, CreditType, Flit, Pending, Waiting, Msg, Req, Snp, RspDown, DatDown, RspUp, DatUp}
use Rattle.chi_line.specs.Meaning.{serving_of, standing_of}
use Rattle.chi_line.specs.RefusalRows.{Room, has_pending_slot, has_waiting_slot, is_comp_ack, is_comp_data, is_completion, is_data_request, is_droppable, is_first_attempt, is_flit_of, is_line_idle, is_outdated, is_request, is_retried, is_retry_ack, is_served_slot, is_snoop, is_snoop_answer, is_written_data, refusal_row, refused_if, uses_slot}

abbrev pub room_of : Conditions → Room
room_of c = record { journal_full = c.journal_full; slot_used = c.slot_used }

-- what passes a test is among those that pass a weaker one
any_filtered : (p q : Flit → Bool) → ((f : Flit) → p f ≡ true → q f ≡ true) → (xs : List Flit) → list_any p xs ≡ list_any p (filter q xs)
any_filtered p q weaker [] = refl
any_filtered p q weaker (x ∷ xs) = go (any_filtered p q weaker xs) (p x) (q x) refl refl
  where
    go : list_any p xs ≡ list_any p (filter q xs) → (a b : Bool) → p x ≡ a → q x ≡ b → (p x || list_any p xs) ≡ list_any p (cond b (x ∷ filter q xs) (filter q xs))
    go rest a true passes here = ap (λ (r : Bool). p x || r) rest
    go rest true false passes here = let there : q x ≡ true = weaker x passes in absurd (cc (here, there))
    go rest false false passes here = ap (λ (b : Bool). b || list_any p xs) passes ∙ rest

any_or : (p q r : Flit → Bool) → ((f : Flit) → p f ≡ (q f || r f)) → (xs : List Flit) → list_any p xs ≡ (list_any q xs || list_any r xs)
any_or p q r is [] = refl
any_or p q r is (x ∷ xs) = ap₂ (λ (a b : Bool). a || b) (is x) (any_or p q r is xs) ∙ mixed (q x) (r x) (list_any q xs) (list_any r xs)
  where
    mixed : (a b c d : Bool) → ((a || b) || (c || d)) ≡ ((a || c) || (b || d))
    mixed a b c d = search arith

-- whether a cell's message passes a test
abbrev holds : (Msg → Bool) → Option Msg → Bool
holds test None = false
holds test (Some m) = test m

in_cell_is : (test : Msg → Bool) (n : Agent) (cell : Option Msg) → list_any (is_flit_of test n) (flit_of n cell) ≡ holds test cell
in_cell_is test n None = refl
in_cell_is test n (Some m) = ap (λ (b : Bool). (b && test m) || false) (eq-eqb n.0 n.0 refl) ∙ plain (test m)
  where
    plain : (b : Bool) → ((true && b) || false) ≡ b
    plain b = search arith

at_place : (test : Msg → Bool) (channel : Channel) (n : Agent) → ((m : Msg) → test m ≡ true → channel_of m ≡ channel) → (f : Flit) → is_flit_of test n f ≡ true → is_at channel n f ≡ true
at_place test channel n on f is =
    let parts = and_parts (f.agent.0 == n.0) (test f.message) is in
    ap₂ (λ (a b : Bool). a && b) (eq-eqb (channel_number (channel_of f.message)) (channel_number channel) (ap channel_number (on f.message parts.1))) parts.0

any_in : (test : Msg → Bool) (channel : Channel) (n : Agent) (flits : List Cells) → ((m : Msg) → test m ≡ true → channel_of m ≡ channel)
    → list_any (is_flit_of test n) (in_flight flits) ≡ holds test (cell_of (cells_at flits n.0) channel)
any_in test channel n flits on =
    any_filtered (is_flit_of test n) (is_at channel n) (at_place test channel n on) (in_flight flits)
    ∙ (ap (list_any (is_flit_of test n)) (once flits n channel) ∙ in_cell_is test n (cell_of (cells_at flits n.0) channel))

-- on which channel a message is
request_on : (m : Msg) → is_request m ≡ true → channel_of m ≡ channels.Req
request_on (Req request) is = refl
request_on other is = absurd (cc (is))

first_on : (m : Msg) → is_first_attempt m ≡ true → channel_of m ≡ channels.Req
first_on (Req request) is = refl
first_on other is = absurd (cc (is))

retry_on : (m : Msg) → is_retry_ack m ≡ true → channel_of m ≡ channels.RspDown
retry_on (RspDown response) is = refl
retry_on other is = absurd (cc (is))

snoop_on : (m : Msg) → is_snoop m ≡ true → channel_of m ≡ channels.Snp
snoop_on (Snp snoop) is = refl
snoop_on other is = absurd (cc (is))

data_on : (m : Msg) → is_comp_data m ≡ true → channel_of m ≡ channels.DatDown
data_on (DatDown response) is = refl
data_on other is = absurd (cc (is))

completion_on : (m : Msg) → is_completion m ≡ true → channel_of m ≡ channels.RspDown
completion_on (RspDown response) is = refl
completion_on other is = absurd (cc (is))

ack_on : (m : Msg) → is_comp_ack m ≡ true → channel_of m ≡ channels.RspUp
ack_on (RspUp response) is = refl
ack_on other is = absurd (cc (is))

asked_on : (m : Msg) → is_data_request m ≡ true → channel_of m ≡ channels.RspDown
asked_on (RspDown response) is = refl
asked_on other is = absurd (cc (is))

written_on : (m : Msg) → is_written_data m ≡ true → channel_of m ≡ channels.DatUp
written_on (DatUp response) is = refl
written_on other is = absurd (cc (is))

-- an answer is a response or data
abbrev is_answer_response : Msg → Bool
is_answer_response (RspUp response) = is_snoop_answer (RspUp response)
is_answer_response other = false

abbrev is_answer_data : Msg → Bool
is_answer_data (DatUp sent) = is_snoop_answer (DatUp sent)
is_answer_data other = false

response_on : (m : Msg) → is_answer_response m ≡ true → channel_of m ≡ channels.RspUp
response_on (RspUp response) is = refl
response_on other is = absurd (cc (is))

sent_on : (m : Msg) → is_answer_data m ≡ true → channel_of m ≡ channels.DatUp
sent_on (DatUp sent) is = refl
sent_on other is = absurd (cc (is))

either : (m : Msg) → is_snoop_answer m ≡ (is_answer_response m || is_answer_data m)
either (RspUp response) = first (is_snoop_answer (RspUp response))
  where
    first : (b : Bool) → b ≡ (b || false)
    first b = search arith
either (DatUp sent) = refl
either other = refl

either_of : (n : Agent) (f : Flit) → is_flit_of is_snoop_answer n f ≡ (is_flit_of is_answer_response n f || is_flit_of is_answer_data n f)
either_of n f = ap (λ (b : Bool). (f.agent.0 == n.0) && b) (either f.message) ∙ spread (f.agent.0 == n.0) (is_answer_response f.message) (is_answer_data f.message)
  where
    spread : (a b c : Bool) → (a && (b || c)) ≡ ((a && b) || (a && c))
    spread a b c = search arith

-- what the cells of n have
request_is : (o : Option Request) → holds is_request (option_map Req o) ≡ is_some o
request_is None = refl
request_is (Some request) = refl

snoop_is : (o : Option Snoop) → holds is_snoop (option_map Snp o) ≡ is_some o
snoop_is None = refl
snoop_is (Some snoop) = refl

retry_is : (o : Option RspDownOf) → holds is_retry_ack (option_map RspDown o) ≡ is_retry o
retry_is o = search arith

completion_is : (o : Option RspDownOf) → holds is_completion (option_map RspDown o) ≡ is_comp o
completion_is o = search arith

asked_is : (o : Option RspDownOf) → holds is_data_request (option_map RspDown o) ≡ is_dbid o
asked_is o = search arith

data_is : (o : Option CompData) → holds is_comp_data (option_map DatDown o) ≡ is_some o
data_is None = refl
data_is (Some response) = refl

ack_is : (o : Option RspUpOf) → holds is_comp_ack (option_map RspUp o) ≡ is_ack o
ack_is o = search arith

written_is : (o : Option DatUpOf) → holds is_written_data (option_map DatUp o) ≡ is_write_data o
written_is o = search arith

answer_is : (r : Option RspUpOf) (d : Option DatUpOf) → (holds is_answer_response (option_map RspUp r) || holds is_answer_data (option_map DatUp d)) ≡ is_some (response_answer r (data_answer d))
answer_is r d = search arith

answer_in_flight : (n : Agent) (flits : List Cells) → list_any (is_flit_of is_snoop_answer n) (in_flight flits) ≡ is_some (answer_in (cells_at flits n.0))
answer_in_flight n flits =
    any_or (is_flit_of is_snoop_answer n) (is_flit_of is_answer_response n) (is_flit_of is_answer_data n) (either_of n) (in_flight flits)
    ∙ (ap₂ (λ (a b : Bool). a || b) (any_in is_answer_response channels.RspUp n flits response_on) (any_in is_answer_data channels.DatUp n flits sent_on)
    ∙ answer_is (cells_at flits n.0).rsp_up (cells_at flits n.0).dat_up)

-- 7
no_flit_is : (a b : Bool) → b ≡ a → no_flit_unless a ≡ refused_if (not b) refusals.NoFlit None
no_flit_is a b is = search (arith, is)

retry_row : (o : Option Request) (a b : Bool) → a ≡ holds is_request (option_map Req o) → b ≡ holds is_first_attempt (option_map Req o)
    → retry_refusal o ≡ refused_if (not a) refusals.NoFlit (refused_if (not b) refusals.MustAccept None)
retry_row o a b here first = search (arith, here, first)

-- the rows of the requester's side
load_row : (state : State) (full : Bool) → option_or (if is_valid state then None else Some refusals.WrongState) (full_if full) ≡ refused_if (not (is_valid state)) refusals.WrongState (refused_if full refusals.JournalFull None)
load_row state full = search arith

store_row : (p : Option Pending) (state : State) (full : Bool) → option_or (if is_some p then Some refusals.Pending else (if is_unique state then None else Some refusals.WrongState)) (full_if full)
    ≡ refused_if (is_some p) refusals.Pending (refused_if (not (is_unique state)) refusals.WrongState (refused_if full refusals.JournalFull None))
store_row p state full = search arith

drop_row : (p : Option Pending) (state : State) → (if is_some p then Some refusals.Pending else (if is_clean_copy state then None else Some refusals.WrongState))
    ≡ refused_if (is_some p) refusals.Pending (refused_if (not (is_droppable state)) refusals.WrongState None)
drop_row p state = search arith

issue_row : (p : Option Pending) (used needed : Bool) → (if used then Some refusals.Pending else (if is_some p then Some refusals.Pending else (if needed then None else Some refusals.WrongState)))
    ≡ refused_if (is_some p || used) refusals.Pending (refused_if (not needed) refusals.WrongState None)
issue_row p used needed = search arith

resend_row : (p : Option Pending) (state : State) → resend_refusal_in state p ≡ refused_if (not (is_retried p)) refusals.NothingPending (refused_if (is_outdated p state) refusals.WrongState None)
resend_row p state = search arith

cancel_row : (p : Option Pending) (state : State) → cancel_refusal_in state p ≡ refused_if (not (is_retried p)) refusals.NothingPending (refused_if (not (is_outdated p state)) refusals.WrongState None)
cancel_row p state = search arith

-- a credit of each type refuses nothing
credit_row : (refusal : Option Refusal) (credits : List Bool) (ty : Option CreditType) → ((t : CreditType) → slice_index_or credits (credit_number t) false ≡ true) → option_or refusal (marked_credit_refusal credits ty) ≡ refusal
credit_row (Some refusal) credits ty all = refl
credit_row None credits None all = refl
credit_row None credits (Some ty) all = ap (λ (b : Bool). if b then None else Some refusals.NoCredit) (all ty)

idle_row : (v : Serving) (awaited : List Bool) → is_line_idle (serving_of v awaited) ≡ is_idle_home v
idle_row code.Idle awaited = refl
idle_row (code.Snooping agent kind slot) awaited = refl
idle_row (code.AwaitingCompAck agent slot) awaited = refl
idle_row (code.AwaitingWriteData agent kind slot) awaited = refl

start_row : (w : Option Waiting) (a b : Bool) → b ≡ a → (if is_some w then (if a then None else Some refusals.LineBusy) else Some refusals.NotWaiting)
    ≡ refused_if (not (is_some w)) refusals.NotWaiting (refused_if (not b) refusals.LineBusy None)
start_row w a b is = search (arith, is)

pub refusals_are : (c : Conditions) (s : LineState) (n : Agent) (step : Step) → ((ty : CreditType) → slice_index_or c.credits (credit_number ty) false ≡ true)
    → step_refusal c s n step ≡ refusal_row (room_of c) (standing_of s) n step
refusals_are c s n (steps.Load word) all = load_row (rn_of s n.0).state c.journal_full
refusals_are c s n (steps.Store word value) all = store_row (rn_of s n.0).pending (rn_of s n.0).state c.journal_full
refusals_are c s n steps.Drop all = drop_row (rn_of s n.0).pending (rn_of s n.0).state
refusals_are c s n (steps.Issue kind slot) all = issue_row (rn_of s n.0).pending c.slot_used (is_needed kind (rn_of s n.0).state)
refusals_are c s n steps.Admit all = no_flit_is (is_some (cells_of s n.0).req) _ (any_in is_request channels.Req n s.flits request_on ∙ request_is (cells_of s n.0).req)
refusals_are c s n steps.Retry all = retry_row (cells_of s n.0).req _ _ (any_in is_request channels.Req n s.flits request_on) (any_in is_first_attempt channels.Req n s.flits first_on)
refusals_are c s n steps.RecvRetry all = no_flit_is (is_retry (cells_of s n.0).rsp_down) _ (any_in is_retry_ack channels.RspDown n s.flits retry_on ∙ retry_is (cells_of s n.0).rsp_down)
refusals_are c s n steps.Resend all = credit_row (resend_refusal_in (rn_of s n.0).state (rn_of s n.0).pending) c.credits (pending_credit c.profile (rn_of s n.0).pending) all ∙ resend_row (rn_of s n.0).pending (rn_of s n.0).state
refusals_are c s n steps.Cancel all = cancel_row (rn_of s n.0).pending (rn_of s n.0).state
refusals_are c s n steps.Start all = start_row (waiting_of s.home n.0) (is_idle_home s.home.serving) (is_line_idle (serving_of s.home.serving s.home.awaited)) (idle_row s.home.serving s.home.awaited)
refusals_are c s n steps.RecvSnp all = no_flit_is (is_some (cells_of s n.0).snp) _ (any_in is_snoop channels.Snp n s.flits snoop_on ∙ snoop_is (cells_of s n.0).snp)
refusals_are c s n steps.RecvSnpResp all = no_flit_is (is_some (answer_in (cells_of s n.0))) _ (answer_in_flight n s.flits)
refusals_are c s n steps.RecvData all = no_flit_is (is_some (cells_of s n.0).dat_down) _ (any_in is_comp_data channels.DatDown n s.flits data_on ∙ data_is (cells_of s n.0).dat_down)
refusals_are c s n steps.RecvComp all = no_flit_is (is_comp (cells_of s n.0).rsp_down) _ (any_in is_completion channels.RspDown n s.flits completion_on ∙ completion_is (cells_of s n.0).rsp_down)
refusals_are c s n steps.RecvAck all = no_flit_is (is_ack (cells_of s n.0).rsp_up) _ (any_in is_comp_ack channels.RspUp n s.flits ack_on ∙ ack_is (cells_of s n.0).rsp_up)
refusals_are c s n steps.RecvDbid all = no_flit_is (is_dbid (cells_of s n.0).rsp_down) _ (any_in is_data_request channels.RspDown n s.flits asked_on ∙ asked_is (cells_of s n.0).rsp_down)
refusals_are c s n steps.RecvWrData all = no_flit_is (is_write_data (cells_of s n.0).dat_up) _ (any_in is_written_data channels.DatUp n s.flits written_on ∙ written_is (cells_of s n.0).dat_up)

-- a slot in use
pending_is : (p : Option Pending) (slot : Slot) → has_pending_slot p slot ≡ is_slot (pending_slot p) slot
pending_is None slot = refl
pending_is (Some p) slot = refl

waiting_is : (w : Option Waiting) (slot : Slot) → has_waiting_slot w slot ≡ is_slot (waiting_slot w) slot
waiting_is None slot = refl
waiting_is (Some w) slot = refl

served_if : (own slot : Slot) (b : Bool) → (b && (own.0 == slot.0)) ≡ is_slot (if b then Some own else None) slot
served_if own slot true = refl
served_if own slot false = refl

served_is : (v : Serving) (awaited : List Bool) (n : Agent) (slot : Slot) → is_served_slot (serving_of v awaited) n slot ≡ is_slot (slot_served_for v n.0) slot
served_is code.Idle awaited n slot = refl
served_is (code.Snooping agent kind own) awaited n slot = served_if own slot (agent.0 == n.0)
served_is (code.AwaitingCompAck agent own) awaited n slot = served_if own slot (agent.0 == n.0)
served_is (code.AwaitingWriteData agent kind own) awaited n slot = served_if own slot (agent.0 == n.0)

pub uses_are : (s : LineState) (n : Agent) (slot : Slot) → uses_slot (standing_of s) n slot ≡ line_uses s n.0 slot
uses_are s n slot =
    ap₂ (λ (a b : Bool). a || b) (pending_is (rn_of s n.0).pending slot)
    (ap₂ (λ (a b : Bool). a || b) (waiting_is (waiting_of s.home n.0) slot) (served_is s.home.serving s.home.awaited n slot))
