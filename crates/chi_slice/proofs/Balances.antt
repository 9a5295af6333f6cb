-- No step that isn't refused loses a flit or makes one: what it finds empty, and what it takes and sends.
use Rattle.std.proofs.Common.{◌≡◌, ℕ, ◌++◌, ◌<◌, ◌≤◌, List, [], ◌∷◌, Bool, true, false, Option, Some, None, is_some, if◌then◌else◌, option_map, length, get_or, refl, sym, ◌∙◌, ap, subst, arith, slice_set, ⊎_elim}
use Rattle.std.specs.List.Sorted.{IsPermutation}
use Rattle.std.proofs.lemmas.Bool.{cases_lt, eqb-true}
use Rattle.std.proofs.lemmas.List.{get_or_past, length-set}
use Rattle.std.proofs.lemmas.List.Sorted.{IsPermutation-refl}
use Rattle.chi_flit.specs.declared.numbers.Agent.{Agent}
use Rattle.chi_flit.specs.declared.numbers.Slot.{Slot}
use Rattle.chi_flit.specs.declared.action.Step.{Step}
use Rattle.chi_flit.specs.declared.action.Step.TheVariants as steps
use Rattle.chi_flit.specs.declared.credit.Profile.{Profile}
use Rattle.chi_flit.specs.declared.kind.Kind.{Kind}
use Rattle.chi_flit.specs.declared.kind.Kind.TheVariants.{ReadNotSharedDirty, ReadShared, ReadUnique, CleanUnique, Evict}
use Rattle.chi_flit.specs.declared.message.Channel.TheVariants as channels
use Rattle.chi_flit.specs.declared.message.CompData.{CompData}
use Rattle.chi_flit.specs.declared.message.DatUp.{DatUp}
use Rattle.chi_flit.specs.declared.message.DatUp.TheVariants.{CopyBackWrData}
use Rattle.chi_flit.specs.declared.message.Msg.TheVariants as messages
use Rattle.chi_flit.specs.declared.message.Request.{Request}
use Rattle.chi_flit.specs.declared.message.RspDown.{RspDown}
use Rattle.chi_flit.specs.declared.message.RspDown.TheVariants.{RetryAck, CompUC, CompI, CompDBIDResp}
use Rattle.chi_flit.specs.declared.message.RspUp.{RspUp}
use Rattle.chi_flit.specs.declared.message.RspUp.TheVariants.{CompAck}
use Rattle.chi_flit.specs.declared.snoop.Snoop.{Snoop}
use Rattle.chi_flit.specs.declared.snoop.Snoop.TheVariants.{SnpShared, SnpNotSharedDirty, SnpUnique, SnpCleanInvalid}
use Rattle.chi_flit.specs.declared.state.State.{State}
use Rattle.chi_flit.specs.Credit.{credit_type_of}
use Rattle.chi_flit.specs.Kind.{snoop_of}
use Rattle.chi_flit.specs.Message.{channel_of, write_data_of}
use Rattle.chi_flit.specs.Snoop.{answer_of}
use Rattle.chi_filter.specs.Filter.{has_any}
use Rattle.chi_wires.specs.declared.cells.Cells.{Cells}
use Rattle.chi_wires.specs.Cell.{cell_of, no_flits, without_message}
use Rattle.chi_wires.specs.Flight.{flit, flit_of, in_flight}
use Rattle.chi_wires.specs.Flits.{cells_at}
use Rattle.chi_wires.proofs.Moved.{clear_removes, exchange_swaps, put_adds, snoops_add, taken_sent}
use Rattle.chi_rnline.specs.declared.pending.Pending.{Pending}
use Rattle.chi_rnline.specs.Rn.{request_message}
use Rattle.chi_homeline.specs.declared.serving.Completion.{Completion}
use Rattle.chi_homeline.specs.declared.serving.Serving.{Serving}
use Rattle.chi_homeline.specs.declared.serving.Serving.TheVariants as serving
use Rattle.chi_homeline.specs.declared.serving.SnoopAnswer.{SnoopAnswer}
use Rattle.chi_homeline.specs.declared.serving.Waiting.{Waiting}
use Rattle.chi_homeline.specs.Home.{Started, asks, completes_unique, completion_form, completion_of, acks_for, is_idle, served_kind, served_sends, snoop_answered_sends, started_sends, started_sends_as, waiting_of}
use Rattle.chi_homeline.specs.Home.Started.{Evicted, Sends, Snoops}
use Rattle.chi_line.specs.declared.act.Conditions.{Conditions}
use Rattle.chi_line.specs.Kept.{IsServedRight, Kept, Lane, LaneKept, is_comp_unique, lane, snoop_out, snoops_for, writes_for}
use Rattle.chi_line.specs.LineState.{LineState, cells_of, rn_of}
use Rattle.chi_line.specs.RefusalRows.{is_retried, is_retried_phase}
use Rattle.chi_line.specs.Refused.{step_refusal}
use Rattle.chi_line.specs.Snooped.{answer_channel, completion_put}
use Rattle.chi_line.specs.Step.{admitted_line, after_step, answer_in, answered_by, completion_received, data_written, dbid_received_line, flits_after_start, is_ack, is_comp, is_dbid, is_write_data, received_line, resent_line, retried_line, snooped_line, started_line, where_some}
use Rattle.chi_line.specs.Traffic.{Balances, answer_flit, answered_flits, completion_ack, completion_flits, flit_on, flit_taken, flits_sent, request_again, retry_ack, snoop_answer, start_flits, started_flits}
use Rattle.chi_line.proofs.After.{IsRetried, dbid_there, flit_there, issue_allowed, may_resend}
use Rattle.chi_line.proofs.Answering.{answer_completes, completion_finds_empty}
use Rattle.chi_line.proofs.Asks.{asks_fit}
use Rattle.chi_line.proofs.Finds.{response_finds_pending, write_is_awaited}
use Rattle.chi_line.proofs.Sends.{CanStart, can_start, completion_down}
use Rattle.chi_line.proofs.Steps.{request_there}

-- WHAT A STEP FINDS EMPTY, by the clauses of the agent's lane
-- a request is in one place: there is none in flight where none is pending, or the pending one is retried
unsent : (serving : Serving) (unique : Bool) (owner : Option Agent) (last : List ℕ) (n : ℕ) (x : Lane) → x.rn.pending ≡ None → LaneKept serving unique owner last n x → x.flits.req ≡ None
unsent serving unique owner last n x none k = search (arith, none, k.one_place)

retried_unsent : (serving : Serving) (unique : Bool) (owner : Option Agent) (last : List ℕ) (n : ℕ) (x : Lane) → is_retried x.rn.pending ≡ true → LaneKept serving unique owner last n x → x.flits.req ≡ None
retried_unsent serving unique owner last n x retried k = search (arith, retried, k.one_place)

-- one that is in flight, waits or is snooped for has no response and no data on its way
sent_alone : (serving : Serving) (unique : Bool) (owner : Option Agent) (last : List ℕ) (n : ℕ) (x : Lane) → is_some x.flits.req ≡ true → LaneKept serving unique owner last n x → x.flits.rsp_down ≡ None
sent_alone serving unique owner last n x sent k = search (arith, sent, k.one_place)

waits_alone : (serving : Serving) (unique : Bool) (owner : Option Agent) (last : List ℕ) (n : ℕ) (x : Lane) → is_some x.waiting ≡ true → LaneKept serving unique owner last n x → (x.flits.rsp_down ≡ None) × (x.flits.dat_down ≡ None)
waits_alone serving unique owner last n x waits k = (search (arith, waits, k.one_place), search (arith, waits, k.one_place))

snooped_alone : (serving : Serving) (unique : Bool) (owner : Option Agent) (last : List ℕ) (n : ℕ) (x : Lane) → snoops_for serving n ≡ true → LaneKept serving unique owner last n x → (x.flits.rsp_down ≡ None) × (x.flits.dat_down ≡ None)
snooped_alone serving unique owner last n x snooped k = (search (arith, snooped, k.one_place), search (arith, snooped, k.one_place))

-- an agent whose answer is awaited has no CompAck and no write data on its way
asked_by : (serving : Serving) (unique : Bool) (owner : Option Agent) (last : List ℕ) (n : ℕ) (x : Lane) → is_some x.flits.snp ≡ true → LaneKept serving unique owner last n x → is_some (snoop_out serving) ≡ true
asked_by serving unique owner last n x here k = k.awaited_snooped (search (arith, here, k.one_answer))

snoop_finds : (serving : Serving) (unique : Bool) (owner : Option Agent) (last : List ℕ) (n : ℕ) (x : Lane) → is_some x.flits.snp ≡ true → is_some (snoop_out serving) ≡ true → LaneKept serving unique owner last n x
    → (x.flits.rsp_up ≡ None) × (x.flits.dat_up ≡ None)
snoop_finds serving unique owner last n x here snooped k = (search (arith, here, snooped, k.one_answer, k.one_ack), search (arith, here, snooped, k.one_answer, k.one_write))

-- while a CompAck or write data is awaited, no answer to a snoop is
ack_asks_none : (serving : Serving) (n : ℕ) → acks_for serving n ≡ true → is_some (snoop_out serving) ≡ false
ack_asks_none serving n here = search (arith, here)

write_asks_none : (serving : Serving) (n : ℕ) → writes_for serving n ≡ true → is_some (snoop_out serving) ≡ false
write_asks_none serving n here = search (arith, here)

not_awaited : (serving : Serving) (unique : Bool) (owner : Option Agent) (last : List ℕ) (n : ℕ) (x : Lane) → is_some (snoop_out serving) ≡ false → LaneKept serving unique owner last n x → x.awaited ≡ false
not_awaited serving unique owner last n x none k = search (arith, none, k.awaited_snooped)

-- so who takes its completion has no response on its way
data_acks : (serving : Serving) (unique : Bool) (owner : Option Agent) (last : List ℕ) (n : ℕ) (x : Lane) → is_some x.flits.dat_down ≡ true → LaneKept serving unique owner last n x
    → (acks_for serving n ≡ true) × (is_ack x.flits.rsp_up ≡ false)
data_acks serving unique owner last n x here k = (search (arith, here, k.one_ack), search (arith, here, k.one_ack))

comp_acks : (serving : Serving) (unique : Bool) (owner : Option Agent) (last : List ℕ) (n : ℕ) (x : Lane) → is_comp_unique x.flits.rsp_down ≡ true → LaneKept serving unique owner last n x
    → (acks_for serving n ≡ true) × (is_ack x.flits.rsp_up ≡ false)
comp_acks serving unique owner last n x here k = (search (arith, here, k.one_ack), search (arith, here, k.one_ack))

silent : (serving : Serving) (unique : Bool) (owner : Option Agent) (last : List ℕ) (n : ℕ) (x : Lane) → (acks_for serving n ≡ true) × (is_ack x.flits.rsp_up ≡ false) → LaneKept serving unique owner last n x → x.flits.rsp_up ≡ None
silent serving unique owner last n x acks k =
    let unasked : x.awaited ≡ false = not_awaited serving unique owner last n x (ack_asks_none serving n acks.0) k in
    search (arith, acks.1, unasked, k.one_answer)

-- and who is asked for its write data has no data on its way
dbid_writes : (serving : Serving) (unique : Bool) (owner : Option Agent) (last : List ℕ) (n : ℕ) (x : Lane) → is_dbid x.flits.rsp_down ≡ true → LaneKept serving unique owner last n x
    → (writes_for serving n ≡ true) × (is_write_data x.flits.dat_up ≡ false)
dbid_writes serving unique owner last n x here k = (search (arith, here, k.one_write), search (arith, here, k.one_write))

unwritten : (serving : Serving) (unique : Bool) (owner : Option Agent) (last : List ℕ) (n : ℕ) (x : Lane) → is_dbid x.flits.rsp_down ≡ true → LaneKept serving unique owner last n x → x.flits.dat_up ≡ None
unwritten serving unique owner last n x here k =
    let writes = dbid_writes serving unique owner last n x here k in
    let unasked : x.awaited ≡ false = not_awaited serving unique owner last n x (write_asks_none serving n writes.0) k in
    search (arith, writes.1, unasked, k.one_answer)

-- an idle line has no snoop in flight, to none of the eight, and to nobody beyond
idle_unsnooped : (serving : Serving) (unique : Bool) (owner : Option Agent) (last : List ℕ) (n : ℕ) (x : Lane) → is_idle serving ≡ true → LaneKept serving unique owner last n x → x.flits.snp ≡ None
idle_unsnooped serving unique owner last n x idle k =
    let unasked : x.awaited ≡ false = not_awaited serving unique owner last n x (search (arith, idle)) k in
    search (arith, unasked, k.one_answer)

no_snoop : (last : List ℕ) (l : LineState) (n : ℕ) → is_idle l.home.serving ≡ true → Kept last l → (cells_of l n).snp ≡ None
no_snoop last l n idle k = ⊎_elim
    (λ (low : n < 8). idle_unsnooped l.home.serving l.home.filter.unique l.home.filter.owner last n (lane l n) idle (k.lanes n low))
    (λ (past : 8 ≤ n). ap (λ (cells : Cells). cells.snp) (get_or_past l.flits n no_flits (omega (arith, past, k.flits))))
    (cases_lt n 8)

-- the agent that is snooped for is one of the eight, with nothing on its way to it
snooped_low : (serving : Serving) (n : ℕ) → snoops_for serving n ≡ true → IsServedRight serving → n < 8
snooped_low (serving.Snooping agent kind slot) n here right = subst (λ (m : ℕ). m < 8) (eqb-true agent.0 n here) right
snooped_low other n here right = absurd (cc (here))

snooped_down : (last : List ℕ) (l : LineState) → Kept last l → (other : ℕ) → snoops_for l.home.serving other ≡ true → ((cells_of l other).rsp_down ≡ None) × ((cells_of l other).dat_down ≡ None)
snooped_down last l k = λ other here.
    snooped_alone l.home.serving l.home.filter.unique l.home.filter.owner last other (lane l other) here (k.lanes other (snooped_low l.home.serving other here k.in_range))

-- WHAT EACH STEP TAKES AND SENDS
admit_balances : (l : LineState) (agent : Agent) (o : Option Request) → agent.0 < length l.flits → is_some o ≡ true
    → Balances (flit_on l agent channels.Req) [] l (where_some l o (admitted_line l agent.0))
admit_balances l agent None low some = absurd (cc (some))
admit_balances l agent (Some request) low some = clear_removes l.flits _ agent channels.Req low refl

retry_balances : (profile : Profile) (l : LineState) (agent : Agent) (o : Option Request) → agent.0 < length l.flits → is_some o ≡ true → (cells_of l agent.0).rsp_down ≡ None
    → Balances (flit_on l agent channels.Req) (flit_of agent (retry_ack profile o)) l (where_some l o (retried_line profile l agent.0))
retry_balances profile l agent None low some empty = absurd (cc (some))
retry_balances profile l agent (Some request) low some empty =
    exchange_swaps l.flits _ agent channels.Req (messages.RspDown (RetryAck (credit_type_of profile request.kind))) low (ap (option_map messages.RspDown) empty) refl

resend_balances : (l : LineState) (agent : Agent) (o : Option Pending) → agent.0 < length l.flits → is_some o ≡ true → (cells_of l agent.0).req ≡ None
    → Balances [] (flit_of agent (request_again o)) l (where_some l o (resent_line l agent.0))
resend_balances l agent None low some empty = absurd (cc (some))
resend_balances l agent (Some p) low some empty = put_adds l.flits _ agent (request_message p.kind p.slot false) low (ap (option_map messages.Req) empty) refl

-- a start sends into empty cells
abbrev Finds : LineState → Agent → Started → Type 0
Finds l agent (Sends message) = cell_of (cells_of l agent.0) (channel_of message) ≡ None
Finds l agent (Evicted slot) = (cells_of l agent.0).rsp_down ≡ None
Finds l agent (Snoops snoop agents) = (length agents ≤ length l.flits) × ((n : ℕ) → get_or agents n false ≡ true → (cells_of l n).snp ≡ None)

started_balances : (l : LineState) (agent : Agent) (v : Started) → agent.0 < length l.flits → Finds l agent v → IsPermutation (in_flight (flits_after_start l.flits agent.0 v)) (start_flits agent v ++ in_flight l.flits)
started_balances l agent (Sends message) low free = put_adds l.flits _ agent message low free refl
started_balances l agent (Evicted slot) low free = put_adds l.flits _ agent (messages.RspDown CompI) low (ap (option_map messages.RspDown) free) refl
started_balances l agent (Snoops snoop agents) low free = snoops_add l.flits _ agents snoop free.0 free.1 refl

served_finds : (last : List ℕ) (l : LineState) (kind : Kind) (snoop : Snoop) (agent : Agent) → agent.0 < 8 → is_some (snoop_of kind) ≡ true → is_idle l.home.serving ≡ true → (cells_of l agent.0).rsp_down ≡ None → (cells_of l agent.0).dat_down ≡ None → Kept last l
    → Finds l agent (served_sends l.home kind snoop agent)
served_finds last l kind snoop agent low served idle r d k = go (has_any (asks kind l.home.filter agent.0))
  where
    go : (b : Bool) → Finds l agent (if b then Snoops snoop (asks kind l.home.filter agent.0) else Sends (completion_of l.home kind agent l.home.memory))
    go true =
        let eight : length (asks kind l.home.filter agent.0) ≡ 8 = (asks_fit kind l.home.filter agent.0 served low k.named).eight in
        (omega (arith, eight, k.flits), λ n marked. no_snoop last l n idle k)
    go false = completion_down (completion_form kind (completes_unique kind l.home.filter agent.0)) l.home.memory (cells_of l agent.0) r d

start_finds : (last : List ℕ) (l : LineState) (kind : Kind) (slot : Slot) (agent : Agent) → agent.0 < 8 → is_idle l.home.serving ≡ true → (cells_of l agent.0).rsp_down ≡ None → (cells_of l agent.0).dat_down ≡ None → Kept last l
    → Finds l agent (started_sends_as kind (snoop_of kind) l.home agent slot)
start_finds last l ReadNotSharedDirty slot agent low idle r d k = served_finds last l ReadNotSharedDirty SnpNotSharedDirty agent low refl idle r d k
start_finds last l ReadShared slot agent low idle r d k = served_finds last l ReadShared SnpShared agent low refl idle r d k
start_finds last l ReadUnique slot agent low idle r d k = served_finds last l ReadUnique SnpUnique agent low refl idle r d k
start_finds last l CleanUnique slot agent low idle r d k = served_finds last l CleanUnique SnpCleanInvalid agent low refl idle r d k
start_finds last l Evict slot agent low idle r d k = r
start_finds last l copy_back slot agent low idle r d k = ap (option_map messages.RspDown) r

start_balances : (last : List ℕ) (l : LineState) (agent : Agent) (o : Option Waiting) → agent.0 < 8 → is_some o ≡ true → is_idle l.home.serving ≡ true → (cells_of l agent.0).rsp_down ≡ None → (cells_of l agent.0).dat_down ≡ None → Kept last l
    → Balances [] (started_flits l.home agent o) l (where_some l o (started_line l agent))
start_balances last l agent None low some idle r d k = absurd (cc (some))
start_balances last l agent (Some request) low some idle r d k =
    started_balances l agent (started_sends l.home agent request) (subst (λ (n : ℕ). agent.0 < n) (sym k.flits) low) (start_finds last l request.kind request.slot agent low idle r d k)

-- the answer to a snoop goes up, on one of two channels
answer_finds : (state : State) (snoop : Snoop) (words : List ℕ) (cells : Cells) → cells.rsp_up ≡ None → cells.dat_up ≡ None → cell_of (without_message cells channels.Snp) (channel_of (answer_of state snoop words).1) ≡ None
answer_finds state snoop words cells r d = search (arith, r, d)

snoop_balances : (l : LineState) (agent : Agent) (o : Option Snoop) → agent.0 < length l.flits → is_some o ≡ true → (cells_of l agent.0).rsp_up ≡ None → (cells_of l agent.0).dat_up ≡ None
    → Balances (flit_on l agent channels.Snp) (flit_of agent (snoop_answer (rn_of l agent.0) o)) l (where_some l o (snooped_line l agent.0))
snoop_balances l agent None low some r d = absurd (cc (some))
snoop_balances l agent (Some snoop) low some r d =
    exchange_swaps l.flits _ agent channels.Snp (answer_of (rn_of l agent.0).state snoop (rn_of l agent.0).words).1 low (answer_finds (rn_of l agent.0).state snoop (rn_of l agent.0).words (cells_of l agent.0) r d) refl

-- a completion goes to the agent that is snooped for, once the last answer is taken
completion_balances : (between : List Cells) (o : Option Completion) → ((c : Completion) → o ≡ Some c → c.agent.0 < length between) → ((c : Completion) → o ≡ Some c → cell_of (cells_at between c.agent.0) (channel_of c.message) ≡ None)
    → IsPermutation (in_flight (completion_put between o)) (completion_flits o ++ in_flight between)
completion_balances between None low empty = IsPermutation-refl _
completion_balances between (Some c) low empty = put_adds between _ c.agent c.message (low c refl) (empty c refl) refl

answered_balances : (last : List ℕ) (l : LineState) (agent : Agent) (answer : SnoopAnswer) → agent.0 < length l.flits → Kept last l
    → Balances (flit_on l agent (answer_channel answer)) (completion_flits (snoop_answered_sends l.home agent answer)) l (answered_by l agent answer)
answered_balances last l agent answer low k =
    let left = without_message (cells_of l agent.0) (answer_channel answer) in
    let between : List Cells = slice_set l.flits agent.0 left in
    let eight : length between ≡ 8 = length-set l.flits agent.0 left ∙ k.flits in
    let to : (c : Completion) → snoop_answered_sends l.home agent answer ≡ Some c → c.agent.0 < length between = λ c is.
    subst (λ (n : ℕ). c.agent.0 < n) (sym eight) (snooped_low l.home.serving c.agent.0 (answer_completes l.home agent answer c is).agent k.in_range) in
    taken_sent _ _ _ _ _ (clear_removes l.flits between agent (answer_channel answer) low refl)
    (completion_balances between (snoop_answered_sends l.home agent answer) to (λ c is. completion_finds_empty l agent answer between c refl is (snooped_down last l k)))

answer_balances : (last : List ℕ) (l : LineState) (agent : Agent) (o : Option SnoopAnswer) → agent.0 < length l.flits → is_some o ≡ true → Kept last l
    → Balances (answer_flit l agent o) (answered_flits l.home agent o) l (where_some l o (answered_by l agent))
answer_balances last l agent None low some k = absurd (cc (some))
answer_balances last l agent (Some answer) low some k = answered_balances last l agent answer low k

data_balances : (l : LineState) (agent : Agent) (o : Option CompData) → agent.0 < length l.flits → is_some o ≡ true → (cells_of l agent.0).rsp_up ≡ None
    → Balances (flit_on l agent channels.DatDown) (flit agent (messages.RspUp CompAck) ∷ []) l (where_some l o (received_line l agent.0))
data_balances l agent None low some empty = absurd (cc (some))
data_balances l agent (Some message) low some empty = exchange_swaps l.flits _ agent channels.DatDown (messages.RspUp CompAck) low (ap (option_map messages.RspUp) empty) refl

comp_balances : (l : LineState) (agent : Agent) (o : Option RspDown) → agent.0 < length l.flits → is_comp o ≡ true → (is_comp_unique o ≡ true → (cells_of l agent.0).rsp_up ≡ None)
    → Balances (flit_on l agent channels.RspDown) (flit_of agent (completion_ack o)) l (completion_received l agent.0 o)
comp_balances l agent (Some CompUC) low there empty = exchange_swaps l.flits _ agent channels.RspDown (messages.RspUp CompAck) low (ap (option_map messages.RspUp) (empty refl)) refl
comp_balances l agent (Some CompI) low there empty = clear_removes l.flits _ agent channels.RspDown low refl
comp_balances l agent other low there empty = absurd (cc (there))

dbid_balances : (l : LineState) (agent : Agent) (o : Option Pending) → agent.0 < length l.flits → is_some o ≡ true → (cells_of l agent.0).dat_up ≡ None
    → Balances (flit_on l agent channels.RspDown) (flit agent (messages.DatUp (write_data_of (rn_of l agent.0).state (rn_of l agent.0).words)) ∷ []) l (where_some l o (λ request. dbid_received_line l agent.0 request.kind))
dbid_balances l agent None low some empty = absurd (cc (some))
dbid_balances l agent (Some p) low some empty =
    exchange_swaps l.flits _ agent channels.RspDown (messages.DatUp (write_data_of (rn_of l agent.0).state (rn_of l agent.0).words)) low (ap (option_map messages.DatUp) empty) refl

-- RecvWrData: the line's kind is that of a request that is served
has_kind : (v : Serving) (n : ℕ) → writes_for v n ≡ true → is_some (served_kind v) ≡ true
has_kind (serving.AwaitingWriteData agent kind slot) n is = refl
has_kind other n is = absurd (cc (is))

written_flits : (l : LineState) (n : ℕ) (o : Option Kind) (sent : Option DatUp) → is_some o ≡ true → is_write_data sent ≡ true
    → (where_some l o (λ kind. data_written l n kind sent)).flits ≡ slice_set l.flits n (record (cells_of l n) { dat_up = None })
written_flits l n (Some kind) (Some (CopyBackWrData form words)) some is = refl
written_flits l n (Some kind) other some is = absurd (cc (is))
written_flits l n None sent some is = absurd (cc (some))

-- EACH STEP THAT ISN'T REFUSED
is_retried_in : (o : Option Pending) → IsRetried o → is_retried o ≡ true
is_retried_in o r = ap is_retried r.is ∙ ap is_retried_phase r.phase

is_pending : (o : Option Pending) → IsRetried o → is_some o ≡ true
is_pending o r = ap is_some r.is

pub step_balances : (c : Conditions) (last : List ℕ) (l : LineState) (agent : Agent) (step : Step) → agent.0 < 8 → step_refusal c l agent step ≡ None → Kept last l
    → Balances (flit_taken l agent step) (flits_sent c.profile l agent step) l (after_step c.profile l agent step)
step_balances c last l agent step low may k = go step may
  where
    fits : agent.0 < length l.flits
    fits = subst (λ (n : ℕ). agent.0 < n) (sym k.flits) low

    own : LaneKept l.home.serving l.home.filter.unique l.home.filter.owner last agent.0 (lane l agent.0)
    own = k.lanes agent.0 low

    go : (step : Step) → step_refusal c l agent step ≡ None → Balances (flit_taken l agent step) (flits_sent c.profile l agent step) l (after_step c.profile l agent step)
    go (steps.Issue kind slot) may =
        let none : (rn_of l agent.0).pending ≡ None = (issue_allowed c.slot_used (rn_of l agent.0) kind may).none in
        put_adds l.flits _ agent (request_message kind slot true) fits (ap (option_map messages.Req) (unsent _ _ _ last agent.0 (lane l agent.0) none own)) refl
    go steps.Admit may = admit_balances l agent (cells_of l agent.0).req fits (flit_there (is_some (cells_of l agent.0).req) may)
    go steps.Retry may =
        let there : is_some (cells_of l agent.0).req ≡ true = request_there (cells_of l agent.0).req may in
        retry_balances c.profile l agent (cells_of l agent.0).req fits there (sent_alone _ _ _ last agent.0 (lane l agent.0) there own)
    go steps.RecvRetry may = clear_removes l.flits _ agent channels.RspDown fits refl
    go steps.Resend may =
        let retried : IsRetried (rn_of l agent.0).pending = may_resend c l agent may in
        resend_balances l agent (rn_of l agent.0).pending fits (is_pending _ retried) (retried_unsent _ _ _ last agent.0 (lane l agent.0) (is_retried_in _ retried) own)
    go steps.Start may =
        let can : CanStart l.home agent.0 = can_start l.home agent.0 may in
        let alone = waits_alone _ _ _ last agent.0 (lane l agent.0) can.is_waiting own in
        start_balances last l agent (waiting_of l.home agent.0) low can.is_waiting can.idle alone.0 alone.1 k
    go steps.RecvSnp may =
        let there : is_some (cells_of l agent.0).snp ≡ true = flit_there (is_some (cells_of l agent.0).snp) may in
        let finds = snoop_finds _ _ _ last agent.0 (lane l agent.0) there (asked_by _ _ _ last agent.0 (lane l agent.0) there own) own in
        snoop_balances l agent (cells_of l agent.0).snp fits there finds.0 finds.1
    go steps.RecvSnpResp may = answer_balances last l agent (answer_in (cells_of l agent.0)) fits (flit_there (is_some (answer_in (cells_of l agent.0))) may) k
    go steps.RecvData may =
        let there : is_some (cells_of l agent.0).dat_down ≡ true = flit_there (is_some (cells_of l agent.0).dat_down) may in
        data_balances l agent (cells_of l agent.0).dat_down fits there (silent _ _ _ last agent.0 (lane l agent.0) (data_acks _ _ _ last agent.0 (lane l agent.0) there own) own)
    go steps.RecvComp may =
        comp_balances l agent (cells_of l agent.0).rsp_down fits (flit_there (is_comp (cells_of l agent.0).rsp_down) may)
        (λ unique. silent _ _ _ last agent.0 (lane l agent.0) (comp_acks _ _ _ last agent.0 (lane l agent.0) unique own) own)
    go steps.RecvAck may = clear_removes l.flits _ agent channels.RspUp fits refl
    go steps.RecvDbid may =
        let there : is_dbid (cells_of l agent.0).rsp_down ≡ true = flit_there (is_dbid (cells_of l agent.0).rsp_down) may in
        dbid_balances l agent (rn_of l agent.0).pending fits (response_finds_pending last l agent.0 CompDBIDResp low k (dbid_there (cells_of l agent.0).rsp_down there))
        (unwritten _ _ _ last agent.0 (lane l agent.0) there own)
    go steps.RecvWrData may =
        let sent : is_write_data (cells_of l agent.0).dat_up ≡ true = flit_there (is_write_data (cells_of l agent.0).dat_up) may in
        clear_removes l.flits _ agent channels.DatUp fits
        (written_flits l agent.0 (served_kind l.home.serving) (cells_of l agent.0).dat_up (has_kind l.home.serving agent.0 (write_is_awaited last l agent.0 low k sent)) sent)
    go other may = IsPermutation-refl _
