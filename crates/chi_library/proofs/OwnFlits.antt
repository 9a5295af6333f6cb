-- The flits that a step sent stand after it where they are read.
use Rattle.std.proofs.Common.{◌≡◌, ℕ, ◌+◌, ◌<◌, List, [], ◌∷◌, Bool, true, false, Option, Some, None, is_some, option_map, refl, sym, ap, ◌∙◌, subst, length, slice_set, get_or-set_same, if◌then◌else◌, arith}
use Rattle.chi_flit.specs.declared.action.Step.{Step}
use Rattle.chi_flit.specs.declared.action.Step.TheVariants as steps
use Rattle.chi_flit.specs.declared.credit.Profile.{Profile}
use Rattle.chi_flit.specs.declared.kind.Kind.{Kind}
use Rattle.chi_flit.specs.declared.kind.Kind.TheVariants.{ReadNotSharedDirty, ReadShared, ReadUnique, CleanUnique, Evict, WriteBackFull, WriteCleanFull, WriteEvictFull}
use Rattle.chi_flit.specs.declared.message.Channel.TheVariants as channels
use Rattle.chi_flit.specs.declared.message.Msg.{Msg}
use Rattle.chi_flit.specs.declared.message.Msg.TheVariants as messages
use Rattle.chi_flit.specs.declared.message.Request.{Request}
use Rattle.chi_flit.specs.declared.message.RspDown.{RspDown}
use Rattle.chi_flit.specs.declared.message.RspDown.TheVariants.{CompDBIDResp, CompI, CompUC, RetryAck}
use Rattle.chi_flit.specs.declared.numbers.Agent.{Agent}
use Rattle.chi_flit.specs.declared.numbers.Slot.{Slot}
use Rattle.chi_flit.specs.declared.snoop.Snoop.{Snoop}
use Rattle.chi_flit.specs.declared.snoop.Snoop.TheVariants.{SnpCleanInvalid, SnpNotSharedDirty, SnpShared, SnpUnique}
use Rattle.chi_flit.specs.Kind.{snoop_of}
use Rattle.chi_flit.specs.Message.{write_data_of}
use Rattle.chi_flit.specs.Snoop.{answer_of}
use Rattle.chi_slice.specs.Words.{has_any, no_flits, with_message, cells_at, Serving, Waiting, Home, asks, completion_of, home_after_completion, started_as, started_sends_as, taken_up, waiting_of, Conditions, Kept, Lane, LaneKept, bit, is_dbid, is_retried, lane, snoops_for, retry_refusal, step_refusal, after_step, dbid_received_line, flits_after_start, resent_line, retried_line, snooped_line, started_line, where_some, completion_ack, flits_sent, request_again, retry_ack, snoop_answer, start_flits, started_flits, Cells, Flit, LineState, Pending, cell_of, cells_of, flit, flit_of, rn_of}
use Rattle.chi_slice.specs.Servings.{Idle, Snooping}
use Rattle.chi_slice.specs.Starts.{Sends, Snoops}
use Rattle.chi_slice.proofs.Passed.{IsRetried, dbid_there, flit_there, may_resend, IsSnooping, is_snooping, snoop_no_response, AnswerRow, answer_row, is_up, idle_is, response_finds_pending, CanStart, can_start}
use Rattle.chi_library.specs.Taken.{message_taken}
use Rattle.chi_library.specs.declared.flits.ChiFlit.{ChiFlit}
use Rattle.chi_library.specs.Flits.{taken_told}
use Rattle.chi_library.specs.Standing.{ack_due, completion_standing, down_on, line_standing, snoops_standing, start_standing, up_on, words_due}
use Rattle.chi_library.proofs.AnswerFlits.{answered}

within : (n : ℕ) (flits : List Cells) → n < 8 → length flits ≡ 8 → n < length flits
within n flits low long = subst (λ (m : ℕ). n < m) (sym long) low

-- the cells that were put are read again
put : (flits : List Cells) (n : ℕ) (c : Cells) → n < length flits → cells_at (slice_set flits n c) n ≡ c
put flits n c low = get_or-set_same flits n c no_flits low

retried : (profile : Profile) (s : LineState) (agent : Agent) (request : Option Request) → retry_refusal request ≡ None → agent.0 < length s.flits
    → flit_of agent (cell_of (cells_of (where_some s request (retried_line profile s agent.0)) agent.0) channels.RspDown) ≡ flit_of agent (retry_ack profile request)
retried profile s agent None may low = absurd (cc (may))
retried profile s agent (Some request) may low = ap (λ (c : Cells). flit_of agent (cell_of c channels.RspDown)) (put s.flits agent.0 _ low)

resent : (s : LineState) (agent : Agent) (pending : Option Pending) → is_some pending ≡ true → agent.0 < length s.flits
    → flit_of agent (cell_of (cells_of (where_some s pending (resent_line s agent.0)) agent.0) channels.Req) ≡ flit_of agent (request_again pending)
resent s agent None there low = absurd (cc (there))
resent s agent (Some request) there low = ap (λ (c : Cells). flit_of agent (cell_of c channels.Req)) (put s.flits agent.0 _ low)

dbid_received : (s : LineState) (agent : Agent) (pending : Option Pending) → is_some pending ≡ true → agent.0 < length s.flits
    → flit_of agent (cell_of (cells_of (where_some s pending (λ (request : Pending). dbid_received_line s agent.0 request.kind)) agent.0) channels.DatUp)
    ≡ flit agent (messages.DatUp (write_data_of (rn_of s agent.0).state (rn_of s agent.0).words)) ∷ []
dbid_received s agent None there low = absurd (cc (there))
dbid_received s agent (Some request) there low = ap (λ (c : Cells). flit_of agent (cell_of c channels.DatUp)) (put s.flits agent.0 _ low)

-- RecvComp: the number of the message that was taken tells which it was
comp_received : (agent : Agent) (response : Option RspDown) → ack_due agent (taken_told (flit_of agent (option_map messages.RspDown response))).flit.message ≡ flit_of agent (completion_ack response)
comp_received agent None = refl
comp_received agent (Some (RetryAck ty)) = refl
comp_received agent (Some CompUC) = refl
comp_received agent (Some CompI) = refl
comp_received agent (Some CompDBIDResp) = refl

-- RecvSnp: beside a snoop no response is in flight
abbrev up_flit : Agent → Cells → List Flit
up_flit agent c = flit_of agent (cell_of c (up_on c.rsp_up))

up_is : (agent : Agent) (c : Cells) (m : Msg) → is_up m ≡ true → c.rsp_up ≡ None → up_flit agent (with_message c m) ≡ flit agent m ∷ []
up_is agent c (messages.Req request) up none = absurd (cc (up))
up_is agent c (messages.Snp snoop) up none = absurd (cc (up))
up_is agent c (messages.RspDown response) up none = absurd (cc (up))
up_is agent c (messages.DatDown sent) up none = absurd (cc (up))
up_is agent c (messages.RspUp response) up none = refl
up_is agent c (messages.DatUp response) up none = ap (λ (o : Option _). flit_of agent (cell_of (record c { dat_up = Some response }) (up_on o))) none

snooped : (s : LineState) (agent : Agent) (snoop : Option Snoop) → is_some snoop ≡ true → (cells_of s agent.0).rsp_up ≡ None → agent.0 < length s.flits
    → up_flit agent (cells_of (where_some s snoop (snooped_line s agent.0)) agent.0) ≡ flit_of agent (snoop_answer (rn_of s agent.0) snoop)
snooped s agent None there none low = absurd (cc (there))
snooped s agent (Some snoop) there none low =
    let rn = rn_of s agent.0 in
    let message : Msg = (answer_of rn.state snoop rn.words).1 in
    let row : AnswerRow rn.state snoop rn.words (answer_of rn.state snoop rn.words) = answer_row rn.state snoop rn.words in
    ap (up_flit agent) (put s.flits agent.0 (with_message (record (cells_of s agent.0) { snp = None }) message) low)
    ∙ up_is agent (record (cells_of s agent.0) { snp = None }) message row.1 none

no_response : (last : List ℕ) (s : LineState) (n : ℕ) (snoop : Option Snoop) → (cells_of s n).snp ≡ snoop → is_some snoop ≡ true → n < 8 → Kept last s → (cells_of s n).rsp_up ≡ None
no_response last s n None here there low k = absurd (cc (there))
no_response last s n (Some snoop) here there low k =
    let snooping : IsSnooping s.home.serving = is_snooping s.home.serving (ap is_some ((k.lanes n low).snoop_fits snoop here)) in
    snoop_no_response snooping.agent snooping.kind snooping.slot s.home.filter.unique s.home.filter.owner last n (lane s n) snoop here
    (subst (λ v. LaneKept v s.home.filter.unique s.home.filter.owner last n (lane s n)) snooping.serving_is (k.lanes n low))

-- Start: beside a request that waits no response is in flight to its agent
one_alone : (a b c d e p : Bool) → bit a + bit true + bit b + bit c + bit d + bit e ≡ bit p → d ≡ false
one_alone a b c false e p h = refl
one_alone a b c true e true h = absurd (omega (arith, h))
one_alone a b c true e false h = absurd (omega (arith, h))

none_if : (o : Option RspDown) → is_some o ≡ false → o ≡ None
none_if None h = refl
none_if (Some response) h = absurd (cc (h))

waits_alone : (serving : Serving) (unique : Bool) (owner : Option Agent) (last : List ℕ) (n : ℕ) (x : Lane) (request : Waiting)
    → x.waiting ≡ Some request → LaneKept serving unique owner last n x → x.flits.rsp_down ≡ None
waits_alone serving unique owner last n x request here k =
    none_if x.flits.rsp_down
    (one_alone (is_some x.flits.req) (snoops_for serving n) (is_some x.flits.dat_down) (is_some x.flits.rsp_down) (is_retried x.rn.pending) (is_some x.rn.pending)
    (subst (λ (w : Option Waiting). bit (is_some x.flits.req) + bit (is_some w) + bit (snoops_for serving n) + bit (is_some x.flits.dat_down) + bit (is_some x.flits.rsp_down) + bit (is_retried x.rn.pending) ≡ bit (is_some x.rn.pending)) here k.one_place))

abbrev down_flit : Agent → Cells → List Flit
down_flit agent c = flit_of agent (cell_of c (down_on c.rsp_down))

abbrev is_down : Msg → Bool
is_down (messages.RspDown response) = true
is_down (messages.DatDown sent) = true
is_down other = false

down_is : (agent : Agent) (c : Cells) (m : Msg) → is_down m ≡ true → c.rsp_down ≡ None → down_flit agent (with_message c m) ≡ flit agent m ∷ []
down_is agent c (messages.Req request) down none = absurd (cc (down))
down_is agent c (messages.Snp snoop) down none = absurd (cc (down))
down_is agent c (messages.RspDown response) down none = refl
down_is agent c (messages.DatDown sent) down none = ap (λ (o : Option _). flit_of agent (cell_of (record c { dat_down = Some sent }) (down_on o))) none
down_is agent c (messages.RspUp response) down none = absurd (cc (down))
down_is agent c (messages.DatUp response) down none = absurd (cc (down))

down_put : (flits : List Cells) (agent : Agent) (m : Msg) → is_down m ≡ true → (cells_at flits agent.0).rsp_down ≡ None → agent.0 < length flits
    → down_flit agent (cells_at (slice_set flits agent.0 (with_message (cells_at flits agent.0) m)) agent.0) ≡ flit agent m ∷ []
down_put flits agent m down none low = ap (down_flit agent) (put flits agent.0 (with_message (cells_at flits agent.0) m) low) ∙ down_is agent (cells_at flits agent.0) m down none

-- a request that is served
abbrev stands_by : Agent → Home → List Cells → List Flit
stands_by agent home flits = start_standing agent home.serving home.awaited (cells_at flits agent.0)

served : (home up : Home) (flits : List Cells) (agent : Agent) (kind : Kind) (snoop : Snoop) (slot : Slot) → snoop_of kind ≡ Some snoop → is_down (completion_of home kind agent home.memory) ≡ true
    → (cells_at flits agent.0).rsp_down ≡ None → agent.0 < length flits
    → stands_by agent
    (if has_any (asks kind home.filter agent.0) then record up { serving = Snooping agent kind slot; awaited = asks kind home.filter agent.0 } else home_after_completion up kind agent slot)
    (flits_after_start flits agent.0 (if has_any (asks kind home.filter agent.0) then Snoops snoop (asks kind home.filter agent.0) else Sends (completion_of home kind agent home.memory)))
    ≡ start_flits agent (if has_any (asks kind home.filter agent.0) then Snoops snoop (asks kind home.filter agent.0) else Sends (completion_of home kind agent home.memory))
served home up flits agent kind snoop slot asked down none low = go (has_any (asks kind home.filter agent.0))
  where
    go : (b : Bool) → stands_by agent
        (if b then record up { serving = Snooping agent kind slot; awaited = asks kind home.filter agent.0 } else home_after_completion up kind agent slot)
        (flits_after_start flits agent.0 (if b then Snoops snoop (asks kind home.filter agent.0) else Sends (completion_of home kind agent home.memory)))
        ≡ start_flits agent (if b then Snoops snoop (asks kind home.filter agent.0) else Sends (completion_of home kind agent home.memory))
    go true = ap (λ (o : Option Snoop). snoops_standing o (asks kind home.filter agent.0)) asked
    go false = down_put flits agent (completion_of home kind agent home.memory) down none low

begun : (home : Home) (flits : List Cells) (agent : Agent) (kind : Kind) (slot : Slot) → home.serving ≡ Idle → (cells_at flits agent.0).rsp_down ≡ None → agent.0 < length flits
    → stands_by agent (started_as kind (taken_up home agent.0) agent slot) (flits_after_start flits agent.0 (started_sends_as kind (snoop_of kind) home agent slot))
    ≡ start_flits agent (started_sends_as kind (snoop_of kind) home agent slot)
begun home flits agent ReadNotSharedDirty slot idle none low = served home (taken_up home agent.0) flits agent ReadNotSharedDirty SnpNotSharedDirty slot refl refl none low
begun home flits agent ReadShared slot idle none low = served home (taken_up home agent.0) flits agent ReadShared SnpShared slot refl refl none low
begun home flits agent ReadUnique slot idle none low = served home (taken_up home agent.0) flits agent ReadUnique SnpUnique slot refl refl none low
begun home flits agent CleanUnique slot idle none low = served home (taken_up home agent.0) flits agent CleanUnique SnpCleanInvalid slot refl refl none low
begun home flits agent Evict slot idle none low =
    ap (λ (v : Serving). start_standing agent v home.awaited (cells_at (slice_set flits agent.0 (with_message (cells_at flits agent.0) (messages.RspDown CompI))) agent.0)) idle
    ∙ down_put flits agent (messages.RspDown CompI) refl none low
begun home flits agent WriteBackFull slot idle none low = down_put flits agent (messages.RspDown CompDBIDResp) refl none low
begun home flits agent WriteCleanFull slot idle none low = down_put flits agent (messages.RspDown CompDBIDResp) refl none low
begun home flits agent WriteEvictFull slot idle none low = down_put flits agent (messages.RspDown CompDBIDResp) refl none low

started : (s : LineState) (agent : Agent) (waiting : Option Waiting) → is_some waiting ≡ true → s.home.serving ≡ Idle → (cells_of s agent.0).rsp_down ≡ None → agent.0 < length s.flits
    → stands_by agent (where_some s waiting (started_line s agent)).home (where_some s waiting (started_line s agent)).flits ≡ started_flits s.home agent waiting
started s agent None there idle none low = absurd (cc (there))
started s agent (Some request) there idle none low = begun s.home s.flits agent request.kind request.slot idle none low

pub stands : (c : Conditions) (last : List ℕ) (s : LineState) (agent : Agent) (before : Serving) (taken : ChiFlit) (step : Step) → agent.0 < 8 → Kept last s → step_refusal c s agent step ≡ None
    → before ≡ s.home.serving → taken ≡ (taken_told (flit_of agent (message_taken (cells_of s agent.0) step))).flit
    → line_standing (after_step c.profile s agent step) agent before taken step ≡ flits_sent c.profile s agent step
stands c last s agent before taken (steps.Load word) low k may served is = refl
stands c last s agent before taken (steps.Store word value) low k may served is = refl
stands c last s agent before taken steps.Drop low k may served is = refl
stands c last s agent before taken (steps.Issue kind slot) low k may served is = refl
stands c last s agent before taken steps.Admit low k may served is = refl
stands c last s agent before taken steps.Retry low k may served is = retried c.profile s agent (cells_of s agent.0).req may (within agent.0 s.flits low k.flits)
stands c last s agent before taken steps.RecvRetry low k may served is = refl
stands c last s agent before taken steps.Resend low k may served is =
    let retried_one : IsRetried (rn_of s agent.0).pending = may_resend c s agent may in
    resent s agent (rn_of s agent.0).pending (ap is_some retried_one.is) (within agent.0 s.flits low k.flits)
stands c last s agent before taken steps.Cancel low k may served is = refl
stands c last s agent before taken steps.Start low k may served is =
    let can : CanStart s.home agent.0 = can_start s.home agent.0 may in
    started s agent (waiting_of s.home agent.0) can.is_waiting (idle_is s.home.serving can.idle)
    (waits_alone s.home.serving s.home.filter.unique s.home.filter.owner last agent.0 (lane s agent.0) can.request can.waits (k.lanes agent.0 low))
    (within agent.0 s.flits low k.flits)
stands c last s agent before taken steps.RecvSnp low k may served is =
    let there = flit_there (is_some (cells_of s agent.0).snp) may in
    snooped s agent (cells_of s agent.0).snp there (no_response last s agent.0 (cells_of s agent.0).snp refl there low k) (within agent.0 s.flits low k.flits)
stands c last s agent before taken steps.RecvSnpResp low k may served is =
    let left : Home = (after_step c.profile s agent steps.RecvSnpResp).home in
    ap (λ (v : Serving). completion_standing v left.serving left.filter.unique (words_due taken left.memory)) served ∙ answered c.profile s agent taken is
stands c last s agent before taken steps.RecvData low k may served is = refl
stands c last s agent before taken steps.RecvComp low k may served is =
    ap (λ (f : ChiFlit). ack_due agent f.message) is ∙ comp_received agent (cells_of s agent.0).rsp_down
stands c last s agent before taken steps.RecvAck low k may served is = refl
stands c last s agent before taken steps.RecvDbid low k may served is =
    let here = dbid_there (cells_of s agent.0).rsp_down (flit_there (is_dbid (cells_of s agent.0).rsp_down) may) in
    dbid_received s agent (rn_of s agent.0).pending (response_finds_pending last s agent.0 CompDBIDResp low k here) (within agent.0 s.flits low k.flits)
stands c last s agent before taken steps.RecvWrData low k may served is = refl
