-- What an agent's own step leaves of its turn, and what it sends.
use Rattle.std.proofs.Common.{◌≡◌, inl, inr, ℕ, ◌+◌, ◌<◌, ◌||◌, Bool, true, false, List, [], length, get_or, set, Option, Some, None, is_some, refl, sym, ap, subst, ◌∙◌, if◌then◌else◌, arith, get_or-set_same}
use Rattle.chi_flit.specs.Credit.{credit_type_of}
use Rattle.chi_flit.specs.Kind.{is_copy_back, is_needed, snoop_of}
use Rattle.chi_flit.specs.Message.{write_data_of}
use Rattle.chi_flit.specs.Snoop.{answer_of}
use Rattle.chi_flit.specs.declared.action.Step.{Step}
use Rattle.chi_flit.specs.declared.action.Step.TheVariants as steps
use Rattle.chi_flit.specs.declared.credit.Profile.{Profile}
use Rattle.chi_flit.specs.declared.kind.Kind.{Kind}
use Rattle.chi_flit.specs.declared.kind.Kind.TheVariants.{ReadNotSharedDirty, ReadShared, ReadUnique, CleanUnique, Evict, WriteBackFull, WriteCleanFull, WriteEvictFull}
use Rattle.chi_flit.specs.declared.message.CompData.{CompData}
use Rattle.chi_flit.specs.declared.message.DatUp.{DatUp}
use Rattle.chi_flit.specs.declared.message.DatUp.TheVariants.{CopyBackWrData}
use Rattle.chi_flit.specs.declared.message.Msg.{Msg}
use Rattle.chi_flit.specs.declared.message.Msg.TheVariants as messages
use Rattle.chi_flit.specs.declared.message.Request.{Request}
use Rattle.chi_flit.specs.declared.message.RspDown.{RspDown}
use Rattle.chi_flit.specs.declared.message.RspDown.TheVariants.{RetryAck, CompUC, CompI, CompDBIDResp}
use Rattle.chi_flit.specs.declared.message.RspUp.TheVariants.{CompAck}
use Rattle.chi_flit.specs.declared.numbers.Agent.{Agent}
use Rattle.chi_flit.specs.declared.numbers.Slot.{Slot}
use Rattle.chi_flit.specs.declared.snoop.Snoop.{Snoop}
use Rattle.chi_flit.specs.declared.snoop.Snoop.TheVariants.{SnpShared, SnpNotSharedDirty, SnpUnique, SnpCleanInvalid}
use Rattle.chi_flit.specs.State.{is_unique}
use Rattle.chi_flit.specs.declared.state.State.{State}
use Rattle.chi_flit.specs.declared.state.State.TheVariants.{I, SC, UC, UD, SD}
use Rattle.chi_filter.specs.Filter.{has_any}
use Rattle.chi_wires.specs.Cell.{no_flits, with_message}
use Rattle.chi_wires.specs.declared.cells.Cells.{Cells}
use Rattle.chi_rnline.specs.Rn.{Rn, is_clean_copy, no_line, request_message, resend_refusal, resend_refusal_in, cancel_refusal_in, rn_after_drop, rn_after_snoop, rn_after_store, store_refusal}
use Rattle.chi_rnline.specs.declared.pending.Pending.{Pending}
use Rattle.chi_rnline.specs.declared.pending.Phase.{Phase}
use Rattle.chi_rnline.specs.declared.pending.Phase.TheVariants as phases
use Rattle.chi_homeline.specs.Home.{Home, asks, completes_unique, completion_form, completion_message, completion_of, home_after_completion, home_after_service, served_kind, served_sends, started_as, started_sends_as, taken_up, waiting_of}
use Rattle.chi_homeline.specs.Home.Started.{Sends, Snoops}
use Rattle.chi_homeline.specs.declared.serving.Serving.{Serving}
use Rattle.chi_homeline.specs.declared.serving.Serving.TheVariants.{Idle, Snooping, AwaitingCompAck, AwaitingWriteData}
use Rattle.chi_homeline.specs.declared.serving.Waiting.{Waiting}
use Rattle.chi_line.specs.Kept.{Kept, Lane, LaneKept, bit, is_retried, is_write_data, kind_if, lane, snoops_for}
use Rattle.chi_line.specs.LineState.{LineState, cells_of, rn_of}
use Rattle.chi_flit.specs.declared.refusal.Refusal.TheVariants.{MustAccept}
use Rattle.chi_line.specs.Refused.{full_if, marked_credit_refusal, retry_refusal, step_refusal}
use Rattle.chi_line.specs.Step.{after_step, completion_received, data_written, dbid_received_line, flits_after_start, is_ack, is_comp, is_dbid, is_retry, issued_line, admitted_line, received_line, resent_line, retried_line, snooped_line, started_line, stored_line, where_some}
use Rattle.chi_line.specs.Types.{pending_credit}
use Rattle.chi_line.specs.declared.act.Conditions.{Conditions}
use Rattle.chi_line.proofs.After.{IsRetried, cancel_allowed, dbid_there, drop_allowed, flit_there, issue_allowed, may_resend, neither, retry_there, start_allowed, store_allowed}
use Rattle.chi_line.proofs.CopyKeeps.{is_snooping, snoop_no_data, snoop_no_response}
use Rattle.chi_line.proofs.Finds.{idle_is, write_is_awaited}
use Rattle.chi_line.proofs.SnoopRows.{snooped_at, snooped_cells}
use Rattle.chi_explain.specs.Sent.{busy_in, sent_of_agent}
use Rattle.chi_explain.specs.declared.observed.StoreListing.{StoreListing}
use Rattle.chi_monitor.specs.Copies.{given_by, known_as, may_hide}
use Rattle.chi_monitor.specs.Turns.{is_left_fit, is_read, turn_after, with_copy}
use Rattle.chi_monitor.specs.declared.copies.Given.{Given}
use Rattle.chi_monitor.specs.declared.copies.Given.TheVariants.{Raised}
use Rattle.chi_monitor.specs.declared.faults.SeenAt.{SeenAt}
use Rattle.chi_monitor.specs.declared.turns.OpenSnoop.{OpenSnoop}
use Rattle.chi_monitor.specs.declared.turns.Turn.{Turn}
use Rattle.chi_monitor.proofs.TurnFits.{Fits, GivenAt, IsAskedAt, IsSnooped, Keeps, Place, at_home, drifts, given_same, held_same, none_given, place_in, place_of, snooped_same}
use Rattle.chi_monitor.proofs.TurnLanes.{SameDown, acknowledged_snoops, idle_no_snoop, is_answer_step, untouched_fits, start_waits, snooped_down, written_snoops}
use Rattle.chi_monitor.proofs.TurnSent.{Empties, StaysDown, answer_down, flits_of, sends_answer, sends_data, sends_form, sends_freed, sends_nothing, sends_request, sends_response, sends_taken, sends_up}
use Rattle.chi_monitor.proofs.TurnSteps.{Answers, acknowledge_turn, admit_turn, answer_turn, at_fits, cancel_turn, closed_turn, data_place, evict_answers, fits_at, fits_free, free_fits, given_base, home_place, issue_turn, neither_home, none_of, or_home, other_place, raised_base, read_answers, resend_turn, retry_received_turn, retry_turn, same_slot, some_of, unique_answers, write_answers, write_turn}

-- A pending request is in one place
pub record Apart (a b c d e f g : Bool) : Type 0 where
  pub req_away : a ≡ true → (b || c) ≡ false
  pub req_data : a ≡ true → d ≡ false
  pub req_rsp : a ≡ true → e ≡ false
  pub req_pending : a ≡ true → g ≡ true
  pub home_req : (b || c) ≡ true → a ≡ false
  pub home_data : (b || c) ≡ true → d ≡ false
  pub home_rsp : (b || c) ≡ true → e ≡ false
  pub home_pending : (b || c) ≡ true → g ≡ true
  pub data_req : d ≡ true → a ≡ false
  pub data_away : d ≡ true → (b || c) ≡ false
  pub data_rsp : d ≡ true → e ≡ false
  pub data_pending : d ≡ true → g ≡ true
  pub rsp_req : e ≡ true → a ≡ false
  pub rsp_away : e ≡ true → (b || c) ≡ false
  pub rsp_data : e ≡ true → d ≡ false
  pub rsp_pending : e ≡ true → g ≡ true
  pub back_req : f ≡ true → a ≡ false
  pub back_away : f ≡ true → (b || c) ≡ false
  pub back_data : f ≡ true → d ≡ false
  pub back_rsp : f ≡ true → e ≡ false
  pub none_req : g ≡ false → a ≡ false
  pub none_rsp : g ≡ false → e ≡ false
  pub snooped_waits : c ≡ true → b ≡ false

not_both : (x y g : Bool) (r : ℕ) → bit x + bit y + r ≡ bit g → x ≡ true → y ≡ false
not_both x y g r h is = grind (arith, h, is)

not_three : (x y z g : Bool) (r : ℕ) → bit x + bit y + bit z + r ≡ bit g → x ≡ true → (y || z) ≡ false
not_three x y z g r h is = grind (arith, h, is)

either_not : (x y z g : Bool) (r : ℕ) → bit x + bit y + bit z + r ≡ bit g → (y || z) ≡ true → x ≡ false
either_not x y z g r h is = grind (arith, h, is)

is_pending : (x g : Bool) (r : ℕ) → bit x + r ≡ bit g → x ≡ true → g ≡ true
is_pending x g r h is = grind (arith, h, is)

either_pending : (y z g : Bool) (r : ℕ) → bit y + bit z + r ≡ bit g → (y || z) ≡ true → g ≡ true
either_pending y z g r h is = grind (arith, h, is)

not_pending : (x g : Bool) (r : ℕ) → bit x + r ≡ bit g → g ≡ false → x ≡ false
not_pending x g r h is = grind (arith, h, is)

pub apart : (a b c d e f g : Bool) → bit a + bit b + bit c + bit d + bit e + bit f ≡ bit g → Apart a b c d e f g
apart a b c d e f g h = record {
  req_away = not_three a b c g (bit d + bit e + bit f) (omega (arith, h));
  req_data = not_both a d g (bit b + bit c + bit e + bit f) (omega (arith, h));
  req_rsp = not_both a e g (bit b + bit c + bit d + bit f) (omega (arith, h));
  req_pending = is_pending a g (bit b + bit c + bit d + bit e + bit f) (omega (arith, h));
  home_req = either_not a b c g (bit d + bit e + bit f) (omega (arith, h));
  home_data = either_not d b c g (bit a + bit e + bit f) (omega (arith, h));
  home_rsp = either_not e b c g (bit a + bit d + bit f) (omega (arith, h));
  home_pending = either_pending b c g (bit a + bit d + bit e + bit f) (omega (arith, h));
  data_req = not_both d a g (bit b + bit c + bit e + bit f) (omega (arith, h));
  data_away = not_three d b c g (bit a + bit e + bit f) (omega (arith, h));
  data_rsp = not_both d e g (bit a + bit b + bit c + bit f) (omega (arith, h));
  data_pending = is_pending d g (bit a + bit b + bit c + bit e + bit f) (omega (arith, h));
  rsp_req = not_both e a g (bit b + bit c + bit d + bit f) (omega (arith, h));
  rsp_away = not_three e b c g (bit a + bit d + bit f) (omega (arith, h));
  rsp_data = not_both e d g (bit a + bit b + bit c + bit f) (omega (arith, h));
  rsp_pending = is_pending e g (bit a + bit b + bit c + bit d + bit f) (omega (arith, h));
  back_req = not_both f a g (bit b + bit c + bit d + bit e) (omega (arith, h));
  back_away = not_three f b c g (bit a + bit d + bit e) (omega (arith, h));
  back_data = not_both f d g (bit a + bit b + bit c + bit e) (omega (arith, h));
  back_rsp = not_both f e g (bit a + bit b + bit c + bit d) (omega (arith, h));
  none_req = not_pending a g (bit b + bit c + bit d + bit e + bit f) (omega (arith, h));
  none_rsp = not_pending e g (bit a + bit b + bit c + bit d + bit f) (omega (arith, h));
  snooped_waits = not_both c b g (bit a + bit d + bit e + bit f) (omega (arith, h));
}

-- of a lane
abbrev pub LaneApart : Serving → ℕ → Lane → Type 0
LaneApart serving n x = Apart (is_some x.flits.req) (is_some x.waiting) (snoops_for serving n) (is_some x.flits.dat_down) (is_some x.flits.rsp_down) (is_retried x.rn.pending) (is_some x.rn.pending)

pub lane_apart : (serving : Serving) (unique : Bool) (owner : Option Agent) (last : List ℕ) (n : ℕ) (x : Lane) → LaneKept serving unique owner last n x → LaneApart serving n x
lane_apart serving unique owner last n x k = apart (is_some x.flits.req) (is_some x.waiting) (snoops_for serving n) (is_some x.flits.dat_down) (is_some x.flits.rsp_down) (is_retried x.rn.pending) (is_some x.rn.pending) k.one_place

-- a lane whose copy, flits or waiting request is written
pub copy_lane : (s : LineState) (n : ℕ) (r : Rn) → n < length s.requesters → lane (record s { requesters = set s.requesters n r }) n ≡ record (lane s n) { rn = r }
copy_lane s n r low = ap (λ (x : Rn). record (lane s n) { rn = x }) (get_or-set_same s.requesters n r no_line low)

pub flits_lane : (s : LineState) (n : ℕ) (c : Cells) → n < length s.flits → lane (record s { flits = set s.flits n c }) n ≡ record (lane s n) { flits = c }
flits_lane s n c low = ap (λ (x : Cells). record (lane s n) { flits = x }) (get_or-set_same s.flits n c no_flits low)

pub both_lane : (s : LineState) (n : ℕ) (r : Rn) (c : Cells) → n < length s.requesters → n < length s.flits → lane (record s { requesters = set s.requesters n r; flits = set s.flits n c }) n ≡ record (lane s n) { rn = r; flits = c }
both_lane s n r c low high = λ i. record (lane s n) { rn = get_or-set_same s.requesters n r no_line low i; flits = get_or-set_same s.flits n c no_flits high i }

-- what a step of an agent sends on its own channels, and that its turn fits behind it
pub record Own (profile : Profile) (s s' : LineState) (agent : Agent) (stores : StoreListing) (turn : Turn) (shown : Bool) : Type 0 where
  pub sent : Option Msg
  pub is : sent_of_agent agent (busy_in (cells_of s agent.0)) (cells_of s' agent.0) ≡ flits_of agent sent
  pub keeps : Keeps profile stores turn sent shown s'.home.serving agent.0 (lane s' agent.0)

-- out of the lane then
own_by : (profile : Profile) (s s' : LineState) (agent : Agent) (stores : StoreListing) (turn : Turn) (shown : Bool) (sent : Option Msg) (x : Lane) → lane s' agent.0 ≡ x
    → sent_of_agent agent (busy_in (cells_of s agent.0)) x.flits ≡ flits_of agent sent → Keeps profile stores turn sent shown s'.home.serving agent.0 x → Own profile s s' agent stores turn shown
own_by profile s s' agent stores turn shown sent x here is keeps = record {
  sent = sent;
  is = subst (λ (y : Lane). sent_of_agent agent (busy_in (cells_of s agent.0)) y.flits ≡ flits_of agent sent) (sym here) is;
  keeps = subst (Keeps profile stores turn sent shown s'.home.serving agent.0) (sym here) keeps;
}

-- what an own step finds
pub record Finds (last : List ℕ) (s : LineState) (n : ℕ) : Type 0 where
  pub low : n < 8
  pub requesters : n < length s.requesters
  pub flits : n < length s.flits
  pub waits : n < length s.home.waiting
  pub kept : LaneKept s.home.serving s.home.filter.unique s.home.filter.owner last n (lane s n)
  pub apart : LaneApart s.home.serving n (lane s n)

pub finds : (last : List ℕ) (s : LineState) (n : ℕ) → n < 8 → Kept last s → Finds last s n
finds last s n low k = record {
  low = low;
  requesters = omega (arith, low, k.requesters);
  flits = omega (arith, low, k.flits);
  waits = omega (arith, low, k.waiting);
  kept = k.lanes n low;
  apart = lane_apart s.home.serving s.home.filter.unique s.home.filter.owner last n (lane s n) (k.lanes n low);
}

pub nothing_changes : (c : Cells) → Empties c c
nothing_changes c = record { req = refl; rsp_down = refl; dat_down = refl; rsp_up = inl refl; dat_up = inl refl; snp = λ there. refl }

-- nothing is seen of a step that leaves the lane
same_own : (profile : Profile) (s s' : LineState) (agent : Agent) (stores : StoreListing) (turn : Turn) (shown : Bool) → cells_of s' agent.0 ≡ cells_of s agent.0 → Fits stores turn shown s'.home.serving agent.0 (lane s' agent.0) → Own profile s s' agent stores turn shown
same_own profile s s' agent stores turn shown same f = record {
  sent = None;
  is = subst (λ (c : Cells). sent_of_agent agent (busy_in (cells_of s agent.0)) c ≡ []) (sym same) (sends_nothing agent (cells_of s agent.0) (cells_of s agent.0) (nothing_changes (cells_of s agent.0)));
  keeps = f;
}

pub kind_of_pending : (pending : Option Pending) (p : Pending) (kind : Kind) → pending ≡ Some p → kind_if pending ≡ Some kind → p.kind ≡ kind
kind_of_pending pending p kind is of = let e : Some p.kind ≡ Some kind = sym (ap kind_if is) ∙ of in cc (e)

-- Issue
issue_own : (profile : Profile) (last : List ℕ) (s : LineState) (agent : Agent) (stores : StoreListing) (turn : Turn) (shown : Bool) (kind : Kind) (slot : Slot) → (rn_of s agent.0).pending ≡ None → is_needed kind (rn_of s agent.0).state ≡ true → Finds last s agent.0
    → Fits stores turn shown s.home.serving agent.0 (lane s agent.0) → Own profile s (issued_line s agent.0 kind slot) agent stores turn shown
issue_own profile last s agent stores turn shown kind slot none needed h f =
    own_by profile s _ agent stores turn shown (Some (request_message kind slot true)) _ (both_lane s agent.0 _ _ h.requesters h.flits)
    (sends_request agent (cells_of s agent.0) _ _ (none_of _ (h.apart.none_req (ap is_some none))) refl (record { rsp_down = inl refl; dat_down = inl refl; rsp_up = inl refl; dat_up = inl refl }))
    (issue_turn profile stores turn shown s.home.serving agent.0 (lane s agent.0) kind slot none needed f)

-- Admit
admit_own : (profile : Profile) (last : List ℕ) (s : LineState) (agent : Agent) (stores : StoreListing) (turn : Turn) (shown : Bool) (request : Request) → (cells_of s agent.0).req ≡ Some request → Finds last s agent.0
    → Fits stores turn shown s.home.serving agent.0 (lane s agent.0) → Own profile s (admitted_line s agent.0 request) agent stores turn shown
admit_own profile last s agent stores turn shown request here h f =
    let p = some_of (rn_of s agent.0).pending (h.apart.req_pending (ap is_some here)) in
    own_by profile s _ agent stores turn shown None _
    (λ i. record (lane s agent.0) { flits = get_or-set_same s.flits agent.0 (record (cells_of s agent.0) { req = None }) no_flits h.flits i; waiting = get_or-set_same s.home.waiting agent.0 (Some (record { kind = request.kind; slot = request.slot })) None h.waits i })
    (sends_freed agent (cells_of s agent.0))
    (admit_turn profile stores turn shown s.home.serving agent.0 (lane s agent.0) request p.0 p.1 here f)

-- Retry
retry_own : (profile : Profile) (last : List ℕ) (s : LineState) (agent : Agent) (stores : StoreListing) (turn : Turn) (shown : Bool) (request : Request) → (cells_of s agent.0).req ≡ Some request → request.allow_retry ≡ true → Finds last s agent.0
    → Fits stores turn shown s.home.serving agent.0 (lane s agent.0) → Own profile s (retried_line profile s agent.0 request) agent stores turn shown
retry_own profile last s agent stores turn shown request here may h f =
    let there : is_some (cells_of s agent.0).req ≡ true = ap is_some here in
    let p = some_of (rn_of s agent.0).pending (h.apart.req_pending there) in
    own_by profile s _ agent stores turn shown (Some (messages.RspDown (RetryAck (credit_type_of profile request.kind)))) _ (flits_lane s agent.0 _ h.flits)
    (sends_response agent (cells_of s agent.0) _ _ (none_of _ (h.apart.req_rsp there)) refl (record { req = inr refl; dat_down = inl refl; rsp_up = inl refl; dat_up = inl refl }))
    (retry_turn profile stores turn shown s.home.serving agent.0 (lane s agent.0) request p.0 (credit_type_of profile request.kind) p.1 here may
    (ap (credit_type_of profile) (sym (kind_of_pending _ p.0 request.kind p.1 (h.kept.request_kind request here)))) (h.apart.req_away there) (h.apart.req_data there) f)

-- RecvRetry
retry_received_own : (profile : Profile) (last : List ℕ) (s : LineState) (agent : Agent) (stores : StoreListing) (turn : Turn) (shown : Bool) → is_retry (cells_of s agent.0).rsp_down ≡ true → Finds last s agent.0
    → Fits stores turn shown s.home.serving agent.0 (lane s agent.0) → Own profile s (after_step profile s agent steps.RecvRetry) agent stores turn shown
retry_received_own profile last s agent stores turn shown is h f =
    let there = retry_there (cells_of s agent.0).rsp_down is in
    let some : is_some (cells_of s agent.0).rsp_down ≡ true = ap is_some there.1 in
    let p = some_of (rn_of s agent.0).pending (h.apart.rsp_pending some) in
    own_by profile s _ agent stores turn shown None _ (both_lane s agent.0 _ _ h.requesters h.flits) (sends_taken agent (cells_of s agent.0))
    (retry_received_turn profile stores turn shown s.home.serving agent.0 (lane s agent.0) p.0 there.0 p.1 there.1 (none_of _ (h.apart.rsp_req some)) (h.apart.rsp_away some) (h.apart.rsp_data some) f)

-- a request that was sent back may be resent, or is given up
resend_may : (state : State) (pending : Option Pending) (p : Pending) → pending ≡ Some p → resend_refusal_in state pending ≡ None → is_left_fit p.kind state ≡ true
resend_may state pending p is may = go p (subst (λ (o : Option Pending). resend_refusal_in state o ≡ None) is may)
  where
    go : (p : Pending) → resend_refusal_in state (Some p) ≡ None → is_left_fit p.kind state ≡ true
    go p may = grind (arith, may)

cancel_may : (state : State) (pending : Option Pending) (p : Pending) → pending ≡ Some p → cancel_refusal_in state pending ≡ None → is_left_fit p.kind state ≡ false
cancel_may state pending p is may = go p (subst (λ (o : Option Pending). cancel_refusal_in state o ≡ None) is may)
  where
    go : (p : Pending) → cancel_refusal_in state (Some p) ≡ None → is_left_fit p.kind state ≡ false
    go p may = grind (arith, may)

pub back_is : (pending : Option Pending) (p : Pending) → pending ≡ Some p → p.phase ≡ phases.Retried → is_retried pending ≡ true
back_is pending p is phase = ap is_retried is ∙ ap (λ (f : Phase). is_retried (Some (record p { phase = f }))) phase

-- Resend
resend_own : (profile : Profile) (last : List ℕ) (s : LineState) (agent : Agent) (stores : StoreListing) (turn : Turn) (shown : Bool) (p : Pending) → (rn_of s agent.0).pending ≡ Some p → p.phase ≡ phases.Retried → is_left_fit p.kind (rn_of s agent.0).state ≡ true → Finds last s agent.0
    → Fits stores turn shown s.home.serving agent.0 (lane s agent.0) → Own profile s (resent_line s agent.0 p) agent stores turn shown
resend_own profile last s agent stores turn shown p pending phase may h f =
    let back : is_retried (rn_of s agent.0).pending ≡ true = back_is _ p pending phase in
    let unsent : (cells_of s agent.0).req ≡ None = none_of _ (h.apart.back_req back) in
    own_by profile s _ agent stores turn shown (Some (request_message p.kind p.slot false)) _ (both_lane s agent.0 _ _ h.requesters h.flits)
    (sends_request agent (cells_of s agent.0) _ _ unsent refl (record { rsp_down = inl refl; dat_down = inl refl; rsp_up = inl refl; dat_up = inl refl }))
    (resend_turn profile stores turn shown s.home.serving agent.0 (lane s agent.0) p pending may unsent (h.apart.back_away back) (h.apart.back_data back) (none_of _ (h.apart.back_rsp back)) f)

-- Cancel
cancel_own : (profile : Profile) (last : List ℕ) (s : LineState) (agent : Agent) (stores : StoreListing) (turn : Turn) (shown : Bool) (p : Pending) → (rn_of s agent.0).pending ≡ Some p → p.phase ≡ phases.Retried → is_left_fit p.kind (rn_of s agent.0).state ≡ false → Finds last s agent.0
    → Fits stores turn shown s.home.serving agent.0 (lane s agent.0) → Own profile s (after_step profile s agent steps.Cancel) agent stores turn shown
cancel_own profile last s agent stores turn shown p pending phase may h f =
    let back : is_retried (rn_of s agent.0).pending ≡ true = back_is _ p pending phase in
    own_by profile s _ agent stores turn shown None _ (copy_lane s agent.0 _ h.requesters) (sends_nothing agent (cells_of s agent.0) (cells_of s agent.0) (nothing_changes (cells_of s agent.0)))
    (cancel_turn profile stores turn shown s.home.serving agent.0 (lane s agent.0) p pending may (none_of _ (h.apart.back_req back)) (h.apart.back_away back) (h.apart.back_data back) (none_of _ (h.apart.back_rsp back)) f)

-- A flit of the home that answers a request
pub answered_turn : (profile : Profile) (stores : StoreListing) (turn : Turn) (shown : Bool) (serving serving' : Serving) (n : ℕ) (x x' : Lane) (p : Pending) (place : Place) (message : Msg) (given : SeenAt → Given) → x.rn.pending ≡ Some p → x'.rn ≡ x.rn → place_of serving n x ≡ Place.AtHome → place_of serving' n x' ≡ place
    → (is_some x.flits.snp ≡ true → x'.flits.snp ≡ x.flits.snp) → ((at : SeenAt) → GivenAt (given at) x'.flits)
    → ((at : SeenAt) → IsAskedAt turn.asked p x.rn.state Place.AtHome → Answers (turn_after profile stores at turn message) turn (given at) (λ left. IsAskedAt left.asked p x.rn.state place)) → Fits stores turn shown serving n x → Keeps profile stores turn (Some message) shown serving' n x'
answered_turn profile stores turn shown serving serving' n x x' p place message given pending rn here there snp gives answers f = λ at.
    let told = answers at (at_fits stores turn shown serving n x p Place.AtHome pending here f) in (
      told.0,
      told.1,
      fits_at stores told.0.turn shown serving' n x' p place (ap (λ (r : Rn). r.pending) rn ∙ pending) there
          (subst (λ (r : Rn). IsAskedAt told.0.turn.asked p r.state place) (sym rn) told.2)
          (held_same stores turn told.0.turn shown x x' told.4 rn
          (λ seen. subst (λ (o : Option OpenSnoop). IsSnooped o x'.flits.snp) (sym told.3) (snooped_same turn.snoop x.flits.snp x'.flits.snp (f.held.snooped seen) snp))
          (subst (λ (g : Given). GivenAt g x'.flits) (sym told.5) (gives at)) f.held),
    )

-- what a completion gives
abbrev pub completion_gives : Kind → Bool → SeenAt → Given
completion_gives CleanUnique unique at = Raised at
completion_gives other unique at = given_by unique at

same_data : (unique : Bool) (words : List ℕ) (d : CompData) → ◌≡◌ {A = Option CompData} (Some (record { unique = unique; words = words })) (Some d) → unique ≡ d.unique
same_data unique words d here = let e : ◌≡◌ {A = CompData} (record { unique = unique; words = words }) d = cc (here) in ap (λ (c : CompData). c.unique) e

pub completion_given : (kind : Kind) (unique : Bool) (words : List ℕ) (c : Cells) (at : SeenAt) → c.dat_down ≡ None → c.rsp_down ≡ None → GivenAt (completion_gives kind unique at) (with_message c (completion_message kind unique words))
completion_given CleanUnique unique words c at none unanswered = record { data_is = λ d here. absurd (cc (here, none)); comp_is = λ here. (at, refl) }
completion_given other unique words c at none unanswered = record { data_is = λ d here. (at, ap (λ (b : Bool). given_by b at) (same_data unique words d here)); comp_is = λ here. absurd (cc (here, unanswered)) }

completion_snp : (kind : Kind) (unique : Bool) (words : List ℕ) (c : Cells) → (with_message c (completion_message kind unique words)).snp ≡ c.snp
completion_snp CleanUnique unique words c = refl
completion_snp other unique words c = refl

-- cells that a completion is put on, where they have the snoop that was there
pub completion_keeps : (kind : Kind) (unique : Bool) (words : List ℕ) (c c' : Cells) → (is_some c.snp ≡ true → c'.snp ≡ c.snp) → is_some c.snp ≡ true → (with_message c' (completion_message kind unique words)).snp ≡ c.snp
completion_keeps kind unique words c c' same there = completion_snp kind unique words c' ∙ same there

-- a completion of a request that a snoop serves
pub completion_answers : (profile : Profile) (stores : StoreListing) (at : SeenAt) (turn : Turn) (p : Pending) (state : State) (kind : Kind) (unique : Bool) (words : List ℕ) → is_some (snoop_of kind) ≡ true → p.kind ≡ kind → IsAskedAt turn.asked p state Place.AtHome
    → Answers (turn_after profile stores at turn (completion_message kind unique words)) turn (completion_gives kind unique at) (λ left. IsAskedAt left.asked p state Place.Answered)
completion_answers profile stores at turn p state ReadNotSharedDirty unique words served is f = read_answers turn (given_by unique at) p state (ap is_read is) f
completion_answers profile stores at turn p state ReadShared unique words served is f = read_answers turn (given_by unique at) p state (ap is_read is) f
completion_answers profile stores at turn p state ReadUnique unique words served is f = read_answers turn (given_by unique at) p state (ap is_read is) f
completion_answers profile stores at turn p state CleanUnique unique words served is f = unique_answers turn (Raised at) p state is f
completion_answers profile stores at turn p state other unique words served is f = absurd (cc (served))

-- where it is in flight
pub completion_place : (kind : Kind) (unique : Bool) (words : List ℕ) (c : Cells) (home : Bool) → c.req ≡ None → home ≡ false → c.dat_down ≡ None
    → place_in (with_message c (completion_message kind unique words)).req home (is_some (with_message c (completion_message kind unique words)).dat_down) (with_message c (completion_message kind unique words)).rsp_down ≡ Place.Answered
completion_place CleanUnique unique words c home unsent away none = other_place c.req home (is_some c.dat_down) _ _ unsent away (ap is_some none) refl
completion_place other unique words c home unsent away none = data_place c.req home true c.rsp_down unsent away refl

-- Start
pub record StartFinds (last : List ℕ) (s : LineState) (agent : Agent) (request : Waiting) : Type 0 where
  pub finds : Finds last s agent.0
  pub here : waiting_of s.home agent.0 ≡ Some request
  pub idle : s.home.serving ≡ Idle
  pub pending : Pending
  pub pending_is : (rn_of s agent.0).pending ≡ Some pending
  pub kind : pending.kind ≡ request.kind
  pub at_home : at_home s.home.serving agent.0 (lane s agent.0) ≡ true
  pub unsent : (cells_of s agent.0).req ≡ None
  pub no_data : (cells_of s agent.0).dat_down ≡ None
  pub no_response : (cells_of s agent.0).rsp_down ≡ None

pub start_finds : (last : List ℕ) (s : LineState) (agent : Agent) (request : Waiting) → waiting_of s.home agent.0 ≡ Some request → s.home.serving ≡ Idle → Finds last s agent.0 → StartFinds last s agent request
start_finds last s agent request here idle h =
    let home : at_home s.home.serving agent.0 (lane s agent.0) ≡ true = ap (λ (w : Option Waiting). is_some w || snoops_for s.home.serving agent.0) here in
    let p = some_of (rn_of s agent.0).pending (h.apart.home_pending home) in
    record {
      finds = h;
      here = here;
      idle = idle;
      pending = p.0;
      pending_is = p.1;
      kind = kind_of_pending _ p.0 request.kind p.1 (h.kept.waiting_kind request here);
      at_home = home;
      unsent = none_of _ (h.apart.home_req home);
      no_data = none_of _ (h.apart.home_data home);
      no_response = none_of _ (h.apart.home_rsp home);
    }

-- nothing waits any more, and what is served snoops for the agent, or not
start_away : (s : LineState) (agent : Agent) (kind : Kind) (slot : Slot) (b : Bool) → agent.0 < length s.home.waiting → snoops_for (started_as kind (taken_up s.home agent.0) agent slot).serving agent.0 ≡ b
    → (is_some (waiting_of (started_as kind (taken_up s.home agent.0) agent slot) agent.0) || snoops_for (started_as kind (taken_up s.home agent.0) agent slot).serving agent.0) ≡ b
start_away s agent kind slot b low snoops =
    let none : waiting_of (started_as kind (taken_up s.home agent.0) agent slot) agent.0 ≡ None =
    ap (λ (l : List (Option Waiting)). get_or l agent.0 None) (start_waits kind (taken_up s.home agent.0) agent slot) ∙ get_or-set_same s.home.waiting agent.0 None None low in
    λ i. is_some (none i) || snoops i

-- a start of a kind
abbrev pub StartsAs : Kind → Home → Agent → Slot → LineState → LineState
StartsAs kind home agent slot s = record s { home = started_as kind home agent slot; flits = flits_after_start s.flits agent.0 (started_sends_as kind (snoop_of kind) s.home agent slot) }

pub response_sent : (agent : Agent) (c : Cells) (m : RspDown) → c.rsp_down ≡ None → sent_of_agent agent (busy_in c) (with_message c (messages.RspDown m)) ≡ flits_of agent (Some (messages.RspDown m))
response_sent agent c m none = sends_response agent c _ m none refl (record { req = inl refl; dat_down = inl refl; rsp_up = inl refl; dat_up = inl refl })

response_not : (c : Cells) (m : RspDown) → (m ≡ CompUC → ⊥) → (with_message c (messages.RspDown m)).rsp_down ≡ Some CompUC → ⊥
response_not c m other here = other (cc (here))

-- what a start of a kind that one response answers leaves
start_responds : (profile : Profile) (last : List ℕ) (s : LineState) (agent : Agent) (request : Waiting) (stores : StoreListing) (turn : Turn) (shown : Bool) (home' : Home) (m : RspDown) (place : Place) → StartFinds last s agent request
    → (is_some (waiting_of home' agent.0) || snoops_for home'.serving agent.0) ≡ false → place_in None false false (Some m) ≡ place
    → (m ≡ CompUC → ⊥)
    → ((p : Pending) (at : SeenAt) → p.kind ≡ request.kind → IsAskedAt turn.asked p (rn_of s agent.0).state Place.AtHome → Answers (turn_after profile stores at turn (messages.RspDown m)) turn turn.given (λ left. IsAskedAt left.asked p (rn_of s agent.0).state place))
    → Fits stores turn shown s.home.serving agent.0 (lane s agent.0) → Own profile s (record s { home = home'; flits = set s.flits agent.0 (with_message (cells_of s agent.0) (messages.RspDown m)) }) agent stores turn shown
start_responds profile last s agent request stores turn shown home' m place h away there other answers f =
    let c : Cells = with_message (cells_of s agent.0) (messages.RspDown m) in
    let cells : get_or (set s.flits agent.0 c) agent.0 no_flits ≡ c = get_or-set_same s.flits agent.0 c no_flits h.finds.flits in
    let s' : LineState = record s { home = home'; flits = set s.flits agent.0 c } in
    record {
      sent = Some (messages.RspDown m);
      is = subst (λ (x : Cells). sent_of_agent agent (busy_in (cells_of s agent.0)) x ≡ flits_of agent (Some (messages.RspDown m))) (sym cells) (response_sent agent (cells_of s agent.0) m h.no_response);
      keeps = answered_turn profile stores turn shown s.home.serving home'.serving agent.0 (lane s agent.0) (lane s' agent.0) h.pending place (messages.RspDown m) (λ at. turn.given) h.pending_is refl
          (home_place (cells_of s agent.0).req _ _ _ h.unsent h.at_home)
          (ap (λ (x : Cells). place_in x.req (is_some (waiting_of home' agent.0) || snoops_for home'.serving agent.0) (is_some x.dat_down) x.rsp_down) cells
          ∙ ((λ i. place_in (h.unsent i) (away i) (is_some (h.no_data i)) (Some m)) ∙ there))
          (λ some. ap (λ (x : Cells). x.snp) cells)
          (λ at. subst (GivenAt turn.given) (sym cells) (none_given turn.given c h.no_data (response_not (cells_of s agent.0) m other)))
          (λ at is. answers h.pending at h.kind is) f;
    }

-- what a start of a kind that a snoop serves leaves: snoops, or a completion
service_own : (profile : Profile) (last : List ℕ) (s : LineState) (agent : Agent) (request : Waiting) (stores : StoreListing) (turn : Turn) (shown : Bool) (kind : Kind) (snoop : Snoop) → request.kind ≡ kind → is_some (snoop_of kind) ≡ true → StartFinds last s agent request
    → Fits stores turn shown s.home.serving agent.0 (lane s agent.0)
    → Own profile s (record s { home = home_after_service (taken_up s.home agent.0) kind agent request.slot; flits = flits_after_start s.flits agent.0 (served_sends s.home kind snoop agent) }) agent stores turn shown
service_own profile last s agent request stores turn shown kind snoop of served h f = go (has_any (asks kind s.home.filter agent.0))
  where
    gone : waiting_of (taken_up s.home agent.0) agent.0 ≡ None
    gone = get_or-set_same s.home.waiting agent.0 None None h.finds.waits

    snoops : LineState
    snoops = record s { home = record (taken_up s.home agent.0) { serving = Snooping agent kind request.slot; awaited = asks kind s.home.filter agent.0 }; flits = flits_after_start s.flits agent.0 (Snoops snoop (asks kind s.home.filter agent.0)) }

    quiet : (cells_of s agent.0).snp ≡ None
    quiet = idle_no_snoop s.home.serving s.home.filter.unique s.home.filter.owner last agent.0 (lane s agent.0) h.idle h.finds.kept

    down : SameDown (cells_of s agent.0) (cells_of snoops agent.0)
    down = subst (SameDown (cells_of s agent.0)) (sym (snooped_at (asks kind s.home.filter agent.0) snoop s.flits agent.0 h.finds.flits)) (snooped_down (get_or (asks kind s.home.filter agent.0) agent.0 false) snoop (cells_of s agent.0) quiet)

    empties : (marked : Bool) (c : Cells) → c.snp ≡ None → Empties c (snooped_cells marked snoop c)
    empties true c none = record { req = refl; rsp_down = refl; dat_down = refl; rsp_up = inl refl; dat_up = inl refl; snp = λ there. absurd (cc (there, ap (λ (o : Option Snoop). is_some o) none)) }
    empties false c none = nothing_changes c

    completes : LineState
    completes = record s { home = home_after_completion (taken_up s.home agent.0) kind agent request.slot; flits = set s.flits agent.0 (with_message (cells_of s agent.0) (completion_of s.home kind agent s.home.memory)) }

    message : Msg
    message = completion_of s.home kind agent s.home.memory

    cells : cells_of completes agent.0 ≡ with_message (cells_of s agent.0) message
    cells = get_or-set_same s.flits agent.0 (with_message (cells_of s agent.0) message) no_flits h.finds.flits

    before : place_of s.home.serving agent.0 (lane s agent.0) ≡ Place.AtHome
    before = home_place (cells_of s agent.0).req _ _ _ h.unsent h.at_home

    go : (b : Bool) → Own profile s (record s {
      home = if b then record (taken_up s.home agent.0) { serving = Snooping agent kind request.slot; awaited = asks kind s.home.filter agent.0 } else home_after_completion (taken_up s.home agent.0) kind agent request.slot;
      flits = flits_after_start s.flits agent.0 (if b then Snoops snoop (asks kind s.home.filter agent.0) else Sends (completion_of s.home kind agent s.home.memory));
    }) agent stores turn shown
    go true = record {
      sent = None;
      is = subst (λ (x : Cells). sent_of_agent agent (busy_in (cells_of s agent.0)) x ≡ []) (sym (snooped_at (asks kind s.home.filter agent.0) snoop s.flits agent.0 h.finds.flits)) (sends_nothing agent (cells_of s agent.0) _ (empties (get_or (asks kind s.home.filter agent.0) agent.0 false) (cells_of s agent.0) quiet));
      keeps = fits_at stores turn shown (Snooping agent kind request.slot) agent.0 (lane snoops agent.0) h.pending Place.AtHome h.pending_is
          (home_place _ _ _ _ (down.req ∙ h.unsent) (or_home (is_some (waiting_of (taken_up s.home agent.0) agent.0)) _ (same_slot agent.0))) (at_fits stores turn shown s.home.serving agent.0 (lane s agent.0) h.pending Place.AtHome h.pending_is before f)
          (held_same stores turn turn shown (lane s agent.0) (lane snoops agent.0) refl refl (λ seen. snooped_same turn.snoop (cells_of s agent.0).snp (cells_of snoops agent.0).snp (f.held.snooped seen) down.snp)
          (given_same turn.given (cells_of s agent.0) (cells_of snoops agent.0) down.rsp_down down.dat_down f.held.given) f.held);
    }
    go false = record {
      sent = Some message;
      is = subst (λ (x : Cells). sent_of_agent agent (busy_in (cells_of s agent.0)) x ≡ flits_of agent (Some message)) (sym cells)
          (sends_form agent (cells_of s agent.0) (cells_of s agent.0) (completion_form kind (completes_unique kind s.home.filter agent.0)) s.home.memory (nothing_changes (cells_of s agent.0)) h.no_response h.no_data);
      keeps = answered_turn profile stores turn shown s.home.serving (AwaitingCompAck agent request.slot) agent.0 (lane s agent.0) (lane completes agent.0) h.pending Place.Answered message (completion_gives kind (completes_unique kind s.home.filter agent.0)) h.pending_is refl before
          (ap (λ (x : Cells). place_in x.req (is_some (waiting_of (taken_up s.home agent.0) agent.0) || false) (is_some x.dat_down) x.rsp_down) cells
          ∙ completion_place kind (completes_unique kind s.home.filter agent.0) s.home.memory (cells_of s agent.0) _ h.unsent (neither_home _ false (ap is_some gone) refl) h.no_data)
          (λ some. ap (λ (x : Cells). x.snp) cells ∙ completion_keeps kind (completes_unique kind s.home.filter agent.0) s.home.memory (cells_of s agent.0) (cells_of s agent.0) (λ there. refl) some)
          (λ at. subst (GivenAt (completion_gives kind (completes_unique kind s.home.filter agent.0) at)) (sym cells) (completion_given kind (completes_unique kind s.home.filter agent.0) s.home.memory (cells_of s agent.0) at h.no_data h.no_response))
          (λ at is. completion_answers profile stores at turn h.pending (rn_of s agent.0).state kind (completes_unique kind s.home.filter agent.0) s.home.memory served (h.kind ∙ of) is) f;
    }

start_of_kind : (profile : Profile) (last : List ℕ) (s : LineState) (agent : Agent) (request : Waiting) (stores : StoreListing) (turn : Turn) (shown : Bool) (kind : Kind) → request.kind ≡ kind → StartFinds last s agent request → Fits stores turn shown s.home.serving agent.0 (lane s agent.0)
    → Own profile s (record s { home = started_as kind (taken_up s.home agent.0) agent request.slot; flits = flits_after_start s.flits agent.0 (started_sends_as kind (snoop_of kind) s.home agent request.slot) }) agent stores turn shown
start_of_kind profile last s agent request stores turn shown ReadNotSharedDirty of h f = service_own profile last s agent request stores turn shown ReadNotSharedDirty SnpNotSharedDirty of refl h f
start_of_kind profile last s agent request stores turn shown ReadShared of h f = service_own profile last s agent request stores turn shown ReadShared SnpShared of refl h f
start_of_kind profile last s agent request stores turn shown ReadUnique of h f = service_own profile last s agent request stores turn shown ReadUnique SnpUnique of refl h f
start_of_kind profile last s agent request stores turn shown CleanUnique of h f = service_own profile last s agent request stores turn shown CleanUnique SnpCleanInvalid of refl h f
start_of_kind profile last s agent request stores turn shown Evict of h f =
    start_responds profile last s agent request stores turn shown _ CompI Place.Closing h (start_away s agent Evict request.slot false h.finds.waits (ap (λ (v : Serving). snoops_for v agent.0) h.idle)) refl (λ e. absurd (cc (e)))
    (λ p at is. evict_answers turn p (rn_of s agent.0).state (is ∙ of)) f
start_of_kind profile last s agent request stores turn shown WriteBackFull of h f =
    start_responds profile last s agent request stores turn shown _ CompDBIDResp Place.Asking h (start_away s agent WriteBackFull request.slot false h.finds.waits refl) refl (λ e. absurd (cc (e))) (λ p at is. write_answers turn p (rn_of s agent.0).state (ap is_copy_back (is ∙ of))) f
start_of_kind profile last s agent request stores turn shown WriteCleanFull of h f =
    start_responds profile last s agent request stores turn shown _ CompDBIDResp Place.Asking h (start_away s agent WriteCleanFull request.slot false h.finds.waits refl) refl (λ e. absurd (cc (e))) (λ p at is. write_answers turn p (rn_of s agent.0).state (ap is_copy_back (is ∙ of))) f
start_of_kind profile last s agent request stores turn shown WriteEvictFull of h f =
    start_responds profile last s agent request stores turn shown _ CompDBIDResp Place.Asking h (start_away s agent WriteEvictFull request.slot false h.finds.waits refl) refl (λ e. absurd (cc (e))) (λ p at is. write_answers turn p (rn_of s agent.0).state (ap is_copy_back (is ∙ of))) f

-- RecvSnp
snoop_own : (profile : Profile) (last : List ℕ) (s : LineState) (agent : Agent) (stores : StoreListing) (turn : Turn) (snoop : Snoop) → (cells_of s agent.0).snp ≡ Some snoop → Finds last s agent.0
    → Fits stores turn true s.home.serving agent.0 (lane s agent.0) → Own profile s (snooped_line s agent.0 snoop) agent stores turn false
snoop_own profile last s agent stores turn snoop here h f =
    let snooping = is_snooping s.home.serving (ap is_some (h.kept.snoop_fits snoop here)) in
    let k : LaneKept (Snooping snooping.agent snooping.kind snooping.slot) s.home.filter.unique s.home.filter.owner last agent.0 (lane s agent.0) =
    subst (λ (v : Serving). LaneKept v s.home.filter.unique s.home.filter.owner last agent.0 (lane s agent.0)) snooping.serving_is h.kept in
    let x : Lane = lane s agent.0 in
    let c : Cells = with_message (record x.flits { snp = None }) (answer_of x.rn.state snoop x.rn.words).1 in
    let down : StaysDown x.flits c = answer_down x.flits x.rn.state snoop x.rn.words in
    own_by profile s _ agent stores turn false (Some (answer_of x.rn.state snoop x.rn.words).1) (record x { rn = rn_after_snoop x.rn snoop; flits = c }) (both_lane s agent.0 _ _ h.requesters h.flits)
    (sends_answer agent x.flits x.rn.state snoop x.rn.words (snoop_no_response snooping.agent snooping.kind snooping.slot s.home.filter.unique s.home.filter.owner last agent.0 x snoop here k)
    (snoop_no_data snooping.agent snooping.kind snooping.slot s.home.filter.unique s.home.filter.owner last agent.0 x snoop here k))
    (answer_turn profile stores turn s.home.serving agent.0 x _ snoop (λ i. place_in (down.req i) (at_home s.home.serving agent.0 x) (is_some (down.dat_down i)) (down.rsp_down i)) refl here
    (given_same turn.given x.flits c down.rsp_down down.dat_down f.held.given) f)

-- beside a completion nothing of the requester is on its way
pub data_no_up : (serving : Serving) (unique : Bool) (owner : Option Agent) (last : List ℕ) (n : ℕ) (x : Lane) (message : CompData) → x.flits.dat_down ≡ Some message → LaneKept serving unique owner last n x → x.flits.rsp_up ≡ None
data_no_up (AwaitingCompAck agent slot) unique owner last n x message here k = search (arith, k.one_ack, k.one_answer, k.awaited_snooped)
data_no_up serving unique owner last n x message here k = search (arith, k.one_ack)

pub comp_no_up : (serving : Serving) (unique : Bool) (owner : Option Agent) (last : List ℕ) (n : ℕ) (x : Lane) → x.flits.rsp_down ≡ Some CompUC → LaneKept serving unique owner last n x → x.flits.rsp_up ≡ None
comp_no_up (AwaitingCompAck agent slot) unique owner last n x here k = search (arith, k.one_ack, k.one_answer, k.awaited_snooped)
comp_no_up serving unique owner last n x here k = search (arith, k.one_ack)

pub dbid_no_up : (serving : Serving) (unique : Bool) (owner : Option Agent) (last : List ℕ) (n : ℕ) (x : Lane) → x.flits.rsp_down ≡ Some CompDBIDResp → LaneKept serving unique owner last n x → x.flits.dat_up ≡ None
dbid_no_up (AwaitingWriteData agent kind slot) unique owner last n x here k = search (arith, k.one_write, k.one_answer, k.awaited_snooped)
dbid_no_up serving unique owner last n x here k = search (arith, k.one_write)

-- RecvData
data_own : (profile : Profile) (last : List ℕ) (s : LineState) (agent : Agent) (stores : StoreListing) (turn : Turn) (shown : Bool) (message : CompData) → (cells_of s agent.0).dat_down ≡ Some message → Finds last s agent.0
    → Fits stores turn shown s.home.serving agent.0 (lane s agent.0) → Own profile s (received_line s agent.0 message) agent stores turn shown
data_own profile last s agent stores turn shown message here h f =
    let there : is_some (cells_of s agent.0).dat_down ≡ true = ap is_some here in
    let p = some_of (rn_of s agent.0).pending (h.apart.data_pending there) in
    own_by profile s _ agent stores turn shown (Some (messages.RspUp CompAck)) _ (both_lane s agent.0 _ _ h.requesters h.flits)
    (sends_up agent (cells_of s agent.0) _ CompAck (data_no_up s.home.serving s.home.filter.unique s.home.filter.owner last agent.0 (lane s agent.0) message here h.kept) refl (record { req = inl refl; rsp_down = inl refl; dat_down = inr refl }) (inl refl))
    (acknowledge_turn profile stores turn shown s.home.serving agent.0 (lane s agent.0) _ p.0 p.1 (data_place (cells_of s agent.0).req _ _ _ (none_of _ (h.apart.data_req there)) (h.apart.data_away there) there) refl
    (given_base message.unique (f.held.given.data_is message here).0 turn.given turn.copy (f.held.given.data_is message here).1) refl
    (none_given turn.given _ refl (λ e. absurd (cc (e, none_of _ (h.apart.data_rsp there))))) f)

-- RecvComp
comp_own : (profile : Profile) (last : List ℕ) (s : LineState) (agent : Agent) (stores : StoreListing) (turn : Turn) (shown : Bool) (there : Option RspDown) → (cells_of s agent.0).rsp_down ≡ there → is_comp there ≡ true → Finds last s agent.0
    → Fits stores turn shown s.home.serving agent.0 (lane s agent.0) → Own profile s (completion_received s agent.0 there) agent stores turn shown
comp_own profile last s agent stores turn shown (Some CompUC) here is h f =
    let some : is_some (cells_of s agent.0).rsp_down ≡ true = ap is_some here in
    let p = some_of (rn_of s agent.0).pending (h.apart.rsp_pending some) in
    own_by profile s _ agent stores turn shown (Some (messages.RspUp CompAck)) _ (both_lane s agent.0 _ _ h.requesters h.flits)
    (sends_up agent (cells_of s agent.0) _ CompAck (comp_no_up s.home.serving s.home.filter.unique s.home.filter.owner last agent.0 (lane s agent.0) here h.kept) refl (record { req = inl refl; rsp_down = inr refl; dat_down = inl refl }) (inl refl))
    (acknowledge_turn profile stores turn shown s.home.serving agent.0 (lane s agent.0) _ p.0 p.1 (other_place (cells_of s agent.0).req _ _ _ _ (none_of _ (h.apart.rsp_req some)) (h.apart.rsp_away some) (h.apart.rsp_data some) here) refl
    (raised_base (f.held.given.comp_is here).0 turn.given turn.copy (rn_of s agent.0).state (f.held.given.comp_is here).1 (f.held.bound (ap (λ (o : Option Pending). is_some o) p.1))) refl
    (none_given turn.given _ (none_of _ (h.apart.rsp_data some)) (λ e. absurd (cc (e)))) f)
comp_own profile last s agent stores turn shown (Some CompI) here is h f =
    let some : is_some (cells_of s agent.0).rsp_down ≡ true = ap is_some here in
    let p = some_of (rn_of s agent.0).pending (h.apart.rsp_pending some) in
    own_by profile s _ agent stores turn shown None _ (both_lane s agent.0 _ _ h.requesters h.flits) (sends_taken agent (cells_of s agent.0))
    (closed_turn profile stores turn shown s.home.serving agent.0 (lane s agent.0) _ p.0 p.1 (other_place (cells_of s agent.0).req _ _ _ _ (none_of _ (h.apart.rsp_req some)) (h.apart.rsp_away some) (h.apart.rsp_data some) here) refl refl refl
    (none_given turn.given _ (none_of _ (h.apart.rsp_data some)) (λ e. absurd (cc (e)))) f)
comp_own profile last s agent stores turn shown other here is h f = absurd (cc (is))

-- RecvDbid
dbid_own : (profile : Profile) (last : List ℕ) (s : LineState) (agent : Agent) (stores : StoreListing) (turn : Turn) (shown : Bool) (p : Pending) → (rn_of s agent.0).pending ≡ Some p → (cells_of s agent.0).rsp_down ≡ Some CompDBIDResp → Finds last s agent.0
    → Fits stores turn shown s.home.serving agent.0 (lane s agent.0) → Own profile s (dbid_received_line s agent.0 p.kind) agent stores turn shown
dbid_own profile last s agent stores turn shown p pending here h f =
    let some : is_some (cells_of s agent.0).rsp_down ≡ true = ap is_some here in
    own_by profile s _ agent stores turn shown (Some (messages.DatUp (write_data_of (rn_of s agent.0).state (rn_of s agent.0).words))) _ (both_lane s agent.0 _ _ h.requesters h.flits)
    (sends_data agent (cells_of s agent.0) _ _ (dbid_no_up s.home.serving s.home.filter.unique s.home.filter.owner last agent.0 (lane s agent.0) here h.kept) refl (record { req = inl refl; rsp_down = inr refl; dat_down = inl refl }) (inl refl))
    (write_turn profile stores turn shown s.home.serving agent.0 (lane s agent.0) _ p pending (other_place (cells_of s agent.0).req _ _ _ _ (none_of _ (h.apart.rsp_req some)) (h.apart.rsp_away some) (h.apart.rsp_data some) here) refl refl refl
    (none_given turn.given _ (none_of _ (h.apart.rsp_data some)) (λ e. absurd (cc (e)))) f)

-- RecvAck and RecvWrData: the line is idle then
ended_own : (profile : Profile) (last : List ℕ) (s : LineState) (agent : Agent) (stores : StoreListing) (turn : Turn) (shown : Bool) (home' : Home) (c : Cells) → waiting_of home' agent.0 ≡ waiting_of s.home agent.0 → snoops_for home'.serving agent.0 ≡ snoops_for s.home.serving agent.0
    → Empties (cells_of s agent.0) c → Finds last s agent.0 → Fits stores turn shown s.home.serving agent.0 (lane s agent.0) → Own profile s (record s { home = home'; flits = set s.flits agent.0 c }) agent stores turn shown
ended_own profile last s agent stores turn shown home' c waits snoops empties h f =
    let s' : LineState = record s { home = home'; flits = set s.flits agent.0 c } in
    let cells : cells_of s' agent.0 ≡ c = get_or-set_same s.flits agent.0 c no_flits h.flits in
    record {
      sent = None;
      is = subst (λ (x : Cells). sent_of_agent agent (busy_in (cells_of s agent.0)) x ≡ []) (sym cells) (sends_nothing agent (cells_of s agent.0) c empties);
      keeps = untouched_fits stores turn shown s s' agent.0
          (record { rn = refl; down = subst (SameDown (cells_of s agent.0)) (sym cells) (record { req = empties.req; rsp_down = empties.rsp_down; dat_down = empties.dat_down; snp = empties.snp }); home = λ i. is_some (waits i) || snoops i }) f;
    }

written_own : (profile : Profile) (last : List ℕ) (s : LineState) (agent : Agent) (stores : StoreListing) (turn : Turn) (shown : Bool) (kind : Kind) (there : Option DatUp) → (cells_of s agent.0).dat_up ≡ there → Kept last s → Finds last s agent.0
    → Fits stores turn shown s.home.serving agent.0 (lane s agent.0) → Own profile s (data_written s agent.0 kind there) agent stores turn shown
written_own profile last s agent stores turn shown kind (Some (CopyBackWrData form words)) here k h f =
    ended_own profile last s agent stores turn shown _ (record (cells_of s agent.0) { dat_up = None }) refl (written_snoops s.home.serving agent.0 agent.0 (write_is_awaited last s agent.0 h.low k (ap is_write_data here)))
    (record { req = refl; rsp_down = refl; dat_down = refl; rsp_up = inl refl; dat_up = inr refl; snp = λ there. refl }) h f
written_own profile last s agent stores turn shown kind there here k h f = same_own profile s s agent stores turn shown refl f

-- a step that takes something away
own_some : {A : Type 0} (profile : Profile) (s : LineState) (agent : Agent) (stores : StoreListing) (turn : Turn) (shown : Bool) (there : Option A) (step : A → LineState) (a : A) → there ≡ Some a → Own profile s (step a) agent stores turn shown → Own profile s (where_some s there step) agent stores turn shown
own_some profile s agent stores turn shown there step a here own = subst (λ (o : Option _). Own profile s (where_some s o step) agent stores turn shown) (sym here) own

own_if_some : {A : Type 0} (profile : Profile) (s : LineState) (agent : Agent) (stores : StoreListing) (turn : Turn) (shown : Bool) (there : Option A) (step : A → LineState) → Own profile s s agent stores turn shown → ((a : A) → there ≡ Some a → Own profile s (step a) agent stores turn shown) → Own profile s (where_some s there step) agent stores turn shown
own_if_some profile s agent stores turn shown None step none some = none
own_if_some profile s agent stores turn shown (Some a) step none some = some a refl

-- a step that writes a copy of which nothing is pending, and leads to a state that it may be in
free_own : (profile : Profile) (last : List ℕ) (s : LineState) (agent : Agent) (stores : StoreListing) (turn : Turn) (shown : Bool) (r : Rn) → r.pending ≡ (rn_of s agent.0).pending → (rn_of s agent.0).pending ≡ None → drifts stores turn.copy.base r.state ≡ true → Finds last s agent.0
    → Fits stores turn shown s.home.serving agent.0 (lane s agent.0) → Own profile s (record s { requesters = set s.requesters agent.0 r }) agent stores turn shown
free_own profile last s agent stores turn shown r same none may h f =
    let gone : is_some r.pending ≡ false = ap (λ (o : Option Pending). is_some o) (same ∙ none) in
    own_by profile s _ agent stores turn shown None _ (copy_lane s agent.0 r h.requesters) (sends_nothing agent (cells_of s agent.0) (cells_of s agent.0) (nothing_changes (cells_of s agent.0)))
    (fits_free stores turn shown s.home.serving agent.0 _ (same ∙ none) (free_fits stores turn shown s.home.serving agent.0 (lane s agent.0) none f)
    (record { snooped = f.held.snooped; free = λ free. may; bound = λ some. absurd (cc (some, gone)); given = given_same turn.given (cells_of s agent.0) _ refl refl f.held.given }))

-- a store where stores may be hidden, and a Drop
stores_on : (stores : StoreListing) (base state : State) → may_hide stores ≡ true → drifts stores base state ≡ true → is_unique state ≡ true → drifts stores base UD ≡ true
stores_on stores UC state hides may unique = hides
stores_on stores UD state hides may unique = refl
stores_on stores I UC hides may unique = absurd (cc (may))
stores_on stores I UD hides may unique = absurd (cc (may))
stores_on stores SC UC hides may unique = absurd (cc (may))
stores_on stores SC UD hides may unique = absurd (cc (may))
stores_on stores SD UC hides may unique = absurd (cc (may))
stores_on stores SD UD hides may unique = absurd (cc (may))
stores_on stores base state hides may unique = absurd (cc (unique))

drops_on : (stores : StoreListing) (base state : State) → drifts stores base state ≡ true → is_clean_copy state ≡ true → drifts stores base I ≡ true
drops_on stores I state may clean = refl
drops_on stores SC state may clean = refl
drops_on stores UC state may clean = refl
drops_on stores UD SC may clean = absurd (cc (may))
drops_on stores UD UC may clean = absurd (cc (may))
drops_on stores SD SC may clean = absurd (cc (may))
drops_on stores SD UC may clean = absurd (cc (may))
drops_on stores base state may clean = absurd (cc (clean))

-- a store that was seen
pub stored_fits : (last : List ℕ) (s : LineState) (agent : Agent) (word value : ℕ) (stores : StoreListing) (turn : Turn) (shown : Bool) (at : SeenAt) → (rn_of s agent.0).pending ≡ None → Finds last s agent.0 → Fits stores turn shown s.home.serving agent.0 (lane s agent.0)
    → Fits stores (with_copy turn (known_as UD at)) shown s.home.serving agent.0 (lane (stored_line s agent.0 word value) agent.0)
stored_fits last s agent word value stores turn shown at none h f =
    let r : Rn = rn_after_store (rn_of s agent.0) word value in
    let gone : is_some (rn_of s agent.0).pending ≡ false = ap (λ (o : Option Pending). is_some o) none in
    subst (Fits stores (with_copy turn (known_as UD at)) shown s.home.serving agent.0) (sym (copy_lane s agent.0 r h.requesters))
    (fits_free stores (with_copy turn (known_as UD at)) shown s.home.serving agent.0 (record (lane s agent.0) { rn = r }) none (free_fits stores turn shown s.home.serving agent.0 (lane s agent.0) none f)
    (record { snooped = f.held.snooped; free = λ free. refl; bound = λ some. absurd (cc (some, gone)); given = given_same turn.given (cells_of s agent.0) _ refl refl f.held.given }))

pub retry_may : (there : Option Request) → retry_refusal there ≡ None → (request : Request) × (there ≡ Some request) × (request.allow_retry ≡ true)
retry_may None may = absurd (cc (may))
retry_may (Some request) may = (request, refl, go request.allow_retry may)
  where
    go : (b : Bool) → (if b then None else Some MustAccept) ≡ None → b ≡ true
    go true may = refl
    go false may = absurd (cc (may))

-- whether a snoop that was seen is still there behind a step
abbrev pub shown_behind : Step → Bool → Bool
shown_behind steps.RecvSnp shown = false
shown_behind other shown = shown

abbrev pub MayAnswer : Step → Bool → Type 0
MayAnswer steps.RecvSnp shown = shown ≡ true
MayAnswer other shown = Unit {0}

-- a store that isn't seen is done where stores may be hidden
abbrev pub MayHide : StoreListing → Step → Type 0
MayHide stores (steps.Store word value) = may_hide stores ≡ true
MayHide stores other = Unit {0}

pub own_step : (c : Conditions) (last : List ℕ) (s : LineState) (agent : Agent) (step : Step) (stores : StoreListing) (turn : Turn) (shown : Bool) → is_answer_step step ≡ false → step_refusal c s agent step ≡ None → MayAnswer step shown → MayHide stores step → Kept last s → Finds last s agent.0
    → Fits stores turn shown s.home.serving agent.0 (lane s agent.0) → Own c.profile s (after_step c.profile s agent step) agent stores turn (shown_behind step shown)
own_step c last s agent (steps.Load word) stores turn shown plain may answers hides k h f = same_own c.profile s s agent stores turn shown refl f
own_step c last s agent (steps.Store word value) stores turn shown plain may answers hides k h f =
    let can = store_allowed (rn_of s agent.0) (neither (store_refusal (rn_of s agent.0)) (full_if c.journal_full) may).0 in
    free_own c.profile last s agent stores turn shown (rn_after_store (rn_of s agent.0) word.0 value) refl can.none (stores_on stores turn.copy.base (rn_of s agent.0).state hides (f.held.free can.none) can.unique) h f
own_step c last s agent steps.Drop stores turn shown plain may answers hides k h f =
    let can = drop_allowed (rn_of s agent.0) may in
    free_own c.profile last s agent stores turn shown (rn_after_drop (rn_of s agent.0)) refl can.none (drops_on stores turn.copy.base (rn_of s agent.0).state (f.held.free can.none) can.clean) h f
own_step c last s agent (steps.Issue kind slot) stores turn shown plain may answers hides k h f =
    let can = issue_allowed c.slot_used (rn_of s agent.0) kind may in
    issue_own c.profile last s agent stores turn shown kind slot can.none can.needed h f
own_step c last s agent steps.Admit stores turn shown plain may answers hides k h f =
    let there = some_of (cells_of s agent.0).req (flit_there (is_some (cells_of s agent.0).req) may) in
    own_some c.profile s agent stores turn shown (cells_of s agent.0).req (admitted_line s agent.0) there.0 there.1 (admit_own c.profile last s agent stores turn shown there.0 there.1 h f)
own_step c last s agent steps.Retry stores turn shown plain may answers hides k h f =
    let there = retry_may (cells_of s agent.0).req may in
    own_some c.profile s agent stores turn shown (cells_of s agent.0).req (retried_line c.profile s agent.0) there.0 there.1 (retry_own c.profile last s agent stores turn shown there.0 there.1 there.2 h f)
own_step c last s agent steps.RecvRetry stores turn shown plain may answers hides k h f = retry_received_own c.profile last s agent stores turn shown (flit_there (is_retry (cells_of s agent.0).rsp_down) may) h f
own_step c last s agent steps.Resend stores turn shown plain may answers hides k h f =
    let can : IsRetried (rn_of s agent.0).pending = may_resend c s agent may in
    own_some c.profile s agent stores turn shown (rn_of s agent.0).pending (resent_line s agent.0) can.request can.is
    (resend_own c.profile last s agent stores turn shown can.request can.is can.phase
    (resend_may (rn_of s agent.0).state (rn_of s agent.0).pending can.request can.is (neither (resend_refusal (rn_of s agent.0)) (marked_credit_refusal c.credits (pending_credit c.profile (rn_of s agent.0).pending)) may).0) h f)
own_step c last s agent steps.Cancel stores turn shown plain may answers hides k h f =
    let can : IsRetried (rn_of s agent.0).pending = cancel_allowed (rn_of s agent.0).state (rn_of s agent.0).pending may in
    cancel_own c.profile last s agent stores turn shown can.request can.is can.phase (cancel_may (rn_of s agent.0).state (rn_of s agent.0).pending can.request can.is may) h f
own_step c last s agent steps.Start stores turn shown plain may answers hides k h f =
    let can = start_allowed s.home agent.0 may in
    let there = some_of (waiting_of s.home agent.0) can.waits in
    own_some c.profile s agent stores turn shown (waiting_of s.home agent.0) (started_line s agent) there.0 there.1
    (start_of_kind c.profile last s agent there.0 stores turn shown there.0.kind refl (start_finds last s agent there.0 there.1 (idle_is s.home.serving can.idle) h) f)
own_step c last s agent steps.RecvSnp stores turn shown plain may answers hides k h f =
    let there = some_of (cells_of s agent.0).snp (flit_there (is_some (cells_of s agent.0).snp) may) in
    own_some c.profile s agent stores turn false (cells_of s agent.0).snp (snooped_line s agent.0) there.0 there.1
    (snoop_own c.profile last s agent stores turn there.0 there.1 h (subst (λ (b : Bool). Fits stores turn b s.home.serving agent.0 (lane s agent.0)) answers f))
own_step c last s agent steps.RecvSnpResp stores turn shown plain may answers hides k h f = absurd (cc (plain))
own_step c last s agent steps.RecvData stores turn shown plain may answers hides k h f =
    let there = some_of (cells_of s agent.0).dat_down (flit_there (is_some (cells_of s agent.0).dat_down) may) in
    own_some c.profile s agent stores turn shown (cells_of s agent.0).dat_down (received_line s agent.0) there.0 there.1 (data_own c.profile last s agent stores turn shown there.0 there.1 h f)
own_step c last s agent steps.RecvComp stores turn shown plain may answers hides k h f = comp_own c.profile last s agent stores turn shown (cells_of s agent.0).rsp_down refl (flit_there (is_comp (cells_of s agent.0).rsp_down) may) h f
own_step c last s agent steps.RecvAck stores turn shown plain may answers hides k h f =
    ended_own c.profile last s agent stores turn shown _ (record (cells_of s agent.0) { rsp_up = None }) refl (acknowledged_snoops last s agent.0 agent.0 h.low (flit_there (is_ack (cells_of s agent.0).rsp_up) may) k)
    (record { req = refl; rsp_down = refl; dat_down = refl; rsp_up = inr refl; dat_up = inl refl; snp = λ there. refl }) h f
own_step c last s agent steps.RecvDbid stores turn shown plain may answers hides k h f =
    let there = dbid_there (cells_of s agent.0).rsp_down (flit_there (is_dbid (cells_of s agent.0).rsp_down) may) in
    own_if_some c.profile s agent stores turn shown (rn_of s agent.0).pending (λ (p : Pending). dbid_received_line s agent.0 p.kind) (same_own c.profile s s agent stores turn shown refl f)
    (λ p pending. dbid_own c.profile last s agent stores turn shown p pending there h f)
own_step c last s agent steps.RecvWrData stores turn shown plain may answers hides k h f =
    own_if_some c.profile s agent stores turn shown (served_kind s.home.serving) (λ (kind : Kind). data_written s agent.0 kind (cells_of s agent.0).dat_up) (same_own c.profile s s agent stores turn shown refl f)
    (λ kind served. written_own c.profile last s agent stores turn shown kind (cells_of s agent.0).dat_up refl k h f)
