-- Each step moves the request of one slot of its agent, or none, and leaves all others where they are.
use Rattle.std.proofs.Common.{◌≡◌, ◌≢◌, ℕ, ◌<◌, List, Bool, true, false, ◌||◌, ◌==◌, Option, Some, None, is_some, length, get_or, set, refl, sym, ◌∙◌, ap, subst, if◌then◌else◌, arith, get_or-set_same}
use Rattle.std.proofs.lemmas.Bool.{or_parts, or_right, or_left, or_from, eq-eqb}
use Rattle.chi_flit.specs.declared.numbers.Agent.{Agent}
use Rattle.chi_flit.specs.declared.numbers.Slot.{Slot}
use Rattle.chi_flit.specs.declared.kind.Kind.{Kind}
use Rattle.chi_flit.specs.declared.kind.Kind.TheVariants.{ReadNotSharedDirty, ReadShared, ReadUnique, CleanUnique, Evict, WriteBackFull, WriteCleanFull, WriteEvictFull}
use Rattle.chi_flit.specs.declared.snoop.Snoop.{Snoop}
use Rattle.chi_flit.specs.declared.snoop.Snoop.TheVariants.{SnpShared, SnpNotSharedDirty, SnpUnique, SnpCleanInvalid}
use Rattle.chi_flit.specs.declared.message.Msg.TheVariants as messages
use Rattle.chi_flit.specs.Snoop.{answer_of}
use Rattle.chi_flit.specs.declared.action.Step.{Step}
use Rattle.chi_flit.specs.declared.action.Step.TheVariants as steps
use Rattle.chi_flit.specs.declared.credit.CreditType.{CreditType}
use Rattle.chi_flit.specs.declared.credit.Profile.{Profile}
use Rattle.chi_flit.specs.declared.message.CompData.{CompData}
use Rattle.chi_flit.specs.declared.message.DatUp.{DatUp}
use Rattle.chi_flit.specs.declared.message.DatUp.TheVariants.{CopyBackWrData}
use Rattle.chi_flit.specs.declared.message.Request.{Request}
use Rattle.chi_flit.specs.declared.message.RspDown.{RspDown}
use Rattle.chi_flit.specs.declared.message.RspDown.TheVariants.{RetryAck, CompUC, CompI, CompDBIDResp}
use Rattle.chi_flit.specs.Kind.{snoop_of}
use Rattle.chi_flit.specs.Credit.{credit_type_of}
use Rattle.chi_filter.specs.Filter.{has_any, filter_without}
use Rattle.chi_wires.specs.declared.cells.Cells.{Cells}
use Rattle.chi_wires.specs.Cell.{no_flits, with_message}
use Rattle.chi_rnline.specs.Rn.{Rn, no_line}
use Rattle.chi_rnline.specs.declared.pending.Pending.{Pending}
use Rattle.chi_homeline.specs.declared.serving.Waiting.{Waiting}
use Rattle.chi_homeline.specs.declared.serving.Serving.{Serving}
use Rattle.chi_homeline.specs.declared.serving.Serving.TheVariants.{Idle, Snooping, AwaitingWriteData}
use Rattle.chi_homeline.specs.declared.serving.SnoopAnswer.{SnoopAnswer}
use Rattle.chi_homeline.specs.Home.{Started}
use Rattle.chi_homeline.specs.Home.Started.{Sends, Snoops}
use Rattle.chi_homeline.specs.Home.{Home, acks_for, asks, completion_of, home_after_ack, home_after_admit, home_after_completion, home_after_service, home_after_write, served_kind, served_sends, served_slot, started_sends_as, taken_up, waiting_of, writes_for}
use Rattle.chi_line.specs.declared.act.Conditions.{Conditions}
use Rattle.chi_line.specs.declared.position.Position.{Position}
use Rattle.chi_line.specs.declared.position.Position.TheVariants as places
use Rattle.chi_line.specs.LineState.{LineState, rn_of, cells_of}
use Rattle.chi_line.specs.Kept.{Kept, LaneKept, is_comp_unique, is_retried, is_retried_phase, lane}
use Rattle.chi_line.specs.Moves.{completed_to, if_moved, moved_slot, moved_to, requested_slot}
use Rattle.chi_line.proofs.MoveLaw.{Moved, always_moves, completed_from, flit_at, issued_kind, moved_from}
use Rattle.chi_line.specs.Types.{is_of_type}
use Rattle.chi_line.specs.Step.{issued_slot, acknowledged_line, admitted_line, after_step, answer_in, answered_by, cancelled_line, completed_effect, completed_slot, completion_received, data_written, dbid_received_line, dropped_line, is_ack, is_comp, is_dbid, is_retry, is_slot, is_write_data, issued_line, line_uses, pending_slot, received_line, resent_line, retried_line, retry_received_line, flits_after_start, slot_served_for, snooped_line, started_effect, started_line, stored_line, waiting_effect, waiting_slot, where_some, written_line}
use Rattle.chi_line.specs.Places.{is_at_home, RequestsShown, agent_seen, position_in}
use Rattle.chi_line.specs.Refused.{retry_refusal, step_refusal}
use Rattle.chi_line.proofs.After.{IsRetried, IssueAllowed, cancel_allowed, dbid_there, flit_there, issue_allowed, names_used_slot, may_resend, retry_there}
use Rattle.chi_line.proofs.Elsewhere.{SameCells, Stays, answer_up, answered_stays, served_request, stays_elsewhere, stays_where, write_awaited, same_shown}
use Rattle.chi_line.proofs.Facts.{acked_for_ack}
use Rattle.chi_line.proofs.Finds.{idle_is}
use Rattle.chi_line.proofs.EqualSlots.{same_slot}
use Rattle.chi_line.proofs.SeenMoves.{Asked, SeenMoved, admit_seen, answered_seen, cancelled_seen, closed_seen, ended_seen, evicted_seen, issue_seen, none_moved, resent_seen, retried_seen, retry_seen, started_seen}
use Rattle.chi_line.proofs.Sends.{CanStart, can_start}
use Rattle.chi_line.proofs.Starts.{of_kind}
use Rattle.chi_line.proofs.Trails.{Trail, completed_trail, not_served, place_pending, requested_trail, responded_trail, retried_trail, waiting_trail}
use Rattle.chi_line.proofs.Typed.{issued_types, stays_asked, step_types}
use Rattle.chi_line.proofs.Positions.{is_free, acked_for, waits_not, written_for}

copy_seen : (s : LineState) (n : ℕ) (r : Rn) → n < length s.requesters → agent_seen (record s { requesters = set s.requesters n r }) n ≡ record (agent_seen s n) { pending = r.pending }
copy_seen s n r low = ap (λ (x : Rn). record (agent_seen s n) { pending = x.pending }) (get_or-set_same s.requesters n r no_line low)

flits_seen : (s : LineState) (n : ℕ) (c : Cells) → n < length s.flits → agent_seen (record s { flits = set s.flits n c }) n ≡ record (agent_seen s n) { request = c.req; response = c.rsp_down }
flits_seen s n c low = ap (λ (x : Cells). record (agent_seen s n) { request = x.req; response = x.rsp_down }) (get_or-set_same s.flits n c no_flits low)

both_seen : (s : LineState) (n : ℕ) (r : Rn) (c : Cells) → n < length s.requesters → n < length s.flits
    → agent_seen (record s { requesters = set s.requesters n r; flits = set s.flits n c }) n ≡ record (agent_seen s n) { pending = r.pending; request = c.req; response = c.rsp_down }
both_seen s n r c low flits =
    ap (λ (x : Rn). record (agent_seen (record s { flits = set s.flits n c }) n) { pending = x.pending }) (get_or-set_same s.requesters n r no_line low)
    ∙ ap (λ (x : Cells). record (agent_seen s n) { pending = r.pending; request = x.req; response = x.rsp_down }) (get_or-set_same s.flits n c no_flits flits)

home_seen : (s : LineState) (n : ℕ) (home : Home) (c : Cells) (w : Option Waiting) (v : Option Slot) → n < length s.flits → waiting_of home n ≡ w → slot_served_for home.serving n ≡ v
    → agent_seen (record s { home = home; flits = set s.flits n c }) n ≡ record (agent_seen s n) { request = c.req; response = c.rsp_down; waiting = w; served = v }
home_seen s n home c w v low waits serves =
    same_shown _ _ _ _ _ _ _ _ _ _ refl (ap (λ (x : Cells). x.req) (get_or-set_same s.flits n c no_flits low)) (ap (λ (x : Cells). x.rsp_down) (get_or-set_same s.flits n c no_flits low)) waits serves

-- what an agent's step finds of its line
record Here (last : List ℕ) (s : LineState) (n : ℕ) : Type 0 where
  low : n < 8
  requesters : n < length s.requesters
  flits : n < length s.flits
  waiting : n < length s.home.waiting
  line : Kept last s
  lane_kept : LaneKept s.home.serving s.home.filter.unique s.home.filter.owner last n (lane s n)

here_of : (last : List ℕ) (s : LineState) (n : ℕ) → n < 8 → Kept last s → Here last s n
here_of last s n low k = record {
  low = low;
  requesters = omega (arith, low, k.requesters);
  flits = omega (arith, low, k.flits);
  waiting = omega (arith, low, k.waiting);
  line = k;
  lane_kept = k.lanes n low;
}

none_is : {A : Type 0} (o : Option A) → is_some o ≡ false → o ≡ None
none_is o h = search arith

-- a pending request that neither waits nor is served isn't at the home
away_at : (last : List ℕ) (s : LineState) (n : ℕ) (requested responded retried : Bool) → Here last s n → Trail s.home.serving n (lane s n) requested false false responded retried
    → is_comp_unique (cells_of s n).rsp_down ≡ false → is_dbid (cells_of s n).rsp_down ≡ false
    → (slot : Slot) → is_slot (pending_slot (rn_of s n).pending) slot ≡ true → is_at_home (agent_seen s n) slot ≡ false
away_at last s n requested responded retried h t unique dbid slot is =
    or_from _ _
    (ap (λ (w : Option Waiting). is_slot (waiting_slot w) slot) (none_is (waiting_of s.home n) t.waiting))
    (not_served s.home.serving s.home.filter.unique s.home.filter.owner last n (lane s n) slot is t.unsnooped t.completion unique dbid h.lane_kept)

-- one that is served is
served_at : (s : LineState) (n : ℕ) → slot_served_for s.home.serving n ≡ pending_slot (rn_of s n).pending → (slot : Slot) → is_slot (pending_slot (rn_of s n).pending) slot ≡ true → is_at_home (agent_seen s n) slot ≡ true
served_at s n served slot is = or_right (is_slot (waiting_slot (waiting_of s.home n)) slot) (is_slot (slot_served_for s.home.serving n) slot) (ap (λ (o : Option Slot). is_slot o slot) served ∙ is)

-- what a step shows of its own agent
abbrev Shows : LineState → LineState → ℕ → Option Slot → Option Position → Option Position → Type 0
Shows s s' n moved from to = SeenMoved (agent_seen s n) (agent_seen s' n) moved from to

shows_by : (x y x' : RequestsShown) (moved : Option Slot) (from to : Option Position) → SeenMoved x y moved from to → x' ≡ y → SeenMoved x x' moved from to
shows_by x y x' moved from to m same = subst (λ (z : RequestsShown). SeenMoved x z moved from to) (sym same) m

-- a step that moves no request
shows_same : (s s' : LineState) (n : ℕ) → agent_seen s' n ≡ agent_seen s n → Shows s s' n None None None
shows_same s s' n same = none_moved (agent_seen s n) (agent_seen s' n) (λ slot. ap (λ (x : RequestsShown). position_in x slot) same) (λ profile ty slot t. subst (λ (x : RequestsShown). Asked profile ty x slot) (sym same) t)

-- Issue
issue_shows : (last : List ℕ) (s : LineState) (n : ℕ) (kind : Kind) (own : Slot) → Here last s n → (rn_of s n).pending ≡ None → line_uses s n own ≡ false
    → Shows s (issued_line s n kind own) n (Some own) None (Some places.Sent)
issue_shows last s n kind own h none free =
    shows_by _ _ _ _ _ _
    (issue_seen (agent_seen s n) kind own none
    (λ slot is. subst (λ (x : Slot). is_at_home (agent_seen s n) x ≡ false) (same_slot own slot is) (or_parts (is_slot (pending_slot (rn_of s n).pending) own) (is_at_home (agent_seen s n) own) free).1))
    (both_seen s n _ _ h.requesters h.flits)

-- Admit
admit_shows : (last : List ℕ) (s : LineState) (n : ℕ) (there : Option Request) → Here last s n → (cells_of s n).req ≡ there → is_some there ≡ true
    → Shows s (where_some s there (admitted_line s n)) n (requested_slot there) (flit_at there) (Some places.Admitted)
admit_shows last s n None h here is = absurd (cc (is))
admit_shows last s n (Some request) h here is =
    let t : Trail s.home.serving n (lane s n) true false false false false = requested_trail _ _ _ last n (lane s n) (ap is_some here) h.lane_kept in
    shows_by _ _ _ _ _ _
    (admit_seen (agent_seen s n) request here (h.lane_kept.request_slot request here) t.phase (none_is (waiting_of s.home n) t.waiting))
    (home_seen s n (home_after_admit s.home n (record { kind = request.kind; slot = request.slot })) _ _ _ h.flits (get_or-set_same s.home.waiting n _ None h.waiting) refl)

-- Retry
retry_shows : (profile : Profile) (last : List ℕ) (s : LineState) (n : ℕ) (there : Option Request) → Here last s n → (cells_of s n).req ≡ there → retry_refusal there ≡ None
    → Shows s (where_some s there (retried_line profile s n)) n (requested_slot there) (Some places.Sent) (Some places.Refused)
retry_shows profile last s n None h here may = absurd (cc (may))
retry_shows profile last s n (Some request) h here may =
    let t : Trail s.home.serving n (lane s n) true false false false false = requested_trail _ _ _ last n (lane s n) (ap is_some here) h.lane_kept in
    let none : (cells_of s n).rsp_down ≡ None = none_is (cells_of s n).rsp_down t.response in
    shows_by _ _ _ _ _ _
    (retry_seen (agent_seen s n) request (credit_type_of profile request.kind) here (grind (arith, may)) (h.lane_kept.request_slot request here) t.phase
    (away_at last s n true false false h t (ap is_comp_unique none) (ap is_dbid none)))
    (flits_seen s n _ h.flits)

-- RecvRetry
retried_shows : (last : List ℕ) (s : LineState) (n : ℕ) (ty : CreditType) → Here last s n → (cells_of s n).rsp_down ≡ Some (RetryAck ty)
    → Shows s (retry_received_line s n) n (pending_slot (rn_of s n).pending) (Some places.Refused) (Some places.Retried)
retried_shows last s n ty h here =
    let t : Trail s.home.serving n (lane s n) false false false true false = responded_trail _ _ _ last n (lane s n) (ap is_some here) h.lane_kept in
    shows_by _ _ _ _ _ _
    (retried_seen (agent_seen s n) ty (none_is (cells_of s n).req t.request) here t.phase (away_at last s n false true false h t (ap is_comp_unique here) (ap is_dbid here)))
    (both_seen s n _ _ h.requesters h.flits)

-- Resend
is_retried_by : (p : Option Pending) → IsRetried p → is_retried p ≡ true
is_retried_by p may = ap is_retried may.is ∙ ap is_retried_phase may.phase

resend_shows : (last : List ℕ) (s : LineState) (n : ℕ) (there : Option Pending) → Here last s n → (rn_of s n).pending ≡ there → IsRetried there
    → Shows s (where_some s there (resent_line s n)) n (pending_slot (rn_of s n).pending) (Some places.Retried) (Some places.Resent)
resend_shows last s n None h here may = absurd (cc (may.is))
resend_shows last s n (Some request) h here may =
    shows_by _ _ _ _ _ _
    (resent_seen (agent_seen s n) request here (ap is_retried here ∙ is_retried_by (Some request) may))
    (both_seen s n _ _ h.requesters h.flits)

-- Cancel
cancel_shows : (last : List ℕ) (s : LineState) (n : ℕ) → Here last s n → IsRetried (rn_of s n).pending
    → Shows s (cancelled_line s n) n (pending_slot (rn_of s n).pending) (Some places.Retried) None
cancel_shows last s n h may =
    let retried : is_retried (rn_of s n).pending ≡ true = is_retried_by (rn_of s n).pending may in
    let t : Trail s.home.serving n (lane s n) false false false false true = retried_trail _ _ _ last n (lane s n) retried h.lane_kept in
    let none : (cells_of s n).rsp_down ≡ None = none_is (cells_of s n).rsp_down t.response in
    shows_by _ _ _ _ _ _
    (cancelled_seen (agent_seen s n) retried (away_at last s n false false true h t (ap is_comp_unique none) (ap is_dbid none)))
    (copy_seen s n _ h.requesters)

-- RecvData
data_shows : (last : List ℕ) (s : LineState) (n : ℕ) (there : Option CompData) → Here last s n → (cells_of s n).dat_down ≡ there → is_some there ≡ true
    → Shows s (where_some s there (received_line s n)) n (pending_slot (rn_of s n).pending) (Some places.Admitted) (Some places.Answered)
data_shows last s n None h here is = absurd (cc (is))
data_shows last s n (Some message) h here is =
    let sent : is_some (cells_of s n).dat_down ≡ true = ap is_some here in
    let t : Trail s.home.serving n (lane s n) false false true false false = completed_trail _ _ _ last n (lane s n) sent h.lane_kept in
    shows_by _ _ _ _ _ _
    (answered_seen (agent_seen s n) (cells_of s n).rsp_down (none_is (cells_of s n).req t.request) t.phase
    (served_at s n (acked_for s.home.serving n (search (arith, sent, h.lane_kept.one_ack)) ∙ sym (h.lane_kept.read_slot sent))))
    (both_seen s n _ _ h.requesters h.flits)

-- RecvComp
comp_shows : (last : List ℕ) (s : LineState) (n : ℕ) (there : Option RspDown) → Here last s n → (cells_of s n).rsp_down ≡ there → is_comp there ≡ true
    → Shows s (completion_received s n there) n (pending_slot (rn_of s n).pending) (completed_from there) (completed_to there)
comp_shows last s n (Some CompUC) h here is =
    let t : Trail s.home.serving n (lane s n) false false false true false = responded_trail _ _ _ last n (lane s n) (ap is_some here) h.lane_kept in
    let unique : is_comp_unique (cells_of s n).rsp_down ≡ true = ap is_comp_unique here in
    shows_by _ _ _ _ _ _
    (answered_seen (agent_seen s n) None (none_is (cells_of s n).req t.request) t.phase
    (served_at s n (acked_for s.home.serving n (search (arith, unique, h.lane_kept.one_ack)) ∙ sym (h.lane_kept.comp_slot unique))))
    (both_seen s n _ _ h.requesters h.flits)
comp_shows last s n (Some CompI) h here is =
    let t : Trail s.home.serving n (lane s n) false false false true false = responded_trail _ _ _ last n (lane s n) (ap is_some here) h.lane_kept in
    shows_by _ _ _ _ _ _
    (closed_seen (agent_seen s n) (none_is (cells_of s n).req t.request) here t.phase (away_at last s n false true false h t (ap is_comp_unique here) (ap is_dbid here)))
    (both_seen s n _ _ h.requesters h.flits)
comp_shows last s n there h here is = absurd (cc (is))

-- RecvDbid
dbid_shows : (last : List ℕ) (s : LineState) (n : ℕ) (there : Option Pending) → Here last s n → (cells_of s n).rsp_down ≡ Some CompDBIDResp → is_some there ≡ true
    → Shows s (where_some s there (λ (request : Pending). dbid_received_line s n request.kind)) n (pending_slot (rn_of s n).pending) (Some places.Admitted) (Some places.Answered)
dbid_shows last s n None h here is = absurd (cc (is))
dbid_shows last s n (Some request) h here is =
    let t : Trail s.home.serving n (lane s n) false false false true false = responded_trail _ _ _ last n (lane s n) (ap is_some here) h.lane_kept in
    let asked : is_dbid (cells_of s n).rsp_down ≡ true = ap is_dbid here in
    shows_by _ _ _ _ _ _
    (answered_seen (agent_seen s n) None (none_is (cells_of s n).req t.request) t.phase
    (served_at s n (written_for s.home.serving n (search (arith, asked, h.lane_kept.one_write)) ∙ sym (h.lane_kept.dbid_slot asked))))
    (both_seen s n _ _ h.requesters h.flits)

-- RecvAck and RecvWrData: the request that ends is served, and its slot is neither pending nor waiting
ended_shows : (last : List ℕ) (s s' : LineState) (n : ℕ) → Here last s n → agent_seen s' n ≡ record (agent_seen s n) { served = None }
    → slot_served_for s.home.serving n ≡ served_slot s.home.serving → pending_slot (rn_of s n).pending ≢ served_slot s.home.serving
    → Shows s s' n (completed_slot (completed_effect (served_slot s.home.serving))) (Some places.Answered) None
ended_shows last s s' n h after served apart =
    subst (λ (o : Option Slot). Shows s s' n o (Some places.Answered) None) (served ∙ sym (completed_is (served_slot s.home.serving)))
    (shows_by _ _ _ _ _ _ (ended_seen (agent_seen s n) unpending (λ slot is. waits_not (waiting_of s.home n) (pending_slot (rn_of s n).pending) slot h.lane_kept.waiting_slot (unpending slot is))) after)
  where
    completed_is : (o : Option Slot) → completed_slot (completed_effect o) ≡ o
    completed_is None = refl
    completed_is (Some slot) = refl

    both : (p v : Option Slot) (slot : Slot) → is_slot p slot ≡ true → is_slot v slot ≡ true → p ≡ v
    both None v slot x y = absurd (cc (x))
    both (Some p) None slot x y = absurd (cc (y))
    both (Some p) (Some v) slot x y = ap (λ (o : Slot). Some o) (same_slot p slot x ∙ sym (same_slot v slot y))

    unpending : (slot : Slot) → is_slot (slot_served_for s.home.serving n) slot ≡ true → is_slot (pending_slot (rn_of s n).pending) slot ≡ false
    unpending slot is = go (is_slot (pending_slot (rn_of s n).pending) slot) refl
      where
        go : (b : Bool) → is_slot (pending_slot (rn_of s n).pending) slot ≡ b → b ≡ false
        go false other = refl
        go true own = absurd (apart (both (pending_slot (rn_of s n).pending) (slot_served_for s.home.serving n) slot own is ∙ served))

ack_shows : (last : List ℕ) (s : LineState) (n : ℕ) → Here last s n → is_ack (cells_of s n).rsp_up ≡ true
    → Shows s (acknowledged_line s n) n (completed_slot (completed_effect (served_slot s.home.serving))) (Some places.Answered) None
ack_shows last s n h is =
    ended_shows last s (acknowledged_line s n) n h (home_seen s n (home_after_ack s.home) _ _ _ h.flits refl refl)
    (acked_for s.home.serving n (acked_for_ack _ _ _ last n (lane s n) is h.lane_kept))
    (h.lane_kept.ack_apart is)

write_shows : (last : List ℕ) (s : LineState) (n : ℕ) (kind : Kind) (there : Option DatUp) → Here last s n → (cells_of s n).dat_up ≡ there → is_write_data there ≡ true
    → Shows s (data_written s n kind there) n (completed_slot (completed_effect (served_slot s.home.serving))) (Some places.Answered) None
write_shows last s n kind (Some (CopyBackWrData form words)) h here is =
    let data_there : is_write_data (cells_of s n).dat_up ≡ true = ap is_write_data here in
    ended_shows last s (written_line s n kind form words) n h (home_seen s n (home_after_write s.home n kind form words) _ _ _ h.flits refl refl)
    (written_for s.home.serving n (write_awaited _ _ _ last n (lane s n) data_there h.lane_kept))
    (h.lane_kept.write_apart data_there)
write_shows last s n kind there h here is = absurd (cc (is))

-- write data is awaited of a request whose kind is known
written_kind : (serving : Serving) (n : ℕ) → writes_for serving n ≡ true → is_some (served_kind serving) ≡ true
written_kind serving n here = search arith

wrdata_shows : (last : List ℕ) (s : LineState) (n : ℕ) (there : Option Kind) → Here last s n → is_some there ≡ true → is_write_data (cells_of s n).dat_up ≡ true
    → Shows s (where_some s there (λ (kind : Kind). data_written s n kind (cells_of s n).dat_up)) n (completed_slot (completed_effect (served_slot s.home.serving))) (Some places.Answered) None
wrdata_shows last s n None h known is = absurd (cc (known))
wrdata_shows last s n (Some kind) h known is = write_shows last s n kind (cells_of s n).dat_up h refl is

-- RecvSnp
snoop_shows : (s : LineState) (n : ℕ) (there : Option Snoop) → n < length s.requesters → n < length s.flits → Shows s (where_some s there (snooped_line s n)) n None None None
snoop_shows s n None low flits = shows_same s s n refl
snoop_shows s n (Some snoop) low flits =
    let cells : SameCells (cells_of s n) (with_message (record (cells_of s n) { snp = None }) (answer_of (rn_of s n).state snoop (rn_of s n).words).1) = answer_up (rn_of s n).state snoop (rn_of s n).words (cells_of s n) in
    shows_same s (snooped_line s n snoop) n (both_seen s n _ _ low flits ∙ same_shown _ _ _ _ _ _ _ _ _ _ refl cells.request cells.response refl refl)

-- RecvSnpResp
answer_shows : (last : List ℕ) (s : LineState) (agent : Agent) (there : Option SnoopAnswer) → agent.0 < 8 → Kept last s → Shows s (where_some s there (answered_by s agent)) agent.0 None None None
answer_shows last s agent None low k = shows_same s s agent.0 refl
answer_shows last s agent (Some answer) low k =
    let stays : Stays s (answered_by s agent answer) agent.0 = answered_stays last s agent answer agent.0 low k in
    none_moved (agent_seen s agent.0) (agent_seen (answered_by s agent answer) agent.0) (λ slot. stays_where s (answered_by s agent answer) agent.0 slot stays)
    (λ profile ty slot t. stays_asked profile ty s (answered_by s agent answer) agent.0 slot stays t)

-- Start: what the home sends to the agent leaves its request's cell
served_own : (n : ℕ) (own : Slot) → (if n == n then Some own else None) ≡ Some own
served_own n own = ap (λ (b : Bool). if b then Some own else None) (eq-eqb n n refl)

-- a request that is taken up and served
record TakenUp (s s' : LineState) (n : ℕ) (own : Slot) : Type 0 where
  copies : s'.requesters ≡ s.requesters
  request : (cells_of s' n).req ≡ (cells_of s n).req
  waiting : waiting_of s'.home n ≡ None
  served : slot_served_for s'.home.serving n ≡ Some own

taken_shows : (last : List ℕ) (s s' : LineState) (n : ℕ) (request : Waiting) → Here last s n → waiting_of s.home n ≡ Some request → s.home.serving ≡ Idle → TakenUp s s' n request.slot → Shows s s' n None None None
taken_shows last s s' n request h here idle up =
    let t : Trail s.home.serving n (lane s n) false true false false false = waiting_trail _ _ _ last n (lane s n) (ap is_some here) h.lane_kept in
    shows_by _ _ _ _ _ _
    (started_seen (agent_seen s n) request (cells_of s' n).rsp_down here (none_is (cells_of s n).req t.request) (ap (λ (v : Serving). slot_served_for v n) idle) (h.lane_kept.waiting_slot request here) t.phase)
    (same_shown _ _ _ _ _ _ _ _ _ _ (ap (λ (l : List Rn). (get_or l n no_line).pending) up.copies) up.request refl up.waiting up.served)

-- an Evict
evicted_shows : (last : List ℕ) (s : LineState) (n : ℕ) (request : Waiting) (home : Home) → Here last s n → waiting_of s.home n ≡ Some request → s.home.serving ≡ Idle → home.serving ≡ s.home.serving → waiting_of home n ≡ None
    → Shows s (record s { home = home; flits = set s.flits n (with_message (cells_of s n) (messages.RspDown CompI)) }) n (Some request.slot) (Some places.Admitted) (Some places.Closing)
evicted_shows last s n request home h here idle stays gone =
    let t : Trail s.home.serving n (lane s n) false true false false false = waiting_trail _ _ _ last n (lane s n) (ap is_some here) h.lane_kept in
    shows_by _ _ _ _ _ _
    (evicted_seen (agent_seen s n) request here (none_is (cells_of s n).req t.request) (ap (λ (v : Serving). slot_served_for v n) idle) (h.lane_kept.waiting_slot request here) t.phase)
    (home_seen s n home _ _ _ h.flits gone (ap (λ (v : Serving). slot_served_for v n) stays))

-- the request that was taken up waits no more
waits_no_more : (s : LineState) (n : ℕ) → n < length s.home.waiting → waiting_of (taken_up s.home n) n ≡ None
waits_no_more s n low = get_or-set_same s.home.waiting n None None low

-- the slot that a start completes
abbrev start_completes : Kind → Home → Agent → Slot → Option Slot
start_completes kind home agent own = completed_slot (started_effect (started_sends_as kind (snoop_of kind) home agent own))

-- a request that a snoop serves
start_snooped : (last : List ℕ) (s : LineState) (agent : Agent) (request : Waiting) (snoop : Snoop) → Here last s agent.0 → waiting_of s.home agent.0 ≡ Some request → s.home.serving ≡ Idle
    → Shows s (record s { home = home_after_service (taken_up s.home agent.0) request.kind agent request.slot; flits = flits_after_start s.flits agent.0 (served_sends s.home request.kind snoop agent) }) agent.0
    (completed_slot (started_effect (served_sends s.home request.kind snoop agent)))
    (if_moved (completed_slot (started_effect (served_sends s.home request.kind snoop agent))) places.Admitted) (if_moved (completed_slot (started_effect (served_sends s.home request.kind snoop agent))) places.Closing)
start_snooped last s agent request snoop h here idle =
    go (has_any (asks request.kind s.home.filter agent.0)) (served_request request.kind snoop s.home agent s.flits h.flits)
  where
    n : ℕ
    n = agent.0

    home : Home
    home = taken_up s.home agent.0

    served : Bool → Home
    served b = if b then record home { serving = Snooping agent request.kind request.slot; awaited = asks request.kind home.filter agent.0 } else home_after_completion home request.kind agent request.slot

    sends : Bool → Started
    sends b = if b then Snoops snoop (asks request.kind s.home.filter agent.0) else Sends (completion_of s.home request.kind agent s.home.memory)

    after : Bool → LineState
    after b = record s { home = served b; flits = flits_after_start s.flits agent.0 (sends b) }

    go : (b : Bool) → (cells_of (after b) agent.0).req ≡ (cells_of s agent.0).req
        → Shows s (after b) agent.0 (completed_slot (started_effect (sends b))) (if_moved (completed_slot (started_effect (sends b))) places.Admitted) (if_moved (completed_slot (started_effect (sends b))) places.Closing)
    go true stays = taken_shows last s (after true) n request h here idle (record {
      copies = refl;
      request = stays;
      waiting = waits_no_more s n h.waiting;
      served = served_own n request.slot;
    })
    go false stays = taken_shows last s (after false) n request h here idle (record {
      copies = refl;
      request = stays;
      waiting = waits_no_more s n h.waiting;
      served = served_own n request.slot;
    })

-- a copy-back
abbrev asked_line : LineState → Agent → Waiting → LineState
asked_line s agent request = record s {
  home = record (taken_up s.home agent.0) { serving = AwaitingWriteData agent request.kind request.slot };
  flits = flits_after_start s.flits agent.0 (Sends (messages.RspDown CompDBIDResp));
}

start_written : (last : List ℕ) (s : LineState) (agent : Agent) (request : Waiting) → Here last s agent.0 → waiting_of s.home agent.0 ≡ Some request → s.home.serving ≡ Idle
    → Shows s (asked_line s agent request) agent.0 None None None
start_written last s agent request h here idle = taken_shows last s (asked_line s agent request) agent.0 request h here idle (record {
  copies = refl;
  request = ap (λ (c : Cells). c.req) (get_or-set_same s.flits agent.0 _ no_flits h.flits);
  waiting = waits_no_more s agent.0 h.waiting;
  served = served_own agent.0 request.slot;
})

start_as_shows : (last : List ℕ) (s : LineState) (agent : Agent) (kind : Kind) (slot : Slot) → Here last s agent.0 → waiting_of s.home agent.0 ≡ Some (of_kind kind slot) → s.home.serving ≡ Idle
    → Shows s (started_line s agent (of_kind kind slot)) agent.0 (start_completes kind s.home agent slot)
    (if_moved (start_completes kind s.home agent slot) places.Admitted) (if_moved (start_completes kind s.home agent slot) places.Closing)
start_as_shows last s agent ReadNotSharedDirty slot h here idle = start_snooped last s agent (of_kind ReadNotSharedDirty slot) SnpNotSharedDirty h here idle
start_as_shows last s agent ReadShared slot h here idle = start_snooped last s agent (of_kind ReadShared slot) SnpShared h here idle
start_as_shows last s agent ReadUnique slot h here idle = start_snooped last s agent (of_kind ReadUnique slot) SnpUnique h here idle
start_as_shows last s agent CleanUnique slot h here idle = start_snooped last s agent (of_kind CleanUnique slot) SnpCleanInvalid h here idle
start_as_shows last s agent Evict slot h here idle =
    evicted_shows last s agent.0 (of_kind Evict slot) (record (taken_up s.home agent.0) { filter = filter_without s.home.filter agent.0 }) h here idle refl (waits_no_more s agent.0 h.waiting)
start_as_shows last s agent WriteBackFull slot h here idle = start_written last s agent (of_kind WriteBackFull slot) h here idle
start_as_shows last s agent WriteCleanFull slot h here idle = start_written last s agent (of_kind WriteCleanFull slot) h here idle
start_as_shows last s agent WriteEvictFull slot h here idle = start_written last s agent (of_kind WriteEvictFull slot) h here idle

start_shows : (last : List ℕ) (s : LineState) (agent : Agent) (there : Option Waiting) → Here last s agent.0 → waiting_of s.home agent.0 ≡ there → is_some there ≡ true → s.home.serving ≡ Idle
    → Shows s (where_some s there (started_line s agent)) agent.0 (completed_slot (waiting_effect s.home agent there))
    (if_moved (completed_slot (waiting_effect s.home agent there)) places.Admitted) (if_moved (completed_slot (waiting_effect s.home agent there)) places.Closing)
start_shows last s agent None h here is idle = absurd (cc (is))
start_shows last s agent (Some request) h here is idle = start_as_shows last s agent request.kind request.slot h here idle

-- every step
step_shows : (c : Conditions) (last : List ℕ) (profile : Profile) (s : LineState) (agent : Agent) (step : Step) → Here last s agent.0 → step_refusal c s agent step ≡ None → names_used_slot s agent.0 step ≡ false
    → Shows s (after_step profile s agent step) agent.0 (moved_slot s agent step) (moved_from s agent step) (moved_to s agent step)
step_shows c last profile s agent (steps.Load word) h may free = shows_same s s agent.0 refl
step_shows c last profile s agent (steps.Store word value) h may free = shows_same s (stored_line s agent.0 word.0 value) agent.0 (copy_seen s agent.0 _ h.requesters)
step_shows c last profile s agent steps.Drop h may free = shows_same s (dropped_line s agent.0) agent.0 (copy_seen s agent.0 _ h.requesters)
step_shows c last profile s agent (steps.Issue kind slot) h may free =
    let can : IssueAllowed c.slot_used (rn_of s agent.0) kind = issue_allowed c.slot_used (rn_of s agent.0) kind may in
    issue_shows last s agent.0 kind slot h can.none free
step_shows c last profile s agent steps.Admit h may free = admit_shows last s agent.0 (cells_of s agent.0).req h refl (flit_there (is_some (cells_of s agent.0).req) may)
step_shows c last profile s agent steps.Retry h may free = retry_shows profile last s agent.0 (cells_of s agent.0).req h refl may
step_shows c last profile s agent steps.RecvRetry h may free =
    let there = retry_there (cells_of s agent.0).rsp_down (flit_there (is_retry (cells_of s agent.0).rsp_down) may) in
    retried_shows last s agent.0 there.0 h there.1
step_shows c last profile s agent steps.Resend h may free = resend_shows last s agent.0 (rn_of s agent.0).pending h refl (may_resend c s agent may)
step_shows c last profile s agent steps.Cancel h may free = cancel_shows last s agent.0 h (cancel_allowed (rn_of s agent.0).state (rn_of s agent.0).pending may)
step_shows c last profile s agent steps.Start h may free =
    let can : CanStart s.home agent.0 = can_start s.home agent.0 may in
    start_shows last s agent (waiting_of s.home agent.0) h refl can.is_waiting (idle_is s.home.serving can.idle)
step_shows c last profile s agent steps.RecvSnp h may free = snoop_shows s agent.0 (cells_of s agent.0).snp h.requesters h.flits
step_shows c last profile s agent steps.RecvSnpResp h may free = answer_shows last s agent (answer_in (cells_of s agent.0)) h.low h.line
step_shows c last profile s agent steps.RecvData h may free = data_shows last s agent.0 (cells_of s agent.0).dat_down h refl (flit_there (is_some (cells_of s agent.0).dat_down) may)
step_shows c last profile s agent steps.RecvComp h may free = comp_shows last s agent.0 (cells_of s agent.0).rsp_down h refl (flit_there (is_comp (cells_of s agent.0).rsp_down) may)
step_shows c last profile s agent steps.RecvAck h may free = ack_shows last s agent.0 h (flit_there (is_ack (cells_of s agent.0).rsp_up) may)
step_shows c last profile s agent steps.RecvDbid h may free =
    let there : (cells_of s agent.0).rsp_down ≡ Some CompDBIDResp = dbid_there (cells_of s agent.0).rsp_down (flit_there (is_dbid (cells_of s agent.0).rsp_down) may) in
    dbid_shows last s agent.0 (rn_of s agent.0).pending h there (place_pending _ _ _ last agent.0 (lane s agent.0) (or_right (is_some (cells_of s agent.0).dat_down) (is_some (cells_of s agent.0).rsp_down) (ap is_some there)) h.lane_kept)
step_shows c last profile s agent steps.RecvWrData h may free =
    let data_there : is_write_data (cells_of s agent.0).dat_up ≡ true = flit_there (is_write_data (cells_of s agent.0).dat_up) may in
    wrdata_shows last s agent.0 (served_kind s.home.serving) h (written_kind s.home.serving agent.0 (write_awaited _ _ _ last agent.0 (lane s agent.0) data_there h.lane_kept)) data_there

-- The steps that move a request find it.
slot_there : (p : Option Pending) → is_some p ≡ true → is_some (pending_slot p) ≡ true
slot_there p h = search arith

flit_slot_there : (q : Option Request) → is_some q ≡ true → is_some (requested_slot q) ≡ true
flit_slot_there q h = search arith

retry_slot_there : (q : Option Request) → retry_refusal q ≡ None → is_some (requested_slot q) ≡ true
retry_slot_there q may = search arith

retried_there : (p : Option Pending) → IsRetried p → is_some (pending_slot p) ≡ true
retried_there p may = search arith

served_there : (serving : Serving) (n : ℕ) → acks_for serving n || writes_for serving n ≡ true → is_some (completed_slot (completed_effect (served_slot serving))) ≡ true
served_there serving n here = search arith

-- what is on its way to an agent is for its pending request
answered_there : (last : List ℕ) (s : LineState) (n : ℕ) → Here last s n → is_some (cells_of s n).dat_down || is_some (cells_of s n).rsp_down ≡ true → is_some (pending_slot (rn_of s n).pending) ≡ true
answered_there last s n h here = slot_there (rn_of s n).pending (place_pending _ _ _ last n (lane s n) here h.lane_kept)

response_there : (last : List ℕ) (s : LineState) (n : ℕ) (response : RspDown) → Here last s n → (cells_of s n).rsp_down ≡ Some response → is_some (pending_slot (rn_of s n).pending) ≡ true
response_there last s n response h here = answered_there last s n h (or_right (is_some (cells_of s n).dat_down) (is_some (cells_of s n).rsp_down) (ap is_some here))

comp_there : (there : Option RspDown) → is_comp there ≡ true → is_some there ≡ true
comp_there there h = search arith

moved_there : (c : Conditions) (last : List ℕ) (s : LineState) (agent : Agent) (step : Step) → Here last s agent.0 → step_refusal c s agent step ≡ None → always_moves step ≡ true → is_some (moved_slot s agent step) ≡ true
moved_there c last s agent (steps.Issue kind slot) h may moves = refl
moved_there c last s agent steps.Admit h may moves = flit_slot_there (cells_of s agent.0).req (flit_there (is_some (cells_of s agent.0).req) may)
moved_there c last s agent steps.Retry h may moves = retry_slot_there (cells_of s agent.0).req may
moved_there c last s agent steps.RecvRetry h may moves =
    let there = retry_there (cells_of s agent.0).rsp_down (flit_there (is_retry (cells_of s agent.0).rsp_down) may) in
    response_there last s agent.0 (RetryAck there.0) h there.1
moved_there c last s agent steps.Resend h may moves = retried_there (rn_of s agent.0).pending (may_resend c s agent may)
moved_there c last s agent steps.Cancel h may moves = retried_there (rn_of s agent.0).pending (cancel_allowed (rn_of s agent.0).state (rn_of s agent.0).pending may)
moved_there c last s agent steps.RecvData h may moves = answered_there last s agent.0 h (or_left (is_some (cells_of s agent.0).dat_down) (is_some (cells_of s agent.0).rsp_down) (flit_there (is_some (cells_of s agent.0).dat_down) may))
moved_there c last s agent steps.RecvComp h may moves =
    answered_there last s agent.0 h (or_right (is_some (cells_of s agent.0).dat_down) (is_some (cells_of s agent.0).rsp_down) (comp_there (cells_of s agent.0).rsp_down (flit_there (is_comp (cells_of s agent.0).rsp_down) may)))
moved_there c last s agent steps.RecvAck h may moves =
    served_there s.home.serving agent.0 (or_left (acks_for s.home.serving agent.0) (writes_for s.home.serving agent.0) (acked_for_ack _ _ _ last agent.0 (lane s agent.0) (flit_there (is_ack (cells_of s agent.0).rsp_up) may) h.lane_kept))
moved_there c last s agent steps.RecvDbid h may moves = response_there last s agent.0 CompDBIDResp h (dbid_there (cells_of s agent.0).rsp_down (flit_there (is_dbid (cells_of s agent.0).rsp_down) may))
moved_there c last s agent steps.RecvWrData h may moves =
    served_there s.home.serving agent.0 (or_right (acks_for s.home.serving agent.0) (writes_for s.home.serving agent.0) (write_awaited _ _ _ last agent.0 (lane s agent.0) (flit_there (is_write_data (cells_of s agent.0).dat_up) may) h.lane_kept))
moved_there c last s agent other h may moves = absurd (cc (moves))

-- a request that a step moves is there before it, but the one that an Issue begins
no_flit : (request : Option Request) (slot : Slot) → is_slot (requested_slot request) slot ≡ true → flit_at request ≡ None → ⊥
no_flit None slot is none = cc (is)
no_flit (Some request) slot is none = go request.allow_retry none
  where
    go : (b : Bool) → (if b then Some places.Sent else Some places.Resent) ≡ None → ⊥
    go true none = cc (none)
    go false none = cc (none)

no_response : (response : Option RspDown) → is_comp response ≡ true → completed_from response ≡ None → ⊥
no_response None is none = cc (is)
no_response (Some (RetryAck ty)) is none = cc (is)
no_response (Some CompUC) is none = cc (none)
no_response (Some CompI) is none = cc (none)
no_response (Some CompDBIDResp) is none = cc (is)

not_both : (a : Bool) → a ≡ true → a ≡ false → ⊥
not_both a x y = cc

none_there : (moved : Option Slot) (slot : Slot) (at : Position) → is_slot moved slot ≡ true → if_moved moved at ≡ None → ⊥
none_there None slot at is none = cc (is)
none_there (Some own) slot at is none = cc (none)

pub was_there : (c : Conditions) (s : LineState) (agent : Agent) (step : Step) (slot : Slot) → step_refusal c s agent step ≡ None → is_slot (issued_slot step) slot ≡ false → is_slot (moved_slot s agent step) slot ≡ true → moved_from s agent step ≡ None → ⊥
was_there c s agent (steps.Issue kind own) slot may named is none = not_both (own.0 == slot.0) is named
was_there c s agent steps.Admit slot may named is none = no_flit (cells_of s agent.0).req slot is none
was_there c s agent steps.Start slot may named is none = none_there (moved_slot s agent steps.Start) slot places.Admitted is none
was_there c s agent steps.RecvComp slot may named is none = no_response (cells_of s agent.0).rsp_down (flit_there (is_comp (cells_of s agent.0).rsp_down) may) none
was_there c s agent other slot may named is none = cc

-- the slot that an Issue names has the type of the kind that it names
issued_there : (last : List ℕ) (profile : Profile) (s : LineState) (agent : Agent) (step : Step) (kind : Kind) (slot : Slot) → Here last s agent.0 → names_used_slot s agent.0 step ≡ false
    → issued_kind step ≡ Some kind → is_slot (issued_slot step) slot ≡ true → is_of_type profile (credit_type_of profile kind) (after_step profile s agent step) agent.0 slot ≡ true
issued_there last profile s agent (steps.Issue named own) kind slot h free is same =
    let kinds : named ≡ kind = cc (is) in
    subst (λ (x : Kind). is_of_type profile (credit_type_of profile x) (issued_line s agent.0 named own) agent.0 slot ≡ true) kinds
    (subst (λ (x : Slot). is_of_type profile (credit_type_of profile named) (issued_line s agent.0 named own) agent.0 x ≡ true) (same_slot own slot same)
    (issued_types profile s agent.0 named own h.requesters h.flits (is_free s agent.0 own free)))
issued_there last profile s agent other kind slot h free is same = absurd (cc (is))

pub moves : (c : Conditions) (last : List ℕ) (s : LineState) (agent : Agent) (step : Step) → agent.0 < 8 → Kept last s → step_refusal c s agent step ≡ None → names_used_slot s agent.0 step ≡ false
    → Moved c.profile s agent step
moves c last s agent step low k may free =
    let profile = c.profile in
    let h : Here last s agent.0 = here_of last s agent.0 low k in
    let shows : Shows s (after_step profile s agent step) agent.0 (moved_slot s agent step) (moved_from s agent step) (moved_to s agent step) = step_shows c last profile s agent step h may free in
    record {
      there = moved_there c last s agent step h may;
      found = shows.found;
      left = shows.left;
      stay = shows.stay;
      others = λ n slot at apart. stays_where s (after_step profile s agent step) n slot (stays_elsewhere c last s agent step n low at apart may k);
      types = λ slot ty other. step_types profile s agent step agent.0 slot ty (shows.kinds profile ty slot (was_there c s agent step slot may other));
      other_types = λ n slot ty at apart. step_types profile s agent step n slot ty (stays_asked profile ty s (after_step profile s agent step) n slot (stays_elsewhere c last s agent step n low at apart may k));
      issued_type = λ kind slot is same. issued_there last profile s agent step kind slot h free is same;
    }
