-- Each step of a line sends flits that the observer takes.
use Rattle.std.proofs.Common.{arith, ◌≡◌, ◌⊎◌, inl, inr, ⊎_elim, ℕ, ◌<◌, List, [], ◌∷◌, refl, sym, ap, subst, set}
use Rattle.std.specs.Prelude.{Bool, true, false, map, Option, Some, None, is_some, if◌then◌else◌}
use Rattle.chi_flit.specs.declared.numbers.Agent.{Agent}
use Rattle.chi_flit.specs.declared.numbers.Line.{Line}
use Rattle.chi_flit.specs.declared.numbers.Slot.{Slot}
use Rattle.chi_flit.specs.declared.state.State.{State}
use Rattle.chi_flit.specs.declared.state.State.TheVariants as states
use Rattle.chi_flit.specs.declared.kind.Kind.{Kind}
use Rattle.chi_flit.specs.declared.kind.Kind.TheVariants.{ReadNotSharedDirty, ReadShared, ReadUnique, CleanUnique, Evict, WriteBackFull, WriteCleanFull, WriteEvictFull}
use Rattle.chi_flit.specs.declared.action.Step.{Step}
use Rattle.chi_flit.specs.declared.action.Step.TheVariants as steps
use Rattle.chi_flit.specs.declared.snoop.Snoop.{Snoop}
use Rattle.chi_flit.specs.declared.snoop.Snoop.TheVariants.{SnpNotSharedDirty, SnpShared, SnpUnique, SnpCleanInvalid}
use Rattle.chi_flit.specs.declared.credit.Profile.{Profile}
use Rattle.chi_flit.specs.declared.message.CompData.{CompData}
use Rattle.chi_flit.specs.declared.message.Request.{Request}
use Rattle.chi_flit.specs.declared.message.RspDown.{RspDown}
use Rattle.chi_flit.specs.declared.message.RspDown.TheVariants.{CompUC, CompI}
use Rattle.chi_flit.specs.declared.message.RspUp.TheVariants.{CompAck}
use Rattle.chi_flit.specs.declared.message.Msg.TheVariants as messages
use Rattle.chi_flit.specs.declared.refusal.Refusal.TheVariants as refusals
use Rattle.chi_flit.specs.Kind.{snoop_of}
use Rattle.chi_flit.specs.Message.{no_words}
use Rattle.chi_flit.specs.State.{is_valid}
use Rattle.chi_filter.specs.Filter.{has_any}
use Rattle.chi_wires.specs.Flight.{flit_of}
use Rattle.chi_rnline.specs.Rn.{load_refusal, store_refusal}
use Rattle.chi_homeline.specs.declared.serving.Serving.TheVariants.{Idle, Snooping}
use Rattle.chi_homeline.specs.declared.serving.SnoopAnswer.{SnoopAnswer}
use Rattle.chi_homeline.specs.declared.serving.Waiting.{Waiting}
use Rattle.chi_homeline.specs.Home.{Started}
use Rattle.chi_homeline.specs.Home.Started.{Sends, Snoops}
use Rattle.chi_homeline.specs.Home.{Home, asks, completion_of, home_after_completion, started_sends, taken_up, waiting_of}
use Rattle.chi_line.specs.declared.act.Conditions.{Conditions}
use Rattle.chi_line.specs.LineState.{LineState, cells_of, rn_of}
use Rattle.chi_line.specs.Kept.{Kept}
use Rattle.chi_line.specs.Refused.{full_if, retry_refusal, step_refusal}
use Rattle.chi_line.specs.Step.{after_step, answer_in, answered_by, completion_received, dbid_received_line, flits_after_start, is_comp, received_line, resent_line, retried_line, snooped_line, started_line, step_record, where_some}
use Rattle.chi_line.specs.Traffic.{answered_flits, completion_ack, request_again, retry_ack, snoop_answer, start_flits, started_flits}
use Rattle.chi_line.proofs.After.{DropAllowed, IsRetried, IssueAllowed, StoreAllowed, brought, cancel_allowed, drop_allowed, flit_there, issue_allowed, kept_step, last_with, may_resend, names_used_slot, neither, store_allowed}
use Rattle.chi_line.proofs.Asks.{asks_fit, same}
use Rattle.chi_line.proofs.Finds.{idle_is}
use Rattle.chi_line.proofs.Sends.{CanStart, can_start}
use Rattle.chi_line.proofs.Steps.{step_after}
use Rattle.chi_observer.specs.declared.flits.Act.TheVariants as acts
use Rattle.chi_observer.specs.declared.flits.Grant.TheVariants as grants
use Rattle.chi_observer.specs.Lines.{Watched, is_taken, watch}
use Rattle.chi_conformity.specs.Seen.{flit_seen, kind_seen, step_seen}
use Rattle.chi_conformity.proofs.Held.{Stands}
use Rattle.chi_conformity.proofs.Flits.{Laws}
use Rattle.chi_conformity.proofs.Accesses.{load_seen, loaded, store_seen}
use Rattle.chi_conformity.proofs.Requests.{issue_seen, resend_seen}
use Rattle.chi_conformity.proofs.Replies.{answer_seen}
use Rattle.chi_conformity.proofs.Acknowledged.{comp_seen, data_seen, write_seen, write_seen_as, write_shown}
use Rattle.chi_conformity.proofs.Lost.{lost_seen}
use Rattle.chi_conformity.proofs.Unseen.{ack_arrives, cancelled, dropped, evict_arrives, request_arrives, retry_arrives, write_arrives}
use Rattle.chi_conformity.proofs.Starts.{evict_started, evicted_line, refused}
use Rattle.chi_conformity.proofs.Writes.{asked_line, write_started}
use Rattle.chi_conformity.proofs.Completions.{answer_follows, completed_by, read_none, start_completable, start_finds, taken_line}
use Rattle.chi_conformity.proofs.Snoops.{snooping_follows}
use Rattle.chi_conformity.proofs.Taken.{Follows, down_taken, up_taken}
use Rattle.chi_conformity.proofs.Told.{no}

-- STARTS
abbrev of_kind : Kind → Slot → Waiting
of_kind kind slot = record { kind = kind; slot = slot }

record MayStart (last : List ℕ) (s : LineState) (w : Watched) (agent : Agent) (request : Waiting) : Type 0 where
  low : agent.0 < 8
  kept : Kept last s
  stands : Stands last s w.seen
  waits : waiting_of s.home agent.0 ≡ Some request
  idle : s.home.serving ≡ Idle

-- the request out of those that wait
taken_stands : (last : List ℕ) (s : LineState) (w : Watched) (n : ℕ) → Stands last s w.seen → Stands last (taken_line s n) w.seen
taken_stands last s w n stands = record {
  home = stands.home;
  sound = stands.sound;
  meant = stands.meant;
  value = stands.value;
  thrown = stands.thrown;
  lanes = λ m. let b = stands.lanes m in record { due_is = b.due_is; snooped_is = b.snooped_is; named = b.named; flagged = b.flagged; gone = b.gone; shared = b.shared };
}

abbrev started_parts : LineState → Agent → Home → Started → LineState
started_parts s agent home sends = record s { home = home; flits = flits_after_start s.flits agent.0 sends }

served_follows : Laws → (asked : Bool) (w : Watched) (s : LineState) (last : List ℕ) (agent : Agent) (request : Waiting) (snoop : Snoop) → MayStart last s w agent request → snoop_of request.kind ≡ Some snoop
    → has_any (asks request.kind s.home.filter agent.0) ≡ asked
    → Kept last (started_parts s agent
    (if asked then record (taken_up s.home agent.0) { serving = Snooping agent request.kind request.slot; awaited = asks request.kind s.home.filter agent.0 } else home_after_completion (taken_up s.home agent.0) request.kind agent request.slot)
    (if asked then Snoops snoop (asks request.kind s.home.filter agent.0) else Sends (completion_of s.home request.kind agent s.home.memory)))
    → Follows last (started_parts s agent
    (if asked then record (taken_up s.home agent.0) { serving = Snooping agent request.kind request.slot; awaited = asks request.kind s.home.filter agent.0 } else home_after_completion (taken_up s.home agent.0) request.kind agent request.slot)
    (if asked then Snoops snoop (asks request.kind s.home.filter agent.0) else Sends (completion_of s.home request.kind agent s.home.memory)))
    w (map flit_seen (start_flits agent (if asked then Snoops snoop (asks request.kind s.home.filter agent.0) else Sends (completion_of s.home request.kind agent s.home.memory))))
served_follows laws true w s last agent request snoop may is some after =
    snooping_follows laws w s last agent request snoop (asks request.kind s.home.filter agent.0) may.kept may.stands may.idle
    (asks_fit request.kind s.home.filter agent.0 (ap is_some is) may.low may.kept.named).eight
served_follows laws false w s last agent request snoop may is none after =
    completed_by laws request.kind w (taken_line s agent.0) last agent request.slot s.home.memory may.low (ap is_some is) (taken_stands last s w agent.0 may.stands)
    (start_completable last s agent request may.low may.kept may.waits may.idle (ap is_some is) none)
    (read_none last s agent.0 request.kind may.low may.kept (start_finds last s agent request may.low may.kept may.waits may.idle (ap is_some is)).waits)
    after

start_follows : Laws → (kind : Kind) (slot : Slot) (w : Watched) (s : LineState) (last : List ℕ) (agent : Agent) → MayStart last s w agent (of_kind kind slot)
    → Kept last (started_line s agent (of_kind kind slot))
    → Follows last (started_line s agent (of_kind kind slot)) w (map flit_seen (start_flits agent (started_sends s.home agent (of_kind kind slot))))
start_follows laws ReadNotSharedDirty slot w s last agent may after =
    served_follows laws (has_any (asks ReadNotSharedDirty s.home.filter agent.0)) w s last agent (of_kind ReadNotSharedDirty slot) SnpNotSharedDirty may refl refl after
start_follows laws ReadShared slot w s last agent may after = served_follows laws (has_any (asks ReadShared s.home.filter agent.0)) w s last agent (of_kind ReadShared slot) SnpShared may refl refl after
start_follows laws ReadUnique slot w s last agent may after = served_follows laws (has_any (asks ReadUnique s.home.filter agent.0)) w s last agent (of_kind ReadUnique slot) SnpUnique may refl refl after
start_follows laws CleanUnique slot w s last agent may after = served_follows laws (has_any (asks CleanUnique s.home.filter agent.0)) w s last agent (of_kind CleanUnique slot) SnpCleanInvalid may refl refl after
start_follows laws Evict slot w s last agent may after =
    down_taken w (evicted_line s agent.0) last agent grants.CompI no_words may.low (evict_started laws w.seen s last agent (of_kind Evict slot) may.low may.kept may.stands may.waits may.idle refl)
start_follows laws WriteBackFull slot w s last agent may after =
    down_taken w (asked_line s agent (of_kind WriteBackFull slot)) last agent grants.CompDBIDResp no_words may.low
    (write_started laws w.seen s last agent (of_kind WriteBackFull slot) may.low may.kept may.stands may.waits may.idle refl)
start_follows laws WriteCleanFull slot w s last agent may after =
    down_taken w (asked_line s agent (of_kind WriteCleanFull slot)) last agent grants.CompDBIDResp no_words may.low
    (write_started laws w.seen s last agent (of_kind WriteCleanFull slot) may.low may.kept may.stands may.waits may.idle refl)
start_follows laws WriteEvictFull slot w s last agent may after =
    down_taken w (asked_line s agent (of_kind WriteEvictFull slot)) last agent grants.CompDBIDResp no_words may.low
    (write_started laws w.seen s last agent (of_kind WriteEvictFull slot) may.low may.kept may.stands may.waits may.idle refl)

waiting_follows : Laws → (w : Watched) (s : LineState) (last : List ℕ) (agent : Agent) (there : Option Waiting) → agent.0 < 8 → Kept last s → Stands last s w.seen → waiting_of s.home agent.0 ≡ there → s.home.serving ≡ Idle
    → Kept last (where_some s there (started_line s agent))
    → Follows last (where_some s there (started_line s agent)) w (map flit_seen (started_flits s.home agent there))
waiting_follows laws w s last agent None low kept stands is idle after = stands
waiting_follows laws w s last agent (Some request) low kept stands is idle after =
    start_follows laws request.kind request.slot w s last agent (record { low = low; kept = kept; stands = stands; waits = is; idle = idle }) after

-- WHAT IS TAKEN AWAY
retry_follows : Laws → (profile : Profile) (w : Watched) (s : LineState) (last : List ℕ) (agent : Agent) (there : Option Request) → agent.0 < 8 → Kept last s → Stands last s w.seen
    → (cells_of s agent.0).req ≡ there → retry_refusal there ≡ None
    → Follows last (where_some s there (retried_line profile s agent.0)) w (map flit_seen (flit_of agent (retry_ack profile there)))
retry_follows laws profile w s last agent None low kept stands is may = absurd (cc (may))
retry_follows laws profile w s last agent (Some request) low kept stands is may =
    down_taken w (retried_line profile s agent.0 request) last agent grants.RetryAck no_words low
    (refused laws w.seen s last profile agent request low kept stands is (allowed request.allow_retry may))
  where
    allowed : (b : Bool) → (if b then None else Some refusals.MustAccept) ≡ None → b ≡ true
    allowed true h = refl
    allowed false h = absurd (cc (h))

resend_follows : Laws → (w : Watched) (s : LineState) (last : List ℕ) (agent : Agent) → agent.0 < 8 → Kept last s → Stands last s w.seen → IsRetried (rn_of s agent.0).pending
    → Follows last (where_some s (rn_of s agent.0).pending (resent_line s agent.0)) w (map flit_seen (flit_of agent (request_again (rn_of s agent.0).pending)))
resend_follows laws w s last agent low kept stands may =
    subst (λ v. Follows last (where_some s v (resent_line s agent.0)) w (map flit_seen (flit_of agent (request_again v)))) (sym may.is)
    (up_taken w (resent_line s agent.0 may.request) last agent (acts.Resend (kind_seen may.request.kind)) no_words low (resend_seen laws w.seen s last agent may.request low kept stands may.is may.phase))

snoop_follows : Laws → (w : Watched) (s : LineState) (last : List ℕ) (agent : Agent) (there : Option Snoop) → agent.0 < 8 → Kept last s → Stands last s w.seen → (cells_of s agent.0).snp ≡ there
    → Follows last (where_some s there (snooped_line s agent.0)) w (map flit_seen (flit_of agent (snoop_answer (rn_of s agent.0) there)))
snoop_follows laws w s last agent None low kept stands is = stands
snoop_follows laws w s last agent (Some snoop) low kept stands is =
    let seen = answer_seen laws w.seen s last agent snoop low kept stands is in
    subst (λ v. (is_taken w v ≡ true) × Stands last (snooped_line s agent.0 snoop) (watch w v).seen) (sym seen.2)
    (up_taken w (snooped_line s agent.0 snoop) last agent (acts.SnpResp seen.0) seen.1 low seen.3)

answers_follow : Laws → (w : Watched) (s : LineState) (last : List ℕ) (agent : Agent) (there : Option SnoopAnswer) → agent.0 < 8 → Kept last s → Stands last s w.seen → answer_in (cells_of s agent.0) ≡ there
    → Kept last (where_some s there (answered_by s agent))
    → Follows last (where_some s there (answered_by s agent)) w (map flit_seen (answered_flits s.home agent there))
answers_follow laws w s last agent None low kept stands is after = stands
answers_follow laws w s last agent (Some answer) low kept stands is after =
    answer_follows laws answer w s last agent low kept stands (brought (cells_of s agent.0).rsp_up (cells_of s agent.0).dat_up answer is) after

data_follows : Laws → (w : Watched) (s : LineState) (last : List ℕ) (agent : Agent) (there : Option CompData) → agent.0 < 8 → Kept last s → Stands last s w.seen → (cells_of s agent.0).dat_down ≡ there → is_some there ≡ true
    → Follows last (where_some s there (received_line s agent.0)) w (flit_seen (record { agent = agent; message = messages.RspUp CompAck }) ∷ [])
data_follows laws w s last agent None low kept stands is here = no here
data_follows laws w s last agent (Some message) low kept stands is here =
    up_taken w (received_line s agent.0 message) last agent acts.CompAck no_words low (data_seen laws w.seen s last agent message low kept stands is)

none_or_valid : (state : State) → (state ≡ states.I) ⊎ (is_valid state ≡ true)
none_or_valid states.I = inl refl
none_or_valid other = inr refl

comp_follows : Laws → (w : Watched) (s : LineState) (last : List ℕ) (agent : Agent) (there : Option RspDown) → agent.0 < 8 → Kept last s → Stands last s w.seen → (cells_of s agent.0).rsp_down ≡ there → is_comp there ≡ true
    → Follows last (completion_received s agent.0 there) w (map flit_seen (flit_of agent (completion_ack there)))
comp_follows laws w s last agent (Some CompUC) low kept stands is here = ⊎_elim
    (λ (none : (rn_of s agent.0).state ≡ states.I). up_taken w _ last agent acts.CompAck no_words low (lost_seen laws w.seen s last agent low kept stands is none))
    (λ (valid : is_valid (rn_of s agent.0).state ≡ true). up_taken w _ last agent acts.CompAck no_words low (comp_seen laws w.seen s last agent low kept stands is valid))
    (none_or_valid (rn_of s agent.0).state)
comp_follows laws w s last agent (Some CompI) low kept stands is here = evict_arrives w.seen s last agent.0 low kept stands is
comp_follows laws w s last agent other low kept stands is here = no here

-- EACH STEP
pub load_valid : (s : LineState) (n : ℕ) → load_refusal (rn_of s n) ≡ None → is_valid (rn_of s n).state ≡ true
load_valid s n allowed = grind (arith, allowed)

pub step_follows : Laws → (c : Conditions) (last : List ℕ) (s : LineState) (agent : Agent) (line : Line) (step : Step) (w : Watched) → agent.0 < 8
    → step_refusal c s agent step ≡ None → (c.slot_used ≡ false → names_used_slot s agent.0 step ≡ false) → Kept last s → Stands last s w.seen
    → Follows (last_with line.0 last (step_record s agent line step)) (after_step c.profile s agent step) w (step_seen c.profile s agent step)
step_follows laws c last s agent line (steps.Load word) w low allowed free kept stands =
    up_taken w s last agent (acts.Load (loaded s agent.0 word)) no_words low (load_seen laws w.seen s last agent word low kept stands (load_valid s agent.0 (neither (load_refusal (rn_of s agent.0)) (full_if c.journal_full) allowed).0))
step_follows laws c last s agent line (steps.Store word value) w low allowed free kept stands =
    let may : StoreAllowed (rn_of s agent.0) = store_allowed (rn_of s agent.0) (neither (store_refusal (rn_of s agent.0)) (full_if c.journal_full) allowed).0 in
    rw (same line.0) (up_taken w _ (set last word.0 value) agent (acts.Store (record { place = word; value = value })) no_words low (store_seen laws w.seen s last agent word value low kept stands may.none may.unique))
step_follows laws c last s agent line steps.Drop w low allowed free kept stands =
    let may : DropAllowed (rn_of s agent.0) = drop_allowed (rn_of s agent.0) allowed in
    dropped laws w.seen s last agent.0 low kept stands may.none may.clean
step_follows laws c last s agent line (steps.Issue kind slot) w low allowed free kept stands =
    let may : IssueAllowed c.slot_used (rn_of s agent.0) kind = issue_allowed c.slot_used (rn_of s agent.0) kind allowed in
    up_taken w _ last agent (acts.Request (kind_seen kind)) no_words low (issue_seen laws w.seen s last agent kind slot low kept stands may.none may.needed)
step_follows laws c last s agent line steps.Admit w low allowed free kept stands =
    let t = step_after c last s agent line steps.Admit low allowed kept in
    subst (λ v. Stands last v w.seen) (sym t.2.2) (request_arrives w.seen s last agent.0 t.0 low kept stands t.1)
step_follows laws c last s agent line steps.Retry w low allowed free kept stands = retry_follows laws c.profile w s last agent (cells_of s agent.0).req low kept stands refl allowed
step_follows laws c last s agent line steps.RecvRetry w low allowed free kept stands =
    let t = step_after c last s agent line steps.RecvRetry low allowed kept in
    retry_arrives w.seen s last agent.0 t.0 low kept stands t.1
step_follows laws c last s agent line steps.Resend w low allowed free kept stands = resend_follows laws w s last agent low kept stands (may_resend c s agent allowed)
step_follows laws c last s agent line steps.Cancel w low allowed free kept stands =
    let may : IsRetried (rn_of s agent.0).pending = cancel_allowed (rn_of s agent.0).state (rn_of s agent.0).pending allowed in
    cancelled laws w.seen s last agent.0 may.request low kept stands may.is may.phase
step_follows laws c last s agent line steps.Start w low allowed free kept stands =
    let found : CanStart s.home agent.0 = can_start s.home agent.0 allowed in
    waiting_follows laws w s last agent (waiting_of s.home agent.0) low kept stands refl (idle_is s.home.serving found.idle)
    (kept_step c last s agent line steps.Start low allowed free kept)
step_follows laws c last s agent line steps.RecvSnp w low allowed free kept stands = snoop_follows laws w s last agent (cells_of s agent.0).snp low kept stands refl
step_follows laws c last s agent line steps.RecvSnpResp w low allowed free kept stands =
    answers_follow laws w s last agent (answer_in (cells_of s agent.0)) low kept stands refl (kept_step c last s agent line steps.RecvSnpResp low allowed free kept)
step_follows laws c last s agent line steps.RecvData w low allowed free kept stands =
    data_follows laws w s last agent (cells_of s agent.0).dat_down low kept stands refl (flit_there (is_some (cells_of s agent.0).dat_down) allowed)
step_follows laws c last s agent line steps.RecvComp w low allowed free kept stands =
    comp_follows laws w s last agent (cells_of s agent.0).rsp_down low kept stands refl (flit_there (is_comp (cells_of s agent.0).rsp_down) allowed)
step_follows laws c last s agent line steps.RecvAck w low allowed free kept stands = ack_arrives w.seen s last agent.0 low kept stands
step_follows laws c last s agent line steps.RecvDbid w low allowed free kept stands =
    let t = step_after c last s agent line steps.RecvDbid low allowed kept in
    subst (λ v. Follows last v w (step_seen c.profile s agent steps.RecvDbid)) (sym t.3.2)
    (subst (λ v. (is_taken w v ≡ true) × Stands last (dbid_received_line s agent.0 t.0.kind) (watch w v).seen) (sym (write_seen_as agent (rn_of s agent.0).state (rn_of s agent.0).words))
    (up_taken w _ last agent (acts.CopyBackWrData (rn_of s agent.0).state) (write_shown (rn_of s agent.0).state (rn_of s agent.0).words) low (write_seen laws w.seen s last agent t.0 low kept stands t.1 t.2)))
step_follows laws c last s agent line steps.RecvWrData w low allowed free kept stands =
    let t = step_after c last s agent line steps.RecvWrData low allowed kept in
    subst (λ v. Stands last v w.seen) (sym t.6.2) (write_arrives w.seen s last agent t.0 t.1 t.2 t.3 low kept stands t.4 t.5)
