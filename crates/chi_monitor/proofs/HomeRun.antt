-- What any step leaves of the home's turn.
use Rattle.std.proofs.Common.{◌≡◌, ◌≢◌, inl, inr, ℕ, ◌<◌, ◌==◌, ◌||◌, Bool, true, false, List, [], length, get_or, set, Option, Some, None, is_some, refl, sym, ap, subst, ◌∙◌, arith, get_or-set_same}
use Rattle.std.proofs.lemmas.Bool.{both_ways}
use Rattle.chi_flit.specs.Credit.{credit_type_of}
use Rattle.chi_flit.specs.Snoop.{answer_of}
use Rattle.chi_flit.specs.Message.{write_data_of}
use Rattle.chi_flit.specs.declared.action.Step.{Step}
use Rattle.chi_flit.specs.declared.action.Step.TheVariants as steps
use Rattle.chi_flit.specs.declared.kind.Kind.{Kind}
use Rattle.chi_flit.specs.declared.message.DatUp.{DatUp}
use Rattle.chi_flit.specs.declared.message.DatUp.TheVariants.{CopyBackWrData}
use Rattle.chi_flit.specs.declared.message.Msg.TheVariants as messages
use Rattle.chi_flit.specs.declared.message.RspDown.{RspDown}
use Rattle.chi_flit.specs.declared.message.RspDown.TheVariants.{RetryAck, CompUC, CompI, CompDBIDResp}
use Rattle.chi_flit.specs.declared.message.RspUp.TheVariants.{CompAck}
use Rattle.chi_flit.specs.declared.numbers.Agent.{Agent}
use Rattle.chi_flit.specs.declared.numbers.Slot.{Slot}
use Rattle.chi_flit.specs.declared.snoop.Snoop.{Snoop}
use Rattle.chi_wires.specs.Cell.{no_flits, with_message}
use Rattle.chi_wires.specs.declared.cells.Cells.{Cells}
use Rattle.chi_rnline.specs.Rn.{request_message, rn_after_comp, rn_after_data, rn_after_dbid, rn_after_snoop}
use Rattle.chi_rnline.specs.declared.pending.Pending.{Pending}
use Rattle.chi_homeline.specs.Home.{acks_for, served_kind, waiting_of, writes_for}
use Rattle.chi_homeline.specs.declared.serving.Serving.{Serving}
use Rattle.chi_homeline.specs.declared.serving.Serving.TheVariants as servings
use Rattle.chi_homeline.specs.declared.serving.SnoopAnswer.{SnoopAnswer}
use Rattle.chi_line.specs.Kept.{Kept, Lane, LaneKept, is_write_data, kind_if, lane, snoop_out, snoops_for}
use Rattle.chi_line.specs.LineState.{LineState, cells_of, rn_of}
use Rattle.chi_line.specs.Refused.{step_refusal}
use Rattle.chi_line.specs.Step.{admitted_line, after_step, answer_in, answered_by, completion_received, data_written, dbid_received_line, is_ack, is_comp, is_dbid, received_line, resent_line, retried_line, snooped_line, started_line, where_some}
use Rattle.chi_line.specs.declared.act.Conditions.{Conditions}
use Rattle.chi_line.proofs.After.{IsRetried, dbid_there, flit_there, issue_allowed, may_resend, start_allowed}
use Rattle.chi_line.proofs.CopyKeeps.{is_snooping}
use Rattle.chi_line.proofs.Facts.{acked_for_data}
use Rattle.chi_line.proofs.Finds.{acknowledge_is_awaited, idle_is, write_is_awaited}
use Rattle.chi_explain.specs.declared.observed.StoreListing.{StoreListing}
use Rattle.chi_explain.specs.Explained.{MayTake, shown_after}
use Rattle.chi_explain.specs.Sent.{busy_in, flit_agent, sent_of_agent}
use Rattle.chi_monitor.specs.HomeTurns.{filter_of, kind_of}
use Rattle.chi_monitor.specs.Turns.{turn_of, waiting}
use Rattle.chi_monitor.specs.declared.home_turns.HomeTurn.{HomeTurn}
use Rattle.chi_monitor.specs.declared.turns.Asked.{Asked}
use Rattle.chi_monitor.specs.declared.turns.Stage.TheVariants as stages
use Rattle.chi_monitor.specs.declared.turns.Turn.{Turn}
use Rattle.chi_flit.specs.declared.state.State.{State}
use Rattle.chi_monitor.proofs.HomeAnswers.{WaitsAs, acked_home, dbid_home, ended_home, serves, written_home}
use Rattle.chi_monitor.proofs.HomeFits.{HomeFits, home_view, up_of}
use Rattle.chi_monitor.proofs.HomeKept.{Serves}
use Rattle.chi_monitor.proofs.HomeReceipts.{answer_out, receipt_home}
use Rattle.chi_monitor.proofs.HomeSnoops.{answered_home}
use Rattle.chi_monitor.proofs.HomeSteps.{Homed, flits_view, homed_by, idle_quiet, kind_at_home, none_seen, retried_home, same_fits, started_home}
use Rattle.chi_monitor.proofs.TurnAnswers.{Each}
use Rattle.chi_monitor.proofs.TurnFits.{IsAskedAt, Place, asked_of}
use Rattle.chi_monitor.proofs.TurnLanes.{is_answer_step}
use Rattle.chi_monitor.proofs.TurnOwn.{Finds, StartFinds, back_is, comp_no_up, data_no_up, dbid_no_up, finds, kind_of_pending, nothing_changes, retry_may, start_finds}
use Rattle.chi_monitor.proofs.TurnSent.{sends_answer, sends_data, sends_freed, sends_nothing, sends_request, sends_response, sends_taken, sends_up}
use Rattle.chi_monitor.proofs.TurnSteps.{at_fits, home_place, none_of, or_home, other_place, same_slot, some_of}
use Rattle.chi_line.proofs.CopyKeeps.{snoop_no_data, snoop_no_response}

-- a request at the home, as its turn has it
waits_as : (asked : Option Asked) (p : Pending) (state : State) → IsAskedAt asked p state Place.AtHome → WaitsAs asked p.kind
waits_as asked p state (inl is) = record { request = asked_of p state stages.First is.0; waits = ap waiting is.1; of = refl }
waits_as asked p state (inr is) = record { request = asked_of p state stages.Resent is.0; waits = ap waiting is.1; of = refl }

-- the turn of the request that is served
pub record ServedTurn (turns : List Turn) (served : Agent) (kind : Kind) : Type 0 where
  pub waits : WaitsAs (turn_of turns served).asked kind
  pub of_kind : kind_of (turn_of turns served).asked ≡ kind

pub served_turn : (stores : StoreListing) (last : List ℕ) (s : LineState) (served : Agent) (kind : Kind) (slot : Slot) (turns : List Turn) (shown : List Bool) → Serves last s served kind slot → Each stores turns shown s → ServedTurn turns served kind
served_turn stores last s served kind slot turns shown k each =
    let h : Finds last s served.0 = finds last s served.0 k.low k.kept in
    let snooped : snoops_for s.home.serving served.0 ≡ true = ap (λ (v : Serving). snoops_for v served.0) k.serving ∙ same_slot served.0 in
    let home : (is_some (waiting_of s.home served.0) || snoops_for s.home.serving served.0) ≡ true = or_home (is_some (waiting_of s.home served.0)) (snoops_for s.home.serving served.0) snooped in
    let p = some_of (rn_of s served.0).pending (h.apart.home_pending home) in
    let asked : IsAskedAt (turn_of turns served).asked p.0 (rn_of s served.0).state Place.AtHome = at_fits stores (turn_of turns served) _ s.home.serving served.0 (lane s served.0) p.0 Place.AtHome p.1 (home_place (cells_of s served.0).req _ _ _ (none_of _ (h.apart.home_req home)) home) (each served.0 k.low) in
    let of : p.0.kind ≡ kind = kind_of_pending _ p.0 kind p.1 (h.kept.snooped_kind snooped ∙ ap served_kind k.serving) in
    record {
      waits = subst (WaitsAs (turn_of turns served).asked) of (waits_as (turn_of turns served).asked p.0 (rn_of s served.0).state asked);
      of_kind = kind_at_home (turn_of turns served).asked p.0 (rn_of s served.0).state asked ∙ of;
    }

-- nothing up is changed
quiet_home : (turns : List Turn) (home : HomeTurn) (shown : List Bool) (s s' : LineState) (agent : Agent) (c : Cells) → agent.0 < length s.flits → s'.flits ≡ set s.flits agent.0 c → up_of c ≡ up_of (cells_of s agent.0)
    → s'.home.serving ≡ s.home.serving → s'.home.filter ≡ s.home.filter → s'.home.awaited ≡ s.home.awaited → sent_of_agent agent (busy_in (cells_of s agent.0)) c ≡ [] → HomeFits home shown (home_view s) → Homed turns home shown s s' agent
quiet_home turns home shown s s' agent c low flits same serving filter awaited sent f =
    homed_by turns home shown s s' agent c None (ap (λ (l : List Cells). get_or l agent.0 no_flits) flits ∙ get_or-set_same s.flits agent.0 c no_flits low) sent
    (same_fits home shown (home_view s) (home_view s') (flits_view s s' agent.0 c flits same serving filter awaited) f)

-- a request is sent
request_home : (turns : List Turn) (home : HomeTurn) (shown : List Bool) (s s' : LineState) (agent : Agent) (kind : Kind) (slot : Slot) (first : Bool) → agent.0 < length s.flits → s'.flits ≡ set s.flits agent.0 (with_message (cells_of s agent.0) (request_message kind slot first)) → s'.home ≡ s.home
    → (cells_of s agent.0).req ≡ None → HomeFits home shown (home_view s) → Homed turns home shown s s' agent
request_home turns home shown s s' agent kind slot first low flits stays none f =
    homed_by turns home shown s s' agent (with_message (cells_of s agent.0) (request_message kind slot first)) (Some (request_message kind slot first)) (ap (λ (l : List Cells). get_or l agent.0 no_flits) flits ∙ get_or-set_same s.flits agent.0 _ no_flits low)
    (sends_request agent (cells_of s agent.0) _ _ none refl (record { rsp_down = inl refl; dat_down = inl refl; rsp_up = inl refl; dat_up = inl refl }))
    (λ at. (home, refl, same_fits home shown (home_view s) (home_view s') (flits_view s s' agent.0 (with_message (cells_of s agent.0) (request_message kind slot first)) flits refl (λ i. (stays i).serving) (λ i. (stays i).filter) (λ i. (stays i).awaited)) f))

-- nothing is in flight that wasn't
still_home : (turns : List Turn) (home : HomeTurn) (shown : List Bool) (s s' : LineState) (agent : Agent) → s'.flits ≡ s.flits → s'.home ≡ s.home → HomeFits home shown (home_view s) → Homed turns home shown s s' agent
still_home turns home shown s s' agent flits stays f = record {
  sent = None;
  is = subst (λ (l : List Cells). sent_of_agent agent (busy_in (cells_of s agent.0)) (get_or l agent.0 no_flits) ≡ []) (sym flits) (sends_nothing agent (cells_of s agent.0) (cells_of s agent.0) (nothing_changes (cells_of s agent.0)));
  keeps = same_fits home shown (home_view s) (home_view s') (λ i. record { serving = (stays i).serving; filter = (stays i).filter; awaited = (stays i).awaited; up = λ m. up_of (get_or (flits i) m no_flits) }) f;
}

-- the request that is retried isn't the one that is served
not_served : (last : List ℕ) (s : LineState) (agent served : Agent) (kind : Kind) (slot : Slot) → is_some (cells_of s agent.0).req ≡ true → Finds last s agent.0 → s.home.serving ≡ servings.Snooping served kind slot → served.0 ≢ agent.0
not_served last s agent served kind slot there h serving = λ (own : served.0 ≡ agent.0).
    let snooped : snoops_for s.home.serving agent.0 ≡ true = ap (λ (v : Serving). snoops_for v agent.0) serving ∙ (ap (λ (n : ℕ). n == agent.0) own ∙ same_slot agent.0) in
    both_ways (is_some (waiting_of s.home agent.0) || snoops_for s.home.serving agent.0) (h.apart.req_away there) (or_home (is_some (waiting_of s.home agent.0)) (snoops_for s.home.serving agent.0) snooped)

-- a step that takes something away
homed_some : {A : Type 0} (turns : List Turn) (home : HomeTurn) (shown : List Bool) (s : LineState) (agent : Agent) (there : Option A) (step : A → LineState) (a : A) → there ≡ Some a → Homed turns home shown s (step a) agent → Homed turns home shown s (where_some s there step) agent
homed_some turns home shown s agent there step a here own = subst (λ (o : Option _). Homed turns home shown s (where_some s o step) agent) (sym here) own

homed_if_some : {A : Type 0} (turns : List Turn) (home : HomeTurn) (shown : List Bool) (s : LineState) (agent : Agent) (there : Option A) (step : A → LineState) → Homed turns home shown s s agent → ((a : A) → there ≡ Some a → Homed turns home shown s (step a) agent) → Homed turns home shown s (where_some s there step) agent
homed_if_some turns home shown s agent None step none some = none
homed_if_some turns home shown s agent (Some a) step none some = some a refl

-- RecvSnp
recv_snoop : (last : List ℕ) (s : LineState) (agent : Agent) (snoop : Snoop) (turns : List Turn) (home : HomeTurn) (shown : List Bool) → (cells_of s agent.0).snp ≡ Some snoop → get_or shown agent.0 false ≡ true → Kept last s → Finds last s agent.0 → HomeFits home shown (home_view s)
    → Homed turns home (set shown agent.0 false) s (snooped_line s agent.0 snoop) agent
recv_snoop last s agent snoop turns home shown here seen k h f =
    let out = h.kept.snoop_fits snoop here in
    let is = is_snooping s.home.serving (ap is_some out) in
    let of : Serves last s is.agent is.kind is.slot = serves last s is.agent is.kind is.slot is.serving_is (ap is_some (sym (ap snoop_out is.serving_is) ∙ out)) k in
    homed_by turns home (set shown agent.0 false) s (snooped_line s agent.0 snoop) agent _ (Some (answer_of (rn_of s agent.0).state snoop (rn_of s agent.0).words).1) (get_or-set_same s.flits agent.0 _ no_flits h.flits)
    (sends_answer agent (cells_of s agent.0) (rn_of s agent.0).state snoop (rn_of s agent.0).words
    (snoop_no_response is.agent is.kind is.slot s.home.filter.unique s.home.filter.owner last agent.0 (lane s agent.0) snoop here (of.lanes agent.0 h.low))
    (snoop_no_data is.agent is.kind is.slot s.home.filter.unique s.home.filter.owner last agent.0 (lane s agent.0) snoop here (of.lanes agent.0 h.low)))
    (answered_home last s is.agent is.kind is.slot agent snoop turns home.filter home.service shown (set s.requesters agent.0 (rn_after_snoop (rn_of s agent.0) snoop)) (rn_of s agent.0).state (rn_of s agent.0).words of h.low here seen f)

-- a completion with Comp_UC, and CompDBIDResp, are of what is served
comp_acks : (serving : Serving) (unique : Bool) (owner : Option Agent) (last : List ℕ) (n : ℕ) (x : Lane) → x.flits.rsp_down ≡ Some CompUC → LaneKept serving unique owner last n x → acks_for serving n ≡ true
comp_acks serving unique owner last n x here k = search (arith, here, k.one_ack)

dbid_writes : (serving : Serving) (unique : Bool) (owner : Option Agent) (last : List ℕ) (n : ℕ) (x : Lane) → x.flits.rsp_down ≡ Some CompDBIDResp → LaneKept serving unique owner last n x → writes_for serving n ≡ true
dbid_writes serving unique owner last n x here k = search (arith, here, k.one_write)

recv_comp : (last : List ℕ) (s : LineState) (agent : Agent) (turns : List Turn) (home : HomeTurn) (shown : List Bool) (there : Option RspDown) → (cells_of s agent.0).rsp_down ≡ there → is_comp there ≡ true → Kept last s → Finds last s agent.0 → HomeFits home shown (home_view s)
    → Homed turns home shown s (completion_received s agent.0 there) agent
recv_comp last s agent turns home shown (Some CompUC) here is k h f =
    homed_by turns home shown s _ agent _ (Some (messages.RspUp CompAck)) (get_or-set_same s.flits agent.0 _ no_flits h.flits)
    (sends_up agent (cells_of s agent.0) _ CompAck (comp_no_up s.home.serving s.home.filter.unique s.home.filter.owner last agent.0 (lane s agent.0) here h.kept) refl (record { req = inl refl; rsp_down = inr refl; dat_down = inl refl }) (inl refl))
    (acked_home last s agent turns home shown (set s.requesters agent.0 (rn_after_comp (rn_of s agent.0))) (record (cells_of s agent.0) { rsp_down = None; rsp_up = Some CompAck }) (comp_acks s.home.serving s.home.filter.unique s.home.filter.owner last agent.0 (lane s agent.0) here h.kept) h.flits refl k f)
recv_comp last s agent turns home shown (Some CompI) here is k h f = quiet_home turns home shown s _ agent (record (cells_of s agent.0) { rsp_down = None }) h.flits refl refl refl refl refl (sends_taken agent (cells_of s agent.0)) f
recv_comp last s agent turns home shown other here is k h f = absurd (cc (is))

-- RecvDbid
recv_dbid : (stores : StoreListing) (last : List ℕ) (s : LineState) (agent : Agent) (turns : List Turn) (home : HomeTurn) (shown : List Bool) (p : Pending) → (rn_of s agent.0).pending ≡ Some p → (cells_of s agent.0).rsp_down ≡ Some CompDBIDResp → Kept last s → Finds last s agent.0 → Each stores turns shown s → HomeFits home shown (home_view s)
    → Homed turns home shown s (dbid_received_line s agent.0 p.kind) agent
recv_dbid stores last s agent turns home shown p pending here k h each f =
    let some : is_some (cells_of s agent.0).rsp_down ≡ true = ap is_some here in
    let no_up : (cells_of s agent.0).dat_up ≡ None = dbid_no_up s.home.serving s.home.filter.unique s.home.filter.owner last agent.0 (lane s agent.0) here h.kept in
    let asked : IsAskedAt (turn_of turns agent).asked p (rn_of s agent.0).state Place.Asking =
    at_fits stores (turn_of turns agent) _ s.home.serving agent.0 (lane s agent.0) p Place.Asking pending (other_place (cells_of s agent.0).req _ _ _ _ (none_of _ (h.apart.rsp_req some)) (h.apart.rsp_away some) (h.apart.rsp_data some) here) (each agent.0 h.low) in
    homed_by turns home shown s _ agent _ (Some (messages.DatUp (write_data_of (rn_of s agent.0).state (rn_of s agent.0).words))) (get_or-set_same s.flits agent.0 _ no_flits h.flits)
    (sends_data agent (cells_of s agent.0) _ _ no_up refl (record { req = inl refl; rsp_down = inr refl; dat_down = inl refl }) (inl refl))
    (dbid_home last s agent turns home shown (set s.requesters agent.0 (rn_after_dbid (rn_of s agent.0) p.kind)) (record (cells_of s agent.0) { rsp_down = None; dat_up = Some (write_data_of (rn_of s agent.0).state (rn_of s agent.0).words) }) (rn_of s agent.0).state (rn_of s agent.0).words p.kind (dbid_writes s.home.serving s.home.filter.unique s.home.filter.owner last agent.0 (lane s agent.0) here h.kept)
    (sym (h.kept.dbid_kind (ap is_dbid here)) ∙ ap kind_if pending) (ap is_write_data no_up) (ap kind_of asked.1) h.flits refl k f)

-- RecvWrData
recv_written : (last : List ℕ) (s : LineState) (agent : Agent) (turns : List Turn) (home : HomeTurn) (shown : List Bool) (kind : Kind) (there : Option DatUp) → served_kind s.home.serving ≡ Some kind → (cells_of s agent.0).dat_up ≡ there → Kept last s → Finds last s agent.0 → HomeFits home shown (home_view s)
    → Homed turns home shown s (data_written s agent.0 kind there) agent
recv_written last s agent turns home shown kind (Some (CopyBackWrData form words)) of here k h f =
    homed_by turns home shown s _ agent (record (cells_of s agent.0) { dat_up = None }) None (get_or-set_same s.flits agent.0 _ no_flits h.flits)
    (sends_nothing agent (cells_of s agent.0) _ (record { req = refl; rsp_down = refl; dat_down = refl; rsp_up = inl refl; dat_up = inr refl; snp = λ there. refl }))
    (written_home last s agent.0 home shown (set s.flits agent.0 (record (cells_of s agent.0) { dat_up = None })) kind form words (write_is_awaited last s agent.0 h.low k (ap is_write_data here)) of here k f)
recv_written last s agent turns home shown kind there of here k h f = still_home turns home shown s s agent refl refl f

-- all but RecvSnpResp
plain_home : (c : Conditions) (stores : StoreListing) (last : List ℕ) (s : LineState) (agent : Agent) (step : Step) (turns : List Turn) (home : HomeTurn) (shown : List Bool) → is_answer_step step ≡ false → step_refusal c s agent step ≡ None → MayTake shown agent step → Kept last s → Finds last s agent.0 → Each stores turns shown s
    → HomeFits home shown (home_view s) → Homed turns home (shown_after shown agent step) s (after_step c.profile s agent step) agent
plain_home c stores last s agent (steps.Load word) turns home shown plain may answers k h each f = still_home turns home shown s s agent refl refl f
plain_home c stores last s agent (steps.Store word value) turns home shown plain may answers k h each f = still_home turns home shown s _ agent refl refl f
plain_home c stores last s agent steps.Drop turns home shown plain may answers k h each f = still_home turns home shown s _ agent refl refl f
plain_home c stores last s agent (steps.Issue kind slot) turns home shown plain may answers k h each f =
    request_home turns home shown s _ agent kind slot true h.flits refl refl (none_of _ (h.apart.none_req (ap is_some (issue_allowed c.slot_used (rn_of s agent.0) kind may).none))) f
plain_home c stores last s agent steps.Admit turns home shown plain may answers k h each f =
    let there = some_of (cells_of s agent.0).req (flit_there (is_some (cells_of s agent.0).req) may) in
    homed_some turns home shown s agent (cells_of s agent.0).req (admitted_line s agent.0) there.0 there.1
    (quiet_home turns home shown s _ agent (record (cells_of s agent.0) { req = None }) h.flits refl refl refl refl refl (sends_freed agent (cells_of s agent.0)) f)
plain_home c stores last s agent steps.Retry turns home shown plain may answers k h each f =
    let there = retry_may (cells_of s agent.0).req may in
    let some : is_some (cells_of s agent.0).req ≡ true = ap is_some there.1 in
    homed_some turns home shown s agent (cells_of s agent.0).req (retried_line c.profile s agent.0) there.0 there.1
    (homed_by turns home shown s _ agent (record (cells_of s agent.0) { req = None; rsp_down = Some (RetryAck (credit_type_of c.profile there.0.kind)) }) (Some (messages.RspDown (RetryAck (credit_type_of c.profile there.0.kind)))) (get_or-set_same s.flits agent.0 _ no_flits h.flits)
    (sends_response agent (cells_of s agent.0) _ _ (none_of _ (h.apart.req_rsp some)) refl (record { req = inr refl; dat_down = inl refl; rsp_up = inl refl; dat_up = inl refl }))
    (retried_home turns home.filter home.service agent (credit_type_of c.profile there.0.kind) shown (home_view (retried_line c.profile s agent.0 there.0)) (λ served kind slot serving. not_served last s agent served kind slot some h serving)
    (same_fits home shown (home_view s) (home_view (retried_line c.profile s agent.0 there.0)) (flits_view s (retried_line c.profile s agent.0 there.0) agent.0 (record (cells_of s agent.0) { req = None; rsp_down = Some (RetryAck (credit_type_of c.profile there.0.kind)) }) refl refl refl refl refl) f)))
plain_home c stores last s agent steps.RecvRetry turns home shown plain may answers k h each f = quiet_home turns home shown s _ agent (record (cells_of s agent.0) { rsp_down = None }) h.flits refl refl refl refl refl (sends_taken agent (cells_of s agent.0)) f
plain_home c stores last s agent steps.Resend turns home shown plain may answers k h each f =
    let can : IsRetried (rn_of s agent.0).pending = may_resend c s agent may in
    homed_some turns home shown s agent (rn_of s agent.0).pending (resent_line s agent.0) can.request can.is
    (request_home turns home shown s _ agent can.request.kind can.request.slot false h.flits refl refl (none_of _ (h.apart.back_req (back_is _ can.request can.is can.phase))) f)
plain_home c stores last s agent steps.Cancel turns home shown plain may answers k h each f = still_home turns home shown s _ agent refl refl f
plain_home c stores last s agent steps.Start turns home shown plain may answers k h each f =
    let can = start_allowed s.home agent.0 may in
    let there = some_of (waiting_of s.home agent.0) can.waits in
    let idle : s.home.serving ≡ servings.Idle = idle_is s.home.serving can.idle in
    let found : StartFinds last s agent there.0 = start_finds last s agent there.0 there.1 idle h in
    let quiet = idle_quiet home.service s.home.serving (filter_of home.filter) shown (home_view s) idle f.does in
    homed_some turns home shown s agent (waiting_of s.home agent.0) (started_line s agent) there.0 there.1
    (started_home last s agent there.0 turns home shown there.0.kind refl (record {
      finds = found;
      kept = k;
      turn = kind_at_home (turn_of turns agent).asked found.pending (rn_of s agent.0).state
          (at_fits stores (turn_of turns agent) _ s.home.serving agent.0 (lane s agent.0) found.pending Place.AtHome found.pending_is (home_place (cells_of s agent.0).req _ _ _ found.unsent found.at_home) (each agent.0 h.low)) ∙ found.kind;
      quiet = quiet.0;
      same = quiet.1;
      long = f.long;
      hidden = λ m at. none_seen last s home shown m at (ap snoop_out idle) k f;
    }))
plain_home c stores last s agent steps.RecvSnp turns home shown plain may answers k h each f =
    let there = some_of (cells_of s agent.0).snp (flit_there (is_some (cells_of s agent.0).snp) may) in
    homed_some turns home (set shown agent.0 false) s agent (cells_of s agent.0).snp (snooped_line s agent.0) there.0 there.1 (recv_snoop last s agent there.0 turns home shown there.1 answers k h f)
plain_home c stores last s agent steps.RecvSnpResp turns home shown plain may answers k h each f = absurd (cc (plain))
plain_home c stores last s agent steps.RecvData turns home shown plain may answers k h each f =
    let there = some_of (cells_of s agent.0).dat_down (flit_there (is_some (cells_of s agent.0).dat_down) may) in
    homed_some turns home shown s agent (cells_of s agent.0).dat_down (received_line s agent.0) there.0 there.1
    (homed_by turns home shown s _ agent _ (Some (messages.RspUp CompAck)) (get_or-set_same s.flits agent.0 _ no_flits h.flits)
    (sends_up agent (cells_of s agent.0) _ CompAck (data_no_up s.home.serving s.home.filter.unique s.home.filter.owner last agent.0 (lane s agent.0) there.0 there.1 h.kept) refl (record { req = inl refl; rsp_down = inl refl; dat_down = inr refl }) (inl refl))
    (acked_home last s agent turns home shown (set s.requesters agent.0 (rn_after_data (rn_of s agent.0) there.0)) (record (cells_of s agent.0) { dat_down = None; rsp_up = Some CompAck }) (acked_for_data s.home.serving s.home.filter.unique s.home.filter.owner last agent.0 (lane s agent.0) there.0 there.1 h.kept) h.flits refl k f))
plain_home c stores last s agent steps.RecvComp turns home shown plain may answers k h each f = recv_comp last s agent turns home shown (cells_of s agent.0).rsp_down refl (flit_there (is_comp (cells_of s agent.0).rsp_down) may) k h f
plain_home c stores last s agent steps.RecvAck turns home shown plain may answers k h each f =
    let here : is_ack (cells_of s agent.0).rsp_up ≡ true = flit_there (is_ack (cells_of s agent.0).rsp_up) may in
    homed_by turns home shown s _ agent (record (cells_of s agent.0) { rsp_up = None }) None (get_or-set_same s.flits agent.0 _ no_flits h.flits)
    (sends_nothing agent (cells_of s agent.0) _ (record { req = refl; rsp_down = refl; dat_down = refl; rsp_up = inr refl; dat_up = inl refl; snp = λ there. refl }))
    (ended_home last s agent.0 home shown (set s.flits agent.0 (record (cells_of s agent.0) { rsp_up = None })) (acknowledge_is_awaited last s agent.0 h.low k here) here k f)
plain_home c stores last s agent steps.RecvDbid turns home shown plain may answers k h each f =
    homed_if_some turns home shown s agent (rn_of s agent.0).pending (λ (p : Pending). dbid_received_line s agent.0 p.kind) (still_home turns home shown s s agent refl refl f)
    (λ p pending. recv_dbid stores last s agent turns home shown p pending (dbid_there (cells_of s agent.0).rsp_down (flit_there (is_dbid (cells_of s agent.0).rsp_down) may)) k h each f)
plain_home c stores last s agent steps.RecvWrData turns home shown plain may answers k h each f =
    homed_if_some turns home shown s agent (served_kind s.home.serving) (λ (kind : Kind). data_written s agent.0 kind (cells_of s agent.0).dat_up) (still_home turns home shown s s agent refl refl f)
    (λ kind of. recv_written last s agent turns home shown kind (cells_of s agent.0).dat_up of refl k h f)

pub home_step : (c : Conditions) (stores : StoreListing) (last : List ℕ) (s : LineState) (agent : Agent) (step : Step) (turns : List Turn) (home : HomeTurn) (shown : List Bool) → agent.0 < 8 → step_refusal c s agent step ≡ None → MayTake shown agent step → Kept last s → Each stores turns shown s
    → HomeFits home shown (home_view s) → Homed turns home (shown_after shown agent step) s (after_step c.profile s agent step) (flit_agent s agent step)
home_step c stores last s agent steps.RecvSnpResp turns home shown low may answers k each f =
    let there = some_of (answer_in (cells_of s agent.0)) (flit_there _ may) in
    let out : is_some (snoop_out s.home.serving) ≡ true = answer_out last s agent there.0 low there.1 k in
    subst (λ (o : Option SnoopAnswer). Homed turns home shown s (where_some s o (answered_by s agent)) (flit_agent s agent steps.RecvSnpResp)) (sym there.1)
    (receipt_home last s agent there.0 turns home.filter home.service shown low there.1 k
    (λ served kind slot is. (served_turn stores last s served kind slot turns shown (serves last s served kind slot is (subst (λ (v : Serving). is_some (snoop_out v) ≡ true) is out) k) each).of_kind) f)
home_step c stores last s agent step turns home shown low may answers k each f = plain_home c stores last s agent step turns home shown refl may answers k (finds last s agent.0 low k) each f
