-- What a node did for a command plays the command's turn.
use Rattle.std.proofs.Common.{◌≡◌, ℕ, ◌<◌, Bool, true, false, List, [], ◌∷◌, length, Option, Some, None, Result, Ok, Err, IfOk, OnErr, refl, sym, ◌∙◌, ap, subst, arith}
use Rattle.std.proofs.Math.ListN.{set}
use Rattle.std.specs.Prelude.{slice_index}
use Rattle.chi_flit.specs.declared.numbers.Agent.{Agent}
use Rattle.chi_flit.specs.declared.numbers.Entry.{Entry}
use Rattle.chi_flit.specs.declared.numbers.Line.{Line}
use Rattle.chi_flit.specs.declared.numbers.Slot.{Slot}
use Rattle.chi_flit.specs.declared.credit.CreditType.{CreditType}
use Rattle.chi_flit.specs.declared.credit.CreditType.TheVariants.{T0, T1, T2, T3}
use Rattle.chi_flit.specs.declared.credit.Profile.{Profile}
use Rattle.chi_flit.specs.declared.action.Action.{Action}
use Rattle.chi_flit.specs.declared.action.Effect.{Effect}
use Rattle.chi_flit.specs.declared.action.Effect.TheVariants.{Completed, Nothing, Value}
use Rattle.chi_flit.specs.declared.message.Request.{Request}
use Rattle.chi_flit.specs.declared.refusal.Refusal.{Refusal}
use Rattle.chi_flit.specs.Credit.{credit_number}
use Rattle.chi_flit.specs.Refusal.{refusal_of}
use Rattle.chi_node.specs.Words.{Released, Counts, PortView, Shape, owed_one, SlotState, slots_with_state, slot_record_at, state_at}
use Rattle.chi_slice.specs.Words.{cells_of}
use Rattle.chi_slice.specs.Slice.{SliceState}
use Rattle.chi_node.specs.SlotStates as states
use Rattle.chi_node.specs.declared.answers.Arrived.{Arrived}
use Rattle.chi_node.specs.declared.answers.Arrived.TheVariants.{Admitted, Retried}
use Rattle.chi_node.specs.declared.answers.Stepped.{Stepped}
use Rattle.chi_node.specs.Requester.{RequesterState}
use Rattle.chi_node.specs.Arrives.{Arrives}
use Rattle.chi_node.specs.AfterStep.{CompletesRequest, Finishes, account_after, requester_after}
use Rattle.chi_node.specs.Calls.{ArrivesAt, arrival_action, place_at}
use Rattle.chi_script.specs.declared.commands.Command.TheVariants as commands
use Rattle.chi_slice.specs.declared.audits.Audit.{Audit}
use Rattle.chi_slice.specs.Audits.{IsAudited, loads_in}
use Rattle.chi_node.specs.Headline.{Headline}
use Rattle.chi_node.specs.Home.{slices_after, node_line, slice_of}
use Rattle.chi_node.specs.System.{ArrivesIn, IsSystem, OthersStay, StepsIn, SystemState, arrive_refusal, requester_of, system_step_refusal}
use Rattle.chi_replay.specs.declared.replies.Reply.{Reply}
use Rattle.chi_replay.specs.declared.replies.Reply.TheVariants as replies
use Rattle.chi_node.specs.Outstanding.{Outstanding, outstanding_of, seen_counts}
use Rattle.chi_replay.specs.Ports.{PortClaims, PortOwes, PortReleases, PortSpends}
use Rattle.chi_replay.specs.Turns.{Claimed, Ends, Glanced, Judged, Machine, Owed, Spent, Turn, Went, act_turn, act_refusal, admitted_in, arrive, arriving, turn_of_attempt, by_type, completing, turn_after_action, less_one, or_refused, requester_after_action, requester_after_end, requester_in, with_action, with_arrival, with_end, with_state, turn}
use Rattle.chi_replay.specs.NodeReplies.{arrival_reply, done_reply, step_reply}
use Rattle.chi_replay.specs.Session.{PlaysOn, machine_of, ports_of}
use Rattle.chi_node.proofs.Acts.{claim_view, release_view, retry_view}
use Rattle.chi_replay.proofs.Machines.{at_port, at_port_again, machine_after, outstanding_is, ports_after, ports_same, requester_at}
use Rattle.chi_replay.proofs.Reasons.{act_same, arrives_low, few_there, steps_low}
use Rattle.chi_replay.proofs.Seen.{counts_less, same_counts}

-- what is refused says so, and what isn't goes on
pub refused_plays : (y y' : SystemState) (o : Option Refusal) (refusal : Refusal) (t : Turn) → Some refusal ≡ o → y' ≡ y → PlaysOn (or_refused o (machine_of y) t) y y' (replies.Refused refusal)
refused_plays y y' o refusal t h same =
    subst (λ (x : Option Refusal). PlaysOn (or_refused x (machine_of y) t) y y' (replies.Refused refusal)) h
    (subst (λ (z : SystemState). PlaysOn (or_refused (Some refusal) (machine_of y) t) y z (replies.Refused refusal)) (sym same) ([], (refl, refl, refl)))

pub allowed_plays : (y y' : SystemState) (o : Option Refusal) (t : Turn) (reply : Reply) → None ≡ o → PlaysOn t y y' reply → PlaysOn (or_refused o (machine_of y) t) y y' reply
allowed_plays y y' o t reply h plays = subst (λ (x : Option Refusal). PlaysOn (or_refused x (machine_of y) t) y y' reply) h plays

-- what is looked at
pub looked_plays : (y : SystemState) (o : Option Refusal) (reply : Reply) → None ≡ o → PlaysOn (or_refused o (machine_of y) (Ends reply (machine_of y))) y y reply
looked_plays y o reply h = allowed_plays y y o (Ends reply (machine_of y)) reply h ([], (refl, refl, refl))

-- types of the same number
same_type : (a b : CreditType) → credit_number a ≡ credit_number b → a ≡ b
same_type T0 T0 e = refl
same_type T0 T1 e = absurd (omega (arith, e))
same_type T0 T2 e = absurd (omega (arith, e))
same_type T0 T3 e = absurd (omega (arith, e))
same_type T1 T0 e = absurd (omega (arith, e))
same_type T1 T1 e = refl
same_type T1 T2 e = absurd (omega (arith, e))
same_type T1 T3 e = absurd (omega (arith, e))
same_type T2 T0 e = absurd (omega (arith, e))
same_type T2 T1 e = absurd (omega (arith, e))
same_type T2 T2 e = refl
same_type T2 T3 e = absurd (omega (arith, e))
same_type T3 T0 e = absurd (omega (arith, e))
same_type T3 T1 e = absurd (omega (arith, e))
same_type T3 T2 e = absurd (omega (arith, e))
same_type T3 T3 e = refl

-- what is outstanding where one slot was moved
moved : (y y' : SystemState) (agent : Agent) (s : ℕ) (state : SlotState) → (requester_of y' agent.0).port.shape ≡ (requester_of y agent.0).port.shape → (requester_of y' agent.0).slots ≡ slots_with_state (requester_of y agent.0).slots s state
    → seen_counts (requester_of y' agent.0).port ≡ seen_counts (requester_of y agent.0).port → outstanding_of (requester_of y' agent.0) ≡ with_state (requester_in (machine_of y) agent) s state
moved y y' agent s state shape slots seen =
    outstanding_is (requester_of y' agent.0) (with_state (outstanding_of (requester_of y agent.0)) s state) (ap (λ (z : Shape). z.sizes) shape) slots seen
    ∙ ap (λ (o : Outstanding). with_state o s state) (sym (requester_at y agent))

-- the table's state after an arrival
arrived_state : (y y' : SystemState) (agent : Agent) (l : Line) (s : ℕ) (arrived : Arrived) (state : SlotState) → y'.home ≡ slices_after y.home (arrival_action agent.0 l arrived) → OthersStay y y' agent
    → (requester_of y' agent.0).port.shape ≡ (requester_of y agent.0).port.shape → (requester_of y' agent.0).slots ≡ slots_with_state (requester_of y agent.0).slots s state → seen_counts (requester_of y' agent.0).port ≡ seen_counts (requester_of y agent.0).port
    → machine_of y' ≡ with_arrival (machine_of y) agent l arrived (with_state (requester_in (machine_of y) agent) s state)
arrived_state y y' agent l s arrived state home others shape slots seen = machine_after y y' agent _ _ home others (moved y y' agent s state shape slots seen)

-- a first attempt that is admitted, one that is retried, and a resent request
first_admitted : (y y' : SystemState) (agent : Agent) (l : Line) (s : ℕ) (e : Entry) → IsSystem y → agent.0 < y.home.config.agents → y'.home ≡ slices_after y.home (arrival_action agent.0 l (Admitted e)) → OthersStay y y' agent
    → Arrives true s (Admitted e) (requester_of y agent.0) (requester_of y' agent.0) → PlaysOn (turn_of_attempt true (machine_of y) agent l s (slot_record_at (requester_of y agent.0).slots s).credit) y y' (replies.Admitted e)
first_admitted y y' agent l s e k low home others h =
    let r : RequesterState = requester_of y agent.0 in
    let ty : CreditType = (slot_record_at r.slots s).credit in (
      Claimed (Some e) ∷ [],
      (
        ports_of y',
        at_port y agent (ports_of y') (requester_of y' agent.0).port (λ before after. PortClaims before ty (Some e) after) k low (ports_after y y' agent others) (claim_view r (requester_of y' agent.0) (credit_number ty) (Some e) h.4),
        (refl, arrived_state y y' agent l s (Admitted e) (states.Admitted e) home others h.2.1 (ap (λ (x : RequesterState). x.slots) h.3) (same_counts r.port (requester_of y' agent.0).port h.2.1 h.2.2), refl),
      ),
    )

first_retried : (y y' : SystemState) (agent : Agent) (l : Line) (s : ℕ) (told : CreditType) → IsSystem y → agent.0 < y.home.config.agents → y'.home ≡ slices_after y.home (arrival_action agent.0 l (Retried told)) → OthersStay y y' agent
    → Arrives true s (Retried told) (requester_of y agent.0) (requester_of y' agent.0) → PlaysOn (turn_of_attempt true (machine_of y) agent l s (slot_record_at (requester_of y agent.0).slots s).credit) y y' (replies.Retry told)
first_retried y y' agent l s told k low home others h =
    let r : RequesterState = requester_of y agent.0 in
    let ty : CreditType = (slot_record_at r.slots s).credit in
    let t : ℕ = credit_number ty in
    let mid : PortView = h.4.mid.port in
    let after : (requester_of y' agent.0).port ≡ owed_one t mid = h.4.owed in (
      Claimed None ∷ Owed ∷ [],
      (
        set (ports_of y) agent.0 mid,
        at_port y agent (set (ports_of y) agent.0 mid) mid (λ before after. PortClaims before ty None after) k low refl (retry_view r (requester_of y' agent.0) t h.4),
        (
          ports_of y',
          at_port_again y agent (ports_of y') mid (requester_of y' agent.0).port (λ before after. PortOwes before ty after) k low (ports_after y y' agent others) after,
          (ap (λ (c : CreditType). replies.Retry c) (same_type told ty h.0), arrived_state y y' agent l s (Retried ty) states.Refused home others h.2.1 (ap (λ (x : RequesterState). x.slots) h.3) (same_counts r.port (requester_of y' agent.0).port h.2.1 h.2.2), refl),
        ),
      ),
    )

resent_admitted : (y y' : SystemState) (agent : Agent) (l : Line) (s : ℕ) (e : Entry) → IsSystem y → agent.0 < y.home.config.agents → y'.home ≡ slices_after y.home (arrival_action agent.0 l (Admitted e)) → OthersStay y y' agent
    → Arrives false s (Admitted e) (requester_of y agent.0) (requester_of y' agent.0) → PlaysOn (turn_of_attempt false (machine_of y) agent l s (slot_record_at (requester_of y agent.0).slots s).credit) y y' (replies.Admitted e)
resent_admitted y y' agent l s e k low home others h =
    let r : RequesterState = requester_of y agent.0 in
    let ty : CreditType = (slot_record_at r.slots s).credit in
    let m : Machine = machine_of y in
    let after = ap (λ (x : RequesterState). x.port) h.3 in
    let shape = ap (λ (p : PortView). p.shape) after in
    let seen = counts_less r.port (requester_of y' agent.0).port ty e.0 (few_there y agent.0 k low) h.1 shape (ap (λ (p : PortView). p.seen) after) in
    let spent : outstanding_of (requester_of y' agent.0) ≡ less_one (admitted_in m agent s e) ty =
    outstanding_is (requester_of y' agent.0) (less_one (with_state (outstanding_of r) s (states.Admitted e)) ty) (ap (λ (z : Shape). z.sizes) shape) (ap (λ (x : RequesterState). x.slots) h.3) seen
    ∙ ap (λ (o : Outstanding). less_one (with_state o s (states.Admitted e)) ty) (sym (requester_at y agent)) in
    let state : machine_of y' ≡ with_arrival m agent l (Admitted e) (less_one (admitted_in m agent s e) ty) = machine_after y y' agent _ _ home others spent in (
      Spent e ∷ [],
      (
        ports_of y',
        at_port y agent (ports_of y') (requester_of y' agent.0).port (λ before after. PortSpends before ty e after) k low (ports_after y y' agent others) (h.1, h.2, after),
        (refl, state, refl),
      ),
    )

attempt_plays : (y y' : SystemState) (agent : Agent) (l : Line) (s : ℕ) (first : Bool) (arrived : Arrived) → IsSystem y → agent.0 < y.home.config.agents → y'.home ≡ slices_after y.home (arrival_action agent.0 l arrived) → OthersStay y y' agent
    → Arrives first s arrived (requester_of y agent.0) (requester_of y' agent.0) → PlaysOn (turn_of_attempt first (machine_of y) agent l s (slot_record_at (requester_of y agent.0).slots s).credit) y y' (arrival_reply (Ok arrived))
attempt_plays y y' agent l s true (Admitted e) k low home others h = first_admitted y y' agent l s e k low home others h
attempt_plays y y' agent l s true (Retried told) k low home others h = first_retried y y' agent l s told k low home others h
attempt_plays y y' agent l s false (Admitted e) k low home others h = resent_admitted y y' agent l s e k low home others h
attempt_plays y y' agent l s false (Retried told) k low home others h = absurd h

arriving_plays : (y y' : SystemState) (agent : Agent) (l : Line) (o : Option Request) (arrived : Arrived) → IsSystem y → agent.0 < y.home.config.agents → y'.home ≡ slices_after y.home (arrival_action agent.0 l arrived) → OthersStay y y' agent
    → ArrivesAt o arrived (requester_of y agent.0) (requester_of y' agent.0) → PlaysOn (arriving (machine_of y) agent l o) y y' (arrival_reply (Ok arrived))
arriving_plays y y' agent l None arrived k low home others h = absurd h
arriving_plays y y' agent l (Some request) arrived k low home others h =
    subst (λ (o : Outstanding). PlaysOn (turn_of_attempt request.allow_retry (machine_of y) agent l request.slot.0 (slot_record_at o.slots request.slot.0).credit) y y' (arrival_reply (Ok arrived))) (sym (requester_at y agent))
    (attempt_plays y y' agent l request.slot.0 request.allow_retry arrived k low home others h)

-- an arrival
pub arrive_plays : (y y' : SystemState) (agent : Agent) (l : Line) (result : Result Arrived Refusal) → IsSystem y → refusal_of result ≡ arrive_refusal y agent.0 l.0 → IfOk result (λ arrived. ArrivesIn y y' agent l arrived) → OnErr result (y' ≡ y)
    → PlaysOn (arrive (machine_of y) agent l) y y' (arrival_reply result)
arrive_plays y y' agent l (Err refusal) k h ok err = refused_plays y y' (arrive_refusal y agent.0 l.0) refusal _ h err
arrive_plays y y' agent l (Ok arrived) k h ok err =
    allowed_plays y y' (arrive_refusal y agent.0 l.0) _ (arrival_reply (Ok arrived)) h
    (arriving_plays y y' agent l (cells_of (node_line y.home l.0) agent.0).req arrived k (arrives_low y agent l k h) ok.home ok.others ok.requester)

-- the table's state after a step that completes nothing
stepped_state : (y y' : SystemState) (action : Action) → y'.home ≡ slices_after y.home action → OthersStay y y' action.agent → requester_of y' action.agent.0 ≡ requester_after (place_at (slice_of y.home action.line.0) action) action.step (requester_of y action.agent.0)
    → (machine_of y' ≡ with_action (machine_of y) action) × (ports_of y' ≡ ports_of y)
stepped_state y y' action home others is =
    let r : RequesterState = requester_of y action.agent.0 in
    let z : SliceState = slice_of y.home action.line.0 in
    let followed : outstanding_of (requester_of y' action.agent.0) ≡ requester_after_action (machine_of y) action =
    ap outstanding_of is ∙ ap (λ (o : Outstanding). record o { slots = account_after (place_at z action) action.step o.slots }) (sym (requester_at y action.agent)) in
    let port : (requester_of y' action.agent.0).port ≡ r.port = ap (λ (x : RequesterState). x.port) is in (
      machine_after y y' action.agent _ _ home others followed,
      ports_same y y' action.agent others port,
    )

-- a step that completes a request
completing_plays : (y y' : SystemState) (action : Action) (slot : Slot) (released : Released) → IsSystem y → action.agent.0 < y.home.config.agents → y'.home ≡ slices_after y.home action → OthersStay y y' action.agent
    → CompletesRequest slot.0 released (requester_of y action.agent.0) (requester_of y' action.agent.0) → PlaysOn (completing (state_at (requester_of y action.agent.0).slots slot.0) (machine_of y) action slot) y y' (replies.Completed slot released)
completing_plays y y' action slot released k low home others c =
    let m : Machine = machine_of y in
    let r : RequesterState = requester_of y action.agent.0 in
    let e : Entry = c.acted.0 in
    let ended : outstanding_of (requester_of y' action.agent.0) ≡ requester_after_end (requester_in m action.agent) slot =
    outstanding_is (requester_of y' action.agent.0) (requester_after_end (outstanding_of r) slot) (ap (λ (z : Shape). z.sizes) c.credits.1) (ap (λ (x : RequesterState). x.slots) c.after) (same_counts r.port (requester_of y' action.agent.0).port c.credits.1 c.credits.2)
    ∙ ap (λ (o : Outstanding). requester_after_end o slot) (sym (requester_at y action.agent)) in
    let state : machine_of y' ≡ with_end m action slot = machine_after y y' action.agent _ _ home others ended in
    subst (λ (x : SlotState). PlaysOn (completing x m action slot) y y' (replies.Completed slot released)) (sym c.acted.1) (
      Went released ∷ [],
      (
        ports_of y',
        at_port y action.agent (ports_of y') (requester_of y' action.agent.0).port (λ before after. PortReleases before e released after) k low (ports_after y y' action.agent others) (c.held e c.acted.1, release_view r (requester_of y' action.agent.0) e.0 released c.credits.1 c.acted.3),
        (refl, state, refl),
      ),
    )

done_plays : (y y' : SystemState) (action : Action) (effect : Effect) (o : Option Released) → IsSystem y → action.agent.0 < y.home.config.agents → y'.home ≡ slices_after y.home action → OthersStay y y' action.agent
    → Finishes (place_at (slice_of y.home action.line.0) action) action.step effect o (requester_of y action.agent.0) (requester_of y' action.agent.0) → PlaysOn (turn_after_action effect (machine_of y) action) y y' (done_reply effect o)
done_plays y y' action Nothing o k low home others h = let at = stepped_state y y' action home others h.1 in ([], (refl, at.0, at.1))
done_plays y y' action (Value word) o k low home others h = let at = stepped_state y y' action home others h.1 in ([], (refl, at.0, at.1))
done_plays y y' action (Completed slot) None k low home others h = absurd h.0
done_plays y y' action (Completed slot) (Some released) k low home others h =
    subst (λ (o : Outstanding). PlaysOn (completing (state_at o.slots slot.0) (machine_of y) action slot) y y' (replies.Completed slot released)) (sym (requester_at y action.agent))
    (completing_plays y y' action slot released k low home others h.1)

-- a step
pub step_plays : (y y' : SystemState) (action : Action) (result : Result Stepped Refusal) → IsSystem y → refusal_of result ≡ system_step_refusal y action → IfOk result (λ stepped. StepsIn y y' action stepped) → OnErr result (y' ≡ y)
    → PlaysOn (act_turn (machine_of y) action) y y' (step_reply result)
step_plays y y' action (Err refusal) k h ok err = refused_plays y y' (act_refusal (machine_of y) action) refusal _ (h ∙ sym (act_same y action)) err
step_plays y y' action (Ok stepped) k h ok err =
    allowed_plays y y' (act_refusal (machine_of y) action) _ (step_reply (Ok stepped)) (h ∙ sym (act_same y action))
    (subst (λ (e : Effect). PlaysOn (turn_after_action e (machine_of y) action) y y' (done_reply stepped.effect stepped.released)) ok.effect
    (done_plays y y' action stepped.effect stepped.released k (steps_low y action k h) ok.home ok.others ok.requester))

-- a list of four numbers holds one for each credit type
abbrev typed : List ℕ → CreditType → ℕ
typed numbers ty = slice_index numbers (credit_number ty)

four_typed : (numbers : List ℕ) → length numbers ≡ 4 → numbers ≡ by_type (typed numbers)
four_typed [] four = absurd (omega (arith, four))
four_typed (a ∷ []) four = absurd (omega (arith, four))
four_typed (a ∷ b ∷ []) four = absurd (omega (arith, four))
four_typed (a ∷ b ∷ c ∷ []) four = absurd (omega (arith, four))
four_typed (a ∷ b ∷ c ∷ d ∷ []) four = refl
four_typed (a ∷ b ∷ c ∷ d ∷ e ∷ more) four = absurd (omega (arith, four))

-- the numbers of entries, four of each
pub record AreFours (counts : Counts) : Type 0 where
  pub free : length counts.free ≡ 4
  pub hand : length counts.hand ≡ 4
  pub promised : length counts.promised ≡ 4
  pub owed : length counts.owed ≡ 4

abbrev typed_counts : Counts → Counts
typed_counts counts = record { free = by_type (typed counts.free); hand = by_type (typed counts.hand); promised = by_type (typed counts.promised); owed = by_type (typed counts.owed) }

counts_typed : (counts : Counts) → AreFours counts → counts ≡ typed_counts counts
counts_typed counts four =
    ap (λ (n : List ℕ). record counts { free = n }) (four_typed counts.free four.free)
    ∙ (ap (λ (n : List ℕ). record counts { free = by_type (typed counts.free); hand = n }) (four_typed counts.hand four.hand)
    ∙ (ap (λ (n : List ℕ). record counts { free = by_type (typed counts.free); hand = by_type (typed counts.hand); promised = n }) (four_typed counts.promised four.promised)
    ∙ ap (λ (n : List ℕ). record (typed_counts counts) { owed = n }) (four_typed counts.owed four.owed)))

pub glance_plays : (y : SystemState) (counts : Counts) (profile : Profile) → AreFours counts → profile ≡ y.home.config.profile → PlaysOn (turn (machine_of y) commands.Totals) y y (replies.Totals (record { counts = counts; profile = profile }))
glance_plays y counts profile four h = (
  Glanced (typed counts.free) (typed counts.hand) (typed counts.promised) (typed counts.owed) ∷ [],
  (ports_of y, refl, (ap (λ (p : Profile). replies.Totals (record { counts = counts; profile = p })) h ∙ ap (λ (n : Counts). replies.Totals (record { counts = n; profile = y.home.config.profile })) (counts_typed counts four), refl, refl)),
)

-- an audit: the loads, the stores, and the verdict on the slices, where the headline holds
pub audit_plays : (y : SystemState) (audit : Audit) → IsAudited y.home.slices audit.loads audit.stores audit.coherent → Headline y → PlaysOn (turn (machine_of y) commands.Audit) y y (replies.Audit audit)
audit_plays y audit k headline = (
  Judged audit.coherent ∷ [],
  (
    ports_of y,
    (k.coherent, refl, (y, refl, refl, headline)),
    (
      ap (λ (n : ℕ). replies.Audit (record { loads = n; stores = audit.stores; coherent = audit.coherent })) k.loads
          ∙ ap (λ (n : ℕ). replies.Audit (record { loads = loads_in y.home.slices; stores = n; coherent = audit.coherent })) k.stores,
      refl,
      refl,
    ),
  ),
)
