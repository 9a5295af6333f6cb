-- What each command of a replay file asks of the tracker, answers and leaves: the table of the commands
-- (docs/FORMATS.md, "Replay files").
use Rattle.std.specs.Prelude.{ℕ, ◌-◌, List, [], ◌∷◌, Bool, true, false, Option, Some, None, replicate, slice_index, slice_set}
use Rattle.std.specs.List.{slice_index_or}
use Rattle.chi_flit.specs.declared.numbers.Agent.{Agent}
use Rattle.chi_flit.specs.declared.numbers.Entry.{Entry}
use Rattle.chi_flit.specs.declared.numbers.Line.{Line}
use Rattle.chi_flit.specs.declared.numbers.Slot.{Slot}
use Rattle.chi_flit.specs.declared.credit.CreditType.{CreditType}
use Rattle.chi_flit.specs.declared.credit.CreditType.TheVariants.{T0, T1, T2, T3}
use Rattle.chi_flit.specs.declared.credit.Profile.{Profile}
use Rattle.chi_flit.specs.declared.action.Action.{Action}
use Rattle.chi_flit.specs.declared.action.Effect.{Effect}
use Rattle.chi_flit.specs.declared.action.Effect.TheVariants as effects
use Rattle.chi_flit.specs.declared.message.Request.{Request}
use Rattle.chi_flit.specs.declared.refusal.Refusal.{Refusal}
use Rattle.chi_flit.specs.Credit.{credit_number}
use Rattle.chi_script.specs.declared.commands.Command.{Command}
use Rattle.chi_script.specs.declared.commands.Command.TheVariants as commands
use Rattle.chi_node.specs.Words.{Released, SlotState, after_finish, idle_slot, all_idle, lowest_cancelled, slots_with_state, slot_record_at, state_at}
use Rattle.chi_slice.specs.Words.{cells_of, effect_of, Sizes}
use Rattle.chi_node.specs.SlotStates as states
use Rattle.chi_node.specs.declared.answers.Arrived.{Arrived}
use Rattle.chi_node.specs.declared.answers.Arrived.TheVariants as arrivals
use Rattle.chi_node.specs.AfterStep.{account_after}
use Rattle.chi_node.specs.Outstanding.{Outstanding, arrival_refusal, give_back_refusal, see_refusal, step_refusal, tend_refusal, typed_refusal}
use Rattle.chi_node.specs.Calls.{arrival_action, place_at}
use Rattle.chi_slice.specs.Audits.{loads_in, stores_in}
use Rattle.chi_node.specs.Home.{HomeState, slices_after, node_flits_refusal, node_line, opening_home, slice_of, node_view_refusal}
use Rattle.chi_replay.specs.declared.replies.Reply.{Reply}
use Rattle.chi_replay.specs.declared.replies.Reply.TheVariants as replies
use Rattle.chi_replay.specs.declared.totals.NodeTotals.{NodeTotals}

-- a node as the commands count it: its slices, and of each agent what is outstanding at its requester; the seen credits
-- are the numbers of the agent's last `see`, less one for each that was spent or given back since
pub record Machine : Type 0 where
  pub home : HomeState
  pub requesters : List Outstanding

-- nothing is, where the tracker has these entries
abbrev pub none_outstanding : List ℕ → Outstanding
none_outstanding entries = record { entries = entries; slots = all_idle; seen = replicate 4 0 }

-- a new node
abbrev pub machine_at_start : Sizes → Machine
machine_at_start config = record { home = opening_home config; requesters = replicate config.agents (none_outstanding config.entries) }

abbrev pub requester_in : Machine → Agent → Outstanding
requester_in m agent = slice_index_or m.requesters agent.0 (none_outstanding (replicate 4 0))

-- an agent's requester becomes another one, and all else stays
abbrev pub with_requester : Machine → Agent → Outstanding → Machine
with_requester m agent r = record m { requesters = slice_set m.requesters agent.0 r }

-- a slot of a requester comes to another state, and a seen credit of a type is gone
abbrev pub with_state : Outstanding → ℕ → SlotState → Outstanding
with_state r s state = record r { slots = slots_with_state r.slots s state }

abbrev pub less_one : Outstanding → CreditType → Outstanding
less_one r ty = record r { seen = slice_set r.seen (credit_number ty) (slice_index r.seen (credit_number ty) - 1) }

-- what a command asks: of the tracker, or whether the slices of a node are coherent
pub data TurnCall : Type 0 where
  Claim : Agent → CreditType → TurnCall
  Owe : Agent → CreditType → TurnCall
  Spend : Agent → CreditType → TurnCall
  Release : Agent → Entry → TurnCall
  See : Agent → TurnCall
  GiveBack : Agent → CreditType → TurnCall
  Tend : Agent → CreditType → TurnCall
  Glance : TurnCall
  Judge : HomeState → TurnCall

-- what is answered: an entry or none; that a credit is owed; the entry of a credit; where a released or
-- returned entry went; the seen credits by type; where a tended entry went, if there was one; for each type
-- the entries that are free, in hand and promised, and the credits that are owed; whether the slices are
-- coherent
pub data TurnAnswer : Type 0 where
  Claimed : Option Entry → TurnAnswer
  Owed : TurnAnswer
  Spent : Entry → TurnAnswer
  Went : Released → TurnAnswer
  Saw : List ℕ → TurnAnswer
  Tended : Option Released → TurnAnswer
  Glanced : (free hand promised owed : CreditType → ℕ) → TurnAnswer
  Judged : Bool → TurnAnswer

-- a command's turn: it ends with a reply and a state, or asks, and goes on with the answer
pub data Turn : Type 0 where
  Ends : Reply → Machine → Turn
  Asks : TurnCall → (TurnAnswer → Turn) → Turn

-- refused, or what comes else
abbrev pub or_refused : Option Refusal → Machine → Turn → Turn
or_refused None m else_turn = else_turn
or_refused (Some refusal) m else_turn = Ends (replies.Refused refusal) m

-- the end of what never comes: an answer that isn't one of the call's, or a completed request that has no
-- entry
abbrev pub never : Machine → Turn
never m = Ends replies.Done m

-- why an action isn't done
abbrev pub act_refusal : Machine → Action → Option Refusal
act_refusal m action = step_refusal (slice_of m.home action.line.0) (requester_in m action.agent) action

-- an agent's requester after its action, as its slots follow it
abbrev pub requester_after_action : Machine → Action → Outstanding
requester_after_action m action = record (requester_in m action.agent) {
  slots = account_after (place_at (slice_of m.home action.line.0) action) action.step (requester_in m action.agent).slots;
}

-- the state after an action that completes no request, and after one that completes the request of a slot
abbrev pub with_action : Machine → Action → Machine
with_action m action = with_requester (record m { home = slices_after m.home action }) action.agent (requester_after_action m action)

-- a requester after the request of a slot is complete
abbrev pub requester_after_end : Outstanding → Slot → Outstanding
requester_after_end r slot = record r { slots = slice_set r.slots slot.0 (after_finish (slot_record_at r.slots slot.0)) }

abbrev pub with_end : Machine → Action → Slot → Machine
with_end m action slot = with_requester (record m { home = slices_after m.home action }) action.agent (requester_after_end (requester_in m action.agent) slot)

abbrev pub turn_after_release : Machine → Slot → TurnAnswer → Turn
turn_after_release m slot (Went released) = Ends (replies.Completed slot released) m
turn_after_release m slot other = never m

-- a request is complete, and its slot's entry is released
abbrev pub completing : SlotState → Machine → Action → Slot → Turn
completing (states.Admitted entry) m action slot = Asks (Release action.agent entry) (turn_after_release (with_end m action slot) slot)
completing other m action slot = never m

-- an action that is done
abbrev pub turn_after_action : Effect → Machine → Action → Turn
turn_after_action effects.Nothing m action = Ends replies.Done (with_action m action)
turn_after_action (effects.Value word) m action = Ends (replies.Value word) (with_action m action)
turn_after_action (effects.Completed slot) m action = completing (state_at (requester_in m action.agent).slots slot.0) m action slot

abbrev pub act_turn : Machine → Action → Turn
act_turn m action = or_refused (act_refusal m action) m (turn_after_action (effect_of (node_line m.home action.line.0) action) m action)

-- the state after the request of a slot arrived
abbrev pub with_arrival : Machine → Agent → Line → Arrived → Outstanding → Machine
with_arrival m agent l arrived r = with_requester (record m { home = slices_after m.home (arrival_action agent.0 l arrived) }) agent r

-- the request of slot s arrived: it is let in with an entry, or retried
abbrev pub admitted_in : Machine → Agent → ℕ → Entry → Outstanding
admitted_in m agent s entry = with_state (requester_in m agent) s (states.Admitted entry)

abbrev pub machine_after_retry : Machine → Agent → Line → ℕ → CreditType → Machine
machine_after_retry m agent l s ty = with_arrival m agent l (arrivals.Retried ty) (with_state (requester_in m agent) s states.Refused)

abbrev pub turn_after_owe : Machine → CreditType → TurnAnswer → Turn
turn_after_owe m ty Owed = Ends (replies.Retry ty) m
turn_after_owe m ty other = never m

-- a first attempt, by what the claim answers
abbrev pub turn_after_claim : Machine → Agent → Line → ℕ → CreditType → TurnAnswer → Turn
turn_after_claim m agent l s ty (Claimed (Some entry)) = Ends (replies.Admitted entry) (with_arrival m agent l (arrivals.Admitted entry) (admitted_in m agent s entry))
turn_after_claim m agent l s ty (Claimed None) = Asks (Owe agent ty) (turn_after_owe (machine_after_retry m agent l s ty) ty)
turn_after_claim m agent l s ty other = never m

-- a resent request, by the entry of the credit that is spent for it
abbrev pub turn_after_spend : Machine → Agent → Line → ℕ → CreditType → TurnAnswer → Turn
turn_after_spend m agent l s ty (Spent entry) = Ends (replies.Admitted entry) (with_arrival m agent l (arrivals.Admitted entry) (less_one (admitted_in m agent s entry) ty))
turn_after_spend m agent l s ty other = never m

-- a request of slot s and a credit type arrives, with AllowRetry or without
abbrev pub turn_of_attempt : Bool → Machine → Agent → Line → ℕ → CreditType → Turn
turn_of_attempt true m agent l s ty = Asks (Claim agent ty) (turn_after_claim m agent l s ty)
turn_of_attempt false m agent l s ty = Asks (Spend agent ty) (turn_after_spend m agent l s ty)

abbrev pub arriving : Machine → Agent → Line → Option Request → Turn
arriving m agent l None = never m
arriving m agent l (Some request) = turn_of_attempt request.allow_retry m agent l request.slot.0 (slot_record_at (requester_in m agent).slots request.slot.0).credit

abbrev pub arrive : Machine → Agent → Line → Turn
arrive m agent l = or_refused (arrival_refusal (slice_of m.home l.0) agent.0 l.0) m (arriving m agent l (cells_of (node_line m.home l.0) agent.0).req)

abbrev pub turn_after_see : Machine → Agent → TurnAnswer → Turn
turn_after_see m agent (Saw counts) = Ends (replies.Credits (record { counts = counts; profile = m.home.config.profile })) (with_requester m agent (record (requester_in m agent) { seen = counts }))
turn_after_see m agent other = never m

-- a requester whose lowest Cancelled slot of the type is Idle, and one seen credit of the type gone
abbrev pub after_return : Outstanding → CreditType → Outstanding
after_return r ty = less_one (record r { slots = slice_set r.slots (lowest_cancelled r.slots (credit_number ty)) idle_slot }) ty

abbrev pub credit_given_back : Machine → Agent → CreditType → TurnAnswer → Turn
credit_given_back m agent ty (Went released) = Ends (replies.Paid released) (with_requester m agent (after_return (requester_in m agent) ty))
credit_given_back m agent ty other = never m

-- why a call of an agent for a type isn't done
abbrev pub return_refusal : Machine → Agent → Option CreditType → Option Refusal
return_refusal m agent ty = typed_refusal m.home agent.0 (give_back_refusal (requester_in m agent)) ty

abbrev pub tend_refusal_of : Machine → Agent → Option CreditType → Option Refusal
tend_refusal_of m agent ty = typed_refusal m.home agent.0 (tend_refusal (requester_in m agent)) ty

abbrev pub give_back : Machine → Agent → Option CreditType → Turn
give_back m agent None = or_refused (return_refusal m agent None) m (never m)
give_back m agent (Some ty) = or_refused (return_refusal m agent (Some ty)) m (Asks (GiveBack agent ty) (credit_given_back m agent ty))

abbrev pub turn_after_tend : Machine → TurnAnswer → Turn
turn_after_tend m (Tended None) = Ends replies.Idle m
turn_after_tend m (Tended (Some released)) = Ends (replies.Paid released) m
turn_after_tend m other = never m

abbrev pub tend : Machine → Agent → Option CreditType → Turn
tend m agent None = or_refused (tend_refusal_of m agent None) m (never m)
tend m agent (Some ty) = or_refused (tend_refusal_of m agent (Some ty)) m (Asks (Tend agent ty) (turn_after_tend m))

-- the four numbers of the types, by rising type
abbrev pub by_type : (CreditType → ℕ) → List ℕ
by_type number = number T0 ∷ number T1 ∷ number T2 ∷ number T3 ∷ []

-- numbers of entries and of owed credits, on a node of the profile
abbrev pub totals_of : Profile → (free hand promised owed : CreditType → ℕ) → NodeTotals
totals_of profile free hand promised owed =
    record { counts = record { free = by_type free; hand = by_type hand; promised = by_type promised; owed = by_type owed }; profile = profile }

abbrev pub turn_after_glance : Machine → TurnAnswer → Turn
turn_after_glance m (Glanced free hand promised owed) = Ends (replies.Totals (totals_of m.home.config.profile free hand promised owed)) m
turn_after_glance m other = never m

-- the loads, the stores and the verdict
abbrev pub turn_after_verdict : Machine → TurnAnswer → Turn
turn_after_verdict m (Judged coherent) =
    Ends (replies.Audit (record { loads = loads_in m.home.slices; stores = stores_in m.home.slices; coherent = coherent })) m
turn_after_verdict m other = never m

-- the table of the commands
abbrev pub turn : Machine → Command → Turn
turn m commands.Totals = Asks Glance (turn_after_glance m)
turn m commands.Audit = Asks (Judge m.home) (turn_after_verdict m)
turn m (commands.Show l) = or_refused (node_view_refusal m.home l.0) m (Ends (replies.Line l) m)
turn m (commands.Flits agent l) = or_refused (node_flits_refusal m.home agent.0 l.0) m (Ends (replies.Flits agent l) m)
turn m (commands.Arrive agent l) = arrive m agent l
turn m (commands.See agent) = or_refused (see_refusal m.home agent.0) m (Asks (See agent) (turn_after_see m agent))
turn m (commands.GiveBack agent ty) = give_back m agent ty
turn m (commands.Tend agent ty) = tend m agent ty
turn m (commands.Act action) = act_turn m action
