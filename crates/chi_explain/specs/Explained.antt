-- What explains what was seen of a line (docs/TRACES.md, "Explanations").
use Rattle.std.specs.Prelude.{◌≡◌, ℕ, Bool, true, false, List, [], ◌∷◌, ◌++◌, ◌<◌, Option, Some, None, replicate, slice_set}
use Rattle.std.specs.List.{All, slice_index_or}
use Rattle.chi_slice.specs.Words.{cells_of, Sizes}
use Rattle.chi_flit.specs.declared.action.Action.{Action}
use Rattle.chi_flit.specs.declared.action.Effect.{Effect}
use Rattle.chi_flit.specs.declared.action.Effect.TheVariants.{Value}
use Rattle.chi_flit.specs.declared.action.Step.{Step}
use Rattle.chi_flit.specs.declared.action.Step.TheVariants as steps
use Rattle.chi_flit.specs.declared.message.Msg.TheVariants as messages
use Rattle.chi_flit.specs.declared.numbers.Agent.{Agent}
use Rattle.chi_flit.specs.declared.snoop.Snoop.{Snoop}
use Rattle.chi_slice.specs.Protocol.{SliceStep}
use Rattle.chi_slice.specs.Slice.{SliceState, action_refusal, line, slice_after}
use Rattle.chi_explain.specs.declared.explanations.Unexplained.{Unexplained}
use Rattle.chi_explain.specs.declared.explanations.Unexplained.TheVariants as causes
use Rattle.chi_explain.specs.declared.explanations.WitnessItem.{WitnessItem}
use Rattle.chi_explain.specs.declared.explanations.WitnessItem.TheVariants.{Act, Snoop as Shown, Load, Store}
use Rattle.chi_explain.specs.declared.observed.Observed.{Observed}
use Rattle.chi_explain.specs.declared.observed.Observed.TheVariants as seen_of
use Rattle.chi_explain.specs.declared.observed.StoreListing.{StoreListing}
use Rattle.chi_explain.specs.declared.observed.StoreListing.TheVariants.{Complete}
use Rattle.chi_explain.specs.Opening.{IsOpenAt}
use Rattle.chi_explain.specs.Sent.{sent_between}

-- a step of an agent on line 0
abbrev pub line_action : Agent → Step → Action
line_action agent step = record { agent = agent; line = record { 0 = 0 }; step = step }

-- whether the snoop of an agent that is in flight was seen
abbrev pub is_shown : List Bool → Agent → Bool
is_shown shown agent = slice_index_or shown agent.0 false

-- an agent answers a snoop only once it was seen
abbrev pub MayTake : List Bool → Agent → Step → Type 0
MayTake shown agent steps.RecvSnp = is_shown shown agent ≡ true
MayTake shown agent other = Unit {0}

abbrev pub shown_after : List Bool → Agent → Step → List Bool
shown_after shown agent steps.RecvSnp = slice_set shown agent.0 false
shown_after shown agent other = shown

-- the action is enabled, and is done by the protocol, with this effect; the slice is what the action leaves of it
abbrev pub IsAct : SliceState → Action → Effect → SliceState → Type 0
IsAct s action effect s' = (action_refusal s action ≡ None) × SliceStep s action effect s' × (s' ≡ slice_after s action)

-- An agent's step is done with this effect, and sends the flits that were seen next, but for snoops. Which snoops in
-- flight were seen, and what is still to be seen, is given before it and after it.
pub record IsStepSeen (agent : Agent) (step : Step) (effect : Effect) (s : SliceState) (shown : List Bool) (seen : List Observed) (s' : SliceState) (shown' : List Bool) (seen' : List Observed) : Type 0 where
  pub done : IsAct s (line_action agent step) effect s'
  pub answers : MayTake shown agent step
  pub taken : shown' ≡ shown_after shown agent step
  pub sent : seen ≡ sent_between (line s 0) (line s' 0) ++ seen'

-- the first that was seen is this snoop to the agent, if there is one
abbrev pub IsSnoopSeen : Agent → Option Snoop → List Observed → List Observed → Type 0
IsSnoopSeen agent None seen seen' = ⊥
IsSnoopSeen agent (Some snoop) seen seen' = seen ≡ seen_of.Flit (record { agent = agent; message = messages.Snp snoop }) ∷ seen'

-- a snoop to the agent that is in flight, and wasn't seen before, is the flit that was seen next
pub record IsSnoopShown (agent : Agent) (s : SliceState) (shown : List Bool) (seen : List Observed) (shown' : List Bool) (seen' : List Observed) : Type 0 where
  pub snoop : IsSnoopSeen agent (cells_of (line s 0) agent.0).snp seen seen'
  pub first : is_shown shown agent ≡ false
  pub now : shown' ≡ slice_set shown agent.0 true

-- an item of an explanation; a load or a store that was seen is done, and a load reads the value that was seen
abbrev pub Explains : WitnessItem → SliceState → List Bool → List Observed → SliceState → List Bool → List Observed → Type 0
Explains (Act agent step) s shown seen s' shown' seen' = (effect : Effect) × IsStepSeen agent step effect s shown seen s' shown' seen'
Explains (Shown agent) s shown seen s' shown' seen' = IsSnoopShown agent s shown seen shown' seen' × (s' ≡ s)
Explains (Load agent word value) s shown seen s' shown' seen' =
    IsStepSeen agent (steps.Load word) (Value value) s shown seen s' shown' (seen_of.Load agent word value ∷ seen')
Explains (Store agent word value) s shown seen s' shown' seen' =
    (effect : Effect) × IsStepSeen agent (steps.Store word value) effect s shown seen s' shown' (seen_of.Store agent word value ∷ seen')

-- the items in their order explain all that was seen
abbrev pub Explained : SliceState → List Bool → List WitnessItem → List Observed → Type 0
Explained s shown [] seen = seen ≡ []
Explained s shown (item ∷ items) seen =
    (s' : SliceState) × (shown' : List Bool) × (seen' : List Observed)
    × Explains item s shown seen s' shown' seen' × Explained s' shown' items seen'

-- why so many items explain nothing: one of them is told, or how much is left of what was seen, which is something
abbrev pub IsUnexplainedBy : ℕ → Unexplained → Type 0
IsUnexplainedBy count (causes.Refused at refusal) = at < count
IsUnexplainedBy count (causes.Differs at) = at < count
IsUnexplainedBy count (causes.Left left) = 0 < left
IsUnexplainedBy count causes.NoMemory = Unit {0}
IsUnexplainedBy count causes.NoRoom = Unit {0}
IsUnexplainedBy count causes.Unlisted = Unit {0}

-- where all stores are listed no other step is a store
abbrev pub is_listed : StoreListing → WitnessItem → Bool
is_listed Complete (Act agent (steps.Store word value)) = false
is_listed stores item = true

-- a line in a node of this size whose memory had these words at first: the items explain all that was seen
abbrev pub IsExplained : Sizes → StoreListing → List ℕ → List WitnessItem → List Observed → Type 0
IsExplained config stores memory items seen =
    (s : SliceState) × (s.config ≡ config) × IsOpenAt memory s × Explained s (replicate 8 false) items seen
    × All (λ item. is_listed stores item ≡ true) items
