-- The actions of an agent at a line that a slice wouldn't refuse (docs/LIBRARY.md, "A slice").
use Rattle.std.specs.Prelude.{ℕ, List, [], ◌∷◌, Bool, map}
use Rattle.std.specs.List.{filter}
use Rattle.std.specs.Option.{is_none}
use Rattle.chi_flit.specs.Numbers.{agent_at, line_at, word_at}
use Rattle.chi_flit.specs.declared.action.Action.{Action}
use Rattle.chi_flit.specs.declared.action.Step.{Step}
use Rattle.chi_flit.specs.declared.action.Step.TheVariants.{Load, Store, Drop, Issue, Admit, Retry, RecvRetry, Resend, Cancel, Start, RecvSnp, RecvSnpResp, RecvData, RecvComp, RecvAck, RecvDbid, RecvWrData}
use Rattle.chi_flit.specs.declared.kind.Kind.TheVariants.{ReadNotSharedDirty, ReadShared, ReadUnique, CleanUnique, Evict, WriteBackFull, WriteCleanFull, WriteEvictFull}
use Rattle.chi_flit.specs.declared.numbers.Agent.{Agent}
use Rattle.chi_flit.specs.declared.numbers.Line.{Line}
use Rattle.chi_flit.specs.declared.numbers.Slot.{Slot}
use Rattle.chi_slice.specs.Idle.{lowest_idle}
use Rattle.chi_slice.specs.Slice.{SliceState, action_refusal, flits_refusal}
use Rattle.chi_library.specs.declared.actions.ChiAction.{ChiAction}
use Rattle.chi_library.specs.Actions.{action_told}
use Rattle.chi_library.specs.Calls.{told_unless}

-- each step once: a load and a store of word 0, and an issue of each kind into one slot
abbrev pub all_steps : Slot → List Step
all_steps slot =
    Load (word_at 0) ∷ Store (word_at 0) 0 ∷ Drop ∷ Issue ReadNotSharedDirty slot ∷ Issue ReadShared slot ∷ Issue ReadUnique slot
    ∷ Issue CleanUnique slot ∷ Issue Evict slot ∷ Issue WriteBackFull slot ∷ Issue WriteCleanFull slot ∷ Issue WriteEvictFull slot
    ∷ Admit ∷ Retry ∷ RecvRetry ∷ Resend ∷ Cancel ∷ Start ∷ RecvSnp ∷ RecvSnpResp ∷ RecvData ∷ RecvComp ∷ RecvAck ∷ RecvDbid ∷ RecvWrData ∷ []

abbrev pub candidate_action : Agent → Line → Step → Action
candidate_action agent l step = record { agent = agent; line = l; step = step }

abbrev pub is_unrefused : SliceState → Action → Bool
is_unrefused s action = is_none (action_refusal s action)

-- those of these steps that aren't refused
abbrev pub enabled_of : SliceState → Agent → Line → List Step → List Action
enabled_of s agent l steps = filter (is_unrefused s) (map (candidate_action agent l) steps)

-- those of all steps, where an Issue names the agent's lowest slot that is free in the slice
abbrev pub enabled_actions : SliceState → Agent → Line → List Action
enabled_actions s agent l = enabled_of s agent l (all_steps (lowest_idle s agent.0))

abbrev pub enabled_told : ℕ → ℕ → SliceState → List ChiAction
enabled_told n l s = told_unless (flits_refusal s n l) [] (map action_told (enabled_actions s (agent_at n) (line_at l)))
