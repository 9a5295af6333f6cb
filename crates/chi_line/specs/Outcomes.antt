-- What an action of an agent came to: its effect, the slot of the request that it moved, and where that is now
-- (docs/PROTOCOL.md, "The actions" and "Agreement").
use Rattle.std.specs.Prelude.{Option, None}
use Rattle.chi_flit.specs.declared.numbers.Slot.{Slot}
use Rattle.chi_flit.specs.declared.action.Effect.{Effect}
use Rattle.chi_flit.specs.declared.action.Effect.TheVariants.{Nothing}
use Rattle.chi_line.specs.declared.position.ActionOutcome.{ActionOutcome}
use Rattle.chi_line.specs.declared.position.Position.{Position}
use Rattle.chi_line.specs.declared.position.Position.TheVariants.{Closing}
use Rattle.chi_line.specs.Moves.{if_moved}
use Rattle.chi_line.specs.Step.{completed_slot}

-- no request was moved
abbrev pub outcome_without_move : Effect → ActionOutcome
outcome_without_move effect = record { effect = effect; slot = None; to = None }

-- a request is there now, or over
abbrev pub outcome_with_move : Option Slot → Option Position → ActionOutcome
outcome_with_move slot to = record { effect = Nothing; slot = slot; to = to }

-- the home is done with a request, and that is over
abbrev pub outcome_of_end : Effect → ActionOutcome
outcome_of_end effect = record { effect = effect; slot = completed_slot effect; to = None }

-- a start: an Evict is complete, and closing
abbrev pub outcome_of_start : Effect → ActionOutcome
outcome_of_start effect = record { effect = effect; slot = completed_slot effect; to = if_moved (completed_slot effect) Closing }
