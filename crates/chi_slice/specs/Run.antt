-- A run of actions, each tried in turn (docs/PROTOCOL.md, "The actions").
use Rattle.std.specs.Prelude.{◌≡◌, ◌≢◌, ℕ, ◌+◌, List, [], ◌∷◌, Option, Some, None}
use Rattle.chi_flit.specs.declared.action.Action.{Action}
use Rattle.chi_flit.specs.declared.action.Effect.{Effect}
use Rattle.chi_flit.specs.declared.refusal.Refusal.{Refusal}
use Rattle.chi_line.specs.Meaning.{standing_of}
use Rattle.chi_slice.specs.Protocol.{SliceStep, refused, room_for}
use Rattle.chi_slice.specs.Slice.{OtherLinesStay, SliceState, is_in_range, line}

-- an action that is done takes its line by its row, with this effect, adds the record of a load or store to the
-- journal, and changes nothing else
pub record IsDone (old : SliceState) (action : Action) (effect : Effect) (new : SliceState) : Type 0 where
  pub step : SliceStep old action effect new
  pub others : OtherLinesStay old new action.line.0
  pub config : new.config ≡ old.config
  pub index : new.index ≡ old.index

-- an action that is tried is done where nothing refuses it, and changes nothing elsewhere
abbrev pub IsTried : Option Refusal → SliceState → Action → SliceState → Type 0
IsTried None old action new = (effect : Effect) × IsDone old action effect new
IsTried (Some refusal) old action new = new ≡ old

-- how many actions are done, of one
abbrev pub done_if : Option Refusal → ℕ
done_if None = 1
done_if (Some refusal) = 0

-- each action is tried on what the one before it leaves, and so many are done
abbrev pub IsRun : SliceState → List Action → ℕ → SliceState → Type 0
IsRun old [] done new = (done ≡ 0) × (new ≡ old)
IsRun old (action ∷ actions) done new =
    (between : SliceState) × (rest : ℕ) × IsTried (refused old action) old action between
    × IsRun between actions rest new × (done ≡ done_if (refused old action) + rest)

-- the journal is full, and the slot that an action names is in use, in both slices or in neither
abbrev pub IsSameRoom : SliceState → SliceState → Action → Type 0
IsSameRoom s t action = room_for t action.agent action.step ≡ room_for s action.agent action.step

-- two slices are alike for an action: its numbers are in their ranges in both or in neither, and its line, the
-- profile and the room for it are the same
pub record AreAlike (s t : SliceState) (action : Action) : Type 0 where
  pub range : is_in_range t action ≡ is_in_range s action
  pub line : standing_of (line t action.line.0) ≡ standing_of (line s action.line.0)
  pub profile : t.config.profile ≡ s.config.profile
  pub room : IsSameRoom s t action

-- none of the actions is on the line of this one
abbrev pub AreElsewhere : List Action → Action → Type 0
AreElsewhere [] action = Unit {0}
AreElsewhere (other ∷ others) action = (action.line.0 ≢ other.line.0) × AreElsewhere others action
