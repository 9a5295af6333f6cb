-- Coherence of a line's plain data (Arm IHI 0050 B, 4.1; docs/PROTOCOL.md, "Coherence").
use Rattle.std.specs.Prelude.{◌≡◌, ◌≢◌, ◌↔◌, ℕ, ◌<◌, List, [], length, Bool, true, false, IsTrue}
use Rattle.std.specs.List.{slice_index_or}
use Rattle.chi_flit.specs.declared.state.State.{State}
use Rattle.chi_flit.specs.declared.state.State.TheVariants.{I, SD}
use Rattle.chi_flit.specs.State.{is_unique, is_valid}
use Rattle.chi_wires.specs.declared.cells.Cells.{Cells}
use Rattle.chi_wires.specs.Cell.{no_flits}
use Rattle.chi_line.specs.declared.view.CopyView.{CopyView}
use Rattle.chi_line.specs.declared.view.LineView.{LineView}
use Rattle.chi_line.specs.Clean.{IsCleanAgent}
use Rattle.chi_line.specs.Coherence.{Coherent}
use Rattle.chi_line.specs.Meaning.{standing_of}
use Rattle.chi_line.specs.LineState.{LineState}
use Rattle.chi_line.specs.View.{line_view}

abbrev pub no_copy : CopyView
no_copy = record { state = I; words = [] }

-- an agent's copy, its place in the filter, and what is in flight for it
abbrev pub copy_of : LineView → ℕ → CopyView
copy_of view n = slice_index_or view.copies n no_copy

abbrev pub view_flits : LineView → ℕ → Cells
view_flits view n = slice_index_or view.flits n no_flits

-- beside a unique copy another agent has none, and two agents aren't both SD
pub record MayStandBeside (state other : State) : Type 0 where
  pub unique_alone : is_unique state ≡ true → other ≡ I
  pub one_owner : state ≡ SD → other ≢ SD

-- an agent that has a copy is named, and its copy is what was last stored
abbrev pub IsBacked : State → Bool → List ℕ → List ℕ → Type 0
IsBacked state named words last = is_valid state ≡ true → (named ≡ true) × (words ≡ last)

-- of eight agents' copies, that of one and those of the others
abbrev pub state_in : List State → ℕ → State
state_in states n = slice_index_or states n I

abbrev pub MayOthersStand : List State → ℕ → Type 0
MayOthersStand states n = (m : ℕ) → m < 8 → m ≢ n → MayStandBeside (state_in states n) (state_in states m)

abbrev pub MayStandTogether : List State → Type 0
MayStandTogether states = (n : ℕ) → n < 8 → MayOthersStand states n

-- each copy of a line is backed, memory is what was last stored where all is clean, and the copies may stand
-- together
pub record IsPassed (backed clean : Bool) (memory last : List ℕ) (states : List State) : Type 0 where
  pub all_backed : backed ≡ true
  pub memory_last : clean ≡ true → memory ≡ last
  pub together : MayStandTogether states

-- an agent that has a copy is named, its copy is what was last stored, and others may stand beside it
pub record IsAgentCoherent (view : LineView) (n : ℕ) : Type 0 where
  pub named : is_valid (copy_of view n).state ≡ true → slice_index_or view.named n false ≡ true
  pub valid_data : is_valid (copy_of view n).state ≡ true → (copy_of view n).words ≡ view.last
  pub others : (m : ℕ) → m < 8 → m ≢ n → MayStandBeside (copy_of view n).state (copy_of view m).state

-- no copy is UD or SD, and no _PD form is in flight
abbrev pub IsQuiet : LineView → Type 0
IsQuiet view = (n : ℕ) → n < 8 → IsCleanAgent (copy_of view n).state (view_flits view n).dat_up

pub record IsCoherentView (view : LineView) : Type 0 where
  pub agents : (n : ℕ) → n < 8 → IsAgentCoherent view n
  -- then memory is what was last stored
  pub memory : IsQuiet view → view.memory ≡ view.last

-- a verdict on plain data is one on each line that shows it
abbrev pub IsVerdictOnShown : LineView → Bool → Type 0
IsVerdictOnShown view verdict =
    (s : LineState) (last : List ℕ) → length s.requesters ≡ 8 → length s.flits ≡ 8 → view ≡ line_view s last
    → IsTrue verdict ↔ Coherent last (standing_of s)
