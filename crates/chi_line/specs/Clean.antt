-- Of the representation: which lines are clean, and coherence of a line's parts, which is `Coherent` of the line
-- (Arm IHI 0050 B, 4.1; docs/PROTOCOL.md, "Coherence"); last are the values last stored to its words.
use Rattle.std.specs.Prelude.{◌≡◌, ◌≢◌, ℕ, ◌<◌, List, Bool, true, false, Option, Some}
use Rattle.chi_flit.specs.declared.state.State.{State}
use Rattle.chi_flit.specs.declared.state.State.TheVariants.{I, SD}
use Rattle.chi_flit.specs.declared.message.DatUp.{DatUp}
use Rattle.chi_flit.specs.declared.message.DatUp.TheVariants.{SnpRespDataIPD, SnpRespDataSCPD, CopyBackWrData}
use Rattle.chi_flit.specs.State.{is_valid, is_unique, is_dirty}
use Rattle.chi_filter.specs.Filter.{is_named}
use Rattle.chi_line.specs.LineState.{LineState, rn_of, cells_of}

-- the _PD forms of data on its way to the home (docs/PROTOCOL.md, "Messages"): they pass the responsibility
-- for dirty data
abbrev pub passes_dirty : Option DatUp → Bool
passes_dirty (Some (SnpRespDataIPD words)) = true
passes_dirty (Some (SnpRespDataSCPD words)) = true
passes_dirty (Some (CopyBackWrData form words)) = is_dirty form
passes_dirty other = false

-- an agent's copy isn't UD or SD, and no _PD form of its own is in flight
pub record IsCleanAgent (state : State) (sent : Option DatUp) : Type 0 where
  pub copy : is_dirty state ≡ false
  pub on_its_way : passes_dirty sent ≡ false

-- no copy is UD or SD, and no _PD form is in flight
abbrev pub IsClean : LineState → Type 0
IsClean s = (n : ℕ) → n < 8 → IsCleanAgent (rn_of s n).state (cells_of s n).dat_up

pub record CoherentParts (last : List ℕ) (s : LineState) : Type 0 where
  -- where a copy is UC or UD, every other copy is I
  pub unique_holder : (n m : ℕ) → n < 8 → m < 8 → m ≢ n → is_unique (rn_of s n).state ≡ true → (rn_of s m).state ≡ I
  -- the agent of each copy that isn't I is named
  pub named : (n : ℕ) → n < 8 → is_valid (rn_of s n).state ≡ true → is_named s.home.filter n ≡ true
  -- the data of each copy that isn't I is what was last stored
  pub valid_data : (n : ℕ) → n < 8 → is_valid (rn_of s n).state ≡ true → (rn_of s n).words ≡ last
  -- where no copy is UD or SD, and no _PD form is in flight, memory is what was last stored
  pub memory : IsClean s → s.home.memory ≡ last
  -- at most one copy is SD
  pub one_owner : (n m : ℕ) → n < 8 → m < 8 → (rn_of s n).state ≡ SD → (rn_of s m).state ≡ SD → n ≡ m
