-- Coherence of a line as `Protocol` has it (Arm IHI 0050 B, 4.1; docs/PROTOCOL.md, "Coherence"); last are the values
-- last stored to its words.
use Rattle.std.specs.Prelude.{◌≡◌, ◌≢◌, ℕ, List, Bool, true, false}
use Rattle.std.specs.List.{Contains}
use Rattle.chi_flit.specs.State.{is_dirty, is_unique, is_valid}
use Rattle.chi_line.specs.Words.{Agent, I, SD, Flit, Msg, DatUp, SnpRespDataIPD, SnpRespDataSCPD, CopyBackWrData}
use Rattle.chi_line.specs.Protocol.{Standing}

-- the _PD forms ("Messages"): of write data those of dirty copies
abbrev pub is_pass_dirty : Msg → Bool
is_pass_dirty (DatUp (SnpRespDataIPD words)) = true
is_pass_dirty (DatUp (SnpRespDataSCPD words)) = true
is_pass_dirty (DatUp (CopyBackWrData form words)) = is_dirty form
is_pass_dirty other = false

-- no copy is UD or SD, and no _PD message is in flight
pub record IsQuietLine (s : Standing) : Type 0 where
  pub copies : (n : Agent) → is_dirty (s.copies n).state ≡ false
  pub flits : (flit : Flit) → Contains s.flits flit → is_pass_dirty flit.message ≡ false

pub record Coherent (last : List ℕ) (s : Standing) : Type 0 where
  -- where a copy is UC or UD, every other copy is I
  pub unique_holder : (n m : Agent) → m ≢ n → is_unique (s.copies n).state ≡ true → (s.copies m).state ≡ I
  -- the agent of each copy that isn't I is named
  pub named : (n : Agent) → is_valid (s.copies n).state ≡ true → s.named n ≡ true
  -- the data of each copy that isn't I is what was last stored
  pub valid_data : (n : Agent) → is_valid (s.copies n).state ≡ true → (s.copies n).words ≡ last
  -- where no copy is UD or SD, and no _PD message is in flight, memory is what was last stored
  pub memory : IsQuietLine s → s.memory ≡ last
  -- at most one copy is SD
  pub one_owner : (n m : Agent) → (s.copies n).state ≡ SD → (s.copies m).state ≡ SD → n ≡ m
