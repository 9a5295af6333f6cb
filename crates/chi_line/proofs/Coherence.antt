-- A line that keeps what a line keeps is coherent.
use Rattle.std.proofs.Common.{◌≡◌, ℕ, ◌<◌, List, Bool, true, false, Option, Some, None, arith, refl, ap}
use Rattle.chi_flit.specs.declared.state.State.{State}
use Rattle.chi_flit.specs.declared.state.State.TheVariants.{I, SD}
use Rattle.chi_flit.specs.State.{is_valid, is_unique}
use Rattle.chi_filter.specs.Filter.{is_named, owned_by}
use Rattle.chi_flit.specs.declared.numbers.Agent.{Agent}
use Rattle.chi_homeline.specs.declared.serving.Serving.{Serving}
use Rattle.chi_line.specs.LineState.{LineState, rn_of}
use Rattle.chi_line.specs.Kept.{Lane, LaneKept, Kept, lane}
use Rattle.chi_line.specs.Clean.{CoherentParts}

none_unless : (state : State) → (is_valid state ≡ true → ⊥) → state ≡ I
none_unless I none = refl
none_unless state none = absurd (none refl)

pub unique_valid : (state : State) → is_unique state ≡ true → is_valid state ≡ true
unique_valid state unique = search arith

-- beside the owner, a copy is SD only where the flag is set
shared_dirty_flagged : (serving : Serving) (unique : Bool) (owner : Option Agent) (last : List ℕ) (n : ℕ) (x : Lane)
    → x.rn.state ≡ SD → owned_by owner n ≡ false → LaneKept serving unique owner last n x → unique ≡ true
shared_dirty_flagged serving unique owner last n x dirty other k = search (arith, k)

-- two copies SD: each agent is the owner, or the flag is set
one_owned : (owner : Option Agent) (n m : ℕ) → owned_by owner n ≡ true → owned_by owner m ≡ true → n ≡ m
one_owned None n m here there = absurd cc
one_owned (Some agent) n m here there = grind arith

owner_cases : (b c unique : Bool) (P : Type 0) → (b ≡ true → c ≡ true → P) → (b ≡ false → unique ≡ true) → (c ≡ false → unique ≡ true) → (unique ≡ true → P) → P
owner_cases true true unique P both first second flagged = both refl refl
owner_cases true false unique P both first second flagged = flagged (second refl)
owner_cases false c unique P both first second flagged = flagged (first refl)

pub coherent : (last : List ℕ) (s : LineState) → Kept last s → CoherentParts last s
coherent last s k =
    let flag_of : (n : ℕ) → n < 8 → (rn_of s n).state ≡ SD → owned_by s.home.filter.owner n ≡ false → s.home.filter.unique ≡ true =
    λ n low dirty other. shared_dirty_flagged s.home.serving s.home.filter.unique s.home.filter.owner last n (lane s n) dirty other (k.lanes n low) in
    let named_by : (n : ℕ) → n < 8 → (rn_of s n).state ≡ SD → is_named s.home.filter n ≡ true =
    λ n low dirty. (k.lanes n low).holder_named (ap is_valid dirty) in
    record {
      unique_holder = λ n m low at apart unique. none_unless (rn_of s m).state (λ valid.
          apart (k.flag_means_one ((k.lanes n low).unique_flagged unique) m n at low
          ((k.lanes m at).holder_named valid) ((k.lanes n low).holder_named (unique_valid (rn_of s n).state unique))));
      named = λ n low valid. (k.lanes n low).holder_named valid;
      valid_data = λ n low valid. (k.lanes n low).holder_last valid;
      memory = k.memory_last;
      one_owner = λ n m low at here there.
          owner_cases (owned_by s.home.filter.owner n) (owned_by s.home.filter.owner m) s.home.filter.unique (n ≡ m)
          (one_owned s.home.filter.owner n m) (flag_of n low here) (flag_of m at there)
          (λ flagged. k.flag_means_one flagged n m low at (named_by n low here) (named_by m at there));
    }
