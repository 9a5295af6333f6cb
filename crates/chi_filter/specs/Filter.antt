-- The snoop filter: a set of named agents, the flag of a lone holder, and the owner
-- (Arm IHI 0050 B, chapter 4; docs/PROTOCOL.md, "The filter"). A set of agents is a list of eight marks.
use Rattle.std.specs.Prelude.{◌≡◌, ℕ, ◌<◌, List, Bool, true, false, ◌&&◌, ◌==◌, Option, Some, None, slice_set}
use Rattle.std.specs.Prelude.{replicate, if◌then◌else◌}
use Rattle.std.specs.List.{list_any, slice_index_or}
use Rattle.chi_flit.specs.declared.numbers.Agent.{Agent}

pub record FilterState : Type 0 where
  pub named : List Bool
  pub unique : Bool
  pub owner : Option Agent

-- the filter of these parts
abbrev pub filter_of_parts : List Bool → Bool → Option Agent → FilterState
filter_of_parts named unique owner = record { named = named; unique = unique; owner = owner }

-- the empty set
abbrev pub nobody : List Bool
nobody = replicate 8 false

-- the set of one agent
abbrev pub only_set : ℕ → List Bool
only_set n = slice_set nobody n true

-- whether an agent is in a set
abbrev pub is_in : List Bool → ℕ → Bool
is_in set n = slice_index_or set n false

-- whether anybody is in a set
abbrev pub has_any : List Bool → Bool
has_any set = list_any (λ b. b) set

-- a set without an agent
abbrev pub others_than : ℕ → List Bool → List Bool
others_than n set = slice_set set n false

abbrev pub is_named : FilterState → ℕ → Bool
is_named f n = is_in f.named n

-- whether the agent is the owner
abbrev pub owned_by : Option Agent → ℕ → Bool
owned_by None n = false
owned_by (Some a) n = a.0 == n

-- the owner as a set
abbrev pub owner_set : Option Agent → List Bool
owner_set None = nobody
owner_set (Some a) = only_set a.0

-- the owner where the agent may not be it any more
abbrev pub owner_without : Option Agent → ℕ → Option Agent
owner_without owner n = if owned_by owner n then None else owner

abbrev pub empty_filter : FilterState
empty_filter = record { named = nobody; unique = false; owner = None }

-- the agent named too: the flag stays only for an agent that was named already
abbrev pub filter_with : FilterState → ℕ → FilterState
filter_with f n = record { named = slice_set f.named n true; unique = f.unique && is_named f n; owner = f.owner }

-- the agent named no more, and no owner: the flag ends with its only member
abbrev pub filter_without : FilterState → ℕ → FilterState
filter_without f n = record { named = others_than n f.named; unique = f.unique && has_any (others_than n f.named); owner = owner_without f.owner n }

-- the agent alone, with the flag and without an owner
abbrev pub only_named : ℕ → FilterState
only_named n = record { named = only_set n; unique = true; owner = None }

-- the flag cleared
abbrev pub filter_without_flag : FilterState → FilterState
filter_without_flag f = record f { unique = false }

-- the agent the owner, in place of any other, where it is named
abbrev pub owner_made : FilterState → Agent → FilterState
owner_made f agent = record f { owner = if is_named f agent.0 then Some agent else f.owner }

-- the agent no owner any more
abbrev pub owner_ended : FilterState → ℕ → FilterState
owner_ended f n = record f { owner = owner_without f.owner n }

-- what every filter keeps: the flag is set only where exactly one agent is named, and an owner is named
pub record IsFilter (f : FilterState) : Type 0 where
  -- where the flag is set, somebody is named
  pub flag_names_one : f.unique ≡ true → has_any f.named ≡ true
  -- and nobody else
  pub flag_names_no_other : f.unique ≡ true → (n m : ℕ) → n < 8 → m < 8 → is_named f n ≡ true → is_named f m ≡ true → n ≡ m
  -- the owner is one of the named
  pub owner_named : (n : ℕ) → owned_by f.owner n ≡ true → is_named f n ≡ true

-- what is tested of a filter's parts: whether one agent at most is in a set, and whether an owner is in it
abbrev pub IsAlone : List Bool → ℕ → ℕ → Type 0
IsAlone set n m = is_in set n ≡ true → is_in set m ≡ true → n ≡ m

abbrev pub AreApart : List Bool → ℕ → Type 0
AreApart set n = (m : ℕ) → m < 8 → IsAlone set n m

abbrev pub HasOneAtMost : List Bool → Type 0
HasOneAtMost set = (n : ℕ) → n < 8 → AreApart set n

abbrev pub IsOwnerIn : List Bool → Option Agent → Type 0
IsOwnerIn set owner = (n : ℕ) → owned_by owner n ≡ true → is_in set n ≡ true
