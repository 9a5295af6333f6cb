-- The verdict on a storm, and what is counted (docs/FORMATS.md, "The output of a storm").
use Rattle.std.specs.Prelude.{◌≡◌, ◌↔◌, ℕ, ◌+◌, List, [], ◌∷◌, All, map, Bool, IsTrue, true, false, Option, Some, None, length, ⊤}
use Rattle.std.specs.List.{count_by}
use Rattle.chi_slice.specs.Words.{Sizes}
use Rattle.chi_node.specs.Words.{Counts, Credits, IsClosed, longest, views_of}
use Rattle.chi_slice.specs.Audits.{loads_in, stores_in}
use Rattle.chi_slice.specs.Coherence.{IsCoherentSlice}
use Rattle.chi_node.specs.Node.{IsSliceOf, NodeState, owners_of}
use Rattle.chi_storm.specs.declared.outcome.Outcome.{Outcome}
use Rattle.chi_audit.specs.declared.reports.Report.{Report}
use Rattle.chi_agent.specs.Ended.{requester_of}
use Rattle.chi_agent.specs.declared.ended.AgentResult.{AgentResult}
use Rattle.chi_slice.specs.Slice.{SliceState}
use Rattle.chi_node.specs.Agree.{Agree}
use Rattle.chi_node.specs.Requester.{RequesterState}

-- the report was kept, and says that the script finished
abbrev pub is_finished : Option Report → Bool
is_finished (Some report) = report.finished
is_finished None = false

-- how many of them
abbrev pub finished_in : List (Option Report) → ℕ
finished_in reports = count_by is_finished reports

-- no agent met refusal 11
abbrev pub AreAllOpen : List AgentResult → Type 0
AreAllOpen results = All (λ left. left.not_open ≡ false) results

-- a slice is the one of line i in a node of that size, which is that of index i where there are more than i slices,
-- and each requester agrees with it
pub record AgreesAt (config : Sizes) (requesters : List RequesterState) (index : ℕ) (s : SliceState) : Type 0 where
  pub own : IsSliceOf config index s
  pub agree : All (Agree s) requesters

-- so each of these slices, the first being that of this index, and the others those behind it
abbrev pub AgreeFrom : Sizes → List RequesterState → ℕ → List SliceState → Type 0
AgreeFrom config requesters first [] = ⊤
AgreeFrom config requesters first (s ∷ ss) = AgreesAt config requesters first s × AgreeFrom config requesters (first + 1) ss

-- a slice was looked at, and this is whether it is so
abbrev pub SeenAt : Sizes → List RequesterState → ℕ → Bool → Type 0
SeenAt config requesters index found = (s : SliceState) × (IsTrue found ↔ AgreesAt config requesters index s)

-- the slices of the indices below n were looked at, each while its lock was held, and this is whether each is so
pub record SeenToAgree (n : ℕ) (config : Sizes) (requesters : List RequesterState) (found : Bool) : Type 0 where
  pub slices : List SliceState
  pub count : length slices ≡ n
  pub agree : IsTrue found ↔ AgreeFrom config requesters 0 slices

-- the slices are coherent, each requester agrees with each, and no agent met refusal 11
pub record IsGood (slices : List SliceState) (agree all_open : Bool) : Type 0 where
  pub coherent : All IsCoherentSlice slices
  pub agreed : agree ≡ true
  pub opened : all_open ≡ true

-- the outcome of these slices and of what the words held, where the flags say whether the requesters agree, and
-- whether no agent met refusal 11: its counts and its verdict are theirs
pub record IsOutcomeOf (config : Sizes) (slices : List SliceState) (counts : Counts) (agree all_open : Bool) (reports : List (Option Report)) (o : Outcome) : Type 0 where
  pub agents : o.agents ≡ config.agents
  pub finished : o.finished ≡ finished_in reports
  pub loads : o.loads ≡ loads_in slices
  pub stores : o.stores ≡ stores_in slices
  pub holdings : o.holdings ≡ record { counts = counts; profile = config.profile }
  pub verdict : IsTrue o.coherent ↔ IsGood slices agree all_open

-- what came of a storm: one flag is what was seen of slices that were locked once more, the other what the agents
-- met; `slices`, as many as the node has, and what the words held are those of the closed node, as far as a clause
-- can know them: of what locks hold none tells
pub record IsOutcome (n : NodeState) (results : List AgentResult) (reports : List (Option Report)) (o : Outcome) : Type 0 where
  pub slices : List SliceState
  pub counts : Counts
  pub credits : List Credits
  pub agree : Bool
  pub all_open : Bool
  pub seen : SeenToAgree n.config.slices n.config (map requester_of results) agree
  pub opened : IsTrue all_open ↔ AreAllOpen results
  pub count : length slices ≡ n.config.slices
  pub closed : IsClosed n.tracker.shape (views_of (owners_of (map requester_of results))) (longest (owners_of (map requester_of results))) counts credits
  pub outcome : IsOutcomeOf n.config slices counts agree all_open reports o
