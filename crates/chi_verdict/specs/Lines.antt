-- What it is for the lines of a trace to be explained (docs/TRACES.md, "What is printed").
use Rattle.std.specs.Prelude.{◌≡◌, ◌+◌, ◌==◌, ◌<◌, ◌≤◌, ℕ, Bool, true, false, List, [], ◌∷◌, Option, Some, None, length, map, take}
use Rattle.std.specs.List.{All, count_by, filter, list_any, slice_get, slice_index_or, sum_by}
use Rattle.std.specs.List.Sorted.{IsPermutation}
use Rattle.chi_slice.specs.Words.{Sizes}
use Rattle.chi_explain.specs.declared.explanations.WitnessItem.{WitnessItem}
use Rattle.chi_explain.specs.declared.explanations.WitnessItem.TheVariants.{Snoop}
use Rattle.chi_explain.specs.declared.observed.Observed.{Observed}
use Rattle.chi_explain.specs.declared.observed.Observed.TheVariants.{Load}
use Rattle.chi_explain.specs.declared.observed.StoreListing.{StoreListing}
use Rattle.chi_explain.specs.Explained.{IsExplained}
use Rattle.chi_monitor.specs.declared.faults.LineFault.{LineFault}
use Rattle.chi_monitor.specs.Places.{IsUnexplainable, is_settled}
use Rattle.chi_resolution.specs.declared.lines.CacheLine.{CacheLine}
use Rattle.chi_resolution.specs.declared.lines.Resolved.{Resolved}
use Rattle.chi_verdict.specs.declared.lines.Obstacle.{Obstacle}
use Rattle.chi_verdict.specs.declared.lines.Obstacle.TheVariants.{NoMemory, Fault, Undone}
use Rattle.chi_verdict.specs.declared.lines.Placed.{Placed}

-- whether an item of a trace is of this cache line
abbrev pub is_on_line : CacheLine → Resolved → Bool
is_on_line line item = item.line.0 == line.0

-- the items of this cache line, in their order
abbrev pub items_of : CacheLine → List Resolved → List Resolved
items_of line items = filter (is_on_line line) items

-- what items say
abbrev pub said_by : List Resolved → List Observed
said_by items = map (λ item. item.flit) items

-- the item of a place, and items in an order of their places
abbrev pub any_item : CacheLine → Resolved
any_item line = record { at = 0; line = line; flit = Load (record { 0 = 0 }) (record { 0 = 0 }) 0 }

abbrev pub item_in : List Resolved → Placed → Resolved
item_in items placed = slice_index_or items placed.place (any_item placed.line)

abbrev pub in_order : List Resolved → List Placed → List Resolved
in_order items order = map (item_in items) order

-- another order, in which the items of each line stand as before
pub record IsReordered (items sorted : List Resolved) : Type 0 where
  pub moved : IsPermutation items sorted
  pub kept : (line : CacheLine) → items_of line sorted ≡ items_of line items

-- what explains the items of a line: what its memory had at first, and what was done
pub record LineExplanation : Type 0 where
  pub line : CacheLine
  pub memory : List ℕ
  pub witness : List WitnessItem

-- an action is done; that a snoop is seen is none
abbrev pub is_action : WitnessItem → Bool
is_action (Snoop agent) = false
is_action other = true

abbrev pub action_count : LineExplanation → ℕ
action_count one = count_by is_action one.witness

-- these items of one line are explained by so many actions
pub record AreItemsExplained (config : Sizes) (stores : StoreListing) (items : List Resolved) (actions : ℕ) : Type 0 where
  pub memory : List ℕ
  pub witness : List WitnessItem
  pub explained : IsExplained config stores memory witness (said_by items)
  pub counted : actions ≡ count_by is_action witness

-- it explains just these items of its line, of which there are some: its flits, loads and stores, in their order
pub record IsOneLineExplained (config : Sizes) (stores : StoreListing) (items : List Resolved) (one : LineExplanation) : Type 0 where
  pub some : 1 ≤ length items
  pub explained : IsExplained config stores one.memory one.witness (said_by items)

abbrev pub is_explained_by : List LineExplanation → Resolved → Bool
is_explained_by explanations item = list_any (λ one. is_on_line one.line item) explanations

-- no two are of one line
abbrev pub AreOfTheirOwnLines : List LineExplanation → Type 0
AreOfTheirOwnLines [] = Unit {0}
AreOfTheirOwnLines (one ∷ others) = All (λ other. other.line.0 < one.line.0) others × AreOfTheirOwnLines others

-- an item of this number in the trace
abbrev pub IsNumbered : ℕ → Option Resolved → Type 0
IsNumbered at None = ⊥
IsNumbered at (Some item) = item.at ≡ at

-- a fault of an item of a line; of a settled reason nothing explains the items of the line up to it
pub record IsLineFault (config : Sizes) (stores : StoreListing) (items : List Resolved) (at : ℕ) (cause : LineFault) : Type 0 where
  pub line : CacheLine
  pub place : ℕ
  pub item : IsNumbered at (slice_get (items_of line items) place)
  pub none : is_settled cause ≡ true → IsUnexplainable config stores (said_by (take (place + 1) (items_of line items)))

-- why a line isn't explained: a fault is one of its items'
abbrev pub IsObstacle : Sizes → StoreListing → List Resolved → Obstacle → Type 0
IsObstacle config stores items (Fault at cause) = IsLineFault config stores items at cause
IsObstacle config stores items NoMemory = Unit {0}
IsObstacle config stores items (Undone line) = Unit {0}

-- the items of each of so many cache lines are explained, by so many actions in all
pub record AreLinesExplained (config : Sizes) (stores : StoreListing) (items : List Resolved) (actions lines : ℕ) : Type 0 where
  pub explanations : List LineExplanation
  pub each : All (λ one. IsOneLineExplained config stores (items_of one.line items) one) explanations
  pub all : All (λ item. is_explained_by explanations item ≡ true) items
  pub once : AreOfTheirOwnLines explanations
  pub actions_are : actions ≡ sum_by action_count explanations
  pub lines_are : lines ≡ length explanations
