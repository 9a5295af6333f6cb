-- The unfinished operations of an agent's script, in its order (docs/FORMATS.md, "A turn").
use Rattle.std.specs.Prelude.{◌≡◌, ◌≢◌, ℕ, ◌<◌, ◌≤◌, ◌==◌, Bool, true, false, List, ◌++◌, map, length, take, drop, position, slice_index_or, Option, option_map}
use Rattle.chi_flit.specs.declared.operation.Operation.{Operation}
use Rattle.chi_flit.specs.declared.operation.Task.TheVariants.{Drop}
use Rattle.chi_agent.specs.declared.operations.Unfinished.{Unfinished}
use Rattle.chi_agent.specs.declared.operations.OperationPlace.{OperationPlace}

-- an operation of the script, before its request is issued
abbrev pub unissued_operation : Operation → Unfinished
unissued_operation operation = record { operation = operation; issued = false }

-- its request was issued
abbrev pub issued_operation : Unfinished → Unfinished
issued_operation one = record one { issued = true }

-- what stands past the end of a script
abbrev pub no_operation : Unfinished
no_operation = unissued_operation (record { line = record { 0 = 0 }; task = Drop })

-- the unfinished operation at a place
abbrev pub unfinished_at : List Unfinished → ℕ → Unfinished
unfinished_at ops p = slice_index_or ops p no_operation

-- the number of the line that it is on
abbrev pub line_of_operation : List Unfinished → ℕ → ℕ
line_of_operation ops p = (unfinished_at ops p).operation.line.0

-- an operation is on line l
abbrev pub is_on : ℕ → Unfinished → Bool
is_on l one = one.operation.line.0 == l

-- the window: the first eight operations that aren't finished
abbrev pub window : List Unfinished → List Unfinished
window ops = take 8 ops

-- the operation at place p is eligible, and on line l: it is in the window, and no earlier one is on its line
pub record IsEligible (ops : List Unfinished) (l p : ℕ) : Type 0 where
  pub in_window : p < 8
  pub there : p < length ops
  pub on_line : line_of_operation ops p ≡ l
  pub first : (earlier : ℕ) → earlier < p → line_of_operation ops earlier ≢ l

-- no operation of the window is on line l
abbrev pub IsNoneEligible : List Unfinished → ℕ → Type 0
IsNoneEligible ops l = (p : ℕ) → p < 8 → p < length ops → line_of_operation ops p ≢ l

-- the place of the eligible operation on line l: the first of the window that is on it
abbrev pub eligible_on : List Unfinished → ℕ → Option OperationPlace
eligible_on ops l = option_map (λ p. record { 0 = p }) (position (is_on l) (window ops))

-- the unfinished operations, where those from `next` on of the script stand behind the window
abbrev pub unfinished_of : List Unfinished → List Operation → ℕ → List Unfinished
unfinished_of window script next = window ++ map unissued_operation (drop next script)

-- the window has no more than eight, and fewer only where nothing stands behind it
pub record IsFilled (window : List Unfinished) (script : List Operation) (next : ℕ) : Type 0 where
  pub few : length window ≤ 8
  pub filled : length window < 8 → length script ≤ next
