-- The operations of a storm file: a table for each count of words, a line for each operation
-- (docs/FORMATS.md, "Storm files").
use Rattle.std.specs.Prelude.{ℕ, nat_lt, List, [], ◌∷◌, Option, Some, None, if◌then◌else◌, codes}
use Rattle.chi_flit.specs.declared.operation.Task.{Task}
use Rattle.chi_flit.specs.declared.operation.Task.TheVariants.{Load, Share, Store, WriteBack, WriteClean, WriteEvict, Evict, Drop}
use Rattle.chi_flit.specs.Config.{Sizes}
use Rattle.chi_flit.specs.Numbers.{agent_at, line_at, word_at}
use Rattle.chi_script.specs.Words.{◌>>=◌, is_text, number_of, words_of}
use Rattle.chi_script.specs.declared.operations.AgentOperation.{AgentOperation}

-- a number that is below the end of its range
abbrev pub number_below : ℕ → List ℕ → Option ℕ
number_below end word = number_of word >>= λ n. if nat_lt n end then Some n else None

-- the task of VERB N L
unfoldable pub task_of : List ℕ → Option Task
task_of verb =
    if is_text verb (codes "writeback") then Some WriteBack else (
    if is_text verb (codes "writeclean") then Some WriteClean else (
    if is_text verb (codes "writeevict") then Some WriteEvict else (
    if is_text verb (codes "evict") then Some Evict else (
    if is_text verb (codes "drop") then Some Drop else None))))

-- the task of VERB N L W; a line has eight words
abbrev pub task_with_word : List ℕ → List ℕ → Option Task
task_with_word verb word =
    if is_text verb (codes "load") then (number_below 8 word >>= λ w. Some (Load (word_at w))) else (
    if is_text verb (codes "share") then (number_below 8 word >>= λ w. Some (Share (word_at w))) else None)

-- the task of VERB N L W V
abbrev pub task_with_value : List ℕ → List ℕ → List ℕ → Option Task
task_with_value verb word value =
    if is_text verb (codes "store") then (number_below 8 word >>= λ w. number_of value >>= λ v. Some (Store (word_at w) v)) else None

-- a task of agent n on line l
abbrev pub operation_on : ℕ → ℕ → Task → AgentOperation
operation_on n l task = record { agent = agent_at n; operation = record { line = line_at l; task = task } }

-- the same for an agent and a line that the header has
abbrev pub operation_with : Sizes → List ℕ → List ℕ → Task → Option AgentOperation
operation_with header agent line task = number_below header.agents agent >>= λ n. number_below header.lines line >>= λ l. Some (operation_on n l task)

abbrev pub operation_of : Sizes → List (List ℕ) → Option AgentOperation
operation_of header (verb ∷ agent ∷ line ∷ []) = task_of verb >>= λ task. operation_with header agent line task
operation_of header (verb ∷ agent ∷ line ∷ word ∷ []) = task_with_word verb word >>= λ task. operation_with header agent line task
operation_of header (verb ∷ agent ∷ line ∷ word ∷ value ∷ []) = task_with_value verb word value >>= λ task. operation_with header agent line task
operation_of header _ = None

-- the operation that a line is
abbrev pub line_operation : Sizes → List ℕ → Option AgentOperation
line_operation header line = operation_of header (words_of line)
