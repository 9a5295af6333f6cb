-- How operations and storm files are written (docs/FORMATS.md, "Storm files"): apart from how they are
-- read.
use Rattle.std.specs.Prelude.{◌≡◌, ℕ, ◌^◌, ◌<◌, ◌≤◌, List, [], ◌∷◌, ◌++◌, length, map, codes, true}
use Rattle.std.specs.List.{All, join_with_byte}
use Rattle.std.specs.Fmt.{decimal}
use Rattle.chi_flit.specs.declared.operation.Task.{Task}
use Rattle.chi_flit.specs.declared.operation.Task.TheVariants.{Load, Share, Store, WriteBack, WriteClean, WriteEvict, Evict, Drop}
use Rattle.chi_flit.specs.Config.{Sizes}
use Rattle.chi_script.specs.Headers.{is_in_limits}
use Rattle.chi_script.specs.Spelling.{header_words}
use Rattle.chi_script.specs.declared.operations.AgentOperation.{AgentOperation}

-- the first word
abbrev pub verb_of : Task → List ℕ
verb_of (Load w) = codes "load"
verb_of (Share w) = codes "share"
verb_of (Store w v) = codes "store"
verb_of WriteBack = codes "writeback"
verb_of WriteClean = codes "writeclean"
verb_of WriteEvict = codes "writeevict"
verb_of Evict = codes "evict"
verb_of Drop = codes "drop"

-- the words behind the agent and the line
abbrev pub words_behind : Task → List (List ℕ)
words_behind (Load w) = decimal w.0 ∷ []
words_behind (Share w) = decimal w.0 ∷ []
words_behind (Store w v) = decimal w.0 ∷ decimal v ∷ []
words_behind _ = []

-- the words of an operation
abbrev pub operation_words : AgentOperation → List (List ℕ)
operation_words operation = verb_of operation.operation.task ∷ decimal operation.agent.0 ∷ decimal operation.operation.line.0 ∷ words_behind operation.operation.task

-- the numbers of a task that are within their ranges
abbrev pub IsTaskInRange : Task → Type 0
IsTaskInRange (Load w) = w.0 < 8
IsTaskInRange (Share w) = w.0 < 8
IsTaskInRange (Store w v) = (w.0 < 8) × (v < 2 ^ 64)
IsTaskInRange _ = Unit {0}

-- the header has the agent and the line, and the task's numbers are within their ranges
pub record IsInRange (header : Sizes) (operation : AgentOperation) : Type 0 where
  pub agent : operation.agent.0 < header.agents
  pub line : operation.operation.line.0 < header.lines
  pub task : IsTaskInRange operation.operation.task

-- the one line of an operation, with one space between two words
abbrev pub operation_line : AgentOperation → List ℕ
operation_line operation = join_with_byte 32 (operation_words operation)

-- a line that is this operation, within the header's ranges
abbrev pub IsOperationLine : Sizes → AgentOperation → List ℕ → Type 0
IsOperationLine header operation line = IsInRange header operation × (line ≡ operation_line operation)

-- lines, with a line end behind each
abbrev pub closed_lines : List (List ℕ) → List ℕ
closed_lines [] = []
closed_lines (line ∷ lines) = line ++ 10 ∷ closed_lines lines

-- the bytes of a header and operations
abbrev pub storm_text : Sizes → List AgentOperation → List ℕ
storm_text header operations = closed_lines (join_with_byte 32 (header_words header) ∷ map operation_line operations)

-- a file that is this header and these operations: within the limits, and each within the header's ranges
pub record IsStormFile (header : Sizes) (operations : List AgentOperation) (file : List ℕ) : Type 0 where
  pub limits : is_in_limits header ≡ true
  pub ranges : All (IsInRange header) operations
  pub size : length file ≤ 1048576
  pub text : file ≡ storm_text header operations
