-- What the check of several files tells (docs/FORMATS.md, "Check files").
use Rattle.std.specs.Prelude.{◌≡◌, ◌↔◌, ℕ, ◌+◌, ◌==◌, All, Bool, true, false, not, IsTrue, List, [], ◌∷◌, ◌++◌, Option, Some, None, Err, codes, length, map, option_map, if◌then◌else◌}
use Rattle.std.specs.Fmt.{decimal}
use Rattle.std.specs.List.{filter, flat_map}
use Rattle.chi_script.specs.declared.faults.Fault.{Fault}
use Rattle.chi_script.specs.declared.faults.Fault.TheVariants as faults
use Rattle.chi_script.specs.Checks.{CheckLine}
use Rattle.chi_script.specs.CheckFiles.{check_file_of}
use Rattle.chi_script.specs.Files.{IsOneLine}
use Rattle.chi_replay.specs.declared.suites.SuiteCounts.{SuiteCounts}
use Rattle.chi_replay.specs.declared.suites.SuiteFile.{SuiteFile}
use Rattle.chi_replay.specs.declared.suites.SuiteForm.{SuiteForm}
use Rattle.chi_replay.specs.declared.suites.SuiteForm.TheVariants.{Lines, Tap}
use Rattle.chi_replay.specs.Checks.{IsAnswered}
use Rattle.chi_replay.specs.Reports.{CheckedAnswer, check_summary, differing, differing_text, wanted_in}

-- a file that is given: its name, and its bytes where it could be read
pub record GivenFile : Type 0 where
  pub name : List ℕ
  pub bytes : Option (List ℕ)

abbrev pub given : List ℕ → Option (List ℕ) → GivenFile
given name bytes = record { name = name; bytes = bytes }

abbrev pub given_of : SuiteFile → GivenFile
given_of file = given file.name.now (option_map (λ bytes. bytes.now) file.bytes)

-- what comes of the check of a file: its checks with the answers of their commands, or its fault, and a hint, which is
-- what more is told of it
pub data SuiteResult : Type 0 where
  answered : List CheckLine → List (List ℕ) → SuiteResult
  faulty : Fault → List ℕ → SuiteResult

-- what may come of a file of these bytes: just what its check alone finds
abbrev pub MayCome : Option (List ℕ) → SuiteResult → Type 0
MayCome None (answered checks answers) = ⊥
MayCome None (faulty fault hint) = (fault ≡ faults.Read) × IsOneLine hint
MayCome (Some bytes) (answered checks answers) = IsAnswered bytes checks answers
MayCome (Some bytes) (faulty fault hint) = (check_file_of bytes ≡ Err fault) × IsOneLine hint

-- a file, and what came of it
pub record FileCheck : Type 0 where
  pub file : GivenFile
  pub came : SuiteResult

abbrev pub IsFileCheck : FileCheck → Type 0
IsFileCheck told = MayCome told.file.bytes told.came

-- the answers that are wanted in a file, and those that differ
abbrev pub wanted_answers : SuiteResult → List CheckLine
wanted_answers (answered checks answers) = wanted_in checks
wanted_answers (faulty fault hint) = []

abbrev pub differing_of : SuiteResult → List CheckedAnswer
differing_of (answered checks answers) = differing checks answers
differing_of (faulty fault hint) = []

abbrev pub is_answered : SuiteResult → Bool
is_answered (answered checks answers) = true
is_answered (faulty fault hint) = false

-- some answer of the file differs
abbrev pub has_differing : SuiteResult → Bool
has_differing came = not (length (differing_of came) == 0)

-- what is wrong, without the program's name
abbrev pub fault_words : Fault → List ℕ
fault_words faults.NoMemory = codes "out of memory"
fault_words (faults.BadHeader line) = codes "line " ++ (decimal line ++ codes ": bad header")
fault_words (faults.BadCommand line) = codes "line " ++ (decimal line ++ codes ": bad command")
fault_words (faults.MissingNewline line) = codes "line " ++ (decimal line ++ codes ": missing newline")
fault_words faults.TooLarge = codes "file too large"
fault_words faults.Read = codes "cannot read"
fault_words faults.Write = codes "cannot write"

-- the line on a faulty file, for standard error
abbrev pub faulty_line : List ℕ → Fault → List ℕ → List ℕ
faulty_line name fault hint = codes "chihome: " ++ (name ++ (codes ": " ++ (fault_words fault ++ (hint ++ (10 ∷ [])))))

abbrev pub fault_line : List ℕ → SuiteResult → List ℕ
fault_line name (answered checks answers) = []
fault_line name (faulty fault hint) = faulty_line name fault hint

-- a test point of TAP: its number and its name
abbrev pub test_point : Bool → ℕ → List ℕ → List ℕ
test_point true number name = codes "ok " ++ (decimal number ++ (codes " - " ++ (name ++ (10 ∷ []))))
test_point false number name = codes "not ok " ++ (decimal number ++ (codes " - " ++ (name ++ (10 ∷ []))))

-- the test point of a file, with what its check tells as diagnostics
abbrev pub found_point : ℕ → List ℕ → List ℕ → ℕ → ℕ → List ℕ
found_point number name lines wanted differ = test_point (differ == 0) number name ++ (lines ++ (codes "# " ++ check_summary wanted differ))

abbrev pub faulty_point : ℕ → List ℕ → Fault → List ℕ → List ℕ
faulty_point number name fault hint = test_point false number name ++ (codes "# " ++ (fault_words fault ++ (hint ++ (10 ∷ []))))

-- what stands before each line on an answer that differs
abbrev pub front_of : SuiteForm → List ℕ → List ℕ
front_of Lines name = name ++ codes ": "
front_of Tap name = codes "# "

-- what is told of a file in which so much was found
abbrev pub found_text : SuiteForm → ℕ → List ℕ → List ℕ → ℕ → ℕ → List ℕ
found_text Lines number name lines wanted differ = lines
found_text Tap number name lines wanted differ = found_point number name lines wanted differ

-- what is told of a faulty file
abbrev pub faulty_text : SuiteForm → ℕ → List ℕ → Fault → List ℕ → List ℕ
faulty_text Lines number name fault hint = []
faulty_text Tap number name fault hint = faulty_point number name fault hint

-- what is told of the file of this number and name
abbrev pub file_text : SuiteForm → ℕ → List ℕ → SuiteResult → List ℕ
file_text form number name (answered checks answers) =
    found_text form number name (differing_text (front_of form name) checks answers) (length (wanted_in checks)) (length (differing checks answers))
file_text form number name (faulty fault hint) = faulty_text form number name fault hint

-- the same of each of the files from this number on
abbrev pub files_text : SuiteForm → ℕ → List FileCheck → List ℕ
files_text form number [] = []
files_text form number (it ∷ rest) = file_text form number it.file.name it.came ++ files_text form (number + 1) rest

-- the first fault
abbrev pub fault_of : SuiteResult → Option Fault
fault_of (answered checks answers) = None
fault_of (faulty fault hint) = Some fault

abbrev pub first_of : Option Fault → Option Fault → Option Fault
first_of None later = later
first_of (Some fault) later = Some fault

abbrev pub first_fault : List FileCheck → Option Fault
first_fault [] = None
first_fault (it ∷ rest) = first_of (fault_of it.came) (first_fault rest)

-- the counts over all files: those that were checked, those of which an answer differs, the wanted answers, and those
-- that differ
abbrev pub counts_of : List FileCheck → SuiteCounts
counts_of told = record {
  files = length (filter (λ it. is_answered it.came) told);
  files_differ = length (filter (λ it. has_differing it.came) told);
  wanted = length (flat_map (λ it. wanted_answers it.came) told);
  differ = length (flat_map (λ it. differing_of it.came) told);
}

-- what stands before that: nothing, or the plan of TAP
abbrev pub suite_head : SuiteForm → ℕ → List ℕ
suite_head Lines count = []
suite_head Tap count = codes "TAP version 13" ++ (10 ∷ (codes "1.." ++ (decimal count ++ (10 ∷ []))))

-- the last line
abbrev pub suite_summary : SuiteCounts → List ℕ
suite_summary counts =
    if counts.differ == 0 then codes "checked " ++ (decimal counts.wanted ++ (codes " answers in " ++ (decimal counts.files ++ (codes " files" ++ (10 ∷ [])))))
    else decimal counts.differ ++ (codes " of " ++ (decimal counts.wanted ++ (codes " answers differ, in " ++ (decimal counts.files_differ ++ (codes " of " ++ (decimal counts.files ++ (codes " files" ++ (10 ∷ []))))))))

abbrev pub suite_end : SuiteForm → SuiteCounts → List ℕ
suite_end Lines counts = suite_summary counts
suite_end Tap counts = []

-- what was told of files, each in its turn and none left out: what is printed, the lines on faulty files, the first
-- fault, and whether all answers are the wanted ones
pub record IsSuiteReport (form : SuiteForm) (files : List GivenFile) (text faults : List ℕ) (fault : Option Fault) (hold : Bool) : Type 0 where
  pub told : List FileCheck
  pub in_turn : map (λ it. it.file) told ≡ files
  pub each : All IsFileCheck told
  pub printed : text ≡ suite_head form (length told) ++ (files_text form 1 told ++ suite_end form (counts_of told))
  pub lines : faults ≡ flat_map (λ it. fault_line it.file.name it.came) told
  pub first : fault ≡ first_fault told
  pub verdict : IsTrue hold ↔ (flat_map (λ it. differing_of it.came) told ≡ [])

-- what was told of the files so far
pub record SuiteState : Type 0 where
  pub text : List ℕ
  pub faults : List ℕ
  pub fault : Option Fault
  pub counts : SuiteCounts

abbrev pub no_counts : SuiteCounts
no_counts = record { files = 0; files_differ = 0; wanted = 0; differ = 0 }

-- the counts with those of one file more
abbrev pub new_counts : SuiteCounts → ℕ → ℕ → SuiteCounts
new_counts old wanted differ = record {
  files = old.files + 1;
  files_differ = old.files_differ + (if differ == 0 then 0 else 1);
  wanted = old.wanted + wanted;
  differ = old.differ + differ;
}

abbrev pub counts_with : SuiteCounts → SuiteResult → SuiteCounts
counts_with old (answered checks answers) = new_counts old (length (wanted_in checks)) (length (differing checks answers))
counts_with old (faulty fault hint) = old

-- one file more
abbrev pub state_with : SuiteForm → ℕ → List ℕ → SuiteState → SuiteResult → SuiteState
state_with form number name old came = record {
  text = old.text ++ file_text form number name came;
  faults = old.faults ++ fault_line name came;
  fault = first_of old.fault (fault_of came);
  counts = counts_with old.counts came;
}

-- the file of this number was checked, and what came of it was told behind the rest
abbrev pub SuiteGoesOn : SuiteForm → ℕ → GivenFile → SuiteState → SuiteState → Type 0
SuiteGoesOn form number file old new = (came : SuiteResult) × MayCome file.bytes came × (new ≡ state_with form number file.name old came)
