-- Of the code alone, no public promise cites it: what the second pass finds (docs/FORMATS.md, "Drawn files").
use Rattle.std.specs.Prelude.{◌≡◌, ℕ, ◌==◌, ◌||◌, Bool, true, false, List, [], ◌∷◌, Option, Some, None}
use Rattle.std.specs.Io.KnownBytes.{Appends, Keeps}
use Rattle.chi_script.specs.Devices.{AppendsFront}
use Rattle.chi_script.specs.declared.faults.Fault.{Fault}
use Rattle.chi_script.specs.declared.faults.Fault.TheVariants as faults
use Rattle.chi_flit.specs.Config.{Sizes}
use Rattle.chi_script.specs.Headers.{line_header}
use Rattle.chi_stimulus.specs.declared.options.DrawOptions.{DrawOptions}
use Rattle.chi_stimulus.specs.Stimulus.{IsStimulus}

-- an answer that begins with o, as no refusal does
abbrev pub is_plain : List ℕ → Bool
is_plain [] = false
is_plain (byte ∷ bytes) = byte == 111

-- an answer is wanted, and it begins as no refusal does, unless the command may be any
abbrev pub is_told : Bool → Option (List ℕ) → Bool
is_told wild None = false
is_told wild (Some answer) = wild || is_plain answer

-- what is found of a text: it is as it should be, for each line that says these sizes
abbrev pub IsDrawn : Sizes → DrawOptions → List ℕ → Type 0
IsDrawn header options file = (line : List ℕ) → line_header line ≡ Some header → IsStimulus line options file

-- the line says these sizes
abbrev pub SaysSizes : List ℕ → Sizes → Type 0
SaysSizes line header = line_header line ≡ Some header

-- one such file was written for the line, if it says these sizes, or nothing
abbrev pub WritesDrawn : List ℕ → Sizes → DrawOptions → Option (List ℕ) → Option (List ℕ) → Bool → Type 0
WritesDrawn line header options old new true = (file : List ℕ) × (SaysSizes line header → IsStimulus line options file) × Appends old new file
WritesDrawn line header options old new false = Keeps old new

-- a beginning of one such file was written
abbrev pub WritesDrawnFront : List ℕ → Sizes → DrawOptions → Option (List ℕ) → Option (List ℕ) → Type 0
WritesDrawnFront line header options old new = (file : List ℕ) × (SaysSizes line header → IsStimulus line options file) × AppendsFront old new file

-- a fault of a second pass, and of writing
abbrev pub IsOutputFault : Fault → Type 0
IsOutputFault faults.NoMemory = Unit {0}
IsOutputFault faults.Write = Unit {0}
IsOutputFault faults.TooLarge = ⊥
IsOutputFault (faults.BadHeader number) = ⊥
IsOutputFault (faults.BadCommand number) = ⊥
IsOutputFault (faults.MissingNewline number) = ⊥
IsOutputFault faults.Read = ⊥

-- the same, or the file that is drawn for the header is too large
abbrev pub IsDrawFault : List ℕ → Sizes → DrawOptions → Fault → Type 0
IsDrawFault line header options faults.NoMemory = Unit {0}
IsDrawFault line header options faults.Write = Unit {0}
IsDrawFault line header options faults.TooLarge = Unit {0}
IsDrawFault line header options (faults.BadHeader number) = ⊥
IsDrawFault line header options (faults.BadCommand number) = ⊥
IsDrawFault line header options (faults.MissingNewline number) = ⊥
IsDrawFault line header options faults.Read = ⊥

-- a fault of reading the header
abbrev pub NoHeader : List ℕ → Fault → Type 0
NoHeader line (faults.BadHeader number) = (line_header line ≡ None) × (number ≡ 1)
NoHeader line faults.NoMemory = Unit {0}
NoHeader line faults.TooLarge = ⊥
NoHeader line faults.Write = ⊥
NoHeader line (faults.BadCommand number) = ⊥
NoHeader line (faults.MissingNewline number) = ⊥
NoHeader line faults.Read = ⊥
