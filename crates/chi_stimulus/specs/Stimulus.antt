-- What a drawn file is, and what is written (docs/FORMATS.md, "Drawn files").
use Rattle.std.specs.Prelude.{◌≡◌, ◌≢◌, ℕ, ◌≤◌, All, Bool, true, false, List, Option, Some, None, length, map}
use Rattle.std.specs.Io.KnownBytes.{Appends, Keeps}
use Rattle.chi_flit.specs.declared.refusal.Refusal.{Refusal}
use Rattle.chi_replay.specs.Replies.{refused_text}
use Rattle.chi_script.specs.declared.faults.Fault.{Fault}
use Rattle.chi_script.specs.declared.faults.Fault.TheVariants as faults
use Rattle.chi_flit.specs.Config.{Sizes}
use Rattle.chi_script.specs.Checks.{CheckLine}
use Rattle.chi_script.specs.Headers.{line_header}
use Rattle.chi_script.specs.Devices.{AppendsFront}
use Rattle.chi_replay.specs.Checks.{IsAnswered}
use Rattle.chi_stimulus.specs.declared.options.DrawOptions.{DrawOptions}

-- an answer that tells no refusal
abbrev pub IsNoRefusal : List ℕ → Type 0
IsNoRefusal answer = (refusal : Refusal) → answer ≢ refused_text refusal

-- as many commands as were asked for; behind them there may be those that bring the node to rest, if they are asked for
pub record HasCommands (options : DrawOptions) (count : ℕ) : Type 0 where
  pub all : options.commands ≤ count
  pub others : options.drain ≡ false → count ≡ options.commands

-- A good check file of the sizes that the line says. Its commands give just the answers that stand behind them, on
-- a new node of that size and where the tracker answers so; and where none may be any command, none of them is
-- refused.
pub record IsStimulus (line : List ℕ) (options : DrawOptions) (file : List ℕ) : Type 0 where
  pub checks : List CheckLine
  pub answers : List (List ℕ)
  pub answered : IsAnswered file checks answers
  pub sizes : line_header line ≡ Some answered.header
  pub told : map (λ check. check.wanted) checks ≡ map Some answers
  pub count : HasCommands options (length checks)
  pub enabled : options.wild ≡ 0 → All IsNoRefusal answers

-- one such file was written, no more; or, where it is told that none was, nothing
abbrev pub WritesStimulus : List ℕ → DrawOptions → Option (List ℕ) → Option (List ℕ) → Bool → Type 0
WritesStimulus line options old new true = (file : List ℕ) × IsStimulus line options file × Appends old new file
WritesStimulus line options old new false = Keeps old new

-- a beginning of one such file was written
abbrev pub WritesStimulusFront : List ℕ → DrawOptions → Option (List ℕ) → Option (List ℕ) → Type 0
WritesStimulusFront line options old new = (file : List ℕ) × IsStimulus line options file × AppendsFront old new file

-- why no file was written: the line is no header; memory ran out; the line is a header, and the file would be larger than
-- a check file may be; or the output failed
abbrev pub NoStimulus : List ℕ → DrawOptions → Fault → Type 0
NoStimulus line options (faults.BadHeader number) = (line_header line ≡ None) × (number ≡ 1)
NoStimulus line options faults.NoMemory = Unit {0}
NoStimulus line options faults.TooLarge = (header : Sizes) × (line_header line ≡ Some header)
NoStimulus line options faults.Write = Unit {0}
NoStimulus line options (faults.BadCommand number) = ⊥
NoStimulus line options (faults.MissingNewline number) = ⊥
NoStimulus line options faults.Read = ⊥
