-- What a replay writes, and what its faults say (docs/FORMATS.md, "Replay files" and "The program").
use Rattle.std.specs.Prelude.{◌≡◌, ◌≢◌, ℕ, ◌+◌, List, Option, Result, Ok, Err, IfErr, IfSome, IsErrOf, ◌⊎◌}
use Rattle.std.specs.Io.KnownBytes.{Appends, Keeps}
use Rattle.chi_slice.specs.Words.{Sizes}
use Rattle.chi_script.specs.declared.commands.Command.{Command}
use Rattle.chi_script.specs.declared.faults.Fault.{Fault}
use Rattle.chi_script.specs.declared.faults.Fault.TheVariants.{NoMemory, Read, Write}
use Rattle.chi_script.specs.Files.{file_of}
use Rattle.chi_script.specs.Devices.{AppendsFront}
use Rattle.chi_replay.specs.Texts.{IsText}

-- a good file, and the text of its commands under answers that the tracker may give
pub record IsTextOf (file bytes : List ℕ) : Type 0 where
  pub header : Sizes
  pub commands : List Command
  pub good : file_of file ≡ Ok (header, commands)
  pub text : IsText header commands bytes

-- of the file that the input has, where its bytes are known: one such text was written, no more
abbrev pub WritesText : Option (List ℕ) → Option (List ℕ) → Option (List ℕ) → Type 0
WritesText input old new = IfSome input (λ file. (text : List ℕ) × IsTextOf file text × Appends old new text)

-- of that file: a beginning of one such text was written
abbrev pub WritesFront : Option (List ℕ) → Option (List ℕ) → Option (List ℕ) → Type 0
WritesFront input old new = IfSome input (λ file. (text : List ℕ) × IsTextOf file text × AppendsFront old new text)

-- why there is no text: the input failed, and counted it; memory ran out; or the first fault of the file,
-- as it is read
abbrev pub NoText : {F : Type 0} → (List ℕ → Result F Fault) → Option (List ℕ) → ℕ → ℕ → Fault → Type 0
NoText read file before after Read = after ≡ before + 1
NoText read file before after NoMemory = Unit {0}
NoText read file before after Write = ⊥
NoText read file before after fault = IfSome file (λ bytes. read bytes ≡ Err fault)

-- where a run ended with a fault other than Write, this is why it has no text
abbrev pub NoTextAt : {F A : Type 0} → Result A Fault → (List ℕ → Result F Fault) → Option (List ℕ) → ℕ → ℕ → Type 0
NoTextAt result read file before after = IfErr result (λ fault. fault ≢ Write → NoText read file before after fault)

-- what holds where the writing of a text failed
abbrev pub AtWrite : {A : Type 0} → Result A Fault → Type 0 → Type 0
AtWrite result holds = IsErrOf result Write → holds

-- whatever fault is read is answered
abbrev pub TellsFault : {F A : Type 0} → Result F Fault → Result A Fault → Type 0
TellsFault read result = (fault : Fault) → read ≡ Err fault → result ≡ Err fault

-- the answer is this fault, unless reading failed or memory ran out first
abbrev pub Refuses : {A : Type 0} → Fault → Result A Fault → Type 0
Refuses fault result = (result ≡ Err fault) ⊎ ((result ≡ Err Read) ⊎ (result ≡ Err NoMemory))

-- where the file that the input has is faulty, its fault is answered
abbrev pub RefusesFault : {F A : Type 0} → (List ℕ → Result F Fault) → Option (List ℕ) → Result A Fault → Type 0
RefusesFault read input result = IfSome input (λ file. (fault : Fault) → read file ≡ Err fault → Refuses fault result)

-- where the file that the input has is faulty, nothing is written
abbrev pub KeepsAtFault : {F : Type 0} → (List ℕ → Result F Fault) → Option (List ℕ) → Option (List ℕ) → Option (List ℕ) → Type 0
KeepsAtFault read input old new = IfSome input (λ file. (fault : Fault) → read file ≡ Err fault → Keeps old new)
