-- One byte more than a file may have is enough of it.
use Rattle.std.proofs.Common.{◌≡◌, ℕ, ◌+◌, List, Option, Some, None, Result, Ok, Err, IfOk, IfErr, IfSome, sym, ◌∙◌, ap, take}
use Rattle.chi_script.specs.declared.faults.Fault.{Fault}
use Rattle.chi_script.specs.declared.faults.Fault.TheVariants.{NoMemory, BadHeader, BadCommand, MissingNewline, TooLarge, Read, Write}
use Rattle.chi_script.specs.Faults.{Fails}
use Rattle.chi_script.specs.Files.{file_of}
use Rattle.chi_script.specs.CheckFiles.{most_check_bytes}
use Rattle.chi_script.proofs.FileLemmas.{front_enough}
use Rattle.chi_replay.specs.Replays.{IsTextOf, NoText}

-- the text of what was read is that of the input's file
pub text_of_known : {T : Type 0} (left : Option (List ℕ)) (bytes : List ℕ) (bytes_of : T → List ℕ) (result : Result T Fault) → IfSome left (λ file. bytes ≡ take 1048577 file)
    → IfOk result (λ text. IsTextOf bytes (bytes_of text)) → IfOk result (λ text. IfSome left (λ file. IsTextOf file (bytes_of text)))
text_of_known None bytes bytes_of (Ok text) front ok = tt
text_of_known (Some file) bytes bytes_of (Ok text) front ok = record { header = ok.header; commands = ok.commands; good = sym (front_enough file) ∙ (sym (ap file_of front) ∙ ok.good); text = ok.text }
text_of_known left bytes bytes_of (Err fault) front ok = ok

-- a file is read as its front is
abbrev pub IsEnough : {F : Type 0} → ℕ → (List ℕ → Result F Fault) → Type 0
IsEnough most read = (file : List ℕ) → read (take most file) ≡ read file

known : {F : Type 0} (most : ℕ) (read : List ℕ → Result F Fault) → IsEnough most read → (left : Option (List ℕ)) (bytes : List ℕ) (fault : Fault) → IfSome left (λ file. bytes ≡ take most file) → read bytes ≡ Err fault → IfSome left (λ file. read file ≡ Err fault)
known most read enough None bytes fault front h = tt
known most read enough (Some file) bytes fault front h = sym (enough file) ∙ (sym (ap read front) ∙ h)

-- and so is its fault
no_text : {F : Type 0} (most : ℕ) (read : List ℕ → Result F Fault) → IsEnough most read → (left : Option (List ℕ)) (before after : ℕ) (bytes : List ℕ) (fault : Fault) → IfSome left (λ file. bytes ≡ take most file) → Fails fault (read bytes) → NoText read left before after fault
no_text most read enough left before after bytes NoMemory front h = tt
no_text most read enough left before after bytes (BadHeader line) front h = known most read enough left bytes (BadHeader line) front h
no_text most read enough left before after bytes (BadCommand line) front h = known most read enough left bytes (BadCommand line) front h
no_text most read enough left before after bytes (MissingNewline line) front h = known most read enough left bytes (MissingNewline line) front h
no_text most read enough left before after bytes TooLarge front h = known most read enough left bytes TooLarge front h
no_text most read enough left before after bytes Read front h = absurd h
no_text most read enough left before after bytes Write front h = absurd h

fault_of_front : {T F : Type 0} (most : ℕ) (read : List ℕ → Result F Fault) → IsEnough most read → (left : Option (List ℕ)) (before after : ℕ) (bytes : List ℕ) (result : Result T Fault) → IfSome left (λ file. bytes ≡ take most file)
    → IfErr result (λ fault. Fails fault (read bytes)) → IfErr result (NoText read left before after)
fault_of_front most read enough left before after bytes (Ok text) front err = err
fault_of_front most read enough left before after bytes (Err fault) front err = no_text most read enough left before after bytes fault front err

-- the same of a replay file or a storm file
pub fault_of_known : {T F : Type 0} (read : List ℕ → Result F Fault) → IsEnough 1048577 read → (left : Option (List ℕ)) (before after : ℕ) (bytes : List ℕ) (result : Result T Fault) → IfSome left (λ file. bytes ≡ take 1048577 file)
    → IfErr result (λ fault. Fails fault (read bytes)) → IfErr result (NoText read left before after)
fault_of_known read enough left before after bytes result front err = fault_of_front 1048577 read enough left before after bytes result front err

-- and of a check file
pub fault_of_check : {T F : Type 0} (read : List ℕ → Result F Fault) → IsEnough (1 + most_check_bytes) read → (left : Option (List ℕ)) (before after : ℕ) (bytes : List ℕ) (result : Result T Fault) → IfSome left (λ file. bytes ≡ take (1 + most_check_bytes) file)
    → IfErr result (λ fault. Fails fault (read bytes)) → IfErr result (NoText read left before after)
fault_of_check read enough left before after bytes result front err = fault_of_front (1 + most_check_bytes) read enough left before after bytes result front err
