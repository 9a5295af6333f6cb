-- What a device did with bytes and with its count of failures (docs/FORMATS.md, "The program").
use Rattle.std.specs.Prelude.{◌≡◌, ℕ, ◌+◌, List, Option, take, ◌⊎◌}
use Rattle.std.specs.Io.KnownBytes.{Appends}
use Rattle.std.specs.declared.io.ErrorKind.{ErrorKind}
use Rattle.std.specs.declared.io.ErrorKind.TheVariants as kinds
use Rattle.chi_script.specs.declared.faults.Fault.{Fault}
use Rattle.chi_script.specs.declared.faults.Fault.TheVariants.{NoMemory, BadHeader, BadCommand, MissingNewline, TooLarge, Read, Write}

-- the known bytes grow by a front of these
abbrev pub AppendsFront : Option (List ℕ) → Option (List ℕ) → List ℕ → Type 0
AppendsFront old new bytes = (n : ℕ) × Appends old new (take n bytes)

-- the fault with which reading an input ends: Read where a failure was counted, else want of memory
abbrev pub CountsFault : ℕ → ℕ → Fault → Type 0
CountsFault before after Read = after ≡ before + 1
CountsFault before after NoMemory = after ≡ before
CountsFault before after (BadHeader line) = ⊥
CountsFault before after (BadCommand line) = ⊥
CountsFault before after (MissingNewline line) = ⊥
CountsFault before after TooLarge = ⊥
CountsFault before after Write = ⊥

-- the fault where a file can't be opened: want of memory, and Read for every other cause
abbrev pub unopened_fault : ErrorKind → Fault
unopened_fault kinds.OutOfMemory = NoMemory
unopened_fault _ = Read

-- one of these faults
abbrev pub IsUnopened : Fault → Type 0
IsUnopened fault = (fault ≡ Read) ⊎ (fault ≡ NoMemory)
