-- Faults, their statuses and their texts (docs/FORMATS.md, "The program").
use Rattle.std.specs.Prelude.{◌≡◌, ℕ, ◌<◌, List, ◌++◌, length, codes, Result, Ok, Err}
use Rattle.std.specs.Fmt.{decimal}
use Rattle.chi_script.specs.declared.faults.Fault.{Fault}
use Rattle.chi_script.specs.declared.faults.Fault.TheVariants as faults

abbrev pub status_of : Fault → ℕ
status_of faults.NoMemory = 3
status_of (faults.BadHeader line) = 1
status_of (faults.BadCommand line) = 1
status_of (faults.MissingNewline line) = 1
status_of faults.TooLarge = 1
status_of faults.Read = 1
status_of faults.Write = 1

-- the line on standard error, without its line end
abbrev pub fault_text : Fault → List ℕ
fault_text faults.NoMemory = codes "chihome: out of memory"
fault_text (faults.BadHeader line) = codes "chihome: line " ++ (decimal line ++ codes ": bad header")
fault_text (faults.BadCommand line) = codes "chihome: line " ++ (decimal line ++ codes ": bad command")
fault_text (faults.MissingNewline line) = codes "chihome: line " ++ (decimal line ++ codes ": missing newline")
fault_text faults.TooLarge = codes "chihome: file too large"
fault_text faults.Read = codes "chihome: cannot read"
fault_text faults.Write = codes "chihome: cannot write"

-- A fault that reading answers is the one that the grammar names, but for want of memory. It is none of
-- a device.
abbrev pub Fails : {Y : Type 0} → Fault → Result Y Fault → Type 0
Fails faults.NoMemory read = Unit {0}
Fails (faults.BadHeader line) read = read ≡ Err (faults.BadHeader line)
Fails (faults.BadCommand line) read = read ≡ Err (faults.BadCommand line)
Fails (faults.MissingNewline line) read = read ≡ Err (faults.MissingNewline line)
Fails faults.TooLarge read = read ≡ Err faults.TooLarge
Fails faults.Read read = ⊥
Fails faults.Write read = ⊥

-- What a function returned, seen by view, is what the grammar reads, unless memory ran out.
abbrev pub Gives : {X Y : Type 0} → (X → Y) → Result X Fault → Result Y Fault → Type 0
Gives view (Ok x) read = read ≡ Ok (view x)
Gives view (Err fault) read = Fails fault read

-- What a function that takes no memory returned, seen by view, is what the grammar reads, and nothing else.
abbrev pub Reads : {X Y : Type 0} → (X → Y) → Result X Fault → Result Y Fault → Type 0
Reads view (Ok x) read = read ≡ Ok (view x)
Reads view (Err fault) read = read ≡ Err fault

-- a file of more bytes than there may be is told as that
abbrev pub TellsTooLarge : {X : Type 0} → ℕ → List ℕ → Result X Fault → Type 0
TellsTooLarge most file result = most < length file → result ≡ Err faults.TooLarge
