-- The statuses and the texts of a refused command line (docs/FORMATS.md, "The program").
use Rattle.std.specs.Prelude.{ℕ, List, codes}
use Rattle.clap.specs.declared.error.kind.ErrorKind.{ErrorKind}
use Rattle.clap.specs.declared.error.kind.ErrorKind.TheVariants as kinds
use Rattle.chi_program.specs.declared.faults.ArgFault.{ArgFault}
use Rattle.chi_program.specs.declared.faults.ArgFault.TheVariants.{Bad, NoMemory}

abbrev pub argument_fault_status : ArgFault → ℕ
argument_fault_status Bad = 4
argument_fault_status NoMemory = 3

abbrev pub argument_fault_text : ArgFault → List ℕ
argument_fault_text Bad = codes "chihome: bad arguments"
argument_fault_text NoMemory = codes "chihome: out of memory"

-- why the words were refused: every cause but want of memory is bad arguments
abbrev pub fault_at : ErrorKind → ArgFault
fault_at kinds.OutOfMemory = NoMemory
fault_at _ = Bad
