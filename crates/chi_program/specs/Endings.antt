-- What may be open at the end of a trace, as a command line asks for it (docs/FORMATS.md, "The program").
use Rattle.std.specs.Prelude.{Bool, true, false}
use Rattle.chi_verdict.specs.declared.asked.Ending.{Ending}
use Rattle.chi_verdict.specs.declared.asked.Ending.TheVariants.{Any, Complete}

abbrev pub ending_asked : (complete : Bool) → Ending
ending_asked true = Complete
ending_asked false = Any
