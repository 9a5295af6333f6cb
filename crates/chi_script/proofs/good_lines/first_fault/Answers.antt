-- Lines that are all commands have no fault, and a fault that was found is the first.
use Rattle.std.proofs.Common.{◌∙◌, sym}
use Rattle.chi_script.specs.Files.{lines_of, commands_of}
use Rattle.chi_script.proofs.CommandLoop.{lines_told}
use Rattle.chi_script.proofs.FaultLemmas.{no_fault, same_fault}
use Rattle.chi_script.proofs.good_lines.first_fault.Goals as goal

pub returns-in-Ok-clause-first : goal.returns-in-Ok-clause-first
returns-in-Ok-clause-first c = λ fault e. absurd (no_fault c.in-Ok.ensures.ok.0 fault (sym c.in-Ok.ensures.ok.1 ∙ e))

pub returns-in-Err-clause-fails : goal.returns-in-Err-clause-fails
returns-in-Err-clause-fails c = lines_told 2 (lines_of c.args.lines.now) c.in-Err.fault c.in-Err.ensures.err

pub returns-in-Err-clause-first : goal.returns-in-Err-clause-first
returns-in-Err-clause-first c = λ fault e. same_fault c.in-Err.fault fault (commands_of 2 (lines_of c.args.lines.now)) c.in-Err.ensures.err e
