-- Lines that were played have no fault, and the first fault of others is told.
use Rattle.chi_script.specs.Files.{commands_of, lines_of}
use Rattle.chi_replay.proofs.Lines.{first_told, none_told}
use Rattle.chi_replay.proofs.replays.text_of_lines.Goals as goal

pub returns-in-Ok-clause-faulty : goal.returns-in-Ok-clause-faulty
returns-in-Ok-clause-faulty g c = none_told c.args.config.now c.args.lines.now _ c.in-Ok.text c.in-Ok.ensures.ok

pub returns-in-Err-clause-faulty : goal.returns-in-Err-clause-faulty
returns-in-Err-clause-faulty g c = first_told (commands_of 2 (lines_of c.args.lines.now)) c.first_fault.result c.first_fault.ensures.first
