-- What was found of the checks is what was found of the file.
use Rattle.std.proofs.Common.{map}
use Rattle.chi_script.specs.Checks.{line_of_check}
use Rattle.chi_replay.proofs.Reported.{of_file}
use Rattle.chi_replay.proofs.checks.compare_file.Goals as goal

pub returns-in-Ok-clause-ok : goal.returns-in-Ok-clause-ok
returns-in-Ok-clause-ok g c = of_file c.args.bytes.now c.args.front.now _ c.in_ok-script.script.header (map line_of_check c.in_ok-script.script.checks.items) _ _ c.in_ok-script.ensures c.in-Ok.ensures
