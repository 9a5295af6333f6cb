use Rattle.std.proofs.Common.{◌≡◌, take, map}
use Rattle.chi_agent.specs.Operations.{unissued_operation}
use Rattle.chi_agent.proofs.operations.Operations.new.Given as goal

abbrev pub invariant-loop-place : goal.invariant-loop-place
invariant-loop-place g l = l.window.items ≡ map unissued_operation (take l.place l.script.items)
