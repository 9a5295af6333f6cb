-- So far the actions that were tried lead to the slice as it is, and what is left leads on.
use Rattle.chi_slice.proofs.Runs.{RunsOn}
use Rattle.chi_slice.proofs.slice.Slice.run.Given as goal

abbrev pub invariant-loop-action : goal.invariant-loop-action
invariant-loop-action g l = RunsOn l.fn.self l.actions l.self l.done l.action-index
