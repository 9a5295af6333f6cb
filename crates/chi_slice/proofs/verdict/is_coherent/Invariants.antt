-- So far each agent was looked at.
use Rattle.chi_slice.proofs.Verdicts.{Walked, agents_in}
use Rattle.chi_slice.proofs.verdict.is_coherent.Given as goal

abbrev pub invariant-loop-agent : goal.invariant-loop-agent
invariant-loop-agent l = Walked (agents_in l.view) l.view.last l.states l.backed l.clean l.agent
