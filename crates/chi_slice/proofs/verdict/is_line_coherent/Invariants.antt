-- So far each agent was looked at.
use Rattle.chi_slice.proofs.Verdicts.{Walked, agents_of}
use Rattle.chi_slice.proofs.verdict.is_line_coherent.Given as goal

abbrev pub invariant-loop-agent : goal.invariant-loop-agent
invariant-loop-agent l = Walked (agents_of l.line) l.last l.states l.backed l.clean l.agent
