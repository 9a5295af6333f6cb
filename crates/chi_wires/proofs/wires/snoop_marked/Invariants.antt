use Rattle.std.proofs.Common.{◌≡◌, take, length}
use Rattle.chi_wires.specs.Flits.{with_snoops}
use Rattle.chi_wires.proofs.wires.snoop_marked.Given as goal

abbrev pub invariant-loop-agent : goal.invariant-loop-agent
invariant-loop-agent l = (l.flits ≡ with_snoops (take l.agent l.agents) l.snoop l.initial.flits) × (length l.initial.flits ≡ 8) × (length l.agents ≡ 8)
