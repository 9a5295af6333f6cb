-- The scripts that are left have told nothing.
use Rattle.chi_agent.specs.Script.{AreFresh}
use Rattle.chi_agent_tests.proofs.isolation.movers_of.Given as goal

abbrev pub invariant-loop-guest : goal.invariant-loop-guest
invariant-loop-guest g l =
    (goal.iterator-loop-guest g).can_next l.guest-iterator × (goal.iterator-loop-guest g).is_finite l.guest-iterator × AreFresh l.fn.tallies l.scripts.items
