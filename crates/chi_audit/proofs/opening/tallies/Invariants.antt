use Rattle.std.proofs.Common.{◌≡◌, length, map}
use Rattle.std.specs.Prelude.{All}
use Rattle.chi_audit.specs.Numbers.{numbers}
use Rattle.chi_audit.specs.Tallies.{writer_agent, unread, IsFresh}
use Rattle.chi_audit.proofs.opening.tallies.Given as goal

abbrev pub invariant-loop-agent : goal.invariant-loop-agent
invariant-loop-agent l =
    (length l.cells.items ≡ l.agent)
    × All (IsFresh l.cells.items) l.writers.items
    × (map writer_agent l.writers.items ≡ numbers l.agent)
    × (l.readers.items ≡ map unread l.cells.items)
