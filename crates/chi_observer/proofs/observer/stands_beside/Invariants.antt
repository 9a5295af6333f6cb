-- So far each goes with it.
use Rattle.std.proofs.Common.{◌≡◌}
use Rattle.std.specs.Prelude.{◌&&◌, ◌||◌, ◌==◌, not}
use Rattle.chi_observer.specs.Copies.{compatible, same}
use Rattle.chi_observer.specs.Copies.Copy.{Invalid}
use Rattle.chi_observer.specs.Tables.{strongest}
use Rattle.chi_observer.specs.Worlds.{all_below}
use Rattle.chi_observer.specs.Lines.{agent_of}
use Rattle.chi_observer.proofs.observer.stands_beside.Given as goal

abbrev pub invariant-loop-n : goal.invariant-loop-n
invariant-loop-n l = l.beside ≡ all_below l.n (λ m. m == l.agent || (compatible (strongest l.told) (strongest (agent_of l.agents m).told) && (not l.alone || same (strongest (agent_of l.agents m).told) Invalid)))
