use Rattle.std.proofs.Common.{length}
use Rattle.chi_tracker.proofs.Gathering.{IsGathering}
use Rattle.chi_tracker.proofs.closing.gather.Given as goal

abbrev pub invariant-loop-port : goal.invariant-loop-port
invariant-loop-port l = IsGathering l.board.table_id l.fn.ports.items l.ports.items l.port_seat l.dues

abbrev pub decreases-loop-port : goal.decreases-loop-port
decreases-loop-port l = length l.ports.items
