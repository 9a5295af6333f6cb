-- A text of two lines and more has a line end.
use Rattle.std.proofs.Common.{ap, length, arith}
use Rattle.chi_replay.proofs.reports.next_answer.Goals as goal

pub unreachable-requires : goal.unreachable-requires
unreachable-requires c = absurd (omega (arith, ap length c.in-None.ensures.none))
