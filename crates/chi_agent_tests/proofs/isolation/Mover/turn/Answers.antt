-- A node has a line.
use Rattle.std.proofs.Common.{◌≡◌, ◌<◌, arith}
use Rattle.chi_slice.proofs.Rows.{InLimits, in_limits}
use Rattle.chi_agent_tests.proofs.isolation.Mover.turn.Goals as goal

pub nonzero_rem-result : goal.nonzero_rem-result
nonzero_rem-result g c =
    let l : InLimits c.config.result.now = in_limits c.config.result.now c.lines.ensures.limits in
    omega (arith, c.from-lines.ensures, c.lines.ensures.value, l.some_line)
