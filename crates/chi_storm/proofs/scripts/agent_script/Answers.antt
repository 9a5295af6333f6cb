-- There is room for each of the agent's operations.
use Rattle.std.proofs.Common.{◌<◌, ◌∙◌, length, sym, ap, arith}
use Rattle.chi_storm.proofs.Filtered.{has_room}
use Rattle.chi_storm.proofs.scripts.agent_script.Goals as goal

pub push_reserved-requires : goal.push_reserved-requires
push_reserved-requires g c =
    let deeds = c.args.deeds.now in
    let n = c.loop-deed.deed-index in
    let low : n < length deeds = omega arith in
    let room = has_room c.args.agent.0 n deeds _ low (sym c.is_of.ensures ∙ c.if-is_of.true) in
    omega (arith, room, ap length c.loop-deed.invariant.0, c.loop-deed.invariant.1, c.loop-deed.script.ok.0)
