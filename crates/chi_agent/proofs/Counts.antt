-- How many agents a node may have.
use Rattle.std.proofs.Common.{◌≡◌, ◌<◌, ◌≤◌, true, arith}
use Rattle.chi_slice.specs.Words.{are_in_limits, Sizes}
use Rattle.chi_slice.proofs.Rows.{InLimits, in_limits}

pub some_agent : (config : Sizes) → are_in_limits config ≡ true → 0 < config.agents
some_agent config limits = let l : InLimits config = in_limits config limits in omega (arith, l.some_agent)

pub few_agents : (config : Sizes) → are_in_limits config ≡ true → config.agents ≤ 8
few_agents config limits = let l : InLimits config = in_limits config limits in l.agents
