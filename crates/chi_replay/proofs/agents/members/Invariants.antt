use Rattle.std.proofs.Common.{◌≡◌, ◌≤◌, length}
use Rattle.std.specs.List.{filter, range_with_len}
use Rattle.arrayvec.specs.ArrayVec.{array_vec_len}
use Rattle.chi_slice.specs.Words.{is_in}
use Rattle.chi_replay.proofs.agents.members.Given as goal

-- the members among the agents so far, of which there are no more than agents
abbrev pub invariant-loop-agent : goal.invariant-loop-agent
invariant-loop-agent l = record {
  found : l.members.items ≡ filter (λ n. is_in l.marks n) (range_with_len 0 l.agent);
  room : array_vec_len l.members ≤ l.agent;
  eight : length l.marks ≡ 8;
}
