-- Each slot so far is in use.
use Rattle.std.proofs.Common.{◌≡◌, ℕ, ◌<◌, true}
use Rattle.chi_flit.specs.Numbers.{slot_at}
use Rattle.chi_slice.specs.Slice.{uses}
use Rattle.chi_slice.proofs.slice.Slice.lowest_idle.Given as goal

abbrev pub invariant-loop-number : goal.invariant-loop-number
invariant-loop-number g l = (k : ℕ) → k < l.number → uses l.self l.agent.0 (slot_at k) ≡ true
