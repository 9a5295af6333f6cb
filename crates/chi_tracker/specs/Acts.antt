-- The acts that a history lists (docs/PROTOCOL.md, "Steps of the tracker").
use Rattle.std.specs.Prelude.{ℕ, List, [], ◌∷◌, cond, ◌==◌}
use Rattle.chi_tracker.specs.declared.step.AtomicStep.{AtomicStep}

-- a step that the port of a requester did, and the word as the step found it
pub record Act : Type 0 where
  pub who : ℕ
  pub step : AtomicStep
  pub found : ℕ

-- what requester n did: each step with the word that it found
abbrev pub done_by : ℕ → List Act → List (AtomicStep × ℕ)
done_by n [] = []
done_by n (a ∷ acts) = cond (a.who == n) ((a.step, a.found) ∷ done_by n acts) (done_by n acts)
