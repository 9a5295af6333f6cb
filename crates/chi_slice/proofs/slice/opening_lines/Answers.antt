-- One line more.
use Rattle.std.proofs.Common.{◌≡◌, ℕ, ◌+◌, List, [], ◌∷◌, ◌++◌, ◌∙◌, ap, arith, replicate}
use Rattle.std.proofs.lemmas.List.{replicate_more}
use Rattle.chi_line.specs.LineState.{LineState, opening_line}
use Rattle.chi_slice.proofs.slice.opening_lines.Goals as goal

one_more : (old new : List LineState) (n : ℕ) (line : LineState) → new ≡ old ++ (line ∷ []) → line ≡ opening_line → old ≡ replicate n opening_line → new ≡ replicate (n + 1) opening_line
one_more old new n line pushed opening before =
    pushed ∙ (ap (λ (lines : List LineState). lines ++ (line ∷ [])) before ∙ (ap (λ (l : LineState). replicate n opening_line ++ (l ∷ [])) opening ∙ replicate_more n opening_line))

pub loop-preserved : goal.loop-preserved
loop-preserved g c = one_more c.loop.lines.items c.push.new.self.items c.loop.counter c.new.result c.in_ok-push.ensures.items c.new.ensures.opening c.loop.invariant

pub loop-smaller : goal.loop-smaller
loop-smaller g c = omega arith
