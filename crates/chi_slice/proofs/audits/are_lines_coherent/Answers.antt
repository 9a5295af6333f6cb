-- One line after the other is tested.
use Rattle.std.proofs.Common.{◌≡◌, ◌∙◌, ap, arith, rules}
use Rattle.chi_slice.specs.Coherence.{IsLineCoherent}
use Rattle.chi_flit.specs.Config.{Sizes}
use Rattle.chi_slice.proofs.Below.{next_below, none_below}
use Rattle.chi_slice.proofs.Lines.{all_lines}
use Rattle.chi_slice.proofs.audits.are_lines_coherent.Goals as goal

pub loop-line-init : goal.loop-line-init
loop-line-init g c = none_below (IsLineCoherent c.args.slice.now)

pub loop-line-preserved : goal.loop-line-preserved
loop-line-preserved g c = next_below (IsLineCoherent c.args.slice.now) c.loop-line.line c.loop-line.coherent c.is_coherent_if_there-coherent.result _ c.loop-line.invariant c.is_coherent_if_there-coherent.ensures (search rules)

pub returns : goal.returns
returns g c =
    let lines : c.lines-lines.result ≡ c.args.slice.now.config.lines = c.lines-lines.ensures.value ∙ ap (λ (k : Sizes). k.lines) c.config.ensures in
    all_lines c.args.slice.now c.loop-line.line c.loop-line.coherent (omega (arith, c.loop-line-test.false, c.loop-line.auto.line-end, lines)) c.loop-line.invariant
