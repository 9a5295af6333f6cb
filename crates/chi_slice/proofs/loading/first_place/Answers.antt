-- One line after the other is looked at.
use Rattle.std.proofs.Common.{sym, ◌∙◌, arith}
use Rattle.chi_slice.specs.Loading.{lines_alone}
use Rattle.chi_slice.proofs.Loadings.{all_hidden, hidden_more, when_none}
use Rattle.chi_slice.proofs.loading.first_place.Goals as goal

pub loop-line-init : goal.loop-line-init
loop-line-init c = λ k low. absurd (omega (arith, low))

pub loop-line-preserved : goal.loop-line-preserved
loop-line-preserved c = hidden_more (lines_alone c.args.config.now c.args.index c.args.lines.now) c.args.agent.0 c.args.slot c.loop-line.line c.loop-line.invariant (when_none c.place_at-place.result _ (sym c.is_some.ensures ∙ c.if-is_some.false) c.place_at-place.ensures.none)

pub returns-clause-none : goal.returns-clause-none
returns-clause-none c = all_hidden (lines_alone c.args.config.now c.args.index c.args.lines.now) c.args.agent.0 c.args.slot c.loop-line.line (omega (arith, c.loop-line-test.false, c.loop-line.auto.line-end, c.lines-count.ensures.value)) c.loop-line.invariant
