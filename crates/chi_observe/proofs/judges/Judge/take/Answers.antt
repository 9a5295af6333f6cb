-- What comes of a flit where a trace begins in the middle is what comes of it there.
use Rattle.std.proofs.Common.{rules, ◌≡◌, ap, sym, ◌∙◌}
use Rattle.chi_observe.specs.Judges.{before_of, judged, line_judged, verdict}
use Rattle.chi_observe.proofs.judges.Judge.take.Goals as goal

pub returns-in-Begun-clause-verdict : goal.returns-in-Begun-clause-verdict
returns-in-Begun-clause-verdict g c =
    let here : c.deref_mut.result.now ≡ c.in-Begun.line.value = search (rules, c.deref_mut.ensures) in
    c.take-in-Begun.ensures.verdict
    ∙ (ap (λ line. verdict (before_of c.args.before.now) c.args.number (line_judged line) c.args.flit) here
    ∙ ap (λ judge. verdict (before_of c.args.before.now) c.args.number (judged judge) c.args.flit) (sym c.in-Begun.is))
