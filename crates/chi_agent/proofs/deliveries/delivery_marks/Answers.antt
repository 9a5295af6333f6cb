-- The marks are those of the flits and of the home at the turn's line.
use Rattle.std.proofs.Common.{rules, ◌≡◌, ◌∙◌, not, is_some, refl}
use Rattle.chi_agent.proofs.Enabled.{cons, marks_are, start_refused}
use Rattle.chi_agent.proofs.deliveries.delivery_marks.Goals as goal

pub returns : goal.returns
returns g c =
    let may : c.is_none.result ≡ not (is_some (start_refused c.args.here.now.slice.now c.args.here.now.agent.0 c.args.here.now.line)) = search (rules, c.args.here.now.home) in
    cons c.has_flit.ensures (cons c.has_flit-2.ensures (cons c.has_flit-3.ensures (cons c.has_flit-4.ensures (cons c.has_flit-5.ensures
    (cons c.has_flit-6.ensures (cons refl
    (cons c.has_flit-7.ensures (cons c.has_flit-8.ensures (cons c.has_flit-9.ensures refl)))))))))
    ∙ marks_are c.args.here.now.slice.now c.args.here.now.agent.0 c.args.here.now.line c.args.here.now.at.flits.now c.is_none.result c.args.here.now.inside c.args.here.now.flits may
