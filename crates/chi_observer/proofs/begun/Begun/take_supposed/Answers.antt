-- What is kept is what the observer is then.
use Rattle.std.proofs.Common.{ap, ◌∙◌}
use Rattle.chi_observer.specs.Lines.{Watched, watch}
use Rattle.chi_observer.specs.Begun.{begun, kept_by}
use Rattle.chi_observer.proofs.begun.Begun.take_supposed.Goals as goal

pub returns-clause-after : goal.returns-clause-after
returns-clause-after c =
    c.settle.ensures ∙ ap (kept_by c.args.at (begun c.args.self.now) c.args.flit) (c.in_ok-take.ensures.after ∙ ap (λ (z : Watched). watch z c.args.flit) c.supposed-next.ensures)
