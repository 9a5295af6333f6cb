-- And nothing is due then.
use Rattle.std.proofs.Common.{ap, ◌∙◌}
use Rattle.std.specs.Prelude.{false}
use Rattle.chi_observer.specs.declared.kinds.Kind.TheVariants.{Evict}
use Rattle.chi_observer.specs.declared.flits.CacheFlit.{CacheFlit}
use Rattle.chi_observer.specs.Lines.{watched}
use Rattle.chi_observer.specs.Arrivals.{arrived, issued, request_of}
use Rattle.chi_observer.proofs.Received.{ended_as}
use Rattle.chi_observer.proofs.arrivals.Arrivals.evict.Goals as goal

pub returns-in-Ok-clause-outcome : goal.returns-in-Ok-clause-outcome
returns-in-Ok-clause-outcome c =
    let old = c.args.self.now in
    ended_as (arrived c.issue.new.self) (watched c.set_due.new.seen) (issued (arrived old) (watched c.args.seen) (request_of c.args.sent Evict) Evict c.args.earlier false) c.from-at.result c.args.sent.agent.0
    c.from-at.ensures c.set_due.ensures
    (c.in-Ok.ensures.outcome ∙ ap (λ (r : CacheFlit). issued (arrived old) (watched c.args.seen) r Evict c.args.earlier false) c.request_of-request.ensures)
