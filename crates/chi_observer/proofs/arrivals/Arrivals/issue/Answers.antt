-- What is set is what is kept then.
use Rattle.std.proofs.Common.{rules, ◌≡◌, sym, ap, ◌∙◌}
use Rattle.std.specs.Prelude.{true, false}
use Rattle.chi_observer.specs.Lines.{watched}
use Rattle.chi_observer.specs.Arrivals.{arrived, line_takes}
use Rattle.chi_observer.specs.Arrivals.Outcome.{Taken}
use Rattle.chi_observer.proofs.Received.{issued_as}
use Rattle.chi_observer.proofs.arrivals.Arrivals.issue.Goals as goal

pub returns-in-Ok-clause-outcome : goal.returns-in-Ok-clause-outcome
returns-in-Ok-clause-outcome c =
    let taken : true ≡ line_takes (watched c.args.seen) c.args.request c.args.kind c.args.earlier = search (rules, c.in-Ok) in
    let told : c.is_unlost_at.result ≡ false = search (rules, c.if-is_unlost_at) in
    ap Taken c.put.ensures
    ∙ issued_as (arrived c.args.self.now) (watched c.args.seen) c.args.request c.args.kind c.args.earlier c.args.delayed c.from-at.result c.issued.result (watched c.in-Ok.behind) c.timed_after-self.result c.leaves_unsure-unsure.result
    c.from-at.ensures (sym c.is_unlost_at.ensures ∙ told) taken c.in-Ok.ensures.after c.timed_after-self.ensures c.leaves_unsure-unsure.ensures c.issued.ensures
