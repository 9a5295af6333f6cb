-- It is told, and what may have been sent before is over.
use Rattle.std.proofs.Common.{rules, arith, ◌≡◌, ap, ◌∙◌}
use Rattle.std.specs.Prelude.{true}
use Rattle.chi_observer.specs.declared.arriving.Held.TheVariants as helds
use Rattle.chi_observer.specs.declared.flits.Flit.TheVariants.{Up}
use Rattle.chi_observer.specs.Lines.{is_taken, watched}
use Rattle.chi_observer.specs.Arrivals.{arrived, arriving_of}
use Rattle.chi_observer.specs.Arrivals.Outcome.{Taken}
use Rattle.chi_observer.proofs.Received.{again_as}
use Rattle.chi_observer.proofs.arrivals.Arrivals.receive_again.Goals as goal

pub returns-in_default-clause-outcome : goal.returns-in_default-clause-outcome
returns-in_default-clause-outcome c =
    let old = c.args.self.now in
    let held : (arriving_of old.agents c.from-at.result).held ≡ helds.Nothing = search (rules, arith, c.in-Nothing) in
    let taken : true ≡ is_taken (watched old.seen) (Up c.args.sent) = search (rules, c.in_default) in
    ap Taken c.put.ensures
    ∙ again_as (arrived old) c.args.sent c.from-at.result c.resent.result (watched c.take.new.self) c.from-at.ensures held taken c.in_default.ensures.after c.resent.ensures
