-- What is told, and the moments behind it.
use Rattle.std.proofs.Common.{◌≡◌, List, ap, ◌∙◌}
use Rattle.std.specs.Prelude.{Bool, ◌&&◌}
use Rattle.chi_observer.specs.Moments.{after_as}
use Rattle.chi_observer.specs.Lines.{observed, shown_of, shown_here, waits_here}
use Rattle.chi_observer.proofs.Lines.{noted}
use Rattle.chi_observer.proofs.observer.Observer.take_judged.Goals as goal

pub returns-clause-after : goal.returns-clause-after
returns-clause-after c =
    let old = c.args.self.now in
    let mid = c.take_told.new.self in
    let flit = c.args.flit in
    let waits = c.waits_behind-self.result in
    let told : observed mid ≡ after_as (observed old) flit c.args.differs = c.in_ok-take_told.ensures.after in
    noted mid (after_as (observed old) flit c.args.differs) old.waits waits old.shown c.shown_behind-self.result flit told
    (c.waits_behind-self.ensures ∙ ap (λ (w : Bool). waits_here mid.agents flit w) c.take_told.ensures.waits)
    (λ n. c.shown_behind-self.ensures n ∙ ap (λ (xs : List Bool). waits && shown_here mid.stores mid.agents mid.current flit (shown_of xs n) n) c.take_told.ensures.shown)
