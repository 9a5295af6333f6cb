-- It is one of a cache, or of the home.
use Rattle.std.proofs.Common.{sym, ap, ◌∙◌}
use Rattle.chi_observer.specs.declared.flits.Flit.TheVariants.{Down, Up}
use Rattle.chi_copies.specs.Begun.{begun_after, takes_begun}
use Rattle.chi_copies.specs.BegunLines.{begun}
use Rattle.chi_copies.specs.BegunRefusals.{begun_refusal}
use Rattle.chi_copies.proofs.BegunTaken.{ok_after}
use Rattle.chi_copies.proofs.Refusals.{err_as}
use Rattle.chi_copies.proofs.begun.Begun.take.Goals as goal

pub returns-in-Up-clause-taken : goal.returns-in-Up-clause-taken
returns-in-Up-clause-taken c = c.take_cache.ensures.taken ∙ ap (takes_begun (begun c.args.self.now)) (sym c.in-Up.is)

pub returns-in-Up-clause-after : goal.returns-in-Up-clause-after
returns-in-Up-clause-after c =
    let b = begun c.args.self.now in
    ok_after c.take_cache.result (begun c.take_cache.new.self) (begun_after b (Up c.in-Up.sent)) (begun_after b c.args.flit) (ap (begun_after b) (sym c.in-Up.is)) c.take_cache.ensures.after

pub returns-in-Up-clause-why : goal.returns-in-Up-clause-why
returns-in-Up-clause-why c =
    let b = begun c.args.self.now in
    err_as c.take_cache.result (begun_refusal b (Up c.in-Up.sent)) (begun_refusal b c.args.flit) (ap (begun_refusal b) c.in-Up.is) c.take_cache.ensures.why

pub returns-in-Down-clause-taken : goal.returns-in-Down-clause-taken
returns-in-Down-clause-taken c = c.take_home.ensures.taken ∙ ap (takes_begun (begun c.args.self.now)) (sym c.in-Down.is)

pub returns-in-Down-clause-after : goal.returns-in-Down-clause-after
returns-in-Down-clause-after c =
    let b = begun c.args.self.now in
    ok_after c.take_home.result (begun c.take_home.new.self) (begun_after b (Down c.in-Down.given)) (begun_after b c.args.flit) (ap (begun_after b) (sym c.in-Down.is)) c.take_home.ensures.after

pub returns-in-Down-clause-why : goal.returns-in-Down-clause-why
returns-in-Down-clause-why c =
    let b = begun c.args.self.now in
    err_as c.take_home.result (begun_refusal b (Down c.in-Down.given)) (begun_refusal b c.args.flit) (ap (begun_refusal b) c.in-Down.is) c.take_home.ensures.why
