-- What a line answers to a flit of the home, and what it keeps.
use Rattle.chi_observer.specs.declared.flits.Flit.TheVariants.{Down}
use Rattle.chi_copies.specs.Lines.{is_taken_home, observed, shown_at}
use Rattle.chi_copies.specs.Refusals.{home_refusal}
use Rattle.chi_watch.proofs.JudgeLemmas.{led_is, reason_is}
use Rattle.chi_watch.proofs.NoRefusal.{home_none}
use Rattle.chi_watch.proofs.judge.take_given.Goals as goal

pub returns-clause-why : goal.returns-clause-why
returns-clause-why c =
    let o = observed c.args.line.now in
    let shown = shown_at c.args.line.now.shown in
    reason_is c.take_home.result (is_taken_home o shown c.args.flit) (home_refusal o shown c.args.flit) c.take_home.ensures.taken
    (home_none o shown c.args.flit) c.take_home.ensures.why

pub returns-clause-after : goal.returns-clause-after
returns-clause-after c =
    led_is c.take_home.result (observed c.args.line.now) (observed c.take_home.new.self) (shown_at c.args.line.now.shown)
    (shown_at c.take_home.new.self.shown) (Down c.args.flit) c.take_home.ensures.after c.take_home.ensures.moments
