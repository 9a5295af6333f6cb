-- What a line answers to a flit of a cache, and what it keeps.
use Rattle.chi_observer.specs.declared.flits.Flit.TheVariants.{Up}
use Rattle.chi_copies.specs.Lines.{is_taken, observed, shown_at}
use Rattle.chi_copies.specs.Refusals.{refusal}
use Rattle.chi_watch.proofs.JudgeLemmas.{led_is, reason_is}
use Rattle.chi_watch.proofs.NoRefusal.{cache_none}
use Rattle.chi_watch.proofs.judge.take_sent.Goals as goal

pub returns-clause-why : goal.returns-clause-why
returns-clause-why c =
    let o = observed c.args.line.now in
    reason_is c.take.result (is_taken o c.args.flit) (refusal o c.args.flit) c.take.ensures.taken (cache_none o c.args.flit) c.take.ensures.why

pub returns-clause-after : goal.returns-clause-after
returns-clause-after c =
    led_is c.take.result (observed c.args.line.now) (observed c.take.new.self) (shown_at c.args.line.now.shown) (shown_at c.take.new.self.shown)
    (Up c.args.flit) c.take.ensures.after c.take.ensures.moments
