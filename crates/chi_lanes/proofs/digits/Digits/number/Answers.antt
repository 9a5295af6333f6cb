use Rattle.chi_lanes.proofs.RunLemmas.{no_run, run_number}
use Rattle.chi_lanes.proofs.digits.Digits.number.Goals as goal

pub returns-then-size-run : goal.returns-then-size-run
returns-then-size-run c bytes is =
    run_number c.args.self c.args.from c.args.to c.trailing_ones-run.result bytes c.trailing_ones-run.ensures c.requires.some c.requires.within c.if-size-run.true is

pub returns-else-size-run : goal.returns-else-size-run
returns-else-size-run c bytes is =
    no_run c.args.self c.args.from c.args.to c.trailing_ones-run.result bytes c.trailing_ones-run.ensures c.requires.some c.requires.within c.if-size-run.false is
