-- What a line that begins in the middle answers.
use Rattle.chi_copies.specs.Begun.{takes_begun}
use Rattle.chi_copies.specs.BegunLines.{begun}
use Rattle.chi_copies.specs.BegunRefusals.{begun_refusal}
use Rattle.chi_watch.proofs.JudgeLemmas.{reason_is}
use Rattle.chi_watch.proofs.NoRefusal.{begun_none}
use Rattle.chi_watch.proofs.judge.take_begun.Goals as goal

pub returns-clause-why : goal.returns-clause-why
returns-clause-why c =
    let b = begun c.args.line.now in
    reason_is c.take.result (takes_begun b c.args.flit.now) (begun_refusal b c.args.flit.now) c.take.ensures.taken (begun_none b c.args.flit.now) c.take.ensures.why
