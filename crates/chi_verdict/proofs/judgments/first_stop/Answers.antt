use Rattle.chi_verdict.proofs.judgments.first_stop.Goals as goal

pub returns-in-Undone : goal.returns-in-Undone
returns-in-Undone c = λ config stores whole told. c.undone.ensures config stores whole
