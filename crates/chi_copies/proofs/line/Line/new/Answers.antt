-- Nothing is told.
use Rattle.chi_copies.proofs.Lines.{told_nothing, no_moments}
use Rattle.chi_copies.proofs.line.Line.new.Goals as goal

pub returns-clause-told : goal.returns-clause-told
returns-clause-told c = told_nothing c.args.stores

pub returns-clause-shown : goal.returns-clause-shown
returns-clause-shown c = no_moments
