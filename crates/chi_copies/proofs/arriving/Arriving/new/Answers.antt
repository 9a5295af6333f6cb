-- Each agent is such.
use Rattle.std.proofs.Common.{◌∙◌}
use Rattle.chi_copies.proofs.ArrivingAgents.{each_first, first_may}
use Rattle.chi_copies.proofs.arriving.Arriving.new.Goals as goal

pub returns-clause-facts : goal.returns-clause-facts
returns-clause-facts c = each_first c.first.result c.first.ensures.facts

pub returns-clause-may : goal.returns-clause-may
returns-clause-may c = λ n low m. first_may c.first.result n low m ∙ c.first.ensures.may m
