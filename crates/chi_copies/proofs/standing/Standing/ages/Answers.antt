-- Each age is asked for, where there are words.
use Rattle.std.proofs.Common.{ap, ◌∙◌}
use Rattle.chi_copies.specs.ArrivingLines.{may_of}
use Rattle.chi_copies.proofs.ArrivingAgents.{ages_by, ages_is}
use Rattle.chi_copies.proofs.standing.Standing.ages.Goals as goal

pub returns-then-not-tells_words : goal.returns-then-not-tells_words
returns-then-not-tells_words c = let k = c.if-not-tells_words.ensures in ap (ages_by c.args.coming (may_of c.args.self.now)) k

pub returns : goal.returns
returns c = let k = c.if-not-tells_words.ensures in
    ages_is c.may_bring.ensures c.may_bring-2.ensures c.may_bring-3.ensures c.may_bring-4.ensures ∙ ap (ages_by c.args.coming (may_of c.args.self.now)) k
