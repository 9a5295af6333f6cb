-- The line that is seen is the one that the word drew.
use Rattle.std.proofs.Common.{◌≡◌, ◌/◌, ◌∙◌, rules}
use Rattle.chi_agent.proofs.Choosing.{chosen}
use Rattle.chi_agent.proofs.choice.choose.Goals as goal

pub returns-clause-is : goal.returns-clause-is
returns-clause-is g c =
    let number_is : c.number_of-number.result ≡ c.args.x / c.args.slice.now.config.lines = search (rules, c.number_of-number.ensures, c.config.ensures) in
    let seen = c.in_ok-here in
    c.choose_at.ensures.is ∙ chosen c.args.slice.now seen.here.slice.now c.args.requester.now seen.here.requester.now c.args.operations.now c.args.stopped c.args.line seen.here.line c.args.x c.number_of-number.result seen.ensures.slice seen.ensures.requester seen.ensures.line c.requires number_is seen.ensures.inside
