-- The others' copies stay, or the home has their words.
use Rattle.std.proofs.Common.{rules, arith, ◌≡◌, length}
use Rattle.chi_copies.proofs.BegunLines.{given_are}
use Rattle.chi_copies.proofs.begun.Begun.given_may.Goals as goal

pub returns : goal.returns
returns c =
    let sets : length c.args.self.now.may ≡ 32 = search (rules, arith) in
    let others : length c.others_may.result ≡ 32 = search (rules, arith) in
    given_are c.args.self.now c.args.flit c.due_of-due.result c.renews-renews.result c.others_may.result sets others c.due_of-due.ensures c.renews-renews.ensures c.others_may.ensures
