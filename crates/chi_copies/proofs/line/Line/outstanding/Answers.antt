-- Nothing is from before.
use Rattle.std.proofs.Common.{rules, arith, ◌≡◌, length, ◌∙◌}
use Rattle.chi_copies.proofs.Counts.{none_before, asked_before, none_at}
use Rattle.chi_copies.proofs.line.Line.outstanding.Goals as goal

pub returns-clause-count : goal.returns-clause-count
returns-clause-count c =
    let whole : length c.args.self.now.due ≡ 32 = search (rules, arith) in
    none_before c.args.self.now.due whole c.args.self.now.snooped c.outstanding_in.result c.outstanding_in.ensures

pub returns-clause-asked : goal.returns-clause-asked
returns-clause-asked c =
    let whole : length c.args.self.now.due ≡ 32 = search (rules, arith) in
    λ n low. c.may_be_asked.ensures n low ∙ asked_before c.args.self.now.due whole n low

pub returns-clause-left : goal.returns-clause-left
returns-clause-left c = none_at
