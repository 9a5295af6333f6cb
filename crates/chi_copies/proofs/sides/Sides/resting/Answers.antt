-- There are none with a reply.
use Rattle.std.proofs.Common.{rules, arith, ◌≡◌, length, ◌∙◌}
use Rattle.chi_copies.specs.declared.replies.Asked.TheVariants.{NoReply}
use Rattle.chi_copies.proofs.ArrivingSides.{rests_all}
use Rattle.chi_copies.proofs.sides.Sides.resting.Goals as goal

pub returns : goal.returns
returns c = let whole : length c.args.self.now.rows ≡ 45 = search (rules, arith) in
    λ b h s. c.at_rest.ensures NoReply b h s ∙ rests_all c.args.self.now whole h s
