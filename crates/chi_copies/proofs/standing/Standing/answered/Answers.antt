-- What refuses it, and what it leaves.
use Rattle.std.proofs.Common.{refl, ap, ◌∙◌}
use Rattle.std.specs.Prelude.{◌&&◌}
use Rattle.std.proofs.Math.Path.{fun_ext}
use Rattle.chi_copies.specs.declared.moves.Move.TheVariants.{Brings}
use Rattle.chi_copies.specs.declared.replies.Asked.TheVariants.{NoReply}
use Rattle.chi_copies.specs.Arriving.{any_member, led}
use Rattle.chi_copies.specs.ArrivingLines.{due_of, is_none, may_of, member_moves, members_of}
use Rattle.chi_copies.proofs.ArrivingAgents.{brought_rests}
use Rattle.chi_copies.proofs.standing.Standing.answered.Goals as goal

pub returns-then-not-is_some-clause-taken : goal.returns-then-not-is_some-clause-taken
returns-then-not-is_some-clause-taken c = let k = c.if-not-is_some.ensures in k ∙ ap any_member (fun_ext (c.image-members.ensures c.due-due.result))
    ∙ ap (λ d. any_member (led (member_moves (Brings c.args.coming) c.args.self.now.facts.asked) (members_of d c.args.self.now.facts.asked c.args.self.now.members))) c.due-due.ensures.is

pub returns-clause-taken : goal.returns-clause-taken
returns-clause-taken c = let k = c.if-not-is_some.ensures in k ∙ ap any_member (fun_ext (c.image-members.ensures c.due-due.result))
    ∙ ap (λ d. any_member (led (member_moves (Brings c.args.coming) c.args.self.now.facts.asked) (members_of d c.args.self.now.facts.asked c.args.self.now.members))) c.due-due.ensures.is

pub returns-clause-after : goal.returns-clause-after
returns-clause-after c = record {
  due = refl;
  asked = refl;
  acks = refl;
  overtaken = refl;
  may = λ m. c.at_rest.ensures (due_of c.args.self.now.facts) c.args.self.now.facts.asked NoReply m
      ∙ ap (λ S. is_none m.reply && S m) (fun_ext (c.image-members.ensures (due_of c.args.self.now.facts)))
      ∙ brought_rests c.args.coming c.args.self.now.facts.asked (may_of c.args.self.now) m;
}
