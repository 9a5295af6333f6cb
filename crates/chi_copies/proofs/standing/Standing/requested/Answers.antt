-- What refuses it, and what it leaves.
use Rattle.std.proofs.Common.{refl, ap, ◌∙◌}
use Rattle.std.specs.Prelude.{◌&&◌}
use Rattle.std.proofs.Math.Path.{fun_ext}
use Rattle.chi_observer.specs.Rules.{due_after}
use Rattle.chi_copies.specs.Dues.{due_is}
use Rattle.chi_copies.specs.Arriving.{any_member, came, due_then, led, may_come}
use Rattle.chi_copies.specs.ArrivingLines.{may_of, members_of}
use Rattle.chi_copies.proofs.ArrivingAgents.{asked_due}
use Rattle.chi_copies.proofs.standing.Standing.requested.Goals as goal

pub returns-then-not-may_come-clause-taken : goal.returns-then-not-may_come-clause-taken
returns-then-not-may_come-clause-taken c = let j = c.if-not-may_come.ensures in
    ap (λ b. b && any_member (led (came c.args.act) (may_of c.args.self.now))) (j ∙ ap (may_come c.args.act) c.due-due.ensures.is)

pub returns-then-not-is_some-clause-taken : goal.returns-then-not-is_some-clause-taken
returns-then-not-is_some-clause-taken c = let j = c.if-not-may_come.ensures in let k = c.if-not-is_some.ensures in
    k ∙ ap any_member (fun_ext (c.came-members.ensures c.due_after-behind.result c.args.self.now.facts.asked))
    ∙ ap (λ d. any_member (led (came c.args.act) (members_of d c.args.self.now.facts.asked c.args.self.now.members))) c.due-due.ensures.is
    ∙ ap (λ b. b && any_member (led (came c.args.act) (may_of c.args.self.now))) (j ∙ ap (may_come c.args.act) c.due-due.ensures.is)

pub returns-clause-taken : goal.returns-clause-taken
returns-clause-taken c = let j = c.if-not-may_come.ensures in let k = c.if-not-is_some.ensures in
    k ∙ ap any_member (fun_ext (c.came-members.ensures c.due_after-behind.result c.args.self.now.facts.asked))
    ∙ ap (λ d. any_member (led (came c.args.act) (members_of d c.args.self.now.facts.asked c.args.self.now.members))) c.due-due.ensures.is
    ∙ ap (λ b. b && any_member (led (came c.args.act) (may_of c.args.self.now))) (j ∙ ap (may_come c.args.act) c.due-due.ensures.is)

pub returns-clause-after : goal.returns-clause-after
returns-clause-after c = record {
  due = ap due_then (c.encode.ensures ∙ c.due_after-behind.ensures) ∙ asked_due c.args.act c.due-due.result c.requires ∙ ap (due_after c.args.act) c.due-due.ensures.is;
  asked = refl;
  acks = refl;
  overtaken = refl;
  may = λ m. c.came-members.ensures (due_then (due_is c.encode.result)) c.args.self.now.facts.asked m
      ∙ ap (λ d. led (came c.args.act) (members_of d c.args.self.now.facts.asked c.args.self.now.members) m) c.due-due.ensures.is;
}
