-- By what is due of it.
use Rattle.std.proofs.Common.{refl, ap, ◌∙◌}
use Rattle.chi_copies.specs.declared.moves.Move.TheVariants.{Gains}
use Rattle.chi_copies.specs.Arriving.{Member, Members, led}
use Rattle.chi_copies.specs.ArrivingLines.{due_of, may_of, member_moves}
use Rattle.chi_copies.proofs.ArrivingGiven.{gains_are}
use Rattle.chi_copies.proofs.standing.Standing.gained.Goals as goal

pub returns : goal.returns
returns c = record {
  facts = refl;
  may = λ m. c.image-members.ensures (due_of c.args.self.now.facts) m
      ∙ ap (λ d. led (member_moves (Gains c.args.grant d) c.args.self.now.facts.asked) (may_of c.args.self.now) m) c.due-due.ensures.is
      ∙ ap (λ (R : Member → Members). led R (may_of c.args.self.now) m) (gains_are c.args.grant (due_of c.args.self.now.facts) c.args.self.now.facts.asked);
}
