-- By what is due of it.
use Rattle.std.proofs.Common.{◌≡◌, refl, subst}
use Rattle.chi_copies.specs.Arriving.{loose}
use Rattle.chi_copies.specs.ArrivingLines.{members_of}
use Rattle.chi_copies.proofs.standing.Standing.settled.Goals as goal

pub returns : goal.returns
returns c = record {
  facts = refl;
  may = λ m. subst (λ d. members_of d c.args.self.now.facts.asked c.loose-members.result m ≡ loose d c.args.self.now.facts.asked (members_of d c.args.self.now.facts.asked c.args.self.now.members) m) c.due-due.ensures.is (c.loose-members.ensures m);
}
