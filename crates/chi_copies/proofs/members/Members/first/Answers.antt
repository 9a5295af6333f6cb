-- Behind unseen steps.
use Rattle.std.proofs.Common.{ap, ◌∙◌}
use Rattle.std.proofs.Math.Path.{fun_ext}
use Rattle.chi_observer.specs.declared.flits.Due.TheVariants.{Nothing}
use Rattle.chi_copies.specs.declared.replies.Asked.TheVariants.{NoReply}
use Rattle.chi_copies.specs.Arriving.{Members, loose}
use Rattle.chi_copies.proofs.members.Members.first.Goals as goal

pub returns : goal.returns
returns c = λ m. c.loose.ensures m ∙ ap (λ (S : Members). loose Nothing NoReply S m) (fun_ext c.of_none-first.ensures)
