-- They are what the flit makes of its copies.
use Rattle.std.proofs.Common.{ap, ◌∙◌}
use Rattle.std.proofs.Math.Path.{fun_ext}
use Rattle.chi_copies.specs.Copies.{image, same_held}
use Rattle.chi_copies.specs.Rules.{granted}
use Rattle.chi_copies.specs.Sets.{members}
use Rattle.chi_copies.specs.BegunLines.{begun}
use Rattle.chi_copies.proofs.begun.Begun.got.Goals as goal

pub returns : goal.returns
returns c = λ h. c.image.ensures h
    ∙ ap (λ d. image (λ h k. same_held (granted c.args.flit.grant d h) k) (members c.may_of-may.result) h) c.due_of-due.ensures
    ∙ ap (λ S. image (λ h k. same_held (granted c.args.flit.grant ((begun c.args.self.now).seen.public.due c.args.flit.agent.0) h) k) S h) (fun_ext c.may_of-may.ensures)
