-- One copy is left.
use Rattle.std.proofs.Common.{◌∙◌}
use Rattle.std.proofs.Math.Path.{fun_ext}
use Rattle.std.specs.Prelude.{◌||◌}
use Rattle.chi_copies.specs.Begun.{is_one}
use Rattle.chi_copies.proofs.begun.Begun.is_sure_given.Goals as goal

pub returns : goal.returns
returns c = c.sure_behind.ensures ∙ (λ i. c.is_sure-sure.ensures i || is_one (fun_ext c.requires.own i))
