-- One copy is left.
use Rattle.std.proofs.Common.{ap, ◌∙◌}
use Rattle.std.proofs.Math.Path.{fun_ext}
use Rattle.std.specs.Prelude.{◌&&◌, ◌||◌, not}
use Rattle.chi_copies.specs.Begun.{has_words, is_one}
use Rattle.chi_copies.proofs.begun.Begun.is_sure_sent.Goals as goal

pub returns : goal.returns
returns c = c.sure_behind.ensures ∙ (λ i. (c.is_kept-kept.ensures ∙ ap (λ s. s && not (has_words c.args.flit.act)) c.is_sure-sure.ensures) i || is_one (fun_ext c.requires.own i))
