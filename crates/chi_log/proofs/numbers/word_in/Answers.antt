use Rattle.std.proofs.Common.{◌∙◌}
use Rattle.chi_log.proofs.HexLemmas.{is_hex}
use Rattle.chi_log.proofs.numbers.word_in.Goals as goal

pub returns-in-Some : goal.returns-in-Some
returns-in-Some c = c.up_to.ensures ∙ is_hex c.args.column.now 0xffff_ffff_ffff_ffff c.in-Some.number c.in-Some.ensures
