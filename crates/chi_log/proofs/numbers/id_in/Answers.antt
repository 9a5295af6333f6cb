use Rattle.std.proofs.Common.{sym, ap, ◌∙◌, get_or, arith}
use Rattle.chi_log.specs.Numbers.{id_of}
use Rattle.chi_log.proofs.HexLemmas.{id_of_one, id_of_two, one_byte, two_bytes}
use Rattle.chi_log.proofs.numbers.id_in.Goals as goal

pub returns-in-len1 : goal.returns-in-len1
returns-in-len1 c =
    let text = c.text.result.now in
    c.one_digit.ensures
    ∙ (sym (id_of_one (get_or text 0 0)) ∙ ap id_of (sym (one_byte text (omega arith) (omega arith)) ∙ c.text.ensures))

pub returns-in-len2 : goal.returns-in-len2
returns-in-len2 c =
    let text = c.text.result.now in
    c.two_digits.ensures
    ∙ (sym (id_of_two (get_or text 0 0) (get_or text 1 0)) ∙ ap id_of (sym (two_bytes text (omega arith) (omega arith)) ∙ c.text.ensures))
