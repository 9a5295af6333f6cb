use Rattle.std.proofs.Common.{sym, ap, ◌∙◌, get_or, arith}
use Rattle.chi_log.specs.Numbers.{credit_of}
use Rattle.chi_log.proofs.HexLemmas.{credit_of_one, one_byte}
use Rattle.chi_log.proofs.numbers.credit_in.Goals as goal

pub returns-in-len1 : goal.returns-in-len1
returns-in-len1 c =
    let text = c.text.result.now in
    c.digit.ensures.value
    ∙ (sym (credit_of_one (get_or text 0 0)) ∙ ap credit_of (sym (one_byte text (omega arith) (omega arith)) ∙ c.text.ensures))
