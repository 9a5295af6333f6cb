use Rattle.std.proofs.Common.{◌≡◌, ◌-◌, length, take, ap, ◌∙◌, arith}
use Rattle.std.proofs.lemmas.List.{take_all}
use Rattle.chi_lanes.specs.Numbers.{number_of}
use Rattle.chi_log.proofs.HexLemmas.{is_hex}
use Rattle.chi_log.proofs.numbers.text_number.Goals as goal

pub returns-in-Some-clause-read : goal.returns-in-Some-clause-read
returns-in-Some-clause-read c =
    let text = c.args.text.now in
    let size : length text - 0 ≡ length text = omega arith in
    let whole : take (length text - 0) text ≡ text = ap (λ k. take k text) size ∙ take_all (length text) text (omega arith) in
    c.up_to.ensures ∙ is_hex text c.args.most c.in-Some.number (c.in-Some.ensures ∙ ap number_of whole)
