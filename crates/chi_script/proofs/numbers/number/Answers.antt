use Rattle.std.proofs.Common.{◌≡◌, rules}
use Rattle.std.specs.Prelude.{slice_index}
use Rattle.chi_script.specs.Words.{number_of, with_digit}
use Rattle.chi_script.proofs.NumberLemmas.{one_digit}
use Rattle.chi_script.proofs.numbers.number.Goals as goal

pub returns-in-len1 : goal.returns-in-len1
returns-in-len1 c =
    let is : with_digit 0 (slice_index c.args.word.now 0) ≡ number_of c.args.word.now = one_digit c.args.word.now 0 c.in-len1.len_at_least c.in-len1.len_below in
    search (rules, is)
