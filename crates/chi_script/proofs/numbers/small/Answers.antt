use Rattle.std.proofs.Common.{◌≡◌, ◌∷◌, [], rules}
use Rattle.std.specs.Prelude.{slice_index}
use Rattle.chi_script.specs.Words.{small_of, with_digit}
use Rattle.chi_script.proofs.NumberLemmas.{one_small, two_bytes}
use Rattle.chi_script.proofs.numbers.small.Goals as goal

pub returns-in-len1 : goal.returns-in-len1
returns-in-len1 c =
    let is : with_digit 0 (slice_index c.args.word.now 0) ≡ small_of c.args.word.now = one_small c.args.word.now 0 c.in-len1.len_at_least c.in-len1.len_below in
    search (rules, is)

pub returns-in-len2 : goal.returns-in-len2
returns-in-len2 c =
    let is : small_of (slice_index c.args.word.now 0 ∷ slice_index c.args.word.now 1 ∷ []) ≡ small_of c.args.word.now = two_bytes c.args.word.now 0 0 c.in-len2.len_at_least c.in-len2.len_below in
    search (rules, is)
