-- The set of one agent: somebody is in it, and nobody else.
use Rattle.std.specs.Prelude.{◌≡◌, ◌≢◌, ℕ, ◌<◌, length, true, false}
use Rattle.std.proofs.Common.{◌∙◌, arith}
use Rattle.std.proofs.lemmas.List.{get_or-set_same, get_or-set_other, length-set, get_or-replicate}
use Rattle.std.proofs.lemmas.List.Folds.{list_any_at}
use Rattle.chi_filter.specs.Filter.{has_any, is_in, nobody, only_set}

wide : (n : ℕ) → n < 8 → n < length (only_set n)
wide n low = let e : length (only_set n) ≡ 8 = length-set nobody n true in omega arith

pub has_one : (n : ℕ) → n < 8 → has_any (only_set n) ≡ true
has_one n low = list_any_at (λ b. b) (only_set n) n false (wide n low) (get_or-set_same nobody n true false low)

pub others_out : (n m : ℕ) → m < 8 → m ≢ n → is_in (only_set n) m ≡ false
others_out n m low other = get_or-set_other nobody n m true false other ∙ get_or-replicate 8 m false false low

-- who is in the set of one agent is that agent
pub in_only : (n m : ℕ) → m < 8 → is_in (only_set n) m ≡ true → m ≡ n
in_only n m low here = grind (arith, others_out)
