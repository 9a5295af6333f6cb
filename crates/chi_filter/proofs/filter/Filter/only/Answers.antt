use Rattle.std.proofs.Common.{arith}
use Rattle.chi_filter.proofs.Keeps.{has_one, in_only}
use Rattle.chi_filter.proofs.filter.Filter.only.Goals as goal

pub invariant_of-self : goal.invariant_of-self
invariant_of-self c = record {
  flag_names_one = λ flag. grind (arith, has_one, c.requires);
  flag_names_no_other = λ flag n m low_n low_m in_n in_m. grind (arith, in_only, c.requires);
  owner_named = λ n owns. grind arith;
}
