-- It is sorted by what the closure gives.
use Rattle.std.proofs.Common.{rules}
use Rattle.std.proofs.lemmas.List.Sorted.{IsNonDecreasingBy-from_sort_by_key}
use Rattle.chi_verdict.specs.Outstanding.{data_place}
use Rattle.chi_verdict.proofs.reports.sort_unfinished.Goals as goal

pub returns : goal.returns
returns g c = record {
  same = c.in_ok-sort_by_key.ensures.permutation;
  rising = IsNonDecreasingBy-from_sort_by_key data_place c.sort_by_key.new.self.items c.in_ok-sort_by_key.ensures.sorted (λ a r f' k. search rules);
}
