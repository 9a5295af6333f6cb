-- The rows are the causes in another order, sorted by what the closure gives.
use Rattle.std.proofs.Common.{rules, ◌≡◌, List, subst}
use Rattle.std.proofs.lemmas.List.Sorted.{IsNonDecreasingBy-from_sort_by_key}
use Rattle.std.specs.List.Sorted.{IsPermutation}
use Rattle.chi_observe.specs.declared.causes.CauseRow.{CauseRow}
use Rattle.chi_observe.specs.Told.{rank}
use Rattle.chi_observe.proofs.told.ranked.Goals as goal

pub returns : goal.returns
returns g c =
    let all : c.extend_from_slice.new.self.items ≡ c.args.causes.now = search rules in
    record {
      same = subst (λ (l : List CauseRow). IsPermutation l c.sort_by_key.new.self.items) all c.in_ok-sort_by_key.ensures.permutation;
      falling = IsNonDecreasingBy-from_sort_by_key rank c.sort_by_key.new.self.items c.in_ok-sort_by_key.ensures.sorted (λ a r f' k. search rules);
    }
