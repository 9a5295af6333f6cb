use Rattle.std.proofs.Common.{◌≡◌, rules}
use Rattle.std.proofs.lemmas.List.Sorted.{answers_always}
use Rattle.chi_verdict.proofs.SortLemmas.{line_number, reordered}
use Rattle.chi_verdict.proofs.lines.sort_items.Goals as goal

pub returns : goal.returns
returns g c =
    let sort = c.sort_by_cached_key.ensures in
    reordered c.args.items.now.items c.sort_by_cached_key.new.self.items sort.permutation
    (sort.stable line_number (answers_always _ (λ a r. r ≡ line_number a.0.now) _ (λ f a r q called. search rules)))
