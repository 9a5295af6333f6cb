use Rattle.std.proofs.Common.{◌≡◌, rules}
use Rattle.std.proofs.lemmas.List.Sorted.{answers_always}
use Rattle.chi_verdict.proofs.SortLemmas.{place_line, places_reordered}
use Rattle.chi_verdict.proofs.lines.order_of.Goals as goal

pub returns : goal.returns
returns g c =
    let sort = c.sort_by_key.ensures in
    places_reordered c.args.items.now c.in_ok-order.order.items c.sort_by_key.new.self.items c.in_ok-order.ensures.items c.in_ok-order.ensures.lines sort.permutation
    (sort.stable place_line (answers_always _ (λ a r. r ≡ place_line a.0.now) _ (λ f a r q called. search rules)))
