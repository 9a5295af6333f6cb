-- The table has each of its lines once.
use Rattle.std.proofs.Common.{rules, ◌≡◌, length, ap, ◌∙◌}
use Rattle.std.specs.List.{count_by}
use Rattle.std.specs.Map.{values_of}
use Rattle.chi_observe.specs.Beginnings.{is_unknown_in}
use Rattle.chi_observe.specs.Lines.{line_state}
use Rattle.chi_observe.proofs.CountLemmas.{counted}
use Rattle.chi_observe.proofs.watch.Watch.unknown_lines.Goals as goal

pub returns : goal.returns
returns g c =
    let requesters = c.args.self.now.requesters.items in
    let entries = c.args.self.now.lines.entries in
    let agents : c.len.result ≡ length requesters = search rules in
    let lines : c.as_slice-2.result.now ≡ values_of entries = c.as_slice-2.ensures ∙ (c.values-lines.ensures.rest ∙ ap values_of c.as_slice.ensures.entries) in
    counted (length requesters) entries c.count_unknown.result c.as_slice.ensures.unique
    (c.count_unknown.ensures ∙ (λ i. count_by (λ seen. is_unknown_in (agents i) (line_state seen)) (lines i)))
