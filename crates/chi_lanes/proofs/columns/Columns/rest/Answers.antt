use Rattle.std.proofs.Common.{◌≡◌, ℕ, List, ◌<◌, false, length, take, sym, ap, subst, ◌∙◌}
use Rattle.std.proofs.lemmas.List.{take_rest}
use Rattle.chi_lanes.proofs.ColumnLemmas.{rest_first, rest_is}
use Rattle.chi_lanes.specs.Columns.{blank_at, columns_of}
use Rattle.chi_lanes.proofs.columns.Columns.rest.Goals as goal

pub returns-clause-columns : goal.returns-clause-columns
returns-clause-columns c =
    let line = take c.self.inside.size c.self.inside.bytes.now in
    let start = c.next_start.result in
    ap columns_of (take_rest line start) ∙ (rest_is line c.self.inside.at start c.next_start.ensures ∙ c.self.view_is)

pub returns-clause-first : goal.returns-clause-first
returns-clause-first c =
    let line = take c.self.inside.size c.self.inside.bytes.now in
    let start = c.next_start.result in
    subst (λ (text : List ℕ). 0 < length text → blank_at text 0 ≡ false) (sym (take_rest line start)) (rest_first line c.self.inside.at start c.next_start.ensures)
