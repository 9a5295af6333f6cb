-- The opening state keeps what a slice keeps.
use Rattle.std.proofs.Common.{◌≡◌, ◌∙◌, ap, replicate}
use Rattle.chi_journal.specs.Journal.{opening_log}
use Rattle.chi_line.specs.LineState.{opening_line}
use Rattle.chi_slice.specs.Slice.{row_count}
use Rattle.chi_slice.proofs.Follows.{indexed_opening}
use Rattle.chi_slice.proofs.Opening.{opens_with}
use Rattle.chi_slice.proofs.Slices.{opening_slice_kept}
use Rattle.chi_slice.proofs.slice.Slice.new.Goals as goal

pub invariant_of-result : goal.invariant_of-result
invariant_of-result g c =
    let lines : c.in_ok-lines.lines.items ≡ replicate (row_count c.args.config.now c.args.index) opening_line = c.in_ok-lines.ensures ∙ ap (λ n. replicate n opening_line) c.row_count.ensures.count in
    let journal : c.in_ok-journal.journal ≡ opening_log c.args.config.now.lines c.args.config.now.journal = cc (c.in_ok-journal.ensures, c.lines.ensures.value, c.journal.ensures.value) in (
      opening_slice_kept c.args.config.now c.args.index _ _ c.row_count.ensures.limits c.requires lines journal,
      indexed_opening c.args.config.now c.args.index _ _ _ c.row_count.ensures.limits c.requires lines c.new.ensures journal,
    )

pub returns-clause-opening : goal.returns-clause-opening
returns-clause-opening g c =
    let lines : c.in_ok-lines.lines.items ≡ replicate (row_count c.args.config.now c.args.index) opening_line = c.in_ok-lines.ensures ∙ ap (λ n. replicate n opening_line) c.row_count.ensures.count in
    let journal : c.in_ok-journal.journal ≡ opening_log c.args.config.now.lines c.args.config.now.journal = cc (c.in_ok-journal.ensures, c.lines.ensures.value, c.journal.ensures.value) in
    opens_with c.args.config.now c.args.index _ _ c.row_count.ensures.limits c.requires lines journal
