-- Of the code alone, no public promise cites it: the text of `totals` behind its first word.
use Rattle.std.specs.Prelude.{ℕ, List, ◌++◌, codes}
use Rattle.chi_replay.specs.Replies.{counts_text}
use Rattle.chi_replay.specs.declared.totals.NodeTotals.{NodeTotals}

abbrev pub totals_numbers : NodeTotals → List ℕ
totals_numbers totals =
    counts_text totals.profile totals.counts.free
    ++ (codes " hand" ++ (counts_text totals.profile totals.counts.hand
    ++ (codes " promised" ++ (counts_text totals.profile totals.counts.promised
    ++ (codes " owed" ++ counts_text totals.profile totals.counts.owed)))))
