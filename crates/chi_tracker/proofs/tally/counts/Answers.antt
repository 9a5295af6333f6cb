use Rattle.std.proofs.Common.{◌∙◌}
use Rattle.chi_tracker.specs.Sums.{set_at}
use Rattle.chi_tracker.specs.Totals.{is_promised}
use Rattle.chi_tracker.proofs.Entries.{count_same}
use Rattle.chi_tracker.proofs.tally.counts.Goals as goal

pub returns : goal.returns
returns c =
    let s = c.args.shape.now in record {
      free = c.free_counts.ensures;
      hand = c.hand_counts.ensures;
      promised = λ t l. c.counts_by_type.ensures t l ∙ count_same s t (is_promised c.args.words.now s.agents) (set_at c.promised_set-promised.result) l c.requires.1 c.promised_set-promised.ensures;
      owed = c.owed_by_all.ensures;
    }
