-- Each table is empty.
use Rattle.std.specs.Prelude.{replicate}
use Rattle.chi_observe.specs.Judges.{last_of}
use Rattle.chi_observe.specs.Lines.{lines_in}
use Rattle.chi_observe.specs.Watched.{nothing_counted}
use Rattle.chi_observe.proofs.watch.Watch.with_room.Goals as goal

pub returns : goal.returns
returns g c = λ i. record {
  options = c.args.options;
  requesters = c.in_ok-requesters.ensures.items i;
  homes = c.in_ok-homes.ensures.items i;
  ids = c.in_ok-ids.ensures i;
  accounts = c.in_ok-accounts.ensures i;
  lines = lines_in (c.in_ok-lines.ensures i);
  counts = nothing_counted;
  causes = c.in_ok-causes.ensures.items i;
  past = last_of (replicate 32 0);
  named = c.new.ensures.empty i;
}
