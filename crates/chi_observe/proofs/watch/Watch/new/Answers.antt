-- Each table is empty.
use Rattle.std.specs.Prelude.{replicate}
use Rattle.chi_observe.specs.Judges.{last_of}
use Rattle.chi_observe.specs.Lines.{lines_in}
use Rattle.chi_observe.specs.Watched.{nothing_counted}
use Rattle.chi_observe.proofs.watch.Watch.new.Goals as goal

pub returns : goal.returns
returns g c = λ i. record {
  options = c.args.options;
  requesters = c.new.ensures.items i;
  homes = c.new-2.ensures.items i;
  ids = c.new-3.ensures.empty i;
  accounts = c.new-4.ensures.empty i;
  lines = lines_in (c.new-5.ensures.empty i);
  counts = nothing_counted;
  causes = c.new-7.ensures.items i;
  past = last_of (replicate 32 0);
  named = c.new-8.ensures.empty i;
}
