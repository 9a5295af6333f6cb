-- Each is as all copies tell.
use Rattle.chi_observer.specs.Rules.{reads_once}
use Rattle.chi_copies.proofs.Alone.{moment_is}
use Rattle.chi_copies.proofs.timed.Moments.of.Goals as goal

pub returns : goal.returns
returns c = λ d n low. moment_is c.args.may.now (reads_once d) n c.is_none_stored-none_stored.result c.is_none_lost-none_lost.result c.dirty_one-dirty.result c.is_none_stored-none_stored.ensures c.is_none_lost-none_lost.ensures (c.dirty_one-dirty.ensures n low)
