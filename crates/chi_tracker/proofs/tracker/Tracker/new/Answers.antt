use Rattle.std.proofs.Common.{sym, subst, arith}
use Rattle.chi_tracker.specs.Shape.{IsShape}
use Rattle.chi_tracker.proofs.Seats.{opens_reached}
use Rattle.chi_tracker.proofs.tracker.Tracker.new.Goals as goal

pub of_words-requires : goal.of_words-requires
of_words-requires g c = opens_reached c.of-shape.result (subst IsShape (sym c.of-shape.ensures) (omega arith, c.requires.entries, omega arith, omega arith))
