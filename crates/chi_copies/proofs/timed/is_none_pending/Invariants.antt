-- So far all are tested.
use Rattle.std.proofs.Common.{◌≡◌}
use Rattle.std.specs.Prelude.{◌&&◌, ◌||◌, not}
use Rattle.chi_observer.specs.Rules.{awaits_moment}
use Rattle.chi_copies.specs.Worlds.{all_below}
use Rattle.chi_copies.specs.Lines.{due_at, issues, shown_at}
use Rattle.chi_copies.proofs.timed.is_none_pending.Given as goal

abbrev pub invariant-loop-n : goal.invariant-loop-n
invariant-loop-n l = l.none ≡ all_below l.n (λ m. not (awaits_moment (due_at l.due m) && (issues l.fn.issuer m || not (shown_at l.shown m))))
