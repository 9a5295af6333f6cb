-- So far all are so.
use Rattle.std.proofs.Common.{◌≡◌}
use Rattle.std.specs.Prelude.{◌&&◌, nat_lt, not}
use Rattle.chi_copies.specs.Arriving.{awaits_data}
use Rattle.chi_copies.specs.Worlds.{all_below}
use Rattle.chi_copies.specs.ArrivingLines.{received}
use Rattle.chi_copies.proofs.arriving.Arriving.is_quiet.Given as goal

abbrev pub invariant-loop-n : goal.invariant-loop-n
invariant-loop-n l = l.quiet ≡ all_below l.n (λ m. not (nat_lt 0 ((received l.self).acks m)) && (not (nat_lt 0 ((received l.self).overtaken m)) && not (awaits_data ((received l.self).asked m))))
