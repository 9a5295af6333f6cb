-- So far each row's are there.
use Rattle.std.proofs.Common.{◌≡◌}
use Rattle.chi_copies.specs.Copies.{Held}
use Rattle.chi_copies.specs.Images.{led_by, row_at}
use Rattle.chi_copies.specs.Sets.{any_below, members}
use Rattle.chi_copies.proofs.copies.Copies.led.Given as goal

abbrev pub invariant-loop-n : goal.invariant-loop-n
invariant-loop-n l = (h : Held) → members l.left h ≡ any_below l.n (λ n. led_by (row_at l.rows n) (members l.self) h)
