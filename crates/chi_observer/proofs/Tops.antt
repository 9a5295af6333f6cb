-- The strongest copy that is told is one right behind the flit that told it.
use Rattle.std.proofs.Common.{◌≡◌, refl}
use Rattle.std.specs.Prelude.{Bool, true}
use Rattle.chi_observer.specs.declared.flits.Due.{Due}
use Rattle.chi_observer.specs.Copies.{Held}
use Rattle.chi_observer.specs.Tables.{Known}
use Rattle.chi_observer.proofs.Spots.{DueCopies, each_due_copy}
use Rattle.chi_observer.proofs.Facts.{top_copy, is_settled}

settled_table : Due → Known → Held → Bool
settled_table d t s = is_settled d t (top_copy d t)

settled_holds : DueCopies settled_table
unfolding settled_table
settled_holds k = refl

pub top_settled : (d : Due) (t : Known) → is_settled d t (top_copy d t) ≡ true
unfolding settled_table
top_settled d t = each_due_copy settled_table settled_holds d t (top_copy d t)
