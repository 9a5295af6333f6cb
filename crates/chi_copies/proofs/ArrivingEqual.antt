-- Sets of members are equal, as `==` finds it, exactly where they are the same.
use Rattle.std.proofs.Common.{rules, arith, ◌≡◌, List, ap}
use Rattle.std.specs.Bool.{Decides}
use Rattle.std.specs.Cmp.Lexicographic.{pointwise, pointwise_decides}
use Rattle.std.proofs.lemmas.Bool.Decides.{Decides-like}
use Rattle.chi_copies.specs.declared.copies.Copies.{Copies}
use Rattle.chi_copies.specs.declared.sides.Sides.{Sides}
use Rattle.chi_copies.specs.declared.members.Members.{Members}
use Rattle.chi_copies.specs.contracts.copies.CopiesPartialEq.TheImpl as sets
use Rattle.chi_copies.specs.contracts.sides.SidesPartialEq.TheImpl as sides
use Rattle.chi_copies.specs.contracts.members.MembersPartialEq.TheImpl as members

copies : (a b : Copies) → Decides (sets.eq-value.it a b) (a ≡ b)
copies a b = search (rules, arith)

rows : (a b : List Copies) → Decides (pointwise sets.eq-value.it a b) (a ≡ b)
rows = pointwise_decides copies

of_rows : (a b : Sides) → a.rows ≡ b.rows → a ≡ b
of_rows a b e = λ i. record { rows = e i }

side : (a b : Sides) → Decides (sides.eq-value.it a b) (a ≡ b)
side a b = Decides-like (sides.eq-value.it a b) (of_rows a b) (λ e. ap (λ s. s.rows) e) (rows a.rows b.rows)

places : (a b : List Sides) → Decides (pointwise sides.eq-value.it a b) (a ≡ b)
places = pointwise_decides side

of_places : (a b : Members) → a.sides ≡ b.sides → a ≡ b
of_places a b e = λ i. record { sides = e i }

pub equal : (a b : Members) → Decides (members.eq-value.it a b) (a ≡ b)
equal a b = Decides-like (members.eq-value.it a b) (of_places a b) (λ e. ap (λ s. s.sides) e) (places a.sides b.sides)
