-- No place has a side.
use Rattle.chi_copies.proofs.ArrivingPlaces.{empties}
use Rattle.chi_copies.proofs.members.Members.empty.Goals as goal

pub returns : goal.returns
returns c = λ a p h s. empties a c.empty.result (c.empty.ensures a) 9 p h s
