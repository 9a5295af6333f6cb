-- What is kept stays sound behind a flit of the home.
use Rattle.chi_copies.specs.Observed.{given}
use Rattle.chi_copies.specs.Laws.{HomeFlitsKeepSound}
use Rattle.chi_copies.proofs.Loosened.{loose_sound, loose_closed}
use Rattle.chi_copies.proofs.Given.{given_sound, others_closed}

pub home_kept : HomeFlitsKeepSound
home_kept o g sound shut low takes = (
  given_sound o g sound low takes,
  loose_sound g.agent.0 (given o g) (given_sound o g sound low takes) low,
  loose_closed g.agent.0 (given o g) (λ m e l. others_closed o g sound low takes m e l (shut m l)),
)
