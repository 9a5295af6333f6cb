use Rattle.chi_copies.proofs.Larger.{above_takes, stays_above, above_means, sound_above, nothing_above}
use Rattle.chi_copies.proofs.laws.above.Goals as goal

pub returns-clause-takes : goal.returns-clause-takes
returns-clause-takes c = above_takes

pub returns-clause-stays : goal.returns-clause-stays
returns-clause-stays c = stays_above

pub returns-clause-means : goal.returns-clause-means
returns-clause-means c = above_means

pub returns-clause-sound : goal.returns-clause-sound
returns-clause-sound c = sound_above

pub returns-clause-nothing : goal.returns-clause-nothing
returns-clause-nothing c = nothing_above
