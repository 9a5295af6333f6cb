-- At first nothing is held; then behind each event.
use Rattle.chi_observe.proofs.RoomLemmas.{nothing_within, within}
use Rattle.chi_observe.proofs.laws.a_watch_stays_in_its_room.Goals as goal

pub returns-clause-starts : goal.returns-clause-starts
returns-clause-starts c = nothing_within

pub returns-clause-stays : goal.returns-clause-stays
returns-clause-stays c = within
