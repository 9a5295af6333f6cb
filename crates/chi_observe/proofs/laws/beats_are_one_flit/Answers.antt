-- By the observer's law of data in beats.
use Rattle.chi_observe.proofs.AnyBeats.{one_flit}
use Rattle.chi_observe.proofs.laws.beats_are_one_flit.Goals as goal

pub returns : goal.returns
returns c = one_flit c.data_in_beats.ensures.apart c.data_in_beats.ensures.any c.data_in_beats.ensures.free c.data_in_beats.ensures.known
