-- What was found is tested at each line.
use Rattle.chi_slice.specs.Loading.{lines_alone}
use Rattle.chi_slice.proofs.Loadings.{looked_up}
use Rattle.chi_slice.proofs.loading.look_up.Goals as goal

pub returns : goal.returns
returns c = looked_up (lines_alone c.args.config.now c.args.index c.args.lines.now) c.args.agent.0 c.args.slot c.first_place-place.result c.is_single.result c.first_place-place.ensures.found c.first_place-place.ensures.none c.is_single.ensures
