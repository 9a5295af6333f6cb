-- The files are lent one by one.
use Rattle.std.proofs.Common.{rules}
use Rattle.std.proofs.lemmas.Iterator.{YieldsList-from_slice, YieldsList-from_map_by}
use Rattle.std.proofs.lemmas.Iterator.Consumers.{map_from_collect}
use Rattle.std.proofs.lemmas.Result.{IfOk-at_ok}
use Rattle.chi_program.specs.Suites.{given_in}
use Rattle.chi_replay.specs.Suites.{given_of}
use Rattle.chi_program.proofs.suites.suite_of.Goals as goal

pub returns : goal.returns
returns c =
    IfOk-at_ok _ c.in_ok-collect.was
    (map_from_collect _ c.collect.ensures.ran (YieldsList-from_map_by _ given_of given_in (YieldsList-from_slice c.args.files.now cc) c.map.ensures.closure (λ x r q k. search rules)))
