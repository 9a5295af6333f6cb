-- The words are those of the texts, one by one.
use Rattle.std.proofs.Common.{rules, string_bytes}
use Rattle.std.proofs.lemmas.Iterator.{YieldsList-from_slice, YieldsList-from_map_by}
use Rattle.std.proofs.lemmas.Iterator.Consumers.{map_from_collect}
use Rattle.std.proofs.lemmas.Result.{IfOk-at_ok}
use Rattle.chi_program.proofs.program.words_of.Goals as goal

pub returns-clause-ok : goal.returns-clause-ok
returns-clause-ok c =
    IfOk-at_ok _ c.in_ok-collect.was
    (map_from_collect _ c.collect.ensures.ran (YieldsList-from_map_by _ (λ r. r.now) string_bytes (YieldsList-from_slice c.args.texts.now cc) c.map.ensures.closure (λ x r q k. search rules)))
