-- The commands of the checks, one by one.
use Rattle.std.proofs.Common.{◌≡◌, List, IfOk, subst, rules}
use Rattle.std.proofs.lemmas.Iterator.{YieldsList-from_map, YieldsList-from_slice, items_from_collect}
use Rattle.chi_script.specs.declared.commands.Command.{Command}
use Rattle.chi_replay.proofs.Reported.{same_commands}
use Rattle.chi_replay.proofs.checks.commands_of.Goals as goal

pub returns : goal.returns
returns g c =
    subst (λ (l : List Command). IfOk c.collect.result (λ commands. commands.items ≡ l)) (same_commands c.args.checks.now)
    (items_from_collect _ c.collect.ensures.ran (YieldsList-from_map _ (λ check. check.command) (YieldsList-from_slice c.args.checks.now cc) c.map.ensures.closure (λ x r q k. search rules)))
