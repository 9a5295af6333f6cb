-- What the commands answered is the text of a replay, and so what was found of it is what was found of the checks.
use Rattle.std.proofs.Common.{◌≡◌, List, map, string_bytes, ap, ◌∙◌}
use Rattle.chi_replay.specs.Texts.{IsText}
use Rattle.chi_script.specs.declared.checks.Check.{Check}
use Rattle.chi_script.specs.Checks.{line_of_check}
use Rattle.chi_replay.specs.Checks.{commands_in}
use Rattle.chi_replay.proofs.Reported.{lent_enough, lent_reported, lines_enough, of_run}
use Rattle.chi_replay.proofs.checks.compare_script.Goals as goal

pub compare-requires : goal.compare-requires
compare-requires g c =
    let header = c.args.script.now.header in
    let checks = c.args.script.now.checks.items in
    let text = string_bytes c.in_ok-text.text in
    let commands : c.in_ok-commands.commands.items ≡ commands_in (map line_of_check checks) = c.in_ok-commands.ensures ∙ ap (λ (cs : List Check). commands_in (map line_of_check cs)) c.deref.ensures.value in
    let is : IsText header (commands_in (map line_of_check checks)) text = of_run header (map line_of_check checks) c.in_ok-commands.commands.items _ _ commands c.deref-2.ensures.value c.in_ok-text.ensures in
    lent_enough _ checks _ text c.deref-3.ensures.value c.as_bytes.ensures.value (lines_enough header (map line_of_check checks) text is)

pub returns : goal.returns
returns g c =
    let header = c.args.script.now.header in
    let checks = c.args.script.now.checks.items in
    let text = string_bytes c.in_ok-text.text in
    let commands : c.in_ok-commands.commands.items ≡ commands_in (map line_of_check checks) = c.in_ok-commands.ensures ∙ ap (λ (cs : List Check). commands_in (map line_of_check cs)) c.deref.ensures.value in
    let is : IsText header (commands_in (map line_of_check checks)) text = of_run header (map line_of_check checks) c.in_ok-commands.commands.items _ _ commands c.deref-2.ensures.value c.in_ok-text.ensures in
    lent_reported (λ found. found.lines.items) (λ found. found.wanted) (λ found. found.differing) c.compare.result header c.args.front.now _ checks _ text c.deref-3.ensures.value c.as_bytes.ensures.value is c.compare.ensures.lines c.compare.ensures.wanted c.compare.ensures.differing
