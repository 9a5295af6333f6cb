-- Each command's line leads on, and the last one leads to the whole text.
use Rattle.std.proofs.Common.{◌≡◌, ◌+◌, ◌<◌, ◌≤◌, ◌∷◌, ◌∙◌, ap, drop, get_or, length, string_bytes, subst, sym, add-one, drop-cons, arith, rules}
use Rattle.std.proofs.Math.ListN.{drop_of_length-le}
use Rattle.chi_script.specs.declared.commands.Command.{Command}
use Rattle.chi_replay.specs.Texts.{IsText}
use Rattle.chi_replay.specs.Turns.{turn}
use Rattle.chi_replay.specs.Session.{machine_of, ports_of}
use Rattle.chi_replay.proofs.Leads.{LeadsOn, leads_first, leads_further, leads_to, says_told}
use Rattle.chi_replay.proofs.runs.run.Goals as goal

pub loop-command-init : goal.loop-command-init
loop-command-init g c =
    let made = c.in_ok-system.ensures.opening in
    leads_first c.args.config.now c.args.commands.now made.0 c.in_ok-system.system (string_bytes c.new-text.result) made.1 (search (rules, c.new-text.ensures.bytes))

pub loop-command-preserved : goal.loop-command-preserved
loop-command-preserved g c =
    let all = c.args.commands.now in
    let n = c.loop-command.command-index in
    let one = c.command-item.result in
    let low : n < length all = omega arith in
    let here : one ≡ get_or all n one = search (rules, c.command-item.is) in
    let cut : drop n all ≡ one ∷ drop (n + 1) all = rw add-one (drop-cons all n one low) ∙ ap (λ (x : Command). x ∷ drop (n + 1) all) (sym here) in
    leads_further c.args.config.now all (string_bytes c.loop-command.text) _ (machine_of c.loop-command.system) _ (ports_of c.loop-command.system) _ one (drop (n + 1) all)
    (subst (LeadsOn c.args.config.now all (string_bytes c.loop-command.text) (machine_of c.loop-command.system) (ports_of c.loop-command.system)) cut c.loop-command.invariant) (says_told (turn (machine_of c.loop-command.system) one) (ports_of c.loop-command.system) _ _ (string_bytes c.loop-command.text) _ (search (rules, c.in_ok-play.ensures)))

pub returns : goal.returns
returns g c =
    let all = c.args.commands.now in
    let past : length all ≤ c.loop-command.command-index = omega arith in
    let whole : IsText c.args.config.now all (string_bytes c.loop-command.text) = leads_to c.args.config.now all (string_bytes c.loop-command.text) (machine_of c.loop-command.system) (ports_of c.loop-command.system)
    (subst (LeadsOn c.args.config.now all (string_bytes c.loop-command.text) (machine_of c.loop-command.system) (ports_of c.loop-command.system)) (drop_of_length-le all past) c.loop-command.invariant) in
    search (rules, whole)
