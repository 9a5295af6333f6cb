-- Place by place: each call of the closure told its element.
use Rattle.std.proofs.Common.{rules, ◌≡◌, ◌<◌, get_or, sym, ◌∙◌, subst}
use Rattle.std.proofs.lemmas.List.{ext_get_or, length-map, get_or-map}
use Rattle.chi_monitor.specs.Watched.{nothing_open}
use Rattle.chi_library.specs.MonitorCalls.{none_open, open_told}
use Rattle.chi_library.proofs.monitor_told.all_open_told.Goals as goal

pub returns : goal.returns
returns c =
    let told = c.map.ensures.items in
    ext_get_or none_open _ _ (told.long ∙ (sym c.told-agents ∙ sym (length-map c.args.agents.now open_told)))
    (λ i low. let low' : i < 8 = subst (λ n. i < n) told.long low in
    let called = told.at i nothing_open none_open low' in
    let is : get_or c.map.result i none_open ≡ open_told (get_or c.args.agents.now i nothing_open) = search rules in
    is ∙ sym (get_or-map open_told c.args.agents.now i nothing_open none_open (subst (λ n. i < n) (sym c.told-agents) low')))
