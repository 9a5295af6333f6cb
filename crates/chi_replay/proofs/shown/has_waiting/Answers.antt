-- Place by place: each call of the closure gave the mark of its request.
use Rattle.std.proofs.Common.{rules, ◌≡◌, ◌<◌, None, false, is_some, get_or, sym, ◌∙◌, subst}
use Rattle.std.proofs.lemmas.List.{ext_get_or, length-map, get_or-map}
use Rattle.chi_replay.proofs.shown.has_waiting.Goals as goal

pub returns : goal.returns
returns c =
    let marked = c.map.ensures.items in
    ext_get_or false _ _ (marked.long ∙ (sym c.told-requests ∙ sym (length-map c.args.requests.now is_some)))
    (λ i low. let low' : i < 8 = subst (λ n. i < n) marked.long low in
    let called = marked.at i None false low' in
    let is : get_or c.map.result i false ≡ is_some (get_or c.args.requests.now i None) = search rules in
    is ∙ sym (get_or-map is_some c.args.requests.now i None false (subst (λ n. i < n) (sym c.told-requests) low')))
