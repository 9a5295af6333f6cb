-- Place by place: each call of the closure told its element.
use Rattle.std.proofs.Common.{rules, ◌≡◌, ◌<◌, None, get_or, sym, ◌∙◌, subst}
use Rattle.std.proofs.lemmas.List.{ext_get_or, length-map, get_or-map}
use Rattle.chi_library.specs.Lines.{no_request_told, pending_told}
use Rattle.chi_library.proofs.lines.all_pending_told.Goals as goal

pub returns : goal.returns
returns c =
    let told = c.map.ensures.items in
    ext_get_or no_request_told _ _ (told.long ∙ (sym c.told-pending ∙ sym (length-map c.args.pending.now pending_told)))
    (λ i low. let low' : i < 8 = subst (λ n. i < n) told.long low in
    let called = told.at i None no_request_told low' in
    let is : get_or c.map.result i no_request_told ≡ pending_told (get_or c.args.pending.now i None) = search rules in
    is ∙ sym (get_or-map pending_told c.args.pending.now i None no_request_told (subst (λ n. i < n) (sym c.told-pending) low')))
