-- Place by place: each call of the closure told its element.
use Rattle.std.proofs.Common.{rules, ◌≡◌, ◌<◌, false, get_or, sym, ◌∙◌, subst}
use Rattle.std.proofs.lemmas.List.{ext_get_or, length-map, get_or-map}
use Rattle.chi_library.specs.Numbers.{flag_number}
use Rattle.chi_library.proofs.lines.flags_told.Goals as goal

pub returns : goal.returns
returns c =
    let told = c.map.ensures.items in
    ext_get_or 0 _ _ (told.long ∙ (sym c.told-flags ∙ sym (length-map c.args.flags.now flag_number)))
    (λ i low. let low' : i < 8 = subst (λ n. i < n) told.long low in
    let called = told.at i false 0 low' in
    let is : get_or c.map.result i 0 ≡ flag_number (get_or c.args.flags.now i false) = search rules in
    is ∙ sym (get_or-map flag_number c.args.flags.now i false 0 (subst (λ n. i < n) (sym c.told-flags) low')))
