-- Place by place: each call of the closure told its element.
use Rattle.std.proofs.Common.{rules, ◌≡◌, ◌<◌, get_or, sym, ◌∙◌, subst}
use Rattle.std.proofs.lemmas.List.{ext_get_or, length-map, get_or-map}
use Rattle.chi_slice.specs.Verdict.{no_copy}
use Rattle.chi_library.specs.Lines.{copy_told}
use Rattle.chi_library.specs.declared.lines.TheConstants.ChiCopy as blank
use Rattle.chi_library.proofs.lines.copies_told.Goals as goal

pub returns : goal.returns
returns c =
    let told = c.map.ensures.items in
    ext_get_or blank.NONE _ _ (told.long ∙ (sym c.told-copies ∙ sym (length-map c.args.copies.now copy_told)))
    (λ i low. let low' : i < 8 = subst (λ n. i < n) told.long low in
    let called = told.at i no_copy blank.NONE low' in
    let is : get_or c.map.result i blank.NONE ≡ copy_told (get_or c.args.copies.now i no_copy) = search rules in
    is ∙ sym (get_or-map copy_told c.args.copies.now i no_copy blank.NONE (subst (λ n. i < n) (sym c.told-copies) low')))
