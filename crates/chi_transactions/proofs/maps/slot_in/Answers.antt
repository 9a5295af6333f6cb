use Rattle.std.proofs.Common.{rules, ◌≡◌, ◌∙◌, ℕ, Some, ap, sym}
use Rattle.chi_transactions.specs.Maps.{entry_in}
use Rattle.chi_transactions.proofs.Slots.{key_found}
use Rattle.chi_transactions.proofs.maps.slot_in.Goals as goal

pub returns-in-Some-clause-value : goal.returns-in-Some-clause-value
unfolding entry_in
returns-in-Some-clause-value g c = c.in-Some.ensures.value

pub returns-in-Some-clause-place : goal.returns-in-Some-clause-place
returns-in-Some-clause-place g c =
    let same : c.args.number ≡ c.in-Some.field-0-1.now = key_found c.args.number c.in-Some.field-0-1.now c.args.table.now.entries (sym c.in-Some.ensures.key) in
    c.in-Some.ensures.entry ∙ ap (λ (key : ℕ). Some (key, c.in-Some.value.now)) (sym same)

pub returns-in-None-clause-value : goal.returns-in-None-clause-value
unfolding entry_in
returns-in-None-clause-value g c = search rules
