-- The ids without that of the key.
use Rattle.std.proofs.Common.{◌≡◌, sym, ap, ◌∙◌}
use Rattle.std.specs.Prelude.{Option}
use Rattle.indexmap.specs.IndexMap.{swap_remove_entry}
use Rattle.chi_ids.specs.declared.keys.IdKey.{IdKey}
use Rattle.chi_ids.specs.declared.keys.KeyNumbers.{KeyNumbers}
use Rattle.chi_ids.specs.Keys.{is_same_numbers}
use Rattle.chi_observe.specs.Ids.{without}
use Rattle.chi_observe.proofs.watch.free_id.Goals as goal

pub returns-in-Some : goal.returns-in-Some
returns-in-Some g c =
    let e : c.swap_remove.new.self.entries ≡ swap_remove_entry (is_same_numbers c.numbers_of.result) c.args.ids.now.entries = c.swap_remove.ensures.entries in
    e ∙ (ap (λ (k : KeyNumbers). swap_remove_entry (is_same_numbers k) c.args.ids.now.entries) c.numbers_of.ensures ∙ ap (λ (f : Option IdKey). without f c.args.ids.now.entries) (sym c.in-Some.is))
