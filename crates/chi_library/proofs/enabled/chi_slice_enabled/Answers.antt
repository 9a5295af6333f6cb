-- They are those of the slice that the handle holds.
use Rattle.std.proofs.Common.{rules, ◌≡◌, Some}
use Rattle.chi_library.specs.Enabled.{enabled_told}
use Rattle.chi_library.proofs.Listings.{listed_of}
use Rattle.chi_library.proofs.enabled.chi_slice_enabled.Goals as goal

pub returns-in-Some-clause-listed : goal.returns-in-Some-clause-listed
returns-in-Some-clause-listed c =
    let held : c.args.slice.now.value ≡ Some c.in-Some.held.value = search (rules, c.in-Some.ensures.slice) in
    let is : c.deref.result.now ≡ c.in-Some.held.value = search (rules, c.deref.ensures) in
    listed_of c.args.slice.now.value c.in-Some.held.value c.deref.result.now (enabled_told c.args.agent c.args.line) c.args.actions.now c.show_enabled-answer.new.actions c.show_enabled-answer.new.count held is c.show_enabled-answer.ensures.listed
