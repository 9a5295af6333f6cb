-- What the line says is what the slice says.
use Rattle.std.proofs.Common.{◌≡◌, ◌↔◌, ◌∙◌, ℕ, Option, Some, ap, get_or, rules, subst, sym}
use Rattle.chi_flit.specs.declared.numbers.Slot.{Slot}
use Rattle.chi_line.specs.LineState.{LineState, cells_of}
use Rattle.chi_line.specs.Refused.{completed_at}
use Rattle.chi_slice.specs.Protocol.{WouldComplete}
use Rattle.chi_slice.specs.Slice.{SliceState, slice_with}
use Rattle.chi_slice.proofs.Completes.{completes, completes_at, completes_is, none_outside}
use Rattle.chi_slice.proofs.LineReads.{line_now}
use Rattle.chi_slice.proofs.Rows.{in_range}
use Rattle.chi_slice.proofs.slice.Slice.completes.Goals as goal

pub returns-in-Some : goal.returns-in-Some
returns-in-Some g c = λ slot.
    let s : SliceState = slice_with c.self.inside.config c.self.inside.index c.self.inside.lines.items c.self.inside.journal in
    let told : c.completed_slot.result ≡ completed_at c.index.result.now.home (cells_of c.index.result.now c.args.action.agent.0) c.args.action.agent c.args.action.step = search (rules, c.completed_slot.ensures) in
    let is : c.completed_slot.result ≡ completes c.args.self.now c.args.action =
    told
    ∙ (ap (λ (l : LineState). completed_at l.home (cells_of l c.args.action.agent.0) c.args.action.agent c.args.action.step)
    (line_now c.args.self.now s c.args.action.line.0 c.in-Some.row c.self.invariant.0 c.self.view_is
    (record { here = (in_range c.args.self.now c.args.action c.in-Some.ensures.kept (sym c.in-Some.ensures.inside)).line; row_is = c.in-Some.ensures.row })
    (c.index.ensures ∙ ap (λ (n : ℕ). get_or s.lines n c.index.result.now) c.from.ensures))
    ∙ completes_at c.args.self.now c.args.action (sym c.in-Some.ensures.inside)) in
    subst (λ (o : Option Slot). (o ≡ Some slot) ↔ WouldComplete c.args.self.now c.args.action slot) (sym is) (completes_is c.args.self.now c.args.action slot c.in-Some.ensures.kept)

pub returns-in-None : goal.returns-in-None
returns-in-None g c = λ slot. none_outside c.args.self.now c.args.action slot (sym c.in-None.ensures.inside)
