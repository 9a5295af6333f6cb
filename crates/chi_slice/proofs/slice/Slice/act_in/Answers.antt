-- The action is done on its line; the index and the journal follow.
use Rattle.std.proofs.Common.{◌≡◌, ◌∙◌, Some, rules, slice_set}
use Rattle.chi_slice.specs.Protocol.{refused_with}
use Rattle.chi_slice.specs.Slice.{SliceState, refused_under, slice_with}
use Rattle.chi_slice.proofs.Refused.{with_credits_is}
use Rattle.chi_slice.proofs.Acts.{line_kept, not_out, ready, refused_now, room_for}
use Rattle.chi_slice.proofs.Ends.{Ended, ended, err_computed, put_back}
use Rattle.chi_slice.proofs.slice.Slice.act_in.Given as given
use Rattle.chi_slice.proofs.slice.Slice.act_in.Goals as goal

pub act-requires-clause-kept : goal.act-requires-clause-kept
act-requires-clause-kept g c =
    line_kept (ready c.args.self.now c.args.credits c.args.action c.self.invariant.0 c.self.view_is (not_out c.args.self.now c.args.action c.requires.inside) (c.from.ensures ∙ c.requires.row) c.conditions-conditions.ensures c.index_mut-line.ensures.value)

pub note-requires : goal.note-requires
note-requires g c =
    room_for (ready c.args.self.now c.args.credits c.args.action c.self.invariant.0 c.self.view_is (not_out c.args.self.now c.args.action c.requires.inside) (c.from.ensures ∙ c.requires.row) c.conditions-conditions.ensures c.index_mut-line.ensures.value)
    c.in_ok-outcome.ensures.refusal c.in_ok-outcome.ensures.effect

refused : (g : given.Over) (c : goal.After-from_residual g) → Some c.in_err-outcome.field-0.0 ≡ refused_under c.args.credits c.args.self.now c.args.action
refused g c =
    c.in_err-outcome.ensures.refusal ∙ refused_now c.self.view_is
    (ready c.args.self.now c.args.credits c.args.action c.self.invariant.0 c.self.view_is (not_out c.args.self.now c.args.action c.requires.inside) (c.from.ensures ∙ c.requires.row) c.conditions-conditions.ensures c.index_mut-line.ensures.value)

pub returns-in_err-outcome-clause-refused : goal.returns-in_err-outcome-clause-refused
returns-in_err-outcome-clause-refused g c =
    let by : Some c.in_err-outcome.field-0.0 ≡ refused_with c.args.credits c.args.self.now c.args.action =
    refused g c ∙ with_credits_is c.args.credits c.args.self.now c.args.action in
    search (rules, by)

pub returns-in_err-outcome-clause-computed : goal.returns-in_err-outcome-clause-computed
returns-in_err-outcome-clause-computed g c =
    let by : Some c.in_err-outcome.field-0.0 ≡ refused_under c.args.credits c.args.self.now c.args.action = refused g c in
    search (rules, err_computed, by)

pub returns-in_err-outcome-clause-err : goal.returns-in_err-outcome-clause-err
returns-in_err-outcome-clause-err g c =
    let s : SliceState = slice_with c.self.inside.config c.self.inside.index c.self.inside.lines.items c.self.inside.journal in
    let same = put_back c.args.self.now s c.from.result c.act.new.self c.self.view_is c.index_mut-line.ensures.value c.in_err-outcome.ensures.err in
    search (rules, same)

end : (g : given.Over) (c : goal.After-note g)
    → Ended c.args.self.now c.args.credits c.args.action c.in_ok-outcome.outcome (slice_with c.self.inside.config c.self.inside.index (slice_set c.self.inside.lines.items c.from.result c.act.new.self) c.note.new.journal) c.follow.new.self
end g c =
    ended c.args.self.now c.args.credits c.args.action c.self.inside.places c.follow.new.self c.note.new.journal c.self.view_is c.self.invariant.1
    (ready c.args.self.now c.args.credits c.args.action c.self.invariant.0 c.self.view_is (not_out c.args.self.now c.args.action c.requires.inside) (c.from.ensures ∙ c.requires.row) c.conditions-conditions.ensures c.index_mut-line.ensures.value)
    (record { refusal = c.in_ok-outcome.ensures.refusal; effect_is = c.in_ok-outcome.ensures.effect; after_is = c.in_ok-outcome.ensures.after; flits = c.in_ok-outcome.ensures.flits })
    (record { slot_is = c.in_ok-outcome.ensures.slot; to_is = c.in_ok-outcome.ensures.to })
    c.follow.ensures c.note.ensures

pub invariant_of-self-2 : goal.invariant_of-self-2
invariant_of-self-2 g c = ((end g c).kept, (end g c).indexed)

pub returns-clause-refused : goal.returns-clause-refused
returns-clause-refused g c = (end g c).refused

pub returns-clause-protocol : goal.returns-clause-protocol
returns-clause-protocol g c = (end g c).protocol

pub returns-clause-loads : goal.returns-clause-loads
returns-clause-loads g c = (end g c).loads

pub returns-clause-computed : goal.returns-clause-computed
returns-clause-computed g c = (end g c).computed
