-- The flits are told out of the line before the action and after it.
use Rattle.std.proofs.Common.{rules, ◌≡◌, ◌∙◌, Some, None, ap, subst, sym}
use Rattle.chi_library.specs.declared.flits.ChiSent.{ChiSent}
use Rattle.chi_library.specs.Flits.{no_sent}
use Rattle.chi_library.specs.Standing.{told_or}
use Rattle.chi_library.proofs.SentShown.{sent_is, taken_is, told_is, unseen_refused}
use Rattle.chi_library.specs.Taken.{message_taken}
use Rattle.chi_slice.specs.Slice.{IsRowOf, SliceState, action_refusal, line, slice_after}
use Rattle.chi_slice.specs.Words.{Cells, cells_of, flit_of}
use Rattle.chi_slice.proofs.AgentRows.{row_stays}
use Rattle.chi_library.proofs.steps.act_telling.Goals as goal

pub returns-in_err-row-clause-refusal : goal.returns-in_err-row-clause-refusal
returns-in_err-row-clause-refusal c =
    let plain : Some c.in_err-row.field-0.0 ≡ action_refusal c.args.slice.now c.args.action = unseen_refused c.args.slice.now c.args.action c.in_err-row.field-0.0 (search (rules, c.in_err-row.ensures.refusal)) in
    search (rules, plain)

pub list_sent-requires : goal.list_sent-requires
list_sent-requires c =
    let done : c.act_in_row.new.slice ≡ slice_after c.args.slice.now c.args.action = search (rules, c.in_ok-given.ensures.after) in
    subst (λ (s : SliceState). IsRowOf s c.args.action.agent.0 c.args.action.line.0 c.in_ok-row.row) (sym done) (row_stays c.args.slice.now c.args.action c.args.action.agent.0 c.args.action.line.0 c.in_ok-row.row c.in_ok-row.ensures.row)

pub returns-clause-taken : goal.returns-clause-taken
returns-clause-taken c =
    let cells : c.flits_in.result.now ≡ cells_of (line c.args.slice.now c.args.action.line.0) c.args.action.agent.0 = search (rules, c.flits_in.ensures) in
    taken_is c.args.slice.now c.args.action c.tell_taken.new.taken
    (c.tell_taken.ensures ∙ ap (λ (k : Cells). told_or (flit_of c.args.action.agent (message_taken k c.args.action.step)) no_sent) cells)

pub returns-clause-sent : goal.returns-clause-sent
returns-clause-sent c =
    let cells : c.flits_in.result.now ≡ cells_of (line c.args.slice.now c.args.action.line.0) c.args.action.agent.0 = search (rules, c.flits_in.ensures) in
    let told = told_is c.args.slice.now c.args.action c.tell_taken.new.taken
    (c.tell_taken.ensures ∙ ap (λ (k : Cells). told_or (flit_of c.args.action.agent (message_taken k c.args.action.step)) no_sent) cells) in
    let may : action_refusal c.args.slice.now c.args.action ≡ None = search (rules, c.in_ok-given.ensures.refusal) in
    let done : c.act_in_row.new.slice ≡ slice_after c.args.slice.now c.args.action = search (rules, c.in_ok-given.ensures.after) in
    let served : c.serving-before.result ≡ (line c.args.slice.now c.args.action.line.0).home.serving = search (rules, c.serving-before.ensures, c.home_in.ensures) in
    sent_is c.args.slice.now c.act_in_row.new.slice c.args.action c.serving-before.result c.tell_taken.new.taken.flit c.args.sent.now _ _
    c.in_ok-row.ensures.kept may done served (ap (λ (t : ChiSent). t.flit) told) c.list_sent.ensures
