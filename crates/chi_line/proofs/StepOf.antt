-- What each action that is done takes, leaves, answers and records, by the functions of
-- `Step` (docs/PROTOCOL.md, "The actions"). The entry is the record of a load or a store.
use Rattle.std.specs.Prelude.{◌≡◌, ℕ, List, Option, Some, None, ◌⊎◌}
use Rattle.chi_flit.specs.declared.numbers.Agent.{Agent}
use Rattle.chi_flit.specs.declared.numbers.Line.{Line}
use Rattle.chi_flit.specs.declared.numbers.Slot.{Slot}
use Rattle.chi_flit.specs.declared.credit.Profile.{Profile}
use Rattle.chi_flit.specs.declared.kind.Kind.{Kind}
use Rattle.chi_flit.specs.declared.snoop.Snoop.{Snoop}
use Rattle.chi_flit.specs.declared.state.State.{State}
use Rattle.chi_flit.specs.declared.action.Step.{Step}
use Rattle.chi_flit.specs.declared.action.Step.TheVariants as steps
use Rattle.chi_flit.specs.declared.action.Effect.{Effect}
use Rattle.chi_flit.specs.declared.action.Effect.TheVariants.{Nothing, Value, Completed}
use Rattle.chi_flit.specs.declared.credit.CreditType.{CreditType}
use Rattle.chi_flit.specs.declared.message.Request.{Request}
use Rattle.chi_flit.specs.declared.message.CompData.{CompData}
use Rattle.chi_flit.specs.declared.message.RspUp.TheVariants.{CompAck}
use Rattle.chi_flit.specs.declared.message.RspDown.TheVariants.{CompUC, CompI, CompDBIDResp, RetryAck}
use Rattle.chi_flit.specs.declared.message.DatUp.TheVariants.{CopyBackWrData}
use Rattle.chi_journal.specs.declared.record.Record.{Record}
use Rattle.chi_journal.specs.declared.record.Record.TheVariants as records
use Rattle.chi_rnline.specs.declared.pending.Pending.{Pending}
use Rattle.chi_rnline.specs.Rn.{word_of}
use Rattle.chi_homeline.specs.declared.serving.Serving.TheVariants.{AwaitingCompAck, AwaitingWriteData}
use Rattle.chi_homeline.specs.declared.serving.SnoopAnswer.{SnoopAnswer}
use Rattle.chi_homeline.specs.declared.serving.Waiting.{Waiting}
use Rattle.chi_homeline.specs.Home.{started_sends, waiting_of}
use Rattle.chi_line.specs.LineState.{LineState, rn_of, cells_of}
use Rattle.chi_line.specs.Step.{acknowledged_line, admitted_line, answer_in, answered_by, cancelled_line, comp_received_line}
use Rattle.chi_line.specs.Step.{dbid_received_line, dropped_line, evict_received_line, issued_line, received_line, resent_line}
use Rattle.chi_line.specs.Step.{retried_line, retry_received_line, snooped_line, started_effect, started_line, stored_line, written_line}

-- the action changes the line, with no effect and no record
abbrev pub Changes : Effect → Option Record → LineState → LineState → Type 0
Changes effect entry new left = (effect ≡ Nothing) × (entry ≡ None) × (new ≡ left)

-- the action completes the request of the slot, and changes the line
abbrev pub Completes : Slot → Effect → Option Record → LineState → LineState → Type 0
Completes slot effect entry new left = (effect ≡ Completed slot) × (entry ≡ None) × (new ≡ left)

abbrev pub StepOf : Profile → LineState → Agent → Line → Step → Effect → Option Record → LineState → Type 0
StepOf profile old agent line (steps.Load word) effect entry new =
    (effect ≡ Value (word_of (rn_of old agent.0) word.0))
    × (entry ≡ Some (records.Load agent line word (word_of (rn_of old agent.0) word.0))) × (new ≡ old)
StepOf profile old agent line (steps.Store word value) effect entry new =
    (effect ≡ Nothing) × (entry ≡ Some (records.Store agent line word value))
    × (new ≡ stored_line old agent.0 word.0 value)
StepOf profile old agent line steps.Drop effect entry new = Changes effect entry new (dropped_line old agent.0)
StepOf profile old agent line (steps.Issue kind slot) effect entry new =
    Changes effect entry new (issued_line old agent.0 kind slot)
StepOf profile old agent line steps.Admit effect entry new =
    (request : Request) × ((cells_of old agent.0).req ≡ Some request)
    × Changes effect entry new (admitted_line old agent.0 request)
StepOf profile old agent line steps.Retry effect entry new =
    (request : Request) × ((cells_of old agent.0).req ≡ Some request)
    × Changes effect entry new (retried_line profile old agent.0 request)
StepOf profile old agent line steps.RecvRetry effect entry new =
    (ty : CreditType) × ((cells_of old agent.0).rsp_down ≡ Some (RetryAck ty))
    × Changes effect entry new (retry_received_line old agent.0)
StepOf profile old agent line steps.Resend effect entry new =
    (request : Pending) × ((rn_of old agent.0).pending ≡ Some request)
    × Changes effect entry new (resent_line old agent.0 request)
StepOf profile old agent line steps.Cancel effect entry new = Changes effect entry new (cancelled_line old agent.0)
StepOf profile old agent line steps.Start effect entry new =
    (request : Waiting) × (waiting_of old.home agent.0 ≡ Some request)
    × (effect ≡ started_effect (started_sends old.home agent request)) × (entry ≡ None)
    × (new ≡ started_line old agent request)
StepOf profile old agent line steps.RecvSnp effect entry new =
    (snoop : Snoop) × ((cells_of old agent.0).snp ≡ Some snoop)
    × Changes effect entry new (snooped_line old agent.0 snoop)
StepOf profile old agent line steps.RecvSnpResp effect entry new =
    (answer : SnoopAnswer) × (answer_in (cells_of old agent.0) ≡ Some answer)
    × Changes effect entry new (answered_by old agent answer)
StepOf profile old agent line steps.RecvData effect entry new =
    (message : CompData) × ((cells_of old agent.0).dat_down ≡ Some message)
    × Changes effect entry new (received_line old agent.0 message)
StepOf profile old agent line steps.RecvComp effect entry new =
    (((cells_of old agent.0).rsp_down ≡ Some CompUC) × Changes effect entry new (comp_received_line old agent.0))
    ⊎ (((cells_of old agent.0).rsp_down ≡ Some CompI) × Changes effect entry new (evict_received_line old agent.0))
StepOf profile old agent line steps.RecvAck effect entry new =
    (slot : Slot) × (old.home.serving ≡ AwaitingCompAck agent slot) × ((cells_of old agent.0).rsp_up ≡ Some CompAck)
    × Completes slot effect entry new (acknowledged_line old agent.0)
StepOf profile old agent line steps.RecvDbid effect entry new =
    (request : Pending) × ((rn_of old agent.0).pending ≡ Some request)
    × ((cells_of old agent.0).rsp_down ≡ Some CompDBIDResp)
    × Changes effect entry new (dbid_received_line old agent.0 request.kind)
StepOf profile old agent line steps.RecvWrData effect entry new =
    (slot : Slot) × (kind : Kind) × (form : State) × (words : List ℕ)
    × (old.home.serving ≡ AwaitingWriteData agent kind slot)
    × ((cells_of old agent.0).dat_up ≡ Some (CopyBackWrData form words))
    × Completes slot effect entry new (written_line old agent.0 kind form words)
