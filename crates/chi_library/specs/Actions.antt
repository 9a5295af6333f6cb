-- Actions and effects in C's numbers (docs/LIBRARY.md, "Numbers"). A step's number is its place in the table of
-- docs/PROTOCOL.md, "The actions".
use Rattle.std.specs.Prelude.{ℕ, Option, Some, None, ◌==◌, if◌then◌else◌}
use Rattle.chi_flit.specs.Numbers.{agent_at, line_at, slot_at, word_at}
use Rattle.chi_flit.specs.declared.action.Action.{Action}
use Rattle.chi_flit.specs.declared.action.Effect.{Effect}
use Rattle.chi_flit.specs.declared.action.Effect.TheVariants.{Nothing, Value, Completed}
use Rattle.chi_flit.specs.declared.action.Step.{Step}
use Rattle.chi_flit.specs.declared.action.Step.TheVariants.{Load, Store, Drop, Issue, Admit, Retry, RecvRetry, Resend, Cancel, Start, RecvSnp, RecvSnpResp, RecvData, RecvComp, RecvAck, RecvDbid, RecvWrData}
use Rattle.chi_flit.specs.declared.kind.Kind.{Kind}
use Rattle.chi_flit.specs.declared.numbers.Slot.{Slot}
use Rattle.chi_library.specs.declared.actions.ChiAction.{ChiAction}
use Rattle.chi_library.specs.declared.actions.ChiEffect.{ChiEffect}
use Rattle.chi_flit.specs.Kind.{kind_number, kind_numbered}

-- an Issue needs a kind
abbrev pub issue_if : Option Kind → Slot → Option Step
issue_if None slot = None
issue_if (Some kind) slot = Some (Issue kind slot)

abbrev pub issue_of : ℕ → Slot → Option Step
issue_of kind slot = issue_if (kind_numbered kind) slot

-- the step that an action's numbers name
abbrev pub step_of : ChiAction → Option Step
step_of a =
    if a.step == 0 then Some (Load (word_at a.word)) else (
    if a.step == 1 then Some (Store (word_at a.word) a.value) else (
    if a.step == 2 then Some Drop else (
    if a.step == 3 then issue_of a.kind (slot_at a.slot) else (
    if a.step == 4 then Some Admit else (
    if a.step == 5 then Some Retry else (
    if a.step == 6 then Some RecvRetry else (
    if a.step == 7 then Some Resend else (
    if a.step == 8 then Some Cancel else (
    if a.step == 9 then Some Start else (
    if a.step == 10 then Some RecvSnp else (
    if a.step == 11 then Some RecvSnpResp else (
    if a.step == 12 then Some RecvData else (
    if a.step == 13 then Some RecvComp else (
    if a.step == 14 then Some RecvAck else (
    if a.step == 15 then Some RecvDbid else (
    if a.step == 16 then Some RecvWrData else None))))))))))))))))

abbrev pub action_by : ChiAction → Step → Action
action_by a step = record { agent = agent_at a.agent; line = line_at a.line; step = step }

abbrev pub action_if : ChiAction → Option Step → Option Action
action_if a None = None
action_if a (Some step) = Some (action_by a step)

-- the action that C's numbers name
abbrev pub action_of : ChiAction → Option Action
action_of a = action_if a (step_of a)

abbrev pub no_effect : ChiEffect
no_effect = record { effect = 0; slot = 0; value = 0 }

abbrev pub effect_told : Effect → ChiEffect
effect_told Nothing = no_effect
effect_told (Value value) = record { effect = 1; slot = 0; value = value }
effect_told (Completed slot) = record { effect = 2; slot = slot.0; value = 0 }

-- an action by C's numbers, of which those that its step doesn't read are 0
abbrev pub no_action : ChiAction
no_action = record { agent = 0; line = 0; step = 0; kind = 0; slot = 0; word = 0; value = 0 }

abbrev pub step_number : Step → ℕ
step_number (Load word) = 0
step_number (Store word value) = 1
step_number Drop = 2
step_number (Issue kind slot) = 3
step_number Admit = 4
step_number Retry = 5
step_number RecvRetry = 6
step_number Resend = 7
step_number Cancel = 8
step_number Start = 9
step_number RecvSnp = 10
step_number RecvSnpResp = 11
step_number RecvData = 12
step_number RecvComp = 13
step_number RecvAck = 14
step_number RecvDbid = 15
step_number RecvWrData = 16

abbrev pub step_told : Step → ChiAction
step_told (Load word) = record no_action { word = word.0 }
step_told (Store word value) = record no_action { step = 1; word = word.0; value = value }
step_told (Issue kind slot) = record no_action { step = 3; kind = kind_number kind; slot = slot.0 }
step_told other = record no_action { step = step_number other }

abbrev pub action_told : Action → ChiAction
action_told action = record (step_told action.step) { agent = action.agent.0; line = action.line.0 }
