-- Why a slice alone refuses an action is what the protocol says, and an action is enabled exactly where nothing does.
use Rattle.std.proofs.Common.{◌≡◌, List, Bool, true, false, not, Option, Some, None, refl, sym, ◌∙◌, ap, subst, replicate, if◌then◌else◌, arith, slice_index_or}
use Rattle.std.proofs.Math.Path.{fun_ext}
use Rattle.std.specs.List.{list_any}
use Rattle.std.specs.Option.{option_or}
use Rattle.chi_flit.specs.declared.numbers.Agent.{Agent}
use Rattle.chi_flit.specs.declared.action.Action.{Action}
use Rattle.chi_flit.specs.declared.action.Effect.{Effect}
use Rattle.chi_flit.specs.declared.action.Step.{Step}
use Rattle.chi_flit.specs.declared.action.Step.TheVariants as steps
use Rattle.chi_flit.specs.declared.credit.CreditType.{CreditType}
use Rattle.chi_flit.specs.declared.refusal.Refusal.{Refusal}
use Rattle.chi_flit.specs.declared.refusal.Refusal.TheVariants as refusals
use Rattle.chi_flit.specs.Credit.{credit_number, credit_type_of}
use Rattle.chi_flit.specs.declared.credit.Profile.{Profile}
use Rattle.chi_journal.specs.Journal.{is_full}
use Rattle.chi_rnline.specs.declared.pending.Pending.{Pending}
use Rattle.chi_rnline.specs.Rn.{load_refusal, resend_refusal, store_refusal}
use Rattle.chi_line.specs.declared.act.Conditions.{Conditions}
use Rattle.chi_line.specs.LineState.{LineState, rn_of}
use Rattle.chi_line.specs.Meaning.{standing_of}
use Rattle.chi_line.specs.Protocol.{Standing}
use Rattle.chi_line.specs.Refused.{full_if, line_refusal, marked_credit_refusal, step_refusal}
use Rattle.chi_line.specs.Types.{pending_credit}
use Rattle.chi_line.specs.RefusalRows.{HasRoom, Room, is_of_actions, refusal_row, refused_if}
use Rattle.chi_line.proofs.After.{issue_allowed, neither}
use Rattle.chi_line.proofs.Enabled.{IsFree, enabled, room_in}
use Rattle.chi_line.proofs.RefusalRows.{refusals_are, uses_are}
use Rattle.chi_slice.specs.Protocol.{IsEnabled, SliceStep, lacks_credit, refused, refused_with, room_for, uses_own_slot}
use Rattle.chi_slice.specs.Slice.{SliceState, action_refusal, conditions_under, is_in_range, is_slot_used, line, each_credit, refused_under}
use Rattle.chi_slice.proofs.Acts.{Allowed, allowed, not_full}
use Rattle.chi_slice.proofs.Refusing.{all_credits as credited}

-- the slot that a step names is in use by the protocol where it is
used_is : (s : SliceState) (n : Agent) (step : Step) → is_slot_used s n.0 step ≡ uses_own_slot s n step
used_is s n (steps.Issue kind slot) = ap (λ (test : LineState → Bool). list_any test s.lines) (fun_ext (λ (l : LineState). sym (uses_are l n slot)))
used_is s n other = refl

all_credits : (ty : CreditType) → slice_index_or (replicate 4 true) (credit_number ty) false ≡ true
all_credits ty = search arith

refused_by : (b : Bool) (x y : Option Refusal) → x ≡ y → (if b then x else Some refusals.OutOfRange) ≡ refused_if (not b) refusals.OutOfRange y
refused_by true x y is = is
refused_by false x y is = refl

pub refused_is : (s : SliceState) (action : Action) → action_refusal s action ≡ refused s action
refused_is s action = refused_by (is_in_range s action) _ _
    (refusals_are (conditions_under each_credit s action) (line s action.line.0) action.agent action.step all_credits
    ∙ ap (λ (used : Bool). refusal_row (record { journal_full = (room_for s action.agent action.step).journal_full; slot_used = used }) (standing_of (line s action.line.0)) action.agent action.step)
    (used_is s action.agent action.step))

-- with the credits of a requester: the row's refusal, and then that of a Resend without a credit
or_none : (refusal : Option Refusal) → refusal ≡ option_or refusal None
or_none None = refl
or_none (Some refusal) = refl

lacking : (credits : List Bool) (profile : Profile) (pending : Option Pending) → marked_credit_refusal credits (pending_credit profile pending) ≡ refused_if (lacks_credit credits profile pending steps.Resend) refusals.NoCredit None
lacking credits profile None = refl
lacking credits profile (Some p) = go (slice_index_or credits (credit_number (credit_type_of profile p.kind)) false)
  where
    go : (b : Bool) → (if b then None else Some refusals.NoCredit) ≡ refused_if (not b) refusals.NoCredit None
    go true = refl
    go false = refl

-- (with a credit of each type)
abbrev with_credits : Conditions → Conditions
with_credits c = record c { credits = replicate 4 true }

abbrev credit_part : Conditions → LineState → Agent → Step → Option Refusal
credit_part c l n step = refused_if (lacks_credit c.credits c.profile (rn_of l n.0).pending step) refusals.NoCredit None

rows_are : (c : Conditions) (l : LineState) (n : Agent) (step : Step) → step_refusal c l n step ≡ option_or (refusal_row (room_in c) (standing_of l) n step) (credit_part c l n step)
rows_are c l n steps.Resend =
    let own : Option Refusal = resend_refusal (rn_of l n.0) in
    let ty : Option CreditType = pending_credit c.profile (rn_of l n.0).pending in
    let row : own ≡ refusal_row (room_in c) (standing_of l) n steps.Resend =
    or_none own ∙ (ap (option_or own) (sym (credited ty)) ∙ refusals_are (with_credits c) l n steps.Resend all_credits) in
    ap (λ (x : Option Refusal). option_or x (marked_credit_refusal c.credits ty)) row
    ∙ ap (option_or (refusal_row (room_in c) (standing_of l) n steps.Resend)) (lacking c.credits c.profile (rn_of l n.0).pending)
rows_are c l n other = refusals_are (with_credits c) l n other all_credits ∙ or_none (refusal_row (room_in c) (standing_of l) n other)

refused_or : (b : Bool) (x row credit : Option Refusal) → x ≡ option_or row credit → (if b then x else Some refusals.OutOfRange) ≡ option_or (refused_if (not b) refusals.OutOfRange row) credit
refused_or true x row credit is = is
refused_or false x row credit is = refl

pub with_credits_is : (credits : List Bool) (s : SliceState) (action : Action) → refused_under credits s action ≡ refused_with credits s action
with_credits_is credits s action = refused_or (is_in_range s action) _ _ _
    (rows_are (conditions_under credits s action) (line s action.line.0) action.agent action.step
    ∙ ap (λ (used : Bool). option_or (refusal_row (record { journal_full = is_full s.journal; slot_used = used }) (standing_of (line s action.line.0)) action.agent action.step)
    (refused_if (lacks_credit credits s.config.profile (rn_of (line s action.line.0) action.agent.0).pending action.step) refusals.NoCredit None))
    (used_is s action.agent action.step))

-- no action is refused with 8, 11 or 12
abbrev is_fine : Option Refusal → Bool
is_fine None = true
is_fine (Some refusal) = is_of_actions refusal

fine_if : (b : Bool) (refusal : Refusal) (rest : Option Refusal) → is_of_actions refusal ≡ true → is_fine rest ≡ true → is_fine (refused_if b refusal rest) ≡ true
fine_if true refusal rest own others = own
fine_if false refusal rest own others = others

one_fine : (b : Bool) (refusal : Refusal) → is_of_actions refusal ≡ true → is_fine (refused_if b refusal None) ≡ true
one_fine b refusal own = fine_if b refusal None own refl

two_fine : (a b : Bool) (first second : Refusal) → is_of_actions first ≡ true → is_of_actions second ≡ true → is_fine (refused_if a first (refused_if b second None)) ≡ true
two_fine a b first second own other = fine_if a first (refused_if b second None) own (one_fine b second other)

three_fine : (a b c : Bool) (first second third : Refusal) → is_of_actions first ≡ true → is_of_actions second ≡ true → is_of_actions third ≡ true
    → is_fine (refused_if a first (refused_if b second (refused_if c third None))) ≡ true
three_fine a b c first second third x y z = fine_if a first (refused_if b second (refused_if c third None)) x (two_fine b c second third y z)

row_fine : (room : Room) (s : Standing) (n : Agent) (step : Step) → is_fine (refusal_row room s n step) ≡ true
row_fine room s n (steps.Load word) = two_fine _ _ refusals.WrongState refusals.JournalFull refl refl
row_fine room s n (steps.Store word value) = three_fine _ _ _ refusals.Pending refusals.WrongState refusals.JournalFull refl refl refl
row_fine room s n steps.Drop = two_fine _ _ refusals.Pending refusals.WrongState refl refl
row_fine room s n (steps.Issue kind slot) = two_fine _ _ refusals.Pending refusals.WrongState refl refl
row_fine room s n steps.Admit = one_fine _ refusals.NoFlit refl
row_fine room s n steps.Retry = two_fine _ _ refusals.NoFlit refusals.MustAccept refl refl
row_fine room s n steps.RecvRetry = one_fine _ refusals.NoFlit refl
row_fine room s n steps.Resend = two_fine _ _ refusals.NothingPending refusals.WrongState refl refl
row_fine room s n steps.Cancel = two_fine _ _ refusals.NothingPending refusals.WrongState refl refl
row_fine room s n steps.Start = two_fine _ _ refusals.NotWaiting refusals.LineBusy refl refl
row_fine room s n steps.RecvSnp = one_fine _ refusals.NoFlit refl
row_fine room s n steps.RecvSnpResp = one_fine _ refusals.NoFlit refl
row_fine room s n steps.RecvData = one_fine _ refusals.NoFlit refl
row_fine room s n steps.RecvComp = one_fine _ refusals.NoFlit refl
row_fine room s n steps.RecvAck = one_fine _ refusals.NoFlit refl
row_fine room s n steps.RecvDbid = one_fine _ refusals.NoFlit refl
row_fine room s n steps.RecvWrData = one_fine _ refusals.NoFlit refl

pub own_number : (s : SliceState) (action : Action) (refusal : Refusal) → Some refusal ≡ action_refusal s action → is_of_actions refusal ≡ true
own_number s action refusal is =
    ap is_fine (is ∙ refused_is s action)
    ∙ fine_if (not (is_in_range s action)) refusals.OutOfRange _ refl (row_fine (room_for s action.agent action.step) (standing_of (line s action.line.0)) action.agent action.step)

-- an enabled action isn't refused
room_here : (s : SliceState) (n : Agent) (step : Step) (profile_conditions : Conditions) → room_in profile_conditions ≡ record { journal_full = (room_for s n step).journal_full; slot_used = is_slot_used s n.0 step }
    → HasRoom (room_for s n step) step → HasRoom (room_in profile_conditions) step
room_here s n step c is room = subst (λ (r : Room). HasRoom r step) (sym is)
    (subst (λ (used : Bool). HasRoom (record { journal_full = (room_for s n step).journal_full; slot_used = used }) step) (sym (used_is s n step)) room)

pub enabled_done : (s : SliceState) (action : Action) → IsEnabled s action → action_refusal s action ≡ None
enabled_done s action e =
    let c : Conditions = conditions_under each_credit s action in
    let free : IsFree c action.step = record { room = room_here s action.agent action.step c refl e.room; credit = all_credits } in
    ap (λ (b : Bool). if b then line_refusal c (line s action.line.0) action else Some refusals.OutOfRange) e.inside
    ∙ enabled c (line s action.line.0) action.agent action.line action.step e.row.0 e.row.1 e.row.2 free e.row.3

-- and one that isn't refused is enabled, where it takes its line by its row
room_left : (c : Conditions) (s : LineState) (n : Agent) (step : Step) → step_refusal c s n step ≡ None → HasRoom (room_in c) step
room_left c s n (steps.Load word) may = not_full c.journal_full (neither (load_refusal (rn_of s n.0)) (full_if c.journal_full) may).1
room_left c s n (steps.Store word value) may = not_full c.journal_full (neither (store_refusal (rn_of s n.0)) (full_if c.journal_full) may).1
room_left c s n (steps.Issue kind slot) may = (issue_allowed c.slot_used (rn_of s n.0) kind may).idle_slot
room_left c s n other may = tt

pub done_enabled : (s new : SliceState) (action : Action) (effect : Effect) → action_refusal s action ≡ None → SliceStep s action effect new → IsEnabled s action
done_enabled s new action effect none step =
    let may : Allowed s action = allowed s action none in
    let c : Conditions = conditions_under each_credit s action in
    record {
      inside = may.inside;
      room = subst (λ (used : Bool). HasRoom (record { journal_full = c.journal_full; slot_used = used }) action.step) (used_is s action.agent action.step)
          (room_left c (line s action.line.0) action.agent action.step may.by_line);
      row = (effect, step.0, standing_of (line new action.line.0), step.2);
    }
