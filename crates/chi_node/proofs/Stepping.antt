-- A step of a requester that agrees with a slice: its account has the slot as the step needs it, and follows.
use Rattle.std.proofs.Common.{◌≡◌, ℕ, ◌<◌, List, true, Option, Some, None, is_some, length, slice_set, refl, sym, ◌∙◌, ap, subst, arith, get_or-set_same, get_or-set_other}
use Rattle.std.specs.Prelude.{slice_index, IfNone, IfSome}
use mathlib.Core.Logic.{dite}
use native.Mathlib.Decide.{dec_le}
use Rattle.chi_flit.specs.declared.numbers.Agent.{Agent}
use Rattle.chi_flit.specs.declared.numbers.Line.{Line}
use Rattle.chi_flit.specs.declared.numbers.Slot.{Slot}
use Rattle.chi_flit.specs.declared.kind.Kind.{Kind}
use Rattle.chi_flit.specs.declared.action.Effect.{Effect}
use Rattle.chi_flit.specs.declared.action.Effect.TheVariants.{Nothing, Value, Completed}
use Rattle.chi_flit.specs.declared.action.Step.{Step}
use Rattle.chi_flit.specs.declared.action.Step.TheVariants as steps
use Rattle.chi_flit.specs.declared.message.RspDown.{RspDown}
use Rattle.chi_flit.specs.declared.message.RspDown.TheVariants.{CompUC, CompI}
use Rattle.chi_flit.specs.Credit.{credit_type_of}
use Rattle.chi_tracker.specs.declared.released.Released.{Released}
use Rattle.chi_tracker.specs.Acts.{Act}
use Rattle.chi_tracker.specs.Views.{PortView}
use Rattle.chi_slice.specs.Words.{counted, cells_of, completed_slot, completed_to, if_moved, is_comp, is_of_type, is_slot, issued_slot, moved_slot, moved_to, record_of, position_at, Record, Position}
use Rattle.chi_slice.specs.Positions as places
use Rattle.chi_slice.specs.Index.{SlotsInRange}
use Rattle.chi_slice.proofs.Passed.{Moved, always_moves, completed_from, moved_from, unused_shows}
use Rattle.chi_slice.specs.Slice.{SliceKept, SliceState, is_line_in_range, line}
use Rattle.chi_credit.specs.declared.slot.SlotState.{SlotState}
use Rattle.chi_credit.specs.declared.slot.SlotState.TheVariants as states
use Rattle.chi_credit.specs.declared.slot.SlotRecord.{SlotRecord}
use Rattle.chi_credit.specs.Slot.{after_answer, after_finish, can_be_answered, in_state, is_admitted, opened_slot}
use Rattle.chi_credit.specs.Account.{slots_with_state, slot_record_at, state_at}
use Rattle.chi_node.specs.Requester.{RequesterState, with_both}
use Rattle.chi_node.specs.Agree.{MatchesRecord, position_of_state}
use Rattle.chi_node.specs.AfterStep.{CanFinish, CanFollow, CompletesRequest, Finishes, SlotMeets, account_after, changed_at, counts_after, requester_after}
use Rattle.chi_node.specs.Calls.{place_at}
use Rattle.chi_node.proofs.Matches.{itself}
use Rattle.chi_node.proofs.Records.{Becomes, answered, closed, closes, ended, only_after, only_nowhere, only_there, record_here, record_is, restated, says_here, tells_of}
use Rattle.chi_node.proofs.Agreement.{AllFollow, CountsFollow, OwnFollows, action_of, left_line, moves_to, none_moves, one_moves}

-- a step that the slice doesn't refuse, of a requester that agrees with it
pub record Ready (s : SliceState) (agent : Agent) (l : Line) (step : Step) (r : RequesterState) : Type 0 where
  pub kept : SliceKept s
  pub numbers : SlotsInRange s
  pub low : agent.0 < 8
  pub here : is_line_in_range s l.0 ≡ true
  pub moves : Moved s.config.profile (line s l.0) agent step
  pub eight : length r.slots ≡ 8
  pub counts : length r.counts ≡ 8
  pub index : s.index < 8
  pub matching : (slot : Slot) → slot.0 < 8 → MatchesRecord s agent.0 slot (slot_record_at r.slots slot.0)

pub some_slot : (o : Option Slot) → is_some o ≡ true → (slot : Slot) × (o ≡ Some slot)
some_slot None there = absurd (cc (there))
some_slot (Some slot) there = (slot, refl)

is_itself : (o : Option Slot) (slot : Slot) → o ≡ Some slot → is_slot o slot ≡ true
is_itself o slot is = ap (λ (x : Option Slot). is_slot x slot) is ∙ itself slot.0

-- the slot that a step moves, and its record
pub record Own (s : SliceState) (agent : Agent) (l : Line) (step : Step) (r : RequesterState) (from : Position) (slot : Slot) : Type 0 where
  pub is : moved_slot (line s l.0) agent step ≡ Some slot
  pub low : slot.0 < 8
  pub at_line : (slot_record_at r.slots slot.0).line.0 ≡ l.0
  pub tells : position_of_state (slot_record_at r.slots slot.0).state (slot_record_at r.slots slot.0).answered ≡ Some from
  pub typed : is_of_type s.config.profile (slot_record_at r.slots slot.0).credit (line s l.0) agent.0 slot ≡ true

slot_low : (s : SliceState) (n l : ℕ) (slot : Slot) (at : Position) → SlotsInRange s → n < 8 → is_line_in_range s l ≡ true → position_at (line s l) n slot ≡ Some at → slot.0 < 8
slot_low s n l slot at numbers low here shows = dite (dec_le 8 slot.0)
    (λ high. let none : position_at (line s l) n slot ≡ None = unused_shows (line s l) n slot (numbers.unused n slot l low high here) in absurd (cc (none, shows)))
    (λ inside. omega arith)

pub own_at : (s : SliceState) (agent : Agent) (l : Line) (step : Step) (r : RequesterState) (from : Position) (slot : Slot) → Ready s agent l step r → moved_slot (line s l.0) agent step ≡ Some slot
    → moved_from (line s l.0) agent step ≡ Some from → Own s agent l step r from slot
own_at s agent l step r from slot ready is is_from =
    let shows : position_at (line s l.0) agent.0 slot ≡ Some from = ready.moves.found slot (is_itself (moved_slot (line s l.0) agent step) slot is) ∙ is_from in
    let low : slot.0 < 8 = slot_low s agent.0 l.0 slot from ready.numbers ready.low ready.here shows in
    let own = (ready.matching slot low).lines l.0 ready.here in
    let tells : ((slot_record_at r.slots slot.0).line.0 ≡ l.0) × (position_of_state (slot_record_at r.slots slot.0).state (slot_record_at r.slots slot.0).answered ≡ Some from) = record_is (slot_record_at r.slots slot.0) l.0 from (sym own.place ∙ shows) in
    record { is = is; low = low; at_line = tells.0; tells = tells.1; typed = own.type from shows }

-- its record becomes another one, and all slots follow
pub slot_moves : (s : SliceState) (agent : Agent) (l : Line) (step : Step) (r : RequesterState) (from : Position) (slot : Slot) (y : SlotRecord) → Ready s agent l step r → Own s agent l step r from slot → issued_slot step ≡ None
    → Becomes (slot_record_at r.slots slot.0) y (moved_to (line s l.0) agent step) → AllFollow s agent l step r.slots (slice_set r.slots slot.0 y)
slot_moves s agent l step r from slot y ready own unissued b =
    let x : SlotRecord = slot_record_at r.slots slot.0 in
    one_moves s agent l step r.slots slot y ready.eight ready.here ready.moves own.is ready.matching
    (moves_to s agent l step slot x y ready.moves (is_itself (moved_slot (line s l.0) agent step) slot own.is) (only_there l.0 x own.at_line) (only_after x y l.0 (moved_to (line s l.0) agent step) own.at_line b) (says_here x y l.0 (moved_to (line s l.0) agent step) own.at_line b)
    (λ at is. subst (λ ty. is_of_type s.config.profile ty (left_line s agent l step) agent.0 slot ≡ true) (sym (b.credit at is)) (ready.moves.types slot x.credit (ap (λ (o : Option Slot). is_slot o slot) unissued) own.typed)))

-- no slot moves
pub no_slot_moves : (s : SliceState) (agent : Agent) (l : Line) (step : Step) (r : RequesterState) → Ready s agent l step r → moved_slot (line s l.0) agent step ≡ None → AllFollow s agent l step r.slots r.slots
no_slot_moves s agent l step r ready none = none_moves s agent l step r.slots ready.here ready.moves none ready.matching

-- the counts
counts_stay : (s : SliceState) (entry : Option Record) (counts : List ℕ) → entry ≡ None → CountsFollow s entry counts counts
counts_stay s entry counts none = subst (λ (o : Option Record). CountsFollow s o counts counts) (sym none) (record { here = refl; there = λ other away. refl })

counts_grow : (s : SliceState) (entry : Record) (counts : List ℕ) → s.index < 8 → length counts ≡ 8 → CountsFollow s (Some entry) counts (slice_set counts s.index (counted (slice_index counts s.index)))
counts_grow s entry counts low eight = record {
  here = get_or-set_same counts s.index (counted (slice_index counts s.index)) 0 (omega arith);
  there = λ other away. get_or-set_other counts s.index other (counted (slice_index counts s.index)) 0 away;
}

counts_follow : (s : SliceState) (agent : Agent) (l : Line) (step : Step) (r : RequesterState) → Ready s agent l step r → CountsFollow s (record_of (line s l.0) (action_of agent l step)) r.counts (counts_after (place_at s (action_of agent l step)) step r.counts)
counts_follow s agent l (steps.Load word) r ready = counts_grow s _ r.counts ready.index ready.counts
counts_follow s agent l (steps.Store word value) r ready = counts_grow s _ r.counts ready.index ready.counts
counts_follow s agent l other r ready = counts_stay s None r.counts refl

-- what a step asks of its requester, and that its slots follow
pub record Fine (s : SliceState) (agent : Agent) (l : Line) (step : Step) (r : RequesterState) (effect : Effect) : Type 0 where
  pub can : CanFinish (place_at s (action_of agent l step)) step effect r
  pub after : (released : Option Released) (r' : RequesterState) → Finishes (place_at s (action_of agent l step)) step effect released r r' → OwnFollows s agent l step r r'

-- a step that completes nothing
abbrev SlotsFine : SliceState → Agent → Line → Step → RequesterState → Type 0
SlotsFine s agent l step r = CanFollow (place_at s (action_of agent l step)) step r × AllFollow s agent l step r.slots (account_after (place_at s (action_of agent l step)) step r.slots)

after_step_follows : (s : SliceState) (agent : Agent) (l : Line) (step : Step) (r r' : RequesterState) → Ready s agent l step r → SlotsFine s agent l step r → r' ≡ requester_after (place_at s (action_of agent l step)) step r → OwnFollows s agent l step r r'
after_step_follows s agent l step r r' ready f is = subst (OwnFollows s agent l step r) (sym is) (record { number = refl; slots = f.1; counts = counts_follow s agent l step r ready })

pub fine_step : (s : SliceState) (agent : Agent) (l : Line) (step : Step) (r : RequesterState) → Ready s agent l step r → SlotsFine s agent l step r → Fine s agent l step r Nothing
fine_step s agent l step r ready f = record { can = f.0; after = λ released r' done. after_step_follows s agent l step r r' ready f done.1 }

pub fine_load : (s : SliceState) (agent : Agent) (l : Line) (step : Step) (r : RequesterState) (value : ℕ) → Ready s agent l step r → SlotsFine s agent l step r → Fine s agent l step r (Value value)
fine_load s agent l step r value ready f = record { can = f.0; after = λ released r' done. after_step_follows s agent l step r r' ready f done.1 }

pub issue_fine : (s : SliceState) (agent : Agent) (l : Line) (kind : Kind) (slot : Slot) (r : RequesterState) → Ready s agent l (steps.Issue kind slot) r → slot.0 < 8 → state_at r.slots slot.0 ≡ states.Idle → SlotsFine s agent l (steps.Issue kind slot) r
issue_fine s agent l kind slot r ready low idle =
    let new : SlotRecord = opened_slot l (credit_type_of s.config.profile kind) in (
      (low, idle),
      one_moves s agent l (steps.Issue kind slot) r.slots slot new ready.eight ready.here ready.moves refl ready.matching
          (moves_to s agent l (steps.Issue kind slot) slot (slot_record_at r.slots slot.0) new ready.moves (is_itself (Some slot) slot refl)
          (only_nowhere l.0 (slot_record_at r.slots slot.0) (ap (λ (z : SlotState). position_of_state z (slot_record_at r.slots slot.0).answered) idle)) (only_there l.0 new refl) (record_here new l.0 (Some places.Sent) refl refl)
          (λ at is. ready.moves.issued_type kind slot refl (is_itself (Some slot) slot refl))),
    )

-- a step that changes the record of the slot that it moves, whose state is as its place says
pub change_fine : (s : SliceState) (agent : Agent) (l : Line) (step : Step) (r : RequesterState) (from : Position) (condition : ℕ → Type 0) (change : SlotRecord → SlotRecord) → Ready s agent l step r
    → always_moves step ≡ true → moved_from (line s l.0) agent step ≡ Some from → issued_slot step ≡ None
    → ((slot : Slot) → Own s agent l step r from slot → condition slot.0 × Becomes (slot_record_at r.slots slot.0) (change (slot_record_at r.slots slot.0)) (moved_to (line s l.0) agent step))
    → SlotMeets (moved_slot (line s l.0) agent step) condition × AllFollow s agent l step r.slots (changed_at (moved_slot (line s l.0) agent step) change r.slots)
change_fine s agent l step r from condition change ready moving is_from unissued meets =
    let found = some_slot (moved_slot (line s l.0) agent step) (ready.moves.there moving) in
    let own : Own s agent l step r from found.0 = own_at s agent l step r from found.0 ready found.1 is_from in
    let met = meets found.0 own in
    subst (λ (o : Option Slot). SlotMeets o condition × AllFollow s agent l step r.slots (changed_at o change r.slots)) (sym found.1) ((own.low, met.0), slot_moves s agent l step r from found.0 _ ready own unissued met.1)

pub admitted_answers : (state : SlotState) → is_admitted state ≡ true → can_be_answered state ≡ true
admitted_answers states.Idle h = absurd (cc (h))
admitted_answers (states.Admitted entry) h = refl
admitted_answers other h = absurd (cc (h))

-- a request at the home that is answered
pub answer_fine : (s : SliceState) (agent : Agent) (l : Line) (step : Step) (r : RequesterState) → Ready s agent l step r → always_moves step ≡ true → moved_from (line s l.0) agent step ≡ Some places.Admitted → moved_to (line s l.0) agent step ≡ Some places.Answered → issued_slot step ≡ None
    → SlotMeets (moved_slot (line s l.0) agent step) (λ k. can_be_answered (state_at r.slots k) ≡ true) × AllFollow s agent l step r.slots (changed_at (moved_slot (line s l.0) agent step) after_answer r.slots)
answer_fine s agent l step r ready moving is_from to unissued = change_fine s agent l step r places.Admitted (λ k. can_be_answered (state_at r.slots k) ≡ true) after_answer ready moving is_from unissued
    (λ slot own. let state = tells_of (slot_record_at r.slots slot.0) places.Admitted own.tells in
    (admitted_answers (state_at r.slots slot.0) state.0, subst (Becomes (slot_record_at r.slots slot.0) (after_answer (slot_record_at r.slots slot.0))) (sym to) (answered (slot_record_at r.slots slot.0) state.0)))

-- Comp_UC answers, and Comp_I ends a request that is closing
pub comp_fine : (s : SliceState) (agent : Agent) (l : Line) (r : RequesterState) (there : Option RspDown) → Ready s agent l steps.RecvComp r → (cells_of (line s l.0) agent.0).rsp_down ≡ there → is_comp there ≡ true → SlotsFine s agent l steps.RecvComp r
comp_fine s agent l r (Some CompUC) ready rsp h = answer_fine s agent l steps.RecvComp r ready refl (ap completed_from rsp) (ap completed_to rsp) refl
comp_fine s agent l r (Some CompI) ready rsp h = change_fine s agent l steps.RecvComp r places.Closing (λ k. can_be_answered (state_at r.slots k) ≡ true) after_answer ready refl (ap completed_from rsp) refl
    (λ slot own. let state = tells_of (slot_record_at r.slots slot.0) places.Closing own.tells in
    (ap can_be_answered state, subst (Becomes (slot_record_at r.slots slot.0) (after_answer (slot_record_at r.slots slot.0))) (sym (ap completed_to rsp)) (closed (slot_record_at r.slots slot.0) state)))
comp_fine s agent l r other ready rsp h = absurd (cc (h))

-- a request that the home completes
completes : (s : SliceState) (agent : Agent) (l : Line) (step : Step) (r : RequesterState) (from : Position) (slot : Slot) → Ready s agent l step r → Own s agent l step r from slot → issued_slot step ≡ None → record_of (line s l.0) (action_of agent l step) ≡ None
    → is_admitted (state_at r.slots slot.0) ≡ true → Becomes (slot_record_at r.slots slot.0) (after_finish (slot_record_at r.slots slot.0)) (moved_to (line s l.0) agent step) → Fine s agent l step r (Completed slot)
completes s agent l step r from slot ready own unissued unrecorded admitted b = record {
  can = (own.low, admitted);
  after = λ released r' done. by_release released r' done.0 done.1;
}
  where
    by_release : (released : Option Released) (r' : RequesterState) → IfNone released ⊥ → IfSome released (λ z. CompletesRequest slot.0 z r r') → OwnFollows s agent l step r r'
    by_release None r' none some = absurd none
    by_release (Some z) r' none some = subst (OwnFollows s agent l step r) (sym some.after) (record {
      number = refl;
      slots = slot_moves s agent l step r from slot (after_finish (slot_record_at r.slots slot.0)) ready own unissued b;
      counts = counts_stay s (record_of (line s l.0) (action_of agent l step)) r.counts unrecorded;
    })

no_slot : (o : Option Slot) → o ≡ None → is_some o ≡ true → ⊥
no_slot o is some = cc (is, some)

-- CompAck and write data end a request that was answered
pub fine_end : (s : SliceState) (agent : Agent) (l : Line) (step : Step) (r : RequesterState) (effect : Effect) → Ready s agent l step r → always_moves step ≡ true → moved_slot (line s l.0) agent step ≡ completed_slot effect
    → moved_from (line s l.0) agent step ≡ Some places.Answered → moved_to (line s l.0) agent step ≡ None → issued_slot step ≡ None → record_of (line s l.0) (action_of agent l step) ≡ None → Fine s agent l step r effect
fine_end s agent l step r (Completed slot) ready moving is from to unissued unrecorded =
    let own : Own s agent l step r places.Answered slot = own_at s agent l step r places.Answered slot ready is from in
    let state = tells_of (slot_record_at r.slots slot.0) places.Answered own.tells in
    completes s agent l step r places.Answered slot ready own unissued unrecorded state.0 (subst (Becomes (slot_record_at r.slots slot.0) (after_finish (slot_record_at r.slots slot.0))) (sym to) (ended (slot_record_at r.slots slot.0) state.1))
fine_end s agent l step r other ready moving is from to unissued unrecorded = absurd (no_slot (moved_slot (line s l.0) agent step) is (ready.moves.there moving))

-- a start completes an Evict
pub fine_start : (s : SliceState) (agent : Agent) (l : Line) (r : RequesterState) (effect : Effect) → Ready s agent l steps.Start r → moved_slot (line s l.0) agent steps.Start ≡ completed_slot effect → Fine s agent l steps.Start r effect
fine_start s agent l r Nothing ready is = fine_step s agent l steps.Start r ready (tt, no_slot_moves s agent l steps.Start r ready is)
fine_start s agent l r (Value word) ready is = fine_load s agent l steps.Start r word ready (tt, no_slot_moves s agent l steps.Start r ready is)
fine_start s agent l r (Completed slot) ready is =
    let own : Own s agent l steps.Start r places.Admitted slot = own_at s agent l steps.Start r places.Admitted slot ready is (ap (λ (o : Option Slot). if_moved o places.Admitted) is) in
    let state = tells_of (slot_record_at r.slots slot.0) places.Admitted own.tells in
    completes s agent l steps.Start r places.Admitted slot ready own refl refl state.0
    (subst (Becomes (slot_record_at r.slots slot.0) (after_finish (slot_record_at r.slots slot.0))) (sym (ap (λ (o : Option Slot). if_moved o places.Closing) is)) (closes (slot_record_at r.slots slot.0) state.1))

-- a request that arrives at the home
pub arrival_follows : (s : SliceState) (agent : Agent) (l : Line) (step : Step) (r : RequesterState) (from : Position) (slot : Slot) (state : SlotState) (port : PortView) (history : List Act) → Ready s agent l step r → Own s agent l step r from slot → issued_slot step ≡ None → record_of (line s l.0) (action_of agent l step) ≡ None
    → position_of_state state (slot_record_at r.slots slot.0).answered ≡ moved_to (line s l.0) agent step → OwnFollows s agent l step r (with_both port history (slots_with_state r.slots slot.0 state) r)
arrival_follows s agent l step r from slot state port history ready own unissued unrecorded to = record {
  number = refl;
  slots = slot_moves s agent l step r from slot (in_state state (slot_record_at r.slots slot.0)) ready own unissued (restated (slot_record_at r.slots slot.0) state (moved_to (line s l.0) agent step) to);
  counts = counts_stay s (record_of (line s l.0) (action_of agent l step)) r.counts unrecorded;
}
