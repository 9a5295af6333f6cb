-- What a start that isn't refused finds, and on which channels it sends.
use Rattle.std.proofs.Common.{◌≡◌, ℕ, Bool, true, false, Option, Some, None, List, refl, ap, ◌∙◌, is_some, if◌then◌else◌, rules}
use Rattle.chi_flit.specs.declared.numbers.Agent.{Agent}
use Rattle.chi_flit.specs.declared.numbers.Slot.{Slot}
use Rattle.chi_flit.specs.declared.kind.Kind.{Kind}
use Rattle.chi_flit.specs.declared.kind.Kind.TheVariants.{ReadNotSharedDirty, ReadShared, ReadUnique, CleanUnique, Evict}
use Rattle.chi_flit.specs.declared.snoop.Snoop.{Snoop}
use Rattle.chi_flit.specs.declared.snoop.Snoop.TheVariants.{SnpShared, SnpNotSharedDirty, SnpUnique, SnpCleanInvalid}
use Rattle.chi_flit.specs.declared.action.Effect.TheVariants.{Nothing}
use Rattle.chi_flit.specs.declared.refusal.Refusal.{Refusal}
use Rattle.chi_flit.specs.declared.refusal.Refusal.TheVariants.{LineBusy, NotWaiting}
use Rattle.chi_flit.specs.Message.{channel_of}
use Rattle.chi_flit.specs.Kind.{snoop_of}
use Rattle.chi_filter.specs.Filter.{has_any}
use Rattle.chi_wires.specs.declared.cells.Cells.{Cells}
use Rattle.chi_wires.specs.Cell.{cell_of}
use Rattle.chi_homeline.specs.declared.serving.CompletionForm.{CompletionForm}
use Rattle.chi_homeline.specs.declared.serving.CompletionForm.TheVariants as forms
use Rattle.chi_homeline.specs.declared.serving.Waiting.{Waiting}
use Rattle.chi_homeline.specs.Home.Started.{Sends, Snoops}
use Rattle.chi_line.specs.Step.{completed_slot, slot_of_evict, slot_unless, started_effect, waiting_effect}
use Rattle.chi_homeline.specs.Home.{Home, asks, completion_of, form_message, is_idle, served_sends, start_refusal, started_sends, started_sends_as, waiting_of}

-- a request waits, and the line is idle
pub record CanStart (home : Home) (n : ℕ) : Type 0 where
  pub request : Waiting
  pub waits : waiting_of home n ≡ Some request
  pub is_waiting : is_some (waiting_of home n) ≡ true
  pub idle : is_idle home.serving ≡ true

pub can_start : (home : Home) (n : ℕ) → start_refusal home n ≡ None → CanStart home n
can_start home n h =
    let found = go (waiting_of home n) (is_idle home.serving) h in
    record { request = found.0; waits = found.1; is_waiting = found.2; idle = found.3 }
  where
    go : (w : Option Waiting) (b : Bool) → (if is_some w then (if b then None else Some LineBusy) else Some NotWaiting) ≡ None → (request : Waiting) × (w ≡ Some request) × (is_some w ≡ true) × (b ≡ true)
    go None b h = absurd (cc (h))
    go (Some request) true h = (request, refl, refl, refl)
    go (Some request) false h = absurd (cc (h))

-- a completion finds its cell empty where both cells of responses to its agent are
pub completion_down : (form : CompletionForm) (sent : List ℕ) (cells : Cells) → cells.rsp_down ≡ None → cells.dat_down ≡ None → cell_of cells (channel_of (form_message form sent)) ≡ None
completion_down (forms.Data unique) sent cells r d = search (rules, d)
completion_down forms.NoData sent cells r d = search (rules, r)

-- a request that is served by a snoop is not complete with its start
pub served_effect : (home : Home) (kind : Kind) (snoop : Snoop) (agent : Agent) → started_effect (served_sends home kind snoop agent) ≡ Nothing
served_effect home kind snoop agent = go (has_any (asks kind home.filter agent.0))
  where
    go : (b : Bool) → started_effect (if b then Snoops snoop (asks kind home.filter agent.0) else Sends (completion_of home kind agent home.memory)) ≡ Nothing
    go true = refl
    go false = refl

-- the slot that a start would complete
evicted_by : (kind : Kind) (slot : Slot) (home : Home) (agent : Agent) → completed_slot (started_effect (started_sends_as kind (snoop_of kind) home agent slot)) ≡ slot_of_evict kind slot
evicted_by ReadNotSharedDirty slot home agent = ap completed_slot (served_effect home ReadNotSharedDirty SnpNotSharedDirty agent)
evicted_by ReadShared slot home agent = ap completed_slot (served_effect home ReadShared SnpShared agent)
evicted_by ReadUnique slot home agent = ap completed_slot (served_effect home ReadUnique SnpUnique agent)
evicted_by CleanUnique slot home agent = ap completed_slot (served_effect home CleanUnique SnpCleanInvalid agent)
evicted_by Evict slot home agent = refl
evicted_by copy_back slot home agent = refl

pub evicted_slot_is : (home : Home) (agent : Agent) (request : Waiting) → waiting_of home agent.0 ≡ Some request → start_refusal home agent.0 ≡ None
    → slot_unless (start_refusal home agent.0) (waiting_effect home agent (waiting_of home agent.0)) ≡ slot_of_evict request.kind request.slot
evicted_slot_is home agent request w free =
    ap (λ (r : Option Refusal). slot_unless r (waiting_effect home agent (waiting_of home agent.0))) free
    ∙ (ap (λ (o : Option Waiting). slot_unless None (waiting_effect home agent o)) w
    ∙ evicted_by request.kind request.slot home agent)
