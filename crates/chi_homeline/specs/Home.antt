-- One line at the home, and the home's part of each action (docs/PROTOCOL.md, "One line", "The actions",
-- "Start", "Answers of snooped agents", "Completion", "The filter" and "Write data").
use Rattle.std.specs.Prelude.{◌<◌, ℕ, List, Bool, true, false, ◌&&◌, ◌||◌, ◌==◌, not, Option, Some, None, is_some, slice_set}
use Rattle.std.specs.Prelude.{replicate, if◌then◌else◌}
use Rattle.std.specs.List.{slice_index_or}
use Rattle.chi_flit.specs.declared.numbers.Agent.{Agent}
use Rattle.chi_flit.specs.declared.numbers.Slot.{Slot}
use Rattle.chi_flit.specs.declared.state.State.{State}
use Rattle.chi_flit.specs.declared.kind.Kind.{Kind}
use Rattle.chi_flit.specs.declared.kind.Kind.TheVariants.{ReadNotSharedDirty, ReadShared, ReadUnique, CleanUnique, Evict, WriteBackFull}
use Rattle.chi_flit.specs.declared.kind.Kind.TheVariants.{WriteCleanFull, WriteEvictFull}
use Rattle.chi_flit.specs.declared.snoop.Snoop.{Snoop}
use Rattle.chi_flit.specs.declared.message.RspDown.TheVariants.{CompUC, CompDBIDResp}
use Rattle.chi_flit.specs.declared.message.Msg.{Msg}
use Rattle.chi_flit.specs.declared.message.Msg.TheVariants as messages
use Rattle.chi_flit.specs.declared.refusal.Refusal.{Refusal}
use Rattle.chi_flit.specs.declared.refusal.Refusal.TheVariants.{LineBusy, NotWaiting}
use Rattle.chi_flit.specs.Kind.{gives_up, snoop_of}
use Rattle.chi_flit.specs.Message.{no_words}
use Rattle.chi_flit.specs.State.{is_dirty, is_valid}
use Rattle.chi_filter.specs.Filter.{FilterState, filter_with, empty_filter, has_any, nobody, only_named, others_than, owner_set, owner_without, filter_without, filter_without_flag}
use Rattle.chi_homeline.specs.declared.serving.Begun.{Begun}
use Rattle.chi_homeline.specs.declared.serving.Begun.TheVariants as begins
use Rattle.chi_homeline.specs.declared.serving.CompletionForm.{CompletionForm}
use Rattle.chi_homeline.specs.declared.serving.CompletionForm.TheVariants as forms
use Rattle.chi_homeline.specs.declared.serving.Waiting.{Waiting}
use Rattle.chi_homeline.specs.declared.serving.Serving.{Serving}
use Rattle.chi_homeline.specs.declared.serving.Serving.TheVariants.{Idle, Snooping, AwaitingCompAck, AwaitingWriteData}
use Rattle.chi_homeline.specs.declared.serving.SnoopAnswer.{SnoopAnswer}
use Rattle.chi_homeline.specs.declared.serving.SnoopAnswer.TheVariants as answers
use Rattle.chi_homeline.specs.declared.serving.Completion.{Completion}

-- what the home keeps of a line: while it snoops, awaited are the agents whose answer isn't in
pub record Home : Type 0 where
  pub memory : List ℕ
  pub filter : FilterState
  pub serving : Serving
  pub awaited : List Bool
  pub waiting : List (Option Waiting)

abbrev pub nothing_waits : List (Option Waiting)
nothing_waits = replicate 8 None

-- the home of these parts
abbrev pub home_of_parts : List ℕ → FilterState → Serving → List Bool → List (Option Waiting) → Home
home_of_parts memory filter serving awaited waiting = record { memory = memory; filter = filter; serving = serving; awaited = awaited; waiting = waiting }

-- memory 0, nobody named, nothing served, nothing waiting
abbrev pub idle_home : Home
idle_home = record { memory = no_words; filter = empty_filter; serving = Idle; awaited = nobody; waiting = nothing_waits }

-- the agent's request that waits
abbrev pub waiting_of : Home → ℕ → Option Waiting
waiting_of home n = slice_index_or home.waiting n None

-- Admit: the request waits
abbrev pub home_after_admit : Home → ℕ → Waiting → Home
home_after_admit home n request = record home { waiting = slice_set home.waiting n (Some request) }

-- what is left of a line when a waiting request is taken up
abbrev pub taken_up : Home → ℕ → Home
taken_up home n = record home { waiting = slice_set home.waiting n None }

-- whether a line serves no request
abbrev pub is_idle : Serving → Bool
is_idle Idle = true
is_idle other = false

-- whom a shared read asks: the one other agent that holds the line alone, else another owner
abbrev pub asks_shared : FilterState → ℕ → List Bool
asks_shared f n = if f.unique && has_any (others_than n f.named) then others_than n f.named else others_than n (owner_set f.owner)

-- whom a request asks
abbrev pub asks : Kind → FilterState → ℕ → List Bool
asks ReadNotSharedDirty f n = asks_shared f n
asks ReadShared f n = asks_shared f n
asks ReadUnique f n = others_than n f.named
asks CleanUnique f n = others_than n f.named
asks other f n = nobody

-- whether a completion leaves its agent the only one named: a shared read does where nobody else is
abbrev pub completes_unique : Kind → FilterState → ℕ → Bool
completes_unique ReadNotSharedDirty f n = not (has_any (others_than n f.named))
completes_unique ReadShared f n = not (has_any (others_than n f.named))
completes_unique ReadUnique f n = true
completes_unique CleanUnique f n = true
completes_unique other f n = false

-- the filter after a completion
abbrev pub completed_filter : Bool → FilterState → ℕ → FilterState
completed_filter true f n = only_named n
completed_filter false f n = filter_with (filter_without_flag f) n

-- Completion: the filter is as above, and the CompAck is awaited
abbrev pub home_after_completion : Home → Kind → Agent → Slot → Home
home_after_completion home kind agent slot = record home {
  filter = completed_filter (completes_unique kind home.filter agent.0) home.filter agent.0;
  serving = AwaitingCompAck agent slot;
}

-- what a start sends: a message to the agent (a completion, or CompDBIDResp), Comp_I for an Evict of this slot, which is over
-- then, or the snoop to each agent that has a mark
pub data Started : Type 0 where
  Sends : Msg → Started
  Evicted : Slot → Started
  Snoops : Snoop → List Bool → Started

-- the form of a completion: a CleanUnique's has no data
abbrev pub completion_form : Kind → Bool → CompletionForm
completion_form CleanUnique unique = forms.NoData
completion_form other unique = forms.Data unique

-- the message of a form, with the data that is sent
abbrev pub form_message : CompletionForm → List ℕ → Msg
form_message (forms.Data unique) sent = messages.DatDown (record { unique = unique; words = sent })
form_message forms.NoData sent = messages.RspDown CompUC

abbrev pub completion_message : Kind → Bool → List ℕ → Msg
completion_message kind unique sent = form_message (completion_form kind unique) sent

abbrev pub completion_of : Home → Kind → Agent → List ℕ → Msg
completion_of home kind agent sent = completion_message kind (completes_unique kind home.filter agent.0) sent

-- the home snoops for a request, or completes it at once where there is nobody to ask
abbrev pub home_after_service : Home → Kind → Agent → Slot → Home
home_after_service home kind agent slot =
    if has_any (asks kind home.filter agent.0)
    then record home { serving = Snooping agent kind slot; awaited = asks kind home.filter agent.0 }
    else home_after_completion home kind agent slot

abbrev pub served_sends : Home → Kind → Snoop → Agent → Started
served_sends home kind snoop agent =
    if has_any (asks kind home.filter agent.0)
    then Snoops snoop (asks kind home.filter agent.0)
    else Sends (completion_of home kind agent home.memory)

-- a request that is taken up: an Evict is done, its agent named no more; a copy-back is asked for its
-- write data; each other kind is served
abbrev pub started_as : Kind → Home → Agent → Slot → Home
started_as Evict home agent slot = record home { filter = filter_without home.filter agent.0 }
started_as WriteBackFull home agent slot = record home { serving = AwaitingWriteData agent WriteBackFull slot }
started_as WriteCleanFull home agent slot = record home { serving = AwaitingWriteData agent WriteCleanFull slot }
started_as WriteEvictFull home agent slot = record home { serving = AwaitingWriteData agent WriteEvictFull slot }
started_as served home agent slot = home_after_service home served agent slot

-- what is sent for it, with the kind's snoop; an Evict and the copy-backs have none
abbrev pub started_sends_as : Kind → Option Snoop → Home → Agent → Slot → Started
started_sends_as Evict snoop home agent slot = Evicted slot
started_sends_as copy_back None home agent slot = Sends (messages.RspDown CompDBIDResp)
started_sends_as kind (Some snoop) home agent slot = served_sends home kind snoop agent

-- what a start sends, with the memory as the data of a completion
abbrev pub started_with : Begun → List ℕ → Started
started_with (begins.Completes form) memory = Sends (form_message form memory)
started_with begins.WriteData memory = Sends (messages.RspDown CompDBIDResp)
started_with (begins.Evicted slot) memory = Evicted slot
started_with (begins.Snoops snoop agents) memory = Snoops snoop agents

-- Start of a request that waits
abbrev pub home_after_start : Home → Agent → Waiting → Home
home_after_start home agent request = started_as request.kind (taken_up home agent.0) agent request.slot

abbrev pub started_sends : Home → Agent → Waiting → Started
started_sends home agent request = started_sends_as request.kind (snoop_of request.kind) home agent request.slot

-- Start: 6 where the agent doesn't wait, then 5 where the line is served
abbrev pub start_refusal : Home → ℕ → Option Refusal
start_refusal home n = if is_some (waiting_of home n) then (if is_idle home.serving then None else Some LineBusy) else Some NotWaiting

-- whether the agent's CompAck is awaited
abbrev pub acks_for : Serving → ℕ → Bool
acks_for Idle n = false
acks_for (Snooping agent kind slot) n = false
acks_for (AwaitingCompAck agent slot) n = agent.0 == n
acks_for (AwaitingWriteData agent kind slot) n = false

-- whether the agent's write data is awaited
abbrev pub writes_for : Serving → ℕ → Bool
writes_for Idle n = false
writes_for (Snooping agent kind slot) n = false
writes_for (AwaitingCompAck agent slot) n = false
writes_for (AwaitingWriteData agent kind slot) n = agent.0 == n

-- the served agent is one of the eight
abbrev pub IsServedInRange : Serving → Type 0
IsServedInRange Idle = Unit {0}
IsServedInRange (Snooping agent kind slot) = agent.0 < 8
IsServedInRange (AwaitingCompAck agent slot) = agent.0 < 8
IsServedInRange (AwaitingWriteData agent kind slot) = agent.0 < 8

-- the slot of the request that is served
abbrev pub served_slot : Serving → Option Slot
served_slot Idle = None
served_slot (Snooping agent kind slot) = Some slot
served_slot (AwaitingCompAck agent slot) = Some slot
served_slot (AwaitingWriteData agent kind slot) = Some slot

-- the kind of the request that is served, until it completes
abbrev pub served_kind : Serving → Option Kind
served_kind (Snooping agent kind slot) = Some kind
served_kind (AwaitingWriteData agent kind slot) = Some kind
served_kind other = None

-- RecvAck: the line is idle
abbrev pub home_after_ack : Home → Home
home_after_ack home = record home { serving = Idle }

-- the home once an agent's answer to its snoop is in: the memory and the filter are these
abbrev pub home_with_answer : Home → ℕ → List ℕ → FilterState → Home
home_with_answer home n memory filter = record home { memory = memory; filter = filter; awaited = others_than n home.awaited }

-- the filter after an answer that leaves a copy, and no responsibility: shared
abbrev pub left_shared : FilterState → ℕ → FilterState
left_shared f n = record f { unique = false; owner = owner_without f.owner n }

-- the filter after SnpRespData_SD: shared, and its sender is the owner
abbrev pub left_owner : FilterState → Agent → FilterState
left_owner f agent = record f { unique = false; owner = Some agent }

-- the memory after an answer: the data of a _PD form
abbrev pub memory_after : SnoopAnswer → List ℕ → List ℕ
memory_after (answers.IPD words) memory = words
memory_after (answers.SCPD words) memory = words
memory_after other memory = memory

-- the filter after an answer
abbrev pub filter_after : SnoopAnswer → FilterState → Agent → FilterState
filter_after answers.SC f agent = left_shared f agent.0
filter_after (answers.SCPD words) f agent = left_shared f agent.0
filter_after (answers.SD words) f agent = left_owner f agent
filter_after none_left f agent = filter_without f agent.0

-- the data that a completion sends after an answer: the answer's own, which for a _PD form is the memory by
-- then and for SnpRespData_SD is said to be the completion's; else the memory
abbrev pub data_to_send : SnoopAnswer → List ℕ → List ℕ
data_to_send (answers.IPD words) memory = words
data_to_send (answers.SCPD words) memory = words
data_to_send (answers.SD words) memory = words
data_to_send other memory = memory

-- the home once an answer is in
abbrev pub answer_taken : Home → Agent → SnoopAnswer → Home
answer_taken home agent answer = home_with_answer home agent.0 (memory_after answer home.memory) (filter_after answer home.filter agent)

-- a request that is snooped for completes when no answer is awaited any more
abbrev pub finished_as : Serving → Home → Home
finished_as (Snooping agent kind slot) home = if has_any home.awaited then home else home_after_completion home kind agent slot
finished_as other home = home

abbrev pub finished_home : Home → Home
finished_home home = finished_as home.serving home

abbrev pub finished_sends_as : Serving → Home → List ℕ → Option Completion
finished_sends_as (Snooping agent kind slot) home sent =
    if has_any home.awaited then None else Some (record { agent = agent; message = completion_of home kind agent sent })
finished_sends_as other home sent = None

abbrev pub finished_sends : Home → List ℕ → Option Completion
finished_sends home sent = finished_sends_as home.serving home sent

-- RecvSnpResp: the answer is in, and the request completes where it was the last one
abbrev pub snoop_answered : Home → Agent → SnoopAnswer → Home
snoop_answered home agent answer = finished_home (answer_taken home agent answer)

abbrev pub snoop_answered_sends : Home → Agent → SnoopAnswer → Option Completion
snoop_answered_sends home agent answer = finished_sends (answer_taken home agent answer) (data_to_send answer home.memory)

-- whether write data in the form of a state leaves its sender without a copy: after a WriteCleanFull where
-- it had none
abbrev pub leaves : Kind → State → Bool
leaves kind form = gives_up kind || not (is_valid form)

-- the filter after write data: its sender is no owner any more
abbrev pub written_filter : Bool → FilterState → ℕ → FilterState
written_filter true f n = filter_without f n
written_filter false f n = record f { owner = owner_without f.owner n }

-- RecvWrData of a request of the kind: dirty data becomes the memory, and the line is idle
abbrev pub home_after_write : Home → ℕ → Kind → State → List ℕ → Home
home_after_write home n kind form words = record home {
  memory = if is_dirty form then words else home.memory;
  filter = written_filter (leaves kind form) home.filter n;
  serving = Idle;
}
