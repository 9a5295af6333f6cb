-- Who may still send a report, and the rule of the channel (docs/FORMATS.md, "Reports and tallies").
use Rattle.std.specs.Prelude.{◌≡◌, ℕ, ◌+◌, ◌≤◌, Bool, true, false, ◌&&◌, ◌==◌, nat_le, List, [], ◌∷◌, ◌++◌, length, Option, Some, None, ⊤, if◌then◌else◌}
use mathlib.Core.Option.{some}
use lib.ListN.{get_elem?}
use Rattle.atomic_table.specs.Seated.{TableId}
use Rattle.atomic_table.specs.declared.badge.Badge.{Badge}
use Rattle.crossbeam_channel.specs.declared.flavors.array.Key.{Key}
use Rattle.chi_audit.specs.declared.reports.Report.{Report}
use Rattle.chi_audit.specs.declared.report_view.ReportView.{ReportView}

-- it opens outboxes for the agents from this one on, and received and knows of nothing
abbrev pub opener : ℕ → ReportView
opener from = record { opens = true; sends = false; from = from; got = []; told = [] }

-- it may send one report of this agent
abbrev pub sender_view : ℕ → ReportView
sender_view agent = record { opens = false; sends = true; from = agent; got = []; told = [] }

-- it sent this report
abbrev pub teller_view : Report → ReportView
teller_view r = record { opens = false; sends = false; from = 0; got = []; told = r ∷ [] }

-- nothing is left to it
abbrev pub spent_view : ReportView
spent_view = record { opens = false; sends = false; from = 0; got = []; told = [] }

-- 1 where it is so
abbrev pub one_if : Bool → ℕ
one_if b = if b then 1 else 0

-- how many reports of the agent are in the list
abbrev pub times : ℕ → List Report → ℕ
times a [] = 0
times a (r ∷ rs) = one_if (r.agent.0 == a) + times a rs

-- 1 where there is one
abbrev pub there : Option Report → ℕ
there None = 0
there (Some r) = 1

-- 1 where the pass may still send the agent's report or open its outbox
abbrev pub may_tell : ℕ → ReportView → ℕ
may_tell a v = one_if (v.sends && (v.from == a)) + one_if (v.opens && nat_le v.from a)

-- the same of all passes
abbrev pub report_total : ℕ → List ReportView → ℕ
report_total a [] = 0
report_total a (v ∷ vs) = may_tell a v + report_total a vs

-- each report of the list is the one that its agent sent
abbrev pub AreSent : (ℕ → Option Report) → List Report → Type 0
AreSent sent [] = ⊤
AreSent sent (r ∷ rs) = (sent r.agent.0 ≡ Some r) × AreSent sent rs

-- There is a map of what was sent: each agent sent one report at most, and then no pass may send another. Each
-- report that was sent is in the channel or was received, once, and nothing else is. One pass receives.
pub record OneEach (items : List Report) (views : List ReportView) : Type 0 where
  pub sent : ℕ → Option Report
  pub got : List Report
  pub seat : ℕ
  pub one : (a : ℕ) → report_total a views + there (sent a) ≤ 1
  pub each : (a : ℕ) → times a items + times a got ≡ there (sent a)
  pub queued : AreSent sent items
  pub received : AreSent sent got
  pub reader : (pass : ℕ) (v : ReportView) → get_elem? views pass ≡ some v → v.opens ≡ true
      → (pass ≡ seat) × (v.got ≡ got)
  pub known : (pass : ℕ) (v : ReportView) → get_elem? views pass ≡ some v → AreSent sent v.told

-- the first report of the agent
abbrev pub first_report : ℕ → List Report → Option Report
first_report a [] = None
first_report a (r ∷ rs) = if r.agent.0 == a then Some r else first_report a rs

-- where a report of the agent is told, it is this one
abbrev pub IsAsTold : List Report → Report → Type 0
IsAsTold told r = (t : Report) → first_report r.agent.0 told ≡ Some t → r ≡ t

-- each report that is told was received
abbrev pub AreReceived : List Report → List Report → Type 0
AreReceived told got = (a : ℕ) (t : Report) → first_report a told ≡ Some t → first_report a got ≡ Some t

-- the report was received, as it was told
pub record IsTaken (v : ReportView) (r : Report) (w : ReportView) : Type 0 where
  pub view : w ≡ record v { got = v.got ++ r ∷ [] }
  pub as_told : IsAsTold v.told r

-- where nothing is in the channel, all that is told was received
abbrev pub IsOver : ReportView → List Report → Type 0
IsOver v items = length items ≡ 0 → AreReceived v.told v.got

-- which channel an end belongs to
pub record ChannelName : Type 0 where
  pub table : TableId
  pub key : Badge (Key Report)

-- an outbox: its agent, and its channel
pub record OutboxState : Type 0 where
  pub agent : ℕ
  pub channel : ChannelName

-- a report that was sent, and its channel
pub record SentState : Type 0 where
  pub report : Report
  pub channel : ChannelName

-- an inbox: what it received, the oldest first; of which reports it is told that they were sent; whether a
-- receive failed; its channel, and for how many reports that has room
pub record InboxState : Type 0 where
  pub got : List Report
  pub told : List Report
  pub failed : Bool
  pub channel : ChannelName
  pub room : ℕ

-- an outbox of the channel
abbrev pub outbox_at : ChannelName → ℕ → OutboxState
outbox_at channel agent = record { agent = agent; channel = channel }

-- an inbox of the channel, which has that room, that received nothing
abbrev pub empty_inbox : ChannelName → ℕ → InboxState
empty_inbox channel room = record { got = []; told = []; failed = false; channel = channel; room = room }

-- the inbox received the report, and where the agent's is told it is that
pub record IsReceived (i : InboxState) (r : Report) (i' : InboxState) : Type 0 where
  pub state : i' ≡ record i { got = i.got ++ r ∷ [] }
  pub as_told : IsAsTold i.told r

-- a receive failed, and all that is told was received
pub record HasFailed (i i' : InboxState) : Type 0 where
  pub state : i' ≡ record i { failed = true }
  pub all : AreReceived i.told i.got
