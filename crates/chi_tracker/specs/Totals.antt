-- The counts of entries and credits by type, and what each requester is due (docs/PROTOCOL.md, "Words of
-- the tracker").
use Rattle.std.specs.Prelude.{◌≡◌, ℕ, ◌+◌, ◌*◌, ◌<◌, List, [], ◌∷◌, length, slice_index, slice_index_or, cond, ◌==◌}
use Rattle.atomic_table.specs.Table.{State}
use Rattle.chi_tracker.specs.declared.shape.Shape.{Shape}
use Rattle.chi_tracker.specs.declared.view.SeatView.{SeatView}
use Rattle.chi_tracker.specs.declared.totals.Counts.{Counts}
use Rattle.chi_tracker.specs.declared.totals.Credits.{Credits}
use Rattle.chi_tracker.specs.Sums.{below, total}
use Rattle.chi_tracker.specs.Shape.{count_of, owed_in}
use Rattle.chi_tracker.specs.Words.{word_count, c_of, p_of, o_of}
use Rattle.chi_tracker.specs.Views.{PortView}
use Rattle.chi_tracker.specs.Rule.{of_port, TrackerRule}
use Rattle.chi_tracker.specs.Acts.{Act}
use Rattle.chi_tracker.specs.History.{history_outcome, Legal, ArePortsOf, longer}
use Rattle.chi_tracker.specs.Laws.{duties}
use Rattle.chi_tracker.specs.Calls.{Owner}

-- to how many requesters an entry is promised
abbrev pub promises_of : List ℕ → ℕ → ℕ → ℕ
promises_of ws agents e = below (λ n. p_of ws n e) agents

-- 1 where the entry is free: its bit in C is clear
abbrev pub is_free : List ℕ → ℕ → ℕ
is_free ws e = cond (c_of ws e == 0) 1 0

-- 1 where the entry is promised: it is in some P[n]
abbrev pub is_promised : List ℕ → ℕ → ℕ → ℕ
is_promised ws agents e = cond (promises_of ws agents e == 0) 0 1

-- 1 where the entry is in hand: neither free nor promised
abbrev pub is_in_hand : List ℕ → ℕ → ℕ → ℕ
is_in_hand ws agents e = cond (c_of ws e == 0) 0 (cond (promises_of ws agents e == 0) 1 0)

-- how many credits of type t are owed to all requesters
abbrev pub owed_all : List ℕ → ℕ → ℕ → ℕ
owed_all ws t agents = below (λ n. owed_in t (o_of ws n)) agents

-- the counts are those of the words
pub record IsCount (s : Shape) (ws : List ℕ) (counts : Counts) : Type 0 where
  pub free : (t : ℕ) → t < 4 → slice_index counts.free t ≡ count_of s t (is_free ws)
  pub hand : (t : ℕ) → t < 4 → slice_index counts.hand t ≡ count_of s t (is_in_hand ws s.agents)
  pub promised : (t : ℕ) → t < 4 → slice_index counts.promised t ≡ count_of s t (is_promised ws s.agents)
  pub owed : (t : ℕ) → t < 4 → slice_index counts.owed t ≡ owed_all ws t s.agents

-- the counts are those of some words, loaded one after the other while ports may do steps
abbrev pub IsGlance : Shape → Counts → Type 0
IsGlance s counts = (words : List ℕ) × (length words ≡ word_count) × IsCount s words counts

abbrev pub no_credits : Credits
no_credits = record { due = []; owed = []; promised = [] }

abbrev pub credits_at : List Credits → ℕ → Credits
credits_at all n = slice_index_or all n no_credits

-- the views of ports
abbrev pub views_of : List Owner → List PortView
views_of [] = []
views_of (o ∷ os) = o.port ∷ views_of os

-- a sum over the port of requester n
abbrev pub sum_of : ℕ → (PortView → ℕ) → List PortView → ℕ
sum_of n f ports = total (of_port n f) ports

-- how many credits of type t requester n has spent or returned
abbrev pub paid_by : ℕ → ℕ → List PortView → ℕ
paid_by n t ports = sum_of n (λ x. slice_index x.spent t) ports + sum_of n (λ x. slice_index x.returned t) ports

-- numbers at 4 * requester + type are what is due to the ports
abbrev pub AreDue : List ℕ → List PortView → Type 0
AreDue dues ports = (n t : ℕ) → n < 8 → t < 4
    → slice_index dues (4 * n + t) + paid_by n t ports ≡ sum_of n (λ x. slice_index x.retries t) ports

-- the credits of the first m requesters, from the words and what is due
pub record AreCredits (s : Shape) (ws dues : List ℕ) (m : ℕ) (credits : List Credits) : Type 0 where
  pub requesters : length credits ≡ m
  pub owed : (n t : ℕ) → n < m → t < 4 → slice_index (credits_at credits n).owed t ≡ owed_in t (o_of ws n)
  pub promised : (n t : ℕ) → n < m → t < 4 → slice_index (credits_at credits n).promised t ≡ count_of s t (p_of ws n)
  pub due : (n t : ℕ) → n < m → t < 4 → slice_index (credits_at credits n).due t ≡ slice_index dues (4 * n + t)

-- the words and the views at the end, when one seat stands for all ports
abbrev pub closed_state : List ℕ → List PortView → State ℕ SeatView
closed_state words ports = record { words = words; homes = []; views = record { ports = ports; history = [] } ∷ [] }

-- the longest of the histories that ports know
abbrev pub longest : List Owner → List Act
longest [] = []
longest (o ∷ os) = longer o.history (longest os)

-- What the words at the end hold, beside the views of the ports that were handed in: a legal history
-- made the words and these ports, and keeps the rule of the tracker (each entry in one place, each seen
-- credit promised, the ledgers); no duty, and the numbers handed out.
pub record IsClosed (s : Shape) (ports : List PortView) (history : List Act) (counts : Counts) (credits : List Credits) : Type 0 where
  pub words : List ℕ
  pub legal : Legal s history
  pub made : words ≡ (history_outcome s history).words
  pub left : ArePortsOf s history [] ports
  pub rule : TrackerRule s (closed_state words ports)
  pub no_duty : (n t : ℕ) → duties n t ports ≡ 0
  pub counted : IsCount s words counts
  pub dues : List ℕ
  pub due : AreDue dues ports
  pub handed : AreCredits s words dues s.agents credits

-- what is due to each requester is what is owed to it and what is promised to it
abbrev pub IsBalanced : ℕ → List Credits → Type 0
IsBalanced agents credits = (n t : ℕ) → n < agents → t < 4
    → slice_index (credits_at credits n).due t ≡ slice_index (credits_at credits n).owed t + slice_index (credits_at credits n).promised t
