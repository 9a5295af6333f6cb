-- The history of a tracker: what its acts, one after the other, make of the words and of all ports; and
-- the rule of the table, that there is such a history (docs/PROTOCOL.md, "The rule between steps").
use Rattle.std.specs.Prelude.{◌≡◌, ◌⊎◌, ℕ, ◌<◌, List, [], ◌∷◌, ◌++◌, length, replicate, map, slice_index, slice_index_or, slice_set, cond, ltb, All}
use Rattle.atomic_table.specs.Table.{State, Me}
use Rattle.chi_tracker.specs.declared.shape.Shape.{Shape}
use Rattle.chi_tracker.specs.declared.view.SeatView.{SeatView}
use Rattle.chi_tracker.specs.Acts.{Act, done_by}
use Rattle.chi_tracker.specs.declared.step.AtomicStep.{AtomicStep}
use Rattle.chi_tracker.specs.Sums.{total}
use Rattle.chi_tracker.specs.Shape.{IsShape}
use Rattle.chi_tracker.specs.Words.{word_count}
use Rattle.chi_tracker.specs.Views.{PortView, new_port, new_ports}
use Rattle.chi_tracker.specs.Rule.{weigh}
use Rattle.chi_tracker.specs.Steps.{one, shown, solo, port_of, no_shape, word_of_step, written, effect, May}

-- the words, and the ports in the order of their requesters
pub record Whole : Type 0 where
  pub words : List ℕ
  pub ports : List PortView

-- the port at a place of a list; past its end one with nothing
abbrev pub port_at : List PortView → ℕ → PortView
port_at ports i = slice_index_or ports i (new_port no_shape 0)

-- what one act makes of the whole
abbrev pub does : Act → Whole → Whole
does a w = record {
  words = slice_set w.words (word_of_step a.step a.who) (written a.step a.found);
  ports = slice_set w.ports a.who (effect a.step a.found (port_at w.ports a.who));
}

-- what acts, of which the last stands first, make of the words and ports at the start
abbrev pub history_outcome : Shape → List Act → Whole
history_outcome s [] = record { words = replicate word_count 0; ports = new_ports s 0 s.agents }
history_outcome s (a ∷ acts) = does a (history_outcome s acts)

-- each act is one that its port could do then, and found the word as the earlier acts left it
abbrev pub Legal : Shape → List Act → Type 0
Legal s [] = IsShape s
Legal s (a ∷ acts) =
    Legal s acts × (a.who < s.agents) × May a.step (port_at (history_outcome s acts).ports a.who)
    × (a.found ≡ slice_index (history_outcome s acts).words (word_of_step a.step a.who))

-- the whole, as a table in which each port has a seat
abbrev pub table_state : Whole → State ℕ SeatView
table_state w = record { words = w.words; homes = []; views = map one w.ports }

-- p is a port of the history, as the acts left it, and has done nothing later
pub record IsPortOf (s : Shape) (acts later : List Act) (p : PortView) : Type 0 where
  pub who : p.who < s.agents
  pub is : port_at (history_outcome s acts).ports p.who ≡ p
  pub idle : done_by p.who later ≡ []

abbrev pub ArePortsOf : Shape → List Act → List Act → List PortView → Type 0
ArePortsOf s acts later [] = Unit {0}
ArePortsOf s acts later (p ∷ ps) = IsPortOf s acts later p × ArePortsOf s acts later ps

-- a seat knows the history up to the last act of its ports
pub record IsSeatOf (s : Shape) (acts : List Act) (v : SeatView) : Type 0 where
  pub later : List Act
  pub is : acts ≡ later ++ v.history
  pub ports : ArePortsOf s acts later v.ports

abbrev pub AreSeatsOf : Shape → List Act → List SeatView → Type 0
AreSeatsOf s acts [] = Unit {0}
AreSeatsOf s acts (v ∷ vs) = IsSeatOf s acts v × AreSeatsOf s acts vs

-- The rule: there is a history whose acts have made the words and the ports, and of which each seat knows
-- its part. Each port is in one seat.
pub record Reached (s : Shape) (st : State ℕ SeatView) : Type 0 where
  pub acts : List Act
  pub legal : Legal s acts
  pub words : st.words ≡ (history_outcome s acts).words
  pub seats : AreSeatsOf s acts st.views
  pub ports : (f : PortView → ℕ) → weigh f st.views ≡ total f (history_outcome s acts).ports

-- p is a port as a legal history leaves it
pub record IsAfter (history : List Act) (p : PortView) : Type 0 where
  pub legal : Legal p.shape history
  pub who : p.who < p.shape.agents
  pub is : port_at (history_outcome p.shape history).ports p.who ≡ p

-- from the history `old` to `new` requester n did these steps, the last of them first, and others did theirs
abbrev pub Did : ℕ → List (AtomicStep × ℕ) → List Act → List Act → Type 0
Did n steps old new = (later : List Act) × (new ≡ later ++ old) × (done_by n later ≡ steps)

-- a seat of no port
abbrev pub no_ports : SeatView
no_ports = record { ports = []; history = [] }

abbrev pub view_at : List SeatView → ℕ → SeatView
view_at views id = slice_index_or views id no_ports

-- each port that has a seat of its own is as the history that the seat knows leaves it
abbrev pub ViewsAre : State ℕ SeatView → Type 0
ViewsAre st = (id : ℕ) (p : PortView) (history : List Act)
    → view_at st.views id ≡ record { ports = p ∷ []; history = history } → IsAfter history p

-- the history of w goes on from that of v, with acts of which none is one of v's ports
abbrev pub GoesOnFrom : SeatView → SeatView → Type 0
GoesOnFrom v w = (later : List Act) × (w.history ≡ later ++ v.history) × All (λ p. done_by p.who later ≡ []) v.ports

-- of each two seats one knows all that the other does
abbrev pub HistoriesAgree : State ℕ SeatView → Type 0
HistoriesAgree st = (i j : ℕ)
    → GoesOnFrom (view_at st.views i) (view_at st.views j) ⊎ GoesOnFrom (view_at st.views j) (view_at st.views i)

-- of two parts of a history the longer
abbrev pub longer : List Act → List Act → List Act
longer xs ys = cond (ltb (length xs) (length ys)) ys xs

-- a step of requester n that found the word r
abbrev pub act : ℕ → AtomicStep → ℕ → Act
act n k r = record { who = n; step = k; found = r }

-- The history goes on from `old` to a step of the port p, which is the port's next one: up to it others
-- did what they did, and p was still the port.
pub record GoesOn (p : PortView) (a : Act) (old new : List Act) : Type 0 where
  pub between : List Act
  pub is : new ≡ a ∷ (between ++ old)
  pub idle : done_by p.who between ≡ []
  pub before : port_at (history_outcome p.shape (between ++ old)).ports p.who ≡ p
  pub legal : Legal p.shape (a ∷ (between ++ old))

-- the port of a seat
abbrev pub port_in : Me ℕ SeatView → PortView
port_in m = port_of (shown m)

-- What a step tells: the history goes on to it, and the view goes by the step's effect.
abbrev pub TakesEffect : AtomicStep → Me ℕ SeatView → ℕ → Me ℕ SeatView → Type 0
TakesEffect k m r w =
    (shown w ≡ solo (effect k r (port_in m)))
    × GoesOn (port_in m) (act (port_in m).who k r) m.0.history w.0.history
