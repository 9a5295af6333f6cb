-- A witness of a tracker's history: it knows the longest history that a port which told it of itself knew, and
-- so joins what ports know, each of which keeps its own seat.
use Rattle.std.specs.Prelude.{◌≡◌, ◌⊎◌, ℕ, ◌<◌, Bool, true, false, List, [], ◌∷◌, ◌++◌, All, length, cond, ◌==◌}
use Rattle.atomic_table.specs.Table.{State, Me}
use Rattle.atomic_table.specs.Seated.{TableId}
use Rattle.chi_tracker.specs.declared.shape.Shape.{Shape}
use Rattle.chi_tracker.specs.declared.view.SeatView.{SeatView}
use Rattle.chi_tracker.specs.Acts.{Act}
use Rattle.chi_tracker.specs.declared.step.AtomicStep.{AtomicStep}
use Rattle.chi_tracker.specs.declared.step.AtomicStep.TheVariants.{Claim, Free, Note, Owe, Look, Settle, Promise, See, Spend, Return}
use Rattle.chi_tracker.specs.Views.{PortView, new_port}
use Rattle.chi_tracker.specs.Rule.{TrackerRule}
use Rattle.chi_tracker.specs.Steps.{no_shape}
use Rattle.chi_tracker.specs.History.{port_at, longer, IsAfter, Did}
use Rattle.chi_tracker.specs.Calls.{Owner}
use Rattle.chi_tracker.specs.Laws.{all_ports, Places, Ledgers, AllKnow}

-- which tracker's it is, and the history that it knows
pub record WitnessState : Type 0 where
  pub table : TableId
  pub history : List Act

-- a port of requester n, which knows the history `own`, told a witness, which went on from `old` to `new`: to
-- the longer of the two, in which n did nothing after `own`
pub record Told (n : ℕ) (own old new : List Act) : Type 0 where
  pub port : Did n [] own new
  pub on : (later : List Act) × (new ≡ later ++ old)
  pub one : (new ≡ old) ⊎ (new ≡ own)

-- the history goes on from that of each port, whose requester did nothing later
abbrev pub GoesOnFromEach : List Owner → List Act → Type 0
GoesOnFromEach owners history = All (λ o. Did o.port.who [] o.history history) owners

-- There is one state of the words and of all ports that keeps the tracker's rule, and all its ports are these,
-- in this order: in it each entry is in one place, the ledgers hold, and what each port knows is so.
pub record AreAllPorts (s : Shape) (ports : List PortView) : Type 0 where
  pub state : State ℕ SeatView
  pub rule : TrackerRule s state
  pub all : all_ports state.views ≡ ports
  pub places : Places s state
  pub ledgers : Ledgers s state
  pub known : AllKnow s state

-- one history leaves each of these ports as it is, and they are those of all requesters, in rising order
pub record AreAfter (s : Shape) (history : List Act) (ports : List PortView) : Type 0 where
  pub count : length ports ≡ s.agents
  pub shapes : (n : ℕ) → n < s.agents → (port_at ports n).shape ≡ s
  pub numbers : (n : ℕ) → n < s.agents → (port_at ports n).who ≡ n
  pub after : (n : ℕ) → n < s.agents → IsAfter history (port_at ports n)

-- Whether one seat's history goes on from another's, as a test: acts as numbers, and lists of these compared.
abbrev pub step_code : AtomicStep → List ℕ
step_code (Claim t e) = 0 ∷ t ∷ e ∷ 0 ∷ []
step_code (Free e) = 1 ∷ e ∷ 0 ∷ 0 ∷ []
step_code (Note t) = 2 ∷ t ∷ 0 ∷ 0 ∷ []
step_code (Owe k) = 3 ∷ k ∷ 0 ∷ 0 ∷ []
step_code (Look t m) = 4 ∷ t ∷ m ∷ 0 ∷ []
step_code (Settle e m k) = 5 ∷ e ∷ m ∷ k ∷ []
step_code (Promise e m) = 6 ∷ e ∷ m ∷ 0 ∷ []
step_code (See i) = 7 ∷ i ∷ 0 ∷ 0 ∷ []
step_code (Spend t e) = 8 ∷ t ∷ e ∷ 0 ∷ []
step_code (Return t e) = 9 ∷ t ∷ e ∷ 0 ∷ []

abbrev pub code : List Act → List ℕ
code [] = []
code (a ∷ acts) = a.who ∷ a.found ∷ (step_code a.step ++ code acts)

abbrev pub same : List ℕ → List ℕ → Bool
same [] [] = true
same [] (y ∷ ys) = false
same (x ∷ xs) [] = false
same (x ∷ xs) (y ∷ ys) = cond (x == y) (same xs ys) false

-- the act is of none of these ports
abbrev pub is_others : List PortView → Act → Bool
is_others [] a = true
is_others (p ∷ ps) a = cond (a.who == p.who) false (is_others ps a)

-- the new history goes on from the old with acts of none of these ports
abbrev pub goes_on_from : List PortView → List Act → List Act → Bool
goes_on_from ps old [] = same (code old) []
goes_on_from ps old (a ∷ new) = cond (same (code old) (code (a ∷ new))) true (cond (is_others ps a) (goes_on_from ps old new) false)

abbrev pub agree : SeatView → SeatView → Bool
agree v w = cond (goes_on_from v.ports v.history w.history) true (goes_on_from w.ports w.history v.history)

-- what no seat can know: a port of no tracker
abbrev pub impossible : SeatView
impossible = record { ports = new_port no_shape 0 ∷ []; history = [] }

-- two seats in one, where their histories agree; it is always so
abbrev pub joined : SeatView → SeatView → SeatView
joined v w = cond (agree v w) (record { ports = w.ports ++ v.ports; history = longer w.history v.history }) (impossible)

-- what a load tells of a seat: the history that it knows leaves each of its ports as it is
abbrev pub IsKnown : SeatView → Type 0
IsKnown v = (i : ℕ) → i < length v.ports → IsAfter v.history (port_at v.ports i)

-- a seat of no port
abbrev pub IsOfNone : Me ℕ SeatView → Type 0
IsOfNone m = m ≡ (record { ports = []; history = m.0.history }, [])
