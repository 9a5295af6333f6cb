-- What contracts see of a tracker and of a port, and what each call does to the port's view
-- (docs/PROTOCOL.md, "Steps of the tracker").
use Rattle.std.specs.Prelude.{◌≡◌, ◌≢◌, ◌⊎◌, ℕ, zero, suc, ◌+◌, ◌-◌, ◌<◌, ◌≤◌, List, [], ◌∷◌, Option, Some, None, slice_index}
use Rattle.std.specs.Int.{bit_at}
use Rattle.atomic_table.specs.Seated.{TableId}
use Rattle.atomic_table.specs.declared.shared.Seat.{Seat}
use Rattle.chi_flit.specs.declared.numbers.Entry.{Entry}
use Rattle.chi_tracker.specs.Acts.{Act}
use Rattle.chi_tracker.specs.declared.shape.Shape.{Shape}
use Rattle.chi_tracker.specs.declared.view.SeatView.{SeatView}
use Rattle.chi_tracker.specs.Sums.{below, one_more, with_bit, without_bit, set_at}
use Rattle.chi_tracker.specs.Shape.{low, size, IsOf, IsShape}
use Rattle.chi_tracker.specs.Views.{PortView, Sweep, has, IsDue, new_port, new_ports, was_promised}
use Rattle.chi_tracker.specs.declared.released.Released.{Released}
use Rattle.chi_tracker.specs.declared.released.Released.TheVariants.{Granted, Freed}
use Rattle.chi_tracker.specs.Words.{word_count}
use Rattle.chi_tracker.specs.Steps.{SeatPorts, shown, solo, port_of, no_shape, frees, returns_credit}
use Rattle.chi_tracker.specs.History.{port_in}

-- a tracker: which table its words are, its entries by type and its requesters
pub record TrackerState : Type 0 where
  pub table : TableId
  pub shape : Shape

-- a port: which tracker's it is, its view, and the history of the tracker up to its last step, the last
-- act first
pub record Owner : Type 0 where
  pub table : TableId
  pub port : PortView
  pub history : List Act

-- a port of no tracker
abbrev pub nowhere : TableId
nowhere = record { words = 0; slots = 0; views_name = 0; atom = 0; block = 0; offset = 0; slot_names = [] }

abbrev pub no_owner : Owner
no_owner = record { table = nowhere; port = new_port no_shape 0; history = [] }

-- what a seat of one port is of
abbrev pub owner_in : Seat ℕ SeatView → Owner
owner_in seat = record { table = seat.table_id; port = port_in seat.me; history = seat.me.0.history }

abbrev pub owner_of : Option (Seat ℕ SeatView) → Owner
owner_of None = no_owner
owner_of (Some seat) = owner_in seat

-- a seat of one port, at a table of the tracker's words
abbrev pub IsSeat : TableId → Seat ℕ SeatView → Type 0
IsSeat table seat = (seat.table_id ≡ table) × (table.words ≡ word_count) × (shown seat.me ≡ solo (port_in seat.me))

-- what a port keeps between two calls: its seat stands for it alone, the seen credits and the credits
-- due are those of its view, at most 8 of a type are due, no duty and no note is open, and what is in
-- hand is one of the tracker's entries
pub record IsHeld (me : SeatPorts) (number : ℕ) (shape : Shape) (seen due : List ℕ) : Type 0 where
  pub alone : me ≡ solo (port_of me)
  pub who : (port_of me).who ≡ number
  pub near : number < shape.agents
  pub shape_is : (port_of me).shape ≡ shape
  pub shaped : IsShape shape
  pub seen_is : (port_of me).seen ≡ seen
  pub due_is : (t : ℕ) → t < 4 → IsDue (port_of me) t (slice_index due t)
  pub few : (t : ℕ) → t < 4 → slice_index due t ≤ 8
  pub no_duty : (port_of me).duty ≡ None
  pub no_note : (port_of me).noted ≡ None
  pub inside : (e : ℕ) → has e (port_of me) ≡ 1 → e < low (port_of me).shape 4

abbrev pub IsPortKept : Option (Seat ℕ SeatView) → ℕ → Shape → List ℕ → List ℕ → Type 0
IsPortKept None number shape seen due = (shape ≡ no_shape) × (seen ≡ 0 ∷ 0 ∷ 0 ∷ 0 ∷ []) × (due ≡ 0 ∷ 0 ∷ 0 ∷ 0 ∷ [])
IsPortKept (Some seat) number shape seen due = IsHeld (shown seat.me) number shape seen due

-- the first n entries of type t, as a set
abbrev pub first_entries : Shape → ℕ → ℕ → ℕ
first_entries s t zero = 0
first_entries s t (suc n) = with_bit (first_entries s t n) (low s t + n)

-- a scan of type t was opened, and has found the first n entries of the type claimed
abbrev pub port_after_scan : ℕ → ℕ → PortView → PortView
port_after_scan t n p = record p { found = first_entries p.shape t n; scans = p.scans + 1; scan_kind = t }

-- the entry e came to hand
abbrev pub into_hand : ℕ → PortView → PortView
into_hand e p = record p { hand = with_bit p.hand e }

-- How a claim of type t ends. An entry of the type, which wasn't in hand, came to hand in a scan that found each
-- lower one claimed; or none did, and each entry of the type was found claimed by the scan.
abbrev pub Claims : ℕ → Option Entry → PortView → PortView → Type 0
Claims t (Some e) p q = IsOf p.shape t e.0 × (has e.0 p ≡ 0) × (q ≡ into_hand e.0 (port_after_scan t (e.0 - low p.shape t) p))
Claims t None p q = (q ≡ port_after_scan t (size p.shape t) p) × ((e : ℕ) → IsOf p.shape t e → bit_at q.found e ≡ 1)

-- the hand after a claim that took this entry, or none
abbrev pub hand_with : Option Entry → ℕ → ℕ
hand_with (Some e) hand = with_bit hand e.0
hand_with None hand = hand

-- a seat's ports without the first
abbrev pub rest_ports : List PortView → List PortView
rest_ports [] = []
rest_ports (p ∷ ps) = ps

-- ports of one tracker
abbrev pub owners : TableId → List PortView → List Owner
owners table [] = []
owners table (p ∷ ps) = record { table = table; port = p; history = [] } ∷ owners table ps

-- the ports of a new tracker, of all requesters in rising order
abbrev pub new_owners : TableId → Shape → List Owner
new_owners table s = owners table (new_ports s 0 s.agents)

-- a port of this tracker, with its shape
abbrev pub IsOwnerAt : TrackerState → Owner → Type 0
IsOwnerAt home p = (p.table ≡ home.table) × (p.port.shape ≡ home.shape)

abbrev pub shape_of : List ℕ → ℕ → Shape
shape_of entries agents = record { sizes = entries; agents = agents }

-- one more credit of type t is owed
abbrev pub owed_one : ℕ → PortView → PortView
owed_one t p = record p { retries = one_more p.retries t }

-- one see step was done on each of the four words, which leaves these seen credits
abbrev pub saw_all : List ℕ → PortView → PortView
saw_all seen p = record p { seen = seen; sees = one_more (one_more (one_more (one_more p.sees 0) 1) 2) 3 }

-- how many entries from `start` on, n of them, are in a set
abbrev pub set_count : List ℕ → ℕ → ℕ → ℕ
set_count words start n = below (λ i. set_at words (start + i)) n

-- how many seen credits of type t a port has
abbrev pub seen_of : PortView → ℕ → ℕ
seen_of p t = set_count p.seen (low p.shape t) (size p.shape t)

-- the lowest seen credit of type t
abbrev pub IsLowestSeen : PortView → ℕ → ℕ → Type 0
IsLowestSeen p t e = IsOf p.shape t e × (set_at p.seen e ≡ 1) × ((i : ℕ) → low p.shape t ≤ i → i < e → set_at p.seen i ≡ 0)

-- a sweep of type t was opened and stands at requester m, where these bits are left; it came there only
-- with no bit left at any requester before m
abbrev pub stands_at : ℕ → ℕ → ℕ → PortView → PortView
stands_at t m left p = record p { sweep = record { opened = p.sweep.opened + 1; kind = t; at = m; left = left } }

-- a sweep of type t was opened, has looked at all requesters, and has no bit left
abbrev pub swept_all : ℕ → PortView → PortView
swept_all t p = stands_at t (p.shape.agents - 1) 0 p

-- a sweep of type t was opened and has found an owed credit of the type at a requester
pub record ShowsOwed (t : ℕ) (p q : PortView) : Type 0 where
  pub at : ℕ
  pub left : ℕ
  pub near : at < p.shape.agents
  pub shown : 0 < left
  pub is : q ≡ stands_at t at left p

-- the port's present sweep is s
abbrev pub with_sweep : Sweep → PortView → PortView
with_sweep s p = record p { sweep = s }

-- entry e left the hand: it was promised to m, and no duty is left
abbrev pub granted_to : ℕ → ℕ → PortView → PortView
granted_to m e p = record p { hand = without_bit p.hand e; duty = None; ended = was_promised e m }

-- How the release of entry e of type t ends: granted to a requester, of which a place was settled, in a
-- sweep that stands there; or freed, after a sweep of the type that has looked at every requester and has
-- no bit left.
abbrev pub LeavesHand : PortView → ℕ → ℕ → Released → PortView → Type 0
LeavesHand p t e (Granted m) q = (m.0 < p.shape.agents) × ((left : ℕ) × (q ≡ granted_to m.0 e (stands_at t m.0 left p)))
LeavesHand p t e Freed q = q ≡ frees e (swept_all t p)

-- how the release of entry e ends, by the entry's type
abbrev pub LeavesHandAsItsType : PortView → ℕ → Released → PortView → Type 0
LeavesHandAsItsType p e released q = (t : ℕ) × (t < 4) × IsOf p.shape t e × LeavesHand p t e released q

-- How a tend of type t ends: where a sweep showed an owed credit of the type, an entry was claimed in a
-- scan and ended as in a release, or each entry of the type was found claimed; or no requester showed a
-- bit of the type.
abbrev pub Tended : PortView → ℕ → Option Released → PortView → Type 0
Tended p t (Some released) q =
    (x : PortView) × ShowsOwed t p x
    × ((e : ℕ) × IsOf p.shape t e × (has e p ≡ 0) × LeavesHand (into_hand e (port_after_scan t (e - low p.shape t) x)) t e released q)
Tended p t None q = (q ≡ swept_all t p) ⊎ ((x : PortView) × ShowsOwed t p x × (q ≡ port_after_scan t (size p.shape t) x))

-- what a port knows of itself and of its credits is the same
abbrev pub HasSameCredits : PortView → PortView → Type 0
HasSameCredits p q = (q.who ≡ p.who) × (q.shape ≡ p.shape) × (q.seen ≡ p.seen) × (q.retries ≡ p.retries) × (q.spent ≡ p.spent) × (q.returned ≡ p.returned)

-- the lowest seen credit of type t was returned, and its entry, which wasn't in hand, released
abbrev pub HasReturned : ℕ → PortView → Released → PortView → Type 0
HasReturned t p released q = (e : ℕ) × IsLowestSeen p t e × (has e p ≡ 0) × LeavesHand (returns_credit t e p) t e released q

-- these credits are seen, and one more of type t was returned
abbrev pub with_return : ℕ → List ℕ → PortView → PortView
with_return t seen p = record p { seen = seen; returned = one_more p.returned t }

-- one seen credit less of type t, and as many of each other type
abbrev pub HasOneLess : ℕ → PortView → PortView → Type 0
HasOneLess t p q = (seen_of q t + 1 ≡ seen_of p t) × ((u : ℕ) → u < 4 → u ≢ t → seen_of q u ≡ seen_of p u)
