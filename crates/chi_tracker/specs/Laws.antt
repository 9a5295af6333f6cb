-- What the rule means in literal words: Place, Ledger, and what a port knows (docs/PROTOCOL.md, "Words of
-- the tracker").
use Rattle.std.specs.Prelude.{◌≡◌, ◌≢◌, ◌⊎◌, ℕ, ◌+◌, ◌<◌, List, [], ◌∷◌, ◌++◌, IfSome, length, slice_index}
use Rattle.std.specs.Int.{bit_at}
use Rattle.atomic_table.specs.Table.{State}
use Rattle.chi_tracker.specs.declared.shape.Shape.{Shape}
use Rattle.chi_tracker.specs.declared.view.SeatView.{SeatView}
use Rattle.chi_tracker.specs.Sums.{total, set_at}
use Rattle.chi_tracker.specs.Shape.{low, IsOf, count_of, owed_in}
use Rattle.chi_tracker.specs.Words.{c_of, p_of, o_of}
use Rattle.chi_tracker.specs.Views.{PortView, has}
use Rattle.chi_tracker.specs.Rule.{duty_is, TrackerRule}
use Rattle.chi_tracker.specs.History.{port_at, view_at}

-- the ports of all seats
abbrev pub all_ports : List SeatView → List PortView
all_ports [] = []
all_ports (v ∷ vs) = v.ports ++ all_ports vs

-- no port has the entry in hand
abbrev pub InNoHand : List PortView → ℕ → Type 0
InNoHand ports e = (i : ℕ) → has e (port_at ports i) ≡ 0

-- exactly one port has the entry in hand
abbrev pub InOneHand : List PortView → ℕ → Type 0
InOneHand ports e = (i : ℕ) × (i < length ports) × (has e (port_at ports i) ≡ 1) × ((j : ℕ) → j ≢ i → has e (port_at ports j) ≡ 0)

-- the entry is promised to no requester
abbrev pub PromisedToNone : ℕ → (ℕ → ℕ → ℕ) → ℕ → Type 0
PromisedToNone agents p e = (n : ℕ) → n < agents → p n e ≡ 0

-- the entry is promised to exactly one requester
abbrev pub PromisedToOne : ℕ → (ℕ → ℕ → ℕ) → ℕ → Type 0
PromisedToOne agents p e = (n : ℕ) × (n < agents) × (p n e ≡ 1) × ((k : ℕ) → k < agents → k ≢ n → p k e ≡ 0)

-- an entry is free, its bit in C clear; or in the hand of exactly one port; or promised to exactly one
-- requester, and in the last two its bit in C is set
abbrev pub Place : ℕ → (ℕ → ℕ) → (ℕ → ℕ → ℕ) → List PortView → ℕ → Type 0
Place agents c p ports e =
    ((c e ≡ 0) × InNoHand ports e × PromisedToNone agents p e)
    ⊎ (((c e ≡ 1) × InOneHand ports e × PromisedToNone agents p e)
    ⊎ ((c e ≡ 1) × InNoHand ports e × PromisedToOne agents p e))

abbrev pub Places : Shape → State ℕ SeatView → Type 0
Places key st = (e : ℕ) → e < low key 4 → Place key.agents (c_of st.words) (p_of st.words) (all_ports st.views) e

-- how many duties to n of type t the ports have
abbrev pub duties : ℕ → ℕ → List PortView → ℕ
duties n t ports = total (λ x. duty_is n t x.duty) ports

-- requester n has exactly one port, and of it retries = owed + duties + promised + spent + returned
abbrev pub Ledger : Shape → (ℕ → ℕ → ℕ) → (ℕ → ℕ) → List PortView → ℕ → ℕ → Type 0
Ledger s p o ports n t = (i : ℕ) × (i < length ports) × ((port_at ports i).who ≡ n) × ((j : ℕ) → j < length ports → j ≢ i → (port_at ports j).who ≢ n)
    × (slice_index (port_at ports i).retries t
    ≡ owed_in t (o n) + duties n t ports + count_of s t (p n)
    + slice_index (port_at ports i).spent t + slice_index (port_at ports i).returned t)

abbrev pub Ledgers : Shape → State ℕ SeatView → Type 0
Ledgers key st = (n t : ℕ) → n < key.agents → t < 4 → Ledger key (p_of st.words) (o_of st.words) (all_ports st.views) n t

-- What a port knows holds of the words: each credit that it has seen is promised to its requester, its
-- duty's entry is in hand and of the duty's type, and the place that it has noted is clear in its
-- requester's word of owed credits.
pub record Knows (s : Shape) (ws : List ℕ) (p : PortView) : Type 0 where
  pub seen : (e : ℕ) → e < low s 4 → set_at p.seen e ≡ 1 → p_of ws p.who e ≡ 1
  pub duty : IfSome p.duty (λ d. IsOf s d.kind d.entry × (has d.entry p ≡ 1))
  pub noted : IfSome p.noted (λ k. bit_at (o_of ws p.who) k ≡ 0)

abbrev pub AllKnow : Shape → State ℕ SeatView → Type 0
AllKnow key st = (i : ℕ) → i < length (all_ports st.views) → Knows key st.words (port_at (all_ports st.views) i)

-- the port has a seat of its own in this state
abbrev pub HasSeat : PortView → State ℕ SeatView → Type 0
HasSeat p st = (i : ℕ) × (view_at st.views i ≡ record { ports = p ∷ []; history = [] })

-- there is a state of the words and of all ports that keeps the sums, and in it this is a port's view
abbrev pub IsOfRunning : PortView → Type 0
IsOfRunning p = (st : State ℕ SeatView) × TrackerRule p.shape st × HasSeat p st
