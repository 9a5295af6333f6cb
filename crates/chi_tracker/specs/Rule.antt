-- The rule of the tracker: what holds between any two atomic steps, whichever ports do them
-- (docs/PROTOCOL.md, "The rule between steps").
use Rattle.std.specs.Prelude.{◌≡◌, ℕ, ◌+◌, ◌<◌, ◌≤◌, List, [], ◌∷◌, Option, Some, None, IfSome, length, slice_index, cond, ◌==◌}
use Rattle.std.specs.Int.{bit_at}
use Rattle.atomic_table.specs.Table.{State}
use Rattle.chi_tracker.specs.declared.shape.Shape.{Shape}
use Rattle.chi_tracker.specs.declared.view.SeatView.{SeatView}
use Rattle.chi_tracker.specs.Sums.{below, total, set_at}
use Rattle.chi_tracker.specs.Shape.{low, IsOf, count_of, owed_in}
use Rattle.chi_tracker.specs.Words.{word_count, c_of, p_of, o_of}
use Rattle.chi_tracker.specs.Views.{PortView, Duty, has, new_ports}

-- the sum of f over the ports of all seats
abbrev pub weigh : (PortView → ℕ) → List SeatView → ℕ
weigh f views = total (λ v. total f v.ports) views

-- f of the port of requester n
abbrev pub of_port : ℕ → (PortView → ℕ) → PortView → ℕ
of_port n f p = cond (p.who == n) (f p) 0

-- 1 for a duty to n of type t
abbrev pub duty_is : ℕ → ℕ → Option Duty → ℕ
duty_is n t None = 0
duty_is n t (Some d) = cond (d.to == n) (cond (d.kind == t) 1 0) 0

-- 1 where place k is the one that is noted
abbrev pub note_is : ℕ → Option ℕ → ℕ
note_is k None = 0
note_is k (Some x) = cond (x == k) 1 0

-- a port's duty is to a requester, its type is its entry's, and the entry is in hand
pub record IsSound (s : Shape) (p : PortView) : Type 0 where
  pub shape_is : p.shape ≡ s
  pub who_in : p.who < s.agents
  pub duty_in : IfSome p.duty (λ d. (d.to < s.agents) × (d.kind < 4) × IsOf s d.kind d.entry × (has d.entry p ≡ 1))

abbrev pub AllSound : Shape → List PortView → Type 0
AllSound s [] = Unit {0}
AllSound s (p ∷ ps) = IsSound s p × AllSound s ps

abbrev pub AllSeatsSound : Shape → List SeatView → Type 0
AllSeatsSound s [] = Unit {0}
AllSeatsSound s (v ∷ vs) = AllSound s v.ports × AllSeatsSound s vs

-- The rule over the bits of C, P and O and the views of all seats.
-- place: the bit of e in C is the number of hands that have e and of requesters it is promised to; being
--   at most 1, each entry is free, in the hand of one port, or promised to one requester
-- seen: what n's port has seen is promised to n
-- noted: the place that n's port has noted is clear in O[n]
-- one_port, ports: each requester has one port, and there are no others
-- ledger: for each requester and type, retries are the credits owed, under duty, promised, spent and returned
pub record Fits (s : Shape) (c : ℕ → ℕ) (p : ℕ → ℕ → ℕ) (o : ℕ → ℕ) (vs : List SeatView) : Type 0 where
  pub bits : (e : ℕ) → e < 256 → c e ≤ 1
  pub place : (e : ℕ) → e < 256 → c e ≡ weigh (has e) vs + below (λ n. p n e) s.agents
  pub seen : (n e : ℕ) → n < s.agents → e < 256 → weigh (of_port n (λ x. set_at x.seen e)) vs ≤ p n e
  pub noted : (n k : ℕ) → n < s.agents → weigh (of_port n (λ x. note_is k x.noted)) vs + bit_at (o n) k ≤ 1
  pub ledger : (n t : ℕ) → n < s.agents → t < 4
      → weigh (of_port n (λ x. slice_index x.retries t)) vs
      ≡ owed_in t (o n) + weigh (λ x. duty_is n t x.duty) vs + count_of s t (p n)
      + weigh (of_port n (λ x. slice_index x.spent t)) vs + weigh (of_port n (λ x. slice_index x.returned t)) vs
  pub one_port : (n : ℕ) → n < s.agents → weigh (of_port n (λ _. 1)) vs ≡ 1
  pub ports : weigh (λ _. 1) vs ≡ s.agents
  pub sound : AllSeatsSound s vs

pub record TrackerRule (key : Shape) (st : State ℕ SeatView) : Type 0 where
  pub words : length st.words ≡ word_count
  pub agents : key.agents ≤ 8
  pub entries : low key 4 ≤ 256
  pub fits : Fits key (c_of st.words) (p_of st.words) (o_of st.words) st.views

-- the view of the first seat, which stands for all ports
abbrev pub all_new : Shape → SeatView
all_new s = record { ports = new_ports s 0 s.agents; history = [] }
