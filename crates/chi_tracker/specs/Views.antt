-- What a port knows (docs/PROTOCOL.md, "Words of the tracker").
use Rattle.std.specs.Prelude.{◌≡◌, ℕ, zero, suc, ◌+◌, ◌<◌, List, [], ◌∷◌, Option, None, slice_index}
use Rattle.std.specs.Int.{bit_at}
use Rattle.chi_tracker.specs.declared.shape.Shape.{Shape}

-- an entry in hand is to be promised to a requester, for a credit of a type
pub record Duty : Type 0 where
  pub to : ℕ
  pub kind : ℕ
  pub entry : ℕ

-- where the last entry went that left the hand for good: freed, or promised to a requester
pub data HandEnd : Type 0 where
  no_end : HandEnd
  was_freed : ℕ → HandEnd
  was_promised : ℕ → ℕ → HandEnd

-- how many sweeps were opened, and of the present one its type, the requester looked at last and the
-- places that are left there: bit i of `left` is place i
pub record Sweep : Type 0 where
  pub opened : ℕ
  pub kind : ℕ
  pub at : ℕ
  pub left : ℕ

-- The view of the port of requester `who`: the entries in hand and those found claimed by the present
-- scan, as bits of a number; the seen credits, as words; at most one duty and one noted place, place p
-- of type t being 8 t + p; retries, spent and returned by type. The last five are records for clauses
-- alone: how many scans were opened and the type of the last, how many see steps were done on each
-- word, the last end, and the sweep.
pub record PortView : Type 0 where
  pub who : ℕ
  pub shape : Shape
  pub hand : ℕ
  pub found : ℕ
  pub seen : List ℕ
  pub duty : Option Duty
  pub noted : Option ℕ
  pub retries : List ℕ
  pub spent : List ℕ
  pub returned : List ℕ
  pub scans : ℕ
  pub scan_kind : ℕ
  pub sees : List ℕ
  pub ended : HandEnd
  pub sweep : Sweep

-- entry e is in the port's hand
abbrev pub has : ℕ → PortView → ℕ
has e p = bit_at p.hand e

-- how many credits of type t a port has spent or returned
abbrev pub paid_of : PortView → ℕ → ℕ
paid_of p t = slice_index p.spent t + slice_index p.returned t

-- n credits of type t are due to a port: its retries less those that it has spent or returned
abbrev pub IsDue : PortView → ℕ → ℕ → Type 0
IsDue p t n = n + paid_of p t ≡ slice_index p.retries t

-- fewer than 8 credits of type t are due to a port
abbrev pub CanOwe : PortView → ℕ → Type 0
CanOwe p t = slice_index p.retries t < 8 + paid_of p t

-- a port that has done nothing yet
abbrev pub new_port : Shape → ℕ → PortView
new_port s n = record {
  who = n;
  shape = s;
  hand = 0;
  found = 0;
  seen = 0 ∷ 0 ∷ 0 ∷ 0 ∷ [];
  duty = None;
  noted = None;
  retries = [];
  spent = [];
  returned = [];
  scans = 0;
  scan_kind = 0;
  sees = [];
  ended = no_end;
  sweep = record { opened = 0; kind = 0; at = 0; left = 0 };
}

-- the ports from n on, m of them
abbrev pub new_ports : Shape → ℕ → ℕ → List PortView
new_ports s n zero = []
new_ports s n (suc m) = new_port s n ∷ new_ports s (n + 1) m
