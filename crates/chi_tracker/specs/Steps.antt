-- The atomic steps: on which word each is done, what becomes of the word and of the view of the port that
-- does it, and when the port may do it (docs/PROTOCOL.md, "Steps of the tracker").
use Rattle.std.specs.Prelude.{◌≡◌, ℕ, zero, suc, Bool, ◌+◌, ◌*◌, ◌/◌, ◌%◌, ◌^◌, ◌<◌, List, [], ◌∷◌, Option, Some, None, slice_set, cond, ◌==◌, ◌&&◌, bit_and, bit_or}
use Rattle.std.specs.Int.{bit_at}
use Rattle.atomic_table.specs.Table.{Me}
use Rattle.chi_tracker.specs.declared.shape.Shape.{Shape}
use Rattle.chi_tracker.specs.declared.view.SeatView.{SeatView}
use Rattle.chi_tracker.specs.declared.step.AtomicStep.{AtomicStep}
use Rattle.chi_tracker.specs.declared.step.AtomicStep.TheVariants.{Claim, Free, Note, Owe, Look, Settle, Promise, See, Spend, Return}
use Rattle.chi_tracker.specs.Sums.{one_more, with_bit, without_bit, all_but, set_at, take_out}
use Rattle.chi_tracker.specs.Shape.{low, IsOf}
use Rattle.chi_tracker.specs.Words.{promise_word, owed_word}
use Rattle.chi_tracker.specs.Views.{Duty, HandEnd, was_freed, was_promised, Sweep, PortView, has, CanOwe, new_port}

-- the seat of one port, of no history
abbrev pub one : PortView → SeatView
one p = record { ports = p ∷ []; history = [] }

-- what of a seat's view its ports are, and the seat of one port
abbrev pub SeatPorts : Type 0
SeatPorts = List PortView × List (ℕ × ℕ)

abbrev pub shown : Me ℕ SeatView → SeatPorts
shown m = (m.0.ports, m.1)

abbrev pub solo : PortView → SeatPorts
solo p = (p ∷ [], [])

abbrev pub no_shape : Shape
no_shape = record { sizes = 0 ∷ 0 ∷ 0 ∷ 0 ∷ []; agents = 0 }

abbrev pub first_port : List PortView → PortView
first_port [] = new_port no_shape 0
first_port (p ∷ ps) = p

abbrev pub port_of : SeatPorts → PortView
port_of s = first_port s.0

-- claim e: the old bit clear, e comes to hand; set, e is found claimed. A scan is opened at the lowest
-- entry of its type
abbrev pub opens_scan : ℕ → ℕ → PortView → Bool
opens_scan t e p = e == low p.shape t

abbrev pub found_before : ℕ → ℕ → PortView → ℕ
found_before t e p = cond (opens_scan t e p) 0 p.found

abbrev pub claims : ℕ → ℕ → ℕ → PortView → PortView
claims t e old p = record p {
  hand = cond (old == 0) (with_bit p.hand e) p.hand;
  found = cond (old == 0) (found_before t e p) (with_bit (found_before t e p) e);
  scans = cond (opens_scan t e p) (p.scans + 1) p.scans;
  scan_kind = cond (opens_scan t e p) t p.scan_kind;
}

-- free e: e leaves the hand
abbrev pub frees : ℕ → PortView → PortView
frees e p = record p { hand = without_bit p.hand e; ended = was_freed e }

-- the lowest clear place of eight, from a bit on
unfoldable pub clear_from : ℕ → ℕ → ℕ → ℕ
clear_from start word zero = start
clear_from start word (suc n) = cond (bit_at word start == 0) start (clear_from (start + 1) word n)

unfoldable pub first_clear : ℕ → ℕ → ℕ
first_clear start word = clear_from start word 8

-- look, for a place: the lowest clear place of the wanted type is noted
abbrev pub notes : ℕ → ℕ → PortView → PortView
notes t word p = record p { noted = Some (first_clear (8 * t) word) }

-- owe: the note ends, retries grow by 1
abbrev pub kind_noted : Option ℕ → ℕ
kind_noted None = 0
kind_noted (Some k) = k / 8

abbrev pub owes : PortView → PortView
owes p = record p { noted = None; retries = one_more p.retries (kind_noted p.noted) }

-- the byte of a type in a word of owed credits
abbrev pub byte_of : ℕ → ℕ → ℕ
byte_of t word = word / 2 ^ (8 * t) % 256

-- look, sweeping: m is looked at and the bits of the type shown are left. A sweep is opened at requester
-- 0; its next look is at the next requester, only when no bit is left
abbrev pub goes_on : ℕ → ℕ → Sweep → Bool
goes_on t m s = (m == s.at + 1) && ((s.kind == t) && (s.left == 0))

abbrev pub sweep_with_word : ℕ → ℕ → ℕ → Sweep → Sweep
sweep_with_word t m word s = record s {
  opened = cond (m == 0) (s.opened + 1) s.opened;
  kind = cond (m == 0) t s.kind;
  at = cond (m == 0) 0 (cond (goes_on t m s) m s.at);
  left = cond (m == 0) (byte_of t word) (cond (goes_on t m s) (byte_of t word) s.left);
}

abbrev pub sweeps : ℕ → ℕ → ℕ → PortView → PortView
sweeps t m word p = record p { sweep = sweep_with_word t m word p.sweep }

-- settle of place k % 8 of type k / 8 at m: the old bit set, a duty to m with the entry e; clear, the
-- place is no longer left
abbrev pub left_after : ℕ → ℕ → Sweep → ℕ
left_after m k s = cond ((s.at == m) && (s.kind == k / 8)) (without_bit s.left (k % 8)) s.left

abbrev pub duty_to : ℕ → ℕ → ℕ → Duty
duty_to m k e = record { to = m; kind = k / 8; entry = e }

abbrev pub settles : ℕ → ℕ → ℕ → ℕ → PortView → PortView
settles e m k old p = record p {
  duty = cond (old == 0) p.duty (Some (duty_to m k e));
  sweep = record p.sweep { left = cond (old == 0) (left_after m k p.sweep) p.sweep.left };
}

-- promise: the duty ends, its entry leaves the hand
abbrev pub hand_without : Option Duty → ℕ → ℕ
hand_without None hand = hand
hand_without (Some d) hand = without_bit hand d.entry

abbrev pub end_of : Option Duty → HandEnd → HandEnd
end_of None ended = ended
end_of (Some d) ended = was_promised d.entry d.to

abbrev pub promises : PortView → PortView
promises p = record p { hand = hand_without p.duty p.hand; duty = None; ended = end_of p.duty p.ended }

-- see of word k: all its bits become seen
abbrev pub views_word : ℕ → ℕ → PortView → PortView
views_word k word p = record p { seen = slice_set p.seen k word; sees = one_more p.sees k }

-- spend e: a seen entry comes to hand; spent or returned grows by 1
abbrev pub spends : ℕ → ℕ → PortView → PortView
spends t e p = record p { hand = with_bit p.hand e; seen = take_out p.seen e; spent = one_more p.spent t }

abbrev pub returns_credit : ℕ → ℕ → PortView → PortView
returns_credit t e p = record p { hand = with_bit p.hand e; seen = take_out p.seen e; returned = one_more p.returned t }

-- the word that a step of requester n is done on
abbrev pub word_of_step : AtomicStep → ℕ → ℕ
word_of_step (Claim t e) n = e / 64
word_of_step (Free e) n = e / 64
word_of_step (Note t) n = owed_word n
word_of_step (Owe k) n = owed_word n
word_of_step (Look t m) n = owed_word m
word_of_step (Settle e m k) n = owed_word m
word_of_step (Promise e m) n = promise_word m (e / 64)
word_of_step (See i) n = promise_word n i
word_of_step (Spend t e) n = promise_word n (e / 64)
word_of_step (Return t e) n = promise_word n (e / 64)

-- a step's operation: what becomes of the word r
abbrev pub written : AtomicStep → ℕ → ℕ
written (Claim t e) r = bit_or r (2 ^ (e % 64))
written (Free e) r = bit_and r (all_but (e % 64))
written (Note t) r = r
written (Owe k) r = bit_or r (2 ^ k)
written (Look t m) r = r
written (Settle e m k) r = bit_and r (all_but k)
written (Promise e m) r = bit_or r (2 ^ (e % 64))
written (See i) r = r
written (Spend t e) r = bit_and r (all_but (e % 64))
written (Return t e) r = bit_and r (all_but (e % 64))

-- its effect: what becomes of the port's view, r being the word as it was found
abbrev pub effect : AtomicStep → ℕ → PortView → PortView
effect (Claim t e) r = claims t e (bit_at r (e % 64))
effect (Free e) r = frees e
effect (Note t) r = notes t r
effect (Owe k) r = owes
effect (Look t m) r = sweeps t m r
effect (Settle e m k) r = settles e m k (bit_at r k)
effect (Promise e m) r = promises
effect (See i) r = views_word i r
effect (Spend t e) r = spends t e
effect (Return t e) r = returns_credit t e

-- when a port may do it
abbrev pub May : AtomicStep → PortView → Type 0
May (Claim t e) p = (t < 4) × IsOf p.shape t e × (p.duty ≡ None)
May (Free e) p = (e < 256) × (has e p ≡ 1) × (p.duty ≡ None)
May (Note t) p = (t < 4) × CanOwe p t
May (Owe k) p = (p.noted ≡ Some k) × (k < 32)
May (Look t m) p = (t < 4) × (m < p.shape.agents)
May (Settle e m k) p = (m < p.shape.agents) × (k < 32) × (has e p ≡ 1) × (p.duty ≡ None) × IsOf p.shape (k / 8) e
May (Promise e m) p = (d : Duty) × (p.duty ≡ Some d) × (d.to ≡ m) × (d.entry ≡ e)
May (See i) p = i < 4
May (Spend t e) p = (t < 4) × (p.duty ≡ None) × IsOf p.shape t e × (set_at p.seen e ≡ 1)
May (Return t e) p = (t < 4) × (p.duty ≡ None) × IsOf p.shape t e × (set_at p.seen e ≡ 1)
