-- A sweep's looks, and the places that are left at one requester.
use Rattle.std.proofs.Common.{◌≡◌, ℕ, zero, suc, ◌+◌, ◌-◌, ◌*◌, ◌/◌, ◌%◌, ◌^◌, ◌<◌, ◌≤◌, Bool, cond, eqb, ◌&&◌, ⊎_elim, Option, Some, None, refl, sym, ap, ◌∙◌, subst, arith, eq-eqb, shr-shr, bit_and}
use mathlib.Core.Logic.{dite}
use native.Mathlib.Decide.{ℕ_discrete}
use Rattle.std.specs.Int.{bit_at}
use Rattle.std.proofs.lemmas.Nat.{xor_lt, and_le_l}
use Rattle.std.proofs.lemmas.Nat.Bits.{same_from_bits_below, bit_at-zero}
use Rattle.atomic_table.specs.declared.shared.Seat.{Seat}
use Rattle.chi_tracker.specs.declared.view.SeatView.{SeatView}
use Rattle.chi_tracker.specs.Sums.{without_bit, with_bit}
use Rattle.chi_tracker.specs.Views.{PortView, Sweep, has}
use Rattle.chi_tracker.specs.Shape.{low}
use Rattle.chi_tracker.specs.Steps.{SeatPorts, shown, solo, port_of, byte_of, left_after, settles}
use Rattle.chi_tracker.specs.Calls.{stands_at, with_sweep, into_hand, port_after_scan, LeavesHand, Tended, HasSameCredits}
use Rattle.chi_tracker.specs.declared.released.Released.{Released}
use Rattle.chi_tracker.specs.declared.released.Released.TheVariants.{Granted, Freed}
use Rattle.chi_tracker.proofs.BitLaws.{dropped_here, dropped_else, with_else}

-- a sweep of type t was opened, has looked at the first m requesters, and has no bit left
abbrev pub swept_by : ℕ → ℕ → PortView → PortView
swept_by t zero p = p
swept_by t (suc m) p = stands_at t m 0 p

-- the places left of a byte, after those below `place` were tried
pub record IsSettled (t word place left : ℕ) : Type 0 where
  pub small : left < 256
  pub clear : (i : ℕ) → i < 8 → 8 * t + i < place → bit_at left i ≡ 0
  pub within : (i : ℕ) → i < 8 → bit_at left i ≤ bit_at word (8 * t + i)

low_byte : (x i : ℕ) → i < 8 → bit_at (x % 256) i ≡ bit_at x i
low_byte x zero l = omega arith
low_byte x (suc zero) l = omega arith
low_byte x (suc (suc zero)) l = omega arith
low_byte x (suc (suc (suc zero))) l = omega arith
low_byte x (suc (suc (suc (suc zero)))) l = omega arith
low_byte x (suc (suc (suc (suc (suc zero))))) l = omega arith
low_byte x (suc (suc (suc (suc (suc (suc zero)))))) l = omega arith
low_byte x (suc (suc (suc (suc (suc (suc (suc zero))))))) l = omega arith
low_byte x (suc (suc (suc (suc (suc (suc (suc (suc n)))))))) l = absurd (omega arith)

pub byte_bit : (t word i : ℕ) → i < 8 → bit_at (byte_of t word) i ≡ bit_at word (8 * t + i)
byte_bit t word i l = low_byte (word / 2 ^ (8 * t)) i l ∙ ap (λ z. z % 2) (shr-shr word (8 * t) i)

pub settled_first : (t word : ℕ) → IsSettled t word (8 * t) (byte_of t word)
settled_first t word = record { small = omega arith; clear = λ i l h. absurd (omega arith); within = λ i l. omega (arith, byte_bit t word i l) }

-- a place that the look didn't show
pub settled_unset : (t word place left : ℕ) → 8 * t ≤ place → bit_at word place ≡ 0 → IsSettled t word place left → IsSettled t word (place + 1) left
settled_unset t word place left le unset s = record {
  small = s.small;
  clear = λ i l h. dite (ℕ_discrete (8 * t + i) place)
      (λ q. let w = s.within i l in let z : bit_at word (8 * t + i) ≡ bit_at word place = ap (bit_at word) q in omega arith)
      (λ d. s.clear i l (omega arith));
  within = s.within;
}

dropped_small : (m e : ℕ) → m < 256 → e < 8 → without_bit m e < 256
dropped_small m e l le = xor_lt 8 m (bit_and m (2 ^ e)) l (omega (arith, and_le_l m (2 ^ e)))

-- a place that was settled and found clear
pub settled_clear : (t word place left : ℕ) → 8 * t ≤ place → place < 8 * t + 8 → IsSettled t word place left → IsSettled t word (place + 1) (without_bit left (place % 8))
settled_clear t word place left le lt s =
    let j : ℕ = place % 8 in let at : 8 * t + j ≡ place = omega arith in record {
      small = dropped_small left j s.small (omega arith);
      clear = λ i l h. dite (ℕ_discrete i j)
          (λ q. ap (bit_at (without_bit left j)) q ∙ dropped_here left j)
          (λ d. dropped_else left j i d ∙ s.clear i l (omega arith));
      within = λ i l. dite (ℕ_discrete i j)
          (λ q. let z : bit_at (without_bit left j) i ≡ 0 = ap (bit_at (without_bit left j)) q ∙ dropped_here left j in omega arith)
          (λ d. omega (arith, dropped_else left j i d, s.within i l));
    }

pub settled_all : (t word left : ℕ) → IsSettled t word (8 * t + 8) left → left ≡ 0
settled_all t word left s = same_from_bits_below 8 left 0 s.small (omega arith) (λ i l. s.clear i l (omega arith) ∙ sym (bit_at-zero i))

-- a port's seat while the places of one requester are tried, from the seat before
pub record IsSettling (first now : Seat ℕ SeatView) (t word place : ℕ) : Type 0 where
  pub table : now.table_id ≡ first.table_id
  pub view : (shown now.me) ≡ solo (with_sweep (record (port_of (shown first.me)).sweep { left = (port_of (shown now.me)).sweep.left }) (port_of (shown first.me)))
  pub left : IsSettled t word place (port_of (shown now.me)).sweep.left

pub settling_first : (seat : Seat ℕ SeatView) (t agent word : ℕ) → (shown seat.me) ≡ solo (port_of (shown seat.me)) → (port_of (shown seat.me)).sweep ≡ record { opened = (port_of (shown seat.me)).sweep.opened; kind = t; at = agent; left = byte_of t word } → IsSettling seat seat t word (8 * t)
settling_first seat t agent word alone sweep = record {
  table = refl;
  view = alone;
  left = subst (IsSettled t word (8 * t)) (sym (ap (λ (s : Sweep). s.left) sweep)) (settled_first t word);
}

pub settling_unset : (first now : Seat ℕ SeatView) (t word place : ℕ) → 8 * t ≤ place → bit_at word place ≡ 0 → IsSettling first now t word place → IsSettling first now t word (place + 1)
settling_unset first now t word place le unset s = record { table = s.table; view = s.view; left = settled_unset t word place (port_of (shown now.me)).sweep.left le unset s.left }

pub both_true : (a b c d : ℕ) (x y : ℕ) → a ≡ b → c ≡ d → cond (eqb a b && eqb c d) x y ≡ x
both_true a b c d x y e f = ap (λ (z : Bool). cond (z && eqb c d) x y) (eq-eqb a b e) ∙ ap (λ (z : Bool). cond z x y) (eq-eqb c d f)

pub settling_clear : (first now next : Seat ℕ SeatView) (t agent word place entry old : ℕ) → 8 * t ≤ place → place < 8 * t + 8 → (port_of (shown first.me)).sweep ≡ record { opened = (port_of (shown first.me)).sweep.opened; kind = t; at = agent; left = byte_of t word }
    → IsSettling first now t word place → next.table_id ≡ now.table_id → (shown next.me) ≡ solo (settles entry agent place old (port_of (shown now.me))) → old ≡ 0 → IsSettling first next t word (place + 1)
settling_clear first now next t agent word place entry old le lt sweep s table is zero_bit =
    let p : PortView = port_of (shown first.me) in let left : ℕ = (port_of (shown now.me)).sweep.left in let after : ℕ = without_bit left (place % 8) in
    let q : PortView = with_sweep (record p.sweep { left = left }) p in
    let kind : p.sweep.kind ≡ place / 8 = ap (λ (x : Sweep). x.kind) sweep ∙ (let h : t ≡ place / 8 = omega arith in h) in
    let at : p.sweep.at ≡ agent = ap (λ (x : Sweep). x.at) sweep in
    let gone : left_after agent place q.sweep ≡ after = both_true p.sweep.at agent p.sweep.kind (place / 8) after left at kind in
    let next_is : (shown next.me) ≡ solo (with_sweep (record p.sweep { left = after }) p) = is ∙ ap (λ o. solo (settles entry agent place o (port_of (shown now.me)))) zero_bit ∙ ap (λ (m : SeatPorts). solo (settles entry agent place 0 (port_of m))) s.view ∙ ap (λ l. solo (with_sweep (record p.sweep { left = l }) p)) gone in
    let left_is : (port_of (shown next.me)).sweep.left ≡ after = ap (λ (m : SeatPorts). (port_of m).sweep.left) next_is in record {
      table = table ∙ s.table;
      view = next_is ∙ ap (λ l. solo (with_sweep (record p.sweep { left = l }) p)) (sym left_is);
      left = subst (IsSettled t word (place + 1)) (sym left_is) (settled_clear t word place left le lt s.left);
    }

pub settling_all : (first now : Seat ℕ SeatView) (t word place : ℕ) → place ≡ 8 * t + 8 → IsSettling first now t word place → (shown now.me) ≡ solo (with_sweep (record (port_of (shown first.me)).sweep { left = 0 }) (port_of (shown first.me)))
settling_all first now t word place e s = s.view ∙ ap (λ l. solo (with_sweep (record (port_of (shown first.me)).sweep { left = l }) (port_of (shown first.me)))) (settled_all t word (port_of (shown now.me)).sweep.left (subst (λ k. IsSettled t word k (port_of (shown now.me)).sweep.left) e s.left))

-- what the end of a release leaves as it was
pub ended_same : (p : PortView) (t e : ℕ) (r : Released) (q : PortView) → LeavesHand p t e r q → HasSameCredits p q
ended_same p t e (Granted m) q h = let is = h.1.1 in (ap (λ z. z.who) is, ap (λ z. z.shape) is, ap (λ z. z.seen) is, ap (λ z. z.retries) is, ap (λ z. z.spent) is, ap (λ z. z.returned) is)
ended_same p t e Freed q is = (ap (λ z. z.who) is, ap (λ z. z.shape) is, ap (λ z. z.seen) is, ap (λ z. z.retries) is, ap (λ z. z.spent) is, ap (λ z. z.returned) is)

pub ended_hand : (p : PortView) (t e : ℕ) (r : Released) (q : PortView) → LeavesHand p t e r q → q.hand ≡ without_bit p.hand e
ended_hand p t e (Granted m) q h = ap (λ z. z.hand) h.1.1
ended_hand p t e Freed q is = ap (λ z. z.hand) is

pub ended_duty : (p : PortView) (t e : ℕ) (r : Released) (q : PortView) → LeavesHand p t e r q → p.duty ≡ None → q.duty ≡ None
ended_duty p t e (Granted m) q h idle = ap (λ z. z.duty) h.1.1
ended_duty p t e Freed q is idle = ap (λ z. z.duty) is ∙ idle

pub ended_note : (p : PortView) (t e : ℕ) (r : Released) (q : PortView) → LeavesHand p t e r q → q.noted ≡ p.noted
ended_note p t e (Granted m) q h = ap (λ z. z.noted) h.1.1
ended_note p t e Freed q is = ap (λ z. z.noted) is

-- an entry that came to hand and left it again
pub back_out : (h e i : ℕ) → bit_at h e ≡ 0 → bit_at (without_bit (with_bit h e) e) i ≡ bit_at h i
back_out h e i clear = dite (ℕ_discrete i e)
    (λ q. ap (bit_at (without_bit (with_bit h e) e)) q ∙ dropped_here (with_bit h e) e ∙ sym clear ∙ ap (bit_at h) (sym q))
    (λ d. dropped_else (with_bit h e) e i d ∙ with_else h e i d)

-- an entry that a call took to hand and released leaves the hand as it was
pub paid_hand : (p x : PortView) (t e : ℕ) (r : Released) (q : PortView) → x.hand ≡ with_bit p.hand e → has e p ≡ 0 → LeavesHand x t e r q → (i : ℕ) → has i q ≡ has i p
paid_hand p x t e r q is clear ended i = ap (λ z. bit_at z i) (ended_hand x t e r q ended ∙ ap (λ z. without_bit z e) is) ∙ back_out p.hand e i clear

pub tended_hand : (p : PortView) (t : ℕ) (r : Option Released) (q : PortView) → Tended p t r q → (i : ℕ) → has i q ≡ has i p
tended_hand p t (Some r) q h i =
    let e : ℕ = h.2.0 in let hand : h.0.hand ≡ p.hand = ap (λ z. z.hand) h.1.is in
    paid_hand p (into_hand e (port_after_scan t (e - low p.shape t) h.0)) t e r q (ap (λ z. with_bit z e) hand) h.2.2 h.2.3 i
tended_hand p t None q h i = ⊎_elim (λ is. ap (λ z. has i z) is) (λ s. ap (λ z. has i z) s.2 ∙ ap (λ z. has i z) s.1.is) h
