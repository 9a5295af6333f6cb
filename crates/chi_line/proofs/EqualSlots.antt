-- Slots of one number are the same.
use Rattle.std.proofs.Common.{◌≡◌, ℕ, ◌==◌, true, ap, arith}
use Rattle.chi_flit.specs.declared.numbers.Slot.{Slot}

abbrev pub slot_of : ℕ → Slot
slot_of k = record { 0 = k }

pub same_slot : (x y : Slot) → (x.0 == y.0) ≡ true → x ≡ y
same_slot x y h = let e : x.0 ≡ y.0 = grind (arith, h) in ap (λ (k : ℕ). slot_of k) e
