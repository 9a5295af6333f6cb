-- A requester's calls that need no slice keep agreement.
use Rattle.std.proofs.Common.{◌≡◌, ℕ, ◌<◌, List, Option, Some, None, length, refl, sym, ◌∙◌, ap, subst, ⊎_elim, get_or-set_other}
use Rattle.std.proofs.Math.ListN.{set}
use Rattle.std.proofs.lemmas.Bool.{cases_eq, cases_lt}
use Rattle.std.proofs.lemmas.Grind.{get_or-set_at}
use Rattle.std.proofs.lemmas.List.{get_or_past}
use Rattle.chi_flit.specs.declared.numbers.Slot.{Slot}
use Rattle.chi_slice.specs.Words.{Position}
use Rattle.chi_slice.specs.Slice.{SliceState}
use Rattle.chi_credit.specs.declared.slot.SlotState.{SlotState}
use Rattle.chi_credit.specs.declared.slot.SlotState.TheVariants.{Cancelled, Idle}
use Rattle.chi_credit.specs.declared.slot.SlotRecord.{SlotRecord}
use Rattle.chi_credit.specs.Slot.{idle_slot}
use Rattle.chi_credit.specs.Account.{slot_record_at, state_at}
use Rattle.chi_node.specs.Agree.{Agree, MatchesRecord, position_of_state}
use Rattle.chi_node.specs.Requester.{RequesterState, with_port}
use Rattle.chi_node.proofs.Records.{record_nowhere}

-- another view of the port
pub ported_agrees : (s : SliceState) (r r' : RequesterState) → r' ≡ with_port r'.port r'.history r → Agree s r → Agree s r'
ported_agrees s r r' is a = subst (Agree s) (sym is) (record { slots = a.slots; count = a.count })

-- nothing is shown of a Cancelled slot, and so of an Idle one
pub not_shown : {o : Option Position} (at : Position) → o ≡ None → o ≡ Some at → ⊥
not_shown at none is = cc (none, is)

idle_matches : (s : SliceState) (n : ℕ) (slot : Slot) (x : SlotRecord) → x.state ≡ Cancelled → MatchesRecord s n slot x → MatchesRecord s n slot idle_slot
idle_matches s n slot x is a =
    let none : position_of_state x.state x.answered ≡ None = ap (λ (z : SlotState). position_of_state z x.answered) is in
    record {
      lines = λ l here. let own = a.lines l here in record {
        place = own.place ∙ (record_nowhere x l none ∙ sym (record_nowhere idle_slot l refl));
        type = λ at shown. absurd (not_shown at (own.place ∙ record_nowhere x l none) shown);
      };
    }

-- a Cancelled slot is one of the slots
is_slot : (slots : List SlotRecord) (k : ℕ) → state_at slots k ≡ Cancelled → k < length slots
is_slot slots k is = ⊎_elim (λ low. low) (λ past. absurd (no_idle (ap (λ (x : SlotRecord). x.state) (get_or_past slots k idle_slot past)) is)) (cases_lt k (length slots))
  where
    no_idle : {z : SlotState} → z ≡ Idle → z ≡ Cancelled → ⊥
    no_idle idle cancelled = cc (idle, cancelled)

freed_slots : (s : SliceState) (n : ℕ) (slots : List SlotRecord) (k : ℕ) → state_at slots k ≡ Cancelled → ((slot : Slot) → slot.0 < 8 → MatchesRecord s n slot (slot_record_at slots slot.0)) → (slot : Slot) → slot.0 < 8 → MatchesRecord s n slot (slot_record_at (set slots k idle_slot) slot.0)
freed_slots s n slots k is matching slot low = ⊎_elim
    (λ (own : slot.0 ≡ k). subst (MatchesRecord s n slot) (sym (get_or-set_at slots k slot.0 idle_slot idle_slot own (is_slot slots k is)))
    (idle_matches s n slot (slot_record_at slots slot.0) (ap (λ (i : ℕ). state_at slots i) own ∙ is) (matching slot low)))
    (λ apart. subst (MatchesRecord s n slot) (sym (get_or-set_other slots k slot.0 idle_slot idle_slot apart)) (matching slot low))
    (cases_eq slot.0 k)

-- a Cancelled slot becomes Idle
pub freed_agrees : (s : SliceState) (r r' : RequesterState) (k : ℕ) → state_at r.slots k ≡ Cancelled → r' ≡ record r { port = r'.port; history = r'.history; slots = set r.slots k idle_slot } → Agree s r → Agree s r'
freed_agrees s r r' k cancelled is a = subst (Agree s) (sym is) (record { slots = freed_slots s r.number r.slots k cancelled a.slots; count = a.count })
