-- Where an agent's pending request is: in one place, and so in none of the others, nor at the home by an
-- earlier request that is still served.
use Rattle.std.proofs.Common.{◌≡◌, ◌≢◌, ℕ, List, Bool, true, false, ◌||◌, ◌==◌, Option, Some, None, is_some, refl, sym, ◌∙◌, ap, if◌then◌else◌, arith}
use Rattle.chi_flit.specs.declared.numbers.Agent.{Agent}
use Rattle.chi_flit.specs.declared.numbers.Slot.{Slot}
use Rattle.chi_homeline.specs.declared.serving.Serving.{Serving}
use Rattle.chi_homeline.specs.declared.serving.Serving.TheVariants.{Idle, Snooping, AwaitingCompAck, AwaitingWriteData}
use Rattle.chi_line.specs.Kept.{Lane, LaneKept, is_comp_unique, is_retried, snoops_for}
use Rattle.chi_line.specs.Step.{is_dbid, is_slot, pending_slot, slot_served_for}
use Rattle.chi_line.proofs.EqualSlots.{same_slot}

-- in which of its places a pending request is
pub record Trail (serving : Serving) (n : ℕ) (x : Lane) (requested waits sent responded retried : Bool) : Type 0 where
  pub request : is_some x.flits.req ≡ requested
  pub waiting : is_some x.waiting ≡ waits
  pub unsnooped : snoops_for serving n ≡ false
  pub completion : is_some x.flits.dat_down ≡ sent
  pub response : is_some x.flits.rsp_down ≡ responded
  pub phase : is_retried x.rn.pending ≡ retried

-- the sixth place is that it is snooped for
pub requested_trail : (serving : Serving) (unique : Bool) (owner : Option Agent) (last : List ℕ) (n : ℕ) (x : Lane)
    → is_some x.flits.req ≡ true → LaneKept serving unique owner last n x → Trail serving n x true false false false false
requested_trail serving unique owner last n x here k = search (arith, here, k.one_place)

pub waiting_trail : (serving : Serving) (unique : Bool) (owner : Option Agent) (last : List ℕ) (n : ℕ) (x : Lane)
    → is_some x.waiting ≡ true → LaneKept serving unique owner last n x → Trail serving n x false true false false false
waiting_trail serving unique owner last n x here k = search (arith, here, k.one_place)

pub completed_trail : (serving : Serving) (unique : Bool) (owner : Option Agent) (last : List ℕ) (n : ℕ) (x : Lane)
    → is_some x.flits.dat_down ≡ true → LaneKept serving unique owner last n x → Trail serving n x false false true false false
completed_trail serving unique owner last n x here k = search (arith, here, k.one_place)

pub responded_trail : (serving : Serving) (unique : Bool) (owner : Option Agent) (last : List ℕ) (n : ℕ) (x : Lane)
    → is_some x.flits.rsp_down ≡ true → LaneKept serving unique owner last n x → Trail serving n x false false false true false
responded_trail serving unique owner last n x here k = search (arith, here, k.one_place)

pub retried_trail : (serving : Serving) (unique : Bool) (owner : Option Agent) (last : List ℕ) (n : ℕ) (x : Lane)
    → is_retried x.rn.pending ≡ true → LaneKept serving unique owner last n x → Trail serving n x false false false false true
retried_trail serving unique owner last n x here k = search (arith, here, k.one_place)

-- what is in one of the places is pending
pub place_pending : (serving : Serving) (unique : Bool) (owner : Option Agent) (last : List ℕ) (n : ℕ) (x : Lane)
    → is_some x.flits.dat_down || is_some x.flits.rsp_down ≡ true → LaneKept serving unique owner last n x → is_some x.rn.pending ≡ true
place_pending serving unique owner last n x here k = search (arith, here, k.one_place)

-- The slot of a request that the home doesn't serve isn't that of one that it does: an earlier request of the
-- agent, whose CompAck or write data is on its way, has another slot.
own_slot : (p : Option Slot) (own slot : Slot) → is_slot p slot ≡ true → (own.0 == slot.0) ≡ true → p ≡ Some own
own_slot None own slot is same = absurd (cc (is))
own_slot (Some other) own slot is same = ap (λ (s : Slot). Some s) (same_slot other slot is ∙ sym (same_slot own slot same))

acked_other : (b : Bool) (p : Option Slot) (own slot : Slot) → is_slot p slot ≡ true → (b ≡ true → p ≢ Some own) → is_slot (if b then Some own else None) slot ≡ false
acked_other false p own slot is apart = refl
acked_other true p own slot is apart = go (own.0 == slot.0) refl
  where
    go : (c : Bool) → (own.0 == slot.0) ≡ c → c ≡ false
    go false other = refl
    go true same = absurd (apart refl (own_slot p own slot is same))

pub not_served : (serving : Serving) (unique : Bool) (owner : Option Agent) (last : List ℕ) (n : ℕ) (x : Lane) (slot : Slot)
    → is_slot (pending_slot x.rn.pending) slot ≡ true → snoops_for serving n ≡ false → is_some x.flits.dat_down ≡ false → is_comp_unique x.flits.rsp_down ≡ false → is_dbid x.flits.rsp_down ≡ false
    → LaneKept serving unique owner last n x → is_slot (slot_served_for serving n) slot ≡ false
not_served Idle unique owner last n x slot is unsnooped none unique_none dbid_none k = refl
not_served (Snooping agent kind own) unique owner last n x slot is unsnooped none unique_none dbid_none k = ap (λ (b : Bool). is_slot (if b then Some own else None) slot) unsnooped
not_served (AwaitingCompAck agent own) unique owner last n x slot is unsnooped none unique_none dbid_none k =
    acked_other (agent.0 == n) (pending_slot x.rn.pending) own slot is (λ here. k.ack_apart (search (arith, here, none, unique_none, k.one_ack)))
not_served (AwaitingWriteData agent kind own) unique owner last n x slot is unsnooped none unique_none dbid_none k =
    acked_other (agent.0 == n) (pending_slot x.rn.pending) own slot is (λ here. k.write_apart (search (arith, here, dbid_none, k.one_write)))
