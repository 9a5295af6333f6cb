-- What a line that keeps its clauses tells about an agent with something in flight or waiting.
use Rattle.std.proofs.Common.{◌≡◌, ◌≢◌, ℕ, List, Bool, true, false, Option, Some, None, eqb, arith, refl, ◌||◌, if◌then◌else◌}
use Rattle.chi_flit.specs.declared.numbers.Agent.{Agent}
use Rattle.chi_flit.specs.declared.numbers.Slot.{Slot}
use Rattle.chi_flit.specs.declared.state.State.{State}
use Rattle.chi_flit.specs.declared.kind.Kind.{Kind}
use Rattle.chi_flit.specs.declared.kind.Kind.TheVariants.{Evict}
use Rattle.chi_flit.specs.declared.message.CompData.{CompData}
use Rattle.chi_flit.specs.Kind.{is_needed}
use Rattle.chi_flit.specs.State.{is_dirty}
use Rattle.chi_homeline.specs.declared.serving.Serving.{Serving}
use Rattle.chi_homeline.specs.declared.serving.Serving.TheVariants.{AwaitingCompAck, AwaitingWriteData}
use Rattle.chi_homeline.specs.Home.{acks_for, served_slot}
use Rattle.chi_line.specs.Kept.{Lane, LaneKept, allows, writes_for}
use Rattle.chi_line.specs.Step.{is_ack, is_slot, slot_served_for}

-- a line that awaits the CompAck of n
pub record AwaitsAck (serving : Serving) (n : ℕ) : Type 0 where
  pub agent : Agent
  pub slot : Slot
  pub serving_is : serving ≡ AwaitingCompAck agent slot
  pub agent_is : agent.0 ≡ n

pub awaits_ack : (serving : Serving) (n : ℕ) → acks_for serving n ≡ true → AwaitsAck serving n
awaits_ack (AwaitingCompAck agent slot) n e = record { agent = agent; slot = slot; serving_is = refl; agent_is = grind arith }
awaits_ack serving n e = absurd cc

-- data in flight, and a CompAck, mean that a CompAck is awaited
pub acked_for_data : (serving : Serving) (unique : Bool) (owner : Option Agent) (last : List ℕ) (n : ℕ) (x : Lane) (message : CompData)
    → x.flits.dat_down ≡ Some message → LaneKept serving unique owner last n x → acks_for serving n ≡ true
acked_for_data serving unique owner last n x message here k = search (arith, k.one_ack)

pub acked_for_ack : (serving : Serving) (unique : Bool) (owner : Option Agent) (last : List ℕ) (n : ℕ) (x : Lane)
    → is_ack x.flits.rsp_up ≡ true → LaneKept serving unique owner last n x → acks_for serving n ≡ true
acked_for_ack serving unique owner last n x here k = search (arith, k.one_ack)

-- a slot that isn't in use isn't the one that is served for its agent
is_own_slot : (slot : Slot) → is_slot (Some slot) slot ≡ true
is_own_slot slot = grind arith

other_slot : (b : Bool) (other slot : Slot) → is_slot (if b then Some other else None) slot ≡ false → b ≡ true → Some slot ≢ Some other
other_slot b other slot free here same = grind (arith, is_own_slot slot)

pub ack_slot_apart : (serving : Serving) (n : ℕ) (slot : Slot) → is_slot (slot_served_for serving n) slot ≡ false
    → acks_for serving n ≡ true → Some slot ≢ served_slot serving
ack_slot_apart (AwaitingCompAck agent other) n slot free here = other_slot (eqb agent.0 n) other slot free here
ack_slot_apart serving n slot free here = absurd cc

pub write_slot_apart : (serving : Serving) (n : ℕ) (slot : Slot) → is_slot (slot_served_for serving n) slot ≡ false
    → writes_for serving n ≡ true → Some slot ≢ served_slot serving
write_slot_apart (AwaitingWriteData agent kind other) n slot free here = other_slot (eqb agent.0 n) other slot free here
write_slot_apart serving n slot free here = absurd cc

pub uses_served : (a b c : Bool) → (a || (b || c)) ≡ false → c ≡ false
uses_served a b c e = grind arith

-- the state that a kind needs is one that it allows
pub needed_allowed : (kind : Kind) (state : State) → kind ≢ Evict → is_needed kind state ≡ true → allows kind state ≡ true
needed_allowed kind state other needed = search arith

pub evict_not_dirty : (state : State) → is_needed Evict state ≡ true → is_dirty state ≡ false
evict_not_dirty state needed = search arith
