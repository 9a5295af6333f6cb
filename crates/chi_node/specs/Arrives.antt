-- How a request arrives at the home, for its agent (docs/PROTOCOL.md, "A requester and its calls").
use Rattle.std.specs.Prelude.{◌≡◌, ℕ, ◌<◌, Bool, true, false, Some, None}
use Rattle.chi_flit.specs.Credit.{credit_number}
use Rattle.chi_tracker.specs.Sums.{with_bit}
use Rattle.chi_tracker.specs.Shape.{size}
use Rattle.chi_tracker.specs.Steps.{spends}
use Rattle.chi_tracker.specs.Calls.{owed_one, HasSameCredits, IsLowestSeen, Owner}
use Rattle.chi_tracker.specs.declared.step.AtomicStep.TheVariants.{Spend}
use Rattle.chi_tracker.specs.Conduct.{ClaimActs, HasActed, One, OweActs}
use Rattle.chi_tracker.specs.Views.{has}
use Rattle.chi_credit.specs.declared.slot.SlotState.TheVariants as states
use Rattle.chi_credit.specs.Account.{slots_with_state, slot_record_at, state_at, type_at}
use Rattle.chi_node.specs.declared.answers.Arrived.{Arrived}
use Rattle.chi_node.specs.declared.answers.Arrived.TheVariants.{Admitted, Retried}
use Rattle.chi_node.specs.Requester.{Acted, RequesterState, owner, with_both}

-- what the port did for a first attempt of type t that is retried: a claim found each entry of the type taken, and then one
-- more credit is owed
pub record Retries (t : ℕ) (old new : Owner) : Type 0 where
  pub mid : Owner
  pub claimed : HasActed (ClaimActs old.port t None) old mid
  pub owed : new.port ≡ owed_one t mid.port
  pub acts : HasActed (OweActs t) mid new

-- how a request of slot s arrived: a first attempt is admitted with an entry that was claimed, or retried
-- where each entry of its type was found claimed; a resent one is admitted with the entry of a credit
abbrev pub ArrivesFirst : ℕ → Arrived → RequesterState → RequesterState → Type 0
ArrivesFirst s (Admitted e) old new =
    ((slot_record_at old.slots s).answered ≡ false) × (new.port.hand ≡ with_bit old.port.hand e.0) × HasSameCredits old.port new.port
    × (new ≡ with_both new.port new.history (slots_with_state old.slots s (states.Admitted e)) old)
    × Acted (ClaimActs old.port (type_at old.slots s) (Some e)) old new
ArrivesFirst s (Retried ty) old new =
    (credit_number ty ≡ type_at old.slots s) × (new.port.hand ≡ old.port.hand) × HasSameCredits (owed_one (type_at old.slots s) old.port) new.port
    × (new ≡ with_both new.port new.history (slots_with_state old.slots s states.Refused) old)
    × Retries (type_at old.slots s) (owner old) (owner new)

abbrev pub ArrivesResent : ℕ → Arrived → RequesterState → RequesterState → Type 0
ArrivesResent s (Admitted e) old new =
    ((slot_record_at old.slots s).answered ≡ false) × IsLowestSeen old.port (type_at old.slots s) e.0 × (has e.0 old.port ≡ 0)
    × (new ≡ with_both (spends (type_at old.slots s) e.0 old.port) new.history (slots_with_state old.slots s (states.Admitted e)) old)
    × Acted (One (Spend (type_at old.slots s) e.0)) old new
ArrivesResent s (Retried ty) old new = ⊥

-- when a request of slot s, with AllowRetry or without, can arrive
abbrev pub CanArrive : Bool → ℕ → RequesterState → Type 0
CanArrive true s r = (state_at r.slots s ≡ states.Sent) × (0 < size r.port.shape (type_at r.slots s))
CanArrive false s r = state_at r.slots s ≡ states.Riding

abbrev pub Arrives : Bool → ℕ → Arrived → RequesterState → RequesterState → Type 0
Arrives true s arrived old new = ArrivesFirst s arrived old new
Arrives false s arrived old new = ArrivesResent s arrived old new
