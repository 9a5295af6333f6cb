-- The calls of a requester that need no slice: what each leaves of it (docs/PROTOCOL.md, "A requester and
-- its calls").
use Rattle.std.specs.Prelude.{◌≡◌, ℕ, ◌<◌, ◌≤◌, List, Option, Some, None, Result, IfOk, OnErr, slice_index, slice_set}
use Rattle.chi_flit.specs.declared.credit.CreditType.{CreditType}
use Rattle.chi_flit.specs.declared.refusal.Refusal.{Refusal}
use Rattle.chi_flit.specs.Credit.{credit_number}
use Rattle.chi_flit.specs.Refusal.{refusal_of}
use Rattle.chi_tracker.specs.declared.released.Released.{Released}
use Rattle.chi_tracker.specs.Sums.{set_at}
use Rattle.chi_tracker.specs.Views.{has}
use Rattle.chi_tracker.specs.Calls.{seen_of, with_return, HasOneLess, HasSameCredits}
use Rattle.chi_tracker.specs.Conduct.{ReturnActs, SeeActs, TendActs}
use Rattle.chi_credit.specs.declared.slot.SlotState.TheVariants.{Cancelled}
use Rattle.chi_credit.specs.Slot.{idle_slot}
use Rattle.chi_credit.specs.Account.{lowest_cancelled, state_at}
use Rattle.chi_node.specs.Requester.{Acted, RequesterState, with_both, with_port}

-- a call for a type did this
abbrev pub ForType : Option CreditType → (ℕ → RequesterState → RequesterState → Type 0) → RequesterState → RequesterState → Type 0
ForType None Did r r' = ⊥
ForType (Some ty) Did r r' = Did (credit_number ty) r r'

-- the promises were looked at: the seen credits by type are these, none fewer than before
pub record Sees (seen : List ℕ) (r r' : RequesterState) : Type 0 where
  pub hand : r'.port.hand ≡ r.port.hand
  pub credits : HasSameCredits (record r.port { seen = r'.port.seen }) r'.port
  pub more : (e : ℕ) → e < 256 → set_at r.port.seen e ≤ set_at r'.port.seen e
  pub counts : (t : ℕ) → t < 4 → slice_index seen t ≡ seen_of r'.port t
  pub others : r' ≡ with_port r'.port r'.history r
  pub acted : Acted (SeeActs r'.port.seen) r r'

-- the lowest Cancelled slot of type t became Idle, and the lowest seen credit of the type was given back
pub record GivesBack (t : ℕ) (released : Released) (r r' : RequesterState) : Type 0 where
  pub cancelled : state_at r.slots (lowest_cancelled r.slots t) ≡ Cancelled
  pub hand : (e : ℕ) → has e r'.port ≡ has e r.port
  pub credits : HasSameCredits (with_return t r'.port.seen r.port) r'.port
  pub fewer : HasOneLess t r.port r'.port
  pub others : r' ≡ with_both r'.port r'.history (slice_set r.slots (lowest_cancelled r.slots t) idle_slot) r
  pub acted : Acted (ReturnActs r.port t released) r r'

-- an entry of type t was claimed for a requester that is owed a credit, and released; or none was
pub record Tends (t : ℕ) (released : Option Released) (r r' : RequesterState) : Type 0 where
  pub credits : HasSameCredits r.port r'.port
  pub hand : (e : ℕ) → has e r'.port ≡ has e r.port
  pub others : r' ≡ with_port r'.port r'.history r
  pub acted : Acted (TendActs r.port t released) r r'

-- a call that may be refused, by `why`, and then leaves the requester as it is
pub record Tried {A : Type 0} (why : Option Refusal) (Did : A → RequesterState → RequesterState → Type 0) (r r' : RequesterState) (result : Result A Refusal) : Type 0 where
  pub refusal : refusal_of result ≡ why
  pub ok : IfOk result (λ done. Did done r r')
  pub err : OnErr result (r' ≡ r)
