-- Tails of traces, the newest call first: a line that knows of nothing before, and one that comes back, which knows what may be open
-- (docs/COPIES.md, "A trace that begins in the middle", "A line that comes back").
use Rattle.std.specs.Prelude.{◌≡◌, ℕ, ◌<◌, Bool, true, false, None, List, [], ◌∷◌, ◌++◌, ⊤}
use Rattle.chi_observer.specs.declared.flits.Due.TheVariants.{Nothing}
use Rattle.chi_observer.specs.declared.flits.Stores.{Stores}
use Rattle.chi_observer.specs.declared.flits.Flit.{Flit}
use Rattle.chi_copies.specs.Worlds.{Public}
use Rattle.chi_copies.specs.Runs.{Legal, public_of}
use Rattle.chi_copies.specs.Begun.{Begun, agent_in, begun_after, begun_with, forgetting, is_left_over, nothing_begun, takes_begun}

-- a flit of the line; one from before of which nobody knows that it is of the line, so that its agent alone is told; or
-- one from before of an agent, and of another line
pub data Call : Type 0 where
  Taken : Flit → Call
  Missed : Flit → Call
  Elsewhere : ℕ → Call

-- the line's flits
abbrev pub flits_of : List Call → List Flit
flits_of [] = []
flits_of (Taken e ∷ cs) = e ∷ flits_of cs
flits_of (Missed e ∷ cs) = e ∷ flits_of cs
flits_of (Elsewhere n ∷ cs) = flits_of cs

-- what is kept, of a line that began so
abbrev pub begun_by : Begun → List Call → Begun
begun_by b [] = b
begun_by b (Taken e ∷ cs) = begun_after (begun_by b cs) e
begun_by b (Missed e ∷ cs) = forgetting (agent_in e) (begun_by b cs)
begun_by b (Elsewhere n ∷ cs) = forgetting n (begun_by b cs)

-- each flit is taken
abbrev pub AreTaken : Begun → List Call → Type 0
AreTaken b [] = ⊤
AreTaken b (Taken e ∷ cs) = AreTaken b cs × (takes_begun (begun_by b cs) e ≡ true)
AreTaken b (Missed e ∷ cs) = AreTaken b cs
AreTaken b (Elsewhere n ∷ cs) = AreTaken b cs

-- what is missed may be from before
abbrev pub MayMiss : Begun → List Call → Type 0
MayMiss b [] = ⊤
MayMiss b (Taken e ∷ cs) = MayMiss b cs
MayMiss b (Missed e ∷ cs) = MayMiss b cs × (is_left_over (begun_by b cs) e ≡ true)
MayMiss b (Elsewhere n ∷ cs) = MayMiss b cs

-- NOTHING IS KNOWN: some flits before them make the trace legal
abbrev pub IsTail : Stores → List Flit → Type 0
IsTail z es = (before : List Flit) × Legal z (es ++ before)

abbrev pub TailsAreTaken : Type 0
TailsAreTaken = (z : Stores) (cs : List Call) → MayMiss (nothing_begun z) cs → IsTail z (flits_of cs) → AreTaken (nothing_begun z) cs

-- so behind what isn't taken no trace is legal, whatever was before
abbrev pub RefusedIsNoTail : Type 0
RefusedIsNoTail = (z : Stores) (e : Flit) (cs : List Call) → MayMiss (nothing_begun z) cs → takes_begun (begun_by (nothing_begun z) cs) e ≡ false → IsTail z (e ∷ flits_of cs) → ⊥

-- A LINE COMES BACK: no request is outstanding, nor one that was retried, but of the agents of asked, and no snoop but of those of left
pub record LeavesOnly (asked left : ℕ → Bool) (p : Public) : Type 0 where
  pub requests : (n : ℕ) → n < 32 → asked n ≡ false → p.due n ≡ Nothing
  pub snoops : (n : ℕ) → n < 32 → left n ≡ false → p.snooped n ≡ None

-- some flits before them make the trace legal, and leave only that open. Of the time in which the line wasn't judged no more is supposed
-- than that its copies and the home's are as these flits could have left them: what was sent in it may be anything
pub record IsReturn (z : Stores) (asked left : ℕ → Bool) (es : List Flit) : Type 0 where
  pub before : List Flit
  pub leaves : LeavesOnly asked left (public_of z before)
  pub legal : Legal z (es ++ before)

abbrev pub ReturnsAreTaken : Type 0
ReturnsAreTaken = (z : Stores) (asked left : ℕ → Bool) (cs : List Call) → MayMiss (begun_with z asked left) cs → IsReturn z asked left (flits_of cs) → AreTaken (begun_with z asked left) cs

-- so behind what isn't taken no trace is legal, whatever was before that left only that open
abbrev pub RefusedIsNoReturn : Type 0
RefusedIsNoReturn = (z : Stores) (asked left : ℕ → Bool) (e : Flit) (cs : List Call) → MayMiss (begun_with z asked left) cs → takes_begun (begun_by (begun_with z asked left) cs) e ≡ false
    → IsReturn z asked left (e ∷ flits_of cs) → ⊥
