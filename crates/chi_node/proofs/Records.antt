-- What the record of a slot says of lines, before a change and after it.
use Rattle.std.proofs.Common.{◌≡◌, ◌≢◌, ℕ, Bool, true, false, Option, Some, None, refl, sym, ◌∙◌, ap, subst, if◌then◌else◌}
use Rattle.std.specs.Prelude.{⊤}
use Rattle.chi_slice.specs.Words.{Position}
use Rattle.chi_slice.specs.Positions as places
use Rattle.chi_credit.specs.declared.slot.SlotState.{SlotState}
use Rattle.chi_credit.specs.declared.slot.SlotState.TheVariants.{Admitted, Cancelled, Closing, Idle, Refused, Retried, Riding, Sent}
use Rattle.chi_credit.specs.declared.slot.SlotRecord.{SlotRecord}
use Rattle.chi_credit.specs.Slot.{after_answer, after_answer_in, after_finish, idle_slot, in_state, is_admitted}
use Rattle.chi_node.specs.Agree.{position_of_record, position_of_state}
use Rattle.chi_node.proofs.Matches.{shown_at, shown_else, shown_here, shown_nothing, shown_some}

-- a record says nothing of any line but one
pub record OnlyAt (l : ℕ) (x : SlotRecord) : Type 0 where
  pub nothing : (other : ℕ) → other ≢ l → position_of_record x other ≡ None

pub only_there : (l : ℕ) (x : SlotRecord) → x.line.0 ≡ l → OnlyAt l x
only_there l x is = record { nothing = λ other away. shown_else x.line.0 other (position_of_state x.state x.answered) (λ (e : x.line.0 ≡ other). away (sym e ∙ is)) }

pub record_nowhere : (x : SlotRecord) (l : ℕ) → position_of_state x.state x.answered ≡ None → position_of_record x l ≡ None
record_nowhere x l none = ap (shown_by x.line.0 l) none ∙ shown_nothing x.line.0 l
  where
    shown_by : ℕ → ℕ → Option Position → Option Position
    shown_by own l at = shown_at own at l

pub only_nowhere : (l : ℕ) (x : SlotRecord) → position_of_state x.state x.answered ≡ None → OnlyAt l x
only_nowhere l x none = record { nothing = λ other away. record_nowhere x other none }

pub record_here : (x : SlotRecord) (l : ℕ) (at : Option Position) → x.line.0 ≡ l → position_of_state x.state x.answered ≡ at → position_of_record x l ≡ at
record_here x l at here is = subst (λ (j : ℕ). position_of_record x j ≡ at) here (shown_here x.line.0 (position_of_state x.state x.answered) ∙ is)

pub record_is : (x : SlotRecord) (l : ℕ) (at : Position) → position_of_record x l ≡ Some at → (x.line.0 ≡ l) × (position_of_state x.state x.answered ≡ Some at)
record_is x l at is = shown_some x.line.0 l (position_of_state x.state x.answered) at is

-- what a place tells of a slot's state
abbrev pub Tells : SlotState → Bool → Option Position → Type 0
Tells state answered None = ⊤
Tells state answered (Some places.Sent) = state ≡ Sent
Tells state answered (Some places.Refused) = state ≡ Refused
Tells state answered (Some places.Retried) = state ≡ Retried
Tells state answered (Some places.Resent) = state ≡ Riding
Tells state answered (Some places.Admitted) = (is_admitted state ≡ true) × (answered ≡ false)
Tells state answered (Some places.Answered) = (is_admitted state ≡ true) × (answered ≡ true)
Tells state answered (Some places.Closing) = state ≡ Closing

tells : (state : SlotState) (answered : Bool) → Tells state answered (position_of_state state answered)
tells Idle answered = tt
tells Sent answered = refl
tells Refused answered = refl
tells Retried answered = refl
tells Riding answered = refl
tells (Admitted entry) true = (refl, refl)
tells (Admitted entry) false = (refl, refl)
tells Closing answered = refl
tells Cancelled answered = tt

pub tells_of : (x : SlotRecord) (at : Position) → position_of_state x.state x.answered ≡ Some at → Tells x.state x.answered (Some at)
tells_of x at is = subst (Tells x.state x.answered) is (tells x.state x.answered)

-- a record becomes another one that says where its request is now, of the same line and credit type if it is anywhere
pub record Becomes (x y : SlotRecord) (to : Option Position) : Type 0 where
  pub says : position_of_state y.state y.answered ≡ to
  pub line : (at : Position) → to ≡ Some at → y.line.0 ≡ x.line.0
  pub credit : (at : Position) → to ≡ Some at → y.credit ≡ x.credit

pub freed : (x y : SlotRecord) → y ≡ idle_slot → Becomes x y None
freed x y is = record { says = ap (λ (z : SlotRecord). position_of_state z.state z.answered) is; line = λ at h. absurd (cc (h)); credit = λ at h. absurd (cc (h)) }

-- another state
pub restated : (x : SlotRecord) (state : SlotState) (to : Option Position) → position_of_state state x.answered ≡ to → Becomes x (in_state state x) to
restated x state to says = record { says = says; line = λ at h. refl; credit = λ at h. refl }

-- an Admitted slot that is answered is marked, and a Closing one is free
pub answered : (x : SlotRecord) → is_admitted x.state ≡ true → Becomes x (after_answer x) (Some places.Answered)
answered x admitted = go x.state refl admitted
  where
    go : (state : SlotState) → x.state ≡ state → is_admitted state ≡ true → Becomes x (after_answer x) (Some places.Answered)
    go (Admitted entry) is h = subst (λ (z : SlotState). Becomes x (after_answer_in z x) (Some places.Answered)) (sym is) (record { says = ap (λ (z : SlotState). position_of_state z true) is; line = λ at e. refl; credit = λ at e. refl })
    go other is h = absurd (cc (h))

pub closed : (x : SlotRecord) → x.state ≡ Closing → Becomes x (after_answer x) None
closed x is = freed x (after_answer x) (ap (λ (z : SlotState). after_answer_in z x) is)

-- where the home's part is over, an answered slot is free, and another one Closing
pub ended : (x : SlotRecord) → x.answered ≡ true → Becomes x (after_finish x) None
ended x is = freed x (after_finish x) (ap (λ (b : Bool). if b then idle_slot else in_state Closing x) is)

pub closes : (x : SlotRecord) → x.answered ≡ false → Becomes x (after_finish x) (Some places.Closing)
closes x is = subst (λ (b : Bool). Becomes x (if b then idle_slot else in_state Closing x) (Some places.Closing)) (sym is) (restated x Closing (Some places.Closing) refl)

-- so it says of the line where it was that its request is there, and nothing of others
pub says_here : (x y : SlotRecord) (l : ℕ) (to : Option Position) → x.line.0 ≡ l → Becomes x y to → position_of_record y l ≡ to
says_here x y l None here b = record_nowhere y l b.says
says_here x y l (Some at) here b = record_here y l (Some at) (b.line at refl ∙ here) b.says

pub only_after : (x y : SlotRecord) (l : ℕ) (to : Option Position) → x.line.0 ≡ l → Becomes x y to → OnlyAt l y
only_after x y l None here b = only_nowhere l y b.says
only_after x y l (Some at) here b = only_there l y (b.line at refl ∙ here)
