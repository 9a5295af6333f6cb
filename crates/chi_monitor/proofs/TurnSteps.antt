-- What each step of an agent leaves of its turn.
use Rattle.std.proofs.Common.{◌≡◌, inl, inr, ℕ, ◌+◌, ◌==◌, ◌&&◌, ◌||◌, Bool, true, false, not, List, Option, Some, None, Result, Ok, Err, is_some, refl, sym, ap, subst, ◌∙◌, if◌then◌else◌, arith}
use Rattle.chi_flit.specs.Credit.{credit_number, credit_type_of}
use Rattle.chi_flit.specs.Kind.{is_copy_back, is_needed, kind_number}
use Rattle.chi_flit.specs.Snoop.{answer_of}
use Rattle.chi_flit.specs.Message.{write_data_of}
use Rattle.chi_flit.specs.declared.credit.CreditType.{CreditType}
use Rattle.chi_flit.specs.declared.credit.Profile.{Profile}
use Rattle.chi_flit.specs.declared.kind.Kind.{Kind}
use Rattle.chi_flit.specs.declared.kind.Kind.TheVariants.{CleanUnique, Evict}
use Rattle.chi_flit.specs.declared.message.Msg.TheVariants as messages
use Rattle.chi_flit.specs.declared.message.Request.{Request}
use Rattle.chi_flit.specs.declared.message.RspDown.{RspDown}
use Rattle.chi_flit.specs.declared.message.RspDown.TheVariants.{RetryAck}
use Rattle.chi_flit.specs.declared.message.RspUp.TheVariants.{CompAck}
use Rattle.chi_flit.specs.declared.numbers.Slot.{Slot}
use Rattle.chi_flit.specs.declared.snoop.Snoop.{Snoop}
use Rattle.chi_flit.specs.declared.state.State.{State}
use Rattle.chi_flit.specs.declared.state.State.TheVariants.{I, SC, UC, UD, SD}
use Rattle.chi_flit.specs.State.{is_dirty}
use Rattle.chi_homeline.specs.declared.serving.Serving.{Serving}
use Rattle.chi_rnline.specs.Rn.{Rn, in_phase, request_message, rn_after_cancel, rn_after_issue, rn_after_resend, rn_after_retry, rn_after_snoop, state_after_comp, state_after_issue, state_after_write}
use Rattle.chi_rnline.specs.declared.pending.Pending.{Pending}
use Rattle.chi_rnline.specs.declared.pending.Phase.{Phase}
use Rattle.chi_rnline.specs.declared.pending.Phase.TheVariants as phases
use Rattle.chi_wires.specs.Cell.{with_message}
use Rattle.chi_wires.specs.declared.cells.Cells.{Cells}
use Rattle.chi_line.specs.Kept.{Lane, is_read as reads}
use Rattle.chi_explain.specs.declared.observed.StoreListing.{StoreListing}
use Rattle.chi_explain.specs.declared.observed.StoreListing.TheVariants.{Partial, Complete}
use Rattle.chi_monitor.specs.Copies.{answer_fault, given_by, given_copy, gives, is_dropped, is_state, is_written, issue_state, issued_copy, known_as, may_answer, raised, state_left, written_copy}
use Rattle.chi_monitor.specs.Turns.{answered_as, answered_by, evict_by, first_of, fitted, has_stage, in_stage, is_left_fit, is_lost, is_on_its_way, is_read, issued_by, issued_from, left_behind, over, plain, reach_of, read_by, resent_by, retried_by, settled, turn_after, unique_by, waiting, waiting_if, with_copy, with_given, write_by, written, written_by, is_clean_unique, is_evict}
use Rattle.chi_monitor.specs.declared.copies.Given.{Given}
use Rattle.chi_monitor.specs.declared.copies.Given.TheVariants.{Raised}
use Rattle.chi_monitor.specs.declared.copies.KnownCopy.{KnownCopy}
use Rattle.chi_monitor.specs.declared.faults.LineFault.{LineFault}
use Rattle.chi_monitor.specs.declared.faults.LineFault.TheVariants as faults
use Rattle.chi_monitor.specs.declared.faults.Reach.{Reach}
use Rattle.chi_monitor.specs.declared.faults.SeenAt.{SeenAt}
use Rattle.chi_monitor.specs.declared.turns.Asked.{Asked}
use Rattle.chi_monitor.specs.declared.turns.OpenSnoop.{OpenSnoop}
use Rattle.chi_monitor.specs.declared.turns.Stage.{Stage}
use Rattle.chi_monitor.specs.declared.turns.Stage.TheVariants as stages
use Rattle.chi_monitor.specs.declared.turns.Turn.{Turn}
use Rattle.chi_monitor.specs.declared.turns.Turned.{Turned}
use Rattle.chi_monitor.proofs.TurnFits.{Fits, GivenAt, Held, IsAsked, IsAskedAt, IsAskedOf, IsBack, IsBackIf, IsSnooped, Keeps, Place, asked_of, at_home, bound_drifts, drifts, given_same, held_same, none_given, place_in, place_of, response_place, snoop_open, snooped_same}

-- TABLES
pub issued_fits : (kind : Kind) (state : State) → is_needed kind state ≡ true → is_left_fit kind (state_after_issue kind state) ≡ true
issued_fits kind state needed = search arith

-- a copy that doesn't fit isn't made to by a snoop
pub stays_unfit : (kind : Kind) (state : State) (snoop : Snoop) (words : List ℕ) → is_left_fit kind state ≡ false → is_left_fit kind (answer_of state snoop words).0 ≡ false
stays_unfit kind state snoop words unfit = search arith

-- an answer tells the state in which it leaves the copy
pub told_state : (state : State) (snoop : Snoop) (words : List ℕ) → state_left (answer_of state snoop words).1 ≡ Some (answer_of state snoop words).0
told_state state snoop words = search arith

-- and is taken as one
pub taken_as_answer : (profile : Profile) (stores : StoreListing) (at : SeenAt) (turn : Turn) (state : State) (snoop : Snoop) (words : List ℕ)
    → turn_after profile stores at turn (answer_of state snoop words).1 ≡ answered_by turn (reach_of stores turn) at (is_dirty state) turn.snoop (Some (answer_of state snoop words).0)
taken_as_answer profile stores at turn state snoop words = search arith

-- write data is taken as that
pub taken_as_write : (profile : Profile) (stores : StoreListing) (at : SeenAt) (turn : Turn) (state : State) (words : List ℕ) → turn_after profile stores at turn (messages.DatUp (write_data_of state words)) ≡ written turn (reach_of stores turn) at state
taken_as_write profile stores at turn state words = search arith

-- COPIES
same_state : (one other : State) → is_state one other ≡ true → one ≡ other
same_state one other same = search (arith, same)

state_same : (state : State) → is_state state state ≡ true
state_same state = search arith

abbrev reach_at : StoreListing → State → Bool → Option SeenAt → Reach
reach_at stores base pending since = record { base = base; stores = stores; pending = pending; since = since; loaded = false }

-- a request is issued from a state that its kind needs
issue_found : (stores : StoreListing) (kind : Kind) (base state : State) (since : Option SeenAt) → drifts stores base state ≡ true → is_needed kind state ≡ true → issue_state (reach_at stores base false since) kind ≡ Some state
issue_found stores kind I I since may needed = search (arith, needed)
issue_found stores kind SC SC since may needed = search (arith, needed)
issue_found stores kind SC I since may needed = search (arith, needed)
issue_found stores kind UC UC since may needed = search (arith, needed)
issue_found stores kind UC I since may needed = search (arith, needed)
issue_found Partial kind UC UD since may needed = search (arith, needed)
issue_found Complete kind UC UD since may needed = absurd (cc (may))
issue_found stores kind UD UD since may needed = search (arith, needed)
issue_found stores kind SD SD since may needed = search (arith, needed)
issue_found stores kind base state since may needed = absurd (cc (may))

kept_base : (copy : KnownCopy) (state : State) (at : SeenAt) (b : Bool) → is_state copy.base state ≡ b → (if b then copy else known_as state at).base ≡ state
kept_base copy state at true same = same_state copy.base state same
kept_base copy state at false same = refl

issued_base : (copy : KnownCopy) (kind : Kind) (state : State) (at : SeenAt) → (issued_copy copy kind state at).base ≡ state_after_issue kind state
issued_base copy Evict state at = refl
issued_base copy other state at = kept_base copy state at (is_state copy.base state) refl

-- a copy gives its own answer, and so does one that it may be by now
gives_own : (state : State) (snoop : Snoop) (words : List ℕ) → gives state snoop (answer_of state snoop words).0 (is_dirty state) ≡ true
gives_own state snoop words = search arith

own_answers : (reach : Reach) (snoop : Snoop) (words : List ℕ) → may_answer reach snoop (answer_of reach.base snoop words).0 (is_dirty reach.base) ≡ true
own_answers reach snoop words =
    let left : State = (answer_of reach.base snoop words).0 in
    let dirty : Bool = is_dirty reach.base in
    ap (λ (b : Bool). b || ((is_dropped reach && gives I snoop left dirty) || (is_written reach && gives UD snoop left dirty))) (gives_own reach.base snoop words)

free_answers : (stores : StoreListing) (base state : State) (snoop : Snoop) (words : List ℕ) (since : Option SeenAt) → drifts stores base state ≡ true → may_answer (reach_at stores base false since) snoop (answer_of state snoop words).0 (is_dirty state) ≡ true
free_answers stores I I snoop words since may = own_answers (reach_at stores I false since) snoop words
free_answers stores SC SC snoop words since may = own_answers (reach_at stores SC false since) snoop words
free_answers stores SC I snoop words since may = search arith
free_answers stores UC UC snoop words since may = own_answers (reach_at stores UC false since) snoop words
free_answers stores UC I snoop words since may = search arith
free_answers Partial UC UD snoop words since may = search arith
free_answers Complete UC UD snoop words since may = absurd (cc (may))
free_answers stores UD UD snoop words since may = own_answers (reach_at stores UD false since) snoop words
free_answers stores SD SD snoop words since may = own_answers (reach_at stores SD false since) snoop words
free_answers stores base state snoop words since may = absurd (cc (may))

-- a completion gives a copy
pub given_base : (unique : Bool) (at : SeenAt) (given : Given) (copy : KnownCopy) → given ≡ given_by unique at → (given_copy given copy).base ≡ (if unique then UC else SC)
given_base true at given copy is = ap (λ (g : Given). (given_copy g copy).base) is
given_base false at given copy is = ap (λ (g : Given). (given_copy g copy).base) is

raised_as : (copy : KnownCopy) (base : State) (at : SeenAt) → copy.base ≡ base → (raised copy base at).base ≡ state_after_comp base
raised_as copy SC at is = refl
raised_as copy SD at is = refl
raised_as copy other at is = is

pub raised_base : (at : SeenAt) (given : Given) (copy : KnownCopy) (state : State) → given ≡ Raised at → copy.base ≡ state → (given_copy given copy).base ≡ state_after_comp state
raised_base at given copy state is same = ap (λ (g : Given). (given_copy g copy).base) is ∙ (raised_as copy copy.base at refl ∙ ap state_after_comp same)

pub same_kind : (kind : Kind) → (kind_number kind == kind_number kind) ≡ true
same_kind kind = search arith

pub same_type : (ty : CreditType) → (credit_number ty == credit_number ty) ≡ true
same_type ty = search arith

pub same_slot : (n : ℕ) → (n == n) ≡ true
same_slot n = grind arith

-- a request is in one place
abbrev pub bit : Bool → ℕ
bit false = 0
bit true = 1

pub record Alone (b c d e f g : Bool) : Type 0 where
  pub pending : g ≡ true
  pub second : b ≡ false
  pub third : c ≡ false
  pub fourth : d ≡ false
  pub fifth : e ≡ false
  pub sixth : f ≡ false

pub alone : (a b c d e f g : Bool) → a ≡ true → bit a + bit b + bit c + bit d + bit e + bit f ≡ bit g → Alone b c d e f g
alone a b c d e f g is h = record { pending = grind (arith, is, h); second = grind (arith, is, h); third = grind (arith, is, h); fourth = grind (arith, is, h); fifth = grind (arith, is, h); sixth = grind (arith, is, h) }

pub none_there : (a b c d e f : Bool) → bit a + bit b + bit c + bit d + bit e + bit f ≡ 0 → (a ≡ false) × Alone b c d e f true
none_there a b c d e f h = (grind (arith, h), record { pending = refl; second = grind (arith, h); third = grind (arith, h); fourth = grind (arith, h); fifth = grind (arith, h); sixth = grind (arith, h) })

-- what there is
pub some_of : {A : Type 0} (o : Option A) → is_some o ≡ true → (a : A) × (o ≡ Some a)
some_of None h = absurd (cc (h))
some_of (Some a) h = (a, refl)

pub none_of : {A : Type 0} (o : Option A) → is_some o ≡ false → o ≡ None
none_of None h = refl
none_of (Some a) h = absurd (cc (h))

-- FITS, by what is pending and where it is
pub fits_free : (stores : StoreListing) (turn : Turn) (shown : Bool) (serving : Serving) (n : ℕ) (x : Lane) → x.rn.pending ≡ None → turn.asked ≡ None → Held stores turn shown x → Fits stores turn shown serving n x
fits_free stores turn shown serving n x none is held = record { asked = subst (λ (o : Option Pending). IsAskedOf turn.asked o x.rn.state (place_of serving n x)) (sym none) is; held = held }

pub free_fits : (stores : StoreListing) (turn : Turn) (shown : Bool) (serving : Serving) (n : ℕ) (x : Lane) → x.rn.pending ≡ None → Fits stores turn shown serving n x → turn.asked ≡ None
free_fits stores turn shown serving n x none f = subst (λ (o : Option Pending). IsAskedOf turn.asked o x.rn.state (place_of serving n x)) none f.asked

pub fits_at : (stores : StoreListing) (turn : Turn) (shown : Bool) (serving : Serving) (n : ℕ) (x : Lane) (p : Pending) (place : Place) → x.rn.pending ≡ Some p → place_of serving n x ≡ place → IsAskedAt turn.asked p x.rn.state place → Held stores turn shown x → Fits stores turn shown serving n x
fits_at stores turn shown serving n x p place pending here is held = record {
  asked = subst (λ (o : Option Pending). IsAskedOf turn.asked o x.rn.state (place_of serving n x)) (sym pending) (subst (IsAskedAt turn.asked p x.rn.state) (sym here) is);
  held = held;
}

pub at_fits : (stores : StoreListing) (turn : Turn) (shown : Bool) (serving : Serving) (n : ℕ) (x : Lane) (p : Pending) (place : Place) → x.rn.pending ≡ Some p → place_of serving n x ≡ place → Fits stores turn shown serving n x → IsAskedAt turn.asked p x.rn.state place
at_fits stores turn shown serving n x p place pending here f =
    subst (IsAskedAt turn.asked p x.rn.state) here (subst (λ (o : Option Pending). IsAskedOf turn.asked o x.rn.state (place_of serving n x)) pending f.asked)

-- places
pub sent_place : (q : Option Request) (request : Request) (home given : Bool) (response : Option RspDown) → q ≡ Some request → place_in q home given response ≡ Place.Sent request.allow_retry
sent_place q request home given response e = ap (λ (o : Option Request). place_in o home given response) e

pub home_place : (q : Option Request) (home given : Bool) (response : Option RspDown) → q ≡ None → home ≡ true → place_in q home given response ≡ Place.AtHome
home_place q home given response e h = ap (λ (o : Option Request). place_in o home given response) e ∙ ap (λ (b : Bool). place_in None b given response) h

pub data_place : (q : Option Request) (home given : Bool) (response : Option RspDown) → q ≡ None → home ≡ false → given ≡ true → place_in q home given response ≡ Place.Answered
data_place q home given response e h d = ap (λ (o : Option Request). place_in o home given response) e ∙ (ap (λ (b : Bool). place_in None b given response) h ∙ ap (λ (b : Bool). place_in None false b response) d)

pub other_place : (q : Option Request) (home given : Bool) (response r : Option RspDown) → q ≡ None → home ≡ false → given ≡ false → response ≡ r → place_in q home given response ≡ response_place r
other_place q home given response r e h d is = ap (λ (o : Option Request). place_in o home given response) e ∙ (ap (λ (b : Bool). place_in None b given response) h ∙ (ap (λ (b : Bool). place_in None false b response) d ∙ ap response_place is))

pub neither_home : (a b : Bool) → a ≡ false → b ≡ false → (a || b) ≡ false
neither_home a b e f = ap (λ (c : Bool). c || b) e ∙ f

pub or_home : (a b : Bool) → b ≡ true → (a || b) ≡ true
or_home true b e = refl
or_home false b e = e

-- Issue
pub issue_turn : (profile : Profile) (stores : StoreListing) (turn : Turn) (shown : Bool) (serving : Serving) (n : ℕ) (x : Lane) (kind : Kind) (slot : Slot) → x.rn.pending ≡ None → is_needed kind x.rn.state ≡ true → Fits stores turn shown serving n x
    → Keeps profile stores turn (Some (request_message kind slot true)) shown serving n (record x { rn = rn_after_issue x.rn kind slot; flits = with_message x.flits (request_message kind slot true) })
issue_turn profile stores turn shown serving n x kind slot none needed f = λ at. (
  plain (first_of turn at request x.rn.state),
  ap (issued_by turn (reach_of stores turn) at request) free ∙ ap (issued_from turn at request (reach_of stores turn)) found,
  record {
    asked = (at, ap (λ (b : Bool). Some (record { kind = kind; slot = slot; stage = stages.First; since = at; fits = b })) (sym (issued_fits kind x.rn.state needed)));
    held = record {
      snooped = f.held.snooped;
      free = λ gone. absurd (cc (gone));
      bound = λ there. issued_base turn.copy kind x.rn.state at;
      given = given_same turn.given x.flits (with_message x.flits (request_message kind slot true)) refl refl f.held.given;
    };
  },
)
  where
    request : Request
    request = record { kind = kind; slot = slot; allow_retry = true }

    free : turn.asked ≡ None
    free = free_fits stores turn shown serving n x none f

    found : issue_state (reach_of stores turn) kind ≡ Some x.rn.state
    found = ap (λ (o : Option Asked). issue_state (reach_at stores turn.copy.base (is_some o) turn.copy.since) kind) free ∙ issue_found stores kind turn.copy.base x.rn.state turn.copy.since (f.held.free none) needed

-- Admit
admitted : (asked : Option Asked) (p : Pending) (state : State) (b : Bool) → IsAskedAt asked p state (Place.Sent b) → IsAskedAt asked p state Place.AtHome
admitted asked p state true is = inl is
admitted asked p state false is = inr is

pub admit_turn : (profile : Profile) (stores : StoreListing) (turn : Turn) (shown : Bool) (serving : Serving) (n : ℕ) (x : Lane) (request : Request) (p : Pending) → x.rn.pending ≡ Some p → x.flits.req ≡ Some request → Fits stores turn shown serving n x
    → Keeps profile stores turn None shown serving n (record x { flits = record x.flits { req = None }; waiting = Some (record { kind = request.kind; slot = request.slot }) })
admit_turn profile stores turn shown serving n x request p pending here f =
    fits_at stores turn shown serving n _ p Place.AtHome pending refl (admitted turn.asked p x.rn.state request.allow_retry (at_fits stores turn shown serving n x p (Place.Sent request.allow_retry) pending (sent_place x.flits.req request _ _ _ here) f))
    (held_same stores turn turn shown x _ refl refl f.held.snooped (given_same turn.given x.flits _ refl refl f.held.given) f.held)

-- Retry
abbrev given_up : Option Asked → Option Asked
given_up asked = if is_lost asked then None else asked

settled_asked : (turn : Turn) → (settled turn).turn.asked ≡ given_up turn.asked
settled_asked turn = go (is_lost turn.asked)
  where
    go : (b : Bool) → (if b then record { turn = record turn { asked = None }; cancels = true } else plain turn).turn.asked ≡ (if b then None else turn.asked)
    go true = refl
    go false = refl

settled_held : (stores : StoreListing) (turn : Turn) (shown : Bool) (x : Lane) → Held stores turn shown x → Held stores (settled turn).turn shown x
settled_held stores turn shown x h = go (is_lost turn.asked)
  where
    go : (b : Bool) → Held stores (if b then record { turn = record turn { asked = None }; cancels = true } else plain turn).turn shown x
    go true = held_same stores turn (record turn { asked = None }) shown x x refl refl h.snooped h.given h
    go false = h

back_given_up : (p : Pending) (state : State) (since : SeenAt) → IsBack (given_up (Some (asked_of p state stages.Retried since))) p state
back_given_up p state since = go (is_left_fit p.kind state)
  where
    go : (b : Bool) → IsBackIf b (if not b then None else Some (asked_of p state stages.Retried since)) p state
    go true = (since, refl)
    go false = refl

settled_back : (turn : Turn) (p : Pending) (state : State) (since : SeenAt) → turn.asked ≡ Some (asked_of p state stages.Retried since) → IsBack (settled turn).turn.asked p state
settled_back turn p state since is = subst (λ (o : Option Asked). IsBack o p state) (sym (settled_asked turn ∙ ap given_up is)) (back_given_up p state since)

pub retry_turn : (profile : Profile) (stores : StoreListing) (turn : Turn) (shown : Bool) (serving : Serving) (n : ℕ) (x : Lane) (request : Request) (p : Pending) (ty : CreditType) → x.rn.pending ≡ Some p → x.flits.req ≡ Some request → request.allow_retry ≡ true
    → ty ≡ credit_type_of profile p.kind → at_home serving n x ≡ false → is_some x.flits.dat_down ≡ false → Fits stores turn shown serving n x
    → Keeps profile stores turn (Some (messages.RspDown (RetryAck ty))) shown serving n (record x { flits = record x.flits { req = None; rsp_down = Some (RetryAck ty) } })
retry_turn profile stores turn shown serving n x request p ty pending here may type away none f = λ at. (
  settled left,
  ap (retried_by turn profile ty) was.1 ∙ ap (λ (b : Bool). if b then Ok (settled left) else Err (faults.OtherCredit ty (credit_type_of profile p.kind))) (ap (λ (t : CreditType). credit_number t == credit_number (credit_type_of profile p.kind)) type ∙ same_type (credit_type_of profile p.kind)),
  fits_at stores (settled left).turn shown serving n _ p Place.Back pending (other_place None _ _ _ _ refl away none refl) (settled_back left p x.rn.state was.0 refl)
      (settled_held stores left shown _ (held_same stores turn left shown x _ refl refl f.held.snooped (none_given turn.given _ (none_of _ none) (λ e. absurd (cc (e)))) f.held)),
)
  where
    was : IsAsked turn.asked p x.rn.state stages.First
    was = at_fits stores turn shown serving n x p (Place.Sent true) pending (sent_place x.flits.req request _ _ _ here ∙ ap Place.Sent may) f

    left : Turn
    left = record turn { asked = Some (asked_of p x.rn.state stages.Retried was.0) }

-- RecvRetry
in_phase_back : (asked : Option Asked) (p : Pending) (phase : Phase) (state : State) → IsBack asked p state → IsBack asked (record p { phase = phase }) state
in_phase_back asked p phase state is = go (is_left_fit p.kind state) is
  where
    go : (b : Bool) → IsBackIf b asked p state → IsBackIf b asked (record p { phase = phase }) state
    go true is = is
    go false is = is

-- a pending request whose phase is another, or that is given up
abbrev HeldAs : StoreListing → Turn → Bool → Lane → Rn → Cells → Type 0
HeldAs stores turn shown x rn c = Held stores turn shown (record x { rn = rn; flits = c })

phase_held : (stores : StoreListing) (turn turn' : Turn) (shown : Bool) (x : Lane) (p : Pending) (phase : Phase) (c : Cells) → x.rn.pending ≡ Some p → turn'.copy ≡ turn.copy → turn'.snoop ≡ turn.snoop → c.snp ≡ x.flits.snp → GivenAt turn'.given c → Held stores turn shown x
    → HeldAs stores turn' shown x (record x.rn { pending = in_phase phase x.rn.pending }) c
phase_held stores turn turn' shown x p phase c pending copy snoop snp given h =
    let there : in_phase phase x.rn.pending ≡ Some (record p { phase = phase }) = ap (in_phase phase) pending in
    record {
      snooped = λ seen. subst (λ (o : Option OpenSnoop). IsSnooped o c.snp) (sym snoop) (snooped_same turn.snoop x.flits.snp c.snp (h.snooped seen) (λ some. snp));
      free = λ gone. absurd (cc (gone, there));
      bound = λ some. ap (λ (k : KnownCopy). k.base) copy ∙ h.bound (ap (λ (o : Option Pending). is_some o) pending);
      given = given;
    }

freed_held : (stores : StoreListing) (turn : Turn) (shown : Bool) (x : Lane) (p : Pending) → x.rn.pending ≡ Some p → Held stores turn shown x → Held stores turn shown (record x { rn = record x.rn { pending = None } })
freed_held stores turn shown x p pending h = record {
  snooped = h.snooped;
  free = λ gone. bound_drifts stores turn.copy.base x.rn.state (h.bound (ap (λ (o : Option Pending). is_some o) pending));
  bound = λ some. absurd (cc (some));
  given = given_same turn.given x.flits x.flits refl refl h.given;
}

pub retry_received_turn : (profile : Profile) (stores : StoreListing) (turn : Turn) (shown : Bool) (serving : Serving) (n : ℕ) (x : Lane) (p : Pending) (ty : CreditType) → x.rn.pending ≡ Some p → x.flits.rsp_down ≡ Some (RetryAck ty)
    → x.flits.req ≡ None → at_home serving n x ≡ false → is_some x.flits.dat_down ≡ false → Fits stores turn shown serving n x
    → Keeps profile stores turn None shown serving n (record x { rn = rn_after_retry x.rn; flits = record x.flits { rsp_down = None } })
retry_received_turn profile stores turn shown serving n x p ty pending here unsent away none f =
    fits_at stores turn shown serving n _ (record p { phase = phases.Retried }) Place.Back (ap (in_phase phases.Retried) pending) (other_place x.flits.req _ _ _ _ unsent away none refl)
    (in_phase_back turn.asked p phases.Retried x.rn.state (at_fits stores turn shown serving n x p Place.Back pending (other_place x.flits.req _ _ _ _ unsent away none here) f))
    (phase_held stores turn turn shown x p phases.Retried (record x.flits { rsp_down = None }) pending refl refl refl (none_given turn.given _ (none_of _ none) (λ e. absurd (cc (e)))) f.held)

-- Resend
pub resend_turn : (profile : Profile) (stores : StoreListing) (turn : Turn) (shown : Bool) (serving : Serving) (n : ℕ) (x : Lane) (p : Pending) → x.rn.pending ≡ Some p → is_left_fit p.kind x.rn.state ≡ true
    → x.flits.req ≡ None → at_home serving n x ≡ false → is_some x.flits.dat_down ≡ false → x.flits.rsp_down ≡ None → Fits stores turn shown serving n x
    → Keeps profile stores turn (Some (request_message p.kind p.slot false)) shown serving n (record x { rn = rn_after_resend x.rn; flits = with_message x.flits (request_message p.kind p.slot false) })
resend_turn profile stores turn shown serving n x p pending may unsent away none unanswered f = λ at. (
  plain left,
  ap (resent_by turn (record { kind = p.kind; slot = p.slot; allow_retry = false })) was.1
      ∙ (ap (λ (b : Bool). if b && (p.slot.0 == p.slot.0) then Ok (plain left) else Err (faults.NotRetried p.kind)) (same_kind p.kind) ∙ ap (λ (b : Bool). if b then Ok (plain left) else Err (faults.NotRetried p.kind)) (same_slot p.slot.0)),
  fits_at stores left shown serving n _ (record p { phase = phases.Sent }) (Place.Sent false) (ap (in_phase phases.Sent) pending) refl (was.0, refl)
      (phase_held stores turn left shown x p phases.Sent (with_message x.flits (request_message p.kind p.slot false)) pending refl refl refl (given_same turn.given x.flits _ refl refl f.held.given) f.held),
)
  where
    was : IsAsked turn.asked p x.rn.state stages.Retried
    was = subst (λ (b : Bool). IsBackIf b turn.asked p x.rn.state) may (at_fits stores turn shown serving n x p Place.Back pending (other_place x.flits.req _ _ _ _ unsent away none unanswered) f)

    left : Turn
    left = record turn { asked = Some (asked_of p x.rn.state stages.Resent was.0) }

-- Cancel
pub cancel_turn : (profile : Profile) (stores : StoreListing) (turn : Turn) (shown : Bool) (serving : Serving) (n : ℕ) (x : Lane) (p : Pending) → x.rn.pending ≡ Some p → is_left_fit p.kind x.rn.state ≡ false
    → x.flits.req ≡ None → at_home serving n x ≡ false → is_some x.flits.dat_down ≡ false → x.flits.rsp_down ≡ None → Fits stores turn shown serving n x
    → Keeps profile stores turn None shown serving n (record x { rn = rn_after_cancel x.rn })
cancel_turn profile stores turn shown serving n x p pending may unsent away none unanswered f =
    fits_free stores turn shown serving n _ refl (subst (λ (b : Bool). IsBackIf b turn.asked p x.rn.state) may (at_fits stores turn shown serving n x p Place.Back pending (other_place x.flits.req _ _ _ _ unsent away none unanswered) f))
    (freed_held stores turn shown x p pending f.held)

-- A flit that answers a request at the home, whose turn it is, and gives this
abbrev pub Answers : Result Turned LineFault → Turn → Given → (Turn → Type 0) → Type 0
Answers result turn given holds = (turned : Turned) × (result ≡ Ok turned) × holds turned.turn × (turned.turn.snoop ≡ turn.snoop) × (turned.turn.copy ≡ turn.copy) × (turned.turn.given ≡ given)

completes_at : (turn : Turn) (given : Given) (p : Pending) (state : State) (by : Option Asked → Result Turned LineFault) (to : Stage → SeenAt → Turned) (holds : Turn → Type 0)
    → ((stage : Stage) (since : SeenAt) → is_on_its_way stage ≡ true
    → (by (waiting_if (is_on_its_way stage) (asked_of p state stage since)) ≡ Ok (to stage since)) × holds (to stage since).turn × ((to stage since).turn.snoop ≡ turn.snoop) × ((to stage since).turn.copy ≡ turn.copy) × ((to stage since).turn.given ≡ given))
    → IsAskedAt turn.asked p state Place.AtHome → Answers (by (waiting turn.asked)) turn given holds
completes_at turn given p state by to holds each (inl is) = let e = each stages.First is.0 refl in (to stages.First is.0, ap (λ (o : Option Asked). by (waiting o)) is.1 ∙ e.0, e.1, e.2, e.3, e.4)
completes_at turn given p state by to holds each (inr is) = let e = each stages.Resent is.0 refl in (to stages.Resent is.0, ap (λ (o : Option Asked). by (waiting o)) is.1 ∙ e.0, e.1, e.2, e.3, e.4)

on_its_way : (p : Pending) (state : State) (stage : Stage) (since : SeenAt) → is_on_its_way stage ≡ true → waiting_if (is_on_its_way stage) (asked_of p state stage since) ≡ Some (asked_of p state stage since)
on_its_way p state stage since way = ap (λ (b : Bool). waiting_if b (asked_of p state stage since)) way

pub read_answers : (turn : Turn) (given : Given) (p : Pending) (state : State) → is_read p.kind ≡ true → IsAskedAt turn.asked p state Place.AtHome → Answers (read_by turn given (waiting turn.asked)) turn given (λ left. IsAsked left.asked p state stages.Completed)
read_answers turn given p state reads is =
    completes_at turn given p state (read_by turn given) (λ stage since. in_stage (with_given turn given) (asked_of p state stage since) stages.Completed) (λ left. IsAsked left.asked p state stages.Completed)
    (λ stage since way. (ap (read_by turn given) (on_its_way p state stage since way) ∙ ap (λ (b : Bool). if b then Ok (in_stage (with_given turn given) (asked_of p state stage since) stages.Completed) else Err faults.NoRead) reads, (since, refl), refl, refl, refl)) is

pub unique_answers : (turn : Turn) (given : Given) (p : Pending) (state : State) → p.kind ≡ CleanUnique → IsAskedAt turn.asked p state Place.AtHome → Answers (unique_by turn given (waiting turn.asked)) turn given (λ left. IsAsked left.asked p state stages.Completed)
unique_answers turn given p state is_unique is =
    completes_at turn given p state (unique_by turn given) (λ stage since. in_stage (with_given turn given) (asked_of p state stage since) stages.Completed) (λ left. IsAsked left.asked p state stages.Completed)
    (λ stage since way. (ap (unique_by turn given) (on_its_way p state stage since way) ∙ ap (λ (k : Kind). if is_clean_unique k then Ok (in_stage (with_given turn given) (asked_of p state stage since) stages.Completed) else Err faults.NoCleanUnique) is_unique, (since, refl), refl, refl, refl)) is

pub evict_answers : (turn : Turn) (p : Pending) (state : State) → p.kind ≡ Evict → IsAskedAt turn.asked p state Place.AtHome → Answers (evict_by turn (waiting turn.asked)) turn turn.given (λ left. left.asked ≡ None)
evict_answers turn p state evicts is =
    completes_at turn turn.given p state (evict_by turn) (λ stage since. over turn) (λ left. left.asked ≡ None)
    (λ stage since way. (ap (evict_by turn) (on_its_way p state stage since way) ∙ ap (λ (k : Kind). if is_evict k then Ok (over turn) else Err faults.NoEvict) evicts, refl, refl, refl, refl)) is

pub write_answers : (turn : Turn) (p : Pending) (state : State) → is_copy_back p.kind ≡ true → IsAskedAt turn.asked p state Place.AtHome → Answers (write_by turn (waiting turn.asked)) turn turn.given (λ left. IsAsked left.asked p state stages.Writing)
write_answers turn p state back is =
    completes_at turn turn.given p state (write_by turn) (λ stage since. in_stage turn (asked_of p state stage since) stages.Writing) (λ left. IsAsked left.asked p state stages.Writing)
    (λ stage since way. (ap (write_by turn) (on_its_way p state stage since way) ∙ ap (λ (b : Bool). if b then Ok (in_stage turn (asked_of p state stage since) stages.Writing) else Err faults.NoCopyBack) back, (since, refl), refl, refl, refl)) is

-- a step that ends a request leaves a copy in the state that is known
ended_held : (stores : StoreListing) (turn turn' : Turn) (shown : Bool) (x x' : Lane) → x'.rn.pending ≡ None → turn'.copy.base ≡ x'.rn.state → turn'.snoop ≡ turn.snoop → x'.flits.snp ≡ x.flits.snp → GivenAt turn'.given x'.flits → Held stores turn shown x → Held stores turn' shown x'
ended_held stores turn turn' shown x x' gone base snoop snp given h = record {
  snooped = λ seen. subst (λ (o : Option OpenSnoop). IsSnooped o x'.flits.snp) (sym snoop) (snooped_same turn.snoop x.flits.snp x'.flits.snp (h.snooped seen) (λ some. snp));
  free = λ none. bound_drifts stores turn'.copy.base x'.rn.state base;
  bound = λ some. base;
  given = given;
}

-- RecvData and RecvComp of Comp_UC: CompAck
pub acknowledge_turn : (profile : Profile) (stores : StoreListing) (turn : Turn) (shown : Bool) (serving : Serving) (n : ℕ) (x x' : Lane) (p : Pending) → x.rn.pending ≡ Some p → place_of serving n x ≡ Place.Answered → x'.rn.pending ≡ None
    → (given_copy turn.given turn.copy).base ≡ x'.rn.state → x'.flits.snp ≡ x.flits.snp → GivenAt turn.given x'.flits → Fits stores turn shown serving n x
    → Keeps profile stores turn (Some (messages.RspUp CompAck)) shown serving n x'
acknowledge_turn profile stores turn shown serving n x x' p pending here gone base snp given f = λ at.
    let was : IsAsked turn.asked p x.rn.state stages.Completed = at_fits stores turn shown serving n x p Place.Answered pending here f in
    let left : Turned = over (with_copy turn (given_copy turn.given turn.copy)) in (
      left,
      ap (λ (o : Option Asked). if has_stage o stages.Completed then Ok left else Err faults.NoAckAwaited) was.1,
      fits_free stores left.turn shown serving n x' gone refl (ended_held stores turn left.turn shown x x' gone base refl snp given f.held),
    )

-- RecvComp of Comp_I
pub closed_turn : (profile : Profile) (stores : StoreListing) (turn : Turn) (shown : Bool) (serving : Serving) (n : ℕ) (x x' : Lane) (p : Pending) → x.rn.pending ≡ Some p → place_of serving n x ≡ Place.Closing → x'.rn.pending ≡ None
    → x'.rn.state ≡ x.rn.state → x'.flits.snp ≡ x.flits.snp → GivenAt turn.given x'.flits → Fits stores turn shown serving n x
    → Keeps profile stores turn None shown serving n x'
closed_turn profile stores turn shown serving n x x' p pending here gone same snp given f =
    fits_free stores turn shown serving n x' gone (at_fits stores turn shown serving n x p Place.Closing pending here f)
    (ended_held stores turn turn shown x x' gone (f.held.bound (ap (λ (o : Option Pending). is_some o) pending) ∙ sym same) refl snp given f.held)

-- RecvDbid: write data
pub write_turn : (profile : Profile) (stores : StoreListing) (turn : Turn) (shown : Bool) (serving : Serving) (n : ℕ) (x x' : Lane) (p : Pending) → x.rn.pending ≡ Some p → place_of serving n x ≡ Place.Asking → x'.rn.pending ≡ None
    → x'.rn.state ≡ state_after_write p.kind x.rn.state → x'.flits.snp ≡ x.flits.snp → GivenAt turn.given x'.flits → Fits stores turn shown serving n x
    → Keeps profile stores turn (Some (messages.DatUp (write_data_of x.rn.state x.rn.words))) shown serving n x'
write_turn profile stores turn shown serving n x x' p pending here gone leaves snp given f = λ at.
    let was : IsAsked turn.asked p x.rn.state stages.Writing = at_fits stores turn shown serving n x p Place.Asking pending here f in
    let base : turn.copy.base ≡ x.rn.state = f.held.bound (ap (λ (o : Option Pending). is_some o) pending) in
    let left : Turned = over (with_copy turn (written_copy turn.copy p.kind at)) in
    let form : is_state x.rn.state turn.copy.base ≡ true = ap (is_state x.rn.state) base ∙ state_same x.rn.state in (
      left,
      taken_as_write profile stores at turn x.rn.state x.rn.words ∙ (ap (written_by turn (reach_of stores turn) at x.rn.state) was.1 ∙ ap (λ (b : Bool). if b then Ok left else Err (faults.WriteForm x.rn.state (reach_of stores turn))) form),
      fits_free stores left.turn shown serving n x' gone refl (ended_held stores turn left.turn shown x x' gone (ap (state_after_write p.kind) base ∙ sym leaves) refl snp given f.held),
    )

-- RecvSnp: the answer
answered_at : (asked : Option Asked) (p : Pending) (state left : State) (place : Place) → (is_left_fit p.kind state ≡ false → is_left_fit p.kind left ≡ false) → IsAskedAt asked p state place
    → IsAskedAt (given_up (fitted asked left)) p left place
answered_at asked p state left (Place.Sent true) stays is = subst (λ (o : Option Asked). IsAsked (given_up (fitted o left)) p left stages.First) (sym is.1) (is.0, refl)
answered_at asked p state left (Place.Sent false) stays is = subst (λ (o : Option Asked). IsAsked (given_up (fitted o left)) p left stages.Resent) (sym is.1) (is.0, refl)
answered_at asked p state left Place.AtHome stays (inl is) = inl (subst (λ (o : Option Asked). IsAsked (given_up (fitted o left)) p left stages.First) (sym is.1) (is.0, refl))
answered_at asked p state left Place.AtHome stays (inr is) = inr (subst (λ (o : Option Asked). IsAsked (given_up (fitted o left)) p left stages.Resent) (sym is.1) (is.0, refl))
answered_at asked p state left Place.Answered stays is = subst (λ (o : Option Asked). IsAsked (given_up (fitted o left)) p left stages.Completed) (sym is.1) (is.0, refl)
answered_at asked p state left Place.Asking stays is = subst (λ (o : Option Asked). IsAsked (given_up (fitted o left)) p left stages.Writing) (sym is.1) (is.0, refl)
answered_at asked p state left Place.Closing stays is = subst (λ (o : Option Asked). (given_up (fitted o left)) ≡ None) (sym is) refl
answered_at asked p state left Place.Back stays is = go (is_left_fit p.kind state) stays is
  where
    go : (b : Bool) → (b ≡ false → is_left_fit p.kind left ≡ false) → IsBackIf b asked p state → IsBack (given_up (fitted asked left)) p left
    go true stays is = subst (λ (o : Option Asked). IsBack (given_up (fitted o left)) p left) (sym is.1) (back_given_up p left is.0)
    go false stays is = subst (λ (b : Bool). IsBackIf b (given_up (fitted asked left)) p left) (sym (stays refl)) (subst (λ (o : Option Asked). (given_up (fitted o left)) ≡ None) (sym is) refl)

answered_of : (asked : Option Asked) (pending : Option Pending) (state left : State) (place : Place) → ((p : Pending) → is_left_fit p.kind state ≡ false → is_left_fit p.kind left ≡ false) → IsAskedOf asked pending state place
    → IsAskedOf (given_up (fitted asked left)) pending left place
answered_of asked None state left place stays is = subst (λ (o : Option Asked). (given_up (fitted o left)) ≡ None) (sym is) refl
answered_of asked (Some p) state left place stays is = answered_at asked p state left place (stays p) is

pub answer_turn : (profile : Profile) (stores : StoreListing) (turn : Turn) (serving : Serving) (n : ℕ) (x x' : Lane) (snoop : Snoop) → place_of serving n x' ≡ place_of serving n x → x'.rn ≡ rn_after_snoop x.rn snoop → x.flits.snp ≡ Some snoop
    → GivenAt turn.given x'.flits → Fits stores turn true serving n x
    → Keeps profile stores turn (Some (answer_of x.rn.state snoop x.rn.words).1) false serving n x'
answer_turn profile stores turn serving n x x' snoop place rn here given f = λ at. (
  left_behind turn at left,
  taken_as_answer profile stores at turn x.rn.state snoop x.rn.words
      ∙ (ap (λ (o : Option OpenSnoop). answered_by turn (reach_of stores turn) at (is_dirty x.rn.state) o (Some left)) seen.1
      ∙ (ap (λ (k : Snoop). answered_as turn (reach_of stores turn) at k left (is_dirty x.rn.state)) seen.2
      ∙ ap (λ (b : Bool). if b then Ok (left_behind turn at left) else Err (answer_fault (reach_of stores turn) snoop left (is_dirty x.rn.state))) (may x.rn.pending refl))),
  record {
    asked = subst (λ (o : Option Asked). IsAskedOf o x'.rn.pending x'.rn.state (place_of serving n x')) (sym (settled_asked (answered_turn at)))
        (subst (λ (r : Rn). IsAskedOf (given_up (fitted turn.asked left)) r.pending r.state (place_of serving n x')) (sym rn)
        (subst (IsAskedOf (given_up (fitted turn.asked left)) x.rn.pending left) (sym place)
        (answered_of turn.asked x.rn.pending x.rn.state left (place_of serving n x) (λ p. stays_unfit p.kind x.rn.state snoop x.rn.words) f.asked)));
    held = settled_held stores (answered_turn at) false x' (record {
      snooped = λ shown. absurd (cc (shown));
      free = λ none. bound_drifts stores left x'.rn.state (sym (ap (λ (r : Rn). r.state) rn));
      bound = λ some. sym (ap (λ (r : Rn). r.state) rn);
      given = given;
    });
  },
)
  where
    left : State
    left = (answer_of x.rn.state snoop x.rn.words).0

    answered_turn : SeenAt → Turn
    answered_turn at = record turn { asked = fitted turn.asked left; snoop = None; copy = known_as left at }

    seen : (there : OpenSnoop) × (turn.snoop ≡ Some there) × (there.snoop ≡ snoop)
    seen = snoop_open turn.snoop snoop (subst (IsSnooped turn.snoop) here (f.held.snooped refl))

    may : (pending : Option Pending) → x.rn.pending ≡ pending → may_answer (reach_of stores turn) snoop left (is_dirty x.rn.state) ≡ true
    may None e =
        ap (λ (o : Option Asked). may_answer (reach_at stores turn.copy.base (is_some o) turn.copy.since) snoop left (is_dirty x.rn.state)) (free_fits stores turn true serving n x e f)
        ∙ free_answers stores turn.copy.base x.rn.state snoop x.rn.words turn.copy.since (f.held.free e)
    may (Some p) e =
        subst (λ (state : State). may_answer (reach_of stores turn) snoop (answer_of state snoop x.rn.words).0 (is_dirty state) ≡ true) (f.held.bound (ap (λ (o : Option Pending). is_some o) e)) (own_answers (reach_of stores turn) snoop x.rn.words)
