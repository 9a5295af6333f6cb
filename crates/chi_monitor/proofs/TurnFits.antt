-- How an agent's turn fits a line of the model: where its request is there, and that a snoop that was seen is open.
use Rattle.std.proofs.Common.{◌≡◌, ◌⊎◌, ℕ, Bool, true, false, ◌||◌, Option, Some, None, Ok, is_some, refl, sym, ap, subst, ◌∙◌}
use Rattle.chi_flit.specs.declared.credit.Profile.{Profile}
use Rattle.chi_flit.specs.declared.message.CompData.{CompData}
use Rattle.chi_flit.specs.declared.message.Msg.{Msg}
use Rattle.chi_flit.specs.declared.message.Request.{Request}
use Rattle.chi_flit.specs.declared.message.RspDown.{RspDown}
use Rattle.chi_flit.specs.declared.message.RspDown.TheVariants.{CompUC, CompI, CompDBIDResp}
use Rattle.chi_flit.specs.declared.snoop.Snoop.{Snoop}
use Rattle.chi_flit.specs.declared.state.State.{State}
use Rattle.chi_flit.specs.declared.state.State.TheVariants.{I, SC, UC, UD, SD}
use Rattle.chi_wires.specs.declared.cells.Cells.{Cells}
use Rattle.chi_homeline.specs.declared.serving.Serving.{Serving}
use Rattle.chi_rnline.specs.Rn.{Rn}
use Rattle.chi_rnline.specs.declared.pending.Pending.{Pending}
use Rattle.chi_line.specs.Kept.{Lane, snoops_for}
use Rattle.chi_explain.specs.declared.observed.StoreListing.{StoreListing}
use Rattle.chi_monitor.specs.Copies.{given_by, may_hide}
use Rattle.chi_monitor.specs.Turns.{is_left_fit, turn_after}
use Rattle.chi_monitor.specs.declared.copies.Given.{Given}
use Rattle.chi_monitor.specs.declared.copies.Given.TheVariants.{Raised}
use Rattle.chi_monitor.specs.declared.copies.KnownCopy.{KnownCopy}
use Rattle.chi_monitor.specs.declared.faults.SeenAt.{SeenAt}
use Rattle.chi_monitor.specs.declared.turns.Asked.{Asked}
use Rattle.chi_monitor.specs.declared.turns.OpenSnoop.{OpenSnoop}
use Rattle.chi_monitor.specs.declared.turns.Stage.{Stage}
use Rattle.chi_monitor.specs.declared.turns.Stage.TheVariants as stages
use Rattle.chi_monitor.specs.declared.turns.Turn.{Turn}
use Rattle.chi_monitor.specs.declared.turns.Turned.{Turned}

-- where a pending request is: in flight, with AllowRetry or without; at the home, which hasn't answered it; answered by a
-- completion that a CompAck is to follow, by CompDBIDResp, or by Comp_I; or sent back
pub data Place : Type 0 where
  Sent : Bool → Place
  AtHome : Place
  Answered : Place
  Asking : Place
  Closing : Place
  Back : Place

abbrev pub response_place : Option RspDown → Place
response_place (Some CompUC) = Answered
response_place (Some CompDBIDResp) = Asking
response_place (Some CompI) = Closing
response_place other = Back

abbrev pub place_in : Option Request → Bool → Bool → Option RspDown → Place
place_in (Some request) home given response = Sent request.allow_retry
place_in None true given response = AtHome
place_in None false true response = Answered
place_in None false false response = response_place response

abbrev pub at_home : Serving → ℕ → Lane → Bool
at_home serving n x = is_some x.waiting || snoops_for serving n

abbrev pub place_of : Serving → ℕ → Lane → Place
place_of serving n x = place_in x.flits.req (at_home serving n x) (is_some x.flits.dat_down) x.flits.rsp_down

-- the request in a stage
abbrev pub asked_of : Pending → State → Stage → SeenAt → Asked
asked_of p state stage since = record { kind = p.kind; slot = p.slot; stage = stage; since = since; fits = is_left_fit p.kind state }

abbrev pub IsAsked : Option Asked → Pending → State → Stage → Type 0
IsAsked asked p state stage = (since : SeenAt) × (asked ≡ Some (asked_of p state stage since))

-- one that was sent back is given up where the copy doesn't fit it any more
abbrev pub IsBackIf : Bool → Option Asked → Pending → State → Type 0
IsBackIf true asked p state = IsAsked asked p state stages.Retried
IsBackIf false asked p state = asked ≡ None

abbrev pub IsBack : Option Asked → Pending → State → Type 0
IsBack asked p state = IsBackIf (is_left_fit p.kind state) asked p state

abbrev pub IsAskedAt : Option Asked → Pending → State → Place → Type 0
IsAskedAt asked p state (Place.Sent true) = IsAsked asked p state stages.First
IsAskedAt asked p state (Place.Sent false) = IsAsked asked p state stages.Resent
IsAskedAt asked p state Place.AtHome = IsAsked asked p state stages.First ⊎ IsAsked asked p state stages.Resent
IsAskedAt asked p state Place.Answered = IsAsked asked p state stages.Completed
IsAskedAt asked p state Place.Asking = IsAsked asked p state stages.Writing
IsAskedAt asked p state Place.Closing = asked ≡ None
IsAskedAt asked p state Place.Back = IsBack asked p state

abbrev pub IsAskedOf : Option Asked → Option Pending → State → Place → Type 0
IsAskedOf asked None state place = asked ≡ None
IsAskedOf asked (Some p) state place = IsAskedAt asked p state place

-- where nothing is pending a clean copy may have been dropped, and one in UC stored to
abbrev pub drifts : StoreListing → State → State → Bool
drifts stores I I = true
drifts stores SC SC = true
drifts stores SC I = true
drifts stores UC UC = true
drifts stores UC I = true
drifts stores UC UD = may_hide stores
drifts stores UD UD = true
drifts stores SD SD = true
drifts stores base state = false

-- the snoop that was seen is in flight
abbrev pub IsSnooped : Option OpenSnoop → Option Snoop → Type 0
IsSnooped None snoop = ⊥
IsSnooped (Some seen) None = ⊥
IsSnooped (Some seen) (Some snoop) = seen.snoop ≡ snoop

-- a completion that is in flight is what the turn has as given
pub record GivenAt (given : Given) (c : Cells) : Type 0 where
  pub data_is : (d : CompData) → c.dat_down ≡ Some d → (since : SeenAt) × (given ≡ given_by d.unique since)
  pub comp_is : c.rsp_down ≡ Some CompUC → (since : SeenAt) × (given ≡ Raised since)

-- the copy, and what is on its way to it
pub record Held (stores : StoreListing) (turn : Turn) (shown : Bool) (x : Lane) : Type 0 where
  pub snooped : shown ≡ true → IsSnooped turn.snoop x.flits.snp
  pub free : x.rn.pending ≡ None → drifts stores turn.copy.base x.rn.state ≡ true
  pub bound : is_some x.rn.pending ≡ true → turn.copy.base ≡ x.rn.state
  pub given : GivenAt turn.given x.flits

-- a turn fits an agent's lane
pub record Fits (stores : StoreListing) (turn : Turn) (shown : Bool) (serving : Serving) (n : ℕ) (x : Lane) : Type 0 where
  pub asked : IsAskedOf turn.asked x.rn.pending x.rn.state (place_of serving n x)
  pub held : Held stores turn shown x

-- what holds of the turn behind a flit, if there is one
abbrev pub Leaves : Profile → StoreListing → Turn → Option Msg → (Turn → Type 0) → Type 0
Leaves profile stores turn None holds = holds turn
Leaves profile stores turn (Some message) holds = (at : SeenAt) → (turned : Turned) × (turn_after profile stores at turn message ≡ Ok turned) × holds turned.turn

-- a step that leaves the turn fitting
abbrev pub Keeps : Profile → StoreListing → Turn → Option Msg → Bool → Serving → ℕ → Lane → Type 0
Keeps profile stores turn sent shown serving n x = Leaves profile stores turn sent (λ left. Fits stores left shown serving n x)

-- WHAT IS KEPT OF A COPY
pub drift_same : (stores : StoreListing) (state : State) → drifts stores state state ≡ true
drift_same stores I = refl
drift_same stores SC = refl
drift_same stores UC = refl
drift_same stores UD = refl
drift_same stores SD = refl

pub bound_drifts : (stores : StoreListing) (base state : State) → base ≡ state → drifts stores base state ≡ true
bound_drifts stores base state same = ap (λ (b : State). drifts stores b state) same ∙ drift_same stores state

snooped_there : (seen : Option OpenSnoop) (snoop : Option Snoop) → IsSnooped seen snoop → is_some snoop ≡ true
snooped_there None snoop is = absurd is
snooped_there (Some seen) None is = absurd is
snooped_there (Some seen) (Some snoop) is = refl

pub snooped_same : (seen : Option OpenSnoop) (snoop snoop' : Option Snoop) → IsSnooped seen snoop → (is_some snoop ≡ true → snoop' ≡ snoop) → IsSnooped seen snoop'
snooped_same seen snoop snoop' is same = subst (IsSnooped seen) (sym (same (snooped_there seen snoop is))) is

pub snoop_open : (seen : Option OpenSnoop) (snoop : Snoop) → IsSnooped seen (Some snoop) → (there : OpenSnoop) × (seen ≡ Some there) × (there.snoop ≡ snoop)
snoop_open None snoop is = absurd is
snoop_open (Some seen) snoop is = (seen, refl, is)

pub given_same : (given : Given) (c c' : Cells) → c'.rsp_down ≡ c.rsp_down → c'.dat_down ≡ c.dat_down → GivenAt given c → GivenAt given c'
given_same given c c' rsp dat g = record { data_is = λ d here. g.data_is d (sym dat ∙ here); comp_is = λ here. g.comp_is (sym rsp ∙ here) }

pub none_given : (given : Given) (c : Cells) → c.dat_down ≡ None → (c.rsp_down ≡ Some CompUC → ⊥) → GivenAt given c
none_given given c none other = record { data_is = λ d here. absurd (cc (here, none)); comp_is = λ here. absurd (other here) }

-- a lane with the same copy
pub held_same : (stores : StoreListing) (turn turn' : Turn) (shown : Bool) (x x' : Lane) → turn'.copy ≡ turn.copy → x'.rn ≡ x.rn → (shown ≡ true → IsSnooped turn'.snoop x'.flits.snp) → GivenAt turn'.given x'.flits → Held stores turn shown x → Held stores turn' shown x'
held_same stores turn turn' shown x x' copy rn snooped given h = record {
  snooped = snooped;
  free = λ none. ap (λ (c : KnownCopy). drifts stores c.base x'.rn.state) copy ∙ (ap (λ (r : Rn). drifts stores turn.copy.base r.state) rn ∙ h.free (ap (λ (r : Rn). r.pending) (sym rn) ∙ none));
  bound = λ there. ap (λ (c : KnownCopy). c.base) copy ∙ (h.bound (ap (λ (r : Rn). is_some r.pending) (sym rn) ∙ there) ∙ ap (λ (r : Rn). r.state) (sym rn));
  given = given;
}
