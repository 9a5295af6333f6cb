-- RetryAck, Comp_I of an Evict, and CompDBIDResp.
use Rattle.std.proofs.Common.{◌≡◌, ⊎_elim, ℕ, ◌<◌, List, refl, sym, ap, subst, ◌∙◌}
use Rattle.std.specs.Prelude.{Bool, true, false, ◌||◌, Option, Some, None, slice_set}
use Rattle.chi_flit.specs.declared.numbers.Agent.{Agent}
use Rattle.chi_flit.specs.declared.state.State.{State}
use Rattle.chi_flit.specs.declared.kind.Kind.TheVariants.{Evict}
use Rattle.chi_flit.specs.declared.credit.Profile.{Profile}
use Rattle.chi_flit.specs.declared.credit.CreditType.{CreditType}
use Rattle.chi_flit.specs.declared.message.CompData.{CompData}
use Rattle.chi_flit.specs.declared.message.Request.{Request}
use Rattle.chi_flit.specs.declared.message.RspDown.{RspDown}
use Rattle.chi_flit.specs.declared.message.RspDown.TheVariants.{CompI as EvictDone, RetryAck as Refused}
use Rattle.chi_flit.specs.Credit.{credit_type_of}
use Rattle.chi_flit.specs.Message.{no_words}
use Rattle.chi_filter.specs.Filter.{FilterState, filter_without}
use Rattle.chi_wires.specs.Cell.{no_flits}
use Rattle.chi_rnline.specs.declared.pending.Pending.{Pending}
use Rattle.chi_rnline.specs.Rn.{no_line}
use Rattle.chi_homeline.specs.declared.serving.Serving.TheVariants.{Idle}
use Rattle.chi_homeline.specs.declared.serving.Waiting.{Waiting}
use Rattle.chi_homeline.specs.Home.{taken_up, waiting_of}
use Rattle.chi_line.specs.LineState.{LineState, cells_of, rn_of}
use Rattle.chi_line.specs.Kept.{Kept, Lane, lane}
use Rattle.chi_line.specs.Step.{retried_line}
use Rattle.chi_line.proofs.Frame.{moves_home, nothing_waiting, puts_nothing, puts_set, within}
use Rattle.chi_observer.specs.declared.kinds.Snoop.{Snoop as SeenSnoop}
use Rattle.chi_observer.specs.declared.told.Told.{Told}
use Rattle.chi_observer.specs.declared.flits.Due.{Due}
use Rattle.chi_observer.specs.declared.flits.Due.TheVariants.{Completion, Nothing, SureCompletion}
use Rattle.chi_observer.specs.declared.flits.Grant.TheVariants.{CompI, RetryAck}
use Rattle.chi_observer.specs.Copies.{Copy, is_unique, same}
use Rattle.chi_observer.specs.Copies.Copy.{Invalid}
use Rattle.chi_observer.specs.Rules.{due_granted, granted, is_due, needs_alone, needs_moment, settles}
use Rattle.chi_observer.specs.Tables.{most, strongest, told_by}
use Rattle.chi_observer.specs.Observed.{Observed, takes_home}
use Rattle.chi_conformity.specs.Seen.{kind_seen}
use Rattle.chi_conformity.proofs.Held.{Beside, DueIs, Stands, due_asked, held_of, is_evicting, is_given_up}
use Rattle.chi_conformity.proofs.Flits.{Laws}
use Rattle.chi_conformity.proofs.Acted.{low_agent, moves_parts}
use Rattle.chi_conformity.proofs.Grants.{Asked, Given, Waits, asked, by_waiting, flit_given, goes_still, home_flit}
use Rattle.chi_conformity.proofs.Unseen.{Asking, beside_under, by_request, still_flagged}
use Rattle.chi_conformity.proofs.Told.{both, no}

-- RETRY
refused_held : (state : State) (pending : Option Pending) (given : Option CompData) (response : Option RspDown) (p : Pending) (ty : CreditType) (d : Due)
    → pending ≡ Some p → given ≡ None → response ≡ None
    → held_of state pending given (Some (Refused ty)) (due_granted RetryAck d) ≡ granted RetryAck d (held_of state pending given response d)
refused_held state pending given response p ty d is_p is_g is_r = rw (is_p, is_g, is_r) refl

refused_due : (pending : Option Pending) (given : Option CompData) (p : Pending) (ty : CreditType) (d : Due) → pending ≡ Some p → d ≡ Completion (kind_seen p.kind)
    → DueIs pending None (Some (Refused ty)) given (due_granted RetryAck d)
refused_due pending given p ty d is_p is_d = rw (is_p, is_d) refl

request_due : (x : Lane) (p : Pending) (q : Request) (d : Due) → x.rn.pending ≡ Some p → x.flits.req ≡ Some q → q.allow_retry ≡ true
    → DueIs x.rn.pending x.flits.req x.flits.rsp_down x.flits.dat_down d → d ≡ Completion (kind_seen p.kind)
request_due x p q d is_p is_q allow due =
    subst (λ b. d ≡ due_asked b (kind_seen p.kind)) allow
    (subst (λ v. DueIs (Some p) v x.flits.rsp_down x.flits.dat_down d) is_q
    (subst (λ v. DueIs v x.flits.req x.flits.rsp_down x.flits.dat_down d) is_p due))

pub refused : Laws → (o : Observed) (s : LineState) (last : List ℕ) (profile : Profile) (agent : Agent) (q : Request) → agent.0 < 8 → Kept last s → Stands last s o
    → (cells_of s agent.0).req ≡ Some q → q.allow_retry ≡ true → Given o (retried_line profile s agent.0 q) last agent RetryAck no_words
refused laws o s last profile agent q low kept stands here allow =
    let n : ℕ = agent.0 in
    let rn = rn_of s n in
    let c = cells_of s n in
    let ty : CreditType = credit_type_of profile q.kind in
    let d : Due = o.public.due n in
    let b = stands.lanes n in
    let by : Asking (lane s n) = by_request s.home.serving s.home.filter.unique s.home.filter.owner last n (lane s n) q (kept.lanes n low) here in
    let due : d ≡ Completion (kind_seen by.pending.kind) = request_due (lane s n) by.pending q d by.is here allow b.due_is in
    let may : is_due RetryAck d (o.public.snooped n) ≡ true = ap (λ v. is_due RetryAck v (o.public.snooped n)) due in
    let takes : takes_home o (home_flit agent RetryAck no_words) ≡ true = both _ _ (both _ _ may refl) (goes_still o agent RetryAck no_words stands.sound (low_agent n low) refl refl) in (
      takes,
      refl,
      flit_given laws o s (retried_line profile s n q) last agent (record (lane s n) { flits = record c { req = None; rsp_down = Some (Refused ty) } }) RetryAck no_words (low_agent n low)
          (moves_parts s s.requesters _ n rn (record c { req = None; rsp_down = Some (Refused ty) }) (puts_nothing no_line s.requesters n) (puts_set no_flits s.flits n _ (within n _ low kept.flits)))
          stands
          (record {
            state = refused_held rn.state rn.pending c.dat_down c.rsp_down by.pending ty d by.is by.given by.response;
            words = λ holds. refl;
            makes_none = refl;
            settles_none = refl;
            informed = λ e. no e;
          })
          takes
          (record {
            due_is = refused_due rn.pending c.dat_down by.pending ty d by.is due;
            snooped_is = b.snooped_is;
            named = b.named;
            flagged = b.flagged;
            gone = b.gone;
            shared = b.shared;
          })
          (λ m other. stands.lanes m),
    )

-- START OF AN EVICT
pub record EvictAsked (d : Due) : Type 0 where
  pub due : is_due CompI d None ≡ true
  pub any : (q : Option SeenSnoop) → is_due CompI d q ≡ true
  pub settles_none : settles CompI d ≡ false
  pub alone : needs_alone CompI d ≡ false
  pub moment : needs_moment CompI d ≡ false

evict_asked : (d : Due) → Asked (kind_seen Evict) d → EvictAsked d
evict_asked d is = ⊎_elim
    (λ (e : d ≡ Completion (kind_seen Evict)). subst EvictAsked (sym e) (record { due = refl; any = λ q. refl; settles_none = refl; alone = refl; moment = refl }))
    (λ (e : d ≡ SureCompletion (kind_seen Evict)). subst EvictAsked (sym e) (record { due = refl; any = λ q. refl; settles_none = refl; alone = refl; moment = refl }))
    is

evict_held : (state : State) (pending : Option Pending) (given : Option CompData) (response : Option RspDown) (p : Pending) (d : Due)
    → pending ≡ Some p → given ≡ None → response ≡ None → settles CompI d ≡ false
    → held_of state pending given (Some EvictDone) Nothing ≡ granted CompI d (held_of state pending given response d)
evict_held state pending given response p d is_p is_g is_r none = rw (is_p, is_g, is_r, none) refl

evict_told : (d : Due) (t : Told) → settles CompI d ≡ false → told_by CompI d t ≡ t
evict_told d t none = rw none refl

evict_due : (pending : Option Pending) (req : Option Request) (given : Option CompData) (p : Pending) → pending ≡ Some p → req ≡ None → DueIs pending req (Some EvictDone) given Nothing
evict_due pending req given p is_p is_q = rw (is_p, is_q) refl

is_evicted : (pending : Option Pending) (p : Pending) → pending ≡ Some p → p.kind ≡ Evict → is_evicting pending ≡ true
is_evicted pending p is kind = rw (is, kind) refl

pub none_unique : (s : Copy) → same s Invalid ≡ true → is_unique s ≡ false
none_unique Invalid h = refl
none_unique other h = no h

-- the line once its Evict is started
abbrev pub evicted_line : LineState → ℕ → LineState
evicted_line s n = record s {
  home = record (taken_up s.home n) { filter = filter_without s.home.filter n };
  flits = slice_set s.flits n (record (cells_of s n) { rsp_down = Some EvictDone });
}

pub or_says : (a b : Bool) → a ≡ true → (a || b) ≡ true
or_says true b h = refl
or_says false b h = no h

pub evict_started : Laws → (o : Observed) (s : LineState) (last : List ℕ) (agent : Agent) (request : Waiting) → agent.0 < 8 → Kept last s → Stands last s o
    → waiting_of s.home agent.0 ≡ Some request → s.home.serving ≡ Idle → request.kind ≡ Evict
    → Given o (evicted_line s agent.0) last agent CompI no_words
evict_started laws o s last agent request low kept stands waits idle kind =
    let n : ℕ = agent.0 in
    let rn = rn_of s n in
    let c = cells_of s n in
    let f : FilterState = s.home.filter in
    let d : Due = o.public.due n in
    let b = stands.lanes n in
    let by : Waits (lane s n) request.kind = by_waiting s.home.serving f.unique f.owner last n (lane s n) request (kept.lanes n low) waits in
    let facts : EvictAsked d = evict_asked d (subst (λ v. Asked (kind_seen v) d) kind (asked (lane s n) request.kind d by b.due_is)) in
    let told : told_by CompI d (o.told n).told ≡ (o.told n).told = evict_told d (o.told n).told facts.settles_none in
    let none : same (most (o.told n)) Invalid ≡ true = b.gone (or_says (is_evicting rn.pending) _ (is_evicted rn.pending by.pending by.is (by.kind_is ∙ kind))) in
    let takes : takes_home o (home_flit agent CompI no_words) ≡ true = both _ _ (both _ _ (facts.any (o.public.snooped n)) refl)
    (goes_still o agent CompI no_words stands.sound (low_agent n low) facts.alone told) in (
      takes,
      facts.moment,
      flit_given laws o s (evicted_line s n) last agent (record (lane s n) { flits = record c { rsp_down = Some EvictDone }; named = false; waiting = None }) CompI no_words (low_agent n low)
          (moves_home s n _ _ _ refl (puts_set no_flits s.flits n _ (within n _ low kept.flits)) (puts_set false f.named n false (within n _ low kept.named)) (puts_nothing false s.home.awaited n)
          (puts_set nothing_waiting s.home.waiting n None (within n _ low kept.waiting)))
          stands
          (record {
            state = evict_held rn.state rn.pending c.dat_down c.rsp_down by.pending d by.is by.given by.response facts.settles_none;
            words = λ holds. refl;
            makes_none = refl;
            settles_none = facts.settles_none;
            informed = λ e. no e;
          })
          takes
          (record {
            due_is = evict_due rn.pending c.req c.dat_down by.pending by.is by.req;
            snooped_is = b.snooped_is;
            named = λ some. no (sym (subst (λ t. same (strongest t) Invalid ≡ false) told some) ∙ none);
            flagged = λ one. no (sym (none_unique (most (o.told n)) none) ∙ subst (λ t. is_unique (strongest t) ≡ true) told one);
            gone = λ g. subst (λ t. same (strongest t) Invalid ≡ true) (sym told) none;
            shared = λ g. subst (λ t. is_unique (strongest t) ≡ false) (sym told) (none_unique (most (o.told n)) none);
          })
          (λ m other. subst (λ v. Beside (is_given_up v) (filter_without f n).unique (lane s m) (o.public.due m) (o.public.snooped m) (o.told m)) (sym idle)
          (beside_under (is_given_up s.home.serving) f.unique (filter_without f n).unique (lane s m) _ _ _
          (still_flagged f n m (o.told m) kept.named other (stands.lanes m).named (stands.lanes m).flagged) (stands.lanes m))),
    )
