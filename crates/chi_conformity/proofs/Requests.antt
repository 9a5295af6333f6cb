-- Requests, and requests that are sent again.
use Rattle.std.proofs.Common.{arith, ◌≡◌, ◌⊎◌, inl, inr, ℕ, ◌<◌, List, refl, sym, ap, subst, ◌∙◌}
use Rattle.std.specs.Prelude.{Bool, true, false, ◌&&◌, ◌||◌, Option, Some, None, if◌then◌else◌}
use Rattle.chi_flit.specs.declared.numbers.Agent.{Agent}
use Rattle.chi_flit.specs.declared.numbers.Slot.{Slot}
use Rattle.chi_flit.specs.declared.state.State.{State}
use Rattle.chi_flit.specs.declared.state.State.TheVariants.{I, SC, UC, UD, SD}
use Rattle.chi_flit.specs.declared.kind.Kind.{Kind}
use Rattle.chi_flit.specs.declared.kind.Kind.TheVariants.{ReadNotSharedDirty, ReadShared, ReadUnique, CleanUnique, Evict, WriteBackFull, WriteCleanFull, WriteEvictFull}
use Rattle.chi_flit.specs.declared.message.CompData.{CompData}
use Rattle.chi_flit.specs.declared.message.RspDown.{RspDown}
use Rattle.chi_flit.specs.Kind.{is_needed}
use Rattle.chi_flit.specs.Message.{no_words}
use Rattle.chi_wires.specs.Cell.{no_flits, with_message}
use Rattle.chi_rnline.specs.declared.pending.Pending.{Pending}
use Rattle.chi_rnline.specs.declared.pending.Phase.TheVariants.{Sent as SentPhase, Retried}
use Rattle.chi_rnline.specs.Rn.{in_phase, no_line, request_message, rn_after_issue, rn_after_resend, state_after_issue}
use Rattle.chi_homeline.specs.declared.serving.Serving.{Serving}
use Rattle.chi_line.specs.LineState.{LineState, cells_of, rn_of}
use Rattle.chi_line.specs.Kept.{Kept, Lane, LaneKept, lane}
use Rattle.chi_line.specs.Step.{issued_line, resent_line}
use Rattle.chi_line.proofs.Frame.{puts_set, within}
use Rattle.chi_observer.specs.declared.told.Told.{Told}
use Rattle.chi_observer.specs.declared.flits.Due.{Due}
use Rattle.chi_observer.specs.declared.flits.Due.TheVariants.{Completion, Resending, SureCompletion}
use Rattle.chi_observer.specs.declared.flits.Act.TheVariants.{Request, Resend}
use Rattle.chi_observer.specs.declared.flits.Stores.{Stores}
use Rattle.chi_observer.specs.Copies.{copy_of, same}
use Rattle.chi_observer.specs.Copies.Copy.{Invalid}
use Rattle.chi_observer.specs.Rules.{acts, is_free, is_issued_from, is_resending, issued, may_be_free, plain, same_kind}
use Rattle.chi_observer.specs.Tables.{Known, may_drift, reach, strongest, told_issued}
use Rattle.chi_observer.specs.Observed.{Observed}
use Rattle.chi_conformity.specs.Seen.{kind_seen}
use Rattle.chi_conformity.proofs.Held.{DueIs, Stands, held_of, is_evict, is_evicting}
use Rattle.chi_conformity.proofs.Flits.{Laws, or_in}
use Rattle.chi_conformity.proofs.Acted.{Empty, Sent, acted, free_held, free_reach, low_agent}
use Rattle.chi_conformity.proofs.Accesses.{idle_cells, idle_due}
use Rattle.chi_conformity.proofs.Told.{no, within_issued, within_same}

-- a request is issued from the copies that it needs
issued_from : (kind : Kind) (state : State) → is_needed kind state ≡ true → is_issued_from (kind_seen kind) (copy_of state) ≡ true
issued_from ReadNotSharedDirty I h = refl
issued_from ReadShared I h = refl
issued_from ReadUnique I h = refl
issued_from CleanUnique SC h = refl
issued_from CleanUnique SD h = refl
issued_from Evict SC h = refl
issued_from Evict UC h = refl
issued_from WriteBackFull UD h = refl
issued_from WriteBackFull SD h = refl
issued_from WriteCleanFull UD h = refl
issued_from WriteCleanFull SD h = refl
issued_from WriteEvictFull UC h = refl
issued_from kind state h = no h

issued_leaves : (kind : Kind) (state : State) → issued (kind_seen kind) (copy_of state) ≡ copy_of (state_after_issue kind state)
issued_leaves ReadNotSharedDirty state = refl
issued_leaves ReadShared state = refl
issued_leaves ReadUnique state = refl
issued_leaves CleanUnique state = refl
issued_leaves Evict state = refl
issued_leaves WriteBackFull state = refl
issued_leaves WriteCleanFull state = refl
issued_leaves WriteEvictFull state = refl

both_hold : {A : Type 0} (a b : Bool) (x y : A) → a ≡ true → b ≡ true → (if a && b then x else y) ≡ x
both_hold true true x y h e = refl
both_hold true false x y h e = no e
both_hold false b x y h e = no h

issue_acts : (kind : Kind) (slot : Slot) (state : State) (pending : Option Pending) (given : Option CompData) (response : Option RspDown) (d : Due)
    → pending ≡ None → given ≡ None → response ≡ None → is_needed kind state ≡ true → may_be_free d ≡ true
    → acts (Request (kind_seen kind)) false d (held_of state pending given response d)
    ≡ Some (held_of (state_after_issue kind state) (Some (record { kind = kind; slot = slot; phase = SentPhase })) given response (Completion (kind_seen kind)))
issue_acts kind slot state pending given response d is_p is_g is_r needed free = rw (is_p, is_g, is_r)
    (both_hold (is_free d (record { copy = copy_of state; cancelled = is_resending d })) (is_issued_from (kind_seen kind) (copy_of state))
    (Some (plain (issued (kind_seen kind) (copy_of state)))) None (free_held d (copy_of state) free) (issued_from kind state needed)
    ∙ ap (λ s. Some (plain s)) (issued_leaves kind state))

issue_may : (z : Stores) (k : Known) (state : State) (pending : Option Pending) (given : Option CompData) (response : Option RspDown) (d : Due)
    → pending ≡ None → given ≡ None → response ≡ None → may_be_free d ≡ true
    → reach z d k (held_of state pending given response d) ≡ true → may_drift z k.told (copy_of state) ≡ true
issue_may z k state pending given response d is_p is_g is_r free r = free_reach z d k (copy_of state) free (subst (λ h. reach z d k h ≡ true) plainly r)
  where
    plainly : held_of state pending given response d ≡ record { copy = copy_of state; cancelled = is_resending d }
    plainly = rw (is_p, is_g, is_r) refl

-- an Evict tells that there is no copy
gone_issued : (kind : Kind) (t : Told) (a rest : Bool) → (is_evict kind || rest) ≡ true
    → ((a || rest) ≡ true) ⊎ (same (strongest (told_issued (kind_seen kind) t)) Invalid ≡ true)
gone_issued Evict t a rest h = inr refl
gone_issued other t a rest h = inl (or_in a rest h)

pub issue_seen : Laws → (o : Observed) (s : LineState) (last : List ℕ) (agent : Agent) (kind : Kind) (slot : Slot) → agent.0 < 8 → Kept last s → Stands last s o
    → (rn_of s agent.0).pending ≡ None → is_needed kind (rn_of s agent.0).state ≡ true
    → Sent o (issued_line s agent.0 kind slot) last agent (Request (kind_seen kind)) no_words
issue_seen laws o s last agent kind slot low kept stands none needed =
    let n : ℕ = agent.0 in
    let empty : Empty (lane s n) = idle_cells s.home.serving s.home.filter.unique s.home.filter.owner last n (lane s n) (kept.lanes n low) none in
    let free : may_be_free (o.public.due n) ≡ true = idle_due (rn_of s n).pending (lane s n) (o.public.due n) (stands.lanes n).due_is none in
    acted laws o s last last agent _ _ (rn_after_issue (rn_of s n) kind slot) (with_message (cells_of s n) (request_message kind slot true)) (Request (kind_seen kind)) no_words low kept stands
    (puts_set no_line s.requesters n _ (within n _ low kept.requesters)) (puts_set no_flits s.flits n _ (within n _ low kept.flits))
    (record {
      allowed = refl;
      acts_so = issue_acts kind slot (rn_of s n).state (rn_of s n).pending (cells_of s n).dat_down (cells_of s n).rsp_down (o.public.due n) none empty.given empty.response needed free;
      shows = λ e. no e;
      writes_none = refl;
      lasts = λ e. refl;
      words = λ holds e. refl;
      stored = λ e. no e;
      word = refl;
    })
    (record {
      within = within_issued o.public.stores kind (o.told n).told (rn_of s n).state needed
          (issue_may o.public.stores (o.told n) (rn_of s n).state (rn_of s n).pending (cells_of s n).dat_down (cells_of s n).rsp_down (o.public.due n) none empty.given empty.response free
          (stands.meant.told n (low_agent n low)));
      due = refl;
      snoop = (stands.lanes n).snooped_is;
      gone = gone_issued kind (o.told n).told _ _;
      shared = λ g. inl g;
    })

-- a request that was retried
pub retried_cells : (serving : Serving) (unique : Bool) (owner : Option Agent) (last : List ℕ) (n : ℕ) (x : Lane) (p : Pending) → LaneKept serving unique owner last n x
    → x.rn.pending ≡ Some p → p.phase ≡ Retried → Empty x
retried_cells serving unique owner last n x p k is phase = record {
  req = search (arith, k.one_place, is, phase);
  response = search (arith, k.one_place, is, phase);
  given = search (arith, k.one_place, is, phase);
}

pub retried_due : (pending : Option Pending) (x : Lane) (p : Pending) (d : Due) → DueIs pending x.flits.req x.flits.rsp_down x.flits.dat_down d → Empty x
    → pending ≡ Some p → p.phase ≡ Retried → d ≡ Resending (kind_seen p.kind)
retried_due pending x p d due empty is phase =
    subst (λ v. DueIs (Some (record p { phase = v })) None None None d) phase
    (subst (λ v. DueIs (Some p) None None v d) empty.given
    (subst (λ v. DueIs (Some p) None v x.flits.dat_down d) empty.response
    (subst (λ v. DueIs (Some p) v x.flits.rsp_down x.flits.dat_down d) empty.req
    (subst (λ v. DueIs v x.flits.req x.flits.rsp_down x.flits.dat_down d) is due))))

same_itself : (kind : Kind) → same_kind (kind_seen kind) (kind_seen kind) ≡ true
same_itself ReadNotSharedDirty = refl
same_itself ReadShared = refl
same_itself ReadUnique = refl
same_itself CleanUnique = refl
same_itself Evict = refl
same_itself WriteBackFull = refl
same_itself WriteCleanFull = refl
same_itself WriteEvictFull = refl

resend_acts : (state : State) (pending : Option Pending) (given : Option CompData) (response : Option RspDown) (p : Pending) (d : Due)
    → pending ≡ Some p → given ≡ None → response ≡ None → d ≡ Resending (kind_seen p.kind)
    → acts (Resend (kind_seen p.kind)) false d (held_of state pending given response d) ≡ Some (held_of state (in_phase SentPhase pending) given response (SureCompletion (kind_seen p.kind)))
resend_acts state pending given response p d is_p is_g is_r is_d = rw (is_p, is_g, is_r, is_d)
    (both_hold (same_kind (kind_seen p.kind) (kind_seen p.kind)) true (Some (plain (copy_of state))) None (same_itself p.kind) refl)

evicting_still : (pending : Option Pending) (rest : Bool) → (is_evicting (in_phase SentPhase pending) || rest) ≡ true → (is_evicting pending || rest) ≡ true
evicting_still None rest h = h
evicting_still (Some p) rest h = h

pub resend_seen : Laws → (o : Observed) (s : LineState) (last : List ℕ) (agent : Agent) (p : Pending) → agent.0 < 8 → Kept last s → Stands last s o
    → (rn_of s agent.0).pending ≡ Some p → p.phase ≡ Retried
    → Sent o (resent_line s agent.0 p) last agent (Resend (kind_seen p.kind)) no_words
resend_seen laws o s last agent p low kept stands is phase =
    let n : ℕ = agent.0 in
    let empty : Empty (lane s n) = retried_cells s.home.serving s.home.filter.unique s.home.filter.owner last n (lane s n) p (kept.lanes n low) is phase in
    let due : o.public.due n ≡ Resending (kind_seen p.kind) = retried_due (rn_of s n).pending (lane s n) p (o.public.due n) (stands.lanes n).due_is empty is phase in
    acted laws o s last last agent _ _ (rn_after_resend (rn_of s n)) (with_message (cells_of s n) (request_message p.kind p.slot false)) (Resend (kind_seen p.kind)) no_words low kept stands
    (puts_set no_line s.requesters n _ (within n _ low kept.requesters)) (puts_set no_flits s.flits n _ (within n _ low kept.flits))
    (record {
      allowed = refl;
      acts_so = resend_acts (rn_of s n).state (rn_of s n).pending (cells_of s n).dat_down (cells_of s n).rsp_down p (o.public.due n) is empty.given empty.response due;
      shows = λ e. no e;
      writes_none = refl;
      lasts = λ e. refl;
      words = λ holds e. refl;
      stored = λ e. no e;
      word = refl;
    })
    (record {
      within = within_same (o.told n).told (rn_of s n).state;
      due = subst (λ v. DueIs (in_phase SentPhase v) (Some (record { kind = p.kind; slot = p.slot; allow_retry = false })) (cells_of s n).rsp_down (cells_of s n).dat_down (SureCompletion (kind_seen p.kind))) (sym is) refl;
      snoop = (stands.lanes n).snooped_is;
      gone = λ g. inl (evicting_still (rn_of s n).pending _ g);
      shared = λ g. inl g;
    })
