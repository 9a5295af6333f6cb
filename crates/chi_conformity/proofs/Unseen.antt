-- Changes of a line that nobody sees: drops, cancels, and flits that arrive.
use Rattle.std.proofs.Common.{arith, ◌≡◌, ◌≢◌, inl, inr, ⊎_elim, ℕ, ◌<◌, ◌≤◌, List, refl, sym, ap, subst, ◌∙◌, length}
use Rattle.std.specs.Prelude.{Bool, true, false, ◌||◌, ◌==◌, Option, Some, None, is_some}
use Rattle.std.proofs.lemmas.Bool.{and_from, cases_lt, eqb-true}
use Rattle.std.proofs.lemmas.List.{get_or_past}
use Rattle.chi_flit.specs.declared.numbers.Agent.{Agent}
use Rattle.chi_flit.specs.declared.numbers.Slot.{Slot}
use Rattle.chi_flit.specs.declared.state.State.{State}
use Rattle.chi_flit.specs.declared.state.State.TheVariants.{I, SC, UC}
use Rattle.chi_flit.specs.declared.kind.Kind.{Kind}
use Rattle.chi_flit.specs.declared.credit.CreditType.{CreditType}
use Rattle.chi_flit.specs.declared.message.CompData.{CompData}
use Rattle.chi_flit.specs.declared.message.Request.{Request}
use Rattle.chi_flit.specs.declared.message.RspDown.{RspDown}
use Rattle.chi_flit.specs.declared.message.RspDown.TheVariants.{CompI, RetryAck}
use Rattle.chi_flit.specs.declared.message.DatUp.{DatUp}
use Rattle.chi_flit.specs.declared.message.DatUp.TheVariants.{SnpRespDataIPD, CopyBackWrData}
use Rattle.chi_flit.specs.Kind.{gives_up}
use Rattle.chi_filter.specs.Filter.{FilterState, filter_without, has_any, is_in, is_named, others_than}
use Rattle.chi_wires.specs.declared.cells.Cells.{Cells}
use Rattle.chi_wires.specs.Cell.{no_flits}
use Rattle.chi_rnline.specs.declared.pending.Pending.{Pending}
use Rattle.chi_rnline.specs.declared.pending.Phase.TheVariants.{Sent as SentPhase, Retried}
use Rattle.chi_rnline.specs.Rn.{in_phase, is_clean_copy, no_line, rn_after_cancel, rn_after_drop, rn_after_evict, rn_after_retry}
use Rattle.chi_homeline.specs.declared.serving.Serving.{Serving}
use Rattle.chi_homeline.specs.declared.serving.Serving.TheVariants.{AwaitingWriteData}
use Rattle.chi_homeline.specs.Home.{home_after_ack, home_after_admit, home_after_write, leaves, written_filter}
use Rattle.chi_line.specs.LineState.{LineState, cells_of, rn_of}
use Rattle.chi_line.specs.Kept.{Kept, Lane, LaneKept, is_retried, lane}
use Rattle.chi_line.specs.Step.{acknowledged_line, admitted_line, cancelled_line, dropped_line, evict_received_line, retry_received_line, written_line}
use Rattle.chi_line.proofs.Asks.{has_in, left_in, length-others}
use Rattle.chi_line.proofs.Frame.{Moves, Puts, moves_home, nothing_waiting, puts_nothing, puts_set, within}
use Rattle.chi_observer.specs.declared.kinds.Kind.{Kind as SeenKind}
use Rattle.chi_observer.specs.declared.kinds.Snoop.{Snoop as SeenSnoop}
use Rattle.chi_observer.specs.declared.flits.Due.{Due}
use Rattle.chi_observer.specs.declared.flits.Due.TheVariants.{Nothing, Resending}
use Rattle.chi_observer.specs.Copies.{Copy, Held, copy_of, is_clean, is_unique, same}
use Rattle.chi_observer.specs.Copies.Copy.{Invalid, UniqueClean, UniqueEmpty, UniqueDirty}
use Rattle.chi_observer.specs.Rules.{is_free, is_resending, may_be_free}
use Rattle.chi_observer.specs.Tables.{Known, most}
use Rattle.chi_observer.specs.Worlds.{Hidden}
use Rattle.chi_observer.specs.Observed.{Meaning, Observed}
use Rattle.chi_conformity.specs.Seen.{kind_seen}
use Rattle.chi_conformity.proofs.Held.{Beside, DueIs, DueWaiting, Stands, due_asked, held, held_of, is_evicting, is_given_up, is_none_form, says_none, words_held, world_of, writes_none}
use Rattle.chi_conformity.proofs.Flits.{Laws, meant_as, or_in}
use Rattle.chi_conformity.proofs.Acted.{Empty, free_held, low_agent, moves_parts}
use Rattle.chi_conformity.proofs.Accesses.{idle_cells, idle_due}
use Rattle.chi_conformity.proofs.Requests.{retried_cells, retried_due}
use Rattle.chi_conformity.proofs.Acknowledged.{by_response, response_due}
use Rattle.chi_conformity.proofs.Put.{differ}
use Rattle.chi_conformity.proofs.Told.{no}

-- what is told stays, and one lane is moved
pub beside_moved : (up unique : Bool) (o : Observed) (s s' : LineState) (n : ℕ) (x : Lane) → Moves s s' n x
    → Beside up unique x (o.public.due n) (o.public.snooped n) (o.told n)
    → ((m : ℕ) → m ≢ n → Beside up unique (lane s m) (o.public.due m) (o.public.snooped m) (o.told m))
    → (m : ℕ) → Beside up unique (lane s' m) (o.public.due m) (o.public.snooped m) (o.told m)
beside_moved up unique o s s' n x moves own other m = go (m == n) refl
  where
    go : (b : Bool) → (m == n) ≡ b → Beside up unique (lane s' m) (o.public.due m) (o.public.snooped m) (o.told m)
    go true e = subst (λ (j : ℕ). Beside up unique (lane s' j) (o.public.due j) (o.public.snooped j) (o.told j)) (sym (eqb-true m n e))
        (subst (λ (y : Lane). Beside up unique y (o.public.due n) (o.public.snooped n) (o.told n)) (sym moves.at) own)
    go false e = subst (λ (y : Lane). Beside up unique y (o.public.due m) (o.public.snooped m) (o.told m)) (sym (moves.others m (differ m n e))) (other m (differ m n e))

-- and the world stays
pub meant_moved : (o : Observed) (s s' : LineState) (last home : List ℕ) (n : ℕ) (x : Lane) → Moves s s' n x
    → held x (o.public.due n) ≡ held (lane s n) (o.public.due n) → words_held x ≡ words_held (lane s n)
    → Meaning o (world_of o.public.due s last home) → Meaning o (world_of o.public.due s' last home)
meant_moved o s s' last home n x moves same words m =
    meant_as o (world_of o.public.due s last home) (world_of o.public.due s' last home) (λ j low. of_state j (j == n) refl) (λ j low. of_words j (j == n) refl) refl refl m
  where
    of_state : (j : ℕ) (b : Bool) → (j == n) ≡ b → held (lane s' j) (o.public.due j) ≡ held (lane s j) (o.public.due j)
    of_state j true e = subst (λ (i : ℕ). held (lane s' i) (o.public.due i) ≡ held (lane s i) (o.public.due i)) (sym (eqb-true j n e))
        (ap (λ (y : Lane). held y (o.public.due n)) moves.at ∙ same)
    of_state j false e = ap (λ (y : Lane). held y (o.public.due j)) (moves.others j (differ j n e))

    of_words : (j : ℕ) (b : Bool) → (j == n) ≡ b → words_held (lane s' j) ≡ words_held (lane s j)
    of_words j true e = subst (λ (i : ℕ). words_held (lane s' i) ≡ words_held (lane s i)) (sym (eqb-true j n e)) (ap words_held moves.at ∙ words)
    of_words j false e = ap words_held (moves.others j (differ j n e))

pub quiet : (o : Observed) (s s' : LineState) (last : List ℕ) (n : ℕ) (x : Lane) → Moves s s' n x
    → held x (o.public.due n) ≡ held (lane s n) (o.public.due n) → words_held x ≡ words_held (lane s n) → Stands last s o
    → Beside (is_given_up s'.home.serving) s'.home.filter.unique x (o.public.due n) (o.public.snooped n) (o.told n)
    → ((m : ℕ) → m ≢ n → Beside (is_given_up s'.home.serving) s'.home.filter.unique (lane s m) (o.public.due m) (o.public.snooped m) (o.told m))
    → Stands last s' o
quiet o s s' last n x moves same words stands own other = record {
  home = stands.home;
  sound = stands.sound;
  meant = meant_moved o s s' last stands.home n x moves same words stands.meant;
  value = stands.value;
  thrown = stands.thrown;
  lanes = beside_moved (is_given_up s'.home.serving) s'.home.filter.unique o s s' n x moves own other;
}

-- DROP AND CANCEL
pub idle_held : (state : State) (pending : Option Pending) (given : Option CompData) (response : Option RspDown) (d : Due) → pending ≡ None → given ≡ None → response ≡ None
    → held_of state pending given response d ≡ record { copy = copy_of state; cancelled = is_resending d }
idle_held state pending given response d is_p is_g is_r = rw (is_p, is_g, is_r) refl

clean_seen : (state : State) → is_clean_copy state ≡ true → is_clean (copy_of state) ≡ true
clean_seen SC h = refl
clean_seen UC h = refl
clean_seen other h = no h

dropped_held : (state : State) (pending : Option Pending) (given : Option CompData) (response : Option RspDown) (d : Due) → given ≡ None → response ≡ None
    → held_of I pending given response d ≡ record { copy = Invalid; cancelled = (held_of state pending given response d).cancelled }
dropped_held state pending given response d is_g is_r = rw (is_g, is_r) refl

pub dropped : Laws → (o : Observed) (s : LineState) (last : List ℕ) (n : ℕ) → n < 8 → Kept last s → Stands last s o
    → (rn_of s n).pending ≡ None → is_clean_copy (rn_of s n).state ≡ true → Stands last (dropped_line s n) o
dropped laws o s last n low kept stands none clean =
    let rn = rn_of s n in
    let c = cells_of s n in
    let d : Due = o.public.due n in
    let s' : LineState = dropped_line s n in
    let x : Lane = record (lane s n) { rn = rn_after_drop rn } in
    let moves : Moves s s' n x = moves_parts s _ s.flits n (rn_after_drop rn) c (puts_set no_line s.requesters n _ (within n _ low kept.requesters)) (puts_nothing no_flits s.flits n) in
    let empty : Empty (lane s n) = idle_cells s.home.serving s.home.filter.unique s.home.filter.owner last n (lane s n) (kept.lanes n low) none in
    let plainly : held (lane s n) d ≡ record { copy = copy_of rn.state; cancelled = is_resending d } = idle_held rn.state rn.pending c.dat_down c.rsp_down d none empty.given empty.response in
    let b = stands.lanes n in
    let drops : Hidden o.public (world_of o.public.due s last stands.home) (world_of o.public.due s' last stands.home) = record {
      agent = n;
      low = low_agent n low;
      others = record {
        state = λ m here other. ap (λ (y : Lane). held y (o.public.due m)) (moves.others m other);
        words = λ m here other. ap words_held (moves.others m other);
      };
      home = refl;
      how = inr (inl (record {
        free = subst (λ (h : Held). is_free d h ≡ true) (sym plainly) (free_held d (copy_of rn.state) (idle_due rn.pending (lane s n) d b.due_is none));
        clean = subst (λ (h : Held). is_clean h.copy ≡ true) (sym plainly) (clean_seen rn.state clean);
        gone = ap (λ (y : Lane). held y d) moves.at ∙ dropped_held rn.state rn.pending c.dat_down c.rsp_down d empty.given empty.response;
        last = refl;
      }));
    } in
    record {
      home = stands.home;
      sound = stands.sound;
      meant = laws.closed o _ _ stands.sound stands.meant drops;
      value = stands.value;
      thrown = stands.thrown;
      lanes = beside_moved (is_given_up s.home.serving) s.home.filter.unique o s s' n x moves
          (record { due_is = b.due_is; snooped_is = b.snooped_is; named = b.named; flagged = b.flagged; gone = b.gone; shared = b.shared })
          (λ m other. stands.lanes m);
    }

retried_held : (state : State) (pending : Option Pending) (given : Option CompData) (response : Option RspDown) (p : Pending) (d : Due) → pending ≡ Some p
    → (held_of state pending given response d).cancelled ≡ false
retried_held state pending given response p d is_p = rw is_p refl

cancelled_held : (state : State) (pending : Option Pending) (given : Option CompData) (response : Option RspDown) (k : SeenKind) (d : Due) → d ≡ Resending k
    → held_of state None given response d ≡ record { copy = (held_of state pending given response d).copy; cancelled = true }
cancelled_held state pending given response k d is_d = rw is_d refl

pub cancelled : Laws → (o : Observed) (s : LineState) (last : List ℕ) (n : ℕ) (p : Pending) → n < 8 → Kept last s → Stands last s o
    → (rn_of s n).pending ≡ Some p → p.phase ≡ Retried → Stands last (cancelled_line s n) o
cancelled laws o s last n p low kept stands is phase =
    let rn = rn_of s n in
    let c = cells_of s n in
    let d : Due = o.public.due n in
    let s' : LineState = cancelled_line s n in
    let x : Lane = record (lane s n) { rn = rn_after_cancel rn } in
    let moves : Moves s s' n x = moves_parts s _ s.flits n (rn_after_cancel rn) c (puts_set no_line s.requesters n _ (within n _ low kept.requesters)) (puts_nothing no_flits s.flits n) in
    let empty : Empty (lane s n) = retried_cells s.home.serving s.home.filter.unique s.home.filter.owner last n (lane s n) p (kept.lanes n low) is phase in
    let b = stands.lanes n in
    let due : d ≡ Resending (kind_seen p.kind) = retried_due rn.pending (lane s n) p d b.due_is empty is phase in
    let cancels : Hidden o.public (world_of o.public.due s last stands.home) (world_of o.public.due s' last stands.home) = record {
      agent = n;
      low = low_agent n low;
      others = record {
        state = λ m here other. ap (λ (y : Lane). held y (o.public.due m)) (moves.others m other);
        words = λ m here other. ap words_held (moves.others m other);
      };
      home = refl;
      how = inr (inr (record {
        retried = ap is_resending due;
        waits = retried_held rn.state rn.pending c.dat_down c.rsp_down p d is;
        gone = ap (λ (y : Lane). held y d) moves.at ∙ cancelled_held rn.state rn.pending c.dat_down c.rsp_down (kind_seen p.kind) d due;
        words = ap words_held moves.at;
        last = refl;
      }));
    } in
    record {
      home = stands.home;
      sound = stands.sound;
      meant = laws.closed o _ _ stands.sound stands.meant cancels;
      value = stands.value;
      thrown = stands.thrown;
      lanes = beside_moved (is_given_up s.home.serving) s.home.filter.unique o s s' n x moves
          (record { due_is = ap may_be_free due; snooped_is = b.snooped_is; named = b.named; flagged = b.flagged; gone = λ g. b.gone (or_in (is_evicting rn.pending) _ g); shared = b.shared })
          (λ m other. stands.lanes m);
    }

-- FLITS THAT ARRIVE
-- RecvRetry
again_held : (state : State) (pending : Option Pending) (given : Option CompData) (response : Option RspDown) (p : Pending) (ty : CreditType) (d : Due)
    → pending ≡ Some p → given ≡ None → response ≡ Some (RetryAck ty) → held_of state (in_phase Retried pending) given None d ≡ held_of state pending given response d
again_held state pending given response p ty d is_p is_g is_r = rw (is_p, is_g, is_r) refl

again_due : (pending : Option Pending) (given : Option CompData) (req : Option Request) (p : Pending) (d : Due) → pending ≡ Some p → given ≡ None → req ≡ None → d ≡ Resending (kind_seen p.kind)
    → DueIs (in_phase Retried pending) req None given d
again_due pending given req p d is_p is_g is_q is_d = rw (is_p, is_g, is_q) is_d

again_evicting : (pending : Option Pending) (rest : Bool) → (is_evicting (in_phase Retried pending) || rest) ≡ true → (is_evicting pending || rest) ≡ true
again_evicting None rest h = h
again_evicting (Some p) rest h = h

pub retry_arrives : (o : Observed) (s : LineState) (last : List ℕ) (n : ℕ) (ty : CreditType) → n < 8 → Kept last s → Stands last s o
    → (cells_of s n).rsp_down ≡ Some (RetryAck ty) → Stands last (retry_received_line s n) o
retry_arrives o s last n ty low kept stands here =
    let rn = rn_of s n in
    let c = cells_of s n in
    let d : Due = o.public.due n in
    let found = by_response s.home.serving s.home.filter.unique s.home.filter.owner last n (lane s n) (RetryAck ty) (kept.lanes n low) here in
    let b = stands.lanes n in
    quiet o s (retry_received_line s n) last n (record (lane s n) { rn = rn_after_retry rn; flits = record c { rsp_down = None } })
    (moves_parts s _ _ n (rn_after_retry rn) (record c { rsp_down = None }) (puts_set no_line s.requesters n _ (within n _ low kept.requesters)) (puts_set no_flits s.flits n _ (within n _ low kept.flits)))
    (again_held rn.state rn.pending c.dat_down c.rsp_down found.0.pending ty d found.0.is found.1 here) refl stands
    (record {
      due_is = again_due rn.pending c.dat_down c.req found.0.pending d found.0.is found.1 found.0.req (response_due (lane s n) (RetryAck ty) d b.due_is found.0 here);
      snooped_is = b.snooped_is;
      named = b.named;
      flagged = b.flagged;
      gone = λ g. b.gone (again_evicting rn.pending _ g);
      shared = b.shared;
    })
    (λ m other. stands.lanes m)

-- RecvComp of an Evict
evicted_held : (state : State) (pending : Option Pending) (given : Option CompData) (response : Option RspDown) (p : Pending) (d : Due)
    → pending ≡ Some p → given ≡ None → response ≡ Some CompI → d ≡ Nothing → held_of state None given None d ≡ held_of state pending given response d
evicted_held state pending given response p d is_p is_g is_r is_d = rw (is_p, is_g, is_r, is_d) refl

pub evict_arrives : (o : Observed) (s : LineState) (last : List ℕ) (n : ℕ) → n < 8 → Kept last s → Stands last s o
    → (cells_of s n).rsp_down ≡ Some CompI → Stands last (evict_received_line s n) o
evict_arrives o s last n low kept stands here =
    let rn = rn_of s n in
    let c = cells_of s n in
    let d : Due = o.public.due n in
    let found = by_response s.home.serving s.home.filter.unique s.home.filter.owner last n (lane s n) CompI (kept.lanes n low) here in
    let b = stands.lanes n in
    let due : d ≡ Nothing = response_due (lane s n) CompI d b.due_is found.0 here in
    quiet o s (evict_received_line s n) last n (record (lane s n) { rn = rn_after_evict rn; flits = record c { rsp_down = None } })
    (moves_parts s _ _ n (rn_after_evict rn) (record c { rsp_down = None }) (puts_set no_line s.requesters n _ (within n _ low kept.requesters)) (puts_set no_flits s.flits n _ (within n _ low kept.flits)))
    (evicted_held rn.state rn.pending c.dat_down c.rsp_down found.0.pending d found.0.is found.1 here due) refl stands
    (record {
      due_is = ap may_be_free due;
      snooped_is = b.snooped_is;
      named = b.named;
      flagged = b.flagged;
      gone = λ g. b.gone (or_in (is_evicting rn.pending) _ g);
      shared = b.shared;
    })
    (λ m other. stands.lanes m)

-- Admit
waits_due : (p : Pending) (d : Due) (allow_retry : Bool) → p.phase ≡ SentPhase → d ≡ due_asked allow_retry (kind_seen p.kind) → DueWaiting p.phase (kind_seen p.kind) d
waits_due p d true phase due = rw phase (inl due)
waits_due p d false phase due = rw phase (inr due)

admit_due : (pending : Option Pending) (req : Option Request) (response : Option RspDown) (given : Option CompData) (p : Pending) (q : Request) (d : Due)
    → pending ≡ Some p → req ≡ Some q → response ≡ None → given ≡ None → p.phase ≡ SentPhase
    → DueIs pending req response given d → DueIs pending None response given d
admit_due pending req response given p q d is_p is_q is_r is_g phase due =
    let asked : d ≡ due_asked q.allow_retry (kind_seen p.kind) =
    subst (λ v. DueIs (Some p) v response given d) is_q (subst (λ v. DueIs v req response given d) is_p due) in
    rw (is_p, is_r, is_g) (waits_due p d q.allow_retry phase asked)

phase_sent : (pending : Option Pending) (p : Pending) → pending ≡ Some p → is_retried pending ≡ false → p.phase ≡ SentPhase
phase_sent pending p is h = search (arith, is, h)

-- a request on its way is in no other place
pub record Asking (x : Lane) : Type 0 where
  pub pending : Pending
  pub is : x.rn.pending ≡ Some pending
  pub phase : pending.phase ≡ SentPhase
  pub response : x.flits.rsp_down ≡ None
  pub given : x.flits.dat_down ≡ None

pub by_request : (serving : Serving) (unique : Bool) (owner : Option Agent) (last : List ℕ) (n : ℕ) (x : Lane) (q : Request) → LaneKept serving unique owner last n x
    → x.flits.req ≡ Some q → Asking x
by_request serving unique owner last n x q k here =
    let there : is_some x.rn.pending ≡ true = search (arith, k.one_place, here) in
    let p = some_of x.rn.pending there in
    record {
      pending = p.0;
      is = p.1;
      phase = phase_sent x.rn.pending p.0 p.1 (search (arith, k.one_place, here));
      response = search (arith, k.one_place, here);
      given = search (arith, k.one_place, here);
    }
  where
    some_of : {A : Type 0} (there : Option A) → is_some there ≡ true → (a : A) × (there ≡ Some a)
    some_of None h = no h
    some_of (Some a) h = (a, refl)

pub request_arrives : (o : Observed) (s : LineState) (last : List ℕ) (n : ℕ) (q : Request) → n < 8 → Kept last s → Stands last s o
    → (cells_of s n).req ≡ Some q → Stands last (admitted_line s n q) o
request_arrives o s last n q low kept stands here =
    let c = cells_of s n in
    let by : Asking (lane s n) = by_request s.home.serving s.home.filter.unique s.home.filter.owner last n (lane s n) q (kept.lanes n low) here in
    let b = stands.lanes n in
    quiet o s (admitted_line s n q) last n (record (lane s n) { flits = record c { req = None }; waiting = Some (record { kind = q.kind; slot = q.slot }) })
    (moves_home s n (home_after_admit s.home n (record { kind = q.kind; slot = q.slot })) _ _ refl
    (puts_set no_flits s.flits n _ (within n _ low kept.flits)) (puts_nothing false s.home.filter.named n) (puts_nothing false s.home.awaited n)
    (puts_set nothing_waiting s.home.waiting n _ (within n _ low kept.waiting)))
    refl refl stands
    (record {
      due_is = admit_due (rn_of s n).pending c.req c.rsp_down c.dat_down by.pending q (o.public.due n) by.is here by.response by.given by.phase b.due_is;
      snooped_is = b.snooped_is;
      named = b.named;
      flagged = b.flagged;
      gone = b.gone;
      shared = b.shared;
    })
    (λ m other. stands.lanes m)

-- what is told of an agent, where the home serves something else, or has another flag
pub gone_under : (up : Bool) (sent : Option DatUp) → writes_none false sent ≡ true → writes_none up sent ≡ true
gone_under up (Some (SnpRespDataIPD words)) h = refl
gone_under up (Some (CopyBackWrData form words)) h = or_in up (is_none_form form) h
gone_under up other h = no h

pub or_more : (a b c d : Bool) → (c ≡ true → d ≡ true) → (a || (b || c)) ≡ true → (a || (b || d)) ≡ true
or_more true b c d more h = refl
or_more false true c d more h = refl
or_more false false c d more h = more h

pub beside_under : (up unique unique' : Bool) (x : Lane) (d : Due) (q : Option SeenSnoop) (k : Known) → (is_unique (most k) ≡ true → unique' ≡ true)
    → Beside up unique x d q k → Beside false unique' x d q k
beside_under up unique unique' x d q k flag b = record {
  due_is = b.due_is;
  snooped_is = b.snooped_is;
  named = b.named;
  flagged = flag;
  gone = λ g. b.gone (or_more (is_evicting x.rn.pending) (says_none x.flits.rsp_up) (writes_none false x.flits.dat_up) (writes_none up x.flits.dat_up) (gone_under up x.flits.dat_up) g);
  shared = b.shared;
}

-- RecvAck
pub or_skip : (a b c d : Bool) → (c ≡ true → d ≡ true) → (a || (false || c)) ≡ true → (a || (b || d)) ≡ true
or_skip true b c d more h = refl
or_skip false b c d more h = or_in b d (more h)

pub ack_arrives : (o : Observed) (s : LineState) (last : List ℕ) (n : ℕ) → n < 8 → Kept last s → Stands last s o → Stands last (acknowledged_line s n) o
ack_arrives o s last n low kept stands =
    let c = cells_of s n in
    let b = stands.lanes n in
    quiet o s (acknowledged_line s n) last n (record (lane s n) { flits = record c { rsp_up = None } })
    (moves_home s n (home_after_ack s.home) _ _ refl
    (puts_set no_flits s.flits n _ (within n _ low kept.flits)) (puts_nothing false s.home.filter.named n) (puts_nothing false s.home.awaited n) (puts_nothing nothing_waiting s.home.waiting n))
    refl refl stands
    (record {
      due_is = b.due_is;
      snooped_is = b.snooped_is;
      named = b.named;
      flagged = b.flagged;
      gone = λ g. b.gone (or_skip (is_evicting (rn_of s n).pending) (says_none c.rsp_up) (writes_none false c.dat_up) _ (gone_under (is_given_up s.home.serving) c.dat_up) g);
      shared = λ g. b.shared (or_in _ _ g);
    })
    (λ m other. beside_under (is_given_up s.home.serving) s.home.filter.unique s.home.filter.unique (lane s m) _ _ _ (stands.lanes m).flagged (stands.lanes m))

-- AN AGENT LEAVES THE FILTER
pub unique_some : (s : Copy) → is_unique s ≡ true → same s Invalid ≡ false
unique_some UniqueClean h = refl
unique_some UniqueEmpty h = refl
unique_some UniqueDirty h = refl
unique_some other h = no h

pub named_low : (marks : List Bool) (m : ℕ) → length marks ≡ 8 → is_in marks m ≡ true → m < 8
named_low marks m eight here = ⊎_elim
    (λ (low : m < 8). low)
    (λ (high : 8 ≤ m). no (sym (get_or_past marks m false (omega (arith, eight, high))) ∙ here))
    (cases_lt m 8)

-- the flag stays where another is told to have the line alone
pub still_flagged : (f : FilterState) (n m : ℕ) (k : Known) → length f.named ≡ 8 → m ≢ n → (same (most k) Invalid ≡ false → is_named f m ≡ true)
    → (is_unique (most k) ≡ true → f.unique ≡ true) → is_unique (most k) ≡ true → (filter_without f n).unique ≡ true
still_flagged f n m k eight other named flagged one =
    let here : is_named f m ≡ true = named (unique_some (most k) one) in
    and_from f.unique (has_any (others_than n f.named)) (flagged one)
    (has_in (others_than n f.named) m (length-others n f.named eight) (named_low f.named m eight here) (left_in n m f.named other ∙ here))

-- RecvWrData
writes_leave : (kind : Kind) (form : State) (words : List ℕ) (up : Bool) → up ≡ gives_up kind → leaves kind form ≡ true → writes_none up (Some (CopyBackWrData form words)) ≡ true
writes_leave kind I words up is h = or_in up true refl
writes_leave kind form words up is h = is_up (gives_up kind) up is h
  where
    is_up : (a b : Bool) → b ≡ a → (a || false) ≡ true → (b || false) ≡ true
    is_up a b e i = subst (λ v. (v || false) ≡ true) (sym e) i

pub or_last : (a b c : Bool) → c ≡ true → (a || (b || c)) ≡ true
or_last a b c h = or_in a (b || c) (or_in b c h)

abbrev written_named : Bool → Bool → Bool
written_named true named = false
written_named false named = named

written_beside : (up gone : Bool) (f : FilterState) (n : ℕ) (x : Lane) (c : Cells) (d : Due) (q : Option SeenSnoop) (k : Known)
    → (gone ≡ true → writes_none up x.flits.dat_up ≡ true) → c ≡ record x.flits { dat_up = None } → Beside up f.unique x d q k
    → Beside false (written_filter gone f n).unique (record x { named = written_named gone x.named; flits = c }) d q k
written_beside up true f n x c d q k gone is b =
    let none : same (most k) Invalid ≡ true = b.gone (or_last (is_evicting x.rn.pending) (says_none x.flits.rsp_up) _ (gone refl)) in
    subst (λ v. Beside false (written_filter true f n).unique (record x { named = false; flits = v }) d q k) (sym is)
    (record {
      due_is = b.due_is;
      snooped_is = b.snooped_is;
      named = λ some. no (sym some ∙ none);
      flagged = λ one. no (sym (unique_some (most k) one) ∙ none);
      gone = λ g. none;
      shared = λ g. not_unique (most k) none;
    })
  where
    not_unique : (s : Copy) → same s Invalid ≡ true → is_unique s ≡ false
    not_unique Invalid h = refl
    not_unique other h = no h
written_beside up false f n x c d q k gone is b =
    subst (λ v. Beside false f.unique (record x { named = x.named; flits = v }) d q k) (sym is)
    (record {
      due_is = b.due_is;
      snooped_is = b.snooped_is;
      named = b.named;
      flagged = b.flagged;
      gone = λ g. b.gone (or_more (is_evicting x.rn.pending) (says_none x.flits.rsp_up) false (writes_none up x.flits.dat_up) (λ e. no e) g);
      shared = λ g. b.shared (or_front _ _ g);
    })
  where
    or_front : (a c : Bool) → (a || false) ≡ true → (a || c) ≡ true
    or_front true c h = refl
    or_front false c h = no h

written_puts : (gone : Bool) (f : FilterState) (n : ℕ) → n < 8 → length f.named ≡ 8 → Puts false f.named (written_filter gone f n).named n (written_named gone (is_named f n))
written_puts true f n low eight = puts_set false f.named n false (within n _ low eight)
written_puts false f n low eight = puts_nothing false f.named n

written_other : (gone : Bool) (f : FilterState) (n m : ℕ) (k : Known) → length f.named ≡ 8 → m ≢ n → (same (most k) Invalid ≡ false → is_named f m ≡ true)
    → (is_unique (most k) ≡ true → f.unique ≡ true) → is_unique (most k) ≡ true → (written_filter gone f n).unique ≡ true
written_other true f n m k eight other named flagged one = still_flagged f n m k eight other named flagged one
written_other false f n m k eight other named flagged one = flagged one

pub write_arrives : (o : Observed) (s : LineState) (last : List ℕ) (agent : Agent) (slot : Slot) (kind : Kind) (form : State) (words : List ℕ) → agent.0 < 8 → Kept last s → Stands last s o
    → s.home.serving ≡ AwaitingWriteData agent kind slot → (cells_of s agent.0).dat_up ≡ Some (CopyBackWrData form words)
    → Stands last (written_line s agent.0 kind form words) o
write_arrives o s last agent slot kind form words low kept stands serving here =
    let n : ℕ = agent.0 in
    let c = cells_of s n in
    let f : FilterState = s.home.filter in
    let gone : Bool = leaves kind form in
    quiet o s (written_line s n kind form words) last n (record (lane s n) { named = written_named gone (is_named f n); flits = record c { dat_up = None } })
    (moves_home s n (home_after_write s.home n kind form words) _ _ refl
    (puts_set no_flits s.flits n _ (within n _ low kept.flits)) (written_puts gone f n low kept.named) (puts_nothing false s.home.awaited n) (puts_nothing nothing_waiting s.home.waiting n))
    refl refl stands
    (written_beside (is_given_up s.home.serving) gone f n (lane s n) (record c { dat_up = None }) _ _ _
    (λ leaves. subst (λ sent. writes_none (is_given_up s.home.serving) sent ≡ true) (sym here) (writes_leave kind form words (is_given_up s.home.serving) (ap is_given_up serving) leaves))
    refl (stands.lanes n))
    (λ m other. beside_under (is_given_up s.home.serving) f.unique (written_filter gone f n).unique (lane s m) _ _ _
    (written_other gone f n m (o.told m) kept.named other (stands.lanes m).named (stands.lanes m).flagged) (stands.lanes m))
