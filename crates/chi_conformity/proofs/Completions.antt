-- Completions at a start that has nobody to ask, and behind the last answer.
use Rattle.std.proofs.Common.{arith, ◌≡◌, ◌≢◌, ⊎_elim, ℕ, ◌<◌, ◌≤◌, List, refl, sym, ap, subst, ◌∙◌, length}
use Rattle.std.specs.Prelude.{Bool, true, false, ◌==◌, not, map, Option, Some, None, is_some, if◌then◌else◌}
use Rattle.std.proofs.lemmas.Bool.{cases_lt, not-false, not-true, eqb-true}
use Rattle.std.proofs.lemmas.List.{get_or_past}
use Rattle.chi_flit.specs.declared.numbers.Agent.{Agent}
use Rattle.chi_flit.specs.declared.numbers.Slot.{Slot}
use Rattle.chi_flit.specs.declared.state.State.TheVariants.{I}
use Rattle.chi_flit.specs.declared.kind.Kind.{Kind}
use Rattle.chi_flit.specs.declared.kind.Kind.TheVariants.{ReadNotSharedDirty, ReadShared, ReadUnique, CleanUnique, Evict}
use Rattle.chi_flit.specs.declared.snoop.Snoop.{Snoop}
use Rattle.chi_flit.specs.declared.snoop.Snoop.TheVariants.{SnpNotSharedDirty, SnpShared, SnpUnique, SnpCleanInvalid}
use Rattle.chi_flit.specs.Kind.{snoop_of}
use Rattle.chi_filter.specs.Filter.{FilterState, has_any, is_in, is_named, others_than}
use Rattle.chi_wires.specs.declared.cells.Cells.{Cells}
use Rattle.chi_wires.specs.Cell.{no_flits, without_message}
use Rattle.chi_rnline.specs.declared.pending.Pending.{Pending}
use Rattle.chi_homeline.specs.declared.serving.Serving.{Serving}
use Rattle.chi_homeline.specs.declared.serving.Serving.TheVariants.{Idle, Snooping}
use Rattle.chi_homeline.specs.declared.serving.SnoopAnswer.{SnoopAnswer}
use Rattle.chi_homeline.specs.declared.serving.SnoopAnswer.TheVariants as answers
use Rattle.chi_homeline.specs.declared.serving.Waiting.{Waiting}
use Rattle.chi_homeline.specs.Home.{asks, asks_shared, completes_unique, completion_of, data_to_send, filter_after, finished_as, finished_sends_as, home_after_completion, snoop_answered_sends, taken_up, waiting_of}
use Rattle.chi_line.specs.LineState.{LineState, cells_of, rn_of}
use Rattle.chi_line.specs.Kept.{Kept, Lane, LaneKept, invalidates, is_read, IsServedRight, kind_if, lane, shares, snoop_out, snoops_for}
use Rattle.chi_line.specs.Snooped.{answer_channel, completion_put}
use Rattle.chi_line.specs.Step.{answered_by}
use Rattle.chi_line.specs.Traffic.{completion_flits}
use Rattle.chi_line.proofs.Asks.{left_in, length-others, none_in}
use Rattle.chi_line.proofs.Completes.{completed_line}
use Rattle.chi_line.proofs.CompleteLanes.{allows_read}
use Rattle.chi_line.proofs.CopyKeeps.{IsSnooping, is_snooping}
use Rattle.chi_line.proofs.Finds.{idle_awaits_nobody}
use Rattle.chi_line.proofs.Frame.{Moves, puts_set, within}
use Rattle.chi_line.proofs.WriteLanes.{Brings, answer_awaited, named_after}
use Rattle.chi_observer.specs.Rules.{completes}
use Rattle.chi_observer.specs.declared.flits.Grant.TheVariants.{CompData, CompUC}
use Rattle.chi_observer.specs.Lines.{Watched, is_taken, watch}
use Rattle.chi_flit.specs.Message.{no_words}
use Rattle.chi_conformity.specs.Seen.{flit_seen, form_seen, kind_seen, message_seen}
use Rattle.chi_conformity.proofs.Held.{Stands, is_evict, is_evicting, is_gone, is_given_up, is_shared}
use Rattle.chi_conformity.proofs.Flits.{Laws}
use Rattle.chi_conformity.proofs.Grants.{Waits, by_service, by_waiting}
use Rattle.chi_conformity.proofs.Completed.{Completable, clean_given, data_given, data_line}
use Rattle.chi_conformity.proofs.Answering.{answer_arrives, answer_clear, answer_line, answer_moves}
use Rattle.chi_conformity.proofs.Calm.{Calm, calm, calm_none, calm_shared, or_none}
use Rattle.chi_conformity.proofs.Taken.{Follows, down_taken}
use Rattle.chi_conformity.proofs.Unseen.{named_low}
use Rattle.chi_conformity.proofs.Writes.{idle_lane}
use Rattle.chi_conformity.proofs.Put.{differ}
use Rattle.chi_conformity.proofs.Told.{no}

-- THE MESSAGE
data_last : (unique : Bool) (s : LineState) (last : List ℕ) (agent : Agent) (slot : Slot) (sent : List ℕ) → agent.0 < 8 → length s.flits ≡ 8 → Kept last (data_line unique s agent slot sent) → sent ≡ last
data_last unique s last agent slot sent low eight kept =
    (kept.lanes agent.0 low).read_last (record { unique = unique; words = sent })
    (ap (λ (c : Cells). c.dat_down) (puts_set no_flits s.flits agent.0 (record (cells_of s agent.0) { dat_down = Some (record { unique = unique; words = sent }) }) (within agent.0 _ low eight)).at)

dirty_fit : (unique : Bool) → completes (kind_seen ReadNotSharedDirty) (form_seen unique) ≡ true
dirty_fit true = refl
dirty_fit false = refl

shared_fit : (unique : Bool) → completes (kind_seen ReadShared) (form_seen unique) ≡ true
shared_fit true = refl
shared_fit false = refl

pub completed_by : Laws → (kind : Kind) (w : Watched) (s : LineState) (last : List ℕ) (agent : Agent) (slot : Slot) (sent : List ℕ) → agent.0 < 8 → is_some (snoop_of kind) ≡ true
    → Stands last s w.seen → Completable s agent.0 kind (completes_unique kind s.home.filter agent.0) → (is_read kind ≡ true → (rn_of s agent.0).state ≡ I)
    → Kept last (completed_line s kind agent slot sent)
    → (is_taken w (message_seen agent (completion_of s.home kind agent sent)) ≡ true)
    × Stands last (completed_line s kind agent slot sent) (watch w (message_seen agent (completion_of s.home kind agent sent))).seen
completed_by laws ReadNotSharedDirty w s last agent slot sent low served stands can none kept =
    let unique : Bool = completes_unique ReadNotSharedDirty s.home.filter agent.0 in
    down_taken w (data_line unique s agent slot sent) last agent (CompData (form_seen unique)) sent low
    (data_given laws unique w.seen s last agent ReadNotSharedDirty slot sent low stands can (none refl) (data_last unique s last agent slot sent low can.flits kept) (dirty_fit unique) refl)
completed_by laws ReadShared w s last agent slot sent low served stands can none kept =
    let unique : Bool = completes_unique ReadShared s.home.filter agent.0 in
    down_taken w (data_line unique s agent slot sent) last agent (CompData (form_seen unique)) sent low
    (data_given laws unique w.seen s last agent ReadShared slot sent low stands can (none refl) (data_last unique s last agent slot sent low can.flits kept) (shared_fit unique) refl)
completed_by laws ReadUnique w s last agent slot sent low served stands can none kept =
    down_taken w (data_line true s agent slot sent) last agent (CompData (form_seen true)) sent low
    (data_given laws true w.seen s last agent ReadUnique slot sent low stands can (none refl) (data_last true s last agent slot sent low can.flits kept) refl refl)
completed_by laws CleanUnique w s last agent slot sent low served stands can none kept =
    down_taken w (completed_line s CleanUnique agent slot sent) last agent CompUC no_words low (clean_given laws w.seen s last agent slot low stands can)
completed_by laws other w s last agent slot sent low served stands can none kept = no served

-- WHAT IT FINDS OF ITS AGENT
not_evict : (kind : Kind) → is_some (snoop_of kind) ≡ true → is_evict kind ≡ false
not_evict Evict h = no h
not_evict other h = refl

not_evicting : (pending : Option Pending) (p : Pending) (kind : Kind) → pending ≡ Some p → p.kind ≡ kind → is_some (snoop_of kind) ≡ true → is_evicting pending ≡ false
not_evicting pending p kind is same served = rw (is, same) (not_evict kind served)

pub record Found (x : Lane) (kind : Kind) : Type 0 where
  pub waits : Waits x kind
  pub unsnooped : x.flits.snp ≡ None
  pub not_gone : is_gone false x.rn.pending x.flits.rsp_up x.flits.dat_up ≡ false
  pub not_shared : is_shared x.flits.rsp_up x.flits.dat_up ≡ false

found : (x : Lane) (kind : Kind) → is_some (snoop_of kind) ≡ true → Waits x kind → Calm x → Found x kind
found x kind served w c = record {
  waits = w;
  unsnooped = c.snp;
  not_gone = or_none _ _ (not_evicting x.rn.pending w.pending kind w.is w.kind_is served) (calm_none x c);
  not_shared = calm_shared x c;
}

-- AT A START
nobody_else : (f : FilterState) (n m : ℕ) → length f.named ≡ 8 → has_any (others_than n f.named) ≡ false → m ≢ n → is_named f m ≡ false
nobody_else f n m eight none other = ⊎_elim
    (λ (low : m < 8). sym (left_in n m f.named other) ∙ none_in (others_than n f.named) m (length-others n f.named eight) low none)
    (λ (high : 8 ≤ m). get_or_past f.named m false (omega (arith, high, eight)))
    (cases_lt m 8)

start_alone : (kind : Kind) (f : FilterState) (n : ℕ) → length f.named ≡ 8 → has_any (asks kind f n) ≡ false → completes_unique kind f n ≡ true → (m : ℕ) → m ≢ n → is_named f m ≡ false
start_alone ReadNotSharedDirty f n eight nobody is m other = nobody_else f n m eight (not-true (has_any (others_than n f.named)) is) other
start_alone ReadShared f n eight nobody is m other = nobody_else f n m eight (not-true (has_any (others_than n f.named)) is) other
start_alone ReadUnique f n eight nobody is m other = nobody_else f n m eight nobody other
start_alone CleanUnique f n eight nobody is m other = nobody_else f n m eight nobody other
start_alone unserved f n eight nobody is m other = no is

not_flagged : (unique : Bool) (f : FilterState) (n : ℕ) → f.unique ≡ unique → has_any (asks_shared f n) ≡ false → not (has_any (others_than n f.named)) ≡ false → f.unique ≡ false
not_flagged unique f n is nobody others = grind (arith, not-false)

start_clear : (kind : Kind) (f : FilterState) (n : ℕ) → is_some (snoop_of kind) ≡ true → has_any (asks kind f n) ≡ false → completes_unique kind f n ≡ false → f.unique ≡ false
start_clear ReadNotSharedDirty f n served nobody others = not_flagged f.unique f n refl nobody others
start_clear ReadShared f n served nobody others = not_flagged f.unique f n refl nobody others
start_clear ReadUnique f n served nobody others = no (sym others)
start_clear CleanUnique f n served nobody others = no (sym others)
start_clear unserved f n served nobody others = no served

-- the line with its request taken up
abbrev pub taken_line : LineState → ℕ → LineState
taken_line s n = record s { home = taken_up s.home n }

pub start_finds : (last : List ℕ) (s : LineState) (agent : Agent) (request : Waiting) → agent.0 < 8 → Kept last s → waiting_of s.home agent.0 ≡ Some request → s.home.serving ≡ Idle
    → is_some (snoop_of request.kind) ≡ true → Found (lane s agent.0) request.kind
start_finds last s agent request low kept waits idle served =
    let n : ℕ = agent.0 in
    let f : FilterState = s.home.filter in
    let k = idle_lane last s n idle kept low in
    found (lane s n) request.kind served (by_waiting Idle f.unique f.owner last n (lane s n) request k waits) (calm Idle f.unique f.owner last n (lane s n) k (idle_awaits_nobody f.unique f.owner last n (lane s n) k) refl)

pub start_completable : (last : List ℕ) (s : LineState) (agent : Agent) (request : Waiting) → agent.0 < 8 → Kept last s → waiting_of s.home agent.0 ≡ Some request → s.home.serving ≡ Idle
    → is_some (snoop_of request.kind) ≡ true → has_any (asks request.kind s.home.filter agent.0) ≡ false
    → Completable (taken_line s agent.0) agent.0 request.kind (completes_unique request.kind s.home.filter agent.0)
start_completable last s agent request low kept waits idle served nobody =
    let at : Found (lane s agent.0) request.kind = start_finds last s agent request low kept waits idle served in
    record {
      waits = record { pending = at.waits.pending; is = at.waits.is; kind_is = at.waits.kind_is; phase = at.waits.phase; req = at.waits.req; response = at.waits.response; given = at.waits.given };
      unsnooped = at.unsnooped;
      not_gone = at.not_gone;
      not_shared = at.not_shared;
      alone = start_alone request.kind s.home.filter agent.0 kept.named nobody;
      clear = start_clear request.kind s.home.filter agent.0 served nobody;
      named = kept.named;
      flits = kept.flits;
    }

pub read_none : (last : List ℕ) (s : LineState) (n : ℕ) (kind : Kind) → n < 8 → Kept last s → Waits (lane s n) kind → is_read kind ≡ true → (rn_of s n).state ≡ I
read_none last s n kind low kept w reads = allows_read kind (rn_of s n).state reads ((kept.lanes n low).kind_fits kind (ap kind_if w.is ∙ ap (λ v. Some v) w.kind_is))

-- BEHIND THE LAST ANSWER
either_snoop : (snoop : Option Snoop) → shares snoop ≡ true → invalidates snoop ≡ false
either_snoop None h = refl
either_snoop (Some SnpNotSharedDirty) h = refl
either_snoop (Some SnpShared) h = refl
either_snoop (Some SnpUnique) h = no h
either_snoop (Some SnpCleanInvalid) h = no h

-- an invalidating snoop leaves none
answer_leaves : (answer : SnoopAnswer) (serving : Serving) (unique : Bool) (owner : Option Agent) (last : List ℕ) (n : ℕ) (x : Lane) (named : Bool) → LaneKept serving unique owner last n x
    → Brings x.flits.rsp_up x.flits.dat_up answer → invalidates (snoop_out serving) ≡ true → named_after answer named ≡ false
answer_leaves answers.I serving unique owner last n x named k here all = refl
answer_leaves (answers.IPD words) serving unique owner last n x named k here all = refl
answer_leaves answers.SC serving unique owner last n x named k here all = no (sym (either_snoop (snoop_out serving) (k.answer_shared here)) ∙ all)
answer_leaves (answers.SCPD words) serving unique owner last n x named k here all = no (sym (either_snoop (snoop_out serving) (k.clean_data words here).2) ∙ all)
answer_leaves (answers.SD words) serving unique owner last n x named k here all = no (sym (ap invalidates (k.dirty_data words here).1) ∙ all)

still_in : (n m : ℕ) (marks : List Bool) → length marks ≡ 8 → m < 8 → m ≢ n → has_any (others_than n marks) ≡ false → is_in marks m ≡ false
still_in n m marks eight low other none = sym (left_in n m marks other) ∙ none_in (others_than n marks) m (length-others n marks eight) low none

-- what is served
pub record Serves (s : LineState) (agent served : Agent) (kind : Kind) (slot : Slot) : Type 0 where
  pub is : s.home.serving ≡ Snooping served kind slot
  pub low : served.0 < 8
  pub apart : served.0 ≢ agent.0
  pub snoops : is_some (snoop_of kind) ≡ true

itself : (served : Agent) (kind : Kind) (slot : Slot) → snoops_for (Snooping served kind slot) served.0 ≡ true
itself served kind slot = grind arith

not_served : (served : Agent) (kind : Kind) (slot : Slot) (m : ℕ) → m ≢ served.0 → snoops_for (Snooping served kind slot) m ≡ false
not_served served kind slot m other = grind (arith, other)

pub serves : (last : List ℕ) (s : LineState) (agent : Agent) → agent.0 < 8 → Kept last s → (is : IsSnooping s.home.serving) → is_in s.home.awaited agent.0 ≡ true → Serves s agent is.agent is.kind is.slot
serves last s agent low kept is awaited = record {
  is = is.serving_is;
  low = subst IsServedRight is.serving_is kept.in_range;
  apart = λ (e : is.agent.0 ≡ agent.0). no (sym ((kept.lanes agent.0 low).snooped_alone
      (subst (λ v. snoops_for v agent.0 ≡ true) (sym is.serving_is) (subst (λ j. snoops_for (Snooping is.agent is.kind is.slot) j ≡ true) e (itself is.agent is.kind is.slot))))
      ∙ awaited);
  snoops = sym (ap (λ v. is_some (snoop_out v)) is.serving_is) ∙ (kept.lanes agent.0 low).awaited_snooped awaited;
}

served_lane : (last : List ℕ) (s : LineState) (agent served : Agent) (kind : Kind) (slot : Slot) → Kept last s → Serves s agent served kind slot
    → LaneKept (Snooping served kind slot) s.home.filter.unique s.home.filter.owner last served.0 (lane s served.0)
served_lane last s agent served kind slot kept by = subst (λ v. LaneKept v s.home.filter.unique s.home.filter.owner last served.0 (lane s served.0)) by.is (kept.lanes served.0 by.low)

served_finds : (last : List ℕ) (s : LineState) (agent served : Agent) (kind : Kind) (slot : Slot) → Kept last s → Serves s agent served kind slot → Found (lane s served.0) kind
served_finds last s agent served kind slot kept by =
    let f : FilterState = s.home.filter in
    let k = served_lane last s agent served kind slot kept by in
    found (lane s served.0) kind by.snoops (by_service (Snooping served kind slot) f.unique f.owner last served.0 (lane s served.0) kind k (itself served kind slot) refl)
    (calm (Snooping served kind slot) f.unique f.owner last served.0 (lane s served.0) k (k.snooped_alone (itself served kind slot)) refl)

-- nobody else is named once everybody has answered an invalidating snoop
finish_unnamed : (answer : SnoopAnswer) (last : List ℕ) (s : LineState) (agent served : Agent) (kind : Kind) (slot : Slot) → agent.0 < 8 → Kept last s → Serves s agent served kind slot
    → Brings (cells_of s agent.0).rsp_up (cells_of s agent.0).dat_up answer → has_any (others_than agent.0 s.home.awaited) ≡ false → invalidates (snoop_of kind) ≡ true
    → (m : ℕ) → m ≢ served.0 → is_named (filter_after answer s.home.filter agent) m ≡ false
finish_unnamed answer last s agent served kind slot low kept by here nobody all m other = go (m == agent.0) refl
  where
    out : invalidates (snoop_out s.home.serving) ≡ true
    out = ap (λ v. invalidates (snoop_out v)) by.is ∙ all

    moves : Moves s (answer_line s agent answer) agent.0 (record (lane s agent.0) { named = named_after answer (is_named s.home.filter agent.0); awaited = false; flits = without_message (cells_of s agent.0) (answer_channel answer) })
    moves = answer_moves answer last s agent low kept

    unawaited : m ≢ agent.0 → m < 8 → is_named s.home.filter m ≡ true → is_named s.home.filter m ≡ false
    unawaited apart here_low named = no (sym (still_in agent.0 m s.home.awaited kept.awaited here_low apart nobody)
        ∙ (kept.lanes m here_low).others_awaited out named (ap (λ v. snoops_for v m) by.is ∙ not_served served kind slot m other))

    unnamed : (b : Bool) → is_named s.home.filter m ≡ b → m ≢ agent.0 → is_named s.home.filter m ≡ false
    unnamed true named apart = unawaited apart (named_low s.home.filter.named m kept.named named) named
    unnamed false named apart = named

    go : (b : Bool) → (m == agent.0) ≡ b → is_named (filter_after answer s.home.filter agent) m ≡ false
    go true e = subst (λ j. is_named (filter_after answer s.home.filter agent) j ≡ false) (sym (eqb-true m agent.0 e))
        (ap (λ (y : Lane). y.named) moves.at
        ∙ answer_leaves answer s.home.serving s.home.filter.unique s.home.filter.owner last agent.0 (lane s agent.0) (is_named s.home.filter agent.0) (kept.lanes agent.0 low) here out)
    go false e = ap (λ (y : Lane). y.named) (moves.others m (differ m agent.0 e)) ∙ unnamed (is_named s.home.filter m) refl (differ m agent.0 e)

finish_alone : (kind : Kind) (f : FilterState) (n : ℕ) → length f.named ≡ 8 → (invalidates (snoop_of kind) ≡ true → (m : ℕ) → m ≢ n → is_named f m ≡ false)
    → completes_unique kind f n ≡ true → (m : ℕ) → m ≢ n → is_named f m ≡ false
finish_alone ReadNotSharedDirty f n eight all is m other = nobody_else f n m eight (not-true (has_any (others_than n f.named)) is) other
finish_alone ReadShared f n eight all is m other = nobody_else f n m eight (not-true (has_any (others_than n f.named)) is) other
finish_alone ReadUnique f n eight all is m other = all refl m other
finish_alone CleanUnique f n eight all is m other = all refl m other
finish_alone unserved f n eight all is m other = no is

finish_completable : (answer : SnoopAnswer) (last : List ℕ) (s : LineState) (agent served : Agent) (kind : Kind) (slot : Slot) → agent.0 < 8 → Kept last s → Serves s agent served kind slot
    → Brings (cells_of s agent.0).rsp_up (cells_of s agent.0).dat_up answer → is_named s.home.filter agent.0 ≡ true → has_any (others_than agent.0 s.home.awaited) ≡ false
    → Completable (answer_line s agent answer) served.0 kind (completes_unique kind (filter_after answer s.home.filter agent) served.0)
finish_completable answer last s agent served kind slot low kept by here named nobody =
    let s' : LineState = answer_line s agent answer in
    let moves = answer_moves answer last s agent low kept in
    let at : Found (lane s' served.0) kind = subst (λ (y : Lane). Found y kind) (sym (moves.others served.0 by.apart)) (served_finds last s agent served kind slot kept by) in
    record {
      waits = at.waits;
      unsnooped = at.unsnooped;
      not_gone = at.not_gone;
      not_shared = at.not_shared;
      alone = finish_alone kind (filter_after answer s.home.filter agent) served.0 (moves.named ∙ kept.named) (finish_unnamed answer last s agent served kind slot low kept by here nobody);
      clear = λ e. answer_clear answer last s agent low kept named;
      named = moves.named ∙ kept.named;
      flits = moves.flits ∙ kept.flits;
    }

-- the home's part of what follows
abbrev finished_line : LineState → Serving → List ℕ → LineState
finished_line s serving sent = record s { home = finished_as serving s.home; flits = completion_put s.flits (finished_sends_as serving s.home sent) }

finished_if : Laws → (w : Watched) (s : LineState) (last : List ℕ) (served : Agent) (kind : Kind) (slot : Slot) (sent : List ℕ) → served.0 < 8 → is_some (snoop_of kind) ≡ true → Stands last s w.seen
    → (has_any s.home.awaited ≡ false → Completable s served.0 kind (completes_unique kind s.home.filter served.0)) → (is_read kind ≡ true → (rn_of s served.0).state ≡ I)
    → (b : Bool) → has_any s.home.awaited ≡ b
    → Kept last (record s {
      home = if b then s.home else home_after_completion s.home kind served slot;
      flits = completion_put s.flits (if b then None else Some (record { agent = served; message = completion_of s.home kind served sent }));
    })
    → Follows last (record s {
      home = if b then s.home else home_after_completion s.home kind served slot;
      flits = completion_put s.flits (if b then None else Some (record { agent = served; message = completion_of s.home kind served sent }));
    }) w (map flit_seen (completion_flits (if b then None else Some (record { agent = served; message = completion_of s.home kind served sent }))))
finished_if laws w s last served kind slot sent low snoops stands can none true awaited kept = stands
finished_if laws w s last served kind slot sent low snoops stands can none false awaited kept =
    completed_by laws kind w s last served slot sent low snoops stands (can awaited) none kept

pub answer_follows : Laws → (answer : SnoopAnswer) (w : Watched) (s : LineState) (last : List ℕ) (agent : Agent) → agent.0 < 8 → Kept last s → Stands last s w.seen
    → Brings (cells_of s agent.0).rsp_up (cells_of s agent.0).dat_up answer → Kept last (answered_by s agent answer)
    → Follows last (answered_by s agent answer) w (map flit_seen (completion_flits (snoop_answered_sends s.home agent answer)))
answer_follows laws answer w s last agent low kept stands here after =
    let n : ℕ = agent.0 in
    let f : FilterState = s.home.filter in
    let k = kept.lanes n low in
    let s' : LineState = answer_line s agent answer in
    let sent : List ℕ = data_to_send answer s.home.memory in
    let awaited : is_in s.home.awaited n ≡ true = answer_awaited answer s.home.serving f.unique f.owner last n (lane s n) here k in
    let is : IsSnooping s.home.serving = is_snooping s.home.serving (k.awaited_snooped awaited) in
    let by : Serves s agent is.agent is.kind is.slot = serves last s agent low kept is awaited in
    let named : is_named f n ≡ true = k.awaited_named awaited in
    let stood : Stands last s' w.seen = answer_arrives answer w.seen s last agent low kept stands (ap is_given_up is.serving_is) here named in
    subst (λ v. Follows last (finished_line s' v sent) w (map flit_seen (completion_flits (finished_sends_as v s'.home sent)))) (sym is.serving_is)
    (finished_if laws w s' last is.agent is.kind is.slot sent by.low by.snoops stood
    (finish_completable answer last s agent is.agent is.kind is.slot low kept by here named)
    (read_none last s is.agent.0 is.kind by.low kept (served_finds last s agent is.agent is.kind is.slot kept by).waits)
    (has_any s'.home.awaited) refl
    (subst (λ v. Kept last (finished_line s' v sent)) is.serving_is after))
