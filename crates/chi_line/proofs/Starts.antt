-- A start keeps what the line keeps.
use Rattle.std.specs.Prelude.{◌≡◌, ◌≢◌, ℕ, ◌<◌, List, Bool, true, false, not, Option, Some, None, is_some, slice_set, if◌then◌else◌}
use Rattle.std.proofs.Common.{refl, sym, ◌∙◌, ap, subst, ⊎_elim, arith}
use Rattle.std.proofs.lemmas.List.{get_or-set_same, get_or-set_other, length-set}
use Rattle.std.proofs.lemmas.Bool.{and_from, and_parts, both_ways, cases_eq, false_from_ne_true, true≢false, false≢true, not-false}
use Rattle.chi_flit.specs.declared.numbers.Agent.{Agent}
use Rattle.chi_flit.specs.declared.numbers.Slot.{Slot}
use Rattle.chi_flit.specs.declared.state.State.{State}
use Rattle.chi_flit.specs.declared.state.State.TheVariants.{I}
use Rattle.chi_flit.specs.declared.kind.Kind.{Kind}
use Rattle.chi_flit.specs.declared.kind.Kind.TheVariants.{ReadNotSharedDirty, ReadShared, ReadUnique, CleanUnique, Evict, WriteBackFull, WriteCleanFull, WriteEvictFull}
use Rattle.chi_flit.specs.declared.snoop.Snoop.{Snoop}
use Rattle.chi_flit.specs.declared.snoop.Snoop.TheVariants.{SnpShared, SnpNotSharedDirty, SnpUnique, SnpCleanInvalid}
use Rattle.chi_flit.specs.declared.message.RspDown.TheVariants.{CompI, CompDBIDResp}
use Rattle.chi_flit.specs.Kind.{snoop_of, is_copy_back}
use Rattle.chi_filter.specs.Filter.{FilterState, is_in, has_any, others_than, is_named, owned_by, owner_without, filter_without}
use Rattle.chi_wires.specs.declared.cells.Cells.{Cells}
use Rattle.chi_wires.specs.Cell.{no_flits}
use Rattle.chi_wires.specs.Flits.{with_snoops}
use Rattle.chi_homeline.specs.declared.serving.Waiting.{Waiting}
use Rattle.chi_homeline.specs.declared.serving.Serving.TheVariants.{Idle, Snooping, AwaitingWriteData}
use Rattle.chi_homeline.specs.Home.{Started}
use Rattle.chi_homeline.specs.Home.Started.{Sends, Snoops}
use Rattle.chi_homeline.specs.Home.{Home, asks, asks_shared, completes_unique, home_after_completion, completion_of, is_idle, taken_up, waiting_of}
use Rattle.chi_line.specs.LineState.{LineState, cells_of}
use Rattle.chi_line.specs.Step.{flits_after_start, started_line}
use Rattle.chi_line.specs.Clean.{IsClean, passes_dirty}
use Rattle.chi_line.specs.Kept.{Kept, Lane, LaneKept, allows, invalidates, lane, shares}
use Rattle.chi_line.proofs.Frame.{IsCleanLane, kept_moved, memory_by, moves_home, puts_nothing, puts_set, nothing_waiting, same_lane, within, without_in_range}
use Rattle.chi_line.proofs.Finds.{idle_awaits_nobody, idle_is}
use Rattle.chi_line.proofs.Asks.{AsksFit, asks_fit, apart, same, has_in, none_in, left_in, length-others, was_in}
use Rattle.chi_line.proofs.SnoopRows.{length-with_snoops, snooped_at, snooped_cells}
use Rattle.chi_line.proofs.StartLanes.{snooping_own, snooping_other, snooping_asked, asking_own, asking_other, writing_own, writing_other, evicting_own, evicting_other, idle_clean, idle_owner, none_clean}
use Rattle.chi_line.proofs.CompleteLanes.{allows_read}
use Rattle.chi_line.proofs.Completes.{MayComplete, completed_line, kept_completed}
use Rattle.chi_line.proofs.WriteKeeps.{owned_elsewhere}

-- an idle line at which the agent's request waits
pub record MayStart (last : List ℕ) (s : LineState) (agent : Agent) (request : Waiting) : Type 0 where
  pub here : agent.0 < 8
  pub waits : waiting_of s.home agent.0 ≡ Some request
  pub idle : s.home.serving ≡ Idle
  pub kept : Kept last s

idle_lanes : (last : List ℕ) (s : LineState) (agent : Agent) (request : Waiting) → MayStart last s agent request
    → (m : ℕ) → m < 8 → LaneKept Idle s.home.filter.unique s.home.filter.owner last m (lane s m)
idle_lanes last s agent request may m low =
    subst (λ serving. LaneKept serving s.home.filter.unique s.home.filter.owner last m (lane s m)) may.idle (may.kept.lanes m low)

-- the request snoops for: the marked agents are asked
abbrev pub snooping_line : LineState → Agent → Waiting → Snoop → List Bool → LineState
snooping_line s agent request snoop marks = record s {
  home = record (taken_up s.home agent.0) { serving = Snooping agent request.kind request.slot; awaited = marks };
  flits = with_snoops marks snoop s.flits;
}

snooped_up : (marked : Bool) (snoop : Snoop) (cells : Cells) → (snooped_cells marked snoop cells).dat_up ≡ cells.dat_up
snooped_up marked snoop cells = search arith

-- what makes an agent marked doesn't hold of one that isn't
unmarked : (holds marked : Bool) → (holds ≡ true → marked ≡ true) → marked ≡ false → holds ≡ false
unmarked holds marked marks not_marked = false_from_ne_true holds (λ (h : holds ≡ true). both_ways marked not_marked (marks h))

-- who is asked is named
asked_named : (named : Bool) (last : List ℕ) (s : LineState) (agent : Agent) (request : Waiting) (marks : List Bool) (m : ℕ)
    → MayStart last s agent request → AsksFit request.kind s.home.filter agent.0 marks → m < 8
    → is_named s.home.filter m ≡ named → is_in marks m ≡ true → is_named s.home.filter m ≡ true
asked_named true last s agent request marks m may fit low is asked = is
asked_named false last s agent request marks m may fit low is asked =
    idle_owner s.home.filter.unique s.home.filter.owner last m (lane s m) (fit.named_or_owner m low asked is) (idle_lanes last s agent request may m low)

-- the lane of another, where it is known whether it is asked
snooping_lane : (marked : Bool) (last : List ℕ) (s : LineState) (agent : Agent) (request : Waiting) (snoop : Snoop) (marks : List Bool) (m : ℕ)
    → MayStart last s agent request → snoop_of request.kind ≡ Some snoop → AsksFit request.kind s.home.filter agent.0 marks → m < 8 → m ≢ agent.0
    → is_in marks m ≡ marked
    → LaneKept (Snooping agent request.kind request.slot) s.home.filter.unique s.home.filter.owner last m (record (lane s m) { awaited = marked; flits = snooped_cells marked snoop (cells_of s m) })
snooping_lane true last s agent request snoop marks m may is fit low other marked =
    snooping_asked s.home.filter.unique s.home.filter.owner last agent request.kind request.slot snoop m (lane s m) (apart agent.0 m other) is
    (asked_named (is_named s.home.filter m) last s agent request marks m may fit low refl marked)
    (λ sharing unowned. fit.shared_one (subst (λ v. shares v ≡ true) (sym is) sharing) m low marked unowned)
    (idle_lanes last s agent request may m low)
snooping_lane false last s agent request snoop marks m may is fit low other marked =
    snooping_other s.home.filter.unique s.home.filter.owner last agent request.kind request.slot m (lane s m) (apart agent.0 m other)
    (λ invalidating. unmarked (is_named s.home.filter m) (is_in marks m) (fit.all_others invalidating m low other) marked)
    (idle_lanes last s agent request may m low)

-- the lanes of the line that snoops
snooping_at : (last : List ℕ) (s : LineState) (agent : Agent) (request : Waiting) (snoop : Snoop) (marks : List Bool) (m : ℕ)
    → MayStart last s agent request → m < 8 → m ≢ agent.0
    → lane (snooping_line s agent request snoop marks) m ≡ record (lane s m) { awaited = is_in marks m; flits = snooped_cells (is_in marks m) snoop (cells_of s m) }
snooping_at last s agent request snoop marks m may low other =
    same_lane _ _ _ _ _ _ _ _ _ _ refl (snooped_at marks snoop s.flits m (omega (arith, may.kept.flits, low))) refl refl
    (get_or-set_other s.home.waiting agent.0 m None None other)

snooping_at_own : (last : List ℕ) (s : LineState) (agent : Agent) (request : Waiting) (snoop : Snoop) (marks : List Bool)
    → MayStart last s agent request → AsksFit request.kind s.home.filter agent.0 marks
    → lane (snooping_line s agent request snoop marks) agent.0 ≡ record (lane s agent.0) { waiting = None; awaited = false }
snooping_at_own last s agent request snoop marks may fit =
    same_lane _ _ _ _ _ _ _ _ _ _ refl
    (snooped_at marks snoop s.flits agent.0 (omega (arith, may.kept.flits, may.here)) ∙ ap (λ marked. snooped_cells marked snoop (cells_of s agent.0)) fit.not_itself)
    refl fit.not_itself
    (get_or-set_same s.home.waiting agent.0 None None (omega (arith, may.kept.waiting, may.here)))

snooping_kept : (last : List ℕ) (s : LineState) (agent : Agent) (request : Waiting) (snoop : Snoop) (marks : List Bool)
    → MayStart last s agent request → snoop_of request.kind ≡ Some snoop → AsksFit request.kind s.home.filter agent.0 marks
    → Kept last (snooping_line s agent request snoop marks)
snooping_kept last s agent request snoop marks may is fit =
    let s' : LineState = snooping_line s agent request snoop marks in
    let k = may.kept in
    record {
      requesters = k.requesters;
      flits = length-with_snoops marks snoop s.flits ∙ k.flits;
      named = k.named;
      awaited = fit.eight;
      waiting = length-set s.home.waiting agent.0 None ∙ k.waiting;
      in_range = may.here;
      owner = k.owner;
      lanes = λ m low. ⊎_elim
          (λ (own : m ≡ agent.0). subst (λ n. LaneKept (Snooping agent request.kind request.slot) s.home.filter.unique s.home.filter.owner last n (lane s' n)) (sym own)
          (subst (LaneKept (Snooping agent request.kind request.slot) s.home.filter.unique s.home.filter.owner last agent.0) (sym (snooping_at_own last s agent request snoop marks may fit))
          (snooping_own s.home.filter.unique s.home.filter.owner last agent request (lane s agent.0) may.waits (same agent.0) (idle_lanes last s agent request may agent.0 may.here))))
          (λ (other : m ≢ agent.0). subst (LaneKept (Snooping agent request.kind request.slot) s.home.filter.unique s.home.filter.owner last m) (sym (snooping_at last s agent request snoop marks m may low other))
          (snooping_lane (is_in marks m) last s agent request snoop marks m may is fit low other refl))
          (cases_eq m agent.0);
      flag_means_one = k.flag_means_one;
      memory_last = λ clean. k.memory_last (λ m low. record {
        copy = (clean m low).copy;
        on_its_way = ap passes_dirty (sym (ap (λ (c : Cells). c.dat_up) (snooped_at marks snoop s.flits m (omega (arith, k.flits, low))) ∙ snooped_up (is_in marks m) snoop (cells_of s m))) ∙ (clean m low).on_its_way;
      });
    }

-- the same line, had it nobody to ask: what a completion at once is seen to begin from
abbrev asking_line : LineState → Agent → Waiting → LineState
asking_line s agent request = record s { home = record (taken_up s.home agent.0) { serving = Snooping agent request.kind request.slot } }

asking_kept : (last : List ℕ) (s : LineState) (agent : Agent) (request : Waiting)
    → MayStart last s agent request
    → (invalidates (snoop_of request.kind) ≡ true → (m : ℕ) → m < 8 → m ≢ agent.0 → is_named s.home.filter m ≡ false)
    → Kept last (asking_line s agent request)
asking_kept last s agent request may unnamed =
    let k = may.kept in
    let moves = moves_home s agent.0 (record (taken_up s.home agent.0) { serving = Snooping agent request.kind request.slot }) s.flits (record (lane s agent.0) { waiting = None }) refl
    (puts_nothing no_flits s.flits agent.0) (puts_nothing false s.home.filter.named agent.0) (puts_nothing false s.home.awaited agent.0)
    (puts_set nothing_waiting s.home.waiting agent.0 nothing_waiting (within agent.0 _ may.here k.waiting)) in
    kept_moved last last s _ agent.0 _ moves k may.here k.owner
    (asking_own s.home.filter.unique s.home.filter.owner last agent request (lane s agent.0) may.waits (same agent.0) (idle_lanes last s agent request may agent.0 may.here))
    (λ m low other. asking_other s.home.filter.unique s.home.filter.owner last agent request.kind request.slot m (lane s m) (apart agent.0 m other)
    (λ invalidating. unnamed invalidating m low other) (idle_lanes last s agent request may m low))
    k.flag_means_one (memory_by last s _ agent.0 _ may.here moves k (λ c. c))

-- where nobody is asked no other lane has a dirty copy
nobody_dirty : (last : List ℕ) (s : LineState) (agent : Agent) (request : Waiting) (marks : List Bool)
    → MayStart last s agent request → AsksFit request.kind s.home.filter agent.0 marks → has_any marks ≡ false
    → (lane s agent.0).rn.state ≡ I → IsClean s
nobody_dirty last s agent request marks may fit nobody none m low =
    ⊎_elim
    (λ (own : m ≡ agent.0). subst (λ n. IsCleanLane (lane s n)) (sym own)
    (none_clean s.home.filter.unique s.home.filter.owner last agent.0 (lane s agent.0) none (idle_lanes last s agent request may agent.0 may.here)))
    (λ (other : m ≢ agent.0). idle_clean s.home.filter.unique s.home.filter.owner last m (lane s m)
    (λ flag. unmarked (is_named s.home.filter m) (is_in marks m) (λ named. fit.flagged flag m low other named) (none_in marks m fit.eight low nobody))
    (λ owns. unmarked (is_named s.home.filter m) (is_in marks m) (λ named. fit.owner m low other named owns) (none_in marks m fit.eight low nobody))
    (idle_lanes last s agent request may m low))
    (cases_eq m agent.0)

-- where others stay named and nobody is asked, the flag is clear
not_flagged : (unique : Bool) (f : FilterState) (n : ℕ) → f.unique ≡ unique → has_any (asks_shared f n) ≡ false → not (has_any (others_than n f.named)) ≡ false → f.unique ≡ false
not_flagged unique f n is nobody others = grind (arith, not-false)

flag_clear : (kind : Kind) (f : FilterState) (n : ℕ) → is_some (snoop_of kind) ≡ true → has_any (asks kind f n) ≡ false → completes_unique kind f n ≡ false → f.unique ≡ false
flag_clear ReadNotSharedDirty f n served nobody others = not_flagged f.unique f n refl nobody others
flag_clear ReadShared f n served nobody others = not_flagged f.unique f n refl nobody others
flag_clear ReadUnique f n served nobody others = absurd (true≢false others)
flag_clear CleanUnique f n served nobody others = absurd (true≢false others)
flag_clear unserved f n served nobody others = absurd (false≢true served)

completing_kept : (last : List ℕ) (s : LineState) (agent : Agent) (request : Waiting)
    → MayStart last s agent request → is_some (snoop_of request.kind) ≡ true → has_any (asks request.kind s.home.filter agent.0) ≡ false
    → Kept last (completed_line (asking_line s agent request) request.kind agent request.slot s.home.memory)
completing_kept last s agent request may served nobody =
    let k = may.kept in
    let marks = asks request.kind s.home.filter agent.0 in
    let fit : AsksFit request.kind s.home.filter agent.0 marks = asks_fit request.kind s.home.filter agent.0 served may.here k.named in
    let may_complete : MayComplete last (asking_line s agent request) agent request.kind request.slot s.home.memory = record {
      here = may.here;
      serves = refl;
      snoops = served;
      all_in = λ m low. idle_awaits_nobody s.home.filter.unique s.home.filter.owner last m (lane s m) (idle_lanes last s agent request may m low);
      sent_is = λ reads. k.memory_last (nobody_dirty last s agent request marks may fit nobody
          (allows_read request.kind (lane s agent.0).rn.state reads ((k.lanes agent.0 may.here).kind_fits request.kind ((k.lanes agent.0 may.here).waiting_kind request may.waits))));
      flag_clear = flag_clear request.kind s.home.filter agent.0 served nobody;
    } in
    kept_completed last (asking_line s agent request) agent request.kind request.slot s.home.memory may_complete
    (asking_kept last s agent request may
    (λ invalidating m low other. unmarked (is_named s.home.filter m) (is_in marks m) (fit.all_others invalidating m low other) (none_in marks m fit.eight low nobody)))

-- a copy-back: its write data is asked for
writing_kept : (last : List ℕ) (s : LineState) (agent : Agent) (request : Waiting)
    → MayStart last s agent request → is_copy_back request.kind ≡ true
    → Kept last (record s {
      home = record (taken_up s.home agent.0) { serving = AwaitingWriteData agent request.kind request.slot };
      flits = slice_set s.flits agent.0 (record (cells_of s agent.0) { rsp_down = Some CompDBIDResp });
    })
writing_kept last s agent request may back =
    let k = may.kept in
    let c : Cells = record (cells_of s agent.0) { rsp_down = Some CompDBIDResp } in
    let moves = moves_home s agent.0 (record (taken_up s.home agent.0) { serving = AwaitingWriteData agent request.kind request.slot }) _ (record (lane s agent.0) { waiting = None; flits = c }) refl
    (puts_set no_flits s.flits agent.0 c (within agent.0 _ may.here k.flits)) (puts_nothing false s.home.filter.named agent.0) (puts_nothing false s.home.awaited agent.0)
    (puts_set nothing_waiting s.home.waiting agent.0 nothing_waiting (within agent.0 _ may.here k.waiting)) in
    kept_moved last last s _ agent.0 _ moves k (may.here, back) k.owner
    (writing_own s.home.filter.unique s.home.filter.owner last agent request (lane s agent.0) may.waits (same agent.0) (idle_lanes last s agent request may agent.0 may.here))
    (λ m low other. writing_other s.home.filter.unique s.home.filter.owner last agent request.kind request.slot m (lane s m) (apart agent.0 m other) (idle_lanes last s agent request may m low))
    k.flag_means_one (memory_by last s _ agent.0 _ may.here moves k (λ c. c))

-- an agent that leaves isn't the owner, and who else is the owner stays it
leaves_owner : (owner : Option Agent) (owns : Bool) (n : ℕ) → owned_by owner n ≡ owns → owned_by (owner_without owner n) n ≡ false
leaves_owner owner true n is = grind (arith, is)
leaves_owner owner false n is = grind (arith, is)

allows_evict : (state : State) → allows Evict state ≡ true → state ≡ I
allows_evict state fits = search arith

-- an Evict: its agent leaves the filter, and it is done
evicting_kept : (last : List ℕ) (s : LineState) (agent : Agent) (request : Waiting)
    → MayStart last s agent request → request.kind ≡ Evict
    → Kept last (record s {
      home = record (taken_up s.home agent.0) { filter = filter_without s.home.filter agent.0 };
      flits = slice_set s.flits agent.0 (record (cells_of s agent.0) { rsp_down = Some CompI });
    })
evicting_kept last s agent request may evicts =
    let k = may.kept in
    let f = s.home.filter in
    let f' : FilterState = filter_without s.home.filter agent.0 in
    let c : Cells = record (cells_of s agent.0) { rsp_down = Some CompI } in
    let x : Lane = record (lane s agent.0) { waiting = None; named = false; flits = c } in
    let moves = moves_home s agent.0 (record (taken_up s.home agent.0) { filter = filter_without s.home.filter agent.0 }) _ x refl
    (puts_set no_flits s.flits agent.0 c (within agent.0 _ may.here k.flits)) (puts_set false f.named agent.0 false (within agent.0 _ may.here k.named)) (puts_nothing false s.home.awaited agent.0)
    (puts_set nothing_waiting s.home.waiting agent.0 nothing_waiting (within agent.0 _ may.here k.waiting)) in
    let own : LaneKept Idle f.unique f.owner last agent.0 (lane s agent.0) = idle_lanes last s agent request may agent.0 may.here in
    let none : (lane s agent.0).rn.state ≡ I = allows_evict (lane s agent.0).rn.state
    (subst (λ kind. allows kind (lane s agent.0).rn.state ≡ true) evicts (own.kind_fits request.kind (own.waiting_kind request may.waits))) in
    kept_moved last last s _ agent.0 _ moves k k.in_range (without_in_range f.owner agent.0 k.owner)
    (subst (λ v. LaneKept v f'.unique f'.owner last agent.0 x) (sym may.idle)
    (evicting_own f.unique f'.unique f.owner f'.owner last agent.0 request (lane s agent.0) may.waits evicts none (leaves_owner f.owner (owned_by f.owner agent.0) agent.0 refl) own))
    (λ m low other. subst (λ v. LaneKept v f'.unique f'.owner last m (lane s m)) (sym may.idle)
    (evicting_other f.unique f'.unique f.owner f'.owner last m (lane s m)
    (λ flag named. and_from f.unique (has_any (others_than agent.0 f.named)) flag
    (has_in (others_than agent.0 f.named) m (length-others agent.0 f.named k.named) low (left_in agent.0 m f.named other ∙ named)))
    (λ flag. (and_parts f.unique (has_any (others_than agent.0 f.named)) flag).0)
    (owned_elsewhere f.owner agent.0 m other) (idle_lanes last s agent request may m low)))
    (λ flag a b below_a below_b in_a in_b. k.flag_means_one ((and_parts f.unique (has_any (others_than agent.0 f.named)) flag).0) a b below_a below_b
    (was_in agent.0 a f.named may.here k.named in_a) (was_in agent.0 b f.named may.here k.named in_b))
    (memory_by last s _ agent.0 _ may.here moves k (λ c. c))

-- the line after a start, where it is known what there is to do
abbrev started_parts : LineState → Agent → Home → Started → LineState
started_parts s agent home sends = record s { home = home; flits = flits_after_start s.flits agent.0 sends }

served_kept : (asked : Bool) (last : List ℕ) (s : LineState) (agent : Agent) (request : Waiting) (snoop : Snoop)
    → MayStart last s agent request → snoop_of request.kind ≡ Some snoop → has_any (asks request.kind s.home.filter agent.0) ≡ asked
    → Kept last (started_parts s agent
    (if asked then record (taken_up s.home agent.0) { serving = Snooping agent request.kind request.slot; awaited = asks request.kind s.home.filter agent.0 } else home_after_completion (taken_up s.home agent.0) request.kind agent request.slot)
    (if asked then Snoops snoop (asks request.kind s.home.filter agent.0) else Sends (completion_of s.home request.kind agent s.home.memory)))
served_kept true last s agent request snoop may is asked =
    snooping_kept last s agent request snoop (asks request.kind s.home.filter agent.0) may is (asks_fit request.kind s.home.filter agent.0 (ap is_some is) may.here may.kept.named)
served_kept false last s agent request snoop may is asked = completing_kept last s agent request may (ap is_some is) asked

-- a request of a kind in a slot
abbrev pub of_kind : Kind → Slot → Waiting
of_kind kind slot = record { kind = kind; slot = slot }

started_kept : (kind : Kind) (slot : Slot) (last : List ℕ) (s : LineState) (agent : Agent) → MayStart last s agent (of_kind kind slot)
    → Kept last (started_line s agent (of_kind kind slot))
started_kept ReadNotSharedDirty slot last s agent may = served_kept (has_any (asks ReadNotSharedDirty s.home.filter agent.0)) last s agent (of_kind ReadNotSharedDirty slot) SnpNotSharedDirty may refl refl
started_kept ReadShared slot last s agent may = served_kept (has_any (asks ReadShared s.home.filter agent.0)) last s agent (of_kind ReadShared slot) SnpShared may refl refl
started_kept ReadUnique slot last s agent may = served_kept (has_any (asks ReadUnique s.home.filter agent.0)) last s agent (of_kind ReadUnique slot) SnpUnique may refl refl
started_kept CleanUnique slot last s agent may = served_kept (has_any (asks CleanUnique s.home.filter agent.0)) last s agent (of_kind CleanUnique slot) SnpCleanInvalid may refl refl
started_kept Evict slot last s agent may = evicting_kept last s agent (of_kind Evict slot) may refl
started_kept WriteBackFull slot last s agent may = writing_kept last s agent (of_kind WriteBackFull slot) may refl
started_kept WriteCleanFull slot last s agent may = writing_kept last s agent (of_kind WriteCleanFull slot) may refl
started_kept WriteEvictFull slot last s agent may = writing_kept last s agent (of_kind WriteEvictFull slot) may refl

pub kept_started : (s : LineState) (last : List ℕ) (agent : Agent) (request : Waiting)
    → agent.0 < 8 → waiting_of s.home agent.0 ≡ Some request → is_idle s.home.serving ≡ true → Kept last s
    → Kept last (started_line s agent request)
kept_started s last agent request low waits idle k =
    started_kept request.kind request.slot last s agent (record { here = low; waits = waits; idle = idle_is s.home.serving idle; kept = k })
