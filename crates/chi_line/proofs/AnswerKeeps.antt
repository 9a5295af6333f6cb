-- Answers to snoops, and the completion that the last one brings, keep what a line keeps.
use Rattle.std.proofs.Common.{set, ◌≡◌, ◌≢◌, ℕ, ◌<◌, List, Bool, true, false, Option, Some, None, is_some, length, arith, refl, sym, subst, ap, ◌∙◌, ⊎_elim, if◌then◌else◌, ◌&&◌, ◌⊎◌}
use Rattle.std.proofs.lemmas.Bool.{cases_eq, both_ways, false_from_ne_true}
use Rattle.std.proofs.lemmas.List.{length-set, get_or_default}
use Rattle.std.proofs.lemmas.List.Folds.{list_any_none}
use Rattle.chi_flit.specs.declared.numbers.Agent.{Agent}
use Rattle.chi_flit.specs.declared.numbers.Slot.{Slot}
use Rattle.chi_flit.specs.declared.state.State.{State}
use Rattle.chi_flit.specs.declared.state.State.TheVariants.{SD}
use Rattle.chi_flit.specs.declared.kind.Kind.{Kind}
use Rattle.chi_flit.specs.declared.snoop.Snoop.{Snoop}
use Rattle.chi_flit.specs.Kind.{snoop_of}
use Rattle.chi_flit.specs.State.{is_dirty}
use Rattle.chi_filter.specs.Filter.{FilterState, has_any, is_in, is_named, others_than, owned_by, owner_without, filter_without}
use Rattle.chi_wires.specs.declared.cells.Cells.{Cells}
use Rattle.chi_wires.specs.Cell.{without_message}
use Rattle.chi_homeline.specs.declared.serving.Serving.{Serving}
use Rattle.chi_homeline.specs.declared.serving.Serving.TheVariants.{Snooping}
use Rattle.chi_homeline.specs.declared.serving.SnoopAnswer.{SnoopAnswer}
use Rattle.chi_homeline.specs.declared.serving.SnoopAnswer.TheVariants as answers
use Rattle.chi_homeline.specs.Home.{completion_of, data_to_send, filter_after, finished_as, finished_sends_as, home_after_completion, home_with_answer, left_owner, left_shared, memory_after}
use Rattle.chi_line.specs.LineState.{LineState, rn_of, cells_of}
use Rattle.chi_line.specs.Clean.{IsClean}
use Rattle.chi_line.specs.Kept.{Lane, LaneKept, IsOwnerInRange, IsServedRight, Kept, invalidates, is_read, lane, shares, snoop_out}
use Rattle.chi_line.specs.Snooped.{answer_channel, completion_put}
use Rattle.chi_line.specs.Step.{answered_by}
use Rattle.chi_line.proofs.Frame.{IsCleanLane, Moves, Puts, kept_moved, memory_by, moves_home, puts_set, puts_nothing, within, without_in_range}
use Rattle.chi_line.proofs.Asks.{none_in, left_in, left_out, same, apart}
use Rattle.chi_line.proofs.CompleteLanes.{read_from_none}
use Rattle.chi_line.proofs.Completes.{kept_completed}
use Rattle.chi_line.proofs.CopyKeeps.{IsSnooping, is_snooping}
use Rattle.chi_line.proofs.WriteKeeps.{unowned_here, owned_elsewhere}
use Rattle.chi_line.proofs.WriteLanes.{Brings, answer_awaited, answered_lane, answer_other, flagged_unowned, named_after, owns_after, quiet_own, quiet_asked, quiet_shared}

-- a line that snoops, and awaits the answer of n
pub record AwaitsAnswer (s : LineState) (n : ℕ) : Type 0 where
  pub here : n < 8
  pub snooping : IsSnooping s.home.serving
  pub awaited : is_in s.home.awaited n ≡ true

-- the lanes of a line that snoops
abbrev Snooped : List ℕ → LineState → Agent → Kind → Slot → Type 0
Snooped last s agent kind slot = (m : ℕ) → m < 8 → LaneKept (Snooping agent kind slot) s.home.filter.unique s.home.filter.owner last m (lane s m)

snooped_lanes : (last : List ℕ) (s : LineState) (is : IsSnooping s.home.serving) → Kept last s → Snooped last s is.agent is.kind is.slot
snooped_lanes last s is k = λ m at. subst (λ v. LaneKept v s.home.filter.unique s.home.filter.owner last m (lane s m)) is.serving_is (k.lanes m at)

-- nobody is in a set that no agent is in
nobody_in : (marks : List Bool) → length marks ≡ 8 → ((m : ℕ) → m < 8 → is_in marks m ≡ false) → has_any marks ≡ false
nobody_in marks eight none = list_any_none (λ b. b) marks (λ m d at. get_or_default marks m d false at ∙ none m (omega (arith, at, eight)))

-- where an awaited agent is flagged, nobody else is named
alone_named : (last : List ℕ) (s : LineState) (n : ℕ) → AwaitsAnswer s n → Kept last s
    → s.home.filter.unique ≡ true → (m : ℕ) → m < 8 → m ≢ n → is_named s.home.filter m ≡ false
alone_named last s n may k flag m at other =
    false_from_ne_true (is_named s.home.filter m) (λ named. other (k.flag_means_one flag m n at may.here named ((k.lanes n may.here).awaited_named may.awaited)))

none_other : (n m : ℕ) (marks : List Bool) → n < 8 → length marks ≡ 8 → (m ≢ n → is_in marks m ≡ false) → is_in (others_than n marks) m ≡ false
none_other n m marks low eight other = ⊎_elim
    (λ (is : m ≡ n). subst (λ k. is_in (others_than n marks) k ≡ false) (sym is) (left_out n marks low eight))
    (λ (apart : m ≢ n). left_in n m marks apart ∙ other apart)
    (cases_eq m n)

flag_ends : (a b : Bool) → (a ≡ true → b ≡ false) → (a && b) ≡ false
flag_ends true b ends = ends refl
flag_ends false b ends = refl

removed_clear : (last : List ℕ) (s : LineState) (n : ℕ) → AwaitsAnswer s n → Kept last s → (filter_without s.home.filter n).unique ≡ false
removed_clear last s n may k = flag_ends s.home.filter.unique (has_any (others_than n s.home.filter.named))
    (λ flag. nobody_in (others_than n s.home.filter.named) (length-set s.home.filter.named n false ∙ k.named)
    (λ m at. none_other n m s.home.filter.named may.here k.named (alone_named last s n may k flag m at)))

-- beside an awaited agent of a shared read nobody else is the owner
owner_is : (owner : Option Agent) (n m : ℕ) → m ≢ n → owned_by owner n ≡ true → owned_by owner m ≡ false
owner_is None n m other here = refl
owner_is (Some agent) n m other here = grind arith

lonely : (last : List ℕ) (s : LineState) (n : ℕ) (may : AwaitsAnswer s n) → Kept last s → shares (snoop_of may.snooping.kind) ≡ true
    → (m : ℕ) → m < 8 → m ≢ n → owned_by s.home.filter.owner m ≡ false
lonely last s n may k shared m at other = go (owned_by s.home.filter.owner n) refl
  where
    go : (b : Bool) → owned_by s.home.filter.owner n ≡ b → owned_by s.home.filter.owner m ≡ false
    go true here = owner_is s.home.filter.owner n m other here
    go false here = (k.lanes m at).flag_no_owner
        (flagged_unowned may.snooping.agent may.snooping.kind may.snooping.slot s.home.filter.unique s.home.filter.owner last n (lane s n) shared may.awaited here
        (snooped_lanes last s may.snooping k n may.here))

-- the line once an answer is in: memory, filter and cells are these
abbrev answered_line : LineState → ℕ → List ℕ → FilterState → Cells → LineState
answered_line s n memory filter cells = record s { home = home_with_answer s.home n memory filter; flits = set s.flits n cells }

-- the filter after an answer of n
record FilterLeft (f after : FilterState) (n : ℕ) (named owns : Bool) : Type 0 where
  puts : Puts false f.named after.named n named
  clear : after.unique ≡ false
  own : owned_by after.owner n ≡ owns
  owner_stays : (m : ℕ) → m < 8 → m ≢ n → owned_by after.owner m ≡ owned_by f.owner m
  owner_in_range : IsOwnerInRange f.owner → IsOwnerInRange after.owner

answered_moves : (last : List ℕ) (s : LineState) (n : ℕ) (memory : List ℕ) (after : FilterState) (c : Cells) (named owns : Bool) → n < 8
    → FilterLeft s.home.filter after n named owns → Kept last s
    → Moves s (answered_line s n memory after c) n (record (lane s n) { named = named; awaited = false; flits = c })
answered_moves last s n memory after c named owns low fits k = moves_home s n _ _ _ refl
    (puts_set _ s.flits n c (within n _ low k.flits)) fits.puts (puts_set _ s.home.awaited n false (within n _ low k.awaited)) (puts_nothing _ s.home.waiting n)

-- an answer taken, out of its sender's lane
kept_answered : (last : List ℕ) (s : LineState) (n : ℕ) (memory : List ℕ) (after : FilterState) (c : Cells) (named owns : Bool) (may : AwaitsAnswer s n)
    → FilterLeft s.home.filter after n named owns
    → LaneKept (Snooping may.snooping.agent may.snooping.kind may.snooping.slot) false after.owner last n (record (lane s n) { named = named; awaited = false; flits = c })
    → (IsClean (answered_line s n memory after c) → memory ≡ last)
    → Kept last s → Kept last (answered_line s n memory after c)
kept_answered last s n memory after c named owns may fits own clean_memory k =
    kept_moved last last s _ n _ (answered_moves last s n memory after c named owns may.here fits k) k k.in_range (fits.owner_in_range k.owner)
    (here n (record (lane s n) { named = named; awaited = false; flits = c }) own)
    (λ m at other. here m (lane s m) (answer_other may.snooping.agent may.snooping.kind may.snooping.slot s.home.filter.unique s.home.filter.owner after.owner last m (lane s m)
    (λ flag. alone_named last s n may k flag m at other) (fits.owner_stays m at other) (snooped_lanes last s may.snooping k m at)))
    (λ flag. absurd (both_ways after.unique fits.clear flag))
    clean_memory
  where
    here : (m : ℕ) (x : Lane) → LaneKept (Snooping may.snooping.agent may.snooping.kind may.snooping.slot) false after.owner last m x → LaneKept s.home.serving after.unique after.owner last m x
    here m x kept = subst (λ v. LaneKept v after.unique after.owner last m x) (sym may.snooping.serving_is)
        (subst (λ u. LaneKept (Snooping may.snooping.agent may.snooping.kind may.snooping.slot) u after.owner last m x) (sym fits.clear) kept)

-- what a request that is snooped for needs to complete, once nobody is awaited
record MayFinish (last : List ℕ) (s : LineState) (sent : List ℕ) : Type 0 where
  snooping : IsSnooping s.home.serving
  snoops : is_some (snoop_of snooping.kind) ≡ true
  clear : s.home.filter.unique ≡ false
  sent_is : ((m : ℕ) → m < 8 → is_in s.home.awaited m ≡ false) → is_read snooping.kind ≡ true → sent ≡ last

-- the home's part of what follows, with the data that a completion sends
abbrev finished_for : LineState → Serving → List ℕ → LineState
finished_for s serving sent = record s { home = finished_as serving s.home; flits = completion_put s.flits (finished_sends_as serving s.home sent) }

-- the last answer completes the request
finished_if : (last : List ℕ) (s : LineState) (sent : List ℕ) (may : MayFinish last s sent) → Kept last s → (b : Bool) → has_any s.home.awaited ≡ b
    → Kept last (record s {
      home = if b then s.home else home_after_completion s.home may.snooping.kind may.snooping.agent may.snooping.slot;
      flits = completion_put s.flits (if b then None else Some (record { agent = may.snooping.agent; message = completion_of s.home may.snooping.kind may.snooping.agent sent }));
    })
finished_if last s sent may k true some = k
finished_if last s sent may k false none =
    let all_in : (m : ℕ) → m < 8 → is_in s.home.awaited m ≡ false = λ m at. none_in s.home.awaited m k.awaited at none in
    kept_completed last s may.snooping.agent may.snooping.kind may.snooping.slot sent
    (record {
      here = subst IsServedRight may.snooping.serving_is k.in_range;
      serves = may.snooping.serving_is;
      snoops = may.snoops;
      all_in = all_in;
      sent_is = may.sent_is all_in;
      flag_clear = λ shared. may.clear;
    }) k

kept_finished : (last : List ℕ) (s : LineState) (sent : List ℕ) → MayFinish last s sent → Kept last s → Kept last (finished_for s s.home.serving sent)
kept_finished last s sent may k =
    subst (λ v. Kept last (finished_for s v sent)) (sym may.snooping.serving_is) (finished_if last s sent may k (has_any s.home.awaited) refl)

-- a read's snoop shares, or invalidates
read_snoop : (kind : Kind) → is_read kind ≡ true → (invalidates (snoop_of kind) ≡ true) ⊎ (shares (snoop_of kind) ≡ true)
read_snoop kind reads = search arith

shares_only : (snoop : Option Snoop) → shares snoop ≡ true → invalidates snoop ≡ false
shares_only snoop shared = search arith

-- once a read awaits nobody, nobody is flagged, and a shared one has no owner left, the line is clean
quiet_line : (last : List ℕ) (s : LineState) (is : IsSnooping s.home.serving) → Kept last s
    → s.home.filter.unique ≡ false → ((m : ℕ) → m < 8 → is_in s.home.awaited m ≡ false)
    → is_read is.kind ≡ true → (shares (snoop_of is.kind) ≡ true → (m : ℕ) → m < 8 → owned_by s.home.filter.owner m ≡ false)
    → IsClean s
quiet_line last s is k clear done reads unowned m at = ⊎_elim own other (cases_eq m is.agent.0)
  where
    lanes : (m : ℕ) → m < 8 → LaneKept (Snooping is.agent is.kind is.slot) false s.home.filter.owner last m (lane s m)
    lanes m at = subst (λ u. LaneKept (Snooping is.agent is.kind is.slot) u s.home.filter.owner last m (lane s m)) clear (snooped_lanes last s is k m at)

    served : is.agent.0 < 8
    served = subst IsServedRight is.serving_is k.in_range

    own : m ≡ is.agent.0 → IsCleanLane (lane s m)
    own here = subst (λ j. IsCleanLane (lane s j)) (sym here)
        (quiet_own is.agent is.kind is.slot false s.home.filter.owner last is.agent.0 (lane s is.agent.0) (done is.agent.0 served)
        (read_from_none false s.home.filter.owner last is.agent is.kind is.slot (lane s is.agent.0) (same is.agent.0) reads (lanes is.agent.0 served)) (lanes is.agent.0 served))

    other : m ≢ is.agent.0 → IsCleanLane (lane s m)
    other away = ⊎_elim
        (λ (all : invalidates (snoop_of is.kind) ≡ true). quiet_asked is.agent is.kind is.slot false s.home.filter.owner last m (lane s m) (done m at) (apart is.agent.0 m away) all (lanes m at))
        (λ (shared : shares (snoop_of is.kind) ≡ true). quiet_shared is.agent is.kind is.slot s.home.filter.owner last m (lane s m) (done m at) (unowned shared m at) (lanes m at))
        (read_snoop is.kind reads)

-- nobody owns the line once n, the only agent asked, answered a shared read
nobody_owns : (last : List ℕ) (s : LineState) (n : ℕ) (may : AwaitsAnswer s n) → Kept last s → shares (snoop_of may.snooping.kind) ≡ true
    → (m : ℕ) → m < 8 → owned_by (owner_without s.home.filter.owner n) m ≡ false
nobody_owns last s n may k shared m at = ⊎_elim
    (λ (here : m ≡ n). subst (λ j. owned_by (owner_without s.home.filter.owner n) j ≡ false) (sym here) (unowned_here s.home.filter.owner n))
    (λ (other : m ≢ n). owned_elsewhere s.home.filter.owner n m other ∙ lonely last s n may k shared m at other)
    (cases_eq m n)

-- the filter that each answer leaves
removed_left : (last : List ℕ) (s : LineState) (n : ℕ) → AwaitsAnswer s n → Kept last s → FilterLeft s.home.filter (filter_without s.home.filter n) n false false
removed_left last s n may k = record {
  puts = record { at = left_out n s.home.filter.named may.here k.named; others = λ m other. left_in n m s.home.filter.named other; long = length-set s.home.filter.named n false };
  clear = removed_clear last s n may k;
  own = unowned_here s.home.filter.owner n;
  owner_stays = λ m at other. owned_elsewhere s.home.filter.owner n m other;
  owner_in_range = without_in_range s.home.filter.owner n;
}

shared_left : (s : LineState) (n : ℕ) → FilterLeft s.home.filter (left_shared s.home.filter n) n (is_named s.home.filter n) false
shared_left s n = record {
  puts = puts_nothing false s.home.filter.named n;
  clear = refl;
  own = unowned_here s.home.filter.owner n;
  owner_stays = λ m at other. owned_elsewhere s.home.filter.owner n m other;
  owner_in_range = without_in_range s.home.filter.owner n;
}

owner_left : (last : List ℕ) (s : LineState) (agent : Agent) (may : AwaitsAnswer s agent.0) → Kept last s → shares (snoop_of may.snooping.kind) ≡ true
    → FilterLeft s.home.filter (left_owner s.home.filter agent) agent.0 (is_named s.home.filter agent.0) true
owner_left last s agent may k shared = record {
  puts = puts_nothing false s.home.filter.named agent.0;
  clear = refl;
  own = same agent.0;
  owner_stays = λ m at other. apart agent.0 m other ∙ sym (lonely last s agent.0 may k shared m at other);
  owner_in_range = λ _. may.here;
}

-- an answer that is in flight, and the line after it
abbrev IsBrought : LineState → ℕ → SnoopAnswer → Type 0
IsBrought s n answer = Brings (cells_of s n).rsp_up (cells_of s n).dat_up answer

abbrev with_answer : LineState → Agent → SnoopAnswer → LineState
with_answer s agent answer = answered_line s agent.0 (memory_after answer s.home.memory) (filter_after answer s.home.filter agent) (without_message (cells_of s agent.0) (answer_channel answer))

abbrev LeftBy : LineState → Agent → SnoopAnswer → Type 0
LeftBy s agent answer = FilterLeft s.home.filter (filter_after answer s.home.filter agent) agent.0 (named_after answer (is_named s.home.filter agent.0)) (owns_after answer)

filter_left : (last : List ℕ) (s : LineState) (agent : Agent) (answer : SnoopAnswer) (may : AwaitsAnswer s agent.0) → IsBrought s agent.0 answer → Kept last s → LeftBy s agent answer
filter_left last s agent answers.I may here k = removed_left last s agent.0 may k
filter_left last s agent answers.SC may here k = shared_left s agent.0
filter_left last s agent (answers.IPD words) may here k = removed_left last s agent.0 may k
filter_left last s agent (answers.SCPD words) may here k = shared_left s agent.0
filter_left last s agent (answers.SD words) may here k =
    owner_left last s agent may k (sym (ap (λ v. shares (snoop_out v)) may.snooping.serving_is) ∙ ap shares ((k.lanes agent.0 may.here).dirty_data words here).1)

-- memory after an answer, on a line that is clean then: the sender of SnpRespData_SD is dirty
memory_left : (last : List ℕ) (s : LineState) (agent : Agent) (answer : SnoopAnswer) → agent.0 < 8 → IsBrought s agent.0 answer → LeftBy s agent answer → Kept last s
    → IsClean (with_answer s agent answer) → memory_after answer s.home.memory ≡ last
memory_left last s agent answers.I low here fits k clean = memory_by last s _ agent.0 _ low (answered_moves last s agent.0 s.home.memory _ _ false false low fits k) k (λ c. c) clean
memory_left last s agent answers.SC low here fits k clean =
    memory_by last s _ agent.0 _ low (answered_moves last s agent.0 s.home.memory _ _ (is_named s.home.filter agent.0) false low fits k) k (λ c. c) clean
memory_left last s agent (answers.IPD words) low here fits k clean = ((k.lanes agent.0 low).invalid_data words here).1
memory_left last s agent (answers.SCPD words) low here fits k clean = ((k.lanes agent.0 low).clean_data words here).3
memory_left last s agent (answers.SD words) low here fits k clean = absurd (dirty_copy (rn_of s agent.0).state ((k.lanes agent.0 low).dirty_data words here).0 (clean agent.0 low).copy)
  where
    dirty_copy : (state : State) → state ≡ SD → is_dirty state ≡ false → ⊥
    dirty_copy state is clean = cc

-- what a read is sent: memory, on a line that is clean then, or the answer's data
sent_last : (last : List ℕ) (s : LineState) (agent : Agent) (answer : SnoopAnswer) (may : AwaitsAnswer s agent.0) → IsBrought s agent.0 answer → LeftBy s agent answer → Kept last s → Kept last (with_answer s agent answer)
    → ((m : ℕ) → m < 8 → is_in (others_than agent.0 s.home.awaited) m ≡ false) → is_read may.snooping.kind ≡ true → data_to_send answer s.home.memory ≡ last
sent_last last s agent answers.I may here fits k answered done reads =
    answered.memory_last (quiet_line last _ may.snooping answered fits.clear done reads (λ shared m at. nobody_owns last s agent.0 may k shared m at))
sent_last last s agent answers.SC may here fits k answered done reads =
    answered.memory_last (quiet_line last _ may.snooping answered fits.clear done reads (λ shared m at. nobody_owns last s agent.0 may k shared m at))
sent_last last s agent (answers.IPD words) may here fits k answered done reads = ((k.lanes agent.0 may.here).invalid_data words here).1
sent_last last s agent (answers.SCPD words) may here fits k answered done reads = ((k.lanes agent.0 may.here).clean_data words here).3
sent_last last s agent (answers.SD words) may here fits k answered done reads = ((k.lanes agent.0 may.here).dirty_data words here).2

-- RecvSnpResp
pub kept_answered_by : (last : List ℕ) (s : LineState) (agent : Agent) (answer : SnoopAnswer) → agent.0 < 8
    → Brings (cells_of s agent.0).rsp_up (cells_of s agent.0).dat_up answer → Kept last s → Kept last (answered_by s agent answer)
kept_answered_by last s agent answer low here k =
    let n = agent.0 in
    let lanes = k.lanes n low in
    let awaited : is_in s.home.awaited n ≡ true = answer_awaited answer s.home.serving s.home.filter.unique s.home.filter.owner last n (lane s n) here lanes in
    let is : IsSnooping s.home.serving = is_snooping s.home.serving (lanes.awaited_snooped awaited) in
    let may : AwaitsAnswer s n = record { here = low; snooping = is; awaited = awaited } in
    let fits : LeftBy s agent answer = filter_left last s agent answer may here k in
    let answered : Kept last (with_answer s agent answer) = kept_answered last s n _ _ _ _ _ may fits
    (answered_lane answer is.agent is.kind is.slot s.home.filter.unique s.home.filter.owner _ last n (lane s n) here fits.own (shares_only (snoop_of is.kind)) (snooped_lanes last s is k n low))
    (memory_left last s agent answer low here fits k) k in
    kept_finished last (with_answer s agent answer) (data_to_send answer s.home.memory)
    (record { snooping = is; snoops = sym (ap (λ v. is_some (snoop_out v)) is.serving_is) ∙ lanes.awaited_snooped awaited; clear = fits.clear; sent_is = sent_last last s agent answer may here fits k answered }) answered
