-- RecvSnpResp: what it leaves of the home's turn, and the completion that it sends with the last answer.
use Rattle.std.proofs.Common.{◌≡◌, ◌≢◌, ⊎_elim, ℕ, ◌<◌, ◌&&◌, ◌||◌, Bool, true, false, not, List, length, get_or, set, Option, Some, None, is_some, refl, sym, ap, subst, ◌∙◌, if◌then◌else◌, arith, get_or-set_same, get_or-set_other}
use Rattle.std.proofs.lemmas.Bool.{both_ways, cases_eq}
use Rattle.std.proofs.lemmas.List.{length-set}
use Rattle.chi_flit.specs.Kind.{snoop_of}
use Rattle.chi_flit.specs.declared.kind.Kind.{Kind}
use Rattle.chi_flit.specs.declared.kind.Kind.TheVariants.{ReadNotSharedDirty, ReadShared, ReadUnique, CleanUnique}
use Rattle.chi_flit.specs.declared.numbers.Agent.{Agent}
use Rattle.chi_flit.specs.declared.numbers.Slot.{Slot}
use Rattle.chi_flit.specs.declared.snoop.Snoop.{Snoop}
use Rattle.chi_filter.specs.Filter.{FilterState, has_any, is_in, others_than}
use Rattle.chi_wires.specs.Cell.{no_flits, with_message, without_message}
use Rattle.chi_wires.specs.declared.cells.Cells.{Cells}
use Rattle.chi_homeline.specs.Home.{Home, answer_taken, asks, completed_filter, completes_unique, completion_form, completion_of, data_to_send, finished_as, finished_sends_as, home_after_completion, waiting_of}
use Rattle.chi_homeline.specs.declared.serving.Serving.{Serving}
use Rattle.chi_homeline.specs.declared.serving.Serving.TheVariants as servings
use Rattle.chi_homeline.specs.declared.serving.SnoopAnswer.{SnoopAnswer}
use Rattle.chi_homeline.specs.declared.serving.SnoopAnswer.TheVariants as answers
use Rattle.chi_line.specs.Kept.{Kept, Lane, LaneKept, lane, shares, snoop_out, snoops_for}
use Rattle.chi_line.specs.LineState.{LineState, cells_of}
use Rattle.chi_line.specs.Snooped.{answer_channel, completion_put}
use Rattle.chi_line.specs.Step.{answer_in, answered_by, is_ack}
use Rattle.chi_line.proofs.After.{brought}
use Rattle.chi_line.proofs.Asks.{left_in}
use Rattle.chi_line.proofs.StandingParts.{mark_out}
use Rattle.chi_line.proofs.WriteLanes.{answer_awaited}
use Rattle.chi_explain.specs.Sent.{busy_in, sent_of_agent, served_or}
use Rattle.chi_monitor.specs.HomeTurns.{beside, completes, filter_of, given, is_beside, is_complete, kind_of, may_complete}
use Rattle.chi_monitor.specs.Turns.{turn_of}
use Rattle.chi_monitor.specs.declared.filter.KnownFilter.{KnownFilter}
use Rattle.chi_monitor.specs.declared.home_turns.Group.{Group}
use Rattle.chi_monitor.specs.declared.home_turns.HomeTurn.{HomeTurn}
use Rattle.chi_monitor.specs.declared.home_turns.Service.{Service}
use Rattle.chi_monitor.specs.declared.home_turns.Service.TheVariants as services
use Rattle.chi_monitor.specs.declared.turns.Turn.{Turn}
use Rattle.chi_monitor.proofs.HomeAnswers.{serves, snooped_awaited, unanswered}
use Rattle.chi_monitor.proofs.HomeFits.{Does, Grouped, HomeFits, HomeLeaves, HomeView, IsAnswered, IsGroupFilter, IsMarked, IsNamedInFlight, Up, group_filter, home_view, with_answer}
use Rattle.chi_monitor.proofs.HomeKept.{Serves, answer_asks, is_not, none_of_set, one_asked, other_than_served, taken_out}
use Rattle.chi_monitor.proofs.HomeSteps.{Homed, completion_may, form_up}
use Rattle.chi_monitor.proofs.TurnAnswers.{served_low, taken_at}
use Rattle.chi_monitor.proofs.TurnOwn.{Finds, finds}
use Rattle.chi_monitor.proofs.TurnSent.{Empties, flits_of, sends_form, sends_nothing}
use Rattle.chi_monitor.proofs.TurnSteps.{none_of, or_home, same_slot}

-- less is awaited
marks_less : (snp : Option Snoop) (snooped answered shown awaited awaited' : Bool) → (awaited' ≡ true → awaited ≡ true) → IsMarked snp snooped answered shown awaited → IsMarked snp snooped answered shown awaited'
marks_less None snooped answered shown awaited awaited' less marks = (marks.0, λ waits. marks.1 (less waits))
marks_less (Some snoop) snooped answered shown awaited awaited' less marks = marks

-- an answer is taken, and the snoops stay
same_snp : (answer : SnoopAnswer) (c : Cells) → (without_message c (answer_channel answer)).snp ≡ c.snp
same_snp answers.I c = refl
same_snp answers.SC c = refl
same_snp (answers.IPD words) c = refl
same_snp (answers.SCPD words) c = refl
same_snp (answers.SD words) c = refl

-- beside snoops no CompAck is in flight
snooping_lane : (served : Agent) (kind : Kind) (slot : Slot) (unique : Bool) (owner : Option Agent) (last : List ℕ) (n : ℕ) (x : Lane) → LaneKept (servings.Snooping served kind slot) unique owner last n x → is_ack x.flits.rsp_up ≡ false
snooping_lane served kind slot unique owner last n x k = search (arith, k.one_ack)

both_true : (a b c : Bool) → a ≡ true → b ≡ false → c ≡ false → (a && (not b && not c)) ≡ true
both_true a b c p q r = λ i. p i && (not (q i) && not (r i))

not_beside : (a b : Bool) → (a ≡ true → b ≡ true) → (a && not b) ≡ false
not_beside false b within = search arith
not_beside true b within = ap not (within refl)

abbrev LineOf : LineState → Home → List Cells → LineState
LineOf s home flits = record s { home = home; flits = flits }

-- what a receipt finds
record Receipt (last : List ℕ) (s : LineState) (served : Agent) (kind : Kind) (slot : Slot) (agent : Agent) (answer : SnoopAnswer) (filter : KnownFilter) (service : Service) (shown : List Bool) : Type 0 where
  pub serves : Serves last s served kind slot
  pub low : agent.0 < 8
  pub answers : answer_in (cells_of s agent.0) ≡ Some answer
  pub awaited : is_in s.home.awaited agent.0 ≡ true
  pub fits : HomeFits (record { filter = filter; service = service }) shown (home_view s)

-- the snoops of all have been seen, in a group
answered_snoop : (last : List ℕ) (s : LineState) (served : Agent) (kind : Kind) (slot : Slot) (agent : Agent) (answer : SnoopAnswer) (filter : KnownFilter) (service : Service) (shown : List Bool) → Receipt last s served kind slot agent answer filter service shown → is_some (cells_of s agent.0).snp ≡ false
answered_snoop last s served kind slot agent answer filter service shown r =
    is_not _ (λ flies. let e : None ≡ Some answer = sym (unanswered last s served kind slot agent.0 r.serves r.low flies) ∙ r.answers in cc (e))

record InGroup (served : Agent) (kind : Kind) (filter : KnownFilter) (service : Service) (shown : List Bool) (v : HomeView) : Type 0 where
  pub group : Group
  pub is : service ≡ services.Snooping group
  pub fits : Grouped served kind (filter_of filter) group shown v

in_group : (last : List ℕ) (s : LineState) (served : Agent) (kind : Kind) (slot : Slot) (agent : Agent) (answer : SnoopAnswer) (filter : KnownFilter) (service : Service) (shown : List Bool) → Receipt last s served kind slot agent answer filter service shown → InGroup served kind filter service shown (home_view s)
in_group last s served kind slot agent answer filter service shown r = go service refl (subst (λ (v : Serving). Does service v (filter_of filter) shown (home_view s)) r.serves.serving r.fits.does)
  where
    go : (service' : Service) → service ≡ service' → Does service' (servings.Snooping served kind slot) (filter_of filter) shown (home_view s) → InGroup served kind filter service shown (home_view s)
    go services.Idle is u = absurd (both_ways (is_some (cells_of s agent.0).snp) (answered_snoop last s served kind slot agent answer filter service shown r) (u.in_flight agent.0 r.low r.awaited))
    go (services.Snooping group) is g = record { group = group; is = is; fits = g }
    go (services.AwaitingAck a at) is d = absurd d
    go (services.AwaitingWriteData a at) is d = absurd d

-- not the last answer
taken_home : (last : List ℕ) (s : LineState) (served : Agent) (kind : Kind) (slot : Slot) (agent : Agent) (answer : SnoopAnswer) (filter : KnownFilter) (service : Service) (shown : List Bool) → Receipt last s served kind slot agent answer filter service shown
    → HomeFits (record { filter = filter; service = service }) shown (home_view (LineOf s (answer_taken s.home agent answer) (set s.flits agent.0 (without_message (cells_of s agent.0) (answer_channel answer)))))
taken_home last s served kind slot agent answer filter service shown r = record {
  long = r.fits.long;
  there = λ m at seen. ap is_some (snp m) ∙ r.fits.there m at seen;
  does = subst (λ (v : Serving). Does service v (filter_of filter) shown v') (sym r.serves.serving) (subst (λ (x : Service). Does x (servings.Snooping served kind slot) (filter_of filter) shown v') (sym inside.is) (record {
    snoop = g.snoop;
    may_be = g.may_be;
    snooped_long = g.snooped_long;
    answered_long = g.answered_long;
    marks = λ m at. subst (λ (o : Option Snoop). IsMarked o (is_in inside.group.snooped m) (is_in inside.group.answered m) (get_or shown m false) (is_in (others_than agent.0 s.home.awaited) m)) (sym (snp m))
        (marks_less (cells_of s m).snp _ _ _ (is_in s.home.awaited m) _ (λ waits. was m waits) (g.marks m at));
    filter = group_filter kind served.0 (filter_of filter) (filter_of filter) (home_view s) v' r.serves.by (λ all named m at other. named m at other ∙ sym (ap is_some (snp m))) none_left g.filter;
  }));
}
  where
    taken : List Cells
    taken = set s.flits agent.0 (without_message (cells_of s agent.0) (answer_channel answer))

    v' : HomeView
    v' = home_view (LineOf s (answer_taken s.home agent answer) taken)

    inside : InGroup served kind filter service shown (home_view s)
    inside = in_group last s served kind slot agent answer filter service shown r

    g : Grouped served kind (filter_of filter) inside.group shown (home_view s)
    g = inside.fits

    snp : (m : ℕ) → (v'.up m).snp ≡ (cells_of s m).snp
    snp m = ⊎_elim
        (λ (own : m ≡ agent.0). subst (λ (j : ℕ). (get_or taken j no_flits).snp ≡ (cells_of s j).snp) (sym own)
        (ap (λ (c : Cells). c.snp) (get_or-set_same s.flits agent.0 _ no_flits (omega (arith, r.low, r.serves.kept.flits))) ∙ same_snp answer (cells_of s agent.0)))
        (λ (apart : m ≢ agent.0). ap (λ (c : Cells). c.snp) (get_or-set_other s.flits agent.0 m _ no_flits apart)) (cases_eq m agent.0)

    -- who is awaited still
    other : (m : ℕ) → is_in (others_than agent.0 s.home.awaited) m ≡ true → m ≢ agent.0
    other m waits = λ (own : m ≡ agent.0). both_ways (is_in (others_than agent.0 s.home.awaited) agent.0) (taken_out s.home.awaited agent.0) (subst (λ (j : ℕ). is_in (others_than agent.0 s.home.awaited) j ≡ true) own waits)

    was : (m : ℕ) → is_in (others_than agent.0 s.home.awaited) m ≡ true → is_in s.home.awaited m ≡ true
    was m waits = sym (left_in agent.0 m s.home.awaited (other m waits)) ∙ waits

    none_left : shares (snoop_of kind) ≡ true → IsAnswered (filter_of filter) (home_view s) → IsAnswered (filter_of filter) v'
    none_left sharing same m at waits = absurd (other m waits (one_asked last s served kind slot m agent.0 r.serves sharing at r.low (was m waits) r.awaited))

-- the last answer
record Ends (kind : Kind) (served : Agent) (f g : FilterState) : Type 0 where
  pub completes : completes_unique kind g served.0 ≡ completes_unique kind f served.0
  pub filter : completed_filter (completes_unique kind f served.0) f served.0 ≡ completed_filter (completes_unique kind g served.0) g served.0

ends_same : (kind : Kind) (served : Agent) (f g : FilterState) → f ≡ g → Ends kind served f g
ends_same kind served f g same = record {
  completes = ap (λ (x : FilterState). completes_unique kind x served.0) (sym same);
  filter = ap (λ (x : FilterState). completed_filter (completes_unique kind x served.0) x served.0) same;
}

finished_home : (last : List ℕ) (s : LineState) (served : Agent) (kind : Kind) (slot : Slot) (agent : Agent) (answer : SnoopAnswer) (turns : List Turn) (filter : KnownFilter) (service : Service) (shown : List Bool) (words : List ℕ) → Receipt last s served kind slot agent answer filter service shown
    → has_any (others_than agent.0 s.home.awaited) ≡ false → kind_of (turn_of turns served).asked ≡ kind
    → HomeLeaves turns (record { filter = filter; service = service }) served (Some (completion_of (answer_taken s.home agent answer) kind served words)) shown
    (home_view (LineOf s (home_after_completion (answer_taken s.home agent answer) kind served slot)
    (set (set s.flits agent.0 (without_message (cells_of s agent.0) (answer_channel answer))) served.0 (with_message (get_or (set s.flits agent.0 (without_message (cells_of s agent.0) (answer_channel answer))) served.0 no_flits) (completion_of (answer_taken s.home agent answer) kind served words)))))
finished_home last s served kind slot agent answer turns filter service shown words r nobody of_kind = λ at. (
  given home at served kind,
  completion_may turns home at served kind (completes_unique kind g'.filter served.0) words r.serves.by of_kind ends.completes (ap (λ (v : Service). may_complete filter served kind v) inside.is ∙ complete),
  record {
    long = r.fits.long;
    there = λ m at seen. absurd (both_ways (is_some (cells_of s m).snp) (gone m at) (r.fits.there m at seen));
    does = (
      ends.filter,
      ap (λ (c : Cells). is_ack c.rsp_up) (get_or-set_same taken served.0 _ no_flits long_enough)
          ∙ (ap (λ (u : Up). is_ack u.rsp) (form_up (completion_form kind (completes_unique kind g'.filter served.0)) words (get_or taken served.0 no_flits))
          ∙ (ap (λ (c : Cells). is_ack c.rsp_up) (get_or-set_other s.flits agent.0 served.0 _ no_flits apart) ∙ snooping_lane served kind slot s.home.filter.unique s.home.filter.owner last served.0 (lane s served.0) (r.serves.lanes served.0 r.serves.low))),
    );
  },
)
  where
    home : HomeTurn
    home = record { filter = filter; service = service }

    g' : Home
    g' = answer_taken s.home agent answer

    taken : List Cells
    taken = set s.flits agent.0 (without_message (cells_of s agent.0) (answer_channel answer))

    apart : served.0 ≢ agent.0
    apart = λ (e : served.0 ≡ agent.0). other_than_served last s served kind slot agent.0 r.serves r.low r.awaited (sym e)

    long_enough : served.0 < length taken
    long_enough = subst (λ (n : ℕ). served.0 < n) (sym (length-set s.flits agent.0 (without_message (cells_of s agent.0) (answer_channel answer)) ∙ r.serves.kept.flits)) r.serves.low

    inside : InGroup served kind filter service shown (home_view s)
    inside = in_group last s served kind slot agent answer filter service shown r

    group : Group
    group = inside.group

    g : Grouped served kind (filter_of filter) group shown (home_view s)
    g = inside.fits

    -- no snoop is in flight any more
    gone : (m : ℕ) → m < 8 → is_some (cells_of s m).snp ≡ false
    gone m at = ⊎_elim (λ (own : m ≡ agent.0). subst (λ (j : ℕ). is_some (cells_of s j).snp ≡ false) (sym own) (answered_snoop last s served kind slot agent answer filter service shown r))
        (λ (other : m ≢ agent.0). is_not _ (λ flies. both_ways (is_in s.home.awaited m) (sym (left_in agent.0 m s.home.awaited other) ∙ mark_out (others_than agent.0 s.home.awaited) nobody m) (snooped_awaited last s served kind slot m r.serves at flies))) (cases_eq m agent.0)

    mark : (m : ℕ) → m < 8 → IsMarked None (is_in group.snooped m) (is_in group.answered m) (get_or shown m false) (is_in s.home.awaited m)
    mark m at = subst (λ (o : Option Snoop). IsMarked o (is_in group.snooped m) (is_in group.answered m) (get_or shown m false) (is_in s.home.awaited m)) (none_of (cells_of s m).snp (gone m at)) (g.marks m at)

    answered_all : has_any (beside group.snooped group.answered) ≡ false
    answered_all = none_of_set (is_beside group.snooped group.answered) (λ m at. not_beside _ _ (λ snooped. sym (mark m at).0 ∙ snooped))

    snooped_all : ((m : ℕ) → m < 8 → is_in (asks kind (filter_of filter) served.0) m ≡ true → is_in group.snooped m ≡ true) → has_any (beside (asks kind (filter_of filter) served.0) group.snooped) ≡ false
    snooped_all within = none_of_set (is_beside (asks kind (filter_of filter) served.0) group.snooped) (λ m at. not_beside _ _ (within m at))

    -- who leaves no copy, and who reads
    named_within : IsNamedInFlight served.0 (filter_of filter) (home_view s) → (m : ℕ) → m < 8 → is_in (others_than served.0 filter.named) m ≡ true → is_in group.snooped m ≡ true
    named_within named m at asked =
        let other : m ≢ served.0 = λ (own : m ≡ served.0). both_ways (is_in (others_than served.0 filter.named) served.0) (taken_out filter.named served.0) (subst (λ (j : ℕ). is_in (others_than served.0 filter.named) j ≡ true) own asked) in
        absurd (both_ways (is_in filter.named m) (named m at other ∙ gone m at) (sym (left_in served.0 m filter.named other) ∙ asked))

    came : IsAnswered (filter_of filter) (home_view s) → filter_of filter ≡ g'.filter
    came same = same agent.0 r.low r.awaited ∙ ap (λ (o : Option SnoopAnswer). with_answer o s.home.filter agent.0) r.answers

    answered_within : (kind : Kind) → Serves last s served kind slot → shares (snoop_of kind) ≡ true → IsAnswered (filter_of filter) (home_view s) → (m : ℕ) → m < 8 → is_in (asks kind (filter_of filter) served.0) m ≡ true → is_in group.snooped m ≡ true
    answered_within kind k sharing same m at asked =
        let own : m ≡ agent.0 = answer_asks last s served kind slot agent.0 m answer k sharing r.low r.awaited at (ap (λ (x : FilterState). is_in (asks kind x served.0) m) (sym (came same)) ∙ asked) in
        subst (λ (j : ℕ). is_in group.snooped j ≡ true) (sym own) ((mark agent.0 r.low).0 ∙ (mark agent.0 r.low).1 r.awaited)

    within : (kind : Kind) → Serves last s served kind slot → IsGroupFilter kind served.0 (filter_of filter) (home_view s) → (m : ℕ) → m < 8 → is_in (asks kind (filter_of filter) served.0) m ≡ true → is_in group.snooped m ≡ true
    within ReadNotSharedDirty k same = answered_within ReadNotSharedDirty k refl same
    within ReadShared k same = answered_within ReadShared k refl same
    within ReadUnique k named = named_within named
    within CleanUnique k named = named_within named
    within other k same = absurd (cc (k.by))

    ending : (kind : Kind) → is_some (snoop_of kind) ≡ true → IsGroupFilter kind served.0 (filter_of filter) (home_view s) → Ends kind served (filter_of filter) g'.filter
    ending ReadNotSharedDirty by same = ends_same ReadNotSharedDirty served (filter_of filter) g'.filter (came same)
    ending ReadShared by same = ends_same ReadShared served (filter_of filter) g'.filter (came same)
    ending ReadUnique by named = record { completes = refl; filter = refl }
    ending CleanUnique by named = record { completes = refl; filter = refl }
    ending other by same = absurd (cc (by))

    ends : Ends kind served (filter_of filter) g'.filter
    ends = ending kind r.serves.by g.filter

    complete : is_complete group served (asks kind (filter_of filter) served.0) ≡ true
    complete = both_true (is_in group.may_be served.0) (has_any (beside (asks kind (filter_of filter) served.0) group.snooped)) (has_any (beside group.snooped group.answered)) g.may_be (snooped_all (within kind r.serves g.filter)) answered_all

-- an answer is one to a snoop that is out
pub answer_waits : (last : List ℕ) (s : LineState) (agent : Agent) (answer : SnoopAnswer) → agent.0 < 8 → answer_in (cells_of s agent.0) ≡ Some answer → Kept last s → is_in s.home.awaited agent.0 ≡ true
answer_waits last s agent answer low there k = answer_awaited answer s.home.serving s.home.filter.unique s.home.filter.owner last agent.0 (lane s agent.0) (brought (cells_of s agent.0).rsp_up (cells_of s agent.0).dat_up answer there) (k.lanes agent.0 low)

pub answer_out : (last : List ℕ) (s : LineState) (agent : Agent) (answer : SnoopAnswer) → agent.0 < 8 → answer_in (cells_of s agent.0) ≡ Some answer → Kept last s → is_some (snoop_out s.home.serving) ≡ true
answer_out last s agent answer low there k = (k.lanes agent.0 low).awaited_snooped (answer_waits last s agent answer low there k)

-- and what is sent
pub receipt_home : (last : List ℕ) (s : LineState) (agent : Agent) (answer : SnoopAnswer) (turns : List Turn) (filter : KnownFilter) (service : Service) (shown : List Bool) → agent.0 < 8 → answer_in (cells_of s agent.0) ≡ Some answer → Kept last s
    → ((served : Agent) (kind : Kind) (slot : Slot) → s.home.serving ≡ servings.Snooping served kind slot → kind_of (turn_of turns served).asked ≡ kind) → HomeFits (record { filter = filter; service = service }) shown (home_view s)
    → Homed turns (record { filter = filter; service = service }) shown s (answered_by s agent answer) (served_or s.home.serving agent)
receipt_home last s agent answer turns filter service shown low there k turn f = by_serving s.home.serving refl
  where
    taken : List Cells
    taken = set s.flits agent.0 (without_message (cells_of s agent.0) (answer_channel answer))

    home' : Home
    home' = answer_taken s.home agent answer

    words : List ℕ
    words = data_to_send answer s.home.memory

    home : HomeTurn
    home = record { filter = filter; service = service }

    empties : (m : ℕ) → m < 8 → Empties (cells_of s m) (get_or taken m no_flits)
    empties m at = taken_at s.flits agent.0 m answer (omega (arith, at, k.flits))

    waits : is_in s.home.awaited agent.0 ≡ true
    waits = answer_waits last s agent answer low there k

    out : is_some (snoop_out s.home.serving) ≡ true
    out = answer_out last s agent answer low there k

    by_serving : (serving : Serving) → s.home.serving ≡ serving → Homed turns home shown s (LineOf s (finished_as serving home') (completion_put taken (finished_sends_as serving home' words))) (served_or serving agent)
    by_serving (servings.Snooping served kind slot) is =
        let of : Serves last s served kind slot = serves last s served kind slot is (subst (λ (v : Serving). is_some (snoop_out v) ≡ true) is out) k in
        let r : Receipt last s served kind slot agent answer filter service shown = record { serves = of; low = low; answers = there; awaited = waits; fits = f } in
        subst (λ (w : Agent). Homed turns home shown s (LineOf s (finished_as (servings.Snooping served kind slot) home') (completion_put taken (finished_sends_as (servings.Snooping served kind slot) home' words))) w) (sym (served_low served agent of.low))
        (go r (has_any (others_than agent.0 s.home.awaited)) refl)
      where
        go : Receipt last s served kind slot agent answer filter service shown → (b : Bool) → has_any (others_than agent.0 s.home.awaited) ≡ b
            → Homed turns home shown s (LineOf s (if b then home' else home_after_completion home' kind served slot) (completion_put taken (if b then None else Some (record { agent = served; message = completion_of home' kind served words })))) served
        go r true any = record { sent = None; is = sends_nothing served (cells_of s served.0) (get_or taken served.0 no_flits) (empties served.0 r.serves.low); keeps = taken_home last s served kind slot agent answer filter service shown r }
        go r false none =
            let h : Finds last s served.0 = finds last s served.0 r.serves.low k in
            let at_home : (is_some (waiting_of s.home served.0) || snoops_for s.home.serving served.0) ≡ true = or_home (is_some (waiting_of s.home served.0)) (snoops_for s.home.serving served.0) (ap (λ (v : Serving). snoops_for v served.0) r.serves.serving ∙ same_slot served.0) in
            record {
              sent = Some (completion_of home' kind served words);
              is = subst (λ (x : Cells). sent_of_agent served (busy_in (cells_of s served.0)) x ≡ flits_of served (Some (completion_of home' kind served words)))
                  (sym (get_or-set_same taken served.0 (with_message (get_or taken served.0 no_flits) (completion_of home' kind served words)) no_flits (omega (arith, r.serves.low, k.flits, length-set s.flits agent.0 (without_message (cells_of s agent.0) (answer_channel answer))))))
                  (sends_form served (cells_of s served.0) (get_or taken served.0 no_flits) (completion_form kind (completes_unique kind home'.filter served.0)) words (empties served.0 r.serves.low) (none_of _ (h.apart.home_rsp at_home)) (none_of _ (h.apart.home_data at_home)));
              keeps = finished_home last s served kind slot agent answer turns filter service shown words r none (turn served kind slot r.serves.serving);
            }
    by_serving servings.Idle is = absurd (cc (subst (λ (v : Serving). is_some (snoop_out v) ≡ true) is out))
    by_serving (servings.AwaitingCompAck served slot) is = absurd (cc (subst (λ (v : Serving). is_some (snoop_out v) ≡ true) is out))
    by_serving (servings.AwaitingWriteData served kind slot) is = absurd (cc (subst (λ (v : Serving). is_some (snoop_out v) ≡ true) is out))
