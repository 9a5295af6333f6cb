-- What a snoop that is seen, an answer, and its receipt leave of the home's turn.
use Rattle.std.proofs.Common.{◌≡◌, ◌≢◌, ⊎_elim, ℕ, ◌<◌, ◌==◌, ◌&&◌, Bool, true, false, not, List, length, get_or, set, Option, Some, None, is_some, refl, sym, ap, subst, ◌∙◌, if◌then◌else◌, arith, get_or-set_same, get_or-set_other}
use Rattle.std.proofs.lemmas.Bool.{both_ways, cases_eq}
use Rattle.std.proofs.lemmas.List.{get_or-replicate, length-set}
use Rattle.chi_flit.specs.Kind.{snoop_of}
use Rattle.chi_flit.specs.Numbers.{agent_at}
use Rattle.chi_flit.specs.Snoop.{answer_of, snoop_number}
use Rattle.chi_flit.specs.declared.kind.Kind.{Kind}
use Rattle.chi_flit.specs.declared.message.DatUp.TheVariants.{SnpRespDataIPD, SnpRespDataSCPD, SnpRespDataSD}
use Rattle.chi_flit.specs.declared.message.Msg.{Msg}
use Rattle.chi_flit.specs.declared.message.Msg.TheVariants as messages
use Rattle.chi_flit.specs.declared.message.RspUp.{RspUp}
use Rattle.chi_flit.specs.declared.message.RspUp.TheVariants.{SnpRespI, SnpRespSC}
use Rattle.chi_flit.specs.declared.numbers.Agent.{Agent}
use Rattle.chi_flit.specs.declared.numbers.Slot.{Slot}
use Rattle.chi_flit.specs.declared.snoop.Snoop.{Snoop}
use Rattle.chi_flit.specs.declared.state.State.{State}
use Rattle.chi_filter.specs.Filter.{FilterState, filter_without, is_in, is_named, nobody, others_than}
use Rattle.chi_wires.specs.Cell.{no_flits, with_message}
use Rattle.chi_wires.specs.declared.cells.Cells.{Cells}
use Rattle.chi_rnline.specs.Rn.{Rn}
use Rattle.chi_homeline.specs.Home.{asks}
use Rattle.chi_homeline.specs.declared.serving.Serving.{Serving}
use Rattle.chi_homeline.specs.declared.serving.Serving.TheVariants as servings
use Rattle.chi_homeline.specs.declared.serving.SnoopAnswer.{SnoopAnswer}
use Rattle.chi_homeline.specs.declared.serving.SnoopAnswer.TheVariants as answers
use Rattle.chi_line.specs.Kept.{invalidates, shares, lane}
use Rattle.chi_line.specs.LineState.{LineState, cells_of}
use Rattle.chi_line.specs.Step.{response_answer}
use Rattle.chi_line.proofs.Asks.{left_in}
use Rattle.chi_line.proofs.CopyKeeps.{snoop_no_response}
use Rattle.chi_monitor.specs.HomeTurns.{answered, answered_filter, answered_in, asks_for, asks_if, askers, everybody, filter_of, first_group, home_after, is_for, is_that, larger_group, may_snoop, snooped, snooping_for}
use Rattle.chi_monitor.specs.Copies.{state_left}
use Rattle.chi_monitor.specs.Turns.{turn_of}
use Rattle.chi_monitor.specs.declared.faults.SeenAt.{SeenAt}
use Rattle.chi_monitor.specs.declared.filter.KnownFilter.{KnownFilter}
use Rattle.chi_monitor.specs.declared.home_turns.Group.{Group}
use Rattle.chi_monitor.specs.declared.home_turns.HomeTurn.{HomeTurn}
use Rattle.chi_monitor.specs.declared.home_turns.Service.{Service}
use Rattle.chi_monitor.specs.declared.home_turns.Service.TheVariants as services
use Rattle.chi_monitor.specs.declared.turns.Turn.{Turn}
use Rattle.chi_monitor.proofs.HomeAnswers.{WaitsAs, first_filter, group_asks, snooped_awaited, unanswered}
use Rattle.chi_monitor.proofs.HomeFits.{Does, Grouped, HomeFits, HomeLeaves, HomeView, IsGroupFilter, IsGrouped, IsMarked, Up, answer_up, group_filter, home_view, up_of, with_answer}
use Rattle.chi_monitor.proofs.HomeKept.{Serves, has_some, one_asked, same_snoop, set_at, taken_out}
use Rattle.chi_monitor.proofs.TurnSteps.{told_state}

both_true : (a b : Bool) → a ≡ true → b ≡ true → (a && b) ≡ true
both_true a b p q = λ i. p i && q i

-- A SNOOP THAT IS SEEN
asks_served : (turns : List Turn) (filter : KnownFilter) (served : Agent) (kind : Kind) (snoop : Snoop) (m : ℕ) → WaitsAs (turn_of turns served).asked kind → snoop_of kind ≡ Some snoop → is_in (asks kind (filter_of filter) served.0) m ≡ true
    → asks_for filter turns served snoop m ≡ true
asks_served turns filter served kind snoop m w by asked =
    ap (λ (o : Option _). asks_if filter o served snoop m) w.waits
    ∙ both_true (is_for w.request.kind snoop) (is_in (asks w.request.kind (filter_of filter) served.0) m) (ap (λ (k : Kind). is_for k snoop) w.of ∙ (ap (λ (o : Option Snoop). is_that o snoop) by ∙ same_snoop snoop))
    (ap (λ (k : Kind). is_in (asks k (filter_of filter) served.0) m) w.of ∙ asked)

still_asks : (turns : List Turn) (filter : KnownFilter) (served : Agent) (kind : Kind) (snoop : Snoop) (m : ℕ) (among : List Bool) → served.0 < 8 → is_in among served.0 ≡ true → WaitsAs (turn_of turns served).asked kind → snoop_of kind ≡ Some snoop
    → is_in (asks kind (filter_of filter) served.0) m ≡ true → is_in (askers filter turns snoop m among) served.0 ≡ true
still_asks turns filter served kind snoop m among low here w by asked =
    set_at (λ (n : ℕ). is_in among n && asks_for filter turns (agent_at n) snoop m) served.0 low ∙ both_true (is_in among served.0) (asks_for filter turns served snoop m) here (asks_served turns filter served kind snoop m w by asked)

-- what is in flight where a snoop was seen
seen_there : (shown : List Bool) (v : HomeView) (n : ℕ) → is_some (v.up n).snp ≡ true → ((m : ℕ) → m < 8 → get_or shown m false ≡ true → is_some (v.up m).snp ≡ true)
    → (m : ℕ) → m < 8 → get_or (set shown n true) m false ≡ true → is_some (v.up m).snp ≡ true
seen_there shown v n here there m low seen = ⊎_elim (λ (own : m ≡ n). subst (λ (k : ℕ). is_some (v.up k).snp ≡ true) (sym own) here)
    (λ (apart : m ≢ n). there m low (sym (get_or-set_other shown n m true false apart) ∙ seen)) (cases_eq m n)

-- the marks of one more that was snooped
more_marks : (snooped answered shown : List Bool) (n : ℕ) (snp : ℕ → Option Snoop) (awaited : ℕ → Bool) (m : ℕ) → length snooped ≡ 8 → length shown ≡ 8 → n < 8 → is_some (snp n) ≡ true
    → IsMarked (snp m) (is_in snooped m) (is_in answered m) (get_or shown m false) (awaited m) → IsMarked (snp m) (is_in (set snooped n true) m) (is_in answered m) (get_or (set shown n true) m false) (awaited m)
more_marks snooped answered shown n snp awaited m long wide low here marks = ⊎_elim own other (cases_eq m n)
  where
    at_own : (snoop : Option Snoop) → is_some snoop ≡ true → IsMarked snoop (is_in snooped n) (is_in answered n) (get_or shown n false) (awaited n) → IsMarked snoop (is_in (set snooped n true) n) (is_in answered n) (get_or (set shown n true) n false) (awaited n)
    at_own None here marks = absurd (cc (here))
    at_own (Some snoop) here marks = (marks.0, get_or-set_same snooped n true false (omega (arith, low, long)) ∙ sym (get_or-set_same shown n true false (omega (arith, low, wide))))

    own : m ≡ n → IsMarked (snp m) (is_in (set snooped n true) m) (is_in answered m) (get_or (set shown n true) m false) (awaited m)
    own is = subst (λ (k : ℕ). IsMarked (snp k) (is_in (set snooped n true) k) (is_in answered k) (get_or (set shown n true) k false) (awaited k)) (sym is)
        (at_own (snp n) here (subst (λ (k : ℕ). IsMarked (snp k) (is_in snooped k) (is_in answered k) (get_or shown k false) (awaited k)) is marks))

    other : m ≢ n → IsMarked (snp m) (is_in (set snooped n true) m) (is_in answered m) (get_or (set shown n true) m false) (awaited m)
    other apart = subst (λ (b : Bool). IsMarked (snp m) b (is_in answered m) (get_or (set shown n true) m false) (awaited m)) (sym (get_or-set_other snooped n m true false apart))
        (subst (λ (b : Bool). IsMarked (snp m) (is_in snooped m) (is_in answered m) b (awaited m)) (sym (get_or-set_other shown n m true false apart)) marks)

-- before any snoop was seen
no_marks : (shown awaited : List Bool) (m : ℕ) (snp : Option Snoop) → m < 8 → get_or shown m false ≡ false → (is_in awaited m ≡ true → is_some snp ≡ true) → IsMarked snp (is_in nobody m) (is_in nobody m) (get_or shown m false) (is_in awaited m)
no_marks shown awaited m None low hidden flies = (refl, λ here. let e : false ≡ true = flies here in cc (e))
no_marks shown awaited m (Some snoop) low hidden flies = (get_or-replicate 8 m false false low, get_or-replicate 8 m false false low ∙ sym hidden)

abbrev pub SeenTo : List Turn → SeenAt → HomeTurn → Agent → Snoop → List Bool → HomeView → Type 0
SeenTo turns at home agent snoop shown v = (home' : HomeTurn) × (home_after turns at home agent (messages.Snp snoop) ≡ Some home') × HomeFits home' shown v

pub seen_home : (last : List ℕ) (s : LineState) (served : Agent) (kind : Kind) (slot : Slot) (agent : Agent) (snoop : Snoop) (turns : List Turn) (at : SeenAt) (filter : KnownFilter) (service : Service) (shown : List Bool) → Serves last s served kind slot → agent.0 < 8
    → (cells_of s agent.0).snp ≡ Some snoop → get_or shown agent.0 false ≡ false → WaitsAs (turn_of turns served).asked kind → HomeFits (record { filter = filter; service = service }) shown (home_view s)
    → SeenTo turns at (record { filter = filter; service = service }) agent snoop (set shown agent.0 true) (home_view s)
seen_home last s served kind slot agent snoop turns at filter service shown k low here hidden w f = go service (subst (λ (v : Serving). Does service v (filter_of filter) shown (home_view s)) k.serving f.does)
  where
    flies : is_some (cells_of s agent.0).snp ≡ true
    flies = ap is_some here

    by : snoop_of kind ≡ Some snoop
    by = (k.lanes agent.0 low).snoop_fits snoop here

    there : (m : ℕ) → m < 8 → get_or (set shown agent.0 true) m false ≡ true → is_some (cells_of s m).snp ≡ true
    there = seen_there shown (home_view s) agent.0 flies f.there

    fits : (group : Group) → Grouped served kind (filter_of filter) group (set shown agent.0 true) (home_view s) → HomeFits (record { filter = filter; service = services.Snooping group }) (set shown agent.0 true) (home_view s)
    fits group g = record { long = length-set shown agent.0 true ∙ f.long; there = there; does = subst (λ (v : Serving). IsGrouped v (filter_of filter) group (set shown agent.0 true) (home_view s)) (sym k.serving) g }

    go : (service : Service) → Does service (servings.Snooping served kind slot) (filter_of filter) shown (home_view s) → SeenTo turns at (record { filter = filter; service = service }) agent snoop (set shown agent.0 true) (home_view s)
    go services.Idle u =
        let group : Group = first_group filter turns at agent snoop in
        let filters : IsGroupFilter kind served.0 (filter_of filter) (home_view s) = first_filter last s served kind slot (filter_of filter) shown k u in
        let asker : is_in group.may_be served.0 ≡ true = still_asks turns filter served kind snoop agent.0 everybody k.low (set_at (λ n. true) served.0 k.low) w by (group_asks last s served kind slot (filter_of filter) agent.0 k low flies filters) in (
          record { filter = filter; service = services.Snooping group },
          ap (λ (b : Bool). if b then Some (record { filter = filter; service = services.Snooping group }) else None) (has_some group.may_be served.0 asker),
          fits group (record {
            snoop = by;
            may_be = asker;
            snooped_long = length-set nobody agent.0 true;
            answered_long = refl;
            marks = λ m there. more_marks nobody nobody shown agent.0 (λ j. (cells_of s j).snp) (λ j. is_in s.home.awaited j) m refl f.long low flies (no_marks shown s.home.awaited m (cells_of s m).snp there (u.hidden m there) (u.in_flight m there));
            filter = filters;
          }),
        )
    go (services.Snooping was) g =
        let group : Group = larger_group filter turns was agent in
        let asker : is_in group.may_be served.0 ≡ true = still_asks turns filter served kind was.snoop agent.0 was.may_be k.low g.may_be w g.snoop (group_asks last s served kind slot (filter_of filter) agent.0 k low flies g.filter) in
        let e : Some was.snoop ≡ Some snoop = sym g.snoop ∙ by in
        let same : was.snoop ≡ snoop = cc (e) in
        let mark : IsMarked (Some snoop) (is_in was.snooped agent.0) (is_in was.answered agent.0) (get_or shown agent.0 false) (is_in s.home.awaited agent.0) = subst (λ (o : Option Snoop). IsMarked o (is_in was.snooped agent.0) (is_in was.answered agent.0) (get_or shown agent.0 false) (is_in s.home.awaited agent.0)) here (g.marks agent.0 low) in
        let may : may_snoop was agent snoop ≡ true = both_true (not (is_in was.snooped agent.0)) (snoop_number was.snoop == snoop_number snoop) (ap not (mark.1 ∙ hidden)) (ap (λ (x : Snoop). snoop_number x == snoop_number snoop) same ∙ same_snoop snoop) in (
          record { filter = filter; service = services.Snooping group },
          ap (λ (b : Bool). if b then snooping_for filter group else None) may ∙ ap (λ (b : Bool). if b then Some (record { filter = filter; service = services.Snooping group }) else None) (has_some group.may_be served.0 asker),
          fits group (record {
            snoop = g.snoop;
            may_be = asker;
            snooped_long = length-set was.snooped agent.0 true ∙ g.snooped_long;
            answered_long = g.answered_long;
            marks = λ m there. more_marks was.snooped was.answered shown agent.0 (λ j. (cells_of s j).snp) (λ j. is_in s.home.awaited j) m g.snooped_long f.long low flies (g.marks m there);
            filter = g.filter;
          }),
        )
    go (services.AwaitingAck a seen) d = absurd d
    go (services.AwaitingWriteData a seen) d = absurd d

-- AN ANSWER
gone_of : (c : Cells) (m : Msg) (left : State) → state_left m ≡ Some left → (with_message (record c { snp = None }) m).snp ≡ None
gone_of c (messages.RspUp m) left told = refl
gone_of c (messages.DatUp m) left told = refl
gone_of c (messages.Req m) left told = absurd (cc (told))
gone_of c (messages.Snp m) left told = absurd (cc (told))
gone_of c (messages.RspDown m) left told = absurd (cc (told))
gone_of c (messages.DatDown m) left told = absurd (cc (told))

taken_of : (turns : List Turn) (at : SeenAt) (home : HomeTurn) (agent : Agent) (m : Msg) (left : State) → state_left m ≡ Some left → home_after turns at home agent m ≡ Some (answered home agent m)
taken_of turns at home agent (messages.RspUp SnpRespI) left told = refl
taken_of turns at home agent (messages.RspUp SnpRespSC) left told = refl
taken_of turns at home agent (messages.DatUp (SnpRespDataIPD words)) left told = refl
taken_of turns at home agent (messages.DatUp (SnpRespDataSCPD words)) left told = refl
taken_of turns at home agent (messages.DatUp (SnpRespDataSD words)) left told = refl
taken_of turns at home agent other left told = absurd (cc (told))

tells_of : (c : Cells) (m : Msg) (left : State) (g : FilterState) (n : ℕ) → state_left m ≡ Some left → c.rsp_up ≡ None → with_answer (answer_up (up_of (with_message (record c { snp = None }) m))) g n ≡ answered_filter m g (agent_at n)
tells_of c (messages.RspUp SnpRespI) left g n told none = refl
tells_of c (messages.RspUp SnpRespSC) left g n told none = refl
tells_of c (messages.DatUp (SnpRespDataIPD words)) left g n told none = ap (λ (r : Option RspUp). with_answer (response_answer r (Some (answers.IPD words))) g n) none
tells_of c (messages.DatUp (SnpRespDataSCPD words)) left g n told none = ap (λ (r : Option RspUp). with_answer (response_answer r (Some (answers.SCPD words))) g n) none
tells_of c (messages.DatUp (SnpRespDataSD words)) left g n told none = ap (λ (r : Option RspUp). with_answer (response_answer r (Some (answers.SD words))) g n) none
tells_of c other left g n told none = absurd (cc (told))

-- one that leaves no copy takes its sender out of the filter
invalid_answer : (state : State) (snoop : Snoop) (words : List ℕ) (f : FilterState) (agent : Agent) → invalidates (Some snoop) ≡ true → answered_filter (answer_of state snoop words).1 f agent ≡ filter_without f agent.0
invalid_answer state snoop words f agent all = search arith

pub answered_home : (last : List ℕ) (s : LineState) (served : Agent) (kind : Kind) (slot : Slot) (agent : Agent) (snoop : Snoop) (turns : List Turn) (filter : KnownFilter) (service : Service) (shown : List Bool) (requesters : List Rn) (state : State) (words : List ℕ)
    → Serves last s served kind slot → agent.0 < 8 → (cells_of s agent.0).snp ≡ Some snoop → get_or shown agent.0 false ≡ true → HomeFits (record { filter = filter; service = service }) shown (home_view s)
    → HomeLeaves turns (record { filter = filter; service = service }) agent (Some (answer_of state snoop words).1) (set shown agent.0 false)
    (home_view (record s { requesters = requesters; flits = set s.flits agent.0 (with_message (record (cells_of s agent.0) { snp = None }) (answer_of state snoop words).1) }))
answered_home last s served kind slot agent snoop turns filter service shown requesters state words k low here seen f = λ at. (
  answered home agent message,
  taken_of turns at home agent message _ (told_state state snoop words),
  record {
    long = length-set shown agent.0 false ∙ f.long;
    there = there;
    does = subst (λ (v : Serving). Does (answered_in agent service) v (answered_filter message (filter_of filter) agent) shown' v') (sym k.serving) (go service (subst (λ (v : Serving). Does service v (filter_of filter) shown (home_view s)) k.serving f.does));
  },
)
  where
    message : Msg
    message = (answer_of state snoop words).1

    home : HomeTurn
    home = record { filter = filter; service = service }

    c : Cells
    c = with_message (record (cells_of s agent.0) { snp = None }) message

    shown' : List Bool
    shown' = set shown agent.0 false

    v' : HomeView
    v' = home_view (record s { requesters = requesters; flits = set s.flits agent.0 c })

    by : snoop_of kind ≡ Some snoop
    by = (k.lanes agent.0 low).snoop_fits snoop here

    cells : get_or (set s.flits agent.0 c) agent.0 no_flits ≡ c
    cells = get_or-set_same s.flits agent.0 c no_flits (omega (arith, low, k.kept.flits))

    gone : (v'.up agent.0).snp ≡ None
    gone = ap (λ (x : Cells). x.snp) cells ∙ gone_of (cells_of s agent.0) message _ (told_state state snoop words)

    others : (m : ℕ) → m ≢ agent.0 → v'.up m ≡ up_of (cells_of s m)
    others m apart = ap up_of (get_or-set_other s.flits agent.0 m c no_flits apart)

    there : (m : ℕ) → m < 8 → get_or shown' m false ≡ true → is_some (v'.up m).snp ≡ true
    there m at seen = ⊎_elim (λ (own : m ≡ agent.0). absurd (both_ways (get_or shown' agent.0 false) (taken_out shown agent.0) (subst (λ (j : ℕ). get_or shown' j false ≡ true) own seen)))
        (λ (apart : m ≢ agent.0). ap (λ (u : Up). is_some u.snp) (others m apart) ∙ f.there m at (sym (get_or-set_other shown agent.0 m false false apart) ∙ seen)) (cases_eq m agent.0)

    awaited : is_in s.home.awaited agent.0 ≡ true
    awaited = snooped_awaited last s served kind slot agent.0 k low (ap is_some here)

    named : invalidates (snoop_of kind) ≡ true → ((m : ℕ) → m < 8 → m ≢ served.0 → is_named (filter_of filter) m ≡ is_some (cells_of s m).snp)
        → (m : ℕ) → m < 8 → m ≢ served.0 → is_named (answered_filter message (filter_of filter) agent) m ≡ is_some (v'.up m).snp
    named all was m at other =
        ap (λ (g : FilterState). is_named g m) (invalid_answer state snoop words (filter_of filter) agent (sym (ap invalidates by) ∙ all))
        ∙ ⊎_elim (λ (own : m ≡ agent.0). subst (λ (j : ℕ). is_in (others_than agent.0 filter.named) j ≡ is_some (v'.up j).snp) (sym own) (taken_out filter.named agent.0 ∙ sym (ap is_some gone)))
        (λ (apart : m ≢ agent.0). left_in agent.0 m filter.named apart ∙ (was m at other ∙ sym (ap (λ (u : Up). is_some u.snp) (others m apart)))) (cases_eq m agent.0)

    shared : shares (snoop_of kind) ≡ true → ((m : ℕ) → m < 8 → is_in s.home.awaited m ≡ true → filter_of filter ≡ with_answer (answer_up (up_of (cells_of s m))) s.home.filter m)
        → (m : ℕ) → m < 8 → is_in s.home.awaited m ≡ true → answered_filter message (filter_of filter) agent ≡ with_answer (answer_up (v'.up m)) s.home.filter m
    shared sharing was m at waits =
        let own : m ≡ agent.0 = one_asked last s served kind slot m agent.0 k sharing at low waits awaited in
        let same : filter_of filter ≡ s.home.filter = was agent.0 low awaited ∙ ap (λ (o : Option SnoopAnswer). with_answer o s.home.filter agent.0) (unanswered last s served kind slot agent.0 k low (ap is_some here)) in
        subst (λ (j : ℕ). answered_filter message (filter_of filter) agent ≡ with_answer (answer_up (v'.up j)) s.home.filter j) (sym own)
        (ap (λ (g : FilterState). answered_filter message g agent) same
        ∙ sym (ap (λ (x : Cells). with_answer (answer_up (up_of x)) s.home.filter agent.0) cells
        ∙ tells_of (cells_of s agent.0) message _ s.home.filter agent.0 (told_state state snoop words) (snoop_no_response served kind slot s.home.filter.unique s.home.filter.owner last agent.0 (lane s agent.0) snoop here (k.lanes agent.0 low))))

    marks : (group : Group) → Grouped served kind (filter_of filter) group shown (home_view s) → (m : ℕ) → m < 8 → IsMarked (v'.up m).snp (is_in group.snooped m) (is_in (set group.answered agent.0 true) m) (get_or shown' m false) (is_in s.home.awaited m)
    marks group g m at = ⊎_elim own other (cases_eq m agent.0)
      where
        mark : IsMarked (Some snoop) (is_in group.snooped agent.0) (is_in group.answered agent.0) (get_or shown agent.0 false) (is_in s.home.awaited agent.0)
        mark = subst (λ (o : Option Snoop). IsMarked o (is_in group.snooped agent.0) (is_in group.answered agent.0) (get_or shown agent.0 false) (is_in s.home.awaited agent.0)) here (g.marks agent.0 low)

        now : is_in (set group.answered agent.0 true) agent.0 ≡ true
        now = get_or-set_same group.answered agent.0 true false (omega (arith, low, g.answered_long))

        own : m ≡ agent.0 → IsMarked (v'.up m).snp (is_in group.snooped m) (is_in (set group.answered agent.0 true) m) (get_or shown' m false) (is_in s.home.awaited m)
        own is = subst (λ (j : ℕ). IsMarked (v'.up j).snp (is_in group.snooped j) (is_in (set group.answered agent.0 true) j) (get_or shown' j false) (is_in s.home.awaited j)) (sym is)
            (subst (λ (o : Option Snoop). IsMarked o (is_in group.snooped agent.0) (is_in (set group.answered agent.0 true) agent.0) (get_or shown' agent.0 false) (is_in s.home.awaited agent.0)) (sym gone) (mark.1 ∙ (seen ∙ sym now), λ waits. now))

        other : m ≢ agent.0 → IsMarked (v'.up m).snp (is_in group.snooped m) (is_in (set group.answered agent.0 true) m) (get_or shown' m false) (is_in s.home.awaited m)
        other apart = subst (λ (u : Up). IsMarked u.snp (is_in group.snooped m) (is_in (set group.answered agent.0 true) m) (get_or shown' m false) (is_in s.home.awaited m)) (sym (others m apart))
            (subst (λ (b : Bool). IsMarked (cells_of s m).snp (is_in group.snooped m) b (get_or shown' m false) (is_in s.home.awaited m)) (sym (get_or-set_other group.answered agent.0 m true false apart))
            (subst (λ (b : Bool). IsMarked (cells_of s m).snp (is_in group.snooped m) (is_in group.answered m) b (is_in s.home.awaited m)) (sym (get_or-set_other shown agent.0 m false false apart)) (g.marks m at)))

    go : (service : Service) → Does service (servings.Snooping served kind slot) (filter_of filter) shown (home_view s) → Does (answered_in agent service) (servings.Snooping served kind slot) (answered_filter message (filter_of filter) agent) shown' v'
    go services.Idle u = absurd (both_ways (get_or shown agent.0 false) (u.hidden agent.0 low) seen)
    go (services.Snooping group) g = record {
      snoop = g.snoop;
      may_be = g.may_be;
      snooped_long = g.snooped_long;
      answered_long = length-set group.answered agent.0 true ∙ g.answered_long;
      marks = marks group g;
      filter = group_filter kind served.0 (filter_of filter) (answered_filter message (filter_of filter) agent) (home_view s) v' k.by named shared g.filter;
    }
    go (services.AwaitingAck a told) d = absurd d
    go (services.AwaitingWriteData a told) d = absurd d
