-- What each step but the answers to snoops leaves of the home's turn.
use Rattle.std.proofs.Common.{◌≡◌, ◌≢◌, ◌⊎◌, inl, inr, ⊎_elim, ℕ, ◌<◌, ◌≤◌, Bool, true, false, not, List, length, get_or, set, Option, Some, None, is_some, refl, sym, ap, subst, ◌∙◌, if◌then◌else◌, arith, get_or-set_same, get_or-set_other}
use Rattle.std.specs.Bool.{beq}
use Rattle.std.proofs.lemmas.Bool.{both_ways, cases_eq, cases_lt}
use Rattle.std.proofs.lemmas.List.{set_past}
use Rattle.chi_flit.specs.Kind.{snoop_of}
use Rattle.chi_flit.specs.declared.credit.CreditType.{CreditType}
use Rattle.chi_flit.specs.declared.kind.Kind.{Kind}
use Rattle.chi_flit.specs.declared.kind.Kind.TheVariants.{ReadNotSharedDirty, ReadShared, ReadUnique, CleanUnique, Evict, WriteBackFull, WriteCleanFull, WriteEvictFull}
use Rattle.chi_flit.specs.declared.message.DatUp.{DatUp}
use Rattle.chi_flit.specs.declared.message.DatUp.TheVariants.{CopyBackWrData}
use Rattle.chi_flit.specs.declared.message.Msg.{Msg}
use Rattle.chi_flit.specs.declared.message.Msg.TheVariants as messages
use Rattle.chi_flit.specs.declared.message.RspDown.{RspDown}
use Rattle.chi_flit.specs.declared.message.RspDown.TheVariants.{RetryAck, CompI, CompDBIDResp}
use Rattle.chi_flit.specs.declared.numbers.Agent.{Agent}
use Rattle.chi_flit.specs.declared.numbers.Slot.{Slot}
use Rattle.chi_flit.specs.declared.snoop.Snoop.{Snoop}
use Rattle.chi_flit.specs.declared.state.State.{State}
use Rattle.chi_filter.specs.Filter.{FilterState, filter_without, has_any, is_in}
use Rattle.chi_wires.specs.Cell.{no_flits, with_message}
use Rattle.chi_wires.specs.declared.cells.Cells.{Cells}
use Rattle.chi_rnline.specs.declared.pending.Pending.{Pending}
use Rattle.chi_homeline.specs.Home.{Home, asks, completed_filter, completes_unique, completion_form, completion_message, completion_of, form_message, home_after_completion, started_as, started_sends_as, taken_up}
use Rattle.chi_homeline.specs.Home.Started.{Sends, Snoops}
use Rattle.chi_homeline.specs.declared.serving.CompletionForm.{CompletionForm}
use Rattle.chi_homeline.specs.declared.serving.CompletionForm.TheVariants as forms
use Rattle.chi_homeline.specs.declared.serving.Serving.{Serving}
use Rattle.chi_homeline.specs.declared.serving.Serving.TheVariants as servings
use Rattle.chi_homeline.specs.declared.serving.Waiting.{Waiting}
use Rattle.chi_line.specs.Kept.{Kept, LaneKept, Lane, lane, snoop_out}
use Rattle.chi_line.specs.LineState.{LineState, cells_of}
use Rattle.chi_line.specs.Step.{flits_after_start, is_ack, is_write_data}
use Rattle.chi_line.proofs.SnoopRows.{snooped_at, snooped_cells}
use Rattle.chi_explain.specs.Sent.{busy_in, sent_of_agent}
use Rattle.chi_explain.proofs.Elsewhere.{NoneNew, nothing_sent}
use Rattle.chi_monitor.specs.HomeTurns.{completed, completes, filter_of, given, home_after, is_idle, kind_of, known_filter, may_complete, read_completed}
use Rattle.chi_monitor.specs.Turns.{turn_of}
use Rattle.chi_monitor.specs.declared.faults.SeenAt.{SeenAt}
use Rattle.chi_monitor.specs.declared.filter.KnownFilter.{KnownFilter}
use Rattle.chi_monitor.specs.declared.home_turns.Group.{Group}
use Rattle.chi_monitor.specs.declared.home_turns.HomeTurn.{HomeTurn}
use Rattle.chi_monitor.specs.declared.home_turns.Service.{Service}
use Rattle.chi_monitor.specs.declared.home_turns.Service.TheVariants as services
use Rattle.chi_monitor.specs.declared.turns.Asked.{Asked}
use Rattle.chi_monitor.specs.declared.turns.Turn.{Turn}
use Rattle.chi_monitor.proofs.HomeFits.{Does, HomeFits, HomeLeaves, HomeView, IsAcking, IsGrouped, IsQuiet, IsWriteSent, IsWriting, Up, home_view, up_of}
use Rattle.chi_monitor.proofs.HomeKept.{has_some, is_not}
use Rattle.chi_monitor.proofs.TurnFits.{IsAskedAt, Place}
use Rattle.chi_monitor.proofs.TurnOwn.{StartFinds, nothing_changes, response_sent}
use Rattle.chi_monitor.proofs.TurnSent.{flits_of, sends_form}

-- what a step sends on the channels of one agent, and that the home's turn fits behind it
pub record Homed (turns : List Turn) (home : HomeTurn) (shown : List Bool) (s s' : LineState) (whose : Agent) : Type 0 where
  pub sent : Option Msg
  pub is : sent_of_agent whose (busy_in (cells_of s whose.0)) (cells_of s' whose.0) ≡ flits_of whose sent
  pub keeps : HomeLeaves turns home whose sent shown (home_view s')

pub homed_by : (turns : List Turn) (home : HomeTurn) (shown : List Bool) (s s' : LineState) (agent : Agent) (c : Cells) (sent : Option Msg) → cells_of s' agent.0 ≡ c
    → sent_of_agent agent (busy_in (cells_of s agent.0)) c ≡ flits_of agent sent → HomeLeaves turns home agent sent shown (home_view s') → Homed turns home shown s s' agent
homed_by turns home shown s s' agent c sent here is keeps = record {
  sent = sent;
  is = subst (λ (x : Cells). sent_of_agent agent (busy_in (cells_of s agent.0)) x ≡ flits_of agent sent) (sym here) is;
  keeps = keeps;
}

-- what isn't changed up
pub up_set : (flits : List Cells) (n : ℕ) (c : Cells) → up_of c ≡ up_of (get_or flits n no_flits) → (m : ℕ) → up_of (get_or (set flits n c) m no_flits) ≡ up_of (get_or flits m no_flits)
up_set flits n c same m = ⊎_elim
    (λ (own : m ≡ n). subst (λ (k : ℕ). up_of (get_or (set flits n c) k no_flits) ≡ up_of (get_or flits k no_flits)) (sym own)
    (⊎_elim (λ (low : n < length flits). ap up_of (get_or-set_same flits n c no_flits low) ∙ same)
    (λ (past : length flits ≤ n). ap (λ (l : List Cells). up_of (get_or l n no_flits)) (set_past flits n c past)) (cases_lt n (length flits))))
    (λ (apart : m ≢ n). ap up_of (get_or-set_other flits n m c no_flits apart))
    (cases_eq m n)

pub same_fits : (home : HomeTurn) (shown : List Bool) (v v' : HomeView) → v' ≡ v → HomeFits home shown v → HomeFits home shown v'
same_fits home shown v v' same f = subst (HomeFits home shown) (sym same) f

-- of a step that changes nothing up, and leaves what is served, the filter and who is awaited
pub flits_view : (s s' : LineState) (n : ℕ) (c : Cells) → s'.flits ≡ set s.flits n c → up_of c ≡ up_of (cells_of s n) → s'.home.serving ≡ s.home.serving → s'.home.filter ≡ s.home.filter → s'.home.awaited ≡ s.home.awaited
    → home_view s' ≡ home_view s
flits_view s s' n c flits same serving filter awaited = λ i. record {
  serving = serving i;
  filter = filter i;
  awaited = awaited i;
  up = λ m. (ap (λ (l : List Cells). up_of (get_or l m no_flits)) flits ∙ up_set s.flits n c same m) i;
}

-- RetryAck
pub retried_home : (turns : List Turn) (filter : KnownFilter) (service : Service) (agent : Agent) (named : CreditType) (shown : List Bool) (v : HomeView)
    → ((served : Agent) (kind : Kind) (slot : Slot) → v.serving ≡ servings.Snooping served kind slot → served.0 ≢ agent.0) → HomeFits (record { filter = filter; service = service }) shown v
    → HomeLeaves turns (record { filter = filter; service = service }) agent (Some (messages.RspDown (RetryAck named))) shown v
retried_home turns filter (services.Snooping group) agent named shown v apart f = go v.serving refl f.does
  where
    go : (serving : Serving) → v.serving ≡ serving → IsGrouped serving (filter_of filter) group shown v → HomeLeaves turns (record { filter = filter; service = services.Snooping group }) agent (Some (messages.RspDown (RetryAck named))) shown v
    go (servings.Snooping served kind slot) is g = λ at.
        let still : is_in (set group.may_be agent.0 false) served.0 ≡ true = get_or-set_other group.may_be agent.0 served.0 false false (apart served kind slot is) ∙ g.may_be in
        let left : Group = record group { may_be = set group.may_be agent.0 false } in
        let home' : HomeTurn = record { filter = filter; service = services.Snooping left } in (
          home',
          ap (λ (b : Bool). if b then Some home' else None) (has_some (set group.may_be agent.0 false) served.0 still),
          record {
            long = f.long;
            there = f.there;
            does = subst (λ (x : Serving). IsGrouped x (filter_of filter) left shown v) (sym is) (record { snoop = g.snoop; may_be = still; snooped_long = g.snooped_long; answered_long = g.answered_long; marks = g.marks; filter = g.filter });
          },
        )
    go servings.Idle is g = absurd g
    go (servings.AwaitingCompAck a slot) is g = absurd g
    go (servings.AwaitingWriteData a kind slot) is g = absurd g
retried_home turns filter service agent named shown v apart f = λ at. (record { filter = filter; service = service }, refl, f)

-- AN IDLE LINE
pub idle_quiet : (service : Service) (serving : Serving) (f : FilterState) (shown : List Bool) (v : HomeView) → serving ≡ servings.Idle → Does service serving f shown v → (service ≡ services.Idle) × (f ≡ v.filter)
idle_quiet services.Idle serving f shown v is d = (refl, subst (λ (x : Serving). IsQuiet x f shown v) is d)
idle_quiet (services.Snooping group) serving f shown v is d = absurd (subst (λ (x : Serving). IsGrouped x f group shown v) is d)
idle_quiet (services.AwaitingAck a at) serving f shown v is d = absurd (subst (λ (x : Serving). IsAcking x f v) is d)
idle_quiet (services.AwaitingWriteData a at) serving f shown v is d = absurd (subst (λ (x : Serving). IsWriting x f v) is d)

-- no snoop is in flight where none is out, and so none was seen
snoop_none : (snp : Option Snoop) → ((k : Snoop) → snp ≡ Some k → ⊥) → snp ≡ None
snoop_none None never = refl
snoop_none (Some k) never = absurd (never k refl)

pub no_snoop : (last : List ℕ) (s : LineState) (m : ℕ) → m < 8 → snoop_out s.home.serving ≡ None → Kept last s → (cells_of s m).snp ≡ None
no_snoop last s m low none k = snoop_none (cells_of s m).snp (λ snoop here. let e : None ≡ Some snoop = sym none ∙ (k.lanes m low).snoop_fits snoop here in cc (e))

pub none_seen : (last : List ℕ) (s : LineState) (home : HomeTurn) (shown : List Bool) (m : ℕ) → m < 8 → snoop_out s.home.serving ≡ None → Kept last s → HomeFits home shown (home_view s) → get_or shown m false ≡ false
none_seen last s home shown m low none k f = is_not (get_or shown m false) (λ seen. both_ways (is_some (cells_of s m).snp) (ap is_some (no_snoop last s m low none k)) (f.there m low seen))

-- beside an idle line neither a CompAck nor write data is in flight
idle_lane : (unique : Bool) (owner : Option Agent) (last : List ℕ) (n : ℕ) (x : Lane) → LaneKept servings.Idle unique owner last n x → (is_ack x.flits.rsp_up ≡ false) × (is_write_data x.flits.dat_up ≡ false)
idle_lane unique owner last n x k = (search (arith, k.one_ack), search (arith, k.one_write))

pub idle_up : (last : List ℕ) (s : LineState) (n : ℕ) → n < 8 → s.home.serving ≡ servings.Idle → Kept last s → (is_ack (cells_of s n).rsp_up ≡ false) × (is_write_data (cells_of s n).dat_up ≡ false)
idle_up last s n low idle k = idle_lane s.home.filter.unique s.home.filter.owner last n (lane s n) (subst (λ (v : Serving). LaneKept v s.home.filter.unique s.home.filter.owner last n (lane s n)) idle (k.lanes n low))

-- the kind of a request at the home, and of one whose write data is asked for
pub kind_at_home : (asked : Option Asked) (p : Pending) (state : State) → IsAskedAt asked p state Place.AtHome → kind_of asked ≡ p.kind
kind_at_home asked p state (inl is) = ap kind_of is.1
kind_at_home asked p state (inr is) = ap kind_of is.1

-- A COMPLETION that the home's turn allows
beq_same : (b : Bool) → beq b b ≡ true
beq_same true = refl
beq_same false = refl

read_may : (home : HomeTurn) (at : SeenAt) (agent : Agent) (asked : Option Asked) (kind : Kind) (unique : Bool) → kind_of asked ≡ kind → unique ≡ completes home agent kind → may_complete home.filter agent kind home.service ≡ true
    → read_completed home at agent (kind_of asked) unique ≡ Some (given home at agent kind)
read_may home at agent asked kind unique of same may =
    ap (λ (k : Kind). read_completed home at agent k unique) of
    ∙ (ap (λ (b : Bool). if beq b (completes home agent kind) then completed home at agent kind else None) same
    ∙ (ap (λ (b : Bool). if b then completed home at agent kind else None) (beq_same (completes home agent kind)) ∙ ap (λ (b : Bool). if b then Some (given home at agent kind) else None) may))

pub completion_may : (turns : List Turn) (home : HomeTurn) (at : SeenAt) (agent : Agent) (kind : Kind) (unique : Bool) (words : List ℕ) → is_some (snoop_of kind) ≡ true → kind_of (turn_of turns agent).asked ≡ kind → unique ≡ completes home agent kind
    → may_complete home.filter agent kind home.service ≡ true → home_after turns at home agent (completion_message kind unique words) ≡ Some (given home at agent kind)
completion_may turns home at agent ReadNotSharedDirty unique words by of same may = read_may home at agent (turn_of turns agent).asked ReadNotSharedDirty unique of same may
completion_may turns home at agent ReadShared unique words by of same may = read_may home at agent (turn_of turns agent).asked ReadShared unique of same may
completion_may turns home at agent ReadUnique unique words by of same may = read_may home at agent (turn_of turns agent).asked ReadUnique unique of same may
completion_may turns home at agent CleanUnique unique words by of same may = ap (λ (b : Bool). if b then Some (given home at agent CleanUnique) else None) may
completion_may turns home at agent other unique words by of same may = absurd (cc (by))

pub form_up : (form : CompletionForm) (words : List ℕ) (c : Cells) → up_of (with_message c (form_message form words)) ≡ up_of c
form_up (forms.Data unique) words c = refl
form_up forms.NoData words c = refl

-- START
pub record StartHome (last : List ℕ) (s : LineState) (agent : Agent) (request : Waiting) (turns : List Turn) (home : HomeTurn) (shown : List Bool) : Type 0 where
  pub finds : StartFinds last s agent request
  pub kept : Kept last s
  pub turn : kind_of (turn_of turns agent).asked ≡ request.kind
  pub quiet : home.service ≡ services.Idle
  pub same : filter_of home.filter ≡ s.home.filter
  pub long : length shown ≡ 8
  pub hidden : (m : ℕ) → m < 8 → get_or shown m false ≡ false

-- one response is sent, and the home is left so
start_responds : (last : List ℕ) (s : LineState) (agent : Agent) (request : Waiting) (turns : List Turn) (home : HomeTurn) (shown : List Bool) (home' : Home) (m : RspDown) (turn' : SeenAt → HomeTurn) → StartHome last s agent request turns home shown
    → ((at : SeenAt) → home_after turns at home agent (messages.RspDown m) ≡ Some (turn' at))
    → ((at : SeenAt) → Does (turn' at).service home'.serving (filter_of (turn' at).filter) shown (home_view (record s { home = home'; flits = set s.flits agent.0 (with_message (cells_of s agent.0) (messages.RspDown m)) })))
    → Homed turns home shown s (record s { home = home'; flits = set s.flits agent.0 (with_message (cells_of s agent.0) (messages.RspDown m)) }) agent
start_responds last s agent request turns home shown home' m turn' h may does =
    homed_by turns home shown s _ agent (with_message (cells_of s agent.0) (messages.RspDown m)) (Some (messages.RspDown m)) (get_or-set_same s.flits agent.0 _ no_flits h.finds.finds.flits)
    (response_sent agent (cells_of s agent.0) m h.finds.no_response)
    (λ at. (turn' at, may at, record { long = h.long; there = (λ m low seen. absurd (both_ways (get_or shown m false) (h.hidden m low) seen)); does = does at }))

started_evict : (last : List ℕ) (s : LineState) (agent : Agent) (request : Waiting) (turns : List Turn) (home : HomeTurn) (shown : List Bool) → StartHome last s agent request turns home shown
    → Homed turns home shown s (record s { home = started_as Evict (taken_up s.home agent.0) agent request.slot; flits = set s.flits agent.0 (with_message (cells_of s agent.0) (messages.RspDown CompI)) }) agent
started_evict last s agent request turns home shown h =
    let left : HomeTurn = record home { filter = known_filter (filter_without (filter_of home.filter) agent.0) } in
    let view : HomeView = home_view (record s { home = started_as Evict (taken_up s.home agent.0) agent request.slot; flits = set s.flits agent.0 (with_message (cells_of s agent.0) (messages.RspDown CompI)) }) in
    start_responds last s agent request turns home shown (started_as Evict (taken_up s.home agent.0) agent request.slot) CompI (λ at. left) h (λ at. ap (λ (v : Service). if is_idle v then Some left else None) h.quiet)
    (λ at. subst (λ (v : Service). Does v s.home.serving (filter_of left.filter) shown view) (sym h.quiet)
    (subst (λ (v : Serving). IsQuiet v (filter_of left.filter) shown view) (sym h.finds.idle) (ap (λ (g : FilterState). filter_without g agent.0) h.same)))

started_write : (last : List ℕ) (s : LineState) (agent : Agent) (request : Waiting) (turns : List Turn) (home : HomeTurn) (shown : List Bool) (kind : Kind) → StartHome last s agent request turns home shown
    → Homed turns home shown s (record s { home = record (taken_up s.home agent.0) { serving = servings.AwaitingWriteData agent kind request.slot }; flits = set s.flits agent.0 (with_message (cells_of s agent.0) (messages.RspDown CompDBIDResp)) }) agent
started_write last s agent request turns home shown kind h =
    let c : Cells = with_message (cells_of s agent.0) (messages.RspDown CompDBIDResp) in
    let left : SeenAt → HomeTurn = λ at. record home { service = services.AwaitingWriteData agent at } in
    start_responds last s agent request turns home shown (record (taken_up s.home agent.0) { serving = servings.AwaitingWriteData agent kind request.slot }) CompDBIDResp left h (λ at. ap (λ (v : Service). if is_idle v then Some (left at) else None) h.quiet)
    (λ at. (h.same, ap (λ (u : Up). is_write_data u.dat) (up_set s.flits agent.0 c refl agent.0) ∙ (idle_up last s agent.0 h.finds.finds.low h.finds.idle h.kept).1))

-- a kind that a snoop serves
started_service : (last : List ℕ) (s : LineState) (agent : Agent) (request : Waiting) (turns : List Turn) (home : HomeTurn) (shown : List Bool) (kind : Kind) (snoop : Snoop) → request.kind ≡ kind → is_some (snoop_of kind) ≡ true → StartHome last s agent request turns home shown
    → (b : Bool) → has_any (asks kind s.home.filter agent.0) ≡ b
    → Homed turns home shown s (record s {
      home = if b then record (taken_up s.home agent.0) { serving = servings.Snooping agent kind request.slot; awaited = asks kind s.home.filter agent.0 } else home_after_completion (taken_up s.home agent.0) kind agent request.slot;
      flits = flits_after_start s.flits agent.0 (if b then Snoops snoop (asks kind s.home.filter agent.0) else Sends (completion_of s.home kind agent s.home.memory));
    }) agent
started_service last s agent request turns home shown kind snoop of by h true asked =
    homed_by turns home shown s _ agent (snooped_cells (get_or (asks kind s.home.filter agent.0) agent.0 false) snoop (cells_of s agent.0)) None
    (snooped_at (asks kind s.home.filter agent.0) snoop s.flits agent.0 h.finds.finds.flits)
    (nothing_sent agent (cells_of s agent.0) (snooped_cells (get_or (asks kind s.home.filter agent.0) agent.0 false) snoop (cells_of s agent.0)) (empties (get_or (asks kind s.home.filter agent.0) agent.0 false) (cells_of s agent.0)))
    (record {
      long = h.long;
      there = (λ m low seen. absurd (both_ways (get_or shown m false) (h.hidden m low) seen));
      does = subst (λ (v : Service). Does v (servings.Snooping agent kind request.slot) (filter_of home.filter) shown view) (sym h.quiet)
          (record {
            same = h.same;
            hidden = h.hidden;
            in_flight = λ m low here. ap (λ (c : Cells). is_some c.snp) (snooped_at (asks kind s.home.filter agent.0) snoop s.flits m (omega (arith, low, h.kept.flits)))
                ∙ marked (get_or (asks kind s.home.filter agent.0) m false) here (get_or s.flits m no_flits);
          });
    })
  where
    view : HomeView
    view = home_view (record s { home = record (taken_up s.home agent.0) { serving = servings.Snooping agent kind request.slot; awaited = asks kind s.home.filter agent.0 }; flits = flits_after_start s.flits agent.0 (Snoops snoop (asks kind s.home.filter agent.0)) })

    empties : (marked : Bool) (c : Cells) → NoneNew c (snooped_cells marked snoop c)
    empties true c = record { req = inl refl; rsp_down = inl refl; dat_down = inl refl; rsp_up = inl refl; dat_up = inl refl }
    empties false c = record { req = inl refl; rsp_down = inl refl; dat_down = inl refl; rsp_up = inl refl; dat_up = inl refl }

    marked : (b : Bool) → b ≡ true → (c : Cells) → is_some (snooped_cells b snoop c).snp ≡ true
    marked true is c = refl
    marked false is c = absurd (cc (is))
started_service last s agent request turns home shown kind snoop of by h false asked =
    homed_by turns home shown s _ agent (with_message (cells_of s agent.0) message) (Some message) (get_or-set_same s.flits agent.0 _ no_flits h.finds.finds.flits)
    (sends_form agent (cells_of s agent.0) (cells_of s agent.0) form s.home.memory (nothing_changes (cells_of s agent.0)) h.finds.no_response h.finds.no_data)
    (λ at. (
      given home at agent kind,
      completion_may turns home at agent kind (completes_unique kind s.home.filter agent.0) s.home.memory by (h.turn ∙ of) (ap (λ (g : FilterState). completes_unique kind g agent.0) (sym h.same))
          (ap (λ (v : Service). may_complete home.filter agent kind v) h.quiet ∙ ap (λ (g : FilterState). not (has_any (asks kind g agent.0))) h.same ∙ ap not asked),
      record {
        long = h.long;
        there = (λ m low seen. absurd (both_ways (get_or shown m false) (h.hidden m low) seen));
        does = (
          ap (λ (g : FilterState). completed_filter (completes_unique kind g agent.0) g agent.0) h.same,
          ap (λ (u : Up). is_ack u.rsp) (up_set s.flits agent.0 (with_message (cells_of s agent.0) message) (form_up form s.home.memory (cells_of s agent.0)) agent.0) ∙ (idle_up last s agent.0 h.finds.finds.low h.finds.idle h.kept).0,
        );
      },
    ))
  where
    form : CompletionForm
    form = completion_form kind (completes_unique kind s.home.filter agent.0)

    message : Msg
    message = form_message form s.home.memory

pub started_home : (last : List ℕ) (s : LineState) (agent : Agent) (request : Waiting) (turns : List Turn) (home : HomeTurn) (shown : List Bool) (kind : Kind) → request.kind ≡ kind → StartHome last s agent request turns home shown
    → Homed turns home shown s (record s { home = started_as kind (taken_up s.home agent.0) agent request.slot; flits = flits_after_start s.flits agent.0 (started_sends_as kind (snoop_of kind) s.home agent request.slot) }) agent
started_home last s agent request turns home shown ReadNotSharedDirty of h = started_service last s agent request turns home shown ReadNotSharedDirty _ of refl h (has_any (asks ReadNotSharedDirty s.home.filter agent.0)) refl
started_home last s agent request turns home shown ReadShared of h = started_service last s agent request turns home shown ReadShared _ of refl h (has_any (asks ReadShared s.home.filter agent.0)) refl
started_home last s agent request turns home shown ReadUnique of h = started_service last s agent request turns home shown ReadUnique _ of refl h (has_any (asks ReadUnique s.home.filter agent.0)) refl
started_home last s agent request turns home shown CleanUnique of h = started_service last s agent request turns home shown CleanUnique _ of refl h (has_any (asks CleanUnique s.home.filter agent.0)) refl
started_home last s agent request turns home shown Evict of h = started_evict last s agent request turns home shown h
started_home last s agent request turns home shown WriteBackFull of h = started_write last s agent request turns home shown WriteBackFull h
started_home last s agent request turns home shown WriteCleanFull of h = started_write last s agent request turns home shown WriteCleanFull h
started_home last s agent request turns home shown WriteEvictFull of h = started_write last s agent request turns home shown WriteEvictFull h

-- COMPACK AND WRITE DATA
-- while a CompAck is awaited the filter is known
pub acking_same : (service : Service) (serving : Serving) (agent : Agent) (slot : Slot) (f : FilterState) (shown : List Bool) (v : HomeView) → serving ≡ servings.AwaitingCompAck agent slot → Does service serving f shown v
    → (f ≡ v.filter) × (is_ack (v.up agent.0).rsp ≡ true → service ≡ services.Idle)
acking_same services.Idle serving agent slot f shown v is d = let q = subst (λ (x : Serving). IsQuiet x f shown v) is d in (q.0, λ sent. refl)
acking_same (services.Snooping group) serving agent slot f shown v is d = absurd (subst (λ (x : Serving). IsGrouped x f group shown v) is d)
acking_same (services.AwaitingAck a at) serving agent slot f shown v is d = let q = subst (λ (x : Serving). IsAcking x f v) is d in (q.0, λ sent. absurd (both_ways (is_ack (v.up agent.0).rsp) q.1 sent))
acking_same (services.AwaitingWriteData a at) serving agent slot f shown v is d = absurd (subst (λ (x : Serving). IsWriting x f v) is d)

-- while write data is awaited it is so before it is in flight
write_sent : (dat : Option DatUp) (kind : Kind) (n : ℕ) (f g : FilterState) → IsWriteSent dat kind n f g → is_write_data dat ≡ true
write_sent (Some (CopyBackWrData form words)) kind n f g is = refl
write_sent other kind n f g is = absurd is

pub writing_same : (service : Service) (serving : Serving) (agent : Agent) (kind : Kind) (slot : Slot) (f : FilterState) (shown : List Bool) (v : HomeView) → serving ≡ servings.AwaitingWriteData agent kind slot → Does service serving f shown v
    → (is_write_data (v.up agent.0).dat ≡ false → f ≡ v.filter) × (is_write_data (v.up agent.0).dat ≡ true → (service ≡ services.Idle) × IsWriteSent (v.up agent.0).dat kind agent.0 f v.filter)
writing_same services.Idle serving agent kind slot f shown v is d =
    let q = subst (λ (x : Serving). IsQuiet x f shown v) is d in
    (λ none. absurd (both_ways (is_write_data (v.up agent.0).dat) none (write_sent (v.up agent.0).dat kind agent.0 f v.filter q)), λ sent. (refl, q))
writing_same (services.Snooping group) serving agent kind slot f shown v is d = absurd (subst (λ (x : Serving). IsGrouped x f group shown v) is d)
writing_same (services.AwaitingAck a at) serving agent kind slot f shown v is d = absurd (subst (λ (x : Serving). IsAcking x f v) is d)
writing_same (services.AwaitingWriteData a at) serving agent kind slot f shown v is d =
    let q = subst (λ (x : Serving). IsWriting x f v) is d in (λ none. q.0, λ sent. absurd (both_ways (is_write_data (v.up agent.0).dat) q.1 sent))
