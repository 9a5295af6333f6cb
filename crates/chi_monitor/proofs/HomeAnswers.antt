-- What CompAcks, write data, snoops and the answers to them leave of the home's turn.
use Rattle.std.proofs.Common.{◌≡◌, ◌≢◌, ℕ, ◌<◌, Bool, true, false, List, length, get_or, set, Option, Some, None, is_some, refl, sym, ap, subst, ◌∙◌, arith, get_or-set_same}
use Rattle.std.proofs.lemmas.Bool.{both_ways}
use Rattle.chi_flit.specs.Kind.{snoop_of}
use Rattle.chi_flit.specs.Message.{no_words, write_data_of}
use Rattle.chi_flit.specs.declared.kind.Kind.{Kind}
use Rattle.chi_flit.specs.declared.kind.Kind.TheVariants.{ReadNotSharedDirty, ReadShared, ReadUnique, CleanUnique}
use Rattle.chi_flit.specs.declared.message.DatUp.{DatUp}
use Rattle.chi_flit.specs.declared.message.DatUp.TheVariants.{CopyBackWrData}
use Rattle.chi_flit.specs.declared.message.Msg.TheVariants as messages
use Rattle.chi_flit.specs.declared.message.RspUp.{RspUp}
use Rattle.chi_flit.specs.declared.message.RspUp.TheVariants.{CompAck}
use Rattle.chi_flit.specs.declared.numbers.Agent.{Agent}
use Rattle.chi_flit.specs.declared.numbers.Slot.{Slot}
use Rattle.chi_flit.specs.declared.state.State.{State}
use Rattle.chi_flit.specs.declared.state.State.TheVariants.{I}
use Rattle.chi_filter.specs.Filter.{FilterState, is_in, is_named}
use Rattle.chi_wires.specs.Cell.{no_flits}
use Rattle.chi_wires.specs.declared.cells.Cells.{Cells}
use Rattle.chi_rnline.specs.Rn.{Rn}
use Rattle.chi_homeline.specs.Home.{acks_for, asks, home_after_ack, home_after_write, leaves, served_kind, writes_for, written_filter}
use Rattle.chi_homeline.specs.declared.serving.Serving.{Serving}
use Rattle.chi_homeline.specs.declared.serving.Serving.TheVariants as servings
use Rattle.chi_homeline.specs.declared.serving.SnoopAnswer.{SnoopAnswer}
use Rattle.chi_line.specs.Kept.{IsServedRight, Kept, LaneKept, Lane, invalidates, lane, snoop_out}
use Rattle.chi_line.specs.LineState.{LineState, cells_of}
use Rattle.chi_line.specs.Step.{is_ack, is_write_data}
use Rattle.chi_line.proofs.Asks.{apart as differ, left_in}
use Rattle.chi_line.proofs.CopyKeeps.{AwaitsWrite, awaits_write, snoop_no_data, snoop_no_response}
use Rattle.chi_line.proofs.Facts.{AwaitsAck, awaits_ack}
use Rattle.chi_monitor.specs.HomeTurns.{acknowledged, filter_of, home_after, kind_of, written}
use Rattle.chi_monitor.specs.Turns.{turn_of, waiting}
use Rattle.chi_monitor.specs.declared.home_turns.HomeTurn.{HomeTurn}
use Rattle.chi_monitor.specs.declared.home_turns.Service.{Service}
use Rattle.chi_monitor.specs.declared.turns.Asked.{Asked}
use Rattle.chi_monitor.specs.declared.turns.Turn.{Turn}
use Rattle.chi_monitor.proofs.HomeFits.{Does, HomeFits, HomeLeaves, IsGroupFilter, IsQuiet, IsWriteSent, Unseen, answer_up, home_view, up_of, with_answer}
use Rattle.chi_monitor.proofs.HomeKept.{Serves, awaited_asked, other_than_served}
use Rattle.chi_monitor.proofs.HomeSteps.{acking_same, none_seen, writing_same}

-- COMPACK
pub acked_home : (last : List ℕ) (s : LineState) (agent : Agent) (turns : List Turn) (home : HomeTurn) (shown : List Bool) (requesters : List Rn) (c : Cells) → acks_for s.home.serving agent.0 ≡ true → agent.0 < length s.flits → c.rsp_up ≡ Some CompAck
    → Kept last s → HomeFits home shown (home_view s) → HomeLeaves turns home agent (Some (messages.RspUp CompAck)) shown (home_view (record s { requesters = requesters; flits = set s.flits agent.0 c }))
acked_home last s agent turns home shown requesters c acks low sent k f = λ at. (
  acknowledged home,
  refl,
  record {
    long = f.long;
    there = (λ m at seen. absurd (both_ways (get_or shown m false) (none_seen last s home shown m at (ap snoop_out is.serving_is) k f) seen));
    does = subst (λ (v : Serving). IsQuiet v (filter_of home.filter) shown (home_view (record s { requesters = requesters; flits = set s.flits agent.0 c }))) (sym is.serving_is) (
      (acking_same home.service s.home.serving is.agent is.slot (filter_of home.filter) shown (home_view s) is.serving_is f.does).0,
      ap (λ (n : ℕ). is_ack (get_or (set s.flits agent.0 c) n no_flits).rsp_up) is.agent_is ∙ (ap (λ (x : Cells). is_ack x.rsp_up) (get_or-set_same s.flits agent.0 c no_flits low) ∙ ap is_ack sent),
    );
  },
)
  where
    is : AwaitsAck s.home.serving agent.0
    is = awaits_ack s.home.serving agent.0 acks

-- RecvAck
pub ended_home : (last : List ℕ) (s : LineState) (n : ℕ) (home : HomeTurn) (shown : List Bool) (flits : List Cells) → acks_for s.home.serving n ≡ true → is_ack (cells_of s n).rsp_up ≡ true → Kept last s → HomeFits home shown (home_view s)
    → HomeFits home shown (home_view (record s { home = home_after_ack s.home; flits = flits }))
ended_home last s n home shown flits acks here k f =
    let is : AwaitsAck s.home.serving n = awaits_ack s.home.serving n acks in
    let was = acking_same home.service s.home.serving is.agent is.slot (filter_of home.filter) shown (home_view s) is.serving_is f.does in
    record {
      long = f.long;
      there = (λ m at seen. absurd (both_ways (get_or shown m false) (none_seen last s home shown m at (ap snoop_out is.serving_is) k f) seen));
      does = subst (λ (v : Service). Does v servings.Idle (filter_of home.filter) shown (home_view (record s { home = home_after_ack s.home; flits = flits }))) (sym (was.1 (ap (λ (m : ℕ). is_ack (cells_of s m).rsp_up) is.agent_is ∙ here))) was.0;
    }

-- WRITE DATA
write_words : (state : State) (words : List ℕ) → (sent : List ℕ) × (write_data_of state words ≡ CopyBackWrData state sent)
write_words I words = (no_words, refl)
write_words form words = (words, refl)

write_form : (state : State) (words : List ℕ) → (form : State) × (sent : List ℕ) × (write_data_of state words ≡ CopyBackWrData form sent)
write_form state words = let w = write_words state words in (state, w.0, w.1)

pub dbid_home : (last : List ℕ) (s : LineState) (agent : Agent) (turns : List Turn) (home : HomeTurn) (shown : List Bool) (requesters : List Rn) (c : Cells) (state : State) (words : List ℕ) (kind : Kind) → writes_for s.home.serving agent.0 ≡ true → served_kind s.home.serving ≡ Some kind
    → is_write_data (cells_of s agent.0).dat_up ≡ false → kind_of (turn_of turns agent).asked ≡ kind → agent.0 < length s.flits → c.dat_up ≡ Some (write_data_of state words)
    → Kept last s → HomeFits home shown (home_view s) → HomeLeaves turns home agent (Some (messages.DatUp (write_data_of state words))) shown (home_view (record s { requesters = requesters; flits = set s.flits agent.0 c }))
dbid_home last s agent turns home shown requesters c state words kind writes of none turn low sent k f = λ at. (
  written home agent (kind_of (turn_of turns agent).asked) form.0,
  ap (λ (d : DatUp). home_after turns at home agent (messages.DatUp d)) form.2,
  record {
    long = f.long;
    there = (λ m at seen. absurd (both_ways (get_or shown m false) (none_seen last s home shown m at (ap snoop_out is.serving_is) k f) seen));
    does = subst (λ (v : Serving). IsQuiet v after shown (home_view (record s { requesters = requesters; flits = set s.flits agent.0 c }))) (sym is.serving_is)
        (subst (λ (d : Option DatUp). IsWriteSent d is.kind is.agent.0 after s.home.filter) (sym (ap (λ (n : ℕ). (get_or (set s.flits agent.0 c) n no_flits).dat_up) is.agent_is ∙ (ap (λ (x : Cells). x.dat_up) (get_or-set_same s.flits agent.0 c no_flits low) ∙ (sent ∙ ap Some form.2))))
        (λ i. written_filter (leaves (same_kind i) form.0) (was i) (sym is.agent_is i)));
  },
)
  where
    is : AwaitsWrite s.home.serving agent.0
    is = awaits_write s.home.serving agent.0 writes

    form : (form : State) × (sent : List ℕ) × (write_data_of state words ≡ CopyBackWrData form sent)
    form = write_form state words

    after : FilterState
    after = written_filter (leaves (kind_of (turn_of turns agent).asked) form.0) (filter_of home.filter) agent.0

    was : filter_of home.filter ≡ s.home.filter
    was = (writing_same home.service s.home.serving is.agent is.kind is.slot (filter_of home.filter) shown (home_view s) is.serving_is f.does).0 (ap (λ (m : ℕ). is_write_data (cells_of s m).dat_up) is.agent_is ∙ none)

    same_kind : kind_of (turn_of turns agent).asked ≡ is.kind
    same_kind = let e : Some kind ≡ Some is.kind = sym of ∙ ap served_kind is.serving_is in turn ∙ cc (e)

-- RecvWrData
pub written_home : (last : List ℕ) (s : LineState) (n : ℕ) (home : HomeTurn) (shown : List Bool) (flits : List Cells) (kind : Kind) (form : State) (words : List ℕ) → writes_for s.home.serving n ≡ true → served_kind s.home.serving ≡ Some kind
    → (cells_of s n).dat_up ≡ Some (CopyBackWrData form words) → Kept last s → HomeFits home shown (home_view s) → HomeFits home shown (home_view (record s { home = home_after_write s.home n kind form words; flits = flits }))
written_home last s n home shown flits kind form words writes of here k f =
    let is : AwaitsWrite s.home.serving n = awaits_write s.home.serving n writes in
    let there : (cells_of s is.agent.0).dat_up ≡ Some (CopyBackWrData form words) = ap (λ (m : ℕ). (cells_of s m).dat_up) is.agent_is ∙ here in
    let was = (writing_same home.service s.home.serving is.agent is.kind is.slot (filter_of home.filter) shown (home_view s) is.serving_is f.does).1 (ap is_write_data there) in
    let e : Some is.kind ≡ Some kind = sym (ap served_kind is.serving_is) ∙ of in
    let same : is.kind ≡ kind = cc (e) in
    let left : filter_of home.filter ≡ written_filter (leaves is.kind form) s.home.filter is.agent.0 = subst (λ (d : Option DatUp). IsWriteSent d is.kind is.agent.0 (filter_of home.filter) s.home.filter) there was.1 in
    record {
      long = f.long;
      there = (λ m at seen. absurd (both_ways (get_or shown m false) (none_seen last s home shown m at (ap snoop_out is.serving_is) k f) seen));
      does = subst (λ (v : Service). Does v servings.Idle (filter_of home.filter) shown (home_view (record s { home = home_after_write s.home n kind form words; flits = flits }))) (sym was.0) (left ∙ (λ i. written_filter (leaves (same i) form) s.home.filter (is.agent_is i)));
    }

-- SNOOPS
-- a request at the home as the turns have it
pub record WaitsAs (asked : Option Asked) (kind : Kind) : Type 0 where
  pub request : Asked
  pub waits : waiting asked ≡ Some request
  pub of : request.kind ≡ kind

-- a line that snoops
pub serves : (last : List ℕ) (s : LineState) (served : Agent) (kind : Kind) (slot : Slot) → s.home.serving ≡ servings.Snooping served kind slot → is_some (snoop_of kind) ≡ true → Kept last s → Serves last s served kind slot
serves last s served kind slot is by k = record {
  kept = k;
  serving = is;
  low = subst IsServedRight is k.in_range;
  by = by;
  lanes = λ m at. subst (λ (v : Serving). LaneKept v s.home.filter.unique s.home.filter.owner last m (lane s m)) is (k.lanes m at);
}

-- a snoop in flight is of one who is awaited, and who hasn't answered
snoop_awaited : (serving : Serving) (unique : Bool) (owner : Option Agent) (last : List ℕ) (n : ℕ) (x : Lane) → is_some x.flits.snp ≡ true → LaneKept serving unique owner last n x → x.awaited ≡ true
snoop_awaited serving unique owner last n x here k = search (arith, here, k.one_answer)

some_there : {A : Type 0} (o : Option A) → is_some o ≡ true → (a : A) × (o ≡ Some a)
some_there None is = absurd (cc (is))
some_there (Some a) is = (a, refl)

pub unanswered : (last : List ℕ) (s : LineState) (served : Agent) (kind : Kind) (slot : Slot) (m : ℕ) → Serves last s served kind slot → m < 8 → is_some (cells_of s m).snp ≡ true → answer_up (up_of (cells_of s m)) ≡ None
unanswered last s served kind slot m k low here =
    let snoop = some_there (cells_of s m).snp here in
    let no_rsp : (cells_of s m).rsp_up ≡ None = snoop_no_response served kind slot s.home.filter.unique s.home.filter.owner last m (lane s m) snoop.0 snoop.1 (k.lanes m low) in
    let no_dat : (cells_of s m).dat_up ≡ None = snoop_no_data served kind slot s.home.filter.unique s.home.filter.owner last m (lane s m) snoop.0 snoop.1 (k.lanes m low) in
    λ i. answer_up (record { snp = None; rsp = no_rsp i; dat = no_dat i })

pub snooped_awaited : (last : List ℕ) (s : LineState) (served : Agent) (kind : Kind) (slot : Slot) (m : ℕ) → Serves last s served kind slot → m < 8 → is_some (cells_of s m).snp ≡ true → is_in s.home.awaited m ≡ true
snooped_awaited last s served kind slot m k low here = snoop_awaited _ s.home.filter.unique s.home.filter.owner last m (lane s m) here (k.lanes m low)

-- the request that is served asks for the snoop that is in flight, as the home's turn has the filter
pub group_asks : (last : List ℕ) (s : LineState) (served : Agent) (kind : Kind) (slot : Slot) (f : FilterState) (m : ℕ) → Serves last s served kind slot → m < 8 → is_some (cells_of s m).snp ≡ true → IsGroupFilter kind served.0 f (home_view s) → is_in (asks kind f served.0) m ≡ true
group_asks last s served kind slot f m k low here filter = go kind k filter
  where
    shared : (kind : Kind) → Serves last s served kind slot → ((m : ℕ) → m < 8 → is_in s.home.awaited m ≡ true → f ≡ with_answer (answer_up (up_of (cells_of s m))) s.home.filter m) → is_in (asks kind f served.0) m ≡ true
    shared kind k filter =
        let awaited = snooped_awaited last s served kind slot m k low here in
        let same : f ≡ s.home.filter = filter m low awaited ∙ ap (λ (o : Option SnoopAnswer). with_answer o s.home.filter m) (unanswered last s served kind slot m k low here) in
        ap (λ (g : FilterState). is_in (asks kind g served.0) m) same ∙ awaited_asked last s served kind slot m k low awaited

    go : (kind : Kind) → Serves last s served kind slot → IsGroupFilter kind served.0 f (home_view s) → is_in (asks kind f served.0) m ≡ true
    go ReadUnique k filter = let other = other_than_served last s served ReadUnique slot m k low (snooped_awaited last s served ReadUnique slot m k low here) in left_in served.0 m f.named other ∙ (filter m low other ∙ here)
    go CleanUnique k filter = let other = other_than_served last s served CleanUnique slot m k low (snooped_awaited last s served CleanUnique slot m k low here) in left_in served.0 m f.named other ∙ (filter m low other ∙ here)
    go ReadNotSharedDirty k filter = shared ReadNotSharedDirty k filter
    go ReadShared k filter = shared ReadShared k filter
    go other k filter = absurd (cc (k.by))

-- before any snoop was seen
pub first_filter : (last : List ℕ) (s : LineState) (served : Agent) (kind : Kind) (slot : Slot) (f : FilterState) (shown : List Bool) → Serves last s served kind slot → Unseen f shown (home_view s) → IsGroupFilter kind served.0 f (home_view s)
first_filter last s served kind slot f shown k u = go kind k
  where
    named : (kind : Kind) → invalidates (snoop_of kind) ≡ true → Serves last s served kind slot → (m : ℕ) → m < 8 → m ≢ served.0 → is_named f m ≡ is_some (cells_of s m).snp
    named kind all k m low other = ap (λ (g : FilterState). is_named g m) u.same ∙ by (is_some (cells_of s m).snp) refl (is_named s.home.filter m) refl
      where
        by : (b : Bool) → is_some (cells_of s m).snp ≡ b → (c : Bool) → is_named s.home.filter m ≡ c → c ≡ b
        by true here true is = refl
        by false here false is = refl
        by true here false is = absurd (both_ways (is_named s.home.filter m) is ((k.lanes m low).awaited_named (snooped_awaited last s served kind slot m k low here)))
        by false here true is = absurd (both_ways (is_some (cells_of s m).snp) here (u.in_flight m low ((k.lanes m low).others_awaited all is (differ served.0 m other))))

    shared : (kind : Kind) → Serves last s served kind slot → (m : ℕ) → m < 8 → is_in s.home.awaited m ≡ true → f ≡ with_answer (answer_up (up_of (cells_of s m))) s.home.filter m
    shared kind k m low awaited = u.same ∙ ap (λ (o : Option SnoopAnswer). with_answer o s.home.filter m) (sym (unanswered last s served kind slot m k low (u.in_flight m low awaited)))

    go : (kind : Kind) → Serves last s served kind slot → IsGroupFilter kind served.0 f (home_view s)
    go ReadUnique k = named ReadUnique refl k
    go CleanUnique k = named CleanUnique refl k
    go ReadNotSharedDirty k = shared ReadNotSharedDirty k
    go ReadShared k = shared ReadShared k
    go other k = absurd (cc (k.by))
