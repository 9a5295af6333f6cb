-- RecvSnpResp: what it leaves of all turns, and the completion that it sends with the last answer.
use Rattle.std.proofs.Common.{◌≡◌, ◌≢◌, inl, inr, ⊎_elim, ℕ, ◌<◌, ◌||◌, Bool, true, false, nat_lt, List, length, get_or, set, Option, Some, None, is_some, refl, sym, ap, subst, ◌∙◌, if◌then◌else◌, arith, get_or-set_same, get_or-set_other}
use Rattle.std.proofs.lemmas.Bool.{cases_eq}
use Rattle.std.proofs.lemmas.List.{length-set}
use Rattle.chi_flit.specs.Kind.{snoop_of}
use Rattle.chi_flit.specs.declared.credit.Profile.{Profile}
use Rattle.chi_flit.specs.declared.kind.Kind.{Kind}
use Rattle.chi_flit.specs.declared.message.Msg.{Msg}
use Rattle.chi_flit.specs.declared.numbers.Agent.{Agent}
use Rattle.chi_flit.specs.declared.numbers.Slot.{Slot}
use Rattle.chi_filter.specs.Filter.{has_any}
use Rattle.chi_wires.specs.Cell.{no_flits, with_message, without_message}
use Rattle.chi_wires.specs.declared.cells.Cells.{Cells}
use Rattle.chi_rnline.specs.declared.pending.Pending.{Pending}
use Rattle.chi_homeline.specs.Home.{Home, answer_taken, completes_unique, completion_form, completion_of, data_to_send, finished_as, finished_sends_as, home_after_completion, waiting_of}
use Rattle.chi_homeline.specs.declared.serving.Serving.{Serving}
use Rattle.chi_homeline.specs.declared.serving.Serving.TheVariants.{Idle, Snooping, AwaitingCompAck, AwaitingWriteData}
use Rattle.chi_homeline.specs.declared.serving.SnoopAnswer.{SnoopAnswer}
use Rattle.chi_homeline.specs.declared.serving.SnoopAnswer.TheVariants as answers
use Rattle.chi_line.specs.Kept.{IsServedRight, Kept, kind_if, lane, served_kind, snoop_out, snoops_for}
use Rattle.chi_line.specs.LineState.{LineState, cells_of, rn_of}
use Rattle.chi_line.specs.Snooped.{answer_channel, completion_put}
use Rattle.chi_line.specs.Step.{answer_in, answered_by}
use Rattle.chi_line.proofs.After.{brought}
use Rattle.chi_line.proofs.WriteLanes.{answer_awaited}
use Rattle.chi_explain.specs.Sent.{busy_in, sent_of_agent, served_or}
use Rattle.chi_explain.specs.declared.observed.StoreListing.{StoreListing}
use Rattle.chi_monitor.specs.Turns.{no_turn}
use Rattle.chi_monitor.specs.declared.turns.Turn.{Turn}
use Rattle.chi_monitor.proofs.TurnFits.{Fits, GivenAt, Keeps, Place, place_in}
use Rattle.chi_monitor.proofs.TurnLanes.{SameDown, Untouched, unserved, untouched_fits}
use Rattle.chi_monitor.proofs.TurnOwn.{Finds, answered_turn, completion_answers, completion_given, completion_gives, completion_keeps, completion_place, finds}
use Rattle.chi_monitor.proofs.TurnSent.{Empties, flits_of, sends_form, sends_nothing}
use Rattle.chi_monitor.proofs.TurnSteps.{home_place, neither_home, none_of, or_home, same_slot, some_of}

-- the cells of an answer that is taken
emptied : (answer : SnoopAnswer) (c : Cells) → Empties c (without_message c (answer_channel answer))
emptied answers.I c = record { req = refl; rsp_down = refl; dat_down = refl; rsp_up = inr refl; dat_up = inl refl; snp = λ there. refl }
emptied answers.SC c = record { req = refl; rsp_down = refl; dat_down = refl; rsp_up = inr refl; dat_up = inl refl; snp = λ there. refl }
emptied (answers.IPD words) c = record { req = refl; rsp_down = refl; dat_down = refl; rsp_up = inl refl; dat_up = inr refl; snp = λ there. refl }
emptied (answers.SCPD words) c = record { req = refl; rsp_down = refl; dat_down = refl; rsp_up = inl refl; dat_up = inr refl; snp = λ there. refl }
emptied (answers.SD words) c = record { req = refl; rsp_down = refl; dat_down = refl; rsp_up = inl refl; dat_up = inr refl; snp = λ there. refl }

unchanged : (c c' : Cells) → c' ≡ c → Empties c c'
unchanged c c' e = record { req = ap (λ (x : Cells). x.req) e; rsp_down = ap (λ (x : Cells). x.rsp_down) e; dat_down = ap (λ (x : Cells). x.dat_down) e; rsp_up = inl (ap (λ (x : Cells). x.rsp_up) e); dat_up = inl (ap (λ (x : Cells). x.dat_up) e); snp = λ there. ap (λ (x : Cells). x.snp) e }

pub taken_at : (flits : List Cells) (n m : ℕ) (answer : SnoopAnswer) → m < length flits → Empties (get_or flits m no_flits) (get_or (set flits n (without_message (get_or flits n no_flits) (answer_channel answer))) m no_flits)
taken_at flits n m answer low = ⊎_elim
    (λ (own : m ≡ n). subst (λ (k : ℕ). Empties (get_or flits m no_flits) (get_or (set flits k (without_message (get_or flits k no_flits) (answer_channel answer))) m no_flits)) own
    (subst (Empties (get_or flits m no_flits)) (sym (get_or-set_same flits m (without_message (get_or flits m no_flits) (answer_channel answer)) no_flits low)) (emptied answer (get_or flits m no_flits))))
    (λ (apart : m ≢ n). unchanged _ _ (get_or-set_other flits n m _ no_flits apart))
    (cases_eq m n)

-- what a step sends on the channels of one agent, and that all turns fit behind it
pub record Turns (profile : Profile) (stores : StoreListing) (s s' : LineState) (turns : List Turn) (shown shown' : List Bool) (whose : Agent) : Type 0 where
  pub low : whose.0 < 8
  pub sent : Option Msg
  pub is : sent_of_agent whose (busy_in (cells_of s whose.0)) (cells_of s' whose.0) ≡ flits_of whose sent
  pub keeps : Keeps profile stores (get_or turns whose.0 no_turn) sent (get_or shown' whose.0 false) s'.home.serving whose.0 (lane s' whose.0)
  pub others : (m : ℕ) → m < 8 → m ≢ whose.0 → Fits stores (get_or turns m no_turn) (get_or shown' m false) s'.home.serving m (lane s' m)

abbrev pub Each : StoreListing → List Turn → List Bool → LineState → Type 0
Each stores turns shown s = (m : ℕ) → m < 8 → Fits stores (get_or turns m no_turn) (get_or shown m false) s.home.serving m (lane s m)

-- nothing is sent, and each lane is as before
quiet : (profile : Profile) (stores : StoreListing) (s s' : LineState) (turns : List Turn) (shown : List Bool) (whose : Agent) → whose.0 < 8 → Each stores turns shown s → Empties (cells_of s whose.0) (cells_of s' whose.0) → ((m : ℕ) → m < 8 → Untouched s s' m) → Turns profile stores s s' turns shown shown whose
quiet profile stores s s' turns shown whose low each empties same = record {
  low = low;
  sent = None;
  is = sends_nothing whose (cells_of s whose.0) (cells_of s' whose.0) empties;
  keeps = untouched_fits stores (get_or turns whose.0 no_turn) (get_or shown whose.0 false) s s' whose.0 (same whose.0 low) (each whose.0 low);
  others = λ m at apart. untouched_fits stores (get_or turns m no_turn) (get_or shown m false) s s' m (same m at) (each m at);
}

down_of : (c c' : Cells) → Empties c c' → SameDown c c'
down_of c c' e = record { req = e.req; rsp_down = e.rsp_down; dat_down = e.dat_down; snp = e.snp }

pub served_low : (served agent : Agent) → served.0 < 8 → (if nat_lt served.0 8 then served else agent) ≡ served
served_low served agent low = go (nat_lt served.0 8) (λ (is : nat_lt served.0 8 ≡ false). grind (arith, is, low))
  where
    go : (b : Bool) → (b ≡ false → ⊥) → (if b then served else agent) ≡ served
    go true low = refl
    go false low = absurd (low refl)

abbrev LineOf : LineState → Home → List Cells → LineState
LineOf s home flits = record s { home = home; flits = flits }

-- the last answer: the request that is served is completed
finished : (profile : Profile) (stores : StoreListing) (last : List ℕ) (s : LineState) (served : Agent) (kind : Kind) (slot : Slot) (home : Home) (flits : List Cells) (words : List ℕ) (turns : List Turn) (shown : List Bool) → s.home.serving ≡ Snooping served kind slot → served.0 < 8 → is_some (snoop_of kind) ≡ true
    → home.waiting ≡ s.home.waiting → length flits ≡ length s.flits → ((m : ℕ) → m < 8 → Empties (cells_of s m) (get_or flits m no_flits)) → Kept last s → Each stores turns shown s
    → Turns profile stores s (LineOf s (home_after_completion home kind served slot) (set flits served.0 (with_message (get_or flits served.0 no_flits) (completion_of home kind served words)))) turns shown shown served
finished profile stores last s served kind slot home flits words turns shown serving low by waits long taken k each = record {
  low = low;
  sent = Some message;
  is = subst (λ (x : Cells). sent_of_agent served (busy_in (cells_of s served.0)) x ≡ flits_of served (Some message)) (sym cells)
      (sends_form served (cells_of s served.0) (get_or flits served.0 no_flits) (completion_form kind (completes_unique kind home.filter served.0)) words (taken served.0 low) no_response no_data);
  keeps = answered_turn profile stores (get_or turns served.0 no_turn) (get_or shown served.0 false) s.home.serving (AwaitingCompAck served slot) served.0 (lane s served.0) (lane s' served.0) p.0 Place.Answered message (completion_gives kind (completes_unique kind home.filter served.0)) p.1 refl
      (home_place (cells_of s served.0).req _ _ _ unsent at_home)
      (ap (λ (x : Cells). place_in x.req (is_some (waiting_of home served.0) || false) (is_some x.dat_down) x.rsp_down) cells
      ∙ completion_place kind (completes_unique kind home.filter served.0) words (get_or flits served.0 no_flits) _ ((taken served.0 low).req ∙ unsent) (neither_home _ false (ap (λ (l : List (Option _)). is_some (get_or l served.0 None)) waits ∙ away) refl) ((taken served.0 low).dat_down ∙ no_data))
      (λ some. ap (λ (x : Cells). x.snp) cells ∙ completion_keeps kind (completes_unique kind home.filter served.0) words (cells_of s served.0) (get_or flits served.0 no_flits) (taken served.0 low).snp some)
      (λ at. subst (GivenAt (completion_gives kind (completes_unique kind home.filter served.0) at)) (sym cells)
      (completion_given kind (completes_unique kind home.filter served.0) words (get_or flits served.0 no_flits) at ((taken served.0 low).dat_down ∙ no_data) ((taken served.0 low).rsp_down ∙ no_response)))
      (λ at is. completion_answers profile stores at (get_or turns served.0 no_turn) p.0 (rn_of s served.0).state kind (completes_unique kind home.filter served.0) words by of_kind is) (each served.0 low);
  others = λ m at apart. untouched_fits stores (get_or turns m no_turn) (get_or shown m false) s s' m (untouched_by m at apart) (each m at);
}
  where
    message : Msg
    message = completion_of home kind served words

    s' : LineState
    s' = LineOf s (home_after_completion home kind served slot) (set flits served.0 (with_message (get_or flits served.0 no_flits) message))

    h : Finds last s served.0
    h = finds last s served.0 low k

    cells : cells_of s' served.0 ≡ with_message (get_or flits served.0 no_flits) message
    cells = get_or-set_same flits served.0 (with_message (get_or flits served.0 no_flits) message) no_flits (subst (λ (n : ℕ). served.0 < n) (sym long) h.flits)

    snooped : snoops_for s.home.serving served.0 ≡ true
    snooped = ap (λ (v : Serving). snoops_for v served.0) serving ∙ same_slot served.0

    at_home : (is_some (waiting_of s.home served.0) || snoops_for s.home.serving served.0) ≡ true
    at_home = or_home (is_some (waiting_of s.home served.0)) (snoops_for s.home.serving served.0) snooped

    unsent : (cells_of s served.0).req ≡ None
    unsent = none_of _ (h.apart.home_req at_home)

    no_data : (cells_of s served.0).dat_down ≡ None
    no_data = none_of _ (h.apart.home_data at_home)

    no_response : (cells_of s served.0).rsp_down ≡ None
    no_response = none_of _ (h.apart.home_rsp at_home)

    away : is_some (waiting_of s.home served.0) ≡ false
    away = h.apart.snooped_waits snooped

    p : (p : Pending) × ((rn_of s served.0).pending ≡ Some p)
    p = some_of (rn_of s served.0).pending (h.apart.home_pending at_home)

    of_kind : p.0.kind ≡ kind
    of_kind = let e : Some p.0.kind ≡ Some kind = sym (ap kind_if p.1) ∙ (h.kept.snooped_kind snooped ∙ ap served_kind serving) in cc (e)

    untouched_by : (m : ℕ) → m < 8 → m ≢ served.0 → Untouched s s' m
    untouched_by m at apart = record {
      rn = refl;
      down = subst (SameDown (cells_of s m)) (sym (get_or-set_other flits served.0 m (with_message (get_or flits served.0 no_flits) message) no_flits apart)) (down_of _ _ (taken m at));
      home = λ i. is_some (get_or (waits i) m None) || (sym (ap (λ (v : Serving). snoops_for v m) serving ∙ unserved served m apart)) i;
    }

pub answer_turns : (profile : Profile) (stores : StoreListing) (last : List ℕ) (s : LineState) (agent : Agent) (answer : SnoopAnswer) (turns : List Turn) (shown : List Bool) → agent.0 < 8 → answer_in (cells_of s agent.0) ≡ Some answer → Kept last s → Each stores turns shown s
    → Turns profile stores s (answered_by s agent answer) turns shown shown (served_or s.home.serving agent)
answer_turns profile stores last s agent answer turns shown low there k each = by_serving s.home.serving refl
  where
    taken : List Cells
    taken = set s.flits agent.0 (without_message (cells_of s agent.0) (answer_channel answer))

    home : Home
    home = answer_taken s.home agent answer

    words : List ℕ
    words = data_to_send answer s.home.memory

    empties : (m : ℕ) → m < 8 → Empties (cells_of s m) (get_or taken m no_flits)
    empties m at = taken_at s.flits agent.0 m answer (omega (arith, at, k.flits))

    same : (m : ℕ) → m < 8 → Untouched s (LineOf s home taken) m
    same m at = record { rn = refl; down = down_of _ _ (empties m at); home = refl }

    awaited : is_some (snoop_out s.home.serving) ≡ true
    awaited = (k.lanes agent.0 low).awaited_snooped
        (answer_awaited answer s.home.serving s.home.filter.unique s.home.filter.owner last agent.0 (lane s agent.0) (brought (cells_of s agent.0).rsp_up (cells_of s agent.0).dat_up answer there) (k.lanes agent.0 low))

    by_serving : (serving : Serving) → s.home.serving ≡ serving → Turns profile stores s (LineOf s (finished_as serving home) (completion_put taken (finished_sends_as serving home words))) turns shown shown (served_or serving agent)
    by_serving (Snooping served kind slot) is =
        let inside : served.0 < 8 = subst IsServedRight is k.in_range in
        subst (λ (w : Agent). Turns profile stores s (LineOf s (finished_as (Snooping served kind slot) home) (completion_put taken (finished_sends_as (Snooping served kind slot) home words))) turns shown shown w) (sym (served_low served agent inside))
        (go inside (has_any home.awaited))
      where
        go : served.0 < 8 → (b : Bool) → Turns profile stores s (LineOf s (if b then home else home_after_completion home kind served slot) (completion_put taken (if b then None else Some (record { agent = served; message = completion_of home kind served words })))) turns shown shown served
        go inside true = quiet profile stores s (LineOf s home taken) turns shown served inside each (empties served.0 inside) same
        go inside false = finished profile stores last s served kind slot home taken words turns shown is inside (subst (λ (v : Serving). is_some (snoop_out v) ≡ true) is awaited) refl (length-set s.flits agent.0 (without_message (cells_of s agent.0) (answer_channel answer))) empties k each
    by_serving Idle is = absurd (cc (subst (λ (v : Serving). is_some (snoop_out v) ≡ true) is awaited))
    by_serving (AwaitingCompAck served slot) is = absurd (cc (subst (λ (v : Serving). is_some (snoop_out v) ≡ true) is awaited))
    by_serving (AwaitingWriteData served kind slot) is = absurd (cc (subst (λ (v : Serving). is_some (snoop_out v) ≡ true) is awaited))
