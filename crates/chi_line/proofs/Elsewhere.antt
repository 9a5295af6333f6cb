-- An action leaves where the other agents' requests are.
use Rattle.std.proofs.Common.{◌≡◌, ◌≢◌, ℕ, ◌<◌, List, Bool, true, false, ◌||◌, ◌==◌, Option, Some, None, length, get_or, set, refl, sym, ◌∙◌, ap, subst, if◌then◌else◌, arith, ◌⊎◌, inl, inr, ⊎_elim, get_or-set_same, get_or-set_other}
use Rattle.std.proofs.lemmas.List.{length-set}
use Rattle.std.proofs.lemmas.Bool.{cases_eq, or_left, or_right}
use Rattle.chi_flit.specs.declared.numbers.Agent.{Agent}
use Rattle.chi_flit.specs.declared.numbers.Slot.{Slot}
use Rattle.chi_flit.specs.declared.kind.Kind.{Kind}
use Rattle.chi_flit.specs.declared.kind.Kind.TheVariants.{Evict, WriteBackFull, WriteCleanFull, WriteEvictFull}
use Rattle.chi_flit.specs.declared.snoop.Snoop.{Snoop}
use Rattle.chi_flit.specs.declared.action.Step.{Step}
use Rattle.chi_flit.specs.declared.action.Step.TheVariants as steps
use Rattle.chi_flit.specs.declared.message.Request.{Request}
use Rattle.chi_flit.specs.declared.message.RspDown.{RspDown}
use Rattle.chi_flit.specs.declared.message.RspDown.TheVariants.{CompUC, CompI}
use Rattle.chi_flit.specs.declared.message.DatUp.{DatUp}
use Rattle.chi_flit.specs.declared.message.DatUp.TheVariants.{CopyBackWrData}
use Rattle.chi_flit.specs.declared.state.State.{State}
use Rattle.chi_flit.specs.Snoop.{answer_of}
use Rattle.chi_filter.specs.Filter.{has_any}
use Rattle.chi_wires.specs.declared.cells.Cells.{Cells}
use Rattle.chi_wires.specs.Cell.{without_message, no_flits, with_message}
use Rattle.chi_rnline.specs.Rn.{Rn, no_line}
use Rattle.chi_rnline.specs.declared.pending.Pending.{Pending}
use Rattle.chi_rnline.specs.declared.pending.Phase.{Phase}
use Rattle.chi_rnline.specs.declared.pending.Phase.TheVariants.{Sent, Retried}
use Rattle.chi_homeline.specs.declared.serving.CompletionForm.{CompletionForm}
use Rattle.chi_homeline.specs.declared.serving.CompletionForm.TheVariants as forms
use Rattle.chi_homeline.specs.declared.serving.Waiting.{Waiting}
use Rattle.chi_homeline.specs.declared.serving.Serving.{Serving}
use Rattle.chi_homeline.specs.declared.serving.Serving.TheVariants.{Idle, Snooping, AwaitingCompAck, AwaitingWriteData}
use Rattle.chi_homeline.specs.Home.{Started}
use Rattle.chi_homeline.specs.Home.Started.{Sends, Evicted, Snoops}
use Rattle.chi_homeline.specs.declared.serving.SnoopAnswer.{SnoopAnswer}
use Rattle.chi_homeline.specs.Home.{Home, acks_for, answer_taken, asks, completes_unique, completion_form, completion_of, data_to_send, finished_as, finished_sends_as, form_message, home_after_completion, home_after_service, served_sends, started_as, started_sends, taken_up, waiting_of}
use Rattle.chi_line.specs.declared.act.Conditions.{Conditions}
use Rattle.chi_line.specs.LineState.{LineState, rn_of, cells_of}
use Rattle.chi_line.specs.Kept.{Kept, Lane, LaneKept, is_write_data, lane, served_kind, snoops_for, writes_for}
use Rattle.chi_line.specs.Places.{is_at_home, phase_at, RequestsShown, agent_seen, sent_at, unasked_at, position_at, position_by, position_in}
use Rattle.chi_line.specs.Refused.{step_refusal}
use Rattle.chi_line.specs.Snooped.{answer_channel, completion_put}
use Rattle.chi_line.specs.Step.{admitted_line, after_step, answer_in, answered_by, completion_received, data_written, dbid_received_line, is_ack, is_slot, pending_slot, received_line, resent_line, retried_line, flits_after_start, slot_served_for, snooped_line, started_line, waiting_slot, where_some}
use Rattle.chi_line.proofs.After.{flit_there, start_allowed}
use Rattle.chi_line.proofs.Facts.{acked_for_ack}
use Rattle.chi_line.proofs.Finds.{idle_is}
use Rattle.chi_line.proofs.Keeps.{not_served}
use Rattle.chi_line.proofs.SnoopRows.{snooped_at, snooped_cells}
use Rattle.chi_line.proofs.Positions.{snooped_for}
use Rattle.chi_line.proofs.Asks.{apart as differ}

-- where a request is at the home, no response to it shows
true_last : (b : Bool) → b || true ≡ true
true_last b = search arith

home_hides_in : (p : Option Pending) (x : RequestsShown) (response : Option RspDown) (slot : Slot) → pending_slot p ≡ x.served → position_by p (record x { response = response }) slot ≡ position_by p x slot
home_hides_in None x response slot here = refl
home_hides_in (Some request) x response slot here = go (request.slot.0 == slot.0) request.phase refl
  where
    at_home : (request.slot.0 == slot.0) ≡ true → is_at_home x slot ≡ true
    at_home same = ap (λ (o : Option Slot). is_slot (waiting_slot x.waiting) slot || is_slot o slot) (sym here) ∙ (ap (λ (b : Bool). is_slot (waiting_slot x.waiting) slot || b) same ∙ true_last (is_slot (waiting_slot x.waiting) slot))

    sent_hides : (q : Option Request) → (request.slot.0 == slot.0) ≡ true → sent_at q (is_at_home x slot) response ≡ sent_at q (is_at_home x slot) x.response
    sent_hides None same = ap (λ (b : Bool). sent_at None b response) (at_home same) ∙ sym (ap (λ (b : Bool). sent_at None b x.response) (at_home same))
    sent_hides (Some q) same = refl

    go : (b : Bool) (phase : Phase) → (request.slot.0 == slot.0) ≡ b → (if b then phase_at phase (record x { response = response }) slot else unasked_at (record x { response = response }) slot) ≡ (if b then phase_at phase x slot else unasked_at x slot)
    go false phase same = refl
    go true Retried same = refl
    go true Sent same = sent_hides x.request same

home_hides : (x : RequestsShown) (response : Option RspDown) (slot : Slot) → pending_slot x.pending ≡ x.served → position_in (record x { response = response }) slot ≡ position_in x slot
home_hides x response slot here = home_hides_in x.pending x response slot here

-- what a line shows of an agent's requests, where they are as before: a response may come to one that is served
pub record Stays (s s' : LineState) (m : ℕ) : Type 0 where
  pub pending : (rn_of s' m).pending ≡ (rn_of s m).pending
  pub request : (cells_of s' m).req ≡ (cells_of s m).req
  pub response : ((cells_of s' m).rsp_down ≡ (cells_of s m).rsp_down) ⊎ (pending_slot (rn_of s m).pending ≡ slot_served_for s.home.serving m)
  pub waiting : waiting_of s'.home m ≡ waiting_of s.home m
  pub served : slot_served_for s'.home.serving m ≡ slot_served_for s.home.serving m

-- what a line shows of an agent whose parts are written
abbrev pub shown : Option Pending → Option Request → Option RspDown → Option Waiting → Option Slot → RequestsShown
shown p q r w v = record { pending = p; request = q; response = r; waiting = w; served = v }

pub same_shown : (p p' : Option Pending) (q q' : Option Request) (r r' : Option RspDown) (w w' : Option Waiting) (v v' : Option Slot) → p ≡ p' → q ≡ q' → r ≡ r' → w ≡ w' → v ≡ v' → shown p q r w v ≡ shown p' q' r' w' v'
same_shown p p' q q' r r' w w' v v' ps qs rs ws vs = cc

pub stays_where : (s s' : LineState) (m : ℕ) (slot : Slot) → Stays s s' m → position_at s' m slot ≡ position_at s m slot
stays_where s s' m slot stays =
    ap (λ (x : RequestsShown). position_in x slot) (same_shown _ _ _ _ _ _ _ _ _ _ stays.pending stays.request refl stays.waiting stays.served)
    ∙ ⊎_elim
    (λ (same : (cells_of s' m).rsp_down ≡ (cells_of s m).rsp_down). ap (λ (r : Option RspDown). position_in (record (agent_seen s m) { response = r }) slot) same)
    (λ (served : pending_slot (rn_of s m).pending ≡ slot_served_for s.home.serving m). home_hides (agent_seen s m) (cells_of s' m).rsp_down slot served)
    stays.response

-- a line of whose parts nothing of the agent is written
stays_by : (s s' : LineState) (m : ℕ) → rn_of s' m ≡ rn_of s m → cells_of s' m ≡ cells_of s m → waiting_of s'.home m ≡ waiting_of s.home m → slot_served_for s'.home.serving m ≡ slot_served_for s.home.serving m → Stays s s' m
stays_by s s' m r f w v = record {
  pending = ap (λ (x : Rn). x.pending) r;
  request = ap (λ (x : Cells). x.req) f;
  response = inl (ap (λ (x : Cells). x.rsp_down) f);
  waiting = w;
  served = v;
}

copy_written : (s : LineState) (n m : ℕ) (r : Rn) → m ≢ n → Stays s (record s { requesters = set s.requesters n r }) m
copy_written s n m r apart = stays_by s _ m (get_or-set_other s.requesters n m r no_line apart) refl refl refl

flits_written : (s : LineState) (n m : ℕ) (c : Cells) → m ≢ n → Stays s (record s { flits = set s.flits n c }) m
flits_written s n m c apart = stays_by s _ m refl (get_or-set_other s.flits n m c no_flits apart) refl refl

both_written : (s : LineState) (n m : ℕ) (r : Rn) (c : Cells) → m ≢ n → Stays s (record s { requesters = set s.requesters n r; flits = set s.flits n c }) m
both_written s n m r c apart = stays_by s _ m (get_or-set_other s.requesters n m r no_line apart) (get_or-set_other s.flits n m c no_flits apart) refl refl

home_written : (s : LineState) (n m : ℕ) (c : Cells) (home : Home) → m ≢ n → waiting_of home m ≡ waiting_of s.home m → slot_served_for home.serving m ≡ slot_served_for s.home.serving m
    → Stays s (record s { home = home; flits = set s.flits n c }) m
home_written s n m c home apart w v = stays_by s _ m refl (get_or-set_other s.flits n m c no_flits apart) w v

nothing_written : (s : LineState) (m : ℕ) → Stays s s m
nothing_written s m = stays_by s s m refl refl refl refl

-- an agent that isn't served
unserved : (b : Bool) (slot : Slot) → b ≡ false → (if b then Some slot else None) ≡ None
unserved b slot apart = ap (λ (x : Bool). if x then Some slot else None) apart

-- Start
serviced_serves : (kind : Kind) (home : Home) (agent : Agent) (slot : Slot) (m : ℕ) → m ≢ agent.0 → slot_served_for (home_after_service home kind agent slot).serving m ≡ None
serviced_serves kind home agent slot m apart = go (has_any (asks kind home.filter agent.0))
  where
    go : (b : Bool) → slot_served_for (if b then record home { serving = Snooping agent kind slot; awaited = asks kind home.filter agent.0 } else home_after_completion home kind agent slot).serving m ≡ None
    go true = unserved (agent.0 == m) slot (differ agent.0 m apart)
    go false = unserved (agent.0 == m) slot (differ agent.0 m apart)

started_serves : (kind : Kind) (home : Home) (agent : Agent) (slot : Slot) (m : ℕ) → m ≢ agent.0 → home.serving ≡ Idle → slot_served_for (started_as kind home agent slot).serving m ≡ None
started_serves Evict home agent slot m apart idle = ap (λ (v : Serving). slot_served_for v m) idle
started_serves WriteBackFull home agent slot m apart idle = unserved (agent.0 == m) slot (differ agent.0 m apart)
started_serves WriteCleanFull home agent slot m apart idle = unserved (agent.0 == m) slot (differ agent.0 m apart)
started_serves WriteEvictFull home agent slot m apart idle = unserved (agent.0 == m) slot (differ agent.0 m apart)
started_serves served home agent slot m apart idle = serviced_serves served home agent slot m apart

serviced_waits : (kind : Kind) (home : Home) (agent : Agent) (slot : Slot) → (home_after_service home kind agent slot).waiting ≡ home.waiting
serviced_waits kind home agent slot = go (has_any (asks kind home.filter agent.0))
  where
    go : (b : Bool) → (if b then record home { serving = Snooping agent kind slot; awaited = asks kind home.filter agent.0 } else home_after_completion home kind agent slot).waiting ≡ home.waiting
    go true = refl
    go false = refl

started_waits : (kind : Kind) (home : Home) (agent : Agent) (slot : Slot) → (started_as kind home agent slot).waiting ≡ home.waiting
started_waits Evict home agent slot = refl
started_waits WriteBackFull home agent slot = refl
started_waits WriteCleanFull home agent slot = refl
started_waits WriteEvictFull home agent slot = refl
started_waits served home agent slot = serviced_waits served home agent slot

-- cells that show the same of requests
pub record SameCells (c c' : Cells) : Type 0 where
  pub request : c'.req ≡ c.req
  pub response : c'.rsp_down ≡ c.rsp_down

same_cells : (c c' : Cells) → c' ≡ c → SameCells c c'
same_cells c c' same = record { request = ap (λ (x : Cells). x.req) same; response = ap (λ (x : Cells). x.rsp_down) same }

snoop_put : (marked : Bool) (snoop : Snoop) (cells : Cells) → SameCells cells (snooped_cells marked snoop cells)
snoop_put marked snoop cells = search arith

sent_elsewhere : (flits : List Cells) (n m : ℕ) (started : Started) → m ≢ n → m < length flits → SameCells (get_or flits m no_flits) (get_or (flits_after_start flits n started) m no_flits)
sent_elsewhere flits n m (Sends message) apart low = same_cells _ _ (get_or-set_other flits n m _ no_flits apart)
sent_elsewhere flits n m (Evicted slot) apart low = same_cells _ _ (get_or-set_other flits n m _ no_flits apart)
sent_elsewhere flits n m (Snoops snoop agents) apart low =
    subst (SameCells (get_or flits m no_flits)) (sym (snooped_at agents snoop flits m low)) (snoop_put (get_or agents m false) snoop (get_or flits m no_flits))

started_elsewhere : (s : LineState) (agent : Agent) (request : Waiting) (m : ℕ) → m ≢ agent.0 → m < length s.flits → s.home.serving ≡ Idle → Stays s (started_line s agent request) m
started_elsewhere s agent request m apart low idle =
    let cells : SameCells (cells_of s m) (cells_of (started_line s agent request) m) = sent_elsewhere s.flits agent.0 m (started_sends s.home agent request) apart low in
    record {
      pending = refl;
      request = cells.request;
      response = inl cells.response;
      waiting = ap (λ (l : List (Option Waiting)). get_or l m None) (started_waits request.kind (taken_up s.home agent.0) agent request.slot) ∙ get_or-set_other s.home.waiting agent.0 m None None apart;
      served = started_serves request.kind (taken_up s.home agent.0) agent request.slot m apart idle ∙ sym (ap (λ (v : Serving). slot_served_for v m) idle);
    }

-- RecvSnpResp
pub finished_serves : (serving : Serving) (home : Home) (m : ℕ) → home.serving ≡ serving → slot_served_for (finished_as serving home).serving m ≡ slot_served_for serving m
finished_serves (Snooping agent kind slot) home m is = go (has_any home.awaited)
  where
    go : (b : Bool) → slot_served_for (if b then home else home_after_completion home kind agent slot).serving m ≡ slot_served_for (Snooping agent kind slot) m
    go true = ap (λ (v : Serving). slot_served_for v m) is
    go false = refl
finished_serves serving home m is = ap (λ (v : Serving). slot_served_for v m) is

pub finished_waits : (serving : Serving) (home : Home) → (finished_as serving home).waiting ≡ home.waiting
finished_waits (Snooping agent kind slot) home = go (has_any home.awaited)
  where
    go : (b : Bool) → (if b then home else home_after_completion home kind agent slot).waiting ≡ home.waiting
    go true = refl
    go false = refl
finished_waits serving home = refl

completion_request : (form : CompletionForm) (words : List ℕ) (cells : Cells) → (with_message cells (form_message form words)).req ≡ cells.req
completion_request (forms.Data unique) words cells = refl
completion_request forms.NoData words cells = refl

-- what the start of a request that a snoop serves sends leaves the cell of requests
pub served_request : (kind : Kind) (snoop : Snoop) (home : Home) (agent : Agent) (flits : List Cells) → agent.0 < length flits
    → (get_or (flits_after_start flits agent.0 (served_sends home kind snoop agent)) agent.0 no_flits).req ≡ (get_or flits agent.0 no_flits).req
served_request kind snoop home agent flits low = go (has_any (asks kind home.filter agent.0))
  where
    go : (b : Bool) → (get_or (flits_after_start flits agent.0 (if b then Snoops snoop (asks kind home.filter agent.0) else Sends (completion_of home kind agent home.memory))) agent.0 no_flits).req ≡ (get_or flits agent.0 no_flits).req
    go true = ap (λ (c : Cells). c.req) (snooped_at (asks kind home.filter agent.0) snoop flits agent.0 low) ∙ (snoop_put (get_or (asks kind home.filter agent.0) agent.0 false) snoop (get_or flits agent.0 no_flits)).request
    go false = ap (λ (c : Cells). c.req) (get_or-set_same flits agent.0 _ no_flits low) ∙ completion_request (completion_form kind (completes_unique kind home.filter agent.0)) home.memory (get_or flits agent.0 no_flits)

-- an answer to a snoop goes up
pub answer_up : (state : State) (snoop : Snoop) (words : List ℕ) (cells : Cells) → SameCells cells (with_message (record cells { snp = None }) (answer_of state snoop words).1)
answer_up state snoop words cells = search arith

-- cells after a completion may have come to them
record Answers (serving : Serving) (m : ℕ) (c c' : Cells) : Type 0 where
  request : c'.req ≡ c.req
  response : (c'.rsp_down ≡ c.rsp_down) ⊎ (snoops_for serving m ≡ true)

put_elsewhere : (serving : Serving) (home : Home) (words : List ℕ) (flits : List Cells) (m : ℕ) → m < length flits → Answers serving m (get_or flits m no_flits) (get_or (completion_put flits (finished_sends_as serving home words)) m no_flits)
put_elsewhere (Snooping agent kind slot) home words flits m low = go (has_any home.awaited) (agent.0 == m) refl
  where
    go : (b own : Bool) → (agent.0 == m) ≡ own
        → Answers (Snooping agent kind slot) m (get_or flits m no_flits) (get_or (completion_put flits (if b then None else Some (record { agent = agent; message = completion_of home kind agent words }))) m no_flits)
    go true own is = record { request = refl; response = inl refl }
    go false true is =
        let e : agent.0 ≡ m = grind (arith, is) in
        record {
          request = subst (λ (k : ℕ). (get_or (set flits k (with_message (get_or flits k no_flits) (completion_of home kind agent words))) m no_flits).req ≡ (get_or flits m no_flits).req) (sym e)
              (ap (λ (c : Cells). c.req) (get_or-set_same flits m _ no_flits low) ∙ completion_request (completion_form kind (completes_unique kind home.filter agent.0)) words (get_or flits m no_flits));
          response = inr is;
        }
    go false false is =
        let other : get_or (set flits agent.0 (with_message (get_or flits agent.0 no_flits) (completion_of home kind agent words))) m no_flits ≡ get_or flits m no_flits = get_or-set_other flits agent.0 m _ no_flits (λ (e : m ≡ agent.0). grind (arith, is, e)) in
        record { request = ap (λ (c : Cells). c.req) other; response = inl (ap (λ (c : Cells). c.rsp_down) other) }
put_elsewhere serving home words flits m low = record { request = refl; response = inl refl }

emptied_cells : (answer : SnoopAnswer) (cells : Cells) → SameCells cells (without_message cells (answer_channel answer))
emptied_cells answer cells = search arith

-- the cells of an answer that is taken: those of its sender are emptied
taken_at : (flits : List Cells) (n m : ℕ) (answer : SnoopAnswer) → m < length flits → SameCells (get_or flits m no_flits) (get_or (set flits n (without_message (get_or flits n no_flits) (answer_channel answer))) m no_flits)
taken_at flits n m answer low = ⊎_elim
    (λ (own : m ≡ n). subst (λ (k : ℕ). SameCells (get_or flits m no_flits) (get_or (set flits k (without_message (get_or flits k no_flits) (answer_channel answer))) m no_flits)) own
    (subst (SameCells (get_or flits m no_flits)) (sym (get_or-set_same flits m (without_message (get_or flits m no_flits) (answer_channel answer)) no_flits low)) (emptied_cells answer (get_or flits m no_flits))))
    (λ (apart : m ≢ n). same_cells _ _ (get_or-set_other flits n m _ no_flits apart))
    (cases_eq m n)

pub answered_stays : (last : List ℕ) (s : LineState) (agent : Agent) (answer : SnoopAnswer) (m : ℕ) → m < 8 → Kept last s → Stays s (answered_by s agent answer) m
answered_stays last s agent answer m low k = parts
  where
    taken : List Cells
    taken = set s.flits agent.0 (without_message (cells_of s agent.0) (answer_channel answer))

    home : Home
    home = answer_taken s.home agent answer

    there : SameCells (cells_of s m) (get_or taken m no_flits)
    there = taken_at s.flits agent.0 m answer (omega (arith, low, k.flits))

    cells : Answers s.home.serving m (get_or taken m no_flits) (get_or (completion_put taken (finished_sends_as s.home.serving home (data_to_send answer s.home.memory))) m no_flits)
    cells = put_elsewhere s.home.serving home (data_to_send answer s.home.memory) taken m (omega (arith, low, k.flits, length-set s.flits agent.0 (without_message (cells_of s agent.0) (answer_channel answer))))

    parts : Stays s (answered_by s agent answer) m
    parts = record {
      pending = refl;
      request = cells.request ∙ there.request;
      response = ⊎_elim
          (λ same. inl (same ∙ there.response))
          (λ (snooped : snoops_for s.home.serving m ≡ true). inr ((k.lanes m low).snooped_slot snooped ∙ sym (snooped_for s.home.serving m snooped)))
          cells.response;
      waiting = ap (λ (l : List (Option Waiting)). get_or l m None) (finished_waits s.home.serving home);
      served = finished_serves s.home.serving home m refl;
    }

-- a step that takes something away
stays_where_some : {A : Type 0} (s : LineState) (m : ℕ) (there : Option A) (step : A → LineState) → ((a : A) → there ≡ Some a → Stays s (step a) m) → Stays s (where_some s there step) m
stays_where_some s m None step stays = nothing_written s m
stays_where_some s m (Some a) step stays = stays a refl

completion_elsewhere : (s : LineState) (n m : ℕ) (there : Option RspDown) → m ≢ n → Stays s (completion_received s n there) m
completion_elsewhere s n m (Some CompUC) apart = both_written s n m _ _ apart
completion_elsewhere s n m (Some CompI) apart = both_written s n m _ _ apart
completion_elsewhere s n m there apart = nothing_written s m

pub write_awaited : (serving : Serving) (unique : Bool) (owner : Option Agent) (last : List ℕ) (n : ℕ) (x : Lane) → is_write_data x.flits.dat_up ≡ true → LaneKept serving unique owner last n x → writes_for serving n ≡ true
write_awaited serving unique owner last n x here k = search (arith, k.one_write)

-- the agent whose CompAck or write data comes in is the one that is served
ended_elsewhere : (serving : Serving) (n m : ℕ) → m ≢ n → acks_for serving n || writes_for serving n ≡ true → None ≡ slot_served_for serving m
ended_elsewhere (AwaitingCompAck agent slot) n m apart here = sym (unserved (agent.0 == m) slot (not_served agent.0 n m (grind (arith, here)) apart))
ended_elsewhere (AwaitingWriteData agent kind slot) n m apart here = sym (unserved (agent.0 == m) slot (not_served agent.0 n m (grind (arith, here)) apart))
ended_elsewhere serving n m apart here = absurd (cc (here))

written_elsewhere : (last : List ℕ) (s : LineState) (n m : ℕ) (kind : Kind) (there : Option DatUp) → n < 8 → m ≢ n → (cells_of s n).dat_up ≡ there → Kept last s → Stays s (data_written s n kind there) m
written_elsewhere last s n m kind (Some (CopyBackWrData form words)) low apart here k =
    home_written s n m _ _ apart refl (ended_elsewhere s.home.serving n m apart (or_right (acks_for s.home.serving n) (writes_for s.home.serving n) (write_awaited s.home.serving s.home.filter.unique s.home.filter.owner last n (lane s n) (ap is_write_data here) (k.lanes n low))))
written_elsewhere last s n m kind there low apart here k = nothing_written s m

pub stays_elsewhere : (c : Conditions) (last : List ℕ) (s : LineState) (agent : Agent) (step : Step) (m : ℕ) → agent.0 < 8 → m < 8 → m ≢ agent.0 → step_refusal c s agent step ≡ None → Kept last s
    → Stays s (after_step c.profile s agent step) m
stays_elsewhere c last s agent (steps.Load word) m low at apart may k = nothing_written s m
stays_elsewhere c last s agent (steps.Store word value) m low at apart may k = copy_written s agent.0 m _ apart
stays_elsewhere c last s agent steps.Drop m low at apart may k = copy_written s agent.0 m _ apart
stays_elsewhere c last s agent (steps.Issue kind slot) m low at apart may k = both_written s agent.0 m _ _ apart
stays_elsewhere c last s agent steps.Admit m low at apart may k =
    stays_where_some s m (cells_of s agent.0).req (admitted_line s agent.0) (λ request here. home_written s agent.0 m _ _ apart (get_or-set_other s.home.waiting agent.0 m _ None apart) refl)
stays_elsewhere c last s agent steps.Retry m low at apart may k =
    stays_where_some s m (cells_of s agent.0).req (retried_line c.profile s agent.0) (λ request here. flits_written s agent.0 m _ apart)
stays_elsewhere c last s agent steps.RecvRetry m low at apart may k = both_written s agent.0 m _ _ apart
stays_elsewhere c last s agent steps.Resend m low at apart may k =
    stays_where_some s m (rn_of s agent.0).pending (resent_line s agent.0) (λ request here. both_written s agent.0 m _ _ apart)
stays_elsewhere c last s agent steps.Cancel m low at apart may k = copy_written s agent.0 m _ apart
stays_elsewhere c last s agent steps.Start m low at apart may k =
    stays_where_some s m (waiting_of s.home agent.0) (started_line s agent)
    (λ request here. started_elsewhere s agent request m apart (omega (arith, at, k.flits)) (idle_is s.home.serving (start_allowed s.home agent.0 may).idle))
stays_elsewhere c last s agent steps.RecvSnp m low at apart may k =
    stays_where_some s m (cells_of s agent.0).snp (snooped_line s agent.0) (λ snoop here. both_written s agent.0 m _ _ apart)
stays_elsewhere c last s agent steps.RecvSnpResp m low at apart may k =
    stays_where_some s m (answer_in (cells_of s agent.0)) (answered_by s agent) (λ answer here. answered_stays last s agent answer m at k)
stays_elsewhere c last s agent steps.RecvData m low at apart may k =
    stays_where_some s m (cells_of s agent.0).dat_down (received_line s agent.0) (λ message here. both_written s agent.0 m _ _ apart)
stays_elsewhere c last s agent steps.RecvComp m low at apart may k = completion_elsewhere s agent.0 m (cells_of s agent.0).rsp_down apart
stays_elsewhere c last s agent steps.RecvAck m low at apart may k =
    home_written s agent.0 m _ _ apart refl (ended_elsewhere s.home.serving agent.0 m apart (or_left (acks_for s.home.serving agent.0) (writes_for s.home.serving agent.0)
    (acked_for_ack s.home.serving s.home.filter.unique s.home.filter.owner last agent.0 (lane s agent.0) (flit_there (is_ack (cells_of s agent.0).rsp_up) may) (k.lanes agent.0 low))))
stays_elsewhere c last s agent steps.RecvDbid m low at apart may k =
    stays_where_some s m (rn_of s agent.0).pending (λ (request : Pending). dbid_received_line s agent.0 request.kind) (λ request here. both_written s agent.0 m _ _ apart)
stays_elsewhere c last s agent steps.RecvWrData m low at apart may k =
    stays_where_some s m (served_kind s.home.serving) (λ (kind : Kind). data_written s agent.0 kind (cells_of s agent.0).dat_up)
    (λ kind here. written_elsewhere last s agent.0 m kind (cells_of s agent.0).dat_up low apart refl k)
