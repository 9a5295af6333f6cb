-- What a step leaves of the lanes of other agents, as far as their turns go.
use Rattle.std.proofs.Common.{◌≡◌, ◌≢◌, ℕ, ◌<◌, ◌==◌, ◌||◌, Bool, true, false, List, length, get_or, set, Option, Some, None, is_some, refl, sym, ap, subst, ◌∙◌, if◌then◌else◌, arith, get_or-set_other}
use Rattle.chi_flit.specs.declared.action.Step.{Step}
use Rattle.chi_flit.specs.declared.action.Step.TheVariants as steps
use Rattle.chi_flit.specs.declared.kind.Kind.{Kind}
use Rattle.chi_flit.specs.declared.kind.Kind.TheVariants.{Evict, WriteBackFull, WriteCleanFull, WriteEvictFull}
use Rattle.chi_flit.specs.declared.message.DatUp.{DatUp}
use Rattle.chi_flit.specs.declared.message.DatUp.TheVariants.{CopyBackWrData}
use Rattle.chi_flit.specs.declared.message.RspDown.{RspDown}
use Rattle.chi_flit.specs.declared.message.RspDown.TheVariants.{CompUC, CompI}
use Rattle.chi_flit.specs.declared.numbers.Agent.{Agent}
use Rattle.chi_flit.specs.declared.numbers.Slot.{Slot}
use Rattle.chi_flit.specs.declared.snoop.Snoop.{Snoop}
use Rattle.chi_filter.specs.Filter.{has_any}
use Rattle.chi_wires.specs.Cell.{no_flits}
use Rattle.chi_wires.specs.declared.cells.Cells.{Cells}
use Rattle.chi_rnline.specs.Rn.{Rn, no_line}
use Rattle.chi_rnline.specs.declared.pending.Pending.{Pending}
use Rattle.chi_homeline.specs.Home.{Home, Started, acks_for, asks, home_after_completion, home_after_service, home_after_start, served_kind, started_as, started_sends, taken_up, waiting_of, writes_for}
use Rattle.chi_homeline.specs.Home.Started.{Sends, Evicted, Snoops}
use Rattle.chi_homeline.specs.declared.serving.Serving.{Serving}
use Rattle.chi_homeline.specs.declared.serving.Serving.TheVariants.{Idle, Snooping, AwaitingCompAck, AwaitingWriteData}
use Rattle.chi_homeline.specs.declared.serving.Waiting.{Waiting}
use Rattle.chi_line.specs.Kept.{Kept, Lane, LaneKept, is_write_data, lane, snoop_out, snoops_for}
use Rattle.chi_line.specs.LineState.{LineState, cells_of, rn_of}
use Rattle.chi_line.specs.Refused.{step_refusal}
use Rattle.chi_line.specs.Step.{admitted_line, after_step, completion_received, data_written, dbid_received_line, flits_after_start, is_ack, received_line, resent_line, retried_line, snooped_line, started_line, where_some}
use Rattle.chi_line.specs.declared.act.Conditions.{Conditions}
use Rattle.chi_line.proofs.After.{flit_there, start_allowed}
use Rattle.chi_line.proofs.Asks.{apart as differ}
use Rattle.chi_line.proofs.Finds.{acknowledge_is_awaited, idle_is, write_is_awaited}
use Rattle.chi_line.proofs.SnoopRows.{snooped_at, snooped_cells}
use Rattle.chi_explain.specs.declared.observed.StoreListing.{StoreListing}
use Rattle.chi_monitor.specs.declared.turns.Turn.{Turn}
use Rattle.chi_monitor.proofs.TurnFits.{Fits, IsAskedOf, at_home, given_same, held_same, place_in, place_of, snooped_same}

-- cells whose request and whose messages to the requester are as before
pub record SameDown (c c' : Cells) : Type 0 where
  pub req : c'.req ≡ c.req
  pub rsp_down : c'.rsp_down ≡ c.rsp_down
  pub dat_down : c'.dat_down ≡ c.dat_down
  pub snp : is_some c.snp ≡ true → c'.snp ≡ c.snp

pub same_down : (c c' : Cells) → c' ≡ c → SameDown c c'
same_down c c' e = record { req = ap (λ (x : Cells). x.req) e; rsp_down = ap (λ (x : Cells). x.rsp_down) e; dat_down = ap (λ (x : Cells). x.dat_down) e; snp = λ there. ap (λ (x : Cells). x.snp) e }

-- where no snoop is in flight
pub snooped_down : (marked : Bool) (snoop : Snoop) (c : Cells) → c.snp ≡ None → SameDown c (snooped_cells marked snoop c)
snooped_down true snoop c none = record { req = refl; rsp_down = refl; dat_down = refl; snp = λ there. absurd (cc (there, ap (λ (o : Option Snoop). is_some o) none)) }
snooped_down false snoop c none = record { req = refl; rsp_down = refl; dat_down = refl; snp = λ there. refl }

pub idle_no_snoop : (serving : Serving) (unique : Bool) (owner : Option Agent) (last : List ℕ) (n : ℕ) (x : Lane) → serving ≡ Idle → LaneKept serving unique owner last n x → x.flits.snp ≡ None
idle_no_snoop serving unique owner last n x idle k = go x.flits.snp refl
  where
    go : (o : Option Snoop) → x.flits.snp ≡ o → x.flits.snp ≡ None
    go None e = e
    go (Some snoop) e =
        let is : snoop_out serving ≡ Some snoop = k.snoop_fits snoop e in
        let none : snoop_out serving ≡ None = ap snoop_out idle in
        absurd (cc (is, none))

-- a lane as before, as far as its turn goes
pub record Untouched (s s' : LineState) (m : ℕ) : Type 0 where
  pub rn : rn_of s' m ≡ rn_of s m
  pub down : SameDown (cells_of s m) (cells_of s' m)
  pub home : at_home s'.home.serving m (lane s' m) ≡ at_home s.home.serving m (lane s m)

same_place : (c c' : Cells) (home home' : Bool) → SameDown c c' → home' ≡ home → place_in c'.req home' (is_some c'.dat_down) c'.rsp_down ≡ place_in c.req home (is_some c.dat_down) c.rsp_down
same_place c c' home home' down e = λ i. place_in (down.req i) (e i) (is_some (down.dat_down i)) (down.rsp_down i)

pub untouched_fits : (stores : StoreListing) (turn : Turn) (shown : Bool) (s s' : LineState) (m : ℕ) → Untouched s s' m → Fits stores turn shown s.home.serving m (lane s m) → Fits stores turn shown s'.home.serving m (lane s' m)
untouched_fits stores turn shown s s' m same f = record {
  asked = subst (λ (r : Rn). IsAskedOf turn.asked r.pending r.state (place_of s'.home.serving m (lane s' m))) (sym same.rn)
      (subst (IsAskedOf turn.asked (rn_of s m).pending (rn_of s m).state) (sym (same_place (cells_of s m) (cells_of s' m) _ _ same.down same.home)) f.asked);
  held = held_same stores turn turn shown (lane s m) (lane s' m) refl same.rn (λ seen. snooped_same turn.snoop (cells_of s m).snp (cells_of s' m).snp (f.held.snooped seen) same.down.snp)
      (given_same turn.given (cells_of s m) (cells_of s' m) same.down.rsp_down same.down.dat_down f.held.given) f.held;
}

pub untouched : (s : LineState) (m : ℕ) → Untouched s s m
untouched s m = record { rn = refl; down = same_down _ _ refl; home = refl }

copy_elsewhere : (s : LineState) (n m : ℕ) (r : Rn) → m ≢ n → Untouched s (record s { requesters = set s.requesters n r }) m
copy_elsewhere s n m r apart = record { rn = get_or-set_other s.requesters n m r no_line apart; down = same_down _ _ refl; home = refl }

flits_elsewhere : (s : LineState) (n m : ℕ) (c : Cells) → m ≢ n → Untouched s (record s { flits = set s.flits n c }) m
flits_elsewhere s n m c apart = record { rn = refl; down = same_down _ _ (get_or-set_other s.flits n m c no_flits apart); home = refl }

both_elsewhere : (s : LineState) (n m : ℕ) (r : Rn) (c : Cells) → m ≢ n → Untouched s (record s { requesters = set s.requesters n r; flits = set s.flits n c }) m
both_elsewhere s n m r c apart = record { rn = get_or-set_other s.requesters n m r no_line apart; down = same_down _ _ (get_or-set_other s.flits n m c no_flits apart); home = refl }

home_elsewhere : (s : LineState) (n m : ℕ) (c : Cells) (home : Home) → m ≢ n → waiting_of home m ≡ waiting_of s.home m → snoops_for home.serving m ≡ snoops_for s.home.serving m → Untouched s (record s { home = home; flits = set s.flits n c }) m
home_elsewhere s n m c home apart w v = record { rn = refl; down = same_down _ _ (get_or-set_other s.flits n m c no_flits apart); home = λ i. is_some (w i) || v i }

-- Start
pub unserved : (agent : Agent) (m : ℕ) → m ≢ agent.0 → (agent.0 == m) ≡ false
unserved agent m apart = differ agent.0 m apart

service_snoops : (kind : Kind) (home : Home) (agent : Agent) (slot : Slot) (m : ℕ) → m ≢ agent.0 → snoops_for (home_after_service home kind agent slot).serving m ≡ false
service_snoops kind home agent slot m apart = go (has_any (asks kind home.filter agent.0))
  where
    go : (b : Bool) → snoops_for (if b then record home { serving = Snooping agent kind slot; awaited = asks kind home.filter agent.0 } else home_after_completion home kind agent slot).serving m ≡ false
    go true = unserved agent m apart
    go false = refl

start_snoops : (kind : Kind) (home : Home) (agent : Agent) (slot : Slot) (m : ℕ) → m ≢ agent.0 → home.serving ≡ Idle → snoops_for (started_as kind home agent slot).serving m ≡ false
start_snoops Evict home agent slot m apart idle = ap (λ (v : Serving). snoops_for v m) idle
start_snoops WriteBackFull home agent slot m apart idle = refl
start_snoops WriteCleanFull home agent slot m apart idle = refl
start_snoops WriteEvictFull home agent slot m apart idle = refl
start_snoops served home agent slot m apart idle = service_snoops served home agent slot m apart

service_waits : (kind : Kind) (home : Home) (agent : Agent) (slot : Slot) → (home_after_service home kind agent slot).waiting ≡ home.waiting
service_waits kind home agent slot = go (has_any (asks kind home.filter agent.0))
  where
    go : (b : Bool) → (if b then record home { serving = Snooping agent kind slot; awaited = asks kind home.filter agent.0 } else home_after_completion home kind agent slot).waiting ≡ home.waiting
    go true = refl
    go false = refl

pub start_waits : (kind : Kind) (home : Home) (agent : Agent) (slot : Slot) → (started_as kind home agent slot).waiting ≡ home.waiting
start_waits Evict home agent slot = refl
start_waits WriteBackFull home agent slot = refl
start_waits WriteCleanFull home agent slot = refl
start_waits WriteEvictFull home agent slot = refl
start_waits served home agent slot = service_waits served home agent slot

start_down : (flits : List Cells) (n m : ℕ) (started : Started) → m ≢ n → m < length flits → (get_or flits m no_flits).snp ≡ None → SameDown (get_or flits m no_flits) (get_or (flits_after_start flits n started) m no_flits)
start_down flits n m (Sends message) apart low none = same_down _ _ (get_or-set_other flits n m _ no_flits apart)
start_down flits n m (Evicted slot) apart low none = same_down _ _ (get_or-set_other flits n m _ no_flits apart)
start_down flits n m (Snoops snoop agents) apart low none =
    subst (SameDown (get_or flits m no_flits)) (sym (snooped_at agents snoop flits m low)) (snooped_down (get_or agents m false) snoop (get_or flits m no_flits) none)

start_elsewhere : (s : LineState) (agent : Agent) (request : Waiting) (m : ℕ) → m ≢ agent.0 → m < length s.flits → s.home.serving ≡ Idle → (cells_of s m).snp ≡ None → Untouched s (started_line s agent request) m
start_elsewhere s agent request m apart low idle none = record {
  rn = refl;
  down = start_down s.flits agent.0 m (started_sends s.home agent request) apart low none;
  home = λ i. is_some (waits i) || snoops i;
}
  where
    waits : waiting_of (home_after_start s.home agent request) m ≡ waiting_of s.home m
    waits = ap (λ (l : List (Option Waiting)). get_or l m None) (start_waits request.kind (taken_up s.home agent.0) agent request.slot) ∙ get_or-set_other s.home.waiting agent.0 m None None apart

    snoops : snoops_for (home_after_start s.home agent request).serving m ≡ snoops_for s.home.serving m
    snoops = start_snoops request.kind (taken_up s.home agent.0) agent request.slot m apart idle ∙ sym (ap (λ (v : Serving). snoops_for v m) idle)

-- a line that awaits a CompAck or write data snoops for nobody
acked_snoops : (serving : Serving) (n m : ℕ) → acks_for serving n ≡ true → false ≡ snoops_for serving m
acked_snoops (AwaitingCompAck agent slot) n m is = refl
acked_snoops serving n m is = absurd (cc (is))

pub written_snoops : (serving : Serving) (n m : ℕ) → writes_for serving n ≡ true → false ≡ snoops_for serving m
written_snoops (AwaitingWriteData agent kind slot) n m is = refl
written_snoops serving n m is = absurd (cc (is))

pub acknowledged_snoops : (last : List ℕ) (s : LineState) (n m : ℕ) → n < 8 → is_ack (cells_of s n).rsp_up ≡ true → Kept last s → false ≡ snoops_for s.home.serving m
acknowledged_snoops last s n m low here k = acked_snoops s.home.serving n m (acknowledge_is_awaited last s n low k here)

-- a step that takes something away
pub where_untouched : {A : Type 0} (s : LineState) (m : ℕ) (there : Option A) (step : A → LineState) → ((a : A) → there ≡ Some a → Untouched s (step a) m) → Untouched s (where_some s there step) m
where_untouched s m None step each = untouched s m
where_untouched s m (Some a) step each = each a refl

completion_elsewhere : (s : LineState) (n m : ℕ) (there : Option RspDown) → m ≢ n → Untouched s (completion_received s n there) m
completion_elsewhere s n m (Some CompUC) apart = both_elsewhere s n m _ _ apart
completion_elsewhere s n m (Some CompI) apart = both_elsewhere s n m _ _ apart
completion_elsewhere s n m there apart = untouched s m

written_elsewhere : (last : List ℕ) (s : LineState) (n m : ℕ) (kind : Kind) (there : Option DatUp) → n < 8 → m ≢ n → (cells_of s n).dat_up ≡ there → Kept last s → Untouched s (data_written s n kind there) m
written_elsewhere last s n m kind (Some (CopyBackWrData form words)) low apart here k =
    home_elsewhere s n m _ _ apart refl (written_snoops s.home.serving n m (write_is_awaited last s n low k (ap is_write_data here)))
written_elsewhere last s n m kind there low apart here k = untouched s m

-- all steps but RecvSnpResp
abbrev pub is_answer_step : Step → Bool
is_answer_step steps.RecvSnpResp = true
is_answer_step other = false

pub step_elsewhere : (c : Conditions) (last : List ℕ) (s : LineState) (agent : Agent) (step : Step) (m : ℕ) → agent.0 < 8 → m < 8 → m ≢ agent.0 → is_answer_step step ≡ false → step_refusal c s agent step ≡ None → Kept last s
    → Untouched s (after_step c.profile s agent step) m
step_elsewhere c last s agent (steps.Load word) m low at apart plain may k = untouched s m
step_elsewhere c last s agent (steps.Store word value) m low at apart plain may k = copy_elsewhere s agent.0 m _ apart
step_elsewhere c last s agent steps.Drop m low at apart plain may k = copy_elsewhere s agent.0 m _ apart
step_elsewhere c last s agent (steps.Issue kind slot) m low at apart plain may k = both_elsewhere s agent.0 m _ _ apart
step_elsewhere c last s agent steps.Admit m low at apart plain may k =
    where_untouched s m (cells_of s agent.0).req (admitted_line s agent.0) (λ request here. home_elsewhere s agent.0 m _ _ apart (get_or-set_other s.home.waiting agent.0 m _ None apart) refl)
step_elsewhere c last s agent steps.Retry m low at apart plain may k =
    where_untouched s m (cells_of s agent.0).req (retried_line c.profile s agent.0) (λ request here. flits_elsewhere s agent.0 m _ apart)
step_elsewhere c last s agent steps.RecvRetry m low at apart plain may k = both_elsewhere s agent.0 m _ _ apart
step_elsewhere c last s agent steps.Resend m low at apart plain may k =
    where_untouched s m (rn_of s agent.0).pending (resent_line s agent.0) (λ request here. both_elsewhere s agent.0 m _ _ apart)
step_elsewhere c last s agent steps.Cancel m low at apart plain may k = copy_elsewhere s agent.0 m _ apart
step_elsewhere c last s agent steps.Start m low at apart plain may k =
    where_untouched s m (waiting_of s.home agent.0) (started_line s agent)
    (λ request here. start_elsewhere s agent request m apart (omega (arith, at, k.flits)) (idle_is s.home.serving (start_allowed s.home agent.0 may).idle)
    (idle_no_snoop s.home.serving s.home.filter.unique s.home.filter.owner last m (lane s m) (idle_is s.home.serving (start_allowed s.home agent.0 may).idle) (k.lanes m at)))
step_elsewhere c last s agent steps.RecvSnp m low at apart plain may k =
    where_untouched s m (cells_of s agent.0).snp (snooped_line s agent.0) (λ snoop here. both_elsewhere s agent.0 m _ _ apart)
step_elsewhere c last s agent steps.RecvSnpResp m low at apart plain may k = absurd (cc (plain))
step_elsewhere c last s agent steps.RecvData m low at apart plain may k =
    where_untouched s m (cells_of s agent.0).dat_down (received_line s agent.0) (λ message here. both_elsewhere s agent.0 m _ _ apart)
step_elsewhere c last s agent steps.RecvComp m low at apart plain may k = completion_elsewhere s agent.0 m (cells_of s agent.0).rsp_down apart
step_elsewhere c last s agent steps.RecvAck m low at apart plain may k =
    home_elsewhere s agent.0 m _ _ apart refl (acknowledged_snoops last s agent.0 m low (flit_there (is_ack (cells_of s agent.0).rsp_up) may) k)
step_elsewhere c last s agent steps.RecvDbid m low at apart plain may k =
    where_untouched s m (rn_of s agent.0).pending (λ (request : Pending). dbid_received_line s agent.0 request.kind) (λ request here. both_elsewhere s agent.0 m _ _ apart)
step_elsewhere c last s agent steps.RecvWrData m low at apart plain may k =
    where_untouched s m (served_kind s.home.serving) (λ (kind : Kind). data_written s agent.0 kind (cells_of s agent.0).dat_up)
    (λ kind here. written_elsewhere last s agent.0 m kind (cells_of s agent.0).dat_up low apart refl k)
