-- RecvSnp, RecvComp and RecvDbid keep what a line keeps.
use Rattle.std.proofs.Common.{◌≡◌, ℕ, ◌<◌, List, Bool, true, false, Option, Some, None, is_some, arith, refl, sym, subst, ap}
use Rattle.chi_flit.specs.declared.numbers.Agent.{Agent}
use Rattle.chi_flit.specs.declared.numbers.Slot.{Slot}
use Rattle.chi_flit.specs.declared.state.State.{State}
use Rattle.chi_flit.specs.declared.kind.Kind.{Kind}
use Rattle.chi_flit.specs.declared.snoop.Snoop.{Snoop}
use Rattle.chi_flit.specs.declared.message.RspUp.TheVariants.{CompAck}
use Rattle.chi_flit.specs.declared.message.RspDown.TheVariants.{CompUC, CompDBIDResp}
use Rattle.chi_flit.specs.declared.message.DatUp.{DatUp}
use Rattle.chi_flit.specs.declared.message.DatUp.TheVariants.{CopyBackWrData}
use Rattle.chi_flit.specs.Message.{write_data_of}
use Rattle.chi_flit.specs.Snoop.{answer_of}
use Rattle.chi_flit.specs.State.{is_dirty}
use Rattle.chi_wires.specs.declared.cells.Cells.{Cells}
use Rattle.chi_wires.specs.Cell.{with_message}
use Rattle.chi_rnline.specs.Rn.{rn_after_comp, rn_after_snoop, rn_after_dbid, state_after_comp, state_after_write}
use Rattle.chi_homeline.specs.declared.serving.Serving.{Serving}
use Rattle.chi_homeline.specs.declared.serving.Serving.TheVariants.{Snooping, AwaitingWriteData}
use Rattle.chi_homeline.specs.Home.{acks_for}
use Rattle.chi_line.specs.LineState.{LineState, rn_of, cells_of}
use Rattle.chi_line.specs.Clean.{passes_dirty}
use Rattle.chi_line.specs.Kept.{Lane, LaneKept, Kept, kind_if, lane, snoop_out, writes_for}
use Rattle.chi_line.specs.Step.{snooped_line, comp_received_line, dbid_received_line}
use Rattle.chi_line.proofs.Frame.{kept_by}
use Rattle.chi_line.proofs.Facts.{AwaitsAck, awaits_ack}
use Rattle.chi_line.proofs.CopyLanes.{snoop_lane, comp_received_lane, dbid_received_lane}
use Rattle.chi_line.proofs.CopyTables.{AnswerRow, answer_row, rsp_of, dat_of, with_up, comp_is, words_sent, write_data_is, write_is}

-- a line that snoops
pub record IsSnooping (serving : Serving) : Type 0 where
  pub agent : Agent
  pub kind : Kind
  pub slot : Slot
  pub serving_is : serving ≡ Snooping agent kind slot

pub is_snooping : (serving : Serving) → is_some (snoop_out serving) ≡ true → IsSnooping serving
is_snooping (Snooping agent kind slot) e = record { agent = agent; kind = kind; slot = slot; serving_is = refl }
is_snooping serving e = absurd cc

-- a line that awaits the write data of n
pub record AwaitsWrite (serving : Serving) (n : ℕ) : Type 0 where
  pub agent : Agent
  pub kind : Kind
  pub slot : Slot
  pub serving_is : serving ≡ AwaitingWriteData agent kind slot
  pub agent_is : agent.0 ≡ n

pub awaits_write : (serving : Serving) (n : ℕ) → writes_for serving n ≡ true → AwaitsWrite serving n
awaits_write (AwaitingWriteData agent kind slot) n e = record { agent = agent; kind = kind; slot = slot; serving_is = refl; agent_is = grind arith }
awaits_write serving n e = absurd cc

-- beside a snoop in flight nothing is in flight up
pub snoop_no_response : (agent : Agent) (kind : Kind) (slot : Slot) (unique : Bool) (owner : Option Agent) (last : List ℕ) (n : ℕ) (x : Lane) (snoop : Snoop)
    → x.flits.snp ≡ Some snoop → LaneKept (Snooping agent kind slot) unique owner last n x → x.flits.rsp_up ≡ None
snoop_no_response agent kind slot unique owner last n x snoop here k = search (arith, k.one_answer, k.one_ack)

pub snoop_no_data : (agent : Agent) (kind : Kind) (slot : Slot) (unique : Bool) (owner : Option Agent) (last : List ℕ) (n : ℕ) (x : Lane) (snoop : Snoop)
    → x.flits.snp ≡ Some snoop → LaneKept (Snooping agent kind slot) unique owner last n x → x.flits.dat_up ≡ None
snoop_no_data agent kind slot unique owner last n x snoop here k = search (arith, k.one_answer, k.one_write)

-- beside CompDBIDResp in flight no data is in flight up
pub dbid_no_data : (agent : Agent) (kind : Kind) (slot : Slot) (unique : Bool) (owner : Option Agent) (last : List ℕ) (n : ℕ) (x : Lane)
    → x.flits.rsp_down ≡ Some CompDBIDResp → LaneKept (AwaitingWriteData agent kind slot) unique owner last n x → x.flits.dat_up ≡ None
dbid_no_data agent kind slot unique owner last n x here k = search (arith, k.one_answer, k.one_write, k.awaited_snooped)

-- RecvSnp
pub kept_snooped : (last : List ℕ) (s : LineState) (n : ℕ) (snoop : Snoop) → n < 8
    → (cells_of s n).snp ≡ Some snoop → Kept last s → Kept last (snooped_line s n snoop)
kept_snooped last s n snoop low here k =
    let snooping : IsSnooping s.home.serving = is_snooping s.home.serving (ap is_some ((k.lanes n low).snoop_fits snoop here)) in
    let row : AnswerRow (rn_of s n).state snoop (rn_of s n).words (answer_of (rn_of s n).state snoop (rn_of s n).words) = answer_row (rn_of s n).state snoop (rn_of s n).words in
    let unique = s.home.filter.unique in
    let owner = s.home.filter.owner in
    let rn = rn_of s n in
    let answer = answer_of rn.state snoop rn.words in
    let before : LaneKept (Snooping snooping.agent snooping.kind snooping.slot) unique owner last n (lane s n) =
    subst (λ v. LaneKept v unique owner last n (lane s n)) snooping.serving_is (k.lanes n low) in
    let no_rsp : (cells_of s n).rsp_up ≡ None = snoop_no_response snooping.agent snooping.kind snooping.slot unique owner last n (lane s n) snoop here before in
    let no_dat : (cells_of s n).dat_up ≡ None = snoop_no_data snooping.agent snooping.kind snooping.slot unique owner last n (lane s n) snoop here before in
    let cells : with_message (record (cells_of s n) { snp = None }) answer.1 ≡ record (cells_of s n) { snp = None; rsp_up = rsp_of answer.1; dat_up = dat_of answer.1 } =
    with_up (record (cells_of s n) { snp = None }) answer.1 row.1 no_rsp no_dat in
    kept_by last s n (rn_after_snoop rn snoop) (with_message (record (cells_of s n) { snp = None }) answer.1) low k
    (subst (λ v. LaneKept v unique owner last n (record (lane s n) { rn = rn_after_snoop rn snoop; flits = with_message (record (cells_of s n) { snp = None }) answer.1 })) (sym snooping.serving_is)
    (subst (λ c. LaneKept (Snooping snooping.agent snooping.kind snooping.slot) unique owner last n (record (lane s n) { rn = rn_after_snoop rn snoop; flits = c })) (sym cells)
    (snoop_lane snooping.agent snooping.kind snooping.slot unique owner last n (lane s n) snoop answer.0 (rsp_of answer.1) (dat_of answer.1) here row.0 before)))
    (λ clean. record {
      copy = row.0.stays_dirty clean.copy (subst (λ (c : Cells). passes_dirty c.dat_up ≡ false) cells clean.on_its_way);
      on_its_way = ap passes_dirty no_dat;
    })

-- RecvComp of Comp_UC
comp_acked : (serving : Serving) (unique : Bool) (owner : Option Agent) (last : List ℕ) (n : ℕ) (x : Lane)
    → x.flits.rsp_down ≡ Some CompUC → LaneKept serving unique owner last n x → acks_for serving n ≡ true
comp_acked serving unique owner last n x here k = search (arith, k.one_ack)

comp_stays_dirty : (state : State) → is_dirty (state_after_comp state) ≡ false → is_dirty state ≡ false
comp_stays_dirty state clean = search arith

pub kept_comp_received : (last : List ℕ) (s : LineState) (n : ℕ) → n < 8
    → (cells_of s n).rsp_down ≡ Some CompUC → Kept last s → Kept last (comp_received_line s n)
kept_comp_received last s n low here k =
    let awaits : AwaitsAck s.home.serving n = awaits_ack s.home.serving n (comp_acked s.home.serving s.home.filter.unique s.home.filter.owner last n (lane s n) here (k.lanes n low)) in
    let unique = s.home.filter.unique in
    let owner = s.home.filter.owner in
    kept_by last s n _ _ low k
    (subst (λ v. LaneKept v unique owner last n (record (lane s n) { rn = rn_after_comp (rn_of s n); flits = record (cells_of s n) { rsp_down = None; rsp_up = Some CompAck } })) (sym awaits.serving_is)
    (comp_received_lane awaits.agent awaits.slot unique owner last n (lane s n) (state_after_comp (rn_of s n).state) here (comp_is (rn_of s n).state)
    (subst (λ v. LaneKept v unique owner last n (lane s n)) awaits.serving_is (k.lanes n low))))
    (λ clean. record { copy = comp_stays_dirty (rn_of s n).state clean.copy; on_its_way = clean.on_its_way })

-- RecvDbid
pub dbid_written : (serving : Serving) (unique : Bool) (owner : Option Agent) (last : List ℕ) (n : ℕ) (x : Lane)
    → x.flits.rsp_down ≡ Some CompDBIDResp → LaneKept serving unique owner last n x → writes_for serving n ≡ true
dbid_written serving unique owner last n x here k = search (arith, k.one_write)

-- the kind that is pending is the one that is served
dbid_kind_is : (agent : Agent) (served kind : Kind) (slot : Slot) (unique : Bool) (owner : Option Agent) (last : List ℕ) (n : ℕ) (x : Lane)
    → x.flits.rsp_down ≡ Some CompDBIDResp → kind_if x.rn.pending ≡ Some kind
    → LaneKept (AwaitingWriteData agent served slot) unique owner last n x → kind ≡ served
dbid_kind_is agent served kind slot unique owner last n x here pending k = search (arith, k.dbid_kind)

dbid_awaited : (last : List ℕ) (s : LineState) (n : ℕ) → n < 8 → (cells_of s n).rsp_down ≡ Some CompDBIDResp
    → (awaits : AwaitsWrite s.home.serving n) → Kept last s → Kept last (dbid_received_line s n awaits.kind)
dbid_awaited last s n low here awaits k =
    let unique = s.home.filter.unique in
    let owner = s.home.filter.owner in
    let rn = rn_of s n in
    let before : LaneKept (AwaitingWriteData awaits.agent awaits.kind awaits.slot) unique owner last n (lane s n) =
    subst (λ v. LaneKept v unique owner last n (lane s n)) awaits.serving_is (k.lanes n low) in
    let sent : write_data_of rn.state rn.words ≡ CopyBackWrData rn.state (words_sent rn.state rn.words) = write_data_is rn.state rn.words in
    kept_by last s n (rn_after_dbid rn awaits.kind) (record (cells_of s n) { rsp_down = None; dat_up = Some (write_data_of rn.state rn.words) }) low k
    (subst (λ v. LaneKept v unique owner last n (record (lane s n) { rn = rn_after_dbid rn awaits.kind; flits = record (cells_of s n) { rsp_down = None; dat_up = Some (write_data_of rn.state rn.words) } })) (sym awaits.serving_is)
    (subst (λ (d : DatUp). LaneKept (AwaitingWriteData awaits.agent awaits.kind awaits.slot) unique owner last n (record (lane s n) { rn = rn_after_dbid rn awaits.kind; flits = record (cells_of s n) { rsp_down = None; dat_up = Some d } })) (sym sent)
    (dbid_received_lane awaits.agent awaits.kind awaits.slot unique owner last n (lane s n) (state_after_write awaits.kind rn.state) rn.state (words_sent rn.state rn.words) here (write_is awaits.kind rn.state rn.words) before)))
    (λ clean. record {
      copy = subst (λ (d : DatUp). passes_dirty (Some d) ≡ false) sent clean.on_its_way;
      on_its_way = ap passes_dirty (dbid_no_data awaits.agent awaits.kind awaits.slot unique owner last n (lane s n) here before);
    })

pub kept_dbid_received : (last : List ℕ) (s : LineState) (n : ℕ) (kind : Kind) → n < 8
    → (cells_of s n).rsp_down ≡ Some CompDBIDResp → kind_if (rn_of s n).pending ≡ Some kind → Kept last s → Kept last (dbid_received_line s n kind)
kept_dbid_received last s n kind low here pending k =
    let awaits : AwaitsWrite s.home.serving n = awaits_write s.home.serving n (dbid_written s.home.serving s.home.filter.unique s.home.filter.owner last n (lane s n) here (k.lanes n low)) in
    subst (λ v. Kept last (dbid_received_line s n v))
    (sym (dbid_kind_is awaits.agent awaits.kind kind awaits.slot s.home.filter.unique s.home.filter.owner last n (lane s n) here pending
    (subst (λ v. LaneKept v s.home.filter.unique s.home.filter.owner last n (lane s n)) awaits.serving_is (k.lanes n low))))
    (dbid_awaited last s n low here awaits k)
