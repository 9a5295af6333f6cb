-- CompAck and write data.
use Rattle.std.proofs.Common.{arith, rules, ◌≡◌, inl, inr, ⊎_elim, ℕ, ◌<◌, List, refl, sym, ap, subst, ◌∙◌}
use Rattle.std.specs.Prelude.{Bool, true, false, ◌&&◌, ◌||◌, Option, Some, None, is_some, if◌then◌else◌}
use Rattle.chi_flit.specs.declared.numbers.Agent.{Agent}
use Rattle.chi_flit.specs.declared.state.State.{State}
use Rattle.chi_flit.specs.declared.state.State.TheVariants.{I, SC, UC, UD, SD}
use Rattle.chi_flit.specs.declared.kind.Kind.{Kind}
use Rattle.chi_flit.specs.declared.kind.Kind.TheVariants.{CleanUnique, WriteBackFull, WriteCleanFull, WriteEvictFull}
use Rattle.chi_flit.specs.declared.message.CompData.{CompData}
use Rattle.chi_flit.specs.declared.message.Msg.TheVariants.{DatUp}
use Rattle.chi_flit.specs.declared.message.RspDown.{RspDown}
use Rattle.chi_flit.specs.declared.message.RspDown.TheVariants.{CompUC, CompDBIDResp}
use Rattle.chi_flit.specs.declared.message.RspUp.TheVariants.{CompAck as Ack}
use Rattle.chi_flit.specs.Kind.{gives_up as gives_copy_up, is_copy_back as is_copy_back_kind}
use Rattle.chi_flit.specs.Message.{no_words, write_data_of}
use Rattle.chi_flit.specs.State.{is_valid, is_unique as is_unique_state}
use Rattle.chi_wires.specs.Cell.{no_flits}
use Rattle.chi_rnline.specs.declared.pending.Pending.{Pending}
use Rattle.chi_rnline.specs.Rn.{no_line, rn_after_comp, rn_after_data, rn_after_dbid, state_after_comp, state_after_write}
use Rattle.chi_homeline.specs.declared.serving.Serving.{Serving}
use Rattle.chi_homeline.specs.declared.serving.Serving.TheVariants.{AwaitingWriteData}
use Rattle.chi_homeline.specs.Home.{served_kind, writes_for}
use Rattle.chi_line.specs.LineState.{LineState, cells_of, rn_of}
use Rattle.chi_line.specs.Kept.{IsServedRight, Kept, Lane, LaneKept, allows, is_dbid, kind_if, lane}
use Rattle.chi_line.specs.Step.{comp_received_line, dbid_received_line, received_line}
use Rattle.chi_line.proofs.Frame.{puts_set, within}
use Rattle.chi_observer.specs.declared.told.Told.{Told}
use Rattle.chi_observer.specs.declared.flits.Due.{Due}
use Rattle.chi_observer.specs.declared.flits.Due.TheVariants.{Acknowledgement, Nothing, WriteData}
use Rattle.chi_observer.specs.declared.flits.Act.TheVariants.{CompAck, CopyBackWrData}
use Rattle.chi_observer.specs.Copies.{copy_of, same}
use Rattle.chi_observer.specs.Copies.Copy.{Invalid}
use Rattle.chi_observer.specs.Rules.{acts, has_data, is_copy_back, is_written_from, upgraded, written}
use Rattle.chi_observer.specs.Tables.{strongest, told_as, told_behind}
use Rattle.chi_observer.specs.Observed.{Observed}
use Rattle.chi_conformity.specs.Seen.{kind_seen, message_seen, up as up_flit}
use Rattle.chi_conformity.proofs.Held.{DueIs, Stands, held_of, is_evicting, is_given_up, is_none_form, is_within, says_none, says_shared, words_by, writes_none, writes_shared}
use Rattle.chi_conformity.proofs.Flits.{Laws, or_in}
use Rattle.chi_conformity.proofs.Acted.{Sent, acted}
use Rattle.chi_conformity.proofs.Told.{either, implies, no, within_less, within_same}

-- data are on their way to the agent, or another completion: its request is in no other place
pub record Answered (x : Lane) : Type 0 where
  pub pending : Pending
  pub is : x.rn.pending ≡ Some pending
  pub req : x.flits.req ≡ None

some_of : {A : Type 0} (there : Option A) → is_some there ≡ true → (a : A) × (there ≡ Some a)
some_of None h = no h
some_of (Some a) h = (a, refl)

by_data : (serving : Serving) (unique : Bool) (owner : Option Agent) (last : List ℕ) (n : ℕ) (x : Lane) (d : CompData) → LaneKept serving unique owner last n x
    → x.flits.dat_down ≡ Some d → Answered x × (x.flits.rsp_down ≡ None)
by_data serving unique owner last n x d k here =
    let there : is_some x.rn.pending ≡ true = search (arith, k.one_place, here) in
    let p = some_of x.rn.pending there in
    (record { pending = p.0; is = p.1; req = search (arith, k.one_place, here) }, search (arith, k.one_place, here))

pub by_response : (serving : Serving) (unique : Bool) (owner : Option Agent) (last : List ℕ) (n : ℕ) (x : Lane) (r : RspDown) → LaneKept serving unique owner last n x
    → x.flits.rsp_down ≡ Some r → Answered x × (x.flits.dat_down ≡ None)
by_response serving unique owner last n x r k here =
    let there : is_some x.rn.pending ≡ true = search (arith, k.one_place, here) in
    let p = some_of x.rn.pending there in
    (record { pending = p.0; is = p.1; req = search (arith, k.one_place, here) }, search (arith, k.one_place, here))

data_due : (x : Lane) (message : CompData) (d : Due) → DueIs x.rn.pending x.flits.req x.flits.rsp_down x.flits.dat_down d → (by : Answered x) → x.flits.rsp_down ≡ None → x.flits.dat_down ≡ Some message
    → d ≡ Acknowledgement
data_due x message d due by none here =
    subst (λ v. DueIs (Some by.pending) None None v d) here
    (subst (λ v. DueIs (Some by.pending) None v x.flits.dat_down d) none
    (subst (λ v. DueIs (Some by.pending) v x.flits.rsp_down x.flits.dat_down d) by.req
    (subst (λ v. DueIs v x.flits.req x.flits.rsp_down x.flits.dat_down d) by.is due)))

pub response_due : (x : Lane) (r : RspDown) (d : Due) → DueIs x.rn.pending x.flits.req x.flits.rsp_down x.flits.dat_down d → (by : Answered x) → x.flits.rsp_down ≡ Some r
    → DueIs (Some by.pending) None (Some r) x.flits.dat_down d
response_due x r d due by here =
    subst (λ v. DueIs (Some by.pending) None v x.flits.dat_down d) here
    (subst (λ v. DueIs (Some by.pending) v x.flits.rsp_down x.flits.dat_down d) by.req
    (subst (λ v. DueIs v x.flits.req x.flits.rsp_down x.flits.dat_down d) by.is due))

pub or_after : (a b c : Bool) → c ≡ true → (a || (b || c)) ≡ true
or_after a b c h = or_in a (b || c) (or_in b c h)

-- RecvData
data_acts : (d : Due) (state : State) (message : CompData) (p : Pending) (pending : Option Pending) (given : Option CompData) (response : Option RspDown)
    → pending ≡ Some p → given ≡ Some message → response ≡ None → d ≡ Acknowledgement
    → acts CompAck false d (held_of state pending given response d) ≡ Some (held_of (if message.unique then UC else SC) None None response Nothing)
data_acts d state message p pending given response is_p is_g is_r is_d = rw (is_p, is_g, is_r, is_d) refl

pub data_seen : Laws → (o : Observed) (s : LineState) (last : List ℕ) (agent : Agent) (message : CompData) → agent.0 < 8 → Kept last s → Stands last s o
    → (cells_of s agent.0).dat_down ≡ Some message → Sent o (received_line s agent.0 message) last agent CompAck no_words
data_seen laws o s last agent message low kept stands here =
    let n : ℕ = agent.0 in
    let rn = rn_of s n in
    let c = cells_of s n in
    let found = by_data s.home.serving s.home.filter.unique s.home.filter.owner last n (lane s n) message (kept.lanes n low) here in
    let due : o.public.due n ≡ Acknowledgement = data_due (lane s n) message (o.public.due n) (stands.lanes n).due_is found.0 found.1 here in
    acted laws o s last last agent _ _ (rn_after_data rn message) (record c { dat_down = None; rsp_up = Some Ack }) CompAck no_words low kept stands
    (puts_set no_line s.requesters n _ (within n _ low kept.requesters)) (puts_set no_flits s.flits n _ (within n _ low kept.flits))
    (record {
      allowed = refl;
      acts_so = data_acts (o.public.due n) rn.state message found.0.pending rn.pending c.dat_down c.rsp_down found.0.is here found.1 due;
      shows = λ e. no e;
      writes_none = refl;
      lasts = λ e. refl;
      words = λ holds e. sym (ap (words_by rn.words) here);
      stored = λ e. no e;
      word = refl;
    })
    (record {
      within = within_same (o.told n).told rn.state;
      due = refl;
      snoop = (stands.lanes n).snooped_is;
      gone = λ g. inl (or_after (is_evicting rn.pending) (says_none c.rsp_up) (writes_none (is_given_up s.home.serving) c.dat_up) g);
      shared = λ g. inl (or_in (says_shared c.rsp_up) (writes_shared c.dat_up) g);
    })

-- RecvComp of a copy that is there still
upgraded_is : (state : State) → allows CleanUnique state ≡ true → is_valid state ≡ true → upgraded (copy_of state) ≡ copy_of (state_after_comp state)
upgraded_is SC h v = refl
upgraded_is SD h v = refl
upgraded_is I h v = no v
upgraded_is UC h v = no h
upgraded_is UD h v = no h

comp_acts : (d : Due) (state : State) (p : Pending) (pending : Option Pending) (given : Option CompData) (response : Option RspDown)
    → pending ≡ Some p → given ≡ None → response ≡ Some CompUC → d ≡ Acknowledgement → upgraded (copy_of state) ≡ copy_of (state_after_comp state)
    → acts CompAck false d (held_of state pending given response d) ≡ Some (held_of (state_after_comp state) None given None Nothing)
comp_acts d state p pending given response is_p is_g is_r is_d leaves = rw (is_p, is_g, is_r, is_d, leaves) refl

pub comp_seen : Laws → (o : Observed) (s : LineState) (last : List ℕ) (agent : Agent) → agent.0 < 8 → Kept last s → Stands last s o
    → (cells_of s agent.0).rsp_down ≡ Some CompUC → is_valid (rn_of s agent.0).state ≡ true → Sent o (comp_received_line s agent.0) last agent CompAck no_words
comp_seen laws o s last agent low kept stands here valid =
    let n : ℕ = agent.0 in
    let rn = rn_of s n in
    let c = cells_of s n in
    let k = kept.lanes n low in
    let found = by_response s.home.serving s.home.filter.unique s.home.filter.owner last n (lane s n) CompUC k here in
    let fits : allows CleanUnique rn.state ≡ true = k.kind_fits CleanUnique (k.comp_kind (search (rules, arith, here))) in
    acted laws o s last last agent _ _ (rn_after_comp rn) (record c { rsp_down = None; rsp_up = Some Ack }) CompAck no_words low kept stands
    (puts_set no_line s.requesters n _ (within n _ low kept.requesters)) (puts_set no_flits s.flits n _ (within n _ low kept.flits))
    (record {
      allowed = refl;
      acts_so = comp_acts (o.public.due n) rn.state found.0.pending rn.pending c.dat_down c.rsp_down found.0.is found.1 here
          (response_due (lane s n) CompUC (o.public.due n) (stands.lanes n).due_is found.0 here) (upgraded_is rn.state fits valid);
      shows = λ e. no e;
      writes_none = refl;
      lasts = λ e. refl;
      words = λ holds e. refl;
      stored = λ e. no e;
      word = refl;
    })
    (record {
      within = within_same (o.told n).told rn.state;
      due = refl;
      snoop = (stands.lanes n).snooped_is;
      gone = λ g. inl (or_after (is_evicting rn.pending) (says_none c.rsp_up) (writes_none (is_given_up s.home.serving) c.dat_up) g);
      shared = λ g. inl (or_in (says_shared c.rsp_up) (writes_shared c.dat_up) g);
    })

-- RecvDbid
copy_back_seen : (kind : Kind) → is_copy_back_kind kind ≡ true → is_copy_back (kind_seen kind) ≡ true
copy_back_seen WriteBackFull h = refl
copy_back_seen WriteCleanFull h = refl
copy_back_seen WriteEvictFull h = refl
copy_back_seen other h = no h

written_from : (state : State) → is_written_from state (copy_of state) ≡ true
written_from I = refl
written_from SC = refl
written_from UC = refl
written_from UD = refl
written_from SD = refl

written_leaves : (kind : Kind) (state : State) → is_copy_back_kind kind ≡ true → written (kind_seen kind) state ≡ state_after_write kind state
written_leaves WriteBackFull state h = refl
written_leaves WriteEvictFull state h = refl
written_leaves WriteCleanFull I h = refl
written_leaves WriteCleanFull SC h = refl
written_leaves WriteCleanFull UC h = refl
written_leaves WriteCleanFull UD h = refl
written_leaves WriteCleanFull SD h = refl
written_leaves other state h = no h

written_less : (kind : Kind) (state : State) → is_copy_back_kind kind ≡ true
    → (implies (is_valid (written (kind_seen kind) state)) (is_valid state) && implies (is_unique_state (written (kind_seen kind) state)) (is_unique_state state)) ≡ true
written_less WriteBackFull state h = refl
written_less WriteEvictFull state h = refl
written_less WriteCleanFull I h = refl
written_less WriteCleanFull SC h = refl
written_less WriteCleanFull UC h = refl
written_less WriteCleanFull UD h = refl
written_less WriteCleanFull SD h = refl
written_less other state h = no h

none_written : (kind : Kind) (state : State) → is_copy_back_kind kind ≡ true → (gives_copy_up kind || is_none_form state) ≡ true
    → same (strongest (told_as (written (kind_seen kind) state))) Invalid ≡ true
none_written WriteBackFull state h e = refl
none_written WriteEvictFull state h e = refl
none_written WriteCleanFull I h e = refl
none_written WriteCleanFull state h e = absurd (cc (e))
none_written other state h e = no h

write_acts : (kind : Kind) (d : Due) (state : State) (p : Pending) (pending : Option Pending) (given : Option CompData) (response : Option RspDown)
    → is_copy_back_kind kind ≡ true → pending ≡ Some p → given ≡ None → response ≡ Some CompDBIDResp → d ≡ WriteData (kind_seen kind)
    → acts (CopyBackWrData state) false d (held_of state pending given response d) ≡ Some (held_of (state_after_write kind state) None given None Nothing)
write_acts kind d state p pending given response back is_p is_g is_r is_d =
    rw (is_p, is_g, is_r, is_d, copy_back_seen kind back, written_from state, written_leaves kind state back) refl

-- the write data, as they are seen
abbrev pub write_shown : State → List ℕ → List ℕ
write_shown I words = no_words
write_shown other words = words

pub write_seen_as : (agent : Agent) (state : State) (words : List ℕ) → message_seen agent (DatUp (write_data_of state words)) ≡ up_flit agent (CopyBackWrData state) (write_shown state words)
write_seen_as agent I words = refl
write_seen_as agent SC words = refl
write_seen_as agent UC words = refl
write_seen_as agent UD words = refl
write_seen_as agent SD words = refl

write_words : (state : State) (words : List ℕ) → has_data (CopyBackWrData state) ≡ true → write_shown state words ≡ words
write_words I words h = no h
write_words SC words h = refl
write_words UC words h = refl
write_words UD words h = refl
write_words SD words h = refl

writes_none_of : (up : Bool) (state : State) (words : List ℕ) → writes_none up (Some (write_data_of state words)) ≡ (up || is_none_form state)
writes_none_of up I words = refl
writes_none_of up SC words = refl
writes_none_of up UC words = refl
writes_none_of up UD words = refl
writes_none_of up SD words = refl

writes_shared_of : (state : State) (words : List ℕ) → writes_shared (Some (write_data_of state words)) ≡ false
writes_shared_of I words = refl
writes_shared_of SC words = refl
writes_shared_of UC words = refl
writes_shared_of UD words = refl
writes_shared_of SD words = refl

or_first : (a b : Bool) → (a || false) ≡ true → (a || b) ≡ true
or_first true b h = refl
or_first false b h = no h

-- write data are awaited of a copy-back
write_served : (serving : Serving) (n : ℕ) → writes_for serving n ≡ true → IsServedRight serving
    → (kind : Kind) × (served_kind serving ≡ Some kind) × (is_copy_back_kind kind ≡ true) × (is_given_up serving ≡ gives_copy_up kind)
write_served (AwaitingWriteData agent kind slot) n h right = (kind, refl, right.1, refl)
write_served other n h right = no h

dbid_awaited : (serving : Serving) (unique : Bool) (owner : Option Agent) (last : List ℕ) (n : ℕ) (x : Lane) → is_dbid x.flits.rsp_down ≡ true
    → LaneKept serving unique owner last n x → writes_for serving n ≡ true
dbid_awaited serving unique owner last n x here k = search (arith, k.one_write)

one_kind : (a b : Kind) (served : Option Kind) → Some a ≡ served → served ≡ Some b → b ≡ a
one_kind a b served h e = cc (h, e)

pub write_seen : Laws → (o : Observed) (s : LineState) (last : List ℕ) (agent : Agent) (request : Pending) → agent.0 < 8 → Kept last s → Stands last s o
    → (rn_of s agent.0).pending ≡ Some request → (cells_of s agent.0).rsp_down ≡ Some CompDBIDResp
    → Sent o (dbid_received_line s agent.0 request.kind) last agent (CopyBackWrData (rn_of s agent.0).state) (write_shown (rn_of s agent.0).state (rn_of s agent.0).words)
write_seen laws o s last agent request low kept stands is here =
    let n : ℕ = agent.0 in
    let rn = rn_of s n in
    let c = cells_of s n in
    let k = kept.lanes n low in
    let kind : Kind = request.kind in
    let found = by_response s.home.serving s.home.filter.unique s.home.filter.owner last n (lane s n) CompDBIDResp k here in
    let mine : Answered (lane s n) = record { pending = request; is = is; req = found.0.req } in
    let dbid : is_dbid c.rsp_down ≡ true = search (rules, arith, here) in
    let served = write_served s.home.serving n (dbid_awaited s.home.serving s.home.filter.unique s.home.filter.owner last n (lane s n) dbid k) kept.in_range in
    let same_kind : served.0 ≡ kind = one_kind kind served.0 (served_kind s.home.serving) (sym (ap kind_if is) ∙ k.dbid_kind dbid) served.1 in
    let back : is_copy_back_kind kind ≡ true = sym (ap is_copy_back_kind same_kind) ∙ served.2 in
    let up : is_given_up s.home.serving ≡ gives_copy_up kind = served.3 ∙ ap gives_copy_up same_kind in
    let due : o.public.due n ≡ WriteData (kind_seen kind) = response_due (lane s n) CompDBIDResp (o.public.due n) (stands.lanes n).due_is mine here in
    let told : (t : Told) → told_behind (CopyBackWrData rn.state) (o.public.due n) t ≡ told_as (written (kind_seen kind) rn.state) = λ t. ap (λ d. told_behind (CopyBackWrData rn.state) d t) due in
    acted laws o s last last agent _ _ (rn_after_dbid rn kind) (record c { rsp_down = None; dat_up = Some (write_data_of rn.state rn.words) }) (CopyBackWrData rn.state) (write_shown rn.state rn.words) low kept stands
    (puts_set no_line s.requesters n _ (within n _ low kept.requesters)) (puts_set no_flits s.flits n _ (within n _ low kept.flits))
    (record {
      allowed = refl;
      acts_so = write_acts kind (o.public.due n) rn.state request rn.pending c.dat_down c.rsp_down back is found.1 here due;
      shows = λ e. write_words rn.state rn.words e ∙ sym (ap (words_by rn.words) found.1);
      writes_none = refl;
      lasts = λ e. refl;
      words = λ holds e. refl;
      stored = λ e. no e;
      word = refl;
    })
    (record {
      within = subst (λ t. is_within (o.told n).told t rn.state ≡ true) (sym (told (o.told n).told)) (within_less (written (kind_seen kind) rn.state) (o.told n).told rn.state (written_less kind rn.state back));
      due = refl;
      snoop = (stands.lanes n).snooped_is;
      gone = λ g. ⊎_elim
          (λ (says : says_none c.rsp_up ≡ true). inl (or_in (is_evicting rn.pending) _ (or_says (says_none c.rsp_up) _ says)))
          (λ (writes : writes_none (is_given_up s.home.serving) (Some (write_data_of rn.state rn.words)) ≡ true).
          inr (subst (λ t. same (strongest t) Invalid ≡ true) (sym (told (o.told n).told))
          (none_written kind rn.state back (sym (ap (λ b. b || is_none_form rn.state) up) ∙ (sym (writes_none_of (is_given_up s.home.serving) rn.state rn.words) ∙ writes)))))
          (either (says_none c.rsp_up) _ g);
      shared = λ g. inl (or_first (says_shared c.rsp_up) (writes_shared c.dat_up) (subst (λ b. (says_shared c.rsp_up || b) ≡ true) (writes_shared_of rn.state rn.words) g));
    })
  where
    or_says : (a b : Bool) → a ≡ true → (a || b) ≡ true
    or_says true b h = refl
    or_says false b h = no h
