-- Answers to snoops.
use Rattle.std.proofs.Common.{arith, ◌≡◌, ◌⊎◌, inl, inr, ℕ, ◌<◌, List, refl, sym, ap, subst, ◌∙◌}
use Rattle.std.specs.Prelude.{Bool, true, false, ◌&&◌, ◌||◌, Option, Some, None, option_map}
use Rattle.chi_flit.specs.declared.numbers.Agent.{Agent}
use Rattle.chi_flit.specs.declared.state.State.{State}
use Rattle.chi_flit.specs.declared.state.State.TheVariants.{I, SC, UC, UD, SD}
use Rattle.chi_flit.specs.declared.snoop.Snoop.{Snoop}
use Rattle.chi_flit.specs.declared.snoop.Snoop.TheVariants.{SnpShared, SnpNotSharedDirty, SnpUnique, SnpCleanInvalid}
use Rattle.chi_flit.specs.declared.message.CompData.{CompData}
use Rattle.chi_flit.specs.declared.message.Msg.{Msg}
use Rattle.chi_flit.specs.declared.message.Msg.TheVariants.{RspUp, DatUp}
use Rattle.chi_flit.specs.declared.message.RspDown.{RspDown}
use Rattle.chi_flit.specs.declared.message.RspDown.TheVariants.{CompUC}
use Rattle.chi_flit.specs.declared.message.RspUp.TheVariants.{SnpRespI, SnpRespSC}
use Rattle.chi_flit.specs.declared.message.DatUp.TheVariants.{SnpRespDataIPD, SnpRespDataSCPD, SnpRespDataSD}
use Rattle.chi_flit.specs.Message.{no_words}
use Rattle.chi_flit.specs.Snoop.{answer_of}
use Rattle.chi_flit.specs.State.{is_valid, is_unique as is_unique_state}
use Rattle.chi_wires.specs.declared.cells.Cells.{Cells}
use Rattle.chi_wires.specs.Cell.{no_flits, with_message}
use Rattle.chi_rnline.specs.declared.pending.Pending.{Pending}
use Rattle.chi_rnline.specs.Rn.{no_line, rn_after_snoop}
use Rattle.chi_homeline.specs.declared.serving.Serving.{Serving}
use Rattle.chi_homeline.specs.declared.serving.Serving.TheVariants.{Snooping}
use Rattle.chi_homeline.specs.Home.{acks_for, writes_for}
use Rattle.chi_line.specs.LineState.{LineState, cells_of, rn_of}
use Rattle.chi_line.specs.Kept.{Kept, Lane, LaneKept, is_comp_unique, lane, snoop_out}
use Rattle.chi_line.specs.Step.{snooped_line}
use Rattle.chi_line.proofs.Frame.{puts_set, within}
use Rattle.chi_observer.specs.declared.told.Told.{Told}
use Rattle.chi_observer.specs.declared.flits.Due.{Due}
use Rattle.chi_observer.specs.declared.flits.Act.TheVariants.{SnpResp}
use Rattle.chi_observer.specs.declared.flits.Answer.{Answer}
use Rattle.chi_observer.specs.declared.flits.Answer.TheVariants as answers
use Rattle.chi_observer.specs.Copies.{copy_of, is_unique, same}
use Rattle.chi_observer.specs.Copies.Copy.{Invalid}
use Rattle.chi_observer.specs.Rules.{acts, allows, answer_has_data, answered, is_answered_from}
use Rattle.chi_observer.specs.Tables.{strongest, told_answered, told_as}
use Rattle.chi_observer.specs.Observed.{Observed}
use Rattle.chi_conformity.specs.Seen.{message_seen, snoop_seen, up}
use Rattle.chi_conformity.proofs.Held.{DueIs, Stands, copy_held, held_of, is_evicting, is_given_up, is_gone, is_within, says_none, words_by, writes_none}
use Rattle.chi_conformity.proofs.Flits.{Laws, or_in}
use Rattle.chi_conformity.proofs.Acted.{Sent, acted}
use Rattle.chi_conformity.proofs.Told.{implies, no, within_less}

-- what the answer of a copy is, and leaves in its agent's cells
pub record Reply (agent : Agent) (pending : Option Pending) (cells : Cells) (state : State) (snoop : Snoop) (words : List ℕ) (left : State) (message : Msg) : Type 0 where
  pub answer : Answer
  pub shown : List ℕ
  pub seen : message_seen agent message ≡ up agent (SnpResp answer) shown
  pub allowed : allows (SnpResp answer) (Some (snoop_seen snoop)) ≡ true
  pub from : is_answered_from answer (copy_of state) ≡ true
  pub leaves : answered answer (copy_of state) ≡ copy_of left
  pub told : (t : Told) → told_answered answer t ≡ told_as left
  pub less : (implies (is_valid left) (is_valid state) && implies (is_unique_state left) (is_unique_state state)) ≡ true
  pub shows : answer_has_data answer ≡ true → shown ≡ words
  pub req : (with_message (record cells { snp = None }) message).req ≡ cells.req
  pub response : (with_message (record cells { snp = None }) message).rsp_down ≡ cells.rsp_down
  pub given : (with_message (record cells { snp = None }) message).dat_down ≡ cells.dat_down
  pub snp : (with_message (record cells { snp = None }) message).snp ≡ None
  pub gone : (given_up : Bool) → is_gone given_up pending (with_message (record cells { snp = None }) message).rsp_up (with_message (record cells { snp = None }) message).dat_up ≡ true
      → (is_gone given_up pending cells.rsp_up cells.dat_up ≡ true) ⊎ (same (strongest (told_as left)) Invalid ≡ true)
  pub shared : is_unique (strongest (told_as left)) ≡ false

or_drop : (a b c : Bool) → (a || (false || c)) ≡ true → (a || (b || c)) ≡ true
or_drop true b c h = refl
or_drop false b c h = or_in b c h

or_keep : (a b c : Bool) → (a || (b || false)) ≡ true → (a || (b || c)) ≡ true
or_keep true b c h = refl
or_keep false true c h = refl
or_keep false false c h = no h

none_reply : (agent : Agent) (pending : Option Pending) (cells : Cells) (state : State) (snoop : Snoop) (words : List ℕ)
    → allows (SnpResp answers.SnpRespI) (Some (snoop_seen snoop)) ≡ true → is_answered_from answers.SnpRespI (copy_of state) ≡ true
    → Reply agent pending cells state snoop words I (RspUp SnpRespI)
none_reply agent pending cells state snoop words allowed from = record {
  answer = answers.SnpRespI;
  shown = no_words;
  seen = refl;
  allowed = allowed;
  from = from;
  leaves = refl;
  told = λ t. refl;
  less = refl;
  shows = λ e. no e;
  req = refl;
  response = refl;
  given = refl;
  snp = refl;
  gone = λ given_up g. inr refl;
  shared = refl;
}

shared_reply : (agent : Agent) (pending : Option Pending) (cells : Cells) (state : State) (snoop : Snoop) (words : List ℕ)
    → allows (SnpResp answers.SnpRespSC) (Some (snoop_seen snoop)) ≡ true → is_answered_from answers.SnpRespSC (copy_of state) ≡ true → is_valid state ≡ true
    → Reply agent pending cells state snoop words SC (RspUp SnpRespSC)
shared_reply agent pending cells state snoop words allowed from valid = record {
  answer = answers.SnpRespSC;
  shown = no_words;
  seen = refl;
  allowed = allowed;
  from = from;
  leaves = refl;
  told = λ t. refl;
  less = rw valid refl;
  shows = λ e. no e;
  req = refl;
  response = refl;
  given = refl;
  snp = refl;
  gone = λ given_up g. inl (or_drop (is_evicting pending) (says_none cells.rsp_up) (writes_none given_up cells.dat_up) g);
  shared = refl;
}

none_data : (agent : Agent) (pending : Option Pending) (cells : Cells) (state : State) (snoop : Snoop) (words : List ℕ)
    → allows (SnpResp answers.SnpRespDataIPD) (Some (snoop_seen snoop)) ≡ true → is_answered_from answers.SnpRespDataIPD (copy_of state) ≡ true
    → Reply agent pending cells state snoop words I (DatUp (SnpRespDataIPD words))
none_data agent pending cells state snoop words allowed from = record {
  answer = answers.SnpRespDataIPD;
  shown = words;
  seen = refl;
  allowed = allowed;
  from = from;
  leaves = refl;
  told = λ t. refl;
  less = refl;
  shows = λ e. refl;
  req = refl;
  response = refl;
  given = refl;
  snp = refl;
  gone = λ given_up g. inr refl;
  shared = refl;
}

shared_data : (agent : Agent) (pending : Option Pending) (cells : Cells) (state : State) (snoop : Snoop) (words : List ℕ)
    → allows (SnpResp answers.SnpRespDataSCPD) (Some (snoop_seen snoop)) ≡ true → is_answered_from answers.SnpRespDataSCPD (copy_of state) ≡ true → is_valid state ≡ true
    → Reply agent pending cells state snoop words SC (DatUp (SnpRespDataSCPD words))
shared_data agent pending cells state snoop words allowed from valid = record {
  answer = answers.SnpRespDataSCPD;
  shown = words;
  seen = refl;
  allowed = allowed;
  from = from;
  leaves = refl;
  told = λ t. refl;
  less = rw valid refl;
  shows = λ e. refl;
  req = refl;
  response = refl;
  given = refl;
  snp = refl;
  gone = λ given_up g. inl (or_keep (is_evicting pending) (says_none cells.rsp_up) (writes_none given_up cells.dat_up) g);
  shared = refl;
}

owner_data : (agent : Agent) (pending : Option Pending) (cells : Cells) (state : State) (snoop : Snoop) (words : List ℕ)
    → allows (SnpResp answers.SnpRespDataSD) (Some (snoop_seen snoop)) ≡ true → is_answered_from answers.SnpRespDataSD (copy_of state) ≡ true → is_valid state ≡ true
    → Reply agent pending cells state snoop words SD (DatUp (SnpRespDataSD words))
owner_data agent pending cells state snoop words allowed from valid = record {
  answer = answers.SnpRespDataSD;
  shown = words;
  seen = refl;
  allowed = allowed;
  from = from;
  leaves = refl;
  told = λ t. refl;
  less = rw valid refl;
  shows = λ e. refl;
  req = refl;
  response = refl;
  given = refl;
  snp = refl;
  gone = λ given_up g. inl (or_keep (is_evicting pending) (says_none cells.rsp_up) (writes_none given_up cells.dat_up) g);
  shared = refl;
}

reply : (agent : Agent) (pending : Option Pending) (cells : Cells) (words : List ℕ) (state : State) (snoop : Snoop)
    → Reply agent pending cells state snoop words (answer_of state snoop words).0 (answer_of state snoop words).1
reply agent pending cells words I SnpShared = none_reply agent pending cells I SnpShared words refl refl
reply agent pending cells words I SnpNotSharedDirty = none_reply agent pending cells I SnpNotSharedDirty words refl refl
reply agent pending cells words I SnpUnique = none_reply agent pending cells I SnpUnique words refl refl
reply agent pending cells words I SnpCleanInvalid = none_reply agent pending cells I SnpCleanInvalid words refl refl
reply agent pending cells words SC SnpShared = shared_reply agent pending cells SC SnpShared words refl refl refl
reply agent pending cells words SC SnpNotSharedDirty = shared_reply agent pending cells SC SnpNotSharedDirty words refl refl refl
reply agent pending cells words SC SnpUnique = none_reply agent pending cells SC SnpUnique words refl refl
reply agent pending cells words SC SnpCleanInvalid = none_reply agent pending cells SC SnpCleanInvalid words refl refl
reply agent pending cells words UC SnpShared = shared_reply agent pending cells UC SnpShared words refl refl refl
reply agent pending cells words UC SnpNotSharedDirty = shared_reply agent pending cells UC SnpNotSharedDirty words refl refl refl
reply agent pending cells words UC SnpUnique = none_reply agent pending cells UC SnpUnique words refl refl
reply agent pending cells words UC SnpCleanInvalid = none_reply agent pending cells UC SnpCleanInvalid words refl refl
reply agent pending cells words UD SnpShared = owner_data agent pending cells UD SnpShared words refl refl refl
reply agent pending cells words UD SnpNotSharedDirty = shared_data agent pending cells UD SnpNotSharedDirty words refl refl refl
reply agent pending cells words UD SnpUnique = none_data agent pending cells UD SnpUnique words refl refl
reply agent pending cells words UD SnpCleanInvalid = none_data agent pending cells UD SnpCleanInvalid words refl refl
reply agent pending cells words SD SnpShared = owner_data agent pending cells SD SnpShared words refl refl refl
reply agent pending cells words SD SnpNotSharedDirty = shared_data agent pending cells SD SnpNotSharedDirty words refl refl refl
reply agent pending cells words SD SnpUnique = none_data agent pending cells SD SnpUnique words refl refl
reply agent pending cells words SD SnpCleanInvalid = none_data agent pending cells SD SnpCleanInvalid words refl refl

-- while a snoop is out nobody's CompAck or write data are awaited
pub snoop_alone : (serving : Serving) (snoop : Snoop) (n : ℕ) → snoop_out serving ≡ Some snoop → (acks_for serving n ≡ false) × (writes_for serving n ≡ false)
snoop_alone (Snooping agent kind slot) snoop n h = (refl, refl)
snoop_alone other snoop n h = absurd (cc (h))

-- and no completion is on its way to the agent
pub record Plain (x : Lane) : Type 0 where
  pub given : x.flits.dat_down ≡ None
  pub response : is_comp_unique x.flits.rsp_down ≡ false

pub unacked : (serving : Serving) (unique : Bool) (owner : Option Agent) (last : List ℕ) (n : ℕ) (x : Lane) → LaneKept serving unique owner last n x
    → acks_for serving n ≡ false → Plain x
unacked serving unique owner last n x k none = record { given = search (arith, k.one_ack, none); response = search (arith, k.one_ack, none) }

plain_response : (state : State) (response : Option RspDown) → is_comp_unique response ≡ false → copy_held state None response ≡ copy_of state
plain_response state (Some CompUC) h = no (sym h)
plain_response state other h = refl

pub plain_copy : (state : State) (given : Option CompData) (response : Option RspDown) → given ≡ None → is_comp_unique response ≡ false → copy_held state given response ≡ copy_of state
plain_copy state given response is h = ap (λ v. copy_held state v response) is ∙ plain_response state response h

answer_acts : (x : Bool) (answer : Answer) (d : Due) (state left : State) (pending : Option Pending) (given given' : Option CompData) (response response' : Option RspDown)
    → given ≡ None → is_comp_unique response ≡ false → given' ≡ given → response' ≡ response
    → is_answered_from answer (copy_of state) ≡ true → answered answer (copy_of state) ≡ copy_of left
    → acts (SnpResp answer) x d (held_of state pending given response d) ≡ Some (held_of left pending given' response' d)
answer_acts x answer d state left pending given given' response response' none apart same_given same_response from leaves =
    rw (same_given, same_response, plain_copy state given response none apart, plain_copy left given response none apart, from, leaves) refl

due_still : (pending : Option Pending) (c c' : Cells) (d : Due) → c'.req ≡ c.req → c'.rsp_down ≡ c.rsp_down → c'.dat_down ≡ c.dat_down
    → DueIs pending c.req c.rsp_down c.dat_down d → DueIs pending c'.req c'.rsp_down c'.dat_down d
due_still pending c c' d req response given due = rw (req, response, given) due

pub answer_seen : Laws → (o : Observed) (s : LineState) (last : List ℕ) (agent : Agent) (snoop : Snoop) → agent.0 < 8 → Kept last s → Stands last s o
    → (cells_of s agent.0).snp ≡ Some snoop
    → (answer : Answer) × (shown : List ℕ) × (message_seen agent (answer_of (rn_of s agent.0).state snoop (rn_of s agent.0).words).1 ≡ up agent (SnpResp answer) shown)
    × Sent o (snooped_line s agent.0 snoop) last agent (SnpResp answer) shown
answer_seen laws o s last agent snoop low kept stands is =
    let n : ℕ = agent.0 in
    let k = kept.lanes n low in
    let rn = rn_of s n in
    let c = cells_of s n in
    let r : Reply agent rn.pending c rn.state snoop rn.words _ _ = reply agent rn.pending c rn.words rn.state snoop in
    let plain : Plain (lane s n) = unacked s.home.serving s.home.filter.unique s.home.filter.owner last n (lane s n) k (snoop_alone s.home.serving snoop n (k.snoop_fits snoop is)).0 in (
      r.answer,
      r.shown,
      r.seen,
      acted laws o s last last agent _ _ (rn_after_snoop rn snoop) (with_message (record c { snp = None }) (answer_of rn.state snoop rn.words).1) (SnpResp r.answer) r.shown low kept stands
          (puts_set no_line s.requesters n _ (within n _ low kept.requesters)) (puts_set no_flits s.flits n _ (within n _ low kept.flits))
          (record {
            allowed = subst (λ q. allows (SnpResp r.answer) q ≡ true) (sym ((stands.lanes n).snooped_is ∙ ap (option_map snoop_seen) is)) r.allowed;
            acts_so = answer_acts _ r.answer (o.public.due n) rn.state _ rn.pending c.dat_down _ c.rsp_down _ plain.given plain.response r.given r.response r.from r.leaves;
            shows = λ e. r.shows e ∙ sym (ap (words_by rn.words) plain.given);
            writes_none = refl;
            lasts = λ e. refl;
            words = λ holds e. ap (words_by rn.words) r.given;
            stored = λ e. no e;
            word = refl;
          })
          (record {
            within = subst (λ t. is_within (o.told n).told t rn.state ≡ true) (sym (r.told (o.told n).told)) (within_less _ (o.told n).told rn.state r.less);
            due = due_still rn.pending c (with_message (record c { snp = None }) (answer_of rn.state snoop rn.words).1) (o.public.due n) r.req r.response r.given (stands.lanes n).due_is;
            snoop = sym (ap (option_map snoop_seen) r.snp);
            gone = λ g. subst (λ t. (is_gone (is_given_up s.home.serving) rn.pending c.rsp_up c.dat_up ≡ true) ⊎ (same (strongest t) Invalid ≡ true)) (sym (r.told (o.told n).told)) (r.gone (is_given_up s.home.serving) g);
            shared = λ g. inr (subst (λ t. is_unique (strongest t) ≡ false) (sym (r.told (o.told n).told)) r.shared);
          }),
    )
