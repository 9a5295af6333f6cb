-- Each step of a line but a load sends flits that are taken word by word.
use Rattle.std.proofs.Common.{◌≡◌, ℕ, ◌+◌, ◌<◌, List, [], ◌∷◌, refl, sym, ap, subst, set}
use Rattle.std.specs.Prelude.{Bool, true, false, ◌==◌, map, nat_lt, Option, Some, None, if◌then◌else◌}
use Rattle.chi_flit.specs.declared.numbers.Agent.{Agent}
use Rattle.chi_flit.specs.declared.numbers.Line.{Line}
use Rattle.chi_flit.specs.declared.numbers.WordNo.{WordNo}
use Rattle.chi_flit.specs.declared.snoop.Snoop.{Snoop}
use Rattle.chi_flit.specs.declared.credit.Profile.{Profile}
use Rattle.chi_flit.specs.declared.action.Step.{Step}
use Rattle.chi_flit.specs.declared.action.Step.TheVariants as steps
use Rattle.chi_flit.specs.declared.message.Msg.{Msg}
use Rattle.chi_flit.specs.declared.message.Msg.TheVariants.{Req, Snp, RspDown, DatDown, RspUp, DatUp}
use Rattle.chi_flit.specs.declared.message.RspUp.{RspUp as Reply}
use Rattle.chi_flit.specs.declared.message.RspUp.TheVariants.{SnpRespI, SnpRespSC, CompAck}
use Rattle.chi_flit.specs.declared.message.DatUp.{DatUp as Sent}
use Rattle.chi_flit.specs.declared.message.DatUp.TheVariants.{CopyBackWrData}
use Rattle.chi_flit.specs.Message.{no_words, write_data_of}
use Rattle.chi_wires.specs.Flight.{flit_of, snoop_flits}
use Rattle.chi_rnline.specs.Rn.{load_refusal}
use Rattle.chi_homeline.specs.declared.serving.Completion.{Completion}
use Rattle.chi_homeline.specs.declared.serving.SnoopAnswer.{SnoopAnswer}
use Rattle.chi_homeline.specs.declared.serving.Waiting.{Waiting}
use Rattle.chi_homeline.specs.Home.{Home, Started, snoop_answered_sends, started_sends, waiting_of}
use Rattle.chi_homeline.specs.Home.Started.{Evicted, Sends, Snoops}
use Rattle.chi_line.specs.declared.act.Conditions.{Conditions}
use Rattle.chi_line.specs.LineState.{LineState, cells_of, rn_of}
use Rattle.chi_line.specs.Kept.{Kept}
use Rattle.chi_line.specs.Refused.{step_refusal}
use Rattle.chi_line.specs.Step.{after_step, answer_in, step_record}
use Rattle.chi_line.specs.Traffic.{answered_flits, completion_ack, completion_flits, request_again, retry_ack, snoop_answer, start_flits, started_flits}
use Rattle.chi_line.proofs.After.{last_with, names_used_slot}
use Rattle.chi_line.proofs.Asks.{same}
use Rattle.chi_observer.specs.Rules.{word_at}
use Rattle.chi_observer.specs.WordedLines.{WatchedWords}
use Rattle.chi_conformity.specs.Seen.{flit_seen, message_seen, step_seen}
use Rattle.chi_conformity.proofs.Flits.{Laws}
use Rattle.chi_conformity.proofs.Steps.{load_valid, step_follows}
use Rattle.chi_conformity.proofs.Taken.{Follows}
use Rattle.chi_conformity.proofs.Told.{no}
use Rattle.chi_conformity.proofs.Words.{FollowsByWord, StandsByWord, is_plain, store_known}

-- WHAT A STEP SENDS, IF IT IS NEITHER A LOAD NOR A STORE
plain_reply : (n : Agent) (reply : Reply) → is_plain (message_seen n (RspUp reply) ∷ []) ≡ true
plain_reply n SnpRespI = refl
plain_reply n SnpRespSC = refl
plain_reply n CompAck = refl

plain_sent : (n : Agent) (sent : Sent) → is_plain (message_seen n (DatUp sent) ∷ []) ≡ true
plain_sent n (CopyBackWrData form words) = refl
plain_sent n other = refl

plain_message : (n : Agent) (message : Msg) → is_plain (message_seen n message ∷ []) ≡ true
plain_message n (Req request) = go request.allow_retry
  where
    go : (b : Bool) → is_plain (message_seen n (Req (record request { allow_retry = b })) ∷ []) ≡ true
    go true = refl
    go false = refl
plain_message n (Snp snoop) = refl
plain_message n (RspDown response) = refl
plain_message n (DatDown sent) = refl
plain_message n (RspUp reply) = plain_reply n reply
plain_message n (DatUp sent) = plain_sent n sent

plain_flit : (n : Agent) (message : Option Msg) → is_plain (map flit_seen (flit_of n message)) ≡ true
plain_flit n None = refl
plain_flit n (Some message) = plain_message n message

plain_snoops : (first : ℕ) (agents : List Bool) (snoop : Snoop) → is_plain (map flit_seen (snoop_flits first agents snoop)) ≡ true
plain_snoops first [] snoop = refl
plain_snoops first (true ∷ agents) snoop = plain_snoops (first + 1) agents snoop
plain_snoops first (false ∷ agents) snoop = plain_snoops (first + 1) agents snoop

plain_started : (n : Agent) (started : Started) → is_plain (map flit_seen (start_flits n started)) ≡ true
plain_started n (Sends message) = plain_message n message
plain_started n (Evicted slot) = refl
plain_started n (Snoops snoop agents) = plain_snoops 0 agents snoop

plain_start : (home : Home) (n : Agent) (waiting : Option Waiting) → is_plain (map flit_seen (started_flits home n waiting)) ≡ true
plain_start home n None = refl
plain_start home n (Some request) = plain_started n (started_sends home n request)

plain_completion : (completion : Option Completion) → is_plain (map flit_seen (completion_flits completion)) ≡ true
plain_completion None = refl
plain_completion (Some completion) = plain_message completion.agent completion.message

plain_answered : (home : Home) (n : Agent) (answer : Option SnoopAnswer) → is_plain (map flit_seen (answered_flits home n answer)) ≡ true
plain_answered home n None = refl
plain_answered home n (Some answer) = plain_completion (snoop_answered_sends home n answer)

abbrev is_access_step : Step → Bool
is_access_step (steps.Load word) = true
is_access_step (steps.Store word value) = true
is_access_step other = false

pub plain_step : (profile : Profile) (s : LineState) (n : Agent) (step : Step) → is_access_step step ≡ false → is_plain (step_seen profile s n step) ≡ true
plain_step profile s n (steps.Load word) h = no (sym h)
plain_step profile s n (steps.Store word value) h = no (sym h)
plain_step profile s n (steps.Issue kind slot) h = refl
plain_step profile s n steps.Retry h = plain_flit n (retry_ack profile (cells_of s n.0).req)
plain_step profile s n steps.Resend h = plain_flit n (request_again (rn_of s n.0).pending)
plain_step profile s n steps.Start h = plain_start s.home n (waiting_of s.home n.0)
plain_step profile s n steps.RecvSnp h = plain_flit n (snoop_answer (rn_of s n.0) (cells_of s n.0).snp)
plain_step profile s n steps.RecvSnpResp h = plain_answered s.home n (answer_in (cells_of s n.0))
plain_step profile s n steps.RecvComp h = plain_flit n (completion_ack (cells_of s n.0).rsp_down)
plain_step profile s n steps.RecvDbid h = plain_message n (DatUp (write_data_of (rn_of s n.0).state (rn_of s n.0).words))
plain_step profile s n other h = refl

-- EACH STEP
where_same : (l : ℕ) (x y : List ℕ) → (if l == l then x else y) ≡ x
where_same l x y = rw (same l) refl

pub loaded_last : (last : List ℕ) (s : LineState) (n p : ℕ) → n < 8 → Kept last s → load_refusal (rn_of s n) ≡ None → word_at last p ≡ word_at (rn_of s n).words p
loaded_last last s n p low kept may = ap (λ (words : List ℕ). word_at words p) (sym ((kept.lanes n low).holder_last (load_valid s n may)))

pub store_follows_by_word : Laws → (c : Conditions) (last : List ℕ) (s : LineState) (agent : Agent) (line : Line) (word : WordNo) (value : ℕ) (w : WatchedWords) → agent.0 < 8 → nat_lt word.0 8 ≡ true
    → step_refusal c s agent (steps.Store word value) ≡ None → (c.slot_used ≡ false → names_used_slot s agent.0 (steps.Store word value) ≡ false) → Kept last s → StandsByWord last s w
    → FollowsByWord (last_with line.0 last (step_record s agent line (steps.Store word value))) (after_step c.profile s agent (steps.Store word value)) w (step_seen c.profile s agent (steps.Store word value))
store_follows_by_word laws c last s agent line word value w low placed allowed free kept stands =
    let step : Step = steps.Store word value in
    let last' : List ℕ = set last word.0 value in
    let is : last_with line.0 last (step_record s agent line step) ≡ last' = where_same line.0 last' last in
    let follows : Follows last' (after_step c.profile s agent step) w.line (step_seen c.profile s agent step) =
    subst (λ (v : List ℕ). Follows v (after_step c.profile s agent step) w.line (step_seen c.profile s agent step)) is (step_follows laws c last s agent line step w.line low allowed free kept stands.0) in
    let known = store_known w agent (record { place = word; value = value }) no_words last s placed stands.0 stands.1 follows.0 in
    subst (λ (v : List ℕ). FollowsByWord v (after_step c.profile s agent step) w (step_seen c.profile s agent step)) (sym is) (known.0, (follows.1, known.1))
