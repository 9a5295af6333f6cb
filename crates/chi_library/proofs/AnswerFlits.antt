-- The completion that an answer to a snoop brings has the answer's data, or the memory after it.
use Rattle.std.proofs.Common.{◌≡◌, List, [], ◌∷◌, ℕ, Bool, true, false, Option, Some, None, option_map, refl, ap, ◌∙◌, if◌then◌else◌}
use Rattle.chi_flit.specs.declared.action.Step.TheVariants as steps
use Rattle.chi_flit.specs.declared.credit.Profile.{Profile}
use Rattle.chi_flit.specs.declared.message.DatUp.{DatUp}
use Rattle.chi_flit.specs.declared.message.DatUp.TheVariants.{CopyBackWrData, SnpRespDataIPD, SnpRespDataSCPD, SnpRespDataSD}
use Rattle.chi_flit.specs.declared.message.Msg.{Msg}
use Rattle.chi_flit.specs.declared.message.Msg.TheVariants as messages
use Rattle.chi_flit.specs.declared.message.RspUp.{RspUp}
use Rattle.chi_flit.specs.declared.message.RspUp.TheVariants.{CompAck, SnpRespI, SnpRespSC}
use Rattle.chi_flit.specs.declared.numbers.Agent.{Agent}
use Rattle.chi_slice.specs.Words.{FilterState, has_any, Serving, SnoopAnswer, Home, answer_taken, completed_filter, completes_unique, completion_message, completion_of, data_to_send, finished_as, finished_sends_as, home_after_completion, memory_after, snoop_answered, after_step, answer_in, answered_by, data_answer, response_answer, where_some, answered_flits, completion_flits, flits_sent, LineState, cells_of, flit, flit_of}
use Rattle.chi_slice.specs.Servings.{AwaitingCompAck, AwaitingWriteData, Idle, Snooping}
use Rattle.chi_slice.specs.SnoopAnswers as answers
use Rattle.chi_library.specs.declared.flits.ChiFlit.{ChiFlit}
use Rattle.chi_library.specs.Flits.{taken_told}
use Rattle.chi_library.specs.Standing.{completed_standing, completion_standing, words_due}
use Rattle.chi_library.specs.Taken.{answer_message, message_taken}

-- that the request completes leaves the memory
finished_memory : (serving : Serving) (home : Home) → (finished_as serving home).memory ≡ home.memory
finished_memory Idle home = refl
finished_memory (Snooping agent kind slot) home = go (has_any home.awaited)
  where
    go : (b : Bool) → (if b then home else home_after_completion home kind agent slot).memory ≡ home.memory
    go true = refl
    go false = refl
finished_memory (AwaitingCompAck agent slot) home = refl
finished_memory (AwaitingWriteData agent kind slot) home = refl

answered_memory : (home : Home) (agent : Agent) (answer : SnoopAnswer) → (snoop_answered home agent answer).memory ≡ memory_after answer home.memory
answered_memory home agent answer = finished_memory home.serving (answer_taken home agent answer)

-- the data, by the message that was taken
abbrev due_by : Agent → Option Msg → List ℕ → List ℕ
due_by agent message memory = words_due (taken_told (flit_of agent message)).flit memory

abbrev words_sent : Option SnoopAnswer → List ℕ → List ℕ
words_sent None memory = memory
words_sent (Some answer) memory = data_to_send answer memory

abbrev found : Option RspUp → Option DatUp → Option SnoopAnswer
found response sent = response_answer response (data_answer sent)

by_data : (s : LineState) (agent : Agent) (sent : Option DatUp) → (cells_of s agent.0).dat_up ≡ sent
    → due_by agent (answer_message (cells_of s agent.0) (data_answer sent)) (where_some s (data_answer sent) (answered_by s agent)).home.memory ≡ words_sent (data_answer sent) s.home.memory
by_data s agent None is = refl
by_data s agent (Some (CopyBackWrData form words)) is = refl
by_data s agent (Some (SnpRespDataIPD words)) is =
    ap (λ (o : Option DatUp). due_by agent (option_map messages.DatUp o) (snoop_answered s.home agent (answers.IPD words)).memory) is ∙ answered_memory s.home agent (answers.IPD words)
by_data s agent (Some (SnpRespDataSCPD words)) is =
    ap (λ (o : Option DatUp). due_by agent (option_map messages.DatUp o) (snoop_answered s.home agent (answers.SCPD words)).memory) is ∙ answered_memory s.home agent (answers.SCPD words)
by_data s agent (Some (SnpRespDataSD words)) is =
    ap (λ (o : Option DatUp). due_by agent (option_map messages.DatUp o) (snoop_answered s.home agent (answers.SD words)).memory) is

by_answer : (s : LineState) (agent : Agent) (response : Option RspUp) → (cells_of s agent.0).rsp_up ≡ response
    → due_by agent (answer_message (cells_of s agent.0) (found response (cells_of s agent.0).dat_up)) (where_some s (found response (cells_of s agent.0).dat_up) (answered_by s agent)).home.memory
    ≡ words_sent (found response (cells_of s agent.0).dat_up) s.home.memory
by_answer s agent None is = by_data s agent (cells_of s agent.0).dat_up refl
by_answer s agent (Some CompAck) is = by_data s agent (cells_of s agent.0).dat_up refl
by_answer s agent (Some SnpRespI) is =
    ap (λ (o : Option RspUp). due_by agent (option_map messages.RspUp o) (snoop_answered s.home agent answers.I).memory) is ∙ answered_memory s.home agent answers.I
by_answer s agent (Some SnpRespSC) is =
    ap (λ (o : Option RspUp). due_by agent (option_map messages.RspUp o) (snoop_answered s.home agent answers.SC).memory) is ∙ answered_memory s.home agent answers.SC

-- a completion leaves the flag as it says
flag : (b : Bool) (f : FilterState) (n : ℕ) → (completed_filter b f n).unique ≡ b
flag true f n = refl
flag false f n = refl

-- the completion that the last answer brings, by what is served before it and after it
finished : (home : Home) (words : List ℕ) (serving : Serving) → home.serving ≡ serving
    → completion_standing serving (finished_as serving home).serving (finished_as serving home).filter.unique words ≡ completion_flits (finished_sends_as serving home words)
finished home words Idle is = refl
finished home words (AwaitingCompAck agent slot) is = refl
finished home words (AwaitingWriteData agent kind slot) is = refl
finished home words (Snooping agent kind slot) is = go (has_any home.awaited)
  where
    after_as : Bool → Home
    after_as b = if b then home else home_after_completion home kind agent slot

    still : completed_standing home.serving agent kind home.filter.unique words ≡ []
    still = rw is refl

    go : (b : Bool) → completed_standing (after_as b).serving agent kind (after_as b).filter.unique words
        ≡ completion_flits (if b then None else Some (record { agent = agent; message = completion_of home kind agent words }))
    go true = still
    go false = ap (λ (unique : Bool). flit agent (completion_message kind unique words) ∷ []) (flag (completes_unique kind home.filter agent.0) home.filter agent.0)

unanswered : (home : Home) (unique : Bool) (words : List ℕ) (serving : Serving) → home.serving ≡ serving → completion_standing serving home.serving unique words ≡ []
unanswered home unique words Idle is = refl
unanswered home unique words (AwaitingCompAck agent slot) is = refl
unanswered home unique words (AwaitingWriteData agent kind slot) is = refl
unanswered home unique words (Snooping agent kind slot) is = rw is refl

completed : (s : LineState) (agent : Agent) (answer : Option SnoopAnswer)
    → completion_standing s.home.serving (where_some s answer (answered_by s agent)).home.serving (where_some s answer (answered_by s agent)).home.filter.unique (words_sent answer s.home.memory) ≡ answered_flits s.home agent answer
completed s agent None = unanswered s.home s.home.filter.unique s.home.memory s.home.serving refl
completed s agent (Some answer) = finished (answer_taken s.home agent answer) (data_to_send answer s.home.memory) s.home.serving refl

pub answered : (profile : Profile) (s : LineState) (agent : Agent) (taken : ChiFlit) → taken ≡ (taken_told (flit_of agent (message_taken (cells_of s agent.0) steps.RecvSnpResp))).flit
    → completion_standing s.home.serving (after_step profile s agent steps.RecvSnpResp).home.serving (after_step profile s agent steps.RecvSnpResp).home.filter.unique
    (words_due taken (after_step profile s agent steps.RecvSnpResp).home.memory) ≡ flits_sent profile s agent steps.RecvSnpResp
answered profile s agent taken is =
    let left : Home = (after_step profile s agent steps.RecvSnpResp).home in
    ap (λ (words : List ℕ). completion_standing s.home.serving left.serving left.filter.unique words)
    (ap (λ (f : ChiFlit). words_due f left.memory) is ∙ by_answer s agent (cells_of s agent.0).rsp_up refl)
    ∙ completed s agent (answer_in (cells_of s agent.0))
