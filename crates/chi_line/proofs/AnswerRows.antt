-- RecvSnpResp is its row of the protocol.
use Rattle.std.proofs.Common.{◌≡◌, ℕ, ◌<◌, ◌++◌, List, [], ◌∷◌, length, Bool, true, false, Option, Some, None, is_some, option_map, ◌==◌, if◌then◌else◌, sym, subst, refl, ap, ◌∙◌, inl, inr, arith}
use Rattle.std.specs.List.Sorted.{IsPermutation}
use Rattle.std.proofs.lemmas.Bool.{both_ways, ne_eqb}
use Rattle.std.proofs.lemmas.List.{length-set}
use Rattle.chi_flit.specs.declared.numbers.Agent.{Agent}
use Rattle.chi_flit.specs.declared.numbers.Line.{Line}
use Rattle.chi_flit.specs.declared.numbers.Slot.{Slot}
use Rattle.chi_flit.specs.declared.kind.Kind.{Kind}
use Rattle.chi_flit.specs.declared.kind.Kind.TheVariants.{ReadShared}
use Rattle.chi_flit.specs.declared.snoop.Snoop.TheVariants.{SnpShared}
use Rattle.chi_flit.specs.declared.credit.Profile.{Profile}
use Rattle.chi_flit.specs.declared.action.Step.TheVariants as steps
use Rattle.chi_flit.specs.declared.action.Effect.TheVariants.{Nothing}
use Rattle.chi_flit.specs.declared.message.Msg.{Msg}
use Rattle.chi_flit.specs.declared.message.Msg.TheVariants as messages
use Rattle.chi_flit.specs.declared.message.RspUp.{RspUp}
use Rattle.chi_flit.specs.declared.message.RspUp.TheVariants.{SnpRespI, SnpRespSC}
use Rattle.chi_flit.specs.declared.message.DatUp.{DatUp}
use Rattle.chi_flit.specs.declared.message.DatUp.TheVariants.{SnpRespDataIPD, SnpRespDataSCPD, SnpRespDataSD}
use Rattle.chi_flit.specs.Kind.{snoop_of}
use Rattle.chi_filter.specs.Filter.{has_any, is_in, is_named, others_than}
use Rattle.chi_wires.specs.declared.cells.Cells.{Cells}
use Rattle.chi_wires.specs.Flight.{Flit, flit, flit_of, in_flight}
use Rattle.chi_homeline.specs.declared.serving.Serving.{Serving}
use Rattle.chi_homeline.specs.declared.serving.Serving.TheVariants.{Snooping}
use Rattle.chi_homeline.specs.declared.serving.SnoopAnswer.{SnoopAnswer}
use Rattle.chi_homeline.specs.declared.serving.SnoopAnswer.TheVariants as answers
use Rattle.chi_homeline.specs.Home.{answer_taken, completed_filter, completes_unique, completion_message, completion_of, data_to_send, filter_after, home_after_completion, memory_after, snoop_answered_sends}
use Rattle.chi_line.specs.LineState.{LineState, cells_of}
use Rattle.chi_line.specs.Kept.{IsServedRight, Kept, lane, snoop_out, snoops_for}
use Rattle.chi_line.specs.Snooped.{answer_channel}
use Rattle.chi_line.specs.Step.{answered_by}
use Rattle.chi_line.specs.Traffic.{completion_flits, flit_on}
use Rattle.chi_line.specs.Protocol.Serving.{Snooping as protocol_snooping}
use Rattle.chi_line.specs.Protocol.{LineStep, AnswerRow, Somebody, Nobody, Standing, given_by, with_for}
use Rattle.chi_line.specs.Meaning.{set_of, standing_of}
use Rattle.chi_line.proofs.Asks.{same}
use Rattle.chi_line.proofs.CopyKeeps.{IsSnooping, is_snooping}
use Rattle.chi_line.proofs.WriteLanes.{Brings, answer_awaited}
use Rattle.chi_line.proofs.StandingParts.{in_serving, leaves_filter, nobody, others_are, owner_is, somebody, with_filter}
use Rattle.chi_line.proofs.CompletionRows.{DataFits, completes}

-- an answer's message
abbrev pub message_of : SnoopAnswer → Msg
message_of answers.I = messages.RspUp SnpRespI
message_of answers.SC = messages.RspUp SnpRespSC
message_of (answers.IPD words) = messages.DatUp (SnpRespDataIPD words)
message_of (answers.SCPD words) = messages.DatUp (SnpRespDataSCPD words)
message_of (answers.SD words) = messages.DatUp (SnpRespDataSD words)

-- the line with memory and filter after an answer
abbrev answered_standing : LineState → Agent → SnoopAnswer → Standing
answered_standing s m answer = with_filter (record (standing_of s) { memory = memory_after answer s.home.memory }) (filter_after answer s.home.filter m)

-- what the answer does
answers_is : (s : LineState) (m : Agent) (answer : SnoopAnswer) → m.0 < length s.home.filter.named → AnswerRow m (message_of answer) (standing_of s) (answered_standing s m answer)
answers_is s m answers.I low = leaves_filter (standing_of s) s.home.filter m low
answers_is s m answers.SC low = λ i. record (standing_of s) { unique = false; owner = owner_is s.home.filter.owner m i }
answers_is s m (answers.IPD words) low = leaves_filter (record (standing_of s) { memory = words }) s.home.filter m low
answers_is s m (answers.SCPD words) low = λ i. record (standing_of s) { unique = false; memory = words; owner = owner_is s.home.filter.owner m i }
answers_is s m (answers.SD words) low = refl

-- the flit that is taken
taken_is : (s : LineState) (m : Agent) (answer : SnoopAnswer) → Brings (cells_of s m.0).rsp_up (cells_of s m.0).dat_up answer → flit_on s m (answer_channel answer) ≡ flit m (message_of answer) ∷ []
taken_is s m answers.I here = ap (λ (o : Option RspUp). flit_of m (option_map messages.RspUp o)) here
taken_is s m answers.SC here = ap (λ (o : Option RspUp). flit_of m (option_map messages.RspUp o)) here
taken_is s m (answers.IPD words) here = ap (λ (o : Option DatUp). flit_of m (option_map messages.DatUp o)) here
taken_is s m (answers.SCPD words) here = ap (λ (o : Option DatUp). flit_of m (option_map messages.DatUp o)) here
taken_is s m (answers.SD words) here = ap (λ (o : Option DatUp). flit_of m (option_map messages.DatUp o)) here

left_long : (s : LineState) (m : Agent) (answer : SnoopAnswer) → length s.home.filter.named ≡ 8 → length (filter_after answer s.home.filter m).named ≡ 8
left_long s m answers.I eight = length-set s.home.filter.named m.0 false ∙ eight
left_long s m answers.SC eight = eight
left_long s m (answers.IPD words) eight = length-set s.home.filter.named m.0 false ∙ eight
left_long s m (answers.SCPD words) eight = eight
left_long s m (answers.SD words) eight = eight

-- what is known of the sender m of an answer, and of the agent that is snooped for
pub record MayAnswer (s : LineState) (m : Agent) (answer : SnoopAnswer) (agent : Agent) (kind : Kind) : Type 0 where
  pub here : m.0 < 8
  pub served : agent.0 < 8
  pub named : length s.home.filter.named ≡ 8
  pub long : length s.home.awaited ≡ 8
  pub awaited : is_in s.home.awaited m.0 ≡ true
  pub is_named : is_named s.home.filter m.0 ≡ true
  pub apart : (m.0 == agent.0) ≡ false
  pub snoops : is_some (snoop_of kind) ≡ true
  pub shared : (words : List ℕ) → answer ≡ answers.SD words → kind ≡ ReadShared

data_fits : (s : LineState) (m : Agent) (answer : SnoopAnswer) (agent : Agent) (kind : Kind) → MayAnswer s m answer agent kind
    → DataFits kind agent (answered_standing s m answer) (given_by (message_of answer) (memory_after answer s.home.memory)) (data_to_send answer s.home.memory)
data_fits s m answers.I agent kind may = record { is = refl; memory = λ _. refl }
data_fits s m answers.SC agent kind may = record { is = refl; memory = λ _. refl }
data_fits s m (answers.IPD sent) agent kind may = record { is = refl; memory = λ _. refl }
data_fits s m (answers.SCPD sent) agent kind may = record { is = refl; memory = λ _. refl }
data_fits s m (answers.SD sent) agent kind may = record {
  is = refl;
  memory = λ unshared. absurd (unshared (may.shared sent refl, (m, ap (λ (b : Bool). if b then false else is_named s.home.filter m.0) may.apart ∙ may.is_named)));
}

-- the line that snoops for an agent's request
abbrev snooping_line : LineState → Agent → Kind → Slot → LineState
snooping_line s agent kind slot = record s { home = record s.home { serving = Snooping agent kind slot } }

row_if : (profile : Profile) (line : Line) (s : LineState) (m : Agent) (answer : SnoopAnswer) (agent : Agent) (kind : Kind) (slot : Slot) (may : MayAnswer s m answer agent kind) (flits : List Cells)
    → (b : Bool) → has_any (others_than m.0 s.home.awaited) ≡ b
    → IsPermutation (flit m (message_of answer) ∷ [] ++ in_flight flits)
    (completion_flits (if b then None else Some (record { agent = agent; message = completion_of (answer_taken (snooping_line s agent kind slot).home m answer) kind agent (data_to_send answer s.home.memory) })) ++ in_flight s.flits)
    → LineStep profile line m steps.RecvSnpResp (standing_of (snooping_line s agent kind slot)) Nothing None
    (standing_of (record s { home = if b then answer_taken (snooping_line s agent kind slot).home m answer else home_after_completion (answer_taken (snooping_line s agent kind slot).home m answer) kind agent slot; flits = flits }))
row_if profile line s m answer agent kind slot may flits true is moves =
    let left : set_of (others_than m.0 s.home.awaited) ≡ with_for (set_of s.home.awaited) m false = others_are s.home.awaited m (subst (λ (k : ℕ). m.0 < k) (sym may.long) may.here) in (
      (refl, refl),
      agent,
      kind,
      slot,
      set_of s.home.awaited,
      refl,
      may.awaited,
      message_of answer,
      answered_standing (snooping_line s agent kind slot) m answer,
      answers_is (snooping_line s agent kind slot) m answer (subst (λ (k : ℕ). m.0 < k) (sym may.named) may.here),
      inl (
        subst Somebody left (somebody (others_than m.0 s.home.awaited) is),
        (λ i. record (answered_standing s m answer) { serving = protocol_snooping agent kind slot (left i); flits = in_flight flits }, moves),
      ),
    )
row_if profile line s m answer agent kind slot may flits false is moves = (
  (refl, refl),
  agent,
  kind,
  slot,
  set_of s.home.awaited,
  refl,
  may.awaited,
  message_of answer,
  answered_standing (snooping_line s agent kind slot) m answer,
  answers_is (snooping_line s agent kind slot) m answer (subst (λ (k : ℕ). m.0 < k) (sym may.named) may.here),
  inr (
    subst Nobody (others_are s.home.awaited m (subst (λ (k : ℕ). m.0 < k) (sym may.long) may.here)) (nobody (others_than m.0 s.home.awaited) is),
    completion_message kind (completes_unique kind (filter_after answer s.home.filter m) agent.0) (data_to_send answer s.home.memory),
    with_filter (answered_standing (snooping_line s agent kind slot) m answer) (completed_filter (completes_unique kind (filter_after answer s.home.filter m) agent.0) (filter_after answer s.home.filter m) agent.0),
    completes kind (given_by (message_of answer) (memory_after answer s.home.memory)) (data_to_send answer s.home.memory) (record (standing_of (snooping_line s agent kind slot)) { memory = memory_after answer s.home.memory }) (filter_after answer s.home.filter m) agent may.snoops
        may.served (left_long s m answer may.named) (data_fits (snooping_line s agent kind slot) m answer agent kind (record {
          here = may.here;
          served = may.served;
          named = may.named;
          long = may.long;
          awaited = may.awaited;
          is_named = may.is_named;
          apart = may.apart;
          snoops = may.snoops;
          shared = may.shared;
        })),
    (refl, moves),
  ),
)

-- out of what the line keeps
is_shared_read : (kind : Kind) → snoop_of kind ≡ Some SnpShared → kind ≡ ReadShared
is_shared_read kind is = search arith

may_answer : (last : List ℕ) (s : LineState) (m : Agent) (answer : SnoopAnswer) (is : IsSnooping s.home.serving) → m.0 < 8
    → Brings (cells_of s m.0).rsp_up (cells_of s m.0).dat_up answer → is_in s.home.awaited m.0 ≡ true → Kept last s → MayAnswer s m answer is.agent is.kind
may_answer last s m answer is low here awaited k =
    let served : is.agent.0 < 8 = subst IsServedRight is.serving_is k.in_range in
    record {
      here = low;
      served = served;
      named = k.named;
      long = k.awaited;
      awaited = awaited;
      is_named = (k.lanes m.0 low).awaited_named awaited;
      apart = ne_eqb m.0 is.agent.0 (λ (e : m.0 ≡ is.agent.0). both_ways (is_in s.home.awaited is.agent.0)
          ((k.lanes is.agent.0 served).snooped_alone (ap (λ (v : Serving). snoops_for v is.agent.0) is.serving_is ∙ same is.agent.0))
          (subst (λ (j : ℕ). is_in s.home.awaited j ≡ true) e awaited));
      snoops = sym (ap (λ (v : Serving). is_some (snoop_out v)) is.serving_is) ∙ (k.lanes m.0 low).awaited_snooped awaited;
      shared = λ words e. is_shared_read is.kind (sym (ap snoop_out is.serving_is) ∙ ((k.lanes m.0 low).dirty_data words (subst (Brings (cells_of s m.0).rsp_up (cells_of s m.0).dat_up) e here)).1);
    }

again : (s : LineState) (m : Agent) (answer : SnoopAnswer) (agent : Agent) (kind : Kind) (slot : Slot) → MayAnswer (snooping_line s agent kind slot) m answer agent kind → MayAnswer s m answer agent kind
again s m answer agent kind slot may = record { here = may.here; served = may.served; named = may.named; long = may.long; awaited = may.awaited; is_named = may.is_named; apart = may.apart; snoops = may.snoops; shared = may.shared }

pub row_answer : (profile : Profile) (line : Line) (last : List ℕ) (s : LineState) (m : Agent) (answer : SnoopAnswer) → m.0 < 8
    → Brings (cells_of s m.0).rsp_up (cells_of s m.0).dat_up answer → Kept last s
    → IsPermutation (flit_on s m (answer_channel answer) ++ in_flight (answered_by s m answer).flits) (completion_flits (snoop_answered_sends s.home m answer) ++ in_flight s.flits)
    → LineStep profile line m steps.RecvSnpResp (standing_of s) Nothing None (standing_of (answered_by s m answer))
row_answer profile line last s m answer low here k moves =
    let awaited : is_in s.home.awaited m.0 ≡ true = answer_awaited answer s.home.serving s.home.filter.unique s.home.filter.owner last m.0 (lane s m.0) here (k.lanes m.0 low) in
    let is : IsSnooping s.home.serving = is_snooping s.home.serving ((k.lanes m.0 low).awaited_snooped awaited) in
    in_serving (λ (v : LineState). MayAnswer v m answer is.agent is.kind
    → IsPermutation (flit m (message_of answer) ∷ [] ++ in_flight (answered_by v m answer).flits) (completion_flits (snoop_answered_sends v.home m answer) ++ in_flight v.flits)
    → LineStep profile line m steps.RecvSnpResp (standing_of v) Nothing None (standing_of (answered_by v m answer)))
    s (Snooping is.agent is.kind is.slot) is.serving_is
    (λ may moved. row_if profile line s m answer is.agent is.kind is.slot (again s m answer is.agent is.kind is.slot may) (answered_by (snooping_line s is.agent is.kind is.slot) m answer).flits (has_any (others_than m.0 s.home.awaited)) refl moved)
    (may_answer last s m answer is low here awaited k)
    (subst (λ (t : List Flit). IsPermutation (t ++ in_flight (answered_by s m answer).flits) (completion_flits (snoop_answered_sends s.home m answer) ++ in_flight s.flits)) (taken_is s m answer here) moves)
