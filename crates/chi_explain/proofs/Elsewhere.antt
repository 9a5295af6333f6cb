-- A step sends flits on one agent's channels alone, snoops aside: on the channels of each other agent is what was there
-- before, or nothing.
use Rattle.std.proofs.Common.{◌≡◌, ◌≢◌, ◌⊎◌, inl, inr, ⊎_elim, ℕ, zero, suc, ◌<◌, ◌≤◌, Bool, true, false, nat_lt, if◌then◌else◌, List, [], ◌∷◌, ◌++◌, length, get_or, set, Option, Some, None, is_some, option_map, refl, sym, ap, subst, ◌∙◌, append-nil, arith}
use Rattle.std.proofs.lemmas.Bool.{cases_eq, cases_lt}
use Rattle.std.proofs.lemmas.List.{get_or-set_same, get_or-set_other, set_past}
use Rattle.chi_flit.specs.Numbers.{agent_at}
use Rattle.chi_flit.specs.declared.action.Step.{Step}
use Rattle.chi_flit.specs.declared.action.Step.TheVariants as steps
use Rattle.chi_flit.specs.declared.credit.Profile.{Profile}
use Rattle.chi_flit.specs.declared.kind.Kind.{Kind}
use Rattle.chi_flit.specs.declared.message.DatUp.{DatUp}
use Rattle.chi_flit.specs.declared.message.DatUp.TheVariants.{CopyBackWrData}
use Rattle.chi_flit.specs.declared.message.Msg.{Msg}
use Rattle.chi_flit.specs.declared.message.RspDown.{RspDown}
use Rattle.chi_flit.specs.declared.message.RspDown.TheVariants.{CompUC, CompI}
use Rattle.chi_flit.specs.declared.numbers.Agent.{Agent}
use Rattle.chi_flit.specs.declared.snoop.Snoop.{Snoop}
use Rattle.chi_slice.specs.Words.{has_any}
use Rattle.chi_homeline.specs.Home.{Home, Started, answer_taken, completion_of, data_to_send, finished_sends_as, served_kind, started_sends}
use Rattle.chi_homeline.specs.Home.Started.{Sends, Evicted, Snoops}
use Rattle.chi_homeline.specs.declared.serving.Serving.{Serving}
use Rattle.chi_homeline.specs.declared.serving.Serving.TheVariants.{Idle, Snooping, AwaitingCompAck, AwaitingWriteData}
use Rattle.chi_homeline.specs.declared.serving.SnoopAnswer.{SnoopAnswer}
use Rattle.chi_homeline.specs.declared.serving.SnoopAnswer.TheVariants as answers
use Rattle.chi_line.specs.LineState.{LineState, cells_of, opening_line}
use Rattle.chi_line.specs.Snooped.{answer_channel, completion_put}
use Rattle.chi_line.specs.Step.{after_step, answered_by, completion_received, data_written, flits_after_start, where_some}
use Rattle.chi_wires.specs.Cell.{no_flits, without_message}
use Rattle.chi_wires.specs.Flits.{cells_at, with_snoops}
use Rattle.chi_wires.specs.declared.cells.Cells.{Cells}
use Rattle.chi_explain.specs.declared.observed.Observed.{Observed}
use Rattle.chi_slice.specs.Slice.{SliceState, line, row_of_line, slice_after}
use Rattle.chi_explain.specs.declared.sent.Busy.{Busy}
use Rattle.chi_explain.specs.Explained.{line_action}
use Rattle.chi_explain.specs.Sent.{busy_in, flit_agent, new_flit, sent_below, sent_between, sent_of_agent, served_or}

-- a channel has what it had, or nothing
abbrev pub IsNoneNew : {A : Type 0} → Option A → Option A → Type 0
IsNoneNew before after = (after ≡ before) ⊎ (after ≡ None)

pub record NoneNew (before after : Cells) : Type 0 where
  pub req : IsNoneNew before.req after.req
  pub rsp_down : IsNoneNew before.rsp_down after.rsp_down
  pub dat_down : IsNoneNew before.dat_down after.dat_down
  pub rsp_up : IsNoneNew before.rsp_up after.rsp_up
  pub dat_up : IsNoneNew before.dat_up after.dat_up

none_new : {A : Type 0} (n : Agent) (f : A → Msg) (before after : Option A) → IsNoneNew before after → new_flit n (is_some before) (option_map f after) ≡ []
none_new n f None None h = refl
none_new n f (Some x) after h = refl
none_new n f None (Some y) (inl e) = absurd (cc (e))
none_new n f None (Some y) (inr e) = absurd (cc (e))

all_none : (a b c d e : List Observed) → a ≡ [] → b ≡ [] → c ≡ [] → d ≡ [] → e ≡ [] → a ++ (b ++ (c ++ (d ++ e))) ≡ []
all_none a b c d e p q r s t = subst (λ (x : List Observed). x ++ (b ++ (c ++ (d ++ e))) ≡ []) (sym p)
    (subst (λ (x : List Observed). x ++ (c ++ (d ++ e)) ≡ []) (sym q)
    (subst (λ (x : List Observed). x ++ (d ++ e) ≡ []) (sym r)
    (subst (λ (x : List Observed). x ++ e ≡ []) (sym s) t)))

pub nothing_sent : (n : Agent) (before after : Cells) → NoneNew before after → sent_of_agent n (busy_in before) after ≡ []
unfolding sent_of_agent
nothing_sent n before after none = all_none _ _ _ _ _
    (none_new n _ before.req after.req none.req)
    (none_new n _ before.rsp_down after.rsp_down none.rsp_down)
    (none_new n _ before.dat_down after.dat_down none.dat_down)
    (none_new n _ before.rsp_up after.rsp_up none.rsp_up)
    (none_new n _ before.dat_up after.dat_up none.dat_up)

pub as_before : (before after : Cells) → after ≡ before → NoneNew before after
as_before before after e = record {
  req = inl (ap (λ (c : Cells). c.req) e);
  rsp_down = inl (ap (λ (c : Cells). c.rsp_down) e);
  dat_down = inl (ap (λ (c : Cells). c.dat_down) e);
  rsp_up = inl (ap (λ (c : Cells). c.rsp_up) e);
  dat_up = inl (ap (λ (c : Cells). c.dat_up) e);
}

pub snooped : (before : Cells) (snoop : Snoop) → NoneNew before (record before { snp = Some snoop })
snooped before snoop = record { req = inl refl; rsp_down = inl refl; dat_down = inl refl; rsp_up = inl refl; dat_up = inl refl }

pub answered : (before : Cells) (answer : SnoopAnswer) → NoneNew before (without_message before (answer_channel answer))
answered before answers.I = record { req = inl refl; rsp_down = inl refl; dat_down = inl refl; rsp_up = inr refl; dat_up = inl refl }
answered before answers.SC = record { req = inl refl; rsp_down = inl refl; dat_down = inl refl; rsp_up = inr refl; dat_up = inl refl }
answered before (answers.IPD words) = record { req = inl refl; rsp_down = inl refl; dat_down = inl refl; rsp_up = inl refl; dat_up = inr refl }
answered before (answers.SCPD words) = record { req = inl refl; rsp_down = inl refl; dat_down = inl refl; rsp_up = inl refl; dat_up = inr refl }
answered before (answers.SD words) = record { req = inl refl; rsp_down = inl refl; dat_down = inl refl; rsp_up = inl refl; dat_up = inr refl }

-- of an agent
abbrev NoneNewAt : List Cells → List Cells → ℕ → Type 0
NoneNewAt before after n = NoneNew (cells_at before n) (cells_at after n)

same_at : (flits : List Cells) (n : ℕ) → NoneNewAt flits flits n
same_at flits n = as_before _ _ refl

set_elsewhere : (flits : List Cells) (n m : ℕ) (cells : Cells) → n ≢ m → NoneNewAt flits (set flits m cells) n
set_elsewhere flits n m cells apart = as_before _ _ (get_or-set_other flits m n cells no_flits apart)

snoops_sent : (marks : List Bool) (snoop : Snoop) (flits : List Cells) (n : ℕ) → NoneNewAt flits (with_snoops marks snoop flits) n
snoops_sent [] snoop flits n = same_at flits n
snoops_sent (marked ∷ marks) snoop [] n = same_at [] n
snoops_sent (true ∷ marks) snoop (cells ∷ flits) zero = snooped cells snoop
snoops_sent (false ∷ marks) snoop (cells ∷ flits) zero = as_before _ _ refl
snoops_sent (true ∷ marks) snoop (cells ∷ flits) (suc n) = snoops_sent marks snoop flits n
snoops_sent (false ∷ marks) snoop (cells ∷ flits) (suc n) = snoops_sent marks snoop flits n

start_sent : (flits : List Cells) (m n : ℕ) (sends : Started) → n ≢ m → NoneNewAt flits (flits_after_start flits m sends) n
start_sent flits m n (Sends message) apart = set_elsewhere flits n m _ apart
start_sent flits m n (Evicted slot) apart = set_elsewhere flits n m _ apart
start_sent flits m n (Snoops snoop marks) apart = snoops_sent marks snoop flits n

-- a step that takes something away
abbrev NoneNewIn : LineState → LineState → ℕ → Type 0
NoneNewIn before after n = NoneNewAt before.flits after.flits n

where_it_is : {A : Type 0} (s : LineState) (taken : Option A) (step : A → LineState) (n : ℕ) → ((it : A) → NoneNewIn s (step it) n) → NoneNewIn s (where_some s taken step) n
where_it_is s None step n each = same_at s.flits n
where_it_is s (Some it) step n each = each it

comp_received : (s : LineState) (m n : ℕ) (response : Option RspDown) → n ≢ m → NoneNewIn s (completion_received s m response) n
comp_received s m n (Some CompUC) apart = set_elsewhere s.flits n m _ apart
comp_received s m n (Some CompI) apart = set_elsewhere s.flits n m _ apart
comp_received s m n other apart = same_at s.flits n

data_received : (s : LineState) (m n : ℕ) (kind : Kind) (data_up : Option DatUp) → n ≢ m → NoneNewIn s (data_written s m kind data_up) n
data_received s m n kind (Some (CopyBackWrData form words)) apart = set_elsewhere s.flits n m _ apart
data_received s m n kind other apart = same_at s.flits n

-- a completion goes to the agent that is snooped for
apart_from : (served agent : Agent) (n : ℕ) → n < 8 → n ≢ (if nat_lt served.0 8 then served else agent).0 → n ≢ served.0
apart_from served agent n low = go (nat_lt served.0 8) (λ (is : nat_lt served.0 8 ≡ false). grind (arith, is))
  where
    go : (b : Bool) → (b ≡ false → 8 ≤ served.0) → n ≢ (if b then served else agent).0 → n ≢ served.0
    go true past apart = apart
    go false past apart = λ e. omega (arith, past refl, low, e)

completed : (flits : List Cells) (serving : Serving) (home : Home) (words : List ℕ) (agent : Agent) (n : ℕ) → n < 8 → n ≢ (served_or serving agent).0
    → cells_at (completion_put flits (finished_sends_as serving home words)) n ≡ cells_at flits n
completed flits (Snooping served kind slot) home words agent n low apart = go (has_any home.awaited)
  where
    go : (b : Bool) → cells_at (completion_put flits (if b then None else Some (record { agent = served; message = completion_of home kind served words }))) n ≡ cells_at flits n
    go true = refl
    go false = get_or-set_other flits served.0 n _ no_flits (apart_from served agent n low apart)
completed flits Idle home words agent n low apart = refl
completed flits (AwaitingCompAck by slot) home words agent n low apart = refl
completed flits (AwaitingWriteData by kind slot) home words agent n low apart = refl

answer_at : (flits : List Cells) (m n : ℕ) (answer : SnoopAnswer) → NoneNewAt flits (set flits m (without_message (cells_at flits m) (answer_channel answer))) n
answer_at flits m n answer = ⊎_elim
    (λ (same : n ≡ m). subst (λ (k : ℕ). NoneNewAt flits (set flits m (without_message (cells_at flits m) (answer_channel answer))) k) (sym same) (here (cases_lt m (length flits))))
    (λ (apart : n ≢ m). set_elsewhere flits n m _ apart) (cases_eq n m)
  where
    there : Cells
    there = without_message (cells_at flits m) (answer_channel answer)

    here : (m < length flits) ⊎ (length flits ≤ m) → NoneNewAt flits (set flits m there) m
    here (inl low) = subst (λ (c : Cells). NoneNew (cells_at flits m) c) (sym (get_or-set_same flits m there no_flits low)) (answered (cells_at flits m) answer)
    here (inr past) = subst (λ (l : List Cells). NoneNewAt flits l m) (sym (set_past flits m there past)) (same_at flits m)

answer_taken_at : (s : LineState) (agent : Agent) (n : ℕ) → n < 8 → n ≢ (served_or s.home.serving agent).0 → (answer : SnoopAnswer) → NoneNewIn s (answered_by s agent answer) n
answer_taken_at s agent n low apart answer =
    subst (λ (c : Cells). NoneNew (cells_of s n) c)
    (sym (completed (set s.flits agent.0 (without_message (cells_of s agent.0) (answer_channel answer))) s.home.serving (answer_taken s.home agent answer) (data_to_send answer s.home.memory) agent n low apart))
    (answer_at s.flits agent.0 n answer)

none_new_elsewhere : (profile : Profile) (s : LineState) (agent : Agent) (step : Step) (n : ℕ) → n < 8 → n ≢ (flit_agent s agent step).0 → NoneNewIn s (after_step profile s agent step) n
none_new_elsewhere profile s agent (steps.Load word) n low apart = same_at s.flits n
none_new_elsewhere profile s agent (steps.Store word value) n low apart = same_at s.flits n
none_new_elsewhere profile s agent steps.Drop n low apart = same_at s.flits n
none_new_elsewhere profile s agent (steps.Issue kind slot) n low apart = set_elsewhere s.flits n agent.0 _ apart
none_new_elsewhere profile s agent steps.Admit n low apart = where_it_is s _ _ n (λ it. set_elsewhere s.flits n agent.0 _ apart)
none_new_elsewhere profile s agent steps.Retry n low apart = where_it_is s _ _ n (λ it. set_elsewhere s.flits n agent.0 _ apart)
none_new_elsewhere profile s agent steps.RecvRetry n low apart = set_elsewhere s.flits n agent.0 _ apart
none_new_elsewhere profile s agent steps.Resend n low apart = where_it_is s _ _ n (λ it. set_elsewhere s.flits n agent.0 _ apart)
none_new_elsewhere profile s agent steps.Cancel n low apart = same_at s.flits n
none_new_elsewhere profile s agent steps.Start n low apart = where_it_is s _ _ n (λ it. start_sent s.flits agent.0 n (started_sends s.home agent it) apart)
none_new_elsewhere profile s agent steps.RecvSnp n low apart = where_it_is s _ _ n (λ it. set_elsewhere s.flits n agent.0 _ apart)
none_new_elsewhere profile s agent steps.RecvSnpResp n low apart = where_it_is s _ _ n (answer_taken_at s agent n low apart)
none_new_elsewhere profile s agent steps.RecvData n low apart = where_it_is s _ _ n (λ it. set_elsewhere s.flits n agent.0 _ apart)
none_new_elsewhere profile s agent steps.RecvComp n low apart = comp_received s agent.0 n _ apart
none_new_elsewhere profile s agent steps.RecvAck n low apart = set_elsewhere s.flits n agent.0 _ apart
none_new_elsewhere profile s agent steps.RecvDbid n low apart = where_it_is s _ _ n (λ it. set_elsewhere s.flits n agent.0 _ apart)
none_new_elsewhere profile s agent steps.RecvWrData n low apart = where_it_is s (served_kind s.home.serving) (λ (kind : Kind). data_written s agent.0 kind (cells_of s agent.0).dat_up) n (λ kind. data_received s agent.0 n kind (cells_of s agent.0).dat_up apart)

-- so what all agents send is what that agent does
abbrev SentAt : List Cells → List Cells → ℕ → List Observed
SentAt before after n = sent_of_agent (agent_at n) (busy_in (cells_at before n)) (cells_at after n)

one_sends : (before after : List Cells) (w : ℕ) → ((n : ℕ) → n < 8 → n ≢ w → NoneNewAt before after n) → (m : ℕ) → m ≤ 8
    → ((m ≤ w) × (sent_below before after m ≡ [])) ⊎ ((w < m) × (sent_below before after m ≡ SentAt before after w))
unfolding sent_below
one_sends before after w elsewhere zero below = inl (omega arith, refl)
one_sends before after w elsewhere (suc m) below = ⊎_elim
    (λ none. ⊎_elim
    (λ (same : m ≡ w). inr (omega (arith, same), ap (λ (l : List Observed). l ++ SentAt before after m) none.1 ∙ ap (SentAt before after) same))
    (λ (apart : m ≢ w). inl (⊎_elim (λ (lt : m < w). omega (arith, lt)) (λ (ge : w ≤ m). absurd (apart (omega (arith, ge, none.0)))) (cases_lt m w), ap (λ (l : List Observed). l ++ SentAt before after m) none.1 ∙ nothing m refl apart)) (cases_eq m w))
    (λ one. inr (omega (arith, one.0), ap (λ (l : List Observed). sent_below before after m ++ l) (nothing m refl (λ e. omega (arith, e, one.0))) ∙ (append-nil (sent_below before after m) ∙ one.1)))
    (one_sends before after w elsewhere m (omega (arith, below)))
  where
    nothing : (k : ℕ) → m ≡ k → k ≢ w → SentAt before after k ≡ []
    nothing k is apart = nothing_sent (agent_at k) (cells_at before k) (cells_at after k) (elsewhere k (omega (arith, below, is)) apart)

sent_by_one : (before after : List Cells) (w : Agent) → w.0 < 8 → ((n : ℕ) → n < 8 → n ≢ w.0 → NoneNewAt before after n)
    → sent_below before after 8 ≡ sent_of_agent w (busy_in (cells_at before w.0)) (cells_at after w.0)
sent_by_one before after w low elsewhere = ⊎_elim
    (λ none. absurd (omega (arith, none.0, low)))
    (λ one. one.1)
    (one_sends before after w.0 elsewhere 8 (omega arith))

-- of a slice's line 0
abbrev pub SendsBy : LineState → LineState → Agent → Type 0
SendsBy old new w = sent_between old new ≡ sent_of_agent w (busy_in (cells_of old w.0)) (cells_of new w.0)

pub action_sends : (s : SliceState) (agent : Agent) (step : Step) → (flit_agent (line s 0) agent step).0 < 8
    → SendsBy (line s 0) (line (slice_after s (line_action agent step)) 0) (flit_agent (line s 0) agent step)
action_sends s agent step low = go (cases_lt (row_of_line s 0) (length s.lines))
  where
    new : LineState
    new = after_step s.config.profile (line s 0) agent step

    go : (row_of_line s 0 < length s.lines) ⊎ (length s.lines ≤ row_of_line s 0) → SendsBy (line s 0) (line (slice_after s (line_action agent step)) 0) (flit_agent (line s 0) agent step)
    go (inl there) = subst (λ (l : LineState). SendsBy (line s 0) l (flit_agent (line s 0) agent step)) (sym (get_or-set_same s.lines (row_of_line s 0) new opening_line there))
        (sent_by_one (line s 0).flits new.flits (flit_agent (line s 0) agent step) low (none_new_elsewhere s.config.profile (line s 0) agent step))
    go (inr past) = subst (λ (l : LineState). SendsBy (line s 0) l (flit_agent (line s 0) agent step)) (sym (ap (λ (lines : List LineState). get_or lines (row_of_line s 0) opening_line) (set_past s.lines (row_of_line s 0) new past)))
        (sent_by_one (line s 0).flits (line s 0).flits (flit_agent (line s 0) agent step) low (λ n below apart. same_at (line s 0).flits n))

pub step_sends : (s s' : SliceState) (agent whose : Agent) (step : Step) (old new : LineState) (was is : Cells) (before : Busy) (seen rest : List Observed)
    → old ≡ line s 0 → whose ≡ flit_agent old agent step → whose.0 < 8 → was ≡ cells_of old whose.0 → before ≡ busy_in was
    → s' ≡ slice_after s (line_action agent step) → new ≡ line s' 0 → is ≡ cells_of new whose.0
    → seen ≡ sent_of_agent whose before is ++ rest → seen ≡ sent_between (line s 0) (line s' 0) ++ rest
step_sends s s' agent whose step old new was is before seen rest old_is whose_is low was_is before_is left new_is is_is sent =
    let which : whose ≡ flit_agent (line s 0) agent step = whose_is ∙ ap (λ (l : LineState). flit_agent l agent step) old_is in
    let busy : before ≡ busy_in (cells_of (line s 0) whose.0) = before_is ∙ ap busy_in (was_is ∙ ap (λ (l : LineState). cells_of l whose.0) old_is) in
    let cells : is ≡ cells_of (line s' 0) whose.0 = is_is ∙ ap (λ (l : LineState). cells_of l whose.0) new_is in
    let sends : SendsBy (line s 0) (line s' 0) whose = subst (λ (t : SliceState). SendsBy (line s 0) (line t 0) whose) (sym left)
    (subst (SendsBy (line s 0) (line (slice_after s (line_action agent step)) 0)) (sym which) (action_sends s agent step (subst (λ (w : Agent). w.0 < 8) which low))) in
    sent ∙ ap (λ (l : List Observed). l ++ rest)
    (ap (λ (b : Busy). sent_of_agent whose b is) busy ∙ (ap (sent_of_agent whose (busy_in (cells_of (line s 0) whose.0))) cells ∙ sym sends))
