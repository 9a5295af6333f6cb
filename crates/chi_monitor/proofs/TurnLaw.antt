-- All that an explanation explains is in turn: so what isn't has none.
use Rattle.std.proofs.Common.{◌&&◌, Err, if◌then◌else◌, ◌≡◌, ◌≢◌, ◌⊎◌, inl, inr, ⊎_elim, ℕ, zero, suc, ◌<◌, ◌≤◌, Bool, true, false, List, [], ◌∷◌, ◌++◌, length, replicate, map, get_or, set, Option, Some, None, is_none, is_some, Ok, refl, sym, ap, subst, ◌∙◌, arith, get_or-set_same, get_or-set_other}
use Rattle.std.proofs.lemmas.Bool.{cases_eq, cases_lt}
use Rattle.std.proofs.lemmas.List.{get_or-map, get_or-replicate, get_or_past, length-map, length-set, set_past}
use Rattle.std.proofs.Math.Nat.{zero-div}
use Rattle.std.specs.List.{All}
use Rattle.chi_flit.specs.declared.action.Effect.{Effect}
use Rattle.chi_flit.specs.declared.action.Step.{Step}
use Rattle.chi_flit.specs.declared.action.Step.TheVariants as steps
use Rattle.chi_flit.specs.declared.credit.Profile.{Profile}
use Rattle.chi_flit.specs.declared.message.Msg.{Msg}
use Rattle.chi_flit.specs.declared.message.Msg.TheVariants as messages
use Rattle.chi_flit.specs.declared.numbers.Agent.{Agent}
use Rattle.chi_flit.specs.declared.numbers.WordNo.{WordNo}
use Rattle.chi_flit.specs.declared.refusal.Refusal.TheVariants.{WrongState}
use Rattle.chi_flit.specs.declared.snoop.Snoop.{Snoop}
use Rattle.chi_flit.specs.State.{is_unique, is_valid}
use Rattle.chi_flit.specs.declared.state.State.{State}
use Rattle.chi_flit.specs.declared.state.State.TheVariants.{I, SC, UC, UD, SD}
use Rattle.chi_wires.specs.Cell.{no_flits}
use Rattle.chi_wires.specs.declared.cells.Cells.{Cells}
use Rattle.chi_rnline.specs.Rn.{Rn, load_refusal, no_line, store_refusal}
use Rattle.chi_rnline.specs.declared.pending.Pending.{Pending}
use Rattle.chi_homeline.specs.declared.serving.SnoopAnswer.{SnoopAnswer}
use Rattle.chi_line.specs.Kept.{Kept, Lane, lane}
use Rattle.chi_line.specs.LineState.{LineState, cells_of, rn_of}
use Rattle.chi_line.specs.Refused.{full_if, step_refusal}
use Rattle.chi_line.specs.Step.{after_step, answer_in, answered_by, stored_line, where_some}
use Rattle.chi_line.specs.View.{copy_shown, line_view, pending_shown}
use Rattle.chi_line.specs.declared.view.CopyView.{CopyView}
use Rattle.chi_line.specs.declared.act.Conditions.{Conditions}
use Rattle.chi_line.proofs.After.{StoreAllowed, flit_there, neither, store_allowed}
use Rattle.chi_slice.specs.Slice.{SliceKept, SliceState, last_of, line, line_in_row, row_of_line, slice_after}
use Rattle.chi_slice.proofs.Acts.{Allowed, allowed, kept_acted}
use Rattle.chi_slice.proofs.Refusing.{conditions_of}
use Rattle.chi_slice.proofs.Rows.{InRange, in_range, row_line}
use Rattle.chi_slice.proofs.Slices.{line_in_row-with_line}
use Rattle.chi_explain.specs.declared.explanations.WitnessItem.{WitnessItem}
use Rattle.chi_explain.specs.declared.explanations.WitnessItem.TheVariants.{Act, Snoop as Shown, Load, Store}
use Rattle.chi_explain.specs.declared.observed.Observed.{Observed}
use Rattle.chi_explain.specs.declared.observed.Observed.TheVariants as seen_of
use Rattle.chi_explain.specs.declared.observed.StoreListing.{StoreListing}
use Rattle.chi_explain.specs.declared.observed.StoreListing.TheVariants.{Partial, Complete}
use Rattle.chi_explain.specs.Explained.{Explains, IsSnoopSeen, IsSnoopShown, IsStepSeen, MayTake, is_listed, line_action, shown_after}
use Rattle.chi_explain.specs.Opening.{IsOpen, are_empty}
use Rattle.chi_explain.specs.Sent.{busy_in, flit_agent, sent_below, sent_between, sent_of_agent}
use Rattle.chi_explain.proofs.Elsewhere.{action_sends, as_before, nothing_sent}
use Rattle.chi_flit.specs.Numbers.{agent_at}
use Rattle.chi_wires.specs.Flits.{cells_at}
use Rattle.chi_monitor.specs.Copies.{known_as}
use Rattle.chi_monitor.specs.Turns.{no_turn, plain, reach_of, stored_to, turns_after, with_copy, with_turn}
use Rattle.chi_monitor.specs.declared.copies.Given.TheVariants.{Nothing}
use Rattle.chi_monitor.specs.declared.faults.LineFault.TheVariants as faults
use Rattle.chi_monitor.specs.declared.faults.SeenAt.{SeenAt}
use Rattle.chi_monitor.specs.declared.turns.Turn.{Turn}
use Rattle.chi_monitor.proofs.TurnFits.{Fits, Held, IsSnooped, Keeps, bound_drifts, drifts, none_given}
use Rattle.chi_monitor.proofs.TurnAnswers.{Each, Turns, answer_turns}
use Rattle.chi_monitor.proofs.TurnLanes.{is_answer_step, step_elsewhere, untouched_fits}
use Rattle.chi_monitor.proofs.TurnOwn.{MayAnswer, MayHide, Own, finds, own_step, shown_behind, stored_fits}
use Rattle.chi_monitor.proofs.TurnSent.{flits_of}
use Rattle.chi_monitor.proofs.TurnSteps.{fits_free, free_fits, some_of}

-- ANY STEP
cleared : (shown : List Bool) (n : ℕ) → get_or (set shown n false) n false ≡ false
cleared shown n = ⊎_elim (λ (low : n < length shown). get_or-set_same shown n false false low)
    (λ (past : length shown ≤ n). ap (λ (l : List Bool). get_or l n false) (set_past shown n false past) ∙ get_or_past shown n false past) (cases_lt n (length shown))

shown_own : (shown : List Bool) (agent : Agent) (step : Step) → get_or (shown_after shown agent step) agent.0 false ≡ shown_behind step (get_or shown agent.0 false)
shown_own shown agent steps.RecvSnp = cleared shown agent.0
shown_own shown agent other = refl

shown_other : (shown : List Bool) (agent : Agent) (step : Step) (m : ℕ) → m ≢ agent.0 → get_or (shown_after shown agent step) m false ≡ get_or shown m false
shown_other shown agent steps.RecvSnp m apart = get_or-set_other shown agent.0 m false false apart
shown_other shown agent other m apart = refl

may_answer : (shown : List Bool) (agent : Agent) (step : Step) → MayTake shown agent step → MayAnswer step (get_or shown agent.0 false)
may_answer shown agent steps.RecvSnp may = may
may_answer shown agent other may = tt

-- all but RecvSnpResp
plain_turns : (c : Conditions) (stores : StoreListing) (last : List ℕ) (s : LineState) (agent : Agent) (step : Step) (turns : List Turn) (shown : List Bool) → is_answer_step step ≡ false → agent.0 < 8 → step_refusal c s agent step ≡ None → MayTake shown agent step → MayHide stores step → Kept last s → Each stores turns shown s
    → Turns c.profile stores s (after_step c.profile s agent step) turns shown (shown_after shown agent step) agent
plain_turns c stores last s agent step turns shown plain low may answers hides k each =
    let own : Own c.profile s (after_step c.profile s agent step) agent stores (get_or turns agent.0 no_turn) (shown_behind step (get_or shown agent.0 false)) =
    own_step c last s agent step stores (get_or turns agent.0 no_turn) (get_or shown agent.0 false) plain may (may_answer shown agent step answers) hides k (finds last s agent.0 low k) (each agent.0 low) in
    record {
      low = low;
      sent = own.sent;
      is = own.is;
      keeps = subst (λ (b : Bool). Keeps c.profile stores (get_or turns agent.0 no_turn) own.sent b (after_step c.profile s agent step).home.serving agent.0 (lane (after_step c.profile s agent step) agent.0)) (sym (shown_own shown agent step)) own.keeps;
      others = λ m at apart. subst (λ (b : Bool). Fits stores (get_or turns m no_turn) b (after_step c.profile s agent step).home.serving m (lane (after_step c.profile s agent step) m)) (sym (shown_other shown agent step m apart))
          (untouched_fits stores (get_or turns m no_turn) (get_or shown m false) s (after_step c.profile s agent step) m (step_elsewhere c last s agent step m low at apart plain may k) (each m at));
    }

step_turns : (c : Conditions) (stores : StoreListing) (last : List ℕ) (s : LineState) (agent : Agent) (step : Step) (turns : List Turn) (shown : List Bool) → agent.0 < 8 → step_refusal c s agent step ≡ None → MayTake shown agent step → MayHide stores step → Kept last s → Each stores turns shown s
    → Turns c.profile stores s (after_step c.profile s agent step) turns shown (shown_after shown agent step) (flit_agent s agent step)
step_turns c stores last s agent steps.RecvSnpResp turns shown low may answers hides k each =
    let there = some_of (answer_in (cells_of s agent.0)) (flit_there _ may) in
    subst (λ (o : Option SnoopAnswer). Turns c.profile stores s (where_some s o (answered_by s agent)) turns shown shown (flit_agent s agent steps.RecvSnpResp)) (sym there.1) (answer_turns c.profile stores last s agent there.0 turns shown low there.1 k each)
step_turns c stores last s agent step turns shown low may answers hides k each = plain_turns c stores last s agent step turns shown refl low may answers hides k each

-- ALL TURNS OF A LINE
pub record AllFit (stores : StoreListing) (turns : List Turn) (shown : List Bool) (s : LineState) : Type 0 where
  pub long : length turns ≡ 8
  pub each : Each stores turns shown s

-- the turn of one agent is written, and those of the others fit
written_fits : (stores : StoreListing) (turns : List Turn) (shown : List Bool) (s : LineState) (whose : Agent) (turn : Turn) → length turns ≡ 8 → whose.0 < 8 → Fits stores turn (get_or shown whose.0 false) s.home.serving whose.0 (lane s whose.0)
    → ((m : ℕ) → m < 8 → m ≢ whose.0 → Fits stores (get_or turns m no_turn) (get_or shown m false) s.home.serving m (lane s m)) → AllFit stores (set turns whose.0 turn) shown s
written_fits stores turns shown s whose turn long low own others = record {
  long = length-set turns whose.0 turn ∙ long;
  each = λ m at. ⊎_elim
      (λ (same : m ≡ whose.0). subst (λ (k : ℕ). Fits stores (get_or (set turns whose.0 turn) k no_turn) (get_or shown k false) s.home.serving k (lane s k)) (sym same)
      (subst (λ (t : Turn). Fits stores t (get_or shown whose.0 false) s.home.serving whose.0 (lane s whose.0)) (sym (get_or-set_same turns whose.0 turn no_turn (omega (arith, low, long)))) own))
      (λ (apart : m ≢ whose.0). subst (λ (t : Turn). Fits stores t (get_or shown m false) s.home.serving m (lane s m)) (sym (get_or-set_other turns whose.0 m turn no_turn apart)) (others m at apart))
      (cases_eq m whose.0);
}

all_fit : (stores : StoreListing) (turns : List Turn) (shown : List Bool) (s : LineState) (whose : Agent) → length turns ≡ 8 → Fits stores (get_or turns whose.0 no_turn) (get_or shown whose.0 false) s.home.serving whose.0 (lane s whose.0)
    → ((m : ℕ) → m < 8 → m ≢ whose.0 → Fits stores (get_or turns m no_turn) (get_or shown m false) s.home.serving m (lane s m)) → AllFit stores turns shown s
all_fit stores turns shown s whose long own others = record {
  long = long;
  each = λ m at. ⊎_elim
      (λ (same : m ≡ whose.0). subst (λ (k : ℕ). Fits stores (get_or turns k no_turn) (get_or shown k false) s.home.serving k (lane s k)) (sym same) own)
      (λ (apart : m ≢ whose.0). others m at apart) (cases_eq m whose.0);
}

-- AN ITEM: nothing of what was seen is explained by it, or what was seen next, which is in turn
abbrev pub IsTurned : Profile → StoreListing → List Turn → List Bool → LineState → Observed → Type 0
IsTurned profile stores turns shown s o = (at : SeenAt) → (turns' : List Turn) × (turns_after profile stores at turns o ≡ Ok turns') × AllFit stores turns' shown s

abbrev pub Next : Profile → StoreListing → List Turn → List Bool → LineState → List Observed → List Observed → Type 0
Next profile stores turns shown s seen seen' = ((seen ≡ seen') × AllFit stores turns shown s) ⊎ ((o : Observed) × (seen ≡ o ∷ seen') × IsTurned profile stores turns shown s o)

next_of : (profile : Profile) (stores : StoreListing) (s s' : LineState) (turns : List Turn) (shown shown' : List Bool) (whose : Agent) (seen seen' : List Observed) → length turns ≡ 8 → Turns profile stores s s' turns shown shown' whose
    → seen ≡ sent_of_agent whose (busy_in (cells_of s whose.0)) (cells_of s' whose.0) ++ seen' → Next profile stores turns shown' s' seen seen'
next_of profile stores s s' turns shown shown' whose seen seen' long t e = go t.sent t.is t.keeps
  where
    go : (sent : Option Msg) → sent_of_agent whose (busy_in (cells_of s whose.0)) (cells_of s' whose.0) ≡ flits_of whose sent → Keeps profile stores (get_or turns whose.0 no_turn) sent (get_or shown' whose.0 false) s'.home.serving whose.0 (lane s' whose.0)
        → Next profile stores turns shown' s' seen seen'
    go None is keeps = inl (e ∙ ap (λ (l : List Observed). l ++ seen') is, all_fit stores turns shown' s' whose long keeps t.others)
    go (Some message) is keeps = inr (
      seen_of.Flit (record { agent = whose; message = message }),
      e ∙ ap (λ (l : List Observed). l ++ seen') is,
      λ at. let told = keeps at in (set turns whose.0 told.0.turn, ap (with_turn turns whose) told.1, written_fits stores turns shown' s' whose told.0.turn long t.low told.2 t.others),
    )

-- what an action of a slice leaves of its line
pub record Acted (s : SliceState) (agent : Agent) (step : Step) : Type 0 where
  pub kept : SliceKept (slice_after s (line_action agent step))
  pub may : step_refusal (conditions_of s (line_action agent step)) (line s 0) agent step ≡ None
  pub low : agent.0 < 8
  pub left : line (slice_after s (line_action agent step)) 0 ≡ after_step s.config.profile (line s 0) agent step
  pub line_kept : (last : List ℕ) × Kept last (line s 0)

pub acted : (s : SliceState) (agent : Agent) (step : Step) → SliceKept s → Allowed s (line_action agent step) → Acted s agent step
acted s agent step k may =
    let inside : InRange s (line_action agent step) = in_range s (line_action agent step) k may.inside in
    record {
      kept = kept_acted s (line_action agent step) k may;
      may = may.by_line;
      low = inside.agent;
      left = line_in_row-with_line s (row_of_line s 0) (after_step s.config.profile (line s 0) agent step) inside.row k;
      line_kept = (_, k.lines 0 inside.line);
    }

-- the turns behind it
abbrev TurnsBehind : StoreListing → SliceState → Agent → Step → List Turn → List Bool → Type 0
TurnsBehind stores s agent step turns shown =
    Turns s.config.profile stores (line s 0) (line (slice_after s (line_action agent step)) 0) turns shown (shown_after shown agent step) (flit_agent (line s 0) agent step)

turns_behind : (stores : StoreListing) (s : SliceState) (agent : Agent) (step : Step) (turns : List Turn) (shown : List Bool) → MayTake shown agent step → MayHide stores step → Acted s agent step → Each stores turns shown (line s 0) → TurnsBehind stores s agent step turns shown
turns_behind stores s agent step turns shown answers hides a each =
    subst (λ (l : LineState). Turns s.config.profile stores (line s 0) l turns shown (shown_after shown agent step) (flit_agent (line s 0) agent step)) (sym a.left)
    (step_turns (conditions_of s (line_action agent step)) stores a.line_kept.0 (line s 0) agent step turns shown a.low a.may answers hides a.line_kept.1 each)

-- what holds of a slice behind an item
abbrev pub Left : SliceState → SliceState → Type 0
Left s s' = SliceKept s' × (s'.config ≡ s.config)

abbrev pub ItemNext : StoreListing → List Turn → SliceState → List Observed → SliceState → List Bool → List Observed → Type 0
ItemNext stores turns s seen s' shown' seen' = Left s s' × Next s.config.profile stores turns shown' (line s' 0) seen seen'

step_next : (stores : StoreListing) (turns : List Turn) (s s' : SliceState) (agent : Agent) (step : Step) (effect : Effect) (shown shown' : List Bool) (seen seen' : List Observed) → SliceKept s → AllFit stores turns shown (line s 0) → MayHide stores step → IsStepSeen agent step effect s shown seen s' shown' seen'
    → ItemNext stores turns s seen s' shown' seen'
step_next stores turns s s' agent step effect shown shown' seen seen' k f hides is =
    let a : Acted s agent step = acted s agent step k (allowed s (line_action agent step) is.done.0) in
    let t : TurnsBehind stores s agent step turns shown = turns_behind stores s agent step turns shown is.answers hides a f.each in
    subst (λ (l : List Bool). ItemNext stores turns s seen s' l seen') (sym is.taken)
    (subst (λ (t : SliceState). seen ≡ sent_between (line s 0) (line t 0) ++ seen' → ItemNext stores turns s seen t (shown_after shown agent step) seen') (sym is.done.2)
    (λ e. ((a.kept, refl), next_of s.config.profile stores (line s 0) _ turns shown (shown_after shown agent step) (flit_agent (line s 0) agent step) seen seen' f.long t (e ∙ ap (λ (l : List Observed). l ++ seen') (action_sends s agent step t.low)))) is.sent)

-- a step that sends nothing
none_sent : (flits : List Cells) (n : ℕ) → sent_below flits flits n ≡ []
unfolding sent_below
none_sent flits zero = refl
none_sent flits (suc n) = λ i. none_sent flits n i ++ nothing_sent (agent_at n) (cells_at flits n) (cells_at flits n) (as_before (cells_at flits n) (cells_at flits n) refl) i

abbrev IsSilent : Agent → Step → Type 0
IsSilent agent step = (profile : Profile) (l : LineState) → sent_between l (after_step profile l agent step) ≡ []

pub load_silent : (agent : Agent) (word : WordNo) → IsSilent agent (steps.Load word)
load_silent agent word profile l = none_sent l.flits 8

pub store_silent : (agent : Agent) (word : WordNo) (value : ℕ) → IsSilent agent (steps.Store word value)
store_silent agent word value profile l = none_sent l.flits 8

-- a load or a store that was seen stands behind what its step sends, which is nothing
access_next : (stores : StoreListing) (turns : List Turn) (s s' : SliceState) (agent : Agent) (step : Step) (effect : Effect) (shown shown' : List Bool) (seen seen' : List Observed) (o : Observed) → SliceKept s
    → IsSilent agent step → shown_after shown agent step ≡ shown → (Acted s agent step → IsTurned s.config.profile stores turns shown (after_step s.config.profile (line s 0) agent step) o)
    → IsStepSeen agent step effect s shown seen s' shown' (o ∷ seen') → ItemNext stores turns s seen s' shown' seen'
access_next stores turns s s' agent step effect shown shown' seen seen' o k silent same turned is =
    let a : Acted s agent step = acted s agent step k (allowed s (line_action agent step) is.done.0) in
    let none : sent_between (line s 0) (line (slice_after s (line_action agent step)) 0) ≡ [] = ap (sent_between (line s 0)) a.left ∙ silent s.config.profile (line s 0) in
    let fits : IsTurned s.config.profile stores turns shown (line (slice_after s (line_action agent step)) 0) o =
    subst (λ (l : LineState). IsTurned s.config.profile stores turns shown l o) (sym a.left) (turned a) in
    subst (λ (l : List Bool). ItemNext stores turns s seen s' l seen') (sym (is.taken ∙ same))
    (subst (λ (t : SliceState). seen ≡ sent_between (line s 0) (line t 0) ++ (o ∷ seen') → ItemNext stores turns s seen t shown seen') (sym is.done.2)
    (λ e. ((a.kept, refl), inr (o, e ∙ ap (λ (l : List Observed). l ++ (o ∷ seen')) none, fits))) is.sent)

-- a load finds a copy
valid_base : (stores : StoreListing) (base state : State) → drifts stores base state ≡ true → is_valid state ≡ true → is_valid base ≡ true
valid_base stores I I may valid = absurd (cc (valid))
valid_base stores I SC may valid = absurd (cc (may))
valid_base stores I UC may valid = absurd (cc (may))
valid_base stores I UD may valid = absurd (cc (may))
valid_base stores I SD may valid = absurd (cc (may))
valid_base stores base state may valid = refl

unique_base : (stores : StoreListing) (base state : State) → drifts stores base state ≡ true → is_unique state ≡ true → is_unique base ≡ true
unique_base stores UC state may unique = refl
unique_base stores UD state may unique = refl
unique_base stores I UC may unique = absurd (cc (may))
unique_base stores I UD may unique = absurd (cc (may))
unique_base stores SC UC may unique = absurd (cc (may))
unique_base stores SC UD may unique = absurd (cc (may))
unique_base stores SD UC may unique = absurd (cc (may))
unique_base stores SD UD may unique = absurd (cc (may))
unique_base stores base state may unique = absurd (cc (unique))

load_may : (rn : Rn) → load_refusal rn ≡ None → is_valid rn.state ≡ true
load_may rn may = go (is_valid rn.state) may
  where
    go : (b : Bool) → (if b then None else Some WrongState) ≡ None → b ≡ true
    go true may = refl
    go false may = absurd (cc (may))

held_valid : (stores : StoreListing) (turn : Turn) (shown : Bool) (x : Lane) → Held stores turn shown x → is_valid x.rn.state ≡ true → is_valid turn.copy.base ≡ true
held_valid stores turn shown x h valid = go x.rn.pending refl
  where
    go : (o : Option Pending) → x.rn.pending ≡ o → is_valid turn.copy.base ≡ true
    go None e = valid_base stores turn.copy.base x.rn.state (h.free e) valid
    go (Some p) e = ap (λ (state : State). is_valid state) (h.bound (ap (λ (o : Option Pending). is_some o) e)) ∙ valid

load_turned : (stores : StoreListing) (turns : List Turn) (s : SliceState) (agent : Agent) (word : WordNo) (value : ℕ) (shown : List Bool) → AllFit stores turns shown (line s 0) → Acted s agent (steps.Load word)
    → IsTurned s.config.profile stores turns shown (line s 0) (seen_of.Load agent word value)
load_turned stores turns s agent word value shown f a at =
    let turn : Turn = get_or turns agent.0 no_turn in
    let valid : is_valid turn.copy.base ≡ true =
    held_valid stores turn (get_or shown agent.0 false) (lane (line s 0) agent.0) (f.each agent.0 a.low).held (load_may (rn_of (line s 0) agent.0) (neither (load_refusal (rn_of (line s 0) agent.0)) (full_if (conditions_of s (line_action agent (steps.Load word))).journal_full) a.may).0) in
    (turns, ap (λ (b : Bool). if b then Ok turns else Err (faults.NoCopy (reach_of stores turn))) valid, f)

-- a store is done where nothing is pending, in a unique copy
store_turned : (stores : StoreListing) (turns : List Turn) (s : SliceState) (agent : Agent) (word : WordNo) (value : ℕ) (shown : List Bool) → AllFit stores turns shown (line s 0) → Acted s agent (steps.Store word value)
    → IsTurned s.config.profile stores turns shown (stored_line (line s 0) agent.0 word.0 value) (seen_of.Store agent word value)
store_turned stores turns s agent word value shown f a at = (
  set turns agent.0 left,
  ap (with_turn turns agent) (ap (stored_to turn (reach_of stores turn) at) (free_fits stores turn (get_or shown agent.0 false) (line s 0).home.serving agent.0 (lane (line s 0) agent.0) can.none fits)
      ∙ ap (λ (b : Bool). if b then Ok (plain left) else Err (faults.NoStore (reach_of stores turn))) unique),
  written_fits stores turns shown (stored_line (line s 0) agent.0 word.0 value) agent left f.long a.low
      (stored_fits a.line_kept.0 (line s 0) agent word.0 value stores turn (get_or shown agent.0 false) at can.none (finds a.line_kept.0 (line s 0) agent.0 a.low a.line_kept.1) fits)
      (λ m there apart. untouched_fits stores (get_or turns m no_turn) (get_or shown m false) (line s 0) _ m
      (step_elsewhere (conditions_of s (line_action agent (steps.Store word value))) a.line_kept.0 (line s 0) agent (steps.Store word value) m a.low there apart refl a.may a.line_kept.1) (f.each m there)),
)
  where
    turn : Turn
    turn = get_or turns agent.0 no_turn

    left : Turn
    left = with_copy turn (known_as UD at)

    fits : Fits stores turn (get_or shown agent.0 false) (line s 0).home.serving agent.0 (lane (line s 0) agent.0)
    fits = f.each agent.0 a.low

    can : StoreAllowed (rn_of (line s 0) agent.0)
    can = store_allowed (rn_of (line s 0) agent.0) (neither (store_refusal (rn_of (line s 0) agent.0)) (full_if (conditions_of s (line_action agent (steps.Store word value))).journal_full) a.may).0

    unique : is_unique turn.copy.base ≡ true
    unique = unique_base stores turn.copy.base (rn_of (line s 0) agent.0).state (fits.held.free can.none) can.unique

-- a snoop that is seen
snoop_seen : (profile : Profile) (stores : StoreListing) (turns : List Turn) (s : LineState) (agent : Agent) (snp : Option Snoop) (shown shown' : List Bool) (seen seen' : List Observed) → (cells_of s agent.0).snp ≡ snp → AllFit stores turns shown s → agent.0 < 8 → shown' ≡ set shown agent.0 true → IsSnoopSeen agent snp seen seen'
    → Next profile stores turns shown' s seen seen'
snoop_seen profile stores turns s agent None shown shown' seen seen' here f low now is = absurd is
snoop_seen profile stores turns s agent (Some snoop) shown shown' seen seen' here f low now is = inr (
  seen_of.Flit (record { agent = agent; message = messages.Snp snoop }),
  is,
  λ at.
      let turn : Turn = get_or turns agent.0 no_turn in
      let fits : Fits stores turn (get_or shown agent.0 false) s.home.serving agent.0 (lane s agent.0) = f.each agent.0 low in
      let turned : Turn = record turn { snoop = Some (record { snoop = snoop; since = at }) } in (
        set turns agent.0 turned,
        refl,
        written_fits stores turns shown' s agent turned f.long low
            (record {
              asked = fits.asked;
              held = record {
                snooped = λ seen. subst (IsSnooped (Some (record { snoop = snoop; since = at }))) (sym here) refl;
                free = fits.held.free;
                bound = fits.held.bound;
                given = fits.held.given;
              };
            })
            (λ m there apart. subst (λ (b : Bool). Fits stores (get_or turns m no_turn) b s.home.serving m (lane s m)) (sym (ap (λ (l : List Bool). get_or l m false) now ∙ get_or-set_other shown agent.0 m true false apart)) (f.each m there)),
      ),
)

-- it is of one of the eight
pub snoop_low : (s : LineState) (n : ℕ) (agent : Agent) (seen seen' : List Observed) → length s.flits ≡ 8 → IsSnoopSeen agent (cells_of s n).snp seen seen' → n < 8
snoop_low s n agent seen seen' long is = ⊎_elim (λ (low : n < 8). low)
    (λ (past : 8 ≤ n). absurd (subst (λ (c : Cells). IsSnoopSeen agent c.snp seen seen') (get_or_past s.flits n no_flits (omega (arith, past, long))) is)) (cases_lt n 8)

-- the line keeps what a line keeps
pub kept_line : (s : SliceState) → SliceKept s → (last : List ℕ) × Kept last (line s 0)
kept_line s k =
    let r = row_line s 0 k (omega arith) in
    (last_of s r.line, subst (λ (row : ℕ). Kept (last_of s r.line) (line_in_row s row)) (r.row_is ∙ sym (zero-div s.config.slices)) (k.lines r.line r.here))

snoop_next : (stores : StoreListing) (turns : List Turn) (s s' : SliceState) (agent : Agent) (shown shown' : List Bool) (seen seen' : List Observed) → SliceKept s → AllFit stores turns shown (line s 0) → IsSnoopShown agent s shown seen shown' seen' → s' ≡ s → ItemNext stores turns s seen s' shown' seen'
snoop_next stores turns s s' agent shown shown' seen seen' k f is same =
    subst (λ (t : SliceState). ItemNext stores turns s seen t shown' seen') (sym same)
    ((k, refl), snoop_seen s.config.profile stores turns (line s 0) agent (cells_of (line s 0) agent.0).snp shown shown' seen seen' refl f (snoop_low (line s 0) agent.0 agent seen seen' (kept_line s k).1.flits is.snoop) is.now is.snoop)

-- a step that isn't seen is no store where all stores are listed
hides_of : (stores : StoreListing) (agent : Agent) (step : Step) → is_listed stores (Act agent step) ≡ true → MayHide stores step
hides_of Partial agent (steps.Store word value) listed = refl
hides_of Complete agent (steps.Store word value) listed = absurd (cc (listed))
hides_of stores agent step listed = tt

pub item_next : (stores : StoreListing) (item : WitnessItem) (turns : List Turn) (s s' : SliceState) (shown shown' : List Bool) (seen seen' : List Observed) → SliceKept s → AllFit stores turns shown (line s 0) → is_listed stores item ≡ true → Explains item s shown seen s' shown' seen' → ItemNext stores turns s seen s' shown' seen'
item_next stores (Act agent step) turns s s' shown shown' seen seen' k f listed is = step_next stores turns s s' agent step is.0 shown shown' seen seen' k f (hides_of stores agent step listed) is.1
item_next stores (Shown agent) turns s s' shown shown' seen seen' k f listed is = snoop_next stores turns s s' agent shown shown' seen seen' k f is.0 is.1
item_next stores (Load agent word value) turns s s' shown shown' seen seen' k f listed is =
    access_next stores turns s s' agent (steps.Load word) _ shown shown' seen seen' (seen_of.Load agent word value) k (load_silent agent word) refl (load_turned stores turns s agent word value shown f) is
item_next stores (Store agent word value) turns s s' shown shown' seen seen' k f listed is =
    access_next stores turns s s' agent (steps.Store word value) is.0 shown shown' seen seen' (seen_of.Store agent word value) k (store_silent agent word value) refl (store_turned stores turns s agent word value shown f) is.1

-- WHAT IS SEEN, and the items that are listed
abbrev pub AreListed : StoreListing → List WitnessItem → Type 0
AreListed stores items = All (λ item. is_listed stores item ≡ true) items

pub first_seen : (o other : Observed) (rest more : List Observed) → ◌≡◌ {A = List Observed} (o ∷ rest) (other ∷ more) → (o ≡ other) × (rest ≡ more)
first_seen o other rest more e = (cc (e), cc (e))

pub listed_first : (stores : StoreListing) (item : WitnessItem) (items : List WitnessItem) → AreListed stores (item ∷ items) → is_listed stores item ≡ true
listed_first stores item items all = all 0 item (omega arith)

pub listed_rest : (stores : StoreListing) (item : WitnessItem) (items : List WitnessItem) → AreListed stores (item ∷ items) → AreListed stores items
listed_rest stores item items all = λ n d low. all (suc n) d (omega (arith, low))

-- AN OPENING LINE
none_is : {A : Type 0} (o : Option A) → is_none o ≡ true → o ≡ None
none_is None is = refl
none_is (Some a) is = absurd (cc (is))

nothing_pending : (requesters : List Rn) (n : ℕ) → All (λ (request : Option Pending). is_none request ≡ true) (map pending_shown requesters) → (get_or requesters n no_line).pending ≡ None
nothing_pending requesters n all = ⊎_elim
    (λ (low : n < length requesters). sym (get_or-map pending_shown requesters n no_line None low) ∙ none_is (get_or (map pending_shown requesters) n None) (all n None (subst (λ (k : ℕ). n < k) (sym (length-map requesters pending_shown)) low)))
    (λ (past : length requesters ≤ n). ap (λ (r : Rn). r.pending) (get_or_past requesters n no_line past)) (cases_lt n (length requesters))

copy_invalid : (requesters : List Rn) (n : ℕ) → All (λ copy. copy.state ≡ I) (map copy_shown requesters) → (get_or requesters n no_line).state ≡ I
copy_invalid requesters n all = ⊎_elim
    (λ (low : n < length requesters). ap (λ (c : CopyView). c.state) (sym (get_or-map copy_shown requesters n no_line (copy_shown no_line) low)) ∙ all n (copy_shown no_line) (subst (λ (k : ℕ). n < k) (sym (length-map requesters copy_shown)) low))
    (λ (past : length requesters ≤ n). ap (λ (r : Rn). r.state) (get_or_past requesters n no_line past)) (cases_lt n (length requesters))

both_true : (a b : Bool) → (a && b) ≡ true → (a ≡ true) × (b ≡ true)
both_true true b is = (refl, is)
both_true false b is = absurd (cc (is))

nothing_down : (c : Cells) → are_empty c ≡ true → (c.rsp_down ≡ None) × (c.dat_down ≡ None)
nothing_down c is =
    let first = both_true (is_none c.req) _ is in
    let second = both_true (is_none c.snp) _ first.1 in
    let third = both_true (is_none c.rsp_down) _ second.1 in
    let fourth = both_true (is_none c.dat_down) _ third.1 in
    (none_is c.rsp_down third.0, none_is c.dat_down fourth.0)

nothing_sent_down : (flits : List Cells) (n : ℕ) → All (λ cells. are_empty cells ≡ true) flits → ((get_or flits n no_flits).rsp_down ≡ None) × ((get_or flits n no_flits).dat_down ≡ None)
nothing_sent_down flits n all = nothing_down (get_or flits n no_flits) (⊎_elim
    (λ (low : n < length flits). all n no_flits low)
    (λ (past : length flits ≤ n). ap are_empty (get_or_past flits n no_flits past)) (cases_lt n (length flits)))

pub opening_fits : (stores : StoreListing) (memory : List ℕ) (s : SliceState) → IsOpen memory (line_view (line s 0) (last_of s 0)) → AllFit stores (replicate 8 no_turn) (replicate 8 false) (line s 0)
opening_fits stores memory s is = record {
  long = refl;
  each = λ m at.
      let none : (rn_of (line s 0) m).pending ≡ None = nothing_pending (line s 0).requesters m is.quiet.pending in
      let gone : is_some (rn_of (line s 0) m).pending ≡ false = ap (λ (o : Option Pending). is_some o) none in
      let quiet = nothing_sent_down (line s 0).flits m is.flits in
      subst (λ (t : Turn). Fits stores t (get_or (replicate 8 false) m false) (line s 0).home.serving m (lane (line s 0) m)) (sym (get_or-replicate 8 m no_turn no_turn at))
      (fits_free stores no_turn (get_or (replicate 8 false) m false) (line s 0).home.serving m (lane (line s 0) m) none refl (record {
        snooped = λ seen. absurd (cc (seen, get_or-replicate 8 m false false at));
        free = λ free. bound_drifts stores I (rn_of (line s 0) m).state (sym (copy_invalid (line s 0).requesters m is.copies));
        bound = λ some. absurd (cc (some, gone));
        given = none_given Nothing (cells_of (line s 0) m) quiet.1 (λ e. absurd (cc (e, quiet.0)));
      }));
}
