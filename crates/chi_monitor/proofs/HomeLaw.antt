-- All that an explanation explains is in turn, the requesters' and the home's: so what isn't has none.
use Rattle.std.proofs.Common.{◌≡◌, ◌⊎◌, inl, inr, ℕ, ◌+◌, ◌<◌, ◌||◌, Bool, true, false, not, List, [], ◌∷◌, ◌++◌, length, replicate, get_or, set, Option, Some, None, is_none, is_some, Result, Ok, refl, sym, ap, subst, ◌∙◌, arith}
use Rattle.std.proofs.lemmas.Bool.{both_ways}
use Rattle.std.proofs.lemmas.List.{ext_get_or, get_or-replicate}
use Rattle.std.specs.List.{All}
use Rattle.std.specs.Result.{is_err}
use Rattle.chi_flit.specs.declared.action.Effect.{Effect}
use Rattle.chi_flit.specs.declared.action.Step.{Step}
use Rattle.chi_flit.specs.declared.action.Step.TheVariants as steps
use Rattle.chi_flit.specs.declared.credit.Profile.{Profile}
use Rattle.chi_flit.specs.declared.message.Msg.{Msg}
use Rattle.chi_flit.specs.declared.message.Msg.TheVariants as messages
use Rattle.chi_flit.specs.declared.numbers.Agent.{Agent}
use Rattle.chi_flit.specs.declared.snoop.Snoop.{Snoop}
use Rattle.chi_filter.specs.Filter.{empty_filter, nobody}
use Rattle.chi_homeline.specs.declared.serving.Serving.{Serving}
use Rattle.chi_homeline.specs.declared.serving.Serving.TheVariants as servings
use Rattle.chi_line.specs.Kept.{IsServedRight, Kept, snoop_out}
use Rattle.chi_line.specs.LineState.{LineState, cells_of}
use Rattle.chi_line.specs.Step.{after_step}
use Rattle.chi_line.specs.View.{line_view}
use Rattle.chi_line.proofs.CopyKeeps.{is_snooping}
use Rattle.chi_slice.specs.Slice.{SliceKept, SliceState, last_of, line}
use Rattle.chi_slice.specs.Words.{Sizes}
use Rattle.chi_slice.proofs.Acts.{allowed}
use Rattle.chi_slice.proofs.Refusing.{conditions_of}
use Rattle.chi_explain.specs.declared.explanations.WitnessItem.{WitnessItem}
use Rattle.chi_explain.specs.declared.explanations.WitnessItem.TheVariants.{Act, Snoop as Shown, Load, Store}
use Rattle.chi_explain.specs.declared.observed.Observed.{Observed}
use Rattle.chi_explain.specs.declared.observed.Observed.TheVariants as seen_of
use Rattle.chi_explain.specs.declared.observed.StoreListing.{StoreListing}
use Rattle.chi_explain.specs.Explained.{Explained, Explains, IsSnoopSeen, IsStepSeen, line_action, shown_after}
use Rattle.chi_explain.specs.Opening.{IsOpen}
use Rattle.chi_explain.specs.Sent.{busy_in, flit_agent, sent_between, sent_of_agent, served_or}
use Rattle.chi_explain.proofs.Elsewhere.{action_sends}
use Rattle.chi_monitor.specs.HomeTurns.{home_behind, is_out_of_turn, no_home}
use Rattle.chi_monitor.specs.Places.{IsUnexplainable}
use Rattle.chi_monitor.specs.Turns.{no_turn, turns_after}
use Rattle.chi_monitor.specs.declared.faults.SeenAt.{SeenAt}
use Rattle.chi_monitor.specs.declared.home_turns.HomeTurn.{HomeTurn}
use Rattle.chi_monitor.specs.declared.turns.Turn.{Turn}
use Rattle.chi_monitor.proofs.HomeAnswers.{serves}
use Rattle.chi_monitor.proofs.HomeFits.{HomeFits, HomeLeaves, IsQuiet, home_view}
use Rattle.chi_monitor.proofs.HomeRun.{home_step, served_turn}
use Rattle.chi_monitor.proofs.HomeSnoops.{seen_home}
use Rattle.chi_monitor.proofs.HomeSteps.{Homed}
use Rattle.chi_monitor.proofs.TurnAnswers.{served_low}
use Rattle.chi_monitor.proofs.TurnLaw.{AllFit, Acted, Next, AreListed, acted, first_seen, item_next, kept_line, listed_first, listed_rest, load_silent, opening_fits, snoop_low, store_silent}
use Rattle.chi_monitor.proofs.TurnSent.{flits_of}

-- AN ITEM: nothing of what was seen is explained by it, or what was seen next, which is in the home's turn
abbrev IsHomed : List Turn → HomeTurn → List Bool → LineState → Observed → Type 0
IsHomed turns home shown s o = (at : SeenAt) → (home' : HomeTurn) × (home_behind turns at home o ≡ Some home') × HomeFits home' shown (home_view s)

abbrev HomeNext : List Turn → HomeTurn → List Bool → LineState → List Observed → List Observed → Type 0
HomeNext turns home shown s seen seen' = ((seen ≡ seen') × HomeFits home shown (home_view s)) ⊎ ((o : Observed) × (seen ≡ o ∷ seen') × IsHomed turns home shown s o)

homed_next : (turns : List Turn) (home : HomeTurn) (shown : List Bool) (s s' : LineState) (whose : Agent) (seen seen' : List Observed) → Homed turns home shown s s' whose
    → seen ≡ sent_of_agent whose (busy_in (cells_of s whose.0)) (cells_of s' whose.0) ++ seen' → HomeNext turns home shown s' seen seen'
homed_next turns home shown s s' whose seen seen' h e = go h.sent h.is h.keeps
  where
    go : (sent : Option Msg) → sent_of_agent whose (busy_in (cells_of s whose.0)) (cells_of s' whose.0) ≡ flits_of whose sent → HomeLeaves turns home whose sent shown (home_view s') → HomeNext turns home shown s' seen seen'
    go None is keeps = inl (e ∙ ap (λ (l : List Observed). l ++ seen') is, keeps)
    go (Some message) is keeps = inr (seen_of.Flit (record { agent = whose; message = message }), e ∙ ap (λ (l : List Observed). l ++ seen') is, keeps)

-- whose flits a step sends is one of the eight
flit_low : (last : List ℕ) (s : LineState) (agent : Agent) (step : Step) → agent.0 < 8 → Kept last s → (flit_agent s agent step).0 < 8
flit_low last s agent steps.RecvSnpResp low k = go s.home.serving refl
  where
    go : (serving : Serving) → s.home.serving ≡ serving → (served_or serving agent).0 < 8
    go (servings.Snooping served kind slot) is = let inside : served.0 < 8 = subst IsServedRight is k.in_range in subst (λ (w : Agent). w.0 < 8) (sym (served_low served agent inside)) inside
    go servings.Idle is = low
    go (servings.AwaitingCompAck served slot) is = low
    go (servings.AwaitingWriteData served kind slot) is = low
flit_low last s agent other low k = low

step_home : (stores : StoreListing) (turns : List Turn) (home : HomeTurn) (s s' : SliceState) (agent : Agent) (step : Step) (effect : Effect) (shown shown' : List Bool) (seen seen' : List Observed) → SliceKept s → AllFit stores turns shown (line s 0) → HomeFits home shown (home_view (line s 0))
    → IsStepSeen agent step effect s shown seen s' shown' seen' → HomeNext turns home shown' (line s' 0) seen seen'
step_home stores turns home s s' agent step effect shown shown' seen seen' k f h is =
    let a : Acted s agent step = acted s agent step k (allowed s (line_action agent step) is.done.0) in
    let own : Homed turns home (shown_after shown agent step) (line s 0) (after_step s.config.profile (line s 0) agent step) (flit_agent (line s 0) agent step) =
    home_step (conditions_of s (line_action agent step)) stores a.line_kept.0 (line s 0) agent step turns home shown a.low a.may is.answers a.line_kept.1 f.each h in
    subst (λ (l : List Bool). HomeNext turns home l (line s' 0) seen seen') (sym is.taken)
    (subst (λ (t : SliceState). seen ≡ sent_between (line s 0) (line t 0) ++ seen' → HomeNext turns home (shown_after shown agent step) (line t 0) seen seen') (sym is.done.2)
    (λ e. homed_next turns home (shown_after shown agent step) (line s 0) _ (flit_agent (line s 0) agent step) seen seen'
    (subst (λ (l : LineState). Homed turns home (shown_after shown agent step) (line s 0) l (flit_agent (line s 0) agent step)) (sym a.left) own) (e ∙ ap (λ (l : List Observed). l ++ seen') (action_sends s agent step (flit_low a.line_kept.0 (line s 0) agent step a.low a.line_kept.1)))) is.sent)

-- a load or a store that was seen
access_home : (stores : StoreListing) (turns : List Turn) (home : HomeTurn) (s s' : SliceState) (agent : Agent) (step : Step) (effect : Effect) (shown shown' : List Bool) (seen seen' : List Observed) (o : Observed) → SliceKept s → AllFit stores turns shown (line s 0) → HomeFits home shown (home_view (line s 0))
    → ((profile : Profile) (l : LineState) → sent_between l (after_step profile l agent step) ≡ []) → shown_after shown agent step ≡ shown → home_view (after_step s.config.profile (line s 0) agent step) ≡ home_view (line s 0) → ((at : SeenAt) → home_behind turns at home o ≡ Some home)
    → IsStepSeen agent step effect s shown seen s' shown' (o ∷ seen') → HomeNext turns home shown' (line s' 0) seen seen'
access_home stores turns home s s' agent step effect shown shown' seen seen' o k f h silent same view stays is =
    let a : Acted s agent step = acted s agent step k (allowed s (line_action agent step) is.done.0) in
    subst (λ (l : List Bool). HomeNext turns home l (line s' 0) seen seen') (sym (is.taken ∙ same))
    (subst (λ (t : SliceState). seen ≡ sent_between (line s 0) (line t 0) ++ (o ∷ seen') → HomeNext turns home shown (line t 0) seen seen') (sym is.done.2)
    (λ e. inr (
      o,
      e ∙ ap (λ (l : List Observed). l ++ (o ∷ seen')) (ap (sent_between (line s 0)) a.left ∙ silent s.config.profile (line s 0)),
      λ at. (home, stays at, subst (λ (l : LineState). HomeFits home shown (home_view l)) (sym a.left) (subst (HomeFits home shown) (sym view) h)),
    )) is.sent)

-- a snoop that is seen
shown_home : (stores : StoreListing) (turns : List Turn) (home : HomeTurn) (last : List ℕ) (s : LineState) (agent : Agent) (snp : Option Snoop) (shown : List Bool) (seen seen' : List Observed) → Kept last s → AllFit stores turns shown s → HomeFits home shown (home_view s) → agent.0 < 8 → get_or shown agent.0 false ≡ false
    → (cells_of s agent.0).snp ≡ snp → IsSnoopSeen agent snp seen seen' → HomeNext turns home (set shown agent.0 true) s seen seen'
shown_home stores turns home last s agent None shown seen seen' k f h low hidden here is = absurd is
shown_home stores turns home last s agent (Some snoop) shown seen seen' k f h low hidden here is =
    let out = (k.lanes agent.0 low).snoop_fits snoop here in
    let snoops = is_snooping s.home.serving (ap is_some out) in
    let of = serves last s snoops.agent snoops.kind snoops.slot snoops.serving_is (ap is_some (sym (ap snoop_out snoops.serving_is) ∙ out)) k in
    inr (
      seen_of.Flit (record { agent = agent; message = messages.Snp snoop }),
      is,
      λ at. seen_home last s snoops.agent snoops.kind snoops.slot agent snoop turns at home.filter home.service shown of low here hidden (served_turn stores last s snoops.agent snoops.kind snoops.slot turns shown of f.each).waits h,
    )

item_home : (stores : StoreListing) (item : WitnessItem) (turns : List Turn) (home : HomeTurn) (s s' : SliceState) (shown shown' : List Bool) (seen seen' : List Observed) → SliceKept s → AllFit stores turns shown (line s 0) → HomeFits home shown (home_view (line s 0)) → Explains item s shown seen s' shown' seen'
    → HomeNext turns home shown' (line s' 0) seen seen'
item_home stores (Act agent step) turns home s s' shown shown' seen seen' k f h is = step_home stores turns home s s' agent step is.0 shown shown' seen seen' k f h is.1
item_home stores (Shown agent) turns home s s' shown shown' seen seen' k f h is =
    let kept = kept_line s k in
    subst (λ (t : SliceState). HomeNext turns home shown' (line t 0) seen seen') (sym is.1)
    (subst (λ (l : List Bool). HomeNext turns home l (line s 0) seen seen') (sym is.0.now)
    (shown_home stores turns home kept.0 (line s 0) agent (cells_of (line s 0) agent.0).snp shown seen seen' kept.1 f h (snoop_low (line s 0) agent.0 agent seen seen' kept.1.flits is.0.snoop) is.0.first refl is.0.snoop))
item_home stores (Load agent word value) turns home s s' shown shown' seen seen' k f h is =
    access_home stores turns home s s' agent (steps.Load word) _ shown shown' seen seen' (seen_of.Load agent word value) k f h (load_silent agent word) refl refl (λ at. refl) is
item_home stores (Store agent word value) turns home s s' shown shown' seen seen' k f h is =
    access_home stores turns home s s' agent (steps.Store word value) is.0 shown shown' seen seen' (seen_of.Store agent word value) k f h (store_silent agent word value) refl refl (λ at. refl) is.1

-- WHAT IS EXPLAINED: the first of it is in turn, and what is behind it is explained from there
pub record Running (profile : Profile) (stores : StoreListing) (turns : List Turn) (home : HomeTurn) (rest : List Observed) : Type 0 where
  pub slice : SliceState
  pub shown : List Bool
  pub items : List WitnessItem
  pub of : slice.config.profile ≡ profile
  pub listed : AreListed stores items
  pub kept : SliceKept slice
  pub fits : AllFit stores turns shown (line slice 0)
  pub at_home : HomeFits home shown (home_view (line slice 0))
  pub explained : Explained slice shown items rest

-- nothing explains the rest from a line that the turns fit
abbrev pub NoRun : Profile → StoreListing → List Turn → HomeTurn → List Observed → Type 0
NoRun profile stores turns home rest = Running profile stores turns home rest → ⊥

record Goes (profile : Profile) (stores : StoreListing) (at : SeenAt) (turns : List Turn) (home : HomeTurn) (o : Observed) (rest : List Observed) : Type 0 where
  pub turns' : List Turn
  pub home' : HomeTurn
  pub turned : turns_after profile stores at turns o ≡ Ok turns'
  pub homed : home_behind turns at home o ≡ Some home'
  pub behind : Running profile stores turns' home' rest

not_longer : (o : Observed) (l : List Observed) → l ≡ o ∷ l → ⊥
not_longer o l e = let n : length l ≡ length (o ∷ l) = ap length e in absurd (omega (arith, n))

goes_from : (profile : Profile) (stores : StoreListing) (at : SeenAt) (turns : List Turn) (home : HomeTurn) (o : Observed) (rest : List Observed) (s : SliceState) (shown : List Bool) (items : List WitnessItem) → s.config.profile ≡ profile → AreListed stores items → SliceKept s → AllFit stores turns shown (line s 0)
    → HomeFits home shown (home_view (line s 0)) → Explained s shown items (o ∷ rest) → Goes profile stores at turns home o rest
goes_from profile stores at turns home o rest s shown [] of listed k f h is = absurd (cc (is))
goes_from profile stores at turns home o rest s shown (item ∷ items) of listed k f h is =
    let next = item_next stores item turns s is.0 shown is.1 (o ∷ rest) is.2 k f (listed_first stores item items listed) is.3 in
    let still : is.0.config.profile ≡ profile = ap (λ (c : Sizes). c.profile) next.0.1 ∙ of in
    by_next still next.0.0 (λ fits at_home explained. goes_from profile stores at turns home o rest is.0 is.1 items still (listed_rest stores item items listed) next.0.0 fits at_home explained) next.1 (item_home stores item turns home s is.0 shown is.1 (o ∷ rest) is.2 k f h is.3)
  where
    by_next : is.0.config.profile ≡ profile → SliceKept is.0 → (AllFit stores turns is.1 (line is.0 0) → HomeFits home is.1 (home_view (line is.0 0)) → Explained is.0 is.1 items (o ∷ rest) → Goes profile stores at turns home o rest)
        → Next s.config.profile stores turns is.1 (line is.0 0) (o ∷ rest) is.2 → HomeNext turns home is.1 (line is.0 0) (o ∷ rest) is.2 → Goes profile stores at turns home o rest
    by_next still kept later (inl same) (inl at_home) = later same.1 at_home.1 (subst (Explained is.0 is.1 items) (sym same.0) is.4)
    by_next still kept later (inr one) (inr own) =
        let e = first_seen o one.0 rest is.2 one.1 in
        let d = first_seen o own.0 rest is.2 own.1 in
        let turned = one.2 at in
        let homed = own.2 at in
        record {
          turns' = turned.0;
          home' = homed.0;
          turned = ap (turns_after profile stores at turns) e.0 ∙ (ap (λ (p : Profile). turns_after p stores at turns one.0) (sym of) ∙ turned.1);
          homed = ap (home_behind turns at home) d.0 ∙ homed.1;
          behind = record { slice = is.0; shown = is.1; items = items; of = still; listed = listed_rest stores item items listed; kept = kept; fits = turned.2; at_home = homed.2; explained = subst (Explained is.0 is.1 items) (sym e.1) is.4 };
        }
    by_next still kept later (inl same) (inr own) = absurd (not_longer own.0 is.2 (sym same.0 ∙ own.1))
    by_next still kept later (inr one) (inl at_home) = absurd (not_longer one.0 is.2 (sym at_home.0 ∙ one.1))

goes : (profile : Profile) (stores : StoreListing) (at : SeenAt) (turns : List Turn) (home : HomeTurn) (o : Observed) (rest : List Observed) → Running profile stores turns home (o ∷ rest) → Goes profile stores at turns home o rest
goes profile stores at turns home o rest b = goes_from profile stores at turns home o rest b.slice b.shown b.items b.of b.listed b.kept b.fits b.at_home b.explained

pub run_on : (profile : Profile) (stores : StoreListing) (at : SeenAt) (turns turns' : List Turn) (home home' : HomeTurn) (o : Observed) (rest : List Observed) → turns_after profile stores at turns o ≡ Ok turns' → home_behind turns at home o ≡ Some home' → NoRun profile stores turns' home' rest
    → NoRun profile stores turns home (o ∷ rest)
run_on profile stores at turns turns' home home' o rest is own none b =
    let t = goes profile stores at turns home o rest b in
    let e : ◌≡◌ {A = Result (List Turn) _} (Ok t.turns') (Ok turns') = sym t.turned ∙ is in
    let d : Some t.home' ≡ Some home' = sym t.homed ∙ own in
    let same : t.turns' ≡ turns' = cc (e) in
    let also : t.home' ≡ home' = cc (d) in
    none (subst (λ (h : HomeTurn). Running profile stores turns' h rest) also (subst (λ (l : List Turn). Running profile stores l t.home' rest) same t.behind))

pub run_ends : (profile : Profile) (stores : StoreListing) (at : SeenAt) (turns : List Turn) (home : HomeTurn) (o : Observed) (rest : List Observed) → is_out_of_turn profile stores at turns home o ≡ true → NoRun profile stores turns home (o ∷ rest)
run_ends profile stores at turns home o rest out b =
    let t = goes profile stores at turns home o rest b in
    let in_turn : is_out_of_turn profile stores at turns home o ≡ false = λ i. is_err (t.turned i) || is_none (t.homed i) in
    both_ways (is_out_of_turn profile stores at turns home o) in_turn out

-- AN OPENING LINE
unmarked : (marks : List Bool) → All (λ (marked : Bool). not marked ≡ true) marks → (n : ℕ) → n < length marks → get_or marks n false ≡ false
unmarked marks all n low = go (get_or marks n false) (all n false low)
  where
    go : (b : Bool) → not b ≡ true → b ≡ false
    go true is = absurd (cc (is))
    go false is = refl

opening_home : (memory : List ℕ) (s : SliceState) → IsOpen memory (line_view (line s 0) (last_of s 0)) → SliceKept s → HomeFits no_home (replicate 8 false) (home_view (line s 0))
opening_home memory s is k = record {
  long = refl;
  there = λ m at seen. absurd (both_ways (get_or (replicate 8 false) m false) (get_or-replicate 8 m false false at) seen);
  does = subst (λ (v : Serving). IsQuiet v empty_filter (replicate 8 false) (home_view (line s 0))) (sym is.quiet.serving)
      (sym same);
}
  where
    named : (line s 0).home.filter.named ≡ nobody
    named = ext_get_or false (line s 0).home.filter.named nobody (kept_line s k).1.named
        (λ n low. unmarked (line s 0).home.filter.named is.quiet.named n low ∙ sym (get_or-replicate 8 n false false (omega (arith, low, (kept_line s k).1.named))))

    same : (line s 0).home.filter ≡ empty_filter
    same = λ i. record { named = named i; unique = is.quiet.unique i; owner = is.quiet.owner i }

pub unexplained_run : (config : Sizes) (stores : StoreListing) (seen : List Observed) → NoRun config.profile stores (replicate 8 no_turn) no_home seen → IsUnexplainable config stores seen
unexplained_run config stores seen none memory items is =
    none (record {
      slice = is.0;
      shown = replicate 8 false;
      items = items;
      of = ap (λ (c : Sizes). c.profile) is.1;
      listed = is.4;
      kept = is.2.1;
      fits = opening_fits stores memory is.0 is.2.0;
      at_home = opening_home memory is.0 is.2.0 is.2.1;
      explained = is.3;
    })
