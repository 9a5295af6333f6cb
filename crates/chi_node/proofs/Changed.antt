-- What a call leaves of a node: of its slices, of its agent's requester and of the others.
use Rattle.std.proofs.Common.{◌≡◌, ℕ, ◌<◌, List, Option, Result, OnErr, length, get_or, refl, sym, ◌∙◌, ap, subst, subst₂}
use Rattle.std.proofs.Math.ListN.{set, length-set}
use Rattle.std.proofs.lemmas.Grind.{get_or-set_at}
use Rattle.std.proofs.lemmas.List.{get_or_default, set-get_or}
use Rattle.std.proofs.lemmas.Result.{IfOk-weaker, on_err_weaker}
use Rattle.std.specs.List.{refill}
use Rattle.std.specs.Prelude.{IfOk}
use Rattle.arrayvec.proofs.ArrayVecLemmas.{items-with_items}
use Rattle.atomic_table.specs.Seated.{TableId}
use Rattle.chi_tracker.specs.Calls.{TrackerState}
use Rattle.chi_flit.specs.Refusal.{refusal_of}
use Rattle.chi_flit.specs.declared.action.Action.{Action}
use Rattle.chi_flit.specs.declared.numbers.Agent.{Agent}
use Rattle.chi_flit.specs.declared.numbers.Line.{Line}
use Rattle.chi_flit.specs.declared.refusal.Refusal.{Refusal}
use Rattle.chi_slice.specs.Words.{cells_of, Sizes}
use Rattle.chi_flit.specs.declared.action.Effect.TheVariants.{Nothing}
use Rattle.chi_slice.specs.Protocol.{SliceStep}
use Rattle.chi_slice.specs.Slice.{IsRowOf, SliceState, opening_slice}
use Rattle.chi_node.specs.declared.answers.Arrived.{Arrived}
use Rattle.chi_node.specs.declared.answers.Stepped.{Stepped}
use Rattle.chi_node.specs.Agree.{Agree, KeepsAgreement}
use Rattle.chi_node.specs.Outstanding.{arrival_refusal, outstanding_of, step_refusal}
use Rattle.chi_node.specs.Calls.{arrival_action, place_at, ArrivesAt, ArrivesOn, IsSameRequester, IsSameSlice, StepsTo}
use Rattle.chi_node.specs.AfterStep.{Finishes}
use Rattle.chi_node.specs.Parts.{HasTypes}
use Rattle.chi_node.specs.Requester.{RequesterState, no_requester, IsRunning}
use Rattle.chi_node.specs.Home.{HomeState, slices_after, index_of, node_line, slice_of, with_slice}
use Rattle.chi_node.specs.System.{ArrivesIn, IsSystemOf, IsSystem, StepsIn, SystemState, arrive_refusal, requester_of, system_step_refusal}
use Rattle.chi_node.proofs.Homes.{is_low, sizes_at, slice_read}
use Rattle.chi_node.proofs.Systems.{has_requester, have_types, visited}

-- requesters that are lent out and come back with one changed
pub written_back : (rs lent back : List RequesterState) (n : ℕ) (r : RequesterState) → lent ≡ rs → back ≡ set lent n r → refill (length rs) rs back ≡ set rs n r
written_back rs lent back n r is changed =
    let now : back ≡ set rs n r = changed ∙ ap (λ (l : List RequesterState). set l n r) is in
    items-with_items (record { items = rs }) back (ap length now ∙ length-set rs n r) ∙ now

abbrev pub node : HomeState → List RequesterState → SystemState
node h rs = record { home = h; requesters = rs }

-- the node with another slice for a line, and another requester for an agent
abbrev pub left_node : SystemState → ℕ → ℕ → SliceState → RequesterState → SystemState
left_node y n l s r = node (with_slice y.home l s) (set y.requesters n r)

-- a call on the slice of a line, for an agent's requester: what it found, and the node that it left
pub record Called (y y' : SystemState) (n l : ℕ) (s s' : SliceState) (r r' : RequesterState) : Type 0 where
  pub near : n < y.home.config.agents
  pub slice : slice_of y.home l ≡ s
  pub requester : requester_of y n ≡ r
  pub left : left_node y n l s' r' ≡ y'

pub called : (y : SystemState) (n l place at : ℕ) (s s' : SliceState) (d r' : RequesterState) (rs : List RequesterState) → IsSystem y → n < y.home.config.agents → place ≡ index_of y.home l → s ≡ get_or y.home.slices place s → rs ≡ y.requesters → at ≡ n
    → Called y (node (record y.home { slices = set y.home.slices place s' }) (refill (length y.requesters) y.requesters (set rs at r'))) n l s s' (get_or rs at d) r'
called y n l place at s s' d r' rs k near is read lent own = record {
  near = near;
  slice = sym (slice_read y.home l place s k.home is read);
  requester = sym (ap (λ (i : ℕ). get_or rs i d) own ∙ (ap (λ (xs : List RequesterState). get_or xs n d) lent ∙ get_or_default y.requesters n d no_requester (has_requester y n k near)));
  left = sym (λ i. node (record y.home { slices = set y.home.slices (is i) s' }) (written_back y.requesters rs (set rs at r') n r' lent (ap (λ (j : ℕ). set rs j r') own) i));
}

-- what it found is as a call on a slice wants it
pub record CanCall (table : TableId) (n : ℕ) (s : SliceState) (r : RequesterState) : Type 0 where
  pub of_table : r.table ≡ table
  pub number : n ≡ r.number
  pub types : HasTypes s.config r.port.shape
  pub agrees : Agree s r

pub can_call : (tracker : TrackerState) (y y' : SystemState) (n l : ℕ) (s s' : SliceState) (r r' : RequesterState) → IsSystemOf tracker y → Called y y' n l s s' r r' → CanCall tracker.table n s r
can_call tracker y y' n l s s' r r' own call =
    let k : IsSystem y = own.system in
    let low = has_requester y n k call.near in
    subst₂ (CanCall tracker.table n) call.slice call.requester (record {
      of_table = own.tables n no_requester low;
      number = sym (k.numbers n call.near);
      types = subst (λ (z : Sizes). HasTypes z (requester_of y n).port.shape) (sym (sizes_at y.home l k.home)) (have_types y k n no_requester low);
      agrees = k.agree (index_of y.home l) (opening_slice y.home.config 0) (is_low y.home l k.home) n no_requester low;
    })

-- the node keeps what it keeps
pub still_system : (tracker : TrackerState) (y y' : SystemState) (n l : ℕ) (s s' : SliceState) (r r' : RequesterState) → IsSystemOf tracker y → Called y y' n l s s' r r' → IsSameSlice s s' → IsSameRequester r r' → KeepsAgreement s s' r r' → (IsRunning r → IsRunning r') → IsSystemOf tracker y'
still_system tracker y y' n l s s' r r' own call slice requester agreement running =
    subst (IsSystemOf tracker) call.left (visited tracker y n l s' r' own call.near (subst (λ (x : SliceState). IsSameSlice x s') (sym call.slice) slice)
    (subst (λ (q : RequesterState). IsSameRequester q r') (sym call.requester) requester) (subst₂ (λ (x : SliceState) (q : RequesterState). KeepsAgreement x s' q r') (sym call.slice) (sym call.requester) agreement)
    (subst (λ (q : RequesterState). IsRunning q → IsRunning r') (sym call.requester) running))

-- what is answered: why the call is refused, or what it did; refused, it changes nothing
abbrev Said : {T : Type 0} → Result T Refusal → (SliceState → RequesterState → Option Refusal) → (SliceState → RequesterState → T → Type 0) → SliceState → RequesterState → SliceState → RequesterState → Type 0
Said result why Did s' r' s r = (refusal_of result ≡ why s r) × IfOk result (Did s r) × OnErr result ((s' ≡ s) × (r' ≡ r))

abbrev pub Answered : {T : Type 0} → Result T Refusal → Option Refusal → (SystemState → T → Type 0) → SystemState → SystemState → Type 0
Answered result why Did y y' = (refusal_of result ≡ why) × IfOk result (Did y') × OnErr result (y' ≡ y)

stays_node : (y : SystemState) (n l : ℕ) → left_node y n l (slice_of y.home l) (requester_of y n) ≡ y
stays_node y n l = λ i. node (record y.home { slices = set-get_or y.home.slices (index_of y.home l) (opening_slice y.home.config 0) i }) (set-get_or y.requesters n no_requester i)

answered : {T : Type 0} (result : Result T Refusal) (y y' : SystemState) (n l : ℕ) (s s' : SliceState) (r r' : RequesterState) (why : SliceState → RequesterState → Option Refusal) (why_there : Option Refusal) (Did : SliceState → RequesterState → T → Type 0) (DidThere : SystemState → T → Type 0)
    → Called y y' n l s s' r r' → Said result why Did s' r' s r → why (slice_of y.home l) (requester_of y n) ≡ why_there → ((x : T) → Did (slice_of y.home l) (requester_of y n) x → DidThere (left_node y n l s' r') x) → Answered result why_there DidThere y y'
answered result y y' n l s s' r r' why why_there Did DidThere call said refusal did =
    let at : Said result why Did s' r' (slice_of y.home l) (requester_of y n) = subst₂ (Said result why Did s' r') (sym call.slice) (sym call.requester) said in
    subst (Answered result why_there DidThere y) call.left (
      at.0 ∙ refusal,
      IfOk-weaker result _ _ did at.1,
      on_err_weaker result (λ stays. (λ i. left_node y n l (stays.0 i) (stays.1 i)) ∙ stays_node y n l) at.2,
    )

-- the requester that is left
left_there : (y : SystemState) (n : ℕ) (r : RequesterState) → IsSystem y → n < y.home.config.agents → r ≡ get_or (set y.requesters n r) n no_requester
left_there y n r k near = sym (get_or-set_at y.requesters n n r no_requester refl (has_requester y n k near))

-- a row that was asked for is the requester's
pub row_found : (tracker : TrackerState) (y y' : SystemState) (n l : ℕ) (s s' : SliceState) (r r' : RequesterState) (row : ℕ) → IsSystemOf tracker y → Called y y' n l s s' r r' → IsRowOf (slice_of y.home l) n l row → IsRowOf s r.number l row
row_found tracker y y' n l s s' r r' row own call at =
    subst₂ (λ (x : SliceState) (m : ℕ). IsRowOf x m l row) call.slice (can_call tracker y y' n l s s' r r' own call).number at

-- the slice that is left
slice_there : (y : SystemState) (l : ℕ) (s : SliceState) → IsSystem y → s ≡ slice_of (with_slice y.home l s) l
slice_there y l s k = sym (get_or-set_at y.home.slices (index_of y.home l) (index_of y.home l) s (opening_slice y.home.config 0) refl (is_low y.home l k.home))

pub arrival_answered : (y y' : SystemState) (agent : Agent) (l : Line) (s s' : SliceState) (r r' : RequesterState) (result : Result Arrived Refusal) → IsSystem y → Called y y' agent.0 l.0 s s' r r'
    → Said result (λ x q. arrival_refusal x q.number l.0) (λ x q arrived. ArrivesOn x s' l q r' arrived) s' r' s r → Answered result (arrive_refusal y agent.0 l.0) (λ z arrived. ArrivesIn y z agent l arrived) y y'
arrival_answered y y' agent l s s' r r' result k call said =
    let n = agent.0 in
    let there = left_there y n r' k call.near in
    answered result y y' n l.0 s s' r r' (λ x q. arrival_refusal x q.number l.0) (arrive_refusal y n l.0) (λ x q arrived. ArrivesOn x s' l q r' arrived) (λ z arrived. ArrivesIn y z agent l arrived) call said
    (ap (λ (m : ℕ). arrival_refusal (slice_of y.home l.0) m l.0) (k.numbers n call.near)) (λ arrived (done : ArrivesOn (slice_of y.home l.0) s' l (requester_of y n) r' arrived). record {
      protocol = subst₂ (λ (m : ℕ) (x : SliceState). SliceStep (slice_of y.home l.0) (arrival_action m l arrived) Nothing x) (k.numbers n call.near) (slice_there y l.0 s' k) done.protocol;
      home = ap (λ (x : SliceState). with_slice y.home l.0 x) done.slice ∙ ap (λ (m : ℕ). slices_after y.home (arrival_action m l arrived)) (k.numbers n call.near);
      requester = subst₂ (λ (m : ℕ) (q : RequesterState). ArrivesAt (cells_of (node_line y.home l.0) m).req arrived (requester_of y n) q) (k.numbers n call.near) there done.requester;
      others = ap (λ (q : RequesterState). set y.requesters n q) there;
    })

pub step_answered : (y y' : SystemState) (action : Action) (s s' : SliceState) (r r' : RequesterState) (result : Result Stepped Refusal) → IsSystem y → Called y y' action.agent.0 action.line.0 s s' r r'
    → Said result (λ x q. step_refusal x (outstanding_of q) action) (λ x q stepped. StepsTo x s' action q r' stepped) s' r' s r → Answered result (system_step_refusal y action) (λ z stepped. StepsIn y z action stepped) y y'
step_answered y y' action s s' r r' result k call said =
    let n = action.agent.0 in
    let l = action.line.0 in
    let there = left_there y n r' k call.near in
    answered result y y' n l s s' r r' (λ x q. step_refusal x (outstanding_of q) action) (system_step_refusal y action) (λ x q stepped. StepsTo x s' action q r' stepped) (λ z stepped. StepsIn y z action stepped) call said
    refl (λ stepped (done : StepsTo (slice_of y.home l) s' action (requester_of y n) r' stepped). record {
      protocol = subst (SliceStep (slice_of y.home l) action stepped.effect) (slice_there y l s' k) done.protocol;
      home = ap (λ (x : SliceState). with_slice y.home l x) done.slice;
      effect = done.effect;
      requester = subst (Finishes (place_at (slice_of y.home l) action) action.step stepped.effect stepped.released (requester_of y n)) there done.requester;
      others = ap (λ (q : RequesterState). set y.requesters n q) there;
    })

-- requesters lent out, and given back as they were
pub back_same : (rs lent back : List RequesterState) → lent ≡ rs → back ≡ lent → refill (length rs) rs back ≡ rs
back_same rs lent back value same =
    let now : back ≡ rs = same ∙ value in
    items-with_items (record { items = rs }) back (ap length now) ∙ now
