-- The headline of a node, from what its slices keep, its ports know and its calls do.
use Rattle.std.proofs.Common.{◌≡◌, ◌≢◌, inl, inr, ℕ, zero, suc, ◌<◌, ◌==◌, ◌%◌, ◌&&◌, Bool, true, false, All, Option, Some, List, [], ◌∷◌, length, is_some, nat_lt, refl, sym, ◌∙◌, ap, subst, arith}
use Rattle.std.proofs.lemmas.Bool.Decides.{nat_tests}
use Rattle.std.specs.List.{slice_index_or}
use Rattle.std.proofs.lemmas.List.{length-map}
use Rattle.chi_flit.specs.declared.message.Request.{Request}
use Rattle.chi_flit.specs.declared.numbers.Agent.{Agent}
use Rattle.chi_flit.specs.declared.numbers.Entry.{Entry}
use Rattle.chi_flit.specs.declared.numbers.Line.{Line}
use Rattle.chi_slice.specs.Words.{cells_of, no_flit_unless, standing_of, Coherent, Sizes}
use Rattle.chi_slice.specs.Coherence.{IsCoherentSlice}
use Rattle.chi_slice.specs.Slice.{are_in_range, is_line_in_range, opening_slice}
use Rattle.chi_tracker.specs.declared.shape.Shape.{Shape}
use Rattle.chi_tracker.specs.Acts.{Act}
use Rattle.chi_tracker.specs.History.{port_at, IsAfter}
use Rattle.chi_tracker.specs.Calls.{shape_of}
use Rattle.chi_tracker.specs.Witness.{AreAfter, AreAllPorts}
use Rattle.chi_slice.proofs.Rows.{in_limits}
use Rattle.chi_tracker.specs.Laws.{Place}
use Rattle.chi_tracker.specs.Shape.{low}
use Rattle.chi_tracker.specs.Views.{PortView, has}
use Rattle.chi_tracker.specs.Words.{c_of, p_of}
use mathlib.Core.Logic.{dite}
use native.Mathlib.Decide.{ℕ_discrete}
use Rattle.chi_node.specs.declared.answers.Arrived.{Arrived}
use Rattle.chi_node.specs.declared.answers.Arrived.TheVariants.{Admitted, Retried}
use Rattle.chi_node.specs.Arrives.{Arrives}
use Rattle.chi_node.specs.Calls.{ArrivesAt}
use Rattle.chi_node.specs.Headline.{Headline, IsAdmitted, views_in}
use Rattle.chi_node.proofs.RowCalls.{flit_wanted}
use Rattle.chi_node.specs.Home.{HomeState, IsHome, index_of, node_last, node_line, slice_of}
use Rattle.chi_node.specs.Requester.{no_requester, RequesterState}
use Rattle.chi_node.specs.System.{IsSystem, SystemState, requester_of}
use Rattle.chi_node.proofs.Homes.{index_at, is_low, sizes_at}

pub both_true : (a b : Bool) → a ≡ true → b ≡ true → (a && b) ≡ true
both_true a b left right = ap (λ (x : Bool). x && b) left ∙ right

is_below : (n m : ℕ) → n < m → nat_lt n m ≡ true
is_below n m low = grind (arith, nat_tests, low)

is_same : (n m : ℕ) → n ≡ m → (n == m) ≡ true
is_same n m is = grind (arith, is)

-- a line of the node is in its slice, and an agent of the node in each
line_there : (h : HomeState) (l : ℕ) → IsHome h → l < h.config.lines → is_line_in_range (slice_of h l) l ≡ true
line_there h l k low =
    let sizes = sizes_at h l k in
    both_true _ _ (subst (λ (z : Sizes). nat_lt l z.lines ≡ true) (sym sizes) (is_below l h.config.lines low))
    (is_same _ _ (ap (λ (z : Sizes). l % z.slices) sizes ∙ sym (index_at h l k)))

both_there : (h : HomeState) (n l : ℕ) → IsHome h → n < h.config.agents → l < h.config.lines → are_in_range (slice_of h l) n l ≡ true
both_there h n l k near low = both_true _ _ (subst (λ (z : Sizes). nat_lt n z.agents ≡ true) (sym (sizes_at h l k)) (is_below n h.config.agents near)) (line_there h l k low)

coherent_line : (y : SystemState) (l : ℕ) → IsSystem y → All IsCoherentSlice y.home.slices → l < y.home.config.lines → Coherent (node_last y.home l) (standing_of (node_line y.home l))
coherent_line y l k all low =
    let slice : IsCoherentSlice (slice_of y.home l) = all (index_of y.home l) (opening_slice y.home.config 0) (is_low y.home l k.home) in
    slice.lines l (line_there y.home l k.home low)

-- the ports of all requesters are those of one state
view-at : (rs : List RequesterState) (n : ℕ) (d : RequesterState) → n < length rs → port_at (views_in rs) n ≡ (slice_index_or rs n d).port
view-at [] n d low = absurd (omega (arith, low))
view-at (r ∷ rs) zero d low = refl
view-at (r ∷ rs) (suc n) d low = view-at rs n d (omega (arith, low))

abbrev pub TogetherLaw : Type 0
TogetherLaw = (s : Shape) (history : List Act) (ports : List PortView) → 0 < s.agents → AreAfter s history ports → AreAllPorts s ports

together : (y : SystemState) (history : List Act) → IsSystem y → TogetherLaw → All (λ r. r.port.who ≡ r.number) y.requesters → All (λ r. IsAfter history r.port) y.requesters
    → AreAllPorts (shape_of y.home.config.entries y.home.config.agents) (views_in y.requesters)
together y history k law own after =
    let s : Shape = shape_of y.home.config.entries y.home.config.agents in let rs = y.requesters in
    let inside : (n : ℕ) → n < s.agents → n < length rs = λ n low. subst (λ m. n < m) (sym k.count) low in
    let at : (n : ℕ) → n < s.agents → port_at (views_in rs) n ≡ (requester_of y n).port = λ n low. view-at rs n no_requester (inside n low) in
    law s history (views_in rs) (omega (arith, (in_limits y.home.config k.home.limits).some_agent)) (record {
      count = length-map rs (λ r. r.port) ∙ k.count;
      shapes = λ n low. ap (λ (p : PortView). p.shape) (at n low) ∙ k.shapes n no_requester (inside n low);
      numbers = λ n low. ap (λ (p : PortView). p.who) (at n low) ∙ (own n no_requester (inside n low) ∙ k.numbers n low);
      after = λ n low. subst (IsAfter history) (sym (at n low)) (after n no_requester (inside n low));
    })

-- in one state an entry is in one port's hand
alone_in : (agents : ℕ) (c : ℕ → ℕ) (p : ℕ → ℕ → ℕ) (ports : List PortView) (e m n : ℕ) → Place agents c p ports e → m ≢ n → has e (port_at ports m) ≡ 1 → has e (port_at ports n) ≡ 0
alone_in agents c p ports e m n (inl free) apart held = absurd (omega (arith, free.1 m, held))
alone_in agents c p ports e m n (inr (inl hand)) apart held =
    let one = hand.1 in dite (ℕ_discrete m one.0)
    (λ q. one.3 n (λ r. apart (q ∙ sym r)))
    (λ d. absurd (omega (arith, one.3 m d, held)))
alone_in agents c p ports e m n (inr (inr promised)) apart held = absurd (omega (arith, promised.1 m, held))

view-anywhere : (rs : List RequesterState) (n : ℕ) → port_at (views_in rs) n ≡ (slice_index_or rs n no_requester).port
view-anywhere [] n = refl
view-anywhere (r ∷ rs) zero = refl
view-anywhere (r ∷ rs) (suc n) = view-anywhere rs n

alone : (s : Shape) (rs : List RequesterState) → AreAllPorts s (views_in rs) → (m n e : ℕ) → m ≢ n → e < low s 4 → has e (slice_index_or rs m no_requester).port ≡ 1 → has e (slice_index_or rs n no_requester).port ≡ 0
alone s rs all m n e apart low_e held =
    let place = subst (λ (ps : List PortView). Place s.agents (c_of all.state.words) (p_of all.state.words) ps e) all.all (all.places e low_e) in
    ap (has e) (sym (view-anywhere rs n)) ∙ alone_in s.agents (c_of all.state.words) (p_of all.state.words) (views_in rs) e m n place apart (ap (has e) (view-anywhere rs m) ∙ held)

-- a resent request is admitted
resent_entry : (s : ℕ) (b : Bool) (arrived : Arrived) (r r' : RequesterState) → b ≡ false → Arrives b s arrived r r' → (e : Entry) × (arrived ≡ Admitted e)
resent_entry s true arrived r r' is a = absurd (cc (is))
resent_entry s false (Admitted e) r r' is a = (e, refl)
resent_entry s false (Retried ty) r r' is a = absurd a

admitted : (y : SystemState) (agent : Agent) (l : Line) (request : Request) → IsSystem y → agent.0 < y.home.config.agents → l.0 < y.home.config.lines → (cells_of (node_line y.home l.0) agent.0).req ≡ Some request → request.allow_retry ≡ false → IsAdmitted y agent l
admitted y agent l request k near low there resent = record {
  allowed = flit_wanted (slice_of y.home l.0) agent.0 l.0 (both_there y.home agent.0 l.0 k.home near low)
      ∙ ap (λ (o : Option Request). no_flit_unless (is_some o)) there;
  entry = λ y' arrived done. resent_entry request.slot.0 request.allow_retry arrived (requester_of y agent.0) (requester_of y' agent.0) resent
      (subst (λ (o : Option Request). ArrivesAt o arrived (requester_of y agent.0) (requester_of y' agent.0)) there done.requester);
}

pub headline : (y : SystemState) (history : List Act) → IsSystem y → All IsCoherentSlice y.home.slices → TogetherLaw → All (λ r. r.port.who ≡ r.number) y.requesters → All (λ r. IsAfter history r.port) y.requesters → Headline y
headline y history k coherent law own after = let all = together y history k law own after in record {
  lines = λ l low. coherent_line y l k coherent low;
  loads = λ i d low. (coherent i d low).journal;
  entries = all;
  alone = alone (shape_of y.home.config.entries y.home.config.agents) y.requesters all;
  resent = λ agent l request near low there without. admitted y agent l request k near low there without;
}
