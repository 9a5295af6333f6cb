-- The end of a tracker: all ports in one seat, what was due added up, and the credits of each requester.
use Rattle.std.proofs.Common.{◌≡◌, ◌≢◌, ℕ, zero, suc, ◌+◌, ◌*◌, ◌<◌, ◌≤◌, List, [], ◌∷◌, ◌++◌, length, slice_index, refl, sym, ap, ◌∙◌, subst, arith, length-append, append-nil}
use mathlib.Core.Option.{some, some-injective, some-ne-none}
use mathlib.Core.Logic.{dite}
use native.Mathlib.Decide.{ℕ_discrete}
use lib.ListN.{get_elem?, get_or-append}
use lib.Seq.{get_or-append_seam}
use Rattle.atomic_table.specs.Table.{State}
use Rattle.chi_tracker.specs.declared.shape.Shape.{Shape}
use Rattle.chi_tracker.specs.declared.view.SeatView.{SeatView}
use Rattle.chi_tracker.specs.declared.totals.Counts.{Counts}
use Rattle.chi_tracker.specs.declared.totals.Credits.{Credits}
use Rattle.chi_tracker.specs.Sums.{total}
use Rattle.chi_tracker.specs.Shape.{count_of, owed_in}
use Rattle.chi_tracker.specs.Words.{c_of, p_of, o_of}
use Rattle.chi_tracker.specs.Views.{PortView}
use Rattle.chi_tracker.specs.Rule.{weigh, TrackerRule}
use Rattle.chi_tracker.specs.Acts.{Act}
use Rattle.chi_tracker.specs.History.{port_at, history_outcome, Legal, ArePortsOf}
use Rattle.chi_tracker.specs.Laws.{Ledger, duties}
use Rattle.chi_tracker.specs.Calls.{Owner}
use Rattle.chi_tracker.specs.Totals.{views_of, sum_of, AreDue, AreCredits, credits_at, no_credits, closed_state, IsClosed, IsCount, IsBalanced}
use Rattle.chi_tracker.proofs.Moves.{of_mine, of_other}
use Rattle.chi_tracker.proofs.Start.{regroup, seats-at}
use Rattle.chi_tracker.proofs.Exactly.{ledgers}

-- a read by get_elem? is a read by index
pub read_at : (xs : List ℕ) (i x : ℕ) → get_elem? xs i ≡ some x → slice_index xs i ≡ x
read_at [] i x e = absurd (some-ne-none x (sym e))
read_at (y ∷ ys) zero x e = some-injective y x e
read_at (y ∷ ys) (suc i) x e = read_at ys i x e

pub views-length : (xs : List Owner) → length (views_of xs) ≡ length xs
views-length [] = refl
views-length (x ∷ xs) = ap suc (views-length xs)

-- who has all ports has all views
none-else : (f : PortView → ℕ) (ps : List PortView) → total (λ _. 1) ps ≡ 0 → total f ps ≡ 0
none-else f [] e = refl
none-else f (p ∷ ps) e = absurd (omega arith)

no-more : (f : PortView → ℕ) (vs : List SeatView) → weigh (λ _. 1) vs ≡ 0 → weigh f vs ≡ 0
no-more f [] e = refl
no-more f (v ∷ vs) e = omega (arith, none-else f v.ports (omega arith), no-more f vs (omega arith))

pub whole : (f : PortView → ℕ) (vs : List SeatView) (id : ℕ) (v : SeatView) → get_elem? vs id ≡ some v → weigh (λ _. 1) vs ≡ total (λ _. 1) v.ports → weigh f vs ≡ total f v.ports
whole f [] id v at e = absurd (some-ne-none v (sym at))
whole f (w ∷ vs) zero v at e =
    let same : w ≡ v = some-injective w v at in let a : total (λ _. 1) w.ports ≡ total (λ _. 1) v.ports = ap (λ (u : SeatView). total (λ _. 1) u.ports) same in let b : total f w.ports ≡ total f v.ports = ap (λ (u : SeatView). total f u.ports) same in
    omega (arith, no-more f vs (omega arith))
whole f (w ∷ vs) (suc id) v at e =
    let h = term vs id v at in omega (arith, whole f vs id v at (omega arith), none-else f w.ports (omega arith))
  where
    term : (vs : List SeatView) (id : ℕ) (v : SeatView) → get_elem? vs id ≡ some v → total (λ _. 1) v.ports ≤ weigh (λ _. 1) vs
    term [] id v at = absurd (some-ne-none v (sym at))
    term (w ∷ vs) zero v at = let a : total (λ _. 1) w.ports ≡ total (λ _. 1) v.ports = ap (λ (u : SeatView). total (λ _. 1) u.ports) (some-injective w v at) in omega arith
    term (w ∷ vs) (suc id) v at = omega (arith, term vs id v at)

pub ones : (ps : List PortView) → total (λ _. 1) ps ≡ length ps
ones [] = refl
ones (p ∷ ps) = omega (arith, ones ps)

-- the credits of one requester more
pub credits_more : (s : Shape) (ws dues : List ℕ) (m : ℕ) (all all' : List Credits) (x : Credits) → AreCredits s ws dues m all → all' ≡ all ++ x ∷ []
    → ((t : ℕ) → t < 4 → slice_index x.due t ≡ slice_index dues (4 * m + t)) → ((t : ℕ) → t < 4 → slice_index x.owed t ≡ owed_in t (o_of ws m)) → ((t : ℕ) → t < 4 → slice_index x.promised t ≡ count_of s t (p_of ws m))
    → AreCredits s ws dues (m + 1) all'
credits_more s ws dues m all all' x a is due owed promised =
    let at : (n : ℕ) → n < m → credits_at (all ++ x ∷ []) n ≡ credits_at all n = λ n l. get_or-append all (x ∷ []) no_credits n (omega (arith, a.requesters)) in
    let last : credits_at (all ++ x ∷ []) m ≡ x = ap (credits_at (all ++ x ∷ [])) (sym a.requesters) ∙ get_or-append_seam all x [] no_credits in
    subst (AreCredits s ws dues (m + 1)) (sym is) (record {
      requesters = omega (arith, length-append all (x ∷ []), a.requesters);
      owed = λ n t ln lt. dite (ℕ_discrete n m)
          (λ q. ap (λ k. slice_index (credits_at (all ++ x ∷ []) k).owed t) q ∙ ap (λ c. slice_index c.owed t) last ∙ owed t lt ∙ ap (λ k. owed_in t (o_of ws k)) (sym q))
          (λ d. ap (λ c. slice_index c.owed t) (at n (omega arith)) ∙ a.owed n t (omega arith) lt);
      promised = λ n t ln lt. dite (ℕ_discrete n m)
          (λ q. ap (λ k. slice_index (credits_at (all ++ x ∷ []) k).promised t) q ∙ ap (λ c. slice_index c.promised t) last ∙ promised t lt ∙ ap (λ k. count_of s t (p_of ws k)) (sym q))
          (λ d. ap (λ c. slice_index c.promised t) (at n (omega arith)) ∙ a.promised n t (omega arith) lt);
      due = λ n t ln lt. dite (ℕ_discrete n m)
          (λ q. ap (λ k. slice_index (credits_at (all ++ x ∷ []) k).due t) q ∙ ap (λ c. slice_index c.due t) last ∙ due t lt ∙ ap (λ k. slice_index dues (4 * k + t)) (sym q))
          (λ d. ap (λ c. slice_index c.due t) (at n (omega arith)) ∙ a.due n t (omega arith) lt);
    })

-- a state whose seat has all ports keeps the rule with that seat alone
pub one_seat : (key : Shape) (st : State ℕ SeatView) (id : ℕ) (v : SeatView) → TrackerRule key st → get_elem? st.views id ≡ some v → length v.ports ≡ key.agents → TrackerRule key (closed_state st.words v.ports)
one_seat key st id v rule at many =
    let all : (f : PortView → ℕ) → weigh f st.views ≡ total f v.ports = λ f. whole f st.views id v at (omega (arith, rule.fits.ports, ones v.ports)) in record {
      words = rule.words;
      agents = rule.agents;
      entries = rule.entries;
      fits = regroup key (c_of st.words) (p_of st.words) (o_of st.words) st.views (record { ports = v.ports; history = [] } ∷ []) (λ f. omega (arith, all f)) (seats-at key st.views id v rule.fits.sound at, tt) rule.fits;
    }

-- the numbers read from the words at the end
pub closes : (key s : Shape) (ws : List ℕ) (gathered ports : List PortView) (known history : List Act) (dues : List ℕ) (counts : Counts) (credits : List Credits) → key ≡ s → gathered ≡ ports → known ≡ history → TrackerRule key (closed_state ws gathered) → Legal key known × (ws ≡ (history_outcome key known).words) × ArePortsOf key known [] gathered
    → ((n t : ℕ) → duties n t ports ≡ 0) → AreDue dues ports → IsCount s ws counts → AreCredits s ws dues s.agents credits → IsClosed s ports history counts credits
closes key s ws gathered ports known history dues counts credits key_is all known_is rule by idle due counted handed =
    let B : Shape → List PortView → List Act → Type 0 = λ (k : Shape) (ps : List PortView) (h : List Act). Legal k h × (ws ≡ (history_outcome k h).words) × ArePortsOf k h [] ps in
    let made : B s ports history = subst (λ (k : Shape). B k ports history) key_is (subst (λ (ps : List PortView). B key ps history) all (subst (λ (h : List Act). B key gathered h) known_is by)) in
    let kept : TrackerRule s (closed_state ws ports) = subst (λ k. TrackerRule k (closed_state ws ports)) key_is (subst (λ ps. TrackerRule key (closed_state ws ps)) all rule) in record {
      words = ws;
      legal = made.0;
      made = made.1;
      left = made.2;
      rule = kept;
      no_duty = idle;
      counted = counted;
      dues = dues;
      due = due;
      handed = handed;
    }

-- what is due is what is owed and what is promised
pub balances : (s : Shape) (ports : List PortView) (history : List Act) (counts : Counts) (credits : List Credits) → IsClosed s ports history counts credits → IsBalanced s.agents credits
balances s ports history counts credits closed n t ln lt =
    let led : Ledger s (p_of closed.words) (o_of closed.words) ports n t = subst (λ (ps : List PortView). Ledger s (p_of closed.words) (o_of closed.words) ps n t) (append-nil ports) (ledgers s (closed_state closed.words ports) closed.rule n t ln lt) in let i : ℕ = led.0 in
    let h = closed.handed.due n t ln lt in let k = closed.due n t (omega (arith, closed.rule.agents)) lt in let d = closed.no_duty n t in let o = closed.handed.owed n t ln lt in let q = closed.handed.promised n t ln lt in
    let mine : (f : PortView → ℕ) → sum_of n f ports ≡ f (port_at ports i) = λ f. sum-mine n f ports i led.1 led.2 led.3 in
    let a = mine (λ x. slice_index x.retries t) in let b = mine (λ x. slice_index x.spent t) in let e = mine (λ x. slice_index x.returned t) in let g = led.4 in omega arith
  where
    sum-none : (n : ℕ) (f : PortView → ℕ) (ps : List PortView) → ((j : ℕ) → j < length ps → (port_at ps j).who ≢ n) → sum_of n f ps ≡ 0
    sum-none n f [] h = refl
    sum-none n f (p ∷ ps) h = omega (arith, of_other n f p (h 0 (omega arith)), sum-none n f ps (λ j l. h (suc j) (omega arith)))

    sum-mine : (n : ℕ) (f : PortView → ℕ) (ps : List PortView) (i : ℕ) → i < length ps → (port_at ps i).who ≡ n → ((j : ℕ) → j < length ps → j ≢ i → (port_at ps j).who ≢ n) → sum_of n f ps ≡ f (port_at ps i)
    sum-mine n f [] i l w h = absurd (omega arith)
    sum-mine n f (p ∷ ps) zero l w h = omega (arith, of_mine n f p w, sum-none n f ps (λ j lj. h (suc j) (omega arith) (λ q. omega arith)))
    sum-mine n f (p ∷ ps) (suc i) l w h = omega (arith, of_other n f p (h 0 (omega arith) (λ q. omega arith)), sum-mine n f ps i (omega arith) w (λ j lj d. h (suc j) (omega arith) (λ q. d (omega arith))))
