-- A witness and a port: their histories agree, and what a load tells of both; and all ports of one state.
use Rattle.std.proofs.Common.{◌≡◌, ◌≢◌, ◌⊎◌, inl, inr, ⊎_elim, append_assoc, slice_index_or, ℕ, zero, suc, ◌<◌, ◌≤◌, Bool, true, false, cond, ltb, ◌==◌, List, [], ◌∷◌, ◌++◌, All, map, length, set, refl, sym, ap, ◌∙◌, subst, arith, eq-eqb, ne_eqb, length-append}
use Rattle.std.proofs.lemmas.Bool.{true≢false, ltb-true, ltb-false}
use Rattle.std.proofs.lemmas.List.{set-get_or}
use mathlib.Core.Option.{some}
use mathlib.Core.Logic.{dite}
use native.Mathlib.Decide.{ℕ_discrete, dec_le}
use lib.ListN.{get_elem?}
use Rattle.atomic_table.specs.Table.{Me, State, keeps, Splits, Joins, Allows}
use Rattle.atomic_table.proofs.Lists.{set_else, set_again}
use Rattle.chi_tracker.specs.declared.shape.Shape.{Shape}
use Rattle.chi_tracker.specs.declared.view.SeatView.{SeatView}
use Rattle.chi_tracker.specs.Acts.{Act, done_by}
use Rattle.chi_tracker.specs.declared.step.AtomicStep.{AtomicStep}
use Rattle.chi_tracker.specs.declared.step.AtomicStep.TheVariants.{Claim, Free, Note, Owe, Look, Settle, Promise, See, Spend, Return}
use Rattle.chi_tracker.specs.Sums.{total}
use Rattle.chi_tracker.specs.Views.{PortView, new_port}
use Rattle.chi_tracker.specs.Steps.{one, no_shape, first_port}
use Rattle.chi_tracker.specs.History.{port_at, history_outcome, Legal, IsPortOf, ArePortsOf, IsSeatOf, Reached, IsAfter, Did, table_state, no_ports, longer, GoesOnFrom}
use Rattle.chi_tracker.specs.Laws.{all_ports}
use Rattle.chi_tracker.specs.Calls.{Owner, TrackerState, IsOwnerAt, no_owner, rest_ports}
use Rattle.chi_tracker.specs.Totals.{views_of}
use Rattle.chi_tracker.specs.Witness.{Told, GoesOnFromEach, AreAllPorts, AreAfter, step_code, code, same, is_others, goes_on_from, agree, impossible, joined, IsKnown}
use Rattle.chi_tracker.proofs.Addition.{total-set, total-append}
use Rattle.chi_tracker.proofs.Advance.{done_mine, done_other, seat_at}
use Rattle.chi_tracker.proofs.Balance.{views-length}
use Rattle.chi_tracker.proofs.Conduct.{done-both}
use Rattle.chi_tracker.proofs.Histories.{ports-length, rule_after}
use Rattle.chi_tracker.proofs.Seats.{are-set, are-push, later-seat, joins}
use Rattle.chi_tracker.proofs.Whole.{seat_after}
use Rattle.chi_tracker.proofs.Exactly.{places, ledgers, knows}

-- acts, from the numbers that stand for them
abbrev step_of : ℕ → ℕ → ℕ → ℕ → AtomicStep
step_of k x y z =
    cond (k == 0) (Claim x y) (cond (k == 1) (Free x) (cond (k == 2) (Note x) (cond (k == 3) (Owe x) (cond (k == 4) (Look x y)
    (cond (k == 5) (Settle x y z) (cond (k == 6) (Promise x y) (cond (k == 7) (See x) (cond (k == 8) (Spend x y) (Return x y)))))))))

abbrev acts_of : List ℕ → List Act
acts_of (who ∷ found ∷ k ∷ x ∷ y ∷ z ∷ rest) = record { who = who; step = step_of k x y z; found = found } ∷ acts_of rest
acts_of xs = []

one-coded : (who found : ℕ) (k : AtomicStep) (rest : List ℕ) → acts_of (who ∷ found ∷ (step_code k ++ rest)) ≡ record { who = who; step = k; found = found } ∷ acts_of rest
one-coded who found (Claim t e) rest = refl
one-coded who found (Free e) rest = refl
one-coded who found (Note t) rest = refl
one-coded who found (Owe k) rest = refl
one-coded who found (Look t m) rest = refl
one-coded who found (Settle e m k) rest = refl
one-coded who found (Promise e m) rest = refl
one-coded who found (See i) rest = refl
one-coded who found (Spend t e) rest = refl
one-coded who found (Return t e) rest = refl

coded : (acts : List Act) → acts_of (code acts) ≡ acts
coded [] = refl
coded (a ∷ acts) = one-coded a.who a.found a.step (code acts) ∙ ap (λ xs. a ∷ xs) (coded acts)

same-is : (xs ys : List ℕ) → same xs ys ≡ true → xs ≡ ys
same-is [] [] h = refl
same-is [] (y ∷ ys) h = absurd (true≢false (sym h))
same-is (x ∷ xs) [] h = absurd (true≢false (sym h))
same-is (x ∷ xs) (y ∷ ys) h = dite (ℕ_discrete x y)
    (λ q. let t : same xs ys ≡ true = sym (ap (λ b. cond b (same xs ys) false) (eq-eqb x y q)) ∙ h in λ i. q i ∷ same-is xs ys t i)
    (λ d. absurd (true≢false (sym h ∙ ap (λ b. cond b (same xs ys) false) (ne_eqb x y d))))

same-refl : (xs : List ℕ) → same xs xs ≡ true
same-refl [] = refl
same-refl (x ∷ xs) = ap (λ b. cond b (same xs xs) false) (eq-eqb x x refl) ∙ same-refl xs

acts-are : (old new : List Act) → same (code old) (code new) ≡ true → new ≡ old
acts-are old new h = sym (coded new) ∙ ap acts_of (sym (same-is (code old) (code new) h)) ∙ coded old

-- what the test says
either-way : (b c d : Bool) → cond b true (cond c d false) ≡ true → (b ≡ true) ⊎ ((c ≡ true) × (d ≡ true))
either-way true c d h = inl refl
either-way false true d h = inr (refl, h)
either-way false false d h = absurd (true≢false (sym h))

or-true : (b c : Bool) → cond b true c ≡ true → (b ≡ true) ⊎ (c ≡ true)
or-true true c h = inl refl
or-true false c h = inr h

to-or : (b c : Bool) → (b ≡ true) ⊎ (c ≡ true) → cond b true c ≡ true
to-or true c h = refl
to-or false c (inl h) = absurd (true≢false (sym h))
to-or false c (inr h) = h

others-at : (ps : List PortView) (a : Act) → is_others ps a ≡ true → (k : ℕ) (d : PortView) → k < length ps → a.who ≢ (slice_index_or ps k d).who
others-at [] a h k d l = absurd (omega arith)
others-at (p ∷ ps) a h zero d l = λ q. true≢false (sym h ∙ ap (λ b. cond b false (is_others ps a)) (eq-eqb a.who p.who q))
others-at (p ∷ ps) a h (suc k) d l = others-at ps a (rest-others (a.who == p.who) h) k d (omega arith)
  where
    rest-others : (b : Bool) → cond b false (is_others ps a) ≡ true → is_others ps a ≡ true
    rest-others true e = absurd (true≢false (sym e))
    rest-others false e = e

others-of : (ps : List PortView) (a : Act) (acts : List Act) → All (λ p. done_by p.who (a ∷ acts) ≡ []) ps → is_others ps a ≡ true
others-of [] a acts h = refl
others-of (p ∷ ps) a acts h = dite (ℕ_discrete a.who p.who)
    (λ q. absurd (let e : done_by a.who (a ∷ acts) ≡ [] = subst (λ (n : ℕ). done_by n (a ∷ acts) ≡ []) (sym q) (h 0 p (omega arith)) in let l = ap (λ xs. length xs) (sym (done_mine a acts) ∙ e) in omega arith))
    (λ d. ap (λ b. cond b false (is_others ps a)) (ne_eqb a.who p.who d) ∙ others-of ps a acts (λ k d l. h (suc k) d (omega arith)))

-- a history that goes on from another with no act of these ports
abbrev Onward : List PortView → List Act → List Act → Type 0
Onward ps old new = (later : List Act) × (new ≡ later ++ old) × All (λ p. done_by p.who later ≡ []) ps

onward : (ps : List PortView) (old new : List Act) → goes_on_from ps old new ≡ true → Onward ps old new
onward ps old [] h = ([], acts-are old [] h, λ k d l. refl)
onward ps old (a ∷ new) h = ⊎_elim
    (λ b. ([], acts-are old (a ∷ new) b, λ k d l. refl))
    (λ b. let r = onward ps old new b.1 in (a ∷ r.0, ap (λ xs. a ∷ xs) r.1, λ k d l. done_other (slice_index_or ps k d).who a r.0 (others-at ps a b.0 k d l) ∙ r.2 k d l))
    (either-way (same (code old) (code (a ∷ new))) (is_others ps a) (goes_on_from ps old new) h)

tested : (ps : List PortView) (old later : List Act) → All (λ p. done_by p.who later ≡ []) ps → goes_on_from ps old (later ++ old) ≡ true
tested ps [] [] h = refl
tested ps (o ∷ old) [] h = ap (λ b. cond b true (cond (is_others ps o) (goes_on_from ps (o ∷ old) old) false)) (same-refl (code (o ∷ old)))
tested ps old (a ∷ later) h =
    let both : cond (is_others ps a) (goes_on_from ps old (later ++ old)) false ≡ true = ap (λ b. cond b (goes_on_from ps old (later ++ old)) false) (others-of ps a later h) ∙ tested ps old later (λ k d l. done-rest (slice_index_or ps k d).who (h k d l)) in
    to-or (same (code old) (code (a ∷ (later ++ old)))) (cond (is_others ps a) (goes_on_from ps old (later ++ old)) false) (inr both)
  where
    done-rest : (n : ℕ) → done_by n (a ∷ later) ≡ [] → done_by n later ≡ []
    done-rest n e = dite (ℕ_discrete a.who n)
        (λ q. absurd (let e' : done_by a.who (a ∷ later) ≡ [] = subst (λ (m : ℕ). done_by m (a ∷ later) ≡ []) (sym q) e in let l = ap (λ xs. length xs) (sym (done_mine a later) ∙ e') in omega arith))
        (λ d. sym (done_other n a later d) ∙ e)

-- two seats' histories agree, as a test and as a fact
agreed : (v w : SeatView) → agree v w ≡ true → GoesOnFrom v w ⊎ GoesOnFrom w v
agreed v w h = ⊎_elim (λ b. inl (onward v.ports v.history w.history b)) (λ b. inr (onward w.ports w.history v.history b))
    (or-true (goes_on_from v.ports v.history w.history) (goes_on_from w.ports w.history v.history) h)

agrees : (v w : SeatView) → GoesOnFrom v w ⊎ GoesOnFrom w v → agree v w ≡ true
agrees v w (inl g) = to-or _ _ (inl (ap (goes_on_from v.ports v.history) g.1 ∙ tested v.ports v.history g.0 g.2))
agrees v w (inr g) = to-or _ _ (inr (ap (goes_on_from w.ports w.history) g.1 ∙ tested w.ports w.history g.0 g.2))

-- the ports of one seat go to another, whose history agrees
pub meets : (key : Shape) (id : ℕ) (v : SeatView) (other : ℕ) (w : SeatView) → Joins (Reached key) id v other w (joined v w) (no_ports)
meets key id v other w st r at ne at' =
    let b : SeatView = joined v w in let c : SeatView = record { ports = w.ports ++ v.ports; history = longer w.history v.history } in
    let mine = seat_at key r.acts st.views id v r.seats at in
    let theirs = seat_at key r.acts st.views other w r.seats (sym (set_else st.views id other b ne) ∙ at') in
    let fit : agree v w ≡ true = agrees v w (dite (dec_le (length theirs.later) (length mine.later)) (λ l. inl (later-seat key r.acts v w mine theirs l)) (λ l. inr (later-seat key r.acts w v theirs mine (omega arith)))) in
    let is : b ≡ c = ap (λ t. cond t c (impossible)) fit in
    let gone : SeatView = no_ports in
    subst (λ (z : SeatView). Reached key (record { words = st.words; homes = st.homes; views = set (set st.views id z) other gone })) (sym is)
    (joins key id v other w st r at ne (subst (λ (z : SeatView). get_elem? (set st.views id z) other ≡ some w) is at'))

port-in : (s : Shape) (acts later : List Act) (ps : List PortView) (i : ℕ) → ArePortsOf s acts later ps → i < length ps → IsPortOf s acts later (port_at ps i)
port-in s acts later [] i h l = absurd (omega arith)
port-in s acts later (p ∷ ps) zero h l = h.0
port-in s acts later (p ∷ ps) (suc i) h l = port-in s acts later ps i h.1 (omega arith)

-- a load tells of a seat's ports that its history leaves them so
pub knows_port : (key : Shape) (slots id : ℕ) (m : Me ℕ SeatView) → Allows (Reached key) slots id m 0 (λ n. n) (λ _ w. (w ≡ m) × IsKnown m.0)
knows_port key slots id m st r len at l =
    let same_words : set st.words 0 (slice_index_or st.words 0 0) ≡ st.words = set-get_or st.words 0 0 in
    let same_views : set st.views id m.0 ≡ st.views = set_again st.views id m.0 at in
    let seat = seat_at key r.acts st.views id m.0 r.seats at in (
      m.0,
      keeps,
      tt,
      subst (λ (ws : List ℕ). Reached key (record { words = ws; homes = st.homes; views = set st.views id m.0 })) (sym same_words) (subst (λ (vs : List SeatView). Reached key (record { words = st.words; homes = st.homes; views = vs })) (sym same_views) r),
      (refl, λ i l. seat_after key r.acts (record { ports = port_at m.0.ports i ∷ []; history = m.0.history }) (port_at m.0.ports i) m.0.history r.legal (record { later = seat.later; is = seat.is; ports = (port-in key r.acts seat.later m.0.ports i seat.ports l, tt) }) refl),
    )

-- a seat's port goes to a new seat, which knows the history up to an earlier act, after which the port did nothing
pub goes_back : (key : Shape) (id : ℕ) (v : SeatView) (p : PortView) (past later : List Act) → v.ports ≡ p ∷ [] → v.history ≡ later ++ past → done_by p.who later ≡ []
    → Splits (Reached key) id v (record { ports = rest_ports v.ports; history = v.history }) (record { ports = first_port v.ports ∷ []; history = past })
goes_back key id v p past later is known idle st r at =
    let v' : SeatView = record { ports = rest_ports v.ports; history = v.history } in let w : SeatView = record { ports = first_port v.ports ∷ []; history = past } in
    let mine = seat_at key r.acts st.views id v r.seats at in
    let all : ArePortsOf key r.acts mine.later (p ∷ []) = subst (ArePortsOf key r.acts mine.later) is mine.ports in
    let here : IsPortOf key r.acts (mine.later ++ later) p = record { who = all.0.who; is = all.0.is; idle = done-both p.who mine.later later ∙ ap (λ xs. xs ++ done_by p.who later) all.0.idle ∙ idle } in
    let left : IsSeatOf key r.acts v' = record { later = mine.later; is = mine.is; ports = subst (λ (qs : List PortView). ArePortsOf key r.acts mine.later (rest_ports qs)) (sym is) tt } in
    let right : IsSeatOf key r.acts w = record {
      later = mine.later ++ later;
      is = mine.is ∙ ap (λ xs. mine.later ++ xs) known ∙ sym (append_assoc mine.later later past);
      ports = subst (λ (qs : List PortView). ArePortsOf key r.acts (mine.later ++ later) (first_port qs ∷ [])) (sym is) (here, tt);
    } in record {
      acts = r.acts;
      legal = r.legal;
      words = r.words;
      seats = are-push key r.acts (set st.views id v') w (are-set key r.acts st.views id v' r.seats left) right;
      ports = λ f. let a = total-set (λ (u : SeatView). total f u.ports) st.views id v v' at in let b = total-append (λ (u : SeatView). total f u.ports) (set st.views id v') (w ∷ []) in
          let c : total f v.ports ≡ total f (p ∷ []) = ap (total f) is in let d : total f (rest_ports v.ports) ≡ total f [] = ap (λ qs. total f (rest_ports qs)) is in let e : f (first_port v.ports) ≡ f p = ap (λ qs. f (first_port qs)) is in
          let g = r.ports f in omega arith;
    }

-- what a joined seat comes to, once a load has told of it
module _ (v w : SeatView) (known : IsKnown (joined v w)) where
  must-agree : (b : Bool) → agree v w ≡ b → agree v w ≡ true
  must-agree true e = e
  must-agree false e =
      let is : joined v w ≡ impossible = ap (λ t. cond t (record { ports = w.ports ++ v.ports; history = longer w.history v.history }) (impossible)) e in
      let h : IsAfter [] (new_port no_shape 0) = subst IsKnown is known 0 (omega arith) in absurd (let l = h.who in omega arith)

  fit : agree v w ≡ true
  fit = must-agree (agree v w) refl

  pub joined_is : joined v w ≡ record { ports = w.ports ++ v.ports; history = longer w.history v.history }
  joined_is = ap (λ t. cond t (record { ports = w.ports ++ v.ports; history = longer w.history v.history }) (impossible)) fit

no-more : (later xs ys : List Act) → xs ≡ later ++ ys → length xs ≤ length ys → xs ≡ ys
no-more [] xs ys e l = e
no-more (a ∷ later) xs ys e l = absurd (let q = ap (λ zs. length zs) e in let r = length-append later ys in omega arith)

port-idle : (ps : List PortView) (p : PortView) (later : List Act) → ps ≡ p ∷ [] → All (λ q. done_by q.who later ≡ []) ps → done_by p.who later ≡ []
port-idle ps p later is h = subst (λ (qs : List PortView). All (λ q. done_by q.who later ≡ []) qs) is h 0 p (omega arith)

told : (v w : SeatView) (p : PortView) → w.ports ≡ p ∷ [] → (b : Bool) → (b ≡ true → length w.history ≤ length v.history) → (b ≡ false → length v.history ≤ length w.history) → GoesOnFrom v w ⊎ GoesOnFrom w v → Told p.who w.history v.history (cond b v.history w.history)
told v w p mine true up down (inl g) =
    let same_is : w.history ≡ v.history = no-more g.0 w.history v.history g.1 (up refl) in
    record { port = ([], sym same_is, refl); on = ([], refl); one = inl refl }
told v w p mine true up down (inr g) = record { port = (g.0, g.1, port-idle w.ports p g.0 mine g.2); on = ([], refl); one = inl refl }
told v w p mine false up down (inl g) = record { port = ([], refl, refl); on = (g.0, g.1); one = inr refl }
told v w p mine false up down (inr g) =
    let same_is : v.history ≡ w.history = no-more g.0 v.history w.history g.1 (down refl) in
    record { port = ([], refl, refl); on = ([], sym same_is); one = inr refl }

-- of a witness and a port
module _ (v w : SeatView) (p : PortView) (none : v.ports ≡ []) (mine : w.ports ≡ p ∷ []) (known : IsKnown (joined v w)) where
  pub met_is : joined v w ≡ record { ports = p ∷ []; history = longer w.history v.history }
  met_is = joined_is v w known ∙ ap (λ (ps : List PortView). record { ports = ps ++ v.ports; history = longer w.history v.history }) mine ∙ ap (λ (ps : List PortView). record { ports = p ∷ ps; history = longer w.history v.history }) none

  pub met_after : IsAfter (longer w.history v.history) p
  met_after = subst IsKnown met_is known 0 (omega arith)

  pub met_told : Told p.who w.history v.history (longer w.history v.history)
  met_told = told v w p mine (ltb (length w.history) (length v.history)) (λ q. omega (arith, ltb-true (length w.history) (length v.history) q)) (λ q. ltb-false (length w.history) (length v.history) q) (agreed v w (fit v w known))

-- of a seat of some ports and one port more
follow-on : (os : List Owner) (old new later : List Act) → new ≡ later ++ old → All (λ q. done_by q.who later ≡ []) (views_of os) → GoesOnFromEach os old → GoesOnFromEach os new
follow-on [] old new later e idle h k d l = absurd (omega arith)
follow-on (o ∷ os) old new later e idle h zero d l =
    let t = h 0 d (omega arith) in
    (later ++ t.0, e ∙ ap (λ xs. later ++ xs) t.1 ∙ sym (append_assoc later t.0 o.history), done-both o.port.who later t.0 ∙ ap (λ xs. xs ++ done_by o.port.who t.0) (idle 0 o.port (omega arith)) ∙ t.2)
follow-on (o ∷ os) old new later e idle h (suc k) d l = follow-on os old new later e (λ i q m. idle (suc i) q (omega arith)) (λ i q m. h (suc i) q (omega arith)) k d (omega arith)

pub follows_more : (os : List Owner) (o : Owner) (v w : SeatView) → IsKnown (joined v w) → v.ports ≡ views_of os → w.ports ≡ o.port ∷ [] → w.history ≡ o.history → GoesOnFromEach os v.history → GoesOnFromEach (o ∷ os) (longer w.history v.history)
follows_more os o v w known theirs mine own h = both (ltb (length w.history) (length v.history)) (λ q. omega (arith, ltb-true (length w.history) (length v.history) q)) (λ q. ltb-false (length w.history) (length v.history) q) (agreed v w (fit v w known))
  where
    cons : (new : List Act) → Did o.port.who [] w.history new → GoesOnFromEach os new → GoesOnFromEach (o ∷ os) new
    cons new d ds zero x l = subst (λ (z : List Act). Did o.port.who [] z new) own d
    cons new d ds (suc k) x l = ds k x (omega arith)

    both : (b : Bool) → (b ≡ true → length w.history ≤ length v.history) → (b ≡ false → length v.history ≤ length w.history) → GoesOnFrom v w ⊎ GoesOnFrom w v → GoesOnFromEach (o ∷ os) (cond b v.history w.history)
    both true up down (inl g) = cons v.history ([], sym (no-more g.0 w.history v.history g.1 (up refl)), refl) h
    both true up down (inr g) = cons v.history (g.0, g.1, port-idle w.ports o.port g.0 mine g.2) h
    both false up down (inl g) = cons w.history ([], refl, refl) (follow-on os v.history w.history g.0 g.1 (subst (λ (ps : List PortView). All (λ q. done_by q.who g.0 ≡ []) ps) theirs g.2) h)
    both false up down (inr g) = cons w.history ([], refl, refl) (subst (GoesOnFromEach os) (no-more g.0 v.history w.history g.1 (down refl)) h)

-- all ports of one state
same-ports : (xs ys : List PortView) → length xs ≡ length ys → ((n : ℕ) → n < length xs → port_at xs n ≡ port_at ys n) → xs ≡ ys
same-ports [] [] e h = refl
same-ports [] (y ∷ ys) e h = absurd (omega arith)
same-ports (x ∷ xs) [] e h = absurd (omega arith)
same-ports (x ∷ xs) (y ∷ ys) e h = λ i. h 0 (omega arith) i ∷ same-ports xs ys (omega arith) (λ n l. h (suc n) (omega arith)) i

all-single : (ps : List PortView) → all_ports (map one ps) ≡ ps
all-single [] = refl
all-single (p ∷ ps) = ap (λ qs. p ∷ qs) (all-single ps)

pub all_of : (s : Shape) (history : List Act) (ports : List PortView) → 0 < s.agents → AreAfter s history ports → AreAllPorts s ports
all_of s history ports some_port h =
    let legal : Legal s history = subst (λ (z : Shape). Legal z history) (h.shapes 0 some_port) (h.after 0 some_port).legal in
    let made : List PortView = (history_outcome s history).ports in let st : State ℕ SeatView = table_state (history_outcome s history) in
    let count : length made ≡ s.agents = ports-length s history in
    let there : (n : ℕ) → n < length made → port_at made n ≡ port_at ports n = λ n l.
    let in_range : n < s.agents = omega arith in let p : PortView = port_at ports n in
    sym (ap (λ i. port_at made i) (h.numbers n in_range)) ∙ subst (λ (z : Shape). port_at (history_outcome z history).ports p.who ≡ p) (h.shapes n in_range) (h.after n in_range).is in
    let rule = rule_after s history legal in record {
      state = st;
      rule = rule;
      all = all-single made ∙ same-ports made ports (count ∙ sym h.count) there;
      places = places s st rule;
      ledgers = ledgers s st rule;
      known = knows s st rule;
    }

-- the ports of a tracker, in rising order
view-at : (os : List Owner) (n : ℕ) (d : Owner) → n < length os → port_at (views_of os) n ≡ (slice_index_or os n d).port
view-at [] n d l = absurd (omega arith)
view-at (o ∷ os) zero d l = refl
view-at (o ∷ os) (suc n) d l = view-at os n d (omega arith)

pub all_of_owners : (home : TrackerState) (os : List Owner) (history : List Act) → 0 < home.shape.agents → All (IsOwnerAt home) os → length os ≡ home.shape.agents → ((n : ℕ) → n < home.shape.agents → (slice_index_or os n (no_owner)).port.who ≡ n) → All (λ o. IsAfter history o.port) os
    → AreAllPorts home.shape (views_of os)
all_of_owners home os history some_port own count numbers after =
    let inside : (n : ℕ) → n < home.shape.agents → n < length os = λ n l. omega (arith, count) in
    let at : (n : ℕ) → n < home.shape.agents → port_at (views_of os) n ≡ (slice_index_or os n (no_owner)).port = λ n l. view-at os n (no_owner) (inside n l) in
    all_of home.shape history (views_of os) some_port (record {
      count = views-length os ∙ count;
      shapes = λ n l. ap (λ (p : PortView). p.shape) (at n l) ∙ (own n (no_owner) (inside n l)).1;
      numbers = λ n l. ap (λ (p : PortView). p.who) (at n l) ∙ numbers n l;
      after = λ n l. subst (IsAfter history) (sym (at n l)) (after n (no_owner) (inside n l));
    })
