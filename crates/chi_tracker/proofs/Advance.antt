-- A step of a port goes on with the history, whatever the table is when its word changes.
use Rattle.std.proofs.Common.{◌≡◌, ◌≢◌, ℕ, zero, suc, ◌<◌, ◌≤◌, cond, List, [], ◌∷◌, ◌++◌, length, set, slice_index, refl, sym, ap, ◌∙◌, subst, arith, eq-eqb, ne_eqb, get_or-set_other, get_or-set_same}
use mathlib.Core.Option.{some, some-injective, some-ne-none}
use mathlib.Core.Logic.{dite}
use native.Mathlib.Decide.{ℕ_discrete}
use lib.ListN.{get_elem?}
use Rattle.atomic_table.specs.Table.{Me, keeps, Allows}
use Rattle.atomic_table.specs.declared.shared.Seat.{Seat}
use Rattle.chi_tracker.specs.declared.shape.Shape.{Shape}
use Rattle.chi_tracker.specs.declared.view.SeatView.{SeatView}
use Rattle.chi_tracker.specs.Acts.{Act, done_by}
use Rattle.chi_tracker.specs.declared.step.AtomicStep.{AtomicStep}
use Rattle.chi_tracker.specs.Sums.{total}
use Rattle.chi_tracker.specs.Views.{PortView}
use Rattle.chi_tracker.specs.Rule.{weigh, of_port}
use Rattle.chi_tracker.specs.Steps.{SeatPorts, shown, solo, port_of, word_of_step, written, effect, May}
use Rattle.chi_tracker.specs.History.{port_at, history_outcome, Legal, IsPortOf, ArePortsOf, IsSeatOf, AreSeatsOf, Reached, IsAfter, Did, act, port_in, GoesOn, TakesEffect}
use Rattle.chi_tracker.specs.Conduct.{HasStepped}
use Rattle.chi_tracker.proofs.Addition.{total-set}
use Rattle.chi_tracker.proofs.Moves.{of_mine, of_other}
use Rattle.chi_tracker.proofs.Histories.{nobody, weigh-seats, same_who, same_shape, ports-length, rule_after, learnt, shape_here}
use Rattle.chi_tracker.proofs.Allowed.{Learns}

-- what a requester did, with one act more
pub done_mine : (a : Act) (acts : List Act) → done_by a.who (a ∷ acts) ≡ (a.step, a.found) ∷ done_by a.who acts
done_mine a acts = ap (λ b. cond b ((a.step, a.found) ∷ done_by a.who acts) (done_by a.who acts)) (eq-eqb a.who a.who refl)

pub done_other : (n : ℕ) (a : Act) (acts : List Act) → a.who ≢ n → done_by n (a ∷ acts) ≡ done_by n acts
done_other n a acts d = ap (λ b. cond b ((a.step, a.found) ∷ done_by n acts) (done_by n acts)) (ne_eqb a.who n d)

-- other ports and seats, when port n did one act more
module _ (s : Shape) (acts : List Act) (a : Act) where
  abbrev y : PortView
  y = effect a.step a.found (port_at (history_outcome s acts).ports a.who)

  ports-others : (later : List Act) (ps : List PortView) → ArePortsOf s acts later ps → total (of_port a.who (λ _. 1)) ps ≡ 0 → ArePortsOf s (a ∷ acts) (a ∷ later) ps
  ports-others later [] h z = tt
  ports-others later (p ∷ ps) h z = dite (ℕ_discrete p.who a.who)
      (λ q. absurd (omega (arith, of_mine a.who (λ _. 1) p q)))
      (λ d. (
        record { who = h.0.who; is = get_or-set_other (history_outcome s acts).ports a.who p.who y nobody d ∙ h.0.is; idle = done_other p.who a later (λ q. d (sym q)) ∙ h.0.idle },
        ports-others later ps h.1 (omega (arith, of_other a.who (λ _. 1) p d)),
      ))

  seat-other : (v : SeatView) → IsSeatOf s acts v → total (of_port a.who (λ _. 1)) v.ports ≡ 0 → IsSeatOf s (a ∷ acts) v
  seat-other v h z = record { later = a ∷ h.later; is = ap (λ xs. a ∷ xs) h.is; ports = ports-others h.later v.ports h.ports z }

  seats-others : (vs : List SeatView) → AreSeatsOf s acts vs → weigh (of_port a.who (λ _. 1)) vs ≡ 0 → AreSeatsOf s (a ∷ acts) vs
  seats-others [] h z = tt
  seats-others (v ∷ vs) h z = (seat-other v h.0 (omega arith), seats-others vs h.1 (omega arith))

  seats-step : (vs : List SeatView) (id : ℕ) (v w : SeatView) → AreSeatsOf s acts vs → get_elem? vs id ≡ some v → total (of_port a.who (λ _. 1)) v.ports ≡ 1 → weigh (of_port a.who (λ _. 1)) vs ≡ 1 → IsSeatOf s (a ∷ acts) w
      → AreSeatsOf s (a ∷ acts) (set vs id w)
  seats-step [] id v w h at mine one_is here = absurd (some-ne-none v (sym at))
  seats-step (u ∷ us) zero v w h at mine one_is here =
      let same : total (of_port a.who (λ _. 1)) u.ports ≡ total (of_port a.who (λ _. 1)) v.ports = ap (λ (z : SeatView). total (of_port a.who (λ _. 1)) z.ports) (some-injective u v at) in
      (here, seats-others us h.1 (omega arith))
  seats-step (u ∷ us) (suc id) v w h at mine one_is here =
      let t = term us id v at in
      (seat-other u h.0 (omega (arith, t)), seats-step us id v w h.1 at mine (omega (arith, t)) here)
    where
      term : (vs : List SeatView) (id : ℕ) (v : SeatView) → get_elem? vs id ≡ some v → total (of_port a.who (λ _. 1)) v.ports ≤ weigh (of_port a.who (λ _. 1)) vs
      term [] id v at = absurd (some-ne-none v (sym at))
      term (w ∷ vs) zero v at = let e : total (of_port a.who (λ _. 1)) w.ports ≡ total (of_port a.who (λ _. 1)) v.ports = ap (λ (u : SeatView). total (of_port a.who (λ _. 1)) u.ports) (some-injective w v at) in omega arith
      term (w ∷ vs) (suc id) v at = omega (arith, term vs id v at)

pub seat_at : (s : Shape) (acts : List Act) (vs : List SeatView) (id : ℕ) (v : SeatView) → AreSeatsOf s acts vs → get_elem? vs id ≡ some v → IsSeatOf s acts v
seat_at s acts [] id v h at = absurd (some-ne-none v (sym at))
seat_at s acts (u ∷ us) zero v h at = subst (IsSeatOf s acts) (some-injective u v at) h.0
seat_at s acts (u ∷ us) (suc id) v h at = seat_at s acts us id v h.1 at

-- the history goes on to a step of a port's seat
module _ (s : Shape) (slots id : ℕ) (m : Me ℕ SeatView) (k : AtomicStep) where
  abbrev x : PortView
  x = port_of (shown m)

  abbrev n : ℕ
  n = x.who

  pub allowed : shown m ≡ solo x → May k x → Allows (Reached s) slots id m (word_of_step k n) (written k) (TakesEffect k m)
  allowed alone may st reached len at l =
      let acts : List Act = reached.acts in let i : ℕ = word_of_step k n in let r : ℕ = slice_index st.words i in let b : Act = act n k r in
      let ps : List PortView = (history_outcome s acts).ports in
      let y : PortView = effect k r x in
      let w : SeatView = record { ports = y ∷ []; history = b ∷ acts } in
      let mine : m.0.ports ≡ x ∷ [] = ap (λ (z : SeatPorts). z.0) alone in
      let seat = seat_at s acts st.views id m.0 reached.seats at in
      let port : IsPortOf s acts seat.later x = (subst (ArePortsOf s acts seat.later) mine seat.ports).0 in
      let legal : Legal s (b ∷ acts) = (reached.legal, port.who, subst (May k) (sym port.is) may, ap (λ (ws : List ℕ). slice_index ws i) reached.words) in
      let here : n < length ps = omega (arith, ports-length s acts, port.who) in
      let y_is : effect k r (port_at ps n) ≡ y = ap (effect k r) port.is in
      let set_is : port_at (set ps n (effect k r (port_at ps n))) n ≡ y = get_or-set_same ps n (effect k r (port_at ps n)) nobody here ∙ y_is in
      let who : y.who ≡ n = same_who k r x in
      let now : IsPortOf s (b ∷ acts) [] y = record { who = omega (arith, who, port.who); is = ap (port_at (set ps n (effect k r (port_at ps n)))) who ∙ set_is; idle = refl } in
      let shape : x.shape ≡ s = ap (λ p. p.shape) (sym port.is) ∙ shape_here s acts n reached.legal port.who in
      let rule = rule_after s acts reached.legal in
      let count : weigh (of_port n (λ _. 1)) st.views ≡ 1 = reached.ports (of_port n (λ _. 1)) ∙ sym (weigh-seats (of_port n (λ _. 1)) ps) ∙ rule.fits.one_port n port.who in
      let own : total (of_port n (λ _. 1)) m.0.ports ≡ 1 = ap (total (of_port n (λ _. 1))) mine ∙ (let e = of_mine n (λ _. 1) x refl in let f : total (of_port n (λ _. 1)) (x ∷ []) ≡ 1 = omega arith in f) in (
        w,
        keeps,
        tt,
        record {
          acts = b ∷ acts;
          legal = legal;
          words = ap (λ (ws : List ℕ). set ws i (written k r)) reached.words;
          seats = seats-step s acts b st.views id m.0 w reached.seats at own count (record { later = []; is = refl; ports = (now, tt) });
          ports = λ f.
              let p1 = total-set (λ (v : SeatView). total f v.ports) st.views id m.0 w at in
              let p2 = total-set f ps n (port_at ps n) (effect k r (port_at ps n)) (port-there ps n here) in
              let p3 : total f m.0.ports ≡ total f (x ∷ []) = ap (total f) mine in
              let p4 : f (port_at ps n) ≡ f x = ap f port.is in
              let p5 : f (effect k r (port_at ps n)) ≡ f y = ap f y_is in
              let p6 = reached.ports f in omega arith;
        },
        (
          ap (λ (c : List (ℕ × ℕ)). (y ∷ [], c)) (ap (λ (z : SeatPorts). z.1) alone),
          record {
            between = seat.later;
            is = ap (λ xs. b ∷ xs) seat.is;
            idle = port.idle;
            before = before x.shape shape (seat.later ++ m.0.history) seat.is port.is;
            legal = subst (λ (z : Shape). Legal z (b ∷ (seat.later ++ m.0.history))) (sym shape) (subst (λ (xs : List Act). Legal s (b ∷ xs)) seat.is legal);
          },
        ),
      )
    where
      before : (z : Shape) → z ≡ s → (xs : List Act) → reached.acts ≡ xs → port_at (history_outcome s reached.acts).ports n ≡ x → port_at (history_outcome z xs).ports n ≡ x
      before z e xs f h = ap (λ (q : Shape). port_at (history_outcome q xs).ports n) e ∙ ap (λ (q : List Act). port_at (history_outcome s q).ports n) (sym f) ∙ h

      port-there : (ps : List PortView) (i : ℕ) → i < length ps → get_elem? ps i ≡ some (port_at ps i)
      port-there [] i l = absurd (omega arith)
      port-there (p ∷ ps) zero l = refl
      port-there (p ∷ ps) (suc i) l = port-there ps i (omega arith)

-- the same of a step that is told by another name, and of its operation as the code has it
pub allowed_at : (s : Shape) (slots id : ℕ) (m : Me ℕ SeatView) (picked k : AtomicStep) (word : ℕ) (f : ℕ → ℕ) → picked ≡ k → shown m ≡ solo (port_in m) → May k (port_in m) → word ≡ word_of_step k (port_in m).who → ((r : ℕ) → f r ≡ written k r)
    → Allows (Reached s) slots id m word f (TakesEffect picked m)
allowed_at s slots id m picked k word f same alone may at writes =
    let named : Allows (Reached s) slots id m (word_of_step k (port_in m).who) (written k) (TakesEffect picked m) = subst (λ (j : AtomicStep). Allows (Reached s) slots id m (word_of_step k (port_in m).who) (written k) (TakesEffect j m)) (sym same) (allowed s slots id m k alone may) in
    let placed : Allows (Reached s) slots id m word (written k) (TakesEffect picked m) = subst (λ (i : ℕ). Allows (Reached s) slots id m i (written k) (TakesEffect picked m)) (sym at) named in
    subst (λ (g : ℕ → ℕ). Allows (Reached s) slots id m word g (TakesEffect picked m)) (λ i r. sym (writes r) i) placed

-- what follows from a step
module _ (p : PortView) (k : AtomicStep) (r : ℕ) (old new : List Act) (goes : GoesOn p (act p.who k r) old new) where
  pub goes_did : Did p.who ((k, r) ∷ []) old new
  goes_did = (act p.who k r ∷ goes.between, goes.is, done_mine (act p.who k r) goes.between ∙ ap (λ xs. (k, r) ∷ xs) goes.idle)

  pub goes_after : IsAfter new (effect k r p)
  goes_after =
      let q : PortView = effect k r p in let s : Shape = p.shape in let xs : List Act = goes.between ++ old in let ps : List PortView = (history_outcome s xs).ports in
      let who = same_who k r p in let shape = same_shape k r p in
      let is : port_at (set ps p.who (effect k r (port_at ps p.who))) p.who ≡ q = get_or-set_same ps p.who (effect k r (port_at ps p.who)) nobody (omega (arith, ports-length s xs, goes.legal.1)) ∙ ap (effect k r) goes.before in
      let all : Legal s new = subst (Legal s) (sym goes.is) goes.legal in record {
        legal = subst (λ (z : Shape). Legal z new) (sym shape) all;
        who = subst (λ (z : Shape). q.who < z.agents) (sym shape) (omega (arith, who, goes.legal.1));
        is = subst (λ (z : Shape). port_at (history_outcome z new).ports q.who ≡ q) (sym shape) (ap (λ (ys : List Act). port_at (history_outcome s ys).ports q.who) goes.is ∙ ap (port_at (set ps p.who (effect k r (port_at ps p.who)))) who ∙ is);
      }

  pub goes_learns : Learns k r p
  goes_learns = subst (Learns k r) goes.before (learnt p.shape (act p.who k r) (goes.between ++ old) goes.legal)

-- and what a step of a seat comes to
pub stepped : (k : AtomicStep) (old : Seat ℕ SeatView) (r : ℕ) (new : Seat ℕ SeatView) → new.table_id ≡ old.table_id → TakesEffect k old.me r new.me → HasStepped k old r new
stepped k old r new table told = record {
  table = table;
  view = told.0;
  acts = ((k, r) ∷ [], goes_did (port_in old.me) k r old.me.0.history new.me.0.history told.1, refl, ap port_of told.0);
  after = subst (IsAfter new.me.0.history) (sym (ap port_of told.0)) (goes_after (port_in old.me) k r old.me.0.history new.me.0.history told.1);
}
