-- The rule at the start, and where the ports of seats are dealt out and joined; and what it says of the words.
use Rattle.std.proofs.Common.{◌≡◌, inl, inr, append_assoc, slice_index_or, ℕ, zero, suc, ◌+◌, ◌<◌, ◌≤◌, Bool, true, false, cond, ltb, List, [], ◌∷◌, ◌++◌, length, set, refl, sym, ap, ◌∙◌, subst, arith, append-nil, length-append}
use Rattle.std.proofs.lemmas.Bool.{ltb-true, ltb-false}
use mathlib.Core.Logic.{dite}
use native.Mathlib.Decide.{ℕ_discrete, dec_le}
use Rattle.atomic_table.specs.Table.{Me, State, opening, Splits, Joins, Enters}
use Rattle.atomic_table.proofs.Lists.{set_else}
use Rattle.chi_tracker.specs.declared.shape.Shape.{Shape}
use Rattle.chi_tracker.specs.declared.view.SeatView.{SeatView}
use Rattle.chi_tracker.specs.Acts.{Act, done_by}
use Rattle.chi_tracker.specs.declared.step.AtomicStep.{AtomicStep}
use Rattle.chi_tracker.specs.Sums.{total}
use Rattle.chi_tracker.specs.Shape.{IsShape}
use Rattle.chi_tracker.specs.Views.{PortView, new_port, new_ports}
use Rattle.chi_tracker.specs.Rule.{AllSound, AllSeatsSound, IsSound, TrackerRule, all_new}
use Rattle.chi_tracker.specs.Steps.{first_port}
use Rattle.chi_tracker.specs.History.{port_at, history_outcome, Legal, ArePortsOf, IsSeatOf, AreSeatsOf, Reached, no_ports, view_at, longer, GoesOnFrom, HistoriesAgree}
use Rattle.chi_tracker.specs.Calls.{rest_ports}
use Rattle.chi_tracker.proofs.Addition.{total-set, total-append}
use Rattle.chi_tracker.proofs.Moves.{sound_of}
use Rattle.chi_tracker.proofs.Start.{zero_words, regroup}
use Rattle.chi_tracker.proofs.Histories.{new-at, seats-at, weigh-seats, ports-length, rule_after}
use Rattle.chi_tracker.proofs.Advance.{done_mine, done_other, seat_at}

new-of : (s : Shape) (k m : ℕ) → k + m ≡ s.agents → ArePortsOf s [] [] (new_ports s k m)
new-of s k zero e = tt
new-of s k (suc m) e = (record { who = omega arith; is = new-at s 0 s.agents k (omega arith) ∙ ap (new_port s) (let h : 0 + k ≡ k = omega arith in h); idle = refl }, new-of s (k + 1) m (omega arith))

pub opens_reached : (s : Shape) → IsShape s → Reached s (opening zero_words [] (all_new s))
opens_reached s shaped = record {
  acts = [];
  legal = shaped;
  words = refl;
  seats = (record { later = []; is = refl; ports = new-of s 0 s.agents (omega arith) }, tt);
  ports = λ f. omega arith;
}

module _ (s : Shape) (acts : List Act) where
  pub are-set : (vs : List SeatView) (id : ℕ) (w : SeatView) → AreSeatsOf s acts vs → IsSeatOf s acts w → AreSeatsOf s acts (set vs id w)
  are-set [] id w h here = h
  are-set (v ∷ vs) zero w h here = (here, h.1)
  are-set (v ∷ vs) (suc id) w h here = (h.0, are-set vs id w h.1 here)

  pub are-push : (vs : List SeatView) (w : SeatView) → AreSeatsOf s acts vs → IsSeatOf s acts w → AreSeatsOf s acts (vs ++ w ∷ [])
  are-push [] w h here = (here, tt)
  are-push (v ∷ vs) w h here = (h.0, are-push vs w h.1 here)

  nobody_of : IsSeatOf s acts (no_ports)
  nobody_of = record { later = acts; is = sym (append-nil acts); ports = tt }

  both-of : (later : List Act) (ps qs : List PortView) → ArePortsOf s acts later ps → ArePortsOf s acts later qs → ArePortsOf s acts later (ps ++ qs)
  both-of later [] qs a b = b
  both-of later (p ∷ ps) qs a b = (a.0, both-of later ps qs a.1 b)

-- a seat's first port goes to a new seat
pub deals : (key : Shape) (id : ℕ) (v : SeatView) (p : PortView) (ps : List PortView) → v.ports ≡ p ∷ ps
    → Splits (Reached key) id v (record { ports = rest_ports v.ports; history = v.history }) (record { ports = first_port v.ports ∷ []; history = v.history })
deals key id v p ps is st r at =
    let v' : SeatView = record { ports = rest_ports v.ports; history = v.history } in let w : SeatView = record { ports = first_port v.ports ∷ []; history = v.history } in
    let mine = seat_at key r.acts st.views id v r.seats at in
    let all : ArePortsOf key r.acts mine.later (p ∷ ps) = subst (ArePortsOf key r.acts mine.later) is mine.ports in
    let left : IsSeatOf key r.acts v' = record { later = mine.later; is = mine.is; ports = subst (λ (qs : List PortView). ArePortsOf key r.acts mine.later (rest_ports qs)) (sym is) all.1 } in
    let right : IsSeatOf key r.acts w = record { later = mine.later; is = mine.is; ports = subst (λ (qs : List PortView). ArePortsOf key r.acts mine.later (first_port qs ∷ [])) (sym is) (all.0, tt) } in
    record {
      acts = r.acts;
      legal = r.legal;
      words = r.words;
      seats = are-push key r.acts (set st.views id v') w (are-set key r.acts st.views id v' r.seats left) right;
      ports = λ f. let a = total-set (λ (u : SeatView). total f u.ports) st.views id v v' at in let b = total-append (λ (u : SeatView). total f u.ports) (set st.views id v') (w ∷ []) in
          let c : total f v.ports ≡ total f (p ∷ ps) = ap (total f) is in let d : total f (rest_ports v.ports) ≡ total f ps = ap (λ qs. total f (rest_ports qs)) is in let e : f (first_port v.ports) ≡ f p = ap (λ qs. f (first_port qs)) is in
          let g = r.ports f in omega arith;
    }

-- of two parts of a history one begins with the other
abbrev tail_of : List Act → List Act
tail_of [] = []
tail_of (a ∷ acts) = acts

abbrev head_of : Act → List Act → Act
head_of d [] = d
head_of d (a ∷ acts) = a

parts : (xs ys before before' : List Act) → xs ++ before ≡ ys ++ before' → length xs ≤ length ys → (more : List Act) × (ys ≡ xs ++ more)
parts [] ys b b' e l = (ys, refl)
parts (x ∷ xs) [] b b' e l = absurd (omega arith)
parts (x ∷ xs) (y ∷ ys) b b' e l =
    let r = parts xs ys b b' (ap tail_of e) (omega arith) in (r.0, λ i. sym (ap (head_of x) e) i ∷ r.1 i)

-- who did nothing in a list of acts did nothing in its beginning
idle-first : (n : ℕ) (xs ys : List Act) → done_by n (xs ++ ys) ≡ [] → done_by n xs ≡ []
idle-first n [] ys e = refl
idle-first n (x ∷ xs) ys e = dite (ℕ_discrete x.who n)
    (λ q. absurd (let h : done_by n (x ∷ (xs ++ ys)) ≡ (x.step, x.found) ∷ done_by n (xs ++ ys) = subst (λ (u : ℕ). done_by u (x ∷ (xs ++ ys)) ≡ (x.step, x.found) ∷ done_by u (xs ++ ys)) q (done_mine x (xs ++ ys)) in let l = ap (λ (zs : List (AtomicStep × ℕ)). length zs) (sym h ∙ e) in omega arith))
    (λ d. done_other n x xs d ∙ idle-first n xs ys (sym (done_other n x (xs ++ ys) d) ∙ e))

sooner : (s : Shape) (acts later later' before before' : List Act) (ps : List PortView) → acts ≡ later ++ before → acts ≡ later' ++ before' → length later' ≤ length later → ArePortsOf s acts later ps → ArePortsOf s acts later' ps
sooner s acts later later' b b' [] e e' l h = tt
sooner s acts later later' b b' (p ∷ ps) e e' l h =
    let r = parts later' later b' b (sym e' ∙ e) l in
    (record { who = h.0.who; is = h.0.is; idle = idle-first p.who later' r.0 (ap (done_by p.who) (sym r.1) ∙ h.0.idle) }, sooner s acts later later' b b' ps e e' l h.1)

-- who did nothing in a list of acts did nothing in its end
idle-last : (n : ℕ) (xs ys : List Act) → done_by n (xs ++ ys) ≡ [] → done_by n ys ≡ []
idle-last n [] ys e = e
idle-last n (x ∷ xs) ys e = dite (ℕ_discrete x.who n)
    (λ q. absurd (let h : done_by n (x ∷ (xs ++ ys)) ≡ (x.step, x.found) ∷ done_by n (xs ++ ys) = subst (λ (u : ℕ). done_by u (x ∷ (xs ++ ys)) ≡ (x.step, x.found) ∷ done_by u (xs ++ ys)) q (done_mine x (xs ++ ys)) in let l = ap (λ (zs : List (AtomicStep × ℕ)). length zs) (sym h ∙ e) in omega arith))
    (λ d. idle-last n xs ys (sym (done_other n x (xs ++ ys) d) ∙ e))

idle-ports : (s : Shape) (acts later first more : List Act) (ps : List PortView) → later ≡ first ++ more → ArePortsOf s acts later ps → (k : ℕ) (d : PortView) → k < length ps → done_by (slice_index_or ps k d).who more ≡ []
idle-ports s acts later first more [] is h k d l = absurd (omega arith)
idle-ports s acts later first more (p ∷ ps) is h zero d l = idle-last p.who first more (ap (done_by p.who) (sym is) ∙ h.0.idle)
idle-ports s acts later first more (p ∷ ps) is h (suc k) d l = idle-ports s acts later first more ps is h.1 k d (omega arith)

-- of two seats one knows all that the other does
pub later-seat : (s : Shape) (acts : List Act) (v w : SeatView) (a : IsSeatOf s acts v) (b : IsSeatOf s acts w) → length b.later ≤ length a.later → GoesOnFrom v w
later-seat s acts v w a b l =
    let r = parts b.later a.later w.history v.history (sym b.is ∙ a.is) l in
    let rest : w.history ≡ r.0 ++ v.history = same-rest b.later w.history (r.0 ++ v.history) (sym b.is ∙ a.is ∙ ap (λ zs. zs ++ v.history) r.1 ∙ append_assoc b.later r.0 v.history) in
    (r.0, rest, λ k d lk. idle-ports s acts a.later b.later r.0 v.ports r.1 a.ports k d lk)
  where
    same-rest : (xs ys zs : List Act) → xs ++ ys ≡ xs ++ zs → ys ≡ zs
    same-rest [] ys zs e = e
    same-rest (x ∷ xs) ys zs e = same-rest xs ys zs (ap tail_of e)

seat-there : (s : Shape) (acts : List Act) (vs : List SeatView) (id : ℕ) → AreSeatsOf s acts vs → IsSeatOf s acts (view_at vs id)
seat-there s acts [] id h = nobody_of s acts
seat-there s acts (v ∷ vs) zero h = h.0
seat-there s acts (v ∷ vs) (suc id) h = seat-there s acts vs id h.1

pub histories_agree : (s : Shape) (st : State ℕ SeatView) → Reached s st → HistoriesAgree st
histories_agree s st r i j =
    let v : SeatView = view_at st.views i in let w : SeatView = view_at st.views j in
    let a = seat-there s r.acts st.views i r.seats in let b = seat-there s r.acts st.views j r.seats in
    dite (dec_le (length b.later) (length a.later)) (λ l. inl (later-seat s r.acts v w a b l)) (λ l. inr (later-seat s r.acts w v b a (omega arith)))

-- two seats' ports in one, with the longer of their histories
join-of : (s : Shape) (acts : List Act) (v w : SeatView) → IsSeatOf s acts v → IsSeatOf s acts w → (shorter : Bool) → (shorter ≡ true → length w.history ≤ length v.history) → (shorter ≡ false → length v.history ≤ length w.history)
    → IsSeatOf s acts (record { ports = w.ports ++ v.ports; history = cond shorter v.history w.history })
join-of s acts v w a b true up down =
    let p = ap (λ (zs : List Act). length zs) (sym b.is ∙ a.is) in let q = length-append a.later v.history in let r = length-append b.later w.history in let l = up refl in record {
      later = a.later;
      is = a.is;
      ports = both-of s acts a.later w.ports v.ports (sooner s acts b.later a.later w.history v.history w.ports b.is a.is (omega arith) b.ports) a.ports;
    }
join-of s acts v w a b false up down =
    let p = ap (λ (zs : List Act). length zs) (sym b.is ∙ a.is) in let q = length-append a.later v.history in let r = length-append b.later w.history in let l = down refl in record {
      later = b.later;
      is = b.is;
      ports = both-of s acts b.later w.ports v.ports b.ports (sooner s acts a.later b.later v.history w.history v.ports a.is b.is (omega arith) a.ports);
    }

-- the ports of one seat go to another
pub joins : (key : Shape) (id : ℕ) (v : SeatView) (other : ℕ) (w : SeatView)
    → Joins (Reached key) id v other w (record { ports = w.ports ++ v.ports; history = longer w.history v.history }) (no_ports)
joins key id v other w st r at ne at' =
    let b : SeatView = record { ports = w.ports ++ v.ports; history = longer w.history v.history } in let gone : SeatView = no_ports in
    let vs' : List SeatView = set st.views id b in
    let mine = seat_at key r.acts st.views id v r.seats at in
    let theirs = seat_at key r.acts st.views other w r.seats (sym (set_else st.views id other b ne) ∙ at') in
    let joined : IsSeatOf key r.acts b = join-of key r.acts v w mine theirs (ltb (length w.history) (length v.history)) (λ q. omega (arith, ltb-true (length w.history) (length v.history) q)) (λ q. ltb-false (length w.history) (length v.history) q) in
    record {
      acts = r.acts;
      legal = r.legal;
      words = r.words;
      seats = are-set key r.acts vs' other gone (are-set key r.acts st.views id b r.seats joined) (nobody_of key r.acts);
      ports = λ f. let g : SeatView → ℕ = λ (u : SeatView). total f u.ports in
          let a1 = total-set g st.views id v b at in let a2 = total-set g vs' other w gone at' in let a3 = total-append f w.ports v.ports in let a4 = r.ports f in omega arith;
    }

-- a new seat, of no port
abbrev pub new_seat : Me ℕ SeatView
new_seat = (no_ports, [])

pub enters : (key : Shape) (slots : ℕ) → Enters (Reached key) slots 0 (λ n w. (w, []) ≡ new_seat)
enters key slots st r len l =
    let w : SeatView = no_ports in (
      w,
      record {
        acts = r.acts;
        legal = r.legal;
        words = r.words;
        seats = are-push key r.acts st.views w r.seats (nobody_of key r.acts);
        ports = λ f. omega (arith, total-append (λ (u : SeatView). total f u.ports) st.views (w ∷ []), r.ports f);
      },
      refl,
    )

-- what was reached keeps the sums
sound-ports : (s : Shape) (acts later : List Act) (ps : List PortView) → Legal s acts → ArePortsOf s acts later ps → AllSound s ps
sound-ports s acts later [] legal h = tt
sound-ports s acts later (p ∷ ps) legal h =
    let qs : List PortView = (history_outcome s acts).ports in
    let there = sound_of s _ _ _ _ p.who (port_at qs p.who) (rule_after s acts legal).fits (seats-at qs p.who (omega (arith, ports-length s acts, h.0.who))) in
    (subst (IsSound s) h.0.is there, sound-ports s acts later ps legal h.1)

sound-seats : (s : Shape) (acts : List Act) (vs : List SeatView) → Legal s acts → AreSeatsOf s acts vs → AllSeatsSound s vs
sound-seats s acts [] legal h = tt
sound-seats s acts (v ∷ vs) legal h = (sound-ports s acts h.0.later v.ports legal h.0.ports, sound-seats s acts vs legal h.1)

pub reached_rule : (key : Shape) (st : State ℕ SeatView) → Reached key st → TrackerRule key st
reached_rule key st r =
    let a = rule_after key r.acts r.legal in let ps : List PortView = (history_outcome key r.acts).ports in
    subst (λ (ws : List ℕ). TrackerRule key (record { words = ws; homes = st.homes; views = st.views })) (sym r.words) (record {
      words = a.words;
      agents = a.agents;
      entries = a.entries;
      fits = regroup key _ _ _ _ st.views (λ f. r.ports f ∙ sym (weigh-seats f ps)) (sound-seats key r.acts st.views r.legal r.seats) a.fits;
    })
