-- Who has all ports knows the whole history.
use Rattle.std.proofs.Common.{◌≡◌, ℕ, zero, suc, ◌<◌, List, [], ◌∷◌, ◌++◌, map, length, slice_index_or, refl, sym, ap, ◌∙◌, subst, arith, get_or-set_other}
use mathlib.Core.Option.{some}
use mathlib.Core.Logic.{dite}
use native.Mathlib.Decide.{ℕ_discrete}
use lib.ListN.{get_elem?}
use Rattle.atomic_table.specs.Table.{State}
use Rattle.chi_tracker.specs.declared.shape.Shape.{Shape}
use Rattle.chi_tracker.specs.declared.view.SeatView.{SeatView}
use Rattle.chi_tracker.specs.Acts.{Act, done_by}
use Rattle.chi_tracker.specs.declared.step.AtomicStep.{AtomicStep}
use Rattle.chi_tracker.specs.Sums.{total}
use Rattle.chi_tracker.specs.Views.{PortView}
use Rattle.chi_tracker.specs.Rule.{of_port}
use Rattle.chi_tracker.specs.History.{port_at, history_outcome, Legal, IsPortOf, ArePortsOf, IsSeatOf, AreSeatsOf, Reached, IsAfter, ViewsAre, table_state, no_ports}
use Rattle.chi_tracker.proofs.Moves.{of_other}
use Rattle.chi_tracker.proofs.Advance.{done_mine, done_other, seat_at}
use Rattle.chi_tracker.proofs.Seats.{reached_rule}
use Rattle.chi_tracker.proofs.Histories.{nobody, ports-length, rule_after, shape_here}
use Rattle.chi_tracker.specs.Steps.{one}
use Rattle.chi_tracker.specs.Laws.{IsOfRunning}
use Rattle.chi_tracker.proofs.Balance.{whole, ones}

-- a port that did the last act has done something
no-last : (s : Shape) (acts later : List Act) (a : Act) (ps : List PortView) → ArePortsOf s acts (a ∷ later) ps → total (of_port a.who (λ _. 1)) ps ≡ 1 → ⊥
no-last s acts later a [] h one = omega arith
no-last s acts later a (p ∷ ps) h one = dite (ℕ_discrete p.who a.who)
    (λ q. let e : done_by a.who (a ∷ later) ≡ [] = subst (λ (n : ℕ). done_by n (a ∷ later) ≡ []) q h.0.idle in let l = ap (λ (xs : List (AtomicStep × ℕ)). length xs) (sym (done_mine a later) ∙ e) in omega arith)
    (λ d. no-last s acts later a ps h.1 (omega (arith, of_other a.who (λ _. 1) p d)))

known-all : (s : Shape) (acts later history : List Act) (ps : List PortView) → Legal s acts → acts ≡ later ++ history → ArePortsOf s acts later ps → ((n : ℕ) → n < s.agents → total (of_port n (λ _. 1)) ps ≡ 1) → Legal s history × (acts ≡ history) × ArePortsOf s history [] ps
known-all s acts [] history ps legal is ports one = (subst (Legal s) is legal, is, subst (λ (xs : List Act). ArePortsOf s xs [] ps) is ports)
known-all s acts (a ∷ later) history ps legal is ports one = absurd (no-last s acts later a ps ports (one a.who (subst (Legal s) is legal).1))

pub all_known : (s : Shape) (st : State ℕ SeatView) (id : ℕ) (v : SeatView) → Reached s st → get_elem? st.views id ≡ some v → length v.ports ≡ s.agents → Legal s v.history × (st.words ≡ (history_outcome s v.history).words) × ArePortsOf s v.history [] v.ports
all_known s st id v r at many =
    let rule = reached_rule s st r in let seat = seat_at s r.acts st.views id v r.seats at in
    let one : (n : ℕ) → n < s.agents → total (of_port n (λ _. 1)) v.ports ≡ 1 = λ n l. sym (whole (of_port n (λ _. 1)) st.views id v at (omega (arith, rule.fits.ports, ones v.ports))) ∙ rule.fits.one_port n l in
    let k = known-all s r.acts seat.later v.history v.ports r.legal seat.is seat.ports one in
    (k.0, r.words ∙ ap (λ (xs : List Act). (history_outcome s xs).words) k.1, k.2)

-- the port of a requester that did nothing later
port-later : (s : Shape) (later history : List Act) (n : ℕ) → done_by n later ≡ [] → port_at (history_outcome s (later ++ history)).ports n ≡ port_at (history_outcome s history).ports n
port-later s [] history n idle = refl
port-later s (a ∷ later) history n idle = dite (ℕ_discrete a.who n)
    (λ q. absurd (let e : done_by a.who (a ∷ later) ≡ [] = subst (λ (m : ℕ). done_by m (a ∷ later) ≡ []) (sym q) idle in let l = ap (λ (xs : List (AtomicStep × ℕ)). length xs) (sym (done_mine a later) ∙ e) in omega arith))
    (λ d. get_or-set_other (history_outcome s (later ++ history)).ports a.who n _ nobody (λ q. d (sym q)) ∙ port-later s later history n (sym (done_other n a later d) ∙ idle))

legal-part : (s : Shape) (later history : List Act) → Legal s (later ++ history) → Legal s history
legal-part s [] history legal = legal
legal-part s (a ∷ later) history legal = legal-part s later history legal.0

pub seat_after : (s : Shape) (acts : List Act) (v : SeatView) (p : PortView) (history : List Act) → Legal s acts → IsSeatOf s acts v → v ≡ record { ports = p ∷ []; history = history } → IsAfter history p
seat_after s acts v p history legal seat is =
    let h : IsSeatOf s acts (record { ports = p ∷ []; history = history }) = subst (IsSeatOf s acts) is seat in
    let port : IsPortOf s acts h.later p = h.ports.0 in
    let all : Legal s (h.later ++ history) = subst (Legal s) h.is legal in
    let there : port_at (history_outcome s history).ports p.who ≡ p = sym (port-later s h.later history p.who port.idle) ∙ ap (λ (xs : List Act). port_at (history_outcome s xs).ports p.who) (sym h.is) ∙ port.is in
    let shape : p.shape ≡ s = ap (λ q. q.shape) (sym port.is) ∙ shape_here s acts p.who legal port.who in record {
      legal = subst (λ (z : Shape). Legal z history) (sym shape) (legal-part s h.later history all);
      who = subst (λ (z : Shape). p.who < z.agents) (sym shape) port.who;
      is = subst (λ (z : Shape). port_at (history_outcome z history).ports p.who ≡ p) (sym shape) there;
    }

seats-after : (s : Shape) (acts : List Act) (vs : List SeatView) → Legal s acts → AreSeatsOf s acts vs → (id : ℕ) (p : PortView) (history : List Act) → slice_index_or vs id (no_ports) ≡ record { ports = p ∷ []; history = history } → IsAfter history p
seats-after s acts [] legal h id p history is = absurd (let l = ap (λ (v : SeatView). length v.ports) is in omega arith)
seats-after s acts (v ∷ vs) legal h zero p history is = seat_after s acts v p history legal h.0 is
seats-after s acts (v ∷ vs) legal h (suc id) p history is = seats-after s acts vs legal h.1 id p history is

pub views_are : (s : Shape) (st : State ℕ SeatView) → Reached s st → ViewsAre st
views_are s st r = seats-after s r.acts st.views r.legal r.seats

-- the state of a history, with the port in it
pub seat-index : (ps : List PortView) (n : ℕ) → n < length ps → slice_index_or (map one ps) n (no_ports) ≡ one (port_at ps n)
seat-index [] n l = absurd (omega arith)
seat-index (p ∷ ps) zero l = refl
seat-index (p ∷ ps) (suc n) l = seat-index ps n (omega arith)

pub running : (history : List Act) (p : PortView) → IsAfter history p → IsOfRunning p
running history p h =
    let ps : List PortView = (history_outcome p.shape history).ports in
    (table_state (history_outcome p.shape history), rule_after p.shape history h.legal, (p.who, seat-index ps p.who (omega (arith, ports-length p.shape history, h.who)) ∙ ap one h.is))
