-- The end of a tracker: the ports gathered in one seat, and what was due added up.
use Rattle.std.proofs.Common.{◌≡◌, ℕ, ◌+◌, ◌*◌, ◌<◌, ◌≤◌, cond, eqb, List, [], ◌∷◌, ◌++◌, All, length, slice_index, None, refl, sym, ap, ◌∙◌, subst, arith, append_assoc, length-append, append-nil, eq-eqb, ne_eqb}
use mathlib.Core.Logic.{dite}
use native.Mathlib.Decide.{ℕ_discrete}
use lib.ListN.{get_or-append}
use lib.Seq.{get_or-append_seam}
use Rattle.atomic_table.specs.Table.{Me}
use Rattle.atomic_table.specs.Seated.{TableId}
use Rattle.atomic_table.specs.declared.shared.Seat.{Seat}
use Rattle.chi_tracker.specs.declared.view.SeatView.{SeatView}
use Rattle.chi_tracker.specs.Views.{PortView}
use Rattle.chi_tracker.specs.Rule.{duty_is}
use Rattle.chi_tracker.specs.Steps.{SeatPorts, shown, solo}
use Rattle.chi_tracker.specs.History.{longer}
use Rattle.chi_tracker.specs.Laws.{duties}
use Rattle.chi_tracker.specs.Calls.{Owner}
use Rattle.chi_tracker.specs.Totals.{views_of, longest, AreDue}
use Rattle.chi_tracker.specs.Witness.{GoesOnFromEach, joined, IsKnown}
use Rattle.chi_tracker.proofs.Moves.{of_mine, of_other}
use Rattle.chi_tracker.proofs.Together.{joined_is, follows_more}
use Rattle.chi_tracker.proofs.Balance.{views-length}

views-append : (xs ys : List Owner) → views_of (xs ++ ys) ≡ views_of xs ++ views_of ys
views-append [] ys = refl
views-append (x ∷ xs) ys = ap (λ vs. x.port ∷ vs) (views-append xs ys)

-- the ports gathered so far: with those that are left they are all; no duty; what is due is added up
abbrev OnPorts : List Owner → List Owner → List PortView → List ℕ → Type 0
OnPorts all left ps dues = (views_of left ++ ps ≡ views_of all) × ((n t : ℕ) → duties n t ps ≡ 0) × AreDue dues ps × ((i : ℕ) → i < 32 → slice_index dues i ≤ 8 * length ps)

-- the seat that gathers the ports: those that are left, then its own
pub record IsGathering (z : TableId) (all left : List Owner) (seat : Seat ℕ SeatView) (dues : List ℕ) : Type 0 where
  pub table : seat.table_id ≡ z
  pub own : All (λ o. o.table ≡ z) left
  pub ports : views_of left ++ seat.me.0.ports ≡ views_of all
  pub idle : (n t : ℕ) → duties n t seat.me.0.ports ≡ 0
  pub due : AreDue dues seat.me.0.ports
  pub small : (i : ℕ) → i < 32 → slice_index dues i ≤ 8 * length seat.me.0.ports
  pub told : (rest : List Owner) × (all ≡ left ++ rest) × (seat.me.0.history ≡ longest rest) × (seat.me.0.ports ≡ views_of rest) × GoesOnFromEach rest seat.me.0.history

-- of a list of eight ports at most eight are gathered
pub gathered_few : (z : TableId) (all left : List Owner) (seat : Seat ℕ SeatView) (dues : List ℕ) → length all ≤ 8 → IsGathering z all left seat dues → (i : ℕ) → i < 32 → slice_index dues i ≤ 1000
gathered_few z all left seat dues few g i l =
    let a = ap length g.ports in let b = views-length all in let d = length-append (views_of left) seat.me.0.ports in omega (arith, g.small i l, a, b, d)

last_own : (z : TableId) (left : List Owner) (o : Owner) → All (λ o. o.table ≡ z) (left ++ o ∷ []) → o.table ≡ z
last_own z left o all = ap (λ (x : Owner). x.table) (sym (get_or-append_seam left o [] o)) ∙ all (length left) o (omega (arith, length-append left (o ∷ [])))

rest_own : (z : TableId) (left : List Owner) (o : Owner) → All (λ o. o.table ≡ z) (left ++ o ∷ []) → All (λ o. o.table ≡ z) left
rest_own z left o all k d l = ap (λ (x : Owner). x.table) (sym (get_or-append left (o ∷ []) d k l)) ∙ all k d (omega (arith, length-append left (o ∷ [])))

pub popped_own : (z : TableId) (all left left' : List Owner) (seat : Seat ℕ SeatView) (dues : List ℕ) (o : Owner) → IsGathering z all left seat dues → left ≡ left' ++ o ∷ [] → o.table ≡ z
popped_own z all left left' seat dues o g is = last_own z left' o (subst (All (λ o. o.table ≡ z)) is g.own)

pub gathering_first : (z : TableId) (all : List Owner) (seat : Seat ℕ SeatView) (dues : List ℕ) → seat.table_id ≡ z → All (λ o. o.table ≡ z) all → seat.me ≡ (record { ports = []; history = [] }, []) → ((i : ℕ) → i < 32 → slice_index dues i ≡ 0) → IsGathering z all all seat dues
gathering_first z all seat dues table own me zeros =
    let h : OnPorts all all [] dues = (append-nil (views_of all), (λ n t. refl), (λ n t ln lt. omega (arith, zeros (4 * n + t) (omega arith))), (λ i l. omega (arith, zeros i l))) in
    let k = subst (λ (ps : List PortView). OnPorts all all ps dues) (sym (ap (λ (m : Me ℕ SeatView). m.0.ports) me)) h in
    record { table = table; own = own; ports = k.0; idle = k.1; due = k.2; small = k.3; told = ([], sym (append-nil all), ap (λ (m : Me ℕ SeatView). m.0.history) me, ap (λ (m : Me ℕ SeatView). m.0.ports) me, λ k d l. absurd (omega arith)) }

pub gathering_more : (z : TableId) (all left left' : List Owner) (seat seat' : Seat ℕ SeatView) (own : Me ℕ SeatView) (dues dues' : List ℕ) (o : Owner) (number : ℕ) (due : List ℕ) → IsGathering z all left seat dues → left ≡ left' ++ o ∷ []
    → seat'.table_id ≡ seat.table_id → shown own ≡ solo o.port → own.0.history ≡ o.history → IsKnown (joined seat.me.0 own.0) → seat'.me ≡ (joined seat.me.0 own.0, seat.me.1) → number ≡ o.port.who → o.port.duty ≡ None
    → ((t : ℕ) → t < 4 → slice_index due t + (slice_index o.port.spent t + slice_index o.port.returned t) ≡ slice_index o.port.retries t)
    → ((n t : ℕ) → n < 8 → t < 4 → slice_index dues' (4 * n + t) ≡ slice_index dues (4 * n + t) + cond (eqb number n) (slice_index due t) 0) → ((i : ℕ) → i < 32 → slice_index dues' i ≤ slice_index dues i + 8)
    → IsGathering z all left' seat' dues'
gathering_more z all left left' seat seat' own dues dues' o number due g is table own_is own_told known met num duty due_is sum small =
    let joined : seat'.me ≡ (record { ports = own.0.ports ++ seat.me.0.ports; history = longer own.0.history seat.me.0.history }, seat.me.1) = met ∙ ap (λ (v : SeatView). (v, seat.me.1)) (joined_is seat.me.0 own.0 known) in
    let p : PortView = o.port in let ps : List PortView = seat.me.0.ports in
    let now : seat'.me.0.ports ≡ p ∷ ps = ap (λ (m : Me ℕ SeatView). m.0.ports) joined ∙ ap (λ (m : SeatPorts). m.0 ++ ps) own_is in
    let h : OnPorts all left' (p ∷ ps) dues' = (
      sym (append_assoc (views_of left') (p ∷ []) ps) ∙ ap (λ vs. vs ++ ps) (sym (views-append left' (o ∷ [])) ∙ ap views_of (sym is)) ∙ g.ports,
      (λ n t. let a : duty_is n t p.duty ≡ 0 = ap (duty_is n t) duty in let b = g.idle n t in omega arith),
      (λ n t ln lt. dite (ℕ_discrete p.who n)
          (λ q. let a = of_mine n (λ x. slice_index x.spent t) p q in let b = of_mine n (λ x. slice_index x.returned t) p q in let d = of_mine n (λ x. slice_index x.retries t) p q in
          let s = sum n t ln lt in let c : cond (eqb number n) (slice_index due t) 0 ≡ slice_index due t = ap (λ z. cond z (slice_index due t) 0) (eq-eqb number n (num ∙ q)) in let h = due_is t lt in let k = g.due n t ln lt in omega arith)
          (λ f. let a = of_other n (λ x. slice_index x.spent t) p f in let b = of_other n (λ x. slice_index x.returned t) p f in let d = of_other n (λ x. slice_index x.retries t) p f in
          let s = sum n t ln lt in let c : cond (eqb number n) (slice_index due t) 0 ≡ 0 = ap (λ z. cond z (slice_index due t) 0) (ne_eqb number n (λ q. f (sym num ∙ q))) in let k = g.due n t ln lt in omega arith)),
      (λ i l. let h = g.small i l in let k = small i l in omega arith),
    ) in
    let k = subst (λ (qs : List PortView). OnPorts all left' qs dues') (sym now) h in
    record { table = table ∙ g.table; own = rest_own z left' o (subst (All (λ o. o.table ≡ z)) is g.own); ports = k.0; idle = k.1; due = k.2; small = k.3; told = (o ∷ g.told.0, g.told.1 ∙ ap (λ xs. xs ++ g.told.0) is ∙ append_assoc left' (o ∷ []) g.told.0, ap (λ (m : Me ℕ SeatView). m.0.history) joined ∙ ap (λ h. longer h seat.me.0.history) own_told ∙ ap (λ h. longer o.history h) g.told.2, now ∙ ap (λ qs. p ∷ qs) g.told.3, subst (GoesOnFromEach (o ∷ g.told.0)) (sym (ap (λ (m : Me ℕ SeatView). m.0.history) joined)) (follows_more g.told.0 o seat.me.0 own.0 known g.told.3 (ap (λ (m : SeatPorts). m.0) own_is) own_told g.told.4)) }

-- who has gathered all ports
pub gathered_follow : (z : TableId) (all left : List Owner) (seat : Seat ℕ SeatView) (dues : List ℕ) → IsGathering z all left seat dues → left ≡ [] → GoesOnFromEach all seat.me.0.history
gathered_follow z all left seat dues g none = subst (λ (os : List Owner). GoesOnFromEach os seat.me.0.history) (sym (g.told.1 ∙ ap (λ xs. xs ++ g.told.0) none)) g.told.4

pub gathered_all : (z : TableId) (all left : List Owner) (seat : Seat ℕ SeatView) (dues : List ℕ) → IsGathering z all left seat dues → left ≡ [] → seat.me.0.history ≡ longest all
gathered_all z all left seat dues g none = g.told.2 ∙ ap longest (sym (g.told.1 ∙ ap (λ xs. xs ++ g.told.0) none))
