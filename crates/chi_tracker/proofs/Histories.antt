-- Legal acts keep the sums of the rule, and show each port what it learns.
use Rattle.std.proofs.Common.{◌≡◌, ◌≢◌, ◌⊎◌, inl, inr, ⊎_elim, Bool, true, false, cond, ◌==◌, ◌%◌, Option, Some, None, ℕ, zero, suc, ◌+◌, ◌<◌, List, [], ◌∷◌, map, length, set, slice_index, refl, sym, ap, ◌∙◌, subst, arith, length-set, get_or-set_other, get_or-set_same}
use mathlib.Core.Option.{some}
use mathlib.Core.Logic.{dite}
use native.Mathlib.Decide.{ℕ_discrete}
use lib.ListN.{get_elem?}
use Rattle.chi_tracker.specs.declared.shape.Shape.{Shape}
use Rattle.chi_tracker.specs.declared.view.SeatView.{SeatView}
use Rattle.chi_tracker.specs.Acts.{Act}
use Rattle.chi_tracker.specs.declared.step.AtomicStep.{AtomicStep}
use Rattle.chi_tracker.specs.declared.step.AtomicStep.TheVariants.{Claim, Free, Note, Owe, Look, Settle, Promise, See, Spend, Return}
use Rattle.std.specs.Int.{bit_at}
use Rattle.std.proofs.lemmas.Nat.Bits.{bit_at-zero}
use Rattle.chi_tracker.specs.Sums.{total, with_bit, without_bit}
use Rattle.chi_tracker.specs.Shape.{low, IsOf, IsShape}
use Rattle.chi_tracker.specs.Views.{PortView, Duty, has, new_port, new_ports}
use Rattle.chi_tracker.specs.Rule.{weigh, AllSound, AllSeatsSound, TrackerRule}
use Rattle.chi_tracker.specs.Steps.{one, no_shape, hand_without, word_of_step, written, effect, May}
use Rattle.chi_tracker.specs.History.{port_at, history_outcome, Legal, table_state}
use Rattle.chi_tracker.proofs.Moves.{sound_of}
use Rattle.chi_tracker.proofs.Start.{opens, opened, regroup}
use Rattle.chi_tracker.proofs.BitLaws.{with_else, dropped_here, dropped_else}
use Rattle.chi_tracker.proofs.Entries.{low_up}
use Rattle.chi_tracker.proofs.Allowed.{Learns, keeps}

abbrev pub nobody : PortView
nobody = new_port no_shape 0

-- ports, each in a seat of its own
pub seats-set : (ps : List PortView) (n : ℕ) (y : PortView) → map one (set ps n y) ≡ set (map one ps) n (one y)
seats-set [] n y = refl
seats-set (p ∷ ps) zero y = refl
seats-set (p ∷ ps) (suc n) y = ap (λ vs. one p ∷ vs) (seats-set ps n y)

pub seats-at : (ps : List PortView) (n : ℕ) → n < length ps → get_elem? (map one ps) n ≡ some (one (port_at ps n))
seats-at [] n l = absurd (omega arith)
seats-at (p ∷ ps) zero l = refl
seats-at (p ∷ ps) (suc n) l = seats-at ps n (omega arith)

pub weigh-seats : (f : PortView → ℕ) (ps : List PortView) → weigh f (map one ps) ≡ total f ps
weigh-seats f [] = refl
weigh-seats f (p ∷ ps) = omega (arith, weigh-seats f ps)

sound-seats : (s : Shape) (ps : List PortView) → AllSound s ps → AllSeatsSound s (map one ps)
sound-seats s [] h = tt
sound-seats s (p ∷ ps) h = ((h.0, tt), sound-seats s ps h.1)

pub new-at : (s : Shape) (k m n : ℕ) → n < m → port_at (new_ports s k m) n ≡ new_port s (k + n)
new-at s k zero n l = absurd (omega arith)
new-at s k (suc m) zero l = ap (new_port s) (let h : k ≡ k + 0 = omega arith in h)
new-at s k (suc m) (suc n) l = new-at s (k + 1) m n (omega arith) ∙ ap (new_port s) (let h : k + 1 + n ≡ k + suc n = omega arith in h)

new-length : (s : Shape) (k m : ℕ) → length (new_ports s k m) ≡ m
new-length s k zero = refl
new-length s k (suc m) = ap suc (new-length s (k + 1) m)

new-who : (s : Shape) (k m n : ℕ) → n < m → (port_at (new_ports s k m) n).who ≡ k + n
new-who s k zero n l = absurd (omega arith)
new-who s k (suc m) zero l = omega arith
new-who s k (suc m) (suc n) l = omega (arith, new-who s (k + 1) m n (omega arith))

-- a step leaves which port it is
pub same_who : (k : AtomicStep) (r : ℕ) (p : PortView) → (effect k r p).who ≡ p.who
same_who (Claim t e) r p = refl
same_who (Free e) r p = refl
same_who (Note t) r p = refl
same_who (Owe k) r p = refl
same_who (Look t m) r p = refl
same_who (Settle e m k) r p = refl
same_who (Promise e m) r p = refl
same_who (See i) r p = refl
same_who (Spend t e) r p = refl
same_who (Return t e) r p = refl

pub same_shape : (k : AtomicStep) (r : ℕ) (p : PortView) → (effect k r p).shape ≡ p.shape
same_shape (Claim t e) r p = refl
same_shape (Free e) r p = refl
same_shape (Note t) r p = refl
same_shape (Owe k) r p = refl
same_shape (Look t m) r p = refl
same_shape (Settle e m k) r p = refl
same_shape (Promise e m) r p = refl
same_shape (See i) r p = refl
same_shape (Spend t e) r p = refl
same_shape (Return t e) r p = refl

pub ports-length : (s : Shape) (acts : List Act) → length (history_outcome s acts).ports ≡ s.agents
ports-length s [] = new-length s 0 s.agents
ports-length s (a ∷ acts) = length-set (history_outcome s acts).ports a.who (effect a.step a.found (port_at (history_outcome s acts).ports a.who)) ∙ ports-length s acts

pub ports-who : (s : Shape) (acts : List Act) (n : ℕ) → n < s.agents → (port_at (history_outcome s acts).ports n).who ≡ n
ports-who s [] n l = omega (arith, new-who s 0 s.agents n l)
ports-who s (a ∷ acts) n l =
    let ps : List PortView = (history_outcome s acts).ports in let y : PortView = effect a.step a.found (port_at ps a.who) in dite (ℕ_discrete n a.who)
    (λ q. ap (λ i. (port_at (set ps a.who y) i).who) q ∙ ap (λ p. p.who) (get_or-set_same ps a.who y nobody (omega (arith, ports-length s acts))) ∙ same_who a.step a.found (port_at ps a.who) ∙ ap (λ i. (port_at ps i).who) (sym q) ∙ ports-who s acts n l)
    (λ d. ap (λ p. p.who) (get_or-set_other ps a.who n y nobody d) ∙ ports-who s acts n l)

first_rule : (s : Shape) → IsShape s → TrackerRule s (table_state (history_outcome s []))
first_rule s shaped =
    let r = opens s shaped in let ps : List PortView = new_ports s 0 s.agents in record {
      words = r.words;
      agents = r.agents;
      entries = r.entries;
      fits = regroup s _ _ _ (opened s) (map one ps) (λ f. omega (arith, weigh-seats f ps)) (sound-seats s ps r.fits.sound.0) r.fits;
    }

step_rule : (s : Shape) (ws : List ℕ) (ps : List PortView) (n : ℕ) (k : AtomicStep) (r : ℕ) → TrackerRule s (table_state (record { words = ws; ports = ps })) → n < length ps → (port_at ps n).who ≡ n → May k (port_at ps n) → r ≡ slice_index ws (word_of_step k n)
    → TrackerRule s (table_state (record { words = set ws (word_of_step k n) (written k r); ports = set ps n (effect k r (port_at ps n)) })) × Learns k r (port_at ps n)
step_rule s ws ps n k r rule l who may found =
    let x : PortView = port_at ps n in let at = seats-at ps n l in
    let P : ℕ → ℕ → List SeatView → Type 0 = λ (u v : ℕ) (vs : List SeatView). TrackerRule s (record { words = set ws (word_of_step k u) (written k v); homes = []; views = vs }) in
    let h = keeps s n x k may ws [] (map one ps) rule at (sound_of s _ _ _ (map one ps) n x rule.fits at) in
    let here : slice_index ws (word_of_step k x.who) ≡ r = ap (λ u. slice_index ws (word_of_step k u)) who ∙ sym found in (
      subst (λ (vs : List SeatView). P n r vs) (sym (seats-set ps n (effect k r x))) (subst (λ (u : ℕ). P u r (set (map one ps) n (one (effect k r x)))) who (subst (λ (v : ℕ). P x.who v (set (map one ps) n (one (effect k v x)))) here h.0)),
      subst (λ (v : ℕ). Learns k v x) here h.1,
    )

pub rule_after : (s : Shape) (acts : List Act) → Legal s acts → TrackerRule s (table_state (history_outcome s acts))
rule_after s [] legal = first_rule s legal
rule_after s (a ∷ acts) legal =
    (step_rule s (history_outcome s acts).words (history_outcome s acts).ports a.who a.step a.found (rule_after s acts legal.0) (omega (arith, ports-length s acts, legal.1)) (ports-who s acts a.who legal.1) legal.2 legal.3).0

pub learnt : (s : Shape) (a : Act) (acts : List Act) → Legal s (a ∷ acts) → Learns a.step a.found (port_at (history_outcome s acts).ports a.who)
learnt s a acts legal =
    (step_rule s (history_outcome s acts).words (history_outcome s acts).ports a.who a.step a.found (rule_after s acts legal.0) (omega (arith, ports-length s acts, legal.1)) (ports-who s acts a.who legal.1) legal.2 legal.3).1

pub shape_here : (s : Shape) (acts : List Act) (n : ℕ) → Legal s acts → n < s.agents → (port_at (history_outcome s acts).ports n).shape ≡ s
shape_here s acts n legal l =
    let ps : List PortView = (history_outcome s acts).ports in let r = rule_after s acts legal in
    (sound_of s _ _ _ _ n (port_at ps n) r.fits (seats-at ps n (omega (arith, ports-length s acts)))).shape_is

-- what is in a set once an entry was taken out was there before
still_there : (hand i e : ℕ) → bit_at (without_bit hand i) e ≡ 1 → bit_at hand e ≡ 1
still_there hand i e h = dite (ℕ_discrete e i)
    (λ q. absurd (let z : bit_at (without_bit hand i) e ≡ 0 = ap (bit_at (without_bit hand i)) q ∙ dropped_here hand i in omega arith))
    (λ d. sym (dropped_else hand i e d) ∙ h)

-- what is in hand after a step was there before, or is an entry of a type
pub hand_after : (k : AtomicStep) (r : ℕ) (p : PortView) (e : ℕ) → May k p → has e (effect k r p) ≡ 1 → (has e p ≡ 1) ⊎ ((t : ℕ) × (t < 4) × IsOf p.shape t e)
hand_after (Claim t i) r p e may h = dite (ℕ_discrete e i)
    (λ q. inr (t, may.0, subst (IsOf p.shape t) (sym q) may.1))
    (λ d. inl (taken (bit_at r (i % 64) == 0) d h))
  where
    taken : (b : Bool) → e ≢ i → bit_at (cond b (with_bit p.hand i) p.hand) e ≡ 1 → has e p ≡ 1
    taken true d g = sym (with_else p.hand i e d) ∙ g
    taken false d g = g
hand_after (Free i) r p e may h = inl (still_there p.hand i e h)
hand_after (Note t) r p e may h = inl h
hand_after (Owe k) r p e may h = inl h
hand_after (Look t m) r p e may h = inl h
hand_after (Settle i m k) r p e may h = inl h
hand_after (Promise i m) r p e may h = inl (kept p.duty h)
  where
    kept : (d : Option Duty) → bit_at (hand_without d p.hand) e ≡ 1 → has e p ≡ 1
    kept None g = g
    kept (Some d) g = still_there p.hand d.entry e g
hand_after (See i) r p e may h = inl h
hand_after (Spend t i) r p e may h = dite (ℕ_discrete e i)
    (λ q. inr (t, may.0, subst (IsOf p.shape t) (sym q) may.2))
    (λ d. inl (sym (with_else p.hand i e d) ∙ h))
hand_after (Return t i) r p e may h = dite (ℕ_discrete e i)
    (λ q. inr (t, may.0, subst (IsOf p.shape t) (sym q) may.2))
    (λ d. inl (sym (with_else p.hand i e d) ∙ h))

-- what is in hand is one of the tracker's entries
pub hand_inside : (s : Shape) (acts : List Act) (n e : ℕ) → Legal s acts → n < s.agents → has e (port_at (history_outcome s acts).ports n) ≡ 1 → e < low s 4
hand_inside s [] n e legal l h = absurd (let z : has e (port_at (new_ports s 0 s.agents) n) ≡ 0 = ap (has e) (new-at s 0 s.agents n l) ∙ bit_at-zero e in omega arith)
hand_inside s (a ∷ acts) n e legal l h =
    let ps : List PortView = (history_outcome s acts).ports in let x : PortView = port_at ps a.who in let y : PortView = effect a.step a.found x in dite (ℕ_discrete n a.who)
    (λ q. let here : has e y ≡ 1 = ap (has e) (sym (get_or-set_same ps a.who y nobody (omega (arith, ports-length s acts, legal.1)))) ∙ ap (λ i. has e (port_at (set ps a.who y) i)) (sym q) ∙ h in
    ⊎_elim (λ before. hand_inside s acts a.who e legal.0 legal.1 before)
    (λ of. let is : IsOf s of.0 e = subst (λ (z : Shape). IsOf z of.0 e) (shape_here s acts a.who legal.0 legal.1) of.2 in omega (arith, is.1, low_up s of.0 4 of.1))
    (hand_after a.step a.found x e legal.2 here))
    (λ d. hand_inside s acts n e legal.0 l (ap (has e) (sym (get_or-set_other ps a.who n y nobody d)) ∙ h))
