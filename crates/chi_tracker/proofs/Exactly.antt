-- From the rule's sums to Place, Ledger and what a port knows, in literal words.
use Rattle.std.proofs.Common.{◌≡◌, ◌≢◌, inl, inr, ℕ, zero, suc, ◌+◌, ◌*◌, ◌/◌, ◌%◌, ◌<◌, ◌≤◌, Bool, cond, List, [], ◌∷◌, Option, Some, None, IfSome, length, slice_index, refl, sym, ap, ◌∙◌, arith, eq-eqb}
use mathlib.Core.Logic.{dite}
use native.Mathlib.Decide.{ℕ_discrete}
use Rattle.std.specs.Int.{bit_at}
use Rattle.std.proofs.lemmas.Nat.Bits.{bit_at-zero, bit_at-lt}
use Rattle.atomic_table.specs.Table.{State}
use Rattle.chi_tracker.specs.declared.shape.Shape.{Shape}
use Rattle.chi_tracker.specs.declared.view.SeatView.{SeatView}
use Rattle.chi_tracker.specs.Sums.{below, total, set_at}
use Rattle.chi_tracker.specs.Shape.{IsOf}
use Rattle.chi_tracker.specs.Words.{c_of, p_of, o_of}
use Rattle.chi_tracker.specs.Views.{PortView, Duty, has, new_port}
use Rattle.chi_tracker.specs.Rule.{weigh, of_port, duty_is, note_is, IsSound, AllSound, AllSeatsSound, Fits, TrackerRule}
use Rattle.chi_tracker.specs.Steps.{no_shape}
use Rattle.chi_tracker.specs.History.{port_at}
use Rattle.chi_tracker.specs.Laws.{all_ports, Place, Places, Ledger, Ledgers, AllKnow}
use Rattle.chi_tracker.proofs.Addition.{total-append, below_term}
use Rattle.chi_tracker.proofs.Moves.{of_mine, of_other}
use Rattle.chi_tracker.proofs.Start.{sound-join}

abbrev nobody : PortView
nobody = new_port no_shape 0

pub none_in : (f : PortView → ℕ) (ps : List PortView) → f nobody ≡ 0 → total f ps ≡ 0 → (i : ℕ) → f (port_at ps i) ≡ 0
none_in f [] z e i = z
none_in f (p ∷ ps) z e zero = omega arith
none_in f (p ∷ ps) z e (suc i) = none_in f ps z (omega arith) i

pub one_in : (f : PortView → ℕ) (ps : List PortView) → f nobody ≡ 0 → total f ps ≡ 1 → (i : ℕ) × (i < length ps) × (f (port_at ps i) ≡ 1) × ((j : ℕ) → j ≢ i → f (port_at ps j) ≡ 0)
one_in f [] z e = absurd (omega arith)
one_in f (p ∷ ps) z e = dite (ℕ_discrete (f p) 0)
    (λ q. let r = one_in f ps z (omega arith) in (suc r.0, omega (arith, r.1), r.2, λ j d. later q r.0 r.3 j d))
    (λ d. (0, omega arith, omega arith, λ j n. first (omega arith) j n))
  where
    later : f p ≡ 0 → (i : ℕ) → ((j : ℕ) → j ≢ i → f (port_at ps j) ≡ 0) → (j : ℕ) → j ≢ suc i → f (port_at (p ∷ ps) j) ≡ 0
    later q i h zero d = q
    later q i h (suc j) d = h j (λ r. d (ap suc r))

    first : total f ps ≡ 0 → (j : ℕ) → j ≢ 0 → f (port_at (p ∷ ps) j) ≡ 0
    first t zero n = absurd (n refl)
    first t (suc j) n = none_in f ps z t j

none_below : (f : ℕ → ℕ) (n : ℕ) → below f n ≡ 0 → (k : ℕ) → k < n → f k ≡ 0
none_below f n e k l = omega (arith, below_term f n k l)

one_below : (f : ℕ → ℕ) (n : ℕ) → below f n ≡ 1 → (k : ℕ) × (k < n) × (f k ≡ 1) × ((j : ℕ) → j < n → j ≢ k → f j ≡ 0)
one_below f zero e = absurd (omega arith)
one_below f (suc n) e = dite (ℕ_discrete (f n) 0)
    (λ q. let r = one_below f n (omega arith) in (r.0, omega (arith, r.1), r.2, λ j l d. dite (ℕ_discrete j n) (λ s. ap f s ∙ q) (λ s. r.3 j (omega arith) d)))
    (λ q. (n, omega arith, omega arith, λ j l d. none_below f n (omega arith) j (omega arith)))

pub weigh_all : (f : PortView → ℕ) (vs : List SeatView) → weigh f vs ≡ total f (all_ports vs)
weigh_all f [] = refl
weigh_all f (v ∷ vs) = omega (arith, weigh_all f vs, total-append f v.ports (all_ports vs))

pub place_of : (agents : ℕ) (c : ℕ → ℕ) (p : ℕ → ℕ → ℕ) (ports : List PortView) (e : ℕ) → c e ≤ 1 → c e ≡ total (has e) ports + below (λ n. p n e) agents → Place agents c p ports e
place_of agents c p ports e bit is = dite (ℕ_discrete (c e) 0)
    (λ q. inl (q, none_in (has e) ports (bit_at-zero e) (omega arith), none_below (λ n. p n e) agents (omega arith)))
    (λ q. inr (dite (ℕ_discrete (total (has e) ports) 0)
    (λ z. inr (omega arith, none_in (has e) ports (bit_at-zero e) z, one_below (λ n. p n e) agents (omega arith)))
    (λ z. inl (omega arith, one_in (has e) ports (bit_at-zero e) (omega arith), none_below (λ n. p n e) agents (omega arith)))))

pub places : (key : Shape) (st : State ℕ SeatView) → TrackerRule key st → Places key st
places key st rule e l = let le : e < 256 = omega (arith, l, rule.entries) in
    place_of key.agents (c_of st.words) (p_of st.words) (all_ports st.views) e (rule.fits.bits e le) (rule.fits.place e le ∙ ap (λ z. z + below (λ n. p_of st.words n e) key.agents) (weigh_all (has e) st.views))

-- the port of a requester, and what a weight of it is
none-mine : (n : ℕ) (ps : List PortView) → total (of_port n (λ _. 1)) ps ≡ 0 → ((j : ℕ) → j < length ps → (port_at ps j).who ≢ n) × ((f : PortView → ℕ) → total (of_port n f) ps ≡ 0)
none-mine n [] e = (λ j l q. omega arith, λ f. refl)
none-mine n (p ∷ ps) e = dite (ℕ_discrete p.who n)
    (λ q. absurd (omega (arith, of_mine n (λ _. 1) p q)))
    (λ d. let r = none-mine n ps (omega (arith, of_other n (λ _. 1) p d)) in (λ j l. apart d r.0 j l, λ f. omega (arith, of_other n f p d, r.1 f)))
  where
    apart : p.who ≢ n → ((j : ℕ) → j < length ps → (port_at ps j).who ≢ n) → (j : ℕ) → j < length (p ∷ ps) → (port_at (p ∷ ps) j).who ≢ n
    apart d h zero l = d
    apart d h (suc j) l = h j (omega arith)

mine_in : (n : ℕ) (ps : List PortView) → total (of_port n (λ _. 1)) ps ≡ 1 → (i : ℕ) × (i < length ps) × ((port_at ps i).who ≡ n) × ((j : ℕ) → j < length ps → j ≢ i → (port_at ps j).who ≢ n) × ((f : PortView → ℕ) → total (of_port n f) ps ≡ f (port_at ps i))
mine_in n [] e = absurd (omega arith)
mine_in n (p ∷ ps) e = dite (ℕ_discrete p.who n)
    (λ q. let r = none-mine n ps (omega (arith, of_mine n (λ _. 1) p q)) in (0, omega arith, q, λ j l d. others r.0 j l d, λ f. omega (arith, of_mine n f p q, r.1 f)))
    (λ d. let r = mine_in n ps (omega (arith, of_other n (λ _. 1) p d)) in (suc r.0, omega (arith, r.1), r.2, λ j l x. beside d r.0 r.3 j l x, λ f. omega (arith, of_other n f p d, r.4 f)))
  where
    others : ((j : ℕ) → j < length ps → (port_at ps j).who ≢ n) → (j : ℕ) → j < length (p ∷ ps) → j ≢ 0 → (port_at (p ∷ ps) j).who ≢ n
    others h zero l d = absurd (d refl)
    others h (suc j) l d = h j (omega arith)

    beside : p.who ≢ n → (i : ℕ) → ((j : ℕ) → j < length ps → j ≢ i → (port_at ps j).who ≢ n) → (j : ℕ) → j < length (p ∷ ps) → j ≢ suc i → (port_at (p ∷ ps) j).who ≢ n
    beside d i h zero l x = d
    beside d i h (suc j) l x = h j (omega arith) (λ q. x (ap suc q))

pub ledger_of : (s : Shape) (c : ℕ → ℕ) (p : ℕ → ℕ → ℕ) (o : ℕ → ℕ) (vs : List SeatView) → Fits s c p o vs → (n t : ℕ) → n < s.agents → t < 4 → Ledger s p o (all_ports vs) n t
ledger_of s c p o vs fits n t ln lt =
    let ps : List PortView = all_ports vs in
    let r = mine_in n ps (sym (weigh_all (of_port n (λ _. 1)) vs) ∙ fits.one_port n ln) in
    let h = fits.ledger n t ln lt in
    let a = weigh_all (of_port n (λ z. slice_index z.retries t)) vs in let a' = r.4 (λ z. slice_index z.retries t) in
    let b = weigh_all (λ z. duty_is n t z.duty) vs in
    let d = weigh_all (of_port n (λ z. slice_index z.spent t)) vs in let d' = r.4 (λ z. slice_index z.spent t) in
    let e = weigh_all (of_port n (λ z. slice_index z.returned t)) vs in let e' = r.4 (λ z. slice_index z.returned t) in
    (r.0, r.1, r.2, r.3, omega arith)

pub ledgers : (key : Shape) (st : State ℕ SeatView) → TrackerRule key st → Ledgers key st
ledgers key st rule = ledger_of key (c_of st.words) (p_of st.words) (o_of st.words) st.views rule.fits

-- what a port weighs, all ports weigh at least
term_in : (f : PortView → ℕ) (ps : List PortView) (i : ℕ) → i < length ps → f (port_at ps i) ≤ total f ps
term_in f [] i l = absurd (omega arith)
term_in f (p ∷ ps) zero l = omega arith
term_in f (p ∷ ps) (suc i) l = omega (arith, term_in f ps i (omega arith))

all_sound : (s : Shape) (vs : List SeatView) → AllSeatsSound s vs → AllSound s (all_ports vs)
all_sound s [] h = tt
all_sound s (v ∷ vs) h = sound-join s v.ports (all_ports vs) h.0 (all_sound s vs h.1)

sound_at : (s : Shape) (ps : List PortView) → AllSound s ps → (i : ℕ) → i < length ps → IsSound s (port_at ps i)
sound_at s [] h i l = absurd (omega arith)
sound_at s (p ∷ ps) h zero l = h.0
sound_at s (p ∷ ps) h (suc i) l = sound_at s ps h.1 i (omega arith)

duty_of : (s : Shape) (p : PortView) (duty : Option Duty) → IfSome duty (λ d. (d.to < s.agents) × (d.kind < 4) × IsOf s d.kind d.entry × (has d.entry p ≡ 1)) → IfSome duty (λ d. IsOf s d.kind d.entry × (has d.entry p ≡ 1))
duty_of s p None h = tt
duty_of s p (Some d) h = (h.2, h.3)

note_clear : (word : ℕ) (noted : Option ℕ) → ((k : ℕ) → note_is k noted + bit_at word k ≤ 1) → IfSome noted (λ k. bit_at word k ≡ 0)
note_clear word None h = tt
note_clear word (Some k) h = let a : note_is k (Some k) ≡ 1 = ap (λ (t : Bool). cond t 1 0) (eq-eqb k k refl) in omega (arith, h k)

pub knows : (key : Shape) (st : State ℕ SeatView) → TrackerRule key st → AllKnow key st
knows key st rule i l =
    let x : PortView = port_at (all_ports st.views) i in
    let sound : IsSound key x = sound_at key (all_ports st.views) (all_sound key st.views rule.fits.sound) i l in
    let mine : (f : PortView → ℕ) → f x ≤ weigh (of_port x.who f) st.views = λ f. omega (arith, term_in (of_port x.who f) (all_ports st.views) i l, of_mine x.who f x refl, weigh_all (of_port x.who f) st.views) in record {
      seen = λ e le is. omega (arith, mine (λ z. set_at z.seen e), rule.fits.seen x.who e sound.who_in (omega (arith, le, rule.entries)), bit_at-lt (slice_index st.words (4 + 5 * x.who + e / 64)) (e % 64));
      duty = duty_of key x x.duty sound.duty_in;
      noted = note_clear (o_of st.words x.who) x.noted (λ k. omega (arith, mine (λ z. note_is k z.noted), rule.fits.noted x.who k sound.who_in));
    }
