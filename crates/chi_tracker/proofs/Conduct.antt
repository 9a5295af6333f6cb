-- What a call did, put together of its steps.
use Rattle.std.proofs.Common.{◌≡◌, inl, inr, ℕ, zero, suc, ◌+◌, ◌-◌, ◌*◌, ◌%◌, ◌<◌, Bool, false, cond, List, [], ◌∷◌, ◌++◌, length, set, Option, Some, None, refl, sym, ap, ◌∙◌, subst, arith, append_assoc, eq-eqb, ne_eqb}
use mathlib.Core.Logic.{dite}
use native.Mathlib.Decide.{ℕ_discrete}
use Rattle.std.specs.Int.{bit_at}
use Rattle.atomic_table.specs.declared.shared.Seat.{Seat}
use Rattle.chi_tracker.specs.declared.view.SeatView.{SeatView}
use Rattle.chi_flit.specs.declared.numbers.Entry.{Entry}
use Rattle.chi_tracker.specs.Acts.{Act, done_by}
use Rattle.chi_tracker.specs.declared.step.AtomicStep.{AtomicStep}
use Rattle.chi_tracker.specs.declared.step.AtomicStep.TheVariants.{Claim, Free, Note, Owe, Look, Settle, See, Return}
use Rattle.chi_tracker.specs.Sums.{with_bit}
use Rattle.chi_tracker.specs.Shape.{low, size, IsOf}
use Rattle.chi_tracker.specs.Views.{PortView, has}
use Rattle.chi_tracker.specs.Calls.{Owner, owner_in, port_after_scan}
use Rattle.chi_tracker.specs.Steps.{SeatPorts, shown, solo, port_of, claims, byte_of, effect, first_clear}
use Rattle.chi_tracker.specs.History.{port_in}
use Rattle.chi_tracker.specs.declared.released.Released.{Released}
use Rattle.chi_tracker.specs.Conduct.{Steps, after_steps, ClaimActs, Then, Each, One, Found, Looked, FoundTaken, FoundFree, Tried, FoundClear, SweptAt, SweptFor, Settled, SettledIn, PromisedAt, EndActs, LookedInVain, LookedUntil, OweActs, SeeActs, TendActs, Does, HasStepped}
use Rattle.chi_tracker.proofs.Advance.{done_other}
use Rattle.chi_tracker.proofs.Sweeps.{swept_by}

pub done-both : (n : ℕ) (xs ys : List Act) → done_by n (xs ++ ys) ≡ done_by n xs ++ done_by n ys
done-both n [] ys = refl
done-both n (x ∷ xs) ys = dite (ℕ_discrete x.who n)
    (λ q. ap (λ b. cond b ((x.step, x.found) ∷ done_by n (xs ++ ys)) (done_by n (xs ++ ys))) (eq-eqb x.who n q) ∙ ap (λ zs. (x.step, x.found) ∷ zs) (done-both n xs ys) ∙ ap (λ b. cond b ((x.step, x.found) ∷ done_by n xs) (done_by n xs) ++ done_by n ys) (sym (eq-eqb x.who n q)))
    (λ d. done_other n x (xs ++ ys) d ∙ done-both n xs ys ∙ ap (λ zs. zs ++ done_by n ys) (sym (done_other n x xs d)))

pub after-both : (xs ys : Steps) (p : PortView) → after_steps (xs ++ ys) p ≡ after_steps xs (after_steps ys p)
after-both [] ys p = refl
after-both (x ∷ xs) ys p = ap (effect x.0 x.1) (after-both xs ys p)

-- nothing; one thing and then another; and so on
pub does_none : (p : Owner) (A : ℕ → Steps → Type 0) (i : ℕ) → i ≡ 0 → Does p (Each i A) p
does_none p A i none = subst (λ (j : ℕ). Does p (Each j A) p) (sym none) ([], ([], refl, refl), refl, refl)

pub does_then : (p q r : Owner) (A B : Steps → Type 0) → q.port.who ≡ p.port.who → Does p A q → Does q B r → Does p (Then A B) r
does_then p q r A B same a b =
    let n : ℕ = p.port.who in let xs : List Act = a.1.0 in let ys : List Act = b.1.0 in
    let mine : done_by n ys ≡ b.0 = ap (λ u. done_by u ys) (sym same) ∙ b.1.2 in (
      b.0 ++ a.0,
      (
        ys ++ xs,
        b.1.1 ∙ ap (λ zs. ys ++ zs) a.1.1 ∙ sym (append_assoc ys xs p.history),
        done-both n ys xs ∙ ap (λ zs. zs ++ done_by n xs) mine ∙ ap (λ zs. b.0 ++ zs) a.1.2,
      ),
      (b.0, a.0, refl, a.2, b.2),
      b.3 ∙ ap (after_steps b.0) a.3 ∙ sym (after-both b.0 a.0 p.port),
    )

pub does_more : (p q r : Owner) (A : ℕ → Steps → Type 0) (i i' : ℕ) → q.port.who ≡ p.port.who → i' ≡ suc i → Does p (Each i A) q → Does q (A i) r → Does p (Each i' A) r
does_more p q r A i i' same next a b = subst (λ (j : ℕ). Does p (Each j A) r) (sym next) (does_then p q r (Each i A) (A i) same a b)

-- one step, and what it found
pub does_one : (p q : Owner) (k : AtomicStep) (r : ℕ) → Does p (λ steps. steps ≡ (k, r) ∷ []) q → Does p (One k) q
does_one p q k r d = (d.0, d.1, (r, d.2), d.3)

pub does_found : (p q : Owner) (k : AtomicStep) (i b r : ℕ) → Does p (λ steps. steps ≡ (k, r) ∷ []) q → bit_at r i ≡ b → Does p (Found k i b) q
does_found p q k i b r d at = (d.0, d.1, (r, d.2, at), d.3)

-- a scan
module _ (p q r : Owner) (t first e i x : ℕ) (same : q.port.who ≡ p.port.who) (before : Does p (FoundTaken t first i) q) (step : Does q (λ steps. steps ≡ (Claim t e, x) ∷ []) r) where
  pub scan_more : (i' : ℕ) → e ≡ first + i → i' ≡ suc i → bit_at x (e % 64) ≡ 1 → Does p (FoundTaken t first i') r
  scan_more i' at next set = does_more p q r (λ j. Found (Claim t (first + j)) ((first + j) % 64) 1) i i' same next before
      (subst (λ (u : ℕ). Does q (Found (Claim t u) (u % 64) 1) r) at (does_found q r (Claim t e) (e % 64) 1 x step set))

  pub scan_free : i ≡ e - first → bit_at x (e % 64) ≡ 0 → Does p (FoundFree t first e) r
  scan_free at clear = does_then p q r (FoundTaken t first (e - first)) (Found (Claim t e) (e % 64) 0) same (subst (λ (j : ℕ). Does p (FoundTaken t first j) q) at before) (does_found q r (Claim t e) (e % 64) 0 x step clear)

-- the same as its caller names the port, the type and the entries
module _ (w p q : Owner) (t k first : ℕ) (own : w ≡ p) (kind : k ≡ t) (first_is : first ≡ low p.port.shape k) where
  pub claim_some : (e : Entry) → IsOf p.port.shape k e.0 → has e.0 p.port ≡ 0 → Does p (FoundFree k first e.0) q → Does w (ClaimActs w.port t (Some e)) q
  claim_some e of clear d =
      let found : Does p (FoundFree k (low p.port.shape k) e.0) q = subst (λ (f : ℕ). Does p (FoundFree k f e.0) q) first_is d in
      subst (λ (z : Owner). Does z (ClaimActs z.port t (Some e)) q) (sym own)
      (subst (λ (j : ℕ). Does p (ClaimActs p.port j (Some e)) q) kind (found.0, found.1, (of, clear, found.2), found.3))

  pub claim_none : (count : ℕ) → count ≡ size p.port.shape k → 0 < count → Does p (FoundTaken k first count) q → Does w (ClaimActs w.port t None) q
  claim_none count count_is some d =
      let taken : Does p (FoundTaken k (low p.port.shape k) (size p.port.shape k)) q = subst (λ (n : ℕ). Does p (FoundTaken k (low p.port.shape k) n) q) count_is (subst (λ (f : ℕ). Does p (FoundTaken k f count) q) first_is d) in
      subst (λ (z : Owner). Does z (ClaimActs z.port t None) q) (sym own)
      (subst (λ (j : ℕ). Does p (ClaimActs p.port j None) q) kind (taken.0, taken.1, (omega (arith, count_is, some), taken.2), taken.3))

-- the places of one requester
pub clear_unset : (p q : Owner) (t e m word i i' place : ℕ) → q.port.who ≡ p.port.who → Does p (FoundClear t e m word i) q → place ≡ 8 * t + i → bit_at word place ≡ 0 → i' ≡ suc i → Does p (FoundClear t e m word i') q
clear_unset p q t e m word i i' place same before at unset next = does_more p q q (λ j. Tried e m word (8 * t + j)) i i' same next before ([], ([], refl, refl), inl (ap (bit_at word) (sym at) ∙ unset, refl), refl)

pub clear_tried : (p q r : Owner) (t e m word i i' place : ℕ) → q.port.who ≡ p.port.who → Does p (FoundClear t e m word i) q → Does q (Found (Settle e m place) place 0) r → place ≡ 8 * t + i → i' ≡ suc i → Does p (FoundClear t e m word i') r
clear_tried p q r t e m word i i' place same before step at next =
    let here : Does q (Found (Settle e m (8 * t + i)) (8 * t + i) 0) r = subst (λ (u : ℕ). Does q (Found (Settle e m u) u 0) r) at step in
    does_more p q r (λ j. Tried e m word (8 * t + j)) i i' same next before (here.0, here.1, inr here.2, here.3)

pub clear_set : (p q r : Owner) (t e m word i place : ℕ) → q.port.who ≡ p.port.who → Does p (FoundClear t e m word i) q → Does q (Settled e m place) r → place ≡ 8 * t + i → i < 8 → Does p (SettledIn t e m word) r
clear_set p q r t e m word i place same before step at near =
    let here : Does q (Settled e m (8 * t + i)) r = subst (λ (u : ℕ). Does q (Settled e m u) r) at step in
    let all = does_then p q r (FoundClear t e m word i) (Settled e m (8 * t + i)) same before here in
    (all.0, all.1, (i, near, all.2), all.3)

-- the requesters one after the other
module _ (p q q' r : Owner) (t e m word : ℕ) (same : q.port.who ≡ p.port.who) (same' : q'.port.who ≡ q.port.who) (before : Does p (SweptFor t e m) q) (look : Does q (λ steps. steps ≡ (Look t m, word) ∷ []) q') where
  pub swept_more : (m' : ℕ) → m' ≡ suc m → Does q' (FoundClear t e m word 8) r → Does p (SweptFor t e m') r
  swept_more m' next places =
      let here = does_then q q' r (λ steps. steps ≡ (Look t m, word) ∷ []) (FoundClear t e m word 8) same' look places in
      does_more p q r (SweptAt t e) m m' same next before (here.0, here.1, (word, here.2), here.3)

  pub swept_settled : Does q' (SettledIn t e m word) r → Does p (Then (SweptFor t e m) (PromisedAt t e m)) r
  swept_settled places =
      let here = does_then q q' r (λ steps. steps ≡ (Look t m, word) ∷ []) (SettledIn t e m word) same' look places in
      does_then p q r (SweptFor t e m) (PromisedAt t e m) same before (here.0, here.1, (word, here.2), here.3)

pub swept_freed : (p q r : Owner) (t e m agents x : ℕ) → q.port.who ≡ p.port.who → m ≡ agents → Does p (SweptFor t e m) q → Does q (λ steps. steps ≡ (Free e, x) ∷ []) r → Does p (Then (SweptFor t e agents) (One (Free e))) r
swept_freed p q r t e m agents x same all before step = does_then p q r (SweptFor t e agents) (One (Free e)) same (subst (λ (j : ℕ). Does p (SweptFor t e j) q) all before) (does_one q r (Free e) x step)

-- looks for an owed credit
module _ (p q r : Owner) (t m word : ℕ) (same : q.port.who ≡ p.port.who) (before : Does p (LookedInVain t m) q) (look : Does q (λ steps. steps ≡ (Look t m, word) ∷ []) r) where
  pub vain_more : (m' : ℕ) → m' ≡ suc m → byte_of t word ≡ 0 → Does p (LookedInVain t m') r
  vain_more m' next none = does_more p q r (λ j. Looked (Look t j) (λ w. byte_of t w ≡ 0)) m m' same next before (look.0, look.1, (word, look.2, none), look.3)

  pub vain_until : (agents : ℕ) → m < agents → 0 < byte_of t word → Does p (LookedUntil t agents) r
  vain_until agents l some =
      let all = does_then p q r (LookedInVain t m) (Looked (Look t m) (λ w. 0 < byte_of t w)) same before (look.0, look.1, (word, look.2, some), look.3) in
      (all.0, all.1, (m, l, all.2), all.3)

-- which port it is, in a sweep
swept-same : (t m : ℕ) (p : PortView) → (swept_by t m p).who ≡ p.who
swept-same t zero p = refl
swept-same t (suc m) p = refl

pub swept_who : (m m' : SeatPorts) (t i : ℕ) → m' ≡ solo (swept_by t i (port_of m)) → (port_of m').who ≡ (port_of m).who
swept_who m m' t i is = ap (λ s. (port_of s).who) is ∙ swept-same t i (port_of m)

-- the view after one claim more that found its bit set
pub scan_next : (m m1 m2 : SeatPorts) (t first e i i' old : ℕ) → first ≡ low (port_of m).shape t → m1 ≡ solo (port_after_scan t i (port_of m)) → m2 ≡ solo (claims t e old (port_of m1)) → old ≡ 1 → e ≡ first + i → 0 < i → i' ≡ suc i → m2 ≡ solo (port_after_scan t i' (port_of m))
scan_next m m1 m2 t first e i i' old at before step set place some next =
    let p : PortView = port_of m in let q : PortView = port_after_scan t i p in
    let F : Bool → ℕ → PortView = λ (b : Bool) (k : ℕ). record q { found = with_bit (cond b 0 q.found) k; scans = cond b (q.scans + 1) q.scans; scan_kind = cond b t q.scan_kind } in
    let here : claims t e 1 q ≡ F false (low p.shape t + i) = ap (λ b. F b e) (ne_eqb e (low p.shape t) (λ z. omega arith)) ∙ ap (F false) (let h : e ≡ low p.shape t + i = omega arith in h) in
    step ∙ ap (λ o. solo (claims t e o (port_of m1))) set ∙ ap (λ z. solo (claims t e 1 (port_of z))) before ∙ ap solo here ∙ ap (λ j. solo (port_after_scan t j p)) (sym next)

pub does_owe : (p q r : Owner) (t k word x : ℕ) → q.port.who ≡ p.port.who → Does p (λ steps. steps ≡ (Note t, word) ∷ []) q → Does q (λ steps. steps ≡ (Owe k, x) ∷ []) r → k ≡ first_clear (8 * t) word → Does p (OweActs t) r
does_owe p q r t k word x same look step place =
    let place' : ℕ = first_clear (8 * t) word in
    let here : Does q (One (Owe place')) r = subst (λ (u : ℕ). Does q (One (Owe u)) r) place (does_one q r (Owe k) x step) in
    let all = does_then p q r (λ steps. steps ≡ (Note t, word) ∷ []) (One (Owe place')) same look here in
    (all.0, all.1, (word, all.2), all.3)

-- a tend
pub tend_some : (p q q' r : Owner) (t agents first e : ℕ) (x : PortView) (released : Released) → q.port.who ≡ p.port.who → q'.port.who ≡ q.port.who → agents ≡ x.shape.agents → first ≡ low x.shape t → IsOf x.shape t e → has e x ≡ 0
    → Does p (LookedUntil t agents) q → Does q (FoundFree t first e) q' → Does q' (EndActs agents t e released) r → Does p (TendActs x t (Some released)) r
tend_some p q q' r t agents first e x released same same' all low_is of clear looks scan ends =
    let A : Steps → Type 0 = LookedUntil t x.shape.agents in let B : Steps → Type 0 = ClaimActs x t (Some (record { 0 = e })) in let C : Steps → Type 0 = EndActs x.shape.agents t e released in
    let found : Does q (FoundFree t (low x.shape t) e) q' = subst (λ (f : ℕ). Does q (FoundFree t f e) q') low_is scan in
    let d = does_then q q' r B C same' (found.0, found.1, (of, clear, found.2), found.3) (subst (λ (f : ℕ). Does q' (EndActs f t e released) r) all ends) in
    let f = does_then p q r A (Then B C) same (subst (λ (u : ℕ). Does p (LookedUntil t u) q) all looks) d in
    (f.0, f.1, (record { 0 = e }, f.2), f.3)

pub tend_none : (p q r : Owner) (t agents first count : ℕ) (x : PortView) (released : Option Released) → q.port.who ≡ p.port.who → agents ≡ x.shape.agents → first ≡ low x.shape t → count ≡ size x.shape t → 0 < count
    → Does p (LookedUntil t agents) q → Does q (FoundTaken t first count) r → released ≡ None → Does p (TendActs x t released) r
tend_none p q r t agents first count x released same all low_is size_is some looks scan none =
    let scan' : Does q (FoundTaken t (low x.shape t) (size x.shape t)) r = subst (λ (f : ℕ). Does q (FoundTaken t f (size x.shape t)) r) low_is (subst (λ (f : ℕ). Does q (FoundTaken t first f) r) size_is scan) in
    let all_taken : Does q (ClaimActs x t None) r = (scan'.0, scan'.1, (omega (arith, size_is, some), scan'.2), scan'.3) in
    let f = does_then p q r (LookedUntil t x.shape.agents) (ClaimActs x t None) same (subst (λ (u : ℕ). Does p (LookedUntil t u) q) all looks) all_taken in
    subst (λ (z : Option Released). Does p (TendActs x t z) r) (sym none) (f.0, f.1, inr f.2, f.3)

-- a credit given back and its entry released
pub give_release : (p q r : Owner) (t k agents agents' e : ℕ) (released : Released) → q.port.who ≡ p.port.who → k ≡ t → agents ≡ agents' → Does p (One (Return k e)) q → Does q (EndActs agents k e released) r
    → Does p (Then (One (Return t e)) (EndActs agents' t e released)) r
give_release p q r t k agents agents' e released same kind all a b =
    let b' : Does q (EndActs agents' t e released) r = subst (λ (j : ℕ). Does q (EndActs agents' j e released) r) kind (subst (λ (f : ℕ). Does q (EndActs f k e released) r) all b) in
    does_then p q r (One (Return t e)) (EndActs agents' t e released) same (subst (λ (j : ℕ). Does p (One (Return j e)) q) kind a) b'

-- the four looks of a see
four-seen : (r0 r1 r2 r3 : ℕ) (words : List ℕ) → length words ≡ 4 → SeeActs (set (set (set (set words 0 r0) 1 r1) 2 r2) 3 r3) ((See 3, r3) ∷ ((See 2, r2) ∷ ((See 1, r1) ∷ ((See 0, r0) ∷ []))))
four-seen r0 r1 r2 r3 [] l = absurd (omega arith)
four-seen r0 r1 r2 r3 (a ∷ []) l = absurd (omega arith)
four-seen r0 r1 r2 r3 (a ∷ b ∷ []) l = absurd (omega arith)
four-seen r0 r1 r2 r3 (a ∷ b ∷ c ∷ []) l = absurd (omega arith)
four-seen r0 r1 r2 r3 (a ∷ b ∷ c ∷ d ∷ []) l = refl
four-seen r0 r1 r2 r3 (a ∷ b ∷ c ∷ d ∷ e ∷ rest) l = absurd (omega arith)

pub saw_four : (m m0 m1 m2 m3 : Seat ℕ SeatView) (r0 r1 r2 r3 : ℕ) → length (port_in m.me).seen ≡ 4 → HasStepped (See 0) m r0 m0 → HasStepped (See 1) m0 r1 m1 → HasStepped (See 2) m1 r2 m2 → HasStepped (See 3) m2 r3 m3
    → Does (owner_in m) (SeeActs (port_in m3.me).seen) (owner_in m3)
unfolding does_then
saw_four m m0 m1 m2 m3 r0 r1 r2 r3 len s0 s1 s2 s3 =
    let W : SeatPorts → ℕ = λ (s : SeatPorts). (port_of s).who in let S : SeatPorts → List ℕ = λ (s : SeatPorts). (port_of s).seen in
    let E : AtomicStep → ℕ → Steps → Type 0 = λ (k : AtomicStep) (r : ℕ) (steps : Steps). steps ≡ (k, r) ∷ [] in
    let w0 = ap W s0.view in let w1 = ap W s1.view ∙ w0 in let w2 = ap W s2.view ∙ w1 in
    let a = does_then (owner_in m) (owner_in m0) (owner_in m1) (E (See 0) r0) (E (See 1) r1) w0 s0.acts s1.acts in
    let b = does_then (owner_in m) (owner_in m1) (owner_in m2) (Then (E (See 0) r0) (E (See 1) r1)) (E (See 2) r2) w1 a s2.acts in
    let d = does_then (owner_in m) (owner_in m2) (owner_in m3) (Then (Then (E (See 0) r0) (E (See 1) r1)) (E (See 2) r2)) (E (See 3) r3) w2 b s3.acts in
    let all : S (shown m3.me) ≡ set (set (set (set (S (shown m.me)) 0 r0) 1 r1) 2 r2) 3 r3 = ap S s3.view ∙ ap (λ ws. set ws 3 r3) (ap S s2.view ∙ ap (λ ws. set ws 2 r2) (ap S s1.view ∙ ap (λ ws. set ws 1 r1) (ap S s0.view))) in
    let is : d.0 ≡ (See 3, r3) ∷ ((See 2, r2) ∷ ((See 1, r1) ∷ ((See 0, r0) ∷ []))) =
    first s3.acts.0 _ (See 3, r3) s3.acts.2 ∙ ap (λ z. (See 3, r3) ∷ z) (first s2.acts.0 _ (See 2, r2) s2.acts.2 ∙ ap (λ z. (See 2, r2) ∷ z) (first s1.acts.0 s0.acts.0 (See 1, r1) s1.acts.2 ∙ ap (λ z. (See 1, r1) ∷ z) s0.acts.2)) in
    (d.0, d.1, is ∙ subst (λ (ws : List ℕ). SeeActs ws ((See 3, r3) ∷ ((See 2, r2) ∷ ((See 1, r1) ∷ ((See 0, r0) ∷ []))))) (sym all) (four-seen r0 r1 r2 r3 (S (shown m.me)) len), d.3)
  where
    first : (xs ys : Steps) (k : AtomicStep × ℕ) → xs ≡ k ∷ [] → xs ++ ys ≡ k ∷ ys
    first xs ys k is = ap (λ zs. zs ++ ys) is
