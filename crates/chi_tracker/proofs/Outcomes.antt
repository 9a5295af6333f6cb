-- What the steps of a call make of the view of the port that does them.
use Rattle.std.proofs.Common.{◌≡◌, inl, inr, ℕ, zero, suc, ◌+◌, ◌-◌, ◌*◌, ◌/◌, ◌%◌, ◌<◌, ◌≤◌, Bool, true, false, cond, eqb, ◌&&◌, List, [], ◌∷◌, ◌++◌, Option, Some, None, refl, sym, ap, ◌∙◌, subst, arith, eq-eqb, ne_eqb}
use Rattle.std.specs.Int.{bit_at}
use Rattle.chi_flit.specs.declared.numbers.Entry.{Entry}
use Rattle.chi_tracker.specs.declared.step.AtomicStep.{AtomicStep}
use Rattle.chi_tracker.specs.declared.step.AtomicStep.TheVariants.{Claim, Free, Look, Settle, Promise, Return}
use Rattle.chi_tracker.specs.declared.released.Released.{Released}
use Rattle.chi_tracker.specs.declared.released.Released.TheVariants.{Granted, Freed}
use Rattle.chi_tracker.specs.Sums.{with_bit, without_bit}
use Rattle.chi_tracker.specs.Shape.{low, size}
use Rattle.chi_tracker.specs.Views.{PortView}
use Rattle.chi_tracker.specs.Steps.{SeatPorts, solo, port_of, byte_of, claims, effect, frees, returns_credit, settles, sweeps}
use Rattle.chi_tracker.specs.Calls.{Owner, granted_to, into_hand, port_after_scan, saw_all, stands_at, swept_all, with_sweep, Claims, HasReturned, LeavesHand, LeavesHandAsItsType, Tended}
use Rattle.chi_tracker.specs.declared.shape.Shape.{Shape}
use Rattle.chi_tracker.specs.Conduct.{HasActed, Steps, after_steps, Then, Found, Looked, FoundTaken, FoundFree, Tried, FoundClear, SweptAt, SweptFor, Settled, PromisedAt, LookedInVain, ClaimActs, EndActs, ReleaseActs, ReturnActs, SeeActs, TendActs}
use Rattle.chi_tracker.proofs.Conduct.{after-both}
use Rattle.chi_tracker.proofs.Entries.{first_found}
use Rattle.chi_tracker.proofs.Sweeps.{swept_by, IsSettled, both_true, settled_first, settled_unset, settled_clear, settled_all}

-- one step; and what comes after something else
pub made_one : (steps : Steps) (k : AtomicStep) (r : ℕ) (p : PortView) → steps ≡ (k, r) ∷ [] → after_steps steps p ≡ effect k r p
made_one steps k r p is = ap (λ z. after_steps z p) is

made_then : (later before steps : Steps) (p q : PortView) → steps ≡ later ++ before → after_steps before p ≡ q → after_steps steps p ≡ after_steps later q
made_then later before steps p q is first = ap (λ z. after_steps z p) is ∙ after-both later before p ∙ ap (after_steps later) first

-- a look at the next requester of a sweep
made_look : (t j word : ℕ) (p : PortView) → sweeps t j word (swept_by t j p) ≡ stands_at t j (byte_of t word) p
made_look t zero word p = refl
made_look t (suc j) word p =
    let S : Bool → Bool → PortView = λ (z b : Bool). record p { sweep = record { opened = cond z (p.sweep.opened + 1 + 1) (p.sweep.opened + 1); kind = cond z t t; at = cond z 0 (cond b (suc j) j); left = cond z (byte_of t word) (cond b (byte_of t word) 0) } } in
    let first : eqb (suc j) 0 ≡ false = ne_eqb (suc j) 0 (λ z. omega arith) in
    let on : (eqb (suc j) (j + 1) && (eqb t t && true)) ≡ true = ap (λ (b : Bool). b && (eqb t t && true)) (eq-eqb (suc j) (j + 1) (omega arith)) ∙ ap (λ (b : Bool). b && true) (eq-eqb t t refl) in
    ap (λ (z : Bool). S z (eqb (suc j) (j + 1) && (eqb t t && true))) first ∙ ap (S false) on

pub swept_next : (m m1 m2 m3 : SeatPorts) (t i i' word : ℕ) → m1 ≡ solo (swept_by t i (port_of m)) → m2 ≡ solo (sweeps t i word (port_of m1)) → m3 ≡ solo (with_sweep (record (port_of m2).sweep { left = 0 }) (port_of m2)) → i' ≡ suc i → m3 ≡ solo (swept_by t i' (port_of m))
swept_next m m1 m2 m3 t i i' word first look none next =
    let p : PortView = port_of m in
    let shown_is : port_of m2 ≡ stands_at t i (byte_of t word) p = ap port_of look ∙ ap (λ z. sweeps t i word (port_of z)) first ∙ made_look t i word p in
    none ∙ ap (λ q. solo (with_sweep (record q.sweep { left = 0 }) q)) shown_is ∙ ap (λ n. solo (swept_by t n p)) (sym next)

-- the places of a requester that were tried in vain
record HasTried (t m place : ℕ) (word : ℕ) (p q : PortView) : Type 0 where
  pub left : ℕ
  pub is : q ≡ stands_at t m left p
  pub settled : IsSettled t word place left

made_settle : (e t m k left : ℕ) (p : PortView) → k / 8 ≡ t → settles e m k 0 (stands_at t m left p) ≡ stands_at t m (without_bit left (k % 8)) p
made_settle e t m k left p kind = ap (λ n. stands_at t m n p) (both_true m m t (k / 8) (without_bit left (k % 8)) left refl (sym kind))

made_try : (e t m word i : ℕ) (steps : Steps) (p q : PortView) → i < 8 → HasTried t m (8 * t + i) word p q → Tried e m word (8 * t + i) steps → HasTried t m (8 * t + i + 1) word p (after_steps steps q)
made_try e t m word i steps p q near h (inl unset) = record {
  left = h.left;
  is = ap (λ z. after_steps z q) unset.1 ∙ h.is;
  settled = settled_unset t word (8 * t + i) h.left (omega arith) unset.0 h.settled;
}
made_try e t m word i steps p q near h (inr clear) = let k : ℕ = 8 * t + i in record {
  left = without_bit h.left (k % 8);
  is = made_one steps (Settle e m k) clear.0 q clear.1 ∙ ap (λ b. settles e m k b q) clear.2 ∙ ap (settles e m k 0) h.is ∙ made_settle e t m k h.left p (omega arith);
  settled = settled_clear t word k h.left (omega arith) (omega arith) h.settled;
}

made_tries : (e t m word n : ℕ) (steps : Steps) (p : PortView) → n ≤ 8 → FoundClear t e m word n steps → HasTried t m (8 * t + n) word p (after_steps steps (stands_at t m (byte_of t word) p))
made_tries e t m word zero steps p few none = record {
  left = byte_of t word;
  is = ap (λ z. after_steps z (stands_at t m (byte_of t word) p)) none;
  settled = subst (λ k. IsSettled t word k (byte_of t word)) (omega arith) (settled_first t word);
}
made_tries e t m word (suc n) steps p few h =
    let q : PortView = stands_at t m (byte_of t word) p in
    let before = made_tries e t m word n h.1 p (omega arith) h.3 in
    let all = made_try e t m word n h.0 p (after_steps h.1 q) (omega arith) before h.4 in
    record {
      left = all.left;
      is = made_then h.0 h.1 steps q (after_steps h.1 q) h.2 refl ∙ all.is;
      settled = subst (λ k. IsSettled t word k all.left) (omega arith) all.settled;
    }

-- a look, and then what is done with what it showed
made_shown : (t m word : ℕ) (later before steps : Steps) (p : PortView) → steps ≡ later ++ before → before ≡ (Look t m, word) ∷ [] → after_steps steps (swept_by t m p) ≡ after_steps later (stands_at t m (byte_of t word) p)
made_shown t m word later before steps p is look = made_then later before steps (swept_by t m p) (stands_at t m (byte_of t word) p) is (made_one before (Look t m) word (swept_by t m p) look ∙ made_look t m word p)

-- a requester, and the first n of them, swept in vain
made_swept : (t e m : ℕ) (steps : Steps) (p : PortView) → SweptAt t e m steps → after_steps steps (swept_by t m p) ≡ swept_by t (suc m) p
made_swept t e m steps p (word, h) =
    let tried = made_tries e t m word 8 h.0 p (omega arith) h.4 in
    made_shown t m word h.0 h.1 steps p h.2 h.3 ∙ tried.is ∙ ap (λ n. stands_at t m n p) (settled_all t word tried.left tried.settled)

pub made_sweep : (t e n : ℕ) (steps : Steps) (p : PortView) → SweptFor t e n steps → after_steps steps p ≡ swept_by t n p
made_sweep t e zero steps p none = ap (λ z. after_steps z p) none
made_sweep t e (suc n) steps p h = made_then h.0 h.1 steps p (swept_by t n p) h.2 (made_sweep t e n h.1 p h.3) ∙ made_swept t e n h.0 p h.4

-- a place was settled, and the entry promised
made_promise : (t e m k left : ℕ) (steps : Steps) (p : PortView) → Settled e m k steps → after_steps steps (stands_at t m left p) ≡ granted_to m e (stands_at t m left p)
made_promise t e m k left steps p h =
    let q : PortView = stands_at t m left p in
    made_then h.0 h.1 steps q (settles e m k 1 q) h.2 (made_one h.1 (Settle e m k) h.3.0 q h.3.1 ∙ ap (λ b. settles e m k b q) h.3.2) ∙ made_one h.0 (Promise e m) h.4.0 (settles e m k 1 q) h.4.1

pub made_grant : (t e m : ℕ) (steps : Steps) (p : PortView) → Then (SweptFor t e m) (PromisedAt t e m) steps → (left : ℕ) × (after_steps steps p ≡ granted_to m e (stands_at t m left p))
made_grant t e m steps p h =
    let swept = made_then h.0 h.1 steps p (swept_by t m p) h.2 (made_sweep t e m h.1 p h.3) in
    let word = h.4.0 in let shown = h.4.1 in
    let place = shown.4.0 in let ends = shown.4.2 in
    let tried = made_tries e t m word place ends.1 p (omega (arith, shown.4.1)) ends.3 in (
      tried.left,
      swept ∙ made_shown t m word shown.0 shown.1 h.0 p shown.2 shown.3
          ∙ made_then ends.0 ends.1 shown.0 (stands_at t m (byte_of t word) p) (stands_at t m tried.left p) ends.2 tried.is
          ∙ made_promise t e m (8 * t + place) tried.left ends.0 p ends.4,
    )

-- looks for an owed credit, none of which showed one, and up to one that did
made_vain_look : (t m : ℕ) (steps : Steps) (p : PortView) → Looked (Look t m) (λ word. byte_of t word ≡ 0) steps → after_steps steps (swept_by t m p) ≡ swept_by t (suc m) p
made_vain_look t m steps p h = made_one steps (Look t m) h.0 (swept_by t m p) h.1 ∙ made_look t m h.0 p ∙ ap (λ n. stands_at t m n p) h.2

pub made_vain : (t n : ℕ) (steps : Steps) (p : PortView) → LookedInVain t n steps → after_steps steps p ≡ swept_by t n p
made_vain t zero steps p none = ap (λ z. after_steps z p) none
made_vain t (suc n) steps p h = made_then h.0 h.1 steps p (swept_by t n p) h.2 (made_vain t n h.1 p h.3) ∙ made_vain_look t n h.0 p h.4

pub made_until : (t m : ℕ) (steps : Steps) (p : PortView) → Then (LookedInVain t m) (Looked (Look t m) (λ word. 0 < byte_of t word)) steps → (left : ℕ) × (0 < left) × (after_steps steps p ≡ stands_at t m left p)
made_until t m steps p h = (
  byte_of t h.4.0,
  h.4.2,
  made_then h.0 h.1 steps p (swept_by t m p) h.2 (made_vain t m h.1 p h.3) ∙ made_one h.0 (Look t m) h.4.0 (swept_by t m p) h.4.1 ∙ made_look t m h.4.0 p,
)

-- a scan: a claim that found its bit set, after n such
made_taken : (t n : ℕ) (p : PortView) → claims t (low p.shape t + suc n) 1 (port_after_scan t (suc n) p) ≡ port_after_scan t (suc (suc n)) p
made_taken t n p =
    let q : PortView = port_after_scan t (suc n) p in let e : ℕ = low p.shape t + suc n in
    let F : Bool → PortView = λ (b : Bool). record q { found = with_bit (cond b 0 q.found) e; scans = cond b (q.scans + 1) q.scans; scan_kind = cond b t q.scan_kind } in
    ap F (ne_eqb e (low p.shape t) (λ z. omega arith))

made_first : (t e old : ℕ) (p : PortView) → e ≡ low p.shape t → claims t e old p ≡ record p {
  hand = cond (eqb old 0) (with_bit p.hand e) p.hand;
  found = cond (eqb old 0) 0 (with_bit 0 e);
  scans = p.scans + 1;
  scan_kind = t;
}
made_first t e old p is =
    let F : Bool → PortView = λ (b : Bool). record p {
      hand = cond (eqb old 0) (with_bit p.hand e) p.hand;
      found = cond (eqb old 0) (cond b 0 p.found) (with_bit (cond b 0 p.found) e);
      scans = cond b (p.scans + 1) p.scans;
      scan_kind = cond b t p.scan_kind;
    } in
    ap F (eq-eqb e (low p.shape t) is)

pub made_scan : (t n : ℕ) (steps : Steps) (p : PortView) → FoundTaken t (low p.shape t) (suc n) steps → after_steps steps p ≡ port_after_scan t (suc n) p
made_scan t zero steps p h =
    let e : ℕ = low p.shape t + 0 in
    made_then h.0 h.1 steps p p h.2 (ap (λ z. after_steps z p) h.3)
    ∙ made_one h.0 (Claim t e) h.4.0 p h.4.1 ∙ ap (λ b. claims t e b p) h.4.2 ∙ made_first t e 1 p (omega arith)
made_scan t (suc n) steps p h =
    let e : ℕ = low p.shape t + suc n in let q : PortView = port_after_scan t (suc n) p in
    made_then h.0 h.1 steps p q h.2 (made_scan t n h.1 p h.3)
    ∙ made_one h.0 (Claim t e) h.4.0 q h.4.1 ∙ ap (λ b. claims t e b q) h.4.2 ∙ made_taken t n p

-- and one that found an entry free, after n that were taken
made_free_at : (t n e : ℕ) (steps : Steps) (p : PortView) → e ≡ low p.shape t + n → Then (FoundTaken t (low p.shape t) n) (Found (Claim t e) (e % 64) 0) steps → after_steps steps p ≡ into_hand e (port_after_scan t n p)
made_free_at t zero e steps p at h =
    made_then h.0 h.1 steps p p h.2 (ap (λ z. after_steps z p) h.3)
    ∙ made_one h.0 (Claim t e) h.4.0 p h.4.1 ∙ ap (λ b. claims t e b p) h.4.2 ∙ made_first t e 0 p (omega (arith, at))
made_free_at t (suc n) e steps p at h =
    let q : PortView = port_after_scan t (suc n) p in
    let F : Bool → PortView = λ (b : Bool). record q { hand = with_bit q.hand e; found = cond b 0 q.found; scans = cond b (q.scans + 1) q.scans; scan_kind = cond b t q.scan_kind } in
    made_then h.0 h.1 steps p q h.2 (made_scan t n h.1 p h.3)
    ∙ made_one h.0 (Claim t e) h.4.0 q h.4.1 ∙ ap (λ b. claims t e b q) h.4.2 ∙ ap F (ne_eqb e (low p.shape t) (λ z. omega (arith, at, z)))

pub made_free : (t e : ℕ) (steps : Steps) (p : PortView) → low p.shape t ≤ e → FoundFree t (low p.shape t) e steps → after_steps steps p ≡ into_hand e (port_after_scan t (e - low p.shape t) p)
made_free t e steps p le h = made_free_at t (e - low p.shape t) e steps p (omega (arith, le)) h

-- what each call's steps make
pub claim_made : (p : PortView) (t : ℕ) (result : Option Entry) (steps : Steps) → ClaimActs p t result steps → Claims t result p (after_steps steps p)
claim_made p t (Some e) steps h = (h.0, h.1, made_free t e.0 steps p h.0.0 h.2)
claim_made p t None steps h =
    let is : after_steps steps p ≡ port_after_scan t (size p.shape t) p = all (size p.shape t) h.0 h.1 in
    (is, λ e of. ap (λ z. bit_at z.found e) is ∙ first_found p.shape t (size p.shape t) e of.0 of.1)
  where
    all : (n : ℕ) → 0 < n → FoundTaken t (low p.shape t) n steps → after_steps steps p ≡ port_after_scan t n p
    all zero some h = absurd (omega (arith, some))
    all (suc n) some h = made_scan t n steps p h

pub see_made : (p : PortView) (words : List ℕ) (steps : Steps) → SeeActs words steps → after_steps steps p ≡ saw_all (after_steps steps p).seen p
see_made p words steps is = subst (λ (z : Steps). after_steps z p ≡ saw_all (after_steps z p).seen p) (sym is) refl

swept-all : (t n : ℕ) (p : PortView) → 0 < n → n ≡ p.shape.agents → swept_by t n p ≡ swept_all t p
swept-all t zero p some is = absurd (omega (arith, some))
swept-all t (suc m) p some is = ap (λ i. stands_at t i 0 p) (let q : m ≡ p.shape.agents - 1 = omega (arith, is) in q)

ends_made : (p : PortView) (t e : ℕ) (to : Released) (steps : Steps) → 0 < p.shape.agents → EndActs p.shape.agents t e to steps → LeavesHand p t e to (after_steps steps p)
ends_made p t e (Granted m) steps some h = let grant = made_grant t e m.0 steps p h.1 in (h.0, (grant.0, grant.1))
ends_made p t e Freed steps some h =
    let n : ℕ = p.shape.agents in
    made_then h.0 h.1 steps p (swept_by t n p) h.2 (made_sweep t e n h.1 p h.3) ∙ made_one h.0 (Free e) h.4.0 (swept_by t n p) h.4.1 ∙ ap (frees e) (swept-all t n p some refl)

pub release_made : (p : PortView) (e : ℕ) (to : Released) (steps : Steps) → 0 < p.shape.agents → ReleaseActs p e to steps → LeavesHandAsItsType p e to (after_steps steps p)
release_made p e to steps some h = (h.0, h.1, h.2, ends_made p h.0 e to steps some h.3)

pub return_made : (p : PortView) (t : ℕ) (to : Released) (steps : Steps) → 0 < p.shape.agents → ReturnActs p t to steps → HasReturned t p to (after_steps steps p)
return_made p t to steps some h =
    let e = h.0 in let d = h.3 in let x : PortView = returns_credit t e p in
    let is : after_steps steps p ≡ after_steps d.0 x = made_then d.0 d.1 steps p x d.2 (made_one d.1 (Return t e) d.3.0 p d.3.1) in
    (e, h.1, h.2, subst (LeavesHand x t e to) (sym is) (ends_made x t e to d.0 some d.4))

pub tend_made : (p : PortView) (t : ℕ) (to : Option Released) (steps : Steps) → 0 < p.shape.agents → TendActs p t to steps → Tended p t to (after_steps steps p)
tend_made p t (Some to) steps some h =
    let e : ℕ = h.0.0 in let d = h.1 in let f = d.4 in let u = d.3 in let claimed = f.3 in
    let until = made_until t u.0 d.1 p u.2 in
    let x : PortView = stands_at t u.0 until.0 p in
    let y : PortView = into_hand e (port_after_scan t (e - low p.shape t) x) in
    let is : after_steps steps p ≡ after_steps f.0 y = made_then d.0 d.1 steps p x d.2 until.2 ∙ made_then f.0 f.1 d.0 x y f.2 (made_free t e f.1 x claimed.0.0 claimed.2) in
    (x, record { at = u.0; left = until.0; near = u.1; shown = until.1; is = refl }, (e, claimed.0, claimed.1, subst (LeavesHand y t e to) (sym is) (ends_made y t e to f.0 some f.4)))
tend_made p t None steps some (inl vain) = inl (made_vain t p.shape.agents steps p vain ∙ swept-all t p.shape.agents p some refl)
tend_made p t None steps some (inr d) =
    let u = d.3 in let until = made_until t u.0 d.1 p u.2 in let x : PortView = stands_at t u.0 until.0 p in
    inr (x, record { at = u.0; left = until.0; near = u.1; shown = until.1; is = refl }, made_then d.0 d.1 steps p x d.2 until.2 ∙ (claim_made x t None d.0 d.4).0)

-- the same of a port that acted
some_agents : (p q : Owner) {A : Steps → Type 0} → HasActed A p q → q.port.shape ≡ p.port.shape → 0 < p.port.shape.agents
some_agents p q h shape = subst (λ (s : Shape). 0 < s.agents) shape (omega (arith, h.running.who))

pub claim_acted : (p q : Owner) (t : ℕ) (result : Option Entry) → HasActed (ClaimActs p.port t result) p q → Claims t result p.port q.port
claim_acted p q t result h = subst (Claims t result p.port) (sym h.acts.3) (claim_made p.port t result h.acts.0 h.acts.2)

pub see_acted : (p q : Owner) (words : List ℕ) → HasActed (SeeActs words) p q → q.port ≡ saw_all q.port.seen p.port
see_acted p q words h = subst (λ (x : PortView). x ≡ saw_all x.seen p.port) (sym h.acts.3) (see_made p.port words h.acts.0 h.acts.2)

pub release_acted : (p q : Owner) (e : ℕ) (to : Released) → q.port.shape ≡ p.port.shape → HasActed (ReleaseActs p.port e to) p q → LeavesHandAsItsType p.port e to q.port
release_acted p q e to shape h = subst (LeavesHandAsItsType p.port e to) (sym h.acts.3) (release_made p.port e to h.acts.0 (some_agents p q h shape) h.acts.2)

pub return_acted : (p q : Owner) (t : ℕ) (to : Released) → q.port.shape ≡ p.port.shape → HasActed (ReturnActs p.port t to) p q → HasReturned t p.port to q.port
return_acted p q t to shape h = subst (HasReturned t p.port to) (sym h.acts.3) (return_made p.port t to h.acts.0 (some_agents p q h shape) h.acts.2)

pub tend_acted : (p q : Owner) (t : ℕ) (to : Option Released) → q.port.shape ≡ p.port.shape → HasActed (TendActs p.port t to) p q → Tended p.port t to q.port
tend_acted p q t to shape h = subst (Tended p.port t to) (sym h.acts.3) (tend_made p.port t to h.acts.0 (some_agents p q h shape) h.acts.2)
