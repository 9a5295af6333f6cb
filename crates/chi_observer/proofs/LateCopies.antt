-- The copies of caches whose flits are on their way go together.
use Rattle.std.proofs.Common.{rules, arith, ◌≡◌, ◌≢◌, inl, inr, ℕ, ◌<◌, [], ◌∷◌, refl, sym, subst, ap, ◌∙◌}
use Rattle.std.proofs.lemmas.Bool.{eqb-true}
use Rattle.std.specs.Prelude.{Bool, true, false, ◌&&◌, ◌||◌, ◌==◌, nat_lt, Option, Some, if◌then◌else◌}
use Rattle.chi_observer.specs.declared.kinds.Kind.{Kind}
use Rattle.chi_observer.specs.declared.told.Told.{Told}
use Rattle.chi_observer.specs.declared.told.Told.TheVariants as tolds
use Rattle.chi_observer.specs.declared.flits.Due.{Due}
use Rattle.chi_observer.specs.declared.flits.Due.TheVariants.{Nothing, Completion, Resending, SureCompletion, WriteData, Acknowledgement}
use Rattle.chi_observer.specs.declared.flits.Stores.TheVariants.{Hidden}
use Rattle.chi_observer.specs.declared.flits.Word.{Word}
use Rattle.chi_observer.specs.declared.flits.Act.{Act}
use Rattle.chi_observer.specs.declared.flits.Act.TheVariants.{Request, Resend, SnpResp, CompAck, CopyBackWrData, NonCopyBackWrData, Load, Store}
use Rattle.chi_observer.specs.declared.flits.HomeFlit.{HomeFlit}
use Rattle.chi_observer.specs.declared.flits.Flit.TheVariants.{Up, Down}
use Rattle.chi_observer.specs.Copies.{Copy, Held, compatible, is_unique, same}
use Rattle.chi_observer.specs.Copies.Copy.{Invalid, SharedClean, UniqueClean, UniqueEmpty, UniqueDirty, SharedDirty, Writing}
use Rattle.chi_observer.specs.Rules.{acts, allows, lets_go, needs_alone}
use Rattle.chi_observer.specs.Tables.{Known, fits_told, may_drift, strongest, told_behind, told_granted}
use Rattle.chi_observer.specs.Worlds.{home_may}
use Rattle.chi_observer.specs.Observed.{goes, is_beside, takes_home}
use Rattle.chi_observer.specs.Lines.{is_taken, watch}
use Rattle.chi_observer.specs.Arriving.{issued_before}
use Rattle.chi_observer.specs.Arrivals.{Arrived, by_bearing, given, granted_state, is_busy_at, is_doubtful, is_full, left_if, outcome, told_if}
use Rattle.chi_observer.specs.Arrivals.Outcome.{Taken, NotTaken, LeftOpen}
use Rattle.chi_observer.specs.Late.{Cache, CopiesGoTogether, Receives, Unseen, came, given_if, given_to, is_orderly, new_cache, sent}
use Rattle.chi_observer.specs.Late.Unseen.{Stay, Step}
use Rattle.chi_observer.proofs.Finite.{no, left, right, both, implies, follow, where_it, tried, all_bools, each_bool, all_copies, each_copy, all_kinds, each_kind, all_tolds, each_told}
use Rattle.chi_observer.proofs.Put.{here, there, unlike}
use Rattle.chi_observer.proofs.Spots.{Tried, acted_can, all_copy_pairs, all_paired, all_plain, each_copy_pair, each_sent, sent_spots}
use Rattle.chi_observer.proofs.Facts.{drifted, on_some, told_goes}
use Rattle.chi_observer.proofs.Copies.{each_below}
use Rattle.chi_observer.proofs.CrossingTables.{all_issues, each_issue, fine, pend}
use Rattle.chi_observer.proofs.LateTables.{is_sure_of}
use Rattle.chi_observer.proofs.Seats.{Beside, Place, Seat, Stands, behind, is_answer, is_ready, known_to, sure_told, told_seen}
use Rattle.chi_observer.proofs.Seats.Stands.{Rests, Acks, Repeats, Asks, Waits}
use Rattle.chi_observer.proofs.Seats.Place.{Here, Ahead}
use Rattle.chi_observer.proofs.LateFlits.{seat}
use Rattle.chi_observer.proofs.LateGrants.{On, bearing_told, on_if}
use Rattle.chi_observer.proofs.LateRuns.{down_beside, kept, within_given}

-- whatever goes with t goes with s
abbrev lies : Told → Told → Bool
lies s t = all_copies (λ x. implies (compatible (strongest t) x) (compatible (strongest s) x))

lies_so : (s t : Told) (x : Copy) → lies s t ≡ true → compatible (strongest t) x ≡ true → compatible (strongest s) x ≡ true
lies_so s t x h = follow (compatible (strongest t) x) (compatible (strongest s) x) (each_copy (λ x. implies (compatible (strongest t) x) (compatible (strongest s) x)) h x)

fine_table : Bool → Told → Told → Bool
fine_table u s t = where_it (implies u (same (strongest t) UniqueDirty) && fine u s t) (λ _. lies s t)

fine_holds : all_issues fine_table ≡ true
unfolding fine_table
fine_holds = refl

fine_lies : (u : Bool) (s t : Told) → (implies u (same (strongest t) UniqueDirty) && fine u s t) ≡ true → lies s t ≡ true
unfolding fine_table
fine_lies u s t = tried _ (λ _. lies s t) (each_issue fine_table fine_holds u s t)

pend_table : Kind → Bool → Told → Told → Bool
pend_table k b s t = where_it (pend k b s t) (λ _. lies s t)

pend_holds : all_kinds (λ k. all_issues (pend_table k)) ≡ true
unfolding pend_table
pend_holds = refl

pend_lies : (k : Kind) (b : Bool) (s t : Told) → pend k b s t ≡ true → lies s t ≡ true
unfolding pend_table
pend_lies k b s t = tried _ (λ _. lies s t) (each_issue (pend_table k) (each_kind (λ k. all_issues (pend_table k)) pend_holds k) b s t)

drift_table : Told → Copy → Copy → Bool
drift_table t s x = implies (may_drift Hidden t s) (implies (compatible (strongest t) x) (compatible s x))

drift_holds : all_tolds (λ t. all_copy_pairs (drift_table t)) ≡ true
unfolding drift_table
drift_holds = refl

drift_goes : (t : Told) (s x : Copy) → may_drift Hidden t s ≡ true → compatible (strongest t) x ≡ true → compatible s x ≡ true
unfolding drift_table
drift_goes t s x h = follow (compatible (strongest t) x) (compatible s x) (follow (may_drift Hidden t s) _ (each_copy_pair (drift_table t) (each_told (λ t. all_copy_pairs (drift_table t)) drift_holds t) s x) h)

-- A CACHE LIES BELOW WHAT IS TOLD
stands_lies : (p : Seat) (s : Told) (c : Cache) → Stands p s c → lies s p.told ≡ true
stands_lies p s c (Rests a) = fine_lies p.own.unsure s p.told (both _ _ (sure_told p.own.unsure p.told _ a.sure) a.told)
stands_lies p s c (Acks a) = fine_lies false s p.told a.told
stands_lies p s c (Repeats k a) = fine_lies false s p.told a.told
stands_lies p s c (Asks k h r a) = pend_lies k (issued_before p.own.earlier k) s p.told a.from
stands_lies p s c (Waits k h r a) = pend_lies k (issued_before p.own.earlier k) s p.told a.from

seen_table : Bool → Bool → Told → Bool
seen_table u b t = implies (implies u (same (strongest t) UniqueDirty)) (lies (told_if (u && b) t) t)

seen_holds : all_bools (λ u. all_bools (λ b. all_tolds (λ t. seen_table u b t))) ≡ true
unfolding seen_table
seen_holds = refl

seen_lies : (u b : Bool) (t : Told) → implies u (same (strongest t) UniqueDirty) ≡ true → lies (told_if (u && b) t) t ≡ true
unfolding seen_table
seen_lies u b t = follow (implies u (same (strongest t) UniqueDirty)) (lies (told_if (u && b) t) t) (each_told (λ t. seen_table u b t) (each_bool (λ b. all_tolds (λ t. seen_table u b t)) (each_bool (λ u. all_bools (λ b. all_tolds (λ t. seen_table u b t))) seen_holds u) b) t)

abbrev told_of : Copy → Told
told_of Invalid = tolds.I
told_of SharedClean = tolds.SC
told_of UniqueClean = tolds.UC
told_of UniqueEmpty = tolds.UCE
told_of UniqueDirty = tolds.UD
told_of SharedDirty = tolds.SD
told_of Writing = tolds.Writing

told_is : (x : Copy) → strongest (told_of x) ≡ x
told_is Invalid = refl
told_is SharedClean = refl
told_is UniqueClean = refl
told_is UniqueEmpty = refl
told_is UniqueDirty = refl
told_is SharedDirty = refl
told_is Writing = refl

behind_goes : (a : Act) (p : Seat) (x : Copy) → (is_ready a p && is_sure_of p.own.unsure p.told p.due) ≡ true → compatible (strongest p.told) x ≡ true → compatible (strongest (behind a p).told) x ≡ true
behind_goes a p x h e =
    let fits : fits_told Hidden a (lets_go p.snooped) p.due (known_to (told_seen a p)) ≡ true = right (allows a p.snooped) _ (right (is_answer a) _ (left (is_ready a p) _ h)) in
    let before : compatible (strongest (told_seen a p)) x ≡ true = lies_so (told_seen a p) p.told x (seen_lies p.own.unsure _ p.told (sure_told p.own.unsure p.told _ (right (is_ready a p) _ h))) e in
    subst (λ z. compatible (strongest (told_behind a p.due (told_seen a p))) z ≡ true) (told_is x)
    (told_goes Hidden a (lets_go p.snooped) p.due (known_to (told_seen a p)) (known_to (told_of x)) false fits (subst (λ z. compatible (strongest (told_seen a p)) z ≡ true) (sym (told_is x)) before))

place_goes : (p : Seat) (s : Told) (c : Cache) (x : Copy) → Place p s c → compatible (strongest p.told) x ≡ true → compatible (strongest s) x ≡ true
place_goes p s c x (Here n w q st) e = lies_so s p.told x (stands_lies p s c st) e
place_goes p s c x (Ahead a n r q st) e = lies_so s (behind a p).told x (stands_lies (behind a p) s c st) (behind_goes a p x r e)

beside_goes : (p : Seat) (c : Cache) (x : Copy) → Beside p c → compatible (strongest p.told) x ≡ true → compatible c.held.copy x ≡ true
beside_goes p c x b e = drift_goes b.known.told c.held.copy x (drifted Hidden c.due b.known c.held b.reached) (place_goes p b.known.told c x b.place e)

-- HIDDEN STEPS
back_table : Copy → Copy → Bool
back_table s x = implies (compatible s x) (compatible x s)

back_holds : all_copy_pairs back_table ≡ true
unfolding back_table
back_holds = refl

back : (s x : Copy) → compatible s x ≡ true → compatible x s ≡ true
unfolding back_table
back s x = follow (compatible s x) (compatible x s) (each_copy_pair back_table back_holds s x)

store_table : Copy → Copy → Bool
store_table s x = implies (is_unique s) (implies (compatible s x) (compatible UniqueDirty x))

store_holds : all_copy_pairs store_table ≡ true
unfolding store_table
store_holds = refl

store_goes : (s x : Copy) → is_unique s ≡ true → compatible s x ≡ true → compatible UniqueDirty x ≡ true
unfolding store_table
store_goes s x h = follow (compatible s x) (compatible UniqueDirty x) (follow (is_unique s) _ (each_copy_pair store_table store_holds s x) h)

act_table : Act → Bool → Due → Held → Bool
act_table a x d s = on_some (acts a x d s) (λ s'. all_copies (λ o. implies (compatible s.copy o) (compatible s'.copy o)))

act_holds_plain : (word : Word) (x : Bool) (d : Due) → all_plain (λ a y. sent_spots act_table a y d) word x ≡ true
unfolding act_table
act_holds_plain word x Nothing = refl
act_holds_plain word x (Completion k) = refl
act_holds_plain word x (Resending k) = refl
act_holds_plain word x (SureCompletion k) = refl
act_holds_plain word x (WriteData k) = refl
act_holds_plain word x Acknowledgement = refl

act_holds_paired : (x : Bool) → all_paired (λ a d. sent_spots act_table a x d) ≡ true
unfolding act_table
act_holds_paired x = refl

act_holds : Tried (sent_spots act_table)
act_holds = record { plain = act_holds_plain; paired = act_holds_paired }

of_some : (o : Option Held) (s' : Held) (f : Held → Bool) → on_some o f ≡ true → o ≡ Some s' → f s' ≡ true
of_some o s' f h e = subst (λ (x : Option Held). on_some x f ≡ true) e h

act_goes : (a : Act) (x : Bool) (d : Due) (s s' : Held) (o : Copy) → acts a x d s ≡ Some s' → compatible s.copy o ≡ true → compatible s'.copy o ≡ true
unfolding act_table
act_goes a x d s s' o e = follow (compatible s.copy o) (compatible s'.copy o) (each_copy (λ o. implies (compatible s.copy o) (compatible s'.copy o))
    (of_some (acts a x d s) s' (λ s'. all_copies (λ o. implies (compatible s.copy o) (compatible s'.copy o))) (each_sent act_table act_holds a x d (acted_can a x d s s' e) s) e) o)

held_left : (a : Act) (h : Held) (c : Cache) → (sent a h c).held ≡ h
held_left (Request kind) h c = refl
held_left (Resend kind) h c = refl
held_left CompAck h c = refl
held_left (SnpResp x) h c = refl
held_left (CopyBackWrData form) h c = refl
held_left NonCopyBackWrData h c = refl
held_left (Load word) h c = refl
held_left (Store word) h c = refl

unseen_goes : (c d : Cache) (x : Copy) → Unseen c d → compatible c.held.copy x ≡ true → compatible d.held.copy x ≡ true
unseen_goes c d x Stay h = h
unseen_goes c d x (Step {c = c'} {d = e} {e = d'} (inl s) u) h = unseen_goes e d' x u (subst (λ z. compatible z.held.copy x ≡ true) (sym s.2) (store_goes c'.held.copy x s.1 h))
unseen_goes c d x (Step {c = c'} {d = e} {e = d'} (inr (inl s)) u) h = unseen_goes e d' x u (subst (λ z. compatible z.held.copy x ≡ true) (sym s.2) refl)
unseen_goes c d x (Step {c = c'} {d = e} {e = d'} (inr (inr (inl s))) u) h = unseen_goes e d' x u (subst (λ z. compatible z.held.copy x ≡ true) (sym s.2) h)
unseen_goes c d x (Step {c = c'} {d = e} {e = d'} (inr (inr (inr s))) u) h = unseen_goes e d' x u
    (subst (λ z. compatible z.held.copy x ≡ true) (sym s.after) (subst (λ z. compatible z.copy x ≡ true) (sym (held_left s.act s.left c')) (act_goes s.act (lets_go c'.snooped) c'.due c'.held s.left x s.acted h)))

both_unseen : (c c' d d' : Cache) → Unseen c c' → Unseen d d' → compatible c.held.copy d.held.copy ≡ true → compatible c'.held.copy d'.held.copy ≡ true
both_unseen c c' d d' u v h = back d'.held.copy c'.held.copy (unseen_goes d d' c'.held.copy v (back c'.held.copy d.held.copy (unseen_goes c c' d.held.copy u h)))

-- WHOLE LOGS
came_held : (a : Act) (c : Cache) → (came a c).held ≡ c.held
came_held (Request kind) c = refl
came_held (Resend kind) c = refl
came_held CompAck c = refl
came_held (SnpResp x) c = refl
came_held (CopyBackWrData form) c = refl
came_held NonCopyBackWrData c = refl
came_held (Load word) c = refl
came_held (Store word) c = refl

received_held : (b : Bool) (a : Act) (c d : Cache) → Receives b a c d → d.held ≡ c.held
received_held true a c d h = ap (λ (z : Cache). z.held) h.1 ∙ came_held a c
received_held false a c d h = ap (λ (z : Cache). z.held) h

-- what the home's flit makes of its agent goes with what the others were told
one_of : (a b : Bool) → (a || b) ≡ true → a ≡ false → b ≡ true
one_of true b h e = no (sym e)
one_of false b h e = h

abbrev Told_together : ℕ → Arrived → Type 0
Told_together n s = (m : ℕ) → m ≢ n → m < 32 → compatible (strongest (seat s n).told) (strongest (seat s m).told) ≡ true

granted_together : (s : Arrived) (g : HomeFlit) → is_taken s.line (Down g) ≡ true → Told_together g.agent.0 (granted_state s (watch s.line (Down g)) g)
granted_together s g ht m h low =
    let n = g.agent.0 in
    let o = s.line.seen in
    let k : Known = told_granted g.grant (o.public.due n) (o.told n) in
    let takes : takes_home o g ≡ true = right _ _ (right (nat_lt n 32) _ (right _ _ ht)) in
    let alone : Bool = needs_alone g.grant (o.public.due n) in
    let beside : is_beside k alone (o.told m) ≡ true = one_of (m == n) _ (each_below 32 (λ m. m == n || is_beside k alone (o.told m)) (right _ (goes o g) (right _ _ (right (home_may o.public g) _ takes))) m low) (unlike m n h) in
    let now : compatible (strongest k.told) (strongest (o.told m).told) ≡ true = left _ _ beside in
    subst (λ z. compatible (strongest z.told) (strongest ((watch s.line (Down g)).seen.told m).told) ≡ true) (sym (here n k o.told))
    (subst (λ z. compatible (strongest k.told) (strongest z.told) ≡ true) (sym (there n k o.told m h)) now)

together_on : (s : Arrived) (g : HomeFlit) → is_orderly s (Down g) ≡ true → On (Told_together g.agent.0) (given s g)
together_on s g ord =
    let n = g.agent.0 in
    let P : Arrived → Type 0 = Told_together n in
    let state = granted_state s (watch s.line (Down g)) g in
    let taken = is_taken s.line (Down g) in
    let doubt = left_if (is_doubtful s g) in
    subst (λ x. On P (by_bearing x s g)) (sym (bearing_told (s.own n).held (s.line.seen.public.snooped n) g.grant (s.own n).unsure ord))
    (on_if P (is_full (s.own n).acks) LeftOpen (if is_busy_at s g then NotTaken else (if taken then Taken state else doubt)) (λ _. tt)
    (λ _. on_if P (is_busy_at s g) NotTaken (if taken then Taken state else doubt) (λ _. tt)
    (λ hb. on_if P taken (Taken state) doubt (λ ht. granted_together s g ht) (λ _. on_if P (is_doubtful s g) LeftOpen NotTaken (λ _. tt) (λ _. tt)))))

two_go : (s : Arrived) (n m : ℕ) (c d : Cache) → compatible (strongest (seat s n).told) (strongest (seat s m).told) ≡ true → Beside (seat s n) c → Beside (seat s m) d → compatible c.held.copy d.held.copy ≡ true
two_go s n m c d h a b =
    let t = strongest (seat s n).told in
    let u = strongest (seat s m).told in
    back d.held.copy c.held.copy (beside_goes (seat s m) d c.held.copy b (back c.held.copy u (beside_goes (seat s n) c u a h)))

apart : (m n : ℕ) → (m == n) ≡ false → n ≢ m
apart m n h e = search (rules, arith)

given_goes : (s s' : Arrived) (g : HomeFlit) (n m : ℕ) (c d : Cache) (a b : Bool) → (g.agent.0 == n) ≡ a → (g.agent.0 == m) ≡ b → n < 32 → m < 32 → n ≢ m → is_orderly s (Down g) ≡ true → outcome s (Down g) ≡ Taken s'
    → Beside (seat s n) c → Beside (seat s m) d → compatible c.held.copy d.held.copy ≡ true → compatible (given_if a g.grant c).held.copy (given_if b g.grant d).held.copy ≡ true
given_goes s s' g n m c d true true ha hb ln lm h ord e x y go = absurd (h (sym (eqb-true g.agent.0 n ha) ∙ eqb-true g.agent.0 m hb))
given_goes s s' g n m c d false false ha hb ln lm h ord e x y go = go
given_goes s s' g n m c d true false ha hb ln lm h ord e x y go =
    let same = eqb-true g.agent.0 n ha in
    let told : Told_together n s' = subst (λ k. Told_together k s') same (within_given s s' g (Told_together g.agent.0) (together_on s g ord) e) in
    two_go s' n m (given_to g.grant c) d (told m (λ z. h (sym z)) lm) (down_beside s s' g n c (given_to g.grant c) true ha ln ord e x Stay) (down_beside s s' g m d d false hb lm ord e y Stay)
given_goes s s' g n m c d false true ha hb ln lm h ord e x y go =
    let same = eqb-true g.agent.0 m hb in
    let told : Told_together m s' = subst (λ k. Told_together k s') same (within_given s s' g (Told_together g.agent.0) (together_on s g ord) e) in
    back (given_to g.grant d).held.copy c.held.copy
    (two_go s' m n (given_to g.grant d) c (told n h ln) (down_beside s s' g m d (given_to g.grant d) true hb lm ord e y Stay) (down_beside s s' g n c c false ha ln ord e x Stay))

pub together : CopiesGoTogether
together [] s n m c d h ln lm e u v = both_unseen new_cache c new_cache d u v refl
together (Up f ∷ es) s n m c d (before, come, ord, he) ln lm e h k =
    let was = together es before n m h.0 k.0 come ln lm e h.2 k.2 in
    both_unseen h.1 c k.1 d h.4 k.4 (subst (λ z. compatible z.copy k.1.held.copy ≡ true) (sym (received_held (f.agent.0 == n) f.act h.0 h.1 h.3))
    (subst (λ z. compatible h.0.held.copy z.copy ≡ true) (sym (received_held (f.agent.0 == m) f.act k.0 k.1 k.3)) was))
together (Down g ∷ es) s n m c d (before, come, ord, he) ln lm e h k =
    let was = together es before n m h.0 k.0 come ln lm e h.1 k.1 in
    let b = kept es before come in
    both_unseen (given_if (g.agent.0 == n) g.grant h.0) c (given_if (g.agent.0 == m) g.grant k.0) d h.2 k.2
    (given_goes before s g n m h.0 k.0 (g.agent.0 == n) (g.agent.0 == m) refl refl ln lm e ord he (b.beside n ln h.0 h.1) (b.beside m lm k.0 k.1) was)
