-- Whole traces.
use Rattle.std.proofs.Common.{rules, arith, ◌≡◌, inl, inr, ℕ, [], ◌∷◌, refl, sym, ap, subst, ◌∙◌}
use Rattle.std.specs.Prelude.{Bool, true, false, ◌&&◌, ◌||◌, not, Some, None, List, ◌⊎◌, if◌then◌else◌}
use Rattle.chi_observer.specs.declared.flits.Due.TheVariants.{Nothing}
use Rattle.chi_observer.specs.declared.flits.Stores.{Stores}
use Rattle.chi_observer.specs.declared.flits.Flit.{Flit}
use Rattle.chi_observer.specs.declared.flits.Flit.TheVariants.{Up, Down}
use Rattle.chi_observer.specs.declared.flits.HomeFlit.{HomeFlit}
use Rattle.chi_observer.specs.Copies.{holds_data}
use Rattle.chi_observer.specs.Copies.Copy.{Invalid}
use Rattle.chi_observer.specs.Rules.{needs_moment, awaits_moment, reads_once}
use Rattle.chi_copies.specs.Copies.{Held, plain, same_held, is_fresh, beside}
use Rattle.chi_copies.specs.Rules.{slips}
use Rattle.chi_copies.specs.Worlds.{World, Sends, Gives, Drift, IsSafe, public_after, public_granted}
use Rattle.chi_copies.specs.Worlds.Drift.{Stay, Step}
use Rattle.chi_copies.specs.Observed.{Observed, Sound, Closed, Meaning, is_shown_dirty, moved, given, next, next_home}
use Rattle.chi_copies.specs.Moments.{behind, is_issue, is_moment, has_moment, home_is_last, none_dirty}
use Rattle.chi_copies.specs.Runs.{public_of, Behind, IsMoment, HasMoment, HasNeeded, Accepted, nothing_told, seen, shown_by, LegalIsAccepted, AcceptedIsLegal, AcceptedIsExact, AcceptedIsCoherent}
use Rattle.chi_copies.proofs.Finite.{no, left, right, both, either, or_left, or_right, turned, flip}
use Rattle.chi_copies.proofs.Rows.{same_held_is, is_same}
use Rattle.chi_copies.proofs.Means.{coherent}
use Rattle.chi_copies.proofs.Closing.{closed}
use Rattle.chi_copies.proofs.Loose.{loosened, slipped, Slipped}
use Rattle.chi_copies.proofs.Loose.Slipped.{Still, Freed, Store, Drop}
use Rattle.chi_copies.proofs.Rewind.{rewinds}
use Rattle.chi_copies.proofs.Moved.{kept}
use Rattle.chi_copies.proofs.Leads.{taken, leads, none_some_nat}
use Rattle.chi_copies.proofs.Comes.{comes}
use Rattle.chi_copies.proofs.Given.{home_leads, home_safe}
use Rattle.chi_copies.proofs.Kept.{home_kept}
use Rattle.chi_copies.proofs.Safe.{home_possible, safe_taken}
use Rattle.chi_copies.proofs.Origin.{home_comes}
use Rattle.chi_copies.proofs.Top.{inhabited}
use Rattle.chi_copies.proofs.Moments.{is_last, last_is, is_cleaned, cleaned_is}

drifts : (o : Observed) (w w' : World) → Sound o → Closed o → Drift o.public w w' → Meaning o w → Meaning o w'
drifts o w w' sound shut Stay m = m
drifts o w w' sound shut (Step {u = u} {v = v} {w = w''} h d) m = drifts o v w'' sound shut d (closed o u v sound shut m h)

-- AT FIRST
starts : (h : Held) → same_held (plain Invalid) h ≡ true → h ≡ plain Invalid
starts h e = sym (same_held_is (plain Invalid) h e)

none_list : (v : List ℕ) → None ≡ Some v → ⊥
none_list v e = search (rules, arith)

start_slips : (z : Stores) (k : Held) → Slipped z Nothing (plain Invalid) k → same_held (plain Invalid) k ≡ true
start_slips z k (Still e) = is_same (plain Invalid) k e
start_slips z k (Freed f e) = is_same (plain Invalid) k e
start_slips z k (Store f a u e) = no u
start_slips z k (Drop f c e) = no c

start_sound : (z : Stores) → Sound (nothing_told z)
start_sound z = record {
  some = λ _ _. refl;
  pairs = λ i j li lj d h k e g. subst (λ h. beside h k ≡ true) (sym (starts h e)) (subst (λ k. beside (plain Invalid) k ≡ true) (sym (starts k g)) refl);
  storable = λ n l h e s. no (ap (λ (h : Held). h.stored) (sym (starts h e)) ∙ s);
  known = λ n l h e s. no (ap (λ (h : Held). is_fresh h) (sym (starts h e)) ∙ s);
  even = λ n l h k e g s. no (ap (λ (h : Held). is_shown_dirty h) (sym (starts h e)) ∙ s);
  seen = λ n l r h e c. no r;
  waits = λ n l r h e. ap (λ (h : Held). h.cancelled) (starts h e);
  alike = λ y n l h k e g a b. no (ap (λ (h : Held). holds_data h.copy) (sym (starts h e)) ∙ a);
}

start_closed : (z : Stores) → Closed (nothing_told z)
start_closed z n l h k e s = start_slips z k (slipped z Nothing (plain Invalid) k (subst (λ h. slips z Nothing h k ≡ true) (starts h e) s))

-- WHOLE TRACES
pub exact : AcceptedIsExact
exact z [] a = record {
  sound = start_sound z;
  closed = start_closed z;
  public = refl;
  meant = λ w h. record {
    copies = λ n l. is_same (plain Invalid) (w.state n) (sym (h.0 n l));
    words = λ n l e. no (ap (λ (h : Held). holds_data h.copy) (sym (h.0 n l)) ∙ e);
    home = λ v e. absurd (none_list v e);
    current = λ _. h.1;
    news = λ n l e p lp v q. absurd (none_some_nat v q);
  };
  after = λ w m. (λ n l. starts (w.state n) (m.copies n l), m.current (λ n l. ap (λ (h : Held). h.stored) (starts (w.state n) (m.copies n l))));
}
exact z (Up f ∷ es) a =
    let e = exact z es a.0 in
    let same_public : (next (seen z es) f).public ≡ public_of z (Up f ∷ es) = ap (public_after f) e.public in
    let kept = kept (seen z es) f e.sound e.closed a.1 a.2 in
    record {
      sound = kept.1;
      closed = kept.2;
      public = same_public;
      meant = λ w h. drifts (next (seen z es) f) h.1 w kept.1 kept.2 (subst (λ p. Drift p h.1 w) (sym same_public) h.4)
          (loosened f.agent.0 (moved (seen z es) f) h.1 (leads (seen z es) f h.0 h.1 e.sound a.1 (e.meant h.0 h.2) (subst (λ p. Sends p f h.0 h.1) (sym e.public) h.3)));
      after = λ w m. let r = rewinds f.agent.0 (moved (seen z es) f) w kept.0 a.1 m in let c = comes (seen z es) f r.before e.sound a.1 a.2 r.meant in
          (c.before, r.before, e.after c.before c.meant, subst (λ p. Sends p f c.before r.before) e.public c.sends, subst (λ p. Drift p r.before w) same_public r.drifts);
    }
exact z (Down g ∷ es) a =
    let e = exact z es a.0 in
    let same_public : (next_home (seen z es) g).public ≡ public_of z (Down g ∷ es) = ap (public_granted g) e.public in
    let kept = home_kept (seen z es) g e.sound e.closed a.1 a.2 in
    record {
      sound = kept.1;
      closed = kept.2;
      public = same_public;
      meant = λ w h. drifts (next_home (seen z es) g) h.1 w kept.1 kept.2 (subst (λ p. Drift p h.1 w) (sym same_public) h.5)
          (loosened g.agent.0 (given (seen z es) g) h.1 (home_leads (seen z es) g h.0 h.1 e.sound a.1 a.2 (e.meant h.0 h.2) h.3 (subst (λ p. Gives p g h.0 h.1) (sym e.public) h.4)));
      after = λ w m. let r = rewinds g.agent.0 (given (seen z es) g) w kept.0 a.1 m in let c = home_comes (seen z es) g r.before e.sound a.1 a.2 r.meant in
          (c.before, r.before, e.after c.before c.meant, c.informed, subst (λ p. Gives p g c.before r.before) e.public c.gives, subst (λ p. Drift p r.before w) same_public r.drifts);
    }

pub coherent_after : AcceptedIsCoherent
coherent_after z es a w h = let e = exact z es a in coherent (seen z es) w e.sound (e.meant w h)

-- RIGHT BEHIND A FLIT
behind_sound : (z : Stores) (e : Flit) (es : List Flit) → Accepted z (e ∷ es) → Sound (behind (seen z es) e)
behind_sound z (Up f) es a = let e = exact z es a.0 in (kept (seen z es) f e.sound e.closed a.1 a.2).0
behind_sound z (Down g) es a = let e = exact z es a.0 in (home_kept (seen z es) g e.sound e.closed a.1 a.2).0

behind_meant : (z : Stores) (e : Flit) (es : List Flit) → Accepted z (e ∷ es) → (w : World) → Behind z (e ∷ es) w → Meaning (behind (seen z es) e) w
behind_meant z (Up f) es a w h = let e = exact z es a.0 in leads (seen z es) f h.0 w e.sound a.1 (e.meant h.0 h.1) (subst (λ p. Sends p f h.0 w) (sym e.public) h.2)
behind_meant z (Down g) es a w h = let e = exact z es a.0 in home_leads (seen z es) g h.0 w e.sound a.1 a.2 (e.meant h.0 h.1) h.2 (subst (λ p. Gives p g h.0 w) (sym e.public) h.3)

behind_after : (z : Stores) (e : Flit) (es : List Flit) → Accepted z (e ∷ es) → (w : World) → Meaning (behind (seen z es) e) w → Behind z (e ∷ es) w
behind_after z (Up f) es a w m = let e = exact z es a.0 in let c = comes (seen z es) f w e.sound a.1 a.2 m in (c.before, e.after c.before c.meant, subst (λ p. Sends p f c.before w) e.public c.sends)
behind_after z (Down g) es a w m = let e = exact z es a.0 in let c = home_comes (seen z es) g w e.sound a.1 a.2 m in (c.before, e.after c.before c.meant, c.informed, subst (λ p. Gives p g c.before w) e.public c.gives)

behind_public : (z : Stores) (e : Flit) (es : List Flit) → Accepted z (e ∷ es) → (behind (seen z es) e).public ≡ public_of z (e ∷ es)
behind_public z (Up f) es a = ap (public_after f) (exact z es a.0).public
behind_public z (Down g) es a = ap (public_granted g) (exact z es a.0).public

accepted_before : (z : Stores) (e : Flit) (es : List Flit) → Accepted z (e ∷ es) → Accepted z es
accepted_before z (Up f) es a = a.0
accepted_before z (Down g) es a = a.0

-- MOMENTS
moment_is : (z : Stores) (e : Flit) (es : List Flit) → Accepted z (e ∷ es) → (b : Bool) (n : ℕ) → (if b then home_is_last (behind (seen z es) e) else none_dirty (behind (seen z es) e) n) ≡ true → IsMoment z b (e ∷ es) n
moment_is z e es a true n h = λ w at. is_last (behind (seen z es) e) (behind_sound z e es a) h w (behind_meant z e es a w at)
moment_is z e es a false n h = λ w at. is_cleaned (behind (seen z es) e) (behind_sound z e es a) n h w (behind_meant z e es a w at)

is_moment_of : (z : Stores) (e : Flit) (es : List Flit) → Accepted z (e ∷ es) → (b : Bool) (n : ℕ) → IsMoment z b (e ∷ es) n → (if b then home_is_last (behind (seen z es) e) else none_dirty (behind (seen z es) e) n) ≡ true
is_moment_of z e es a true n h = last_is (behind (seen z es) e) (behind_sound z e es a) (λ w m. h w (behind_after z e es a w m))
is_moment_of z e es a false n h = cleaned_is (behind (seen z es) e) (behind_sound z e es a) n (λ w m. h w (behind_after z e es a w m))

shown_is : (z : Stores) (es : List Flit) → Accepted z es → (n : ℕ) → shown_by z es n ≡ true → HasMoment z es n
shown_is z [] a n h = absurd (no h)
shown_is z (e ∷ es) a n h =
    let p = behind_public z e es a in (
      subst (λ p. awaits_moment (p.due n) ≡ true) p (left _ _ h),
      either (not (is_issue e n) && shown_by z es n) _ (right (awaits_moment ((behind (seen z es) e).public.due n)) _ h)
          (λ g. inl (turned _ (left _ _ g), shown_is z es (accepted_before z e es a) n (right (not (is_issue e n)) _ g)))
          (λ g. inr (subst (λ p. IsMoment z (reads_once (p.due n)) (e ∷ es) n) p (moment_is z e es a (reads_once ((behind (seen z es) e).public.due n)) n g))),
    )

is_shown : (z : Stores) (es : List Flit) → Accepted z es → (n : ℕ) → HasMoment z es n → shown_by z es n ≡ true
is_shown z [] a n h = absurd h
is_shown z (e ∷ es) a n h =
    let p = behind_public z e es a in
    both (awaits_moment ((behind (seen z es) e).public.due n)) _ (subst (λ p. awaits_moment (p.due n) ≡ true) (sym p) h.0) (by (λ g. is_shown z es (accepted_before z e es a) n g) h.1)
  where
    by : (HasMoment z es n → shown_by z es n ≡ true) → ((is_issue e n ≡ false) × HasMoment z es n) ⊎ IsMoment z (reads_once ((public_of z (e ∷ es)).due n)) (e ∷ es) n → ((not (is_issue e n) && shown_by z es n) || is_moment (behind (seen z es) e) n) ≡ true
    by rest (inl g) = or_left (not (is_issue e n) && shown_by z es n) _ (both (not (is_issue e n)) _ (flip _ g.0) (rest g.1))
    by rest (inr g) = or_right (not (is_issue e n) && shown_by z es n) _ (is_moment_of z e es a (reads_once ((behind (seen z es) e).public.due n)) n
        (subst (λ p. IsMoment z (reads_once (p.due n)) (e ∷ es) n) (sym (behind_public z e es a)) g))

-- LEGAL AND ACCEPTED
moment_needed : (z : Stores) (es : List Flit) (g : HomeFlit) → Accepted z es → has_moment (seen z es) (shown_by z es) g ≡ true → HasNeeded z es g
moment_needed z es g a h n = shown_is z es a g.agent.0 (by (needs_moment g.grant ((seen z es).public.due g.agent.0)) h (subst (λ p. needs_moment g.grant (p.due g.agent.0) ≡ true) (sym (exact z es a).public) n))
  where
    by : (b : Bool) → (not b || shown_by z es g.agent.0) ≡ true → b ≡ true → shown_by z es g.agent.0 ≡ true
    by true h e = h
    by false h e = no e

needed_moment : (z : Stores) (es : List Flit) (g : HomeFlit) → Accepted z es → HasNeeded z es g → has_moment (seen z es) (shown_by z es) g ≡ true
needed_moment z es g a h = by (needs_moment g.grant ((seen z es).public.due g.agent.0)) (λ n. is_shown z es a g.agent.0 (h (subst (λ p. needs_moment g.grant (p.due g.agent.0) ≡ true) (exact z es a).public n)))
  where
    by : (b : Bool) → (b ≡ true → shown_by z es g.agent.0 ≡ true) → (not b || shown_by z es g.agent.0) ≡ true
    by true h = h refl
    by false h = refl

pub accepted : LegalIsAccepted
accepted z [] l = l
accepted z (Up f ∷ es) l =
    let a = accepted z es l.0 in let e = exact z es a in let h = l.2 in
    (a, l.1, taken (seen z es) f h.0 h.1 e.sound l.1 (e.meant h.0 h.2) (subst (λ p. Sends p f h.0 h.1) (sym e.public) h.3))
accepted z (Down g ∷ es) l =
    let a = accepted z es l.0 in let e = exact z es a in let i = l.2 in
    (a, l.1, safe_taken (seen z es) g e.sound l.1 (record { world = i.0; meant = e.meant i.0 i.1; informed = i.2 }) (λ w m i. subst (λ p. IsSafe p g w) (sym e.public) (l.3 w (e.after w m) i)), needed_moment z es g a l.4)

pub legal : AcceptedIsLegal
legal z [] a = a
legal z (Up f ∷ es) a =
    let e = exact z es a.0 in let k = kept (seen z es) f e.sound e.closed a.1 a.2 in let w = inhabited (moved (seen z es) f) k.0 in let c = comes (seen z es) f w.0 e.sound a.1 a.2 w.1 in
    (legal z es a.0, a.1, (c.before, w.0, e.after c.before c.meant, subst (λ p. Sends p f c.before w.0) e.public c.sends))
legal z (Down g ∷ es) a =
    let e = exact z es a.0 in let i = home_possible (seen z es) g e.sound a.1 a.2 in
    (legal z es a.0, a.1, (i.world, e.after i.world i.meant, i.informed), (λ w h i. subst (λ p. IsSafe p g w) e.public (home_safe (seen z es) g w e.sound a.1 a.2 (e.meant w h) i)), moment_needed z es g a.0 a.3)
