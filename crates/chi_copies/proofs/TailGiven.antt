-- A flit of the home in a trace that begins in the middle.
use Rattle.std.proofs.Common.{◌≡◌, ◌≢◌, ℕ, ◌<◌, refl, sym, ap, subst, ◌∙◌}
use Rattle.std.specs.Prelude.{Bool, true, false, ◌&&◌, ◌||◌, ◌==◌, not, Option, Some, None, List, if◌then◌else◌}
use Rattle.std.proofs.lemmas.Bool.{eqb-true}
use Rattle.chi_observer.specs.declared.kinds.Snoop.{Snoop}
use Rattle.chi_observer.specs.declared.kinds.Snoop.TheVariants.{SnpOnce}
use Rattle.chi_observer.specs.declared.kinds.Kind.{Kind}
use Rattle.chi_observer.specs.declared.flits.Due.{Due}
use Rattle.chi_observer.specs.declared.flits.Due.TheVariants.{Nothing, Completion, Resending, SureCompletion, WriteData, Acknowledgement}
use Rattle.chi_observer.specs.declared.flits.Stores.{Stores}
use Rattle.chi_observer.specs.declared.flits.Grant.{Grant}
use Rattle.chi_observer.specs.declared.flits.Grant.TheVariants.{RetryAck, Snp, CompData, CompUC, CompSC, CompI, CompDBIDResp}
use Rattle.chi_observer.specs.declared.flits.HomeFlit.{HomeFlit}
use Rattle.chi_observer.specs.Copies.{is_unique, is_dirty, same}
use Rattle.chi_observer.specs.Copies.Copy.{Invalid}
use Rattle.chi_observer.specs.Rules.{word_at, is_completed, is_due, needs_moment, needs_duty, needs_quiet, needs_overwriter, needs_alone, overwrites, is_busy, gives_copy, gives_data, due_granted, snooped_granted}
use Rattle.chi_copies.specs.Copies.{Held, Copies, same_held, image}
use Rattle.chi_copies.specs.Rules.{may_be_free, slips, granted, fills, shows, renews}
use Rattle.chi_copies.specs.Worlds.{all_below, is_overwritten, home_may}
use Rattle.chi_copies.specs.Observed.{Observed, Sound, fits_at, home_at, any_of, got, given_of, fits_home, takes_home, given, next_home}
use Rattle.chi_copies.specs.Moments.{has_moment}
use Rattle.chi_copies.specs.Begun.{Begun, left_over, grant_left_over, apart, counts, left_beside, stand_beside, got_begun, sure_given, others_begun, apart_given, is_shown, has_its_moment, takes_given, behind_given}
use Rattle.chi_copies.proofs.Finite.{no, left, right, both, or_left, by_truth, by_false, turned, flip, implies, follow, each_form, all_kinds, each_kind, in_held, out_held, From, out_image}
use Rattle.chi_copies.proofs.Rows.{is_sane, same_is}
use Rattle.chi_copies.proofs.Means.{sane}
use Rattle.chi_copies.proofs.Put.{differ, here, there, split}
use Rattle.chi_copies.proofs.Sets.{each_below}
use Rattle.chi_copies.proofs.Loose.{Slipped, slipped, slip_self, slip_once, in_loose}
use Rattle.chi_copies.proofs.Loose.Slipped.{Still, Freed, Store, Drop}
use Rattle.chi_copies.proofs.Leads.{all_by}
use Rattle.chi_copies.proofs.Grants.{unasked}
use Rattle.chi_copies.proofs.Given.{or_else, or_none, image_each, image_has, shown_copy, given_each, alone_else, renewed_alone, sets_beside, none_lost, fitting}
use Rattle.chi_copies.proofs.Larger.{LessKnown, or_less}
use Rattle.chi_copies.proofs.TailUnder.{Under, under_granted, never_apart}
use Rattle.chi_copies.proofs.TailSets.{Below, Over, Base, met, surer, shown_image, shown_base, narrow_base, not_counted}
use Rattle.chi_copies.proofs.TailFollows.{Sides, IsBehind, IsFollowed, Follows, sides_of, sides_behind, Trails}
use Rattle.chi_copies.proofs.TailSent.{each_less, and_true}

-- WHAT IS DUE
-- what follows from what is due: of an agent with a request from before only a snoop is judged
by_due : {A : Type 0} (says : Grant → Due → A) (g : Grant) (asked : Bool) (d e : Due) → ((x : Snoop) → says (Snp x) e ≡ says (Snp x) d) → grant_left_over asked g ≡ false → (asked ≡ false → e ≡ d) → says g e ≡ says g d
by_due says (Snp x) asked d e h i f = h x
by_due says RetryAck asked d e h i f = ap (says RetryAck) (f i)
by_due says (CompData form) asked d e h i f = ap (says (CompData form)) (f i)
by_due says CompUC asked d e h i f = ap (says CompUC) (f i)
by_due says CompSC asked d e h i f = ap (says CompSC) (f i)
by_due says CompI asked d e h i f = ap (says CompI) (f i)
by_due says CompDBIDResp asked d e h i f = ap (says CompDBIDResp) (f i)

snoop_of : (g : Grant) → grant_left_over true g ≡ false → (x : Snoop) × (g ≡ Snp x)
snoop_of (Snp x) e = (x, refl)
snoop_of RetryAck e = no (sym e)
snoop_of (CompData form) e = no (sym e)
snoop_of CompUC e = no (sym e)
snoop_of CompSC e = no (sym e)
snoop_of CompI e = no (sym e)
snoop_of CompDBIDResp e = no (sym e)

left_granted : (g : Grant) (d e : Due) → grant_left_over true g ≡ false → d ≡ e → due_granted g d ≡ e
left_granted (Snp x) d e i h = h
left_granted RetryAck d e i h = no (sym i)
left_granted (CompData form) d e i h = no (sym i)
left_granted CompUC d e i h = no (sym i)
left_granted CompSC d e i h = no (sym i)
left_granted CompI d e i h = no (sym i)
left_granted CompDBIDResp d e i h = no (sym i)

-- what is due behind a snoop that isn't answered is due without it
due_alone : (g : Grant) (d : Due) (s : Option Snoop) → is_due g d s ≡ true → is_due g d None ≡ true
due_alone (Snp x) d s e = refl
due_alone RetryAck (Completion k) s e = refl
due_alone RetryAck other s e = no e
due_alone (CompData form) (Completion k) s e = unasked (CompData form) k s e
due_alone (CompData form) (SureCompletion k) s e = unasked (CompData form) k s e
due_alone (CompData form) other s e = no e
due_alone CompUC (Completion k) s e = unasked CompUC k s e
due_alone CompUC (SureCompletion k) s e = unasked CompUC k s e
due_alone CompUC other s e = no e
due_alone CompSC (Completion k) s e = unasked CompSC k s e
due_alone CompSC (SureCompletion k) s e = unasked CompSC k s e
due_alone CompSC other s e = no e
due_alone CompI (Completion k) s e = unasked CompI k s e
due_alone CompI (SureCompletion k) s e = unasked CompI k s e
due_alone CompI other s e = no e
due_alone CompDBIDResp (Completion k) s e = unasked CompDBIDResp k s e
due_alone CompDBIDResp (SureCompletion k) s e = unasked CompDBIDResp k s e
due_alone CompDBIDResp other s e = no e

snoop_due : (x : Snoop) (d e : Due) (s : Option Snoop) → is_due (Snp x) e s ≡ is_due (Snp x) d s
snoop_due x d e None = refl
snoop_due x d e (Some y) = refl

due_snooped : (missed : Bool) (g : Grant) (d : Due) (s s' : Option Snoop) → (missed ≡ false → s' ≡ s) → (missed ≡ true → s' ≡ None) → is_due g d s ≡ true → is_due g d s' ≡ true
due_snooped true g d s s' f n e = subst (λ s. is_due g d s ≡ true) (sym (n refl)) (due_alone g d s e)
due_snooped false g d s s' f n e = subst (λ s. is_due g d s ≡ true) (sym (f refl)) e

-- what is due behind one snoop is due behind each
abbrev one_asked : Grant → Snoop → Bool
one_asked g x = all_kinds (λ k. implies (is_completed g k (Some x)) (is_completed g k (Some SnpOnce)))

asks_one : (g : Grant) (x : Snoop) → one_asked g x ≡ true
asks_one RetryAck x = refl
asks_one (Snp y) x = refl
asks_one (CompData s) x = each_form (λ s. one_asked (CompData s) x) refl s
asks_one CompUC x = refl
asks_one CompSC x = refl
asks_one CompI x = refl
asks_one CompDBIDResp x = refl

completed_so : (g : Grant) (k : Kind) (x : Snoop) → is_completed g k (Some x) ≡ true → is_completed g k (Some SnpOnce) ≡ true
completed_so g k x e = follow (is_completed g k (Some x)) _ (each_kind (λ k. implies (is_completed g k (Some x)) (is_completed g k (Some SnpOnce))) (asks_one g x) k) e

due_behind : (g : Grant) (d : Due) (x : Snoop) → is_due g d (Some x) ≡ true → is_due g d (Some SnpOnce) ≡ true
due_behind (Snp y) d x e = no e
due_behind RetryAck (Completion k) x e = refl
due_behind RetryAck other x e = no e
due_behind (CompData form) (Completion k) x e = completed_so (CompData form) k x e
due_behind (CompData form) (SureCompletion k) x e = completed_so (CompData form) k x e
due_behind (CompData form) other x e = no e
due_behind CompUC (Completion k) x e = completed_so CompUC k x e
due_behind CompUC (SureCompletion k) x e = completed_so CompUC k x e
due_behind CompUC other x e = no e
due_behind CompSC (Completion k) x e = completed_so CompSC k x e
due_behind CompSC (SureCompletion k) x e = completed_so CompSC k x e
due_behind CompSC other x e = no e
due_behind CompI (Completion k) x e = completed_so CompI k x e
due_behind CompI (SureCompletion k) x e = completed_so CompI k x e
due_behind CompI other x e = no e
due_behind CompDBIDResp (Completion k) x e = completed_so CompDBIDResp k x e
due_behind CompDBIDResp (SureCompletion k) x e = completed_so CompDBIDResp k x e
due_behind CompDBIDResp other x e = no e

none_behind : (g : Grant) (d : Due) (s : Option Snoop) → is_due g d (Some SnpOnce) ≡ false → is_due g d s ≡ true → s ≡ None
none_behind g d None n e = refl
none_behind g d (Some x) n e = no (sym n ∙ due_behind g d x e)

-- a snoop from before may still be open where the flit was due behind one
snooped_so : (g : Grant) (missed : Bool) (d e : Due) (s s' : Option Snoop) → (missed && is_due g e (Some SnpOnce)) ≡ false → is_due g d s ≡ true → (missed ≡ false → s' ≡ s) → (missed ≡ true → s' ≡ None) → is_due g e (Some SnpOnce) ≡ is_due g d (Some SnpOnce)
    → snooped_granted g s' ≡ snooped_granted g s
snooped_so g false d e s s' h due f n i = ap (snooped_granted g) (f refl)
snooped_so g true d e s s' h due f n i = by g (n refl) (λ m. none_behind g d s m due) (sym i ∙ h)
  where
    by : (g : Grant) → s' ≡ None → (is_due g d (Some SnpOnce) ≡ false → s ≡ None) → is_due g d (Some SnpOnce) ≡ false → snooped_granted g s' ≡ snooped_granted g s
    by (Snp x) a b c = refl
    by RetryAck a b c = a ∙ sym (b c)
    by (CompData form) a b c = a ∙ sym (b c)
    by CompUC a b c = a ∙ sym (b c)
    by CompSC a b c = a ∙ sym (b c)
    by CompI a b c = a ∙ sym (b c)
    by CompDBIDResp a b c = a ∙ sym (b c)

snooped_gone : (g : Grant) (missed : Bool) (e : Due) (s' : Option Snoop) → (missed && is_due g e (Some SnpOnce)) ≡ true → (missed ≡ true → s' ≡ None) → snooped_granted g s' ≡ None
snooped_gone (Snp x) true e s' h n = no h
snooped_gone RetryAck true e s' h n = n refl
snooped_gone (CompData form) true e s' h n = n refl
snooped_gone CompUC true e s' h n = n refl
snooped_gone CompSC true e s' h n = n refl
snooped_gone CompI true e s' h n = n refl
snooped_gone CompDBIDResp true e s' h n = n refl
snooped_gone g false e s' h n = no h

-- HIDDEN STEPS
granted_snoop : (x : Snoop) (d : Due) (h : Held) → granted (Snp x) d h ≡ h
granted_snoop x d h = λ i. record { copy = h.copy; cancelled = h.cancelled; stored = and_true h.stored i }

-- nothing is pending of no copy while a completion is due
due_pending : (g : Grant) (d : Due) (s : Option Snoop) → grant_left_over true g ≡ true → is_due g d s ≡ true → may_be_free d ≡ false
due_pending g (Completion k) s h e = refl
due_pending g (SureCompletion k) s h e = refl
due_pending g (WriteData k) s h e = refl
due_pending g Acknowledgement s h e = refl
due_pending g Nothing s h e = by g h e
  where
    by : (g : Grant) → grant_left_over true g ≡ true → is_due g Nothing s ≡ true → may_be_free Nothing ≡ false
    by (Snp x) h e = no h
    by RetryAck h e = no e
    by (CompData form) h e = no e
    by CompUC h e = no e
    by CompSC h e = no e
    by CompI h e = no e
    by CompDBIDResp h e = no e
due_pending g (Resending k) s h e = by g h e
  where
    by : (g : Grant) → grant_left_over true g ≡ true → is_due g (Resending k) s ≡ true → may_be_free (Resending k) ≡ false
    by (Snp x) h e = no h
    by RetryAck h e = no e
    by (CompData form) h e = no e
    by CompUC h e = no e
    by CompSC h e = no e
    by CompI h e = no e
    by CompDBIDResp h e = no e

pending_still : (z : Stores) (d : Due) (t h : Held) → may_be_free d ≡ false → Slipped z d t h → t ≡ h
pending_still z d t h m (Still e) = e
pending_still z d t h m (Freed f e) = no (sym m ∙ f)
pending_still z d t h m (Store f a u e) = no (sym m ∙ f)
pending_still z d t h m (Drop f c e) = no (sym m ∙ f)

slips_granted : (z : Stores) (g : Grant) (d : Due) (s : Option Snoop) (t h : Held) → is_due g d s ≡ true → slips z d t h ≡ true → slips z (due_granted g d) (granted g d t) (granted g d h) ≡ true
slips_granted z g d s t h due l = by_truth (grant_left_over true g)
    (λ e. subst (λ h. slips z (due_granted g d) (granted g d t) (granted g d h) ≡ true) (pending_still z d t h (due_pending g d s e due) (slipped z d t h l)) (slip_self z (due_granted g d) (granted g d t)))
    (λ e. let x = snoop_of g e in subst (λ g. slips z (due_granted g d) (granted g d t) (granted g d h) ≡ true) (sym x.1)
    (subst (λ t. slips z d t (granted (Snp x.0) d h) ≡ true) (sym (granted_snoop x.0 d t)) (subst (λ h. slips z d t h ≡ true) (sym (granted_snoop x.0 d h)) l)))

-- WORDS
home_given : (i any : Bool) (words : List ℕ) (x y : Option (List ℕ)) (p : ℕ) → (i ≡ true → any ≡ true) → LessKnown (home_at x p) (home_at y p) → (any ≡ true → fits_at (home_at x p) (word_at words p) ≡ true)
    → LessKnown (home_at (if any then Some words else x) p) (home_at (if i then Some words else y) p)
home_given true true words x y p f h fit v e = e
home_given true false words x y p f h fit v e = no (f refl)
home_given false true words x y p f h fit v e = ap (λ (w : ℕ). Some w) (sym (eqb-true v (word_at words p) (subst (λ o. fits_at o (word_at words p) ≡ true) (h v e) (fit refl)))) ∙ refl
home_given false false words x y p f h fit v e = h v e

if_shown : (b c : Bool) → (b ≡ true → c ≡ true) → (not b || c) ≡ true
if_shown true c f = f refl
if_shown false c f = refl

shown_fits : (b c : Bool) → (not b || c) ≡ true → b ≡ true → c ≡ true
shown_fits true c h e = h
shown_fits false c h e = no e

-- OTHER REQUESTS
busy_so : (asked : Bool) (d e : Due) → (asked ≡ false → e ≡ d) → (asked ≡ true → e ≡ left_over) → not (is_busy d) ≡ true → not (is_busy e) ≡ true
busy_so true d e f l h = subst (λ e. not (is_busy e) ≡ true) (sym (l refl)) refl
busy_so false d e f l h = subst (λ e. not (is_busy e) ≡ true) (sym (f refl)) h

or_nothing : (b : Bool) → (b || false) ≡ true → b ≡ true
or_nothing true h = refl
or_nothing false h = h

overwrites_so : (asked same : Bool) (d e : Due) → (asked ≡ false → e ≡ d) → (asked ≡ true → e ≡ left_over) → (same || not (overwrites e)) ≡ true → (same || not (overwrites d)) ≡ true
overwrites_so true same d e f l h = or_left same _ (or_nothing same (subst (λ e. (same || not (overwrites e)) ≡ true) (l refl) h))
overwrites_so false same d e f l h = subst (λ e. (same || not (overwrites e)) ≡ true) (f refl) h

module _ (o : Observed) (shown : ℕ → Bool) (b : Begun) (g : HomeFlit) (follows : Follows o shown b) (sound : Sound o) (after : Sound (given o g)) (low : g.agent.0 < 32) (take : takes_home o g ≡ true) (timed : has_moment o shown g ≡ true)
    (early : grant_left_over (b.asked g.agent.0) g.grant ≡ false) where
  abbrev n : ℕ
  n = g.agent.0

  abbrev d : Due
  d = o.public.due n

  abbrev e : Due
  e = b.seen.public.due n

  abbrev z : Stores
  z = o.public.stores

  abbrev q : Bool
  q = b.asked n

  side : IsFollowed o.public.stores (sides_of o b g.agent.0)
  side = follows.agents g.agent.0 low

  may_send : home_may o.public g ≡ true
  may_send = left (home_may o.public g) _ take

  due : is_due g.grant d (o.public.snooped n) ≡ true
  due = left (is_due g.grant d (o.public.snooped n)) _ may_send

  same_granted : granted g.grant e ≡ granted g.grant d
  same_granted = by_due (λ g d. granted g d) g.grant q d e (λ x. refl) early side.due

  same_renews : renews g.grant e ≡ renews g.grant d
  same_renews = by_due renews g.grant q d e (λ x. refl) early side.due

  same_alone : needs_alone g.grant e ≡ needs_alone g.grant d
  same_alone = by_due needs_alone g.grant q d e (λ x. refl) early side.due

  same_timed : needs_moment g.grant e ≡ needs_moment g.grant d
  same_timed = by_due needs_moment g.grant q d e (λ x. refl) early side.due

  same_behind : is_due g.grant e (Some SnpOnce) ≡ is_due g.grant d (Some SnpOnce)
  same_behind = by_due (λ g d. is_due g d (Some SnpOnce)) g.grant q d e (λ x. refl) early side.due

  -- ITS AGENT
  abbrev T : Copies
  T = image (λ h k. same_held (granted g.grant (o.public.due g.agent.0) h) k) side.base.bases

  given_under : (s t : Held) → Under q s t → Under q (granted g.grant e s) (granted g.grant d t)
  given_under s t u = subst (λ (f : Held → Held). Under q (f s) (granted g.grant d t)) (sym same_granted) (under_granted g.grant d q s t u)

  given_slips : (h : Held) → image (slips z (due_granted g.grant d)) (got o g) h ≡ true → From (slips z (due_granted g.grant d)) T h
  given_slips h y =
      let k = out_image (slips z (due_granted g.grant d)) (got o g) h y in
      image_each (granted g.grant d) (o.may n) (λ k. slips z (due_granted g.grant d) k h ≡ true → From (slips z (due_granted g.grant d)) T h) (λ k w l.
      let t = side.base.slips k w in
      let s : slips z (due_granted g.grant d) (granted g.grant d t.held) (granted g.grant d k) ≡ true = slips_granted z g.grant d (o.public.snooped n) t.held k due t.leads in
      record {
        held = granted g.grant d t.held;
        has = image_has (granted g.grant d) side.base.bases t.held t.has;
        leads = slip_once z (due_granted g.grant d) (granted g.grant d t.held) (granted g.grant d k) h (slipped z (due_granted g.grant d) (granted g.grant d t.held) (granted g.grant d k) s) (slipped z (due_granted g.grant d) (granted g.grant d k) h l) l s;
      }) k.held k.has k.leads

  given_base : Base z (due_granted g.grant d) q (b.sure n) (got o g) (image (slips z (due_granted g.grant d)) (got o g)) (got_begun b g)
  given_base = record {
    bases = T;
    some = let t = out_held side.base.bases side.base.some in in_held T (granted g.grant d t.0) (image_has (granted g.grant d) side.base.bases t.0 t.1);
    inside = image_each (granted g.grant d) side.base.bases (λ k. got o g k ≡ true) (λ t y. image_has (granted g.grant d) (o.may n) t (side.base.inside t y));
    below = image_each (granted g.grant d) side.base.bases (λ k. Below q (got_begun b g) k) (λ t y. let w = side.base.below t y in record {
      held = granted g.grant e w.held;
      has = image_has (granted g.grant e) (b.seen.may n) w.held w.has;
      under = given_under w.held t w.under;
    });
    over = λ v. image_each (granted g.grant e) (b.seen.may n) (λ k. Over q T k) (λ s y. let w = side.base.over v s y in record {
      held = granted g.grant d w.held;
      has = image_has (granted g.grant d) side.base.bases w.held w.has;
      under = given_under s w.held w.under;
    });
    slips = given_slips;
  }

  pub sure_base : Base z (due_granted g.grant d) q (sure_given b g) (got o g) (image (slips z (due_granted g.grant d)) (got o g)) (got_begun b g)
  sure_base = surer z (due_granted g.grant d) q (b.sure n) (sure_given b g) (got o g) (image (slips z (due_granted g.grant d)) (got o g)) (got_begun b g) given_base (λ e. e)

  -- OTHERS
  sane_at : (k : Held) → got o g k ≡ true → is_sane k ≡ true
  sane_at k y = sane (given o g) after n low k (subst (λ X. X k ≡ true) (sym (here n (got o g) (λ m. given_of g o.public (o.may m)))) y)

  sane_else : (m : ℕ) → m ≢ n → m < 32 → (k : Held) → given_of g o.public (o.may m) k ≡ true → is_sane k ≡ true
  sane_else m v l k y = sane (given o g) after m l k (subst (λ X. X k ≡ true) (sym (there n (got o g) (λ m. given_of g o.public (o.may m)) m v)) y)

  gone_else : (m : ℕ) → m ≢ n → m < 32 → needs_alone g.grant d ≡ true → (k : Held) → given_of g o.public (o.may m) k ≡ true → same k.copy Invalid ≡ true
  gone_else m v l w = given_each o g sound low m (λ k. same k.copy Invalid ≡ true) (λ k y. subst (λ c. same c Invalid ≡ true) (sym (shown_copy (renews g.grant d) k)) (alone_else o g sound low take w m v l k y))

  apart_else : (m : ℕ) → m ≢ n → m < 32 → (s t : Held) → given_of g o.public (o.may m) t ≡ true → Under (b.asked m) s t → apart_given b g s ≡ false
  apart_else m v l s t y u = or_none (counts (sure_given b g) (got_begun b g) (λ h. apart h s)) (needs_alone g.grant e && not (same s.copy Invalid))
      (by_false (counts (sure_given b g) (got_begun b g) (λ h. apart h s)) (λ c.
      let w = met z (due_granted g.grant d) q (sure_given b g) (got o g) (image (slips z (due_granted g.grant d)) (got o g)) (got_begun b g) sure_base (λ h. apart h s) c in
      sym (never_apart q (b.asked m) w.lower w.upper s t w.under u (sane_at w.upper w.above) (sane_else m v l t y) w.so) ∙ sets_beside o g sound low take m v l w.upper t w.above y))
      (by_false (needs_alone g.grant e && not (same s.copy Invalid)) (λ c.
      sym (turned (same s.copy Invalid) (right (needs_alone g.grant e) _ c)) ∙ subst (λ c. same c Invalid ≡ true) (sym u.copy) (gone_else m v l (sym same_alone ∙ left (needs_alone g.grant e) _ c) t y)))

  shared_else : (m : ℕ) → m ≢ n → m < 32 → renews g.grant d ≡ true → (t : Held) → o.may m t ≡ true → is_unique t.copy ≡ false
  shared_else m v l r t y = ap is_unique (same_is t.copy Invalid (renewed_alone o g sound low take r m v l t y))

  else_base : (m : ℕ) → m ≢ n → m < 32 → Base z (o.public.due m) (b.asked m) (b.sure m) (given_of g o.public (o.may m)) (given_of g o.public (o.may m)) (others_begun b g m)
  else_base m v l = shown_base z (o.public.due m) (b.asked m) (b.sure m) (renews g.grant d) (renews g.grant e) (o.may m) (given_of g o.public (o.may m)) (b.seen.may m) (others_begun b g m)
      (shown_image (renews g.grant d) (o.may m)) (shown_image (renews g.grant e) (b.seen.may m)) (λ r. same_renews ∙ r) (shared_else m v l) (follows.agents m l).base

  given_stands : stand_beside n (apart_given b g) b (others_begun b g) ≡ true
  given_stands = all_by 32 (λ m. m == n || not (counts (b.sure m) (others_begun b g m) (apart_given b g))) (λ m l. or_else (m == n) _ (λ v. flip _
      (not_counted z (o.public.due m) (b.asked m) (b.sure m) (given_of g o.public (o.may m)) (given_of g o.public (o.may m)) (others_begun b g m) (apart_given b g) (apart_else m (differ m n v) l) (else_base m (differ m n v) l))))

  -- IT IS TAKEN
  due_so : is_due g.grant e (b.seen.public.snooped n) ≡ true
  due_so = by_due (λ g d. is_due g d (b.seen.public.snooped n)) g.grant q d e (λ x. snoop_due x d e (b.seen.public.snooped n)) early side.due ∙ due_snooped (b.snooped n) g.grant d (o.public.snooped n) (b.seen.public.snooped n) side.snooped side.gone due

  rest : ((not (needs_duty g.grant) || o.public.duty) && ((not (needs_quiet g.grant) || all_below 32 (λ m. not (is_busy (o.public.due m)))) && (not (needs_overwriter g.grant) || is_overwritten o.public g.agent.0))) ≡ true
  rest = right (is_due g.grant d (o.public.snooped n)) _ may_send

  quiet_so : all_below 32 (λ m. not (is_busy (o.public.due m))) ≡ true → all_below 32 (λ m. not (is_busy (b.seen.public.due m))) ≡ true
  quiet_so h = all_by 32 (λ m. not (is_busy (b.seen.public.due m))) (λ m l. let s = follows.agents m l in busy_so (b.asked m) (o.public.due m) (b.seen.public.due m) s.due s.left (each_below 32 (λ m. not (is_busy (o.public.due m))) h m l))

  overwritten_so : is_overwritten o.public n ≡ true → is_overwritten b.seen.public n ≡ true
  overwritten_so h = flip _ (by_false (all_below 32 (λ m. m == n || not (overwrites (b.seen.public.due m)))) (λ y. sym (turned _ h) ∙ all_by 32 (λ m. m == n || not (overwrites (o.public.due m)))
      (λ m l. let s = follows.agents m l in overwrites_so (b.asked m) (m == n) (o.public.due m) (b.seen.public.due m) s.due s.left (each_below 32 (λ m. m == n || not (overwrites (b.seen.public.due m))) y m l))))

  home_so : home_may b.seen.public g ≡ true
  home_so = both (is_due g.grant e (b.seen.public.snooped n)) _ due_so
      (both (not (needs_duty g.grant) || b.seen.public.duty) _ (or_less (not (needs_duty g.grant)) o.public.duty b.seen.public.duty follows.duty (left (not (needs_duty g.grant) || o.public.duty) _ rest))
      (both (not (needs_quiet g.grant) || all_below 32 (λ m. not (is_busy (b.seen.public.due m)))) _
      (or_less (not (needs_quiet g.grant)) (all_below 32 (λ m. not (is_busy (o.public.due m)))) (all_below 32 (λ m. not (is_busy (b.seen.public.due m)))) quiet_so
      (left (not (needs_quiet g.grant) || all_below 32 (λ m. not (is_busy (o.public.due m)))) _ (right (not (needs_duty g.grant) || o.public.duty) _ rest)))
      (or_less (not (needs_overwriter g.grant)) (is_overwritten o.public n) (is_overwritten b.seen.public n) overwritten_so
      (right (not (needs_quiet g.grant) || all_below 32 (λ m. not (is_busy (o.public.due m)))) _ (right (not (needs_duty g.grant) || o.public.duty) _ rest)))))

  shows_so : is_shown b g ≡ true → any_of (o.may n) (shows g.grant) ≡ true
  shows_so v = let w = met z d q (b.sure n) (o.may n) (o.may n) (b.seen.may n) side.base (shows g.grant) v in
      in_held (λ h. o.may n h && shows g.grant h) w.upper (both (o.may n w.upper) _ w.above (subst (λ s. (gives_data g.grant && (not (gives_copy g.grant) || not (is_dirty s))) ≡ true) w.under.copy w.so))

  fits_so : any_of (o.may n) (shows g.grant) ≡ true → fits_home o.home g.shown ≡ true
  fits_so v = shown_fits (any_of (o.may n) (shows g.grant)) (fits_home o.home g.shown) (fitting o g sound low take) v

  fills_none : counts (b.sure n) (b.seen.may n) (λ h. fills g.grant h && h.stored) ≡ false
  fills_none = by_false (counts (b.sure n) (b.seen.may n) (λ h. fills g.grant h && h.stored)) (λ v.
      let w = met z d q (b.sure n) (o.may n) (o.may n) (b.seen.may n) side.base (λ h. fills g.grant h && h.stored) v in
      sym (none_lost o g sound low take w.upper w.above) ∙ both (fills g.grant w.upper) _ (subst (λ s. (gives_copy g.grant && not (is_dirty s)) ≡ true) w.under.copy (left (fills g.grant w.lower) _ w.so))
      (w.under.stored (right (fills g.grant w.lower) _ w.so)))

  moment_so : has_its_moment b g ≡ true
  moment_so = if_shown (needs_moment g.grant e) (b.shown n) (λ v. follows.moments n low (shown_fits (needs_moment g.grant d) (shown n) timed (sym same_timed ∙ v)))

  pub given_taken : takes_given b g ≡ true
  given_taken = both (has_its_moment b g) _ moment_so (both (home_may b.seen.public g) _ home_so
      (both (not (is_shown b g) || fits_home b.seen.home g.shown) _ (if_shown (is_shown b g) (fits_home b.seen.home g.shown) (λ v. each_less (home_at o.home) (home_at b.seen.home) (word_at g.shown) follows.home (fits_so (shows_so v))))
      (both (not (counts (b.sure n) (b.seen.may n) (λ h. fills g.grant h && h.stored))) _ (flip _ fills_none) given_stands)))

  -- BEHIND IT
  abbrev agent_sides : Sides
  agent_sides = record {
    due = due_granted g.grant d;
    snooped = snooped_granted g.grant (o.public.snooped n);
    may = image (slips z (due_granted g.grant d)) (got o g);
    behind = got o g;
    kept_due = due_granted g.grant e;
    kept_snooped = snooped_granted g.grant (b.seen.public.snooped n);
    kept_may = got_begun b g;
    sure = sure_given b g;
    asked = q;
    missed = b.snooped n && is_due g.grant e (Some SnpOnce);
  }

  may_here : (next_home o g).may n ≡ image (slips z (due_granted g.grant d)) (got o g)
  may_here = here n (image (slips z ((given o g).public.due n)) ((given o g).may n)) (given o g).may ∙ (λ i. image (slips z (here n (due_granted g.grant d) o.public.due i)) (here n (got o g) (λ m. given_of g o.public (o.may m)) i))

  sides_here : sides_behind (next_home o g) (given o g) (behind_given b g) n ≡ agent_sides
  sides_here = λ i. record {
    due = here n (due_granted g.grant d) o.public.due i;
    snooped = here n (snooped_granted g.grant (o.public.snooped n)) o.public.snooped i;
    may = may_here i;
    behind = here n (got o g) (λ m. given_of g o.public (o.may m)) i;
    kept_due = here n (due_granted g.grant e) b.seen.public.due i;
    kept_snooped = here n (snooped_granted g.grant (b.seen.public.snooped n)) b.seen.public.snooped i;
    kept_may = here n (got_begun b g) (λ m. left_beside (b.sure m) (apart_given b g) (others_begun b g m)) i;
    sure = here n (sure_given b g) b.sure i;
    asked = q;
    missed = here n (b.snooped n && is_due g.grant e (Some SnpOnce)) b.snooped i;
  }

  agent_behind : IsBehind z agent_sides
  agent_behind = record {
    due = λ v. ap (due_granted g.grant) (side.due v);
    left = λ v. left_granted g.grant e left_over (subst (λ q. grant_left_over q g.grant ≡ false) v early) (side.left v);
    snooped = λ v. snooped_so g.grant (b.snooped n) d e (o.public.snooped n) (b.seen.public.snooped n) v due side.snooped side.gone same_behind;
    gone = λ v. snooped_gone g.grant (b.snooped n) e (b.seen.public.snooped n) v side.gone;
    base = sure_base;
  }

  abbrev other_sides : ℕ → Sides
  other_sides m = record {
    due = o.public.due m;
    snooped = o.public.snooped m;
    may = given_of g o.public (o.may m);
    behind = given_of g o.public (o.may m);
    kept_due = b.seen.public.due m;
    kept_snooped = b.seen.public.snooped m;
    kept_may = left_beside (b.sure m) (apart_given b g) (others_begun b g m);
    sure = b.sure m;
    asked = b.asked m;
    missed = b.snooped m;
  }

  sides_there : (m : ℕ) → m ≢ n → sides_behind (next_home o g) (given o g) (behind_given b g) m ≡ other_sides m
  sides_there m v = λ i. record {
    due = there n (due_granted g.grant d) o.public.due m v i;
    snooped = there n (snooped_granted g.grant (o.public.snooped n)) o.public.snooped m v i;
    may = (there n (image (slips z ((given o g).public.due n)) ((given o g).may n)) (given o g).may m v ∙ there n (got o g) (λ m. given_of g o.public (o.may m)) m v) i;
    behind = there n (got o g) (λ m. given_of g o.public (o.may m)) m v i;
    kept_due = there n (due_granted g.grant e) b.seen.public.due m v i;
    kept_snooped = there n (snooped_granted g.grant (b.seen.public.snooped n)) b.seen.public.snooped m v i;
    kept_may = there n (got_begun b g) (λ m. left_beside (b.sure m) (apart_given b g) (others_begun b g m)) m v i;
    sure = there n (sure_given b g) b.sure m v i;
    asked = b.asked m;
    missed = there n (b.snooped n && is_due g.grant e (Some SnpOnce)) b.snooped m v i;
  }

  other_behind : (m : ℕ) → m ≢ n → m < 32 → IsBehind z (other_sides m)
  other_behind m v l = let was = follows.agents m l in record {
    due = was.due;
    left = was.left;
    snooped = was.snooped;
    gone = was.gone;
    base = narrow_base z (o.public.due m) (b.asked m) (b.sure m) (given_of g o.public (o.may m)) (others_begun b g m) (apart_given b g) (apart_else m v l) (else_base m v l);
  }

  duty_so : (x y k : Bool) → (x ≡ true → y ≡ true) → (x && k) ≡ true → (y && k) ≡ true
  duty_so x y k f h = both y k (f (left x _ h)) (right x _ h)

  pub given_trails : Trails (next_home o g) (given o g) (behind_given b g)
  given_trails = record {
    stores = follows.stores;
    agents = split (λ m. m < 32 → IsBehind z (sides_behind (next_home o g) (given o g) (behind_given b g) m)) n
        (λ _. subst (λ s. IsBehind z s) (sym sides_here) agent_behind)
        (λ m v l. subst (λ s. IsBehind z s) (sym (sides_there m v)) (other_behind m v l));
    duty = duty_so o.public.duty b.seen.public.duty (not (needs_duty g.grant)) follows.duty;
    home = λ p l. home_given (is_shown b g) (any_of (o.may n) (shows g.grant)) g.shown o.home b.seen.home p shows_so (follows.home p l) (λ v. each_below 8 (λ p. fits_at (home_at o.home p) (word_at g.shown p)) (fits_so v) p l);
    inside = split (λ m. m < 32 → (h : Held) → (given o g).may m h ≡ true → (next_home o g).may m h ≡ true) n
        (λ _ h y. subst (λ X. X h ≡ true) (sym (here n (image (slips z ((given o g).public.due n)) ((given o g).may n)) (given o g).may)) (in_loose n (given o g) h y))
        (λ m v _ h y. subst (λ X. X h ≡ true) (sym (there n (image (slips z ((given o g).public.due n)) ((given o g).may n)) (given o g).may m v)) y);
  }
