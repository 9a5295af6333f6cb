-- A flit of the home before hidden steps: what is kept, where it leads, that it is safe.
use Rattle.std.proofs.Common.{rules, arith, ◌≡◌, ◌≢◌, ℕ, ◌<◌, zero, suc, refl, sym, ap, subst, ◌∙◌}
use Rattle.std.specs.Prelude.{Bool, true, false, ◌&&◌, ◌||◌, ◌==◌, not, Option, Some, None, List, if◌then◌else◌}
use Rattle.chi_observer.specs.declared.kinds.Snoop.{Snoop}
use Rattle.chi_observer.specs.declared.flits.Due.{Due}
use Rattle.chi_observer.specs.declared.flits.HomeFlit.{HomeFlit}
use Rattle.chi_observer.specs.Copies.{Copy, holds_data, is_unique, is_dirty, is_clean, same, compatible}
use Rattle.chi_observer.specs.Copies.Copy.{Invalid}
use Rattle.chi_observer.specs.Rules.{are_hidden, is_resending, is_due, needs_alone, makes, settles, gives_copy, gives_data, due_granted, word_at}
use Rattle.chi_copies.specs.Copies.{Held, Copies, shown_of, is_fresh, is_newer, beside, same_held, any_held, image, all_beside}
use Rattle.chi_copies.specs.Rules.{may_store, may_hide, may_be_free, freed, stored_to, slips, granted, fills, shows, renews, waits_without_news}
use Rattle.chi_copies.specs.Worlds.{World, Words, Same, Shown, Gives, Informed, home_may, others_given, all_below}
use Rattle.chi_copies.specs.Observed.{Observed, Sound, Meaning, has_news, is_storable, is_shown_dirty, no_words, any_of, got, given_of, is_beside, goes, fits_home, takes_home, given}
use Rattle.chi_copies.specs.Laws.{HomeFlitsAreSafe, HomeFlitsLead}
use Rattle.chi_copies.proofs.Finite.{no, left, right, both, implies, follow, or_right, either, by_truth, turned, flip, by_false, all_helds, each_held, in_held, out_held, in_image, From, out_image}
use Rattle.chi_copies.proofs.Rows.{is_sane, same_held_is, same_held_self, same_is}
use Rattle.chi_copies.proofs.Means.{same_by, same_sym, same_trans, sane, beside_back, beside_goes, none_stored, beside_shown, coherent, slip_free}
use Rattle.chi_copies.proofs.Put.{unlike, here, there, split, everywhere, pairwise}
use Rattle.chi_copies.proofs.Sets.{each_below}
use Rattle.chi_copies.proofs.Grants.{makes_newer, settles_none, fills_data, gives_read, kept_data, stays_sane, fresh_from, keeps_stored, still_reading, still_waits, store_before, stays_even}

pub below_all : (k : ℕ) (f : ℕ → Bool) → ((m : ℕ) → m < k → f m ≡ true) → all_below k f ≡ true
below_all zero f h = refl
below_all (suc k) f h = both (f k) (all_below k f) (h k (search (rules, arith))) (below_all k f (λ m l. h m (search (rules, arith))))

pub one_of : (a b : Bool) → (a || b) ≡ true → a ≡ false → b ≡ true
one_of true b h e = no (sym e)
one_of false b h e = h

pub or_else : (a b : Bool) → (a ≡ false → b ≡ true) → (a || b) ≡ true
or_else true b h = refl
or_else false b h = h refl

pub or_none : (a b : Bool) → a ≡ false → b ≡ false → (a || b) ≡ false
or_none true b h e = no (sym h)
or_none false b h e = e

pub not_left : (a b : Bool) → (a || b) ≡ false → a ≡ false
not_left true b h = no (sym h)
not_left false b h = refl

pub not_right : (a b : Bool) → (a || b) ≡ false → b ≡ false
not_right true b h = no (sym h)
not_right false b h = h

pub by_true : (b : Bool) → (b ≡ false → true ≡ false) → b ≡ true
by_true true h = refl
by_true false h = sym (h refl)

pub implied : (a b : Bool) → (a ≡ true → b ≡ true) → implies a b ≡ true
implied true b f = f refl
implied false b f = refl

-- whether what a bool chooses is so
pub chosen : {A : Type 0} (P : A → Type 0) (b : Bool) (x y : A) → b ≡ true → P (if b then x else y) → P x
chosen P b x y e h = subst (λ b. P (if b then x else y)) e h

pub unchosen : {A : Type 0} (P : A → Type 0) (b : Bool) (x y : A) → b ≡ false → P (if b then x else y) → P y
unchosen P b x y e h = subst (λ b. P (if b then x else y)) e h

-- SETS
pub all_beside_out : (S T : Copies) → all_beside S T ≡ true → (h k : Held) → S h ≡ true → T k ≡ true → beside h k ≡ true
all_beside_out S T e h k x y = by_true (beside h k) (λ z. sym (in_held (λ h. S h && any_held (λ k. T k && not (beside h k))) h
    (both (S h) _ x (in_held (λ k. T k && not (beside h k)) k (both (T k) _ y (flip _ z))))) ∙ turned _ e)

pub all_beside_in : (S T : Copies) → ((h k : Held) → S h ≡ true → T k ≡ true → beside h k ≡ true) → all_beside S T ≡ true
all_beside_in S T f = flip _ (by_false (any_held (λ h. S h && any_held (λ k. T k && not (beside h k)))) (λ e.
    let x = out_held (λ h. S h && any_held (λ k. T k && not (beside h k))) e in
    let y = out_held (λ k. T k && not (beside x.0 k)) (right (S x.0) _ x.1) in
    sym (turned _ (right (T y.0) _ y.1)) ∙ f x.0 y.0 (left (S x.0) _ x.1) (left (T y.0) _ y.1)))

-- an image by a function
pub image_each : (f : Held → Held) (S : Copies) (P : Held → Type 0) → ((h : Held) → S h ≡ true → P (f h)) → (k : Held) → image (λ h k. same_held (f h) k) S k ≡ true → P k
image_each f S P all k e = let x : From (λ h k. same_held (f h) k) S k = out_image (λ h k. same_held (f h) k) S k e in
    subst P (same_held_is (f x.held) k x.leads) (all x.held x.has)

pub image_has : (f : Held → Held) (S : Copies) (h : Held) → S h ≡ true → image (λ h k. same_held (f h) k) S (f h) ≡ true
image_has f S h e = in_image (λ h k. same_held (f h) k) S h (f h) e (same_held_self (f h))

-- what the home has the words of
pub shown_copy : (b : Bool) (k : Held) → (if b then shown_of k else k).copy ≡ k.copy
shown_copy true k = refl
shown_copy false k = refl

pub shown_cancelled : (b : Bool) (k : Held) → (if b then shown_of k else k).cancelled ≡ k.cancelled
shown_cancelled true k = refl
shown_cancelled false k = refl

pub shown_kept : (b : Bool) (k : Held) → b ≡ false → (if b then shown_of k else k) ≡ k
shown_kept true k e = no (sym e)
shown_kept false k e = refl

pub shown_is : (b : Bool) (k : Held) → b ≡ true → (if b then shown_of k else k) ≡ shown_of k
shown_is true k e = refl
shown_is false k e = no e

pub shown_beside : (b : Bool) (h k : Held) → beside h k ≡ true → beside (if b then shown_of h else h) (if b then shown_of k else k) ≡ true
shown_beside true h k e = beside_shown h k e
shown_beside false h k e = e

pub no_data : (s : Copy) → same s Invalid ≡ true → holds_data s ≡ false
no_data s e = ap holds_data (same_is s Invalid e)

pub not_dirty : (s : Copy) → same s Invalid ≡ true → is_dirty s ≡ false
not_dirty s e = ap is_dirty (same_is s Invalid e)

pub not_newer : (k : Held) → k.stored ≡ false → is_newer k ≡ false
not_newer k e = ap (λ (b : Bool). b && holds_data k.copy) e

-- beside a unique copy there is none
alone_holds : all_helds (λ h. all_helds (λ k. implies (is_unique h.copy && compatible h.copy k.copy) (same k.copy Invalid))) ≡ true
alone_holds = refl

pub alone_beside : (h k : Held) → is_unique h.copy ≡ true → compatible h.copy k.copy ≡ true → same k.copy Invalid ≡ true
alone_beside h k u c = follow (is_unique h.copy && compatible h.copy k.copy) _ (each_held (λ k. implies (is_unique h.copy && compatible h.copy k.copy) (same k.copy Invalid))
    (each_held (λ h. all_helds (λ k. implies (is_unique h.copy && compatible h.copy k.copy) (same k.copy Invalid))) alone_holds h) k) (both _ _ u c)

-- a dirty copy's words are the home's, or newer
dirty_holds : all_helds (λ h. implies (is_dirty h.copy) (is_shown_dirty h || is_newer h)) ≡ true
dirty_holds = refl

pub dirty_so : (h : Held) → is_dirty h.copy ≡ true → (is_shown_dirty h || is_newer h) ≡ true
dirty_so h e = follow (is_dirty h.copy) _ (each_held (λ h. implies (is_dirty h.copy) (is_shown_dirty h || is_newer h)) dirty_holds h) e

shows_by : (a b c c' : Bool) → (a && (not b || not c)) ≡ true → (b ≡ true → c ≡ false → c' ≡ false) → (a && (not b || not c')) ≡ true
shows_by true true c c' h f = flip c' (f refl (turned c h))
shows_by true false c c' h f = refl
shows_by false b c c' h f = no h

pub some_list : (x v : List ℕ) → Some x ≡ Some v → x ≡ v
some_list x v e = search (rules, arith)

pub none_some : (v : ℕ) → None ≡ Some v → ⊥
none_some v e = search (rules, arith)

now_known : (b : Bool) (x : List ℕ) (old : Option (List ℕ)) → (b ≡ false → (v : List ℕ) × (old ≡ Some v)) → (v : List ℕ) × ((if b then Some x else old) ≡ Some v)
now_known true x old h = (x, refl)
now_known false x old h = h refl

home_now : (b : Bool) (x : List ℕ) (old : Option (List ℕ)) (v : List ℕ) (y : Words) → (b ≡ true → Same y (word_at x)) → ((u : List ℕ) → old ≡ Some u → Same y (word_at u)) → (if b then Some x else old) ≡ Some v → Same y (word_at v)
home_now true x old v y h f e = subst (λ v. Same y (word_at v)) (some_list x v e) (h refl)
home_now false x old v y h f e = f v e

-- what isn't hidden
pub unhide : (c a b : Bool) → (not a ≡ true → not b ≡ true) → not (c && a) ≡ true → not (c && b) ≡ true
unhide true a b f e = f e
unhide false a b f e = refl

module _ (o : Observed) (g : HomeFlit) (sound : Sound o) (low : g.agent.0 < 32) where
  abbrev n : ℕ
  n = g.agent.0

  abbrev d : Due
  d = o.public.due n

  abbrev S : Copies
  S = o.may n

  abbrev then_else : ℕ → Copies
  then_else m = given_of g o.public (o.may m)

  abbrev to : Held → Held
  to h = granted g.grant d h

  pub got_has : (h : Held) → S h ≡ true → got o g (to h) ≡ true
  got_has h e = image_has (λ h. granted g.grant (o.public.due g.agent.0) h) S h e

  pub given_has : (m : ℕ) (h : Held) → o.may m h ≡ true → then_else m (others_given g o.public h) ≡ true
  given_has m h e = image_has (λ h. others_given g o.public h) (o.may m) h e

  pub got_each : (P : Held → Type 0) → ((h : Held) → S h ≡ true → P (to h)) → (k : Held) → got o g k ≡ true → P k
  got_each P all k e = image_each (λ h. granted g.grant (o.public.due g.agent.0) h) S P all k e

  pub given_each : (m : ℕ) (P : Held → Type 0) → ((h : Held) → o.may m h ≡ true → P (others_given g o.public h)) → (k : Held) → then_else m k ≡ true → P k
  given_each m P all k e = image_each (λ h. others_given g o.public h) (o.may m) P all k e

  pub given_kept : renews g.grant d ≡ false → (m : ℕ) (k : Held) → then_else m k ≡ true → o.may m k ≡ true
  given_kept r m k e = given_each m (λ k. o.may m k ≡ true) (λ h x. subst (λ k. o.may m k ≡ true) (sym (shown_kept (renews g.grant d) h r)) x) k e

  pub kept_given : renews g.grant d ≡ false → (m : ℕ) (k : Held) → o.may m k ≡ true → then_else m k ≡ true
  kept_given r m k e = subst (λ k. then_else m k ≡ true) (shown_kept (renews g.grant d) k r) (given_has m k e)

  module _ (may : home_may o.public g ≡ true) where
    pub due : is_due g.grant d (o.public.snooped n) ≡ true
    due = left (is_due g.grant d (o.public.snooped n)) _ may

    -- what fills one copy fills each, and what is shown to one is shown to each
    pub clean_all : gives_copy g.grant ≡ true → (h k : Held) → S h ≡ true → S k ≡ true → is_dirty h.copy ≡ false → is_dirty k.copy ≡ false
    clean_all gives h k x y e = by_false (is_dirty k.copy) (λ z. either (is_shown_dirty k) (is_newer k) (dirty_so k z)
        (λ s. sym e ∙ sound.even n low k h y x s)
        (λ w. sym (sound.seen n low (left (waits_without_news d) _ (gives_read g.grant d (o.public.snooped n) due h gives)) k y (sound.waits n low (turned _ (right (waits_without_news d) _ (gives_read g.grant d (o.public.snooped n) due h gives))) k y)) ∙ w))

    pub fills_all : (h k : Held) → S h ≡ true → S k ≡ true → fills g.grant h ≡ true → fills g.grant k ≡ true
    fills_all h k x y e = both (gives_copy g.grant) _ (left (gives_copy g.grant) _ e) (flip _ (clean_all (left (gives_copy g.grant) _ e) h k x y (turned _ (right (gives_copy g.grant) _ e))))

    pub shows_all : any_of S (shows g.grant) ≡ true → (k : Held) → S k ≡ true → shows g.grant k ≡ true
    shows_all e k y = let x = out_held (λ h. S h && shows g.grant h) e in
        shows_by (gives_data g.grant) (gives_copy g.grant) (is_dirty x.0.copy) (is_dirty k.copy) (right (S x.0) _ x.1) (λ gives. clean_all gives x.0 k (left (S x.0) _ x.1) y)

    pub shows_some : (h : Held) → S h ≡ true → shows g.grant h ≡ true → any_of S (shows g.grant) ≡ true
    shows_some h x e = in_held (λ h. S h && shows g.grant h) h (both (S h) _ x e)

    pub renews_not : makes g.grant d ≡ false → settles g.grant d ≡ false → renews g.grant d ≡ false
    renews_not m s = or_none (makes g.grant d) (settles g.grant d) m s

  module _ (takes : takes_home o g ≡ true) where
    pub may : home_may o.public g ≡ true
    may = left (home_may o.public g) _ takes

    abbrev q : Option Snoop
    q = o.public.snooped n

    abbrev is : is_due g.grant d (o.public.snooped n) ≡ true
    is = due may

    pub fitting : (not (any_of S (shows g.grant)) || fits_home o.home g.shown) ≡ true
    fitting = left (not (any_of S (shows g.grant)) || fits_home o.home g.shown) _ (right (home_may o.public g) _ takes)

    rest : (not (any_of S (λ h. fills g.grant h && h.stored)) && goes o g) ≡ true
    rest = right (not (any_of S (shows g.grant)) || fits_home o.home g.shown) _ (right (home_may o.public g) _ takes)

    -- a copy that is filled wasn't stored to
    pub none_lost : (h : Held) → S h ≡ true → (fills g.grant h && h.stored) ≡ false
    none_lost h x = by_false (fills g.grant h && h.stored) (λ e. sym (turned _ (left (not (any_of S (λ h. fills g.grant h && h.stored))) _ rest)) ∙ in_held (λ h. S h && (fills g.grant h && h.stored)) h (both (S h) _ x e))

    pub filled_shown : (h : Held) → S h ≡ true → fills g.grant h ≡ true → h.stored ≡ false
    filled_shown h x f = by_false h.stored (λ e. sym (none_lost h x) ∙ both (fills g.grant h) _ f e)

    goes_at : (m : ℕ) → m ≢ n → m < 32 → is_beside (got o g) (needs_alone g.grant d) (then_else m) ≡ true
    goes_at m h l = one_of (m == n) _ (each_below 32 (λ m. m == n || is_beside (got o g) (needs_alone g.grant d) (given_of g o.public (o.may m)))
        (right (not (any_of S (λ h. fills g.grant h && h.stored))) _ rest) m l) (unlike m n h)

    pub sets_beside : (m : ℕ) → m ≢ n → m < 32 → (h k : Held) → got o g h ≡ true → then_else m k ≡ true → beside h k ≡ true
    sets_beside m h l = all_beside_out (got o g) (then_else m) (left (all_beside (got o g) (then_else m)) _ (goes_at m h l))

    pub beside_else : (m : ℕ) → m ≢ n → m < 32 → (h k : Held) → S h ≡ true → o.may m k ≡ true → beside (to h) (others_given g o.public k) ≡ true
    beside_else m e l h k x y = sets_beside m e l (to h) (others_given g o.public k) (got_has h x) (given_has m k y)

    pub alone_else : needs_alone g.grant d ≡ true → (m : ℕ) → m ≢ n → m < 32 → (k : Held) → o.may m k ≡ true → same k.copy Invalid ≡ true
    alone_else a m e l k y = by_true (same k.copy Invalid) (λ z.
        let none : any_of (then_else m) (λ k. not (same k.copy Invalid)) ≡ false = turned _ (one_of (not (needs_alone g.grant d)) _ (right (all_beside (got o g) (then_else m)) _ (goes_at m e l)) (ap not a)) in
        sym (in_held (λ k. then_else m k && not (same k.copy Invalid)) (others_given g o.public k) (both (then_else m (others_given g o.public k)) _ (given_has m k y)
        (subst (λ s. not (same s Invalid) ≡ true) (sym (shown_copy (renews g.grant d) k)) (flip _ z)))) ∙ none)

    -- where the value is new no copy of another is left
    pub renewed_alone : renews g.grant d ≡ true → (m : ℕ) → m ≢ n → m < 32 → (k : Held) → o.may m k ≡ true → same k.copy Invalid ≡ true
    renewed_alone r m e l k y = let x = out_held S (sound.some n low) in
        either (makes g.grant d) (settles g.grant d) r
        (λ a. alone_beside (to x.0) k (left (is_unique (to x.0).copy) _ (makes_newer g.grant d q is x.0 a))
        (subst (λ s. compatible (to x.0).copy s ≡ true) (shown_copy (renews g.grant d) k) (beside_goes (to x.0) (others_given g o.public k) (beside_else m e l x.0 k x.1 y))))
        (λ s. alone_else (left (needs_alone g.grant d) _ (settles_none g.grant d q is x.0 s)) m e l k y)

    pub given_none : renews g.grant d ≡ true → (m : ℕ) → m ≢ n → m < 32 → (k : Held) → then_else m k ≡ true → (same k.copy Invalid && not k.stored) ≡ true
    given_none r m e l = given_each m (λ k. (same k.copy Invalid && not k.stored) ≡ true) (λ h x. subst (λ k. (same k.copy Invalid && not k.stored) ≡ true) (sym (shown_is (renews g.grant d) h r))
        (both (same h.copy Invalid) _ (renewed_alone r m e l h x) refl))

    -- WHAT IS KEPT
    some_else : (m : ℕ) → m ≢ n → m < 32 → any_held (then_else m) ≡ true
    some_else m e l = let x = out_held (o.may m) (sound.some m l) in in_held (then_else m) (others_given g o.public x.0) (given_has m x.0 x.1)

    some_at : any_held (got o g) ≡ true
    some_at = let x = out_held S (sound.some n low) in in_held (got o g) (to x.0) (got_has x.0 x.1)

    storable_at : (k : Held) → got o g k ≡ true → k.stored ≡ true → is_storable k ≡ true
    storable_at = got_each (λ k. k.stored ≡ true → is_storable k ≡ true) (λ h x. follow (to h).stored _ (stays_sane g.grant d q is h (both (is_sane h) _ (sane o sound n low h x) (flip _ (none_lost h x)))))

    storable_else : (m : ℕ) → m ≢ n → m < 32 → (k : Held) → then_else m k ≡ true → k.stored ≡ true → is_storable k ≡ true
    storable_else m e l k y s = by_truth (renews g.grant d) (λ r. no (sym (turned _ (right (same k.copy Invalid) _ (given_none r m e l k y))) ∙ s)) (λ r. sound.storable m l k (given_kept r m k y) s)

    known_by : any_of S (shows g.grant) ≡ true → (v : List ℕ) × ((given o g).home ≡ Some v)
    known_by e = now_known (any_of S (shows g.grant)) g.shown o.home (λ z. no (sym z ∙ e))

    known_still : (v : List ℕ) × (o.home ≡ Some v) → (v : List ℕ) × ((given o g).home ≡ Some v)
    known_still x = now_known (any_of S (shows g.grant)) g.shown o.home (λ z. x)

    known_at : (k : Held) → got o g k ≡ true → is_fresh k ≡ true → (v : List ℕ) × ((given o g).home ≡ Some v)
    known_at = got_each (λ k. is_fresh k ≡ true → (v : List ℕ) × ((given o g).home ≡ Some v)) (λ h x e. either (is_fresh h) (fills g.grant h) (fresh_from g.grant d q is h e)
        (λ f. known_still (sound.known n low h x f))
        (λ f. known_by (shows_some may h x (left (shows g.grant h) _ (right (holds_data (to h).copy) _ (fills_data g.grant d q is h f))))))

    known_else : (m : ℕ) → m ≢ n → m < 32 → (k : Held) → then_else m k ≡ true → is_fresh k ≡ true → (v : List ℕ) × ((given o g).home ≡ Some v)
    known_else m e l k y f = by_truth (renews g.grant d) (λ r. no (sym (no_data k.copy (left (same k.copy Invalid) _ (given_none r m e l k y))) ∙ left (holds_data k.copy) _ f)) (λ r. known_still (sound.known m l k (given_kept r m k y) f))

    even_at : (h k : Held) → got o g h ≡ true → got o g k ≡ true → is_shown_dirty h ≡ true → is_dirty k.copy ≡ true
    even_at h k x y = got_each (λ h. is_shown_dirty h ≡ true → is_dirty k.copy ≡ true) (λ h x. got_each (λ k. is_shown_dirty (to h) ≡ true → is_dirty k.copy ≡ true)
        (λ k y. stays_even g.grant d q is h k (implied (is_shown_dirty h) _ (sound.even n low h k x y))) k y) h x

    even_else : (m : ℕ) → m ≢ n → m < 32 → (h k : Held) → then_else m h ≡ true → then_else m k ≡ true → is_shown_dirty h ≡ true → is_dirty k.copy ≡ true
    even_else m e l h k x y s = by_truth (renews g.grant d) (λ r. no (sym (not_dirty h.copy (left (same h.copy Invalid) _ (given_none r m e l h x))) ∙ left (is_dirty h.copy) _ s))
        (λ r. sound.even m l h k (given_kept r m h x) (given_kept r m k y) s)

    seen_at : waits_without_news (due_granted g.grant d) ≡ true → (k : Held) → got o g k ≡ true → k.cancelled ≡ false → is_newer k ≡ false
    seen_at r = got_each (λ k. k.cancelled ≡ false → is_newer k ≡ false) (λ h x. let e = still_reading g.grant d q is h r in
        subst (λ k. k.cancelled ≡ false → is_newer k ≡ false) (sym (same_held_is (to h) h (right (waits_without_news d) _ e))) (sound.seen n low (left (waits_without_news d) _ e) h x))

    seen_else : (m : ℕ) → m ≢ n → m < 32 → waits_without_news (o.public.due m) ≡ true → (k : Held) → then_else m k ≡ true → k.cancelled ≡ false → is_newer k ≡ false
    seen_else m e l i k y c = by_truth (renews g.grant d) (λ r. not_newer k (turned _ (right (same k.copy Invalid) _ (given_none r m e l k y)))) (λ r. sound.seen m l i k (given_kept r m k y) c)

    waits_at : is_resending (due_granted g.grant d) ≡ false → (k : Held) → got o g k ≡ true → k.cancelled ≡ false
    waits_at r = got_each (λ k. k.cancelled ≡ false) (λ h x. sound.waits n low (still_waits g.grant d q is h r) h x)

    waits_else : (m : ℕ) → m < 32 → is_resending (o.public.due m) ≡ false → (k : Held) → then_else m k ≡ true → k.cancelled ≡ false
    waits_else m l r = given_each m (λ k. k.cancelled ≡ false) (λ h x. shown_cancelled (renews g.grant d) h ∙ sound.waits m l r h x)

    -- data without a copy of new words are the old ones
    pub settles_not : (h : Held) → holds_data (to h).copy ≡ true → settles g.grant d ≡ false
    settles_not h e = by_false (settles g.grant d) (λ s. sym (turned _ (left (not (holds_data (to h).copy)) _ (right (not (makes g.grant d)) _ (right (needs_alone g.grant d) _ (settles_none g.grant d q is h s))))) ∙ e)

    alike_kept : are_hidden o.public.stores ≡ false → makes g.grant d ≡ false → (h k : Held) → S h ≡ true → S k ≡ true → holds_data (to h).copy ≡ true → holds_data (to k).copy ≡ true → h.stored ≡ k.stored
    alike_kept z mf h k x y a b = by_truth (fills g.grant h)
        (λ f. filled_shown h x f ∙ sym (filled_shown k y (fills_all may h k x y f)))
        (λ f. sound.alike z n low h k x y (kept_data g.grant d q is h (both _ _ a (both _ _ (flip _ f) (flip _ mf))))
        (kept_data g.grant d q is k (both _ _ b (both _ _ (flip _ (by_false (fills g.grant k) (λ f'. sym f ∙ fills_all may k h y x f'))) (flip _ mf)))))

    made_stored : (h : Held) → makes g.grant d ≡ true → (to h).stored ≡ true
    made_stored h e = right (holds_data (to h).copy) _ (right (is_unique (to h).copy) _ (makes_newer g.grant d q is h e))

    alike_at : are_hidden o.public.stores ≡ false → (h k : Held) → got o g h ≡ true → got o g k ≡ true → holds_data h.copy ≡ true → holds_data k.copy ≡ true → h.stored ≡ k.stored
    alike_at z h k x y = got_each (λ h. holds_data h.copy ≡ true → holds_data k.copy ≡ true → h.stored ≡ k.stored) (λ h x. got_each (λ k. holds_data (to h).copy ≡ true → holds_data k.copy ≡ true → (to h).stored ≡ k.stored)
        (λ k y a b. by_truth (makes g.grant d) (λ e. made_stored h e ∙ sym (made_stored k e)) (λ e. let r = renews_not may e (settles_not h a) in
        keeps_stored g.grant d q is h r ∙ alike_kept z e h k x y a b ∙ sym (keeps_stored g.grant d q is k r))) k y) h x

    alike_else : are_hidden o.public.stores ≡ false → (m : ℕ) → m ≢ n → m < 32 → (h k : Held) → then_else m h ≡ true → then_else m k ≡ true → holds_data h.copy ≡ true → holds_data k.copy ≡ true → h.stored ≡ k.stored
    alike_else z m e l h k x y a b = by_truth (renews g.grant d) (λ r. no (sym (no_data h.copy (left (same h.copy Invalid) _ (given_none r m e l h x))) ∙ a))
        (λ r. sound.alike z m l h k (given_kept r m h x) (given_kept r m k y) a b)

    pub given_sound : Sound (given o g)
    given_sound = record {
      some = λ i. everywhere (λ i D X. i < 32 → any_held X ≡ true) n (due_granted g.grant d) (got o g) o.public.due then_else (λ _. some_at) some_else i;
      pairs = λ i j li lj e. pairwise (λ i j X Y. i < 32 → j < 32 → (h k : Held) → X h ≡ true → Y k ≡ true → beside h k ≡ true) n (got o g) then_else
          (λ m e _ l. sets_beside m e l) (λ m e l _ h k x y. beside_back k h (sets_beside m e l k h y x))
          (λ i j e li lj h k x y. given_each i (λ h. beside h k ≡ true) (λ h x. given_each j (λ k. beside (others_given g o.public h) k ≡ true)
          (λ k y. shown_beside (renews g.grant d) h k (sound.pairs i j li lj e h k x y)) k y) h x) i j e li lj;
      storable = λ i. everywhere (λ i D X. i < 32 → (h : Held) → X h ≡ true → h.stored ≡ true → is_storable h ≡ true) n (due_granted g.grant d) (got o g) o.public.due then_else (λ _. storable_at) storable_else i;
      known = λ i. everywhere (λ i D X. i < 32 → (h : Held) → X h ≡ true → is_fresh h ≡ true → (v : List ℕ) × ((given o g).home ≡ Some v)) n (due_granted g.grant d) (got o g) o.public.due then_else (λ _. known_at) known_else i;
      even = λ i. everywhere (λ i D X. i < 32 → (h k : Held) → X h ≡ true → X k ≡ true → is_shown_dirty h ≡ true → is_dirty k.copy ≡ true) n (due_granted g.grant d) (got o g) o.public.due then_else (λ _. even_at) even_else i;
      seen = λ i. everywhere (λ i D X. i < 32 → waits_without_news D ≡ true → (h : Held) → X h ≡ true → h.cancelled ≡ false → is_newer h ≡ false) n (due_granted g.grant d) (got o g) o.public.due then_else (λ _. seen_at) seen_else i;
      waits = λ i. everywhere (λ i D X. i < 32 → is_resending D ≡ false → (h : Held) → X h ≡ true → h.cancelled ≡ false) n (due_granted g.grant d) (got o g) o.public.due then_else (λ _. waits_at) (λ m _. waits_else m) i;
      alike = λ z i. everywhere (λ i D X. i < 32 → (h k : Held) → X h ≡ true → X k ≡ true → holds_data h.copy ≡ true → holds_data k.copy ≡ true → h.stored ≡ k.stored) n (due_granted g.grant d) (got o g) o.public.due then_else (λ _. alike_at z) (alike_else z) i;
    }

    -- agents that a flit isn't sent to take hidden steps as before
    shown_at : (m : ℕ) (h : Held) → renews g.grant d ≡ true → o.may m h ≡ true → (k : Held) → same_held (shown_of h) k ≡ true → then_else m k ≡ true
    shown_at m h r x k e = subst (λ k. then_else m k ≡ true) (shown_is (renews g.grant d) h r ∙ same_held_is (shown_of h) k e) (given_has m h x)

    slip_gone : (m : ℕ) (h : Held) → renews g.grant d ≡ true → same h.copy Invalid ≡ true → ((k : Held) → slips o.public.stores (o.public.due m) h k ≡ true → o.may m k ≡ true)
        → o.may m h ≡ true → (k : Held) → slips o.public.stores (o.public.due m) (shown_of h) k ≡ true → then_else m k ≡ true
    slip_gone m h r i shut x k s = either (same_held (shown_of h) k) _ s (λ e. shown_at m h r x k e)
        (λ s. either (same_held (freed (o.public.due m) (shown_of h)) k) _ (right (may_be_free (o.public.due m)) _ s)
        (λ e. shown_at m (freed (o.public.due m) h) r (shut (freed (o.public.due m) h) (slip_free o.public.stores (o.public.due m) h (left (may_be_free (o.public.due m)) _ s))) k e)
        (λ s. either (are_hidden o.public.stores && (is_unique h.copy && same_held (stored_to (freed (o.public.due m) (shown_of h))) k)) _ s
        (λ s. no (sym (ap is_unique (same_is h.copy Invalid i)) ∙ left (is_unique h.copy) _ (right (are_hidden o.public.stores) _ s)))
        (λ s. no (sym (ap is_clean (same_is h.copy Invalid i)) ∙ left (is_clean h.copy) _ s))))

    closed_kept : (m : ℕ) → m ≢ n → m < 32 → ((h k : Held) → o.may m h ≡ true → slips o.public.stores (o.public.due m) h k ≡ true → o.may m k ≡ true)
        → (h k : Held) → then_else m h ≡ true → slips o.public.stores (o.public.due m) h k ≡ true → then_else m k ≡ true
    closed_kept m e l shut h k x s = by_truth (renews g.grant d)
        (λ r. given_each m (λ h. slips o.public.stores (o.public.due m) h k ≡ true → then_else m k ≡ true) (λ h x s. slip_gone m h r (renewed_alone r m e l h x) (λ k. shut h k x) x k
        (subst (λ h. slips o.public.stores (o.public.due m) h k ≡ true) (shown_is (renews g.grant d) h r) s)) h x s)
        (λ r. kept_given r m k (shut h k (given_kept r m h x) s))

    pub others_closed : (m : ℕ) → m ≢ n → m < 32 → ((h k : Held) → o.may m h ≡ true → slips o.public.stores (o.public.due m) h k ≡ true → o.may m k ≡ true)
        → (h k : Held) → (given o g).may m h ≡ true → slips (given o g).public.stores ((given o g).public.due m) h k ≡ true → (given o g).may m k ≡ true
    others_closed m e l shut = subst (λ D. (h k : Held) → (given o g).may m h ≡ true → slips o.public.stores D h k ≡ true → (given o g).may m k ≡ true) (sym (there n (due_granted g.grant d) o.public.due m e))
        (subst (λ X. (h k : Held) → X h ≡ true → slips o.public.stores (o.public.due m) h k ≡ true → X k ≡ true) (sym (there n (got o g) then_else m e)) (closed_kept m e l shut))

    -- WHERE IT LEADS
    -- beside a copy that is filled none was stored to
    pub filled_else : (h : Held) → S h ≡ true → fills g.grant h ≡ true → (m : ℕ) → m ≢ n → m < 32 → (k : Held) → o.may m k ≡ true → k.stored ≡ false
    filled_else h x f m e l k y =
        let facts = fills_data g.grant d q is h f in
        let r : renews g.grant d ≡ false = turned _ (right (shows g.grant h) _ (right (holds_data (to h).copy) _ facts)) in
        none_stored (to h) k (subst (λ k. beside (to h) k ≡ true) (shown_kept (renews g.grant d) k r) (beside_else m e l h k x y)) (sane o sound m l k y)
        (both (holds_data (to h).copy) _ (left (holds_data (to h).copy) _ facts) (flip _ (keeps_stored g.grant d q is h r ∙ filled_shown h x f)))

    newer_before : (h : Held) → S h ≡ true → makes g.grant d ≡ false → renews g.grant d ≡ false → is_newer (to h) ≡ true → is_newer h ≡ true
    newer_before h x mf r e =
        let s : h.stored ≡ true = sym (keeps_stored g.grant d q is h r) ∙ left (to h).stored _ e in
        both h.stored _ s (kept_data g.grant d q is h (both _ _ (right (to h).stored _ e) (both _ _ (flip _ (by_false (fills g.grant h) (λ f. sym (filled_shown h x f) ∙ s))) (flip _ mf))))

    news_before : (h : Held) → S h ≡ true → makes g.grant d ≡ false → renews g.grant d ≡ false → (is_newer (to h) && not (may_hide o.public.stores (due_granted g.grant d) (to h))) ≡ true → has_news o.public n h ≡ true
    news_before h x mf r e = both (is_newer h) _ (newer_before h x mf r (left (is_newer (to h)) _ e))
        (unhide (are_hidden o.public.stores) (may_store (due_granted g.grant d) (to h)) (may_store d h) (store_before g.grant d q is h) (right (is_newer (to h)) _ e))

    module _ (w w' : World) (m : Meaning o w) (informed : Informed g w) (gives : Gives o.public g w w') where
      abbrev h : Held
      h = w.state n

      has : S h ≡ true
      has = m.copies n low

      copies_then : (i : ℕ) → i < 32 → (given o g).may i (w'.state i) ≡ true
      copies_then = split (λ i. i < 32 → (given o g).may i (w'.state i) ≡ true) n
          (λ _. subst (λ X. X (w'.state n) ≡ true) (sym (here n (got o g) then_else)) (subst (λ k. got o g k ≡ true) (sym gives.state) (got_has h has)))
          (λ i e l. subst (λ X. X (w'.state i) ≡ true) (sym (there n (got o g) then_else i e)) (subst (λ k. then_else i k ≡ true) (sym (gives.others.state i l e)) (given_has i (w.state i) (m.copies i l))))

      last_kept : makes g.grant d ≡ false → settles g.grant d ≡ false → Same w'.last w.last
      last_kept mf sf = unchosen (λ u. Same w'.last u) (settles g.grant d) w.home w.last sf (gives.last mf)

      last_home : makes g.grant d ≡ false → settles g.grant d ≡ true → Same w'.last w.home
      last_home mf s = chosen (λ u. Same w'.last u) (settles g.grant d) w.home w.last s (gives.last mf)

      home_last : fills g.grant h ≡ true → Same w.home w.last
      home_last f = m.current (split (λ i. i < 32 → (w.state i).stored ≡ false) n (λ _. filled_shown h has f) (λ i e l. filled_else h has f i e l (w.state i) (m.copies i l)))

      data_then : holds_data (w'.state n).copy ≡ true → holds_data (to h).copy ≡ true
      data_then = subst (λ k. holds_data k.copy ≡ true) gives.state

      words_kept : makes g.grant d ≡ false → holds_data (w'.state n).copy ≡ true → Same (w'.words n) w.last
      words_kept mf e = by_truth (fills g.grant h)
          (λ f. same_trans _ _ _ (chosen (λ u. Same (w'.words n) u) (fills g.grant h) (word_at g.shown) (w.words n) f (gives.words e mf))
          (same_trans _ _ _ (same_sym _ _ (informed (left (shows g.grant h) _ (right (holds_data (to h).copy) _ (fills_data g.grant d q is h f))))) (home_last f)))
          (λ f. same_trans _ _ _ (unchosen (λ u. Same (w'.words n) u) (fills g.grant h) (word_at g.shown) (w.words n) f (gives.words e mf))
          (m.words n low (kept_data g.grant d q is h (both _ _ (data_then e) (both _ _ (flip _ f) (flip _ mf))))))

      words_at : holds_data (w'.state n).copy ≡ true → Same (w'.words n) w'.last
      words_at e = by_truth (makes g.grant d) gives.made (λ mf. same_trans _ _ _ (words_kept mf e) (same_sym _ _ (last_kept mf (settles_not h (data_then e)))))

      copy_else : (i : ℕ) → i ≢ n → i < 32 → (w'.state i).copy ≡ (w.state i).copy
      copy_else i e l = ap (λ (k : Held). k.copy) (gives.others.state i l e) ∙ shown_copy (renews g.grant d) (w.state i)

      words_else : (i : ℕ) → i ≢ n → i < 32 → holds_data (w'.state i).copy ≡ true → Same (w'.words i) w'.last
      words_else i e l x =
          let y : holds_data (w.state i).copy ≡ true = subst (λ s. holds_data s ≡ true) (copy_else i e l) x in
          let r : renews g.grant d ≡ false = by_false (renews g.grant d) (λ r. sym (no_data (w.state i).copy (renewed_alone r i e l (w.state i) (m.copies i l))) ∙ y) in
          same_trans _ _ _ (same_by _ _ (gives.others.words i l e)) (same_trans _ _ _ (m.words i l y) (same_sym _ _ (last_kept (not_left (makes g.grant d) _ r) (not_right (makes g.grant d) _ r))))

      home_then : (v : List ℕ) → (given o g).home ≡ Some v → Same w'.home (word_at v)
      home_then v e = home_now (any_of S (shows g.grant)) g.shown o.home v w'.home
          (λ s. same_trans _ _ _ (same_by _ _ gives.home) (informed (shows_all may s h has)))
          (λ u x. same_trans _ _ _ (same_by _ _ gives.home) (m.home u x)) e

      shown_before : renews g.grant d ≡ false → Shown w' → Shown w
      shown_before r shown = split (λ i. i < 32 → (w.state i).stored ≡ false) n
          (λ l. sym (keeps_stored g.grant d q is h r) ∙ ap (λ (k : Held). k.stored) (sym gives.state) ∙ shown n l)
          (λ i e l. ap (λ (k : Held). k.stored) (sym (gives.others.state i l e ∙ shown_kept (renews g.grant d) (w.state i) r)) ∙ shown i l)

      current_then : Shown w' → Same w'.home w'.last
      current_then shown = by_truth (makes g.grant d)
          (λ e. no (sym (shown n low) ∙ ap (λ (k : Held). k.stored) gives.state ∙ made_stored h e))
          (λ mf. same_trans _ _ _ (same_by _ _ gives.home) (by_truth (settles g.grant d) (λ s. same_sym _ _ (last_home mf s))
          (λ sf. same_trans _ _ _ (m.current (shown_before (renews_not may mf sf) shown)) (same_sym _ _ (last_kept mf sf)))))

      none_left : settles g.grant d ≡ true → (i : ℕ) → i < 32 → (w'.state i).stored ≡ false
      none_left s = split (λ i. i < 32 → (w'.state i).stored ≡ false) n
          (λ _. ap (λ (k : Held). k.stored) gives.state ∙ turned _ (right (not (holds_data (to h).copy)) _ (right (not (makes g.grant d)) _ (right (needs_alone g.grant d) _ (settles_none g.grant d q is h s)))))
          (λ i e l. ap (λ (k : Held). k.stored) (gives.others.state i l e ∙ shown_is (renews g.grant d) (w.state i) (or_right (makes g.grant d) (settles g.grant d) s)))

      news_was : makes g.grant d ≡ false → renews g.grant d ≡ false → (i : ℕ) → i < 32 → has_news (given o g).public i (w'.state i) ≡ true → has_news o.public i (w.state i) ≡ true
      news_was mf r = split (λ i. i < 32 → has_news (given o g).public i (w'.state i) ≡ true → has_news o.public i (w.state i) ≡ true) n
          (λ _ e. news_before h has mf r (subst (λ D. (is_newer (to h) && not (may_hide o.public.stores D (to h))) ≡ true) (here n (due_granted g.grant d) o.public.due)
          (subst (λ k. has_news (given o g).public n k ≡ true) gives.state e)))
          (λ i x l e. subst (λ D. (is_newer (w.state i) && not (may_hide o.public.stores D (w.state i))) ≡ true) (there n (due_granted g.grant d) o.public.due i x)
          (subst (λ k. has_news (given o g).public i k ≡ true) (gives.others.state i l x ∙ shown_kept (renews g.grant d) (w.state i) r) e))

      news_then : (i : ℕ) → i < 32 → has_news (given o g).public i (w'.state i) ≡ true → (p : ℕ) → p < 8 → (v : ℕ) → (given o g).news p ≡ Some v → w'.last p ≡ v
      news_then i l e p lp v x = by_truth (makes g.grant d)
          (λ y. absurd (none_some v (chosen (λ (u : ℕ → Option ℕ). u p ≡ Some v) (makes g.grant d) no_words o.news y x)))
          (λ mf. by_truth (settles g.grant d) (λ s. no (sym (not_newer (w'.state i) (none_left s i l)) ∙ left (is_newer (w'.state i)) _ e))
          (λ sf. last_kept mf sf p lp ∙ m.news i l (news_was mf (renews_not may mf sf) i l e) p lp v (unchosen (λ (u : ℕ → Option ℕ). u p ≡ Some v) (makes g.grant d) no_words o.news mf x)))

      pub given_leads : Meaning (given o g) w'
      given_leads = record {
        copies = copies_then;
        words = split (λ i. i < 32 → holds_data (w'.state i).copy ≡ true → Same (w'.words i) w'.last) n (λ _. words_at) words_else;
        home = home_then;
        current = current_then;
        news = news_then;
      }

pub home_leads : HomeFlitsLead
home_leads o g w w' sound low takes m informed gives = given_leads o g sound low takes w w' m informed gives

pub home_safe : HomeFlitsAreSafe
home_safe o g w sound low takes m informed = (
  left (home_may o.public g) _ takes,
  λ w' gives. coherent (given o g) w' (given_sound o g sound low takes) (given_leads o g sound low takes w w' m informed gives),
  λ a i l e. alone_else o g sound low takes a i e l (w.state i) (m.copies i l),
)
