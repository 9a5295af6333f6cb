-- A line of the code after a flit is what the observer keeps then.
use Rattle.std.proofs.Common.{rules, arith, ◌≡◌, ◌⊎◌, inl, inr, ℕ, zero, suc, ◌<◌, ◌≤◌, List, [], ◌∷◌, length, refl, sym, subst, ap, ◌∙◌, slice_index_or, slice_set}
use Rattle.std.proofs.Math.Path.{fun_ext}
use Rattle.std.proofs.lemmas.List.{get_or-set_other, get_or_past}
use Rattle.std.proofs.lemmas.Grind.{get_or-set_at}
use Rattle.std.specs.Prelude.{replicate, nat_lt, Bool, true, false, ◌&&◌, ◌||◌, ◌==◌, not, Option, Some, None, if◌then◌else◌}
use Rattle.chi_observer.specs.declared.kinds.Snoop.{Snoop}
use Rattle.chi_observer.specs.declared.flits.Due.{Due}
use Rattle.chi_copies.specs.declared.dues.DueCode.{DueCode}
use Rattle.chi_copies.specs.Dues.{due_is}
use Rattle.chi_observer.specs.declared.flits.Stores.{Stores}
use Rattle.chi_observer.specs.declared.flits.Word.{Word}
use Rattle.chi_observer.specs.declared.flits.Act.{Act}
use Rattle.chi_observer.specs.declared.flits.Act.TheVariants.{Request, Resend, SnpResp, CompAck, CopyBackWrData, NonCopyBackWrData, Load, Store}
use Rattle.chi_observer.specs.declared.flits.CacheFlit.{CacheFlit}
use Rattle.chi_observer.specs.declared.flits.HomeFlit.{HomeFlit}
use Rattle.chi_observer.specs.declared.flits.Flit.{Flit}
use Rattle.chi_copies.specs.Moments.{behind, is_issue, is_moment, has_moment, shown_after}
use Rattle.chi_copies.specs.declared.copies.Copies.{Copies as CopiesCode}
use Rattle.chi_copies.specs.declared.line.Line.{Line}
use Rattle.chi_copies.specs.declared.sends.Fits.{Fits}
use Rattle.chi_copies.specs.declared.sends.Sent.{Sent}
use Rattle.chi_copies.specs.declared.tests.Test.{Test}
use Rattle.chi_copies.specs.declared.tests.Test.TheVariants as tests
use Rattle.chi_observer.specs.Copies.{holds_data, is_unique}
use Rattle.chi_observer.specs.Rules.{awaits_moment, reads_once, allows, lets_go, has_data, word_at, tells_words, passes_duty, due_after, snooped_after, due_granted, snooped_granted, needs_duty, needs_alone, makes}
use Rattle.chi_copies.specs.Copies.{Held, Copies, shown_of, any_held, image, leaves, same_held, is_fresh, is_newer}
use Rattle.chi_copies.specs.Rules.{may_store, slips, stored_to, granted, shows, renews}
use Rattle.chi_copies.specs.Worlds.{put, is_placed, all_below, home_may}
use Rattle.chi_copies.specs.Observed.{Observed, any_of, fits_at, differs_at, fits_each, home_at, may_own, of_eight, shown_all, sends, sent, stores_from, known_before, has_news, moved, loose, takes, news_after, no_words, got, given, given_of, goes, is_beside, fits_home, takes_home}
use Rattle.chi_copies.specs.Runs.{nothing_told}
use Rattle.chi_copies.specs.Sets.{members}
use Rattle.chi_copies.specs.Lines.{fits_by, fits_any, known_at, sends_by, sent_of, nobody, nothing_due, may_at, due_at, snooped_at, observed, known_stored, others_may, passes, keeps_order, is_taken_home, issues, shown_at, shown_here, none_stored_of, none_dirty_of}
use Rattle.chi_copies.proofs.Finite.{no, turned, each_held, in_held}
use Rattle.chi_copies.proofs.Put.{here, there, split}
use Rattle.chi_copies.proofs.Sets.{alike_is, each_below, same_itself, stay_is}
use Rattle.chi_copies.specs.Copies.{alike, plain}
use Rattle.chi_observer.specs.Copies.Copy.{Invalid}
use Rattle.chi_copies.proofs.Eight.{eight_is}

pub no_more : (l a b : Bool) → b ≡ false → l ≡ (l || (a && b))
no_more true a b h = refl
no_more false true b h = sym h
no_more false false b h = refl

pub copies_same : (S T : Copies) → ((h : Held) → S h ≡ T h) → S ≡ T
copies_same S T h = fun_ext h

and_true : (b : Bool) → (b && true) ≡ b
and_true true = refl
and_true false = refl

pub each_any : (S T : Copies) → ((h : Held) → S h ≡ T h) → any_held (λ h. S h && true) ≡ any_held T
each_any S T e = ap any_held (fun_ext (λ h. and_true (S h) ∙ e h))

pub same_any : (S T f : Copies) → ((h : Held) → S h ≡ T h) → any_of S f ≡ any_of T f
same_any S T f e = ap any_held (fun_ext (λ h. ap (λ (b : Bool). b && f h) (e h)))

-- as seen by v
pub set_is_put : {A B : Type 0} (v : A → B) (xs : List A) (n : ℕ) (x d : A) → n < length xs → (λ (m : ℕ). v (slice_index_or (slice_set xs n x) m d)) ≡ put n (v x) (λ (m : ℕ). v (slice_index_or xs m d))
set_is_put {A} {B} v xs n x d low = fun_ext (split (λ m. v (slice_index_or (slice_set xs n x) m d) ≡ put n (v x) (λ (m : ℕ). v (slice_index_or xs m d)) m) n
    (ap v (get_or-set_at xs n n x d refl low) ∙ sym (here n (v x) (λ (m : ℕ). v (slice_index_or xs m d))))
    (λ m h. ap v (get_or-set_other xs n m x d h) ∙ sym (there n (v x) (λ (m : ℕ). v (slice_index_or xs m d)) m h)))

pub with_known : (known : List (Option ℕ)) (n place value : ℕ) → n ≡ place → n < length known → known_at (slice_set known n (Some value)) ≡ put place (Some value) (known_at known)
with_known known n place value e low = set_is_put (λ (x : Option ℕ). x) known n (Some value) None low ∙ ap (λ k. put k (Some value) (known_at known)) e

-- WORDS
none_known : (k p : ℕ) → known_at (replicate k None) p ≡ None
none_known zero zero = refl
none_known zero (suc p) = refl
none_known (suc k) zero = refl
none_known (suc k) (suc p) = none_known k p

pub none_are_known : known_at (replicate 8 None) ≡ no_words
none_are_known = fun_ext (none_known 8)

of_none : (p : ℕ) (b : Bool) → (if b then home_at None p else None) ≡ None
of_none p true = refl
of_none p false = refl

pub no_home : (home : Option (List ℕ)) → home ≡ None → known_at (replicate 8 None) ≡ of_eight (home_at home)
no_home home e = none_are_known ∙ sym (ap (λ h. of_eight (home_at h)) e ∙ fun_ext (λ p. of_none p (nat_lt p 8)))

past_eight : (p : ℕ) → nat_lt (suc (suc (suc (suc (suc (suc (suc (suc p)))))))) 8 ≡ false
past_eight p = search (rules, arith)

some_at : (v : List ℕ) (p : ℕ) → known_at (Some (slice_index_or v 0 0) ∷ Some (slice_index_or v 1 0) ∷ Some (slice_index_or v 2 0) ∷ Some (slice_index_or v 3 0) ∷ Some (slice_index_or v 4 0) ∷ Some (slice_index_or v 5 0) ∷ Some (slice_index_or v 6 0) ∷ Some (slice_index_or v 7 0) ∷ []) p ≡ of_eight (home_at (Some v)) p
some_at v zero = refl
some_at v (suc zero) = refl
some_at v (suc (suc zero)) = refl
some_at v (suc (suc (suc zero))) = refl
some_at v (suc (suc (suc (suc zero)))) = refl
some_at v (suc (suc (suc (suc (suc zero))))) = refl
some_at v (suc (suc (suc (suc (suc (suc zero)))))) = refl
some_at v (suc (suc (suc (suc (suc (suc (suc zero))))))) = refl
some_at v (suc (suc (suc (suc (suc (suc (suc (suc p)))))))) = sym (ap (λ (b : Bool). if b then home_at (Some v) (suc (suc (suc (suc (suc (suc (suc (suc p)))))))) else None) (past_eight p))

pub some_home : (home : Option (List ℕ)) (v : List ℕ) → home ≡ Some v → known_at (Some (slice_index_or v 0 0) ∷ Some (slice_index_or v 1 0) ∷ Some (slice_index_or v 2 0) ∷ Some (slice_index_or v 3 0) ∷ Some (slice_index_or v 4 0) ∷ Some (slice_index_or v 5 0) ∷ Some (slice_index_or v 6 0) ∷ Some (slice_index_or v 7 0) ∷ []) ≡ of_eight (home_at home)
some_home home v e = fun_ext (some_at v) ∙ sym (ap (λ h. of_eight (home_at h)) e)

-- beside the eight of them
own_eight : (a : Act) (k : ℕ → Option ℕ) (own : Bool) → is_placed a ≡ true → may_own a (of_eight k) own ≡ may_own a k own
own_eight (Load word) k true h = let l : word.place.0 < 8 = search (rules, arith) in ap (λ u. fits_at u word.value) (eight_is k word.place.0 l)
own_eight (Load word) k false h = let l : word.place.0 < 8 = search (rules, arith) in ap (λ u. differs_at u word.value) (eight_is k word.place.0 l)
own_eight (Request kind) k own h = refl
own_eight (Resend kind) k own h = refl
own_eight (SnpResp answer) k own h = refl
own_eight CompAck k own h = refl
own_eight (CopyBackWrData form) k own h = refl
own_eight NonCopyBackWrData k own h = refl
own_eight (Store word) k own h = refl

fits_eight : (f : CacheFlit) (k : ℕ → Option ℕ) → is_placed f.act ≡ true → fits_by f (of_eight k) ≡ fits_by f k
fits_eight f k h = λ i. record { shown = not (has_data f.act) || fits_each k (word_at f.shown); own = own_eight f.act k true h i; other = own_eight f.act k false h i }

pub fits_home_is : (f : CacheFlit) (home : Option (List ℕ)) (known : ℕ → Option ℕ) (x : Fits) → is_placed f.act ≡ true → known ≡ of_eight (home_at home) → x ≡ fits_by f known → x ≡ fits_by f (home_at home)
fits_home_is f home known x p e h = h ∙ ap (fits_by f) e ∙ fits_eight f (home_at home) p

-- ONE COPY
or_true : (b : Bool) → true ≡ (b || true)
or_true true = refl
or_true false = refl

and_or : (t x : Bool) → (t && true) ≡ (t && (x || true))
and_or t x = ap (λ b. t && b) (or_true x)

module _ (f : CacheFlit) (shown : List ℕ) (A B : Bool) where
  none_by : (a : Act) → ((((fits_any a).own && A) || ((fits_any a).other && B)) && (fits_any a).shown) ≡ (((may_own a no_words true && A) || (may_own a no_words false && B)) && (not (has_data a) || fits_each no_words (word_at shown)))
  none_by (Request kind) = and_or (A || false) (not (has_data (Request kind)))
  none_by (Resend kind) = and_or (A || false) (not (has_data (Resend kind)))
  none_by (SnpResp answer) = and_or (A || false) (not (has_data (SnpResp answer)))
  none_by CompAck = and_or (A || false) (not (has_data CompAck))
  none_by (CopyBackWrData form) = and_or (A || false) (not (has_data (CopyBackWrData form)))
  none_by NonCopyBackWrData = and_or (A || false) (not (has_data NonCopyBackWrData))
  none_by (Load word) = and_or (A || B) (not (has_data (Load word)))
  none_by (Store word) = and_or (A || false) (not (has_data (Store word)))

known_by : (f : CacheFlit) (hk nk : ℕ → Option ℕ) (A B b c : Bool) → ((((if b then fits_by f hk else (if c then fits_by f nk else fits_any f.act)).own && A) || ((if b then fits_by f hk else (if c then fits_by f nk else fits_any f.act)).other && B)) && (if b then fits_by f hk else (if c then fits_by f nk else fits_any f.act)).shown)
    ≡ (((may_own f.act (λ p. if b then hk p else (if c then nk p else None)) true && A) || (may_own f.act (λ p. if b then hk p else (if c then nk p else None)) false && B)) && (not (has_data f.act) || fits_each (λ p. if b then hk p else (if c then nk p else None)) (word_at f.shown)))
known_by f hk nk A B true c = refl
known_by f hk nk A B false true = refl
known_by f hk nk A B false false = none_by f f.shown A B f.act

pub sends_same : (o : Observed) (f : CacheFlit) (h k : Held) → sends_by (sent_of o f) h k ≡ sends o f h k
sends_same o f h k = known_by f (home_at o.home) o.news _ _ (is_fresh h) (has_news o.public f.agent.0 h)

pub image_same : (o : Observed) (f : CacheFlit) (S : Copies) (k : Held) → image (sends_by (sent_of o f)) S k ≡ image (sends o f) S k
image_same o f S k = ap any_held (fun_ext (λ h. ap (λ (b : Bool). S h && b) (sends_same o f h k)))

-- A STORE
true_so : (b : Bool) → b ≡ true → ((b || false) && true) ≡ true
true_so true h = refl
true_so false h = no h

stores_once : (b c : Bool) (t : Held) → any_held (λ k. (leaves (if b then (if c then Some t else None) else None) k || false) && true) ≡ (b && c)
stores_once true true t = in_held (λ k. (same_held t k || false) && true) t (true_so (same_held t t) (same_itself t))
stores_once true false t = refl
stores_once false c t = refl

from_store : (m s u y : Bool) → ((m && (s && u)) && (u && y)) ≡ (m && (s && (u && y)))
from_store true true true y = refl
from_store true true false y = refl
from_store true false u y = refl
from_store false s u y = refl

module _ (o : Observed) (f : CacheFlit) (word : Word) where
  abbrev store : CacheFlit
  store = record { agent = f.agent; act = Store word; shown = f.shown }

  abbrev n : ℕ
  n = f.agent.0

  store_from : (y : Held → Bool) → any_held (λ h. stores_from o store h && (is_unique h.copy && y h)) ≡ any_held (λ h. o.may n h && (may_store (o.public.due n) h && (is_unique h.copy && y h)))
  store_from y = ap any_held (fun_ext (λ h. ap (λ (b : Bool). (o.may n h && b) && (is_unique h.copy && y h)) (stores_once (may_store (o.public.due n) h) (is_unique h.copy) (stored_to h))
      ∙ from_store (o.may n h) (may_store (o.public.due n) h) (is_unique h.copy) (y h)))

  stored_at : (p : ℕ) → known_stored o n p ≡ known_before o n (stores_from o store) p
  stored_at p = sym (ap (λ (b : Bool). if b then None else (if any_held (λ h. stores_from o store h && (is_unique h.copy && is_newer h)) then o.news p else of_eight (home_at o.home) p)) (store_from (λ h. not (holds_data h.copy)))
      ∙ ap (λ (b : Bool). if any_held (λ h. o.may n h && (may_store (o.public.due n) h && (is_unique h.copy && not (holds_data h.copy)))) then None else (if b then o.news p else of_eight (home_at o.home) p)) (store_from is_newer))

  pub news_stored : f.act ≡ Store word → put word.place.0 (Some word.value) (known_stored o n) ≡ news_after o f
  news_stored e = ap (put word.place.0 (Some word.value)) (fun_ext stored_at) ∙ sym (ap (news_after o) f_is)
    where
      f_is : f ≡ store
      f_is = λ i. record { agent = f.agent; act = e i; shown = f.shown }

  pub news_loaded : f.act ≡ Load word → put word.place.0 (Some word.value) o.news ≡ news_after o f
  news_loaded e = sym (ap (news_after o) f_is)
    where
      f_is : f ≡ record { agent = f.agent; act = Load word; shown = f.shown }
      f_is = λ i. record { agent = f.agent; act = e i; shown = f.shown }

abbrev pub made_sent : Stores → Act → Bool → Due → Fits → Fits → Sent
made_sent z a g d h n = record { stores = z; act = a; goes = g; due = d; home = h; news = n }

-- THE WHOLE LINE
abbrev made : Stores → (ℕ → Due) → (ℕ → Option Snoop) → Bool → (ℕ → Copies) → Option (List ℕ) → (ℕ → Option ℕ) → Observed
made z e q d t v w = record { public = record { stores = z; due = e; snooped = q; duty = d }; may = t; home = v; news = w }

pub made_same : (z : Stores) (e e' : ℕ → Due) (q q' : ℕ → Option Snoop) (d d' : Bool) (t t' : ℕ → Copies) (v v' : Option (List ℕ)) (w w' : ℕ → Option ℕ) → e ≡ e' → q ≡ q' → d ≡ d' → t ≡ t' → v ≡ v' → w ≡ w' → made z e q d t v w ≡ made z e' q' d' t' v' w'
made_same z e e' q q' d d' t t' v v' w w' he hq hd ht hv hw = λ i. made z (he i) (hq i) (hd i) (ht i) (hv i) (hw i)

abbrev pub line_of : Stores → List DueCode → List (Option Snoop) → Bool → List CopiesCode → Option (List ℕ) → List (Option ℕ) → Line
line_of z e q d t v w = record { stores = z; due = e; snooped = q; duty = d; may = t; home = v; news = w; shown = [] }

module _ (z : Stores) (due : List DueCode) (snooped : List (Option Snoop)) (duty : Bool) (may : List CopiesCode) (home : Option (List ℕ)) (news : List (Option ℕ)) where
  abbrev old : Observed
  old = observed (line_of z due snooped duty may home news)

  -- before hidden steps
  stepped : (n : ℕ) (d : DueCode) (D : Due) (q Q : Option Snoop) (duty' Y : Bool) (left : CopiesCode) (S : Copies) (may' : List CopiesCode) (others : ℕ → Copies) (home' V : Option (List ℕ)) (news' : List (Option ℕ)) (W : ℕ → Option ℕ) → n < length due → n < length snooped → n < length may'
      → due_is d ≡ D → q ≡ Q → duty' ≡ Y → ((h : Held) → members left h ≡ S h) → ((k : ℕ) (h : Held) → members (may_at may' k) h ≡ others k h) → home' ≡ V → known_at news' ≡ W
      → observed (line_of z (slice_set due n d) (slice_set snooped n q) duty' (slice_set may' n left) home' news') ≡ made z (put n D (λ (k : ℕ). due_at due k)) (put n Q (λ (k : ℕ). snooped_at snooped k)) Y (put n S others) V W
  stepped n d D q Q duty' Y left S may' others home' V news' W ld lq lm hd hq hy hl ho hv hn =
      made_same _ _ _ _ _ _ _ _ _ _ _ _ _
      (set_is_put due_is due n d nothing_due ld ∙ ap (λ x. put n x (λ (k : ℕ). due_at due k)) hd)
      (set_is_put (λ (x : Option Snoop). x) snooped n q None lq ∙ ap (λ x. put n x (λ (k : ℕ). snooped_at snooped k)) hq)
      hy
      (set_is_put members may' n left nobody lm ∙ ap (λ x. put n x (λ (k : ℕ). members (may_at may' k))) (fun_ext hl) ∙ ap (put n S) (fun_ext (λ k. fun_ext (ho k))))
      hv
      hn

  pub moved_by : (f : CacheFlit) (n : ℕ) (d : DueCode) (q : Option Snoop) (duty' tells : Bool) (left : CopiesCode) (may' : List CopiesCode) (home' : Option (List ℕ)) (news' : List (Option ℕ)) → n ≡ f.agent.0 → n < length due → n < length snooped → n < length may'
      → due_is d ≡ due_after f.act (due_at due n) → q ≡ snooped_after f.act (snooped_at snooped n) → duty' ≡ (duty || passes_duty f.act) → tells ≡ tells_words f.act
      → ((k : ℕ) (h : Held) → members (may_at may' k) h ≡ others_may tells may k h) → ((h : Held) → members left h ≡ sent old f h)
      → home' ≡ (if tells then Some f.shown else home) → known_at news' ≡ news_after old f
      → observed (line_of z (slice_set due n d) (slice_set snooped n q) duty' (slice_set may' n left) home' news') ≡ moved old f
  moved_by f n d q duty' tells left m' home' news' e ld lq lm hd hq hy ht ho hl hv hn =
      ap (λ (k : ℕ). observed (line_of z (slice_set due k d) (slice_set snooped k q) duty' (slice_set m' k left) home' news')) e
      ∙ stepped f.agent.0 d (due_after f.act (due_at due f.agent.0)) q (snooped_after f.act (snooped_at snooped f.agent.0)) duty' (duty || passes_duty f.act) left (sent old f) m' (others_may (tells_words f.act) may) home' (if tells_words f.act then Some f.shown else home) news' (news_after old f)
      (subst (λ (k : ℕ). k < length due) e ld) (subst (λ (k : ℕ). k < length snooped) e lq) (subst (λ (k : ℕ). k < length m') e lm)
      (hd ∙ ap (λ (k : ℕ). due_after f.act (due_at due k)) e) (hq ∙ ap (λ (k : ℕ). snooped_after f.act (snooped_at snooped k)) e) hy hl
      (λ k h. ho k h ∙ ap (λ (b : Bool). others_may b may k h) ht) (hv ∙ ap (λ (b : Bool). if b then Some f.shown else home) ht) hn

  pub given_by : (g : HomeFlit) (n : ℕ) (d : DueCode) (was : Due) (q before : Option Snoop) (duty' shown makes' : Bool) (left : CopiesCode) (may' : List CopiesCode) (home' : Option (List ℕ)) (news' : List (Option ℕ)) → n ≡ g.agent.0 → n < length due → n < length snooped → n < length may'
      → was ≡ due_at due g.agent.0 → before ≡ snooped_at snooped g.agent.0 → due_is d ≡ due_granted g.grant was → q ≡ snooped_granted g.grant before → duty' ≡ (duty && not (needs_duty g.grant)) → shown ≡ any_of (old.may g.agent.0) (shows g.grant) → makes' ≡ makes g.grant was
      → ((k : ℕ) (h : Held) → members (may_at may' k) h ≡ given_of g old.public (members (may_at may k)) h) → ((h : Held) → members left h ≡ got old g h)
      → home' ≡ (if shown then Some g.shown else home) → known_at news' ≡ (if makes' then no_words else known_at news)
      → observed (line_of z (slice_set due n d) (slice_set snooped n q) duty' (slice_set may' n left) home' news') ≡ given old g
  given_by g n d was q before duty' shown makes' left m' home' news' e ld lq lm hw hb hd hq hy hs hk ho hl hv hn =
      ap (λ (k : ℕ). observed (line_of z (slice_set due k d) (slice_set snooped k q) duty' (slice_set m' k left) home' news')) e
      ∙ stepped g.agent.0 d (due_granted g.grant (due_at due g.agent.0)) q (snooped_granted g.grant (snooped_at snooped g.agent.0)) duty' (duty && not (needs_duty g.grant)) left (got old g) m' (λ k. given_of g old.public (members (may_at may k))) home' (if any_of (old.may g.agent.0) (shows g.grant) then Some g.shown else home) news' (if makes g.grant (due_at due g.agent.0) then no_words else known_at news)
      (subst (λ (k : ℕ). k < length due) e ld) (subst (λ (k : ℕ). k < length snooped) e lq) (subst (λ (k : ℕ). k < length m') e lm)
      (hd ∙ ap (due_granted g.grant) hw) (hq ∙ ap (snooped_granted g.grant) hb) hy hl ho
      (hv ∙ ap (λ (b : Bool). if b then Some g.shown else home) hs) (hn ∙ ap (λ (b : Bool). if b then no_words else known_at news) (hk ∙ ap (makes g.grant) hw))

pub loosened : (s : Line) (agent n : ℕ) (d : Due) (m left : CopiesCode) → n ≡ agent → n < length s.may → d ≡ due_at s.due agent → m ≡ may_at s.may agent → ((h : Held) → members left h ≡ image (slips s.stores d) (members m) h)
    → observed (line_of s.stores s.due s.snooped s.duty (slice_set s.may n left) s.home s.news) ≡ loose agent (observed s)
loosened s agent n d m left e low hd hm hl =
    made_same _ _ _ _ _ _ _ _ _ _ _ _ _ refl refl refl
    (set_is_put members s.may n left nobody low ∙ ap (λ x. put n x (λ (k : ℕ). members (may_at s.may k))) (fun_ext hl ∙ ap (λ d. image (slips s.stores d) (members m)) hd ∙ ap (λ m. image (slips s.stores (due_at s.due agent)) (members m)) hm)
    ∙ ap (λ k. put k (image (slips s.stores (due_at s.due agent)) (members (may_at s.may agent))) (λ (k : ℕ). members (may_at s.may k))) e)
    refl refl

-- A FLIT OF THE HOME
pub given_others : (b : Bool) (may : List CopiesCode) (n : ℕ) (k : Held) → others_may b may n k ≡ image (λ h k. same_held (if b then shown_of h else h) k) (members (may_at may n)) k
given_others true may n k = refl
given_others false may n k = sym (stay_is (members (may_at may n)) k)

pub given_is : (s : Line) (g : HomeFlit) (d : Due) (b : Bool) (may' : List CopiesCode) → d ≡ due_at s.due g.agent.0 → b ≡ renews g.grant d → ((n : ℕ) (h : Held) → members (may_at may' n) h ≡ others_may b s.may n h) → (n : ℕ) (h : Held) → members (may_at may' n) h ≡ given_of g (observed s).public (members (may_at s.may n)) h
given_is s g d b may' hd hb each n h = each n h ∙ ap (λ b. others_may b s.may n h) (hb ∙ ap (renews g.grant) hd) ∙ given_others (renews g.grant (due_at s.due g.agent.0)) s.may n h

pub got_is : (s : Line) (g : HomeFlit) (d : Due) (m left : CopiesCode) → d ≡ due_at s.due g.agent.0 → m ≡ may_at s.may g.agent.0 → ((h : Held) → members left h ≡ image (λ h k. same_held (granted g.grant d h) k) (members m) h) → (h : Held) → members left h ≡ got (observed s) g h
got_is s g d m left hd hm each h = each h ∙ ap (λ d. image (λ h k. same_held (granted g.grant d h) k) (members m) h) hd ∙ ap (λ m. image (λ h k. same_held (granted g.grant (due_at s.due g.agent.0) h) k) (members m) h) hm

pub goes_is : (s : Line) (g : HomeFlit) (d : Due) (alone b : Bool) (left : CopiesCode) (may' : List CopiesCode) → d ≡ due_at s.due g.agent.0 → alone ≡ needs_alone g.grant d → ((h : Held) → members left h ≡ got (observed s) g h) → ((n : ℕ) (h : Held) → members (may_at may' n) h ≡ given_of g (observed s).public (members (may_at s.may n)) h)
    → b ≡ all_below 32 (λ m. m == g.agent.0 || is_beside (members left) alone (members (may_at may' m))) → b ≡ goes (observed s) g
goes_is s g d alone b left may' hd ha hl hm e = e
    ∙ ap (λ (S : Copies). all_below 32 (λ m. m == g.agent.0 || is_beside S alone (members (may_at may' m)))) (fun_ext hl)
    ∙ ap (λ (T : ℕ → Copies). all_below 32 (λ m. m == g.agent.0 || is_beside (got (observed s) g) alone (T m))) (fun_ext (λ n. fun_ext (hm n)))
    ∙ ap (λ (a : Bool). all_below 32 (λ m. m == g.agent.0 || is_beside (got (observed s) g) a (given_of g (observed s).public (members (may_at s.may m))))) (ha ∙ ap (needs_alone g.grant) hd)

pub of_copies : (s : Line) (n : ℕ) (t : Test) (m : CopiesCode) (any : Bool) → m ≡ may_at s.may n → any ≡ any_of (members m) (passes t) → any ≡ any_of ((observed s).may n) (passes t)
of_copies s n t m any hm e = e ∙ ap (λ m. any_of (members m) (passes t)) hm

pub fits_home_by : (home : Option (List ℕ)) (known : ℕ → Option ℕ) (shown : List ℕ) (b : Bool) → known ≡ of_eight (home_at home) → b ≡ fits_each known (word_at shown) → b ≡ fits_home home shown
fits_home_by home known shown b h e = e ∙ ap (λ k. fits_each k (word_at shown)) h

-- AT FIRST
pub all_same : {A : Type 0} (k n : ℕ) (x : A) → slice_index_or (replicate k x) n x ≡ x
all_same {A} zero zero x = refl
all_same {A} zero (suc n) x = refl
all_same {A} (suc k) zero x = refl
all_same {A} (suc k) (suc n) x = all_same k n x

nobody_is : (h : Held) → members nobody h ≡ (same_held (plain Invalid) h)
nobody_is h = alike_is _ _ (each_held (λ h. alike (members nobody h) (same_held (plain Invalid) h)) refl h)

pub told_nothing : (z : Stores) → observed (line_of z (replicate 32 nothing_due) (replicate 32 None) false (replicate 32 nobody) None (replicate 8 None)) ≡ nothing_told z
told_nothing z = made_same _ _ _ _ _ _ _ _ _ _ _ _ _
    (fun_ext (λ n. ap due_is (all_same 32 n nothing_due)))
    (fun_ext (λ n. all_same 32 n None))
    refl
    (fun_ext (λ n. fun_ext (λ h. ap (λ x. members x h) (all_same 32 n nobody) ∙ nobody_is h)))
    refl
    none_are_known

-- OTHERS
shown_nobody : (h : Held) → members nobody h ≡ shown_all (members nobody) h
shown_nobody h = alike_is _ _ (each_held (λ h. alike (members nobody h) (shown_all (members nobody) h)) refl h)

pub past_by : (n : ℕ) (b : Bool) → nat_lt n 32 ≡ b → (n < 32) ⊎ (32 ≤ n)
past_by n true h = inl (search (rules, arith))
past_by n false h = inr (search (rules, arith))

shown_past : (may shown : List CopiesCode) (n : ℕ) (h : Held) → length may ≡ 32 → length shown ≡ 32 → 32 ≤ n → members (may_at shown n) h ≡ shown_all (members (may_at may n)) h
shown_past may shown n h lm ls l = ap (λ x. members x h) (get_or_past shown n nobody (subst (λ (k : ℕ). k ≤ n) (sym ls) l)) ∙ shown_nobody h
    ∙ sym (ap (λ x. shown_all (members x) h) (get_or_past may n nobody (subst (λ (k : ℕ). k ≤ n) (sym lm) l)))

shown_by : (may shown : List CopiesCode) → length may ≡ 32 → length shown ≡ 32 → ((n : ℕ) → n < 32 → (h : Held) → members (may_at shown n) h ≡ shown_all (members (may_at may n)) h) → (n : ℕ) (h : Held) → (n < 32) ⊎ (32 ≤ n) → members (may_at shown n) h ≡ shown_all (members (may_at may n)) h
shown_by may shown lm ls each n h (inl l) = each n l h
shown_by may shown lm ls each n h (inr l) = shown_past may shown n h lm ls l

pub shown_each : (may shown : List CopiesCode) → length may ≡ 32 → length shown ≡ 32 → ((n : ℕ) → n < 32 → (h : Held) → members (may_at shown n) h ≡ shown_all (members (may_at may n)) h) → (n : ℕ) (h : Held) → members (may_at shown n) h ≡ shown_all (members (may_at may n)) h
shown_each may shown lm ls each n h = shown_by may shown lm ls each n h (past_by n (nat_lt n 32) refl)

-- REFUSALS
pub refused : (a b : Bool) → a ≡ false → false ≡ (a && b)
refused true b h = no (sym h)
refused false b h = refl

pub unplaced : (a b c : Bool) → b ≡ false → false ≡ (a && (b && c))
unplaced true true c h = no (sym h)
unplaced true false c h = refl
unplaced false b c h = refl

pub decided : (a b c d : Bool) → a ≡ true → b ≡ true → c ≡ d → c ≡ (a && (b && d))
decided true true c d ha hb h = h
decided true false c d ha hb h = no hb
decided false b c d ha hb h = no ha

-- WHAT IS READ
pub same_or : {A : Type 0} (xs : List A) (n : ℕ) (d e : A) → n < length xs → slice_index_or xs n d ≡ slice_index_or xs n e
same_or {A} [] n d e l = absurd (search (rules, arith))
same_or {A} (x ∷ xs) zero d e l = refl
same_or {A} (x ∷ xs) (suc n) d e l = let k : n < length xs = search (rules, arith) in same_or xs n d e k

pub sent_left : (s : Line) (f : CacheFlit) (x : Sent) (m left : CopiesCode) → x ≡ sent_of (observed s) f → m ≡ may_at s.may f.agent.0 → ((h : Held) → members left h ≡ image (sends_by x) (members m) h) → (h : Held) → members left h ≡ sent (observed s) f h
sent_left s f x m left hx hm each h = each h ∙ ap (λ x. image (sends_by x) (members m) h) hx ∙ ap (λ m. image (sends_by (sent_of (observed s) f)) (members m) h) hm
    ∙ image_same (observed s) f ((observed s).may f.agent.0) h

pub takes_is : (s : Line) (f : CacheFlit) (left : CopiesCode) (any : Bool) → allows f.act (snooped_at s.snooped f.agent.0) ≡ true → is_placed f.act ≡ true → ((h : Held) → members left h ≡ sent (observed s) f h) → any ≡ any_held (λ h. members left h && true) → any ≡ takes (observed s) f
takes_is s f left any ha hp each e = decided (allows f.act (snooped_at s.snooped f.agent.0)) (is_placed f.act) any (any_held (sent (observed s) f)) ha hp (e ∙ each_any (members left) (sent (observed s) f) each)

pub sent_is : (s : Line) (f : CacheFlit) (goes : Bool) (due : Due) (home news : Fits) → goes ≡ lets_go (snooped_at s.snooped f.agent.0) → due ≡ due_at s.due f.agent.0 → home ≡ fits_by f (home_at s.home) → news ≡ fits_by f (known_at s.news)
    → made_sent s.stores f.act goes due home news ≡ sent_of (observed s) f
sent_is s f goes due home news hg hd hh hn = λ i. made_sent s.stores f.act (hg i) (hd i) (hh i) (hn i)

pub pick_none : (a b : Bool) (x y : ℕ → Option ℕ) → a ≡ true → no_words ≡ (λ p. if a then None else (if b then x p else y p))
pick_none true b x y h = refl
pick_none false b x y h = no h

pub pick_news : (a b : Bool) (x y : ℕ → Option ℕ) → a ≡ false → b ≡ true → x ≡ (λ p. if a then None else (if b then x p else y p))
pick_news true b x y h g = no (sym h)
pick_news false true x y h g = refl
pick_news false false x y h g = no g

pub pick_home : (a b : Bool) (x y : ℕ → Option ℕ) → a ≡ false → b ≡ false → y ≡ (λ p. if a then None else (if b then x p else y p))
pick_home true b x y h g = no (sym h)
pick_home false true x y h g = no (sym g)
pick_home false false x y h g = refl

pub tested : (s : Line) (n : ℕ) (t : Due → Test) (m : CopiesCode) (d : Due) (any : Bool) → m ≡ may_at s.may n → d ≡ due_at s.due n → any ≡ any_of (members m) (passes (t d)) → any ≡ any_of ((observed s).may n) (passes (t ((observed s).public.due n)))
tested s n t m d any hm hd e = e ∙ ap (λ m. any_of (members m) (passes (t d))) hm ∙ ap (λ d. any_of ((observed s).may n) (passes (t d))) hd

pub forgotten_none : (a b : Bool) (news : ℕ → Option ℕ) → a ≡ true → no_words ≡ (if a || b then no_words else news)
forgotten_none true b news h = refl
forgotten_none false b news h = no h

pub told_none : (a b : Bool) (news : ℕ → Option ℕ) → b ≡ true → no_words ≡ (if a || b then no_words else news)
told_none true b news h = refl
told_none false true news h = refl
told_none false false news h = no h

pub news_stay : (a b : Bool) (news : ℕ → Option ℕ) → a ≡ false → b ≡ false → news ≡ (if a || b then no_words else news)
news_stay true b news h g = no (sym h)
news_stay false true news h g = no (sym g)
news_stay false false news h g = refl

lost_by : (b c d : Bool) → c ≡ true → false ≡ (b && (not c && d))
lost_by true true d h = refl
lost_by true false d h = no h
lost_by false c d h = refl

copy_by : (b c d : Bool) → d ≡ false → false ≡ (b && (not c && d))
copy_by true true d h = refl
copy_by true false d h = sym h
copy_by false c d h = refl

kept_by : (b c d : Bool) → b ≡ true → c ≡ false → d ≡ true → true ≡ (b && (not c && d))
kept_by true true d hb hc hd = no (sym hc)
kept_by true false d hb hc hd = sym hd
kept_by false c d hb hc hd = no hb

pub low_is : (n : ℕ) → n < 32 → nat_lt n 32 ≡ true
low_is n l = search (rules, arith)

pub high_is : (n : ℕ) → 32 ≤ n → nat_lt n 32 ≡ false
high_is n l = search (rules, arith)

within_by : (a b x : Bool) → a ≡ true → x ≡ b → x ≡ (a && b)
within_by true b x h e = e
within_by false b x h e = no h

module _ (o : Observed) (g : HomeFlit) where
  abbrev words_fit : Bool
  words_fit = not (any_of (o.may g.agent.0) (shows g.grant)) || fits_home o.home g.shown

  abbrev is_lost : Bool
  is_lost = any_of (o.may g.agent.0) (passes (tests.FillsStored g.grant))

  pub order_words : (b : Bool) → b ≡ words_fit → b ≡ false → false ≡ keeps_order o g
  order_words b e h = refused words_fit (not is_lost && goes o g) (sym e ∙ h)

  pub order_lost : (b : Bool) → b ≡ is_lost → b ≡ true → false ≡ keeps_order o g
  order_lost b e h = lost_by words_fit is_lost (goes o g) (sym e ∙ h)

  pub order_copy : (b : Bool) → b ≡ goes o g → b ≡ false → false ≡ keeps_order o g
  order_copy b e h = copy_by words_fit is_lost (goes o g) (sym e ∙ h)

  pub order_kept : (b c d : Bool) → b ≡ words_fit → c ≡ is_lost → d ≡ goes o g → b ≡ true → c ≡ false → d ≡ true → true ≡ keeps_order o g
  order_kept b c d eb ec ed hb hc hd = kept_by words_fit is_lost (goes o g) (sym eb ∙ hb) (sym ec ∙ hc) (sym ed ∙ hd)

  pub home_refused : false ≡ home_may o.public g → false ≡ takes_home o g
  home_refused h = refused (home_may o.public g) (keeps_order o g) (sym h)

  pub home_taken : (x : Bool) → true ≡ home_may o.public g → x ≡ keeps_order o g → x ≡ takes_home o g
  home_taken x h e = within_by (home_may o.public g) (keeps_order o g) x (sym h) e

  module _ (shown : ℕ → Bool) where
    pub taken_low : (x : Bool) → g.agent.0 < 32 → x ≡ (has_moment o shown g && takes_home o g) → x ≡ is_taken_home o shown g
    taken_low x l e = within_by (nat_lt g.agent.0 32) (has_moment o shown g && takes_home o g) x (low_is g.agent.0 l) e

    pub taken_high : 32 ≤ g.agent.0 → false ≡ is_taken_home o shown g
    taken_high l = refused (nat_lt g.agent.0 32) (has_moment o shown g && takes_home o g) (high_is g.agent.0 l)

    pub untimely : (b : Bool) → b ≡ has_moment o shown g → b ≡ false → false ≡ (has_moment o shown g && takes_home o g)
    untimely b e h = refused (has_moment o shown g) (takes_home o g) (sym e ∙ h)

    pub timely : (b x : Bool) → b ≡ has_moment o shown g → b ≡ true → x ≡ takes_home o g → x ≡ (has_moment o shown g && takes_home o g)
    timely b x e h t = within_by (has_moment o shown g) (takes_home o g) x (sym e ∙ h) t

-- MOMENTS
pub no_moments : (n : ℕ) → shown_at (replicate 32 false) n ≡ false
no_moments n = all_same 32 n false

pub shown_is : (mid : Line) (o : Observed) (e : Flit) (issuer : Option ℕ) (before shown : List Bool) (n : ℕ) → observed mid ≡ behind o e → mid.shown ≡ before → issues issuer n ≡ is_issue e n → shown_at shown n ≡ shown_here mid.due mid.may issuer (shown_at mid.shown n) n → shown_at shown n ≡ shown_after o e (shown_at before) n
shown_is mid o e issuer before shown n h hs hi each = each ∙ ap (λ s. shown_here mid.due mid.may issuer (shown_at s n) n) hs
    ∙ ap (λ (b : Bool). awaits_moment (due_at mid.due n) && ((not b && shown_at before n) || (if reads_once (due_at mid.due n) then none_stored_of mid.may else none_dirty_of mid.may n))) hi
    ∙ ap (λ (x : Observed). awaits_moment (x.public.due n) && ((not (is_issue e n) && shown_at before n) || is_moment x n)) h

timed_past : (due : List DueCode) (may : List CopiesCode) (before now : List Bool) (e : Option ℕ) (n : ℕ) → length due ≡ 32 → length now ≡ 32 → 32 ≤ n → shown_at now n ≡ shown_here due may e (shown_at before n) n
timed_past due may before now e n ld lb h = get_or_past now n false (subst (λ (k : ℕ). k ≤ n) (sym lb) h)
    ∙ sym (ap (λ d. awaits_moment d && ((not (issues e n) && shown_at before n) || (if reads_once d then none_stored_of may else none_dirty_of may n))) (ap due_is (get_or_past due n nothing_due (subst (λ (k : ℕ). k ≤ n) (sym ld) h))))

timed_by : (due : List DueCode) (may : List CopiesCode) (before now : List Bool) (e : Option ℕ) → length due ≡ 32 → length now ≡ 32 → ((n : ℕ) → n < 32 → shown_at now n ≡ shown_here due may e (shown_at before n) n) → (n : ℕ) → (n < 32) ⊎ (32 ≤ n) → shown_at now n ≡ shown_here due may e (shown_at before n) n
timed_by due may before now e ld lb each n (inl h) = each n h
timed_by due may before now e ld lb each n (inr h) = timed_past due may before now e n ld lb h

pub timed_each : (due : List DueCode) (may : List CopiesCode) (before now : List Bool) (e : Option ℕ) → length due ≡ 32 → length now ≡ 32 → ((n : ℕ) → n < 32 → shown_at now n ≡ shown_here due may e (shown_at before n) n) → (n : ℕ) → shown_at now n ≡ shown_here due may e (shown_at before n) n
timed_each due may before now e ld lb each n = timed_by due may before now e ld lb each n (past_by n (nat_lt n 32) refl)

pub untimed : (due : List DueCode) (may : List CopiesCode) (before : List Bool) (e : Option ℕ) → length due ≡ 32 → all_below 32 (λ m. not (awaits_moment (due_at due m))) ≡ true → (n : ℕ) → shown_at (replicate 32 false) n ≡ shown_here due may e (shown_at before n) n
untimed due may before e ld none = timed_each due may before (replicate 32 false) e ld refl (λ n low. all_same 32 n false ∙ ap (λ a. a && ((not (issues e n) && shown_at before n) || (if reads_once (due_at due n) then none_stored_of may else none_dirty_of may n))) (sym (turned (awaits_moment (due_at due n)) (each_below 32 (λ m. not (awaits_moment (due_at due m))) none n low))))
