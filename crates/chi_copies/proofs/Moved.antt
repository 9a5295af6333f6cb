-- A flit of a cache before hidden steps: what is kept.
use Rattle.std.proofs.Common.{◌≡◌, ◌≢◌, ℕ, ◌<◌, refl, sym, ap, subst, ◌∙◌}
use Rattle.std.specs.Prelude.{Bool, true, false, ◌&&◌, ◌||◌, not, Option, Some, None, List, if◌then◌else◌}
use Rattle.chi_observer.specs.declared.kinds.Kind.{Kind}
use Rattle.chi_observer.specs.declared.flits.Due.{Due}
use Rattle.chi_observer.specs.declared.flits.Due.TheVariants.{Nothing, Completion, Resending, SureCompletion, WriteData, Acknowledgement}
use Rattle.chi_observer.specs.declared.flits.Stores.{Stores}
use Rattle.chi_observer.specs.declared.flits.Stores.TheVariants.{Hidden as HiddenStores, Listed}
use Rattle.chi_observer.specs.declared.flits.Act.{Act}
use Rattle.chi_observer.specs.declared.flits.Act.TheVariants.{Request, Resend, SnpResp, CompAck, CopyBackWrData, NonCopyBackWrData, Load, Store}
use Rattle.chi_observer.specs.declared.flits.CacheFlit.{CacheFlit}
use Rattle.chi_observer.specs.Copies.{holds_data, is_unique, is_dirty, is_clean}
use Rattle.chi_observer.specs.Rules.{are_hidden, is_resending, same_kind, gives_up, has_data, writes, tells_words, looks, lets_go, due_after, word_at, allows, is_acknowledging, is_copy_back, is_whole_write}
use Rattle.chi_copies.specs.Copies.{Held, Copies, shown_of, is_fresh, is_newer, beside, leaves, same_held, any_bool, any_held}
use Rattle.chi_copies.specs.Rules.{may_store, may_hide, is_resent, is_due_data, lets, row, acts, loses, is_without_news, waits_without_news, slips, freed, dropped}
use Rattle.chi_copies.specs.Worlds.{is_placed, others_then}
use Rattle.chi_copies.specs.Observed.{Observed, Sound, Closed, is_storable, is_shown_dirty, known_of, may_own, fits_each, sends, sent, takes, shown_all, moved}
use Rattle.chi_copies.specs.Laws.{CacheFlitsKeepSound}
use Rattle.chi_copies.proofs.Finite.{no, left, right, both, implies, follow, by_false, turned, flip, all_helds, each_held, each_kind, all_kinds, in_held, out_held, out_bool, in_image, out_image}
use Rattle.chi_copies.proofs.Rows.{is_sane, same_truth, same_truth_is, truth_same, leaves_is, same_held_is, same_held_self, none_some, some_is, RowFacts, row_facts, is_store_row, weaker_each, quiet_each, pair_fits, pair_each}
use Rattle.chi_copies.proofs.Means.{sane, beside_back, beside_shown, slip_free, slip_drop}
use Rattle.chi_copies.proofs.Loose.{Slipped, slipped}
use Rattle.chi_copies.proofs.Loose.Slipped.{Still, Freed, Store as StoreSlip, Drop}
use Rattle.chi_copies.proofs.Loosened.{one, loose_sound, loose_closed}
use Rattle.chi_copies.proofs.Put.{there, pairwise, everywhere}

-- WHAT A FLIT SAYS OF THE COPY THAT SENT IT
pub if_some : (c : Bool) (o : Option Held) (k : Held) → (if c then o else None) ≡ Some k → (c ≡ true) × (o ≡ Some k)
if_some true o k e = (refl, e)
if_some false o k e = absurd (none_some k e)

pub record Sent (o : Observed) (f : CacheFlit) (h k : Held) : Type 0 where
  pub own : Bool
  pub owned : may_own f.act (known_of o f.agent.0 h) own ≡ true
  pub let_go : lets o.public.stores f.act own (o.public.due f.agent.0) h ≡ true
  pub row : row f.act own (lets_go (o.public.snooped f.agent.0)) (is_due_data gives_up (o.public.due f.agent.0)) h ≡ Some k
  pub fits : (not (has_data f.act) || fits_each (known_of o f.agent.0 h) (word_at f.shown)) ≡ true

abbrev pub sends_own : Observed → CacheFlit → Held → Held → Bool → Bool
sends_own o f h k own = may_own f.act (known_of o f.agent.0 h) own && leaves (acts o.public.stores f.act own (lets_go (o.public.snooped f.agent.0)) (o.public.due f.agent.0) h) k

pub sent_by : (o : Observed) (f : CacheFlit) (h k : Held) → sends o f h k ≡ true → Sent o f h k
sent_by o f h k e =
    let x = out_bool (sends_own o f h k) (left _ _ e) in
    let a = leaves_is _ k (right (may_own f.act (known_of o f.agent.0 h) x.0) _ x.1) in
    let y = if_some (lets o.public.stores f.act x.0 (o.public.due f.agent.0) h) _ k a in
    record { own = x.0; owned = left _ _ x.1; let_go = y.0; row = y.1; fits = right (any_bool (sends_own o f h k)) _ e }

-- only a load may be of another word
pub own_but : (a : Act) (k : ℕ → Option ℕ) (own : Bool) → may_own a k own ≡ true → looks a ≡ false → own ≡ true
own_but (Load word) k own e l = no (sym l)
own_but (Request kind) k own e l = e
own_but (Resend kind) k own e l = e
own_but (SnpResp answer) k own e l = e
own_but CompAck k own e l = e
own_but (CopyBackWrData form) k own e l = e
own_but NonCopyBackWrData k own e l = e
own_but (Store word) k own e l = e

or_first : (a b : Bool) → (a || b) ≡ true → b ≡ false → a ≡ true
or_first true b h e = refl
or_first false b h e = no (sym e ∙ h)

-- and where stores are listed none is
pub own_listed : (z : Stores) (a : Act) (k : ℕ → Option ℕ) (own : Bool) (d : Due) (h : Held) → are_hidden z ≡ false → may_own a k own ≡ true → lets z a own d h ≡ true → own ≡ true
own_listed Listed (Load word) k own d h z e l = or_first own false l refl
own_listed HiddenStores (Load word) k own d h z e l = no (sym z)
own_listed z (Request kind) k own d h l e g = e
own_listed z (Resend kind) k own d h l e g = e
own_listed z (SnpResp answer) k own d h l e g = e
own_listed z CompAck k own d h l e g = e
own_listed z (CopyBackWrData form) k own d h l e g = e
own_listed z NonCopyBackWrData k own d h l e g = e
own_listed z (Store word) k own d h l e g = e

-- WHAT IS DUE THEN
pub reading_stores : (d : Due) (h : Held) → waits_without_news d ≡ true → may_store d h ≡ true → h.cancelled ≡ true
reading_stores Nothing h r e = no r
reading_stores (Resending k) h r e = e
reading_stores (Completion k) h r e = no e
reading_stores (SureCompletion k) h r e = no e
reading_stores (WriteData k) h r e = no r
reading_stores Acknowledgement h r e = no r

same_read : all_kinds (λ k. all_kinds (λ q. implies (same_kind k q) (implies (is_without_news k) (is_without_news q)))) ≡ true
same_read = refl

read_alike : (k q : Kind) → same_kind k q ≡ true → is_without_news k ≡ true → is_without_news q ≡ true
read_alike k q s r = follow (is_without_news k) (is_without_news q) (follow (same_kind k q) _ (each_kind (λ q. implies (same_kind k q) (implies (is_without_news k) (is_without_news q))) (each_kind (λ k. all_kinds (λ q. implies (same_kind k q) (implies (is_without_news k) (is_without_news q)))) same_read k) q) s) r

resent_reading : (k : Kind) (d : Due) → is_resent k d ≡ true → is_without_news k ≡ true → waits_without_news d ≡ true
resent_reading k (Resending q) e r = read_alike k q e r
resent_reading k Nothing e r = no e
resent_reading k (Completion q) e r = no e
resent_reading k (SureCompletion q) e r = no e
resent_reading k (WriteData q) e r = no e
resent_reading k Acknowledgement e r = no e

cancelled_by : (z : Stores) (d : Due) (h : Held) → waits_without_news d ≡ true → may_hide z d h ≡ true → h.cancelled ≡ true
cancelled_by z d h r e = reading_stores d h r (right (are_hidden z) _ e)

same_newer : (h k : Held) → Some h ≡ Some k → is_newer h ≡ false → is_newer k ≡ false
same_newer h k e f = subst (λ k. is_newer k ≡ false) (some_is h k e) f

not_newer : (b s : Bool) → ((b && not s) ≡ true → false ≡ true) → s ≡ false → b ≡ false
not_newer b true f e = no (sym e)
not_newer false false f e = refl
not_newer true false f e = no (f refl)

-- no newer copy has a read that is open
pub sent_seen : (z : Stores) (a : Act) (own x up : Bool) (d : Due) (h k : Held) → lets z a own d h ≡ true → row a own x up h ≡ Some k → RowFacts a own x h k
    → waits_without_news (due_after a d) ≡ true → k.cancelled ≡ false → (waits_without_news d ≡ true → h.cancelled ≡ false → is_newer h ≡ false) → is_newer k ≡ false
sent_seen z (Request kind) own x up d h k l e facts r c f = turned _ (facts.read r)
sent_seen z (Resend kind) own x up d h k l e facts r c f = same_newer h k e (f (resent_reading kind d (left _ _ l) r) (sym (facts.cancelled refl) ∙ c))
sent_seen z (SnpResp answer) own x up d h k l e facts r c f = turned _ (facts.given refl)
sent_seen z CompAck own x up d h k l e facts r c f = no r
sent_seen z (CopyBackWrData form) own x up d h k l e facts r c f = no r
sent_seen z NonCopyBackWrData own x up d h k l e facts r c f = no r
sent_seen z (Load word) true x up d h k l e facts r c f = by_false (is_newer k) (λ g. sym (f r (sym (facts.cancelled refl) ∙ c)) ∙ facts.newer (both _ _ g refl))
sent_seen z (Load word) false x up d h k l e facts r c f = no (sym c ∙ facts.cancelled refl ∙ cancelled_by z d h r l)
sent_seen z (Store word) own x up d h k l e facts r c f = no (sym c ∙ facts.cancelled refl ∙ reading_stores d h r l)

-- nor is one cancelled that isn't retried
ack_waits : (d : Due) → is_acknowledging d ≡ true → is_resending d ≡ false
ack_waits Acknowledgement e = refl
ack_waits Nothing e = no e
ack_waits (Completion k) e = no e
ack_waits (Resending k) e = no e
ack_waits (SureCompletion k) e = no e
ack_waits (WriteData k) e = no e

data_waits : (g : Kind → Bool) (d : Due) → is_due_data g d ≡ true → is_resending d ≡ false
data_waits g (WriteData k) e = refl
data_waits g Nothing e = no e
data_waits g (Completion k) e = no e
data_waits g (Resending k) e = no e
data_waits g (SureCompletion k) e = no e
data_waits g Acknowledgement e = no e

pub sent_waits : (z : Stores) (a : Act) (own x up : Bool) (d : Due) (h k : Held) → lets z a own d h ≡ true → RowFacts a own x h k
    → is_resending (due_after a d) ≡ false → (is_resending d ≡ false → h.cancelled ≡ false) → k.cancelled ≡ false
sent_waits z (Request kind) own x up d h k l facts r f = turned _ (facts.asked refl)
sent_waits z (Resend kind) own x up d h k l facts r f = facts.cancelled refl ∙ turned _ (right (is_resent kind d) _ l)
sent_waits z (SnpResp answer) own x up d h k l facts r f = facts.cancelled refl ∙ f r
sent_waits z CompAck own x up d h k l facts r f = facts.cancelled refl ∙ f (ack_waits d l)
sent_waits z (CopyBackWrData form) own x up d h k l facts r f = facts.cancelled refl ∙ f (data_waits is_copy_back d l)
sent_waits z NonCopyBackWrData own x up d h k l facts r f = facts.cancelled refl ∙ f (data_waits is_whole_write d l)
sent_waits z (Load word) own x up d h k l facts r f = facts.cancelled refl ∙ f r
sent_waits z (Store word) own x up d h k l facts r f = facts.cancelled refl ∙ f r

-- THE SETS THEN
-- what others may be
abbrev pub others_after : Observed → CacheFlit → ℕ → Copies
others_after o f m = if tells_words f.act then shown_all (o.may m) else o.may m

pub record Other (o : Observed) (f : CacheFlit) (m : ℕ) (k : Held) : Type 0 where
  pub held : Held
  pub has : o.may m held ≡ true
  pub is : others_then f.act held ≡ k

abbrev pub others_if : Bool → Held → Held
others_if b h = if b then shown_of h else h

other_by : (b : Bool) (S : Copies) (k : Held) → (if b then shown_all S else S) k ≡ true → (h : Held) × (S h ≡ true) × (others_if b h ≡ k)
other_by true S k e = let x = out_image (λ h k. same_held (shown_of h) k) S k e in (x.held, x.has, same_held_is (shown_of x.held) k x.leads)
other_by false S k e = (k, e, refl)

pub other_of : (o : Observed) (f : CacheFlit) (m : ℕ) (k : Held) → others_after o f m k ≡ true → Other o f m k
other_of o f m k e = let x = other_by (tells_words f.act) (o.may m) k e in record { held = x.0; has = x.1; is = x.2 }

in_other_by : (b : Bool) (S : Copies) (h : Held) → S h ≡ true → (if b then shown_all S else S) (others_if b h) ≡ true
in_other_by true S h e = in_image (λ h k. same_held (shown_of h) k) S h (shown_of h) e (same_held_self (shown_of h))
in_other_by false S h e = e

pub in_other : (o : Observed) (f : CacheFlit) (m : ℕ) (h : Held) → o.may m h ≡ true → others_after o f m (others_then f.act h) ≡ true
in_other o f m h e = in_other_by (tells_words f.act) (o.may m) h e

shown_if : (b : Bool) (h : Held) → (others_if b h).stored ≡ true → (b ≡ false) × (h.stored ≡ true)
shown_if true h e = no e
shown_if false h e = (refl, e)

pub sane_if : (b : Bool) (h : Held) → is_sane h ≡ true → is_sane (others_if b h) ≡ true
sane_if true h e = refl
sane_if false h e = e

copy_if : (b : Bool) (h : Held) → (others_if b h).copy ≡ h.copy
copy_if true h = refl
copy_if false h = refl

beside_if : (b : Bool) (h k : Held) → beside h k ≡ true → beside (others_if b h) (others_if b k) ≡ true
beside_if true h k e = beside_shown h k e
beside_if false h k e = e

fresh_if : (b : Bool) (h : Held) → b ≡ false → is_fresh (others_if b h) ≡ true → is_fresh h ≡ true
fresh_if true h g e = no (sym g)
fresh_if false h g e = e

newer_if : (b : Bool) (h : Held) → is_newer h ≡ false → is_newer (others_if b h) ≡ false
newer_if true h e = refl
newer_if false h e = e

cancelled_if : (b : Bool) (h : Held) → (others_if b h).cancelled ≡ h.cancelled
cancelled_if true h = refl
cancelled_if false h = refl

stored_if : (b : Bool) (h k : Held) → h.stored ≡ k.stored → (others_if b h).stored ≡ (others_if b k).stored
stored_if true h k e = refl
stored_if false h k e = e

-- a copy that isn't newer is as dirty as it was
shown_was : Held → Bool
shown_was h = implies (is_sane h && (not (is_newer h) && is_dirty h.copy)) (is_shown_dirty h)

shown_was_holds : all_helds shown_was ≡ true
unfolding shown_was
shown_was_holds = refl

dirty_if : (b : Bool) (h : Held) → is_sane h ≡ true → (b ≡ true → is_newer h ≡ false) → is_shown_dirty (others_if b h) ≡ true → is_shown_dirty h ≡ true
unfolding shown_was
dirty_if true h s g e = follow (is_sane h && (not (is_newer h) && is_dirty h.copy)) _ (each_held shown_was shown_was_holds h) (both (is_sane h) _ s (both (not (is_newer h)) _ (flip _ (g refl)) (left _ _ e)))
dirty_if false h s g e = e

some_home : (b : Bool) (v : List ℕ) (home : Option (List ℕ)) → (b ≡ false → (u : List ℕ) × (home ≡ Some u)) → (u : List ℕ) × ((if b then Some v else home) ≡ Some u)
some_home true v home g = (v, refl)
some_home false v home g = g refl

module _ (o : Observed) (f : CacheFlit) (sound : Sound o) (low : f.agent.0 < 32) where
  abbrev n : ℕ
  n = f.agent.0

  abbrev a : Act
  a = f.act

  abbrev d : Due
  d = o.public.due n

  abbrev z : Stores
  z = o.public.stores

  abbrev x : Bool
  x = lets_go (o.public.snooped n)

  abbrev up : Bool
  up = is_due_data gives_up d

  -- where a copy comes from
  pub record Came (k : Held) : Type 0 where
    pub held : Held
    pub has : o.may n held ≡ true
    pub by : Sent o f held k
    pub sane : is_sane held ≡ true
    pub facts : RowFacts a by.own x held k

  abbrev pub came_by : (h k : Held) → o.may n h ≡ true → Sent o f h k → Came k
  came_by h k e s = record { held = h; has = e; by = s; sane = sane o sound n low h e; facts = row_facts a s.own x up h k (sane o sound n low h e) s.row }

  pub came : (k : Held) → sent o f k ≡ true → Came k
  came k e = let y = out_image (sends o f) (o.may n) k e in came_by y.held k y.has (sent_by o f y.held k y.leads)

  beside_other : (m : ℕ) → m ≢ n → m < 32 → (h t : Held) → o.may n h ≡ true → o.may m t ≡ true → beside h t ≡ true
  beside_other m g l h t e q = sound.pairs n m low l (λ e. g (sym e)) h t e q

  pub pairs_at : (m : ℕ) → m ≢ n → m < 32 → (k t : Held) → sent o f k ≡ true → others_after o f m t ≡ true → beside k t ≡ true
  pairs_at m g l k t e q = let c = came k e in let y = other_of o f m t q in
      subst (λ t. beside k t ≡ true) y.is (follow (is_sane y.held && beside c.held y.held) _
      (each_held (λ t. implies (is_sane t && beside c.held t) (beside k (others_then a t))) (weaker_each a c.by.own x up c.held k c.sane c.by.row) y.held)
      (both (is_sane y.held) _ (sane o sound m l y.held y.has) (beside_other m g l c.held y.held c.has y.has)))

  pairs_else : (i j : ℕ) → i < 32 → j < 32 → i ≢ j → (h k : Held) → others_after o f i h ≡ true → others_after o f j k ≡ true → beside h k ≡ true
  pairs_else i j li lj g h k e q = let u = other_of o f i h e in let v = other_of o f j k q in
      subst (λ h. beside h k ≡ true) u.is (subst (λ k. beside (others_then a u.held) k ≡ true) v.is (beside_if (tells_words a) u.held v.held (sound.pairs i j li lj g u.held v.held u.has v.has)))

  -- what the copy that was sent from says of the others
  pub told_at : (k : Held) → Came k → (m : ℕ) → m ≢ n → m < 32 → (t : Held) → o.may m t ≡ true → tells_words a ≡ true → (not (is_newer t) && not (is_unique t.copy)) ≡ true
  told_at k c m g l t e w = follow (tells_words a) _ (left _ _ (follow (is_sane t && beside c.held t) _
      (each_held (λ t. implies (is_sane t && beside c.held t) (implies (tells_words a) (not (is_newer t) && not (is_unique t.copy)) && implies (is_store_row a c.by.own || (loses a x c.held || writes a)) (not (holds_data t.copy)))) (quiet_each a c.by.own x up c.held k c.sane c.by.row) t)
      (both (is_sane t) _ (sane o sound m l t e) (beside_other m g l c.held t c.has e)))) w

  pub quiet_at : (h k : Held) → Came k → (m : ℕ) → m ≢ n → m < 32 → (t : Held) → o.may m t ≡ true → tells_words a ≡ true → is_newer t ≡ false
  quiet_at h k c m g l t e w = turned _ (left _ _ (told_at k c m g l t e w))

  pub empty_at : (k : Held) (c : Came k) (m : ℕ) → m ≢ n → m < 32 → (t : Held) → o.may m t ≡ true → (is_store_row a c.by.own || (loses a x c.held || writes a)) ≡ true → holds_data t.copy ≡ false
  empty_at k c m g l t e w = turned _ (follow (is_store_row a c.by.own || (loses a x c.held || writes a)) _ (right (implies (tells_words a) (not (is_newer t) && not (is_unique t.copy))) _ (follow (is_sane t && beside c.held t) _
      (each_held (λ t. implies (is_sane t && beside c.held t) (implies (tells_words a) (not (is_newer t) && not (is_unique t.copy)) && implies (is_store_row a c.by.own || (loses a x c.held || writes a)) (not (holds_data t.copy)))) (quiet_each a c.by.own x up c.held k c.sane c.by.row) t)
      (both (is_sane t) _ (sane o sound m l t e) (beside_other m g l c.held t c.has e)))) w)

  module _ (take : takes o f ≡ true) where
    one_sent : (k : Held) × (sent o f k ≡ true)
    one_sent = out_held (sent o f) (right (is_placed a) _ (right (allows a (o.public.snooped n)) _ take))

    pub one_came : (k : Held) × Came k
    one_came = let y = one_sent in (y.0, came y.0 y.1)

    even_else : (m : ℕ) → m ≢ n → m < 32 → (h k : Held) → others_after o f m h ≡ true → others_after o f m k ≡ true → is_shown_dirty h ≡ true → is_dirty k.copy ≡ true
    even_else m g l h k e q s = let u = other_of o f m h e in let v = other_of o f m k q in let c = one_came in
        subst (λ k. is_dirty k.copy ≡ true) v.is (subst (λ s. is_dirty s ≡ true) (sym (copy_if (tells_words a) v.held)) (sound.even m l u.held v.held u.has v.has
        (dirty_if (tells_words a) u.held (sane o sound m l u.held u.has) (quiet_at c.0 c.0 c.1 m g l u.held u.has) (subst (λ h. is_shown_dirty h ≡ true) (sym u.is) s))))

    pair_at : (h k : Held) (c : Came h) (e : Came k) → pair_fits a c.by.own e.by.own c.held h e.held k ≡ true
    pair_at h k c e = pair_each a c.by.own e.by.own x up c.held h e.held k c.sane e.sane c.by.row e.by.row

    implied : (a b : Bool) → (a ≡ true → b ≡ true) → implies a b ≡ true
    implied true b g = g refl
    implied false b g = refl

    even_at : (h k : Held) → sent o f h ≡ true → sent o f k ≡ true → is_shown_dirty h ≡ true → is_dirty k.copy ≡ true
    even_at h k e q s = let c = came h e in let y = came k q in
        follow (is_shown_dirty h) _ (follow (implies (is_shown_dirty c.held) (is_dirty y.held.copy)) _ (left _ _ (pair_at h k c y)) (implied _ _ (sound.even n low c.held y.held c.has y.has))) s

    alike_at : are_hidden z ≡ false → (h k : Held) → sent o f h ≡ true → sent o f k ≡ true → holds_data h.copy ≡ true → holds_data k.copy ≡ true → h.stored ≡ k.stored
    alike_at l h k e q s t = let c = came h e in let y = came k q in
        same_truth_is _ _ (follow (holds_data h.copy && holds_data k.copy) _ (follow (c.by.own && (y.by.own && implies (holds_data c.held.copy && holds_data y.held.copy) (same_truth c.held.stored y.held.stored))) _
        (right (implies (implies (is_shown_dirty c.held) (is_dirty y.held.copy)) (implies (is_shown_dirty h) (is_dirty k.copy))) _ (pair_at h k c y))
        (both c.by.own _ (own_listed z a _ c.by.own d c.held l c.by.owned c.by.let_go) (both y.by.own _ (own_listed z a _ y.by.own d y.held l y.by.owned y.by.let_go)
        (implied _ _ (λ g. truth_same _ _ (sound.alike l n low c.held y.held c.has y.has (left _ _ g) (right (holds_data c.held.copy) _ g)))))))
        (both (holds_data h.copy) _ s t))

    pub moved_sound : Sound (moved o f)
    moved_sound = record {
      some = one (λ m X. m < 32 → any_held X ≡ true) n (sent o f) (others_after o f) (λ _. in_held (sent o f) one_sent.0 one_sent.1)
          (λ m _ l. let y = out_held (o.may m) (sound.some m l) in in_held (others_after o f m) (others_then a y.0) (in_other o f m y.0 y.1));
      pairs = λ i j li lj g. pairwise (λ i j X Y. i < 32 → j < 32 → (h k : Held) → X h ≡ true → Y k ≡ true → beside h k ≡ true) n (sent o f) (others_after o f)
          (λ m g _ l. pairs_at m g l) (λ m g l _ h k e q. beside_back k h (pairs_at m g l k h q e)) (λ i j g li lj. pairs_else i j li lj g) i j g li lj;
      storable = one (λ m X. m < 32 → (h : Held) → X h ≡ true → h.stored ≡ true → is_storable h ≡ true) n (sent o f) (others_after o f)
          (λ _ h e s. follow h.stored _ (came h e).facts.sane s)
          (λ m _ l h e s. let u = other_of o f m h e in follow h.stored _ (subst (λ h. is_sane h ≡ true) u.is (sane_if (tells_words a) u.held (sane o sound m l u.held u.has))) s);
      known = one (λ m X. m < 32 → (h : Held) → X h ≡ true → is_fresh h ≡ true → (v : List ℕ) × ((moved o f).home ≡ Some v)) n (sent o f) (others_after o f)
          (λ _ h e s. let c = came h e in some_home (tells_words a) f.shown o.home (λ w. sound.known n low c.held c.has (c.facts.fresh (both (is_fresh h) _ s (flip _ w)))))
          (λ m _ l h e s. let u = other_of o f m h e in some_home (tells_words a) f.shown o.home (λ w. sound.known m l u.held u.has (fresh_if (tells_words a) u.held w (subst (λ h. is_fresh h ≡ true) (sym u.is) s))));
      even = one (λ m X. m < 32 → (h k : Held) → X h ≡ true → X k ≡ true → is_shown_dirty h ≡ true → is_dirty k.copy ≡ true) n (sent o f) (others_after o f) (λ _. even_at) even_else;
      seen = everywhere (λ m d X. m < 32 → waits_without_news d ≡ true → (h : Held) → X h ≡ true → h.cancelled ≡ false → is_newer h ≡ false) n (due_after a d) (sent o f) o.public.due (others_after o f)
          (λ _ r h e c. let y = came h e in sent_seen z a y.by.own x up d y.held h y.by.let_go y.by.row y.facts r c (λ r. sound.seen n low r y.held y.has))
          (λ m _ l r h e c. let u = other_of o f m h e in subst (λ h. is_newer h ≡ false) u.is (newer_if (tells_words a) u.held (sound.seen m l r u.held u.has (sym (cancelled_if (tells_words a) u.held) ∙ ap (λ (k : Held). k.cancelled) u.is ∙ c))));
      waits = everywhere (λ m d X. m < 32 → is_resending d ≡ false → (h : Held) → X h ≡ true → h.cancelled ≡ false) n (due_after a d) (sent o f) o.public.due (others_after o f)
          (λ _ r h e. let y = came h e in sent_waits z a y.by.own x up d y.held h y.by.let_go y.facts r (λ r. sound.waits n low r y.held y.has))
          (λ m _ l r h e. let u = other_of o f m h e in ap (λ (k : Held). k.cancelled) (sym u.is) ∙ cancelled_if (tells_words a) u.held ∙ sound.waits m l r u.held u.has);
      alike = λ l. one (λ m X. m < 32 → (h k : Held) → X h ≡ true → X k ≡ true → holds_data h.copy ≡ true → holds_data k.copy ≡ true → h.stored ≡ k.stored) n (sent o f) (others_after o f) (λ _. alike_at l)
          (λ m _ lm h k e q s t. let u = other_of o f m h e in let v = other_of o f m k q in
          ap (λ (k : Held). k.stored) (sym u.is) ∙ stored_if (tells_words a) u.held v.held (sound.alike l m lm u.held v.held u.has v.has
          (ap holds_data (sym (copy_if (tells_words a) u.held)) ∙ ap (λ (k : Held). holds_data k.copy) u.is ∙ s) (ap holds_data (sym (copy_if (tells_words a) v.held)) ∙ ap (λ (k : Held). holds_data k.copy) v.is ∙ t)) ∙ ap (λ (k : Held). k.stored) v.is);
    }

    -- hidden steps of others lead to no others still
    closed_by : (b : Bool) → tells_words a ≡ b → Closed o → (m : ℕ) → m ≢ n → m < 32 → (h k : Held) → (if b then shown_all (o.may m) else o.may m) h ≡ true → slips z (o.public.due m) h k ≡ true → (if b then shown_all (o.may m) else o.may m) k ≡ true
    closed_by false w shut m g l h k e s = shut m l h k e s
    closed_by true w shut m g l h k e s = let u = other_by true (o.may m) h e in let c = one_came in
        shown_slip m u.0 h k u.2 u.1 (turned _ (right (not (is_newer u.0)) _ (told_at c.0 c.1 m g l u.0 u.1 w))) (λ t q. shut m l u.0 t u.1 q) (slipped z (o.public.due m) h k s)
      where
        shown_slip : (m : ℕ) (u h k : Held) → shown_of u ≡ h → o.may m u ≡ true → is_unique u.copy ≡ false → ((t : Held) → slips z (o.public.due m) u t ≡ true → o.may m t ≡ true) → Slipped z (o.public.due m) h k → shown_all (o.may m) k ≡ true
        shown_slip m u h k i has q to (Still e) = subst (λ k. shown_all (o.may m) k ≡ true) (i ∙ e) (in_other_by true (o.may m) u has)
        shown_slip m u h k i has q to (Freed f e) = subst (λ k. shown_all (o.may m) k ≡ true) (ap (freed (o.public.due m)) i ∙ e) (in_other_by true (o.may m) (freed (o.public.due m) u) (to (freed (o.public.due m) u) (slip_free z (o.public.due m) u f)))
        shown_slip m u h k i has q to (StoreSlip f j v e) = no (sym q ∙ ap (λ (k : Held). is_unique k.copy) i ∙ v)
        shown_slip m u h k i has q to (Drop f c e) = subst (λ k. shown_all (o.may m) k ≡ true) (ap (λ k. dropped (freed (o.public.due m) k)) i ∙ e)
            (in_other_by true (o.may m) (dropped (freed (o.public.due m) u)) (to (dropped (freed (o.public.due m) u)) (slip_drop z (o.public.due m) u f (ap (λ (k : Held). is_clean k.copy) i ∙ c))))

    moved_closed : Closed o → (m : ℕ) → m ≢ n → m < 32 → (h k : Held) → (moved o f).may m h ≡ true → slips z ((moved o f).public.due m) h k ≡ true → (moved o f).may m k ≡ true
    moved_closed shut m g l h k e s = subst (λ X. X k ≡ true) (sym (there n (sent o f) (others_after o f) m g))
        (closed_by (tells_words a) refl shut m g l h k (subst (λ X. X h ≡ true) (there n (sent o f) (others_after o f) m g) e) (subst (λ d. slips z d h k ≡ true) (there n (due_after a d) o.public.due m g) s))

pub kept : CacheFlitsKeepSound
kept o f sound shut low take =
    let s = moved_sound o f sound low take in
    (s, loose_sound f.agent.0 (moved o f) s low, loose_closed f.agent.0 (moved o f) (moved_closed o f sound low take shut))
