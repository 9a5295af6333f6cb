-- Families of the places of a table, by flit and by what is due: each is tried only where the flit may be.
use Rattle.std.proofs.Common.{rules, arith, ◌≡◌, refl}
use Rattle.std.specs.Prelude.{Bool, true, false, ◌&&◌, Option, Some, None, if◌then◌else◌}
use Rattle.chi_observer.specs.declared.kinds.Snoop.{Snoop}
use Rattle.chi_observer.specs.declared.told.Told.{Told}
use Rattle.chi_observer.specs.declared.flits.Due.{Due}
use Rattle.chi_observer.specs.declared.flits.Stores.{Stores}
use Rattle.chi_observer.specs.declared.flits.Due.TheVariants.{Nothing, Completion, Resending, SureCompletion, WriteData, Acknowledgement}
use Rattle.chi_observer.specs.declared.flits.Act.{Act}
use Rattle.chi_observer.specs.declared.flits.Act.TheVariants.{Request, Resend, SnpResp, CompAck, CopyBackWrData, NonCopyBackWrData, Load, Store}
use Rattle.chi_observer.specs.declared.flits.Word.{Word}
use Rattle.chi_observer.specs.declared.flits.Grant.{Grant}
use Rattle.chi_observer.specs.declared.flits.Grant.TheVariants.{RetryAck, Snp, CompData, CompUC, CompSC, CompI, CompDBIDResp}
use Rattle.chi_observer.specs.declared.kinds.Kind.{Kind}
use Rattle.chi_observer.specs.declared.kinds.Kind.TheVariants.{Evict}
use Rattle.chi_observer.specs.declared.kinds.Snoop.TheVariants.{SnpOnce}
use Rattle.chi_flit.specs.declared.state.State.{State}
use Rattle.chi_observer.specs.Copies.{Copy, Held}
use Rattle.chi_observer.specs.Rules.{acts, is_free, may_be_free, is_completed, is_copy_back, is_due, is_whole_write, same_kind}
use Rattle.chi_observer.specs.Tables.{Known, fits_told}
use Rattle.chi_observer.proofs.Finite.{no, left, right, both, where_it, tried, all_bools, each_bool, all_forms, each_form, all_kinds, each_kind, all_answers, each_answer, all_snoops, each_snoop, all_dues, each_due, all_tolds, each_told, all_knowns, each_known, all_copies, each_copy, all_helds, each_held}

-- what is due lets a cache send it
abbrev pub can_be : Act → Due → Bool
can_be (Resend kind) (Resending asked) = same_kind kind asked
can_be (CopyBackWrData form) (WriteData kind) = is_copy_back kind
can_be (Resend kind) d = false
can_be (CopyBackWrData form) d = false
can_be NonCopyBackWrData (WriteData kind) = is_whole_write kind
can_be NonCopyBackWrData d = false
can_be (Request kind) d = may_be_free d
can_be CompAck Acknowledgement = true
can_be CompAck d = false
can_be other d = true

empty : (x : Held) → None ≡ Some x → ⊥
empty x h = search (rules, arith)

pub if_some : (c : Bool) (x s : Held) → (if c then Some x else None) ≡ Some s → c ≡ true
if_some true x s h = search (rules, arith)
if_some false x s h = absurd (empty s h)

free_may : (d : Due) (s : Held) → is_free d s ≡ true → may_be_free d ≡ true
free_may Nothing s h = refl
free_may (Resending k) s h = refl
free_may other s h = no h

pub acted_can : (a : Act) (b : Bool) (d : Due) (s s' : Held) → acts a b d s ≡ Some s' → can_be a d ≡ true
acted_can (Resend x) b (Resending y) s s' e = left _ _ (if_some _ s s' e)
acted_can (Resend x) b Nothing s s' e = absurd (empty s' e)
acted_can (Resend x) b (Completion y) s s' e = absurd (empty s' e)
acted_can (Resend x) b (SureCompletion y) s s' e = absurd (empty s' e)
acted_can (Resend x) b (WriteData y) s s' e = absurd (empty s' e)
acted_can (Resend x) b Acknowledgement s s' e = absurd (empty s' e)
acted_can (CopyBackWrData x) b (WriteData y) s s' e = left _ _ (if_some _ _ s' e)
acted_can (CopyBackWrData x) b Nothing s s' e = absurd (empty s' e)
acted_can (CopyBackWrData x) b (Completion y) s s' e = absurd (empty s' e)
acted_can (CopyBackWrData x) b (SureCompletion y) s s' e = absurd (empty s' e)
acted_can (CopyBackWrData x) b (Resending y) s s' e = absurd (empty s' e)
acted_can (CopyBackWrData x) b Acknowledgement s s' e = absurd (empty s' e)
acted_can NonCopyBackWrData b (WriteData y) s s' e = left _ _ (if_some _ _ s' e)
acted_can NonCopyBackWrData b Nothing s s' e = absurd (empty s' e)
acted_can NonCopyBackWrData b (Completion y) s s' e = absurd (empty s' e)
acted_can NonCopyBackWrData b (SureCompletion y) s s' e = absurd (empty s' e)
acted_can NonCopyBackWrData b (Resending y) s s' e = absurd (empty s' e)
acted_can NonCopyBackWrData b Acknowledgement s s' e = absurd (empty s' e)
acted_can (Request x) b d s s' e = free_may d s (left (is_free d s) _ (if_some _ _ s' e))
acted_can (SnpResp x) b d s s' e = refl
acted_can CompAck b Acknowledgement s s' e = refl
acted_can CompAck b other s s' e = absurd (empty s' e)
acted_can (Load word) b d s s' e = refl
acted_can (Store word) b d s s' e = refl

pub fits_can : (mode : Stores) (a : Act) (b : Bool) (d : Due) (t : Known) → fits_told mode a b d t ≡ true → can_be a d ≡ true
fits_can mode (Resend x) b (Resending y) t e = left _ _ e
fits_can mode (Resend x) b Nothing t e = no e
fits_can mode (Resend x) b (Completion y) t e = no e
fits_can mode (Resend x) b (SureCompletion y) t e = no e
fits_can mode (Resend x) b (WriteData y) t e = no e
fits_can mode (Resend x) b Acknowledgement t e = no e
fits_can mode (CopyBackWrData x) b (WriteData y) t e = left _ _ e
fits_can mode (CopyBackWrData x) b Nothing t e = no e
fits_can mode (CopyBackWrData x) b (Completion y) t e = no e
fits_can mode (CopyBackWrData x) b (SureCompletion y) t e = no e
fits_can mode (CopyBackWrData x) b (Resending y) t e = no e
fits_can mode (CopyBackWrData x) b Acknowledgement t e = no e
fits_can mode NonCopyBackWrData b (WriteData y) t e = left _ _ e
fits_can mode NonCopyBackWrData b Nothing t e = no e
fits_can mode NonCopyBackWrData b (Completion y) t e = no e
fits_can mode NonCopyBackWrData b (SureCompletion y) t e = no e
fits_can mode NonCopyBackWrData b (Resending y) t e = no e
fits_can mode NonCopyBackWrData b Acknowledgement t e = no e
fits_can mode (Request x) b d t e = left (may_be_free d) _ e
fits_can mode (SnpResp x) b d t e = refl
fits_can mode CompAck b Acknowledgement t e = refl
fits_can mode CompAck b other t e = no e
fits_can mode (Load word) b d t e = refl
fits_can mode (Store word) b d t e = refl

-- FLITS OF A CACHE
-- those for which the kind of what is due is of no matter, and those which it has to match
-- (of a load or a store the word is of no matter, and tried as a variable)
abbrev some_word : Word
some_word = record { place = record { 0 = 0 }; value = 0 }

-- x: the snoop lets dirty data be thrown away, which only an answer turns on
abbrev pub all_plain : (Act → Bool → Bool) → Word → Bool → Bool
all_plain f word x = all_kinds (λ k. f (Request k) x) && (all_answers (λ a. all_bools (λ y. f (SnpResp a) y)) && (f CompAck x && (f (Load word) x && f (Store word) x)))

abbrev pub all_resends : (Act → Due → Bool) → Bool
all_resends f = all_kinds (λ k. all_kinds (λ q. where_it (same_kind k q) (λ _. f (Resend k) (Resending q))))

abbrev pub all_copy_backs : (Act → Due → Bool) → Bool
all_copy_backs f = all_kinds (λ k. where_it (is_copy_back k) (λ _. all_forms (λ s. f (CopyBackWrData s) (WriteData k))))

abbrev pub all_whole_writes : (Act → Due → Bool) → Bool
all_whole_writes f = all_kinds (λ k. where_it (is_whole_write k) (λ _. f NonCopyBackWrData (WriteData k)))

abbrev pub all_paired : (Act → Due → Bool) → Bool
all_paired f = all_resends f && (all_copy_backs f && all_whole_writes f)

pub record Tried (f : Act → Bool → Due → Bool) : Type 0 where
  pub plain : (word : Word) (x : Bool) (d : Due) → all_plain (λ a y. f a y d) word x ≡ true
  pub paired : (x : Bool) → all_paired (λ a d. f a x d) ≡ true

pub each_tried : (f : Act → Bool → Due → Bool) → Tried f → (a : Act) (x : Bool) (d : Due) → can_be a d ≡ true → f a x d ≡ true
each_tried f h (Request k) x d c = each_kind (λ k. f (Request k) x d) (left (all_kinds (λ k. f (Request k) x d)) _ (h.plain some_word x d)) k
each_tried f h (SnpResp a) x d c = each_bool (λ y. f (SnpResp a) y d) (each_answer (λ a. all_bools (λ y. f (SnpResp a) y d))
    (left (all_answers (λ a. all_bools (λ y. f (SnpResp a) y d))) _ (right (all_kinds (λ k. f (Request k) x d)) _ (h.plain some_word x d))) a) x
each_tried f h CompAck x d c = left (f CompAck x d) _ (right (all_answers (λ a. all_bools (λ y. f (SnpResp a) y d))) _ (right (all_kinds (λ k. f (Request k) x d)) _ (h.plain some_word x d)))
each_tried f h (Load word) x d c = left (f (Load word) x d) _ (right (f CompAck x d) _ (right (all_answers (λ a. all_bools (λ y. f (SnpResp a) y d))) _ (right (all_kinds (λ k. f (Request k) x d)) _ (h.plain word x d))))
each_tried f h (Store word) x d c = right (f (Load word) x d) _ (right (f CompAck x d) _ (right (all_answers (λ a. all_bools (λ y. f (SnpResp a) y d))) _ (right (all_kinds (λ k. f (Request k) x d)) _ (h.plain word x d))))
each_tried f h (Resend k) x (Resending q) c = tried (same_kind k q) (λ _. f (Resend k) x (Resending q))
    (each_kind (λ q. where_it (same_kind k q) (λ _. f (Resend k) x (Resending q))) (each_kind (λ k. all_kinds (λ q. where_it (same_kind k q) (λ _. f (Resend k) x (Resending q))))
    (left (all_resends (λ a d. f a x d)) _ (h.paired x)) k) q) c
each_tried f h (Resend k) x Nothing c = no c
each_tried f h (Resend k) x (Completion q) c = no c
each_tried f h (Resend k) x (SureCompletion q) c = no c
each_tried f h (Resend k) x (WriteData q) c = no c
each_tried f h (Resend k) x Acknowledgement c = no c
each_tried f h (CopyBackWrData s) x (WriteData k) c = each_form (λ s. f (CopyBackWrData s) x (WriteData k)) (tried (is_copy_back k) (λ _. all_forms (λ s. f (CopyBackWrData s) x (WriteData k)))
    (each_kind (λ k. where_it (is_copy_back k) (λ _. all_forms (λ s. f (CopyBackWrData s) x (WriteData k))))
    (left (all_copy_backs (λ a d. f a x d)) _ (right (all_resends (λ a d. f a x d)) _ (h.paired x))) k) c) s
each_tried f h (CopyBackWrData s) x Nothing c = no c
each_tried f h (CopyBackWrData s) x (Completion q) c = no c
each_tried f h (CopyBackWrData s) x (SureCompletion q) c = no c
each_tried f h (CopyBackWrData s) x (Resending q) c = no c
each_tried f h (CopyBackWrData s) x Acknowledgement c = no c
each_tried f h NonCopyBackWrData x (WriteData k) c = tried (is_whole_write k) (λ _. f NonCopyBackWrData x (WriteData k))
    (each_kind (λ k. where_it (is_whole_write k) (λ _. f NonCopyBackWrData x (WriteData k))) (right (all_copy_backs (λ a d. f a x d)) _ (right (all_resends (λ a d. f a x d)) _ (h.paired x))) k) c
each_tried f h NonCopyBackWrData x Nothing c = no c
each_tried f h NonCopyBackWrData x (Completion q) c = no c
each_tried f h NonCopyBackWrData x (SureCompletion q) c = no c
each_tried f h NonCopyBackWrData x (Resending q) c = no c
each_tried f h NonCopyBackWrData x Acknowledgement c = no c

abbrev pub spots : (Act → Bool → Due → Known → Held → Bool → Bool) → Act → Bool → Due → Bool
spots f a x d = where_it (can_be a d) (λ _. all_knowns (λ k. all_helds (λ h. all_bools (λ b. f a x d k h b))))

pub each_spot : (f : Act → Bool → Due → Known → Held → Bool → Bool) → Tried (spots f) → (a : Act) (x : Bool) (d : Due) → can_be a d ≡ true → (k : Known) → (h : Held) → (b : Bool) → f a x d k h b ≡ true
each_spot f e a x d c k h b = each_bool (λ b. f a x d k h b) (each_held (λ h. all_bools (λ b. f a x d k h b)) (each_known (λ k. all_helds (λ h. all_bools (λ b. f a x d k h b))) (tried (can_be a d) (λ _. all_knowns (λ k. all_helds (λ h. all_bools (λ b. f a x d k h b)))) (each_tried (spots f) e a x d c) c) k) h) b

abbrev pub sent_spots : (Act → Bool → Due → Held → Bool) → Act → Bool → Due → Bool
sent_spots f a x d = where_it (can_be a d) (λ _. all_helds (λ h. f a x d h))

pub each_sent : (f : Act → Bool → Due → Held → Bool) → Tried (sent_spots f) → (a : Act) (x : Bool) (d : Due) → can_be a d ≡ true → (h : Held) → f a x d h ≡ true
each_sent f e a x d c h = each_held (λ h. f a x d h) (tried (can_be a d) (λ _. all_helds (λ h. f a x d h)) (each_tried (sent_spots f) e a x d c) c) h

abbrev pub told_spots : (Act → Bool → Due → Known → Told → Bool) → Act → Bool → Due → Bool
told_spots f a x d = where_it (can_be a d) (λ _. all_knowns (λ k. all_tolds (λ u. f a x d k u)))

pub each_told_spot : (f : Act → Bool → Due → Known → Told → Bool) → Tried (told_spots f) → (a : Act) (x : Bool) (d : Due) → can_be a d ≡ true → (k : Known) → (u : Told) → f a x d k u ≡ true
each_told_spot f e a x d c k u = each_told (λ u. f a x d k u) (each_known (λ k. all_tolds (λ u. f a x d k u)) (tried (can_be a d) (λ _. all_knowns (λ k. all_tolds (λ u. f a x d k u))) (each_tried (told_spots f) e a x d c) c) k) u

abbrev pub known_spots : (Act → Bool → Due → Known → Bool) → Act → Bool → Due → Bool
known_spots f a x d = where_it (can_be a d) (λ _. all_knowns (λ k. f a x d k))

pub each_known_spot : (f : Act → Bool → Due → Known → Bool) → Tried (known_spots f) → (a : Act) (x : Bool) (d : Due) → can_be a d ≡ true → (k : Known) → f a x d k ≡ true
each_known_spot f e a x d c k = each_known (λ k. f a x d k) (tried (can_be a d) (λ _. all_knowns (λ k. f a x d k)) (each_tried (known_spots f) e a x d c) c) k

-- FLITS OF THE HOME
-- (of a snoop, and of what is due beside it or is retried, the kind is of no matter, and tried as a variable)
abbrev due_with : (Due → Bool) → Kind → Bool
due_with f k = f Nothing && (f (Completion k) && (f (Resending k) && (f (SureCompletion k) && (f (WriteData k) && f Acknowledgement))))

each_due_with : (f : Due → Bool) → ((k : Kind) → due_with f k ≡ true) → (d : Due) → f d ≡ true
each_due_with f h Nothing = left (f Nothing) _ (h Evict)
each_due_with f h (Completion k) = left (f (Completion k)) _ (right (f Nothing) _ (h k))
each_due_with f h (Resending k) = left (f (Resending k)) _ (right (f (Completion k)) _ (right (f Nothing) _ (h k)))
each_due_with f h (SureCompletion k) = left (f (SureCompletion k)) _ (right (f (Resending k)) _ (right (f (Completion k)) _ (right (f Nothing) _ (h k))))
each_due_with f h (WriteData k) = left (f (WriteData k)) _ (right (f (SureCompletion k)) _ (right (f (Resending k)) _ (right (f (Completion k)) _ (right (f Nothing) _ (h k)))))
each_due_with f h Acknowledgement = right (f (WriteData Evict)) _ (right (f (SureCompletion Evict)) _ (right (f (Resending Evict)) _ (right (f (Completion Evict)) _ (right (f Nothing) _ (h Evict)))))

abbrev all_asked : (Option Snoop → Bool) → Bool
all_asked f = f None && all_snoops (λ x. f (Some x))

each_asked : (f : Option Snoop → Bool) → all_asked f ≡ true → (q : Option Snoop) → f q ≡ true
each_asked f h None = left (f None) _ h
each_asked f h (Some x) = each_snoop (λ x. f (Some x)) (right (f None) _ h) x

abbrev completes : (Grant → Due → Option Snoop → Bool) → Grant → Bool
completes f g = all_kinds (λ k. all_asked (λ q. where_it (is_completed g k q) (λ _. f g (Completion k) q && f g (SureCompletion k) q)))

each_completed : (f : Grant → Due → Option Snoop → Bool) (g : Grant) → completes f g ≡ true → (k : Kind) (q : Option Snoop) → is_completed g k q ≡ true → (f g (Completion k) q && f g (SureCompletion k) q) ≡ true
each_completed f g h k q = tried (is_completed g k q) (λ _. f g (Completion k) q && f g (SureCompletion k) q)
    (each_asked (λ q. where_it (is_completed g k q) (λ _. f g (Completion k) q && f g (SureCompletion k) q))
    (each_kind (λ k. all_asked (λ q. where_it (is_completed g k q) (λ _. f g (Completion k) q && f g (SureCompletion k) q))) h k) q)

abbrev all_completing : (Grant → Bool) → Bool
all_completing f = all_forms (λ s. f (CompData s)) && (f CompUC && (f CompSC && (f CompI && f CompDBIDResp)))

abbrev pub all_gifts : (Grant → Due → Option Snoop → Bool) → Snoop → Kind → Bool
all_gifts f x k = due_with (λ d. f (Snp x) d None) k && (all_asked (λ q. f RetryAck (Completion k) q) && all_completing (completes f))

abbrev pub Gifts : (Grant → Due → Option Snoop → Bool) → Type 0
Gifts f = (x : Snoop) (k : Kind) → all_gifts f x k ≡ true

-- the same where the kind matters
due_of : (f : Due → Bool) → all_dues f ≡ true → (k : Kind) → due_with f k ≡ true
due_of f h k = both (f Nothing) _ (each_due f h Nothing) (both (f (Completion k)) _ (each_due f h (Completion k)) (both (f (Resending k)) _ (each_due f h (Resending k))
    (both (f (SureCompletion k)) _ (each_due f h (SureCompletion k)) (both (f (WriteData k)) _ (each_due f h (WriteData k)) (each_due f h Acknowledgement)))))

abbrev pub all_kind_gifts : (Grant → Due → Option Snoop → Bool) → Snoop → Bool
all_kind_gifts f x = all_dues (λ d. f (Snp x) d None) && (all_kinds (λ k. all_asked (λ q. f RetryAck (Completion k) q)) && all_completing (completes f))

pub by_kind : (f : Grant → Due → Option Snoop → Bool) → ((x : Snoop) → all_kind_gifts f x ≡ true) → Gifts f
by_kind f h x k = both _ _ (due_of (λ d. f (Snp x) d None) (left (all_dues (λ d. f (Snp x) d None)) _ (h x)) k)
    (both (all_asked (λ q. f RetryAck (Completion k) q)) _ (each_kind (λ k. all_asked (λ q. f RetryAck (Completion k) q)) (left (all_kinds (λ k. all_asked (λ q. f RetryAck (Completion k) q))) _ (right (all_dues (λ d. f (Snp x) d None)) _ (h x))) k)
    (right (all_kinds (λ k. all_asked (λ q. f RetryAck (Completion k) q))) _ (right (all_dues (λ d. f (Snp x) d None)) _ (h x))))

-- it completes a request, or asks for its write data
abbrev is_completing : Grant → Bool
is_completing RetryAck = false
is_completing (Snp x) = false
is_completing other = true

snooping : (f : Grant → Due → Option Snoop → Bool) → Gifts f → (x : Snoop) (k : Kind) → due_with (λ d. f (Snp x) d None) k ≡ true
snooping f h x k = left (due_with (λ d. f (Snp x) d None) k) _ (h x k)

retrying : (f : Grant → Due → Option Snoop → Bool) → Gifts f → (k : Kind) → all_asked (λ q. f RetryAck (Completion k) q) ≡ true
retrying f h k = left (all_asked (λ q. f RetryAck (Completion k) q)) _ (right (due_with (λ d. f (Snp SnpOnce) d None) k) _ (h SnpOnce k))

completing : (f : Grant → Due → Option Snoop → Bool) → Gifts f → all_completing (completes f) ≡ true
completing f h = right (all_asked (λ q. f RetryAck (Completion Evict) q)) _ (right (due_with (λ d. f (Snp SnpOnce) d None) Evict) _ (h SnpOnce Evict))

with_data : (f : Grant → Due → Option Snoop → Bool) → Gifts f → (s : State) → completes f (CompData s) ≡ true
with_data f h = each_form (λ s. completes f (CompData s)) (left (all_forms (λ s. completes f (CompData s))) _ (completing f h))

without : (f : Grant → Due → Option Snoop → Bool) → Gifts f → (completes f CompUC && (completes f CompSC && (completes f CompI && completes f CompDBIDResp))) ≡ true
without f h = right (all_forms (λ s. completes f (CompData s))) _ (completing f h)

completed : (f : Grant → Due → Option Snoop → Bool) → Gifts f → (g : Grant) → is_completing g ≡ true → completes f g ≡ true
completed f h (CompData s) c = with_data f h s
completed f h CompUC c = left (completes f CompUC) _ (without f h)
completed f h CompSC c = left (completes f CompSC) _ (right (completes f CompUC) _ (without f h))
completed f h CompI c = left (completes f CompI) _ (right (completes f CompSC) _ (right (completes f CompUC) _ (without f h)))
completed f h CompDBIDResp c = right (completes f CompI) _ (right (completes f CompSC) _ (right (completes f CompUC) _ (without f h)))
completed f h RetryAck c = no c
completed f h (Snp x) c = no c

first : (f : Grant → Due → Option Snoop → Bool) → Gifts f → (g : Grant) → is_completing g ≡ true → (k : Kind) (q : Option Snoop) → is_completed g k q ≡ true → f g (Completion k) q ≡ true
first f h g e k q c = left (f g (Completion k) q) _ (each_completed f g (completed f h g e) k q c)

again : (f : Grant → Due → Option Snoop → Bool) → Gifts f → (g : Grant) → is_completing g ≡ true → (k : Kind) (q : Option Snoop) → is_completed g k q ≡ true → f g (SureCompletion k) q ≡ true
again f h g e k q c = right (f g (Completion k) q) _ (each_completed f g (completed f h g e) k q c)

pub each_due_gift : (f : Grant → Due → Option Snoop → Bool) → Gifts f → (g : Grant) (d : Due) (q : Option Snoop) → is_due g d q ≡ true → f g d q ≡ true
each_due_gift f h (Snp x) d None c = each_due_with (λ d. f (Snp x) d None) (snooping f h x) d
each_due_gift f h (Snp x) d (Some y) c = no c
each_due_gift f h RetryAck (Completion k) q c = each_asked (λ q. f RetryAck (Completion k) q) (retrying f h k) q
each_due_gift f h RetryAck other q c = no c
each_due_gift f h (CompData s) (Completion k) q c = first f h (CompData s) refl k q c
each_due_gift f h (CompData s) (SureCompletion k) q c = again f h (CompData s) refl k q c
each_due_gift f h (CompData s) other q c = no c
each_due_gift f h CompUC (Completion k) q c = first f h CompUC refl k q c
each_due_gift f h CompUC (SureCompletion k) q c = again f h CompUC refl k q c
each_due_gift f h CompUC other q c = no c
each_due_gift f h CompSC (Completion k) q c = first f h CompSC refl k q c
each_due_gift f h CompSC (SureCompletion k) q c = again f h CompSC refl k q c
each_due_gift f h CompSC other q c = no c
each_due_gift f h CompI (Completion k) q c = first f h CompI refl k q c
each_due_gift f h CompI (SureCompletion k) q c = again f h CompI refl k q c
each_due_gift f h CompI other q c = no c
each_due_gift f h CompDBIDResp (Completion k) q c = first f h CompDBIDResp refl k q c
each_due_gift f h CompDBIDResp (SureCompletion k) q c = again f h CompDBIDResp refl k q c
each_due_gift f h CompDBIDResp other q c = no c

abbrev pub held_gifts : (Grant → Due → Option Snoop → Known → Held → Bool) → Grant → Due → Option Snoop → Bool
held_gifts f g d q = all_knowns (λ k. all_helds (λ h. f g d q k h))

pub each_gift : (f : Grant → Due → Option Snoop → Known → Held → Bool) → Gifts (held_gifts f) → (g : Grant) (d : Due) (q : Option Snoop) → is_due g d q ≡ true → (k : Known) → (h : Held) → f g d q k h ≡ true
each_gift f e g d q c k h = each_held (λ h. f g d q k h) (each_known (λ k. all_helds (λ h. f g d q k h)) (each_due_gift (held_gifts f) e g d q c) k) h

abbrev pub told_gifts : (Grant → Due → Option Snoop → Known → Bool) → Grant → Due → Option Snoop → Bool
told_gifts f g d q = all_knowns (λ k. f g d q k)

pub each_told_gift : (f : Grant → Due → Option Snoop → Known → Bool) → Gifts (told_gifts f) → (g : Grant) (d : Due) (q : Option Snoop) → is_due g d q ≡ true → (k : Known) → f g d q k ≡ true
each_told_gift f e g d q c k = each_known (λ k. f g d q k) (each_due_gift (told_gifts f) e g d q c) k

-- WITHOUT A FLIT
abbrev pub all_due_copies : (Due → Known → Held → Bool) → Kind → Bool
all_due_copies f k = due_with (λ d. all_knowns (λ t. all_helds (λ h. f d t h))) k

abbrev pub DueCopies : (Due → Known → Held → Bool) → Type 0
DueCopies f = (k : Kind) → all_due_copies f k ≡ true

pub each_due_copy : (f : Due → Known → Held → Bool) → DueCopies f → (d : Due) → (t : Known) → (h : Held) → f d t h ≡ true
each_due_copy f e d t h = each_held (λ h. f d t h) (each_known (λ t. all_helds (λ h. f d t h)) (each_due_with (λ d. all_knowns (λ t. all_helds (λ h. f d t h))) e d) t) h

abbrev pub all_pairs : (Told → Told → Copy → Copy → Bool) → Bool
all_pairs f = all_tolds (λ t. all_tolds (λ u. all_copies (λ s. all_copies (λ r. f t u s r))))

pub each_pair : (f : Told → Told → Copy → Copy → Bool) → all_pairs f ≡ true → (t : Told) → (u : Told) → (s : Copy) → (r : Copy) → f t u s r ≡ true
each_pair f e t u s r = each_copy (λ r. f t u s r) (each_copy (λ s. all_copies (λ r. f t u s r)) (each_told (λ u. all_copies (λ s. all_copies (λ r. f t u s r))) (each_told (λ t. all_tolds (λ u. all_copies (λ s. all_copies (λ r. f t u s r)))) e t) u) s) r

abbrev pub all_told_pairs : (Told → Told → Bool) → Bool
all_told_pairs f = all_tolds (λ t. all_tolds (λ u. f t u))

pub each_told_pair : (f : Told → Told → Bool) → all_told_pairs f ≡ true → (t : Told) → (u : Told) → f t u ≡ true
each_told_pair f e t u = each_told (λ u. f t u) (each_told (λ t. all_tolds (λ u. f t u)) e t) u

abbrev pub all_copy_pairs : (Copy → Copy → Bool) → Bool
all_copy_pairs f = all_copies (λ s. all_copies (λ r. f s r))

pub each_copy_pair : (f : Copy → Copy → Bool) → all_copy_pairs f ≡ true → (s : Copy) → (r : Copy) → f s r ≡ true
each_copy_pair f e s r = each_copy (λ r. f s r) (each_copy (λ s. all_copies (λ r. f s r)) e s) r
