-- A flit of a cache that an observer of the whole takes, an observer of a tail takes too, and stays above.
use Rattle.std.proofs.Common.{rules, arith, ◌≡◌, ◌⊎◌, inl, inr, ℕ, List, refl, sym, ap, ◌∙◌}
use Rattle.std.specs.Prelude.{Bool, true, false, ◌&&◌, ◌||◌, not, Option, Some, None, if◌then◌else◌}
use Rattle.chi_observer.specs.declared.kinds.Snoop.{Snoop}
use Rattle.chi_observer.specs.declared.told.Told.{Told}
use Rattle.chi_observer.specs.declared.flits.Due.{Due}
use Rattle.chi_observer.specs.declared.flits.Stores.{Stores}
use Rattle.chi_observer.specs.declared.flits.Act.{Act}
use Rattle.chi_observer.specs.declared.flits.Act.TheVariants.{Request, Resend, SnpResp, CompAck, CopyBackWrData, NonCopyBackWrData, Load, Store}
use Rattle.chi_observer.specs.declared.begun.Certainty.{Certainty}
use Rattle.chi_observer.specs.declared.begun.Certainty.TheVariants.{Unknown, Unique, Told as ToldSo}
use Rattle.chi_observer.specs.declared.begun.AgentBegun.{AgentBegun}
use Rattle.chi_observer.specs.Rules.{allows, has_data, has_word, lets_go, looks}
use Rattle.chi_observer.specs.Tables.{Known, renews, tells_dirty}
use Rattle.chi_observer.specs.Rules.{throws}
use Rattle.chi_observer.specs.Observed.{fits, fits_word}
use Rattle.chi_observer.specs.Begun.{act_due, act_left_over, is_told, left_over, may_tell_stored, supposed_of, told_kept}
use Rattle.chi_observer.proofs.Finite.{no, both, implies, follow}
use Rattle.chi_observer.proofs.Facts.{and_false, implied}
use Rattle.chi_observer.proofs.Above.{snooped_kept}
use Rattle.chi_observer.proofs.Supposed.{answers, due_in, plain_mark, told_in}

-- WHICH SNOOP IS OPEN
pub plain_left : (k : AgentBegun) (a : Act) → act_left_over k a ≡ false → act_left_over (plain_mark k.copy k.asked) a ≡ false
plain_left k (SnpResp y) h = refl
plain_left k (Request y) h = refl
plain_left k (Resend y) h = refl
plain_left k CompAck h = h
plain_left k (CopyBackWrData y) h = h
plain_left k NonCopyBackWrData h = h
plain_left k (Load word) h = refl
plain_left k (Store word) h = refl

pub snoop_known : (k : AgentBegun) (a : Act) (q p : Option Snoop) → p ≡ snooped_kept k.snooped q → act_left_over k a ≡ false → (answers a ≡ false) ⊎ (p ≡ q)
snoop_known k (SnpResp y) q p h e = inr (h ∙ ap (λ (b : Bool). snooped_kept b q) e)
snoop_known k (Request y) q p h e = inl refl
snoop_known k (Resend y) q p h e = inl refl
snoop_known k CompAck q p h e = inl refl
snoop_known k (CopyBackWrData y) q p h e = inl refl
snoop_known k NonCopyBackWrData q p h e = inl refl
snoop_known k (Load word) q p h e = inl refl
snoop_known k (Store word) q p h e = inl refl

pub goes_known : (a : Act) (q p : Option Snoop) → (answers a ≡ false) ⊎ (p ≡ q) → (answers a ≡ false) ⊎ (lets_go p ≡ lets_go q)
goes_known a q p (inl h) = inl h
goes_known a q p (inr h) = inr (ap lets_go h)

unasked : (a : Act) (q : Option Snoop) → answers a ≡ false → allows a q ≡ true
unasked (SnpResp y) q h = no (sym h)
unasked (Request y) q h = refl
unasked (Resend y) q h = refl
unasked CompAck q h = refl
unasked (CopyBackWrData y) q h = refl
unasked NonCopyBackWrData q h = refl
unasked (Load word) q h = refl
unasked (Store word) q h = refl

pub allows_known : (a : Act) (q p : Option Snoop) → (answers a ≡ false) ⊎ (p ≡ q) → allows a q ≡ true → allows a p ≡ true
allows_known a q p (inl h) e = unasked a p h
allows_known a q p (inr h) e = ap (allows a) h ∙ e

-- WHAT IS DUE AND TOLD
pub due_known : (asked : Bool) (a : Act) (d e : Due) → e ≡ (if asked then left_over else d) → (if asked then act_due a else e) ≡ due_in asked a d
due_known true a d e h = refl
due_known false a d e h = h

kept_supposed : (c : Certainty) (t u : Told) → supposed_of c (told_kept c t) u ≡ supposed_of c t u
kept_supposed ToldSo t u = refl
kept_supposed Unique t u = refl
kept_supposed Unknown t u = refl

pub told_known : (c : Certainty) (t u v : Told) → v ≡ told_kept c t → supposed_of c v u ≡ supposed_of c t u
told_known c t u v h = ap (λ (w : Told). supposed_of c w u) h ∙ kept_supposed c t u

-- whether stores were done is told by what is told of the copy alone
pub renews_told : (z : Stores) (a : Act) (x : Bool) (d : Due) (k l : Known) → k.told ≡ l.told → renews z a x d k ≡ renews z a x d l
renews_told z a x d k l h = by a k ∙ ap (λ (u : Told). renews z a x d (record { told = u; cancelled = false })) h ∙ sym (by a l)
  where
    by : (a : Act) (k : Known) → renews z a x d k ≡ renews z a x d (record { told = k.told; cancelled = false })
    by (Request y) k = refl
    by (Resend y) k = refl
    by (SnpResp y) k = refl
    by CompAck k = refl
    by (CopyBackWrData y) k = refl
    by NonCopyBackWrData k = refl
    by (Load word) k = refl
    by (Store word) k = refl

-- WHAT LEAVES OPEN WHETHER THERE WAS A STORE
pub unblurred : (asked told unclear : Bool) → ((asked || not told) && unclear) ≡ false → ((asked ≡ false) × (told ≡ true)) ⊎ (unclear ≡ false)
unblurred true told unclear h = inr h
unblurred false true unclear h = inl (refl, refl)
unblurred false false unclear h = inr h

or_left : (a b : Bool) → (a || b) ≡ false → a ≡ false
or_left true b h = no (sym h)
or_left false b h = refl

or_right : (a b : Bool) → (a || b) ≡ false → b ≡ false
or_right true b h = no (sym h)
or_right false b h = h

quiet_or : (u v t w : Bool) → t ≡ false → w ≡ false → (u && (v && (t || w))) ≡ false
quiet_or u v t w h e = and_false u _ (and_false v _ (ap (λ (b : Bool). b || w) h ∙ e))

-- what tells of no store tells that there was none, where it has data
pub quiet_renews : (z : Stores) (a : Act) (x : Bool) (d : Due) (k : Known) → may_tell_stored a x ≡ false → has_data a ≡ true → renews z a x d k ≡ false
quiet_renews z (Request y) x d k h e = no e
quiet_renews z (Resend y) x d k h e = no e
quiet_renews z (SnpResp y) x d k h e = quiet_or _ _ (tells_dirty (SnpResp y)) (throws (SnpResp y) x) (or_left (tells_dirty (SnpResp y)) _ h) (or_left (throws (SnpResp y) x) _ (or_right (tells_dirty (SnpResp y)) _ h))
quiet_renews z CompAck x d k h e = no e
quiet_renews z (CopyBackWrData y) x d k h e = quiet_or _ _ false false refl refl
quiet_renews z NonCopyBackWrData x d k h e = no e
quiet_renews z (Load word) x d k h e = no e
quiet_renews z (Store word) x d k h e = no e

-- or is a store that was seen
pub quiet_less : (z : Stores) (a : Act) (x : Bool) (d e : Due) (k l : Known) → may_tell_stored a x ≡ false → renews z a x e l ≡ false → renews z a x d k ≡ false
quiet_less z (Request y) x d e k l h r = quiet_or _ _ (tells_dirty (Request y)) false (or_left (tells_dirty (Request y)) _ h) refl
quiet_less z (Resend y) x d e k l h r = quiet_or _ _ false false refl refl
quiet_less z (SnpResp y) x d e k l h r = quiet_or _ _ (tells_dirty (SnpResp y)) (throws (SnpResp y) x) (or_left (tells_dirty (SnpResp y)) _ h) (or_left (throws (SnpResp y) x) _ (or_right (tells_dirty (SnpResp y)) _ h))
quiet_less z CompAck x d e k l h r = quiet_or _ _ false false refl refl
quiet_less z (CopyBackWrData y) x d e k l h r = quiet_or _ _ false false refl refl
quiet_less z NonCopyBackWrData x d e k l h r = quiet_or _ _ false false refl refl
quiet_less z (Load word) x d e k l h r = no (sym h)
quiet_less z (Store word) x d e k l h r = no (sym r)

pub quiet_looks : (a : Act) (x : Bool) → may_tell_stored a x ≡ false → looks a ≡ false
quiet_looks a x h = or_right (throws a x) (looks a) (or_right (tells_dirty a) _ h)

told_is : (c : Certainty) → is_told c ≡ true → c ≡ ToldSo
told_is ToldSo h = refl
told_is Unique h = no h
told_is Unknown h = no h

pub due_plain : (asked : Bool) (a : Act) (d : Due) → asked ≡ false → due_in asked a d ≡ d
due_plain asked a d h = ap (λ (b : Bool). due_in b a d) h

pub told_plain : (c : Certainty) (a : Act) (t : Told) → is_told c ≡ true → told_in c a t ≡ t
told_plain c a t h = ap (λ (v : Certainty). told_in v a t) (told_is c h)

-- WORDS
-- the words that are known then
abbrev pub words_left : Bool → Option (List ℕ) → Option (List ℕ)
words_left blurred home = if blurred then None else home

pub shown_kept : (blurred : Bool) (home : Option (List ℕ)) (c d r : Bool) (x : List ℕ) → ((v : List ℕ) → blurred ≡ false → home ≡ Some v → c ≡ true → d ≡ true → r ≡ false → fits (Some v) x ≡ true) → (not d || (r || (not c || fits (words_left blurred home) x))) ≡ true
shown_kept blurred home c false r x h = refl
shown_kept blurred home c true true x h = refl
shown_kept blurred home false true false x h = refl
shown_kept true home true true false x h = refl
shown_kept false None true true false x h = refl
shown_kept false (Some v) true true false x h = h v refl refl refl refl refl

pub word_kept : (blurred : Bool) (home : Option (List ℕ)) (c r : Bool) (a : Act) → ((v : List ℕ) → blurred ≡ false → home ≡ Some v → c ≡ true → r ≡ false → has_word a v ≡ true) → (r || (not c || fits_word (words_left blurred home) a)) ≡ true
word_kept blurred home c true a h = refl
word_kept blurred home false false a h = refl
word_kept true home true false a h = refl
word_kept false None true false a h = refl
word_kept false (Some v) true false a h = h v refl refl refl refl

-- the words that are shown are others than the known ones
pub differs_less : (blurred : Bool) (home known : Option (List ℕ)) (c e d : Bool) (x : List ℕ) → ((v : List ℕ) → home ≡ Some v → (known ≡ Some v) × (implies c e ≡ true)) → implies (d && (c && not (fits (words_left blurred home) x))) ((d && (e && not (fits known x))) && not blurred) ≡ true
differs_less blurred home known c e false x h = refl
differs_less blurred home known false e true x h = refl
differs_less true home known true e true x h = refl
differs_less false None known true e true x h = refl
differs_less false (Some v) known true e true x h = implied _ _ (λ g. both (true && (e && not (fits known x))) true (both e _ (follow true e (h v refl).1 refl) (ap (λ (o : Option (List ℕ)). not (fits o x)) (h v refl).0 ∙ g)) refl)

-- what is known then
pub words_sent : (blurred : Bool) (home known : Option (List ℕ)) (c e t r s : Bool) (x v : List ℕ) → ((u : List ℕ) → home ≡ Some u → (known ≡ Some u) × (implies c e ≡ true)) → (blurred ≡ false → r ≡ false → s ≡ false)
    → (if t then Some x else words_left blurred home) ≡ Some v → ((if t then Some x else known) ≡ Some v) × (implies ((if t then true else (if r then false else c)) || blurred) (if t then true else (if s then false else e)) ≡ true)
words_sent blurred home known c e true r s x v h g k = (k, refl)
words_sent true home known c e false r s x v h g k = no (none_some v k)
  where
    none_some : (v : List ℕ) → None ≡ Some v → false ≡ true
    none_some v h = absurd (search (rules, arith))
words_sent false home known c e false true s x v h g k = ((h v k).0, refl)
words_sent false home known c e false false s x v h g k = ((h v k).0, less c e s (h v k).1 (g refl refl))
  where
    less : (c e s : Bool) → implies c e ≡ true → s ≡ false → implies (c || false) (if s then false else e) ≡ true
    less true true true h k = no (sym k)
    less true true false h k = refl
    less true false s h k = no h
    less false e s h k = refl

pub current_sent : (c e t r s : Bool) → implies e c ≡ true → (t ≡ false → implies r s ≡ true) → implies (if t then true else (if s then false else e)) (if t then true else (if r then false else c)) ≡ true
current_sent c e true r s h g = refl
current_sent c e false r true h g = refl
current_sent c e false true false h g = no (g refl)
current_sent c e false false false h g = h

pub or_more : (b c : Bool) (x : Bool) → implies b c ≡ true → implies b (c || x) ≡ true
or_more true true x h = refl
or_more true false x h = no h
or_more false c x h = refl

pub or_both : (b c x : Bool) → implies b c ≡ true → implies (b || x) (c || x) ≡ true
or_both true true x h = refl
or_both true false x h = no h
or_both false true true h = refl
or_both false false true h = refl
or_both false true false h = refl
or_both false false false h = refl
