-- A flit of the home that an observer of the whole takes, an observer of a tail takes too, and stays above.
use Rattle.std.proofs.Common.{◌≡◌, ◌⊎◌, inl, inr, ℕ, List, refl, sym, ap, ◌∙◌}
use Rattle.chi_flit.specs.declared.state.State.TheVariants as states
use Rattle.std.specs.Prelude.{Bool, true, false, ◌&&◌, ◌||◌, not, Option, Some, None, if◌then◌else◌}
use Rattle.chi_observer.specs.declared.kinds.Kind.{Kind}
use Rattle.chi_observer.specs.declared.kinds.Snoop.{Snoop}
use Rattle.chi_observer.specs.declared.kinds.Snoop.TheVariants.{SnpOnce}
use Rattle.chi_observer.specs.declared.flits.Due.{Due}
use Rattle.chi_observer.specs.declared.flits.Due.TheVariants.{Nothing, Completion, Resending, SureCompletion, WriteData, Acknowledgement}
use Rattle.chi_observer.specs.declared.flits.Grant.{Grant}
use Rattle.chi_observer.specs.declared.flits.Grant.TheVariants.{RetryAck, Snp, CompData, CompUC, CompSC, CompI, CompDBIDResp}
use Rattle.chi_observer.specs.declared.begun.AgentBegun.{AgentBegun}
use Rattle.chi_observer.specs.Copies.{is_dirty}
use Rattle.chi_observer.specs.Rules.{due_granted, gives_copy, is_busy, is_due, is_of, is_resending, needs_moment, needs_quiet, overwrites, settles, snooped_granted}
use Rattle.chi_observer.specs.Tables.{Known, cancelled_by, fills_told, most, shows_told}
use Rattle.chi_observer.specs.Observed.{fits}
use Rattle.chi_observer.specs.Begun.{grant_left_over, grant_shows_older, left_over}
use Rattle.chi_observer.proofs.Finite.{no, right, implies}
use Rattle.chi_observer.proofs.Facts.{and_false, flip}
use Rattle.chi_observer.proofs.Words.{words_are}
use Rattle.chi_observer.proofs.Supposed.{holds_by, is_open_clean}
use Rattle.chi_observer.proofs.Addressed.{due_to}
use Rattle.chi_observer.proofs.Above.{snooped_kept}

-- SMALL FACTS
pub plain_given : (k : AgentBegun) (g : Grant) → grant_left_over k g ≡ false → (k.asked && not (needs_quiet g)) ≡ false
plain_given k (Snp x) h = and_false k.asked false refl
plain_given k RetryAck h = ap (λ (b : Bool). b && true) h
plain_given k (CompData x) h = ap (λ (b : Bool). b && true) h
plain_given k CompUC h = ap (λ (b : Bool). b && true) h
plain_given k CompSC h = ap (λ (b : Bool). b && true) h
plain_given k CompI h = ap (λ (b : Bool). b && true) h
plain_given k CompDBIDResp h = ap (λ (b : Bool). b && true) h

pub due_snooped : (g : Grant) (e : Due) (q p : Option Snoop) (snooped : Bool) → p ≡ snooped_kept snooped q → is_due g e q ≡ true → is_due g e None ≡ true → is_due g e p ≡ true
due_snooped g e q p true h d x = ap (is_due g e) h ∙ x
due_snooped g e q p false h d x = ap (is_due g e) h ∙ d

pub needed_more : (a b c : Bool) → implies b c ≡ true → (not a || b) ≡ true → (not a || c) ≡ true
needed_more true true true h e = refl
needed_more true true false h e = no h
needed_more true false c h e = no e
needed_more false b c h e = refl

pub needed_less : (a b c : Bool) → implies a b ≡ true → (not b || c) ≡ true → (not a || c) ≡ true
needed_less true true c h e = e
needed_less true false c h e = no h
needed_less false b c h e = refl

pub busy_less : (asked : Bool) (d : Due) → not (is_busy d) ≡ true → not (is_busy (due_to asked d)) ≡ true
busy_less true d h = refl
busy_less false d h = h

pub over_more : (e asked : Bool) (d : Due) → (e || not (overwrites (due_to asked d))) ≡ true → (e || not (overwrites d)) ≡ true
over_more true asked d h = refl
over_more false true d h = no h
over_more false false d h = h

pub not_more : (a b : Bool) → (b ≡ true → a ≡ true) → not a ≡ true → not b ≡ true
not_more a true h e = no (sym (ap not (h refl)) ∙ e)
not_more a false h e = refl

of_sent : (f : Kind → Bool) (d : Due) → is_of f d ≡ true → is_resending d ≡ false
of_sent f (Completion k) h = refl
of_sent f (SureCompletion k) h = refl
of_sent f Nothing h = no h
of_sent f (Resending k) h = no h
of_sent f (WriteData k) h = no h
of_sent f Acknowledgement h = no h

pub moment_sent : (g : Grant) (d : Due) → needs_moment g d ≡ true → is_resending d ≡ false
moment_sent (CompData x) d h = of_sent _ d h
moment_sent CompUC d h = of_sent _ d h
moment_sent CompSC d h = of_sent _ d h
moment_sent CompI d h = of_sent _ d h
moment_sent RetryAck d h = no h
moment_sent (Snp x) d h = no h
moment_sent CompDBIDResp d h = no h

retry_sent : (d : Due) (q : Option Snoop) → is_due RetryAck d q ≡ true → is_resending d ≡ false
retry_sent (Completion k) q h = refl
retry_sent (SureCompletion k) q h = no h
retry_sent Nothing q h = no h
retry_sent (Resending k) q h = no h
retry_sent (WriteData k) q h = no h
retry_sent Acknowledgement q h = no h

pub contrary_to : (a b : Bool) → implies a b ≡ true → b ≡ false → a ≡ false
contrary_to true b h e = no (sym e ∙ h)
contrary_to false b h e = refl

pub resending_so : (d : Due) (t : Known) → holds_by (is_open_clean d) d t ≡ true → is_resending d ≡ false → t.cancelled ≡ false
resending_so d t h e = contrary_to t.cancelled (is_resending d) (right _ _ (right (implies (is_open_clean d && not t.cancelled) (not (is_dirty (most t)))) _ h)) e

pub uncancelled : (g : Grant) (d : Due) (q : Option Snoop) (t : Known) → is_due g d q ≡ true → holds_by (is_open_clean d) d t ≡ true → cancelled_by g t.cancelled ≡ false → t.cancelled ≡ false
uncancelled RetryAck d q t h e c = resending_so d t e (retry_sent d q h)
uncancelled (Snp x) d q t h e c = c
uncancelled (CompData x) d q t h e c = c
uncancelled CompUC d q t h e c = c
uncancelled CompSC d q t h e c = c
uncancelled CompI d q t h e c = c
uncancelled CompDBIDResp d q t h e c = c

pub cancel_less : (g : Grant) (a b n : Bool) → implies a (b && n) ≡ true → implies (cancelled_by g a) (cancelled_by g b && n) ≡ true
cancel_less RetryAck a b n h = refl
cancel_less (Snp x) a b n h = h
cancel_less (CompData x) a b n h = h
cancel_less CompUC a b n h = h
cancel_less CompSC a b n h = h
cancel_less CompI a b n h = h
cancel_less CompDBIDResp a b n h = h

pub due_same : (asked : Bool) (g : Grant) (d : Due) → (if asked then left_over else due_granted g (due_to asked d)) ≡ (if asked then left_over else due_granted g d)
due_same true g d = refl
due_same false g d = refl

other_snooped : (snooped waiting : Bool) (q p : Option Snoop) → p ≡ snooped_kept snooped q → (waiting ≡ false → q ≡ None) → p ≡ snooped_kept (snooped && waiting) q
other_snooped true true q p h g = h
other_snooped true false q p h g = h ∙ sym (g refl)
other_snooped false waiting q p h g = h

pub snooped_same : (g : Grant) (snooped waiting : Bool) (q p : Option Snoop) → p ≡ snooped_kept snooped q → (needs_quiet g ≡ false → waiting ≡ false → q ≡ None) → (needs_quiet g ≡ true → waiting ≡ false) → snooped_granted g p ≡ snooped_kept (snooped && waiting) (snooped_granted g q)
snooped_same (Snp x) snooped waiting q p h f g = sym (ap (λ (b : Bool). snooped_kept b (Some x)) (and_false snooped waiting (g refl)))
snooped_same RetryAck snooped waiting q p h f g = other_snooped snooped waiting q p h (f refl)
snooped_same (CompData x) snooped waiting q p h f g = other_snooped snooped waiting q p h (f refl)
snooped_same CompUC snooped waiting q p h f g = other_snooped snooped waiting q p h (f refl)
snooped_same CompSC snooped waiting q p h f g = other_snooped snooped waiting q p h (f refl)
snooped_same CompI snooped waiting q p h f g = other_snooped snooped waiting q p h (f refl)
snooped_same CompDBIDResp snooped waiting q p h f g = other_snooped snooped waiting q p h (f refl)

pub snoop_quiet : (g : Grant) (e : Due) → needs_quiet g ≡ true → is_due g e (Some SnpOnce) ≡ false
snoop_quiet (Snp x) e h = refl
snoop_quiet RetryAck e h = no h
snoop_quiet (CompData x) e h = no h
snoop_quiet CompUC e h = no h
snoop_quiet CompSC e h = no h
snoop_quiet CompI e h = no h
snoop_quiet CompDBIDResp e h = no h

pub filled_by : (g : Grant) (d : Due) → gives_copy g ≡ true → (settles g d ≡ false) × (needs_quiet g ≡ false)
filled_by (CompData x) d h = (refl, refl)
filled_by RetryAck d h = no h
filled_by (Snp x) d h = no h
filled_by CompUC d h = no h
filled_by CompSC d h = no h
filled_by CompI d h = no h
filled_by CompDBIDResp d h = no h

-- data that aren't a ReadOnce's are the value
pub shown_fills : (g : Grant) (k : Known) → grant_shows_older g ≡ false → shows_told g k ≡ true → fills_told g k ≡ true
shown_fills (CompData states.I) k h e = no (sym h)
shown_fills (CompData states.SC) k h e = e
shown_fills (CompData states.UC) k h e = e
shown_fills (CompData states.UD) k h e = e
shown_fills (CompData states.SD) k h e = e
shown_fills RetryAck k h e = no e
shown_fills (Snp x) k h e = no e
shown_fills CompUC k h e = no e
shown_fills CompSC k h e = no e
shown_fills CompI k h e = no e
shown_fills CompDBIDResp k h e = no e

pub either : (a b : Bool) → (a || b) ≡ true → (a ≡ true) ⊎ (b ≡ true)
either true b h = inl refl
either false b h = inr h

pub plain_due : (asked : Bool) (d : Due) → asked ≡ false → due_to asked d ≡ d
plain_due asked d h = ap (λ (b : Bool). due_to b d) h

pub fits_kept : (home known : Option (List ℕ)) (s r : Bool) (x : List ℕ) → implies s r ≡ true → ((v : List ℕ) → home ≡ Some v → known ≡ Some v) → (not r || fits known x) ≡ true → (not s || fits home x) ≡ true
fits_kept home known false r x h g e = refl
fits_kept None known true r x h g e = refl
fits_kept (Some v) known true true x h g e = ap (λ (o : Option (List ℕ)). fits o x) (sym (g v refl)) ∙ e
fits_kept (Some v) known true false x h g e = no h

pub value_less : (s c e m : Bool) → implies e c ≡ true → implies (s || (e && m)) (s || (c && m)) ≡ true
value_less true c e m h = refl
value_less false true true true h = refl
value_less false true true false h = refl
value_less false false true m h = no h
value_less false c false m h = refl

value_none : (s c e m : Bool) → implies c e ≡ true → implies ((s || (c && m)) || false) (s || (e && m)) ≡ true
value_none true c e m h = refl
value_none false true true true h = refl
value_none false true true false h = refl
value_none false true false m h = no h
value_none false false e m h = refl

pub true_implies : (b c : Bool) → c ≡ true → implies b c ≡ true
true_implies true c h = h
true_implies false c h = refl

pub words_given : (older s r : Bool) (home known : Option (List ℕ)) (x v : List ℕ) (c e z m : Bool) → implies s r ≡ true → (older ≡ false → s ≡ true → e ≡ true)
    → ((u : List ℕ) → home ≡ Some u → (known ≡ Some u) × (implies c e ≡ true)) → (not r || fits known x) ≡ true
    → (if older then home else (if s then Some x else home)) ≡ Some v → ((if r then Some x else known) ≡ Some v) × (implies ((z || (c && m)) || false) (z || (e && m)) ≡ true)
words_given false true true home known x v c e z m h g k f w = (w, value_none z c e m (true_implies c e (g refl refl)))
words_given false true false home known x v c e z m h g k f w = no h
words_given true s r home known x v c e z m h g k f w = (old r (k v w).0 f, value_none z c e m (k v w).1)
  where
    old : (r : Bool) → known ≡ Some v → (not r || fits known x) ≡ true → (if r then Some x else known) ≡ Some v
    old true h f = ap (λ (u : List ℕ). Some u) (sym (words_are v x (ap (λ (o : Option (List ℕ)). fits o x) (sym h) ∙ f)))
    old false h f = h
words_given false false r home known x v c e z m h g k f w = (old r (k v w).0 f, value_none z c e m (k v w).1)
  where
    old : (r : Bool) → known ≡ Some v → (not r || fits known x) ≡ true → (if r then Some x else known) ≡ Some v
    old true h f = ap (λ (u : List ℕ). Some u) (sym (words_are v x (ap (λ (o : Option (List ℕ)). fits o x) (sym h) ∙ f)))
    old false h f = h

pub dirty_less : (a b : Bool) → implies b a ≡ true → implies (not (a || false)) (not (b || false)) ≡ true
dirty_less true b h = refl
dirty_less false true h = no h
dirty_less false false h = refl

pub dirty_before : (a b x y : Bool) → implies b a ≡ true → y ≡ false → implies (not (a || x)) (not (b || y)) ≡ true
dirty_before true b x y h e = refl
dirty_before false true x y h e = no h
dirty_before false false x y h e = true_implies (not x) _ (flip y e)

pub and_by : (a b c : Bool) → b ≡ false → (a && (b && c)) ≡ false
and_by true b c h = ap (λ (v : Bool). v && c) h
and_by false b c h = refl
