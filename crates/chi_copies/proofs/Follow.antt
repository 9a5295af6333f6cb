-- What is outstanding behind a flit of a legal trace.
use Rattle.std.proofs.Common.{rules, arith, ◌≡◌, ◌≢◌, ℕ, zero, suc, ◌+◌, ◌-◌, ◌<◌, refl, sym, subst}
use Rattle.std.specs.Prelude.{Bool, true, false, ◌&&◌, ◌||◌, ◌==◌, not, Option, Some, None, if◌then◌else◌}
use Rattle.chi_observer.specs.declared.kinds.Snoop.{Snoop}
use Rattle.chi_observer.specs.declared.flits.Due.{Due}
use Rattle.chi_observer.specs.declared.flits.Due.TheVariants.{Nothing, Completion, Resending, SureCompletion, WriteData, Acknowledgement}
use Rattle.chi_observer.specs.declared.flits.Stores.{Stores}
use Rattle.chi_observer.specs.declared.flits.Act.{Act}
use Rattle.chi_observer.specs.declared.flits.Act.TheVariants.{Request, Resend, SnpResp, CompAck, CopyBackWrData, NonCopyBackWrData, Load, Store}
use Rattle.chi_observer.specs.declared.flits.Grant.{Grant}
use Rattle.chi_observer.specs.declared.flits.Grant.TheVariants.{RetryAck, Snp, CompData, CompUC, CompSC, CompI, CompDBIDResp}
use Rattle.chi_observer.specs.declared.flits.CacheFlit.{CacheFlit}
use Rattle.chi_observer.specs.declared.flits.HomeFlit.{HomeFlit}
use Rattle.chi_observer.specs.declared.flits.Flit.TheVariants.{Up, Down}
use Rattle.chi_observer.specs.Rules.{allows, due_after, due_granted, form_has_data, is_due, is_resending, is_upgraded, makes, snooped_after, snooped_granted}
use Rattle.chi_copies.specs.Copies.{Held}
use Rattle.chi_copies.specs.Rules.{lets}
use Rattle.chi_copies.specs.Worlds.{Public, public_after, public_granted, put}
use Rattle.chi_copies.specs.Runs.{public_of}
use Rattle.chi_copies.specs.Begun.{asks}
use Rattle.chi_copies.specs.Unjudged.{FlitsAreCounted, IsCounted, act_ends, is_outstanding, is_retry, is_snoop, is_snooped, one_if, outstanding_of, sum_below}
use Rattle.chi_copies.proofs.Finite.{no, left}
use Rattle.chi_copies.proofs.Put.{alike, unlike, here, there, split}

-- ONE AGENT'S COUNT changes
same_below : (k n : ℕ) (f g : ℕ → ℕ) → k < n + 1 → ((m : ℕ) → m ≢ n → g m ≡ f m) → sum_below k g ≡ sum_below k f
same_below zero n f g l e = refl
same_below (suc k) n f g l e = let low : k < n + 1 = omega arith in let apart : k ≢ n = omega arith in λ i. e k apart i + same_below k n f g low e i

swapped : (a b c d : ℕ) → (a + b) ≡ (c + d) → (x : ℕ) → (x + a) + b ≡ (x + c) + d
swapped a b c d e x = omega arith

abbrev SumPut : ℕ → ℕ → (ℕ → ℕ) → (ℕ → ℕ) → Type 0
SumPut n k f g = ((m : ℕ) → m ≢ n → g m ≡ f m) → n < k → sum_below k g + f n ≡ sum_below k f + g n

sum_put : (k n : ℕ) (f g : ℕ → ℕ) → SumPut n k f g
sum_put zero n f g = λ e l. absurd (search (rules, arith))
sum_put (suc k) n f g = split (λ m. SumPut m (suc k) f g) k
    (λ e l. let s : sum_below k g ≡ sum_below k f = same_below k k f g (omega arith) e in omega (arith, s))
    (λ m apart e l. let low : m < k = search (rules, arith) in let s = sum_put k m f g e low in let t : g k ≡ f k = e k (λ h. apart (sym h)) in omega (arith, s, t)) n

abbrev ChangesBy : Bool → Bool → ℕ → ℕ → Type 0
ChangesBy true e f g = g ≡ f + 1
ChangesBy false true f g = f ≡ g + 1
ChangesBy false false f g = g ≡ f

counted : (o e : Bool) (s t f g : ℕ) → t + f ≡ s + g → ChangesBy o e f g → t ≡ (if o then s + 1 else (if e then s - 1 else s))
counted true e s t f g h c = omega (arith, h, c)
counted false true s t f g h c = omega (arith, h, c)
counted false false s t f g h c = omega (arith, h, c)

-- a request, or a snoop, more
one_request : (x : ℕ) → 1 + x ≡ (0 + x) + 1
one_request x = omega arith

one_snoop : (x : ℕ) → x + 1 ≡ (x + 0) + 1
one_snoop x = omega arith

-- A FLIT OF A CACHE
module _ (z : Stores) (own : Bool) (h : Held) where
  sent_changes : (a : Act) (d : Due) (q : Option Snoop) → allows a q ≡ true → lets z a own d h ≡ true → ChangesBy (asks a) (act_ends a) (outstanding_of false d q) (outstanding_of false (due_after a d) (snooped_after a q))
  sent_changes (Request kind) Nothing q l e = one_request (one_if (is_snooped q))
  sent_changes (Request kind) (Resending asked) q l e = one_request (one_if (is_snooped q))
  sent_changes (Request kind) (Completion asked) q l e = no e
  sent_changes (Request kind) (SureCompletion asked) q l e = no e
  sent_changes (Request kind) (WriteData asked) q l e = no e
  sent_changes (Request kind) Acknowledgement q l e = no e
  sent_changes (Resend kind) (Resending asked) q l e = one_request (one_if (is_snooped q))
  sent_changes (Resend kind) Nothing q l e = no e
  sent_changes (Resend kind) (Completion asked) q l e = no e
  sent_changes (Resend kind) (SureCompletion asked) q l e = no e
  sent_changes (Resend kind) (WriteData asked) q l e = no e
  sent_changes (Resend kind) Acknowledgement q l e = no e
  sent_changes (SnpResp answer) d None l e = no l
  sent_changes (SnpResp answer) d (Some snoop) l e = one_snoop (one_if (is_outstanding d))
  sent_changes CompAck Acknowledgement q l e = one_request (one_if (is_snooped q))
  sent_changes CompAck Nothing q l e = no e
  sent_changes CompAck (Completion asked) q l e = no e
  sent_changes CompAck (Resending asked) q l e = no e
  sent_changes CompAck (SureCompletion asked) q l e = no e
  sent_changes CompAck (WriteData asked) q l e = no e
  sent_changes (CopyBackWrData form) (WriteData asked) q l e = one_request (one_if (is_snooped q))
  sent_changes (CopyBackWrData form) Nothing q l e = no e
  sent_changes (CopyBackWrData form) (Completion asked) q l e = no e
  sent_changes (CopyBackWrData form) (Resending asked) q l e = no e
  sent_changes (CopyBackWrData form) (SureCompletion asked) q l e = no e
  sent_changes (CopyBackWrData form) Acknowledgement q l e = no e
  sent_changes NonCopyBackWrData (WriteData asked) q l e = one_request (one_if (is_snooped q))
  sent_changes NonCopyBackWrData Nothing q l e = no e
  sent_changes NonCopyBackWrData (Completion asked) q l e = no e
  sent_changes NonCopyBackWrData (Resending asked) q l e = no e
  sent_changes NonCopyBackWrData (SureCompletion asked) q l e = no e
  sent_changes NonCopyBackWrData Acknowledgement q l e = no e
  sent_changes (Load word) d q l e = refl
  sent_changes (Store word) d q l e = refl

  kept_or : (b : Bool) → b ≡ ((b && true) || false)
  kept_or true = refl
  kept_or false = refl

  gone_or : (b : Bool) → false ≡ ((b && false) || false)
  gone_or true = refl
  gone_or false = refl

  asked_here : (a : Act) (d : Due) → lets z a own d h ≡ true → is_resending (due_after a d) ≡ ((is_resending d && not (asks a && true)) || false)
  asked_here (Request kind) d e = gone_or (is_resending d)
  asked_here (Resend kind) d e = gone_or (is_resending d)
  asked_here (SnpResp answer) d e = kept_or (is_resending d)
  asked_here CompAck Acknowledgement e = refl
  asked_here CompAck Nothing e = refl
  asked_here CompAck (Completion asked) e = refl
  asked_here CompAck (Resending asked) e = no e
  asked_here CompAck (SureCompletion asked) e = refl
  asked_here CompAck (WriteData asked) e = refl
  asked_here (CopyBackWrData form) Acknowledgement e = refl
  asked_here (CopyBackWrData form) Nothing e = refl
  asked_here (CopyBackWrData form) (Completion asked) e = refl
  asked_here (CopyBackWrData form) (Resending asked) e = no e
  asked_here (CopyBackWrData form) (SureCompletion asked) e = refl
  asked_here (CopyBackWrData form) (WriteData asked) e = refl
  asked_here NonCopyBackWrData Acknowledgement e = refl
  asked_here NonCopyBackWrData Nothing e = refl
  asked_here NonCopyBackWrData (Completion asked) e = refl
  asked_here NonCopyBackWrData (Resending asked) e = no e
  asked_here NonCopyBackWrData (SureCompletion asked) e = refl
  asked_here NonCopyBackWrData (WriteData asked) e = refl
  asked_here (Load word) d e = kept_or (is_resending d)
  asked_here (Store word) d e = kept_or (is_resending d)

  asked_there : (b r : Bool) → r ≡ ((r && not (b && false)) || false)
  asked_there true r = kept_or r
  asked_there false r = kept_or r

-- ONE OF THE HOME
done_by : (b : Bool) (x : ℕ) → ChangesBy false (not (is_outstanding (if b then Acknowledgement else Nothing))) (1 + x) (one_if (is_outstanding (if b then Acknowledgement else Nothing)) + x)
done_by true x = refl
done_by false x = one_request x

given_changes : (g : Grant) (d : Due) (q : Option Snoop) → is_due g d q ≡ true → ChangesBy (is_snoop g) (not (is_snoop g) && not (is_outstanding (due_granted g d))) (outstanding_of false d q) (outstanding_of false (due_granted g d) (snooped_granted g q))
given_changes (Snp snoop) d None e = one_snoop (one_if (is_outstanding d))
given_changes (Snp snoop) d (Some other) e = no e
given_changes RetryAck (Completion kind) q e = one_request (one_if (is_snooped q))
given_changes RetryAck Nothing q e = no e
given_changes RetryAck (Resending kind) q e = no e
given_changes RetryAck (SureCompletion kind) q e = no e
given_changes RetryAck (WriteData kind) q e = no e
given_changes RetryAck Acknowledgement q e = no e
given_changes (CompData form) (Completion kind) q e = done_by (form_has_data form) (one_if (is_snooped q))
given_changes (CompData form) (SureCompletion kind) q e = done_by (form_has_data form) (one_if (is_snooped q))
given_changes (CompData form) Nothing q e = no e
given_changes (CompData form) (Resending kind) q e = no e
given_changes (CompData form) (WriteData kind) q e = no e
given_changes (CompData form) Acknowledgement q e = no e
given_changes CompUC (Completion kind) q e = done_by (makes CompUC (Completion kind) || is_upgraded (Completion kind)) (one_if (is_snooped q))
given_changes CompUC (SureCompletion kind) q e = done_by (makes CompUC (SureCompletion kind) || is_upgraded (SureCompletion kind)) (one_if (is_snooped q))
given_changes CompUC Nothing q e = no e
given_changes CompUC (Resending kind) q e = no e
given_changes CompUC (WriteData kind) q e = no e
given_changes CompUC Acknowledgement q e = no e
given_changes CompSC (Completion kind) q e = one_request (one_if (is_snooped q))
given_changes CompSC (SureCompletion kind) q e = one_request (one_if (is_snooped q))
given_changes CompSC Nothing q e = no e
given_changes CompSC (Resending kind) q e = no e
given_changes CompSC (WriteData kind) q e = no e
given_changes CompSC Acknowledgement q e = no e
given_changes CompI (Completion kind) q e = one_request (one_if (is_snooped q))
given_changes CompI (SureCompletion kind) q e = one_request (one_if (is_snooped q))
given_changes CompI Nothing q e = no e
given_changes CompI (Resending kind) q e = no e
given_changes CompI (WriteData kind) q e = no e
given_changes CompI Acknowledgement q e = no e
given_changes CompDBIDResp (Completion kind) q e = refl
given_changes CompDBIDResp (SureCompletion kind) q e = refl
given_changes CompDBIDResp Nothing q e = no e
given_changes CompDBIDResp (Resending kind) q e = no e
given_changes CompDBIDResp (WriteData kind) q e = no e
given_changes CompDBIDResp Acknowledgement q e = no e

same_or : (r : Bool) → r ≡ ((r && true) || false)
same_or true = refl
same_or false = refl

unresent : (b : Bool) → is_resending (if b then Acknowledgement else Nothing) ≡ false
unresent true = refl
unresent false = refl

grant_here : (g : Grant) (d : Due) (q : Option Snoop) → is_due g d q ≡ true → is_resending (due_granted g d) ≡ ((is_resending d && true) || (is_retry g && true))
grant_here (Snp snoop) d q e = same_or (is_resending d)
grant_here RetryAck (Completion kind) q e = refl
grant_here RetryAck Nothing q e = no e
grant_here RetryAck (Resending kind) q e = no e
grant_here RetryAck (SureCompletion kind) q e = no e
grant_here RetryAck (WriteData kind) q e = no e
grant_here RetryAck Acknowledgement q e = no e
grant_here (CompData form) (Completion kind) q e = unresent (form_has_data form)
grant_here (CompData form) (SureCompletion kind) q e = unresent (form_has_data form)
grant_here (CompData form) Nothing q e = no e
grant_here (CompData form) (Resending kind) q e = no e
grant_here (CompData form) (WriteData kind) q e = no e
grant_here (CompData form) Acknowledgement q e = no e
grant_here CompUC (Completion kind) q e = unresent (makes CompUC (Completion kind) || is_upgraded (Completion kind))
grant_here CompUC (SureCompletion kind) q e = unresent (makes CompUC (SureCompletion kind) || is_upgraded (SureCompletion kind))
grant_here CompUC Nothing q e = no e
grant_here CompUC (Resending kind) q e = no e
grant_here CompUC (WriteData kind) q e = no e
grant_here CompUC Acknowledgement q e = no e
grant_here CompSC (Completion kind) q e = refl
grant_here CompSC (SureCompletion kind) q e = refl
grant_here CompSC Nothing q e = no e
grant_here CompSC (Resending kind) q e = no e
grant_here CompSC (WriteData kind) q e = no e
grant_here CompSC Acknowledgement q e = no e
grant_here CompI (Completion kind) q e = refl
grant_here CompI (SureCompletion kind) q e = refl
grant_here CompI Nothing q e = no e
grant_here CompI (Resending kind) q e = no e
grant_here CompI (WriteData kind) q e = no e
grant_here CompI Acknowledgement q e = no e
grant_here CompDBIDResp (Completion kind) q e = refl
grant_here CompDBIDResp (SureCompletion kind) q e = refl
grant_here CompDBIDResp Nothing q e = no e
grant_here CompDBIDResp (Resending kind) q e = no e
grant_here CompDBIDResp (WriteData kind) q e = no e
grant_here CompDBIDResp Acknowledgement q e = no e

grant_there : (b r : Bool) → r ≡ ((r && true) || (b && false))
grant_there true r = same_or r
grant_there false r = same_or r

-- OF A LINE
acts_lets : (b : Bool) (o : Option Held) (k : Held) → (if b then o else None) ≡ Some k → b ≡ true
acts_lets true o k e = refl
acts_lets false o k e = cc

module _ (p : Public) (n : ℕ) (d : Due) (q : Option Snoop) (o e : Bool) (low : n < 32) where
  abbrev before : ℕ → ℕ
  before m = outstanding_of false (p.due m) (p.snooped m)

  abbrev behind : ℕ → ℕ
  behind m = outstanding_of false (put n d p.due m) (put n q p.snooped m)

  behind_there : (m : ℕ) → m ≢ n → behind m ≡ before m
  behind_there m apart = λ i. outstanding_of false (there n d p.due m apart i) (there n q p.snooped m apart i)

  behind_here : behind n ≡ outstanding_of false d q
  behind_here = λ i. outstanding_of false (here n d p.due i) (here n q p.snooped i)

  count_changes : ChangesBy o e (before n) (outstanding_of false d q) → sum_below 32 behind ≡ (if o then sum_below 32 before + 1 else (if e then sum_below 32 before - 1 else sum_below 32 before))
  count_changes c = counted o e (sum_below 32 before) (sum_below 32 behind) (before n) (behind n) (sum_put 32 n before behind behind_there low)
      (subst (λ (x : ℕ). ChangesBy o e (before n) x) (sym behind_here) c)

sent_counted : (p : Public) (f : CacheFlit) (own : Bool) (h : Held) → f.agent.0 < 32 → allows f.act (p.snooped f.agent.0) ≡ true → lets p.stores f.act own (p.due f.agent.0) h ≡ true → IsCounted p (public_after f p) (Up f)
sent_counted p f own h low allowed may = let n = f.agent.0 in record {
  count = count_changes p n (due_after f.act (p.due n)) (snooped_after f.act (p.snooped n)) (asks f.act) (act_ends f.act) low (sent_changes p.stores own h f.act (p.due n) (p.snooped n) allowed may);
  asked = split (λ m. is_resending (put n (due_after f.act (p.due n)) p.due m) ≡ ((is_resending (p.due m) && not (asks f.act && m == n)) || false)) n
      (subst (λ (b : Bool). is_resending (if b then due_after f.act (p.due n) else p.due n) ≡ ((is_resending (p.due n) && not (asks f.act && b)) || false)) (sym (alike n)) (asked_here p.stores own h f.act (p.due n) may))
      (λ m apart. subst (λ (b : Bool). is_resending (if b then due_after f.act (p.due n) else p.due m) ≡ ((is_resending (p.due m) && not (asks f.act && b)) || false)) (sym (unlike m n apart)) (asked_there p.stores own h (asks f.act) (is_resending (p.due m))));
}

given_counted : (p : Public) (g : HomeFlit) → g.agent.0 < 32 → is_due g.grant (p.due g.agent.0) (p.snooped g.agent.0) ≡ true → IsCounted p (public_granted g p) (Down g)
given_counted p g low due =
    let n = g.agent.0 in
    let d = due_granted g.grant (p.due n) in record {
      count = count_changes p n d (snooped_granted g.grant (p.snooped n)) (is_snoop g.grant) (not (is_snoop g.grant) && not (is_outstanding (put n d p.due n))) low
          (subst (λ (x : Due). ChangesBy (is_snoop g.grant) (not (is_snoop g.grant) && not (is_outstanding x)) (outstanding_of false (p.due n) (p.snooped n)) (outstanding_of false d (snooped_granted g.grant (p.snooped n)))) (sym (here n d p.due))
          (given_changes g.grant (p.due n) (p.snooped n) due));
      asked = split (λ m. is_resending (put n d p.due m) ≡ ((is_resending (p.due m) && true) || (is_retry g.grant && m == n))) n
          (subst (λ (b : Bool). is_resending (if b then d else p.due n) ≡ ((is_resending (p.due n) && true) || (is_retry g.grant && b))) (sym (alike n)) (grant_here g.grant (p.due n) (p.snooped n) due))
          (λ m apart. subst (λ (b : Bool). is_resending (if b then d else p.due m) ≡ ((is_resending (p.due m) && true) || (is_retry g.grant && b))) (sym (unlike m n apart)) (grant_there (is_retry g.grant) (is_resending (p.due m))));
    }

pub flits_counted : FlitsAreCounted
flits_counted z (Up f) es l =
    let sends = l.2.3 in
    sent_counted (public_of z es) f _ _ l.1 sends.allowed (acts_lets _ _ _ sends.act)
flits_counted z (Down g) es l =
    let safe = l.3 l.2.0 l.2.1 l.2.2 in
    given_counted (public_of z es) g l.1 (left (is_due g.grant ((public_of z es).due g.agent.0) ((public_of z es).snooped g.agent.0)) _ safe.0)
