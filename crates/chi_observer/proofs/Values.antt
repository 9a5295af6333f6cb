-- The words that complete a ReadOnce were the value last stored at a moment since its issue.
use Rattle.std.proofs.Common.{◌≡◌, ◌⊎◌, inl, inr, ℕ, List, [], ◌∷◌, refl, sym, ap, subst, ◌∙◌}
use Rattle.std.specs.Prelude.{Bool, true, false, ◌&&◌, ◌||◌, ◌==◌, not, Option, if◌then◌else◌}
use Rattle.chi_observer.specs.declared.kinds.Snoop.{Snoop}
use Rattle.chi_observer.specs.declared.kinds.Kind.{Kind}
use Rattle.chi_observer.specs.declared.kinds.Kind.TheVariants.{ReadOnce}
use Rattle.chi_observer.specs.declared.flits.Due.{Due}
use Rattle.chi_observer.specs.declared.flits.Stores.{Stores}
use Rattle.chi_observer.specs.declared.flits.Due.TheVariants.{Nothing, Completion, Resending, SureCompletion, WriteData, Acknowledgement}
use Rattle.chi_observer.specs.declared.flits.Act.{Act}
use Rattle.chi_observer.specs.declared.flits.Act.TheVariants.{Request, Resend, SnpResp, CompAck, CopyBackWrData, NonCopyBackWrData, Load, Store}
use Rattle.chi_observer.specs.declared.flits.Grant.{Grant}
use Rattle.chi_observer.specs.declared.flits.CacheFlit.{CacheFlit}
use Rattle.chi_observer.specs.declared.flits.HomeFlit.{HomeFlit}
use Rattle.chi_observer.specs.declared.flits.Flit.{Flit}
use Rattle.chi_observer.specs.declared.flits.Flit.TheVariants.{Up, Down}
use Rattle.chi_observer.specs.Rules.{lets_go, same_kind, is_request, reads_once, needs_moment, tells_words, is_due, gives_data, gives_copy, due_after, due_granted}
use Rattle.chi_observer.specs.Tables.{Known, fits_told}
use Rattle.chi_observer.specs.Worlds.{Public, World, Sends, Drift, home_may, put}
use Rattle.chi_observer.specs.Worlds.Drift.{Stay, Step}
use Rattle.chi_observer.specs.Observed.{Observed}
use Rattle.chi_observer.specs.Moments.{is_issue}
use Rattle.chi_observer.specs.Runs.{public_of, seen, shown_by, After, HomeIsLast, HasMoment, IsMoment, WasValue, ReadOnceShowsValue, Accepted}
use Rattle.chi_observer.proofs.Finite.{no, left, right, both, implies, follow, all_kinds, each_kind, all_grants, each_grant, all_dues, each_due}
use Rattle.chi_observer.proofs.Spots.{Gifts, each_due_gift}
use Rattle.chi_observer.proofs.Facts.{or_here}
use Rattle.chi_observer.proofs.Put.{here, there, alike, split}
use Rattle.chi_observer.proofs.Cache.{told_here}
use Rattle.chi_observer.proofs.Runs.{exact}
use Rattle.chi_observer.proofs.Since.{moment_shown}

drift_home : (p : Public) (w w' : World) → Drift p w w' → w'.home ≡ w.home
drift_home p w w' Stay = refl
drift_home p w w' (Step {u = u} {v = v} {w = w''} h d) = drift_home p v w'' d ∙ h.home

-- a ReadOnce that is open was so before, but for its issue
kinds_table : Kind → Kind → Bool
kinds_table k q = implies (same_kind k q) (implies (same_kind ReadOnce k) (same_kind ReadOnce q))

kinds_hold : all_kinds (λ k. all_kinds (λ q. kinds_table k q)) ≡ true
unfolding kinds_table
kinds_hold = refl

same_read : (k q : Kind) → same_kind k q ≡ true → same_kind ReadOnce k ≡ true → same_kind ReadOnce q ≡ true
unfolding kinds_table
same_read k q h = follow _ _ (follow (same_kind k q) _ (each_kind (kinds_table k) (each_kind (λ k. all_kinds (λ q. kinds_table k q)) kinds_hold k) q) h)

read_before : (mode : Stores) (a : Act) (x : Bool) (d : Due) (t : Known) → fits_told mode a x d t ≡ true → is_request a ≡ false → reads_once (due_after a d) ≡ true → reads_once d ≡ true
read_before mode (Request k) x d t f i h = no (sym i)
read_before mode (Resend k) x (Resending q) t f i h = same_read k q (left _ _ f) h
read_before mode (Resend k) x Nothing t f i h = no f
read_before mode (Resend k) x (Completion q) t f i h = no f
read_before mode (Resend k) x (SureCompletion q) t f i h = no f
read_before mode (Resend k) x (WriteData q) t f i h = no f
read_before mode (Resend k) x Acknowledgement t f i h = no f
read_before mode (SnpResp a) x d t f i h = h
read_before mode CompAck x d t f i h = no h
read_before mode (CopyBackWrData s) x d t f i h = no h
read_before mode NonCopyBackWrData x d t f i h = no h
read_before mode (Load word) x d t f i h = h
read_before mode (Store word) x d t f i h = h

given_table : Grant → Due → Bool
given_table g d = implies (reads_once (due_granted g d)) (reads_once d)

given_holds : all_grants (λ g. all_dues (λ d. given_table g d)) ≡ true
unfolding given_table
given_holds = refl

read_given : (g : Grant) (d : Due) → reads_once (due_granted g d) ≡ true → reads_once d ≡ true
unfolding given_table
read_given g d = follow _ _ (each_due (given_table g) (each_grant (λ g. all_dues (λ d. given_table g d)) given_holds g) d)

no_request : (r b : Bool) → b ≡ true → (r && b) ≡ false → r ≡ false
no_request true b e h = no (sym h ∙ e)
no_request false b e h = refl

up_step : (mode : Stores) (due : ℕ → Due) (at : ℕ) (a : Act) (x : Bool) (t : Known) → fits_told mode a x (due at) t ≡ true → (n : ℕ) → (is_request a && n == at) ≡ false → reads_once (put at (due_after a (due at)) due n) ≡ true → reads_once (due n) ≡ true
up_step mode due at a x t fits = split (λ k. (is_request a && k == at) ≡ false → reads_once (put at (due_after a (due at)) due k) ≡ true → reads_once (due k) ≡ true) at
    (λ i h. read_before mode a x (due at) t fits (no_request (is_request a) _ (alike at) i) (subst (λ z. reads_once z ≡ true) (here at (due_after a (due at)) due) h))
    (λ k apart i h. subst (λ z. reads_once z ≡ true) (there at (due_after a (due at)) due k apart) h)

up_read : (mode : Stores) (es : List Flit) (f : CacheFlit) → Accepted mode (Up f ∷ es) → (n : ℕ) → is_issue (Up f) n ≡ false → reads_once ((public_of mode (Up f ∷ es)).due n) ≡ true → reads_once ((public_of mode es).due n) ≡ true
up_read mode es f a n = up_step (public_of mode es).stores (public_of mode es).due f.agent.0 f.act (lets_go ((public_of mode es).snooped f.agent.0)) ((seen mode es).told f.agent.0)
    (subst (λ (p : Public). fits_told p.stores f.act (lets_go (p.snooped f.agent.0)) (p.due f.agent.0) ((seen mode es).told f.agent.0) ≡ true) (exact mode es a.0).public (left _ _ (right _ _ a.2))) n

down_step : (due : ℕ → Due) (at : ℕ) (g : Grant) (n : ℕ) → reads_once (put at (due_granted g (due at)) due n) ≡ true → reads_once (due n) ≡ true
down_step due at g = split (λ k. reads_once (put at (due_granted g (due at)) due k) ≡ true → reads_once (due k) ≡ true) at
    (λ h. read_given g (due at) (subst (λ z. reads_once z ≡ true) (here at (due_granted g (due at)) due) h))
    (λ k apart h. subst (λ z. reads_once z ≡ true) (there at (due_granted g (due at)) due k apart) h)

down_read : (mode : Stores) (es : List Flit) (g : HomeFlit) (n : ℕ) → reads_once ((public_of mode (Down g ∷ es)).due n) ≡ true → reads_once ((public_of mode es).due n) ≡ true
down_read mode es g n = down_step (public_of mode es).due g.agent.0 g.grant n

-- the home's words are the value of a moment since the issue
home_by : (mode : Stores) (es : List Flit) (f : CacheFlit) (a : Accepted mode (Up f ∷ es)) (n : ℕ) (w : World) (h : After mode (Up f ∷ es) w) → (b : Bool) → tells_words f.act ≡ b → (is_issue (Up f) n ≡ false) × WasValue mode es n h.0.home h.0 h.2 → WasValue mode (Up f ∷ es) n w.home w h
home_by mode es f a n w h true e before = inl (told_here (seen mode es) f h.0 h.1 (exact mode es a.0).sound a.1 ((exact mode es a.0).meant h.0 h.2) (subst (λ p. Sends p f h.0 h.1) (sym (exact mode es a.0).public) h.3) e ∙ sym (drift_home (public_of mode (Up f ∷ es)) h.1 w h.4))
home_by mode es f a n w h false e before =
    let same : h.0.home ≡ w.home = sym (drift_home (public_of mode (Up f ∷ es)) h.1 w h.4 ∙ h.3.home ∙ ap (λ b. if b then f.shown else h.0.home) e) in
    inr (before.0, subst (λ v. WasValue mode es n v h.0 h.2) same before.1)

up_value : (mode : Stores) (es : List Flit) (f : CacheFlit) (a : Accepted mode (Up f ∷ es)) (n : ℕ) → reads_once ((public_of mode (Up f ∷ es)).due n) ≡ true → (w : World) (h : After mode (Up f ∷ es) w)
    → (reads_once ((public_of mode es).due n) ≡ true → HasMoment mode es n → WasValue mode es n h.0.home h.0 h.2)
    → ((is_issue (Up f) n ≡ false) × HasMoment mode es n) ⊎ IsMoment mode (reads_once ((public_of mode (Up f ∷ es)).due n)) (Up f ∷ es) n → WasValue mode (Up f ∷ es) n w.home w h
up_value mode es f a n r w h before (inl c) = home_by mode es f a n w h (tells_words f.act) refl (c.0, before (up_read mode es f a n c.0 r) c.1)
up_value mode es f a n r w h before (inr c) =
    let last : HomeIsLast mode (Up f ∷ es) = subst (λ b. IsMoment mode b (Up f ∷ es) n) r c in
    inl (sym (last h.1 (h.0, h.2, h.3)) ∙ sym (drift_home (public_of mode (Up f ∷ es)) h.1 w h.4))

down_value : (mode : Stores) (es : List Flit) (g : HomeFlit) (n : ℕ) → reads_once ((public_of mode (Down g ∷ es)).due n) ≡ true → (w : World) (h : After mode (Down g ∷ es) w)
    → (reads_once ((public_of mode es).due n) ≡ true → HasMoment mode es n → WasValue mode es n h.0.home h.0 h.2)
    → ((is_issue (Down g) n ≡ false) × HasMoment mode es n) ⊎ IsMoment mode (reads_once ((public_of mode (Down g ∷ es)).due n)) (Down g ∷ es) n → WasValue mode (Down g ∷ es) n w.home w h
down_value mode es g n r w h before (inl c) = inr (subst (λ v. WasValue mode es n v h.0 h.2) (sym (drift_home (public_of mode (Down g ∷ es)) h.1 w h.5 ∙ h.4.home)) (before (down_read mode es g n r) c.1))
down_value mode es g n r w h before (inr c) =
    let last : HomeIsLast mode (Down g ∷ es) = subst (λ b. IsMoment mode b (Down g ∷ es) n) r c in
    inl (sym (last h.1 (h.0, h.2, h.3, h.4)) ∙ sym (drift_home (public_of mode (Down g ∷ es)) h.1 w h.5))

home_value : (mode : Stores) (es : List Flit) → Accepted mode es → (n : ℕ) → reads_once ((public_of mode es).due n) ≡ true → HasMoment mode es n → (w : World) (h : After mode es w) → WasValue mode es n w.home w h
home_value mode [] a n r m w h = m
home_value mode (Up f ∷ es) a n r m w h = up_value mode es f a n r w h (λ rb mb. home_value mode es a.0 n rb mb h.0 h.2) m.1
home_value mode (Down g ∷ es) a n r m w h = down_value mode es g n r w h (λ rb mb. home_value mode es a.0 n rb mb h.0 h.2) m.1

-- data of a ReadOnce's completion are the home's own, and need its moment
timed_table : Grant → Due → Option Snoop → Bool
timed_table g d q = implies (gives_data g && reads_once d) (needs_moment g d && not (gives_copy g))

timed_holds : Gifts timed_table
unfolding timed_table
timed_holds x k = refl

timed : (g : Grant) (d : Due) (q : Option Snoop) → is_due g d q ≡ true → (gives_data g && reads_once d) ≡ true → (needs_moment g d && not (gives_copy g)) ≡ true
unfolding timed_table
timed g d q h = follow _ _ (each_due_gift timed_table timed_holds g d q h)

needed : (a b : Bool) → (not a || b) ≡ true → a ≡ true → b ≡ true
needed true b h e = h
needed false b h e = no e

pub shows_value : ReadOnceShowsValue
shows_value mode es g a gives r w h informed =
    let n : ℕ = g.agent.0 in
    let o : Observed = seen mode es in
    let read : reads_once (o.public.due n) ≡ true = ap (λ (p : Public). reads_once (p.due n)) (exact mode es a.0).public ∙ r in
    let due : is_due g.grant (o.public.due n) (o.public.snooped n) ≡ true = left _ _ (left (home_may o.public g) _ a.2) in
    let needs : (needs_moment g.grant (o.public.due n) && not (gives_copy g.grant)) ≡ true = timed g.grant (o.public.due n) (o.public.snooped n) due (both _ _ gives read) in
    let shown : shown_by mode es n ≡ true = needed (needs_moment g.grant (o.public.due n)) _ a.4 (left _ (not (gives_copy g.grant)) needs) in
    let words : w.home ≡ g.shown = informed (both (gives_data g.grant) _ gives (or_here (not (gives_copy g.grant)) _ (right (needs_moment g.grant (o.public.due n)) _ needs))) in
    subst (λ v. WasValue mode es n v w h) words (home_value mode es a.0 n r (moment_shown mode es a.0 n a.1 shown) w h)
