-- The words that complete a ReadOnce were the value last stored at a moment since its issue.
use Rattle.std.proofs.Common.{◌≡◌, ◌⊎◌, inl, inr, ℕ, List, [], ◌∷◌, refl, sym, ap, subst, ◌∙◌}
use Rattle.std.specs.Prelude.{Bool, true, false, ◌&&◌, not, Option, Some, None, if◌then◌else◌}
use Rattle.chi_observer.specs.declared.kinds.Snoop.{Snoop}
use Rattle.chi_observer.specs.declared.kinds.Kind.{Kind}
use Rattle.chi_observer.specs.declared.kinds.Kind.TheVariants.{ReadOnce}
use Rattle.chi_observer.specs.declared.flits.Due.{Due}
use Rattle.chi_observer.specs.declared.flits.Due.TheVariants.{Nothing, Completion, Resending, SureCompletion, WriteData, Acknowledgement}
use Rattle.chi_observer.specs.declared.flits.Stores.{Stores}
use Rattle.chi_observer.specs.declared.flits.Act.{Act}
use Rattle.chi_observer.specs.declared.flits.Act.TheVariants.{Request, Resend, SnpResp, CompAck, CopyBackWrData, NonCopyBackWrData, Load, Store}
use Rattle.chi_flit.specs.declared.state.State.{State}
use Rattle.chi_observer.specs.declared.flits.Grant.{Grant}
use Rattle.chi_observer.specs.declared.flits.Grant.TheVariants.{RetryAck, Snp, CompData, CompUC, CompSC, CompI, CompDBIDResp}
use Rattle.chi_observer.specs.declared.flits.CacheFlit.{CacheFlit}
use Rattle.chi_observer.specs.declared.flits.HomeFlit.{HomeFlit}
use Rattle.chi_observer.specs.declared.flits.Flit.{Flit}
use Rattle.chi_observer.specs.declared.flits.Flit.TheVariants.{Up, Down}
use Rattle.chi_flit.specs.declared.state.State.TheVariants.{I, SC, UC, UD, SD}
use Rattle.chi_observer.specs.Rules.{same_kind, is_request, lets_go, gives_up, reads_once, needs_moment, tells_words, is_due, gives_data, gives_copy, completes, due_after, due_granted, word_at}
use Rattle.chi_copies.specs.Copies.{Held}
use Rattle.chi_copies.specs.Rules.{lets, row, is_due_data, is_resent}
use Rattle.chi_copies.specs.Worlds.{Public, World, Words, Same, Shown, Sends, Drift, Gives, has_word, home_may, put}
use Rattle.chi_copies.specs.Worlds.Drift.{Stay, Step}
use Rattle.chi_copies.specs.Moments.{is_issue}
use Rattle.chi_copies.specs.Runs.{public_of, seen, After, HasMoment, IsMoment, Accepted}
use Rattle.chi_copies.specs.Values.{WasValue, ReadOnceShowsValue}
use Rattle.chi_copies.proofs.Finite.{no, left, both, by_truth, or_left, implies, follow, all_kinds, each_kind}
use Rattle.chi_copies.proofs.Put.{here, there, alike, split}
use Rattle.chi_copies.proofs.Means.{same_sym, same_trans, same_by}
use Rattle.chi_copies.proofs.Moved.{if_some}
use Rattle.chi_copies.proofs.Leads.{leads, told_last}
use Rattle.chi_copies.proofs.Given.{home_leads}
use Rattle.chi_copies.proofs.Runs.{exact, legal}

drift_home : (p : Public) (w w' : World) → Drift p w w' → w'.home ≡ w.home
drift_home p w w' Stay = refl
drift_home p w w' (Step {u = u} {v = v} {w = w''} h d) = drift_home p v w'' d ∙ h.home

-- a ReadOnce that is open was so before, but for its issue
abbrev kinds_table : Kind → Kind → Bool
kinds_table k q = implies (same_kind k q) (implies (same_kind ReadOnce k) (same_kind ReadOnce q))

kinds_hold : all_kinds (λ k. all_kinds (λ q. kinds_table k q)) ≡ true
kinds_hold = refl

same_read : (k q : Kind) → same_kind k q ≡ true → same_kind ReadOnce k ≡ true → same_kind ReadOnce q ≡ true
same_read k q h = follow _ _ (follow (same_kind k q) _ (each_kind (kinds_table k) (each_kind (λ k. all_kinds (λ q. kinds_table k q)) kinds_hold k) q) h)

resent_read : (k : Kind) (d : Due) → is_resent k d ≡ true → same_kind ReadOnce k ≡ true → reads_once d ≡ true
resent_read k (Resending q) e h = same_read k q e h
resent_read k Nothing e h = no e
resent_read k (Completion q) e h = no e
resent_read k (SureCompletion q) e h = no e
resent_read k (WriteData q) e h = no e
resent_read k Acknowledgement e h = no e

read_before : (z : Stores) (a : Act) (own : Bool) (d : Due) (t : Held) → lets z a own d t ≡ true → is_request a ≡ false → reads_once (due_after a d) ≡ true → reads_once d ≡ true
read_before z (Request k) own d t l i h = no (sym i)
read_before z (Resend k) own d t l i h = resent_read k d (left _ _ l) h
read_before z (SnpResp a) own d t l i h = h
read_before z CompAck own d t l i h = no h
read_before z (CopyBackWrData s) own d t l i h = no h
read_before z NonCopyBackWrData own d t l i h = no h
read_before z (Load word) own d t l i h = h
read_before z (Store word) own d t l i h = h

form_none : (form : State) (b : Bool) → reads_once (if b then Acknowledgement else Nothing) ≡ true → false ≡ true
form_none form true h = h
form_none form false h = h

read_given : (g : Grant) (d : Due) → reads_once (due_granted g d) ≡ true → reads_once d ≡ true
read_given RetryAck (Completion k) h = h
read_given RetryAck Nothing h = no h
read_given RetryAck (Resending k) h = h
read_given RetryAck (SureCompletion k) h = h
read_given RetryAck (WriteData k) h = no h
read_given RetryAck Acknowledgement h = no h
read_given (Snp snoop) d h = h
read_given (CompData form) d h = no (form_none form _ h)
read_given CompUC d h = no (form_none I _ h)
read_given CompSC d h = no h
read_given CompI d h = no h
read_given CompDBIDResp (Completion k) h = no h
read_given CompDBIDResp (SureCompletion k) h = no h
read_given CompDBIDResp Nothing h = no h
read_given CompDBIDResp (Resending k) h = h
read_given CompDBIDResp (WriteData k) h = no h
read_given CompDBIDResp Acknowledgement h = no h

no_request : (r b : Bool) → b ≡ true → (r && b) ≡ false → r ≡ false
no_request true b e h = no (sym h ∙ e)
no_request false b e h = refl

up_read : (p : Public) (f : CacheFlit) (w w' : World) → Sends p f w w' → (n : ℕ) → is_issue (Up f) n ≡ false → reads_once (put f.agent.0 (due_after f.act (p.due f.agent.0)) p.due n) ≡ true → reads_once (p.due n) ≡ true
up_read p f w w' send = split (λ n. is_issue (Up f) n ≡ false → reads_once (put f.agent.0 (due_after f.act (p.due f.agent.0)) p.due n) ≡ true → reads_once (p.due n) ≡ true) f.agent.0
    (λ i h. read_before p.stores f.act (has_word f.act (w.words f.agent.0)) (p.due f.agent.0) (w.state f.agent.0)
    (if_some _ (row f.act (has_word f.act (w.words f.agent.0)) (lets_go (p.snooped f.agent.0)) (is_due_data gives_up (p.due f.agent.0)) (w.state f.agent.0)) (w'.state f.agent.0) send.act).0
    (no_request (is_request f.act) _ (alike f.agent.0) i) (subst (λ d. reads_once d ≡ true) (here f.agent.0 (due_after f.act (p.due f.agent.0)) p.due) h))
    (λ n apart i h. subst (λ d. reads_once d ≡ true) (there f.agent.0 (due_after f.act (p.due f.agent.0)) p.due n apart) h)

down_read : (p : Public) (g : HomeFlit) (n : ℕ) → reads_once (put g.agent.0 (due_granted g.grant (p.due g.agent.0)) p.due n) ≡ true → reads_once (p.due n) ≡ true
down_read p g = split (λ n. reads_once (put g.agent.0 (due_granted g.grant (p.due g.agent.0)) p.due n) ≡ true → reads_once (p.due n) ≡ true) g.agent.0
    (λ h. read_given g.grant (p.due g.agent.0) (subst (λ d. reads_once d ≡ true) (here g.agent.0 (due_granted g.grant (p.due g.agent.0)) p.due) h))
    (λ n apart h. subst (λ d. reads_once d ≡ true) (there g.agent.0 (due_granted g.grant (p.due g.agent.0)) p.due n apart) h)

-- words that are the same as such a value are such a value
was : (z : Stores) (es : List Flit) (n : ℕ) (u v : Words) (w : World) (h : After z es w) → Same u v → WasValue z es n u w h → WasValue z es n v w h
was z [] n u v w h s x = x
was z (Up f ∷ es) n u v w h s (inl x) = inl (same_trans _ _ _ x s)
was z (Up f ∷ es) n u v w h s (inr x) = inr (x.0, was z es n u v h.0 h.2 s x.1)
was z (Down g ∷ es) n u v w h s (inl x) = inl (same_trans _ _ _ x s)
was z (Down g ∷ es) n u v w h s (inr x) = inr (was z es n u v h.0 h.2 s x)

module _ (z : Stores) (es : List Flit) (n : ℕ) (w : World) where
  module _ (f : CacheFlit) (a : Accepted z (Up f ∷ es)) (h : After z (Up f ∷ es) w) where
    up_drifted : Same h.1.home w.home
    up_drifted = same_by _ _ (sym (drift_home (public_of z (Up f ∷ es)) h.1 w h.4))

    up_told : tells_words f.act ≡ true → WasValue z (Up f ∷ es) n w.home w h
    up_told e = let x = exact z es a.0 in
        inl (same_trans _ _ _ (told_last (seen z es) f h.0 h.1 x.sound a.1 (x.meant h.0 h.2) (subst (λ p. Sends p f h.0 h.1) (sym x.public) h.3) e)
        (same_trans _ _ _ (same_sym _ _ (same_trans _ _ _ h.3.home (same_by _ _ (ap (λ (b : Bool). if b then word_at f.shown else h.0.home) e)))) up_drifted))

    up_kept : tells_words f.act ≡ false → (is_issue (Up f) n ≡ false) × WasValue z es n h.0.home h.0 h.2 → WasValue z (Up f ∷ es) n w.home w h
    up_kept e before = inr (
      before.0,
      was z es n h.0.home w.home h.0 h.2
          (same_trans _ _ _ (same_sym _ _ (same_trans _ _ _ h.3.home (same_by _ _ (ap (λ (b : Bool). if b then word_at f.shown else h.0.home) e)))) up_drifted) before.1,
    )

    up_value : reads_once ((public_of z (Up f ∷ es)).due n) ≡ true → (reads_once ((public_of z es).due n) ≡ true → HasMoment z es n → WasValue z es n h.0.home h.0 h.2)
        → ((is_issue (Up f) n ≡ false) × HasMoment z es n) ⊎ IsMoment z (reads_once ((public_of z (Up f ∷ es)).due n)) (Up f ∷ es) n → WasValue z (Up f ∷ es) n w.home w h
    up_value r before (inl c) = by_truth (tells_words f.act) up_told (λ e. up_kept e (c.0, before (up_read (public_of z es) f h.0 h.1 h.3 n c.0 r) c.1))
    up_value r before (inr c) = let x = exact z es a.0 in
        let shown : Shown h.1 = subst (λ b. IsMoment z b (Up f ∷ es) n) r c h.1 (h.0, h.2, h.3) in
        inl (same_trans _ _ _ (same_sym _ _ ((leads (seen z es) f h.0 h.1 x.sound a.1 (x.meant h.0 h.2) (subst (λ p. Sends p f h.0 h.1) (sym x.public) h.3)).current shown)) up_drifted)

  module _ (g : HomeFlit) (a : Accepted z (Down g ∷ es)) (h : After z (Down g ∷ es) w) where
    down_drifted : Same h.1.home w.home
    down_drifted = same_by _ _ (sym (drift_home (public_of z (Down g ∷ es)) h.1 w h.5))

    down_value : reads_once ((public_of z (Down g ∷ es)).due n) ≡ true → (reads_once ((public_of z es).due n) ≡ true → HasMoment z es n → WasValue z es n h.0.home h.0 h.2)
        → ((is_issue (Down g) n ≡ false) × HasMoment z es n) ⊎ IsMoment z (reads_once ((public_of z (Down g ∷ es)).due n)) (Down g ∷ es) n → WasValue z (Down g ∷ es) n w.home w h
    down_value r before (inl c) = inr (was z es n h.0.home w.home h.0 h.2 (same_trans _ _ _ (same_by _ _ (sym h.4.home)) down_drifted) (before (down_read (public_of z es) g n r) c.1))
    down_value r before (inr c) = let x = exact z es a.0 in
        let shown : Shown h.1 = subst (λ b. IsMoment z b (Down g ∷ es) n) r c h.1 (h.0, h.2, h.3, h.4) in
        inl (same_trans _ _ _ (same_sym _ _ ((home_leads (seen z es) g h.0 h.1 x.sound a.1 a.2 (x.meant h.0 h.2) h.3 (subst (λ p. Gives p g h.0 h.1) (sym x.public) h.4)).current shown)) down_drifted)

home_value : (z : Stores) (es : List Flit) → Accepted z es → (n : ℕ) → reads_once ((public_of z es).due n) ≡ true → HasMoment z es n → (w : World) (h : After z es w) → WasValue z es n w.home w h
home_value z [] a n r m w h = m
home_value z (Up f ∷ es) a n r m w h = up_value z es n w f a h r (λ q b. home_value z es a.0 n q b h.0 h.2) m.1
home_value z (Down g ∷ es) a n r m w h = down_value z es n w g a h r (λ q b. home_value z es a.0 n q b h.0 h.2) m.1

-- data of a ReadOnce's completion are the home's own, and need its moment
abbrev timed_kind : Kind → State → Bool
timed_kind k form = implies (completes k form && same_kind ReadOnce k) (not (gives_copy (CompData form)))

timed : (k : Kind) (form : State) → completes k form ≡ true → same_kind ReadOnce k ≡ true → not (gives_copy (CompData form)) ≡ true
timed k form c r = follow (completes k form && same_kind ReadOnce k) _ (by form) (both _ _ c r)
  where
    by : (form : State) → timed_kind k form ≡ true
    by I = each_kind (λ k. timed_kind k I) refl k
    by SC = each_kind (λ k. timed_kind k SC) refl k
    by UC = each_kind (λ k. timed_kind k UC) refl k
    by UD = each_kind (λ k. timed_kind k UD) refl k
    by SD = each_kind (λ k. timed_kind k SD) refl k

needs : (g : Grant) (d : Due) (q : Option Snoop) → is_due g d q ≡ true → gives_data g ≡ true → reads_once d ≡ true → (needs_moment g d ≡ true) × (not (gives_copy g) ≡ true)
needs (CompData form) (Completion k) None c e r = (r, timed k form c r)
needs (CompData form) (SureCompletion k) None c e r = (r, timed k form c r)
needs (CompData form) (Completion k) (Some s) c e r = no c
needs (CompData form) (SureCompletion k) (Some s) c e r = no c
needs (CompData form) Nothing q c e r = no r
needs (CompData form) (Resending k) q c e r = no c
needs (CompData form) (WriteData k) q c e r = no r
needs (CompData form) Acknowledgement q c e r = no r
needs RetryAck d q c e r = no e
needs (Snp snoop) d q c e r = no e
needs CompUC d q c e r = no e
needs CompSC d q c e r = no e
needs CompI d q c e r = no e
needs CompDBIDResp d q c e r = no e

pub shows_value : ReadOnceShowsValue
shows_value z es g a gives r w h informed =
    let x = exact z es a.0 in
    let due : is_due g.grant ((public_of z es).due g.agent.0) ((public_of z es).snooped g.agent.0) ≡ true =
    subst (λ p. is_due g.grant (p.due g.agent.0) (p.snooped g.agent.0) ≡ true) x.public (left _ _ (left (home_may (seen z es).public g) _ a.2)) in
    let n = needs g.grant ((public_of z es).due g.agent.0) ((public_of z es).snooped g.agent.0) due gives r in
    was z es g.agent.0 w.home (word_at g.shown) w h (informed (both (gives_data g.grant) _ gives (or_left (not (gives_copy g.grant)) _ n.1)))
    (home_value z es a.0 g.agent.0 r ((legal z (Down g ∷ es) a).4 n.0) w h)
