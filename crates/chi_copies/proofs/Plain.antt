-- A flit of a cache of which no words are asked is sent as its row says.
use Rattle.std.proofs.Common.{◌≡◌, ℕ, List, length, refl, sym, ap, ◌∙◌}
use Rattle.std.specs.Prelude.{Bool, true, false, ◌&&◌, ◌||◌, ◌==◌, not, Option, Some, None, if◌then◌else◌}
use Rattle.std.proofs.Math.Path.{fun_ext}
use Rattle.chi_observer.specs.declared.flits.Act.{Act}
use Rattle.chi_observer.specs.declared.flits.Act.TheVariants.{Request, Resend, SnpResp, CompAck, CopyBackWrData, NonCopyBackWrData, Load, Store}
use Rattle.chi_observer.specs.declared.flits.CacheFlit.{CacheFlit}
use Rattle.chi_observer.specs.declared.flits.Due.{Due}
use Rattle.chi_flit.specs.declared.state.State.TheVariants.{I, SC, UC, UD, SD}
use Rattle.chi_observer.specs.declared.flits.Grant.{Grant}
use Rattle.chi_observer.specs.declared.flits.Grant.TheVariants.{RetryAck, Snp, CompData, CompUC, CompSC, CompI, CompDBIDResp}
use Rattle.chi_observer.specs.Copies.{Copy, is_dirty}
use Rattle.chi_observer.specs.Copies.Copy.{Invalid, UniqueDirty, Writing}
use Rattle.chi_observer.specs.Rules.{copy_granted, has_data, is_upgraded, is_written_whole, lets_go, makes, needs_alone, settles, tells_words, upgraded, word_at}
use Rattle.chi_copies.specs.declared.copies.Copies.{Copies as CopiesCode}
use Rattle.chi_copies.specs.declared.line.Line.{Line}
use Rattle.chi_copies.specs.Copies.{Held, Copies, image, is_fresh, is_newer, leaves, same_held}
use Rattle.chi_copies.specs.Images.{fits, fitting, is_plain, keeps_words, stays}
use Rattle.chi_copies.specs.declared.tests.Test.TheVariants.{Stored}
use Rattle.chi_observer.specs.declared.flits.HomeFlit.{HomeFlit}
use Rattle.chi_copies.specs.Worlds.{all_below}
use Rattle.chi_copies.specs.Lines.{due_at, known_at, may_at, none_stored_of, observed, others_may, passes, snooped_at}
use Rattle.chi_copies.specs.Observed.{any_of, fits_each, fits_home, given_of, goes, got, home_at, is_beside, known_of, may_own, news_by, no_words, sent, shown_all}
use Rattle.chi_copies.specs.Rules.{acts, granted, may_hide, renews}
use Rattle.chi_copies.specs.Sets.{members}
use Rattle.chi_copies.proofs.Finite.{no, turned}
use Rattle.chi_copies.proofs.Bits.{shown_same}
use Rattle.chi_copies.proofs.Images.{image_from}
use Rattle.chi_copies.proofs.Lines.{given_is, given_others, shown_each}
use Rattle.chi_copies.proofs.Sets.{each_below, stay_is}

or_false : (b : Bool) → (b || false) ≡ b
or_false true = refl
or_false false = refl

swap : (a b : Bool) → (a && b) ≡ (b && a)
swap true true = refl
swap true false = refl
swap false true = refl
swap false false = refl

alone : (a : Act) (K : ℕ → Option ℕ) (L M fit : Bool) (d : Due) (S : Copies) → is_plain a d S ≡ true → (((may_own a K true && L) || (may_own a K false && M)) && fit) ≡ (fit && L)
alone (Request kind) K L M fit d S e = ap (λ (b : Bool). b && fit) (or_false L) ∙ swap L fit
alone (Resend kind) K L M fit d S e = ap (λ (b : Bool). b && fit) (or_false L) ∙ swap L fit
alone (SnpResp answer) K L M fit d S e = ap (λ (b : Bool). b && fit) (or_false L) ∙ swap L fit
alone CompAck K L M fit d S e = ap (λ (b : Bool). b && fit) (or_false L) ∙ swap L fit
alone (CopyBackWrData form) K L M fit d S e = ap (λ (b : Bool). b && fit) (or_false L) ∙ swap L fit
alone NonCopyBackWrData K L M fit d S e = ap (λ (b : Bool). b && fit) (or_false L) ∙ swap L fit
alone (Load word) K L M fit d S e = no e
alone (Store word) K L M fit d S e = no e

pub plain_sent : (s : Line) (f : CacheFlit) (d : Due) (goes : Bool) (m left : CopiesCode) → d ≡ due_at s.due f.agent.0 → goes ≡ lets_go (snooped_at s.snooped f.agent.0) → ((h : Held) → members m h ≡ (members (may_at s.may f.agent.0) h && fits (observed s) f h)) → is_plain f.act d (members m) ≡ true
    → ((h : Held) → members left h ≡ image (λ k. leaves (acts s.stores f.act true goes d k)) (members m) h) → (h : Held) → members left h ≡ sent (observed s) f h
plain_sent s f d goes m left hd hg hm e each h = each h
    ∙ (λ i. image (λ k. leaves (acts s.stores f.act true (hg i) (hd i) k)) (fun_ext hm i) h)
    ∙ sym (image_from (fits (observed s) f) (members (may_at s.may f.agent.0)) (λ k. leaves (acts s.stores f.act true (lets_go (snooped_at s.snooped f.agent.0)) (due_at s.due f.agent.0) k)) h)
    ∙ ap (λ (R : Held → Copies). image R (members (may_at s.may f.agent.0)) h) (fun_ext (λ h'. fun_ext (λ k.
    sym (alone f.act (known_of (observed s) f.agent.0 h') (leaves (acts s.stores f.act true (lets_go (snooped_at s.snooped f.agent.0)) (due_at s.due f.agent.0) h') k)
    (leaves (acts s.stores f.act false (lets_go (snooped_at s.snooped f.agent.0)) (due_at s.due f.agent.0) h') k)
    (fits (observed s) f h') d (members m) e))))

-- those whose data may be the flit's
pub fits_all : (s : Line) (f : CacheFlit) (S : Copies) (h : Held) → has_data f.act ≡ false → S h ≡ (S h && fits (observed s) f h)
fits_all s f S h e = sym (ap (λ (b : Bool). S h && (not b || fits_each (known_of (observed s) f.agent.0 h) (word_at f.shown))) e ∙ kept_true (S h))
  where
    kept_true : (b : Bool) → (b && true) ≡ b
    kept_true true = refl
    kept_true false = refl

known_fits : (w : ℕ → ℕ) (K N : ℕ → Option ℕ) (b c : Bool) → (if b then fits_each K w else (if c then fits_each N w else true)) ≡ fits_each (λ p. if b then K p else (if c then N p else None)) w
known_fits w K N true c = refl
known_fits w K N false true = refl
known_fits w K N false false = refl

pub fits_some : (s : Line) (f : CacheFlit) (d : Due) (home news : Bool) (S : Copies) (h : Held) → has_data f.act ≡ true → d ≡ due_at s.due f.agent.0 → home ≡ fits_home s.home f.shown → news ≡ fits_each (known_at s.news) (word_at f.shown) → (S h && fitting s.stores d home news h) ≡ (S h && fits (observed s) f h)
fits_some s f d home news S h e hd hh hn =
    (λ i. S h && fitting s.stores (hd i) (hh i) (hn i) h)
    ∙ ap (λ (b : Bool). S h && b) (known_fits (word_at f.shown) (home_at s.home) (known_at s.news) (is_fresh h) (is_newer h && not (may_hide s.stores (due_at s.due f.agent.0) h)))
    ∙ sym (ap (λ (b : Bool). S h && (not b || fits_each (known_of (observed s) f.agent.0 h) (word_at f.shown))) e)

pub no_home_fits : (home : Option (List ℕ)) (words : List ℕ) → home ≡ None → true ≡ fits_home home words
no_home_fits home words e = ap (λ h. fits_home h words) (sym e)

pub home_fits : (home : Option (List ℕ)) (known words : List ℕ) (b : Bool) → home ≡ Some known → b ≡ all_below 8 (λ p. word_at known p == word_at words p) → b ≡ fits_home home words
home_fits home known words b h e = e ∙ ap (λ h. fits_home h words) (sym h)

-- A FLIT OF THE HOME
and_true : (b : Bool) → (b && true) ≡ b
and_true true = refl
and_true false = refl

none_of : (a b : Bool) → not (a || b) ≡ true → (a ≡ false) × (b ≡ false)
none_of true b e = no e
none_of false true e = no e
none_of false false e = (refl, refl)

unmade : (s : Copy) (a b : Bool) → a ≡ false → b ≡ false → (if a then UniqueDirty else (if b then upgraded s else s)) ≡ s
unmade s true b h e = no (sym h)
unmade s false true h e = no (sym e)
unmade s false false h e = refl

unwritten : (s : Copy) (a b : Bool) → a ≡ false → (if a && b then Writing else s) ≡ s
unwritten s true b h = no (sym h)
unwritten s false b h = refl

unsettled : (s : Copy) (a : Bool) → a ≡ false → (if a then Invalid else s) ≡ s
unsettled s true h = no (sym h)
unsettled s false h = refl

unstored : (a b c : Bool) → a ≡ false → c ≡ false → (a || (b && not c)) ≡ b
unstored true b c h e = no (sym h)
unstored false b true h e = no (sym e)
unstored false b false h e = and_true b

copy_stays : (g : Grant) (d : Due) (s : Copy) → stays g d ≡ true → copy_granted g d s ≡ s
copy_stays (CompData I) d s e = refl
copy_stays (CompData SC) d s e = no e
copy_stays (CompData UC) d s e = no e
copy_stays (CompData UD) d s e = no e
copy_stays (CompData SD) d s e = no e
copy_stays CompUC d s e = let x = none_of (makes CompUC d) (is_upgraded d) e in unmade s (makes CompUC d) (is_upgraded d) x.0 x.1
copy_stays CompDBIDResp d s e = unwritten s (is_written_whole d) (not (is_dirty s)) (turned (is_written_whole d) e)
copy_stays CompI d s e = unsettled s (settles CompI d) (turned (settles CompI d) e)
copy_stays RetryAck d s e = refl
copy_stays (Snp snoop) d s e = refl
copy_stays CompSC d s e = refl

stored_stays : (g : Grant) (d : Due) (b : Bool) → stays g d ≡ true → (makes g d || (b && not (settles g d))) ≡ b
stored_stays (CompData form) d b e = and_true b
stored_stays CompUC d b e = let x = none_of (makes CompUC d) (is_upgraded d) e in unstored (makes CompUC d) b false x.0 refl
stored_stays CompDBIDResp d b e = and_true b
stored_stays CompI d b e = unstored false b (settles CompI d) refl (turned (settles CompI d) e)
stored_stays RetryAck d b e = and_true b
stored_stays (Snp snoop) d b e = and_true b
stored_stays CompSC d b e = and_true b

granted_stays : (g : Grant) (d : Due) → stays g d ≡ true → (h : Held) → granted g d h ≡ h
granted_stays g d e h = λ i. record { copy = copy_stays g d h.copy e i; cancelled = h.cancelled; stored = stored_stays g d h.stored e i }

pub got_stays : (g : Grant) (d : Due) (S : Copies) (k : Held) → stays g d ≡ true → S k ≡ image (λ h k. same_held (granted g d h) k) S k
got_stays g d S k e = sym (stay_is S k) ∙ ap (λ (f : Held → Held). image (λ h k. same_held (f h) k) S k) (sym (fun_ext (granted_stays g d e)))

-- WORDS
kept : (b : Bool) (news : ℕ → Option ℕ) → not b ≡ true → news ≡ (if b then no_words else news)
kept true news e = no e
kept false news e = refl

pub words_kept : (a : Act) (forget : Bool) (before news : ℕ → Option ℕ) → keeps_words a forget ≡ true → news ≡ news_by a forget before news
words_kept (Load word) forget before news e = no e
words_kept (Store word) forget before news e = no e
words_kept (Request kind) forget before news e = kept (forget || tells_words (Request kind)) news e
words_kept (Resend kind) forget before news e = kept (forget || tells_words (Resend kind)) news e
words_kept (SnpResp answer) forget before news e = kept (forget || tells_words (SnpResp answer)) news e
words_kept CompAck forget before news e = kept (forget || tells_words CompAck) news e
words_kept (CopyBackWrData form) forget before news e = kept (forget || tells_words (CopyBackWrData form)) news e
words_kept NonCopyBackWrData forget before news e = kept (forget || tells_words NonCopyBackWrData) news e

-- OTHERS
pub all_shown : (may : List CopiesCode) → length may ≡ 32 → none_stored_of may ≡ true → (n : ℕ) (h : Held) → members (may_at may n) h ≡ shown_all (members (may_at may n)) h
all_shown may l e n h = shown_each may may l l (λ n low h. shown_same (members (may_at may n)) h (turned (any_of (members (may_at may n)) (passes Stored)) (each_below 32 (λ m. not (any_of (members (may_at may m)) (passes Stored))) e n low))) n h

pub beside_others : (may : List CopiesCode) (tells : Bool) (others : ℕ → Copies) (agent : ℕ) (got : Copies) (alone b : Bool) → ((n : ℕ) (h : Held) → others n h ≡ others_may tells may n h)
    → b ≡ all_below 32 (λ m. m == agent || is_beside got alone (others m)) → b ≡ all_below 32 (λ m. m == agent || is_beside got alone (others_may tells may m))
beside_others may tells others agent got alone b each e = e ∙ ap (λ (T : ℕ → Copies). all_below 32 (λ m. m == agent || is_beside got alone (T m))) (fun_ext (λ n. fun_ext (each n)))

pub goes_with : (s : Line) (g : HomeFlit) (d : Due) (alone renewed b : Bool) (left : CopiesCode) → d ≡ due_at s.due g.agent.0 → alone ≡ needs_alone g.grant d → renewed ≡ renews g.grant d → ((h : Held) → members left h ≡ got (observed s) g h)
    → b ≡ all_below 32 (λ m. m == g.agent.0 || is_beside (members left) alone (others_may renewed s.may m)) → b ≡ goes (observed s) g
goes_with s g d alone renewed b left hd ha hr hl e = e
    ∙ ap (λ (S : Copies). all_below 32 (λ m. m == g.agent.0 || is_beside S alone (others_may renewed s.may m))) (fun_ext hl)
    ∙ ap (λ (T : ℕ → Copies). all_below 32 (λ m. m == g.agent.0 || is_beside (got (observed s) g) alone (T m))) (fun_ext (λ n. fun_ext (λ h. ap (λ b. others_may b s.may n h) (hr ∙ ap (renews g.grant) hd) ∙ given_others (renews g.grant (due_at s.due g.agent.0)) s.may n h)))
    ∙ ap (λ (a : Bool). all_below 32 (λ m. m == g.agent.0 || is_beside (got (observed s) g) a (given_of g (observed s).public (members (may_at s.may m))))) (ha ∙ ap (needs_alone g.grant) hd)

pub given_each : (s : Line) (g : HomeFlit) (d : Due) (renewed : Bool) (may' : List CopiesCode) → d ≡ due_at s.due g.agent.0 → renewed ≡ renews g.grant d → ((n : ℕ) (h : Held) → members (may_at may' n) h ≡ others_may renewed s.may n h) → (n : ℕ) (h : Held) → members (may_at may' n) h ≡ given_of g (observed s).public (members (may_at s.may n)) h
given_each s g d renewed may' hd hr each = given_is s g d renewed may' hd hr each
