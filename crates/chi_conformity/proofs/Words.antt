-- The words that loads and stores told are words of the value last stored, so who keeps them takes all that another takes.
use Rattle.std.proofs.Common.{◌≡◌, ℕ, ◌<◌, List, [], ◌∷◌, refl, sym, ap, subst, ◌∙◌, set, length}
use Rattle.std.specs.Prelude.{Bool, true, false, ◌==◌, ◌&&◌, ◌||◌, not, nat_lt, Some, if◌then◌else◌}
use Rattle.std.proofs.lemmas.Bool.{or_parts}
use Rattle.std.proofs.lemmas.List.{get_or-set_same, get_or-set_other, length-set}
use Rattle.chi_flit.specs.declared.numbers.Agent.{Agent}
use Rattle.chi_line.specs.LineState.{LineState}
use Rattle.chi_line.proofs.Asks.{same}
use Rattle.chi_slice.proofs.Rows.{is_low}
use Rattle.chi_observer.specs.declared.flits.Due.{Due}
use Rattle.chi_observer.specs.declared.flits.Stores.{Stores}
use Rattle.chi_observer.specs.declared.flits.Stores.TheVariants.{Hidden, Listed as AllListed}
use Rattle.chi_observer.specs.declared.flits.Act.{Act}
use Rattle.chi_observer.specs.declared.flits.Act.TheVariants.{Load, Store}
use Rattle.chi_observer.specs.declared.flits.Word.{Word}
use Rattle.chi_observer.specs.declared.flits.CacheFlit.{CacheFlit}
use Rattle.chi_observer.specs.declared.flits.HomeFlit.{HomeFlit}
use Rattle.chi_observer.specs.declared.flits.Flit.{Flit}
use Rattle.chi_observer.specs.declared.flits.Flit.TheVariants.{Up, Down}
use Rattle.chi_observer.specs.Rules.{are_hidden, has_data, makes, settles, tells_words, word_at, writes}
use Rattle.chi_observer.specs.Worlds.{put}
use Rattle.chi_observer.specs.Observed.{Observed, differs, next, next_as}
use Rattle.chi_observer.specs.Lines.{is_taken, watch}
use Rattle.chi_observer.specs.Worded.{Words, agree, all_words, counts_later, differs_by_word, fits_known, fits_load, forgets, is_placed, known_words, may_be_empty, may_read_any, no_words, renewed, words_by, words_stored}
use Rattle.chi_observer.specs.WordedLines.{WatchedWords, is_taken_worded, worded_in, watch_worded}
use Rattle.chi_observer.proofs.ListedWords.{agree_at}
use Rattle.chi_observer.proofs.WordedSent.{home_agrees, put_agrees}
use Rattle.chi_conformity.proofs.Held.{Stands}
use Rattle.chi_conformity.proofs.Flits.{or_in}
use Rattle.chi_conformity.proofs.Taken.{Follows, FollowsBy, or_left}
use Rattle.chi_conformity.proofs.Told.{no, both}

-- what is kept beside: eight words are the value last stored, and those that are known where it isn't the home's are its own
pub record Knows (last : List ℕ) (w : WatchedWords) : Type 0 where
  pub long : length last ≡ 8
  pub words : w.line.seen.current ≡ false → agree w.words last ≡ true

abbrev pub StandsByWord : List ℕ → LineState → WatchedWords → Type 0
StandsByWord last s w = Stands last s w.line.seen × Knows last w

abbrev pub IsTakenWorded : WatchedWords → Flit → Type 0
IsTakenWorded w flit = is_taken_worded w flit ≡ true

abbrev pub FollowsByWord : List ℕ → LineState → WatchedWords → List Flit → Type 0
FollowsByWord last s w flits = FollowsBy IsTakenWorded watch_worded (StandsByWord last s) w flits

-- the flit is taken then too, and what is known stays so
abbrev pub TakenByWord : List ℕ → WatchedWords → Flit → Type 0
TakenByWord last w flit = IsTakenWorded w flit × Knows last (watch_worded w flit)

where_true : {A : Type 0} (b : Bool) (x y : A) → b ≡ true → (if b then x else y) ≡ x
where_true true x y e = refl
where_true false x y e = no e

-- A FLIT OF THE HOME
granted_words : (s m c : Bool) (k : Words) (last : List ℕ) → (c ≡ false → agree k last ≡ true) → (s || (c && not m)) ≡ false → agree (if m then no_words else k) last ≡ true
granted_words true m c k last h e = no (sym e)
granted_words false true c k last h e = refl
granted_words false false true k last h e = no (sym e)
granted_words false false false k last h e = h refl

down_known : (w : WatchedWords) (g : HomeFlit) (last : List ℕ) → Knows last w → is_taken w.line (Down g) ≡ true → TakenByWord last w (Down g)
down_known w g last k taken =
    let o : Observed = w.line.seen in
    let d : Due = o.public.due g.agent.0 in (
      both _ _ taken refl,
      record {
        long = k.long;
        words = λ c. granted_words (settles g.grant d) (makes g.grant d) o.current w.words last k.words c;
      },
    )

-- A FLIT OF A CACHE
abbrev pub is_access : Act → Bool
is_access (Load word) = true
is_access (Store word) = true
is_access other = false

plain_placed : (act : Act) → is_access act ≡ false → is_placed act ≡ true
plain_placed (Load word) h = no (sym h)
plain_placed (Store word) h = no (sym h)
plain_placed other h = refl

plain_load : (act : Act) (k : Words) → is_access act ≡ false → fits_load act k ≡ true
plain_load (Load word) k h = no (sym h)
plain_load (Store word) k h = no (sym h)
plain_load other k h = refl

plain_words : (z : Stores) (act : Act) (forget later empty : Bool) (known words : Words) → is_access act ≡ false → words_by z act forget later empty known words ≡ (if forget then no_words else words)
plain_words z (Load word) forget later empty known words h = no (sym h)
plain_words z (Store word) forget later empty known words h = no (sym h)
plain_words z other forget later empty known words h = refl

was_old : (t r c : Bool) → r ≡ false → (if t then true else (if r then false else c)) ≡ false → c ≡ false
was_old true r c q e = no (sym e)
was_old false true c q e = no (sym q)
was_old false false c q e = e

-- words that aren't forgotten are the value's still
kept_words : (w : WatchedWords) (f : CacheFlit) (last : List ℕ) → Knows last w → (next w.line.seen f).current ≡ false → forgets (worded_in w) f ≡ false → agree w.words last ≡ true
kept_words w f last k c e = k.words (was_old (tells_words f.act) (renewed (worded_in w) f) w.line.seen.current (or_parts (renewed (worded_in w) f) _ e).0 c)

data_fit : (d r g : Bool) → (d ≡ true → g ≡ true) → (not d || (r || g)) ≡ true
data_fit true r g h = or_in r g (h refl)
data_fit false r g h = refl

fitting : (p c d r g a l : Bool) → p ≡ true → (c ≡ false → d ≡ true → g ≡ true) → (c ≡ false → l ≡ true) → (p && (c || ((not d || (r || g)) && (a || l)))) ≡ true
fitting false c d r g a l h shows load = no h
fitting true true d r g a l h shows load = refl
fitting true false d r g a l h shows load = both _ _ (data_fit d r g (shows refl)) (or_in a l (load refl))

-- its data are the value last stored, which the home has then
shown_last : (o : Observed) (f : CacheFlit) (last : List ℕ) (s : LineState) → Stands last s (next o f) → has_data f.act ≡ true → last ≡ f.shown
shown_last o f last s stands shows =
    let tells : tells_words f.act ≡ true = or_left (has_data f.act) (writes f.act) shows in
    stands.value (where_true (tells_words f.act) true _ tells) ∙ stands.meant.home f.shown (where_true (tells_words f.act) (Some f.shown) o.home tells)

-- neither a load nor a store
up_known : (w : WatchedWords) (f : CacheFlit) (last : List ℕ) (s : LineState) → is_access f.act ≡ false → Knows last w → is_taken w.line (Up f) ≡ true → Stands last s (watch w.line (Up f)).seen → TakenByWord last w (Up f)
up_known w f last s plain k taken stands =
    let o : Observed = w.line.seen in (
      both _ _ taken (fitting (is_placed f.act) o.current (has_data f.act) (renewed (worded_in w) f) (agree w.words f.shown) (may_read_any (worded_in w) f) (fits_load f.act w.words) (plain_placed f.act plain)
          (λ c shows. subst (λ (v : List ℕ). agree w.words v ≡ true) (shown_last o f last s stands shows) (k.words c))
          (λ c. plain_load f.act w.words plain)),
      record {
        long = k.long;
        words = λ c. subst (λ (v : Words). agree v last ≡ true) (sym (plain_words o.public.stores f.act (forgets (worded_in w) f) (counts_later (worded_in w) f) (may_be_empty (o.told f.agent.0).told) (known_words (worded_in w)) w.words plain))
            (words_by_forget c (forgets (worded_in w) f) refl);
      },
    )
  where
    words_by_forget : (next w.line.seen f).current ≡ false → (b : Bool) → forgets (worded_in w) f ≡ b → agree (if b then no_words else w.words) last ≡ true
    words_by_forget c true e = refl
    words_by_forget c false e = kept_words w f last k c e

is_word : (u : List ℕ) (p v : ℕ) → word_at u p ≡ v → (word_at u p == v) ≡ true
is_word u p v e = subst (λ (x : ℕ). (word_at u p == x) ≡ true) e (same (word_at u p))

-- a load of a word of the value
abbrev pub load_flit : Agent → Word → List ℕ → CacheFlit
load_flit agent word shown = record { agent = agent; act = Load word; shown = shown }

-- it is as known, where the value isn't the home's
pub known_fits : (w : WatchedWords) (word : Word) (last : List ℕ) → nat_lt word.place.0 8 ≡ true → word_at last word.place.0 ≡ word.value → Knows last w → w.line.seen.current ≡ false → fits_known (w.words word.place.0) word.value ≡ true
known_fits w word last low value k c = subst (λ (v : ℕ). fits_known (w.words word.place.0) v ≡ true) value (agree_at w.words last (k.words c) word.place.0 (is_low word.place.0 8 low))

pub load_known : (w : WatchedWords) (agent : Agent) (word : Word) (shown last : List ℕ) → nat_lt word.place.0 8 ≡ true → word_at last word.place.0 ≡ word.value → Knows last w
    → is_taken w.line (Up (load_flit agent word shown)) ≡ true → TakenByWord last w (Up (load_flit agent word shown))
load_known w agent word shown last low value k taken =
    let f : CacheFlit = load_flit agent word shown in (
      both _ _ taken (fitting (nat_lt word.place.0 8) w.line.seen.current false (renewed (worded_in w) f) (agree w.words shown) (may_read_any (worded_in w) f) (fits_known (w.words word.place.0) word.value) low
          (λ c shows. no shows) (known_fits w word last low value k)),
      record { long = k.long; words = λ c. words_by_forget c (forgets (worded_in w) f) (counts_later (worded_in w) f) refl },
    )
  where
    words_by_forget : (next w.line.seen (load_flit agent word shown)).current ≡ false → (b a : Bool) → forgets (worded_in w) (load_flit agent word shown) ≡ b
        → agree (if b then no_words else (if a then w.words else put word.place.0 (Some word.value) w.words)) last ≡ true
    words_by_forget c true a e = refl
    words_by_forget c false true e = kept_words w (load_flit agent word shown) last k c e
    words_by_forget c false false e =
        put_agrees word.place.0 word.value w.words last (is_word last word.place.0 word.value value)
        (λ q other. agree_at w.words last (kept_words w (load_flit agent word shown) last k c e) q)

-- a store, behind which the value has its word
known_agrees : (o : Observed) (words : Words) (last : List ℕ) (s : LineState) → Stands last s o → (o.current ≡ false → agree words last ≡ true) → agree (if o.current then all_words o.home else words) last ≡ true
known_agrees o words last s stands known = go o.current refl
  where
    go : (c : Bool) → o.current ≡ c → agree (if c then all_words o.home else words) last ≡ true
    go true e = home_agrees o.home last (λ v is. stands.value e ∙ stands.meant.home v is)
    go false e = known e

empty_agrees : (empty : Bool) (k : Words) (last : List ℕ) → agree k last ≡ true → agree (if empty then no_words else k) last ≡ true
empty_agrees true k last h = refl
empty_agrees false k last h = h

abbrev pub store_flit : Agent → Word → List ℕ → CacheFlit
store_flit agent word shown = record { agent = agent; act = Store word; shown = shown }

pub store_known : (w : WatchedWords) (agent : Agent) (word : Word) (shown last : List ℕ) (s : LineState) → nat_lt word.place.0 8 ≡ true → Stands last s w.line.seen → Knows last w
    → is_taken w.line (Up (store_flit agent word shown)) ≡ true → TakenByWord (set last word.place.0 word.value) w (Up (store_flit agent word shown))
store_known w agent word shown last s low stands k taken =
    let o : Observed = w.line.seen in
    let p : ℕ = word.place.0 in
    let last' : List ℕ = set last p word.value in (
      both _ _ taken (fitting (nat_lt p 8) o.current false true (agree w.words shown) (may_read_any (worded_in w) (store_flit agent word shown)) true low (λ c shows. no shows) (λ c. refl)),
      record {
        long = length-set last p word.value ∙ k.long;
        words = λ c. words_stored_by o.public.stores;
      },
    )
  where
    words_stored_by : (z : Stores) → agree (words_stored z word (may_be_empty (w.line.seen.told agent.0).told) (known_words (worded_in w))) (set last word.place.0 word.value) ≡ true
    words_stored_by Hidden = refl
    words_stored_by AllListed =
        let known : Words = if may_be_empty (w.line.seen.told agent.0).told then no_words else known_words (worded_in w) in
        let agreed : agree known last ≡ true = empty_agrees (may_be_empty (w.line.seen.told agent.0).told) (known_words (worded_in w)) last (known_agrees w.line.seen w.words last s stands k.words) in
        put_agrees word.place.0 word.value known (set last word.place.0 word.value)
        (is_word (set last word.place.0 word.value) word.place.0 word.value (get_or-set_same last word.place.0 word.value 0 (subst (λ (n : ℕ). word.place.0 < n) (sym k.long) (is_low word.place.0 8 low))))
        (λ q other below. subst (λ (x : ℕ). fits_known (known q) x ≡ true) (sym (get_or-set_other last word.place.0 q word.value 0 other)) (agree_at known last agreed q below))

-- a load that counts as a store, where stores may be hidden: the value stays
pub counted_known : (w : WatchedWords) (agent : Agent) (word : Word) (shown last : List ℕ) → nat_lt word.place.0 8 ≡ true → are_hidden w.line.seen.public.stores ≡ true → w.line.seen.current ≡ true → Knows last w
    → is_taken w.line (Up (store_flit agent word shown)) ≡ true → TakenByWord last w (Up (store_flit agent word shown))
counted_known w agent word shown last low hidden c k taken = (
  both _ _ taken (both _ _ low (or_left w.line.seen.current _ c)),
  record { long = k.long; words = λ e. words_stored_by w.line.seen.public.stores hidden },
)
  where
    words_stored_by : (z : Stores) → are_hidden z ≡ true → agree (words_stored z word (may_be_empty (w.line.seen.told agent.0).told) (known_words (worded_in w))) last ≡ true
    words_stored_by Hidden e = refl
    words_stored_by AllListed e = no e

-- FLITS OF A STEP THAT IS NEITHER
abbrev pub is_plain : List Flit → Bool
is_plain [] = true
is_plain (Down g ∷ flits) = is_plain flits
is_plain (Up f ∷ []) = not (is_access f.act)
is_plain (Up f ∷ flit ∷ flits) = false

pub not_access : (b : Bool) → not b ≡ true → b ≡ false
not_access true h = no h
not_access false h = refl

-- its data are as known
as_known : (w : WatchedWords) (f : CacheFlit) (last : List ℕ) (s : LineState) → Knows last w → Stands last s (next w.line.seen f) → differs_by_word (worded_in w) f ≡ false
as_known w f last s k stands = go (has_data f.act) w.line.seen.current refl refl
  where
    go : (b c : Bool) → has_data f.act ≡ b → w.line.seen.current ≡ c → (b && (not c && not (agree w.words f.shown))) ≡ false
    go false c shows e = refl
    go true true shows e = refl
    go true false shows e = ap not (subst (λ (v : List ℕ). agree w.words v ≡ true) (shown_last w.line.seen f last s stands shows) (k.words e))

stands_as : (w : WatchedWords) (f : CacheFlit) (last : List ℕ) (s : LineState) → Knows last w → Stands last s (next w.line.seen f) → Stands last s (watch_worded w (Up f)).line.seen
stands_as w f last s k stands = subst (λ (b : Bool). Stands last s (next_as w.line.seen f (b || differs w.line.seen f))) (sym (as_known w f last s k stands)) stands

pub plain_follows : (flits : List Flit) (w : WatchedWords) (last : List ℕ) (s : LineState) → is_plain flits ≡ true → Knows last w → Follows last s w.line flits → FollowsByWord last s w flits
plain_follows [] w last s plain k follows = (follows, k)
plain_follows (Down g ∷ flits) w last s plain k follows =
    let t = down_known w g last k follows.0 in
    (t.0, plain_follows flits (watch_worded w (Down g)) last s plain t.1 follows.1)
plain_follows (Up f ∷ []) w last s plain k follows =
    let t = up_known w f last s (not_access (is_access f.act) plain) k follows.0 follows.1 in
    (t.0, (stands_as w f last s k follows.1, t.1))
plain_follows (Up f ∷ flit ∷ flits) w last s plain k follows = no plain
