-- What the observer keeps of a line, which flits it takes, and which worlds that stands for (docs/COPIES.md, "What is kept",
-- "What is proved").
use Rattle.std.specs.Prelude.{◌≡◌, ◌≢◌, ℕ, ◌<◌, ◌==◌, List, Bool, true, false, ◌&&◌, ◌||◌, not, nat_lt, Option, Some, None, if◌then◌else◌}
use Rattle.chi_observer.specs.declared.flits.Act.{Act}
use Rattle.chi_observer.specs.declared.flits.Act.TheVariants.{Load, Store}
use Rattle.chi_observer.specs.declared.flits.CacheFlit.{CacheFlit}
use Rattle.chi_observer.specs.declared.flits.HomeFlit.{HomeFlit}
use Rattle.chi_observer.specs.Copies.{holds_data, is_unique, is_dirty, same}
use Rattle.chi_observer.specs.Copies.Copy.{Invalid, UniqueDirty}
use Rattle.chi_observer.specs.Rules.{word_at, has_data, tells_words, is_request, lets_go, needs_alone, makes, allows, are_hidden, is_resending}
use Rattle.chi_copies.specs.Copies.{Held, Copies, shown_of, is_fresh, is_newer, beside, leaves, same_held, any_bool, any_held, image, all_beside}
use Rattle.chi_copies.specs.Rules.{may_hide, acts, slips, granted, fills, shows, waits_without_news}
use Rattle.chi_copies.specs.Worlds.{Public, World, Words, Same, Shown, home_may, all_below, put, is_placed, others_given, public_after, public_granted}

-- what flits say by themselves; what each copy may be, behind hidden steps; the home's words, where flits have shown them; and the
-- words that are known of the value where the home hasn't it
pub record Observed : Type 0 where
  pub public : Public
  pub may : ℕ → Copies
  pub home : Option (List ℕ)
  pub news : ℕ → Option ℕ

-- such a copy has the known words: it has the value, the home hasn't, and nobody may have stored to it unseen
abbrev pub has_news : Public → ℕ → Held → Bool
has_news p n h = is_newer h && not (may_hide p.stores (p.due n) h)

-- THE WORLDS THAT IT STANDS FOR
pub record Meaning (o : Observed) (w : World) : Type 0 where
  pub copies : (n : ℕ) → n < 32 → o.may n (w.state n) ≡ true
  pub words : (n : ℕ) → n < 32 → holds_data (w.state n).copy ≡ true → Same (w.words n) w.last
  pub home : (v : List ℕ) → o.home ≡ Some v → Same w.home (word_at v)
  pub current : Shown w → Same w.home w.last
  pub news : (n : ℕ) → n < 32 → has_news o.public n (w.state n) ≡ true → (p : ℕ) → p < 8 → (v : ℕ) → o.news p ≡ Some v → w.last p ≡ v

-- a copy that was stored to is UD, or gone (while the data of a WriteUniqueFull are due too)
abbrev pub is_storable : Held → Bool
is_storable h = same h.copy UniqueDirty || not (holds_data h.copy)

abbrev pub is_shown_dirty : Held → Bool
is_shown_dirty h = is_dirty h.copy && not h.stored

-- what always holds of it
pub record Sound (o : Observed) : Type 0 where
  pub some : (n : ℕ) → n < 32 → any_held (o.may n) ≡ true
  -- each goes with each of another's
  pub pairs : (n m : ℕ) → n < 32 → m < 32 → n ≢ m → (h k : Held) → o.may n h ≡ true → o.may m k ≡ true → beside h k ≡ true
  pub storable : (n : ℕ) → n < 32 → (h : Held) → o.may n h ≡ true → h.stored ≡ true → is_storable h ≡ true
  -- the home's words are known where a copy has them
  pub known : (n : ℕ) → n < 32 → (h : Held) → o.may n h ≡ true → is_fresh h ≡ true → (v : List ℕ) × (o.home ≡ Some v)
  -- what fills one copy of a set fills each
  pub even : (n : ℕ) → n < 32 → (h k : Held) → o.may n h ≡ true → o.may n k ≡ true → is_shown_dirty h ≡ true → is_dirty k.copy ≡ true
  pub seen : (n : ℕ) → n < 32 → waits_without_news (o.public.due n) ≡ true → (h : Held) → o.may n h ≡ true → h.cancelled ≡ false → is_newer h ≡ false
  pub waits : (n : ℕ) → n < 32 → is_resending (o.public.due n) ≡ false → (h : Held) → o.may n h ≡ true → h.cancelled ≡ false
  -- where all stores are listed it is known whether a copy with data was stored to
  pub alike : are_hidden o.public.stores ≡ false → (n : ℕ) → n < 32 → (h k : Held) → o.may n h ≡ true → o.may n k ≡ true → holds_data h.copy ≡ true → holds_data k.copy ≡ true → h.stored ≡ k.stored

-- hidden steps lead to no others
abbrev pub Closed : Observed → Type 0
Closed o = (n : ℕ) → n < 32 → (h k : Held) → o.may n h ≡ true → slips o.public.stores (o.public.due n) h k ≡ true → o.may n k ≡ true

-- WORDS
-- such a word, and such words, may be what is known
abbrev pub fits_at : Option ℕ → ℕ → Bool
fits_at None v = true
fits_at (Some u) v = u == v

abbrev pub fits_each : (ℕ → Option ℕ) → Words → Bool
fits_each k v = all_below 8 (λ p. fits_at (k p) (v p))

abbrev pub home_at : Option (List ℕ) → ℕ → Option ℕ
home_at None p = None
home_at (Some v) p = Some (word_at v p)

-- what is known of a copy's words
abbrev pub known_of : Observed → ℕ → Held → ℕ → Option ℕ
known_of o n h p = if is_fresh h then home_at o.home p else (if has_news o.public n h then o.news p else None)

abbrev pub differs_at : Option ℕ → ℕ → Bool
differs_at None v = true
differs_at (Some u) v = not (u == v)

-- whether the word of a load may be the copy's own, and whether it may be another
abbrev pub may_own : Act → (ℕ → Option ℕ) → Bool → Bool
may_own (Load word) k true = fits_at (k word.place.0) word.value
may_own (Load word) k false = differs_at (k word.place.0) word.value
may_own other k own = own

-- A FLIT OF A CACHE
-- what it leaves of a copy that may have sent it
abbrev pub sends : Observed → CacheFlit → Held → Copies
sends o f h k = any_bool (λ own. may_own f.act (known_of o f.agent.0 h) own
    && leaves (acts o.public.stores f.act own (lets_go (o.public.snooped f.agent.0)) (o.public.due f.agent.0) h) k)
    && (not (has_data f.act) || fits_each (known_of o f.agent.0 h) (word_at f.shown))

abbrev pub sent : Observed → CacheFlit → Copies
sent o f = image (sends o f) (o.may f.agent.0)

abbrev pub takes : Observed → CacheFlit → Bool
takes o f = allows f.act (o.public.snooped f.agent.0) && (is_placed f.act && any_held (sent o f))

-- the home has the words of a set's copies
abbrev pub shown_all : Copies → Copies
shown_all S = image (λ h k. same_held (shown_of h) k) S

abbrev pub no_words : ℕ → Option ℕ
no_words p = None

-- a line has eight words
abbrev pub of_eight : (ℕ → Option ℕ) → ℕ → Option ℕ
of_eight k p = if nat_lt p 8 then k p else None

-- the words that are known of all copies of n that a store may be to
abbrev pub known_before : Observed → ℕ → Copies → ℕ → Option ℕ
known_before o n S p = if any_held (λ h. S h && (is_unique h.copy && not (holds_data h.copy))) then None
    else (if any_held (λ h. S h && (is_unique h.copy && is_newer h)) then o.news p else of_eight (home_at o.home) p)

abbrev pub forgets : Observed → CacheFlit → Bool
forgets o f = are_hidden o.public.stores && (is_request f.act && any_held (λ h. sent o f h && is_newer h))

-- those of its copies that a store may be to
abbrev pub stores_from : Observed → CacheFlit → Copies
stores_from o f h = o.may f.agent.0 h && any_held (λ k. sends o f h k)

abbrev pub news_by : Act → Bool → (ℕ → Option ℕ) → (ℕ → Option ℕ) → ℕ → Option ℕ
news_by (Load word) forget before news = put word.place.0 (Some word.value) news
news_by (Store word) forget before news = put word.place.0 (Some word.value) before
news_by a forget before news = if forget || tells_words a then no_words else news

abbrev pub news_after : Observed → CacheFlit → ℕ → Option ℕ
news_after o f = news_by f.act (forgets o f) (known_before o f.agent.0 (stores_from o f)) o.news

-- before hidden steps
abbrev pub moved : Observed → CacheFlit → Observed
moved o f = record {
  public = public_after f o.public;
  may = put f.agent.0 (sent o f) (λ m. if tells_words f.act then shown_all (o.may m) else o.may m);
  home = if tells_words f.act then Some f.shown else o.home;
  news = news_after o f;
}

-- n takes hidden steps
abbrev pub loose : ℕ → Observed → Observed
loose n o = record { public = o.public; may = put n (image (slips o.public.stores (o.public.due n)) (o.may n)) o.may; home = o.home; news = o.news }

abbrev pub next : Observed → CacheFlit → Observed
next o f = loose f.agent.0 (moved o f)

-- A FLIT OF THE HOME
abbrev pub got : Observed → HomeFlit → Copies
got o g = image (λ h k. same_held (granted g.grant (o.public.due g.agent.0) h) k) (o.may g.agent.0)

abbrev pub given_of : HomeFlit → Public → Copies → Copies
given_of g p S = image (λ h k. same_held (others_given g p h) k) S

-- some copy of a set is so
abbrev pub any_of : Copies → (Held → Bool) → Bool
any_of S f = any_held (λ h. S h && f h)

-- no copy of another may be what doesn't go with the agent's then, nor be any where the flit says that none is left
abbrev pub is_beside : Copies → Bool → Copies → Bool
is_beside S alone T = all_beside S T && (not alone || not (any_of T (λ k. not (same k.copy Invalid))))

abbrev pub goes : Observed → HomeFlit → Bool
goes o g = all_below 32 (λ m. m == g.agent.0 || is_beside (got o g) (needs_alone g.grant (o.public.due g.agent.0)) (given_of g o.public (o.may m)))

abbrev pub fits_home : Option (List ℕ) → List ℕ → Bool
fits_home home v = fits_each (home_at home) (word_at v)

-- it is due; its words are the home's; a copy isn't filled where its agent threw the value away; and it leaves all in order
abbrev pub takes_home : Observed → HomeFlit → Bool
takes_home o g = home_may o.public g && ((not (any_of (o.may g.agent.0) (shows g.grant)) || fits_home o.home g.shown)
    && (not (any_of (o.may g.agent.0) (λ h. fills g.grant h && h.stored)) && goes o g))

abbrev pub given : Observed → HomeFlit → Observed
given o g = record {
  public = public_granted g o.public;
  may = put g.agent.0 (got o g) (λ m. given_of g o.public (o.may m));
  home = if any_of (o.may g.agent.0) (shows g.grant) then Some g.shown else o.home;
  news = if makes g.grant (o.public.due g.agent.0) then no_words else o.news;
}

abbrev pub next_home : Observed → HomeFlit → Observed
next_home o g = loose g.agent.0 (given o g)
