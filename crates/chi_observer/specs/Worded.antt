-- What loads and stores tell of the words of the value last stored, where that isn't the home's (docs/OBSERVER.md, "Words
-- that are known").
use Rattle.std.specs.Prelude.{◌≡◌, ℕ, List, Bool, true, false, ◌&&◌, ◌||◌, ◌==◌, not, Option, Some, None, nat_lt, if◌then◌else◌}
use Rattle.chi_observer.specs.declared.told.Told.{Told}
use Rattle.chi_observer.specs.declared.told.Told.TheVariants.{UCE, UCEOrI, UCOrUCE}
use Rattle.chi_observer.specs.declared.flits.Stores.{Stores}
use Rattle.chi_observer.specs.declared.flits.Stores.TheVariants.{Hidden, Listed}
use Rattle.chi_observer.specs.declared.flits.Word.{Word}
use Rattle.chi_observer.specs.declared.flits.Act.{Act}
use Rattle.chi_observer.specs.declared.flits.Act.TheVariants.{Load, Store}
use Rattle.chi_observer.specs.declared.flits.CacheFlit.{CacheFlit}
use Rattle.chi_observer.specs.declared.flits.HomeFlit.{HomeFlit}
use Rattle.chi_observer.specs.Copies.{holds_data, is_unique}
use Rattle.chi_observer.specs.Rules.{are_hidden, has_data, hides_stores, is_request, is_resending, lets_go, makes, reads_any, reads_later, word_at, writes}
use Rattle.chi_observer.specs.Tables.{most, renews}
use Rattle.chi_observer.specs.Worlds.{Public, World, Sends, all_below, put, reads}
use Rattle.chi_observer.specs.Observed.{Observed, Meaning, Unstored, differs, takes, next_as, next_home}
use Rattle.chi_observer.specs.Counted.{stored, tells_store}

-- THE TRUTH
-- a load or a store is of one of the line's eight words
abbrev pub is_placed : Act → Bool
is_placed (Load word) = nat_lt word.place.0 8
is_placed (Store word) = nat_lt word.place.0 8
is_placed other = true

-- behind a store the value has its word, and the others of a copy that had data are as before
abbrev pub has_stored : Act → Bool → List ℕ → List ℕ → Bool
has_stored (Store word) had before after = (word_at after word.place.0 == word.value)
    && (not had || all_below 8 (λ p. p == word.place.0 || (word_at after p == word_at before p)))
has_stored other had before after = true

-- what a cache sends, word by word; where others may be done unseen, what a store leaves is any
pub record SendsWord (p : Public) (f : CacheFlit) (w w' : World) : Type 0 where
  pub sends : Sends p f w w'
  pub placed : is_placed f.act ≡ true
  pub loaded : reads p f w ≡ true
  pub stored : (are_hidden p.stores || has_stored f.act (holds_data (w.state f.agent.0).copy) w.last w'.last) ≡ true

-- WHAT IS KEPT
-- words of the line, where they are known
abbrev pub Words : Type 0
Words = ℕ → Option ℕ

abbrev pub no_words : Words
no_words p = None

abbrev pub all_words : Option (List ℕ) → Words
all_words None p = None
all_words (Some words) p = if nat_lt p 8 then Some (word_at words p) else None

-- a word may be what is known of it, and so may all of a line
abbrev pub fits_known : Option ℕ → ℕ → Bool
fits_known None v = true
fits_known (Some u) v = u == v

abbrev pub agree : Words → List ℕ → Bool
agree known words = all_below 8 (λ p. fits_known (known p) (word_at words p))

-- a copy that is stored to may be without data: then the whole line was written
abbrev pub may_be_empty : Told → Bool
may_be_empty UCE = true
may_be_empty UCEOrI = true
may_be_empty UCOrUCE = true
may_be_empty other = false

-- what is told of a line, and the words of the value last stored that are known where it isn't the home's
pub record Worded : Type 0 where
  pub seen : Observed
  pub words : Words

-- those that are known anyway
abbrev pub known_words : Worded → Words
known_words l = if l.seen.current then all_words l.seen.home else l.words

-- the worlds that it stands for: the words are the value's where nobody has stored unseen
pub record MeaningWords (l : Worded) (w : World) : Type 0 where
  pub seen : Meaning l.seen w
  pub words : l.seen.current ≡ false → Unstored l.seen w → agree l.words w.last ≡ true

-- A FLIT OF A CACHE
-- it says that there may have been a store since the last one; and a load may be of any word
abbrev pub renewed : Worded → CacheFlit → Bool
renewed l f = renews l.seen.public.stores f.act (lets_go (l.seen.public.snooped f.agent.0)) (l.seen.public.due f.agent.0) (l.seen.told f.agent.0)

abbrev pub may_read_any : Worded → CacheFlit → Bool
may_read_any l f = reads_any l.seen.public.stores (l.seen.public.due f.agent.0) (most (l.seen.told f.agent.0))

abbrev pub fits_load : Act → Words → Bool
fits_load (Load word) known = fits_known (known word.place.0) word.value
fits_load other known = true

abbrev pub fits_words : Worded → CacheFlit → Bool
fits_words l f = is_placed f.act
    && (l.seen.current || ((not (has_data f.act) || (renewed l f || agree l.words f.shown)) && (may_read_any l f || fits_load f.act l.words)))

abbrev pub takes_worded : Worded → CacheFlit → Bool
takes_worded l f = takes l.seen f && fits_words l f

-- A store tells of its word alone where the copy may have been without data; and of none where others may be done unseen.
-- Nothing is known behind a flit that tells of a store, nor of a copy to which one may be done unseen, unless its request was
-- retried, and isn't cancelled by another. A load tells its word, but where it counts behind the CompAck.
abbrev pub is_open : Worded → CacheFlit → Bool
is_open l f = hides_stores l.seen.public.stores (l.seen.public.due f.agent.0) && is_unique (most (l.seen.told f.agent.0))

abbrev pub forgets : Worded → CacheFlit → Bool
forgets l f = renewed l f || (is_open l f && (not (is_resending (l.seen.public.due f.agent.0)) || is_request f.act))

abbrev pub counts_later : Worded → CacheFlit → Bool
counts_later l f = reads_later l.seen.public.stores (l.seen.public.due f.agent.0) (most (l.seen.told f.agent.0))

abbrev pub words_stored : Stores → Word → Bool → Words → Words
words_stored Hidden word empty known = no_words
words_stored Listed word empty known = put word.place.0 (Some word.value) (if empty then no_words else known)

abbrev pub words_by : Stores → Act → (forget later empty : Bool) → (known words : Words) → Words
words_by z (Store word) forget later empty known words = words_stored z word empty known
words_by z (Load word) forget later empty known words = if forget then no_words else (if later then words else put word.place.0 (Some word.value) words)
words_by z other forget later empty known words = if forget then no_words else words

abbrev pub words_after : CacheFlit → Worded → Words
words_after f l = words_by l.seen.public.stores f.act (forgets l f) (counts_later l f) (may_be_empty (l.seen.told f.agent.0).told) (known_words l) l.words

-- its data are known to be others than the value, where that isn't the home's
abbrev pub differs_by_word : Worded → CacheFlit → Bool
differs_by_word l f = has_data f.act && (not l.seen.current && not (agree l.words f.shown))

abbrev pub next_worded : Worded → CacheFlit → Worded
next_worded l f = record { seen = next_as l.seen f (differs_by_word l f || differs l.seen f); words = words_after f l }

-- what the words of a copy's data are to be
abbrev pub copy_words : Worded → CacheFlit → Words
copy_words l f = if writes f.act || renewed l f then no_words else known_words l

-- A load of another word than the known one, of a copy with data that may have been stored to, counts as a store of it.
abbrev pub tells_by_word : Worded → ℕ → Word → Bool
tells_by_word l n word =
    if l.seen.current then tells_store l.seen n word
    else (reads_any l.seen.public.stores (l.seen.public.due n) (most (l.seen.told n)) && holds_data (most (l.seen.told n))) && not (fits_known (l.words word.place.0) word.value)

abbrev pub counted_load : Act → Worded → CacheFlit → CacheFlit
counted_load (Load word) l f = if nat_lt f.agent.0 32 && tells_by_word l f.agent.0 word then stored f word else f
counted_load act l f = f

-- A FLIT OF THE HOME
-- at the completion of a MakeUnique its agent writes any words
abbrev pub words_granted : HomeFlit → Worded → Words
words_granted g l = if makes g.grant (l.seen.public.due g.agent.0) then no_words else l.words

abbrev pub next_worded_home : Worded → HomeFlit → Worded
next_worded_home l g = record { seen = next_home l.seen g; words = words_granted g l }
