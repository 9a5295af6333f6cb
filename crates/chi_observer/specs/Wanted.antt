-- What the words of data have to be, where the line takes all else of their flit (docs/OBSERVER.md, "Data in beats").
use Rattle.std.specs.Prelude.{◌≡◌, ℕ, List, Some, ◌&&◌, ◌||◌, Bool, true, false, not, if◌then◌else◌, is_some, nat_lt}
use Rattle.chi_observer.specs.declared.flits.CacheFlit.{CacheFlit}
use Rattle.chi_observer.specs.declared.flits.HomeFlit.{HomeFlit}
use Rattle.chi_observer.specs.declared.flits.Flit.{Flit}
use Rattle.chi_observer.specs.declared.flits.Flit.TheVariants.{Up, Down}
use Rattle.chi_observer.specs.declared.wanted.Wanted.{Wanted}
use Rattle.chi_observer.specs.declared.wanted.Wanted.TheVariants.{Nothing, Known, Any, Free}
use Rattle.chi_observer.specs.Rules.{are_hidden, gives_data, has_data, looks, reads_any, stores, tells_words}
use Rattle.chi_observer.specs.Tables.{is_cancelled, most, shows_told}
use Rattle.chi_observer.specs.Worlds.{all_below}
use Rattle.chi_observer.specs.Observed.{Observed, fits}
use Rattle.chi_observer.specs.Lines.{Watched, is_taken}
use Rattle.chi_observer.specs.Worded.{Worded, Words, agree, copy_words, no_words, renewed}
use Rattle.chi_observer.specs.WordedLines.{WatchedWords, takes_by_word, watch_by_word, worded_in}

abbrev pub wanted_if : Bool → Wanted
wanted_if known = if known then Known else Any

-- behind a request that was retried, words that differ from the known ones tell besides that it is cancelled, where some are
-- known
abbrev pub cancelled_if : Observed → CacheFlit → Bool → Bool
cancelled_if o f differ = is_cancelled f.act (o.public.due f.agent.0) (o.told f.agent.0) differ

abbrev pub none_known : Words → Bool
none_known words = all_below 8 (λ p. not (is_some (words p)))

abbrev pub may_differ : Worded → Bool
may_differ l = if l.seen.current then is_some l.seen.home else not (none_known l.words)

abbrev pub tells_cancelled : Worded → CacheFlit → Bool
tells_cancelled l f = may_differ l && (cancelled_if l.seen f true && not (cancelled_if l.seen f false))

-- data of a cache are the home's words, where the value last stored is and no store may have come since; else any
abbrev pub wanted_sent : Worded → CacheFlit → Wanted
wanted_sent l f =
    if not (tells_words f.act) || tells_cancelled l f then Nothing
    else wanted_if (has_data f.act && (not (renewed l f) && (l.seen.current && is_some l.seen.home)))

-- data of the home are its own words; those that come to a dirty copy tell nothing
abbrev pub wanted_given : Observed → HomeFlit → Wanted
wanted_given o g = if shows_told g.grant (o.told g.agent.0) then wanted_if (is_some o.home) else if gives_data g.grant then Free else Nothing

abbrev pub wanted : WatchedWords → Flit → Wanted
wanted s (Up f) = if nat_lt f.agent.0 32 then wanted_sent (worded_in s) f else Nothing
wanted s (Down g) = if nat_lt g.agent.0 32 then wanted_given s.line.seen g else Nothing

-- a load reads the home's word, which is known, where the value last stored is and no store may have come since
abbrev pub reads_home_sent : Observed → CacheFlit → Bool
reads_home_sent o f = looks f.act && (not (reads_any o.public.stores (o.public.due f.agent.0) (most (o.told f.agent.0))) && (o.current && is_some o.home))

abbrev pub reads_home : Watched → Flit → Bool
reads_home s (Up f) = nat_lt f.agent.0 32 && reads_home_sent s.seen f
reads_home s (Down g) = false

-- the words of a flit, and the flit with other ones
abbrev pub flit_words : Flit → List ℕ
flit_words (Up f) = f.shown
flit_words (Down g) = g.shown

abbrev pub flit_with : Flit → List ℕ → Flit
flit_with (Up f) words = Up (record f { shown = words })
flit_with (Down g) words = Down (record g { shown = words })

-- the home has these words
abbrev pub with_home : List ℕ → Watched → Watched
with_home words s = record s { seen = record s.seen { home = Some words } }

abbrev pub homed : List ℕ → WatchedWords → WatchedWords
homed words l = record l { line = with_home words l.line }

-- THE LAWS
-- A flit that has no words of the line, and is no load, and no store where all are listed, is taken whatever the home's words
-- are, and leaves them.
abbrev pub is_wordless : Flit → Bool
is_wordless (Up f) = not (tells_words f.act || looks f.act)
is_wordless (Down g) = not (gives_data g.grant)

abbrev pub is_listed_store : WatchedWords → Flit → Bool
is_listed_store l (Up f) = not (are_hidden l.line.seen.public.stores) && stores f.act
is_listed_store l (Down g) = false

abbrev pub WordlessFlitsAreApart : Type 0
WordlessFlitsAreApart = (l : WatchedWords) (words : List ℕ) (e : Flit) → is_wordless e ≡ true → is_listed_store l e ≡ false
    → (takes_by_word (homed words l) e ≡ takes_by_word l e) × (watch_by_word (homed words l) e ≡ homed words (watch_by_word l e))

-- Data whose words may be any are taken with any that are as loads and stores told, and all that their words change is the
-- home's.
abbrev pub wanted_words : WatchedWords → Flit → Words
wanted_words l (Up f) = copy_words (worded_in l) f
wanted_words l (Down g) = no_words

abbrev pub AnyWordsAreTaken : Type 0
AnyWordsAreTaken = (l : WatchedWords) (words : List ℕ) (e : Flit) → wanted l e ≡ Any
    → (takes_by_word l (flit_with e words) ≡ (is_taken l.line e && agree (wanted_words l e) words)) × (watch_by_word l (flit_with e words) ≡ homed words (watch_by_word l e))

-- Data that tell nothing by their words are taken with any.
abbrev pub FreeWordsAreTaken : Type 0
FreeWordsAreTaken = (l : WatchedWords) (words : List ℕ) (e : Flit) → wanted l e ≡ Free → (takes_by_word l (flit_with e words) ≡ takes_by_word l e) × (watch_by_word l (flit_with e words) ≡ watch_by_word l e)

-- Data whose words are to be known are taken with the home's words alone.
abbrev pub KnownWordsAreTaken : Type 0
KnownWordsAreTaken = (l : WatchedWords) (e : Flit) → wanted l e ≡ Known → takes_by_word l e ≡ true → fits l.line.seen.home (flit_words e) ≡ true
