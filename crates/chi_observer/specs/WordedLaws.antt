-- What a flit does to the worlds that what is told of a line and the words that are known of it stand for (docs/OBSERVER.md,
-- "What is proved").
use Rattle.std.specs.Prelude.{◌≡◌, ◌<◌, ◌||◌, Bool, nat_lt, false, true}
use Rattle.chi_observer.specs.declared.flits.Word.{Word}
use Rattle.chi_observer.specs.declared.flits.CacheFlit.{CacheFlit}
use Rattle.chi_observer.specs.declared.flits.HomeFlit.{HomeFlit}
use Rattle.chi_observer.specs.declared.flits.Flit.{Flit}
use Rattle.chi_observer.specs.declared.flits.Flit.TheVariants.{Up, Down}
use Rattle.chi_observer.specs.Rules.{looks, stores}
use Rattle.chi_observer.specs.Lines.{Watched, is_taken, watch}
use Rattle.chi_observer.specs.Worlds.{World, Gives, Hidden, Informed}
use Rattle.chi_observer.specs.Observed.{Sound, takes_home}
use Rattle.chi_observer.specs.Counted.{HasWord, stored}
use Rattle.chi_observer.specs.Worded.{Worded, MeaningWords, SendsWord, no_words, next_worded, next_worded_home, takes_worded, tells_by_word}
use Rattle.chi_observer.specs.WordedLines.{WatchedWords, takes_by_word, watch_by_word}

abbrev pub WordedFlitsAreTaken : Type 0
WordedFlitsAreTaken = (l : Worded) (f : CacheFlit) (w w' : World) → Sound l.seen → f.agent.0 < 32 → MeaningWords l w → SendsWord l.seen.public f w w' → takes_worded l f ≡ true

abbrev pub WordedFlitsLead : Type 0
WordedFlitsLead = (l : Worded) (f : CacheFlit) (w w' : World) → Sound l.seen → f.agent.0 < 32 → MeaningWords l w → SendsWord l.seen.public f w w' → MeaningWords (next_worded l f) w'

abbrev pub WordedFlitsKeepSound : Type 0
WordedFlitsKeepSound = (l : Worded) (f : CacheFlit) → Sound l.seen → f.agent.0 < 32 → takes_worded l f ≡ true → Sound (next_worded l f).seen

abbrev pub WordedHomeFlitsLead : Type 0
WordedHomeFlitsLead = (l : Worded) (g : HomeFlit) (w w' : World) → Sound l.seen → g.agent.0 < 32 → takes_home l.seen g ≡ true → MeaningWords l w → Informed g w → Gives l.seen.public g w w' → MeaningWords (next_worded_home l g) w'

-- hidden steps keep what is meant
abbrev pub WordsAreClosed : Type 0
WordsAreClosed = (l : Worded) (w w' : World) → Sound l.seen → MeaningWords l w → Hidden l.seen.public w w' → MeaningWords l w'

-- where a load counts as a store, the store is taken, and each world whose copy has the word is one that it leaves
abbrev pub StoresByWordAreTaken : Type 0
StoresByWordAreTaken = (l : Worded) (f : CacheFlit) (word : Word) → tells_by_word l f.agent.0 word ≡ true → nat_lt word.place.0 8 ≡ true → takes_worded l (stored f word) ≡ true

abbrev pub StoresByWordLead : Type 0
StoresByWordLead = (l : Worded) (f : CacheFlit) (word : Word) (w : World) → Sound l.seen → f.agent.0 < 32 → tells_by_word l f.agent.0 word ≡ true → nat_lt word.place.0 8 ≡ true → MeaningWords l w → HasWord f.agent.0 word w
    → MeaningWords (next_worded l (stored f word)) w

-- where no word was told, a flit that is neither a load nor a store is taken as who keeps none takes it, and tells none
abbrev pub accesses : Flit → Bool
accesses (Up f) = looks f.act || stores f.act
accesses (Down g) = false

abbrev pub unloaded : Watched → WatchedWords
unloaded line = record { line = line; words = no_words }

abbrev pub UnloadedFlitsAreAlike : Type 0
UnloadedFlitsAreAlike = (line : Watched) (e : Flit) → accesses e ≡ false → (takes_by_word (unloaded line) e ≡ is_taken line e) × (watch_by_word (unloaded line) e ≡ unloaded (watch line e))
