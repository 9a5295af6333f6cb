-- Whole traces of a line whose stores are all listed, the newest flit first (docs/OBSERVER.md, "Stores that are listed",
-- "What is proved").
use Rattle.std.specs.Prelude.{◌≡◌, ◌<◌, true, List, [], ◌∷◌, ⊤}
use Rattle.chi_observer.specs.declared.flits.Stores.TheVariants.{Listed as AllListed}
use Rattle.chi_observer.specs.declared.flits.Flit.{Flit}
use Rattle.chi_observer.specs.declared.flits.Flit.TheVariants.{Up, Down}
use Rattle.chi_observer.specs.Judged.{is_judged}
use Rattle.chi_observer.specs.Worlds.{World, Coherent, Drift, Gives, Informed, IsSafe}
use Rattle.chi_observer.specs.Observed.{takes_home}
use Rattle.chi_observer.specs.Moments.{has_moment}
use Rattle.chi_observer.specs.Runs.{After, HasNeeded, public_of, seen, shown_by}
use Rattle.chi_observer.specs.Worded.{Worded, MeaningWords, SendsWord, Words, no_words, takes_worded, words_after, words_granted}

-- THE TRUTH
-- the worlds that hidden steps and the flits leave: each load had its word, and each store made its own
abbrev pub AfterWords : List Flit → World → Type 0
AfterWords [] w = After AllListed [] w
AfterWords (Up f ∷ es) w = (before : World) × (sent : World) × AfterWords es before × SendsWord (public_of AllListed es) f before sent × Drift (public_of AllListed (Up f ∷ es)) sent w
AfterWords (Down g ∷ es) w = (before : World) × (given : World) × AfterWords es before × Informed g before × Gives (public_of AllListed es) g before given × Drift (public_of AllListed (Down g ∷ es)) given w

-- each flit of a cache may be sent, and each of the home is safe; the moment that it needs is one whatever loads and
-- stores were of
abbrev pub LegalWords : List Flit → Type 0
LegalWords [] = ⊤
LegalWords (Up f ∷ es) = LegalWords es × (f.agent.0 < 32) × ((before : World) × (sent : World) × AfterWords es before × SendsWord (public_of AllListed es) f before sent) × (is_judged (Up f) ≡ true)
LegalWords (Down g ∷ es) = LegalWords es × (g.agent.0 < 32) × ((w : World) × AfterWords es w × Informed g w) × ((w : World) → AfterWords es w → Informed g w → IsSafe (public_of AllListed es) g w)
    × (is_judged (Down g) ≡ true) × HasNeeded AllListed es g

-- THE OBSERVER
abbrev pub words_seen : List Flit → Words
words_seen [] = no_words
words_seen (Up f ∷ es) = words_after f (record { seen = seen AllListed es; words = words_seen es })
words_seen (Down g ∷ es) = words_granted g (record { seen = seen AllListed es; words = words_seen es })

abbrev pub listed : List Flit → Worded
listed es = record { seen = seen AllListed es; words = words_seen es }

abbrev pub AcceptedWords : List Flit → Type 0
AcceptedWords [] = ⊤
AcceptedWords (Up f ∷ es) = AcceptedWords es × (f.agent.0 < 32) × (takes_worded (listed es) f ≡ true) × (is_judged (Up f) ≡ true)
AcceptedWords (Down g ∷ es) = AcceptedWords es × (g.agent.0 < 32) × (takes_home (seen AllListed es) g ≡ true) × (is_judged (Down g) ≡ true) × (has_moment (seen AllListed es) (shown_by AllListed es) g ≡ true)

-- the worlds that an accepted trace leaves
pub record IsExactWords (es : List Flit) : Type 0 where
  pub meant : (w : World) → AfterWords es w → MeaningWords (listed es) w
  pub after : (w : World) → MeaningWords (listed es) w → AfterWords es w

abbrev pub LegalWordsAreAccepted : Type 0
LegalWordsAreAccepted = (es : List Flit) → LegalWords es → AcceptedWords es

abbrev pub AcceptedWordsAreLegal : Type 0
AcceptedWordsAreLegal = (es : List Flit) → AcceptedWords es → LegalWords es

abbrev pub AcceptedWordsAreExact : Type 0
AcceptedWordsAreExact = (es : List Flit) → AcceptedWords es → IsExactWords es

abbrev pub AcceptedWordsAreCoherent : Type 0
AcceptedWordsAreCoherent = (es : List Flit) → AcceptedWords es → (w : World) → AfterWords es w → Coherent (public_of AllListed es) w
