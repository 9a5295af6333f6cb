-- Whoever thinks more copies possible, and knows less of the words, takes each flit of a cache that another takes, and goes on to
-- think so (docs/COPIES.md, "What is proved").
use Rattle.std.specs.Prelude.{◌≡◌, ℕ, ◌<◌, List, true, false, Some, None}
use Rattle.chi_observer.specs.declared.flits.CacheFlit.{CacheFlit}
use Rattle.chi_observer.specs.Rules.{are_hidden}
use Rattle.chi_copies.specs.Copies.{Held, is_fresh, is_newer}
use Rattle.chi_copies.specs.Worlds.{World}
use Rattle.chi_copies.specs.Observed.{Observed, Sound, Meaning, has_news, home_at, of_eight, takes, next}

-- o' thinks each copy possible that o thinks possible, and knows no more of the words than o
pub record IsAbove (o o' : Observed) : Type 0 where
  pub public : o'.public ≡ o.public
  pub may : (n : ℕ) → n < 32 → (h : Held) → o.may n h ≡ true → o'.may n h ≡ true
  pub home : (v : List ℕ) → o'.home ≡ Some v → o.home ≡ Some v
  -- where o thinks a copy possible that has the known words of the value, o knows each word of it that o' knows
  pub news : (n : ℕ) → n < 32 → (h : Held) → o.may n h ≡ true → has_news o.public n h ≡ true → (p v : ℕ) → o'.news p ≡ Some v → o.news p ≡ Some v
  -- all stores are listed; of one agent o thinks a copy possible whose words the home has, and o' one whose words the home hasn't:
  -- then o knows that the home has each word that o' knows of the value
  pub listed : are_hidden o.public.stores ≡ false → (n : ℕ) → n < 32 → (h k : Held) → o.may n h ≡ true → o'.may n k ≡ true → is_fresh h ≡ true → is_newer k ≡ true → (p v : ℕ) → o'.news p ≡ Some v → of_eight (home_at o.home) p ≡ Some v

abbrev pub AboveTakes : Type 0
AboveTakes = (o o' : Observed) (f : CacheFlit) → f.agent.0 < 32 → IsAbove o o' → takes o f ≡ true → takes o' f ≡ true

abbrev pub StaysAbove : Type 0
StaysAbove = (o o' : Observed) (f : CacheFlit) → Sound o → f.agent.0 < 32 → takes o f ≡ true → IsAbove o o' → IsAbove (next o f) (next o' f)

-- o' means each world that o means
abbrev pub AboveMeansMore : Type 0
AboveMeansMore = (o o' : Observed) (w : World) → IsAbove o o' → Meaning o w → Meaning o' w

-- WHERE IT IS SO
-- an observer that is sound knows whether the home has the words of a copy, where all stores are listed
abbrev pub SoundIsAbove : Type 0
SoundIsAbove = (o o' : Observed) → Sound o' → o'.public ≡ o.public → ((n : ℕ) → n < 32 → (h : Held) → o.may n h ≡ true → o'.may n h ≡ true) → ((v : List ℕ) → o'.home ≡ Some v → o.home ≡ Some v)
    → ((n : ℕ) → n < 32 → (h : Held) → o.may n h ≡ true → has_news o.public n h ≡ true → (p v : ℕ) → o'.news p ≡ Some v → o.news p ≡ Some v) → IsAbove o o'

-- the observer thinks each copy possible, and knows no words
pub record KnowsNothing (o : Observed) : Type 0 where
  pub may : (n : ℕ) → n < 32 → (h : Held) → o.may n h ≡ true
  pub home : o.home ≡ None
  pub news : (p : ℕ) → o.news p ≡ None

abbrev pub NothingIsAboveAll : Type 0
NothingIsAboveAll = (o o' : Observed) → o'.public ≡ o.public → KnowsNothing o' → IsAbove o o'
