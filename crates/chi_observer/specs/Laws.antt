-- What a flit does to the worlds that the observer's state stands for (docs/OBSERVER.md, "What is proved").
use Rattle.std.specs.Prelude.{◌≡◌, ◌<◌, true}
use Rattle.chi_observer.specs.declared.flits.CacheFlit.{CacheFlit}
use Rattle.chi_observer.specs.declared.flits.HomeFlit.{HomeFlit}
use Rattle.chi_observer.specs.Rules.{tells_words}
use Rattle.chi_observer.specs.Worlds.{World, Coherent, Hidden, Drift, Sends, reads, Gives, IsSafe, Informed}
use Rattle.chi_observer.specs.Observed.{Observed, Sound, Meaning, takes, next, takes_home, next_home}

abbrev pub MeaningIsCoherent : Type 0
MeaningIsCoherent = (o : Observed) (w : World) → Sound o → Meaning o w → Coherent o.public w

abbrev pub MeaningIsClosed : Type 0
MeaningIsClosed = (o : Observed) (w w' : World) → Sound o → Meaning o w → Hidden o.public w w' → Meaning o w'

abbrev pub CacheFlitsAreTaken : Type 0
CacheFlitsAreTaken = (o : Observed) (f : CacheFlit) (w w' : World) → Sound o → f.agent.0 < 32 → Meaning o w → Sends o.public f w w' → reads o.public f w ≡ true → takes o f ≡ true

abbrev pub CacheFlitsLead : Type 0
CacheFlitsLead = (o : Observed) (f : CacheFlit) (w w' : World) → Sound o → f.agent.0 < 32 → Meaning o w → Sends o.public f w w' → Meaning (next o f) w'

-- the home has the value last stored where the flit tells words
abbrev pub CacheFlitsTellTheValue : Type 0
CacheFlitsTellTheValue = (o : Observed) (f : CacheFlit) (w w' : World) → Sound o → f.agent.0 < 32 → Meaning o w → Sends o.public f w w' → tells_words f.act ≡ true → w'.last ≡ w'.home

abbrev pub CacheFlitsKeepSound : Type 0
CacheFlitsKeepSound = (o : Observed) (f : CacheFlit) → Sound o → f.agent.0 < 32 → takes o f ≡ true → Sound (next o f)

-- a world that sends it, with its word
pub record SomeSends (o : Observed) (f : CacheFlit) : Type 0 where
  pub before : World
  pub sent : World
  pub meant : Meaning o before
  pub sends : Sends o.public f before sent
  pub word : reads o.public f before ≡ true

abbrev pub CacheFlitsArePossible : Type 0
CacheFlitsArePossible = (o : Observed) (f : CacheFlit) → Sound o → f.agent.0 < 32 → takes o f ≡ true → SomeSends o f

-- where a world comes from
pub record ComesBy (o : Observed) (f : CacheFlit) (w' : World) : Type 0 where
  pub before : World
  pub sent : World
  pub meant : Meaning o before
  pub sends : Sends o.public f before sent
  pub drifts : Drift (next o f).public sent w'

abbrev pub MeaningComes : Type 0
MeaningComes = (o : Observed) (f : CacheFlit) (w' : World) → Sound o → f.agent.0 < 32 → takes o f ≡ true → Meaning (next o f) w' → ComesBy o f w'

abbrev pub HomeFlitsKeepSound : Type 0
HomeFlitsKeepSound = (o : Observed) (g : HomeFlit) → Sound o → g.agent.0 < 32 → takes_home o g ≡ true → Sound (next_home o g)

abbrev pub HomeFlitsAreSafe : Type 0
HomeFlitsAreSafe = (o : Observed) (g : HomeFlit) (w : World) → Sound o → g.agent.0 < 32 → takes_home o g ≡ true → Meaning o w → Informed g w → IsSafe o.public g w

abbrev pub HomeFlitsLead : Type 0
HomeFlitsLead = (o : Observed) (g : HomeFlit) (w w' : World) → Sound o → g.agent.0 < 32 → takes_home o g ≡ true → Meaning o w → Informed g w → Gives o.public g w w' → Meaning (next_home o g) w'

pub record SomeInformed (o : Observed) (g : HomeFlit) : Type 0 where
  pub world : World
  pub meant : Meaning o world
  pub informed : Informed g world

abbrev pub HomeFlitsArePossible : Type 0
HomeFlitsArePossible = (o : Observed) (g : HomeFlit) → Sound o → g.agent.0 < 32 → takes_home o g ≡ true → SomeInformed o g

abbrev pub SafeFlitsAreTaken : Type 0
SafeFlitsAreTaken = (o : Observed) (g : HomeFlit) → Sound o → g.agent.0 < 32 → SomeInformed o g → ((w : World) → Meaning o w → Informed g w → IsSafe o.public g w) → takes_home o g ≡ true

pub record ComesByHome (o : Observed) (g : HomeFlit) (w' : World) : Type 0 where
  pub before : World
  pub given : World
  pub meant : Meaning o before
  pub informed : Informed g before
  pub gives : Gives o.public g before given
  pub drifts : Drift (next_home o g).public given w'

abbrev pub MeaningComesByHome : Type 0
MeaningComesByHome = (o : Observed) (g : HomeFlit) (w' : World) → Sound o → g.agent.0 < 32 → takes_home o g ≡ true → Meaning (next_home o g) w' → ComesByHome o g w'
