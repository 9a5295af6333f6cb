-- What a flit does to the worlds that the observer's state stands for (docs/COPIES.md, "What is proved").
use Rattle.std.specs.Prelude.{◌≡◌, ℕ, ◌<◌, true}
use Rattle.chi_observer.specs.declared.flits.CacheFlit.{CacheFlit}
use Rattle.chi_observer.specs.declared.flits.HomeFlit.{HomeFlit}
use Rattle.chi_copies.specs.Worlds.{World, Coherent, Hidden, Drift, Sends, Gives, IsSafe, Informed}
use Rattle.chi_copies.specs.Copies.{Held}
use Rattle.chi_copies.specs.Observed.{Observed, Sound, Closed, Meaning, takes, moved, loose, next, takes_home, given, next_home}

abbrev pub MeaningIsCoherent : Type 0
MeaningIsCoherent = (o : Observed) (w : World) → Sound o → Meaning o w → Coherent w

abbrev pub MeaningIsClosed : Type 0
MeaningIsClosed = (o : Observed) (w w' : World) → Sound o → Closed o → Meaning o w → Hidden o.public w w' → Meaning o w'

abbrev pub CacheFlitsAreTaken : Type 0
CacheFlitsAreTaken = (o : Observed) (f : CacheFlit) (w w' : World) → Sound o → f.agent.0 < 32 → Meaning o w → Sends o.public f w w' → takes o f ≡ true

abbrev pub CacheFlitsLead : Type 0
CacheFlitsLead = (o : Observed) (f : CacheFlit) (w w' : World) → Sound o → f.agent.0 < 32 → Meaning o w → Sends o.public f w w' → Meaning (moved o f) w'

abbrev pub CacheFlitsKeepSound : Type 0
CacheFlitsKeepSound = (o : Observed) (f : CacheFlit) → Sound o → Closed o → f.agent.0 < 32 → takes o f ≡ true → Sound (moved o f) × Sound (next o f) × Closed (next o f)

-- where a world right behind a flit of a cache comes from
pub record ComesBy (o : Observed) (f : CacheFlit) (w' : World) : Type 0 where
  pub before : World
  pub meant : Meaning o before
  pub sends : Sends o.public f before w'

abbrev pub MeaningComes : Type 0
MeaningComes = (o : Observed) (f : CacheFlit) (w' : World) → Sound o → f.agent.0 < 32 → takes o f ≡ true → Meaning (moved o f) w' → ComesBy o f w'

-- where a world comes from by hidden steps of one agent
pub record Rewound (n : ℕ) (o : Observed) (w' : World) : Type 0 where
  pub before : World
  pub meant : Meaning o before
  pub drifts : Drift o.public before w'

abbrev pub MeaningRewinds : Type 0
MeaningRewinds = (n : ℕ) (o : Observed) (w' : World) → Sound o → n < 32 → Meaning (loose n o) w' → Rewound n o w'

abbrev pub MeaningLoosens : Type 0
MeaningLoosens = (n : ℕ) (o : Observed) (w : World) → Sound o → n < 32 → Meaning o w → Meaning (loose n o) w

abbrev pub HomeFlitsKeepSound : Type 0
HomeFlitsKeepSound = (o : Observed) (g : HomeFlit) → Sound o → Closed o → g.agent.0 < 32 → takes_home o g ≡ true → Sound (given o g) × Sound (next_home o g) × Closed (next_home o g)

abbrev pub HomeFlitsAreSafe : Type 0
HomeFlitsAreSafe = (o : Observed) (g : HomeFlit) (w : World) → Sound o → g.agent.0 < 32 → takes_home o g ≡ true → Meaning o w → Informed g w → IsSafe o.public g w

abbrev pub HomeFlitsLead : Type 0
HomeFlitsLead = (o : Observed) (g : HomeFlit) (w w' : World) → Sound o → g.agent.0 < 32 → takes_home o g ≡ true → Meaning o w → Informed g w → Gives o.public g w w' → Meaning (given o g) w'

pub record SomeInformed (o : Observed) (g : HomeFlit) : Type 0 where
  pub world : World
  pub meant : Meaning o world
  pub informed : Informed g world

abbrev pub HomeFlitsArePossible : Type 0
HomeFlitsArePossible = (o : Observed) (g : HomeFlit) → Sound o → g.agent.0 < 32 → takes_home o g ≡ true → SomeInformed o g

abbrev pub SafeFlitsAreTaken : Type 0
SafeFlitsAreTaken = (o : Observed) (g : HomeFlit) → Sound o → g.agent.0 < 32 → SomeInformed o g → ((w : World) → Meaning o w → Informed g w → IsSafe o.public g w) → takes_home o g ≡ true

pub record ComesByHome (o : Observed) (g : HomeFlit) (w' : World) : Type 0 where
  pub before : World
  pub meant : Meaning o before
  pub informed : Informed g before
  pub gives : Gives o.public g before w'

abbrev pub MeaningComesByHome : Type 0
MeaningComesByHome = (o : Observed) (g : HomeFlit) (w' : World) → Sound o → g.agent.0 < 32 → takes_home o g ≡ true → Meaning (given o g) w' → ComesByHome o g w'

-- each copy of a set is in some world
pub record InSome (o : Observed) (n : ℕ) (h : Held) : Type 0 where
  pub world : World
  pub meant : Meaning o world
  pub is : world.state n ≡ h

abbrev pub EachIsInSome : Type 0
EachIsInSome = (o : Observed) (n : ℕ) (h : Held) → Sound o → n < 32 → o.may n h ≡ true → InSome o n h
