-- What the calls on an observer answer, leave and tell, by C's numbers (docs/LIBRARY.md, "An observer").
use Rattle.std.specs.Prelude.{◌≡◌, ◌⊎◌, ℕ, List, Option, Some, None}
use Rattle.std.specs.Global.{Global}
use Rattle.chi_trace.specs.declared.any_flits.AnySeen.{AnySeen}
use Rattle.chi_observe.specs.declared.benches.BenchWatch.{BenchWatch}
use Rattle.chi_observe.specs.declared.benches.Judged.{Judged}
use Rattle.chi_observe.specs.declared.facts.FaultFacts.{FaultFacts}
use Rattle.chi_observe.specs.Benches.{IsSeen, IsToldOf, benched, nothing_benched}
use Rattle.chi_observe.specs.Tallies.{tallied}
use Rattle.chi_observe.specs.Told.{IsUnjudgedText}
use Rattle.chi_observe.specs.Watched.{Watched}
use Rattle.chi_library.specs.declared.observer_told.ChiObserverCounts.{ChiObserverCounts}
use Rattle.chi_library.specs.declared.observer_told.ChiObserverFault.{ChiObserverFault}
use Rattle.chi_library.specs.declared.observer_told.ChiUnjudged.{ChiUnjudged}
use Rattle.chi_library.specs.declared.observer_told.Opening.{Opening}
use Rattle.chi_library.specs.ObserverTold.{counts_told, ended_number, fault_told, judged_number, no_fault, unjudged_told}
use Rattle.chi_library.specs.SavedSlices.{AreBytesTold}

-- an observer that has seen no flit opens
abbrev pub IsObserverOf : Opening → BenchWatch Global → Type 0
IsObserverOf opening b = benched b ≡ nothing_benched opening.room opening.options

-- what its flits have told
abbrev pub told_in : BenchWatch Global → Watched
told_in b = (benched b).told.told

-- a flit that was named is judged by the observer
abbrev pub IsSeenAs : BenchWatch Global → Option AnySeen → ℕ → BenchWatch Global → Type 0
IsSeenAs b None answer b' = (answer ≡ 10) × (b' ≡ b)
IsSeenAs b (Some seen) answer b' = (judged : Judged) × (answer ≡ judged_number judged) × IsSeen (benched b) (benched b') seen judged

abbrev pub IsSeenAnswered : Option (BenchWatch Global) → Option AnySeen → ℕ → Option (BenchWatch Global) → Type 0
IsSeenAnswered None seen answer new = (answer ≡ 255) × (new ≡ None)
IsSeenAnswered (Some b) seen answer None = ⊥
IsSeenAnswered (Some b) seen answer (Some b') = IsSeenAs b seen answer b'

-- the first fault, or none
abbrev pub IsFaultTold : Option (BenchWatch Global) → ChiObserverFault → Type 0
IsFaultTold None fault = fault ≡ no_fault
IsFaultTold (Some b) fault = (facts : Option FaultFacts) × IsToldOf (benched b).stop facts × (fault ≡ fault_told facts)

-- a text, whatever it is, of the observer that is held
abbrev pub IsFaultTextTold : Option (BenchWatch Global) → List ℕ → ℕ → List ℕ → ℕ → Type 0
IsFaultTextTold None room answer new told = (answer ≡ 255) × (told ≡ 0) × (new ≡ room)
IsFaultTextTold (Some b) room answer new told = (text : List ℕ) × AreBytesTold text room answer new told

abbrev pub counts_in : BenchWatch Global → ChiObserverCounts
counts_in b = counts_told (tallied (told_in b))

-- how much wasn't judged, the text on it, which `observe` prints, and what a close answers
abbrev pub unjudged_in : BenchWatch Global → ChiUnjudged
unjudged_in b = unjudged_told (told_in b).counts

abbrev pub IsUnjudgedTextOf : Watched → List ℕ → ℕ → List ℕ → ℕ → Type 0
IsUnjudgedTextOf w room answer new told =
    ((text : List ℕ) × IsUnjudgedText w text × AreBytesTold text room answer new told)
    ⊎ ((answer ≡ 8) × (told ≡ 0) × (new ≡ room))

abbrev pub IsUnjudgedTextTold : Option (BenchWatch Global) → List ℕ → ℕ → List ℕ → ℕ → Type 0
IsUnjudgedTextTold None room answer new told = (answer ≡ 255) × (told ≡ 0) × (new ≡ room)
IsUnjudgedTextTold (Some b) room answer new told = IsUnjudgedTextOf (told_in b) room answer new told

abbrev pub closing_number : Option (BenchWatch Global) → ℕ
closing_number None = 255
closing_number (Some b) = ended_number (told_in b).counts
