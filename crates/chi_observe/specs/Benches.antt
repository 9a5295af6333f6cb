-- A watch for a bench: it takes flits without an end, and keeps the first that isn't taken (docs/OBSERVER.md, "A watch with
-- a room").
use Rattle.std.specs.Prelude.{◌≡◌, Bool, true, false, Option, Some, None, Result, Ok, Err}
use Rattle.chi_trace.specs.declared.any_flits.AnySeen.{AnySeen}
use Rattle.chi_trace.specs.declared.fields.NodeId.{NodeId}
use Rattle.chi_observe.specs.declared.benches.BenchWatch.{BenchWatch}
use Rattle.chi_observe.specs.declared.benches.FirstStop.{FirstStop}
use Rattle.chi_observe.specs.declared.benches.FirstStop.TheVariants as stops
use Rattle.chi_observe.specs.declared.benches.Judged.{Judged}
use Rattle.chi_observe.specs.declared.benches.Judged.TheVariants.{Taken, SetAside, Full, Untaken, NoMemory}
use Rattle.chi_observe.specs.declared.bounded.Room.{Room}
use Rattle.chi_observe.specs.declared.events.Event.{Event}
use Rattle.chi_observe.specs.declared.events.Event.TheVariants as events
use Rattle.chi_observe.specs.declared.facts.FaultFacts.{FaultFacts}
use Rattle.chi_ids.specs.declared.keys.CacheLine.{CacheLine}
use Rattle.chi_ids.specs.declared.keys.Sides.{Sides}
use Rattle.chi_observe.specs.declared.reasons.IdReason.{IdReason}
use Rattle.chi_observe.specs.declared.tables.Change.{Change}
use Rattle.chi_observe.specs.declared.steps.WatchOptions.{WatchOptions}
use Rattle.chi_observe.specs.declared.watch.WatchFault.{WatchFault}
use Rattle.chi_observe.specs.Bounded.{Bounded, IsFull, IsRefused, IsStepped, bounded, nothing_bounded}
use Rattle.chi_observe.specs.Lines.{is_aside}
use Rattle.chi_observe.specs.Seen.{event_of}
use Rattle.chi_observe.specs.Watched.{Watched, allowed}

-- what its flits have told, in its room, and what it stopped at
pub record Benched : Type 0 where
  pub told : Bounded
  pub stop : Option FirstStop

abbrev pub benched : {A : Type 0} → BenchWatch A → Benched
benched b = record { told = bounded b.bounded; stop = b.stop }

abbrev pub nothing_benched : Room → WatchOptions → Benched
nothing_benched room options = record { told = nothing_bounded room options; stop = None }

-- the line of a flit that ids and credits allow, or of a load or a store
abbrev pub changed_line : Result Change IdReason → Option CacheLine
changed_line (Ok change) = Some change.line
changed_line (Err reason) = None

abbrev pub line_in : Watched → Event → Option CacheLine
line_in w (events.Line e) = changed_line (allowed w e)
line_in w (events.Access e) = Some e.line
line_in w other = None

abbrev pub is_line_aside : Watched → Option CacheLine → Bool
is_line_aside w None = false
is_line_aside w (Some line) = is_aside (w.lines line.0)

-- a flit is taken, and its line is set aside behind it, or isn't
pub record GoesOn (old new : Benched) (seen : AnySeen) (aside : Bool) : Type 0 where
  pub taken : IsStepped old.told new.told (event_of seen)
  pub line : is_line_aside new.told.told (line_in old.told.told (event_of seen)) ≡ aside
  pub stop : new.stop ≡ old.stop

-- it isn't, for a reason that holds, and is kept as the first
pub record IsFirst (old new : Benched) (seen : AnySeen) : Type 0 where
  pub fault : WatchFault
  pub refused : IsRefused old.told new.told (event_of seen) fault
  pub stop : new.stop ≡ Some (stops.Untaken seen fault)

-- there is no room for it, and nothing has changed
pub record HasNoRoom (old new : Benched) (seen : AnySeen) : Type 0 where
  pub full : IsFull old.told new.told (event_of seen)
  pub stop : new.stop ≡ old.stop

abbrev pub IsSeenNext : Benched → Benched → AnySeen → Judged → Type 0
IsSeenNext old new seen Taken = GoesOn old new seen false
IsSeenNext old new seen SetAside = GoesOn old new seen true
IsSeenNext old new seen Full = HasNoRoom old new seen
IsSeenNext old new seen Untaken = IsFirst old new seen
IsSeenNext old new seen NoMemory = new.stop ≡ Some stops.NoMemory

-- behind the first that wasn't taken each flit is told so, and nothing changes
abbrev pub IsSeenBehind : Option FirstStop → Benched → Benched → AnySeen → Judged → Type 0
IsSeenBehind None old new seen judged = IsSeenNext old new seen judged
IsSeenBehind (Some (stops.Untaken first fault)) old new seen judged = (judged ≡ Untaken) × (new ≡ old)
IsSeenBehind (Some stops.NoMemory) old new seen judged = (judged ≡ NoMemory) × (new ≡ old)

abbrev pub IsSeen : Benched → Benched → AnySeen → Judged → Type 0
IsSeen old new seen judged = IsSeenBehind old.stop old new seen judged

-- what is told of the first flit that isn't taken: its number, why it isn't, and its nodes; of a load or a store its source
abbrev pub sides_in : Event → NodeId → Sides
sides_in (events.Line e) source = e.sides
sides_in (events.Granted sides pcrd) source = sides
sides_in (events.Returned sides pcrd) source = sides
sides_in other source = record { requester = source; home = source }

pub record IsFactOf (seen : AnySeen) (fault : WatchFault) (facts : FaultFacts) : Type 0 where
  pub number : facts.number ≡ seen.line
  pub reason : facts.fault ≡ fault
  pub nodes : facts.sides ≡ sides_in (event_of seen) seen.source

abbrev pub IsToldOf : Option FirstStop → Option FaultFacts → Type 0
IsToldOf (Some (stops.Untaken seen fault)) (Some facts) = IsFactOf seen fault facts
IsToldOf (Some (stops.Untaken seen fault)) None = ⊥
IsToldOf (Some stops.NoMemory) facts = facts ≡ None
IsToldOf None facts = facts ≡ None
