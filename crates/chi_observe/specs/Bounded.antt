-- A watch with a room: how much each table holds at most, and which flits it has room for (docs/OBSERVER.md, "A watch with a
-- room").
use Rattle.std.specs.Prelude.{◌≡◌, ℕ, ◌+◌, ◌-◌, ◌≤◌, ◌==◌, ◌&&◌, ◌||◌, Bool, true, false, not, nat_le, nat_lt, List, Option, Some, None, Result, Ok, Err, if◌then◌else◌, is_none, is_some, length}
use Rattle.std.specs.Map.{lookup}
use Rattle.chi_flit.specs.declared.numbers.Agent.{Agent}
use Rattle.chi_trace.specs.declared.fields.NodeId.{NodeId}
use Rattle.chi_observe.specs.declared.bounded.BoundedStop.{BoundedStop}
use Rattle.chi_observe.specs.declared.bounded.BoundedStop.TheVariants.{Fault, Full, NoMemory}
use Rattle.chi_observe.specs.declared.bounded.BoundedWatch.{BoundedWatch}
use Rattle.chi_observe.specs.declared.bounded.Room.{Room}
use Rattle.chi_observe.specs.declared.credits.Account.{Account}
use Rattle.chi_observe.specs.declared.credits.AccountNumbers.{AccountNumbers}
use Rattle.chi_observe.specs.declared.credits.Booking.{Booking}
use Rattle.chi_observe.specs.declared.events.AccessEvent.{AccessEvent}
use Rattle.chi_observe.specs.declared.events.Event.{Event}
use Rattle.chi_observe.specs.declared.events.Event.TheVariants as events
use Rattle.chi_observe.specs.declared.events.LineEvent.{LineEvent}
use Rattle.chi_ids.specs.declared.keys.CacheLine.{CacheLine}
use Rattle.chi_ids.specs.declared.keys.IdKey.{IdKey}
use Rattle.chi_ids.specs.declared.keys.KeyNumbers.{KeyNumbers}
use Rattle.chi_observe.specs.declared.ids.OpenId.{OpenId}
use Rattle.chi_ids.specs.declared.keys.Sides.{Sides}
use Rattle.chi_observe.specs.declared.reasons.IdReason.{IdReason}
use Rattle.chi_observe.specs.declared.tables.Change.{Change}
use Rattle.chi_observe.specs.declared.tables.Part.{Part}
use Rattle.chi_observe.specs.declared.tables.Part.TheVariants as parts
use Rattle.chi_observe.specs.declared.steps.WatchOptions.{WatchOptions}
use Rattle.chi_observe.specs.declared.watch.WatchFault.{WatchFault}
use Rattle.chi_observe.specs.Credits.{account_numbers, is_same_account}
use Rattle.chi_ids.specs.Keys.{numbers_of}
use Rattle.chi_observe.specs.Ids.{has_numbers_of, id_of}
use Rattle.chi_observe.specs.Nodes.{adds_home}
use Rattle.chi_observe.specs.Grants.{granted, returned}
use Rattle.chi_observe.specs.Lines.{home_of}
use Rattle.chi_observe.specs.Watched.{IsUntaken, Watched, access_agent, agent_in, allowed, nothing_watched, step, table_in, watched}

-- its room, and what its flits have told
pub record Bounded : Type 0 where
  pub room : Room
  pub told : Watched

abbrev pub bounded : {A : Type 0} → BoundedWatch A → Bounded
bounded b = record { room = b.room; told = watched b.watch }

abbrev pub nothing_bounded : Room → WatchOptions → Bounded
nothing_bounded room options = record { room = room; told = nothing_watched options }

-- one more comes, or none
abbrev pub has_room : Bool → ℕ → ℕ → Bool
has_room adds count most = not adds || nat_lt count most

-- the ids that are held behind a flit: one that is kept or opened and isn't held is one more, and one that is freed, and
-- isn't opened again, one less
abbrev pub number_of : Bool → ℕ
number_of it = if it then 1 else 0

abbrev pub is_new : Option OpenId → List (KeyNumbers × OpenId) → Bool
is_new None ids = false
is_new (Some id) ids = is_none (id_of id.key ids)

abbrev pub is_opened_as : IdKey → Option OpenId → Bool
is_opened_as key None = false
is_opened_as key (Some id) = has_numbers_of key (numbers_of id.key)

abbrev pub frees_of : Option IdKey → Change → List (KeyNumbers × OpenId) → Bool
frees_of None change ids = false
frees_of (Some key) change ids = is_some (id_of key ids) && not (is_opened_as key change.keeps || is_opened_as key change.opens)

abbrev pub is_freed : Change → List (KeyNumbers × OpenId) → Bool
is_freed change ids = frees_of change.frees change ids

abbrev pub ids_behind : Change → List (KeyNumbers × OpenId) → ℕ
ids_behind change ids = length ids + number_of (is_new change.keeps ids) + number_of (is_new change.opens ids) - number_of (is_freed change ids)

-- an account that nothing was booked in
abbrev pub is_account_new : Booking → List (AccountNumbers × Account) → Bool
is_account_new booking accounts = is_none (lookup (is_same_account (account_numbers booking.account.sides booking.account.pcrd)) accounts)

abbrev pub opens_account : Option Booking → List (AccountNumbers × Account) → Bool
opens_account None accounts = false
opens_account (Some booking) accounts = is_account_new booking accounts

abbrev pub account_fits : Room → Watched → Bool → Bool
account_fits room w opens = has_room opens (length w.accounts) room.accounts

-- a requester is new where its number is the next one
abbrev pub adds_requester : Option Agent → List NodeId → Bool
adds_requester None requesters = false
adds_requester (Some agent) requesters = agent.0 == length requesters

abbrev pub nodes_fit : Room → Watched → Option Agent → Sides → Bool
nodes_fit room w agent sides =
    has_room (adds_requester agent w.requesters) (length w.requesters) room.requesters
    && has_room (adds_home agent sides.home w.homes) (length w.homes) room.homes

abbrev pub line_fits : Room → Watched → CacheLine → Bool
line_fits room w line = is_some (w.lines line.0) || nat_lt w.counts.lines room.lines

-- what a flit of a line adds: a beat that is neither its first nor its last adds to the ids alone
abbrev pub rest_fits : Room → Watched → LineEvent → Change → Part → Bool
rest_fits room w e change parts.Further = true
rest_fits room w e change part =
    line_fits room w change.line && (account_fits room w (opens_account change.books w.accounts) && nodes_fit room w (agent_in w e) e.sides)

abbrev pub change_fits : Room → Watched → LineEvent → Change → Bool
change_fits room w e change = nat_le (ids_behind change w.ids) room.ids && rest_fits room w e change change.part

-- what isn't allowed adds nothing
abbrev pub allowed_fits : Room → Watched → LineEvent → Result Change IdReason → Bool
allowed_fits room w e (Ok change) = change_fits room w e change
allowed_fits room w e (Err reason) = true

abbrev pub booking_fits : Room → Watched → Result Booking IdReason → Bool
booking_fits room w (Ok booking) = account_fits room w (is_account_new booking w.accounts)
booking_fits room w (Err reason) = true

-- a load or a store adds no more than its requester, and to no line that no flit has touched
abbrev pub access_fits_at : Room → Watched → AccessEvent → Option NodeId → Bool
access_fits_at room w e None = true
access_fits_at room w e (Some home) = has_room (adds_requester (access_agent w e home) w.requesters) (length w.requesters) room.requesters

abbrev pub access_fits : Room → Watched → AccessEvent → Bool
access_fits room w e = access_fits_at room w e (home_of (w.lines e.line.0))

-- whether there is room for what the next line of a trace adds
abbrev pub fits : Room → Watched → Event → Bool
fits room w (events.Access e) = access_fits room w e
fits room w (events.Granted sides pcrd) = booking_fits room w (granted w.options (table_in w) sides pcrd)
fits room w (events.Returned sides pcrd) = booking_fits room w (returned w.options (table_in w) sides pcrd)
fits room w (events.Line e) = allowed_fits room w e (allowed w e)

-- where there is, it is taken as a watch takes it; or it isn't, for a reason that holds, and nothing has changed. `Full`
-- exactly where there isn't: nothing has changed then
pub record IsStepped (old new : Bounded) (e : Event) : Type 0 where
  pub room : fits old.room old.told e ≡ true
  pub taken : step old.told e ≡ Some new.told
  pub kept : new.room ≡ old.room

pub record IsRefused (old new : Bounded) (e : Event) (fault : WatchFault) : Type 0 where
  pub room : fits old.room old.told e ≡ true
  pub untaken : IsUntaken old.told new.told e fault
  pub kept : new.room ≡ old.room

pub record IsFull (old new : Bounded) (e : Event) : Type 0 where
  pub lacks : fits old.room old.told e ≡ false
  pub kept : new ≡ old

abbrev pub IsBoundedTaken : {A : Type 0} → Bounded → Bounded → Event → Result A BoundedStop → Type 0
IsBoundedTaken old new e (Ok done) = IsStepped old new e
IsBoundedTaken old new e (Err (Fault fault)) = IsRefused old new e fault
IsBoundedTaken old new e (Err Full) = IsFull old new e
IsBoundedTaken old new e (Err NoMemory) = Unit {0}

-- what each table holds is within the room: so it is of a new watch, and behind each line of a trace for which there is room
pub record IsWithin (room : Room) (w : Watched) : Type 0 where
  pub requesters : length w.requesters ≤ room.requesters
  pub homes : length w.homes ≤ room.homes
  pub ids : length w.ids ≤ room.ids
  pub accounts : length w.accounts ≤ room.accounts
  pub lines : w.counts.lines ≤ room.lines

abbrev pub StartsWithin : Type 0
StartsWithin = (room : Room) (options : WatchOptions) → IsWithin room (nothing_watched options)

abbrev pub StaysWithin : Type 0
StaysWithin = (room : Room) (w w' : Watched) → IsWithin room w → (e : Event) → fits room w e ≡ true → step w e ≡ Some w' → IsWithin room w'
