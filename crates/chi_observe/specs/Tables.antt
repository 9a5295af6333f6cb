-- What is open, and what a flit may name of it, or why not (docs/OBSERVER.md, "Ids and credits").
use Rattle.std.specs.Prelude.{ℕ, ◌==◌, ◌&&◌, Bool, false, List, Option, Some, None, Result, Ok, Err, if◌then◌else◌, ok_or}
use Rattle.std.specs.List.{find}
use Rattle.std.specs.Map.{values_of}
use Rattle.chi_trace.specs.declared.fields.DbId.{DbId}
use Rattle.chi_trace.specs.declared.fields.PcrdType.{PcrdType}
use Rattle.chi_observe.specs.declared.credits.Account.{Account}
use Rattle.chi_observe.specs.declared.credits.AccountNumbers.{AccountNumbers}
use Rattle.chi_observe.specs.declared.credits.Booking.{Booking}
use Rattle.chi_observe.specs.declared.credits.CreditEvent.{CreditEvent}
use Rattle.chi_ids.specs.declared.keys.CacheLine.{CacheLine}
use Rattle.chi_ids.specs.declared.keys.IdKey.{IdKey}
use Rattle.chi_ids.specs.declared.keys.IdKey.TheVariants as keys
use Rattle.chi_ids.specs.declared.keys.KeyNumbers.{KeyNumbers}
use Rattle.chi_observe.specs.declared.ids.OpenId.{OpenId}
use Rattle.chi_observe.specs.declared.ids.Purpose.TheVariants as purposes
use Rattle.chi_ids.specs.declared.keys.Sides.{Sides}
use Rattle.chi_observe.specs.declared.reasons.IdReason.{IdReason}
use Rattle.chi_observe.specs.declared.reasons.IdReason.TheVariants.{InUse, NotOpen, Unfinished, WrongAddress, OtherType, NoDbid}
use Rattle.chi_observe.specs.declared.tables.Change.{Change}
use Rattle.chi_observe.specs.declared.tables.Part.TheVariants as parts
use Rattle.chi_observe.specs.declared.tables.Tables.{Tables}
use Rattle.chi_observe.specs.Credits.{account_of}
use Rattle.chi_ids.specs.Keys.{is_alike, sides_of}
use Rattle.chi_observe.specs.Ids.{id_of, is_kept_for, is_unknown, opened_id}
use Rattle.chi_observe.specs.Lines.{is_aside, lines_in}
use Rattle.chi_observe.specs.Reasons.{◌>>=◌}

-- what is open, the ids and the accounts, and which lines are set aside
pub record Table : Type 0 where
  pub ids : List (KeyNumbers × OpenId)
  pub accounts : List (AccountNumbers × Account)
  pub aside : ℕ → Bool

abbrev pub table_of : {A : Type 0} → Tables A → Table
table_of tables = record { ids = tables.ids.now.entries; accounts = tables.accounts.now.entries; aside = λ l. is_aside (lines_in tables.lines.now.entries l) }

-- a flit that neither frees, opens nor books
abbrev pub plain_change : CacheLine → Change
plain_change line = record { line = line; frees = None; keeps = None; opens = None; books = None; part = parts.Whole }

-- to open an id that is in use is a fault, but of a line that is set aside
abbrev pub unused : Table → IdKey → Option OpenId → Result IdKey IdReason
unused table key None = Ok key
unused table key (Some found) = if table.aside found.line.0 then Ok key else Err (InUse key)

abbrev pub new_id : Table → IdKey → Result IdKey IdReason
new_id table key = unused table key (id_of key table.ids)

-- so is to name one that isn't open, or an address of another line
abbrev pub in_line : Option CacheLine → OpenId → Result OpenId IdReason
in_line None found = Ok found
in_line (Some at) found = if at.0 == found.line.0 then Ok found else Err (WrongAddress at found.line)

-- but where it names the address of a line that is set aside, or an id of its requester at one: of that its line is known
abbrev pub unknown_id : IdKey → CacheLine → OpenId
unknown_id key line = opened_id key line (purposes.Unknown false)

abbrev pub is_stray : Table → IdKey → OpenId → Bool
is_stray table key id = is_alike key id.key && table.aside id.line.0

abbrev pub unknown_of : Option OpenId → Option OpenId
unknown_of None = None
unknown_of (Some id) = Some (unknown_id id.key id.line)

abbrev pub stray_id : Table → IdKey → Option OpenId
stray_id table key = unknown_of (find (is_stray table key) (values_of table.ids))

abbrev pub stray : Table → IdKey → Option CacheLine → Option OpenId
stray table key None = stray_id table key
stray table key (Some line) = if table.aside line.0 then Some (unknown_id key line) else None

abbrev pub named_by : Table → IdKey → Option CacheLine → Option OpenId → Result OpenId IdReason
named_by table key at None = ok_or (stray table key at) (NotOpen key)
named_by table key at (Some found) = in_line at found

abbrev pub named : Table → IdKey → Option CacheLine → Result OpenId IdReason
named table key at = named_by table key at (id_of key table.ids)

-- what isn't known stays open until it is opened again
abbrev pub freed_key : OpenId → Option IdKey
freed_key found = if is_unknown found.purpose then None else Some found.key

-- and to free one whose data lacks words by a flit without data
abbrev pub whole : IdKey → OpenId → Option (List Bool) → Result OpenId IdReason
whole key found None = Ok found
whole key found (Some lacks) = Err (Unfinished key)

abbrev pub freed : Table → IdKey → Option CacheLine → Result OpenId IdReason
freed table key at = named table key at >>= λ found. whole key found found.lacks

-- a type that has to be another one
abbrev pub right_type : PcrdType → Option PcrdType → Result PcrdType IdReason
right_type named None = Ok named
right_type named (Some wanted) = if wanted.0 == named.0 then Ok named else Err (OtherType named wanted)

abbrev pub booking_of : Table → Sides → PcrdType → CreditEvent → Booking
booking_of table sides pcrd event = record { account = account_of sides pcrd table.accounts; event = event }

-- A completion frees the request, and opens a DBID where a CompAck or write data follow.
abbrev pub kept_id : Table → OpenId → DbId → Result (Option OpenId) IdReason
kept_id table found dbid = do
  key ← new_id table (keys.Buffer (sides_of found.key) dbid)
  Ok (Some (opened_id key found.line found.purpose))

abbrev pub buffer_of : Table → OpenId → Option DbId → Result (Option OpenId) IdReason
buffer_of table found dbid = ok_or dbid (NoDbid found.key) >>= λ named. kept_id table found named

-- what isn't known opens the one that is named, if one is
abbrev pub named_buffer : Table → OpenId → Option DbId → Result (Option OpenId) IdReason
named_buffer table found None = Ok None
named_buffer table found (Some dbid) = if is_unknown found.purpose then kept_id table found dbid else Ok None

abbrev pub new_buffer : Table → OpenId → Option DbId → Result (Option OpenId) IdReason
new_buffer table found dbid = if is_kept_for found.purpose then buffer_of table found dbid else named_buffer table found dbid
