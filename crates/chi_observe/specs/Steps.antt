-- What each flit does to ids and credits, or why they don't allow it (docs/OBSERVER.md, "Ids and credits").
use Rattle.std.specs.Prelude.{ℕ, Bool, true, false, List, Option, Some, None, Result, Ok, Err, if◌then◌else◌, ok_or, option_map}
use Rattle.chi_observer.specs.declared.kinds.Kind.{Kind}
use Rattle.chi_observer.specs.declared.kinds.Snoop.{Snoop}
use Rattle.chi_trace.specs.declared.fields.DbId.{DbId}
use Rattle.chi_trace.specs.declared.fields.PcrdType.{PcrdType}
use Rattle.chi_trace.specs.declared.fields.TxnId.{TxnId}
use Rattle.chi_observe.specs.declared.credits.Booking.{Booking}
use Rattle.chi_observe.specs.declared.credits.CreditEvent.TheVariants as events
use Rattle.chi_ids.specs.declared.keys.CacheLine.{CacheLine}
use Rattle.chi_ids.specs.declared.keys.IdKey.{IdKey}
use Rattle.chi_ids.specs.declared.keys.IdKey.TheVariants as keys
use Rattle.chi_ids.specs.declared.keys.KeyNumbers.{KeyNumbers}
use Rattle.chi_observe.specs.declared.ids.OpenId.{OpenId}
use Rattle.chi_observe.specs.declared.ids.Purpose.{Purpose}
use Rattle.chi_observe.specs.declared.ids.Purpose.TheVariants as purposes
use Rattle.chi_ids.specs.declared.keys.Sides.{Sides}
use Rattle.chi_observe.specs.declared.reasons.IdReason.{IdReason}
use Rattle.chi_observe.specs.declared.reasons.IdReason.TheVariants.{NotOpen, NotRetryable, NoCredit}
use Rattle.chi_observe.specs.declared.events.Tells.{Tells}
use Rattle.chi_observe.specs.declared.tables.Change.{Change}
use Rattle.chi_observe.specs.declared.tables.Part.{Part}
use Rattle.chi_observe.specs.declared.tables.Part.TheVariants as parts
use Rattle.chi_observe.specs.declared.steps.IdStep.{IdStep}
use Rattle.chi_observe.specs.declared.steps.IdStep.TheVariants.{Attempt, Resent, RetryAck, Complete, CompleteWith, ReadData, Answer, AnswerData, Acknowledge, WriteData, UnknownRequest, UnknownSnoop, UnknownAnswer, UnknownReply}
use Rattle.chi_observe.specs.declared.steps.IdStep.TheVariants as steps
use Rattle.chi_observe.specs.declared.steps.WatchOptions.{WatchOptions}
use Rattle.chi_observe.specs.Credits.{wanted_of}
use Rattle.chi_observe.specs.Grants.{lacks_credit}
use Rattle.chi_observe.specs.Judges.{is_cut}
use Rattle.chi_observe.specs.Ids.{id_of, opened_at, opened_id, with_id, without}
use Rattle.chi_observe.specs.Reasons.{◌>>=◌}
use Rattle.chi_observe.specs.Tables.{Table, plain_change, new_id, named, freed_key, freed, right_type, booking_of, new_buffer}
use Rattle.chi_observe.specs.Beats.{beat_of}
use Rattle.chi_observe.specs.Unknown.{unknown_request, unknown_snoop, unknown_answer, unknown_reply}

-- A request with AllowRetry opens its id; one that was retried before is cancelled.
unfoldable pub judged_attempt : Table → Sides → TxnId → Kind → CacheLine → Result Change IdReason
judged_attempt table sides txn kind line = do
  key ← new_id table (keys.Request sides txn)
  Ok (record (plain_change line) { frees = Some (keys.Retried sides line); opens = Some (opened_id key line (purposes.Request kind true)) })

abbrev pub attempt_of : Table → Sides → TxnId → Kind → CacheLine → Result Change IdReason
attempt_of table sides txn kind line = if table.aside line.0 then unknown_request table sides txn line None else judged_attempt table sides txn kind line

-- One without it is of a request that was retried, and spends a credit of the type that its RetryAck named.
abbrev pub spent : WatchOptions → Sides → PcrdType → CacheLine → OpenId → Booking → Result Change IdReason
spent options sides pcrd line id booking =
    if lacks_credit options booking then Err (NoCredit sides pcrd) else
    Ok (record (plain_change line) { frees = Some (keys.Retried sides line); opens = Some id; books = Some booking })

-- one that was retried before the trace waits for any type
abbrev pub waits_by : WatchOptions → IdKey → Option OpenId → Result (Option PcrdType) IdReason
waits_by options key None = if is_cut options then Ok None else Err (NotOpen key)
waits_by options key (Some waiting) = Ok waiting.waits_for

abbrev pub waited_for : WatchOptions → Table → IdKey → Result (Option PcrdType) IdReason
waited_for options table key = waits_by options key (id_of key table.ids)

unfoldable pub judged_resent : WatchOptions → Table → Sides → TxnId → Kind → CacheLine → PcrdType → Result Change IdReason
judged_resent options table sides txn kind line pcrd = do
  key ← new_id table (keys.Request sides txn)
  wanted ← waited_for options table (keys.Retried sides line)
  right ← right_type pcrd wanted
  spent options sides right line (opened_id key line (purposes.Request kind false)) (booking_of table sides right events.Resent)

abbrev pub resent_of : WatchOptions → Table → Sides → TxnId → Kind → CacheLine → PcrdType → Result Change IdReason
resent_of options table sides txn kind line pcrd = if table.aside line.0 then unknown_request table sides txn line (Some pcrd) else judged_resent options table sides txn kind line pcrd

-- A snoop opens its id.
unfoldable pub judged_snoop : Table → Sides → TxnId → Snoop → CacheLine → Result Change IdReason
judged_snoop table sides txn snoop line = do
  key ← new_id table (keys.Snoop sides txn)
  Ok (record (plain_change line) { opens = Some (opened_id key line (purposes.Snoop snoop)) })

abbrev pub snooped : Table → Sides → TxnId → Snoop → CacheLine → Result Change IdReason
snooped table sides txn snoop line = if table.aside line.0 then unknown_snoop table sides txn line else judged_snoop table sides txn snoop line

-- A RetryAck frees a request with AllowRetry, which then waits for a credit of the type.
abbrev pub attempted_kind : Purpose → Option (Option Kind)
attempted_kind (purposes.Request kind true) = Some (Some kind)
attempted_kind (purposes.Request kind false) = None
attempted_kind (purposes.Snoop snoop) = None
attempted_kind (purposes.Unknown true) = Some None
attempted_kind (purposes.Unknown false) = None

abbrev pub wanted_type : WatchOptions → Option Kind → Option PcrdType
wanted_type options None = None
wanted_type options (Some kind) = wanted_of options.types kind

abbrev pub waiting_of : OpenId → Sides → PcrdType → OpenId
waiting_of found sides pcrd = record (opened_id (keys.Retried sides found.line) found.line found.purpose) { waits_for = Some pcrd }

unfoldable pub retried : WatchOptions → Table → Sides → TxnId → PcrdType → Option CacheLine → Result Change IdReason
retried options table sides txn pcrd at = do
  found ← freed table (keys.Request sides txn) at
  kind ← ok_or (attempted_kind found.purpose) (NotRetryable (keys.Request sides txn))
  right ← right_type pcrd (wanted_type options kind)
  Ok (record (plain_change found.line) { frees = Some (keys.Request sides txn); opens = Some (waiting_of found sides right); books = Some (booking_of table sides right events.Retried) })

unfoldable pub completed : Table → Sides → TxnId → Option DbId → Option CacheLine → Result Change IdReason
completed table sides txn dbid at = do
  found ← freed table (keys.Request sides txn) at
  opens ← new_buffer table found dbid
  Ok (record (plain_change found.line) { frees = freed_key found; opens = opens })

-- A completion that opens no DBID, a CompAck and an answer without data free their ids.
abbrev pub acknowledged : Table → IdKey → Option CacheLine → Result Change IdReason
acknowledged table key at = freed table key at >>= λ found. Ok (record (plain_change found.line) { frees = freed_key found })

-- The first beat of a read's data opens the DBID.
abbrev pub opened_by : Table → OpenId → Option DbId → Change → Result Change IdReason
opened_by table found dbid change = new_buffer table found dbid >>= λ opens. Ok (record change { opens = opens })

abbrev pub opening : Table → OpenId → Option DbId → Change → Part → Result Change IdReason
opening table found dbid change parts.Whole = opened_by table found dbid change
opening table found dbid change (parts.First left) = opened_by table found dbid change
opening table found dbid change (parts.Known tells) = opened_by table found dbid change
opening table found dbid change parts.Further = Ok change
opening table found dbid change (parts.Held same) = Ok change
opening table found dbid change (parts.Last tells) = Ok change

unfoldable pub read_data : Table → Sides → TxnId → Option DbId → List Bool → Option CacheLine → Tells → Result Change IdReason
read_data table sides txn dbid there at tells = do
  found ← named table (keys.Request sides txn) at
  change ← beat_of table (keys.Request sides txn) there dbid at tells
  opening table found dbid change change.part

-- each flit of a line between these nodes; the line is that of its address, if it has one
abbrev pub change_of : WatchOptions → Table → Sides → IdStep → Option CacheLine → Tells → Result Change IdReason
change_of options table sides (Attempt txn kind line) at tells = attempt_of table sides txn kind line
change_of options table sides (Resent txn kind line pcrd) at tells = resent_of options table sides txn kind line pcrd
change_of options table sides (steps.Snoop txn snoop line) at tells = snooped table sides txn snoop line
change_of options table sides (RetryAck txn pcrd) at tells = retried options table sides txn pcrd at
change_of options table sides (Complete txn) at tells = acknowledged table (keys.Request sides txn) at
change_of options table sides (CompleteWith txn dbid) at tells = completed table sides txn dbid at
change_of options table sides (ReadData txn dbid there) at tells = read_data table sides txn dbid there at tells
change_of options table sides (Answer txn) at tells = acknowledged table (keys.Snoop sides txn) at
change_of options table sides (AnswerData txn there) at tells = beat_of table (keys.Snoop sides txn) there None at tells
change_of options table sides (Acknowledge dbid) at tells = acknowledged table (keys.Buffer sides dbid) at
change_of options table sides (WriteData dbid there) at tells = beat_of table (keys.Buffer sides dbid) there None at tells
change_of options table sides (UnknownRequest txn line spends) at tells = unknown_request table sides txn line spends
change_of options table sides (UnknownSnoop txn line) at tells = unknown_snoop table sides txn line
change_of options table sides (UnknownAnswer txn) at tells = unknown_answer table (keys.Snoop sides txn) at
change_of options table sides (UnknownReply txn dbid) at tells = unknown_reply table sides txn dbid at

-- the ids behind it, where it has this number
abbrev pub ids_after : ℕ → Change → List (KeyNumbers × OpenId) → List (KeyNumbers × OpenId)
ids_after number change ids = with_id (option_map (opened_at number) change.opens) (with_id change.keeps (without change.frees ids))
