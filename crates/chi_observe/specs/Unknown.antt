-- What flits that aren't judged do to ids and credits (docs/OBSERVER.md, "Ids and credits").
use Rattle.std.specs.Prelude.{◌==◌, Option, Some, None, Result, Ok, if◌then◌else◌, is_none, ok_or}
use Rattle.chi_trace.specs.declared.fields.DbId.{DbId}
use Rattle.chi_trace.specs.declared.fields.PcrdType.{PcrdType}
use Rattle.chi_trace.specs.declared.fields.TxnId.{TxnId}
use Rattle.chi_observe.specs.declared.credits.Booking.{Booking}
use Rattle.chi_observe.specs.declared.credits.CreditEvent.TheVariants as events
use Rattle.chi_ids.specs.declared.keys.CacheLine.{CacheLine}
use Rattle.chi_ids.specs.declared.keys.IdKey.{IdKey}
use Rattle.chi_ids.specs.declared.keys.IdKey.TheVariants as keys
use Rattle.chi_observe.specs.declared.ids.OpenId.{OpenId}
use Rattle.chi_observe.specs.declared.ids.Purpose.TheVariants as purposes
use Rattle.chi_ids.specs.declared.keys.Sides.{Sides}
use Rattle.chi_observe.specs.declared.reasons.IdReason.{IdReason}
use Rattle.chi_observe.specs.declared.reasons.IdReason.TheVariants.{NotOpen}
use Rattle.chi_observe.specs.declared.tables.Change.{Change}
use Rattle.chi_observe.specs.Credits.{unused_of}
use Rattle.chi_observe.specs.Ids.{id_of, opened_id}
use Rattle.chi_observe.specs.Reasons.{◌>>=◌}
use Rattle.chi_observe.specs.Tables.{Table, plain_change, new_id, in_line, unknown_id, stray_id, booking_of, new_buffer}

-- A request and a snoop that aren't known, or to a line that is set aside, open their ids; without AllowRetry a credit is
-- spent, where there is one.
abbrev pub spent_if : Booking → Option Booking
spent_if booking = if unused_of booking.account == 0 then None else Some booking

abbrev pub unknown_spent : Table → Sides → CacheLine → OpenId → Option PcrdType → Change
unknown_spent table sides line id None = record (plain_change line) { opens = Some id }
unknown_spent table sides line id (Some pcrd) =
    record (plain_change line) { frees = Some (keys.Retried sides line); opens = Some id; books = spent_if (booking_of table sides pcrd events.Resent) }

unfoldable pub unknown_request : Table → Sides → TxnId → CacheLine → Option PcrdType → Result Change IdReason
unknown_request table sides txn line spends = do
  key ← new_id table (keys.Request sides txn)
  Ok (unknown_spent table sides line (opened_id key line (purposes.Unknown (is_none spends))) spends)

unfoldable pub unknown_snoop : Table → Sides → TxnId → CacheLine → Result Change IdReason
unknown_snoop table sides txn line = do
  key ← new_id table (keys.Snoop sides txn)
  Ok (record (plain_change line) { opens = Some (unknown_id key line) })

-- An answer, a response and data that aren't known are of the line of the id that they name, or else of their address.
abbrev pub unknown_at : Table → IdKey → Option CacheLine → Result OpenId IdReason
unknown_at table key None = ok_or (stray_id table key) (NotOpen key)
unknown_at table key (Some line) = Ok (unknown_id key line)

abbrev pub unknown_named_by : Table → IdKey → Option CacheLine → Option OpenId → Result OpenId IdReason
unknown_named_by table key at None = unknown_at table key at
unknown_named_by table key at (Some found) = in_line at found

abbrev pub unknown_named : Table → IdKey → Option CacheLine → Result OpenId IdReason
unknown_named table key at = unknown_named_by table key at (id_of key table.ids)

abbrev pub unknown_answer : Table → IdKey → Option CacheLine → Result Change IdReason
unknown_answer table key at = unknown_named table key at >>= λ found. Ok (plain_change found.line)

abbrev pub unknown_buffer : Table → OpenId → Option DbId → Result (Option OpenId) IdReason
unknown_buffer table found None = Ok None
unknown_buffer table found (Some dbid) = new_buffer table found (Some dbid)

unfoldable pub unknown_response : Table → IdKey → Option DbId → Option CacheLine → Result Change IdReason
unknown_response table key dbid at = do
  found ← unknown_named table key at
  opens ← unknown_buffer table found dbid
  Ok (record (plain_change found.line) { opens = opens })

abbrev pub turned : Sides → Sides
turned sides = record { requester = sides.home; home = sides.requester }

abbrev pub kept_or : Table → Sides → TxnId → Option DbId → Option CacheLine → Option OpenId → Result Change IdReason
kept_or table sides txn dbid at None = unknown_response table (keys.Request sides txn) dbid at
kept_or table sides txn dbid at (Some found) = in_line at found >>= λ f. Ok (plain_change f.line)

abbrev pub unknown_reply : Table → Sides → TxnId → Option DbId → Option CacheLine → Result Change IdReason
unknown_reply table sides txn dbid at = kept_or table sides txn dbid at (id_of (keys.Buffer (turned sides) (record { 0 = txn.0 })) table.ids)
