-- What requests, their RetryAcks and snoops do to what is open (docs/TRACES.md, "Nodes, ids and credits").
use Rattle.std.specs.Prelude.{◌==◌, Bool, true, false, Option, Some, None, Result, Ok, Err, if◌then◌else◌, is_none, length, ok_or}
use Rattle.chi_flit.specs.declared.kind.Kind.{Kind}
use Rattle.chi_flit.specs.declared.message.Msg.TheVariants as messages
use Rattle.chi_flit.specs.declared.message.RspDown.TheVariants as downs
use Rattle.chi_flit.specs.declared.snoop.Snoop.{Snoop}
use Rattle.chi_trace.specs.declared.fields.Address.{Address}
use Rattle.chi_trace.specs.declared.fields.PcrdType.{PcrdType}
use Rattle.chi_trace.specs.declared.fields.TxnId.{TxnId}
use Rattle.chi_trace.specs.declared.flits.Transaction.{Transaction}
use Rattle.chi_resolution.specs.declared.tables.LineFlit.{LineFlit}
use Rattle.chi_resolution.specs.declared.ids.OpenId.{OpenId}
use Rattle.chi_resolution.specs.declared.ids.OpenKey.TheVariants as keys
use Rattle.chi_resolution.specs.declared.ledger.Booking.{Booking}
use Rattle.chi_resolution.specs.declared.ledger.CreditEvent.{CreditEvent}
use Rattle.chi_resolution.specs.declared.ledger.CreditEvent.TheVariants as events
use Rattle.chi_explain.specs.declared.observed.Observed.{Observed}
use Rattle.chi_resolution.specs.declared.nodes.Ends.{Ends}
use Rattle.chi_resolution.specs.declared.reasons.IdReason.{IdReason}
use Rattle.chi_resolution.specs.declared.reasons.IdReason.TheVariants as reasons
use Rattle.chi_resolution.specs.declared.resolution.Options.{Options}
use Rattle.chi_resolution.specs.Cancels.{is_lost}
use Rattle.chi_resolution.specs.Ids.{id_of, plain_id}
use Rattle.chi_resolution.specs.Ledger.{booked_type, unused_of, wanted_of}
use Rattle.chi_resolution.specs.Lines.{line_of}
use Rattle.chi_resolution.specs.Reasons.{◌>>=◌}
use Rattle.chi_resolution.specs.Tables.{Open, booking_of, freed, new_id, plain_flit, sent}

-- a credit is of the type that is wanted, if that isn't open
abbrev pub right_type : PcrdType → Option PcrdType → Result PcrdType IdReason
right_type pcrd None = Ok pcrd
right_type pcrd (Some wanted) = if wanted.0 == pcrd.0 then Ok pcrd else Err (reasons.OtherType pcrd wanted)

-- a first attempt opens an id
abbrev pub attempted : Kind → OpenId → Observed → LineFlit
attempted kind id flit = record (plain_flit id.line flit) { opens = Some (record id { may_retry = Some kind }) }

-- a request without AllowRetry takes a credit: G - S - B > 0, in the type that the RetryAck of the node to the line named
abbrev pub with_credit : Ends → PcrdType → OpenId → Observed → OpenId → Booking → Result LineFlit IdReason
with_credit ends pcrd id flit retried booking =
    if unused_of booking.held.account == 0 then Err (reasons.NoCredit ends.requester pcrd) else Ok (record (plain_flit id.line flit) {
      frees = Some retried.key;
      opens = Some id;
      books = Some booking;
    })

unfoldable pub resent : Open → Ends → PcrdType → OpenId → Observed → Result LineFlit IdReason
resent table ends pcrd id flit = do
  retried ← ok_or (id_of (keys.Retried ends.requester id.line) table.ids) (reasons.NotOpen (keys.Retried ends.requester id.line))
  type ← right_type pcrd retried.waits_for
  with_credit ends type id flit retried (booking_of table ends.requester type events.Resent)

abbrev pub request_by : Option PcrdType → Open → Ends → Kind → OpenId → Observed → Result LineFlit IdReason
request_by None table ends kind id flit = Ok (attempted kind id flit)
request_by (Some pcrd) table ends kind id flit = resent table ends pcrd id flit

-- a request opens its id
unfoldable pub requested : Open → Ends → Kind → Option PcrdType → TxnId → Address → Result LineFlit IdReason
requested table ends kind spends txn address = do
  key ← new_id table (keys.Request ends.requester txn)
  request_by spends table ends kind (plain_id key (line_of address) (length table.flits))
      (sent ends (messages.Req (record { kind = kind; slot = record { 0 = 0 }; allow_retry = is_none spends })))

-- a snoop opens its id
unfoldable pub snooped : Open → Ends → Snoop → TxnId → Address → Result LineFlit IdReason
snooped table ends snoop txn address = do
  key ← new_id table (keys.Snoop ends.requester txn)
  Ok (record (plain_flit (line_of address) (sent ends (messages.Snp snoop))) { opens = Some (plain_id key (line_of address) (length table.flits)) })

-- a RetryAck frees a first attempt, which then waits for a credit; a copy-back whose copy is lost is cancelled at once
abbrev pub unless_lost : Bool → OpenId → Option OpenId
unless_lost true id = None
unless_lost false id = Some id

abbrev pub retry_event : Bool → CreditEvent
retry_event true = events.RetriedInVain
retry_event false = events.Retried

abbrev pub retried_flit : Bool → Open → Ends → OpenId → OpenId → PcrdType → Observed → LineFlit
retried_flit lost table ends found waiting type flit = record (plain_flit found.line flit) {
  frees = Some found.key;
  opens = unless_lost lost waiting;
  books = Some (booking_of table ends.requester type (retry_event lost));
}

unfoldable pub retried : Options → Open → Ends → PcrdType → Transaction → Result LineFlit IdReason
retried options table ends pcrd transaction = do
  found ← freed table (keys.Request ends.requester transaction.txn) transaction.address
  kind ← ok_or found.may_retry (reasons.NotRetryable ends.requester transaction.txn)
  type ← right_type pcrd (wanted_of options.types kind)
  key ← new_id table (keys.Retried ends.requester found.line)
  Ok (retried_flit (is_lost kind ends.agent found table.flits) table ends found
      (record (plain_id key found.line (length table.flits)) { may_retry = Some kind; waits_for = Some type }) type
      (sent ends (messages.RspDown (downs.RetryAck (booked_type options.types kind)))))
