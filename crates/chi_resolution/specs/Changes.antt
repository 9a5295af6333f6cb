-- What each flit does to what is open (docs/TRACES.md,
-- "Nodes, ids and credits").
use Rattle.std.specs.Prelude.{◌/◌, ◌%◌, Option, Some, None, Result, Ok, Err, if◌then◌else◌}
use Rattle.chi_trace.specs.declared.fields.Beat.{Beat}
use Rattle.chi_flit.specs.declared.message.RspDown.TheVariants as downs
use Rattle.chi_flit.specs.declared.message.RspUp.TheVariants as ups
use Rattle.chi_flit.specs.declared.state.State.{State}
use Rattle.chi_trace.specs.declared.fields.Address.{Address}
use Rattle.chi_trace.specs.declared.fields.PcrdType.{PcrdType}
use Rattle.chi_trace.specs.declared.fields.Resp.{Resp}
use Rattle.chi_trace.specs.declared.flits.Flit.{Flit}
use Rattle.chi_trace.specs.declared.flits.Flit.TheVariants as flits
use Rattle.chi_trace.specs.declared.flits.Transaction.{Transaction}
use Rattle.chi_trace.specs.declared.opcodes.Opcode.{Opcode}
use Rattle.chi_resolution.specs.declared.beats.OpenData.{OpenData}
use Rattle.chi_resolution.specs.declared.data_flits.DataFlit.{DataFlit}
use Rattle.chi_resolution.specs.declared.data_flits.DataSort.{DataSort}
use Rattle.chi_resolution.specs.declared.data_flits.DataSort.TheVariants as sorts
use Rattle.chi_resolution.specs.declared.tables.Change.{Change}
use Rattle.chi_resolution.specs.declared.tables.Change.TheVariants as changes
use Rattle.chi_resolution.specs.declared.tables.LineFlit.{LineFlit}
use Rattle.chi_resolution.specs.declared.ids.OpenId.{OpenId}
use Rattle.chi_resolution.specs.declared.ids.OpenKey.{OpenKey}
use Rattle.chi_resolution.specs.declared.ids.OpenKey.TheVariants as keys
use Rattle.chi_resolution.specs.declared.ledger.Booking.{Booking}
use Rattle.chi_resolution.specs.declared.ledger.CreditEvent.TheVariants as events
use Rattle.chi_explain.specs.declared.observed.Observed.{Observed}
use Rattle.chi_explain.specs.declared.observed.Observed.TheVariants as observed
use Rattle.chi_resolution.specs.declared.nodes.Ends.{Ends}
use Rattle.chi_resolution.specs.declared.reasons.IdReason.{IdReason}
use Rattle.chi_resolution.specs.declared.reasons.IdReason.TheVariants as reasons
use Rattle.chi_resolution.specs.declared.resolution.Options.{Options}
use Rattle.chi_flit.specs.declared.numbers.WordNo.{WordNo}
use Rattle.chi_trace.specs.Flits.{flit_opcode}
use Rattle.chi_resolution.specs.Beats.{data_before}
use Rattle.chi_resolution.specs.Cancels.{is_unfit, left_by}
use Rattle.chi_resolution.specs.Ids.{id_of, is_completed}
use Rattle.chi_resolution.specs.Lines.{line_of}
use Rattle.chi_resolution.specs.Reasons.{◌>>=◌}
use Rattle.chi_resolution.specs.Tables.{Open, booking_of, plain_flit}
use Rattle.chi_resolution.specs.Requests.{requested, retried, snooped}
use Rattle.chi_resolution.specs.Responses.{answered, buffer_of, completed, replied, responded}
use Rattle.chi_resolution.specs.DataFlits.{beat_of}
use Rattle.chi_resolution.specs.Credits.{given_back, granted}

-- a load or a store waits where its requester has a completion without its CompAck
abbrev pub access_at : Open → Ends → Address → Observed → LineFlit
access_at table ends address flit = record (plain_flit (line_of address) flit) { waits = is_completed ends.requester (line_of address) table.ids }

-- the word that an address is in
abbrev pub word_of : Address → WordNo
word_of address = record { 0 = address.0 % 64 / 8 }

abbrev pub flit_change : Result LineFlit IdReason → Result Change IdReason
flit_change flit = flit >>= λ flit. Ok (changes.Flit flit)

abbrev pub credit_change : Result Booking IdReason → Result Change IdReason
credit_change booking = booking >>= λ booking. Ok (changes.Credit booking)

-- data that frees a request, a snoop or a DBID
abbrev pub data_flit : DataSort → OpenKey → Resp → Transaction → Beat → DataFlit
data_flit sort key resp transaction beat = record { sort = sort; key = key; resp = resp; address = transaction.address; beat = beat }

-- what each flit does
abbrev pub change_by : Flit → Options → Open → Ends → Result Change IdReason
change_by (flits.Request kind spends target txn address) options table ends = flit_change (requested table ends kind spends txn address)
change_by (flits.PCrdReturn pcrd target) options table ends = credit_change (given_back table ends pcrd)
change_by (flits.Snoop snoop target txn address) options table ends = flit_change (snooped table ends snoop txn address)
change_by (flits.RetryAck pcrd transaction) options table ends = flit_change (retried options table ends pcrd transaction)
change_by (flits.CompUC dbid transaction) options table ends = flit_change (responded table ends downs.CompUC dbid transaction)
change_by (flits.Comp resp transaction) options table ends = flit_change (completed table ends resp transaction)
change_by (flits.CompDBIDResp dbid transaction) options table ends = flit_change (responded table ends downs.CompDBIDResp dbid transaction)
change_by (flits.PCrdGrant pcrd target) options table ends = credit_change (granted options table ends pcrd)
change_by (flits.SnpResp resp transaction) options table ends = flit_change (answered table ends resp transaction)
change_by (flits.CompAck transaction) options table ends = flit_change (replied table ends (buffer_of ends.requester transaction.txn) transaction.address ups.CompAck)
change_by (flits.CompData resp dbid transaction beat) options table ends = beat_of table ends (data_flit (sorts.Read dbid) (keys.Request ends.requester transaction.txn) resp transaction beat)
change_by (flits.SnpRespData resp transaction beat) options table ends = beat_of table ends (data_flit sorts.Snooped (keys.Snoop ends.requester transaction.txn) resp transaction beat)
change_by (flits.CopyBackWrData resp transaction beat) options table ends = beat_of table ends (data_flit sorts.Written (buffer_of ends.requester transaction.txn) resp transaction beat)
change_by (flits.Load address value) options table ends = Ok (changes.Flit (access_at table ends address (observed.Load ends.agent (word_of address) value)))
change_by (flits.Store address value) options table ends = Ok (changes.Flit (access_at table ends address (observed.Store ends.agent (word_of address) value)))

-- an answer that takes the copy of a retried copy-back shows that this is cancelled, which leaves a credit of its type
abbrev pub cancelled_by : Open → Ends → OpenId → LineFlit → Option PcrdType → LineFlit
cancelled_by table ends waiting flit None = flit
cancelled_by table ends waiting flit (Some type) = record flit {
  cancels = Some waiting.key;
  books = Some (booking_of table ends.requester type events.Cancelled);
}

abbrev pub with_loss_of : Open → Ends → LineFlit → State → Option OpenId → LineFlit
with_loss_of table ends flit state None = flit
with_loss_of table ends flit state (Some waiting) = if is_unfit waiting.may_retry state then cancelled_by table ends waiting flit waiting.waits_for else flit

abbrev pub with_loss_in : Open → Ends → LineFlit → Option State → LineFlit
with_loss_in table ends flit None = flit
with_loss_in table ends flit (Some state) = with_loss_of table ends flit state (id_of (keys.Retried ends.requester flit.line) table.ids)

abbrev pub with_loss : Open → Ends → LineFlit → LineFlit
with_loss table ends flit = with_loss_in table ends flit (left_by flit.flit)

-- the home sends a flit only once it has all words of the data that comes before it
abbrev pub unless_lacking : LineFlit → Option OpenData → Result Change IdReason
unless_lacking flit None = Ok (changes.Flit flit)
unless_lacking flit (Some begun) = Err (reasons.Lacking begun.key)

abbrev pub once_received : Open → Opcode → LineFlit → Result Change IdReason
once_received table opcode flit = unless_lacking flit (data_before opcode flit.line table.unfinished)

abbrev pub received : Open → Ends → Opcode → Change → Result Change IdReason
received table ends opcode (changes.Flit flit) = once_received table opcode (with_loss table ends flit)
received table ends opcode (changes.Credit booking) = Ok (changes.Credit booking)
received table ends opcode (changes.Beat further) = Ok (changes.Beat further)

unfoldable pub change_of : Options → Open → Ends → Flit → Result Change IdReason
change_of options table ends flit = change_by flit options table ends >>= received table ends (flit_opcode flit)
