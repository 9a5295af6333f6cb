-- What data does to what is open (docs/TRACES.md, "Nodes, ids and credits").
use Rattle.std.specs.Prelude.{◌==◌, ◌&&◌, Bool, true, false, Option, Some, None, Result, Ok, Err, if◌then◌else◌, length, ok_or}
use Rattle.chi_trace.specs.declared.fields.Beat.{Beat}
use Rattle.chi_trace.specs.declared.fields.DbId.{DbId}
use Rattle.chi_resolution.specs.declared.beats.OpenData.{OpenData}
use Rattle.chi_resolution.specs.declared.data_flits.DataFlit.{DataFlit}
use Rattle.chi_resolution.specs.declared.data_flits.DataSort.{DataSort}
use Rattle.chi_resolution.specs.declared.data_flits.DataSort.TheVariants as sorts
use Rattle.chi_resolution.specs.declared.tables.Change.{Change}
use Rattle.chi_resolution.specs.declared.tables.Change.TheVariants as changes
use Rattle.chi_resolution.specs.declared.tables.Further.{Further}
use Rattle.chi_resolution.specs.declared.tables.LineFlit.{LineFlit}
use Rattle.chi_resolution.specs.declared.ids.OpenId.{OpenId}
use Rattle.chi_resolution.specs.declared.ids.OpenKey.{OpenKey}
use Rattle.chi_resolution.specs.declared.ids.OpenKey.TheVariants as keys
use Rattle.chi_resolution.specs.declared.lines.CacheLine.{CacheLine}
use Rattle.chi_resolution.specs.declared.nodes.Ends.{Ends}
use Rattle.chi_resolution.specs.declared.reasons.IdReason.{IdReason}
use Rattle.chi_resolution.specs.declared.reasons.IdReason.TheVariants as reasons
use Rattle.chi_resolution.specs.Beats.{data_of, is_whole, joined}
use Rattle.chi_resolution.specs.Ids.{plain_id}
use Rattle.chi_resolution.specs.Messages.{is_same_resp, message_of}
use Rattle.chi_resolution.specs.Reasons.{◌>>=◌}
use Rattle.chi_resolution.specs.Tables.{Open, named, new_id, plain_flit, sent}

-- the DBID that a read's data has
abbrev pub dbid_of : DataSort → Option DbId
dbid_of (sorts.Read dbid) = Some dbid
dbid_of other = None

-- CompData opens a DBID, at its first beat
abbrev pub opened : Open → Ends → CacheLine → DataSort → Result (Option OpenId) IdReason
opened table ends line (sorts.Read dbid) = do
  key ← new_id table (keys.Buffer ends.requester dbid)
  Ok (Some (record (plain_id key line (length table.flits)) { awaits_ack = true }))
opened table ends line other = Ok None

-- data frees its id, once no word lacks
abbrev pub begun_or_freed : Bool → Open → OpenId → OpenData → LineFlit → LineFlit
begun_or_freed true table found begun flit = record flit { frees = Some found.key }
begun_or_freed false table found begun flit = record flit { begins = Some begun }

unfoldable pub first_beat : Open → Ends → DataFlit → OpenId → Result LineFlit IdReason
first_beat table ends flit found = do
  message ← ok_or (message_of flit.sort flit.resp flit.beat.words) (reasons.Form flit.resp)
  opens ← opened table ends found.line flit.sort
  Ok (begun_or_freed (is_whole flit.beat) table found
      (record { key = found.key; line = found.line; place = length table.flits; resp = flit.resp; dbid = dbid_of flit.sort; beat = flit.beat })
      (record (plain_flit found.line (sent ends message)) { opens = opens }))

-- a further beat has the RESP and the DBID of the first
abbrev pub is_same_dbid : Option DbId → Option DbId → Bool
is_same_dbid None None = true
is_same_dbid (Some dbid) (Some other) = dbid.0 == other.0
is_same_dbid one other = false

abbrev pub key_if : Bool → OpenKey → Option OpenKey
key_if true key = Some key
key_if false key = None

abbrev pub is_form : OpenData → DataFlit → Bool
is_form begun flit = is_same_resp flit.resp begun.resp && is_same_dbid (dbid_of flit.sort) begun.dbid

abbrev pub joined_as : OpenData → DataFlit → Result Beat IdReason
joined_as begun flit = if is_form begun flit then joined begun.key begun.beat flit.beat else Err (reasons.OtherBeat begun.key)

unfoldable pub later_beat : Ends → DataFlit → OpenId → OpenData → Result Further IdReason
later_beat ends flit found begun = do
  beat ← joined_as begun flit
  message ← ok_or (message_of flit.sort begun.resp beat.words) (reasons.Form begun.resp)
  Ok (record {
    joined = record begun { beat = beat };
    flit = sent ends message;
    frees = key_if (is_whole beat) found.key;
  })

abbrev pub beat_by : Open → Ends → DataFlit → OpenId → Option OpenData → Result Change IdReason
beat_by table ends flit found None = first_beat table ends flit found >>= λ first. Ok (changes.Flit first)
beat_by table ends flit found (Some begun) = later_beat ends flit found begun >>= λ further. Ok (changes.Beat further)

-- a beat of data that frees an id: the first, or a further one
unfoldable pub beat_of : Open → Ends → DataFlit → Result Change IdReason
beat_of table ends flit = do
  found ← named table flit.key flit.address
  beat_by table ends flit found (data_of flit.key table.unfinished)
