-- What responses do to what is open (docs/TRACES.md, "Nodes, ids and credits").
use Rattle.std.specs.Prelude.{Bool, true, false, Option, Some, Result, Ok, length, ok_or}
use Rattle.chi_flit.specs.declared.message.Msg.TheVariants as messages
use Rattle.chi_flit.specs.declared.message.RspDown.{RspDown}
use Rattle.chi_flit.specs.declared.message.RspDown.TheVariants as downs
use Rattle.chi_flit.specs.declared.message.RspUp.{RspUp}
use Rattle.chi_trace.specs.declared.fields.Address.{Address}
use Rattle.chi_trace.specs.declared.fields.DbId.{DbId}
use Rattle.chi_trace.specs.declared.fields.NodeId.{NodeId}
use Rattle.chi_trace.specs.declared.fields.Resp.{Resp}
use Rattle.chi_trace.specs.declared.fields.TxnId.{TxnId}
use Rattle.chi_trace.specs.declared.flits.Transaction.{Transaction}
use Rattle.chi_resolution.specs.declared.tables.LineFlit.{LineFlit}
use Rattle.chi_resolution.specs.declared.ids.OpenKey.{OpenKey}
use Rattle.chi_resolution.specs.declared.ids.OpenKey.TheVariants as keys
use Rattle.chi_resolution.specs.declared.nodes.Ends.{Ends}
use Rattle.chi_resolution.specs.declared.reasons.IdReason.{IdReason}
use Rattle.chi_resolution.specs.declared.reasons.IdReason.TheVariants as reasons
use Rattle.chi_resolution.specs.Ids.{plain_id}
use Rattle.chi_resolution.specs.Messages.{answer_form, completion_response}
use Rattle.chi_resolution.specs.Reasons.{◌>>=◌}
use Rattle.chi_resolution.specs.Tables.{Open, freed, new_id, plain_flit, sent}

-- a CompAck follows Comp_UC
abbrev pub is_acknowledged : RspDown → Bool
is_acknowledged downs.CompUC = true
is_acknowledged other = false

-- Comp_UC and CompDBIDResp free a request and open a DBID
unfoldable pub responded : Open → Ends → RspDown → DbId → Transaction → Result LineFlit IdReason
responded table ends response dbid transaction = do
  found ← freed table (keys.Request ends.requester transaction.txn) transaction.address
  key ← new_id table (keys.Buffer ends.requester dbid)
  Ok (record (plain_flit found.line (sent ends (messages.RspDown response))) {
    frees = Some found.key;
    opens = Some (record (plain_id key found.line (length table.flits)) { awaits_ack = is_acknowledged response });
  })

-- Comp_I frees a request
unfoldable pub completed : Open → Ends → Resp → Transaction → Result LineFlit IdReason
completed table ends resp transaction = do
  response ← ok_or (completion_response resp) (reasons.Form resp)
  found ← freed table (keys.Request ends.requester transaction.txn) transaction.address
  Ok (record (plain_flit found.line (sent ends (messages.RspDown response))) { frees = Some found.key })

-- CompAck frees a DBID, SnpResp a snoop
unfoldable pub replied : Open → Ends → OpenKey → Option Address → RspUp → Result LineFlit IdReason
replied table ends key address response = do
  found ← freed table key address
  Ok (record (plain_flit found.line (sent ends (messages.RspUp response))) { frees = Some found.key })

unfoldable pub answered : Open → Ends → Resp → Transaction → Result LineFlit IdReason
answered table ends resp transaction = do
  response ← ok_or (answer_form resp) (reasons.Form resp)
  replied table ends (keys.Snoop ends.requester transaction.txn) transaction.address response

-- the DBID by which CompAck and CopyBackWrData name what the home keeps is their TxnID
abbrev pub buffer_of : NodeId → TxnId → OpenKey
buffer_of node txn = keys.Buffer node (record { 0 = txn.0 })
