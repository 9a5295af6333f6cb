-- Of the code alone, no public promise cites it: the message that a step takes (docs/PROTOCOL.md, "The actions").
use Rattle.std.specs.Prelude.{Option, Some, None}
use Rattle.chi_flit.specs.declared.action.Step.{Step}
use Rattle.chi_flit.specs.declared.action.Step.TheVariants as steps
use Rattle.chi_flit.specs.declared.message.Channel.TheVariants as channels
use Rattle.chi_flit.specs.declared.message.Msg.{Msg}
use Rattle.chi_slice.specs.Words.{Cells, SnoopAnswer, answer_channel, answer_in, cell_of}

abbrev pub answer_message : Cells → Option SnoopAnswer → Option Msg
answer_message cells None = None
answer_message cells (Some answer) = cell_of cells (answer_channel answer)

abbrev pub message_taken : Cells → Step → Option Msg
message_taken cells steps.Admit = cell_of cells channels.Req
message_taken cells steps.Retry = cell_of cells channels.Req
message_taken cells steps.RecvRetry = cell_of cells channels.RspDown
message_taken cells steps.RecvSnp = cell_of cells channels.Snp
message_taken cells steps.RecvSnpResp = answer_message cells (answer_in cells)
message_taken cells steps.RecvData = cell_of cells channels.DatDown
message_taken cells steps.RecvComp = cell_of cells channels.RspDown
message_taken cells steps.RecvAck = cell_of cells channels.RspUp
message_taken cells steps.RecvDbid = cell_of cells channels.RspDown
message_taken cells steps.RecvWrData = cell_of cells channels.DatUp
message_taken cells other = None
