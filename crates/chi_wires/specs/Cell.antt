-- The six cells of one agent at one line (Arm IHI 0050 B, chapter 2; docs/PROTOCOL.md, "Messages").
use Rattle.std.specs.Prelude.{Option, Some, None, option_map}
use Rattle.chi_flit.specs.declared.message.Channel.{Channel}
use Rattle.chi_flit.specs.declared.message.Channel.TheVariants as channels
use Rattle.chi_flit.specs.declared.message.Msg.{Msg}
use Rattle.chi_flit.specs.declared.message.Msg.TheVariants as messages
use Rattle.chi_wires.specs.declared.cells.Cells.{Cells}

-- nothing in flight
abbrev pub no_flits : Cells
no_flits = record { req = None; snp = None; rsp_down = None; dat_down = None; rsp_up = None; dat_up = None }

-- what is in flight on the channel
abbrev pub cell_of : Cells → Channel → Option Msg
cell_of cells channels.Req = option_map messages.Req cells.req
cell_of cells channels.Snp = option_map messages.Snp cells.snp
cell_of cells channels.RspDown = option_map messages.RspDown cells.rsp_down
cell_of cells channels.DatDown = option_map messages.DatDown cells.dat_down
cell_of cells channels.RspUp = option_map messages.RspUp cells.rsp_up
cell_of cells channels.DatUp = option_map messages.DatUp cells.dat_up

-- the message is in flight on its own channel
abbrev pub with_message : Cells → Msg → Cells
with_message cells (messages.Req request) = record cells { req = Some request }
with_message cells (messages.Snp snoop) = record cells { snp = Some snoop }
with_message cells (messages.RspDown response) = record cells { rsp_down = Some response }
with_message cells (messages.DatDown response) = record cells { dat_down = Some response }
with_message cells (messages.RspUp response) = record cells { rsp_up = Some response }
with_message cells (messages.DatUp response) = record cells { dat_up = Some response }

-- nothing is in flight on the channel
abbrev pub without_message : Cells → Channel → Cells
without_message cells channels.Req = record cells { req = None }
without_message cells channels.Snp = record cells { snp = None }
without_message cells channels.RspDown = record cells { rsp_down = None }
without_message cells channels.DatDown = record cells { dat_down = None }
without_message cells channels.RspUp = record cells { rsp_up = None }
without_message cells channels.DatUp = record cells { dat_up = None }
