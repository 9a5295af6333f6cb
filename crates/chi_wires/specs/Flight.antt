-- The flits in flight at a line as a multiset: the list of the full cells, in some order (docs/PROTOCOL.md,
-- "Messages").
use Rattle.std.specs.Prelude.{ℕ, ◌+◌, List, [], ◌∷◌, ◌++◌, Bool, true, false, Option, Some, None, ◌==◌, ◌&&◌}
use Rattle.chi_flit.specs.declared.numbers.Agent.{Agent}
use Rattle.chi_flit.specs.declared.snoop.Snoop.{Snoop}
use Rattle.chi_flit.specs.declared.message.Channel.{Channel}
use Rattle.chi_flit.specs.declared.message.Channel.TheVariants.{Req, Snp, RspDown, DatDown, RspUp, DatUp}
use Rattle.chi_flit.specs.declared.message.Msg.{Msg}
use Rattle.chi_flit.specs.declared.message.Msg.TheVariants as messages
use Rattle.chi_flit.specs.Message.{channel_of}
use Rattle.chi_wires.specs.declared.cells.Cells.{Cells}
use Rattle.chi_wires.specs.Cell.{cell_of}
use Rattle.chi_wires.specs.Flits.{cells_at}

-- a message on its way between an agent and the home
pub record Flit : Type 0 where
  pub agent : Agent
  pub message : Msg

abbrev pub flit : Agent → Msg → Flit
flit agent message = record { agent = agent; message = message }

-- the flit of a message, if there is one
abbrev pub flit_of : Agent → Option Msg → List Flit
flit_of agent None = []
flit_of agent (Some message) = flit agent message ∷ []

-- the flit that is in flight on a channel, to or from an agent, if there is one
abbrev pub cell_flit : List Cells → Agent → Channel → List Flit
cell_flit flits agent channel = flit_of agent (cell_of (cells_at flits agent.0) channel)

-- the flits of one agent
abbrev pub flits_of : Agent → Cells → List Flit
flits_of agent cells =
    flit_of agent (cell_of cells Req)
    ++ (flit_of agent (cell_of cells Snp)
    ++ (flit_of agent (cell_of cells RspDown)
    ++ (flit_of agent (cell_of cells DatDown)
    ++ (flit_of agent (cell_of cells RspUp)
    ++ flit_of agent (cell_of cells DatUp)))))

-- the flits of these agents, of which the first has this number
abbrev pub flits_from : ℕ → List Cells → List Flit
flits_from agent [] = []
flits_from agent (cells ∷ flits) = flits_of (record { 0 = agent }) cells ++ flits_from (agent + 1) flits

-- all flits in flight
abbrev pub in_flight : List Cells → List Flit
in_flight flits = flits_from 0 flits

-- a snoop to each marked agent, of which the first has this number
abbrev pub snoop_flits : ℕ → List Bool → Snoop → List Flit
snoop_flits agent [] snoop = []
snoop_flits agent (true ∷ agents) snoop = flit (record { 0 = agent }) (messages.Snp snoop) ∷ snoop_flits (agent + 1) agents snoop
snoop_flits agent (false ∷ agents) snoop = snoop_flits (agent + 1) agents snoop

abbrev pub channel_number : Channel → ℕ
channel_number Req = 0
channel_number Snp = 1
channel_number RspDown = 2
channel_number DatDown = 3
channel_number RspUp = 4
channel_number DatUp = 5

-- whether the flit is on this channel, to or from this agent
abbrev pub is_at : Channel → Agent → Flit → Bool
is_at channel agent flit = (channel_number (channel_of flit.message) == channel_number channel) && (flit.agent.0 == agent.0)
