-- What a line, as the contracts see it, is by the protocol alone (docs/PROTOCOL.md, "One line").
use Rattle.std.specs.Prelude.{List, Bool}
use Rattle.chi_flit.specs.declared.numbers.Agent.{Agent}
use Rattle.chi_filter.specs.Filter.{is_in, is_named}
use Rattle.chi_wires.specs.Flight.{in_flight}
use Rattle.chi_homeline.specs.declared.serving.Serving.{Serving}
use Rattle.chi_homeline.specs.declared.serving.Serving.TheVariants as code
use Rattle.chi_homeline.specs.Home.{waiting_of}
use Rattle.chi_line.specs.LineState.{LineState, rn_of}
use Rattle.chi_line.specs.Protocol.{Standing}
use Rattle.chi_line.specs.Protocol.Serving.{Idle, Snooping, AwaitingCompAck, AwaitingWriteData}
use Rattle.chi_line.specs.Protocol as protocol

-- a list of marks as a set
abbrev pub set_of : List Bool → Agent → Bool
set_of marks n = is_in marks n.0

-- what the home is doing: the marks of those awaited mean something only while it snoops
abbrev pub serving_of : Serving → List Bool → protocol.Serving
serving_of code.Idle awaited = Idle
serving_of (code.Snooping agent kind slot) awaited = Snooping agent kind slot (set_of awaited)
serving_of (code.AwaitingCompAck agent slot) awaited = AwaitingCompAck agent slot
serving_of (code.AwaitingWriteData agent kind slot) awaited = AwaitingWriteData agent kind slot

abbrev pub standing_of : LineState → Standing
standing_of s = record {
  copies = λ n. record { state = (rn_of s n.0).state; words = (rn_of s n.0).words };
  pending = λ n. (rn_of s n.0).pending;
  memory = s.home.memory;
  named = λ n. is_named s.home.filter n.0;
  unique = s.home.filter.unique;
  owner = s.home.filter.owner;
  waiting = λ n. waiting_of s.home n.0;
  serving = serving_of s.home.serving s.home.awaited;
  flits = in_flight s.flits;
}
