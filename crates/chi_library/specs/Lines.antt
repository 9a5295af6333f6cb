-- A line in C's numbers (docs/PROTOCOL.md, "One line"; docs/LIBRARY.md, "Numbers").
use Rattle.std.specs.Prelude.{ℕ, Option, Some, None, map}
use Rattle.chi_flit.specs.declared.numbers.Agent.{Agent}
use Rattle.chi_slice.specs.Words.{CopyView, LineView, Pending, Phase, Serving, Waiting}
use Rattle.chi_slice.specs.Servings.{Idle, Snooping, AwaitingCompAck, AwaitingWriteData}
use Rattle.chi_slice.specs.Phases.{Sent, Retried}
use Rattle.chi_library.specs.declared.lines.ChiCopy.{ChiCopy}
use Rattle.chi_library.specs.declared.lines.ChiLine.{ChiLine}
use Rattle.chi_library.specs.declared.lines.ChiRequest.{ChiRequest}
use Rattle.chi_library.specs.declared.lines.ChiServing.{ChiServing}
use Rattle.chi_library.specs.declared.lines.TheConstants.ChiLine as blank
use Rattle.chi_flit.specs.Kind.{kind_number}
use Rattle.chi_flit.specs.State.{state_number}
use Rattle.chi_library.specs.Numbers.{flag_number}

abbrev pub no_request_told : ChiRequest
no_request_told = record { phase = 0; kind = 0; slot = 0 }

abbrev pub no_serving_told : ChiServing
no_serving_told = record { form = 0; agent = 0; kind = 0; slot = 0 }

-- a line of which nothing is told
abbrev pub no_line_told : ChiLine
no_line_told = blank.NONE

abbrev pub copy_told : CopyView → ChiCopy
copy_told copy = record { state = state_number copy.state; words = copy.words }

-- 0 is no request, and 3 one that waits at the home
abbrev pub phase_number : Phase → ℕ
phase_number Sent = 1
phase_number Retried = 2

abbrev pub pending_told : Option Pending → ChiRequest
pending_told None = no_request_told
pending_told (Some request) = record { phase = phase_number request.phase; kind = kind_number request.kind; slot = request.slot.0 }

abbrev pub waiting_told : Option Waiting → ChiRequest
waiting_told None = no_request_told
waiting_told (Some request) = record { phase = 3; kind = kind_number request.kind; slot = request.slot.0 }

abbrev pub serving_told : Serving → ChiServing
serving_told Idle = no_serving_told
serving_told (Snooping agent kind slot) = record { form = 1; agent = agent.0; kind = kind_number kind; slot = slot.0 }
serving_told (AwaitingCompAck agent slot) = record { form = 2; agent = agent.0; kind = 0; slot = slot.0 }
serving_told (AwaitingWriteData agent kind slot) = record { form = 3; agent = agent.0; kind = kind_number kind; slot = slot.0 }

-- 255 is nobody
abbrev pub owner_number : Option Agent → ℕ
owner_number None = 255
owner_number (Some agent) = agent.0

abbrev pub line_told : LineView → ChiLine
line_told view = record {
  copies = map copy_told view.copies;
  memory = view.memory;
  last = view.last;
  pending = map pending_told view.pending;
  waiting = map waiting_told view.waiting;
  named = map flag_number view.named;
  awaited = map flag_number view.awaited;
  serving = serving_told view.serving;
  unique = flag_number view.unique;
  owner = owner_number view.owner;
}
