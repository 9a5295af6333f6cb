-- A line as plain data (docs/PROTOCOL.md, "One line"), with its last values ("The journal and last values").
use Rattle.std.specs.Prelude.{ℕ, List, Option, map}
use Rattle.chi_rnline.specs.declared.pending.Pending.{Pending}
use Rattle.chi_rnline.specs.Rn.{Rn}
use Rattle.chi_line.specs.LineState.{LineState}
use Rattle.chi_line.specs.declared.view.CopyView.{CopyView}
use Rattle.chi_line.specs.declared.view.LineView.{LineView}

abbrev pub copy_shown : Rn → CopyView
copy_shown rn = record { state = rn.state; words = rn.words }

abbrev pub pending_shown : Rn → Option Pending
pending_shown rn = rn.pending

-- the plain data of a line, with the values last stored to its words
abbrev pub line_view : LineState → List ℕ → LineView
line_view s last = record {
  copies = map copy_shown s.requesters;
  pending = map pending_shown s.requesters;
  memory = s.home.memory;
  named = s.home.filter.named;
  unique = s.home.filter.unique;
  owner = s.home.filter.owner;
  serving = s.home.serving;
  awaited = s.home.awaited;
  waiting = s.home.waiting;
  flits = s.flits;
  last = last;
}
