-- Of the code alone, no public promise cites it: a node that commands are played on, as the table of the
-- commands sees it (docs/FORMATS.md, "Replay files").
use Rattle.std.specs.Prelude.{List, map}
use Rattle.chi_script.specs.declared.commands.Command.{Command}
use Rattle.chi_node.specs.Words.{PortView}
use Rattle.chi_node.specs.Outstanding.{outstanding_of}
use Rattle.chi_node.specs.System.{SystemState}
use Rattle.chi_replay.specs.declared.replies.Reply.{Reply}
use Rattle.chi_replay.specs.Turns.{TurnAnswer, Machine, Turn, turn}
use Rattle.chi_replay.specs.Texts.{Plays}

-- its state in the table: the slices, and what is outstanding at each requester
abbrev pub machine_of : SystemState → Machine
machine_of y = record { home = y.home; requesters = map outstanding_of y.requesters }

-- the views of its requesters' ports
abbrev pub ports_of : SystemState → List PortView
ports_of y = map (λ r. r.port) y.requesters

-- a turn was played on a node, which went on so, and gave this reply
abbrev pub PlaysOn : Turn → SystemState → SystemState → Reply → Type 0
PlaysOn played y y' reply = (answers : List TurnAnswer) × Plays played (ports_of y) answers reply (machine_of y') (ports_of y')

-- so was the turn of a command
abbrev pub PlaysTurn : Command → SystemState → SystemState → Reply → Type 0
PlaysTurn command y y' reply = PlaysOn (turn (machine_of y) command) y y' reply

-- and what came of it was told
abbrev pub TellsTurn : Command → SystemState → SystemState → (Reply → Type 0) → Type 0
TellsTurn command y y' IsTold = (reply : Reply) × PlaysTurn command y y' reply × IsTold reply
