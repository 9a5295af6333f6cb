-- What the lines behind the header give is what the file gives.
use Rattle.std.proofs.Common.{string_bytes}
use Rattle.chi_replay.proofs.Lines.{fault_behind, text_behind}
use Rattle.chi_replay.proofs.replays.text_of.Goals as goal

pub returns-in-Ok-clause-ok : goal.returns-in-Ok-clause-ok
returns-in-Ok-clause-ok g c = text_behind c.args.bytes.now c.in-Ok.head.1.now c.in-Ok.head.0 string_bytes c.text_of_lines.result c.in-Ok.ensures.lines c.text_of_lines.ensures.ok

pub returns-in-Ok-clause-err : goal.returns-in-Ok-clause-err
returns-in-Ok-clause-err g c = fault_behind c.args.bytes.now c.in-Ok.head.1.now c.in-Ok.head.0 c.text_of_lines.result c.in-Ok.ensures.lines c.text_of_lines.ensures.err
