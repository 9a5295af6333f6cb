-- What was read is enough of the input's file.
use Rattle.std.proofs.Common.{string_bytes}
use Rattle.chi_script.specs.Files.{file_of}
use Rattle.chi_script.proofs.FileLemmas.{front_enough}
use Rattle.chi_replay.proofs.Enough.{fault_of_known, text_of_known}
use Rattle.chi_replay.proofs.replays.text_of_input.Goals as goal

pub returns-clause-ok : goal.returns-clause-ok
returns-clause-ok g c = text_of_known (g.I.Input.left c.args.input.now) c.in_ok-bytes.bytes.items string_bytes c.text_of.result c.in_ok-bytes.ensures.front (rw (← c.deref.ensures.value) c.text_of.ensures.ok)

pub returns-clause-err : goal.returns-clause-err
returns-clause-err g c = fault_of_known file_of front_enough (g.I.Input.left c.args.input.now) _ _ c.in_ok-bytes.bytes.items c.text_of.result c.in_ok-bytes.ensures.front (rw (← c.deref.ensures.value) c.text_of.ensures.err)
