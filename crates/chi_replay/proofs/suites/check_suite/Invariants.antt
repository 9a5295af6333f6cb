-- What was told so far is of the files that were taken.
use Rattle.std.proofs.Common.{◌≡◌, ◌+◌, length, map, string_bytes, take}
use Rattle.chi_replay.specs.Suites.{given_of}
use Rattle.chi_replay.proofs.SuiteLemmas.{StandsAt, state_in}
use Rattle.chi_replay.proofs.suites.check_suite.Given as goal

abbrev pub invariant-loop-file : goal.invariant-loop-file
invariant-loop-file g l = record {
  stands : StandsAt l.form (length l.files) (map given_of (take l.file-index l.files)) (state_in l.run.text.items (string_bytes l.run.faults) l.run.fault l.run.counts);
  number_is : l.number ≡ l.file-index + 1;
}
