use Rattle.std.proofs.Common.{◌≡◌, drop}
use Rattle.chi_lanes.specs.Columns.{columns_of}
use Rattle.chi_log.proofs.malformed.word_at.Given as goal

-- so many words are passed
abbrev pub invariant-loop-passed : goal.invariant-loop-passed
invariant-loop-passed l = l.words ≡ drop l._passed (columns_of l.line)
