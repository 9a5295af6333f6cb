-- So far the finished ones of the first reports are counted.
use Rattle.std.proofs.Common.{◌≡◌, take}
use Rattle.std.specs.List.{count_by}
use Rattle.chi_storm.specs.Verdicts.{is_finished}
use Rattle.chi_storm.proofs.verdict.finished_in.Given as goal

abbrev pub invariant-loop-report : goal.invariant-loop-report
invariant-loop-report l = l.finished ≡ count_by is_finished (take l.report-index l.reports)
