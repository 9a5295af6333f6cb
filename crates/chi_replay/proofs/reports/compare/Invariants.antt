-- What was found so far and what is left is all, and there is a line for each check that is left.
use Rattle.std.proofs.Common.{◌≡◌, ◌+◌, ◌<◌, ◌≤◌, ◌++◌, drop, length, map}
use Rattle.chi_script.specs.Files.{lines_of}
use Rattle.chi_script.specs.Checks.{line_of_check}
use Rattle.chi_replay.specs.Reports.{differing, differing_text, wanted_in}
use Rattle.chi_replay.proofs.reports.compare.Given as goal

abbrev pub invariant-loop-check : goal.invariant-loop-check
invariant-loop-check g l = record {
  lines_so_far : l.found.lines.items ++ differing_text l.front (map line_of_check (drop l.check-index l.checks)) (lines_of l.rest) ≡ differing_text l.front (map line_of_check l.checks) (lines_of l.text);
  wanted : l.found.wanted + length (wanted_in (map line_of_check (drop l.check-index l.checks))) ≡ length (wanted_in (map line_of_check l.checks));
  differing : l.found.differing + length (differing (map line_of_check (drop l.check-index l.checks)) (lines_of l.rest)) ≡ length (differing (map line_of_check l.checks) (lines_of l.text));
  lines : length (drop l.check-index l.checks) < length (lines_of l.rest);
  few_wanted : l.found.wanted ≤ l.check-index;
  few_differing : l.found.differing ≤ l.check-index;
}
