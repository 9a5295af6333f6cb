-- The part of a chart that a command line asks for (docs/FORMATS.md, "The program").
use Rattle.std.specs.Prelude.{Option}
use Rattle.chi_flit.specs.declared.numbers.Line.{Line}
use Rattle.chi_program.specs.declared.options.RowRange.{RowRange}
use Rattle.chi_chart.specs.declared.rows.ChartPart.{ChartPart}

-- this line alone, where one is given, and these rows
abbrev pub part_asked : Option Line → RowRange → ChartPart
part_asked line rows = record { line = line; first = rows.first; last = rows.last }
