-- Lines of memory (docs/TRACES.md, "Traces").
use Rattle.std.specs.Prelude.{◌/◌}
use Rattle.chi_trace.specs.declared.fields.Address.{Address}
use Rattle.chi_resolution.specs.declared.lines.CacheLine.{CacheLine}

-- a line has 64 bytes
abbrev pub line_of : Address → CacheLine
line_of address = record { 0 = address.0 / 64 }
