-- Credit types, cache lines, and how numbers are written (docs/TRACES.md, "Traces").
use Rattle.std.specs.Prelude.{ℕ, ◌*◌, ◌/◌, false, List, Option, Some, None, if◌then◌else◌, nat_lt}
use Rattle.std.specs.Fmt.{digits}
use Rattle.chi_issue_b.specs.declared.ids.PcrdType.{PcrdType}
use Rattle.chi_issue_b.specs.declared.ids.CacheLine.{CacheLine}

-- a number as in a trace
abbrev pub hexadecimal : ℕ → List ℕ
hexadecimal number = digits 16 false number

-- a credit type has four bits
abbrev pub credit_type_numbered : ℕ → Option PcrdType
credit_type_numbered number = if nat_lt number 16 then Some (record { 0 = number }) else None

-- the cache line of an address: 64 bytes from a multiple of 64 on
abbrev pub line_at : ℕ → CacheLine
line_at address = record { address = address / 64 * 64 }
