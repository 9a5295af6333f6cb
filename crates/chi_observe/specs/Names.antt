-- How nodes, cache lines, requests and snoops are written (docs/OBSERVER.md, "What is printed").
use Rattle.std.specs.Prelude.{ℕ, ◌*◌, min, false, List, codes}
use Rattle.std.specs.Fmt.{digits}
use Rattle.chi_ids.specs.declared.keys.CacheLine.{CacheLine}
use Rattle.chi_observer.specs.declared.kinds.Kind.{Kind}
use Rattle.chi_observer.specs.declared.kinds.Kind.TheVariants as kinds
use Rattle.chi_observer.specs.declared.kinds.Snoop.{Snoop}
use Rattle.chi_observer.specs.declared.kinds.Snoop.TheVariants as snoops
use Rattle.chi_trace.specs.declared.fields.NodeId.{NodeId}

-- a number as in a trace, in hexadecimal
abbrev pub hexadecimal : ℕ → List ℕ
hexadecimal number = digits 16 false number

abbrev pub node_text : NodeId → List ℕ
node_text node = hexadecimal node.0

-- a cache line by its address, which has 64 bits
abbrev pub address_of : CacheLine → ℕ
address_of line = min (line.0 * 64) 18446744073709551615

abbrev pub line_text : CacheLine → List ℕ
line_text line = hexadecimal (address_of line)

-- the opcodes
abbrev pub kind_text : Kind → List ℕ
kind_text kinds.ReadNotSharedDirty = codes "ReadNotSharedDirty"
kind_text kinds.ReadShared = codes "ReadShared"
kind_text kinds.ReadClean = codes "ReadClean"
kind_text kinds.ReadOnce = codes "ReadOnce"
kind_text kinds.ReadUnique = codes "ReadUnique"
kind_text kinds.CleanUnique = codes "CleanUnique"
kind_text kinds.MakeUnique = codes "MakeUnique"
kind_text kinds.CleanShared = codes "CleanShared"
kind_text kinds.CleanInvalid = codes "CleanInvalid"
kind_text kinds.MakeInvalid = codes "MakeInvalid"
kind_text kinds.Evict = codes "Evict"
kind_text kinds.WriteBackFull = codes "WriteBackFull"
kind_text kinds.WriteCleanFull = codes "WriteCleanFull"
kind_text kinds.WriteEvictFull = codes "WriteEvictFull"
kind_text kinds.WriteUniqueFull = codes "WriteUniqueFull"

abbrev pub snoop_text : Snoop → List ℕ
snoop_text snoops.SnpOnce = codes "SnpOnce"
snoop_text snoops.SnpClean = codes "SnpClean"
snoop_text snoops.SnpShared = codes "SnpShared"
snoop_text snoops.SnpNotSharedDirty = codes "SnpNotSharedDirty"
snoop_text snoops.SnpCleanShared = codes "SnpCleanShared"
snoop_text snoops.SnpUnique = codes "SnpUnique"
snoop_text snoops.SnpCleanInvalid = codes "SnpCleanInvalid"
snoop_text snoops.SnpMakeInvalid = codes "SnpMakeInvalid"
