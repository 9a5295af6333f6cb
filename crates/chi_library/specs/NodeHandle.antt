-- What a handle of a node owns: nothing at null, or the node as its box owns it (docs/LIBRARY.md, "Handles").
use Rattle.std.specs.Prelude.{Option, Some, None}
use base.Fml.{Fml, fex, ftrue}
use base.Stored.{Coded}
use denote.RattleType.{RattleType}
use denote.RawPtr.{Ptr, block_ptr, null_ptr}
use Rattle.std.specs.Coded.{coded_option}
use Rattle.std.specs.Box.Ownership.{box_owns}
use Rattle.std.specs.Global.{Global}
use Rattle.std.specs.contracts.alloc.Global as heap
use Rattle.std.specs.contracts.impls.GlobalAllocator.TheImpl.{ghosts}
use Rattle.chi_node.specs.System.{SystemState}
use Rattle.chi_node.specs.contracts.system.System as system

abbrev pub node_row : RattleType
node_row = system.the_row heap.the_row ghosts

abbrev pub node_code : Coded (Option SystemState)
node_code = coded_option node_row.coded

-- at null there is no node
abbrev pub node_ownership : Global → Ptr → Option SystemState → Fml
node_ownership alloc null_ptr None = ftrue
node_ownership alloc (block_ptr b o) None = fex ⊥ (λ _. ftrue)
node_ownership alloc p (Some y) = box_owns (ghosts.dealloc_token alloc) node_row p y
