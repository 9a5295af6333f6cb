-- What a handle of a slice owns: nothing at null, or the slice as its box owns it (docs/LIBRARY.md, "Handles").
use Rattle.std.specs.Prelude.{Option, Some, None}
use base.Fml.{Fml, fex, ftrue}
use base.Stored.{Coded}
use denote.RattleType.{RattleType}
use denote.RawPtr.{Ptr, block_ptr, null_ptr}
use Rattle.std.specs.Coded.{coded_option}
use Rattle.std.specs.Box.Ownership.{box_owns}
use Rattle.std.specs.Global.{Global}
use Rattle.std.specs.contracts.alloc.Global as heap
use Rattle.std.specs.contracts.impls.GlobalAllocator.TheImpl.{ghosts}
use Rattle.chi_slice.specs.Slice.{SliceState}
use Rattle.chi_slice.specs.contracts.slice.Slice as slice

abbrev pub slice_row : RattleType
slice_row = slice.the_row heap.the_row ghosts

abbrev pub slice_code : Coded (Option SliceState)
slice_code = coded_option slice_row.coded

-- at null there is no slice
abbrev pub slice_ownership : Global → Ptr → Option SliceState → Fml
slice_ownership alloc null_ptr None = ftrue
slice_ownership alloc (block_ptr b o) None = fex ⊥ (λ _. ftrue)
slice_ownership alloc p (Some s) = box_owns (ghosts.dealloc_token alloc) slice_row p s
