-- What a handle of an observer owns: nothing at null, or the observer as its box owns it (docs/LIBRARY.md, "Handles").
use Rattle.std.specs.Prelude.{Option, Some, None}
use base.Fml.{Fml, fex, ftrue}
use base.Stored.{Coded}
use denote.RattleType.{RattleType}
use denote.RawPtr.{Ptr, block_ptr, null_ptr}
use Rattle.std.specs.Coded.{coded_option}
use Rattle.std.specs.Box.Ownership.{box_owns}
use Rattle.std.specs.Global.{Global}
use Rattle.std.specs.contracts.alloc.Global as heap
use Rattle.std.specs.contracts.impls.GlobalAllocator.TheImpl.{ghosts}
use Rattle.chi_observe.specs.declared.benches.BenchWatch.{BenchWatch}
use Rattle.chi_observe.specs.contracts.benches.BenchWatch as observer

abbrev pub observer_row : RattleType
observer_row = observer.the_row heap.the_row ghosts

abbrev pub observer_code : Coded (Option (BenchWatch Global))
observer_code = coded_option observer_row.coded

-- at null there is no observer
abbrev pub observer_ownership : Global → Ptr → Option (BenchWatch Global) → Fml
observer_ownership alloc null_ptr None = ftrue
observer_ownership alloc (block_ptr b o) None = fex ⊥ (λ _. ftrue)
observer_ownership alloc p (Some y) = box_owns (ghosts.dealloc_token alloc) observer_row p y
