-- What a handle of a monitor owns: nothing at null, or the monitor as its box owns it (docs/LIBRARY.md, "Handles").
use Rattle.std.specs.Prelude.{Option, Some, None}
use base.Fml.{Fml, fex, ftrue}
use base.Stored.{Coded}
use denote.RattleType.{RattleType}
use denote.RawPtr.{Ptr, block_ptr, null_ptr}
use Rattle.std.specs.Coded.{coded_option}
use Rattle.std.specs.Box.Ownership.{box_owns}
use Rattle.std.specs.Global.{Global}
use Rattle.std.specs.contracts.alloc.Global as heap
use Rattle.std.specs.contracts.impls.GlobalAllocator.TheImpl.{ghosts}
use Rattle.chi_monitor.specs.Watched.{MonitorState}
use Rattle.chi_monitor.specs.contracts.monitor.Monitor as monitor

abbrev pub monitor_row : RattleType
monitor_row = monitor.the_row heap.the_row ghosts

abbrev pub monitor_code : Coded (Option MonitorState)
monitor_code = coded_option monitor_row.coded

-- at null there is no monitor
abbrev pub monitor_ownership : Global → Ptr → Option MonitorState → Fml
monitor_ownership alloc null_ptr None = ftrue
monitor_ownership alloc (block_ptr b o) None = fex ⊥ (λ _. ftrue)
monitor_ownership alloc p (Some y) = box_owns (ghosts.dealloc_token alloc) monitor_row p y
