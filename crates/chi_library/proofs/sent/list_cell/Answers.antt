-- One flit is the first of the array, or there is none.
use Rattle.std.proofs.Common.{List, slice_set, refl}
use Rattle.chi_slice.specs.Words.{cell_of}
use Rattle.chi_library.specs.declared.flits.ChiSent.{ChiSent}
use Rattle.chi_library.proofs.SentLists.{listed_cell}
use Rattle.chi_library.proofs.sent.list_cell.Goals as goal

pub returns : goal.returns
returns c =
    let now : List ChiSent = slice_set c.args.sent.now 0 c.put_cell.new.told in
    listed_cell _ c.args.agent (cell_of c.args.cells.now c.args.channel) c.put_cell.new.told c.put_cell.result c.args.sent.now now c.told-sent refl c.put_cell.ensures.told c.put_cell.ensures.count
