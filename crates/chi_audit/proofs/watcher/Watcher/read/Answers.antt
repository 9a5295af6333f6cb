use Rattle.std.proofs.Common.{rules, ◌∙◌, sym, ap, subst, map, List, slice_set}
use Rattle.chi_audit.specs.Tallies.{ReaderState, reader_cell, IsRead}
use Rattle.chi_audit.proofs.Readers.{same_cell, read_at, low_at}
use Rattle.chi_audit.proofs.watcher.Watcher.read.Goals as goal

pub read-requires : goal.read-requires
read-requires g c =
    let cells = ap (λ (rs : List ReaderState). map reader_cell rs) c.self.view_is ∙ c.requires.cells in
    let low = low_at c.self.inside.readers.items c.args.tallies.now c.from-place.result c.args.agent.0 cells (search rules) c.requires.agent in
    same_cell c.self.inside.readers.items c.tallies.inside.cells.items c.from-place.result _ _ low c.index_mut.ensures.value c.index.ensures
    (cells ∙ sym c.tallies.view_is)

pub returns : goal.returns
returns g c =
    let cells = ap (λ (rs : List ReaderState). map reader_cell rs) c.self.view_is ∙ c.requires.cells in
    let low = low_at c.self.inside.readers.items c.args.tallies.now c.from-place.result c.args.agent.0 cells (search rules) c.requires.agent in
    subst (λ (rs : List ReaderState). IsRead rs (slice_set c.self.inside.readers.items c.from-place.result c.read.new.self) c.args.agent.0 c.read.result) c.self.view_is
    (read_at c.self.inside.readers.items c.from-place.result c.args.agent.0 _ _ _ (search rules) low c.index_mut.ensures.value c.read.ensures)
