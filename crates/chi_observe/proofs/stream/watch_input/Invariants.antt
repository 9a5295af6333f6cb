use Rattle.std.proofs.Common.{◌≡◌, [], ◌∷◌}
use Rattle.chi_script.specs.Files.{lines_of}
use Rattle.chi_observe.specs.Watched.{watched}
use Rattle.chi_observe.proofs.StreamLemmas.{Reads}
use Rattle.chi_observe.proofs.stream.watch_input.Given as goal

abbrev pub invariant-pieces : goal.invariant-pieces
invariant-pieces g l = record {
  told : Reads (g.I.Input.left l.fn.input) (g.I.Input.left l.input) (watched l.fn.watch) (watched l.watch) l.stream.number l.stream.held.items;
  part : lines_of l.stream.held.items ≡ l.stream.held.items ∷ [];
  count : g.I.Input.failures l.input ≡ g.I.Input.failures l.fn.input;
}
