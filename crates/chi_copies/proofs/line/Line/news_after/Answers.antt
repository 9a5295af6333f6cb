-- A store's word is known, and those of the copies that it may be to.
use Rattle.std.proofs.Common.{ap, ◌∙◌}
use Rattle.std.specs.Prelude.{Some}
use Rattle.chi_copies.specs.Worlds.{put}
use Rattle.chi_copies.specs.Lines.{observed}
use Rattle.chi_copies.proofs.Lines.{news_stored}
use Rattle.chi_copies.proofs.line.Line.news_after.Goals as goal

pub returns-in-Store : goal.returns-in-Store
returns-in-Store c = c.with_word-in-Store.ensures ∙ ap (put c.in-Store.word.place.0 (Some c.in-Store.word.value)) c.known_stored-known.ensures ∙ news_stored (observed c.args.self.now) c.args.flit c.in-Store.word c.in-Store.is
