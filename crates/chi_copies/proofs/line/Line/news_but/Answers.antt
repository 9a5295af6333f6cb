-- Words stay where they aren't forgotten.
use Rattle.std.proofs.Common.{sym, ◌∙◌}
use Rattle.chi_copies.specs.Lines.{known_at}
use Rattle.chi_copies.proofs.Lines.{forgotten_none, told_none, news_stay}
use Rattle.chi_copies.proofs.line.Line.news_but.Goals as goal

pub returns-then-forgets : goal.returns-then-forgets
returns-then-forgets c = c.none_known.ensures ∙ forgotten_none _ _ (known_at c.args.self.now.news) (sym c.forgets.ensures ∙ c.if-forgets.true)

pub returns-then-tells_words : goal.returns-then-tells_words
returns-then-tells_words c = c.none_known-then-tells_words.ensures ∙ told_none _ _ (known_at c.args.self.now.news) (sym c.tells_words.ensures ∙ c.if-tells_words.true)

pub returns-else-tells_words : goal.returns-else-tells_words
returns-else-tells_words c = news_stay _ _ (known_at c.args.self.now.news) (sym c.forgets.ensures ∙ c.if-forgets.false) (sym c.tells_words.ensures ∙ c.if-tells_words.false)
