-- The words stay, or are those known then.
use Rattle.std.proofs.Common.{sym, ap, ◌∙◌}
use Rattle.chi_copies.specs.Images.{keeps_words}
use Rattle.chi_copies.specs.Lines.{known_at, observed}
use Rattle.chi_copies.specs.Observed.{forgets, known_before, stores_from}
use Rattle.chi_copies.proofs.Plain.{words_kept}
use Rattle.chi_copies.proofs.line.Line.learn.Goals as goal

pub returns-then-keeps_words-clause-news : goal.returns-then-keeps_words-clause-news
returns-then-keeps_words-clause-news c = words_kept c.args.flit.act (forgets (observed c.args.self.now) c.args.flit) (known_before (observed c.args.self.now) c.args.flit.agent.0 (stores_from (observed c.args.self.now) c.args.flit)) (known_at c.args.self.now.news)
    (sym (c.keeps_words.ensures ∙ ap (keeps_words c.args.flit.act) c.forgets-forgets.ensures) ∙ c.if-keeps_words.true)
