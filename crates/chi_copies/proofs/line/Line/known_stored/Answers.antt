-- It is what is known of each of its copies that a store may be to.
use Rattle.std.proofs.Common.{sym, ◌∙◌}
use Rattle.chi_copies.specs.declared.tests.Test.TheVariants.{StorableEmpty, StorableNewer}
use Rattle.chi_copies.specs.Observed.{home_at, of_eight}
use Rattle.chi_copies.specs.Lines.{known_at}
use Rattle.chi_copies.proofs.Lines.{tested, pick_none, pick_news, pick_home}
use Rattle.chi_copies.proofs.line.Line.known_stored.Goals as goal

pub returns-then-empty : goal.returns-then-empty
returns-then-empty c = c.none_known.ensures ∙ pick_none _ _ (known_at c.args.self.now.news) (of_eight (home_at c.args.self.now.home))
    (sym (tested c.args.self.now c.args.agent StorableEmpty c.may_of-may.result c.due_of-due.result c.any-empty.result c.may_of-may.ensures c.due_of-due.ensures c.any-empty.ensures) ∙ c.if-empty.true)

pub returns-then-newer : goal.returns-then-newer
returns-then-newer c = pick_news _ _ (known_at c.args.self.now.news) (of_eight (home_at c.args.self.now.home))
    (sym (tested c.args.self.now c.args.agent StorableEmpty c.may_of-may.result c.due_of-due.result c.any-empty.result c.may_of-may.ensures c.due_of-due.ensures c.any-empty.ensures) ∙ c.if-empty.false)
    (sym (tested c.args.self.now c.args.agent StorableNewer c.may_of-may.result c.due_of-due.result c.any-newer.result c.may_of-may.ensures c.due_of-due.ensures c.any-newer.ensures) ∙ c.if-newer.true)

pub returns-else-newer : goal.returns-else-newer
returns-else-newer c = c.home_words.ensures ∙ pick_home _ _ (known_at c.args.self.now.news) (of_eight (home_at c.args.self.now.home))
    (sym (tested c.args.self.now c.args.agent StorableEmpty c.may_of-may.result c.due_of-due.result c.any-empty.result c.may_of-may.ensures c.due_of-due.ensures c.any-empty.ensures) ∙ c.if-empty.false)
    (sym (tested c.args.self.now c.args.agent StorableNewer c.may_of-may.result c.due_of-due.result c.any-newer.result c.may_of-may.ensures c.due_of-due.ensures c.any-newer.ensures) ∙ c.if-newer.false)
