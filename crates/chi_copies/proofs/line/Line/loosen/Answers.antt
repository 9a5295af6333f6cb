-- Its copies are those behind hidden steps.
use Rattle.std.proofs.Common.{rules, arith, ◌≡◌, ℕ, ◌<◌, length, subst, sym}
use Rattle.chi_copies.proofs.Lines.{loosened}
use Rattle.chi_copies.proofs.line.Line.loosen.Goals as goal

pub returns-clause-after : goal.returns-clause-after
returns-clause-after c =
    let s = c.args.self.now in let n = c.from.result in
    let low : n < 32 = search (rules, arith) in
    let copies : length s.may ≡ 32 = search (rules, arith) in
    loosened s c.args.agent n c.due_of-due.result c.may_of-may.result c.hidden.result c.from.ensures (subst (λ (k : ℕ). n < k) (sym copies) low) c.due_of-due.ensures c.may_of-may.ensures c.hidden.ensures
