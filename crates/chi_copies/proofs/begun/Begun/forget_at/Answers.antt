-- It is what is kept behind a flit from before.
use Rattle.std.proofs.Common.{rules, arith, ◌≡◌, ◌<◌, length, ap, ◌∙◌}
use Rattle.std.specs.Prelude.{replicate, ◌&&◌, true}
use Rattle.chi_copies.specs.Begun.{may_be_left}
use Rattle.chi_copies.specs.BegunLines.{code_at}
use Rattle.chi_copies.specs.Dues.{due_is}
use Rattle.chi_copies.specs.Sets.{members}
use Rattle.chi_copies.proofs.Lines.{all_same}
use Rattle.chi_copies.proofs.BegunLines.{forgotten_by}
use Rattle.chi_copies.proofs.begun.Begun.forget_at.Goals as goal

pub returns : goal.returns
returns c =
    let s = c.args.self.now in let n = c.from-at.result in
    let low : n < 32 = search (rules, arith) in
    let sets : length s.may ≡ 32 = search (rules, arith) in
    let others : length c.others_may-shown.result ≡ 32 = search (rules, arith) in
    let sures : length s.sure ≡ 32 = search (rules, arith) in
    forgotten_by s c.args.agent n c.may_be_left-left.result c.some_apart-apart.result c.and.result c.others_may-shown.result (replicate 32 true)
    c.from-at.ensures low sets others sures c.others_may-shown.ensures c.some_apart-apart.ensures
    (λ h. c.may_be_left-left.ensures h ∙ ap (λ d. may_be_left d h) (c.due.ensures ∙ ap due_is (c.code_at.ensures ∙ ap (λ k. code_at s.due k) c.from-at.ensures)))
    (λ h. c.and.ensures h ∙ ap (λ x. members c.may_be_left-left.result h && x) (c.others.ensures h))
    (λ m. all_same 32 m true)
