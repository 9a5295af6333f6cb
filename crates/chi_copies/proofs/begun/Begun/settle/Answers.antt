-- It is what is kept behind hidden steps.
use Rattle.std.proofs.Common.{rules, arith, ◌≡◌, ◌<◌, length, refl}
use Rattle.chi_copies.specs.BegunLines.{sure_of, copies_at}
use Rattle.chi_copies.proofs.BegunLines.{settled_by}
use Rattle.chi_copies.proofs.begun.Begun.settle.Goals as goal

pub returns : goal.returns
returns c =
    let s = c.args.self.now in let n = c.from-at.result in
    let low : n < 32 = search (rules, arith) in
    let sures : length c.sure_then-sure.result ≡ 32 = search (rules, arith) in
    let sets : length c.may_then-may.result ≡ 32 = search (rules, arith) in
    settled_by s c.args.agent n c.args.issuer (sure_of s.sure n) (copies_at s.may n) c.sure_then-sure.result c.may_then-may.result c.shown_then-self.result
    c.from-at.ensures low sures sets refl refl c.sure_then-sure.ensures c.may_then-may.ensures c.shown_then-self.ensures
