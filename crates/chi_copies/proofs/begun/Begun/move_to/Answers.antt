-- It is what is kept right behind the flit.
use Rattle.std.proofs.Common.{rules, arith, ◌≡◌, ◌<◌, length, ap, ◌∙◌}
use Rattle.std.specs.Prelude.{◌&&◌, not}
use Rattle.chi_copies.specs.Begun.{asks}
use Rattle.chi_copies.proofs.BegunLines.{moved_by}
use Rattle.chi_copies.proofs.begun.Begun.move_to.Goals as goal

pub returns-clause-after : goal.returns-clause-after
returns-clause-after c =
    let s = c.args.self.now in let n = c.from-at.result in
    let low : n < 32 = search (rules, arith) in
    let dues : length s.due ≡ 32 = search (rules, arith) in
    let snoops : length s.snooped ≡ 32 = search (rules, arith) in
    let sets : length c.args.may ≡ 32 = search (rules, arith) in
    let sures : length s.sure ≡ 32 = search (rules, arith) in
    let askeds : length s.asked ≡ 32 = search (rules, arith) in
    moved_by s c.args.flit n c.encode.result c.due_in-due.result c.snooped_after.result c.duty_after-self.result c.tells_words-tells.result c.args.sure c.is_asked_behind-asked.result c.args.own c.args.may c.home_then-self.result s.shown
    c.from-at.ensures low dues snoops sets sures askeds
    c.due_in-due.ensures (c.is_asked_behind-asked.ensures ∙ ap (λ w. w && not (asks c.args.flit.act)) c.flag_at-was.ensures) (c.encode.ensures ∙ c.due_behind.ensures)
    c.snooped_after.ensures c.duty_after-self.ensures c.tells_words-tells.ensures c.requires.sure c.requires.own c.requires.may c.home_then-self.ensures
