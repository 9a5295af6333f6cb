-- It is what is kept right behind the flit.
use Rattle.std.proofs.Common.{rules, arith, ◌≡◌, ◌<◌, length, ap, ◌∙◌}
use Rattle.std.specs.Prelude.{◌&&◌, Some}
use Rattle.chi_observer.specs.declared.kinds.Snoop.TheVariants.{SnpOnce}
use Rattle.chi_observer.specs.Rules.{is_due}
use Rattle.chi_copies.proofs.BegunLines.{granted_by}
use Rattle.chi_copies.proofs.begun.Begun.grant.Goals as goal

pub returns-clause-after : goal.returns-clause-after
returns-clause-after c =
    let s = c.args.self.now in let n = c.from-at.result in
    let low : n < 32 = search (rules, arith) in
    let dues : length s.due ≡ 32 = search (rules, arith) in
    let snoops : length s.snooped ≡ 32 = search (rules, arith) in
    let sets : length c.args.may ≡ 32 = search (rules, arith) in
    let sures : length s.sure ≡ 32 = search (rules, arith) in
    let lefts : length s.left ≡ 32 = search (rules, arith) in
    granted_by s c.args.flit n c.encode.result c.due_of-due.result c.snooped_granted.result c.snooped_of-snooped.result c.duty_granted-self.result c.is_shown-shows.result c.args.sure c.is_left_behind-left.result c.args.own c.args.may c.home_then-self.result s.shown
    c.from-at.ensures low dues snoops sets sures lefts
    c.due_of-due.ensures c.snooped_of-snooped.ensures (c.encode.ensures ∙ c.due_granted.ensures) c.snooped_granted.ensures c.duty_granted-self.ensures c.is_shown-shows.ensures
    (c.is_left_behind-left.ensures ∙ ap (λ w. w && is_due c.args.flit.grant c.due_of-due.result (Some SnpOnce)) c.flag_at-was.ensures) c.requires.sure c.requires.own c.requires.may c.home_then-self.ensures
