-- Each is tested as it is then.
use Rattle.std.proofs.Common.{sym, ap, ◌∙◌}
use Rattle.chi_copies.specs.Lines.{may_at, others_may}
use Rattle.chi_copies.specs.Sets.{members}
use Rattle.chi_copies.proofs.Plain.{beside_others}
use Rattle.chi_copies.proofs.line.stands_with.Goals as goal

pub returns-then-tells : goal.returns-then-tells
returns-then-tells c = beside_others c.args.may.now c.args.tells (λ n. members (may_at c.each_shown-shown.result n)) c.args.agent (members c.args.got) c.args.alone c.stands_beside.result
    (λ n h. c.each_shown-shown.ensures n h ∙ ap (λ b. others_may b c.args.may.now n h) (sym c.if-tells.true)) c.stands_beside.ensures

pub returns-else-tells : goal.returns-else-tells
returns-else-tells c = beside_others c.args.may.now c.args.tells (λ n. members (may_at c.args.may.now n)) c.args.agent (members c.args.got) c.args.alone c.stands_beside-else-tells.result
    (λ n h. ap (λ b. others_may b c.args.may.now n h) (sym c.if-tells.false)) c.stands_beside-else-tells.ensures
