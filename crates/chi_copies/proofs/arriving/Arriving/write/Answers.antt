-- Late, or not.
use Rattle.std.proofs.Common.{sym, ap, ◌∙◌}
use Rattle.std.specs.Prelude.{if◌then◌else◌}
use Rattle.chi_copies.specs.Arriving.{answered, data_come, forgot}
use Rattle.chi_copies.specs.ArrivingLines.{received}
use Rattle.chi_copies.proofs.arriving.Arriving.write.Goals as goal

pub returns-then-late-clause-after : goal.returns-then-late-clause-after
returns-then-late-clause-after c = λ h. c.forget.ensures.after h ∙ ap (λ b. if b then forgot (received c.args.self.now) c.args.flit else answered (received c.args.self.now) c.args.flit) (sym c.if-late.true)

pub returns-else-late-clause-taken : goal.returns-else-late-clause-taken
returns-else-late-clause-taken c = c.reply.ensures.taken ∙ ap (λ b. data_come (received c.args.self.now) b c.args.flit) (sym c.if-late.false)

pub returns-else-late-clause-after : goal.returns-else-late-clause-after
returns-else-late-clause-after c = λ h. c.reply.ensures.after h ∙ ap (λ b. if b then forgot (received c.args.self.now) c.args.flit else answered (received c.args.self.now) c.args.flit) (sym c.if-late.false)
