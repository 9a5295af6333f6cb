-- Each kind of flit.
use Rattle.std.proofs.Common.{sym, ap, ◌∙◌}
use Rattle.chi_copies.specs.Arriving.{received_by, received_then}
use Rattle.chi_copies.specs.ArrivingLines.{received}
use Rattle.chi_copies.proofs.arriving.Arriving.receive.Goals as goal

pub returns-in-Request-clause-taken : goal.returns-in-Request-clause-taken
returns-in-Request-clause-taken c = c.request.ensures.taken ∙ ap (λ a. received_by a (received c.args.self.now) c.args.late c.args.flit) (sym c.in-Request.is)

pub returns-in-Request-clause-after : goal.returns-in-Request-clause-after
returns-in-Request-clause-after c = λ h. c.request.ensures.after h ∙ ap (λ a. received_then a (received c.args.self.now) c.args.late c.args.flit) (sym c.in-Request.is)

pub returns-in-Resend-clause-taken : goal.returns-in-Resend-clause-taken
returns-in-Resend-clause-taken c = c.request-in-Resend.ensures.taken ∙ ap (λ a. received_by a (received c.args.self.now) c.args.late c.args.flit) (sym c.in-Resend.is)

pub returns-in-Resend-clause-after : goal.returns-in-Resend-clause-after
returns-in-Resend-clause-after c = λ h. c.request-in-Resend.ensures.after h ∙ ap (λ a. received_then a (received c.args.self.now) c.args.late c.args.flit) (sym c.in-Resend.is)

pub returns-in-SnpResp-clause-taken : goal.returns-in-SnpResp-clause-taken
returns-in-SnpResp-clause-taken c = c.reply.ensures.taken ∙ ap (λ a. received_by a (received c.args.self.now) c.args.late c.args.flit) (sym c.in-SnpResp.is)

pub returns-in-SnpResp-clause-after : goal.returns-in-SnpResp-clause-after
returns-in-SnpResp-clause-after c = λ h. c.reply.ensures.after h ∙ ap (λ a. received_then a (received c.args.self.now) c.args.late c.args.flit) (sym c.in-SnpResp.is)

pub returns-in-CopyBackWrData-clause-after : goal.returns-in-CopyBackWrData-clause-after
returns-in-CopyBackWrData-clause-after c = λ h. c.write.ensures.after h ∙ ap (λ a. received_then a (received c.args.self.now) c.args.late c.args.flit) (sym c.in-CopyBackWrData.is)

pub returns-in-NonCopyBackWrData-clause-after : goal.returns-in-NonCopyBackWrData-clause-after
returns-in-NonCopyBackWrData-clause-after c = λ h. c.write-in-NonCopyBackWrData.ensures.after h ∙ ap (λ a. received_then a (received c.args.self.now) c.args.late c.args.flit) (sym c.in-NonCopyBackWrData.is)
