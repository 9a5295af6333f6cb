-- It is what each copy that may have sent it leaves.
use Rattle.std.proofs.Common.{refl, sym, ap, ◌∙◌}
use Rattle.std.specs.Prelude.{◌&&◌, true}
use Rattle.chi_observer.specs.declared.flits.Act.TheVariants.{Load, Store}
use Rattle.chi_copies.specs.Copies.{image, leaves, same_held}
use Rattle.chi_copies.specs.Images.{is_plain, sent_from, written}
use Rattle.chi_copies.specs.Rules.{acts}
use Rattle.chi_copies.specs.Sets.{members}
use Rattle.chi_copies.proofs.Images.{asked_plain, resent_plain, acknowledged_plain, replied_plain, written_plain, whole_plain, never_plain}
use Rattle.chi_copies.proofs.sends.plain.Goals as goal

pub returns-in-SnpResp : goal.returns-in-SnpResp
returns-in-SnpResp c = λ z h. c.replied.ensures h ∙ replied_plain z c.args.goes c.args.due (members c.args.may) (members c.and-from.result) h c.in-SnpResp.answer (λ k. c.and-from.ensures k ∙ ap (λ b. members c.args.may k && b) (c.sent_from.ensures k ∙ ap (λ a. sent_from a c.args.goes c.args.due k) c.in-SnpResp.is)) ∙ ap (λ a. image (λ k. leaves (acts z a true c.args.goes c.args.due k)) (members c.args.may) h) (sym c.in-SnpResp.is)

pub returns-in-Request : goal.returns-in-Request
returns-in-Request c = λ z h. asked_plain z c.args.goes c.args.due (members c.args.may) (members c.and-from.result) h c.in-Request.field-0 (ap (λ a. is_plain a c.args.due (members c.args.may)) (sym c.in-Request.is) ∙ c.requires) (λ k. c.and-from.ensures k ∙ ap (λ b. members c.args.may k && b) (c.sent_from.ensures k ∙ ap (λ a. sent_from a c.args.goes c.args.due k) c.in-Request.is)) ∙ ap (λ a. image (λ k. leaves (acts z a true c.args.goes c.args.due k)) (members c.args.may) h) (sym c.in-Request.is)

pub returns-in-Resend : goal.returns-in-Resend
returns-in-Resend c = λ z h. resent_plain z c.args.goes c.args.due (members c.args.may) (members c.and-from.result) h c.in-Resend.field-0 (λ k. c.and-from.ensures k ∙ ap (λ b. members c.args.may k && b) (c.sent_from.ensures k ∙ ap (λ a. sent_from a c.args.goes c.args.due k) c.in-Resend.is)) ∙ ap (λ a. image (λ k. leaves (acts z a true c.args.goes c.args.due k)) (members c.args.may) h) (sym c.in-Resend.is)

pub returns-in-CompAck : goal.returns-in-CompAck
returns-in-CompAck c = λ z h. acknowledged_plain z c.args.goes c.args.due (members c.args.may) (members c.and-from.result) h (λ k. c.and-from.ensures k ∙ ap (λ b. members c.args.may k && b) (c.sent_from.ensures k ∙ ap (λ a. sent_from a c.args.goes c.args.due k) c.in-CompAck.is)) ∙ ap (λ a. image (λ k. leaves (acts z a true c.args.goes c.args.due k)) (members c.args.may) h) (sym c.in-CompAck.is)

pub returns-in-CopyBackWrData : goal.returns-in-CopyBackWrData
returns-in-CopyBackWrData c = λ z h. c.written.ensures h ∙ ap (λ up. image (λ k. same_held (written c.in-CopyBackWrData.form up k)) (members c.and-from.result) h) c.gives_up_due.ensures ∙ written_plain z c.args.goes c.args.due (members c.args.may) (members c.and-from.result) h c.in-CopyBackWrData.form (λ k. c.and-from.ensures k ∙ ap (λ b. members c.args.may k && b) (c.sent_from.ensures k ∙ ap (λ a. sent_from a c.args.goes c.args.due k) c.in-CopyBackWrData.is)) ∙ ap (λ a. image (λ k. leaves (acts z a true c.args.goes c.args.due k)) (members c.args.may) h) (sym c.in-CopyBackWrData.is)

pub returns-in-NonCopyBackWrData : goal.returns-in-NonCopyBackWrData
returns-in-NonCopyBackWrData c = λ z h. c.led.ensures h ∙ whole_plain z c.args.goes c.args.due (members c.args.may) (members c.and-from.result) h (λ k. c.and-from.ensures k ∙ ap (λ b. members c.args.may k && b) (c.sent_from.ensures k ∙ ap (λ a. sent_from a c.args.goes c.args.due k) c.in-NonCopyBackWrData.is)) ∙ ap (λ a. image (λ k. leaves (acts z a true c.args.goes c.args.due k)) (members c.args.may) h) (sym c.in-NonCopyBackWrData.is)

pub returns-in-Load : goal.returns-in-Load
returns-in-Load c = λ z h. never_plain z c.args.goes c.args.due (members c.args.may) (members c.and-from.result) h (Load c.in-Load.field-0) refl (ap (λ a. is_plain a c.args.due (members c.args.may)) (sym c.in-Load.is) ∙ c.requires) ∙ ap (λ a. image (λ k. leaves (acts z a true c.args.goes c.args.due k)) (members c.args.may) h) (sym c.in-Load.is)

pub returns-in-Store : goal.returns-in-Store
returns-in-Store c = λ z h. never_plain z c.args.goes c.args.due (members c.args.may) (members c.and-from.result) h (Store c.in-Store.field-0) refl (ap (λ a. is_plain a c.args.due (members c.args.may)) (sym c.in-Store.is) ∙ c.requires) ∙ ap (λ a. image (λ k. leaves (acts z a true c.args.goes c.args.due k)) (members c.args.may) h) (sym c.in-Store.is)
