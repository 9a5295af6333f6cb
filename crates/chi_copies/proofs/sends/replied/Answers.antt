-- Each is one copy, or stays.
use Rattle.std.proofs.Common.{sym, ap, ◌∙◌}
use Rattle.chi_copies.specs.Copies.{image, same_held}
use Rattle.chi_copies.specs.Images.{replied}
use Rattle.chi_copies.specs.Sets.{members}
use Rattle.chi_copies.proofs.Images.{replied_i, replied_sc, replied_uc, replied_datai, replied_datasc, replied_datauc, replied_dataud, replied_datasd, replied_dataipd, replied_datascpd, replied_dataucpd}
use Rattle.chi_copies.proofs.sends.replied.Goals as goal

pub returns-in-SnpRespI : goal.returns-in-SnpRespI
returns-in-SnpRespI c = λ h. c.led.ensures h ∙ replied_i (members c.args.from) h ∙ ap (λ a. image (λ k. same_held (replied a k)) (members c.args.from) h) (sym c.in-SnpRespI.is)

pub returns-in-SnpRespSC : goal.returns-in-SnpRespSC
returns-in-SnpRespSC c = λ h. c.led-in-SnpRespSC.ensures h ∙ replied_sc (members c.args.from) h ∙ ap (λ a. image (λ k. same_held (replied a k)) (members c.args.from) h) (sym c.in-SnpRespSC.is)

pub returns-in-SnpRespUC : goal.returns-in-SnpRespUC
returns-in-SnpRespUC c = λ h. replied_uc (members c.args.from) h ∙ ap (λ a. image (λ k. same_held (replied a k)) (members c.args.from) h) (sym c.in-SnpRespUC.is)

pub returns-in-SnpRespDataI : goal.returns-in-SnpRespDataI
returns-in-SnpRespDataI c = λ h. c.led-in-SnpRespDataI.ensures h ∙ replied_datai (members c.args.from) h ∙ ap (λ a. image (λ k. same_held (replied a k)) (members c.args.from) h) (sym c.in-SnpRespDataI.is)

pub returns-in-SnpRespDataSC : goal.returns-in-SnpRespDataSC
returns-in-SnpRespDataSC c = λ h. c.led-in-SnpRespDataSC.ensures h ∙ replied_datasc (members c.args.from) h ∙ ap (λ a. image (λ k. same_held (replied a k)) (members c.args.from) h) (sym c.in-SnpRespDataSC.is)

pub returns-in-SnpRespDataUC : goal.returns-in-SnpRespDataUC
returns-in-SnpRespDataUC c = λ h. c.led-in-SnpRespDataUC.ensures h ∙ replied_datauc (members c.args.from) h ∙ ap (λ a. image (λ k. same_held (replied a k)) (members c.args.from) h) (sym c.in-SnpRespDataUC.is)

pub returns-in-SnpRespDataUD : goal.returns-in-SnpRespDataUD
returns-in-SnpRespDataUD c = λ h. c.led-in-SnpRespDataUD.ensures h ∙ replied_dataud (members c.args.from) h ∙ ap (λ a. image (λ k. same_held (replied a k)) (members c.args.from) h) (sym c.in-SnpRespDataUD.is)

pub returns-in-SnpRespDataSD : goal.returns-in-SnpRespDataSD
returns-in-SnpRespDataSD c = λ h. c.led-in-SnpRespDataSD.ensures h ∙ replied_datasd (members c.args.from) h ∙ ap (λ a. image (λ k. same_held (replied a k)) (members c.args.from) h) (sym c.in-SnpRespDataSD.is)

pub returns-in-SnpRespDataIPD : goal.returns-in-SnpRespDataIPD
returns-in-SnpRespDataIPD c = λ h. c.led-in-SnpRespDataIPD.ensures h ∙ replied_dataipd (members c.args.from) h ∙ ap (λ a. image (λ k. same_held (replied a k)) (members c.args.from) h) (sym c.in-SnpRespDataIPD.is)

pub returns-in-SnpRespDataSCPD : goal.returns-in-SnpRespDataSCPD
returns-in-SnpRespDataSCPD c = λ h. c.led-in-SnpRespDataSCPD.ensures h ∙ replied_datascpd (members c.args.from) h ∙ ap (λ a. image (λ k. same_held (replied a k)) (members c.args.from) h) (sym c.in-SnpRespDataSCPD.is)

pub returns-in-SnpRespDataUCPD : goal.returns-in-SnpRespDataUCPD
returns-in-SnpRespDataUCPD c = λ h. c.led-in-SnpRespDataUCPD.ensures h ∙ replied_dataucpd (members c.args.from) h ∙ ap (λ a. image (λ k. same_held (replied a k)) (members c.args.from) h) (sym c.in-SnpRespDataUCPD.is)
