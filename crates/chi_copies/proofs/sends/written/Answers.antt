-- Each is one copy.
use Rattle.std.proofs.Common.{sym, ap, ◌∙◌}
use Rattle.chi_copies.specs.Copies.{image, same_held}
use Rattle.chi_copies.specs.Images.{written}
use Rattle.chi_copies.specs.Sets.{members}
use Rattle.chi_copies.proofs.Images.{written_none, written_sc, written_sc_kept, written_uc, written_uc_kept, written_ud, written_ud_kept, written_sd, written_sd_kept}
use Rattle.chi_copies.proofs.sends.written.Goals as goal

pub returns-in-I : goal.returns-in-I
returns-in-I c = λ h. c.led.ensures h ∙ written_none c.args.up (members c.args.from) h ∙ ap (λ f. image (λ k. same_held (written f c.args.up k)) (members c.args.from) h) (sym c.in-I.is)

pub returns-then-up : goal.returns-then-up
returns-then-up c = λ h. c.led-then-up.ensures h ∙ written_sc (members c.args.from) h ∙ (λ i. image (λ k. same_held (written (sym c.in-SC.is i) (sym c.if-up.true i) k)) (members c.args.from) h)

pub returns-else-up : goal.returns-else-up
returns-else-up c = λ h. c.led-else-up.ensures h ∙ written_sc_kept (members c.args.from) h ∙ (λ i. image (λ k. same_held (written (sym c.in-SC.is i) (sym c.if-up.false i) k)) (members c.args.from) h)

pub returns-then-up-2 : goal.returns-then-up-2
returns-then-up-2 c = λ h. c.led-then-up-2.ensures h ∙ written_uc (members c.args.from) h ∙ (λ i. image (λ k. same_held (written (sym c.in-UC.is i) (sym c.if-up-2.true i) k)) (members c.args.from) h)

pub returns-else-up-2 : goal.returns-else-up-2
returns-else-up-2 c = λ h. c.led-else-up-2.ensures h ∙ written_uc_kept (members c.args.from) h ∙ (λ i. image (λ k. same_held (written (sym c.in-UC.is i) (sym c.if-up-2.false i) k)) (members c.args.from) h)

pub returns-then-up-3 : goal.returns-then-up-3
returns-then-up-3 c = λ h. c.led-then-up-3.ensures h ∙ written_ud (members c.args.from) h ∙ (λ i. image (λ k. same_held (written (sym c.in-UD.is i) (sym c.if-up-3.true i) k)) (members c.args.from) h)

pub returns-else-up-3 : goal.returns-else-up-3
returns-else-up-3 c = λ h. c.led-else-up-3.ensures h ∙ written_ud_kept (members c.args.from) h ∙ (λ i. image (λ k. same_held (written (sym c.in-UD.is i) (sym c.if-up-3.false i) k)) (members c.args.from) h)

pub returns-then-up-4 : goal.returns-then-up-4
returns-then-up-4 c = λ h. c.led-then-up-4.ensures h ∙ written_sd (members c.args.from) h ∙ (λ i. image (λ k. same_held (written (sym c.in-SD.is i) (sym c.if-up-4.true i) k)) (members c.args.from) h)

pub returns-else-up-4 : goal.returns-else-up-4
returns-else-up-4 c = λ h. c.led-else-up-4.ensures h ∙ written_sd_kept (members c.args.from) h ∙ (λ i. image (λ k. same_held (written (sym c.in-SD.is i) (sym c.if-up-4.false i) k)) (members c.args.from) h)
