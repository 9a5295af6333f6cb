-- Each kind has its own byte.
use Rattle.std.proofs.Common.{sym, ap, ◌∙◌}
use Rattle.chi_observer.specs.declared.flits.Due.TheVariants.{Completion, Resending, SureCompletion, WriteData}
use Rattle.chi_copies.proofs.DueBytes.{completion_is, resending_is, sure_completion_is, write_data_is}
use Rattle.chi_copies.proofs.dues.DueCode.encode.Goals as goal

pub returns-in-Completion : goal.returns-in-Completion
returns-in-Completion c = completion_is c.kind_number.result c.kind_number.ensures.low ∙ ap Completion c.kind_number.ensures.of ∙ sym c.in-Completion.is

pub returns-in-Resending : goal.returns-in-Resending
returns-in-Resending c = resending_is c.kind_number-in-Resending.result c.kind_number-in-Resending.ensures.low ∙ ap Resending c.kind_number-in-Resending.ensures.of ∙ sym c.in-Resending.is

pub returns-in-SureCompletion : goal.returns-in-SureCompletion
returns-in-SureCompletion c = sure_completion_is c.kind_number-in-SureCompletion.result c.kind_number-in-SureCompletion.ensures.low ∙ ap SureCompletion c.kind_number-in-SureCompletion.ensures.of ∙ sym c.in-SureCompletion.is

pub returns-in-WriteData : goal.returns-in-WriteData
returns-in-WriteData c = write_data_is c.kind_number-in-WriteData.result c.kind_number-in-WriteData.ensures.low ∙ ap WriteData c.kind_number-in-WriteData.ensures.of ∙ sym c.in-WriteData.is
