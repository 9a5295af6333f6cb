-- No hidden step is possible while something is due.
use Rattle.std.proofs.Common.{ap}
use Rattle.chi_copies.specs.Rules.{may_be_free}
use Rattle.chi_copies.specs.Sets.{members}
use Rattle.chi_copies.proofs.Bits.{hidden_same}
use Rattle.chi_copies.proofs.copies.Copies.hidden.Goals as goal

pub returns-in-Completion : goal.returns-in-Completion
returns-in-Completion c = λ h. hidden_same c.args.stores c.args.due (members c.args.self) h (ap may_be_free c.in-Completion.is)

pub returns-in-SureCompletion : goal.returns-in-SureCompletion
returns-in-SureCompletion c = λ h. hidden_same c.args.stores c.args.due (members c.args.self) h (ap may_be_free c.in-SureCompletion.is)

pub returns-in-WriteData : goal.returns-in-WriteData
returns-in-WriteData c = λ h. hidden_same c.args.stores c.args.due (members c.args.self) h (ap may_be_free c.in-WriteData.is)

pub returns-in-Acknowledgement : goal.returns-in-Acknowledgement
returns-in-Acknowledgement c = λ h. hidden_same c.args.stores c.args.due (members c.args.self) h (ap may_be_free c.in-Acknowledgement.is)
