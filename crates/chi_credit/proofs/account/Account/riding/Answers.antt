use Rattle.std.proofs.Common.{◌∙◌, ap, arith, count_by}
use Rattle.std.proofs.lemmas.List.{take_all}
use Rattle.chi_flit.specs.Credit.{credit_number}
use Rattle.chi_credit.specs.Slot.{is_riding_of}
use Rattle.chi_credit.proofs.account.Account.riding.Goals as goal

pub returns-clause-is : goal.returns-clause-is
returns-clause-is c =
    c.loop-slot.invariant.0 ∙ ap (count_by (is_riding_of (credit_number c.args.ty))) (take_all c.loop-slot.slot-index c.self.inside.slots (omega (arith, c.self.invariant.eight)) ∙ c.self.view_is)
