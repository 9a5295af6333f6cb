-- The claim found an entry free, or each taken; and then one more credit is owed.
use Rattle.std.proofs.Common.{ap}
use Rattle.chi_flit.specs.Credit.{credit_number}
use Rattle.chi_credit.specs.declared.slot.SlotRecord.{SlotRecord}
use Rattle.chi_credit.specs.Account.{type_at}
use Rattle.chi_node.proofs.Histories.{admitted, if_none, retried}
use Rattle.chi_node.proofs.requester.Requester.admit_first.Goals as goal

pub returns-in-Some-clause-admitted : goal.returns-in-Some-clause-admitted
returns-in-Some-clause-admitted g c = rw (← c.self.view_is) (admitted c.self.inside.port c.claim-claimed.new.self (type_at c.self.inside.account c.args.slot.0) (credit_number c.slot-ty.result.credit) c.in-Some.entry (ap (λ (x : SlotRecord). credit_number x.credit) c.slot-ty.ensures) c.in-Some.ensures.acts)

pub returns-in-None-clause-retried : goal.returns-in-None-clause-retried
returns-in-None-clause-retried g c =
    let same = ap (λ (x : SlotRecord). credit_number x.credit) c.slot-ty.ensures in
    if_none _ c.claim-claimed.result c.in-None.is (rw (← c.self.view_is) (retried c.self.inside.port c.claim-claimed.new.self c.owe.new.self (type_at c.self.inside.account c.args.slot.0) (credit_number c.slot-ty.result.credit) same c.in-None.ensures.acts c.owe.ensures.port c.owe.ensures.acts))
