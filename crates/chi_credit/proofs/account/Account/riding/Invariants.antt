use Rattle.std.proofs.Common.{◌≡◌, ◌≤◌, take, count_by}
use Rattle.chi_flit.specs.Credit.{credit_number}
use Rattle.chi_credit.specs.Slot.{is_riding_of}
use Rattle.chi_credit.proofs.account.Account.riding.Given as goal

abbrev pub invariant-loop-slot : goal.invariant-loop-slot
invariant-loop-slot l = (l.count ≡ count_by (is_riding_of (credit_number l.ty)) (take l.slot-index l.slot-items)) × (l.count ≤ l.slot-index)
