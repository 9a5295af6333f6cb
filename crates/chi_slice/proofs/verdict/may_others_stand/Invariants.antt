-- So far each other agent may stand beside this one.
use Rattle.std.proofs.Common.{◌↔◌, ◌≢◌}
use Rattle.std.specs.Prelude.{IsTrue}
use Rattle.chi_slice.specs.Verdict.{MayStandBeside, state_in}
use Rattle.chi_slice.proofs.Below.{AllBelow}
use Rattle.chi_slice.proofs.verdict.may_others_stand.Given as goal

abbrev pub invariant-loop-other : goal.invariant-loop-other
invariant-loop-other l = IsTrue l.may ↔ AllBelow (λ m. m ≢ l.agent → MayStandBeside (state_in l.states l.agent) (state_in l.states m)) l.other
