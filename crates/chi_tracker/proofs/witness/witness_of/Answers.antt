-- What the first time told of is no longer than what the witness knew the second time.
use Rattle.std.proofs.Common.{◌≤◌, List, All, length, sym, subst}
use Rattle.chi_tracker.specs.History.{IsAfter}
use Rattle.chi_tracker.specs.Calls.{Owner}
use Rattle.chi_tracker.proofs.witness.witness_of.Goals as goal

pub returns-clause-after : goal.returns-clause-after
returns-clause-after g c =
    let same = c.tell_each.ensures.same in
    subst (λ (rs : List Owner). All (λ r. IsAfter c.tell_each-2.new.witness.history r.port) rs) same
    (c.tell_each-2.ensures.after (subst (λ (rs : List Owner). All (λ r. length r.history ≤ length c.tell_each.new.witness.history) rs) (sym same) c.tell_each.ensures.longest))
