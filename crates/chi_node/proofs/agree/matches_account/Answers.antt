-- One slot after the other is asked.
use Rattle.std.proofs.Common.{◌↔◌, ℕ, refl, subst, arith}
use Rattle.std.specs.Prelude.{IsTrue}
use Rattle.chi_credit.specs.declared.slot.SlotRecord.{SlotRecord}
use Rattle.chi_credit.specs.Account.{slot_record_at}
use Rattle.chi_slice.proofs.Below.{next_below, none_below}
use Rattle.chi_node.specs.Agree.{MatchesRecord}
use Rattle.chi_node.proofs.Matches.{MatchesAt, all_match}
use Rattle.chi_node.proofs.agree.matches_account.Goals as goal

pub loop-slot-init : goal.loop-slot-init
loop-slot-init g c = none_below (MatchesAt c.args.slice.now c.args.requester.now)

pub loop-slot-preserved : goal.loop-slot-preserved
loop-slot-preserved g c =
    let here : IsTrue c.matches_record-found.result ↔ MatchesAt c.args.slice.now c.args.requester.now c.loop-slot.slot =
    subst (λ (n : ℕ). IsTrue c.matches_record-found.result ↔ MatchesRecord c.args.slice.now n (record { 0 = c.loop-slot.slot }) (slot_record_at c.args.requester.now.slots c.loop-slot.slot)) c.number-agent.ensures.is
    (subst (λ (x : SlotRecord). IsTrue c.matches_record-found.result ↔ MatchesRecord c.args.slice.now c.number-agent.result.0 (record { 0 = c.loop-slot.slot }) x) c.slot.ensures c.matches_record-found.ensures) in
    next_below (MatchesAt c.args.slice.now c.args.requester.now) c.loop-slot.slot c.loop-slot.found c.matches_record-found.result _ c.loop-slot.invariant here refl

pub returns : goal.returns
returns g c = all_match c.args.slice.now c.args.requester.now c.loop-slot.slot c.loop-slot.found (omega (arith, c.loop-slot-test.false, c.loop-slot.auto.slot-end)) c.loop-slot.invariant
