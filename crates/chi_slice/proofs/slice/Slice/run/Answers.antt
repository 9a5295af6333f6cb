-- Each turn tries one more action.
use Rattle.std.proofs.Common.{arith, rules}
use Rattle.chi_slice.proofs.Runs.{run_keeps, runs_end, runs_next, runs_start}
use Rattle.chi_slice.proofs.slice.Slice.run.Goals as goal
use Rattle.chi_slice.proofs.slice.Slice.run.Goals.{then-is_ok, else-is_ok}

pub loop-action-init : goal.loop-action-init
loop-action-init g c = runs_start c.args.self.now c.args.actions.now

pub loop-action-preserved : goal.loop-action-preserved
loop-action-preserved g c =
    runs_next c.args.self.now c.loop-action.self c.act.new.self c.args.actions.now c.loop-action.done c.if-is_ok.done c.loop-action.action-index _ c.act.result c.loop-action-test.true c.loop-action.invariant
    (record { refusal = c.act.ensures.computed.refusal; done = c.act.ensures.protocol; after = c.act.ensures.computed.after; err = c.act.ensures.err })
    (λ ok. elim c.if-is_ok.branch [ then-is_ok w ↦ search (rules, w.done-is) | else-is_ok w ↦ absurd (cc (w.if-is_ok.false, c.is_ok.ensures.value, ok)) ])
    (λ err. elim c.if-is_ok.branch [ then-is_ok w ↦ absurd (cc (w.if-is_ok.true, c.is_ok.ensures.value, err)) | else-is_ok w ↦ search (rules, w.done-is) ])

pub returns-clause-after : goal.returns-clause-after
returns-clause-after g c = (runs_end c.args.self.now c.loop-action.self c.args.actions.now c.loop-action.done c.loop-action.action-index (omega (arith, c.loop-action-test.false)) c.loop-action.invariant).0

pub returns-clause-run : goal.returns-clause-run
returns-clause-run g c = (runs_end c.args.self.now c.loop-action.self c.args.actions.now c.loop-action.done c.loop-action.action-index (omega (arith, c.loop-action-test.false)) c.loop-action.invariant).1

pub returns-clause-config : goal.returns-clause-config
returns-clause-config g c = (run_keeps c.args.self.now c.args.actions.now c.loop-action.done c.loop-action.self (returns-clause-run g c)).0

pub returns-clause-index : goal.returns-clause-index
returns-clause-index g c = (run_keeps c.args.self.now c.args.actions.now c.loop-action.done c.loop-action.self (returns-clause-run g c)).1
