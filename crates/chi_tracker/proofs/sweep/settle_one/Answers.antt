use Rattle.std.proofs.Common.{rules, ◌≡◌, ◌==◌, Some, cond, refl, ap, ◌∙◌}
use Rattle.std.specs.Int.{bit_at}
use Rattle.chi_tracker.specs.declared.step.AtomicStep.TheVariants.{Settle, Promise}
use Rattle.chi_tracker.specs.Steps.{port_of, duty_to}
use Rattle.chi_tracker.specs.History.{port_in}
use Rattle.chi_tracker.specs.Calls.{owner_in}
use Rattle.chi_tracker.specs.Conduct.{One, Found}
use Rattle.chi_tracker.proofs.Conduct.{does_then, does_one, does_found}
use Rattle.chi_tracker.proofs.sweep.settle_one.Goals as goal

pub promise_step-requires-clause-may : goal.promise_step-requires-clause-may
promise_step-requires-clause-may c =
    let step = c.settle_step-old in let k = c.args.place in let d = duty_to c.args.agent k c.args.entry in
    let set : bit_at step.result k ≡ 1 = search rules in
    (d, ap (λ s. (port_of s).duty) step.ensures.view ∙ ap (λ o. cond (o == 0) (port_in c.args.port_seat.now.me).duty (Some d)) set, refl, refl)

pub returns-then-not-is_set-clause-acts : goal.returns-then-not-is_set-clause-acts
returns-then-not-is_set-clause-acts c =
    let step = c.settle_step-old in let k = c.args.place in
    let clear : bit_at step.result k ≡ 0 = search rules in
    does_found (owner_in c.args.port_seat.now) (owner_in step.new.port_seat) (Settle c.args.entry c.args.agent k) k 0 step.result step.ensures.acts clear

pub returns-clause-acts : goal.returns-clause-acts
returns-clause-acts c =
    let step = c.settle_step-old in let next = c.promise_step in let e = c.args.entry in let m = c.args.agent in let k = c.args.place in
    let p = owner_in c.args.port_seat.now in let q = owner_in step.new.port_seat in let r = owner_in next.new.port_seat in
    let set : bit_at step.result k ≡ 1 = search rules in
    does_then p q r (Found (Settle e m k) k 1) (One (Promise e m)) (ap (λ s. (port_of s).who) step.ensures.view)
    (does_found p q (Settle e m k) k 1 step.result step.ensures.acts set) (does_one q r (Promise e m) next.result next.ensures.acts)
