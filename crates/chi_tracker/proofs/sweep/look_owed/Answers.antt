use Rattle.std.proofs.Common.{rules, ◌≡◌, ◌+◌, ◌<◌, refl, arith}
use Rattle.chi_tracker.specs.declared.step.AtomicStep.TheVariants.{Look}
use Rattle.chi_tracker.specs.Steps.{shown, byte_of}
use Rattle.chi_tracker.specs.Calls.{owner_in}
use Rattle.chi_tracker.specs.Conduct.{Looked}
use Rattle.chi_tracker.proofs.Conduct.{does_none, vain_more, vain_until, swept_who}
use Rattle.chi_tracker.proofs.sweep.look_owed.Goals as goal

pub loop-agent-init : goal.loop-agent-init
loop-agent-init c = record {
  table = refl;
  view = c.requires.seat.2;
  acts = does_none (owner_in c.args.port_seat.now) (λ m. Looked (Look c.args.ty m) (λ word. byte_of c.args.ty word ≡ 0)) 0 refl;
  after = λ l. absurd (omega arith);
}

pub returns-then-byte-ne0-clause-acts : goal.returns-then-byte-ne0-clause-acts
returns-then-byte-ne0-clause-acts c =
    let step = c.sweep_step-shown in let m = c.loop-agent.agent in
    let some : 0 < byte_of c.args.ty step.result = search rules in
    vain_until (owner_in c.args.port_seat.now) (owner_in c.loop-agent.port_seat) (owner_in step.new.port_seat) c.args.ty m step.result
    (swept_who (shown c.args.port_seat.now.me) (shown c.loop-agent.port_seat.me) c.args.ty m c.loop-agent.invariant.view) c.loop-agent.invariant.acts step.ensures.acts c.args.agents (omega arith) some

pub loop-agent-preserved : goal.loop-agent-preserved
loop-agent-preserved c = record {
  table = search rules;
  view = search rules;
  acts = let step = c.sweep_step-shown in let m = c.loop-agent.agent in
      let none : byte_of c.args.ty step.result ≡ 0 = search rules in
      vain_more (owner_in c.args.port_seat.now) (owner_in c.loop-agent.port_seat) (owner_in step.new.port_seat) c.args.ty m step.result
      (swept_who (shown c.args.port_seat.now.me) (shown c.loop-agent.port_seat.me) c.args.ty m c.loop-agent.invariant.view) c.loop-agent.invariant.acts step.ensures.acts (m + 1) (omega arith) none;
  after = λ _. c.sweep_step-shown.ensures.after;
}
