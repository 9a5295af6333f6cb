use Rattle.std.proofs.Common.{rules, ◌+◌, refl, ap, arith}
use Rattle.chi_tracker.specs.Steps.{shown, port_of}
use Rattle.chi_tracker.specs.Calls.{owner_in}
use Rattle.chi_tracker.specs.Conduct.{SweptAt}
use Rattle.chi_tracker.proofs.Conduct.{does_none, swept_more, swept_settled, swept_freed, swept_who}
use Rattle.chi_tracker.proofs.Outcomes.{swept_next}
use Rattle.chi_tracker.proofs.sweep.settle_first.Goals as goal

pub loop-agent-init : goal.loop-agent-init
loop-agent-init c = record {
  table = refl;
  view = c.requires.seat.2;
  acts = does_none (owner_in c.args.port_seat.now) (SweptAt c.args.ty c.args.entry) 0 refl;
}

pub returns-then-settle_places-clause-acts : goal.returns-then-settle_places-clause-acts
returns-then-settle_places-clause-acts c =
    let look = c.sweep_step-word in let m = c.loop-agent.agent in
    swept_settled (owner_in c.args.port_seat.now) (owner_in c.loop-agent.port_seat) (owner_in look.new.port_seat) (owner_in c.settle_places.new.port_seat) c.args.ty c.args.entry m look.result
    (swept_who (shown c.args.port_seat.now.me) (shown c.loop-agent.port_seat.me) c.args.ty m c.loop-agent.invariant.view) (ap (λ s. (port_of s).who) look.ensures.view) c.loop-agent.invariant.acts look.ensures.acts c.if-settle_places.ensures.acts

pub loop-agent-preserved : goal.loop-agent-preserved
loop-agent-preserved c = record {
  table = search rules;
  view = let look = c.sweep_step-word in
      swept_next (shown c.args.port_seat.now.me) (shown c.loop-agent.port_seat.me) (shown look.new.port_seat.me) (shown c.settle_places.new.port_seat.me) c.args.ty c.loop-agent.agent (c.loop-agent.agent + 1) look.result
      c.loop-agent.invariant.view look.ensures.view c.if-settle_places.ensures.view (omega arith);
  acts = let look = c.sweep_step-word in let m = c.loop-agent.agent in
      swept_more (owner_in c.args.port_seat.now) (owner_in c.loop-agent.port_seat) (owner_in look.new.port_seat) (owner_in c.settle_places.new.port_seat) c.args.ty c.args.entry m look.result
      (swept_who (shown c.args.port_seat.now.me) (shown c.loop-agent.port_seat.me) c.args.ty m c.loop-agent.invariant.view) (ap (λ s. (port_of s).who) look.ensures.view) c.loop-agent.invariant.acts look.ensures.acts (m + 1) (omega arith) c.if-settle_places.ensures.acts;
}

pub returns-clause-acts : goal.returns-clause-acts
returns-clause-acts c =
    swept_freed (owner_in c.args.port_seat.now) (owner_in c.loop-agent.port_seat) (owner_in c.free_step.new.port_seat) c.args.ty c.args.entry c.loop-agent.agent c.args.agents c.free_step.result
    (swept_who (shown c.args.port_seat.now.me) (shown c.loop-agent.port_seat.me) c.args.ty c.loop-agent.agent c.loop-agent.invariant.view) (omega arith) c.loop-agent.invariant.acts c.free_step.ensures.acts
