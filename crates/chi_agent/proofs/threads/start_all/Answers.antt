-- One thread more is started in each turn.
use Rattle.std.proofs.Common.{rules, ◌≡◌, ◌∙◌, ap}
use Rattle.chi_agent.specs.declared.seats.Seat.{Seat}
use Rattle.chi_audit.specs.Boxes.{OutboxState}
use Rattle.chi_agent.specs.Script.{operations_of, writer_of}
use Rattle.chi_agent.specs.Ended.{requester_number, outbox_of}
use Rattle.chi_agent.specs.Runs.{begun, start_of}
use Rattle.chi_agent.specs.Runs as runs
use Rattle.chi_agent.proofs.Returns.{starts, own_first, own_rest, fresh_first, fresh_rest}
use Rattle.chi_agent.proofs.Begun.{begun_so, first_begins, one_more, rests}
use Rattle.chi_agent.proofs.Begun as begins
use Rattle.chi_agent.proofs.threads.start_all.Goals as goal

pub start_one-requires-clause-own : goal.start_one-requires-clause-own
start_one-requires-clause-own g c κs within = own_first c.args.node.now c.in-Some.seat.requester c.loop.requesters.items c.first_seat.new.requesters.items c.loop.invariant.own c.in-Some.ensures.requester

pub start_one-requires-clause-fresh : goal.start_one-requires-clause-fresh
start_one-requires-clause-fresh g c κs within = fresh_first c.args.tallies.now c.in-Some.seat.script c.loop.scripts.items c.first_seat.new.scripts.items c.loop.invariant.fresh c.in-Some.ensures.script

pub loop-preserved : goal.loop-preserved
loop-preserved g c =
    let i = c.loop.invariant in
    let seat = c.in-Some.seat in
    let e = c.in-Some.ensures in
    let ok = c.in-Ok.ensures in
    let config = c.args.node.now.config in
    let plan = c.args.plan in
    let rs = c.loop.requesters.items in
    let rs' = c.first_seat.new.requesters.items in
    let ss = c.loop.scripts.items in
    let ss' = c.first_seat.new.scripts.items in
    record {
      begun = starts (λ h. begun h.promise) (runs.starts config plan.seed plan.turns c.args.requesters.items (operations_of c.args.scripts.items)) c.loop.handles.items c.push_reserved.new.self.items c.in-Ok.handle
          (start_of config plan.seed plan.turns seat.requester seat.script.operations) (runs.starts config plan.seed plan.turns rs (operations_of ss)) (runs.starts config plan.seed plan.turns rs' (operations_of ss')) i.begun
          (first_begins config plan.seed plan.turns seat.requester rs rs' seat.script ss ss' e.requester e.script) c.push_reserved.ensures.items (begun_so c.in-Ok.handle.promise config plan seat ok.config ok.plan ok.seat);
      own = own_rest c.args.node.now seat.requester rs rs' i.own e.requester;
      fresh = fresh_rest c.args.tallies.now seat.script ss ss' i.fresh e.script;
      writers = rests writer_of requester_number seat.script ss ss' seat.requester rs rs' i.writers e.script e.requester;
      outboxes = begins.own_rest (outbox_of c.args.inbox.now.channel) seat.outbox c.loop.outboxes.items c.first_seat.new.outboxes.items seat.requester rs rs' i.outboxes e.outbox e.requester;
      channels = one_more (λ h. h.promise.seat.value.outbox.channel ≡ c.args.inbox.now.channel) c.loop.handles.items c.push_reserved.new.self.items c.in-Ok.handle i.channels c.push_reserved.ensures.items (ap (λ (z : Seat). z.outbox.channel) ok.seat ∙ ap (λ (z : OutboxState). z.channel) e.channel);
      made = search rules;
      room = search rules;
    }
