-- One thread more is joined in each turn.
use Rattle.std.proofs.Common.{rules, ◌≡◌, ◌<◌, length, sym, ◌∙◌}
use Rattle.std.specs.List.{slice_index_or}
use Rattle.chi_agent.specs.Runs.{begun}
use Rattle.chi_agent.proofs.Begun.{first_one, other_ones}
use Rattle.chi_agent.proofs.Left.{one_left, told_so}
use Rattle.chi_agent.proofs.threads.join_all.Goals as goal

pub loop-preserved : goal.loop-preserved
loop-preserved g c =
    let i = c.loop.invariant in
    let came = c.join-came.result in
    let told = c.join-came.ensures in
    let some : 0 < length c.loop.handles.items = search rules in
    let first : c.remove.result ≡ slice_index_or c.loop.handles.items 0 c.remove.result = search rules in
    record {
      leave = one_left (λ h. begun h.promise) _ c.loop.handles.items c.remove.new.self.items c.remove.result c.loop.results.items c.push.new.self.items came.left i.leave some first c.remove.ensures.items told.0 c.push.ensures.items;
      channels = other_ones (λ h. h.promise.seat.value.outbox.channel ≡ c.args.inbox.now.channel) c.loop.handles.items c.remove.new.self.items i.channels some c.remove.ensures.items;
      channel = search rules;
      told_of = told_so c.loop.inbox c.absorb.new.self came.sent c.loop.results.items c.push.new.self.items came.left i.told_of c.absorb.ensures told.1 c.push.ensures.items;
      unread = search rules;
      left = search rules;
      made = search rules;
      few = search rules;
    }

pub absorb-requires : goal.absorb-requires
absorb-requires g c =
    let i = c.loop.invariant in
    let some : 0 < length c.loop.handles.items = search rules in
    let first : c.remove.result ≡ slice_index_or c.loop.handles.items 0 c.remove.result = search rules in
    let own = first_one (λ h. h.promise.seat.value.outbox.channel ≡ c.args.inbox.now.channel) c.loop.handles.items c.remove.result i.channels some first in
    c.join-came.ensures.2 ∙ (own ∙ sym i.channel)
