-- The id is named, of the agents that its requester may be the number is the last, and the flit is counted.
use Rattle.std.proofs.Common.{rules, ◌≡◌, List, length, position, ap, ◌∙◌}
use Rattle.chi_trace.specs.declared.fields.NodeId.{NodeId}
use Rattle.chi_observe.specs.Judges.{last_of}
use Rattle.chi_observe.specs.LeftOver.{last_at, named_behind}
use Rattle.chi_observe.specs.Lines.{lines_in}
use Rattle.chi_observe.specs.Nodes.{is_node}
use Rattle.chi_observe.specs.Watched.{counts_left_over}
use Rattle.chi_observe.proofs.watch.Watch.take_left_over.Goals as goal

pub returns : goal.returns
returns g c =
    let w = c.args.self.now in
    let event = c.args.event.now in
    let more : c.in-Some.counts ≡ counts_left_over w.counts = search rules in
    let nodes : c.deref.result.now ≡ w.requesters.items = search rules in
    let place : c.place_of-place.result ≡ position (is_node event.sides.requester) w.requesters.items = c.place_of-place.ensures ∙ ap (λ (l : List NodeId). position (is_node event.sides.requester) l) nodes in
    let count : c.len-count.result ≡ length w.requesters.items = search rules in
    let named : c.name_id.new.named.entries ≡ named_behind event c.args.key w.named.entries = search rules in
    let past : last_of c.last_behind-self.result ≡ last_at (position (is_node event.sides.requester) w.requesters.items) (length w.requesters.items) event.number (last_of w.last) =
    c.last_behind-self.ensures ∙ (λ i. last_at (place i) (count i) event.number (last_of w.last)) in
    λ i. record {
      options = w.options;
      requesters = w.requesters.items;
      homes = w.homes.items;
      ids = w.ids.entries;
      accounts = w.accounts.entries;
      lines = lines_in w.lines.entries;
      counts = more i;
      causes = w.causes.items;
      past = past i;
      named = named i;
    }
