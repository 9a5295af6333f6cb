-- Each table is the same.
use Rattle.std.proofs.Common.{◌≡◌, ◌∙◌}
use Rattle.chi_observe.specs.Judges.{last_of}
use Rattle.chi_observe.specs.Lines.{lines_in}
use Rattle.chi_observe.proofs.watch.Watch.clone_in.Goals as goal

pub returns : goal.returns
returns g c =
    let w = c.args.self.now in
    let requesters : c.in_ok-requesters.requesters.items ≡ w.requesters.items = c.in_ok-requesters.ensures ∙ c.deref.ensures.value in
    let homes : c.in_ok-homes.homes.items ≡ w.homes.items = c.in_ok-homes.ensures ∙ c.deref-2.ensures.value in
    let ids : c.in_ok-ids.ids.entries ≡ w.ids.entries = c.in_ok-ids.ensures in
    let accounts : c.in_ok-accounts.accounts.entries ≡ w.accounts.entries = c.in_ok-accounts.ensures in
    let lines : lines_in c.in_ok-lines.lines.entries ≡ lines_in w.lines.entries = c.in_ok-lines.ensures in
    let causes : c.in_ok-causes.causes.items ≡ w.causes.items = c.in_ok-causes.ensures ∙ c.deref-3.ensures.value in
    let named : c.in_ok-named.named.entries ≡ w.named.entries = c.in_ok-named.ensures in
    λ i. record {
      options = w.options;
      requesters = requesters i;
      homes = homes i;
      ids = ids i;
      accounts = accounts i;
      lines = lines i;
      counts = w.counts;
      causes = causes i;
      past = last_of w.last;
      named = named i;
    }
