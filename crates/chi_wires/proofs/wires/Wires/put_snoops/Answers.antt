-- Each snoop finds its cell empty.
use Rattle.std.proofs.Common.{◌≡◌, ◌≤◌, length, rules}
use Rattle.chi_wires.specs.Flits.{with_snoops}
use Rattle.chi_wires.proofs.Moved.{snoops_add}
use Rattle.chi_wires.proofs.wires.Wires.put_snoops.Goals as goal

pub returns-clause-adds : goal.returns-clause-adds
returns-clause-adds c =
    let is : c.snoop_marked.new.flits ≡ with_snoops c.args.agents c.args.snoop c.args.self.now = search (rules, c.snoop_marked.ensures.after) in
    let fits : length c.args.agents ≤ length c.args.self.now = search (rules, c.snoop_marked.ensures.fits) in
    snoops_add c.args.self.now c.snoop_marked.new.flits c.args.agents c.args.snoop fits c.requires.empty is
