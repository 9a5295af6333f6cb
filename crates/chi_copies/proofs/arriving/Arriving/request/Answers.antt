-- What refuses it, and what it leaves.
use Rattle.std.proofs.Common.{rules, arith, ◌<◌, ℕ, length, ap, ◌∙◌}
use Rattle.std.specs.Prelude.{◌&&◌}
use Rattle.chi_copies.specs.Arriving.{any_member, came, led, may_come}
use Rattle.chi_copies.specs.ArrivingLines.{agent_at, due_of, may_of}
use Rattle.chi_copies.proofs.ArrivingReceived.{requested_is}
use Rattle.chi_copies.proofs.arriving.Arriving.request.Goals as goal

pub returns-in-None-clause-taken : goal.returns-in-None-clause-taken
returns-in-None-clause-taken c = let e = c.in-None.ensures.taken in
    e ∙ ap (λ (k : ℕ). may_come c.args.flit.act (due_of (agent_at c.args.self.now.agents k).facts) && any_member (led (came c.args.flit.act) (may_of (agent_at c.args.self.now.agents k)))) c.from-at.ensures

pub returns-in-Some-clause-taken : goal.returns-in-Some-clause-taken
returns-in-Some-clause-taken c = let e = c.in-Some.ensures.taken in
    e ∙ ap (λ (k : ℕ). may_come c.args.flit.act (due_of (agent_at c.args.self.now.agents k).facts) && any_member (led (came c.args.flit.act) (may_of (agent_at c.args.self.now.agents k)))) c.from-at.ensures

pub returns-in-Some-clause-after : goal.returns-in-Some-clause-after
returns-in-Some-clause-after c = let e = c.in-Some.ensures.after in
    let low : c.from-at.result < length c.args.self.now.agents = search (rules, arith) in
    λ _. requested_is c.args.self.now.agents c.args.self.now.duty c.args.self.now.home c.from-at.result c.in-Some.next low c.args.flit c.from-at.ensures e
