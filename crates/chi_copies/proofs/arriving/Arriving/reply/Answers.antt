-- What refuses it, and what it leaves.
use Rattle.std.proofs.Common.{rules, arith, ◌<◌, length, ◌∙◌}
use Rattle.chi_copies.proofs.Finite.{no}
use Rattle.chi_copies.proofs.ArrivingReceived.{replied_is, reply_is}
use Rattle.chi_copies.proofs.arriving.Arriving.reply.Goals as goal

pub returns-in-None-clause-taken : goal.returns-in-None-clause-taken
returns-in-None-clause-taken c = let e = c.in-None.ensures.taken in
    e ∙ replied_is c.args.self.now.agents c.args.self.now.duty c.args.self.now.home c.args.flit c.requires.replies c.from-at.result c.coming-coming.result c.from-at.ensures c.coming-coming.ensures

pub returns-in-None-clause-after : goal.returns-in-None-clause-after
returns-in-None-clause-after c = λ h. no h

pub returns-in-Some-clause-taken : goal.returns-in-Some-clause-taken
returns-in-Some-clause-taken c = let e = c.in-Some.ensures.taken in
    e ∙ replied_is c.args.self.now.agents c.args.self.now.duty c.args.self.now.home c.args.flit c.requires.replies c.from-at.result c.coming-coming.result c.from-at.ensures c.coming-coming.ensures

pub returns-in-Some-clause-after : goal.returns-in-Some-clause-after
returns-in-Some-clause-after c = let e = c.in-Some.ensures.after in
    let low : c.args.flit.agent.0 < length c.behold.new.agents = search (rules, arith) in
    λ _. reply_is c.args.self.now.agents c.behold.new.agents c.args.self.now.duty c.args.self.now.home c.args.flit c.in-Some.next c.from-at.result c.coming-coming.result c.ages-ages.result c.duty_after-self.result c.home_behind-self.result
    c.requires.replies low c.from-at.ensures c.coming-coming.ensures c.ages-ages.ensures c.behold.ensures e c.duty_after-self.ensures c.home_behind-self.ensures
