-- One more, or none is left.
use Rattle.std.proofs.Common.{arith, ◌≡◌, ℕ, ap, ◌∙◌, sym}
use Rattle.std.proofs.Math.Path.{fun_ext}
use Rattle.chi_copies.specs.Arriving.{Members, led, steps, times}
use Rattle.chi_copies.specs.ArrivingLines.{members_of}
use Rattle.chi_copies.proofs.ArrivingEqual.{equal}
use Rattle.chi_copies.proofs.ArrivingMembers.{times_more, times_still}
use Rattle.chi_copies.proofs.members.Members.loose.Goals as goal

pub loop-preserved : goal.loop-preserved
loop-preserved c = λ m. c.stepped-next.ensures m
    ∙ ap (λ (S : Members). led (steps c.args.due c.args.asked) S m) (fun_ext c.loop.invariant)
    ∙ times_more c.loop.counter (led (steps c.args.due c.args.asked)) (members_of c.args.due c.args.asked c.args.self.now) m

pub returns-then-eq : goal.returns-then-eq
returns-then-eq c = let same : c.stepped-next.result ≡ c.loop.members = (equal c.stepped-next.result c.loop.members).0 (sym c.eq.ensures ∙ c.if-eq.true) in
    λ m. times_still c.loop.counter (led (steps c.args.due c.args.asked)) (members_of c.args.due c.args.asked c.args.self.now) (members_of c.args.due c.args.asked c.loop.members) m
    (fun_ext c.loop.invariant)
    (sym (fun_ext c.stepped-next.ensures) ∙ ap (members_of c.args.due c.args.asked) same)
    (omega (arith, c.loop-test.true))

pub returns : goal.returns
returns c = let all : c.loop.counter ≡ 5 = omega (arith, c.loop-test.false, c.loop.auto.counter-end) in
    λ m. c.loop.invariant m ∙ ap (λ (k : ℕ). times k (led (steps c.args.due c.args.asked)) (members_of c.args.due c.args.asked c.args.self.now) m) all
