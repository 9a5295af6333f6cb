-- All are tested.
use Rattle.std.proofs.Common.{arith, ◌≡◌, ℕ, ap, ◌∙◌}
use Rattle.std.specs.Prelude.{◌&&◌, nat_lt, not}
use Rattle.chi_copies.specs.Arriving.{awaits_data}
use Rattle.chi_copies.specs.Worlds.{all_below}
use Rattle.chi_copies.specs.ArrivingLines.{received}
use Rattle.chi_copies.proofs.Sets.{next_all}
use Rattle.chi_copies.proofs.arriving.Arriving.is_quiet.Goals as goal

pub returns : goal.returns
returns c =
    let all : c.loop-n.n ≡ 32 = omega (arith, c.loop-n-test.false, c.loop-n.auto.n-end) in
    c.loop-n.invariant ∙ ap (λ (k : ℕ). all_below k (λ m. not (nat_lt 0 ((received c.args.self.now).acks m)) && (not (nat_lt 0 ((received c.args.self.now).overtaken m)) && not (awaits_data ((received c.args.self.now).asked m))))) all

pub loop-n-preserved : goal.loop-n-preserved
loop-n-preserved c = next_all c.loop-n.n (λ m. not (nat_lt 0 ((received c.args.self.now).acks m)) && (not (nat_lt 0 ((received c.args.self.now).overtaken m)) && not (awaits_data ((received c.args.self.now).asked m)))) c.loop-n.quiet c.is_quiet-quiet.result c.loop-n.invariant c.is_quiet-quiet.ensures
