-- One less.
use Rattle.std.proofs.Common.{rules, arith, ◌≡◌, ◌<◌, ℕ, length, subst, sym}
use Rattle.chi_copies.specs.ArrivingLines.{Forgot, agent_at, received_by}
use Rattle.chi_copies.specs.Arriving.{forgot}
use Rattle.std.specs.Prelude.{None}
use Rattle.std.proofs.Common.{slice_set}
use Rattle.chi_copies.proofs.ArrivingReceived.{forgot_is}
use Rattle.chi_copies.proofs.arriving.Arriving.forget.Goals as goal

pub returns-clause-after : goal.returns-clause-after
returns-clause-after c =
    let low : c.args.flit.agent.0 < length c.behold.new.agents = search (rules, arith) in
    λ _. subst (λ (k : ℕ). received_by (slice_set c.behold.new.agents k c.forgot-next.result) c.duty_after-self.result None ≡ forgot (received_by c.args.self.now.agents c.args.self.now.duty c.args.self.now.home) c.args.flit) (sym c.from-at.ensures)
    (forgot_is c.args.self.now.agents c.behold.new.agents c.args.self.now.duty c.args.self.now.home c.args.flit c.forgot-next.result low c.duty_after-self.result c.behold.ensures
    (subst (λ (k : ℕ). Forgot (agent_at c.args.self.now.agents k) c.forgot-next.result) c.from-at.ensures c.forgot-next.ensures) c.duty_after-self.ensures)
