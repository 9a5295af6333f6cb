-- One more counts as sent.
use Rattle.std.proofs.Common.{rules, arith, ◌≡◌, ◌<◌, ◌+◌, ℕ, length, refl, sym, subst, ◌∙◌, slice_set}
use Rattle.std.proofs.lemmas.List.{get_or-set_other}
use Rattle.std.proofs.lemmas.Grind.{get_or-set_at}
use Rattle.chi_observer.specs.Lines.{agent_of, nobody}
use Rattle.chi_observer.specs.Arrivals.{arriving_of}
use Rattle.chi_observer.specs.Doubts.{supposed_agent}
use Rattle.chi_observer.proofs.HeldRequests.{each_agent}
use Rattle.chi_observer.proofs.Put.{split}
use Rattle.chi_observer.proofs.doubts.each_supposed.Goals as goal

lower : (m n : ℕ) → m < n + 1 → (m ≡ n → ⊥) → m < n
lower m n h e = search (rules, arith)

pub loop-n-preserved : goal.loop-n-preserved
loop-n-preserved c =
    let n = c.loop-n.n in
    let agents = c.loop-n.agents in
    let x = c.supposed.result in
    let some : n < 32 = search (rules, arith, c.loop-n-test) in
    let low : n < length agents = subst (λ (k : ℕ). n < k) (sym c.loop-n.invariant.0) some in
    let whole : length (slice_set agents n x) ≡ 32 = search (rules, arith, c.loop-n.invariant.0) in (
      whole,
      split (λ m. m < n + 1 → agent_of (slice_set agents n x) m ≡ supposed_agent (arriving_of c.args.own.now m) (agent_of c.args.seen.now m)) n
          (λ _. get_or-set_at agents n n x nobody refl low ∙ c.supposed.ensures)
          (λ m apart below. get_or-set_other agents n m x nobody apart ∙ c.loop-n.invariant.1 m (lower m n below apart)),
    )

pub returns : goal.returns
returns c =
    let all : c.loop-n.n ≡ 32 = omega (arith, c.loop-n-test.false, c.loop-n.auto.n-end) in
    let seen_all : length c.args.seen.now ≡ 32 = search (rules, arith) in
    let own_all : length c.args.own.now ≡ 32 = search (rules, arith) in
    each_agent c.loop-n.agents c.args.seen.now c.args.own.now c.loop-n.invariant.0 seen_all own_all (λ m low. c.loop-n.invariant.1 m (subst (λ (k : ℕ). m < k) (sym all) low))
