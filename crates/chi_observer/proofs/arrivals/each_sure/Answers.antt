-- One more is set.
use Rattle.std.proofs.Common.{rules, arith, ◌≡◌, ◌<◌, ◌+◌, ℕ, length, refl, sym, subst, ◌∙◌, slice_set}
use Rattle.std.proofs.lemmas.List.{get_or-set_other}
use Rattle.std.proofs.lemmas.Grind.{get_or-set_at}
use Rattle.std.specs.Prelude.{true, false, ◌&&◌, ◌==◌}
use Rattle.chi_observer.specs.Lines.{shown_of}
use Rattle.chi_observer.specs.Arrivals.{arriving_of, is_sure}
use Rattle.chi_observer.proofs.Received.{sure_all}
use Rattle.chi_observer.proofs.Put.{split}
use Rattle.chi_observer.proofs.arrivals.each_sure.Goals as goal

lower : (m n : ℕ) → m < n + 1 → (m ≡ n → ⊥) → m < n
lower m n h e = search (rules, arith)

pub loop-n-preserved : goal.loop-n-preserved
loop-n-preserved c =
    let n = c.loop-n.n in
    let sure = c.loop-n.sure in
    let x = c.is_still.result in
    let some : n < 32 = search (rules, arith, c.loop-n-test) in
    let low : n < length sure = subst (λ (k : ℕ). n < k) (sym c.loop-n.invariant.0) some in
    let whole : length (slice_set sure n x) ≡ 32 = search (rules, arith, c.loop-n.invariant.0) in (
      whole,
      split (λ m. m < n + 1 → shown_of (slice_set sure n x) m ≡ (shown_of c.args.shown.now m && is_sure true (shown_of c.args.was.now m) (m == c.args.at) (arriving_of c.args.agents.now m).since (arriving_of c.args.agents.now c.args.at).asked)) n
          (λ _. get_or-set_at sure n n x false refl low ∙ c.is_still.ensures)
          (λ m apart below. get_or-set_other sure n m x false apart ∙ c.loop-n.invariant.1 m (lower m n below apart)),
    )

pub returns : goal.returns
returns c =
    let all : c.loop-n.n ≡ 32 = omega (arith, c.loop-n-test.false, c.loop-n.auto.n-end) in
    let shown_all : length c.args.shown.now ≡ 32 = search (rules, arith) in
    sure_all c.loop-n.sure c.args.shown.now (λ m. is_sure true (shown_of c.args.was.now m) (m == c.args.at) (arriving_of c.args.agents.now m).since (arriving_of c.args.agents.now c.args.at).asked)
    c.loop-n.invariant.0 shown_all (λ m low. c.loop-n.invariant.1 m (subst (λ (k : ℕ). m < k) (sym all) low))
