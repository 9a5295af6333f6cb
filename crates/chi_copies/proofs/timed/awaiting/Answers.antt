-- One more is set.
use Rattle.std.proofs.Common.{rules, arith, ◌≡◌, ◌<◌, ◌+◌, ℕ, length, refl, sym, subst, ap, ◌∙◌, slice_set}
use Rattle.std.proofs.lemmas.List.{get_or-set_other}
use Rattle.std.proofs.lemmas.Grind.{get_or-set_at}
use Rattle.std.specs.Prelude.{false}
use Rattle.chi_observer.specs.Rules.{awaits_moment}
use Rattle.chi_copies.specs.Dues.{due_is}
use Rattle.chi_copies.specs.Lines.{due_at, nothing_due, shown_at}
use Rattle.chi_copies.proofs.Alone.{awaits_each}
use Rattle.chi_copies.proofs.Lines.{same_or}
use Rattle.chi_copies.proofs.Put.{split}
use Rattle.chi_copies.proofs.timed.awaiting.Goals as goal

lower : (m n : ℕ) → m < n + 1 → (m ≡ n → ⊥) → m < n
lower m n h e = search (rules, arith)

pub loop-n-preserved : goal.loop-n-preserved
loop-n-preserved c =
    let n = c.loop-n.n in
    let awaiting = c.loop-n.awaiting in
    let x = c.awaits_moment.result in
    let some : n < 32 = search (rules, arith, c.loop-n-test) in
    let dues : n < length c.args.due.now = search (rules, arith, c.loop-n-test) in
    let low : n < length awaiting = subst (λ (k : ℕ). n < k) (sym c.loop-n.invariant.0) some in
    let whole : length (slice_set awaiting n x) ≡ 32 = search (rules, arith, c.loop-n.invariant.0) in (
      whole,
      split (λ m. m < n + 1 → shown_at (slice_set awaiting n x) m ≡ awaits_moment (due_at c.args.due.now m)) n
          (λ _. get_or-set_at awaiting n n x false refl low ∙ c.awaits_moment.ensures ∙ ap (λ d. awaits_moment (due_is d)) (same_or c.args.due.now n _ nothing_due dues))
          (λ m apart below. get_or-set_other awaiting n m x false apart ∙ c.loop-n.invariant.1 m (lower m n below apart)),
    )

pub returns : goal.returns
returns c =
    let all : c.loop-n.n ≡ 32 = omega (arith, c.loop-n-test.false, c.loop-n.auto.n-end) in
    let dues : length c.args.due.now ≡ 32 = search (rules, arith) in
    awaits_each c.args.due.now c.loop-n.awaiting dues c.loop-n.invariant.0 (λ m low. c.loop-n.invariant.1 m (subst (λ (k : ℕ). m < k) (sym all) low))
