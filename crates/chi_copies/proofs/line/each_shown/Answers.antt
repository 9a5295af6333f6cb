-- One more is set.
use Rattle.std.proofs.Common.{rules, arith, ◌≡◌, ◌<◌, ◌+◌, ℕ, length, refl, sym, subst, ap, ◌∙◌, slice_set}
use Rattle.std.proofs.lemmas.List.{get_or-set_other}
use Rattle.std.proofs.lemmas.Grind.{get_or-set_at}
use Rattle.chi_copies.specs.Copies.{Held}
use Rattle.chi_copies.specs.Observed.{shown_all}
use Rattle.chi_copies.specs.Sets.{members}
use Rattle.chi_copies.specs.Lines.{may_at, nobody}
use Rattle.chi_copies.proofs.Lines.{shown_each}
use Rattle.chi_copies.proofs.Put.{split}
use Rattle.chi_copies.proofs.line.each_shown.Goals as goal

lower : (m n : ℕ) → m < n + 1 → (m ≡ n → ⊥) → m < n
lower m n h e = search (rules, arith)

pub loop-n-preserved : goal.loop-n-preserved
loop-n-preserved c =
    let n = c.loop-n.n in
    let shown = c.loop-n.shown in
    let x = c.shown.result in
    let some : n < 32 = search (rules, arith, c.loop-n-test) in
    let low : n < length shown = subst (λ (k : ℕ). n < k) (sym c.loop-n.invariant.0) some in
    let whole : length (slice_set shown n x) ≡ 32 = search (rules, arith, c.loop-n.invariant.0) in (
      whole,
      split (λ m. m < n + 1 → (h : Held) → members (may_at (slice_set shown n x) m) h ≡ shown_all (members (may_at c.args.may.now m)) h) n
          (λ _ h. ap (λ s. members s h) (get_or-set_at shown n n x nobody refl low) ∙ c.shown.ensures h ∙ ap (λ s. shown_all (members s) h) c.may_at.ensures)
          (λ m apart below h. ap (λ s. members s h) (get_or-set_other shown n m x nobody apart) ∙ c.loop-n.invariant.1 m (lower m n below apart) h),
    )

pub returns : goal.returns
returns c =
    let all : c.loop-n.n ≡ 32 = omega (arith, c.loop-n-test.false, c.loop-n.auto.n-end) in
    let may_all : length c.args.may.now ≡ 32 = search (rules, arith) in
    shown_each c.args.may.now c.loop-n.shown may_all c.loop-n.invariant.0 (λ m low. c.loop-n.invariant.1 m (subst (λ (k : ℕ). m < k) (sym all) low))
