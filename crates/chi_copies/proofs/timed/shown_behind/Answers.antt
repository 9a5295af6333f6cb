-- One more is set.
use Rattle.std.proofs.Common.{rules, arith, ◌≡◌, ◌<◌, ◌+◌, ℕ, length, refl, sym, subst, ap, ◌∙◌, slice_index_or, slice_set}
use Rattle.std.proofs.lemmas.List.{get_or-set_other}
use Rattle.std.proofs.lemmas.Grind.{get_or-set_at}
use Rattle.std.specs.Prelude.{false, ◌&&◌, ◌||◌, not}
use Rattle.chi_observer.specs.Rules.{awaits_moment}
use Rattle.chi_copies.specs.Dues.{due_is}
use Rattle.chi_copies.specs.Images.{moment_by}
use Rattle.chi_copies.specs.Lines.{due_at, nothing_due, shown_at, shown_here}
use Rattle.chi_copies.proofs.Alone.{all_there, shown_one}
use Rattle.chi_copies.proofs.Lines.{same_or, timed_each, untimed}
use Rattle.chi_copies.proofs.Put.{split}
use Rattle.chi_copies.proofs.timed.shown_behind.Goals as goal

lower : (m n : ℕ) → m < n + 1 → (m ≡ n → ⊥) → m < n
lower m n h e = search (rules, arith)

pub loop-n-preserved : goal.loop-n-preserved
loop-n-preserved c =
    let at = c.from-at.result in
    let behind = c.loop-n.behind in
    let x = c.is_shown.result in
    let some : at < 32 = search (rules, arith, c.loop-n-test, c.from-at.ensures) in
    let dues : at < length c.args.due.now = search (rules, arith, c.loop-n-test, c.from-at.ensures) in
    let shows : at < length c.args.shown.now = search (rules, arith, c.loop-n-test, c.from-at.ensures) in
    let low : at < length behind = subst (λ (k : ℕ). at < k) (sym c.loop-n.invariant.0) some in
    let whole : length (slice_set behind at x) ≡ 32 = search (rules, arith, c.loop-n.invariant.0) in
    let d = ap due_is (same_or c.args.due.now at _ nothing_due dues) in
    let was = same_or c.args.shown.now at _ false shows in
    let moment = c.of-moments.ensures (due_at c.args.due.now at) at some in (
      whole,
      split (λ m. m < c.loop-n.n + 1 → shown_at (slice_set behind at x) m ≡ shown_here c.args.due.now c.args.may.now c.args.issuer (shown_at c.args.shown.now m) m) at
          (λ _. get_or-set_at behind at at x false refl low ∙ shown_one c.args.due.now c.args.may.now c.args.issuer (shown_at c.args.shown.now at) at c.of-moments.result _ c.is_issuer-issues.result _ x d c.is_issuer-issues.ensures was moment
          (c.is_shown.ensures ∙ ap (λ (k : ℕ). awaits_moment (due_is (slice_index_or c.args.due.now at nothing_due)) && ((not c.is_issuer-issues.result && slice_index_or c.args.shown.now at false) || moment_by c.of-moments.result (due_is (slice_index_or c.args.due.now at nothing_due)) k)) (sym c.from-at.ensures)))
          (λ m apart below. get_or-set_other behind at m x false apart ∙ c.loop-n.invariant.1 m (lower m c.loop-n.n below (λ e. apart (e ∙ sym c.from-at.ensures)))),
    )

pub returns : goal.returns
returns c =
    let all : c.loop-n.n ≡ 32 = omega (arith, c.loop-n-test.false, c.loop-n.auto.n-end) in
    let dues : length c.args.due.now ≡ 32 = search (rules, arith) in
    timed_each c.args.due.now c.args.may.now c.args.shown.now c.loop-n.behind c.args.issuer dues c.loop-n.invariant.0 (λ m low. c.loop-n.invariant.1 m (subst (λ (k : ℕ). m < k) (sym all) low))

pub returns-then-is_none_awaiting : goal.returns-then-is_none_awaiting
returns-then-is_none_awaiting c =
    let dues : length c.args.due.now ≡ 32 = search (rules, arith) in
    untimed c.args.due.now c.args.may.now c.args.shown.now c.args.issuer dues (sym c.is_none_awaiting.ensures ∙ c.if-is_none_awaiting.true)

pub returns-then-is_none_pending : goal.returns-then-is_none_pending
returns-then-is_none_pending c =
    let dues : length c.args.due.now ≡ 32 = search (rules, arith) in
    let whole : length c.awaiting.result ≡ 32 = search (rules, arith) in
    all_there c.args.due.now c.args.may.now c.args.shown.now c.awaiting.result c.args.issuer dues whole c.awaiting.ensures (sym c.is_none_pending.ensures ∙ c.if-is_none_pending.true)
