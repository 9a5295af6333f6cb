-- One more is set.
use Rattle.std.proofs.Common.{rules, arith, ◌≡◌, ◌<◌, ℕ, length, sym, subst, ap, ◌∙◌, slice_set}
use Rattle.std.specs.Prelude.{Bool, if◌then◌else◌}
use Rattle.chi_observe.specs.Judges.{last_of}
use Rattle.chi_observe.proofs.LastLemmas.{all_set, in_range, one_more}
use Rattle.chi_observe.proofs.left_over.last_behind.Goals as goal

pub loop-n-preserved : goal.loop-n-preserved
loop-n-preserved c =
    let n = c.loop-n.n in
    let behind = c.loop-n.behind in
    let x = c.one_behind.result in
    let some : n < 32 = search (rules, arith, c.loop-n-test) in
    let low : n < length behind = subst (λ (k : ℕ). n < k) (sym c.loop-n.invariant.0) some in
    let whole : length (slice_set behind n x) ≡ 32 = search (rules, arith, c.loop-n.invariant.0) in (
      whole,
      one_more c.args.place c.args.count c.args.number n x behind c.args.last.now low
          (c.one_behind.ensures ∙ (ap (λ (b : Bool). if b then c.args.number else last_of c.args.last.now n) c.may_be.ensures ∙ in_range c.args.place c.args.count c.args.number n (last_of c.args.last.now) some))
          c.loop-n.invariant.1,
    )

pub returns : goal.returns
returns c =
    let all : c.loop-n.n ≡ 32 = omega (arith, c.loop-n-test.false, c.loop-n.auto.n-end) in
    let last_all : length c.args.last.now ≡ 32 = search (rules, arith) in
    all_set c.args.place c.args.count c.args.number c.loop-n.behind c.args.last.now c.loop-n.invariant.0 last_all (λ m low. c.loop-n.invariant.1 m (subst (λ (k : ℕ). m < k) (sym all) low))
