-- Both digits, or one that is none.
use Rattle.std.proofs.Common.{◌≡◌, ◌+◌, ◌*◌, ◌<◌, ◌≤◌, rules, Some, sym, ap, ◌∙◌, arith}
use Rattle.chi_trace.proofs.DigitLemmas.{above, both, first_none, second_none, within}
use Rattle.chi_trace.proofs.numbers.with_pair.Goals as goal

pub returns-in_err-high-clause-read : goal.returns-in_err-high-clause-read
returns-in_err-high-clause-read c = c.from_residual.ensures ∙ sym (first_none c.args.most c.args.number c.args.first c.args.second (sym c.in_err-high.ensures.value))

pub returns-in_err-low-clause-read : goal.returns-in_err-low-clause-read
returns-in_err-low-clause-read c = c.from_residual-in_err-low.ensures ∙ sym (second_none c.args.most c.args.number c.args.first c.args.second (sym c.in_err-low.ensures.value))

pub returns-in_err-checked_mul-clause-read : goal.returns-in_err-checked_mul-clause-read
returns-in_err-checked_mul-clause-read c =
    let high = c.in_ok-high.high in
    let low = c.in_ok-low.low in
    let large : c.args.most < c.args.number * 256 + (high * 16 + low) = search (rules, arith, c.in_err-checked_mul.ensures) in
    c.from_residual-in_err-checked_mul.ensures
    ∙ (above c.args.most (c.args.number * 256 + (high * 16 + low)) large
    ∙ sym (both c.args.most c.args.number c.args.first c.args.second high low (sym c.in_ok-high.ensures.value) (sym c.in_ok-low.ensures.value)))

pub returns-then-more-most-clause-read : goal.returns-then-more-most-clause-read
returns-then-more-most-clause-read c =
    let high = c.in_ok-high.high in
    let low = c.in_ok-low.low in
    let more : c.in_ok-more.more ≡ c.args.number * 256 + (high * 16 + low) = search (rules, arith) in
    let small : c.args.number * 256 + (high * 16 + low) ≤ c.args.most = search (rules, arith, more) in
    ap Some more
    ∙ (within c.args.most (c.args.number * 256 + (high * 16 + low)) small
    ∙ sym (both c.args.most c.args.number c.args.first c.args.second high low (sym c.in_ok-high.ensures.value) (sym c.in_ok-low.ensures.value)))

pub returns-else-more-most-clause-read : goal.returns-else-more-most-clause-read
returns-else-more-most-clause-read c =
    let high = c.in_ok-high.high in
    let low = c.in_ok-low.low in
    let more : c.in_ok-more.more ≡ c.args.number * 256 + (high * 16 + low) = search (rules, arith) in
    let large : c.args.most < c.args.number * 256 + (high * 16 + low) = search (rules, arith, more) in
    above c.args.most (c.args.number * 256 + (high * 16 + low)) large
    ∙ sym (both c.args.most c.args.number c.args.first c.args.second high low (sym c.in_ok-high.ensures.value) (sym c.in_ok-low.ensures.value))
