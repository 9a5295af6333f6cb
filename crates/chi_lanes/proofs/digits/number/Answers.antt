-- A byte more, and the end.
use Rattle.std.proofs.Common.{◌≡◌, ◌+◌, ◌*◌, Some, None, sym, ap, ◌∙◌, drop, get_or, arith}
use Rattle.chi_lanes.proofs.Binds.{and_then}
use Rattle.chi_lanes.specs.Numbers.{digits_after, digit_of}
use Rattle.chi_lanes.proofs.RunLemmas.{end_of, one_more, room, some_number, wider}
use Rattle.chi_lanes.proofs.digits.number.Goals as goal

pub overflow_mul-number : goal.overflow_mul-number
overflow_mul-number c =
    let i = c.loop-byte.byte-index in
    let most = room i (omega arith) in
    let small = c.loop-byte.invariant.small in
    record { fits = omega (arith, most, small) }

pub overflow_add-number : goal.overflow_add-number
overflow_add-number c =
    let i = c.loop-byte.byte-index in
    let most = room i (omega arith) in
    let small = c.loop-byte.invariant.small in
    let digit = c.in_ok-digit.ensures.small in
    record { fits = omega (arith, most, small, digit, c.from.ensures) }

pub returns-in_err-digit : goal.returns-in_err-digit
returns-in_err-digit c =
    let text = c.args.text.now in
    let i = c.loop-byte.byte-index in
    let n = c.loop-byte.number in
    let none : digit_of (get_or text i 0) ≡ None = sym c.in_err-digit.ensures.value in
    c.from_residual.ensures
    ∙ (sym (ap (λ o. and_then o (λ v. digits_after (n * 16 + v) (drop (i + 1) text))) none)
    ∙ (sym (one_more n text i (omega arith))
    ∙ (c.loop-byte.invariant.so_far ∙ sym (some_number text (omega arith)))))

pub loop-byte-preserved : goal.loop-byte-preserved
loop-byte-preserved c =
    let text = c.args.text.now in
    let i = c.loop-byte.byte-index in
    let n = c.loop-byte.number in
    let v = c.in_ok-digit.field-0 in
    let digit : digit_of (get_or text i 0) ≡ Some v = sym c.in_ok-digit.ensures.value in
    let same : c.from.result ≡ v = c.from.ensures in
    let small = c.loop-byte.invariant.small in
    let low = c.in_ok-digit.ensures.small in
    let more = wider i in
    record {
      so_far = ap (λ m. digits_after (n * 16 + m) (drop (i + 1) text)) same
          ∙ (sym (ap (λ o. and_then o (λ m. digits_after (n * 16 + m) (drop (i + 1) text))) digit)
          ∙ (sym (one_more n text i (omega arith)) ∙ c.loop-byte.invariant.so_far));
      small = omega (arith, more, small, low, same);
    }

pub returns : goal.returns
returns c =
    let text = c.args.text.now in
    sym (end_of c.loop-byte.number text c.loop-byte.byte-index (omega arith)) ∙ (c.loop-byte.invariant.so_far ∙ sym (some_number text (omega arith)))
