-- Two digits more, the last, and the end.
use Rattle.std.proofs.Common.{sym, ap, ◌∙◌, get_or}
use Rattle.chi_trace.specs.Numbers.{digits_from}
use Rattle.chi_script.specs.Words.{◌>>=◌}
use Rattle.chi_trace.proofs.DigitLemmas.{behind, last_digit, no_digit, none_of, one_of, two_first, two_of}
use Rattle.chi_trace.proofs.numbers.digits.Goals as goal

pub returns-in_err-number-clause-read : goal.returns-in_err-number-clause-read
returns-in_err-number-clause-read c =
    let ds = c.loop-left.left.now in
    let n = c.loop-left.number in
    let most = c.args.most in
    c.from_residual.ensures
    ∙ (ap (λ o. o >>= λ m. digits_from most m (behind ds 2)) c.in_err-number.ensures.read
    ∙ (two_first most n (get_or ds 0 0) (get_or ds 1 0) (behind ds 2)
    ∙ (ap (digits_from most n) (sym (two_of ds c.in-len2-up.len_at_least)) ∙ c.loop-left.invariant.so_far)))

pub loop-left-preserved : goal.loop-left-preserved
loop-left-preserved c =
    let ds = c.loop-left.left.now in
    let n = c.loop-left.number in
    let most = c.args.most in
    record {
      so_far = ap (λ o. o >>= λ m. digits_from most m (behind ds 2)) c.in_ok-number.ensures.read
          ∙ (two_first most n (get_or ds 0 0) (get_or ds 1 0) (behind ds 2)
          ∙ (ap (digits_from most n) (sym (two_of ds c.in-len2-up.len_at_least)) ∙ c.loop-left.invariant.so_far));
      fits = c.in_ok-number.ensures.fits;
    }

pub returns-in-empty-clause-read : goal.returns-in-empty-clause-read
returns-in-empty-clause-read c =
    sym (no_digit c.args.most c.loop-left.number)
    ∙ (ap (digits_from c.args.most c.loop-left.number) (sym (none_of c.loop-left.left.now c.in-empty.len_below)) ∙ c.loop-left.invariant.so_far)

pub returns-in-len1-up-clause-read : goal.returns-in-len1-up-clause-read
returns-in-len1-up-clause-read c =
    let ds = c.loop-left.left.now in
    c.with_digit.ensures.read
    ∙ (sym (last_digit c.args.most c.loop-left.number (get_or ds 0 0))
    ∙ (ap (digits_from c.args.most c.loop-left.number) (sym (one_of ds c.in-len1-up.len_at_least c.in_default.len_below)) ∙ c.loop-left.invariant.so_far))
