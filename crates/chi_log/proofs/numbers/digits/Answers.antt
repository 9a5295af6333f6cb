-- A digit more, and where one is none or makes the number too large.
use Rattle.std.proofs.Common.{◌∙◌, get_or, arith}
use Rattle.chi_log.proofs.NumberLemmas.{at_end, at_more, at_wrong, fits_more}
use Rattle.chi_log.proofs.numbers.digits.Goals as goal

pub returns-in_err-number : goal.returns-in_err-number
returns-in_err-number c =
    c.from_residual.ensures
    ∙ (at_wrong c.args.text.now c.loop-byte.number c.loop-byte.byte-index (omega arith) c.in_err-number.ensures ∙ c.loop-byte.invariant.so_far)

pub loop-byte-preserved : goal.loop-byte-preserved
loop-byte-preserved c = record {
  so_far =
      at_more c.args.text.now c.loop-byte.number c.loop-byte.byte-index c.in_ok-number.number (omega arith) c.in_ok-number.ensures
      ∙ c.loop-byte.invariant.so_far;
  fits = fits_more c.loop-byte.number (get_or c.args.text.now c.loop-byte.byte-index 0) c.in_ok-number.number c.in_ok-number.ensures;
}

pub returns : goal.returns
returns c =
    at_end c.args.text.now c.loop-byte.number c.loop-byte.byte-index (omega arith) c.loop-byte.invariant.fits ∙ c.loop-byte.invariant.so_far
