-- Each step of the walk looks at what is left of the line.
use Rattle.std.proofs.Common.{◌≡◌, ◌+◌, length, drop, Some, true, false, sym, ap, ◌∙◌, arith}
use Rattle.std.proofs.lemmas.List.{take_rest}
use Rattle.chi_script.specs.Checks.{arrow, begins_with, parts_of}
use Rattle.chi_script.proofs.PartLemmas.{ends, goes_on, stops}
use Rattle.chi_script.proofs.checks.parts.Goals as goal

pub returns-then-starts_with-clause-front : goal.returns-then-starts_with-clause-front
returns-then-starts_with-clause-front c =
    let line = c.args.line.now in
    let at = c.loop-at.at in
    let begins : begins_with (drop at line) arrow ≡ true = ap (λ l. begins_with l arrow) (sym (take_rest line at)) ∙ (sym c.starts_with.ensures.value ∙ c.if-starts_with.true) in
    (stops line at (parts_of line) c.loop-at-test.true begins c.loop-at.invariant).0

pub returns-then-starts_with-clause-answer : goal.returns-then-starts_with-clause-answer
returns-then-starts_with-clause-answer c =
    let line = c.args.line.now in
    let at = c.loop-at.at in
    let begins : begins_with (drop at line) arrow ≡ true = ap (λ l. begins_with l arrow) (sym (take_rest line at)) ∙ (sym c.starts_with.ensures.value ∙ c.if-starts_with.true) in
    ap Some (take_rest line (at + length arrow)) ∙ (stops line at (parts_of line) c.loop-at-test.true begins c.loop-at.invariant).1

pub loop-at-preserved : goal.loop-at-preserved
loop-at-preserved c =
    let line = c.args.line.now in
    let at = c.loop-at.at in
    let begins : begins_with (drop at line) arrow ≡ false = ap (λ l. begins_with l arrow) (sym (take_rest line at)) ∙ (sym c.starts_with.ensures.value ∙ c.if-starts_with.false) in
    goes_on line at (parts_of line) c.loop-at-test.true begins c.loop-at.invariant

pub returns-clause-front : goal.returns-clause-front
returns-clause-front c = (ends c.args.line.now c.loop-at.at (parts_of c.args.line.now) (omega arith) c.loop-at.invariant).0

pub returns-clause-answer : goal.returns-clause-answer
returns-clause-answer c = (ends c.args.line.now c.loop-at.at (parts_of c.args.line.now) (omega arith) c.loop-at.invariant).1
