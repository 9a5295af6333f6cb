use Rattle.std.proofs.Common.{◌≡◌, None, take, sym, arith}
use Rattle.std.proofs.lemmas.List.{length-take-le, take_rest}
use Rattle.chi_lanes.specs.Numbers.{number_of}
use Rattle.chi_lanes.proofs.lists.listed_word.Goals as goal

pub returns-in_err-word-clause-none : goal.returns-in_err-word-clause-none
returns-in_err-word-clause-none c =
    rw c.from_residual.ensures (λ word begins. (let is = begins.writes.1 in let none : None ≡ number_of (take 16 c.args.text.now) = c.in_err-word.ensures in cc (is, none)))

pub returns-clause-found : goal.returns-clause-found
returns-clause-found c = record {
  writes = (length-take-le 16 c.args.text.now (omega arith), sym c.in_ok-word.ensures);
  comma = c.if-text-ne44.false;
  behind = take_rest c.args.text.now 17;
}
