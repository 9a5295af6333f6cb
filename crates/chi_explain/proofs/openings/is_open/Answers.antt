use Rattle.std.proofs.Common.{rules}
use Rattle.chi_explain.proofs.Tests.{five_hold}
use Rattle.chi_explain.proofs.openings.is_open.Goals as goal

pub returns : goal.returns
returns c = λ all.
    let hold = five_hold c.are_invalid-copies.result c.eq-words.result c.eq-last.result c.are_empty-flits.result c.is_quiet.result all in
    let copies = hold.0 in
    let words = hold.1 in
    let last = hold.2 in
    let flits = hold.3 in
    let quiet = hold.4 in
    record {
      copies = search rules;
      words = search rules;
      last = search rules;
      quiet = search rules;
      flits = search rules;
    }
