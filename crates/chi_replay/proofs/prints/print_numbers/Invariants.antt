use Rattle.std.proofs.Common.{◌≡◌, ◌++◌, take, string_bytes}
use Rattle.std.specs.Fmt.{decimal}
use Rattle.chi_replay.specs.Replies.{spaced_texts}
use Rattle.chi_replay.proofs.prints.print_numbers.Given as goal

abbrev pub invariant-loop-number : goal.invariant-loop-number
invariant-loop-number g l =
    string_bytes l.printed ≡ string_bytes l.initial.printed ++ spaced_texts decimal (take l.number-index l.numbers)
