use Rattle.std.proofs.Common.{◌≡◌, ◌/◌, ◌%◌, ◌++◌, string_bytes, OnOk, arith, rules}
use Rattle.std.specs.Fmt.{decimal}
use Rattle.chi_replay.proofs.Digits.{behind, on_ok, two_digits}
use Rattle.chi_replay.proofs.prints.print_pair.Goals as goal

pub returns : goal.returns
returns g c =
    let n = c.args.number in
    let first : string_bytes c.print_digit.new.printed ≡ string_bytes c.args.printed.now ++ decimal (n / 10) = search (rules, c.in_ok-print_digit.ensures) in
    let last : OnOk c.print_digit-2.result (string_bytes c.print_digit-2.new.printed ≡ string_bytes c.print_digit.new.printed ++ decimal (n % 10)) = search (rules, c.print_digit-2.ensures) in
    let both = two_digits n (omega arith) (omega arith) in
    on_ok c.print_digit-2.result last (λ e. behind _ _ _ _ _ _ first e both)
