use Rattle.std.proofs.Common.{◌≡◌, ◌++◌, take, string_bytes}
use Rattle.std.specs.List.{flat_map}
use Rattle.chi_observe.specs.Outstanding.{open_account_line}
use Rattle.chi_observe.proofs.outstanding.write_accounts.Given as goal

abbrev pub invariant-loop-account : goal.invariant-loop-account
invariant-loop-account g l =
    string_bytes l.text ≡ string_bytes l.initial.text ++ flat_map open_account_line (take l.account-index l.accounts)
