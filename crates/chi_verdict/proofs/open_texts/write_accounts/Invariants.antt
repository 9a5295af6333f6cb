use Rattle.std.proofs.Common.{◌≡◌, ◌++◌, take, string_bytes}
use Rattle.std.specs.List.{flat_map}
use Rattle.chi_verdict.specs.Outstanding.{account_line}
use Rattle.chi_verdict.proofs.open_texts.write_accounts.Given as goal

abbrev pub invariant-loop-account : goal.invariant-loop-account
invariant-loop-account g l = string_bytes l.text ≡ string_bytes l.initial.text ++ flat_map account_line (take l.account-index l.accounts)
