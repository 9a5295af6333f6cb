-- The numbers of C's enums (docs/LIBRARY.md, "Numbers").
use Rattle.std.specs.Prelude.{ℕ, Bool, true, false, Option, Some, None, ◌==◌, if◌then◌else◌}
use Rattle.chi_flit.specs.declared.credit.Profile.{Profile}
use Rattle.chi_flit.specs.declared.credit.Profile.TheVariants.{Two, Four}
use Rattle.chi_flit.specs.declared.refusal.Refusal.{Refusal}
use Rattle.chi_flit.specs.Refusal.{refusal_number}

abbrev pub profile_of : ℕ → Option Profile
profile_of n =
    if n == 0 then Some Two else (
    if n == 1 then Some Four else None)

abbrev pub flag_number : Bool → ℕ
flag_number true = 1
flag_number false = 0

-- 0, or the number of a refusal
abbrev pub number_if : Option Refusal → ℕ
number_if None = 0
number_if (Some refusal) = refusal_number refusal
