-- What came of the front of a file that was read came of the file.
use Rattle.std.proofs.Common.{◌≡◌, ℕ, List, Option, Some, None, Result, Ok, Err, IfOk, IfSome, sym, ◌∙◌, ap, take}
use Rattle.chi_script.specs.declared.faults.Fault.{Fault}
use Rattle.chi_script.specs.Storms.{storm_of}
use Rattle.chi_script.proofs.StormLemmas.{front_enough}
use Rattle.chi_storm.specs.declared.outcome.Outcome.{Outcome}
use Rattle.chi_storm.specs.Storms.{IsStormOf}

pub outcome_of_known : (left : Option (List ℕ)) (bytes : List ℕ) (seed turns : ℕ) (result : Result Outcome Fault) → IfSome left (λ file. bytes ≡ take 1048577 file)
    → IfOk result (IsStormOf bytes seed turns) → IfOk result (λ o. IfSome left (λ file. IsStormOf file seed turns o))
outcome_of_known None bytes seed turns (Ok o) front ok = tt
outcome_of_known (Some file) bytes seed turns (Ok o) front ok = record { header = ok.header; deeds = ok.deeds; good = sym (front_enough file) ∙ (sym (ap storm_of front) ∙ ok.good); comes = ok.comes }
outcome_of_known left bytes seed turns (Err fault) front ok = ok
