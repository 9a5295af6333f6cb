-- A file whose first line a line end closes.
use Rattle.std.proofs.Common.{◌≡◌, ℕ, ◌<◌, ◌≤◌, Bool, true, false, nat_lt, ◌==◌, List, ◌∷◌, length, take, Ok, Err, refl, sym, ap, ◌∙◌, arith}
use Rattle.std.proofs.lemmas.List.{take_all, length-take}
use Rattle.chi_script.specs.declared.faults.Fault.TheVariants.{TooLarge}
use Rattle.std.proofs.lemmas.Bool.Decides.{nat_tests}
use Rattle.chi_flit.specs.Config.{Sizes}
use Rattle.chi_script.specs.declared.operations.AgentOperation.{AgentOperation}
use Rattle.chi_script.specs.declared.faults.Fault.{Fault}
use Rattle.chi_script.specs.Faults.{Fails}
use Rattle.chi_script.specs.Files.{◌>>=◌, lines_of, header_at}
use Rattle.chi_script.specs.Storms.{operations_from, storm_of}
use Rattle.chi_script.proofs.FaultLemmas.{failed}
use Rattle.chi_script.proofs.LineLemmas.{parts_of}

not_large : (n : ℕ) → n ≤ 1048576 → nat_lt 1048576 n ≡ false
not_large n le = grind (arith, nat_tests)

pub whole : (file line rest : List ℕ) → length file ≤ 1048576 → lines_of file ≡ line ∷ lines_of rest
    → storm_of file ≡ (header_at 1 line >>= λ header. operations_from header 2 (lines_of rest) >>= λ operations. Ok (header, operations))
unfolding storm_of
whole file line rest small e =
    let more = parts_of (λ b. b == 10) rest in
    let fits = not_large (length file) small in
    rw (fits, e, more.2) refl

pub bad_header : (fault : Fault) (file line rest : List ℕ) → length file ≤ 1048576 → lines_of file ≡ line ∷ lines_of rest → Fails fault (header_at 1 line) → Fails fault (storm_of file)
bad_header fault file line rest small e is = rw (whole file line rest small e) (failed fault _ _ is)

pub bad_operations : (fault : Fault) (file line rest : List ℕ) (header : Sizes) → length file ≤ 1048576 → lines_of file ≡ line ∷ lines_of rest → header_at 1 line ≡ Ok header → Fails fault (operations_from header 2 (lines_of rest)) → Fails fault (storm_of file)
bad_operations fault file line rest header small e read is = rw (whole file line rest small e, read) (failed fault _ _ is)

pub good : (file line rest : List ℕ) (header : Sizes) (operations : List AgentOperation) → length file ≤ 1048576 → lines_of file ≡ line ∷ lines_of rest → header_at 1 line ≡ Ok header → operations_from header 2 (lines_of rest) ≡ Ok operations → storm_of file ≡ Ok (header, operations)
good file line rest header operations small e read all = whole file line rest small e ∙ rw (read, all) refl

large : (n : ℕ) → 1048576 < n → nat_lt 1048576 n ≡ true
large n more = grind (arith, nat_tests)

too_large : (file : List ℕ) → 1048576 < length file → storm_of file ≡ Err TooLarge
unfolding storm_of
too_large file more = rw (large (length file) more) refl

enough : (file : List ℕ) (b : Bool) → nat_lt 1048576 (length file) ≡ b → storm_of (take 1048577 file) ≡ storm_of file
enough file false is = let small : length file ≤ 1048577 = grind (arith, nat_tests) in ap storm_of (take_all 1048577 file small)
enough file true is =
    let more : 1048576 < length file = grind (arith, nat_tests) in
    too_large (take 1048577 file) (omega (arith, length-take 1048577 file)) ∙ sym (too_large file more)

pub front_enough : (file : List ℕ) → storm_of (take 1048577 file) ≡ storm_of file
front_enough file = enough file (nat_lt 1048576 (length file)) refl
