-- A file whose first line a line end closes.
use Rattle.std.proofs.Common.{◌≡◌, ℕ, ◌<◌, ◌≤◌, Bool, true, false, nat_lt, ◌==◌, List, ◌∷◌, length, take, Ok, Err, refl, sym, ap, ◌∙◌, arith}
use Rattle.std.proofs.lemmas.List.{take_all, length-take}
use Rattle.chi_script.specs.declared.faults.Fault.TheVariants.{TooLarge}
use Rattle.std.proofs.lemmas.Bool.Decides.{nat_tests}
use Rattle.chi_flit.specs.Config.{Sizes}
use Rattle.chi_script.specs.declared.commands.Command.{Command}
use Rattle.chi_script.specs.declared.faults.Fault.{Fault}
use Rattle.chi_script.specs.Faults.{Fails}
use Rattle.chi_script.specs.Files.{◌>>=◌, lines_of, header_at, commands_of, script_of, file_of, with_header}
use Rattle.chi_script.proofs.FaultLemmas.{failed}
use Rattle.chi_script.proofs.LineLemmas.{parts_of}

pub whole : (file line rest : List ℕ) → lines_of file ≡ line ∷ lines_of rest
    → script_of (lines_of file) ≡ (header_at 1 line >>= λ header. commands_of 2 (lines_of rest) >>= λ commands. Ok (header, commands))
whole file line rest e = let more = parts_of (λ b. b == 10) rest in rw (e, more.2) refl

pub bad_header : (fault : Fault) (file line rest : List ℕ) → lines_of file ≡ line ∷ lines_of rest → Fails fault (header_at 1 line) → Fails fault (script_of (lines_of file))
bad_header fault file line rest e is = rw (whole file line rest e) (failed fault _ _ is)

pub good_header : (file line rest : List ℕ) (header : Sizes) → lines_of file ≡ line ∷ lines_of rest → header_at 1 line ≡ Ok header → script_of (lines_of file) ≡ with_header header (commands_of 2 (lines_of rest))
good_header file line rest header e read = whole file line rest e ∙ rw read refl

-- what the lines behind a header are is what the file is
pub bad_commands : (fault : Fault) (file lines : List ℕ) (header : Sizes) → file_of file ≡ with_header header (commands_of 2 (lines_of lines)) → Fails fault (commands_of 2 (lines_of lines)) → Fails fault (file_of file)
bad_commands fault file lines header e is = rw e (failed fault _ _ is)

pub good_commands : (file lines : List ℕ) (header : Sizes) (commands : List Command) → file_of file ≡ with_header header (commands_of 2 (lines_of lines)) → commands_of 2 (lines_of lines) ≡ Ok commands → file_of file ≡ Ok (header, commands)
good_commands file lines header commands e all = e ∙ ap (with_header header) all

large : (n : ℕ) → 1048576 < n → nat_lt 1048576 n ≡ true
large n more = grind (arith, nat_tests)

too_large : (file : List ℕ) → 1048576 < length file → file_of file ≡ Err TooLarge
unfolding file_of
too_large file more = rw (large (length file) more) refl

enough : (file : List ℕ) (b : Bool) → nat_lt 1048576 (length file) ≡ b → file_of (take 1048577 file) ≡ file_of file
enough file false is = let small : length file ≤ 1048577 = grind (arith, nat_tests) in ap file_of (take_all 1048577 file small)
enough file true is =
    let more : 1048576 < length file = grind (arith, nat_tests) in
    too_large (take 1048577 file) (omega (arith, length-take 1048577 file)) ∙ sym (too_large file more)

pub front_enough : (file : List ℕ) → file_of (take 1048577 file) ≡ file_of file
front_enough file = enough file (nat_lt 1048576 (length file)) refl
