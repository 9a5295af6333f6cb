-- The text of the lines behind a header is that of the file.
use Rattle.std.proofs.Common.{◌≡◌, ℕ, List, Result, Ok, Err, IfOk, IfErr, ap, sym, ◌∙◌}
use Rattle.chi_script.specs.declared.faults.Fault.{Fault}
use Rattle.chi_script.specs.Faults.{Fails}
use Rattle.chi_script.specs.Files.{commands_of, file_of, lines_of, with_header}
use Rattle.chi_script.proofs.FileLemmas.{bad_commands, good_commands}
use Rattle.chi_slice.specs.Words.{Sizes}
use Rattle.chi_replay.specs.Texts.{IsTextOfLines}
use Rattle.chi_replay.specs.Replays.{IsTextOf, TellsFault}

text_of_file : (file lines : List ℕ) (header : Sizes) (bytes : List ℕ) → file_of file ≡ with_header header (commands_of 2 (lines_of lines)) → IsTextOfLines header lines bytes → IsTextOf file bytes
text_of_file file lines header bytes e is = record { header = header; commands = is.commands; good = good_commands file lines header is.commands e is.good; text = is.text }

pub text_behind : {T : Type 0} (file lines : List ℕ) (header : Sizes) (bytes_of : T → List ℕ) (result : Result T Fault) → file_of file ≡ with_header header (commands_of 2 (lines_of lines))
    → IfOk result (λ text. IsTextOfLines header lines (bytes_of text)) → IfOk result (λ text. IsTextOf file (bytes_of text))
text_behind file lines header bytes_of (Ok text) e ok = text_of_file file lines header (bytes_of text) e ok
text_behind file lines header bytes_of (Err fault) e ok = ok

pub fault_behind : {T : Type 0} (file lines : List ℕ) (header : Sizes) (result : Result T Fault) → file_of file ≡ with_header header (commands_of 2 (lines_of lines))
    → IfErr result (λ fault. Fails fault (commands_of 2 (lines_of lines))) → IfErr result (λ fault. Fails fault (file_of file))
fault_behind file lines header (Ok text) e err = err
fault_behind file lines header (Err fault) e err = bad_commands fault file lines header e err

-- lines that were played have no fault
pub none_told : {T : Type 0} (header : Sizes) (lines bytes : List ℕ) (text : T) → IsTextOfLines header lines bytes → TellsFault (commands_of 2 (lines_of lines)) (Ok text)
none_told header lines bytes text is = λ fault e. absurd (cc (sym is.good ∙ e))

pub first_told : {F T : Type 0} (read : Result F Fault) (first : Fault) → ((fault : Fault) → read ≡ Err fault → first ≡ fault) → TellsFault {A = T} read (Err first)
first_told read first is = λ fault e. ap Err (is fault e)
