-- A replay file is a check file in which no answer is wanted.
use Rattle.std.proofs.Common.{◌≡◌, ℕ, ◌+◌, ◌==◌, nat_lt, Bool, true, false, cond, List, [], ◌∷◌, length, map, None, Result, Ok, Err, refl, ap, subst, ◌∙◌, arith}
use Rattle.std.proofs.lemmas.Bool.Decides.{nat_tests}
use Rattle.std.specs.List.{All}
use Rattle.std.proofs.lemmas.List.Elements.{All-nil, All-cons}
use Rattle.chi_script.specs.declared.commands.Command.{Command}
use Rattle.chi_script.specs.declared.faults.Fault.{Fault}
use Rattle.chi_script.specs.declared.faults.Fault.TheVariants.{BadHeader, BadCommand, MissingNewline, TooLarge}
use Rattle.chi_flit.specs.Config.{Sizes}
use Rattle.chi_script.specs.Commands.{command_of}
use Rattle.chi_script.specs.Files.{◌>>=◌, command_at, commands_of, file_of, header_at, lines_of, script_of as replay_of}
use Rattle.chi_script.specs.Headers.{header_of}
use Rattle.chi_script.specs.Words.{words_of}
use Rattle.chi_script.proofs.CommandLemmas.{line_read}
use Rattle.chi_script.proofs.HeaderLemmas.{header_line}
use Rattle.chi_script.specs.Checks.{CheckLine, is_comment}
use Rattle.chi_script.specs.CheckFiles.{most_check_bytes, check_file_of, checks_at, checks_of, check_script_of}
use Rattle.chi_script.specs.CheckSpelling.{IsReplayed}
use Rattle.chi_script.proofs.CheckLemmas.{header_no_comment, made}
use Rattle.chi_script.proofs.CheckFileLemmas.{bound, check_at_again, taken}

record AreReplayed (n : ℕ) (commands : List Command) (lines : List (List ℕ)) : Type 0 where
  checks : List CheckLine
  good : checks_of n lines ≡ Ok checks
  same : map (λ check. check.command) checks ≡ commands
  unwanted : All (λ check. check.wanted ≡ None) checks

last_replayed : (b : Bool) (n : ℕ) (commands : List Command) → cond b (Ok []) (Err (MissingNewline n)) ≡ Ok commands → (b ≡ true) × ([] ≡ commands)
last_replayed true n commands e = let same : [] ≡ commands = cc in (refl, same)
last_replayed false n commands e = cc

one_replayed : (n : ℕ) (line : List ℕ) (command : Command) → command_at n line ≡ Ok command → checks_at n line ≡ Ok (made n None command ∷ [])
one_replayed n line command e = check_at_again n line (made n None command) (record { number = refl; front = line; command = line_read line command (taken (command_of (words_of line)) (BadCommand n) command e); text = refl })

replayed : (n : ℕ) (line : List ℕ) (rest : List (List ℕ)) (commands : List Command) → commands_of n (line ∷ rest) ≡ Ok commands → AreReplayed n commands (line ∷ rest)
unfolding commands_of checks_of
replayed n last [] commands e =
    let end = last_replayed (length last == 0) n commands e in
    record { checks = []; good = rw end.0 refl; same = end.1; unwanted = All-nil (λ (check : CheckLine). check.wanted ≡ None) }
replayed n line (next ∷ rest) commands e =
    let one = bound (command_at n line) (λ command. commands_of (n + 1) (next ∷ rest) >>= λ cs. Ok (command ∷ cs)) commands e in
    let more = bound (commands_of (n + 1) (next ∷ rest)) (λ cs. Ok (one.0 ∷ cs)) commands one.2 in
    let whole : one.0 ∷ more.0 ≡ commands = let last = more.2 in cc in
    let later = replayed (n + 1) next rest more.0 more.1 in
    record {
      checks = made n None one.0 ∷ later.checks;
      good = rw (one_replayed n line one.0 one.1, later.good) refl;
      same = ap (λ (cs : List Command). one.0 ∷ cs) later.same ∙ whole;
      unwanted = All-cons (λ (check : CheckLine). check.wanted ≡ None) (made n None one.0) later.checks refl later.unwanted;
    }

no_file : (b : Bool) (f g : Fault) (x : Sizes × List Command) → cond b (Err f) (Err g) ≡ Ok x → ⊥
no_file true f g x e = cc
no_file false f g x e = cc

with_header : (line next : List ℕ) (rest : List (List ℕ)) (header : Sizes) (checks : List CheckLine) → is_comment line ≡ false → header_at 1 line ≡ Ok header → checks_of 2 (next ∷ rest) ≡ Ok checks
    → check_script_of 1 (line ∷ next ∷ rest) ≡ Ok (header, checks)
unfolding check_script_of
with_header line next rest header checks plain first later = rw (plain, first, later) refl

lines_replayed : (header : Sizes) (commands : List Command) (lines : List (List ℕ)) → replay_of lines ≡ Ok (header, commands) → IsReplayed header commands (check_script_of 1 lines)
unfolding check_script_of
lines_replayed header commands [] e = cc
lines_replayed header commands (last ∷ []) e = absurd (no_file (length last == 0) (BadHeader 1) (MissingNewline 1) (header, commands) e)
lines_replayed header commands (line ∷ next ∷ rest) e =
    let first = bound (header_at 1 line) (λ h. commands_of 2 (next ∷ rest) >>= λ cs. Ok (h, cs)) (header, commands) e in
    let more = bound (commands_of 2 (next ∷ rest)) (λ cs. Ok (first.0, cs)) (header, commands) first.2 in
    let same : ◌≡◌ {A = Sizes × List Command} (first.0, more.0) (header, commands) = let last = more.2 in cc in
    let later = replayed 2 next rest more.0 more.1 in
    let plain = header_no_comment first.0 line (header_line line first.0 (taken (header_of (words_of line)) (BadHeader 1) first.0 first.1)) in
    subst (λ (x : Sizes × List Command). IsReplayed x.0 x.1 (check_script_of 1 (line ∷ next ∷ rest))) same
    (record { checks = later.checks; good = with_header line next rest first.0 later.checks plain first.1 later.good; same = later.same; unwanted = later.unwanted })

fits : (b : Bool) (read : Result (Sizes × List Command) Fault) (x : Sizes × List Command) → cond b (Err TooLarge) read ≡ Ok x → (b ≡ false) × (read ≡ Ok x)
fits true read x e = cc
fits false read x e = (refl, e)

-- what fits a replay file fits a check file
fits_both : (n : ℕ) → nat_lt 1048576 n ≡ false → nat_lt most_check_bytes n ≡ false
fits_both n e = grind (arith, nat_tests)

pub file_replayed : (header : Sizes) (commands : List Command) (file : List ℕ) → file_of file ≡ Ok (header, commands) → IsReplayed header commands (check_file_of file)
unfolding file_of check_file_of
file_replayed header commands file e =
    let size = fits (nat_lt 1048576 (length file)) (replay_of (lines_of file)) (header, commands) e in
    rw (fits_both (length file) size.0) (lines_replayed header commands (lines_of file) size.1)
