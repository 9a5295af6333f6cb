-- Reading the commands one after the other, as a loop does.
use Rattle.std.proofs.Common.{◌≡◌, ℕ, ◌+◌, ◌==◌, Bool, true, false, if◌then◌else◌, List, [], ◌∷◌, ◌++◌, length, Result, Ok, Err, refl, sym, ap, subst, ◌∙◌, append_assoc}
use Rattle.std.proofs.lemmas.List.{append-nil}
use Rattle.chi_script.specs.declared.commands.Command.{Command}
use Rattle.chi_script.specs.declared.faults.Fault.{Fault}
use Rattle.chi_script.specs.declared.faults.Fault.TheVariants.{MissingNewline}
use Rattle.chi_script.specs.Faults.{Fails}
use Rattle.chi_script.specs.Commands.{command_of}
use Rattle.chi_script.specs.Words.{words_of}
use Rattle.chi_script.specs.Files.{◌>>=◌, lines_of, command_at, commands_of}
use Rattle.chi_script.proofs.FaultLemmas.{bad_told, failed, no_fault, same_fault, then_told}
use Rattle.chi_script.proofs.LineLemmas.{parts_of}

-- what was read before, and what is still read
abbrev pub with_front : List Command → Result (List Command) Fault → Result (List Command) Fault
with_front front read = read >>= λ commands. Ok (front ++ commands)

-- one line that a line end closes, and what follows it
one_line : (n : ℕ) (rest line after : List ℕ) → lines_of rest ≡ line ∷ lines_of after
    → commands_of n (lines_of rest) ≡ (command_at n line >>= λ command. commands_of (n + 1) (lines_of after) >>= λ commands. Ok (command ∷ commands))
unfolding commands_of
one_line n rest line after e = let more = parts_of (λ b. b == 10) after in rw (e, more.2) refl

regroup : (front : List Command) (command : Command) (read : Result (List Command) Fault) → with_front front (read >>= λ commands. Ok (command ∷ commands)) ≡ with_front (front ++ command ∷ []) read
regroup front command (Ok commands) = ap Ok (simp append_assoc)
regroup front command (Err fault) = refl

pub goes_on : (front : List Command) (n : ℕ) (rest line after : List ℕ) (command : Command) (total : Result (List Command) Fault) → lines_of rest ≡ line ∷ lines_of after → command_at n line ≡ Ok command
    → with_front front (commands_of n (lines_of rest)) ≡ total → with_front (front ++ command ∷ []) (commands_of (n + 1) (lines_of after)) ≡ total
goes_on front n rest line after command total e is so_far =
    let one : with_front front (commands_of n (lines_of rest)) ≡ with_front (front ++ command ∷ []) (commands_of (n + 1) (lines_of after)) = rw (one_line n rest line after e, is) (regroup front command (commands_of (n + 1) (lines_of after))) in
    sym one ∙ so_far

-- a line that is no command is the fault of all
stopped : (front : List Command) (n : ℕ) (rest line after : List ℕ) (total : Result (List Command) Fault) → lines_of rest ≡ line ∷ lines_of after → with_front front (commands_of n (lines_of rest)) ≡ total
    → total ≡ ((command_at n line >>= λ command. commands_of (n + 1) (lines_of after) >>= λ commands. Ok (command ∷ commands)) >>= λ commands. Ok (front ++ commands))
stopped front n rest line after total e so_far =
    let one : with_front front (commands_of n (lines_of rest)) ≡ ((command_at n line >>= λ command. commands_of (n + 1) (lines_of after) >>= λ commands. Ok (command ∷ commands)) >>= λ commands. Ok (front ++ commands)) = rw (one_line n rest line after e) refl in
    sym so_far ∙ one

pub stops_at : (fault : Fault) (front : List Command) (n : ℕ) (rest line after : List ℕ) (total : Result (List Command) Fault) → lines_of rest ≡ line ∷ lines_of after → command_at n line ≡ Err fault
    → with_front front (commands_of n (lines_of rest)) ≡ total → total ≡ Err fault
stops_at fault front n rest line after total e is so_far = stopped front n rest line after total e so_far ∙ rw is refl

pub stops : (fault : Fault) (front : List Command) (n : ℕ) (rest line after : List ℕ) (total : Result (List Command) Fault) → lines_of rest ≡ line ∷ lines_of after → command_at n line ≡ Err fault
    → with_front front (commands_of n (lines_of rest)) ≡ total → Fails fault total
stops fault front n rest line after total e is so_far = rw (stopped front n rest line after total e so_far) (failed fault _ _ (failed fault _ _ (bad_told (command_of (words_of line)) n fault is)))

pub is_done : (front : List Command) (n : ℕ) (rest : List ℕ) (total : Result (List Command) Fault) → lines_of rest ≡ rest ∷ [] → (length rest == 0) ≡ true → with_front front (commands_of n (lines_of rest)) ≡ total → total ≡ Ok front
unfolding commands_of
is_done front n rest total e empty so_far =
    let one : with_front front (commands_of n (lines_of rest)) ≡ Ok front = rw (e, empty) (ap Ok (append-nil front)) in
    sym so_far ∙ one

pub is_open : (front : List Command) (n : ℕ) (rest : List ℕ) (total : Result (List Command) Fault) → lines_of rest ≡ rest ∷ [] → (length rest == 0) ≡ false → with_front front (commands_of n (lines_of rest)) ≡ total → total ≡ Err (MissingNewline n)
unfolding commands_of
is_open front n rest total e some so_far =
    let one : with_front front (commands_of n (lines_of rest)) ≡ Err (MissingNewline n) = rw (e, some) refl in
    sym so_far ∙ one

-- as far as a loop has come: some commands were read, and the lines that are left are read behind them
pub record SoFar (lines : List ℕ) (n : ℕ) (rest : List ℕ) : Type 0 where
  pub front : List Command
  pub same : with_front front (commands_of n (lines_of rest)) ≡ commands_of 2 (lines_of lines)

no_front : (read : Result (List Command) Fault) → with_front [] read ≡ read
no_front (Ok commands) = refl
no_front (Err fault) = refl

pub so_far_none : (lines : List ℕ) → SoFar lines 2 lines
so_far_none lines = record { front = []; same = no_front (commands_of 2 (lines_of lines)) }

pub so_far_line : (lines : List ℕ) (n : ℕ) (rest line after : List ℕ) (command : Command) → lines_of rest ≡ line ∷ lines_of after → command_at n line ≡ Ok command → SoFar lines n rest → SoFar lines (n + 1) after
so_far_line lines n rest line after command e is so = record { front = so.front ++ command ∷ []; same = goes_on so.front n rest line after command (commands_of 2 (lines_of lines)) e is so.same }

-- the fault of lines is one that a file may have
last_told : (b : Bool) (n : ℕ) (read : Result (List Command) Fault) (fault : Fault) → read ≡ (if b then Ok [] else Err (MissingNewline n)) → read ≡ Err fault → Fails fault read
last_told true n read fault is e = absurd (cc (sym is ∙ e))
last_told false n read fault is e = subst (λ (f : Fault). Fails f read) (same_fault (MissingNewline n) fault read is e) is

pub lines_told : (n : ℕ) (lines : List (List ℕ)) (fault : Fault) → commands_of n lines ≡ Err fault → Fails fault (commands_of n lines)
unfolding commands_of
lines_told n [] fault e = absurd (no_fault [] fault e)
lines_told n (last ∷ []) fault e = last_told (length last == 0) n _ fault refl e
lines_told n (line ∷ next ∷ rest) fault e =
    then_told (command_at n line) (λ command. commands_of (n + 1) (next ∷ rest) >>= λ commands. Ok (command ∷ commands)) (bad_told (command_of (words_of line)) n)
    (λ command. then_told (commands_of (n + 1) (next ∷ rest)) (λ commands. Ok (command ∷ commands)) (lines_told (n + 1) (next ∷ rest)) (λ commands other is. absurd (no_fault (command ∷ commands) other is)))
    fault e
