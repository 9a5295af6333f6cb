-- Checks are read as they are spelled, and only so; no check and no header is a comment.
use Rattle.std.proofs.Common.{◌≡◌, ℕ, ◌==◌, Bool, true, false, List, [], ◌∷◌, Option, Some, None, refl, sym, ap, subst, ◌∙◌, arith}
use Rattle.std.proofs.lemmas.Bool.Decides.{nat_tests}
use Rattle.chi_script.specs.declared.commands.Command.{Command}
use Rattle.chi_flit.specs.Config.{Sizes}
use Rattle.chi_script.specs.Commands.{command_of}
use Rattle.chi_script.specs.Verbs.{verb_named}
use Rattle.chi_script.specs.Spelling.{IsHeaderLine}
use Rattle.chi_script.specs.Words.{◌>>=◌, words_of}
use Rattle.chi_script.proofs.CommandLemmas.{line_again, line_read}
use Rattle.chi_script.proofs.LineLemmas.{parts_of as cut}
use Rattle.chi_script.proofs.NumberLemmas.{bound}
use Rattle.chi_script.specs.Checks.{CheckLine, check_of, is_comment, parts_of}
use Rattle.chi_script.specs.CheckSpelling.{IsCheckLine, IsComment, with_answer}
use Rattle.chi_script.proofs.MarkLemmas.{line_plain}
use Rattle.chi_script.proofs.PartLemmas.{joined, parted}

abbrev pub made : ℕ → Option (List ℕ) → Command → CheckLine
made n wanted command = record { line = n; command = command; wanted = wanted }

-- a line's check by its parts
abbrev pub check_by : ℕ → List ℕ × Option (List ℕ) → Option CheckLine
check_by n parts = command_of (words_of parts.0) >>= λ command. Some (made n parts.1 command)

pub check_read : (n : ℕ) (line : List ℕ) (check : CheckLine) → check_of n line ≡ Some check → IsCheckLine n check line
check_read n line check e =
    let parts = parts_of line in
    let found = bound (command_of (words_of parts.0)) (λ command. Some (made n parts.1 command)) check e in
    let same : made n parts.1 found.0 ≡ check = let last = found.2 in cc in
    subst (λ (c : CheckLine). IsCheckLine n c line) same (record { number = refl; front = parts.0; command = line_read parts.0 found.0 found.1; text = sym (joined line) })

pub check_again : (n : ℕ) (line : List ℕ) (check : CheckLine) → IsCheckLine n check line → check_of n line ≡ Some check
check_again n line check is =
    let parts = parted is.front check.wanted (line_plain check.command is.front is.command) in
    ap (λ (l : List ℕ). check_by n (parts_of l)) is.text
    ∙ (ap (check_by n) parts
    ∙ (ap (λ (o : Option Command). o >>= λ command. Some (made n check.wanted command)) (line_again is.front check.command is.command)
    ∙ ap (λ (l : ℕ). Some (made l check.wanted check.command)) (sym is.number)))

-- no verb begins with #
hash_named : (w : List ℕ) → verb_named (35 ∷ w) ≡ None
unfolding verb_named
hash_named w = refl

empty_none : command_of (words_of []) ≡ None
unfolding verb_named
empty_none = refl

hash_none : (bs : List ℕ) → command_of (words_of (35 ∷ bs)) ≡ None
hash_none bs = let parts = cut (λ b. b == 32) bs in rw (parts.2, hash_named parts.0) refl

is_hash : (b : ℕ) → (b == 35) ≡ true → b ≡ 35
is_hash b e = grind (arith, nat_tests)

none_some : {A : Type 0} (o : Option A) (x : A) → o ≡ None → o ≡ Some x → ⊥
none_some o x e f = cc (e, f)

no_hash : (t : Bool) (b : ℕ) (bs : List ℕ) (command : Command) → (b == 35) ≡ t → command_of (words_of (b ∷ bs)) ≡ Some command → t ≡ false
no_hash false b bs command is e = refl
no_hash true b bs command is e = absurd (none_some (command_of (words_of (b ∷ bs))) command (ap (λ (x : ℕ). command_of (words_of (x ∷ bs))) (is_hash b is) ∙ hash_none bs) e)

pub command_no_comment : (line : List ℕ) (command : Command) → command_of (words_of line) ≡ Some command → is_comment line ≡ false
command_no_comment [] command e = absurd (none_some (command_of (words_of [])) command empty_none e)
command_no_comment (b ∷ bs) command e = no_hash (b == 35) b bs command refl e

same_front : (front : List ℕ) (wanted : Option (List ℕ)) → is_comment front ≡ false → is_comment (with_answer front wanted) ≡ false
same_front [] wanted e = cc
same_front (b ∷ bs) None e = e
same_front (b ∷ bs) (Some answer) e = e

pub check_no_comment : (n : ℕ) (check : CheckLine) (line : List ℕ) → IsCheckLine n check line → is_comment line ≡ false
check_no_comment n check line is = ap is_comment is.text ∙ same_front is.front check.wanted (command_no_comment is.front check.command (line_again is.front check.command is.command))

pub header_no_comment : (header : Sizes) (line : List ℕ) → IsHeaderLine header line → is_comment line ≡ false
header_no_comment header line is = ap is_comment is.1

pub comment_read : (line : List ℕ) → is_comment line ≡ true → IsComment line
comment_read [] e = tt
comment_read (b ∷ bs) e = is_hash b e

pub comment_again : (line : List ℕ) → IsComment line → is_comment line ≡ true
comment_again [] is = refl
comment_again (b ∷ bs) is = ap (λ (x : ℕ). x == 35) is
