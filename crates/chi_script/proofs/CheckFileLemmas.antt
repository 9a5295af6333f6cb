-- A check file is read from lines that are its comments, its header and its checks, and from those alone.
use Rattle.std.proofs.Common.{◌≡◌, inl, inr, ℕ, ◌+◌, ◌<◌, ◌≤◌, ◌==◌, nat_lt, Bool, true, false, cond, List, [], ◌∷◌, ◌++◌, length, take, Option, Some, None, Result, Ok, Err, refl, sym, ap, subst, ◌∙◌, arith}
use Rattle.std.specs.Prelude.{ok_or}
use Rattle.std.proofs.lemmas.Bool.Decides.{nat_tests}
use Rattle.std.proofs.lemmas.List.{take_all, length-take}
use Rattle.chi_script.specs.declared.faults.Fault.{Fault}
use Rattle.chi_script.specs.declared.faults.Fault.TheVariants.{BadHeader, BadCommand, MissingNewline, TooLarge}
use Rattle.chi_flit.specs.Config.{Sizes}
use Rattle.chi_script.specs.Files.{◌>>=◌, header_at, lines_of}
use Rattle.chi_script.specs.Headers.{header_of}
use Rattle.chi_script.specs.Spelling.{IsHeaderLine}
use Rattle.chi_script.specs.Words.{words_of}
use Rattle.chi_script.proofs.HeaderLemmas.{header_line, header_line_again}
use Rattle.chi_script.proofs.LineLemmas.{parts_of}
use Rattle.chi_script.specs.Checks.{CheckLine, check_of, is_comment}
use Rattle.chi_script.specs.CheckFiles.{most_check_bytes, check_at, check_file_of, checks_at, checks_of, check_script_of}
use Rattle.chi_script.specs.CheckSpelling.{AreChecks, AreHeaderAndChecks, IsCheckFile, IsCheckLine, IsComment}
use Rattle.chi_script.proofs.CheckLemmas.{check_again, check_no_comment, check_read, comment_again, comment_read, header_no_comment}

pub bound : {A B : Type 0} (step : Result A Fault) (next : A → Result B Fault) (y : B) → (step >>= next) ≡ Ok y → (x : A) × (step ≡ Ok x) × (next x ≡ Ok y)
bound (Ok x) next y e = (x, refl, e)
bound (Err fault) next y e = cc

pub taken : {A : Type 0} (o : Option A) (fault : Fault) (x : A) → ok_or o fault ≡ Ok x → o ≡ Some x
taken None fault x e = cc
taken (Some y) fault x e = let same : y ≡ x = cc in ap Some same

-- behind the last line end stands nothing
pub last_read : (b : Bool) (n : ℕ) (checks : List CheckLine) → cond b (Ok []) (Err (MissingNewline n)) ≡ Ok checks → (b ≡ true) × ([] ≡ checks)
last_read true n checks e = let same : [] ≡ checks = cc in (refl, same)
last_read false n checks e = cc

is_empty : (last : List ℕ) → (length last == 0) ≡ true → last ≡ []
is_empty [] e = refl
is_empty (b ∷ bs) e = absurd (let no : 1 ≤ 0 = grind (arith, nat_tests) in omega (arith, no))

-- lines, each of which a line end closes, that are these checks
record AreRead (n : ℕ) (checks : List CheckLine) (all : List (List ℕ)) : Type 0 where
  lines : List (List ℕ)
  closed : all ≡ lines ++ [] ∷ []
  text : AreChecks n checks lines

-- what one line is
none_here : (checks : List CheckLine) → ◌≡◌ {A = Result (List CheckLine) Fault} (Ok []) (Ok checks) → [] ≡ checks
none_here checks e = cc

-- the checks of a line, and those of the lines behind it
one_check : (n : ℕ) (line : List ℕ) (here later checks : List CheckLine) (lines : List (List ℕ)) (comment : Bool) → is_comment line ≡ comment
    → cond comment (Ok []) (check_at n line >>= λ check. Ok (check ∷ [])) ≡ Ok here → here ++ later ≡ checks → AreChecks (n + 1) later lines → AreChecks n checks (line ∷ lines)
one_check n line here later checks lines true is read same text =
    let none : later ≡ checks = ap (λ (cs : List CheckLine). cs ++ later) (none_here here read) ∙ same in
    inl (comment_read line is, subst (λ (cs : List CheckLine). AreChecks (n + 1) cs lines) none text)
one_check n line here later checks lines false is read same text =
    let found = bound (check_at n line) (λ check. Ok (check ∷ [])) here read in
    let one : found.0 ∷ [] ≡ here = let last = found.2 in cc in
    let whole : checks ≡ found.0 ∷ later = sym same ∙ ap (λ (cs : List CheckLine). cs ++ later) (sym one) in
    inr (found.0, later, whole, check_read n line found.0 (taken (check_of n line) (BadCommand n) found.0 found.1), text)

checks_read : (n : ℕ) (line : List ℕ) (rest : List (List ℕ)) (checks : List CheckLine) → checks_of n (line ∷ rest) ≡ Ok checks → AreRead n checks (line ∷ rest)
unfolding checks_of
checks_read n last [] checks e =
    let end = last_read (length last == 0) n checks e in
    record { lines = []; closed = ap (λ (l : List ℕ). l ∷ []) (is_empty last end.0); text = sym end.1 }
checks_read n line (next ∷ rest) checks e =
    let one = bound (checks_at n line) (λ here. checks_of (n + 1) (next ∷ rest) >>= λ later. Ok (here ++ later)) checks e in
    let more = bound (checks_of (n + 1) (next ∷ rest)) (λ later. Ok (one.0 ++ later)) checks one.2 in
    let same : one.0 ++ more.0 ≡ checks = let last = more.2 in cc in
    let read = checks_read (n + 1) next rest more.0 more.1 in
    record { lines = line ∷ read.lines; closed = ap (λ (ls : List (List ℕ)). line ∷ ls) read.closed; text = one_check n line one.0 more.0 checks read.lines (is_comment line) refl one.1 same read.text }

-- the same with the header
record IsRead (n : ℕ) (header : Sizes) (checks : List CheckLine) (all : List (List ℕ)) : Type 0 where
  lines : List (List ℕ)
  closed : all ≡ lines ++ [] ∷ []
  text : AreHeaderAndChecks n header checks lines

no_file : (b : Bool) (f g : Fault) (x : Sizes × List CheckLine) → cond b (Err f) (Err g) ≡ Ok x → ⊥
no_file true f g x e = cc
no_file false f g x e = cc

behind_comment : (n : ℕ) (header : Sizes) (checks : List CheckLine) (line : List ℕ) (rest : List (List ℕ)) → is_comment line ≡ true → IsRead (n + 1) header checks rest → IsRead n header checks (line ∷ rest)
behind_comment n header checks line rest is read = record { lines = line ∷ read.lines; closed = ap (λ (ls : List (List ℕ)). line ∷ ls) read.closed; text = inl (comment_read line is, read.text) }

-- a header's line, and what was read behind it
abbrev behind_header : ℕ → List ℕ → Result (List CheckLine) Fault → Result (Sizes × List CheckLine) Fault
behind_header n line read = header_at n line >>= λ header. read >>= λ checks. Ok (header, checks)

with_header : (n : ℕ) (header : Sizes) (checks : List CheckLine) (line next : List ℕ) (rest : List (List ℕ)) → behind_header n line (checks_of (n + 1) (next ∷ rest)) ≡ Ok (header, checks)
    → IsRead n header checks (line ∷ next ∷ rest)
with_header n header checks line next rest e =
    let first = bound (header_at n line) (λ h. checks_of (n + 1) (next ∷ rest) >>= λ cs. Ok (h, cs)) (header, checks) e in
    let more = bound (checks_of (n + 1) (next ∷ rest)) (λ cs. Ok (first.0, cs)) (header, checks) first.2 in
    let same : ◌≡◌ {A = Sizes × List CheckLine} (first.0, more.0) (header, checks) = let last = more.2 in cc in
    let read = checks_read (n + 1) next rest more.0 more.1 in
    let spelled = header_line line first.0 (taken (header_of (words_of line)) (BadHeader n) first.0 first.1) in
    subst (λ (x : Sizes × List CheckLine). IsRead n x.0 x.1 (line ∷ next ∷ rest)) same
    (record { lines = line ∷ read.lines; closed = ap (λ (ls : List (List ℕ)). line ∷ ls) read.closed; text = inr (spelled, read.text) })

pick_line : (n : ℕ) (header : Sizes) (checks : List CheckLine) (line next : List ℕ) (rest : List (List ℕ)) (comment : Bool) (later : Result (Sizes × List CheckLine) Fault) → is_comment line ≡ comment
    → cond comment later (behind_header n line (checks_of (n + 1) (next ∷ rest))) ≡ Ok (header, checks)
    → (later ≡ Ok (header, checks) → IsRead (n + 1) header checks (next ∷ rest)) → IsRead n header checks (line ∷ next ∷ rest)
pick_line n header checks line next rest true later is e go = behind_comment n header checks line (next ∷ rest) is (go e)
pick_line n header checks line next rest false later is e go = with_header n header checks line next rest e

lines_read : (n : ℕ) (header : Sizes) (checks : List CheckLine) (line : List ℕ) (rest : List (List ℕ)) → check_script_of n (line ∷ rest) ≡ Ok (header, checks) → IsRead n header checks (line ∷ rest)
unfolding check_script_of
lines_read n header checks last [] e = absurd (no_file (length last == 0) (BadHeader n) (MissingNewline n) (header, checks) e)
lines_read n header checks line (next ∷ rest) e = pick_line n header checks line next rest (is_comment line) (check_script_of (n + 1) (next ∷ rest)) refl e (lines_read (n + 1) header checks next rest)

-- a file that isn't too large
fits : (b : Bool) (read : Result (Sizes × List CheckLine) Fault) (x : Sizes × List CheckLine) → cond b (Err TooLarge) read ≡ Ok x → (b ≡ false) × (read ≡ Ok x)
fits true read x e = cc
fits false read x e = (refl, e)

not_above : (most n : ℕ) → nat_lt most n ≡ false → n ≤ most
not_above most n e = grind (arith, nat_tests)

not_large : (most n : ℕ) → n ≤ most → nat_lt most n ≡ false
not_large most n le = grind (arith, nat_tests)

pub file_read : (header : Sizes) (checks : List CheckLine) (file : List ℕ) → check_file_of file ≡ Ok (header, checks) → IsCheckFile header checks file
unfolding check_file_of
file_read header checks file e =
    let size = fits (nat_lt most_check_bytes (length file)) (check_script_of 1 (lines_of file)) (header, checks) e in
    let parts = parts_of (λ b. b == 10) file in
    let read = lines_read 1 header checks parts.0 parts.1 (ap (check_script_of 1) (sym parts.2) ∙ size.1) in
    record { size = not_above most_check_bytes (length file) size.0; lines = read.lines; closed = parts.2 ∙ read.closed; text = read.text }

-- lines that something stands behind
some_behind : (lines : List (List ℕ)) → (first : List ℕ) × (others : List (List ℕ)) × (lines ++ [] ∷ [] ≡ first ∷ others)
some_behind [] = ([], [], refl)
some_behind (line ∷ lines) = (line, lines ++ [] ∷ [], refl)

one_line : (n : ℕ) (line : List ℕ) (lines : List (List ℕ)) → checks_of n (line ∷ lines ++ [] ∷ []) ≡ (checks_at n line >>= λ here. checks_of (n + 1) (lines ++ [] ∷ []) >>= λ later. Ok (here ++ later))
unfolding checks_of
one_line n line lines = let more = some_behind lines in rw more.2 refl

comment_at : (n : ℕ) (line : List ℕ) → IsComment line → checks_at n line ≡ Ok []
comment_at n line is = rw (comment_again line is) refl

pub check_at_again : (n : ℕ) (line : List ℕ) (check : CheckLine) → IsCheckLine n check line → checks_at n line ≡ Ok (check ∷ [])
check_at_again n line check is = rw (check_no_comment n check line is, check_again n line check is) refl

checks_again : (n : ℕ) (checks : List CheckLine) (lines : List (List ℕ)) → AreChecks n checks lines → checks_of n (lines ++ [] ∷ []) ≡ Ok checks
unfolding checks_of
checks_again n checks [] is = ap Ok (sym is)
checks_again n checks (line ∷ lines) (inl is) = one_line n line lines ∙ rw (comment_at n line is.0, checks_again (n + 1) checks lines is.1) refl
checks_again n checks (line ∷ lines) (inr is) =
    let more = checks_again (n + 1) is.1 lines is.4 in
    one_line n line lines ∙ (rw (check_at_again n line is.0 is.3, more) refl ∙ ap Ok (sym is.2))

header_line_first : (n : ℕ) (header : Sizes) (line : List ℕ) (lines : List (List ℕ)) → IsHeaderLine header line
    → check_script_of n (line ∷ lines ++ [] ∷ []) ≡ (checks_of (n + 1) (lines ++ [] ∷ []) >>= λ checks. Ok (header, checks))
unfolding check_script_of
header_line_first n header line lines is =
    let more = some_behind lines in
    let read = header_line_again line header is in
    rw (more.2, header_no_comment header line is, read) refl

comment_first : (n : ℕ) (line : List ℕ) (lines : List (List ℕ)) → IsComment line → check_script_of n (line ∷ lines ++ [] ∷ []) ≡ check_script_of (n + 1) (lines ++ [] ∷ [])
unfolding check_script_of
comment_first n line lines is = let more = some_behind lines in rw (more.2, comment_again line is) refl

lines_again : (n : ℕ) (header : Sizes) (checks : List CheckLine) (lines : List (List ℕ)) → AreHeaderAndChecks n header checks lines → check_script_of n (lines ++ [] ∷ []) ≡ Ok (header, checks)
lines_again n header checks [] is = absurd is
lines_again n header checks (line ∷ lines) (inl is) = comment_first n line lines is.0 ∙ lines_again (n + 1) header checks lines is.1
lines_again n header checks (line ∷ lines) (inr is) = header_line_first n header line lines is.0 ∙ rw (checks_again (n + 1) checks lines is.1) refl

pub file_again : (header : Sizes) (checks : List CheckLine) (file : List ℕ) → IsCheckFile header checks file → check_file_of file ≡ Ok (header, checks)
unfolding check_file_of
file_again header checks file is = rw (not_large most_check_bytes (length file) is.size, is.closed) (lines_again 1 header checks is.lines is.text)

-- one byte more than a check file may have is enough of it
large : (most n : ℕ) → most < n → nat_lt most n ≡ true
large most n more = grind (arith, nat_tests)

at_most : (most n : ℕ) → nat_lt most n ≡ false → n ≤ 1 + most
at_most most n is = grind (arith, nat_tests)

above : (most n : ℕ) → nat_lt most n ≡ true → most < n
above most n is = grind (arith, nat_tests)

still_above : (most : ℕ) (file : List ℕ) → most < length file → most < length (take (1 + most) file)
still_above most file more = omega (arith, more, length-take (1 + most) file)

pub too_large : (file : List ℕ) → most_check_bytes < length file → check_file_of file ≡ Err TooLarge
unfolding check_file_of
too_large file more = rw (large most_check_bytes (length file) more) refl

-- of a file that isn't too large that is all
pub all_taken : (file : List ℕ) → nat_lt most_check_bytes (length file) ≡ false → take (1 + most_check_bytes) file ≡ file
all_taken file is = take_all (1 + most_check_bytes) file (at_most most_check_bytes (length file) is)

enough : (file : List ℕ) (b : Bool) → nat_lt most_check_bytes (length file) ≡ b → check_file_of (take (1 + most_check_bytes) file) ≡ check_file_of file
enough file false is = ap check_file_of (all_taken file is)
enough file true is =
    let more : most_check_bytes < length file = above most_check_bytes (length file) is in
    too_large (take (1 + most_check_bytes) file) (still_above most_check_bytes file more) ∙ sym (too_large file more)

pub front_enough : (file : List ℕ) → check_file_of (take (1 + most_check_bytes) file) ≡ check_file_of file
front_enough file = enough file (nat_lt most_check_bytes (length file)) refl

-- of a good file all was taken
whole_if : (file : List ℕ) (b : Bool) (read : Sizes × List CheckLine) → nat_lt most_check_bytes (length file) ≡ b → check_file_of file ≡ Ok read → take (1 + most_check_bytes) file ≡ file
whole_if file false read is good = all_taken file is
whole_if file true read is good = absurd (cc (good, too_large file (above most_check_bytes (length file) is)))

pub whole : (file : List ℕ) (read : Sizes × List CheckLine) → check_file_of file ≡ Ok read → take (1 + most_check_bytes) file ≡ file
whole file read good = whole_if file (nat_lt most_check_bytes (length file)) read refl good
