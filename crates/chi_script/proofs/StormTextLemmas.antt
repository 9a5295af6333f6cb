-- A storm file is read from the one text of its header and its operations, and from that alone.
use Rattle.std.proofs.Common.{◌≡◌, ℕ, ◌+◌, ◌≤◌, ◌==◌, nat_lt, Bool, true, false, cond, List, [], ◌∷◌, ◌++◌, length, map, get_or, Option, Some, None, Result, Ok, Err, refl, sym, ap, subst, ◌∙◌, arith}
use Rattle.std.specs.Prelude.{ok_or}
use Rattle.std.specs.List.{All, join_with_byte}
use Rattle.std.specs.Fmt.{decimal}
use Rattle.std.proofs.lemmas.Bool.Decides.{nat_tests}
use Rattle.std.proofs.lemmas.List.Elements.{All-nil, All-cons, All-head, All-tail}
use Rattle.std.proofs.lemmas.List.Splits.{join_with_byte-slice_split}
use Rattle.chi_flit.specs.declared.credit.Profile.{Profile}
use Rattle.chi_flit.specs.declared.credit.Profile.TheVariants.{Two, Four}
use Rattle.chi_flit.specs.declared.operation.Task.{Task}
use Rattle.chi_flit.specs.declared.operation.Task.TheVariants.{Load, Share, Store, WriteBack, WriteClean, WriteEvict, Evict, Drop}
use Rattle.chi_script.specs.declared.faults.Fault.{Fault}
use Rattle.chi_script.specs.declared.faults.Fault.TheVariants.{BadHeader, BadCommand, MissingNewline, TooLarge}
use Rattle.chi_flit.specs.Config.{Sizes}
use Rattle.chi_script.specs.Files.{◌>>=◌, lines_of, header_at}
use Rattle.chi_script.specs.Headers.{is_in_limits}
use Rattle.chi_script.specs.Spelling.{header_words, type_words}
use Rattle.chi_script.specs.Words.{words_of}
use Rattle.chi_script.proofs.HeaderLemmas.{header_line, header_line_again}
use Rattle.chi_script.proofs.LackLemmas.{lacks, all_lack, decimal_lacks, line_lacks, next_line}
use Rattle.chi_script.proofs.LineLemmas.{parts_of}
use Rattle.chi_script.specs.declared.operations.AgentOperation.{AgentOperation}
use Rattle.chi_script.specs.Operations.{operation_of}
use Rattle.chi_script.specs.StormSpelling.{IsInRange, IsStormFile, closed_lines, operation_line, operation_words, storm_text, words_behind, verb_of}
use Rattle.chi_script.specs.Storms.{operation_at, operations_from, storm_in, storm_of}
use Rattle.chi_script.proofs.LineEndLemmas.{closed_again}
use Rattle.chi_script.proofs.OperationLemmas.{line_read, line_again}
use Rattle.chi_script.proofs.StormLemmas.{good}

bound : {A B : Type 0} (step : Result A Fault) (next : A → Result B Fault) (y : B) → (step >>= next) ≡ Ok y → (x : A) × (step ≡ Ok x) × (next x ≡ Ok y)
bound (Ok x) next y e = (x, refl, e)
bound (Err fault) next y e = cc

found : {A : Type 0} (o : Option A) (fault : Fault) (x : A) → ok_or o fault ≡ Ok x → o ≡ Some x
found None fault x e = cc
found (Some y) fault x e = let same : y ≡ x = cc in ap Some same

-- behind the last line end stands nothing
last_read : (b : Bool) (n : ℕ) (operations : List AgentOperation) → cond b (Ok []) (Err (MissingNewline n)) ≡ Ok operations → (b ≡ true) × ([] ≡ operations)
last_read true n operations e = let same : [] ≡ operations = cc in (refl, same)
last_read false n operations e = cc

is_empty : (last : List ℕ) → (length last == 0) ≡ true → last ≡ []
is_empty [] e = refl
is_empty (b ∷ bs) e = absurd (let no : 1 ≤ 0 = grind (arith, nat_tests) in omega (arith, no))

-- what lines that are read as operations are
record AreRead (header : Sizes) (operations : List AgentOperation) (lines : List (List ℕ)) : Type 0 where
  ranges : All (IsInRange header) operations
  text : join_with_byte 10 lines ≡ closed_lines (map operation_line operations)

none_read : (header : Sizes) (last : List ℕ) (operations : List AgentOperation) → last ≡ [] → [] ≡ operations → AreRead header operations (last ∷ [])
none_read header last operations empty none = subst (λ (ds : List AgentOperation). AreRead header ds (last ∷ [])) none (record { ranges = All-nil (IsInRange header); text = empty })

one_more : (header : Sizes) (operation : AgentOperation) (operations all : List AgentOperation) (line next : List ℕ) (rest : List (List ℕ)) → IsInRange header operation → line ≡ operation_line operation → AreRead header operations (next ∷ rest) → operation ∷ operations ≡ all → AreRead header all (line ∷ next ∷ rest)
one_more header operation operations all line next rest ranges is before same =
    subst (λ (ds : List AgentOperation). AreRead header ds (line ∷ next ∷ rest)) same (record {
      ranges = All-cons (IsInRange header) operation operations ranges before.ranges;
      text = ap (λ (bytes : List ℕ). bytes ++ 10 ∷ join_with_byte 10 (next ∷ rest)) is ∙ ap (λ (bytes : List ℕ). operation_line operation ++ 10 ∷ bytes) before.text;
    })

operations_read : (header : Sizes) (n : ℕ) (line : List ℕ) (rest : List (List ℕ)) (operations : List AgentOperation) → operations_from header n (line ∷ rest) ≡ Ok operations → AreRead header operations (line ∷ rest)
unfolding operations_from
operations_read header n last [] operations e =
    let end = last_read (length last == 0) n operations e in
    none_read header last operations (is_empty last end.0) end.1
operations_read header n line (next ∷ rest) operations e =
    let one = bound (operation_at header n line) (λ operation. operations_from header (n + 1) (next ∷ rest) >>= λ ds. Ok (operation ∷ ds)) operations e in
    let more = bound (operations_from header (n + 1) (next ∷ rest)) (λ ds. Ok (one.0 ∷ ds)) operations one.2 in
    let spelled = line_read header line one.0 (found (operation_of header (words_of line)) (BadCommand n) one.0 one.1) in
    let same : one.0 ∷ more.0 ≡ operations = let last = more.2 in cc in
    one_more header one.0 more.0 operations line next rest spelled.0 spelled.1 (operations_read header (n + 1) next rest more.0 more.1) same

-- no fault is a header with operations
no_fault : (b : Bool) (f g : Fault) (x : Sizes × List AgentOperation) → cond b (Err f) (Err g) ≡ Ok x → ⊥
no_fault true f g x e = cc
no_fault false f g x e = cc

record IsRead (header : Sizes) (operations : List AgentOperation) (lines : List (List ℕ)) : Type 0 where
  limits : is_in_limits header ≡ true
  ranges : All (IsInRange header) operations
  text : join_with_byte 10 lines ≡ storm_text header operations

whole_read : (header other : Sizes) (operations others : List AgentOperation) (line next : List ℕ) (rest : List (List ℕ)) → is_in_limits header ≡ true → line ≡ join_with_byte 32 (header_words header) → AreRead header operations (next ∷ rest) → ◌≡◌ {A = Sizes × List AgentOperation} (header, operations) (other, others) → IsRead other others (line ∷ next ∷ rest)
whole_read header other operations others line next rest limits is read same =
    subst (λ (x : Sizes × List AgentOperation). IsRead x.0 x.1 (line ∷ next ∷ rest)) same (record {
      limits = limits;
      ranges = read.ranges;
      text = ap (λ (bytes : List ℕ). bytes ++ 10 ∷ join_with_byte 10 (next ∷ rest)) is ∙ ap (λ (bytes : List ℕ). join_with_byte 32 (header_words header) ++ 10 ∷ bytes) read.text;
    })

lines_read : (header : Sizes) (operations : List AgentOperation) (lines : List (List ℕ)) → storm_in lines ≡ Ok (header, operations) → IsRead header operations lines
lines_read header operations [] e = cc
lines_read header operations (last ∷ []) e = absurd (no_fault (length last == 0) (BadHeader 1) (MissingNewline 1) (header, operations) e)
lines_read header operations (line ∷ next ∷ rest) e =
    let first = bound (header_at 1 line) (λ h. operations_from h 2 (next ∷ rest) >>= λ ds. Ok (h, ds)) (header, operations) e in
    let more = bound (operations_from first.0 2 (next ∷ rest)) (λ ds. Ok (first.0, ds)) (header, operations) first.2 in
    let spelled = header_line line first.0 (found _ (BadHeader 1) first.0 first.1) in
    let same : ◌≡◌ {A = Sizes × List AgentOperation} (first.0, more.0) (header, operations) = let last = more.2 in cc in
    whole_read first.0 header more.0 operations line next rest spelled.0 spelled.1 (operations_read first.0 2 next rest more.0 more.1) same

-- a file that isn't too large
fits : (b : Bool) (read : Result (Sizes × List AgentOperation) Fault) (x : Sizes × List AgentOperation) → cond b (Err TooLarge) read ≡ Ok x → (b ≡ false) × (read ≡ Ok x)
fits true read x e = cc
fits false read x e = (refl, e)

not_above : (n : ℕ) → nat_lt 1048576 n ≡ false → n ≤ 1048576
not_above n e = grind (arith, nat_tests)

pub storm_read : (header : Sizes) (operations : List AgentOperation) (file : List ℕ) → storm_of file ≡ Ok (header, operations) → IsStormFile header operations file
unfolding storm_of
storm_read header operations file e =
    let size = fits (nat_lt 1048576 (length file)) (storm_in (lines_of file)) (header, operations) e in
    let read = lines_read header operations (lines_of file) size.1 in
    record { limits = read.limits; ranges = read.ranges; size = not_above (length file) size.0; text = sym (join_with_byte-slice_split 10 file) ∙ read.text }

-- lines that something stands behind
some_behind : (lines : List (List ℕ)) → (first : List ℕ) × (others : List (List ℕ)) × (lines ++ [] ∷ [] ≡ first ∷ others)
some_behind [] = ([], [], refl)
some_behind (line ∷ lines) = (line, lines ++ [] ∷ [], refl)

one_line : (header : Sizes) (n : ℕ) (line : List ℕ) (lines : List (List ℕ)) → operations_from header n (line ∷ lines ++ [] ∷ []) ≡ (operation_at header n line >>= λ operation. operations_from header (n + 1) (lines ++ [] ∷ []) >>= λ operations. Ok (operation ∷ operations))
unfolding operations_from
one_line header n line lines = let more = some_behind lines in rw more.2 refl

operations_again : (header : Sizes) (n : ℕ) (operations : List AgentOperation) → is_in_limits header ≡ true → All (IsInRange header) operations → operations_from header n (map operation_line operations ++ [] ∷ []) ≡ Ok operations
unfolding operations_from
operations_again header n [] limits ranges = refl
operations_again header n (operation ∷ operations) limits ranges =
    let read = line_again header (operation_line operation) operation limits (All-head (IsInRange header) operation operations ranges, refl) in
    let at : operation_at header n (operation_line operation) ≡ Ok operation = rw read refl in
    let more = operations_again header (n + 1) operations limits (All-tail (IsInRange header) operation operations ranges) in
    one_line header n (operation_line operation) (map operation_line operations) ∙ rw (at, more) refl

-- no line of a file has a line end in it
plain : (n : ℕ) → lacks 10 (decimal n) ≡ true
plain n = decimal_lacks 10 n refl

types_plain : (profile : Profile) (entries : List ℕ) (journal : ℕ) → all_lack 10 (type_words profile entries journal) ≡ true
types_plain Two entries journal = rw (plain (get_or entries 0 0), plain (get_or entries 1 0), plain journal) refl
types_plain Four entries journal = rw (plain (get_or entries 0 0), plain (get_or entries 1 0), plain (get_or entries 2 0), plain (get_or entries 3 0), plain journal) refl

header_plain : (header : Sizes) → lacks 10 (join_with_byte 32 (header_words header)) ≡ true
header_plain header = line_lacks 10 (header_words header) refl (rw (plain header.agents, plain header.lines, plain header.slices, types_plain header.profile header.entries header.journal) refl)

verb_plain : (task : Task) → lacks 10 (verb_of task) ≡ true
verb_plain (Load w) = refl
verb_plain (Share w) = refl
verb_plain (Store w v) = refl
verb_plain WriteBack = refl
verb_plain WriteClean = refl
verb_plain WriteEvict = refl
verb_plain Evict = refl
verb_plain Drop = refl

behind_plain : (task : Task) → all_lack 10 (words_behind task) ≡ true
behind_plain (Load w) = rw (plain w.0) refl
behind_plain (Share w) = rw (plain w.0) refl
behind_plain (Store w v) = rw (plain w.0, plain v) refl
behind_plain WriteBack = refl
behind_plain WriteClean = refl
behind_plain WriteEvict = refl
behind_plain Evict = refl
behind_plain Drop = refl

operation_plain : (operation : AgentOperation) → lacks 10 (operation_line operation) ≡ true
operation_plain operation = line_lacks 10 (operation_words operation) refl (rw (verb_plain operation.operation.task, plain operation.agent.0, plain operation.operation.line.0, behind_plain operation.operation.task) refl)

operations_plain : (operations : List AgentOperation) → all_lack 10 (map operation_line operations) ≡ true
operations_plain [] = refl
operations_plain (operation ∷ operations) = rw (operation_plain operation, operations_plain operations) refl

pub storm_again : (header : Sizes) (operations : List AgentOperation) (file : List ℕ) → IsStormFile header operations file → storm_of file ≡ Ok (header, operations)
storm_again header operations file is =
    let line = join_with_byte 32 (header_words header) in
    let rest = closed_lines (map operation_line operations) in
    let first : lines_of file ≡ line ∷ lines_of rest = ap lines_of is.text ∙ next_line line rest (header_plain header) in
    let read = header_line_again line header (is.limits, refl) in
    let at : header_at 1 line ≡ Ok header = rw read refl in
    let all : operations_from header 2 (lines_of rest) ≡ Ok operations = ap (operations_from header 2) (closed_again (map operation_line operations) (operations_plain operations)) ∙ operations_again header 2 operations is.limits is.ranges in
    good file line rest header operations is.size first at all

-- what a file is read as is within its ranges
pub in_ranges : (header : Sizes) (operations : List AgentOperation) (rest : List ℕ) (n : ℕ) → operations_from header n (lines_of rest) ≡ Ok operations → All (IsInRange header) operations
in_ranges header operations rest n e =
    let more = parts_of (λ b. b == 10) rest in
    let read : operations_from header n (more.0 ∷ more.1) ≡ Ok operations = ap (operations_from header n) (sym more.2) ∙ e in
    (operations_read header n more.0 more.1 operations read).ranges
