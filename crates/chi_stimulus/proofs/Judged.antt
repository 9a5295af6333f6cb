-- What the second pass finds is what is promised of the file.
use Rattle.std.proofs.Common.{◌≡◌, ℕ, All, Bool, true, false, not, nat_lt, IsTrue, List, [], ◌∷◌, Option, Some, None, Result, Ok, Err, IfOk, length, map, refl, sym, ap, subst, ◌∙◌, arith, if◌then◌else◌}
use Rattle.std.proofs.lemmas.List.{length-map}
use Rattle.std.proofs.lemmas.List.Elements.{All-cons, All-head, All-map, All-nil, All-tail}
use Rattle.std.proofs.lemmas.Bool.{eqb-true}
use Rattle.std.proofs.lemmas.Slice.Eq.{bytes_eq-Decides}
use Rattle.std.specs.List.{filter}
use Rattle.std.specs.Str.{bytes_eq}
use Rattle.chi_script.specs.declared.commands.Command.{Command}
use Rattle.chi_script.specs.declared.faults.Fault.{Fault}
use Rattle.chi_flit.specs.Config.{Sizes}
use Rattle.chi_script.specs.declared.checks.Check.{Check}
use Rattle.chi_script.specs.Checks.{CheckLine, line_of_check}
use Rattle.chi_script.specs.CheckFiles.{check_file_of}
use Rattle.chi_script.specs.Headers.{line_header}
use Rattle.chi_replay.specs.Checks.{IsCheckReport, commands_in}
use Rattle.chi_replay.specs.Reports.{CheckedAnswer, checked_answers, differing, differs}
use Rattle.chi_replay.specs.Turns.{machine_at_start}
use Rattle.chi_replay.proofs.AnswerLines.{one_each}
use Rattle.chi_stimulus.specs.declared.options.DrawOptions.{DrawOptions}
use Rattle.chi_stimulus.specs.Stimulus.{HasCommands, IsNoRefusal, IsStimulus}
use Rattle.chi_stimulus.specs.SecondPass.{IsDrawn, is_plain, is_told}

abbrev wanted_of : List CheckLine → List (Option (List ℕ))
wanted_of checks = map (λ check. check.wanted) checks

abbrev IsTold : Bool → CheckLine → Type 0
IsTold wild check = is_told wild check.wanted ≡ true

abbrev AreTold : Bool → List CheckLine → Type 0
AreTold wild checks = All (IsTold wild) checks

-- one check more: its answer is the wanted one, and none of the others differs
record Here (wanted : Option (List ℕ)) (answer : List ℕ) (others : List CheckedAnswer) : Type 0 where
  same : wanted ≡ Some answer
  rest : filter differs others ≡ []

abbrev checked : ℕ → Command → Option (List ℕ) → List ℕ → CheckedAnswer
checked line command wanted answer = record { check = record { line = line; command = command; wanted = wanted }; answer = answer }

here : (wild : Bool) (line : ℕ) (command : Command) (wanted : Option (List ℕ)) (answer : List ℕ) (others : List CheckedAnswer)
    → is_told wild wanted ≡ true → filter differs (checked line command wanted answer ∷ others) ≡ [] → Here wanted answer others
here wild line command None answer others is none = absurd (cc (is))
here wild line command (Some wanted) answer others is none = by (bytes_eq answer wanted) refl none
  where
    by : (b : Bool) → bytes_eq answer wanted ≡ b → (if not b then checked line command (Some wanted) answer ∷ filter differs others else filter differs others) ≡ [] → Here (Some wanted) answer others
    by true e n = record { same = ap Some (sym ((bytes_eq-Decides answer wanted).0 e)); rest = n }
    by false e n = absurd (cc (n))

-- as many answers as checks, none of which differs: they are the wanted ones
all_told : (wild : Bool) (checks : List CheckLine) (answers : List (List ℕ)) → length answers ≡ length checks → AreTold wild checks → differing checks answers ≡ [] → wanted_of checks ≡ map Some answers
all_told wild [] [] count are none = refl
all_told wild [] (answer ∷ answers) count are none = absurd (omega (arith, count))
all_told wild (check ∷ checks) [] count are none = absurd (omega (arith, count))
all_told wild (check ∷ checks) (answer ∷ answers) count are none =
    let now : Here check.wanted answer (checked_answers checks answers) = here wild check.line check.command check.wanted answer (checked_answers checks answers) (All-head (IsTold wild) check checks are) none in
    let later : wanted_of checks ≡ map Some answers = all_told wild checks answers (omega (arith, count)) (All-tail (IsTold wild) check checks are) now.rest in
    ap (λ (w : Option (List ℕ)). w ∷ wanted_of checks) now.same ∙ ap (λ (ws : List (Option (List ℕ))). Some answer ∷ ws) later

abbrev first : List ℕ → ℕ
first [] = 0
first (byte ∷ bytes) = byte

-- an answer that begins with o is no refusal
no_refusal : (answer : List ℕ) → is_plain answer ≡ true → IsNoRefusal answer
no_refusal [] plain refusal e = absurd (cc (plain))
no_refusal (byte ∷ bytes) plain refusal e =
    let heads : byte ≡ 114 = ap first e in
    absurd (omega (arith, heads, eqb-true byte 111 plain))

told_plain : (answer : List ℕ) (wanted : Option (List ℕ)) → wanted ≡ Some answer → is_told false wanted ≡ true → is_plain answer ≡ true
told_plain answer wanted same is = subst (λ (w : Option (List ℕ)). is_told false w ≡ true) same is

head_is : (w : Option (List ℕ)) (a : List ℕ) (ws : List (Option (List ℕ))) (rest : List (List ℕ)) → w ∷ ws ≡ Some a ∷ map Some rest → w ≡ Some a
head_is w a ws rest e = cc (e)

rest_is : (w : Option (List ℕ)) (a : List ℕ) (ws : List (Option (List ℕ))) (rest : List (List ℕ)) → w ∷ ws ≡ Some a ∷ map Some rest → ws ≡ map Some rest
rest_is w a ws rest e = cc (e)

-- and so none of them tells a refusal
no_refusals : (checks : List CheckLine) (answers : List (List ℕ)) → AreTold false checks → wanted_of checks ≡ map Some answers → All IsNoRefusal answers
no_refusals checks [] are same = All-nil IsNoRefusal
no_refusals [] (answer ∷ answers) are same = absurd (cc (same))
no_refusals (check ∷ checks) (answer ∷ answers) are same =
    let w : check.wanted ≡ Some answer = head_is check.wanted answer (wanted_of checks) answers same in
    All-cons IsNoRefusal answer answers (no_refusal answer (told_plain answer check.wanted w (All-head (IsTold false) check checks are))) (no_refusals checks answers (All-tail (IsTold false) check checks are) (rest_is check.wanted answer (wanted_of checks) answers same))

abbrev header_read : Sizes → Result (Sizes × List CheckLine) Fault → Sizes
header_read other (Ok read) = read.0
header_read other (Err fault) = other

abbrev checks_read : Result (Sizes × List CheckLine) Fault → List CheckLine
checks_read (Ok read) = read.1
checks_read (Err fault) = []

same_header : (file : List ℕ) (a b : Sizes) (cs ds : List CheckLine) → check_file_of file ≡ Ok (a, cs) → check_file_of file ≡ Ok (b, ds) → a ≡ b
same_header file a b cs ds e f = ap (header_read a) (sym e ∙ f)

same_checks : (file : List ℕ) (a b : Sizes) (cs ds : List CheckLine) → check_file_of file ≡ Ok (a, cs) → check_file_of file ≡ Ok (b, ds) → cs ≡ ds
same_checks file a b cs ds e f = ap checks_read (sym e ∙ f)

-- all of it together
drawn_of : (header : Sizes) (options : DrawOptions) (file report line : List ℕ) (read : Sizes) (checks : List CheckLine) (is : IsCheckReport file true report)
    → check_file_of file ≡ Ok (read, checks) → read ≡ header → HasCommands options (length checks) → AreTold (nat_lt 0 options.wild) checks → line_header line ≡ Some header → IsStimulus line options file
drawn_of header options file report line read checks is good same count told says =
    let heads : is.answered.header ≡ read = same_header file is.answered.header read is.checks checks is.answered.good good in
    let both : is.checks ≡ checks = same_checks file is.answered.header read is.checks checks is.answered.good good in
    let as_many : length is.answers ≡ length is.checks = ap length is.answered.lines ∙ (one_each (machine_at_start is.answered.header) (commands_in is.checks) is.answered.replayed.answers ∙ length-map is.checks (λ (check : CheckLine). check.command)) in
    let are : AreTold (nat_lt 0 options.wild) is.checks = subst (λ (cs : List CheckLine). AreTold (nat_lt 0 options.wild) cs) (sym both) told in
    let answers_are : wanted_of is.checks ≡ map Some is.answers = all_told (nat_lt 0 options.wild) is.checks is.answers as_many are (is.verdict.0 refl) in
    record {
      checks = is.checks;
      answers = is.answers;
      answered = is.answered;
      sizes = says ∙ ap Some (sym same ∙ sym heads);
      told = answers_are;
      count = subst (λ (cs : List CheckLine). HasCommands options (length cs)) (sym both) count;
      enabled = λ none. no_refusals is.checks is.answers (subst (λ (w : ℕ). AreTold (nat_lt 0 w) is.checks) none are) answers_are;
    }

-- what is so of the checks that were read is so of their lines
of_read : (wild : Bool) (checks : List Check) → All (λ check. is_told wild (line_of_check check).wanted ≡ true) checks → AreTold wild (map line_of_check checks)
of_read wild checks are = All-map (IsTold wild) line_of_check checks are

drawn_if : (hold : Bool) (header : Sizes) (options : DrawOptions) (file : List ℕ) (read : Sizes) (checks : List Check) → check_file_of file ≡ Ok (read, map line_of_check checks) → read ≡ header → HasCommands options (length checks) → All (λ check. is_told (nat_lt 0 options.wild) (line_of_check check).wanted ≡ true) checks
    → (report : List ℕ) × IsCheckReport file hold report → IsTrue hold → IsDrawn header options file
drawn_if true header options file read checks good same count told found e line says =
    drawn_of header options file found.0 line read (map line_of_check checks) found.1 good same (subst (λ (n : ℕ). HasCommands options n) (sym (length-map checks line_of_check)) count) (of_read (nat_lt 0 options.wild) checks told) says
drawn_if false header options file read checks good same count told found e line says = absurd (cc (e))

pub is_drawn : {E : Type 0} (result : Result Bool E) (fits : Bool) (header : Sizes) (options : DrawOptions) (file : List ℕ) (read : Sizes) (checks : List Check) → check_file_of file ≡ Ok (read, map line_of_check checks) → fits ≡ true
    → (fits ≡ true → read ≡ header) → (fits ≡ true → HasCommands options (length checks)) → (fits ≡ true → All (λ check. is_told (nat_lt 0 options.wild) (line_of_check check).wanted ≡ true) checks)
    → IfOk result (λ hold. (report : List ℕ) × IsCheckReport file hold report) → IfOk result (λ good. IsTrue good → IsDrawn header options file)
is_drawn (Ok hold) fits header options file read checks good is same count told found = drawn_if hold header options file read checks good (same is) (count is) (told is) found
is_drawn (Err lack) fits header options file read checks good is same count told found = tt
