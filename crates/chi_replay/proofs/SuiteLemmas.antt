-- What was told of the files so far, and of one file more.
use Rattle.std.proofs.Common.{◌≡◌, ◌↔◌, ℕ, ◌+◌, ◌==◌, All, Bool, true, false, cond, not, IsTrue, List, [], ◌∷◌, ◌++◌, Option, Some, None, if◌then◌else◌, length, map, refl, sym, ap, ◌∙◌, ◌≢◌, Result, Ok, Err, IfOk, OnOk, ◌<◌, ◌≤◌, take, get_or, subst, length-take-le, take_all, arith, append_assoc, append-nil, length-append}
use Rattle.std.specs.List.{filter, flat_map}
use Rattle.std.proofs.lemmas.List.{length-map, map-append, nil_from_length, take_more}
use Rattle.std.proofs.lemmas.List.Concat.{flat_map-append}
use Rattle.std.proofs.lemmas.List.Elements.{All-nil, All-push, filter-append}
use Rattle.chi_script.specs.declared.faults.Fault.{Fault}
use Rattle.chi_script.specs.declared.faults.Fault.TheVariants as faults
use Rattle.chi_script.specs.Faults.{Fails}
use Rattle.chi_script.specs.CheckFiles.{check_file_of}
use Rattle.chi_script.specs.Files.{IsOneLine}
use Rattle.chi_replay.specs.Checks.{IsComparison}
use Rattle.chi_replay.specs.declared.suites.SuiteCounts.{SuiteCounts}
use Rattle.chi_replay.specs.declared.suites.SuiteFile.{SuiteFile}
use Rattle.chi_replay.specs.declared.suites.SuiteForm.{SuiteForm}
use Rattle.chi_replay.specs.Reports.{differing, differing_text, wanted_in}
use Rattle.chi_replay.specs.Suites.{SuiteResult, answered, faulty, FileCheck, GivenFile, IsFileCheck, IsSuiteReport, MayCome, SuiteGoesOn, SuiteState, counts_of, counts_with, differing_of, fault_line, fault_of, faulty_line, faulty_text, file_text, files_text, found_text, front_of, given, given_of, first_fault, first_of, has_differing, is_answered, new_counts, no_counts, state_with, suite_end, suite_head, wanted_answers}

abbrev check_of : GivenFile → SuiteResult → FileCheck
check_of file came = record { file = file; came = came }

abbrev pub state_in : List ℕ → List ℕ → Option Fault → SuiteCounts → SuiteState
state_in text faults fault counts = record { text = text; faults = faults; fault = fault; counts = counts }

abbrev counts_in : ℕ → ℕ → ℕ → ℕ → SuiteCounts
counts_in files unequal wanted differ = record { files = files; files_differ = unequal; wanted = wanted; differ = differ }

files_more : (form : SuiteForm) (n m : ℕ) (told : List FileCheck) (it : FileCheck) → m ≡ n + length told → files_text form n (told ++ it ∷ []) ≡ files_text form n told ++ file_text form m it.file.name it.came
files_more form n m [] it e = append-nil (file_text form n it.file.name it.came) ∙ ap (λ (k : ℕ). file_text form k it.file.name it.came) (omega (arith, e))
files_more form n m (x ∷ told) it e = ap (λ (l : List ℕ). file_text form n x.file.name x.came ++ l) (files_more form (n + 1) m told it (omega (arith, e)))
    ∙ sym (append_assoc (file_text form n x.file.name x.came) (files_text form (n + 1) told) (file_text form m it.file.name it.came))

first_none : (f : Option Fault) → first_of f None ≡ f
first_none None = refl
first_none (Some fault) = refl

first_assoc : (f g h : Option Fault) → first_of f (first_of g h) ≡ first_of (first_of f g) h
first_assoc None g h = refl
first_assoc (Some fault) g h = refl

first_more : (told : List FileCheck) (it : FileCheck) → first_fault (told ++ it ∷ []) ≡ first_of (first_fault told) (fault_of it.came)
first_more [] it = first_none (fault_of it.came)
first_more (x ∷ told) it = ap (first_of (fault_of x.came)) (first_more told it) ∙ first_assoc (fault_of x.came) (first_fault told) (fault_of it.came)

-- the number of those that pass a test, with one more
filtered : (p : FileCheck → Bool) (told : List FileCheck) (it : FileCheck) → length (filter p (told ++ it ∷ [])) ≡ length (filter p told) + length (filter p (it ∷ []))
filtered p told it = ap length (filter-append p told (it ∷ [])) ∙ length-append (filter p told) (filter p (it ∷ []))

gathered : {X : Type 0} (f : FileCheck → List X) (told : List FileCheck) (it : FileCheck) → length (flat_map f (told ++ it ∷ [])) ≡ length (flat_map f told) + length (f it)
gathered f told it = ap length (flat_map-append f told (it ∷ [])) ∙ (length-append (flat_map f told) (f it ++ []) ∙ ap (λ (l : List _). length (flat_map f told) + length l) (append-nil (f it)))

one_or_none : (it : FileCheck) (same : Bool) → length (cond (not same) (it ∷ []) []) ≡ (if same then 0 else 1)
one_or_none it true = refl
one_or_none it false = refl

counts_same : (a a' b b' x x' y y' : ℕ) → a ≡ a' → b ≡ b' → x ≡ x' → y ≡ y'
    → counts_in a b x y ≡ counts_in a' b' x' y'
counts_same a a' b b' x x' y y' e f g h = cc (e, f, g, h)

counts_more : (told : List FileCheck) (file : GivenFile) (came : SuiteResult) → counts_of (told ++ check_of file came ∷ []) ≡ counts_with (counts_of told) came
counts_more told file (answered checks answers) =
    let it = check_of file (answered checks answers) in
    counts_same _ _ _ _ _ _ _ _
    (filtered (λ x. is_answered x.came) told it)
    (filtered (λ x. has_differing x.came) told it ∙ ap (λ (n : ℕ). length (filter (λ x. has_differing x.came) told) + n) (one_or_none it (length (differing checks answers) == 0)))
    (gathered (λ x. wanted_answers x.came) told it)
    (gathered (λ x. differing_of x.came) told it)
counts_more told file (faulty fault hint) =
    let it = check_of file (faulty fault hint) in
    counts_same _ _ _ _ _ _ _ _
    (filtered (λ x. is_answered x.came) told it ∙ omega arith)
    (filtered (λ x. has_differing x.came) told it ∙ omega arith)
    (gathered (λ x. wanted_answers x.came) told it ∙ omega arith)
    (gathered (λ x. differing_of x.came) told it ∙ omega arith)

-- what was told of so many of these files, of which there are so many in all
abbrev pub state_of : SuiteForm → ℕ → List FileCheck → SuiteState
state_of form count told = record {
  text = suite_head form count ++ files_text form 1 told;
  faults = flat_map (λ it. fault_line it.file.name it.came) told;
  fault = first_fault told;
  counts = counts_of told;
}

state_same : (text text' faults faults' : List ℕ) (fault fault' : Option Fault) (counts counts' : SuiteCounts) → text ≡ text' → faults ≡ faults' → fault ≡ fault' → counts ≡ counts'
    → state_in text faults fault counts ≡ state_in text' faults' fault' counts'
state_same text text' faults faults' fault fault' counts counts' e f g h = cc (e, f, g, h)

state_more : (form : SuiteForm) (count number : ℕ) (told : List FileCheck) (file : GivenFile) (came : SuiteResult) → number ≡ length told + 1
    → state_with form number file.name (state_of form count told) came ≡ state_of form count (told ++ check_of file came ∷ [])
state_more form count number told file came e =
    let it = check_of file came in
    let line = λ (x : FileCheck). fault_line x.file.name x.came in
    state_same _ _ _ _ _ _ _ _
    (append_assoc (suite_head form count) (files_text form 1 told) (file_text form number file.name came) ∙ ap (λ (l : List ℕ). suite_head form count ++ l) (sym (files_more form 1 number told it (omega (arith, e)))))
    (sym (flat_map-append line told (it ∷ []) ∙ ap (λ (l : List ℕ). flat_map line told ++ l) (append-nil (line it))))
    (sym (first_more told it))
    (sym (counts_more told file came))

-- a faulty file was told
pub goes_faulty : {T E : Type 0} (result : Result T E) (form : SuiteForm) (number : ℕ) (file : GivenFile) (fault : Fault) (hint : List ℕ) (old new : SuiteState) → OnOk result (MayCome file.bytes (faulty fault hint))
    → OnOk result (new.text ≡ old.text ++ faulty_text form number file.name fault hint) → OnOk result (new.faults ≡ old.faults ++ faulty_line file.name fault hint)
    → OnOk result (new.fault ≡ first_of old.fault (Some fault)) → OnOk result (new.counts ≡ old.counts) → OnOk result (SuiteGoesOn form number file old new)
goes_faulty (Ok done) form number file fault hint old new may e f g h = (faulty fault hint, may, state_same _ _ _ _ _ _ _ _ e f g h)
goes_faulty (Err lack) form number file fault hint old new may e f g h = may

-- the fault is that of the file, where memory didn't run out
pub may_fail : {T E : Type 0} (result : Result T E) (bytes : List ℕ) (fault : Fault) (hint : List ℕ) → IsOneLine hint → Fails fault (check_file_of bytes) → OnOk result (fault ≢ faults.NoMemory) → OnOk result (MayCome (Some bytes) (faulty fault hint))
may_fail (Err lack) bytes fault hint one fails other = other
may_fail (Ok done) bytes faults.NoMemory hint one fails other = absurd (other refl)
may_fail (Ok done) bytes (faults.BadHeader line) hint one fails other = (fails, one)
may_fail (Ok done) bytes (faults.BadCommand line) hint one fails other = (fails, one)
may_fail (Ok done) bytes (faults.MissingNewline line) hint one fails other = (fails, one)
may_fail (Ok done) bytes faults.TooLarge hint one fails other = (fails, one)
may_fail (Ok done) bytes faults.Read hint one fails other = absurd fails
may_fail (Ok done) bytes faults.Write hint one fails other = absurd fails

-- a file that couldn't be read
pub may_be_lost : {T E : Type 0} (result : Result T E) (bytes : Option (List ℕ)) → bytes ≡ None → OnOk result (MayCome bytes (faulty faults.Read []))
may_be_lost (Err lack) bytes e = tt
may_be_lost (Ok done) None e = (refl, refl)
may_be_lost (Ok done) (Some bytes) e = absurd (cc (e))

-- a checked file was told
pub goes_found : {T E : Type 0} (result : Result T E) (form : SuiteForm) (number : ℕ) (name bytes front lines : List ℕ) (wanted differ : ℕ) (old new : SuiteState) → IsComparison bytes front lines wanted differ → front ≡ front_of form name
    → OnOk result (new.text ≡ old.text ++ found_text form number name lines wanted differ) → OnOk result (new.faults ≡ old.faults) → OnOk result (new.fault ≡ old.fault)
    → OnOk result (new.counts ≡ new_counts old.counts wanted differ) → OnOk result (SuiteGoesOn form number (given name (Some bytes)) old new)
goes_found (Ok done) form number name bytes front lines wanted differ old new found is e f g h =
    let checks = found.checks in
    let answers = found.answers in
    let said : lines ≡ differing_text (front_of form name) checks answers = found.told ∙ ap (λ (l : List ℕ). differing_text l checks answers) is in (
      answered checks answers,
      found.answered,
      state_same _ _ _ _ _ _ _ _
          (e ∙ (ap (λ (l : List ℕ). old.text ++ found_text form number name l wanted differ) said ∙ (ap (λ (n : ℕ). old.text ++ found_text form number name (differing_text (front_of form name) checks answers) n differ) found.all ∙ ap (λ (n : ℕ). old.text ++ found_text form number name (differing_text (front_of form name) checks answers) (length (wanted_in checks)) n) found.some)))
          (f ∙ sym (append-nil old.faults))
          (g ∙ sym (first_none old.fault))
          (h ∙ (ap (λ (n : ℕ). new_counts old.counts n differ) found.all ∙ ap (λ (n : ℕ). new_counts old.counts (length (wanted_in checks)) n) found.some)),
    )
goes_found (Err lack) form number name bytes front lines wanted differ old new found is e f g h = e

-- what was told so far is of these files, each in its turn
pub record StandsAt (form : SuiteForm) (count : ℕ) (files : List GivenFile) (state : SuiteState) : Type 0 where
  pub told : List FileCheck
  pub in_turn : map (λ it. it.file) told ≡ files
  pub each : All IsFileCheck told
  pub stands : state ≡ state_of form count told

pub stands_first : (form : SuiteForm) (count : ℕ) (text faults : List ℕ) (fault : Option Fault) (counts : SuiteCounts) → text ≡ suite_head form count → faults ≡ [] → fault ≡ None → counts ≡ no_counts
    → StandsAt form count [] (state_in text faults fault counts)
stands_first form count text faults fault counts e f g h = record {
  told = [];
  in_turn = refl;
  each = All-nil IsFileCheck;
  stands = state_same _ _ _ _ _ _ _ _ (e ∙ sym (append-nil (suite_head form count))) f g h;
}

pub stands_more : (form : SuiteForm) (count number : ℕ) (files : List GivenFile) (file : GivenFile) (old new : SuiteState) → StandsAt form count files old → number ≡ length files + 1 → SuiteGoesOn form number file old new
    → StandsAt form count (files ++ file ∷ []) new
stands_more form count number files file old new stands e goes =
    let came = goes.0 in
    let it = check_of file came in
    let many : length files ≡ length stands.told = ap length (sym stands.in_turn) ∙ length-map stands.told (λ (x : FileCheck). x.file) in
    record {
      told = stands.told ++ it ∷ [];
      in_turn = map-append (λ x. x.file) stands.told (it ∷ []) ∙ ap (λ (fs : List GivenFile). fs ++ file ∷ []) stands.in_turn;
      each = All-push IsFileCheck stands.told it stands.each goes.1;
      stands = goes.2 ∙ (ap (λ (s : SuiteState). state_with form number file.name s came) stands.stands ∙ state_more form count number stands.told file came (omega (arith, e, many)));
    }

-- what stands at the last file is the report
pub reported_all : (form : SuiteForm) (count : ℕ) (files : List GivenFile) (state : SuiteState) (text faults : List ℕ) (fault : Option Fault) (hold : Bool) → StandsAt form count files state → count ≡ length files
    → text ≡ state.text ++ suite_end form state.counts → faults ≡ state.faults → fault ≡ state.fault → IsTrue hold ↔ (state.counts.differ ≡ 0) → IsSuiteReport form files text faults fault hold
reported_all form count files state text faults fault hold stands e printed lines first verdict =
    let told = stands.told in
    let many : length told ≡ count = sym (length-map told (λ (x : FileCheck). x.file)) ∙ (ap length stands.in_turn ∙ sym e) in
    let none : state.counts.differ ≡ length (flat_map (λ (x : FileCheck). differing_of x.came) told) = ap (λ (s : SuiteState). s.counts.differ) stands.stands in
    record {
      told = told;
      in_turn = stands.in_turn;
      each = stands.each;
      printed = printed ∙ (ap (λ (s : SuiteState). s.text ++ suite_end form s.counts) stands.stands ∙ (append_assoc (suite_head form count) (files_text form 1 told) (suite_end form (counts_of told)) ∙ ap (λ (n : ℕ). suite_head form n ++ (files_text form 1 told ++ suite_end form (counts_of told))) (sym many)));
      lines = lines ∙ ap (λ (s : SuiteState). s.faults) stands.stands;
      first = first ∙ ap (λ (s : SuiteState). s.fault) stands.stands;
      verdict = (λ holds. nil_from_length _ (sym none ∙ verdict.0 holds), λ empty. verdict.1 (none ∙ ap length empty));
    }

-- one more of the files that were lent
pub stands_next : (form : SuiteForm) (count number : ℕ) (files : List SuiteFile) (i : ℕ) (d : SuiteFile) (old new : SuiteState) → i < length files → StandsAt form count (map given_of (take i files)) old → number ≡ i + 1
    → SuiteGoesOn form number (given_of (get_or files i d)) old new → StandsAt form count (map given_of (take (i + 1) files)) new
stands_next form count number files i d old new low stands e goes =
    let front = map given_of (take i files) in
    let many : length front ≡ i = length-map (take i files) given_of ∙ length-take-le i files (omega (arith, low)) in
    let more : map given_of (take (i + 1) files) ≡ front ++ given_of (get_or files i d) ∷ [] = ap (map given_of) (take_more files i d low) ∙ map-append given_of (take i files) (get_or files i d ∷ []) in
    subst (λ (fs : List GivenFile). StandsAt form count fs new) (sym more) (stands_more form count number front (given_of (get_or files i d)) old new stands (omega (arith, e, many)) goes)

-- at the end the report is on all of them
pub reported_on : {T E : Type 0} (result : Result T E) (text_in faults_in : T → List ℕ) (fault_in : T → Option Fault) (hold_in : T → Bool) (form : SuiteForm) (files : List SuiteFile) (i : ℕ) (state : SuiteState)
    → length files ≤ i → StandsAt form (length files) (map given_of (take i files)) state
    → IfOk result (λ report. text_in report ≡ state.text ++ suite_end form state.counts) → IfOk result (λ report. faults_in report ≡ state.faults) → IfOk result (λ report. fault_in report ≡ state.fault)
    → IfOk result (λ report. IsTrue (hold_in report) ↔ (state.counts.differ ≡ 0))
    → IfOk result (λ report. IsSuiteReport form (map given_of files) (text_in report) (faults_in report) (fault_in report) (hold_in report))
reported_on (Err lack) text_in faults_in fault_in hold_in form files i state past stands e f g h = e
reported_on (Ok report) text_in faults_in fault_in hold_in form files i state past stands e f g h =
    let all : StandsAt form (length files) (map given_of files) state = subst (λ (fs : List SuiteFile). StandsAt form (length files) (map given_of fs) state) (take_all i files past) stands in
    reported_all form (length files) (map given_of files) state (text_in report) (faults_in report) (fault_in report) (hold_in report) all (sym (length-map files given_of)) e f g h
