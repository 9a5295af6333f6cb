-- Operations are read as they are spelled, and only so.
use Rattle.std.proofs.Common.{◌≡◌, ℕ, ◌^◌, ◌<◌, nat_lt, Bool, true, false, cond, List, [], ◌∷◌, Option, Some, None, refl, sym, ap, subst, ◌∙◌, codes, arith}
use Rattle.std.specs.List.{join_with_byte}
use Rattle.std.specs.Fmt.{decimal}
use Rattle.std.proofs.lemmas.Bool.Decides.{nat_tests}
use Rattle.std.proofs.lemmas.List.Splits.{join_with_byte-slice_split}
use Rattle.std.proofs.lemmas.Slice.Eq.{bytes_eq-Decides}
use Rattle.chi_flit.specs.declared.operation.Task.{Task}
use Rattle.chi_flit.specs.declared.operation.Task.TheVariants.{Load, Share, Store, WriteBack, WriteClean, WriteEvict, Evict, Drop}
use Rattle.chi_flit.specs.Config.{Sizes}
use Rattle.chi_script.specs.Headers.{is_in_limits}
use Rattle.chi_flit.specs.Numbers.{word_at}
use Rattle.chi_script.specs.Words.{◌>>=◌, is_text, words_of, number_of, has_no_space}
use Rattle.chi_script.proofs.LimitLemmas.{IsInLimits, limits_of}
use Rattle.chi_script.proofs.NumberLemmas.{number_read, number_again, bound}
use Rattle.chi_script.proofs.SpaceLemmas.{joined_again, decimal_no_space}
use Rattle.chi_script.specs.declared.operations.AgentOperation.{AgentOperation}
use Rattle.chi_script.specs.Operations.{number_below, task_of, task_with_word, task_with_value, operation_on, operation_with, operation_of}
use Rattle.chi_script.specs.StormSpelling.{verb_of, words_behind, operation_words, IsTaskInRange, IsInRange, IsOperationLine}

-- what a test lets through
let_through : {A : Type 0} (b : Bool) (found : Option A) (x : A) → cond b found None ≡ Some x → (b ≡ true) × (found ≡ Some x)
let_through true found x e = (refl, e)
let_through false found x e = cc

-- a number below an end, as it is read and as it is written
below_read : (end : ℕ) (word : List ℕ) (n : ℕ) → number_below end word ≡ Some n → (n < end) × (n < 2 ^ 64) × (word ≡ decimal n)
below_read end word n e =
    let number = bound (number_of word) (λ m. cond (nat_lt m end) (Some m) None) n e in
    let test = let_through (nat_lt number.0 end) (Some number.0) n number.2 in
    let less : number.0 < end = let passed = test.0 in grind (arith, nat_tests) in
    let same : number.0 ≡ n = let some = test.1 in cc in
    let spelled = number_read word number.0 number.1 in
    subst (λ (m : ℕ). (m < end) × (m < 2 ^ 64) × (word ≡ decimal m)) same (less, spelled.0, spelled.1)

is_below : (end n : ℕ) → n < end → nat_lt n end ≡ true
is_below end n less = grind (arith, nat_tests)

below_again : (end n : ℕ) → n < end → n < 2 ^ 64 → number_below end (decimal n) ≡ Some n
below_again end n less small = rw (number_again n (decimal n) (small, refl), is_below end n less) refl

-- a task is read where its verb and the words behind the agent and the line are those that spell it
pub record IsTask (task : Task) (verb : List ℕ) (behind : List (List ℕ)) : Type 0 where
  pub range : IsTaskInRange task
  pub verb_is : verb ≡ verb_of task
  pub behind_is : behind ≡ words_behind task

-- a line of a table: where the test holds this entry is taken, else a later one
pick : {A : Type 0} (P : A → Type 0) (b : Bool) (entry later : Option A) → (b ≡ true → (x : A) → entry ≡ Some x → P x) → ((x : A) → later ≡ Some x → P x) → (x : A) → cond b entry later ≡ Some x → P x
pick P true entry later here there x e = here refl x e
pick P false entry later here there x e = there x e

none_left : {A : Type 0} (P : A → Type 0) (x : A) → None ≡ Some x → P x
none_left P x e = cc

-- an entry with no words behind the agent and the line
plain_read : (task : Task) (verb text : List ℕ) → text ≡ verb_of task → words_behind task ≡ [] → IsTaskInRange task → is_text verb text ≡ true → (x : Task) → Some task ≡ Some x → IsTask x verb []
plain_read task verb text named none range is x e =
    let same : task ≡ x = cc in
    subst (λ t. IsTask t verb []) same (record { range = range; verb_is = (bytes_eq-Decides verb text).0 is ∙ named; behind_is = sym none })

task_read : (verb : List ℕ) (task : Task) → task_of verb ≡ Some task → IsTask task verb []
unfolding task_of
task_read verb task e =
    let P : Task → Type 0 = λ t. IsTask t verb [] in
    pick P (is_text verb (codes "writeback")) _ _ (plain_read WriteBack verb _ refl refl tt) (
    pick P (is_text verb (codes "writeclean")) _ _ (plain_read WriteClean verb _ refl refl tt) (
    pick P (is_text verb (codes "writeevict")) _ _ (plain_read WriteEvict verb _ refl refl tt) (
    pick P (is_text verb (codes "evict")) _ _ (plain_read Evict verb _ refl refl tt) (
    pick P (is_text verb (codes "drop")) _ None (plain_read Drop verb _ refl refl tt) (none_left P))))) task e

word_read : (verb word : List ℕ) (task : Task) → task_with_word verb word ≡ Some task → IsTask task verb (word ∷ [])
word_read verb word task e =
    let P : Task → Type 0 = λ t. IsTask t verb (word ∷ []) in
    pick P (is_text verb (codes "load")) _ _
    (λ is x read.
    let w = bound (number_below 8 word) (λ n. Some (Load (word_at n))) x read in
    let number = below_read 8 word w.0 w.1 in
    let same : Load (word_at w.0) ≡ x = let last = w.2 in cc in
    subst P same (record { range = number.0; verb_is = (bytes_eq-Decides verb (codes "load")).0 is; behind_is = ap (λ v. v ∷ []) number.2 })) (
    pick P (is_text verb (codes "share")) _ None
    (λ is x read.
    let w = bound (number_below 8 word) (λ n. Some (Share (word_at n))) x read in
    let number = below_read 8 word w.0 w.1 in
    let same : Share (word_at w.0) ≡ x = let last = w.2 in cc in
    subst P same (record { range = number.0; verb_is = (bytes_eq-Decides verb (codes "share")).0 is; behind_is = ap (λ v. v ∷ []) number.2 }))
    (none_left P)) task e

two : (a b c d : List ℕ) → a ≡ b → c ≡ d → a ∷ c ∷ [] ≡ b ∷ d ∷ []
two a b c d e f = cc

value_read : (verb word value : List ℕ) (task : Task) → task_with_value verb word value ≡ Some task → IsTask task verb (word ∷ value ∷ [])
value_read verb word value task e =
    let P : Task → Type 0 = λ t. IsTask t verb (word ∷ value ∷ []) in
    pick P (is_text verb (codes "store")) _ None
    (λ is x read.
    let w = bound (number_below 8 word) (λ n. number_of value >>= λ v. Some (Store (word_at n) v)) x read in
    let v = bound (number_of value) (λ n. Some (Store (word_at w.0) n)) x w.2 in
    let number = below_read 8 word w.0 w.1 in
    let stored = number_read value v.0 v.1 in
    let same : Store (word_at w.0) v.0 ≡ x = let last = v.2 in cc in
    subst P same (record { range = (number.0, stored.0); verb_is = (bytes_eq-Decides verb (codes "store")).0 is; behind_is = two word _ value _ number.2 stored.1 }))
    (none_left P) task e

-- words that are equal one by one
same_words : (a b c d e f : List ℕ) (g h : List (List ℕ)) → a ≡ b → c ≡ d → e ≡ f → g ≡ h → a ∷ c ∷ e ∷ g ≡ b ∷ d ∷ f ∷ h
same_words a b c d e f g h i j k l = cc

placed : (header : Sizes) (verb agent line : List ℕ) (behind : List (List ℕ)) (task : Task) (operation : AgentOperation) → IsTask task verb behind → operation_with header agent line task ≡ Some operation → IsInRange header operation × (verb ∷ agent ∷ line ∷ behind ≡ operation_words operation)
placed header verb agent line behind task operation is e =
    let n = bound (number_below header.agents agent) (λ n. number_below header.lines line >>= λ l. Some (operation_on n l task)) operation e in
    let l = bound (number_below header.lines line) (λ l. Some (operation_on n.0 l task)) operation n.2 in
    let who = below_read header.agents agent n.0 n.1 in
    let where_at = below_read header.lines line l.0 l.1 in
    let same : operation_on n.0 l.0 task ≡ operation = let last = l.2 in cc in
    subst (λ d. IsInRange header d × (verb ∷ agent ∷ line ∷ behind ≡ operation_words d)) same
    (record { agent = who.0; line = where_at.0; task = is.range }, same_words _ _ _ _ _ _ _ _ is.verb_is who.2 where_at.2 is.behind_is)

operation_read : (header : Sizes) (words : List (List ℕ)) (operation : AgentOperation) → operation_of header words ≡ Some operation → IsInRange header operation × (words ≡ operation_words operation)
operation_read header [] operation e = cc
operation_read header (verb ∷ []) operation e = cc
operation_read header (verb ∷ a ∷ []) operation e = cc
operation_read header (verb ∷ a ∷ b ∷ []) operation e =
    let task = bound (task_of verb) (λ t. operation_with header a b t) operation e in
    placed header verb a b [] task.0 operation (task_read verb task.0 task.1) task.2
operation_read header (verb ∷ a ∷ b ∷ c ∷ []) operation e =
    let task = bound (task_with_word verb c) (λ t. operation_with header a b t) operation e in
    placed header verb a b (c ∷ []) task.0 operation (word_read verb c task.0 task.1) task.2
operation_read header (verb ∷ a ∷ b ∷ c ∷ d ∷ []) operation e =
    let task = bound (task_with_value verb c d) (λ t. operation_with header a b t) operation e in
    placed header verb a b (c ∷ d ∷ []) task.0 operation (value_read verb c d task.0 task.1) task.2
operation_read header (verb ∷ a ∷ b ∷ c ∷ d ∷ more ∷ rest) operation e = cc

pub line_read : (header : Sizes) (line : List ℕ) (operation : AgentOperation) → operation_of header (words_of line) ≡ Some operation → IsOperationLine header operation line
line_read header line operation e =
    let read = operation_read header (words_of line) operation e in
    (read.0, sym (join_with_byte-slice_split 32 line) ∙ ap (join_with_byte 32) read.1)

-- the agent and the line of an operation within the limits are read again
record AreRead (header : Sizes) (operation : AgentOperation) : Type 0 where
  agent : number_below header.agents (decimal operation.agent.0) ≡ Some operation.agent.0
  line : number_below header.lines (decimal operation.operation.line.0) ≡ Some operation.operation.line.0
  agent_plain : has_no_space (decimal operation.agent.0) ≡ true
  line_plain : has_no_space (decimal operation.operation.line.0) ≡ true

are_read : (header : Sizes) (operation : AgentOperation) → is_in_limits header ≡ true → IsInRange header operation → AreRead header operation
are_read header operation limits is =
    let l : IsInLimits header = limits_of header limits in
    let agent : operation.agent.0 < 2 ^ 64 = omega (arith, l.agents.1, is.agent) in
    let line : operation.operation.line.0 < 2 ^ 64 = omega (arith, l.lines.1, is.line) in
    record {
      agent = below_again header.agents operation.agent.0 is.agent agent;
      line = below_again header.lines operation.operation.line.0 is.line line;
      agent_plain = decimal_no_space operation.agent.0 agent;
      line_plain = decimal_no_space operation.operation.line.0 line;
    }

small : (n : ℕ) → n < 8 → n < 2 ^ 64
small n few = omega (arith, few)

again : (header : Sizes) (n l : ℕ) (task : Task) → IsTaskInRange task → AreRead header (operation_on n l task) → operation_of header (operation_words (operation_on n l task)) ≡ Some (operation_on n l task)
unfolding task_of
again header n l (Load w) range read = rw (below_again 8 w.0 range (small w.0 range), read.agent, read.line) refl
again header n l (Share w) range read = rw (below_again 8 w.0 range (small w.0 range), read.agent, read.line) refl
again header n l (Store w v) range read = rw (below_again 8 w.0 range.0 (small w.0 range.0), number_again v (decimal v) (range.1, refl), read.agent, read.line) refl
again header n l WriteBack range read = rw (read.agent, read.line) refl
again header n l WriteClean range read = rw (read.agent, read.line) refl
again header n l WriteEvict range read = rw (read.agent, read.line) refl
again header n l Evict range read = rw (read.agent, read.line) refl
again header n l Drop range read = rw (read.agent, read.line) refl

joined : (header : Sizes) (n l : ℕ) (task : Task) → IsTaskInRange task → AreRead header (operation_on n l task) → words_of (join_with_byte 32 (operation_words (operation_on n l task))) ≡ operation_words (operation_on n l task)
joined header n l (Load w) range read = joined_again (codes "load") _ (rw (read.agent_plain, read.line_plain, decimal_no_space w.0 (small w.0 range)) refl)
joined header n l (Share w) range read = joined_again (codes "share") _ (rw (read.agent_plain, read.line_plain, decimal_no_space w.0 (small w.0 range)) refl)
joined header n l (Store w v) range read = joined_again (codes "store") _ (rw (read.agent_plain, read.line_plain, decimal_no_space w.0 (small w.0 range.0), decimal_no_space v range.1) refl)
joined header n l WriteBack range read = joined_again (codes "writeback") _ (rw (read.agent_plain, read.line_plain) refl)
joined header n l WriteClean range read = joined_again (codes "writeclean") _ (rw (read.agent_plain, read.line_plain) refl)
joined header n l WriteEvict range read = joined_again (codes "writeevict") _ (rw (read.agent_plain, read.line_plain) refl)
joined header n l Evict range read = joined_again (codes "evict") _ (rw (read.agent_plain, read.line_plain) refl)
joined header n l Drop range read = joined_again (codes "drop") _ (rw (read.agent_plain, read.line_plain) refl)

pub line_again : (header : Sizes) (line : List ℕ) (operation : AgentOperation) → is_in_limits header ≡ true → IsOperationLine header operation line → operation_of header (words_of line) ≡ Some operation
line_again header line operation limits is =
    let read = are_read header operation limits is.0 in
    ap (λ (bytes : List ℕ). operation_of header (words_of bytes)) is.1 ∙ (ap (operation_of header) (joined header operation.agent.0 operation.operation.line.0 operation.operation.task is.0.task read) ∙ again header operation.agent.0 operation.operation.line.0 operation.operation.task is.0.task read)
