-- Commands are read as they are spelled, and only so; a printed one is read again.
use Rattle.std.proofs.Common.{◌≡◌, ℕ, ◌^◌, ◌<◌, min, Bool, true, false, cond, List, [], ◌∷◌, map, Option, Some, None, arith, refl, sym, ap, subst, ◌∙◌}
use Rattle.std.specs.List.{find, join_with_byte}
use Rattle.std.specs.Fmt.{digits}
use Rattle.std.proofs.lemmas.Bool.Decides.{nat_tests}
use Rattle.std.proofs.lemmas.List.Splits.{join_with_byte-slice_split}
use Rattle.std.proofs.lemmas.Slice.Eq.{bytes_eq-Decides}
use Rattle.chi_flit.specs.Credit.{credit_number}
use Rattle.chi_flit.specs.Kind.{kind_text}
use Rattle.chi_flit.specs.declared.credit.CreditType.{CreditType}
use Rattle.chi_flit.specs.declared.credit.CreditType.TheVariants.{T0, T1, T2, T3}
use Rattle.chi_flit.specs.declared.kind.Kind.{Kind}
use Rattle.chi_flit.specs.declared.kind.Kind.TheVariants.{ReadNotSharedDirty, ReadShared, ReadUnique, CleanUnique, Evict, WriteBackFull, WriteCleanFull, WriteEvictFull}
use Rattle.chi_flit.specs.declared.action.Step.{Step}
use Rattle.chi_flit.specs.declared.action.Step.TheVariants.{Load, Store, Drop, Issue, Admit, Retry, RecvRetry, Resend, Cancel, Start, RecvSnp, RecvSnpResp, RecvData, RecvComp, RecvAck, RecvDbid, RecvWrData}
use Rattle.chi_script.specs.declared.commands.Command.{Command}
use Rattle.chi_script.specs.declared.commands.Command.TheVariants.{Totals, Audit, Show, Flits, Arrive, See, GiveBack, Tend, Act}
use Rattle.chi_script.specs.declared.verbs.Verb.{Verb}
use Rattle.chi_script.specs.declared.verbs.Verb.TheVariants as verbs
use Rattle.chi_script.specs.Words.{◌>>=◌, is_text, words_of, number_of, small_of, has_no_space}
use Rattle.chi_flit.specs.Numbers.{agent_at, credit_of, line_at, slot_at, word_at}
use Rattle.chi_script.specs.Commands.{act_at, all_kinds, kind_named, verb_step, step_with_one, step_with_two, command_bare, command_one, command_two, command_with, command_of}
use Rattle.chi_script.specs.Spelling.{AllFit, Fits, IsSmall, IsNumber, IsKind, IsCredit, IsOperand, AreOperands, Operand, Small, Value, OfKind, OfType, Spells, SpellsWith, IsLine, IsReadAgain, command_text, command_verb, operand_text, operands_of, step_operands, step_verb, type_text, words_with}
use Rattle.chi_script.specs.Verbs.{all_verbs, verb_named, verb_text}
use Rattle.chi_script.proofs.SpaceLemmas.{joined_again, decimal_no_space, no_spaces}
use Rattle.chi_script.proofs.NumberLemmas.{and_true, number_read, number_again, small_read, small_again, bound}
use Rattle.chi_script.proofs.CreditLemmas.{credit_read, credit_again}

text_is : (word text : List ℕ) → is_text word text ≡ true → word ≡ text
text_is word text e = (bytes_eq-Decides word text).0 e

-- what is found passes the test
first_or_later : {A : Type 0} (P : A → Type 0) (b : Bool) (first : A) (later : Option A) (x : A) → (b ≡ true → P first) → (later ≡ Some x → P x) → cond b (Some first) later ≡ Some x → P x
first_or_later P true first later x here there e = let same : first ≡ x = cc in subst P same (here refl)
first_or_later P false first later x here there e = there e

passes : {A : Type 0} (test : A → Bool) (all : List A) (x : A) → find test all ≡ Some x → test x ≡ true
passes test [] x e = cc
passes test (y ∷ ys) x e = first_or_later (λ z. test z ≡ true) (test y) y (find test ys) x (λ is. is) (passes test ys x) e

kind_read : (word : List ℕ) (kind : Kind) → kind_named word ≡ Some kind → IsKind kind word
unfolding kind_named
kind_read word kind e = text_is word (kind_text kind) (passes (λ k. is_text word (kind_text k)) all_kinds kind e)

verb_read : (word : List ℕ) (verb : Verb) → verb_named word ≡ Some verb → word ≡ verb_text verb
unfolding verb_named
verb_read word verb e = text_is word (verb_text verb) (passes (λ v. is_text word (verb_text v)) all_verbs verb e)

bare_read : (verb : Verb) (command : Command) → command_bare verb ≡ Some command → Spells command (verb_text verb ∷ [])
bare_read verbs.Totals command e = let same : Totals ≡ command = cc in subst (λ c. Spells c (verb_text verbs.Totals ∷ [])) same (refl, tt)
bare_read verbs.Audit command e = let same : Audit ≡ command = cc in subst (λ c. Spells c (verb_text verbs.Audit ∷ [])) same (refl, tt)
bare_read other command e = cc

one_read : (verb : Verb) (a : List ℕ) (n : ℕ) (command : Command) → IsSmall n a → command_one verb n ≡ Some command → Spells command (verb_text verb ∷ a ∷ [])
one_read verbs.Show a n command is_n e = let same : Show (line_at n) ≡ command = cc in subst (λ c. Spells c (verb_text verbs.Show ∷ a ∷ [])) same (refl, (is_n, tt))
one_read verbs.See a n command is_n e = let same : See (agent_at n) ≡ command = cc in subst (λ c. Spells c (verb_text verbs.See ∷ a ∷ [])) same (refl, (is_n, tt))
one_read other a n command is_n e = cc

-- a step whose verb has nothing behind the agent and the line
abbrev pub IsBare : Verb → Step → Type 0
IsBare verb step = (step_verb step ≡ Some verb) × (step_operands step ≡ [])

made_bare : (verb : Verb) (made step : Step) → Some made ≡ Some step → IsBare verb made → IsBare verb step
made_bare verb made step e is = let same : made ≡ step = cc in subst (IsBare verb) same is

step_read : (verb : Verb) (step : Step) → verb_step verb ≡ Some step → IsBare verb step
step_read verbs.Drop step e = made_bare verbs.Drop Drop step e (refl, refl)
step_read verbs.Start step e = made_bare verbs.Start Start step e (refl, refl)
step_read verbs.Snp step e = made_bare verbs.Snp RecvSnp step e (refl, refl)
step_read verbs.SnpResp step e = made_bare verbs.SnpResp RecvSnpResp step e (refl, refl)
step_read verbs.RetryAck step e = made_bare verbs.RetryAck RecvRetry step e (refl, refl)
step_read verbs.Resend step e = made_bare verbs.Resend Resend step e (refl, refl)
step_read verbs.Cancel step e = made_bare verbs.Cancel Cancel step e (refl, refl)
step_read verbs.Data step e = made_bare verbs.Data RecvData step e (refl, refl)
step_read verbs.Comp step e = made_bare verbs.Comp RecvComp step e (refl, refl)
step_read verbs.Ack step e = made_bare verbs.Ack RecvAck step e (refl, refl)
step_read verbs.Dbid step e = made_bare verbs.Dbid RecvDbid step e (refl, refl)
step_read verbs.WrData step e = made_bare verbs.WrData RecvWrData step e (refl, refl)
step_read other step e = cc

act_read : (verb : Verb) (a b : List ℕ) (n l : ℕ) (command : Command) → IsSmall n a → IsSmall l b → (verb_step verb >>= λ step. Some (act_at n l step)) ≡ Some command → Spells command (verb_text verb ∷ a ∷ b ∷ [])
act_read verb a b n l command is_n is_l e =
    let step = bound (verb_step verb) (λ s. Some (act_at n l s)) command e in
    let bare = step_read verb step.0 step.1 in
    let said : SpellsWith (Some verb) (Small n ∷ Small l ∷ []) (verb_text verb ∷ a ∷ b ∷ []) = (refl, (is_n, (is_l, tt))) in
    let same : act_at n l step.0 ≡ command = let last = step.2 in cc in
    subst (λ c. Spells c (verb_text verb ∷ a ∷ b ∷ [])) same (
    subst (λ v. SpellsWith v (Small n ∷ Small l ∷ step_operands step.0) (verb_text verb ∷ a ∷ b ∷ [])) (sym bare.0) (
    subst (λ os. SpellsWith (Some verb) (Small n ∷ Small l ∷ os) (verb_text verb ∷ a ∷ b ∷ [])) (sym bare.1) said))

two_read : (verb : Verb) (a b : List ℕ) (n l : ℕ) (command : Command) → IsSmall n a → IsSmall l b → command_two verb n l ≡ Some command → Spells command (verb_text verb ∷ a ∷ b ∷ [])
two_read verbs.Arrive a b n l command is_n is_l e =
    let same : Arrive (agent_at n) (line_at l) ≡ command = cc in subst (λ c. Spells c (verb_text verbs.Arrive ∷ a ∷ b ∷ [])) same (refl, (is_n, (is_l, tt)))
two_read verbs.Flits a b n l command is_n is_l e =
    let same : Flits (agent_at n) (line_at l) ≡ command = cc in subst (λ c. Spells c (verb_text verbs.Flits ∷ a ∷ b ∷ [])) same (refl, (is_n, (is_l, tt)))
two_read verbs.GiveBack a b n l command is_n is_l e =
    let same : GiveBack (agent_at n) (credit_of l) ≡ command = cc in subst (λ c. Spells c (verb_text verbs.GiveBack ∷ a ∷ b ∷ [])) same (refl, (is_n, (credit_read l b is_l, tt)))
two_read verbs.Tend a b n l command is_n is_l e =
    let same : Tend (agent_at n) (credit_of l) ≡ command = cc in subst (λ c. Spells c (verb_text verbs.Tend ∷ a ∷ b ∷ [])) same (refl, (is_n, (credit_read l b is_l, tt)))
two_read other a b n l command is_n is_l e = act_read other a b n l command is_n is_l e

word_read : (verb : Verb) (a b c : List ℕ) (n l : ℕ) (step : Step) → IsSmall n a → IsSmall l b → step_with_one verb c ≡ Some step → Spells (act_at n l step) (verb_text verb ∷ a ∷ b ∷ c ∷ [])
word_read verbs.Load a b c n l step is_n is_l e =
    let word = bound (small_of c) (λ w. Some (Load (word_at w))) step e in
    let same : Load (word_at word.0) ≡ step = let last = word.2 in cc in
    subst (λ s. Spells (act_at n l s) (verb_text verbs.Load ∷ a ∷ b ∷ c ∷ [])) same (refl, (is_n, (is_l, (small_read c word.0 word.1, tt))))
word_read other a b c n l step is_n is_l e = cc

words_read : (verb : Verb) (a b c d : List ℕ) (n l : ℕ) (step : Step) → IsSmall n a → IsSmall l b → step_with_two verb c d ≡ Some step → Spells (act_at n l step) (verb_text verb ∷ a ∷ b ∷ c ∷ d ∷ [])
words_read verbs.Store a b c d n l step is_n is_l e =
    let word = bound (small_of c) (λ w. number_of d >>= λ v. Some (Store (word_at w) v)) step e in
    let value = bound (number_of d) (λ v. Some (Store (word_at word.0) v)) step word.2 in
    let same : Store (word_at word.0) value.0 ≡ step = let last = value.2 in cc in
    subst (λ s. Spells (act_at n l s) (verb_text verbs.Store ∷ a ∷ b ∷ c ∷ d ∷ [])) same (refl, (is_n, (is_l, (small_read c word.0 word.1, (number_read d value.0 value.1, tt)))))
words_read verbs.Issue a b c d n l step is_n is_l e =
    let kind = bound (kind_named c) (λ k. small_of d >>= λ slot. Some (Issue k (slot_at slot))) step e in
    let slot = bound (small_of d) (λ s. Some (Issue kind.0 (slot_at s))) step kind.2 in
    let same : Issue kind.0 (slot_at slot.0) ≡ step = let last = slot.2 in cc in
    subst (λ s. Spells (act_at n l s) (verb_text verbs.Issue ∷ a ∷ b ∷ c ∷ d ∷ [])) same (refl, (is_n, (is_l, (kind_read c kind.0 kind.1, (small_read d slot.0 slot.1, tt)))))
words_read other a b c d n l step is_n is_l e = cc

-- the agent and the line of a step
placed : (a b : List ℕ) (step : Step) (command : Command) → (small_of a >>= λ n. small_of b >>= λ l. Some (act_at n l step)) ≡ Some command → (n l : ℕ) × IsSmall n a × IsSmall l b × (act_at n l step ≡ command)
placed a b step command e =
    let n = bound (small_of a) (λ n. small_of b >>= λ l. Some (act_at n l step)) command e in
    let l = bound (small_of b) (λ l. Some (act_at n.0 l step)) command n.2 in
    (n.0, l.0, small_read a n.0 n.1, small_read b l.0 l.1, cc)

with_read : (verb : Verb) (words : List (List ℕ)) (command : Command) → command_with verb words ≡ Some command → Spells command (verb_text verb ∷ words)
with_read verb [] command e = bare_read verb command e
with_read verb (a ∷ []) command e =
    let n = bound (small_of a) (λ n. command_one verb n) command e in
    one_read verb a n.0 command (small_read a n.0 n.1) n.2
with_read verb (a ∷ b ∷ []) command e =
    let n = bound (small_of a) (λ n. small_of b >>= λ l. command_two verb n l) command e in
    let l = bound (small_of b) (λ l. command_two verb n.0 l) command n.2 in
    two_read verb a b n.0 l.0 command (small_read a n.0 n.1) (small_read b l.0 l.1) l.2
with_read verb (a ∷ b ∷ c ∷ []) command e =
    let step = bound (step_with_one verb c) (λ s. small_of a >>= λ n. small_of b >>= λ l. Some (act_at n l s)) command e in
    let at = placed a b step.0 command step.2 in
    subst (λ x. Spells x (verb_text verb ∷ a ∷ b ∷ c ∷ [])) at.4 (word_read verb a b c at.0 at.1 step.0 at.2 at.3 step.1)
with_read verb (a ∷ b ∷ c ∷ d ∷ []) command e =
    let step = bound (step_with_two verb c d) (λ s. small_of a >>= λ n. small_of b >>= λ l. Some (act_at n l s)) command e in
    let at = placed a b step.0 command step.2 in
    subst (λ x. Spells x (verb_text verb ∷ a ∷ b ∷ c ∷ d ∷ [])) at.4 (words_read verb a b c d at.0 at.1 step.0 at.2 at.3 step.1)
with_read verb (a ∷ b ∷ c ∷ d ∷ more ∷ rest) command e = cc

command_read : (words : List (List ℕ)) (command : Command) → command_of words ≡ Some command → Spells command words
command_read [] command e = cc
command_read (word ∷ words) command e =
    let verb = bound (verb_named word) (λ v. command_with v words) command e in
    subst (λ w. Spells command (w ∷ words)) (sym (verb_read word verb.0 verb.1)) (with_read verb.0 words command verb.2)

verb_again : (verb : Verb) → verb_named (verb_text verb) ≡ Some verb
unfolding verb_named
verb_again verbs.Load = refl
verb_again verbs.Store = refl
verb_again verbs.Drop = refl
verb_again verbs.Issue = refl
verb_again verbs.Arrive = refl
verb_again verbs.Start = refl
verb_again verbs.Snp = refl
verb_again verbs.SnpResp = refl
verb_again verbs.RetryAck = refl
verb_again verbs.Resend = refl
verb_again verbs.Cancel = refl
verb_again verbs.Data = refl
verb_again verbs.Comp = refl
verb_again verbs.Dbid = refl
verb_again verbs.Ack = refl
verb_again verbs.WrData = refl
verb_again verbs.See = refl
verb_again verbs.GiveBack = refl
verb_again verbs.Tend = refl
verb_again verbs.Totals = refl
verb_again verbs.Audit = refl
verb_again verbs.Show = refl
verb_again verbs.Flits = refl

-- a line that begins with a verb
pub behind_again : (verb : Verb) (words : List (List ℕ)) → command_of (verb_text verb ∷ words) ≡ command_with verb words
behind_again verb words = rw (verb_again verb) refl

kind_again : (kind : Kind) (word : List ℕ) → IsKind kind word → kind_named word ≡ Some kind
unfolding kind_named
kind_again ReadNotSharedDirty word is = rw is refl
kind_again ReadShared word is = rw is refl
kind_again ReadUnique word is = rw is refl
kind_again CleanUnique word is = rw is refl
kind_again Evict word is = rw is refl
kind_again WriteBackFull word is = rw is refl
kind_again WriteCleanFull word is = rw is refl
kind_again WriteEvictFull word is = rw is refl

none_again : (verb : Verb) (words : List (List ℕ)) → AreOperands [] words → command_with verb words ≡ command_bare verb
none_again verb [] is = refl
none_again verb (a ∷ more) is = absurd is

one_again : (verb : Verb) (n : ℕ) (words : List (List ℕ)) → AreOperands (Small n ∷ []) words → command_with verb words ≡ command_one verb n
one_again verb n [] is = absurd is
one_again verb n (a ∷ []) (is_n, rest) = rw (small_again n a is_n) refl
one_again verb n (a ∷ b ∷ more) (is_n, rest) = absurd rest

two_again : (verb : Verb) (n l : ℕ) (words : List (List ℕ)) → AreOperands (Small n ∷ Small l ∷ []) words → command_with verb words ≡ command_two verb n l
two_again verb n l [] is = absurd is
two_again verb n l (a ∷ []) (is_n, rest) = absurd rest
two_again verb n l (a ∷ b ∷ []) (is_n, (is_l, rest)) = rw (small_again n a is_n, small_again l b is_l) refl
two_again verb n l (a ∷ b ∷ c ∷ more) (is_n, (is_l, rest)) = absurd rest

type_again : (verb : Verb) (n : ℕ) (credit : Option CreditType) (words : List (List ℕ)) → AreOperands (Small n ∷ OfType credit ∷ []) words → (l : ℕ) × (credit_of l ≡ credit) × (command_with verb words ≡ command_two verb n l)
type_again verb n credit [] is = absurd is
type_again verb n credit (a ∷ []) (is_n, rest) = absurd rest
type_again verb n credit (a ∷ b ∷ []) (is_n, (is_type, rest)) = let ty = credit_again credit b is_type in (ty.0, ty.2, rw (small_again n a is_n, ty.1) refl)
type_again verb n credit (a ∷ b ∷ c ∷ more) (is_n, (is_type, rest)) = absurd rest

load_again : (w n l : ℕ) (words : List (List ℕ)) → AreOperands (Small n ∷ Small l ∷ Small w ∷ []) words → command_with verbs.Load words ≡ Some (act_at n l (Load (word_at w)))
load_again w n l [] is = absurd is
load_again w n l (a ∷ []) (is_n, rest) = absurd rest
load_again w n l (a ∷ b ∷ []) (is_n, (is_l, rest)) = absurd rest
load_again w n l (a ∷ b ∷ c ∷ []) (is_n, (is_l, (is_w, rest))) = rw (small_again n a is_n, small_again l b is_l, small_again w c is_w) refl
load_again w n l (a ∷ b ∷ c ∷ d ∷ more) (is_n, (is_l, (is_w, rest))) = absurd rest

store_again : (w v n l : ℕ) (words : List (List ℕ)) → AreOperands (Small n ∷ Small l ∷ Small w ∷ Value v ∷ []) words → command_with verbs.Store words ≡ Some (act_at n l (Store (word_at w) v))
store_again w v n l [] is = absurd is
store_again w v n l (a ∷ []) (is_n, rest) = absurd rest
store_again w v n l (a ∷ b ∷ []) (is_n, (is_l, rest)) = absurd rest
store_again w v n l (a ∷ b ∷ c ∷ []) (is_n, (is_l, (is_w, rest))) = absurd rest
store_again w v n l (a ∷ b ∷ c ∷ d ∷ []) (is_n, (is_l, (is_w, (is_v, rest)))) = rw (small_again n a is_n, small_again l b is_l, small_again w c is_w, number_again v d is_v) refl
store_again w v n l (a ∷ b ∷ c ∷ d ∷ e ∷ more) (is_n, (is_l, (is_w, (is_v, rest)))) = absurd rest

issue_again : (kind : Kind) (s n l : ℕ) (words : List (List ℕ)) → AreOperands (Small n ∷ Small l ∷ OfKind kind ∷ Small s ∷ []) words → command_with verbs.Issue words ≡ Some (act_at n l (Issue kind (slot_at s)))
issue_again kind s n l [] is = absurd is
issue_again kind s n l (a ∷ []) (is_n, rest) = absurd rest
issue_again kind s n l (a ∷ b ∷ []) (is_n, (is_l, rest)) = absurd rest
issue_again kind s n l (a ∷ b ∷ c ∷ []) (is_n, (is_l, (is_kind, rest))) = absurd rest
issue_again kind s n l (a ∷ b ∷ c ∷ d ∷ []) (is_n, (is_l, (is_kind, (is_s, rest)))) = rw (small_again n a is_n, small_again l b is_l, kind_again kind c is_kind, small_again s d is_s) refl
issue_again kind s n l (a ∷ b ∷ c ∷ d ∷ e ∷ more) (is_n, (is_l, (is_kind, (is_s, rest)))) = absurd rest

-- words that say a verb and operands
abbrev pub IsMadeOf : Option Verb → List Operand → Command → Type 0
IsMadeOf None operands command = Unit {0}
IsMadeOf (Some verb) operands command = (words : List (List ℕ)) → AreOperands operands words → command_with verb words ≡ Some command

made_of_step : (step : Step) (n l : ℕ) → IsMadeOf (step_verb step) (Small n ∷ Small l ∷ step_operands step) (act_at n l step)
made_of_step (Load w) n l = load_again w.0 n l
made_of_step (Store w v) n l = store_again w.0 v n l
made_of_step (Issue kind slot) n l = issue_again kind slot.0 n l
made_of_step Admit n l = tt
made_of_step Retry n l = tt
made_of_step Drop n l = two_again verbs.Drop n l
made_of_step Start n l = two_again verbs.Start n l
made_of_step RecvSnp n l = two_again verbs.Snp n l
made_of_step RecvSnpResp n l = two_again verbs.SnpResp n l
made_of_step RecvRetry n l = two_again verbs.RetryAck n l
made_of_step Resend n l = two_again verbs.Resend n l
made_of_step Cancel n l = two_again verbs.Cancel n l
made_of_step RecvData n l = two_again verbs.Data n l
made_of_step RecvComp n l = two_again verbs.Comp n l
made_of_step RecvAck n l = two_again verbs.Ack n l
made_of_step RecvDbid n l = two_again verbs.Dbid n l
made_of_step RecvWrData n l = two_again verbs.WrData n l

made_of : (command : Command) → IsMadeOf (command_verb command) (operands_of command) command
made_of Totals = none_again verbs.Totals
made_of Audit = none_again verbs.Audit
made_of (Show l) = one_again verbs.Show l.0
made_of (Flits n l) = two_again verbs.Flits n.0 l.0
made_of (Arrive n l) = two_again verbs.Arrive n.0 l.0
made_of (See n) = one_again verbs.See n.0
made_of (GiveBack n credit) = λ words is. let read = type_again verbs.GiveBack n.0 credit words is in read.2 ∙ ap (λ c. Some (GiveBack n c)) read.1
made_of (Tend n credit) = λ words is. let read = type_again verbs.Tend n.0 credit words is in read.2 ∙ ap (λ c. Some (Tend n c)) read.1
made_of (Act action) = made_of_step action.step action.agent.0 action.line.0

spelled_again : (verb : Option Verb) (operands : List Operand) (words : List (List ℕ)) (command : Command) → IsMadeOf verb operands command → SpellsWith verb operands words → command_of words ≡ Some command
spelled_again None operands words command made is = absurd is
spelled_again (Some verb) operands [] command made is = absurd is
spelled_again (Some verb) operands (word ∷ words) command made (named, are) = ap (λ (w : List ℕ). command_of (w ∷ words)) named ∙ (behind_again verb words ∙ made words are)

command_again : (words : List (List ℕ)) (command : Command) → Spells command words → command_of words ≡ Some command
command_again words command is = spelled_again (command_verb command) (operands_of command) words command (made_of command) is

pub line_read : (line : List ℕ) (command : Command) → command_of (words_of line) ≡ Some command → IsLine command line
line_read line command e = (words_of line, command_read (words_of line) command e, sym (join_with_byte-slice_split 32 line))

kind_spaceless : (kind : Kind) → has_no_space (kind_text kind) ≡ true
kind_spaceless ReadNotSharedDirty = refl
kind_spaceless ReadShared = refl
kind_spaceless ReadUnique = refl
kind_spaceless CleanUnique = refl
kind_spaceless Evict = refl
kind_spaceless WriteBackFull = refl
kind_spaceless WriteCleanFull = refl
kind_spaceless WriteEvictFull = refl

pub verb_spaceless : (verb : Verb) → has_no_space (verb_text verb) ≡ true
verb_spaceless verbs.Load = refl
verb_spaceless verbs.Store = refl
verb_spaceless verbs.Drop = refl
verb_spaceless verbs.Issue = refl
verb_spaceless verbs.Arrive = refl
verb_spaceless verbs.Start = refl
verb_spaceless verbs.Snp = refl
verb_spaceless verbs.SnpResp = refl
verb_spaceless verbs.RetryAck = refl
verb_spaceless verbs.Resend = refl
verb_spaceless verbs.Cancel = refl
verb_spaceless verbs.Data = refl
verb_spaceless verbs.Comp = refl
verb_spaceless verbs.Dbid = refl
verb_spaceless verbs.Ack = refl
verb_spaceless verbs.WrData = refl
verb_spaceless verbs.See = refl
verb_spaceless verbs.GiveBack = refl
verb_spaceless verbs.Tend = refl
verb_spaceless verbs.Totals = refl
verb_spaceless verbs.Audit = refl
verb_spaceless verbs.Show = refl
verb_spaceless verbs.Flits = refl

number_spaceless : (n : ℕ) (word : List ℕ) → IsNumber n word → has_no_space word ≡ true
number_spaceless n word is = rw is.1 (decimal_no_space n is.0)

operand_spaceless : (operand : Operand) (word : List ℕ) → IsOperand operand word → has_no_space word ≡ true
operand_spaceless (Small n) word is = number_spaceless is.0 word is.1
operand_spaceless (Value n) word is = number_spaceless n word is
operand_spaceless (OfKind kind) word is = ap has_no_space is ∙ kind_spaceless kind
operand_spaceless (OfType (Some ty)) word is = number_spaceless (credit_number ty) word is
operand_spaceless (OfType None) word is = number_spaceless is.0 word is.1

operands_spaceless : (operands : List Operand) (words : List (List ℕ)) → AreOperands operands words → no_spaces words ≡ true
operands_spaceless [] [] is = refl
operands_spaceless [] (word ∷ words) is = absurd is
operands_spaceless (operand ∷ operands) [] is = absurd is
operands_spaceless (operand ∷ operands) (word ∷ words) (said, are) = and_true (has_no_space word) (no_spaces words) (operand_spaceless operand word said) (operands_spaceless operands words are)

joined_with : (verb : Option Verb) (operands : List Operand) (words : List (List ℕ)) → SpellsWith verb operands words → words_of (join_with_byte 32 words) ≡ words
joined_with None operands words is = absurd is
joined_with (Some verb) operands [] is = absurd is
joined_with (Some verb) operands (word ∷ words) (named, are) =
    joined_again word words (and_true (has_no_space word) (no_spaces words) (ap has_no_space named ∙ verb_spaceless verb) (operands_spaceless operands words are))

joined : (words : List (List ℕ)) (command : Command) → Spells command words → words_of (join_with_byte 32 words) ≡ words
joined words command is = joined_with (command_verb command) (operands_of command) words is

pub line_again : (line : List ℕ) (command : Command) → IsLine command line → command_of (words_of line) ≡ Some command
line_again line command is = rw (is.2, joined is.0 command is.1) (command_again is.0 command is.1)

low_is : (n : ℕ) → n < 2 ^ 8 → n ≡ min n 255
low_is n low = grind (arith, nat_tests)

type_printed : (credit : Option CreditType) → IsCredit credit (type_text credit)
unfolding digits
type_printed (Some T0) = (omega arith, refl)
type_printed (Some T1) = (omega arith, refl)
type_printed (Some T2) = (omega arith, refl)
type_printed (Some T3) = (omega arith, refl)
type_printed None = (4, (omega arith, refl), omega arith)

operand_printed : (operand : Operand) → Fits operand → IsOperand operand (operand_text operand)
operand_printed (Small n) fits = (n, (omega (arith, fits), refl), low_is n fits)
operand_printed (Value n) fits = (fits, refl)
operand_printed (OfKind kind) fits = refl
operand_printed (OfType credit) fits = type_printed credit

operands_printed : (operands : List Operand) → AllFit operands → AreOperands operands (map operand_text operands)
operands_printed [] fit = tt
operands_printed (operand ∷ operands) (fits, fit) = (operand_printed operand fits, operands_printed operands fit)

spelled : (verb : Verb) (known : Option Verb) (operands : List Operand) → known ≡ Some verb → AllFit operands → SpellsWith known operands (words_with known operands)
spelled verb None operands is fit = cc
spelled verb (Some known) operands is fit = (refl, operands_printed operands fit)

pub printed_again : (command : Command) (verb : Verb) → command_verb command ≡ Some verb → AllFit (operands_of command) → IsReadAgain command
printed_again command verb is fit =
    let line : IsLine command (command_text command) = (words_with (command_verb command) (operands_of command), spelled verb (command_verb command) (operands_of command) is fit, refl) in
    record { line = line; again = line_again (command_text command) command line }
