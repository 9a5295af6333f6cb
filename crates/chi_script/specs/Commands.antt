-- The commands of a replay file: a table for each count of words, a line for each verb
-- (docs/FORMATS.md, "Replay files").
use Rattle.std.specs.Prelude.{ℕ, List, [], ◌∷◌, Option, Some, None}
use Rattle.std.specs.List.{find}
use Rattle.chi_flit.specs.Numbers.{agent_at, line_at, slot_at, word_at, credit_of}
use Rattle.chi_flit.specs.Kind.{kind_text}
use Rattle.chi_flit.specs.declared.kind.Kind.{Kind}
use Rattle.chi_flit.specs.declared.kind.Kind.TheVariants.{ReadNotSharedDirty, ReadShared, ReadUnique, CleanUnique, Evict, WriteBackFull, WriteCleanFull, WriteEvictFull}
use Rattle.chi_flit.specs.declared.action.Step.{Step}
use Rattle.chi_flit.specs.declared.action.Step.TheVariants.{Load, Store, Drop, Issue, RecvRetry, Resend, Cancel, Start, RecvSnp, RecvSnpResp, RecvData, RecvComp, RecvAck, RecvDbid, RecvWrData}
use Rattle.chi_script.specs.declared.commands.Command.{Command}
use Rattle.chi_script.specs.declared.commands.Command.TheVariants.{Totals, Audit, Show, Flits, Arrive, See, GiveBack, Tend, Act}
use Rattle.chi_script.specs.declared.verbs.Verb.{Verb}
use Rattle.chi_script.specs.declared.verbs.Verb.TheVariants as verbs
use Rattle.chi_script.specs.Verbs.{verb_named}
use Rattle.chi_script.specs.Words.{◌>>=◌, is_text, number_of, small_of, words_of}

-- one step of an agent on a line
abbrev pub act_at : ℕ → ℕ → Step → Command
act_at n l step = Act (record { agent = agent_at n; line = line_at l; step = step })

-- all kinds of request
abbrev pub all_kinds : List Kind
all_kinds = ReadNotSharedDirty ∷ ReadShared ∷ ReadUnique ∷ CleanUnique ∷ Evict ∷ WriteBackFull ∷ WriteCleanFull ∷ WriteEvictFull ∷ []

-- the kind of a name
unfoldable pub kind_named : List ℕ → Option Kind
kind_named word = find (λ kind. is_text word (kind_text kind)) all_kinds

-- the step of VERB N L
abbrev pub verb_step : Verb → Option Step
verb_step verbs.Drop = Some Drop
verb_step verbs.Start = Some Start
verb_step verbs.Snp = Some RecvSnp
verb_step verbs.SnpResp = Some RecvSnpResp
verb_step verbs.RetryAck = Some RecvRetry
verb_step verbs.Resend = Some Resend
verb_step verbs.Cancel = Some Cancel
verb_step verbs.Data = Some RecvData
verb_step verbs.Comp = Some RecvComp
verb_step verbs.Ack = Some RecvAck
verb_step verbs.Dbid = Some RecvDbid
verb_step verbs.WrData = Some RecvWrData
verb_step other = None

-- the step of VERB N L and a word
abbrev pub step_with_one : Verb → List ℕ → Option Step
step_with_one verbs.Load third = small_of third >>= λ w. Some (Load (word_at w))
step_with_one other third = None

-- the step of VERB N L and two words; a value is no small number
abbrev pub step_with_two : Verb → List ℕ → List ℕ → Option Step
step_with_two verbs.Store third fourth = small_of third >>= λ w. number_of fourth >>= λ v. Some (Store (word_at w) v)
step_with_two verbs.Issue third fourth = kind_named third >>= λ kind. small_of fourth >>= λ slot. Some (Issue kind (slot_at slot))
step_with_two other third fourth = None

-- VERB
abbrev pub command_bare : Verb → Option Command
command_bare verbs.Totals = Some Totals
command_bare verbs.Audit = Some Audit
command_bare other = None

-- VERB L, or VERB N
abbrev pub command_one : Verb → ℕ → Option Command
command_one verbs.Show n = Some (Show (line_at n))
command_one verbs.See n = Some (See (agent_at n))
command_one other n = None

-- VERB N L, or VERB N TYPE
abbrev pub command_two : Verb → ℕ → ℕ → Option Command
command_two verbs.Arrive n l = Some (Arrive (agent_at n) (line_at l))
command_two verbs.Flits n l = Some (Flits (agent_at n) (line_at l))
command_two verbs.GiveBack n l = Some (GiveBack (agent_at n) (credit_of l))
command_two verbs.Tend n l = Some (Tend (agent_at n) (credit_of l))
command_two other n l = verb_step other >>= λ step. Some (act_at n l step)

-- VERB N L and what makes it this step
abbrev pub command_step : List ℕ → List ℕ → Step → Option Command
command_step a b step = small_of a >>= λ n. small_of b >>= λ l. Some (act_at n l step)

-- the command of a verb and the words behind it
abbrev pub command_with : Verb → List (List ℕ) → Option Command
command_with verb [] = command_bare verb
command_with verb (a ∷ []) = small_of a >>= λ n. command_one verb n
command_with verb (a ∷ b ∷ []) = small_of a >>= λ n. small_of b >>= λ l. command_two verb n l
command_with verb (a ∷ b ∷ c ∷ []) = step_with_one verb c >>= λ step. command_step a b step
command_with verb (a ∷ b ∷ c ∷ d ∷ []) = step_with_two verb c d >>= λ step. command_step a b step
command_with verb other = None

abbrev pub command_of : List (List ℕ) → Option Command
command_of [] = None
command_of (word ∷ words) = verb_named word >>= λ verb. command_with verb words

-- the command that a line is
abbrev pub line_command : List ℕ → Option Command
line_command line = command_of (words_of line)
