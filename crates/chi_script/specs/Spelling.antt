-- How numbers, commands and headers are written (docs/FORMATS.md, "Replay files"): apart from how they
-- are read.
use Rattle.std.specs.Prelude.{◌≡◌, ℕ, ◌^◌, ◌<◌, min, List, [], ◌∷◌, Option, Some, None, Result, Ok, codes, map, slice_index, true}
use Rattle.std.specs.List.{join_with_byte}
use Rattle.std.specs.Fmt.{decimal}
use Rattle.chi_flit.specs.Credit.{credit_number, credit_text}
use Rattle.chi_flit.specs.Kind.{kind_text}
use Rattle.chi_flit.specs.declared.kind.Kind.{Kind}
use Rattle.chi_flit.specs.declared.action.Step.{Step}
use Rattle.chi_flit.specs.declared.action.Step.TheVariants.{Load, Store, Drop, Issue, Admit, Retry, RecvRetry, Resend, Cancel, Start, RecvSnp, RecvSnpResp, RecvData, RecvComp, RecvAck, RecvDbid, RecvWrData}
use Rattle.chi_flit.specs.declared.credit.CreditType.{CreditType}
use Rattle.chi_flit.specs.declared.credit.Profile.{Profile}
use Rattle.chi_flit.specs.declared.credit.Profile.TheVariants.{Two, Four}
use Rattle.chi_flit.specs.Config.{Sizes}
use Rattle.chi_script.specs.declared.faults.Fault.{Fault}
use Rattle.chi_script.specs.Headers.{is_in_limits}
use Rattle.chi_script.specs.Commands.{line_command}
use Rattle.chi_script.specs.Verbs.{verb_text}
use Rattle.chi_script.specs.declared.verbs.Verb.{Verb}
use Rattle.chi_script.specs.declared.verbs.Verb.TheVariants as verbs
use Rattle.chi_script.specs.declared.commands.Command.{Command}
use Rattle.chi_script.specs.declared.commands.Command.TheVariants.{Totals, Audit, Show, Flits, Arrive, See, GiveBack, Tend, Act}

-- a number of 64 bits, in decimal
abbrev pub IsNumber : ℕ → List ℕ → Type 0
IsNumber n word = (n < 2 ^ 64) × (word ≡ decimal n)

-- a number that is read as 255 where it is above that
abbrev pub IsSmall : ℕ → List ℕ → Type 0
IsSmall n word = (written : ℕ) × IsNumber written word × (n ≡ min written 255)

-- a kind of request, by its name
abbrev pub IsKind : Kind → List ℕ → Type 0
IsKind kind word = word ≡ kind_text kind

-- a credit type, by its number; none where the number is above 3
abbrev pub IsCredit : Option CreditType → List ℕ → Type 0
IsCredit (Some ty) word = IsNumber (credit_number ty) word
IsCredit None word = (written : ℕ) × IsNumber written word × (3 < written)

-- What stands behind a verb: an agent, a line, a word, a slot; a value; a kind of request; a credit type.
pub data Operand : Type 0 where
  Small : ℕ → Operand
  Value : ℕ → Operand
  OfKind : Kind → Operand
  OfType : Option CreditType → Operand

-- what stands behind the agent and the line of a step
abbrev pub step_operands : Step → List Operand
step_operands (Load w) = Small w.0 ∷ []
step_operands (Store w v) = Small w.0 ∷ Value v ∷ []
step_operands (Issue kind slot) = OfKind kind ∷ Small slot.0 ∷ []
step_operands other = []

-- the verb of a step; those that no file asks for have none
abbrev pub step_verb : Step → Option Verb
step_verb (Load w) = Some verbs.Load
step_verb (Store w v) = Some verbs.Store
step_verb Drop = Some verbs.Drop
step_verb (Issue kind slot) = Some verbs.Issue
step_verb Admit = None
step_verb Retry = None
step_verb RecvRetry = Some verbs.RetryAck
step_verb Resend = Some verbs.Resend
step_verb Cancel = Some verbs.Cancel
step_verb Start = Some verbs.Start
step_verb RecvSnp = Some verbs.Snp
step_verb RecvSnpResp = Some verbs.SnpResp
step_verb RecvData = Some verbs.Data
step_verb RecvComp = Some verbs.Comp
step_verb RecvAck = Some verbs.Ack
step_verb RecvDbid = Some verbs.Dbid
step_verb RecvWrData = Some verbs.WrData

-- the verb of a command, and what stands behind it
abbrev pub command_verb : Command → Option Verb
command_verb Totals = Some verbs.Totals
command_verb Audit = Some verbs.Audit
command_verb (Show l) = Some verbs.Show
command_verb (Flits n l) = Some verbs.Flits
command_verb (Arrive n l) = Some verbs.Arrive
command_verb (See n) = Some verbs.See
command_verb (GiveBack n credit) = Some verbs.GiveBack
command_verb (Tend n credit) = Some verbs.Tend
command_verb (Act action) = step_verb action.step

abbrev pub operands_of : Command → List Operand
operands_of Totals = []
operands_of Audit = []
operands_of (Show l) = Small l.0 ∷ []
operands_of (Flits n l) = Small n.0 ∷ Small l.0 ∷ []
operands_of (Arrive n l) = Small n.0 ∷ Small l.0 ∷ []
operands_of (See n) = Small n.0 ∷ []
operands_of (GiveBack n credit) = Small n.0 ∷ OfType credit ∷ []
operands_of (Tend n credit) = Small n.0 ∷ OfType credit ∷ []
operands_of (Act action) = Small action.agent.0 ∷ Small action.line.0 ∷ step_operands action.step

-- a word that says an operand
abbrev pub IsOperand : Operand → List ℕ → Type 0
IsOperand (Small n) word = IsSmall n word
IsOperand (Value n) word = IsNumber n word
IsOperand (OfKind kind) word = IsKind kind word
IsOperand (OfType credit) word = IsCredit credit word

-- words that say operands, one each
abbrev pub AreOperands : List Operand → List (List ℕ) → Type 0
AreOperands [] [] = Unit {0}
AreOperands [] (word ∷ words) = ⊥
AreOperands (operand ∷ operands) [] = ⊥
AreOperands (operand ∷ operands) (word ∷ words) = IsOperand operand word × AreOperands operands words

-- the words of a command: its verb, and its operands behind it
abbrev pub SpellsWith : Option Verb → List Operand → List (List ℕ) → Type 0
SpellsWith None operands words = ⊥
SpellsWith (Some verb) operands [] = ⊥
SpellsWith (Some verb) operands (word ∷ words) = (word ≡ verb_text verb) × AreOperands operands words

abbrev pub Spells : Command → List (List ℕ) → Type 0
Spells command words = SpellsWith (command_verb command) (operands_of command) words

-- the words with one space between two of them
abbrev pub IsLine : Command → List ℕ → Type 0
IsLine command line = (words : List (List ℕ)) × Spells command words × (line ≡ join_with_byte 32 words)

-- the word of an operand that is printed; where a credit type is none it is 4
abbrev pub type_text : Option CreditType → List ℕ
type_text (Some ty) = credit_text ty
type_text None = codes "4"

abbrev pub operand_text : Operand → List ℕ
operand_text (Small n) = decimal n
operand_text (Value n) = decimal n
operand_text (OfKind kind) = kind_text kind
operand_text (OfType credit) = type_text credit

-- the words of a command that is printed, and its line
abbrev pub words_with : Option Verb → List Operand → List (List ℕ)
words_with None operands = []
words_with (Some verb) operands = verb_text verb ∷ map operand_text operands

abbrev pub command_text : Command → List ℕ
command_text command = join_with_byte 32 (words_with (command_verb command) (operands_of command))

-- the numbers of operands are those of their types
abbrev pub Fits : Operand → Type 0
Fits (Small n) = n < 2 ^ 8
Fits (Value n) = n < 2 ^ 64
Fits (OfKind kind) = Unit {0}
Fits (OfType credit) = Unit {0}

abbrev pub AllFit : List Operand → Type 0
AllFit [] = Unit {0}
AllFit (operand ∷ operands) = Fits operand × AllFit operands

-- a command that a file may have: it has a verb, and its numbers are those of their types
pub record IsOfFile (command : Command) : Type 0 where
  pub verb : Verb
  pub named : command_verb command ≡ Some verb
  pub fit : AllFit (operands_of command)

-- a printed command is one of its lines, and is read as that command
pub record IsReadAgain (command : Command) : Type 0 where
  pub line : IsLine command (command_text command)
  pub again : line_command (command_text command) ≡ Some command

-- the words of the credit types and the journal, by profile
abbrev pub type_words : Profile → List ℕ → ℕ → List (List ℕ)
type_words Two entries journal = decimal (slice_index entries 0) ∷ decimal (slice_index entries 1) ∷ decimal journal ∷ []
type_words Four entries journal =
    decimal (slice_index entries 0) ∷ decimal (slice_index entries 1) ∷
    decimal (slice_index entries 2) ∷ decimal (slice_index entries 3) ∷ decimal journal ∷ []

-- the words of a header
abbrev pub header_words : Sizes → List (List ℕ)
header_words header =
    codes "node" ∷ decimal header.agents ∷ decimal header.lines ∷ decimal header.slices ∷
    type_words header.profile header.entries header.journal

-- a header within the limits, and its one line
abbrev pub IsHeaderLine : Sizes → List ℕ → Type 0
IsHeaderLine header line = (is_in_limits header ≡ true) × (line ≡ join_with_byte 32 (header_words header))

-- whatever a text is read as, it spells that
abbrev pub ReadsOnly : {X : Type 0} → (List ℕ → Option X) → (X → List ℕ → Type 0) → Type 0
ReadsOnly {X = X} read IsSpelled = (text : List ℕ) (x : X) → read text ≡ Some x → IsSpelled x text

-- whatever a text spells, it is read as that
abbrev pub ReadsAll : {X : Type 0} → (List ℕ → Option X) → (X → List ℕ → Type 0) → Type 0
ReadsAll {X = X} read IsSpelled = (text : List ℕ) (x : X) → IsSpelled x text → read text ≡ Some x

-- the same of whole files, in which there may be a fault
abbrev pub FilesOnly : {X : Type 0} → (List ℕ → Result X Fault) → (X → List ℕ → Type 0) → Type 0
FilesOnly {X = X} read IsSpelled = (file : List ℕ) (x : X) → read file ≡ Ok x → IsSpelled x file

abbrev pub FilesAll : {X : Type 0} → (List ℕ → Result X Fault) → (X → List ℕ → Type 0) → Type 0
FilesAll {X = X} read IsSpelled = (file : List ℕ) (x : X) → IsSpelled x file → read file ≡ Ok x
