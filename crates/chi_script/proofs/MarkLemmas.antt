-- No command has a > in it.
use Rattle.std.proofs.Common.{◌≡◌, ℕ, true, List, [], ◌∷◌, Option, Some, None, refl, ap, ◌∙◌}
use Rattle.chi_flit.specs.Credit.{credit_number}
use Rattle.chi_flit.specs.Kind.{kind_text}
use Rattle.chi_flit.specs.declared.kind.Kind.{Kind}
use Rattle.chi_flit.specs.declared.kind.Kind.TheVariants.{ReadNotSharedDirty, ReadShared, ReadUnique, CleanUnique, Evict, WriteBackFull, WriteCleanFull, WriteEvictFull}
use Rattle.chi_script.specs.declared.commands.Command.{Command}
use Rattle.chi_script.specs.declared.verbs.Verb.{Verb}
use Rattle.chi_script.specs.declared.verbs.Verb.TheVariants as verbs
use Rattle.chi_script.specs.Spelling.{AreOperands, IsLine, IsNumber, IsOperand, Operand, Small, Value, OfKind, OfType, SpellsWith, command_verb, operands_of}
use Rattle.chi_script.specs.Verbs.{verb_text}
use Rattle.chi_script.proofs.LackLemmas.{lacks, all_lack, both_hold, decimal_lacks, line_lacks}

number_plain : (n : ℕ) (word : List ℕ) → IsNumber n word → lacks 62 word ≡ true
number_plain n word is = ap (lacks 62) is.1 ∙ decimal_lacks 62 n refl

kind_plain : (kind : Kind) → lacks 62 (kind_text kind) ≡ true
kind_plain ReadNotSharedDirty = refl
kind_plain ReadShared = refl
kind_plain ReadUnique = refl
kind_plain CleanUnique = refl
kind_plain Evict = refl
kind_plain WriteBackFull = refl
kind_plain WriteCleanFull = refl
kind_plain WriteEvictFull = refl

verb_plain : (verb : Verb) → lacks 62 (verb_text verb) ≡ true
verb_plain verbs.Load = refl
verb_plain verbs.Store = refl
verb_plain verbs.Drop = refl
verb_plain verbs.Issue = refl
verb_plain verbs.Arrive = refl
verb_plain verbs.Start = refl
verb_plain verbs.Snp = refl
verb_plain verbs.SnpResp = refl
verb_plain verbs.RetryAck = refl
verb_plain verbs.Resend = refl
verb_plain verbs.Cancel = refl
verb_plain verbs.Data = refl
verb_plain verbs.Comp = refl
verb_plain verbs.Dbid = refl
verb_plain verbs.Ack = refl
verb_plain verbs.WrData = refl
verb_plain verbs.See = refl
verb_plain verbs.GiveBack = refl
verb_plain verbs.Tend = refl
verb_plain verbs.Totals = refl
verb_plain verbs.Audit = refl
verb_plain verbs.Show = refl
verb_plain verbs.Flits = refl

operand_plain : (operand : Operand) (word : List ℕ) → IsOperand operand word → lacks 62 word ≡ true
operand_plain (Small n) word is = number_plain is.0 word is.1
operand_plain (Value n) word is = number_plain n word is
operand_plain (OfKind kind) word is = ap (lacks 62) is ∙ kind_plain kind
operand_plain (OfType (Some ty)) word is = number_plain (credit_number ty) word is
operand_plain (OfType None) word is = number_plain is.0 word is.1

operands_plain : (operands : List Operand) (words : List (List ℕ)) → AreOperands operands words → all_lack 62 words ≡ true
operands_plain [] [] is = refl
operands_plain [] (word ∷ words) is = absurd is
operands_plain (operand ∷ operands) [] is = absurd is
operands_plain (operand ∷ operands) (word ∷ words) (said, are) = both_hold (lacks 62 word) (all_lack 62 words) (operand_plain operand word said) (operands_plain operands words are)

words_plain : (verb : Option Verb) (operands : List Operand) (words : List (List ℕ)) → SpellsWith verb operands words → all_lack 62 words ≡ true
words_plain None operands words is = absurd is
words_plain (Some verb) operands [] is = absurd is
words_plain (Some verb) operands (word ∷ words) (named, are) = both_hold (lacks 62 word) (all_lack 62 words) (ap (lacks 62) named ∙ verb_plain verb) (operands_plain operands words are)

pub line_plain : (command : Command) (line : List ℕ) → IsLine command line → lacks 62 line ≡ true
line_plain command line is = ap (lacks 62) is.2 ∙ line_lacks 62 is.0 refl (words_plain (command_verb command) (operands_of command) is.0 is.1)
