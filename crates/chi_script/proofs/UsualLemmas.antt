-- Lines that begin with a verb.
use Rattle.std.proofs.Common.{◌≡◌, ℕ, ◌+◌, ◌-◌, ◌<◌, ◌∙◌, true, List, [], ◌∷◌, ◌++◌, Option, Some, None, IfSome, length, take, drop, get_or, nat_eq, ap, sym, refl, add-one, drop-cons}
use Rattle.std.specs.List.{starts_with}
use Rattle.std.proofs.lemmas.Bool.Decides.{Decides-eqb}
use Rattle.std.proofs.lemmas.List.{take_rest}
use Rattle.std.proofs.lemmas.Slice.Eq.{bytes_eq-Decides, starts_is}
use Rattle.chi_script.specs.declared.commands.Command.{Command}
use Rattle.chi_script.specs.declared.commands.Command.TheVariants.{Totals}
use Rattle.chi_script.specs.declared.verbs.Verb.{Verb}
use Rattle.chi_script.specs.declared.verbs.Verb.TheVariants as verbs
use Rattle.chi_script.specs.Words.{words_of, has_no_space, is_text, small_of}
use Rattle.chi_script.specs.Commands.{command_of, command_one, command_two, command_with}
use Rattle.chi_script.specs.Verbs.{verb_text}
use Rattle.chi_script.proofs.CommandLemmas.{behind_again, verb_spaceless}
use Rattle.chi_script.proofs.SpaceLemmas.{last_word, next_word, one_number}

behind_space : (line verb : List ℕ) → has_no_space verb ≡ true → length verb < length line → get_or line (length verb) 0 ≡ 32 → starts_with nat_eq line verb ≡ true
    → words_of line ≡ verb ∷ words_of (take (length line - (length verb + 1)) (drop (length verb + 1) line))
behind_space line verb word long space starts =
    let cut : drop (length verb) line ≡ get_or line (length verb) 0 ∷ drop (length verb + 1) line = rw add-one (drop-cons line (length verb) 0 long) in
    let front : drop (length verb) line ≡ 32 ∷ drop (length verb + 1) line = cut ∙ ap (λ (b : ℕ). b ∷ drop (length verb + 1) line) space in
    rw (take_rest line (length verb + 1))
    (ap words_of ((starts_is Decides-eqb line verb true (sym starts)).0 refl ∙ ap (λ (l : List ℕ). verb ++ l) front) ∙ next_word verb (drop (length verb + 1) line) word)

pub behind_verb : (line text : List ℕ) (verb : Verb) → text ≡ verb_text verb → length text < length line → get_or line (length text) 0 ≡ 32 → starts_with nat_eq line text ≡ true
    → command_of (words_of line) ≡ command_with verb (words_of (take (length line - (length text + 1)) (drop (length text + 1) line)))
behind_verb line text verb is long space starts =
    let rest = words_of (take (length line - (length text + 1)) (drop (length text + 1) line)) in
    let word : has_no_space text ≡ true = ap has_no_space is ∙ verb_spaceless verb in
    ap command_of (behind_space line text word long space starts ∙ ap (λ (w : List ℕ). w ∷ rest) is) ∙ behind_again verb rest

pub one_word : (line text : List ℕ) → text ≡ verb_text verbs.Totals → is_text line text ≡ true → command_of (words_of line) ≡ Some Totals
one_word line text named is =
    ap (λ (l : List ℕ). command_of (words_of l)) ((bytes_eq-Decides line text).0 is ∙ named) ∙ (ap command_of (last_word (verb_text verbs.Totals) refl) ∙ behind_again verbs.Totals [])

-- what is made of a line is told where it is a command
told : (read made : Option Command) → read ≡ made → IfSome made (λ command. read ≡ Some command)
told read None is = tt
told read (Some command) is = is

pub one_behind : (line rest : List ℕ) (verb : Verb) (n : ℕ) (made : Option Command) → command_of (words_of line) ≡ command_with verb (words_of rest) → small_of rest ≡ Some n → made ≡ command_one verb n
    → IfSome made (λ command. command_of (words_of line) ≡ Some command)
one_behind line rest verb n made behind is_n is =
    let one : command_with verb (words_of rest) ≡ command_one verb n = rw (one_number rest n is_n, is_n) refl in
    told (command_of (words_of line)) made (behind ∙ (one ∙ sym is))

pub two_behind : (line rest first second : List ℕ) (verb : Verb) (n l : ℕ) (made : Option Command) → command_of (words_of line) ≡ command_with verb (words_of rest) → words_of rest ≡ first ∷ words_of second
    → small_of first ≡ Some n → small_of second ≡ Some l → made ≡ command_two verb n l → IfSome made (λ command. command_of (words_of line) ≡ Some command)
two_behind line rest first second verb n l made behind split is_n is_l is =
    let two : command_with verb (words_of rest) ≡ command_two verb n l = rw (split, one_number second l is_l, is_n, is_l) refl in
    told (command_of (words_of line)) made (behind ∙ (two ∙ sym is))
