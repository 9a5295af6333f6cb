-- The lines of a text are the answers of its commands, one each.
use Rattle.std.proofs.Common.{◌≡◌, ℕ, suc, List, [], ◌∷◌, ◌++◌, length, refl, ap, ◌∙◌}
use Rattle.chi_script.specs.declared.commands.Command.{Command}
use Rattle.chi_script.specs.Files.{lines_of}
use Rattle.chi_script.proofs.LackLemmas.{next_line}
use Rattle.chi_replay.specs.Texts.{Ending, ending, ending_text, text}
use Rattle.chi_replay.specs.Turns.{TurnAnswer, Machine, turn}
use Rattle.chi_replay.specs.Answers.{answers_of}
use Rattle.chi_replay.proofs.PlainReplies.{reply}

pub are_lines : (m : Machine) (commands : List Command) (tracked : List TurnAnswer) → lines_of (text m commands tracked) ≡ answers_of m commands tracked ++ [] ∷ []
are_lines m [] tracked = refl
are_lines m (command ∷ rest) tracked =
    let here : Ending = ending (turn m command) tracked in
    next_line (ending_text here) (text here.state rest here.left) (reply here.state.home here.reply).plain
    ∙ ap (λ (ls : List (List ℕ)). ending_text here ∷ ls) (are_lines here.state rest here.left)

pub one_each : (m : Machine) (commands : List Command) (tracked : List TurnAnswer) → length (answers_of m commands tracked) ≡ length commands
one_each m [] tracked = refl
one_each m (command ∷ rest) tracked =
    let here : Ending = ending (turn m command) tracked in
    ap suc (one_each here.state rest here.left)
