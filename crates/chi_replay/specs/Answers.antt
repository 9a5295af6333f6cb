-- The answers of a list of commands, one for each (docs/FORMATS.md, "Replay files").
use Rattle.std.specs.Prelude.{◌≡◌, ℕ, List, [], ◌∷◌, ◌++◌, length}
use Rattle.chi_script.specs.declared.commands.Command.{Command}
use Rattle.chi_script.specs.Files.{lines_of}
use Rattle.chi_replay.specs.Texts.{ending, ending_text, text}
use Rattle.chi_replay.specs.Turns.{TurnAnswer, Machine, turn}

-- what each command says in its turn: the lines of a replay's text
abbrev pub answers_of : Machine → List Command → List TurnAnswer → List (List ℕ)
answers_of m [] answers = []
answers_of m (command ∷ rest) answers =
    ending_text (ending (turn m command) answers) ∷ answers_of (ending (turn m command) answers).state rest (ending (turn m command) answers).left

-- they are the lines of the text; nothing stands behind its last line end
abbrev pub AreLines : Machine → List Command → List TurnAnswer → Type 0
AreLines m commands tracked = lines_of (text m commands tracked) ≡ answers_of m commands tracked ++ [] ∷ []

abbrev pub AreOneEach : Machine → List Command → List TurnAnswer → Type 0
AreOneEach m commands tracked = length (answers_of m commands tracked) ≡ length commands
