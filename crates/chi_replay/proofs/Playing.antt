-- What was played, as the text makes it.
use Rattle.std.proofs.Common.{◌≡◌, List, [], ◌∷◌, ◌++◌, sym, ◌∙◌, ap}
use Rattle.chi_node.specs.Words.{PortView}
use Rattle.chi_replay.specs.declared.replies.Reply.{Reply}
use Rattle.chi_replay.specs.Turns.{TurnAnswer, Asks, Ends, Machine, Turn}
use Rattle.chi_replay.specs.Texts.{Plays, ending}

-- a turn that was played is what the text makes of it, and leaves the later answers
pub made_plays : (t : Turn) (old : List PortView) (mine later : List TurnAnswer) (reply : Reply) (state : Machine) (new : List PortView) → Plays t old mine reply state new → ending t (mine ++ later) ≡ record { reply = reply; state = state; left = later }
made_plays (Ends line m) old [] later reply state new h = ap (λ (r : Reply). record { reply = r; state = m; left = later }) (sym h.0) ∙ ap (λ (s : Machine). record { reply = reply; state = s; left = later }) (sym h.1)
made_plays (Ends line m) old (answer ∷ answers) later reply state new h = absurd h
made_plays (Asks call next) old [] later reply state new h = absurd h
made_plays (Asks call next) old (answer ∷ answers) later reply state new h = made_plays (next answer) h.0 answers later reply state new h.2
