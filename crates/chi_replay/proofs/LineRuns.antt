-- A run of the commands of lines, each played as soon as it is read.
use Rattle.std.proofs.Common.{◌≡◌, ℕ, ◌+◌, ◌==◌, true, List, [], ◌∷◌, ◌++◌, length, Result, Ok, Err, refl, sym, subst, append_assoc, append-nil}
use Rattle.chi_node.specs.Words.{TableId, PortView}
use Rattle.chi_script.specs.declared.commands.Command.{Command}
use Rattle.chi_script.specs.declared.faults.Fault.{Fault}
use Rattle.chi_script.specs.Files.{command_at, commands_of, lines_of}
use Rattle.chi_script.proofs.CommandLoop.{with_front, goes_on, is_done}
use Rattle.chi_slice.specs.Words.{Sizes}
use Rattle.chi_node.specs.System.{SystemState, opening_system}
use Rattle.chi_replay.specs.Session.{machine_of, ports_of}
use Rattle.chi_replay.specs.Turns.{Machine, turn}
use Rattle.chi_replay.specs.Texts.{IsTextOfLines, Says}
use Rattle.chi_replay.proofs.Leads.{LeadsOn, leads_first, leads_further, leads_to}

-- The commands that were played are the front of those of all lines, and what was written leads on,
-- whatever the lines are that are left.
pub record Played (config : Sizes) (lines : List ℕ) (n : ℕ) (rest written : List ℕ) (m : Machine) (ports : List PortView) : Type 0 where
  pub front : List Command
  pub so_far : with_front front (commands_of n (lines_of rest)) ≡ commands_of 2 (lines_of lines)
  pub leads : (later : List Command) → LeadsOn config (front ++ later) written m ports later

no_front : (read : Result (List Command) Fault) → with_front [] read ≡ read
no_front (Ok commands) = refl
no_front (Err fault) = refl

-- before the first line
pub played_none : (config : Sizes) (lines : List ℕ) (z : TableId) (y : SystemState) (written : List ℕ) → y ≡ opening_system config z → written ≡ [] → Played config lines 2 lines written (machine_of y) (ports_of y)
played_none config lines z y written is none = record { front = []; so_far = no_front (commands_of 2 (lines_of lines)); leads = λ later. leads_first config later z y written is none }

-- after one more line
pub played_line : (config : Sizes) (lines : List ℕ) (n : ℕ) (rest line after written written' : List ℕ) (m m' : Machine) (ports ports' : List PortView) (command : Command)
    → lines_of rest ≡ line ∷ lines_of after → command_at n line ≡ Ok command → Says (turn m command) ports m' ports' written written'
    → Played config lines n rest written m ports → Played config lines (n + 1) after written' m' ports'
played_line config lines n rest line after written written' m m' ports ports' command e is says so = record {
  front = so.front ++ command ∷ [];
  so_far = goes_on so.front n rest line after command (commands_of 2 (lines_of lines)) e is so.so_far;
  leads = λ later. subst (λ (all : List Command). LeadsOn config all written' m' ports' later) (sym (append_assoc so.front (command ∷ []) later))
      (leads_further config (so.front ++ command ∷ later) written written' m m' ports ports' command later (so.leads (command ∷ later)) says);
}

-- after the last line
pub played_all : (config : Sizes) (lines : List ℕ) (n : ℕ) (rest written : List ℕ) (m : Machine) (ports : List PortView)
    → lines_of rest ≡ rest ∷ [] → (length rest == 0) ≡ true → Played config lines n rest written m ports → IsTextOfLines config lines written
played_all config lines n rest written m ports e empty so = record {
  commands = so.front;
  good = is_done so.front n rest (commands_of 2 (lines_of lines)) e empty so.so_far;
  text = leads_to config so.front written m ports (subst (λ (all : List Command). LeadsOn config all written m ports []) (append-nil so.front) (so.leads []));
}
