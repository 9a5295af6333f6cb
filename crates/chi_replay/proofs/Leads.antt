-- What was written leads on: whatever answers the commands that are left get, the whole is a text.
use Rattle.std.proofs.Common.{◌≡◌, ℕ, List, [], ◌∷◌, ◌++◌, refl, sym, ◌∙◌, ap, subst, append_assoc, append-nil}
use Rattle.chi_node.specs.Words.{TableId, PortView}
use Rattle.chi_script.specs.declared.commands.Command.{Command}
use Rattle.chi_slice.specs.Words.{Sizes}
use Rattle.chi_node.specs.System.{SystemState, opening_system}
use Rattle.chi_replay.specs.Session.{machine_of, ports_of}
use Rattle.chi_replay.proofs.Openings.{opening_machine, opening_views}
use Rattle.chi_replay.specs.Replies.{reply_text}
use Rattle.chi_replay.specs.declared.replies.Reply.{Reply}
use Rattle.chi_replay.specs.Turns.{TurnAnswer, Machine, Turn, machine_at_start, turn}
use Rattle.chi_replay.specs.Texts.{MayAnswer, IsText, Ending, Plays, Says, ending_text, opening_ports, text}
use Rattle.chi_replay.proofs.Playing.{made_plays}
use Rattle.chi_replay.proofs.Audited.{audits_tell}

abbrev pub LeadsOn : Sizes → List Command → List ℕ → Machine → List PortView → List Command → Type 0
LeadsOn config all written m ports rest = (answers : List TurnAnswer) → MayAnswer m ports rest answers → IsText config all (written ++ text m rest answers)

-- before the first command
leads_from : (config : Sizes) (all : List Command) → LeadsOn config all [] (machine_at_start config) (opening_ports config) all
leads_from config all = λ answers allowed. record { answers = answers; allowed = allowed; same = refl; audits = audits_tell (machine_at_start config) (opening_ports config) all answers allowed }

pub leads_first : (config : Sizes) (all : List Command) (z : TableId) (y : SystemState) (written : List ℕ) → y ≡ opening_system config z → written ≡ [] → LeadsOn config all written (machine_of y) (ports_of y) all
leads_first config all z y written is none =
    subst (λ (l : List ℕ). LeadsOn config all l (machine_of y) (ports_of y) all) (sym none)
    (subst (λ (m : Machine). LeadsOn config all [] m (ports_of y) all) (sym (opening_machine config z y is))
    (subst (λ (ports : List PortView). LeadsOn config all [] (machine_at_start config) ports all) (sym (opening_views config z y is)) (leads_from config all)))

-- a reply that was played, and printed
pub says_told : (t : Turn) (ports : List PortView) (m' : Machine) (ports' : List PortView) (written written' : List ℕ)
    → (reply : Reply) × ((answers : List TurnAnswer) × Plays t ports answers reply m' ports') × (written' ≡ written ++ (reply_text m'.home reply ++ (10 ∷ []))) → Says t ports m' ports' written written'
says_told t ports m' ports' written written' told = (told.1.0, told.0, told.1.1, told.2)

joined_line : (written said rest : List ℕ) → written ++ (said ++ (10 ∷ rest)) ≡ (written ++ (said ++ (10 ∷ []))) ++ rest
joined_line written said rest = ap (λ (l : List ℕ). written ++ l) (sym (append_assoc said (10 ∷ []) rest)) ∙ sym (append_assoc written (said ++ (10 ∷ [])) rest)

-- after one more command
pub leads_further : (config : Sizes) (all : List Command) (written written' : List ℕ) (m m' : Machine) (ports ports' : List PortView) (command : Command) (rest : List Command)
    → LeadsOn config all written m ports (command ∷ rest) → Says (turn m command) ports m' ports' written written' → LeadsOn config all written' m' ports' rest
leads_further config all written written' m m' ports ports' command rest leads says = λ later allowed.
    let mine = says.0 in
    let reply = says.1 in
    let said = reply_text m'.home reply in
    let whole = leads (mine ++ later) (mine, later, reply, m', ports', refl, says.2, allowed) in
    let played = made_plays (turn m command) ports mine later reply m' ports' says.2 in
    let line : text m (command ∷ rest) (mine ++ later) ≡ said ++ (10 ∷ text m' rest later) = ap (λ (x : Ending). ending_text x ++ (10 ∷ text x.state rest x.left)) played in
    let bytes : written ++ text m (command ∷ rest) (mine ++ later) ≡ written' ++ text m' rest later =
    ap (λ (l : List ℕ). written ++ l) line ∙ (joined_line written said (text m' rest later) ∙ ap (λ (l : List ℕ). l ++ text m' rest later) (sym says.3)) in
    subst (IsText config all) bytes whole

-- after the last command
pub leads_to : (config : Sizes) (all : List Command) (written : List ℕ) (m : Machine) (ports : List PortView) → LeadsOn config all written m ports [] → IsText config all written
leads_to config all written m ports leads = subst (IsText config all) (append-nil written) (leads [] refl)
