-- The text of a list of commands, under the tracker's answers, and which answers are allowed
-- (docs/FORMATS.md, "Replay files").
use Rattle.std.specs.Prelude.{◌≡◌, ◌↔◌, ℕ, All, Bool, IsTrue, List, [], ◌∷◌, ◌++◌, Some, slice_get, slice_set, Ok}
use Rattle.chi_flit.specs.declared.numbers.Agent.{Agent}
use Rattle.chi_script.specs.declared.commands.Command.{Command}
use Rattle.chi_script.specs.declared.commands.Command.TheVariants as commands
use Rattle.chi_script.specs.Files.{commands_of, lines_of}
use Rattle.chi_slice.specs.Coherence.{IsCoherentSlice}
use Rattle.chi_slice.specs.Words.{Sizes}
use Rattle.chi_slice.specs.Slice.{SliceState}
use Rattle.chi_node.specs.Words.{PortView, new_ports, shape_of}
use Rattle.chi_node.specs.Home.{HomeState}
use Rattle.chi_node.specs.Headline.{Headline, views_in}
use Rattle.chi_node.specs.System.{SystemState}
use Rattle.chi_slice.specs.Audits.{loads_in, stores_in}
use Rattle.chi_replay.specs.declared.replies.Reply.{Reply}
use Rattle.chi_replay.specs.declared.replies.Reply.TheVariants as replies
use Rattle.chi_replay.specs.Replies.{reply_text}
use Rattle.chi_replay.specs.Ports.{PortClaims, PortGivesBack, PortOwes, PortReleases, PortSees, PortSpends, PortTends}
use Rattle.chi_replay.specs.Turns.{TurnAnswer, TurnCall, Claim, Claimed, GiveBack, Glance, Glanced, Judge, Judged, Owe, Owed, Release, See, Saw, Spend, Spent, Tend, Tended, Went, Turn, Asks, Ends, Machine, machine_at_start, turn}

-- the reply of a turn, the state that it leaves, and the answers that it leaves over
pub record Ending : Type 0 where
  pub reply : Reply
  pub state : Machine
  pub left : List TurnAnswer

-- a turn under the next answers; where one is lacking, which no allowed list does, it goes on as after Owed
abbrev pub ending : Turn → List TurnAnswer → Ending
ending (Ends reply m) answers = record { reply = reply; state = m; left = answers }
ending (Asks call next) [] = ending (next Owed) []
ending (Asks call next) (answer ∷ answers) = ending (next answer) answers

-- the line that it says
abbrev pub ending_text : Ending → List ℕ
ending_text end = reply_text end.state.home end.reply

-- a line for each command
abbrev pub text : Machine → List Command → List TurnAnswer → List ℕ
text m [] answers = []
text m (command ∷ rest) answers =
    ending_text (ending (turn m command) answers) ++ (10 ∷ text (ending (turn m command) answers).state rest (ending (turn m command) answers).left)

-- the port of the agent, which has one, goes on so, and the other ports stay
abbrev pub AtPort : Agent → List PortView → List PortView → (PortView → PortView → Type 0) → Type 0
AtPort agent old new Goes = (before after : PortView) × (slice_get old agent.0 ≡ Some before) × Goes before after × (new ≡ slice_set old agent.0 after)

-- the headline of a node with these slices and the views of these ports
abbrev pub HeadlineOf : HomeState → List PortView → Type 0
HeadlineOf home ports = (y : SystemState) × (y.home ≡ home) × (views_in y.requesters ≡ ports) × Headline y

-- what may be answered to a call, and the views of the ports then. The tracker's answers: the agent's port
-- goes on by the clause of the call; a glance may show any number for each type. A verdict is that on the
-- slices, and the headline holds of them and of the ports then. No call has an answer of another kind.
abbrev pub Permits : List PortView → TurnCall → TurnAnswer → List PortView → Type 0
Permits old (Claim agent ty) (Claimed claim) new = AtPort agent old new (λ before after. PortClaims before ty claim after)
Permits old (Owe agent ty) Owed new = AtPort agent old new (λ before after. PortOwes before ty after)
Permits old (Spend agent ty) (Spent entry) new = AtPort agent old new (λ before after. PortSpends before ty entry after)
Permits old (Release agent entry) (Went released) new = AtPort agent old new (λ before after. PortReleases before entry released after)
Permits old (See agent) (Saw counts) new = AtPort agent old new (λ before after. PortSees before counts after)
Permits old (GiveBack agent ty) (Went released) new = AtPort agent old new (λ before after. PortGivesBack before ty released after)
Permits old (Tend agent ty) (Tended released) new = AtPort agent old new (λ before after. PortTends before ty released after)
Permits old Glance (Glanced free hand promised owed) new = new ≡ old
Permits old (Judge home) (Judged coherent) new = (IsTrue coherent ↔ All IsCoherentSlice home.slices) × (new ≡ old) × HeadlineOf home old
Permits old call other new = ⊥

-- a turn, played with just these answers
abbrev pub Plays : Turn → List PortView → List TurnAnswer → Reply → Machine → List PortView → Type 0
Plays (Ends reply' m) old [] reply state new = (reply ≡ reply') × (state ≡ m) × (new ≡ old)
Plays (Ends reply' m) old (answer ∷ answers) reply state new = ⊥
Plays (Asks call next) old [] reply state new = ⊥
Plays (Asks call next) old (answer ∷ answers) reply state new =
    (mid : List PortView) × Permits old call answer mid × Plays (next answer) mid answers reply state new

-- a turn was played, and its line, with its end, was put behind the bytes
abbrev pub Says : Turn → List PortView → Machine → List PortView → List ℕ → List ℕ → Type 0
Says played old state new before after =
    (answers : List TurnAnswer) × (reply : Reply) × Plays played old answers reply state new × (after ≡ before ++ (reply_text state.home reply ++ (10 ∷ [])))

-- the answers that a list of commands may get
abbrev pub MayAnswer : Machine → List PortView → List Command → List TurnAnswer → Type 0
MayAnswer m ports [] answers = answers ≡ []
MayAnswer m ports (command ∷ rest) answers = (mine later : List TurnAnswer) × (reply : Reply) × (state : Machine) × (new : List PortView)
    × (answers ≡ mine ++ later) × Plays (turn m command) ports mine reply state new × MayAnswer state new rest later

-- the views of the ports to a new node's tracker
abbrev pub opening_ports : Sizes → List PortView
opening_ports config = new_ports (shape_of config.entries config.agents) 0 config.agents

-- a command's reply, where it is an audit, tells what the slices are: the loads and the stores in their journals, and
-- whether each line of each slice is coherent and each journal legal
abbrev pub TellsAudit : Command → List SliceState → Reply → Type 0
TellsAudit commands.Audit slices reply =
    (coherent : Bool) × (IsTrue coherent ↔ All IsCoherentSlice slices) × (reply ≡ replies.Audit (record { loads = loads_in slices; stores = stores_in slices; coherent = coherent }))
TellsAudit other slices reply = Unit {0}

-- each audit among the commands tells what the slices are when its turn comes
abbrev pub AuditsTell : Machine → List Command → List TurnAnswer → Type 0
AuditsTell m [] answers = Unit {0}
AuditsTell m (command ∷ rest) answers = TellsAudit command m.home.slices (ending (turn m command) answers).reply
    × AuditsTell (ending (turn m command) answers).state rest (ending (turn m command) answers).left

-- bytes that are the text of the commands on a new node, under some allowed answers, and whose audits tell
-- what the slices are
pub record IsText (config : Sizes) (all : List Command) (bytes : List ℕ) : Type 0 where
  pub answers : List TurnAnswer
  pub allowed : MayAnswer (machine_at_start config) (opening_ports config) all answers
  pub same : bytes ≡ text (machine_at_start config) all answers
  pub audits : AuditsTell (machine_at_start config) all answers

-- and of the commands that the lines behind a header are
pub record IsTextOfLines (config : Sizes) (lines bytes : List ℕ) : Type 0 where
  pub commands : List Command
  pub good : commands_of 2 (lines_of lines) ≡ Ok commands
  pub text : IsText config commands bytes
