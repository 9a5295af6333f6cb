-- The text of each answer of a replay, without the line feed that ends its line
-- (docs/FORMATS.md, "Replay files", and docs/PROTOCOL.md, "Messages"), and what a storm
-- prints as they do ("The output of a storm").
use Rattle.std.specs.Prelude.{ℕ, List, [], ◌∷◌, ◌++◌, Bool, true, false, Option, Some, None, is_some, map, take, codes, option_to_list}
use Rattle.std.specs.List.{filter, flat_map, range_with_len}
use Rattle.std.specs.Fmt.{decimal}
use Rattle.chi_flit.specs.declared.credit.Profile.{Profile}
use Rattle.chi_flit.specs.declared.credit.Profile.TheVariants.{Two, Four}
use Rattle.chi_flit.specs.declared.message.Channel.{Channel}
use Rattle.chi_flit.specs.declared.message.Channel.TheVariants as channels
use Rattle.chi_flit.specs.declared.message.Msg.{Msg}
use Rattle.chi_flit.specs.Credit.{credit_text}
use Rattle.chi_flit.specs.Message.{message_text}
use Rattle.chi_flit.specs.declared.refusal.Refusal.{Refusal}
use Rattle.chi_flit.specs.Refusal.{refusal_number, refusal_text}
use Rattle.chi_flit.specs.State.{state_text}
use Rattle.chi_slice.specs.Words.{cell_of, cells_of, is_in, line_view, Cells, CopyView, LineView, Serving}
use Rattle.chi_slice.specs.Servings as servings
use Rattle.chi_node.specs.Home.{HomeState, node_flits_refusal, node_last, node_line, node_view_refusal}
use Rattle.chi_tracker.specs.declared.released.Released.{Released}
use Rattle.chi_tracker.specs.declared.released.Released.TheVariants.{Granted, Freed}
use Rattle.chi_replay.specs.declared.replies.Reply.{Reply}
use Rattle.chi_replay.specs.declared.replies.Reply.TheVariants as replies
use Rattle.chi_replay.specs.declared.totals.NodeTotals.{NodeTotals}
use Rattle.chi_slice.specs.declared.audits.Audit.{Audit}

-- where a released entry went
abbrev pub released_text : Released → List ℕ
released_text (Granted agent) = codes "granted " ++ decimal agent.0
released_text Freed = codes "freed"

-- why nothing was done, where a reply says so
abbrev pub refusal_in : Reply → Option Refusal
refusal_in (replies.Refused refusal) = Some refusal
refusal_in other = None

abbrev pub refused_text : Refusal → List ℕ
refused_text refusal = codes "refused " ++ (decimal (refusal_number refusal) ++ (codes " " ++ refusal_text refusal))

-- the texts of a list with commas between them, and `-` where it is empty
abbrev pub joined_texts : {A : Type 0} → (A → List ℕ) → List A → List ℕ
joined_texts text [] = codes "-"
joined_texts text (first ∷ others) = text first ++ flat_map (λ next. codes "," ++ text next) others

-- the texts of a list with a space before each
abbrev pub spaced_texts : {A : Type 0} → (A → List ℕ) → List A → List ℕ
spaced_texts text all = flat_map (λ next. codes " " ++ text next) all

-- the numbers that are in a set of eight marks, in rising order
abbrev pub members : List Bool → List ℕ
members set = filter (λ n. is_in set n) (range_with_len 0 8)

abbrev pub agents_text : List Bool → List ℕ
agents_text set = joined_texts decimal (members set)

-- a copy is shown by its state alone
abbrev pub copy_text : CopyView → List ℕ
copy_text copy = state_text copy.state

abbrev pub yes_no : Bool → List ℕ
yes_no true = codes "yes"
yes_no false = codes "no"

-- the request that is served, by its agent
abbrev pub serving_text : Serving → List ℕ
serving_text servings.Idle = codes "none"
serving_text (servings.Snooping agent kind slot) = codes "snooping " ++ decimal agent.0
serving_text (servings.AwaitingCompAck agent slot) = codes "compack " ++ decimal agent.0
serving_text (servings.AwaitingWriteData agent kind slot) = codes "wrdata " ++ decimal agent.0

-- `show` of a line, with the copies of so many agents
abbrev pub shown_text : ℕ → LineView → List ℕ
shown_text agents view =
    codes "ok copies " ++ (joined_texts copy_text (take agents view.copies)
    ++ (codes " named " ++ (agents_text view.named
    ++ (codes " unique " ++ (yes_no view.unique
    ++ (codes " serving " ++ (serving_text view.serving
    ++ (codes " waiting " ++ (agents_text (map is_some view.waiting)
    ++ (codes " memory" ++ spaced_texts decimal view.memory))))))))))

-- the order in which `flits` shows the channels
abbrev pub shown_channels : List Channel
shown_channels = channels.Req ∷ channels.Snp ∷ channels.RspDown ∷ channels.DatDown ∷ channels.RspUp ∷ channels.DatUp ∷ []

-- what is in flight, in that order
abbrev pub messages_in : Cells → List Msg
messages_in cells = flat_map (λ channel. option_to_list (cell_of cells channel)) shown_channels

abbrev pub has_none : List Msg → Bool
has_none [] = true
has_none (message ∷ messages) = false

-- each after a space, and ` none` where there is none
abbrev pub messages_text : List Msg → List ℕ
messages_text [] = codes " none"
messages_text (message ∷ messages) = spaced_texts message_text (message ∷ messages)

-- `flits` of an agent and a line
abbrev pub flits_text : Cells → List ℕ
flits_text cells = codes "ok" ++ messages_text (messages_in cells)

-- how many credit types a profile has
abbrev pub type_count : Profile → ℕ
type_count Two = 2
type_count Four = 4

-- the numbers by type, of the types that there are
abbrev pub counts_text : Profile → List ℕ → List ℕ
counts_text profile counts = spaced_texts decimal (take (type_count profile) counts)

-- the entries by type, and the owed credits
abbrev pub totals_text : NodeTotals → List ℕ
totals_text totals =
    codes "free" ++ (counts_text totals.profile totals.counts.free
    ++ (codes " hand" ++ (counts_text totals.profile totals.counts.hand
    ++ (codes " promised" ++ (counts_text totals.profile totals.counts.promised
    ++ (codes " owed" ++ counts_text totals.profile totals.counts.owed))))))

-- what an audit finds
abbrev pub verdict_text : Bool → List ℕ
verdict_text true = codes "coherent"
verdict_text false = codes "broken"

-- `audit`
abbrev pub audit_text : Audit → List ℕ
audit_text audit = codes "ok loads " ++ (decimal audit.loads ++ (codes " stores " ++ (decimal audit.stores ++ (codes " " ++ verdict_text audit.coherent))))

-- what is looked at, where it is there
abbrev pub looked_text : Option Refusal → List ℕ → List ℕ
looked_text None text = text
looked_text (Some refusal) text = refused_text refusal

-- the line of a reply; a line and its flits are shown as they are in the home then
abbrev pub reply_text : HomeState → Reply → List ℕ
reply_text home replies.Done = codes "ok"
reply_text home (replies.Value value) = codes "ok value " ++ decimal value
reply_text home (replies.Admitted entry) = codes "ok admitted " ++ decimal entry.0
reply_text home (replies.Retry credit) = codes "ok retry " ++ credit_text credit
reply_text home (replies.Completed slot released) = codes "ok completed " ++ (decimal slot.0 ++ (codes " " ++ released_text released))
reply_text home (replies.Paid released) = codes "ok " ++ released_text released
reply_text home replies.Idle = codes "ok idle"
reply_text home (replies.Credits credits) = codes "ok credits" ++ counts_text credits.profile credits.counts
reply_text home (replies.Totals totals) = codes "ok " ++ totals_text totals
reply_text home (replies.Audit audit) = audit_text audit
reply_text home (replies.Line l) = looked_text (node_view_refusal home l.0) (shown_text home.config.agents (line_view (node_line home l.0) (node_last home l.0)))
reply_text home (replies.Flits agent l) = looked_text (node_flits_refusal home agent.0 l.0) (flits_text (cells_of (node_line home l.0) agent.0))
reply_text home (replies.Refused refusal) = refused_text refusal
