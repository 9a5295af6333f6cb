-- Whole traces: what is kept behind a list of flits, and what the list says of it (docs/TRANSACTIONS.md, "What is proved"). Lists are read
-- backwards: the latest flit is the first.
use Rattle.std.specs.Prelude.{◌≡◌, ⊤, ℕ, suc, ◌+◌, ◌≤◌, ◌==◌, ◌&&◌, ◌||◌, not, min, Bool, true, false, List, [], ◌∷◌, Option, Some, None, length, if◌then◌else◌}
use Rattle.chi_issue_b.specs.Flit.{dbid_of, line_of}
use Rattle.chi_issue_b.specs.declared.flit.Flit.{Flit}
use Rattle.chi_issue_b.specs.declared.ids.CacheLine.{CacheLine}
use Rattle.chi_issue_b.specs.declared.ids.DbId.{DbId}
use Rattle.chi_issue_b.specs.declared.ids.NodeId.{NodeId}
use Rattle.chi_issue_b.specs.declared.opcodes.Opcode.{Opcode}
use Rattle.chi_issue_b.specs.declared.roles.Role.{Role}
use Rattle.chi_issue_b.specs.declared.roles.Role.TheVariants as roles
use Rattle.chi_transactions.specs.declared.credits.CreditEvent.{CreditEvent}
use Rattle.chi_transactions.specs.declared.credits.CreditEvent.TheVariants.{Retried, Granted, Resent, Returned}
use Rattle.chi_transactions.specs.declared.entries.Credits.{Credits}
use Rattle.chi_transactions.specs.declared.entries.OpenId.{OpenId}
use Rattle.chi_transactions.specs.declared.entries.Options.{Options}
use Rattle.chi_transactions.specs.declared.entries.Place.{Place}
use Rattle.chi_transactions.specs.declared.entries.Reason.{Reason}
use Rattle.chi_transactions.specs.declared.entries.Waiting.{Waiting}
use Rattle.chi_transactions.specs.declared.parts.Parts.{Parts}
use Rattle.chi_transactions.specs.declared.parts.TheConstants.{ANSWER}
use Rattle.chi_transactions.specs.Credits.{credits_at, no_credits, with_event}
use Rattle.chi_transactions.specs.Flits.{account_of, buffer_of, home_of, number_at, place_of, role}
use Rattle.chi_transactions.specs.Ids.{number_of}
use Rattle.chi_transactions.specs.Maps.{is_same_place}
use Rattle.chi_transactions.specs.Parts.{is_among, parts_of}
use Rattle.chi_transactions.specs.Rows.{brings, expects_of}
use Rattle.chi_transactions.specs.Rule.{is_in_use, is_last, is_opening}
use Rattle.chi_transactions.specs.State.{State}
use Rattle.chi_transactions.specs.Steps.{after_by, allows_retry, beat_in, buffer_at, found, nothing_kept, refusal_by, waiting_of}

-- a flit, and the words of data that it has, a bit each
pub record Event : Type 0 where
  pub flit : Flit
  pub there : ℕ

abbrev pub refusal : State → Event → Option Reason
refusal s e = refusal_by (role e.flit) s e.flit e.there

abbrev pub after : State → Event → ℕ → State
after s e number = after_by (role e.flit) s e.flit e.there number

-- what is kept behind a list of flits, whose numbers are their places in it
unfoldable pub behind : Options → List Event → State
behind options [] = nothing_kept options
behind options (e ∷ past) = after (behind options past) e (suc (length past))

-- each flit is taken behind those before it
unfoldable pub IsAccepted : Options → List Event → Type 0
IsAccepted options [] = ⊤
IsAccepted options (e ∷ past) = IsAccepted options past × (refusal (behind options past) e ≡ None)

-- CREDITS: how many flits of a list were RetryAcks, grants, requests sent again and returns, of an account
abbrev pub event_by : Role → Flit → Option CreditEvent
event_by roles.Request f = if allows_retry f then None else Some Resent
event_by roles.CreditReturn f = Some Returned
event_by roles.Retry f = Some Retried
event_by roles.CreditGrant f = Some Granted
event_by other f = None

abbrev pub with_some : Option CreditEvent → Credits → Credits
with_some None credits = credits
with_some (Some event) credits = with_event event credits

unfoldable pub tally : List Event → ℕ → Credits
tally [] account = no_credits
tally (e ∷ past) account =
    if account_of e.flit == account then with_some (event_by (role e.flit) e.flit) (tally past account) else tally past account

-- each of them is kept
abbrev pub CreditsAreCounted : Type 0
CreditsAreCounted =
    (options : Options) (flits : List Event) → IsAccepted options flits
    → (account : ℕ) → credits_at ((behind options flits).credits account) ≡ tally flits account

-- what is spent and returned was granted for a RetryAck, each credit once; and where grants don't come early, each was granted once
-- for a RetryAck
abbrev pub IsCovered : Credits → Type 0
IsCovered credits = credits.resent + credits.returned ≤ min credits.granted credits.retried

abbrev pub CreditsAreSpentOnce : Type 0
CreditsAreSpentOnce =
    (options : Options) (flits : List Event) → options.begins_in_middle ≡ false → IsAccepted options flits
    → (account : ℕ) → IsCovered (tally flits account)

abbrev pub CreditsAreGrantedOnce : Type 0
CreditsAreGrantedOnce =
    (options : Options) (flits : List Event) → options.begins_in_middle ≡ false → options.early_grants ≡ false
    → IsAccepted options flits → (account : ℕ)
    → (tally flits account).granted ≤ (tally flits account).retried

-- IDS. A part is the number of its bit
abbrev pub left_at : Option OpenId → ℕ → Bool
left_at None part = false
left_at (Some id) part = is_among id.left part

-- a flit opens a DBID that it names
abbrev pub is_opened : Flit → OpenId → Option OpenId → ℕ → Option DbId → Bool
is_opened f id buffer n None = false
is_opened f id buffer n (Some dbid) = not (is_in_use buffer) && (is_opening f id && number_of (buffer_of f dbid) == n)

-- the parts that are to come by an id, where a flit opens it: what a request expects, a snoop's answer, what follows by a DBID
abbrev pub opened_if : Bool → Parts → Option Parts
opened_if b parts = if b then Some parts else None

abbrev pub buffer_parts : State → Flit → ℕ → Option OpenId → Option Parts
buffer_parts s f n None = None
buffer_parts s f n (Some id) = opened_if (is_opened f id (buffer_at s f) n (dbid_of f)) id.follows

abbrev pub opened_by : Role → State → Flit → ℕ → Option Parts
opened_by roles.Request s f n = opened_if (number_at f == n) (expects_of f.opcode)
opened_by roles.Snoop s f n = opened_if (number_at f == n) (parts_of ANSWER)
opened_by roles.CreditReturn s f n = None
opened_by roles.Retry s f n = None
opened_by roles.CreditGrant s f n = None
opened_by roles.NoTransaction s f n = None
opened_by naming s f n = buffer_parts s f n (found s f)

-- a part comes by an id: by a flit without data, by whole data, or by the last beat. Behind a RetryAck nothing comes any more
abbrev pub comes_in : State → Flit → ℕ → ℕ → ℕ → Option OpenId → Bool
comes_in s f there n part None = false
comes_in s f there n part (Some id) = number_at f == n && (is_last (beat_in s f there id) && is_among (brings f.opcode) part)

abbrev pub comes_by : Role → State → Flit → ℕ → ℕ → ℕ → Bool
comes_by roles.Request s f there n part = false
comes_by roles.Snoop s f there n part = false
comes_by roles.CreditReturn s f there n part = false
comes_by roles.Retry s f there n part = number_at f == n
comes_by roles.CreditGrant s f there n part = false
comes_by roles.NoTransaction s f there n part = false
comes_by naming s f there n part = comes_in s f there n part (found s f)

-- what the last flit that opened an id expects by it
abbrev pub expected_from : Option Parts → ℕ → Bool → Bool
expected_from None part before = before
expected_from (Some parts) part before = is_among parts part

unfoldable pub expected : Options → List Event → ℕ → ℕ → Bool
expected options [] n part = false
expected options (e ∷ past) n part =
    expected_from (opened_by (role e.flit) (behind options past) e.flit n) part (expected options past n part)

-- what has come by it since
abbrev pub came_from : Option Parts → Bool → Bool → Bool
came_from None comes before = before || comes
came_from (Some parts) comes before = false

unfoldable pub came : Options → List Event → ℕ → ℕ → Bool
came options [] n part = false
came options (e ∷ past) n part =
    came_from (opened_by (role e.flit) (behind options past) e.flit n)
    (comes_by (role e.flit) (behind options past) e.flit e.there n part) (came options past n part)

-- what is kept to be left of an id is what the last flit that opened it expects, but for what has come since
abbrev pub IdsAreBalanced : Type 0
IdsAreBalanced =
    (options : Options) (flits : List Event) → options.begins_in_middle ≡ false → IsAccepted options flits
    → (n part : ℕ) → left_at ((behind options flits).ids n) part ≡ (expected options flits n part && not (came options flits n part))

-- so each part that a flit brings is expected by the id that it names, and hasn't come since that was opened
abbrev pub names_id : Role → Bool
names_id roles.Request = false
names_id roles.Snoop = false
names_id roles.CreditReturn = false
names_id roles.Retry = false
names_id roles.CreditGrant = false
names_id roles.NoTransaction = false
names_id naming = true

abbrev pub PartsComeOnce : Type 0
PartsComeOnce =
    (options : Options) (e : Event) (past : List Event) → options.begins_in_middle ≡ false → IsAccepted options (e ∷ past)
    → names_id (role e.flit) ≡ true
    → (part : ℕ) → is_among (brings e.flit.opcode) part ≡ true
    → (expected options past (number_at e.flit) part ≡ true) × (came options past (number_at e.flit) part ≡ false)

-- what an id is of: the line, the home and the opcode of its request or its snoop, and the number of the flit that opened it
pub record Stand : Type 0 where
  pub line : CacheLine
  pub home : NodeId
  pub of : Opcode
  pub since : ℕ

abbrev pub stand_of : OpenId → Stand
stand_of id = record { line = id.line; home = id.home; of = id.of; since = id.since }

abbrev pub stand_at : Option OpenId → Option Stand
stand_at None = None
stand_at (Some id) = Some (stand_of id)

abbrev pub or_stand : Option Stand → Option Stand → Option Stand
or_stand None before = before
or_stand (Some stand) before = Some stand

abbrev pub stand_if : Bool → Stand → Option Stand
stand_if b stand = if b then Some stand else None

-- what a flit opens: a request or a snoop by its own address; a DBID is of the request that it completes
abbrev pub own_stand : Flit → ℕ → ℕ → Option CacheLine → Option Stand
own_stand f number n None = None
own_stand f number n (Some line) = stand_if (number_at f == n) (record { line = line; home = home_of f; of = f.opcode; since = number })

abbrev pub buffer_stand : State → Flit → ℕ → ℕ → Option OpenId → Option Stand
buffer_stand s f number n None = None
buffer_stand s f number n (Some id) =
    stand_if (is_opened f id (buffer_at s f) n (dbid_of f)) (record { line = id.line; home = id.home; of = id.of; since = number })

abbrev pub stand_by : Role → State → Flit → ℕ → ℕ → Option Stand
stand_by roles.Request s f number n = own_stand f number n (line_of f)
stand_by roles.Snoop s f number n = own_stand f number n (line_of f)
stand_by roles.CreditReturn s f number n = None
stand_by roles.Retry s f number n = None
stand_by roles.CreditGrant s f number n = None
stand_by roles.NoTransaction s f number n = None
stand_by naming s f number n = buffer_stand s f number n (found s f)

-- an id is of what the last flit that opened it says
unfoldable pub stands : Options → List Event → ℕ → Option Stand
stands options [] n = None
stands options (e ∷ past) n = or_stand (stand_by (role e.flit) (behind options past) e.flit (suc (length past)) n) (stands options past n)

abbrev pub IdsStandAsOpened : Type 0
IdsStandAsOpened =
    (options : Options) (flits : List Event) → options.begins_in_middle ≡ false → IsAccepted options flits
    → (n : ℕ) → stand_at ((behind options flits).ids n) ≡ stands options flits n

-- REQUESTS THAT WAIT: behind a RetryAck its requester waits at the line of the request that it names, for a credit of its home and its
-- type, until it sends a request to that line again
abbrev pub ended_at : Flit → Place → Option CacheLine → Option Waiting → Option Waiting
ended_at f place None before = before
ended_at f place (Some line) before = if is_same_place (place_of f line) place then None else before

abbrev pub begun_waiting : Flit → ℕ → Place → Option OpenId → Option Waiting → Option Waiting
begun_waiting f number place None before = before
begun_waiting f number place (Some id) before = if is_same_place (place_of f id.line) place then Some (waiting_of f number id) else before

abbrev pub waits_by : Role → State → Flit → ℕ → Place → Option Waiting → Option Waiting
waits_by roles.Request s f number place before = ended_at f place (line_of f) before
waits_by roles.Retry s f number place before = begun_waiting f number place (found s f) before
waits_by other s f number place before = before

unfoldable pub waits : Options → List Event → Place → Option Waiting
waits options [] place = None
waits options (e ∷ past) place = waits_by (role e.flit) (behind options past) e.flit (suc (length past)) place (waits options past place)

abbrev pub RequestsWait : Type 0
RequestsWait =
    (options : Options) (flits : List Event) → options.begins_in_middle ≡ false → IsAccepted options flits
    → (place : Place) → (behind options flits).waiting place ≡ waits options flits place
