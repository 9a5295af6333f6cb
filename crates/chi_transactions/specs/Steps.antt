-- Each flit of a trace: why it isn't taken, and what is kept behind it (docs/TRANSACTIONS.md, "The rule").
use Rattle.std.specs.Prelude.{◌≡◌, ⊤, ℕ, ◌+◌, ◌-◌, ◌==◌, ◌&&◌, Bool, true, false, not, Option, Some, None, is_none, Result, Ok, Err, unwrap_or, if◌then◌else◌}
use Rattle.chi_issue_b.specs.Flit.{dbid_of, line_of}
use Rattle.chi_issue_b.specs.declared.flit.Flit.{Flit}
use Rattle.chi_issue_b.specs.declared.ids.CacheLine.{CacheLine}
use Rattle.chi_issue_b.specs.declared.ids.DbId.{DbId}
use Rattle.chi_issue_b.specs.declared.roles.Role.{Role}
use Rattle.chi_issue_b.specs.declared.roles.Role.TheVariants as roles
use Rattle.chi_transactions.specs.declared.credits.CreditEvent.{CreditEvent}
use Rattle.chi_transactions.specs.declared.credits.CreditEvent.TheVariants as events
use Rattle.chi_transactions.specs.declared.entries.Portion.{Portion}
use Rattle.chi_transactions.specs.declared.entries.Portion.TheVariants.{Whole, First, Further, Last}
use Rattle.chi_transactions.specs.declared.entries.Begun.{Begun}
use Rattle.chi_transactions.specs.declared.entries.Credits.{Credits}
use Rattle.chi_transactions.specs.declared.entries.OpenId.{OpenId}
use Rattle.chi_transactions.specs.declared.entries.Options.{Options}
use Rattle.chi_transactions.specs.declared.entries.Place.{Place}
use Rattle.chi_transactions.specs.declared.entries.Reason.{Reason}
use Rattle.chi_transactions.specs.declared.entries.Reason.TheVariants.{NoLine, NotOpen, OtherHome, OtherLine, NotRetryable, InUse, NotWaiting, OtherType, NoCredit, NothingRetried}
use Rattle.chi_transactions.specs.declared.entries.Stop.{Stop}
use Rattle.chi_transactions.specs.declared.entries.Stop.TheVariants.{Refused, NoMemory}
use Rattle.chi_transactions.specs.declared.entries.Taken.{Taken}
use Rattle.chi_transactions.specs.declared.entries.Taken.TheVariants.{Of, Before, Credit, Nothing}
use Rattle.chi_transactions.specs.declared.entries.Waiting.{Waiting}
use Rattle.chi_transactions.specs.declared.parts.TheConstants.{ANSWER}
use Rattle.chi_transactions.specs.Credits.{credits_at, may_grant, unused_of, with_event}
use Rattle.chi_transactions.specs.Flits.{account_of, buffer_of, credit_of, home_of, number_at, pair_of, place_of, role}
use Rattle.chi_transactions.specs.Ids.{number_of}
use Rattle.chi_transactions.specs.Maps.{nothing, put, put_waiting}
use Rattle.chi_transactions.specs.Parts.{is_empty, no_parts, parts_of}
use Rattle.chi_transactions.specs.Rows.{expects_of, follows_of, names_buffer, type_of}
use Rattle.chi_transactions.specs.Rule.{refused_if, or_else, is_before, is_in_use, found_by, is_of_home, is_of_line, is_opening, named_refusal, beat_of, begun_behind, brought, opened_buffer}
use Rattle.chi_transactions.specs.State.{State}

-- FIRST ATTEMPTS that may be retried are counted where grants may come early
abbrev pub counted : (ℕ → Option ℕ) → Flit → ℕ
counted attempts f = unwrap_or (attempts (pair_of f)) 0

abbrev pub is_attempt : Options → OpenId → Bool
is_attempt options id = options.early_grants && (id.retryable && not (is_before id))

unfoldable pub attempts_with : Options → (ℕ → Option ℕ) → Flit → Bool → ℕ → Option ℕ
attempts_with options attempts f first =
    if options.early_grants && first then put attempts (pair_of f) (Some (counted attempts f + 1)) else attempts

unfoldable pub attempts_without : Options → (ℕ → Option ℕ) → Flit → OpenId → ℕ → Option ℕ
attempts_without options attempts f id =
    if is_attempt options id then put attempts (pair_of f) (Some (counted attempts f - 1)) else attempts

-- A FLIT THAT NAMES AN ID
abbrev pub found : State → Flit → Option OpenId
found s f = found_by s.options f (s.ids (number_at f))

abbrev pub begun_at : State → Flit → OpenId → Option Begun
begun_at s f id = if id.begun then s.begun (number_at f) else None

-- what is kept of the DBID that it names
abbrev pub kept_at : (ℕ → Option OpenId) → Flit → Option DbId → Option OpenId
kept_at ids f None = None
kept_at ids f (Some dbid) = ids (number_of (buffer_of f dbid))

unfoldable pub buffer_at : State → Flit → Option OpenId
buffer_at s f = kept_at s.ids f (dbid_of f)

abbrev pub naming_refusal_by : State → Flit → ℕ → Option OpenId → Option Reason
naming_refusal_by s f there None = Some NotOpen
naming_refusal_by s f there (Some id) = named_refusal f there id (begun_at s f id) (buffer_at s f)

abbrev pub naming_refusal : State → Flit → ℕ → Option Reason
naming_refusal s f there = naming_refusal_by s f there (found s f)

abbrev pub beat_in : State → Flit → ℕ → OpenId → Portion
beat_in s f there id = beat_of f there (begun_at s f id)

-- the DBID is opened; one that an id from before names may be named again
abbrev pub with_buffer : Flit → ℕ → OpenId → Option DbId → (ℕ → Option OpenId) → ℕ → Option OpenId
with_buffer f number id None ids = ids
with_buffer f number id (Some dbid) ids =
    if is_opening f id then put ids (number_of (buffer_of f dbid)) (Some (opened_buffer number id)) else
    (if is_before id && names_buffer f.opcode f.resp then put ids (number_of (buffer_of f dbid)) None else ids)

unfoldable pub ids_with : (ℕ → Option OpenId) → Flit → ℕ → Portion → OpenId → Option OpenId → ℕ → Option OpenId
ids_with ids f number beat id buffer =
    if is_in_use buffer then put ids (number_at f) (Some (brought f beat id)) else
    with_buffer f number id (dbid_of f) (put ids (number_at f) (Some (brought f beat id)))

abbrev pub begun_by : Portion → (ℕ → Option Begun) → ℕ → Begun → ℕ → Option Begun
begun_by Whole begun n next = begun
begun_by First begun n next = put begun n (Some next)
begun_by Further begun n next = put begun n (Some next)
begun_by Last begun n next = put begun n None

abbrev pub after_named : State → Flit → ℕ → ℕ → OpenId → State
after_named s f there number id = record s {
  ids = ids_with s.ids f number (beat_in s f there id) id (buffer_at s f);
  begun = begun_by (beat_in s f there id) s.begun (number_at f) (begun_behind f there id (begun_at s f id));
  attempts = attempts_without s.options s.attempts f id;
}

abbrev pub taken_of : OpenId → Portion → Taken
taken_of id beat = if is_before id then Before beat else Of (record { line = id.line; of = id.of; since = id.since; beat = beat })

abbrev pub naming_after_by : State → Flit → ℕ → ℕ → Option OpenId → State
naming_after_by s f there number None = s
naming_after_by s f there number (Some id) = after_named s f there number id

abbrev pub naming_after : State → Flit → ℕ → ℕ → State
naming_after s f there number = naming_after_by s f there number (found s f)

abbrev pub naming_answer_by : State → Flit → ℕ → Option OpenId → Taken
naming_answer_by s f there None = Nothing
naming_answer_by s f there (Some id) = taken_of id (beat_in s f there id)

abbrev pub naming_answer : State → Flit → ℕ → Taken
naming_answer s f there = naming_answer_by s f there (found s f)

-- A RETRYACK ends a request with AllowRetry of which nothing has come, and names the type of its opcode; the request waits then
abbrev pub is_right_by : Option ℕ → ℕ → Bool
is_right_by None credit = true
is_right_by (Some wanted) credit = wanted == credit

unfoldable pub is_right_type : Options → Flit → OpenId → Bool
is_right_type options f id = is_right_by (type_of options.types id.of) (credit_of f).0

unfoldable pub retried_refusal : Options → Flit → OpenId → Option Reason
retried_refusal options f id =
    refused_if (is_empty id.left) NotOpen (
    refused_if (not (is_of_home f id)) OtherHome (
    refused_if (not (is_of_line f id)) OtherLine (
    refused_if (not id.retryable) NotRetryable (
    refused_if (not (is_right_type options f id)) OtherType None))))

abbrev pub retry_refusal_by : State → Flit → Option OpenId → Option Reason
retry_refusal_by s f None = Some NotOpen
retry_refusal_by s f (Some id) = retried_refusal s.options f id

abbrev pub retry_refusal : State → Flit → Option Reason
retry_refusal s f = retry_refusal_by s f (found s f)

unfoldable pub retried : OpenId → OpenId
retried id = record id { left = no_parts; follows = no_parts; retryable = false }

unfoldable pub waiting_of : Flit → ℕ → OpenId → Waiting
waiting_of f number id = record { home = id.home; credit = credit_of f; of = id.of; since = number }

unfoldable pub waiting_with : (Place → Option Waiting) → Flit → ℕ → OpenId → Place → Option Waiting
waiting_with waiting f number id =
    if is_before id then waiting else put_waiting waiting (place_of f id.line) (Some (waiting_of f number id))

abbrev pub booked : CreditEvent → (ℕ → Option Credits) → Flit → ℕ → Option Credits
booked event credits f = put credits (account_of f) (Some (with_event event (credits_at (credits (account_of f)))))

abbrev pub after_retried : State → Flit → ℕ → OpenId → State
after_retried s f number id = record s {
  ids = put s.ids (number_at f) (Some (retried id));
  waiting = waiting_with s.waiting f number id;
  credits = booked events.Retried s.credits f;
  attempts = attempts_without s.options s.attempts f id;
}

abbrev pub retry_after_by : State → Flit → ℕ → Option OpenId → State
retry_after_by s f number None = s
retry_after_by s f number (Some id) = after_retried s f number id

abbrev pub retry_after : State → Flit → ℕ → State
retry_after s f number = retry_after_by s f number (found s f)

abbrev pub retry_answer_by : Option OpenId → Taken
retry_answer_by None = Nothing
retry_answer_by (Some id) = taken_of id Whole

abbrev pub retry_answer : State → Flit → Taken
retry_answer s f = retry_answer_by (found s f)

-- CREDITS are judged where the trace begins at the beginning
abbrev pub lacks_credit : Options → Credits → Bool
lacks_credit options credits = not options.begins_in_middle && unused_of credits == 0

abbrev pub credits_of : State → Flit → Credits
credits_of s f = credits_at (s.credits (account_of f))

-- how many grants may come before their RetryAcks
abbrev pub early_of : State → Flit → ℕ
early_of s f = if s.options.early_grants then counted s.attempts f else 0

abbrev pub grant_refusal : State → Flit → Option Reason
grant_refusal s f = refused_if (not s.options.begins_in_middle && not (may_grant (credits_of s f) (early_of s f))) NothingRetried None

abbrev pub return_refusal : State → Flit → Option Reason
return_refusal s f = refused_if (lacks_credit s.options (credits_of s f)) NoCredit None

abbrev pub after_booked : CreditEvent → State → Flit → State
after_booked event s f = record s { credits = booked event s.credits f }

-- A REQUEST opens its TXN. Without AllowRetry it is one that waits at its line, and spends a credit; with AllowRetry nothing waits
-- there any more
abbrev pub waiting_refusal : Options → Flit → Option Waiting → Option Reason
waiting_refusal options f None = refused_if (not options.begins_in_middle) NotWaiting None
waiting_refusal options f (Some waiting) =
    refused_if (not (waiting.home.0 == (home_of f).0)) NotWaiting (
    refused_if (not (waiting.credit.0 == (credit_of f).0)) OtherType None)

unfoldable pub resent_refusal : State → Flit → CacheLine → Option Reason
resent_refusal s f line =
    or_else (waiting_refusal s.options f (s.waiting (place_of f line)))
    (refused_if (lacks_credit s.options (credits_of s f)) NoCredit None)

abbrev pub allows_retry : Flit → Bool
allows_retry f = is_none f.credit

abbrev pub request_refusal_by : State → Flit → Option CacheLine → Option Reason
request_refusal_by s f None = Some NoLine
request_refusal_by s f (Some line) =
    refused_if (is_in_use (s.ids (number_at f))) InUse
    (if allows_retry f then None else resent_refusal s f line)

abbrev pub request_refusal : State → Flit → Option Reason
request_refusal s f = request_refusal_by s f (line_of f)

unfoldable pub opened_request : Flit → ℕ → CacheLine → OpenId
opened_request f number line = record {
  line = line;
  since = number;
  home = home_of f;
  of = f.opcode;
  left = expects_of f.opcode;
  follows = follows_of f.opcode;
  retryable = allows_retry f;
  begun = false;
}

abbrev pub after_request : State → Flit → ℕ → CacheLine → State
after_request s f number line = record s {
  ids = put s.ids (number_at f) (Some (opened_request f number line));
  waiting = put_waiting s.waiting (place_of f line) None;
  credits = if allows_retry f then s.credits else booked events.Resent s.credits f;
  attempts = attempts_with s.options s.attempts f (allows_retry f);
}

abbrev pub request_after_by : State → Flit → ℕ → Option CacheLine → State
request_after_by s f number None = s
request_after_by s f number (Some line) = after_request s f number line

abbrev pub request_after : State → Flit → ℕ → State
request_after s f number = request_after_by s f number (line_of f)

abbrev pub opening_answer_by : Flit → ℕ → Option CacheLine → Taken
opening_answer_by f number None = Nothing
opening_answer_by f number (Some line) = Of (record { line = line; of = f.opcode; since = number; beat = Whole })

abbrev pub opening_answer : Flit → ℕ → Taken
opening_answer f number = opening_answer_by f number (line_of f)

-- A SNOOP opens its TXN
abbrev pub snoop_refusal_by : State → Flit → Option CacheLine → Option Reason
snoop_refusal_by s f None = Some NoLine
snoop_refusal_by s f (Some line) = refused_if (is_in_use (s.ids (number_at f))) InUse None

abbrev pub snoop_refusal : State → Flit → Option Reason
snoop_refusal s f = snoop_refusal_by s f (line_of f)

unfoldable pub opened_snoop : Flit → ℕ → CacheLine → OpenId
opened_snoop f number line = record {
  line = line;
  since = number;
  home = home_of f;
  of = f.opcode;
  left = parts_of ANSWER;
  follows = no_parts;
  retryable = false;
  begun = false;
}

abbrev pub snoop_after_by : State → Flit → ℕ → Option CacheLine → State
snoop_after_by s f number None = s
snoop_after_by s f number (Some line) = record s { ids = put s.ids (number_at f) (Some (opened_snoop f number line)) }

abbrev pub snoop_after : State → Flit → ℕ → State
snoop_after s f number = snoop_after_by s f number (line_of f)

-- EACH FLIT, by its role: the first reason that it isn't taken; what is kept behind one that is; what is told of it
abbrev pub refusal_by : Role → State → Flit → ℕ → Option Reason
refusal_by roles.Request s f there = request_refusal s f
refusal_by roles.CreditReturn s f there = return_refusal s f
refusal_by roles.Snoop s f there = snoop_refusal s f
refusal_by roles.Retry s f there = retry_refusal s f
refusal_by roles.CreditGrant s f there = grant_refusal s f
refusal_by roles.NoTransaction s f there = None
refusal_by naming s f there = naming_refusal s f there

abbrev pub after_by : Role → State → Flit → ℕ → ℕ → State
after_by roles.Request s f there number = request_after s f number
after_by roles.CreditReturn s f there number = after_booked events.Returned s f
after_by roles.Snoop s f there number = snoop_after s f number
after_by roles.Retry s f there number = retry_after s f number
after_by roles.CreditGrant s f there number = after_booked events.Granted s f
after_by roles.NoTransaction s f there number = s
after_by naming s f there number = naming_after s f there number

abbrev pub answer_by : Role → State → Flit → ℕ → ℕ → Taken
answer_by roles.Request s f there number = opening_answer f number
answer_by roles.CreditReturn s f there number = Credit
answer_by roles.Snoop s f there number = opening_answer f number
answer_by roles.Retry s f there number = retry_answer s f
answer_by roles.CreditGrant s f there number = Credit
answer_by roles.NoTransaction s f there number = Nothing
answer_by naming s f there number = naming_answer s f there

-- a call: taken, or refused for that reason with nothing changed; or memory ran out, of which nothing is said
abbrev pub IsDone : State → State → Option Reason → State → Taken → Result Taken Stop → Type 0
IsDone old new refusal after answer (Ok taken) = (refusal ≡ None) × (taken ≡ answer) × (new ≡ after)
IsDone old new refusal after answer (Err (Refused reason)) = (refusal ≡ Some reason) × (new ≡ old)
IsDone old new refusal after answer (Err NoMemory) = ⊤

abbrev pub IsTaken : State → State → Flit → ℕ → ℕ → Result Taken Stop → Type 0
IsTaken old new f there number result =
    IsDone old new (refusal_by (role f) old f there) (after_by (role f) old f there number) (answer_by (role f) old f there number) result

-- nothing was seen yet
abbrev pub nothing_kept : Options → State
nothing_kept options =
    record { options = options; ids = nothing; waiting = nothing; credits = nothing; begun = nothing; attempts = nothing }
