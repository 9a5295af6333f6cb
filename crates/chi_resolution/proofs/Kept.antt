-- What each flit books is balanced, and so are all accounts of a resolved trace.
use Rattle.std.proofs.Common.{◌≡◌, ℕ, ◌+◌, ◌<◌, Bool, true, false, cond, List, [], ◌∷◌, Option, Some, None, Result, Ok, Err, refl, arith}
use Rattle.std.specs.Prelude.{IfOk, IfSome, ok_or}
use Rattle.std.specs.List.{All}
use Rattle.std.proofs.lemmas.Bool.Decides.{nat_tests}
use Rattle.chi_flit.specs.declared.kind.Kind.{Kind}
use Rattle.chi_flit.specs.declared.message.RspDown.{RspDown}
use Rattle.chi_flit.specs.declared.message.RspDown.TheVariants as downs
use Rattle.chi_flit.specs.declared.message.RspUp.{RspUp}
use Rattle.chi_flit.specs.declared.message.RspUp.TheVariants as ups
use Rattle.chi_flit.specs.declared.snoop.Snoop.{Snoop}
use Rattle.chi_flit.specs.declared.state.State.{State}
use Rattle.chi_trace.specs.Flits.{flit_opcode}
use Rattle.chi_trace.specs.declared.fields.Address.{Address}
use Rattle.chi_trace.specs.declared.fields.DbId.{DbId}
use Rattle.chi_trace.specs.declared.fields.PcrdType.{PcrdType}
use Rattle.chi_trace.specs.declared.fields.Resp.{Resp}
use Rattle.chi_trace.specs.declared.fields.TxnId.{TxnId}
use Rattle.chi_trace.specs.declared.flits.Flit.{Flit}
use Rattle.chi_trace.specs.declared.flits.Flit.TheVariants as flits
use Rattle.chi_trace.specs.declared.flits.Seen.{Seen}
use Rattle.chi_trace.specs.declared.flits.Transaction.{Transaction}
use Rattle.chi_trace.specs.declared.opcodes.Opcode.{Opcode}
use Rattle.chi_resolution.specs.declared.data_flits.DataFlit.{DataFlit}
use Rattle.chi_resolution.specs.declared.beats.OpenData.{OpenData}
use Rattle.chi_resolution.specs.declared.tables.Change.{Change}
use Rattle.chi_resolution.specs.declared.tables.Change.TheVariants as changes
use Rattle.chi_resolution.specs.declared.tables.LineFlit.{LineFlit}
use Rattle.chi_resolution.specs.declared.ids.OpenId.{OpenId}
use Rattle.chi_resolution.specs.declared.ids.OpenKey.{OpenKey}
use Rattle.chi_resolution.specs.declared.ids.OpenKey.TheVariants as keys
use Rattle.chi_resolution.specs.declared.ledger.CreditLedger.{CreditLedger}
use Rattle.chi_resolution.specs.declared.ledger.Booking.{Booking}
use Rattle.chi_resolution.specs.declared.ledger.CreditEvent.TheVariants as events
use Rattle.chi_explain.specs.declared.observed.Observed.{Observed}
use Rattle.chi_resolution.specs.declared.nodes.Ends.{Ends}
use Rattle.chi_resolution.specs.declared.reasons.IdReason.{IdReason}
use Rattle.chi_resolution.specs.declared.reasons.IdReason.TheVariants as reasons
use Rattle.chi_resolution.specs.declared.resolution.Options.{Options}
use Rattle.chi_resolution.specs.Changes.{credit_change, cancelled_by, change_by, change_of, flit_change, received, unless_lacking, with_loss, with_loss_in, with_loss_of}
use Rattle.chi_resolution.specs.Credits.{early_of, given_back, granted, may_grant}
use Rattle.chi_resolution.specs.DataFlits.{beat_by, beat_of, begun_or_freed, first_beat, later_beat, opened}
use Rattle.chi_resolution.specs.Requests.{request_by, requested, retried, retry_event, right_type, resent, snooped, with_credit}
use Rattle.chi_resolution.specs.Responses.{answered, completed, replied, responded}
use Rattle.chi_resolution.specs.Tables.{Open, booking_of, freed, named, new_id}
use Rattle.chi_resolution.specs.Ledger.{IsLedgerBalanced, held_of, wanted_of, with_event}
use Rattle.chi_resolution.specs.Beats.{data_before, data_of, is_whole}
use Rattle.chi_resolution.specs.Cancels.{is_lost, is_unfit, left_by}
use Rattle.chi_resolution.specs.Ids.{id_of}
use Rattle.chi_resolution.specs.Messages.{answer_form, completion_response, message_of}
use Rattle.chi_resolution.specs.Nodes.{ends_of, sides_of}
use Rattle.chi_resolution.specs.declared.resolution.Allowed.{Allowed}
use Rattle.chi_resolution.specs.Resolution.{IdOutcome, IdProgress, open_after, ended, nothing, resolution_of, resolved_from, allowed_of, taken}
use Rattle.chi_resolution.proofs.Balance.{IsKept, booked_all_balanced, booked_balanced, each, each_of, held_balanced, if_not, if_so, more_cancelled, more_granted, more_in_vain, more_resent, more_returned, more_retried}

-- what a flit of a line books, if anything
abbrev pub FlitKept : Bool → LineFlit → Type 0
FlitKept early flit = IfSome flit.books (IsKept early)

-- what any flit books
abbrev pub ChangeKept : Bool → Change → Type 0
ChangeKept early (changes.Flit flit) = FlitKept early flit
ChangeKept early (changes.Credit booking) = IsKept early booking
ChangeKept early (changes.Beat further) = Unit {0}

-- the accounts that there are
abbrev pub TableKept : Bool → Open → Type 0
TableKept early table = All (IsLedgerBalanced early) table.accounts

credit_kept : (early : Bool) (ends : Ends) (pcrd : PcrdType) (id : OpenId) (flit : Observed) (retried : OpenId) (table : Open) → TableKept early table
    → IfOk (with_credit ends pcrd id flit retried (booking_of table ends.requester pcrd events.Resent)) (FlitKept early)
credit_kept early ends pcrd id flit retried table all =
    if_not _ _ _ (FlitKept early) (λ some. more_resent early _ (held_balanced early ends.requester pcrd table.accounts all) some)

resent_kept : (early : Bool) (table : Open) (ends : Ends) (pcrd : PcrdType) (id : OpenId) (flit : Observed) → TableKept early table → IfOk (resent table ends pcrd id flit) (FlitKept early)
unfolding resent
resent_kept early table ends pcrd id flit all =
    each (ok_or (id_of (keys.Retried ends.requester id.line) table.ids) (reasons.NotOpen (keys.Retried ends.requester id.line))) _ (FlitKept early) (λ retried.
    each (right_type pcrd retried.waits_for) _ (FlitKept early) (λ type.
    credit_kept early ends type id flit retried table all))

request_by_kept : (early : Bool) (spends : Option PcrdType) (table : Open) (ends : Ends) (kind : Kind) (id : OpenId) (flit : Observed) → TableKept early table → IfOk (request_by spends table ends kind id flit) (FlitKept early)
request_by_kept early None table ends kind id flit all = tt
request_by_kept early (Some pcrd) table ends kind id flit all = resent_kept early table ends pcrd id flit all

request_kept : (early : Bool) (table : Open) (ends : Ends) (kind : Kind) (spends : Option PcrdType) (txn : TxnId) (address : Address) → TableKept early table → IfOk (requested table ends kind spends txn address) (FlitKept early)
unfolding requested
request_kept early table ends kind spends txn address all =
    each (new_id table (keys.Request ends.requester txn)) _ (FlitKept early) (λ key.
    request_by_kept early spends table ends kind _ _ all)

snoop_kept : (early : Bool) (table : Open) (ends : Ends) (snoop : Snoop) (txn : TxnId) (address : Address) → IfOk (snooped table ends snoop txn address) (FlitKept early)
unfolding snooped
snoop_kept early table ends snoop txn address = each (new_id table (keys.Snoop ends.requester txn)) _ (FlitKept early) (λ key. tt)

retried_kept : (early lost : Bool) (account : CreditLedger) → IsLedgerBalanced early account → IsLedgerBalanced early (with_event (retry_event lost) account)
retried_kept early true account is = more_in_vain early account is
retried_kept early false account is = more_retried early account is

retry_kept : (early : Bool) (options : Options) (table : Open) (ends : Ends) (pcrd : PcrdType) (transaction : Transaction) → TableKept early table → IfOk (retried options table ends pcrd transaction) (FlitKept early)
unfolding retried
retry_kept early options table ends pcrd transaction all =
    each (freed table (keys.Request ends.requester transaction.txn) transaction.address) _ (FlitKept early) (λ found.
    each (ok_or found.may_retry (reasons.NotRetryable ends.requester transaction.txn)) _ (FlitKept early) (λ kind.
    each (right_type pcrd (wanted_of options.types kind)) _ (FlitKept early) (λ type.
    each (new_id table (keys.Retried ends.requester found.line)) _ (FlitKept early) (λ key.
    retried_kept early (is_lost kind ends.agent found table.flits) _ (held_balanced early ends.requester type table.accounts all)))))

respond_kept : (early : Bool) (table : Open) (ends : Ends) (response : RspDown) (dbid : DbId) (transaction : Transaction) → IfOk (responded table ends response dbid transaction) (FlitKept early)
unfolding responded
respond_kept early table ends response dbid transaction =
    each (freed table (keys.Request ends.requester transaction.txn) transaction.address) _ (FlitKept early) (λ found.
    each (new_id table (keys.Buffer ends.requester dbid)) _ (FlitKept early) (λ key. tt))

complete_kept : (early : Bool) (table : Open) (ends : Ends) (resp : Resp) (transaction : Transaction) → IfOk (completed table ends resp transaction) (FlitKept early)
unfolding completed
complete_kept early table ends resp transaction =
    each (ok_or (completion_response resp) (reasons.Form resp)) _ (FlitKept early) (λ response.
    each (freed table (keys.Request ends.requester transaction.txn) transaction.address) _ (FlitKept early) (λ found. tt))

reply_kept : (early : Bool) (table : Open) (ends : Ends) (key : OpenKey) (address : Option Address) (response : RspUp) → IfOk (replied table ends key address response) (FlitKept early)
unfolding replied
reply_kept early table ends key address response = each (freed table key address) _ (FlitKept early) (λ found. tt)

answer_kept : (early : Bool) (table : Open) (ends : Ends) (resp : Resp) (transaction : Transaction) → IfOk (answered table ends resp transaction) (FlitKept early)
unfolding answered
answer_kept early table ends resp transaction =
    each (ok_or (answer_form resp) (reasons.Form resp)) _ (FlitKept early) (λ response.
    reply_kept early table ends (keys.Snoop ends.requester transaction.txn) transaction.address response)

begun_kept : (early whole : Bool) (table : Open) (found : OpenId) (begun : OpenData) (flit : LineFlit) → FlitKept early flit → FlitKept early (begun_or_freed whole table found begun flit)
begun_kept early true table found begun flit is = is
begun_kept early false table found begun flit is = is

first_kept : (early : Bool) (table : Open) (ends : Ends) (flit : DataFlit) (found : OpenId) → IfOk (first_beat table ends flit found) (FlitKept early)
unfolding first_beat
first_kept early table ends flit found =
    each (ok_or (message_of flit.sort flit.resp flit.beat.words) (reasons.Form flit.resp)) _ (FlitKept early) (λ message.
    each (opened table ends found.line flit.sort) _ (FlitKept early) (λ opens.
    begun_kept early (is_whole flit.beat) table found _ _ tt))

beat_by_kept : (early : Bool) (table : Open) (ends : Ends) (flit : DataFlit) (found : OpenId) (begun : Option OpenData) → IfOk (beat_by table ends flit found begun) (ChangeKept early)
beat_by_kept early table ends flit found None = each_of (first_beat table ends flit found) _ (FlitKept early) (ChangeKept early) (first_kept early table ends flit found) (λ first is. is)
beat_by_kept early table ends flit found (Some begun) = each (later_beat ends flit found begun) _ (ChangeKept early) (λ further. tt)

beat_kept : (early : Bool) (table : Open) (ends : Ends) (flit : DataFlit) → IfOk (beat_of table ends flit) (ChangeKept early)
unfolding beat_of
beat_kept early table ends flit =
    each (named table flit.key flit.address) _ (ChangeKept early) (λ found.
    beat_by_kept early table ends flit found (data_of flit.key table.unfinished))

may_grant_less : (account : CreditLedger) (n : ℕ) → may_grant account n ≡ true → n ≡ 0 → account.granted < account.retried
may_grant_less account n may none = grind (arith, nat_tests)

none_early : (b : Bool) (n : ℕ) → b ≡ false → cond b n 0 ≡ 0
none_early true n e = cc
none_early false n e = refl

grant_kept : (options : Options) (table : Open) (ends : Ends) (pcrd : PcrdType) → TableKept options.early_grants table → IfOk (granted options table ends pcrd) (IsKept options.early_grants)
unfolding granted
grant_kept options table ends pcrd all =
    if_so _ _ _ (IsKept options.early_grants) (λ may.
    more_granted options.early_grants _ (held_balanced options.early_grants ends.requester pcrd table.accounts all)
    (λ late. may_grant_less (held_of ends.requester pcrd table.accounts).account (early_of options table ends.requester pcrd) may (none_early options.early_grants _ late)))

return_kept : (early : Bool) (table : Open) (ends : Ends) (pcrd : PcrdType) → TableKept early table → IfOk (given_back table ends pcrd) (IsKept early)
unfolding given_back
return_kept early table ends pcrd all = if_so _ _ _ (IsKept early) (λ may. more_returned early _ (held_balanced early ends.requester pcrd table.accounts all) may)

as_flit : (early : Bool) (flit : Result LineFlit IdReason) → IfOk flit (FlitKept early) → IfOk (flit_change flit) (ChangeKept early)
as_flit early (Ok flit) is = is
as_flit early (Err reason) is = tt

as_credit : (early : Bool) (booking : Result Booking IdReason) → IfOk booking (IsKept early) → IfOk (credit_change booking) (ChangeKept early)
as_credit early (Ok booking) is = is
as_credit early (Err reason) is = tt

by_flit : (flit : Flit) (options : Options) (table : Open) (ends : Ends) → TableKept options.early_grants table → IfOk (change_by flit options table ends) (ChangeKept options.early_grants)
by_flit (flits.Request kind spends target txn address) options table ends all = as_flit options.early_grants _ (request_kept options.early_grants table ends kind spends txn address all)
by_flit (flits.PCrdReturn pcrd target) options table ends all = as_credit options.early_grants _ (return_kept options.early_grants table ends pcrd all)
by_flit (flits.Snoop snoop target txn address) options table ends all = as_flit options.early_grants _ (snoop_kept options.early_grants table ends snoop txn address)
by_flit (flits.RetryAck pcrd transaction) options table ends all = as_flit options.early_grants _ (retry_kept options.early_grants options table ends pcrd transaction all)
by_flit (flits.CompUC dbid transaction) options table ends all = as_flit options.early_grants _ (respond_kept options.early_grants table ends downs.CompUC dbid transaction)
by_flit (flits.Comp resp transaction) options table ends all = as_flit options.early_grants _ (complete_kept options.early_grants table ends resp transaction)
by_flit (flits.CompDBIDResp dbid transaction) options table ends all = as_flit options.early_grants _ (respond_kept options.early_grants table ends downs.CompDBIDResp dbid transaction)
by_flit (flits.PCrdGrant pcrd target) options table ends all = as_credit options.early_grants _ (grant_kept options table ends pcrd all)
by_flit (flits.SnpResp resp transaction) options table ends all = as_flit options.early_grants _ (answer_kept options.early_grants table ends resp transaction)
by_flit (flits.CompAck transaction) options table ends all = as_flit options.early_grants _ (reply_kept options.early_grants table ends _ transaction.address ups.CompAck)
by_flit (flits.CompData resp dbid transaction beat) options table ends all = beat_kept options.early_grants table ends _
by_flit (flits.SnpRespData resp transaction beat) options table ends all = beat_kept options.early_grants table ends _
by_flit (flits.CopyBackWrData resp transaction beat) options table ends all = beat_kept options.early_grants table ends _
by_flit (flits.Load address value) options table ends all = tt
by_flit (flits.Store address value) options table ends all = tt

cancelled_by_kept : (early : Bool) (table : Open) (ends : Ends) (waiting : OpenId) (flit : LineFlit) (pcrd : Option PcrdType) → TableKept early table → FlitKept early flit → FlitKept early (cancelled_by table ends waiting flit pcrd)
cancelled_by_kept early table ends waiting flit None all is = is
cancelled_by_kept early table ends waiting flit (Some pcrd) all is = more_cancelled early _ (held_balanced early ends.requester pcrd table.accounts all)

unfit_kept : (early unfit : Bool) (table : Open) (ends : Ends) (waiting : OpenId) (flit : LineFlit) → TableKept early table → FlitKept early flit → FlitKept early (cond unfit (cancelled_by table ends waiting flit waiting.waits_for) flit)
unfit_kept early true table ends waiting flit all is = cancelled_by_kept early table ends waiting flit waiting.waits_for all is
unfit_kept early false table ends waiting flit all is = is

loss_of_kept : (early : Bool) (table : Open) (ends : Ends) (flit : LineFlit) (state : State) (found : Option OpenId) → TableKept early table → FlitKept early flit → FlitKept early (with_loss_of table ends flit state found)
loss_of_kept early table ends flit state None all is = is
loss_of_kept early table ends flit state (Some waiting) all is = unfit_kept early (is_unfit waiting.may_retry state) table ends waiting flit all is

loss_in_kept : (early : Bool) (table : Open) (ends : Ends) (flit : LineFlit) (state : Option State) → TableKept early table → FlitKept early flit → FlitKept early (with_loss_in table ends flit state)
loss_in_kept early table ends flit None all is = is
loss_in_kept early table ends flit (Some state) all is = loss_of_kept early table ends flit state (id_of (keys.Retried ends.requester flit.line) table.ids) all is

unless_lacking_kept : (early : Bool) (flit : LineFlit) (begun : Option OpenData) → FlitKept early flit → IfOk (unless_lacking flit begun) (ChangeKept early)
unless_lacking_kept early flit None is = is
unless_lacking_kept early flit (Some begun) is = tt

received_kept : (early : Bool) (table : Open) (ends : Ends) (opcode : Opcode) → TableKept early table → (change : Change) → ChangeKept early change → IfOk (received table ends opcode change) (ChangeKept early)
received_kept early table ends opcode all (changes.Flit flit) is =
    unless_lacking_kept early (with_loss table ends flit) (data_before opcode (with_loss table ends flit).line table.unfinished) (loss_in_kept early table ends flit (left_by flit.flit) all is)
received_kept early table ends opcode all (changes.Credit booking) is = is
received_kept early table ends opcode all (changes.Beat further) is = is

change_kept : (options : Options) (table : Open) (ends : Ends) (flit : Flit) → TableKept options.early_grants table → IfOk (change_of options table ends flit) (ChangeKept options.early_grants)
unfolding change_of
change_kept options table ends flit all =
    each_of (change_by flit options table ends) _ (ChangeKept options.early_grants) (ChangeKept options.early_grants) (by_flit flit options table ends all) (received_kept options.early_grants table ends (flit_opcode flit) all)

after_kept : (early : Bool) (at : ℕ) (change : Change) (table : Open) → ChangeKept early change → TableKept early table → TableKept early (open_after at change table)
after_kept early at (changes.Flit flit) table is all = booked_all_balanced early flit.books table.accounts is all
after_kept early at (changes.Credit booking) table is all = booked_balanced early booking table.accounts is all
after_kept early at (changes.Beat further) table is all = all

abbrev ProgressKept : Bool → IdProgress → Type 0
ProgressKept early progress = TableKept early progress.table

step_kept : (options : Options) (progress : IdProgress) (seen : Seen) → ProgressKept options.early_grants progress → IfOk (allowed_of options progress seen) (λ allowed. ChangeKept options.early_grants allowed.change)
unfolding allowed_of
step_kept options progress seen all =
    each (ends_of progress.home progress.requesters (sides_of seen.source seen.flit)) _ (λ allowed. ChangeKept options.early_grants allowed.change) (λ ends.
    each_of (change_of options progress.table ends seen.flit) _ (ChangeKept options.early_grants) (λ allowed. ChangeKept options.early_grants allowed.change) (change_kept options progress.table ends seen.flit all) (λ change is. is))

ended_kept : (early : Bool) (at : ℕ) (progress : IdProgress) (next : Result Allowed IdReason) (rest : Allowed → IdOutcome) → ProgressKept early progress → IfOk next (λ allowed. ChangeKept early allowed.change)
    → ((allowed : Allowed) → ChangeKept early allowed.change → ProgressKept early (rest allowed).progress) → ProgressKept early (ended at progress next rest).progress
ended_kept early at progress (Ok allowed) rest all is h = h allowed is
ended_kept early at progress (Err reason) rest all is h = all

from_kept : (options : Options) (at : ℕ) (progress : IdProgress) (seen : List Seen) → ProgressKept options.early_grants progress → ProgressKept options.early_grants (resolved_from options at progress seen).progress
unfolding resolved_from
from_kept options at progress [] all = all
from_kept options at progress (seen ∷ rest) all =
    ended_kept options.early_grants at progress (allowed_of options progress seen) (λ allowed. resolved_from options (at + 1) (taken at allowed progress) rest) all (step_kept options progress seen all)
    (λ allowed is. from_kept options (at + 1) (taken at allowed progress) rest (after_kept options.early_grants at allowed.change progress.table is all))

nothing_kept : (early : Bool) → ProgressKept early nothing
nothing_kept early k d less = absurd (omega (arith, less))

-- all accounts of a resolved trace
pub trace_kept : (options : Options) (seen : List Seen) → All (IsLedgerBalanced options.early_grants) (resolution_of options seen).progress.table.accounts
trace_kept options seen = from_kept options 0 nothing seen (nothing_kept options.early_grants)
