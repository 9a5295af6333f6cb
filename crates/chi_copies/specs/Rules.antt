-- What a cache may send from a copy, what is left of it, what a flit of the home makes of it, and its unseen steps: the one relation
-- of one copy, which worlds and sets share (Arm IHI 0050 B, chapter 4; docs/COPIES.md, "The relation").
use Rattle.std.specs.Prelude.{Bool, true, false, ◌&&◌, ◌||◌, not, Option, Some, None, if◌then◌else◌}
use Rattle.chi_observer.specs.declared.flits.Due.{Due}
use Rattle.chi_observer.specs.declared.flits.Due.TheVariants.{Nothing, Resending, WriteData, Acknowledgement}
use Rattle.chi_observer.specs.declared.flits.Stores.{Stores}
use Rattle.chi_observer.specs.declared.flits.Act.{Act}
use Rattle.chi_observer.specs.declared.flits.Act.TheVariants.{Request, Resend, SnpResp, CompAck, CopyBackWrData, NonCopyBackWrData, Load, Store}
use Rattle.chi_observer.specs.declared.flits.Grant.{Grant}
use Rattle.chi_flit.specs.declared.state.State.TheVariants.{I}
use Rattle.chi_observer.specs.declared.kinds.Kind.{Kind}
use Rattle.chi_observer.specs.declared.kinds.Kind.TheVariants.{WriteBackFull, WriteCleanFull}
use Rattle.chi_observer.specs.Copies.{copy_of, holds_data, is_unique, is_dirty, is_clean, same}
use Rattle.chi_observer.specs.Copies.Copy.{Invalid, UniqueDirty, Writing}
use Rattle.chi_observer.specs.Rules.{is_issued_from, issued, same_kind, is_copy_back, is_whole_write, gives_up, is_answered_from, answered, answer_drops, answer_has_data, throws, is_written_from, cleaned, form_has_data, are_hidden, is_resending, is_acknowledging, gives_copy, gives_data, copy_granted, makes, settles, is_open_of}
use Rattle.chi_copies.specs.Copies.{Held, same_held}

-- nothing is pending of such a copy: no request, or one that was retried and cancelled
abbrev pub is_free : Due → Held → Bool
is_free Nothing h = true
is_free (Resending kind) h = h.cancelled
is_free other h = false

-- a store may be done: nothing is pending of it, or the CompAck alone
abbrev pub may_store : Due → Held → Bool
may_store Acknowledgement h = true
may_store other h = is_free other h

-- a store that isn't told of may be done to such a copy, if only behind its CompAck
abbrev pub may_hide : Stores → Due → Held → Bool
may_hide z d h = are_hidden z && may_store d h

-- what is behind a store, and behind a drop
abbrev pub stored_to : Held → Held
stored_to h = record { copy = UniqueDirty; cancelled = h.cancelled; stored = true }

abbrev pub dropped : Held → Held
dropped h = record { copy = Invalid; cancelled = h.cancelled; stored = h.stored }

-- A FLIT OF A CACHE
-- whether what is due lets its cache send it; own: the word of a load is the copy's. Where a store may be done that isn't told of, a
-- load of another word is of such a store
abbrev pub is_resent : Kind → Due → Bool
is_resent kind (Resending asked) = same_kind kind asked
is_resent kind other = false

abbrev pub is_due_data : (Kind → Bool) → Due → Bool
is_due_data f (WriteData kind) = f kind
is_due_data f other = false

abbrev pub lets : Stores → Act → Bool → Due → Held → Bool
lets z (Request kind) own d h = is_free d h
lets z (Resend kind) own d h = is_resent kind d && not h.cancelled
lets z (SnpResp answer) own d h = true
lets z CompAck own d h = is_acknowledging d
lets z (CopyBackWrData form) own d h = is_due_data is_copy_back d
lets z NonCopyBackWrData own d h = is_due_data is_whole_write d
lets z (Load word) own d h = own || may_hide z d h
lets z (Store word) own d h = may_store d h

-- the copy that it leaves, of one that may have sent it; x: the snoop lets dirty data be thrown away; up: write data leave no copy
abbrev pub row : Act → Bool → Bool → Bool → Held → Option Held
row (Request kind) own x up h = if is_issued_from kind h.copy then Some (record { copy = issued kind h.copy; cancelled = false; stored = h.stored }) else None
row (Resend kind) own x up h = Some h
row (SnpResp answer) own x up h = if is_answered_from answer h.copy || (x && (answer_drops answer && is_dirty h.copy)) then Some (record { copy = answered answer h.copy; cancelled = h.cancelled; stored = h.stored && not (answer_has_data answer) }) else None
row CompAck own x up h = Some h
row (CopyBackWrData form) own x up h = if is_written_from form h.copy then Some (record { copy = copy_of (if up then I else cleaned form); cancelled = h.cancelled; stored = h.stored && not (form_has_data form) }) else None
row NonCopyBackWrData own x up h = if same h.copy Writing then Some (record { copy = Invalid; cancelled = h.cancelled; stored = false }) else None
row (Load word) own x up h = if holds_data h.copy then (if own then Some h else (if is_unique h.copy then Some (stored_to h) else None)) else None
row (Store word) own x up h = if is_unique h.copy then Some (stored_to h) else None

abbrev pub acts : Stores → Act → Bool → Bool → Due → Held → Option Held
acts z a own x d h = if lets z a own d h then row a own x (is_due_data gives_up d) h else None

-- the value is lost: a copy that was stored to is thrown away
abbrev pub loses : Act → Bool → Held → Bool
loses a x h = throws a x && (is_dirty h.copy && h.stored)

-- UNSEEN STEPS of a copy: cancelling a request that was retried; then a store, or a drop of a clean copy
abbrev pub may_be_free : Due → Bool
may_be_free Nothing = true
may_be_free (Resending kind) = true
may_be_free other = false

abbrev pub freed : Due → Held → Held
freed d h = record { copy = h.copy; cancelled = h.cancelled || is_resending d; stored = h.stored }

abbrev pub slips : Stores → Due → Held → Held → Bool
slips z d h k = same_held h k || (may_be_free d && (same_held (freed d h) k
    || ((are_hidden z && (is_unique h.copy && same_held (stored_to (freed d h)) k)) || (is_clean h.copy && same_held (dropped (freed d h)) k))))

-- A FLIT OF THE HOME
-- the copy of its agent then
abbrev pub granted : Grant → Due → Held → Held
granted g d h = record { copy = copy_granted g d h.copy; cancelled = h.cancelled; stored = makes g d || (h.stored && not (settles g d)) }

-- its words are the copy's then
abbrev pub fills : Grant → Held → Bool
fills g h = gives_copy g && not (is_dirty h.copy)

-- its words are the home's own: any go to a dirty copy, which keeps its own
abbrev pub shows : Grant → Held → Bool
shows g h = gives_data g && (not (gives_copy g) || not (is_dirty h.copy))

-- the value is the home's own or its agent's behind it, whoever lost one before
abbrev pub renews : Grant → Due → Bool
renews g d = makes g d || settles g d

-- a request that no copy with newer words is sent from: each but those that write dirty data
abbrev pub is_without_news : Kind → Bool
is_without_news WriteBackFull = false
is_without_news WriteCleanFull = false
is_without_news other = true

abbrev pub waits_without_news : Due → Bool
waits_without_news d = is_open_of is_without_news d
