-- What a cache may send, by its own copy alone, and what a flit of the home makes of a copy (Arm IHI 0050 B, chapter 4;
-- docs/OBSERVER.md, "Flits of a cache", "Flits of the home").
use Rattle.std.specs.Prelude.{ℕ, List, Bool, true, false, ◌&&◌, ◌||◌, ◌==◌, not, Option, Some, None, if◌then◌else◌}
use Rattle.std.specs.List.{slice_index_or}
use Rattle.chi_flit.specs.declared.state.State.{State}
use Rattle.chi_flit.specs.declared.state.State.TheVariants.{I, SC, UC, UD, SD}
use Rattle.chi_observer.specs.declared.kinds.Snoop.{Snoop}
use Rattle.chi_observer.specs.declared.kinds.Snoop.TheVariants.{SnpOnce, SnpCleanShared, SnpUnique, SnpCleanInvalid, SnpMakeInvalid}
use Rattle.chi_observer.specs.declared.kinds.Kind.{Kind}
use Rattle.chi_observer.specs.declared.kinds.Kind.TheVariants.{ReadNotSharedDirty, ReadShared, ReadClean, ReadOnce, ReadUnique, CleanUnique, MakeUnique, CleanShared, CleanInvalid, MakeInvalid, Evict, WriteBackFull, WriteCleanFull, WriteEvictFull, WriteUniqueFull}
use Rattle.chi_observer.specs.declared.flits.Due.{Due}
use Rattle.chi_observer.specs.declared.flits.Stores.{Stores}
use Rattle.chi_observer.specs.declared.flits.Stores.TheVariants.{Hidden, Listed}
use Rattle.chi_observer.specs.declared.flits.Due.TheVariants.{Nothing, Completion, Resending, SureCompletion, WriteData, Acknowledgement}
use Rattle.chi_observer.specs.declared.flits.Answer.{Answer}
use Rattle.chi_observer.specs.declared.flits.Answer.TheVariants.{SnpRespI, SnpRespSC, SnpRespUC, SnpRespDataI, SnpRespDataSC, SnpRespDataUC, SnpRespDataUD, SnpRespDataSD, SnpRespDataIPD, SnpRespDataSCPD, SnpRespDataUCPD}
use Rattle.chi_observer.specs.declared.flits.Act.{Act}
use Rattle.chi_observer.specs.declared.flits.Act.TheVariants.{Request, Resend, SnpResp, CompAck, CopyBackWrData, NonCopyBackWrData, Load, Store}
use Rattle.chi_observer.specs.declared.flits.Grant.{Grant}
use Rattle.chi_observer.specs.declared.flits.Grant.TheVariants.{RetryAck, Snp, CompData, CompUC, CompSC, CompI, CompDBIDResp}
use Rattle.chi_observer.specs.Copies.{Copy, Held, copy_of, holds_data, is_unique, is_dirty, is_clean, same}
use Rattle.chi_observer.specs.Copies.Copy.{Invalid, SharedClean, UniqueClean, UniqueEmpty, UniqueDirty, SharedDirty, Writing}

-- A CACHE
abbrev pub is_shared : Copy → Bool
is_shared SharedClean = true
is_shared SharedDirty = true
is_shared other = false

-- the copies that a kind is issued from
abbrev pub is_issued_from : Kind → Copy → Bool
is_issued_from ReadNotSharedDirty s = same s Invalid || same s UniqueEmpty
is_issued_from ReadShared s = same s Invalid || same s UniqueEmpty
is_issued_from ReadClean s = same s Invalid || same s UniqueEmpty
is_issued_from ReadUnique s = is_shared s || (same s Invalid || same s UniqueEmpty)
is_issued_from CleanUnique s = is_shared s || (same s Invalid || same s UniqueEmpty)
is_issued_from MakeUnique s = is_shared s || (same s Invalid || same s UniqueEmpty)
is_issued_from CleanShared s = same s Invalid || (same s SharedClean || same s UniqueClean)
is_issued_from ReadOnce s = same s Invalid
is_issued_from CleanInvalid s = same s Invalid
is_issued_from MakeInvalid s = same s Invalid
is_issued_from Evict s = is_clean s
is_issued_from WriteBackFull s = is_dirty s
is_issued_from WriteCleanFull s = is_dirty s
is_issued_from WriteEvictFull s = same s UniqueClean
is_issued_from WriteUniqueFull s = same s Invalid

-- an Evict gives its copy up
abbrev pub issued : Kind → Copy → Copy
issued Evict s = Invalid
issued other s = s

abbrev pub same_kind : Kind → Kind → Bool
same_kind ReadNotSharedDirty ReadNotSharedDirty = true
same_kind ReadShared ReadShared = true
same_kind ReadClean ReadClean = true
same_kind ReadOnce ReadOnce = true
same_kind ReadUnique ReadUnique = true
same_kind CleanUnique CleanUnique = true
same_kind MakeUnique MakeUnique = true
same_kind CleanShared CleanShared = true
same_kind CleanInvalid CleanInvalid = true
same_kind MakeInvalid MakeInvalid = true
same_kind Evict Evict = true
same_kind WriteBackFull WriteBackFull = true
same_kind WriteCleanFull WriteCleanFull = true
same_kind WriteEvictFull WriteEvictFull = true
same_kind WriteUniqueFull WriteUniqueFull = true
same_kind a b = false

-- copy-backs end with the write data of a copy, and leave none but for WriteCleanFull
abbrev pub is_copy_back : Kind → Bool
is_copy_back WriteBackFull = true
is_copy_back WriteCleanFull = true
is_copy_back WriteEvictFull = true
is_copy_back other = false

abbrev pub gives_up : Kind → Bool
gives_up WriteBackFull = true
gives_up WriteEvictFull = true
gives_up other = false

-- a WriteUniqueFull ends with data of its own
abbrev pub is_whole_write : Kind → Bool
is_whole_write WriteUniqueFull = true
is_whole_write other = false

-- what a snoop lets a copy be left as
abbrev pub is_none : State → Bool
is_none I = true
is_none other = false

abbrev pub is_clean_form : State → Bool
is_clean_form UD = false
is_clean_form SD = false
is_clean_form other = true

abbrev pub is_shared_form : State → Bool
is_shared_form UC = false
is_shared_form UD = false
is_shared_form other = true

abbrev pub leaves : Snoop → State → Bool
leaves SnpOnce s = true
leaves SnpCleanShared s = is_clean_form s
leaves SnpUnique s = is_none s
leaves SnpCleanInvalid s = is_none s
leaves SnpMakeInvalid s = is_none s
leaves other s = is_shared_form s

-- what an answer says is left
abbrev pub left_by : Answer → State
left_by SnpRespI = I
left_by SnpRespSC = SC
left_by SnpRespUC = UC
left_by SnpRespDataI = I
left_by SnpRespDataSC = SC
left_by SnpRespDataUC = UC
left_by SnpRespDataUD = UD
left_by SnpRespDataSD = SD
left_by SnpRespDataIPD = I
left_by SnpRespDataSCPD = SC
left_by SnpRespDataUCPD = UC

-- the snoop lets dirty data be thrown away, and an answer without data does it
abbrev pub lets_go : Option Snoop → Bool
lets_go (Some SnpMakeInvalid) = true
lets_go other = false

abbrev pub answer_drops : Answer → Bool
answer_drops SnpRespI = true
answer_drops other = false

abbrev pub throws : Act → Bool → Bool
throws (SnpResp answer) x = x && answer_drops answer
throws other x = false

-- and is left, with what SnpResp_UC says of one without data too
abbrev pub answered : Answer → Copy → Copy
answered SnpRespUC s = s
answered answer s = copy_of (left_by answer)

-- the copies that it is given from: of a dirty one always with its data, and the duty to write them is kept or passed on
abbrev pub is_answered_from : Answer → Copy → Bool
is_answered_from SnpRespI s = same s Invalid || is_clean s
is_answered_from SnpRespSC s = is_clean s && holds_data s
is_answered_from SnpRespUC s = same s UniqueClean || same s UniqueEmpty
is_answered_from SnpRespDataI s = is_clean s && holds_data s
is_answered_from SnpRespDataSC s = is_clean s && holds_data s
is_answered_from SnpRespDataUC s = same s UniqueClean
is_answered_from SnpRespDataUD s = same s UniqueDirty
is_answered_from SnpRespDataSD s = is_dirty s
is_answered_from SnpRespDataIPD s = is_dirty s
is_answered_from SnpRespDataSCPD s = is_dirty s
is_answered_from SnpRespDataUCPD s = same s UniqueDirty

-- write data have the copy's own form, or that of no copy where it isn't dirty
abbrev pub is_written_from : State → Copy → Bool
is_written_from I s = same s Invalid || is_clean s
is_written_from form s = same s (copy_of form)

-- what is left of a copy that was written
abbrev pub cleaned : State → State
cleaned UD = UC
cleaned SD = SC
cleaned s = s

abbrev pub written : Kind → State → State
written kind form = if gives_up kind then I else cleaned form

-- nothing is pending of such a copy: no request, or one that was retried and cancelled
abbrev pub is_free : Due → Held → Bool
is_free Nothing h = true
is_free (Resending kind) h = h.cancelled
is_free other h = false

abbrev pub is_resending : Due → Bool
is_resending (Resending kind) = true
is_resending other = false

abbrev pub plain : Copy → Held
plain s = record { copy = s; cancelled = false }

-- whether the snoop that it hasn't answered, if the flit is an answer, lets it leave what it says
abbrev pub allows : Act → Option Snoop → Bool
allows (SnpResp answer) None = false
allows (SnpResp answer) (Some snoop) = leaves snoop (left_by answer) && (not (lets_go (Some snoop)) || answer_drops answer)
allows other q = true

-- nothing may be pending
abbrev pub may_be_free : Due → Bool
may_be_free Nothing = true
may_be_free (Resending kind) = true
may_be_free other = false

-- stores that nobody saw may be done: none where all are listed
abbrev pub are_hidden : Stores → Bool
are_hidden Hidden = true
are_hidden Listed = false

abbrev pub hides_stores : Stores → Due → Bool
hides_stores z d = are_hidden z && may_be_free d

-- or one that was seen
abbrev pub lets_store : Due → Bool
lets_store Acknowledgement = true
lets_store other = may_be_free other

-- a load of such a copy may be of any word: a store that nobody saw may be done to it, if only behind the CompAck
abbrev pub reads_any : Stores → Due → Copy → Bool
reads_any z d s = are_hidden z && (lets_store d && is_unique s)

-- and the word of the copy isn't asked for where that is so by the CompAck alone
abbrev pub is_acknowledging : Due → Bool
is_acknowledging Acknowledgement = true
is_acknowledging other = false

abbrev pub reads_later : Stores → Due → Copy → Bool
reads_later z d s = are_hidden z && (is_acknowledging d && is_unique s)

-- the value last stored is lost: a unique copy is thrown away whose agent may have stored to it unseen
abbrev pub loses : Stores → Act → Bool → Due → Copy → Bool
loses z a x d s = throws a x && (hides_stores z d && is_unique s)

-- words of a line, and whether they have the one that a load shows
abbrev pub word_at : List ℕ → ℕ → ℕ
word_at words n = slice_index_or words n 0

abbrev pub has_word : Act → List ℕ → Bool
has_word (Load word) words = word_at words word.place.0 == word.value
has_word other words = true

-- a load: it tells that there are data, and not that nothing was stored since
abbrev pub looks : Act → Bool
looks (Load word) = true
looks other = false

abbrev pub stores : Act → Bool
stores (Store word) = true
stores other = false

-- a store may be done: nothing is pending of such a copy, or the CompAck of a completion alone
abbrev pub may_store : Due → Held → Bool
may_store Acknowledgement h = true
may_store other h = is_free other h

-- the value last stored is any then
abbrev pub leaves_any : Stores → Act → Bool → Due → Copy → Bool
leaves_any z a x d s = loses z a x d s || stores a

-- the copy that a flit leaves, where its cache may send it; x: the snoop lets dirty data be thrown away
abbrev pub acts : Act → Bool → Due → Held → Option Held
acts (Request kind) x d h = if is_free d h && is_issued_from kind h.copy then Some (plain (issued kind h.copy)) else None
acts (Resend kind) x (Resending asked) h = if same_kind kind asked && not h.cancelled then Some h else None
acts (SnpResp answer) x d h = if is_answered_from answer h.copy || (throws (SnpResp answer) x && is_dirty h.copy) then Some (record { copy = answered answer h.copy; cancelled = h.cancelled }) else None
acts CompAck x Acknowledgement h = Some h
acts (CopyBackWrData form) x (WriteData kind) h = if is_copy_back kind && is_written_from form h.copy then Some (record { copy = copy_of (written kind form); cancelled = h.cancelled }) else None
acts NonCopyBackWrData x (WriteData kind) h = if is_whole_write kind && same h.copy Writing then Some (record { copy = Invalid; cancelled = h.cancelled }) else None
acts (Load word) x d h = if holds_data h.copy then Some h else None
acts (Store word) x d h = if may_store d h && is_unique h.copy then Some (record { copy = UniqueDirty; cancelled = h.cancelled }) else None
acts a x d h = None

abbrev pub answer_has_data : Answer → Bool
answer_has_data SnpRespI = false
answer_has_data SnpRespSC = false
answer_has_data SnpRespUC = false
answer_has_data other = true

abbrev pub form_has_data : State → Bool
form_has_data I = false
form_has_data other = true

-- it has the copy's data
abbrev pub has_data : Act → Bool
has_data (Request kind) = false
has_data (Resend kind) = false
has_data (SnpResp answer) = answer_has_data answer
has_data CompAck = false
has_data (CopyBackWrData form) = form_has_data form
has_data NonCopyBackWrData = false
has_data (Load word) = false
has_data (Store word) = false

-- it has the whole line, which its cache writes without a copy
abbrev pub writes : Act → Bool
writes NonCopyBackWrData = true
writes other = false

-- the home has its words then
abbrev pub tells_words : Act → Bool
tells_words a = has_data a || writes a

abbrev pub is_request : Act → Bool
is_request (Request kind) = true
is_request other = false

-- what is due then, and which snoop isn't answered
abbrev pub due_after : Act → Due → Due
due_after (Request kind) d = Completion kind
due_after (Resend kind) d = SureCompletion kind
due_after (SnpResp answer) d = d
due_after CompAck d = Nothing
due_after (CopyBackWrData form) d = Nothing
due_after NonCopyBackWrData d = Nothing
due_after (Load word) d = d
due_after (Store word) d = d

abbrev pub snooped_after : Act → Option Snoop → Option Snoop
snooped_after (SnpResp answer) q = None
snooped_after other q = q

-- whether it passes the duty to write dirty data to the home
abbrev pub answer_passes : Answer → Bool
answer_passes SnpRespDataIPD = true
answer_passes SnpRespDataSCPD = true
answer_passes SnpRespDataUCPD = true
answer_passes other = false

abbrev pub form_passes : State → Bool
form_passes UD = true
form_passes SD = true
form_passes other = false

abbrev pub passes_duty : Act → Bool
passes_duty (SnpResp answer) = answer_passes answer
passes_duty (CopyBackWrData form) = form_passes form
passes_duty NonCopyBackWrData = true
passes_duty other = false

-- THE HOME
-- the forms of data that complete a read
abbrev pub completes : Kind → State → Bool
completes ReadNotSharedDirty SC = true
completes ReadNotSharedDirty UC = true
completes ReadNotSharedDirty UD = true
completes ReadShared SC = true
completes ReadShared UC = true
completes ReadShared UD = true
completes ReadShared SD = true
completes ReadClean SC = true
completes ReadClean UC = true
completes ReadOnce I = true
completes ReadUnique UC = true
completes ReadUnique UD = true
completes kind form = false

-- the completion of a request, behind its agent's answer but for an Evict's
abbrev pub is_completed : Grant → Kind → Option Snoop → Bool
is_completed (CompData form) kind None = completes kind form
is_completed CompUC CleanUnique None = true
is_completed CompUC MakeUnique None = true
is_completed CompUC CleanShared None = true
is_completed CompSC CleanShared None = true
is_completed CompI CleanShared None = true
is_completed CompI CleanInvalid None = true
is_completed CompI MakeInvalid None = true
is_completed CompI Evict q = true
is_completed CompDBIDResp kind None = is_copy_back kind || is_whole_write kind
is_completed g kind q = false

-- whether what is due of an agent, and a snoop that it hasn't answered, let it be sent
abbrev pub is_due : Grant → Due → Option Snoop → Bool
is_due RetryAck (Completion kind) q = true
is_due RetryAck other q = false
is_due (Snp snoop) d None = true
is_due (Snp snoop) d (Some other) = false
is_due g (Completion kind) q = is_completed g kind q
is_due g (SureCompletion kind) q = is_completed g kind q
is_due g d q = false

-- the kind whose completion is due
abbrev pub is_of : (Kind → Bool) → Due → Bool
is_of f (Completion kind) = f kind
is_of f (SureCompletion kind) = f kind
is_of f other = false

-- the kind of a request that is open, or was retried
abbrev pub is_open_of : (Kind → Bool) → Due → Bool
is_open_of f (Completion kind) = f kind
is_open_of f (Resending kind) = f kind
is_open_of f (SureCompletion kind) = f kind
is_open_of f other = false

-- the completion of a CleanShared or a ReadOnce needs a moment since its issue
abbrev pub is_timed : Kind → Bool
is_timed CleanShared = true
is_timed ReadOnce = true
is_timed other = false

abbrev pub awaits_moment : Due → Bool
awaits_moment d = is_open_of is_timed d

abbrev pub reads_once : Due → Bool
reads_once d = is_open_of (same_kind ReadOnce) d

-- a request of such a kind
abbrev pub opens_moment : Act → Bool
opens_moment (Request kind) = is_timed kind
opens_moment (Resend kind) = is_timed kind
opens_moment other = false

abbrev pub needs_moment : Grant → Due → Bool
needs_moment (CompData form) d = is_of (same_kind ReadOnce) d
needs_moment CompUC d = is_of (same_kind CleanShared) d
needs_moment CompSC d = is_of (same_kind CleanShared) d
needs_moment CompI d = is_of (same_kind CleanShared) d
needs_moment other d = false

abbrev pub gives_data : Grant → Bool
gives_data (CompData form) = true
gives_data other = false

-- data that leave a copy: in form I they leave what there was
abbrev pub gives_copy : Grant → Bool
gives_copy (CompData form) = form_has_data form
gives_copy other = false

-- it passes the home's duty to write dirty data on
abbrev pub needs_duty : Grant → Bool
needs_duty (CompData form) = form_passes form
needs_duty other = false

-- a SnpMakeInvalid is sent only while a request of another agent is open whose completion gives the line a new value, or
-- leaves the home's own
abbrev pub needs_overwriter : Grant → Bool
needs_overwriter (Snp snoop) = lets_go (Some snoop)
needs_overwriter other = false

abbrev pub is_overwriting : Kind → Bool
is_overwriting MakeUnique = true
is_overwriting MakeInvalid = true
is_overwriting WriteUniqueFull = true
is_overwriting other = false

abbrev pub overwrites : Due → Bool
overwrites d = is_of is_overwriting d

-- while a CompAck or write data are due at the line nothing is snooped
abbrev pub needs_quiet : Grant → Bool
needs_quiet (Snp snoop) = true
needs_quiet other = false

abbrev pub is_busy : Due → Bool
is_busy (WriteData kind) = true
is_busy Acknowledgement = true
is_busy other = false

abbrev pub upgraded : Copy → Copy
upgraded Invalid = UniqueEmpty
upgraded SharedClean = UniqueClean
upgraded SharedDirty = UniqueDirty
upgraded s = s

abbrev pub is_upgraded : Due → Bool
is_upgraded d = is_of (same_kind CleanUnique) d

abbrev pub is_written_whole : Due → Bool
is_written_whole d = is_of is_whole_write d

-- the completion of a MakeUnique: its agent writes the whole line
abbrev pub makes : Grant → Due → Bool
makes CompUC d = is_of (same_kind MakeUnique) d
makes other d = false

-- the completion of a CleanInvalid or a MakeInvalid says that no other copy is left
abbrev pub is_invalidating : Kind → Bool
is_invalidating CleanInvalid = true
is_invalidating MakeInvalid = true
is_invalidating other = false

abbrev pub needs_alone : Grant → Due → Bool
needs_alone CompI d = is_of is_invalidating d
needs_alone other d = false

-- the completion of a MakeInvalid: the home's own words are the value then, and its agent has no copy
abbrev pub settles : Grant → Due → Bool
settles CompI d = is_of (same_kind MakeInvalid) d
settles other d = false

-- the copy of its agent then: data leave a dirty one as it is, but unique
abbrev pub copy_filled : State → Copy → Copy
copy_filled I s = s
copy_filled form s = if is_dirty s then UniqueDirty else copy_of form

abbrev pub copy_granted : Grant → Due → Copy → Copy
copy_granted (CompData form) d s = copy_filled form s
copy_granted CompUC d s = if makes CompUC d then UniqueDirty else (if is_upgraded d then upgraded s else s)
copy_granted CompDBIDResp d s = if is_written_whole d && not (is_dirty s) then Writing else s
copy_granted CompI d s = if settles CompI d then Invalid else s
copy_granted other d s = s

abbrev pub granted : Grant → Due → Held → Held
granted g d h = record { copy = copy_granted g d h.copy; cancelled = h.cancelled }

-- its words are the copy's then
abbrev pub fills : Grant → Held → Bool
fills g h = gives_copy g && not (is_dirty h.copy)

-- its words are the home's own: any go to a dirty copy, which keeps its own
abbrev pub shows : Grant → Held → Bool
shows g h = gives_data g && (not (gives_copy g) || not (is_dirty h.copy))

abbrev pub due_granted : Grant → Due → Due
due_granted RetryAck (Completion kind) = Resending kind
due_granted RetryAck d = d
due_granted (Snp snoop) d = d
due_granted (CompData form) d = if form_has_data form then Acknowledgement else Nothing
due_granted CompUC d = if makes CompUC d || is_upgraded d then Acknowledgement else Nothing
due_granted CompSC d = Nothing
due_granted CompI d = Nothing
due_granted CompDBIDResp (Completion kind) = WriteData kind
due_granted CompDBIDResp (SureCompletion kind) = WriteData kind
due_granted CompDBIDResp d = d

abbrev pub snooped_granted : Grant → Option Snoop → Option Snoop
snooped_granted (Snp snoop) q = Some snoop
snooped_granted other q = q
