-- The observer's tables: what is told of a copy, and how flits change it (docs/OBSERVER.md, "What is told of a copy",
-- "Flits of a cache", "Flits of the home").
use Rattle.std.specs.Prelude.{Bool, true, false, ◌&&◌, ◌||◌, not, if◌then◌else◌}
use Rattle.chi_flit.specs.declared.state.State.{State}
use Rattle.chi_flit.specs.declared.state.State.TheVariants as states
use Rattle.chi_observer.specs.declared.kinds.Kind.{Kind}
use Rattle.chi_observer.specs.declared.kinds.Kind.TheVariants.{ReadNotSharedDirty, ReadShared, ReadClean, ReadOnce, ReadUnique, CleanUnique, MakeUnique, CleanShared, CleanInvalid, MakeInvalid, Evict, WriteBackFull, WriteCleanFull, WriteEvictFull, WriteUniqueFull}
use Rattle.chi_observer.specs.declared.told.Told.{Told}
use Rattle.chi_observer.specs.declared.told.Told.TheVariants.{I, SC, SCOrI, UC, UCOrI, UCE, UCEOrI, UCOrUCE, UD, SD}
use Rattle.chi_observer.specs.declared.flits.Due.{Due}
use Rattle.chi_observer.specs.declared.flits.Stores.{Stores}
use Rattle.chi_observer.specs.declared.flits.Due.TheVariants.{Nothing, Resending, WriteData, Acknowledgement}
use Rattle.chi_observer.specs.declared.flits.Answer.{Answer}
use Rattle.chi_observer.specs.declared.flits.Answer.TheVariants.{SnpRespI, SnpRespSC, SnpRespUC, SnpRespDataI, SnpRespDataSC, SnpRespDataUC, SnpRespDataUD, SnpRespDataSD, SnpRespDataIPD, SnpRespDataSCPD, SnpRespDataUCPD}
use Rattle.chi_observer.specs.declared.flits.Act.{Act}
use Rattle.chi_observer.specs.declared.flits.Act.TheVariants.{Request, Resend, SnpResp, CompAck, CopyBackWrData, NonCopyBackWrData, Load, Store}
use Rattle.chi_observer.specs.declared.flits.Grant.{Grant}
use Rattle.chi_observer.specs.declared.flits.Grant.TheVariants.{RetryAck, CompData, CompUC, CompI, CompDBIDResp}
use Rattle.chi_observer.specs.Copies.{Copy, Held, copy_of, holds_data, is_unique, is_dirty, is_clean, same, compatible}
use Rattle.chi_observer.specs.Copies.Copy.{Invalid, SharedClean, UniqueClean, UniqueEmpty, UniqueDirty, SharedDirty, Writing}
use Rattle.chi_observer.specs.declared.told.Told.TheVariants as tolds
use Rattle.chi_observer.specs.Rules.{is_free, may_be_free, hides_stores, are_hidden, lets_store, is_copy_back, is_whole_write, same_kind, left_by, written, gives_data, gives_copy, makes, settles, throws, is_upgraded, is_written_whole}

-- what is told of a copy, and whether a request of its agent that was retried is surely cancelled
pub record Known : Type 0 where
  pub told : Told
  pub cancelled : Bool

-- the strongest that it may be
abbrev pub strongest : Told → Copy
strongest I = Invalid
strongest SC = SharedClean
strongest SCOrI = SharedClean
strongest UC = UniqueClean
strongest UCOrI = UniqueClean
strongest UCE = UniqueEmpty
strongest UCEOrI = UniqueEmpty
strongest UCOrUCE = UniqueClean
strongest UD = UniqueDirty
strongest SD = SharedDirty
strongest tolds.Writing = Writing

-- what it may be right behind the flit that told it
abbrev pub may : Told → Copy → Bool
may SCOrI s = same s SharedClean || same s Invalid
may UCOrI s = same s UniqueClean || same s Invalid
may UCEOrI s = same s UniqueEmpty || same s Invalid
may UCOrUCE s = same s UniqueClean || same s UniqueEmpty
may other s = same s (strongest other)

-- and later, by stores that nobody saw and drops
abbrev pub may_drift : Stores → Told → Copy → Bool
may_drift z t s = may t s || ((are_hidden z && (is_unique (strongest t) && same s UniqueDirty)) || (is_clean (strongest t) && same s Invalid))

abbrev pub most : Known → Copy
most k = strongest k.told

-- what it may be: of a retried request that wasn't cancelled just what was told
abbrev pub reach : Stores → Due → Known → Held → Bool
reach z Nothing k h = not h.cancelled && may_drift z k.told h.copy
reach z (Resending kind) k h = if h.cancelled then may_drift z k.told h.copy else (not k.cancelled && may k.told h.copy)
reach z other k h = not h.cancelled && may k.told h.copy

-- such a copy may have been stored to unseen since it was told
abbrev pub fresh : Stores → Due → Known → Held → Bool
fresh z d k h = are_hidden z && (is_free d h && (is_unique (most k) && same h.copy UniqueDirty))

-- what is told of two copies may be so together
abbrev pub goes_with : Known → Known → Bool
goes_with k l = compatible (most k) (most l)

abbrev pub told_as : State → Told
told_as states.I = I
told_as states.SC = SC
told_as states.UC = UC
told_as states.UD = UD
told_as states.SD = SD

-- FLITS OF A CACHE
-- a kind that is issued with no copy or an empty one; or with a shared one too; or with no copy or a clean one with data
abbrev pub told_empty : Told → Told
told_empty UCE = UCEOrI
told_empty UCEOrI = UCEOrI
told_empty UCOrUCE = UCEOrI
told_empty other = I

abbrev pub told_shared : Told → Told
told_shared SC = SCOrI
told_shared SCOrI = SCOrI
told_shared SD = SD
told_shared other = told_empty other

abbrev pub told_clean : Told → Told
told_clean SC = SCOrI
told_clean SCOrI = SCOrI
told_clean UC = UCOrI
told_clean UCOrI = UCOrI
told_clean UCOrUCE = UCOrI
told_clean other = I

abbrev pub told_dirty : Told → Told
told_dirty SD = SD
told_dirty other = UD

abbrev pub told_issued : Kind → Told → Told
told_issued ReadNotSharedDirty t = told_empty t
told_issued ReadShared t = told_empty t
told_issued ReadClean t = told_empty t
told_issued ReadUnique t = told_shared t
told_issued CleanUnique t = told_shared t
told_issued MakeUnique t = told_shared t
told_issued CleanShared t = told_clean t
told_issued Evict t = I
told_issued WriteBackFull t = told_dirty t
told_issued WriteCleanFull t = told_dirty t
told_issued WriteEvictFull t = UC
told_issued other t = I

-- the flit says that the copy was dirty
abbrev pub kind_tells_dirty : Kind → Bool
kind_tells_dirty WriteBackFull = true
kind_tells_dirty WriteCleanFull = true
kind_tells_dirty other = false

abbrev pub answer_tells_dirty : Answer → Bool
answer_tells_dirty SnpRespDataUD = true
answer_tells_dirty SnpRespDataSD = true
answer_tells_dirty SnpRespDataIPD = true
answer_tells_dirty SnpRespDataSCPD = true
answer_tells_dirty SnpRespDataUCPD = true
answer_tells_dirty other = false

abbrev pub tells_dirty : Act → Bool
tells_dirty (Request kind) = kind_tells_dirty kind
tells_dirty (SnpResp answer) = answer_tells_dirty answer
tells_dirty other = false

-- a dirty answer to a snoop, where a request was retried: it is surely cancelled where the copy was told clean, or where
-- its words aren't the known ones; and behind a store, and a load of a line that was told to be without data
abbrev pub is_cancelled : Act → Due → Known → Bool → Bool
is_cancelled (SnpResp answer) (Resending kind) k differ = k.cancelled || (answer_tells_dirty answer && (is_unique (most k) && (differ || not (same (most k) UniqueDirty))))
is_cancelled (Load word) (Resending kind) k differ = k.cancelled || same (most k) UniqueEmpty
is_cancelled (Store word) (Resending kind) k differ = true
is_cancelled a d k differ = false

-- a unique copy that stays as it is, with data or without
abbrev pub told_unique : Told → Told
told_unique UCE = UCE
told_unique UCEOrI = UCE
told_unique UCOrUCE = UCOrUCE
told_unique other = UC

abbrev pub told_answered : Answer → Told → Told
told_answered SnpRespUC t = told_unique t
told_answered answer t = told_as (left_by answer)

-- a copy with data: of one without the whole line was written
abbrev pub told_loaded : Told → Told
told_loaded SCOrI = SC
told_loaded UCOrI = UC
told_loaded UCOrUCE = UC
told_loaded UCE = UD
told_loaded UCEOrI = UD
told_loaded other = other

-- what is told behind a flit
abbrev pub told_behind : Act → Due → Told → Told
told_behind (Request kind) d t = told_issued kind t
told_behind (SnpResp answer) d t = told_answered answer t
told_behind (CopyBackWrData form) (WriteData kind) t = told_as (written kind form)
told_behind NonCopyBackWrData d t = I
told_behind (Load word) d t = told_loaded t
told_behind (Store word) d t = UD
told_behind a d t = t

abbrev pub told_after : Act → Due → Known → Bool → Known
told_after a d k differ = record { told = told_behind a d k.told; cancelled = is_cancelled a d k differ }

-- there may be no copy, or none any more
abbrev pub may_be_gone : Told → Bool
may_be_gone t = same (strongest t) Invalid || is_clean (strongest t)

-- the copy may be one that the kind is issued from; u: a store that nobody saw may have been
abbrev pub fits_issue : Kind → Bool → Told → Bool
fits_issue ReadNotSharedDirty u t = may_be_gone t
fits_issue ReadShared u t = may_be_gone t
fits_issue ReadClean u t = may_be_gone t
fits_issue ReadUnique u t = may_be_gone t || same (strongest t) SharedDirty
fits_issue CleanUnique u t = may_be_gone t || same (strongest t) SharedDirty
fits_issue MakeUnique u t = may_be_gone t || same (strongest t) SharedDirty
fits_issue ReadOnce u t = may_be_gone t
fits_issue CleanShared u t = may_be_gone t
fits_issue CleanInvalid u t = may_be_gone t
fits_issue MakeInvalid u t = may_be_gone t
fits_issue WriteUniqueFull u t = may_be_gone t
fits_issue Evict u t = is_clean (strongest t)
fits_issue WriteBackFull u t = is_dirty (strongest t) || (u && is_unique (strongest t))
fits_issue WriteCleanFull u t = is_dirty (strongest t) || (u && is_unique (strongest t))
fits_issue WriteEvictFull u t = same (strongest t) UniqueClean

-- or that the answer is given from
abbrev pub fits_answer : Answer → Bool → Told → Bool
fits_answer SnpRespI u t = may_be_gone t
fits_answer SnpRespSC u t = is_clean (strongest t) && holds_data (strongest t)
fits_answer SnpRespUC u t = is_clean (strongest t) && is_unique (strongest t)
fits_answer SnpRespDataI u t = is_clean (strongest t) && holds_data (strongest t)
fits_answer SnpRespDataSC u t = is_clean (strongest t) && holds_data (strongest t)
fits_answer SnpRespDataUC u t = same (strongest t) UniqueClean
fits_answer SnpRespDataUD u t = same (strongest t) UniqueDirty || (u && is_unique (strongest t))
fits_answer SnpRespDataUCPD u t = same (strongest t) UniqueDirty || (u && is_unique (strongest t))
fits_answer dirty u t = is_dirty (strongest t) || (u && is_unique (strongest t))

abbrev pub fits_form : State → Told → Bool
fits_form states.I t = may_be_gone t
fits_form form t = same (strongest t) (copy_of form)

-- or that is loaded, or stored to: the line may have been written
abbrev pub fits_load : Bool → Told → Bool
fits_load u t = holds_data (strongest t) || (u && is_unique (strongest t))

abbrev pub fits_store : Due → Told → Bool
fits_store d t = lets_store d && is_unique (strongest t)

-- whether some copy that it may be sends the flit; x: the snoop lets dirty data be thrown away
abbrev pub fits_told : Stores → Act → Bool → Due → Known → Bool
fits_told z (Request kind) x d k = may_be_free d && fits_issue kind (hides_stores z d) k.told
fits_told z (Resend kind) x (Resending asked) k = same_kind kind asked && not k.cancelled
fits_told z (SnpResp answer) x d k = fits_answer answer (hides_stores z d) k.told || (throws (SnpResp answer) x && is_dirty (most k))
fits_told z CompAck x Acknowledgement k = true
fits_told z (CopyBackWrData form) x (WriteData kind) k = is_copy_back kind && fits_form form k.told
fits_told z NonCopyBackWrData x (WriteData kind) k = is_whole_write kind && same (most k) Writing
fits_told z (Load word) x d k = fits_load (hides_stores z d) k.told
fits_told z (Store word) x d k = fits_store d k.told
fits_told z a x d k = false

-- and so that there may have been a store since
abbrev pub renews : Stores → Act → Bool → Due → Known → Bool
renews z (Load word) x d k = hides_stores z d && same (most k) UniqueEmpty
renews z (Store word) x d k = true
renews z a x d k = hides_stores z d && (is_unique (most k) && (tells_dirty a || throws a x))

-- FLITS OF THE HOME
abbrev pub told_upgraded : Told → Told
told_upgraded I = UCE
told_upgraded SC = UC
told_upgraded SCOrI = UCOrUCE
told_upgraded UCOrI = UCOrUCE
told_upgraded UCEOrI = UCE
told_upgraded SD = UD
told_upgraded t = t

abbrev pub told_completed : Due → Told → Told
told_completed d t = if makes CompUC d then UD else (if is_upgraded d then told_upgraded t else t)

abbrev pub told_filled : State → Told → Told
told_filled states.I t = t
told_filled form t = if is_dirty (strongest t) then UD else told_as form

abbrev pub told_by : Grant → Due → Told → Told
told_by (CompData form) d t = told_filled form t
told_by CompUC d t = told_completed d t
told_by CompDBIDResp d t = if is_written_whole d && not (is_dirty (strongest t)) then tolds.Writing else t
told_by CompI d t = if settles CompI d then I else t
told_by other d t = t

-- a request that is retried just now isn't cancelled
abbrev pub cancelled_by : Grant → Bool → Bool
cancelled_by RetryAck c = false
cancelled_by other c = c

abbrev pub told_granted : Grant → Due → Known → Known
told_granted g d k = record { told = told_by g d k.told; cancelled = cancelled_by g k.cancelled }

abbrev pub fills_told : Grant → Known → Bool
fills_told g k = gives_copy g && not (is_dirty (most k))

abbrev pub shows_told : Grant → Known → Bool
shows_told g k = gives_data g && (not (gives_copy g) || not (is_dirty (most k)))
