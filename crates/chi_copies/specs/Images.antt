-- Rows of sets: what copies of one lead to (docs/COPIES.md, "How a set is kept").
use Rattle.std.specs.Prelude.{ℕ, List, length, Option, Bool, true, false, ◌&&◌, ◌||◌, ◌==◌, not, if◌then◌else◌}
use Rattle.std.specs.List.{slice_index_or}
use Rattle.chi_observer.specs.declared.kinds.Kind.TheVariants.{Evict}
use Rattle.chi_observer.specs.declared.flits.Act.{Act}
use Rattle.chi_observer.specs.declared.flits.Act.TheVariants.{Request, Resend, SnpResp, CompAck, CopyBackWrData, NonCopyBackWrData, Load, Store}
use Rattle.chi_observer.specs.declared.flits.Grant.{Grant}
use Rattle.chi_observer.specs.declared.flits.Grant.TheVariants.{CompData, CompUC, CompI, CompDBIDResp}
use Rattle.chi_observer.specs.declared.flits.Answer.{Answer}
use Rattle.chi_observer.specs.declared.flits.CacheFlit.{CacheFlit}
use Rattle.chi_observer.specs.declared.flits.Stores.{Stores}
use Rattle.chi_flit.specs.declared.state.State.{State}
use Rattle.chi_flit.specs.declared.state.State.TheVariants.{I}
use Rattle.chi_observer.specs.declared.flits.Due.{Due}
use Rattle.chi_observer.specs.declared.flits.Due.TheVariants.{Nothing}
use Rattle.chi_observer.specs.Copies.{copy_of, is_dirty, same}
use Rattle.chi_observer.specs.Copies.Copy.{Writing}
use Rattle.chi_observer.specs.Rules.{answer_drops, answer_has_data, answered, cleaned, form_has_data, has_data, is_acknowledging, is_answered_from, is_copy_back, is_issued_from, is_upgraded, is_whole_write, is_written_from, is_written_whole, makes, reads_once, same_kind, settles, tells_words, word_at}
use Rattle.chi_copies.specs.declared.copies.Row.{Row}
use Rattle.chi_copies.specs.declared.line.Line.{Line}
use Rattle.chi_copies.specs.declared.timed.Moments.{Moments}
use Rattle.chi_copies.specs.Copies.{Copies, Held, is_fresh, is_newer}
use Rattle.chi_copies.specs.Rules.{is_due_data, is_resent, may_hide}
use Rattle.chi_copies.specs.Observed.{Observed, any_of, fits_each, known_of}
use Rattle.chi_copies.specs.Sets.{any_below, members}

-- where a set has one of a row's first copies, each of its second
abbrev pub led_by : Row → Copies → Copies
led_by row S k = any_of S (members row.from) && members row.to k

abbrev pub row_at : List Row → ℕ → Row
row_at rows n = slice_index_or rows n (record { from = record { bits = 0 }; to = record { bits = 0 } })

abbrev pub led : List Row → Copies → Copies
led rows S k = any_below (length rows) (λ n. led_by (row_at rows n) S k)

-- A FLIT OF A CACHE that leaves the copies that it may have been sent from, or one for each of them
-- nothing is due
abbrev pub is_idle : Due → Bool
is_idle Nothing = true
is_idle other = false

abbrev pub is_plain : Act → Due → Copies → Bool
is_plain (Request kind) d S = (is_idle d && not (same_kind Evict kind)) && not (any_of S (λ h. h.cancelled))
is_plain (Load word) d S = false
is_plain (Store word) d S = false
is_plain other d S = true

abbrev pub sent_from : Act → Bool → Due → Copies
sent_from (Request kind) x d h = is_issued_from kind h.copy
sent_from (Resend kind) x d h = is_resent kind d && not h.cancelled
sent_from (SnpResp answer) x d h = is_answered_from answer h.copy || (x && (answer_drops answer && is_dirty h.copy))
sent_from CompAck x d h = is_acknowledging d
sent_from (CopyBackWrData form) x d h = is_due_data is_copy_back d && is_written_from form h.copy
sent_from NonCopyBackWrData x d h = is_due_data is_whole_write d && same h.copy Writing
sent_from other x d h = false

-- what is left of a copy behind an answer, and behind write data
abbrev pub replied : Answer → Held → Held
replied answer h = record { copy = answered answer h.copy; cancelled = h.cancelled; stored = h.stored && not (answer_has_data answer) }

abbrev pub written : State → Bool → Held → Held
written form up h = record { copy = copy_of (if up then I else cleaned form); cancelled = h.cancelled; stored = h.stored && not (form_has_data form) }

-- the copies whose words a flit's may be, where the home's may, and those known of the value meanwhile
abbrev pub fitting : Stores → Due → Bool → Bool → Copies
fitting z d home news h = if is_fresh h then home else (if is_newer h && not (may_hide z d h) then news else true)

-- the data of such a flit, if it has any, may be the copy's
abbrev pub fits : Observed → CacheFlit → Copies
fits o f h = not (has_data f.act) || fits_each (known_of o f.agent.0 h) (word_at f.shown)

-- A FLIT OF THE HOME that leaves each copy of its agent as it is
abbrev pub stays : Grant → Due → Bool
stays (CompData form) d = not (form_has_data form)
stays CompUC d = not (makes CompUC d || is_upgraded d)
stays CompDBIDResp d = not (is_written_whole d)
stays CompI d = not (settles CompI d)
stays other d = true

-- A REQUEST, an answer or a CompAck leaves the words that are known of the value, unless it says that they may be others
abbrev pub keeps_words : Act → Bool → Bool
keeps_words (Load word) forget = false
keeps_words (Store word) forget = false
keeps_words a forget = not (forget || tells_words a)

-- a line with other words known
abbrev pub with_news : Line → List (Option ℕ) → Line
with_news s news = record { stores = s.stores; due = s.due; snooped = s.snooped; duty = s.duty; may = s.may; home = s.home; news = news; shown = s.shown }

-- MOMENTS: of whom alone a copy may be dirty: nobody's (32), one agent's, or several agents' (33)
abbrev pub dirty_then : ℕ → Bool → ℕ → ℕ
dirty_then who dirty n = if not dirty then who else (if who == 32 then n else 33)

abbrev pub is_clean_but : ℕ → ℕ → Bool
is_clean_but who n = who == 32 || who == n

abbrev pub moment_by : Moments → Due → ℕ → Bool
moment_by m d n = if reads_once d then m.none_stored else (m.none_lost && is_clean_but m.dirty n)
