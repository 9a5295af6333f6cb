-- What may still be on its way to the home from one agent: the request that is held, what it may have been sent from, and
-- what flits make of it (docs/OBSERVER.md, "Seen at the home").
use Rattle.std.specs.Prelude.{ℕ, Bool, true, false, ◌&&◌, ◌||◌, ◌+◌, ◌-◌, not, Option, Some, None, if◌then◌else◌}
use Rattle.chi_observer.specs.declared.kinds.Kind.{Kind}
use Rattle.chi_observer.specs.declared.kinds.Kind.TheVariants.{Evict, WriteBackFull, WriteCleanFull, WriteEvictFull, WriteUniqueFull}
use Rattle.chi_observer.specs.declared.kinds.Snoop.{Snoop}
use Rattle.chi_observer.specs.declared.told.Told.{Told}
use Rattle.chi_observer.specs.declared.told.Told.TheVariants as tolds
use Rattle.chi_observer.specs.declared.flits.Due.{Due}
use Rattle.chi_observer.specs.declared.flits.Due.TheVariants as dues
use Rattle.chi_observer.specs.declared.flits.Answer.{Answer}
use Rattle.chi_observer.specs.declared.flits.Answer.TheVariants.{SnpRespDataSCPD, SnpRespDataUCPD}
use Rattle.chi_observer.specs.declared.flits.Act.{Act}
use Rattle.chi_observer.specs.declared.flits.Act.TheVariants.{SnpResp, CopyBackWrData}
use Rattle.chi_observer.specs.declared.flits.Grant.{Grant}
use Rattle.chi_observer.specs.declared.flits.Grant.TheVariants.{RetryAck, Snp, CompDBIDResp}
use Rattle.chi_observer.specs.declared.arriving.Held.{Held}
use Rattle.chi_observer.specs.declared.arriving.Held.TheVariants as helds
use Rattle.chi_observer.specs.declared.arriving.Earlier.{Earlier}
use Rattle.chi_observer.specs.declared.arriving.Arriving.{Arriving}
use Rattle.chi_observer.specs.declared.arriving.Turn.{Turn}
use Rattle.chi_observer.specs.declared.arriving.Turn.TheVariants as turns
use Rattle.chi_observer.specs.declared.arriving.Bearing.{Bearing}
use Rattle.chi_observer.specs.declared.arriving.Bearing.TheVariants as bearings
use Rattle.chi_observer.specs.Copies.{is_clean, is_dirty, is_unique, same}
use Rattle.chi_observer.specs.Copies.Copy.{UniqueClean}
use Rattle.chi_observer.specs.Rules.{answer_drops, allows, form_passes, is_due, is_timed, may_be_free, throws}
use Rattle.chi_observer.specs.Tables.{answer_tells_dirty, fits_answer, fits_issue, kind_tells_dirty, strongest}

abbrev pub nothing_earlier : Earlier
nothing_earlier = record { dirty = false; unique = false; clean = false; thrown = false }

abbrev pub nobody_arriving : Arriving
nobody_arriving = record { acks = 0; held = helds.Nothing; earlier = nothing_earlier; unsure = false; current = false; delayed = false; asked = 0; since = 0 }

-- REQUESTS
-- one of the kind may have been sent before the answers that came last
abbrev pub issued_before : Earlier → Kind → Bool
issued_before e WriteBackFull = e.dirty
issued_before e WriteCleanFull = e.dirty
issued_before e WriteEvictFull = e.unique
issued_before e Evict = e.clean
issued_before e other = false

-- it tells that what was thrown away hadn't been stored to
abbrev pub is_unlost : Earlier → Kind → Bool
is_unlost e k = e.thrown && not (kind_tells_dirty k)

-- or behind the answer to the snoop that is awaited: from what a dirty copy may be left as
abbrev pub fits_crossing : Snoop → Kind → Told → Bool
fits_crossing snoop kind t = fits_issue kind true t
    || (((is_unique (strongest t) || is_dirty (strongest t)) && fits_issue kind true tolds.I)
    || ((((is_unique (strongest t) || is_dirty (strongest t)) && allows (SnpResp SnpRespDataSCPD) (Some snoop)) && fits_issue kind true tolds.SC)
    || ((is_unique (strongest t) && allows (SnpResp SnpRespDataUCPD) (Some snoop)) && fits_issue kind true tolds.UC)))

-- or behind the write data that are awaited
abbrev pub left_by_data : Kind → Told → Told
left_by_data WriteCleanFull tolds.UD = tolds.UC
left_by_data WriteCleanFull tolds.SD = tolds.SC
left_by_data WriteCleanFull t = t
left_by_data other t = tolds.I

abbrev pub later_if : Bool → Turn
later_if true = turns.Later
later_if false = turns.Never

-- when a request is judged: at once, or once the awaited flit is here
abbrev pub turn_free : Arriving → Option Snoop → Told → Kind → Turn
turn_free own None t k = if own.unsure then turns.Unknown else turns.Now
turn_free own (Some snoop) t k = if own.unsure then turns.Unknown else later_if (issued_before own.earlier k || fits_crossing snoop k t)

abbrev pub turn_due : Arriving → Due → Option Snoop → Told → Kind → Turn
turn_due own dues.Nothing q t k = turn_free own q t k
turn_due own (dues.Resending asked) q t k = turn_free own q t k
turn_due own (dues.WriteData asked) q t k = later_if (fits_issue k true (left_by_data asked t))
turn_due own other q t k = turns.Never

abbrev pub turn_held : Held → Turn → Turn
turn_held helds.Nothing turn = turn
turn_held (helds.Open kind) turn = turns.Never
turn_held other turn = turns.Unknown

abbrev pub turn_of : Arriving → Due → Option Snoop → Told → Kind → Turn
turn_of own d q t k = turn_held own.held (turn_due own d q t k)

abbrev pub timed_after : ℕ → Kind → ℕ
timed_after timed kind = if is_timed kind then timed + 1 else timed

abbrev pub own_issued : Arriving → ℕ → Bool → Bool → Arriving
own_issued own timed unsure delayed = record { acks = own.acks; held = helds.Nothing; earlier = nothing_earlier; unsure = unsure; current = false; delayed = delayed; asked = own.asked; since = timed }

abbrev pub own_holding : Arriving → Held → Arriving
own_holding own held = record own { held = held }

abbrev pub own_resent : Arriving → Arriving
own_resent own = record own { earlier = nothing_earlier }

abbrev pub holds_none : Held → Bool
holds_none helds.Nothing = true
holds_none other = false

abbrev pub own_acknowledged : Arriving → Arriving
own_acknowledged own = record own { acks = own.acks - 1 }

-- ANSWERS AND WRITE DATA
-- a copy that a request was sent from gives the answer: it was neither stored to nor dropped since
abbrev pub stays : Answer → Bool → Told → Bool
stays a goes t = fits_answer a false t || (goes && is_dirty (strongest t))

-- what the copy may have been before the answer: dirty; unique and clean with data; clean, and given up; thrown away by it,
-- and stored to
abbrev pub was_dirty : Answer → Bool → Told → Bool
was_dirty a goes t = answer_tells_dirty a || (goes && (is_dirty (strongest t) || is_unique (strongest t)))

abbrev pub was_unique : Answer → Told → Bool
was_unique a t = same (strongest t) UniqueClean && not (answer_tells_dirty a)

abbrev pub was_clean : Answer → Told → Bool
was_clean a t = is_clean (strongest t) && answer_drops a

abbrev pub was_stored : Bool → Told → Bool
was_stored goes t = goes && is_unique (strongest t)

abbrev pub earlier_answered : Answer → Bool → Told → Earlier → Earlier
earlier_answered a goes t e = record {
  dirty = was_dirty a goes t || (e.dirty && stays a goes t);
  unique = was_unique a t || (e.unique && stays a goes t);
  clean = was_clean a t || (e.clean && stays a goes t);
  thrown = was_stored goes t || (e.thrown && stays a goes t);
}

abbrev pub earlier_after : Act → Bool → Due → Told → Earlier → Earlier
earlier_after (SnpResp a) x d t e = if may_be_free d then earlier_answered a (throws (SnpResp a) x) t e else nothing_earlier
earlier_after other x d t e = nothing_earlier

-- an unsure copy that is thrown away may have been unique and clean
abbrev pub clean_earlier : Earlier → Earlier
clean_earlier e = record { dirty = e.dirty; unique = true; clean = true; thrown = e.thrown }

abbrev pub earlier_of : Arriving → Act → Bool → Earlier
earlier_of own a x = if own.unsure && throws a x then clean_earlier own.earlier else own.earlier

abbrev pub own_told : Arriving → Earlier → Arriving
own_told own e = record own { held = helds.Nothing; earlier = e; unsure = false; current = false }

-- such as a dirty copy gives
abbrev pub says_dirty : Act → Bool → Bool
says_dirty (SnpResp a) x = answer_tells_dirty a || throws (SnpResp a) x
says_dirty (CopyBackWrData form) x = form_passes form
says_dirty other x = true

abbrev pub is_clean_by : Arriving → Act → Bool → Bool
is_clean_by own a x = own.unsure && not (says_dirty a x)

-- FLITS OF THE HOME
-- to an agent whose request is held: a retry of it, or the completion of an Evict that is ahead of an answer
abbrev pub bearing_behind : Option Snoop → Bearing
bearing_behind None = bearings.Unknown
bearing_behind (Some snoop) = bearings.Ends

abbrev pub bearing_on : Kind → Option Snoop → Grant → Bearing
bearing_on kind q g = if is_due g (dues.Completion kind) q then bearing_behind q else bearings.Told

abbrev pub bearing_open : Kind → Option Snoop → Grant → Bearing
bearing_open kind q RetryAck = bearings.Retries
bearing_open kind q (Snp snoop) = bearings.Told
bearing_open kind q g = bearing_on kind q g

abbrev pub bearing_of : Held → Option Snoop → Grant → Bearing
bearing_of (helds.Open kind) q g = bearing_open kind q g
bearing_of other q g = bearings.Told

abbrev pub acks_after : ℕ → Due → ℕ
acks_after acks dues.Acknowledgement = acks + 1
acks_after acks other = acks

abbrev pub asked_after : ℕ → Grant → ℕ → ℕ
asked_after asked (Snp snoop) timed = timed
asked_after asked CompDBIDResp timed = timed
asked_after asked other timed = asked

-- the write data that it asks for may be sent at once, and with them or behind them a new value be there
abbrev pub may_be_sent : Due → Told → Grant → Bool
may_be_sent (dues.WriteData WriteUniqueFull) t CompDBIDResp = true
may_be_sent (dues.WriteData WriteCleanFull) t CompDBIDResp = is_unique (strongest t)
may_be_sent d t g = false

abbrev pub stays_current : Bool → Due → Told → Grant → Bool → Bool
stays_current was d t g current = was || (may_be_sent d t g && current)

abbrev pub own_granted : Arriving → Due → Told → Grant → ℕ → Bool → Arriving
own_granted own d t g timed current = record own { acks = acks_after own.acks d; current = stays_current own.current d t g current; asked = asked_after own.asked g timed }
