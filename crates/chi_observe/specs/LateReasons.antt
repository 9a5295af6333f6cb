-- Why a line can't be judged any more whose flits are logged at the home (docs/OBSERVER.md, "Seen at the home").
use Rattle.std.specs.Prelude.{ℕ, Bool, List, codes, if◌then◌else◌}
use Rattle.chi_observer.specs.declared.arrivals.Aside.{Aside}
use Rattle.chi_observer.specs.declared.arrivals.Aside.TheVariants as asides
use Rattle.chi_observer.specs.declared.arrivals.Untaken.{Untaken}
use Rattle.chi_observer.specs.declared.arrivals.Untaken.TheVariants.{SetAside}
use Rattle.chi_observer.specs.declared.flits.Flit.{Flit}
use Rattle.chi_observer.specs.Arrivals.{Arrived, is_untaken}

-- whatever rule it is that a request which is held bears on
pub data LateReason : Type 0 where
  TwoRequests : LateReason
  Retried : LateReason
  EarlierData : LateReason
  HeldRequest : LateReason
  Thrown : LateReason
  Uncounted : LateReason

abbrev pub reason_in : Aside → LateReason
reason_in asides.TwoRequests = TwoRequests
reason_in asides.Retried = Retried
reason_in asides.EarlierData = EarlierData
reason_in (asides.HeldRequest reason) = HeldRequest
reason_in asides.Thrown = Thrown
reason_in asides.Uncounted = Uncounted

-- the one that holds of a flit which leaves open what it tells
abbrev pub reason_by : (Untaken → Bool) → LateReason
reason_by holds =
    if holds (SetAside asides.TwoRequests) then TwoRequests else (
    if holds (SetAside asides.Retried) then Retried else (
    if holds (SetAside asides.EarlierData) then EarlierData else (
    if holds (SetAside asides.Thrown) then Thrown else (
    if holds (SetAside asides.Uncounted) then Uncounted else HeldRequest))))

unfoldable pub late_reason : Arrived → Flit → LateReason
late_reason a flit = reason_by (is_untaken a flit)

-- in words
abbrev pub late_reason_text : LateReason → List ℕ
late_reason_text TwoRequests = codes "it isn't known what its node's last request was sent from"
late_reason_text Retried = codes "a request of its node that was retried may have been cancelled before"
late_reason_text EarlierData = codes "a request is completed before write data that were sent first"
late_reason_text HeldRequest = codes "what a request tells that is held may make it legal"
late_reason_text Thrown = codes "a copy was clean that seemed to be thrown away dirty"
late_reason_text Uncounted = codes "more is on its way than is counted"
