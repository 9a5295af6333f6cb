-- A request and an answer of one cache that come to the home in either order, by what a copy sends (docs/OBSERVER.md, "Seen at
-- the home").
use Rattle.std.specs.Prelude.{◌≡◌, Bool, true, false, ◌&&◌, ◌||◌, not, Some, if◌then◌else◌}
use Rattle.chi_observer.specs.declared.kinds.Snoop.{Snoop}
use Rattle.chi_observer.specs.declared.kinds.Kind.{Kind}
use Rattle.chi_observer.specs.declared.told.Told.{Told}
use Rattle.chi_observer.specs.declared.flits.Due.TheVariants.{Nothing, Completion}
use Rattle.chi_observer.specs.declared.flits.Stores.TheVariants.{Hidden}
use Rattle.chi_observer.specs.declared.flits.Answer.{Answer}
use Rattle.chi_observer.specs.declared.flits.Act.TheVariants.{Request, SnpResp}
use Rattle.chi_observer.specs.declared.arriving.Earlier.{Earlier}
use Rattle.chi_observer.specs.Copies.{Copy, Held, is_clean, is_unique, same}
use Rattle.chi_observer.specs.Copies.Copy.{Invalid, UniqueClean, UniqueDirty}
use Rattle.chi_observer.specs.Rules.{acts, allows, lets_go, plain, throws}
use Rattle.chi_observer.specs.Tables.{Known, fits_issue, fits_told, kind_tells_dirty, may, reach, told_answered, told_issued}
use Rattle.chi_observer.specs.Arriving.{earlier_answered, fits_crossing, issued_before}

abbrev pub as_told : Told → Known
as_told t = record { told = t; cancelled = false }

-- the cache of a copy that is as it is told, or stored to or dropped since, and of which nothing is due, sends a request and then
-- answers a snoop
pub record RequestsFirst (t : Told) (k : Kind) (q : Snoop) (a : Answer) (after : Held) : Type 0 where
  pub before : Held
  pub asking : Held
  pub told : reach Hidden Nothing (as_told t) before ≡ true
  pub requests : acts (Request k) false Nothing before ≡ Some asking
  pub allowed : allows (SnpResp a) (Some q) ≡ true
  pub answers : acts (SnpResp a) (lets_go (Some q)) (Completion k) asking ≡ Some after

-- or answers, may store to its copy or drop it, and then sends a request
abbrev pub is_since : Copy → Copy → Bool
is_since s s' = same s' s || ((is_unique s && same s' UniqueDirty) || (is_clean s && same s' Invalid))

pub record AnswersFirst (t : Told) (k : Kind) (q : Snoop) (a : Answer) : Type 0 where
  pub before : Held
  pub answering : Held
  pub since : Copy
  pub asking : Held
  pub told : reach Hidden Nothing (as_told t) before ≡ true
  pub allowed : allows (SnpResp a) (Some q) ≡ true
  pub answers : acts (SnpResp a) (lets_go (Some q)) Nothing before ≡ Some answering
  pub unseen : is_since answering.copy since ≡ true
  pub requests : acts (Request k) false Nothing (plain since) ≡ Some asking

-- what is told of it at the home once both are here, the answer first: the request may have been sent before it, or it fits now
abbrev pub goes : Snoop → Answer → Bool
goes q a = throws (SnpResp a) (lets_go (Some q))

abbrev pub before_it : Told → Earlier → Kind → Snoop → Answer → Bool
before_it t e k q a = issued_before (earlier_answered a (goes q a) t e) k

abbrev pub told_both : Told → Earlier → Kind → Snoop → Answer → Told
told_both t e k q a = if before_it t e k q a && not (fits_issue k true (told_answered a t)) then told_answered a t else told_issued k (told_answered a t)

-- it is taken, and the copy is as it is told then, or unique and clean where that is unsure
pub record IsTakenLate (t : Told) (e : Earlier) (k : Kind) (q : Snoop) (a : Answer) (s : Copy) : Type 0 where
  pub answer : fits_told Hidden (SnpResp a) (lets_go (Some q)) Nothing (as_told t) ≡ true
  pub request : (before_it t e k q a || fits_issue k true (told_answered a t)) ≡ true
  pub copy : (may (told_both t e k q a) s || ((before_it t e k q a && kind_tells_dirty k) && same s UniqueClean)) ≡ true

abbrev pub LateRequestsAreTaken : Type 0
LateRequestsAreTaken = (t : Told) (e : Earlier) (k : Kind) (q : Snoop) (a : Answer) (after : Held) → RequestsFirst t k q a after → IsTakenLate t e k q a after.copy

-- and where the request comes first it is held, whichever was sent first
abbrev pub is_held : Told → Earlier → Kind → Snoop → Bool
is_held t e k q = issued_before e k || fits_crossing q k t

abbrev pub EarlyRequestsAreHeld : Type 0
EarlyRequestsAreHeld = (t : Told) (e : Earlier) (k : Kind) (q : Snoop) (a : Answer) (after : Held) → RequestsFirst t k q a after → is_held t e k q ≡ true

abbrev pub RequestsBehindAreHeld : Type 0
RequestsBehindAreHeld = (t : Told) (e : Earlier) (k : Kind) (q : Snoop) (a : Answer) → AnswersFirst t k q a → is_held t e k q ≡ true
