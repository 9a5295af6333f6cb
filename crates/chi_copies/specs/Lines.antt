-- A line of the code as what the observer keeps of it, and the code's words for one copy's steps (docs/COPIES.md, "What is kept").
use Rattle.std.specs.Prelude.{ℕ, ◌==◌, List, Bool, true, false, ◌&&◌, ◌||◌, not, nat_lt, Option, Some, None, if◌then◌else◌}
use Rattle.std.specs.List.{slice_index_or}
use Rattle.chi_observer.specs.declared.flits.Act.{Act}
use Rattle.chi_observer.specs.declared.flits.Act.TheVariants.{Load}
use Rattle.chi_observer.specs.declared.flits.Due.{Due}
use Rattle.chi_observer.specs.declared.flits.CacheFlit.{CacheFlit}
use Rattle.chi_observer.specs.declared.flits.HomeFlit.{HomeFlit}
use Rattle.chi_observer.specs.declared.kinds.Snoop.{Snoop}
use Rattle.chi_observer.specs.Copies.{holds_data, is_dirty, is_unique, same}
use Rattle.chi_observer.specs.Copies.Copy.{Invalid}
use Rattle.chi_observer.specs.Rules.{has_data, word_at, lets_go, awaits_moment, reads_once}
use Rattle.chi_copies.specs.declared.copies.Copies.{Copies as CopiesCode}
use Rattle.chi_copies.specs.declared.dues.DueCode.{DueCode}
use Rattle.chi_copies.specs.declared.sends.Fits.{Fits}
use Rattle.chi_copies.specs.declared.sends.Sent.{Sent}
use Rattle.chi_copies.specs.declared.steps.Step.{Step}
use Rattle.chi_copies.specs.declared.steps.Step.TheVariants as steps
use Rattle.chi_copies.specs.declared.line.Line.{Line}
use Rattle.chi_copies.specs.declared.tests.Test.{Test}
use Rattle.chi_copies.specs.declared.tests.Test.TheVariants as tests
use Rattle.chi_copies.specs.Dues.{due_is}
use Rattle.chi_copies.specs.Copies.{Held, Copies, shown_of, is_fresh, is_newer, beside, image, leaves, same_held}
use Rattle.chi_copies.specs.Rules.{may_store, may_hide, acts, slips, granted, fills, shows}
use Rattle.chi_copies.specs.Observed.{Observed, any_of, fits_each, fits_home, goes, home_at, may_own, of_eight, shown_all, takes, takes_home}
use Rattle.chi_copies.specs.Worlds.{all_below}
use Rattle.chi_copies.specs.Moments.{has_moment}
use Rattle.chi_copies.specs.Sets.{held_is, members}
use Rattle.chi_copies.specs.Begun.{apart, is_home_copy}

-- WORDS of a flit of a cache beside those that are known
abbrev pub fits_by : CacheFlit → (ℕ → Option ℕ) → Fits
fits_by f k = record { shown = not (has_data f.act) || fits_each k (word_at f.shown); own = may_own f.act k true; other = may_own f.act k false }

abbrev pub fits_any : Act → Fits
fits_any (Load word) = record { shown = true; own = true; other = true }
fits_any a = record { shown = true; own = true; other = false }

abbrev pub known_at : List (Option ℕ) → ℕ → Option ℕ
known_at known p = slice_index_or known p None

-- those of one copy that may have sent it
abbrev pub fits_of : Sent → Held → Fits
fits_of s h = if is_fresh h then s.home else (if is_newer h && not (may_hide s.stores s.due h) then s.news else fits_any s.act)

abbrev pub sends_by : Sent → Held → Copies
sends_by s h k = (((fits_of s h).own && leaves (acts s.stores s.act true s.goes s.due h) k) || ((fits_of s h).other && leaves (acts s.stores s.act false s.goes s.due h) k)) && (fits_of s h).shown

abbrev pub sent_of : Observed → CacheFlit → Sent
sent_of o f = record { stores = o.public.stores; act = f.act; goes = lets_go (o.public.snooped f.agent.0); due = o.public.due f.agent.0; home = fits_by f (home_at o.home); news = fits_by f o.news }

-- STEPS of one copy
abbrev pub leads_by : Step → Held → Copies
leads_by (steps.Sending s) h k = sends_by s h k
leads_by (steps.Hidden z d) h k = slips z d h k
leads_by (steps.Granted g d) h k = same_held (granted g d h) k
leads_by steps.Shown h k = same_held (shown_of h) k
leads_by steps.Apart h k = not (beside h k)
leads_by steps.SurelyApart h k = apart h k
leads_by steps.Together h k = not (apart h k)

-- TESTS of one copy
abbrev pub passes : Test → Held → Bool
passes tests.Each h = true
passes (tests.Shows g) h = shows g h
passes (tests.FillsStored g) h = fills g h && h.stored
passes tests.Left h = not (same h.copy Invalid)
passes tests.Dirty h = is_dirty h.copy
passes tests.Stored h = h.stored
passes tests.Lost h = h.stored && not (is_dirty h.copy)
passes tests.Newer h = is_newer h
passes (tests.StorableEmpty d) h = may_store d h && (is_unique h.copy && not (holds_data h.copy))
passes (tests.StorableNewer d) h = may_store d h && (is_unique h.copy && is_newer h)
passes (tests.Apart k) h = not (beside (held_is k) h)
passes tests.HomeCopy h = is_home_copy h
passes (tests.SurelyApart k) h = apart (held_is k) h
passes (tests.Together k) h = not (apart (held_is k) h)

-- what another agent may not have beside a set's copies, or not at all
abbrev pub apart_by : Copies → Bool → Copies
apart_by S alone k = image (leads_by steps.Apart) S k || (alone && not (same k.copy Invalid))

-- A LINE
abbrev pub nobody : CopiesCode
nobody = record { bits = 1 }

abbrev pub may_at : List CopiesCode → ℕ → CopiesCode
may_at may n = slice_index_or may n nobody

abbrev pub nothing_due : DueCode
nothing_due = record { 0 = 0 }

abbrev pub due_at : List DueCode → ℕ → Due
due_at due n = due_is (slice_index_or due n nothing_due)

abbrev pub snooped_at : List (Option Snoop) → ℕ → Option Snoop
snooped_at snooped n = slice_index_or snooped n None

abbrev pub observed : Line → Observed
observed s = record {
  public = record { stores = s.stores; due = λ n. due_at s.due n; snooped = λ n. snooped_at s.snooped n; duty = s.duty };
  may = λ n. members (may_at s.may n);
  home = s.home;
  news = known_at s.news;
}

-- a flit of a cache, or of the home, to an agent that is followed
abbrev pub is_taken : Observed → CacheFlit → Bool
is_taken o f = nat_lt f.agent.0 32 && takes o f

abbrev pub is_taken_home : Observed → (ℕ → Bool) → HomeFlit → Bool
is_taken_home o shown g = nat_lt g.agent.0 32 && (has_moment o shown g && takes_home o g)

-- its words are the home's, a copy isn't filled where its agent threw the value away, and it leaves all in order
abbrev pub keeps_order : Observed → HomeFlit → Bool
keeps_order o g = (not (any_of (o.may g.agent.0) (shows g.grant)) || fits_home o.home g.shown)
    && (not (any_of (o.may g.agent.0) (passes (tests.FillsStored g.grant))) && goes o g)

-- the words that are known of each copy of n that a store may be to
abbrev pub known_stored : Observed → ℕ → ℕ → Option ℕ
known_stored o n p = if any_of (o.may n) (passes (tests.StorableEmpty (o.public.due n))) then None
    else (if any_of (o.may n) (passes (tests.StorableNewer (o.public.due n))) then o.news p else of_eight (home_at o.home) p)

-- the others' copies where the home has a flit's words
abbrev pub others_may : Bool → List CopiesCode → ℕ → Copies
others_may tells may n = if tells then shown_all (members (may_at may n)) else members (may_at may n)

-- MOMENTS
abbrev pub shown_at : List Bool → ℕ → Bool
shown_at shown n = slice_index_or shown n false

abbrev pub none_stored_of : List CopiesCode → Bool
none_stored_of may = all_below 32 (λ m. not (any_of (members (may_at may m)) (passes tests.Stored)))

abbrev pub clean_beside : Copies → ℕ → ℕ → Bool
clean_beside S m n = (m == n || not (any_of S (passes tests.Dirty))) && not (any_of S (passes tests.Lost))

abbrev pub none_dirty_of : List CopiesCode → ℕ → Bool
none_dirty_of may n = all_below 32 (λ m. clean_beside (members (may_at may m)) m n)

abbrev pub moment_here : List DueCode → List CopiesCode → ℕ → Bool
moment_here due may n = if reads_once (due_at due n) then none_stored_of may else none_dirty_of may n

-- whether the request that a flit is, if it is one, is this agent's
abbrev pub issues : Option ℕ → ℕ → Bool
issues None n = false
issues (Some m) n = n == m

-- right behind a flit
abbrev pub shown_here : List DueCode → List CopiesCode → Option ℕ → Bool → ℕ → Bool
shown_here due may issuer was n = awaits_moment (due_at due n) && ((not (issues issuer n) && was) || moment_here due may n)
