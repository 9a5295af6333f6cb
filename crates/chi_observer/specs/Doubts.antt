-- Requests that are held, as what they may tell at most: the copies that caches may have even so, and what the home may know
-- (docs/OBSERVER.md, "Seen at the home").
use Rattle.std.specs.Prelude.{ℕ, Bool, true, false, ◌&&◌, ◌||◌, not, replicate, if◌then◌else◌}
use Rattle.chi_observer.specs.declared.kinds.Kind.{Kind}
use Rattle.chi_observer.specs.declared.kinds.Kind.TheVariants.{WriteCleanFull}
use Rattle.chi_observer.specs.declared.told.Told.{Told}
use Rattle.chi_observer.specs.declared.told.Told.TheVariants.{I}
use Rattle.chi_observer.specs.declared.flits.Due.{Due}
use Rattle.chi_observer.specs.declared.flits.Due.TheVariants.{Completion, WriteData}
use Rattle.chi_observer.specs.declared.observer.AgentSeen.{AgentSeen}
use Rattle.chi_observer.specs.declared.arriving.Held.{Held}
use Rattle.chi_observer.specs.declared.arriving.Held.TheVariants as helds
use Rattle.chi_observer.specs.declared.arriving.Earlier.{Earlier}
use Rattle.chi_observer.specs.declared.arriving.Arriving.{Arriving}
use Rattle.chi_observer.specs.Tables.{fits_issue, told_issued}
use Rattle.chi_observer.specs.Worlds.{all_below}
use Rattle.chi_observer.specs.Lines.{Watched, shown_of}
use Rattle.chi_observer.specs.Arriving.{holds_none, issued_before, left_by_data}

-- THE COPY
-- an answer is awaited, which the cache needn't have given: from a copy that the request is sent from it leaves what that
-- leaves; one that was sent before the last answers leaves the copy as it is told; else the answer was given, and there may be
-- no copy
abbrev pub told_ahead : Kind → Earlier → Told → Told
told_ahead kind e t = if fits_issue kind true t then told_issued kind t else (if issued_before e kind then t else I)

-- write data are awaited: the request was sent behind them
abbrev pub told_open : Kind → Earlier → Due → Told → Told
told_open kind e (WriteData asked) t = told_issued kind (left_by_data asked t)
told_open kind e other t = told_ahead kind e t

-- of one that was retried or completed there may be no copy
abbrev pub told_held : Held → Earlier → Due → Told → Told
told_held helds.Nothing e d t = t
told_held (helds.Open kind) e d t = told_open kind e d t
told_held other e d t = I

-- THE REQUEST
-- it is open, and the home may throw copies away for it; while write data are awaited these are due first
abbrev pub due_open : Kind → Due → Due
due_open kind (WriteData asked) = WriteData asked
due_open kind other = Completion kind

abbrev pub due_held : Held → Due → Due
due_held (helds.Open kind) d = due_open kind d
due_held other d = d

-- THE VALUE
-- the copy that is given up by it wasn't stored to: not while it was unsure, nor before it was thrown away, nor behind the data
-- of a WriteCleanFull, which were the home's words
abbrev pub is_cleaning : Due → Bool
is_cleaning (WriteData WriteCleanFull) = true
is_cleaning other = false

abbrev pub is_maybe_unstored : Arriving → Due → Bool
is_maybe_unstored own d = own.unsure || (own.earlier.thrown || (own.current && is_cleaning d))

abbrev pub may_tell_value : Arriving → Due → Bool
may_tell_value own d = not (holds_none own.held) && is_maybe_unstored own d

-- THE LINE
abbrev pub supposed_agent : Arriving → AgentSeen → AgentSeen
supposed_agent own a = record { told = told_held own.held own.earlier a.due a.told; cancelled = a.cancelled; due = due_held own.held a.due; snooped = a.snooped }

-- where each request that is held counts as sent, with all that it may tell; and there was each moment that one may tell of
abbrev pub supposed : Watched → (ℕ → Arriving) → Watched
supposed w own = record {
  seen = record {
    public = record { stores = w.seen.public.stores; due = λ n. due_held (own n).held (w.seen.public.due n); snooped = w.seen.public.snooped; duty = w.seen.public.duty; thrown = w.seen.public.thrown };
    told = λ n. record { told = told_held (own n).held (own n).earlier (w.seen.public.due n) (w.seen.told n).told; cancelled = (w.seen.told n).cancelled };
    home = w.seen.home;
    current = w.seen.current || not (all_below 32 (λ n. not (may_tell_value (own n) (w.seen.public.due n))));
  };
  waits = w.waits;
  shown = λ n. shown_of (replicate 32 true) n;
}
