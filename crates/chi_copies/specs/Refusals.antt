-- Why a flit isn't taken: the first row that is so (docs/COPIES.md, "What is kept").
use Rattle.std.specs.Prelude.{ℕ, Bool, ◌&&◌, not, nat_lt, Option, Some, None, if◌then◌else◌}
use Rattle.chi_observer.specs.declared.flits.CacheFlit.{CacheFlit}
use Rattle.chi_observer.specs.declared.flits.HomeFlit.{HomeFlit}
use Rattle.chi_observer.specs.Rules.{is_busy, is_due, needs_duty, needs_overwriter, needs_quiet}
use Rattle.chi_copies.specs.declared.line.Reason.{Reason}
use Rattle.chi_copies.specs.declared.line.Reason.TheVariants.{NoAgent, NotSent, NotDue, NoDuty, Busy, NoOverwriter, OtherWords, NoMoment, Lost, OtherCopy}
use Rattle.chi_copies.specs.Rules.{fills, shows}
use Rattle.chi_copies.specs.Worlds.{all_below, is_overwritten}
use Rattle.chi_copies.specs.Moments.{has_moment}
use Rattle.chi_copies.specs.Observed.{Observed, any_of, fits_home, goes, takes}

abbrev pub refused_if : Bool → Reason → Option Reason → Option Reason
refused_if b reason rest = if b then Some reason else rest

-- a flit of a cache
abbrev pub refusal : Observed → CacheFlit → Option Reason
refusal o f =
    refused_if (not (nat_lt f.agent.0 32)) NoAgent (
    refused_if (not (takes o f)) NotSent None)

-- a flit of the home: by what the flits say of requests and answers
abbrev pub due_refusal : Observed → HomeFlit → Option Reason → Option Reason
due_refusal o g rest =
    refused_if (not (is_due g.grant (o.public.due g.agent.0) (o.public.snooped g.agent.0))) NotDue (
    refused_if (needs_duty g.grant && not o.public.duty) NoDuty (
    refused_if (needs_quiet g.grant && not (all_below 32 (λ m. not (is_busy (o.public.due m))))) Busy (
    refused_if (needs_overwriter g.grant && not (is_overwritten o.public g.agent.0)) NoOverwriter rest)))

-- by the copies
abbrev pub copy_refusal : Observed → HomeFlit → Option Reason
copy_refusal o g =
    refused_if (any_of (o.may g.agent.0) (shows g.grant) && not (fits_home o.home g.shown)) OtherWords (
    refused_if (any_of (o.may g.agent.0) (λ h. fills g.grant h && h.stored)) Lost (
    refused_if (not (goes o g)) OtherCopy None))

abbrev pub home_refusal : Observed → (ℕ → Bool) → HomeFlit → Option Reason
home_refusal o shown g =
    refused_if (not (nat_lt g.agent.0 32)) NoAgent (
    refused_if (not (has_moment o shown g)) NoMoment (
    due_refusal o g (copy_refusal o g)))
