-- The code's observer as what is kept of a line; a flit of either side; reasons (docs/OBSERVER.md, "What is kept", "Faults").
use Rattle.std.specs.Prelude.{ℕ, Bool, false, List, None, ◌&&◌, ◌||◌, ◌==◌, not, nat_lt, true, if◌then◌else◌}
use Rattle.std.specs.List.{slice_index_or}
use Rattle.chi_observer.specs.declared.told.Told.{Told}
use Rattle.chi_observer.specs.declared.told.Told.TheVariants.{I}
use Rattle.chi_observer.specs.declared.flits.Due.TheVariants.{Nothing}
use Rattle.chi_observer.specs.declared.flits.Stores.{Stores}
use Rattle.chi_observer.specs.declared.flits.Act.{Act}
use Rattle.chi_observer.specs.declared.flits.Grant.{Grant}
use Rattle.chi_observer.specs.declared.flits.CacheFlit.{CacheFlit}
use Rattle.chi_observer.specs.declared.flits.HomeFlit.{HomeFlit}
use Rattle.chi_observer.specs.declared.flits.Flit.{Flit}
use Rattle.chi_observer.specs.declared.flits.Flit.TheVariants.{Up, Down}
use Rattle.chi_observer.specs.declared.observer.AgentSeen.{AgentSeen}
use Rattle.chi_observer.specs.declared.observer.Observer.{Observer}
use Rattle.chi_observer.specs.declared.observer.Reason.{Reason}
use Rattle.chi_observer.specs.declared.observer.Reason.TheVariants.{NotJudged, NoAgent, NoMoment, NotSent, NotDue, Busy, NoOverwriter, NoDuty, OtherWords, Lost, OtherCopy}
use Rattle.chi_observer.specs.Copies.{compatible, is_dirty, same}
use Rattle.chi_observer.specs.Copies.Copy.{Invalid}
use Rattle.chi_observer.specs.Judged.{is_judged}
use Rattle.chi_observer.specs.Rules.{allows, awaits_moment, reads_once, due_after, snooped_after, lets_go, overwrites, needs_overwriter, is_due, needs_duty, needs_quiet, is_busy, due_granted, snooped_granted}
use Rattle.chi_observer.specs.Tables.{Known, strongest, is_cancelled, told_behind, fits_told, told_by, cancelled_by, fills_told, shows_told}
use Rattle.chi_observer.specs.Worlds.{all_below, is_overwritten}
use Rattle.chi_observer.specs.Runs.{nothing_told}
use Rattle.chi_observer.specs.Observed.{Observed, words_fit, takes, takes_home, fits, goes}
use Rattle.chi_observer.specs.Moments.{after_as, has_moment, is_issue, may_be_dirty, may_be_stored, opens_moment, shown_after, tells_of, waits_after}

abbrev pub nobody : AgentSeen
nobody = record { told = I; cancelled = false; due = Nothing; snooped = None }

abbrev pub agent_of : List AgentSeen → ℕ → AgentSeen
agent_of agents n = slice_index_or agents n nobody

abbrev pub known_of : AgentSeen → Known
known_of a = record { told = a.told; cancelled = a.cancelled }

abbrev pub observed : Observer → Observed
observed s = record {
  public = record { stores = s.stores; due = λ n. (agent_of s.agents n).due; snooped = λ n. (agent_of s.agents n).snooped; duty = s.duty; thrown = s.thrown };
  told = λ n. known_of (agent_of s.agents n);
  home = s.home;
  current = s.current;
}

-- all that is kept: what is told, and the moments of those whose CleanShared or ReadOnce is open, if there may be some
pub record Watched : Type 0 where
  pub seen : Observed
  pub waits : Bool
  pub shown : ℕ → Bool

abbrev pub shown_of : List Bool → ℕ → Bool
shown_of shown n = slice_index_or shown n false

abbrev pub nothing_watched : Stores → Watched
nothing_watched z = record { seen = nothing_told z; waits = false; shown = λ _. false }

abbrev pub watched : Observer → Watched
watched s = record { seen = observed s; waits = s.waits; shown = λ n. shown_of s.shown n }

-- a flit of either side
abbrev pub takes_flit : Watched → Flit → Bool
takes_flit s (Up f) = nat_lt f.agent.0 32 && takes s.seen f
takes_flit s (Down g) = nat_lt g.agent.0 32 && (has_moment s.seen s.shown g && takes_home s.seen g)

abbrev pub is_taken : Watched → Flit → Bool
is_taken s f = is_judged f && takes_flit s f

abbrev pub watch_as : Watched → Flit → Bool → Watched
watch_as s e d =
    let o : Observed = after_as s.seen e d in
    let waits : Bool = waits_after o e s.waits in
    record { seen = o; waits = waits; shown = λ n. waits && shown_after o e s.shown n }

abbrev pub watch : Watched → Flit → Watched
watch s e = watch_as s e false

-- which reasons hold of a flit that is judged
abbrev pub is_sent_reason : Observed → CacheFlit → Reason → Bool
is_sent_reason o f NoAgent = not (nat_lt f.agent.0 32)
is_sent_reason o f NotSent = not (allows f.act (o.public.snooped f.agent.0) && fits_told o.public.stores f.act (lets_go (o.public.snooped f.agent.0)) (o.public.due f.agent.0) (o.told f.agent.0))
is_sent_reason o f OtherWords = not (words_fit o f)
is_sent_reason o f other = false

abbrev pub is_given_reason : Observed → HomeFlit → Reason → Bool
is_given_reason o g NoAgent = not (nat_lt g.agent.0 32)
is_given_reason o g NotDue = not (is_due g.grant (o.public.due g.agent.0) (o.public.snooped g.agent.0))
is_given_reason o g NoDuty = needs_duty g.grant && not o.public.duty
is_given_reason o g Busy = needs_quiet g.grant && not (all_below 32 (λ m. not (is_busy (o.public.due m))))
is_given_reason o g OtherWords = shows_told g.grant (o.told g.agent.0) && not (fits o.home g.shown)
is_given_reason o g NoOverwriter = needs_overwriter g.grant && not (is_overwritten o.public g.agent.0)
is_given_reason o g Lost = fills_told g.grant (o.told g.agent.0) && not o.current
is_given_reason o g OtherCopy = not (goes o g)
is_given_reason o g other = false

abbrev pub lacks_moment : Watched → HomeFlit → Reason → Bool
lacks_moment s g NoMoment = not (has_moment s.seen s.shown g)
lacks_moment s g other = false

abbrev pub is_judged_reason : Watched → Flit → Reason → Bool
is_judged_reason s (Up f) r = is_sent_reason s.seen f r
is_judged_reason s (Down g) r = is_given_reason s.seen g r || lacks_moment s g r

abbrev pub is_unjudged : Reason → Bool
is_unjudged NotJudged = true
is_unjudged other = false

abbrev pub is_reason : Watched → Flit → Reason → Bool
is_reason s f r = if is_judged f then is_judged_reason s f r else is_unjudged r

-- one agent, behind a flit of its cache, and of the home to it
abbrev pub agent_after : Act → AgentSeen → Bool → AgentSeen
agent_after act a differ = record { told = told_behind act a.due a.told; cancelled = is_cancelled act a.due (known_of a) differ; due = due_after act a.due; snooped = snooped_after act a.snooped }

abbrev pub agent_granted : Grant → AgentSeen → AgentSeen
agent_granted grant a = record { told = told_by grant a.due a.told; cancelled = cancelled_by grant a.cancelled; due = due_granted grant a.due; snooped = snooped_granted grant a.snooped }

abbrev pub is_quiet : List AgentSeen → Bool
is_quiet agents = all_below 32 (λ m. not (is_busy (agent_of agents m).due))

-- a request of another agent is open for which a copy may be thrown away
abbrev pub none_overwrites : List AgentSeen → ℕ → Bool
none_overwrites agents n = all_below 32 (λ m. m == n || not (overwrites (agent_of agents m).due))

-- two agents' copies may have been told so, and the other is none where the first has to be alone
abbrev pub goes_beside : Told → Bool → Told → Bool
goes_beside t alone u = compatible (strongest t) (strongest u) && (not alone || same (strongest u) Invalid)

abbrev pub stands_beside : List AgentSeen → ℕ → Told → Bool → Bool
stands_beside agents n t alone = all_below 32 (λ m. m == n || goes_beside t alone (agent_of agents m).told)

-- right behind the flit no other agent's copy can be dirty, or none can have been stored to; and what is kept of an agent's
-- moments then
abbrev pub is_clean_beside : Stores → AgentSeen → ℕ → ℕ → Flit → Bool
is_clean_beside z a m n e = m == n || not (may_be_dirty z a.due (known_of a) (tells_of e m))

abbrev pub none_dirty_of : Stores → List AgentSeen → Flit → ℕ → Bool
none_dirty_of z agents e n = all_below 32 (λ m. is_clean_beside z (agent_of agents m) m n e)

abbrev pub is_cleaned_of : Stores → List AgentSeen → Bool → Flit → ℕ → Bool
is_cleaned_of z agents current e n = (is_dirty (strongest (agent_of agents n).told) || current) && none_dirty_of z agents e n

abbrev pub none_stored_of : Stores → List AgentSeen → Flit → Bool
none_stored_of z agents e = all_below 32 (λ m. not (may_be_stored z (agent_of agents m).due (known_of (agent_of agents m)) (tells_of e m)))

abbrev pub moment_here : Stores → List AgentSeen → Bool → Flit → ℕ → Bool
moment_here z agents current e n = if reads_once (agent_of agents n).due then current && none_stored_of z agents e else is_cleaned_of z agents current e n

abbrev pub shown_here : Stores → List AgentSeen → Bool → Flit → Bool → ℕ → Bool
shown_here z agents current e was n = awaits_moment (agent_of agents n).due && ((not (is_issue e n) && was) || moment_here z agents current e n)

abbrev pub none_waits : List AgentSeen → Bool
none_waits agents = all_below 32 (λ m. not (awaits_moment (agent_of agents m).due))

abbrev pub waits_here : List AgentSeen → Flit → Bool → Bool
waits_here agents e waits = opens_moment e || (waits && not (none_waits agents))
