-- The observer of a line whose flits are logged at the home: what a flit is taken as, and what is kept then
-- (docs/OBSERVER.md, "Seen at the home"). It is told of requests behind what their agents sent first.
use Rattle.std.specs.Prelude.{ℕ, Bool, true, false, List, ◌&&◌, ◌||◌, ◌==◌, not, nat_le, nat_lt, Result, Ok, Err, if◌then◌else◌}
use Rattle.std.specs.List.{slice_index_or}
use Rattle.chi_flit.specs.declared.state.State.TheVariants as states
use Rattle.chi_observer.specs.declared.kinds.Kind.{Kind}
use Rattle.chi_observer.specs.declared.kinds.Kind.TheVariants.{Evict}
use Rattle.chi_observer.specs.declared.told.Told.{Told}
use Rattle.chi_observer.specs.declared.told.Told.TheVariants as tolds
use Rattle.chi_observer.specs.declared.flits.Due.{Due}
use Rattle.chi_observer.specs.declared.flits.Due.TheVariants.{Nothing, Completion, Acknowledgement}
use Rattle.chi_observer.specs.declared.flits.Stores.TheVariants.{Hidden}
use Rattle.chi_observer.specs.declared.flits.Act.{Act}
use Rattle.chi_observer.specs.declared.flits.Act.TheVariants.{Request, Resend, SnpResp, CompAck, CopyBackWrData, NonCopyBackWrData, Load, Store}
use Rattle.chi_observer.specs.declared.flits.CacheFlit.{CacheFlit}
use Rattle.chi_observer.specs.declared.flits.HomeFlit.{HomeFlit}
use Rattle.chi_observer.specs.declared.flits.Flit.{Flit}
use Rattle.chi_observer.specs.declared.flits.Flit.TheVariants.{Up, Down}
use Rattle.chi_observer.specs.declared.observer.AgentSeen.{AgentSeen}
use Rattle.chi_observer.specs.declared.observer.Reason.TheVariants.{NotJudged, NoAgent, NotSent, Busy}
use Rattle.chi_observer.specs.declared.arriving.Held.{Held}
use Rattle.chi_observer.specs.declared.arriving.Held.TheVariants as helds
use Rattle.chi_observer.specs.declared.arriving.Earlier.{Earlier}
use Rattle.chi_observer.specs.declared.arriving.Arriving.{Arriving}
use Rattle.chi_observer.specs.declared.arriving.Turn.{Turn}
use Rattle.chi_observer.specs.declared.arriving.Turn.TheVariants as turns
use Rattle.chi_observer.specs.declared.arriving.Bearing.{Bearing}
use Rattle.chi_observer.specs.declared.arriving.Bearing.TheVariants as bearings
use Rattle.chi_observer.specs.declared.arrivals.Arrivals.{Arrivals}
use Rattle.chi_observer.specs.declared.arrivals.Aside.TheVariants as asides
use Rattle.chi_observer.specs.declared.arrivals.Untaken.{Untaken}
use Rattle.chi_observer.specs.declared.arrivals.Untaken.TheVariants.{Fault, SetAside}
use Rattle.chi_observer.specs.Copies.{is_unique}
use Rattle.chi_observer.specs.Rules.{is_timed, lets_go, may_be_free, needs_moment, needs_quiet}
use Rattle.chi_observer.specs.Tables.{Known, fits_form, fits_issue, kind_tells_dirty, strongest}
use Rattle.chi_observer.specs.Worlds.{Public, all_below, put}
use Rattle.chi_observer.specs.Lines.{Watched, is_reason, is_taken, nothing_watched, watch, watched}
use Rattle.chi_observer.specs.Doubts.{supposed}
use Rattle.chi_observer.specs.Arriving.{bearing_of, earlier_after, earlier_of, holds_none, is_clean_by, is_unlost, issued_before, may_be_sent, nobody_arriving, own_acknowledged, own_granted, own_holding, own_issued, own_resent, own_told, timed_after, turn_of}

-- what is kept: what flits have told, of each agent what may be on its way, and how many CleanShared and ReadOnce have come
pub record Arrived : Type 0 where
  pub line : Watched
  pub own : ℕ → Arriving
  pub timed : ℕ

abbrev pub arriving_of : List Arriving → ℕ → Arriving
arriving_of agents n = slice_index_or agents n nobody_arriving

abbrev pub arrived : Arrivals → Arrived
arrived a = record { line = watched a.seen; own = λ n. arriving_of a.agents n; timed = a.timed }

abbrev pub nothing_arrived : Arrived
nothing_arrived = record { line = nothing_watched Hidden; own = λ _. nobody_arriving; timed = 0 }

-- what comes of a flit: it is taken, and this is kept then; it isn't; or the line is set aside
pub data Outcome : Type 0 where
  Taken : Arrived → Outcome
  NotTaken : Outcome
  LeftOpen : Outcome

abbrev pub taken_if : Bool → Arrived → Outcome
taken_if b s = if b then Taken s else NotTaken

abbrev pub outcome_of : Result (Unit {0}) Untaken → Arrived → Outcome
outcome_of (Ok done) s = Taken s
outcome_of (Err (Fault reason)) s = NotTaken
outcome_of (Err (SetAside aside)) s = LeftOpen

-- one thing is changed of an agent
abbrev pub with_own : Arrived → ℕ → Arriving → Arrived
with_own s n own = record { line = s.line; own = put n own s.own; timed = s.timed }

abbrev pub due_public : Public → ℕ → Due → Public
due_public p n d = record { stores = p.stores; due = put n d p.due; snooped = p.snooped; duty = p.duty; thrown = p.thrown }

abbrev pub with_due : Watched → ℕ → Due → Watched
with_due w n d = record { seen = record { public = due_public w.seen.public n d; told = w.seen.told; home = w.seen.home; current = w.seen.current }; waits = w.waits; shown = w.shown }

abbrev pub known_as : Known → Told → Known
known_as k t = record { told = t; cancelled = k.cancelled }

abbrev pub with_told : Watched → ℕ → Told → Watched
with_told w n t = record { seen = record { public = w.seen.public; told = put n (known_as (w.seen.told n) t) w.seen.told; home = w.seen.home; current = w.seen.current }; waits = w.waits; shown = w.shown }

abbrev pub with_current : Watched → Bool → Watched
with_current w c = record { seen = record { public = w.seen.public; told = w.seen.told; home = w.seen.home; current = c }; waits = w.waits; shown = w.shown }

abbrev pub with_shown : Watched → (ℕ → Bool) → Watched
with_shown w shown = record { seen = w.seen; waits = w.waits; shown = shown }

abbrev pub with_line : Arrived → Watched → Arrived
with_line s w = record { line = w; own = s.own; timed = s.timed }

-- REQUESTS
-- nothing lists the stores: one that may have been sent before the last answers, and can't come from what the copy may be
-- now: what is told stays
abbrev pub is_from_before : Watched → ℕ → Kind → Earlier → Bool
is_from_before w n k e = issued_before e k && not (fits_issue k true (w.seen.told n).told)

abbrev pub line_takes : Watched → CacheFlit → Kind → Earlier → Bool
line_takes w f k e = is_from_before w f.agent.0 k e || is_taken w (Up f)

-- it tells that no value is lost which seemed to be
abbrev pub is_unlost_at : Watched → ℕ → Kind → Earlier → Bool
is_unlost_at w n k e = is_from_before w n k e && is_unlost e k

abbrev pub line_issued : Watched → CacheFlit → Kind → Earlier → Watched
line_issued w f k e = if is_from_before w f.agent.0 k e then with_due w f.agent.0 (Completion k) else watch w (Up f)

-- a copy-back that may come from a dirty copy before the last answer, or from one that is stored to since
abbrev pub leaves_unsure : Earlier → Kind → Told → Bool
leaves_unsure e k t = issued_before e k && (kind_tells_dirty k && fits_form states.UC t)

abbrev pub issued_state : Arrived → Watched → CacheFlit → Kind → Earlier → Bool → Arrived
issued_state s w f k e delayed = record {
  line = line_issued w f k e;
  own = put f.agent.0 (own_issued (s.own f.agent.0) (timed_after s.timed k) (leaves_unsure e k (w.seen.told f.agent.0).told) delayed) s.own;
  timed = timed_after s.timed k;
}

abbrev pub issued : Arrived → Watched → CacheFlit → Kind → Earlier → Bool → Outcome
issued s w f k e delayed = if is_unlost_at w f.agent.0 k e then LeftOpen else taken_if (line_takes w f k e) (issued_state s w f k e delayed)

abbrev pub by_turn : Turn → Arrived → CacheFlit → Kind → Outcome
by_turn turns.Now s f k = issued s s.line f k (s.own f.agent.0).earlier false
by_turn turns.Later s f k = Taken (with_own s f.agent.0 (own_holding (s.own f.agent.0) (helds.Open k)))
by_turn turns.Never s f k = NotTaken
by_turn turns.Unknown s f k = LeftOpen

abbrev pub turn_at : Arrived → ℕ → Kind → Turn
turn_at s n k = turn_of (s.own n) (s.line.seen.public.due n) (s.line.seen.public.snooped n) (s.line.seen.told n).told k

abbrev pub requested : Arrived → CacheFlit → Kind → Outcome
requested s f k = by_turn (turn_at s f.agent.0 k) s f k

-- a request that is sent again: in either order with an answer it leaves the same
abbrev pub again_held : Held → Arrived → CacheFlit → Outcome
again_held helds.Nothing s f = taken_if (is_taken s.line (Up f)) (with_own (with_line s (watch s.line (Up f))) f.agent.0 (own_resent (s.own f.agent.0)))
again_held (helds.Open k) s f = NotTaken
again_held other s f = LeftOpen

abbrev pub again : Arrived → CacheFlit → Outcome
again s f = again_held (s.own f.agent.0).held s f

-- CompAck
abbrev pub acknowledged : Arrived → CacheFlit → Outcome
acknowledged s f = if (s.own f.agent.0).acks == 0 then NotTaken else Taken (with_own s f.agent.0 (own_acknowledged (s.own f.agent.0)))

-- ANSWERS AND WRITE DATA
-- a copy that may be clean, where they tell so
abbrev pub told_if : Bool → Told → Told
told_if clean t = if clean then tolds.UC else t

abbrev pub is_clean_at : Arrived → CacheFlit → Bool
is_clean_at s f = is_clean_by (s.own f.agent.0) f.act (lets_go (s.line.seen.public.snooped f.agent.0))

abbrev pub settled : Arrived → CacheFlit → Watched
settled s f = with_told (with_current s.line (s.line.seen.current || ((s.own f.agent.0).current || is_clean_at s f))) f.agent.0 (told_if (is_clean_at s f) (s.line.seen.told f.agent.0).told)

-- behind an answer or write data that may have been sent before a CleanShared or a ReadOnce, or a store since, there is no
-- moment of that request
abbrev pub drifts : AgentSeen → Bool
drifts a = may_be_free a.due && is_unique (strongest a.told)

abbrev pub drifts_at : Watched → ℕ → Bool
drifts_at w n = may_be_free (w.seen.public.due n) && is_unique (strongest (w.seen.told n).told)

abbrev pub is_sure : Bool → Bool → Bool → ℕ → ℕ → Bool
is_sure drifting was own since asked = not drifting || (was || (own || nat_le since asked))

abbrev pub sure_shown : Bool → (ℕ → Bool) → (ℕ → Bool) → (ℕ → Arriving) → ℕ → ℕ → Bool
sure_shown drifting shown was own at n = shown n && is_sure drifting (was n) (n == at) (own n).since (own at).asked

abbrev pub surely_shown : Watched → (ℕ → Bool) → (ℕ → Arriving) → ℕ → ℕ → Bool
surely_shown w was own at n = sure_shown (drifts_at w at) w.shown was own at n

abbrev pub answered : Arrived → Watched → CacheFlit → Watched
answered s w f = with_shown w (λ n. surely_shown w s.line.shown s.own f.agent.0 n)

-- what is told behind it, where w was before
abbrev pub answered_line : Arrived → Watched → CacheFlit → Watched
answered_line s w f = answered s (watch w (Up f)) f

abbrev pub earlier_at : Arrived → CacheFlit → Earlier
earlier_at s f =
    let w : Watched = settled s f in
    let goes : Bool = lets_go (w.seen.public.snooped f.agent.0) in
    earlier_after f.act goes (w.seen.public.due f.agent.0) (w.seen.told f.agent.0).told (earlier_of (s.own f.agent.0) f.act goes)

abbrev pub request_of : CacheFlit → Kind → CacheFlit
request_of f k = record { agent = f.agent; act = Request k; shown = f.shown }

abbrev pub ended : Outcome → ℕ → Outcome
ended (Taken s) n = Taken (with_line s (with_due s.line n Nothing))
ended NotTaken n = NotTaken
ended LeftOpen n = LeftOpen

-- an Evict that was completed meanwhile
abbrev pub evicted : Arrived → Watched → CacheFlit → Earlier → Outcome
evicted s w f e = ended (issued s w (request_of f Evict) Evict e false) f.agent.0

-- and then the request is judged that was held for them
abbrev pub played : Held → Arrived → Watched → CacheFlit → Earlier → Outcome
played helds.Nothing s w f e = Taken (with_own (with_line s w) f.agent.0 (own_told (s.own f.agent.0) e))
played (helds.Open k) s w f e = issued s w (request_of f k) k e (is_timed k)
played helds.Evicted s w f e = evicted s w f e
played helds.Retried s w f e = LeftOpen

abbrev pub awaited : Arrived → CacheFlit → Outcome
awaited s f = if is_taken (settled s f) (Up f) then played (s.own f.agent.0).held s (answered_line s (settled s f) f) f (earlier_at s f) else NotTaken

abbrev pub sent_outcome : Act → Arrived → CacheFlit → Outcome
sent_outcome (Request k) s f = requested s f k
sent_outcome (Resend k) s f = again s f
sent_outcome CompAck s f = acknowledged s f
sent_outcome (SnpResp answer) s f = awaited s f
sent_outcome (CopyBackWrData form) s f = awaited s f
sent_outcome NonCopyBackWrData s f = awaited s f
sent_outcome (Load word) s f = NotTaken
sent_outcome (Store word) s f = NotTaken

-- FLITS OF THE HOME
abbrev pub all_acknowledged : List Arriving → Bool
all_acknowledged agents = all_below 32 (λ n. (arriving_of agents n).acks == 0)

abbrev pub none_held : List Arriving → Bool
none_held agents = all_below 32 (λ n. holds_none (arriving_of agents n).held)

abbrev pub is_busy_at : Arrived → HomeFlit → Bool
is_busy_at s g = needs_quiet g.grant && not (all_below 32 (λ n. (s.own n).acks == 0))

-- a CompAck counts as sent with its completion
abbrev pub due_acknowledged : Due → Due
due_acknowledged Acknowledgement = Nothing
due_acknowledged d = d

abbrev pub granted_line : Watched → HomeFlit → Watched
granted_line w g = with_due (with_current w (w.seen.current && not (may_be_sent (w.seen.public.due g.agent.0) (w.seen.told g.agent.0).told g.grant))) g.agent.0 (due_acknowledged (w.seen.public.due g.agent.0))

abbrev pub granted_own : Arrived → Watched → HomeFlit → Arriving
granted_own s w g = own_granted (s.own g.agent.0) (w.seen.public.due g.agent.0) (w.seen.told g.agent.0).told g.grant s.timed w.seen.current

abbrev pub granted_state : Arrived → Watched → HomeFlit → Arrived
granted_state s w g = with_own (with_line s (granted_line w g)) g.agent.0 (granted_own s w g)

-- no CompAck more is counted
abbrev pub is_full : ℕ → Bool
is_full acks = nat_le 255 acks

-- a request that is held bears on what the home may send: one of the line, or a moment may have been while the agent's own
-- CleanShared or ReadOnce was
abbrev pub is_late_at : Arrived → HomeFlit → Bool
is_late_at s g = not (all_below 32 (λ m. holds_none (s.own m).held)) || ((s.own g.agent.0).delayed && needs_moment g.grant (s.line.seen.public.due g.agent.0))

-- the line as those requests may tell it, where they bear on the flit
abbrev pub line_at_most : Arrived → HomeFlit → Watched
line_at_most s g = if is_late_at s g then supposed s.line s.own else s.line

-- each rule that the flit breaks rests on an agent that holds a request: as they may tell the line, it breaks none
abbrev pub is_doubtful : Arrived → HomeFlit → Bool
is_doubtful s g = is_late_at s g && is_taken (supposed s.line s.own) (Down g)

abbrev pub left_if : Bool → Outcome
left_if b = if b then LeftOpen else NotTaken

abbrev pub told_given : Arrived → HomeFlit → Outcome
told_given s g = if is_full (s.own g.agent.0).acks then LeftOpen else (if is_busy_at s g then NotTaken else (if is_taken s.line (Down g) then Taken (granted_state s (watch s.line (Down g)) g) else left_if (is_doubtful s g)))

abbrev pub by_bearing : Bearing → Arrived → HomeFlit → Outcome
by_bearing bearings.Told s g = told_given s g
by_bearing bearings.Retries s g = Taken (with_own s g.agent.0 (own_holding (s.own g.agent.0) helds.Retried))
by_bearing bearings.Ends s g = Taken (with_own s g.agent.0 (own_holding (s.own g.agent.0) helds.Evicted))
by_bearing bearings.Unknown s g = LeftOpen

abbrev pub bearing_at : Arrived → HomeFlit → Bearing
bearing_at s g = bearing_of (s.own g.agent.0).held (s.line.seen.public.snooped g.agent.0) g.grant

abbrev pub given : Arrived → HomeFlit → Outcome
given s g = by_bearing (bearing_at s g) s g

-- A FLIT
abbrev pub outcome_within : Arrived → Flit → Outcome
outcome_within s (Up f) = if nat_lt f.agent.0 32 then sent_outcome f.act s f else NotTaken
outcome_within s (Down g) = if nat_lt g.agent.0 32 then given s g else NotTaken

abbrev pub outcome : Arrived → Flit → Outcome
outcome s e = if s.timed == 4294967295 then LeftOpen else outcome_within s e

-- WHY ONE ISN'T TAKEN
abbrev pub is_no_agent : Untaken → Bool
is_no_agent (Fault NoAgent) = true
is_no_agent other = false

abbrev pub is_not_sent : Untaken → Bool
is_not_sent (Fault NotSent) = true
is_not_sent other = false

abbrev pub is_not_judged : Untaken → Bool
is_not_judged (Fault NotJudged) = true
is_not_judged other = false

abbrev pub is_busy_fault : Untaken → Bool
is_busy_fault (Fault Busy) = true
is_busy_fault other = false

abbrev pub is_two_requests : Untaken → Bool
is_two_requests (SetAside asides.TwoRequests) = true
is_two_requests other = false

abbrev pub is_uncounted : Untaken → Bool
is_uncounted (SetAside asides.Uncounted) = true
is_uncounted other = false

abbrev pub is_earlier_data : Untaken → Bool
is_earlier_data (SetAside asides.EarlierData) = true
is_earlier_data other = false

abbrev pub is_thrown : Untaken → Bool
is_thrown (SetAside asides.Thrown) = true
is_thrown other = false

abbrev pub is_retried : Untaken → Bool
is_retried (SetAside asides.Retried) = true
is_retried other = false

-- a rule is broken, as the observer has been told
abbrev pub is_fault_of : Watched → Flit → Untaken → Bool
is_fault_of w e (Fault reason) = is_reason w e reason
is_fault_of w e (SetAside aside) = false

abbrev pub is_untaken_issue : Watched → CacheFlit → Kind → Earlier → Untaken → Bool
is_untaken_issue w f k e u = if is_unlost_at w f.agent.0 k e then is_thrown u else is_fault_of w (Up f) u

abbrev pub is_untaken_turn : Turn → Arrived → CacheFlit → Kind → Untaken → Bool
is_untaken_turn turns.Now s f k u = is_untaken_issue s.line f k (s.own f.agent.0).earlier u
is_untaken_turn turns.Later s f k u = false
is_untaken_turn turns.Never s f k u = is_not_sent u
is_untaken_turn turns.Unknown s f k u = is_two_requests u

abbrev pub is_untaken_requested : Arrived → CacheFlit → Kind → Untaken → Bool
is_untaken_requested s f k u = is_untaken_turn (turn_at s f.agent.0 k) s f k u

abbrev pub is_untaken_held : Held → Arrived → CacheFlit → Untaken → Bool
is_untaken_held helds.Nothing s f u = is_fault_of s.line (Up f) u
is_untaken_held (helds.Open k) s f u = is_not_sent u
is_untaken_held other s f u = is_two_requests u

abbrev pub is_untaken_again : Arrived → CacheFlit → Untaken → Bool
is_untaken_again s f u = is_untaken_held (s.own f.agent.0).held s f u

abbrev pub is_untaken_evicted : Watched → CacheFlit → Earlier → Untaken → Bool
is_untaken_evicted w f e u = is_untaken_issue w (request_of f Evict) Evict e u

abbrev pub is_untaken_played : Held → Watched → CacheFlit → Earlier → Untaken → Bool
is_untaken_played helds.Nothing w f e u = false
is_untaken_played (helds.Open k) w f e u = is_untaken_issue w (request_of f k) k e u
is_untaken_played helds.Evicted w f e u = is_untaken_evicted w f e u
is_untaken_played helds.Retried w f e u = is_retried u

abbrev pub is_untaken_awaited : Arrived → CacheFlit → Untaken → Bool
is_untaken_awaited s f u = if is_taken (settled s f) (Up f) then is_untaken_played (s.own f.agent.0).held (answered_line s (settled s f) f) f (earlier_at s f) u else is_fault_of (settled s f) (Up f) u

abbrev pub is_untaken_sent : Act → Arrived → CacheFlit → Untaken → Bool
is_untaken_sent (Request k) s f u = is_untaken_requested s f k u
is_untaken_sent (Resend k) s f u = is_untaken_again s f u
is_untaken_sent CompAck s f u = is_not_sent u
is_untaken_sent (SnpResp answer) s f u = is_untaken_awaited s f u
is_untaken_sent (CopyBackWrData form) s f u = is_untaken_awaited s f u
is_untaken_sent NonCopyBackWrData s f u = is_untaken_awaited s f u
is_untaken_sent (Load word) s f u = is_not_judged u
is_untaken_sent (Store word) s f u = is_not_judged u

-- a rule that it breaks as the line is told, whose agents hold requests; or one that it breaks whatever these tell
abbrev pub is_untaken_line : Arrived → HomeFlit → Untaken → Bool
is_untaken_line s g (Fault reason) = is_reason (line_at_most s g) (Down g) reason && not (is_doubtful s g)
is_untaken_line s g (SetAside (asides.HeldRequest reason)) = is_reason s.line (Down g) reason && is_doubtful s g
is_untaken_line s g (SetAside other) = false

abbrev pub is_untaken_told : Arrived → HomeFlit → Untaken → Bool
is_untaken_told s g u = if is_full (s.own g.agent.0).acks then is_uncounted u else (if is_busy_at s g then is_busy_fault u else is_untaken_line s g u)

abbrev pub is_untaken_bearing : Bearing → Arrived → HomeFlit → Untaken → Bool
is_untaken_bearing bearings.Told s g u = is_untaken_told s g u
is_untaken_bearing bearings.Unknown s g u = is_earlier_data u
is_untaken_bearing other s g u = false

abbrev pub is_untaken_given : Arrived → HomeFlit → Untaken → Bool
is_untaken_given s g u = is_untaken_bearing (bearing_at s g) s g u

abbrev pub is_untaken_within : Arrived → Flit → Untaken → Bool
is_untaken_within s (Up f) u = if nat_lt f.agent.0 32 then is_untaken_sent f.act s f u else is_no_agent u
is_untaken_within s (Down g) u = if nat_lt g.agent.0 32 then is_untaken_given s g u else is_no_agent u

abbrev pub is_untaken : Arrived → Flit → Untaken → Bool
is_untaken s e u = if s.timed == 4294967295 then is_uncounted u else is_untaken_within s e u
