-- The reason for which a late flit sets a line aside is the one that holds.
--     IsSure        of what is told to hold, the reason that it is
--     verdict_is    what comes of a flit of a line that is logged at its home
use Rattle.std.proofs.Common.{◌≡◌, ◌==◌, ℕ, Bool, true, false, ◌||◌, nat_lt, Option, Some, None, Result, Ok, Err, IfErr, refl, sym, ap, ◌∙◌}
use Rattle.std.specs.Prelude.{if◌then◌else◌}
use Rattle.chi_observer.specs.declared.arrivals.Aside.{Aside}
use Rattle.chi_observer.specs.declared.arrivals.Aside.TheVariants as asides
use Rattle.chi_observer.specs.declared.arrivals.Untaken.{Untaken}
use Rattle.chi_observer.specs.declared.arrivals.Untaken.TheVariants.{Fault, SetAside}
use Rattle.chi_observer.specs.declared.arriving.Arriving.{Arriving}
use Rattle.chi_observer.specs.declared.arriving.Earlier.{Earlier}
use Rattle.chi_observer.specs.declared.arriving.Held.{Held}
use Rattle.chi_observer.specs.declared.arriving.Held.TheVariants as helds
use Rattle.chi_observer.specs.declared.flits.Act.{Act}
use Rattle.chi_observer.specs.declared.flits.Act.TheVariants as acts
use Rattle.chi_observer.specs.declared.flits.CacheFlit.{CacheFlit}
use Rattle.chi_observer.specs.declared.flits.Due.{Due}
use Rattle.chi_observer.specs.declared.flits.Due.TheVariants as dues
use Rattle.chi_observer.specs.declared.flits.Grant.{Grant}
use Rattle.chi_observer.specs.declared.flits.Grant.TheVariants as grants
use Rattle.chi_observer.specs.declared.flits.HomeFlit.{HomeFlit}
use Rattle.chi_observer.specs.declared.flits.Flit.{Flit}
use Rattle.chi_observer.specs.declared.flits.Flit.TheVariants.{Up, Down}
use Rattle.chi_observer.specs.declared.kinds.Kind.{Kind}
use Rattle.chi_observer.specs.declared.kinds.Kind.TheVariants.{Evict}
use Rattle.chi_observer.specs.declared.kinds.Snoop.{Snoop}
use Rattle.chi_observer.specs.declared.told.Told.{Told}
use Rattle.chi_observer.specs.Arrivals.{Arrived, answered_line, earlier_at, is_busy_at, is_busy_fault, is_earlier_data, is_fault_of, is_full, is_no_agent, is_not_judged, is_not_sent, is_retried, is_thrown, is_two_requests, is_uncounted, is_unlost_at, is_untaken, is_untaken_awaited, is_untaken_bearing, is_untaken_given, is_untaken_held, is_untaken_issue, is_untaken_line, is_untaken_played, is_untaken_requested, is_untaken_sent, is_untaken_told, is_untaken_turn, is_untaken_within, outcome, outcome_of, request_of, settled}
use Rattle.chi_observer.specs.Arriving.{bearing_behind, bearing_of, bearing_on, bearing_open, fits_crossing, issued_before, later_if, left_by_data, turn_due, turn_free, turn_held}
use Rattle.chi_observer.specs.Lines.{Watched, is_taken}
use Rattle.chi_observer.specs.Rules.{is_due}
use Rattle.chi_observer.specs.Tables.{fits_issue}
use Rattle.chi_observe.specs.Judges.{Before, home_verdict, verdict, verdict_of}
use Rattle.chi_observe.specs.Judges.Judged.{AtHome}
use Rattle.chi_observe.specs.Judges.Verdict.{LeftOpen}
use Rattle.chi_observe.specs.LateReasons.{late_reason, reason_by, reason_in}

abbrev IsSure : (Untaken → Bool) → Type 0
IsSure holds = (why : Aside) → holds (SetAside why) ≡ true → reason_by holds ≡ reason_in why

either : (b : Bool) (one other : Untaken → Bool) → IsSure one → IsSure other → IsSure (λ u. if b then one u else other u)
either true one other h k = h
either false one other h k = k

either_of : {T : Type 0} (holds : T → Untaken → Bool) (b : Bool) (one other : T) → IsSure (holds one) → IsSure (holds other) → IsSure (holds (if b then one else other))
either_of holds true one other h k = h
either_of holds false one other h k = k

-- each reason by itself, and a fault, which is none
nothing : IsSure (λ u. false)
nothing why h = absurd (cc h)

two_requests : IsSure is_two_requests
two_requests asides.TwoRequests h = refl
two_requests other h = absurd (cc h)

earlier_data : IsSure is_earlier_data
earlier_data asides.EarlierData h = refl
earlier_data other h = absurd (cc h)

thrown : IsSure is_thrown
thrown asides.Thrown h = refl
thrown other h = absurd (cc h)

retried : IsSure is_retried
retried asides.Retried h = refl
retried other h = absurd (cc h)

uncounted : IsSure is_uncounted
uncounted asides.Uncounted h = refl
uncounted other h = absurd (cc h)

not_sent : IsSure is_not_sent
not_sent why h = absurd (cc h)

not_judged : IsSure is_not_judged
not_judged why h = absurd (cc h)

no_agent : IsSure is_no_agent
no_agent why h = absurd (cc h)

busy : IsSure is_busy_fault
busy why h = absurd (cc h)

fault : (w : Watched) (e : Flit) → IsSure (is_fault_of w e)
fault w e why h = absurd (cc h)

-- flits of a cache
issue : (w : Watched) (f : CacheFlit) (k : Kind) (e : Earlier) → IsSure (is_untaken_issue w f k e)
issue w f k e = either (is_unlost_at w f.agent.0 k e) is_thrown (is_fault_of w (Up f)) thrown (fault w (Up f))

later : (b : Bool) (s : Arrived) (f : CacheFlit) (k : Kind) → IsSure (is_untaken_turn (later_if b) s f k)
later true s f k = nothing
later false s f k = not_sent

free : (unsure : Bool) (own : Arriving) (q : Option Snoop) (t : Told) (s : Arrived) (f : CacheFlit) (k : Kind) → IsSure (is_untaken_turn (turn_free (record own { unsure = unsure }) q t k) s f k)
free true own None t s f k = two_requests
free true own (Some snoop) t s f k = two_requests
free false own None t s f k = issue s.line f k (s.own f.agent.0).earlier
free false own (Some snoop) t s f k = later (issued_before own.earlier k || fits_crossing snoop k t) s f k

turn : (own : Arriving) (d : Due) (q : Option Snoop) (t : Told) (s : Arrived) (f : CacheFlit) (k : Kind) → IsSure (is_untaken_turn (turn_due own d q t k) s f k)
turn own dues.Nothing q t s f k = free own.unsure own q t s f k
turn own (dues.Resending asked) q t s f k = free own.unsure own q t s f k
turn own (dues.WriteData asked) q t s f k = later (fits_issue k true (left_by_data asked t)) s f k
turn own other q t s f k = not_sent

turn_behind : (h : Held) (own : Arriving) (d : Due) (q : Option Snoop) (t : Told) (s : Arrived) (f : CacheFlit) (k : Kind) → IsSure (is_untaken_turn (turn_held h (turn_due own d q t k)) s f k)
turn_behind helds.Nothing own d q t s f k = turn own d q t s f k
turn_behind (helds.Open kind) own d q t s f k = not_sent
turn_behind helds.Retried own d q t s f k = two_requests
turn_behind helds.Evicted own d q t s f k = two_requests

requested : (s : Arrived) (f : CacheFlit) (k : Kind) → IsSure (is_untaken_requested s f k)
requested s f k = turn_behind (s.own f.agent.0).held (s.own f.agent.0) (s.line.seen.public.due f.agent.0) (s.line.seen.public.snooped f.agent.0) (s.line.seen.told f.agent.0).told s f k

again : (h : Held) (s : Arrived) (f : CacheFlit) → IsSure (is_untaken_held h s f)
again helds.Nothing s f = fault s.line (Up f)
again (helds.Open k) s f = not_sent
again helds.Retried s f = two_requests
again helds.Evicted s f = two_requests

played : (h : Held) (w : Watched) (f : CacheFlit) (e : Earlier) → IsSure (is_untaken_played h w f e)
played helds.Nothing w f e = nothing
played (helds.Open k) w f e = issue w (request_of f k) k e
played helds.Evicted w f e = issue w (request_of f Evict) Evict e
played helds.Retried w f e = retried

awaited : (s : Arrived) (f : CacheFlit) → IsSure (is_untaken_awaited s f)
awaited s f =
    either (is_taken (settled s f) (Up f)) (is_untaken_played (s.own f.agent.0).held (answered_line s (settled s f) f) f (earlier_at s f)) (is_fault_of (settled s f) (Up f))
    (played (s.own f.agent.0).held (answered_line s (settled s f) f) f (earlier_at s f)) (fault (settled s f) (Up f))

sent : (act : Act) (s : Arrived) (f : CacheFlit) → IsSure (is_untaken_sent act s f)
sent (acts.Request k) s f = requested s f k
sent (acts.Resend k) s f = again (s.own f.agent.0).held s f
sent acts.CompAck s f = not_sent
sent (acts.SnpResp answer) s f = awaited s f
sent (acts.CopyBackWrData form) s f = awaited s f
sent acts.NonCopyBackWrData s f = awaited s f
sent (acts.Load word) s f = not_judged
sent (acts.Store word) s f = not_judged

-- flits of the home
broken : (s : Arrived) (g : HomeFlit) → IsSure (is_untaken_line s g)
broken s g (asides.HeldRequest reason) h = refl
broken s g other h = absurd (cc h)

told : (s : Arrived) (g : HomeFlit) → IsSure (is_untaken_told s g)
told s g =
    either (is_full (s.own g.agent.0).acks) is_uncounted (λ u. if is_busy_at s g then is_busy_fault u else is_untaken_line s g u) uncounted
    (either (is_busy_at s g) is_busy_fault (is_untaken_line s g) busy (broken s g))

ahead : (q : Option Snoop) (s : Arrived) (g : HomeFlit) → IsSure (is_untaken_bearing (bearing_behind q) s g)
ahead None s g = earlier_data
ahead (Some snoop) s g = nothing

bearing_due : (kind : Kind) (q : Option Snoop) (grant : Grant) (s : Arrived) (g : HomeFlit) → IsSure (is_untaken_bearing (bearing_on kind q grant) s g)
bearing_due kind q grant s g =
    either_of (λ b. is_untaken_bearing b s g) (is_due grant (dues.Completion kind) q) (bearing_behind q) (bearing_of helds.Nothing q grant) (ahead q s g) (told s g)

bearing_held : (kind : Kind) (q : Option Snoop) (grant : Grant) (s : Arrived) (g : HomeFlit) → IsSure (is_untaken_bearing (bearing_open kind q grant) s g)
bearing_held kind q grants.RetryAck s g = nothing
bearing_held kind q (grants.Snp snoop) s g = told s g
bearing_held kind q other s g = bearing_due kind q other s g

bearing : (h : Held) (q : Option Snoop) (grant : Grant) (s : Arrived) (g : HomeFlit) → IsSure (is_untaken_bearing (bearing_of h q grant) s g)
bearing (helds.Open kind) q grant s g = bearing_held kind q grant s g
bearing helds.Nothing q grant s g = told s g
bearing helds.Retried q grant s g = told s g
bearing helds.Evicted q grant s g = told s g

given : (s : Arrived) (g : HomeFlit) → IsSure (is_untaken_given s g)
given s g = bearing (s.own g.agent.0).held (s.line.seen.public.snooped g.agent.0) g.grant s g

-- any
within : (s : Arrived) (e : Flit) → IsSure (is_untaken_within s e)
within s (Up f) = either (nat_lt f.agent.0 32) (is_untaken_sent f.act s f) is_no_agent (sent f.act s f) no_agent
within s (Down g) = either (nat_lt g.agent.0 32) (is_untaken_given s g) is_no_agent (given s g) no_agent

sure : (s : Arrived) (e : Flit) → IsSure (is_untaken s e)
sure s e = either (s.timed == 4294967295) is_uncounted (is_untaken_within s e) uncounted (within s e)

reason_is : (s : Arrived) (e : Flit) (why : Aside) → is_untaken s e (SetAside why) ≡ true → late_reason s e ≡ reason_in why
unfolding late_reason
reason_is s e why h = sure s e why h

pub verdict_is : (before : Before) (number : ℕ) (old new : Arrived) (flit : Flit) (r : Result (Unit {0}) Untaken) → outcome_of r new ≡ outcome old flit → IfErr r (λ why. is_untaken old flit why ≡ true)
    → verdict_of r (AtHome new) ≡ verdict before number (AtHome old) flit
verdict_is before number old new flit (Ok done) is holds = ap (home_verdict (late_reason old flit)) is
verdict_is before number old new flit (Err (Fault reason)) is holds = ap (home_verdict (late_reason old flit)) is
verdict_is before number old new flit (Err (SetAside why)) is holds = ap LeftOpen (sym (reason_is old flit why holds)) ∙ ap (home_verdict (late_reason old flit)) is
