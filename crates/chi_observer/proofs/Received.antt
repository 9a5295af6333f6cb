-- What is set of one agent, as what is kept then (docs/OBSERVER.md, "Seen at the home").
use Rattle.std.proofs.Common.{rules, arith, ◌≡◌, ◌⊎◌, inl, inr, ℕ, zero, suc, ◌<◌, ◌≤◌, List, length, refl, sym, subst, ap, ◌∙◌, slice_set}
use Rattle.std.proofs.Math.Path.{fun_ext}
use Rattle.std.proofs.lemmas.List.{get_or-set_other, get_or_past}
use Rattle.std.proofs.lemmas.Grind.{get_or-set_at}
use Rattle.std.specs.Prelude.{replicate, nat_lt, Bool, true, false, ◌&&◌, ◌==◌, not, Option, Result, Ok, Err, IfErr, if◌then◌else◌}
use Rattle.std.specs.List.{slice_index_or}
use Rattle.chi_observer.specs.declared.kinds.Snoop.{Snoop}
use Rattle.chi_observer.specs.declared.kinds.Kind.{Kind}
use Rattle.chi_observer.specs.declared.told.Told.{Told}
use Rattle.chi_observer.specs.declared.flits.CacheFlit.{CacheFlit}
use Rattle.chi_observer.specs.declared.flits.HomeFlit.{HomeFlit}
use Rattle.chi_observer.specs.declared.flits.Flit.{Flit}
use Rattle.chi_observer.specs.declared.flits.Flit.TheVariants.{Up, Down}
use Rattle.chi_observer.specs.declared.flits.Stores.TheVariants.{Hidden}
use Rattle.chi_observer.specs.declared.flits.Due.TheVariants.{Nothing}
use Rattle.chi_observer.specs.declared.arriving.Held.{Held}
use Rattle.chi_observer.specs.declared.arriving.Held.TheVariants as helds
use Rattle.chi_observer.specs.declared.arriving.Earlier.{Earlier}
use Rattle.chi_observer.specs.declared.arrivals.Untaken.{Untaken}
use Rattle.chi_observer.specs.declared.arrivals.Untaken.TheVariants.{Fault, SetAside}
use Rattle.chi_observer.specs.Rules.{lets_go}
use Rattle.chi_observer.specs.declared.flits.Due.{Due}
use Rattle.chi_observer.specs.declared.observer.AgentSeen.{AgentSeen}
use Rattle.chi_observer.specs.declared.observer.Observer.{Observer}
use Rattle.chi_observer.specs.declared.arriving.Arriving.{Arriving}
use Rattle.chi_observer.specs.Tables.{Known}
use Rattle.chi_observer.specs.Worlds.{put}
use Rattle.chi_observer.specs.Lines.{nobody, agent_of, is_taken, known_of, Watched, nothing_watched, shown_of, watch, watched}
use Rattle.chi_observer.specs.Arriving.{earlier_after, earlier_of, may_be_sent, nobody_arriving, own_granted, own_issued, own_resent, timed_after}
use Rattle.chi_observer.specs.Arrivals.{Arrived, Outcome, again, again_held, answered, arriving_of, awaited, drifts, due_acknowledged, earlier_at, ended, granted_state, is_busy_at, is_busy_fault, is_doubtful, is_fault_of, is_full, is_sure, is_uncounted, is_untaken_awaited, is_untaken_line, is_untaken_played, is_untaken_told, is_unlost_at, issued, issued_state, leaves_unsure, left_if, line_issued, line_takes, nothing_arrived, outcome_of, played, settled, taken_if, told_given, with_current, with_due, with_line, with_own, with_shown, with_told}
use Rattle.chi_observer.specs.Arrivals.Outcome.{Taken, NotTaken, LeftOpen}
use Rattle.chi_observer.proofs.Finite.{no}
use Rattle.chi_observer.proofs.Put.{here, there, split}

abbrev reads : {A B : Type 0} → A → (A → B) → List A → ℕ → B
reads none f xs m = f (slice_index_or xs m none)

-- what is read of each agent, where one is set
set_in : {A B : Type 0} (none : A) (f : A → B) (xs : List A) (n : ℕ) (x : A) → n < length xs → reads none f (slice_set xs n x) ≡ put n (f x) (reads none f xs)
set_in none f xs n x low = fun_ext (split (λ m. reads none f (slice_set xs n x) m ≡ put n (f x) (reads none f xs) m) n
    (ap f (get_or-set_at xs n n x none refl low) ∙ sym (here n (f x) (reads none f xs)))
    (λ m h. ap f (get_or-set_other xs n m x none h) ∙ sym (there n (f x) (reads none f xs) m h)))

-- and nothing else of it changes
same_in : {A B : Type 0} (none : A) (f : A → B) (xs : List A) (n : ℕ) (x : A) → n < length xs → f x ≡ f (slice_index_or xs n none) → reads none f (slice_set xs n x) ≡ reads none f xs
same_in none f xs n x low e = fun_ext (split (λ m. reads none f (slice_set xs n x) m ≡ reads none f xs m) n
    (ap f (get_or-set_at xs n n x none refl low) ∙ e)
    (λ m h. ap f (get_or-set_other xs n m x none h)))

abbrev line_of : (ℕ → Due) → (ℕ → Option Snoop) → (ℕ → Known) → Observer → Watched
line_of due snooped told s = record { seen = record { public = record { stores = s.stores; due = due; snooped = snooped; duty = s.duty; thrown = s.thrown }; told = told; home = s.home; current = s.current }; waits = s.waits; shown = λ n. shown_of s.shown n }

abbrev with_agent : Observer → ℕ → AgentSeen → Observer
with_agent s n a = record s { agents = slice_set s.agents n a }

abbrev pub as_due : AgentSeen → Due → AgentSeen
as_due a d = record a { due = d }

abbrev pub as_told : AgentSeen → Told → AgentSeen
as_told a t = record a { told = t }

pub due_set : (s : Observer) (n : ℕ) (d : Due) → n < length s.agents → watched (with_agent s n (as_due (agent_of s.agents n) d)) ≡ with_due (watched s) n d
due_set s n d low = λ i. line_of
    (set_in nobody (λ a. a.due) s.agents n (as_due (agent_of s.agents n) d) low i)
    (same_in nobody (λ a. a.snooped) s.agents n (as_due (agent_of s.agents n) d) low refl i)
    (same_in nobody known_of s.agents n (as_due (agent_of s.agents n) d) low refl i)
    s

pub told_set : (s : Observer) (n : ℕ) (t : Told) → n < length s.agents → watched (with_agent s n (as_told (agent_of s.agents n) t)) ≡ with_told (watched s) n t
told_set s n t low = λ i. line_of
    (same_in nobody (λ a. a.due) s.agents n (as_told (agent_of s.agents n) t) low refl i)
    (same_in nobody (λ a. a.snooped) s.agents n (as_told (agent_of s.agents n) t) low refl i)
    (set_in nobody known_of s.agents n (as_told (agent_of s.agents n) t) low i)
    s

-- at first nothing is on its way
own_new : (k n : ℕ) → arriving_of (replicate k nobody_arriving) n ≡ nobody_arriving
own_new zero zero = refl
own_new zero (suc n) = refl
own_new (suc k) zero = refl
own_new (suc k) (suc n) = own_new k n

abbrev pub state_of : Watched → (ℕ → Arriving) → Arrived
state_of w own = record { line = w; own = own; timed = 0 }

pub arrived_nothing : (w : Watched) (x : Arriving) → w ≡ nothing_watched Hidden → x ≡ nobody_arriving → state_of w (λ n. arriving_of (replicate 32 x) n) ≡ nothing_arrived
arrived_nothing w x ew ex = ap (λ (y : Arriving). state_of w (λ n. arriving_of (replicate 32 y) n)) ex ∙ λ i. state_of (ew i) (fun_ext (own_new 32) i)

-- the moments of each agent
low_by : (n : ℕ) (b : Bool) → nat_lt n 32 ≡ b → (n < 32) ⊎ (32 ≤ n)
low_by n true h = inl (search (rules, arith))
low_by n false h = inr (search (rules, arith))

sure_past : (shown was : List Bool) (f : ℕ → Bool) (n : ℕ) → length shown ≡ 32 → length was ≡ 32 → 32 ≤ n → shown_of shown n ≡ (shown_of was n && f n)
sure_past shown was f n ls lw h = get_or_past shown n false (subst (λ (k : ℕ). k ≤ n) (sym ls) h)
    ∙ sym (ap (λ (b : Bool). b && f n) (get_or_past was n false (subst (λ (k : ℕ). k ≤ n) (sym lw) h)))

sure_each : (shown was : List Bool) (f : ℕ → Bool) → length shown ≡ 32 → length was ≡ 32 → ((n : ℕ) → n < 32 → shown_of shown n ≡ (shown_of was n && f n)) → (n : ℕ) → (n < 32) ⊎ (32 ≤ n) → shown_of shown n ≡ (shown_of was n && f n)
sure_each shown was f ls lw each n (inl h) = each n h
sure_each shown was f ls lw each n (inr h) = sure_past shown was f n ls lw h

pub sure_all : (shown was : List Bool) (f : ℕ → Bool) → length shown ≡ 32 → length was ≡ 32 → ((n : ℕ) → n < 32 → shown_of shown n ≡ (shown_of was n && f n)) → (n : ℕ) → shown_of shown n ≡ (shown_of was n && f n)
sure_all shown was f ls lw each n = sure_each shown was f ls lw each n (low_by n (nat_lt n 32) refl)

and_true : (b : Bool) → b ≡ (b && true)
and_true true = refl
and_true false = refl

pub all_sure : (b drifting was own : Bool) (since asked : ℕ) → drifting ≡ false → b ≡ (b && is_sure drifting was own since asked)
all_sure b drifting was own since asked h = and_true b ∙ ap (λ (d : Bool). b && is_sure d was own since asked) (sym h)

-- STEPS
pub answered_as : (s : Arrived) (mid : Observer) (w : Watched) (f : CacheFlit) (n : ℕ) (shown : List Bool) → n ≡ f.agent.0 → watched mid ≡ w
    → ((k : ℕ) → shown_of shown k ≡ (shown_of mid.shown k && is_sure (drifts (agent_of mid.agents n)) (s.line.shown k) (k == n) (s.own k).since (s.own n).asked))
    → with_shown (watched mid) (λ k. shown_of shown k) ≡ answered s w f
answered_as s mid w f n shown hn hw each =
    ap (λ (g : ℕ → Bool). with_shown (watched mid) g) (fun_ext each)
    ∙ ap (λ (k : ℕ). with_shown (watched mid) (λ m. shown_of mid.shown m && is_sure (drifts (agent_of mid.agents k)) (s.line.shown m) (m == k) (s.own m).since (s.own k).asked)) hn
    ∙ ap (λ (z : Watched). answered s z f) hw

pub again_as : (s : Arrived) (f : CacheFlit) (n : ℕ) (x : Arriving) (w : Watched) → n ≡ f.agent.0 → (s.own n).held ≡ helds.Nothing → true ≡ is_taken s.line (Up f) → w ≡ watch s.line (Up f) → x ≡ own_resent (s.own n)
    → Taken (with_own (with_line s w) n x) ≡ again s f
again_as s f n x w hn hh ht hw hx =
    ap (λ (k : ℕ). Taken (with_own (with_line s w) k x)) hn
    ∙ ap (λ (z : Watched). Taken (with_own (with_line s z) f.agent.0 x)) hw
    ∙ ap (λ (y : Arriving). Taken (with_own (with_line s (watch s.line (Up f))) f.agent.0 y)) (hx ∙ ap (λ (k : ℕ). own_resent (s.own k)) hn)
    ∙ ap (λ (b : Bool). taken_if b (with_own (with_line s (watch s.line (Up f))) f.agent.0 (own_resent (s.own f.agent.0)))) ht
    ∙ ap (λ (h : Held). again_held h s f) (sym (ap (λ (k : ℕ). (s.own k).held) (sym hn) ∙ hh))

abbrev pub made : Watched → (ℕ → Arriving) → ℕ → Arrived
made w own timed = record { line = w; own = own; timed = timed }

pub issued_as : (s : Arrived) (w : Watched) (f : CacheFlit) (k : Kind) (e : Earlier) (delayed : Bool) (n : ℕ) (x : Arriving) (b : Watched) (t : ℕ) (u : Bool) → n ≡ f.agent.0 → is_unlost_at w n k e ≡ false → true ≡ line_takes w f k e → b ≡ line_issued w f k e → t ≡ timed_after s.timed k
    → u ≡ leaves_unsure e k (w.seen.told n).told → x ≡ own_issued (s.own n) t u delayed
    → Taken (made b (put n x s.own) t) ≡ issued s w f k e delayed
issued_as s w f k e delayed n x b t u hn hl ht hb hs hu hx =
    ap (λ (m : ℕ). Taken (made b (put m x s.own) t)) hn
    ∙ ap (λ (z : Watched). Taken (made z (put f.agent.0 x s.own) t)) hb
    ∙ ap (λ (y : Arriving). Taken (made (line_issued w f k e) (put f.agent.0 y s.own) t)) (hx ∙ ap (λ (m : ℕ). own_issued (s.own m) t u delayed) hn)
    ∙ ap (λ (z : Bool). Taken (made (line_issued w f k e) (put f.agent.0 (own_issued (s.own f.agent.0) t z delayed) s.own) t)) (hu ∙ ap (λ (m : ℕ). leaves_unsure e k (w.seen.told m).told) hn)
    ∙ ap (λ (z : ℕ). Taken (made (line_issued w f k e) (put f.agent.0 (own_issued (s.own f.agent.0) z (leaves_unsure e k (w.seen.told f.agent.0).told) delayed) s.own) z)) hs
    ∙ ap (λ (z : Bool). taken_if z (issued_state s w f k e delayed)) ht
    ∙ ap (λ (z : Bool). if z then LeftOpen else taken_if (line_takes w f k e) (issued_state s w f k e delayed)) (sym hl ∙ ap (λ (m : ℕ). is_unlost_at w m k e) hn)

pub ended_as : (s : Arrived) (w : Watched) (o : Outcome) (n m : ℕ) → n ≡ m → w ≡ with_due s.line n Nothing → Taken s ≡ o → Taken (with_line s w) ≡ ended o m
ended_as s w o n m hn hw ho =
    ap (λ (z : Watched). Taken (with_line s z)) hw
    ∙ ap (λ (k : ℕ). Taken (with_line s (with_due s.line k Nothing))) hn
    ∙ ap (λ (q : Outcome). ended q m) ho

fault_none : (s : Arrived) (w : Watched) (e : Flit) (u : Untaken) → is_fault_of w e u ≡ true → outcome_of (Err u) s ≡ NotTaken
fault_none s w e (Fault reason) h = refl
fault_none s w e (SetAside aside) h = no h

pub awaited_none : (s : Arrived) (f : CacheFlit) (w : Watched) (u : Untaken) → w ≡ settled s f → false ≡ is_taken w (Up f) → is_fault_of w (Up f) u ≡ true → outcome_of (Err u) s ≡ awaited s f
awaited_none s f w u hw h hu = fault_none s w (Up f) u hu ∙ ap (λ (b : Bool). if b then played (s.own f.agent.0).held s (answered s (watch (settled s f) (Up f)) f) f (earlier_at s f) else NotTaken) (h ∙ ap (λ (z : Watched). is_taken z (Up f)) hw)

pub awaited_fault : (s : Arrived) (f : CacheFlit) (w : Watched) (u : Untaken) → w ≡ settled s f → false ≡ is_taken w (Up f) → is_fault_of w (Up f) u ≡ true → is_untaken_awaited s f u ≡ true
awaited_fault s f w u hw h hu =
    sym (ap (λ (b : Bool). if b then is_untaken_played (s.own f.agent.0).held (answered s (watch (settled s f) (Up f)) f) f (earlier_at s f) u else is_fault_of (settled s f) (Up f) u) (h ∙ ap (λ (z : Watched). is_taken z (Up f)) hw))
    ∙ sym (ap (λ (z : Watched). is_fault_of z (Up f) u) hw) ∙ hu

abbrev pub earlier_by : CacheFlit → Watched → ℕ → Earlier → Earlier
earlier_by f w n e = earlier_after f.act (lets_go (w.seen.public.snooped n)) (w.seen.public.due n) (w.seen.told n).told e

abbrev pub earlier_from : Arrived → CacheFlit → Watched → ℕ → Earlier
earlier_from s f w n = earlier_by f w n (earlier_of (s.own n) f.act (lets_go (w.seen.public.snooped n)))

earlier_moved : (s : Arrived) (f : CacheFlit) (n : ℕ) (w : Watched) → n ≡ f.agent.0 → w ≡ settled s f → earlier_from s f w n ≡ earlier_at s f
earlier_moved s f n w hn hw = ap (λ (k : ℕ). earlier_from s f w k) hn ∙ ap (λ (z : Watched). earlier_from s f z f.agent.0) hw

pub awaited_as : (s : Arrived) (f : CacheFlit) (n : ℕ) (w : Watched) (h : Held) (v : Watched) (e : Earlier) → n ≡ f.agent.0 → w ≡ settled s f → true ≡ is_taken w (Up f) → v ≡ answered s (watch w (Up f)) f → h ≡ (s.own n).held
    → e ≡ earlier_from s f w n
    → played h s v f e ≡ awaited s f
awaited_as s f n w h v e hn hw ht hv hh he =
    ap (λ (y : Held). played y s v f e) (hh ∙ ap (λ (k : ℕ). (s.own k).held) hn)
    ∙ ap (λ (z : Watched). played (s.own f.agent.0).held s z f e) (hv ∙ ap (λ (z : Watched). answered s (watch z (Up f)) f) hw)
    ∙ ap (λ (y : Earlier). played (s.own f.agent.0).held s (answered s (watch (settled s f) (Up f)) f) f y)
    (he ∙ earlier_moved s f n w hn hw)
    ∙ ap (λ (b : Bool). if b then played (s.own f.agent.0).held s (answered s (watch (settled s f) (Up f)) f) f (earlier_at s f) else NotTaken) (ht ∙ ap (λ (z : Watched). is_taken z (Up f)) hw)

played_fault : (s : Arrived) (f : CacheFlit) (n : ℕ) (w : Watched) (h : Held) (v : Watched) (e : Earlier) (u : Untaken) → n ≡ f.agent.0 → w ≡ settled s f → true ≡ is_taken w (Up f) → v ≡ answered s (watch w (Up f)) f → h ≡ (s.own n).held → e ≡ earlier_from s f w n → is_untaken_played h v f e u ≡ is_untaken_awaited s f u
played_fault s f n w h v e u hn hw ht hv hh he =
    ap (λ (y : Held). is_untaken_played y v f e u) (hh ∙ ap (λ (k : ℕ). (s.own k).held) hn)
    ∙ ap (λ (z : Watched). is_untaken_played (s.own f.agent.0).held z f e u) (hv ∙ ap (λ (z : Watched). answered s (watch z (Up f)) f) hw)
    ∙ ap (λ (y : Earlier). is_untaken_played (s.own f.agent.0).held (answered s (watch (settled s f) (Up f)) f) f y u) (he ∙ earlier_moved s f n w hn hw)
    ∙ ap (λ (b : Bool). if b then is_untaken_played (s.own f.agent.0).held (answered s (watch (settled s f) (Up f)) f) f (earlier_at s f) u else is_fault_of (settled s f) (Up f) u) (ht ∙ ap (λ (z : Watched). is_taken z (Up f)) hw)

pub played_faults : (r : Result (Unit {0}) Untaken) (s : Arrived) (f : CacheFlit) (n : ℕ) (w : Watched) (h : Held) (v : Watched) (e : Earlier) → n ≡ f.agent.0 → w ≡ settled s f → true ≡ is_taken w (Up f) → v ≡ answered s (watch w (Up f)) f → h ≡ (s.own n).held → e ≡ earlier_from s f w n
    → IfErr r (λ u. is_untaken_played h v f e u ≡ true) → IfErr r (λ u. is_untaken_awaited s f u ≡ true)
played_faults (Ok done) s f n w h v e hn hw ht hv hh he given = given
played_faults (Err u) s f n w h v e hn hw ht hv hh he given = sym (played_fault s f n w h v e u hn hw ht hv hh he) ∙ given

-- a flit of the home
abbrev told_by : Arrived → HomeFlit → Bool → Bool → Bool → Outcome
told_by s g full busy taken = if full then LeftOpen else (if busy then NotTaken else (if taken then Taken (granted_state s (watch s.line (Down g)) g) else left_if (is_doubtful s g)))

full_at : (s : Arrived) (g : HomeFlit) (n : ℕ) → n ≡ g.agent.0 → is_full (s.own n).acks ≡ false → false ≡ is_full (s.own g.agent.0).acks
full_at s g n hn ha = sym ha ∙ ap (λ (k : ℕ). is_full (s.own k).acks) hn

pub told_none : (s t : Arrived) (g : HomeFlit) (n : ℕ) (u : Untaken) → n ≡ g.agent.0 → is_full (s.own n).acks ≡ false → false ≡ is_busy_at s g → false ≡ is_taken s.line (Down g) → outcome_of (Err u) t ≡ left_if (is_doubtful s g) → outcome_of (Err u) t ≡ told_given s g
told_none s t g n u hn ha hb ht hu =
    hu
    ∙ ap (λ (b : Bool). told_by s g false false b) ht
    ∙ ap (λ (b : Bool). told_by s g false b (is_taken s.line (Down g))) hb
    ∙ ap (λ (b : Bool). told_by s g b (is_busy_at s g) (is_taken s.line (Down g))) (full_at s g n hn ha)

pub told_untaken : (s : Arrived) (g : HomeFlit) (n : ℕ) (u : Untaken) → n ≡ g.agent.0 → is_full (s.own n).acks ≡ false → false ≡ is_busy_at s g → is_untaken_line s g u ≡ true → is_untaken_told s g u ≡ true
told_untaken s g n u hn ha hb hu =
    sym (ap (λ (b : Bool). if b then is_uncounted u else (if is_busy_at s g then is_busy_fault u else is_untaken_line s g u)) (full_at s g n hn ha))
    ∙ sym (ap (λ (b : Bool). if b then is_busy_fault u else is_untaken_line s g u) hb)
    ∙ hu

-- the outcome of one that isn't taken is the same of whatever was kept
pub untaken_alike : (u : Untaken) (s t : Arrived) → outcome_of (Err u) s ≡ outcome_of (Err u) t
untaken_alike (Fault reason) s t = refl
untaken_alike (SetAside aside) s t = refl

pub given_as : (s : Arrived) (g : HomeFlit) (n : ℕ) (w v : Watched) (c : Bool) (d : Due) (x : Arriving) → n ≡ g.agent.0 → is_full (s.own n).acks ≡ false → false ≡ is_busy_at s g → true ≡ is_taken s.line (Down g) → w ≡ watch s.line (Down g)
    → v ≡ with_due (with_current w c) n d → c ≡ (w.seen.current && not (may_be_sent (w.seen.public.due n) (w.seen.told n).told g.grant)) → d ≡ due_acknowledged (w.seen.public.due n)
    → x ≡ own_granted (s.own n) (w.seen.public.due n) (w.seen.told n).told g.grant s.timed w.seen.current
    → Taken (with_own (with_line s v) n x) ≡ told_given s g
given_as s g n w v c d x hn ha hb ht hw hv hc hd hx =
    ap (λ (z : Watched). Taken (with_own (with_line s z) n x)) (hv ∙ ap (λ (b : Bool). with_due (with_current w b) n d) hc ∙ ap (λ (y : Due). with_due (with_current w (w.seen.current && not (may_be_sent (w.seen.public.due n) (w.seen.told n).told g.grant))) n y) hd)
    ∙ ap (λ (y : Arriving). Taken (with_own (with_line s (with_due (with_current w (w.seen.current && not (may_be_sent (w.seen.public.due n) (w.seen.told n).told g.grant))) n (due_acknowledged (w.seen.public.due n)))) n y)) hx
    ∙ ap (λ (k : ℕ). Taken (with_own (with_line s (with_due (with_current w (w.seen.current && not (may_be_sent (w.seen.public.due k) (w.seen.told k).told g.grant))) k (due_acknowledged (w.seen.public.due k)))) k (own_granted (s.own k) (w.seen.public.due k) (w.seen.told k).told g.grant s.timed w.seen.current))) hn
    ∙ ap (λ (z : Watched). Taken (granted_state s z g)) hw
    ∙ ap (λ (b : Bool). told_by s g false false b) ht
    ∙ ap (λ (b : Bool). told_by s g false b (is_taken s.line (Down g))) hb
    ∙ ap (λ (b : Bool). told_by s g b (is_busy_at s g) (is_taken s.line (Down g))) (full_at s g n hn ha)

pub room : (n : ℕ) → is_full n ≡ false → n < 255
room n e = search (rules, arith)
