-- Logs that are taken at the home, beside each cache whose flits are on their way.
use Rattle.std.proofs.Common.{rules, arith, ◌≡◌, ◌≢◌, ℕ, ◌<◌, List, [], ◌∷◌, refl, sym, subst, ◌∙◌, ap}
use Rattle.std.specs.Prelude.{Bool, true, false, ◌==◌, nat_lt, if◌then◌else◌, ◌||◌, not, Option, Some, None}
use Rattle.std.proofs.lemmas.Bool.{eqb-true}
use Rattle.chi_observer.specs.declared.kinds.Kind.{Kind}
use Rattle.chi_observer.specs.declared.kinds.Kind.TheVariants.{Evict}
use Rattle.chi_observer.specs.declared.told.Told.{Told}
use Rattle.chi_observer.specs.declared.told.Told.TheVariants.{I}
use Rattle.chi_observer.specs.declared.flits.Due.{Due}
use Rattle.chi_observer.specs.declared.flits.Due.TheVariants as dues
use Rattle.chi_observer.specs.declared.flits.Stores.TheVariants.{Hidden}
use Rattle.chi_observer.specs.declared.flits.Act.{Act}
use Rattle.chi_observer.specs.declared.flits.Act.TheVariants.{Request, Resend, SnpResp, CompAck, CopyBackWrData, NonCopyBackWrData, Load, Store}
use Rattle.chi_observer.specs.declared.flits.CacheFlit.{CacheFlit}
use Rattle.chi_observer.specs.declared.flits.HomeFlit.{HomeFlit}
use Rattle.chi_observer.specs.declared.flits.Flit.{Flit}
use Rattle.chi_observer.specs.declared.flits.Flit.TheVariants.{Up, Down}
use Rattle.chi_observer.specs.declared.arriving.Held.{Held}
use Rattle.chi_observer.specs.declared.arriving.Held.TheVariants as helds
use Rattle.chi_observer.specs.declared.arriving.Earlier.{Earlier}
use Rattle.chi_observer.specs.declared.arriving.Arriving.{Arriving}
use Rattle.chi_observer.specs.declared.arriving.Turn.{Turn}
use Rattle.chi_observer.specs.declared.arriving.Turn.TheVariants as turns
use Rattle.chi_observer.specs.declared.arriving.Bearing.{Bearing}
use Rattle.chi_observer.specs.declared.arriving.Bearing.TheVariants as bearings
use Rattle.chi_observer.specs.Rules.{allows, is_resending, due_after, due_granted, is_timed, snooped_after, snooped_granted}
use Rattle.chi_observer.specs.Tables.{told_after, told_granted, Known, told_behind}
use Rattle.chi_observer.specs.Worlds.{put}
use Rattle.chi_observer.specs.Observed.{differs, words_fit}
use Rattle.chi_observer.specs.Lines.{Watched, is_taken, watch}
use Rattle.chi_observer.specs.Arriving.{own_acknowledged, own_holding, own_issued, own_resent, own_told, timed_after}
use Rattle.chi_observer.specs.Arrivals.{Arrived, Outcome, again_held, answered, awaited, bearing_at, by_bearing, by_turn, due_acknowledged, earlier_at, ended, given, granted_line, granted_own, granted_state, is_busy_at, is_clean_at, is_doubtful, is_from_before, is_full, is_unlost_at, issued, issued_state, known_as, leaves_unsure, left_if, line_issued, line_takes, nothing_arrived, outcome, outcome_within, played, request_of, sent_outcome, settled, taken_if, told_if, turn_at, with_due, with_line, with_own}
use Rattle.chi_observer.specs.Arrivals.Outcome.{Taken, NotTaken, LeftOpen}
use Rattle.chi_observer.specs.Late.{Cache, Comes, FlitsOnTheirWayAreTaken, IsOnWay, is_again, is_none, Leaves, Receives, Unseen, came, given_if, given_to, is_fault, is_orderly, new_cache}
use Rattle.chi_observer.proofs.Finite.{no, left}
use Rattle.chi_observer.proofs.Put.{there, here}
use Rattle.chi_observer.proofs.Seats.{Repeating, behind, is_ready, none_is, Beside, unseen, Seat, Place, Stands}
use Rattle.chi_observer.proofs.Seats.Stands.{Rests, Acks, Repeats, Asks, Waits}
use Rattle.chi_observer.proofs.Seats.Place.{Here, Ahead}
use Rattle.chi_observer.proofs.LateFlits.{seat_of, Judged, seat}
use Rattle.chi_observer.proofs.CrossingTables.{fine}
use Rattle.chi_observer.proofs.LateTables.{is_sure_of}
use Rattle.chi_observer.proofs.LateComes.{late_judged}
use Rattle.chi_observer.proofs.LateGrants.{On, given_on, on_if}

-- ELSEWHERE
-- of all agents but n the same is told
record Others (n : ℕ) (w w' : Watched) : Type 0 where
  stores : w'.seen.public.stores ≡ w.seen.public.stores
  told : (m : ℕ) → m ≢ n → w'.seen.told m ≡ w.seen.told m
  due : (m : ℕ) → m ≢ n → w'.seen.public.due m ≡ w.seen.public.due m
  snooped : (m : ℕ) → m ≢ n → w'.seen.public.snooped m ≡ w.seen.public.snooped m

-- and kept
record Elsewhere (n : ℕ) (s s' : Arrived) : Type 0 where
  stores : s'.line.seen.public.stores ≡ s.line.seen.public.stores
  seats : (m : ℕ) → m ≢ n → seat s' m ≡ seat s m

same_others : (n : ℕ) (w : Watched) → Others n w w
same_others n w = record { stores = refl; told = λ m h. refl; due = λ m h. refl; snooped = λ m h. refl }

others_then : (n : ℕ) (w x y : Watched) → Others n w x → Others n x y → Others n w y
others_then n w x y a b = record {
  stores = b.stores ∙ a.stores;
  told = λ m h. b.told m h ∙ a.told m h;
  due = λ m h. b.due m h ∙ a.due m h;
  snooped = λ m h. b.snooped m h ∙ a.snooped m h;
}

sent_others : (w : Watched) (f : CacheFlit) → Others f.agent.0 w (watch w (Up f))
sent_others w f =
    let n = f.agent.0 in
    record {
      stores = refl;
      told = there n (told_after f.act (w.seen.public.due n) (w.seen.told n) (differs w.seen f)) w.seen.told;
      due = there n (due_after f.act (w.seen.public.due n)) w.seen.public.due;
      snooped = there n (snooped_after f.act (w.seen.public.snooped n)) w.seen.public.snooped;
    }

given_others : (w : Watched) (g : HomeFlit) → Others g.agent.0 w (watch w (Down g))
given_others w g =
    let n = g.agent.0 in
    record {
      stores = refl;
      told = there n (told_granted g.grant (w.seen.public.due n) (w.seen.told n)) w.seen.told;
      due = there n (due_granted g.grant (w.seen.public.due n)) w.seen.public.due;
      snooped = there n (snooped_granted g.grant (w.seen.public.snooped n)) w.seen.public.snooped;
    }

due_others : (n : ℕ) (w : Watched) (d : Due) → Others n w (with_due w n d)
due_others n w d = record { stores = refl; told = λ m h. refl; due = there n d w.seen.public.due; snooped = λ m h. refl }

settled_others : (s : Arrived) (f : CacheFlit) → Others f.agent.0 s.line (settled s f)
settled_others s f =
    let n = f.agent.0 in
    record {
      stores = refl;
      told = there n (known_as (s.line.seen.told n) (told_if (is_clean_at s f) (s.line.seen.told n).told)) s.line.seen.told;
      due = λ m h. refl;
      snooped = λ m h. refl;
    }

if_others : (n : ℕ) (b : Bool) (w x y : Watched) → Others n w x → Others n w y → Others n w (if b then x else y)
if_others n true w x y a e = a
if_others n false w x y a e = e

abbrev arrived_of : Watched → (ℕ → Arriving) → ℕ → Arrived
arrived_of line own timed = record { line = line; own = own; timed = timed }

else_of : (n : ℕ) (s : Arrived) (w : Watched) (own : ℕ → Arriving) (timed : ℕ) → Others n s.line w → ((m : ℕ) → m ≢ n → own m ≡ s.own m) → Elsewhere n s (arrived_of w own timed)
else_of n s w own timed a e = record {
  stores = a.stores;
  seats = λ m h. λ i. record { told = (a.told m h i).told; due = a.due m h i; snooped = a.snooped m h i; own = e m h i };
}

own_else : (s : Arrived) (n : ℕ) (own : Arriving) → Elsewhere n s (with_own s n own)
own_else s n own = else_of n s s.line (put n own s.own) s.timed (same_others n s.line) (there n own s.own)

line_else : (s : Arrived) (n : ℕ) (w : Watched) (own : Arriving) → Others n s.line w → Elsewhere n s (with_own (with_line s w) n own)
line_else s n w own a = else_of n s w (put n own s.own) s.timed a (there n own s.own)

issued_else : (s : Arrived) (w : Watched) (f : CacheFlit) (k : Kind) (e : Earlier) (delayed : Bool) → Others f.agent.0 s.line w → On (Elsewhere f.agent.0 s) (issued s w f k e delayed)
issued_else s w f k e delayed a =
    let n = f.agent.0 in
    let own = own_issued (s.own n) (timed_after s.timed k) (leaves_unsure e k (w.seen.told n).told) delayed in
    let line : Others n s.line (line_issued w f k e) = others_then n s.line w (line_issued w f k e) a (if_others n (is_from_before w n k e) w (with_due w n (dues.Completion k)) (watch w (Up f)) (due_others n w (dues.Completion k)) (sent_others w f)) in
    on_if (Elsewhere n s) (is_unlost_at w n k e) LeftOpen (taken_if (line_takes w f k e) (issued_state s w f k e delayed)) (λ _. tt)
    (λ _. on_if (Elsewhere n s) (line_takes w f k e) (Taken (issued_state s w f k e delayed)) NotTaken
    (λ _. else_of n s (line_issued w f k e) (put n own s.own) (timed_after s.timed k) line (there n own s.own)) (λ _. tt))

turn_else : (s : Arrived) (f : CacheFlit) (k : Kind) (t : Turn) → On (Elsewhere f.agent.0 s) (by_turn t s f k)
turn_else s f k turns.Now = issued_else s s.line f k (s.own f.agent.0).earlier false (same_others f.agent.0 s.line)
turn_else s f k turns.Later = own_else s f.agent.0 (own_holding (s.own f.agent.0) (helds.Open k))
turn_else s f k turns.Never = tt
turn_else s f k turns.Unknown = tt

again_else : (s : Arrived) (f : CacheFlit) (h : Held) → On (Elsewhere f.agent.0 s) (again_held h s f)
again_else s f helds.Nothing = on_if (Elsewhere f.agent.0 s) (is_taken s.line (Up f)) (Taken (with_own (with_line s (watch s.line (Up f))) f.agent.0 (own_resent (s.own f.agent.0)))) NotTaken
    (λ _. line_else s f.agent.0 (watch s.line (Up f)) (own_resent (s.own f.agent.0)) (sent_others s.line f)) (λ _. tt)
again_else s f (helds.Open k) = tt
again_else s f helds.Retried = tt
again_else s f helds.Evicted = tt

ended_else : (s : Arrived) (n : ℕ) (o : Outcome) → On (Elsewhere n s) o → On (Elsewhere n s) (ended o n)
ended_else s n (Taken x) h = record {
  stores = h.stores;
  seats = λ m e. (λ i. record { told = (x.line.seen.told m).told; due = there n dues.Nothing x.line.seen.public.due m e i; snooped = x.line.seen.public.snooped m; own = x.own m }) ∙ h.seats m e;
}
ended_else s n NotTaken h = tt
ended_else s n LeftOpen h = tt

played_else : (s : Arrived) (w : Watched) (f : CacheFlit) (e : Earlier) (h : Held) → Others f.agent.0 s.line w → On (Elsewhere f.agent.0 s) (played h s w f e)
played_else s w f e helds.Nothing a = line_else s f.agent.0 w (own_told (s.own f.agent.0) e) a
played_else s w f e (helds.Open k) a = issued_else s w (request_of f k) k e (is_timed k) a
played_else s w f e helds.Evicted a = ended_else s f.agent.0 (issued s w (request_of f Evict) Evict e false) (issued_else s w (request_of f Evict) Evict e false a)
played_else s w f e helds.Retried a = tt

answered_others : (n : ℕ) (s : Arrived) (f : CacheFlit) (w : Watched) → Others n s.line w → Others n s.line (answered s w f)
answered_others n s f w a = record { stores = a.stores; told = a.told; due = a.due; snooped = a.snooped }

awaited_else : (s : Arrived) (f : CacheFlit) → On (Elsewhere f.agent.0 s) (awaited s f)
awaited_else s f =
    let n = f.agent.0 in
    let w = settled s f in
    let line : Others n s.line (answered s (watch w (Up f)) f) = answered_others n s f (watch w (Up f)) (others_then n s.line w (watch w (Up f)) (settled_others s f) (sent_others w f)) in
    on_if (Elsewhere n s) (is_taken w (Up f)) (played (s.own n).held s (answered s (watch w (Up f)) f) f (earlier_at s f)) NotTaken (λ _. played_else s (answered s (watch w (Up f)) f) f (earlier_at s f) (s.own n).held line) (λ _. tt)

sent_else : (s : Arrived) (f : CacheFlit) (a : Act) → On (Elsewhere f.agent.0 s) (sent_outcome a s f)
sent_else s f (Request k) = turn_else s f k (turn_at s f.agent.0 k)
sent_else s f (Resend k) = again_else s f (s.own f.agent.0).held
sent_else s f CompAck = on_if (Elsewhere f.agent.0 s) ((s.own f.agent.0).acks == 0) NotTaken (Taken (with_own s f.agent.0 (own_acknowledged (s.own f.agent.0)))) (λ _. tt) (λ _. own_else s f.agent.0 (own_acknowledged (s.own f.agent.0)))
sent_else s f (SnpResp y) = awaited_else s f
sent_else s f (CopyBackWrData form) = awaited_else s f
sent_else s f NonCopyBackWrData = awaited_else s f
sent_else s f (Load word) = tt
sent_else s f (Store word) = tt

bearing_else : (s : Arrived) (g : HomeFlit) (b : Bearing) → On (Elsewhere g.agent.0 s) (by_bearing b s g)
bearing_else s g bearings.Told =
    let n = g.agent.0 in
    let w = watch s.line (Down g) in
    let state = granted_state s w g in
    let taken = is_taken s.line (Down g) in
    let doubt = left_if (is_doubtful s g) in
    let line : Others n s.line (granted_line w g) = others_then n s.line w (granted_line w g) (given_others s.line g) (record { stores = refl; told = λ m h. refl; due = there n (due_acknowledged (w.seen.public.due n)) w.seen.public.due; snooped = λ m h. refl }) in
    on_if (Elsewhere n s) (is_full (s.own n).acks) LeftOpen (if is_busy_at s g then NotTaken else (if taken then Taken state else doubt)) (λ _. tt)
    (λ _. on_if (Elsewhere n s) (is_busy_at s g) NotTaken (if taken then Taken state else doubt) (λ _. tt)
    (λ _. on_if (Elsewhere n s) taken (Taken state) doubt (λ _. line_else s n (granted_line w g) (granted_own s w g) line) (λ _. on_if (Elsewhere n s) (is_doubtful s g) LeftOpen NotTaken (λ _. tt) (λ _. tt))))
bearing_else s g bearings.Retries = own_else s g.agent.0 (own_holding (s.own g.agent.0) helds.Retried)
bearing_else s g bearings.Ends = own_else s g.agent.0 (own_holding (s.own g.agent.0) helds.Evicted)
bearing_else s g bearings.Unknown = tt

up_else : (s : Arrived) (f : CacheFlit) → On (Elsewhere f.agent.0 s) (outcome s (Up f))
up_else s f = on_if (Elsewhere f.agent.0 s) (s.timed == 4294967295) LeftOpen (outcome_within s (Up f)) (λ _. tt)
    (λ _. on_if (Elsewhere f.agent.0 s) (nat_lt f.agent.0 32) (sent_outcome f.act s f) NotTaken (λ _. sent_else s f f.act) (λ _. tt))

down_else : (s : Arrived) (g : HomeFlit) → On (Elsewhere g.agent.0 s) (outcome s (Down g))
down_else s g = on_if (Elsewhere g.agent.0 s) (s.timed == 4294967295) LeftOpen (outcome_within s (Down g)) (λ _. tt)
    (λ _. on_if (Elsewhere g.agent.0 s) (nat_lt g.agent.0 32) (given s g) NotTaken (λ _. bearing_else s g (bearing_at s g)) (λ _. tt))

-- WHOLE LOGS
pub record Kept (es : List Flit) (s : Arrived) : Type 0 where
  pub stores : s.line.seen.public.stores ≡ Hidden
  pub beside : (n : ℕ) → n < 32 → (c : Cache) → Leaves n es c → Beside (seat s n) c

new_beside : (n : ℕ) → Beside (seat nothing_arrived n) new_cache
new_beside n = record {
  known = record { told = I; cancelled = false };
  reached = refl;
  place = Here refl refl refl (Rests (record { held = refl; request = refl; idle = refl; due = refl; whole = refl; sure = refl; told = refl; acks = refl }));
}

apart : (m n : ℕ) → (m == n) ≡ false → n ≢ m
apart m n h e = search (rules, arith)

-- A REQUEST THAT IS SENT AGAIN
abbrev kind_in : Option Kind → Kind
kind_in None = Evict
kind_in (Some k) = k

repeating : (k : Kind) (p : Seat) (s : Told) (c : Cache) → c.again ≡ Some k → Stands p s c → Repeating k p s c
repeating k p s c h (Rests a) = no (sym (ap is_none (sym a.idle ∙ h)))
repeating k p s c h (Acks a) = no (sym (ap is_none (sym a.idle ∙ h)))
repeating k p s c h (Repeats j a) = subst (λ i. Repeating i p s c) (ap kind_in (sym a.again ∙ h)) a
repeating k p s c h (Asks j e r a) = no (sym (ap is_none (sym a.idle ∙ h)))
repeating k p s c h (Waits j e r a) = no (sym (ap is_none (sym a.idle ∙ h)))

abbrev again_seat : Seat → Kind → Seat
again_seat p k = record { told = p.told; due = dues.SureCompletion k; snooped = p.snooped; own = own_resent p.own }

again_as : (s : Arrived) (f : CacheFlit) (k : Kind) → f.act ≡ Resend k → seat (with_own (with_line s (watch s.line (Up f))) f.agent.0 (own_resent (s.own f.agent.0))) f.agent.0 ≡ again_seat (seat s f.agent.0) k
again_as s f k ha =
    let n = f.agent.0 in
    let d = s.line.seen.public.due n in
    let q = s.line.seen.public.snooped n in
    let t = s.line.seen.told n in
    seat_of (watch s.line (Up f)) (put n (own_resent (s.own n)) s.own) s.timed n (again_seat (seat s n) k)
    (ap (λ (z : Known). z.told) (here n (told_after f.act d t (differs s.line.seen f)) s.line.seen.told) ∙ ap (λ (a : Act). told_behind a d t.told) ha)
    (here n (due_after f.act d) s.line.seen.public.due ∙ ap (λ (a : Act). due_after a d) ha)
    (here n (snooped_after f.act q) s.line.seen.public.snooped ∙ ap (λ (a : Act). snooped_after a q) ha)
    (here n (own_resent (s.own n)) s.own)

-- none comes ahead of an answer, and none of whom write data are awaited
again_ahead : (x : Act) (p : Seat) → p.snooped ≡ None → is_ready x p ≡ true → is_resending (behind x p).due ≡ true → false ≡ true
again_ahead (SnpResp y) p hq h e = sym (ap (allows (SnpResp y)) hq) ∙ left _ _ h
again_ahead (CopyBackWrData form) p hq h e = e
again_ahead NonCopyBackWrData p hq h e = e
again_ahead (Request k) p hq h e = h
again_ahead (Resend k) p hq h e = h
again_ahead CompAck p hq h e = h
again_ahead (Load word) p hq h e = h
again_ahead (Store word) p hq h e = h

again_place : (k : Kind) (p : Seat) (s : Told) (c : Cache) → p.snooped ≡ None → c.again ≡ Some k → Place p s c → Place (again_seat p k) s (came (Resend k) c)
again_place k p s c hq h (Here n w q st) =
    let a = repeating k p s c h st in
    Here n w q (Rests (record {
      held = a.held;
      request = a.request;
      idle = refl;
      due = a.due;
      whole = refl;
      sure = ap (λ u. is_sure_of u p.told (dues.SureCompletion k)) a.sure;
      told = ap (λ u. fine u s p.told) a.sure ∙ a.told;
      acks = a.acks;
    }))
again_place k p s c hq h (Ahead x n r q st) = no (again_ahead x p hq (left _ _ r) (repeating k (behind x p) s c h st).free)

again_on : (s : Arrived) (f : CacheFlit) (k : Kind) (c : Cache) (held : Held) → f.act ≡ Resend k → is_none (s.line.seen.public.snooped f.agent.0) ≡ true → c.again ≡ Some k → Beside (seat s f.agent.0) c
    → On (λ x. Beside (seat x f.agent.0) (came (Resend k) c)) (again_held held s f)
again_on s f k c helds.Nothing ha hq h m =
    let n = f.agent.0 in
    let P : Arrived → Type 0 = λ x. Beside (seat x n) (came (Resend k) c) in
    on_if P (is_taken s.line (Up f)) (Taken (with_own (with_line s (watch s.line (Up f))) n (own_resent (s.own n)))) NotTaken
    (λ _. subst (λ p. Beside p (came (Resend k) c)) (sym (again_as s f k ha)) (record { known = m.known; reached = m.reached; place = again_place k (seat s n) m.known.told c (none_is (s.line.seen.public.snooped n) hq) h m.place })) (λ _. tt)
again_on s f k c (helds.Open j) ha hq h m = tt
again_on s f k c helds.Retried ha hq h m = tt
again_on s f k c helds.Evicted ha hq h m = tt

judged_on : (b : Bool) (P : Arrived → Type 0) (o : Outcome) → Judged b P o → On P o
judged_on b P (Taken s) h = h
judged_on b P NotTaken h = tt
judged_on b P LeftOpen h = tt

again_kind : (a : Act) → is_again a ≡ true → (k : Kind) × (a ≡ Resend k)
again_kind (Resend k) h = (k, refl)
again_kind (Request k) h = no h
again_kind (SnpResp y) h = no h
again_kind CompAck h = no h
again_kind (CopyBackWrData form) h = no h
again_kind NonCopyBackWrData h = no h
again_kind (Load word) h = no h
again_kind (Store word) h = no h

up_on : (s : Arrived) (f : CacheFlit) (c : Cache) (b : Bool) → is_again f.act ≡ b → f.agent.0 < 32 → s.line.seen.public.stores ≡ Hidden → is_orderly s (Up f) ≡ true → IsOnWay f.act c → Beside (seat s f.agent.0) c
    → On (λ x. Beside (seat x f.agent.0) (came f.act c)) (outcome s (Up f))
up_on s f c false hb low hz ord h m = judged_on (words_fit (settled s f).seen f) (λ x. Beside (seat x f.agent.0) (came f.act c)) (outcome s (Up f)) (late_judged s f (words_fit (settled s f).seen f) c low hz refl hb h m)
up_on s f c true hb low hz ord h m =
    let n = f.agent.0 in
    let kind = again_kind f.act hb in
    let quiet : is_none (s.line.seen.public.snooped n) ≡ true = subst (λ z. (not z || is_none (s.line.seen.public.snooped n)) ≡ true) hb ord in
    let P : Arrived → Type 0 = λ x. Beside (seat x n) (came f.act c) in
    let there : On P (sent_outcome f.act s f) = subst (λ a. On (λ x. Beside (seat x n) (came a c)) (sent_outcome a s f)) (sym kind.1) (again_on s f kind.0 c (s.own n).held kind.1 quiet (subst (λ a. IsOnWay a c) kind.1 h) m) in
    on_if P (s.timed == 4294967295) LeftOpen (outcome_within s (Up f)) (λ _. tt) (λ _. on_if P (nat_lt n 32) (sent_outcome f.act s f) NotTaken (λ _. there) (λ _. tt))

up_beside : (s s' : Arrived) (f : CacheFlit) (n : ℕ) (before got c : Cache) (b : Bool) → (f.agent.0 == n) ≡ b → n < 32 → s.line.seen.public.stores ≡ Hidden → is_orderly s (Up f) ≡ true → outcome s (Up f) ≡ Taken s' → Beside (seat s n) before → Receives b f.act before got → Unseen got c → Beside (seat s' n) c
up_beside s s' f n before got c true h low hz ord e m r u =
    let same : f.agent.0 ≡ n = eqb-true f.agent.0 n h in
    let here : Beside (seat s' f.agent.0) (came f.act before) =
    subst (λ o. On (λ x. Beside (seat x f.agent.0) (came f.act before)) o) e
    (up_on s f before (is_again f.act) refl (subst (λ k. k < 32) (sym same) low) hz ord r.0 (subst (λ k. Beside (seat s k) before) (sym same) m)) in
    unseen (seat s' n) got c u (subst (λ x. Beside (seat s' n) x) (sym r.1) (subst (λ k. Beside (seat s' k) (came f.act before)) same here))
up_beside s s' f n before got c false h low hz ord e m r u =
    let there : Elsewhere f.agent.0 s s' = subst (λ o. On (Elsewhere f.agent.0 s) o) e (up_else s f) in
    unseen (seat s' n) got c u (subst (λ x. Beside (seat s' n) x) (sym r) (subst (λ p. Beside p before) (sym (there.seats n (apart f.agent.0 n h))) m))

pub within_given : (s s' : Arrived) (g : HomeFlit) (P : Arrived → Type 0) → On P (given s g) → outcome s (Down g) ≡ Taken s' → P s'
within_given s s' g P h e = subst (λ o. On P o) e (on_if P (s.timed == 4294967295) LeftOpen (outcome_within s (Down g)) (λ _. tt) (λ _. on_if P (nat_lt g.agent.0 32) (given s g) NotTaken (λ _. h) (λ _. tt)))

pub down_beside : (s s' : Arrived) (g : HomeFlit) (n : ℕ) (before c : Cache) (b : Bool) → (g.agent.0 == n) ≡ b → n < 32 → is_orderly s (Down g) ≡ true → outcome s (Down g) ≡ Taken s' → Beside (seat s n) before → Unseen (given_if b g.grant before) c → Beside (seat s' n) c
down_beside s s' g n before c true h low ord e m u =
    let same : g.agent.0 ≡ n = eqb-true g.agent.0 n h in
    let here : Beside (seat s' g.agent.0) (given_to g.grant before) = within_given s s' g (λ x. Beside (seat x g.agent.0) (given_to g.grant before))
    (given_on s g before (subst (λ k. k < 32) (sym same) low) ord (subst (λ k. Beside (seat s k) before) (sym same) m)) e in
    unseen (seat s' n) (given_to g.grant before) c u (subst (λ k. Beside (seat s' k) (given_to g.grant before)) same here)
down_beside s s' g n before c false h low ord e m u =
    let there : Elsewhere g.agent.0 s s' = subst (λ o. On (Elsewhere g.agent.0 s) o) e (down_else s g) in
    unseen (seat s' n) before c u (subst (λ p. Beside p before) (sym (there.seats n (apart g.agent.0 n h))) m)

pub kept : (es : List Flit) (s : Arrived) → Comes es s → Kept es s
kept [] s h = subst (λ x. Kept [] x) (sym h) (record { stores = refl; beside = λ n l c u. unseen (seat nothing_arrived n) new_cache c u (new_beside n) })
kept (Up f ∷ es) s (before, come, ord, e) =
    let k = kept es before come in
    let there : Elsewhere f.agent.0 before s = subst (λ o. On (Elsewhere f.agent.0 before) o) e (up_else before f) in
    record {
      stores = there.stores ∙ k.stores;
      beside = λ n l c h. up_beside before s f n h.0 h.1 c (f.agent.0 == n) refl l k.stores ord e (k.beside n l h.0 h.2) h.3 h.4;
    }
kept (Down g ∷ es) s (before, come, ord, e) =
    let k = kept es before come in
    let there : Elsewhere g.agent.0 before s = subst (λ o. On (Elsewhere g.agent.0 before) o) e (down_else before g) in
    record {
      stores = there.stores ∙ k.stores;
      beside = λ n l c h. down_beside before s g n h.0 c (g.agent.0 == n) refl l ord e (k.beside n l h.0 h.1) h.2;
    }

no_fault : (b : Bool) (P : Arrived → Type 0) (o : Outcome) → b ≡ true → Judged b P o → is_fault o ≡ false
no_fault b P (Taken s) hb h = refl
no_fault b P NotTaken hb h = no (sym h ∙ hb)
no_fault b P LeftOpen hb h = refl

pub taken : FlitsOnTheirWayAreTaken
taken es s f c come low h once w words =
    let k = kept es s come in
    let b = words_fit (settled s f).seen f in
    no_fault b (λ x. Beside (seat x f.agent.0) (came f.act c)) (outcome s (Up f)) words (late_judged s f b c low k.stores refl once w (k.beside f.agent.0 low c h))
