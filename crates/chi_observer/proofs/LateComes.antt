-- A request, a CompAck, an answer or write data that come late, and the request that was held for them.
use Rattle.std.proofs.Common.{rules, arith, ◌≡◌, ◌⊎◌, inl, inr, ℕ, suc, ◌<◌, refl, sym, subst, ap, ◌∙◌}
use Rattle.std.specs.Prelude.{Bool, true, false, ◌&&◌, ◌||◌, ◌==◌, ◌-◌, not, nat_lt, Option, Some, None, if◌then◌else◌}
use Rattle.chi_flit.specs.declared.state.State.{State}
use Rattle.chi_observer.specs.declared.kinds.Kind.{Kind}
use Rattle.chi_observer.specs.declared.kinds.Kind.TheVariants as kinds
use Rattle.chi_observer.specs.declared.kinds.Snoop.{Snoop}
use Rattle.chi_observer.specs.declared.told.Told.{Told}
use Rattle.chi_observer.specs.declared.told.Told.TheVariants as tolds
use Rattle.chi_observer.specs.declared.flits.Due.{Due}
use Rattle.chi_observer.specs.declared.flits.Due.TheVariants as dues
use Rattle.chi_observer.specs.declared.flits.Stores.{Stores as Listing}
use Rattle.chi_observer.specs.declared.flits.Stores.TheVariants.{Hidden}
use Rattle.chi_observer.specs.declared.flits.Answer.{Answer}
use Rattle.chi_observer.specs.declared.flits.Act.{Act}
use Rattle.chi_observer.specs.declared.flits.Act.TheVariants.{Request, Resend, SnpResp, CompAck, CopyBackWrData, NonCopyBackWrData, Load, Store}
use Rattle.chi_observer.specs.declared.flits.CacheFlit.{CacheFlit}
use Rattle.chi_observer.specs.declared.flits.Flit.TheVariants.{Up}
use Rattle.chi_observer.specs.declared.arriving.Held.{Held}
use Rattle.chi_observer.specs.declared.arriving.Held.TheVariants as helds
use Rattle.chi_observer.specs.declared.arriving.Earlier.{Earlier}
use Rattle.chi_observer.specs.declared.arriving.Arriving.{Arriving}
use Rattle.chi_observer.specs.declared.arriving.Turn.{Turn}
use Rattle.chi_observer.specs.declared.arriving.Turn.TheVariants as turns
use Rattle.chi_observer.specs.Judged.{judges_act}
use Rattle.chi_observer.specs.Rules.{allows, due_after, is_timed, is_whole_write, lets_go, may_be_free, snooped_after, throws, written}
use Rattle.chi_observer.specs.Tables.{Known, fits_issue, fits_told, reach, told_after, told_answered, told_as, told_behind, told_issued}
use Rattle.chi_observer.specs.Worlds.{put}
use Rattle.chi_observer.specs.Observed.{differs, words_fit}
use Rattle.chi_observer.specs.Lines.{Watched, is_taken, watch}
use Rattle.chi_observer.specs.Arriving.{clean_earlier, earlier_after, earlier_answered, earlier_of, fits_crossing, holds_none, issued_before, later_if, left_by_data, own_acknowledged, own_holding, nothing_earlier, own_told, says_dirty, turn_due, turn_free, turn_held, turn_of}
use Rattle.chi_observer.specs.Arrivals.{Arrived, acknowledged, answered, awaited, by_turn, earlier_at, known_as, outcome, outcome_within, played, request_of, requested, sent_outcome, settled, told_if, turn_at, with_line, with_own}
use Rattle.chi_observer.specs.Arrivals.Outcome.{Taken, NotTaken, LeftOpen}
use Rattle.chi_observer.specs.Late.{Cache, IsOnWay, came, is_again, is_none}
use Rattle.chi_observer.proofs.Finite.{no, left, right, both, implies}
use Rattle.chi_observer.proofs.Put.{here}
use Rattle.chi_observer.proofs.CrossingTables.{fine, fits_by, is_early, is_left, meet, pend, still, still_is}
use Rattle.chi_observer.proofs.LateTables.{ahead_of, is_sure_of}
use Rattle.chi_observer.proofs.Seats.{Asking, Beside, Place, Seat, Stands, behind, is_answer, is_ready, known_to, overwrites_of, stands_alike, told_seen, writes_of}
use Rattle.chi_observer.proofs.Seats.Stands.{Rests, Acks, Repeats, Asks, Waits}
use Rattle.chi_observer.proofs.Seats.Place.{Here, Ahead}
use Rattle.chi_observer.proofs.LateFlits.{Judged, early_only, issued_judged, judged_if, low_is, seat, seat_of}

-- REQUESTS
abbrev kind_in : Option Kind → Kind
kind_in None = kinds.Evict
kind_in (Some k) = k

some_kind : (j k : Kind) (o : Option Kind) → o ≡ Some j → o ≡ Some k → j ≡ k
some_kind j k o h e = ap kind_in (sym h ∙ e)

none_some : {A : Type 0} (x : A) (o : Option A) → o ≡ None → o ≡ Some x → false ≡ true
none_some x o h e = sym (ap is_none (sym h ∙ e))

abbrev with_own_of : Seat → Arriving → Seat
with_own_of p own = record { told = p.told; due = p.due; snooped = p.snooped; own = own }

own_seat : (s : Arrived) (n : ℕ) (own : Arriving) → seat (with_own s n own) n ≡ with_own_of (seat s n) own
own_seat s n own = seat_of s.line (put n own s.own) s.timed n (with_own_of (seat s n) own) refl refl refl (here n own s.own)

turn_moved : (own : Arriving) (d e : Due) (q r : Option Snoop) (t : Told) (k : Kind) → own.held ≡ helds.Nothing → d ≡ e → q ≡ r → turn_of own d q t k ≡ turn_due own e r t k
turn_moved own d e q r t k hh hd hq = ap (λ (h : Held). turn_held h (turn_due own d q t k)) hh ∙ ap (λ (z : Due). turn_due own z q t k) hd ∙ ap (λ (z : Option Snoop). turn_due own e z t k) hq

due_free : (own : Arriving) (d : Due) (q : Option Snoop) (t : Told) (k : Kind) → may_be_free d ≡ true → turn_due own d q t k ≡ turn_free own q t k
due_free own dues.Nothing q t k h = refl
due_free own (dues.Resending asked) q t k h = refl
due_free own (dues.Completion asked) q t k h = no h
due_free own (dues.SureCompletion asked) q t k h = no h
due_free own (dues.WriteData asked) q t k h = no h
due_free own dues.Acknowledgement q t k h = no h

free_turn : (own : Arriving) (d : Due) (q r : Option Snoop) (t : Told) (k : Kind) → own.held ≡ helds.Nothing → may_be_free d ≡ true → q ≡ r → turn_of own d q t k ≡ turn_free own r t k
free_turn own d q r t k hh hd hq = ap (λ (h : Held). turn_held h (turn_due own d q t k)) hh ∙ due_free own d q t k hd ∙ ap (λ (z : Option Snoop). turn_free own z t k) hq

-- it may have been sent from what is told, or before
pend_some : (b f g l e : Bool) → ((f && g) || ((b && e) && l)) ≡ true → (b || f) ≡ true
pend_some true f g l e h = refl
pend_some false true g l e h = refl
pend_some false false g l e h = no h

or_more : (b f r : Bool) → (b || f) ≡ true → (b || (f || r)) ≡ true
or_more true f r h = refl
or_more false true r h = refl
or_more false false r h = no h

record Requesting (s : Arrived) (n : ℕ) (k : Kind) (c : Cache) : Type 0 where
  known : Known
  reached : reach Hidden c.due known c.held ≡ true
  held : (s.own n).held ≡ helds.Nothing

abbrev holding : Arrived → ℕ → Kind → Arrived
holding s n k = with_own s n (own_holding (s.own n) (helds.Open k))

abbrev held_seat : Arrived → ℕ → Kind → Seat
held_seat s n k = with_own_of (seat s n) (own_holding (s.own n) (helds.Open k))

-- it is held
held_beside : (s : Arrived) (n : ℕ) (k : Kind) (c : Cache) (known : Known) → reach Hidden c.due known c.held ≡ true → Place (held_seat s n k) known.told c → Beside (seat (holding s n k) n) c
held_beside s n k c known r pl = subst (λ p. Beside p c) (sym (own_seat s n (own_holding (s.own n) (helds.Open k)))) (record { known = known; reached = r; place = pl })

here_asks : (s : Arrived) (f : CacheFlit) (k : Kind) (b : Bool) (c : Cache) (known : Known) (q : Option Snoop) → f.act ≡ Request k → f.agent.0 < 32 → s.line.seen.public.stores ≡ Hidden → s.line.seen.public.snooped f.agent.0 ≡ q
    → reach Hidden c.due known c.held ≡ true → c.answer ≡ None → c.snooped ≡ s.line.seen.public.snooped f.agent.0 → (s.own f.agent.0).held ≡ helds.Nothing → Asking k (seat s f.agent.0) known.told c
    → Judged b (λ s'. Beside (seat s' f.agent.0) (came (Request k) c)) (requested s f k)
here_asks s f k b c known None ha low hz hq r hn hs hh a =
    let n = f.agent.0 in
    let own = s.own n in
    let t = (s.line.seen.told n).told in
    let turn : turn_at s n k ≡ turns.Now = free_turn own (s.line.seen.public.due n) (s.line.seen.public.snooped n) None t k hh a.free hq ∙ ap (λ (u : Bool). if u then turns.Unknown else turns.Now) a.sure in
    subst (λ x. Judged b (λ s'. Beside (seat s' n) (came (Request k) c)) (by_turn x s f k)) (sym turn)
    (issued_judged s s.line f k own.earlier false b (came (Request k) c) ha low hz a.free (record {
      known = known;
      reached = r;
      due = a.due;
      request = refl;
      idle = a.idle;
      answer = hn;
      snooped = hs;
      from = a.from;
      acks = a.acks;
    }))
here_asks s f k b c known (Some q) ha low hz hq r hn hs hh a =
    let n = f.agent.0 in
    let own = s.own n in
    let t = (s.line.seen.told n).told in
    let crossing : (issued_before own.earlier k || fits_crossing q k t) ≡ true = or_more (issued_before own.earlier k) (fits_issue k true t) _ (pend_some (issued_before own.earlier k) (fits_issue k true t) (fine false known.told (told_issued k t)) (is_left k known.told t) (is_early k) a.from) in
    let turn : turn_at s n k ≡ turns.Later = free_turn own (s.line.seen.public.due n) (s.line.seen.public.snooped n) (Some q) t k hh a.free hq
    ∙ ap (λ (u : Bool). if u then turns.Unknown else later_if (issued_before own.earlier k || fits_crossing q k t)) a.sure ∙ ap later_if crossing in
    subst (λ x. Judged b (λ s'. Beside (seat s' n) (came (Request k) c)) (by_turn x s f k)) (sym turn)
    (held_beside s n k (came (Request k) c) known r (Here hn (ap (λ z. not (is_none z)) hq) hs (Waits k refl refl (record { due = a.due; idle = a.idle; free = a.free; sure = a.sure; from = a.from; acks = a.acks }))))

-- an answer, or write data, are on their way
abbrev ahead_turn : Arrived → ℕ → Kind → Turn → Type 0
ahead_turn s n k turn = (turn ≡ turns.Later) ⊎ (turn ≡ turns.Unknown)

meet_or : (k : Kind) (b g : Bool) (s t : Told) (c : Bool) → c ≡ g → ((fits_issue k true t && fine false s (told_issued k t)) || ((g && is_early k) && is_left k s t)) ≡ true → (c || fits_issue k true t) ≡ true
meet_or k b g s t c h e = ap (λ (x : Bool). x || fits_issue k true t) h ∙ pend_some g (fits_issue k true t) (fine false s (told_issued k t)) (is_left k s t) (is_early k) e

early_and : (b e : Bool) → implies b e ≡ true → (b && e) ≡ b
early_and true e h = h
early_and false e h = refl

abbrev seen_if : Bool → Answer → Option Snoop → Told → Told
seen_if u y q t = told_if (u && not (says_dirty (SnpResp y) (lets_go q))) t

abbrev earlier_if : Bool → Arriving → Answer → Option Snoop → Earlier
earlier_if u own y q = if u && throws (SnpResp y) (lets_go q) then clean_earlier own.earlier else own.earlier

unsure_turn : (own : Arriving) (q : Option Snoop) (t : Told) (k : Kind) → own.unsure ≡ true → turn_free own q t k ≡ turns.Unknown
unsure_turn own None t k h = ap (λ (u : Bool). if u then turns.Unknown else turns.Now) h
unsure_turn own (Some x) t k h = ap (λ (u : Bool). if u then turns.Unknown else later_if (issued_before own.earlier k || fits_crossing x k t)) h

answer_turn : (s : Arrived) (n : ℕ) (k : Kind) (y : Answer) (known : Told) (c : Cache) (u : Bool) (q : Option Snoop) → (s.own n).unsure ≡ u → s.line.seen.public.snooped n ≡ q → is_ready (SnpResp y) (seat s n) ≡ true → (s.own n).held ≡ helds.Nothing
    → Asking k (behind (SnpResp y) (seat s n)) known c → ahead_turn s n k (turn_at s n k)
answer_turn s n k y known c true q hu hq ready hh a =
    inr (free_turn (s.own n) (s.line.seen.public.due n) (s.line.seen.public.snooped n) (s.line.seen.public.snooped n) (s.line.seen.told n).told k hh a.free refl ∙ unsure_turn (s.own n) (s.line.seen.public.snooped n) (s.line.seen.told n).told k hu)
answer_turn s n k y known c false None hu hq ready hh a = no (sym (ap (allows (SnpResp y)) hq) ∙ left _ _ ready)
answer_turn s n k y known c false (Some q) hu hq ready hh a =
    let own = s.own n in
    let t = (s.line.seen.told n).told in
    let d = s.line.seen.public.due n in
    let q0 = s.line.seen.public.snooped n in
    let b = issued_before own.earlier k in
    let p = seat s n in
    let goes = throws (SnpResp y) (lets_go (Some q)) in
    let fits0 : fits_told Hidden (SnpResp y) (lets_go q0) d (known_to (told_seen (SnpResp y) p)) ≡ true = right (allows (SnpResp y) q0) _ ready in
    let fits1 : fits_by y true (lets_go q0) (told_seen (SnpResp y) p) ≡ true = subst (λ m. fits_by y m (lets_go q0) (told_seen (SnpResp y) p) ≡ true) a.free fits0 in
    let fits2 : fits_by y true (lets_go q0) t ≡ true = subst (λ z. fits_by y true (lets_go q0) (seen_if z y q0 t) ≡ true) hu fits1 in
    let fits : fits_by y true (lets_go (Some q)) t ≡ true = subst (λ z. fits_by y true (lets_go z) t ≡ true) hq fits2 in
    let from0 : pend k (issued_before (earlier_after (SnpResp y) (lets_go q0) dues.Nothing (told_seen (SnpResp y) p) (earlier_of own (SnpResp y) (lets_go q0))) k) known (told_answered y (told_seen (SnpResp y) p)) ≡ true =
    subst (λ m. pend k (issued_before (if m then earlier_answered y (throws (SnpResp y) (lets_go q0)) (told_seen (SnpResp y) p) (earlier_of own (SnpResp y) (lets_go q0)) else nothing_earlier) k) known (told_answered y (told_seen (SnpResp y) p)) ≡ true) a.free a.from in
    let from1 : pend k (issued_before (earlier_after (SnpResp y) (lets_go q0) dues.Nothing t own.earlier) k) known (told_answered y t) ≡ true =
    subst (λ z. pend k (issued_before (earlier_after (SnpResp y) (lets_go q0) dues.Nothing (seen_if z y q0 t) (earlier_if z own y q0)) k) known (told_answered y (seen_if z y q0 t)) ≡ true) hu from0 in
    let from2 : pend k (issued_before (earlier_after (SnpResp y) (lets_go (Some q)) dues.Nothing t own.earlier) k) known (told_answered y t) ≡ true =
    subst (λ z. pend k (issued_before (earlier_after (SnpResp y) (lets_go z) dues.Nothing t own.earlier) k) known (told_answered y t) ≡ true) hq from1 in
    let was : (b && is_early k) ≡ b = early_and b (is_early k) (early_only k own.earlier) in
    let some : (still k y goes t (b && is_early k) || fits_issue k true (told_answered y t)) ≡ true = meet_or k b (issued_before (earlier_after (SnpResp y) (lets_go (Some q)) dues.Nothing t own.earlier) k) known (told_answered y t) (still k y goes t (b && is_early k))
    (ap (still k y goes t) was ∙ sym (still_is k y goes t own.earlier)) from2 in
    let crossing : (b || fits_crossing q k t) ≡ true = sym (ap (λ (z : Bool). z || fits_crossing q k t) was) ∙ meet k q b t y (both _ _ (both _ _ (subst (λ z. allows (SnpResp y) z ≡ true) hq (left _ _ ready)) fits) some) in
    inl (free_turn own d q0 (Some q) t k hh a.free hq ∙ ap (λ (u : Bool). if u then turns.Unknown else later_if (b || fits_crossing q k t)) hu ∙ ap later_if crossing)

never_before : (k : Kind) → issued_before nothing_earlier k ≡ false
never_before kinds.ReadNotSharedDirty = refl
never_before kinds.ReadShared = refl
never_before kinds.ReadClean = refl
never_before kinds.ReadOnce = refl
never_before kinds.ReadUnique = refl
never_before kinds.CleanUnique = refl
never_before kinds.MakeUnique = refl
never_before kinds.CleanShared = refl
never_before kinds.CleanInvalid = refl
never_before kinds.MakeInvalid = refl
never_before kinds.Evict = refl
never_before kinds.WriteBackFull = refl
never_before kinds.WriteCleanFull = refl
never_before kinds.WriteEvictFull = refl
never_before kinds.WriteUniqueFull = refl

pend_now : (k : Kind) (s t : Told) → pend k (issued_before nothing_earlier k) s t ≡ true → fits_issue k true t ≡ true
pend_now k s t h = pend_some false (fits_issue k true t) (fine false s (told_issued k t)) (is_left k s t) (is_early k) (subst (λ b. pend k b s t ≡ true) (never_before k) h)

data_turn : (s : Arrived) (n : ℕ) (k : Kind) (form : State) (known : Told) (c : Cache) → (is_ready (CopyBackWrData form) (seat s n) && is_sure_of (s.own n).unsure (s.line.seen.told n).told (s.line.seen.public.due n)) ≡ true → (s.own n).held ≡ helds.Nothing
    → Asking k (behind (CopyBackWrData form) (seat s n)) known c → ahead_turn s n k (turn_at s n k)
data_turn s n k form known c ready hh a =
    let own = s.own n in
    let t = (s.line.seen.told n).told in
    let q = s.line.seen.public.snooped n in
    let p = seat s n in
    let w = writes_of form (lets_go q) (s.line.seen.public.due n) (known_to (told_seen (CopyBackWrData form) p)) (left _ _ ready) in
    let sure : is_sure_of own.unsure t (dues.WriteData w.kind) ≡ true = subst (λ z. is_sure_of own.unsure t z ≡ true) w.due (right (is_ready (CopyBackWrData form) p) _ ready) in
    let from : pend k (issued_before nothing_earlier k) known (told_as (written w.kind form)) ≡ true = subst (λ z. pend k (issued_before nothing_earlier k) known (told_behind (CopyBackWrData form) z (told_seen (CopyBackWrData form) p)) ≡ true) w.due a.from in
    inl (turn_moved own (s.line.seen.public.due n) (dues.WriteData w.kind) q q t k hh w.due refl
    ∙ ap later_if (ahead_of w.kind k own.unsure t form (both _ _ w.backs (both _ _ sure w.fits)) (pend_now k known (told_as (written w.kind form)) from)))

whole_left : (kind : Kind) (t : Told) → is_whole_write kind ≡ true → left_by_data kind t ≡ tolds.I
whole_left kinds.WriteUniqueFull t h = refl
whole_left kinds.ReadNotSharedDirty t h = no h
whole_left kinds.ReadShared t h = no h
whole_left kinds.ReadClean t h = no h
whole_left kinds.ReadOnce t h = no h
whole_left kinds.ReadUnique t h = no h
whole_left kinds.CleanUnique t h = no h
whole_left kinds.MakeUnique t h = no h
whole_left kinds.CleanShared t h = no h
whole_left kinds.CleanInvalid t h = no h
whole_left kinds.MakeInvalid t h = no h
whole_left kinds.Evict t h = no h
whole_left kinds.WriteBackFull t h = no h
whole_left kinds.WriteCleanFull t h = no h
whole_left kinds.WriteEvictFull t h = no h

whole_turn : (s : Arrived) (n : ℕ) (k : Kind) (known : Told) (c : Cache) → is_ready NonCopyBackWrData (seat s n) ≡ true → (s.own n).held ≡ helds.Nothing → Asking k (behind NonCopyBackWrData (seat s n)) known c → ahead_turn s n k (turn_at s n k)
whole_turn s n k known c ready hh a =
    let own = s.own n in
    let t = (s.line.seen.told n).told in
    let q = s.line.seen.public.snooped n in
    let w = overwrites_of (lets_go q) (s.line.seen.public.due n) (known_to (told_seen NonCopyBackWrData (seat s n))) ready in
    let fits : fits_issue k true (left_by_data w.kind t) ≡ true = subst (λ z. fits_issue k true z ≡ true) (sym (whole_left w.kind t w.whole)) (pend_now k known tolds.I a.from) in
    inl (turn_moved own (s.line.seen.public.due n) (dues.WriteData w.kind) q q t k hh w.due refl ∙ ap later_if fits)

any_turn : (x : Act) (s : Arrived) (n : ℕ) (k : Kind) (known : Told) (c : Cache) → (is_ready x (seat s n) && is_sure_of (s.own n).unsure (s.line.seen.told n).told (s.line.seen.public.due n)) ≡ true → (s.own n).held ≡ helds.Nothing
    → Asking k (behind x (seat s n)) known c → ahead_turn s n k (turn_at s n k)
any_turn (SnpResp y) s n k known c ready hh a = answer_turn s n k y known c (s.own n).unsure (s.line.seen.public.snooped n) refl refl (left _ _ ready) hh a
any_turn (CopyBackWrData form) s n k known c ready hh a = data_turn s n k form known c ready hh a
any_turn NonCopyBackWrData s n k known c ready hh a = whole_turn s n k known c (left _ _ ready) hh a
any_turn (Request kind) s n k known c ready hh a = no ready
any_turn (Resend kind) s n k known c ready hh a = no ready
any_turn CompAck s n k known c ready hh a = no ready
any_turn (Load word) s n k known c ready hh a = no ready
any_turn (Store word) s n k known c ready hh a = no ready

ahead_judged : (s : Arrived) (f : CacheFlit) (k : Kind) (b : Bool) (c : Cache) → ahead_turn s f.agent.0 k (turn_at s f.agent.0 k) → Beside (seat (holding s f.agent.0 k) f.agent.0) (came (Request k) c) → Judged b (λ s'. Beside (seat s' f.agent.0) (came (Request k) c)) (requested s f k)
ahead_judged s f k b c (inl h) m = subst (λ x. Judged b (λ s'. Beside (seat s' f.agent.0) (came (Request k) c)) (by_turn x s f k)) (sym h) m
ahead_judged s f k b c (inr h) m = subst (λ x. Judged b (λ s'. Beside (seat s' f.agent.0) (came (Request k) c)) (by_turn x s f k)) (sym h) tt

-- the one that asks
record Found (k : Kind) (p : Seat) (s : Told) (c : Cache) : Type 0 where
  held : p.own.held ≡ helds.Nothing
  asks : Asking k p s c

found : (k : Kind) (p : Seat) (s : Told) (c : Cache) → c.request ≡ Some k → Stands p s c → Found k p s c
found k p s c h (Rests a) = no (none_some k c.request a.request h)
found k p s c h (Repeats j a) = no (none_some k c.request a.request h)
found k p s c h (Acks a) = no (none_some k c.request a.request h)
found k p s c h (Waits j e r a) = no (none_some k c.request r h)
found k p s c h (Asks j e r a) = record { held = e; asks = subst (λ i. Asking i p s c) (some_kind j k c.request r h) a }

requested_place : (s : Arrived) (f : CacheFlit) (k : Kind) (b : Bool) (c : Cache) (known : Known) → f.act ≡ Request k → f.agent.0 < 32 → s.line.seen.public.stores ≡ Hidden → c.request ≡ Some k
    → reach Hidden c.due known c.held ≡ true → Place (seat s f.agent.0) known.told c → Judged b (λ s'. Beside (seat s' f.agent.0) (came (Request k) c)) (requested s f k)
requested_place s f k b c known ha low hz hr r (Here hn w hs st) =
    let g = found k (seat s f.agent.0) known.told c hr st in
    here_asks s f k b c known (s.line.seen.public.snooped f.agent.0) ha low hz refl r hn hs g.held g.asks
requested_place s f k b c known ha low hz hr r (Ahead x hn ready hs st) =
    let n = f.agent.0 in
    let g = found k (behind x (seat s n)) known.told c hr st in
    ahead_judged s f k b c (any_turn x s n k known.told c ready g.held g.asks)
    (held_beside s n k (came (Request k) c) known r (Ahead x hn ready hs (Waits k refl refl (record { due = g.asks.due; idle = g.asks.idle; free = g.asks.free; sure = refl; from = g.asks.from; acks = g.asks.acks }))))

-- COMPACK
abbrev acked_seat : Seat → Seat
acked_seat p = with_own_of p (own_acknowledged p.own)

less : (a b : ℕ) → 0 < a → suc a ≡ b → suc (a - 1) ≡ b - 1
less a b h e = search (rules, arith)

acked_stands : (p : Seat) (s : Told) (c : Cache) → 0 < c.acks → Stands p s c → Stands (acked_seat p) s (came CompAck c)
acked_stands p s c h (Rests a) = Rests (record { held = a.held; request = a.request; idle = a.idle; due = a.due; whole = a.whole; sure = a.sure; told = a.told; acks = ap (λ n. n - 1) a.acks })
acked_stands p s c h (Acks a) = Acks (record { held = a.held; request = a.request; idle = a.idle; due = a.due; free = a.free; sure = a.sure; quiet = a.quiet; told = a.told; acks = less c.acks p.own.acks h a.acks })
acked_stands p s c h (Repeats k a) = Repeats k (record { held = a.held; request = a.request; again = a.again; due = a.due; free = a.free; sure = a.sure; told = a.told; acks = ap (λ n. n - 1) a.acks })
acked_stands p s c h (Asks k e r a) = Asks k e r (record { due = a.due; idle = a.idle; free = a.free; sure = a.sure; from = a.from; acks = ap (λ n. n - 1) a.acks })
acked_stands p s c h (Waits k e r a) = Waits k e r (record { due = a.due; idle = a.idle; free = a.free; sure = a.sure; from = a.from; acks = ap (λ n. n - 1) a.acks })

acked_place : (p : Seat) (s : Told) (c : Cache) → 0 < c.acks → Place p s c → Place (acked_seat p) s (came CompAck c)
acked_place p s c h (Here n w q st) = Here n w q (acked_stands p s c h st)
acked_place p s c h (Ahead x n w q st) = Ahead x n w q (acked_stands (behind x p) s c h st)

some_less : (a b : ℕ) → 0 < a → a ≡ b → (b == 0) ≡ false
some_less a b h e = search (rules, arith)

some_more : (a b : ℕ) → suc a ≡ b → (b == 0) ≡ false
some_more a b e = search (rules, arith)

some_acks : (p : Seat) (s : Told) (c : Cache) → 0 < c.acks → Stands p s c → (p.own.acks == 0) ≡ false
some_acks p s c h (Rests a) = some_less c.acks p.own.acks h a.acks
some_acks p s c h (Acks a) = some_more c.acks p.own.acks a.acks
some_acks p s c h (Repeats k a) = some_less c.acks p.own.acks h a.acks
some_acks p s c h (Asks k e r a) = some_less c.acks p.own.acks h a.acks
some_acks p s c h (Waits k e r a) = some_less c.acks p.own.acks h a.acks

place_acks : (p : Seat) (s : Told) (c : Cache) → 0 < c.acks → Place p s c → (p.own.acks == 0) ≡ false
place_acks p s c h (Here n w q st) = some_acks p s c h st
place_acks p s c h (Ahead x n w q st) = some_acks (behind x p) s c h st

acked_judged : (s : Arrived) (f : CacheFlit) (b : Bool) (c : Cache) → 0 < c.acks → Beside (seat s f.agent.0) c → Judged b (λ s'. Beside (seat s' f.agent.0) (came CompAck c)) (acknowledged s f)
acked_judged s f b c h m =
    let n = f.agent.0 in
    let P : Arrived → Type 0 = λ s'. Beside (seat s' n) (came CompAck c) in
    judged_if b ((s.own n).acks == 0) P NotTaken (Taken (with_own s n (own_acknowledged (s.own n))))
    (λ e. no (sym (place_acks (seat s n) m.known.told c h m.place) ∙ e))
    (λ _. subst (λ p. Beside p (came CompAck c)) (sym (own_seat s n (own_acknowledged (s.own n)))) (record { known = m.known; reached = m.reached; place = acked_place (seat s n) m.known.told c h m.place }))

-- AN ANSWER, WRITE DATA
abbrev gone : Cache → Cache
gone c = record { held = c.held; due = c.due; snooped = c.snooped; request = c.request; again = c.again; answer = None; acks = c.acks }

record Coming (a : Act) (p : Seat) (s : Told) (c : Cache) : Type 0 where
  ready : (is_ready a p && is_sure_of p.own.unsure p.told p.due) ≡ true
  snooped : c.snooped ≡ snooped_after a p.snooped
  stands : Stands (behind a p) s c

abbrev act_in : Option Act → Act
act_in None = CompAck
act_in (Some a) = a

coming : (a : Act) (p : Seat) (s : Told) (c : Cache) → c.answer ≡ Some a → Place p s c → Coming a p s c
coming a p s c h (Here n w q st) = no (none_some a c.answer n h)
coming a p s c h (Ahead x n r q st) = subst (λ z. Coming z p s c) (ap act_in (sym n ∙ h)) (record { ready = r; snooped = q; stands = st })

abbrev known_of : Told → Bool → Known
known_of t b = record { told = t; cancelled = b }

fits_known : (z : Listing) (a : Act) (x : Bool) (d : Due) (t : Told) (b e : Bool) → is_answer a ≡ true → fits_told z a x d (known_of t b) ≡ fits_told z a x d (known_of t e)
fits_known z (SnpResp y) x d t b e h = refl
fits_known z (CopyBackWrData form) x (dues.WriteData kind) t b e h = refl
fits_known z (CopyBackWrData form) x dues.Nothing t b e h = refl
fits_known z (CopyBackWrData form) x (dues.Completion kind) t b e h = refl
fits_known z (CopyBackWrData form) x (dues.Resending kind) t b e h = refl
fits_known z (CopyBackWrData form) x (dues.SureCompletion kind) t b e h = refl
fits_known z (CopyBackWrData form) x dues.Acknowledgement t b e h = refl
fits_known z NonCopyBackWrData x (dues.WriteData kind) t b e h = refl
fits_known z NonCopyBackWrData x dues.Nothing t b e h = refl
fits_known z NonCopyBackWrData x (dues.Completion kind) t b e h = refl
fits_known z NonCopyBackWrData x (dues.Resending kind) t b e h = refl
fits_known z NonCopyBackWrData x (dues.SureCompletion kind) t b e h = refl
fits_known z NonCopyBackWrData x dues.Acknowledgement t b e h = refl
fits_known z (Request kind) x d t b e h = no h
fits_known z (Resend kind) x d t b e h = no h
fits_known z CompAck x d t b e h = no h
fits_known z (Load word) x d t b e h = no h
fits_known z (Store word) x d t b e h = no h

judges_all : (a : Act) → judges_act a ≡ true
judges_all (Request kind) = refl
judges_all (Resend kind) = refl
judges_all (SnpResp y) = refl
judges_all CompAck = refl
judges_all (CopyBackWrData form) = refl
judges_all NonCopyBackWrData = refl
judges_all (Load word) = refl
judges_all (Store word) = refl

all_but : (a b c d w : Bool) → a ≡ true → b ≡ true → c ≡ true → d ≡ true → (a && (b && (c && (d && w)))) ≡ w
all_but a b c d w ha hb hc hd = λ i. ha i && (hb i && (hc i && (hd i && w)))

module _ (s : Arrived) (f : CacheFlit) (b : Bool) (c : Cache) (known : Known) (ha : is_answer f.act ≡ true) (low : f.agent.0 < 32) (hz : s.line.seen.public.stores ≡ Hidden) (r : reach Hidden c.due known c.held ≡ true) (at : Coming f.act (seat s f.agent.0) known.told c) where
  abbrev n : ℕ
  n = f.agent.0

  abbrev own : Arriving
  own = s.own n

  abbrev d : Due
  d = s.line.seen.public.due n

  abbrev q : Option Snoop
  q = s.line.seen.public.snooped n

  abbrev p : Seat
  p = seat s n

  abbrev t2 : Told
  t2 = told_seen f.act p

  abbrev W : Watched
  W = answered s (watch (settled s f) (Up f)) f

  abbrev e2 : Earlier
  e2 = earlier_after f.act (lets_go q) d t2 (earlier_of own f.act (lets_go q))

  abbrev P : Arrived → Type 0
  P s' = Beside (seat s' n) (gone c)

  ready : is_ready f.act p ≡ true
  ready = left _ _ at.ready

  allowed : allows f.act q ≡ true
  allowed = left _ _ (right (is_answer f.act) _ ready)

  fits : fits_told Hidden f.act (lets_go q) d (known_to t2) ≡ true
  fits = right (allows f.act q) _ (right (is_answer f.act) _ ready)

  settled_told : (settled s f).seen.told n ≡ known_as (s.line.seen.told n) t2
  settled_told = here n (known_as (s.line.seen.told n) t2) s.line.seen.told

  fits_here : fits_told s.line.seen.public.stores f.act (lets_go q) d ((settled s f).seen.told n) ≡ true
  fits_here = subst (λ z. fits_told z f.act (lets_go q) d ((settled s f).seen.told n) ≡ true) (sym hz)
      (ap (λ k. fits_told Hidden f.act (lets_go q) d k) settled_told ∙ fits_known Hidden f.act (lets_go q) d t2 (s.line.seen.told n).cancelled false ha ∙ fits)

  taken_words : is_taken (settled s f) (Up f) ≡ words_fit (settled s f).seen f
  taken_words = all_but (judges_act f.act) (nat_lt n 32) (allows f.act q) (fits_told s.line.seen.public.stores f.act (lets_go q) d ((settled s f).seen.told n)) (words_fit (settled s f).seen f)
      (judges_all f.act) (low_is n low) allowed fits_here

  behind_told : (W.seen.told n).told ≡ told_behind f.act d t2
  behind_told = ap (λ (x : Known). x.told) (here n (told_after f.act d ((settled s f).seen.told n) (differs (settled s f).seen f)) (settled s f).seen.told)
      ∙ ap (λ (k : Known). told_behind f.act d k.told) settled_told

  behind_due : W.seen.public.due n ≡ due_after f.act d
  behind_due = here n (due_after f.act d) s.line.seen.public.due

  behind_snooped : W.seen.public.snooped n ≡ snooped_after f.act q
  behind_snooped = here n (snooped_after f.act q) s.line.seen.public.snooped

  behind_earlier : earlier_at s f ≡ e2
  behind_earlier = ap (λ (k : Known). earlier_after f.act (lets_go q) d k.told (earlier_of own f.act (lets_go q))) settled_told

  rests : own.held ≡ helds.Nothing → Judged b P (played own.held s W f (earlier_at s f))
  rests hh =
      let own_same : own_told own (earlier_at s f) ≡ own_holding (own_told own e2) own.held = ap (own_told own) behind_earlier ∙ ap (own_holding (own_told own e2)) (sym hh) in
      let same : seat (with_own (with_line s W) n (own_told own (earlier_at s f))) n ≡ behind f.act p =
      seat_of W (put n (own_told own (earlier_at s f)) s.own) s.timed n (behind f.act p) behind_told behind_due behind_snooped (here n (own_told own (earlier_at s f)) s.own ∙ own_same) in
      subst (λ h. Judged b P (played h s W f (earlier_at s f))) (sym hh) (subst (λ x. Beside x (gone c)) (sym same) (record {
        known = known;
        reached = r;
        place = Here refl (subst (λ h. (holds_none h || not (is_none (snooped_after f.act q))) ≡ true) (sym hh) refl) at.snooped
            (stands_alike (behind f.act p) known.told c (gone c) (record { due = refl; request = refl; again = refl; acks = refl }) at.stands);
      }))

  waits : (k : Kind) → own.held ≡ helds.Open k → c.request ≡ None → Asking k (behind f.act p) known.told c → Judged b P (played own.held s W f (earlier_at s f))
  waits k hh hr a = subst (λ h. Judged b P (played h s W f (earlier_at s f))) (sym hh)
      (issued_judged s W (request_of f k) k (earlier_at s f) (is_timed k) b (gone c) refl low hz (ap may_be_free behind_due ∙ a.free) (record {
        known = known;
        reached = r;
        due = a.due;
        request = hr;
        idle = a.idle;
        answer = refl;
        snooped = at.snooped ∙ sym behind_snooped;
        from = subst (λ t. pend k (issued_before (earlier_at s f) k) known.told t ≡ true) (sym behind_told)
            (subst (λ e. pend k (issued_before e k) known.told (told_behind f.act d t2) ≡ true) (sym behind_earlier) a.from);
        acks = a.acks;
      }))

  plays : Stands (behind f.act p) known.told c → Judged b P (played own.held s W f (earlier_at s f))
  plays (Rests a) = rests a.held
  plays (Acks a) = rests a.held
  plays (Repeats k a) = rests a.held
  plays (Asks k h e a) = rests h
  plays (Waits k h e a) = waits k h e a

  awaited_judged : b ≡ words_fit (settled s f).seen f → Judged b P (awaited s f)
  awaited_judged hb = judged_if b (is_taken (settled s f) (Up f)) P (played own.held s W f (earlier_at s f)) NotTaken (λ _. plays at.stands) (λ h. hb ∙ sym taken_words ∙ h)

-- ANY FLIT
up_judged : (s : Arrived) (f : CacheFlit) (b : Bool) (c : Cache) (a : Act) → f.act ≡ a → f.agent.0 < 32 → s.line.seen.public.stores ≡ Hidden → b ≡ words_fit (settled s f).seen f → is_again a ≡ false → IsOnWay a c → Beside (seat s f.agent.0) c
    → Judged b (λ s'. Beside (seat s' f.agent.0) (came a c)) (sent_outcome a s f)
up_judged s f b c (Request k) ha low hz hb hg h m = requested_place s f k b c m.known ha low hz h m.reached m.place
up_judged s f b c CompAck ha low hz hb hg h m = acked_judged s f b c h m
up_judged s f b c (SnpResp y) ha low hz hb hg h m = awaited_judged s f b c m.known (ap is_answer ha) low hz m.reached (coming f.act (seat s f.agent.0) m.known.told c (h ∙ ap Some (sym ha)) m.place) hb
up_judged s f b c (CopyBackWrData form) ha low hz hb hg h m = awaited_judged s f b c m.known (ap is_answer ha) low hz m.reached (coming f.act (seat s f.agent.0) m.known.told c (h ∙ ap Some (sym ha)) m.place) hb
up_judged s f b c NonCopyBackWrData ha low hz hb hg h m = awaited_judged s f b c m.known (ap is_answer ha) low hz m.reached (coming f.act (seat s f.agent.0) m.known.told c (h ∙ ap Some (sym ha)) m.place) hb
up_judged s f b c (Resend k) ha low hz hb hg h m = no (sym hg)
up_judged s f b c (Load word) ha low hz hb hg h m = absurd h
up_judged s f b c (Store word) ha low hz hb hg h m = absurd h

pub late_judged : (s : Arrived) (f : CacheFlit) (b : Bool) (c : Cache) → f.agent.0 < 32 → s.line.seen.public.stores ≡ Hidden → b ≡ words_fit (settled s f).seen f → is_again f.act ≡ false → IsOnWay f.act c → Beside (seat s f.agent.0) c
    → Judged b (λ s'. Beside (seat s' f.agent.0) (came f.act c)) (outcome s (Up f))
late_judged s f b c low hz hb hg h m =
    let P : Arrived → Type 0 = λ s'. Beside (seat s' f.agent.0) (came f.act c) in
    judged_if b (s.timed == 4294967295) P LeftOpen (outcome_within s (Up f)) (λ _. tt)
    (λ _. judged_if b (nat_lt f.agent.0 32) P (sent_outcome f.act s f) NotTaken (λ _. up_judged s f b c f.act refl low hz hb hg h m) (λ e. no (sym e ∙ low_is f.agent.0 low)))
