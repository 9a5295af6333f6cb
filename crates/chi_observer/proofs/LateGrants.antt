-- A flit of the home to a cache whose flits are on their way.
use Rattle.std.proofs.Common.{rules, arith, ◌≡◌, ℕ, suc, ◌<◌, refl, sym, subst, ap, ◌∙◌}
use Rattle.std.specs.Prelude.{Bool, true, false, ◌&&◌, ◌||◌, ◌==◌, ◌+◌, not, nat_lt, Option, Some, None, ⊤, if◌then◌else◌}
use Rattle.std.proofs.lemmas.Bool.{eqb-true}
use Rattle.chi_observer.specs.declared.kinds.Kind.{Kind}
use Rattle.chi_observer.specs.declared.kinds.Snoop.{Snoop}
use Rattle.chi_observer.specs.declared.told.Told.{Told}
use Rattle.chi_observer.specs.declared.flits.Due.{Due}
use Rattle.chi_observer.specs.declared.flits.Due.TheVariants as dues
use Rattle.chi_observer.specs.declared.flits.Stores.TheVariants.{Hidden}
use Rattle.chi_observer.specs.declared.flits.Act.{Act}
use Rattle.chi_observer.specs.declared.flits.Act.TheVariants.{Request, Resend, SnpResp, CompAck, CopyBackWrData, NonCopyBackWrData, Load, Store}
use Rattle.chi_observer.specs.declared.flits.Grant.{Grant}
use Rattle.chi_observer.specs.declared.flits.Grant.TheVariants.{RetryAck, Snp, CompData, CompUC, CompSC, CompI, CompDBIDResp}
use Rattle.chi_observer.specs.declared.flits.HomeFlit.{HomeFlit}
use Rattle.chi_observer.specs.declared.flits.Flit.TheVariants.{Down}
use Rattle.chi_observer.specs.declared.arriving.Held.{Held}
use Rattle.chi_observer.specs.declared.arriving.Held.TheVariants as helds
use Rattle.chi_observer.specs.declared.arriving.Bearing.TheVariants as bearings
use Rattle.chi_observer.specs.Rules.{is_resending, may_be_free, allows, due_granted, is_busy, is_due, lets_go, needs_quiet, snooped_granted}
use Rattle.chi_observer.specs.Tables.{Known, told_by, told_granted}
use Rattle.chi_observer.specs.Worlds.{all_below, home_may, put}
use Rattle.chi_observer.specs.Lines.{Watched, is_taken, watch}
use Rattle.chi_observer.specs.Arriving.{acks_after, bearing_of, holds_none, own_granted}
use Rattle.chi_observer.specs.Arrivals.{Arrived, Outcome, by_bearing, due_acknowledged, given, granted_line, granted_own, granted_state, is_busy_at, is_doubtful, is_full, left_if}
use Rattle.chi_observer.specs.Arrivals.Outcome.{Taken, NotTaken, LeftOpen}
use Rattle.chi_observer.specs.Late.{Cache, given_to, is_none, is_orderly, is_retry}
use Rattle.chi_observer.proofs.Finite.{no, left, right, both}
use Rattle.chi_observer.proofs.Put.{here}
use Rattle.chi_observer.proofs.Copies.{each_below}
use Rattle.chi_observer.proofs.Facts.{flip}
use Rattle.chi_observer.proofs.Grants.{given as given_copy}
use Rattle.chi_observer.proofs.CrossingTables.{fine}
use Rattle.chi_observer.proofs.LateTables.{given_of, is_acked, is_sure_of, is_whole}
use Rattle.chi_observer.proofs.Seats.{resending_free, Asking, Beside, Calm, Place, Seat, Stands, is_awaited, is_ready, known_to, overwrites_of, told_seen, writes_of}
use Rattle.chi_observer.proofs.Seats.Stands.{Rests, Acks, Repeats, Asks, Waits}
use Rattle.chi_observer.proofs.Seats.Place.{Here, Ahead}
use Rattle.chi_observer.proofs.LateFlits.{seat, seat_of}

-- of what is kept, where a flit is taken
abbrev pub On : (Arrived → Type 0) → Outcome → Type 0
On P (Taken s) = P s
On P NotTaken = ⊤
On P LeftOpen = ⊤

pub on_if : (P : Arrived → Type 0) (b : Bool) (x y : Outcome) → (b ≡ true → On P x) → (b ≡ false → On P y) → On P (if b then x else y)
on_if P true x y h e = h refl
on_if P false x y h e = e refl

-- what is kept then
abbrev granted_seat : Seat → Grant → Told → ℕ → Bool → Seat
granted_seat p g t timed current = record {
  told = told_by g p.due p.told;
  due = due_acknowledged (due_granted g p.due);
  snooped = snooped_granted g p.snooped;
  own = own_granted p.own (due_granted g p.due) t g timed current;
}

granted_as : (s : Arrived) (g : HomeFlit) → seat (granted_state s (watch s.line (Down g)) g) g.agent.0 ≡ granted_seat (seat s g.agent.0) g.grant ((watch s.line (Down g)).seen.told g.agent.0).told s.timed (watch s.line (Down g)).seen.current
granted_as s g =
    let n = g.agent.0 in
    let w : Watched = watch s.line (Down g) in
    let d = s.line.seen.public.due n in
    let due_now : w.seen.public.due n ≡ due_granted g.grant d = here n (due_granted g.grant d) s.line.seen.public.due in
    seat_of (granted_line w g) (put n (granted_own s w g) s.own) s.timed n (granted_seat (seat s n) g.grant (w.seen.told n).told s.timed w.seen.current)
    (ap (λ (k : Known). k.told) (here n (told_granted g.grant d (s.line.seen.told n)) s.line.seen.told))
    (here n (due_acknowledged (w.seen.public.due n)) w.seen.public.due ∙ ap due_acknowledged due_now)
    (here n (snooped_granted g.grant (s.line.seen.public.snooped n)) s.line.seen.public.snooped)
    (here n (granted_own s w g) s.own ∙ ap (λ (e : Due). own_granted (s.own n) e (w.seen.told n).told g.grant s.timed w.seen.current) due_now)

-- A SNOOP
whole_same : (d : Due) → is_whole d ≡ true → due_acknowledged d ≡ d
whole_same dues.Nothing h = refl
whole_same (dues.Completion k) h = refl
whole_same (dues.WriteData k) h = refl
whole_same (dues.Resending k) h = refl
whole_same (dues.SureCompletion k) h = refl
whole_same dues.Acknowledgement h = no h

whole_acks : (a : ℕ) (d : Due) → is_whole d ≡ true → acks_after a d ≡ a
whole_acks a dues.Nothing h = refl
whole_acks a (dues.Completion k) h = refl
whole_acks a (dues.WriteData k) h = refl
whole_acks a (dues.Resending k) h = refl
whole_acks a (dues.SureCompletion k) h = refl
whole_acks a dues.Acknowledgement h = no h

or_true : (b : Bool) → (b || true) ≡ true
or_true true = refl
or_true false = refl

none_waits : (p : Seat) (k : Kind) → p.own.held ≡ helds.Open k → p.snooped ≡ None → is_awaited p ≡ true → false ≡ true
none_waits p k hh hq w = sym (ap (λ h. holds_none h || not (is_none p.snooped)) hh ∙ ap (λ q. not (is_none q)) hq) ∙ w

none_suc : (n : ℕ) → suc n ≡ 0 → false ≡ true
none_suc n e = absurd (search (rules, arith))

ack_free : (d : Due) → may_be_free d ≡ true → may_be_free (due_acknowledged d) ≡ true
ack_free dues.Nothing h = refl
ack_free (dues.Resending k) h = refl
ack_free (dues.Completion k) h = no h
ack_free (dues.SureCompletion k) h = no h
ack_free (dues.WriteData k) h = no h
ack_free dues.Acknowledgement h = no h

free_whole : (d : Due) → may_be_free d ≡ true → is_whole d ≡ true
free_whole dues.Nothing h = refl
free_whole (dues.Resending k) h = refl
free_whole (dues.Completion k) h = no h
free_whole (dues.SureCompletion k) h = no h
free_whole (dues.WriteData k) h = no h
free_whole dues.Acknowledgement h = no h

asks_due : (k : Kind) (p : Seat) (s : Told) (c : Cache) (x : Snoop) (t : Told) (timed : ℕ) (current : Bool) → Asking k p s c → Asking k (granted_seat p (Snp x) t timed current) s (given_to (Snp x) c)
asks_due k p s c x t timed current a = record {
  due = a.due;
  idle = a.idle;
  free = ack_free p.due a.free;
  sure = a.sure;
  from = a.from;
  acks = a.acks ∙ sym (whole_acks p.own.acks p.due (free_whole p.due a.free));
}

snoop_stands : (p : Seat) (s : Told) (c : Cache) (x : Snoop) (t : Told) (timed : ℕ) (current : Bool) → p.snooped ≡ None → is_awaited p ≡ true → (p.own.acks == 0) ≡ true → Stands p s c → Stands (granted_seat p (Snp x) t timed current) s (given_to (Snp x) c)
snoop_stands p s c x t timed current hq w ha (Rests a) =
    let same = whole_same p.due a.whole in
    Rests (record {
      held = a.held;
      request = a.request;
      idle = a.idle;
      due = a.due ∙ sym same;
      whole = ap is_whole same ∙ a.whole;
      sure = subst (λ d. is_sure_of p.own.unsure p.told d ≡ true) (sym same) a.sure;
      told = a.told;
      acks = a.acks ∙ sym (whole_acks p.own.acks p.due a.whole);
    })
snoop_stands p s c x t timed current hq w ha (Acks a) = no (none_suc c.acks (a.acks ∙ eqb-true p.own.acks 0 ha))
snoop_stands p s c x t timed current hq w ha (Repeats k a) =
    let whole = free_whole p.due (resending_free p.due a.free) in
    Repeats k (record {
      held = a.held;
      request = a.request;
      again = a.again;
      due = a.due;
      free = ap is_resending (whole_same p.due whole) ∙ a.free;
      sure = a.sure;
      told = a.told;
      acks = a.acks ∙ sym (whole_acks p.own.acks p.due whole);
    })
snoop_stands p s c x t timed current hq w ha (Asks k h r a) = Asks k h r (asks_due k p s c x t timed current a)
snoop_stands p s c x t timed current hq w ha (Waits k h r a) = no (none_waits p k h hq w)

-- nothing is snooped while an answer or write data are awaited
ahead_snooped : (a : Act) (p : Seat) → p.snooped ≡ None → is_busy p.due ≡ false → is_ready a p ≡ true → false ≡ true
ahead_snooped (SnpResp y) p hq hb h = sym (ap (allows (SnpResp y)) hq) ∙ left _ _ h
ahead_snooped (CopyBackWrData form) p hq hb h = let w = writes_of form (lets_go p.snooped) p.due (known_to (told_seen (CopyBackWrData form) p)) h in sym hb ∙ ap is_busy w.due
ahead_snooped NonCopyBackWrData p hq hb h = let w = overwrites_of (lets_go p.snooped) p.due (known_to (told_seen NonCopyBackWrData p)) h in sym hb ∙ ap is_busy w.due
ahead_snooped (Request k) p hq hb h = h
ahead_snooped (Resend k) p hq hb h = h
ahead_snooped CompAck p hq hb h = h
ahead_snooped (Load word) p hq hb h = h
ahead_snooped (Store word) p hq hb h = h

snoop_place : (p : Seat) (s : Told) (c : Cache) (x : Snoop) (t : Told) (timed : ℕ) (current : Bool) → p.snooped ≡ None → is_busy p.due ≡ false → (p.own.acks == 0) ≡ true → Place p s c → Place (granted_seat p (Snp x) t timed current) s (given_to (Snp x) c)
snoop_place p s c x t timed current hq hb ha (Here n w q st) = Here n (or_true (holds_none p.own.held)) refl (snoop_stands p s c x t timed current hq w ha st)
snoop_place p s c x t timed current hq hb ha (Ahead a n r q st) = no (ahead_snooped a p hq hb (left _ _ r))

-- A COMPLETION
none_due : (g : Grant) (q : Option Snoop) → needs_quiet g ≡ false → is_due g dues.Nothing q ≡ true → false ≡ true
none_due RetryAck q hn h = h
none_due (Snp x) q hn h = sym hn
none_due (CompData form) q hn h = h
none_due CompUC q hn h = h
none_due CompSC q hn h = h
none_due CompI q hn h = h
none_due CompDBIDResp q hn h = h

again_due : (g : Grant) (k : Kind) (q : Option Snoop) → needs_quiet g ≡ false → is_due g (dues.Resending k) q ≡ true → false ≡ true
again_due RetryAck k q hn h = h
again_due (Snp x) k q hn h = sym hn
again_due (CompData form) k q hn h = h
again_due CompUC k q hn h = h
again_due CompSC k q hn h = h
again_due CompI k q hn h = h
again_due CompDBIDResp k q hn h = h

never_due : (g : Grant) (d : Due) (q : Option Snoop) → needs_quiet g ≡ false → may_be_free d ≡ true → is_due g d q ≡ true → false ≡ true
never_due g dues.Nothing q hn f h = none_due g q hn h
never_due g (dues.Resending k) q hn f h = again_due g k q hn h
never_due g (dues.Completion k) q hn f h = no f
never_due g (dues.SureCompletion k) q hn f h = no f
never_due g (dues.WriteData k) q hn f h = no f
never_due g dues.Acknowledgement q hn f h = no f

same_snooped : (g : Grant) (q : Option Snoop) → needs_quiet g ≡ false → snooped_granted g q ≡ q
same_snooped RetryAck q hn = refl
same_snooped (Snp x) q hn = no (sym hn)
same_snooped (CompData form) q hn = refl
same_snooped CompUC q hn = refl
same_snooped CompSC q hn = refl
same_snooped CompI q hn = refl
same_snooped CompDBIDResp q hn = refl

none_is : {A : Type 0} (o : Option A) → is_none o ≡ true → o ≡ None
none_is None h = refl
none_is (Some x) h = no h

not_so : (b : Bool) → not b ≡ true → b ≡ false
not_so true h = no h
not_so false h = refl

one_more : (n : ℕ) → suc n ≡ n + 1
one_more n = search (rules, arith)

rests_then : (p : Seat) (s : Told) (c : Cache) (g : Grant) (t : Told) (timed : ℕ) (current : Bool) (e : Due) → due_granted g p.due ≡ e → Calm p s c → fine p.own.unsure (told_by g p.due s) (told_by g p.due p.told) ≡ true
    → is_whole e ≡ true → is_sure_of p.own.unsure (told_by g p.due p.told) e ≡ true → Stands (granted_seat p g t timed current) (told_by g p.due s) (given_to g c)
rests_then p s c g t timed current e he a f hw hs =
    let same : due_acknowledged (due_granted g p.due) ≡ e = ap due_acknowledged he ∙ whole_same e hw in
    Rests (record {
      held = a.held;
      request = a.request;
      idle = a.idle;
      due = ap (due_granted g) a.due ∙ he ∙ sym same;
      whole = ap is_whole same ∙ hw;
      sure = subst (λ d. is_sure_of p.own.unsure (told_by g p.due p.told) d ≡ true) (sym same) hs;
      told = f;
      acks = a.acks ∙ sym (ap (acks_after p.own.acks) he ∙ whole_acks p.own.acks e hw);
    })

-- by what is due then
completed : (p : Seat) (s : Told) (c : Cache) (g : Grant) (t : Told) (timed : ℕ) (current : Bool) (e : Due) → needs_quiet g ≡ false → due_granted g p.due ≡ e → Calm p s c
    → (fine p.own.unsure (told_by g p.due s) (told_by g p.due p.told) && (if is_acked e then not p.own.unsure && is_none p.snooped else is_whole e && is_sure_of p.own.unsure (told_by g p.due p.told) e)) ≡ true
    → Stands (granted_seat p g t timed current) (told_by g p.due s) (given_to g c)
completed p s c g t timed current dues.Acknowledgement hn he a f =
    let rest : (not p.own.unsure && is_none p.snooped) ≡ true = right (fine p.own.unsure (told_by g p.due s) (told_by g p.due p.told)) _ f in
    let sure : p.own.unsure ≡ false = not_so p.own.unsure (left _ _ rest) in
    Acks (record {
      held = a.held;
      request = a.request;
      idle = a.idle;
      due = ap (due_granted g) a.due ∙ he;
      free = ap due_acknowledged he;
      sure = sure;
      quiet = same_snooped g p.snooped hn ∙ none_is p.snooped (right (not p.own.unsure) _ rest);
      told = subst (λ u. fine u (told_by g p.due s) (told_by g p.due p.told) ≡ true) sure (left _ _ f);
      acks = ap suc a.acks ∙ one_more p.own.acks ∙ sym (ap (acks_after p.own.acks) he);
    })
completed p s c g t timed current dues.Nothing hn he a f = rests_then p s c g t timed current dues.Nothing he a (left _ _ f) refl (right (fine p.own.unsure (told_by g p.due s) (told_by g p.due p.told)) _ f)
completed p s c g t timed current (dues.Completion k) hn he a f = rests_then p s c g t timed current (dues.Completion k) he a (left _ _ f) refl (right (fine p.own.unsure (told_by g p.due s) (told_by g p.due p.told)) _ f)
completed p s c g t timed current (dues.WriteData k) hn he a f = rests_then p s c g t timed current (dues.WriteData k) he a (left _ _ f) refl (right (fine p.own.unsure (told_by g p.due s) (told_by g p.due p.told)) _ f)
completed p s c g t timed current (dues.Resending k) hn he a f = rests_then p s c g t timed current (dues.Resending k) he a (left _ _ f) refl (right (fine p.own.unsure (told_by g p.due s) (told_by g p.due p.told)) _ f)
completed p s c g t timed current (dues.SureCompletion k) hn he a f = rests_then p s c g t timed current (dues.SureCompletion k) he a (left _ _ f) refl (right (fine p.own.unsure (told_by g p.due s) (told_by g p.due p.told)) _ f)

completed_stands : (p : Seat) (s : Told) (c : Cache) (g : Grant) (t : Told) (timed : ℕ) (current : Bool) → needs_quiet g ≡ false → (not (is_retry g) || not p.own.unsure) ≡ true → is_due g p.due p.snooped ≡ true → Stands p s c
    → Stands (granted_seat p g t timed current) (told_by g c.due s) (given_to g c)
completed_stands p s c g t timed current hn hr hd (Rests a) =
    subst (λ d. Stands (granted_seat p g t timed current) (told_by g d s) (given_to g c)) (sym a.due)
    (completed p s c g t timed current (due_granted g p.due) hn refl a
    (given_of g p.due p.snooped p.own.unsure s p.told hd (both _ _ (flip (needs_quiet g) hn) a.whole) (both _ _ hr (both _ _ a.sure a.told))))
completed_stands p s c g t timed current hn hr hd (Acks a) = no (never_due g p.due p.snooped hn (ap may_be_free a.free) hd)
completed_stands p s c g t timed current hn hr hd (Repeats k a) = no (never_due g p.due p.snooped hn (resending_free p.due a.free) hd)
completed_stands p s c g t timed current hn hr hd (Asks k h r a) = no (never_due g p.due p.snooped hn a.free hd)
completed_stands p s c g t timed current hn hr hd (Waits k h r a) = no (never_due g p.due p.snooped hn a.free hd)

writes_due : (g : Grant) (k : Kind) (q : Option Snoop) → needs_quiet g ≡ false → is_due g (dues.WriteData k) q ≡ true → false ≡ true
writes_due RetryAck k q hn h = h
writes_due (Snp x) k q hn h = sym hn
writes_due (CompData form) k q hn h = h
writes_due CompUC k q hn h = h
writes_due CompSC k q hn h = h
writes_due CompI k q hn h = h
writes_due CompDBIDResp k q hn h = h

-- nor is anything completed
ahead_completed : (a : Act) (p : Seat) (g : Grant) → p.snooped ≡ None → needs_quiet g ≡ false → is_due g p.due p.snooped ≡ true → is_ready a p ≡ true → false ≡ true
ahead_completed (SnpResp y) p g hq hn hd h = sym (ap (allows (SnpResp y)) hq) ∙ left _ _ h
ahead_completed (CopyBackWrData form) p g hq hn hd h = let w = writes_of form (lets_go p.snooped) p.due (known_to (told_seen (CopyBackWrData form) p)) h in writes_due g w.kind p.snooped hn (subst (λ d. is_due g d p.snooped ≡ true) w.due hd)
ahead_completed NonCopyBackWrData p g hq hn hd h = let w = overwrites_of (lets_go p.snooped) p.due (known_to (told_seen NonCopyBackWrData p)) h in writes_due g w.kind p.snooped hn (subst (λ d. is_due g d p.snooped ≡ true) w.due hd)
ahead_completed (Request k) p g hq hn hd h = h
ahead_completed (Resend k) p g hq hn hd h = h
ahead_completed CompAck p g hq hn hd h = h
ahead_completed (Load word) p g hq hn hd h = h
ahead_completed (Store word) p g hq hn hd h = h

completed_place : (p : Seat) (s : Told) (c : Cache) (g : Grant) (t : Told) (timed : ℕ) (current : Bool) → needs_quiet g ≡ false → (not (is_retry g) || not p.own.unsure) ≡ true → holds_none p.own.held ≡ true → p.snooped ≡ None → is_due g p.due p.snooped ≡ true → Place p s c
    → Place (granted_seat p g t timed current) (told_by g c.due s) (given_to g c)
completed_place p s c g t timed current hn hr hh hq hd (Here n w q st) = Here n (or_left (holds_none p.own.held) (not (is_none (snooped_granted g p.snooped))) hh) (ap (snooped_granted g) q) (completed_stands p s c g t timed current hn hr hd st) where
  or_left : (a b : Bool) → a ≡ true → (a || b) ≡ true
  or_left true b h = refl
  or_left false b h = no h
completed_place p s c g t timed current hn hr hh hq hd (Ahead a n r q st) = no (ahead_completed a p g hq hn hd (left _ _ r))

-- ANY FLIT
never_holds : (x b : Bool) → (x && (false && b)) ≡ true → false ≡ true
never_holds true b h = h
never_holds false b h = h

pub bearing_told : (h : Held) (q : Option Snoop) (g : Grant) (u : Bool) → (needs_quiet g || ((not (is_retry g) || not u) && (holds_none h && is_none q))) ≡ true → bearing_of h q g ≡ bearings.Told
bearing_told helds.Nothing q g u h = refl
bearing_told helds.Retried q g u h = refl
bearing_told helds.Evicted q g u h = refl
bearing_told (helds.Open k) q (Snp x) u h = refl
bearing_told (helds.Open k) q RetryAck u h = no (never_holds (not u) (is_none q) h)
bearing_told (helds.Open k) q (CompData form) u h = no h
bearing_told (helds.Open k) q CompUC u h = no h
bearing_told (helds.Open k) q CompSC u h = no h
bearing_told (helds.Open k) q CompI u h = no h
bearing_told (helds.Open k) q CompDBIDResp u h = no h

-- what a flit that is taken was sent by
record Allowed (s : Arrived) (g : HomeFlit) : Type 0 where
  due : is_due g.grant (s.line.seen.public.due g.agent.0) (s.line.seen.public.snooped g.agent.0) ≡ true
  idle : needs_quiet g.grant ≡ true → is_busy (s.line.seen.public.due g.agent.0) ≡ false
  acks : needs_quiet g.grant ≡ true → ((s.own g.agent.0).acks == 0) ≡ true

quiet_so : (q a : Bool) → (not q || a) ≡ true → q ≡ true → a ≡ true
quiet_so true a h e = h
quiet_so false a h e = no e

busy_so : (q a : Bool) → (q && not a) ≡ false → q ≡ true → a ≡ true
busy_so true true h e = refl
busy_so true false h e = no (sym h)
busy_so false a h e = no e

allowed_of : (s : Arrived) (g : HomeFlit) → g.agent.0 < 32 → is_busy_at s g ≡ false → is_taken s.line (Down g) ≡ true → Allowed s g
allowed_of s g low hb ht =
    let o = s.line.seen in
    let may : home_may o.public g ≡ true = left _ _ (right _ _ (right (nat_lt g.agent.0 32) _ (right _ _ ht))) in
    let quiet = left _ _ (right _ _ (right (is_due g.grant (o.public.due g.agent.0) (o.public.snooped g.agent.0)) _ may)) in
    record {
      due = left _ _ may;
      idle = λ e. not_so _ (each_below 32 (λ m. not (is_busy (o.public.due m))) (quiet_so (needs_quiet g.grant) (all_below 32 (λ m. not (is_busy (o.public.due m)))) quiet e) g.agent.0 low);
      acks = λ e. each_below 32 (λ m. (s.own m).acks == 0) (busy_so (needs_quiet g.grant) (all_below 32 (λ m. (s.own m).acks == 0)) hb e) g.agent.0 low;
    }

snooped_none : (x : Snoop) (d : Due) (q : Option Snoop) → is_due (Snp x) d q ≡ true → q ≡ None
snooped_none x d None h = refl
snooped_none x d (Some y) h = no h

quiet_none : (g : Grant) (d : Due) (q : Option Snoop) → needs_quiet g ≡ true → is_due g d q ≡ true → q ≡ None
quiet_none (Snp x) d q e h = snooped_none x d q h
quiet_none RetryAck d q e h = no e
quiet_none (CompData form) d q e h = no e
quiet_none CompUC d q e h = no e
quiet_none CompSC d q e h = no e
quiet_none CompI d q e h = no e
quiet_none CompDBIDResp d q e h = no e

orderly_rest : (a b c : Bool) → (false || (a && (b && c))) ≡ true → (a ≡ true) × ((b ≡ true) × (c ≡ true))
orderly_rest true true true h = (refl, (refl, refl))
orderly_rest true true false h = no h
orderly_rest true false c h = no h
orderly_rest false b c h = no h

-- of one that isn't a snoop
record Plain (s : Arrived) (n : ℕ) (g : Grant) : Type 0 where
  may : (not (is_retry g) || not (s.own n).unsure) ≡ true
  held : holds_none (s.own n).held ≡ true
  quiet : is_none (s.line.seen.public.snooped n) ≡ true

plain_of : (s : Arrived) (g : HomeFlit) (grant : Grant) → g.grant ≡ grant → is_orderly s (Down g) ≡ true → needs_quiet grant ≡ false → Plain s g.agent.0 grant
plain_of s g grant hg ord hn =
    let b = holds_none (s.own g.agent.0).held in
    let e = is_none (s.line.seen.public.snooped g.agent.0) in
    let u = (s.own g.agent.0).unsure in
    let now : (needs_quiet grant || ((not (is_retry grant) || not u) && (b && e))) ≡ true = subst (λ z. (needs_quiet z || ((not (is_retry z) || not u) && (b && e))) ≡ true) hg ord in
    let rest = orderly_rest (not (is_retry grant) || not u) b e (subst (λ z. (z || ((not (is_retry grant) || not u) && (b && e))) ≡ true) hn now) in
    record { may = rest.0; held = rest.1.0; quiet = rest.1.1 }

plain_place : (s : Arrived) (g : HomeFlit) (c : Cache) (x : Told) (t : Told) (timed : ℕ) (current : Bool) (grant : Grant) → g.grant ≡ grant → is_orderly s (Down g) ≡ true → Allowed s g → needs_quiet grant ≡ false → Place (seat s g.agent.0) x c
    → Place (granted_seat (seat s g.agent.0) grant t timed current) (told_by grant c.due x) (given_to grant c)
plain_place s g c x t timed current grant hg ord a hn pl =
    let n = g.agent.0 in
    let r = plain_of s g grant hg ord hn in
    let d = s.line.seen.public.due n in
    let q = s.line.seen.public.snooped n in
    completed_place (seat s n) x c grant t timed current hn r.may r.held (none_is q r.quiet) (subst (λ z. is_due z d q ≡ true) hg a.due) pl

granted_place : (s : Arrived) (g : HomeFlit) (c : Cache) (x : Told) (t : Told) (timed : ℕ) (current : Bool) (grant : Grant) → g.grant ≡ grant → is_orderly s (Down g) ≡ true → Allowed s g → Place (seat s g.agent.0) x c
    → Place (granted_seat (seat s g.agent.0) grant t timed current) (told_by grant c.due x) (given_to grant c)
granted_place s g c x t timed current (Snp y) hg ord a pl =
    let q = s.line.seen.public.snooped g.agent.0 in
    snoop_place (seat s g.agent.0) x c y t timed current (snooped_none y (s.line.seen.public.due g.agent.0) q (subst (λ z. is_due z (s.line.seen.public.due g.agent.0) q ≡ true) hg a.due)) (a.idle (ap needs_quiet hg)) (a.acks (ap needs_quiet hg)) pl
granted_place s g c x t timed current RetryAck hg ord a pl = plain_place s g c x t timed current RetryAck hg ord a refl pl
granted_place s g c x t timed current (CompData form) hg ord a pl = plain_place s g c x t timed current (CompData form) hg ord a refl pl
granted_place s g c x t timed current CompUC hg ord a pl = plain_place s g c x t timed current CompUC hg ord a refl pl
granted_place s g c x t timed current CompSC hg ord a pl = plain_place s g c x t timed current CompSC hg ord a refl pl
granted_place s g c x t timed current CompI hg ord a pl = plain_place s g c x t timed current CompI hg ord a refl pl
granted_place s g c x t timed current CompDBIDResp hg ord a pl = plain_place s g c x t timed current CompDBIDResp hg ord a refl pl

-- it is due of the cache too
whole_due : (g : Grant) (d e : Due) (q : Option Snoop) → d ≡ e → is_due g e q ≡ true → is_due g d q ≡ true
whole_due g d e q h hd = subst (λ z. is_due g z q ≡ true) (sym h) hd

snoop_due : (x : Snoop) (d e : Due) (q : Option Snoop) → is_due (Snp x) d q ≡ true → is_due (Snp x) e q ≡ true
snoop_due x d e None h = refl
snoop_due x d e (Some y) h = no h

free_due : (g : Grant) (d e : Due) (q : Option Snoop) → may_be_free d ≡ true → is_due g d q ≡ true → is_due g e q ≡ true
free_due (Snp x) d e q f h = snoop_due x d e q h
free_due RetryAck d e q f h = no (never_due RetryAck d q refl f h)
free_due (CompData form) d e q f h = no (never_due (CompData form) d q refl f h)
free_due CompUC d e q f h = no (never_due CompUC d q refl f h)
free_due CompSC d e q f h = no (never_due CompSC d q refl f h)
free_due CompI d e q f h = no (never_due CompI d q refl f h)
free_due CompDBIDResp d e q f h = no (never_due CompDBIDResp d q refl f h)

stands_due : (p : Seat) (s : Told) (c : Cache) (g : Grant) → is_due g p.due p.snooped ≡ true → Stands p s c → is_due g c.due p.snooped ≡ true
stands_due p s c g h (Rests a) = whole_due g c.due p.due p.snooped a.due h
stands_due p s c g h (Acks a) = free_due g p.due c.due p.snooped (ap may_be_free a.free) h
stands_due p s c g h (Repeats k a) = free_due g p.due c.due p.snooped (resending_free p.due a.free) h
stands_due p s c g h (Asks k e r a) = free_due g p.due c.due p.snooped a.free h
stands_due p s c g h (Waits k e r a) = free_due g p.due c.due p.snooped a.free h

quiet_or : (b : Bool) (A : Type 0) → (b ≡ true → A) → (b ≡ false → A) → A
quiet_or true A h e = h refl
quiet_or false A h e = e refl

place_due : (s : Arrived) (g : HomeFlit) (x : Told) (c : Cache) → is_orderly s (Down g) ≡ true → Allowed s g → Place (seat s g.agent.0) x c → is_due g.grant c.due (s.line.seen.public.snooped g.agent.0) ≡ true
place_due s g x c ord a (Here n w q st) = stands_due (seat s g.agent.0) x c g.grant a.due st
place_due s g x c ord a (Ahead y n r q st) =
    let p = seat s g.agent.0 in
    no (quiet_or (needs_quiet g.grant) (false ≡ true)
    (λ e. ahead_snooped y p (quiet_none g.grant p.due p.snooped e a.due) (a.idle e) (left _ _ r))
    (λ e. ahead_completed y p g.grant (none_is p.snooped (plain_of s g g.grant refl ord e).quiet) e a.due (left _ _ r)))

granted_beside : (s : Arrived) (g : HomeFlit) (c : Cache) → is_orderly s (Down g) ≡ true → Allowed s g → Beside (seat s g.agent.0) c → Beside (seat (granted_state s (watch s.line (Down g)) g) g.agent.0) (given_to g.grant c)
granted_beside s g c ord a m =
    let n = g.agent.0 in
    let w : Watched = watch s.line (Down g) in
    subst (λ p. Beside p (given_to g.grant c)) (sym (granted_as s g)) (record {
      known = told_granted g.grant c.due m.known;
      reached = left _ _ (left _ _ (given_copy Hidden g.grant c.due (s.line.seen.public.snooped n) m.known c.held (both _ _ (place_due s g m.known.told c ord a m.place) m.reached)));
      place = granted_place s g c m.known.told (w.seen.told n).told s.timed w.seen.current g.grant refl ord a m.place;
    })

pub given_on : (s : Arrived) (g : HomeFlit) (c : Cache) → g.agent.0 < 32 → is_orderly s (Down g) ≡ true → Beside (seat s g.agent.0) c → On (λ s'. Beside (seat s' g.agent.0) (given_to g.grant c)) (given s g)
given_on s g c low ord m =
    let n = g.agent.0 in
    let P : Arrived → Type 0 = λ s'. Beside (seat s' n) (given_to g.grant c) in
    let state = granted_state s (watch s.line (Down g)) g in
    let taken = is_taken s.line (Down g) in
    let doubt = left_if (is_doubtful s g) in
    subst (λ x. On P (by_bearing x s g)) (sym (bearing_told (s.own n).held (s.line.seen.public.snooped n) g.grant (s.own n).unsure ord))
    (on_if P (is_full (s.own n).acks) LeftOpen (if is_busy_at s g then NotTaken else (if taken then Taken state else doubt)) (λ _. tt)
    (λ _. on_if P (is_busy_at s g) NotTaken (if taken then Taken state else doubt) (λ _. tt)
    (λ hb. on_if P taken (Taken state) doubt (λ ht. granted_beside s g c ord (allowed_of s g low hb ht) m) (λ _. on_if P (is_doubtful s g) LeftOpen NotTaken (λ _. tt) (λ _. tt)))))
