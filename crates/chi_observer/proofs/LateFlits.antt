-- A flit of a cache that comes late.
use Rattle.std.proofs.Common.{rules, arith, ◌≡◌, ℕ, ◌<◌, refl, sym, subst, ap, ◌∙◌}
use Rattle.std.specs.Prelude.{Bool, true, false, ◌&&◌, ◌||◌, not, nat_lt, Option, Some, None, List, ⊤, if◌then◌else◌}
use Rattle.chi_observer.specs.declared.kinds.Kind.{Kind}
use Rattle.chi_observer.specs.declared.kinds.Kind.TheVariants as kinds
use Rattle.chi_observer.specs.declared.flits.Due.TheVariants as dues
use Rattle.chi_observer.specs.declared.flits.Stores.TheVariants.{Hidden}
use Rattle.chi_observer.specs.declared.flits.Act.{Act}
use Rattle.chi_observer.specs.declared.flits.Act.TheVariants.{Request}
use Rattle.chi_observer.specs.declared.flits.CacheFlit.{CacheFlit}
use Rattle.chi_observer.specs.declared.flits.Flit.TheVariants.{Up}
use Rattle.chi_observer.specs.declared.arriving.Earlier.{Earlier}
use Rattle.chi_observer.specs.declared.arriving.Arriving.{Arriving}
use Rattle.chi_observer.specs.Judged.{judges_act}
use Rattle.chi_observer.specs.Rules.{may_be_free, allows, due_after, has_data, lets_go, reads_any, snooped_after}
use Rattle.chi_observer.specs.Tables.{Known, fits_issue, fits_told, most, reach, renews, told_after, told_behind, told_issued}
use Rattle.chi_observer.specs.Worlds.{put}
use Rattle.chi_observer.specs.Observed.{differs, fits, fits_word}
use Rattle.chi_observer.specs.Lines.{Watched, is_taken, watch}
use Rattle.chi_observer.specs.Arriving.{issued_before, own_issued, timed_after}
use Rattle.chi_observer.specs.Arrivals.{Arrived, Outcome, is_from_before, is_unlost_at, issued, issued_state, leaves_unsure, line_issued, line_takes, taken_if, with_due}
use Rattle.chi_observer.specs.Arrivals.Outcome.{Taken, NotTaken, LeftOpen}
use Rattle.chi_observer.specs.Late.{Cache}
use Rattle.chi_observer.proofs.Finite.{no, left, right, both, implies}
use Rattle.chi_observer.proofs.Put.{here}
use Rattle.chi_observer.proofs.CrossingTables.{come_of, is_early, pend, told_come}
use Rattle.chi_observer.proofs.LateTables.{sure_come}
use Rattle.chi_observer.proofs.Seats.{Beside, Seat}
use Rattle.chi_observer.proofs.Seats.Stands.{Rests}
use Rattle.chi_observer.proofs.Seats.Place.{Here}

abbrev pub seat : Arrived → ℕ → Seat
seat s n = record { told = (s.line.seen.told n).told; due = s.line.seen.public.due n; snooped = s.line.seen.public.snooped n; own = s.own n }

-- what comes of a flit: P holds of what is kept, and it is a fault only where w doesn't hold
abbrev pub Judged : Bool → (Arrived → Type 0) → Outcome → Type 0
Judged w P (Taken s) = P s
Judged w P NotTaken = w ≡ false
Judged w P LeftOpen = ⊤

abbrev pub made : Watched → (ℕ → Arriving) → ℕ → Arrived
made line own timed = record { line = line; own = own; timed = timed }

pub seat_of : (line : Watched) (own : ℕ → Arriving) (timed n : ℕ) (p : Seat) → (line.seen.told n).told ≡ p.told → line.seen.public.due n ≡ p.due → line.seen.public.snooped n ≡ p.snooped → own n ≡ p.own → seat (made line own timed) n ≡ p
seat_of line own timed n p ht hd hq ho = λ i. record { told = ht i; due = hd i; snooped = hq i; own = ho i }

-- A REQUEST
word_of : (k : Kind) (home : Option (List ℕ)) → fits_word home (Request k) ≡ true
word_of k None = refl
word_of k (Some u) = refl

pub low_is : (n : ℕ) → n < 32 → nat_lt n 32 ≡ true
low_is n h = search (rules, arith)

or_last : (a b c : Bool) → c ≡ true → (a || (b || c)) ≡ true
or_last true b c h = refl
or_last false true c h = refl
or_last false false c h = h

abbrev tests : Watched → CacheFlit → Act → Bool
tests w f a = judges_act a && (nat_lt f.agent.0 32 && (allows a (w.seen.public.snooped f.agent.0) && (fits_told w.seen.public.stores a (lets_go (w.seen.public.snooped f.agent.0)) (w.seen.public.due f.agent.0) (w.seen.told f.agent.0)
    && ((not (has_data a) || (renews w.seen.public.stores a (lets_go (w.seen.public.snooped f.agent.0)) (w.seen.public.due f.agent.0) (w.seen.told f.agent.0) || (not w.seen.current || fits w.seen.home f.shown)))
    && (reads_any w.seen.public.stores (w.seen.public.due f.agent.0) (most (w.seen.told f.agent.0)) || (not w.seen.current || fits_word w.seen.home a))))))

request_taken : (w : Watched) (f : CacheFlit) (k : Kind) → f.act ≡ Request k → f.agent.0 < 32 → w.seen.public.stores ≡ Hidden → may_be_free (w.seen.public.due f.agent.0) ≡ true → fits_issue k true (w.seen.told f.agent.0).told ≡ true → is_taken w (Up f) ≡ true
request_taken w f k ha low hz hd h =
    let n = f.agent.0 in
    let fitting : fits_told w.seen.public.stores (Request k) (lets_go (w.seen.public.snooped n)) (w.seen.public.due n) (w.seen.told n) ≡ true =
    subst (λ z. fits_told z (Request k) (lets_go (w.seen.public.snooped n)) (w.seen.public.due n) (w.seen.told n) ≡ true) (sym hz)
    (subst (λ m. (m && fits_issue k m (w.seen.told n).told) ≡ true) (sym hd) h) in
    ap (λ (a : Act). tests w f a) ha
    ∙ both (nat_lt n 32) _ (low_is n low) (both _ _ fitting (or_last (reads_any w.seen.public.stores (w.seen.public.due n) (most (w.seen.told n))) (not w.seen.current) _ (word_of k w.seen.home)))

pub early_only : (k : Kind) (e : Earlier) → implies (issued_before e k) (is_early k) ≡ true
early_only kinds.ReadNotSharedDirty e = refl
early_only kinds.ReadShared e = refl
early_only kinds.ReadClean e = refl
early_only kinds.ReadOnce e = refl
early_only kinds.ReadUnique e = refl
early_only kinds.CleanUnique e = refl
early_only kinds.MakeUnique e = refl
early_only kinds.CleanShared e = refl
early_only kinds.CleanInvalid e = refl
early_only kinds.MakeInvalid e = refl
early_only kinds.WriteUniqueFull e = refl
early_only kinds.Evict e = any e.clean where
  any : (b : Bool) → implies b true ≡ true
  any true = refl
  any false = refl
early_only kinds.WriteBackFull e = any e.dirty where
  any : (b : Bool) → implies b true ≡ true
  any true = refl
  any false = refl
early_only kinds.WriteCleanFull e = any e.dirty where
  any : (b : Bool) → implies b true ≡ true
  any true = refl
  any false = refl
early_only kinds.WriteEvictFull e = any e.unique where
  any : (b : Bool) → implies b true ≡ true
  any true = refl
  any false = refl

-- what is kept then
abbrev issued_seat : Arrived → Watched → ℕ → Kind → Earlier → Bool → Seat
issued_seat s w n k e delayed = record {
  told = told_come k (issued_before e k) (w.seen.told n).told;
  due = dues.Completion k;
  snooped = w.seen.public.snooped n;
  own = own_issued (s.own n) (timed_after s.timed k) (leaves_unsure e k (w.seen.told n).told) delayed;
}

line_told : (w : Watched) (f : CacheFlit) (k : Kind) (b : Bool) → f.act ≡ Request k → ((if b then with_due w f.agent.0 (dues.Completion k) else watch w (Up f)).seen.told f.agent.0).told ≡ (if b then (w.seen.told f.agent.0).told else told_issued k (w.seen.told f.agent.0).told)
line_told w f k true ha = refl
line_told w f k false ha = ap (λ (x : Known). x.told) (here f.agent.0 (told_after f.act (w.seen.public.due f.agent.0) (w.seen.told f.agent.0) (differs w.seen f)) w.seen.told)
    ∙ ap (λ (a : Act). told_behind a (w.seen.public.due f.agent.0) (w.seen.told f.agent.0).told) ha

line_due : (w : Watched) (f : CacheFlit) (k : Kind) (b : Bool) → f.act ≡ Request k → (if b then with_due w f.agent.0 (dues.Completion k) else watch w (Up f)).seen.public.due f.agent.0 ≡ dues.Completion k
line_due w f k true ha = here f.agent.0 (dues.Completion k) w.seen.public.due
line_due w f k false ha = here f.agent.0 (due_after f.act (w.seen.public.due f.agent.0)) w.seen.public.due ∙ ap (λ (a : Act). due_after a (w.seen.public.due f.agent.0)) ha

line_snooped : (w : Watched) (f : CacheFlit) (k : Kind) (b : Bool) → f.act ≡ Request k → (if b then with_due w f.agent.0 (dues.Completion k) else watch w (Up f)).seen.public.snooped f.agent.0 ≡ w.seen.public.snooped f.agent.0
line_snooped w f k true ha = refl
line_snooped w f k false ha = here f.agent.0 (snooped_after f.act (w.seen.public.snooped f.agent.0)) w.seen.public.snooped ∙ ap (λ (a : Act). snooped_after a (w.seen.public.snooped f.agent.0)) ha

issued_as : (s : Arrived) (w : Watched) (f : CacheFlit) (k : Kind) (e : Earlier) (delayed : Bool) → f.act ≡ Request k → seat (issued_state s w f k e delayed) f.agent.0 ≡ issued_seat s w f.agent.0 k e delayed
issued_as s w f k e delayed ha =
    let b = is_from_before w f.agent.0 k e in
    seat_of (line_issued w f k e) (put f.agent.0 (own_issued (s.own f.agent.0) (timed_after s.timed k) (leaves_unsure e k (w.seen.told f.agent.0).told) delayed) s.own) (timed_after s.timed k) f.agent.0 (issued_seat s w f.agent.0 k e delayed)
    (line_told w f k b ha) (line_due w f k b ha) (line_snooped w f k b ha)
    (here f.agent.0 (own_issued (s.own f.agent.0) (timed_after s.timed k) (leaves_unsure e k (w.seen.told f.agent.0).told) delayed) s.own)

-- the cache that sent it, once it is here
pub record Asked (k : Kind) (w : Watched) (n : ℕ) (own : Arriving) (e : Earlier) (c : Cache) : Type 0 where
  pub known : Known
  pub reached : reach Hidden c.due known c.held ≡ true
  pub due : c.due ≡ dues.Completion k
  pub request : c.request ≡ None
  pub idle : c.again ≡ None
  pub answer : c.answer ≡ None
  pub snooped : c.snooped ≡ w.seen.public.snooped n
  pub from : pend k (issued_before e k) known.told (w.seen.told n).told ≡ true
  pub acks : c.acks ≡ own.acks

issued_beside : (s : Arrived) (w : Watched) (n : ℕ) (k : Kind) (e : Earlier) (delayed : Bool) (c : Cache) → Asked k w n (s.own n) e c → Beside (issued_seat s w n k e delayed) c
issued_beside s w n k e delayed c a =
    let b = issued_before e k in
    let t = (w.seen.told n).told in
    let from : (implies b (is_early k) && pend k b a.known.told t) ≡ true = both _ _ (early_only k e) a.from in
    record {
      known = a.known;
      reached = a.reached;
      place = Here a.answer refl a.snooped (Rests (record {
        held = refl;
        request = a.request;
        idle = a.idle;
        due = a.due;
        whole = refl;
        sure = sure_come k b a.known.told t from;
        told = right ((b && not (fits_issue k true t)) || fits_issue k true t) _ (come_of k b a.known.told t from);
        acks = a.acks;
      }));
    }

pub judged_if : (w b : Bool) (P : Arrived → Type 0) (x y : Outcome) → (b ≡ true → Judged w P x) → (b ≡ false → Judged w P y) → Judged w P (if b then x else y)
judged_if w true P x y h e = h refl
judged_if w false P x y h e = e refl

taken_by : (a b x : Bool) → ((a && not b) || b) ≡ true → (b ≡ true → x ≡ true) → ((a && not b) || x) ≡ true
taken_by true true x h g = g refl
taken_by true false x h g = refl
taken_by false true x h g = g refl
taken_by false false x h g = no h

pub issued_judged : (s : Arrived) (w : Watched) (f : CacheFlit) (k : Kind) (e : Earlier) (delayed b : Bool) (c : Cache) → f.act ≡ Request k → f.agent.0 < 32 → w.seen.public.stores ≡ Hidden → may_be_free (w.seen.public.due f.agent.0) ≡ true
    → Asked k w f.agent.0 (s.own f.agent.0) e c → Judged b (λ s'. Beside (seat s' f.agent.0) c) (issued s w f k e delayed)
issued_judged s w f k e delayed b c ha low hz hd a =
    let n = f.agent.0 in
    let t = (w.seen.told n).told in
    let P : Arrived → Type 0 = λ s'. Beside (seat s' n) c in
    let takes : line_takes w f k e ≡ true = taken_by (issued_before e k) (fits_issue k true t) (is_taken w (Up f)) (left _ _ (come_of k (issued_before e k) a.known.told t (both _ _ (early_only k e) a.from))) (request_taken w f k ha low hz hd) in
    judged_if b (is_unlost_at w n k e) P LeftOpen (taken_if (line_takes w f k e) (issued_state s w f k e delayed)) (λ _. tt)
    (λ _. judged_if b (line_takes w f k e) P (Taken (issued_state s w f k e delayed)) NotTaken
    (λ _. subst (λ p. Beside p c) (sym (issued_as s w f k e delayed ha)) (issued_beside s w n k e delayed c a))
    (λ h. no (sym h ∙ takes)))
