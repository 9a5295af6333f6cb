-- What nothing late bears on is judged as by the observer of what is told.
use Rattle.std.proofs.Common.{rules, arith, ◌≡◌, ◌⊎◌, inl, inr, ℕ, ◌<◌, refl, sym, ap, ◌∙◌}
use Rattle.std.proofs.Math.Path.{fun_ext}
use Rattle.std.proofs.lemmas.Bool.{eqb-true}
use Rattle.std.specs.Prelude.{Bool, true, false, ◌&&◌, ◌||◌, ◌==◌, not, nat_lt, Option, Some, None, if◌then◌else◌}
use Rattle.chi_observer.specs.declared.kinds.Kind.{Kind}
use Rattle.chi_observer.specs.declared.kinds.Kind.TheVariants as kinds
use Rattle.chi_observer.specs.declared.kinds.Snoop.{Snoop}
use Rattle.chi_observer.specs.declared.told.Told.{Told}
use Rattle.chi_observer.specs.declared.flits.Due.{Due}
use Rattle.chi_observer.specs.declared.flits.Due.TheVariants as dues
use Rattle.chi_observer.specs.declared.flits.Act.{Act}
use Rattle.chi_observer.specs.declared.flits.Act.TheVariants.{Request, Resend, SnpResp, CompAck, CopyBackWrData, NonCopyBackWrData, Load, Store}
use Rattle.chi_observer.specs.declared.flits.CacheFlit.{CacheFlit}
use Rattle.chi_observer.specs.declared.flits.HomeFlit.{HomeFlit}
use Rattle.chi_observer.specs.declared.flits.Flit.TheVariants.{Up, Down}
use Rattle.chi_observer.specs.declared.arriving.Held.{Held}
use Rattle.chi_observer.specs.declared.arriving.Held.TheVariants as helds
use Rattle.chi_observer.specs.declared.arriving.Earlier.{Earlier}
use Rattle.chi_observer.specs.declared.arriving.Arriving.{Arriving}
use Rattle.chi_observer.specs.declared.arriving.Turn.{Turn}
use Rattle.chi_observer.specs.declared.arriving.Turn.TheVariants as turns
use Rattle.chi_observer.specs.Judged.{judges_act}
use Rattle.chi_observer.specs.Rules.{allows, has_data, lets_go, may_be_free, needs_moment, needs_quiet, reads_any}
use Rattle.chi_observer.specs.Tables.{Known, fits_issue, fits_told, most, renews}
use Rattle.chi_observer.specs.Worlds.{all_below, put}
use Rattle.chi_observer.specs.Observed.{fits, fits_word}
use Rattle.chi_observer.specs.Lines.{Watched, is_taken, watch}
use Rattle.chi_observer.specs.Doubts.{supposed}
use Rattle.chi_observer.specs.Arriving.{bearing_of, holds_none, is_unlost, issued_before, says_dirty, turn_due, turn_held, turn_of}
use Rattle.chi_observer.specs.Arrivals.{Arrived, again, again_held, answered, awaited, by_bearing, by_turn, earlier_at, given, granted_state, is_busy_at, is_doubtful, is_full, issued, issued_state, left_if, known_as, outcome_within, played, requested, sent_outcome, settled, taken_if, told_given, told_if, turn_at}
use Rattle.chi_observer.specs.Arrivals.Outcome.{Taken, NotTaken, LeftOpen}
use Rattle.chi_observer.specs.Alike.{PromptIsJudgedAlike, is_idle, is_none_earlier, is_none_late, is_prompt, is_timely, is_writing, verdict}
use Rattle.chi_observer.proofs.Copies.{below_all, each_below}
use Rattle.chi_observer.proofs.Finite.{no, left, right}
use Rattle.chi_observer.proofs.Put.{here, there, split}

not_so : (b : Bool) → not b ≡ true → b ≡ false
not_so true h = no h
not_so false h = refl

ends_false : (b : Bool) → (b && false) ≡ false
ends_false true = refl
ends_false false = refl

or_none : (b : Bool) → (b || false) ≡ b
or_none true = refl
or_none false = refl

none_held_is : (h : Held) → holds_none h ≡ true → h ≡ helds.Nothing
none_held_is helds.Nothing h = refl
none_held_is (helds.Open kind) h = no h
none_held_is helds.Retried h = no h
none_held_is helds.Evicted h = no h

verdict_if : (b : Bool) (s : Arrived) → verdict (taken_if b s) ≡ Some b
verdict_if true s = refl
verdict_if false s = refl

-- REQUESTS
none_before : (e : Earlier) (k : Kind) → is_none_earlier e ≡ true → issued_before e k ≡ false
none_before e kinds.WriteBackFull h = not_so e.dirty (left (not e.dirty) (not e.unique && not e.clean) h)
none_before e kinds.WriteCleanFull h = not_so e.dirty (left (not e.dirty) (not e.unique && not e.clean) h)
none_before e kinds.WriteEvictFull h = not_so e.unique (left (not e.unique) (not e.clean) (right (not e.dirty) (not e.unique && not e.clean) h))
none_before e kinds.Evict h = not_so e.clean (right (not e.unique) (not e.clean) (right (not e.dirty) (not e.unique && not e.clean) h))
none_before e kinds.ReadNotSharedDirty h = refl
none_before e kinds.ReadShared h = refl
none_before e kinds.ReadClean h = refl
none_before e kinds.ReadOnce h = refl
none_before e kinds.ReadUnique h = refl
none_before e kinds.CleanUnique h = refl
none_before e kinds.MakeUnique h = refl
none_before e kinds.CleanShared h = refl
none_before e kinds.CleanInvalid h = refl
none_before e kinds.MakeInvalid h = refl
none_before e kinds.WriteUniqueFull h = refl

now_alike : (s : Arrived) (f : CacheFlit) (k : Kind) (e : Earlier) → issued_before e k ≡ false → verdict (issued s s.line f k e false) ≡ Some (is_taken s.line (Up f))
now_alike s f k e h =
    ap (λ (b : Bool). verdict (if (b && not (fits_issue k true (s.line.seen.told f.agent.0).told)) && is_unlost e k then LeftOpen else taken_if ((b && not (fits_issue k true (s.line.seen.told f.agent.0).told)) || is_taken s.line (Up f)) (issued_state s s.line f k e false))) h
    ∙ verdict_if (is_taken s.line (Up f)) (issued_state s s.line f k e false)

turn_alike : (own : Arriving) (d : Due) (t : Told) (k : Kind) → own.unsure ≡ false → is_writing d ≡ false → (turn_due own d None t k ≡ turns.Now) ⊎ ((turn_due own d None t k ≡ turns.Never) × (may_be_free d ≡ false))
turn_alike own dues.Nothing t k hu hd = inl (ap (λ (b : Bool). if b then turns.Unknown else turns.Now) hu)
turn_alike own (dues.Resending asked) t k hu hd = inl (ap (λ (b : Bool). if b then turns.Unknown else turns.Now) hu)
turn_alike own (dues.WriteData asked) t k hu hd = no (sym hd)
turn_alike own (dues.Completion asked) t k hu hd = inr (refl, refl)
turn_alike own (dues.SureCompletion asked) t k hu hd = inr (refl, refl)
turn_alike own dues.Acknowledgement t k hu hd = inr (refl, refl)

abbrev tests : Watched → CacheFlit → Act → Bool
tests w f a = judges_act a && (nat_lt f.agent.0 32 && (allows a (w.seen.public.snooped f.agent.0) && (fits_told w.seen.public.stores a (lets_go (w.seen.public.snooped f.agent.0)) (w.seen.public.due f.agent.0) (w.seen.told f.agent.0)
    && ((not (has_data a) || (renews w.seen.public.stores a (lets_go (w.seen.public.snooped f.agent.0)) (w.seen.public.due f.agent.0) (w.seen.told f.agent.0) || (not w.seen.current || fits w.seen.home f.shown)))
    && (reads_any w.seen.public.stores (w.seen.public.due f.agent.0) (most (w.seen.told f.agent.0)) || (not w.seen.current || fits_word w.seen.home a))))))

-- one that is open already, or whose CompAck is due
untaken : (w : Watched) (f : CacheFlit) (k : Kind) → f.act ≡ Request k → may_be_free (w.seen.public.due f.agent.0) ≡ false → is_taken w (Up f) ≡ false
untaken w f k ha h = ap (λ (a : Act). tests w f a) ha ∙ never (nat_lt f.agent.0 32) (may_be_free (w.seen.public.due f.agent.0)) _ _ h where
  never : (l m x y : Bool) → m ≡ false → (l && ((m && x) && y)) ≡ false
  never l m x y h = ap (λ (b : Bool). l && ((b && x) && y)) h ∙ ends_false l

request_alike : (s : Arrived) (f : CacheFlit) (k : Kind) → f.act ≡ Request k → issued_before (s.own f.agent.0).earlier k ≡ false → (turn_at s f.agent.0 k ≡ turns.Now) ⊎ ((turn_at s f.agent.0 k ≡ turns.Never) × (may_be_free (s.line.seen.public.due f.agent.0) ≡ false)) → verdict (requested s f k) ≡ Some (is_taken s.line (Up f))
request_alike s f k ha he (inl h) = ap (λ (t : Turn). verdict (by_turn t s f k)) h ∙ now_alike s f k (s.own f.agent.0).earlier he
request_alike s f k ha he (inr h) = ap (λ (t : Turn). verdict (by_turn t s f k)) h.0 ∙ ap Some (sym (untaken s.line f k ha h.1))

timely_none : (k : Kind) (d : Due) (q : Option Snoop) → is_timely (Request k) d q ≡ true → (q ≡ None) × (is_writing d ≡ false)
timely_none k d None h = (refl, not_so (is_writing d) h)
timely_none k d (Some snoop) h = no h

turn_moved : (own : Arriving) (d : Due) (q : Option Snoop) (t : Told) (k : Kind) → own.held ≡ helds.Nothing → q ≡ None → turn_of own d q t k ≡ turn_due own d None t k
turn_moved own d q t k hh hq = ap (λ (h : Held). turn_held h (turn_due own d q t k)) hh ∙ ap (λ (z : Option Snoop). turn_due own d z t k) hq

moved : (x y : Turn) (d : Bool) → x ≡ y → (y ≡ turns.Now) ⊎ ((y ≡ turns.Never) × (d ≡ false)) → (x ≡ turns.Now) ⊎ ((x ≡ turns.Never) × (d ≡ false))
moved x y d e (inl h) = inl (e ∙ h)
moved x y d e (inr h) = inr (e ∙ h.0, h.1)

-- ANSWERS AND WRITE DATA
put_same : {A : Type 0} (n : ℕ) (f : ℕ → A) → put n (f n) f ≡ f
put_same n f = fun_ext (split (λ m. put n (f n) f m ≡ f m) n (here n (f n) f) (λ m h. there n (f n) f m h))

abbrev line_with : Watched → (ℕ → Known) → Bool → Watched
line_with w told current = record { seen = record { public = w.seen.public; told = told; home = w.seen.home; current = current }; waits = w.waits; shown = w.shown }

settled_idle : (s : Arrived) (f : CacheFlit) → (s.own f.agent.0).unsure ≡ false → (s.own f.agent.0).current ≡ false → settled s f ≡ s.line
settled_idle s f hu hc =
    let n = f.agent.0 in
    let told = s.line.seen.told in
    ap (λ (b : Bool). line_with s.line (put n (known_as (told n) (told_if (b && not (says_dirty f.act (lets_go (s.line.seen.public.snooped n)))) (told n).told)) told) (s.line.seen.current || ((s.own n).current || (b && not (says_dirty f.act (lets_go (s.line.seen.public.snooped n))))))) hu
    ∙ ap (λ (b : Bool). line_with s.line (put n (told n) told) (s.line.seen.current || (b || false))) hc
    ∙ ap (λ (b : Bool). line_with s.line (put n (told n) told) b) (or_none s.line.seen.current)
    ∙ ap (λ (t : ℕ → Known). line_with s.line t s.line.seen.current) (put_same n told)

awaited_alike : (s : Arrived) (f : CacheFlit) → (s.own f.agent.0).held ≡ helds.Nothing → settled s f ≡ s.line → verdict (awaited s f) ≡ Some (is_taken s.line (Up f))
awaited_alike s f hh hs =
    ap (λ (h : Held). verdict (if is_taken (settled s f) (Up f) then played h s (answered s (watch (settled s f) (Up f)) f) f (earlier_at s f) else NotTaken)) hh
    ∙ verdict_if (is_taken (settled s f) (Up f)) _
    ∙ ap (λ (w : Watched). Some (is_taken w (Up f))) hs

again_alike : (s : Arrived) (f : CacheFlit) → (s.own f.agent.0).held ≡ helds.Nothing → verdict (again s f) ≡ Some (is_taken s.line (Up f))
again_alike s f hh = ap (λ (h : Held). verdict (again_held h s f)) hh ∙ verdict_if (is_taken s.line (Up f)) _

record Idle (own : Arriving) : Type 0 where
  held : own.held ≡ helds.Nothing
  unsure : own.unsure ≡ false
  current : own.current ≡ false
  earlier : is_none_earlier own.earlier ≡ true

idle_is : (own : Arriving) → is_idle own ≡ true → Idle own
idle_is own h =
    let rest = right (holds_none own.held) (not own.unsure && (not own.current && is_none_earlier own.earlier)) h in
    let last = right (not own.unsure) (not own.current && is_none_earlier own.earlier) rest in
    record {
      held = none_held_is own.held (left (holds_none own.held) (not own.unsure && (not own.current && is_none_earlier own.earlier)) h);
      unsure = not_so own.unsure (left (not own.unsure) (not own.current && is_none_earlier own.earlier) rest);
      current = not_so own.current (left (not own.current) (is_none_earlier own.earlier) last);
      earlier = right (not own.current) (is_none_earlier own.earlier) last;
    }

up_alike : (s : Arrived) (f : CacheFlit) (a : Act) → f.act ≡ a → Idle (s.own f.agent.0) → is_timely a (s.line.seen.public.due f.agent.0) (s.line.seen.public.snooped f.agent.0) ≡ true → verdict (sent_outcome a s f) ≡ Some (is_taken s.line (Up f))
up_alike s f (Request k) ha i t =
    let n = f.agent.0 in
    let d = s.line.seen.public.due n in
    let q = s.line.seen.public.snooped n in
    let free = timely_none k d q t in
    request_alike s f k ha (none_before (s.own n).earlier k i.earlier)
    (moved (turn_at s n k) (turn_due (s.own n) d None (s.line.seen.told n).told k) (may_be_free d) (turn_moved (s.own n) d q (s.line.seen.told n).told k i.held free.0) (turn_alike (s.own n) d (s.line.seen.told n).told k i.unsure free.1))
up_alike s f (Resend k) ha i t = again_alike s f i.held
up_alike s f (SnpResp x) ha i t = awaited_alike s f i.held (settled_idle s f i.unsure i.current)
up_alike s f (CopyBackWrData x) ha i t = awaited_alike s f i.held (settled_idle s f i.unsure i.current)
up_alike s f NonCopyBackWrData ha i t = awaited_alike s f i.held (settled_idle s f i.unsure i.current)
up_alike s f CompAck ha i t = no t
up_alike s f (Load word) ha i t = no t
up_alike s f (Store word) ha i t = no t

-- FLITS OF THE HOME
told_verdict : (b : Bool) (s : Arrived) → verdict (if b then Taken s else left_if false) ≡ Some b
told_verdict true s = refl
told_verdict false s = refl

told_alike : (s : Arrived) (g : HomeFlit) → is_full (s.own g.agent.0).acks ≡ false → is_busy_at s g ≡ false → is_doubtful s g ≡ false → verdict (told_given s g) ≡ Some (is_taken s.line (Down g))
told_alike s g hf hb hd =
    let taken = is_taken s.line (Down g) in
    let state = granted_state s (watch s.line (Down g)) g in
    ap (λ (b : Bool). verdict (if b then LeftOpen else (if is_busy_at s g then NotTaken else (if taken then Taken state else left_if (is_doubtful s g))))) hf
    ∙ ap (λ (b : Bool). verdict (if b then NotTaken else (if taken then Taken state else left_if (is_doubtful s g)))) hb
    ∙ ap (λ (b : Bool). verdict (if taken then Taken state else left_if b)) hd
    ∙ told_verdict taken state

down_alike : (s : Arrived) (g : HomeFlit) → g.agent.0 < 32 → is_prompt s (Down g) ≡ true → verdict (given s g) ≡ Some (is_taken s.line (Down g))
down_alike s g low h =
    let n = g.agent.0 in
    let late = λ (m : ℕ). is_none_late (s.own m) in
    let none = right (not (s.own n).delayed) (all_below 32 late) h in
    let each : (m : ℕ) → m < 32 → is_none_late (s.own m) ≡ true = each_below 32 late none in
    let delayed = not_so (s.own n).delayed (left (not (s.own n).delayed) (all_below 32 late) h) in
    let held = none_held_is (s.own n).held (right ((s.own n).acks == 0) (holds_none (s.own n).held) (each n low)) in
    let acks : (s.own n).acks ≡ 0 = eqb-true (s.own n).acks 0 (left ((s.own n).acks == 0) (holds_none (s.own n).held) (each n low)) in
    let quiet : all_below 32 (λ m. (s.own m).acks == 0) ≡ true = below_all 32 (λ m. (s.own m).acks == 0) (λ m l. left ((s.own m).acks == 0) (holds_none (s.own m).held) (each m l)) in
    let free : all_below 32 (λ m. holds_none (s.own m).held) ≡ true = below_all 32 (λ m. holds_none (s.own m).held) (λ m l. right ((s.own m).acks == 0) (holds_none (s.own m).held) (each m l)) in
    ap (λ (x : Held). verdict (by_bearing (bearing_of x (s.line.seen.public.snooped n) g.grant) s g)) held
    ∙ told_alike s g
    (ap is_full acks)
    (ap (λ (b : Bool). needs_quiet g.grant && not b) quiet ∙ ends_false (needs_quiet g.grant))
    (doubt (all_below 32 (λ m. holds_none (s.own m).held)) (s.own n).delayed (needs_moment g.grant (s.line.seen.public.due n)) (is_taken (supposed s.line s.own) (Down g)) free delayed)
  where
    doubt : (f d x k : Bool) → f ≡ true → d ≡ false → ((not f || (d && x)) && k) ≡ false
    doubt f d x k hf hd = ap (λ (b : Bool). (not b || (d && x)) && k) hf ∙ ap (λ (b : Bool). (b && x) && k) hd

low_is : (n : ℕ) → n < 32 → nat_lt n 32 ≡ true
low_is n h = search (rules, arith)

pub alike : PromptIsJudgedAlike
alike s (Up f) room low h =
    ap (λ (b : Bool). verdict (if b then LeftOpen else outcome_within s (Up f))) room
    ∙ ap (λ (b : Bool). verdict (if b then sent_outcome f.act s f else NotTaken)) (low_is f.agent.0 low)
    ∙ up_alike s f f.act refl (idle_is (s.own f.agent.0) (left (is_idle (s.own f.agent.0)) (is_timely f.act (s.line.seen.public.due f.agent.0) (s.line.seen.public.snooped f.agent.0)) h))
    (right (is_idle (s.own f.agent.0)) (is_timely f.act (s.line.seen.public.due f.agent.0) (s.line.seen.public.snooped f.agent.0)) h)
alike s (Down g) room low h =
    ap (λ (b : Bool). verdict (if b then LeftOpen else outcome_within s (Down g))) room
    ∙ ap (λ (b : Bool). verdict (if b then given s g else NotTaken)) (low_is g.agent.0 low)
    ∙ down_alike s g low h
