-- Of a flit that is taken no reason holds.
use Rattle.std.proofs.Common.{◌≡◌, ℕ, Bool, true, false, refl, sym}
use Rattle.std.specs.Prelude.{◌&&◌, ◌||◌, not, nat_lt, Option, None, if◌then◌else◌}
use Rattle.chi_observer.specs.declared.flits.CacheFlit.{CacheFlit}
use Rattle.chi_observer.specs.declared.flits.HomeFlit.{HomeFlit}
use Rattle.chi_observer.specs.declared.flits.Flit.{Flit}
use Rattle.chi_observer.specs.declared.flits.Flit.TheVariants.{Up, Down}
use Rattle.chi_observer.specs.Rules.{allows, is_busy, is_due, needs_duty, needs_overwriter, needs_quiet}
use Rattle.chi_copies.specs.declared.line.Reason.{Reason}
use Rattle.chi_copies.specs.declared.line.Reason.TheVariants.{NoAgent, NotSent, NotDue, NoDuty, Busy, NoOverwriter, OtherWords, NoMoment, Lost, OtherCopy}
use Rattle.chi_copies.specs.Copies.{any_held}
use Rattle.chi_copies.specs.Rules.{fills, shows}
use Rattle.chi_copies.specs.Worlds.{all_below, home_may, is_overwritten, is_placed}
use Rattle.chi_copies.specs.Moments.{has_moment}
use Rattle.chi_copies.specs.Observed.{Observed, any_of, fits_home, goes, takes, takes_home}
use Rattle.chi_copies.specs.Lines.{is_taken, is_taken_home}
use Rattle.chi_copies.specs.Refusals.{copy_refusal, due_refusal, home_refusal, refusal, refused_if}
use Rattle.chi_copies.specs.Begun.{Begun, apart_given, apart_sent, counts, has_its_moment, is_left_over, is_shown, others_begun, others_sent, sent_begun, stand_beside, takes_begun, takes_given, takes_sent}
use Rattle.chi_copies.specs.BegunRefusals.{begun_refusal, given_refusal, order_refusal, sent_refusal}

no : {A : Type 0} → false ≡ true → A
no {A} h = absurd (cc h)

left : (a b : Bool) → (a && b) ≡ true → a ≡ true
left true b h = refl
left false b h = no h

right : (a b : Bool) → (a && b) ≡ true → b ≡ true
right true b h = h
right false b h = no h

flip : (a : Bool) → a ≡ true → not a ≡ false
flip true h = refl
flip false h = no h

unflip : (a : Bool) → not a ≡ true → a ≡ false
unflip true h = no h
unflip false h = refl

kept : (a b : Bool) → (not a || b) ≡ true → (a && not b) ≡ false
kept true true h = refl
kept true false h = no h
kept false b h = refl

-- a row that isn't so
row : (b : Bool) (reason : Reason) (rest : Option Reason) → b ≡ false → rest ≡ None → refused_if b reason rest ≡ None
row true reason rest h behind = no (sym h)
row false reason rest h behind = behind

pub cache_none : (o : Observed) (f : CacheFlit) → is_taken o f ≡ true → refusal o f ≡ None
cache_none o f h =
    row (not (nat_lt f.agent.0 32)) NoAgent _ (flip _ (left (nat_lt f.agent.0 32) (takes o f) h))
    (row (not (takes o f)) NotSent None (flip _ (right (nat_lt f.agent.0 32) (takes o f) h)) refl)

-- by what the flits say of requests and answers
due_none : (o : Observed) (g : HomeFlit) (rest : Option Reason) → home_may o.public g ≡ true → rest ≡ None → due_refusal o g rest ≡ None
due_none o g rest h behind =
    let due = is_due g.grant (o.public.due g.agent.0) (o.public.snooped g.agent.0) in
    let quiet = all_below 32 (λ m. not (is_busy (o.public.due m))) in
    let over = is_overwritten o.public g.agent.0 in
    let has_duty = not (needs_duty g.grant) || o.public.duty in
    let is_calm = not (needs_quiet g.grant) || quiet in
    let may_throw = not (needs_overwriter g.grant) || over in
    let second = right due (has_duty && (is_calm && may_throw)) h in
    let third = right has_duty (is_calm && may_throw) second in
    row (not due) NotDue _ (flip due (left due _ h))
    (row (needs_duty g.grant && not o.public.duty) NoDuty _ (kept (needs_duty g.grant) o.public.duty (left has_duty _ second))
    (row (needs_quiet g.grant && not quiet) Busy _ (kept (needs_quiet g.grant) quiet (left is_calm may_throw third))
    (row (needs_overwriter g.grant && not over) NoOverwriter rest (kept (needs_overwriter g.grant) over (right is_calm may_throw third)) behind)))

-- by the copies
three_none : (shown fit lost good : Bool) → ((not shown || fit) && (not lost && good)) ≡ true
    → refused_if (shown && not fit) OtherWords (refused_if lost Lost (refused_if (not good) OtherCopy None)) ≡ None
three_none shown fit lost good h =
    let behind = right (not shown || fit) (not lost && good) h in
    row (shown && not fit) OtherWords _ (kept shown fit (left (not shown || fit) (not lost && good) h))
    (row lost Lost _ (unflip lost (left (not lost) good behind)) (row (not good) OtherCopy None (flip good (right (not lost) good behind)) refl))

pub home_none : (o : Observed) (shown : ℕ → Bool) (g : HomeFlit) → is_taken_home o shown g ≡ true → home_refusal o shown g ≡ None
home_none o shown g h =
    let may = home_may o.public g in
    let second = right (nat_lt g.agent.0 32) (has_moment o shown g && takes_home o g) h in
    let third = right (has_moment o shown g) (takes_home o g) second in
    row (not (nat_lt g.agent.0 32)) NoAgent _ (flip _ (left (nat_lt g.agent.0 32) _ h))
    (row (not (has_moment o shown g)) NoMoment _ (flip _ (left (has_moment o shown g) (takes_home o g) second))
    (due_none o g (copy_refusal o g) (left may _ third)
    (three_none (any_of (o.may g.agent.0) (shows g.grant)) (fits_home o.home g.shown) (any_of (o.may g.agent.0) (λ h. fills g.grant h && h.stored)) (goes o g) (right may _ third))))

-- of a trace that begins in the middle
sent_none : (b : Begun) (f : CacheFlit) → takes_sent b f ≡ true → sent_refusal b f ≡ None
sent_none b f h = by (allows f.act (b.seen.public.snooped f.agent.0)) (is_placed f.act) (any_held (sent_begun b f)) (stand_beside f.agent.0 (apart_sent b f) b (others_sent b f)) h
  where
    by : (a p s d : Bool) → (a && (p && (s && d))) ≡ true → refused_if (not (a && (p && s))) NotSent (refused_if (not d) OtherCopy None) ≡ None
    by true true true true h = refl
    by true true true false h = no h
    by true true false d h = no h
    by true false s d h = no h
    by false p s d h = no h

given_none : (b : Begun) (g : HomeFlit) → takes_given b g ≡ true → given_refusal b g ≡ None
given_none b g h =
    let moment = has_its_moment b g in
    let may = home_may b.seen.public g in
    let second = right moment _ h in
    row (not moment) NoMoment _ (flip moment (left moment _ h))
    (due_none b.seen g (order_refusal b g) (left may _ second)
    (three_none (is_shown b g) (fits_home b.seen.home g.shown) (counts (b.sure g.agent.0) (b.seen.may g.agent.0) (λ h. fills g.grant h && h.stored))
    (stand_beside g.agent.0 (apart_given b g) b (others_begun b g)) (right may _ second)))

before_none : (n l t : Bool) (rest : Option Reason) → (n && (l || t)) ≡ true → (t ≡ true → rest ≡ None)
    → refused_if (not n) NoAgent (if l then None else rest) ≡ None
before_none true true t rest h taken = refl
before_none true false t rest h taken = taken h
before_none false l t rest h taken = no h

pub begun_none : (b : Begun) (e : Flit) → takes_begun b e ≡ true → begun_refusal b e ≡ None
begun_none b (Up f) h = before_none (nat_lt f.agent.0 32) (is_left_over b (Up f)) (takes_sent b f) (sent_refusal b f) h (sent_none b f)
begun_none b (Down g) h = before_none (nat_lt g.agent.0 32) (is_left_over b (Down g)) (takes_given b g) (given_refusal b g) h (given_none b g)
