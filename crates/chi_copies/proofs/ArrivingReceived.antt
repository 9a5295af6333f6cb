-- A flit of a cache that comes: what the code keeps is what the observer keeps.
use Rattle.std.proofs.Common.{◌≡◌, ◌≢◌, ℕ, ◌-◌, ◌<◌, List, length, refl, sym, subst, ap, ◌∙◌, slice_set}
use Rattle.std.specs.Prelude.{Bool, true, false, ◌&&◌, ◌||◌, ◌==◌, not, Option, Some, None, if◌then◌else◌}
use Rattle.std.proofs.Math.Path.{fun_ext}
use Rattle.chi_observer.specs.declared.flits.Act.{Act}
use Rattle.chi_observer.specs.declared.flits.Act.TheVariants.{Request, Resend, SnpResp, CompAck, CopyBackWrData, NonCopyBackWrData, Load, Store}
use Rattle.chi_observer.specs.declared.flits.CacheFlit.{CacheFlit}
use Rattle.chi_observer.specs.Rules.{due_after, passes_duty, tells_words}
use Rattle.chi_copies.specs.declared.moves.Move.{Move}
use Rattle.chi_copies.specs.declared.moves.Move.TheVariants.{Brings, Passes, ForgetsOwn, Forgets}
use Rattle.chi_copies.specs.declared.received.Coming.{Coming}
use Rattle.chi_copies.specs.declared.received.Ages.{Ages}
use Rattle.chi_copies.specs.declared.replies.Age.{Age}
use Rattle.chi_copies.specs.declared.replies.Age.TheVariants.{Own, Last, Past, Older}
use Rattle.chi_copies.specs.declared.replies.Asked.{Asked}
use Rattle.chi_copies.specs.declared.replies.Asked.TheVariants.{NoReply}
use Rattle.chi_copies.specs.declared.replies.Reply.{Reply}
use Rattle.chi_copies.specs.declared.standing.Standing.{Standing}
use Rattle.chi_copies.specs.Copies.{same_held}
use Rattle.chi_copies.specs.Worlds.{put}
use Rattle.chi_copies.specs.Arriving.{Member, Members, Received, acknowledged, aged, answered, any_age, any_member, any_of, behind_words, brings, came, comes, forgot, has_words_so, home_then, is_gone, is_new, is_shown, kept, led, may_bring, passed_by, number_of, number_of_age, outrun, passed, passed_by, replied, requested, same_flit, same_member, same_option, settled, with_mark}
use Rattle.chi_copies.specs.ArrivingLines.{Acknowledged, Answered, Beheld, Forgot, Requested, Settles, ages_of, agent_at, beheld_by, brings_by, brought, comes_so, coming_of, due_of, gives_away, home_by, is_side, may_of, member_moves, nobody, passes_so, received_by, same_sent, words_at}
use Rattle.chi_copies.proofs.Finite.{no, left, right, both, or_left, or_right, either, turned, each_answer, each_form}
use Rattle.chi_copies.proofs.Put.{here, there, split, unlike}
use Rattle.chi_copies.proofs.Sets.{same_bool}
use Rattle.chi_copies.proofs.Lines.{set_is_put}
use Rattle.chi_copies.proofs.ArrivingMembers.{in_member, out_member}

-- AGENTS
pub put_same : {A : Type 0} (n : ℕ) (F : ℕ → A) → put n (F n) F ≡ F
put_same {A} n F = fun_ext (split (λ m. put n (F n) F m ≡ F m) n (here n (F n) F) (λ m h. there n (F n) F m h))

pub put_other : {A : Type 0} (n : ℕ) (x : A) (F G : ℕ → A) → ((m : ℕ) → m ≢ n → F m ≡ G m) → put n x F ≡ put n x G
put_other {A} n x F G e = fun_ext (split (λ m. put n x F m ≡ put n x G m) n (here n x F ∙ sym (here n x G)) (λ m h. there n x F m h ∙ e m h ∙ sym (there n x G m h)))

pub settled_is : (xs ys : List Standing) (duty : Bool) (home : Option (List ℕ)) → ((n : ℕ) → Settles (agent_at xs n) (agent_at ys n)) → received_by ys duty home ≡ settled (received_by xs duty home)
settled_is xs ys duty home e = λ i. record {
  due = λ n. due_of ((e n).facts i);
  asked = λ n. ((e n).facts i).asked;
  acks = λ n. ((e n).facts i).acks;
  overtaken = λ n. ((e n).facts i).overtaken;
  duty = duty;
  may = λ n. fun_ext (e n).may i;
  home = home;
}

-- A REQUEST
module _ (xs : List Standing) (duty : Bool) (home : Option (List ℕ)) (n : ℕ) (y : Standing) (low : n < length xs) where
  abbrev x : Standing
  x = agent_at xs n

  pub requested_is : (f : CacheFlit) → n ≡ f.agent.0 → Requested f.act x y → received_by (slice_set xs n y) duty home ≡ requested (received_by xs duty home) f
  requested_is f at r = subst (λ (k : ℕ). received_by (slice_set xs n y) duty home ≡ record {
    due = put k (due_after f.act (due_of (agent_at xs k).facts)) (λ m. due_of (agent_at xs m).facts);
    asked = λ m. (agent_at xs m).facts.asked;
    acks = λ m. (agent_at xs m).facts.acks;
    overtaken = λ m. (agent_at xs m).facts.overtaken;
    duty = duty;
    may = put k (led (came f.act) (may_of (agent_at xs k))) (λ m. may_of (agent_at xs m));
    home = home;
  }) at (λ i. record {
    due = (set_is_put (λ (x : Standing). due_of x.facts) xs n y nobody low ∙ ap (λ d. put n d (λ m. due_of (agent_at xs m).facts)) r.due) i;
    asked = (set_is_put (λ (x : Standing). x.facts.asked) xs n y nobody low ∙ ap (λ d. put n d (λ m. (agent_at xs m).facts.asked)) r.asked ∙ put_same n (λ m. (agent_at xs m).facts.asked)) i;
    acks = (set_is_put (λ (x : Standing). x.facts.acks) xs n y nobody low ∙ ap (λ d. put n d (λ m. (agent_at xs m).facts.acks)) r.acks ∙ put_same n (λ m. (agent_at xs m).facts.acks)) i;
    overtaken = (set_is_put (λ (x : Standing). x.facts.overtaken) xs n y nobody low ∙ ap (λ d. put n d (λ m. (agent_at xs m).facts.overtaken)) r.overtaken ∙ put_same n (λ m. (agent_at xs m).facts.overtaken)) i;
    duty = duty;
    may = (set_is_put may_of xs n y nobody low ∙ ap (λ S. put n S (λ m. may_of (agent_at xs m))) (fun_ext r.may)) i;
    home = home;
  })

  may_same : Acknowledged x y → may_of y ≡ may_of x
  may_same r = λ i. may_of (record { facts = record { due = r.due i; asked = r.asked i; acks = x.facts.acks; overtaken = x.facts.overtaken }; members = r.members i })

  pub acknowledged_is : (k : ℕ) → n ≡ k → Acknowledged x y → received_by (slice_set xs n y) duty home ≡ acknowledged (received_by xs duty home) k
  acknowledged_is k at r = subst (λ (k : ℕ). received_by (slice_set xs n y) duty home ≡ acknowledged (received_by xs duty home) k) at (λ i. record {
    due = (set_is_put (λ (x : Standing). due_of x.facts) xs n y nobody low ∙ ap (λ d. put n d (λ m. due_of (agent_at xs m).facts)) (λ i. due_of (record { due = r.due i; asked = x.facts.asked; acks = x.facts.acks; overtaken = x.facts.overtaken })) ∙ put_same n (λ m. due_of (agent_at xs m).facts)) i;
    asked = (set_is_put (λ (x : Standing). x.facts.asked) xs n y nobody low ∙ ap (λ d. put n d (λ m. (agent_at xs m).facts.asked)) r.asked ∙ put_same n (λ m. (agent_at xs m).facts.asked)) i;
    acks = (set_is_put (λ (x : Standing). x.facts.acks) xs n y nobody low ∙ ap (λ d. put n d (λ m. (agent_at xs m).facts.acks)) r.acks) i;
    overtaken = (set_is_put (λ (x : Standing). x.facts.overtaken) xs n y nobody low ∙ ap (λ d. put n d (λ m. (agent_at xs m).facts.overtaken)) r.overtaken ∙ put_same n (λ m. (agent_at xs m).facts.overtaken)) i;
    duty = duty;
    may = (set_is_put may_of xs n y nobody low ∙ ap (λ S. put n S (λ m. may_of (agent_at xs m))) (may_same r) ∙ put_same n (λ m. may_of (agent_at xs m))) i;
    home = home;
  })

-- BOOLEANS
pull_two : (b a q c : Bool) → (b && (a && (q && c))) ≡ (q && (b && (a && c)))
pull_two true true q c = refl
pull_two true false true c = refl
pull_two true false false c = refl
pull_two false a true c = refl
pull_two false a false c = refl

pub pull : (a q b : Bool) → (a && (q && b)) ≡ (q && (a && b))
pull true q b = refl
pull false true b = refl
pull false false b = refl

no_and : (b : Bool) → false ≡ (b && false)
no_and true = refl
no_and false = refl

-- A REPLY
twenty : (b : Act) → gives_away b ≡ true → (20 == number_of b) ≡ false
twenty (SnpResp y) l = turned _ (each_answer (λ y. not (20 == number_of (SnpResp y))) refl y)
twenty (CopyBackWrData y) l = turned _ (each_form (λ y. not (20 == number_of (CopyBackWrData y))) refl y)
twenty NonCopyBackWrData l = refl
twenty (Request k) l = no l
twenty (Resend k) l = no l
twenty CompAck l = no l
twenty (Load v) l = no l
twenty (Store v) l = no l

flit_number : (a b : Act) → gives_away b ≡ true → same_flit a b ≡ (number_of a == number_of b)
flit_number (SnpResp x) (SnpResp y) l = refl
flit_number (SnpResp x) (CopyBackWrData y) l = refl
flit_number (SnpResp x) NonCopyBackWrData l = refl
flit_number (CopyBackWrData x) (SnpResp y) l = refl
flit_number (CopyBackWrData x) (CopyBackWrData y) l = refl
flit_number (CopyBackWrData x) NonCopyBackWrData l = refl
flit_number NonCopyBackWrData (SnpResp y) l = refl
flit_number NonCopyBackWrData (CopyBackWrData y) l = refl
flit_number NonCopyBackWrData NonCopyBackWrData l = refl
flit_number (Request k) (SnpResp y) l = sym (twenty (SnpResp y) l)
flit_number (Request k) (CopyBackWrData y) l = sym (twenty (CopyBackWrData y) l)
flit_number (Request k) NonCopyBackWrData l = sym (twenty NonCopyBackWrData l)
flit_number (Resend k) (SnpResp y) l = sym (twenty (SnpResp y) l)
flit_number (Resend k) (CopyBackWrData y) l = sym (twenty (CopyBackWrData y) l)
flit_number (Resend k) NonCopyBackWrData l = sym (twenty NonCopyBackWrData l)
flit_number CompAck (SnpResp y) l = refl
flit_number CompAck (CopyBackWrData y) l = refl
flit_number CompAck NonCopyBackWrData l = refl
flit_number (Load v) (SnpResp y) l = refl
flit_number (Load v) (CopyBackWrData y) l = refl
flit_number (Load v) NonCopyBackWrData l = refl
flit_number (Store v) (SnpResp y) l = refl
flit_number (Store v) (CopyBackWrData y) l = refl
flit_number (Store v) NonCopyBackWrData l = refl
flit_number (SnpResp x) (Request q) l = no l
flit_number (SnpResp x) (Resend q) l = no l
flit_number (SnpResp x) CompAck l = no l
flit_number (SnpResp x) (Load w) l = no l
flit_number (SnpResp x) (Store w) l = no l
flit_number CompAck (Request q) l = no l
flit_number CompAck (Resend q) l = no l
flit_number CompAck CompAck l = no l
flit_number CompAck (Load w) l = no l
flit_number CompAck (Store w) l = no l
flit_number (CopyBackWrData x) (Request q) l = no l
flit_number (CopyBackWrData x) (Resend q) l = no l
flit_number (CopyBackWrData x) CompAck l = no l
flit_number (CopyBackWrData x) (Load w) l = no l
flit_number (CopyBackWrData x) (Store w) l = no l
flit_number NonCopyBackWrData (Request q) l = no l
flit_number NonCopyBackWrData (Resend q) l = no l
flit_number NonCopyBackWrData CompAck l = no l
flit_number NonCopyBackWrData (Load w) l = no l
flit_number NonCopyBackWrData (Store w) l = no l
flit_number (Load v) (Request q) l = no l
flit_number (Load v) (Resend q) l = no l
flit_number (Load v) CompAck l = no l
flit_number (Load v) (Load w) l = no l
flit_number (Load v) (Store w) l = no l
flit_number (Store v) (Request q) l = no l
flit_number (Store v) (Resend q) l = no l
flit_number (Store v) CompAck l = no l
flit_number (Store v) (Load w) l = no l
flit_number (Store v) (Store w) l = no l
flit_number (Request k) (Request q) l = no l
flit_number (Request k) (Resend q) l = no l
flit_number (Request k) CompAck l = no l
flit_number (Request k) (Load w) l = no l
flit_number (Request k) (Store w) l = no l
flit_number (Resend k) (Request q) l = no l
flit_number (Resend k) (Resend q) l = no l
flit_number (Resend k) CompAck l = no l
flit_number (Resend k) (Load w) l = no l
flit_number (Resend k) (Store w) l = no l

and_no : (b : Bool) → (b && false) ≡ false
and_no true = refl
and_no false = refl

or_no : (b : Bool) → (b || false) ≡ b
or_no true = refl
or_no false = refl

turn : (x y z : Bool) → (x || (y || z)) ≡ (z || (y || x))
turn true true true = refl
turn true true false = refl
turn true false true = refl
turn true false false = refl
turn false true true = refl
turn false true false = refl
turn false false true = refl
turn false false false = refl

by_ages : (D L P wo wl wp wx : Bool) → ((wo && D) || ((wl && L) || ((wp && P) || (wx && D)))) ≡ (((wo || wx) && D) || ((wp && P) || (wl && L)))
by_ages D L P false wl wp wx = turn (wl && L) (wp && P) (wx && D)
by_ages true L P true wl wp wx = refl
by_ages false L P true wl wp true = turn (wl && L) (wp && P) false
by_ages false L P true wl wp false = turn (wl && L) (wp && P) false

grouped : (q hD sD hL sL hP sP stays wo wl wp wx : Bool)
    → ((wo && (hD && (q && sD))) || ((wl && (stays && (hL && (q && sL)))) || ((wp && (hP && (q && sP))) || (wx && (hD && (q && sD))))))
    ≡ (q && (((wo || wx) && (hD && sD)) || ((wp && (hP && sP)) || (wl && (stays && (hL && sL))))))
grouped true hD sD hL sL hP sP stays wo wl wp wx = by_ages (hD && sD) (stays && (hL && sL)) (hP && sP) wo wl wp wx
grouped false hD sD hL sL hP sP stays wo wl wp wx = simp (and_no, or_no)

-- some member is so or so
any_split : (S B X Y : Members) → any_member (λ m. S m && (B m && (X m || Y m))) ≡ (any_member (λ m. S m && (B m && X m)) || any_member (λ m. S m && (B m && Y m)))
any_split S B X Y = same_bool (any_member (λ m. S m && (B m && (X m || Y m)))) (any_member (λ m. S m && (B m && X m)) || any_member (λ m. S m && (B m && Y m)))
    (λ e. let x = out_member (λ m. S m && (B m && (X m || Y m))) e in let m = x.member in
    let s = left (S m) _ x.has in let b = left (B m) _ (right (S m) _ x.has) in
    either (X m) (Y m) (right (B m) _ (right (S m) _ x.has))
    (λ h. or_left _ (any_member (λ m. S m && (B m && Y m))) (in_member (λ m. S m && (B m && X m)) m x.known x.sent (both (S m) _ s (both (B m) _ b h))))
    (λ h. or_right (any_member (λ m. S m && (B m && X m))) _ (in_member (λ m. S m && (B m && Y m)) m x.known x.sent (both (S m) _ s (both (B m) _ b h)))))
    (λ e. either (any_member (λ m. S m && (B m && X m))) (any_member (λ m. S m && (B m && Y m))) e
    (λ h. let x = out_member (λ m. S m && (B m && X m)) h in let m = x.member in in_member (λ m. S m && (B m && (X m || Y m))) m x.known x.sent
    (both (S m) _ (left (S m) _ x.has) (both (B m) _ (left (B m) _ (right (S m) _ x.has)) (or_left (X m) (Y m) (right (B m) _ (right (S m) _ x.has))))))
    (λ h. let x = out_member (λ m. S m && (B m && Y m)) h in let m = x.member in in_member (λ m. S m && (B m && (X m || Y m))) m x.known x.sent
    (both (S m) _ (left (S m) _ x.has) (both (B m) _ (left (B m) _ (right (S m) _ x.has)) (or_right (X m) (Y m) (right (B m) _ (right (S m) _ x.has)))))))

abbrev has_age : Age → Option Reply → Bool
has_age e s = has_words_so (λ x. number_of_age x == number_of_age e) s

new_ages : (s : Option Reply) → has_words_so is_new s ≡ (has_age Last s || has_age Past s)
new_ages None = refl
new_ages (Some r) = by (tells_words r.act) r.age
  where
    by : (b : Bool) (e : Age) → (b && is_new e) ≡ ((b && (number_of_age e == number_of_age Last)) || (b && (number_of_age e == number_of_age Past)))
    by true Own = refl
    by true Last = refl
    by true Past = refl
    by true Older = refl
    by false e = refl

old_ages : (s : Option Reply) → has_words_so (λ e. not (is_new e)) s ≡ (has_age Own s || has_age Older s)
old_ages None = refl
old_ages (Some r) = by (tells_words r.act) r.age
  where
    by : (b : Bool) (e : Age) → (b && not (is_new e)) ≡ ((b && (number_of_age e == number_of_age Own)) || (b && (number_of_age e == number_of_age Older)))
    by true Own = refl
    by true Last = refl
    by true Past = refl
    by true Older = refl
    by false e = refl

module _ (o : Received) (f : CacheFlit) (away : gives_away f.act ≡ true) where
  abbrev c : Coming
  c = coming_of o f

  brings_is : (s : Option Reply) → brings o f s ≡ brings_by c s
  brings_is None = refl
  brings_is (Some r) = ap (λ b. b && comes_so c r.age) (flit_number r.act f.act away)

  pub brought_is : (a : Asked) → member_moves (Brings c) a ≡ replied o f
  brought_is a = fun_ext (λ m. fun_ext (λ k. sym (ap (λ b. b && same_member (record { held = with_mark m.held (m.held.stored && not (comes m)); request = m.request; reply = None }) k) (brings_is m.reply)
      ∙ pull_two (brings_by c m.reply) (same_held (with_mark m.held (m.held.stored && not (comes m))) k.held) (same_option same_flit m.request k.request) (same_sent None k.reply))))

  words_is : (g : Age → Bool) → may_bring o f g ≡ any_of (o.may f.agent.0) (λ m. brings_by c m.reply && has_words_so g m.reply)
  words_is g = ap (λ (B : Option Reply → Bool). any_of (o.may f.agent.0) (λ m. B m.reply && has_words_so g m.reply)) (fun_ext brings_is)

  abbrev e : Ages
  e = ages_of c (o.may f.agent.0)

  abbrev S : Members
  S = o.may f.agent.0

  abbrev W : Age → Bool
  W e = words_at c e S

  abbrev told : Bool → Ages
  told b = if b then record { own = W Own; last = W Last; past = W Past; older = W Older } else record { own = true; last = false; past = false; older = false }

  module _ (m k : Member) where
    abbrev q : Bool
    q = same_option same_flit m.request k.request

    passed_at : (b : Bool) → (if b then any_age (λ e. may_bring o f (λ g. number_of_age g == number_of_age e) && passed e m k) else same_member m k)
        ≡ (q && passes_so (told b) m.held m.reply k.held k.reply)
    passed_at true = (λ i. (words_is (λ g. number_of_age g == number_of_age Own) i && passed Own m k) || ((words_is (λ g. number_of_age g == number_of_age Last) i && passed Last m k)
        || ((words_is (λ g. number_of_age g == number_of_age Past) i && passed Past m k) || (words_is (λ g. number_of_age g == number_of_age Older) i && passed Older m k))))
        ∙ grouped q (same_held m.held k.held) (same_sent m.reply k.reply) (same_held (with_mark m.held (m.held.stored && not (is_gone m))) k.held) (same_sent (aged outrun m.reply) k.reply)
        (same_held (with_mark m.held m.held.stored) k.held) (same_sent (aged outrun m.reply) k.reply) (not (comes m)) (W Own) (W Last) (W Past) (W Older)
    passed_at false = pull (same_held m.held k.held) q (same_sent m.reply k.reply) ∙ ap (λ b. q && b) (sym (or_no (is_side m.held m.reply k.held k.reply)))

  pub passed_is : (a : Asked) → member_moves (Passes e) a ≡ passed_by o f
  passed_is a = fun_ext (λ m. fun_ext (λ k. sym (passed_at m k (tells_words f.act))))

  news_are : may_bring o f is_new ≡ (W Last || W Past)
  news_are = words_is is_new ∙ ap (λ (g : Option Reply → Bool). any_of S (λ m. brings_by c m.reply && g m.reply)) (fun_ext new_ages) ∙ any_split S (λ m. brings_by c m.reply) (λ m. has_age Last m.reply) (λ m. has_age Past m.reply)

  olds_are : may_bring o f (λ e. not (is_new e)) ≡ (W Own || W Older)
  olds_are = words_is (λ e. not (is_new e)) ∙ ap (λ (g : Option Reply → Bool). any_of S (λ m. brings_by c m.reply && g m.reply)) (fun_ext old_ages) ∙ any_split S (λ m. brings_by c m.reply) (λ m. has_age Own m.reply) (λ m. has_age Older m.reply)

  pub home_is : home_by o.home f e ≡ home_then o f
  home_is = by (tells_words f.act)
    where
      by : (b : Bool) → (if not (b && ((told b).last || (told b).past)) || is_shown o.home f then o.home else (if (told b).own || (told b).older then None else Some f.shown))
          ≡ (if not (b && may_bring o f is_new) || is_shown o.home f then o.home else (if may_bring o f (λ e. not (is_new e)) then None else Some f.shown))
      by true = λ i. if not (sym news_are i) || is_shown o.home f then o.home else (if sym olds_are i then None else Some f.shown)
      by false = refl

-- WHAT IS LEFT
module _ (xs zs : List Standing) (duty : Bool) (home : Option (List ℕ)) (f : CacheFlit) (y : Standing) (low : f.agent.0 < length zs) where
  abbrev n : ℕ
  n = f.agent.0

  abbrev at : ℕ → Standing
  at m = agent_at xs m

  abbrev o : Received
  o = received_by xs duty home

  module _ (step : Move) (behind : (m : ℕ) → Beheld (m == n) step (at m) (agent_at zs m)) where
    pub facts_put : {A : Type 0} (v : Standing → A) (w : A) → ((m : ℕ) → v (agent_at zs m) ≡ v (at m)) → v y ≡ w → (λ m. v (agent_at (slice_set zs n y) m)) ≡ put n w (λ m. v (at m))
    facts_put {A} v w e g = set_is_put v zs n y nobody low ∙ ap (λ d. put n d (λ m. v (agent_at zs m))) g ∙ ap (λ (F : ℕ → A). put n w F) (fun_ext e)

    pub facts_stay : {A : Type 0} (v : Standing → A) → ((m : ℕ) → v (agent_at zs m) ≡ v (at m)) → v y ≡ v (at n) → ◌≡◌ {A = ℕ → A} (λ m. v (agent_at (slice_set zs n y) m)) (λ m. v (at m))
    facts_stay {A} v e g = facts_put v (v (at n)) e g ∙ put_same n (λ m. v (at m))

    pub may_put : (own : Members) (others : Member → Members) → may_of y ≡ own → ((m : ℕ) → member_moves step (at m).facts.asked ≡ others)
        → (λ m. may_of (agent_at (slice_set zs n y) m)) ≡ put n own (λ m. led others (may_of (at m)))
    may_put own others e g = set_is_put may_of zs n y nobody low ∙ ap (λ S. put n S (λ m. may_of (agent_at zs m))) e
        ∙ put_other n own (λ m. may_of (agent_at zs m)) (λ m. led others (may_of (at m)))
        (λ m apart. fun_ext (behind m).may ∙ ap (λ b. beheld_by b step (at m)) (unlike m n apart) ∙ ap (λ R. led R (may_of (at m))) (g m))

  pub answered_is : (duty' : Bool) (home' : Option (List ℕ)) → gives_away f.act ≡ true → ((m : ℕ) → Beheld (m == n) (Passes (ages_of (coming_of o f) (may_of (at n)))) (at m) (agent_at zs m))
      → Answered (coming_of o f) (at n) y → duty' ≡ (duty || passes_duty f.act) → home' ≡ home_by home f (ages_of (coming_of o f) (may_of (at n)))
      → received_by (slice_set zs n y) duty' home' ≡ answered o f
  answered_is duty' home' away behind r hd hh = let step = Passes (ages_of (coming_of o f) (may_of (at n))) in λ i. record {
    due = facts_stay step behind (λ x. due_of x.facts) (λ m. ap due_of (behind m).facts) (λ i. due_of (record { due = r.due i; asked = NoReply; acks = 0; overtaken = 0 })) i;
    acks = facts_stay step behind (λ x. x.facts.acks) (λ m. ap (λ x. x.acks) (behind m).facts) r.acks i;
    overtaken = facts_stay step behind (λ x. x.facts.overtaken) (λ m. ap (λ x. x.overtaken) (behind m).facts) r.overtaken i;
    asked = facts_put step behind (λ x. x.facts.asked) NoReply (λ m. ap (λ x. x.asked) (behind m).facts) r.asked i;
    duty = hd i;
    home = (hh ∙ home_is o f away) i;
    may = may_put step behind (led (replied o f) (may_of (at n))) (passed_by o f) (fun_ext r.may ∙ ap (λ R. led R (may_of (at n))) (brought_is o f away (at n).facts.asked)) (λ m. passed_is o f away (at m).facts.asked) i;
  }

  own_forgets : (a : Asked) → member_moves ForgetsOwn a ≡ behind_words kept
  own_forgets a = fun_ext (λ m. fun_ext (λ k. sym (pull (same_held (with_mark m.held (kept m)) k.held) (same_option same_flit m.request k.request) (same_sent (aged outrun m.reply) k.reply))))

  other_forgets : (a : Asked) → member_moves Forgets a ≡ behind_words (λ k. k.held.stored && not (is_gone k))
  other_forgets a = fun_ext (λ m. fun_ext (λ k. sym (pull (same_held (with_mark m.held (m.held.stored && not (is_gone m))) k.held) (same_option same_flit m.request k.request) (same_sent (aged outrun m.reply) k.reply))))

  pub forgot_is : (duty' : Bool) → ((m : ℕ) → Beheld (m == n) Forgets (at m) (agent_at zs m)) → Forgot (at n) y → duty' ≡ (duty || passes_duty f.act)
      → received_by (slice_set zs n y) duty' None ≡ forgot o f
  forgot_is duty' behind r hd = λ i. record {
    due = facts_stay Forgets behind (λ x. due_of x.facts) (λ m. ap due_of (behind m).facts) (λ i. due_of (record { due = r.due i; asked = NoReply; acks = 0; overtaken = 0 })) i;
    asked = facts_stay Forgets behind (λ x. x.facts.asked) (λ m. ap (λ x. x.asked) (behind m).facts) r.asked i;
    acks = facts_stay Forgets behind (λ x. x.facts.acks) (λ m. ap (λ x. x.acks) (behind m).facts) r.acks i;
    overtaken = facts_put Forgets behind (λ x. x.facts.overtaken) ((at n).facts.overtaken - 1) (λ m. ap (λ x. x.overtaken) (behind m).facts) r.overtaken i;
    duty = hd i;
    home = None;
    may = may_put Forgets behind (led (behind_words kept) (may_of (at n))) (behind_words (λ k. k.held.stored && not (is_gone k))) (fun_ext r.may ∙ ap (λ R. led R (may_of (at n))) (own_forgets (at n).facts.asked)) (λ m. other_forgets (at m).facts.asked) i;
  }

-- whether it may come
pub replied_is : (xs : List Standing) (duty : Bool) (home : Option (List ℕ)) (f : CacheFlit) → gives_away f.act ≡ true → (n : ℕ) (c : Coming) → n ≡ f.agent.0 → c ≡ coming_of (received_by xs duty home) f
    → any_member (brought c (agent_at xs n)) ≡ any_member (led (replied (received_by xs duty home) f) (may_of (agent_at xs f.agent.0)))
replied_is xs duty home f away n c at is = (λ i. any_member (brought (is i) (agent_at xs (at i))))
    ∙ ap (λ (R : Member → Members). any_member (led R (may_of (agent_at xs f.agent.0)))) (brought_is (received_by xs duty home) f away (agent_at xs f.agent.0).facts.asked)

pub reply_is : (xs zs : List Standing) (duty : Bool) (home : Option (List ℕ)) (f : CacheFlit) (y : Standing) (n : ℕ) (c : Coming) (a : Ages) (duty' : Bool) (home' : Option (List ℕ))
    → gives_away f.act ≡ true → f.agent.0 < length zs → n ≡ f.agent.0 → c ≡ coming_of (received_by xs duty home) f → a ≡ ages_of c (may_of (agent_at xs n))
    → ((m : ℕ) → Beheld (m == f.agent.0) (Passes a) (agent_at xs m) (agent_at zs m)) → Answered c (agent_at xs n) y → duty' ≡ (duty || passes_duty f.act) → home' ≡ home_by home f a
    → received_by (slice_set zs n y) duty' home' ≡ answered (received_by xs duty home) f
reply_is xs zs duty home f y n c a duty' home' away low at is ages behind r hd hh =
    let o = received_by xs duty home in
    let whole : a ≡ ages_of (coming_of o f) (may_of (agent_at xs f.agent.0)) = ages ∙ (λ i. ages_of (is i) (may_of (agent_at xs (at i)))) in
    subst (λ (k : ℕ). received_by (slice_set zs k y) duty' home' ≡ answered o f) (sym at)
    (answered_is xs zs duty home f y low duty' home' away
    (λ m. subst (λ a. Beheld (m == f.agent.0) (Passes a) (agent_at xs m) (agent_at zs m)) whole (behind m))
    (subst (λ c. Answered c (agent_at xs f.agent.0) y) is (subst (λ (k : ℕ). Answered c (agent_at xs k) y) at r)) hd (hh ∙ ap (home_by home f) whole))
