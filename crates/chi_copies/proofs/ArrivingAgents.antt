-- The code's agents as what is kept of them.
use Rattle.std.proofs.Common.{rules, arith, ◌≡◌, ◌≢◌, ℕ, ◌+◌, ◌<◌, ◌≤◌, zero, suc, ◌⊎◌, inl, inr, List, [], length, replicate, refl, sym, subst, ap, ◌∙◌, slice_set, eq-eqb}
use Rattle.std.specs.Prelude.{Bool, true, false, ◌&&◌, ◌||◌, ◌==◌, nat_lt, not, Option, Some, None, if◌then◌else◌}
use Rattle.std.proofs.Math.Path.{fun_ext}
use Rattle.std.proofs.lemmas.List.{get_or_past, get_or-set_other}
use Rattle.std.proofs.lemmas.Grind.{get_or-set_at}
use Rattle.chi_observer.specs.declared.flits.Act.{Act}
use Rattle.chi_observer.specs.declared.flits.Act.TheVariants.{Request, Resend, SnpResp, CompAck, CopyBackWrData, NonCopyBackWrData, Load, Store}
use Rattle.chi_observer.specs.declared.flits.Due.{Due}
use Rattle.chi_observer.specs.Rules.{due_after}
use Rattle.chi_copies.specs.declared.copies.Copies.{Copies as CopiesCode}
use Rattle.chi_copies.specs.declared.moves.Move.{Move}
use Rattle.chi_copies.specs.declared.moves.Move.TheVariants.{Brings}
use Rattle.chi_copies.specs.declared.received.Coming.{Coming}
use Rattle.chi_copies.specs.declared.received.Ages.{Ages}
use Rattle.chi_copies.specs.declared.replies.Age.{Age}
use Rattle.chi_copies.specs.declared.replies.Age.TheVariants.{Own, Last, Past, Older}
use Rattle.chi_copies.specs.declared.replies.Asked.TheVariants.{NoReply}
use Rattle.chi_copies.specs.declared.standing.Standing.{Standing}
use Rattle.chi_copies.specs.declared.replies.Asked.{Asked}
use Rattle.chi_copies.specs.declared.replies.Reply.{Reply}
use Rattle.chi_copies.specs.declared.side_tests.ReplyTest.TheVariants.{Stays, Words}
use Rattle.chi_copies.specs.Copies.{Held, same_held}
use Rattle.chi_copies.specs.Sets.{members}
use Rattle.chi_copies.specs.Arriving.{Member, Members, comes, any_member, any_of, due_then, has_words_so, is_last, led, same_flit, same_option, steps, times, with_mark}
use Rattle.chi_copies.specs.ArrivingLines.{Beheld, KnowsNothing, Settles, agent_at, received_by, brings_by, due_of, is_asking, is_none, may_of, no_rows, nobody, place_of_request, sides_of, member_moves, member_passes, reply_passes, same_sent, words_at}
use Rattle.chi_copies.proofs.Finite.{no, left, right, both, by_false}
use Rattle.chi_copies.proofs.Put.{split}
use Rattle.chi_copies.proofs.Lines.{past_by}
use Rattle.chi_copies.proofs.ArrivingSides.{none_past}
use Rattle.chi_copies.proofs.Sets.{same_bool}
use Rattle.chi_copies.proofs.ArrivingMembers.{out_member}

-- what is due of a request that the home has
pub asked_due : (act : Act) (d : Due) → is_asking act ≡ true → due_then (due_after act d) ≡ due_after act d
asked_due (Request kind) d l = refl
asked_due (Resend kind) d l = refl
asked_due (SnpResp x) d l = no l
asked_due CompAck d l = no l
asked_due (CopyBackWrData x) d l = no l
asked_due NonCopyBackWrData d l = no l
asked_due (Load v) d l = no l
asked_due (Store v) d l = no l

-- A REPLY THAT COMES leaves none on its way
brought_rests_at : (s : Option Reply) → same_sent None s ≡ true → is_none s ≡ true
brought_rests_at None h = refl
brought_rests_at (Some r) h = no h

pub brought_rests : (c : Coming) (a : Asked) (S : Members) (m : Member) → (is_none m.reply && led (member_moves (Brings c) a) S m) ≡ led (member_moves (Brings c) a) S m
brought_rests c a S k = same_bool (is_none k.reply && led (member_moves (Brings c) a) S k) (led (member_moves (Brings c) a) S k)
    (λ e. right (is_none k.reply) _ e)
    (λ e. let x = out_member (λ m. S m && member_moves (Brings c) a m k) e in let m = x.member in
    both (is_none k.reply) _ (brought_rests_at k.reply
    (right (same_held (with_mark m.held (m.held.stored && not (has_words_so is_last m.reply))) k.held) (same_sent None k.reply)
    (right (brings_by c m.reply) _ (right (same_option same_flit m.request k.request) _ (right (S m) _ x.has))))) e)

and_true : (b : Bool) → (b && true) ≡ b
and_true true = refl
and_true false = refl

pub words_are : (c : Coming) (e : Age) (S : Members) (of : CopiesCode) → ((h : Held) → members of h ≡ true) → any_of S (member_passes (Words c e) of) ≡ words_at c e S
words_are c e S of all = ap any_member (fun_ext (λ m. ap (λ b. S m && (reply_passes (Words c e) m.reply && b)) (all m.held) ∙ ap (λ b. S m && b) (and_true (reply_passes (Words c e) m.reply))))

abbrev pub ages_by : Coming → Members → Bool → Ages
ages_by c S b = if b then record { own = words_at c Own S; last = words_at c Last S; past = words_at c Past S; older = words_at c Older S }
    else record { own = true; last = false; past = false; older = false }

abbrev ages : Bool → Bool → Bool → Bool → Ages
ages a b c d = record { own = a; last = b; past = c; older = d }

pub ages_is : {a b c d a' b' c' d' : Bool} → a ≡ a' → b ≡ b' → c ≡ c' → d ≡ d' → ages a b c d ≡ ages a' b' c' d'
ages_is e f g h = λ i. ages (e i) (f i) (g i) (h i)

-- PAST THE LAST AGENT there is none
pub none_there : (m : Member) → may_of nobody m ≡ false
none_there m = let p : ℕ = place_of_request (due_of nobody.facts) m.request in
    ap (λ x. sides_of NoReply x m.held m.reply) (get_or_past [] p no_rows (omega arith)) ∙ none_past m.held

led_none : (R : Member → Members) (S : Members) → ((m : Member) → S m ≡ false) → (k : Member) → led R S k ≡ false
led_none R S none k = by_false (led R S k) (λ e. let x = out_member (λ m. S m && R m k) e in sym (none x.member) ∙ left (S x.member) _ x.has)

times_none : (n : ℕ) (R : Member → Members) (S : Members) → ((m : Member) → S m ≡ false) → (k : Member) → times n (led R) S k ≡ false
times_none zero R S none k = none k
times_none (suc n) R S none k = times_none n R (led R S) (led_none R S none) k

pub nobody_settles : Settles nobody nobody
nobody_settles = record { facts = refl; may = λ m. none_there m ∙ sym (times_none 5 (steps (due_of nobody.facts) NoReply) (may_of nobody) none_there m) }

pub nobody_beheld : (own : Bool) (step : Move) → Beheld own step nobody nobody
nobody_beheld true step = record { facts = refl; may = λ m. refl }
nobody_beheld false step = record { facts = refl; may = λ m. none_there m ∙ sym (led_none (member_moves step NoReply) (may_of nobody) none_there m) }

-- LOOPS over agents
lower : (m n : ℕ) → m < n + 1 → (m ≡ n → ⊥) → m < n
lower m n h e = search (rules, arith)

other_than : (m n : ℕ) → n + 1 ≤ m → m ≢ n
other_than m n l = omega (arith, l)

at_least : (m n : ℕ) → n + 1 ≤ m → n ≤ m
at_least m n l = omega (arith, l)

module _ (R : ℕ → Standing → Standing → Type 0) (xs ys : List Standing) (n : ℕ) (y : Standing) (whole : length ys ≡ 32) where
  pub more_agents : n < 32 → ((m : ℕ) → m < n → R m (agent_at xs m) (agent_at ys m)) → ((m : ℕ) → n ≤ m → agent_at ys m ≡ agent_at xs m) → R n (agent_at ys n) y
      → (m : ℕ) → m < n + 1 → R m (agent_at xs m) (agent_at (slice_set ys n y) m)
  more_agents low before after now = split (λ m. m < n + 1 → R m (agent_at xs m) (agent_at (slice_set ys n y) m)) n
      (λ _. let here : n ≤ n = omega arith in subst (λ x. R n x (agent_at (slice_set ys n y) n)) (after n here)
      (subst (λ z. R n (agent_at ys n) z) (sym (get_or-set_at ys n n y nobody refl (subst (λ (k : ℕ). n < k) (sym whole) low))) now))
      (λ m apart below. subst (λ z. R m (agent_at xs m) z) (sym (get_or-set_other ys n m y nobody apart)) (before m (lower m n below apart)))

  pub rest_agents : ((m : ℕ) → n ≤ m → agent_at ys m ≡ agent_at xs m) → (m : ℕ) → n + 1 ≤ m → agent_at (slice_set ys n y) m ≡ agent_at xs m
  rest_agents after m l = get_or-set_other ys n m y nobody (other_than m n l) ∙ after m (at_least m n l)

pub all_agents : (R : ℕ → Standing → Standing → Type 0) (xs ys : List Standing) (k : ℕ) → k ≡ 32 → length xs ≡ 32 → ((m : ℕ) → m < k → R m (agent_at xs m) (agent_at ys m))
    → ((m : ℕ) → k ≤ m → agent_at ys m ≡ agent_at xs m) → ((m : ℕ) → R m nobody nobody) → (n : ℕ) → R n (agent_at xs n) (agent_at ys n)
all_agents R xs ys k all whole each rest none n = by (past_by n (nat_lt n 32) refl)
  where
    by : (n < 32) ⊎ (32 ≤ n) → R n (agent_at xs n) (agent_at ys n)
    by (inl l) = each n (subst (λ (k : ℕ). n < k) (sym all) l)
    by (inr l) = let gone : agent_at xs n ≡ nobody = get_or_past xs n nobody (subst (λ (k : ℕ). k ≤ n) (sym whole) l) in
        subst (λ y. R n (agent_at xs n) y) (sym (rest n (subst (λ (k : ℕ). k ≤ n) (sym all) l))) (subst (λ x. R n x x) (sym gone) (none n))

pub stays_are : (S : Members) (of : CopiesCode) → ((h : Held) → members of h ≡ true) → any_of S (member_passes Stays of) ≡ any_of S (λ k. not (comes k))
stays_are S of all = ap any_member (fun_ext (λ m. ap (λ b. S m && (reply_passes Stays m.reply && b)) (all m.held) ∙ ap (λ b. S m && b) (and_true (reply_passes Stays m.reply))))

pub itself : (n k agent : ℕ) (b : Bool) → n ≡ k → k ≡ agent → (n == k) ≡ (n == agent || b)
itself n k agent b e f = eq-eqb n k e ∙ sym (ap (λ a. a || b) (eq-eqb n agent (e ∙ f)))

-- AT FIRST
facts_at : (x : Standing) → x.facts ≡ nobody.facts → (n k : ℕ) → (agent_at (replicate k x) n).facts ≡ nobody.facts
facts_at x e zero zero = refl
facts_at x e (suc n) zero = refl
facts_at x e zero (suc k) = e
facts_at x e (suc n) (suc k) = facts_at x e n k

pub each_first : (x : Standing) → x.facts ≡ nobody.facts → (n : ℕ) → KnowsNothing (received_by (replicate 32 x) false None) n
each_first x e n = let f : (agent_at (replicate 32 x) n).facts ≡ nobody.facts = facts_at x e n 32 in
    record { due = ap due_of f; asked = ap (λ f. f.asked) f; acks = ap (λ f. f.acks) f; overtaken = ap (λ f. f.overtaken) f }

within : (x : Standing) (n k : ℕ) → n < k → agent_at (replicate k x) n ≡ x
within x n zero l = absurd (omega (arith, l))
within x zero (suc k) l = refl
within x (suc n) (suc k) l = within x n k (omega (arith, l))

pub first_may : (x : Standing) (n : ℕ) → n < 32 → (m : Member) → may_of (agent_at (replicate 32 x) n) m ≡ may_of x m
first_may x n low m = ap (λ y. may_of y m) (within x n 32 low)
