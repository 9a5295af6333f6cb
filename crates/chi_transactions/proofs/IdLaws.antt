-- The ids of whole traces.
use Rattle.std.proofs.Common.{◌≡◌, ℕ, ◌+◌, ◌%◌, ◌<◌, ◌==◌, ◌&&◌, ◌||◌, min, max, Bool, true, false, not, List, [], ◌∷◌, Option, Some, None, eqb, suc, zero, inl, inr, length, cond, arith, ap, refl, sym, ◌∙◌, bit_and}
use Rattle.std.specs.Prelude.{if◌then◌else◌}
use Rattle.std.specs.Int.{bit_at}
use Rattle.std.proofs.lemmas.Bool.{cases_Bool, eqb-true, ne_eqb}
use Rattle.std.proofs.lemmas.Nat.Bits.{bit_at-lt, bit_at-zero, bit_at_and, bit_at_or, bit_at_xor}
use Rattle.chi_issue_b.specs.Flit.{dbid_of, line_of}
use Rattle.chi_issue_b.specs.declared.flit.Flit.{Flit}
use Rattle.chi_issue_b.specs.declared.ids.CacheLine.{CacheLine}
use Rattle.chi_issue_b.specs.declared.ids.DbId.{DbId}
use Rattle.chi_issue_b.specs.declared.roles.Role.{Role}
use Rattle.chi_issue_b.specs.declared.roles.Role.TheVariants as roles
use Rattle.chi_transactions.specs.declared.entries.Begun.{Begun}
use Rattle.chi_transactions.specs.declared.entries.OpenId.{OpenId}
use Rattle.chi_transactions.specs.declared.entries.Options.{Options}
use Rattle.chi_transactions.specs.declared.entries.Portion.{Portion}
use Rattle.chi_transactions.specs.declared.entries.Reason.{Reason}
use Rattle.chi_transactions.specs.declared.entries.Reason.TheVariants.{NotOpen, OtherHome, OtherLine, Unfinished, NotLeft}
use Rattle.chi_transactions.specs.declared.parts.Parts.{Parts}
use Rattle.chi_transactions.specs.declared.parts.TheConstants.{ANSWER}
use Rattle.chi_transactions.specs.Flits.{buffer_of, number_at, role}
use Rattle.chi_transactions.specs.History.{Event, IsAccepted, behind, came, came_from, comes_by, comes_in, expected, expected_from, left_at, opened_by, opened_if, buffer_parts, is_opened, names_id, IdsAreBalanced, PartsComeOnce}
use Rattle.chi_transactions.specs.Ids.{number_of}
use Rattle.chi_transactions.specs.Maps.{nothing, put}
use Rattle.chi_transactions.specs.Parts.{both, either, has, is_among, is_empty, no_parts, parts_of, without}
use Rattle.chi_transactions.specs.Rows.{brings, expects_of, names_buffer}
use Rattle.chi_transactions.specs.Rule.{brought, found_by, id_refusal, is_before, is_in_use, is_last, is_left, is_of_home, is_of_line, is_opening, is_unfinished, left_behind, named_refusal, opened_buffer, or_else}
use Rattle.chi_transactions.specs.State.{State}
use Rattle.chi_transactions.specs.Steps.{after_by, beat_in, begun_at, buffer_at, found, ids_with, naming_after_by, naming_refusal_by, opened_request, opened_snoop, refusal_by, request_after_by, request_refusal_by, retried, retry_after_by, retry_refusal_by, snoop_after_by, snoop_refusal_by, with_buffer}
use Rattle.chi_transactions.proofs.CreditLaws.{if_none, same_options}

-- BITS as members of sets
without_bit : (x y : ℕ) → x < 2 → y < 2 → ((x + min x y) % 2 == 1) ≡ ((x == 1) && not (y == 1))
without_bit zero zero l m = refl
without_bit zero (suc zero) l m = refl
without_bit (suc zero) zero l m = refl
without_bit (suc zero) (suc zero) l m = refl
without_bit (suc (suc x)) y l m = absurd (omega arith)
without_bit x (suc (suc y)) l m = absurd (omega arith)

pub among_without : (a b : Parts) (part : ℕ) → is_among (without a b) part ≡ (is_among a part && not (is_among b part))
among_without a b part =
    ap (λ x. x == 1) (bit_at_xor a.bits (bit_and a.bits b.bits) part)
    ∙ ap (λ y. (bit_at a.bits part + y) % 2 == 1) (bit_at_and a.bits b.bits part)
    ∙ without_bit (bit_at a.bits part) (bit_at b.bits part) (bit_at-lt a.bits part) (bit_at-lt b.bits part)

either_bit : (x y : ℕ) → x < 2 → y < 2 → (max x y == 1) ≡ ((x == 1) || (y == 1))
either_bit zero zero l m = refl
either_bit zero (suc zero) l m = refl
either_bit (suc zero) zero l m = refl
either_bit (suc zero) (suc zero) l m = refl
either_bit (suc (suc x)) y l m = absurd (omega arith)
either_bit x (suc (suc y)) l m = absurd (omega arith)

both_bit : (x y : ℕ) → x < 2 → y < 2 → (min x y == 1) ≡ ((x == 1) && (y == 1))
both_bit zero zero l m = refl
both_bit zero (suc zero) l m = refl
both_bit (suc zero) zero l m = refl
both_bit (suc zero) (suc zero) l m = refl
both_bit (suc (suc x)) y l m = absurd (omega arith)
both_bit x (suc (suc y)) l m = absurd (omega arith)

pub among_either : (a b : Parts) (part : ℕ) → is_among (either a b) part ≡ (is_among a part || is_among b part)
among_either a b part = ap (λ x. x == 1) (bit_at_or a.bits b.bits part) ∙ either_bit (bit_at a.bits part) (bit_at b.bits part) (bit_at-lt a.bits part) (bit_at-lt b.bits part)

pub among_both : (a b : Parts) (part : ℕ) → is_among (both a b) part ≡ (is_among a part && is_among b part)
among_both a b part = ap (λ x. x == 1) (bit_at_and a.bits b.bits part) ∙ both_bit (bit_at a.bits part) (bit_at b.bits part) (bit_at-lt a.bits part) (bit_at-lt b.bits part)

among_none : (part : ℕ) → is_among no_parts part ≡ false
among_none part = ap (λ x. x == 1) (bit_at-zero part)

min_one : (x y : ℕ) → x < 2 → y ≡ 1 → min x y ≡ y → (x == 1) ≡ true
min_one zero y l one h = absurd (omega arith)
min_one (suc zero) y l one h = refl
min_one (suc (suc x)) y l one h = absurd (omega arith)

pub among_all : (a b : Parts) (part : ℕ) → has a b ≡ true → is_among b part ≡ true → is_among a part ≡ true
among_all a b part h there =
    let all : bit_and a.bits b.bits ≡ b.bits = eqb-true _ _ h in
    let one : bit_at b.bits part ≡ 1 = eqb-true _ _ there in
    min_one (bit_at a.bits part) (bit_at b.bits part) (bit_at-lt a.bits part) one (sym (bit_at_and a.bits b.bits part) ∙ ap (λ n. bit_at n part) all)

-- BOOLS
kept_as : (l E C : Bool) → l ≡ (E && not C) → l ≡ (E && not (C || false))
kept_as l true true h = h
kept_as l true false h = h
kept_as l false C h = h

and_true : (b : Bool) → b ≡ (b && true)
and_true true = refl
and_true false = refl

taken_off : (l E C A : Bool) → l ≡ (E && not C) → (l && not A) ≡ (E && not (C || A))
taken_off l true true A h = rw h refl
taken_off l true false A h = rw h refl
taken_off l false C A h = rw h refl

none_left : (E C : Bool) → false ≡ (E && not (C || true))
none_left true true = refl
none_left true false = refl
none_left false C = refl

-- AN ENTRY of a table with another one
left_cond : (b : Bool) (v w : Option OpenId) (part : ℕ) → left_at (cond b v w) part ≡ cond b (left_at v part) (left_at w part)
left_cond true v w part = refl
left_cond false v w part = refl

left_put : (ids : ℕ → Option OpenId) (k n part : ℕ) (v : Option OpenId) → left_at (put ids k v n) part ≡ cond (eqb k n) (left_at v part) (left_at (ids n) part)
unfolding put
left_put ids k n part v = left_cond (eqb k n) v (ids n) part

-- one that is opened
opened_either : (b : Bool) (l E C : Bool) (parts : Parts) (part : ℕ) → l ≡ (E && not C) → cond b (is_among parts part) l ≡ (expected_from (opened_if b parts) part E && not (came_from (opened_if b parts) false C))
opened_either true l E C parts part h = and_true (is_among parts part)
opened_either false l E C parts part h = kept_as l E C h

opened_step : (ids : ℕ → Option OpenId) (k n part : ℕ) (id : OpenId) (parts : Parts) (E C : Bool) → id.left ≡ parts → left_at (ids n) part ≡ (E && not C)
    → left_at (put ids k (Some id) n) part ≡ (expected_from (opened_if (eqb k n) parts) part E && not (came_from (opened_if (eqb k n) parts) false C))
opened_step ids k n part id parts E C same h =
    left_put ids k n part (Some id)
    ∙ ap (λ (p : Parts). cond (eqb k n) (is_among p part) (left_at (ids n) part)) same
    ∙ opened_either (eqb k n) (left_at (ids n) part) E C parts part h

request_left : (f : Flit) (number : ℕ) (line : CacheLine) → (opened_request f number line).left ≡ expects_of f.opcode
unfolding opened_request
request_left f number line = refl

snoop_left : (f : Flit) (number : ℕ) (line : CacheLine) → (opened_snoop f number line).left ≡ parts_of ANSWER
unfolding opened_snoop
snoop_left f number line = refl

module _ (s : State) (f : Flit) (n part : ℕ) (E C : Bool) (h : left_at (s.ids n) part ≡ (E && not C)) where
  request_balance : (number : ℕ) (line : Option CacheLine) → request_refusal_by s f line ≡ None
      → left_at ((request_after_by s f number line).ids n) part ≡ (expected_from (opened_if (number_at f == n) (expects_of f.opcode)) part E && not (came_from (opened_if (number_at f == n) (expects_of f.opcode)) false C))
  request_balance number None r = cc
  request_balance number (Some line) r = opened_step s.ids (number_at f) n part (opened_request f number line) (expects_of f.opcode) E C (request_left f number line) h

  snoop_balance : (number : ℕ) (line : Option CacheLine) → snoop_refusal_by s f line ≡ None
      → left_at ((snoop_after_by s f number line).ids n) part ≡ (expected_from (opened_if (number_at f == n) (parts_of ANSWER)) part E && not (came_from (opened_if (number_at f == n) (parts_of ANSWER)) false C))
  snoop_balance number None r = cc
  snoop_balance number (Some line) r = opened_step s.ids (number_at f) n part (opened_snoop f number line) (parts_of ANSWER) E C (snoop_left f number line) h

  retried_either : (b : Bool) → cond b (is_among no_parts part) (left_at (s.ids n) part) ≡ (E && not (C || b))
  retried_either true = among_none part ∙ none_left E C
  retried_either false = kept_as (left_at (s.ids n) part) E C h

  retry_balance : (number : ℕ) (id : Option OpenId) → retry_refusal_by s f id ≡ None → left_at ((retry_after_by s f number id).ids n) part ≡ (E && not (C || (number_at f == n)))
  unfolding retried
  retry_balance number None r = cc
  retry_balance number (Some id) r = left_put s.ids (number_at f) n part (Some (retried id)) ∙ retried_either (number_at f == n)

  -- a flit that names an id
  module _ (id : OpenId) (here : s.ids (number_at f) ≡ Some id) (since : is_before id ≡ false) (number : ℕ) where
    last_either : (last : Bool) → left_at (s.ids n) part ≡ is_among id.left part → is_among (if last then without id.left (brings f.opcode) else id.left) part ≡ (E && not (C || (true && (last && is_among (brings f.opcode) part))))
    last_either true same = among_without id.left (brings f.opcode) part ∙ taken_off (is_among id.left part) E C (is_among (brings f.opcode) part) (sym same ∙ h)
    last_either false same = kept_as (is_among id.left part) E C (sym same ∙ h)

    brought_left : (beat : Portion) → (brought f beat id).left ≡ (if is_last beat then without id.left (brings f.opcode) else id.left)
    unfolding brought left_behind
    brought_left beat = rw since refl

    base : Portion → ℕ → Option OpenId
    base beat = put s.ids (number_at f) (Some (brought f beat id))

    base_balance : (beat : Portion) → left_at (put s.ids (number_at f) (Some (brought f beat id)) n) part ≡ (E && not (C || ((number_at f == n) && (is_last beat && is_among (brings f.opcode) part))))
    base_balance beat =
        left_put s.ids (number_at f) n part (Some (brought f beat id))
        ∙ elim (cases_Bool (eqb (number_at f) n)) [
          | inl at ↦
              let same : number_at f ≡ n = eqb-true _ _ at in
              let kept : left_at (s.ids n) part ≡ is_among id.left part = ap (λ m. left_at (s.ids m) part) (sym same) ∙ ap (λ (entry : Option OpenId). left_at entry part) here in
              rw at (ap (λ (p : Parts). is_among p part) (brought_left beat) ∙ last_either (is_last beat) kept)
          | inr other ↦ rw other (kept_as (left_at (s.ids n) part) E C h)
        ]

    buffer_left : (opened_buffer number id).left ≡ id.follows
    unfolding opened_buffer
    buffer_left = refl

    -- with the DBID that it opens, if it opens one
    buffer_either : (b : Bool) (l A : Bool) → l ≡ (E && not (C || A)) → cond b (is_among id.follows part) l ≡ (expected_from (opened_if b id.follows) part E && not (came_from (opened_if b id.follows) A C))
    buffer_either true l A k = and_true (is_among id.follows part)
    buffer_either false l A k = k

    abbrev Goal : Portion → (ℕ → Option OpenId) → Bool → Type 0
    Goal beat ids b =
        left_at (ids n) part
        ≡ (expected_from (opened_if b id.follows) part E && not (came_from (opened_if b id.follows) ((number_at f == n) && (is_last beat && is_among (brings f.opcode) part)) C))

    opening_either : (beat : Portion) (dbid : DbId) (opening : Bool) (ids : ℕ → Option OpenId)
        → ids ≡ (if opening then put (put s.ids (number_at f) (Some (brought f beat id))) (number_of (buffer_of f dbid)) (Some (opened_buffer number id)) else put s.ids (number_at f) (Some (brought f beat id)))
        → Goal beat ids (opening && number_of (buffer_of f dbid) == n)
    opening_either beat dbid true ids same =
        ap (λ (t : ℕ → Option OpenId). left_at (t n) part) same
        ∙ left_put (put s.ids (number_at f) (Some (brought f beat id))) (number_of (buffer_of f dbid)) n part (Some (opened_buffer number id))
        ∙ ap (λ (p : Parts). cond (eqb (number_of (buffer_of f dbid)) n) (is_among p part) (left_at (put s.ids (number_at f) (Some (brought f beat id)) n) part)) buffer_left
        ∙ buffer_either (eqb (number_of (buffer_of f dbid)) n) _ _ (base_balance beat)
    opening_either beat dbid false ids same = ap (λ (t : ℕ → Option OpenId). left_at (t n) part) same ∙ base_balance beat

    not_before : (b : Bool) (names : Bool) (ids other : ℕ → Option OpenId) → b ≡ false → (if b && names then other else ids) ≡ ids
    not_before true names ids other k = cc
    not_before false names ids other k = refl

    with_buffer_is : (dbid : DbId) (ids : ℕ → Option OpenId) → with_buffer f number id (Some dbid) ids ≡ (if is_opening f id then put ids (number_of (buffer_of f dbid)) (Some (opened_buffer number id)) else ids)
    with_buffer_is dbid ids =
        ap (λ (rest : ℕ → Option OpenId). if is_opening f id then put ids (number_of (buffer_of f dbid)) (Some (opened_buffer number id)) else rest)
        (not_before (is_before id) (names_buffer f.opcode f.resp) ids (put ids (number_of (buffer_of f dbid)) None) since)

    use_either : (beat : Portion) (used : Bool) (buffer : Option OpenId) (dbid : Option DbId) → is_in_use buffer ≡ used
        → Goal beat (if used then put s.ids (number_at f) (Some (brought f beat id)) else with_buffer f number id dbid (put s.ids (number_at f) (Some (brought f beat id)))) (is_opened f id buffer n dbid)
    use_either beat true buffer None k = base_balance beat
    use_either beat false buffer None k = base_balance beat
    use_either beat true buffer (Some dbid) k = rw k (base_balance beat)
    use_either beat false buffer (Some dbid) k = rw k (opening_either beat dbid (is_opening f id) _ (with_buffer_is dbid _))

    named_balance : (beat : Portion) → Goal beat (ids_with s.ids f number beat id (buffer_at s f)) (is_opened f id (buffer_at s f) n (dbid_of f))
    unfolding ids_with
    named_balance beat = use_either beat (is_in_use (buffer_at s f)) (buffer_at s f) (dbid_of f) refl

-- WHERE A TRACE BEGINS AT ITS BEGINNING no id is from before
abbrev pub before_at : Option OpenId → Bool
before_at None = false
before_at (Some id) = is_before id

before_cond : (b : Bool) (v w : Option OpenId) → before_at v ≡ false → before_at w ≡ false → before_at (cond b v w) ≡ false
before_cond true v w h k = h
before_cond false v w h k = k

put_since : (ids : ℕ → Option OpenId) (k n : ℕ) (v : Option OpenId) → before_at v ≡ false → before_at (ids n) ≡ false → before_at (put ids k v n) ≡ false
unfolding put
put_since ids k n v h there = before_cond (eqb k n) v (ids n) h there

suc_since : (m : ℕ) → eqb (suc m) 0 ≡ false
suc_since m = ne_eqb (suc m) 0 (λ e. omega arith)

request_since : (f : Flit) (m : ℕ) (line : CacheLine) → is_before (opened_request f (suc m) line) ≡ false
unfolding opened_request
request_since f m line = suc_since m

snoop_since : (f : Flit) (m : ℕ) (line : CacheLine) → is_before (opened_snoop f (suc m) line) ≡ false
unfolding opened_snoop
snoop_since f m line = suc_since m

buffer_since : (m : ℕ) (id : OpenId) → is_before (opened_buffer (suc m) id) ≡ false
unfolding opened_buffer
buffer_since m id = suc_since m

brought_since : (f : Flit) (beat : Portion) (id : OpenId) → is_before (brought f beat id) ≡ is_before id
unfolding brought
brought_since f beat id = refl

retried_since : (id : OpenId) → is_before (retried id) ≡ is_before id
unfolding retried
retried_since id = refl

with_since : (b c : Bool) (ids : ℕ → Option OpenId) (k n : ℕ) (id : OpenId) → is_before id ≡ false → before_at (ids n) ≡ false → before_at ((if b then put ids k (Some id) else (if c then put ids k None else ids)) n) ≡ false
with_since true c ids k n id h there = put_since ids k n (Some id) h there
with_since false true ids k n id h there = put_since ids k n None refl there
with_since false false ids k n id h there = there

use_since : (used : Bool) (f : Flit) (m n : ℕ) (id : OpenId) (dbid : Option DbId) (ids : ℕ → Option OpenId) → before_at (ids n) ≡ false → before_at ((if used then ids else with_buffer f (suc m) id dbid ids) n) ≡ false
use_since true f m n id dbid ids there = there
use_since false f m n id None ids there = there
use_since false f m n id (Some dbid) ids there = with_since (is_opening f id) (is_before id && names_buffer f.opcode f.resp) ids (number_of (buffer_of f dbid)) n (opened_buffer (suc m) id) (buffer_since m id) there

named_since : (ids : ℕ → Option OpenId) (f : Flit) (m n : ℕ) (beat : Portion) (id : OpenId) (buffer : Option OpenId) → is_before id ≡ false → before_at (ids n) ≡ false → before_at (ids_with ids f (suc m) beat id buffer n) ≡ false
unfolding ids_with
named_since ids f m n beat id buffer since there =
    use_since (is_in_use buffer) f m n id (dbid_of f) (put ids (number_at f) (Some (brought f beat id)))
    (put_since ids (number_at f) n (Some (brought f beat id)) (brought_since f beat id ∙ since) there)

module _ (s : State) (f : Flit) (there m n : ℕ) (whole : s.options.begins_in_middle ≡ false) (each : (k : ℕ) → before_at (s.ids k) ≡ false) where
  naming_since : (entry : Option OpenId) → before_at entry ≡ false → before_at ((naming_after_by s f there (suc m) (found_by s.options f entry)).ids n) ≡ false
  naming_since None since = rw whole (each n)
  naming_since (Some id) since = named_since s.ids f m n (beat_in s f there id) id (buffer_at s f) since (each n)

  retrying_since : (entry : Option OpenId) → before_at entry ≡ false → before_at ((retry_after_by s f (suc m) (found_by s.options f entry)).ids n) ≡ false
  retrying_since None since = rw whole (each n)
  retrying_since (Some id) since = put_since s.ids (number_at f) n (Some (retried id)) (retried_since id ∙ since) (each n)

  requesting_since : (line : Option CacheLine) → before_at ((request_after_by s f (suc m) line).ids n) ≡ false
  requesting_since None = each n
  requesting_since (Some line) = put_since s.ids (number_at f) n (Some (opened_request f (suc m) line)) (request_since f m line) (each n)

  snooping_since : (line : Option CacheLine) → before_at ((snoop_after_by s f (suc m) line).ids n) ≡ false
  snooping_since None = each n
  snooping_since (Some line) = put_since s.ids (number_at f) n (Some (opened_snoop f (suc m) line)) (snoop_since f m line) (each n)

  named : before_at ((naming_after_by s f there (suc m) (found s f)).ids n) ≡ false
  named = naming_since (s.ids (number_at f)) (each (number_at f))

  step_since : (r : Role) → before_at ((after_by r s f there (suc m)).ids n) ≡ false
  step_since roles.Request = requesting_since (line_of f)
  step_since roles.CreditReturn = each n
  step_since roles.Snoop = snooping_since (line_of f)
  step_since roles.Retry = retrying_since (s.ids (number_at f)) (each (number_at f))
  step_since roles.CreditGrant = each n
  step_since roles.NoTransaction = each n
  step_since roles.Completion = named
  step_since roles.BufferGrant = named
  step_since roles.Receipt = named
  step_since roles.Answer = named
  step_since roles.Acknowledgement = named
  step_since roles.WriteData = named
  step_since roles.WriteCancel = named

pub whole_of : (options : Options) (flits : List Event) → options.begins_in_middle ≡ false → (behind options flits).options.begins_in_middle ≡ false
whole_of options flits whole = ap (λ (o : Options). o.begins_in_middle) (same_options options flits) ∙ whole

nothing_before : (n : ℕ) → before_at (nothing {K = ℕ} {V = OpenId} n) ≡ false
unfolding nothing
nothing_before n = refl

pub none_before : (options : Options) (flits : List Event) → options.begins_in_middle ≡ false → (n : ℕ) → before_at ((behind options flits).ids n) ≡ false
unfolding behind
none_before options [] whole n = nothing_before n
none_before options (e ∷ past) whole n = step_since (behind options past) e.flit e.there (length past) n (whole_of options past whole) (none_before options past whole) (role e.flit)

-- EACH STEP
module _ (s : State) (f : Flit) (there number n part : ℕ) (E C : Bool) (whole : s.options.begins_in_middle ≡ false) (since : before_at (s.ids (number_at f)) ≡ false) (h : left_at (s.ids n) part ≡ (E && not C)) where
  abbrev Naming : Option OpenId → Type 0
  Naming id =
      left_at ((naming_after_by s f there number id).ids n) part
      ≡ (expected_from (buffer_parts s f n id) part E && not (came_from (buffer_parts s f n id) (comes_in s f there n part id) C))

  naming_balance : (entry : Option OpenId) → s.ids (number_at f) ≡ entry → before_at entry ≡ false → naming_refusal_by s f there (found_by s.options f entry) ≡ None → Naming (found_by s.options f entry)
  naming_balance None here b r = let refused = rw whole at r in cc
  naming_balance (Some id) here b r = named_balance s f n part E C h id here b number (beat_in s f there id)

  naming : naming_refusal_by s f there (found s f) ≡ None → Naming (found s f)
  naming r = naming_balance (s.ids (number_at f)) refl since r

  step_balance : (r : Role) → refusal_by r s f there ≡ None
      → left_at ((after_by r s f there number).ids n) part ≡ (expected_from (opened_by r s f n) part E && not (came_from (opened_by r s f n) (comes_by r s f there n part) C))
  step_balance roles.Request r = request_balance s f n part E C h number (line_of f) r
  step_balance roles.CreditReturn r = kept_as (left_at (s.ids n) part) E C h
  step_balance roles.Snoop r = snoop_balance s f n part E C h number (line_of f) r
  step_balance roles.Retry r = retry_balance s f n part E C h number (found s f) r
  step_balance roles.CreditGrant r = kept_as (left_at (s.ids n) part) E C h
  step_balance roles.NoTransaction r = kept_as (left_at (s.ids n) part) E C h
  step_balance roles.Completion r = naming r
  step_balance roles.BufferGrant r = naming r
  step_balance roles.Receipt r = naming r
  step_balance roles.Answer r = naming r
  step_balance roles.Acknowledgement r = naming r
  step_balance roles.WriteData r = naming r
  step_balance roles.WriteCancel r = naming r

nothing_left : (n part : ℕ) → left_at (nothing {K = ℕ} {V = OpenId} n) part ≡ false
unfolding nothing
nothing_left n part = refl

pub balanced : IdsAreBalanced
unfolding behind IsAccepted expected came
balanced options [] whole h n part = nothing_left n part
balanced options (e ∷ past) whole h n part =
    step_balance (behind options past) e.flit e.there (suc (length past)) n part (expected options past n part) (came options past n part)
    (whole_of options past whole) (none_before options past whole (number_at e.flit)) (balanced options past whole h.0 n part) (role e.flit) h.1

-- A FLIT brings what is left
or_first : (one other : Option Reason) → or_else one other ≡ None → one ≡ None
or_first (Some reason) other h = cc
or_first None other h = refl

not_not : (b : Bool) → not b ≡ false → b ≡ true
not_not true h = refl
not_not false h = cc

id_left : (f : Flit) (id : OpenId) → id_refusal f id ≡ None → is_left f id ≡ true
id_left f id h =
    let first = if_none (is_empty id.left) NotOpen _ h in
    let second = if_none (not (is_of_home f id)) OtherHome _ first.1 in
    let third = if_none (not (is_of_line f id)) OtherLine _ second.1 in
    let fourth = if_none (is_unfinished f id) Unfinished _ third.1 in
    not_not (is_left f id) (if_none (not (is_left f id)) NotLeft None fourth.1).0

named_left : (f : Flit) (there : ℕ) (id : OpenId) (begun : Option Begun) (buffer : Option OpenId) → named_refusal f there id begun buffer ≡ None → has id.left (brings f.opcode) ≡ true
unfolding named_refusal is_left
named_left f there id begun buffer h = id_left f id (or_first (id_refusal f id) _ h)

both_so : (E C : Bool) → true ≡ (E && not C) → (E ≡ true) × (C ≡ false)
both_so true true h = absurd (cc)
both_so true false h = (refl, refl)
both_so false C h = absurd (cc)

module _ (s : State) (f : Flit) (there part : ℕ) (E C : Bool) (whole : s.options.begins_in_middle ≡ false) (brought : is_among (brings f.opcode) part ≡ true) where
  once_at : (entry : Option OpenId) → naming_refusal_by s f there (found_by s.options f entry) ≡ None → left_at entry part ≡ (E && not C) → (E ≡ true) × (C ≡ false)
  once_at None r h = let refused = rw whole at r in absurd (cc)
  once_at (Some id) r h =
      let all = named_left f there id (begun_at s f id) (buffer_at s f) r in
      both_so E C (sym (among_all id.left (brings f.opcode) part all brought) ∙ h)

  once : left_at (s.ids (number_at f)) part ≡ (E && not C) → (r : Role) → names_id r ≡ true → refusal_by r s f there ≡ None → (E ≡ true) × (C ≡ false)
  once h roles.Request names r = absurd (cc)
  once h roles.CreditReturn names r = absurd (cc)
  once h roles.Snoop names r = absurd (cc)
  once h roles.Retry names r = absurd (cc)
  once h roles.CreditGrant names r = absurd (cc)
  once h roles.NoTransaction names r = absurd (cc)
  once h roles.Completion names r = once_at (s.ids (number_at f)) r h
  once h roles.BufferGrant names r = once_at (s.ids (number_at f)) r h
  once h roles.Receipt names r = once_at (s.ids (number_at f)) r h
  once h roles.Answer names r = once_at (s.ids (number_at f)) r h
  once h roles.Acknowledgement names r = once_at (s.ids (number_at f)) r h
  once h roles.WriteData names r = once_at (s.ids (number_at f)) r h
  once h roles.WriteCancel names r = once_at (s.ids (number_at f)) r h

pub come_once : PartsComeOnce
unfolding IsAccepted
come_once options e past whole h names part there =
    once (behind options past) e.flit e.there part (expected options past (number_at e.flit) part) (came options past (number_at e.flit) part) (whole_of options past whole) there
    (balanced options past whole h.0 (number_at e.flit) part) (role e.flit) names h.1
