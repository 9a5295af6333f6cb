-- The parts of a line by the protocol alone, out of the lists that a line keeps.
use Rattle.std.proofs.Common.{◌≡◌, ◌≢◌, ℕ, zero, suc, ◌+◌, ◌<◌, List, [], ◌∷◌, ◌++◌, Bool, true, false, ◌&&◌, ◌==◌, Option, Some, None, cond, map, filter, length, get_or, set, sym, subst, refl, ap, ◌∙◌, ⊎_elim, inl, inr, if◌then◌else◌, arith}
use Rattle.std.proofs.Math.Path.{fun_ext}
use Rattle.std.proofs.lemmas.List.{get_or-set_same, get_or-set_other}
use Rattle.std.proofs.lemmas.Bool.{cases_eq, eq-eqb, ne_eqb}
use Rattle.std.specs.List.Sorted.{IsPermutation}
use Rattle.chi_flit.specs.declared.numbers.Agent.{Agent}
use Rattle.chi_flit.specs.declared.snoop.Snoop.{Snoop}
use Rattle.chi_flit.specs.declared.message.Msg.{Msg}
use Rattle.chi_flit.specs.declared.message.Msg.TheVariants as messages
use Rattle.chi_filter.specs.Filter.{FilterState, filter_without, has_any, nobody as nobody_marks, only_set, others_than, owner_without}
use Rattle.chi_wires.specs.Flight.{Flit, flit, in_flight, snoop_flits}
use Rattle.chi_homeline.specs.declared.serving.Serving.{Serving}
use Rattle.chi_line.specs.LineState.{LineState}
use Rattle.chi_line.specs.Protocol.{Standing, Somebody, Nobody, Leaves, Becomes, others, only, owner_but, with_for, to_each}
use Rattle.chi_line.specs.Meaning.{set_of, standing_of}

-- a list with x for n, entry by entry
put_at : {A B : Type 0} (g : A → B) (d : A) (l : List A) (n m : ℕ) (x : A) → n < length l → g (get_or (set l n x) m d) ≡ if m == n then g x else g (get_or l m d)
put_at g d l n m x low = ⊎_elim
    (λ (e : m ≡ n). ap g (subst (λ (k : ℕ). get_or (set l n x) k d ≡ x) (sym e) (get_or-set_same l n x d low)) ∙ sym (ap (λ (b : Bool). if b then g x else g (get_or l m d)) (eq-eqb m n e)))
    (λ (e : m ≢ n). ap g (get_or-set_other l n m x d e) ∙ sym (ap (λ (b : Bool). if b then g x else g (get_or l m d)) (ne_eqb m n e)))
    (cases_eq m n)

-- what is read of each agent's entry
abbrev pub each_of : {A B : Type 0} → (A → B) → A → List A → Agent → B
each_of g d l m = g (get_or l m.0 d)

pub puts : {A B : Type 0} (g : A → B) (d : A) (l : List A) (n : Agent) (x : A) → n.0 < length l → each_of g d (set l n.0 x) ≡ with_for (each_of g d l) n (g x)
puts g d l n x low = fun_ext (λ (m : Agent). put_at g d l n.0 m.0 x low)

-- a part that x doesn't change
keep_at : {A B : Type 0} (g : A → B) (d : A) (l : List A) (n m : ℕ) (x : A) → g x ≡ g (get_or l n d) → g (get_or (set l n x) m d) ≡ g (get_or l m d)
keep_at g d [] n m x same = refl
keep_at g d (y ∷ l) zero zero x same = same
keep_at g d (y ∷ l) zero (suc m) x same = refl
keep_at g d (y ∷ l) (suc n) zero x same = refl
keep_at g d (y ∷ l) (suc n) (suc m) x same = keep_at g d l n m x same

pub keeps : {A B : Type 0} (g : A → B) (d : A) (l : List A) (n : Agent) (x : A) → g x ≡ g (get_or l n.0 d)
    → each_of g d (set l n.0 x) ≡ each_of g d l
keeps g d l n x same = fun_ext (λ (m : Agent). keep_at g d l n.0 m.0 x same)

-- somebody or nobody, out of the marks
mark_in : (marks : List Bool) → has_any marks ≡ true → (n : ℕ) × (get_or marks n false ≡ true)
mark_in [] some = absurd (cc (some))
mark_in (true ∷ marks) some = (0, refl)
mark_in (false ∷ marks) some = let r = mark_in marks some in (suc r.0, r.1)

pub mark_out : (marks : List Bool) → has_any marks ≡ false → (n : ℕ) → get_or marks n false ≡ false
mark_out [] none n = refl
mark_out (true ∷ marks) none n = absurd (cc (none))
mark_out (false ∷ marks) none zero = refl
mark_out (false ∷ marks) none (suc n) = mark_out marks none n

pub somebody : (marks : List Bool) → has_any marks ≡ true → Somebody (set_of marks)
somebody marks some = let r = mark_in marks some in (record { 0 = r.0 }, r.1)

pub nobody : (marks : List Bool) → has_any marks ≡ false → Nobody (set_of marks)
nobody marks none = λ m. mark_out marks none m.0

-- the others that are named
pub others_are : (marks : List Bool) (n : Agent) → n.0 < length marks → set_of (others_than n.0 marks) ≡ with_for (set_of marks) n false
others_are marks n low = puts (λ (b : Bool). b) false marks n false low

pub owner_is : (owner : Option Agent) (n : Agent) → owner_without owner n.0 ≡ owner_but n owner
owner_is None n = refl
owner_is (Some m) n = refl

-- n leaves
and_true : (b : Bool) → (b && true) ≡ b
and_true true = refl
and_true false = refl

and_false : (b : Bool) → (b && false) ≡ false
and_false true = refl
and_false false = refl

pub leaves : (s : Standing) (n : Agent) (marks : List Bool) (owner : Option Agent) → set_of marks ≡ others s n → owner ≡ owner_but n s.owner
    → Leaves n s (record s { named = set_of marks; unique = s.unique && has_any marks; owner = owner })
leaves s n marks owner are owns = go (has_any marks) refl
  where
    go : (b : Bool) → has_any marks ≡ b → Leaves n s (record s { named = set_of marks; unique = s.unique && b; owner = owner })
    go true some = inl (subst Somebody are (somebody marks some), λ i. record s { named = are i; unique = and_true s.unique i; owner = owns i })
    go false none = inr (subst Nobody are (nobody marks none), λ i. record s { named = are i; unique = and_false s.unique i; owner = owns i })

-- a message to each of the next so many agents that are in a set
abbrev to_next : ℕ → ℕ → (Agent → Bool) → Msg → List Flit
to_next zero first members message = []
to_next (suc more) first members message =
    if members (record { 0 = first }) then flit (record { 0 = first }) message ∷ to_next more (first + 1) members message else to_next more (first + 1) members message

one_more : (b : Bool) (n : Agent) (message : Msg) (flits : List Flit) (left : List Agent) → flits ≡ map (λ m. flit m message) left
    → (if b then flit n message ∷ flits else flits) ≡ map (λ m. flit m message) (cond b (n ∷ left) left)
one_more true n message flits left is = ap (λ (xs : List Flit). flit n message ∷ xs) is
one_more false n message flits left is = is

-- the next so many agents
abbrev next_agents : ℕ → ℕ → List Agent
next_agents zero first = []
next_agents (suc more) first = record { 0 = first } ∷ next_agents more (first + 1)

next_are : (more first : ℕ) (members : Agent → Bool) (message : Msg) → to_next more first members message ≡ map (λ m. flit m message) (filter members (next_agents more first))
next_are zero first members message = refl
next_are (suc more) first members message =
    one_more (members (record { 0 = first })) (record { 0 = first }) message (to_next more (first + 1) members message) (filter members (next_agents more (first + 1))) (next_are more (first + 1) members message)

-- a snoop to each of those marked
each_marked : (first : ℕ) (marks : List Bool) (set : Agent → Bool) (snoop : Snoop) → ((n : ℕ) → set (record { 0 = first + n }) ≡ get_or marks n false)
    → snoop_flits first marks snoop ≡ to_next (length marks) first set (messages.Snp snoop)
each_marked first [] set snoop is = refl
each_marked first (b ∷ marks) set snoop is =
    let rest : snoop_flits (first + 1) marks snoop ≡ to_next (length marks) (first + 1) set (messages.Snp snoop) =
    each_marked (first + 1) marks set snoop (λ n. subst (λ (k : ℕ). set (record { 0 = k }) ≡ get_or marks n false) (omega arith) (is (suc n))) in
    let head : set (record { 0 = first }) ≡ b = subst (λ (k : ℕ). set (record { 0 = k }) ≡ b) (omega arith) (is 0) in
    go b head rest
  where
    go : (c : Bool) → set (record { 0 = first }) ≡ c → snoop_flits (first + 1) marks snoop ≡ to_next (length marks) (first + 1) set (messages.Snp snoop)
        → snoop_flits first (c ∷ marks) snoop ≡ to_next (suc (length marks)) first set (messages.Snp snoop)
    go true head rest = rw (head, rest)
    go false head rest = rw (head, rest)

pub each : (marks : List Bool) (snoop : Snoop) → length marks ≡ 8 → snoop_flits 0 marks snoop ≡ to_each (set_of marks) (messages.Snp snoop)
each marks snoop eight = subst (λ (k : ℕ). snoop_flits 0 marks snoop ≡ to_next k 0 (set_of marks) (messages.Snp snoop)) eight
    (each_marked 0 marks (set_of marks) snoop (λ n. ap (λ (k : ℕ). get_or marks k false) (omega arith)))
    ∙ next_are 8 0 (set_of marks) (messages.Snp snoop)

-- the line becomes as said
pub becomes : (s s' : LineState) (said : Standing) (taken taken' sent sent' : List Flit) → taken ≡ taken' → sent ≡ sent'
    → standing_of s' ≡ record said { flits = in_flight s'.flits } → IsPermutation (taken ++ in_flight s'.flits) (sent ++ in_flight s.flits)
    → Becomes taken' sent' (standing_of s) said (standing_of s')
becomes s s' said taken taken' sent sent' takes sends is moves = (
  is,
  subst (λ (t : List Flit). IsPermutation (t ++ in_flight s'.flits) (sent' ++ in_flight s.flits)) takes
      (subst (λ (t : List Flit). IsPermutation (taken ++ in_flight s'.flits) (t ++ in_flight s.flits)) sends moves),
)

-- the filter of a line
abbrev pub with_filter : Standing → FilterState → Standing
with_filter s f = record s { named = set_of f.named; unique = f.unique; owner = f.owner }

pub leaves_filter : (s : Standing) (f : FilterState) (n : Agent) → n.0 < length f.named → Leaves n (with_filter s f) (with_filter s (filter_without f n.0))
leaves_filter s f n low = leaves (with_filter s f) n (others_than n.0 f.named) (owner_without f.owner n.0) (others_are f.named n low) (owner_is f.owner n)

-- n alone
is_test : (b : Bool) → (if b then true else false) ≡ b
is_test true = refl
is_test false = refl

only_at : (n m : Agent) → with_for (set_of nobody_marks) n true m ≡ only n m
only_at n m = ap (λ (b : Bool). if m.0 == n.0 then true else b) (mark_out nobody_marks refl m.0) ∙ is_test (m.0 == n.0)

pub only_are : (n : Agent) → n.0 < 8 → set_of (only_set n.0) ≡ only n
only_are n low = puts (λ (b : Bool). b) false nobody_marks n true low ∙ fun_ext (λ (m : Agent). only_at n m)

-- the line in another state of the home's work
pub in_serving : (P : LineState → Type 0) (s : LineState) (v : Serving) → s.home.serving ≡ v → P (record s { home = record s.home { serving = v } }) → P s
in_serving P s v is p = subst P (λ i. record s { home = record s.home { serving = sym is i } }) p
