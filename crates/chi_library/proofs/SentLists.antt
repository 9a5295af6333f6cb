-- The snoops to marked agents, agent by agent; and one flit, or none.
use Rattle.std.proofs.Common.{◌≡◌, ℕ, suc, ◌+◌, ◌<◌, ◌≤◌, List, [], ◌∷◌, Bool, true, false, Option, Some, None, refl, sym, subst, ◌∙◌, ap, get_or, length, drop, map, slice_set, arith}
use Rattle.std.proofs.Math.Seq.{drop-cons}
use Rattle.std.proofs.lemmas.List.{drop_all}
use Rattle.chi_flit.specs.Numbers.{agent_at}
use Rattle.chi_flit.specs.declared.message.Msg.{Msg}
use Rattle.chi_flit.specs.declared.message.Msg.TheVariants as messages
use Rattle.chi_flit.specs.declared.numbers.Agent.{Agent}
use Rattle.chi_flit.specs.declared.snoop.Snoop.{Snoop}
use Rattle.chi_slice.specs.Words.{Flit, flit, flit_of, snoop_flits}
use Rattle.chi_library.specs.declared.flits.ChiSent.{ChiSent}
use Rattle.chi_library.specs.Flits.{no_sent, sent_told, taken_told}
use Rattle.chi_library.specs.Listed.{IsListed}
use Rattle.chi_library.specs.Standing.{told_or}
use Rattle.chi_library.proofs.Listings.{listed_one}

abbrev pub told_from : Snoop → List Bool → ℕ → List ChiSent
told_from snoop agents n = map sent_told (snoop_flits n (drop n agents) snoop)

first : (snoop : Snoop) (n : ℕ) (agents : List Bool) (b : Bool) → b ≡ true → map sent_told (snoop_flits n (b ∷ agents) snoop) ≡ sent_told (flit (agent_at n) (messages.Snp snoop)) ∷ map sent_told (snoop_flits (n + 1) agents snoop)
first snoop n agents true is = refl
first snoop n agents false is = absurd (cc (is))

unmarked : (snoop : Snoop) (n : ℕ) (agents : List Bool) (b : Bool) → b ≡ false → map sent_told (snoop_flits n (b ∷ agents) snoop) ≡ map sent_told (snoop_flits (n + 1) agents snoop)
unmarked snoop n agents true is = absurd (cc (is))
unmarked snoop n agents false is = refl

pub next_marked : (snoop : Snoop) (agents : List Bool) (n : ℕ) (d : Bool) → n < length agents → get_or agents n d ≡ true → told_from snoop agents n ≡ sent_told (flit (agent_at n) (messages.Snp snoop)) ∷ told_from snoop agents (n + 1)
next_marked snoop agents n d low is =
    ap (λ (left : List Bool). map sent_told (snoop_flits n left snoop)) (drop-cons agents n d low) ∙ (first snoop n (drop (suc n) agents) (get_or agents n d) is
    ∙ ap (λ (k : ℕ). sent_told (flit (agent_at n) (messages.Snp snoop)) ∷ map sent_told (snoop_flits (n + 1) (drop k agents) snoop)) more)
  where
    more : suc n ≡ n + 1
    more = omega arith

pub next_unmarked : (snoop : Snoop) (agents : List Bool) (n : ℕ) (d : Bool) → n < length agents → get_or agents n d ≡ false → told_from snoop agents n ≡ told_from snoop agents (n + 1)
next_unmarked snoop agents n d low is =
    ap (λ (left : List Bool). map sent_told (snoop_flits n left snoop)) (drop-cons agents n d low) ∙ (unmarked snoop n (drop (suc n) agents) (get_or agents n d) is
    ∙ ap (λ (k : ℕ). map sent_told (snoop_flits (n + 1) (drop k agents) snoop)) more)
  where
    more : suc n ≡ n + 1
    more = omega arith

pub none_from : (snoop : Snoop) (agents : List Bool) (n : ℕ) → length agents ≤ n → told_from snoop agents n ≡ []
none_from snoop agents n all = ap (λ (left : List Bool). map sent_told (snoop_flits n left snoop)) (drop_all n agents all)

-- no more than the agents
few_from : (snoop : Snoop) (n : ℕ) (agents : List Bool) → length (map sent_told (snoop_flits n agents snoop)) ≤ length agents
few_from snoop n [] = omega arith
few_from snoop n (true ∷ agents) = let few = few_from snoop (n + 1) agents in omega (arith, few)
few_from snoop n (false ∷ agents) = let few = few_from snoop (n + 1) agents in omega (arith, few)

pub few_sent : (snoop : Snoop) (agents : List Bool) → length (told_from snoop agents 0) ≤ length agents
few_sent snoop agents = few_from snoop 0 agents

-- one flit, or none: the first of the array is told, or as it was
first_stays : (d x : ChiSent) (old array : List ChiSent) → length old ≡ 8 → array ≡ slice_set old 0 x → x ≡ get_or old 0 d → array ≡ old
first_stays d x [] array wide is same = absurd (cc (wide))
first_stays d x (first ∷ others) array wide is same = is ∙ ap (λ (it : ChiSent). it ∷ others) same

pub listed_cell : (d : ChiSent) (agent : Agent) (message : Option Msg) (told : ChiSent) (count : ℕ) (old array : List ChiSent) → length old ≡ 8 → array ≡ slice_set old 0 told
    → told ≡ told_or (flit_of agent message) (get_or old 0 d) → count ≡ length (flit_of agent message) → IsListed (map sent_told (flit_of agent message)) old array count
listed_cell d agent None told count old array wide is same counted =
    subst (λ (n : ℕ). IsListed [] old array n) (sym counted)
    (subst (λ (it : List ChiSent). IsListed [] old it 0) (sym (first_stays d told old array wide is same)) (record { items_first = refl; rest_stays = refl; counted = refl }))
listed_cell d agent (Some message) told count old array wide is same counted =
    subst (λ (n : ℕ). IsListed (sent_told (flit agent message) ∷ []) old array n) (sym counted) (listed_one (sent_told (flit agent message)) told 7 old array wide is same)

-- a flit that is told over none
pub told_over : (sent : List Flit) → told_or sent no_sent ≡ taken_told sent
told_over [] = refl
told_over (first ∷ others) = refl
