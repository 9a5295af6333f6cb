-- How agents begin, and what is left of the lists.
use Rattle.std.proofs.Common.{◌≡◌, ℕ, ◌<◌, List, [], ◌∷◌, ◌++◌, All, length, map, sym, ◌∙◌, ap, subst, arith}
use Rattle.std.proofs.lemmas.List.Elements.{All-head, All-push, All-tail}
use Rattle.std.specs.List.{remove, slice_index_or}
use Rattle.chi_slice.specs.Words.{Sizes}
use Rattle.chi_node.specs.Requester.{RequesterState}
use Rattle.chi_agent.specs.declared.lives.Plan.{Plan}
use Rattle.chi_agent.specs.declared.seats.Seat.{Seat}
use Rattle.chi_agent.specs.declared.threads.Back.{Back}
use Rattle.chi_agent.specs.Script.{operations_of, ScriptState}
use Rattle.chi_agent.specs.Runs.{begun, start_of, starts}

-- the first of those that are left begins
pub first_begins : (config : Sizes) (seed most : ℕ) (r : RequesterState) (rs rs' : List RequesterState) (s : ScriptState) (ss ss' : List ScriptState) → rs ≡ r ∷ rs' → ss ≡ s ∷ ss' → starts config seed most rs (operations_of ss) ≡ start_of config seed most r s.operations ∷ starts config seed most rs' (operations_of ss')
first_begins config seed most r rs rs' s ss ss' is are = ap (λ (z : List RequesterState). starts config seed most z (operations_of ss)) is ∙ ap (λ (z : List ScriptState). starts config seed most (r ∷ rs') (operations_of z)) are

-- a promise says how its agent began
pub begun_so : (b : Back) (config : Sizes) (plan : Plan) (seat : Seat) → b.config.value ≡ config → b.plan ≡ plan → b.seat.value ≡ seat → begun b ≡ start_of config plan.seed plan.turns seat.requester seat.script.operations
begun_so b config plan seat c p s =
    ap (λ (z : Sizes). start_of z b.plan.seed b.plan.turns b.seat.value.requester b.seat.value.script.operations) c
    ∙ (ap (λ (z : Plan). start_of config z.seed z.turns b.seat.value.requester b.seat.value.script.operations) p
    ∙ ap (λ (z : Seat). start_of config plan.seed plan.turns z.requester z.script.operations) s)

tail : {A : Type 0} → List A → List A
tail [] = []
tail (x ∷ xs) = xs

-- the rests of two lists have the same numbers
pub rests : {A B : Type 0} (f : A → ℕ) (g : B → ℕ) (x : A) (xs xs' : List A) (y : B) (ys ys' : List B) → map f xs ≡ map g ys → xs ≡ x ∷ xs' → ys ≡ y ∷ ys' → map f xs' ≡ map g ys'
unfolding tail
rests f g x xs xs' y ys ys' same is are =
    ap tail (subst (λ (z : List _). map f (x ∷ xs') ≡ map g z) are (subst (λ (z : List _). map f z ≡ map g ys) is same))

-- and so of a list of what stands for each
pub own_rest : {A B : Type 0} (g : B → A) (x : A) (xs xs' : List A) (y : B) (ys ys' : List B) → xs ≡ map g ys → xs ≡ x ∷ xs' → ys ≡ y ∷ ys' → xs' ≡ map g ys'
unfolding tail
own_rest g x xs xs' y ys ys' same is are =
    ap tail (subst (λ (z : List _). x ∷ xs' ≡ map g z) are (subst (λ (z : List _). z ≡ map g ys) is same))

-- what holds of the handles, and of one more
pub one_more : {H : Type 0} (P : H → Type 0) (hs hs' : List H) (h : H) → All P hs → hs' ≡ hs ++ h ∷ [] → P h → All P hs'
one_more P hs hs' h all push this = subst (All P) (sym push) (All-push P hs h all this)

-- and of the first, and those behind it
pub first_one : {H : Type 0} (P : H → Type 0) (hs : List H) (h : H) → All P hs → 0 < length hs → h ≡ slice_index_or hs 0 h → P h
first_one P [] h all some first = absurd (omega (arith, some))
first_one P (x ∷ xs) h all some first = subst P (sym first) (All-head P x xs all)

pub other_ones : {H : Type 0} (P : H → Type 0) (hs hs' : List H) → All P hs → 0 < length hs → hs' ≡ remove hs 0 → All P hs'
other_ones P [] hs' all some cut = absurd (omega (arith, some))
other_ones P (x ∷ xs) hs' all some cut = subst (All P) (sym cut) (All-tail P x xs all)
