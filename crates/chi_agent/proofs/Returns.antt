-- Requesters that go into threads, and come back from them.
use Rattle.std.proofs.Common.{◌≡◌, ℕ, suc, ◌<◌, List, [], ◌∷◌, ◌++◌, All, map, length, refl, sym, ◌∙◌, ap, subst, arith}
use Rattle.std.proofs.lemmas.List.{append_assoc}
use Rattle.std.specs.List.{remove, slice_index_or}
use Rattle.std.proofs.lemmas.List.Elements.{All-nil, All-cons, All-head, All-tail}
use Rattle.chi_slice.specs.Words.{Sizes}
use Rattle.chi_node.specs.Requester.{RequesterState}
use Rattle.chi_node.specs.Calls.{IsSameRequester}
use Rattle.chi_node.specs.Node.{AreOwn, IsOwn, NodeState}
use Rattle.chi_node.specs.Words.{TableId}
use Rattle.chi_audit.specs.Tallies.{IsFresh}
use Rattle.chi_agent.specs.Script.{operations_of, writer_of, AreFresh, ScriptState}
use Rattle.chi_agent.specs.Ended.{requester_number, requester_of}
use Rattle.chi_agent.specs.declared.ended.AgentResult.{AgentResult}
use Rattle.chi_agent.specs.Runs.{AllLeave}
use Rattle.chi_agent.specs.Runs.{starts as starts_of}
use Rattle.chi_agent.proofs.Begun.{rests}

-- one more thread is started
pub starts : {H X : Type 0} (f : H → X) (all : List X) (hs hs' : List H) (h : H) (r : X) (rs rs' : List X) → map f hs ++ rs ≡ all → rs ≡ r ∷ rs' → hs' ≡ hs ++ h ∷ [] → f h ≡ r → map f hs' ++ rs' ≡ all
starts f all [] hs' h r rs rs' so_far first push own = subst (λ (z : _). map f z ++ rs' ≡ all) (sym push) (ap (λ (z : _). z ∷ rs') own ∙ (sym first ∙ so_far))
starts f all (x ∷ xs) hs' h r rs rs' so_far first push own =
    subst (λ (z : _). map f z ++ rs' ≡ all) (sym push) (ap (λ (z : List _). f x ∷ z) (starts f (map f xs ++ rs) xs (xs ++ h ∷ []) h r rs rs' refl first refl own) ∙ so_far)

-- the first of the requesters that are left, and those behind it, are the node's own
pub own_first : (n : NodeState) (r : RequesterState) (all rs : List RequesterState) → All (IsOwn n) all → all ≡ r ∷ rs → IsOwn n r
own_first n r all rs own is = All-head (IsOwn n) r rs (subst (All (IsOwn n)) is own)

pub own_rest : (n : NodeState) (r : RequesterState) (all rs : List RequesterState) → All (IsOwn n) all → all ≡ r ∷ rs → All (IsOwn n) rs
own_rest n r all rs own is = All-tail (IsOwn n) r rs (subst (All (IsOwn n)) is own)

-- the writer of the first of the scripts that are left, and those behind it, have stored nothing
pub fresh_first : (cells : List TableId) (s : ScriptState) (all ss : List ScriptState) → AreFresh cells all → all ≡ s ∷ ss → IsFresh cells s.writer
fresh_first cells s all ss fresh is = All-head (λ (z : ScriptState). IsFresh cells z.writer) s ss (subst (All (λ (z : ScriptState). IsFresh cells z.writer)) is fresh)

pub fresh_rest : (cells : List TableId) (s : ScriptState) (all ss : List ScriptState) → AreFresh cells all → all ≡ s ∷ ss → AreFresh cells ss
fresh_rest cells s all ss fresh is = All-tail (λ (z : ScriptState). IsFresh cells z.writer) s ss (subst (All (λ (z : ScriptState). IsFresh cells z.writer)) is fresh)

-- those that are left of the node's own, each of which began with a script, are all that the node has
each_own : (n : NodeState) (config : Sizes) (seed most : ℕ) (rs : List RequesterState) (ss : List ScriptState) (es : List AgentResult) → map writer_of ss ≡ map requester_number rs → All (IsOwn n) rs → AllLeave (starts_of config seed most rs (operations_of ss)) es → All (IsOwn n) (map requester_of es)
each_own n config seed most [] [] [] are own left = All-nil (IsOwn n)
each_own n config seed most [] [] (e ∷ es) are own left = absurd left
each_own n config seed most [] (s ∷ ss) es are own left = absurd (cc are)
each_own n config seed most (r ∷ rs) [] es are own left = absurd (cc are)
each_own n config seed most (r ∷ rs) (s ∷ ss) [] are own left = absurd left
each_own n config seed most (r ∷ rs) (s ∷ ss) (e ∷ es) are own left =
    let first : IsOwn n r = All-head (IsOwn n) r rs own in
    let same : IsSameRequester r e.requester = left.0.same in
    let others : All (IsOwn n) (map requester_of es) = each_own n config seed most rs ss es (rests writer_of requester_number s (s ∷ ss) ss r (r ∷ rs) rs are refl refl) (All-tail (IsOwn n) r rs own) left.1 in
    All-cons (IsOwn n) e.requester (map requester_of es) (record { table = same.table ∙ first.table; shape = same.shape ∙ first.shape }) others

as_many : (config : Sizes) (seed most : ℕ) (rs : List RequesterState) (ss : List ScriptState) (es : List AgentResult) → map writer_of ss ≡ map requester_number rs → AllLeave (starts_of config seed most rs (operations_of ss)) es → length (map requester_of es) ≡ length rs
as_many config seed most [] [] [] are left = refl
as_many config seed most [] [] (e ∷ es) are left = absurd left
as_many config seed most [] (s ∷ ss) es are left = absurd (cc are)
as_many config seed most (r ∷ rs) [] es are left = absurd (cc are)
as_many config seed most (r ∷ rs) (s ∷ ss) [] are left = absurd left
as_many config seed most (r ∷ rs) (s ∷ ss) (e ∷ es) are left = ap suc (as_many config seed most rs ss es (rests writer_of requester_number s (s ∷ ss) ss r (r ∷ rs) rs are refl refl) left.1)

pub own_back : (n : NodeState) (config : Sizes) (seed most : ℕ) (rs : List RequesterState) (ss : List ScriptState) (es : List AgentResult) → map writer_of ss ≡ map requester_number rs → AreOwn n rs → AllLeave (starts_of config seed most rs (operations_of ss)) es → AreOwn n (map requester_of es)
own_back n config seed most rs ss es are own left = record { count = as_many config seed most rs ss es are left ∙ own.count; own = each_own n config seed most rs ss es are own.own left }

-- one requester more is taken out of its result
pub next_requester : (all : List RequesterState) (rs rs' : List RequesterState) (es es' : List AgentResult) (e : AgentResult) → all ≡ rs ++ map requester_of es → 0 < length es → e ≡ slice_index_or es 0 e → es' ≡ remove es 0 → rs' ≡ rs ++ e.requester ∷ [] → all ≡ rs' ++ map requester_of es'
next_requester all rs rs' [] es' e so_far some first cut push = absurd (omega (arith, some))
next_requester all rs rs' (x ∷ xs) es' e so_far some first cut push =
    so_far ∙ (sym (append_assoc rs (x.requester ∷ []) (map requester_of xs))
    ∙ (ap (λ (z : AgentResult). (rs ++ z.requester ∷ []) ++ map requester_of xs) (sym first)
    ∙ (ap (λ (z : List RequesterState). z ++ map requester_of xs) (sym push) ∙ ap (λ (z : List AgentResult). rs' ++ map requester_of z) (sym cut))))

append_nil : (rs : List RequesterState) → rs ++ [] ≡ rs
append_nil [] = refl
append_nil (r ∷ rs) = ap (λ (zs : List RequesterState). r ∷ zs) (append_nil rs)

-- all are taken out
pub all_requesters : (all rs : List RequesterState) (es : List AgentResult) → all ≡ rs ++ map requester_of es → length es ≡ 0 → rs ≡ all
all_requesters all rs [] so_far none = sym (append_nil rs) ∙ sym so_far
all_requesters all rs (e ∷ es) so_far none = absurd (omega (arith, none))
