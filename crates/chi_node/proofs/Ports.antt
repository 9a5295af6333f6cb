-- The ports of requesters, taken one after the other.
use Rattle.std.proofs.Common.{◌≡◌, ◌<◌, List, [], ◌∷◌, ◌++◌, All, length, refl, sym, ◌∙◌, ap, subst, arith}
use Rattle.std.proofs.lemmas.List.{append_assoc, length-map}
use Rattle.std.proofs.lemmas.List.Elements.{All-map}
use Rattle.std.specs.List.{remove, slice_index_or}
use Rattle.atomic_table.specs.Seated.{TableId}
use Rattle.chi_tracker.specs.Acts.{Act}
use Rattle.chi_tracker.specs.Views.{PortView}
use Rattle.chi_tracker.specs.Calls.{Owner}
use Rattle.chi_node.specs.Requester.{RequesterState, owner}
use Rattle.chi_node.specs.Node.{AreOwn, NodeState, owners_of}

pub owner_is : (o : Owner) (r : RequesterState) → o.table ≡ r.table → o.port ≡ r.port → o.history ≡ r.history → o ≡ owner r
owner_is o r table port history = ap (λ (t : TableId). record { table = t; port = o.port; history = o.history }) table ∙ ap (λ (p : PortView). record { table = r.table; port = p; history = o.history }) port
    ∙ ap (λ (h : List Act). record { table = r.table; port = r.port; history = h }) history

-- one port more is out, and one requester fewer is left
pub next_port : (all : List Owner) (ports ports' : List Owner) (left left' : List RequesterState) (r : RequesterState) (o : Owner) → all ≡ ports ++ owners_of left → 0 < length left → r ≡ slice_index_or left 0 r → left' ≡ remove left 0 → o ≡ owner r → ports' ≡ ports ++ o ∷ []
    → all ≡ ports' ++ owners_of left'
next_port all ports ports' [] left' r o so_far some first cut is push = absurd (omega (arith, some))
next_port all ports ports' (x ∷ xs) left' r o so_far some first cut is push =
    let same : o ≡ owner x = is ∙ ap owner first in
    let now : ports' ≡ ports ++ owner x ∷ [] = push ∙ ap (λ (p : Owner). ports ++ p ∷ []) same in
    so_far ∙ (sym (append_assoc ports (owner x ∷ []) (owners_of xs)) ∙ (ap (λ (ps : List Owner). ps ++ owners_of xs) (sym now) ∙ ap (λ (qs : List RequesterState). ports' ++ owners_of qs) (sym cut)))

-- no requester is left
pub all_ports : (all : List Owner) (ports : List Owner) (left : List RequesterState) → all ≡ ports ++ owners_of left → length left ≡ 0 → ports ≡ all
all_ports all ports [] so_far none = sym (so_far ∙ append_nil ports)
  where
    append_nil : (ps : List Owner) → ps ++ [] ≡ ps
    append_nil [] = refl
    append_nil (p ∷ ps) = ap (λ (qs : List Owner). p ∷ qs) (append_nil ps)
all_ports all ports (x ∷ xs) so_far none = absurd (omega (arith, none))

-- all ports of a node are of its tracker
pub as_many_ports : (n : NodeState) (rs : List RequesterState) (ports : List Owner) → AreOwn n rs → ports ≡ owners_of rs → length ports ≡ n.tracker.shape.agents
as_many_ports n rs ports own is = ap length is ∙ (length-map rs owner ∙ own.count)

pub own_ports : (n : NodeState) (rs : List RequesterState) (ports : List Owner) → AreOwn n rs → ports ≡ owners_of rs → All (λ (p : Owner). p.table ≡ n.tracker.table) ports
own_ports n rs ports own is = subst (All (λ (p : Owner). p.table ≡ n.tracker.table)) (sym is) (All-map (λ (p : Owner). p.table ≡ n.tracker.table) owner rs (λ i d low. let r = own.own i d low in r.table))
