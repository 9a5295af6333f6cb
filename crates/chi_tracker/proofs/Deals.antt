-- Lists of new ports, as they are dealt out one after the other.
use Rattle.std.proofs.Common.{◌≡◌, ℕ, zero, suc, ◌+◌, ◌-◌, ◌<◌, List, [], ◌∷◌, ◌++◌, All, length, slice_index_or, subst, refl, sym, ap, ◌∙◌, arith}
use Rattle.atomic_table.specs.Table.{Me}
use Rattle.atomic_table.specs.Seated.{TableId}
use Rattle.chi_tracker.specs.declared.view.SeatView.{SeatView}
use Rattle.chi_tracker.specs.declared.shape.Shape.{Shape}
use Rattle.chi_tracker.specs.Views.{new_port, new_ports}
use Rattle.chi_tracker.specs.Calls.{Owner, owners, rest_ports}

pub ports_next : (s : Shape) (n a : ℕ) → n < a → new_ports s n (a - n) ≡ new_port s n ∷ new_ports s (n + 1) (a - (n + 1))
ports_next s n a l = ap (new_ports s n) (let h : a - n ≡ suc (a - (n + 1)) = omega arith in h)

owners-push : (z : TableId) (s : Shape) (k m : ℕ) → owners z (new_ports s k (suc m)) ≡ owners z (new_ports s k m) ++ record { table = z; port = new_port s (k + m); history = [] } ∷ []
owners-push z s k zero = let h : k ≡ k + 0 = omega arith in ap (λ n. record { table = z; port = new_port s n; history = [] } ∷ []) h
owners-push z s k (suc m) =
    let h : k + 1 + m ≡ k + suc m = omega arith in
    let t : owners z (new_ports s (k + 1) (suc m)) ≡ owners z (new_ports s (k + 1) m) ++ record { table = z; port = new_port s (k + suc m); history = [] } ∷ [] = owners-push z s (k + 1) m ∙ ap (λ n. owners z (new_ports s (k + 1) m) ++ record { table = z; port = new_port s n; history = [] } ∷ []) h in
    ap (λ os. record { table = z; port = new_port s k; history = [] } ∷ os) t

pub owners_more : (z : TableId) (s : Shape) (m : ℕ) → owners z (new_ports s 0 (m + 1)) ≡ owners z (new_ports s 0 m) ++ record { table = z; port = new_port s m; history = [] } ∷ []
owners_more z s m =
    let a : m + 1 ≡ suc m = omega arith in let b : 0 + m ≡ m = omega arith in
    ap (λ n. owners z (new_ports s 0 n)) a ∙ owners-push z s 0 m ∙ ap (λ n. owners z (new_ports s 0 m) ++ record { table = z; port = new_port s n; history = [] } ∷ []) b

pub owners-length : (z : TableId) (s : Shape) (k m : ℕ) → length (owners z (new_ports s k m)) ≡ m
owners-length z s k zero = refl
owners-length z s k (suc m) = omega (arith, owners-length z s (k + 1) m)

-- what a seat keeps after it dealt out a port
pub dealt_left : (s : Shape) (n a : ℕ) (m m' : Me ℕ SeatView) → n < a → m ≡ (record { ports = new_ports s n (a - n); history = [] }, []) → m' ≡ (record { ports = rest_ports m.0.ports; history = m.0.history }, m.1)
    → m' ≡ (record { ports = new_ports s (n + 1) (a - (n + 1)); history = [] }, [])
dealt_left s n a m m' l is cut = cut ∙ ap (λ (z : Me ℕ SeatView). (record { ports = rest_ports z.0.ports; history = z.0.history }, z.1)) is ∙ ap (λ ps. (record { ports = rest_ports ps; history = [] }, [])) (ports_next s n a l)

-- the ports dealt out so far, and one more
pub dealt_more : (z z' : TableId) (s : Shape) (n : ℕ) (os os' : List Owner) (o : Owner) → os ≡ owners z (new_ports s 0 n) → os' ≡ os ++ o ∷ [] → o ≡ record { table = z'; port = new_port s n; history = [] } → z' ≡ z
    → os' ≡ owners z (new_ports s 0 (n + 1))
dealt_more z z' s n os os' o before push is same = push ∙ ap (λ xs. xs ++ o ∷ []) before ∙ ap (λ x. owners z (new_ports s 0 n) ++ x ∷ []) (is ∙ ap (λ t. record { table = t; port = new_port s n; history = [] }) same) ∙ sym (owners_more z s n)

-- a seat that keeps the ports from n on has the port n first
pub first_left : (s : Shape) (n a : ℕ) (m : Me ℕ SeatView) → n < a → m ≡ (record { ports = new_ports s n (a - n); history = [] }, []) → m.0.ports ≡ new_port s n ∷ new_ports s (n + 1) (a - (n + 1))
first_left s n a m l is = ap (λ (z : Me ℕ SeatView). z.0.ports) is ∙ ports_next s n a l

-- dealt ports are of the tracker and have its entries
dealt-at : (z : TableId) (s : Shape) (k m i : ℕ) (d : Owner) → i < m → ((slice_index_or (owners z (new_ports s k m)) i d).table ≡ z) × ((slice_index_or (owners z (new_ports s k m)) i d).port.shape ≡ s)
dealt-at z s k zero i d l = absurd (omega arith)
dealt-at z s k (suc m) zero d l = (refl, refl)
dealt-at z s k (suc m) (suc i) d l = dealt-at z s (k + 1) m i d (omega arith)

pub dealt_own : (z : TableId) (s : Shape) (m : ℕ) (os : List Owner) → os ≡ owners z (new_ports s 0 m) → All (λ p. (p.table ≡ z) × (p.port.shape ≡ s)) os
dealt_own z s m os is = subst (All (λ p. (p.table ≡ z) × (p.port.shape ≡ s))) (sym is) (λ k d l. dealt-at z s 0 m k d (omega (arith, owners-length z s 0 m)))

pub dealt_all : (z : TableId) (s : Shape) (m : ℕ) (os : List Owner) → os ≡ owners z (new_ports s 0 m) → length os ≡ m
dealt_all z s m os is = ap (λ xs. length xs) is ∙ owners-length z s 0 m
