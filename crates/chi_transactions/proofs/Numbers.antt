-- Ids with the same number are the same.
use Rattle.std.proofs.Common.{◌≡◌, ◌+◌, ◌*◌, ◌/◌, ◌%◌, ℕ, arith, ap, ◌∙◌}
use Rattle.chi_issue_b.specs.declared.ids.NodeId.{NodeId}
use Rattle.chi_issue_b.specs.declared.ids.TxnId.{TxnId}
use Rattle.chi_issue_b.specs.declared.ids.DbId.{DbId}
use Rattle.chi_transactions.specs.declared.ids.Id.{Id}
use Rattle.chi_transactions.specs.declared.ids.Id.TheVariants.{Request, Snoop, Buffer}
use Rattle.chi_transactions.specs.Ids.{before_last, dbid_in, home_in, id_numbered, last_field, node_in, number_of, packed, sort_in, txn_in}
use Rattle.chi_transactions.specs.Laws.{HasFields, IsField}

-- the last field of two sums that are the same, and what is before it
last_same : (a b m n : ℕ) → IsField m → IsField n → a * 65536 + m ≡ b * 65536 + n → (a ≡ b) × (m ≡ n)
last_same a b m n p q e = (omega arith, omega arith)

record Fields (s a b c s' a' b' c' : ℕ) : Type 0 where
  sort : s ≡ s'
  node : a ≡ a'
  home : b ≡ b'
  id : c ≡ c'

fields_same : (s a b c s' a' b' c' : ℕ) → IsField a → IsField b → IsField c → IsField a' → IsField b' → IsField c' → packed s a b c ≡ packed s' a' b' c' → Fields s a b c s' a' b' c'
unfolding packed
fields_same s a b c s' a' b' c' pa pb pc pa' pb' pc' e =
    let third : ((s * 65536 + a) * 65536 + b ≡ (s' * 65536 + a') * 65536 + b') × (c ≡ c') = last_same _ _ c c' pc pc' e in
    let second : (s * 65536 + a ≡ s' * 65536 + a') × (b ≡ b') = last_same _ _ b b' pb pb' third.0 in
    let first : (s ≡ s') × (a ≡ a') = last_same _ _ a a' pa pa' second.0 in
    record { sort = first.0; node = first.1; home = second.1; id = third.1 }

nodes_same : (m n : NodeId) → m.0 ≡ n.0 → m ≡ n
nodes_same m n e = ap (λ (k : ℕ). let node : NodeId = record { 0 = k } in node) e

txns_same : (m n : TxnId) → m.0 ≡ n.0 → m ≡ n
txns_same m n e = ap (λ (k : ℕ). let txn : TxnId = record { 0 = k } in txn) e

dbids_same : (m n : DbId) → m.0 ≡ n.0 → m ≡ n
dbids_same m n e = ap (λ (k : ℕ). let dbid : DbId = record { 0 = k } in dbid) e

pub same_ids : (one other : Id) → HasFields one → HasFields other → number_of one ≡ number_of other → one ≡ other
unfolding number_of
same_ids (Request a c) (Request a' c') p q e =
    let f = fields_same 0 a.0 0 c.0 0 a'.0 0 c'.0 p.0 (omega arith) p.1 q.0 (omega arith) q.1 e in
    let node = nodes_same a a' f.node in let txn = txns_same c c' f.id in cc
same_ids (Snoop a b c) (Snoop a' b' c') p q e =
    let f = fields_same 1 a.0 b.0 c.0 1 a'.0 b'.0 c'.0 p.0 p.1 p.2 q.0 q.1 q.2 e in
    let node = nodes_same a a' f.node in let home = nodes_same b b' f.home in let txn = txns_same c c' f.id in cc
same_ids (Buffer a b c) (Buffer a' b' c') p q e =
    let f = fields_same 2 a.0 b.0 c.0 2 a'.0 b'.0 c'.0 p.0 p.1 p.2 q.0 q.1 q.2 e in
    let node = nodes_same a a' f.node in let home = nodes_same b b' f.home in let dbid = dbids_same c c' f.id in cc
same_ids (Request a c) (Snoop a' b' c') p q e =
    let f = fields_same 0 a.0 0 c.0 1 a'.0 b'.0 c'.0 p.0 (omega arith) p.1 q.0 q.1 q.2 e in let s = f.sort in absurd (omega arith)
same_ids (Request a c) (Buffer a' b' c') p q e =
    let f = fields_same 0 a.0 0 c.0 2 a'.0 b'.0 c'.0 p.0 (omega arith) p.1 q.0 q.1 q.2 e in let s = f.sort in absurd (omega arith)
same_ids (Snoop a b c) (Request a' c') p q e =
    let f = fields_same 1 a.0 b.0 c.0 0 a'.0 0 c'.0 p.0 p.1 p.2 q.0 (omega arith) q.1 e in let s = f.sort in absurd (omega arith)
same_ids (Snoop a b c) (Buffer a' b' c') p q e =
    let f = fields_same 1 a.0 b.0 c.0 2 a'.0 b'.0 c'.0 p.0 p.1 p.2 q.0 q.1 q.2 e in let s = f.sort in absurd (omega arith)
same_ids (Buffer a b c) (Request a' c') p q e =
    let f = fields_same 2 a.0 b.0 c.0 0 a'.0 0 c'.0 p.0 p.1 p.2 q.0 (omega arith) q.1 e in let s = f.sort in absurd (omega arith)
same_ids (Buffer a b c) (Snoop a' b' c') p q e =
    let f = fields_same 2 a.0 b.0 c.0 1 a'.0 b'.0 c'.0 p.0 p.1 p.2 q.0 q.1 q.2 e in let s = f.sort in absurd (omega arith)

-- the id of a number
div_last : (a b : ℕ) → IsField b → (a * 65536 + b) / 65536 ≡ a
div_last a b p = omega arith

mod_last : (a b : ℕ) → IsField b → (a * 65536 + b) % 65536 ≡ b
mod_last a b p = omega arith

record Read (s a b c : ℕ) : Type 0 where
  sort : sort_in (packed s a b c) ≡ s
  node : last_field (before_last (before_last (packed s a b c))) ≡ a
  home : last_field (before_last (packed s a b c)) ≡ b
  id : last_field (packed s a b c) ≡ c

read : (s a b c : ℕ) → IsField a → IsField b → IsField c → Read s a b c
unfolding packed
read s a b c pa pb pc =
    let one = div_last ((s * 65536 + a) * 65536 + b) c pc in
    let two = ap before_last one ∙ div_last (s * 65536 + a) b pb in
    let three = ap before_last two ∙ div_last s a pa in
    record { sort = three; node = ap last_field two ∙ mod_last s a pa; home = ap last_field one ∙ mod_last (s * 65536 + a) b pb; id = mod_last ((s * 65536 + a) * 65536 + b) c pc }

request_read : (number : ℕ) (a : NodeId) (c : TxnId) → sort_in number ≡ 0 → node_in number ≡ a → txn_in number ≡ c → id_numbered number ≡ Request a c
unfolding id_numbered
request_read number a c s p q = rw s (let e : Request (node_in number) (txn_in number) ≡ Request a c = cc in e)

snoop_read : (number : ℕ) (a b : NodeId) (c : TxnId) → sort_in number ≡ 1 → node_in number ≡ a → home_in number ≡ b → txn_in number ≡ c → id_numbered number ≡ Snoop a b c
unfolding id_numbered
snoop_read number a b c s p h q = rw s (let e : Snoop (node_in number) (home_in number) (txn_in number) ≡ Snoop a b c = cc in e)

buffer_read : (number : ℕ) (a b : NodeId) (c : DbId) → sort_in number ≡ 2 → node_in number ≡ a → home_in number ≡ b → dbid_in number ≡ c → id_numbered number ≡ Buffer a b c
unfolding id_numbered
buffer_read number a b c s p h q = rw s (let e : Buffer (node_in number) (home_in number) (dbid_in number) ≡ Buffer a b c = cc in e)

pub read_back : (id : Id) → HasFields id → id_numbered (number_of id) ≡ id
unfolding number_of
read_back (Request a c) p = let r = read 0 a.0 0 c.0 p.0 (omega arith) p.1 in request_read _ a c r.sort (nodes_same _ a r.node) (txns_same _ c r.id)
read_back (Snoop a b c) p = let r = read 1 a.0 b.0 c.0 p.0 p.1 p.2 in snoop_read _ a b c r.sort (nodes_same _ a r.node) (nodes_same _ b r.home) (txns_same _ c r.id)
read_back (Buffer a b c) p = let r = read 2 a.0 b.0 c.0 p.0 p.1 p.2 in buffer_read _ a b c r.sort (nodes_same _ a r.node) (nodes_same _ b r.home) (dbids_same _ c r.id)
