-- The bytes that a writer took, one write after the other, are a front of all.
use Rattle.std.proofs.Common.{ℕ, ◌+◌, ◌-◌, ◌≤◌, List, Option, None, Some, length, take, drop, length-drop, arith, ◌∙◌}
use Rattle.std.proofs.Math.Seq.{take-add}
use Rattle.std.proofs.lemmas.List.{take_rest}
use Rattle.std.specs.Io.KnownBytes.{Appends, Keeps}
use Rattle.std.proofs.KnownBytes.{Appends-trans}

pub kept : (a b c : Option (List ℕ)) (bytes : List ℕ) → Appends a b bytes → Keeps b c → Appends a c bytes
kept None b c bytes p q = tt
kept (Some x) None c bytes p q = absurd p
kept (Some x) (Some y) None bytes p q = absurd q
kept (Some x) (Some y) (Some z) bytes p q = q ∙ p

pub one_more : (a b c : Option (List ℕ)) (done count : ℕ) (bytes : List ℕ) → Appends a b (take done bytes) → Appends b c (take count (take (length bytes - done) (drop done bytes))) → Appends a c (take (done + count) bytes)
one_more a b c done count bytes p q =
    let rest = rw (take_rest bytes done) at q in
    rw (take-add done count bytes) (Appends-trans a b c (take done bytes) (take count (drop done bytes)) p rest)

pub within : (done count : ℕ) (bytes : List ℕ) → done ≤ length bytes → count ≤ length (take (length bytes - done) (drop done bytes)) → done + count ≤ length bytes
within done count bytes inside le =
    let rest : count ≤ length (drop done bytes) = rw (take_rest bytes done) at le in
    omega (arith, length-drop done bytes)
