-- The bytes that were taken from an input are the front of what it had.
use Rattle.std.proofs.Common.{◌≡◌, ℕ, ◌≤◌, List, [], ◌++◌, Option, None, Some, IfSome, length, take, arith, sym, ◌∙◌, append-nil}
use Rattle.std.proofs.lemmas.List.{take-append-le, take_all}
use Rattle.std.specs.Io.KnownBytes.{Consumes, IsAtEnd}

-- all of it, and so no more than the bound
all_of : (x y bytes : List ℕ) (n : ℕ) → x ≡ bytes ++ y → y ≡ [] → length bytes ≤ n → bytes ≡ take n x
all_of x y bytes n p q small = let whole : x ≡ bytes = p ∙ rw q (append-nil bytes) in rw whole (sym (take_all n bytes small))

pub ended : (a b c : Option (List ℕ)) (bytes : List ℕ) (n : ℕ) → Consumes a b bytes → Consumes b c [] → IsAtEnd c → length bytes ≤ n → IfSome a (λ x. bytes ≡ take n x)
ended None b c bytes n p q end small = tt
ended (Some x) None c bytes n p q end small = absurd p
ended (Some x) (Some y) None bytes n p q end small = absurd q
ended (Some x) (Some y) (Some z) bytes n p q end small = all_of x y bytes n p (q ∙ end) small

front_of : (x y bytes : List ℕ) (n : ℕ) → x ≡ bytes ++ y → length bytes ≡ n → bytes ≡ take n x
front_of x y bytes n p full = rw (p, sym full) (sym (take-append-le (length bytes) bytes y (omega arith) ∙ take_all (length bytes) bytes (omega arith)))

-- as much as the bound
pub full_front : (a b : Option (List ℕ)) (bytes : List ℕ) (n : ℕ) → Consumes a b bytes → length bytes ≡ n → IfSome a (λ x. bytes ≡ take n x)
full_front None b bytes n p full = tt
full_front (Some x) None bytes n p full = absurd p
full_front (Some x) (Some y) bytes n p full = front_of x y bytes n p full
