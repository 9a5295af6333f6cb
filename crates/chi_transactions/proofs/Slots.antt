-- The key that a look-up finds is the one that was looked for.
use Rattle.std.proofs.Common.{◌≡◌, ℕ, List, [], ◌∷◌, Option, Some, None, Bool, true, false, length, cond, arith, refl, inl, inr, nat_eq}
use Rattle.std.specs.Map.{lookup, lookup_key}
use Rattle.chi_transactions.specs.declared.entries.Place.{Place}
use Rattle.chi_transactions.specs.declared.entries.Waiting.{Waiting}
use Rattle.chi_transactions.specs.Maps.{is_same_place}
use Rattle.std.proofs.lemmas.Bool.{cases_Bool, eqb-true}

pub key_found : {V : Type 0} (n key : ℕ) (entries : List (ℕ × V)) → lookup_key (nat_eq n) entries ≡ Some key → n ≡ key
key_found n key [] h = cc
key_found n key (e ∷ es) h =
    elim (cases_Bool (nat_eq n e.0)) [
      | inl here ↦ let same : n ≡ e.0 = eqb-true n e.0 here in let found = rw here at h in cc
      | inr there ↦ let found = rw there at h in key_found n key es found
    ]

-- where none waits anywhere, none waits at a place
same_none : (b : Bool) (entry : Option Waiting) → entry ≡ cond b entry entry
same_none true entry = refl
same_none false entry = refl

pub none_waits : (entries : List (Place × Waiting)) → length entries ≡ 0 → (place q : Place) → lookup (is_same_place q) entries ≡ cond (is_same_place place q) None (lookup (is_same_place q) entries)
none_waits [] h place q = same_none (is_same_place place q) None
none_waits (e ∷ es) h place q = absurd (omega arith)
