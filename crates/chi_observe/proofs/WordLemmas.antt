-- Words that are known.
use Rattle.std.proofs.Common.{◌≡◌, ℕ, refl}
use Rattle.std.specs.Prelude.{Bool, true, false, Some, None, is_some, if◌then◌else◌}

pub known_where : (b : Bool) (x : ℕ) → is_some (if b then Some x else None) ≡ b
known_where true x = refl
known_where false x = refl
