-- A flit that isn't allowed ends what is made of it, with the reason (docs/OBSERVER.md, "Ids and credits").
use Rattle.std.specs.Prelude.{Result, Ok, Err}
use Rattle.chi_observe.specs.declared.reasons.IdReason.{IdReason}

infixl 10 ◌>>=◌
abbrev pub ◌>>=◌ : {A B : Type 0} → Result A IdReason → (A → Result B IdReason) → Result B IdReason
(Ok x) >>= next = next x
(Err reason) >>= next = Err reason
