-- A list in an array of C's, with its length: what is behind it is as it was (docs/LIBRARY.md, "Answers").
use Rattle.std.specs.Prelude.{◌≡◌, ℕ, List, drop, length, take}

pub record IsListed {A : Type 0} (items before array : List A) (count : ℕ) : Type 0 where
  pub items_first : take count array ≡ items
  pub rest_stays : drop count array ≡ drop count before
  pub counted : count ≡ length items
