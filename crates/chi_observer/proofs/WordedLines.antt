-- What the code keeps of words is what is known of them.
use Rattle.std.proofs.Common.{◌≡◌, List, ℕ, refl, sym, ap}
use Rattle.std.proofs.Math.Path.{fun_ext}
use Rattle.std.specs.Prelude.{Bool, true, false, ◌&&◌, Option, None, if◌then◌else◌}
use Rattle.chi_observer.specs.Worded.{Words, all_words, no_words}

-- where no words are given none is known
pub all_unknown : (o : Option (List ℕ)) → o ≡ None → no_words ≡ all_words o
all_unknown o h = fun_ext (λ n. ap (λ (v : Option (List ℕ)). all_words v n) (sym h))

-- the home's are the value where they are said to be
pub known_by : (current : Bool) (home : Option (List ℕ)) (words : Words) → current ≡ true → all_words home ≡ (if current then all_words home else words)
known_by current home words h = rw h refl

pub unfit : (a b : Bool) → b ≡ false → false ≡ (a && b)
unfit true b h = sym h
unfit false b h = refl
