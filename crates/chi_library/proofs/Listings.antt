-- A list that is told into an array of C's, one item after the other.
--     listing_starts, listing_more, listing_same, listing_ends     nothing is told yet; one item more; none; all are told
use Rattle.std.proofs.Common.{◌≡◌, Option, Some, ℕ, suc, ◌+◌, ◌<◌, ◌≤◌, List, [], ◌∷◌, ◌++◌, refl, sym, ◌∙◌, ap, subst, length, take, drop, slice_set, append_assoc, arith}
use Rattle.std.proofs.lemmas.List.{append-nil, drop-drop, drop-set-lt, length-set, length-take-le, take_more_set}
use Rattle.chi_library.specs.Calls.{output_of}
use Rattle.chi_library.specs.Listed.{IsListed}

-- so much of the whole is told, and the rest is to come
pub record IsListing {A : Type 0} (room : ℕ) (whole rest old array : List A) (count : ℕ) : Type 0 where
  pub told : take count array ++ rest ≡ whole
  pub others : drop count array ≡ drop count old
  pub wide : length array ≡ room
  pub fits : count + length rest ≤ room

pub listing_starts : {A : Type 0} (room : ℕ) (whole array : List A) → length array ≡ room → length whole ≤ room → IsListing room whole whole array array 0
listing_starts room whole array is few = record { told = refl; others = refl; wide = is; fits = omega (arith, few) }

listing_put : {A : Type 0} (x : A) (room : ℕ) (whole rest old array array' : List A) (count : ℕ) → array' ≡ slice_set array count x → IsListing room whole (x ∷ rest) old array count → IsListing room whole rest old array' (count + 1)
listing_put x room whole rest old array array' count is so_far =
    let low : count < length array = omega (arith, so_far.fits, so_far.wide) in
    subst (λ (it : List _). IsListing room whole rest old it (count + 1)) (sym is)
    (record {
      told = ap (λ (front : List _). front ++ rest) (take_more_set array count x low) ∙ (append_assoc (take count array) (x ∷ []) rest ∙ so_far.told);
      others = drop-set-lt (count + 1) array count x (omega arith) ∙ (sym (drop-drop 1 count array) ∙ (ap (drop 1) so_far.others ∙ drop-drop 1 count old));
      wide = length-set array count x ∙ so_far.wide;
      fits = omega (arith, so_far.fits);
    })

-- one item more, and none, as a loop has them
pub listing_more : {A : Type 0} (x : A) (room : ℕ) (whole before rest old array array' : List A) (count count' : ℕ) → before ≡ x ∷ rest → array' ≡ slice_set array count x → count' ≡ count + 1
    → IsListing room whole before old array count → IsListing room whole rest old array' count'
listing_more x room whole before rest old array array' count count' next is more so_far =
    subst (λ (n : ℕ). IsListing room whole rest old array' n) (sym more)
    (listing_put x room whole rest old array array' count is (subst (λ (it : List _). IsListing room whole it old array count) next so_far))

pub listing_same : {A : Type 0} (room : ℕ) (whole before rest old array array' : List A) (count count' : ℕ) → before ≡ rest → array' ≡ array → count' ≡ count
    → IsListing room whole before old array count → IsListing room whole rest old array' count'
listing_same room whole before rest old array array' count count' next is same so_far =
    subst (λ (n : ℕ). IsListing room whole rest old array' n) (sym same)
    (subst (λ (it : List _). IsListing room whole rest old it count) (sym is)
    (subst (λ (it : List _). IsListing room whole it old array count) next so_far))

pub listing_ends : {A : Type 0} (room : ℕ) (whole rest old array : List A) (count : ℕ) → rest ≡ [] → IsListing room whole rest old array count → IsListed whole old array count
listing_ends room whole rest old array count none so_far =
    let first : take count array ≡ whole = sym (append-nil (take count array)) ∙ (ap (λ (it : List _). take count array ++ it) (sym none) ∙ so_far.told) in
    record {
      items_first = first;
      rest_stays = so_far.others;
      counted = sym (length-take-le count array (omega (arith, so_far.fits, so_far.wide))) ∙ ap length first;
    }

-- one item alone
pub listed_one : {A : Type 0} (x told : A) (room : ℕ) (old array : List A) → length old ≡ suc room → array ≡ slice_set old 0 told → told ≡ x → IsListed (x ∷ []) old array 1
listed_one x told room [] array wide is same = absurd (cc (wide))
listed_one x told room (first ∷ others) array wide is same =
    let now : array ≡ x ∷ others = is ∙ ap (λ (it : _). it ∷ others) same in
    record { items_first = ap (take 1) now; rest_stays = ap (drop 1) now; counted = refl }

-- what is told of what an open handle holds
pub listed_of : {S A : Type 0} (value : Option S) (s now : S) (tells : S → List A) (old array : List A) (count : ℕ) → value ≡ Some s → now ≡ s
    → IsListed (tells now) old array count → IsListed (output_of value [] tells) old array count
listed_of {S} value s now tells old array count held is listed =
    subst (λ (v : Option S). IsListed (output_of v [] tells) old array count) (sym held) (subst (λ (it : S). IsListed (tells it) old array count) is listed)
