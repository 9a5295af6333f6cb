-- The members of a set among the agents below a number, one agent more.
use Rattle.std.proofs.Common.{◌≡◌, ℕ, ◌+◌, Bool, true, false, List, [], ◌∷◌, ◌++◌, cond, ap, sym, ◌∙◌, append-nil, zero-add}
use Rattle.std.specs.List.{filter, range_with_len}
use Rattle.std.proofs.lemmas.List.{map-id}
use Rattle.std.proofs.lemmas.List.FromFn.{filter_of_map_range_with_len_more}
use Rattle.chi_slice.specs.Words.{is_in}

filter_more : (p : ℕ → Bool) (n : ℕ) → filter p (range_with_len 0 (n + 1)) ≡ filter p (range_with_len 0 n) ++ cond (p n) (n ∷ []) []
filter_more p n =
    ap (filter p) (sym (map-id (range_with_len 0 (n + 1))))
    ∙ (filter_of_map_range_with_len_more p (λ k. k) 0 n n (zero-add n)
    ∙ ap (λ below. filter p below ++ cond (p n) (n ∷ []) []) (map-id (range_with_len 0 n)))

pub with_member : (set : List Bool) (n : ℕ) → is_in set n ≡ true →
    filter (λ k. is_in set k) (range_with_len 0 (n + 1)) ≡ filter (λ k. is_in set k) (range_with_len 0 n) ++ n ∷ []
with_member set n is =
    filter_more (λ k. is_in set k) n ∙ ap (λ b. filter (λ k. is_in set k) (range_with_len 0 n) ++ cond b (n ∷ []) []) is

pub without_member : (set : List Bool) (n : ℕ) → is_in set n ≡ false →
    filter (λ k. is_in set k) (range_with_len 0 (n + 1)) ≡ filter (λ k. is_in set k) (range_with_len 0 n)
without_member set n is =
    filter_more (λ k. is_in set k) n
    ∙ (ap (λ b. filter (λ k. is_in set k) (range_with_len 0 n) ++ cond b (n ∷ []) []) is
    ∙ append-nil (filter (λ k. is_in set k) (range_with_len 0 n)))
