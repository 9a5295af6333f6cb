-- How the seen credits of a port go on, by type.
use Rattle.std.proofs.Common.{◌≡◌, ◌≢◌, ℕ, ◌-◌, ◌/◌, ◌%◌, ◌<◌, ◌≤◌, List, [], ◌∷◌, length, ◌∙◌, ap, arith, ⊎_elim}
use Rattle.std.proofs.lemmas.Bool.{cases_lt}
use Rattle.std.proofs.lemmas.List.{get_or_past}
use Rattle.std.proofs.lemmas.Nat.Bits.{bit_at-zero}
use Rattle.std.specs.Prelude.{slice_index, slice_set}
use Rattle.std.specs.Int.{bit_at}
use Rattle.chi_flit.specs.declared.credit.CreditType.{CreditType}
use Rattle.chi_flit.specs.declared.credit.CreditType.TheVariants.{T0, T1, T2, T3}
use Rattle.chi_flit.specs.Credit.{credit_number}
use Rattle.chi_node.specs.Words.{Shape, set_at, take_out, count_of, low, size, PortView, HasOneLess, IsLowestSeen, seen_of, set_count}
use Rattle.chi_node.proofs.Passed.{taken_else, taken_here, count_kept, count_moved, credit_below, in_range}
use Rattle.chi_node.specs.Outstanding.{seen_counts}

-- one seen credit of a type less
abbrev pub one_less : List ℕ → CreditType → List ℕ
one_less credits ty = slice_set credits (credit_number ty) (slice_index credits (credit_number ty) - 1)

-- the numbers of each type are the list of them
pub counts_are : (p : PortView) (counts : List ℕ) → length counts ≡ 4 → ((t : ℕ) → t < 4 → slice_index counts t ≡ seen_of p t) → counts ≡ seen_counts p
counts_are p [] len is = absurd (omega (arith, len))
counts_are p (a ∷ []) len is = absurd (omega (arith, len))
counts_are p (a ∷ b ∷ []) len is = absurd (omega (arith, len))
counts_are p (a ∷ b ∷ c ∷ []) len is = absurd (omega (arith, len))
counts_are p (a ∷ b ∷ c ∷ d ∷ []) len is =
    ap (λ n. n ∷ b ∷ c ∷ d ∷ []) (is 0 (omega arith)) ∙ (ap (λ n. seen_of p 0 ∷ n ∷ c ∷ d ∷ []) (is 1 (omega arith))
    ∙ (ap (λ n. seen_of p 0 ∷ seen_of p 1 ∷ n ∷ d ∷ []) (is 2 (omega arith)) ∙ ap (λ n. seen_of p 0 ∷ seen_of p 1 ∷ seen_of p 2 ∷ n ∷ []) (is 3 (omega arith))))
counts_are p (a ∷ b ∷ c ∷ d ∷ e ∷ more) len is = absurd (omega (arith, len))

-- as many seen credits
pub same_counts : (p q : PortView) → q.shape ≡ p.shape → q.seen ≡ p.seen → seen_counts q ≡ seen_counts p
same_counts p q shape seen =
    ap (λ (s : Shape). set_count q.seen (low s 0) (size s 0) ∷ set_count q.seen (low s 1) (size s 1) ∷ set_count q.seen (low s 2) (size s 2) ∷ set_count q.seen (low s 3) (size s 3) ∷ []) shape
    ∙ ap (λ (w : List ℕ). set_count w (low p.shape 0) (size p.shape 0) ∷ set_count w (low p.shape 1) (size p.shape 1) ∷ set_count w (low p.shape 2) (size p.shape 2) ∷ set_count w (low p.shape 3) (size p.shape 3) ∷ []) seen

-- an entry that is seen stands in one of the words
in_words : (words : List ℕ) (e : ℕ) → set_at words e ≡ 1 → e / 64 < length words
in_words words e is = ⊎_elim
    (λ low. low)
    (λ past. let none : set_at words e ≡ 0 = ap (λ w. bit_at w (e % 64)) (get_or_past words (e / 64) 0 past) ∙ bit_at-zero (e % 64) in absurd (omega (arith, is, none)))
    (cases_lt (e / 64) (length words))

-- a seen credit of type t taken out is one less of the type
fewer : (p q : PortView) (t e : ℕ) → t < 4 → low p.shape 4 ≤ 256 → IsLowestSeen p t e → q.shape ≡ p.shape → q.seen ≡ take_out p.seen e → HasOneLess t p q
fewer p q t e lt le lowest shape seen =
    let is = lowest.0 in
    let inside : e < 256 = omega (arith, is.1, in_range p.shape t lt le) in
    let apart : (i : ℕ) → i < 256 → i ≢ e → set_at (take_out p.seen e) i ≡ set_at p.seen i = λ i li d. taken_else p.seen e i d (in_words p.seen e lowest.1) in
    let now : (u : ℕ) → seen_of q u ≡ count_of p.shape u (set_at (take_out p.seen e)) = λ u. ap (λ s. count_of s u (set_at q.seen)) shape ∙ ap (λ xs. count_of p.shape u (set_at xs)) seen in (
      omega (arith, now t, count_moved p.shape t e (set_at p.seen) (set_at (take_out p.seen e)) lt le is apart, taken_here p.seen e, lowest.1),
      λ u lu d. now u ∙ count_kept p.shape u t e (set_at p.seen) (set_at (take_out p.seen e)) lu le is d apart,
    )

less : (p q : PortView) (ty : CreditType) → HasOneLess (credit_number ty) p q → seen_counts q ≡ one_less (seen_counts p) ty
less p q T0 one =
    let here : seen_of q 0 ≡ seen_of p 0 - 1 = omega (arith, one.0) in
    ap (λ n. n ∷ seen_of q 1 ∷ seen_of q 2 ∷ seen_of q 3 ∷ []) here ∙ (ap (λ n. (seen_of p 0 - 1) ∷ n ∷ seen_of q 2 ∷ seen_of q 3 ∷ []) (one.1 1 (omega arith) (λ e. absurd (omega (arith, e))))
    ∙ (ap (λ n. (seen_of p 0 - 1) ∷ seen_of p 1 ∷ n ∷ seen_of q 3 ∷ []) (one.1 2 (omega arith) (λ e. absurd (omega (arith, e)))) ∙ ap (λ n. (seen_of p 0 - 1) ∷ seen_of p 1 ∷ seen_of p 2 ∷ n ∷ []) (one.1 3 (omega arith) (λ e. absurd (omega (arith, e))))))
less p q T1 one =
    let here : seen_of q 1 ≡ seen_of p 1 - 1 = omega (arith, one.0) in
    ap (λ n. n ∷ seen_of q 1 ∷ seen_of q 2 ∷ seen_of q 3 ∷ []) (one.1 0 (omega arith) (λ e. absurd (omega (arith, e)))) ∙ (ap (λ n. seen_of p 0 ∷ n ∷ seen_of q 2 ∷ seen_of q 3 ∷ []) here
    ∙ (ap (λ n. seen_of p 0 ∷ (seen_of p 1 - 1) ∷ n ∷ seen_of q 3 ∷ []) (one.1 2 (omega arith) (λ e. absurd (omega (arith, e)))) ∙ ap (λ n. seen_of p 0 ∷ (seen_of p 1 - 1) ∷ seen_of p 2 ∷ n ∷ []) (one.1 3 (omega arith) (λ e. absurd (omega (arith, e))))))
less p q T2 one =
    let here : seen_of q 2 ≡ seen_of p 2 - 1 = omega (arith, one.0) in
    ap (λ n. n ∷ seen_of q 1 ∷ seen_of q 2 ∷ seen_of q 3 ∷ []) (one.1 0 (omega arith) (λ e. absurd (omega (arith, e)))) ∙ (ap (λ n. seen_of p 0 ∷ n ∷ seen_of q 2 ∷ seen_of q 3 ∷ []) (one.1 1 (omega arith) (λ e. absurd (omega (arith, e))))
    ∙ (ap (λ n. seen_of p 0 ∷ seen_of p 1 ∷ n ∷ seen_of q 3 ∷ []) here ∙ ap (λ n. seen_of p 0 ∷ seen_of p 1 ∷ (seen_of p 2 - 1) ∷ n ∷ []) (one.1 3 (omega arith) (λ e. absurd (omega (arith, e))))))
less p q T3 one =
    let here : seen_of q 3 ≡ seen_of p 3 - 1 = omega (arith, one.0) in
    ap (λ n. n ∷ seen_of q 1 ∷ seen_of q 2 ∷ seen_of q 3 ∷ []) (one.1 0 (omega arith) (λ e. absurd (omega (arith, e)))) ∙ (ap (λ n. seen_of p 0 ∷ n ∷ seen_of q 2 ∷ seen_of q 3 ∷ []) (one.1 1 (omega arith) (λ e. absurd (omega (arith, e))))
    ∙ (ap (λ n. seen_of p 0 ∷ seen_of p 1 ∷ n ∷ seen_of q 3 ∷ []) (one.1 2 (omega arith) (λ e. absurd (omega (arith, e)))) ∙ ap (λ n. seen_of p 0 ∷ seen_of p 1 ∷ seen_of p 2 ∷ n ∷ []) here))

-- the lowest seen credit of a type taken out leaves one less of the type
pub counts_less : (p q : PortView) (ty : CreditType) (e : ℕ) → low p.shape 4 ≤ 256 → IsLowestSeen p (credit_number ty) e → q.shape ≡ p.shape → q.seen ≡ take_out p.seen e → seen_counts q ≡ one_less (seen_counts p) ty
counts_less p q ty e le lowest shape seen = less p q ty (fewer p q (credit_number ty) e (credit_below ty) le lowest shape seen)
