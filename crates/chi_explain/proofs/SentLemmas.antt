-- What an action sends, channel by channel.
use Rattle.std.proofs.Common.{◌≡◌, List, ◌++◌, sym, ap, ◌∙◌, append_assoc}
use Rattle.chi_explain.specs.declared.observed.Observed.{Observed}

-- one list more in front
front : (a b r s : List Observed) → r ≡ b ++ s → a ++ r ≡ (a ++ b) ++ s
front a b r s e = ap (λ (x : List Observed). a ++ x) e ∙ sym (append_assoc a b s)

pub five : (f a b c d e p q r s t : List Observed) → f ≡ a ++ p → p ≡ b ++ q → q ≡ c ++ r → r ≡ d ++ s → s ≡ e ++ t → f ≡ (a ++ (b ++ (c ++ (d ++ e)))) ++ t
five f a b c d e p q r s t x y z u v =
    x ∙ front a (b ++ (c ++ (d ++ e))) p t (y ∙ front b (c ++ (d ++ e)) q t (z ∙ front c (d ++ e) r t (u ∙ front d e s t v)))
