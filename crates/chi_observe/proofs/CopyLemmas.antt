-- A copy of a table of lines has the lines.
use Rattle.std.proofs.Common.{◌≡◌, ℕ, Bool, true, false, List, [], ◌∷◌, Some, cond, refl, ap, ◌∙◌}
use Rattle.std.specs.List.{AllZip}
use Rattle.std.specs.Map.{lookup}
use Rattle.std.specs.Prelude.{nat_eq, option_map}
use Rattle.chi_observe.specs.declared.lines.LineSeen.{LineSeen}
use Rattle.chi_observe.specs.Lines.{line_state, lines_in}

same_line : {A : Type 0} (l : ℕ) (xs ys : List (ℕ × LineSeen A)) → AllZip (λ p q. (q.0 ≡ p.0) × (line_state q.1 ≡ line_state p.1)) xs ys → lines_in ys l ≡ lines_in xs l
same_line l [] [] h = refl
same_line l [] (y ∷ ys) h = absurd h
same_line l (x ∷ xs) [] h = absurd h
same_line l (x ∷ xs) (y ∷ ys) h =
    ap (λ (n : ℕ). option_map line_state (cond (nat_eq l n) (Some y.1) (lookup (nat_eq l) ys))) h.0.0
    ∙ step (nat_eq l x.0) (same_line l xs ys h.1)
  where
    step : (at : Bool) → lines_in ys l ≡ lines_in xs l → option_map line_state (cond at (Some y.1) (lookup (nat_eq l) ys)) ≡ option_map line_state (cond at (Some x.1) (lookup (nat_eq l) xs))
    step true rest = ap Some h.0.1
    step false rest = rest

pub same_lines : {A : Type 0} (xs ys : List (ℕ × LineSeen A)) → AllZip (λ p q. (q.0 ≡ p.0) × (line_state q.1 ≡ line_state p.1)) xs ys → lines_in ys ≡ lines_in xs
same_lines xs ys h = λ i l. same_line l xs ys h i
