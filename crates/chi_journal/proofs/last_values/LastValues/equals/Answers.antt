-- Two tables are equal, as `==` finds it, exactly where they are the same.
use Rattle.std.proofs.Common.{◌≡◌, ◌∙◌, ℕ, List, ap, sym, nat_eq}
use Rattle.std.specs.Cmp.Lexicographic.{pointwise}
use Rattle.chi_journal.proofs.Equal.{all_rows}
use Rattle.chi_journal.proofs.last_values.LastValues.equals.Goals as goal

pub returns : goal.returns
returns g c =
    let found : c.eq.result ≡ pointwise (pointwise nat_eq) c.args.self.now c.args.other.now =
    c.eq.ensures ∙ (ap (λ (a : List (List ℕ)). pointwise (pointwise nat_eq) a c.rows-2.result.now) c.rows.ensures ∙ ap (λ (b : List (List ℕ)). pointwise (pointwise nat_eq) c.args.self.now b) c.rows-2.ensures) in
    let both = all_rows c.args.self.now c.args.other.now in
    (λ t. both.0 (sym found ∙ t), λ e. found ∙ both.1 e)
