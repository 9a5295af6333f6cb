-- All lines of a slice are below the number of lines.
use Rattle.std.proofs.Common.{◌≡◌, ℕ, ◌<◌, ◌%◌, ◌==◌, nat_lt, Bool, ◌↔◌, subst, sym}
use Rattle.std.specs.Prelude.{IsTrue}
use Rattle.chi_slice.specs.Coherence.{AreLinesCoherent, IsLineCoherent}
use Rattle.chi_slice.specs.Slice.{SliceState}
use Rattle.chi_slice.proofs.Below.{AllBelow}
use Rattle.chi_slice.proofs.Rows.{both, is_low}

-- all lines were tested
pub all_lines : (s : SliceState) (n : ℕ) (found : Bool) → n ≡ s.config.lines → IsTrue found ↔ AllBelow (IsLineCoherent s) n → IsTrue found ↔ AreLinesCoherent s
all_lines s n found all so_far = (
  λ t l inside. so_far.0 t l (subst (λ (m : ℕ). l < m) (sym all) (is_low l s.config.lines (both (nat_lt l s.config.lines) (l % s.config.slices == s.index) inside).0)) inside,
  λ lines. so_far.1 (λ l low inside. lines l inside),
)
