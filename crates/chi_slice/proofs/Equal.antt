-- The lines of two slices, and their sizes, are equal, as `==` finds it, exactly where they are the same.
use Rattle.std.proofs.Common.{◌≡◌, ◌↔◌, ◌∙◌, ℕ, Bool, IsTrue, List, ap, sym}
use Rattle.std.specs.Bool.{Decides}
use Rattle.std.specs.Cmp.Lexicographic.{pointwise, pointwise_decides}
use Rattle.chi_line.proofs.Equal.{line}
use Rattle.chi_line.specs.LineState.{LineState}
use Rattle.chi_line.specs.contracts.line.CoherentLinePartialEq.TheImpl as lines
use Rattle.chi_flit.specs.Config.{Sizes}
use Rattle.chi_journal.specs.Journal.{Log}
use Rattle.chi_slice.specs.Slice.{SliceState, slice_with}
pub use Rattle.chi_flit.proofs.Equal.{sizes}

pub all_lines : (a b : List LineState) → Decides (pointwise lines.eq-value.it a b) (a ≡ b)
all_lines = pointwise_decides line

-- slices of the same parts are the same
of_parts : (c c' : Sizes) (i i' : ℕ) (ls ls' : List LineState) (j j' : Log) → c ≡ c' → i ≡ i' → ls ≡ ls' → j ≡ j' → slice_with c i ls j ≡ slice_with c' i' ls' j'
of_parts c c' i i' ls ls' j j' config index lines journal =
    ap (λ (x : Sizes). slice_with x i ls j) config ∙ (ap (λ (x : ℕ). slice_with c' x ls j) index ∙ (ap (λ (x : List LineState). slice_with c' i' x j) lines ∙ ap (λ (x : Log). slice_with c' i' ls' x) journal))

-- what tells two journals apart tells two slices apart that are the same but for them
pub by_journals : (s t : SliceState) (c c' : Sizes) (i i' : ℕ) (ls ls' : List LineState) (j j' : Log) (b : Bool) → slice_with c i ls j ≡ s → slice_with c' i' ls' j' ≡ t → c ≡ c' → i ≡ i' → ls ≡ ls' → IsTrue b ↔ (j ≡ j') → IsTrue b ↔ (s ≡ t)
by_journals s t c c' i i' ls ls' j j' b own others config index lines both =
    (λ yes. sym own ∙ (of_parts c c' i i' ls ls' j j' config index lines (both.0 yes) ∙ others), λ same. both.1 (ap (λ (x : SliceState). x.journal) (own ∙ (same ∙ sym others))))
