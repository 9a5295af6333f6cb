-- A line that nobody has a copy of, at which nothing is under way (docs/TRACES.md, "Explanations").
use Rattle.std.specs.Prelude.{◌≡◌, ◌&&◌, ℕ, Bool, List, true, false, not, Option, Some, None, is_none}
use Rattle.std.specs.List.{All}
use Rattle.chi_slice.specs.Words.{line_view, Cells, LineView, Sizes}
use Rattle.chi_flit.specs.declared.state.State.TheVariants.{I}
use Rattle.chi_slice.specs.Servings.{Idle}
use Rattle.chi_slice.specs.Slice.{SliceKept, SliceState, last_of, line}

-- the home names nobody, and nothing is pending, waits or is served
pub record IsUntouched (view : LineView) : Type 0 where
  pub pending : All (λ request. is_none request ≡ true) view.pending
  pub waiting : All (λ request. is_none request ≡ true) view.waiting
  pub named : All (λ marked. not marked ≡ true) view.named
  pub unique : view.unique ≡ false
  pub owner : view.owner ≡ None
  pub serving : view.serving ≡ Idle

-- nothing is in flight to or from an agent
abbrev pub are_empty : Cells → Bool
are_empty cells =
    is_none cells.req && (is_none cells.snp && (is_none cells.rsp_down && (is_none cells.dat_down && (is_none cells.rsp_up && is_none cells.dat_up))))

-- all is as a line opens, but that memory has these words, which were stored last
pub record IsOpen (memory : List ℕ) (view : LineView) : Type 0 where
  pub copies : All (λ copy. copy.state ≡ I) view.copies
  pub words : view.memory ≡ memory
  pub last : view.last ≡ memory
  pub quiet : IsUntouched view
  pub flits : All (λ cells. are_empty cells ≡ true) view.flits

-- a slice whose line 0 is open, and that keeps what a slice keeps
abbrev pub IsOpenAt : List ℕ → SliceState → Type 0
IsOpenAt memory s = IsOpen memory (line_view (line s 0) (last_of s 0)) × SliceKept s

-- a slice of this size whose line 0 is open, if there is one
abbrev pub IsOpenedIf : Sizes → List ℕ → Option SliceState → Type 0
IsOpenedIf config memory None = Unit {0}
IsOpenedIf config memory (Some s) = (s.config ≡ config) × IsOpenAt memory s
