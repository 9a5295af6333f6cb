-- What is read out of a line's row is the line.
use Rattle.std.proofs.Common.{◌≡◌, ℕ, ◌<◌, Bool, true, false, Some, None, length, get_or, refl, ◌∙◌, ap, subst, if◌then◌else◌, arith}
use Rattle.std.proofs.lemmas.List.{get_or_read}
use Rattle.chi_line.specs.LineState.{LineState, opening_line}
use Rattle.chi_slice.specs.Slice.{SliceKept, SliceState, is_line_in_range, line, line_in_row, row_of_line}
use Rattle.chi_slice.proofs.Rows.{row_in_slice}

-- the row of a line that is in the slice
pub record IsRow (s : SliceState) (l row : ℕ) : Type 0 where
  pub here : is_line_in_range s l ≡ true
  pub row_is : row ≡ row_of_line s l

pub is_row : (s : SliceState) (l row : ℕ) → Some row ≡ (if is_line_in_range s l then Some (row_of_line s l) else None) → IsRow s l row
is_row s l row h = go (is_line_in_range s l) refl h
  where
    go : (b : Bool) → is_line_in_range s l ≡ b → Some row ≡ (if b then Some (row_of_line s l) else None) → IsRow s l row
    go true here h = record { here = here; row_is = cc (h) }
    go false there h = absurd (cc (h))

pub line_read : {at : LineState} (s : SliceState) (l row : ℕ) → SliceKept s → IsRow s l row → at ≡ get_or s.lines row at → at ≡ line s l
line_read {at} s l row k r read =
    let low : row < length s.lines = omega (arith, row_in_slice s l k r.here, k.rows, r.row_is) in
    get_or_read _ _ _ low read opening_line ∙ ap (line_in_row s) r.row_is

-- in the slice as it is now
pub line_now : {at : LineState} (now s : SliceState) (l row : ℕ) → SliceKept s → s ≡ now → IsRow now l row → at ≡ get_or s.lines row at → at ≡ line now l
line_now {at} now s l row k same r read = subst (λ (v : SliceState). IsRow v l row → at ≡ line v l) same (λ r. line_read s l row k r read) r
