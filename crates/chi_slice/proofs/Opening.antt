-- A new slice is in the opening state.
use Rattle.std.proofs.Common.{◌≡◌, ℕ, ◌<◌, List, replicate, true, refl, sym, ◌∙◌, ap, subst}
use Rattle.chi_flit.specs.Config.{Sizes, are_in_limits}
use Rattle.chi_journal.specs.Journal.{Log, opening_log}
use Rattle.chi_line.specs.LineState.{LineState, opening_line}
use Rattle.chi_line.specs.Meaning.{standing_of}
use Rattle.chi_line.proofs.OpeningLine.{opening_is}
use Rattle.chi_slice.specs.Protocol.{IsOpening}
use Rattle.chi_slice.specs.Slice.{opening_slice, row_count, slice_with}
use Rattle.chi_slice.proofs.Slices.{opening_at}

opens : (config : Sizes) (index : ℕ) → are_in_limits config ≡ true → index < config.slices → IsOpening (opening_slice config index)
opens config index limits inside = record {
  lines = λ l here. ap standing_of (opening_at config index l limits inside here) ∙ opening_is;
  journal = refl;
}

pub opens_with : (config : Sizes) (index : ℕ) (lines : List LineState) (journal : Log) → are_in_limits config ≡ true → index < config.slices
    → lines ≡ replicate (row_count config index) opening_line → journal ≡ opening_log config.lines config.journal → IsOpening (slice_with config index lines journal)
opens_with config index lines journal limits inside ls j =
    subst (λ (xs : List LineState). IsOpening (slice_with config index xs journal)) (sym ls)
    (subst (λ (log : Log). IsOpening (record (opening_slice config index) { journal = log })) (sym j) (opens config index limits inside))
