-- One reader among all reads.
use Rattle.std.proofs.Common.{◌≡◌, ◌≢◌, ◌∙◌, ℕ, zero, suc, ◌<◌, List, [], ◌∷◌, length, map, set, get_or, refl, sym, ap, subst, arith}
use Rattle.std.specs.Prelude.{slice_get}
use Rattle.std.proofs.lemmas.List.{get_or-map, length-map}
use Rattle.atomic_table.specs.Seated.{TableId}
use Rattle.chi_audit.specs.declared.tally.Tally.{Tally}
use Rattle.chi_audit.specs.Tally.{last_tally, NotAbove, Rises, IsBeginning}
use Rattle.chi_audit.specs.Tallies.{ReaderState, reader_cell, tallies_seen, IsReadBy, IsRead}
use Rattle.chi_audit.proofs.Orders.{beginning_not_above}

seen_at : (rs : List ReaderState) (n : ℕ) (r : ReaderState) → n < length rs → r ≡ get_or rs n r → tallies_seen rs n ≡ r.seen
seen_at [] n r low at = absurd (omega arith)
seen_at (x ∷ xs) zero r low at = ap (λ (y : ReaderState). y.seen) (sym at)
seen_at (x ∷ xs) (suc n) r low at = seen_at xs n r (omega arith) at

seen_set : (rs : List ReaderState) (n : ℕ) (r : ReaderState) → n < length rs → tallies_seen (set rs n r) n ≡ r.seen
seen_set [] n r low = absurd (omega arith)
seen_set (x ∷ xs) zero r low = refl
seen_set (x ∷ xs) (suc n) r low = seen_set xs n r (omega arith)

others_set : (rs : List ReaderState) (n m : ℕ) (r : ReaderState) → m ≢ n → slice_get (set rs n r) m ≡ slice_get rs m
others_set [] n m r apart = refl
others_set (x ∷ xs) zero zero r apart = absurd (apart refl)
others_set (x ∷ xs) zero (suc m) r apart = refl
others_set (x ∷ xs) (suc n) zero r apart = refl
others_set (x ∷ xs) (suc n) (suc m) r apart = others_set xs n m r (λ e. apart (ap suc e))

cells_set : (rs : List ReaderState) (n : ℕ) (r r' : ReaderState) → n < length rs → r ≡ get_or rs n r → r'.cell ≡ r.cell → map reader_cell (set rs n r') ≡ map reader_cell rs
cells_set [] n r r' low at same = refl
cells_set (x ∷ xs) zero r r' low at same = ap (λ (cell : TableId). cell ∷ map reader_cell xs) (same ∙ ap reader_cell at)
cells_set (x ∷ xs) (suc n) r r' low at same = ap (λ (cells : List TableId). x.cell ∷ cells) (cells_set xs n r r' (omega arith) at same)

pub low_at : (rs : List ReaderState) (cells : List TableId) (place n : ℕ) → map reader_cell rs ≡ cells → place ≡ n → n < length cells → place < length rs
low_at rs cells place n fits is low = let long : length rs ≡ length cells = sym (length-map rs reader_cell) ∙ ap length fits in omega arith

-- the reader that was lent has the cell at its place
pub same_cell : (rs : List ReaderState) (cells : List TableId) (n : ℕ) (r : ReaderState) (cell : TableId) → n < length rs
    → r ≡ get_or rs n r → cell ≡ get_or cells n cell → map reader_cell rs ≡ cells → r.cell ≡ cell
same_cell rs cells n r cell low at there fits =
    ap reader_cell at ∙ (sym (get_or-map reader_cell rs n r cell low) ∙ (ap (λ (cs : List TableId). get_or cs n cell) fits ∙ sym there))

pub read_at : (rs : List ReaderState) (place n : ℕ) (r r' : ReaderState) (t : Tally) → place ≡ n → place < length rs → r ≡ get_or rs place r
    → IsReadBy r r' t → IsRead rs (set rs place r') n t
read_at rs place n r r' t is low at read = subst (λ (k : ℕ). IsRead rs (set rs place r') k t) is (record {
  last = read.last ∙ ap last_tally (sym after);
  longer = subst (λ (ts : List Tally). IsBeginning ts (tallies_seen (set rs place r') place)) (sym before) (subst (λ (ts : List Tally). IsBeginning r.seen ts) (sym after) read.longer);
  rising = subst Rises (sym after) read.rising;
  later = subst (λ (ts : List Tally). NotAbove (last_tally ts) t) (sym before) read.later;
  others = λ m apart. others_set rs place m r' apart;
  cells = cells_set rs place r r' low at read.same;
})
  where
    before : tallies_seen rs place ≡ r.seen
    before = seen_at rs place r low at

    after : tallies_seen (set rs place r') place ≡ r'.seen
    after = seen_set rs place r' low

-- a reader of the same cell that knows more, and the last tally that it knows
pub read_by : (r s r' : ReaderState) (t : Tally) → r ≡ s → r'.cell ≡ r.cell → IsBeginning r.seen r'.seen → Rises r'.seen → t ≡ last_tally r'.seen → IsReadBy s r' t
read_by r s r' t is same longer rising last = subst (λ (q : ReaderState). IsReadBy q r' t) is (record {
  same = same;
  longer = longer;
  rising = rising;
  last = last;
  later = subst (λ (u : Tally). NotAbove (last_tally r.seen) u) (sym last) (beginning_not_above r.seen r'.seen longer rising);
})
