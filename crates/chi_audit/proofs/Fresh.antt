-- One more writer, which stored nothing.
use Rattle.std.proofs.Common.{◌≡◌, ◌∙◌, ℕ, zero, suc, ◌+◌, map, List, [], ◌∷◌, ◌++◌, length, Some, refl, sym, ap, subst, arith}
use Rattle.std.specs.Prelude.{All, slice_get}
use Rattle.std.proofs.lemmas.List.Elements.{All-append}
use Rattle.std.proofs.lemmas.List.{length-append, map-append}
use Rattle.atomic_table.specs.Seated.{TableId}
use Rattle.chi_audit.specs.Numbers.{numbers}
use Rattle.chi_audit.specs.Tallies.{WriterState, ReaderState, writer_agent, reader_cell, unread, IsFresh}

get_front : (cells rest : List TableId) (k : ℕ) (cell : TableId) → slice_get cells k ≡ Some cell → slice_get (cells ++ rest) k ≡ Some cell
get_front [] rest k cell e = absurd (cc)
get_front (c ∷ cs) rest zero cell e = e
get_front (c ∷ cs) rest (suc k) cell e = get_front cs rest k cell e

get_last : (cells : List TableId) (cell : TableId) → slice_get (cells ++ cell ∷ []) (length cells) ≡ Some cell
get_last [] cell = refl
get_last (c ∷ cs) cell = get_last cs cell

still_fresh : (cells rest : List TableId) (ws : List WriterState) → All (IsFresh cells) ws → All (IsFresh (cells ++ rest)) ws
still_fresh cells rest ws all k d low = let was = all k d low in record { own = get_front cells rest _ _ was.own; unused = was.unused }

one_fresh : (cells : List TableId) (w : WriterState) → IsFresh cells w → All (IsFresh cells) (w ∷ [])
one_fresh cells w fresh zero d low = fresh
one_fresh cells w fresh (suc k) d low = absurd (omega arith)

pub fresh_added : (cells : List TableId) (ws : List WriterState) (n : ℕ) (cell : TableId) → length cells ≡ n → All (IsFresh cells) ws
    → All (IsFresh (cells ++ cell ∷ [])) (ws ++ record { agent = n; cell = cell; stored = [] } ∷ [])
fresh_added cells ws n cell is all = All-append (IsFresh (cells ++ cell ∷ [])) ws _ (still_fresh cells (cell ∷ []) ws all)
    (one_fresh _ _ (record { own = subst (λ (k : ℕ). slice_get (cells ++ cell ∷ []) k ≡ Some cell) is (get_last cells cell); unused = refl }))

-- one more cell, with its writer and its reader
pub opened_more : (cells cells' : List TableId) (cell : TableId) (ws ws' : List WriterState) (rs rs' : List ReaderState) (n : ℕ)
    → cells' ≡ cells ++ cell ∷ [] → ws' ≡ ws ++ record { agent = n; cell = cell; stored = [] } ∷ [] → rs' ≡ rs ++ unread cell ∷ []
    → length cells ≡ n → All (IsFresh cells) ws → map writer_agent ws ≡ numbers n → rs ≡ map unread cells
    → (length cells' ≡ n + 1) × All (IsFresh cells') ws' × (map writer_agent ws' ≡ numbers (n + 1)) × (rs' ≡ map unread cells')
opened_more cells cells' cell ws ws' rs rs' n isc isw isr long fresh agents unreads =
    let next : suc n ≡ n + 1 = omega arith in (
      ap length isc ∙ (length-append cells (cell ∷ []) ∙ ap (λ (k : ℕ). k + 1) long),
      subst (λ (cs : List TableId). All (IsFresh cs) ws') (sym isc) (subst (All (IsFresh (cells ++ cell ∷ []))) (sym isw) (fresh_added cells ws n cell long fresh)),
      ap (map writer_agent) isw ∙ (map-append writer_agent ws _ ∙ (ap (λ (ks : List ℕ). ks ++ n ∷ []) agents ∙ ap numbers next)),
      isr ∙ (ap (λ (ys : List ReaderState). ys ++ unread cell ∷ []) unreads ∙ (sym (map-append unread cells (cell ∷ [])) ∙ ap (map unread) (sym isc))),
    )

-- the cells of readers that read nothing
pub cells_unread : (cells : List TableId) → map reader_cell (map unread cells) ≡ cells
cells_unread [] = refl
cells_unread (x ∷ xs) = ap (λ ys. x ∷ ys) (cells_unread xs)
