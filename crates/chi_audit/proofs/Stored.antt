-- Each step of a cell keeps its rule.
use Rattle.std.proofs.Common.{◌≡◌, ◌≢◌, ℕ, zero, suc, true, true≢false, List, [], ◌∷◌, ◌++◌, set, refl, sym, ap, ◌∙◌, subst, ⊎_elim, append_assoc}
use mathlib.Core.Option.{some, some-ne-none, some-injective}
use lib.ListN.{get_elem?}
use Rattle.crossbeam_utils.specs.Register.{Turns, Forks}
use Rattle.atomic_table.proofs.Lists.{at_set, at_snoc, set_again}
use Rattle.chi_audit.specs.declared.tally.Tally.{Tally}
use Rattle.chi_audit.specs.declared.tally_view.TallyView.{TallyView}
use Rattle.chi_audit.specs.Tally.{last_tally, NotAbove, Rises, IsBeginning}
use Rattle.chi_audit.specs.Cells.{tally_of, writer_view, watcher_view, CellKept, IsStored, IsSeen, AreBeginnings}
use Rattle.chi_audit.proofs.Orders.{begins_whole, last_added, rises_added}

-- what the rule says of one pass
abbrev Fits : List Tally → ℕ → ℕ → TallyView → Type 0
Fits log seat pass v = (v.writes ≡ true → (pass ≡ seat) × (v.seen ≡ log)) × IsBeginning v.seen log

fits_set : (log : List Tally) (seat : ℕ) (views : List TallyView) (by : ℕ) (w : TallyView)
    → ((j : ℕ) (u : TallyView) → j ≢ by → get_elem? views j ≡ some u → Fits log seat j u) → Fits log seat by w
    → (j : ℕ) (u : TallyView) → get_elem? (set views by w) j ≡ some u → Fits log seat j u
fits_set log seat views by w others mine j u e =
    ⊎_elim
    (λ (x : (j ≡ by) × (w ≡ u)). subst (λ (y : ℕ × TallyView). Fits log seat y.0 y.1) (λ i. (sym x.0 i, x.1 i)) mine)
    (λ (x : (j ≢ by) × (get_elem? views j ≡ some u)). others j u x.0 x.1)
    (at_set views by j w u e)

-- the rule, by what it says of each pass
keeps : (words : List ℕ) (views : List TallyView) (log : List Tally) (seat : ℕ) → Rises log → tally_of words ≡ last_tally log
    → ((j : ℕ) (u : TallyView) → get_elem? views j ≡ some u → Fits log seat j u) → CellKept words views
keeps words views log seat rising last fits = record {
  log = log;
  seat = seat;
  rising = rising;
  last = last;
  writer = λ j u e. (fits j u e).0;
  known = λ j u e. (fits j u e).1;
}

longer : (front log : List Tally) (t : Tally) → IsBeginning front log → IsBeginning front (log ++ t ∷ [])
longer front log t begins = (begins.0 ++ t ∷ [], ap (λ (ts : List Tally). ts ++ t ∷ []) begins.1 ∙ append_assoc front begins.0 (t ∷ []))

pub opens : CellKept (0 ∷ 0 ∷ 0 ∷ []) (writer_view [] ∷ [])
opens = keeps (0 ∷ 0 ∷ 0 ∷ []) (writer_view [] ∷ []) [] 0 tt refl only
  where
    only : (j : ℕ) (u : TallyView) → get_elem? (writer_view [] ∷ []) j ≡ some u → Fits [] 0 j u
    only zero u e = subst (Fits [] 0 0) (some-injective (writer_view []) u e) ((λ _. (refl, refl)), begins_whole [])
    only (suc j) u e = absurd (some-ne-none u (sym e))

pub stores : (pass : ℕ) (v : TallyView) (words : List ℕ) → v.writes ≡ true → NotAbove (last_tally v.seen) (tally_of words)
    → Turns CellKept pass v (λ _. words) (λ v before after w. IsStored v after w)
stores pass v words writes later before views kept at =
    let t : Tally = tally_of words in
    let w : TallyView = record v { seen = v.seen ++ t ∷ [] } in
    let own = kept.writer pass v at writes in
    let now : List Tally = kept.log ++ t ∷ [] in (
      w,
      keeps words (set views pass w) now kept.seat
          (rises_added kept.log t kept.rising (subst (λ (ts : List Tally). NotAbove (last_tally ts) t) own.1 later))
          (sym (last_added kept.log t))
          (fits_set now kept.seat views pass w
          (λ j u apart e. ((λ k. absurd (apart ((kept.writer j u e k).0 ∙ sym own.0))), longer u.seen kept.log t (kept.known j u e)))
          ((λ _. (own.0, ap (λ (ts : List Tally). ts ++ t ∷ []) own.1)), subst (λ (ts : List Tally). IsBeginning (ts ++ t ∷ []) now) (sym own.1) (begins_whole now))),
      refl,
    )

pub reads : (pass : ℕ) (v : TallyView) → Turns CellKept pass v (λ words. words) (λ v before after w. IsSeen v (tally_of after) w)
reads pass v words views kept at =
    let w : TallyView = record v { seen = kept.log } in (
      w,
      keeps words (set views pass w) kept.log kept.seat kept.rising kept.last
          (fits_set kept.log kept.seat views pass w
          (λ j u apart e. (kept.writer j u e, kept.known j u e))
          ((λ k. ((kept.writer pass v at k).0, refl)), begins_whole kept.log)),
      record { longer = kept.known pass v at; rising = kept.rising; last = kept.last },
    )

pub watches : (pass : ℕ) (v : TallyView) → Forks CellKept pass v v (watcher_view v.seen)
watches pass v words views kept at = keeps words (set views pass v ++ watcher_view v.seen ∷ []) kept.log kept.seat kept.rising kept.last
    (λ j u e. ⊎_elim
    (λ was. let old = subst (λ (l : List TallyView). get_elem? l j ≡ some u) (set_again views pass v at) was in (kept.writer j u old, kept.known j u old))
    (λ (same : watcher_view v.seen ≡ u). subst (Fits kept.log kept.seat j) same ((λ k. absurd (true≢false (sym k))), kept.known pass v at))
    (at_snoc (set views pass v) (watcher_view v.seen) u j e))

pub begins_all : (words : List ℕ) (views : List TallyView) → CellKept words views → AreBeginnings words views
begins_all words views kept = record {
  one = λ a b v w at there writes too. (kept.writer a v at writes).0 ∙ sym (kept.writer b w there too).0;
  shows = λ a v at writes. kept.last ∙ ap last_tally (sym (kept.writer a v at writes).1);
  beginnings = λ a b v w at there writes. subst (λ (ts : List Tally). IsBeginning w.seen ts) (sym (kept.writer a v at writes).1) (kept.known b w there);
}
