-- The plain data of a line is coherent exactly where the line is.
use Rattle.std.proofs.Common.{◌≡◌, ◌↔◌, ℕ, ◌<◌, List, Bool, length, refl, sym, ap, subst}
use Rattle.std.specs.Prelude.{IsTrue}
use Rattle.std.proofs.lemmas.List.{get_or-map}
use Rattle.chi_rnline.specs.Rn.{no_line}
use Rattle.chi_line.specs.LineState.{LineState, rn_of}
use Rattle.chi_line.specs.View.{copy_shown, line_view}
use Rattle.chi_line.proofs.LineCoherence.{coherent_is}
use Rattle.chi_line.specs.declared.view.CopyView.{CopyView}
use Rattle.chi_line.specs.declared.view.LineView.{LineView}
use Rattle.chi_slice.specs.Verdict.{IsCoherentView, IsVerdictOnShown, copy_of, no_copy}
use Rattle.chi_slice.proofs.Verdicts.{AreSame, agents_in, agents_of, by_same, of_line, of_view, swapped}

copy_at : (s : LineState) (last : List ℕ) (n : ℕ) → length s.requesters ≡ 8 → n < 8 → copy_of (line_view s last) n ≡ copy_shown (rn_of s n)
copy_at s last n eight low = get_or-map copy_shown s.requesters n no_line no_copy (subst (λ (m : ℕ). n < m) (sym eight) low)

same_agents : (s : LineState) (last : List ℕ) → length s.requesters ≡ 8 → AreSame (agents_in (line_view s last)) (agents_of s)
same_agents s last eight = record {
  state = λ n low. ap (λ (c : CopyView). c.state) (copy_at s last n eight low);
  named = λ n low. refl;
  words = λ n low. ap (λ (c : CopyView). c.words) (copy_at s last n eight low);
  sent = λ n low. refl;
}

pub verdict_on : (view : LineView) (found : Bool) → IsTrue found ↔ IsCoherentView view → IsVerdictOnShown view found
verdict_on view found so = λ s last eight long is.
    let whole = coherent_is last s eight long in
    let same : AreSame (agents_in (line_view s last)) (agents_of s) = same_agents s last eight in (
      λ t. whole.0 ((of_line s last).0 (by_same (agents_in (line_view s last)) (agents_of s) s.home.memory last same ((of_view (line_view s last)).1 (subst IsCoherentView is (so.0 t))))),
      λ c. so.1 (subst IsCoherentView (sym is) ((of_view (line_view s last)).0 (by_same (agents_of s) (agents_in (line_view s last)) s.home.memory last (swapped (agents_in (line_view s last)) (agents_of s) same) ((of_line s last).1 (whole.1 c))))),
    )
