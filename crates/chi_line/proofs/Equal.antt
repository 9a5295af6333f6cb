-- Two lines are equal, as `==` finds it, exactly where they are the same.
use Rattle.std.proofs.Common.{◌≡◌, ap}
use Rattle.std.specs.Bool.{Decides}
use Rattle.std.specs.Cmp.Lexicographic.{pointwise_decides}
use Rattle.std.proofs.lemmas.Bool.Decides.{Decides-and, Decides-like}
use Rattle.chi_rnline.proofs.Equal.{rn}
use Rattle.chi_homeline.proofs.Equal.{home}
use Rattle.chi_wires.proofs.Equal.{all_cells}
use Rattle.chi_line.specs.LineState.{LineState}
use Rattle.chi_line.specs.contracts.line.CoherentLinePartialEq.TheImpl as lines

-- a line is the same where each part is
together : (a b : LineState) → (a.requesters ≡ b.requesters) × ((a.home ≡ b.home) × (a.flits ≡ b.flits)) → a ≡ b
together a b h = λ i. record { requesters = h.0 i; home = h.1.0 i; flits = h.1.1 i }

apart : (a b : LineState) → a ≡ b → (a.requesters ≡ b.requesters) × ((a.home ≡ b.home) × (a.flits ≡ b.flits))
apart a b e = (ap (λ l. l.requesters) e, (ap (λ l. l.home) e, ap (λ l. l.flits) e))

pub line : (a b : LineState) → Decides (lines.eq-value.it a b) (a ≡ b)
line a b =
    Decides-like (lines.eq-value.it a b) (together a b) (apart a b)
    (Decides-and _ _ (pointwise_decides rn a.requesters b.requesters)
    (Decides-and _ _ (home a.home b.home) (all_cells a.flits b.flits)))
