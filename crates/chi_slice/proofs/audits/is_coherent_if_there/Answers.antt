-- A line of the slice is coherent where its parts are.
use Rattle.std.proofs.Common.{rules, ◌≡◌, ◌↔◌, true, sym}
use Rattle.std.specs.Prelude.{IsTrue}
use Rattle.chi_line.specs.Clean.{CoherentParts}
use Rattle.chi_line.proofs.LineCoherence.{coherent_is}
use Rattle.chi_slice.specs.Slice.{is_line_in_range, last_of, line}
use Rattle.chi_slice.proofs.audits.is_coherent_if_there.Goals as goal

pub returns-in-Some : goal.returns-in-Some
returns-in-Some g c =
    let s = c.args.slice.now in
    let l = c.args.line.0 in
    let inside : is_line_in_range s l ≡ true = sym c.in-Some.ensures.inside in
    let kept = c.in-Some.ensures.kept.lines l inside in
    let whole = coherent_is (last_of s l) (line s l) kept.requesters kept.flits in
    let verdict : IsTrue c.is_line_coherent.result ↔ CoherentParts (last_of s l) (line s l) = search rules in
    (λ t _. whole.0 (verdict.0 t), λ lines. verdict.1 (whole.1 (lines inside)))
