-- What was tested is what a slice keeps.
use Rattle.std.proofs.Common.{refl}
use Rattle.chi_slice.specs.Index.{IsSliceIndexed}
use Rattle.chi_slice.proofs.Loadings.{loaded, not_loaded}
use Rattle.chi_slice.proofs.slice.Slice.of_parts.Goals as goal

pub invariant_of-result : goal.invariant_of-result
invariant_of-result g c =
    loaded c.args.config.now c.args.index c.args.lines.items c.deref.result.now c.deref-2.result.now c.args.journal c.in-Some.places c.are_parts_kept.result c.deref.ensures.value c.deref-2.ensures.value
    c.are_parts_kept.ensures c.if-not-are_parts_kept.false c.in-Some.ensures.index

pub returns-in-Some-clause-exactly : goal.returns-in-Some-clause-exactly
returns-in-Some-clause-exactly g c =
    let slice : IsSliceIndexed c.args.config.now c.args.index c.args.lines.items c.args.journal c.in-Some.places =
    loaded c.args.config.now c.args.index c.args.lines.items c.deref.result.now c.deref-2.result.now c.args.journal c.in-Some.places c.are_parts_kept.result c.deref.ensures.value c.deref-2.ensures.value
    c.are_parts_kept.ensures c.if-not-are_parts_kept.false c.in-Some.ensures.index in
    (λ t. record { kept = slice.0; places = c.in-Some.places; indexed = slice.1 }, λ is. refl)

pub returns-in-None-clause-exactly : goal.returns-in-None-clause-exactly
returns-in-None-clause-exactly g c =
    (λ t. absurd (cc (t)), not_loaded c.args.config.now c.args.index c.args.lines.items c.deref-2.result.now c.args.journal c.deref-2.ensures.value c.in-None.ensures.always)
