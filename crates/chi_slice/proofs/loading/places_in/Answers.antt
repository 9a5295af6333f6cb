-- One slot after the other is looked up.
use Rattle.std.proofs.Common.{Option, List, refl, sym, subst, arith}
use Rattle.chi_slice.specs.declared.places.RequestPlace.{RequestPlace}
use Rattle.chi_slice.specs.Loading.{lines_alone}
use Rattle.chi_slice.specs.Slice.{SliceState}
use Rattle.chi_slice.proofs.Loadings.{IndexedBelow, all_indexed, next_indexed, none_indexed, number_of}
use Rattle.chi_slice.proofs.loading.places_in.Goals as goal

pub loop-number-init : goal.loop-number-init
loop-number-init c =
    let s : SliceState = lines_alone c.args.config.now c.args.index c.args.lines.now in
    subst (λ (places : List (Option RequestPlace)). IndexedBelow s places c.are_slots_low-single.result 0) (sym c.new-places.ensures) (none_indexed s c.are_slots_low-single.result c.are_slots_low-single.ensures)

pub loop-number-preserved : goal.loop-number-preserved
loop-number-preserved c =
    next_indexed (lines_alone c.args.config.now c.args.index c.args.lines.now) c.loop-number.places _ c.loop-number.single c.look_up-found.result.single _ c.loop-number.number _ _ c.look_up-found.result.place (number_of c.loop-number.number _ _ c.loop-number-test.true refl refl) c.loop-number.invariant
    c.look_up-found.ensures c.set.ensures refl

pub returns-then-single-clause-index : goal.returns-then-single-clause-index
returns-then-single-clause-index c = all_indexed (lines_alone c.args.config.now c.args.index c.args.lines.now) c.loop-number.places c.loop-number.single c.loop-number.number (omega (arith, c.loop-number-test.false, c.loop-number.auto.number-end)) c.loop-number.invariant c.if-single.true
