-- One slice after the other says what it keeps.
use Rattle.std.proofs.Common.{◌≡◌, ◌<◌, get_or, length, All, take, arith, subst, sym, rules}
use Rattle.std.proofs.lemmas.List.{take_all, take_more}
use Rattle.std.proofs.lemmas.List.Elements.{All-push}
use Rattle.chi_slice.specs.Coherence.{IsCoherentSlice}
use Rattle.chi_node.proofs.coherence.are_coherent.Goals as goal

pub loop-slice-preserved : goal.loop-slice-preserved
loop-slice-preserved g c =
    let slices = c.args.slices.now in let n = c.loop-slice.slice-index in let one = c.slice-item.result in
    let low : n < length slices = omega arith in
    let here : one ≡ get_or slices n one = search (rules, c.slice-item.is) in
    subst (All IsCoherentSlice) (sym (take_more slices n one low))
    (All-push IsCoherentSlice (take n slices) (get_or slices n one) c.loop-slice.invariant (subst IsCoherentSlice here c.coherence.ensures))

pub returns : goal.returns
returns g c = subst (All IsCoherentSlice) (take_all c.loop-slice.slice-index c.args.slices.now (omega arith)) c.loop-slice.invariant
