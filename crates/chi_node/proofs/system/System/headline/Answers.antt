-- Each slice is coherent, and all ports are those of one state of the tracker.
use Rattle.std.proofs.Common.{◌≡◌, List, All, subst, sym, ap, ◌∙◌}
use Rattle.chi_slice.specs.Coherence.{IsCoherentSlice}
use Rattle.chi_slice.specs.Slice.{SliceState}
use Rattle.chi_tracker.specs.History.{IsAfter}
use Rattle.chi_node.specs.Headline.{Headline}
use Rattle.chi_node.specs.Requester.{RequesterState}
use Rattle.chi_node.specs.System.{SystemState}
use Rattle.chi_node.proofs.Changed.{back_same}
use Rattle.chi_node.proofs.Headlines.{headline}
use Rattle.chi_node.proofs.system.System.headline.Goals as goal

pub returns-clause-same : goal.returns-clause-same
returns-clause-same g c =
    ap (λ (rs : List RequesterState). record { home = record { config = c.self.inside.config; slices = c.self.inside.slices.items }; requesters = rs })
    (back_same c.self.inside.requesters.items c.as_mut_slice-requesters.result.now c.witness_of-witness.new.requesters c.as_mut_slice-requesters.ensures.value c.witness_of-witness.ensures.same)
    ∙ c.self.view_is

pub returns-clause-headline : goal.returns-clause-headline
returns-clause-headline g c =
    let y : SystemState = record { home = record { config = c.self.inside.config; slices = c.self.inside.slices.items }; requesters = c.self.inside.requesters.items } in
    let history = c.witness_of-witness.result.history in let told = c.witness_of-witness.ensures in let here = c.as_mut_slice-requesters.ensures.value in
    let coherent = subst (λ (ss : List SliceState). All IsCoherentSlice ss) c.deref.ensures.value c.are_coherent.ensures in
    let own : All (λ r. r.port.who ≡ r.number) y.requesters = subst (λ (rs : List RequesterState). All (λ r. r.port.who ≡ r.number) rs) here told.own in
    let after : All (λ r. IsAfter history r.port) y.requesters = subst (λ (rs : List RequesterState). All (λ r. IsAfter history r.port) rs) here told.after in
    subst Headline (c.self.view_is ∙ sym (returns-clause-same g c)) (headline y history c.self.invariant.system coherent c.together.ensures own after)

pub returns-clause-always : goal.returns-clause-always
returns-clause-always g c = c.audit_of.ensures.coherent.1 (subst (λ (ss : List SliceState). All IsCoherentSlice ss) (c.deref.ensures.value ∙ sym c.deref-2.ensures.value) c.are_coherent.ensures)
