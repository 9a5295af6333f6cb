-- One slice after the other is audited.
use Rattle.std.proofs.Common.{◌≡◌, ◌↔◌, ◌<◌, ◌≤◌, ◌∙◌, ap, get_or, length, subst, arith, rules}
use Rattle.std.specs.Prelude.{IsTrue}
use Rattle.chi_slice.specs.Coherence.{IsCoherentSlice}
use Rattle.chi_journal.specs.Journal.{load_count, store_count}
use Rattle.chi_journal.specs.Totals.{most_counted}
use Rattle.chi_slice.specs.Slice.{SliceState}
use Rattle.chi_slice.proofs.Audited.{next_audited}
use Rattle.chi_slice.proofs.audits.audit_of.Goals as goal

pub loop-slice-preserved : goal.loop-slice-preserved
loop-slice-preserved g c =
    let slices = c.args.slices.now in
    let n = c.loop-slice.slice-index in
    let one = c.slice-item.result in
    let low : n < length slices = omega arith in
    let here : one ≡ get_or slices n one = search (rules, c.slice-item.is) in
    let loads : c.loads-loads.result ≡ load_count one.journal = search (rules, c.loads-loads.ensures.is, c.journal-journal.ensures.journal) in
    let stores : c.stores-stores.result ≡ store_count one.journal = search (rules, c.stores-stores.ensures.is, c.journal-journal.ensures.journal) in
    let few_loads : c.loads-loads.result ≤ most_counted = c.loads-loads.ensures.few in
    let few_stores : c.stores-stores.result ≤ most_counted = c.stores-stores.ensures.few in
    let verdict : IsTrue c.check_slice-coherent.result ↔ IsCoherentSlice one = search (rules, c.check_slice-coherent.ensures.verdict) in
    let next = next_audited slices n c.loop-slice.loads c.loop-slice.stores c.loads-loads.result c.stores-stores.result c.loop-slice.coherent c.check_slice-coherent.result one c.loop-slice.invariant low
    (loads ∙ ap (λ (s : SliceState). load_count s.journal) here) few_loads
    (stores ∙ ap (λ (s : SliceState). store_count s.journal) here) few_stores
    (subst (λ (s : SliceState). IsTrue c.check_slice-coherent.result ↔ IsCoherentSlice s) here verdict) in
    search (rules, next)
