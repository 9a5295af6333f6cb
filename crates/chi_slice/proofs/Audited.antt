-- What an audit finds of slices, one slice more at a time.
use Rattle.std.proofs.Common.{◌≡◌, ◌↔◌, ℕ, ◌+◌, ◌*◌, ◌<◌, ◌≤◌, List, Bool, true, ◌&&◌, All, get_or, take, length, refl, sym, ◌∙◌, ap, subst, arith}
use Rattle.std.specs.Prelude.{IsTrue}
use Rattle.std.proofs.lemmas.Bool.{and_from, and_parts}
use Rattle.std.proofs.lemmas.List.{take_all, take_more}
use Rattle.std.proofs.lemmas.List.Elements.{All-nil, All-push}
use Rattle.std.proofs.lemmas.List.Sums.{sum_by_more}
use Rattle.chi_slice.specs.Coherence.{IsCoherentSlice}
use Rattle.chi_journal.specs.Journal.{load_count, store_count}
use Rattle.chi_journal.specs.Totals.{most_counted}
use Rattle.chi_slice.specs.Slice.{SliceState}
use Rattle.chi_slice.proofs.Meets.{all_parts}
use Rattle.chi_slice.specs.Audits.{IsAudited, loads_in, stores_in}

-- of the first n slices, each of whose journals counts so many loads and stores at most
pub record AuditedBelow (slices : List SliceState) (n loads stores : ℕ) (coherent : Bool) : Type 0 where
  pub found : IsAudited (take n slices) loads stores coherent
  pub few_loads : loads ≤ n * most_counted
  pub few_stores : stores ≤ n * most_counted

pub none_audited : (slices : List SliceState) → AuditedBelow slices 0 0 0 true
none_audited slices = record {
  found = record { loads = refl; stores = refl; coherent = (λ t. All-nil IsCoherentSlice, λ all. refl) };
  few_loads = omega arith;
  few_stores = omega arith;
}

pub next_audited : (slices : List SliceState) (n loads stores l s : ℕ) (coherent here : Bool) (d : SliceState) → AuditedBelow slices n loads stores coherent → n < length slices
    → l ≡ load_count (get_or slices n d).journal → l ≤ most_counted → s ≡ store_count (get_or slices n d).journal → s ≤ most_counted → IsTrue here ↔ IsCoherentSlice (get_or slices n d)
    → AuditedBelow slices (n + 1) (loads + l) (stores + s) (coherent && here)
next_audited slices n loads stores l s coherent here d k low l_is l_few s_is s_few verdict =
    let more = take_more slices n d low in
    record {
      found = record {
        loads = ap (λ m. m + l) k.found.loads ∙ (ap (λ m. loads_in (take n slices) + m) l_is ∙ sym (sum_by_more (λ (x : SliceState). load_count x.journal) slices n d low));
        stores = ap (λ m. m + s) k.found.stores ∙ (ap (λ m. stores_in (take n slices) + m) s_is ∙ sym (sum_by_more (λ (x : SliceState). store_count x.journal) slices n d low));
        coherent = (
          λ t. let both = and_parts coherent here t in subst (All IsCoherentSlice) (sym more) (All-push IsCoherentSlice (take n slices) (get_or slices n d) (k.found.coherent.0 both.0) (verdict.0 both.1)),
          λ all. let both = all_parts IsCoherentSlice (take n slices) (get_or slices n d) (subst (All IsCoherentSlice) more all) in and_from coherent here (k.found.coherent.1 both.0) (verdict.1 both.1),
        );
      };
      few_loads = omega (arith, k.few_loads, l_few);
      few_stores = omega (arith, k.few_stores, s_few);
    }

pub all_audited : (slices : List SliceState) (n loads stores : ℕ) (coherent : Bool) → AuditedBelow slices n loads stores coherent → length slices ≤ n → IsAudited slices loads stores coherent
all_audited slices n loads stores coherent k past = subst (λ (xs : List SliceState). IsAudited xs loads stores coherent) (take_all n slices past) k.found
