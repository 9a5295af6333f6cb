-- A `ChiObserver` by value. Assumes `Logic`.
--     handle_out     it owns its handle, and what is held at its pointer
--     handle_in      the other way
--     either         at null there is no observer, and elsewhere there is one
use Rattle.std.proofs.Common.{◌≡◌, ℕ, List, [], ◌∷◌, refl}
use seplogic.Ra.Ura.{Ura}
use mir.Raw.{raw as bare}
use mir.Val.{Val}
use base.Fml.{Fml}
use base.Logic.{ent, guard, guard_i, never, fst∗, snd∗, via}
use types.Logic.{Logic, sem}
use types.Kit.{Item, Goal, Seq, Step, step, ‵, given, ◌$◌, move, drop, use1, learn, fsplit, fjoin, fpick}
use contract.Monad.{fact_use}
use denote.RattleType.{RattleType}
use denote.Memory.{lone}
use denote.Param.{layout}
use denote.RawPtr.{Ptr, Testable, block_ptr, null_ptr, ptr_val, in_a_block, lies_at}
use denote.Struct.Owning.{shape}
use base.Fraction.{full_share}
use Rattle.core.proofs.cell.Inside.{Good}
use Rattle.std.proofs.GlobalToken.{dealloc_token-Testable}
use Rattle.std.specs.contracts.alloc.Global as heap
use Rattle.std.proofs.alloc.Global.TheLaws as heap_laws
use Rattle.std.specs.contracts.impls.GlobalAllocator.TheImpl.{ghosts}
use Rattle.std.specs.declared.alloc.Global.{Global}
use Rattle.std.specs.declared.option.Option.{Option}
use Rattle.std.specs.declared.option.Option.TheVariants.{None, Some}
use Rattle.std.specs.Box.Ownership.{box_owns}
use Rattle.chi_observe.specs.declared.benches.BenchWatch.{BenchWatch}
use Rattle.chi_library.specs.ObserverHandle.{observer_ownership, observer_row}
use Rattle.chi_library.proofs.Fields.{both, fields_in, fields_out}
use Rattle.chi_library.specs.contracts.observer_handle.ChiObserver as handle

abbrev pub Z : RattleType
Z = heap.the_row

abbrev pub Handle : RattleType
Handle = handle.the_row

abbrev Boxed : Global → Ptr → (BenchWatch Global) → Fml
Boxed a p s = box_owns (ghosts.dealloc_token a) observer_row p s

module _ {M : Type 1} {𝓤 : Ura M} (𝓛 : Logic 𝓤) (a : Global) (p : Ptr) (s : BenchWatch Global) where
  tested : ent 𝓤 (sem 𝓛 (Boxed a p s)) (guard 𝓤 (Testable p) (sem 𝓛 (Boxed a p s)))
  tested =
      fact_use 𝓤 (Testable p) (via 𝓤 _ (snd∗ 𝓤 (sem 𝓛 (lies_at observer_row full_share p s)) (sem 𝓛 (ghosts.dealloc_token a (bare (lone observer_row.mir)) p)))
      (dealloc_token-Testable 𝓛 a (bare (lone observer_row.mir)) p)) (guard_i 𝓤 (Testable p) (sem 𝓛 (Boxed a p s)))

module _ {M : Type 1} {𝓤 : Ura M} {𝓛 : Logic 𝓤} {K : Type 0} {Γ : List (Item 𝓤)} {G : Goal 𝓤 𝓛.H} where
  pub handle_out : K → (d : Handle.Denot) (vs : List Val)
      → ((h : Val) → vs ≡ both (ptr_val d.at) h ∷ [] → Good (layout Z) h → Seq K 𝓛 (‵ (observer_ownership d.alloc d.at d.value) ∷ ‵ (Z.own_val d.alloc (h ∷ [])) ∷ Γ) G)
      → Seq K 𝓛 (‵ (Handle.own_val d vs) ∷ Γ) G
  handle_out t d vs k = let S = shape handle.the_type in
      fsplit t $ fields_out S.name S.args S.types Z heap_laws.the_row_laws ghosts t d.at d.alloc vs (λ h is fits. move t (1 ∷ []) $ k h is fits)

  pub handle_in : K → (p : Ptr) (h : Val) (a : Z.Denot) (x : Option (BenchWatch Global))
      → Step K 𝓛 (‵ (Handle.own_val (record { at = p; alloc = a; value = x }) (both (ptr_val p) h ∷ [])) ∷ Γ) G
      (‵ (observer_ownership a p x) ∷ ‵ (Z.own_val a (h ∷ [])) ∷ Γ) G
  handle_in t p h a x = step (λ s. let S = shape handle.the_type in
      move t (1 ∷ []) $ fields_in S.name S.args S.types Z heap_laws.the_row_laws ghosts t p a h $ fjoin t $ s)

  pub either : K → (a : Global) (p : Ptr) (x : Option (BenchWatch Global))
      → (p ≡ null_ptr → x ≡ None → Seq K 𝓛 Γ G)
      → ((b o : ℕ) (s : BenchWatch Global) → p ≡ block_ptr b o → x ≡ Some s → Testable (block_ptr b o) → Seq K 𝓛 (‵ (Boxed a (block_ptr b o) s) ∷ Γ) G)
      → Seq K 𝓛 (‵ (observer_ownership a p x) ∷ Γ) G
  either t a null_ptr None none one = drop t $ none refl refl
  either t a (block_ptr b o) None none one = fpick t (λ wrong. absurd wrong)
  either t a p (Some s) none one =
      in_a_block t p (λ q. Boxed a q s) (fst∗ 𝓤 (never 𝓤) (sem 𝓛 (ghosts.dealloc_token a (bare (lone observer_row.mir)) null_ptr))) (λ b o e.
      use1 𝓛 (given (Testable (block_ptr b o)) (‵ (Boxed a (block_ptr b o) s))) (tested 𝓛 a (block_ptr b o) s) $ learn t (λ can. one b o s e refl can))
