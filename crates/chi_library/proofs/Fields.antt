-- A struct of a pointer and an allocator's handle, by value. Assumes `Logic`.
--     both, both_good     its machine value, which has its type
--     fields_out          what is owned of the fields is what is owned of the handle, and says the machine value
--     fields_in           the other way
use Rattle.std.proofs.Common.{◌≡◌, ℕ, List, [], ◌∷◌, ◌++◌, refl, subst, T}
use mathlib.Core.Bool.{◌&&◌, true}
use seplogic.Ra.Ura.{Ura}
use mir.Syntax.{Lifetime, Sym, impl, tnil, dnil}
use mir.Val.{Val, vptr, vstruct, vcons, vnil, of_list, has_ty, WT}
use types.Logic.{Logic}
use types.Kit.{Item, Goal, Seq, Step, step, ‵, ◌$◌, move, drop, fsplit, fjoin, fpick, fpack, feq_l, feq_i}
use denote.RattleType.{RattleType, Valss}
use denote.Builtin.{RawPtr}
use denote.RawPtr.{Ptr, ptr_val}
use denote.Steps.{nothing}
use denote.Param.{layout}
use denote.Param.Laws.{Laws}
use denote.Struct.Struct.{Shape, Struct, within}
use Rattle.core.specs.declared.alloc.Allocator.{Ghosts}
use Rattle.core.proofs.alloc.Calls.{Al, handle_tells}
use Rattle.core.proofs.cell.Inside.{Good}
use Rattle.std_alloc.proofs.ResultValues.{and_tt}

abbrev pub both : Val → Val → Val
both p h = vstruct (vcons p (vcons h vnil))

pub both_good : (Z : RattleType) (b o : ℕ) (h : Val) → Good (layout Z) h → T (has_ty (layout Z) h && true) × WT (both (vptr b o) h)
both_good Z b o h fits = (and_tt (has_ty (layout Z) h) fits.0, (tt, (fits.1, tt)))

module _ (n : Sym) (ls : List Lifetime) (ts : List RattleType) (Z : RattleType) (L : Laws Z) (g : Ghosts Z.Denot) where
  abbrev pub fields : Shape
  fields = record { name = n; args = ls; types = ts; fields = RawPtr ∷ Z ∷ [] }

  abbrev pub heap : Al
  heap = record { row = Z; laws = L; g = g; d = impl [] tnil dnil; drops = impl [] tnil dnil }

  module _ {M : Type 1} {𝓤 : Ura M} {𝓛 : Logic 𝓤} {K : Type 0} {Γ : List (Item 𝓤)} {G : Goal 𝓤 𝓛.H} where
    pub fields_out : K → (p : Ptr) (a : Z.Denot) (vs : List Val)
        → ((h : Val) → vs ≡ both (ptr_val p) h ∷ [] → Good (layout Z) h → Seq K 𝓛 (‵ (Z.own_val a (h ∷ [])) ∷ Γ) G)
        → Seq K 𝓛 (‵ ((Struct fields).own_val (p, (a, tt)) vs) ∷ Γ) G
    fields_out t p a vs k =
        fpick t (λ vss. fsplit t $ feq_l t (λ whole. fsplit t $ feq_l t (λ word. fsplit t $
        handle_tells heap t a vss.1.0 (λ h is fits. move t (1 ∷ []) $ drop t $ k h
        (subst (λ (ws : List Val). vs ≡ vstruct (of_list (ptr_val p ∷ (ws ++ []))) ∷ []) is
        (subst (λ (ws : List Val). vs ≡ vstruct (of_list (ws ++ (vss.1.0 ++ []))) ∷ []) word whole)) fits))))

    pub fields_in : K → (p : Ptr) (a : Z.Denot) (h : Val)
        → Step K 𝓛 (‵ ((Struct fields).own_val (p, (a, tt)) (both (ptr_val p) h ∷ [])) ∷ Γ) G (‵ (Z.own_val a (h ∷ [])) ∷ Γ) G
    fields_in t p a h = step (λ s. let v : Val = both (ptr_val p) h in
        nothing t $ move t (1 ∷ 0 ∷ []) $ fjoin t $ feq_i t (List Val) (ptr_val p ∷ []) (ptr_val p ∷ []) refl $ fjoin t $
        feq_i t (List Val) (v ∷ []) (v ∷ []) refl $ fjoin t $
        fpack t (Valss (RawPtr ∷ Z ∷ [])) (within fields (p, (a, tt)) (v ∷ [])) (ptr_val p ∷ [], (h ∷ [], tt)) $ s)
