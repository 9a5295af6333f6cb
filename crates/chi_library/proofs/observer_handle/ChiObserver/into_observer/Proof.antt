-- `into_observer` reads the pointer: at null nothing is held, and elsewhere the observer goes with it.
use Rattle.std.proofs.Common.{◌≡◌, List, [], ◌∷◌, ◌++◌, refl, sym, ap, ◌∙◌, subst, lit<}
use mir.Val.{Val, vptr, vcons, vnil}
use base.Logic.{SProp, ent, emp, id⊢}
use base.Fml.{ftrue}
use prog.Wp.{WpFn}
use types.Kit.{‵, raw, ◌⊛◌, at_ret, ◌$◌, ◌∵◌, !, qed, by, keep, drop, split, fsplit, fjoin, suffices, use0, use1}
use types.Run.{stop, fld, lit, of_opd, bin, no_more, and_then, first, branches, exec, returns, enter}
use types.ByLocal.{alloc_all, pass_all, free_all, look_at, get, get_in, sets, sets_last, env}
use types.Part.{agg, sub, whole}
use types.Match.{live}
use contract.Monad.{fact, fact_i}
use contract.Running.{tables}
use denote.Exit.{yes}
use denote.RattleType.{RattleType, owns}
use denote.RawPtr.{Ptr, block_ptr, null_ptr, ptr_val, tests_null}
use denote.Param.{layout}
use denote.Signature.{types_at, type_at, plain}
use denote.Steps.{nothing}
use denote.Triple.Walked.{Stays, stay_dropped, walk_of, Goes-dropped}
use Rattle.core.proofs.alloc.Shapes.{after}
use Rattle.core.proofs.atomic.Steps.{Ptr-Good}
use Rattle.core.proofs.cell.Inside.{Good}
use Rattle.core.proofs.option.Made.{Some-of, none_of}
use Rattle.std.proofs.alloc.Global.TheLaws as heap_laws
use Rattle.std.proofs.raw_atomic.Walks.{proved_at, leaves}
use Rattle.std.specs.contracts.impls.GlobalAllocator.TheImpl.{ghosts}
use Rattle.std.specs.declared.option.Option.TheVariants.{None, Some}
use Rattle.std_alloc.proofs.ResultValues.{and_tt}
use Rattle.chi_library.specs.ObserverHandle.{observer_row}
use Rattle.chi_library.proofs.Fields.{both, both_good}
use Rattle.chi_library.proofs.Pointers.{Pointer, pointer_in}
use Rattle.chi_library.proofs.ObserverHandles.{Handle, Z, either, handle_out}
use Rattle.chi_library.specs.contracts.observer_handle.ChiObserver.into_observer as f
use Rattle.chi_library.proofs.observer_handle.ChiObserver.into_observer.Statement.{statement}
use Rattle.chi_library.proofs.observer_handle.ChiObserver.into_observer.Code as code

abbrev To : RattleType
To = Pointer observer_row Z heap_laws.the_row_laws ghosts

abbrev stayed : Stays f.ended.signature.params f.ended.kept
stayed = (stay_dropped (plain (λ _. Handle)) yes, tt)

pub into_observer_spec : {M : Type 1} → statement M
into_observer_spec 𝓤 𝓛 𝓜 𝓡 wired =
    let H = 𝓛.H in let 𝓣 = tables 𝓤 H 𝓜 𝓡 𝓡.env in let c = f.clauses 𝓛 𝓜.mem 𝓡.returns in let fn = code.function in
    proved_at 𝓛 f.ended stayed c 𝓜 𝓡 (Goes-dropped 𝓛 0 (plain (λ _. Handle)) yes (λ κs x w. refl), tt)
    f.Key.name fn (code.unfolded 𝓤 H 𝓜 𝓡 wired) (λ z are.
    let κs = z.0.0 in let v = z.0.3.0 in let a = v.alloc in
    let Post : Val → SProp 𝓤 = (walk_of 𝓛 f.ended stayed c).post z in let Run : List Val → SProp 𝓤 = λ ws. WpFn 𝓤 H 𝓣.C 𝓣.Λ fn ws Post in
    let Out : RattleType = type_at f.ended.signature.result κs in
    qed 𝓛 ((‵ ftrue ⊛ ‵ (owns (types_at f.ended.signature.params κs) z.0.3 z.0.4)) ∷ raw (emp 𝓤) ∷ []) ∵ split ! $ drop ! $ fsplit ! $
    handle_out ! v z.0.4.0 (λ h ws fits. either ! a v.at v.value
    (λ is none. let w : Val = both (ptr_val null_ptr) h in let told : z.0.4.0 ≡ w ∷ [] = ws ∙ ap (λ (q : Ptr). both (ptr_val q) h ∷ []) is in
    suffices ! (Run (w ∷ [])) (subst (λ (us : List Val). ent 𝓤 (Run (w ∷ [])) (Run us)) (sym (λ i. told i ++ [])) (id⊢ 𝓤 (Run (w ∷ [])))) $
    enter ! 𝓣.C 𝓣.Λ fn (w ∷ []) Post $ alloc_all ! (λ l. pass_all ! refl ((and_tt _ fits.0, ((Ptr-Good null_ptr).1, (fits.1, tt))), tt) $ let Ev = env fn.locals l in
    sets ! (of_opd ! (get_in ! (fld ! refl (stop !)) (sub ! 0 refl (whole !)))) refl (Ptr-Good null_ptr) $ sets ! (of_opd ! (get_in ! (fld ! refl (stop !)) (sub ! 1 refl (whole !)))) refl fits $
    sets ! (bin ! (get ! refl) (lit ! tt) tt) refl (tt, tt) $ first ! $ branches ! (get ! refl)
    (λ _. sets_last ! (agg ! (and_then ! (lit ! tt) (no_more !))) refl (tt, (record { fits = lit< tt }, tt)) $ exec ! 𝓣.C 𝓣.Λ Ev (after 4 fn.body) (at_ret Ev Post) $
    sets ! (of_opd ! (get ! refl)) refl (tt, (record { fits = lit< tt }, tt)) $
    use0 𝓛 (‵ (Out.own_val None (live 0 vnil ∷ []))) (none_of 𝓛 To) $ use0 𝓛 (raw (fact 𝓤 (v.value ≡ None))) (fact_i 𝓤 (v.value ≡ None) (emp 𝓤) none) $ nothing ! $ nothing ! $ fjoin ! $ nothing ! $
    returns ! (look_at ! 0 refl) $ free_all ! refl $ keep ! (0 ∷ 1 ∷ 3 ∷ 2 ∷ []) $ by ! (leaves 𝓛 f.ended stayed c z (live 0 vnil) None (tt, tt) (tt, tt))) (λ wrong. absurd wrong)))
    (λ b o s is one can. let w : Val = both (vptr b o) h in let told : z.0.4.0 ≡ w ∷ [] = ws ∙ ap (λ (q : Ptr). both (ptr_val q) h ∷ []) is in
    let typed = both_good Z b o h fits in let found : Val = live 1 (vcons w vnil) in let d : To.Denot = record { at = block_ptr b o; alloc = a; value = s } in
    let good : Good (layout Out) found = (and_tt _ typed.0, (record { fits = lit< tt }, (typed.1, tt))) in
    suffices ! (Run (w ∷ [])) (subst (λ (us : List Val). ent 𝓤 (Run (w ∷ [])) (Run us)) (sym (λ i. told i ++ [])) (id⊢ 𝓤 (Run (w ∷ [])))) $
    enter ! 𝓣.C 𝓣.Λ fn (w ∷ []) Post $ alloc_all ! (λ l. pass_all ! refl (typed, tt) $ let Ev = env fn.locals l in
    sets ! (of_opd ! (get_in ! (fld ! refl (stop !)) (sub ! 0 refl (whole !)))) refl (tt, tt) $ sets ! (of_opd ! (get_in ! (fld ! refl (stop !)) (sub ! 1 refl (whole !)))) refl fits $
    sets ! (bin ! (get ! refl) (lit ! tt) (tests_null (block_ptr b o) can)) refl (tt, tt) $ first ! $ branches ! (get ! refl) (λ wrong. absurd wrong) (λ _.
    sets ! (of_opd ! (get ! refl)) refl (tt, tt) $ sets ! (agg ! (and_then ! (get ! refl) (and_then ! (get ! refl) (no_more !)))) refl typed $ sets_last ! (agg ! (and_then ! (lit ! tt) (and_then ! (get ! refl) (no_more !)))) refl good $
    exec ! 𝓣.C 𝓣.Λ Ev (after 4 fn.body) (at_ret Ev Post) $ sets ! (of_opd ! (get ! refl)) refl good $ pointer_in observer_row Z heap_laws.the_row_laws ghosts ! b o h a s $
    use1 𝓛 (‵ (Out.own_val (Some d) (found ∷ []))) (Some-of 𝓛 To d w) $ use0 𝓛 (raw (fact 𝓤 (v.value ≡ Some s))) (fact_i 𝓤 (v.value ≡ Some s) (emp 𝓤) one) $ nothing ! $ nothing ! $ fjoin ! $ nothing ! $
    returns ! (look_at ! 0 refl) $ free_all ! refl $ keep ! (0 ∷ 1 ∷ 3 ∷ 2 ∷ []) $ by ! (leaves 𝓛 f.ended stayed c z found (Some d) (tt, tt) (tt, tt)))))))
