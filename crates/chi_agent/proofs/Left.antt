-- What is left of agents, as far as their threads were joined.
use Rattle.std.proofs.Common.{◌≡◌, ◌<◌, List, [], ◌∷◌, ◌++◌, map, length, refl, sym, ◌∙◌, ap, subst, arith}
use Rattle.std.proofs.lemmas.List.{append_assoc, map-append}
use Rattle.chi_audit.specs.Boxes.{InboxState, SentState}
use Rattle.std.specs.List.{remove, slice_index_or}
use Rattle.chi_audit.specs.declared.reports.Report.{Report}
use Rattle.chi_agent.specs.Ended.{report_of}
use Rattle.chi_agent.specs.declared.ended.AgentResult.{AgentResult}
use Rattle.chi_agent.specs.Runs.{AllLeave, LeavesRun, Start}

-- what came back is left of those that aren't out any more
pub record LeftSoFar (all out : List Start) (es : List AgentResult) : Type 0 where
  pub back : List Start
  pub parts : back ++ out ≡ all
  pub leave : AllLeave back es

one_leaves : (xs : List Start) (es : List AgentResult) (a : Start) (e : AgentResult) → AllLeave xs es → LeavesRun a e → AllLeave (xs ++ a ∷ []) (es ++ e ∷ [])
one_leaves [] [] a e so_far this = (this, tt)
one_leaves [] (e' ∷ es) a e so_far this = absurd so_far
one_leaves (x ∷ xs) [] a e so_far this = absurd so_far
one_leaves (x ∷ xs) (e' ∷ es) a e so_far this = (so_far.0, one_leaves xs es a e so_far.1 this)

-- none is joined
pub none_left : (all : List Start) → LeftSoFar all all []
none_left all = record { back = []; parts = refl; leave = tt }

-- the first of those that are out is joined
pub one_left : {H : Type 0} (f : H → Start) (all : List Start) (hs hs' : List H) (h : H) (es es' : List AgentResult) (e : AgentResult) → LeftSoFar all (map f hs) es → 0 < length hs → h ≡ slice_index_or hs 0 h → hs' ≡ remove hs 0
    → LeavesRun (f h) e → es' ≡ es ++ e ∷ [] → LeftSoFar all (map f hs') es'
one_left f all [] hs' h es es' e so_far some first cut this push = absurd (omega (arith, some))
one_left f all (x ∷ xs) hs' h es es' e so_far some first cut this push =
    let own : LeavesRun (f x) e = subst (λ (z : _). LeavesRun (f z) e) first this in
    let left : LeftSoFar all (map f xs) (es ++ e ∷ []) = record {
      back = so_far.back ++ f x ∷ [];
      parts = append_assoc so_far.back (f x ∷ []) (map f xs) ∙ so_far.parts;
      leave = one_leaves so_far.back es (f x) e so_far.leave own;
    } in
    subst (λ (z : _). LeftSoFar all (map f z) es') (sym cut) (subst (LeftSoFar all (map f xs)) (sym push) left)

append_none : (xs : List Start) → xs ++ [] ≡ xs
append_none [] = refl
append_none (x ∷ xs) = ap (λ (zs : List Start). x ∷ zs) (append_none xs)

-- all are joined
pub all_left : {H : Type 0} (f : H → Start) (all : List Start) (hs : List H) (es : List AgentResult) → LeftSoFar all (map f hs) es → length hs ≡ 0 → AllLeave all es
all_left f all [] es so_far none = subst (λ (z : List Start). AllLeave z es) (sym (append_none so_far.back) ∙ so_far.parts) so_far.leave
all_left f all (x ∷ xs) es so_far none = absurd (omega (arith, none))

-- the inbox is told of one report more
pub told_so : (i i' : InboxState) (s : SentState) (es es' : List AgentResult) (e : AgentResult) → i.told ≡ map report_of es → i' ≡ record i { told = i.told ++ s.report ∷ [] } → s.report ≡ e.report → es' ≡ es ++ e ∷ [] → i'.told ≡ map report_of es'
told_so i i' s es es' e so_far told is push =
    ap (λ (z : InboxState). z.told) told ∙ (ap (λ (z : List Report). z ++ s.report ∷ []) so_far
    ∙ (ap (λ (z : Report). map report_of es ++ z ∷ []) is ∙ (sym (map-append report_of es (e ∷ [])) ∙ ap (map report_of) (sym push))))
