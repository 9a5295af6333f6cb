-- While a CleanShared or a ReadOnce is open, it is kept that one may be.
use Rattle.std.proofs.Common.{◌≡◌, ℕ, ◌<◌, List, [], ◌∷◌, refl, ap, subst, ◌∙◌}
use Rattle.std.specs.Prelude.{Bool, true, false, ◌&&◌, ◌||◌, not}
use Rattle.chi_observer.specs.declared.flits.Due.{Due}
use Rattle.chi_observer.specs.declared.flits.Stores.{Stores}
use Rattle.chi_observer.specs.declared.flits.Act.{Act}
use Rattle.chi_observer.specs.declared.flits.Act.TheVariants.{Request, Resend, SnpResp, CompAck, CopyBackWrData, NonCopyBackWrData, Load, Store}
use Rattle.chi_observer.specs.declared.flits.Grant.{Grant}
use Rattle.chi_observer.specs.declared.flits.Flit.{Flit}
use Rattle.chi_observer.specs.declared.flits.Flit.TheVariants.{Up, Down}
use Rattle.chi_observer.specs.Rules.{awaits_moment, opens_moment, due_after, due_granted}
use Rattle.chi_observer.specs.Worlds.{all_below, put}
use Rattle.chi_observer.specs.Runs.{seen, waits_by}
use Rattle.chi_observer.proofs.Finite.{no, implies, follow, all_grants, each_grant, all_dues, each_due}
use Rattle.chi_observer.proofs.Facts.{or_here, or_there}
use Rattle.chi_observer.proofs.Put.{here, there, split}
use Rattle.chi_observer.proofs.Copies.{each_below}

not_true : (a : Bool) → (a ≡ true → false ≡ true) → not a ≡ true
not_true true h = h refl
not_true false h = refl

pub some_waits : (f : ℕ → Bool) (n : ℕ) → n < 32 → f n ≡ true → not (all_below 32 (λ m. not (f m))) ≡ true
some_waits f n low h = not_true _ (λ all. subst (λ b. not b ≡ true) h (each_below 32 (λ m. not (f m)) all n low))

pub act_opens : (a : Act) (d : Due) → awaits_moment (due_after a d) ≡ true → (opens_moment a || awaits_moment d) ≡ true
act_opens (Request k) d h = or_here _ _ h
act_opens (Resend k) d h = or_here _ _ h
act_opens (SnpResp a) d h = h
act_opens CompAck d h = no h
act_opens (CopyBackWrData s) d h = no h
act_opens NonCopyBackWrData d h = no h
act_opens (Load word) d h = h
act_opens (Store word) d h = h

grant_table : Grant → Due → Bool
grant_table g d = implies (awaits_moment (due_granted g d)) (awaits_moment d)

grant_holds : all_grants (λ g. all_dues (λ d. grant_table g d)) ≡ true
unfolding grant_table
grant_holds = refl

pub grant_keeps : (g : Grant) (d : Due) → awaits_moment (due_granted g d) ≡ true → awaits_moment d ≡ true
unfolding grant_table
grant_keeps g d = follow _ _ (each_due (grant_table g) (each_grant (λ g. all_dues (λ d. grant_table g d)) grant_holds g) d)

pub joined : (a b c d : Bool) → (a || b) ≡ true → (b ≡ true → c ≡ true) → d ≡ true → (a || (c && d)) ≡ true
joined true b c d h e g = refl
joined false true c d h e g = ap (λ x. x && d) (e refl) ∙ g
joined false false c d h e g = no h

pub wakes : (mode : Stores) (es : List Flit) (n : ℕ) → n < 32 → awaits_moment ((seen mode es).public.due n) ≡ true → waits_by mode es ≡ true
wakes mode [] n low h = no h
wakes mode (Up f ∷ es) n low h =
    let due : ℕ → Due = (seen mode es).public.due in
    let at : ℕ = f.agent.0 in
    let left_due : Due = due_after f.act (due at) in
    joined (opens_moment f.act) (awaits_moment (due n)) (waits_by mode es) _
    (split (λ k. awaits_moment (put at left_due due k) ≡ true → (opens_moment f.act || awaits_moment (due k)) ≡ true) at
    (λ x. act_opens f.act (due at) (subst (λ z. awaits_moment z ≡ true) (here at left_due due) x))
    (λ k apart x. or_there (opens_moment f.act) _ (subst (λ z. awaits_moment z ≡ true) (there at left_due due k apart) x)) n h)
    (wakes mode es n low)
    (some_waits (λ m. awaits_moment (put at left_due due m)) n low h)
wakes mode (Down g ∷ es) n low h =
    let due : ℕ → Due = (seen mode es).public.due in
    let at : ℕ = g.agent.0 in
    let left_due : Due = due_granted g.grant (due at) in
    joined false (awaits_moment (due n)) (waits_by mode es) _
    (split (λ k. awaits_moment (put at left_due due k) ≡ true → awaits_moment (due k) ≡ true) at
    (λ x. grant_keeps g.grant (due at) (subst (λ z. awaits_moment z ≡ true) (here at left_due due) x))
    (λ k apart x. subst (λ z. awaits_moment z ≡ true) (there at left_due due k apart) x) n h)
    (wakes mode es n low)
    (some_waits (λ m. awaits_moment (put at left_due due m)) n low h)
