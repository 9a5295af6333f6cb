-- What holds of each of a few values is found by trying each; what a set has.
use Rattle.std.proofs.Common.{rules, arith, ◌≡◌, ℕ, suc, zero, ◌<◌, ◌≢◌, refl, sym, ◌∙◌, subst}
use Rattle.std.proofs.lemmas.Bool.{eqb-true}
use Rattle.std.specs.Prelude.{Bool, true, false, ◌&&◌, ◌||◌, ◌==◌, not, if◌then◌else◌}
use Rattle.chi_flit.specs.declared.state.State.{State}
use Rattle.chi_flit.specs.declared.state.State.TheVariants as states
use Rattle.chi_observer.specs.declared.kinds.Snoop.{Snoop}
use Rattle.chi_observer.specs.declared.kinds.Snoop.TheVariants.{SnpOnce, SnpClean, SnpShared, SnpNotSharedDirty, SnpCleanShared, SnpUnique, SnpCleanInvalid, SnpMakeInvalid}
use Rattle.chi_observer.specs.declared.kinds.Kind.{Kind}
use Rattle.chi_observer.specs.declared.flits.Answer.{Answer}
use Rattle.chi_observer.specs.declared.flits.Answer.TheVariants.{SnpRespI, SnpRespSC, SnpRespUC, SnpRespDataI, SnpRespDataSC, SnpRespDataUC, SnpRespDataUD, SnpRespDataSD, SnpRespDataIPD, SnpRespDataSCPD, SnpRespDataUCPD}
use Rattle.chi_observer.specs.Copies.{Copy}
use Rattle.chi_observer.specs.Copies.Copy.{Invalid, SharedClean, UniqueClean, UniqueEmpty, UniqueDirty, SharedDirty, Writing}
use Rattle.chi_copies.specs.Dues.{kind_at, number_of}
use Rattle.chi_copies.specs.Worlds.{all_below}
use Rattle.chi_copies.proofs.Put.{differ}
use Rattle.chi_copies.specs.Copies.{Held, Copies, any_bool, any_copy, any_held, image}

impossible : false ≡ true → ⊥
impossible h = search (rules, arith)

pub no : {A : Type 0} → false ≡ true → A
no {A} h = absurd (impossible h)

pub left : (a b : Bool) → (a && b) ≡ true → a ≡ true
left true b h = refl
left false b h = no h

pub right : (a b : Bool) → (a && b) ≡ true → b ≡ true
right true b h = h
right false b h = no h

pub both : (a b : Bool) → a ≡ true → b ≡ true → (a && b) ≡ true
both true b h e = e
both false b h e = no h

pub or_left : (a b : Bool) → a ≡ true → (a || b) ≡ true
or_left true b h = refl
or_left false b h = no h

pub or_right : (a b : Bool) → b ≡ true → (a || b) ≡ true
or_right true b h = refl
or_right false b h = h

pub either : {P : Type 0} (a b : Bool) → (a || b) ≡ true → (a ≡ true → P) → (b ≡ true → P) → P
either true b h f g = f refl
either false b h f g = g h

pub by_truth : {P : Type 0} (a : Bool) → (a ≡ true → P) → (a ≡ false → P) → P
by_truth true f g = f refl
by_truth false f g = g refl

pub turned : (b : Bool) → not b ≡ true → b ≡ false
turned true h = no h
turned false h = refl

pub flip : (b : Bool) → b ≡ false → not b ≡ true
flip true h = no (sym h)
flip false h = refl

pub by_false : (a : Bool) → (a ≡ true → false ≡ true) → a ≡ false
by_false true f = sym (f refl)
by_false false f = refl

-- whether b holds where a does
abbrev pub implies : Bool → Bool → Bool
implies a b = if a then b else true

pub follow : (a b : Bool) → implies a b ≡ true → a ≡ true → b ≡ true
follow true b h e = h
follow false b h e = no e

abbrev pub all_bools : (Bool → Bool) → Bool
all_bools f = f true && f false

pub each_bool : (f : Bool → Bool) → all_bools f ≡ true → (x : Bool) → f x ≡ true
each_bool f h true = left (f true) _ h
each_bool f h false = right (f true) _ h

abbrev pub all_forms : (State → Bool) → Bool
all_forms f = f states.I && (f states.SC && (f states.UC && (f states.UD && (f states.SD))))

pub each_form : (f : State → Bool) → all_forms f ≡ true → (x : State) → f x ≡ true
each_form f h states.I = left (f states.I) _ h
each_form f h states.SC = left (f states.SC) _ (right (f states.I) _ h)
each_form f h states.UC = left (f states.UC) _ (right (f states.SC) _ (right (f states.I) _ h))
each_form f h states.UD = left (f states.UD) _ (right (f states.UC) _ (right (f states.SC) _ (right (f states.I) _ h)))
each_form f h states.SD = right (f states.UD) _ (right (f states.UC) _ (right (f states.SC) _ (right (f states.I) _ h)))

abbrev pub all_snoops : (Snoop → Bool) → Bool
all_snoops f = f SnpOnce && (f SnpClean && (f SnpShared && (f SnpNotSharedDirty && (f SnpCleanShared && (f SnpUnique && (f SnpCleanInvalid && (f SnpMakeInvalid)))))))

pub each_snoop : (f : Snoop → Bool) → all_snoops f ≡ true → (x : Snoop) → f x ≡ true
each_snoop f h SnpOnce = left (f SnpOnce) _ h
each_snoop f h SnpClean = left (f SnpClean) _ (right (f SnpOnce) _ h)
each_snoop f h SnpShared = left (f SnpShared) _ (right (f SnpClean) _ (right (f SnpOnce) _ h))
each_snoop f h SnpNotSharedDirty = left (f SnpNotSharedDirty) _ (right (f SnpShared) _ (right (f SnpClean) _ (right (f SnpOnce) _ h)))
each_snoop f h SnpCleanShared = left (f SnpCleanShared) _ (right (f SnpNotSharedDirty) _ (right (f SnpShared) _ (right (f SnpClean) _ (right (f SnpOnce) _ h))))
each_snoop f h SnpUnique = left (f SnpUnique) _ (right (f SnpCleanShared) _ (right (f SnpNotSharedDirty) _ (right (f SnpShared) _ (right (f SnpClean) _ (right (f SnpOnce) _ h)))))
each_snoop f h SnpCleanInvalid = left (f SnpCleanInvalid) _ (right (f SnpUnique) _ (right (f SnpCleanShared) _ (right (f SnpNotSharedDirty) _ (right (f SnpShared) _ (right (f SnpClean) _ (right (f SnpOnce) _ h))))))
each_snoop f h SnpMakeInvalid = right (f SnpCleanInvalid) _ (right (f SnpUnique) _ (right (f SnpCleanShared) _ (right (f SnpNotSharedDirty) _ (right (f SnpShared) _ (right (f SnpClean) _ (right (f SnpOnce) _ h))))))

-- what holds of each number below one
below_but : (p k : ℕ) → p < suc k → p ≢ k → p < k
below_but p k l g = omega arith

pub all_out : (k : ℕ) (f : ℕ → Bool) → all_below k f ≡ true → (p : ℕ) → p < k → f p ≡ true
all_out zero f h p l = absurd (omega arith)
all_out (suc k) f h p l = by (p == k) refl (λ g. all_out k f (right (f k) _ h) p g)
  where
    by : (b : Bool) → (p == k) ≡ b → (p < k → f p ≡ true) → f p ≡ true
    by true e g = subst (λ x. f x ≡ true) (sym (eqb-true p k e)) (left (f k) _ h)
    by false e g = g (below_but p k l (differ p k e))

-- the kinds have numbers below 16
pub kind_is : (k : Kind) → (kind_at (number_of k) ≡ k) × (number_of k < 16)
kind_is k = (grind arith, grind arith)

abbrev pub all_kinds : (Kind → Bool) → Bool
all_kinds f = all_below 16 (λ k. f (kind_at k))

pub each_kind : (f : Kind → Bool) → all_kinds f ≡ true → (x : Kind) → f x ≡ true
each_kind f h x = subst (λ k. f k ≡ true) (kind_is x).0 (all_out 16 (λ k. f (kind_at k)) h (number_of x) (kind_is x).1)

abbrev pub all_copies : (Copy → Bool) → Bool
all_copies f = f Invalid && (f SharedClean && (f UniqueClean && (f UniqueEmpty && (f UniqueDirty && (f SharedDirty && (f Writing))))))

pub each_copy : (f : Copy → Bool) → all_copies f ≡ true → (x : Copy) → f x ≡ true
each_copy f h Invalid = left (f Invalid) _ h
each_copy f h SharedClean = left (f SharedClean) _ (right (f Invalid) _ h)
each_copy f h UniqueClean = left (f UniqueClean) _ (right (f SharedClean) _ (right (f Invalid) _ h))
each_copy f h UniqueEmpty = left (f UniqueEmpty) _ (right (f UniqueClean) _ (right (f SharedClean) _ (right (f Invalid) _ h)))
each_copy f h UniqueDirty = left (f UniqueDirty) _ (right (f UniqueEmpty) _ (right (f UniqueClean) _ (right (f SharedClean) _ (right (f Invalid) _ h))))
each_copy f h SharedDirty = left (f SharedDirty) _ (right (f UniqueDirty) _ (right (f UniqueEmpty) _ (right (f UniqueClean) _ (right (f SharedClean) _ (right (f Invalid) _ h)))))
each_copy f h Writing = right (f SharedDirty) _ (right (f UniqueDirty) _ (right (f UniqueEmpty) _ (right (f UniqueClean) _ (right (f SharedClean) _ (right (f Invalid) _ h)))))

abbrev pub all_answers : (Answer → Bool) → Bool
all_answers f = f SnpRespI && (f SnpRespSC && (f SnpRespUC && (f SnpRespDataI && (f SnpRespDataSC && (f SnpRespDataUC && (f SnpRespDataUD && (f SnpRespDataSD && (f SnpRespDataIPD && (f SnpRespDataSCPD && (f SnpRespDataUCPD))))))))))

pub each_answer : (f : Answer → Bool) → all_answers f ≡ true → (x : Answer) → f x ≡ true
each_answer f h SnpRespI = left (f SnpRespI) _ h
each_answer f h SnpRespSC = left (f SnpRespSC) _ (right (f SnpRespI) _ h)
each_answer f h SnpRespUC = left (f SnpRespUC) _ (right (f SnpRespSC) _ (right (f SnpRespI) _ h))
each_answer f h SnpRespDataI = left (f SnpRespDataI) _ (right (f SnpRespUC) _ (right (f SnpRespSC) _ (right (f SnpRespI) _ h)))
each_answer f h SnpRespDataSC = left (f SnpRespDataSC) _ (right (f SnpRespDataI) _ (right (f SnpRespUC) _ (right (f SnpRespSC) _ (right (f SnpRespI) _ h))))
each_answer f h SnpRespDataUC = left (f SnpRespDataUC) _ (right (f SnpRespDataSC) _ (right (f SnpRespDataI) _ (right (f SnpRespUC) _ (right (f SnpRespSC) _ (right (f SnpRespI) _ h)))))
each_answer f h SnpRespDataUD = left (f SnpRespDataUD) _ (right (f SnpRespDataUC) _ (right (f SnpRespDataSC) _ (right (f SnpRespDataI) _ (right (f SnpRespUC) _ (right (f SnpRespSC) _ (right (f SnpRespI) _ h))))))
each_answer f h SnpRespDataSD = left (f SnpRespDataSD) _ (right (f SnpRespDataUD) _ (right (f SnpRespDataUC) _ (right (f SnpRespDataSC) _ (right (f SnpRespDataI) _ (right (f SnpRespUC) _ (right (f SnpRespSC) _ (right (f SnpRespI) _ h)))))))
each_answer f h SnpRespDataIPD = left (f SnpRespDataIPD) _ (right (f SnpRespDataSD) _ (right (f SnpRespDataUD) _ (right (f SnpRespDataUC) _ (right (f SnpRespDataSC) _ (right (f SnpRespDataI) _ (right (f SnpRespUC) _ (right (f SnpRespSC) _ (right (f SnpRespI) _ h))))))))
each_answer f h SnpRespDataSCPD = left (f SnpRespDataSCPD) _ (right (f SnpRespDataIPD) _ (right (f SnpRespDataSD) _ (right (f SnpRespDataUD) _ (right (f SnpRespDataUC) _ (right (f SnpRespDataSC) _ (right (f SnpRespDataI) _ (right (f SnpRespUC) _ (right (f SnpRespSC) _ (right (f SnpRespI) _ h)))))))))
each_answer f h SnpRespDataUCPD = right (f SnpRespDataSCPD) _ (right (f SnpRespDataIPD) _ (right (f SnpRespDataSD) _ (right (f SnpRespDataUD) _ (right (f SnpRespDataUC) _ (right (f SnpRespDataSC) _ (right (f SnpRespDataI) _ (right (f SnpRespUC) _ (right (f SnpRespSC) _ (right (f SnpRespI) _ h)))))))))

abbrev pub all_helds : (Held → Bool) → Bool
all_helds f = all_copies (λ s. all_bools (λ c. all_bools (λ b. f (record { copy = s; cancelled = c; stored = b }))))

pub each_held : (f : Held → Bool) → all_helds f ≡ true → (x : Held) → f x ≡ true
each_held f h x = each_bool (λ b. f (record { copy = x.copy; cancelled = x.cancelled; stored = b })) (each_bool (λ c. all_bools (λ b. f (record { copy = x.copy; cancelled = c; stored = b })))
    (each_copy (λ s. all_bools (λ c. all_bools (λ b. f (record { copy = s; cancelled = c; stored = b })))) h x.copy) x.cancelled) x.stored

-- WHAT A SET HAS
pub in_bool : (f : Bool → Bool) (b : Bool) → f b ≡ true → any_bool f ≡ true
in_bool f true h = or_left (f true) _ h
in_bool f false h = or_right (f true) _ h

pub out_bool : (f : Bool → Bool) → any_bool f ≡ true → (b : Bool) × (f b ≡ true)
out_bool f h = either (f true) (f false) h (λ e. (true, e)) (λ e. (false, e))

pub in_copy : (f : Copy → Bool) (s : Copy) → f s ≡ true → any_copy f ≡ true
in_copy f Invalid h = or_left (f Invalid) _ h
in_copy f SharedClean h = or_right (f Invalid) _ (or_left (f SharedClean) _ h)
in_copy f UniqueClean h = or_right (f Invalid) _ (or_right (f SharedClean) _ (or_left (f UniqueClean) _ h))
in_copy f UniqueEmpty h = or_right (f Invalid) _ (or_right (f SharedClean) _ (or_right (f UniqueClean) _ (or_left (f UniqueEmpty) _ h)))
in_copy f UniqueDirty h = or_right (f Invalid) _ (or_right (f SharedClean) _ (or_right (f UniqueClean) _ (or_right (f UniqueEmpty) _ (or_left (f UniqueDirty) _ h))))
in_copy f SharedDirty h = or_right (f Invalid) _ (or_right (f SharedClean) _ (or_right (f UniqueClean) _ (or_right (f UniqueEmpty) _ (or_right (f UniqueDirty) _ (or_left (f SharedDirty) _ h)))))
in_copy f Writing h = or_right (f Invalid) _ (or_right (f SharedClean) _ (or_right (f UniqueClean) _ (or_right (f UniqueEmpty) _ (or_right (f UniqueDirty) _ (or_right (f SharedDirty) _ h)))))

pub out_copy : (f : Copy → Bool) → any_copy f ≡ true → (s : Copy) × (f s ≡ true)
out_copy f h = either (f Invalid) _ h (λ e. (Invalid, e)) (λ h. either (f SharedClean) _ h (λ e. (SharedClean, e)) (λ h. either (f UniqueClean) _ h (λ e. (UniqueClean, e)) (λ h. either (f UniqueEmpty) _ h (λ e. (UniqueEmpty, e)) (λ h. either (f UniqueDirty) _ h (λ e. (UniqueDirty, e)) (λ h. either (f SharedDirty) (f Writing) h (λ e. (SharedDirty, e)) (λ e. (Writing, e)))))))

pub in_held : (f : Copies) (h : Held) → f h ≡ true → any_held f ≡ true
in_held f h e = in_copy (λ s. any_bool (λ c. any_bool (λ b. f (record { copy = s; cancelled = c; stored = b })))) h.copy
    (in_bool (λ c. any_bool (λ b. f (record { copy = h.copy; cancelled = c; stored = b }))) h.cancelled (in_bool (λ b. f (record { copy = h.copy; cancelled = h.cancelled; stored = b })) h.stored e))

pub out_held : (f : Copies) → any_held f ≡ true → (h : Held) × (f h ≡ true)
out_held f e =
    let s = out_copy (λ s. any_bool (λ c. any_bool (λ b. f (record { copy = s; cancelled = c; stored = b })))) e in
    let c = out_bool (λ c. any_bool (λ b. f (record { copy = s.0; cancelled = c; stored = b }))) s.1 in
    let b = out_bool (λ b. f (record { copy = s.0; cancelled = c.0; stored = b })) c.1 in
    (record { copy = s.0; cancelled = c.0; stored = b.0 }, b.1)

pub none_held : (f : Copies) → any_held f ≡ false → (h : Held) → f h ≡ false
none_held f e h = by_false (f h) (λ g. sym e ∙ in_held f h g)

-- an image has what its copies lead to
pub in_image : (R : Held → Copies) (S : Copies) (h k : Held) → S h ≡ true → R h k ≡ true → image R S k ≡ true
in_image R S h k e g = in_held (λ h. S h && R h k) h (both (S h) (R h k) e g)

-- and each of its copies comes from one
pub record From (R : Held → Copies) (S : Copies) (k : Held) : Type 0 where
  pub held : Held
  pub has : S held ≡ true
  pub leads : R held k ≡ true

pub out_image : (R : Held → Copies) (S : Copies) (k : Held) → image R S k ≡ true → From R S k
out_image R S k e = let x = out_held (λ h. S h && R h k) e in
    record { held = x.0; has = left (S x.0) (R x.0 k) x.1; leads = right (S x.0) (R x.0 k) x.1 }
