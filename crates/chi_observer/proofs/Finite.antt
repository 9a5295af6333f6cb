-- What holds of each of a few values is found by trying each.
use Rattle.std.proofs.Common.{rules, arith, ◌≡◌, refl}
use Rattle.std.specs.Prelude.{Bool, true, false, ◌&&◌, ⊤, if◌then◌else◌}
use Rattle.chi_flit.specs.declared.state.State.{State}
use Rattle.chi_flit.specs.declared.state.State.TheVariants as states
use Rattle.chi_observer.specs.declared.kinds.Snoop.{Snoop}
use Rattle.chi_observer.specs.declared.kinds.Snoop.TheVariants.{SnpOnce, SnpClean, SnpShared, SnpNotSharedDirty, SnpCleanShared, SnpUnique, SnpCleanInvalid, SnpMakeInvalid}
use Rattle.chi_observer.specs.declared.kinds.Kind.{Kind}
use Rattle.chi_observer.specs.declared.kinds.Kind.TheVariants.{ReadNotSharedDirty, ReadShared, ReadClean, ReadOnce, ReadUnique, CleanUnique, MakeUnique, CleanShared, CleanInvalid, MakeInvalid, Evict, WriteBackFull, WriteCleanFull, WriteEvictFull, WriteUniqueFull}
use Rattle.chi_observer.specs.declared.told.Told.{Told}
use Rattle.chi_observer.specs.declared.told.Told.TheVariants.{I, SC, SCOrI, UC, UCOrI, UCE, UCEOrI, UCOrUCE, UD, SD}
use Rattle.chi_observer.specs.declared.told.Told.TheVariants as tolds
use Rattle.chi_observer.specs.declared.flits.Due.{Due}
use Rattle.chi_observer.specs.declared.flits.Due.TheVariants.{Nothing, Completion, Resending, SureCompletion, WriteData, Acknowledgement}
use Rattle.chi_observer.specs.declared.flits.Answer.{Answer}
use Rattle.chi_observer.specs.declared.flits.Answer.TheVariants.{SnpRespI, SnpRespSC, SnpRespUC, SnpRespDataI, SnpRespDataSC, SnpRespDataUC, SnpRespDataUD, SnpRespDataSD, SnpRespDataIPD, SnpRespDataSCPD, SnpRespDataUCPD}
use Rattle.chi_observer.specs.declared.flits.Grant.{Grant}
use Rattle.chi_observer.specs.declared.flits.Grant.TheVariants.{RetryAck, Snp, CompData, CompUC, CompSC, CompI, CompDBIDResp}
use Rattle.chi_observer.specs.Copies.{Copy, Held}
use Rattle.chi_observer.specs.Copies.Copy.{Invalid, SharedClean, UniqueClean, UniqueEmpty, UniqueDirty, SharedDirty, Writing}
use Rattle.chi_observer.specs.Tables.{Known}

impossible : false ≡ true → ⊥
impossible h = search (rules, arith)

pub no : {A : Type 0} → false ≡ true → A
no {A} h = absurd (impossible h)

pub left : (a b : Bool) → (a && b) ≡ true → a ≡ true
left true b h = refl
left false b h = no h

pub right : (a b : Bool) → (a && b) ≡ true → b ≡ true
right true b h = h
right false b h = no h

pub both : (a b : Bool) → a ≡ true → b ≡ true → (a && b) ≡ true
both true b h e = e
both false b h e = no h

-- whether b holds where a does
abbrev pub implies : Bool → Bool → Bool
implies a b = if a then b else true

pub follow : (a b : Bool) → implies a b ≡ true → a ≡ true → b ≡ true
follow true b h e = h
follow false b h e = no e

-- what is tried only where a holds
abbrev pub where_it : Bool → (⊤ → Bool) → Bool
where_it true f = f tt
where_it false f = true

pub tried : (a : Bool) (f : ⊤ → Bool) → where_it a f ≡ true → a ≡ true → f tt ≡ true
tried true f h e = h
tried false f h e = no e

abbrev pub all_forms : (State → Bool) → Bool
all_forms f = f states.I && (f states.SC && (f states.UC && (f states.UD && f states.SD)))

pub each_form : (f : State → Bool) → all_forms f ≡ true → (x : State) → f x ≡ true
each_form f h states.I = left (f states.I) _ h
each_form f h states.SC = left (f states.SC) _ (right (f states.I) _ h)
each_form f h states.UC = left (f states.UC) _ (right (f states.SC) _ (right (f states.I) _ h))
each_form f h states.UD = left (f states.UD) _ (right (f states.UC) _ (right (f states.SC) _ (right (f states.I) _ h)))
each_form f h states.SD = right (f states.UD) _ (right (f states.UC) _ (right (f states.SC) _ (right (f states.I) _ h)))

abbrev pub all_snoops : (Snoop → Bool) → Bool
all_snoops f = f SnpOnce && (f SnpClean && (f SnpShared && (f SnpNotSharedDirty && (f SnpCleanShared && (f SnpUnique && (f SnpCleanInvalid && f SnpMakeInvalid))))))

pub each_snoop : (f : Snoop → Bool) → all_snoops f ≡ true → (x : Snoop) → f x ≡ true
each_snoop f h SnpOnce = left (f SnpOnce) _ h
each_snoop f h SnpClean = left (f SnpClean) _ (right (f SnpOnce) _ h)
each_snoop f h SnpShared = left (f SnpShared) _ (right (f SnpClean) _ (right (f SnpOnce) _ h))
each_snoop f h SnpNotSharedDirty = left (f SnpNotSharedDirty) _ (right (f SnpShared) _ (right (f SnpClean) _ (right (f SnpOnce) _ h)))
each_snoop f h SnpCleanShared = left (f SnpCleanShared) _ (right (f SnpNotSharedDirty) _ (right (f SnpShared) _ (right (f SnpClean) _ (right (f SnpOnce) _ h))))
each_snoop f h SnpUnique = left (f SnpUnique) _ (right (f SnpCleanShared) _ (right (f SnpNotSharedDirty) _ (right (f SnpShared) _ (right (f SnpClean) _ (right (f SnpOnce) _ h)))))
each_snoop f h SnpCleanInvalid = left (f SnpCleanInvalid) _ (right (f SnpUnique) _ (right (f SnpCleanShared) _ (right (f SnpNotSharedDirty) _ (right (f SnpShared) _ (right (f SnpClean) _ (right (f SnpOnce) _ h))))))
each_snoop f h SnpMakeInvalid = right (f SnpCleanInvalid) _ (right (f SnpUnique) _ (right (f SnpCleanShared) _ (right (f SnpNotSharedDirty) _ (right (f SnpShared) _ (right (f SnpClean) _ (right (f SnpOnce) _ h))))))

abbrev pub all_kinds : (Kind → Bool) → Bool
all_kinds f = f ReadNotSharedDirty && (f ReadShared && (f ReadClean && (f ReadOnce && (f ReadUnique && (f CleanUnique && (f MakeUnique && (f CleanShared && (f CleanInvalid && (f MakeInvalid && (f Evict && (f WriteBackFull && (f WriteCleanFull && (f WriteEvictFull && f WriteUniqueFull)))))))))))))

pub each_kind : (f : Kind → Bool) → all_kinds f ≡ true → (x : Kind) → f x ≡ true
each_kind f h ReadNotSharedDirty = left (f ReadNotSharedDirty) _ h
each_kind f h ReadShared = left (f ReadShared) _ (right (f ReadNotSharedDirty) _ h)
each_kind f h ReadClean = left (f ReadClean) _ (right (f ReadShared) _ (right (f ReadNotSharedDirty) _ h))
each_kind f h ReadOnce = left (f ReadOnce) _ (right (f ReadClean) _ (right (f ReadShared) _ (right (f ReadNotSharedDirty) _ h)))
each_kind f h ReadUnique = left (f ReadUnique) _ (right (f ReadOnce) _ (right (f ReadClean) _ (right (f ReadShared) _ (right (f ReadNotSharedDirty) _ h))))
each_kind f h CleanUnique = left (f CleanUnique) _ (right (f ReadUnique) _ (right (f ReadOnce) _ (right (f ReadClean) _ (right (f ReadShared) _ (right (f ReadNotSharedDirty) _ h)))))
each_kind f h MakeUnique = left (f MakeUnique) _ (right (f CleanUnique) _ (right (f ReadUnique) _ (right (f ReadOnce) _ (right (f ReadClean) _ (right (f ReadShared) _ (right (f ReadNotSharedDirty) _ h))))))
each_kind f h CleanShared = left (f CleanShared) _ (right (f MakeUnique) _ (right (f CleanUnique) _ (right (f ReadUnique) _ (right (f ReadOnce) _ (right (f ReadClean) _ (right (f ReadShared) _ (right (f ReadNotSharedDirty) _ h)))))))
each_kind f h CleanInvalid = left (f CleanInvalid) _ (right (f CleanShared) _ (right (f MakeUnique) _ (right (f CleanUnique) _ (right (f ReadUnique) _ (right (f ReadOnce) _ (right (f ReadClean) _ (right (f ReadShared) _ (right (f ReadNotSharedDirty) _ h))))))))
each_kind f h MakeInvalid = left (f MakeInvalid) _ (right (f CleanInvalid) _ (right (f CleanShared) _ (right (f MakeUnique) _ (right (f CleanUnique) _ (right (f ReadUnique) _ (right (f ReadOnce) _ (right (f ReadClean) _ (right (f ReadShared) _ (right (f ReadNotSharedDirty) _ h)))))))))
each_kind f h Evict = left (f Evict) _ (right (f MakeInvalid) _ (right (f CleanInvalid) _ (right (f CleanShared) _ (right (f MakeUnique) _ (right (f CleanUnique) _ (right (f ReadUnique) _ (right (f ReadOnce) _ (right (f ReadClean) _ (right (f ReadShared) _ (right (f ReadNotSharedDirty) _ h))))))))))
each_kind f h WriteBackFull = left (f WriteBackFull) _ (right (f Evict) _ (right (f MakeInvalid) _ (right (f CleanInvalid) _ (right (f CleanShared) _ (right (f MakeUnique) _ (right (f CleanUnique) _ (right (f ReadUnique) _ (right (f ReadOnce) _ (right (f ReadClean) _ (right (f ReadShared) _ (right (f ReadNotSharedDirty) _ h)))))))))))
each_kind f h WriteCleanFull = left (f WriteCleanFull) _ (right (f WriteBackFull) _ (right (f Evict) _ (right (f MakeInvalid) _ (right (f CleanInvalid) _ (right (f CleanShared) _ (right (f MakeUnique) _ (right (f CleanUnique) _ (right (f ReadUnique) _ (right (f ReadOnce) _ (right (f ReadClean) _ (right (f ReadShared) _ (right (f ReadNotSharedDirty) _ h))))))))))))
each_kind f h WriteEvictFull = left (f WriteEvictFull) _ (right (f WriteCleanFull) _ (right (f WriteBackFull) _ (right (f Evict) _ (right (f MakeInvalid) _ (right (f CleanInvalid) _ (right (f CleanShared) _ (right (f MakeUnique) _ (right (f CleanUnique) _ (right (f ReadUnique) _ (right (f ReadOnce) _ (right (f ReadClean) _ (right (f ReadShared) _ (right (f ReadNotSharedDirty) _ h)))))))))))))
each_kind f h WriteUniqueFull = right (f WriteEvictFull) _ (right (f WriteCleanFull) _ (right (f WriteBackFull) _ (right (f Evict) _ (right (f MakeInvalid) _ (right (f CleanInvalid) _ (right (f CleanShared) _ (right (f MakeUnique) _ (right (f CleanUnique) _ (right (f ReadUnique) _ (right (f ReadOnce) _ (right (f ReadClean) _ (right (f ReadShared) _ (right (f ReadNotSharedDirty) _ h)))))))))))))

abbrev pub all_tolds : (Told → Bool) → Bool
all_tolds f = f I && (f SC && (f SCOrI && (f UC && (f UCOrI && (f UCE && (f UCEOrI && (f UCOrUCE && (f UD && (f SD && f tolds.Writing)))))))))

pub each_told : (f : Told → Bool) → all_tolds f ≡ true → (x : Told) → f x ≡ true
each_told f h I = left (f I) _ h
each_told f h SC = left (f SC) _ (right (f I) _ h)
each_told f h SCOrI = left (f SCOrI) _ (right (f SC) _ (right (f I) _ h))
each_told f h UC = left (f UC) _ (right (f SCOrI) _ (right (f SC) _ (right (f I) _ h)))
each_told f h UCOrI = left (f UCOrI) _ (right (f UC) _ (right (f SCOrI) _ (right (f SC) _ (right (f I) _ h))))
each_told f h UCE = left (f UCE) _ (right (f UCOrI) _ (right (f UC) _ (right (f SCOrI) _ (right (f SC) _ (right (f I) _ h)))))
each_told f h UCEOrI = left (f UCEOrI) _ (right (f UCE) _ (right (f UCOrI) _ (right (f UC) _ (right (f SCOrI) _ (right (f SC) _ (right (f I) _ h))))))
each_told f h UCOrUCE = left (f UCOrUCE) _ (right (f UCEOrI) _ (right (f UCE) _ (right (f UCOrI) _ (right (f UC) _ (right (f SCOrI) _ (right (f SC) _ (right (f I) _ h)))))))
each_told f h UD = left (f UD) _ (right (f UCOrUCE) _ (right (f UCEOrI) _ (right (f UCE) _ (right (f UCOrI) _ (right (f UC) _ (right (f SCOrI) _ (right (f SC) _ (right (f I) _ h))))))))
each_told f h SD = left (f SD) _ (right (f UD) _ (right (f UCOrUCE) _ (right (f UCEOrI) _ (right (f UCE) _ (right (f UCOrI) _ (right (f UC) _ (right (f SCOrI) _ (right (f SC) _ (right (f I) _ h)))))))))
each_told f h tolds.Writing = right (f SD) _ (right (f UD) _ (right (f UCOrUCE) _ (right (f UCEOrI) _ (right (f UCE) _ (right (f UCOrI) _ (right (f UC) _ (right (f SCOrI) _ (right (f SC) _ (right (f I) _ h)))))))))

abbrev pub all_copies : (Copy → Bool) → Bool
all_copies f = f Invalid && (f SharedClean && (f UniqueClean && (f UniqueEmpty && (f UniqueDirty && (f SharedDirty && f Writing)))))

pub each_copy : (f : Copy → Bool) → all_copies f ≡ true → (x : Copy) → f x ≡ true
each_copy f h Invalid = left (f Invalid) _ h
each_copy f h SharedClean = left (f SharedClean) _ (right (f Invalid) _ h)
each_copy f h UniqueClean = left (f UniqueClean) _ (right (f SharedClean) _ (right (f Invalid) _ h))
each_copy f h UniqueEmpty = left (f UniqueEmpty) _ (right (f UniqueClean) _ (right (f SharedClean) _ (right (f Invalid) _ h)))
each_copy f h UniqueDirty = left (f UniqueDirty) _ (right (f UniqueEmpty) _ (right (f UniqueClean) _ (right (f SharedClean) _ (right (f Invalid) _ h))))
each_copy f h SharedDirty = left (f SharedDirty) _ (right (f UniqueDirty) _ (right (f UniqueEmpty) _ (right (f UniqueClean) _ (right (f SharedClean) _ (right (f Invalid) _ h)))))
each_copy f h Writing = right (f SharedDirty) _ (right (f UniqueDirty) _ (right (f UniqueEmpty) _ (right (f UniqueClean) _ (right (f SharedClean) _ (right (f Invalid) _ h)))))

abbrev pub all_answers : (Answer → Bool) → Bool
all_answers f = f SnpRespI && (f SnpRespSC && (f SnpRespUC && (f SnpRespDataI && (f SnpRespDataSC && (f SnpRespDataUC && (f SnpRespDataUD && (f SnpRespDataSD && (f SnpRespDataIPD && (f SnpRespDataSCPD && f SnpRespDataUCPD)))))))))

pub each_answer : (f : Answer → Bool) → all_answers f ≡ true → (x : Answer) → f x ≡ true
each_answer f h SnpRespI = left (f SnpRespI) _ h
each_answer f h SnpRespSC = left (f SnpRespSC) _ (right (f SnpRespI) _ h)
each_answer f h SnpRespUC = left (f SnpRespUC) _ (right (f SnpRespSC) _ (right (f SnpRespI) _ h))
each_answer f h SnpRespDataI = left (f SnpRespDataI) _ (right (f SnpRespUC) _ (right (f SnpRespSC) _ (right (f SnpRespI) _ h)))
each_answer f h SnpRespDataSC = left (f SnpRespDataSC) _ (right (f SnpRespDataI) _ (right (f SnpRespUC) _ (right (f SnpRespSC) _ (right (f SnpRespI) _ h))))
each_answer f h SnpRespDataUC = left (f SnpRespDataUC) _ (right (f SnpRespDataSC) _ (right (f SnpRespDataI) _ (right (f SnpRespUC) _ (right (f SnpRespSC) _ (right (f SnpRespI) _ h)))))
each_answer f h SnpRespDataUD = left (f SnpRespDataUD) _ (right (f SnpRespDataUC) _ (right (f SnpRespDataSC) _ (right (f SnpRespDataI) _ (right (f SnpRespUC) _ (right (f SnpRespSC) _ (right (f SnpRespI) _ h))))))
each_answer f h SnpRespDataSD = left (f SnpRespDataSD) _ (right (f SnpRespDataUD) _ (right (f SnpRespDataUC) _ (right (f SnpRespDataSC) _ (right (f SnpRespDataI) _ (right (f SnpRespUC) _ (right (f SnpRespSC) _ (right (f SnpRespI) _ h)))))))
each_answer f h SnpRespDataIPD = left (f SnpRespDataIPD) _ (right (f SnpRespDataSD) _ (right (f SnpRespDataUD) _ (right (f SnpRespDataUC) _ (right (f SnpRespDataSC) _ (right (f SnpRespDataI) _ (right (f SnpRespUC) _ (right (f SnpRespSC) _ (right (f SnpRespI) _ h))))))))
each_answer f h SnpRespDataSCPD = left (f SnpRespDataSCPD) _ (right (f SnpRespDataIPD) _ (right (f SnpRespDataSD) _ (right (f SnpRespDataUD) _ (right (f SnpRespDataUC) _ (right (f SnpRespDataSC) _ (right (f SnpRespDataI) _ (right (f SnpRespUC) _ (right (f SnpRespSC) _ (right (f SnpRespI) _ h)))))))))
each_answer f h SnpRespDataUCPD = right (f SnpRespDataSCPD) _ (right (f SnpRespDataIPD) _ (right (f SnpRespDataSD) _ (right (f SnpRespDataUD) _ (right (f SnpRespDataUC) _ (right (f SnpRespDataSC) _ (right (f SnpRespDataI) _ (right (f SnpRespUC) _ (right (f SnpRespSC) _ (right (f SnpRespI) _ h)))))))))

abbrev pub all_dues : (Due → Bool) → Bool
all_dues f = f Nothing && (all_kinds (λ k. f (Completion k)) && (all_kinds (λ k. f (Resending k)) && (all_kinds (λ k. f (SureCompletion k)) && (all_kinds (λ k. f (WriteData k)) && (f Acknowledgement)))))

pub each_due : (f : Due → Bool) → all_dues f ≡ true → (x : Due) → f x ≡ true
each_due f h Nothing = left (f Nothing) _ h
each_due f h (Completion k) = each_kind (λ k. f (Completion k)) (left (all_kinds (λ k. f (Completion k))) _ (right (f Nothing) _ h)) k
each_due f h (Resending k) = each_kind (λ k. f (Resending k)) (left (all_kinds (λ k. f (Resending k))) _ (right (all_kinds (λ k. f (Completion k))) _ (right (f Nothing) _ h))) k
each_due f h (SureCompletion k) = each_kind (λ k. f (SureCompletion k)) (left (all_kinds (λ k. f (SureCompletion k))) _ (right (all_kinds (λ k. f (Resending k))) _ (right (all_kinds (λ k. f (Completion k))) _ (right (f Nothing) _ h)))) k
each_due f h (WriteData k) = each_kind (λ k. f (WriteData k)) (left (all_kinds (λ k. f (WriteData k))) _ (right (all_kinds (λ k. f (SureCompletion k))) _ (right (all_kinds (λ k. f (Resending k))) _ (right (all_kinds (λ k. f (Completion k))) _ (right (f Nothing) _ h))))) k
each_due f h Acknowledgement = right (all_kinds (λ k. f (WriteData k))) _ (right (all_kinds (λ k. f (SureCompletion k))) _ (right (all_kinds (λ k. f (Resending k))) _ (right (all_kinds (λ k. f (Completion k))) _ (right (f Nothing) _ h))))

abbrev pub all_grants : (Grant → Bool) → Bool
all_grants f = f RetryAck && (all_snoops (λ x. f (Snp x)) && (all_forms (λ s. f (CompData s)) && (f CompUC && (f CompSC && (f CompI && (f CompDBIDResp))))))

pub each_grant : (f : Grant → Bool) → all_grants f ≡ true → (x : Grant) → f x ≡ true
each_grant f h RetryAck = left (f RetryAck) _ h
each_grant f h (Snp x) = each_snoop (λ x. f (Snp x)) (left (all_snoops (λ x. f (Snp x))) _ (right (f RetryAck) _ h)) x
each_grant f h (CompData s) = each_form (λ s. f (CompData s)) (left (all_forms (λ s. f (CompData s))) _ (right (all_snoops (λ x. f (Snp x))) _ (right (f RetryAck) _ h))) s
each_grant f h CompUC = left (f CompUC) _ (right (all_forms (λ s. f (CompData s))) _ (right (all_snoops (λ x. f (Snp x))) _ (right (f RetryAck) _ h)))
each_grant f h CompSC = left (f CompSC) _ (right (f CompUC) _ (right (all_forms (λ s. f (CompData s))) _ (right (all_snoops (λ x. f (Snp x))) _ (right (f RetryAck) _ h))))
each_grant f h CompI = left (f CompI) _ (right (f CompSC) _ (right (f CompUC) _ (right (all_forms (λ s. f (CompData s))) _ (right (all_snoops (λ x. f (Snp x))) _ (right (f RetryAck) _ h)))))
each_grant f h CompDBIDResp = right (f CompI) _ (right (f CompSC) _ (right (f CompUC) _ (right (all_forms (λ s. f (CompData s))) _ (right (all_snoops (λ x. f (Snp x))) _ (right (f RetryAck) _ h)))))

abbrev pub all_bools : (Bool → Bool) → Bool
all_bools f = f true && f false

pub each_bool : (f : Bool → Bool) → all_bools f ≡ true → (x : Bool) → f x ≡ true
each_bool f h true = left (f true) _ h
each_bool f h false = right (f true) _ h

abbrev pub all_helds : (Held → Bool) → Bool
all_helds f = all_bools (λ c. all_copies (λ s. f (record { copy = s; cancelled = c })))

pub each_held : (f : Held → Bool) → all_helds f ≡ true → (x : Held) → f x ≡ true
each_held f h x = each_copy (λ s. f (record { copy = s; cancelled = x.cancelled })) (each_bool (λ c. all_copies (λ s. f (record { copy = s; cancelled = c }))) h x.cancelled) x.copy

abbrev pub all_knowns : (Known → Bool) → Bool
all_knowns f = all_bools (λ c. all_tolds (λ t. f (record { told = t; cancelled = c })))

pub each_known : (f : Known → Bool) → all_knowns f ≡ true → (x : Known) → f x ≡ true
each_known f h x = each_told (λ t. f (record { told = t; cancelled = x.cancelled })) (each_bool (λ c. all_tolds (λ t. f (record { told = t; cancelled = c }))) h x.cancelled) x.told
