-- Tables of what is told, tried at each of a few values.
use Rattle.std.proofs.Common.{◌≡◌, ◌⊎◌, inl, inr, refl}
use Rattle.std.specs.Prelude.{Bool, true, false, ◌&&◌, ◌||◌, not, if◌then◌else◌}
use Rattle.chi_flit.specs.declared.state.State.{State}
use Rattle.chi_flit.specs.declared.state.State.TheVariants as states
use Rattle.chi_flit.specs.declared.kind.Kind.{Kind}
use Rattle.chi_flit.specs.declared.kind.Kind.TheVariants as kinds
use Rattle.chi_flit.specs.State.{is_valid, is_unique as is_unique_state}
use Rattle.chi_flit.specs.Kind.{is_needed}
use Rattle.chi_observer.specs.declared.told.Told.{Told}
use Rattle.chi_observer.specs.declared.told.Told.TheVariants.{I, SC, SCOrI, UC, UCOrI, UCE, UCEOrI, UCOrUCE, UD, SD}
use Rattle.chi_observer.specs.declared.told.Told.TheVariants as tolds
use Rattle.chi_observer.specs.declared.flits.Stores.{Stores}
use Rattle.chi_observer.specs.declared.flits.Stores.TheVariants.{Hidden, Listed}
use Rattle.chi_observer.specs.Copies.{Copy, copy_of, is_clean, is_unique, is_dirty, same}
use Rattle.chi_observer.specs.Copies.Copy.{Invalid, UniqueDirty}
use Rattle.chi_observer.specs.Tables.{may, may_drift, strongest, told_as, told_issued, told_loaded}
use Rattle.chi_conformity.specs.Seen.{kind_seen}
use Rattle.chi_conformity.proofs.Held.{is_within}

pub no : {A : Type 0} → false ≡ true → A
no {A} h = absurd (cc (h))

pub left : (a b : Bool) → (a && b) ≡ true → a ≡ true
left true b h = refl
left false b h = no h

pub right : (a b : Bool) → (a && b) ≡ true → b ≡ true
right true b h = h
right false b h = no h

pub both : (a b : Bool) → a ≡ true → b ≡ true → (a && b) ≡ true
both true b h e = e
both false b h e = no h

-- one of two
pub either : (a b : Bool) → (a || b) ≡ true → (a ≡ true) ⊎ (b ≡ true)
either true b h = inl refl
either false b h = inr h

-- whether b holds where a does
abbrev pub implies : Bool → Bool → Bool
implies a b = if a then b else true

pub follow : (a b : Bool) → implies a b ≡ true → a ≡ true → b ≡ true
follow true b h e = h
follow false b h e = no e

abbrev pub all_forms : (State → Bool) → Bool
all_forms f = f states.I && (f states.SC && (f states.UC && (f states.UD && f states.SD)))

pub each_form : (f : State → Bool) → all_forms f ≡ true → (x : State) → f x ≡ true
each_form f h states.I = left (f states.I) _ h
each_form f h states.SC = left (f states.SC) _ (right (f states.I) _ h)
each_form f h states.UC = left (f states.UC) _ (right (f states.SC) _ (right (f states.I) _ h))
each_form f h states.UD = left (f states.UD) _ (right (f states.UC) _ (right (f states.SC) _ (right (f states.I) _ h)))
each_form f h states.SD = right (f states.UD) _ (right (f states.UC) _ (right (f states.SC) _ (right (f states.I) _ h)))

abbrev pub all_tolds : (Told → Bool) → Bool
all_tolds f = f I && (f SC && (f SCOrI && (f UC && (f UCOrI && (f UCE && (f UCEOrI && (f UCOrUCE && (f UD && (f SD && f tolds.Writing)))))))))

pub each_told : (f : Told → Bool) → all_tolds f ≡ true → (x : Told) → f x ≡ true
each_told f h I = left (f I) _ h
each_told f h SC = left (f SC) _ (right (f I) _ h)
each_told f h SCOrI = left (f SCOrI) _ (right (f SC) _ (right (f I) _ h))
each_told f h UC = left (f UC) _ (right (f SCOrI) _ (right (f SC) _ (right (f I) _ h)))
each_told f h UCOrI = left (f UCOrI) _ (right (f UC) _ (right (f SCOrI) _ (right (f SC) _ (right (f I) _ h))))
each_told f h UCE = left (f UCE) _ (right (f UCOrI) _ (right (f UC) _ (right (f SCOrI) _ (right (f SC) _ (right (f I) _ h)))))
each_told f h UCEOrI = left (f UCEOrI) _ (right (f UCE) _ (right (f UCOrI) _ (right (f UC) _ (right (f SCOrI) _ (right (f SC) _ (right (f I) _ h))))))
each_told f h UCOrUCE = left (f UCOrUCE) _ (right (f UCEOrI) _ (right (f UCE) _ (right (f UCOrI) _ (right (f UC) _ (right (f SCOrI) _ (right (f SC) _ (right (f I) _ h)))))))
each_told f h UD = left (f UD) _ (right (f UCOrUCE) _ (right (f UCEOrI) _ (right (f UCE) _ (right (f UCOrI) _ (right (f UC) _ (right (f SCOrI) _ (right (f SC) _ (right (f I) _ h))))))))
each_told f h SD = left (f SD) _ (right (f UD) _ (right (f UCOrUCE) _ (right (f UCEOrI) _ (right (f UCE) _ (right (f UCOrI) _ (right (f UC) _ (right (f SCOrI) _ (right (f SC) _ (right (f I) _ h)))))))))
each_told f h tolds.Writing = right (f SD) _ (right (f UD) _ (right (f UCOrUCE) _ (right (f UCEOrI) _ (right (f UCE) _ (right (f UCOrI) _ (right (f UC) _ (right (f SCOrI) _ (right (f SC) _ (right (f I) _ h)))))))))

-- of what is told, and a copy's state
abbrev all_beside : (Told → State → Bool) → Bool
all_beside f = all_tolds (λ t. all_forms (f t))

each_beside : (f : Told → State → Bool) → all_beside f ≡ true → (t : Told) (state : State) → f t state ≡ true
each_beside f h t state = each_form (f t) (each_told (λ t. all_forms (f t)) h t) state

-- what stays as it is
same_table : Told → State → Bool
same_table t state = is_within t t state

same_holds : all_beside same_table ≡ true
unfolding same_table
same_holds = refl

pub within_same : (t : Told) (state : State) → is_within t t state ≡ true
unfolding same_table
within_same t state = each_beside same_table same_holds t state

-- a load
loaded_table : Told → State → Bool
loaded_table t state = implies (is_valid state) (is_within t (told_loaded t) state)

loaded_holds : all_beside loaded_table ≡ true
unfolding loaded_table
loaded_holds = refl

pub within_loaded : (t : Told) (state : State) → is_valid state ≡ true → is_within t (told_loaded t) state ≡ true
unfolding loaded_table
within_loaded t state h = follow (is_valid state) _ (each_beside loaded_table loaded_holds t state) h

-- a store
stored_table : Told → State → Bool
stored_table t state = implies (is_unique_state state) (is_within t UD state)

stored_holds : all_beside stored_table ≡ true
unfolding stored_table
stored_holds = refl

pub within_stored : (t : Told) (state : State) → is_unique_state state ≡ true → is_within t UD state ≡ true
unfolding stored_table
within_stored t state h = follow (is_unique_state state) _ (each_beside stored_table stored_holds t state) h

-- where stores are listed a copy may be no more than where they are hidden
or_between : (a b c : Bool) → (a || (false || c)) ≡ true → (a || (b || c)) ≡ true
or_between true b c h = refl
or_between false true c h = refl
or_between false false c h = h

pub drift_more : (z : Stores) (t : Told) (s : Copy) → may_drift z t s ≡ true → may_drift Hidden t s ≡ true
drift_more Hidden t s h = h
drift_more Listed t s h = or_between (may t s) (is_unique (strongest t) && same s UniqueDirty) (is_clean (strongest t) && same s Invalid) h

-- a request
issued_table : Kind → Told → State → Bool
issued_table kind t state = implies (is_needed kind state && may_drift Hidden t (copy_of state)) (is_within t (told_issued (kind_seen kind) t) state)

issued_holds : (kind : Kind) → all_beside (issued_table kind) ≡ true
unfolding issued_table
issued_holds kinds.ReadNotSharedDirty = refl
issued_holds kinds.ReadShared = refl
issued_holds kinds.ReadUnique = refl
issued_holds kinds.CleanUnique = refl
issued_holds kinds.Evict = refl
issued_holds kinds.WriteBackFull = refl
issued_holds kinds.WriteCleanFull = refl
issued_holds kinds.WriteEvictFull = refl

pub within_issued : (z : Stores) (kind : Kind) (t : Told) (state : State) → is_needed kind state ≡ true → may_drift z t (copy_of state) ≡ true
    → is_within t (told_issued (kind_seen kind) t) state ≡ true
unfolding issued_table
within_issued z kind t state needed drift =
    follow (is_needed kind state && may_drift Hidden t (copy_of state)) _ (each_beside (issued_table kind) (issued_holds kind) t state) (both _ _ needed (drift_more z t (copy_of state) drift))

-- what is told of a copy's own state, or of less
less_table : State → Told → State → Bool
less_table left t state = implies (implies (is_valid left) (is_valid state) && implies (is_unique_state left) (is_unique_state state)) (is_within t (told_as left) state)

less_holds : (left : State) → all_beside (less_table left) ≡ true
unfolding less_table
less_holds states.I = refl
less_holds states.SC = refl
less_holds states.UC = refl
less_holds states.UD = refl
less_holds states.SD = refl

pub within_less : (left : State) (t : Told) (state : State) → (implies (is_valid left) (is_valid state) && implies (is_unique_state left) (is_unique_state state)) ≡ true
    → is_within t (told_as left) state ≡ true
unfolding less_table
within_less left t state h = follow _ _ (each_beside (less_table left) (less_holds left) t state) h

-- no dirty copy is told of an agent that has none
clean_table : Told → Bool
clean_table t = implies (may t Invalid) (not (is_dirty (strongest t)))

clean_holds : all_tolds clean_table ≡ true
unfolding clean_table
clean_holds = refl

pub not_dirty : (t : Told) → may t Invalid ≡ true → not (is_dirty (strongest t)) ≡ true
unfolding clean_table
not_dirty t h = follow (may t Invalid) _ (each_told clean_table clean_holds t) h
