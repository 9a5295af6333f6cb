-- The tables of the home's flits fit the others.
use Rattle.std.proofs.Common.{◌≡◌, refl, sym, ap, subst}
use Rattle.std.specs.Prelude.{Bool, true, false, ◌&&◌, ◌||◌, not, Option, if◌then◌else◌}
use Rattle.chi_flit.specs.declared.state.State.TheVariants as states
use Rattle.chi_observer.specs.declared.kinds.Snoop.{Snoop}
use Rattle.chi_observer.specs.declared.told.Told.{Told}
use Rattle.chi_observer.specs.declared.told.Told.TheVariants.{I, SCOrI, UC, UCOrI, UCOrUCE, UD, SD}
use Rattle.chi_observer.specs.declared.flits.Due.{Due}
use Rattle.chi_observer.specs.declared.flits.Stores.{Stores}
use Rattle.chi_observer.specs.declared.flits.Stores.TheVariants.{Hidden, Listed}
use Rattle.chi_observer.specs.declared.flits.Grant.{Grant}
use Rattle.chi_observer.specs.declared.flits.Grant.TheVariants.{RetryAck, Snp, CompData, CompUC, CompSC, CompI, CompDBIDResp}
use Rattle.chi_observer.specs.Copies.{Copy, Held, holds_data, is_unique, same, compatible}
use Rattle.chi_observer.specs.Copies.Copy.{Invalid, SharedClean, UniqueClean, UniqueEmpty, UniqueDirty, SharedDirty}
use Rattle.chi_observer.specs.Rules.{is_due, needs_quiet, needs_alone, makes, settles, is_upgraded, is_written_whole, due_granted, upgraded, copy_granted, granted, gives_copy, gives_data, fills, shows}
use Rattle.chi_observer.specs.Tables.{Known, strongest, most, may, reach, fresh, goes_with, told_granted, told_upgraded, fills_told, shows_told}
use Rattle.chi_observer.proofs.Finite.{no, left, right, implies, follow, all_grants, each_grant, all_dues, each_due}
use Rattle.chi_observer.proofs.Spots.{Gifts, held_gifts, each_gift, told_gifts, each_told_gift, all_told_pairs, each_told_pair}
use Rattle.chi_observer.proofs.Facts.{turned, same_truth, same_truth_is, same_is, same_held, of_form, is_settled}

-- forward
abbrev pub given_well : Stores → Grant → Due → Option Snoop → Known → Held → Bool
given_well mode g d q t s = (reach mode (due_granted g d) (told_granted g d t) (granted g d s) && (needs_quiet g || may (told_granted g d t).told (granted g d s).copy))
    && (implies (fresh mode d t s) (fresh mode (due_granted g d) (told_granted g d t) (granted g d s))
    && (same_truth (fills_told g t) (fills g s)
    && (implies ((holds_data (granted g d s).copy && not (fills g s)) && not (makes g d)) (holds_data s.copy)
    && implies (fills g s) (not (fresh mode d t s)))))

given_table : Stores → Grant → Due → Option Snoop → Known → Held → Bool
given_table mode g d q t s = implies (reach mode d t s) (given_well mode g d q t s)

given_holds : (mode : Stores) → Gifts (held_gifts (given_table mode))
unfolding given_table
given_holds Hidden x k = refl
given_holds Listed x k = refl

pub given : (mode : Stores) (g : Grant) (d : Due) (q : Option Snoop) (t : Known) (s : Held) → (is_due g d q && reach mode d t s) ≡ true → given_well mode g d q t s ≡ true
unfolding given_table
given mode g d q t s h = follow _ _ (each_gift (given_table mode) (given_holds mode) g d q (left _ _ h) t s) (right (is_due g d q) _ h)

-- data that fill a copy are the home's own
pub copy_data : (g : Grant) (b : Bool) → (gives_copy g && b) ≡ true → (gives_data g && (not (gives_copy g) || b)) ≡ true
copy_data RetryAck b h = no h
copy_data (Snp x) b h = no h
copy_data (CompData x) b h = also (gives_copy (CompData x)) b h
  where
    also : (a b : Bool) → (a && b) ≡ true → (not a || b) ≡ true
    also true b h = h
    also false b h = no h
copy_data CompUC b h = no h
copy_data CompSC b h = no h
copy_data CompI b h = no h
copy_data CompDBIDResp b h = no h

shows_table : Stores → Grant → Due → Option Snoop → Known → Held → Bool
shows_table mode g d q t s = implies (reach mode d t s) (same_truth (shows_told g t) (shows g s))

shows_holds : (mode : Stores) → Gifts (held_gifts (shows_table mode))
unfolding shows_table
shows_holds Hidden x k = refl
shows_holds Listed x k = refl

pub shown_so : (mode : Stores) (g : Grant) (d : Due) (q : Option Snoop) (t : Known) (s : Held) → is_due g d q ≡ true → reach mode d t s ≡ true → shows_told g t ≡ shows g s
unfolding shows_table
shown_so mode g d q t s h r = same_truth_is _ _ (follow (reach mode d t s) _ (each_gift (shows_table mode) (shows_holds mode) g d q h t s) r)

-- but for a snoop its agent's copy can't have been stored to
calm_table : Stores → Grant → Due → Option Snoop → Known → Held → Bool
calm_table mode g d q t s = needs_quiet g || not (fresh mode d t s)

calm_holds : (mode : Stores) → Gifts (held_gifts (calm_table mode))
unfolding calm_table
calm_holds Hidden x k = refl
calm_holds Listed x k = refl

pub calm_given : (mode : Stores) (g : Grant) (d : Due) (q : Option Snoop) (t : Known) (s : Held) → is_due g d q ≡ true → (needs_quiet g || not (fresh mode d t s)) ≡ true
unfolding calm_table
calm_given mode g d q t s h = each_gift (calm_table mode) (calm_holds mode) g d q h t s

-- and back: the copy before
abbrev pub empty_before : Told → Copy
empty_before I = Invalid
empty_before SCOrI = Invalid
empty_before UCOrI = Invalid
empty_before other = UniqueEmpty

abbrev pub clean_before : Told → Copy
clean_before UC = UniqueClean
clean_before UCOrI = UniqueClean
clean_before UCOrUCE = UniqueClean
clean_before other = SharedClean

abbrev pub dirty_before : Told → Copy
dirty_before SD = SharedDirty
dirty_before other = UniqueDirty

abbrev pub upgraded_from : Told → Copy → Copy
upgraded_from t UniqueEmpty = empty_before t
upgraded_from t UniqueClean = clean_before t
upgraded_from t UniqueDirty = dirty_before t
upgraded_from t s' = s'

abbrev pub form_before : Grant → Due → Told → Copy → Copy
form_before (CompData states.I) d t s' = s'
form_before (CompData form) d t s' = strongest t
form_before CompUC d t s' = if makes CompUC d then strongest t else (if is_upgraded d then upgraded_from t s' else s')
form_before CompDBIDResp d t s' = if is_written_whole d then strongest t else s'
form_before CompI d t s' = if settles CompI d then strongest t else s'
form_before other d t s' = s'

abbrev pub granted_before : Grant → Due → Known → Held → Held
granted_before g d t s' = of_form (form_before g d t.told s'.copy) s'

abbrev pub got_to : Stores → Grant → Due → Option Snoop → Known → Held → Bool
got_to mode g d q t s' = reach mode (due_granted g d) (told_granted g d t) s' && (needs_quiet g || is_settled (due_granted g d) (told_granted g d t) s')

got_table : Stores → Grant → Due → Option Snoop → Known → Held → Bool
got_table mode g d q t s' = implies (got_to mode g d q t s') (reach mode d t (granted_before g d t s') && same_held s' (granted g d (granted_before g d t s')))

got_holds : (mode : Stores) → Gifts (held_gifts (got_table mode))
unfolding got_table
got_holds Hidden x k = refl
got_holds Listed x k = refl

pub got : (mode : Stores) (g : Grant) (d : Due) (q : Option Snoop) (t : Known) (s' : Held) → is_due g d q ≡ true → got_to mode g d q t s' ≡ true → (reach mode d t (granted_before g d t s') && same_held s' (granted g d (granted_before g d t s'))) ≡ true
unfolding got_table
got mode g d q t s' h = follow _ _ (each_gift (got_table mode) (got_holds mode) g d q h t s')

-- beside any copy none is told to be unique
lone_table : Told → Told → Bool
lone_table t u = implies (not (same (strongest t) Invalid) && compatible (strongest t) (strongest u)) (not (is_unique (strongest u)))

lone_holds : all_told_pairs lone_table ≡ true
unfolding lone_table
lone_holds = refl

pub lone : (t u : Known) → same (most t) Invalid ≡ false → goes_with t u ≡ true → is_unique (most u) ≡ false
unfolding lone_table
lone t u h c = turned _ (follow _ _ (each_told_pair lone_table lone_holds t.told u.told) (join (same (most t) Invalid) _ h c))
  where
    join : (a b : Bool) → a ≡ false → b ≡ true → (not a && b) ≡ true
    join true b h e = no (sym h)
    join false b h e = e

keeps_table : Grant → Due → Option Snoop → Known → Bool
keeps_table g d q t = implies (same (most t) UniqueDirty && not (settles g d)) (same (most (told_granted g d t)) UniqueDirty)

keeps_holds : Gifts (told_gifts keeps_table)
unfolding keeps_table
keeps_holds x k = refl

pub keeps_dirty : (g : Grant) (d : Due) (q : Option Snoop) (t : Known) → is_due g d q ≡ true → (same (most t) UniqueDirty && not (settles g d)) ≡ true → same (most (told_granted g d t)) UniqueDirty ≡ true
unfolding keeps_table
keeps_dirty g d q t h = follow _ _ (each_told_gift keeps_table keeps_holds g d q h t)

-- data leave a copy with data
filled_table : Grant → Due → Option Snoop → Known → Bool
filled_table g d q t = implies (fills_told g t) (not (same (most (told_granted g d t)) Invalid) && holds_data (most (told_granted g d t)))

filled_holds : Gifts (told_gifts filled_table)
unfolding filled_table
filled_holds x k = refl

pub filled : (g : Grant) (d : Due) (q : Option Snoop) (t : Known) → is_due g d q ≡ true → fills_told g t ≡ true → same (most (told_granted g d t)) Invalid ≡ false
unfolding filled_table
filled g d q t c h = turned _ (left _ (holds_data (most (told_granted g d t))) (follow _ _ (each_told_gift filled_table filled_holds g d q c t) h))

pub filled_data : (g : Grant) (d : Due) (q : Option Snoop) (t : Known) → is_due g d q ≡ true → fills_told g t ≡ true → holds_data (most (told_granted g d t)) ≡ true
unfolding filled_table
filled_data g d q t c h = right (not (same (most (told_granted g d t)) Invalid)) _ (follow _ _ (each_told_gift filled_table filled_holds g d q c t) h)

-- they make and settle nothing
pub data_plain : (g : Grant) (d : Due) (b : Bool) → (gives_copy g && b) ≡ true → (makes g d || settles g d) ≡ false
data_plain RetryAck d b h = no h
data_plain (Snp x) d b h = no h
data_plain (CompData x) d b h = refl
data_plain CompUC d b h = no h
data_plain CompSC d b h = no h
data_plain CompI d b h = no h
data_plain CompDBIDResp d b h = no h

-- where the home's words are settled its agent has no copy, and no other one is left
pub settled_copy : (g : Grant) (d : Due) (s : Copy) → settles g d ≡ true → copy_granted g d s ≡ Invalid
settled_copy RetryAck d s h = no h
settled_copy (Snp x) d s h = no h
settled_copy (CompData x) d s h = no h
settled_copy CompUC d s h = no h
settled_copy CompSC d s h = no h
settled_copy CompI d s h = ap (λ b. if b then Invalid else s) h
settled_copy CompDBIDResp d s h = no h

alone_table : Grant → Due → Bool
alone_table g d = implies (settles g d) (needs_alone g d && not (makes g d))

alone_holds : all_grants (λ g. all_dues (λ d. alone_table g d)) ≡ true
unfolding alone_table
alone_holds = refl

settled_well : (g : Grant) (d : Due) → settles g d ≡ true → (needs_alone g d && not (makes g d)) ≡ true
unfolding alone_table
settled_well g d = follow _ _ (each_due (alone_table g) (each_grant (λ g. all_dues (λ d. alone_table g d)) alone_holds g) d)

pub settled_alone : (g : Grant) (d : Due) → settles g d ≡ true → needs_alone g d ≡ true
settled_alone g d h = left _ (not (makes g d)) (settled_well g d h)

pub settled_unmade : (g : Grant) (d : Due) → settles g d ≡ true → makes g d ≡ false
settled_unmade g d h = turned _ (right (needs_alone g d) _ (settled_well g d h))

-- the strongest copy becomes the strongest
most_table : Grant → Due → Option Snoop → Known → Bool
most_table g d q t = same (copy_granted g d (most t)) (most (told_granted g d t))

most_holds : Gifts (told_gifts most_table)
unfolding most_table
most_holds x k = refl

pub most_granted : (g : Grant) (d : Due) (q : Option Snoop) (t : Known) → is_due g d q ≡ true → copy_granted g d (most t) ≡ most (told_granted g d t)
unfolding most_table
most_granted g d q t h = same_is _ _ (each_told_gift most_table most_holds g d q h t)

-- what its agent writes is told, and is, unique and dirty
pub made_told : (g : Grant) (d : Due) (t : Known) → makes g d ≡ true → same (most (told_granted g d t)) UniqueDirty ≡ true
made_told RetryAck d t h = no h
made_told (Snp x) d t h = no h
made_told (CompData x) d t h = no h
made_told CompUC d t h = subst (λ b. same (strongest (if b then UD else (if is_upgraded d then told_upgraded t.told else t.told))) UniqueDirty ≡ true) (sym h) refl
made_told CompSC d t h = no h
made_told CompI d t h = no h
made_told CompDBIDResp d t h = no h

pub made_copy : (g : Grant) (d : Due) (s : Copy) → makes g d ≡ true → (is_unique (copy_granted g d s) && holds_data (copy_granted g d s)) ≡ true
made_copy RetryAck d s h = no h
made_copy (Snp x) d s h = no h
made_copy (CompData x) d s h = no h
made_copy CompUC d s h = subst (λ b. (is_unique (if b then UniqueDirty else (if is_upgraded d then upgraded s else s)) && holds_data (if b then UniqueDirty else (if is_upgraded d then upgraded s else s))) ≡ true) (sym h) refl
made_copy CompSC d s h = no h
made_copy CompI d s h = no h
made_copy CompDBIDResp d s h = no h
