-- What is supposed of an agent to whom the home sends, whose copy isn't known, beside what was told of it.
use Rattle.std.proofs.Common.{◌≡◌, refl}
use Rattle.std.specs.Prelude.{Bool, true, false, ◌&&◌, ◌||◌, not, Option, Some, None, if◌then◌else◌}
use Rattle.chi_observer.specs.declared.kinds.Snoop.{Snoop}
use Rattle.chi_observer.specs.declared.kinds.Snoop.TheVariants.{SnpOnce}
use Rattle.chi_observer.specs.declared.told.Told.{Told}
use Rattle.chi_observer.specs.declared.told.Told.TheVariants.{I}
use Rattle.chi_observer.specs.declared.flits.Due.{Due}
use Rattle.chi_observer.specs.declared.flits.Due.TheVariants.{Nothing, Completion, Resending, SureCompletion, WriteData, Acknowledgement}
use Rattle.chi_observer.specs.declared.flits.Stores.{Stores}
use Rattle.chi_observer.specs.declared.flits.Stores.TheVariants.{Hidden, Listed}
use Rattle.chi_observer.specs.declared.flits.Grant.{Grant}
use Rattle.chi_observer.specs.declared.begun.Certainty.{Certainty}
use Rattle.chi_observer.specs.declared.begun.Certainty.TheVariants.{Unknown, Unique, Told as ToldSo}
use Rattle.chi_observer.specs.Copies.{Copy, is_unique, is_dirty, same, compatible}
use Rattle.chi_observer.specs.Copies.Copy.{Invalid}
use Rattle.chi_observer.specs.Rules.{awaits_moment, due_granted, gives_copy, is_due, makes, may_be_free, needs_alone, needs_moment, needs_quiet, settles}
use Rattle.chi_observer.specs.Tables.{Known, fills_told, shows_told, strongest, told_by}
use Rattle.chi_observer.specs.Begun.{certainty_given, left_over, reads_unique, receiver, supposed_of, told_kept}
use Rattle.chi_observer.proofs.Finite.{no, right, both, implies, follow, all_bools, each_bool, all_tolds, each_told, all_copies, each_copy}
use Rattle.chi_observer.proofs.Facts.{same_truth}
use Rattle.chi_observer.proofs.Spots.{Gifts, by_kind, told_gifts, each_told_gift, each_due_gift}
use Rattle.chi_observer.proofs.Supposed.{all_certain, all_marks, each_certain, each_mark, holds_by, is_alone, is_calmer, is_open_clean, may_stand, one_is, same_told}

-- what is due, and told, where it is supposed
abbrev pub due_to : Bool → Due → Due
due_to asked d = if asked then left_over else d

abbrev pub told_to : Certainty → Bool → Grant → Due → Told → Told
told_to c asked g d t = supposed_of c t (receiver g (due_to asked d))

abbrev known : Told → Known
known t = record { told = t; cancelled = false }

-- data that make a copy unique: it is supposed to have been dirty
abbrev pub fills_unique : Grant → Due → Bool
fills_unique g d = gives_copy g && reads_unique d

abbrev pub given_alike : Bool → Grant → Due → Option Snoop → Bool
given_alike asked g d q = is_due g (due_to asked d) q && (is_due g (due_to asked d) None
    && (same_truth (makes g (due_to asked d)) (makes g d) && (same_truth (settles g (due_to asked d)) (settles g d)
    && (same_truth (needs_alone g (due_to asked d)) (needs_alone g d) && implies (needs_moment g (due_to asked d)) (not asked && needs_moment g d)))))

abbrev pub given_told : Certainty → Bool → Grant → Due → Told → Bool
given_told c asked g d t = implies (shows_told g (known (told_to c asked g d t))) (shows_told g (known t))
    && (implies (fills_told g (known (told_to c asked g d t))) (fills_told g (known t))
    && (same_told (told_kept (certainty_given c g (due_to asked d)) (told_by g (due_to asked d) (told_to c asked g d t))) (told_kept (certainty_given c g (due_to asked d)) (told_by g d t))
    && (implies (is_alone (told_by g (due_to asked d) (told_to c asked g d t))) (is_alone (told_by g d t))
    && may_stand (certainty_given c g (due_to asked d)) asked (due_granted g d) (told_by g d t))))

-- a copy that may be dirty though it wasn't told so isn't dirty, nor may be stored to, before its data
abbrev pub given_calm : Certainty → Bool → Grant → Due → Told → Bool
given_calm c asked g d t = if fills_unique g d
    then not (may_be_free d) && (not (awaits_moment (due_granted g d)) && implies (is_dirty (strongest t)) (is_dirty (strongest (told_by g d t))))
    else implies (is_dirty (strongest (told_by g (due_to asked d) (told_to c asked g d t)))) (is_dirty (strongest (told_by g d t)))

abbrev pub given_well : Certainty → Bool → Grant → Due → Option Snoop → Told → Bool
given_well c asked g d q t = given_alike asked g d q && (given_told c asked g d t && given_calm c asked g d t)

abbrev pub may_give : Certainty → Bool → Grant → Due → Known → Bool
may_give c asked g d t = may_stand c asked d t.told && (holds_by (is_open_clean d) d t && not (asked && not (needs_quiet g)))

given_in : Grant → Due → Option Snoop → Known → Certainty → Bool → Bool
given_in g d q t c asked = implies (may_give c asked g d t) (given_well c asked g d q t.told)

abbrev given_table : Grant → Due → Option Snoop → Known → Bool
given_table g d q t = all_marks (λ c asked. given_in g d q t c asked)

given_holds : Gifts (told_gifts given_table)
unfolding given_in
given_holds = by_kind (told_gifts given_table) (λ x. refl)

pub gives_well : (c : Certainty) (asked : Bool) (g : Grant) (d : Due) (q : Option Snoop) (t : Known) → is_due g d q ≡ true → may_give c asked g d t ≡ true → given_well c asked g d q t.told ≡ true
unfolding given_in
gives_well c asked g d q t due h = follow (may_give c asked g d t) _ (each_mark (λ c asked. given_in g d q t c asked) (each_told_gift given_table given_holds g d q due t) c asked) h

-- what goes with what is told then goes with what is supposed
goes_in : Grant → Due → Option Snoop → Known → Certainty → Bool → Copy → Bool
goes_in g d q t c asked r = implies (may_give c asked g d t) (implies (compatible (strongest (told_by g d t.told)) r) (compatible (strongest (told_by g (due_to asked d) (told_to c asked g d t.told))) r))

abbrev goes_table : Grant → Due → Option Snoop → Known → Bool
goes_table g d q t = all_marks (λ c asked. all_copies (λ r. goes_in g d q t c asked r))

goes_holds : Gifts (told_gifts goes_table)
unfolding goes_in
goes_holds = by_kind (told_gifts goes_table) (λ x. refl)

pub gives_beside : (c : Certainty) (asked : Bool) (g : Grant) (d : Due) (q : Option Snoop) (t : Known) (r : Copy) → is_due g d q ≡ true → may_give c asked g d t ≡ true
    → compatible (strongest (told_by g d t.told)) r ≡ true → compatible (strongest (told_by g (due_to asked d) (told_to c asked g d t.told))) r ≡ true
unfolding goes_in
gives_beside c asked g d q t r due h e = follow (compatible (strongest (told_by g d t.told)) r) _ (follow (may_give c asked g d t) _
    (each_copy (λ r. goes_in g d q t c asked r) (each_mark (λ c asked. all_copies (λ r. goes_in g d q t c asked r)) (each_told_gift goes_table goes_holds g d q due t) c asked) r) h) e

-- what isn't sent while a snoop is open: there is none then
abbrev is_nothing : Option Snoop → Bool
is_nothing None = true
is_nothing (Some snoop) = false

none_in : Grant → Due → Option Snoop → Bool
none_in g d q = is_due g d (Some SnpOnce) || is_nothing q

none_holds : Gifts none_in
unfolding none_in
none_holds x k = refl

none_is : (q : Option Snoop) → is_nothing q ≡ true → q ≡ None
none_is None h = refl
none_is (Some snoop) h = no h

pub none_open : (g : Grant) (d : Due) (q : Option Snoop) → is_due g d q ≡ true → is_due g d (Some SnpOnce) ≡ false → q ≡ None
unfolding none_in
none_open g d q due e = none_is q (one_is (is_due g d (Some SnpOnce)) _ e (each_due_gift none_in none_holds g d q due))

-- EACH OTHER AGENT
-- what is kept of one is calmer than what was told, and goes with as much
kept_in : Stores → Certainty → Bool → Bool → Due → Told → Bool
kept_in z c asked tells d t = implies (may_stand c asked d t)
    (is_calmer z tells d t (due_to asked d) (told_kept c t) && is_calmer z tells d t (due_to asked d) (supposed_of c t I))

abbrev kept_table : Stores → Due → Bool
kept_table z d = all_marks (λ c asked. all_bools (λ tells. all_tolds (λ t. kept_in z c asked tells d t)))

kept_holds : (z : Stores) (d : Due) → kept_table z d ≡ true
unfolding kept_in
kept_holds Hidden Nothing = refl
kept_holds Listed Nothing = refl
kept_holds Hidden (Completion k) = refl
kept_holds Listed (Completion k) = refl
kept_holds Hidden (Resending k) = refl
kept_holds Listed (Resending k) = refl
kept_holds Hidden (SureCompletion k) = refl
kept_holds Listed (SureCompletion k) = refl
kept_holds Hidden (WriteData k) = refl
kept_holds Listed (WriteData k) = refl
kept_holds Hidden Acknowledgement = refl
kept_holds Listed Acknowledgement = refl

pub keeps_calm : (z : Stores) (c : Certainty) (asked tells : Bool) (d : Due) (t : Told) → may_stand c asked d t ≡ true → (is_calmer z tells d t (due_to asked d) (told_kept c t) && is_calmer z tells d t (due_to asked d) (supposed_of c t I)) ≡ true
unfolding kept_in
keeps_calm z c asked tells d t h = follow (may_stand c asked d t) _ (each_told (λ t. kept_in z c asked tells d t) (each_bool (λ tells. all_tolds (λ t. kept_in z c asked tells d t))
    (each_mark (λ c asked. all_bools (λ tells. all_tolds (λ t. kept_in z c asked tells d t))) (kept_holds z d) c asked) tells) t) h

-- s: a copy beside it; d: what may be due of it
beside_in : Copy → Certainty → Bool → Told → Bool
beside_in s c unique t = implies (compatible s (strongest t) && implies unique (is_unique (strongest t))) (compatible s (strongest (told_kept c t)))

abbrev is_unique_mark : Certainty → Bool
is_unique_mark Unique = true
is_unique_mark other = false

beside_holds : all_certain (λ c. all_copies (λ s. all_tolds (λ t. beside_in s c (is_unique_mark c) t))) ≡ true
unfolding beside_in
beside_holds = refl

unique_stands : (c : Certainty) (asked : Bool) (d : Due) (t : Told) → may_stand c asked d t ≡ true → implies (is_unique_mark c) (is_unique (strongest t)) ≡ true
unique_stands Unique asked d t h = right _ (is_unique (strongest t)) (right (not asked) _ h)
unique_stands Unknown asked d t h = refl
unique_stands ToldSo asked d t h = refl

pub keeps_beside : (s : Copy) (c : Certainty) (asked : Bool) (d : Due) (t : Told) → may_stand c asked d t ≡ true → compatible s (strongest t) ≡ true → compatible s (strongest (told_kept c t)) ≡ true
unfolding beside_in
keeps_beside s c asked d t h e = follow _ _ (each_told (λ t. beside_in s c (is_unique_mark c) t) (each_copy (λ s. all_tolds (λ t. beside_in s c (is_unique_mark c) t))
    (each_certain (λ c. all_copies (λ s. all_tolds (λ t. beside_in s c (is_unique_mark c) t))) beside_holds c) s) t) (both (compatible s (strongest t)) _ e (unique_stands c asked d t h))

-- where there is none, none is kept
gone_in : Certainty → Bool → Told → Bool
gone_in c unique t = implies (same (strongest t) Invalid && implies unique (is_unique (strongest t))) (same_told (told_kept c t) t && same (strongest (told_kept c t)) Invalid)

gone_holds : all_certain (λ c. all_tolds (λ t. gone_in c (is_unique_mark c) t)) ≡ true
unfolding gone_in
gone_holds = refl

pub keeps_gone : (c : Certainty) (asked : Bool) (d : Due) (t : Told) → may_stand c asked d t ≡ true → same (strongest t) Invalid ≡ true → (same_told (told_kept c t) t && same (strongest (told_kept c t)) Invalid) ≡ true
unfolding gone_in
keeps_gone c asked d t h e = follow _ _ (each_told (λ t. gone_in c (is_unique_mark c) t) (each_certain (λ c. all_tolds (λ t. gone_in c (is_unique_mark c) t)) gone_holds c) t)
    (both (same (strongest t) Invalid) _ e (unique_stands c asked d t h))

-- beside one that is alone there is none
alone_in : Told → Told → Bool
alone_in t u = implies (is_alone t && compatible (strongest t) (strongest u)) (same (strongest u) Invalid)

alone_holds : all_tolds (λ t. all_tolds (λ u. alone_in t u)) ≡ true
unfolding alone_in
alone_holds = refl

pub alone_beside : (t u : Told) → is_alone t ≡ true → compatible (strongest t) (strongest u) ≡ true → same (strongest u) Invalid ≡ true
unfolding alone_in
alone_beside t u h e = follow _ _ (each_told (alone_in t) (each_told (λ t. all_tolds (λ u. alone_in t u)) alone_holds t) u) (both (is_alone t) _ h e)
