-- More tables of flits that come late: tried at each place.
use Rattle.std.proofs.Common.{◌≡◌, refl}
use Rattle.std.specs.Prelude.{Bool, true, false, ◌&&◌, ◌||◌, not, Option, if◌then◌else◌}
use Rattle.chi_flit.specs.declared.state.State.{State}
use Rattle.chi_observer.specs.declared.kinds.Kind.{Kind}
use Rattle.chi_observer.specs.declared.kinds.Snoop.{Snoop}
use Rattle.chi_observer.specs.declared.told.Told.{Told}
use Rattle.chi_observer.specs.declared.flits.Due.{Due}
use Rattle.chi_observer.specs.declared.flits.Due.TheVariants as dues
use Rattle.chi_observer.specs.declared.flits.Answer.{Answer}
use Rattle.chi_observer.specs.declared.flits.Act.TheVariants.{SnpResp, CopyBackWrData}
use Rattle.chi_observer.specs.declared.flits.Grant.{Grant}
use Rattle.chi_observer.specs.Copies.{same}
use Rattle.chi_observer.specs.Copies.Copy.{UniqueDirty, Writing}
use Rattle.chi_observer.specs.Rules.{answer_drops, due_granted, is_copy_back, is_due, is_whole_write, needs_quiet, written}
use Rattle.chi_observer.specs.Tables.{fits_form, fits_issue, kind_tells_dirty, strongest, told_answered, told_as, told_by}
use Rattle.chi_observer.specs.Arriving.{left_by_data, says_dirty}
use Rattle.chi_observer.specs.Arrivals.{told_if}
use Rattle.chi_observer.specs.Late.{is_none, is_retry}
use Rattle.chi_observer.proofs.Finite.{where_it, tried, follow, implies, all_bools, each_bool, all_kinds, each_kind, all_tolds, each_told, all_forms, each_form, all_answers, each_answer}
use Rattle.chi_observer.proofs.Spots.{Gifts, each_due_gift}
use Rattle.chi_observer.proofs.CrossingTables.{all_crossings, all_issues, each_crossing, each_issue, fine, fits_by, is_early, pend, told_come, unsure_come}

-- what may be unsure is told to be dirty, and a copy-back of it is open
abbrev pub is_back : Due → Bool
is_back (dues.Completion kind) = kind_tells_dirty kind
is_back (dues.WriteData kind) = kind_tells_dirty kind
is_back other = false

abbrev pub is_sure_of : Bool → Told → Due → Bool
is_sure_of u t d = implies u (same (strongest t) UniqueDirty && is_back d)

-- what is due, and no CompAck
abbrev pub is_whole : Due → Bool
is_whole dues.Nothing = true
is_whole (dues.Completion kind) = true
is_whole (dues.WriteData kind) = true
is_whole (dues.Resending kind) = true
is_whole (dues.SureCompletion kind) = true
is_whole other = false

abbrev pub is_acked : Due → Bool
is_acked dues.Acknowledgement = true
is_acked other = false

abbrev pub seen_as : Bool → Answer → Bool → Told → Told
seen_as u a x t = told_if (u && not (says_dirty (SnpResp a) x)) t

abbrev pub written_as : Bool → State → Told → Told
written_as u form t = told_if (u && not (says_dirty (CopyBackWrData form) false)) t

abbrev all_forms_of : (Bool → Told → Told → State → Bool) → Bool
all_forms_of f = all_bools (λ u. all_tolds (λ s. all_tolds (λ t. all_forms (λ x. f u s t x))))

each_form_of : (f : Bool → Told → Told → State → Bool) → all_forms_of f ≡ true → (u : Bool) (s t : Told) (x : State) → f u s t x ≡ true
each_form_of f h u s t x = each_form (λ x. f u s t x) (each_told (λ t. all_forms (λ x. f u s t x)) (each_told (λ s. all_tolds (λ t. all_forms (λ x. f u s t x))) (each_bool (λ u. all_tolds (λ s. all_tolds (λ t. all_forms (λ x. f u s t x)))) h u) s) t) x

-- AN ANSWER
-- that is given with no store since is given with one too
more_table : Bool → Told → Answer → Bool
more_table x t a = implies (fits_by a false x t) (fits_by a true x t)

more_holds : all_bools (λ x. all_tolds (λ t. all_answers (λ a. more_table x t a))) ≡ true
unfolding more_table
more_holds = refl

pub fits_more : (a : Answer) (x : Bool) (t : Told) → fits_by a false x t ≡ true → fits_by a true x t ≡ true
unfolding more_table
fits_more a x t = follow (fits_by a false x t) (fits_by a true x t) (each_answer (λ a. more_table x t a) (each_told (λ t. all_answers (λ a. more_table x t a)) (each_bool (λ x. all_tolds (λ t. all_answers (λ a. more_table x t a))) more_holds x) t) a)

-- of a copy of which no request is on its way
told_table : Bool → Bool → Bool → Told → Told → Answer → Bool
told_table m u x s t a = where_it (implies u (same (strongest t) UniqueDirty) && (fine u s t && ((not x || answer_drops a) && fits_by a m x s)))
    (λ _. fits_by a m x (seen_as u a x t) && fine false (told_answered a s) (told_answered a (seen_as u a x t)))

told_holds : (m : Bool) → all_crossings (told_table m) ≡ true
unfolding told_table
told_holds true = refl
told_holds false = refl

pub told_answer : (m u x : Bool) (s t : Told) (a : Answer) → (implies u (same (strongest t) UniqueDirty) && (fine u s t && ((not x || answer_drops a) && fits_by a m x s))) ≡ true
    → (fits_by a m x (seen_as u a x t) && fine false (told_answered a s) (told_answered a (seen_as u a x t))) ≡ true
unfolding told_table
told_answer m u x s t a = tried _ (λ _. fits_by a m x (seen_as u a x t) && fine false (told_answered a s) (told_answered a (seen_as u a x t))) (each_crossing (told_table m) (told_holds m) u x s t a)

-- WRITE DATA
data_table : Kind → Bool → Told → Told → State → Bool
data_table k u s t x = where_it (is_copy_back k && (is_sure_of u t (dues.WriteData k) && (fine u s t && fits_form x s))) (λ _. fits_form x (written_as u x t))

data_holds : all_kinds (λ k. all_forms_of (data_table k)) ≡ true
unfolding data_table
data_holds = refl

pub data_of : (k : Kind) (u : Bool) (s t : Told) (x : State) → (is_copy_back k && (is_sure_of u t (dues.WriteData k) && (fine u s t && fits_form x s))) ≡ true → fits_form x (written_as u x t) ≡ true
unfolding data_table
data_of k u s t x = tried _ (λ _. fits_form x (written_as u x t)) (each_form_of (data_table k) (each_kind (λ k. all_forms_of (data_table k)) data_holds k) u s t x)

-- a request that comes ahead of them isn't refused
ahead_table : Kind → Bool → Told → Told → State → Bool
ahead_table k u s t x = where_it (is_copy_back k && (is_sure_of u t (dues.WriteData k) && fits_form x (written_as u x t)))
    (λ _. all_kinds (λ r. implies (fits_issue r true (told_as (written k x))) (fits_issue r true (left_by_data k t))))

ahead_holds : all_kinds (λ k. all_forms_of (ahead_table k)) ≡ true
unfolding ahead_table
ahead_holds = refl

pub ahead_of : (k r : Kind) (u : Bool) (t : Told) (x : State) → (is_copy_back k && (is_sure_of u t (dues.WriteData k) && fits_form x (written_as u x t))) ≡ true → fits_issue r true (told_as (written k x)) ≡ true → fits_issue r true (left_by_data k t) ≡ true
unfolding ahead_table
ahead_of k r u t x h = follow (fits_issue r true (told_as (written k x))) (fits_issue r true (left_by_data k t))
    (each_kind (λ r. implies (fits_issue r true (told_as (written k x))) (fits_issue r true (left_by_data k t)))
    (tried _ (λ _. all_kinds (λ r. implies (fits_issue r true (told_as (written k x))) (fits_issue r true (left_by_data k t)))) (each_form_of (ahead_table k) (each_kind (λ k. all_forms_of (ahead_table k)) ahead_holds k) u t t x) h) r)

-- those of a WriteUniqueFull
whole_table : Kind → Bool → Told → Told → Bool
whole_table k u s t = where_it (is_whole_write k && (is_sure_of u t (dues.WriteData k) && (fine u s t && same (strongest s) Writing))) (λ _. same (strongest (told_if (u && false) t)) Writing)

whole_holds : all_kinds (λ k. all_issues (whole_table k)) ≡ true
unfolding whole_table
whole_holds = refl

pub whole_of : (k : Kind) (u : Bool) (s t : Told) → (is_whole_write k && (is_sure_of u t (dues.WriteData k) && (fine u s t && same (strongest s) Writing))) ≡ true → same (strongest (told_if (u && false) t)) Writing ≡ true
unfolding whole_table
whole_of k u s t = tried _ (λ _. same (strongest (told_if (u && false) t)) Writing) (each_issue (whole_table k) (each_kind (λ k. all_issues (whole_table k)) whole_holds k) u s t)

-- A REQUEST
-- that comes: where it is unsure a copy-back is open
sure_table : Kind → Bool → Told → Told → Bool
sure_table k b s t = where_it (implies b (is_early k) && pend k b s t) (λ _. is_sure_of (unsure_come k b t) (told_come k b t) (dues.Completion k))

sure_holds : all_kinds (λ k. all_issues (sure_table k)) ≡ true
unfolding sure_table
sure_holds = refl

pub sure_come : (k : Kind) (b : Bool) (s t : Told) → (implies b (is_early k) && pend k b s t) ≡ true → is_sure_of (unsure_come k b t) (told_come k b t) (dues.Completion k) ≡ true
unfolding sure_table
sure_come k b s t = tried _ (λ _. is_sure_of (unsure_come k b t) (told_come k b t) (dues.Completion k)) (each_issue (sure_table k) (each_kind (λ k. all_issues (sure_table k)) sure_holds k) b s t)

-- A COMPLETION
abbrev pub given_fine : Grant → Due → Option Snoop → Bool → Told → Told → Bool
given_fine g d q u s t = fine u (told_by g d s) (told_by g d t)
    && (if is_acked (due_granted g d) then not u && is_none q else is_whole (due_granted g d) && is_sure_of u (told_by g d t) (due_granted g d))

given_table : Grant → Due → Option Snoop → Bool
given_table g d q = where_it (not (needs_quiet g) && is_whole d)
    (λ _. all_issues (λ u s t. where_it ((not (is_retry g) || not u) && (is_sure_of u t d && fine u s t)) (λ _. given_fine g d q u s t)))

given_holds : Gifts given_table
unfolding given_table
given_holds x k = refl

pub given_of : (g : Grant) (d : Due) (q : Option Snoop) (u : Bool) (s t : Told) → is_due g d q ≡ true → (not (needs_quiet g) && is_whole d) ≡ true → ((not (is_retry g) || not u) && (is_sure_of u t d && fine u s t)) ≡ true → given_fine g d q u s t ≡ true
unfolding given_table
given_of g d q u s t hd h hf = tried _ (λ _. given_fine g d q u s t) (each_issue (λ u s t. where_it ((not (is_retry g) || not u) && (is_sure_of u t d && fine u s t)) (λ _. given_fine g d q u s t))
    (tried _ (λ _. all_issues (λ u s t. where_it ((not (is_retry g) || not u) && (is_sure_of u t d && fine u s t)) (λ _. given_fine g d q u s t))) (each_due_gift given_table given_holds g d q hd) h) u s t) hf
