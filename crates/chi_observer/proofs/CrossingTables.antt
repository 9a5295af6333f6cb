-- Tables of what a request that comes late was sent from: tried at each place.
use Rattle.std.proofs.Common.{◌≡◌, refl}
use Rattle.std.specs.Prelude.{Bool, true, false, ◌&&◌, ◌||◌, not, Some, if◌then◌else◌}
use Rattle.chi_observer.specs.declared.kinds.Snoop.{Snoop}
use Rattle.chi_observer.specs.declared.kinds.Kind.{Kind}
use Rattle.chi_observer.specs.declared.kinds.Kind.TheVariants as kinds
use Rattle.chi_observer.specs.declared.told.Told.{Told}
use Rattle.chi_observer.specs.declared.told.Told.TheVariants as tolds
use Rattle.chi_observer.specs.declared.flits.Stores.TheVariants.{Hidden}
use Rattle.chi_observer.specs.declared.flits.Answer.{Answer}
use Rattle.chi_observer.specs.declared.flits.Act.TheVariants.{SnpResp}
use Rattle.chi_observer.specs.declared.arriving.Earlier.{Earlier}
use Rattle.chi_observer.specs.Copies.{Copy, is_dirty, same}
use Rattle.chi_observer.specs.Copies.Copy.{Invalid, UniqueClean}
use Rattle.chi_observer.specs.Rules.{allows, answer_drops, lets_go, throws}
use Rattle.chi_observer.specs.Tables.{fits_answer, fits_issue, kind_tells_dirty, may, may_drift, strongest, told_answered, told_issued}
use Rattle.chi_observer.specs.Arriving.{earlier_answered, fits_crossing, issued_before, stays, was_clean, was_dirty, was_unique}
use Rattle.chi_observer.specs.Crossing.{is_since}
use Rattle.chi_observer.proofs.Finite.{where_it, tried, follow, implies, all_bools, each_bool, all_kinds, each_kind, all_tolds, each_told, all_copies, each_copy, all_answers, each_answer, all_snoops, each_snoop}

-- what a copy may be right behind what it was told as, it may be right behind the other too; u: or a unique clean one
abbrev pub fine : Bool → Told → Told → Bool
fine u s t = all_copies (λ c. implies (may s c) (may t c || (u && same c UniqueClean)))

-- the answer is given where told is t; m: a store that nobody saw may have been
abbrev pub fits_by : Answer → Bool → Bool → Told → Bool
fits_by a m x t = fits_answer a m t || (throws (SnpResp a) x && is_dirty (strongest t))

-- a request of the kind, which hasn't come, was sent from what is told, or before the last answers
abbrev pub is_early : Kind → Bool
is_early kinds.WriteBackFull = true
is_early kinds.WriteCleanFull = true
is_early kinds.WriteEvictFull = true
is_early kinds.Evict = true
is_early other = false

abbrev pub is_evict : Kind → Bool
is_evict kinds.Evict = true
is_evict other = false

abbrev pub is_exact : Told → Bool
is_exact tolds.I = true
is_exact tolds.SC = true
is_exact tolds.UC = true
is_exact tolds.UD = true
is_exact tolds.SD = true
is_exact other = false

abbrev pub is_left : Kind → Told → Told → Bool
is_left k s t = (is_exact s && is_exact t) && (same (strongest s) (strongest t) && implies (is_evict k) (same (strongest t) Invalid))

abbrev pub pend : Kind → Bool → Told → Told → Bool
pend k b s t = (fits_issue k true t && fine false s (told_issued k t)) || ((b && is_early k) && is_left k s t)

-- whether one may have been sent before, behind one more answer
abbrev pub still : Kind → Answer → Bool → Told → Bool → Bool
still kinds.WriteBackFull a g t b = was_dirty a g t || (b && stays a g t)
still kinds.WriteCleanFull a g t b = was_dirty a g t || (b && stays a g t)
still kinds.WriteEvictFull a g t b = was_unique a t || (b && stays a g t)
still kinds.Evict a g t b = was_clean a t || (b && stays a g t)
still other a g t b = false

pub still_is : (k : Kind) (a : Answer) (g : Bool) (t : Told) (e : Earlier) → issued_before (earlier_answered a g t e) k ≡ still k a g t (issued_before e k)
still_is kinds.ReadNotSharedDirty a g t e = refl
still_is kinds.ReadShared a g t e = refl
still_is kinds.ReadClean a g t e = refl
still_is kinds.ReadOnce a g t e = refl
still_is kinds.ReadUnique a g t e = refl
still_is kinds.CleanUnique a g t e = refl
still_is kinds.MakeUnique a g t e = refl
still_is kinds.CleanShared a g t e = refl
still_is kinds.CleanInvalid a g t e = refl
still_is kinds.MakeInvalid a g t e = refl
still_is kinds.Evict a g t e = refl
still_is kinds.WriteBackFull a g t e = refl
still_is kinds.WriteCleanFull a g t e = refl
still_is kinds.WriteEvictFull a g t e = refl
still_is kinds.WriteUniqueFull a g t e = refl

-- families of places
abbrev pub all_crossings : (Bool → Bool → Told → Told → Answer → Bool) → Bool
all_crossings f = all_bools (λ b. all_bools (λ x. all_tolds (λ s. all_tolds (λ t. all_answers (λ a. f b x s t a)))))

pub each_crossing : (f : Bool → Bool → Told → Told → Answer → Bool) → all_crossings f ≡ true → (b x : Bool) (s t : Told) (a : Answer) → f b x s t a ≡ true
each_crossing f h b x s t a = each_answer (λ a. f b x s t a) (each_told (λ t. all_answers (λ a. f b x s t a)) (each_told (λ s. all_tolds (λ t. all_answers (λ a. f b x s t a)))
    (each_bool (λ x. all_tolds (λ s. all_tolds (λ t. all_answers (λ a. f b x s t a)))) (each_bool (λ b. all_bools (λ x. all_tolds (λ s. all_tolds (λ t. all_answers (λ a. f b x s t a))))) h b) x) s) t) a

abbrev pub all_issues : (Bool → Told → Told → Bool) → Bool
all_issues f = all_bools (λ b. all_tolds (λ s. all_tolds (λ t. f b s t)))

pub each_issue : (f : Bool → Told → Told → Bool) → all_issues f ≡ true → (b : Bool) (s t : Told) → f b s t ≡ true
each_issue f h b s t = each_told (λ t. f b s t) (each_told (λ s. all_tolds (λ t. f b s t)) (each_bool (λ b. all_tolds (λ s. all_tolds (λ t. f b s t))) h b) s) t

abbrev all_meetings : (Snoop → Bool → Told → Answer → Bool) → Bool
all_meetings f = all_snoops (λ q. all_bools (λ b. all_tolds (λ t. all_answers (λ a. f q b t a))))

each_meeting : (f : Snoop → Bool → Told → Answer → Bool) → all_meetings f ≡ true → (q : Snoop) (b : Bool) (t : Told) (a : Answer) → f q b t a ≡ true
each_meeting f h q b t a = each_answer (λ a. f q b t a) (each_told (λ t. all_answers (λ a. f q b t a)) (each_bool (λ b. all_tolds (λ t. all_answers (λ a. f q b t a))) (each_snoop (λ q. all_bools (λ b. all_tolds (λ t. all_answers (λ a. f q b t a)))) h q) b) t) a

-- AN ANSWER
-- of a cache whose request is on its way
sent_table : Kind → Bool → Bool → Told → Told → Answer → Bool
sent_table k b x s t a = where_it (pend k b s t && ((not x || answer_drops a) && fits_by a false x s))
    (λ _. fits_by a true x t && pend k (still k a (throws (SnpResp a) x) t b) (told_answered a s) (told_answered a t))

sent_holds : (k : Kind) → all_crossings (sent_table k) ≡ true
unfolding sent_table
sent_holds kinds.ReadNotSharedDirty = refl
sent_holds kinds.ReadShared = refl
sent_holds kinds.ReadClean = refl
sent_holds kinds.ReadOnce = refl
sent_holds kinds.ReadUnique = refl
sent_holds kinds.CleanUnique = refl
sent_holds kinds.MakeUnique = refl
sent_holds kinds.CleanShared = refl
sent_holds kinds.CleanInvalid = refl
sent_holds kinds.MakeInvalid = refl
sent_holds kinds.Evict = refl
sent_holds kinds.WriteBackFull = refl
sent_holds kinds.WriteCleanFull = refl
sent_holds kinds.WriteEvictFull = refl
sent_holds kinds.WriteUniqueFull = refl

pub sent_answer : (k : Kind) (b x : Bool) (s t : Told) (a : Answer) → (pend k b s t && ((not x || answer_drops a) && fits_by a false x s)) ≡ true
    → (fits_by a true x t && pend k (still k a (throws (SnpResp a) x) t b) (told_answered a s) (told_answered a t)) ≡ true
unfolding sent_table
sent_answer k b x s t a = tried _ (λ _. fits_by a true x t && pend k (still k a (throws (SnpResp a) x) t b) (told_answered a s) (told_answered a t)) (each_crossing (sent_table k) (sent_holds k) b x s t a)

-- a request that comes ahead of it isn't refused
meet_table : Kind → Snoop → Bool → Told → Answer → Bool
meet_table k q b t a = where_it ((allows (SnpResp a) (Some q) && fits_by a true (lets_go (Some q)) t) && ((still k a (throws (SnpResp a) (lets_go (Some q))) t (b && is_early k)) || fits_issue k true (told_answered a t)))
    (λ _. (b && is_early k) || fits_crossing q k t)

meet_holds : (k : Kind) → all_meetings (meet_table k) ≡ true
unfolding meet_table
meet_holds kinds.ReadNotSharedDirty = refl
meet_holds kinds.ReadShared = refl
meet_holds kinds.ReadClean = refl
meet_holds kinds.ReadOnce = refl
meet_holds kinds.ReadUnique = refl
meet_holds kinds.CleanUnique = refl
meet_holds kinds.MakeUnique = refl
meet_holds kinds.CleanShared = refl
meet_holds kinds.CleanInvalid = refl
meet_holds kinds.MakeInvalid = refl
meet_holds kinds.Evict = refl
meet_holds kinds.WriteBackFull = refl
meet_holds kinds.WriteCleanFull = refl
meet_holds kinds.WriteEvictFull = refl
meet_holds kinds.WriteUniqueFull = refl

pub meet : (k : Kind) (q : Snoop) (b : Bool) (t : Told) (a : Answer) → ((allows (SnpResp a) (Some q) && fits_by a true (lets_go (Some q)) t) && ((still k a (throws (SnpResp a) (lets_go (Some q))) t (b && is_early k)) || fits_issue k true (told_answered a t))) ≡ true
    → ((b && is_early k) || fits_crossing q k t) ≡ true
unfolding meet_table
meet k q b t a = tried _ (λ _. (b && is_early k) || fits_crossing q k t) (each_meeting (meet_table k) (meet_holds k) q b t a)

self_table : Told → Bool
self_table t = fine false t t

self_holds : all_tolds self_table ≡ true
unfolding self_table
self_holds = refl

pub fine_self : (t : Told) → fine false t t ≡ true
unfolding self_table
fine_self t = each_told self_table self_holds t

may_table : Bool → Told → Told → Bool
may_table u s t = where_it (fine u s t) (λ _. all_copies (λ c. implies (may s c) (may t c || (u && same c UniqueClean))))

may_holds : all_issues may_table ≡ true
unfolding may_table
may_holds = refl

pub may_be : (u : Bool) (s t : Told) (c : Copy) → fine u s t ≡ true → may s c ≡ true → (may t c || (u && same c UniqueClean)) ≡ true
unfolding may_table
may_be u s t c h = follow (may s c) (may t c || (u && same c UniqueClean)) (each_copy (λ c. implies (may s c) (may t c || (u && same c UniqueClean))) (tried (fine u s t) (λ _. all_copies (λ c. implies (may s c) (may t c || (u && same c UniqueClean)))) (each_issue may_table may_holds u s t) h) c)

-- a store or a drop leaves what may be
since_table : Told → Copy → Copy → Bool
since_table t s r = implies (may_drift Hidden t s && is_since s r) (may_drift Hidden t r)

since_holds : all_tolds (λ t. all_copies (λ s. all_copies (λ r. since_table t s r))) ≡ true
unfolding since_table
since_holds = refl

pub since_of : (t : Told) (s r : Copy) → (may_drift Hidden t s && is_since s r) ≡ true → may_drift Hidden t r ≡ true
unfolding since_table
since_of t s r = follow (may_drift Hidden t s && is_since s r) (may_drift Hidden t r) (each_copy (λ r. since_table t s r) (each_copy (λ s. all_copies (λ r. since_table t s r)) (each_told (λ t. all_copies (λ s. all_copies (λ r. since_table t s r))) since_holds t) s) r)

-- A REQUEST
-- that is sent now
issue_table : Kind → Bool → Told → Told → Bool
issue_table k b s t = where_it (fine false s t && fits_issue k true s) (λ _. pend k b (told_issued k s) t)

issue_holds : all_kinds (λ k. all_issues (issue_table k)) ≡ true
unfolding issue_table
issue_holds = refl

pub issue_of : (k : Kind) (b : Bool) (s t : Told) → (fine false s t && fits_issue k true s) ≡ true → pend k b (told_issued k s) t ≡ true
unfolding issue_table
issue_of k b s t = tried _ (λ _. pend k b (told_issued k s) t) (each_issue (issue_table k) (each_kind (λ k. all_issues (issue_table k)) issue_holds k) b s t)

-- that comes: it was sent before, and what is told stays, or now
abbrev pub told_come : Kind → Bool → Told → Told
told_come k b t = if b && not (fits_issue k true t) then t else told_issued k t

abbrev pub unsure_come : Kind → Bool → Told → Bool
unsure_come k b t = b && (kind_tells_dirty k && same (strongest t) UniqueClean)

come_table : Kind → Bool → Told → Told → Bool
come_table k b s t = where_it (implies b (is_early k) && pend k b s t)
    (λ _. ((b && not (fits_issue k true t)) || fits_issue k true t) && fine (unsure_come k b t) s (told_come k b t))

come_holds : all_kinds (λ k. all_issues (come_table k)) ≡ true
unfolding come_table
come_holds = refl

pub come_of : (k : Kind) (b : Bool) (s t : Told) → (implies b (is_early k) && pend k b s t) ≡ true
    → (((b && not (fits_issue k true t)) || fits_issue k true t) && fine (unsure_come k b t) s (told_come k b t)) ≡ true
unfolding come_table
come_of k b s t = tried _ (λ _. ((b && not (fits_issue k true t)) || fits_issue k true t) && fine (unsure_come k b t) s (told_come k b t)) (each_issue (come_table k) (each_kind (λ k. all_issues (come_table k)) come_holds k) b s t)
