-- What is supposed of an agent whose copy isn't known, beside what was told of it: tried at each place.
use Rattle.std.proofs.Common.{◌≡◌, ◌⊎◌, inl, inr, refl, sym, ap, subst, ◌∙◌}
use Rattle.std.specs.Prelude.{Bool, true, false, ◌&&◌, ◌||◌, not, Option, if◌then◌else◌}
use Rattle.chi_observer.specs.declared.kinds.Kind.{Kind}
use Rattle.chi_observer.specs.declared.kinds.Kind.TheVariants.{ReadUnique, CleanUnique, MakeUnique, WriteBackFull, WriteCleanFull}
use Rattle.chi_observer.specs.declared.kinds.Snoop.{Snoop}
use Rattle.chi_observer.specs.declared.told.Told.{Told}
use Rattle.chi_observer.specs.declared.told.Told.TheVariants.{I, SC, SCOrI, UC, UCOrI, UCE, UCEOrI, UCOrUCE, UD, SD}
use Rattle.chi_observer.specs.declared.told.Told.TheVariants as tolds
use Rattle.chi_observer.specs.declared.flits.Due.{Due}
use Rattle.chi_observer.specs.declared.flits.Due.TheVariants.{Nothing, Completion, Resending, SureCompletion, WriteData, Acknowledgement}
use Rattle.chi_observer.specs.declared.flits.Stores.{Stores}
use Rattle.chi_observer.specs.declared.flits.Stores.TheVariants.{Hidden, Listed}
use Rattle.chi_observer.specs.declared.flits.Word.{Word}
use Rattle.chi_observer.specs.declared.flits.Act.{Act}
use Rattle.chi_observer.specs.declared.flits.Act.TheVariants.{Request, Resend, SnpResp, CompAck, CopyBackWrData, NonCopyBackWrData, Load, Store}
use Rattle.chi_observer.specs.declared.flits.Grant.{Grant}
use Rattle.chi_observer.specs.declared.begun.Certainty.{Certainty}
use Rattle.chi_observer.specs.declared.begun.Certainty.TheVariants.{Unknown, Unique, Told as ToldSo}
use Rattle.chi_observer.specs.declared.begun.AgentBegun.{AgentBegun}
use Rattle.chi_observer.specs.Copies.{is_unique, is_dirty, same, compatible}
use Rattle.chi_observer.specs.Copies.Copy.{Writing}
use Rattle.chi_observer.specs.Rules.{due_after, due_granted, is_due, is_open_of, is_request, is_resending, looks, tells_words}
use Rattle.chi_observer.specs.Tables.{Known, fits_load, fits_told, is_cancelled, most, renews, strongest, told_after, told_behind, told_granted, told_loaded}
use Rattle.chi_observer.specs.Moments.{may_be_dirty, may_be_stored}
use Rattle.chi_observer.specs.Begun.{act_due, act_left_over, asks, certainty_sent, is_told, may_tell_stored, sender, supposed_of, told_kept}
use Rattle.chi_observer.proofs.Finite.{no, left, right, both, implies, follow, all_bools, each_bool, all_tolds, each_told}
use Rattle.chi_observer.proofs.Facts.{same_truth, same_truth_is}
use Rattle.chi_observer.proofs.Spots.{can_be, fits_can, Tried, all_plain, all_paired, known_spots, each_known_spot, told_spots, each_told_spot, Gifts, by_kind, told_gifts, each_told_gift}

-- TWO THAT ARE TOLD ALIKE
abbrev pub same_told : Told → Told → Bool
same_told I I = true
same_told SC SC = true
same_told SCOrI SCOrI = true
same_told UC UC = true
same_told UCOrI UCOrI = true
same_told UCE UCE = true
same_told UCEOrI UCEOrI = true
same_told UCOrUCE UCOrUCE = true
same_told UD UD = true
same_told SD SD = true
same_told tolds.Writing tolds.Writing = true
same_told a b = false

pub same_told_is : (a b : Told) → same_told a b ≡ true → a ≡ b
same_told_is I I h = refl
same_told_is I other h = no h
same_told_is SC SC h = refl
same_told_is SC other h = no h
same_told_is SCOrI SCOrI h = refl
same_told_is SCOrI other h = no h
same_told_is UC UC h = refl
same_told_is UC other h = no h
same_told_is UCOrI UCOrI h = refl
same_told_is UCOrI other h = no h
same_told_is UCE UCE h = refl
same_told_is UCE other h = no h
same_told_is UCEOrI UCEOrI h = refl
same_told_is UCEOrI other h = no h
same_told_is UCOrUCE UCOrUCE h = refl
same_told_is UCOrUCE other h = no h
same_told_is UD UD h = refl
same_told_is UD other h = no h
same_told_is SD SD h = refl
same_told_is SD other h = no h
same_told_is tolds.Writing tolds.Writing h = refl
same_told_is tolds.Writing other h = no h

abbrev pub all_certain : (Certainty → Bool) → Bool
all_certain f = f ToldSo && (f Unique && f Unknown)

pub each_certain : (f : Certainty → Bool) → all_certain f ≡ true → (c : Certainty) → f c ≡ true
each_certain f h ToldSo = left (f ToldSo) _ h
each_certain f h Unique = left (f Unique) _ (right (f ToldSo) _ h)
each_certain f h Unknown = right (f Unique) _ (right (f ToldSo) _ h)

-- of a copy of which more or less is known, and a request from before or none
abbrev pub all_marks : (Certainty → Bool → Bool) → Bool
all_marks f = all_certain (λ c. all_bools (λ asked. f c asked))

pub each_mark : (f : Certainty → Bool → Bool) → all_marks f ≡ true → (c : Certainty) (asked : Bool) → f c asked ≡ true
each_mark f h c asked = each_bool (f c) (each_certain (λ c. all_bools (λ asked. f c asked)) h c) asked

-- beside such a copy there is none
abbrev pub is_alone : Told → Bool
is_alone t = is_unique (strongest t) || same (strongest t) Writing

-- of a copy that is known to be unique alone no more than a CompAck is due
abbrev pub is_still : Due → Bool
is_still Nothing = true
is_still Acknowledgement = true
is_still other = false

abbrev pub may_stand : Certainty → Bool → Due → Told → Bool
may_stand Unique asked d t = not asked && (is_still d && is_unique (strongest t))
may_stand other asked d t = true

-- WHAT IS TOLD OF EACH COPY
-- no copy is dirty while a request of such a kind is open
abbrev pub is_clean_kind : Kind → Bool
is_clean_kind ReadUnique = false
is_clean_kind CleanUnique = false
is_clean_kind MakeUnique = false
is_clean_kind WriteBackFull = false
is_clean_kind WriteCleanFull = false
is_clean_kind other = true

abbrev pub is_open_clean : Due → Bool
is_open_clean d = is_open_of is_clean_kind d

abbrev pub is_writing : Due → Bool
is_writing (WriteData kind) = true
is_writing other = false

-- clean: such a request is open
abbrev pub holds_by : Bool → Due → Known → Bool
holds_by clean d t = implies (clean && not t.cancelled) (not (is_dirty (most t))) && (implies (not (is_writing d)) (not (same (most t) Writing)) && implies t.cancelled (is_resending d))

abbrev clean_behind : Act → Bool → Bool
clean_behind (Request kind) clean = is_clean_kind kind
clean_behind (Resend kind) clean = is_clean_kind kind
clean_behind (SnpResp answer) clean = clean
clean_behind (Load word) clean = clean
clean_behind (Store word) clean = clean
clean_behind other clean = false

true_last : (b : Bool) → implies b true ≡ true
true_last true = refl
true_last false = refl

clean_sent : (a : Act) (d : Due) → is_open_clean (due_after a d) ≡ clean_behind a (is_open_clean d)
clean_sent (Request k) d = refl
clean_sent (Resend k) d = refl
clean_sent (SnpResp y) d = refl
clean_sent CompAck d = refl
clean_sent (CopyBackWrData s) d = refl
clean_sent NonCopyBackWrData d = refl
clean_sent (Load word) d = refl
clean_sent (Store word) d = refl

abbrev resends : Act → Bool
resends (Resend kind) = true
resends other = false

abbrev is_open : Due → Bool
is_open (Completion kind) = true
is_open (Resending kind) = true
is_open (SureCompletion kind) = true
is_open other = false

clean_is_open : (d : Due) → implies (is_open_clean d) (is_open d) ≡ true
clean_is_open Nothing = refl
clean_is_open (Completion k) = true_last (is_clean_kind k)
clean_is_open (Resending k) = true_last (is_clean_kind k)
clean_is_open (SureCompletion k) = true_last (is_clean_kind k)
clean_is_open (WriteData k) = refl
clean_is_open Acknowledgement = refl

-- what holds of an agent holds behind its flit, and a cancel that is sure stays so until the next request
held_in : Stores → Act → Bool → Due → Known → Bool → Bool → Bool
held_in z a x d t differ clean = implies (fits_told z a x d t && (holds_by clean d t && (implies clean (is_open d) && implies (resends a) (same_truth clean (is_open_clean d)))))
    (holds_by (clean_behind a clean) (due_after a d) (told_after a d t differ) && implies (t.cancelled && not (is_request a)) (is_cancelled a d t differ))

abbrev held_table : Stores → Act → Bool → Due → Known → Bool
held_table z a x d t = all_bools (λ differ. all_bools (λ clean. held_in z a x d t differ clean))

held_plain : (z : Stores) (word : Word) (x : Bool) (d : Due) → all_plain (λ a y. known_spots (held_table z) a y d) word x ≡ true
unfolding held_in
held_plain Hidden word x Nothing = refl
held_plain Listed word x Nothing = refl
held_plain Hidden word x (Completion k) = refl
held_plain Listed word x (Completion k) = refl
held_plain Hidden word x (Resending k) = refl
held_plain Listed word x (Resending k) = refl
held_plain Hidden word x (SureCompletion k) = refl
held_plain Listed word x (SureCompletion k) = refl
held_plain Hidden word x (WriteData k) = refl
held_plain Listed word x (WriteData k) = refl
held_plain Hidden word x Acknowledgement = refl
held_plain Listed word x Acknowledgement = refl

held_paired : (z : Stores) (x : Bool) → all_paired (λ a d. known_spots (held_table z) a x d) ≡ true
unfolding held_in
held_paired Hidden x = refl
held_paired Listed x = refl

held_tried : (z : Stores) → Tried (known_spots (held_table z))
held_tried z = record { plain = held_plain z; paired = held_paired z }

same_truth_self : (b : Bool) → same_truth b b ≡ true
same_truth_self true = refl
same_truth_self false = refl

implied_by : (a b : Bool) → b ≡ true → implies a b ≡ true
implied_by true b h = h
implied_by false b h = refl

held_sent : (z : Stores) (a : Act) (x : Bool) (d : Due) (t : Known) (differ : Bool) → fits_told z a x d t ≡ true → holds_by (is_open_clean d) d t ≡ true
    → (holds_by (clean_behind a (is_open_clean d)) (due_after a d) (told_after a d t differ) && implies (t.cancelled && not (is_request a)) (is_cancelled a d t differ)) ≡ true
unfolding held_in
held_sent z a x d t differ f h = follow (fits_told z a x d t && (holds_by (is_open_clean d) d t && (implies (is_open_clean d) (is_open d) && implies (resends a) (same_truth (is_open_clean d) (is_open_clean d))))) _
    (each_bool (λ clean. held_in z a x d t differ clean) (each_bool (λ differ. all_bools (λ clean. held_in z a x d t differ clean)) (each_known_spot (held_table z) (held_tried z) a x d (fits_can z a x d t f) t) differ) (is_open_clean d))
    (both (fits_told z a x d t) _ f (both (holds_by (is_open_clean d) d t) _ h (both (implies (is_open_clean d) (is_open d)) _ (clean_is_open d) (implied_by (resends a) _ (same_truth_self (is_open_clean d))))))

pub holds_sent : (z : Stores) (a : Act) (x : Bool) (d : Due) (t : Known) (differ : Bool) → fits_told z a x d t ≡ true → holds_by (is_open_clean d) d t ≡ true → holds_by (is_open_clean (due_after a d)) (due_after a d) (told_after a d t differ) ≡ true
holds_sent z a x d t differ f h = subst (λ (c : Bool). holds_by c (due_after a d) (told_after a d t differ) ≡ true) (sym (clean_sent a d)) (left _ (implies (t.cancelled && not (is_request a)) (is_cancelled a d t differ)) (held_sent z a x d t differ f h))

pub cancel_stays : (z : Stores) (a : Act) (x : Bool) (d : Due) (t : Known) (differ : Bool) → fits_told z a x d t ≡ true → holds_by (is_open_clean d) d t ≡ true → (t.cancelled && not (is_request a)) ≡ true → is_cancelled a d t differ ≡ true
cancel_stays z a x d t differ f h = follow (t.cancelled && not (is_request a)) _ (right (holds_by (clean_behind a (is_open_clean d)) (due_after a d) (told_after a d t differ)) _ (held_sent z a x d t differ f h))

held_gift : Grant → Due → Option Snoop → Known → Bool
held_gift g d q t = implies (holds_by (is_open_clean d) d t) (holds_by (is_open_clean (due_granted g d)) (due_granted g d) (told_granted g d t))

held_given : Gifts (told_gifts held_gift)
unfolding held_gift
held_given = by_kind (told_gifts held_gift) (λ x. refl)

pub holds_given : (g : Grant) (d : Due) (q : Option Snoop) (t : Known) → is_due g d q ≡ true → holds_by (is_open_clean d) d t ≡ true → holds_by (is_open_clean (due_granted g d)) (due_granted g d) (told_granted g d t) ≡ true
unfolding held_gift
holds_given g d q t due h = follow (holds_by (is_open_clean d) d t) _ (each_told_gift held_gift held_given g d q due t) h

-- A FLIT OF A CACHE
-- what is due, and told, where it is supposed
abbrev pub due_in : Bool → Act → Due → Due
due_in asked a d = if asked then act_due a else d

abbrev pub told_in : Certainty → Act → Told → Told
told_in c a t = supposed_of c t (sender a)

abbrev pub known_in : Certainty → Bool → Act → Known → Known
known_in c asked a t = record { told = told_in c a t.told; cancelled = t.cancelled && not asked }

abbrev pub plain_mark : Certainty → Bool → AgentBegun
plain_mark c asked = record { copy = c; asked = asked; snooped = false }

-- where copies are calm, so are those that are supposed
abbrev pub is_calmer : Stores → Bool → Due → Told → Due → Told → Bool
is_calmer z tells d t e u = implies (not (may_be_stored z d (record { told = t; cancelled = false }) tells)) (not (may_be_stored z e (record { told = u; cancelled = false }) tells))
    && implies (not (may_be_dirty z d (record { told = t; cancelled = false }) tells)) (not (may_be_dirty z e (record { told = u; cancelled = false }) tells))

abbrev pub sent_well : Stores → Certainty → Bool → Act → Bool → Due → Known → Bool
sent_well z c asked a x d t = (fits_told z a x (due_in asked a d) (known_in c asked a t) && fits_told z a x (due_in asked a d) (record { told = told_in c a t.told; cancelled = false }))
    && (implies (not (tells_words a)) (implies (renews z a x (due_in asked a d) (known_in c asked a t)) (renews z a x d t))
    && (same_told (told_kept (certainty_sent c a) (told_behind a (due_in asked a d) (told_in c a t.told))) (told_kept (certainty_sent c a) (told_behind a d t.told))
    && (implies (is_alone (told_behind a (due_in asked a d) (told_in c a t.told))) (is_alone (told_behind a d t.told))
    && (implies (not (looks a && asked)) (is_calmer z (not (looks a)) (due_after a d) (told_behind a d t.told) (due_after a (due_in asked a d)) (told_behind a (due_in asked a d) (told_in c a t.told)))
    && may_stand (certainty_sent c a) (asked && not (asks a)) (due_after a d) (told_behind a d t.told)))))

abbrev pub may_send : Stores → Certainty → Bool → Act → Bool → Due → Known → Bool
may_send z c asked a x d t = fits_told z a x d t && (may_stand c asked d t.told && not (act_left_over (plain_mark c asked) a))

sent_in : Stores → Act → Bool → Due → Known → Certainty → Bool → Bool
sent_in z a x d t c asked = implies (may_send z c asked a x d t) (sent_well z c asked a x d t)

abbrev sent_table : Stores → Act → Bool → Due → Known → Bool
sent_table z a x d t = all_marks (λ c asked. sent_in z a x d t c asked)

sent_plain : (z : Stores) (word : Word) (x : Bool) (d : Due) → all_plain (λ a y. known_spots (sent_table z) a y d) word x ≡ true
unfolding sent_in
sent_plain Hidden word x Nothing = refl
sent_plain Listed word x Nothing = refl
sent_plain Hidden word x (Completion k) = refl
sent_plain Listed word x (Completion k) = refl
sent_plain Hidden word x (Resending k) = refl
sent_plain Listed word x (Resending k) = refl
sent_plain Hidden word x (SureCompletion k) = refl
sent_plain Listed word x (SureCompletion k) = refl
sent_plain Hidden word x (WriteData k) = refl
sent_plain Listed word x (WriteData k) = refl
sent_plain Hidden word x Acknowledgement = refl
sent_plain Listed word x Acknowledgement = refl

sent_paired : (z : Stores) (x : Bool) → all_paired (λ a d. known_spots (sent_table z) a x d) ≡ true
unfolding sent_in
sent_paired Hidden x = refl
sent_paired Listed x = refl

sent_tried : (z : Stores) → Tried (known_spots (sent_table z))
sent_tried z = record { plain = sent_plain z; paired = sent_paired z }

pub sends_well : (z : Stores) (c : Certainty) (asked : Bool) (a : Act) (x : Bool) (d : Due) (t : Known) → may_send z c asked a x d t ≡ true → sent_well z c asked a x d t ≡ true
unfolding sent_in
sends_well z c asked a x d t h = follow (may_send z c asked a x d t) _ (each_mark (λ c asked. sent_in z a x d t c asked) (each_known_spot (sent_table z) (sent_tried z) a x d (fits_can z a x d t (left _ _ h)) t) c asked) h

-- the copy that is supposed goes with what the sender's goes with
stood_in : Stores → Act → Bool → Due → Known → Told → Bool
stood_in z a x d t u = implies (fits_told z a x d t) (implies (compatible (most t) (strongest u)) (compatible (strongest (sender a)) (strongest u)))

stood_plain : (z : Stores) (word : Word) (x : Bool) (d : Due) → all_plain (λ a y. told_spots (stood_in z) a y d) word x ≡ true
unfolding stood_in
stood_plain Hidden word x Nothing = refl
stood_plain Listed word x Nothing = refl
stood_plain Hidden word x (Completion k) = refl
stood_plain Listed word x (Completion k) = refl
stood_plain Hidden word x (Resending k) = refl
stood_plain Listed word x (Resending k) = refl
stood_plain Hidden word x (SureCompletion k) = refl
stood_plain Listed word x (SureCompletion k) = refl
stood_plain Hidden word x (WriteData k) = refl
stood_plain Listed word x (WriteData k) = refl
stood_plain Hidden word x Acknowledgement = refl
stood_plain Listed word x Acknowledgement = refl

stood_paired : (z : Stores) (x : Bool) → all_paired (λ a d. told_spots (stood_in z) a x d) ≡ true
unfolding stood_in
stood_paired Hidden x = refl
stood_paired Listed x = refl

stood_tried : (z : Stores) → Tried (told_spots (stood_in z))
stood_tried z = record { plain = stood_plain z; paired = stood_paired z }

pub stands_well : (z : Stores) (a : Act) (x : Bool) (d : Due) (t : Known) (u : Told) → fits_told z a x d t ≡ true → compatible (most t) (strongest u) ≡ true → compatible (strongest (sender a)) (strongest u) ≡ true
unfolding stood_in
stands_well z a x d t u f c = follow (compatible (most t) (strongest u)) _ (follow (fits_told z a x d t) _ (each_told_spot (stood_in z) (stood_tried z) a x d (fits_can z a x d t f) t u) f) c

-- which snoop isn't answered is of no matter but to an answer
abbrev pub answers : Act → Bool
answers (SnpResp answer) = true
answers other = false

snoop_in : Stores → Act → Bool → Due → Known → Bool
snoop_in z a x d t = answers a || (same_truth (fits_told z a x d t) (fits_told z a false d t) && same_truth (renews z a x d t) (renews z a false d t))

snoop_plain : (z : Stores) (word : Word) (x : Bool) (d : Due) → all_plain (λ a y. known_spots (snoop_in z) a y d) word x ≡ true
unfolding snoop_in
snoop_plain Hidden word true Nothing = refl
snoop_plain Listed word true Nothing = refl
snoop_plain Hidden word true (Completion k) = refl
snoop_plain Listed word true (Completion k) = refl
snoop_plain Hidden word true (Resending k) = refl
snoop_plain Listed word true (Resending k) = refl
snoop_plain Hidden word true (SureCompletion k) = refl
snoop_plain Listed word true (SureCompletion k) = refl
snoop_plain Hidden word true (WriteData k) = refl
snoop_plain Listed word true (WriteData k) = refl
snoop_plain Hidden word true Acknowledgement = refl
snoop_plain Listed word true Acknowledgement = refl
snoop_plain Hidden word false Nothing = refl
snoop_plain Listed word false Nothing = refl
snoop_plain Hidden word false (Completion k) = refl
snoop_plain Listed word false (Completion k) = refl
snoop_plain Hidden word false (Resending k) = refl
snoop_plain Listed word false (Resending k) = refl
snoop_plain Hidden word false (SureCompletion k) = refl
snoop_plain Listed word false (SureCompletion k) = refl
snoop_plain Hidden word false (WriteData k) = refl
snoop_plain Listed word false (WriteData k) = refl
snoop_plain Hidden word false Acknowledgement = refl
snoop_plain Listed word false Acknowledgement = refl

snoop_paired : (z : Stores) (x : Bool) → all_paired (λ a d. known_spots (snoop_in z) a x d) ≡ true
unfolding snoop_in
snoop_paired Hidden true = refl
snoop_paired Listed true = refl
snoop_paired Hidden false = refl
snoop_paired Listed false = refl

snoop_tried : (z : Stores) → Tried (known_spots (snoop_in z))
snoop_tried z = record { plain = snoop_plain z; paired = snoop_paired z }

pub one_is : (a b : Bool) → a ≡ false → (a || b) ≡ true → b ≡ true
one_is true b e h = no (sym e)
one_is false b e h = h

any_snoop : (z : Stores) (a : Act) (x : Bool) (d : Due) (t : Known) → can_be a d ≡ true → answers a ≡ false → (same_truth (fits_told z a x d t) (fits_told z a false d t) && same_truth (renews z a x d t) (renews z a false d t)) ≡ true
unfolding snoop_in
any_snoop z a x d t can e = one_is (answers a) _ e (each_known_spot (snoop_in z) (snoop_tried z) a x d can t)

fits_unsnooped : (z : Stores) (a : Act) (x : Bool) (d : Due) (t : Known) → can_be a d ≡ true → answers a ≡ false → fits_told z a x d t ≡ fits_told z a false d t
fits_unsnooped z a x d t can e = same_truth_is (fits_told z a x d t) _ (left _ (same_truth (renews z a x d t) (renews z a false d t)) (any_snoop z a x d t can e))

renews_unsnooped : (z : Stores) (a : Act) (x : Bool) (d : Due) (t : Known) → can_be a d ≡ true → answers a ≡ false → renews z a x d t ≡ renews z a false d t
renews_unsnooped z a x d t can e = same_truth_is (renews z a x d t) _ (right (same_truth (fits_told z a x d t) (fits_told z a false d t)) _ (any_snoop z a x d t can e))

pub fits_besides : (z : Stores) (a : Act) (x y : Bool) (d : Due) (t : Known) → (answers a ≡ false) ⊎ (y ≡ x) → fits_told z a x d t ≡ true → fits_told z a y d t ≡ true
fits_besides z a x y d t (inl e) f = let can = fits_can z a x d t f in fits_unsnooped z a y d t can e ∙ sym (fits_unsnooped z a x d t can e) ∙ f
fits_besides z a x y d t (inr e) f = ap (λ (v : Bool). fits_told z a v d t) e ∙ f

pub renews_besides : (z : Stores) (a : Act) (x y : Bool) (d : Due) (t : Known) → (answers a ≡ false) ⊎ (y ≡ x) → fits_told z a x d t ≡ true → renews z a y d t ≡ renews z a x d t
renews_besides z a x y d t (inl e) f = let can = fits_can z a x d t f in renews_unsnooped z a y d t can e ∙ sym (renews_unsnooped z a x d t can e)
renews_besides z a x y d t (inr e) f = ap (λ (v : Bool). renews z a v d t) e

-- a cancel that is surely known is one: b, the words differ from those that are known
gone_in : Act → Bool → Due → Known → Certainty → Bool → Bool → Bool → Bool
gone_in a x d t c asked was b = implies (implies was (t.cancelled && not asked))
    (implies (is_cancelled a (due_in asked a d) (record { told = told_in c a t.told; cancelled = was }) (b && not ((asked || not (is_told c)) && may_tell_stored a x))) (is_cancelled a d t b && not (asked && not (asks a))))

abbrev gone_table : Act → Bool → Due → Known → Bool
gone_table a x d t = all_marks (λ c asked. all_bools (λ was. all_bools (λ b. gone_in a x d t c asked was b)))

gone_plain : (word : Word) (x : Bool) (d : Due) → all_plain (λ a y. known_spots gone_table a y d) word x ≡ true
unfolding gone_in
gone_plain word x Nothing = refl
gone_plain word x (Completion k) = refl
gone_plain word x (Resending k) = refl
gone_plain word x (SureCompletion k) = refl
gone_plain word x (WriteData k) = refl
gone_plain word x Acknowledgement = refl

gone_paired : (x : Bool) → all_paired (λ a d. known_spots gone_table a x d) ≡ true
unfolding gone_in
gone_paired x = refl

gone_tried : Tried (known_spots gone_table)
gone_tried = record { plain = gone_plain; paired = gone_paired }

-- where words differ more surely
more_of : (c d u b v : Bool) → (c || (d && (u && (false || v)))) ≡ true → (c || (d && (u && (true || v)))) ≡ true
more_of true d u b v h = refl
more_of false true true b v h = refl
more_of false true false b v h = h
more_of false false u b v h = h

pub cancels_more : (a : Act) (d : Due) (k : Known) (b c : Bool) → implies b c ≡ true → is_cancelled a d k b ≡ true → is_cancelled a d k c ≡ true
cancels_more a d k true true h e = e
cancels_more a d k true false h e = no h
cancels_more a d k false false h e = e
cancels_more (SnpResp y) (Resending q) k false true h e = more_of k.cancelled _ _ true _ e
cancels_more (SnpResp y) Nothing k false true h e = e
cancels_more (SnpResp y) (Completion q) k false true h e = e
cancels_more (SnpResp y) (SureCompletion q) k false true h e = e
cancels_more (SnpResp y) (WriteData q) k false true h e = e
cancels_more (SnpResp y) Acknowledgement k false true h e = e
cancels_more (Load word) (Resending q) k false true h e = e
cancels_more (Load word) Nothing k false true h e = e
cancels_more (Load word) (Completion q) k false true h e = e
cancels_more (Load word) (SureCompletion q) k false true h e = e
cancels_more (Load word) (WriteData q) k false true h e = e
cancels_more (Load word) Acknowledgement k false true h e = e
cancels_more (Store word) (Resending q) k false true h e = e
cancels_more (Store word) Nothing k false true h e = e
cancels_more (Store word) (Completion q) k false true h e = e
cancels_more (Store word) (SureCompletion q) k false true h e = e
cancels_more (Store word) (WriteData q) k false true h e = e
cancels_more (Store word) Acknowledgement k false true h e = e
cancels_more (Request y) d k false true h e = e
cancels_more (Resend y) d k false true h e = e
cancels_more CompAck d k false true h e = e
cancels_more (CopyBackWrData y) d k false true h e = e
cancels_more NonCopyBackWrData d k false true h e = e

pub gone_well : (z : Stores) (a : Act) (x : Bool) (d : Due) (t : Known) (c : Certainty) (asked was b : Bool) → fits_told z a x d t ≡ true → implies was (t.cancelled && not asked) ≡ true
    → is_cancelled a (due_in asked a d) (record { told = told_in c a t.told; cancelled = was }) (b && not ((asked || not (is_told c)) && may_tell_stored a x)) ≡ true → (is_cancelled a d t b && not (asked && not (asks a))) ≡ true
unfolding gone_in
gone_well z a x d t c asked was b f h = follow _ _ (follow (implies was (t.cancelled && not asked)) _
    (each_bool (λ b. gone_in a x d t c asked was b) (each_bool (λ was. all_bools (λ b. gone_in a x d t c asked was b))
    (each_mark (λ c asked. all_bools (λ was. all_bools (λ b. gone_in a x d t c asked was b))) (each_known_spot gone_table gone_tried a x d (fits_can z a x d t f) t) c asked) was) b) h)

-- behind a load no more copies may be stored to, nor be dirty
loaded_in : Bool → Told → Bool
loaded_in u t = implies (fits_load u t)
    (implies (not (u && is_unique (strongest (told_loaded t)))) (not (u && is_unique (strongest t)))
    && implies (not (is_dirty (strongest (told_loaded t)) || (u && is_unique (strongest (told_loaded t))))) (not (is_dirty (strongest t) || (u && is_unique (strongest t)))))

loaded_holds : all_bools (λ u. all_tolds (λ t. loaded_in u t)) ≡ true
unfolding loaded_in
loaded_holds = refl

pub loaded_well : (u : Bool) (t : Told) → fits_load u t ≡ true → (implies (not (u && is_unique (strongest (told_loaded t)))) (not (u && is_unique (strongest t)))
    && implies (not (is_dirty (strongest (told_loaded t)) || (u && is_unique (strongest (told_loaded t))))) (not (is_dirty (strongest t) || (u && is_unique (strongest t))))) ≡ true
unfolding loaded_in
loaded_well u t f = follow (fits_load u t) _ (each_told (loaded_in u) (each_bool (λ u. all_tolds (λ t. loaded_in u t)) loaded_holds u) t) f
