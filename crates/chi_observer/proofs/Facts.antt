-- The tables fit one another: tried at each place.
use Rattle.std.proofs.Common.{rules, arith, ◌≡◌, refl, sym, ap, subst, ◌∙◌}
use Rattle.std.specs.Prelude.{Bool, true, false, ◌&&◌, ◌||◌, not, Option, Some, None, if◌then◌else◌}
use Rattle.chi_observer.specs.declared.kinds.Kind.TheVariants.{Evict}
use Rattle.chi_observer.specs.declared.told.Told.{Told}
use Rattle.chi_observer.specs.declared.told.Told.TheVariants.{SD}
use Rattle.chi_observer.specs.declared.flits.Due.{Due}
use Rattle.chi_observer.specs.declared.flits.Stores.{Stores}
use Rattle.chi_observer.specs.declared.flits.Stores.TheVariants.{Hidden, Listed}
use Rattle.chi_observer.specs.declared.flits.Due.TheVariants.{Nothing, Completion, Resending, SureCompletion, WriteData, Acknowledgement}
use Rattle.chi_observer.specs.declared.flits.Word.{Word}
use Rattle.chi_observer.specs.declared.flits.Act.{Act}
use Rattle.chi_observer.specs.declared.flits.Act.TheVariants.{Request, Resend, SnpResp, CompAck, CopyBackWrData, NonCopyBackWrData, Load, Store}
use Rattle.chi_observer.specs.declared.flits.Answer.TheVariants.{SnpRespI, SnpRespUC}
use Rattle.chi_observer.specs.Copies.{Copy, Held, holds_data, is_unique, is_dirty, is_clean, same, compatible}
use Rattle.chi_observer.specs.Copies.Copy.{Invalid, UniqueDirty, SharedDirty, Writing}
use Rattle.chi_observer.specs.Rules.{is_free, are_hidden, hides_stores, reads_any, is_resending, acts, throws, loses, looks, stores, leaves_any, has_data, writes, tells_words, due_after}
use Rattle.chi_observer.specs.Tables.{Known, strongest, most, may, may_drift, reach, fresh, goes_with, told_behind, told_after, fits_told, tells_dirty, renews}
use Rattle.chi_observer.proofs.Finite.{no, left, right, both, implies, follow}
use Rattle.chi_observer.proofs.Spots.{if_some, acted_can, fits_can, Tried, all_plain, all_paired, spots, each_spot, sent_spots, each_sent, told_spots, each_told_spot, known_spots, each_known_spot, DueCopies, each_due_copy, all_pairs, each_pair, all_told_pairs, each_told_pair, all_copy_pairs, each_copy_pair}

pub turned : (b : Bool) → not b ≡ true → b ≡ false
turned true h = no h
turned false h = refl

pub flip : (b : Bool) → b ≡ false → not b ≡ true
flip true h = no (sym h)
flip false h = refl

pub contrary : (a b : Bool) → implies a b ≡ true → b ≡ false → a ≡ false
contrary true b h e = no (sym e ∙ h)
contrary false b h e = refl

pub and_false : (a b : Bool) → b ≡ false → (a && b) ≡ false
and_false true b h = h
and_false false b h = refl

pub implied : (a b : Bool) → (a ≡ true → b ≡ true) → implies a b ≡ true
implied true b h = h refl
implied false b h = refl

abbrev pub same_truth : Bool → Bool → Bool
same_truth true b = b
same_truth false b = not b

pub same_truth_is : (a b : Bool) → same_truth a b ≡ true → a ≡ b
same_truth_is true b h = sym h
same_truth_is false true h = no h
same_truth_is false false h = refl

pub same_is : (a b : Copy) → same a b ≡ true → a ≡ b
same_is a b h = search (rules, arith)

abbrev pub same_held : Held → Held → Bool
same_held a b = same a.copy b.copy && same_truth a.cancelled b.cancelled

pub same_held_is : (a b : Held) → same_held a b ≡ true → a ≡ b
same_held_is a b h = λ i. record { copy = same_is a.copy b.copy (left _ _ h) i; cancelled = same_truth_is a.cancelled b.cancelled (right (same a.copy b.copy) _ h) i }

-- a copy of another form, cancelled or not as one is
abbrev pub of_form : Copy → Held → Held
of_form s h = record { copy = s; cancelled = h.cancelled }

-- the one where the other isn't
pub one_of : (a b : Bool) → (a || b) ≡ true → b ≡ false → a ≡ true
one_of true b h e = refl
one_of false b h e = no (sym e ∙ h)

pub other_of : (a b : Bool) → (a || b) ≡ true → a ≡ false → b ≡ true
other_of true b h e = no (sym e)
other_of false b h e = h

-- what is sent with data has data, and what writes without a copy is told so
abbrev pub on_some : Option Held → (Held → Bool) → Bool
on_some None f = true
on_some (Some s) f = f s

some_of : (o : Option Held) (s' : Held) (f : Held → Bool) → on_some o f ≡ true → o ≡ Some s' → f s' ≡ true
some_of o s' f h e = subst (λ (x : Option Held). on_some x f ≡ true) e h

sent_table : Act → Bool → Due → Held → Bool
sent_table a x d s = on_some (acts a x d s) (λ s'. implies (has_data a) (holds_data s.copy) && implies (writes a) (same s.copy Writing))

sent_holds_plain : (word : Word) (x : Bool) (d : Due) → all_plain (λ a y. sent_spots sent_table a y d) word x ≡ true
unfolding sent_table
sent_holds_plain word x Nothing = refl
sent_holds_plain word x (Completion k) = refl
sent_holds_plain word x (Resending k) = refl
sent_holds_plain word x (SureCompletion k) = refl
sent_holds_plain word x (WriteData k) = refl
sent_holds_plain word x Acknowledgement = refl

sent_holds_paired : (x : Bool) → all_paired (λ a d. sent_spots sent_table a x d) ≡ true
unfolding sent_table
sent_holds_paired x = refl

sent_holds : Tried (sent_spots sent_table)
sent_holds = record { plain = sent_holds_plain; paired = sent_holds_paired }

sent_well : (a : Act) (x : Bool) (d : Due) (s s' : Held) → acts a x d s ≡ Some s' → (implies (has_data a) (holds_data s.copy) && implies (writes a) (same s.copy Writing)) ≡ true
unfolding sent_table
sent_well a x d s s' e = some_of (acts a x d s) s' (λ s'. implies (has_data a) (holds_data s.copy) && implies (writes a) (same s.copy Writing)) (each_sent sent_table sent_holds a x d (acted_can a x d s s' e) s) e

pub sent_data : (a : Act) (x : Bool) (d : Due) (s s' : Held) → acts a x d s ≡ Some s' → has_data a ≡ true → holds_data s.copy ≡ true
sent_data a x d s s' e = follow (has_data a) _ (left _ (implies (writes a) (same s.copy Writing)) (sent_well a x d s s' e))

pub sent_whole : (a : Act) (x : Bool) (d : Due) (s s' : Held) → acts a x d s ≡ Some s' → writes a ≡ true → same s.copy Writing ≡ true
sent_whole a x d s s' e = follow (writes a) _ (right (implies (has_data a) (holds_data s.copy)) _ (sent_well a x d s s' e))

-- a copy that is thrown away is shown to nobody
pub throws_silent : (a : Act) (x : Bool) → throws a x ≡ true → tells_words a ≡ false
throws_silent (SnpResp SnpRespI) x h = refl
throws_silent (SnpResp other) x h = no (right x _ h)
throws_silent other x h = no h

-- nor is one that is any then
pub any_silent : (mode : Stores) (a : Act) (x : Bool) (d : Due) (s : Copy) → leaves_any mode a x d s ≡ true → tells_words a ≡ false
any_silent mode (Request k) x d s h = no h
any_silent mode (Resend k) x d s h = no h
any_silent mode (SnpResp y) x d s h = throws_silent (SnpResp y) x (left _ _ (one_of _ false h refl))
any_silent mode CompAck x d s h = no h
any_silent mode (CopyBackWrData form) x d s h = no h
any_silent mode NonCopyBackWrData x d s h = no h
any_silent mode (Load word) x d s h = no h
any_silent mode (Store word) x d s h = refl

-- a load shows no words
pub data_looks : (a : Act) → has_data a ≡ true → looks a ≡ false
data_looks (Request k) h = refl
data_looks (Resend k) h = refl
data_looks (SnpResp y) h = refl
data_looks CompAck h = refl
data_looks (CopyBackWrData form) h = refl
data_looks NonCopyBackWrData h = refl
data_looks (Load word) h = no h
data_looks (Store word) h = refl

-- data of its own are no data of a copy
pub no_data : (a : Act) → writes a ≡ true → has_data a ≡ false
no_data (Request k) h = refl
no_data (Resend k) h = refl
no_data (SnpResp a) h = no h
no_data CompAck h = refl
no_data (CopyBackWrData s) h = no h
no_data NonCopyBackWrData h = refl
no_data (Load word) h = refl
no_data (Store word) h = refl

-- what a flit that is sent leaves; b: its data aren't the value that is known
abbrev pub taken_well : Stores → Act → Bool → Due → Known → Held → Bool → Held → Bool
taken_well mode a x d t s b s' = fits_told mode a x d t
    && ((reach mode (due_after a d) (told_after a d t b) s' && implies (not (looks a)) (may (told_behind a d t.told) s'.copy))
    && (implies (not (renews mode a x d t)) (implies (fresh mode d t s) (looks a && fresh mode (due_after a d) (told_after a d t b) s'))
    && (implies (holds_data s'.copy) (holds_data s.copy || stores a)
    && (implies (leaves_any mode a x d s.copy) (renews mode a x d t && is_unique s.copy)
    && implies (loses mode a x d s.copy) (not (holds_data s'.copy))))))

forward_table : Stores → Act → Bool → Due → Known → Held → Bool → Bool
forward_table mode a x d t s b = implies (reach mode d t s && implies b (has_data a && fresh mode d t s)) (on_some (acts a x d s) (taken_well mode a x d t s b))

forward_holds_plain : (mode : Stores) (word : Word) (x : Bool) (d : Due) → all_plain (λ a y. spots (forward_table mode) a y d) word x ≡ true
unfolding forward_table
forward_holds_plain Hidden word x Nothing = refl
forward_holds_plain Listed word x Nothing = refl
forward_holds_plain Hidden word x (Completion k) = refl
forward_holds_plain Listed word x (Completion k) = refl
forward_holds_plain Hidden word x (Resending k) = refl
forward_holds_plain Listed word x (Resending k) = refl
forward_holds_plain Hidden word x (SureCompletion k) = refl
forward_holds_plain Listed word x (SureCompletion k) = refl
forward_holds_plain Hidden word x (WriteData k) = refl
forward_holds_plain Listed word x (WriteData k) = refl
forward_holds_plain Hidden word x Acknowledgement = refl
forward_holds_plain Listed word x Acknowledgement = refl

forward_holds_paired : (mode : Stores) (x : Bool) → all_paired (λ a d. spots (forward_table mode) a x d) ≡ true
unfolding forward_table
forward_holds_paired Hidden x = refl
forward_holds_paired Listed x = refl

forward_holds : (mode : Stores) → Tried (spots (forward_table mode))
forward_holds mode = record { plain = forward_holds_plain mode; paired = forward_holds_paired mode }

pub forward : (mode : Stores) (a : Act) (x : Bool) (d : Due) (t : Known) (s s' : Held) (b : Bool) → reach mode d t s ≡ true → implies b (has_data a && fresh mode d t s) ≡ true → acts a x d s ≡ Some s' → taken_well mode a x d t s b s' ≡ true
unfolding forward_table
forward mode a x d t s s' b r h e = some_of (acts a x d s) s' (taken_well mode a x d t s b) (follow (reach mode d t s && implies b (has_data a && fresh mode d t s)) _ (each_spot (forward_table mode) (forward_holds mode) a x d (acted_can a x d s s' e) t s b) (both _ _ r h)) e

-- the copy before, where it is told t and the flit leaves s': the strongest, a dirty one where the flit says so
abbrev pub stored_before : Told → Copy
stored_before SD = SharedDirty
stored_before other = UniqueDirty

abbrev pub copy_before : Act → Due → Known → Held → Held
copy_before (Request Evict) d t s' = record { copy = most t; cancelled = is_resending d }
copy_before (Request kind) d t s' = record { copy = s'.copy; cancelled = is_resending d }
copy_before (Resend kind) d t s' = s'
copy_before CompAck d t s' = s'
copy_before (Load word) d t s' = s'
copy_before (SnpResp SnpRespUC) d t s' = s'
copy_before NonCopyBackWrData d t s' = of_form Writing s'
copy_before a d t s' = of_form (if tells_dirty a then stored_before t.told else most t) s'

abbrev pub is_some_of : Option Held → Held → Bool
is_some_of None s' = false
is_some_of (Some s) s' = same_held s s'

abbrev pub led_well : Stores → Act → Bool → Due → Known → Held → Held → Bool → Bool
led_well mode a x d t s s' b = reach mode d t s
    && (is_some_of (acts a x d s) s'
    && (implies (b || (renews mode a x d t && not (has_data a || (throws a x || stores a)))) (fresh mode d t s)
    && ((implies (has_data a) (holds_data s.copy)
    && implies (writes a) (same s.copy Writing && not (holds_data s'.copy)))
    && (implies (renews mode a x d t && throws a x) (loses mode a x d s.copy)
    && (implies (leaves_any mode a x d s.copy) (is_unique s.copy)
    && (implies (loses mode a x d s.copy) (not (holds_data s'.copy))
    && implies (stores a) (holds_data s'.copy)))))))

-- right behind the last flit, before hidden steps
abbrev pub is_settled : Due → Known → Held → Bool
is_settled Nothing t s = may t.told s.copy
is_settled (Resending kind) t s = may t.told s.copy && same_truth s.cancelled t.cancelled
is_settled other t s = true

abbrev pub led_to : Stores → Act → Bool → Due → Known → Held → Bool → Bool
led_to mode a x d t s' b = fits_told mode a x d t && (reach mode (due_after a d) (told_after a d t b) s' && (is_settled (due_after a d) (told_after a d t b) s' && implies b (has_data a && renews mode a x d t)))

backward_table : Stores → Act → Bool → Due → Known → Held → Bool → Bool
backward_table mode a x d t s' b = implies (led_to mode a x d t s' b) (led_well mode a x d t (copy_before a d t s') s' b)

backward_holds_plain : (mode : Stores) (word : Word) (x : Bool) (d : Due) → all_plain (λ a y. spots (backward_table mode) a y d) word x ≡ true
unfolding backward_table
backward_holds_plain Hidden word x Nothing = refl
backward_holds_plain Listed word x Nothing = refl
backward_holds_plain Hidden word x (Completion k) = refl
backward_holds_plain Listed word x (Completion k) = refl
backward_holds_plain Hidden word x (Resending k) = refl
backward_holds_plain Listed word x (Resending k) = refl
backward_holds_plain Hidden word x (SureCompletion k) = refl
backward_holds_plain Listed word x (SureCompletion k) = refl
backward_holds_plain Hidden word x (WriteData k) = refl
backward_holds_plain Listed word x (WriteData k) = refl
backward_holds_plain Hidden word x Acknowledgement = refl
backward_holds_plain Listed word x Acknowledgement = refl

backward_holds_paired : (mode : Stores) (x : Bool) → all_paired (λ a d. spots (backward_table mode) a x d) ≡ true
unfolding backward_table
backward_holds_paired Hidden x = refl
backward_holds_paired Listed x = refl

backward_holds : (mode : Stores) → Tried (spots (backward_table mode))
backward_holds mode = record { plain = backward_holds_plain mode; paired = backward_holds_paired mode }

pub backward : (mode : Stores) (a : Act) (x : Bool) (d : Due) (t : Known) (s' : Held) (b : Bool) → led_to mode a x d t s' b ≡ true → led_well mode a x d t (copy_before a d t s') s' b ≡ true
unfolding backward_table
backward mode a x d t s' b h = follow (led_to mode a x d t s' b) _ (each_spot (backward_table mode) (backward_holds mode) a x d (fits_can mode a x d t (left _ _ h)) t s' b) h

pub some_same : (o : Option Held) (s : Held) → is_some_of o s ≡ true → o ≡ Some s
some_same None s h = no h
some_same (Some a) s h = ap (λ (x : Held). Some x) (same_held_is a s h)

-- what may be below a told copy
below_table : Stores → Due → Known → Held → Bool
below_table mode d t s = implies (reach mode d t s) (may_drift mode t.told s.copy)

below_holds : (mode : Stores) → DueCopies (below_table mode)
unfolding below_table
below_holds Hidden k = refl
below_holds Listed k = refl

pub drifted : (mode : Stores) (d : Due) (t : Known) (s : Held) → reach mode d t s ≡ true → may_drift mode t.told s.copy ≡ true
unfolding below_table
drifted mode d t s h = follow (reach mode d t s) _ (each_due_copy (below_table mode) (below_holds mode) d t s) h

pairs_table : Stores → Told → Told → Copy → Copy → Bool
pairs_table mode t u s r = implies (may_drift mode t s) (implies (may_drift mode u r) (implies (compatible (strongest t) (strongest u)) (compatible s r)))

pairs_holds : (mode : Stores) → all_pairs (pairs_table mode) ≡ true
unfolding pairs_table
pairs_holds Hidden = refl
pairs_holds Listed = refl

pub below : (mode : Stores) (d e : Due) (t u : Known) (s r : Held) → reach mode d t s ≡ true → reach mode e u r ≡ true → goes_with t u ≡ true → compatible s.copy r.copy ≡ true
unfolding pairs_table
below mode d e t u s r a b c = follow (goes_with t u) _ (follow (may_drift mode u.told r.copy) _ (follow (may_drift mode t.told s.copy) _ (each_pair (pairs_table mode) (pairs_holds mode) t.told u.told s.copy r.copy) (drifted mode d t s a)) (drifted mode e u r b)) c

-- beside a copy with data, and beside one that writes, none may be stored to
rival_table : Stores → Told → Told → Copy → Copy → Bool
rival_table mode t u s r = implies (may_drift mode t s) (implies (holds_data s || same s Writing) (implies (compatible (strongest t) (strongest u)) (not (is_unique (strongest u) && same r UniqueDirty))))

rival_holds : (mode : Stores) → all_pairs (rival_table mode) ≡ true
unfolding rival_table
rival_holds Hidden = refl
rival_holds Listed = refl

pub rival : (mode : Stores) (d e : Due) (t u : Known) (s r : Held) → reach mode d t s ≡ true → (holds_data s.copy || same s.copy Writing) ≡ true → goes_with t u ≡ true → fresh mode e u r ≡ false
unfolding rival_table
rival mode d e t u s r a v c = and_false (are_hidden mode) _ (and_false (is_free e r) (is_unique (most u) && same r.copy UniqueDirty) (turned _ (follow (goes_with t u) _ (follow (holds_data s.copy || same s.copy Writing) _ (follow (may_drift mode t.told s.copy) _ (each_pair (rival_table mode) (rival_holds mode) t.told u.told s.copy r.copy) (drifted mode d t s a)) v) c)))

pub or_here : (a b : Bool) → a ≡ true → (a || b) ≡ true
or_here true b h = refl
or_here false b h = no h

pub or_there : (a b : Bool) → b ≡ true → (a || b) ≡ true
or_there true b h = refl
or_there false b h = h

-- what is told then goes with what went with what was told
told_table : Stores → Act → Bool → Due → Known → Told → Bool
told_table mode a x d t u = implies (fits_told mode a x d t) (implies (compatible (most t) (strongest u)) (compatible (strongest (told_behind a d t.told)) (strongest u)))

told_holds_plain : (mode : Stores) (word : Word) (x : Bool) (d : Due) → all_plain (λ a y. told_spots (told_table mode) a y d) word x ≡ true
unfolding told_table
told_holds_plain Hidden word x Nothing = refl
told_holds_plain Listed word x Nothing = refl
told_holds_plain Hidden word x (Completion k) = refl
told_holds_plain Listed word x (Completion k) = refl
told_holds_plain Hidden word x (Resending k) = refl
told_holds_plain Listed word x (Resending k) = refl
told_holds_plain Hidden word x (SureCompletion k) = refl
told_holds_plain Listed word x (SureCompletion k) = refl
told_holds_plain Hidden word x (WriteData k) = refl
told_holds_plain Listed word x (WriteData k) = refl
told_holds_plain Hidden word x Acknowledgement = refl
told_holds_plain Listed word x Acknowledgement = refl

told_holds_paired : (mode : Stores) (x : Bool) → all_paired (λ a d. told_spots (told_table mode) a x d) ≡ true
unfolding told_table
told_holds_paired Hidden x = refl
told_holds_paired Listed x = refl

told_holds : (mode : Stores) → Tried (told_spots (told_table mode))
told_holds mode = record { plain = told_holds_plain mode; paired = told_holds_paired mode }

pub told_goes : (mode : Stores) (a : Act) (x : Bool) (d : Due) (t u : Known) (b : Bool) → fits_told mode a x d t ≡ true → goes_with t u ≡ true → goes_with (told_after a d t b) u ≡ true
unfolding told_table
told_goes mode a x d t u b f c = follow (goes_with t u) _ (follow (fits_told mode a x d t) _ (each_told_spot (told_table mode) (told_holds mode) a x d (fits_can mode a x d t f) t u.told) f) c

-- dirty, for sure
dirty_table : Stores → Due → Known → Held → Bool
dirty_table mode d t s = implies (same (most t) UniqueDirty && reach mode d t s) (is_dirty s.copy)

dirty_holds : (mode : Stores) → DueCopies (dirty_table mode)
unfolding dirty_table
dirty_holds Hidden k = refl
dirty_holds Listed k = refl

pub surely_dirty : (mode : Stores) (d : Due) (t : Known) (s : Held) → same (most t) UniqueDirty ≡ true → reach mode d t s ≡ true → is_dirty s.copy ≡ true
unfolding dirty_table
surely_dirty mode d t s h r = follow _ _ (each_due_copy (dirty_table mode) (dirty_holds mode) d t s) (both _ _ h r)

stays_table : Stores → Act → Bool → Due → Known → Bool
stays_table mode a x d t = implies (fits_told mode a x d t && (not (tells_words a || throws a x) && (same (most t) UniqueDirty || renews mode a x d t))) (same (strongest (told_behind a d t.told)) UniqueDirty)

stays_holds_plain : (mode : Stores) (word : Word) (x : Bool) (d : Due) → all_plain (λ a y. known_spots (stays_table mode) a y d) word x ≡ true
unfolding stays_table
stays_holds_plain Hidden word x Nothing = refl
stays_holds_plain Listed word x Nothing = refl
stays_holds_plain Hidden word x (Completion k) = refl
stays_holds_plain Listed word x (Completion k) = refl
stays_holds_plain Hidden word x (Resending k) = refl
stays_holds_plain Listed word x (Resending k) = refl
stays_holds_plain Hidden word x (SureCompletion k) = refl
stays_holds_plain Listed word x (SureCompletion k) = refl
stays_holds_plain Hidden word x (WriteData k) = refl
stays_holds_plain Listed word x (WriteData k) = refl
stays_holds_plain Hidden word x Acknowledgement = refl
stays_holds_plain Listed word x Acknowledgement = refl

stays_holds_paired : (mode : Stores) (x : Bool) → all_paired (λ a d. known_spots (stays_table mode) a x d) ≡ true
unfolding stays_table
stays_holds_paired Hidden x = refl
stays_holds_paired Listed x = refl

stays_holds : (mode : Stores) → Tried (known_spots (stays_table mode))
stays_holds mode = record { plain = stays_holds_plain mode; paired = stays_holds_paired mode }

pub stays_dirty : (mode : Stores) (a : Act) (x : Bool) (d : Due) (t : Known) (b : Bool) → (fits_told mode a x d t && (not (tells_words a || throws a x) && (same (most t) UniqueDirty || renews mode a x d t))) ≡ true → same (most (told_after a d t b)) UniqueDirty ≡ true
unfolding stays_table
stays_dirty mode a x d t b h = follow _ _ (each_known_spot (stays_table mode) (stays_holds mode) a x d (fits_can mode a x d t (left _ _ h)) t) h

clean_table : Stores → Due → Known → Held → Bool
clean_table mode d t s = implies (not (is_dirty s.copy)) (not (fresh mode d t s))

clean_holds : (mode : Stores) → DueCopies (clean_table mode)
unfolding clean_table
clean_holds Hidden k = refl
clean_holds Listed k = refl

pub unstored_clean : (mode : Stores) (d : Due) (t : Known) (s : Held) → is_dirty s.copy ≡ false → fresh mode d t s ≡ false
unfolding clean_table
unstored_clean mode d t s h = turned _ (follow _ _ (each_due_copy (clean_table mode) (clean_holds mode) d t s) (flip _ h))

-- a store, a drop, and a cancel
store_table : Stores → Due → Known → Held → Bool
store_table mode d t s = implies (are_hidden mode && (is_free d s && (reach mode d t s && is_unique s.copy))) (reach mode d t (of_form UniqueDirty s) && fresh mode d t (of_form UniqueDirty s))

store_holds : (mode : Stores) → DueCopies (store_table mode)
unfolding store_table
store_holds Hidden k = refl
store_holds Listed k = refl

pub store_well : (mode : Stores) (d : Due) (t : Known) (s : Held) → (are_hidden mode && (is_free d s && (reach mode d t s && is_unique s.copy))) ≡ true → (reach mode d t (of_form UniqueDirty s) && fresh mode d t (of_form UniqueDirty s)) ≡ true
unfolding store_table
store_well mode d t s = follow _ _ (each_due_copy (store_table mode) (store_holds mode) d t s)

drop_table : Stores → Due → Known → Held → Bool
drop_table mode d t s = implies (is_free d s && (reach mode d t s && is_clean s.copy)) (reach mode d t (of_form Invalid s) && not (fresh mode d t s))

drop_holds : (mode : Stores) → DueCopies (drop_table mode)
unfolding drop_table
drop_holds Hidden k = refl
drop_holds Listed k = refl

pub drop_well : (mode : Stores) (d : Due) (t : Known) (s : Held) → (is_free d s && (reach mode d t s && is_clean s.copy)) ≡ true → (reach mode d t (of_form Invalid s) && not (fresh mode d t s)) ≡ true
unfolding drop_table
drop_well mode d t s = follow _ _ (each_due_copy (drop_table mode) (drop_holds mode) d t s)

abbrev pub gone : Held → Held
gone s = record { copy = s.copy; cancelled = true }

abbrev pub waiting : Held → Held
waiting s = record { copy = s.copy; cancelled = false }

cancel_table : Stores → Due → Known → Held → Bool
cancel_table mode d t s = implies (is_resending d && (reach mode d t s && not s.cancelled)) (reach mode d t (gone s) && not (fresh mode d t s))

cancel_holds : (mode : Stores) → DueCopies (cancel_table mode)
unfolding cancel_table
cancel_holds Hidden k = refl
cancel_holds Listed k = refl

pub cancel_well : (mode : Stores) (d : Due) (t : Known) (s : Held) → (is_resending d && (reach mode d t s && not s.cancelled)) ≡ true → (reach mode d t (gone s) && not (fresh mode d t s)) ≡ true
unfolding cancel_table
cancel_well mode d t s = follow _ _ (each_due_copy (cancel_table mode) (cancel_holds mode) d t s)

-- from the strongest copy to the copy: a store, nothing, or a drop
way_table : Stores → Due → Known → Held → Bool
way_table mode d t s = implies (is_free d s && (reach mode d t s && not (may t.told s.copy && not (fresh mode d t s)))) ((reach mode d t (of_form (most t) s) && may t.told (most t)) && (if fresh mode d t s then is_unique (most t) && same s.copy UniqueDirty else is_clean (most t) && same s.copy Invalid))

way_holds : (mode : Stores) → DueCopies (way_table mode)
unfolding way_table
way_holds Hidden k = refl
way_holds Listed k = refl

pub way : (mode : Stores) (d : Due) (t : Known) (s : Held) → (is_free d s && (reach mode d t s && not (may t.told s.copy && not (fresh mode d t s)))) ≡ true → ((reach mode d t (of_form (most t) s) && may t.told (most t)) && (if fresh mode d t s then is_unique (most t) && same s.copy UniqueDirty else is_clean (most t) && same s.copy Invalid)) ≡ true
unfolding way_table
way mode d t s = follow _ _ (each_due_copy (way_table mode) (way_holds mode) d t s)

-- and before, a cancel, or nothing
back_table : Stores → Due → Known → Held → Bool
back_table mode d t s = implies (reach mode d t s && implies (is_free d s) (may t.told s.copy)) (is_settled d t s || (is_resending d && (s.cancelled && (reach mode d t (waiting s) && is_settled d t (waiting s)))))

back_holds : (mode : Stores) → DueCopies (back_table mode)
unfolding back_table
back_holds Hidden k = refl
back_holds Listed k = refl

pub way_back : (mode : Stores) (d : Due) (t : Known) (s : Held) → (reach mode d t s && implies (is_free d s) (may t.told s.copy)) ≡ true → (is_settled d t s || (is_resending d && (s.cancelled && (reach mode d t (waiting s) && is_settled d t (waiting s))))) ≡ true
unfolding back_table
way_back mode d t s = follow _ _ (each_due_copy (back_table mode) (back_holds mode) d t s)

-- the strongest copy, waiting if it may
abbrev pub top_copy : Due → Known → Held
top_copy d t = record { copy = most t; cancelled = is_resending d && t.cancelled }

self_table : Stores → Due → Known → Held → Bool
self_table mode d t s = reach mode d t (top_copy d t)

self_holds : (mode : Stores) → DueCopies (self_table mode)
unfolding self_table
self_holds Hidden k = refl
self_holds Listed k = refl

pub reach_self : (mode : Stores) (d : Due) (t : Known) → reach mode d t (top_copy d t) ≡ true
unfolding self_table
reach_self mode d t = each_due_copy (self_table mode) (self_holds mode) d t (record { copy = Invalid; cancelled = false })

goes_back_table : Told → Told → Bool
goes_back_table t u = implies (compatible (strongest t) (strongest u)) (compatible (strongest u) (strongest t))

goes_back_holds : all_told_pairs goes_back_table ≡ true
unfolding goes_back_table
goes_back_holds = refl

pub goes_back : (t u : Known) → goes_with t u ≡ true → goes_with u t ≡ true
unfolding goes_back_table
goes_back t u = follow (goes_with t u) _ (each_told_pair goes_back_table goes_back_holds t.told u.told)

-- beside a unique copy no other has data
unique_table : Copy → Copy → Bool
unique_table s r = implies (is_unique s) (implies (compatible s r) (not (holds_data r)))

unique_holds : all_copy_pairs unique_table ≡ true
unfolding unique_table
unique_holds = refl

pub beside_unique : (s r : Copy) → is_unique s ≡ true → compatible s r ≡ true → holds_data r ≡ false
unfolding unique_table
beside_unique s r h c = turned _ (follow (compatible s r) _ (follow (is_unique s) _ (each_copy_pair unique_table unique_holds s r) h) c)

-- beside one that writes no other has data
writing_table : Copy → Copy → Bool
writing_table s r = implies (same s Writing) (implies (compatible s r) (not (holds_data r)))

writing_holds : all_copy_pairs writing_table ≡ true
unfolding writing_table
writing_holds = refl

pub beside_writing : (s r : Copy) → same s Writing ≡ true → compatible s r ≡ true → holds_data r ≡ false
unfolding writing_table
beside_writing s r h c = turned _ (follow (compatible s r) _ (follow (same s Writing) _ (each_copy_pair writing_table writing_holds s r) h) c)

-- who is told to have none has none
gone_table : Stores → Due → Known → Held → Bool
gone_table mode d t s = implies (same (most t) Invalid && reach mode d t s) (same s.copy Invalid)

gone_holds : (mode : Stores) → DueCopies (gone_table mode)
unfolding gone_table
gone_holds Hidden k = refl
gone_holds Listed k = refl

pub none_left : (mode : Stores) (d : Due) (t : Known) (s : Held) → same (most t) Invalid ≡ true → reach mode d t s ≡ true → same s.copy Invalid ≡ true
unfolding gone_table
none_left mode d t s h r = follow _ _ (each_due_copy (gone_table mode) (gone_holds mode) d t s) (both _ _ h r)

-- a copy that can't have been stored to
calm_table : Stores → Due → Known → Held → Bool
calm_table mode d t s = implies (not (hides_stores mode d && is_unique (most t))) (not (fresh mode d t s))

calm_holds : (mode : Stores) → DueCopies (calm_table mode)
unfolding calm_table
calm_holds Hidden k = refl
calm_holds Listed k = refl

pub calm_copy : (mode : Stores) (d : Due) (t : Known) (s : Held) → not (hides_stores mode d && is_unique (most t)) ≡ true → fresh mode d t s ≡ false
unfolding calm_table
calm_copy mode d t s h = turned _ (follow _ _ (each_due_copy (calm_table mode) (calm_holds mode) d t s) h)

-- a load reads a copy with data
pub load_holds_data : (a : Act) (x : Bool) (d : Due) (s s' : Held) → looks a ≡ true → acts a x d s ≡ Some s' → holds_data s.copy ≡ true
load_holds_data (Load word) x d s s' h e = if_some (holds_data s.copy) s s' e
load_holds_data other x d s s' h e = no h

-- a copy of which a load isn't of any word can't have been stored to, and is told to be so
read_table : Stores → Due → Known → Held → Bool
read_table mode d t s = implies (not (reads_any mode d (most t))) (not (fresh mode d t s)) && implies (reach mode d t s && reads_any mode d s.copy) (reads_any mode d (most t))

read_holds : (mode : Stores) → DueCopies (read_table mode)
unfolding read_table
read_holds Hidden k = refl
read_holds Listed k = refl

pub read_calm : (mode : Stores) (d : Due) (t : Known) (s : Held) → reads_any mode d (most t) ≡ false → fresh mode d t s ≡ false
unfolding read_table
read_calm mode d t s h = turned _ (follow _ _ (left _ _ (each_due_copy (read_table mode) (read_holds mode) d t s)) (flip _ h))

pub read_told : (mode : Stores) (d : Due) (t : Known) (s : Held) → reach mode d t s ≡ true → reads_any mode d s.copy ≡ true → reads_any mode d (most t) ≡ true
unfolding read_table
read_told mode d t s r h = follow _ _ (right _ _ (each_due_copy (read_table mode) (read_holds mode) d t s)) (both _ _ r h)
