-- A log that is taken at the home while nothing is on its way: what a flit of the home leaves.
use Rattle.std.proofs.Common.{◌≡◌, ◌≢◌, ℕ, ◌<◌, ◌+◌, List, refl, sym, ap, subst, ◌∙◌}
use Rattle.std.specs.Prelude.{Bool, true, false, ◌&&◌, ◌||◌, ◌==◌, not, Option, Some, None, if◌then◌else◌}
use Rattle.chi_observer.specs.declared.kinds.Kind.{Kind}
use Rattle.chi_observer.specs.declared.kinds.Kind.TheVariants.{MakeInvalid}
use Rattle.chi_observer.specs.declared.kinds.Snoop.{Snoop}
use Rattle.chi_observer.specs.declared.flits.Due.{Due}
use Rattle.chi_observer.specs.declared.flits.Due.TheVariants.{Nothing, Completion, Resending, SureCompletion, WriteData, Acknowledgement}
use Rattle.chi_observer.specs.declared.flits.Grant.{Grant}
use Rattle.chi_observer.specs.declared.flits.Grant.TheVariants.{RetryAck, Snp, CompData, CompUC, CompSC, CompI, CompDBIDResp}
use Rattle.chi_observer.specs.declared.flits.HomeFlit.{HomeFlit}
use Rattle.chi_observer.specs.Copies.{holds_data, same}
use Rattle.chi_observer.specs.Copies.Copy.{Invalid}
use Rattle.chi_observer.specs.Rules.{same_kind, is_resending, form_has_data, is_upgraded, makes, settles, needs_alone, needs_duty, needs_quiet, is_busy, is_due, is_of, is_invalidating, due_granted, snooped_granted, copy_granted, is_acknowledging}
use Rattle.chi_copies.specs.Copies.{Held, shown_of, is_newer, same_held, all_beside}
use Rattle.chi_copies.specs.Rules.{granted, shows, fills, renews, is_without_news, waits_without_news}
use Rattle.chi_copies.specs.Worlds.{home_may, all_below, others_given}
use Rattle.chi_copies.specs.Observed.{Observed, Sound, home_at, any_of, got as given_got, given_of, is_beside, goes, fits_home, takes_home, given}
use Rattle.chi_copies.specs.declared.replies.Age.{Age}
use Rattle.chi_copies.specs.declared.replies.Reply.{Reply}
use Rattle.chi_copies.specs.Arriving.{Member, snoop_of, awaits_data, followed, aged, comes, is_gone, with_mark, cleared, replaced, same_member, led, Received, gained, may_write, is_completion, beheld, got as member_got, any_of as member_any, others, due_then, asked_then, overtakes, given_reply, count, behind_given}
use Rattle.chi_copies.specs.Prompt.{at_rest, answer_to, asked_by, KnowsSame, IsPrompt, IsShown, StaysPromptGiven}
use Rattle.chi_copies.proofs.Finite.{no, left, right, both, or_left, by_truth, turned, flip, implies, follow, all_kinds, each_kind, in_held, out_held, in_image, out_image}
use Rattle.chi_copies.proofs.Rows.{same_is, same_held_is, same_held_self}
use Rattle.chi_copies.proofs.Loosened.{one}
use Rattle.chi_copies.proofs.Sets.{each_below}
use Rattle.chi_copies.proofs.Put.{unlike, everywhere}
use Rattle.chi_copies.proofs.PromptSteps.{member_self, in_rest, stay_step}
use Rattle.chi_copies.proofs.Prompt.{three, Rests, loosened}

pub follow_or : (a b : Bool) → (not a || b) ≡ true → a ≡ true → b ≡ true
follow_or true b e h = e
follow_or false b e h = no h

pub or_second : (a b : Bool) → a ≡ false → (a || b) ≡ true → b ≡ true
or_second true b h e = no (sym h)
or_second false b h e = e

-- BY THE HOME'S FLITS AND WHAT IS DUE

same_gained : (d : Due) (g : Grant) (m : Member) → gained g (due_then d) m ≡ gained g d m
same_gained Nothing g m = refl
same_gained (Completion kind) g m = refl
same_gained (Resending kind) g m = refl
same_gained (SureCompletion kind) g m = refl
same_gained (WriteData kind) RetryAck m = refl
same_gained (WriteData kind) (Snp snoop) m = refl
same_gained (WriteData kind) (CompData form) m = refl
same_gained (WriteData kind) CompUC m = refl
same_gained (WriteData kind) CompSC m = refl
same_gained (WriteData kind) CompI m = refl
same_gained (WriteData kind) CompDBIDResp m = refl
same_gained Acknowledgement RetryAck m = refl
same_gained Acknowledgement (Snp snoop) m = refl
same_gained Acknowledgement (CompData form) m = refl
same_gained Acknowledgement CompUC m = refl
same_gained Acknowledgement CompSC m = refl
same_gained Acknowledgement CompI m = refl
same_gained Acknowledgement CompDBIDResp m = refl

same_beheld : (d : Due) (g : Grant) (m k : Member) → beheld g (due_then d) m k ≡ beheld g d m k
same_beheld Nothing g m k = refl
same_beheld (Completion kind) g m k = refl
same_beheld (Resending kind) g m k = refl
same_beheld (SureCompletion kind) g m k = refl
same_beheld (WriteData kind) RetryAck m k = refl
same_beheld (WriteData kind) (Snp snoop) m k = refl
same_beheld (WriteData kind) (CompData form) m k = refl
same_beheld (WriteData kind) CompUC m k = refl
same_beheld (WriteData kind) CompSC m k = refl
same_beheld (WriteData kind) CompI m k = refl
same_beheld (WriteData kind) CompDBIDResp m k = refl
same_beheld Acknowledgement RetryAck m k = refl
same_beheld Acknowledgement (Snp snoop) m k = refl
same_beheld Acknowledgement (CompData form) m k = refl
same_beheld Acknowledgement CompUC m k = refl
same_beheld Acknowledgement CompSC m k = refl
same_beheld Acknowledgement CompI m k = refl
same_beheld Acknowledgement CompDBIDResp m k = refl

given_due : (d : Due) (g : Grant) (q : Option Snoop) → is_due g d q ≡ true → due_then (due_granted g (due_then d)) ≡ due_then (due_granted g d)
given_due Nothing g q e = refl
given_due (Completion kind) g q e = refl
given_due (Resending kind) g q e = refl
given_due (SureCompletion kind) g q e = refl
given_due (WriteData kind) RetryAck q e = no e
given_due (WriteData kind) (Snp snoop) q e = refl
given_due (WriteData kind) (CompData form) q e = no e
given_due (WriteData kind) CompUC q e = no e
given_due (WriteData kind) CompSC q e = no e
given_due (WriteData kind) CompI q e = no e
given_due (WriteData kind) CompDBIDResp q e = no e
given_due Acknowledgement RetryAck q e = no e
given_due Acknowledgement (Snp snoop) q e = refl
given_due Acknowledgement (CompData form) q e = no e
given_due Acknowledgement CompUC q e = no e
given_due Acknowledgement CompSC q e = no e
given_due Acknowledgement CompI q e = no e
given_due Acknowledgement CompDBIDResp q e = no e

stays_asked : (g : Grant) (b : Bool) (q : Option Snoop) → is_completion g ≡ true → asked_then g (if b then Acknowledgement else Nothing) (answer_to q) ≡ asked_by (if b then Acknowledgement else Nothing) q
stays_asked RetryAck true None c = no c
stays_asked RetryAck true (Some other) c = no c
stays_asked RetryAck false None c = no c
stays_asked RetryAck false (Some other) c = no c
stays_asked (Snp snoop) true None c = no c
stays_asked (Snp snoop) true (Some other) c = no c
stays_asked (Snp snoop) false None c = no c
stays_asked (Snp snoop) false (Some other) c = no c
stays_asked (CompData form) true None c = refl
stays_asked (CompData form) true (Some other) c = refl
stays_asked (CompData form) false None c = refl
stays_asked (CompData form) false (Some other) c = refl
stays_asked CompUC true None c = refl
stays_asked CompUC true (Some other) c = refl
stays_asked CompUC false None c = refl
stays_asked CompUC false (Some other) c = refl
stays_asked CompSC true None c = refl
stays_asked CompSC true (Some other) c = refl
stays_asked CompSC false None c = refl
stays_asked CompSC false (Some other) c = refl
stays_asked CompI true None c = refl
stays_asked CompI true (Some other) c = refl
stays_asked CompI false None c = refl
stays_asked CompI false (Some other) c = refl
stays_asked CompDBIDResp true None c = refl
stays_asked CompDBIDResp true (Some other) c = refl
stays_asked CompDBIDResp false None c = refl
stays_asked CompDBIDResp false (Some other) c = refl

stays_none : (g : Grant) (q : Option Snoop) → is_completion g ≡ true → asked_then g Nothing (answer_to q) ≡ answer_to q
stays_none RetryAck None c = no c
stays_none RetryAck (Some other) c = no c
stays_none (Snp snoop) None c = no c
stays_none (Snp snoop) (Some other) c = no c
stays_none (CompData form) None c = refl
stays_none (CompData form) (Some other) c = refl
stays_none CompUC None c = refl
stays_none CompUC (Some other) c = refl
stays_none CompSC None c = refl
stays_none CompSC (Some other) c = refl
stays_none CompI None c = refl
stays_none CompI (Some other) c = refl
stays_none CompDBIDResp None c = refl
stays_none CompDBIDResp (Some other) c = refl

given_asked : (d : Due) (g : Grant) (q : Option Snoop) → is_due g d q ≡ true → (needs_quiet g ≡ true → is_busy d ≡ false) → asked_then g (due_granted g (due_then d)) (asked_by d q) ≡ asked_by (due_granted g d) (snooped_granted g q)
given_asked Nothing RetryAck q e y = no e
given_asked Nothing (Snp snoop) q e y = refl
given_asked Nothing (CompData form) q e y = no e
given_asked Nothing CompUC q e y = no e
given_asked Nothing CompSC q e y = no e
given_asked Nothing CompI q e y = no e
given_asked Nothing CompDBIDResp q e y = no e
given_asked (Completion kind) RetryAck q e y = refl
given_asked (Completion kind) (Snp snoop) q e y = refl
given_asked (Completion kind) (CompData form) q e y = stays_asked (CompData form) (form_has_data form) q refl
given_asked (Completion kind) CompUC q e y = stays_asked CompUC (makes CompUC (Completion kind) || is_upgraded (Completion kind)) q refl
given_asked (Completion kind) CompSC q e y = stays_none CompSC q refl
given_asked (Completion kind) CompI q e y = stays_none CompI q refl
given_asked (Completion kind) CompDBIDResp q e y = refl
given_asked (Resending kind) RetryAck q e y = no e
given_asked (Resending kind) (Snp snoop) q e y = refl
given_asked (Resending kind) (CompData form) q e y = no e
given_asked (Resending kind) CompUC q e y = no e
given_asked (Resending kind) CompSC q e y = no e
given_asked (Resending kind) CompI q e y = no e
given_asked (Resending kind) CompDBIDResp q e y = no e
given_asked (SureCompletion kind) RetryAck q e y = no e
given_asked (SureCompletion kind) (Snp snoop) q e y = refl
given_asked (SureCompletion kind) (CompData form) q e y = stays_asked (CompData form) (form_has_data form) q refl
given_asked (SureCompletion kind) CompUC q e y = stays_asked CompUC (makes CompUC (SureCompletion kind) || is_upgraded (SureCompletion kind)) q refl
given_asked (SureCompletion kind) CompSC q e y = stays_none CompSC q refl
given_asked (SureCompletion kind) CompI q e y = stays_none CompI q refl
given_asked (SureCompletion kind) CompDBIDResp q e y = refl
given_asked (WriteData kind) RetryAck q e y = no e
given_asked (WriteData kind) (Snp snoop) q e y = no (sym (y refl))
given_asked (WriteData kind) (CompData form) q e y = no e
given_asked (WriteData kind) CompUC q e y = no e
given_asked (WriteData kind) CompSC q e y = no e
given_asked (WriteData kind) CompI q e y = no e
given_asked (WriteData kind) CompDBIDResp q e y = no e
given_asked Acknowledgement RetryAck q e y = no e
given_asked Acknowledgement (Snp snoop) q e y = refl
given_asked Acknowledgement (CompData form) q e y = no e
given_asked Acknowledgement CompUC q e y = no e
given_asked Acknowledgement CompSC q e y = no e
given_asked Acknowledgement CompI q e y = no e
given_asked Acknowledgement CompDBIDResp q e y = no e

answer_snoop : (q : Option Snoop) → snoop_of (answer_to q) ≡ q
answer_snoop None = refl
answer_snoop (Some snoop) = refl

if_snoop : (b : Bool) (q : Option Snoop) → snoop_of (asked_by (if b then Acknowledgement else Nothing) q) ≡ q
if_snoop true q = answer_snoop q
if_snoop false q = answer_snoop q

given_snooped : (d : Due) (g : Grant) (q : Option Snoop) → is_due g d q ≡ true → (needs_quiet g ≡ true → is_busy d ≡ false) → snoop_of (asked_by (due_granted g d) (snooped_granted g q)) ≡ snooped_granted g q
given_snooped Nothing RetryAck q e y = no e
given_snooped Nothing (Snp snoop) q e y = refl
given_snooped Nothing (CompData form) q e y = no e
given_snooped Nothing CompUC q e y = no e
given_snooped Nothing CompSC q e y = no e
given_snooped Nothing CompI q e y = no e
given_snooped Nothing CompDBIDResp q e y = no e
given_snooped (Completion kind) RetryAck q e y = answer_snoop q
given_snooped (Completion kind) (Snp snoop) q e y = refl
given_snooped (Completion kind) (CompData form) q e y = if_snoop (form_has_data form) q
given_snooped (Completion kind) CompUC q e y = if_snoop (makes CompUC (Completion kind) || is_upgraded (Completion kind)) q
given_snooped (Completion kind) CompSC q e y = answer_snoop q
given_snooped (Completion kind) CompI q e y = answer_snoop q
given_snooped (Completion kind) CompDBIDResp None e y = refl
given_snooped (Completion kind) CompDBIDResp (Some other) e y = no e
given_snooped (Resending kind) RetryAck q e y = no e
given_snooped (Resending kind) (Snp snoop) q e y = refl
given_snooped (Resending kind) (CompData form) q e y = no e
given_snooped (Resending kind) CompUC q e y = no e
given_snooped (Resending kind) CompSC q e y = no e
given_snooped (Resending kind) CompI q e y = no e
given_snooped (Resending kind) CompDBIDResp q e y = no e
given_snooped (SureCompletion kind) RetryAck q e y = no e
given_snooped (SureCompletion kind) (Snp snoop) q e y = refl
given_snooped (SureCompletion kind) (CompData form) q e y = if_snoop (form_has_data form) q
given_snooped (SureCompletion kind) CompUC q e y = if_snoop (makes CompUC (SureCompletion kind) || is_upgraded (SureCompletion kind)) q
given_snooped (SureCompletion kind) CompSC q e y = answer_snoop q
given_snooped (SureCompletion kind) CompI q e y = answer_snoop q
given_snooped (SureCompletion kind) CompDBIDResp None e y = refl
given_snooped (SureCompletion kind) CompDBIDResp (Some other) e y = no e
given_snooped (WriteData kind) RetryAck q e y = no e
given_snooped (WriteData kind) (Snp snoop) q e y = no (sym (y refl))
given_snooped (WriteData kind) (CompData form) q e y = no e
given_snooped (WriteData kind) CompUC q e y = no e
given_snooped (WriteData kind) CompSC q e y = no e
given_snooped (WriteData kind) CompI q e y = no e
given_snooped (WriteData kind) CompDBIDResp q e y = no e
given_snooped Acknowledgement RetryAck q e y = no e
given_snooped Acknowledgement (Snp snoop) q e y = refl
given_snooped Acknowledgement (CompData form) q e y = no e
given_snooped Acknowledgement CompUC q e y = no e
given_snooped Acknowledgement CompSC q e y = no e
given_snooped Acknowledgement CompI q e y = no e
given_snooped Acknowledgement CompDBIDResp q e y = no e

none_and : (b : Bool) → 0 + count b ≡ count b
none_and true = refl
none_and false = refl

given_acks : (d : Due) (g : Grant) (q : Option Snoop) → is_due g d q ≡ true → (needs_quiet g ≡ true → is_busy d ≡ false) → count (is_acknowledging d) + count (is_acknowledging (due_granted g (due_then d))) ≡ count (is_acknowledging (due_granted g d))
given_acks Nothing g q e y = none_and (is_acknowledging (due_granted g Nothing))
given_acks (Completion kind) g q e y = none_and (is_acknowledging (due_granted g (Completion kind)))
given_acks (Resending kind) g q e y = none_and (is_acknowledging (due_granted g (Resending kind)))
given_acks (SureCompletion kind) g q e y = none_and (is_acknowledging (due_granted g (SureCompletion kind)))
given_acks (WriteData kind) RetryAck q e y = no e
given_acks (WriteData kind) (Snp snoop) q e y = refl
given_acks (WriteData kind) (CompData form) q e y = no e
given_acks (WriteData kind) CompUC q e y = no e
given_acks (WriteData kind) CompSC q e y = no e
given_acks (WriteData kind) CompI q e y = no e
given_acks (WriteData kind) CompDBIDResp q e y = no e
given_acks Acknowledgement RetryAck q e y = no e
given_acks Acknowledgement (Snp snoop) q e y = no (sym (y refl))
given_acks Acknowledgement (CompData form) q e y = no e
given_acks Acknowledgement CompUC q e y = no e
given_acks Acknowledgement CompSC q e y = no e
given_acks Acknowledgement CompI q e y = no e
given_acks Acknowledgement CompDBIDResp q e y = no e

no_data_of : (c : Bool) (q : Option Snoop) → (c && awaits_data (answer_to q)) ≡ false
no_data_of true None = refl
no_data_of true (Some snoop) = refl
no_data_of false q = refl

none_overtaken : (d : Due) (g : Grant) (q : Option Snoop) → is_due g d q ≡ true → overtakes g (asked_by d q) ≡ false
none_overtaken Nothing g q e = no_data_of (is_completion g) q
none_overtaken (Completion kind) g q e = no_data_of (is_completion g) q
none_overtaken (Resending kind) g q e = no_data_of (is_completion g) q
none_overtaken (SureCompletion kind) g q e = no_data_of (is_completion g) q
none_overtaken (WriteData kind) RetryAck q e = no e
none_overtaken (WriteData kind) (Snp snoop) q e = refl
none_overtaken (WriteData kind) (CompData form) q e = no e
none_overtaken (WriteData kind) CompUC q e = no e
none_overtaken (WriteData kind) CompSC q e = no e
none_overtaken (WriteData kind) CompI q e = no e
none_overtaken (WriteData kind) CompDBIDResp q e = no e
none_overtaken Acknowledgement g q e = no_data_of (is_completion g) q

-- ONE AGENT
aged_none : (b : Bool) (f : Age → Age) → (if b then aged f None else None) ≡ None
aged_none true f = refl
aged_none false f = refl

none_if : (b : Bool) (x : Option Reply) → x ≡ None → (if b then None else x) ≡ None
none_if true x e = refl
none_if false x e = e

-- what settles says of a value that is lost is said of each value
settled_mark : (m s st hd : Bool) → (st ≡ true → (s && hd) ≡ false) → (m || (s && not (st && (s && (not hd && true))))) ≡ (m || (s && not st))
settled_mark true s st hd f = refl
settled_mark false false st hd f = refl
settled_mark false true false hd f = refl
settled_mark false true true false f = refl
settled_mark false true true true f = no (sym (f refl))

gained_is : (g : Grant) (d : Due) (h : Held) → (settles g d ≡ true → is_newer h ≡ false) → gained g d (at_rest h) ≡ at_rest (granted g d h)
gained_is g d h f = λ i. record {
  held = record { copy = copy_granted g d h.copy; cancelled = h.cancelled; stored = settled_mark (makes g d) h.stored (settles g d) (holds_data h.copy) f i };
  request = None;
  reply = aged_none (makes g d) followed i;
}

-- another, whose copy is gone where the home's own words become the value
beheld_is : (m s : Bool) (h : Held) (rest : Bool) → (s ≡ true → holds_data h.copy ≡ false)
    → (if m then same_member (replaced (at_rest h)) (at_rest (if m || s then shown_of h else h))
    else (if s && is_gone (at_rest h) then same_member (cleared (at_rest h)) (at_rest (if m || s then shown_of h else h)) else same_member (at_rest h) (at_rest (if m || s then shown_of h else h)) || rest)) ≡ true
beheld_is true s h rest f = member_self (at_rest (shown_of h))
beheld_is false false h rest f = or_left (same_member (at_rest h) (at_rest h)) rest (member_self (at_rest h))
beheld_is false true h rest f = by h.stored refl
  where
    by : (b : Bool) → h.stored ≡ b → (if is_gone (at_rest h) then same_member (cleared (at_rest h)) (at_rest (shown_of h)) else same_member (at_rest h) (at_rest (shown_of h)) || rest) ≡ true
    by true e = subst (λ b. (if b then same_member (cleared (at_rest h)) (at_rest (shown_of h)) else same_member (at_rest h) (at_rest (shown_of h)) || rest) ≡ true)
        (sym (both h.stored _ e (both (not (holds_data h.copy)) _ (flip (holds_data h.copy) (f refl)) refl))) (member_self (at_rest (shown_of h)))
    by false e = subst (λ b. (if b && (not (holds_data h.copy) && true) then same_member (cleared (at_rest h)) (at_rest (shown_of h)) else same_member (at_rest h) (at_rest (shown_of h)) || rest) ≡ true) (sym e)
        (or_left (same_member (at_rest h) (at_rest (shown_of h))) rest (subst (λ (s : Bool). same_member (at_rest (with_mark h s)) (at_rest (shown_of h)) ≡ true) (sym e) (member_self (at_rest (shown_of h)))))

-- the home's own words
home_given : (b c : Bool) (rh oh : Option (List ℕ)) (w : List ℕ) (p v : ℕ) → (b ≡ true → c ≡ true) → (c ≡ true → b ≡ true) → (home_at rh p ≡ Some v → home_at oh p ≡ Some v)
    → home_at (if b then Some w else rh) p ≡ Some v → home_at (if c then Some w else oh) p ≡ Some v
home_given true true rh oh w p v f g k e = e
home_given true false rh oh w p v f g k e = no (f refl)
home_given false true rh oh w p v f g k e = no (g refl)
home_given false false rh oh w p v f g k e = k e

settles_alone : (g : Grant) (d : Due) → settles g d ≡ true → needs_alone g d ≡ true
settles_alone CompI d e = overwriting_alone d e
  where
    make_alone : all_kinds (λ k. implies (same_kind MakeInvalid k) (is_invalidating k)) ≡ true
    make_alone = refl

    at_kind : (k : Kind) → same_kind MakeInvalid k ≡ true → is_invalidating k ≡ true
    at_kind k = follow (same_kind MakeInvalid k) (is_invalidating k) (each_kind (λ k. implies (same_kind MakeInvalid k) (is_invalidating k)) make_alone k)

    overwriting_alone : (d : Due) → is_of (same_kind MakeInvalid) d ≡ true → is_of is_invalidating d ≡ true
    overwriting_alone (Completion kind) e = at_kind kind e
    overwriting_alone (SureCompletion kind) e = at_kind kind e
    overwriting_alone Nothing e = no e
    overwriting_alone (Resending kind) e = no e
    overwriting_alone (WriteData kind) e = no e
    overwriting_alone Acknowledgement e = no e
settles_alone RetryAck d e = no e
settles_alone (Snp snoop) d e = no e
settles_alone (CompData form) d e = no e
settles_alone CompUC d e = no e
settles_alone CompSC d e = no e
settles_alone CompDBIDResp d e = no e

-- no agent whose request invalidates has a copy with news
settles_read : (g : Grant) (d : Due) → settles g d ≡ true → (waits_without_news d ≡ true) × (is_resending d ≡ false)
settles_read CompI d e = open_read d e
  where
    make_read : all_kinds (λ k. implies (same_kind MakeInvalid k) (is_without_news k)) ≡ true
    make_read = refl

    at_kind : (k : Kind) → same_kind MakeInvalid k ≡ true → is_without_news k ≡ true
    at_kind k = follow (same_kind MakeInvalid k) (is_without_news k) (each_kind (λ k. implies (same_kind MakeInvalid k) (is_without_news k)) make_read k)

    open_read : (d : Due) → is_of (same_kind MakeInvalid) d ≡ true → (waits_without_news d ≡ true) × (is_resending d ≡ false)
    open_read (Completion kind) e = (at_kind kind e, refl)
    open_read (SureCompletion kind) e = (at_kind kind e, refl)
    open_read Nothing e = no e
    open_read (Resending kind) e = no e
    open_read (WriteData kind) e = no e
    open_read Acknowledgement e = no e
settles_read RetryAck d e = no e
settles_read (Snp snoop) d e = no e
settles_read (CompData form) d e = no e
settles_read CompUC d e = no e
settles_read CompSC d e = no e
settles_read CompDBIDResp d e = no e

pub copy_given : (b : Bool) (h : Held) → (if b then shown_of h else h).copy ≡ h.copy
copy_given true h = refl
copy_given false h = refl

module _ (o : Observed) (r : Received) (g : HomeFlit) (sound : Sound o) (low : g.agent.0 < 32) (p : IsPrompt o r) where
  abbrev n : ℕ
  n = g.agent.0

  abbrev t : Grant
  t = g.grant

  abbrev d : Due
  d = o.public.due n

  abbrev q : Option Snoop
  q = o.public.snooped n

  pub rests : Rests o r
  rests m l h e = p.may m l h (at_rest h) e (stay_step (r.due m) (r.asked m) (at_rest h))

  seen : (h : Held) → o.may n h ≡ true → settles t d ≡ true → is_newer h ≡ false
  seen h e s = let w = settles_read t d s in sound.seen n low w.0 h e (sound.waits n low w.1 h e)

  pub got_at : (h : Held) → o.may n h ≡ true → member_got r g (at_rest (granted t d h)) ≡ true
  got_at h e = in_rest (λ m. r.may n m && same_member (gained t (r.due n) m) (at_rest (granted t d h))) h (both (r.may n (at_rest h)) _ (rests n low h e)
      (subst (λ m. same_member m (at_rest (granted t d h)) ≡ true) (sym (ap (λ e. gained t e (at_rest h)) (p.known.due n) ∙ same_gained d t (at_rest h) ∙ gained_is t d h (seen h e))) (member_self (at_rest (granted t d h)))))

  pub other_at : (m : ℕ) → m < 32 → (h : Held) → o.may m h ≡ true → (settles t d ≡ true → holds_data h.copy ≡ false) → others r g m (at_rest (others_given g o.public h)) ≡ true
  other_at m l h e f = in_rest (λ j. r.may m j && beheld t (r.due n) j (at_rest (others_given g o.public h))) h (both (r.may m (at_rest h)) _ (rests m l h e)
      (ap (λ e. beheld t e (at_rest h) (at_rest (others_given g o.public h))) (p.known.due n) ∙ same_beheld d t (at_rest h) (at_rest (others_given g o.public h))
      ∙ beheld_is (makes t d) (settles t d) h (is_completion t && (may_write d && (comes (at_rest h) && same_member (replaced (at_rest h)) (at_rest (others_given g o.public h))))) f))

  module _ (take : takes_home o g ≡ true) (shown : IsShown o r g) where
    may : home_may o.public g ≡ true
    may = left (home_may o.public g) _ take

    is_given : is_due t d q ≡ true
    is_given = left (is_due t d q) _ may

    quietly : needs_quiet t ≡ true → is_busy d ≡ false
    quietly y = turned (is_busy d) (each_below 32 (λ m. not (is_busy (o.public.due m))) (follow_or (needs_quiet t) _ (left (not (needs_quiet t) || all_below 32 (λ m. not (is_busy (o.public.due m)))) _ (right (not (needs_duty t) || o.public.duty) _ (right (is_due t d q) _ may))) y) n low)

    goes_well : goes o g ≡ true
    goes_well = right (not (any_of (o.may n) (λ h. fills t h && h.stored))) _ (right (not (any_of (o.may n) (shows t)) || fits_home o.home g.shown) _ (right (home_may o.public g) _ take))

    -- no other copy is left then
    alone : (m : ℕ) → m ≢ n → m < 32 → (h : Held) → o.may m h ≡ true → settles t d ≡ true → holds_data h.copy ≡ false
    alone m c l h e s = subst (λ x. holds_data x ≡ false) (sym (same_is h.copy Invalid (is_gone_copy h e))) refl
      where
        beside_it : is_beside (given_got o g) (needs_alone t d) (given_of g o.public (o.may m)) ≡ true
        beside_it = or_second (m == n) _ (unlike m n c) (each_below 32 (λ m. m == n || is_beside (given_got o g) (needs_alone t d) (given_of g o.public (o.may m))) goes_well m l)

        none_left : any_of (given_of g o.public (o.may m)) (λ k. not (same k.copy Invalid)) ≡ false
        none_left = turned _ (follow_or (needs_alone t d) _ (right (all_beside (given_got o g) (given_of g o.public (o.may m))) _ beside_it) (settles_alone t d s))

        is_gone_copy : (h : Held) → o.may m h ≡ true → same h.copy Invalid ≡ true
        is_gone_copy h e = subst (λ x. same x Invalid ≡ true) (copy_given (renews t d) h) (by_truth (same (others_given g o.public h).copy Invalid) (λ w. w)
            (λ w. no (sym none_left ∙ in_held (λ k. given_of g o.public (o.may m) k && not (same k.copy Invalid)) (others_given g o.public h)
            (both (given_of g o.public (o.may m) (others_given g o.public h)) _ (in_image (λ h k. same_held (others_given g o.public h) k) (o.may m) h (others_given g o.public h) e (same_held_self (others_given g o.public h)))
            (flip (same (others_given g o.public h).copy Invalid) w)))))

    known : KnowsSame (given o g) (behind_given r g)
    known = record {
      due = everywhere (λ m x y. x ≡ due_then y) n (due_then (due_granted t (r.due n))) (due_granted t d) r.due o.public.due
          (ap (λ e. due_then (due_granted t e)) (p.known.due n) ∙ given_due d t q is_given) (λ m _. p.known.due m);
      asked = three (λ m x y w. x ≡ asked_by y w) n (asked_then t (due_granted t (r.due n)) (r.asked n)) (due_granted t d) (snooped_granted t q) r.asked o.public.due o.public.snooped asked_here (λ m _. p.known.asked m);
      snooped = everywhere (λ m x y. snoop_of x ≡ y) n (asked_then t (due_granted t (r.due n)) (r.asked n)) (snooped_granted t q) r.asked o.public.snooped
          (ap snoop_of asked_here ∙ given_snooped d t q is_given quietly) (λ m _. p.known.snooped m);
      acks = everywhere (λ m x y. x ≡ count (is_acknowledging y)) n (r.acks n + count (is_acknowledging (due_granted t (r.due n)))) (due_granted t d) r.acks o.public.due
          (subst (λ k. k + count (is_acknowledging (due_granted t (r.due n))) ≡ count (is_acknowledging (due_granted t d))) (sym (p.known.acks n))
          (subst (λ e. count (is_acknowledging d) + count (is_acknowledging (due_granted t e)) ≡ count (is_acknowledging (due_granted t d))) (sym (p.known.due n)) (given_acks d t q is_given quietly))) (λ m _. p.known.acks m);
      overtaken = one (λ m x. x ≡ 0) n (r.overtaken n + count (overtakes t (r.asked n))) r.overtaken
          (subst (λ a. r.overtaken n + count (overtakes t a) ≡ 0) (sym (p.known.asked n)) (subst (λ b. r.overtaken n + count b ≡ 0) (sym (none_overtaken d t q is_given)) (ap (λ x. x + 0) (p.known.overtaken n)))) (λ m _. p.known.overtaken m);
      duty = ap (λ b. b && not (needs_duty t)) p.known.duty;
      home = λ x l v e. home_given (member_any (r.may n) (λ m. shows t m.held)) (any_of (o.may n) (shows t)) r.home o.home g.shown x v shown shown_too (p.known.home x l v) e;
    }
      where
        asked_here : asked_then t (due_granted t (r.due n)) (r.asked n) ≡ asked_by (due_granted t d) (snooped_granted t q)
        asked_here = subst (λ e. asked_then t (due_granted t e) (r.asked n) ≡ asked_by (due_granted t d) (snooped_granted t q)) (sym (p.known.due n))
            (subst (λ a. asked_then t (due_granted t (due_then d)) a ≡ asked_by (due_granted t d) (snooped_granted t q)) (sym (p.known.asked n)) (given_asked d t q is_given quietly))

        shown_too : any_of (o.may n) (shows t) ≡ true → member_any (r.may n) (λ m. shows t m.held) ≡ true
        shown_too e = let x = out_held (λ h. o.may n h && shows t h) e in
            in_rest (λ m. r.may n m && shows t m.held) x.0 (both (r.may n (at_rest x.0)) _ (rests n low x.0 (left (o.may n x.0) _ x.1)) (right (o.may n x.0) _ x.1))

    got_rests : (k : Held) → given_got o g k ≡ true → led (λ m k. same_member (given_reply (overtakes t (r.asked n)) m) k) (member_got r g) (at_rest k) ≡ true
    got_rests k e =
        let x = out_image (λ h k. same_held (granted t d h) k) (o.may n) k e in
        subst (λ k. led (λ m k. same_member (given_reply late m) k) (member_got r g) (at_rest k) ≡ true) (same_held_is (granted t d x.held) k x.leads)
        (in_rest (λ m. member_got r g m && same_member (given_reply late m) (at_rest (granted t d x.held))) (granted t d x.held)
        (both (member_got r g (at_rest (granted t d x.held))) _ (got_at x.held x.has) (same_reply (granted t d x.held))))
      where
        late : Bool
        late = overtakes t (r.asked n)

        same_reply : (h : Held) → same_member (given_reply (overtakes t (r.asked n)) (at_rest h)) (at_rest h) ≡ true
        same_reply h = subst (λ (y : Option Reply). same_member (record { held = h; request = None; reply = y }) (at_rest h) ≡ true) (sym (none_if (overtakes t (r.asked n)) None refl)) (member_self (at_rest h))

    others_rest : (m : ℕ) → m ≢ n → m < 32 → (k : Held) → given_of g o.public (o.may m) k ≡ true → others r g m (at_rest k) ≡ true
    others_rest m c l k e =
        let x = out_image (λ h k. same_held (others_given g o.public h) k) (o.may m) k e in
        subst (λ k. others r g m (at_rest k) ≡ true) (same_held_is (others_given g o.public x.held) k x.leads) (other_at m l x.held x.has (alone m c l x.held x.has))

    given_rests : Rests (given o g) (behind_given r g)
    given_rests = everywhere (λ m X Y. m < 32 → (h : Held) → X h ≡ true → Y (at_rest h) ≡ true) n (given_got o g) (led (λ m k. same_member (given_reply (overtakes t (r.asked n)) m) k) (member_got r g))
        (λ m. given_of g o.public (o.may m)) (others r g) (λ _. got_rests) others_rest

pub given_stays : StaysPromptGiven
given_stays o r g sound low p take shown = loosened g.agent.0 (given o g) (behind_given r g) (known o r g sound low p take shown) (given_rests o r g sound low p take shown)
