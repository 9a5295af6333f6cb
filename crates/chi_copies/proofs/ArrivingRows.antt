-- What is tried of what is on its way, and the rows of replies.
use Rattle.std.proofs.Common.{rules, arith, slice_index_or, ◌≡◌, ◌≢◌, ℕ, suc, zero, ◌+◌, ◌*◌, ◌/◌, ◌%◌, ◌-◌, ◌<◌, refl, sym, subst, ap, ◌∙◌, length, List, slice_set, eq-eqb}
use Rattle.std.specs.Prelude.{replicate, Bool, true, false, ◌&&◌, ◌||◌, ◌==◌, not, nat_lt, Option, Some, None, if◌then◌else◌}
use Rattle.std.proofs.lemmas.Bool.{eqb-true}
use Rattle.std.proofs.lemmas.List.{get_or-set_other}
use Rattle.std.proofs.lemmas.Grind.{get_or-set_at}
use Rattle.std.proofs.lemmas.Nat.Bits.{bit_at-zero}
use Rattle.chi_copies.proofs.Lines.{all_same, same_or}
use Rattle.chi_flit.specs.declared.state.State.{State}
use Rattle.chi_flit.specs.declared.state.State.TheVariants as forms
use Rattle.chi_observer.specs.declared.kinds.Kind.{Kind}
use Rattle.chi_observer.specs.declared.flits.Answer.{Answer}
use Rattle.chi_observer.specs.declared.flits.Answer.TheVariants.{SnpRespI, SnpRespSC, SnpRespUC, SnpRespDataI, SnpRespDataSC, SnpRespDataUC, SnpRespDataUD, SnpRespDataSD, SnpRespDataIPD, SnpRespDataSCPD, SnpRespDataUCPD}
use Rattle.chi_observer.specs.declared.flits.Act.{Act}
use Rattle.chi_observer.specs.declared.flits.Act.TheVariants.{Request, Resend, SnpResp, CompAck, CopyBackWrData, NonCopyBackWrData, Load, Store}
use Rattle.chi_copies.specs.declared.copies.Copies.{Copies as CopiesCode}
use Rattle.chi_copies.specs.declared.replies.Age.{Age}
use Rattle.chi_copies.specs.declared.replies.Age.TheVariants.{Own, Last, Past, Older}
use Rattle.chi_copies.specs.declared.replies.Asked.{Asked}
use Rattle.chi_copies.specs.declared.replies.Asked.TheVariants.{NoReply, AnswerTo, DataOf}
use Rattle.chi_copies.specs.declared.replies.Reply.{Reply}
use Rattle.chi_copies.specs.Copies.{Held, same_held}
use Rattle.chi_copies.specs.declared.sides.Sides.{Sides as SidesCode}
use Rattle.chi_copies.specs.Sets.{any_below, members, place_of}
use Rattle.chi_copies.specs.Dues.{kind_at}
use Rattle.chi_copies.specs.BegunLines.{copies_at, no_copies}
use Rattle.chi_copies.specs.Arriving.{any_age, any_answer, any_form, any_kind, any_or, any_reply, any_request, any_sent, number_of, number_of_age, same_flit}
use Rattle.chi_copies.specs.ArrivingLines.{act_at, age_at, answer_at, data_at, fits, fits_reply, is_asking, is_awaiting, reply_at, reply_number, row_of, same_sent, sides_of}
use Rattle.chi_copies.proofs.Finite.{no, left, right, both, or_left, or_right, either, by_truth, turned, each_answer, each_form}
use Rattle.chi_copies.specs.ArrivingLines.{gives_away}
use Rattle.chi_copies.proofs.Put.{differ}
use Rattle.chi_copies.proofs.Sets.{same_bool, suc_is}
use Rattle.chi_copies.proofs.PromptSteps.{age_self, flit_self, in_age, in_reply}

never : {P : Type 0} (b : Bool) → not b ≡ true → b ≡ true → P
never {P} b e h = no (sym (turned b e) ∙ h)

-- WHAT IS TRIED
pub out_below : (k : ℕ) (f : ℕ → Bool) → any_below k f ≡ true → (p : ℕ) × (p < k) × (f p ≡ true)
out_below zero f h = no h
out_below (suc k) f h = either (f k) (any_below k f) h (λ e. let l : k < suc k = search (rules, arith) in (k, l, e)) (λ e. let x = out_below k f e in let l : x.0 < suc k = omega (arith, x.1) in (x.0, l, x.2))

pub out_kind : (f : Kind → Bool) → any_kind f ≡ true → (kind : Kind) × (f kind ≡ true)
out_kind f h = let x = out_below 16 (λ n. f (kind_at n)) h in (kind_at x.0, x.2)

pub out_request : (f : Act → Bool) → any_request f ≡ true → (a : Act) × (is_asking a ≡ true) × (f a ≡ true)
out_request f h = let x = out_kind (λ kind. f (Request kind) || f (Resend kind)) h in
    either (f (Request x.0)) (f (Resend x.0)) x.1 (λ e. (Request x.0, refl, e)) (λ e. (Resend x.0, refl, e))

pub out_answer : (f : Answer → Bool) → any_answer f ≡ true → (a : Answer) × (f a ≡ true)
out_answer f h = either (f SnpRespI) _ h (λ e. (SnpRespI, e)) (λ h. either (f SnpRespSC) _ h (λ e. (SnpRespSC, e)) (λ h. either (f SnpRespUC) _ h (λ e. (SnpRespUC, e)) (λ h. either (f SnpRespDataI) _ h (λ e. (SnpRespDataI, e)) (λ h. either (f SnpRespDataSC) _ h (λ e. (SnpRespDataSC, e)) (λ h. either (f SnpRespDataUC) _ h (λ e. (SnpRespDataUC, e)) (λ h. either (f SnpRespDataUD) _ h (λ e. (SnpRespDataUD, e)) (λ h. either (f SnpRespDataSD) _ h (λ e. (SnpRespDataSD, e)) (λ h. either (f SnpRespDataIPD) _ h (λ e. (SnpRespDataIPD, e)) (λ h. either (f SnpRespDataSCPD) (f SnpRespDataUCPD) h (λ e. (SnpRespDataSCPD, e)) (λ e. (SnpRespDataUCPD, e)))))))))))

out_form : (f : State → Bool) → any_form f ≡ true → (s : State) × (f s ≡ true)
out_form f h = either (f forms.I) _ h (λ e. (forms.I, e)) (λ h. either (f forms.SC) _ h (λ e. (forms.SC, e)) (λ h. either (f forms.UC) _ h (λ e. (forms.UC, e)) (λ h. either (f forms.UD) (f forms.SD) h (λ e. (forms.UD, e)) (λ e. (forms.SD, e)))))

pub out_reply : (f : Act → Bool) → any_reply f ≡ true → (a : Act) × (gives_away a ≡ true) × (f a ≡ true)
out_reply f h = either (any_answer (λ answer. f (SnpResp answer))) _ h
    (λ e. let x = out_answer (λ answer. f (SnpResp answer)) e in (SnpResp x.0, refl, x.1))
    (λ h. either (any_form (λ form. f (CopyBackWrData form))) (f NonCopyBackWrData) h
    (λ e. let x = out_form (λ form. f (CopyBackWrData form)) e in (CopyBackWrData x.0, refl, x.1))
    (λ e. (NonCopyBackWrData, refl, e)))

pub out_age : (f : Age → Bool) → any_age f ≡ true → (e : Age) × (f e ≡ true)
out_age f h = either (f Own) _ h (λ e. (Own, e)) (λ h. either (f Last) _ h (λ e. (Last, e)) (λ h. either (f Past) (f Older) h (λ e. (Past, e)) (λ e. (Older, e))))

abbrev pub is_sent : Option Reply → Bool
is_sent None = true
is_sent (Some r) = gives_away r.act

pub out_sent : (f : Option Reply → Bool) → any_or any_sent f ≡ true → (s : Option Reply) × (is_sent s ≡ true) × (f s ≡ true)
out_sent f h = either (f None) (any_sent (λ r. f (Some r))) h (λ e. (None, refl, e))
    (λ h. let x = out_reply (λ a. any_age (λ e. f (Some (record { act = a; age = e })))) h in
    let y = out_age (λ e. f (Some (record { act = x.0; age = e }))) x.2 in (Some (record { act = x.0; age = y.0 }), x.1, y.1))

pub in_sent : (f : Option Reply → Bool) (s : Option Reply) → is_sent s ≡ true → f s ≡ true → any_or any_sent f ≡ true
in_sent f None l e = or_left (f None) _ e
in_sent f (Some r) l e = or_right (f None) _ (in_reply (λ a. any_age (λ e. f (Some (record { act = a; age = e })))) r.act l (in_age (λ e. f (Some (record { act = r.act; age = e }))) r.age e))

-- EQUAL REPLIES
abbrev act_back : ℕ → Act
act_back n = if nat_lt n 11 then SnpResp (answer_at n) else data_at (n - 11)

back_is : (a : Act) → gives_away a ≡ true → act_back (number_of a) ≡ a
back_is (SnpResp SnpRespI) l = refl
back_is (SnpResp SnpRespSC) l = refl
back_is (SnpResp SnpRespUC) l = refl
back_is (SnpResp SnpRespDataI) l = refl
back_is (SnpResp SnpRespDataSC) l = refl
back_is (SnpResp SnpRespDataUC) l = refl
back_is (SnpResp SnpRespDataUD) l = refl
back_is (SnpResp SnpRespDataSD) l = refl
back_is (SnpResp SnpRespDataIPD) l = refl
back_is (SnpResp SnpRespDataSCPD) l = refl
back_is (SnpResp SnpRespDataUCPD) l = refl
back_is (CopyBackWrData forms.I) l = refl
back_is (CopyBackWrData forms.SC) l = refl
back_is (CopyBackWrData forms.UC) l = refl
back_is (CopyBackWrData forms.UD) l = refl
back_is (CopyBackWrData forms.SD) l = refl
back_is NonCopyBackWrData l = refl
back_is (Request kind) l = no l
back_is (Resend kind) l = no l
back_is CompAck l = no l
back_is (Load word) l = no l
back_is (Store word) l = no l

-- no other flit has such a number
pub no_other : (a : Act) → gives_away a ≡ true → not (number_of a == 20) ≡ true
no_other (SnpResp answer) l = each_answer (λ x. not (number_of (SnpResp x) == 20)) refl answer
no_other (CopyBackWrData form) l = each_form (λ x. not (number_of (CopyBackWrData x) == 20)) refl form
no_other NonCopyBackWrData l = refl
no_other (Request kind) l = no l
no_other (Resend kind) l = no l
no_other CompAck l = no l
no_other (Load word) l = no l
no_other (Store word) l = no l

pub flit_is : (a b : Act) → gives_away a ≡ true → same_flit a b ≡ true → a ≡ b
flit_is (SnpResp x) (SnpResp y) l h = sym (back_is (SnpResp x) refl) ∙ ap act_back (eqb-true (number_of (SnpResp x)) (number_of (SnpResp y)) h) ∙ back_is (SnpResp y) refl
flit_is (SnpResp x) (CopyBackWrData y) l h = sym (back_is (SnpResp x) refl) ∙ ap act_back (eqb-true (number_of (SnpResp x)) (number_of (CopyBackWrData y)) h) ∙ back_is (CopyBackWrData y) refl
flit_is (SnpResp x) NonCopyBackWrData l h = sym (back_is (SnpResp x) refl) ∙ ap act_back (eqb-true (number_of (SnpResp x)) (number_of NonCopyBackWrData) h) ∙ back_is NonCopyBackWrData refl
flit_is (SnpResp x) (Request kind) l h = no h
flit_is (SnpResp x) (Resend kind) l h = no h
flit_is (SnpResp x) CompAck l h = never (number_of (SnpResp x) == 20) (no_other (SnpResp x) refl) h
flit_is (SnpResp x) (Load word) l h = never (number_of (SnpResp x) == 20) (no_other (SnpResp x) refl) h
flit_is (SnpResp x) (Store word) l h = never (number_of (SnpResp x) == 20) (no_other (SnpResp x) refl) h
flit_is (CopyBackWrData x) (SnpResp y) l h = sym (back_is (CopyBackWrData x) refl) ∙ ap act_back (eqb-true (number_of (CopyBackWrData x)) (number_of (SnpResp y)) h) ∙ back_is (SnpResp y) refl
flit_is (CopyBackWrData x) (CopyBackWrData y) l h = sym (back_is (CopyBackWrData x) refl) ∙ ap act_back (eqb-true (number_of (CopyBackWrData x)) (number_of (CopyBackWrData y)) h) ∙ back_is (CopyBackWrData y) refl
flit_is (CopyBackWrData x) NonCopyBackWrData l h = sym (back_is (CopyBackWrData x) refl) ∙ ap act_back (eqb-true (number_of (CopyBackWrData x)) (number_of NonCopyBackWrData) h) ∙ back_is NonCopyBackWrData refl
flit_is (CopyBackWrData x) (Request kind) l h = no h
flit_is (CopyBackWrData x) (Resend kind) l h = no h
flit_is (CopyBackWrData x) CompAck l h = never (number_of (CopyBackWrData x) == 20) (no_other (CopyBackWrData x) refl) h
flit_is (CopyBackWrData x) (Load word) l h = never (number_of (CopyBackWrData x) == 20) (no_other (CopyBackWrData x) refl) h
flit_is (CopyBackWrData x) (Store word) l h = never (number_of (CopyBackWrData x) == 20) (no_other (CopyBackWrData x) refl) h
flit_is NonCopyBackWrData (SnpResp y) l h = sym (back_is NonCopyBackWrData refl) ∙ ap act_back (eqb-true (number_of NonCopyBackWrData) (number_of (SnpResp y)) h) ∙ back_is (SnpResp y) refl
flit_is NonCopyBackWrData (CopyBackWrData y) l h = sym (back_is NonCopyBackWrData refl) ∙ ap act_back (eqb-true (number_of NonCopyBackWrData) (number_of (CopyBackWrData y)) h) ∙ back_is (CopyBackWrData y) refl
flit_is NonCopyBackWrData NonCopyBackWrData l h = sym (back_is NonCopyBackWrData refl) ∙ ap act_back (eqb-true (number_of NonCopyBackWrData) (number_of NonCopyBackWrData) h) ∙ back_is NonCopyBackWrData refl
flit_is NonCopyBackWrData (Request kind) l h = no h
flit_is NonCopyBackWrData (Resend kind) l h = no h
flit_is NonCopyBackWrData CompAck l h = never (number_of NonCopyBackWrData == 20) (no_other NonCopyBackWrData refl) h
flit_is NonCopyBackWrData (Load word) l h = never (number_of NonCopyBackWrData == 20) (no_other NonCopyBackWrData refl) h
flit_is NonCopyBackWrData (Store word) l h = never (number_of NonCopyBackWrData == 20) (no_other NonCopyBackWrData refl) h
flit_is (Request kind) b l h = no l
flit_is (Resend kind) b l h = no l
flit_is CompAck b l h = no l
flit_is (Load word) b l h = no l
flit_is (Store word) b l h = no l

age_back : (e : Age) → age_at (number_of_age e) ≡ e
age_back Own = refl
age_back Last = refl
age_back Past = refl
age_back Older = refl

pub age_is : (e f : Age) → (number_of_age e == number_of_age f) ≡ true → e ≡ f
age_is e f h = sym (age_back e) ∙ ap age_at (eqb-true (number_of_age e) (number_of_age f) h) ∙ age_back f

pub sent_self : (s : Option Reply) → same_sent s s ≡ true
sent_self None = refl
sent_self (Some r) = both (same_flit r.act r.act) _ (flit_self r.act) (age_self r.age)

pub sent_is : (s t : Option Reply) → is_sent s ≡ true → same_sent s t ≡ true → s ≡ t
sent_is None None l h = refl
sent_is None (Some r) l h = no h
sent_is (Some r) None l h = no h
sent_is (Some r) (Some s) l h = λ i. Some (record { act = flit_is r.act s.act l (left (same_flit r.act s.act) _ h) i; age = age_is r.age s.age (right (same_flit r.act s.act) _ h) i })

-- ROWS
pub fits_sent : (a : Asked) (s : Option Reply) → fits a s ≡ true → is_sent s ≡ true
fits_sent a None l = refl
fits_sent a (Some r) l = away a r.act l
  where
    away : (a : Asked) (act : Act) → fits_reply a act ≡ true → gives_away act ≡ true
    away NoReply act l = no l
    away (AnswerTo q) (SnpResp x) l = refl
    away (AnswerTo q) (CopyBackWrData x) l = no l
    away (AnswerTo q) NonCopyBackWrData l = no l
    away (AnswerTo q) (Request kind) l = no l
    away (AnswerTo q) (Resend kind) l = no l
    away (AnswerTo q) CompAck l = no l
    away (AnswerTo q) (Load word) l = no l
    away (AnswerTo q) (Store word) l = no l
    away (DataOf k) (SnpResp x) l = no l
    away (DataOf k) (CopyBackWrData x) l = refl
    away (DataOf k) NonCopyBackWrData l = refl
    away (DataOf k) (Request kind) l = no l
    away (DataOf k) (Resend kind) l = no l
    away (DataOf k) CompAck l = no l
    away (DataOf k) (Load word) l = no l
    away (DataOf k) (Store word) l = no l

pub row_back : (a : Asked) (s : Option Reply) → fits a s ≡ true → reply_at a (row_of a s) ≡ s
row_back a None l = refl
row_back a (Some r) l = by a r.act r.age l
  where
    by : (a : Asked) (act : Act) (e : Age) → fits_reply a act ≡ true → reply_at a (row_of a (Some (record { act = act; age = e }))) ≡ Some (record { act = act; age = e })
    by NoReply act e l = no l
    by (AnswerTo q) (SnpResp SnpRespI) Own l = refl
    by (AnswerTo q) (SnpResp SnpRespI) Last l = refl
    by (AnswerTo q) (SnpResp SnpRespI) Past l = refl
    by (AnswerTo q) (SnpResp SnpRespI) Older l = refl
    by (AnswerTo q) (SnpResp SnpRespSC) Own l = refl
    by (AnswerTo q) (SnpResp SnpRespSC) Last l = refl
    by (AnswerTo q) (SnpResp SnpRespSC) Past l = refl
    by (AnswerTo q) (SnpResp SnpRespSC) Older l = refl
    by (AnswerTo q) (SnpResp SnpRespUC) Own l = refl
    by (AnswerTo q) (SnpResp SnpRespUC) Last l = refl
    by (AnswerTo q) (SnpResp SnpRespUC) Past l = refl
    by (AnswerTo q) (SnpResp SnpRespUC) Older l = refl
    by (AnswerTo q) (SnpResp SnpRespDataI) Own l = refl
    by (AnswerTo q) (SnpResp SnpRespDataI) Last l = refl
    by (AnswerTo q) (SnpResp SnpRespDataI) Past l = refl
    by (AnswerTo q) (SnpResp SnpRespDataI) Older l = refl
    by (AnswerTo q) (SnpResp SnpRespDataSC) Own l = refl
    by (AnswerTo q) (SnpResp SnpRespDataSC) Last l = refl
    by (AnswerTo q) (SnpResp SnpRespDataSC) Past l = refl
    by (AnswerTo q) (SnpResp SnpRespDataSC) Older l = refl
    by (AnswerTo q) (SnpResp SnpRespDataUC) Own l = refl
    by (AnswerTo q) (SnpResp SnpRespDataUC) Last l = refl
    by (AnswerTo q) (SnpResp SnpRespDataUC) Past l = refl
    by (AnswerTo q) (SnpResp SnpRespDataUC) Older l = refl
    by (AnswerTo q) (SnpResp SnpRespDataUD) Own l = refl
    by (AnswerTo q) (SnpResp SnpRespDataUD) Last l = refl
    by (AnswerTo q) (SnpResp SnpRespDataUD) Past l = refl
    by (AnswerTo q) (SnpResp SnpRespDataUD) Older l = refl
    by (AnswerTo q) (SnpResp SnpRespDataSD) Own l = refl
    by (AnswerTo q) (SnpResp SnpRespDataSD) Last l = refl
    by (AnswerTo q) (SnpResp SnpRespDataSD) Past l = refl
    by (AnswerTo q) (SnpResp SnpRespDataSD) Older l = refl
    by (AnswerTo q) (SnpResp SnpRespDataIPD) Own l = refl
    by (AnswerTo q) (SnpResp SnpRespDataIPD) Last l = refl
    by (AnswerTo q) (SnpResp SnpRespDataIPD) Past l = refl
    by (AnswerTo q) (SnpResp SnpRespDataIPD) Older l = refl
    by (AnswerTo q) (SnpResp SnpRespDataSCPD) Own l = refl
    by (AnswerTo q) (SnpResp SnpRespDataSCPD) Last l = refl
    by (AnswerTo q) (SnpResp SnpRespDataSCPD) Past l = refl
    by (AnswerTo q) (SnpResp SnpRespDataSCPD) Older l = refl
    by (AnswerTo q) (SnpResp SnpRespDataUCPD) Own l = refl
    by (AnswerTo q) (SnpResp SnpRespDataUCPD) Last l = refl
    by (AnswerTo q) (SnpResp SnpRespDataUCPD) Past l = refl
    by (AnswerTo q) (SnpResp SnpRespDataUCPD) Older l = refl
    by (AnswerTo q) (CopyBackWrData x) e l = no l
    by (AnswerTo q) NonCopyBackWrData e l = no l
    by (AnswerTo q) (Request kind) e l = no l
    by (AnswerTo q) (Resend kind) e l = no l
    by (AnswerTo q) CompAck e l = no l
    by (AnswerTo q) (Load word) e l = no l
    by (AnswerTo q) (Store word) e l = no l
    by (DataOf k) (SnpResp x) e l = no l
    by (DataOf k) (CopyBackWrData forms.I) Own l = refl
    by (DataOf k) (CopyBackWrData forms.I) Last l = refl
    by (DataOf k) (CopyBackWrData forms.I) Past l = refl
    by (DataOf k) (CopyBackWrData forms.I) Older l = refl
    by (DataOf k) (CopyBackWrData forms.SC) Own l = refl
    by (DataOf k) (CopyBackWrData forms.SC) Last l = refl
    by (DataOf k) (CopyBackWrData forms.SC) Past l = refl
    by (DataOf k) (CopyBackWrData forms.SC) Older l = refl
    by (DataOf k) (CopyBackWrData forms.UC) Own l = refl
    by (DataOf k) (CopyBackWrData forms.UC) Last l = refl
    by (DataOf k) (CopyBackWrData forms.UC) Past l = refl
    by (DataOf k) (CopyBackWrData forms.UC) Older l = refl
    by (DataOf k) (CopyBackWrData forms.UD) Own l = refl
    by (DataOf k) (CopyBackWrData forms.UD) Last l = refl
    by (DataOf k) (CopyBackWrData forms.UD) Past l = refl
    by (DataOf k) (CopyBackWrData forms.UD) Older l = refl
    by (DataOf k) (CopyBackWrData forms.SD) Own l = refl
    by (DataOf k) (CopyBackWrData forms.SD) Last l = refl
    by (DataOf k) (CopyBackWrData forms.SD) Past l = refl
    by (DataOf k) (CopyBackWrData forms.SD) Older l = refl
    by (DataOf k) NonCopyBackWrData Own l = refl
    by (DataOf k) NonCopyBackWrData Last l = refl
    by (DataOf k) NonCopyBackWrData Past l = refl
    by (DataOf k) NonCopyBackWrData Older l = refl
    by (DataOf k) (Request kind) e l = no l
    by (DataOf k) (Resend kind) e l = no l
    by (DataOf k) CompAck e l = no l
    by (DataOf k) (Load word) e l = no l
    by (DataOf k) (Store word) e l = no l

row_low_by : (n e : ℕ) → n < 11 → e < 4 → 4 * n + e < 45
row_low_by n e l k = omega arith

low_number : (act : Act) → gives_away act ≡ true → nat_lt (reply_number act) 11 ≡ true
low_number (SnpResp answer) l = each_answer (λ x. nat_lt (reply_number (SnpResp x)) 11) refl answer
low_number (CopyBackWrData form) l = each_form (λ x. nat_lt (reply_number (CopyBackWrData x)) 11) refl form
low_number NonCopyBackWrData l = refl
low_number (Request kind) l = no l
low_number (Resend kind) l = no l
low_number CompAck l = no l
low_number (Load word) l = no l
low_number (Store word) l = no l

low_age : (e : Age) → nat_lt (number_of_age e) 4 ≡ true
low_age Own = refl
low_age Last = refl
low_age Past = refl
low_age Older = refl

pub row_low : (a : Asked) (s : Option Reply) → fits a s ≡ true → row_of a s < 45
row_low a None l = search (rules, arith)
row_low a (Some r) l = by (fits_reply a r.act) l
  where
    n : nat_lt (reply_number r.act) 11 ≡ true
    n = low_number r.act (fits_sent a (Some r) l)

    e : nat_lt (number_of_age r.age) 4 ≡ true
    e = low_age r.age

    by : (b : Bool) → b ≡ true → (if b then 4 * reply_number r.act + number_of_age r.age else 45) < 45
    by true h = let n' : reply_number r.act < 11 = search (rules, arith, n) in let e' : number_of_age r.age < 4 = search (rules, arith, e) in row_low_by (reply_number r.act) (number_of_age r.age) n' e'
    by false h = no h

pub row_fits : (a : Asked) (s : Option Reply) → row_of a s < 45 → fits a s ≡ true
row_fits a None l = refl
row_fits a (Some r) l = by (fits_reply a r.act) l
  where
    by : (b : Bool) → (if b then 4 * reply_number r.act + number_of_age r.age else 45) < 45 → b ≡ true
    by true h = refl
    by false h = absurd (omega (arith, h))

pub row_past : (a : Asked) (s : Option Reply) → fits a s ≡ false → row_of a s ≡ 45
row_past a None l = no (sym l)
row_past a (Some r) l = by (fits_reply a r.act) l
  where
    by : (b : Bool) → b ≡ false → (if b then 4 * reply_number r.act + number_of_age r.age else 45) ≡ 45
    by true h = no (sym h)
    by false h = refl

pub rows : (a : Asked) (s t : Option Reply) → fits a s ≡ true → (row_of a s == row_of a t) ≡ same_sent s t
rows a s t l = same_bool (row_of a s == row_of a t) (same_sent s t)
    (λ h. let e : row_of a s ≡ row_of a t = eqb-true (row_of a s) (row_of a t) h in
    let fit : fits a t ≡ true = row_fits a t (subst (λ (n : ℕ). n < 45) e (row_low a s l)) in
    let eq : s ≡ t = sym (row_back a s l) ∙ ap (reply_at a) e ∙ row_back a t fit in
    subst (λ t. same_sent s t ≡ true) eq (sent_self s))
    (λ h. eq-eqb (row_of a s) (row_of a t) (ap (row_of a) (sent_is s t (fits_sent a s l) h)))

-- each row is of a reply
data_away : (n : ℕ) → gives_away (data_at n) ≡ true
data_away n = by (n == 0) (n == 1) (n == 2) (n == 3) (n == 5)
  where
    by : (p q r s t : Bool) → gives_away (if p then NonCopyBackWrData else (if q then CopyBackWrData forms.I else (if r then CopyBackWrData forms.SC else (if s then CopyBackWrData forms.UC else (if t then CopyBackWrData forms.UD else CopyBackWrData forms.SD))))) ≡ true
    by true q r s t = refl
    by false true r s t = refl
    by false false true s t = refl
    by false false false true t = refl
    by false false false false true = refl
    by false false false false false = refl

pub act_away : (a : Asked) (n : ℕ) → gives_away (act_at a n) ≡ true
act_away NoReply n = refl
act_away (AnswerTo q) n = refl
act_away (DataOf k) n = data_away n

pub at_sent : (a : Asked) (p : ℕ) → is_sent (reply_at a p) ≡ true
at_sent a p = by (p == 44)
  where
    by : (b : Bool) → is_sent (if b then None else Some (record { act = act_at a (p / 4); age = age_at (p % 4) })) ≡ true
    by true = refl
    by false = act_away a (p / 4)

-- A ROW that has one copy more
or_and : (a b : Bool) → (a || (b && false)) ≡ a
or_and true b = refl
or_and false true = refl
or_and false false = refl

and_one : (a b : Bool) → (a || b) ≡ (a || (b && true))
and_one true b = refl
and_one false true = refl
and_one false false = refl

pub row_put : (rows : List CopiesCode) (a : Asked) (s t : Option Reply) (x : CopiesCode) (g h : Held) → length rows ≡ 45 → fits a s ≡ true
    → members x h ≡ (members (copies_at rows (row_of a s)) h || same_held g h)
    → members (copies_at (slice_set rows (row_of a s) x) (row_of a t)) h ≡ (members (copies_at rows (row_of a t)) h || (same_held g h && same_sent s t))
row_put xs a s t x g h whole l e = by_truth (row_of a s == row_of a t)
    (λ b. let same : row_of a t ≡ row_of a s = sym (eqb-true (row_of a s) (row_of a t) b) in
    let sent : same_sent s t ≡ true = sym (rows a s t l) ∙ b in
    let low : row_of a s < length xs = subst (λ (n : ℕ). row_of a s < n) (sym whole) (row_low a s l) in
    ap (λ (n : ℕ). members (copies_at (slice_set xs (row_of a s) x) n) h) same
    ∙ ap (λ s. members s h) (get_or-set_at xs (row_of a s) (row_of a s) x no_copies refl low)
    ∙ e ∙ and_one (members (copies_at xs (row_of a s)) h) (same_held g h)
    ∙ (λ i. members (copies_at xs (sym same i)) h || (same_held g h && sym sent i)))
    (λ b. let apart : row_of a t ≢ row_of a s = (λ e. differ (row_of a s) (row_of a t) b (sym e)) in
    let other : same_sent s t ≡ false = sym (rows a s t l) ∙ b in
    ap (λ s. members s h) (get_or-set_other xs (row_of a s) (row_of a t) x no_copies apart)
    ∙ sym (or_and (members (copies_at xs (row_of a t)) h) (same_held g h))
    ∙ (λ i. members (copies_at xs (row_of a t)) h || (same_held g h && sym other i)))

-- no row has a copy
abbrev pub no_sides : SidesCode
no_sides = record { rows = replicate 45 no_copies }

pub no_rows : (a : Asked) (h : Held) (s : Option Reply) → sides_of a no_sides h s ≡ false
no_rows a h s = ap (λ x. members x h) (all_same 45 (row_of a s) no_copies) ∙ ap (λ (x : ℕ). x == 1) (bit_at-zero (place_of h))

pub row_put_at : (n : ℕ) (d : CopiesCode) (rows : List CopiesCode) (a : Asked) (s t : Option Reply) (x : CopiesCode) (g h : Held) → n ≡ row_of a s → length rows ≡ 45 → fits a s ≡ true
    → members x h ≡ (members (slice_index_or rows n d) h || same_held g h)
    → members (copies_at (slice_set rows n x) (row_of a t)) h ≡ (members (copies_at rows (row_of a t)) h || (same_held g h && same_sent s t))
row_put_at n d xs a s t x g h at whole l e =
    let low : row_of a s < length xs = subst (λ (n : ℕ). row_of a s < n) (sym whole) (row_low a s l) in
    subst (λ (n : ℕ). members (copies_at (slice_set xs n x) (row_of a t)) h ≡ (members (copies_at xs (row_of a t)) h || (same_held g h && same_sent s t))) (sym at)
    (row_put xs a s t x g h whole l (e ∙ (λ i. members (slice_index_or xs (at i) d) h || same_held g h) ∙ ap (λ x. members x h || same_held g h) (same_or xs (row_of a s) d no_copies low)))

-- what is awaited
data_fits : (k : Kind) (n : ℕ) → fits_reply (DataOf k) (data_at n) ≡ true
data_fits k n = by (n == 0) (n == 1) (n == 2) (n == 3) (n == 5)
  where
    by : (p q r s t : Bool) → fits_reply (DataOf k) (if p then NonCopyBackWrData else (if q then CopyBackWrData forms.I else (if r then CopyBackWrData forms.SC else (if s then CopyBackWrData forms.UC else (if t then CopyBackWrData forms.UD else CopyBackWrData forms.SD))))) ≡ true
    by true q r s t = refl
    by false true r s t = refl
    by false false true s t = refl
    by false false false true t = refl
    by false false false false true = refl
    by false false false false false = refl

pub act_fits : (a : Asked) (n : ℕ) → is_awaiting a ≡ true → fits_reply a (act_at a n) ≡ true
act_fits NoReply n h = no h
act_fits (AnswerTo q) n h = refl
act_fits (DataOf k) n h = data_fits k n

-- ONE AFTER THE OTHER, beside what there was
or_more : (a b c : Bool) → ((a || b) || c) ≡ (a || (c || b))
or_more true b c = refl
or_more false true true = refl
or_more false true false = refl
or_more false false true = refl
or_more false false false = refl

pub next_beside : (k : ℕ) (f : ℕ → Bool) (before a c : Bool) → a ≡ (before || any_below k f) → c ≡ (a || f k) → c ≡ (before || any_below (k + 1) f)
next_beside k f before a c h e = e ∙ ap (λ a. a || f k) h ∙ or_more before (any_below k f) (f k) ∙ ap (λ (n : ℕ). before || any_below n f) (suc_is k)

or_nothing : (b : Bool) → b ≡ (b || false)
or_nothing true = refl
or_nothing false = refl

pub first_beside : (f : ℕ → Bool) (before : Bool) → before ≡ (before || any_below 0 f)
first_beside f before = or_nothing before

-- each reply is that of its number
pub answer_back : (x : Answer) → answer_at (number_of (SnpResp x)) ≡ x
answer_back SnpRespI = refl
answer_back SnpRespSC = refl
answer_back SnpRespUC = refl
answer_back SnpRespDataI = refl
answer_back SnpRespDataSC = refl
answer_back SnpRespDataUC = refl
answer_back SnpRespDataUD = refl
answer_back SnpRespDataSD = refl
answer_back SnpRespDataIPD = refl
answer_back SnpRespDataSCPD = refl
answer_back SnpRespDataUCPD = refl

pub form_back : (x : State) → data_at (reply_number (CopyBackWrData x)) ≡ CopyBackWrData x
form_back forms.I = refl
form_back forms.SC = refl
form_back forms.UC = refl
form_back forms.UD = refl
form_back forms.SD = refl
