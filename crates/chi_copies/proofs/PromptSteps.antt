-- What an agent at rest may be behind unseen steps: members with nothing on their way, and with one flit.
use Rattle.std.proofs.Common.{arith, ◌≡◌, ◌≢◌, ℕ, suc, zero, ◌<◌, refl, sym, subst, ◌∙◌}
use Rattle.std.specs.Prelude.{Bool, true, false, ◌&&◌, ◌||◌, ◌==◌, Option, Some, None}
use Rattle.chi_flit.specs.declared.state.State.{State}
use Rattle.chi_flit.specs.declared.state.State.TheVariants as forms
use Rattle.chi_observer.specs.declared.kinds.Kind.{Kind}
use Rattle.chi_observer.specs.declared.kinds.Snoop.{Snoop}
use Rattle.chi_observer.specs.declared.flits.Answer.{Answer}
use Rattle.chi_observer.specs.declared.flits.Answer.TheVariants.{SnpRespI, SnpRespSC, SnpRespUC, SnpRespDataI, SnpRespDataSC, SnpRespDataUC, SnpRespDataUD, SnpRespDataSD, SnpRespDataIPD, SnpRespDataSCPD, SnpRespDataUCPD}
use Rattle.chi_observer.specs.declared.flits.Due.{Due}
use Rattle.chi_observer.specs.declared.flits.Due.TheVariants.{Nothing, Completion, Resending, SureCompletion, WriteData, Acknowledgement}
use Rattle.chi_observer.specs.declared.flits.Stores.{Stores}
use Rattle.chi_observer.specs.declared.flits.Act.{Act}
use Rattle.chi_observer.specs.declared.flits.Act.TheVariants.{Request, Resend, SnpResp, CompAck, CopyBackWrData, NonCopyBackWrData, Load, Store}
use Rattle.chi_observer.specs.Copies.{is_unique, is_clean}
use Rattle.chi_observer.specs.Rules.{same_kind, is_resending}
use Rattle.chi_copies.specs.Copies.{Held, same_held}
use Rattle.chi_copies.specs.Rules.{is_free, freed, stored_to, dropped, may_be_free}
use Rattle.chi_copies.specs.Sets.{any_below}
use Rattle.chi_copies.specs.Dues.{kind_at, number_of}
use Rattle.chi_copies.specs.declared.replies.Age.{Age}
use Rattle.chi_copies.specs.declared.replies.Reply.{Reply}
use Rattle.chi_copies.specs.declared.replies.Asked.{Asked}
use Rattle.chi_copies.specs.Arriving.{Member, Members, due_unsent, due_by, own_due, with_held, sends, stores, any_kind, any_request, any_answer, any_form, any_reply, any_age, any_sent, any_or, any_member, same_flit, number_of_age, same_option, same_member, is_some, led, steps, times, loose, due_then}
use Rattle.chi_copies.specs.declared.replies.Age.TheVariants.{Own, Last, Past, Older}
use Rattle.chi_copies.specs.ArrivingLines.{is_asking}
use Rattle.chi_copies.specs.Prompt.{at_rest, answer_to, asked_by}
use Rattle.chi_copies.proofs.Finite.{no, both, or_left, or_right, all_kinds, each_kind, each_answer, each_form, in_held, kind_is}
use Rattle.chi_copies.specs.ArrivingLines.{gives_away}
use Rattle.chi_copies.proofs.Rows.{same_held_self}
use Rattle.chi_copies.proofs.Loose.{Slipped}
use Rattle.chi_copies.proofs.Loose.Slipped.{Still, Freed, Store as StoreSlip, Drop}
use Rattle.chi_copies.proofs.Put.{differ}
use Rattle.std.proofs.lemmas.Bool.{eqb-true}

-- EQUAL MEMBERS
kind_self : all_kinds (λ k. same_kind k k) ≡ true
kind_self = refl

pub flit_self : (a : Act) → same_flit a a ≡ true
flit_self (Request kind) = each_kind (λ k. same_kind k k) kind_self kind
flit_self (Resend kind) = each_kind (λ k. same_kind k k) kind_self kind
flit_self (SnpResp answer) = each_answer (λ a. same_flit (SnpResp a) (SnpResp a)) refl answer
flit_self CompAck = refl
flit_self (CopyBackWrData form) = each_form (λ s. same_flit (CopyBackWrData s) (CopyBackWrData s)) refl form
flit_self NonCopyBackWrData = refl
flit_self (Load word) = refl
flit_self (Store word) = refl

pub age_self : (e : Age) → (number_of_age e == number_of_age e) ≡ true
age_self Own = refl
age_self Last = refl
age_self Past = refl
age_self Older = refl

abbrev same_reply : Reply → Reply → Bool
same_reply r s = same_flit r.act s.act && number_of_age r.age == number_of_age s.age

option_self : {A : Type 0} (f : A → A → Bool) → ((x : A) → f x x ≡ true) → (o : Option A) → same_option f o o ≡ true
option_self f h None = refl
option_self f h (Some x) = h x

pub member_self : (m : Member) → same_member m m ≡ true
member_self m = both (same_held m.held m.held) _ (same_held_self m.held) (both (same_option same_flit m.request m.request) _ (option_self same_flit flit_self m.request)
    (option_self same_reply (λ r. both (same_flit r.act r.act) _ (flit_self r.act) (age_self r.age)) m.reply))

-- MEMBERS THAT ARE TRIED
pub in_below : (k : ℕ) (f : ℕ → Bool) (p : ℕ) → p < k → f p ≡ true → any_below k f ≡ true
in_below zero f p l e = absurd (omega arith)
in_below (suc k) f p l e = by (p == k) refl (λ d. in_below k f p d e)
  where
    below : p < suc k → p ≢ k → p < k
    below l g = omega arith

    by : (b : Bool) → (p == k) ≡ b → (p < k → any_below k f ≡ true) → any_below (suc k) f ≡ true
    by true q g = or_left (f k) _ (subst (λ x. f x ≡ true) (eqb-true p k q) e)
    by false q g = or_right (f k) _ (g (below l (differ p k q)))

pub in_kind : (f : Kind → Bool) (kind : Kind) → f kind ≡ true → any_kind f ≡ true
in_kind f kind e = in_below 16 (λ n. f (kind_at n)) (number_of kind) (kind_is kind).1 (subst (λ k. f k ≡ true) (sym (kind_is kind).0) e)

pub in_answer : (f : Answer → Bool) (a : Answer) → f a ≡ true → any_answer f ≡ true
in_answer f SnpRespI e = or_left (f SnpRespI) _ e
in_answer f SnpRespSC e = or_right (f SnpRespI) _ (or_left (f SnpRespSC) _ e)
in_answer f SnpRespUC e = or_right (f SnpRespI) _ (or_right (f SnpRespSC) _ (or_left (f SnpRespUC) _ e))
in_answer f SnpRespDataI e = or_right (f SnpRespI) _ (or_right (f SnpRespSC) _ (or_right (f SnpRespUC) _ (or_left (f SnpRespDataI) _ e)))
in_answer f SnpRespDataSC e = or_right (f SnpRespI) _ (or_right (f SnpRespSC) _ (or_right (f SnpRespUC) _ (or_right (f SnpRespDataI) _ (or_left (f SnpRespDataSC) _ e))))
in_answer f SnpRespDataUC e = or_right (f SnpRespI) _ (or_right (f SnpRespSC) _ (or_right (f SnpRespUC) _ (or_right (f SnpRespDataI) _ (or_right (f SnpRespDataSC) _ (or_left (f SnpRespDataUC) _ e)))))
in_answer f SnpRespDataUD e = or_right (f SnpRespI) _ (or_right (f SnpRespSC) _ (or_right (f SnpRespUC) _ (or_right (f SnpRespDataI) _ (or_right (f SnpRespDataSC) _ (or_right (f SnpRespDataUC) _ (or_left (f SnpRespDataUD) _ e))))))
in_answer f SnpRespDataSD e = or_right (f SnpRespI) _ (or_right (f SnpRespSC) _ (or_right (f SnpRespUC) _ (or_right (f SnpRespDataI) _ (or_right (f SnpRespDataSC) _ (or_right (f SnpRespDataUC) _ (or_right (f SnpRespDataUD) _ (or_left (f SnpRespDataSD) _ e)))))))
in_answer f SnpRespDataIPD e = or_right (f SnpRespI) _ (or_right (f SnpRespSC) _ (or_right (f SnpRespUC) _ (or_right (f SnpRespDataI) _ (or_right (f SnpRespDataSC) _ (or_right (f SnpRespDataUC) _ (or_right (f SnpRespDataUD) _ (or_right (f SnpRespDataSD) _ (or_left (f SnpRespDataIPD) _ e))))))))
in_answer f SnpRespDataSCPD e = or_right (f SnpRespI) _ (or_right (f SnpRespSC) _ (or_right (f SnpRespUC) _ (or_right (f SnpRespDataI) _ (or_right (f SnpRespDataSC) _ (or_right (f SnpRespDataUC) _ (or_right (f SnpRespDataUD) _ (or_right (f SnpRespDataSD) _ (or_right (f SnpRespDataIPD) _ (or_left (f SnpRespDataSCPD) _ e)))))))))
in_answer f SnpRespDataUCPD e = or_right (f SnpRespI) _ (or_right (f SnpRespSC) _ (or_right (f SnpRespUC) _ (or_right (f SnpRespDataI) _ (or_right (f SnpRespDataSC) _ (or_right (f SnpRespDataUC) _ (or_right (f SnpRespDataUD) _ (or_right (f SnpRespDataSD) _ (or_right (f SnpRespDataIPD) _ (or_right (f SnpRespDataSCPD) _ e)))))))))

pub in_form : (f : State → Bool) (s : State) → f s ≡ true → any_form f ≡ true
in_form f forms.I e = or_left (f forms.I) _ e
in_form f forms.SC e = or_right (f forms.I) _ (or_left (f forms.SC) _ e)
in_form f forms.UC e = or_right (f forms.I) _ (or_right (f forms.SC) _ (or_left (f forms.UC) _ e))
in_form f forms.UD e = or_right (f forms.I) _ (or_right (f forms.SC) _ (or_right (f forms.UC) _ (or_left (f forms.UD) _ e)))
in_form f forms.SD e = or_right (f forms.I) _ (or_right (f forms.SC) _ (or_right (f forms.UC) _ (or_right (f forms.UD) _ e)))

pub in_age : (f : Age → Bool) (e : Age) → f e ≡ true → any_age f ≡ true
in_age f Own h = or_left (f Own) _ h
in_age f Last h = or_right (f Own) _ (or_left (f Last) _ h)
in_age f Past h = or_right (f Own) _ (or_right (f Last) _ (or_left (f Past) _ h))
in_age f Older h = or_right (f Own) _ (or_right (f Last) _ (or_right (f Past) _ h))

pub in_request : (f : Act → Bool) (a : Act) → is_asking a ≡ true → f a ≡ true → any_request f ≡ true
in_request f (Request kind) l e = in_kind (λ kind. f (Request kind) || f (Resend kind)) kind (or_left (f (Request kind)) _ e)
in_request f (Resend kind) l e = in_kind (λ kind. f (Request kind) || f (Resend kind)) kind (or_right (f (Request kind)) _ e)
in_request f (SnpResp answer) l e = no l
in_request f CompAck l e = no l
in_request f (CopyBackWrData form) l e = no l
in_request f NonCopyBackWrData l e = no l
in_request f (Load word) l e = no l
in_request f (Store word) l e = no l

pub in_reply : (f : Act → Bool) (a : Act) → gives_away a ≡ true → f a ≡ true → any_reply f ≡ true
in_reply f (SnpResp answer) l e = or_left (any_answer (λ a. f (SnpResp a))) _ (in_answer (λ a. f (SnpResp a)) answer e)
in_reply f (CopyBackWrData form) l e = or_right (any_answer (λ a. f (SnpResp a))) _ (or_left (any_form (λ s. f (CopyBackWrData s))) _ (in_form (λ s. f (CopyBackWrData s)) form e))
in_reply f NonCopyBackWrData l e = or_right (any_answer (λ a. f (SnpResp a))) _ (or_right (any_form (λ s. f (CopyBackWrData s))) _ e)
in_reply f (Request kind) l e = no l
in_reply f (Resend kind) l e = no l
in_reply f CompAck l e = no l
in_reply f (Load word) l e = no l
in_reply f (Store word) l e = no l

-- with a request, or a reply, on their way
abbrev pub asking : Act → Held → Member
asking a h = record { held = h; request = Some a; reply = None }

abbrev pub replying : Reply → Held → Member
replying r h = record { held = h; request = None; reply = Some r }

abbrev tried : (Member → Bool) → Held → Option Act → Bool
tried f h q = any_or any_sent (λ s. f (record { held = h; request = q; reply = s }))

pub in_rest : (f : Member → Bool) (h : Held) → f (at_rest h) ≡ true → any_member f ≡ true
in_rest f h e = in_held (λ h. any_or any_request (tried f h)) h (or_left (tried f h None) _ (or_left (f (at_rest h)) _ e))

pub in_asking : (f : Member → Bool) (a : Act) (h : Held) → is_asking a ≡ true → f (asking a h) ≡ true → any_member f ≡ true
in_asking f a h l e = in_held (λ h. any_or any_request (tried f h)) h (or_right (tried f h None) _ (in_request (λ a. tried f h (Some a)) a l (or_left (f (asking a h)) _ e)))

pub in_replying : (f : Member → Bool) (r : Reply) (h : Held) → gives_away r.act ≡ true → f (replying r h) ≡ true → any_member f ≡ true
in_replying f r h l e = in_held (λ h. any_or any_request (tried f h)) h (or_left (tried f h None) _ (or_right (f (at_rest h)) _
    (in_reply (λ a. any_age (λ e. f (replying (record { act = a; age = e }) h))) r.act l (in_age (λ e. f (replying (record { act = r.act; age = e }) h)) r.age e))))

-- UNSEEN STEPS
pub stay_step : (d : Due) (a : Asked) (m : Member) → steps d a m m ≡ true
stay_step d a m = or_left (same_member m m) _ (member_self m)

some_self : (o : Option Member) (m : Member) → o ≡ Some m → is_some o m ≡ true
some_self o m e = subst (λ x. is_some x m ≡ true) (sym e) (member_self m)

-- what it sends is on its way then
abbrev others_of : Due → Asked → Member → Member → Bool
others_of d a m k = is_free (own_due d a m) m.held && ((is_unique m.held.copy && same_member (stores m) k) || (is_clean m.held.copy && same_member (with_held m (dropped m.held)) k))

abbrev cancels : Due → Asked → Member → Member → Bool
cancels d a m k = is_resending (own_due d a m) && same_member (with_held m (freed (own_due d a m) m.held)) k

pub ask_step : (d : Due) (a : Asked) (act : Act) (m k : Member) → is_asking act ≡ true → sends d a act m ≡ Some k → steps d a m k ≡ true
ask_step d a act m k l e = or_right (same_member m k) _ (or_right (cancels d a m k) _ (or_right (others_of d a m k) _
    (or_left (any_request (λ act. is_some (sends d a act m) k)) _ (in_request (λ act. is_some (sends d a act m) k) act l (some_self (sends d a act m) k e)))))

pub reply_step : (d : Due) (a : Asked) (act : Act) (m k : Member) → gives_away act ≡ true → sends d a act m ≡ Some k → steps d a m k ≡ true
reply_step d a act m k l e = or_right (same_member m k) _ (or_right (cancels d a m k) _ (or_right (others_of d a m k) _
    (or_right (any_request (λ act. is_some (sends d a act m) k)) _ (in_reply (λ act. is_some (sends d a act m) k) act l (some_self (sends d a act m) k e)))))

cancel_to : (d : Due) (a : Asked) (m k : Member) → cancels d a m k ≡ true → steps d a m k ≡ true
cancel_to d a m k e = or_right (same_member m k) _ (or_left (cancels d a m k) _ e)

other_to : (d : Due) (a : Asked) (m k : Member) → others_of d a m k ≡ true → steps d a m k ≡ true
other_to d a m k e = or_right (same_member m k) _ (or_right (cancels d a m k) _ (or_left (others_of d a m k) _ e))

cancel_step : (d : Due) (a : Asked) (h : Held) → is_resending (own_due d a (at_rest h)) ≡ true → steps d a (at_rest h) (at_rest (freed (own_due d a (at_rest h)) h)) ≡ true
cancel_step d a h e = cancel_to d a (at_rest h) (at_rest (freed (own_due d a (at_rest h)) h)) (both (is_resending (own_due d a (at_rest h))) _ e (member_self (at_rest (freed (own_due d a (at_rest h)) h))))

store_step : (d : Due) (a : Asked) (h : Held) → is_free (own_due d a (at_rest h)) h ≡ true → is_unique h.copy ≡ true → steps d a (at_rest h) (at_rest (stored_to h)) ≡ true
store_step d a h e u = other_to d a (at_rest h) (at_rest (stored_to h)) (both (is_free (own_due d a (at_rest h)) h) _ e
    (or_left (is_unique h.copy && same_member (at_rest (stored_to h)) (at_rest (stored_to h))) _ (both (is_unique h.copy) _ u (member_self (at_rest (stored_to h))))))

drop_step : (d : Due) (a : Asked) (h : Held) → is_free (own_due d a (at_rest h)) h ≡ true → is_clean h.copy ≡ true → steps d a (at_rest h) (at_rest (dropped h)) ≡ true
drop_step d a h e c = other_to d a (at_rest h) (at_rest (dropped h)) (both (is_free (own_due d a (at_rest h)) h) _ e
    (or_right (is_unique h.copy && same_member (stores (at_rest h)) (at_rest (dropped h))) _ (both (is_clean h.copy) _ c (member_self (at_rest (dropped h))))))

-- WHAT IS DUE OF AN AGENT AT REST: what the home knows, but that its CompAck is sent
abbrev pub acked : Due → Due
acked Acknowledgement = Nothing
acked d = d

none_unsent : (q : Option Snoop) → due_unsent (answer_to q) None ≡ Nothing
none_unsent None = refl
none_unsent (Some snoop) = refl

pub own_is : (d : Due) (q : Option Snoop) → due_by None (due_then d) (due_unsent (asked_by d q) None) ≡ acked d
own_is Nothing q = none_unsent q
own_is (Completion k) q = refl
own_is (Resending k) q = refl
own_is (SureCompletion k) q = refl
own_is (WriteData k) q = refl
own_is Acknowledgement q = none_unsent q

-- THREE UNSEEN STEPS
next_led : (R : Member → Members) (S : Members) (h : Held) (m : Member) → S (at_rest h) ≡ true → R (at_rest h) m ≡ true → led R S m ≡ true
next_led R S h m e g = in_rest (λ m'. S m' && R m' m) h (both (S (at_rest h)) _ e g)

three_of_five : (R : Member → Members) (S : Members) (h i j : Held) (m : Member) → S (at_rest h) ≡ true → R (at_rest h) (at_rest h) ≡ true → R (at_rest h) (at_rest i) ≡ true → R (at_rest i) (at_rest j) ≡ true
    → R (at_rest j) m ≡ true → times 5 (led R) S m ≡ true
three_of_five R S h i j m e s f g k = next_led R (led R (led R (led R (led R S)))) j m
    (next_led R (led R (led R (led R S))) i (at_rest j)
    (next_led R (led R (led R S)) h (at_rest i)
    (next_led R (led R S) h (at_rest h) (next_led R S h (at_rest h) e s) s) f) g) k

pub three_steps : (d : Due) (a : Asked) (S : Members) (h i j : Held) (m : Member) → S (at_rest h) ≡ true → steps d a (at_rest h) (at_rest i) ≡ true → steps d a (at_rest i) (at_rest j) ≡ true
    → steps d a (at_rest j) m ≡ true → loose d a S m ≡ true
three_steps d a S h i j m e f g k = three_of_five (steps d a) S h i j m e (stay_step d a (at_rest h)) f g k

-- the same steps of a copy alone
pub record Way (d : Due) (a : Asked) (h k : Held) : Type 0 where
  pub between : Held
  pub first : steps d a (at_rest h) (at_rest between) ≡ true
  pub second : steps d a (at_rest between) (at_rest k) ≡ true

stays : (d : Due) (a : Asked) (h k : Held) → h ≡ k → Way d a h k
stays d a h k e = record { between = h; first = stay_step d a (at_rest h); second = subst (λ k. steps d a (at_rest h) (at_rest k) ≡ true) e (stay_step d a (at_rest h)) }

freed_step : (d : Due) (a : Asked) (e : Due) (h : Held) → may_be_free e ≡ true → own_due d a (at_rest h) ≡ e → steps d a (at_rest h) (at_rest (freed e h)) ≡ true
freed_step d a (Resending kind) h m q = subst (λ e. steps d a (at_rest h) (at_rest (freed e h)) ≡ true) q (cancel_step d a h (subst (λ e. is_resending e ≡ true) (sym q) refl))
freed_step d a Nothing h m q = subst (λ (c : Bool). steps d a (at_rest h) (at_rest (record { copy = h.copy; cancelled = c; stored = h.stored })) ≡ true) (sym (or_none h.cancelled)) (stay_step d a (at_rest h))
  where
    or_none : (c : Bool) → (c || false) ≡ c
    or_none true = refl
    or_none false = refl
freed_step d a (Completion kind) h m q = no m
freed_step d a (SureCompletion kind) h m q = no m
freed_step d a (WriteData kind) h m q = no m
freed_step d a Acknowledgement h m q = no m

freed_free : (e : Due) (h : Held) → may_be_free e ≡ true → is_free e (freed e h) ≡ true
freed_free Nothing h m = refl
freed_free (Resending kind) h m = or_right h.cancelled true refl
freed_free (Completion kind) h m = no m
freed_free (SureCompletion kind) h m = no m
freed_free (WriteData kind) h m = no m
freed_free Acknowledgement h m = no m

acked_free : (e : Due) → may_be_free e ≡ true → acked e ≡ e
acked_free Nothing m = refl
acked_free (Resending kind) m = refl
acked_free (Completion kind) m = no m
acked_free (SureCompletion kind) m = no m
acked_free (WriteData kind) m = no m
acked_free Acknowledgement m = no m

-- own_due of an agent at rest doesn't ask for its copy
pub slip_way : (z : Stores) (d : Due) (a : Asked) (e : Due) (h k : Held) → due_by None d (due_unsent a None) ≡ acked e → Slipped z e h k → Way d a h k
slip_way z d a e h k q (Still i) = stays d a h k i
slip_way z d a e h k q (Freed m i) = record { between = h; first = stay_step d a (at_rest h); second = subst (λ k. steps d a (at_rest h) (at_rest k) ≡ true) i (freed_step d a e h m (q ∙ acked_free e m)) }
slip_way z d a e h k q (StoreSlip m y u i) = record {
  between = freed e h;
  first = freed_step d a e h m (q ∙ acked_free e m);
  second = subst (λ k. steps d a (at_rest (freed e h)) (at_rest k) ≡ true) i (store_step d a (freed e h) (subst (λ x. is_free x (freed e h) ≡ true) (sym (q ∙ acked_free e m)) (freed_free e h m)) u);
}
slip_way z d a e h k q (Drop m c i) = record {
  between = freed e h;
  first = freed_step d a e h m (q ∙ acked_free e m);
  second = subst (λ k. steps d a (at_rest (freed e h)) (at_rest k) ≡ true) i (drop_step d a (freed e h) (subst (λ x. is_free x (freed e h) ≡ true) (sym (q ∙ acked_free e m)) (freed_free e h m)) c);
}
