-- A log that is taken at the home while nothing is on its way: a flit of a cache that is taken of a log as sent is taken there too.
use Rattle.std.proofs.Common.{◌≡◌, ◌≢◌, ℕ, ◌<◌, ◌-◌, List, refl, sym, ap, subst, ◌∙◌}
use Rattle.std.specs.Prelude.{Bool, true, false, ◌&&◌, ◌||◌, ◌==◌, not, nat_lt, Option, Some, None, if◌then◌else◌}
use Rattle.std.proofs.lemmas.Bool.{eqb-true}
use Rattle.chi_observer.specs.declared.kinds.Kind.{Kind}
use Rattle.chi_observer.specs.declared.kinds.Snoop.{Snoop}
use Rattle.chi_observer.specs.declared.flits.Answer.{Answer}
use Rattle.chi_observer.specs.declared.flits.Due.{Due}
use Rattle.chi_observer.specs.declared.flits.Due.TheVariants.{Nothing, Completion, Resending, SureCompletion, WriteData, Acknowledgement}
use Rattle.chi_observer.specs.declared.flits.Stores.{Stores}
use Rattle.chi_observer.specs.declared.flits.Stores.TheVariants.{Hidden}
use Rattle.chi_observer.specs.declared.flits.Act.{Act}
use Rattle.chi_observer.specs.declared.flits.Act.TheVariants.{Request, Resend, SnpResp, CompAck, CopyBackWrData, NonCopyBackWrData, Load, Store}
use Rattle.chi_observer.specs.declared.flits.CacheFlit.{CacheFlit}
use Rattle.chi_observer.specs.Copies.{holds_data}
use Rattle.chi_observer.specs.Copies.Copy.{Invalid}
use Rattle.chi_observer.specs.Rules.{word_at, gives_up, has_data, writes, tells_words, looks, stores, lets_go, allows, due_after, snooped_after, passes_duty, is_copy_back, is_whole_write, is_acknowledging}
use Rattle.chi_copies.specs.Copies.{Held, plain, shown_of, is_fresh, is_newer, image}
use Rattle.chi_copies.specs.Rules.{is_resent, is_due_data, lets, row, acts, slips, may_be_free}
use Rattle.chi_copies.specs.Worlds.{put, all_below, is_placed, others_then}
use Rattle.chi_copies.specs.Observed.{Observed, Sound, fits_at, fits_each, fits_home, home_at, known_of, has_news, sent, takes, moved, loose, next}
use Rattle.chi_copies.specs.declared.replies.Age.{Age}
use Rattle.chi_copies.specs.declared.replies.Reply.{Reply}
use Rattle.chi_copies.specs.declared.replies.Asked.{Asked}
use Rattle.chi_copies.specs.Arriving.{Member, snoop_of, is_last, is_own, is_new, has_words_so, comes, with_mark, age_sent, left_unseen, number_of_age, any_age, any_of, same_flit, same_member, led, steps, Received, settled, came, may_come, requested, is_elsewhere, may_be, brings, replied, may_bring, passed, passed_by, is_shown, answered, acknowledged, request_comes, data_come, received_by, received_then, due_then, count}
use Rattle.chi_copies.specs.Arriving.{sent as sent_member, sent_of, sends as may_send, due_by, due_unsent}
use Rattle.chi_copies.specs.declared.replies.Age.TheVariants.{Own, Last}
use Rattle.chi_copies.specs.declared.replies.Asked.TheVariants.{NoReply}
use Rattle.chi_copies.specs.Prompt.{at_rest, answer_to, asked_by, KnowsSame, IsPrompt, is_access, BeginsPrompt, PromptFlitsAreTaken, StaysPrompt}
use Rattle.chi_copies.proofs.Finite.{no, left, right, both, or_left, or_right, either, by_truth, by_false, turned, flip, out_held}
use Rattle.chi_copies.specs.ArrivingLines.{gives_away, is_asking}
use Rattle.chi_copies.proofs.Rows.{same_held_is, some_is}
use Rattle.chi_copies.proofs.Means.{sane, none_stored, free_may}
use Rattle.chi_copies.proofs.Moved.{own_but, Came, came as came_from, one_came, others_after, other_of, quiet_at}
use Rattle.chi_copies.proofs.Loose.{slip_of}
use Rattle.chi_copies.proofs.Loosened.{one}
use Rattle.chi_copies.proofs.Leads.{all_by, none_some_nat, ack_is}
use Rattle.chi_copies.proofs.Larger.{fits_less}
use Rattle.chi_copies.proofs.Sets.{each_below}
use Rattle.chi_copies.proofs.Put.{here, there, everywhere}
use Rattle.chi_copies.proofs.PromptSteps.{flit_self, age_self, member_self, in_age, asking, replying, in_rest, in_asking, in_replying, stay_step, ask_step, reply_step, acked, own_is, three_steps, slip_way}

pub three : {A B C : Type 0} (R : ℕ → A → B → C → Type 0) (n : ℕ) (a : A) (b : B) (c : C) (f : ℕ → A) (g : ℕ → B) (h : ℕ → C) → R n a b c → ((m : ℕ) → m ≢ n → R m (f m) (g m) (h m)) → (m : ℕ) → R m (put n a f m) (put n b g m) (put n c h m)
three R n a b c f g h at rest = everywhere (λ m x y. R m x y (put n c h m)) n a b f g (subst (λ z. R n a b z) (sym (here n c h)) at) (λ m d. subst (λ z. R m (f m) (g m) z) (sym (there n c h m d)) (rest m d))

-- BEHIND UNSEEN STEPS
abbrev pub Rests : Observed → Received → Type 0
Rests o u = (n : ℕ) → n < 32 → (h : Held) → o.may n h ≡ true → u.may n (at_rest h) ≡ true

-- what is due as an agent at rest knows it
owned : (o : Observed) (r : Received) → KnowsSame o r → (n : ℕ) → due_by None (r.due n) (due_unsent (r.asked n) None) ≡ acked (o.public.due n)
owned o r known n = subst (λ d. due_by None d (due_unsent (r.asked n) None) ≡ acked (o.public.due n)) (sym (known.due n))
    (subst (λ a. due_by None (due_then (o.public.due n)) (due_unsent a None) ≡ acked (o.public.due n)) (sym (known.asked n)) (own_is (o.public.due n) (o.public.snooped n)))

pub loosened : (n : ℕ) (o : Observed) (u : Received) → KnowsSame o u → Rests o u → IsPrompt (loose n o) (settled u)
loosened n o u known rests = record {
  known = record { due = known.due; asked = known.asked; snooped = known.snooped; acks = known.acks; overtaken = known.overtaken; duty = known.duty; home = known.home };
  may = one (λ m X. m < 32 → (h : Held) (k : Member) → X h ≡ true → steps (u.due m) (u.asked m) (at_rest h) k ≡ true → (settled u).may m k ≡ true) n (image (slips o.public.stores (o.public.due n)) (o.may n)) o.may
      (λ l h k e s. let x = slip_of n o h e in let w = slip_way o.public.stores (u.due n) (u.asked n) (o.public.due n) x.held h (owned o u known n) x.how in
      three_steps (u.due n) (u.asked n) (u.may n) x.held w.between h k (rests n l x.held x.has) w.first w.second s)
      (λ m d l h k e s. three_steps (u.due m) (u.asked m) (u.may m) h h h k (rests m l h e) (stay_step (u.due m) (u.asked m) (at_rest h)) (stay_step (u.due m) (u.asked m) (at_rest h)) s);
}

pub begins : BeginsPrompt
begins z = record {
  known = record { due = λ n. refl; asked = λ n. refl; snooped = λ n. refl; acks = λ n. refl; overtaken = λ n. refl; duty = refl; home = λ p l v e. e };
  may = λ n l h m e s. three_steps Nothing NoReply (same_member (at_rest (plain Invalid))) h h h m (subst (λ h. same_member (at_rest (plain Invalid)) (at_rest h) ≡ true) (same_held_is (plain Invalid) h e) (member_self (at_rest (plain Invalid))))
      (stay_step Nothing NoReply (at_rest h)) (stay_step Nothing NoReply (at_rest h)) s;
}

-- FLITS BY THEIR KIND

sent_asks : (a : Act) (m : Member) (left : Held) → is_asking a ≡ true → sent_member a m left ≡ record { held = left; request = Some a; reply = m.reply }
sent_asks (Request kind) m left l = refl
sent_asks (Resend kind) m left l = refl
sent_asks (SnpResp answer) m left l = no l
sent_asks CompAck m left l = no l
sent_asks (CopyBackWrData form) m left l = no l
sent_asks NonCopyBackWrData m left l = no l
sent_asks (Load word) m left l = no l
sent_asks (Store word) m left l = no l

sent_replies : (a : Act) (h left : Held) → gives_away a ≡ true → sent_member a (at_rest h) left ≡ replying (record { act = a; age = age_sent a h }) (left_unseen a h left)
sent_replies (Request kind) h left l = no l
sent_replies (Resend kind) h left l = no l
sent_replies (SnpResp answer) h left l = refl
sent_replies CompAck h left l = no l
sent_replies (CopyBackWrData form) h left l = refl
sent_replies NonCopyBackWrData h left l = refl
sent_replies (Load word) h left l = no l
sent_replies (Store word) h left l = no l

lets_hidden : (a : Act) (z : Stores) (d : Due) (h : Held) → lets z a true d h ≡ lets Hidden a true d h
lets_hidden (Request kind) z d h = refl
lets_hidden (Resend kind) z d h = refl
lets_hidden (SnpResp answer) z d h = refl
lets_hidden CompAck z d h = refl
lets_hidden (CopyBackWrData form) z d h = refl
lets_hidden NonCopyBackWrData z d h = refl
lets_hidden (Load word) z d h = refl
lets_hidden (Store word) z d h = refl

ask_due : (a : Act) (d : Due) → is_asking a ≡ true → due_after a (due_then d) ≡ due_then (due_after a d)
ask_due (Request kind) d l = refl
ask_due (Resend kind) d l = refl
ask_due (SnpResp answer) d l = no l
ask_due CompAck d l = no l
ask_due (CopyBackWrData form) d l = no l
ask_due NonCopyBackWrData d l = no l
ask_due (Load word) d l = no l
ask_due (Store word) d l = no l

ask_asked : (a : Act) (d : Due) (q : Option Snoop) → is_asking a ≡ true → answer_to q ≡ asked_by (due_after a d) (snooped_after a q)
ask_asked (Request kind) d q l = refl
ask_asked (Resend kind) d q l = refl
ask_asked (SnpResp answer) d q l = no l
ask_asked CompAck d q l = no l
ask_asked (CopyBackWrData form) d q l = no l
ask_asked NonCopyBackWrData d q l = no l
ask_asked (Load word) d q l = no l
ask_asked (Store word) d q l = no l

ask_snooped : (a : Act) (q : Option Snoop) → is_asking a ≡ true → snooped_after a q ≡ q
ask_snooped (Request kind) q l = refl
ask_snooped (Resend kind) q l = refl
ask_snooped (SnpResp answer) q l = no l
ask_snooped CompAck q l = no l
ask_snooped (CopyBackWrData form) q l = no l
ask_snooped NonCopyBackWrData q l = no l
ask_snooped (Load word) q l = no l
ask_snooped (Store word) q l = no l

ask_acks : (a : Act) (d : Due) → is_asking a ≡ true → 0 ≡ count (is_acknowledging (due_after a d))
ask_acks (Request kind) d l = refl
ask_acks (Resend kind) d l = refl
ask_acks (SnpResp answer) d l = no l
ask_acks CompAck d l = no l
ask_acks (CopyBackWrData form) d l = no l
ask_acks NonCopyBackWrData d l = no l
ask_acks (Load word) d l = no l
ask_acks (Store word) d l = no l

ask_passes : (a : Act) → is_asking a ≡ true → passes_duty a ≡ false
ask_passes (Request kind) l = refl
ask_passes (Resend kind) l = refl
ask_passes (SnpResp answer) l = no l
ask_passes CompAck l = no l
ask_passes (CopyBackWrData form) l = no l
ask_passes NonCopyBackWrData l = no l
ask_passes (Load word) l = no l
ask_passes (Store word) l = no l

ask_tells : (a : Act) → is_asking a ≡ true → tells_words a ≡ false
ask_tells (Request kind) l = refl
ask_tells (Resend kind) l = refl
ask_tells (SnpResp answer) l = no l
ask_tells CompAck l = no l
ask_tells (CopyBackWrData form) l = no l
ask_tells NonCopyBackWrData l = no l
ask_tells (Load word) l = no l
ask_tells (Store word) l = no l

resent_may : (kind : Kind) (d : Due) → is_resent kind d ≡ true → may_be_free d ≡ true
resent_may kind Nothing e = no e
resent_may kind (Completion k) e = no e
resent_may kind (Resending k) e = refl
resent_may kind (SureCompletion k) e = no e
resent_may kind (WriteData k) e = no e
resent_may kind Acknowledgement e = no e

ask_when : (a : Act) (z : Stores) (d : Due) (h : Held) → is_asking a ≡ true → lets z a true d h ≡ true → may_be_free d ≡ true
ask_when (Request kind) z d h l e = free_may d h e
ask_when (Resend kind) z d h l e = resent_may kind d (left (is_resent kind d) _ e)
ask_when (SnpResp answer) z d h l e = no l
ask_when CompAck z d h l e = no l
ask_when (CopyBackWrData form) z d h l e = no l
ask_when NonCopyBackWrData z d h l e = no l
ask_when (Load word) z d h l e = no l
ask_when (Store word) z d h l e = no l

free_asked : (d : Due) (q : Option Snoop) → may_be_free d ≡ true → asked_by d q ≡ answer_to q
free_asked Nothing q m = refl
free_asked (Completion k) q m = no m
free_asked (Resending k) q m = refl
free_asked (SureCompletion k) q m = no m
free_asked (WriteData k) q m = no m
free_asked Acknowledgement q m = no m

free_acks : (d : Due) → may_be_free d ≡ true → count (is_acknowledging d) ≡ 0
free_acks Nothing m = refl
free_acks (Completion k) m = no m
free_acks (Resending k) m = refl
free_acks (SureCompletion k) m = no m
free_acks (WriteData k) m = no m
free_acks Acknowledgement m = no m

request_due : (d : Due) (kind : Kind) → may_be_free d ≡ true → may_come (Request kind) (due_then d) ≡ true
request_due Nothing kind m = refl
request_due (Completion k) kind m = no m
request_due (Resending k) kind m = refl
request_due (SureCompletion k) kind m = no m
request_due (WriteData k) kind m = no m
request_due Acknowledgement kind m = no m

resend_due : (d : Due) (kind : Kind) → is_resent kind d ≡ true → may_come (Resend kind) (due_then d) ≡ true
resend_due Nothing kind m = no m
resend_due (Completion k) kind m = no m
resend_due (Resending k) kind m = m
resend_due (SureCompletion k) kind m = no m
resend_due (WriteData k) kind m = no m
resend_due Acknowledgement kind m = no m

ask_comes : (a : Act) (z : Stores) (d : Due) (h : Held) → is_asking a ≡ true → lets z a true d h ≡ true → may_come a (due_then d) ≡ true
ask_comes (Request kind) z d h l e = request_due d kind (free_may d h e)
ask_comes (Resend kind) z d h l e = resend_due d kind (left (is_resent kind d) _ e)
ask_comes (SnpResp answer) z d h l e = no l
ask_comes CompAck z d h l e = no l
ask_comes (CopyBackWrData form) z d h l e = no l
ask_comes NonCopyBackWrData z d h l e = no l
ask_comes (Load word) z d h l e = no l
ask_comes (Store word) z d h l e = no l

-- an answer leaves what is due, and write data are due
data_only : (f : Kind → Bool) (d : Due) → is_due_data f d ≡ true → (kind : Kind) × (d ≡ WriteData kind)
data_only f Nothing e = no e
data_only f (Completion k) e = no e
data_only f (Resending k) e = no e
data_only f (SureCompletion k) e = no e
data_only f (WriteData k) e = (k, refl)
data_only f Acknowledgement e = no e

-- an agent that is snooped has no data due
answered_due : (answer : Answer) (d : Due) (q : Option Snoop) → snoop_of (asked_by d q) ≡ q → allows (SnpResp answer) q ≡ true → NoReply ≡ asked_by d None
answered_due answer Nothing q s g = refl
answered_due answer (Completion k) q s g = refl
answered_due answer (Resending k) q s g = refl
answered_due answer (SureCompletion k) q s g = refl
answered_due answer (WriteData k) q s g = no (subst (λ q. allows (SnpResp answer) q ≡ true) (sym s) g)
answered_due answer Acknowledgement q s g = refl

no_snoop : (kind : Kind) (q : Option Snoop) → snoop_of (asked_by (WriteData kind) q) ≡ q → NoReply ≡ answer_to q
no_snoop kind q s = subst (λ q. NoReply ≡ answer_to q) s refl

reply_due : (a : Act) (z : Stores) (d : Due) (q : Option Snoop) (h : Held) → gives_away a ≡ true → lets z a true d h ≡ true → snoop_of (asked_by d q) ≡ q → allows a q ≡ true → due_then d ≡ due_then (due_after a d)
reply_due (Request kind) z d q h l e s g = no l
reply_due (Resend kind) z d q h l e s g = no l
reply_due (SnpResp answer) z d q h l e s g = refl
reply_due CompAck z d q h l e s g = no l
reply_due (CopyBackWrData form) z d q h l e s g = ap due_then (data_only is_copy_back d e).1
reply_due NonCopyBackWrData z d q h l e s g = ap due_then (data_only is_whole_write d e).1
reply_due (Load word) z d q h l e s g = no l
reply_due (Store word) z d q h l e s g = no l

reply_asked : (a : Act) (z : Stores) (d : Due) (q : Option Snoop) (h : Held) → gives_away a ≡ true → lets z a true d h ≡ true → snoop_of (asked_by d q) ≡ q → allows a q ≡ true → NoReply ≡ asked_by (due_after a d) (snooped_after a q)
reply_asked (Request kind) z d q h l e s g = no l
reply_asked (Resend kind) z d q h l e s g = no l
reply_asked (SnpResp answer) z d q h l e s g = answered_due answer d q s g
reply_asked CompAck z d q h l e s g = no l
reply_asked (CopyBackWrData form) z d q h l e s g = no_snoop (data_only is_copy_back d e).0 q (subst (λ d. snoop_of (asked_by d q) ≡ q) (data_only is_copy_back d e).1 s)
reply_asked NonCopyBackWrData z d q h l e s g = no_snoop (data_only is_whole_write d e).0 q (subst (λ d. snoop_of (asked_by d q) ≡ q) (data_only is_whole_write d e).1 s)
reply_asked (Load word) z d q h l e s g = no l
reply_asked (Store word) z d q h l e s g = no l

reply_snooped : (a : Act) (z : Stores) (d : Due) (q : Option Snoop) (h : Held) → gives_away a ≡ true → lets z a true d h ≡ true → snoop_of (asked_by d q) ≡ q → allows a q ≡ true → None ≡ snooped_after a q
reply_snooped (Request kind) z d q h l e s g = no l
reply_snooped (Resend kind) z d q h l e s g = no l
reply_snooped (SnpResp answer) z d q h l e s g = refl
reply_snooped CompAck z d q h l e s g = no l
reply_snooped (CopyBackWrData form) z d q h l e s g = subst (λ d. snoop_of (asked_by d q) ≡ q) (data_only is_copy_back d e).1 s
reply_snooped NonCopyBackWrData z d q h l e s g = subst (λ d. snoop_of (asked_by d q) ≡ q) (data_only is_whole_write d e).1 s
reply_snooped (Load word) z d q h l e s g = no l
reply_snooped (Store word) z d q h l e s g = no l

reply_acks : (a : Act) (z : Stores) (d : Due) (q : Option Snoop) (h : Held) → gives_away a ≡ true → lets z a true d h ≡ true → snoop_of (asked_by d q) ≡ q → allows a q ≡ true → count (is_acknowledging d) ≡ count (is_acknowledging (due_after a d))
reply_acks (Request kind) z d q h l e s g = no l
reply_acks (Resend kind) z d q h l e s g = no l
reply_acks (SnpResp answer) z d q h l e s g = refl
reply_acks CompAck z d q h l e s g = no l
reply_acks (CopyBackWrData form) z d q h l e s g = ap (λ d. count (is_acknowledging d)) (data_only is_copy_back d e).1
reply_acks NonCopyBackWrData z d q h l e s g = ap (λ d. count (is_acknowledging d)) (data_only is_whole_write d e).1
reply_acks (Load word) z d q h l e s g = no l
reply_acks (Store word) z d q h l e s g = no l

acted_acked : (a : Act) (x : Bool) (h k : Held) → (is_asking a || gives_away a) ≡ true → lets Hidden a true Acknowledgement h ≡ true → row a true x (is_due_data gives_up Acknowledgement) h ≡ Some k → acts Hidden a true x Nothing h ≡ Some k
acted_acked (Request kind) x h k l g e = no g
acted_acked (Resend kind) x h k l g e = no g
acted_acked (SnpResp answer) x h k l g e = e
acted_acked CompAck x h k l g e = no l
acted_acked (CopyBackWrData form) x h k l g e = no g
acted_acked NonCopyBackWrData x h k l g e = no g
acted_acked (Load word) x h k l g e = no l
acted_acked (Store word) x h k l g e = no l

if_some : (b : Bool) (o : Option Held) (k : Held) → b ≡ true → o ≡ Some k → (if b then o else None) ≡ Some k
if_some true o k b e = e
if_some false o k b e = no b

acted : (d : Due) (a : Act) (x : Bool) (h k : Held) → (is_asking a || gives_away a) ≡ true → lets Hidden a true d h ≡ true → row a true x (is_due_data gives_up d) h ≡ Some k → acts Hidden a true x (acked d) h ≡ Some k
acted Nothing a x h k l g e = if_some (lets Hidden a true Nothing h) (row a true x (is_due_data gives_up Nothing) h) k g e
acted (Completion kind) a x h k l g e = if_some (lets Hidden a true (Completion kind) h) (row a true x (is_due_data gives_up (Completion kind)) h) k g e
acted (Resending kind) a x h k l g e = if_some (lets Hidden a true (Resending kind) h) (row a true x (is_due_data gives_up (Resending kind)) h) k g e
acted (SureCompletion kind) a x h k l g e = if_some (lets Hidden a true (SureCompletion kind) h) (row a true x (is_due_data gives_up (SureCompletion kind)) h) k g e
acted (WriteData kind) a x h k l g e = if_some (lets Hidden a true (WriteData kind) h) (row a true x (is_due_data gives_up (WriteData kind)) h) k g e
acted Acknowledgement a x h k l g e = acted_acked a x h k l g e

or_none : (a b : Bool) → (a || b) ≡ false → (a ≡ false) × (b ≡ false)
or_none false b e = (refl, e)
or_none true b e = no (sym e)

or_false : (a b : Bool) → b ≡ false → a ≡ (a || b)
or_false true b e = refl
or_false false b e = sym e

then_some : (b : Bool) (x : Option Member) (m : Member) → b ≡ true → x ≡ Some m → (if b then x else None) ≡ Some m
then_some true x m b e = e
then_some false x m b e = no b

if_same : {A : Type 0} (b : Bool) (x y : A) → b ≡ false → y ≡ (if b then x else y)
if_same true x y e = no (sym e)
if_same false x y e = refl

-- a flit that its copy sends is on its way behind an unseen step
goes : (d : Due) (a : Asked) (act : Act) (h k : Held) → allows act (snoop_of a) ≡ true → acts Hidden act true (lets_go (snoop_of a)) (due_by None d (due_unsent a None)) h ≡ Some k
    → may_send d a act (at_rest h) ≡ Some (sent_member act (at_rest h) k)
goes d a act h k allowed e = then_some (allows act (snoop_of a)) (sent_of act (at_rest h) (acts Hidden act true (lets_go (snoop_of a)) (due_by None d (due_unsent a None)) h)) (sent_member act (at_rest h) k) allowed (ap (sent_of act (at_rest h)) e)

-- WORDS ON THEIR WAY
own_or : (b x : Bool) → (b ≡ false → x ≡ true) → (not (is_own (if b then Last else Own)) || x) ≡ true
own_or true x h = refl
own_or false x h = h refl

twice : (b : Bool) → b ≡ true → not (not b) ≡ true
twice true e = e
twice false e = e

and_true : (s : Bool) → (s && true) ≡ s
and_true true = refl
and_true false = refl

marks : (t b s : Bool) → (t ≡ true → s ≡ false) → ((if t then b else s) && not (t && is_last (if b then Last else Own))) ≡ s
marks true true s h = sym (h refl)
marks true false s h = sym (h refl)
marks false true s h = and_true s
marks false false s h = and_true s

-- once they have come the copy is as in a log as sent
unmarked : (a : Act) (h k : Held) → (tells_words a ≡ true → k.stored ≡ false)
    → with_mark (left_unseen a h k) ((left_unseen a h k).stored && not (comes (replying (record { act = a; age = age_sent a h }) (left_unseen a h k)))) ≡ k
unmarked a h k f = ap (λ (b : Bool). with_mark k b) (marks (tells_words a) (h.stored || writes a) k.stored f)

fits_home_word : (home : Option (List ℕ)) (w : List ℕ) → fits_home home w ≡ true → (p : ℕ) → p < 8 → (v : ℕ) → home_at home p ≡ Some v → v ≡ word_at w p
fits_home_word home w e p l v q = eqb-true v (word_at w p) (subst (λ x. fits_at x (word_at w p) ≡ true) q (each_below 8 (λ p. fits_at (home_at home p) (word_at w p)) e p l))

shown_fits : (home : Option (List ℕ)) (f : CacheFlit) → is_shown home f ≡ true → fits_home home f.shown ≡ true
shown_fits None f e = no e
shown_fits (Some words) f e = e

-- what the home knows of its words behind them
home_by : (t b s c : Bool) (rh oh : Option (List ℕ)) (w : List ℕ) (p v : ℕ) → (t ≡ false → home_at rh p ≡ Some v → home_at oh p ≡ Some v) → (t ≡ true → b ≡ false → home_at rh p ≡ Some v → v ≡ word_at w p)
    → (s ≡ true → home_at rh p ≡ Some v → v ≡ word_at w p) → home_at (if not (t && b) || s then rh else (if c then None else Some w)) p ≡ Some v → home_at (if t then Some w else oh) p ≡ Some v
home_by false b s c rh oh w p v f g k e = f refl e
home_by true false s c rh oh w p v f g k e = ap (λ (x : ℕ). Some x) (sym (g refl refl e))
home_by true true true c rh oh w p v f g k e = ap (λ (x : ℕ). Some x) (sym (k refl e))
home_by true true false true rh oh w p v f g k e = absurd (none_some_nat v e)
home_by true true false false rh oh w p v f g k e = e

-- others: their words are older than those that come
is_lost_mark : (s d : Bool) → (s && d) ≡ false → (s && not (s && (not d && true))) ≡ false
is_lost_mark false d e = refl
is_lost_mark true true e = no (sym e)
is_lost_mark true false e = refl

passes_by : (b : Bool) (t : Held) → is_newer t ≡ false → (b ≡ false → t.stored ≡ false) → passed (if b then Last else Own) (at_rest t) (at_rest (shown_of t)) ≡ true
passes_by true t e f = subst (λ (s : Bool). same_member (at_rest (with_mark t s)) (at_rest (shown_of t)) ≡ true) (sym (is_lost_mark t.stored (holds_data t.copy) e)) (member_self (at_rest (shown_of t)))
passes_by false t e f = subst (λ (s : Bool). same_member (at_rest (with_mark t s)) (at_rest (shown_of t)) ≡ true) (sym (f refl)) (member_self (at_rest (shown_of t)))

pass_if : (b x y : Bool) → (b ≡ true → x ≡ true) → (b ≡ false → y ≡ true) → (if b then x else y) ≡ true
pass_if true x y f g = f refl
pass_if false x y f g = g refl

-- A FLIT THAT IS TAKEN
module _ (o : Observed) (r : Received) (f : CacheFlit) (sound : Sound o) (low : f.agent.0 < 32) (plainly : is_access f ≡ false) (p : IsPrompt o r) (take : takes o f ≡ true) where
  abbrev n : ℕ
  n = f.agent.0

  abbrev a : Act
  a = f.act

  abbrev d : Due
  d = o.public.due n

  abbrev q : Option Snoop
  q = o.public.snooped n

  abbrev Sender : Held → Type 0
  Sender k = Came o f sound low k

  abbrev reply_of : Held → Reply
  reply_of h = record { act = f.act; age = age_sent f.act h }

  is_allowed : allows a q ≡ true
  is_allowed = left (allows a q) _ take

  is_snooped : snoop_of (asked_by d q) ≡ q
  is_snooped = subst (λ x. snoop_of x ≡ q) (p.known.asked n) (p.known.snooped n)

  rests : Rests o r
  rests m l h e = p.may m l h (at_rest h) e (stay_step (r.due m) (r.asked m) (at_rest h))

  own_of : (k : Held) (c : Sender k) → c.by.own ≡ true
  own_of k c = own_but a (known_of o n c.held) c.by.own c.by.owned (or_none (looks a) (stores a) plainly).0

  let_go : (k : Held) (c : Sender k) → lets o.public.stores a true d c.held ≡ true
  let_go k c = subst (λ b. lets o.public.stores a b d c.held ≡ true) (own_of k c) c.by.let_go

  on_way : (k : Held) (c : Sender k) → (is_asking a || gives_away a) ≡ true → may_send (r.due n) (r.asked n) a (at_rest c.held) ≡ Some (sent_member a (at_rest c.held) k)
  on_way k c l = goes (r.due n) (r.asked n) a c.held k (subst (λ x. allows a x ≡ true) (sym (p.known.snooped n)) is_allowed)
      (subst (λ e. acts Hidden a true (lets_go (snoop_of (r.asked n))) e c.held ≡ Some k) (sym (owned o r p.known n)) (subst (λ x. acts Hidden a true (lets_go x) (acked d) c.held ≡ Some k) (sym (p.known.snooped n))
      (acted d a (lets_go q) c.held k l (sym (lets_hidden a o.public.stores d c.held) ∙ let_go k c) (subst (λ b. row a b (lets_go q) (is_due_data gives_up d) c.held ≡ Some k) (own_of k c) c.by.row))))

  asking_may : (k : Held) (c : Sender k) → is_asking a ≡ true → r.may n (asking a k) ≡ true
  asking_may k c l = p.may n low c.held (asking a k) c.has (subst (λ m. steps (r.due n) (r.asked n) (at_rest c.held) m ≡ true) (sent_asks a (at_rest c.held) k l)
      (ask_step (r.due n) (r.asked n) a (at_rest c.held) (sent_member a (at_rest c.held) k) l (on_way k c (or_left (is_asking a) (gives_away a) l))))

  replying_may : (k : Held) (c : Sender k) → gives_away a ≡ true → r.may n (replying (reply_of c.held) (left_unseen a c.held k)) ≡ true
  replying_may k c l = p.may n low c.held (replying (reply_of c.held) (left_unseen a c.held k)) c.has (subst (λ m. steps (r.due n) (r.asked n) (at_rest c.held) m ≡ true) (sent_replies a c.held k l)
      (reply_step (r.due n) (r.asked n) a (at_rest c.held) (sent_member a (at_rest c.held) k) l (on_way k c (or_right (is_asking a) (gives_away a) l))))

  -- a request
  asks_rest : (k : Held) → sent o f k ≡ true → is_asking a ≡ true → led (came a) (r.may n) (at_rest k) ≡ true
  asks_rest k e l = in_asking (λ m. r.may n m && came a m (at_rest k)) a k l (both (r.may n (asking a k)) _ (asking_may k (came_from o f sound low k e) l) (both (same_flit a a) _ (flit_self a) (member_self (at_rest k))))

  asks_taken : is_asking a ≡ true → request_comes r f ≡ true
  asks_taken l = let k = out_held (sent o f) (right (is_placed a) _ (right (allows a q) _ take)) in let c = came_from o f sound low k.0 k.1 in
      both (may_come a (r.due n)) _ (subst (λ e. may_come a e ≡ true) (sym (p.known.due n)) (ask_comes a o.public.stores d c.held l (let_go k.0 c))) (in_rest (led (came a) (r.may n)) k.0 (asks_rest k.0 k.1 l))

  -- a reply: its words are the home's own, or those last stored
  was_fresh : (k : Held) (c : Sender k) → tells_words a ≡ true → (c.held.stored || writes a) ≡ false → (has_data a ≡ true) × (is_fresh c.held ≡ true)
  was_fresh k c t s = let has : has_data a ≡ true = either (has_data a) (writes a) t (λ e. e) (λ e. no (sym (or_none c.held.stored (writes a) s).1 ∙ e)) in
      (has, both (holds_data c.held.copy) _ (left (holds_data c.held.copy) _ (c.facts.has has)) (flip c.held.stored (or_none c.held.stored (writes a) s).0))

  own_fits : (k : Held) (c : Sender k) → tells_words a ≡ true → (c.held.stored || writes a) ≡ false → fits_home r.home f.shown ≡ true
  own_fits k c t s = let w = was_fresh k c t s in all_by 8 (λ x. fits_at (home_at r.home x) (word_at f.shown x)) (λ x l. fits_less (home_at o.home x) (home_at r.home x) (word_at f.shown x) (p.known.home x l)
      (subst (λ b. fits_at (if b then home_at o.home x else (if has_news o.public n c.held then o.news x else None)) (word_at f.shown x) ≡ true) w.1
      (each_below 8 (λ x. fits_at (known_of o n c.held x) (word_at f.shown x)) (subst (λ b. (not b || fits_each (known_of o n c.held) (word_at f.shown)) ≡ true) w.0 c.by.fits) x l)))

  nobody_else : not (is_elsewhere r n) ≡ true
  nobody_else = twice (all_below 32 (λ m. m == n || any_of (r.may m) (λ k. not (comes k)))) (all_by 32 (λ m. m == n || any_of (r.may m) (λ k. not (comes k)))
      (λ m l. let x = out_held (o.may m) (sound.some m l) in or_right (m == n) _ (in_rest (λ k. r.may m k && not (comes k)) x.0 (both (r.may m (at_rest x.0)) _ (rests m l x.0 x.1) refl))))

  it_brings : (k : Held) (c : Sender k) → may_be r f (reply_of c.held) ≡ true
  it_brings k c = both (same_flit a a) _ (flit_self a) (by_truth (tells_words a)
      (λ t. or_right (not (tells_words a)) _ (both (not (is_own (age_sent a c.held)) || fits_home r.home f.shown) _ (own_or (c.held.stored || writes a) (fits_home r.home f.shown) (own_fits k c t))
      (or_right (not (is_last (age_sent a c.held))) _ nobody_else)))
      (λ t. or_left (not (tells_words a)) _ (flip (tells_words a) t)))

  replies_rest : (k : Held) → sent o f k ≡ true → gives_away a ≡ true → led (replied r f) (r.may n) (at_rest k) ≡ true
  replies_rest k e l = let c = came_from o f sound low k e in
      in_replying (λ m. r.may n m && replied r f m (at_rest k)) (reply_of c.held) (left_unseen a c.held k) l (both (r.may n (replying (reply_of c.held) (left_unseen a c.held k))) _ (replying_may k c l)
      (both (may_be r f (reply_of c.held)) _ (it_brings k c) (subst (λ h. same_member (at_rest h) (at_rest k) ≡ true) (sym (unmarked a c.held k (λ t. turned k.stored (c.facts.tells t)))) (member_self (at_rest k)))))

  replies_taken : gives_away a ≡ true → data_come r false f ≡ true
  replies_taken l = let k = out_held (sent o f) (right (is_placed a) _ (right (allows a q) _ take)) in in_rest (led (replied r f) (r.may n)) k.0 (replies_rest k.0 k.1 l)

  acks_taken : is_acknowledging d ≡ true → nat_lt 0 (r.acks n) ≡ true
  acks_taken e = subst (λ x. nat_lt 0 x ≡ true) (sym (p.known.acks n ∙ ap (λ d. count (is_acknowledging d)) (ack_is d e))) refl

  some_let : lets o.public.stores a true d (one_came o f sound low take).1.held ≡ true
  some_let = let_go (one_came o f sound low take).0 (one_came o f sound low take).1

  by_kind : (b : Act) → b ≡ a → received_by b r false f ≡ true
  by_kind (Request kind) e = asks_taken (subst (λ a. is_asking a ≡ true) e refl)
  by_kind (Resend kind) e = asks_taken (subst (λ a. is_asking a ≡ true) e refl)
  by_kind (SnpResp answer) e = replies_taken (subst (λ a. gives_away a ≡ true) e refl)
  by_kind CompAck e = acks_taken (subst (λ a. lets o.public.stores a true d (one_came o f sound low take).1.held ≡ true) (sym e) some_let)
  by_kind (CopyBackWrData form) e = replies_taken (subst (λ a. gives_away a ≡ true) e refl)
  by_kind NonCopyBackWrData e = replies_taken (subst (λ a. gives_away a ≡ true) e refl)
  by_kind (Load word) e = no (sym (subst (λ a. (looks a || stores a) ≡ false) (sym e) plainly))
  by_kind (Store word) e = no (sym (subst (λ a. (looks a || stores a) ≡ false) (sym e) plainly))

  -- WHAT IT LEAVES
  -- of others, where it tells no words
  untold : tells_words a ≡ false → (m : ℕ) → m < 32 → (h : Held) → others_after o f m h ≡ true → r.may m (at_rest h) ≡ true
  untold t m l h e = let x = other_of o f m h e in subst (λ h. r.may m (at_rest h) ≡ true) (if_same (tells_words a) (shown_of x.held) x.held t ∙ x.is) (rests m l x.held x.has)

  untold_home : tells_words a ≡ false → (x : ℕ) → x < 8 → (v : ℕ) → home_at r.home x ≡ Some v → home_at (moved o f).home x ≡ Some v
  untold_home t x l v e = subst (λ h. home_at h x ≡ Some v) (if_same (tells_words a) (Some f.shown) o.home t) (p.known.home x l v e)

  asks_free : is_asking a ≡ true → may_be_free d ≡ true
  asks_free l = ask_when a o.public.stores d (one_came o f sound low take).1.held l some_let

  asks_known : is_asking a ≡ true → KnowsSame (moved o f) (requested r f)
  asks_known l = record {
    due = everywhere (λ m x y. x ≡ due_then y) n (due_after a (r.due n)) (due_after a d) r.due o.public.due (ap (due_after a) (p.known.due n) ∙ ask_due a d l) (λ m _. p.known.due m);
    asked = everywhere (λ m x y. r.asked m ≡ asked_by x y) n (due_after a d) (snooped_after a q) o.public.due o.public.snooped (p.known.asked n ∙ free_asked d q (asks_free l) ∙ ask_asked a d q l) (λ m _. p.known.asked m);
    snooped = one (λ m y. snoop_of (r.asked m) ≡ y) n (snooped_after a q) o.public.snooped (p.known.snooped n ∙ sym (ask_snooped a q l)) (λ m _. p.known.snooped m);
    acks = one (λ m y. r.acks m ≡ count (is_acknowledging y)) n (due_after a d) o.public.due (p.known.acks n ∙ free_acks d (asks_free l) ∙ ask_acks a d l) (λ m _. p.known.acks m);
    overtaken = p.known.overtaken;
    duty = p.known.duty ∙ or_false o.public.duty (passes_duty a) (ask_passes a l);
    home = untold_home (ask_tells a l);
  }

  asks_rests : is_asking a ≡ true → Rests (moved o f) (requested r f)
  asks_rests l = everywhere (λ m X Y. m < 32 → (h : Held) → X h ≡ true → Y (at_rest h) ≡ true) n (sent o f) (led (came a) (r.may n)) (others_after o f) r.may
      (λ _ h e. asks_rest h e l) (λ m _. untold (ask_tells a l) m)

  -- a CompAck
  ack_known : CompAck ≡ a → d ≡ Acknowledgement → KnowsSame (moved o f) (acknowledged r n)
  ack_known c e = record {
    due = one (λ m y. r.due m ≡ due_then y) n (due_after a d) o.public.due (p.known.due n ∙ ap due_then e ∙ subst (λ a. Nothing ≡ due_then (due_after a d)) c refl) (λ m _. p.known.due m);
    asked = everywhere (λ m x y. r.asked m ≡ asked_by x y) n (due_after a d) (snooped_after a q) o.public.due o.public.snooped
        (p.known.asked n ∙ ap (λ d. asked_by d q) e ∙ subst (λ a. answer_to q ≡ asked_by (due_after a d) (snooped_after a q)) c refl) (λ m _. p.known.asked m);
    snooped = one (λ m y. snoop_of (r.asked m) ≡ y) n (snooped_after a q) o.public.snooped (p.known.snooped n ∙ subst (λ a. q ≡ snooped_after a q) c refl) (λ m _. p.known.snooped m);
    acks = everywhere (λ m x y. x ≡ count (is_acknowledging y)) n (r.acks n - 1) (due_after a d) r.acks o.public.due
        (ap (λ k. k - 1) (p.known.acks n ∙ ap (λ d. count (is_acknowledging d)) e) ∙ subst (λ a. 0 ≡ count (is_acknowledging (due_after a d))) c refl) (λ m _. p.known.acks m);
    overtaken = p.known.overtaken;
    duty = p.known.duty ∙ or_false o.public.duty (passes_duty a) (subst (λ a. passes_duty a ≡ false) c refl);
    home = untold_home (subst (λ a. tells_words a ≡ false) c refl);
  }

  ack_rests : CompAck ≡ a → Rests (moved o f) (acknowledged r n)
  ack_rests c = one (λ m X. m < 32 → (h : Held) → X h ≡ true → r.may m (at_rest h) ≡ true) n (sent o f) (others_after o f)
      (λ l h e. let s = came_from o f sound low h e in subst (λ h. r.may n (at_rest h) ≡ true)
      (some_is s.held h (subst (λ a. row a s.by.own (lets_go q) (is_due_data gives_up d) s.held ≡ Some h) (sym c) s.by.row)) (rests n l s.held s.has))
      (λ m _. untold (subst (λ a. tells_words a ≡ false) c refl) m)

  -- a reply
  brings_age : (g : Age → Bool) (k : Held) (c : Sender k) → gives_away a ≡ true → tells_words a ≡ true → g (age_sent a c.held) ≡ true → may_bring r f g ≡ true
  brings_age g k c l t e = in_replying (λ m. r.may n m && (brings r f m.reply && has_words_so g m.reply)) (reply_of c.held) (left_unseen a c.held k) l
      (both (r.may n (replying (reply_of c.held) (left_unseen a c.held k))) _ (replying_may k c l) (both (may_be r f (reply_of c.held)) _ (it_brings k c) (both (tells_words a) _ t e)))

  was_shown : (k : Held) (c : Sender k) → gives_away a ≡ true → tells_words a ≡ true → may_bring r f is_new ≡ false → (c.held.stored || writes a) ≡ false
  was_shown k c l t b = by_false (c.held.stored || writes a) (λ s. sym b ∙ brings_age is_new k c l t (subst (λ b. is_new (if b then Last else Own) ≡ true) (sym s) refl))

  reply_known : gives_away a ≡ true → KnowsSame (moved o f) (answered r f)
  reply_known l = let c = one_came o f sound low take in record {
    due = one (λ m y. r.due m ≡ due_then y) n (due_after a d) o.public.due (p.known.due n ∙ reply_due a o.public.stores d q c.1.held l some_let is_snooped is_allowed) (λ m _. p.known.due m);
    asked = three (λ m x y w. x ≡ asked_by y w) n NoReply (due_after a d) (snooped_after a q) r.asked o.public.due o.public.snooped (reply_asked a o.public.stores d q c.1.held l some_let is_snooped is_allowed) (λ m _. p.known.asked m);
    snooped = everywhere (λ m x y. snoop_of x ≡ y) n NoReply (snooped_after a q) r.asked o.public.snooped (reply_snooped a o.public.stores d q c.1.held l some_let is_snooped is_allowed) (λ m _. p.known.snooped m);
    acks = one (λ m y. r.acks m ≡ count (is_acknowledging y)) n (due_after a d) o.public.due (p.known.acks n ∙ reply_acks a o.public.stores d q c.1.held l some_let is_snooped is_allowed) (λ m _. p.known.acks m);
    overtaken = p.known.overtaken;
    duty = ap (λ b. b || passes_duty a) p.known.duty;
    home = λ x lo v e. home_by (tells_words a) (may_bring r f is_new) (is_shown r.home f) (may_bring r f (λ e. not (is_new e))) r.home o.home f.shown x v (λ t. p.known.home x lo v)
        (λ t b i. fits_home_word r.home f.shown (own_fits c.0 c.1 t (was_shown c.0 c.1 l t b)) x lo v i) (λ s i. fits_home_word r.home f.shown (shown_fits r.home f s) x lo v i) e;
  }

  others_rest : gives_away a ≡ true → (m : ℕ) → m ≢ n → m < 32 → (h : Held) → others_after o f m h ≡ true → led (passed_by r f) (r.may m) (at_rest h) ≡ true
  others_rest l m g lm h e =
      let c = one_came o f sound low take in let x = other_of o f m h e in
      in_rest (λ j. r.may m j && passed_by r f j (at_rest h)) x.held (both (r.may m (at_rest x.held)) _ (rests m lm x.held x.has)
      (subst (λ h. passed_by r f (at_rest x.held) (at_rest h) ≡ true) x.is (behind x.held x.has (tells_words a) refl)))
    where
      behind : (t : Held) → o.may m t ≡ true → (b : Bool) → tells_words a ≡ b → passed_by r f (at_rest t) (at_rest (others_then a t)) ≡ true
      behind t has true w = let c = one_came o f sound low take in subst (λ b. (if b then any_age (λ e. may_bring r f (λ g. number_of_age g == number_of_age e) && passed e (at_rest t) (at_rest (if b then shown_of t else t))) else same_member (at_rest t) (at_rest (if b then shown_of t else t))) ≡ true) (sym w)
          (in_age (λ e. may_bring r f (λ g. number_of_age g == number_of_age e) && passed e (at_rest t) (at_rest (shown_of t))) (age_sent a c.1.held)
          (both (may_bring r f (λ g. number_of_age g == number_of_age (age_sent a c.1.held))) _ (brings_age (λ g. number_of_age g == number_of_age (age_sent a c.1.held)) c.0 c.1 l w (age_self (age_sent a c.1.held)))
          (passes_by (c.1.held.stored || writes a) t (quiet_at o f sound low c.0 c.0 c.1 m g lm t has w)
          (λ s. none_stored c.1.held t (sound.pairs n m low lm (λ e. g (sym e)) c.1.held t c.1.has has) (sane o sound m lm t has) (was_fresh c.0 c.1 w s).1))))
      behind t has false w = subst (λ b. (if b then any_age (λ e. may_bring r f (λ g. number_of_age g == number_of_age e) && passed e (at_rest t) (at_rest (if b then shown_of t else t))) else same_member (at_rest t) (at_rest (if b then shown_of t else t))) ≡ true) (sym w) (member_self (at_rest t))

  reply_rests : gives_away a ≡ true → Rests (moved o f) (answered r f)
  reply_rests l = everywhere (λ m X Y. m < 32 → (h : Held) → X h ≡ true → Y (at_rest h) ≡ true) n (sent o f) (led (replied r f) (r.may n)) (others_after o f) (λ m. led (passed_by r f) (r.may m))
      (λ _ h e. replies_rest h e l) (λ m g. others_rest l m g)

  left_by_kind : (b : Act) → b ≡ a → IsPrompt (next o f) (settled (received_then b r false f))
  left_by_kind (Request kind) e = let l = subst (λ a. is_asking a ≡ true) e refl in loosened n (moved o f) (requested r f) (asks_known l) (asks_rests l)
  left_by_kind (Resend kind) e = let l = subst (λ a. is_asking a ≡ true) e refl in loosened n (moved o f) (requested r f) (asks_known l) (asks_rests l)
  left_by_kind (SnpResp answer) e = let l = subst (λ a. gives_away a ≡ true) e refl in loosened n (moved o f) (answered r f) (reply_known l) (reply_rests l)
  left_by_kind CompAck e = loosened n (moved o f) (acknowledged r n) (ack_known e (ack_is d (subst (λ a. lets o.public.stores a true d (one_came o f sound low take).1.held ≡ true) (sym e) some_let))) (ack_rests e)
  left_by_kind (CopyBackWrData form) e = let l = subst (λ a. gives_away a ≡ true) e refl in loosened n (moved o f) (answered r f) (reply_known l) (reply_rests l)
  left_by_kind NonCopyBackWrData e = let l = subst (λ a. gives_away a ≡ true) e refl in loosened n (moved o f) (answered r f) (reply_known l) (reply_rests l)
  left_by_kind (Load word) e = no (sym (subst (λ a. (looks a || stores a) ≡ false) (sym e) plainly))
  left_by_kind (Store word) e = no (sym (subst (λ a. (looks a || stores a) ≡ false) (sym e) plainly))

pub taken : PromptFlitsAreTaken
taken o r f sound low plainly p take = by_kind o r f sound low plainly p take f.act refl

pub stays : StaysPrompt
stays o r f sound low plainly p take = left_by_kind o r f sound low plainly p take f.act refl
