-- Members by the request that is on its way: each place of a set is of its own, but for an unseen step that sends a request.
use Rattle.std.proofs.Common.{rules, arith, ◌≡◌, ℕ, zero, suc, ◌+◌, ◌-◌, ◌<◌, ◌≤◌, refl, sym, subst, ap, ◌∙◌, List, length, slice_set, slice_index_or}
use Rattle.std.specs.Prelude.{Bool, true, false, ◌&&◌, ◌||◌, ◌==◌, not, nat_lt, Option, Some, None, if◌then◌else◌}
use Rattle.std.proofs.Math.Path.{fun_ext}
use Rattle.std.proofs.lemmas.Bool.{eqb-true}
use Rattle.std.proofs.lemmas.List.{get_or_past, get_or-set_other}
use Rattle.std.proofs.lemmas.Grind.{get_or-set_at}
use Rattle.chi_copies.specs.declared.sides.Sides.{Sides as SidesCode}
use Rattle.chi_observer.specs.declared.kinds.Kind.{Kind}
use Rattle.chi_observer.specs.declared.kinds.Kind.TheVariants.{ReadNotSharedDirty, ReadShared, ReadClean, ReadOnce, ReadUnique, CleanUnique, MakeUnique, CleanShared, CleanInvalid, MakeInvalid, Evict, WriteBackFull, WriteCleanFull, WriteEvictFull, WriteUniqueFull}
use Rattle.chi_observer.specs.declared.flits.Act.{Act}
use Rattle.chi_observer.specs.declared.flits.Act.TheVariants.{Request, Resend, SnpResp, CompAck, CopyBackWrData, NonCopyBackWrData, Load, Store}
use Rattle.chi_observer.specs.declared.flits.Answer.{Answer}
use Rattle.chi_observer.specs.declared.flits.Due.{Due}
use Rattle.chi_observer.specs.declared.flits.Due.TheVariants.{Nothing, Completion, Resending, SureCompletion, WriteData, Acknowledgement}
use Rattle.chi_observer.specs.declared.flits.Stores.TheVariants.{Hidden}
use Rattle.chi_observer.specs.Copies.{Copy, is_clean, is_unique, same}
use Rattle.chi_observer.specs.Rules.{allows, is_copy_back, is_issued_from, is_resending, is_whole_write, issued, lets_go, same_kind}
use Rattle.chi_flit.specs.declared.state.State.{State}
use Rattle.chi_copies.specs.declared.replies.Asked.{Asked}
use Rattle.chi_copies.specs.declared.replies.Asked.TheVariants.{NoReply, AnswerTo, DataOf}
use Rattle.chi_copies.specs.declared.replies.Reply.{Reply}
use Rattle.chi_copies.specs.declared.moves.Move.TheVariants.{Unseen, Busy, Asks}
use Rattle.chi_copies.specs.Copies.{Held, leaves, same_held}
use Rattle.chi_copies.specs.Rules.{acts, dropped, freed, is_due_data, is_free, is_resent, stored_to}
use Rattle.chi_copies.specs.Sets.{any_below}
use Rattle.chi_copies.specs.Dues.{kind_at, number_of as kind_number}
use Rattle.chi_copies.specs.Arriving.{Member, Members, any_member, any_or, any_reply, any_request, any_sent, aged, followed, due_by, due_unsent, is_some, number_of as act_number, led, own_due, own_snoop, same_flit, same_member, same_option, sends, sent_of, snoop_of, steps, stores, times, with_held}
use Rattle.chi_copies.specs.ArrivingLines.{Sides, is_asking, act_at, asks_by, class_of, each_reply, free_due, has_sent, is_awaiting, is_data_due, kind_of_class, members_by, moves, place_of_request, replies, replies_by, reply_number, no_rows, sides_of, request_at, resent_of, same_sent, side_image, slips_so, stepped, underway, unseen_of}
use Rattle.chi_copies.proofs.Finite.{no, left, right, both, or_left, or_right, either, implies, follow, all_copies, all_kinds, each_answer, each_copy, each_form, each_kind, kind_is, in_held, out_held}
use Rattle.chi_copies.specs.ArrivingLines.{gives_away}
use Rattle.chi_copies.proofs.Rows.{same_truth, same_truth_is, same_is as copy_is_same}
use Rattle.chi_copies.proofs.Sets.{same_bool, any_in, suc_is}
use Rattle.chi_copies.proofs.Put.{split}
use Rattle.chi_copies.proofs.PromptSteps.{flit_self, in_request, in_reply}
use Rattle.chi_copies.proofs.ArrivingRows.{act_away, in_sent, is_sent, out_below, out_reply, out_request, out_sent, answer_back, form_back}
use Rattle.chi_copies.proofs.ArrivingSides.{in_side, none_past, out_side}

-- REQUESTS
same_number : all_kinds (λ k. all_kinds (λ q. implies (same_kind k q) (kind_number k == kind_number q))) ≡ true
same_number = refl

pub kind_same : (k q : Kind) → same_kind k q ≡ true → k ≡ q
kind_same k q h = let n : kind_number k ≡ kind_number q = eqb-true (kind_number k) (kind_number q) (follow (same_kind k q) _
    (each_kind (λ q. implies (same_kind k q) (kind_number k == kind_number q)) (each_kind (λ k. all_kinds (λ q. implies (same_kind k q) (kind_number k == kind_number q))) same_number k) q) h) in
    sym (kind_is k).0 ∙ ap kind_at n ∙ (kind_is q).0

-- none, or a request, or one that is sent again
abbrev pub is_known : Option Act → Bool
is_known None = true
is_known (Some a) = is_asking a

asking_is : (a b : Act) → is_asking a ≡ true → same_flit a b ≡ true → a ≡ b
asking_is (Request k) (Request q) l h = ap Request (kind_same k q h)
asking_is (Request k) (Resend q) l h = no h
asking_is (Request k) (SnpResp x) l h = no h
asking_is (Request k) CompAck l h = no h
asking_is (Request k) (CopyBackWrData x) l h = no h
asking_is (Request k) NonCopyBackWrData l h = no h
asking_is (Request k) (Load v) l h = no h
asking_is (Request k) (Store v) l h = no h
asking_is (Resend k) (Request q) l h = no h
asking_is (Resend k) (Resend q) l h = ap Resend (kind_same k q h)
asking_is (Resend k) (SnpResp x) l h = no h
asking_is (Resend k) CompAck l h = no h
asking_is (Resend k) (CopyBackWrData x) l h = no h
asking_is (Resend k) NonCopyBackWrData l h = no h
asking_is (Resend k) (Load v) l h = no h
asking_is (Resend k) (Store v) l h = no h
asking_is (SnpResp x) b l h = no l
asking_is CompAck b l h = no l
asking_is (CopyBackWrData x) b l h = no l
asking_is NonCopyBackWrData b l h = no l
asking_is (Load v) b l h = no l
asking_is (Store v) b l h = no l

pub request_is : (r q : Option Act) → is_known r ≡ true → same_option same_flit r q ≡ true → r ≡ q
request_is None None l h = refl
request_is None (Some b) l h = no h
request_is (Some a) None l h = no h
request_is (Some a) (Some b) l h = ap Some (asking_is a b l h)

pub request_self : (r : Option Act) → same_option same_flit r r ≡ true
request_self None = refl
request_self (Some a) = flit_self a

-- WHAT IS TRIED
in_known : (f : Option Act → Bool) (r : Option Act) → is_known r ≡ true → f r ≡ true → any_or any_request f ≡ true
in_known f None l e = or_left (f None) _ e
in_known f (Some a) l e = or_right (f None) _ (in_request (λ a. f (Some a)) a l e)

out_known : (f : Option Act → Bool) → any_or any_request f ≡ true → (r : Option Act) × (is_known r ≡ true) × (f r ≡ true)
out_known f h = either (f None) (any_request (λ a. f (Some a))) h (λ e. (None, refl, e)) (λ e. let x = out_request (λ a. f (Some a)) e in (Some x.0, x.1, x.2))

pub in_member : (f : Member → Bool) (m : Member) → is_known m.request ≡ true → is_sent m.reply ≡ true → f m ≡ true → any_member f ≡ true
in_member f m l s e = in_held (λ h. any_or any_request (λ r. any_or any_sent (λ s. f (record { held = h; request = r; reply = s })))) m.held
    (in_known (λ r. any_or any_sent (λ s. f (record { held = m.held; request = r; reply = s }))) m.request l
    (in_sent (λ s. f (record { held = m.held; request = m.request; reply = s })) m.reply s e))

pub record Found (f : Member → Bool) : Type 0 where
  pub member : Member
  pub known : is_known member.request ≡ true
  pub sent : is_sent member.reply ≡ true
  pub has : f member ≡ true

pub out_member : (f : Member → Bool) → any_member f ≡ true → Found f
out_member f e =
    let x = out_held (λ h. any_or any_request (λ r. any_or any_sent (λ s. f (record { held = h; request = r; reply = s })))) e in
    let y = out_known (λ r. any_or any_sent (λ s. f (record { held = x.0; request = r; reply = s }))) x.1 in
    let z = out_sent (λ s. f (record { held = x.0; request = y.0; reply = s })) y.2 in
    record { member = record { held = x.0; request = y.0; reply = z.0 }; known = y.1; sent = z.1; has = z.2 }

-- ONE STEP by the request
pull : (a q b : Bool) → (a && (q && b)) ≡ (q && (a && b))
pull true q b = refl
pull false true b = refl
pull false false b = refl

and_no : (a : Bool) → (a && false) ≡ false
and_no true = refl
and_no false = refl

or_no : (a : Bool) → (a || false) ≡ a
or_no true = refl
or_no false = refl

turn_last : (a b f r p : Bool) → (a || (b || (f || (r || p)))) ≡ (((a || (b || f)) || p) || r)
turn_last true b f r p = refl
turn_last false true f r p = refl
turn_last false false true r p = refl
turn_last false false false true true = refl
turn_last false false false true false = refl
turn_last false false false false true = refl
turn_last false false false false false = refl

regroup : (q hA sA b hB sB f u hU sU c hC sC req rep : Bool)
    → ((hA && (q && sA)) || ((b && (hB && (q && sB))) || ((f && ((u && (hU && (q && sU))) || (c && (hC && (q && sC))))) || (req || (q && rep)))))
    ≡ ((q && (((hA && sA) || ((b && (hB && sB)) || (f && ((u && (hU && sU)) || (c && (hC && sC)))))) || rep)) || req)
regroup true hA sA b hB sB f u hU sU c hC sC req rep = turn_last (hA && sA) (b && (hB && sB)) (f && ((u && (hU && sU)) || (c && (hC && sC)))) req rep
regroup false hA sA b hB sB f u hU sU c hC sC req rep = simp (and_no, or_no)

-- what is due of write data
abbrev pub is_open : Asked → Option Reply → Bool
is_open (DataOf kind) None = true
is_open a s = false

data_due : (f : Kind → Bool) (d : Due) → is_due_data f d ≡ true → is_data_due d ≡ true
data_due f Nothing h = no h
data_due f (Completion k) h = no h
data_due f (Resending k) h = no h
data_due f (SureCompletion k) h = no h
data_due f (WriteData k) h = refl
data_due f Acknowledgement h = no h

unsent_open : (a : Asked) (s : Option Reply) → is_data_due (due_unsent a s) ≡ true → is_open a s ≡ true
unsent_open NoReply s h = no h
unsent_open (AnswerTo q) s h = no h
unsent_open (DataOf k) None h = refl
unsent_open (DataOf k) (Some r) h = no h

pub data_open : (d : Due) (a : Asked) (r : Option Act) (s : Option Reply) → is_data_due d ≡ false → is_known r ≡ true → is_data_due (due_by r d (due_unsent a s)) ≡ true → is_open a s ≡ true
data_open Nothing a None s e l h = unsent_open a s h
data_open (Completion k) a None s e l h = no h
data_open (Resending k) a None s e l h = no h
data_open (SureCompletion k) a None s e l h = no h
data_open (WriteData k) a None s e l h = no (sym e)
data_open Acknowledgement a None s e l h = no h
data_open d a (Some (Request q)) s e l h = no h
data_open d a (Some (Resend q)) s e l h = no h
data_open d a (Some (SnpResp x)) s e l h = no l
data_open d a (Some CompAck) s e l h = no l
data_open d a (Some (CopyBackWrData x)) s e l h = no l
data_open d a (Some NonCopyBackWrData) s e l h = no l
data_open d a (Some (Load v)) s e l h = no l
data_open d a (Some (Store v)) s e l h = no l

-- REPLIES
sent_is_so : (act : Act) (b : Bool) (o : Option Held) (m k : Member) → gives_away act ≡ true
    → is_some (if b then sent_of act m o else None) k ≡ (same_option same_flit m.request k.request && (b && has_sent act m.held o k.held k.reply))
sent_is_so (Request q) b o m k l = no l
sent_is_so (Resend q) b o m k l = no l
sent_is_so (SnpResp x) false o m k l = sym (and_no (same_option same_flit m.request k.request))
sent_is_so (SnpResp x) true None m k l = sym (and_no (same_option same_flit m.request k.request))
sent_is_so (SnpResp x) true (Some g) m k l = pull _ (same_option same_flit m.request k.request) _
sent_is_so CompAck b o m k l = no l
sent_is_so (CopyBackWrData x) false o m k l = sym (and_no (same_option same_flit m.request k.request))
sent_is_so (CopyBackWrData x) true None m k l = sym (and_no (same_option same_flit m.request k.request))
sent_is_so (CopyBackWrData x) true (Some g) m k l = pull _ (same_option same_flit m.request k.request) _
sent_is_so NonCopyBackWrData false o m k l = sym (and_no (same_option same_flit m.request k.request))
sent_is_so NonCopyBackWrData true None m k l = sym (and_no (same_option same_flit m.request k.request))
sent_is_so NonCopyBackWrData true (Some g) m k l = pull _ (same_option same_flit m.request k.request) _
sent_is_so (Load v) b o m k l = no l
sent_is_so (Store v) b o m k l = no l

sent_some : (act : Act) (b : Bool) (o : Option Held) (h g : Held) (s : Option Reply) → has_sent act h (if b then o else None) g s ≡ true → b ≡ true
sent_some act true o h g s e = refl
sent_some act false o h g s e = no e

answer_number_low : (x : Answer) → nat_lt (act_number (SnpResp x)) 11 ≡ true
answer_number_low x = each_answer (λ x. nat_lt (act_number (SnpResp x)) 11) refl x

form_number_low : (x : State) → nat_lt (reply_number (CopyBackWrData x)) 11 ≡ true
form_number_low x = each_form (λ x. nat_lt (reply_number (CopyBackWrData x)) 11) refl x

module _ (own : Due) (h g : Held) (t : Option Reply) where
  reply_in : (a : Asked) (n : ℕ) (act : Act) → nat_lt n 11 ≡ true → is_awaiting a ≡ true → act_at a n ≡ act → allows act (snoop_of a) ≡ true
      → has_sent act h (acts Hidden act true (lets_go (snoop_of a)) own h) g t ≡ true → replies a own h None g t ≡ true
  reply_in a n act l w e f s = let low : n < 11 = search (rules, arith, l) in both (is_awaiting a) _ w (any_in 11 (λ n. replies_by a own (act_at a n) h g t) n low
      (subst (λ act. replies_by a own act h g t ≡ true) (sym e) (both (allows act (snoop_of a)) _ f s)))

  to_reply : (a : Asked) (s : Option Reply) (act : Act) → gives_away act ≡ true → (is_data_due own ≡ true → is_open a s ≡ true) → allows act (own_snoop a s) ≡ true
      → has_sent act h (acts Hidden act true (lets_go (own_snoop a s)) own h) g t ≡ true → replies a own h s g t ≡ true
  to_reply a (Some r) (SnpResp x) l w f e = no f
  to_reply a (Some r) (CopyBackWrData x) l w f e = no (sym (closed a r) ∙ w (data_due is_copy_back own (sent_some (CopyBackWrData x) (is_due_data is_copy_back own) _ h g t e)))
    where
      closed : (a : Asked) (r : Reply) → is_open a (Some r) ≡ false
      closed NoReply r = refl
      closed (AnswerTo q) r = refl
      closed (DataOf k) r = refl
  to_reply a (Some r) NonCopyBackWrData l w f e = no (sym (closed a r) ∙ w (data_due is_whole_write own (sent_some NonCopyBackWrData (is_due_data is_whole_write own) _ h g t e)))
    where
      closed : (a : Asked) (r : Reply) → is_open a (Some r) ≡ false
      closed NoReply r = refl
      closed (AnswerTo q) r = refl
      closed (DataOf k) r = refl
  to_reply NoReply None (SnpResp x) l w f e = no f
  to_reply (AnswerTo q) None (SnpResp x) l w f e = reply_in (AnswerTo q) (act_number (SnpResp x)) (SnpResp x) (answer_number_low x) refl (ap SnpResp (answer_back x)) f e
  to_reply (DataOf k) None (SnpResp x) l w f e = no f
  to_reply NoReply None (CopyBackWrData x) l w f e = no (w (data_due is_copy_back own (sent_some (CopyBackWrData x) (is_due_data is_copy_back own) _ h g t e)))
  to_reply (AnswerTo q) None (CopyBackWrData x) l w f e = no (w (data_due is_copy_back own (sent_some (CopyBackWrData x) (is_due_data is_copy_back own) _ h g t e)))
  to_reply (DataOf k) None (CopyBackWrData x) l w f e = reply_in (DataOf k) (reply_number (CopyBackWrData x)) (CopyBackWrData x) (form_number_low x) refl (form_back x) f e
  to_reply NoReply None NonCopyBackWrData l w f e = no (w (data_due is_whole_write own (sent_some NonCopyBackWrData (is_due_data is_whole_write own) _ h g t e)))
  to_reply (AnswerTo q) None NonCopyBackWrData l w f e = no (w (data_due is_whole_write own (sent_some NonCopyBackWrData (is_due_data is_whole_write own) _ h g t e)))
  to_reply (DataOf k) None NonCopyBackWrData l w f e = reply_in (DataOf k) 0 NonCopyBackWrData refl refl refl f e
  to_reply a s (Request q) l w f e = no l
  to_reply a s (Resend q) l w f e = no l
  to_reply a s CompAck l w f e = no l
  to_reply a s (Load x) l w f e = no l
  to_reply a s (Store x) l w f e = no l

module _ (d : Due) (a : Asked) (m k : Member) (ok : is_data_due d ≡ false) (known : is_known m.request ≡ true) where
  abbrev q : Bool
  q = same_option same_flit m.request k.request

  abbrev own : Due
  own = own_due d a m

  abbrev P : Act → Bool
  P act = is_some (sends d a act m) k

  P_is : (act : Act) → gives_away act ≡ true → P act ≡ (q && (allows act (own_snoop a m.reply) && has_sent act m.held (acts Hidden act true (lets_go (own_snoop a m.reply)) own m.held) k.held k.reply))
  P_is act l = sent_is_so act (allows act (own_snoop a m.reply)) (acts Hidden act true (lets_go (own_snoop a m.reply)) own m.held) m k l

  from_reply : (s : Option Reply) → m.reply ≡ s → q ≡ true → replies a own m.held s k.held k.reply ≡ true → any_reply P ≡ true
  from_reply (Some r) e t h = no h
  from_reply None e t h = let x = out_below 11 (λ n. replies_by a own (act_at a n) m.held k.held k.reply) (right (is_awaiting a) _ h) in
      in_reply P (act_at a x.0) (act_away a x.0) (P_is (act_at a x.0) (act_away a x.0) ∙ both q _ t
      (subst (λ s. (allows (act_at a x.0) (own_snoop a s) && has_sent (act_at a x.0) m.held (acts Hidden (act_at a x.0) true (lets_go (own_snoop a s)) own m.held) k.held k.reply) ≡ true) (sym e) x.2))

  pub replies_are : any_reply P ≡ (q && replies a own m.held m.reply k.held k.reply)
  replies_are = same_bool (any_reply P) (q && replies a own m.held m.reply k.held k.reply)
      (λ h. let x = out_reply P h in let e = sym (P_is x.0 x.1) ∙ x.2 in let f = right q _ e in
      both q _ (left q _ e) (to_reply own m.held k.held k.reply a m.reply x.0 x.1 (data_open d a m.request m.reply ok known) (left (allows x.0 (own_snoop a m.reply)) _ f) (right (allows x.0 (own_snoop a m.reply)) _ f)))
      (λ h. from_reply m.reply refl (left q _ h) (right q _ h))

  pub steps_are : steps d a m k ≡ ((q && unseen_of own a m.held m.reply k.held k.reply) || any_request P)
  steps_are = ap (λ rep. same_member m k || ((is_resending own && same_member (with_held m (freed own m.held)) k)
      || ((is_free own m.held && ((is_unique m.held.copy && same_member (stores m) k) || (is_clean m.held.copy && same_member (with_held m (dropped m.held)) k))) || (any_request P || rep)))) replies_are
      ∙ regroup q (same_held m.held k.held) (same_sent m.reply k.reply) (is_resending own) (same_held (freed own m.held) k.held) (same_sent m.reply k.reply) (is_free own m.held)
      (is_unique m.held.copy) (same_held (stored_to m.held) k.held) (same_sent (aged followed m.reply) k.reply)
      (is_clean m.held.copy) (same_held (dropped m.held) k.held) (same_sent m.reply k.reply) (any_request P) (replies a own m.held m.reply k.held k.reply)

-- WHILE A REQUEST IS ON ITS WAY
abbrev is_underway : Due → Bool
is_underway (Completion kind) = true
is_underway (SureCompletion kind) = true
is_underway other = false

acts_underway : (d : Due) (act : Act) (x : Bool) (h : Held) → is_underway d ≡ true → gives_away act ≡ true → acts Hidden act true x d h ≡ acts Hidden act true x underway h
acts_underway (Completion k) (SnpResp y) x h l g = refl
acts_underway (Completion k) (CopyBackWrData y) x h l g = refl
acts_underway (Completion k) NonCopyBackWrData x h l g = refl
acts_underway (Completion k) (Request q) x h l g = no g
acts_underway (Completion k) (Resend q) x h l g = no g
acts_underway (Completion k) CompAck x h l g = no g
acts_underway (Completion k) (Load v) x h l g = no g
acts_underway (Completion k) (Store v) x h l g = no g
acts_underway (SureCompletion k) (SnpResp y) x h l g = refl
acts_underway (SureCompletion k) (CopyBackWrData y) x h l g = refl
acts_underway (SureCompletion k) NonCopyBackWrData x h l g = refl
acts_underway (SureCompletion k) (Request q) x h l g = no g
acts_underway (SureCompletion k) (Resend q) x h l g = no g
acts_underway (SureCompletion k) CompAck x h l g = no g
acts_underway (SureCompletion k) (Load v) x h l g = no g
acts_underway (SureCompletion k) (Store v) x h l g = no g
acts_underway Nothing act x h l g = no l
acts_underway (Resending k) act x h l g = no l
acts_underway (WriteData k) act x h l g = no l
acts_underway Acknowledgement act x h l g = no l

each_underway : (d : Due) (a : Asked) (h g : Held) (t : Option Reply) → is_underway d ≡ true → each_reply a d h g t ≡ each_reply a underway h g t
each_underway d a h g t l = ap (λ (F : ℕ → Option Held). any_below 11 (λ n. allows (act_at a n) (snoop_of a) && has_sent (act_at a n) h (F n) g t))
    (fun_ext (λ n. acts_underway d (act_at a n) (lets_go (snoop_of a)) h l (act_away a n)))

replies_underway : (d : Due) (a : Asked) (h g : Held) (s t : Option Reply) → is_underway d ≡ true → replies a d h s g t ≡ replies a underway h s g t
replies_underway d a h g None t l = ap (λ b. is_awaiting a && b) (each_underway d a h g t l)
replies_underway d a h g (Some r) t l = refl

slips_underway : (d : Due) (h g : Held) (s t : Option Reply) → is_underway d ≡ true → slips_so d h s g t ≡ slips_so underway h s g t
slips_underway (Completion k) h g s t l = refl
slips_underway (SureCompletion k) h g s t l = refl
slips_underway Nothing h g s t l = no l
slips_underway (Resending k) h g s t l = no l
slips_underway (WriteData k) h g s t l = no l
slips_underway Acknowledgement h g s t l = no l

pub unseen_underway : (d : Due) (a : Asked) (h g : Held) (s t : Option Reply) → is_underway d ≡ true → unseen_of d a h s g t ≡ unseen_of underway a h s g t
unseen_underway d a h g s t l = λ i. slips_underway d h g s t l i || replies_underway d a h g s t l i

-- CLASSES
abbrev class_table : Kind → Bool
class_table kind = all_copies (λ s. same_truth (is_issued_from (kind_of_class (class_of kind)) s) (is_issued_from kind s) && same (issued (kind_of_class (class_of kind)) s) (issued kind s))

class_holds : all_kinds class_table ≡ true
class_holds = refl

class_facts : (kind : Kind) (s : Copy) → (same_truth (is_issued_from (kind_of_class (class_of kind)) s) (is_issued_from kind s) && same (issued (kind_of_class (class_of kind)) s) (issued kind s)) ≡ true
class_facts kind s = each_copy (λ s. same_truth (is_issued_from (kind_of_class (class_of kind)) s) (is_issued_from kind s) && same (issued (kind_of_class (class_of kind)) s) (issued kind s)) (each_kind class_table class_holds kind) s

class_acts : (kind : Kind) (d : Due) (h : Held) → acts Hidden (Request (kind_of_class (class_of kind))) true false d h ≡ acts Hidden (Request kind) true false d h
class_acts kind d h =
    let e : is_issued_from (kind_of_class (class_of kind)) h.copy ≡ is_issued_from kind h.copy = same_truth_is _ _ (left _ _ (class_facts kind h.copy)) in
    let f : issued (kind_of_class (class_of kind)) h.copy ≡ issued kind h.copy = copy_is_same _ _ (right _ _ (class_facts kind h.copy)) in
    λ i. if is_free d h then (if e i then Some (record { copy = f i; cancelled = false; stored = h.stored }) else None) else None

class_asks : (kind : Kind) (d : Due) (h g : Held) (s t : Option Reply) → asks_by (Request (kind_of_class (class_of kind))) d h s g t ≡ asks_by (Request kind) d h s g t
class_asks kind d h g s t = ap (λ o. leaves o g && same_sent s t) (class_acts kind d h)

class_at : (d : Due) (kind : Kind) → request_at d (class_of kind) ≡ Some (Request (kind_of_class (class_of kind)))
class_at d ReadNotSharedDirty = refl
class_at d ReadShared = refl
class_at d ReadClean = refl
class_at d ReadOnce = refl
class_at d ReadUnique = refl
class_at d CleanUnique = refl
class_at d MakeUnique = refl
class_at d CleanShared = refl
class_at d CleanInvalid = refl
class_at d MakeInvalid = refl
class_at d Evict = refl
class_at d WriteBackFull = refl
class_at d WriteCleanFull = refl
class_at d WriteEvictFull = refl
class_at d WriteUniqueFull = refl

pub class_low : (kind : Kind) → nat_lt (class_of kind) 9 ≡ true
class_low kind = each_kind (λ k. nat_lt (class_of k) 9) refl kind

-- A REQUEST GOES
asked_is_so : (act : Act) (o : Option Held) (m k : Member) → is_asking act ≡ true → is_some (sent_of act m o) k ≡ (same_option same_flit (Some act) k.request && (leaves o k.held && same_sent m.reply k.reply))
asked_is_so (Request q) None m k l = sym (and_no (same_option same_flit (Some (Request q)) k.request))
asked_is_so (Request q) (Some g) m k l = pull (same_held g k.held) (same_option same_flit (Some (Request q)) k.request) (same_sent m.reply k.reply)
asked_is_so (Resend q) None m k l = sym (and_no (same_option same_flit (Some (Resend q)) k.request))
asked_is_so (Resend q) (Some g) m k l = pull (same_held g k.held) (same_option same_flit (Some (Resend q)) k.request) (same_sent m.reply k.reply)
asked_is_so (SnpResp x) o m k l = no l
asked_is_so CompAck o m k l = no l
asked_is_so (CopyBackWrData x) o m k l = no l
asked_is_so NonCopyBackWrData o m k l = no l
asked_is_so (Load v) o m k l = no l
asked_is_so (Store v) o m k l = no l

pub asks_are : (d : Due) (a : Asked) (act : Act) (m k : Member) → is_asking act ≡ true
    → is_some (sends d a act m) k ≡ (same_option same_flit (Some act) k.request && asks_by act (own_due d a m) m.held m.reply k.held k.reply)
asks_are d a (Request kind) m k l = asked_is_so (Request kind) (acts Hidden (Request kind) true false (own_due d a m) m.held) m k l
asks_are d a (Resend kind) m k l = asked_is_so (Resend kind) (acts Hidden (Resend kind) true false (own_due d a m) m.held) m k l
asks_are d a (SnpResp x) m k l = no l
asks_are d a CompAck m k l = no l
asks_are d a (CopyBackWrData x) m k l = no l
asks_are d a NonCopyBackWrData m k l = no l
asks_are d a (Load v) m k l = no l
asks_are d a (Store v) m k l = no l

-- one that is sent again is that which was retried
pub resent_kind : (kind : Kind) (d : Due) → is_resent kind d ≡ true → d ≡ Resending kind
resent_kind kind Nothing h = no h
resent_kind kind (Completion k) h = no h
resent_kind kind (Resending k) h = ap Resending (sym (kind_same kind k h))
resent_kind kind (SureCompletion k) h = no h
resent_kind kind (WriteData k) h = no h
resent_kind kind Acknowledgement h = no h

unsent_never : (kind : Kind) (a : Asked) (s : Option Reply) → is_resent kind (due_unsent a s) ≡ true → false ≡ true
unsent_never kind NoReply s h = h
unsent_never kind (AnswerTo q) s h = h
unsent_never kind (DataOf k) None h = h
unsent_never kind (DataOf k) (Some r) h = h

resent_free : (kind : Kind) (d : Due) (a : Asked) (s : Option Reply) → is_resent kind (free_due d a s) ≡ true → is_resent kind d ≡ true
resent_free kind Nothing a s h = unsent_never kind a s h
resent_free kind (Completion k) a s h = h
resent_free kind (Resending k) a s h = h
resent_free kind (SureCompletion k) a s h = h
resent_free kind (WriteData k) a s h = h
resent_free kind Acknowledgement a s h = h

leaves_so : (b : Bool) (o : Option Held) (g : Held) (t : Bool) → (leaves (if b then o else None) g && t) ≡ true → b ≡ true
leaves_so true o g t e = refl
leaves_so false o g t e = no e

-- nothing asks beside a request on its way
none_asks : (act : Act) (d : Due) (h g : Held) (s t : Option Reply) → is_asking act ≡ true → is_underway d ≡ true → asks_by act d h s g t ≡ true → false ≡ true
none_asks (Request q) (Completion k) h g s t l w e = e
none_asks (Resend q) (Completion k) h g s t l w e = e
none_asks (Request q) (SureCompletion k) h g s t l w e = e
none_asks (Resend q) (SureCompletion k) h g s t l w e = e
none_asks (Request q) Nothing h g s t l w e = w
none_asks (Resend q) Nothing h g s t l w e = w
none_asks (Request q) (Resending k) h g s t l w e = w
none_asks (Resend q) (Resending k) h g s t l w e = w
none_asks (Request q) (WriteData k) h g s t l w e = w
none_asks (Resend q) (WriteData k) h g s t l w e = w
none_asks (Request q) Acknowledgement h g s t l w e = w
none_asks (Resend q) Acknowledgement h g s t l w e = w
none_asks (SnpResp x) d h g s t l w e = l
none_asks CompAck d h g s t l w e = l
none_asks (CopyBackWrData x) d h g s t l w e = l
none_asks NonCopyBackWrData d h g s t l w e = l
none_asks (Load v) d h g s t l w e = l
none_asks (Store v) d h g s t l w e = l

-- ALL PLACES
module _ (d : Due) (a : Asked) (T U : ℕ → Sides) (ok : is_data_due d ≡ false)
    (each : (p : ℕ) → nat_lt p 9 ≡ true → (h : Held) (s : Option Reply) → U p h s ≡ stepped d a (request_at d p) (T 0) (T p) h s)
    (none : (h : Held) (s : Option Reply) → T 9 h s ≡ false) (none_then : (h : Held) (s : Option Reply) → U 9 h s ≡ false) where
  abbrev S : Members
  S = members_by d T

  abbrev R : Member → Members
  R = steps d a

  module _ (k : Member) where
    stays : (m : Member) → is_known m.request ≡ true → is_sent m.reply ≡ true → S m ≡ true → same_option same_flit m.request k.request ≡ true
        → unseen_of (own_due d a m) a m.held m.reply k.held k.reply ≡ true → led R S k ≡ true
    stays m l s e q u = in_member (λ m. S m && R m k) m l s (both (S m) _ e (steps_are d a m k ok l ∙ or_left _ (any_request (λ act. is_some (sends d a act m) k)) (both (same_option same_flit m.request k.request) _ q u)))

    goes : (act : Act) (h : Held) (s : Option Reply) → is_asking act ≡ true → is_sent s ≡ true → T 0 h s ≡ true → same_option same_flit (Some act) k.request ≡ true
        → asks_by act (free_due d a s) h s k.held k.reply ≡ true → led R S k ≡ true
    goes act h s g l e q u = let m : Member = record { held = h; request = None; reply = s } in
        in_member (λ m. S m && R m k) m refl l (both (S m) _ e (steps_are d a m k ok refl
        ∙ or_right (same_option same_flit m.request k.request && unseen_of (own_due d a m) a m.held m.reply k.held k.reply) _
        (in_request (λ act. is_some (sends d a act m) k) act g (asks_are d a act m k g ∙ both (same_option same_flit (Some act) k.request) _ q u))))

    at_same : (r : Option Act) → k.request ≡ r → (q : Option Act) → same_option same_flit q r ≡ true → same_option same_flit q k.request ≡ true
    at_same r e q h = subst (λ r. same_option same_flit q r ≡ true) (sym e) h

    forward_at : (r : Option Act) → k.request ≡ r → U (place_of_request d r) k.held k.reply ≡ true → led R S k ≡ true
    forward_at None e h = let x = out_side (moves (Unseen d) a) (T 0) k.held k.reply (sym (each 0 refl k.held k.reply) ∙ h) in
        stays (record { held = x.held; request = None; reply = x.reply }) refl x.sent x.has (at_same None e None refl) x.leads
    forward_at (Some (Request kind)) e h =
        either (side_image (moves Busy a) (T (class_of kind)) k.held k.reply) (side_image (moves (Asks (Request (kind_of_class (class_of kind))) d) a) (T 0) k.held k.reply)
        (ap (λ r. stepped d a r (T 0) (T (class_of kind)) k.held k.reply) (sym (class_at d kind)) ∙ sym (each (class_of kind) (class_low kind) k.held k.reply) ∙ h)
        (λ b. let x = out_side (moves Busy a) (T (class_of kind)) k.held k.reply b in
        stays (record { held = x.held; request = Some (Request kind); reply = x.reply }) refl x.sent x.has (at_same (Some (Request kind)) e (Some (Request kind)) (flit_self (Request kind)))
        (unseen_underway (Completion kind) a x.held k.held x.reply k.reply refl ∙ x.leads))
        (λ b. let x = out_side (moves (Asks (Request (kind_of_class (class_of kind))) d) a) (T 0) k.held k.reply b in
        goes (Request kind) x.held x.reply refl x.sent x.has (at_same (Some (Request kind)) e (Some (Request kind)) (flit_self (Request kind)))
        (sym (class_asks kind (free_due d a x.reply) x.held k.held x.reply k.reply) ∙ x.leads))
    forward_at (Some (Resend kind)) e h = by (is_resent kind d) refl h
      where
        by : (b : Bool) → is_resent kind d ≡ b → U (if b then 8 else 9) k.held k.reply ≡ true → led R S k ≡ true
        by false w h = no (sym (none_then k.held k.reply) ∙ h)
        by true w h = let is : resent_of d ≡ kind = ap resent_of (resent_kind kind d w) in
            either (side_image (moves Busy a) (T 8) k.held k.reply) (side_image (moves (Asks (Resend (resent_of d)) d) a) (T 0) k.held k.reply)
            (sym (each 8 refl k.held k.reply) ∙ h)
            (λ b. let x = out_side (moves Busy a) (T 8) k.held k.reply b in
            stays (record { held = x.held; request = Some (Resend kind); reply = x.reply }) refl x.sent (ap (λ b. T (if b then 8 else 9) x.held x.reply) w ∙ x.has) (at_same (Some (Resend kind)) e (Some (Resend kind)) (flit_self (Resend kind)))
            (unseen_underway (SureCompletion kind) a x.held k.held x.reply k.reply refl ∙ x.leads))
            (λ b. let x = out_side (moves (Asks (Resend (resent_of d)) d) a) (T 0) k.held k.reply b in
            goes (Resend kind) x.held x.reply refl x.sent x.has (at_same (Some (Resend kind)) e (Some (Resend kind)) (flit_self (Resend kind)))
            (ap (λ q. asks_by (Resend q) (free_due d a x.reply) x.held x.reply k.held k.reply) (sym is) ∙ x.leads))
    forward_at (Some (SnpResp x)) e h = no (sym (none_then k.held k.reply) ∙ h)
    forward_at (Some CompAck) e h = no (sym (none_then k.held k.reply) ∙ h)
    forward_at (Some (CopyBackWrData x)) e h = no (sym (none_then k.held k.reply) ∙ h)
    forward_at (Some NonCopyBackWrData) e h = no (sym (none_then k.held k.reply) ∙ h)
    forward_at (Some (Load v)) e h = no (sym (none_then k.held k.reply) ∙ h)
    forward_at (Some (Store v)) e h = no (sym (none_then k.held k.reply) ∙ h)

    -- and back
    stayed : (r : Option Act) (h : Held) (s : Option Reply) → is_known r ≡ true → is_sent s ≡ true → T (place_of_request d r) h s ≡ true
        → unseen_of (due_by r d (due_unsent a s)) a h s k.held k.reply ≡ true → U (place_of_request d r) k.held k.reply ≡ true
    stayed None h s l w e u = each 0 refl k.held k.reply ∙ in_side (moves (Unseen d) a) (T 0) h s k.held k.reply w e u
    stayed (Some (Request kind)) h s l w e u = each (class_of kind) (class_low kind) k.held k.reply
        ∙ ap (λ r. stepped d a r (T 0) (T (class_of kind)) k.held k.reply) (class_at d kind)
        ∙ or_left _ (side_image (moves (Asks (Request (kind_of_class (class_of kind))) d) a) (T 0) k.held k.reply) (in_side (moves Busy a) (T (class_of kind)) h s k.held k.reply w e (sym (unseen_underway (Completion kind) a h k.held s k.reply refl) ∙ u))
    stayed (Some (Resend kind)) h s l w e u = by (is_resent kind d) e
      where
        by : (b : Bool) → T (if b then 8 else 9) h s ≡ true → U (if b then 8 else 9) k.held k.reply ≡ true
        by false e = no (sym (none h s) ∙ e)
        by true e = each 8 refl k.held k.reply
            ∙ or_left _ (side_image (moves (Asks (Resend (resent_of d)) d) a) (T 0) k.held k.reply) (in_side (moves Busy a) (T 8) h s k.held k.reply w e (sym (unseen_underway (SureCompletion kind) a h k.held s k.reply refl) ∙ u))
    stayed (Some (SnpResp x)) h s l w e u = no l
    stayed (Some CompAck) h s l w e u = no l
    stayed (Some (CopyBackWrData x)) h s l w e u = no l
    stayed (Some NonCopyBackWrData) h s l w e u = no l
    stayed (Some (Load v)) h s l w e u = no l
    stayed (Some (Store v)) h s l w e u = no l

    went_free : (act : Act) (h : Held) (s : Option Reply) → is_asking act ≡ true → is_sent s ≡ true → T 0 h s ≡ true → asks_by act (free_due d a s) h s k.held k.reply ≡ true
        → U (place_of_request d (Some act)) k.held k.reply ≡ true
    went_free (Request kind) h s l w e u = each (class_of kind) (class_low kind) k.held k.reply
        ∙ ap (λ r. stepped d a r (T 0) (T (class_of kind)) k.held k.reply) (class_at d kind)
        ∙ or_right (side_image (moves Busy a) (T (class_of kind)) k.held k.reply) _
        (in_side (moves (Asks (Request (kind_of_class (class_of kind))) d) a) (T 0) h s k.held k.reply w e (class_asks kind (free_due d a s) h k.held s k.reply ∙ u))
    went_free (Resend kind) h s l w e u =
        let again : is_resent kind d ≡ true = resent_free kind d a s (left (is_resent kind (free_due d a s)) (not h.cancelled) (leaves_so (is_resent kind (free_due d a s) && not h.cancelled) (Some h) k.held (same_sent s k.reply) u)) in
        let is : resent_of d ≡ kind = ap resent_of (resent_kind kind d again) in
        ap (λ b. U (if b then 8 else 9) k.held k.reply) again ∙ each 8 refl k.held k.reply
        ∙ or_right (side_image (moves Busy a) (T 8) k.held k.reply) _
        (in_side (moves (Asks (Resend (resent_of d)) d) a) (T 0) h s k.held k.reply w e (ap (λ q. asks_by (Resend q) (free_due d a s) h s k.held k.reply) is ∙ u))
    went_free (SnpResp x) h s l w e u = no l
    went_free CompAck h s l w e u = no l
    went_free (CopyBackWrData x) h s l w e u = no l
    went_free NonCopyBackWrData h s l w e u = no l
    went_free (Load v) h s l w e u = no l
    went_free (Store v) h s l w e u = no l

    went : (r : Option Act) (act : Act) (h : Held) (s : Option Reply) → is_known r ≡ true → is_asking act ≡ true → is_sent s ≡ true → T (place_of_request d r) h s ≡ true
        → asks_by act (due_by r d (due_unsent a s)) h s k.held k.reply ≡ true → U (place_of_request d (Some act)) k.held k.reply ≡ true
    went None act h s l g w e u = went_free act h s g w e u
    went (Some (Request kind)) act h s l g w e u = no (none_asks act (Completion kind) h k.held s k.reply g refl u)
    went (Some (Resend kind)) act h s l g w e u = no (none_asks act (SureCompletion kind) h k.held s k.reply g refl u)
    went (Some (SnpResp x)) act h s l g w e u = no l
    went (Some CompAck) act h s l g w e u = no l
    went (Some (CopyBackWrData x)) act h s l g w e u = no l
    went (Some NonCopyBackWrData) act h s l g w e u = no l
    went (Some (Load v)) act h s l g w e u = no l
    went (Some (Store v)) act h s l g w e u = no l

    backward : led R S k ≡ true → U (place_of_request d k.request) k.held k.reply ≡ true
    backward h = let x = out_member (λ m. S m && R m k) h in let m = x.member in
        either (same_option same_flit m.request k.request && unseen_of (own_due d a m) a m.held m.reply k.held k.reply) (any_request (λ act. is_some (sends d a act m) k))
        (sym (steps_are d a m k ok x.known) ∙ right (S m) _ x.has)
        (λ u. subst (λ r. U (place_of_request d r) k.held k.reply ≡ true) (request_is m.request k.request x.known (left (same_option same_flit m.request k.request) _ u))
        (stayed m.request m.held m.reply x.known x.sent (left (S m) _ x.has) (right (same_option same_flit m.request k.request) _ u)))
        (λ u. let y = out_request (λ act. is_some (sends d a act m) k) u in let e = sym (asks_are d a y.0 m k y.1) ∙ y.2 in
        subst (λ r. U (place_of_request d r) k.held k.reply ≡ true) (request_is (Some y.0) k.request y.1 (left (same_option same_flit (Some y.0) k.request) _ e))
        (went m.request y.0 m.held m.reply x.known y.1 x.sent (left (S m) _ x.has) (right (same_option same_flit (Some y.0) k.request) _ e)))

    pub steps_all : members_by d U k ≡ led R S k
    steps_all = same_bool (members_by d U k) (led R S k) (forward_at k.request refl) backward

-- PLACES OF THE CODE
pub past_sides : (a : Asked) (c : List SidesCode) (h : Held) (s : Option Reply) → length c ≡ 9 → sides_of a (slice_index_or c 9 no_rows) h s ≡ false
past_sides a c h s whole = let past : length c ≤ 9 = omega (arith, whole) in
    ap (λ x. sides_of a x h s) (get_or_past c 9 no_rows past) ∙ none_past h

lower : (m n : ℕ) → m < n + 1 → (m ≡ n → ⊥) → m < n
lower m n h e = search (rules, arith)

pub more_sides : (a : Asked) (xs : List SidesCode) (F : ℕ → Sides) (n : ℕ) (x : SidesCode) → length xs ≡ 9 → n < 9
    → ((p : ℕ) → p < n → (h : Held) (s : Option Reply) → sides_of a (slice_index_or xs p no_rows) h s ≡ F p h s) → ((h : Held) (s : Option Reply) → sides_of a x h s ≡ F n h s)
    → (p : ℕ) → p < n + 1 → (h : Held) (s : Option Reply) → sides_of a (slice_index_or (slice_set xs n x) p no_rows) h s ≡ F p h s
more_sides a xs F n x whole low before now = split (λ p. p < n + 1 → (h : Held) (s : Option Reply) → sides_of a (slice_index_or (slice_set xs n x) p no_rows) h s ≡ F p h s) n
    (λ _ h s. ap (λ x. sides_of a x h s) (get_or-set_at xs n n x no_rows refl (subst (λ (k : ℕ). n < k) (sym whole) low)) ∙ now h s)
    (λ p apart below h s. ap (λ x. sides_of a x h s) (get_or-set_other xs n p x no_rows apart) ∙ before p (lower p n below apart) h s)

-- FIVE STEPS
times_next : (n : ℕ) (f : Members → Members) (S : Members) → times n f (f S) ≡ f (times n f S)
times_next zero f S = refl
times_next (suc n) f S = times_next n f (f S)

pub times_more : (n : ℕ) (f : Members → Members) (S : Members) (m : Member) → f (times n f S) m ≡ times (n + 1) f S m
times_more n f S m = ap (λ (S : Members). S m) (sym (times_next n f S)) ∙ ap (λ (k : ℕ). times k f S m) (suc_is n)

-- where one step changes nothing, no more do
no_more : (n : ℕ) → n ≡ n + 0
no_more n = omega arith

one_more : (n k : ℕ) → suc (n + k) ≡ n + suc k
one_more n k = omega arith

stands : (n k : ℕ) (f : Members → Members) (S T : Members) → T ≡ times n f S → f T ≡ T → T ≡ times (n + k) f S
stands n zero f S T e g = e ∙ ap (λ (j : ℕ). times j f S) (no_more n)
stands n (suc k) f S T e g = sym g ∙ ap f (stands n k f S T e g) ∙ sym (times_next (n + k) f S) ∙ ap (λ (j : ℕ). times j f S) (one_more n k)

pub times_still : (n : ℕ) (f : Members → Members) (S T : Members) (m : Member) → T ≡ times n f S → f T ≡ T → n < 5 → T m ≡ times 5 f S m
times_still n f S T m e g l = let j : n + (5 - n) ≡ 5 = omega (arith, l) in ap (λ (S : Members). S m) (stands n (5 - n) f S T e g ∙ ap (λ (k : ℕ). times k f S) j)
