-- What is kept of an agent of whom flits are on their way, beside its cache: hidden steps.
use Rattle.std.proofs.Common.{◌≡◌, inl, inr, suc, refl, sym, subst, ap, ◌∙◌}
use Rattle.std.specs.Prelude.{Bool, true, false, ◌&&◌, ◌||◌, not, Option, Some, None, if◌then◌else◌}
use Rattle.chi_flit.specs.declared.state.State.{State}
use Rattle.chi_observer.specs.declared.kinds.Kind.{Kind}
use Rattle.chi_observer.specs.declared.kinds.Snoop.{Snoop}
use Rattle.chi_observer.specs.declared.told.Told.{Told}
use Rattle.chi_observer.specs.declared.told.Told.TheVariants as tolds
use Rattle.chi_observer.specs.declared.flits.Due.{Due}
use Rattle.chi_observer.specs.declared.flits.Due.TheVariants as dues
use Rattle.chi_observer.specs.declared.flits.Stores.TheVariants.{Hidden}
use Rattle.chi_observer.specs.declared.flits.Answer.{Answer}
use Rattle.chi_observer.specs.declared.flits.Act.{Act}
use Rattle.chi_observer.specs.declared.flits.Act.TheVariants.{Request, Resend, SnpResp, CompAck, CopyBackWrData, NonCopyBackWrData, Load, Store}
use Rattle.chi_observer.specs.declared.arriving.Held.TheVariants as helds
use Rattle.chi_observer.specs.declared.arriving.Arriving.{Arriving}
use Rattle.chi_observer.specs.Copies.{Held, same}
use Rattle.chi_observer.specs.Copies.Copy.{Invalid, UniqueDirty, Writing}
use Rattle.chi_observer.specs.Rules.{allows, answer_drops, due_after, is_copy_back, is_resending, is_whole_write, lets_go, may_be_free, snooped_after, throws, written}
use Rattle.chi_observer.specs.Tables.{Known, fits_form, fits_issue, fits_told, reach, strongest, told_after, told_answered, told_as, told_behind, told_issued}
use Rattle.chi_observer.specs.Arriving.{clean_earlier, earlier_after, earlier_answered, earlier_of, holds_none, is_clean_by, issued_before, nothing_earlier, own_holding, own_told, says_dirty}
use Rattle.chi_observer.specs.Arrivals.{told_if}
use Rattle.chi_observer.specs.Late.{Cache, Cancels, Drops, Sends, Stores, Unseen, is_none, is_room, sent, with_copy, with_held}
use Rattle.chi_observer.specs.Late.Unseen.{Stay, Step}
use Rattle.chi_observer.proofs.Finite.{no, left, right, both, implies}
use Rattle.chi_observer.proofs.Facts.{cancel_well, drop_well, flip, forward, store_well}
use Rattle.chi_observer.proofs.CrossingTables.{fine, fine_self, fits_by, issue_of, pend, sent_answer, still_is}
use Rattle.chi_observer.proofs.LateTables.{data_of, fits_more, is_acked, is_back, is_sure_of, is_whole, told_answer, whole_of}

-- what is kept of one agent
pub record Seat : Type 0 where
  pub told : Told
  pub due : Due
  pub snooped : Option Snoop
  pub own : Arriving

-- and then, once an answer or write data are here
abbrev pub told_seen : Act → Seat → Told
told_seen a p = told_if (is_clean_by p.own a (lets_go p.snooped)) p.told

abbrev pub behind : Act → Seat → Seat
behind a p = record {
  told = told_behind a p.due (told_seen a p);
  due = due_after a p.due;
  snooped = snooped_after a p.snooped;
  own = own_holding (own_told p.own (earlier_after a (lets_go p.snooped) p.due (told_seen a p) (earlier_of p.own a (lets_go p.snooped)))) p.own.held;
}

-- the flit is awaited, and the rules take it
abbrev pub is_answer : Act → Bool
is_answer (SnpResp answer) = true
is_answer (CopyBackWrData form) = true
is_answer NonCopyBackWrData = true
is_answer other = false

abbrev pub known_to : Told → Known
known_to t = record { told = t; cancelled = false }

abbrev pub is_ready : Act → Seat → Bool
is_ready a p = is_answer a && (allows a p.snooped && fits_told Hidden a (lets_go p.snooped) p.due (known_to (told_seen a p)))

-- how its cache stands to it, where neither an answer nor write data are on their way, and its flits so far tell s
pub record Asking (k : Kind) (p : Seat) (s : Told) (c : Cache) : Type 0 where
  pub due : c.due ≡ dues.Completion k
  pub idle : c.again ≡ None
  pub free : may_be_free p.due ≡ true
  pub sure : p.own.unsure ≡ false
  pub from : pend k (issued_before p.own.earlier k) s p.told ≡ true
  pub acks : c.acks ≡ p.own.acks

pub record Calm (p : Seat) (s : Told) (c : Cache) : Type 0 where
  pub held : p.own.held ≡ helds.Nothing
  pub request : c.request ≡ None
  pub idle : c.again ≡ None
  pub due : c.due ≡ p.due
  pub whole : is_whole p.due ≡ true
  pub sure : is_sure_of p.own.unsure p.told p.due ≡ true
  pub told : fine p.own.unsure s p.told ≡ true
  pub acks : c.acks ≡ p.own.acks

pub record Acking (p : Seat) (s : Told) (c : Cache) : Type 0 where
  pub held : p.own.held ≡ helds.Nothing
  pub request : c.request ≡ None
  pub idle : c.again ≡ None
  pub due : c.due ≡ dues.Acknowledgement
  pub free : p.due ≡ dues.Nothing
  pub sure : p.own.unsure ≡ false
  pub quiet : p.snooped ≡ None
  pub told : fine false s p.told ≡ true
  pub acks : suc c.acks ≡ p.own.acks

-- it has sent a request again
pub record Repeating (k : Kind) (p : Seat) (s : Told) (c : Cache) : Type 0 where
  pub held : p.own.held ≡ helds.Nothing
  pub request : c.request ≡ None
  pub again : c.again ≡ Some k
  pub due : c.due ≡ dues.SureCompletion k
  pub free : is_resending p.due ≡ true
  pub sure : p.own.unsure ≡ false
  pub told : fine false s p.told ≡ true
  pub acks : c.acks ≡ p.own.acks

pub data Stands (p : Seat) (s : Told) (c : Cache) : Type 0 where
  Rests : Calm p s c → Stands p s c
  Acks : Acking p s c → Stands p s c
  Repeats : (k : Kind) → Repeating k p s c → Stands p s c
  Asks : (k : Kind) → p.own.held ≡ helds.Nothing → c.request ≡ Some k → Asking k p s c → Stands p s c
  Waits : (k : Kind) → p.own.held ≡ helds.Open k → c.request ≡ None → Asking k p s c → Stands p s c

-- what a request is held for is awaited
abbrev pub is_awaited : Seat → Bool
is_awaited p = holds_none p.own.held || not (is_none p.snooped)

pub data Place (p : Seat) (s : Told) (c : Cache) : Type 0 where
  Here : c.answer ≡ None → is_awaited p ≡ true → c.snooped ≡ p.snooped → Stands p s c → Place p s c
  Ahead : (a : Act) → c.answer ≡ Some a → (is_ready a p && is_sure_of p.own.unsure p.told p.due) ≡ true → c.snooped ≡ snooped_after a p.snooped → Stands (behind a p) s c → Place p s c

pub record Beside (p : Seat) (c : Cache) : Type 0 where
  pub known : Known
  pub reached : reach Hidden c.due known c.held ≡ true
  pub place : Place p known.told c

-- A STORE, A DROP
-- where the cache stands doesn't hang on its copy
pub record Alike (c d : Cache) : Type 0 where
  pub due : d.due ≡ c.due
  pub request : d.request ≡ c.request
  pub again : d.again ≡ c.again
  pub acks : d.acks ≡ c.acks

asking_alike : (k : Kind) (p : Seat) (s : Told) (c d : Cache) → Alike c d → Asking k p s c → Asking k p s d
asking_alike k p s c d e a = record { due = e.due ∙ a.due; idle = e.again ∙ a.idle; free = a.free; sure = a.sure; from = a.from; acks = e.acks ∙ a.acks }

pub stands_alike : (p : Seat) (s : Told) (c d : Cache) → Alike c d → Stands p s c → Stands p s d
stands_alike p s c d e (Rests a) = Rests (record { held = a.held; request = e.request ∙ a.request; idle = e.again ∙ a.idle; due = e.due ∙ a.due; whole = a.whole; sure = a.sure; told = a.told; acks = e.acks ∙ a.acks })
stands_alike p s c d e (Acks a) = Acks (record { held = a.held; request = e.request ∙ a.request; idle = e.again ∙ a.idle; due = e.due ∙ a.due; free = a.free; sure = a.sure; quiet = a.quiet; told = a.told; acks = ap suc e.acks ∙ a.acks })
stands_alike p s c d e (Repeats k a) = Repeats k (record { held = a.held; request = e.request ∙ a.request; again = e.again ∙ a.again; due = e.due ∙ a.due; free = a.free; sure = a.sure; told = a.told; acks = e.acks ∙ a.acks })
stands_alike p s c d e (Asks k h r a) = Asks k h (e.request ∙ r) (asking_alike k p s c d e a)
stands_alike p s c d e (Waits k h r a) = Waits k h (e.request ∙ r) (asking_alike k p s c d e a)

place_alike : (p : Seat) (s : Told) (c d : Cache) → Alike c d → d.answer ≡ c.answer → d.snooped ≡ c.snooped → Place p s c → Place p s d
place_alike p s c d e ha hq (Here a w q st) = Here (ha ∙ a) w (hq ∙ q) (stands_alike p s c d e st)
place_alike p s c d e ha hq (Ahead x a r q st) = Ahead x (ha ∙ a) r (hq ∙ q) (stands_alike (behind x p) s c d e st)

stored : (p : Seat) (c d : Cache) → Stores c d → Beside p c → Beside p d
stored p c d h b = subst (λ x. Beside p x) (sym h.2) (record {
  known = b.known;
  reached = left _ _ (store_well Hidden c.due b.known c.held (both _ _ h.0 (both _ _ b.reached h.1)));
  place = place_alike p b.known.told c (with_copy c UniqueDirty) (record { due = refl; request = refl; again = refl; acks = refl }) refl refl b.place;
})

dropped : (p : Seat) (c d : Cache) → Drops c d → Beside p c → Beside p d
dropped p c d h b = subst (λ x. Beside p x) (sym h.2) (record {
  known = b.known;
  reached = left _ _ (drop_well Hidden c.due b.known c.held (both _ _ h.0 (both _ _ b.reached h.1)));
  place = place_alike p b.known.told c (with_copy c Invalid) (record { due = refl; request = refl; again = refl; acks = refl }) refl refl b.place;
})

cancelled : (p : Seat) (c d : Cache) → Cancels c d → Beside p c → Beside p d
cancelled p c d h b = subst (λ x. Beside p x) (sym h.2) (record {
  known = b.known;
  reached = left _ _ (cancel_well Hidden c.due b.known c.held (both _ _ h.0 (both _ _ b.reached (flip c.held.cancelled h.1))));
  place = place_alike p b.known.told c (with_held c (record { copy = c.held.copy; cancelled = true })) (record { due = refl; request = refl; again = refl; acks = refl }) refl refl b.place;
})

-- A FLIT IS SENT
busy_of : (d e : Due) → d ≡ e → may_be_free e ≡ false → may_be_free d ≡ true → false ≡ true
busy_of d e h b f = sym b ∙ sym (ap may_be_free h) ∙ f

back_free : (d : Due) → may_be_free d ≡ true → is_back d ≡ false
back_free dues.Nothing h = refl
back_free (dues.Resending k) h = refl
back_free (dues.Completion k) h = no h
back_free (dues.SureCompletion k) h = no h
back_free (dues.WriteData k) h = no h
back_free dues.Acknowledgement h = no h

pub resending_free : (d : Due) → is_resending d ≡ true → may_be_free d ≡ true
resending_free (dues.Resending k) h = refl
resending_free dues.Nothing h = refl
resending_free (dues.Completion k) h = no h
resending_free (dues.SureCompletion k) h = no h
resending_free (dues.WriteData k) h = no h
resending_free dues.Acknowledgement h = no h

sure_free : (u : Bool) (t : Told) (d : Due) → may_be_free d ≡ true → is_sure_of u t d ≡ true → u ≡ false
sure_free u t d h e = none u (same (strongest t) UniqueDirty) (subst (λ x. implies u (same (strongest t) UniqueDirty && x) ≡ true) (back_free d h) e) where
  none : (u b : Bool) → implies u (b && false) ≡ true → u ≡ false
  none true true h = no h
  none true false h = no h
  none false b h = refl

request_stands : (k : Kind) (x : Told → Told) (p : Seat) (s : Told) (c d : Cache) → may_be_free c.due ≡ true → fits_issue k true s ≡ true → is_none c.request ≡ true
    → d.due ≡ dues.Completion k → d.request ≡ Some k → d.again ≡ c.again → d.acks ≡ c.acks → Stands p s c → Stands p (told_issued k s) d
request_stands k x p s c d f h r hd hr hg ha (Rests a) =
    let empty : may_be_free p.due ≡ true = ap may_be_free (sym a.due) ∙ f in
    let sure : p.own.unsure ≡ false = sure_free p.own.unsure p.told p.due empty a.sure in
    Asks k a.held hr (record {
      due = hd;
      idle = hg ∙ a.idle;
      free = empty;
      sure = sure;
      from = issue_of k (issued_before p.own.earlier k) s p.told (both _ _ (subst (λ u. fine u s p.told ≡ true) sure a.told) h);
      acks = ha ∙ a.acks;
    })
request_stands k x p s c d f h r hd hr hg ha (Repeats j a) = no (busy_of c.due (dues.SureCompletion j) a.due refl f)
request_stands k x p s c d f h r hd hr hg ha (Acks a) = no (busy_of c.due dues.Acknowledgement a.due refl f)
request_stands k x p s c d f h r hd hr hg ha (Asks j b q a) = no (busy_of c.due (dues.Completion j) a.due refl f)
request_stands k x p s c d f h r hd hr hg ha (Waits j b q a) = no (busy_of c.due (dues.Completion j) a.due refl f)

acked_whole : (d : Due) → is_acked d ≡ true → is_whole d ≡ false
acked_whole dues.Acknowledgement h = refl
acked_whole dues.Nothing h = no h
acked_whole (dues.Completion k) h = no h
acked_whole (dues.WriteData k) h = no h
acked_whole (dues.Resending k) h = no h
acked_whole (dues.SureCompletion k) h = no h

ack_stands : (p : Seat) (s : Told) (c d : Cache) → is_acked c.due ≡ true → d.due ≡ dues.Nothing → d.request ≡ c.request → d.again ≡ c.again → d.acks ≡ suc c.acks → Stands p s c → Stands p s d
ack_stands p s c d f hd hr hg ha (Rests a) = no (sym (acked_whole p.due (ap is_acked (sym a.due) ∙ f)) ∙ a.whole)
ack_stands p s c d f hd hr hg ha (Acks a) = Rests (record {
  held = a.held;
  request = hr ∙ a.request;
  idle = hg ∙ a.idle;
  due = hd ∙ sym a.free;
  whole = ap is_whole a.free;
  sure = ap (λ u. is_sure_of u p.told p.due) a.sure;
  told = ap (λ u. fine u s p.told) a.sure ∙ a.told;
  acks = ha ∙ a.acks;
})
ack_stands p s c d f hd hr hg ha (Repeats j a) = no (ap is_acked (sym a.due) ∙ f)
ack_stands p s c d f hd hr hg ha (Asks j b q a) = no (ap is_acked (sym a.due) ∙ f)
ack_stands p s c d f hd hr hg ha (Waits j b q a) = no (ap is_acked (sym a.due) ∙ f)

pub none_is : {A : Type 0} (o : Option A) → is_none o ≡ true → o ≡ None
none_is None h = refl
none_is (Some x) h = no h

-- the place of a cache that sends a request or a CompAck
request_place : (k : Kind) (p : Seat) (s : Told) (c d : Cache) → may_be_free c.due ≡ true → fits_issue k true s ≡ true → is_none c.request ≡ true
    → d.due ≡ dues.Completion k → d.request ≡ Some k → d.again ≡ c.again → d.acks ≡ c.acks → d.answer ≡ c.answer → d.snooped ≡ c.snooped → Place p s c → Place p (told_issued k s) d
request_place k p s c d f h r hd hr hg ha hn hq (Here n w q st) = Here (hn ∙ n) w (hq ∙ q) (request_stands k (λ t. t) p s c d f h r hd hr hg ha st)
request_place k p s c d f h r hd hr hg ha hn hq (Ahead a n w q st) = Ahead a (hn ∙ n) w (hq ∙ q) (request_stands k (λ t. t) (behind a p) s c d f h r hd hr hg ha st)

ack_place : (p : Seat) (s : Told) (c d : Cache) → is_acked c.due ≡ true → d.due ≡ dues.Nothing → d.request ≡ c.request → d.again ≡ c.again → d.acks ≡ suc c.acks → d.answer ≡ c.answer → d.snooped ≡ c.snooped → Place p s c → Place p s d
ack_place p s c d f hd hr hg ha hn hq (Here n w q st) = Here (hn ∙ n) w (hq ∙ q) (ack_stands p s c d f hd hr hg ha st)
ack_place p s c d f hd hr hg ha hn hq (Ahead a n w q st) = Ahead a (hn ∙ n) w (hq ∙ q) (ack_stands (behind a p) s c d f hd hr hg ha st)

-- AN ANSWER
allowed_drops : (x : Answer) (q : Option Snoop) → allows (SnpResp x) q ≡ true → (not (lets_go q) || answer_drops x) ≡ true
allowed_drops x None h = no h
allowed_drops x (Some q) h = right _ _ h

some_snoop : (x : Answer) (q : Option Snoop) → allows (SnpResp x) q ≡ true → q ≡ None → false ≡ true
some_snoop x q h e = sym (ap (allows (SnpResp x)) e) ∙ h

pub sure_told : (u : Bool) (t : Told) (b : Bool) → implies u (same (strongest t) UniqueDirty && b) ≡ true → implies u (same (strongest t) UniqueDirty) ≡ true
sure_told true t b h = left _ _ h
sure_told false t b h = refl

answer_rests : (x : Answer) (p : Seat) (s : Told) (c d : Cache) → allows (SnpResp x) p.snooped ≡ true → fits_by x (may_be_free c.due) (lets_go p.snooped) s ≡ true → d.due ≡ c.due → d.request ≡ c.request → d.again ≡ c.again → d.acks ≡ c.acks
    → Calm p s c → ((is_ready (SnpResp x) p && is_sure_of p.own.unsure p.told p.due) ≡ true) × Stands (behind (SnpResp x) p) (told_answered x s) d
answer_rests x p s c d al f hd hr hg ha a =
    let fits : fits_by x (may_be_free p.due) (lets_go p.snooped) s ≡ true = subst (λ e. fits_by x (may_be_free e) (lets_go p.snooped) s ≡ true) a.due f in
    let facts = told_answer (may_be_free p.due) p.own.unsure (lets_go p.snooped) s p.told x
    (both _ _ (sure_told p.own.unsure p.told _ a.sure) (both _ _ a.told (both _ _ (allowed_drops x p.snooped al) fits))) in (
      both (is_ready (SnpResp x) p) _ (both _ _ al (left _ _ facts)) a.sure,
      Rests (record {
        held = a.held;
        request = hr ∙ a.request;
        idle = hg ∙ a.idle;
        due = hd ∙ a.due;
        whole = a.whole;
        sure = refl;
        told = right _ _ facts;
        acks = ha ∙ a.acks;
      }),
    )

abbrev says : Answer → Seat → Bool
says x p = says_dirty (SnpResp x) (lets_go p.snooped)

abbrev throws_by : Answer → Seat → Bool
throws_by x p = throws (SnpResp x) (lets_go p.snooped)

-- what may be sent before one more answer
asking_behind : (x : Answer) (k : Kind) (p : Seat) (s : Told) (c d : Cache) → allows (SnpResp x) p.snooped ≡ true → fits_by x (may_be_free c.due) (lets_go p.snooped) s ≡ true → d.due ≡ c.due → d.again ≡ c.again → d.acks ≡ c.acks
    → Asking k p s c → ((is_ready (SnpResp x) p && is_sure_of p.own.unsure p.told p.due) ≡ true) × Asking k (behind (SnpResp x) p) (told_answered x s) d
asking_behind x k p s c d al f hd hg ha a =
    let goes : Bool = lets_go p.snooped in
    let fits : fits_by x false goes s ≡ true = subst (λ e. fits_by x (may_be_free e) goes s ≡ true) a.due f in
    let facts = sent_answer k (issued_before p.own.earlier k) goes s p.told x (both _ _ a.from (both _ _ (allowed_drops x p.snooped al) fits)) in (
      both (is_ready (SnpResp x) p) _ (both _ _ al (subst (λ m. fits_by x m goes (told_seen (SnpResp x) p) ≡ true) (sym a.free)
          (subst (λ u. fits_by x true goes (told_if (u && not (says x p)) p.told) ≡ true) (sym a.sure) (left _ _ facts)))) (ap (λ u. is_sure_of u p.told p.due) a.sure),
      record {
        due = hd ∙ a.due;
        idle = hg ∙ a.idle;
        free = a.free;
        sure = refl;
        from = subst (λ u. pend k (issued_before (earlier_after (SnpResp x) goes p.due (told_if (u && not (says x p)) p.told) (if u && throws_by x p then clean_earlier p.own.earlier else p.own.earlier)) k) (told_answered x s) (told_answered x (told_if (u && not (says x p)) p.told)) ≡ true) (sym a.sure)
            (subst (λ m. pend k (issued_before (if m then earlier_answered x (throws_by x p) p.told p.own.earlier else nothing_earlier) k) (told_answered x s) (told_answered x p.told) ≡ true) (sym a.free)
            (subst (λ b. pend k b (told_answered x s) (told_answered x p.told) ≡ true) (sym (still_is k x (throws_by x p) p.told p.own.earlier)) (right _ _ facts)));
        acks = ha ∙ a.acks;
      },
    )

-- one that has sent a request again had no store since
answer_repeats : (x : Answer) (k : Kind) (p : Seat) (s : Told) (c d : Cache) → allows (SnpResp x) p.snooped ≡ true → fits_by x (may_be_free c.due) (lets_go p.snooped) s ≡ true → d.due ≡ c.due → d.request ≡ c.request → d.again ≡ c.again → d.acks ≡ c.acks
    → Repeating k p s c → ((is_ready (SnpResp x) p && is_sure_of p.own.unsure p.told p.due) ≡ true) × Stands (behind (SnpResp x) p) (told_answered x s) d
answer_repeats x k p s c d al f hd hr hg ha a =
    let goes : Bool = lets_go p.snooped in
    let fits : fits_by x false goes s ≡ true = subst (λ e. fits_by x (may_be_free e) goes s ≡ true) a.due f in
    let facts = told_answer false false goes s p.told x (both _ _ a.told (both _ _ (allowed_drops x p.snooped al) fits)) in (
      both (is_ready (SnpResp x) p) _ (both _ _ al (subst (λ m. fits_by x m goes (told_seen (SnpResp x) p) ≡ true) (sym (resending_free p.due a.free))
          (subst (λ u. fits_by x true goes (told_if (u && not (says x p)) p.told) ≡ true) (sym a.sure) (fits_more x goes p.told (left _ _ facts))))) (ap (λ u. is_sure_of u p.told p.due) a.sure),
      Repeats k (record {
        held = a.held;
        request = hr ∙ a.request;
        again = hg ∙ a.again;
        due = hd ∙ a.due;
        free = a.free;
        sure = refl;
        told = subst (λ u. fine false (told_answered x s) (told_answered x (told_if (u && not (says x p)) p.told)) ≡ true) (sym a.sure) (right _ _ facts);
        acks = ha ∙ a.acks;
      }),
    )

answer_stands : (x : Answer) (p : Seat) (s : Told) (c d : Cache) → allows (SnpResp x) p.snooped ≡ true → fits_by x (may_be_free c.due) (lets_go p.snooped) s ≡ true → d.due ≡ c.due → d.request ≡ c.request → d.again ≡ c.again → d.acks ≡ c.acks
    → Stands p s c → ((is_ready (SnpResp x) p && is_sure_of p.own.unsure p.told p.due) ≡ true) × Stands (behind (SnpResp x) p) (told_answered x s) d
answer_stands x p s c d al f hd hr hg ha (Rests a) = answer_rests x p s c d al f hd hr hg ha a
answer_stands x p s c d al f hd hr hg ha (Acks a) = no (some_snoop x p.snooped al a.quiet)
answer_stands x p s c d al f hd hr hg ha (Repeats k a) = answer_repeats x k p s c d al f hd hr hg ha a
answer_stands x p s c d al f hd hr hg ha (Asks k h r a) = let m = asking_behind x k p s c d al f hd hg ha a in (m.0, Asks k h (hr ∙ r) m.1)
answer_stands x p s c d al f hd hr hg ha (Waits k h r a) = let m = asking_behind x k p s c d al f hd hg ha a in (m.0, Waits k h (hr ∙ r) m.1)

fits_now : (k : Kind) (d : Due) (t : Told) → (may_be_free d && fits_issue k (may_be_free d) t) ≡ true → fits_issue k true t ≡ true
fits_now k d t h = now (may_be_free d) h where
  now : (b : Bool) → (b && fits_issue k b t) ≡ true → fits_issue k true t ≡ true
  now true h = h
  now false h = no h

acks_due : (x : Bool) (d : Due) (k : Known) → fits_told Hidden CompAck x d k ≡ true → is_acked d ≡ true
acks_due x dues.Acknowledgement k h = refl
acks_due x dues.Nothing k h = no h
acks_due x (dues.Completion kind) k h = no h
acks_due x (dues.Resending kind) k h = no h
acks_due x (dues.SureCompletion kind) k h = no h
acks_due x (dues.WriteData kind) k h = no h

-- WRITE DATA
pub record Writes (form : State) (d : Due) (s : Told) : Type 0 where
  pub kind : Kind
  pub due : d ≡ dues.WriteData kind
  pub backs : is_copy_back kind ≡ true
  pub fits : fits_form form s ≡ true

pub writes_of : (form : State) (x : Bool) (d : Due) (k : Known) → fits_told Hidden (CopyBackWrData form) x d k ≡ true → Writes form d k.told
writes_of form x (dues.WriteData kind) k h = record { kind = kind; due = refl; backs = left _ _ h; fits = right (is_copy_back kind) _ h }
writes_of form x dues.Nothing k h = no h
writes_of form x (dues.Completion kind) k h = no h
writes_of form x (dues.Resending kind) k h = no h
writes_of form x (dues.SureCompletion kind) k h = no h
writes_of form x dues.Acknowledgement k h = no h

is_writing : Due → Bool
is_writing (dues.WriteData kind) = true
is_writing other = false

-- such a cache has nothing else on its way
calm_writes : (kind : Kind) (p : Seat) (s : Told) (c : Cache) → c.due ≡ dues.WriteData kind → Stands p s c → Calm p s c
unfolding is_writing
calm_writes kind p s c h (Rests a) = a
calm_writes kind p s c h (Repeats k a) = no (ap is_writing (sym a.due ∙ h))
calm_writes kind p s c h (Acks a) = no (ap is_writing (sym a.due ∙ h))
calm_writes kind p s c h (Asks k e r a) = no (ap is_writing (sym a.due ∙ h))
calm_writes kind p s c h (Waits k e r a) = no (ap is_writing (sym a.due ∙ h))

data_stands : (form : State) (p : Seat) (s : Told) (c d : Cache) → Writes form c.due s → d.due ≡ dues.Nothing → d.request ≡ c.request → d.again ≡ c.again → d.acks ≡ c.acks → Stands p s c
    → ((is_ready (CopyBackWrData form) p && is_sure_of p.own.unsure p.told p.due) ≡ true) × Stands (behind (CopyBackWrData form) p) (told_behind (CopyBackWrData form) c.due s) d
data_stands form p s c d w hd hr hg ha st =
    let a = calm_writes w.kind p s c w.due st in
    let at : p.due ≡ dues.WriteData w.kind = sym a.due ∙ w.due in
    let facts = data_of w.kind p.own.unsure s p.told form (both _ _ w.backs (both _ _ (subst (λ e. is_sure_of p.own.unsure p.told e ≡ true) at a.sure) (both _ _ a.told w.fits))) in (
      both (is_ready (CopyBackWrData form) p) _ (subst (λ e. fits_told Hidden (CopyBackWrData form) (lets_go p.snooped) e (known_to (told_seen (CopyBackWrData form) p)) ≡ true) (sym at) (both _ _ w.backs facts)) a.sure,
      subst (λ e. Stands (behind (CopyBackWrData form) p) (told_behind (CopyBackWrData form) e s) d) (sym a.due) (Rests (record {
        held = a.held;
        request = hr ∙ a.request;
        idle = hg ∙ a.idle;
        due = hd;
        whole = refl;
        sure = refl;
        told = subst (λ e. fine false (told_behind (CopyBackWrData form) e s) (told_behind (CopyBackWrData form) e (told_seen (CopyBackWrData form) p)) ≡ true) (sym at) (fine_self (told_as (written w.kind form)));
        acks = ha ∙ a.acks;
      })),
    )

pub record Overwrites (d : Due) (s : Told) : Type 0 where
  pub kind : Kind
  pub due : d ≡ dues.WriteData kind
  pub whole : is_whole_write kind ≡ true
  pub none : same (strongest s) Writing ≡ true

pub overwrites_of : (x : Bool) (d : Due) (k : Known) → fits_told Hidden NonCopyBackWrData x d k ≡ true → Overwrites d k.told
overwrites_of x (dues.WriteData kind) k h = record { kind = kind; due = refl; whole = left _ _ h; none = right (is_whole_write kind) _ h }
overwrites_of x dues.Nothing k h = no h
overwrites_of x (dues.Completion kind) k h = no h
overwrites_of x (dues.Resending kind) k h = no h
overwrites_of x (dues.SureCompletion kind) k h = no h
overwrites_of x dues.Acknowledgement k h = no h

whole_stands : (p : Seat) (s : Told) (c d : Cache) → Overwrites c.due s → d.due ≡ dues.Nothing → d.request ≡ c.request → d.again ≡ c.again → d.acks ≡ c.acks → Stands p s c
    → ((is_ready NonCopyBackWrData p && is_sure_of p.own.unsure p.told p.due) ≡ true) × Stands (behind NonCopyBackWrData p) tolds.I d
whole_stands p s c d w hd hr hg ha st =
    let a = calm_writes w.kind p s c w.due st in
    let at : p.due ≡ dues.WriteData w.kind = sym a.due ∙ w.due in
    let none : same (strongest (told_seen NonCopyBackWrData p)) Writing ≡ true = whole_of w.kind p.own.unsure s p.told (both _ _ w.whole (both _ _ (subst (λ e. is_sure_of p.own.unsure p.told e ≡ true) at a.sure) (both _ _ a.told w.none))) in (
      both (is_ready NonCopyBackWrData p) _ (subst (λ e. fits_told Hidden NonCopyBackWrData (lets_go p.snooped) e (known_to (told_seen NonCopyBackWrData p)) ≡ true) (sym at) (both _ _ w.whole none)) a.sure,
      Rests (record { held = a.held; request = hr ∙ a.request; idle = hg ∙ a.idle; due = hd; whole = refl; sure = refl; told = refl; acks = ha ∙ a.acks }),
    )

-- A REQUEST IS SENT AGAIN
resends_due : (kind : Kind) (x : Bool) (d : Due) (k : Known) → fits_told Hidden (Resend kind) x d k ≡ true → is_resending d ≡ true
resends_due kind x (dues.Resending asked) k h = refl
resends_due kind x dues.Nothing k h = no h
resends_due kind x (dues.Completion asked) k h = no h
resends_due kind x (dues.SureCompletion asked) k h = no h
resends_due kind x (dues.WriteData asked) k h = no h
resends_due kind x dues.Acknowledgement k h = no h

resend_stands : (k : Kind) (p : Seat) (s : Told) (c d : Cache) → is_resending c.due ≡ true → d.due ≡ dues.SureCompletion k → d.request ≡ c.request → d.again ≡ Some k → d.acks ≡ c.acks → Stands p s c → Stands p s d
resend_stands k p s c d f hd hr hg ha (Rests a) =
    let free : is_resending p.due ≡ true = ap is_resending (sym a.due) ∙ f in
    let sure : p.own.unsure ≡ false = sure_free p.own.unsure p.told p.due (resending_free p.due free) a.sure in
    Repeats k (record {
      held = a.held;
      request = hr ∙ a.request;
      again = hg;
      due = hd;
      free = free;
      sure = sure;
      told = subst (λ u. fine u s p.told ≡ true) sure a.told;
      acks = ha ∙ a.acks;
    })
resend_stands k p s c d f hd hr hg ha (Acks a) = no (ap is_resending (sym a.due) ∙ f)
resend_stands k p s c d f hd hr hg ha (Repeats j a) = no (ap is_resending (sym a.due) ∙ f)
resend_stands k p s c d f hd hr hg ha (Asks j h r a) = no (ap is_resending (sym a.due) ∙ f)
resend_stands k p s c d f hd hr hg ha (Waits j h r a) = no (ap is_resending (sym a.due) ∙ f)

resend_place : (k : Kind) (p : Seat) (s : Told) (c d : Cache) → is_resending c.due ≡ true → d.due ≡ dues.SureCompletion k → d.request ≡ c.request → d.again ≡ Some k → d.acks ≡ c.acks → d.answer ≡ c.answer → d.snooped ≡ c.snooped → Place p s c → Place p s d
resend_place k p s c d f hd hr hg ha hn hq (Here n w q st) = Here (hn ∙ n) w (hq ∙ q) (resend_stands k p s c d f hd hr hg ha st)
resend_place k p s c d f hd hr hg ha hn hq (Ahead a n w q st) = Ahead a (hn ∙ n) w (hq ∙ q) (resend_stands k (behind a p) s c d f hd hr hg ha st)

-- the place of a cache that sends one of them
room_here : (p : Seat) (s : Told) (c : Cache) → c.answer ≡ None → Place p s c → (is_awaited p ≡ true) × ((c.snooped ≡ p.snooped) × Stands p s c)
room_here p s c r (Here n w q st) = (w, (q, st))
room_here p s c r (Ahead a n w q st) = no (sym (ap is_none (sym r ∙ n)))

sends_place : (a : Act) (p : Seat) (k : Known) (c : Cache) (h : Held) → is_room a c ≡ true → allows a c.snooped ≡ true → fits_told Hidden a (lets_go c.snooped) c.due k ≡ true → Place p k.told c
    → Place p (told_behind a c.due k.told) (sent a h c)
sends_place (Request kind) p k c h r al f pl = request_place kind p k.told c (sent (Request kind) h c) (left _ _ f) (fits_now kind c.due k.told f) r refl refl refl refl refl refl pl
sends_place CompAck p k c h r al f pl = ack_place p k.told c (sent CompAck h c) (acks_due (lets_go c.snooped) c.due k f) refl refl refl refl refl refl pl
sends_place (SnpResp x) p k c h r al f pl =
    let at = room_here p k.told c (none_is c.answer r) pl in
    let m = answer_stands x p k.told c (sent (SnpResp x) h c) (subst (λ q. allows (SnpResp x) q ≡ true) at.1.0 al) (subst (λ q. fits_by x (may_be_free c.due) (lets_go q) k.told ≡ true) at.1.0 f) refl refl refl refl at.1.1 in
    Ahead (SnpResp x) refl m.0 refl m.1
sends_place (CopyBackWrData form) p k c h r al f pl =
    let at = room_here p k.told c (none_is c.answer r) pl in
    let m = data_stands form p k.told c (sent (CopyBackWrData form) h c) (writes_of form (lets_go c.snooped) c.due k f) refl refl refl refl at.1.1 in
    Ahead (CopyBackWrData form) refl m.0 at.1.0 m.1
sends_place NonCopyBackWrData p k c h r al f pl =
    let at = room_here p k.told c (none_is c.answer r) pl in
    let m = whole_stands p k.told c (sent NonCopyBackWrData h c) (overwrites_of (lets_go c.snooped) c.due k f) refl refl refl refl at.1.1 in
    Ahead NonCopyBackWrData refl m.0 at.1.0 m.1
sends_place (Resend kind) p k c h r al f pl = resend_place kind p k.told c (sent (Resend kind) h c) (resends_due kind (lets_go c.snooped) c.due k f) refl refl refl refl refl refl pl
sends_place (Load word) p k c h r al f pl = no r
sends_place (Store word) p k c h r al f pl = no r

held_sent : (a : Act) (h : Held) (c : Cache) → (sent a h c).held ≡ h
held_sent (Request kind) h c = refl
held_sent (Resend kind) h c = refl
held_sent CompAck h c = refl
held_sent (SnpResp x) h c = refl
held_sent (CopyBackWrData form) h c = refl
held_sent NonCopyBackWrData h c = refl
held_sent (Load word) h c = refl
held_sent (Store word) h c = refl

due_sent : (a : Act) (h : Held) (c : Cache) → (sent a h c).due ≡ due_after a c.due
due_sent (Request kind) h c = refl
due_sent (Resend kind) h c = refl
due_sent CompAck h c = refl
due_sent (SnpResp x) h c = refl
due_sent (CopyBackWrData form) h c = refl
due_sent NonCopyBackWrData h c = refl
due_sent (Load word) h c = refl
due_sent (Store word) h c = refl

sends : (p : Seat) (c d : Cache) → Sends c d → Beside p c → Beside p d
sends p c d e b =
    let x : Bool = lets_go c.snooped in
    let facts = forward Hidden e.act x c.due b.known c.held e.left false b.reached refl e.acted in
    let fits : fits_told Hidden e.act x c.due b.known ≡ true = left _ _ facts in
    let reached : reach Hidden (due_after e.act c.due) (told_after e.act c.due b.known false) e.left ≡ true = left _ _ (left _ _ (right (fits_told Hidden e.act x c.due b.known) _ facts)) in
    subst (λ z. Beside p z) (sym e.after) (record {
      known = told_after e.act c.due b.known false;
      reached = subst (λ z. reach Hidden z (told_after e.act c.due b.known false) (sent e.act e.left c).held ≡ true) (sym (due_sent e.act e.left c))
          (subst (λ z. reach Hidden (due_after e.act c.due) (told_after e.act c.due b.known false) z ≡ true) (sym (held_sent e.act e.left c)) reached);
      place = sends_place e.act p b.known c e.left e.room e.allowed fits b.place;
    })

pub unseen : (p : Seat) (c d : Cache) → Unseen c d → Beside p c → Beside p d
unseen p c d Stay b = b
unseen p c d (Step {c = c'} {d = e} {e = d'} (inl h) u) b = unseen p e d' u (stored p c' e h b)
unseen p c d (Step {c = c'} {d = e} {e = d'} (inr (inl h)) u) b = unseen p e d' u (dropped p c' e h b)
unseen p c d (Step {c = c'} {d = e} {e = d'} (inr (inr (inl h))) u) b = unseen p e d' u (cancelled p c' e h b)
unseen p c d (Step {c = c'} {d = e} {e = d'} (inr (inr (inr h))) u) b = unseen p e d' u (sends p c' e h b)
