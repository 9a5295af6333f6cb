-- A flit of a cache in a trace that begins in the middle.
use Rattle.std.proofs.Common.{◌≡◌, ◌≢◌, ℕ, ◌<◌, refl, sym, ap, subst, ◌∙◌}
use Rattle.std.specs.Prelude.{Bool, true, false, ◌&&◌, ◌||◌, ◌==◌, not, Option, Some, None, List, if◌then◌else◌}
use Rattle.chi_observer.specs.declared.kinds.Snoop.{Snoop}
use Rattle.chi_observer.specs.declared.kinds.Kind.{Kind}
use Rattle.chi_observer.specs.declared.flits.Due.{Due}
use Rattle.chi_observer.specs.declared.flits.Due.TheVariants.{Nothing, Completion, Resending, SureCompletion, WriteData, Acknowledgement}
use Rattle.chi_observer.specs.declared.flits.Stores.{Stores}
use Rattle.chi_observer.specs.declared.flits.Act.{Act}
use Rattle.chi_observer.specs.declared.flits.Act.TheVariants.{Request, Resend, SnpResp, CompAck, CopyBackWrData, NonCopyBackWrData, Load, Store}
use Rattle.chi_observer.specs.declared.flits.CacheFlit.{CacheFlit}
use Rattle.chi_observer.specs.Copies.{is_unique}
use Rattle.chi_observer.specs.Rules.{same_kind, word_at, gives_up, has_data, tells_words, looks, lets_go, are_hidden, is_resending, allows, due_after, snooped_after, passes_duty}
use Rattle.chi_copies.specs.Copies.{Held, is_fresh, any_bool, any_held, image}
use Rattle.chi_copies.specs.Rules.{is_free, is_resent, is_due_data, lets, row, acts, slips}
use Rattle.chi_copies.specs.Worlds.{Words, is_placed}
use Rattle.chi_copies.specs.Observed.{Observed, Sound, has_news, fits_at, fits_each, home_at, known_of, may_own, sends, sent, takes, moved, next}
use Rattle.chi_copies.specs.Begun.{Begun, left_over, act_left_over, is_home_copy, apart, counts, left_beside, stand_beside, act_due, due_in, public_in, may_in, seen_in, sent_begun, asks, has_words, sure_sent, others_sent, apart_sent, takes_sent, asked_after, behind_sent}
use Rattle.chi_copies.proofs.Finite.{no, left, right, both, or_left, or_right, by_truth, by_false, turned, flip, each_kind, all_kinds, in_bool, in_held, out_held, in_image, out_image}
use Rattle.chi_copies.proofs.Rows.{is_sane, is_leaves, RowFacts}
use Rattle.chi_copies.proofs.Means.{sane}
use Rattle.chi_copies.proofs.Put.{alike, unlike, differ, here, there, split}
use Rattle.chi_copies.proofs.Sets.{each_below}
use Rattle.chi_copies.proofs.Loose.{Slipped, slipped, slip_self, in_loose}
use Rattle.chi_copies.proofs.Loose.Slipped.{Still, Freed, Store as StoreSlip, Drop}
use Rattle.chi_copies.proofs.Moved.{sends_own, sent_by, own_but, came, one_came, told_at, pairs_at, others_after, other_of, sane_if}
use Rattle.chi_copies.proofs.Leads.{low_place, all_by, none_some_nat, may_store_alike, hide_alike}
use Rattle.chi_copies.proofs.Given.{or_else}
use Rattle.chi_copies.proofs.Larger.{LessKnown, fits_less, differs_less, or_less}
use Rattle.chi_copies.proofs.TailUnder.{Under, same_cancel, no_cancel, now_known, SlipsUnder, slips_under, slips_asked, under_row, over_row, never_apart, home_fresh}
use Rattle.chi_copies.proofs.TailSets.{Below, Over, Base, met, surer, shown_if, shown_base, narrow_base, not_counted}
use Rattle.chi_copies.proofs.TailFollows.{Sides, IsBehind, IsFollowed, Follows, sides_of, sides_behind, Trails}

-- WORDS
own_less : (a : Act) (k l : ℕ → Option ℕ) (own : Bool) → ((p : ℕ) → p < 8 → LessKnown (k p) (l p)) → is_placed a ≡ true → may_own a k own ≡ true → may_own a l own ≡ true
own_less (Load word) k l true h low e = fits_less (k word.place.0) (l word.place.0) word.value (h word.place.0 (low_place word.place.0 low)) e
own_less (Load word) k l false h low e = differs_less (k word.place.0) (l word.place.0) word.value (h word.place.0 (low_place word.place.0 low)) e
own_less (Request kind) k l own h low e = e
own_less (Resend kind) k l own h low e = e
own_less (SnpResp answer) k l own h low e = e
own_less CompAck k l own h low e = e
own_less (CopyBackWrData form) k l own h low e = e
own_less NonCopyBackWrData k l own h low e = e
own_less (Store word) k l own h low e = e

pub each_less : (k l : ℕ → Option ℕ) (v : Words) → ((p : ℕ) → p < 8 → LessKnown (k p) (l p)) → fits_each k v ≡ true → fits_each l v ≡ true
each_less k l v h e = all_by 8 (λ p. fits_at (l p) (v p)) (λ p low. fits_less (k p) (l p) (v p) (h p low) (each_below 8 (λ p. fits_at (k p) (v p)) e p low))

known_home : (fresh home news : Bool) (words : Option (List ℕ)) (p v : ℕ) → (if fresh then home_at (if home then words else None) p else (if news then None else None)) ≡ Some v → (home ≡ true) × (home_at words p ≡ Some v)
known_home true true news words p v e = (refl, e)
known_home true false news words p v e = absurd (none_some_nat v e)
known_home false home true words p v e = absurd (none_some_nat v e)
known_home false home false words p v e = absurd (none_some_nat v e)

own_so : (a : Act) (k : ℕ → Option ℕ) (own : Bool) → own ≡ true → looks a ≡ false → may_own a k own ≡ true
own_so (Load word) k own e l = no (sym l)
own_so (Request kind) k own e l = e
own_so (Resend kind) k own e l = e
own_so (SnpResp answer) k own e l = e
own_so CompAck k own e l = e
own_so (CopyBackWrData form) k own e l = e
own_so NonCopyBackWrData k own e l = e
own_so (Store word) k own e l = e

no_look : (a : Act) → has_words a ≡ false → looks a ≡ false
no_look (Load word) e = no (sym e)
no_look (Request kind) e = refl
no_look (Resend kind) e = refl
no_look (SnpResp answer) e = refl
no_look CompAck e = refl
no_look (CopyBackWrData form) e = refl
no_look NonCopyBackWrData e = refl
no_look (Store word) e = refl

no_data : (a : Act) → has_words a ≡ false → has_data a ≡ false
no_data (Load word) e = refl
no_data (Request kind) e = e
no_data (Resend kind) e = e
no_data (SnpResp answer) e = e
no_data CompAck e = e
no_data (CopyBackWrData form) e = e
no_data NonCopyBackWrData e = e
no_data (Store word) e = e

-- WHAT IS DUE
free_alike : (d : Due) (h k : Held) → h.cancelled ≡ k.cancelled → is_free d h ≡ is_free d k
free_alike Nothing h k e = refl
free_alike (Resending q) h k e = e
free_alike (Completion q) h k e = refl
free_alike (SureCompletion q) h k e = refl
free_alike (WriteData q) h k e = refl
free_alike Acknowledgement h k e = refl

lets_alike : (z : Stores) (a : Act) (own : Bool) (d : Due) (h k : Held) → h.cancelled ≡ k.cancelled → lets z a own d h ≡ lets z a own d k
lets_alike z (Request kind) own d h k e = free_alike d h k e
lets_alike z (Resend kind) own d h k e = ap (λ c. is_resent kind d && not c) e
lets_alike z (SnpResp answer) own d h k e = refl
lets_alike z CompAck own d h k e = refl
lets_alike z (CopyBackWrData form) own d h k e = refl
lets_alike z NonCopyBackWrData own d h k e = refl
lets_alike z (Load word) own d h k e = ap (λ b. own || b) (hide_alike z d k h e)
lets_alike z (Store word) own d h k e = may_store_alike d k h e

kind_self : all_kinds (λ k. same_kind k k) ≡ true
kind_self = refl

-- a flit that isn't from before, where nobody knows what was due
lets_asked : (z : Stores) (a : Act) (own missed : Bool) (d : Due) (h h' : Held) → act_left_over true missed a ≡ false → lets z a own d h ≡ true → h'.cancelled ≡ false → lets z a own (act_due a) h' ≡ true
lets_asked z (Request kind) own missed d h h' i l c = refl
lets_asked z (Resend kind) own missed d h h' i l c = both (same_kind kind kind) _ (each_kind (λ k. same_kind k k) kind_self kind) (flip h'.cancelled c)
lets_asked z (SnpResp answer) own missed d h h' i l c = refl
lets_asked z CompAck own missed d h h' i l c = no (sym i)
lets_asked z (CopyBackWrData form) own missed d h h' i l c = no (sym i)
lets_asked z NonCopyBackWrData own missed d h h' i l c = no (sym i)
lets_asked z (Load word) true missed d h h' i l c = refl
lets_asked z (Load word) false missed d h h' i l c = both (are_hidden z) _ (left (are_hidden z) _ l) refl
lets_asked z (Store word) own missed d h h' i l c = refl

resent_is : (kind : Kind) (d : Due) → is_resent kind d ≡ true → is_resending d ≡ true
resent_is kind (Resending q) e = refl
resent_is kind Nothing e = no e
resent_is kind (Completion q) e = no e
resent_is kind (SureCompletion q) e = no e
resent_is kind (WriteData q) e = no e
resent_is kind Acknowledgement e = no e

-- one that isn't cancelled has taken no hidden step
resent_still : (z : Stores) (kind : Kind) (d : Due) (t h : Held) → is_resent kind d ≡ true → h.cancelled ≡ false → Slipped z d t h → t ≡ h
resent_still z kind d t h r c (Still e) = e
resent_still z kind d t h r c (Freed m e) = no (sym c ∙ sym (ap (λ (k : Held). k.cancelled) e) ∙ or_right t.cancelled _ (resent_is kind d r))
resent_still z kind d t h r c (StoreSlip m a u e) = no (sym c ∙ sym (ap (λ (k : Held). k.cancelled) e) ∙ or_right t.cancelled _ (resent_is kind d r))
resent_still z kind d t h r c (Drop m q e) = no (sym c ∙ sym (ap (λ (k : Held). k.cancelled) e) ∙ or_right t.cancelled _ (resent_is kind d r))

slips_sent : (z : Stores) (a : Act) (own missed : Bool) (d : Due) (s t h : Held) → act_left_over true missed a ≡ false → lets z a own d h ≡ true → Under true s t → Slipped z d t h → SlipsUnder true z (act_due a) s h
slips_sent z (Request kind) own missed d s t h i l u p = slips_asked z d s t h u p
slips_sent z (Resend kind) own missed d s t h i l u p = record {
  held = s;
  leads = slip_self z (Resending kind) s;
  under = subst (λ h. Under true s h) (resent_still z kind d t h (left (is_resent kind d) _ l) (turned h.cancelled (right (is_resent kind d) _ l)) p) u;
}
slips_sent z (SnpResp answer) own missed d s t h i l u p = slips_asked z d s t h u p
slips_sent z CompAck own missed d s t h i l u p = no (sym i)
slips_sent z (CopyBackWrData form) own missed d s t h i l u p = no (sym i)
slips_sent z NonCopyBackWrData own missed d s t h i l u p = no (sym i)
slips_sent z (Load word) own missed d s t h i l u p = slips_asked z d s t h u p
slips_sent z (Store word) own missed d s t h i l u p = slips_asked z d s t h u p

row_alike : (a : Act) (asked missed own x x' up up' : Bool) (h : Held) → act_left_over asked missed a ≡ false → (missed ≡ false → x' ≡ x) → (asked ≡ false → up' ≡ up) → row a own x' up' h ≡ row a own x up h
row_alike (Request kind) asked missed own x x' up up' h i f g = refl
row_alike (Resend kind) asked missed own x x' up up' h i f g = refl
row_alike (SnpResp answer) asked missed own x x' up up' h i f g = ap (λ x. row (SnpResp answer) own x up h) (f i)
row_alike CompAck asked missed own x x' up up' h i f g = refl
row_alike (CopyBackWrData form) asked missed own x x' up up' h i f g = ap (λ up. row (CopyBackWrData form) own x up h) (g i)
row_alike NonCopyBackWrData asked missed own x x' up up' h i f g = refl
row_alike (Load word) asked missed own x x' up up' h i f g = refl
row_alike (Store word) asked missed own x x' up up' h i f g = refl

allows_so : (a : Act) (asked missed : Bool) (s s' : Option Snoop) → act_left_over asked missed a ≡ false → (missed ≡ false → s' ≡ s) → allows a s ≡ true → allows a s' ≡ true
allows_so (SnpResp answer) asked missed s s' i f e = subst (λ s. allows (SnpResp answer) s ≡ true) (sym (f i)) e
allows_so (Request kind) asked missed s s' i f e = refl
allows_so (Resend kind) asked missed s s' i f e = refl
allows_so CompAck asked missed s s' i f e = refl
allows_so (CopyBackWrData form) asked missed s s' i f e = refl
allows_so NonCopyBackWrData asked missed s s' i f e = refl
allows_so (Load word) asked missed s s' i f e = refl
allows_so (Store word) asked missed s s' i f e = refl

gone_after : (a : Act) (s : Option Snoop) → s ≡ None → snooped_after a s ≡ None
gone_after (SnpResp answer) s e = refl
gone_after (Request kind) s e = e
gone_after (Resend kind) s e = e
gone_after CompAck s e = e
gone_after (CopyBackWrData form) s e = e
gone_after NonCopyBackWrData s e = e
gone_after (Load word) s e = e
gone_after (Store word) s e = e

asked_cancel : (z : Stores) (a : Act) (own x : Bool) (d : Due) (h k : Held) → lets z a own d h ≡ true → RowFacts a own x h k → asks a ≡ true → k.cancelled ≡ false
asked_cancel z (Request kind) own x d h k l facts e = turned k.cancelled (facts.asked refl)
asked_cancel z (Resend kind) own x d h k l facts e = facts.cancelled refl ∙ turned h.cancelled (right (is_resent kind d) _ l)
asked_cancel z (SnpResp answer) own x d h k l facts e = no e
asked_cancel z CompAck own x d h k l facts e = no e
asked_cancel z (CopyBackWrData form) own x d h k l facts e = no e
asked_cancel z NonCopyBackWrData own x d h k l facts e = no e
asked_cancel z (Load word) own x d h k l facts e = no e
asked_cancel z (Store word) own x d h k l facts e = no e

asked_due : (a : Act) (d e : Due) → asks a ≡ true → due_after a d ≡ due_after a e
asked_due (Request kind) d e h = refl
asked_due (Resend kind) d e h = refl
asked_due (SnpResp answer) d e h = no h
asked_due CompAck d e h = no h
asked_due (CopyBackWrData form) d e h = no h
asked_due NonCopyBackWrData d e h = no h
asked_due (Load word) d e h = no h
asked_due (Store word) d e h = no h

under_after : (asked w : Bool) (h k : Held) → Under asked h k → (w ≡ true → k.cancelled ≡ false) → Under (asked && not w) h k
under_after true true h k u f = now_known true h k u (no_cancel h k u) (f refl)
under_after true false h k u f = u
under_after false w h k u f = u

due_then : (asked w : Bool) (a : Act) (d e : Due) → (asked && not w) ≡ false → (asked ≡ false → e ≡ d) → (w ≡ true → due_after a e ≡ due_after a d) → (if asked && not w then left_over else due_after a e) ≡ due_after a d
due_then true true a d e h f g = g refl
due_then true false a d e h f g = no (sym h)
due_then false w a d e h f g = ap (due_after a) (f refl)

if_yes : (c : Bool) (o : Option Held) (k : Held) → c ≡ true → o ≡ Some k → (if c then o else None) ≡ Some k
if_yes true o k c e = e
if_yes false o k c e = no c

pub and_true : (b : Bool) → (b && true) ≡ b
and_true true = refl
and_true false = refl

pub or_under : (a b c : Bool) → (a ≡ true → b ≡ true) → (a || c) ≡ true → (b || c) ≡ true
or_under true b c f h = or_left b c (f refl)
or_under false b c f h = or_right b c h

pub home_told : (t : Bool) (words : List ℕ) (x y : Option (List ℕ)) (p : ℕ) → LessKnown (home_at x p) (home_at y p) → LessKnown (home_at (if t then Some words else x) p) (home_at (if t then Some words else y) p)
home_told true words x y p h v e = e
home_told false words x y p h v e = h v e

module _ (o : Observed) (shown : ℕ → Bool) (b : Begun) (f : CacheFlit) (follows : Follows o shown b) (sound : Sound o) (low : f.agent.0 < 32) (take : takes o f ≡ true) (early : act_left_over (b.asked f.agent.0) (b.snooped f.agent.0) f.act ≡ false) where
  abbrev n : ℕ
  n = f.agent.0

  abbrev a : Act
  a = f.act

  abbrev d : Due
  d = o.public.due n

  abbrev z : Stores
  z = o.public.stores

  abbrev x : Bool
  x = lets_go (o.public.snooped n)

  abbrev up : Bool
  up = is_due_data gives_up d

  abbrev q : Bool
  q = b.asked n

  side : IsFollowed o.public.stores (sides_of o b f.agent.0)
  side = follows.agents f.agent.0 low

  placed : is_placed a ≡ true
  placed = left (is_placed a) _ (right (allows a (o.public.snooped n)) _ take)

  due_known : q ≡ false → due_in b f ≡ d
  due_known e = ap (λ (q : Bool). if q then act_due a else b.seen.public.due n) e ∙ side.due e

  due_asked : q ≡ true → due_in b f ≡ act_due a
  due_asked e = ap (λ (q : Bool). if q then act_due a else b.seen.public.due n) e

  -- WHAT MAY HAVE SENT IT
  in_sure : b.sure n ≡ true → (h : Held) → b.seen.may n h ≡ true → may_in b f h ≡ true
  in_sure e h y = subst (λ (v : Bool). (if v then b.seen.may n else image (slips b.seen.public.stores (due_in b f)) (b.seen.may n)) h ≡ true) (sym e) y

  of_sure : b.sure n ≡ true → (h : Held) → may_in b f h ≡ true → b.seen.may n h ≡ true
  of_sure e h y = subst (λ (v : Bool). (if v then b.seen.may n else image (slips b.seen.public.stores (due_in b f)) (b.seen.may n)) h ≡ true) e y

  in_slips : b.sure n ≡ false → (s h : Held) → b.seen.may n s ≡ true → slips z (due_in b f) s h ≡ true → may_in b f h ≡ true
  in_slips e s h y l = subst (λ (v : Bool). (if v then b.seen.may n else image (slips b.seen.public.stores (due_in b f)) (b.seen.may n)) h ≡ true) (sym e)
      (subst (λ (y : Stores). image (slips y (due_in b f)) (b.seen.may n) h ≡ true) (sym follows.stores) (in_image (slips z (due_in b f)) (b.seen.may n) s h y l))

  record Sender (own : Bool) (h : Held) : Type 0 where
    held : Held
    has : may_in b f held ≡ true
    under : Under q held h
    let_go : lets z a own (due_in b f) held ≡ true

  sender_known : q ≡ false → (own : Bool) (h : Held) → o.may n h ≡ true → lets z a own d h ≡ true → Sender own h
  sender_known e own h y l = by_truth (b.sure n)
      (λ s. let w = side.whole s h y in record {
        held = w.held;
        has = in_sure s w.held w.has;
        under = subst (λ q. Under q w.held h) (sym e) w.under;
        let_go = subst (λ d. lets z a own d w.held ≡ true) (sym (due_known e)) (lets_alike z a own d w.held h (same_cancel w.held h w.under) ∙ l);
      })
      (λ s. let g = side.base.slips h y in
      let t = side.base.below g.held g.has in
      let k = slips_under z d t.held g.held h (subst (λ q. Under q t.held g.held) e t.under) (slipped z d g.held h g.leads) in record {
        held = k.held;
        has = in_slips s t.held k.held t.has (subst (λ d. slips z d t.held k.held ≡ true) (sym (due_known e)) k.leads);
        under = subst (λ q. Under q k.held h) (sym e) k.under;
        let_go = subst (λ d. lets z a own d k.held ≡ true) (sym (due_known e)) (lets_alike z a own d k.held h (same_cancel k.held h k.under) ∙ l);
      })

  early_asked : q ≡ true → act_left_over true (b.snooped n) a ≡ false
  early_asked e = subst (λ q. act_left_over q (b.snooped n) a ≡ false) e early

  sender_asked : q ≡ true → (own : Bool) (h : Held) → o.may n h ≡ true → lets z a own d h ≡ true → Sender own h
  sender_asked e own h y l =
      let s : b.sure n ≡ false = by_false (b.sure n) (λ s. sym (side.known s) ∙ e) in
      let g = side.base.slips h y in
      let t = side.base.below g.held g.has in
      let k = slips_sent z a own (b.snooped n) d t.held g.held h (early_asked e) l (subst (λ q. Under q t.held g.held) e t.under) (slipped z d g.held h g.leads) in
      record {
        held = k.held;
        has = in_slips s t.held k.held t.has (subst (λ d. slips z d t.held k.held ≡ true) (sym (due_asked e)) k.leads);
        under = subst (λ q. Under q k.held h) (sym e) k.under;
        let_go = subst (λ d. lets z a own d k.held ≡ true) (sym (due_asked e)) (lets_asked z a own (b.snooped n) d h k.held (early_asked e) l (no_cancel k.held h k.under));
      }

  sender : (own : Bool) (h : Held) → o.may n h ≡ true → lets z a own d h ≡ true → Sender own h
  sender own h y l = by_truth q (λ e. sender_asked e own h y l) (λ e. sender_known e own h y l)

  known_below : (h' h : Held) → Under q h' h → o.may n h ≡ true → (p : ℕ) → p < 8 → LessKnown (known_of o n h p) (known_of (seen_in b f h') n h' p)
  known_below h' h u y p l v e =
      let w = known_home (is_fresh h') (is_home_copy h') (has_news (public_in b f) n h') b.seen.home p v e in
      subst (λ (r : Bool). (if r then home_at o.home p else (if has_news o.public n h then o.news p else None)) ≡ Some v) (sym (home_fresh q h' h u (sane o sound n low h y) w.0)) (follows.home p l v w.1)

  acts_in : (own : Bool) (h k : Held) → acts (seen_in b f h).public.stores a own (lets_go ((seen_in b f h).public.snooped n)) ((seen_in b f h).public.due n) h ≡ acts z a own (lets_go (b.seen.public.snooped n)) (due_in b f) h
  acts_in own h k = λ i. acts (follows.stores i) a own (lets_go (b.seen.public.snooped n)) (here n (due_in b f) b.seen.public.due i) h

  row_in : (own : Bool) (h : Held) → row a own (lets_go (b.seen.public.snooped n)) (is_due_data gives_up (due_in b f)) h ≡ row a own x up h
  row_in own h = row_alike a q (b.snooped n) own x (lets_go (b.seen.public.snooped n)) up (is_due_data gives_up (due_in b f)) h early (λ e. ap lets_go (side.snooped e)) (λ e. ap (is_due_data gives_up) (due_known e))

  sends_low : (own : Bool) (h h' k' : Held) → o.may n h ≡ true → Under q h' h → may_own a (known_of o n h) own ≡ true → (not (has_data a) || fits_each (known_of o n h) (word_at f.shown)) ≡ true
      → lets z a own (due_in b f) h' ≡ true → row a own x up h' ≡ Some k' → sends (seen_in b f h') f h' k' ≡ true
  sends_low own h h' k' y u owned fits l r =
      both (any_bool (sends_own (seen_in b f h') f h' k')) _ (in_bool (sends_own (seen_in b f h') f h' k') own (both (may_own a (known_of (seen_in b f h') n h') own) _
      (own_less a (known_of o n h) (known_of (seen_in b f h') n h') own (known_below h' h u y) placed owned)
      (is_leaves _ k' (acts_in own h' k' ∙ if_yes (lets z a own (due_in b f) h') (row a own (lets_go (b.seen.public.snooped n)) (is_due_data gives_up (due_in b f)) h') k' l (row_in own h' ∙ r)))))
      (or_less (not (has_data a)) (fits_each (known_of o n h) (word_at f.shown)) (fits_each (known_of (seen_in b f h') n h') (word_at f.shown)) (each_less (known_of o n h) (known_of (seen_in b f h') n h') (word_at f.shown) (known_below h' h u y)) fits)

  pub below_sent : (k : Held) → sent o f k ≡ true → Below q (sent_begun b f) k
  below_sent k e =
      let c = came o f sound low k e in
      let s = sender c.by.own c.held c.has c.by.let_go in
      let r = under_row a c.by.own x up q s.held c.held k s.under c.by.row in
      record {
        held = r.held;
        has = in_image (λ h k. sends (seen_in b f h) f h k) (may_in b f) s.held r.held s.has (sends_low c.by.own c.held s.held r.held c.has s.under c.by.owned c.by.fits s.let_go r.is);
        under = r.under;
      }

  due_at : q ≡ false → (public_in b f).due n ≡ d
  due_at e = here n (due_in b f) b.seen.public.due ∙ due_known e

  -- and back, where the set is sure and the flit has no words
  over_sent : (b.sure n && not (has_words a)) ≡ true → (k : Held) → sent_begun b f k ≡ true → Over q (sent o f) k
  over_sent e k g =
      let sure : b.sure n ≡ true = left (b.sure n) _ e in
      let wordless : has_words a ≡ false = turned (has_words a) (right (b.sure n) _ e) in
      let known : q ≡ false = side.known sure in
      let y = out_image (λ h k. sends (seen_in b f h) f h k) (may_in b f) k g in
      let t = side.base.over sure y.held (of_sure sure y.held y.has) in
      let s = sent_by (seen_in b f y.held) f y.held k y.leads in
      let own : s.own ≡ true = own_but a (known_of (seen_in b f y.held) n y.held) s.own s.owned (no_look a wordless) in
      let was : o.may n t.held ≡ true = side.base.inside t.held t.has in
      let r = over_row a s.own x up q y.held t.held k t.under (sym (row_alike a q (b.snooped n) s.own x (lets_go (b.seen.public.snooped n)) up (is_due_data gives_up ((seen_in b f y.held).public.due n)) y.held early (λ e. ap lets_go (side.snooped e)) (λ e. ap (is_due_data gives_up) (due_at e))) ∙ s.row) in
      let let_go : lets z a s.own d t.held ≡ true = lets_alike z a s.own d t.held y.held (sym (same_cancel y.held t.held (subst (λ q. Under q y.held t.held) known t.under))) ∙ (λ i. lets (sym follows.stores i) a s.own (sym (due_at known) i) y.held) ∙ s.let_go in
      record {
        held = r.held;
        has = in_image (sends o f) (o.may n) t.held r.held was (both (any_bool (sends_own o f t.held r.held)) _ (in_bool (sends_own o f t.held r.held) s.own (both (may_own a (known_of o n t.held) s.own) _
            (own_so a (known_of o n t.held) s.own own (no_look a wordless)) (is_leaves _ r.held (if_yes (lets z a s.own d t.held) (row a s.own x up t.held) r.held let_go r.is))))
            (or_left (not (has_data a)) _ (flip (has_data a) (no_data a wordless))));
        under = r.under;
      }

  -- ITS AGENT
  uncancelled : (k : Held) → sent o f k ≡ true → asks a ≡ true → k.cancelled ≡ false
  uncancelled k e g = let c = came o f sound low k e in asked_cancel z a c.by.own x d c.held k c.by.let_go c.facts g

  one_sent : any_held (sent o f) ≡ true
  one_sent = right (is_placed a) _ (right (allows a (o.public.snooped n)) _ take)

  sent_base : Base z (due_after a d) (q && not (asks a)) (b.sure n && not (has_words a)) (sent o f) (image (slips z (due_after a d)) (sent o f)) (sent_begun b f)
  sent_base = record {
    bases = sent o f;
    some = one_sent;
    inside = λ t y. y;
    below = λ t y. let w = below_sent t y in record { held = w.held; has = w.has; under = under_after q (asks a) w.held t w.under (uncancelled t y) };
    over = λ e s y. let w = over_sent e s y in record { held = w.held; has = w.has; under = under_after q (asks a) s w.held w.under (uncancelled w.held w.has) };
    slips = λ h y. out_image (slips z (due_after a d)) (sent o f) h y;
  }

  pub sure_base : Base z (due_after a d) (q && not (asks a)) (sure_sent b f) (sent o f) (image (slips z (due_after a d)) (sent o f)) (sent_begun b f)
  sure_base = surer z (due_after a d) (q && not (asks a)) (b.sure n && not (has_words a)) (sure_sent b f) (sent o f) (image (slips z (due_after a d)) (sent o f)) (sent_begun b f) sent_base (λ e. e)

  -- OTHERS
  sane_else : (m : ℕ) → m < 32 → (t : Held) → others_after o f m t ≡ true → is_sane t ≡ true
  sane_else m l t y = let w = other_of o f m t y in subst (λ t. is_sane t ≡ true) w.is (sane_if (tells_words a) w.held (sane o sound m l w.held w.has))

  apart_else : (m : ℕ) → m ≢ n → m < 32 → (s t : Held) → others_after o f m t ≡ true → Under (b.asked m) s t → apart_sent b f s ≡ false
  apart_else m g l s t y u = by_false (apart_sent b f s) (λ e.
      let w = met z (due_after a d) (q && not (asks a)) (sure_sent b f) (sent o f) (image (slips z (due_after a d)) (sent o f)) (sent_begun b f) sure_base (λ h. apart h s) e in
      sym (never_apart (q && not (asks a)) (b.asked m) w.lower w.upper s t w.under u (came o f sound low w.upper w.above).facts.sane (sane_else m l t y) w.so) ∙ pairs_at o f sound low m g l w.upper t w.above y)

  shared_else : (m : ℕ) → m ≢ n → m < 32 → tells_words a ≡ true → (t : Held) → o.may m t ≡ true → is_unique t.copy ≡ false
  shared_else m g l e t y = let c = one_came o f sound low take in turned (is_unique t.copy) (right _ _ (told_at o f sound low c.0 c.1 m g l t y e))

  else_base : (m : ℕ) → m ≢ n → m < 32 → Base z (o.public.due m) (b.asked m) (b.sure m) (others_after o f m) (others_after o f m) (others_sent b f m)
  else_base m g l = shown_base z (o.public.due m) (b.asked m) (b.sure m) (tells_words a) (tells_words a) (o.may m) (others_after o f m) (b.seen.may m) (others_sent b f m)
      (shown_if (tells_words a) (o.may m)) (shown_if (tells_words a) (b.seen.may m)) (λ e. e) (shared_else m g l) (follows.agents m l).base

  sent_stands : stand_beside n (apart_sent b f) b (others_sent b f) ≡ true
  sent_stands = all_by 32 (λ m. m == n || not (counts (b.sure m) (others_sent b f m) (apart_sent b f))) (λ m l. or_else (m == n) _ (λ v. flip _
      (not_counted z (o.public.due m) (b.asked m) (b.sure m) (others_after o f m) (others_after o f m) (others_sent b f m) (apart_sent b f) (apart_else m (differ m n v) l) (else_base m (differ m n v) l))))

  pub sent_taken : takes_sent b f ≡ true
  sent_taken = both (allows a (b.seen.public.snooped n)) _ (allows_so a q (b.snooped n) (o.public.snooped n) (b.seen.public.snooped n) early side.snooped (left _ _ take))
      (both (is_placed a) _ placed (both (any_held (sent_begun b f)) _
      (let t = out_held (sent o f) one_sent in let w = below_sent t.0 t.1 in in_held (sent_begun b f) w.held w.has) sent_stands))

  -- BEHIND IT
  asked_here : asked_after b f n ≡ (q && not (asks a))
  asked_here = ap (λ (v : Bool). q && not (v && asks a)) (alike n)

  asked_there : (m : ℕ) → m ≢ n → asked_after b f m ≡ b.asked m
  asked_there m g = ap (λ (v : Bool). b.asked m && not (v && asks a)) (unlike m n g) ∙ and_true (b.asked m)

  abbrev sender_sides : Sides
  sender_sides = record {
    due = due_after a d;
    snooped = snooped_after a (o.public.snooped n);
    may = image (slips z (due_after a d)) (sent o f);
    behind = sent o f;
    kept_due = if q && not (asks a) then left_over else due_after a (due_in b f);
    kept_snooped = snooped_after a (b.seen.public.snooped n);
    kept_may = sent_begun b f;
    sure = sure_sent b f;
    asked = q && not (asks a);
    missed = b.snooped n;
  }

  may_here : (next o f).may n ≡ image (slips z (due_after a d)) (sent o f)
  may_here = here n (image (slips z ((moved o f).public.due n)) ((moved o f).may n)) (moved o f).may ∙ (λ i. image (slips z (here n (due_after a d) o.public.due i)) (here n (sent o f) (others_after o f) i))

  due_here : (behind_sent b f).public.due n ≡ (if q && not (asks a) then left_over else due_after a (due_in b f))
  due_here = here n (if asked_after b f n then left_over else due_after a (due_in b f)) b.seen.public.due ∙ ap (λ (v : Bool). if v then left_over else due_after a (due_in b f)) asked_here

  sides_here : sides_behind (next o f) (moved o f) (behind_sent b f) n ≡ sender_sides
  sides_here = λ i. record {
    due = here n (due_after a d) o.public.due i;
    snooped = here n (snooped_after a (o.public.snooped n)) o.public.snooped i;
    may = may_here i;
    behind = here n (sent o f) (others_after o f) i;
    kept_due = due_here i;
    kept_snooped = here n (snooped_after a (b.seen.public.snooped n)) b.seen.public.snooped i;
    kept_may = here n (sent_begun b f) (λ m. left_beside (b.sure m) (apart_sent b f) (others_sent b f m)) i;
    sure = here n (sure_sent b f) b.sure i;
    asked = asked_here i;
    missed = b.snooped n;
  }

  sender_behind : IsBehind z sender_sides
  sender_behind = record {
    due = λ e. due_then q (asks a) a d (due_in b f) e due_known (asked_due a (due_in b f) d);
    left = λ e. ap (λ (v : Bool). if v then left_over else due_after a (due_in b f)) e;
    snooped = λ e. ap (snooped_after a) (side.snooped e);
    gone = λ e. gone_after a (b.seen.public.snooped n) (side.gone e);
    base = sure_base;
  }

  abbrev other_sides : ℕ → Sides
  other_sides m = record {
    due = o.public.due m;
    snooped = o.public.snooped m;
    may = others_after o f m;
    behind = others_after o f m;
    kept_due = b.seen.public.due m;
    kept_snooped = b.seen.public.snooped m;
    kept_may = left_beside (b.sure m) (apart_sent b f) (others_sent b f m);
    sure = b.sure m;
    asked = b.asked m;
    missed = b.snooped m;
  }

  sides_there : (m : ℕ) → m ≢ n → sides_behind (next o f) (moved o f) (behind_sent b f) m ≡ other_sides m
  sides_there m g = λ i. record {
    due = there n (due_after a d) o.public.due m g i;
    snooped = there n (snooped_after a (o.public.snooped n)) o.public.snooped m g i;
    may = (there n (image (slips z ((moved o f).public.due n)) ((moved o f).may n)) (moved o f).may m g ∙ there n (sent o f) (others_after o f) m g) i;
    behind = there n (sent o f) (others_after o f) m g i;
    kept_due = there n (if asked_after b f n then left_over else due_after a (due_in b f)) b.seen.public.due m g i;
    kept_snooped = there n (snooped_after a (b.seen.public.snooped n)) b.seen.public.snooped m g i;
    kept_may = there n (sent_begun b f) (λ m. left_beside (b.sure m) (apart_sent b f) (others_sent b f m)) m g i;
    sure = there n (sure_sent b f) b.sure m g i;
    asked = asked_there m g i;
    missed = b.snooped m;
  }

  other_behind : (m : ℕ) → m ≢ n → m < 32 → IsBehind z (other_sides m)
  other_behind m g l = let was = follows.agents m l in record {
    due = was.due;
    left = was.left;
    snooped = was.snooped;
    gone = was.gone;
    base = narrow_base z (o.public.due m) (b.asked m) (b.sure m) (others_after o f m) (others_sent b f m) (apart_sent b f) (apart_else m g l) (else_base m g l);
  }

  pub sent_trails : Trails (next o f) (moved o f) (behind_sent b f)
  sent_trails = record {
    stores = follows.stores;
    agents = split (λ m. m < 32 → IsBehind z (sides_behind (next o f) (moved o f) (behind_sent b f) m)) n
        (λ _. subst (λ s. IsBehind z s) (sym sides_here) sender_behind)
        (λ m g l. subst (λ s. IsBehind z s) (sym (sides_there m g)) (other_behind m g l));
    duty = or_under o.public.duty b.seen.public.duty (passes_duty a) follows.duty;
    home = λ p l. home_told (tells_words a) f.shown o.home b.seen.home p (follows.home p l);
    inside = split (λ m. m < 32 → (h : Held) → (moved o f).may m h ≡ true → (next o f).may m h ≡ true) n
        (λ _ h y. subst (λ X. X h ≡ true) (sym (here n (image (slips z ((moved o f).public.due n)) ((moved o f).may n)) (moved o f).may)) (in_loose n (moved o f) h y))
        (λ m g _ h y. subst (λ X. X h ≡ true) (sym (there n (image (slips z ((moved o f).public.due n)) ((moved o f).may n)) (moved o f).may m g)) y);
  }
