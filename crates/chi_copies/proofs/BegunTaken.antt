-- What a line of the code whose trace begins in the middle takes, and why not.
use Rattle.std.proofs.Common.{◌≡◌, ℕ, ◌<◌, ◌≤◌, List, refl, sym, ap, ◌∙◌}
use Rattle.std.proofs.Math.Path.{fun_ext}
use Rattle.std.specs.Prelude.{nat_lt, Bool, true, false, ◌&&◌, ◌||◌, not, Option, Some, None, Result, Ok, Err, OnOk, if◌then◌else◌}
use Rattle.chi_observer.specs.declared.flits.CacheFlit.{CacheFlit}
use Rattle.chi_observer.specs.declared.flits.HomeFlit.{HomeFlit}
use Rattle.chi_observer.specs.declared.flits.Flit.{Flit}
use Rattle.chi_observer.specs.Rules.{allows, lets_go}
use Rattle.chi_copies.specs.declared.line.Reason.{Reason}
use Rattle.chi_copies.specs.declared.line.Reason.TheVariants.{NoAgent, NotSent, NoMoment, OtherWords, Lost, OtherCopy}
use Rattle.chi_observer.specs.declared.flits.Due.{Due}
use Rattle.chi_copies.specs.declared.sends.Fits.{Fits}
use Rattle.chi_copies.specs.declared.sends.Sent.{Sent}
use Rattle.chi_copies.specs.Copies.{Held, Copies, any_held, image}
use Rattle.chi_copies.specs.Rules.{fills, slips}
use Rattle.chi_copies.specs.Worlds.{home_may, is_placed}
use Rattle.chi_copies.specs.Observed.{Observed, fits_home, home_at, no_words, sends}
use Rattle.chi_copies.specs.Lines.{fits_by, sends_by, sent_of}
use Rattle.chi_copies.specs.Refusals.{refused_if}
use Rattle.chi_copies.specs.Begun.{Begun, act_due, agent_in, apart_given, apart_sent, counts, due_in, forgetting, forgotten, has_its_moment, is_home_copy, is_left_over, is_shown, may_in, others_begun, others_sent, public_in, seen_in, sent_begun, stand_beside, takes_given, takes_sent}
use Rattle.chi_copies.specs.BegunLines.{keeps_order_begun, may_send, sent_with, stands}
use Rattle.chi_copies.specs.BegunRefusals.{begun_refusal, given_by, order_refusal, rule_refusal, sent_refusal}
use Rattle.chi_copies.proofs.Finite.{no, left, right, flip}
use Rattle.chi_copies.proofs.Put.{here}
use Rattle.chi_copies.proofs.Counted.{image_parts}
use Rattle.chi_copies.proofs.Lines.{decided, each_any, high_is, low_is, made_sent, refused, sends_same}
use Rattle.chi_copies.proofs.Refusals.{due_passes, first, kept_not, skip}

-- FROM BEFORE, or not
pub high_refused : (n : ℕ) (x : Bool) → 32 ≤ n → false ≡ (nat_lt n 32 && x)
high_refused n x l = refused (nat_lt n 32) x (high_is n l)

before_by : (a l t : Bool) → a ≡ true → l ≡ true → true ≡ (a && (l || t))
before_by true true t h e = refl
before_by true false t h e = no e
before_by false l t h e = no h

pub before_taken : (n : ℕ) (l t : Bool) → n < 32 → l ≡ true → true ≡ (nat_lt n 32 && (l || t))
before_taken n l t low e = before_by (nat_lt n 32) l t (low_is n low) e

since_by : (a l t x : Bool) → a ≡ true → l ≡ false → x ≡ t → x ≡ (a && (l || t))
since_by true true t x h e s = no (sym e)
since_by true false t x h e s = s
since_by false l t x h e s = no h

pub since_taken : (n : ℕ) (l t x : Bool) → n < 32 → l ≡ false → x ≡ t → x ≡ (nat_lt n 32 && (l || t))
since_taken n l t x low e s = since_by (nat_lt n 32) l t x (low_is n low) e s

pub before_after : {A : Type 0} (l : Bool) (x y z : A) → l ≡ true → x ≡ y → x ≡ (if l then y else z)
before_after {A} true x y z e h = h
before_after {A} false x y z e h = no e

pub since_after : {A : Type 0} (l : Bool) (x y z : A) → l ≡ false → x ≡ z → x ≡ (if l then y else z)
since_after {A} true x y z e h = no (sym e)
since_after {A} false x y z e h = h

pub ok_after : {A B : Type 0} (r : Result A Reason) (x y z : B) → y ≡ z → OnOk r (x ≡ y) → OnOk r (x ≡ z)
ok_after {A} {B} (Ok a) x y z e h = h ∙ e
ok_after {A} {B} (Err reason) x y z e h = h

pub high_reason : (b : Begun) (e : Flit) → 32 ≤ agent_in e → begun_refusal b e ≡ Some NoAgent
high_reason b e l = first (not (nat_lt (agent_in e) 32)) NoAgent _ (flip (nat_lt (agent_in e) 32) (high_is (agent_in e) l))

pub since_reason : (b : Begun) (e : Flit) → agent_in e < 32 → is_left_over b e ≡ false → begun_refusal b e ≡ rule_refusal b e
since_reason b e l h = skip (not (nat_lt (agent_in e) 32)) NoAgent _ (kept_not (nat_lt (agent_in e) 32) (low_is (agent_in e) l))
    ∙ ap (λ (c : Bool). if c then None else rule_refusal b e) h

-- forgetting
pub forgets_high : (n : ℕ) (b : Begun) → 32 ≤ n → b ≡ forgetting n b
forgets_high n b l = sym (ap (λ (c : Bool). if c && (b.asked n || b.snooped n) then forgotten n b else b) (high_is n l))

pub forgets_low : (n : ℕ) (b x : Begun) (c : Bool) → n < 32 → c ≡ (b.asked n || b.snooped n) → c ≡ true → x ≡ forgotten n b → x ≡ forgetting n b
forgets_low n b x c l e h f = f ∙ sym (ap (λ (a : Bool). if a && (b.asked n || b.snooped n) then forgotten n b else b) (low_is n l) ∙ ap (λ (a : Bool). if a then forgotten n b else b) (sym e ∙ h))

pub forgets_none : (n : ℕ) (b : Begun) (c : Bool) → n < 32 → c ≡ (b.asked n || b.snooped n) → c ≡ false → b ≡ forgetting n b
forgets_none n b c l e h = sym (ap (λ (a : Bool). if a && (b.asked n || b.snooped n) then forgotten n b else b) (low_is n l) ∙ ap (λ (a : Bool). if a then forgotten n b else b) (sym e ∙ h))

-- A FLIT OF A CACHE
pub due_asked : (b : Begun) (f : CacheFlit) (n : ℕ) (a : Bool) (d : Due) → n ≡ f.agent.0 → a ≡ b.asked n → a ≡ true → d ≡ act_due f.act → d ≡ due_in b f
due_asked b f n a d e ha t hd = hd ∙ sym (ap (λ (c : Bool). if c then act_due f.act else b.seen.public.due f.agent.0) (sym (ha ∙ ap b.asked e) ∙ t))

pub due_known : (b : Begun) (f : CacheFlit) (n : ℕ) (a : Bool) (d : Due) → n ≡ f.agent.0 → a ≡ b.asked n → a ≡ false → d ≡ b.seen.public.due n → d ≡ due_in b f
due_known b f n a d e ha t hd = hd ∙ ap b.seen.public.due e ∙ sym (ap (λ (c : Bool). if c then act_due f.act else b.seen.public.due f.agent.0) (sym (ha ∙ ap b.asked e) ∙ t))

pub may_sure : (b : Begun) (f : CacheFlit) (n : ℕ) (u : Bool) (S : Copies) → n ≡ f.agent.0 → u ≡ b.sure n → u ≡ true → ((h : Held) → S h ≡ b.seen.may n h) → (h : Held) → S h ≡ may_in b f h
may_sure b f n u S e hu t each h = each h ∙ ap (λ k. b.seen.may k h) e
    ∙ sym (ap (λ (c : Bool). (if c then b.seen.may f.agent.0 else image (slips b.seen.public.stores (due_in b f)) (b.seen.may f.agent.0)) h) (sym (hu ∙ ap b.sure e) ∙ t))

pub may_guess : (b : Begun) (f : CacheFlit) (n : ℕ) (u : Bool) (d : Due) (S T : Copies) → n ≡ f.agent.0 → u ≡ b.sure n → u ≡ false → d ≡ due_in b f → ((h : Held) → T h ≡ b.seen.may n h) → ((h : Held) → S h ≡ image (slips b.seen.public.stores d) T h) → (h : Held) → S h ≡ may_in b f h
may_guess b f n u d S T e hu t hd ht hs h = hs h ∙ ap (λ d. image (slips b.seen.public.stores d) T h) hd ∙ ap (λ T. image (slips b.seen.public.stores (due_in b f)) T h) (fun_ext ht ∙ ap b.seen.may e)
    ∙ sym (ap (λ (c : Bool). (if c then b.seen.may f.agent.0 else image (slips b.seen.public.stores (due_in b f)) (b.seen.may f.agent.0)) h) (sym (hu ∙ ap b.sure e) ∙ t))

abbrev seen_as : Begun → CacheFlit → Option (List ℕ) → Observed
seen_as b f v = record { public = public_in b f; may = b.seen.may; home = v; news = no_words }

sent_as : (b : Begun) (f : CacheFlit) (v : Option (List ℕ)) → sent_with b f v ≡ sent_of (seen_as b f v) f
sent_as b f v = ap (λ d. record { stores = (sent_with b f v).stores; act = (sent_with b f v).act; goes = (sent_with b f v).goes; due = d; home = (sent_with b f v).home; news = (sent_with b f v).news }) (sym (here f.agent.0 (due_in b f) b.seen.public.due))

sent_one : (b : Begun) (f : CacheFlit) (v : Option (List ℕ)) (h k : Held) → sends_by (sent_with b f v) h k ≡ sends (seen_as b f v) f h k
sent_one b f v h k = ap (λ s. sends_by s h k) (sent_as b f v) ∙ sends_same (seen_as b f v) f h k

at_home : (b : Begun) (f : CacheFlit) (h k : Held) → is_home_copy h ≡ true → sends_by (sent_with b f b.seen.home) h k ≡ sends (seen_in b f h) f h k
at_home b f h k e = sent_one b f b.seen.home h k ∙ sym (ap (λ (c : Bool). sends (seen_as b f (if c then b.seen.home else None)) f h k) e)

elsewhere : (b : Begun) (f : CacheFlit) (h k : Held) → is_home_copy h ≡ false → sends_by (sent_with b f None) h k ≡ sends (seen_in b f h) f h k
elsewhere b f h k e = sent_one b f None h k ∙ sym (ap (λ (c : Bool). sends (seen_as b f (if c then b.seen.home else None)) f h k) e)

pub sent_parts : (b : Begun) (f : CacheFlit) (x y : Sent) (may home others known unknown u v w : Copies)
    → x ≡ sent_with b f b.seen.home → y ≡ sent_with b f None
    → ((h : Held) → may h ≡ may_in b f h) → ((h : Held) → home h ≡ is_home_copy h) → ((h : Held) → others h ≡ not (home h))
    → ((h : Held) → known h ≡ (may h && home h)) → ((h : Held) → unknown h ≡ (may h && others h))
    → ((h : Held) → u h ≡ image (sends_by x) known h) → ((h : Held) → v h ≡ image (sends_by y) unknown h) → ((h : Held) → w h ≡ (u h || v h))
    → (h : Held) → w h ≡ sent_begun b f h
sent_parts b f x y may home others known unknown u v w hx hy hm hh ho hk hn hu hv hw k = hw k
    ∙ (λ i. hu k i || hv k i)
    ∙ (λ i. image (sends_by (hx i)) (known_is i) k || image (sends_by (hy i)) (unknown_is i) k)
    ∙ image_parts (λ h k. sends (seen_in b f h) f h k) (sends_by (sent_with b f b.seen.home)) (sends_by (sent_with b f None)) (may_in b f) is_home_copy k (λ h e. at_home b f h k e) (λ h e. elsewhere b f h k e)
  where
    known_is : known ≡ (λ h. may_in b f h && is_home_copy h)
    known_is = fun_ext (λ h. hk h ∙ (λ i. hm h i && hh h i))

    unknown_is : unknown ≡ (λ h. may_in b f h && not (is_home_copy h))
    unknown_is = fun_ext (λ h. hn h ∙ (λ i. hm h i && (ho h ∙ ap not (hh h)) i))

pub sent_is : (b : Begun) (f : CacheFlit) (v : Option (List ℕ)) (goes : Bool) (due : Due) (home news : Fits) (known : ℕ → Option ℕ) → goes ≡ lets_go (b.seen.public.snooped f.agent.0) → due ≡ due_in b f → home ≡ fits_by f (home_at v) → known ≡ no_words → news ≡ fits_by f known
    → made_sent b.seen.public.stores f.act goes due home news ≡ sent_with b f v
sent_is b f v goes due home news known hg hd hh hk hn = λ i. made_sent b.seen.public.stores f.act (hg i) (hd i) (hh i) ((hn ∙ ap (fits_by f) hk) i)

pub may_send_is : (b : Begun) (f : CacheFlit) (left : Copies) (any : Bool) → allows f.act (b.seen.public.snooped f.agent.0) ≡ true → is_placed f.act ≡ true → ((h : Held) → left h ≡ sent_begun b f h) → any ≡ any_held (λ h. left h && true) → any ≡ may_send b f
may_send_is b f left any ha hp each e = decided (allows f.act (b.seen.public.snooped f.agent.0)) (is_placed f.act) any (any_held (sent_begun b f)) ha hp (e ∙ each_any left (sent_begun b f) each)

pub stands_is : (n : ℕ) (A B : Copies) (sure : ℕ → Bool) (may others : ℕ → Copies) (x : Bool) → ((h : Held) → A h ≡ B h) → ((m : ℕ) (h : Held) → may m h ≡ others m h) → x ≡ stands n A sure may → x ≡ stands n B sure others
stands_is n A B sure may others x ha hm e = e ∙ (λ i. stands n (fun_ext ha i) sure (fun_ext (λ m. fun_ext (hm m)) i))

assoc : (a p s t : Bool) → ((a && (p && s)) && t) ≡ (a && (p && (s && t)))
assoc true true s t = refl
assoc true false s t = refl
assoc false p s t = refl

pub sent_stands : (b : Begun) (f : CacheFlit) (m t : Bool) → m ≡ may_send b f → m ≡ true → t ≡ stand_beside f.agent.0 (apart_sent b f) b (others_sent b f) → t ≡ takes_sent b f
sent_stands b f m t e h s = s ∙ sym (ap (λ x. x && stand_beside f.agent.0 (apart_sent b f) b (others_sent b f)) (sym e ∙ h))
    ∙ assoc (allows f.act (b.seen.public.snooped f.agent.0)) (is_placed f.act) (any_held (sent_begun b f)) (stand_beside f.agent.0 (apart_sent b f) b (others_sent b f))

pub not_sent : (b : Begun) (f : CacheFlit) → may_send b f ≡ false → false ≡ takes_sent b f
not_sent b f h = sym (ap (λ x. x && stand_beside f.agent.0 (apart_sent b f) b (others_sent b f)) h)
    ∙ assoc (allows f.act (b.seen.public.snooped f.agent.0)) (is_placed f.act) (any_held (sent_begun b f)) (stand_beside f.agent.0 (apart_sent b f) b (others_sent b f))

pub not_sent_reason : (b : Begun) (f : CacheFlit) → may_send b f ≡ false → sent_refusal b f ≡ Some NotSent
not_sent_reason b f h = first (not (may_send b f)) NotSent _ (flip (may_send b f) h)

pub other_copy_reason : (b : Begun) (f : CacheFlit) → may_send b f ≡ true → stand_beside f.agent.0 (apart_sent b f) b (others_sent b f) ≡ false → sent_refusal b f ≡ Some OtherCopy
other_copy_reason b f m h = skip (not (may_send b f)) NotSent _ (kept_not (may_send b f) m)
    ∙ first (not (stand_beside f.agent.0 (apart_sent b f) b (others_sent b f))) OtherCopy None (flip (stand_beside f.agent.0 (apart_sent b f) b (others_sent b f)) h)

-- A FLIT OF THE HOME
pub counts_same : (u u' : Bool) (S T : Copies) (f : Held → Bool) (x : Bool) → u ≡ u' → ((h : Held) → S h ≡ T h) → x ≡ counts u S f → x ≡ counts u' T f
counts_same u u' S T f x e each h = h ∙ (λ i. counts (e i) (fun_ext each i) f)

broken : (a b : Bool) → (not a || b) ≡ false → (a && not b) ≡ true
broken true true h = no (sym h)
broken true false h = refl
broken false b h = no (sym h)

kept : (a b : Bool) → (not a || b) ≡ true → (a && not b) ≡ false
kept true true h = refl
kept true false h = no h
kept false b h = refl

order_by : (w l s : Bool) → w ≡ true → l ≡ false → s ≡ (w && (not l && s))
order_by true true s h e = no (sym e)
order_by true false s h e = refl
order_by false l s h e = no h

lost_by : (w l s : Bool) → l ≡ true → false ≡ (w && (not l && s))
lost_by true true s h = refl
lost_by true false s h = no h
lost_by false l s h = refl

module _ (b : Begun) (g : HomeFlit) where
  abbrev words : Bool
  words = not (is_shown b g) || fits_home b.seen.home g.shown

  abbrev lost : Bool
  lost = counts (b.sure g.agent.0) (b.seen.may g.agent.0) (λ h. fills g.grant h && h.stored)

  abbrev beside : Bool
  beside = stand_beside g.agent.0 (apart_given b g) b (others_begun b g)

  abbrev after_words : Option Reason
  after_words = refused_if lost Lost (refused_if (not beside) OtherCopy None)

  pub order_words : (x : Bool) → x ≡ words → x ≡ false → false ≡ keeps_order_begun b g
  order_words x e h = refused words (not lost && beside) (sym e ∙ h)

  pub words_reason : (x : Bool) → x ≡ words → x ≡ false → order_refusal b g ≡ Some OtherWords
  words_reason x e h = first (is_shown b g && not (fits_home b.seen.home g.shown)) OtherWords after_words (broken (is_shown b g) (fits_home b.seen.home g.shown) (sym e ∙ h))

  words_pass : (x : Bool) → x ≡ words → x ≡ true → order_refusal b g ≡ after_words
  words_pass x e h = skip (is_shown b g && not (fits_home b.seen.home g.shown)) OtherWords after_words (kept (is_shown b g) (fits_home b.seen.home g.shown) (sym e ∙ h))

  pub order_lost : (y : Bool) → y ≡ lost → y ≡ true → false ≡ keeps_order_begun b g
  order_lost y e h = lost_by words lost beside (sym e ∙ h)

  pub lost_reason : (x y : Bool) → x ≡ words → x ≡ true → y ≡ lost → y ≡ true → order_refusal b g ≡ Some Lost
  lost_reason x y e h f k = words_pass x e h ∙ first lost Lost (refused_if (not beside) OtherCopy None) (sym f ∙ k)

  pub order_stands : (x y z : Bool) → x ≡ words → x ≡ true → y ≡ lost → y ≡ false → z ≡ beside → z ≡ keeps_order_begun b g
  order_stands x y z e h f k s = s ∙ order_by words lost beside (sym e ∙ h) (sym f ∙ k)

  pub copy_reason : (x y z : Bool) → x ≡ words → x ≡ true → y ≡ lost → y ≡ false → z ≡ beside → z ≡ false → order_refusal b g ≡ Some OtherCopy
  copy_reason x y z e h f k s t = words_pass x e h ∙ skip lost Lost (refused_if (not beside) OtherCopy None) (sym f ∙ k) ∙ first (not beside) OtherCopy None (flip beside (sym s ∙ t))

  given_of : (m h o : Bool) → (m && (h && o)) ≡ ((m && h) && o)
  given_of true true o = refl
  given_of true false o = refl
  given_of false h o = refl

  pub given_not : false ≡ (has_its_moment b g && home_may b.seen.public g) → false ≡ takes_given b g
  given_not e = ap (λ x. x && keeps_order_begun b g) e ∙ sym (given_of (has_its_moment b g) (home_may b.seen.public g) (keeps_order_begun b g))

  pub given_taken : (x : Bool) → true ≡ (has_its_moment b g && home_may b.seen.public g) → x ≡ keeps_order_begun b g → x ≡ takes_given b g
  given_taken x e h = h ∙ ap (λ m. m && keeps_order_begun b g) e ∙ sym (given_of (has_its_moment b g) (home_may b.seen.public g) (keeps_order_begun b g))

  pub given_passes : (rest : Option Reason) → true ≡ (has_its_moment b g && home_may b.seen.public g) → given_by b g rest ≡ rest
  given_passes rest e = skip (not (has_its_moment b g)) NoMoment _ (kept_not (has_its_moment b g) (left (has_its_moment b g) (home_may b.seen.public g) (sym e)))
      ∙ due_passes b.seen g rest (sym (right (has_its_moment b g) (home_may b.seen.public g) (sym e)))
