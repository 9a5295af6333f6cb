-- A flit from before in a trace that begins in the middle.
use Rattle.std.proofs.Common.{◌≡◌, ◌≢◌, ℕ, ◌<◌, refl, sym, ap, subst, ◌∙◌}
use Rattle.std.specs.Prelude.{Bool, true, false, ◌&&◌, ◌||◌, ◌==◌, not, Option, if◌then◌else◌}
use Rattle.chi_observer.specs.declared.kinds.Snoop.{Snoop}
use Rattle.chi_observer.specs.declared.flits.Due.{Due}
use Rattle.chi_observer.specs.declared.flits.Stores.{Stores}
use Rattle.chi_observer.specs.declared.flits.Act.{Act}
use Rattle.chi_observer.specs.declared.flits.Act.TheVariants.{Request, Resend, SnpResp, CompAck, CopyBackWrData, NonCopyBackWrData, Load, Store}
use Rattle.chi_observer.specs.declared.flits.Grant.{Grant}
use Rattle.chi_observer.specs.declared.flits.Grant.TheVariants.{RetryAck, Snp, CompData, CompUC, CompSC, CompI, CompDBIDResp}
use Rattle.chi_observer.specs.declared.flits.CacheFlit.{CacheFlit}
use Rattle.chi_observer.specs.declared.flits.HomeFlit.{HomeFlit}
use Rattle.chi_observer.specs.Copies.{is_unique}
use Rattle.chi_observer.specs.Copies.Copy.{Invalid}
use Rattle.chi_observer.specs.Rules.{tells_words, is_resending, due_after, snooped_after, due_granted, snooped_granted}
use Rattle.chi_copies.specs.Copies.{Held, image}
use Rattle.chi_copies.specs.Rules.{slips, renews}
use Rattle.chi_copies.specs.Observed.{Observed, Sound, sent, takes, shown_all, moved, next, got, given_of, takes_home, given, next_home}
use Rattle.chi_copies.specs.Begun.{Begun, act_left_over, grant_left_over, apart, apart_from, may_be_left, some_apart, forgotten}
use Rattle.chi_copies.proofs.Finite.{no, right, both, or_right, by_truth, by_false, turned, flip}
use Rattle.chi_copies.proofs.Rows.{alike_self, same_is}
use Rattle.chi_copies.proofs.Means.{sane}
use Rattle.chi_copies.proofs.Put.{differ, here, there, split}
use Rattle.chi_copies.proofs.Loose.{slip_self}
use Rattle.chi_copies.proofs.Leads.{all_by, none_some_nat}
use Rattle.chi_copies.proofs.Moved.{one_came, told_at, others_after}
use Rattle.chi_copies.proofs.Given.{or_else, renewed_alone}
use Rattle.chi_copies.proofs.TailUnder.{Under, never_apart}
use Rattle.chi_copies.proofs.TailSets.{Below, Base, ShownSet, shown_image, shown_if, shown_base, shown_whole, met}
use Rattle.chi_copies.proofs.TailFollows.{Sides, IsFollowed, Follows, sides_of}

-- a copy without marks, but for a request that may be cancelled
abbrev unmarked : Bool → Held → Held
unmarked asked h = record { copy = h.copy; cancelled = if asked then false else h.cancelled; stored = false }

under_unmarked : (asked : Bool) (h : Held) → Under asked (unmarked asked h) h
under_unmarked true h = record { copy = refl; cancelled = refl; stored = λ e. no e }
under_unmarked false h = record { copy = refl; cancelled = alike_self h.cancelled; stored = λ e. no e }

left_so : (asked cancelled : Bool) (d e : Due) → (asked ≡ false → e ≡ d) → (is_resending d ≡ false → cancelled ≡ false) → (not (if asked then false else cancelled) || is_resending e) ≡ true
left_so true cancelled d e f w = refl
left_so false false d e f w = refl
left_so false true d e f w = by_truth (is_resending d) (λ r. or_right (not true) _ (ap is_resending (f refl) ∙ r)) (λ r. no (sym (w r)))

-- o': the whole trace's observer behind the flit, or as it was. t: the home has the others' words then
module _ (o o' : Observed) (shown shown' : ℕ → Bool) (b : Begun) (n : ℕ) (follows : Follows o shown b) (after : Sound o') (low : n < 32) (same_stores : o'.public.stores ≡ o.public.stores)
    (due : b.asked n ≡ false → b.seen.public.due n ≡ o'.public.due n) (snooped : b.snooped n ≡ false → b.seen.public.snooped n ≡ o'.public.snooped n)
    (t : Bool) (else_due : (m : ℕ) → m ≢ n → o'.public.due m ≡ o.public.due m) (else_snooped : (m : ℕ) → m ≢ n → o'.public.snooped m ≡ o.public.snooped m) (else_may : (m : ℕ) → m ≢ n → ShownSet t (o.may m) (o'.may m))
    (shared : t ≡ true → (m : ℕ) → m ≢ n → m < 32 → (h : Held) → o.may m h ≡ true → is_unique h.copy ≡ false) where
  abbrev z : Stores
  z = o'.public.stores

  was_base : (m : ℕ) → m ≢ n → m < 32 → Base z (o'.public.due m) (b.asked m) (b.sure m) (o.may m) (o.may m) (b.seen.may m)
  was_base m g l = subst (λ (z : Stores). Base z (o'.public.due m) (b.asked m) (b.sure m) (o.may m) (o.may m) (b.seen.may m)) (sym same_stores)
      (subst (λ (d : Due). Base o.public.stores d (b.asked m) (b.sure m) (o.may m) (o.may m) (b.seen.may m)) (sym (else_due m g)) (follows.agents m l).base)

  else_base : (m : ℕ) → m ≢ n → m < 32 → Base z (o'.public.due m) (b.asked m) (b.sure m) (o'.may m) (o'.may m) (shown_all (b.seen.may m))
  else_base m g l = shown_base z (o'.public.due m) (b.asked m) (b.sure m) t true (o.may m) (o'.may m) (b.seen.may m) (shown_all (b.seen.may m)) (else_may m g) (shown_image true (b.seen.may m)) (λ _. refl) (λ e. shared e m g l) (was_base m g l)

  not_apart : (k h : Held) → Under (b.asked n) k h → o'.may n h ≡ true → some_apart n b k ≡ false
  not_apart k h u y = ap not (all_by 32 (λ m. m == n || not (apart_from (b.sure m) (shown_all (b.seen.may m)) k)) (λ m l. or_else (m == n) _ (λ v. flip _ (by_false (apart_from (b.sure m) (shown_all (b.seen.may m)) k) (λ c.
      let g : m ≢ n = differ m n v in
      let w = met z (o'.public.due m) (b.asked m) (b.sure m) (o'.may m) (o'.may m) (shown_all (b.seen.may m)) (else_base m g l) (λ h. apart h k) c in
      sym (never_apart (b.asked m) (b.asked n) w.lower w.upper k h w.under u (sane o' after m l w.upper w.above) (sane o' after n low h y) w.so) ∙ after.pairs m n l low g w.upper h w.above y)))))

  kept_below : (h : Held) → o'.may n h ≡ true → Below (b.asked n) (λ k. may_be_left (b.seen.public.due n) k && not (some_apart n b k)) h
  kept_below h y = let u = under_unmarked (b.asked n) h in record {
    held = unmarked (b.asked n) h;
    has = both (may_be_left (b.seen.public.due n) (unmarked (b.asked n) h)) _ (left_so (b.asked n) h.cancelled (o'.public.due n) (b.seen.public.due n) due (λ r. after.waits n low r h y))
        (flip _ (not_apart (unmarked (b.asked n) h) h u y));
    under = u;
  }

  abbrev agent_sides : Sides
  agent_sides = record {
    due = o'.public.due n;
    snooped = o'.public.snooped n;
    may = o'.may n;
    behind = o'.may n;
    kept_due = b.seen.public.due n;
    kept_snooped = b.seen.public.snooped n;
    kept_may = λ k. may_be_left (b.seen.public.due n) k && not (some_apart n b k);
    sure = false;
    asked = b.asked n;
    missed = b.snooped n;
  }

  sides_here : sides_of o' (forgotten n b) n ≡ agent_sides
  sides_here = λ i. record {
    due = o'.public.due n;
    snooped = o'.public.snooped n;
    may = o'.may n;
    behind = o'.may n;
    kept_due = b.seen.public.due n;
    kept_snooped = b.seen.public.snooped n;
    kept_may = here n (λ k. may_be_left (b.seen.public.due n) k && not (some_apart n b k)) (λ m. shown_all (b.seen.may m)) i;
    sure = here n false b.sure i;
    asked = b.asked n;
    missed = b.snooped n;
  }

  agent_followed : IsFollowed z agent_sides
  agent_followed = let side = follows.agents n low in record {
    due = due;
    left = side.left;
    snooped = snooped;
    gone = side.gone;
    known = λ e. no e;
    base = record {
      bases = o'.may n;
      some = after.some n low;
      inside = λ t y. y;
      below = kept_below;
      over = λ e. no e;
      slips = λ h y. record { held = h; has = y; leads = slip_self z (o'.public.due n) h };
    };
    whole = λ e. no e;
  }

  abbrev other_sides : ℕ → Sides
  other_sides m = record {
    due = o'.public.due m;
    snooped = o'.public.snooped m;
    may = o'.may m;
    behind = o'.may m;
    kept_due = b.seen.public.due m;
    kept_snooped = b.seen.public.snooped m;
    kept_may = shown_all (b.seen.may m);
    sure = b.sure m;
    asked = b.asked m;
    missed = b.snooped m;
  }

  sides_there : (m : ℕ) → m ≢ n → sides_of o' (forgotten n b) m ≡ other_sides m
  sides_there m g = λ i. record {
    due = o'.public.due m;
    snooped = o'.public.snooped m;
    may = o'.may m;
    behind = o'.may m;
    kept_due = b.seen.public.due m;
    kept_snooped = b.seen.public.snooped m;
    kept_may = there n (λ k. may_be_left (b.seen.public.due n) k && not (some_apart n b k)) (λ m. shown_all (b.seen.may m)) m g i;
    sure = there n false b.sure m g i;
    asked = b.asked m;
    missed = b.snooped m;
  }

  other_followed : (m : ℕ) → m ≢ n → m < 32 → IsFollowed z (other_sides m)
  other_followed m g l = let was = follows.agents m l in record {
    due = λ e. was.due e ∙ sym (else_due m g);
    left = was.left;
    snooped = λ e. was.snooped e ∙ sym (else_snooped m g);
    gone = was.gone;
    known = was.known;
    base = else_base m g l;
    whole = λ e. shown_whole t true (o.may m) (o'.may m) (b.seen.may m) (shown_all (b.seen.may m)) (else_may m g) (shown_image true (b.seen.may m)) (λ _. refl) (was.whole e);
  }

  pub forgotten_follows : Follows o' shown' (forgotten n b)
  forgotten_follows = record {
    stores = follows.stores ∙ sym same_stores;
    agents = split (λ m. m < 32 → IsFollowed z (sides_of o' (forgotten n b) m)) n (λ _. subst (λ s. IsFollowed z s) (sym sides_here) agent_followed) (λ m g l. subst (λ s. IsFollowed z s) (sym (sides_there m g)) (other_followed m g l));
    duty = λ _. refl;
    home = λ p l v e. absurd (none_some_nat v e);
    moments = λ _ _ _. refl;
  }

-- OF ANOTHER LINE
pub elsewhere_follows : (o : Observed) (shown : ℕ → Bool) (b : Begun) (n : ℕ) → Follows o shown b → Sound o → n < 32 → Follows o shown (forgotten n b)
elsewhere_follows o shown b n follows sound low = forgotten_follows o o shown shown b n follows sound low refl (follows.agents n low).due (follows.agents n low).snooped false (λ _ _. refl) (λ _ _. refl) (λ m _. shown_if false (o.may m)) (λ e. no e)

-- OF A CACHE
left_due : (a : Act) (asked missed : Bool) (d : Due) → act_left_over asked missed a ≡ true → asked ≡ false → due_after a d ≡ d
left_due (SnpResp answer) asked missed d i e = refl
left_due (Request kind) asked missed d i e = no i
left_due (Resend kind) asked missed d i e = no i
left_due CompAck asked missed d i e = no (sym e ∙ i)
left_due (CopyBackWrData form) asked missed d i e = no (sym e ∙ i)
left_due NonCopyBackWrData asked missed d i e = no (sym e ∙ i)
left_due (Load word) asked missed d i e = no i
left_due (Store word) asked missed d i e = no i

left_snooped : (a : Act) (asked missed : Bool) (s : Option Snoop) → act_left_over asked missed a ≡ true → missed ≡ false → snooped_after a s ≡ s
left_snooped (SnpResp answer) asked missed s i e = no (sym e ∙ i)
left_snooped (Request kind) asked missed s i e = no i
left_snooped (Resend kind) asked missed s i e = no i
left_snooped CompAck asked missed s i e = refl
left_snooped (CopyBackWrData form) asked missed s i e = refl
left_snooped NonCopyBackWrData asked missed s i e = refl
left_snooped (Load word) asked missed s i e = no i
left_snooped (Store word) asked missed s i e = no i

module _ (o : Observed) (shown shown' : ℕ → Bool) (b : Begun) (f : CacheFlit) (follows : Follows o shown b) (sound : Sound o) (after : Sound (next o f)) (low : f.agent.0 < 32) (take : takes o f ≡ true) (late : act_left_over (b.asked f.agent.0) (b.snooped f.agent.0) f.act ≡ true) where
  abbrev n : ℕ
  n = f.agent.0

  then_else : (m : ℕ) → m ≢ n → (next o f).may m ≡ others_after o f m
  then_else m g = there n (image (slips o.public.stores ((moved o f).public.due n)) ((moved o f).may n)) (moved o f).may m g ∙ there n (sent o f) (others_after o f) m g

  pub sent_left : Follows (next o f) shown' (forgotten n b)
  sent_left = forgotten_follows o (next o f) shown shown' b n follows after low refl
      (λ e. (follows.agents n low).due e ∙ sym (here n (due_after f.act (o.public.due n)) o.public.due ∙ left_due f.act (b.asked n) (b.snooped n) (o.public.due n) late e))
      (λ e. (follows.agents n low).snooped e ∙ sym (here n (snooped_after f.act (o.public.snooped n)) o.public.snooped ∙ left_snooped f.act (b.asked n) (b.snooped n) (o.public.snooped n) late e))
      (tells_words f.act) (λ m g. there n (due_after f.act (o.public.due n)) o.public.due m g) (λ m g. there n (snooped_after f.act (o.public.snooped n)) o.public.snooped m g)
      (λ m g. subst (λ X. ShownSet (tells_words f.act) (o.may m) X) (sym (then_else m g)) (shown_if (tells_words f.act) (o.may m)))
      (λ e m g l h y. let c = one_came o f sound low take in turned (is_unique h.copy) (right _ _ (told_at o f sound low c.0 c.1 m g l h y e)))

-- OF THE HOME
pub left_asked : (g : Grant) (asked : Bool) → grant_left_over asked g ≡ true → asked ≡ true
left_asked (Snp x) asked i = no i
left_asked RetryAck asked i = i
left_asked (CompData form) asked i = i
left_asked CompUC asked i = i
left_asked CompSC asked i = i
left_asked CompI asked i = i
left_asked CompDBIDResp asked i = i

left_unsnooped : (g : Grant) (asked : Bool) (s : Option Snoop) → grant_left_over asked g ≡ true → snooped_granted g s ≡ s
left_unsnooped (Snp x) asked s i = no i
left_unsnooped RetryAck asked s i = refl
left_unsnooped (CompData form) asked s i = refl
left_unsnooped CompUC asked s i = refl
left_unsnooped CompSC asked s i = refl
left_unsnooped CompI asked s i = refl
left_unsnooped CompDBIDResp asked s i = refl

module _ (o : Observed) (shown shown' : ℕ → Bool) (b : Begun) (g : HomeFlit) (follows : Follows o shown b) (sound : Sound o) (after : Sound (next_home o g)) (low : g.agent.0 < 32) (take : takes_home o g ≡ true) (late : grant_left_over (b.asked g.agent.0) g.grant ≡ true) where
  abbrev at : ℕ
  at = g.agent.0

  then_given : (m : ℕ) → m ≢ at → (next_home o g).may m ≡ given_of g o.public (o.may m)
  then_given m v = there at (image (slips o.public.stores ((given o g).public.due at)) ((given o g).may at)) (given o g).may m v ∙ there at (got o g) (λ m. given_of g o.public (o.may m)) m v

  pub given_left : Follows (next_home o g) shown' (forgotten at b)
  given_left = forgotten_follows o (next_home o g) shown shown' b at follows after low refl
      (λ e. no (sym e ∙ left_asked g.grant (b.asked at) late))
      (λ e. (follows.agents at low).snooped e ∙ sym (here at (snooped_granted g.grant (o.public.snooped at)) o.public.snooped ∙ left_unsnooped g.grant (b.asked at) (o.public.snooped at) late))
      (renews g.grant (o.public.due at)) (λ m v. there at (due_granted g.grant (o.public.due at)) o.public.due m v) (λ m v. there at (snooped_granted g.grant (o.public.snooped at)) o.public.snooped m v)
      (λ m v. subst (λ X. ShownSet (renews g.grant (o.public.due at)) (o.may m) X) (sym (then_given m v)) (shown_image (renews g.grant (o.public.due at)) (o.may m)))
      (λ r m v l h y. ap is_unique (same_is h.copy Invalid (renewed_alone o g sound low take r m v l h y)))
