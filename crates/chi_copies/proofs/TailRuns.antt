-- Whole traces that begin in the middle, call by call.
use Rattle.std.proofs.Common.{rules, arith, ◌≡◌, ℕ, ◌<◌, [], ◌∷◌, refl, sym, ap, subst, ◌∙◌}
use Rattle.std.specs.Prelude.{Bool, true, false, ◌&&◌, ◌||◌, nat_lt, List, ◌++◌, if◌then◌else◌}
use Rattle.chi_observer.specs.declared.flits.Stores.{Stores}
use Rattle.chi_observer.specs.declared.flits.Flit.{Flit}
use Rattle.chi_observer.specs.declared.flits.Flit.TheVariants.{Up, Down}
use Rattle.chi_observer.specs.declared.flits.Act.{Act}
use Rattle.chi_observer.specs.declared.flits.Act.TheVariants.{Request, Resend, SnpResp, CompAck, CopyBackWrData, NonCopyBackWrData, Load, Store}
use Rattle.chi_observer.specs.declared.flits.CacheFlit.{CacheFlit}
use Rattle.chi_observer.specs.declared.flits.HomeFlit.{HomeFlit}
use Rattle.chi_observer.specs.declared.flits.Due.TheVariants.{Nothing}
use Rattle.chi_observer.specs.Rules.{is_resending}
use Rattle.chi_copies.specs.Copies.{Held, plain, image}
use Rattle.chi_copies.specs.Rules.{slips}
use Rattle.chi_copies.specs.Observed.{Observed, Sound, moved, next, given, next_home}
use Rattle.chi_copies.specs.Moments.{is_issue}
use Rattle.chi_copies.specs.Worlds.{Public}
use Rattle.chi_copies.specs.Runs.{Accepted, seen, shown_by, public_of}
use Rattle.chi_copies.specs.Begun.{Begun, agent_in, act_left_over, is_left_over, takes_begun, behind_sent, behind_given, behind_flit, shown_then, kept_behind, forgotten, forgetting, begun_after, begun_with, left_over, anyone}
use Rattle.chi_copies.specs.Tails.{Call, flits_of, begun_by, AreTaken, MayMiss, IsTail, TailsAreTaken, RefusedIsNoTail, LeavesOnly, IsReturn, ReturnsAreTaken, RefusedIsNoReturn}
use Rattle.chi_copies.specs.Tails.Call.{Taken, Missed, Elsewhere}
use Rattle.chi_copies.proofs.Finite.{no, left, both, or_left, or_right, by_truth, flip}
use Rattle.chi_copies.proofs.Put.{there}
use Rattle.chi_copies.proofs.Loose.{slip_self}
use Rattle.chi_copies.proofs.TailUnder.{cancelled_so}
use Rattle.chi_copies.proofs.Leads.{none_some_nat}
use Rattle.chi_copies.proofs.Moved.{kept}
use Rattle.chi_copies.proofs.Kept.{home_kept}
use Rattle.chi_copies.proofs.Runs.{exact, accepted}
use Rattle.chi_copies.proofs.TailFollows.{Follows, kept_follows}
use Rattle.chi_copies.proofs.TailSent.{sent_taken, sent_trails}
use Rattle.chi_copies.proofs.TailGiven.{given_taken, given_trails}
use Rattle.chi_copies.proofs.TailLeft.{elsewhere_follows, sent_left, left_asked, given_left}
use Rattle.chi_copies.proofs.TailMoments.{moments_so}

low_is : (n : ℕ) → n < 32 → nat_lt n 32 ≡ true
low_is n h = search (rules, arith)

is_low : (n : ℕ) → nat_lt n 32 ≡ true → n < 32
is_low n h = search (rules, arith)

-- ONE FLIT
pub record Goes (o : Observed) (shown : ℕ → Bool) (b : Begun) (e : Flit) : Type 0 where
  pub taken : takes_begun b e ≡ true
  pub follows : Follows o shown (begun_after b e)

late_after : (b : Begun) (e : Flit) → is_left_over b e ≡ true → begun_after b e ≡ forgotten (agent_in e) b
late_after b e late = ap (λ (v : Bool). if v then forgotten (agent_in e) b else kept_behind (behind_flit b e) (shown_then b e)) late

early_after : (b : Begun) (e : Flit) → is_left_over b e ≡ false → begun_after b e ≡ kept_behind (behind_flit b e) (shown_then b e)
early_after b e early = ap (λ (v : Bool). if v then forgotten (agent_in e) b else kept_behind (behind_flit b e) (shown_then b e)) early

module _ (z : Stores) (es : List Flit) (b : Begun) (f : CacheFlit) (a : Accepted z (Up f ∷ es)) (follows : Follows (seen z es) (shown_by z es) b) where
  abbrev o : Observed
  o = seen z es

  o_sound : Sound (seen z es)
  o_sound = (exact z es a.0).sound

  sent_early : is_left_over b (Up f) ≡ false → Goes (next o f) (shown_by z (Up f ∷ es)) b (Up f)
  sent_early early =
      let after = kept o f o_sound (exact z es a.0).closed a.1 a.2 in
      let trails = sent_trails o (shown_by z es) b f follows o_sound a.1 a.2 early in
      record {
        taken = both (nat_lt f.agent.0 32) _ (low_is f.agent.0 a.1) (or_right (is_left_over b (Up f)) _ (sent_taken o (shown_by z es) b f follows o_sound a.1 a.2 early));
        follows = subst (λ (v : Begun). Follows (next o f) (shown_by z (Up f ∷ es)) v) (sym (early_after b (Up f) early))
            (kept_follows (next o f) (moved o f) (behind_sent b f) (shown_by z (Up f ∷ es)) (shown_then b (Up f)) after.2 trails (λ k l h.
            moments_so (next o f) (moved o f) (behind_sent b f) f.agent.0 trails after.2
            (λ m g h y. subst (λ X. X h ≡ true) (there f.agent.0 (image (slips o.public.stores ((moved o f).public.due f.agent.0)) ((moved o f).may f.agent.0)) (moved o f).may m g) y) (λ _. refl)
            k l (is_issue (Up f) k) (shown_by z es k) (b.shown k) (follows.moments k l) h));
      }

  sent_late : is_left_over b (Up f) ≡ true → Goes (next o f) (shown_by z (Up f ∷ es)) b (Up f)
  sent_late late = record {
    taken = both (nat_lt f.agent.0 32) _ (low_is f.agent.0 a.1) (or_left (is_left_over b (Up f)) _ late);
    follows = subst (λ (v : Begun). Follows (next o f) (shown_by z (Up f ∷ es)) v) (sym (late_after b (Up f) late))
        (sent_left o (shown_by z es) (shown_by z (Up f ∷ es)) b f follows o_sound (kept o f o_sound (exact z es a.0).closed a.1 a.2).1 a.1 a.2 late);
  }

  sent_goes : Goes (next o f) (shown_by z (Up f ∷ es)) b (Up f)
  sent_goes = by_truth (is_left_over b (Up f)) sent_late sent_early

module _ (z : Stores) (es : List Flit) (b : Begun) (g : HomeFlit) (a : Accepted z (Down g ∷ es)) (follows : Follows (seen z es) (shown_by z es) b) where
  abbrev u : Observed
  u = seen z es

  sound_before : Sound (seen z es)
  sound_before = (exact z es a.0).sound

  given_early : is_left_over b (Down g) ≡ false → Goes (next_home u g) (shown_by z (Down g ∷ es)) b (Down g)
  given_early early =
      let after = home_kept u g sound_before (exact z es a.0).closed a.1 a.2 in
      let trails = given_trails u (shown_by z es) b g follows sound_before after.0 a.1 a.2 a.3 early in
      record {
        taken = both (nat_lt g.agent.0 32) _ (low_is g.agent.0 a.1) (or_right (is_left_over b (Down g)) _ (given_taken u (shown_by z es) b g follows sound_before after.0 a.1 a.2 a.3 early));
        follows = subst (λ (v : Begun). Follows (next_home u g) (shown_by z (Down g ∷ es)) v) (sym (early_after b (Down g) early))
            (kept_follows (next_home u g) (given u g) (behind_given b g) (shown_by z (Down g ∷ es)) (shown_then b (Down g)) after.2 trails (λ k l h.
            moments_so (next_home u g) (given u g) (behind_given b g) g.agent.0 trails after.2
            (λ m v h y. subst (λ X. X h ≡ true) (there g.agent.0 (image (slips u.public.stores ((given u g).public.due g.agent.0)) ((given u g).may g.agent.0)) (given u g).may m v) y) (λ _. refl)
            k l (is_issue (Down g) k) (shown_by z es k) (b.shown k) (follows.moments k l) h));
      }

  given_late : is_left_over b (Down g) ≡ true → Goes (next_home u g) (shown_by z (Down g ∷ es)) b (Down g)
  given_late late = record {
    taken = both (nat_lt g.agent.0 32) _ (low_is g.agent.0 a.1) (or_left (is_left_over b (Down g)) _ late);
    follows = subst (λ (v : Begun). Follows (next_home u g) (shown_by z (Down g ∷ es)) v) (sym (late_after b (Down g) late))
        (given_left u (shown_by z es) (shown_by z (Down g ∷ es)) b g follows sound_before (home_kept u g sound_before (exact z es a.0).closed a.1 a.2).1 a.1 a.2 late);
  }

  given_goes : Goes (next_home u g) (shown_by z (Down g ∷ es)) b (Down g)
  given_goes = by_truth (is_left_over b (Down g)) given_late given_early

goes_on : (z : Stores) (e : Flit) (es : List Flit) (b : Begun) → Accepted z (e ∷ es) → Follows (seen z es) (shown_by z es) b → Goes (seen z (e ∷ es)) (shown_by z (e ∷ es)) b e
goes_on z (Up f) es b a follows = sent_goes z es b f a follows
goes_on z (Down g) es b a follows = given_goes z es b g a follows

-- AT FIRST
same_stores : (z : Stores) (es : List Flit) → (seen z es).public.stores ≡ z
same_stores z [] = refl
same_stores z (Up f ∷ es) = same_stores z es
same_stores z (Down g ∷ es) = same_stores z es

-- no copy is cancelled of which nothing is outstanding
plain_so : (asked cancelled : Bool) → (asked ≡ false → cancelled ≡ false) → cancelled_so asked false cancelled ≡ true
plain_so true cancelled f = refl
plain_so false cancelled f = flip cancelled (f refl)

module _ (z : Stores) (asked left : ℕ → Bool) (es : List Flit) (a : Accepted z es) (only : LeavesOnly asked left (seen z es).public) where
  abbrev whole : Observed
  whole = seen z es

  waits_none : (n : ℕ) → n < 32 → (h : Held) → whole.may n h ≡ true → asked n ≡ false → h.cancelled ≡ false
  waits_none n low h y e = (exact z es a).sound.waits n low (ap is_resending (only.requests n low e)) h y

  begins : Follows (seen z es) (shown_by z es) (begun_with z asked left)
  begins = record {
    stores = sym (same_stores z es);
    agents = λ n low. record {
      due = λ e. ap (λ (c : Bool). if c then left_over else Nothing) e ∙ sym (only.requests n low e);
      left = λ e. ap (λ (c : Bool). if c then left_over else Nothing) e;
      snooped = λ e. sym (only.snoops n low e);
      gone = λ _. refl;
      known = λ e. no e;
      base = record {
        bases = whole.may n;
        some = (exact z es a).sound.some n low;
        inside = λ t y. y;
        below = λ t y. record { held = plain t.copy; has = both (nat_lt n 32) _ (low_is n low) refl; under = record { copy = refl; cancelled = plain_so (asked n) t.cancelled (waits_none n low t y); stored = λ e. no e } };
        over = λ e. no e;
        slips = λ h y. record { held = h; has = y; leads = slip_self whole.public.stores (whole.public.due n) h };
      };
      whole = λ e. no e;
    };
    duty = λ _. refl;
    home = λ p l v e. absurd (none_some_nat v e);
    moments = λ _ _ _. refl;
  }

-- ITS TAIL
still_accepted : (z : Stores) (e : Flit) (es : List Flit) → Accepted z (e ∷ es) → Accepted z es
still_accepted z (Up f) es a = a.0
still_accepted z (Down g) es a = a.0

low_agent : (z : Stores) (e : Flit) (es : List Flit) → Accepted z (e ∷ es) → agent_in e < 32
low_agent z (Up f) es a = a.1
low_agent z (Down g) es a = a.1

-- what is missed is forgotten, as it would be where it is seen
act_left : (a : Act) (asked missed : Bool) → act_left_over asked missed a ≡ true → (asked || missed) ≡ true
act_left (Request y) asked missed h = no h
act_left (Resend y) asked missed h = no h
act_left (SnpResp y) asked missed h = or_right asked missed h
act_left CompAck asked missed h = or_left asked missed h
act_left (CopyBackWrData y) asked missed h = or_left asked missed h
act_left NonCopyBackWrData asked missed h = or_left asked missed h
act_left (Load word) asked missed h = no h
act_left (Store word) asked missed h = no h

may_be_open : (b : Begun) (e : Flit) → is_left_over b e ≡ true → (b.asked (agent_in e) || b.snooped (agent_in e)) ≡ true
may_be_open b (Up f) h = act_left f.act (b.asked f.agent.0) (b.snooped f.agent.0) h
may_be_open b (Down g) h = or_left (b.asked g.agent.0) (b.snooped g.agent.0) (left_asked g.grant (b.asked g.agent.0) h)

missed_is : (b : Begun) (e : Flit) → agent_in e < 32 → is_left_over b e ≡ true → forgetting (agent_in e) b ≡ begun_after b e
missed_is b e low late = ap (λ (v : Bool). if v then forgotten (agent_in e) b else b) (both (nat_lt (agent_in e) 32) _ (low_is (agent_in e) low) (may_be_open b e late)) ∙ sym (late_after b e late)

elsewhere : (o : Observed) (shown : ℕ → Bool) (b : Begun) (n : ℕ) → Follows o shown b → Sound o → (v : Bool) → (v ≡ true → n < 32) → Follows o shown (if v then forgotten n b else b)
elsewhere o shown b n follows sound true low = elsewhere_follows o shown b n follows sound (low refl)
elsewhere o shown b n follows sound false low = follows

module _ (z : Stores) (asked missed : ℕ → Bool) (before : List Flit) (only : LeavesOnly asked missed (public_of z before)) where
  abbrev first : Begun
  first = begun_with z asked missed

  pub follows_tail : (cs : List Call) → MayMiss first cs → Accepted z (flits_of cs ++ before) → AreTaken first cs × Follows (seen z (flits_of cs ++ before)) (shown_by z (flits_of cs ++ before)) (begun_by first cs)
  follows_tail [] m a = (tt, begins z asked missed before a (subst (λ (p : Public). LeavesOnly asked missed p) (sym (exact z before a).public) only))
  follows_tail (Taken e ∷ cs) m a =
      let rest = follows_tail cs m (still_accepted z e (flits_of cs ++ before) a) in
      let goes = goes_on z e (flits_of cs ++ before) (begun_by first cs) a rest.1 in
      ((rest.0, goes.taken), goes.follows)
  follows_tail (Missed e ∷ cs) m a =
      let rest = follows_tail cs m.0 (still_accepted z e (flits_of cs ++ before) a) in
      let goes = goes_on z e (flits_of cs ++ before) (begun_by first cs) a rest.1 in (
        rest.0,
        subst (λ (v : Begun). Follows (seen z (e ∷ flits_of cs ++ before)) (shown_by z (e ∷ flits_of cs ++ before)) v) (sym (missed_is (begun_by first cs) e (low_agent z e (flits_of cs ++ before) a) m.1)) goes.follows,
      )
  follows_tail (Elsewhere n ∷ cs) m a =
      let rest = follows_tail cs m a in
      (rest.0, elsewhere (seen z (flits_of cs ++ before)) (shown_by z (flits_of cs ++ before)) (begun_by first cs) n rest.1 (exact z (flits_of cs ++ before) a).sound (nat_lt n 32 && ((begun_by first cs).asked n || (begun_by first cs).snooped n)) (λ v. is_low n (left (nat_lt n 32) _ v)))

pub returns_taken : ReturnsAreTaken
returns_taken z asked left cs m r = (follows_tail z asked left r.before r.leaves cs m (accepted z (flits_of cs ++ r.before) r.legal)).0

impossible : false ≡ true → ⊥
impossible h = search (rules, arith)

pub returns_refused : RefusedIsNoReturn
returns_refused z asked left e cs m h r = impossible (sym h ∙ (returns_taken z asked left (Taken e ∷ cs) m r).1)

-- where nothing is known all may be open
leaves_any : (p : Public) → LeavesOnly anyone anyone p
leaves_any p = record { requests = λ n low e. no (sym e); snoops = λ n low e. no (sym e) }

returns : (z : Stores) (es : List Flit) → IsTail z es → IsReturn z anyone anyone es
returns z es tail = record { before = tail.0; leaves = leaves_any (public_of z tail.0); legal = tail.1 }

pub taken : TailsAreTaken
taken z cs m tail = returns_taken z anyone anyone cs m (returns z (flits_of cs) tail)

pub refused : RefusedIsNoTail
refused z e cs m h tail = impossible (sym h ∙ (taken z (Taken e ∷ cs) m tail).1)
