-- Traces that begin in the middle: each flit of a tail is taken, whatever is missed.
use Rattle.std.proofs.Common.{rules, arith, ◌≡◌, ℕ, ◌<◌, List, [], ◌∷◌, ◌++◌, refl, sym, ap, subst, ◌∙◌}
use Rattle.std.proofs.lemmas.List.{get_or-replicate}
use Rattle.std.specs.Prelude.{Bool, true, false, ◌&&◌, ◌||◌, not, nat_lt, Option, Some, None, replicate, if◌then◌else◌}
use Rattle.chi_observer.specs.declared.kinds.Snoop.{Snoop}
use Rattle.chi_observer.specs.declared.told.Told.TheVariants.{I}
use Rattle.chi_observer.specs.declared.flits.Due.{Due}
use Rattle.chi_observer.specs.declared.flits.Stores.{Stores}
use Rattle.chi_observer.specs.declared.flits.Act.{Act}
use Rattle.chi_observer.specs.declared.flits.Act.TheVariants.{Request, Resend, SnpResp, CompAck, CopyBackWrData, NonCopyBackWrData, Load, Store}
use Rattle.chi_observer.specs.declared.flits.Grant.{Grant}
use Rattle.chi_observer.specs.declared.flits.Grant.TheVariants.{RetryAck, Snp, CompData, CompUC, CompSC, CompI, CompDBIDResp}
use Rattle.chi_observer.specs.declared.flits.CacheFlit.{CacheFlit}
use Rattle.chi_observer.specs.declared.flits.HomeFlit.{HomeFlit}
use Rattle.chi_observer.specs.declared.flits.Flit.{Flit}
use Rattle.chi_observer.specs.declared.flits.Flit.TheVariants.{Up, Down}
use Rattle.chi_observer.specs.declared.begun.Certainty.TheVariants.{Unknown}
use Rattle.chi_observer.specs.declared.begun.AgentBegun.{AgentBegun}
use Rattle.chi_observer.specs.Judged.{is_judged}
use Rattle.chi_observer.specs.Rules.{allows, awaits_moment, due_after, due_granted, is_request, lets_go, snooped_after, snooped_granted}
use Rattle.chi_observer.specs.Tables.{Known, fits_told, told_after, told_granted}
use Rattle.chi_observer.specs.Worlds.{home_may, put}
use Rattle.chi_observer.specs.Observed.{differs, takes, takes_home}
use Rattle.chi_observer.specs.Moments.{has_moment, is_issue, is_moment}
use Rattle.chi_observer.specs.Runs.{Accepted, seen, shown_by, waits_by}
use Rattle.chi_observer.specs.Lines.{Watched, agent_of, is_taken, nobody, watch}
use Rattle.chi_observer.specs.Begun.{Beginning, act_left_over, agent_in, begun_after, due_kept, forgetting, forgotten, grant_left_over, is_left_over, kept_in, left_over, mark_forgotten, nothing_begun, takes_begun, unmarked}
use Rattle.chi_observer.specs.Tails.{AreTaken, Call, MayMiss, RefusedIsNoTail, TailsAreTaken, begun_by, flits_of}
use Rattle.chi_observer.specs.Tails.Call.{Taken, Missed, Elsewhere}
use Rattle.chi_observer.proofs.Finite.{no, left, right, both, implies}
use Rattle.chi_observer.proofs.Facts.{flip}
use Rattle.chi_observer.proofs.Put.{here, there, split}
use Rattle.chi_observer.proofs.Waits.{wakes}
use Rattle.chi_observer.proofs.Runs.{exact}
use Rattle.chi_observer.proofs.Legal.{accepted}
use Rattle.chi_observer.proofs.Below.{or_first, still_moment}
use Rattle.chi_observer.proofs.Supposed.{cancel_stays, holds_by, holds_given, holds_sent, is_open_clean}
use Rattle.chi_observer.proofs.Above.{Above, Both, IsAbove, Well, both_of, forgotten_above, snooped_kept}
use Rattle.chi_observer.proofs.SentAbove.{sent_above, sent_taken}
use Rattle.chi_observer.proofs.GivenAbove.{given_above, given_taken}

or_there : (a b : Bool) → b ≡ true → (a || b) ≡ true
or_there true b h = refl
or_there false b h = h

-- FLITS FROM BEFORE
left_due : (k : AgentBegun) (a : Act) (d e : Due) → e ≡ due_kept k d → act_left_over k a ≡ true → e ≡ due_kept k (due_after a d)
left_due k (SnpResp y) d e h l = h
left_due k CompAck d e h l = asked_due k.asked d (due_after CompAck d) e h l
  where
    asked_due : (asked : Bool) (d c e : Due) → e ≡ (if asked then left_over else d) → asked ≡ true → e ≡ (if asked then left_over else c)
    asked_due true d c e h l = h
    asked_due false d c e h l = no l
left_due k (CopyBackWrData y) d e h l = asked_due k.asked d (due_after (CopyBackWrData y) d) e h l
  where
    asked_due : (asked : Bool) (d c e : Due) → e ≡ (if asked then left_over else d) → asked ≡ true → e ≡ (if asked then left_over else c)
    asked_due true d c e h l = h
    asked_due false d c e h l = no l
left_due k NonCopyBackWrData d e h l = asked_due k.asked d (due_after NonCopyBackWrData d) e h l
  where
    asked_due : (asked : Bool) (d c e : Due) → e ≡ (if asked then left_over else d) → asked ≡ true → e ≡ (if asked then left_over else c)
    asked_due true d c e h l = h
    asked_due false d c e h l = no l
left_due k (Request y) d e h l = no l
left_due k (Resend y) d e h l = no l
left_due k (Load word) d e h l = no l
left_due k (Store word) d e h l = no l

left_snooped : (k : AgentBegun) (a : Act) (q p : Option Snoop) → p ≡ snooped_kept k.snooped q → act_left_over k a ≡ true → p ≡ snooped_kept k.snooped (snooped_after a q)
left_snooped k (SnpResp y) q p h l = by k.snooped h l
  where
    by : (snooped : Bool) → p ≡ snooped_kept snooped q → snooped ≡ true → p ≡ snooped_kept snooped None
    by true h l = h
    by false h l = no l
left_snooped k CompAck q p h l = h
left_snooped k (CopyBackWrData y) q p h l = h
left_snooped k NonCopyBackWrData q p h l = h
left_snooped k (Request y) q p h l = h
left_snooped k (Resend y) q p h l = h
left_snooped k (Load word) q p h l = h
left_snooped k (Store word) q p h l = h

left_old : (k : AgentBegun) (a : Act) → act_left_over k a ≡ true → is_request a ≡ false
left_old k (Request y) l = no l
left_old k (Resend y) l = refl
left_old k (SnpResp y) l = refl
left_old k CompAck l = refl
left_old k (CopyBackWrData y) l = refl
left_old k NonCopyBackWrData l = refl
left_old k (Load word) l = refl
left_old k (Store word) l = refl

still_gone : (was c d free : Bool) → implies was (c && free) ≡ true → (c ≡ true → d ≡ true) → implies was (d && free) ≡ true
still_gone false c d free h g = refl
still_gone true c d free h g = both d free (g (left c free h)) (right c free h)

left_given : (k : AgentBegun) (g : Grant) (q : Option Snoop) → grant_left_over k g ≡ true → (k.asked ≡ true) × (snooped_granted g q ≡ q)
left_given k (Snp x) q l = no l
left_given k RetryAck q l = (l, refl)
left_given k (CompData x) q l = (l, refl)
left_given k CompUC q l = (l, refl)
left_given k CompSC q l = (l, refl)
left_given k CompI q l = (l, refl)
left_given k CompDBIDResp q l = (l, refl)

asked_gone : (was c d asked : Bool) → implies was (c && not asked) ≡ true → asked ≡ true → implies was (d && not asked) ≡ true
asked_gone false c d asked h l = refl
asked_gone true c d true h l = no (right c false h)
asked_gone true c d false h l = no l

asked_left : (asked : Bool) (d c e : Due) → e ≡ (if asked then left_over else d) → asked ≡ true → e ≡ (if asked then left_over else c)
asked_left true d c e h l = h
asked_left false d c e h l = no l

module _ (s : Watched) (b : Beginning) (f : CacheFlit) (above : Above s b) (well : Well s) (low : f.agent.0 < 32) (takes_it : takes s.seen f ≡ true) (late : is_left_over (b.mark f.agent.0) (Up f) ≡ true) where
  abbrev n : ℕ
  n = f.agent.0

  own : IsAbove (both_of s b n)
  own = above.agents n low

  fits_here : fits_told s.seen.public.stores f.act (lets_go (s.seen.public.snooped n)) (s.seen.public.due n) (s.seen.told n) ≡ true
  fits_here = left _ _ (right (allows f.act (s.seen.public.snooped n)) _ takes_it)

  abbrev left_both : Both
  left_both = record {
    mark = mark_forgotten (b.mark n);
    due = due_after f.act (s.seen.public.due n);
    snooped = snooped_after f.act (s.seen.public.snooped n);
    told = told_after f.act (s.seen.public.due n) (s.seen.told n) (differs s.seen f);
    kept_due = b.seen.seen.public.due n;
    kept_snooped = b.seen.seen.public.snooped n;
    kept_told = record { told = I; cancelled = (b.seen.seen.told n).cancelled };
  }

  left_above : IsAbove left_both
  left_above = record {
    due = left_due (b.mark n) f.act (s.seen.public.due n) (b.seen.seen.public.due n) own.due late;
    snooped = left_snooped (b.mark n) f.act (s.seen.public.snooped n) (b.seen.seen.public.snooped n) own.snooped late;
    told = refl;
    cancelled = still_gone (b.seen.seen.told n).cancelled (s.seen.told n).cancelled _ (not (b.mark n).asked) own.cancelled
        (λ c. cancel_stays s.seen.public.stores f.act (lets_go (s.seen.public.snooped n)) (s.seen.public.due n) (s.seen.told n) (differs s.seen f) fits_here (well.holds n low)
        (both (s.seen.told n).cancelled _ c (flip (is_request f.act) (left_old (b.mark n) f.act late))));
    stands = refl;
  }

  pub sent_before : Above (watch s (Up f)) (forgotten n b)
  sent_before = forgotten_above (watch s (Up f)) b n above.stores
      (λ m l apart. subst IsAbove (sym (λ i. record {
        mark = b.mark m;
        due = there n (due_after f.act (s.seen.public.due n)) s.seen.public.due m apart i;
        snooped = there n (snooped_after f.act (s.seen.public.snooped n)) s.seen.public.snooped m apart i;
        told = there n (told_after f.act (s.seen.public.due n) (s.seen.told n) (differs s.seen f)) s.seen.told m apart i;
        kept_due = b.seen.seen.public.due m;
        kept_snooped = b.seen.seen.public.snooped m;
        kept_told = b.seen.seen.told m;
      })) (above.agents m l))
      (λ l. subst IsAbove (sym (λ i. record {
        mark = mark_forgotten (b.mark n);
        due = here n (due_after f.act (s.seen.public.due n)) s.seen.public.due i;
        snooped = here n (snooped_after f.act (s.seen.public.snooped n)) s.seen.public.snooped i;
        told = here n (told_after f.act (s.seen.public.due n) (s.seen.told n) (differs s.seen f)) s.seen.told i;
        kept_due = b.seen.seen.public.due n;
        kept_snooped = b.seen.seen.public.snooped n;
        kept_told = record { told = I; cancelled = (b.seen.seen.told n).cancelled };
      })) left_above)

module _ (s : Watched) (b : Beginning) (g : HomeFlit) (above : Above s b) (low : g.agent.0 < 32) (late : is_left_over (b.mark g.agent.0) (Down g) ≡ true) where
  abbrev at : ℕ
  at = g.agent.0

  asker : IsAbove (both_of s b at)
  asker = above.agents at low

  late_facts : ((b.mark at).asked ≡ true) × (snooped_granted g.grant (s.seen.public.snooped at) ≡ s.seen.public.snooped at)
  late_facts = left_given (b.mark at) g.grant (s.seen.public.snooped at) late

  abbrev given_both : Both
  given_both = record {
    mark = mark_forgotten (b.mark at);
    due = due_granted g.grant (s.seen.public.due at);
    snooped = snooped_granted g.grant (s.seen.public.snooped at);
    told = told_granted g.grant (s.seen.public.due at) (s.seen.told at);
    kept_due = b.seen.seen.public.due at;
    kept_snooped = b.seen.seen.public.snooped at;
    kept_told = record { told = I; cancelled = (b.seen.seen.told at).cancelled };
  }

  given_left : IsAbove given_both
  given_left = record {
    due = asked_left (b.mark at).asked (s.seen.public.due at) (due_granted g.grant (s.seen.public.due at)) (b.seen.seen.public.due at) asker.due late_facts.0;
    snooped = asker.snooped ∙ sym (ap (snooped_kept (b.mark at).snooped) late_facts.1);
    told = refl;
    cancelled = asked_gone (b.seen.seen.told at).cancelled (s.seen.told at).cancelled _ (b.mark at).asked asker.cancelled late_facts.0;
    stands = refl;
  }

  pub given_before : Above (watch s (Down g)) (forgotten at b)
  given_before = forgotten_above (watch s (Down g)) b at above.stores
      (λ m l apart. subst IsAbove (sym (λ i. record {
        mark = b.mark m;
        due = there at (due_granted g.grant (s.seen.public.due at)) s.seen.public.due m apart i;
        snooped = there at (snooped_granted g.grant (s.seen.public.snooped at)) s.seen.public.snooped m apart i;
        told = there at (told_granted g.grant (s.seen.public.due at) (s.seen.told at)) s.seen.told m apart i;
        kept_due = b.seen.seen.public.due m;
        kept_snooped = b.seen.seen.public.snooped m;
        kept_told = b.seen.seen.told m;
      })) (above.agents m l))
      (λ l. subst IsAbove (sym (λ i. record {
        mark = mark_forgotten (b.mark at);
        due = here at (due_granted g.grant (s.seen.public.due at)) s.seen.public.due i;
        snooped = here at (snooped_granted g.grant (s.seen.public.snooped at)) s.seen.public.snooped i;
        told = here at (told_granted g.grant (s.seen.public.due at) (s.seen.told at)) s.seen.told i;
        kept_due = b.seen.seen.public.due at;
        kept_snooped = b.seen.seen.public.snooped at;
        kept_told = record { told = I; cancelled = (b.seen.seen.told at).cancelled };
      })) given_left)

-- of another line
forgets : (s : Watched) (b : Beginning) (n : ℕ) → Above s b → Above s (forgotten n b)
forgets s b n above = forgotten_above s b n above.stores (λ m l apart. above.agents m l) (λ l. let own = above.agents n l in record {
  due = own.due;
  snooped = own.snooped;
  told = refl;
  cancelled = own.cancelled;
  stands = refl;
})

-- ANY FLIT
low_is : (n : ℕ) → n < 32 → nat_lt n 32 ≡ true
low_is n h = search (rules, arith)

pub record Goes (s : Watched) (b : Beginning) (e : Flit) : Type 0 where
  pub taken : takes_begun b e ≡ true
  pub above : Above (watch s e) (begun_after b e)

late_after : (b : Beginning) (e : Flit) → is_left_over (b.mark (agent_in e)) e ≡ true → begun_after b e ≡ forgotten (agent_in e) b
late_after b e late = ap (λ (v : Bool). if v then forgotten (agent_in e) b else kept_in (agent_in e) b e) late

late_taken : (b : Beginning) (e : Flit) → agent_in e < 32 → is_left_over (b.mark (agent_in e)) e ≡ true → takes_begun b e ≡ true
late_taken b e low late = both (nat_lt (agent_in e) 32) _ (low_is (agent_in e) low) (or_first (is_left_over (b.mark (agent_in e)) e) _ late)

sent_goes : (s : Watched) (b : Beginning) (f : CacheFlit) → Above s b → Well s → Well (watch s (Up f)) → f.agent.0 < 32 → takes s.seen f ≡ true → is_judged (Up f) ≡ true → (late : Bool) → is_left_over (b.mark f.agent.0) (Up f) ≡ late → Goes s b (Up f)
sent_goes s b f above well after low takes_it judged true late = record {
  taken = late_taken b (Up f) low late;
  above = subst (λ (v : Beginning). Above (watch s (Up f)) v) (sym (late_after b (Up f) late)) (sent_before s b f above well low takes_it late);
}
sent_goes s b f above well after low takes_it judged false late =
    let taken : is_taken s (Up f) ≡ true = both (is_judged (Up f)) _ judged (both (nat_lt f.agent.0 32) _ (low_is f.agent.0 low) takes_it) in
    record { taken = sent_taken s b f above well low taken late; above = sent_above s b f above well low taken late after }

given_goes : (s : Watched) (b : Beginning) (g : HomeFlit) → Above s b → Well s → Well (watch s (Down g)) → g.agent.0 < 32 → takes_home s.seen g ≡ true → is_judged (Down g) ≡ true → has_moment s.seen s.shown g ≡ true → (late : Bool) → is_left_over (b.mark g.agent.0) (Down g) ≡ late → Goes s b (Down g)
given_goes s b g above well after low takes_it judged timed true late = record {
  taken = late_taken b (Down g) low late;
  above = subst (λ (v : Beginning). Above (watch s (Down g)) v) (sym (late_after b (Down g) late)) (given_before s b g above low late);
}
given_goes s b g above well after low takes_it judged timed false late =
    let taken : is_taken s (Down g) ≡ true = both (is_judged (Down g)) _ judged (both (nat_lt g.agent.0 32) _ (low_is g.agent.0 low) (both (has_moment s.seen s.shown g) _ timed takes_it)) in
    record { taken = given_taken s b g above well low taken late; above = given_above s b g above well low taken late after }

-- THE WHOLE TRACE
abbrev pub whole : Stores → List Flit → Watched
whole z es = record { seen = seen z es; waits = waits_by z es; shown = λ n. shown_by z es n }

holds_all : (z : Stores) (es : List Flit) → Accepted z es → (n : ℕ) → n < 32 → holds_by (is_open_clean ((seen z es).public.due n)) ((seen z es).public.due n) ((seen z es).told n) ≡ true
holds_all z [] a n low = refl
holds_all z (Up f ∷ es) a n low =
    let o = seen z es in
    let at : ℕ = f.agent.0 in
    let due : Due = due_after f.act (o.public.due at) in
    let told : Known = told_after f.act (o.public.due at) (o.told at) (differs o f) in
    split (λ m. m < 32 → holds_by (is_open_clean (put at due o.public.due m)) (put at due o.public.due m) (put at told o.told m) ≡ true) at
    (λ l. (λ i. holds_by (is_open_clean (here at due o.public.due i)) (here at due o.public.due i) (here at told o.told i))
    ∙ holds_sent o.public.stores f.act (lets_go (o.public.snooped at)) (o.public.due at) (o.told at) (differs o f) (left _ _ (right (allows f.act (o.public.snooped at)) _ a.2)) (holds_all z es a.0 at l))
    (λ m apart l. (λ i. holds_by (is_open_clean (there at due o.public.due m apart i)) (there at due o.public.due m apart i) (there at told o.told m apart i)) ∙ holds_all z es a.0 m l) n low
holds_all z (Down g ∷ es) a n low =
    let o = seen z es in
    let at : ℕ = g.agent.0 in
    let due : Due = due_granted g.grant (o.public.due at) in
    let told : Known = told_granted g.grant (o.public.due at) (o.told at) in
    split (λ m. m < 32 → holds_by (is_open_clean (put at due o.public.due m)) (put at due o.public.due m) (put at told o.told m) ≡ true) at
    (λ l. (λ i. holds_by (is_open_clean (here at due o.public.due i)) (here at due o.public.due i) (here at told o.told i))
    ∙ holds_given g.grant (o.public.due at) (o.public.snooped at) (o.told at) (left _ _ (left (home_may o.public g) _ a.2)) (holds_all z es a.0 at l))
    (λ m apart l. (λ i. holds_by (is_open_clean (there at due o.public.due m apart i)) (there at due o.public.due m apart i) (there at told o.told m apart i)) ∙ holds_all z es a.0 m l) n low

well_here : (z : Stores) (es : List Flit) → Accepted z es → Well (whole z es)
well_here z [] a = record {
  sound = (exact z [] a).sound;
  holds = holds_all z [] a;
  still = λ n low w h. no w;
}
well_here z (e ∷ es) a = record {
  sound = (exact z (e ∷ es) a).sound;
  holds = holds_all z (e ∷ es) a;
  still = λ n low w h. both (waits_by z (e ∷ es)) _ (wakes z (e ∷ es) n low w) (both (awaits_moment ((seen z (e ∷ es)).public.due n)) _ w (or_there (not (is_issue e n) && shown_by z es n) (is_moment (seen z (e ∷ es)) e n) (still_moment (seen z (e ∷ es)) e n h)));
}

same_stores : (z : Stores) (es : List Flit) → (seen z es).public.stores ≡ z
same_stores z [] = refl
same_stores z (Up f ∷ es) = same_stores z es
same_stores z (Down g ∷ es) = same_stores z es

none_some : (v : List ℕ) → None ≡ Some v → false ≡ true
none_some v h = absurd (search (rules, arith))

abbrev unknown : AgentBegun
unknown = record { copy = Unknown; asked = true; snooped = true }

abbrev first_both : Stores → List Flit → ℕ → Both
first_both z es n = record {
  mark = unknown;
  due = (seen z es).public.due n;
  snooped = (seen z es).public.snooped n;
  told = (seen z es).told n;
  kept_due = left_over;
  kept_snooped = None;
  kept_told = record { told = I; cancelled = false };
}

first_above : (z : Stores) (es : List Flit) (n : ℕ) → IsAbove (first_both z es n)
first_above z es n = record { due = refl; snooped = refl; told = refl; cancelled = refl; stands = refl }

true_last : (b : Bool) → implies b true ≡ true
true_last true = refl
true_last false = refl

begins_above : (z : Stores) (es : List Flit) → Above (whole z es) (nothing_begun z)
begins_above z es = record {
  stores = sym (same_stores z es);
  agents = λ n low. subst IsAbove (sym (λ i. record {
    mark = mark_is n low i;
    due = (seen z es).public.due n;
    snooped = (seen z es).public.snooped n;
    told = (seen z es).told n;
    kept_due = (agent_is n low i).due;
    kept_snooped = (agent_is n low i).snooped;
    kept_told = record { told = (agent_is n low i).told; cancelled = (agent_is n low i).cancelled };
  })) (first_above z es n);
  duty = true_last (seen z es).public.duty;
  current = true_last (seen z es).current;
  words = λ v h. no (none_some v h);
  waits = λ n low h w. refl;
  shown = λ n low h c w. no (sym (sym (ap (λ (k : AgentBegun). k.asked) (mark_is n low)) ∙ h));
}
  where
    mark_is : (n : ℕ) → n < 32 → (nothing_begun z).mark n ≡ unknown
    mark_is n low = get_or-replicate 32 n unknown unmarked low

    agent_is : (n : ℕ) → n < 32 → agent_of (replicate 32 (record { told = I; cancelled = false; due = left_over; snooped = None })) n ≡ record { told = I; cancelled = false; due = left_over; snooped = None }
    agent_is n low = get_or-replicate 32 n (record { told = I; cancelled = false; due = left_over; snooped = None }) nobody low

-- ITS TAIL
goes_on : (z : Stores) (e : Flit) (es : List Flit) (b : Beginning) → Accepted z (e ∷ es) → Above (whole z es) b → Goes (whole z es) b e
goes_on z (Up f) es b a above = sent_goes (whole z es) b f above (well_here z es a.0) (well_here z (Up f ∷ es) a) a.1 a.2 a.3 (is_left_over (b.mark f.agent.0) (Up f)) refl
goes_on z (Down g) es b a above = given_goes (whole z es) b g above (well_here z es a.0) (well_here z (Down g ∷ es) a) a.1 a.2 a.3 a.4 (is_left_over (b.mark g.agent.0) (Down g)) refl

still_accepted : (z : Stores) (e : Flit) (es : List Flit) → Accepted z (e ∷ es) → Accepted z es
still_accepted z (Up f) es a = a.0
still_accepted z (Down g) es a = a.0

low_agent : (z : Stores) (e : Flit) (es : List Flit) → Accepted z (e ∷ es) → agent_in e < 32
low_agent z (Up f) es a = a.1
low_agent z (Down g) es a = a.1

watched_on : (z : Stores) (e : Flit) (es : List Flit) (b : Beginning) → Above (watch (whole z es) e) b → Above (whole z (e ∷ es)) b
watched_on z (Up f) es b above = above
watched_on z (Down g) es b above = above

-- what is missed is forgotten, as it would be where it is seen
may_be_left : (k : AgentBegun) (e : Flit) → is_left_over k e ≡ true → (k.asked || k.snooped) ≡ true
may_be_left k (Up f) h = by f.act h
  where
    by : (a : Act) → act_left_over k a ≡ true → (k.asked || k.snooped) ≡ true
    by (Request y) h = no h
    by (Resend y) h = no h
    by (SnpResp y) h = or_there k.asked k.snooped h
    by CompAck h = or_first k.asked k.snooped h
    by (CopyBackWrData y) h = or_first k.asked k.snooped h
    by NonCopyBackWrData h = or_first k.asked k.snooped h
    by (Load word) h = no h
    by (Store word) h = no h
may_be_left k (Down g) h = or_first k.asked k.snooped (by g.grant h)
  where
    by : (g : Grant) → grant_left_over k g ≡ true → k.asked ≡ true
    by (Snp x) h = no h
    by RetryAck h = h
    by (CompData x) h = h
    by CompUC h = h
    by CompSC h = h
    by CompI h = h
    by CompDBIDResp h = h

missed_is : (b : Beginning) (e : Flit) → agent_in e < 32 → is_left_over (b.mark (agent_in e)) e ≡ true → forgetting (agent_in e) b ≡ begun_after b e
missed_is b e low late = ap (λ (v : Bool). if v then forgotten (agent_in e) b else b) (both (nat_lt (agent_in e) 32) _ (low_is (agent_in e) low) (may_be_left (b.mark (agent_in e)) e late)) ∙ sym (late_after b e late)

elsewhere : (s : Watched) (b : Beginning) (n : ℕ) → Above s b → (v : Bool) → Above s (if v then forgotten n b else b)
elsewhere s b n above true = forgets s b n above
elsewhere s b n above false = above

stands_above : (z : Stores) (cs : List Call) (before : List Flit) → MayMiss z cs → Accepted z (flits_of cs ++ before) → AreTaken z cs × Above (whole z (flits_of cs ++ before)) (begun_by z cs)
stands_above z [] before m a = (tt, begins_above z before)
stands_above z (Taken e ∷ cs) before m a =
    let rest = stands_above z cs before m (still_accepted z e (flits_of cs ++ before) a) in
    let goes = goes_on z e (flits_of cs ++ before) (begun_by z cs) a rest.1 in
    ((rest.0, goes.taken), watched_on z e (flits_of cs ++ before) (begun_after (begun_by z cs) e) goes.above)
stands_above z (Missed e ∷ cs) before m a =
    let rest = stands_above z cs before m.0 (still_accepted z e (flits_of cs ++ before) a) in
    let goes = goes_on z e (flits_of cs ++ before) (begun_by z cs) a rest.1 in (
      rest.0,
      watched_on z e (flits_of cs ++ before) (forgetting (agent_in e) (begun_by z cs))
          (subst (λ (v : Beginning). Above (watch (whole z (flits_of cs ++ before)) e) v) (sym (missed_is (begun_by z cs) e (low_agent z e (flits_of cs ++ before) a) m.1)) goes.above),
    )
stands_above z (Elsewhere n ∷ cs) before m a =
    let rest = stands_above z cs before m a in
    (rest.0, elsewhere (whole z (flits_of cs ++ before)) (begun_by z cs) n rest.1 (nat_lt n 32 && (((begun_by z cs).mark n).asked || ((begun_by z cs).mark n).snooped)))

pub taken : TailsAreTaken
taken z cs m tail = (stands_above z cs tail.0 m (accepted z (flits_of cs ++ tail.0) tail.1)).0

impossible : false ≡ true → ⊥
impossible h = search (rules, arith)

pub refused : RefusedIsNoTail
refused z e cs m h tail = impossible (sym h ∙ (taken z (Taken e ∷ cs) m tail).1)
